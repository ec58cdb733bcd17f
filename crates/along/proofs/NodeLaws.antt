-- How the jobs by node are found, one after the other, and the partners of a set.
use mathlib.Core.Path.{◌≡◌, refl, sym, ap, ◌∙◌, subst}
use mathlib.Core.Bool.{Bool, true, false, cond}
use mathlib.Core.List.{List}
use Prim.Native.Nat.{ℕ, max, ◌+◌, ◌^◌, ◌<◌, ◌≤◌}
use native.Mathlib.Numerals.{add-one}
use native.Mathlib.Omega.{arith}
use lib.Dec.{eqb}
use lib.ListN.{get_or, set, replicate, length, length-set}
use lib.Seq.{get_or-set_same, get_or-set_other}
use borrow.Author.Tests.{eqb-true, eqb-false}
use Rattle.laws.proofs.Logic.{decided}
use Rattle.laws.specs.Basic.{peak}
use Rattle.laws.proofs.Sum.{sum-none, sum-next}
use Rattle.laws.proofs.Peak.{peak-next}
use Rattle.rules.specs.Load.{load_of}
use Rattle.bits.specs.Places.{has, with, without, lowest}
use Rattle.bits.proofs.Members.{has-none, has-low, false-true, with-same, with-other, without-fits, without-part, without_other}
use Rattle.bits.proofs.Masks.{lowest-has}
use Rattle.rules.specs.declared.Job.{Job}
use Rattle.rules.specs.declared.Job.TheVariants.{Clean, Soiled, Transfer}
use Rattle.day.specs.Seen.{Placed}
use Rattle.along.specs.Nodes.{clean_load, soiled_load, first_load, second_load, mate_or, mate_in, Entered, ByNode, Mates}
use Rattle.laws.proofs.Table.{same_entries}

-- ---- all of them

pub nodes-none : (g : ℕ → Job) → ByNode g 0 (replicate 321 0)
unfolding mate_in peak
nodes-none g = record {
  long = refl;
  low = λ i. omega (arith, same_entries 0 321 i);
  near = λ x h. omega (arith, same_entries 0 321 (256 + x));
  clean = λ x h. same_entries 0 321 x ∙ sym (sum-none _);
  soiled = λ x h. same_entries 0 321 (64 + x) ∙ sym (sum-none _);
  first = λ x h. same_entries 0 321 (128 + x) ∙ sym (sum-none _);
  second = λ x h. same_entries 0 321 (192 + x) ∙ sym (sum-none _);
  partner = λ x h. same_entries 0 321 (256 + x);
  heaviest = same_entries 0 321 320;
}

mate-low : (x y : ℕ) (q : Job) → Placed q → y < 64 → mate_or x y q < 64
mate-low x y (Clean a w) p h = h
mate-low x y (Soiled a w) p h = h
mate-low x y (Transfer a b w) p h = go (eqb x b) (eqb x a)
  where
    go : (u v : Bool) → cond u a (cond v b y) < 64
    go true v = p.0
    go false true = p.1
    go false false = h

-- with the most that one loads written, too
pub nodes-next : {g : ℕ → Job} {j : ℕ} {t r : List ℕ} {q : Job} {top : ℕ} → q ≡ g j → Placed q → load_of q ≤ 1000 → top ≡ max (get_or r 320 0) (load_of q)
    → Entered q t r → ByNode g j t → ByNode g (j + 1) (set r 320 top)
unfolding mate_in
nodes-next {g} {j} {t} {r} {q} {top} is placed light h e p = record {
  long = length-set r 320 top ∙ e.long;
  low = λ i. decided (eqb i 320) (λ z. rw (eqb-true i 320 z) (omega (arith, get_or-set_same r 320 top 0 inside, h, e.most, p.low 320, light)))
      (λ z. omega (arith, get_or-set_other r 320 i top 0 (eqb-false i 320 z), e.low i, p.low i));
  near = λ x l. subst (λ (n : ℕ). n < 64) (sym (kept (256 + x) (omega arith) ∙ e.partner x l)) (mate-low x (get_or t (256 + x) 0) q placed (p.near x l));
  clean = λ x l. kept x (omega arith) ∙ e.clean x l ∙ sum-next j (λ k. clean_load x (g k)) (p.clean x l) (ap (clean_load x) is);
  soiled = λ x l. kept (64 + x) (omega arith) ∙ e.soiled x l ∙ sum-next j (λ k. soiled_load x (g k)) (p.soiled x l) (ap (soiled_load x) is);
  first = λ x l. kept (128 + x) (omega arith) ∙ e.first x l ∙ sum-next j (λ k. first_load x (g k)) (p.first x l) (ap (first_load x) is);
  second = λ x l. kept (192 + x) (omega arith) ∙ e.second x l ∙ sum-next j (λ k. second_load x (g k)) (p.second x l) (ap (second_load x) is);
  partner = λ x l. kept (256 + x) (omega arith) ∙ e.partner x l ∙ (λ u. mate_or x (p.partner x l u) (is u)) ∙ ap (λ (k : ℕ). mate_in g k x) (sym (add-one j));
  heaviest = get_or-set_same r 320 top 0 inside ∙ h ∙ (λ u. max ((e.most ∙ p.heaviest) u) (load_of (is u))) ∙ sym (peak-next (λ k. load_of (g k)) j);
}
  where
    inside : 320 < length r
    inside = omega (arith, e.long)

    kept : (i : ℕ) → i < 320 → get_or (set r 320 top) i 0 ≡ get_or r i 0
    kept i l = get_or-set_other r 320 i top 0 (λ z. omega (arith, z))

-- ---- the partners of a set

-- the partners of the members that are not left
pub record Named (t : List ℕ) (members left word : ℕ) : Type 0 where
  pub fits : left < 2 ^ 64
  pub part : (x : ℕ) → has left x ≡ true → has members x ≡ true
  pub sound : (y : ℕ) → has word y ≡ true → (x : ℕ) × (has members x ≡ true) × (get_or t (256 + x) 0 ≡ y)
  pub full : (x : ℕ) → has members x ≡ true → has left x ≡ false → has word (get_or t (256 + x) 0) ≡ true

pub named_none : {t : List ℕ} {members : ℕ} → members < 2 ^ 64 → Named t members members 0
named_none f = record {
  fits = f;
  part = λ x h. h;
  sound = λ y h. absurd (false-true (sym (has-none y) ∙ h));
  full = λ x h n. absurd (false-true (sym n ∙ h));
}

kept : (w p y : ℕ) → p < 64 → has w y ≡ true → has (with w p) y ≡ true
kept w p y l h = decided (eqb y p) (λ e. rw (eqb-true y p e) (with-same w p l)) (λ e. with-other w p y (eqb-false y p e) ∙ h)

pub named-low : {t : List ℕ} {members left word x : ℕ} → 0 < left → Named t members left word → x ≡ lowest left → x < 64
named-low {left = left} {x = x} some p e = has-low left x p.fits (ap (has left) e ∙ lowest-has left some p.fits)

-- the least of those that are left, x, is named next
pub named-next : {t : List ℕ} {members left word x rest next : ℕ} → 0 < left → ((x : ℕ) → x < 64 → get_or t (256 + x) 0 < 64) → Named t members left word
    → x ≡ lowest left → rest ≡ without left x → next ≡ with word (get_or t (256 + x) 0) → Named t members rest next
named-next {t} {members} {left} {word} {x} some near p e f g = rw (f, g) (record {
  fits = without-fits left x p.fits;
  part = λ z h. p.part z (without-part left x z h);
  sound = λ z h. decided (eqb z y) (λ q. (x, p.part x here, sym (eqb-true z y q))) (λ q. p.sound z (sym (with-other word y z (eqb-false z y q)) ∙ h));
  full = λ z h n. decided (eqb z x) (λ q. rw (eqb-true z x q) (with-same word y low))
      (λ q. kept word y (get_or t (256 + z) 0) low (p.full z h (sym (without_other left x z (eqb-false z x q)) ∙ n)));
})
  where
    y : ℕ
    y = get_or t (256 + x) 0

    here : has left x ≡ true
    here = ap (has left) e ∙ lowest-has left some p.fits

    low : y < 64
    low = near x (named-low some p e)

pub named-all : {t : List ℕ} {members word : ℕ} → Named t members 0 word → Mates t members word
named-all p = record { sound = p.sound; full = λ x h. p.full x h (has-none x) }
