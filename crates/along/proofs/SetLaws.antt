-- An array of words that has given places is the one, and words one after the other.
use mathlib.Core.Path.{◌≡◌, refl, sym, ap, ◌∙◌}
use mathlib.Core.Bool.{Bool, true, false, cond, ◌&&◌}
use mathlib.Core.List.{List}
use Prim.Native.Nat.{ℕ, zero, suc, ◌^◌, ◌<◌, ◌≤◌}
use native.Mathlib.Omega.{arith}
use lib.Dec.{T, eqb, ltb}
use lib.ListN.{get_or, length, get_or-eq_default}
use lib.Seq.{ext_get_or}
use lib.Pow.{pow_pos}
use borrow.Author.Tests.{eqb-true, eqb-false, ltb-true, ltb-false, lt-ltb, le-ltb}
use Rattle.laws.proofs.Logic.{decided, true→T}
use Rattle.laws.proofs.Table.{length-tab, get_or-tab}
use Rattle.laws.specs.Basic.{tab}
use Rattle.bits.specs.Places.{has, with, without, lowest}
use Rattle.bits.proofs.Members.{has-none, with-same, with-other, without-yes, word-ext}
use Rattle.bits.proofs.Masks.{lowest-has}
use Rattle.rules.specs.Plan.{Places}
use Rattle.along.specs.Sets.{places_in, word_from, sets_of}

-- ---- an array of words that has the places o is theirs

word_more : (f : ℕ → Bool) (k w p : ℕ) → k < 64 → has w k ≡ false → has w p ≡ (ltb p k && f p) → has (cond (f k) (with w k) w) p ≡ (ltb p (suc k) && f p)
word_more f k w p h new ih = decided (eqb p k) (λ e. here (eqb-true p k e)) (λ e. there (eqb-false p k e))
  where
    here : p ≡ k → has (cond (f k) (with w k) w) p ≡ (ltb p (suc k) && f p)
    here e = rw (e, lt-ltb k (suc k) (omega arith)) (decided (f k) (λ t. rw t (with-same w k h)) (λ t. rw t new))

    there : (p ≡ k → ⊥) → has (cond (f k) (with w k) w) p ≡ (ltb p (suc k) && f p)
    there n = go (f k) ∙ ih ∙ ap (λ (b : Bool). b && f p) same
      where
        go : (b : Bool) → has (cond b (with w k) w) p ≡ has w p
        go true = with-other w k p n
        go false = refl

        same : ltb p k ≡ ltb p (suc k)
        same =
            decided (ltb p k) (λ t. t ∙ sym (lt-ltb p (suc k) (omega (arith, ltb-true p k t))))
            (λ t. t ∙ sym (le-ltb p (suc k) (omega (arith, ltb-false p k t, n))))

word-has : (k : ℕ) (f : ℕ → Bool) (p : ℕ) → k ≤ 64 → has (word_from k f) p ≡ (ltb p k && f p)
unfolding word_from
word-has zero f p h = has-none p ∙ sym (ap (λ (b : Bool). b && f p) (le-ltb p 0 (omega arith)))
word-has (suc k) f p h =
    word_more f k (word_from k f) p h (word-has k f k (omega arith) ∙ ap (λ (b : Bool). b && f k) (le-ltb k k (omega arith))) (word-has k f p (omega arith))

-- the words of an array that has the places o, none past 63
pub sets-ext : (ws : List ℕ) (o : Places) → length ws ≡ 64 → ((x p : ℕ) → places_in ws x p ≡ o x p) → ((x p : ℕ) → 64 ≤ p → o x p ≡ false) → ws ≡ sets_of o
unfolding sets_of
sets-ext ws o n e far =
    ext_get_or 0 ws (tab 64 (λ x. word_from 64 (o x))) (n ∙ sym (length-tab 64 (λ x. word_from 64 (o x))))
    (λ x h. word-ext (get_or ws x 0) (word_from 64 (o x)) (λ p. e x p ∙ sym (word-has 64 (o x) p (omega arith) ∙ inside x p)) ∙ sym (get_or-tab 64 (λ x. word_from 64 (o x)) 0 x (omega arith)))
  where
    inside : (x p : ℕ) → (ltb p 64 && o x p) ≡ o x p
    inside x p = decided (ltb p 64) (λ t. ap (λ (b : Bool). b && o x p) t) (λ t. ap (λ (b : Bool). b && o x p) t ∙ sym (far x p (ltb-false p 64 t)))

-- ---- places of nodes and legs below 64 are those of their words

abbrev pub Narrow : Places → Type 0
Narrow o = (x p : ℕ) → T (o x p) → (x < 64) × (p < 64)

pub length-sets : (o : Places) → length (sets_of o) ≡ 64
unfolding sets_of
length-sets o = length-tab 64 (λ x. word_from 64 (o x))

pub places-sets : (o : Places) → Narrow o → (x p : ℕ) → places_in (sets_of o) x p ≡ o x p
unfolding sets_of
places-sets o small x p = decided (ltb x 64) (λ t. near (ltb-true x 64 t)) (λ t. far (ltb-false x 64 t))
  where
    shut : (x < 64 → p < 64 → ⊥) → o x p ≡ false
    shut n = decided (o x p) (λ t. let s = small x p (true→T _ t) in absurd (n s.0 s.1)) (λ t. t)

    near : x < 64 → places_in (tab 64 (λ x. word_from 64 (o x))) x p ≡ o x p
    near h = ap (λ (w : ℕ). has w p) (get_or-tab 64 (λ x. word_from 64 (o x)) 0 x h) ∙ word-has 64 (o x) p (omega arith)
        ∙ decided (ltb p 64) (λ t. ap (λ (b : Bool). b && o x p) t) (λ t. ap (λ (b : Bool). b && o x p) t ∙ sym (shut (λ a b. omega (arith, ltb-false p 64 t))))

    far : 64 ≤ x → places_in (tab 64 (λ x. word_from 64 (o x))) x p ≡ o x p
    far h =
        ap (λ (w : ℕ). has w p) (get_or-eq_default (tab 64 (λ x. word_from 64 (o x))) 0 {n = x} (omega (arith, length-tab 64 (λ x. word_from 64 (o x)))))
        ∙ has-none p
        ∙ sym (shut (λ a b. omega arith))

-- ---- the words one after the other, and the places of one

-- a number that is no node has no place
pub past : (ws : List ℕ) (y : ℕ) → length ws ≡ 64 → 64 ≤ y → get_or ws y 0 ≡ 0
past ws y n h = get_or-eq_default ws 0 {n = y} (omega arith)

-- taking the least place out makes the word smaller
pub rest-less : (w : ℕ) → 0 < w → w < 2 ^ 64 → without w (lowest w) < w
rest-less w z f = omega (arith, without-yes w (lowest w) (lowest-has w z f), pow_pos (lowest w))
