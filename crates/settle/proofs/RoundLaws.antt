-- The places that window, metres and the jobs leave, taken together, are those of a round of settling.
use mathlib.Core.Path.{◌≡◌, refl, sym, ap, ◌∙◌, subst}
use mathlib.Core.Bool.{Bool, true, false, not, ◌&&◌, ◌||◌}
use mathlib.Core.List.{List}
use Prim.Native.Nat.{ℕ, ◌+◌, ◌<◌, ◌≤◌}
use native.Mathlib.Numerals.{add-one}
use native.Mathlib.Omega.{arith}
use lib.Dec.{ltb, eqb}
use lib.ListN.{get_or, set, take, length, length-set}
use lib.Seq.{ext_get_or, get_or-set_same, get_or-set_other}
use lib.IntN.{ℤ}
use borrow.Author.Tests.{eqb-true, eqb-false, eq-eqb, ltb-true, ltb-false}
use Rattle.laws.proofs.Logic.{decided}
use Rattle.laws.specs.Basic.{all_below}
use Rattle.rules.specs.Day.{Day}
use Rattle.rules.specs.declared.Job.{Job}
use Rattle.rules.specs.declared.Job.TheVariants.{Clean, Soiled, Transfer}
use Rattle.day.specs.Seen.{Placed}
use Rattle.walks.specs.Walks.{Kept, Legs}
use Rattle.walks.proofs.WalkLaws.{kept-once, kept_same, kept-both, kept-all, kept-pass, kept-zero}
use Rattle.settle.specs.declared.strike.Pass.{Pass}
use Rattle.gaps.specs.Gaps.{stands_at}
use Rattle.settle.specs.Round.{Kepts, at_node, ride_of, node_of, load_leaves, pair_leaves, mixed_leaves, jobs_leave}

-- `strike::strike_pairs`
pub kepts-once : {l : List ℕ} {legs : ℕ} {f : ℕ → ℕ → Bool} {ws us vs : List ℕ} → Kepts l legs f ws us → Kepts l legs f ws vs → us ≡ vs
kepts-once {us = us} {vs} a b = ext_get_or 0 us vs (a.long ∙ sym b.long) (λ y h. kept-once (a.at y) (b.at y))

pub kepts-all : {l : List ℕ} {legs : ℕ} {f : ℕ → ℕ → Bool} {ws : List ℕ} → length ws ≡ 64 → ((y i : ℕ) → i < legs → f y i ≡ true) → Kepts l legs f ws ws
kepts-all n e = record { long = n; at = λ y. kept-pass (λ i a b. e y i b) }

pub kepts-one : {l : List ℕ} {legs : ℕ} {g : ℕ → Bool} {ws : List ℕ} {v : ℕ} (x : ℕ) → length ws ≡ 64 → x < 64 → Kept l 0 legs g (get_or ws x 0) v
    → Kepts l legs (at_node x g) ws (set ws x v)
kepts-one {l} {legs} {g} {ws} {v} x n h k = record { long = length-set ws x v ∙ n; at = λ y. go y (eqb x y) refl }
  where
    go : (y : ℕ) (c : Bool) → eqb x y ≡ c → Kept l 0 legs (λ i. not (eqb x y) || g i) (get_or ws y 0) (get_or (set ws x v) y 0)
    go y true e = let q = eqb-true x y e in
        rw (← q, get_or-set_same ws x v 0 (omega arith)) (kept_same (λ i a b. ap (λ (c : Bool). not c || g i) (sym (eq-eqb x x refl))) k)
    go y false e = let q = eqb-false x y e in
        rw (get_or-set_other ws x y v 0 (λ z. q (sym z))) (kept-all (λ i. ap (λ (c : Bool). not c || g i) e))

pub kepts-both : {l : List ℕ} {legs : ℕ} {f g : ℕ → ℕ → Bool} {ws us vs : List ℕ} → Kepts l legs f ws us → Kepts l legs g us vs
    → Kepts l legs (λ y i. f y i && g y i) ws vs
kepts-both a b = record { long = b.long; at = λ y. kept-both (a.at y) (b.at y) }

pub kepts-same : {l : List ℕ} {legs : ℕ} {f g : ℕ → ℕ → Bool} {ws vs : List ℕ} → ((y i : ℕ) → i < legs → f y i ≡ g y i) → Kepts l legs f ws vs
    → Kepts l legs g ws vs
kepts-same e a = record { long = a.long; at = λ y. kept_same (λ i m n. e y i n) (a.at y) }

-- ---- a loop over the words

-- the words below x are done, the others are as they were
pub record Upto (l : List ℕ) (legs : ℕ) (f : ℕ → ℕ → Bool) (ws : List ℕ) (x : ℕ) (vs : List ℕ) : Type 0 where
  pub long : length vs ≡ 64
  pub at : (y : ℕ) → y < x → Kept l 0 legs (f y) (get_or ws y 0) (get_or vs y 0)
  pub rest : (y : ℕ) → x ≤ y → get_or vs y 0 ≡ get_or ws y 0

pub upto-more : {l : List ℕ} {legs : ℕ} {f : ℕ → ℕ → Bool} {ws : List ℕ} {x : ℕ} {vs : List ℕ} {v : ℕ} → x < 64 → Upto l legs f ws x vs
    → Kept l 0 legs (f x) (get_or ws x 0) v
    → Upto l legs f ws (x + 1) (set vs x v)
upto-more {l} {legs} {f} {ws} {x} {vs} {v} h a k = record {
  long = length-set vs x v ∙ a.long;
  at = λ y m. go y m (eqb x y) refl;
  rest = λ y m. get_or-set_other vs x y v 0 (λ e. absurd (omega arith)) ∙ a.rest y (omega arith);
}
  where
    go : (y : ℕ) → y < x + 1 → (c : Bool) → eqb x y ≡ c → Kept l 0 legs (f y) (get_or ws y 0) (get_or (set vs x v) y 0)
    go y m true e = let q = eqb-true x y e in rw (← q, get_or-set_same vs x v 0 (omega (arith, a.long))) k
    go y m false e = let q = eqb-false x y e in rw (get_or-set_other vs x y v 0 (λ z. q (sym z))) (a.at y (omega (arith, q)))

-- done with all nodes: the others have no place
pub upto_all : {l : List ℕ} {legs : ℕ} {f : ℕ → ℕ → Bool} {ws : List ℕ} {x : ℕ} {vs : List ℕ} → ((y : ℕ) → x ≤ y → get_or ws y 0 ≡ 0) → Upto l legs f ws x vs
    → Kepts l legs f ws vs
upto_all {l} {legs} {f} {ws} {x} {vs} n a =
    record { long = a.long; at = λ y. decided (ltb y x) (λ e. a.at y (ltb-true y x e)) (λ e. out y (ltb-false y x e)) }
  where
    out : (y : ℕ) → x ≤ y → Kept l 0 legs (f y) (get_or ws y 0) (get_or vs y 0)
    out y q = subst (λ (v : ℕ). Kept l 0 legs (f y) (get_or ws y 0) v) (sym (a.rest y q ∙ n y q)) (kept-zero (n y q))

pub legs-load : {l h : List ℕ} (p : Pass) {a b : ℕ} → b < 4294967296 → Legs l h (ride_of p a) → Legs l h (ride_of p b)
legs-load p e g = record { long = g.long; wide = g.wide; few = g.few; low = e; high = g.high; loads = g.loads; nodes = g.nodes }

pub placed-node : (q : Job) → Placed q → node_of q < 64
placed-node (Clean a w) h = h
placed-node (Soiled a w) h = h
placed-node (Transfer a b w) h = h.0

pub jobs-none : {l : List ℕ} {legs : ℕ} {ws : List ℕ} (f : Job → ℕ → ℕ → Bool) (g : ℕ → Job) → length ws ≡ 64 → Kepts l legs (jobs_leave f g 0) ws ws
unfolding jobs_leave all_below
jobs-none f g n = kepts-all n (λ y i b. refl)

pub jobs-more : {l : List ℕ} {legs : ℕ} {ws us vs : List ℕ} (f : Job → ℕ → ℕ → Bool) (g : ℕ → Job) (j : ℕ) {q : Job} → q ≡ g j
    → Kepts l legs (jobs_leave f g j) ws us → Kepts l legs (f q) us vs → Kepts l legs (jobs_leave f g (j + 1)) ws vs
unfolding jobs_leave all_below
jobs-more f g j {q} e a b = rw (add-one j) (kepts-same (λ y i n. λ u. all_below j (λ k. f (g k) y i) && f (e u) y i) (kepts-both a b))

-- what the first round leaves, from arrays
abbrev pub place_left : Day → (ℕ → Job) → ℕ → Pass → List ℕ → List ℕ → List ℤ → List ℕ → ℕ → ℕ → ℕ → Bool
place_left d g m p ws l z h total y i =
    ((jobs_leave (pair_leaves ws l h p) g m y i && mixed_leaves d (take p.stops l) y i) && stands_at d p.van.limit l z total y i)
    && jobs_leave (load_leaves h p) g m y i
