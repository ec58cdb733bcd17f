-- Distinct nodes: of a part of a list, and behind and ahead of a cut.
use Prim.Native.Nat.{ℕ}
use mathlib.Core.Bool.{false, not}
use mathlib.Core.List.{List, [], ◌∷◌}
use lib.Dec.{T, eqb}
use Rattle.laws.proofs.Logic.{not-or-r, contra, not-or-i}
use Rattle.laws.proofs.Lists.{Sub, nil, keep, skip, mem-sub, mem-hd, mem-tl, mem-ne}
use Rattle.laws.specs.Basic.{mem}
use Rattle.rules.specs.Plan.{Places}
use Rattle.rules.specs.Rounds.{Distinct, more, Within, done, stop, extra, none}
use Rattle.rules.proofs.Cuts.{Cut, same, move}

pub distinct_tail : {n x : ℕ} {l : List ℕ} → Distinct n (x ∷ l) → Distinct n l
distinct_tail (more a b g) = g

pub distinct-off : {n x : ℕ} {l : List ℕ} → Distinct n (x ∷ l) → T (not (mem x l))
distinct-off (more a b g) = b

-- the second node taken out
pub distinct-skip : {n x y : ℕ} {l : List ℕ} → Distinct n (x ∷ y ∷ l) → Distinct n (x ∷ l)
distinct-skip {x = x} {y = y} {l = l} (more a b (more c d g)) = more a (not-or-r (eqb y x) (mem x l) b) g

pub off-sub : (x : ℕ) {l m : List ℕ} → Sub l m → T (not (mem x m)) → T (not (mem x l))
off-sub x {l} {m} u = contra (mem x l) (mem x m) (mem-sub x u)

pub distinct-sub : {n : ℕ} {l m : List ℕ} → Sub l m → Distinct n m → Distinct n l
distinct-sub nil g = g
distinct-sub (keep {x = x} u) (more a b g) = more a (off-sub x u b) (distinct-sub u g)
distinct-sub (skip u) (more a b g) = distinct-sub u g

-- the route's rest is a subsequence of the round's
pub within-sub : {o : Places} {p : ℕ} {r R : List ℕ} → Within o p r R → Sub r R
within-sub done = nil
within-sub (stop w) = keep (within-sub w)
within-sub (extra h w) = skip (within-sub w)

-- ---- distinct nodes at a cut

distinct-cut : {n : ℕ} {A B A' B' : List ℕ} → Cut A B A' B' → Distinct n A → Distinct n B → ((y : ℕ) → T (mem y B) → T (not (mem y A)))
    → Distinct n A' × ((y : ℕ) → T (mem y B') → T (not (mem y A')))
distinct-cut same f g h = (f, h)
distinct-cut {A = A} (move {k = k} {B = B} c) f (more a b g) h =
    distinct-cut c (more a (h k (mem-hd k B)) f) g (λ y m. not-or-i (eqb k y) (mem y A) (mem-ne k y B b m) (h y (mem-tl y k B m)))

-- the stops behind are distinct, and none of them is ahead
pub distinct-behind : {n z : ℕ} {R A B : List ℕ} → Distinct n (z ∷ R) → Cut (z ∷ []) R A B → Distinct n A × ((y : ℕ) → T (mem y B) → T (not (mem y A)))
distinct-behind {z = z} {R = R} (more a b g) c = distinct-cut c (more a tt none) g (λ y m. not-or-i (eqb z y) false (mem-ne z y R b m) tt)

pub distinct-ahead : {n : ℕ} {A B A' B' : List ℕ} → Distinct n B → Cut A B A' B' → Distinct n B'
distinct-ahead g same = g
distinct-ahead (more a b g) (move c) = distinct-ahead g c
