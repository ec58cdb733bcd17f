-- Which rounds belong to a fresh plan: those of the day whose wards the van may serve. And over several fresh vans: the sets that share no ward.
use mathlib.Core.Path.{◌≡◌, subst, sym}
use Prim.Native.Nat.{ℕ, ◌≤◌, ◌<◌}
use native.Mathlib.Omega.{arith}
use mathlib.Core.Bool.{Bool, false, ◌&&◌}
use mathlib.Core.List.{List, [], ◌∷◌}
use mathlib.Core.Logic.{◌⊎◌, inl, inr, ⊎_elim, ◌↔◌}
use lib.Dec.{T, eqb, eqb→eq}
use Rattle.laws.proofs.Logic.{and_i, and_l, and_r, or-e}
use Rattle.laws.proofs.Lists.{mem-in, mem-sub, mem-hd, mem-tl}
use Rattle.laws.specs.Basic.{mem}
use Rattle.rules.specs.Day.{Day, inner}
use Rattle.rules.specs.Plan.{Places, fresh}
use Rattle.rules.specs.Rounds.{Within, done, stop, extra, Inside, both, Belongs}
use Rattle.rules.specs.Every.{RoundOf}
use Rattle.rules.specs.Fleet.{BelongAll, ShareNone, MayAll}
use Rattle.rules.proofs.Inner.{inner-low}
use Rattle.rules.proofs.EveryRound.{less-sub, Tail, last, next, round-tail}
use Rattle.rules.proofs.Forms.{fresh-plan-formed}
use Rattle.rules.proofs.Counted.{belongs-round}

-- between a stop and the last one each node has an open place at that stop
within-open : {o : Places} {p k : ℕ} {R : List ℕ} (x : ℕ) → Within o p (k ∷ []) R → T (mem x R) → (k ≡ x) ⊎ T (o x p)
within-open {k = k} x (stop done) h = ⊎_elim (λ e. inl (eqb→eq k x e)) (λ f. absurd f) (or-e (eqb k x) false h)
within-open {o = o} {p = p} x (extra {x = y} {R = R} t w) h =
    ⊎_elim (λ e. inr (subst (λ (m : ℕ). T (o m p)) (eqb→eq y x e) t)) (within-open x w) (or-e (eqb y x) (mem x R) h)

-- and if each has, the round runs through
tail_within : {o : Places} {p e : ℕ} {l t : List ℕ} → Tail e l t → ((x : ℕ) → T (mem x l) → T (mem x t) → T (o x p)) → Within o p (e ∷ []) t
tail_within last f = stop done
tail_within (next {x = x} {l = l} {t = t} m u) f =
    extra (f x m (mem-hd x t)) (tail_within u (λ y i j. f y (mem-sub y (less-sub x l) i) (mem-tl y x t j)))

module _ (d : Day) (may : ℕ → Bool) (two : 2 ≤ d.n) where
  -- a ward of a round inside the fresh route may be served
  served : {R : List ℕ} (x : ℕ) → Inside (fresh d may).places (fresh d may).route R → T (mem x (inner d)) → T (mem x R) → T (may x)
  served x (both {R = R} w) n h =
      let low = inner-low d (mem-in x (inner d) n) in
      ⊎_elim (λ e. let q = eqb→eq 0 x e in absurd (omega (arith, q, low)))
      (λ m. ⊎_elim (λ e. absurd (omega (arith, e, low))) (λ t. and_r (mem x (inner d)) (may x) (and_l (mem x (inner d) && may x) (eqb 0 0) t)) (within-open x w m))
      (or-e (eqb 0 x) (mem x R) h)

  inside : (R : List ℕ) → RoundOf d R → ((x : ℕ) → T (mem x (inner d)) → T (mem x R) → T (may x)) → Inside (fresh d may).places (fresh d may).route R
  inside [] r f = absurd r.ends
  inside (z ∷ R) r f =
      subst (λ (k : ℕ). Inside (fresh d may).places (fresh d may).route (k ∷ R)) (sym r.starts)
      (both (tail_within (round-tail d two z R r) (λ x n m. and_i (mem x (inner d) && may x) (eqb 0 0) (and_i (mem x (inner d)) (may x) n (f x n (mem-tl x z R m))) tt)))

  -- the rounds of a fresh plan
  pub fresh-rounds : (R : List ℕ) → Belongs d (fresh d may) R ↔ (RoundOf d R × ((x : ℕ) → T (mem x (inner d)) → T (mem x R) → T (may x)))
  fresh-rounds R = (
    λ b. (belongs-round d (fresh d may) R (fresh-plan-formed d may two) b, λ x. served x b.inside),
    λ u. record { nodes = u.0.nodes; inside = inside R u.0 u.1; needed = λ x t. absurd t },
  )

-- the sets of rounds of k fresh vans
pub fresh-sets : (d : Day) (k : ℕ) (may : ℕ → ℕ → Bool) → 2 ≤ d.n → (R : ℕ → List ℕ)
    → BelongAll d (record { vans = k; plan = λ i. fresh d (may i); must = λ x. false }) R ↔ (((i : ℕ) → i < k → RoundOf d (R i)) × ShareNone d k R × MayAll d k may R)
fresh-sets d k may two R = (
  λ b. (λ i l. ((fresh-rounds d (may i) two (R i)).0 (b.each i l)).0, b.apart, λ i x l. ((fresh-rounds d (may i) two (R i)).0 (b.each i l)).1 x),
  λ u. record { each = λ i l. (fresh-rounds d (may i) two (R i)).1 (u.0 i l, λ x. u.2 i x l); apart = u.1; holds = λ x t. absurd t },
)
