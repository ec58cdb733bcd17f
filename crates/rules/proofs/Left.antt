-- What a round of settling leaves: the open places that stay at the leg they name.
use mathlib.Core.Path.{subst, sym}
use Prim.Native.Nat.{ℕ}
use mathlib.Core.Bool.{Bool}
use mathlib.Core.List.{List, [], ◌∷◌}
use lib.Dec.{T}
use Rattle.laws.proofs.Logic.{and_i, and_l, and_r}
use Rattle.laws.specs.Basic.{hd}
use Rattle.rules.specs.Day.{Day}
use Rattle.rules.specs.declared.Van.{Van}
use Rattle.rules.specs.Leg.{on_leg}
use Rattle.rules.specs.Plan.{Places}
use Rattle.rules.specs.Rounds.{Distinct}
use Rattle.rules.specs.Tests.{stays}
use Rattle.rules.specs.Settle.{round}
use Rattle.rules.proofs.Cuts.{Cut, leg-cut, LegFound, leg-found}

-- every place of o is one of o'
infix 50 ◌⊆◌
abbrev pub ◌⊆◌ : Places → Places → Type 0
o ⊆ o' = (x p : ℕ) → T (o x p) → T (o' x p)

module _ (v : Van) (d : Day) (rt : List ℕ) (o : Places) where
  pub round-less : round v d rt o ⊆ o
  unfolding round
  round-less x p h = and_l (o x p) (on_leg (stays v d rt o x) p rt) h

  pub round-leg : (x p : ℕ) → T (round v d rt o x p) → T (on_leg (stays v d rt o x) p rt)
  unfolding round
  round-leg x p h = and_r (o x p) (on_leg (stays v d rt o x) p rt) h

  pub round-left : (x p : ℕ) → T (o x p) → T (on_leg (stays v d rt o x) p rt) → T (round v d rt o x p)
  unfolding round
  round-left x p h t = and_i (o x p) (on_leg (stays v d rt o x) p rt) h t

module _ (v : Van) (d : Day) (z : ℕ) (r : List ℕ) (o : Places) (x : ℕ) where
  -- the leg of a place that a round leaves
  pub round-found : (p : ℕ) → T (round v d (z ∷ r) o x p) → LegFound (stays v d (z ∷ r) o x) p (z ∷ []) r
  round-found p h = leg-found (stays v d (z ∷ r) o x) p (z ∷ []) r (round-leg v d (z ∷ r) o x p h)

  module _ (g : Distinct d.n (z ∷ r)) {A B : List ℕ} {k : ℕ} (c : Cut (z ∷ []) r A (k ∷ B)) where
    pub round-stays : T (round v d (z ∷ r) o x (hd A)) → T (stays v d (z ∷ r) o x A (k ∷ B))
    round-stays h = subst (λ (b : Bool). T b) (leg-cut (stays v d (z ∷ r) o x) c g) (round-leg v d (z ∷ r) o x (hd A) h)

    pub round-i : T (o x (hd A)) → T (stays v d (z ∷ r) o x A (k ∷ B)) → T (round v d (z ∷ r) o x (hd A))
    round-i h t = round-left v d (z ∷ r) o x (hd A) h (subst (λ (b : Bool). T b) (sym (leg-cut (stays v d (z ∷ r) o x) c g)) t)
