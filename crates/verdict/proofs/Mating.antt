-- Who has a partner is joined to it by a job.
use mathlib.Core.Path.{◌≡◌, refl, sym, subst}
use Prim.Native.Nat.{ℕ, zero, suc, ◌<◌}
use mathlib.Core.Bool.{◌&&◌}
use mathlib.Core.Logic.{◌⊎◌, inl, inr}
use native.Mathlib.Omega.{arith}
use lib.Dec.{T, eqb, eqb_refl}
use borrow.Author.Tests.{eq-eqb, eqb-true}
use Rattle.laws.proofs.Logic.{decided, true→T, and_i, or_l, or_r}
use Rattle.rules.specs.declared.Job.{Job}
use Rattle.rules.specs.declared.Job.TheVariants.{Clean, Soiled, Transfer}
use Rattle.along.specs.Nodes.{mate_or, mate_in}
use Rattle.verdict.specs.Verdict.{joins}

-- who has a partner other than 0 is joined to it by a job
pub mate-found : (g : ℕ → Job) (n x : ℕ) → (mate_in g n x ≡ 0) ⊎ ((k : ℕ) × (k < n) × T (joins x (mate_in g n x) (g k)))
unfolding mate_in
mate-found g zero x = inl refl
mate-found g (suc n) x = go (g n) refl (mate-found g n x)
  where
    Found : ℕ → Type 0
    Found y = (y ≡ 0) ⊎ ((k : ℕ) × (k < suc n) × T (joins x y (g k)))

    lift : (mate_in g n x ≡ 0) ⊎ ((k : ℕ) × (k < n) × T (joins x (mate_in g n x) (g k))) → Found (mate_in g n x)
    lift (inl e) = inl e
    lift (inr p) = inr (p.0, omega (arith, p.1), p.2)

    go : (j : Job) → j ≡ g n → (mate_in g n x ≡ 0) ⊎ ((k : ℕ) × (k < n) × T (joins x (mate_in g n x) (g k))) → Found (mate_or x (mate_in g n x) j)
    go (Clean a w) e r = lift r
    go (Soiled a w) e r = lift r
    go (Transfer a b w) e r =
        decided (eqb x b)
        (λ q. rw q (inr (
          n,
          omega arith,
          subst (λ (j : Job). T (joins x a j)) e (or_r (eqb a x && eqb b a) (eqb b x && eqb a a)
              (and_i (eqb b x) (eqb a a) (true→T _ (eq-eqb b x (sym (eqb-true x b q)))) (eqb_refl a))),
        )))
        (λ q. rw q (decided (eqb x a)
        (λ s. rw s (inr (
          n,
          omega arith,
          subst (λ (j : Job). T (joins x b j)) e (or_l (eqb a x && eqb b b) (eqb b x && eqb a b)
              (and_i (eqb a x) (eqb b b) (true→T _ (eq-eqb a x (sym (eqb-true x a s)))) (eqb_refl b))),
        )))
        (λ s. rw s (lift r))))
