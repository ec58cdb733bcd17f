-- The two tests of a transfer's end at x, read off the list of jobs: what they ask of the partner of x.
use Prim.Native.Nat.{ℕ}
use mathlib.Core.Bool.{Bool, not, ◌||◌}
use mathlib.Core.List.{List}
use lib.Dec.{T, eqb, eqb→eq, eqb_refl}
use Rattle.laws.proofs.Logic.{and_i, and_l, and_r, imp-or-i, imp-or-e, imp-imp-i, imp-imp-e}
use Rattle.laws.proofs.Lists.{all_in, all-i}
use Rattle.laws.specs.Basic.{mem, In}
use Rattle.rules.specs.Day.{Day}
use Rattle.rules.specs.declared.Van.{Van}
use Rattle.rules.specs.Load.{reach_ahead, reach_back}
use Rattle.rules.specs.Plan.{Places}
use Rattle.rules.specs.Tests.{meets_partner, partner_placed, has_support, neither_placed}
use Rattle.rules.specs.declared.Job.{Job}
use Rattle.rules.specs.declared.Job.TheVariants.{Clean, Soiled, Transfer}

-- F of the partner and the load of each transfer that begins at x, G of each that ends there
pub record Partners (d : Day) (x : ℕ) (F G : ℕ → ℕ → Type 0) : Type 0 where
  pub first : (b w : ℕ) → In (Transfer x b w) d.jobs → F b w
  pub second : (a w : ℕ) → In (Transfer a x w) d.jobs → G a w

module _ (v : Van) (d : Day) (rt : List ℕ) (o : Places) (x : ℕ) (A B : List ℕ) where
  -- a partner on the route is met
  abbrev pub Meets : Type 0
  Meets = Partners d x (λ b w. T (mem b rt) → T (reach_ahead v d (λ p k. eqb k b) w A B)) (λ a w. T (mem a rt) → T (reach_back v d (λ p k. eqb p a) w A B))

  -- a partner off the route has a place that supports
  abbrev pub Supports : Type 0
  Supports = Partners d x (λ b w. T (not (mem b rt)) → T (reach_ahead v d (λ p k. o b p) w A B)) (λ a w. T (not (mem a rt)) → T (reach_back v d (λ p k. o a p) w A B))

  -- the halves of a job's test: it begins at x, it ends at x
  abbrev meet_b : ℕ → ℕ → ℕ → Bool
  meet_b a b w = not (eqb a x) || not (mem b rt) || reach_ahead v d (λ p k. eqb k b) w A B

  abbrev meet_a : ℕ → ℕ → ℕ → Bool
  meet_a a b w = not (eqb b x) || not (mem a rt) || reach_back v d (λ p k. eqb p a) w A B

  abbrev hold_b : ℕ → ℕ → ℕ → Bool
  hold_b a b w = not (eqb a x) || mem b rt || reach_ahead v d (λ p k. o b p) w A B

  abbrev hold_a : ℕ → ℕ → ℕ → Bool
  hold_a a b w = not (eqb b x) || mem a rt || reach_back v d (λ p k. o a p) w A B

  pub meets-e : T (partner_placed v d rt o x A B) → Meets
  meets-e h = record {
    first = λ b w i. imp-imp-e (eqb x x) (mem b rt) (reach_ahead v d (λ p k. eqb k b) w A B)
        (and_l (meet_b x b w) (meet_a x b w) (all_in (meets_partner v d rt x A B) h i)) (eqb_refl x);
    second = λ a w i. imp-imp-e (eqb x x) (mem a rt) (reach_back v d (λ p k. eqb p a) w A B)
        (and_r (meet_b a x w) (meet_a a x w) (all_in (meets_partner v d rt x A B) h i)) (eqb_refl x);
  }

  pub supports-e : T (neither_placed v d rt o x A B) → Supports
  supports-e h = record {
    first = λ b w i. imp-or-e (eqb x x) (mem b rt) (reach_ahead v d (λ p k. o b p) w A B)
        (and_l (hold_b x b w) (hold_a x b w) (all_in (has_support v d rt o x A B) h i)) (eqb_refl x);
    second = λ a w i. imp-or-e (eqb x x) (mem a rt) (reach_back v d (λ p k. o a p) w A B)
        (and_r (hold_b a x w) (hold_a a x w) (all_in (has_support v d rt o x A B) h i)) (eqb_refl x);
  }

  pub meets-i : Meets → T (partner_placed v d rt o x A B)
  meets-i m = all-i (meets_partner v d rt x A B) d.jobs job
    where
      job : (j : Job) → In j d.jobs → T (meets_partner v d rt x A B j)
      job (Clean a w) i = tt
      job (Soiled a w) i = tt
      job (Transfer a b w) i = and_i (meet_b a b w) (meet_a a b w)
          (imp-imp-i (eqb a x) (mem b rt) (reach_ahead v d (λ p k. eqb k b) w A B) (λ e. m.first b w (rw (eqb→eq a x e) at i)))
          (imp-imp-i (eqb b x) (mem a rt) (reach_back v d (λ p k. eqb p a) w A B) (λ e. m.second a w (rw (eqb→eq b x e) at i)))

  pub supports-i : Supports → T (neither_placed v d rt o x A B)
  supports-i m = all-i (has_support v d rt o x A B) d.jobs job
    where
      job : (j : Job) → In j d.jobs → T (has_support v d rt o x A B j)
      job (Clean a w) i = tt
      job (Soiled a w) i = tt
      job (Transfer a b w) i = and_i (hold_b a b w) (hold_a a b w)
          (imp-or-i (eqb a x) (mem b rt) (reach_ahead v d (λ p k. o b p) w A B) (λ e. m.first b w (rw (eqb→eq a x e) at i)))
          (imp-or-i (eqb b x) (mem a rt) (reach_back v d (λ p k. o a p) w A B) (λ e. m.second a w (rw (eqb→eq b x e) at i)))
