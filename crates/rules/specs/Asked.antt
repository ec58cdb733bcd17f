-- What the theorems ask of a day and of a plan, and the tests that it comes from.
use Rattle.std.specs.Prelude.{ℕ, ◌+◌, ◌-◌, ◌≤◌, ◌<◌, ◌≡◌, Bool, true, false, not, ◌&&◌, ◌||◌, List, [], ◌∷◌, ◌≢◌, T, ltb, eqb}
use Rattle.laws.specs.Basic.{all_below, In, mem, hd, all}
use Rattle.rules.specs.Day.{Day, inner, triangle}
use Rattle.rules.specs.Leg.{leg_stops}
use Rattle.rules.specs.Plan.{Plan}
use Rattle.rules.specs.Rounds.{Distinct}
use Rattle.rules.specs.declared.Job.{Job}
use Rattle.rules.specs.declared.Job.TheVariants.{Clean, Soiled, Transfer}

-- ---- the hypotheses

-- no refusal 5: for three different i, j, k, (i, k) is at most (i, j) + (j, k)
abbrev pub Shortest : ℕ → (ℕ → ℕ → ℕ) → Type 0
Shortest n t = (i j k : ℕ) → i < n → j < n → k < n → i ≢ j → j ≢ k → i ≢ k → t i k ≤ t i j + t j k

pub record Triangle (d : Day) : Type 0 where
  pub seconds : Shortest d.n d.seconds
  pub metres : Shortest d.n d.metres

-- no refusal 4: a node has at most one transfer end
pub record OneEnd (js : List Job) : Type 0 where
  pub firsts : (a b b' w w' : ℕ) → In (Transfer a b w) js → In (Transfer a b' w') js → (b ≡ b') × (w ≡ w')
  pub seconds : (a a' b w w' : ℕ) → In (Transfer a b w) js → In (Transfer a' b w') js → (a ≡ a') × (w ≡ w')
  pub apart : (a b c w w' : ℕ) → In (Transfer a b w) js → In (Transfer c a w') js → ⊥

-- no refusal 3: the nodes of a transfer are between 1 and n − 2, and different
pub record Proper (d : Day) : Type 0 where
  pub ends : (a b w : ℕ) → In (Transfer a b w) d.jobs → In a (inner d) × In b (inner d) × (a ≢ b)

-- the last entry is e
abbrev pub ends_with : ℕ → List ℕ → Bool
ends_with e [] = false
ends_with e (x ∷ []) = eqb x e
ends_with e (x ∷ y ∷ l) = ends_with e (y ∷ l)

-- in form, as far as the rules see it: distinct nodes from 0 to n − 1; places only of inner nodes off the route and only in present legs;
-- marks only on inner nodes
pub record Formed (d : Day) (a : Plan) : Type 0 where
  pub tail : List ℕ
  pub starts : a.route ≡ 0 ∷ tail
  pub ends : T (ends_with (d.n - 1) a.route)
  pub nodes : Distinct d.n a.route
  pub inside : (y q : ℕ) → T (a.places y q) → In y (inner d)
  pub off : (y q : ℕ) → T (a.places y q) → T (not (mem y a.route))
  pub leg : (y q : ℕ) → T (a.places y q) → T (mem q (leg_stops a.route))
  pub marked : (y : ℕ) → T (a.marks y) → In y (inner d)

-- ---- the same as tests that compute

abbrev pub triangle_test : Day → Bool
triangle_test d = triangle d.n d.seconds && triangle d.n d.metres

-- no refusal 4 between two jobs: not one node with two clean jobs, two soiled jobs or two transfer ends
abbrev pub no_clash : Job → Job → Bool
no_clash (Clean a w) (Clean b u) = not (eqb a b)
no_clash (Clean a w) (Soiled b u) = true
no_clash (Clean a w) (Transfer b c u) = true
no_clash (Soiled a w) (Clean b u) = true
no_clash (Soiled a w) (Soiled b u) = not (eqb a b)
no_clash (Soiled a w) (Transfer b c u) = true
no_clash (Transfer a b w) (Clean c u) = true
no_clash (Transfer a b w) (Soiled c u) = true
no_clash (Transfer a b w) (Transfer c e u) = not (eqb a c) && not (eqb a e) && not (eqb b c) && not (eqb b e)

abbrev pub one_end_test : List Job → Bool
one_end_test [] = true
one_end_test (j ∷ js) = all (no_clash j) js && one_end_test js

abbrev pub proper_job : Day → Job → Bool
proper_job d (Clean a w) = true
proper_job d (Soiled a w) = true
proper_job d (Transfer a b w) = mem a (inner d) && mem b (inner d) && not (eqb a b)

abbrev pub proper_test : Day → Bool
proper_test d = all (proper_job d) d.jobs

abbrev pub distinct_test : ℕ → List ℕ → Bool
distinct_test n [] = true
distinct_test n (x ∷ l) = ltb x n && not (mem x l) && distinct_test n l

-- of the places and marks of nodes below n
abbrev pub place_test : Day → Plan → ℕ → ℕ → Bool
place_test d a y q = not (a.places y q) || (mem y (inner d) && not (mem y a.route) && mem q (leg_stops a.route))

abbrev pub formed_test : Day → Plan → Bool
formed_test d a =
    eqb (hd a.route) 0 && ends_with (d.n - 1) a.route && distinct_test d.n a.route
    && all_below d.n (λ y. all_below d.n (place_test d a y)) && all_below d.n (λ y. not (a.marks y) || mem y (inner d))
