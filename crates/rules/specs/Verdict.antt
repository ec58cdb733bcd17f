-- Who is owed, and the verdict.
use Rattle.std.specs.Prelude.{ℕ, Bool, false, cond, not, ◌&&◌, ◌||◌, List, [], ◌∷◌, eqb}
use Rattle.laws.specs.Basic.{mem, all, any}
use Rattle.rules.specs.Day.{Day, inner}
use Rattle.rules.specs.declared.Van.{Van}
use Rattle.rules.specs.Plan.{Plan}
use Rattle.rules.specs.Rounds.{Rule, window_rule, metre_rule, load_rule, profile_rule}
use Rattle.rules.specs.declared.Job.{Job}
use Rattle.rules.specs.declared.Job.TheVariants.{Clean, Soiled, Transfer}

-- the job is a transfer with one end at x, and f holds of the other end
abbrev pub partnered : (ℕ → Bool) → ℕ → Job → Bool
partnered f x = elim [ Clean a w ↦ false | Soiled a w ↦ false | Transfer a b w ↦ (eqb a x && f b) || (eqb b x && f a) ]

-- owed: an unplaced node that is marked, or whose transfer partner is marked or on the route
unfoldable pub owed : Day → List ℕ → (ℕ → Bool) → ℕ → Bool
owed d rt m x = not (mem x rt) && (m x || any (partnered (λ y. m y || mem y rt) x) d.jobs)

-- x has an open place
abbrev pub has_place : Plan → ℕ → Bool
has_place a x = any (a.places x) a.route

-- b before a
abbrev pub wrong : ℕ → ℕ → List ℕ → Bool
wrong a b [] = false
wrong a b (x ∷ R) = cond (eqb x b) (mem a R) (not (eqb x a) && wrong a b R)

-- the job is a transfer whose nodes stand in the wrong order
abbrev pub wrong_way : List ℕ → Job → Bool
wrong_way R = elim [ Clean a w ↦ false | Soiled a w ↦ false | Transfer a b w ↦ wrong a b R ]

-- ---- the checks: 01 says when a state is dead, and a check here is passed exactly where 01's does not find it so

-- asked of a plan, by van and day
abbrev pub Check : Type 0
Check = Van → Day → Plan → Bool

-- not "an owed node has no open place"
abbrev pub owed_open : Check
owed_open v d a = all (λ x. not (owed d a.route a.marks x) || has_place a x) (inner d)

-- not "the route breaks" the rule
abbrev pub of_route : Rule → Check
of_route r v d a = r v d a.route

-- not "has a transfer in wrong order"
abbrev pub none_wrong : Rule
none_wrong v d R = all (λ j. not (wrong_way R j)) d.jobs

-- all of them
abbrev pub checks : List Check
checks = owed_open ∷ of_route window_rule ∷ of_route metre_rule ∷ of_route load_rule ∷ of_route none_wrong ∷ of_route profile_rule ∷ []

-- alive: not dead
unfoldable pub alive : Check
alive v d a = all (λ c. c v d a) checks
