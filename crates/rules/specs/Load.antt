-- How much a job loads, what is aboard on a leg (01's H), and whether more fits.
use Rattle.std.specs.Prelude.{ℕ, ◌+◌, Bool, false, cond, ◌&&◌, ◌||◌, List, [], ◌∷◌, leb}
use Rattle.laws.specs.Basic.{mem, hd}
use Rattle.rules.specs.Day.{Day}
use Rattle.rules.specs.declared.Van.{Van}
use Rattle.rules.specs.Leg.{OfLeg}
use Rattle.rules.specs.declared.Job.{Job}
use Rattle.rules.specs.declared.Job.TheVariants.{Clean, Soiled, Transfer}

-- how much a job loads
abbrev pub load_of : Job → ℕ
load_of (Clean a w) = w
load_of (Soiled a w) = w
load_of (Transfer a b w) = w

-- of a job on the leg (A, B): clean from the start to its node, soiled from its node to the end, a transfer from its first node to its
-- second; a transfer in the wrong order, or with a node off the route, counts 0
abbrev pub aboard : List ℕ → List ℕ → Job → ℕ
aboard A B (Clean a w) = cond (mem a B) w 0
aboard A B (Soiled a w) = cond (mem a A) w 0
aboard A B (Transfer a b w) = cond (mem a A && mem b B) w 0

-- f of every job, summed
abbrev pub sum : (Job → ℕ) → List Job → ℕ
sum f [] = 0
sum f (j ∷ js) = f j + sum f js

-- H of the leg (A, B)
abbrev pub load : Day → List ℕ → List ℕ → ℕ
load d A B = sum (aboard A B) d.jobs

-- the load rule on a leg
abbrev pub carries : Van → Day → OfLeg
carries v d A B = leb (load d A B) v.capacity

-- H + w is within capacity on the leg
abbrev pub room : Van → Day → ℕ → OfLeg
room v d w A B = leb (load d A B + w) v.capacity

-- from the leg (A, B) on, w fits leg by leg up to a leg from p to k where `g p k`
abbrev pub reach_ahead : Van → Day → (ℕ → ℕ → Bool) → ℕ → List ℕ → List ℕ → Bool
reach_ahead v d g w A [] = false
reach_ahead v d g w A (k ∷ B) = room v d w A (k ∷ B) && (g (hd A) k || reach_ahead v d g w (k ∷ A) B)

-- the same from the leg (A, B) back
abbrev pub reach_back : Van → Day → (ℕ → ℕ → Bool) → ℕ → List ℕ → List ℕ → Bool
reach_back v d g w [] B = false
reach_back v d g w (p ∷ A) B = room v d w (p ∷ A) B && (g p (hd B) || reach_back v d g w A (p ∷ B))
