-- The tests of settling. Place p of x, in the leg (A, B) of the route rt, with the places o open, stays if it passes every test: 01 says
-- when a place is struck, and a test here is passed exactly if 01's does not strike.
use Rattle.std.specs.Prelude.{ℕ, ◌+◌, ◌-◌, Bool, true, not, ◌&&◌, ◌||◌, List, [], ◌∷◌, leb, eqb, pos}
use Rattle.std.specs.Int.Signed.{le_z}
use Rattle.laws.specs.Basic.{mem, hd, all}
use Rattle.rules.specs.Day.{Day}
use Rattle.rules.specs.declared.Van.{Van}
use Rattle.rules.specs.Leg.{legs_ahead, legs_behind}
use Rattle.rules.specs.Time.{start, in_time, last_start, driven}
use Rattle.rules.specs.Load.{room, reach_ahead, reach_back}
use Rattle.rules.specs.Profile.{unmixed}
use Rattle.rules.specs.Plan.{Places}
use Rattle.rules.specs.declared.Job.{Job}
use Rattle.rules.specs.declared.Job.TheVariants.{Clean, Soiled, Transfer}

-- van, day, route, open places, x, and the leg (A, B)
abbrev pub Test : Type 0
Test = Van → Day → List ℕ → Places → ℕ → List ℕ → List ℕ → Bool

-- Window: the start at x is in time, and that plus service(x) + seconds(x, k) is at most L(k)
abbrev pub window : Test
window v d rt o x A [] = in_time d x (start d A x)
window v d rt o x A (k ∷ B) = in_time d x (start d A x) && le_z (pos (start d A x + d.service x + d.seconds x k)) (last_start d B k)

-- Metres: route + (p, x) + (x, k) − (p, k) is within the limit
abbrev pub short : Test
short v d rt o x A B = leb (driven d rt + d.metres (hd A) x + d.metres x (hd B) - d.metres (hd A) (hd B)) v.limit

-- a clean job at x: H + load is within capacity on every leg from 0 to p
abbrev pub clean_fits : Van → Day → ℕ → List ℕ → List ℕ → Job → Bool
clean_fits v d x A B = elim [ Clean a w ↦ not (eqb a x) || legs_behind (room v d w) A B | Soiled a w ↦ true | Transfer a b w ↦ true ]

-- Clean: every clean job at x fits
abbrev pub clean : Test
clean v d rt o x A B = all (clean_fits v d x A B) d.jobs

-- a soiled job at x: H + load is within capacity on every leg from p to the last
abbrev pub soiled_fits : Van → Day → ℕ → List ℕ → List ℕ → Job → Bool
soiled_fits v d x A B = elim [ Clean a w ↦ true | Soiled a w ↦ not (eqb a x) || legs_ahead (room v d w) A B | Transfer a b w ↦ true ]

-- Soiled: every soiled job at x fits
abbrev pub soiled : Test
soiled v d rt o x A B = all (soiled_fits v d x A B) d.jobs

-- Transfer, partner placed: it stands on the right side, and H + load is within capacity on every leg between, the split leg counted
abbrev pub meets_partner : Van → Day → List ℕ → ℕ → List ℕ → List ℕ → Job → Bool
meets_partner v d rt x A B (Clean a w) = true
meets_partner v d rt x A B (Soiled a w) = true
meets_partner v d rt x A B (Transfer a b w) =
    (not (eqb a x) || not (mem b rt) || reach_ahead v d (λ p k. eqb k b) w A B)
    && (not (eqb b x) || not (mem a rt) || reach_back v d (λ p k. eqb p a) w A B)

-- Transfer, partner placed: every transfer at x meets its partner
abbrev pub partner_placed : Test
partner_placed v d rt o x A B = all (meets_partner v d rt x A B) d.jobs

-- Transfer, neither placed: the partner has an open place in right order, the same leg allowed, with H + load within capacity on all
-- legs from the first place to the second
abbrev pub has_support : Van → Day → List ℕ → Places → ℕ → List ℕ → List ℕ → Job → Bool
has_support v d rt o x A B (Clean a w) = true
has_support v d rt o x A B (Soiled a w) = true
has_support v d rt o x A B (Transfer a b w) =
    (not (eqb a x) || mem b rt || reach_ahead v d (λ p k. o b p) w A B)
    && (not (eqb b x) || mem a rt || reach_back v d (λ p k. o a p) w A B)

-- Transfer, neither placed: every transfer at x has support
abbrev pub neither_placed : Test
neither_placed v d rt o x A B = all (has_support v d rt o x A B) d.jobs

-- Clean before soiled, where the sheet has the profile: x mixes nothing there (02, No. 11)
abbrev pub clean_before : Test
clean_before v d rt o x A B = not d.profile || unmixed d x A B

-- all of them
abbrev pub tests : List Test
tests = window ∷ short ∷ clean ∷ soiled ∷ partner_placed ∷ neither_placed ∷ clean_before ∷ []

-- the place stays
unfoldable pub stays : Test
stays v d rt o x A B = all (λ t. t v d rt o x A B) tests
