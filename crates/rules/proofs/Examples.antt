-- 01's examples at the edges on the mathematics, to keep the definitions honest. (The table P1 to P12, on the bytes of the sheet, is the planner's.)
use mathlib.Core.Path.{◌≡◌, refl}
use Prim.Native.Nat.{ℕ, ◌+◌, ◌*◌}
use mathlib.Core.Bool.{Bool, true, false, cond, ◌&&◌}
use mathlib.Core.List.{List, [], ◌∷◌, ◌++◌, map}
use lib.ListN.{get_or}
use lib.Dec.{eqb}
use lib.IntN.{pos, negsuc}
use Rattle.rules.specs.Day.{Day}
use Rattle.rules.specs.declared.Van.{Van}
use Rattle.rules.specs.Time.{start, last_start}
use Rattle.rules.specs.Load.{aboard}
use Rattle.rules.specs.Profile.{is_clean, is_soiled}
use Rattle.rules.specs.Plan.{Plan, fresh}
use Rattle.rules.specs.Rounds.{keeps}
use Rattle.rules.specs.Steps.{placed}
use Rattle.rules.specs.Tests.{stays}
use Rattle.rules.specs.Settle.{round, strikes, settle_in, rounds_in, rounds, settled}
use Rattle.rules.specs.Verdict.{owed, alive}
use Rattle.rules.specs.Every.{every_round, belongs, count}
use Rattle.rules.specs.declared.Job.TheVariants.{Clean, Soiled, Transfer}

abbrev table : List ℕ
table = 0 ∷ 10 ∷ 20 ∷ 30 ∷ 10 ∷ 0 ∷ 10 ∷ 20 ∷ 20 ∷ 10 ∷ 0 ∷ 10 ∷ 30 ∷ 20 ∷ 10 ∷ 0 ∷ []

-- 01's sheet, with the latest of nodes 2 and 3 to be altered
abbrev pub day_with : ℕ → ℕ → Day
day_with l2 l3 = record {
  n = 4;
  earliest = λ i. 0;
  latest = λ i. get_or (0 ∷ 100 ∷ l2 ∷ l3 ∷ []) i 0;
  service = λ i. get_or (0 ∷ 5 ∷ 5 ∷ 0 ∷ []) i 0;
  seconds = λ i j. get_or table (4 * i + j) 0;
  metres = λ i j. get_or table (4 * i + j) 0;
  jobs = Transfer 1 2 2 ∷ [];
  profile = false;
}

abbrev pub day : Day
day = day_with 25 100

abbrev pub van : ℕ → ℕ → Van
van c m = record { capacity = c; limit = m }

-- no van is kept from a ward
abbrev pub any : ℕ → Bool
any x = true

-- node 2 placed after 0
abbrev two : Plan
two = placed 0 2 (fresh day any)

p1 : start day (2 ∷ 0 ∷ []) 3 ≡ 35
p1 = refl

p3 : last_start day (2 ∷ 3 ∷ []) 0 ≡ pos 0
p3 = refl

-- both halves of the split leg inherit
halves : (two.places 1 0 && two.places 1 2) ≡ true
halves = refl

p2 : last_start day (3 ∷ []) 2 ≡ pos 20
p2 = refl

-- 25 against 20
p4 : round (van 2 60) day two.route two.places 1 0 ≡ false
unfolding round stays
p4 = refl

p6 : round (van 2 60) day two.route two.places 1 2 ≡ false
unfolding round stays
p6 = refl

-- the window looks past k: 25 against L(2) = 24, for latest(3) = 39
past-k : round (van 2 60) (day_with 100 39) two.route two.places 1 0 ≡ false
unfolding round stays
past-k = refl

-- the door: three nodes with no way between them, of which one is shut before its service can be done
abbrev shut_at : ℕ → Day
shut_at x = record {
  n = 3;
  earliest = λ i. 0;
  latest = λ i. cond (eqb i x) 4 100;
  service = λ i. cond (eqb i x) 5 0;
  seconds = λ i j. 0;
  metres = λ i j. 0;
  jobs = [];
  profile = false;
}

-- a last moment below 0 strikes the ward, though the van is there at 0
below-zero : round (van 2 60) (shut_at 1) (fresh (shut_at 1) any).route (fresh (shut_at 1) any).places 1 0 ≡ false
unfolding round stays
below-zero = refl

-- the first stop keeps the rule too, and the last one with its service
first-shut : alive (van 2 60) (shut_at 0) (fresh (shut_at 0) any) ≡ false
unfolding alive owed
first-shut = refl

last-shut : alive (van 2 60) (shut_at 2) (fresh (shut_at 2) any) ≡ false
unfolding alive owed
last-shut = refl

p7 : rounds (van 2 30) day (fresh day any).route (fresh day any).places ≡ 0
unfolding rounds_in strikes round stays
p7 = refl

p8 : alive (van 2 29) day (settled (van 2 29) day (fresh day any)) ≡ false
unfolding alive owed settle_in strikes round stays
p8 = refl

p10 : rounds (van 2 60) (day_with 19 100) (fresh day any).route (fresh day any).places ≡ 2
unfolding rounds_in strikes round stays
p10 = refl

p11 : last_start (day_with 25 10) (3 ∷ []) 0 ≡ negsuc 19
p11 = refl

-- fresh: 5 rounds belong, 1 keeps the rules
p12 : count (belongs day (fresh day any)) (every_round day) ≡ 5
unfolding every_round
p12 = refl

p12k : count (λ R. belongs day (fresh day any) R && keeps (van 2 60) day R) (every_round day) ≡ 1
unfolding every_round keeps
p12k = refl

-- metre limit 29: none
p8k : count (λ R. belongs day (fresh day any) R && keeps (van 2 29) day R) (every_round day) ≡ 0
unfolding every_round keeps
p8k = refl

-- a clean job is aboard before its node, a soiled one after it
clean-before : aboard (0 ∷ []) (1 ∷ 3 ∷ []) (Clean 1 2) ≡ 2
clean-before = refl

soiled-after : aboard (1 ∷ 0 ∷ []) (3 ∷ []) (Soiled 1 2) ≡ 2
soiled-after = refl

-- clean before soiled: seven nodes with no way between them, 1 clean, 2 soiled, 3 both, and a transfer from 4 to 5
abbrev mixed : Bool → Day
mixed profile = record {
  n = 7;
  earliest = λ i. 0;
  latest = λ i. 100;
  service = λ i. 0;
  seconds = λ i j. 0;
  metres = λ i j. 0;
  jobs = Clean 1 1 ∷ Soiled 2 1 ∷ Clean 3 1 ∷ Soiled 3 1 ∷ Transfer 4 5 1 ∷ [];
  profile = profile;
}

-- whether the round that serves these wards keeps the rules
abbrev served : Bool → List ℕ → Bool
served profile l = keeps (van 9 60) (mixed profile) (0 ∷ l ++ 6 ∷ [])

-- what a round of settling leaves of the places of x in the first legs of a route, all open
abbrev left : Bool → ℕ → List ℕ → List Bool
left profile x l = map (round (van 9 60) (mixed profile) (0 ∷ l ++ 6 ∷ []) (λ y p. true) x) (0 ∷ l)

-- one stop may have both: it stands behind the clean one and before the soiled one
both-between : served true (1 ∷ 3 ∷ 2 ∷ []) ≡ true
unfolding keeps is_clean is_soiled
both-between = refl

-- not before another clean one, with a stop between or not
both-too-soon : served true (3 ∷ 4 ∷ 1 ∷ 5 ∷ []) ≡ false
unfolding keeps is_clean is_soiled
both-too-soon = refl

soiled-too-soon : served true (2 ∷ 1 ∷ []) ∷ served false (2 ∷ 1 ∷ []) ∷ [] ≡ false ∷ true ∷ []
unfolding keeps is_clean is_soiled
soiled-too-soon = refl

-- a transfer is neither clean nor soiled, at its first node or at its second
transfers-aside : served true (4 ∷ 1 ∷ 2 ∷ 5 ∷ []) ≡ true
unfolding keeps is_clean is_soiled
transfers-aside = refl

-- a soiled node goes behind the clean stop, and a clean node before the soiled one; without the profile each goes anywhere
soiled-left : left true 2 (1 ∷ []) ++ left false 2 (1 ∷ []) ≡ false ∷ true ∷ true ∷ true ∷ []
unfolding round stays is_clean is_soiled
soiled-left = refl

clean-left : left true 1 (2 ∷ []) ++ left false 1 (2 ∷ []) ≡ true ∷ false ∷ true ∷ true ∷ []
unfolding round stays is_clean is_soiled
clean-left = refl

-- a node with both goes between them
both_left : left true 3 (1 ∷ 2 ∷ []) ≡ false ∷ true ∷ false ∷ []
unfolding round stays is_clean is_soiled
both_left = refl
