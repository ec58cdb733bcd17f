-- Settling.
use Rattle.std.specs.Prelude.{ℕ, zero, suc, ◌*◌, Bool, true, false, not, ◌&&◌, List}
use Rattle.laws.specs.Basic.{any}
use Rattle.rules.specs.Day.{Day, inner}
use Rattle.rules.specs.declared.Van.{Van}
use Rattle.rules.specs.Leg.{on_leg}
use Rattle.rules.specs.Plan.{Plan, Places}
use Rattle.rules.specs.Tests.{stays}

-- a round of settling strikes together all places that fail against the state at its beginning
unfoldable pub round : Van → Day → List ℕ → Places → Places
round v d rt o x p = o x p && on_leg (stays v d rt o x) p rt

-- the round strikes something
unfoldable pub strikes : Van → Day → List ℕ → Places → Bool
strikes v d rt o = any (λ x. any (λ p. o x p && not (round v d rt o x p)) rt) (inner d)

-- rounds go on until one strikes nothing, at most f of them
unfoldable pub settle_in : ℕ → Van → Day → List ℕ → Places → Places
settle_in zero v d rt o = o
settle_in (suc f) v d rt o = elim (strikes v d rt o) [ true ↦ settle_in f v d rt (round v d rt o) | false ↦ o ]

-- how many of them strike something
unfoldable pub rounds_in : ℕ → Van → Day → List ℕ → Places → ℕ
rounds_in zero v d rt o = 0
rounds_in (suc f) v d rt o = elim (strikes v d rt o) [ true ↦ suc (rounds_in f v d rt (round v d rt o)) | false ↦ 0 ]

-- settling: each striking round closes a place, and a plan of n nodes has fewer than n · n of them
abbrev pub settle : Van → Day → List ℕ → Places → Places
settle v d = settle_in (d.n * d.n) v d

-- "the number of rounds that struck something"
abbrev pub rounds : Van → Day → List ℕ → Places → ℕ
rounds v d = rounds_in (d.n * d.n) v d

-- step 5: settle
abbrev pub settled : Van → Day → Plan → Plan
settled v d a = record { route = a.route; places = settle v d a.route a.places; marks = a.marks }
