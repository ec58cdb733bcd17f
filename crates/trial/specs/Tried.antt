-- A place tried, and kept only if the fleet stays alive.
use Rattle.std.specs.Prelude.{ℕ, Bool, cond, ◌&&◌, List, eqb}
use Rattle.rules.specs.Numbers.{kinds}
use Rattle.fleet.specs.declared.Fleet.{Fleet}
use Rattle.turns.specs.Together.{Turned}
use Rattle.planner.specs.Face.{step_of, judge_of}
use Rattle.planner.specs.Promises.{in_van_word}

-- neither the placing nor the settling was refused, and the fleet is alive
abbrev pub good : List ℕ → Turned → Turned → Bool
good sheet placed settled = eqb placed.answer 0 && eqb settled.answer 0 && (judge_of sheet settled.fleet).alive

-- a level is opened, x is placed after p in van i, that van is settled: that fleet if it is good, else the fleet from before the trial. With no level to
-- open nothing is tried. The trail is as the settling left it: stepping back writes nothing
unfoldable pub tried_of : List ℕ → Fleet → List ℕ → ℕ → ℕ → ℕ → Fleet × List ℕ
tried_of sheet f t i p x =
    let level = step_of sheet f t kinds.LEVEL 0 0 in
    let placed = step_of sheet level.0.fleet level.1 (in_van_word i kinds.PLACE) p x in
    let settled = step_of sheet placed.0.fleet placed.1 (in_van_word i kinds.SETTLE) 0 0 in
    cond (eqb level.0.answer 0) (cond (good sheet placed.0 settled.0) settled.0.fleet f, settled.1) (f, t)
