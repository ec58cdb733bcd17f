use borrow.Author.Rules.{rules}
use borrow.Author.Tests.{tests}
use Rattle.laws.proofs.Ranges.{all_over_range}
use native.Mathlib.Omega.{arith}
use mathlib.Core.Path.{◌≡◌, sym, ap, ◌∙◌}
use mathlib.Core.Bool.{Bool}
use mathlib.Core.List.{List, []}
use Prim.Native.Nat.{ℕ, ◌≤◌}
use lib.ListN.{get_or}
use lib.Dec.{leb}
use Rattle.laws.specs.Basic.{all_below}
use Rattle.laws.proofs.Below.{below-same}
use Rattle.board.specs.declared.State.{State}
use Rattle.fleet.specs.Fleet.{state_in}
use Rattle.fleet.specs.Rows.{figures_in, row_state, fleet_with}
use Rattle.fleet.proofs.FleetLaws.{state-of}
use Rattle.fleet.proofs.form.within_room.Goals as goal

-- what is asked of van j
abbrev test : List (List ℕ) → ℕ → ℕ → Bool
test figures room j = leb (figures_in (get_or figures j [])).records room

-- the same of the fleet of these rows
told : (figures : List (List ℕ)) (v room : ℕ) → v ≤ 8 → (routes sets levels : List (List ℕ))
    → all_below v (test figures room) ≡ all_below v (λ j. leb (state_in (fleet_with routes sets levels figures) j).records room)
told figures v room l routes sets levels =
    below-same v _ _ (λ j h. ap (λ (s : State). leb s.records room) (sym (state-of (row_state routes sets levels figures) j (omega arith))))

pub returns : goal.returns
returns c =
    let a = c.args in
    λ routes sets levels. all_over_range a.v (test a.figures.now a.room) c.all.ensures.ran (cc) (λ x b q k. search (rules, tests))
    ∙ told a.figures.now a.v a.room c.requires.0 routes sets levels
