-- The fresh state, and the state that stands beside a refusal.
use Rattle.std.specs.Prelude.{Bool, cond, ◌&&◌, List, ℕ, ◌-◌, replicate, set}
use Rattle.laws.specs.Basic.{tab}
use Rattle.rules.specs.Day.{is_inner}
use Rattle.board.specs.Board.{state_of}
use Rattle.board.specs.declared.State.{State}
use Rattle.board.specs.declared.Figures.{Figures}

-- every number 0
unfoldable pub no_state : State
no_state = state_of (replicate 64 0) 0 (replicate 64 0) 0 0 (replicate 64 0) 0 0

-- its numbers beside its three arrays
unfoldable pub no_figures : Figures
no_figures = record { stops = 0; marks = 0; must = 0; depth = 0; records = 0 }

-- every node but the ends is open in leg 0, if the van may serve it: "a node whose set lacks the van's bit has no open place in the fresh state"
unfoldable pub fresh_set : ℕ → (ℕ → Bool) → ℕ → ℕ
fresh_set n may y = cond (is_inner n y && may y) 1 0

-- the sets of the fresh state
unfoldable pub fresh_sets : ℕ → (ℕ → Bool) → List ℕ
fresh_sets n may = tab 64 (fresh_set n may)

-- route 0, n - 1; every other node that the van may serve open in leg 0; no marks, levels or records
unfoldable pub fresh_state : ℕ → (ℕ → Bool) → State
fresh_state n may = state_of (set (replicate 64 0) 1 (n - 1)) 2 (fresh_sets n may) 0 0 (replicate 64 0) 0 0
