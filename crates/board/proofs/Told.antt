-- What owning a State tells of its value.
use mathlib.Core.List.{List, [], ◌∷◌}
use Prim.Native.Nat.{ℕ, zero, suc, ◌<◌, ◌^◌}
use native.Mathlib.Omega.{arith}
use lib.ListN.{length, get_or}
use denote.Shadow.{shadow}
use denote.Array.{each}
use denote.Builtin.{u64}
use mir.Val.{Val}
use denote.Laws.{Is}
use denote.Struct.Declared.{row}
use Rattle.board.specs.Board.{set_of}
use Rattle.board.specs.Held.{Held}
use Rattle.board.specs.declared.State.{State}
use Rattle.board.specs.contracts.State.{the_type}

-- each entry of an array fits its type
each_fits : (xs : List ℕ) (us : List Val) → shadow (each ℕ u64.own_val xs us) → (i : ℕ) → i < length xs → get_or xs i 0 < 2 ^ 64
each_fits [] us p i h = absurd (omega arith)
each_fits (x ∷ xs) [] p i h = absurd p
each_fits (x ∷ xs) (u ∷ us) p zero h = p.0.1
each_fits (x ∷ xs) (u ∷ us) p (suc i) h = each_fits xs us p.1 i (omega arith)

pub is_held : (s : State) (vs : List Val) → Is (row the_type) s vs → Held s
unfolding set_of
is_held s vs g =
    let a = g.1.1.1.1.0 in
    record {
      wide = record { route = g.1.1.0.1.0.1; sets = a.1.0.1 };
      levels = g.1.1.1.1.1.1.1.0.1.0.1;
      words = record { fits = λ y h. each_fits s.sets a.0 a.1.1 y (omega (arith, a.1.0.1)); marks = g.1.1.1.1.1.0.1; must = g.1.1.1.1.1.1.0.1 };
    }
