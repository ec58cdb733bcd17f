-- A board while it is undone: what is costly to keep in place is kept beside it, and the arrays are put right once at the end.
use Rattle.std.specs.Prelude.{List, ◌≡◌, ℕ, ◌+◌, ◌<◌, ◌^◌, get_or, length}
use Rattle.std.specs.Int.Bits.{bit_and}
use Rattle.board.specs.Board.{Board, legs_of, set_of}
use Rattle.board.specs.Held.{Ends, Sound}
use Rattle.records.specs.declared.undo.Undone as code
use Rattle.records.specs.Undo.{Undone}

-- what of a set names legs that are there
unfoldable pub cut : ℕ → ℕ → ℕ
cut legs w = bit_and w legs

-- each stop's neighbours, by node
pub record Beside (stops : ℕ) (route next last : List ℕ) : Type 0 where
  pub long : (length next ≡ 64) × (length last ≡ 64)
  pub ahead : (i : ℕ) → i + 1 < stops → get_or next (get_or route i 0) 0 ≡ get_or route (i + 1) 0
  pub behind : (i : ℕ) → i + 1 < stops → get_or last (get_or route (i + 1) 0) 0 ≡ get_or route i 0

-- a board in form as undoing keeps it: its route by neighbours, its legs as a word, and sets, words once they are read, that may still name legs that are gone
pub record Undoing (n : ℕ) (b : Board) (u : code.Undone) (next last sets : List ℕ) : Type 0 where
  pub sound : Sound n b
  pub stops : b.stops ≡ u.stops
  pub marks : b.marks ≡ u.marks
  pub must : b.must ≡ u.must
  pub legs : legs_of b ≡ u.legs
  pub beside : Beside b.stops b.route next last
  pub long : length sets ≡ 64
  pub past : Ends n sets
  pub held : (y : ℕ) → y < 64 → get_or sets y 0 < 2 ^ 64 → set_of b y ≡ cut u.legs (get_or sets y 0)

-- undoing answers r and keeps these arrays where d is what it should give
abbrev pub Follows : ℕ → Undone → code.Undone → List ℕ → List ℕ → List ℕ → Type 0
Follows n d r next last sets = (d.0 ≡ r.fits) × Undoing n d.1 r next last sets
