-- What contracts ask of a state: arrays of 64 entries, sets and marks of 64 bits; and what a state in form is known by, fact by fact.
use Rattle.std.specs.Prelude.{◌≡◌, true, false, List, ℕ, ◌<◌, ◌^◌, ◌-◌, ◌≤◌, length, get_or}
use Rattle.rules.specs.Day.{is_inner}
use Rattle.board.specs.Board.{Board, board_of, set_of, on_route, leg_node}
use Rattle.board.specs.declared.State.{State}
use Rattle.board.specs.Form.{set_ok, mark_ok, must_ok}

-- route and sets are arrays of 64 entries
pub record Wide (b : Board) : Type 0 where
  pub route : length b.route ≡ 64
  pub sets : length b.sets ≡ 64

-- each set is a word, and so are the marks of either sort
pub record Words (b : Board) : Type 0 where
  pub fits : (y : ℕ) → y < 64 → set_of b y < 2 ^ 64
  pub marks : b.marks < 2 ^ 64
  pub must : b.must < 2 ^ 64

-- what the type of a state says and lists of numbers do not: arrays of 64 entries, words of 64 bits
pub record Held (s : State) : Type 0 where
  pub wide : Wide (board_of s)
  pub levels : length s.levels ≡ 64
  pub words : Words (board_of s)

-- the route: distinct nodes from 0 to n - 1, its unused entries 0
pub record Routed (n : ℕ) (b : Board) : Type 0 where
  pub two : 2 ≤ b.stops
  pub most : b.stops ≤ n
  pub start : get_or b.route 0 0 ≡ 0
  pub end : get_or b.route (b.stops - 1) 0 ≡ n - 1
  pub below : (i : ℕ) → i < b.stops → get_or b.route i 0 < n
  pub once : (i j : ℕ) → i < b.stops → j < i → get_or b.route j 0 ≡ get_or b.route i 0 → ⊥
  pub past : (i : ℕ) → b.stops ≤ i → i < 64 → get_or b.route i 0 ≡ 0

-- a board in form, fact by fact; its arrays are of 64 entries
pub record FormedBoard (n : ℕ) (b : Board) : Type 0 where
  pub route : Routed n b
  pub sets : (y : ℕ) → y < 64 → set_ok n b y ≡ true
  pub marks : (y : ℕ) → y < 64 → mark_ok n b y ≡ true
  pub must : (y : ℕ) → y < 64 → must_ok n b y ≡ true

-- a board of a state in form, with arrays of 64 entries
pub record Sound (n : ℕ) (b : Board) : Type 0 where
  pub small : n ≤ 64
  pub wide : Wide b
  pub form : FormedBoard n b

-- the levels of a state in form, fact by fact
pub record Levels (depth records : ℕ) (levels : List ℕ) : Type 0 where
  pub most : depth ≤ 64
  pub held : (i : ℕ) → i < depth → get_or levels i 0 ≤ records
  pub rise : (i : ℕ) → i < depth → get_or levels (i - 1) 0 ≤ get_or levels i 0
  pub past : (i : ℕ) → depth ≤ i → i < 64 → get_or levels i 0 ≡ 0

-- a state in form
pub record InForm (n : ℕ) (s : State) : Type 0 where
  pub board : FormedBoard n (board_of s)
  pub levels : Levels s.depth s.records s.levels

-- every word from n on is 0
abbrev pub Ends : ℕ → List ℕ → Type 0
Ends n ws = (y : ℕ) → n ≤ y → get_or ws y 0 ≡ 0

-- what an accepted placing knows
pub record Splits (n : ℕ) (b : Board) (p x : ℕ) : Type 0 where
  pub node : is_inner n x ≡ true
  pub leg : leg_node n p ≡ true
  pub off : on_route b x ≡ false
  pub on : on_route b p ≡ true
