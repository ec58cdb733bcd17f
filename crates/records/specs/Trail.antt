-- The trail: a lent slice of words, two to a record (01, The trail).
use Rattle.std.specs.Prelude.{◌≡◌, cond, List, ℕ, zero, suc, ◌+◌, ◌*◌, ◌/◌, ◌%◌, ◌≤◌, ◌<◌, ◌^◌, length, get_or, set, eqb}

-- room is half its length, rounded down
unfoldable pub room_of : List ℕ → ℕ
room_of t = length t / 2

-- record i written: its first word and its second
unfoldable pub pushed : List ℕ → ℕ → ℕ → ℕ → List ℕ
pushed t i first second = set (set t (2 * i) first) (2 * i + 1) second

-- the first word of record i
unfoldable pub first_of : List ℕ → ℕ → ℕ
first_of t i = get_or t (2 * i) 0

-- the second word of record i
unfoldable pub second_of : List ℕ → ℕ → ℕ
second_of t i = get_or t (2 * i + 1) 0

-- the kinds of records: "Kind 1: set made smaller. Kind 2: placed. Kind 3: marked.", and kind 4: marked "must go somewhere"; and what one kind
-- weighs in a first word
abbrev pub change : record { SHRINKING : ℕ; PLACING : ℕ; MARKING : ℕ; OBLIGING : ℕ; WEIGHT : ℕ }
change = record { SHRINKING = 1; PLACING = 2; MARKING = 3; OBLIGING = 4; WEIGHT = 256 }

-- "First word 256 × kind + node"
abbrev pub first_word : ℕ → ℕ → ℕ
first_word kind x = change.WEIGHT * kind + x

-- the kind in a first word
abbrev pub record_kind : ℕ → ℕ
record_kind first = first / change.WEIGHT

-- the node in it
abbrev pub record_node : ℕ → ℕ
record_node first = first % change.WEIGHT

-- ---- settling: one per node whose set shrank, ascending, with the set as it was before

-- the sets differ at the first n nodes only
abbrev pub Alike : ℕ → List ℕ → List ℕ → Type 0
Alike n old new = (y : ℕ) → n ≤ y → get_or old y 0 ≡ get_or new y 0

-- how many of the first k sets differ
unfoldable pub shrunk : List ℕ → List ℕ → ℕ → ℕ
shrunk old new zero = 0
shrunk old new (suc k) = shrunk old new k + cond (eqb (get_or old k 0) (get_or new k 0)) 0 1

-- the record of node y, if its set shrank from w to v
unfoldable pub note_one : ℕ → ℕ → ℕ → ℕ × List ℕ → ℕ × List ℕ
note_one w v y b = cond (eqb w v) b (b.0 + 1, pushed b.1 b.0 (first_word change.SHRINKING y) w)

-- those of the first k nodes, ascending
unfoldable pub note_below : List ℕ → List ℕ → ℕ → ℕ × List ℕ → ℕ × List ℕ
note_below old new zero b = b
note_below old new (suc k) b = note_one (get_or old k 0) (get_or new k 0) k (note_below old new k b)

-- a trail of words
pub record Wordy (t : List ℕ) : Type 0 where
  pub word : (i : ℕ) → get_or t i 0 < 2 ^ 64
