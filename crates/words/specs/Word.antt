-- The words of a day sheet, "32-bit little-endian words", and what they must be, section by section.
use Rattle.std.specs.Prelude.{ℕ, ◌+◌, ◌*◌, ◌/◌, ◌%◌, ◌<◌, ◌^◌, ◌≡◌, List, Bool, ◌&&◌, ◌||◌, not, length, get_or, leb, eqb}
use Rattle.rules.specs.Class.{one_bit, class_set}
use Rattle.rules.specs.Day.{is_inner}
use Rattle.words.specs.declared.Three.{Three}
use Rattle.words.specs.declared.Four.{Four}

-- how many words an entry has: a van's capacity, metre limit and bit, a node's "earliest, latest, service" and class set, a job's "kind, a, b, load", a
-- step's "each three words"
abbrev pub size : record { van : ℕ; node : ℕ; job : ℕ; step : ℕ }
size = record { van = 3; node = 4; job = 4; step = 3 }

-- how many whole words there are
abbrev pub words : List ℕ → ℕ
words s = length s / 4

-- the i-th byte, which is below 256 whatever the list holds
abbrev pub byte_at : List ℕ → ℕ → ℕ
byte_at s i = get_or s i 0 % 256

-- the i-th word, the lowest byte first
unfoldable pub word_at : List ℕ → ℕ → ℕ
word_at s i = byte_at s (4 * i) + 256 * byte_at s (4 * i + 1) + 65536 * byte_at s (4 * i + 2) + 16777216 * byte_at s (4 * i + 3)

-- what a reading ensures: it is the value v, and it is below 2 ^ 32
pub record Reads (v r : ℕ) : Type 0 where
  pub is : r ≡ v
  pub low : r < 2 ^ 32

-- the first three words of the i-th entry, of `width` words, where the entries begin at word `from`
abbrev pub three_at : List ℕ → ℕ → ℕ → ℕ → Three
three_at s from width i = let p = from + width * i in record { first = word_at s p; second = word_at s (p + 1); third = word_at s (p + 2) }

-- the first four
abbrev pub four_at : List ℕ → ℕ → ℕ → ℕ → Four
four_at s from width i =
    let p = from + width * i in record { first = word_at s p; second = word_at s (p + 1); third = word_at s (p + 2); fourth = word_at s (p + 3) }

-- "capacity (0 to 1,000), metre limit (0 to 1,000,000)", and "a third number, one of the eight bits (1, 2, .. 128)"
abbrev pub limits_ok : ℕ → ℕ → ℕ → Bool
limits_ok capacity limit bit = leb capacity 1000 && leb limit 1000000 && one_bit bit

-- "1 for the profile, else 0"
abbrev pub profile_ok : ℕ → Bool
profile_ok profile = leb profile 1

-- "earliest, latest, service (0 to 1,000,000, earliest ≤ latest)", and "a fourth word, a class set of 8 bits (1 to 255)"
abbrev pub node_ok : ℕ → ℕ → ℕ → ℕ → Bool
node_ok earliest latest service set = leb earliest latest && leb latest 1000000 && leb service 1000000 && class_set set

-- "Kinds are 1, 2, 3. For kinds 1 and 2, b is 0. Nodes .. b of a transfer, are between 1 and n−2; a ≠ b in a transfer"
abbrev pub second_ok : ℕ → ℕ → ℕ → ℕ → Bool
second_ok n kind a b = eqb kind 3 && (is_inner n b && not (eqb a b)) || (eqb kind 1 || eqb kind 2) && eqb b 0

-- "Nodes a .. are between 1 and n−2", "load (1 to 1,000)"
abbrev pub job_ok : ℕ → ℕ → ℕ → ℕ → ℕ → Bool
job_ok n kind a b load = is_inner n a && (leb 1 load && leb load 1000) && second_ok n kind a b

-- the i-th van's limits, where the entries begin at word `from`
abbrev pub limits_at_ok : List ℕ → ℕ → ℕ → Bool
limits_at_ok s from i = let p = from + size.van * i in limits_ok (word_at s p) (word_at s (p + 1)) (word_at s (p + 2))

-- the i-th node, where the entries begin at word `from`
abbrev pub node_at_ok : List ℕ → ℕ → ℕ → Bool
node_at_ok s from i = let p = from + size.node * i in node_ok (word_at s p) (word_at s (p + 1)) (word_at s (p + 2)) (word_at s (p + 3))

-- the i-th job, where the entries begin at word `from`
abbrev pub job_at_ok : List ℕ → ℕ → ℕ → ℕ → Bool
job_at_ok s n from i = let p = from + size.job * i in job_ok n (word_at s p) (word_at s (p + 1)) (word_at s (p + 2)) (word_at s (p + 3))

-- the i-th entry of a table: "each 0 to 1,000,000"
abbrev pub entry_ok : List ℕ → ℕ → ℕ → Bool
entry_ok s from i = leb (word_at s (from + i)) 1000000
