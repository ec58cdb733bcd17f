-- The words of a state as the rules see them: the open places, and the one array of words that has given places.
use Rattle.std.specs.Prelude.{ℕ, zero, suc, Bool, cond, List, get_or, take}
use Rattle.laws.specs.Basic.{tab}
use Rattle.bits.specs.Places.{has, with}
use Rattle.rules.specs.Plan.{Plan, Places}

-- node x is open in the leg that leaves p: bit p of its word
abbrev pub places_in : List ℕ → Places
places_in ws x p = has (get_or ws x 0) p

-- a state's route, the first n entries of an array, its places and its marks
abbrev pub plan_from : List ℕ → ℕ → List ℕ → ℕ → Plan
plan_from l n ws marks = record { route = take n l; places = places_in ws; marks = has marks }

-- the word whose members are the numbers below k that pass f
unfoldable pub word_from : ℕ → (ℕ → Bool) → ℕ
word_from zero f = 0
word_from (suc k) f = cond (f k) (with (word_from k f) k) (word_from k f)

-- the words of the places o
unfoldable pub sets_of : Places → List ℕ
sets_of o = tab 64 (λ x. word_from 64 (o x))
