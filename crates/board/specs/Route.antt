-- Lists of nodes: the place of a node, a node put in or taken out of an array, the entries as a set.
use Rattle.std.specs.Prelude.{cond, List, [], ◌∷◌, ◌++◌, ℕ, zero, suc, get_or, take, drop, eqb}
use Rattle.bits.specs.Places.{with}

-- where p stands first in the list; the list's length where it does not
unfoldable pub index_of : ℕ → List ℕ → ℕ
index_of p [] = 0
index_of p (y ∷ ys) = cond (eqb y p) 0 (suc (index_of p ys))

-- x put in, in an array of k + 1 entries: those from `at` on move up by one, and the last one falls out
unfoldable pub insert_in : ℕ → ℕ → ℕ → List ℕ → List ℕ
insert_in k at x l = take at l ++ x ∷ drop at (take k l)

-- the entry at `at` taken out: those after it move down by one, and the last one becomes 0
unfoldable pub remove_in : ℕ → List ℕ → List ℕ
remove_in at l = take at l ++ (drop (suc at) l ++ 0 ∷ [])

-- the first k entries as a set
unfoldable pub word_of : ℕ → List ℕ → ℕ
word_of zero l = 0
word_of (suc k) l = with (word_of k l) (get_or l k 0)
