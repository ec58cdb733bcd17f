-- All rounds of a small day, and belonging as a test, so that rounds can be counted.
use Rattle.std.specs.Prelude.{ℕ, zero, suc, ◌+◌, ◌-◌, Bool, true, false, cond, not, ◌&&◌, ◌||◌, List, [], ◌∷◌, ◌++◌, map, ◌≡◌, T, eqb}
use Rattle.laws.specs.Basic.{mem, hd, all}
use Rattle.rules.specs.Day.{Day, inner}
use Rattle.rules.specs.Plan.{Plan, Places}
use Rattle.rules.specs.Rounds.{Distinct}
use Rattle.rules.specs.Asked.{ends_with}

-- a round of the day: distinct nodes from 0 to n − 1
pub record RoundOf (d : Day) (R : List ℕ) : Type 0 where
  pub nodes : Distinct d.n R
  pub starts : hd R ≡ 0
  pub ends : T (ends_with (d.n - 1) R)

-- the list without its first x
abbrev pub less : ℕ → List ℕ → List ℕ
less x [] = []
less x (y ∷ l) = cond (eqb y x) l (y ∷ less x l)

-- f of every entry, one list after another
abbrev pub concat_map : (ℕ → List (List ℕ)) → List ℕ → List (List ℕ)
concat_map f [] = []
concat_map f (x ∷ l) = f x ++ concat_map f l

-- what may follow a stop: an order of some of the nodes l, at most f of them, then the end e
abbrev pub tails : ℕ → ℕ → List ℕ → List (List ℕ)
tails zero e l = (e ∷ []) ∷ []
tails (suc f) e l = (e ∷ []) ∷ concat_map (λ x. map (λ t. x ∷ t) (tails f e (less x l))) l

-- every list of distinct nodes from 0 to n − 1
unfoldable pub every_round : Day → List (List ℕ)
every_round d = map (λ t. 0 ∷ t) (tails (d.n - 2) (d.n - 1) (inner d))

-- how many entries pass f
abbrev pub count : (List ℕ → Bool) → List (List ℕ) → ℕ
count f [] = 0
count f (x ∷ l) = cond (f x) 1 0 + count f l

-- `Within` as a test, for a round of distinct nodes and places of nodes off the route
abbrev pub within_test : Places → ℕ → List ℕ → List ℕ → Bool
within_test o p [] [] = true
within_test o p (k ∷ r) [] = false
within_test o p [] (x ∷ R) = false
within_test o p (k ∷ r) (x ∷ R) = cond (eqb x k) (within_test o x r R) (o x p && within_test o p (k ∷ r) R)

-- `Inside` as a test
abbrev pub inside_test : Places → List ℕ → List ℕ → Bool
inside_test o [] R = false
inside_test o (z ∷ r) [] = false
inside_test o (z ∷ r) (y ∷ R) = eqb z y && within_test o z r R

-- the round belongs to a plan: `Belongs` as a test, for a round of the day
abbrev pub belongs : Day → Plan → List ℕ → Bool
belongs d a R = inside_test a.places a.route R && all (λ x. not (a.marks x) || mem x R) (inner d)
