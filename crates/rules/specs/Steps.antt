-- What the steps do to a plan, and which rounds use a place.
use Rattle.std.specs.Prelude.{ℕ, Bool, false, cond, not, ◌&&◌, ◌||◌, List, [], ◌∷◌, eqb}
use Rattle.rules.specs.Plan.{Plan, Places}

-- the route with x after p
abbrev pub put_after : ℕ → ℕ → List ℕ → List ℕ
put_after p x [] = []
put_after p x (c ∷ r) = cond (eqb c p) (c ∷ x ∷ r) (c ∷ put_after p x r)

-- both halves of the split leg, p's and x's, inherit what the leg had open, for each other node
abbrev pub split : ℕ → ℕ → Places → Places
split p x o y q = not (eqb y x) && cond (eqb q x) (o y p) (o y q)

-- step 1: place x after p
abbrev pub placed : ℕ → ℕ → Plan → Plan
placed p x a = record { route = put_after p x a.route; places = split p x a.places; marks = a.marks }

-- step 2: close the place p of x
abbrev pub closed : ℕ → ℕ → Plan → Plan
closed p x a = record { route = a.route; places = λ y q. a.places y q && not (eqb y x && eqb q p); marks = a.marks }

-- step 3: exclude x, close all its places
abbrev pub excluded : ℕ → Plan → Plan
excluded x a = record { route = a.route; places = λ y q. a.places y q && not (eqb y x); marks = a.marks }

-- step 4: require x
abbrev pub required : ℕ → Plan → Plan
required x a = record { route = a.route; places = a.places; marks = λ y. a.marks y || eqb y x }

-- in the round that goes on with R after the stop c, where the route goes on with r, x stands in the leg that leaves p
abbrev pub uses_after : ℕ → ℕ → ℕ → List ℕ → List ℕ → Bool
uses_after p x c r [] = false
uses_after p x c [] (y ∷ R) = false
uses_after p x c (k ∷ r) (y ∷ R) = cond (eqb y k) (uses_after p x k r R) (cond (eqb y x) (eqb c p) (uses_after p x c (k ∷ r) R))

-- the round uses place p of x: x is in it, and p is the last stop of the route before x
abbrev pub uses : ℕ → ℕ → List ℕ → List ℕ → Bool
uses p x [] R = false
uses p x (z ∷ r) [] = false
uses p x (z ∷ r) (y ∷ R) = uses_after p x z r R
