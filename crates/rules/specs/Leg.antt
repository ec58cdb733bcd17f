-- A leg of a route is the route cut in two: `A` the stops behind, the newest first, and `B` the stops ahead. The leg leaves `hd A`,
-- which names it, and enters `hd B`.
use Rattle.std.specs.Prelude.{ℕ, Bool, true, false, cond, ◌&&◌, List, [], ◌∷◌, eqb}
use Rattle.laws.specs.Basic.{hd}

-- what is asked of a leg
abbrev pub OfLeg : Type 0
OfLeg = List ℕ → List ℕ → Bool

-- f on every leg from (A, B) to the last
abbrev pub legs_ahead : OfLeg → List ℕ → List ℕ → Bool
legs_ahead f A [] = true
legs_ahead f A (k ∷ B) = f A (k ∷ B) && legs_ahead f (k ∷ A) B

-- f on every leg from the first to (A, B)
abbrev pub legs_behind : OfLeg → List ℕ → List ℕ → Bool
legs_behind f [] B = true
legs_behind f (p ∷ A) B = f (p ∷ A) B && legs_behind f A (p ∷ B)

-- f on every leg of the route
abbrev pub every_leg : OfLeg → List ℕ → Bool
every_leg f [] = true
every_leg f (z ∷ r) = legs_ahead f (z ∷ []) r

-- f on the leg that leaves p, from (A, B) on
abbrev pub leg_from : OfLeg → ℕ → List ℕ → List ℕ → Bool
leg_from f p A [] = false
leg_from f p A (k ∷ B) = cond (eqb (hd A) p) (f A (k ∷ B)) (leg_from f p (k ∷ A) B)

-- f on the route's leg that leaves p; no such leg, no
abbrev pub on_leg : OfLeg → ℕ → List ℕ → Bool
on_leg f p [] = false
on_leg f p (z ∷ r) = leg_from f p (z ∷ []) r

-- the stops that a leg leaves: all but the last
abbrev pub leg_stops : List ℕ → List ℕ
leg_stops [] = []
leg_stops (c ∷ []) = []
leg_stops (c ∷ k ∷ r) = c ∷ leg_stops (k ∷ r)
