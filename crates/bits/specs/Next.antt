-- The members of a set one after the other, the least first.
use Rattle.std.specs.Prelude.{◌≡◌, ◌<◌, ℕ, Option, None, Some, MatchOption}
use Rattle.bits.specs.declared.Each.{Each}
use Rattle.bits.specs.Places.{lowest, without}

-- what comes of the members that are left, and which are left then: the least, or none where there is none
abbrev pub takes_least : Each → Option ℕ → Each → Type 0
takes_least old r new =
    MatchOption r ((old.left ≡ 0) × (new.left ≡ 0)) (λ x. (0 < old.left) × (x ≡ lowest old.left) × (new.left ≡ without old.left x))
