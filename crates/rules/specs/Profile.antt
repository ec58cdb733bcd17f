-- Clean before soiled (02, No. 11): which stops are clean, which are soiled, and in what order they may stand.
use Rattle.std.specs.Prelude.{ℕ, Bool, true, false, not, ◌&&◌, List, [], ◌∷◌, eqb}
use Rattle.laws.specs.Basic.{any}
use Rattle.rules.specs.Day.{Day}
use Rattle.rules.specs.declared.Job.{Job}
use Rattle.rules.specs.declared.Job.TheVariants.{Clean, Soiled, Transfer}

-- a clean job at x
abbrev pub clean_at : ℕ → Job → Bool
clean_at x = elim [ Clean a w ↦ eqb a x | Soiled a w ↦ false | Transfer a b w ↦ false ]

-- a soiled job at x
abbrev pub soiled_at : ℕ → Job → Bool
soiled_at x = elim [ Clean a w ↦ false | Soiled a w ↦ eqb a x | Transfer a b w ↦ false ]

-- x is a clean stop where it has a clean job
unfoldable pub is_clean : Day → ℕ → Bool
is_clean d x = any (clean_at x) d.jobs

-- x is a soiled stop where it has a soiled job; "One stop may have both."
unfoldable pub is_soiled : Day → ℕ → Bool
is_soiled d x = any (soiled_at x) d.jobs

-- "no stop with a soiled job may come before another stop with a clean job"
abbrev pub clean_first : Day → List ℕ → Bool
clean_first d [] = true
clean_first d (x ∷ R) = not (is_soiled d x && any (is_clean d) R) && clean_first d R

-- x in the leg (A, B) mixes nothing: not "a soiled node's place when a clean stop lies after it", and not "a clean node's place when a soiled stop is at or
-- before it"
abbrev pub unmixed : Day → ℕ → List ℕ → List ℕ → Bool
unmixed d x A B = not (is_soiled d x && any (is_clean d) B) && not (is_clean d x && any (is_soiled d) A)
