use mathlib.Core.Path.{◌≡◌}
use Prim.Native.Nat.{ℕ}
use Rattle.laws.specs.Basic.{any_below}
use Rattle.bits.specs.Places.{has}
use Rattle.day.specs.Tell.{job_in}
use Rattle.verdict.specs.Verdict.{joins}
use Rattle.verdict.proofs.partners.Given as goal

abbrev pub invariant-loop-j : goal.invariant-loop-j
invariant-loop-j l = (y : ℕ) → has l.word y ≡ any_below l.j (λ k. joins l.x y (job_in l.s k))
