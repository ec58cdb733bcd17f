use Rattle.std.proofs.lemmas.Bool.Decides.{nat_tests}
use native.Mathlib.Omega.{arith}
use mathlib.Core.Path.{sym}
use Rattle.laws.proofs.Peak.{peak-none, peak-next}
use Rattle.day.specs.Tell.{van_of}
use Rattle.day.proofs.look.largest.Goals as goal

pub loop-i-init : goal.loop-i-init
loop-i-init c = sym (peak-none _)

pub loop-i-preserved : goal.loop-i-preserved
loop-i-preserved c = let p = peak-next (λ k. (van_of c.args.s.now k).capacity) c.loop-i.i in grind (arith, nat_tests)
