use Rattle.std.proofs.Common.{rules}
use Prim.Native.Nat.{ℕ}
use mathlib.Core.Bool.{◌&&◌}
use borrow.Author.Tests.{tests}
use Rattle.laws.proofs.Ranges.{all_over_range}
use Rattle.rules.specs.Class.{admits}
use Rattle.day.specs.Tell.{bit_of}
use Rattle.day.specs.Refuse.{ends_admit}
use Rattle.day.proofs.classes.ends_admit.Goals as goal

pub returns : goal.returns
unfolding ends_admit
returns c =
    let admitted = λ (i : ℕ). admits c.class-start.result (bit_of c.args.s.now i) && admits c.class-end.result (bit_of c.args.s.now i) in
    rw (c.class-start.ensures, c.class-end.ensures, c.requires.nodes, c.requires.vans)
    at (all_over_range c.args.l.vans admitted c.all.ensures.ran (cc) (λ x b q k. search (rules, tests)))
