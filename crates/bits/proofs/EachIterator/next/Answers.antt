use Rattle.std.proofs.Common.{rules, arith, ◌<◌, ◌^◌}
use Rattle.bits.specs.Places.{without, lowest}
use Rattle.bits.proofs.Masks.{rest-less}
use Rattle.bits.proofs.EachIterator.next.Goals as goal

pub returns-clause-goes : goal.returns-clause-goes
returns-clause-goes c =
    let fits : c.args.self.now.left < 2 ^ 64 = omega (arith, c.well_formed) in
    let less : without c.args.self.now.left (lowest c.args.self.now.left) < c.args.self.now.left = rest-less c.args.self.now.left (omega arith) fits in
    search rules
