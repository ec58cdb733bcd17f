-- What was written for the bytes that were read is what is printed for the whole sheet.
use Rattle.std.proofs.Common.{rules, refl}
use Rattle.std.specs.Io.KnownBytes.{Appends}
use Rattle.round.proofs.Whole.{printed-whole, OnOk-map}
use Rattle.round.proofs.run.Goals as goal

pub put_printed-used-requires : goal.put_printed-used-requires
put_printed-used-requires g c = (refl, refl)

pub returns : goal.returns
returns g c =
    let read = c.in_ok-n.ensures in
    let writes = Appends (g.W.Write.contents c.args.output.now) (g.W.Write.contents c.write.new.output) in
    OnOk-map c.write.result (printed-whole (g.R.Read.remaining c.args.input.now) (g.R.Read.remaining c.read_full.new.input) c.in_ok-n.n c.read_full.new.buf writes read.bytes read.end (search rules) read.bound.0) c.write.ensures
