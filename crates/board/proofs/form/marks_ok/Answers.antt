use Rattle.board.proofs.TestLaws.{marks-test}
use Rattle.board.proofs.form.marks_ok.Goals as goal

pub returns : goal.returns
returns c = marks-test c.args.n c.args.marks c.requires.0 c.requires.1 c.ranges.marks.fits
