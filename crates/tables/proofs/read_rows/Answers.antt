use native.Mathlib.Omega.{arith}
use native.Mathlib.Nat.{suc-mul}
use Rattle.tables.proofs.SquareLaws.{rows-read}
use Rattle.tables.proofs.read_rows.Goals as goal

pub loop-i-preserved : goal.loop-i-preserved
loop-i-preserved c =
    let l = c.loop-i in
    let x = suc-mul l.i c.args.n in
    let y = suc-mul l.i c.args.wide in
    let v = l.invariant in
    (omega arith, omega arith, rows-read c.requires.0 v.2 c.loop-i-test.true c.requires.1 (omega arith) v.0 v.1 c.read_row.ensures)
