use native.Mathlib.Omega.{arith}
use Rattle.day.proofs.Range.{van-limits}
use Rattle.day.proofs.look.van.Goals as goal

pub returns : goal.returns
returns c =
    let p = c.requires in
    let l = p.0 in
    let v = van-limits _ l.fine c.args.i (omega (arith, l.vans, p.1)) in
    let a = rw l.van at c.word.ensures.is in
    let b = rw l.van at c.word-2.ensures.is in
    (rw (a, b), omega (arith, v.capacity), omega (arith, v.limit))
