use mathlib.Core.Path.{sym}
use native.Mathlib.Omega.{arith}
use Rattle.rules.proofs.Refusals.{refuses}
use Rattle.day.proofs.RefuseLaws.{call-zero}
use Rattle.listing.specs.Text.{refused_line, bytes}
use Rattle.listing.proofs.TextLaws.{field-takes}
use Rattle.dock.proofs.LineLaws.{listing-open, listing-refused}
use Prim.Native.Char.{code}
use Rattle.dock.proofs.lines.list.Goals as goal

pub put_all-requires : goal.put_all-requires
put_all-requires c = let e = c.in-Ok.ensures in (call-zero _ (sym e.number), e.layout, c.requires)

pub returns-in-Ok : goal.returns-in-Ok
returns-in-Ok c = (listing-open _ _ (sym c.in-Ok.ensures.number) c.put_all.ensures.0, c.put_all.ensures.1)

pub returns-in-Err : goal.returns-in-Err
unfolding refused_line
returns-in-Err c =
    let k = field-takes (bytes "refused") _ (code "\n") c.put_refused.ensures in
    (listing-refused _ _ c.in-Err.ensures.number (refuses _) (rw c.number.ensures at c.put_refused.ensures), omega (arith, k.0))
