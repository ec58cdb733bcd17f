-- What was put from the front on is what stands there.
use Rattle.std.proofs.Common.{arith}
use borrow.Author.Tests.{lt-ltb, le-ltb}
use Prim.Native.Char.{code}
use Rattle.listing.specs.Text.{bytes, refused_line}
use Rattle.listing.proofs.PutLaws.{put_first, put-length}
use Rattle.listing.proofs.TextLaws.{field-takes}
use Rattle.dock.specs.Listing.{printed}
use Rattle.round.proofs.put_printed.Goals as goal

pub returns-then-input-gt-SHEET : goal.returns-then-input-gt-SHEET
unfolding printed refused_line
returns-then-input-gt-SHEET c =
    let put = rw c.number.ensures at c.put_refused.ensures in
    let takes = field-takes (bytes "refused") _ (code "\n") put in
    (rw (lt-ltb _ _ c.if-input-gt-SHEET.true) (put_first put (omega (arith, takes.0, c.requires.1))), omega (arith, takes.0, takes.1, c.requires.1))

pub returns : goal.returns
unfolding printed
returns c =
    let put = c.list.ensures in
    (rw (le-ltb _ _ c.if-input-gt-SHEET.false) (rw c.requires.0 at (put_first put.0 (omega (arith, put.1, c.requires.1)))), omega (arith, put.1, put-length put.0, c.requires.1))
