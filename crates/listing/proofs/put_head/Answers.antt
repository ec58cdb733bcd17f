use native.Mathlib.Omega.{arith}
use Rattle.listing.specs.Text.{bytes}
use Rattle.listing.proofs.PutLaws.{put_then, takes-text}
use Rattle.listing.proofs.TextLaws.{put-fields, takes-number}
use Rattle.listing.proofs.put_head.Goals as goal

pub put_text-c-requires : goal.put_text-c-requires
put_text-c-requires c =
    omega (arith, takes-text c.put_text-a.ensures, takes-number _ c.put_number-b.ensures)

pub put_number-d-requires : goal.put_number-d-requires
put_number-d-requires c =
    omega (arith, takes-text c.put_text-a.ensures, takes-number _ c.put_number-b.ensures, takes-text c.put_text-c.ensures)

pub put_text-e-requires : goal.put_text-e-requires
put_text-e-requires c =
    omega (arith, takes-text c.put_text-a.ensures, takes-number _ c.put_number-b.ensures, takes-text c.put_text-c.ensures, takes-number _ c.put_number-d.ensures)

pub put_number-f-requires : goal.put_number-f-requires
put_number-f-requires c =
    omega (arith, takes-text c.put_text-a.ensures, takes-number _ c.put_number-b.ensures, takes-text c.put_text-c.ensures, takes-number _ c.put_number-d.ensures, takes-text c.put_text-e.ensures)

pub put_byte-requires : goal.put_byte-requires
put_byte-requires c =
    omega (arith, takes-text c.put_text-a.ensures, takes-number _ c.put_number-b.ensures, takes-text c.put_text-c.ensures, takes-number _ c.put_number-d.ensures, takes-text c.put_text-e.ensures, takes-number _ c.put_number-f.ensures)

pub returns : goal.returns
returns c =
    let a = put_then c.put_text-a.ensures c.put_number-b.ensures in
    let b = put_then (put_then a c.put_text-c.ensures) c.put_number-d.ensures in
    let d = put_then (put_then b c.put_text-e.ensures) c.put_number-f.ensures in
    put-fields (bytes "step") _ (bytes "answer") _ (bytes "open") _ _ (put_then d c.put_byte.ensures)
