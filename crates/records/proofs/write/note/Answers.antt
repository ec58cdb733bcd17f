use mathlib.Core.Path.{◌≡◌, refl, ◌∙◌}
use Prim.Native.Nat.{◌+◌}
use Rattle.records.specs.Trail.{room_of}
use Rattle.records.proofs.TrailLaws.{note-none, note-next, note-grows, note-end, shrunk-none, shrunk-upto, shrunk-differ}
use native.Mathlib.Omega.{arith}
use Rattle.records.proofs.write.note.Goals as goal

pub loop-y-init : goal.loop-y-init
loop-y-init c = let a = c.args in (omega (arith, shrunk-none a.old.now a.new.now), refl, note-none _ _ _)

pub note_one-i-requires : goal.note_one-i-requires
unfolding room_of
note_one-i-requires c =
    let v = c.loop-y.invariant in
    let old = c.args.old.now in
    let new = c.args.new.now in
    let h = c.requires.2 in (
      omega arith,
      omega (arith, h, c.well_formed, shrunk-upto old new c.loop-y.y 64 (omega arith)),
      λ d. omega (arith, v.0, v.1, h, shrunk-differ old new c.loop-y.y d, shrunk-upto old new (c.loop-y.y + 1) 64 (omega arith)),
    )

pub loop-y-preserved : goal.loop-y-preserved
loop-y-preserved c =
    let v = c.loop-y.invariant in
    let e = c.note_one-i.ensures in
    let g = note-grows _ _ _ _ _ _ _ e v.0 in
    (g.0, g.1 ∙ v.1, note-next _ _ _ _ v.2 e)

pub returns : goal.returns
returns c =
    let all : c.loop-y.y ≡ c.args.n = omega arith in
    note-end _ _ _ 64 _ c.requires.0 c.requires.1 ∙ rw all at c.loop-y.invariant.2
