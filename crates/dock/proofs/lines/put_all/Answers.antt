use native.Mathlib.Omega.{arith}
use Rattle.listing.proofs.PutLaws.{put-length}
use Rattle.dock.proofs.Reach.{row-stops}
use Rattle.dock.proofs.LineLaws.{reached-at, whole-made}
use Rattle.dock.proofs.lines.put_all.Goals as goal

pub put_routes-requires : goal.put_routes-requires
put_routes-requires c =
    let l = c.requires.1 in
    let w = c.put_lines-used.ensures in (
      omega (arith, l.vans, l.fine.vans-high),
      omega (arith, w.2, put-length w.0, c.requires.2, l.steps, l.fine.k-high, l.vans, l.fine.vans-high),
      w.3,
      w.4,
      λ j h. row-stops c.requires.0 l c.put_lines-used.new.routes c.put_lines-used.new.sets c.put_lines-used.new.levels c.put_lines-used.new.figures w.4
          (reached-at _ _ _ c.requires.0 w.1) j (omega (arith, h, l.vans)),
    )

pub returns : goal.returns
returns c =
    let l = c.requires.1 in
    let w = c.put_lines-used.ensures in (
      whole-made _ _ l.steps l.vans w.1 w.0 (c.put_routes.ensures.1 c.put_lines-used.new.sets c.put_lines-used.new.levels),
      omega (arith, c.put_routes.ensures.0, w.2, l.steps, l.fine.k-high, l.vans, l.fine.vans-high),
    )
