use mathlib.Core.Path.{sym, ◌∙◌}
use native.Mathlib.Omega.{arith}
use borrow.Author.Tests.{le-leb, lt-leb, eq-eqb, ne_eqb}
use Rattle.laws.proofs.Below.{below_at}
use Rattle.board.specs.Board.{board}
use Rattle.board.specs.Form.{board_ok}
use Rattle.board.proofs.TestLaws.{board-test, seen_none, seen-some, stop-below, nodes-test}
use Rattle.board.proofs.form.board_ok.Goals as goal

pub returns-then-stops-lt2 : goal.returns-then-stops-lt2
unfolding board_ok
returns-then-stops-lt2 c = rw (lt-leb 2 _ c.if-stops-lt2.true)

pub returns-then-n-stops : goal.returns-then-n-stops
unfolding board_ok
returns-then-n-stops c = rw (le-leb 2 _ c.if-stops-lt2.false, lt-leb _ _ c.if-n-stops.true)

pub returns-then-route-ne0 : goal.returns-then-route-ne0
unfolding board_ok
returns-then-route-ne0 c =
    rw (le-leb 2 _ c.if-stops-lt2.false, le-leb _ _ c.if-n-stops.false, ne_eqb _ 0 c.if-route-ne0.true)

pub returns-then-route-stops : goal.returns-then-route-stops
unfolding board_ok
returns-then-route-stops c =
    rw (le-leb 2 _ c.if-stops-lt2.false, le-leb _ _ c.if-n-stops.false, eq-eqb _ 0 c.if-route-ne0.false, ne_eqb _ _ c.if-route-stops.true)

pub returns-then-on-eq0 : goal.returns-then-on-eq0
returns-then-on-eq0 c =
    let a = c.args in
    let b = board a.route.now a.stops a.sets.now a.marks a.must in
    rw (
      board-test a.n b c.requires.0 c.if-stops-lt2.false c.if-n-stops.false c.if-route-ne0.false c.if-route-stops.false,
      seen_none a.n a.stops a.route.now c.requires.0 (omega arith) c.seen_of-on.ensures c.if-on-eq0.true,
    )

pub returns-then-not-none_from : goal.returns-then-not-none_from
returns-then-not-none_from c =
    let a = c.args in
    let b = board a.route.now a.stops a.sets.now a.marks a.must in
    let seen = seen-some a.n a.stops a.route.now c.requires.0 (omega arith) c.seen_of-on.ensures c.if-on-eq0.false in
    rw (
      board-test a.n b c.requires.0 c.if-stops-lt2.false c.if-n-stops.false c.if-route-ne0.false c.if-route-stops.false,
      seen.0,
      sym c.none_from.ensures ∙ c.if-not-none_from.true,
    )

pub stops_shut-requires : goal.stops_shut-requires
stops_shut-requires c =
    let a = c.args in
    let seen = seen-some a.n a.stops a.route.now c.requires.0 (omega arith) c.seen_of-on.ensures c.if-on-eq0.false in
    (omega arith, λ i h. omega (arith, stop-below a.n a.stops a.route.now i h (below_at a.stops i _ seen.0 h)))

pub returns : goal.returns
returns c =
    let a = c.args in
    let b = board a.route.now a.stops a.sets.now a.marks a.must in
    let seen = seen-some a.n a.stops a.route.now c.requires.0 (omega arith) c.seen_of-on.ensures c.if-on-eq0.false in
    rw (
      board-test a.n b c.requires.0 c.if-stops-lt2.false c.if-n-stops.false c.if-route-ne0.false c.if-route-stops.false,
      seen.0,
      sym c.none_from.ensures ∙ c.if-not-none_from.false,
      c.stops_shut.ensures,
      c.sets_ok.ensures,
      c.marks_ok.ensures,
      c.marks_ok-2.ensures,
      seen.1,
    ) (nodes-test a.n b c.requires.0 (omega arith) (omega arith) c.if-route-stops.false seen.0)
