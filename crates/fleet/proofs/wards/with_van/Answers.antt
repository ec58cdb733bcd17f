use mathlib.Core.Path.{ap, ◌∙◌}
use Prim.Native.Nat.{ℕ, ◌-◌}
use Rattle.bits.specs.Places.{has, without}
use Rattle.board.specs.Board.{Board, board}
use Rattle.fleet.proofs.WardLaws.{on-wards, open-wards, adds-van}
use Rattle.fleet.proofs.Told.{is-words}
use Rattle.fleet.proofs.wards.with_van.Goals as goal

pub returns : goal.returns
returns c =
    let n = c.args.n in
    let w = c.args.wards in
    let two = c.requires.0 in
    let small = c.requires.1.0 in
    let here : Board = board c.args.route.now c.args.stops c.args.sets.now 0 0 in
    let on-is = c.take-on.ensures ∙ ap (λ (w : ℕ). without w (n - 1)) (c.take.ensures ∙ ap (λ (w : ℕ). without w 0) c.word.ensures) in
    let open-is = c.take-open.ensures ∙ ap (λ (w : ℕ). without w (n - 1)) c.take-2.ensures in
    let f = is-words w _ c.well_formed.0 in
    rw (c.join.ensures, c.join-3.ensures, c.join-2.ensures, c.apart.ensures, c.apart-2.ensures)
    (adds-van n two small w here c.take-on.result c.take-open.result f.0 f.1
    (λ y. ap (λ (w : ℕ). has w y) on-is ∙ on-wards n two small here c.requires.1 y)
    (λ y. ap (λ (w : ℕ). has w y) open-is ∙ open-wards n two small here c.open_wards.result c.open_wards.ensures y))
