use borrow.Author.Tests.{not-true, eqb-true, eqb-false}
use Rattle.laws.proofs.Logic.{and-true}
use Rattle.settle.specs.Round.{pair_leaves}
use Rattle.settle.proofs.Strikes.{kepts-two, kepts-empty, flag-none, pair-flag}
use Rattle.settle.proofs.strike.strike_pair.Goals as goal

pub returns-then-a-b : goal.returns-then-a-b
unfolding pair_leaves
returns-then-a-b c =
    let z = and-true _ _ c.if-a-b.true in
    (kepts-empty _ _ _ _ c.requires.len.0 (eqb-true _ 0 z.0) (eqb-true _ 0 z.1), flag-none c.args.struck c.args.new.now)

pub returns : goal.returns
unfolding pair_leaves
returns c =
    let h = c.requires.t_len.1 in
    let ne = eqb-false _ _ (not-true _ c.requires.t_len.2) in
    let ride = c.ride_of-ride.ensures in (
      kepts-two c.requires.len.0 h.0 h.1 ne (rw ride at c.backward-c.ensures) (rw ride at c.forward-d.ensures),
      pair-flag c.args.struck c.args.new.now _ _ _ _ c.requires.len.0 h.0 h.1 ne,
    )
