use Rattle.fleet.proofs.Told.{is-held-all}
use Rattle.trial.proofs.Trial.{good-is, went, erred, no-level, kept, given_back}
use Rattle.trial.proofs.try_place.Goals as goal

pub returns-then-is_err : goal.returns-then-is_err
returns-then-is_err c = no-level _ _ _ _ _ _ c.step-level.ensures (erred _ c.is_err.ensures.negation c.if-is_err.true)

pub returns-then-is_ok-alive : goal.returns-then-is_ok-alive
returns-then-is_ok-alive c =
    kept _ _ _ _ _ _ c.step-level.ensures (went _ c.is_err.ensures.negation c.if-is_err.false) c.step-placed.ensures c.step-settled.ensures
    (good-is _ c.step-placed.result.fleet _ _ _ _ c.is_ok.ensures.value c.is_ok-2.ensures.value c.unwrap_or-alive.ensures c.verdict.ensures c.if-is_ok-alive.true)

pub returns : goal.returns
returns c =
    given_back _ _ _ _ _ _ c.step-level.ensures (went _ c.is_err.ensures.negation c.if-is_err.false) c.step-placed.ensures c.step-settled.ensures
    (is-held-all c.args.fleet _ c.well_formed.1.0)
    (good-is _ c.step-placed.result.fleet _ _ _ _ c.is_ok.ensures.value c.is_ok-2.ensures.value c.unwrap_or-alive.ensures c.verdict.ensures c.if-is_ok-alive.false)
    c.step-back.ensures
