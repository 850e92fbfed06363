use mathlib.Core.Path.{sym, subst}
use Rattle.offered_answer.specs.Judgements.{Judged}
use Rattle.capi.proofs.hanthuvelo_judge.Goals as goal

pub returns : goal.returns
returns c =
    let j = c.judge-judgement in
    let s = c.args in
    subst (Judged s.job.now s.answer.now) (sym c.from.ensures) j.ensures
