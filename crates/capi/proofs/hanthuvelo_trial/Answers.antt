use mathlib.Core.Path.{sym, subst}
use Rattle.trial.specs.Trial.{Trial}
use Rattle.capi.proofs.hanthuvelo_trial.Goals as goal

pub returns : goal.returns
returns c =
    let r = c.trial-writing in
    let s = c.args in
    subst (λ t. Trial s.header.now s.coefficients.now s.start s.spoiled s.area.now t r.new.area) (sym c.from.ensures) r.ensures
