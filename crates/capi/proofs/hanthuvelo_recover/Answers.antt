use mathlib.Core.Path.{sym, subst}
use Rattle.recovery.specs.Recovery.{Settled}
use Rattle.capi.proofs.hanthuvelo_recover.Goals as goal

pub returns : goal.returns
returns c =
    let r = c.recover-recovery in
    let s = c.args in
    subst (λ t. Settled s.job.now s.area.now t r.new.area) (sym c.from.ensures) r.ensures
