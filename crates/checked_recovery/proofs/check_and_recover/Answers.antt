use Rattle.checked_recovery.proofs.Claim.{checked_recovery}
use Rattle.checked_recovery.proofs.check_and_recover.Goals as goal

pub returns : goal.returns
returns c =
    checked_recovery c.args.job.now c.check-form.ensures _ c.recover-recovery.ensures
