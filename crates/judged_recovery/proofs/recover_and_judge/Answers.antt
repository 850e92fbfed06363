use Rattle.judged_recovery.proofs.Claim.{judged_recovery}
use Rattle.judged_recovery.proofs.recover_and_judge.Goals as goal

pub returns : goal.returns
returns c = judged_recovery _ _ c.judge-judgement.ensures _ c.recover-recovery.ensures
