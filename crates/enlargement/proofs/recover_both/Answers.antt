-- Each call has settled its own job, and the rule follows from what both have settled.
use Rattle.enlargement.proofs.Exactly.{answered_exactly}
use Rattle.enlargement.proofs.Rule.{enlargement, enlargement_whole}
use Rattle.enlargement.proofs.recover_both.Goals as goal

pub returns : goal.returns
returns c =
    let one = c.recover-first in
    let two = c.recover-second in
    record {
      first = one.ensures;
      second = two.ensures;
      first_answered = answered_exactly _ _ _ _ one.ensures;
      second_answered = answered_exactly _ _ _ _ two.ensures;
      enlargement = enlargement one.ensures two.ensures;
      enlargement_whole = enlargement_whole one.ensures two.ensures;
    }
