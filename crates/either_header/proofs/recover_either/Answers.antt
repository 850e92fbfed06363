use Rattle.either_header.proofs.Alike.{either_header}
use Rattle.either_header.proofs.recover_either.Goals as goal

pub returns : goal.returns
returns c =
    let one = c.recover-first in
    let two = c.recover-second in
    either_header _ _ _ _ one.ensures two.ensures
