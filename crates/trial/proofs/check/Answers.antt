use Rattle.header.proofs.Fields.{fits-header}
use Rattle.trial.proofs.check.Goals as goal

pub check_rules-requires : goal.check_rules-requires
check_rules-requires c = rw c.requires (fits-header _)

pub rows_needed-requires : goal.rows_needed-requires
rows_needed-requires c = rw c.requires (fits-header _)
