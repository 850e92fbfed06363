use mathlib.Core.Path.{ap, ◌∙◌}
use Rattle.reciprocal.specs.Reports.{reciprocal_report_of}
use Rattle.capi.proofs.hanthuvelo_reciprocal.Goals as goal

pub returns : goal.returns
returns c = c.from.ensures ∙ ap reciprocal_report_of c.coded_reciprocal-answer.ensures
