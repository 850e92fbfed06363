use mathlib.Core.Path.{ap, ◌∙◌}
use Rattle.form_check.specs.Reports.{form_report_of}
use Rattle.capi.proofs.hanthuvelo_check.Goals as goal

pub returns : goal.returns
returns c = c.from.ensures ∙ ap form_report_of c.check-check.ensures
