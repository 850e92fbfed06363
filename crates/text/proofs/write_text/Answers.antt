use Rattle.std.proofs.Common.{sym, ◌∙◌}
use Rattle.text.proofs.Writing.{fits_true}
use Rattle.text.proofs.write_text.Goals as goal

pub text_of-text-requires : goal.text_of-text-requires
text_of-text-requires c = fits_true c.args.bounds (sym c.bounds_fit.ensures ∙ c.if-not-bounds_fit.false)
