-- The leading zeros of a 32-bit number are the rows before the first isSet one (`leading-set`).
use Rattle.row_mask.proofs.SetBits.{leading-set}
use Rattle.row_mask.proofs.first_wrong.Goals as goal

pub returns : goal.returns
returns c = leading-set c.args.word c.ranges.word.fits
