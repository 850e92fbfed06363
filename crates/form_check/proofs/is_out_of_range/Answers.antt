use lib.Dec.{leb}
use lib.ListN.{get_or}
use Rattle.form_check.proofs.RangeTests.{any_of_four}
use Rattle.form_check.proofs.is_out_of_range.Goals as goal

pub returns : goal.returns
returns c =
    let a = c.args in
    any_of_four (leb a.p a.point) (λ i. leb a.p (get_or a.v i 0))
