use Rattle.std.proofs.Common.{[], ◌∷◌}
use Rattle.text.specs.Decimal.{decimal_of}
use Rattle.text.proofs.Puts.{put_both}
use Rattle.text.proofs.draft.Draft.put_item.Goals as goal

pub returns : goal.returns
returns c = put_both c.args.self.now (32 ∷ []) (decimal_of c.args.value) c.put_byte.ensures c.put_decimal.ensures
