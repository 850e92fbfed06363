-- One digit, or the digits of its tenth and then the last.
use Rattle.std.proofs.Common.{◌+◌, ◌%◌, ◌/◌, [], ◌∷◌, arith, ap, sym, ◌∙◌}
use Rattle.text.specs.Decimal.{decimal_of}
use Rattle.text.specs.Drafts.{extended}
use Rattle.text.proofs.Digits.{digit_alone, digit_behind}
use Rattle.text.proofs.Puts.{put_both}
use Rattle.text.proofs.draft.Draft.+put_decimal.Goals.{then-value-gt9, else-value-gt9}
use Rattle.text.proofs.draft.Draft.+put_decimal.Goals as goal

pub returns : goal.returns
returns t c =
    let held = c.args.self.now in
    let n = c.args.value in
    elim c.if-value-gt9.branch [
      | then-value-gt9 w ↦ put_both held (decimal_of (n / 10)) ((48 + n % 10) ∷ []) (w.self-is ∙ w.put_decimal.ensures) c.put_byte.ensures
          ∙ ap (extended held) (sym (digit_behind n (omega arith) (omega arith)))
      | else-value-gt9 w ↦ c.put_byte.ensures ∙ ap (λ d. extended d ((48 + n % 10) ∷ [])) w.self-is ∙ ap (extended held) (sym (digit_alone n (omega arith)))
    ]
