-- The tests one after the other: each that fails refutes, and together they prove.
use mathlib.Core.Path.{◌≡◌, sym, ap, ◌∙◌}
use mathlib.Core.Bool.{false}
use mathlib.Core.List.{List}
use Prim.Native.Nat.{ℕ, ◌-◌, ◌<◌}
use native.Mathlib.Omega.{arith}
use lib.ListN.{length, take, drop, length-drop, length-take}
use lib.Seq.{take_all}
use Rattle.lists.proofs.Truth.{clash}
use Rattle.format.specs.declared.Bounds.{Bounds}
use Rattle.format.specs.Bounds.{prime_of, answer_length_of, FitsPolynomials}
use Rattle.poly.specs.Coefficients.{Stored}
use Rattle.problem.specs.Reduced.{Same}
use Rattle.problem.specs.Answers.{Within}
use Rattle.problem.proofs.Same.{same_sym, same_if_equal, within_same, reduced-same}
use Rattle.answer.specs.Coefficients.{coefficient_length_of, denominator_of, numerator_of, any_too_large}
use Rattle.answer.proofs.Ranges.{not_large, denominator_bounded, numerator_bounded, denominator_stored, numerator_stored}
use Rattle.offered_answer.specs.Tests.{offered_denominator, offered_numerator}
use Rattle.offered_answer.proofs.Testing.{agree_same}
use Rattle.offered_answer.proofs.passes.Goals as goal

-- the part of the offered bytes behind their word, as the code takes it
abbrev behind : List ℕ → List ℕ
behind a = take (length a - 4) (drop 4 a)

whole : (a : List ℕ) → behind a ≡ drop 4 a
whole a = take_all (length a - 4) (drop 4 a) (omega (arith, length-drop 4 a))

-- what was read of it: the numerators f and the denominator g, whose coefficients are all below p
module _ (b : Bounds) (a : List ℕ) {f : ℕ → List ℕ} {g : List ℕ} (eg : g ≡ denominator_of b (behind a))
    (ef : (i : ℕ) → i < b.outputs → f i ≡ numerator_of b (behind a) i) where
  listed : Same b.outputs f g (offered_numerator b a) (offered_denominator b a)
  listed = same_if_equal (λ i l. ef i l ∙ ap (λ t. numerator_of b t i) (whole a)) (eg ∙ ap (denominator_of b) (whole a))

  module _ (few : any_too_large b (behind a) ≡ false) where
    below : any_too_large b (drop 4 a) ≡ false
    below = ap (any_too_large b) (sym (whole a)) ∙ few

    module _ (fits : FitsPolynomials b) (size : length a ≡ answer_length_of b) where
      within : Within b f g
      within =
          let behind_size : length (drop 4 a) ≡ coefficient_length_of b = omega (arith, length-drop 4 a) in
          let low = not_large b (drop 4 a) below in
          within_same (same_sym listed) (record {
            numerators = numerator_bounded b fits (drop 4 a) behind_size low;
            denominator = denominator_bounded b fits (drop 4 a) behind_size low;
          })

      stored : Stored (prime_of b) g × ((i : ℕ) → i < b.outputs → Stored (prime_of b) (f i))
      stored =
          let behind_size : length (behind a) ≡ coefficient_length_of b = omega (arith, length-drop 4 a, length-take {A = ℕ}) in
          let low = not_large b (behind a) few in
          (rw eg (denominator_stored b fits (behind a) behind_size low), λ i l. rw (ef i l) (numerator_stored b fits (behind a) behind_size low i l))

pub rows_agree-requires : goal.rows_agree-requires
rows_agree-requires c =
    let v = c.in-Some.ensures in
    (c.requires.0, c.requires.1, within c.args.b c.args.offered.now v.denominator v.numerators (sym v.range) c.requires.1 c.requires.2)

pub is_reduced-requires : goal.is_reduced-requires
is_reduced-requires c =
    let v = c.in-Some.ensures in
    let S = stored c.args.b c.args.offered.now v.denominator v.numerators (sym v.range) c.requires.1 c.requires.2 in
    (omega (arith, c.requires.1.few), S.0, λ i l. S.1 i (omega arith))

pub returns-else-rows_agree : goal.returns-else-rows_agree
returns-else-rows_agree c =
    let v = c.in-Some.ensures in
    let same = listed c.args.b c.args.offered.now v.denominator v.numerators in
    let agree = rw c.word_from.ensures at c.rows_agree.ensures in (
      λ t. clash (sym t ∙ c.if-rows_agree.false),
      λ p. agree.1 (agree_same (same_sym same) p.rows),
    )

pub returns-then-rows_agree : goal.returns-then-rows_agree
returns-then-rows_agree c =
    let b = c.args.b in
    let a = c.args.offered.now in
    let v = c.in-Some.ensures in
    let same = listed b a v.denominator v.numerators in
    let agree = rw c.word_from.ensures at c.rows_agree.ensures in (
      λ reduced. record {
        below = below b a v.denominator v.numerators (sym v.range);
        reduced = reduced-same same (c.is_reduced.ensures.0 reduced);
        rows = agree_same same (agree.0 c.if-rows_agree.true);
      },
      λ p. c.is_reduced.ensures.1 (reduced-same (same_sym same) p.reduced),
    )
