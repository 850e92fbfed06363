-- The enlargement rule's example meets its conditions.
use lib.ListN.{get_or}
use mathlib.Core.Path.{◌≡◌, refl, subst}
use mathlib.Core.List.{List}
use Prim.Native.Nat.{ℕ, zero, suc, ◌+◌, ◌*◌, ◌≤◌, ◌<◌}
use native.Mathlib.Omega.{arith}
use Rattle.lists.specs.Tabulated.{tabulate}
use Rattle.format.specs.Numbers.{number_from}
use Rattle.format.specs.Bounds.{numerator_bound_of, numerator_count}
use Rattle.poly.specs.Operations.{value_of}
use Rattle.cursor.specs.Bits.{field_of}
use Rattle.header.specs.Header.{outputs_of, df_of, spare_bit_of, numerator_bounds_of, flags_of, bounds_of}
use Rattle.marked_rows.specs.Marks.{mark_of}
use Rattle.lists.specs.Search.{first_below}
use Rattle.rows.specs.Rows.{number_at}
use Rattle.lists.specs.Counting.{count_below}
use Rattle.lists.specs.Overwriting.{overwritten}
use Rattle.answer.specs.Bytes.{numerator_start}
use Rattle.problem.specs.Rows.{wrong_row}
use Rattle.enlargement.specs.Enlargement.{AnsweredWith, row_bytes, same_bytes, further_wrong}
use Rattle.enlargement.proofs.Pair.{constant, pair_comparable}
use Rattle.examples.specs.Hand.{table}
use Rattle.examples.specs.Enlargement.{smaller, larger, f, g, RuleSpeaks}
use Rattle.examples.proofs.Hand.{all_hold}

at_zero : (P : ℕ → Type 0) (k : ℕ) → k ≤ 0 → P 0 → P k
at_zero P k l h = subst P (let e : 0 ≡ k = omega arith in e) h

listed : (area : List ℕ) → AnsweredWith smaller.job smaller.report (overwritten smaller.bytes area) f g 1
unfolding field_of outputs_of df_of spare_bit_of numerator_bounds_of bounds_of tabulate numerator_count
listed area = record {
  not_refused = refl;
  lists = record {
    denominator = λ k l. at_zero (λ k. number_from (overwritten smaller.bytes area) (4 + 2 * k) ≡ get_or g k 0) k l refl;
    numerators = numerators;
    meets = record { denominator = λ k l. constant 1 k l; numerators = λ i k li l. constant _ k (omega arith) };
  };
  count = refl;
}
  where
    numerators : (i k : ℕ) → i < 2 → k ≤ numerator_bound_of (bounds_of smaller.job) i
        → number_from (overwritten smaller.bytes area) (numerator_start (bounds_of smaller.job) i + 2 * k) ≡ get_or (f i) k 0
    numerators zero k li l = at_zero (λ k. number_from (overwritten smaller.bytes area) (numerator_start (bounds_of smaller.job) 0 + 2 * k) ≡ get_or (f 0) k 0) k l refl
    numerators (suc zero) k li l = at_zero (λ k. number_from (overwritten smaller.bytes area) (numerator_start (bounds_of smaller.job) 1 + 2 * k) ≡ get_or (f 1) k 0) k l refl
    numerators (suc (suc i)) k li l = absurd (omega arith)

further_wrong_lem : further_wrong smaller.job larger.job f g ≡ 1
unfolding field_of outputs_of spare_bit_of flags_of mark_of bounds_of row_bytes same_bytes first_below count_below wrong_row value_of number_at
further_wrong_lem = refl

pub rule_speaks : RuleSpeaks
unfolding field_of outputs_of spare_bit_of flags_of mark_of bounds_of row_bytes same_bytes first_below wrong_row value_of number_at table
rule_speaks area area' n n' = record {
  first = all_hold.1.0 area n;
  second = all_hold.0 area' n';
  answered = listed area;
  comparable = pair_comparable area' n';
  moved = refl;
  moved_wrong = (refl, refl);
  new_wrong = (refl, refl);
  further = further_wrong_lem;
  few = (let e = further_wrong_lem in omega arith);
}
