-- A trial job read back: its header, its points and its values.
use Prim.Native.Nat.{ℕ, zero, suc, ◌+◌, ◌*◌, ◌/◌, ◌%◌, ◌≤◌, ◌<◌}
use mathlib.Core.Path.{◌≡◌, ap, ap₂, ◌∙◌}
use mathlib.Core.List.{List}
use mathlib.Core.Logic.{◌⊎◌, inl, inr}
use native.Mathlib.Nat.{mul-le-mul_right, suc-mul, mod-lt}
use native.Mathlib.Omega.{arith}
use lib.Arith.{digits_div, digits_mod}
use lib.ListN.{length, get_or, length-append}
use Rattle.lists.proofs.Order.{lt_or_ge}
use Rattle.lists.proofs.Tabulated.{at_tabulate, at_tabulate_past}
use Rattle.field.proofs.Moduli.{modulus_prime, modulus_positive, modulus_small}
use Rattle.format.specs.Bounds.{prime_of}
use Rattle.header.specs.declared.Header.{Header}
use Rattle.header.specs.Header.{header_length_of, bounds_of, header_of, job_length_of}
use Rattle.header.proofs.Appended.{header-append}
use Rattle.header.proofs.Fields.{fits_fields}
use Rattle.rows.specs.Rows.{number_at}
use Rattle.std.specs.Prelude.{None}
use Rattle.marked_rows.specs.Marks.{mark_at, speaking, speaks, speaking_count}
use Rattle.marked_rows.proofs.Marks.{unmarked_if_small}
use Rattle.lists.specs.Counting.{count_below}
use Rattle.lists.proofs.Counting.{count_all}
use Rattle.answer.specs.Bytes.{coefficient_bytes}
use Rattle.answer.proofs.Lengths.{length-coefficients}
use Rattle.answer.proofs.Reading.{SixteenBits, number_behind, coefficient_of_bytes}
use Rattle.answer.specs.Coefficients.{denominator_of, numerator_of}
use Rattle.spoiling.specs.Spoiling.{added_by}
use Rattle.trial.specs.Rows.{trial_number, trial_numbers}
use Rattle.trial.proofs.Values.{value_before_below}
use Rattle.trial.proofs.Numbers.{row_below}
use Rattle.trial.specs.Trial.{trial_job}
use Rattle.trial.proofs.Facts.{TrialFacts}

module _ (h c : List ℕ) (start w : ℕ) (facts : TrialFacts h c w) where
  abbrev p : ℕ
  p = prime_of (bounds_of h)

  abbrev L : ℕ
  L = (bounds_of h).rows

  abbrev n : ℕ
  n = (bounds_of h).outputs

  abbrev pub refusal_number : ℕ → ℕ → ℕ
  refusal_number = trial_number p (numerator_of (bounds_of h) c) (denominator_of (bounds_of h) c) (added_by p L start w)

  abbrev numbers : List ℕ
  numbers = trial_numbers p (numerator_of (bounds_of h) c) (denominator_of (bounds_of h) c) (added_by p L start w) L n

  abbrev job : List ℕ
  job = trial_job h c start w

  pub job-length : length job ≡ job_length_of (header_of h)
  unfolding trial_job
  job-length = omega (arith, length-append h (coefficient_bytes numbers (L * (1 + n))), length-coefficients numbers (L * (1 + n)), facts.header_bytes)

  pub header-same : header_of job ≡ header_of h
  unfolding trial_job
  header-same = header-append h _ (omega (arith, facts.header_bytes))

  pub bounds_same : bounds_of job ≡ bounds_of h
  bounds_same = ap (λ (x : Header). x.bounds) header-same

  -- the numbers are residues
  pub number_below : (r column : ℕ) → r < L → refusal_number r column < p
  unfolding trial_number
  number_below r zero l = omega (arith, facts.distinct_points)
  number_below r (suc zero) l = mod-lt _ (modulus_positive (bounds_of h).prime)
  number_below r (suc (suc i)) l = value_before_below (modulus_prime (bounds_of h).prime) (numerator_of (bounds_of h) c) (denominator_of (bounds_of h) c) r (suc i)

  sixteen_bits : SixteenBits numbers
  unfolding trial_numbers
  sixteen_bits k = by (lt_or_ge k (L * (1 + n)))
    where
      by : (k < L * (1 + n)) ⊎ (L * (1 + n) ≤ k) → get_or numbers k 0 < 65536
      by (inl l) =
          let low = number_below (k / (1 + n)) (k % (1 + n)) (row_below L (1 + n) k (omega arith) l) in
          let small = modulus_small (bounds_of h).prime in
          rw (at_tabulate (L * (1 + n)) (λ j. refusal_number (j / (1 + n)) (j % (1 + n))) k l) (omega arith)
      by (inr l) = rw (at_tabulate_past (L * (1 + n)) (λ j. refusal_number (j / (1 + n)) (j % (1 + n))) k l) (omega arith)

  -- the number in row r and a column
  pub number_read : (r column : ℕ) → r < L → column ≤ n → number_at job r column ≡ refusal_number r column
  unfolding number_at trial_job trial_numbers
  number_read r column l m =
      let outputs = ap (λ b. b.outputs) bounds_same in
      let k = r * (1 + n) + column in
      let ends : suc r * (1 + n) ≤ L * (1 + n) = mul-le-mul_right (1 + n) l in
      let inside : k < L * (1 + n) = omega (arith, suc-mul r (1 + n)) in
      let behind = facts.header_bytes in
      let first = ap (λ (x : Header). x.length) header-same in
      rw (first, outputs)
      (number_behind h (coefficient_bytes numbers (L * (1 + n))) (header_length_of h + 2 * k) (2 * k) (omega arith)
      ∙ coefficient_of_bytes numbers sixteen_bits (L * (1 + n)) k inside
      ∙ at_tabulate (L * (1 + n)) (λ j. refusal_number (j / (1 + n)) (j % (1 + n))) k inside
      ∙ ap₂ refusal_number (digits_div r (omega arith)) (digits_mod r (omega arith)))

  pub point_read : (r : ℕ) → r < L → number_at job r 0 ≡ r
  unfolding trial_number
  point_read r l = number_read r 0 l (omega arith)

  -- the values are numbers below p, and no marks, also where marks are allowed: every row speaks
  pub row_unmarked : (r : ℕ) → r < L → mark_at job r ≡ None
  row_unmarked r l =
      let least = (fits_fields job).outputs_least in
      let outputs = ap (λ b. b.outputs) bounds_same in
      let below = number_below r 1 l in
      let small = modulus_small (bounds_of h).prime in
      unmarked_if_small _ (bounds_of job).outputs _ 0 (omega arith) (rw (number_read r 1 l (omega arith)) (omega arith))

  pub all_speak : speaking_count job ≡ L
  unfolding speaking_count
  all_speak = ap (λ b. count_below b.rows (speaks job)) bounds_same ∙ count_all L (speaks job) (λ r l. ap speaking (row_unmarked r l))
