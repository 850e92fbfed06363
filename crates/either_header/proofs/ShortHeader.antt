-- A field of a header is a quotient of its bytes as one number, so a job with the spare bit 0 is read as paper 01 has it.
use Prim.Native.Nat.{ℕ, zero, suc, ◌+◌, ◌-◌, ◌*◌, ◌/◌, ◌%◌, ◌^◌, ◌≤◌, ◌<◌}
use mathlib.Core.List.{List}
use mathlib.Core.Logic.{◌⊎◌, inl, inr}
use mathlib.Core.Path.{◌≡◌, refl, ap, ap₂, fun_ext, ◌∙◌}
use native.Mathlib.Omega.{arith}
use lib.ListN.{get_or}
use Rattle.lists.proofs.Order.{lt_or_ge}
use Rattle.lists.proofs.Tabulated.{tabulate_cong}
use Rattle.format.specs.declared.Bounds.{Bounds}
use Rattle.cursor.specs.Bits.{bit_of, field_of}
use Rattle.cursor.proofs.Fields.{first_bit, second_bit, field_of_number}
use Rattle.header.specs.Header.{df_of, spare_bit_of, numerator_bounds_of, bounds_of}
use Rattle.header.proofs.Fields.{outputs_by, df_by, bounds_by}
use Rattle.read_u64.specs.Words.{joined_bytes}
use Rattle.rows.specs.Rows.{number_at}
use Rattle.job.specs.Refusals.{outcome_of}
use Rattle.problem.specs.Answers.{wrong_at}
use Rattle.either_header.specs.Unflagged.{plain_wrong, Unflagged}
use Rattle.either_header.specs.ShortHeader.{header_number, short_df, short_bounds, short_number, short_outcome, ShortHeader}
use Rattle.either_header.proofs.Unflagged.{unflagged, short_unset}

module _ (s : List ℕ) (low : (k : ℕ) → get_or s k 0 < 256) where
  -- a bit of the first m bytes as one number
  bit_joined : (m k : ℕ) → k < 8 * m → bit_of s k ≡ joined_bytes s 0 m / 2 ^ (8 * m - (k + 1)) % 2
  unfolding joined_bytes
  bit_joined zero k l = absurd (omega arith)
  bit_joined (suc m) k l = by (bit_joined m k) (lt_or_ge k (8 * m))
    where
      by : (k < 8 * m → bit_of s k ≡ joined_bytes s 0 m / 2 ^ (8 * m - (k + 1)) % 2) → (k < 8 * m) ⊎ (8 * m ≤ k)
          → bit_of s k ≡ (joined_bytes s 0 m * 256 + get_or s (0 + m) 0) / 2 ^ (8 * suc m - (k + 1)) % 2
      by earlier (inl before) =
          let shift : 8 * suc m - (k + 1) ≡ 8 + (8 * m - (k + 1)) = omega arith in
          rw shift (earlier before ∙ first_bit (joined_bytes s 0 m) (get_or s (0 + m) 0) (8 * m - (k + 1)) (low (0 + m)))
      by earlier (inr last) =
          let byte : k / 8 ≡ 0 + m = omega arith in
          let place : 7 - k % 8 ≡ 8 * suc m - (k + 1) = omega arith in
          rw (byte, place) (second_bit (joined_bytes s 0 m) (get_or s (0 + m) 0) (8 * suc m - (k + 1)) (omega arith))

  -- a field within them
  pub field_joined : (m at bits : ℕ) → at + bits ≤ 8 * m → field_of s at bits ≡ joined_bytes s 0 m / 2 ^ (8 * m - (at + bits)) % 2 ^ bits
  field_joined m at bits inside =
      let behind : 8 * m - at - bits ≡ 8 * m - (at + bits) = omega arith in
      field_of_number s at (joined_bytes s 0 m) (8 * m - at) bits (omega arith)
      (λ k l. (let place : 8 * m - (at + k + 1) ≡ 8 * m - at - (k + 1) = omega arith in
      bit_joined m (at + k) (omega arith) ∙ ap (λ (x : ℕ). joined_bytes s 0 m / 2 ^ x % 2) place))
      ∙ ap (λ (x : ℕ). joined_bytes s 0 m / 2 ^ x % 2 ^ bits) behind

  three : joined_bytes s 0 3 ≡ header_number s
  unfolding joined_bytes
  three = omega arith

  field_short : (at bits : ℕ) → at + bits ≤ 24 → field_of s at bits ≡ header_number s / 2 ^ (24 - (at + bits)) % 2 ^ bits
  field_short at bits inside = field_joined 3 at bits inside ∙ ap (λ (x : ℕ). x / 2 ^ (24 - (at + bits)) % 2 ^ bits) three

  known : (at bits : ℕ) → at + bits ≤ 23 → field_of s at bits ≡ header_number s / 2 ^ (24 - (at + bits)) % 2 ^ bits
  known at bits inside = field_short at bits (omega arith)

  df_short : df_of s ≡ short_df s
  df_short = df_by s _ known

  module _ (spare : spare_bit_of s ≡ 0) where
    numerators-short : numerator_bounds_of s ≡ (short_bounds s).numerators
    unfolding numerator_bounds_of
    numerators-short = tabulate_cong 4 _ _ (λ i l. rw (spare, outputs_by s _ known, df_short) refl)

    bounds_short : bounds_of s ≡ short_bounds s
    bounds_short = bounds_by s _ known numerators-short

    numbers-short : number_at s ≡ short_number s
    unfolding number_at
    numbers-short = fun_ext (λ r. fun_ext (λ c. rw (spare, bounds_short) refl))

    plain : Unflagged s
    plain = unflagged s (short_unset s spare)

    tests-short : (area : ℕ) → outcome_of s area ≡ short_outcome s (short_bounds s) area
    tests-short area = plain.tests area ∙ rw (spare, bounds_short, numbers-short, df_short) refl

    wrong_short : (f : ℕ → List ℕ) (g : List ℕ) (r : ℕ) → wrong_at s f g r ≡ plain_wrong (short_bounds s) (short_number s) f g r
    wrong_short f g r = plain.wrong f g r ∙ ap₂ (λ (b : Bounds) (n : ℕ → ℕ → ℕ). plain_wrong b n f g r) bounds_short numbers-short

  pub short-header : header_number s % 2 ≡ 0 → ShortHeader s
  unfolding spare_bit_of
  short-header even =
      let spare : spare_bit_of s ≡ 0 = omega (arith, field_short 23 1 (omega arith)) in
      record {
        bounds = bounds_short spare;
        numbers = λ r c. ap (λ (n : ℕ → ℕ → ℕ). n r c) (numbers-short spare);
        tests = tests-short spare;
        wrong = wrong_short spare;
      }
