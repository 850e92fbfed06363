-- The coefficients that were read, written as an answer has them, are the bytes that they were read from.
use Prim.Native.Nat.{ℕ, zero, suc, ◌+◌, ◌-◌, ◌*◌, ◌≤◌, ◌<◌}
use mathlib.Core.Path.{◌≡◌, refl, sym, ap, ap₂, ◌∙◌}
use mathlib.Core.List.{List, [], ◌∷◌, ◌++◌}
use native.Mathlib.Omega.{arith}
use lib.ListN.{length, get_or, take, drop}
use lib.Seq.{take-add, drop-drop, drop-cons, take_all}
use Rattle.format.specs.declared.Bounds.{Bounds}
use Rattle.format.specs.Bounds.{numerator_bound_of, FitsPolynomials}
use Rattle.answer.specs.Bytes.{two_bytes, coefficient_bytes, output_bytes, numerator_start}
use Rattle.answer.specs.Coefficients.{coefficient_length_of, polynomial_from, denominator_of, numerator_of}
use Rattle.answer.proofs.Places.{start_first, start-next, ends_within}
use Rattle.answer.proofs.Ranges.{coefficient_at}

-- every element is a byte
abbrev pub Bytes : List ℕ → Type 0
Bytes s = (k : ℕ) → get_or s k 0 < 256

-- two elements from place j on
next_two : (l : List ℕ) (j : ℕ) → j + 2 ≤ length l → take 2 (drop j l) ≡ get_or l j 0 ∷ get_or l (j + 1) 0 ∷ []
next_two l j h =
    ap (take 2) (drop-cons l j 0 (omega arith) ∙ ap (λ r. get_or l j 0 ∷ r) (drop-cons l (suc j) 0 (omega arith)))
    ∙ ap (λ k. get_or l j 0 ∷ get_or l k 0 ∷ []) (omega arith)

two_bytes_lem : (a b : ℕ) → a < 256 → b < 256 → two_bytes (a * 256 + b) ≡ a ∷ b ∷ []
two_bytes_lem a b ha hb = ap₂ (λ x y. x ∷ y ∷ []) (omega arith) (omega arith)

module _ (s : List ℕ) (bytes : Bytes s) where
  run_written : (from count : ℕ) → count ≤ 32 → from + 2 * count ≤ length s → (k : ℕ) → k ≤ count
      → coefficient_bytes (polynomial_from s from count) k ≡ take (2 * k) (drop from s)
  unfolding coefficient_bytes
  run_written from count fits room zero l = refl
  run_written from count fits room (suc k) l =
      let before = run_written from count fits room k (omega arith) in
      let more : 2 * suc k ≡ 2 * k + 2 = omega arith in
      let number = coefficient_at s from count fits k l in
      let pair = two_bytes_lem (get_or s (from + 2 * k) 0) (get_or s (from + 2 * k + 1) 0) (bytes (from + 2 * k)) (bytes (from + 2 * k + 1)) in
      ap₂ ◌++◌ before (ap two_bytes number ∙ pair ∙ sym (next_two s (from + 2 * k) (omega arith)) ∙ ap (take 2) (sym (drop-drop (2 * k) from s)))
      ∙ sym (take-add (2 * k) 2 (drop from s)) ∙ ap (λ n. take n (drop from s)) (sym more)

  module _ (b : Bounds) (fits : FitsPolynomials b) (size : length s ≡ coefficient_length_of b) where
    outputs_written : (i : ℕ) → i ≤ b.outputs → output_bytes b (numerator_of b s) i ≡ take (numerator_start b i - (4 + 2 * (b.dg + 1))) (drop (2 * (b.dg + 1)) s)
    unfolding output_bytes
    outputs_written zero l =
        let none : numerator_start b 0 - (4 + 2 * (b.dg + 1)) ≡ 0 = omega (arith, start_first b) in
        ap (λ n. take n (drop (2 * (b.dg + 1)) s)) (sym none)
    outputs_written (suc i) l =
        let count = numerator_bound_of b i + 1 in
        let front = 2 * (b.dg + 1) in
        let length_before = numerator_start b i - (4 + front) in
        let place : front + length_before ≡ numerator_start b i - 4 = omega arith in
        let longer : length_before + 2 * count ≡ numerator_start b (suc i) - (4 + front) = omega (arith, start-next b i) in
        let last = run_written (numerator_start b i - 4) count (let n = fits.numerators-low i l in omega arith) (omega (arith, ends_within b i l)) count (omega arith) in
        ap₂ ◌++◌ (outputs_written i (omega arith)) (last ∙ ap (λ j. take (2 * count) (drop j s)) (sym place) ∙ ap (take (2 * count)) (sym (drop-drop length_before front s)))
        ∙ sym (take-add length_before (2 * count) (drop front s)) ∙ ap (λ n. take n (drop front s)) longer

    pub coefficients_written : coefficient_bytes (denominator_of b s) (b.dg + 1) ++ output_bytes b (numerator_of b s) b.outputs ≡ s
    coefficients_written =
        let front = 2 * (b.dg + 1) in
        let rest = numerator_start b b.outputs - (4 + front) in
        ap₂ ◌++◌ (run_written 0 (b.dg + 1) (let l = fits.denominator-low in omega arith) (omega arith) (b.dg + 1) (omega arith)) (outputs_written b.outputs (omega arith))
        ∙ sym (take-add front rest s) ∙ take_all (front + rest) s (omega arith)
