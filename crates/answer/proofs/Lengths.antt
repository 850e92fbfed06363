-- How many bytes an answer and its parts have.
use Prim.Native.Nat.{ℕ, zero, suc, ◌+◌, ◌-◌, ◌*◌, ◌≤◌, ◌<◌}
use mathlib.Core.Path.{◌≡◌, refl, ap, ◌∙◌}
use mathlib.Core.List.{List, ◌++◌}
use native.Mathlib.Nat.{le_refl}
use native.Mathlib.Omega.{arith}
use lib.ListN.{length, get_or, length-append}
use Rattle.format.specs.declared.Bounds.{Bounds}
use Rattle.format.specs.Bounds.{numerator_bound_of, numerator_count, answer_length_of}
use Rattle.answer.specs.Bytes.{two_bytes, four_bytes, coefficient_bytes, output_bytes, answer_bytes, numerator_start}

pub length-coefficients : (a : List ℕ) (count : ℕ) → length (coefficient_bytes a count) ≡ 2 * count
unfolding coefficient_bytes
length-coefficients a zero = refl
length-coefficients a (suc count) =
    omega (arith, length-append (coefficient_bytes a count) (two_bytes (get_or a count 0)), length-coefficients a count)

-- one output more
pub length_output : (b : Bounds) (f : ℕ → List ℕ) (i : ℕ) → length (output_bytes b f (suc i)) ≡ length (output_bytes b f i) + 2 * (numerator_bound_of b i + 1)
unfolding output_bytes
length_output b f i =
    let count = numerator_bound_of b i + 1 in
    length-append (output_bytes b f i) (coefficient_bytes (f i) count)
    ∙ ap (λ k. length (output_bytes b f i) + k) (length-coefficients (f i) count)

-- the first i outputs take no more than all n
outputs_rising : (b : Bounds) (f : ℕ → List ℕ) (i m : ℕ) → length (output_bytes b f i) ≤ length (output_bytes b f (i + m))
outputs_rising b f i zero = let e : i + 0 ≡ i = omega arith in rw e (le_refl (length (output_bytes b f i)))
outputs_rising b f i (suc m) =
    let e : i + suc m ≡ suc (i + m) = omega arith in
    rw e (omega (arith, outputs_rising b f i m, length_output b f (i + m)))

pub output_within : (b : Bounds) (f : ℕ → List ℕ) (i n : ℕ) → i < n → length (output_bytes b f i) + 2 * (numerator_bound_of b i + 1) ≤ length (output_bytes b f n)
output_within b f i n h =
    let e : n ≡ suc i + (n - suc i) = omega arith in
    rw e (omega (arith, length_output b f i, outputs_rising b f (suc i) (n - suc i)))

length_outputs : (b : Bounds) (f : ℕ → List ℕ) (n : ℕ) → length (output_bytes b f n) ≡ 2 * numerator_count b n
unfolding output_bytes numerator_count
length_outputs b f zero = omega arith
length_outputs b f (suc n) = omega (arith, length_outputs b f n, length_output b f n)

-- where the last output ends
pub answer_end : (b : Bounds) (f : ℕ → List ℕ) → 4 + 2 * (b.dg + 1) + length (output_bytes b f b.outputs) ≡ answer_length_of b
answer_end b f = omega (arith, length_outputs b f b.outputs)

-- where output i begins
pub numerator_start_lem : (b : Bounds) (f : ℕ → List ℕ) (i : ℕ) → numerator_start b i ≡ 4 + 2 * (b.dg + 1) + length (output_bytes b f i)
numerator_start_lem b f i = omega (arith, length_outputs b f i)

pub length_front : (word : ℕ) (g : List ℕ) (count : ℕ) → length (four_bytes word ++ coefficient_bytes g count) ≡ 4 + 2 * count
length_front word g count =
    length-append (four_bytes word) (coefficient_bytes g count) ∙ ap (λ k. 4 + k) (length-coefficients g count)

-- the bytes are as many as paper 01's formula says
pub length_answer : (b : Bounds) (word : ℕ) (g : List ℕ) (f : ℕ → List ℕ) → length (answer_bytes b word g f) ≡ answer_length_of b
length_answer b word g f =
    let outputs = output_bytes b f b.outputs in
    length-append (four_bytes word ++ coefficient_bytes g (b.dg + 1)) outputs
    ∙ ap (λ k. k + length outputs) (length_front word g (b.dg + 1)) ∙ answer_end b f
