-- An answer's bytes read back as numbers.
use Prim.Native.Nat.{ℕ, zero, suc, ◌+◌, ◌*◌, ◌/◌, ◌%◌, ◌^◌, ◌≤◌, ◌<◌}
use mathlib.Core.Path.{◌≡◌, refl, sym, ap, subst, ◌∙◌}
use mathlib.Core.List.{List, ◌++◌}
use mathlib.Core.Logic.{⊎_elim}
use native.Mathlib.Nat.{eq-or-lt_of_le, le_of_suc-le-suc, lt-suc_self, div-div-eq-div-mul}
use native.Mathlib.Omega.{arith}
use lib.ListN.{length, get_or, drop, length-append, get_or-append}
use lib.Seq.{get_or-append-add}
use Rattle.format.specs.Numbers.{number_from}
use Rattle.format.specs.declared.Bounds.{Bounds}
use Rattle.format.specs.Bounds.{prime_of, numerator_bound_of}
use Rattle.field.proofs.Moduli.{modulus_small}
use Rattle.poly.specs.Coefficients.{Bounded}
use Rattle.answer.specs.Bytes.{two_bytes, four_bytes, coefficient_bytes, output_bytes, answer_bytes, numerator_start}
use Rattle.lists.specs.Overwriting.{overwritten}
use Rattle.answer.proofs.Lengths.{length-coefficients, output_within, length_front, numerator_start_lem}

-- numbers of 16 bits throughout
abbrev pub SixteenBits : List ℕ → Type 0
SixteenBits a = (k : ℕ) → get_or a k 0 < 65536

-- as polynomials modulo one of the primes have
pub residues_short : (b : Bounds) {n : ℕ} {a : List ℕ} → Bounded (prime_of b) n a → SixteenBits a
residues_short b h k = let l = h.residues k in let m = modulus_small b.prime in omega arith

-- a number in the first of two joined lists
number_before : (x y : List ℕ) (k : ℕ) → k + 1 < length x → number_from (x ++ y) k ≡ number_from x k
number_before x y k h = rw (get_or-append x y 0 k (omega arith), get_or-append x y 0 (k + 1) h)

-- a number in the second
pub number_behind : (x y : List ℕ) (j k : ℕ) → j ≡ length x + k → number_from (x ++ y) j ≡ number_from y k
number_behind x y j k place =
    let next : j + 1 ≡ length x + (k + 1) = omega arith in
    rw (next, place, get_or-append-add x y k 0, get_or-append-add x y (k + 1) 0)

number_of_bytes : (v : ℕ) → v < 65536 → number_from (two_bytes v) 0 ≡ v
number_of_bytes v small = omega arith

word_of_bytes : (w : ℕ) → w < 2 ^ 32 → number_from (four_bytes w) 0 * 65536 + number_from (four_bytes w) 2 ≡ w
word_of_bytes w small =
    let high : w / 16777216 % 256 * 256 + w / 65536 % 256 ≡ w / 65536 =
    ap (λ q. q % 256 * 256 + w / 65536 % 256) (sym (div-div-eq-div-mul w 65536 256)) ∙ number_of_bytes (w / 65536) (omega arith) in
    let quotient : w / 256 / 256 ≡ w / 65536 = div-div-eq-div-mul w 256 256 in
    omega arith

pub coefficient_of_bytes : (a : List ℕ) → SixteenBits a → (count k : ℕ) → k < count → number_from (coefficient_bytes a count) (2 * k) ≡ get_or a k 0
unfolding coefficient_bytes
coefficient_of_bytes a low zero k h = absurd (omega arith)
coefficient_of_bytes a low (suc count) k h =
    let front = coefficient_bytes a count in
    let here = get_or a count 0 in
    let long = length-coefficients a count in
    let last : number_from (front ++ two_bytes here) (2 * count) ≡ here =
    number_behind front (two_bytes here) (2 * count) 0 (omega arith) ∙ number_of_bytes here (low count) in
    ⊎_elim (λ e. subst (λ j. number_from (front ++ two_bytes here) (2 * j) ≡ get_or a j 0) (sym e) last)
    (λ before. number_before front (two_bytes here) (2 * k) (omega arith) ∙ coefficient_of_bytes a low count k before) (eq-or-lt_of_le (le_of_suc-le-suc h))

output_of_bytes : (b : Bounds) (f : ℕ → List ℕ) (n : ℕ) → ((i : ℕ) → i < n → SixteenBits (f i))
    → (i k : ℕ) → i < n → k ≤ numerator_bound_of b i → number_from (output_bytes b f n) (length (output_bytes b f i) + 2 * k) ≡ get_or (f i) k 0
unfolding output_bytes
output_of_bytes b f zero low i k h within = absurd (omega arith)
output_of_bytes b f (suc n) low i k h within =
    let front = output_bytes b f n in
    let bytes = coefficient_bytes (f n) (numerator_bound_of b n + 1) in
    ⊎_elim
    (λ e. subst (λ j. k ≤ numerator_bound_of b j → number_from (front ++ bytes) (length (output_bytes b f j) + 2 * k) ≡ get_or (f j) k 0) (sym e)
    (λ last. number_behind front bytes (length front + 2 * k) (2 * k) refl ∙ coefficient_of_bytes (f n) (low n (lt-suc_self n)) (numerator_bound_of b n + 1) k (omega arith)) within)
    (λ before. number_before front bytes (length (output_bytes b f i) + 2 * k) (omega (arith, output_within b f i n before))
    ∙ output_of_bytes b f n (λ j l. low j (omega arith)) i k before within) (eq-or-lt_of_le (le_of_suc-le-suc h))

-- in an area that holds an answer: its word, the coefficient of u^k in g, and that in the numerator of output i
module _ (b : Bounds) (word : ℕ) (g : List ℕ) (f : ℕ → List ℕ) (area : List ℕ) where
  pub read_word : word < 2 ^ 32
      → number_from (overwritten (answer_bytes b word g f) area) 0 * 65536 + number_from (overwritten (answer_bytes b word g f) area) 2 ≡ word
  read_word small = word_of_bytes word small

  pub read-denominator : SixteenBits g → (k : ℕ) → k ≤ b.dg
      → number_from (overwritten (answer_bytes b word g f) area) (4 + 2 * k) ≡ get_or g k 0
  read-denominator low k within =
      let count = b.dg + 1 in
      let front = four_bytes word ++ coefficient_bytes g count in
      let outputs = output_bytes b f b.outputs in
      let long = length_front word g count in
      let size = length-append front outputs in
      number_before (front ++ outputs) (drop (length (front ++ outputs)) area) (4 + 2 * k) (omega arith)
      ∙ number_before front outputs (4 + 2 * k) (omega arith)
      ∙ number_behind (four_bytes word) (coefficient_bytes g count) (4 + 2 * k) (2 * k) refl
      ∙ coefficient_of_bytes g low count k (omega arith)

  pub read_numerator : ((i : ℕ) → i < b.outputs → SixteenBits (f i)) → (i k : ℕ) → i < b.outputs → k ≤ numerator_bound_of b i
      → number_from (overwritten (answer_bytes b word g f) area) (numerator_start b i + 2 * k) ≡ get_or (f i) k 0
  read_numerator low i k exists within =
      let front = four_bytes word ++ coefficient_bytes g (b.dg + 1) in
      let outputs = output_bytes b f b.outputs in
      let long = length_front word g (b.dg + 1) in
      let size = length-append front outputs in
      let start = numerator_start_lem b f i in
      number_before (front ++ outputs) (drop (length (front ++ outputs)) area) (numerator_start b i + 2 * k)
      (omega (arith, output_within b f i b.outputs exists))
      ∙ number_behind front outputs (numerator_start b i + 2 * k) (length (output_bytes b f i) + 2 * k) (omega arith)
      ∙ output_of_bytes b f b.outputs low i k exists within
