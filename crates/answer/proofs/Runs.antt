-- What is written behind a run of coefficients makes it longer.
use Prim.Native.Nat.{ℕ, ◌+◌, ◌*◌, ◌≤◌}
use mathlib.Core.Path.{◌≡◌, sym, ap, ◌∙◌}
use mathlib.Core.List.{List, ◌++◌}
use native.Mathlib.Numerals.{add-one}
use native.Mathlib.Omega.{arith}
use lib.ListN.{length, get_or}
use Rattle.format.specs.declared.Bounds.{Bounds}
use Rattle.format.specs.Bounds.{numerator_bound_of, answer_length_of}
use Rattle.answer.specs.Bytes.{two_bytes, four_bytes, coefficient_bytes, output_bytes, answer_bytes}
use Rattle.lists.specs.Overwriting.{overwritten, spliced}
use Rattle.lists.proofs.Splices.{splice_more, splice_behind}
use Rattle.answer.proofs.Lengths.{length-coefficients, length_output, length_front, answer_end}

pub next_coefficient : (at : ℕ) (a : List ℕ) (k written : ℕ) (old area : List ℕ) → written ≡ 2 * k → at + written ≤ length old → area ≡ spliced at (coefficient_bytes a k) old
    → spliced (at + written) (two_bytes (get_or a k 0)) area ≡ spliced at (coefficient_bytes a (k + 1)) old
unfolding coefficient_bytes
next_coefficient at a k written old area size fits before =
    splice_more at (coefficient_bytes a k) (two_bytes (get_or a k 0)) old (size ∙ sym (length-coefficients a k)) fits before
    ∙ ap (λ j. spliced at (coefficient_bytes a j) old) (sym (add-one k))

module _ (b : Bounds) (f : ℕ → List ℕ) (i written bound : ℕ) (size : written ≡ length (output_bytes b f i)) (known : bound ≡ numerator_bound_of b i) where
  pub next-size : written + 2 * (bound + 1) ≡ length (output_bytes b f (i + 1))
  next-size = let e = add-one i in rw e (omega (arith, length_output b f i))

  pub next_output : (at : ℕ) (old area more : List ℕ) → at + written ≤ length old → area ≡ spliced at (output_bytes b f i) old
      → more ≡ spliced (at + written) (coefficient_bytes (f i) (bound + 1)) area → more ≡ spliced at (output_bytes b f (i + 1)) old
  unfolding output_bytes
  next_output at old area more fits before added =
      added ∙ rw known (splice_more at (output_bytes b f i) (coefficient_bytes (f i) (numerator_bound_of b i + 1)) old size fits before)
      ∙ ap (λ j. spliced at (output_bytes b f j) old) (sym (add-one i))

-- the word, then g, then the outputs are the whole answer
pub whole_answer : (b : Bounds) (word : ℕ) (g : List ℕ) (f : ℕ → List ℕ) (old once twice whole : List ℕ) (next : ℕ) → answer_length_of b ≤ length old
    → once ≡ overwritten (four_bytes word) old
    → twice ≡ spliced 4 (coefficient_bytes g (b.dg + 1)) once
    → next ≡ 4 + 2 * (b.dg + 1)
    → whole ≡ spliced next (output_bytes b f b.outputs) twice
    → whole ≡ overwritten (answer_bytes b word g f) old
whole_answer b word g f old once twice whole next fits first second place third =
    let front = four_bytes word ++ coefficient_bytes g (b.dg + 1) in
    let long = length_front word g (b.dg + 1) in
    let end = answer_end b f in
    let both : twice ≡ overwritten front old =
    second ∙ ap (spliced 4 (coefficient_bytes g (b.dg + 1))) first
    ∙ splice_behind (four_bytes word) (coefficient_bytes g (b.dg + 1)) old (omega arith) in
    third ∙ rw (both, place, ← long) (splice_behind front (output_bytes b f b.outputs) old (omega arith))
