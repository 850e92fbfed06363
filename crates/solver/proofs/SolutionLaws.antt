-- What the solver's steps ask, and its result, by how many rows are wrong for the candidate.
use mathlib.Core.Path.{◌≡◌, ap, ap₂, ◌∙◌}
use mathlib.Core.List.{List}
use Prim.Native.Nat.{ℕ, ◌≤◌, ◌<◌}
use native.Mathlib.Omega.{arith}
use borrow.Author.Tests.{lt-ltb, le-ltb}
use Rattle.std.specs.Prelude.{Ok}
use Rattle.format.specs.declared.Bounds.{Bounds}
use Rattle.format.specs.declared.Reason.TheVariants.{NoAnswer}
use Rattle.format.specs.Outcomes.{refused}
use Rattle.format.specs.Bounds.{FitsPolynomials, EnoughRows}
use Rattle.format.proofs.Sizes.{numerator_low, denominator-low}
use Rattle.poly.specs.declared.Vector.{Vector}
use Rattle.poly.specs.Vectors.{coefficients_at}
use Rattle.row_mask.specs.Word.{wrong_count_of}
use Rattle.candidate.specs.Extensions.{Fitting}
use Rattle.problem.specs.Answers.{Within}
use Rattle.solver.specs.Solutions.{word_by, counted_solution}

pub fits_polynomials : {b : Bounds} → EnoughRows b → FitsPolynomials b
fits_polynomials s = record {
  few = s.outputs;
  denominator-low = (let h = denominator-low s in omega arith);
  numerators-low = λ i l. (let h = numerator_low s i in omega arith);
}

pub fits-judge : {b : Bounds} {v : Vector} → Fitting b v → Within b (coefficients_at v.f) v.g.c
fits-judge h = record { denominator = h.denominator; numerators = λ i l. h.numerators i }

module _ (b : Bounds) (points weights values : List ℕ) (v : Vector) where
  pub counted_many : b.errors < wrong_count_of (word_by b points weights values v) → refused NoAnswer 0 ≡ counted_solution b points weights values v
  unfolding counted_solution
  counted_many many = simp (lt-ltb _ _ many)

  pub counted_few : {wrong word : ℕ} → word ≡ word_by b points weights values v → wrong ≡ wrong_count_of word → wrong ≤ b.errors
      → Ok (record { word = word; wrong = wrong; vector = v }) ≡ counted_solution b points weights values v
  unfolding counted_solution
  counted_few {wrong} {word} word_is count_is few =
      let count : wrong ≡ wrong_count_of (word_by b points weights values v) = count_is ∙ ap wrong_count_of word_is in
      let few' : wrong_count_of (word_by b points weights values v) ≤ b.errors = omega arith in
      simp (le-ltb _ _ few') (ap₂ (λ (w n : ℕ). Ok (record { word = w; wrong = n; vector = v })) word_is count)
