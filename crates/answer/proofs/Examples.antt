-- For a reader: the definitions at some of paper 01's worked examples, and its numbers of bytes.
use Prim.Native.Nat.{ℕ, zero, suc, ◌+◌, ◌≤◌, ◌<◌}
use native.Mathlib.Omega.{arith}
use mathlib.Core.Path.{◌≡◌, refl}
use mathlib.Core.Bool.{cond}
use mathlib.Core.List.{[], ◌∷◌}
use lib.Dec.{eqb, lit≤}
use Rattle.field.specs.declared.Prime.TheVariants.{P7}
use Rattle.format.specs.declared.Bounds.{Bounds}
use Rattle.format.specs.Bounds.{numerator_bound_of, numerator_count, answer_length_of, FitsPolynomials}
use Rattle.answer.specs.Bytes.{coefficient_bytes, output_bytes, answer_bytes, numerator_start}
use Rattle.lists.specs.Overwriting.{overwritten}

-- H1: one output, three rows, df 0, dg 0, E 1
h1 : Bounds
h1 = record { prime = P7; outputs = 1; rows = 3; numerators = 0 ∷ 0 ∷ 0 ∷ 0 ∷ []; dg = 0; errors = 1 }

-- H8: two outputs, three rows, df 1, dg 1, E 0
h8 : Bounds
h8 = record { prime = P7; outputs = 2; rows = 3; numerators = 1 ∷ 1 ∷ 0 ∷ 0 ∷ []; dg = 1; errors = 0 }

-- H1: row 2 is wrong; 20000000 0001 0005, and what stands behind keeps its contents
h1_bytes : overwritten (answer_bytes h1 536870912 (1 ∷ []) (λ i. 5 ∷ [])) (9 ∷ 9 ∷ 9 ∷ 9 ∷ 9 ∷ 9 ∷ 9 ∷ 9 ∷ 77 ∷ [])
    ≡ 32 ∷ 0 ∷ 0 ∷ 0 ∷ 0 ∷ 1 ∷ 0 ∷ 5 ∷ 77 ∷ []
unfolding h1 coefficient_bytes output_bytes
h1_bytes = refl

-- H8: g = 1 + u, f1 = 1, f2 = u
h8_bytes : answer_bytes h8 0 (1 ∷ 1 ∷ []) (λ i. cond (eqb i 0) (1 ∷ 0 ∷ []) (0 ∷ 1 ∷ [])) ≡ 0 ∷ 0 ∷ 0 ∷ 0 ∷ 0 ∷ 1 ∷ 0 ∷ 1 ∷ 0 ∷ 1 ∷ 0 ∷ 0 ∷ 0 ∷ 0 ∷ 0 ∷ 1 ∷ []
unfolding h8 coefficient_bytes output_bytes
h8_bytes = refl

h8_length : answer_length_of h8 ≡ 16
unfolding h8 numerator_count
h8_length = refl

h8_start : numerator_start h8 1 ≡ 12
unfolding h8 numerator_count
h8_start = refl

h8_fits : FitsPolynomials h8
unfolding h8
h8_fits = record { few = lit≤ tt; denominator-low = lit≤ tt; numerators-low = low }
  where
    low : (i : ℕ) → i < 2 → numerator_bound_of h8 i ≤ 31
    low zero l = lit≤ tt
    low (suc zero) l = lit≤ tt
    low (suc (suc i)) l = absurd (omega arith)

-- three outputs with bounds of their own, 2, 0 and 1, and dg 0: the third begins behind the word, 1 coefficient of g, 3 of f1 and 1 of f2
own : Bounds
own = record { prime = P7; outputs = 3; rows = 3; numerators = 2 ∷ 0 ∷ 1 ∷ 0 ∷ []; dg = 0; errors = 0 }

own_start : numerator_start own 2 ≡ 14
unfolding own numerator_count
own_start = refl

own_length : answer_length_of own ≡ 18
unfolding own numerator_count
own_length = refl

own_bytes : answer_bytes own 0 (1 ∷ []) (λ i. (i + 2) ∷ (i + 3) ∷ 0 ∷ [])
    ≡ 0 ∷ 0 ∷ 0 ∷ 0 ∷ 0 ∷ 1 ∷ 0 ∷ 2 ∷ 0 ∷ 3 ∷ 0 ∷ 0 ∷ 0 ∷ 3 ∷ 0 ∷ 4 ∷ 0 ∷ 5 ∷ []
unfolding own coefficient_bytes output_bytes
own_bytes = refl
