-- What the interpolation starts from, and its rows.
use Rattle.std.specs.Prelude.{get_or, replicate, List, ◌∷◌, ℕ, ◌*◌, ◌%◌}
use Rattle.field.specs.declared.Prime.{Prime}
use Rattle.lanes.specs.declared.Modulus.{Modulus}
use Rattle.pairs.specs.declared.stepping.RowStep.{RowStep}
use Rattle.pairs.specs.declared.stepping.PairState.{PairState}
use Rattle.pairs.specs.declared.stepping.PairArrays.{PairArrays}

-- a pair of constants with the number e
abbrev pub state_at_start : ℕ → PairState
state_at_start e = record { e = e; n = 1; coefficients = 0; discrepancies = 0 }

-- the constants a and b, and their discrepancies d
abbrev pub pair_at_start : (a b e : ℕ) (d : List ℕ) → PairArrays
pair_at_start a b e d = record { state = state_at_start e; a = a ∷ replicate 31 0; b = b ∷ replicate 31 0; d = d }

-- row k, where xs holds the forms of the points
abbrev pub step_row : Prime → Modulus → (points xs : List ℕ) (rows k : ℕ) → RowStep
step_row q m points xs rows k =
    record { prime = q; index = k; rows = rows; point = get_or points k 0; x = record { form = get_or xs k 0; low = get_or xs k 0 * get_or m.inverse k 0 % 65536 } }
