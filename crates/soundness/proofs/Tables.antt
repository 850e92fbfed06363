-- The rows as the code holds them, as a problem of the method.
use lib.ListN.{get_or}
use mathlib.Core.Logic.{◌≢◌}
use mathlib.Core.List.{List}
use mathlib.Core.Path.{◌≡◌, sym, ◌∙◌}
use Prim.Native.Nat.{ℕ, ◌+◌, ◌*◌, ◌≤◌, ◌<◌}
use native.Mathlib.Nat.{mod-eq_of_lt}
use native.Mathlib.Omega.{arith}
use Rattle.algebra.proofs.Ring.{Ring}
use Rattle.algebra.proofs.Field.{Field}
use Rattle.algebra.proofs.Series.{Series}
use Rattle.method.proofs.Problem.{Evaluation, Problem, Clear, speaking_count, Ample}
use Rattle.field.proofs.Primality.{IsPrime}
use Rattle.field.proofs.Moduli.{modulus_prime}
use Rattle.reciprocal.proofs.PrimeField.{residue, equal_residue, residue_ring, residue_field}
use Rattle.format.specs.declared.Bounds.{Bounds}
use Rattle.format.specs.Bounds.{numerator_bound_of, EnoughRows, prime_of}
use Rattle.poly_meaning.proofs.Series.{series}

-- the problem of a table of rows, over the residues modulo its prime
module _ (b : Bounds) where
  abbrev pub P : IsPrime (prime_of b)
  P = modulus_prime b.prime

  abbrev pub R : Ring
  R = residue_ring (prime_of b) (modulus_prime b.prime)

  abbrev pub F : Field
  F = residue_field (prime_of b) (modulus_prime b.prime)

  -- a list of the code as a polynomial
  abbrev pub poly : List ℕ → Series (residue_ring (prime_of b) (modulus_prime b.prime))
  poly a = series (prime_of b) (modulus_prime b.prime) a

  abbrev pub evaluation : (points weights values : List ℕ) → ℕ → Evaluation (residue_ring (prime_of b) (modulus_prime b.prime))
  evaluation points weights values l =
      record {
        point = residue (prime_of b) (modulus_prime b.prime) (get_or points l 0);
        weight = residue (prime_of b) (modulus_prime b.prime) (get_or weights l 0);
        values = λ i. residue (prime_of b) (modulus_prime b.prime) (get_or values (l * 4 + i) 0);
      }

  abbrev pub problem : (points weights values : List ℕ) → Problem (residue_ring (prime_of b) (modulus_prime b.prime))
  problem points weights values =
      record {
        outputs = b.outputs;
        bound = numerator_bound_of b;
        denominator_bound = b.dg;
        errors = b.errors;
        count = b.rows;
        row = evaluation points weights values;
      }

-- what the rows keep to: sizes, residues, distinct points, marks, and S of them that speak, enough for every output
pub record Usable (b : Bounds) (S : ℕ) (points weights values : List ℕ) : Type 0 where
  pub enough_rows : EnoughRows b
  pub points_below : (l : ℕ) → get_or points l 0 < prime_of b
  pub weights_below : (l : ℕ) → get_or weights l 0 < 2
  pub distinct : (i j : ℕ) → i < j → j < b.rows → get_or points i 0 ≢ get_or points j 0
  pub clear : Clear (F b) b.outputs (evaluation b points weights values) b.rows
  pub speaking : speaking_count (F b) (problem b points weights values) ≡ S
  pub enough : (i : ℕ) → numerator_bound_of b i + b.dg + 2 * b.errors + 1 ≤ S

module _ (b : Bounds) (S : ℕ) (points weights values : List ℕ) (U : Usable b S points weights values) where
  abbrev p : ℕ
  p = prime_of b

  abbrev T : Problem (R b)
  T = problem b points weights values

  pub ample : Ample (F b) (problem b points weights values)
  ample = record {
    distinct = λ i j l l' e. U.distinct i j l l'
        (sym (mod-eq_of_lt (U.points_below i)) ∙ equal_residue p (P b) _ _ e ∙ mod-eq_of_lt (U.points_below j));
    clear = U.clear;
    room = (let h = U.enough 0 in omega (arith, U.speaking));
    enough = λ i l. (let h = U.enough i in omega (arith, U.speaking));
  }

  pub capacity : b.rows < 32
  capacity = let h = U.enough_rows.rows in omega arith
