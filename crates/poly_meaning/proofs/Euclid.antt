-- The greatest common divisor of lists is one in the ring of polynomials: a common divisor that is a combination of the two.
use mathlib.Core.Path.{◌≡◌, sym, ap, ◌∙◌}
use mathlib.Core.List.{List}
use Prim.Native.Nat.{ℕ}
use Rattle.poly.specs.Coefficients.{Stored}
use Rattle.algebra.proofs.Euclid.{CommonDivisor, euclid_stop, euclid_step}
use Rattle.field.proofs.Primality.{IsPrime}
use Rattle.reciprocal.proofs.PrimeField.{residue_field}
use Rattle.poly.specs.Operations.{length_of}
use Rattle.poly_meaning.proofs.Series.{series, series_below}
use Rattle.poly_meaning.proofs.Degrees.{length_means_null}
use Rattle.euclid.specs.Division.{remainder_of}
use Rattle.euclid.specs.Euclid.{gcd_of}
use Rattle.euclid.proofs.Leading.{stored_bounded, length_stored, divisor_of}
use Rattle.euclid.proofs.Euclid.{gcd_stop, gcd_more, euclid_induction}
use Rattle.poly_meaning.proofs.Division.{division_means}

module _ (p : ℕ) (P : IsPrime p) where
  -- a common divisor in the sense of the ring, and the list that has its coefficients
  abbrev pub DivisorOf : List ℕ → List ℕ → Type 0
  DivisorOf a b = (C : CommonDivisor (residue_field p P) (series p P a) (series p P b)) × (C.divisor ≡ series p P (gcd_of p a b))

  stop : (a b : List ℕ) → Stored p a → Stored p b → length_of b ≡ 0 → DivisorOf a b
  stop a b sa sb z = (
    euclid_stop (residue_field p P) (series p P a) (series p P b) (length_of a, series_below p P (stored_bounded sa))
        (length_means_null p P (stored_bounded sb) z),
    ap (series p P) (sym (gcd_stop p a b z)),
  )

  more : (a b : List ℕ) → Stored p a → Stored p b → (length_of b ≡ 0 → ⊥) → DivisorOf b (remainder_of p a b) → DivisorOf a b
  more a b sa sb nz C = (
    euclid_step (residue_field p P) (series p P a) (series p P b) _ _
        (division_means p P (divisor_of P sb nz) (length_stored sa) (stored_bounded sa) sa.size) C.0,
    C.1 ∙ ap (series p P) (sym (gcd_more P sa sb nz)),
  )

  pub gcd_means : {a b : List ℕ} → Stored p a → Stored p b → DivisorOf a b
  gcd_means {a} {b} = euclid_induction P DivisorOf stop more a b
