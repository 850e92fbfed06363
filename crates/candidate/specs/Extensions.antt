-- A candidate with one output more, as the code makes it. There is None where a polynomial is too long.
use Rattle.std.specs.Prelude.{◌&&◌, cond, ◌≡◌, List, ℕ, zero, suc, ◌+◌, ltb, set, length, Option, Some, None, option_and_then}
use Rattle.std.specs.Option.{option_map}
use Rattle.format.specs.declared.Bounds.{Bounds}
use Rattle.format.specs.Bounds.{numerator_bound_of, prime_of}
use Rattle.poly.specs.declared.Vector.{Vector}
use Rattle.poly.specs.Coefficients.{Bounded}
use Rattle.poly.specs.Vectors.{coefficients_at}
use Rattle.poly.specs.Operations.{length_of, product_of}

-- the numerator of output j
abbrev pub numerator_at : Vector → ℕ → List ℕ
numerator_at v j = coefficients_at v.f j

-- there are four numerators, and the polynomials keep to their degree bounds
pub record Fitting (b : Bounds) (v : Vector) : Type 0 where
  pub size : length v.f ≡ 4
  pub denominator : Bounded (prime_of b) (b.dg + 1) v.g.c
  pub numerators : (j : ℕ) → Bounded (prime_of b) (numerator_bound_of b j + 1) (numerator_at v j)

-- the numerator of output j times h
unfoldable pub raised_at : Bounds → List ℕ → ℕ → Vector → Option Vector
raised_at b h j v =
    cond (ltb 0 (length_of (numerator_at v j)) && ltb (numerator_bound_of b j + 2) (length_of (numerator_at v j) + length_of h)) None
    (Some (record { g = v.g; f = set v.f j (record { c = product_of (prime_of b) (numerator_at v j) h }) }))

-- the numerators of the first i outputs times h
unfoldable pub raised_below : Bounds → List ℕ → ℕ → Vector → Option Vector
raised_below b h zero v = Some v
raised_below b h (suc i) v = option_and_then (raised_at b h i) (raised_below b h i v)

-- r with the numerator a of output i and the denominator g h
unfoldable pub with_output : Bounds → ℕ → List ℕ → List ℕ → List ℕ → Vector → Vector
with_output b i a g h r = record { g = record { c = product_of (prime_of b) g h }; f = set r.f i (record { c = a }) }

-- v with a / h for output i, in units of 1 / g
unfoldable pub extended_of : Bounds → ℕ → List ℕ → List ℕ → Vector → Option Vector
extended_of b i a h v =
    cond (ltb (b.dg + 2) (length_of v.g.c + length_of h)) None
    (cond (ltb (numerator_bound_of b i + 1) (length_of a)) None (option_map (with_output b i a v.g.c h) (raised_below b h i v)))
