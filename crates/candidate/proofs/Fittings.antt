-- Polynomials that keep to the bounds of a job, in candidates and in products.
use mathlib.Core.Path.{◌≡◌, refl, sym, ap, subst, ◌∙◌}
use mathlib.Core.List.{List, [], ◌∷◌}
use Prim.Native.Nat.{ℕ, zero, suc, ◌+◌, ◌≤◌, ◌<◌}
use native.Mathlib.Nat.{mod-lt}
use native.Mathlib.Decide.{ℕ_discrete}
use native.Mathlib.Omega.{arith}
use lib.ListN.{length, set, replicate, length-set}
use lib.Seq.{get_or-set_same, get_or-set_other}
use mir.Val.{Val}
use denote.Shadow.{shadow}
use denote.Array.{each}
use Rattle.field.proofs.Moduli.{modulus_positive}
use Rattle.format.specs.declared.Bounds.{Bounds}
use Rattle.format.specs.Bounds.{numerator_bound_of, prime_of}
use Rattle.poly.specs.declared.Poly.{Poly}
use Rattle.poly.specs.declared.Vector.{Vector}
use Rattle.poly.specs.contracts.Poly.{the_row}
use Rattle.poly.specs.Coefficients.{Bounded}
use Rattle.poly.specs.Vectors.{zero_poly, coefficients_at}
use Rattle.poly.specs.Operations.{product_at, product_of}
use Rattle.poly.proofs.Lists.{bounded_mono, bounded_zeros, bounded_tabulate}
use Rattle.poly.proofs.Bounds.{zero_remainder}
use Rattle.poly.proofs.Products.{terms, terms_after, sum_zeros, bounded_product}
use Rattle.candidate.specs.Extensions.{Fitting}

-- a times h keeps to a bound that the sum of their lengths keeps to, also where a is zero
pub bounded_raised : {p la lh n : ℕ} {a h : List ℕ} → 0 < p → Bounded p la a → Bounded p lh h → (0 < la → la + lh ≤ n + 1) → Bounded p n (product_of p a h)
unfolding product_of product_at
bounded_raised {la = zero} {a = a} {h = h} positive ba bh short =
    bounded_tabulate _ _ 32 _ (λ k. mod-lt _ positive) (λ k _. zero_remainder _ _ (sum_zeros (suc k) (terms a h k) (λ i _. terms_after ba bh k i (omega arith))))
bounded_raised {la = suc la} positive ba bh short = bounded_mono (bounded_product ba bh positive) (let l = short (omega arith) in omega arith)

-- the polynomials of an array have 32 coefficients each: that they are of the type Poly says so
pub size_of_each : (f : List Poly) (us : List Val) (j : ℕ) → shadow (each the_row.Denot the_row.own_val f us)
    → j < length f → length (coefficients_at f j) ≡ 32
size_of_each [] us j typed l = absurd (omega arith)
size_of_each (x ∷ f) [] j typed l = absurd typed
size_of_each (x ∷ f) (u ∷ us) zero typed l = typed.0.1.1.0.1.0.1
size_of_each (x ∷ f) (u ∷ us) (suc j) typed l = size_of_each f us j typed.1 (omega arith)

-- the polynomials of an array, one of them set
module _ (f : List Poly) (j : ℕ) (v : Poly) where
  pub set_same : j < length f → coefficients_at (set f j v) j ≡ v.c
  set_same l = ap (λ (t : Poly). t.c) (get_or-set_same f j v (record { c = [] }) l)

  pub set_other : (k : ℕ) → (k ≡ j → ⊥) → coefficients_at (set f j v) k ≡ coefficients_at f k
  set_other k other = ap (λ (t : Poly). t.c) (get_or-set_other f j k v (record { c = [] }) other)

-- every numerator where there is none yet
bounded_none : (p m n j : ℕ) → 0 < p → Bounded p m (coefficients_at (replicate n zero_poly) j)
bounded_none p m zero j positive = bounded_zeros p m 0 positive
bounded_none p m (suc n) zero positive = bounded_zeros p m 32 positive
bounded_none p m (suc n) (suc j) positive = bounded_none p m n j positive

-- vectors that keep to the bounds
module _ (b : Bounds) where
  pub fitting_none : (g : Poly) → Bounded (prime_of b) (b.dg + 1) g.c → Fitting b (record { g = g; f = replicate 4 zero_poly })
  fitting_none g bg = record {
    size = refl;
    denominator = bg;
    numerators = λ j. bounded_none _ _ 4 j (modulus_positive b.prime);
  }

  -- another denominator, and another numerator of output j
  pub fitting_set : {v : Vector} → Fitting b v → (g a : Poly) (j : ℕ) → j < 4
      → Bounded (prime_of b) (b.dg + 1) g.c → Bounded (prime_of b) (numerator_bound_of b j + 1) a.c
      → Fitting b (record { g = g; f = set v.f j a })
  fitting_set {v} h g a j l bg ba = record {
    size = length-set v.f j a ∙ h.size;
    denominator = bg;
    numerators = λ k. at_place k (ℕ_discrete k j);
  }
    where
      at_place : (k : ℕ) → Dec (k ≡ j) → Bounded (prime_of b) (numerator_bound_of b k + 1) (coefficients_at (set v.f j a) k)
      at_place k (yes same) = rw same (subst (Bounded _ _) (sym (set_same v.f j a (let e = h.size in omega arith))) ba)
      at_place k (no other) = subst (Bounded _ _) (sym (set_other v.f j a k other)) (h.numerators k)
