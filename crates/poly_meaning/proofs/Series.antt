-- A list of numbers as a polynomial over the residues modulo p, and what the operations on lists mean there.
use mathlib.Core.Path.{◌≡◌, refl, sym, ◌∙◌, ap, ap₂, fun_ext}
use mathlib.Core.List.{List, [], ◌∷◌}
use Prim.Native.Nat.{ℕ, zero, suc, ◌+◌, ◌-◌, ◌*◌, ◌%◌, ◌≤◌, ◌<◌}
use native.Mathlib.Nat.{mod-mod, mod-eq_of_lt, zero-add, zero-mod}
use native.Mathlib.Omega.{arith}
use lib.ListN.{get_or, length, replicate}
use Rattle.algebra.proofs.Ring.{Ring, add_comm, neg-mul}
use Rattle.algebra.proofs.Series.{Series, add_s, neg_s, null_s, const_s, scale_s, mul_s, const_s-zero, const_s-suc}
use Rattle.algebra.proofs.Bounds.{Below}
use Rattle.algebra.proofs.Value.{value, value_stable, linear, linear-mul-zero, linear-mul-suc}
use Rattle.field.proofs.Primality.{IsPrime}
use Rattle.reciprocal.proofs.PrimeField.{Residue, residue, residue_equal, equal_residue, add_r, mul_r, neg_r, residue-add, residue-mul, residue-neg, residue_ring}
use Rattle.lists.specs.Tabulated.{tabulate}
use Rattle.poly.specs.Coefficients.{Bounded}
use Rattle.poly.specs.Operations.{value_of, combination_at, combination_of, times_linear_at, times_linear_of, scaled_at, scaled_of}
use Rattle.lists.proofs.Tabulated.{at_tabulate_all, at_past, at_zeros}
use Rattle.poly.proofs.Bounds.{combination_past, times_linear_past, scaled_past}

module _ (p : ℕ) (P : IsPrime p) where
  abbrev R : Ring
  R = residue_ring p P

  abbrev ρ : ℕ → Residue p P
  ρ = residue p P

  unfoldable pub series : List ℕ → Series (residue_ring p P)
  series a = λ k. residue p P (get_or a k 0)

  pub residue-mod : (n : ℕ) → residue p P (n % p) ≡ residue p P n
  residue-mod n = residue_equal p P _ _ (mod-mod n p)

  pub residue-zero : (n : ℕ) → n < p → residue p P n ≡ residue p P 0 → n ≡ 0
  residue-zero n l e = sym (mod-eq_of_lt l) ∙ equal_residue p P n 0 e ∙ zero-mod p

  pub series_at : (a : List ℕ) (k : ℕ) → series a k ≡ residue p P (get_or a k 0)
  unfolding series
  series_at a k = refl

  pub series_below : {n : ℕ} {a : List ℕ} → Bounded p n a → Below (residue_ring p P) (series a) n
  unfolding series
  series_below b k l = ap ρ (b.within k l)

  pub series_below_length : (a : List ℕ) → Below (residue_ring p P) (series a) (length a)
  unfolding series
  series_below_length a k l = ap ρ (at_past a k l)

  pub zeros_means : (n : ℕ) → series (replicate n 0) ≡ null_s (residue_ring p P)
  unfolding series null_s
  zeros_means n = fun_ext (λ k. ap ρ (at_zeros n k))

  pub constant_means : (c n : ℕ) → series (c ∷ replicate n 0) ≡ const_s (residue_ring p P) (residue p P c)
  unfolding series
  constant_means c n = fun_ext (elim [ zero ↦ sym (const_s-zero R (ρ c)) | suc k ↦ ap ρ (at_zeros n k) ∙ sym (const_s-suc R (ρ c) k) ])

  -- a tabulated list that is 0 past its end
  pub tabulate_means : (n : ℕ) (f : ℕ → ℕ) (g : Series (residue_ring p P)) → ((k : ℕ) → n ≤ k → f k ≡ 0)
      → ((k : ℕ) → residue p P (f k) ≡ g k) → series (tabulate n f) ≡ g
  unfolding series
  tabulate_means n f g past e = fun_ext (λ k. ap ρ (at_tabulate_all n f past k) ∙ e k)

  -- the residue of a sum of two products
  residue-sum_of_products : (c x d y : ℕ) → ρ ((c * x + d * y) % p) ≡ add_r p P (mul_r p P (ρ c) (ρ x)) (mul_r p P (ρ d) (ρ y))
  residue-sum_of_products c x d y = residue-mod _ ∙ sym (residue-add p P _ _) ∙ ap₂ (add_r p P) (sym (residue-mul p P c x)) (sym (residue-mul p P d y))

  -- p - d stands for -d
  residue_negated_product : (d : ℕ) (y : Residue p P) → d < p → mul_r p P (ρ (p - d)) y ≡ neg_r p P (mul_r p P (ρ d) y)
  residue_negated_product d y l = ap (λ t. mul_r p P t y) (sym (residue-neg p P d l)) ∙ neg-mul R (ρ d) y

  pub scaled_means : {n : ℕ} {a : List ℕ} (c : ℕ) → Bounded p n a → n ≤ 32
      → series (scaled_of p c a) ≡ scale_s (residue_ring p P) (residue p P c) (series a)
  unfolding scaled_of scaled_at scale_s series
  scaled_means {n} {a} c b l =
      tabulate_means 32 (scaled_at p c a) _ (λ k h. scaled_past b c k (omega arith)) (λ k. residue-mod _ ∙ sym (residue-mul p P c _))

  pub combination_means : {n : ℕ} {a b : List ℕ} (d0 d1 : ℕ) → Bounded p n a → Bounded p n b → n ≤ 32 → d1 < p
      → series (combination_of p d0 a d1 b)
      ≡ add_s (residue_ring p P) (scale_s (residue_ring p P) (residue p P d0) (series a))
      (neg_s (residue_ring p P) (scale_s (residue_ring p P) (residue p P d1) (series b)))
  unfolding combination_of combination_at add_s neg_s scale_s series
  combination_means {n} {a} {b} d0 d1 ba bb l u =
      tabulate_means 32 (combination_at p d0 a d1 b) _ (λ k h. combination_past ba bb d0 d1 k (omega arith))
      (λ k. residue-sum_of_products d0 (get_or a k 0) (p - d1) (get_or b k 0) ∙ ap (add_r p P (mul_r p P (ρ d0) (ρ (get_or a k 0)))) (residue_negated_product d1 (ρ (get_or b k 0)) u))

  pub times_linear_means : {n : ℕ} {a : List ℕ} (x : ℕ) → Bounded p n a → n < 32 → x < p
      → series (times_linear_of p x a) ≡ mul_s (residue_ring p P) (linear (residue_ring p P) (residue p P x)) (series a)
  unfolding times_linear_of times_linear_at series
  times_linear_means {n} {a} x b l u =
      tabulate_means 32 (times_linear_at p x a) _ (λ k h. times_linear_past b x k (omega arith)) at_each
    where
      at_each : (k : ℕ) → ρ (times_linear_at p x a k) ≡ mul_s R (linear R (ρ x)) (series a) k
      at_each zero =
          residue-mod _ ∙ ap ρ (zero-add _) ∙ sym (residue-mul p P _ _) ∙ ap (λ t. mul_r p P t (ρ (get_or a 0 0))) (sym (residue-neg p P x u))
          ∙ sym (linear-mul-zero R (ρ x) (series a))
      at_each (suc k) =
          residue-mod _ ∙ sym (residue-add p P (get_or a k 0) _) ∙ add_comm R _ _
          ∙ ap (λ t. add_r p P t (ρ (get_or a k 0)))
          (sym (residue-mul p P _ _) ∙ ap (λ t. mul_r p P t (ρ (get_or a (suc k) 0))) (sym (residue-neg p P x u)))
          ∙ sym (linear-mul-suc R (ρ x) (series a) k)

  -- Horner's rule
  value_means_length : (x : ℕ) (a : List ℕ) → ρ (value_of p x a) ≡ value R (length a) (series a) (ρ x)
  unfolding value_of value series
  value_means_length x [] = refl
  value_means_length x (c ∷ cs) =
      residue-mod _ ∙ sym (residue-add p P c _)
      ∙ ap (add_r p P (ρ c)) (sym (residue-mul p P x _) ∙ ap (mul_r p P (ρ x)) (value_means_length x cs))

  pub value_means : (N x : ℕ) (a : List ℕ) → length a ≤ N
      → residue p P (value_of p x a) ≡ value (residue_ring p P) N (series a) (residue p P x)
  value_means N x a l = value_means_length x a ∙ sym (value_stable R (length a) N (series a) (ρ x) (series_below_length a) l)

  -- as many coefficients as can be non-zero are enough
  pub value_means_bounded : {n : ℕ} {a : List ℕ} (N x : ℕ) → Bounded p n a → n ≤ N
      → residue p P (value_of p x a) ≡ value (residue_ring p P) N (series a) (residue p P x)
  value_means_bounded {n} {a} N x b l =
      value_means (N + length a) x a (omega arith)
      ∙ value_stable R N (N + length a) (series a) (ρ x) (λ k h. series_below b k (omega arith)) (omega arith)
