-- Short lists of coefficients as polynomials of a job: within its bounds, and reduced, by tests.
use mathlib.Core.Path.{◌≡◌, refl, sym, ap, ◌∙◌}
use mathlib.Core.Bool.{Bool, true, false, ◌&&◌, and-eq-true_iff}
use mathlib.Core.List.{List, [], ◌∷◌}
use Prim.Native.Nat.{ℕ, zero, suc, ◌-◌, ◌≤◌, ◌<◌}
use native.Mathlib.Omega.{arith}
use borrow.Author.Tests.{ltb-true, eqb-true}
use lib.Dec.{ltb, eqb}
use lib.ListN.{get_or, length}
use Rattle.lists.proofs.Truth.{clash}
use Rattle.field.proofs.Primality.{IsPrime}
use Rattle.poly.specs.Coefficients.{Bounded, Stored}
use Rattle.poly.specs.Operations.{length_of}
use Rattle.problem.specs.Reduced.{Reduced}
use Rattle.problem.proofs.Same.{reduced-same}
use Rattle.reduced.specs.CommonDivisor.{common_divisor_of}
use Rattle.reduced.proofs.Decision.{constant_reduced}

-- at most n coefficients, all below p
unfoldable pub fits : (p n : ℕ) → List ℕ → Bool
fits p n [] = true
fits p zero (c ∷ a) = false
fits p (suc n) (c ∷ a) = ltb c p && fits p n a

-- the same coefficients, and zeros behind them up to n
unfoldable pub padded : ℕ → List ℕ → List ℕ
padded zero a = a
padded (suc n) [] = 0 ∷ padded n []
padded (suc n) (c ∷ a) = c ∷ padded n a

past_end : (k : ℕ) → ◌≡◌ {A = ℕ} (get_or [] k 0) 0
past_end zero = refl
past_end (suc k) = refl

padded_at : (n : ℕ) (a : List ℕ) (k : ℕ) → get_or (padded n a) k 0 ≡ get_or a k 0
unfolding padded
padded_at zero a k = refl
padded_at (suc n) [] zero = refl
padded_at (suc n) [] (suc k) = padded_at n [] k ∙ past_end k
padded_at (suc n) (c ∷ a) zero = refl
padded_at (suc n) (c ∷ a) (suc k) = padded_at n a k

module _ (p : ℕ) (positive : 0 < p) where
  fits_below : (n : ℕ) (a : List ℕ) → fits p n a ≡ true → (k : ℕ) → get_or a k 0 < p
  unfolding fits
  fits_below n [] h k = omega (arith, past_end k, positive)
  fits_below zero (c ∷ a) h k = clash (sym h)
  fits_below (suc n) (c ∷ a) h zero = ltb-true c p ((and-eq-true_iff (ltb c p) (fits p n a)).0 h).0
  fits_below (suc n) (c ∷ a) h (suc k) = fits_below n a ((and-eq-true_iff (ltb c p) (fits p n a)).0 h).1 k

  fits_within : (n : ℕ) (a : List ℕ) → fits p n a ≡ true → (k : ℕ) → n ≤ k → get_or a k 0 ≡ 0
  unfolding fits
  fits_within n [] h k l = past_end k
  fits_within zero (c ∷ a) h k l = clash (sym h)
  fits_within (suc n) (c ∷ a) h zero l = absurd (omega arith)
  fits_within (suc n) (c ∷ a) h (suc k) l = fits_within n a ((and-eq-true_iff (ltb c p) (fits p n a)).0 h).1 k (omega arith)

  pub fits_bounded : {n : ℕ} {a : List ℕ} → fits p n a ≡ true → Bounded p n a
  fits_bounded {n} {a} h = record { residues = fits_below n a h; within = fits_within n a h }

  padded-length : (n m : ℕ) (a : List ℕ) → n ≤ m → fits p n a ≡ true → length (padded m a) ≡ m
  unfolding fits padded
  padded-length n zero [] l h = refl
  padded-length n (suc m) [] l h = ap suc (padded-length zero m [] (omega arith) refl)
  padded-length zero m (c ∷ a) l h = clash (sym h)
  padded-length (suc n) zero (c ∷ a) l h = absurd (omega arith)
  padded-length (suc n) (suc m) (c ∷ a) l h = ap suc (padded-length n m a (omega arith) ((and-eq-true_iff (ltb c p) (fits p n a)).0 h).1)

  padded_stored : (n : ℕ) (a : List ℕ) → n ≤ 32 → fits p n a ≡ true → Stored p (padded 32 a)
  padded_stored n a l h = record {
    size = padded-length n 32 a l h;
    below = λ k. (let low = fits_below n a h k in omega (arith, padded_at 32 a k));
  }

-- the leading coefficient of g is 1
abbrev pub leads_by_one : List ℕ → Bool
leads_by_one g = ltb 0 (length_of (padded 32 g)) && eqb (get_or (padded 32 g) (length_of (padded 32 g) - 1) 0) 1

-- the greatest common divisor of g and n numerators is a constant
abbrev pub coprime_by : (p n : ℕ) → (ℕ → List ℕ) → List ℕ → Bool
coprime_by p n f g = eqb (length_of (common_divisor_of p (λ i. padded 32 (f i)) (padded 32 g) n)) 1

pub tested-reduced : (p : ℕ) → IsPrime p → (n : ℕ) (f : ℕ → List ℕ) (g : List ℕ) (size : ℕ → ℕ) (size' : ℕ) → ((i : ℕ) → i < n → size i ≤ 32) → size' ≤ 32
    → ((i : ℕ) → i < n → fits p (size i) (f i) ≡ true) → fits p size' g ≡ true → leads_by_one g ≡ true → coprime_by p n f g ≡ true → Reduced p n f g
tested-reduced p P n f g size size' low low' hf hg leads coprime =
    let positive : 0 < p = (let two = P.two in omega arith) in
    let top = (and-eq-true_iff (ltb 0 (length_of (padded 32 g))) (eqb (get_or (padded 32 g) (length_of (padded 32 g) - 1) 0) 1)).0 leads in
    reduced-same (record { denominator = padded_at 32 g; numerators = λ i l. padded_at 32 (f i) })
    (constant_reduced p P n (λ i. padded 32 (f i)) (padded_stored p positive size' g low' hg) (λ i l. padded_stored p positive (size i) (f i) (low i l) (hf i l))
    (λ none. (let some = ltb-true 0 (length_of (padded 32 g)) top.0 in omega arith)) (eqb-true _ _ top.1) (eqb-true _ _ coprime))
