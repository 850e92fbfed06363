-- Paper 01, "The object": reduced. A polynomial modulo p is a list of coefficients from the constant term upward; `at a k` is the
-- coefficient of u^k, 0 past the list's end. f i is the numerator of output i, counted from 0; g is the denominator.
use Rattle.std.specs.Prelude.{get_or, ◌≡◌, List, ℕ, ◌%◌, ◌<◌}
use Rattle.poly.specs.Operations.{product_at}

-- d divides a: modulo p, a is d times some polynomial e
abbrev pub Divides : ℕ → List ℕ → List ℕ → Type 0
Divides p d a = (e : List ℕ) × ((k : ℕ) → product_at d e k % p ≡ get_or a k 0 % p)

-- "no polynomial of positive degree divides g and every fi": what divides them all is 0 modulo p above its constant term
abbrev pub Coprime : ℕ → ℕ → (ℕ → List ℕ) → List ℕ → Type 0
Coprime p n f g =
    (d : List ℕ) → Divides p d g → ((i : ℕ) → i < n → Divides p d (f i)) → (k : ℕ) → 0 < k → get_or d k 0 % p ≡ 0

-- "g is not zero, its leading coefficient is 1"
pub record LeadingOne (g : List ℕ) : Type 0 where
  pub degree : ℕ
  pub leading : get_or g degree 0 ≡ 1
  pub above : (k : ℕ) → degree < k → get_or g k 0 ≡ 0

-- "reduced"
pub record Reduced (p n : ℕ) (f : ℕ → List ℕ) (g : List ℕ) : Type 0 where
  pub monic : LeadingOne g
  pub coprime : Coprime p n f g

-- the same g and the same n numerators, coefficient for coefficient
pub record Same (n : ℕ) (f : ℕ → List ℕ) (g : List ℕ) (f' : ℕ → List ℕ) (g' : List ℕ) : Type 0 where
  pub denominator : (k : ℕ) → get_or g k 0 ≡ get_or g' k 0
  pub numerators : (i : ℕ) → i < n → (k : ℕ) → get_or (f i) k 0 ≡ get_or (f' i) k 0
