-- Paper 01, "The object": "A row at a root of g is always wrong". So it is for every reduced vector, and with paper 02, item 6, "for unmarked rows only".
use lib.ListN.{get_or}
use mathlib.Core.Path.{◌≡◌, refl, ◌∙◌, ap, ap₂}
use mathlib.Core.Bool.{Bool, true, false, not}
use mathlib.Core.List.{List, [], ◌∷◌}
use Prim.Native.Nat.{ℕ, zero, suc, ◌+◌, ◌-◌, ◌*◌, ◌/◌, ◌%◌, ◌<◌}
use native.Mathlib.Nat.{mod-lt, mod-eq_of_lt, mod-add-div', zero-mul, one-mul, add-zero, zero-mod}
use native.Mathlib.Omega.{arith}
use lib.Dec.{eqb}
use Rattle.field.proofs.Remainders.{same_remainder}
use Rattle.poly.specs.Operations.{value_of, product_at}
use Rattle.poly.proofs.Products.{sum_first, sum_zeros}
use Rattle.field.proofs.Moduli.{modulus_prime}
use Rattle.format.specs.Bounds.{prime_of}
use Rattle.header.specs.Header.{bounds_of}
use Rattle.rows.specs.Rows.{job_point, job_value}
use Rattle.std.specs.Prelude.{Option, Some, None}
use Rattle.marked_rows.specs.declared.Mark.TheVariants.{Pole}
use Rattle.marked_rows.specs.Marks.{mark_at}
use Rattle.problem.specs.Rows.{wrong_row}
use Rattle.problem.specs.Reduced.{Divides, Reduced}
use Rattle.problem.specs.Answers.{wrong_at}
use Rattle.problem.proofs.Rows.{right_all, unmarked_verdict, pole_verdict}

module _ (p x : ℕ) (two : 1 < p) where
  -- the quotient of a by u - x: the values of a without its first coefficients
  unfoldable quotient : List ℕ → List ℕ
  quotient [] = []
  quotient (c ∷ a) = value_of p x a ∷ quotient a

  quotient-step : (a : List ℕ) (k : ℕ) → (get_or a k 0 + x * get_or (quotient a) k 0) % p ≡ get_or (value_of p x a ∷ quotient a) k 0
  unfolding quotient value_of
  quotient-step [] zero = let z : 0 + x * 0 ≡ 0 = omega arith in ap (λ t. t % p) z ∙ zero-mod p
  quotient-step [] (suc k) = let z : 0 + x * 0 ≡ 0 = omega arith in ap (λ t. t % p) z ∙ zero-mod p
  quotient-step (c ∷ a) zero = refl
  quotient-step (c ∷ a) (suc k) = quotient-step a k

  -- - x, as a residue
  abbrev minus : ℕ
  minus = p - x % p

  -- u - x times a polynomial, coefficient by coefficient
  product-linear : (e : List ℕ) (k : ℕ) → product_at (minus ∷ 1 ∷ []) e k ≡ minus * get_or e k 0 + get_or (0 ∷ e) k 0
  unfolding product_at
  product-linear e zero =
      let first = sum_first 0 (λ i. get_or (minus ∷ 1 ∷ []) i 0 * get_or e (0 - i) 0) in
      let rest = sum_zeros 0 (λ i. get_or (1 ∷ []) i 0 * get_or e (0 - suc i) 0) (λ i l. absurd (omega arith)) in
      omega arith
  product-linear e (suc k) =
      let first = sum_first (suc k) (λ i. get_or (minus ∷ 1 ∷ []) i 0 * get_or e (suc k - i) 0) in
      let second = sum_first k (λ i. get_or (1 ∷ []) i 0 * get_or e (suc k - suc i) 0) in
      let rest = sum_zeros k (λ i. get_or [] i 0 * get_or e (suc k - suc (suc i)) 0) (λ i l. zero-mul _) in
      let here : minus * get_or e (suc k - 0) 0 ≡ minus * get_or e (suc k) 0 = ap (λ i. minus * get_or e i 0) (let n : suc k - 0 ≡ suc k = omega arith in n) in
      let before : 1 * get_or e (suc k - 1) 0 ≡ get_or e k 0 = ap (λ i. 1 * get_or e i 0) (let n : suc k - 1 ≡ k = omega arith in n) ∙ one-mul (get_or e k 0) in
      first ∙ ap₂ ◌+◌ here (second ∙ ap₂ ◌+◌ before rest ∙ add-zero (get_or e k 0))

  -- with a root at x, a is a multiple of u - x
  root_divides : (a : List ℕ) → value_of p x a ≡ 0 → Divides p (minus ∷ 1 ∷ []) a
  root_divides a root = (quotient a, λ k. ap (λ t. t % p) (product-linear (quotient a) k) ∙ coefficient k)
    where
      before : (k : ℕ) → get_or (value_of p x a ∷ quotient a) k 0 ≡ get_or (0 ∷ quotient a) k 0
      before zero = root
      before (suc k) = refl

      coefficient : (k : ℕ) → (minus * get_or (quotient a) k 0 + get_or (0 ∷ quotient a) k 0) % p ≡ get_or a k 0 % p
      coefficient k =
          let q = get_or (quotient a) k 0 in
          let s = get_or a k 0 + x * q in
          let below = mod-lt x {m = p} (omega arith) in
          let whole = mod-add-div' x p in
          let split : (minus + x) * q ≡ (1 + x / p) * p * q = ap (λ t. t * q) (let e : minus + x ≡ (1 + x / p) * p = omega arith in e) in
          let value = mod-add-div' s p in
          let step = quotient-step a k ∙ before k in
          same_remainder p _ (s / p) _ ((1 + x / p) * q) (omega arith)

  -- so where g has a root, one of the numerators has none there, and the row is wrong whatever it says
  pub root_wrong : {n : ℕ} {f : ℕ → List ℕ} {g : List ℕ} → Reduced p n f g → value_of p x g ≡ 0 → (y : ℕ → ℕ) → wrong_row p n x y f g ≡ true
  root_wrong {n} {f} {g} R root y = by (wrong_row p n x y f g) refl
    where
      by : (w : Bool) → wrong_row p n x y f g ≡ w → w ≡ true
      by true e = refl
      by false e =
          let numerator : (i : ℕ) → i < n → value_of p x (f i) ≡ 0 =
          λ i l. right_all p x y f g n e i l ∙ ap (λ v. v * y i % p) root ∙ ap (λ v. v % p) (zero-mul (y i)) ∙ zero-mod p in
          let constant = R.coprime (minus ∷ 1 ∷ []) (root_divides g root) (λ i l. root_divides (f i) (numerator i l)) 1 (omega arith) in
          let one = mod-eq_of_lt two in
          absurd (omega arith)

-- row r of a job that stands at a root of g: it is wrong if its values are numbers, and right if it reports a pole
module _ (s : List ℕ) {f : ℕ → List ℕ} {g : List ℕ} (R : Reduced (prime_of (bounds_of s)) (bounds_of s).outputs f g) (r : ℕ)
    (root : value_of (prime_of (bounds_of s)) (job_point s r) g ≡ 0) where
  pub root_unmarked : mark_at s r ≡ None → wrong_at s f g r ≡ true
  root_unmarked e =
      unmarked_verdict (prime_of (bounds_of s)) (bounds_of s).outputs (job_point s r) (job_value s r) f g e
      ∙ root_wrong (prime_of (bounds_of s)) (job_point s r) (modulus_prime (bounds_of s).prime).two R root (job_value s r)

  pub root_pole : mark_at s r ≡ Some Pole → wrong_at s f g r ≡ false
  root_pole e = pole_verdict (prime_of (bounds_of s)) (bounds_of s).outputs (job_point s r) (job_value s r) f g e ∙ ap (λ v. not (eqb v 0)) root
