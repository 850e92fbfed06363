-- Laws of how many numbers below a bound pass a test.
use Prim.Native.Nat.{ℕ, zero, suc, ◌+◌, ◌≤◌, ◌<◌}
use mathlib.Core.Path.{◌≡◌, refl, sym, ap, ap₂, ◌∙◌}
use mathlib.Core.Bool.{Bool, true, false}
use mathlib.Core.Logic.{◌≢◌, ⊎_elim}
use native.Mathlib.Nat.{eq-or-lt_of_le}
use native.Mathlib.Decide.{ℕ_discrete}
use native.Mathlib.Omega.{arith}
use Rattle.lists.specs.Counting.{one_if, count_below}

-- tests that agree below the bound
pub count_same : (n : ℕ) (t t' : ℕ → Bool) → ((r : ℕ) → r < n → t r ≡ t' r) → count_below n t ≡ count_below n t'
unfolding count_below
count_same zero t t' h = refl
count_same (suc n) t t' h = ap₂ (λ m b. m + one_if b) (count_same n t t' (λ r l. h r (omega arith))) (h n (omega arith))

-- tests that differ at the place j only, where the second fails
pub count_change : (test test' : ℕ → Bool) (m j : ℕ) → j < m → ((l : ℕ) → l < m → l ≢ j → test l ≡ test' l) → test' j ≡ false
    → count_below m test ≡ count_below m test' + one_if (test j)
unfolding count_below
count_change test test' zero j h same none = absurd (omega arith)
count_change test test' (suc m) j h same none = by (ℕ_discrete j m) (λ l. count_change test test' m j l (λ i k. same i (omega arith)) none)
  where
    by : Dec (j ≡ m) → (j < m → count_below m test ≡ count_below m test' + one_if (test j))
        → count_below m test + one_if (test m) ≡ count_below m test' + one_if (test' m) + one_if (test j)
    by (yes e) ih =
        let before = count_same m test test' (λ l k. same l (omega arith) (λ e'. omega arith)) in
        let zero' : one_if (test' m) ≡ 0 = ap (λ i. one_if (test' i)) (sym e) ∙ ap one_if none in
        let last : one_if (test m) ≡ one_if (test j) = ap (λ i. one_if (test i)) (sym e) in
        omega arith
    by (no ne) ih =
        let before = ih (omega arith) in
        let last : one_if (test m) ≡ one_if (test' m) = ap one_if (same m (omega arith) (λ e. ne (sym e))) in
        omega arith

-- one place more
pub count_step : (n : ℕ) (test : ℕ → Bool) → count_below (n + 1) test ≡ count_below n test + one_if (test n)
unfolding count_below
count_step n test = let e : n + 1 ≡ suc n = omega arith in rw e refl

one_if_most : (b : Bool) → one_if b ≤ 1
one_if_most true = omega arith
one_if_most false = omega arith

-- no more than there are
pub count_most : (n : ℕ) (test : ℕ → Bool) → count_below n test ≤ n
unfolding count_below
count_most zero test = omega arith
count_most (suc n) test = omega (arith, count_most n test, one_if_most (test n))

-- so where a count goes on by one place
pub count_more : (n : ℕ) (test : ℕ → Bool) {count flag : ℕ} → count ≡ count_below n test → flag ≡ one_if (test n)
    → (count + flag ≡ count_below (n + 1) test) × (count + flag ≤ n + 1)
count_more n test e f = let sum = ap₂ ◌+◌ e f ∙ sym (count_step n test) in (sum, omega (arith, sum, count_most (n + 1) test))

-- and as many where all pass
pub count_all : (n : ℕ) (test : ℕ → Bool) → ((r : ℕ) → r < n → test r ≡ true) → count_below n test ≡ n
unfolding count_below
count_all zero test all = refl
count_all (suc n) test all =
    let before = count_all n test (λ r l. all r (omega arith)) in
    let last = ap one_if (all n (omega arith)) in
    omega arith

-- one place that passes, and two
pub count_one : (test : ℕ → Bool) (n i : ℕ) → i < n → test i ≡ true → 1 ≤ count_below n test
unfolding count_below
count_one test zero i l e = absurd (omega arith)
count_one test (suc n) i l e =
    ⊎_elim (λ (same : i ≡ n). let last = ap one_if (ap test (sym same) ∙ e) in omega arith)
    (λ (lower : i < n). let before = count_one test n i lower e in omega arith) (eq-or-lt_of_le (omega arith))

pub count_two : (test : ℕ → Bool) (n i j : ℕ) → i < j → j < n → test i ≡ true → test j ≡ true → 2 ≤ count_below n test
unfolding count_below
count_two test zero i j l m e f = absurd (omega arith)
count_two test (suc n) i j l m e f =
    ⊎_elim (λ (same : j ≡ n). let last = ap one_if (ap test (sym same) ∙ f) in let before = count_one test n i (omega arith) e in omega arith)
    (λ (lower : j < n). let before = count_two test n i j l lower e f in omega arith) (eq-or-lt_of_le (omega arith))
