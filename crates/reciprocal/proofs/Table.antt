-- A rule of a table, shown at every entry by one computed test.
use Prim.Native.Nat.{ℕ, zero, suc, ◌+◌, ◌<◌}
use mathlib.Core.Path.{◌≡◌, ◌∙◌, sym, subst}
use mathlib.Core.Bool.{Bool, true, ◌&&◌, and-eq-true_iff}
use mathlib.Core.List.{List, [], ◌∷◌}
use native.Mathlib.Nat.{add-suc, add-zero, le_of_suc-le-suc, not-suc-le-zero, suc-add, zero-add}
use lib.ListN.{get_or, length}

-- the test passes at each entry and its index, counted from i
abbrev pub every : (ℕ → ℕ → Bool) → ℕ → List ℕ → Bool
every test i [] = true
every test i (x ∷ xs) = test i x && every test (suc i) xs

every_from : (test : ℕ → ℕ → Bool) (xs : List ℕ) (i : ℕ) → every test i xs ≡ true → (k : ℕ) → k < length xs → test (i + k) (get_or xs k 0) ≡ true
every_from test [] i t k l = absurd (not-suc-le-zero l)
every_from test (x ∷ xs) i t zero l =
    subst (λ (m : ℕ). test m x ≡ true) (sym (add-zero i)) ((and-eq-true_iff (test i x) (every test (suc i) xs)).0 t).0
every_from test (x ∷ xs) i t (suc k) l =
    subst (λ (m : ℕ). test m (get_or xs k 0) ≡ true) (suc-add i k ∙ sym (add-suc i k))
    (every_from test xs (suc i) ((and-eq-true_iff (test i x) (every test (suc i) xs)).0 t).1 k (le_of_suc-le-suc l))

pub at_entry : (test : ℕ → ℕ → Bool) (xs : List ℕ) → every test 0 xs ≡ true → (k : ℕ) → k < length xs → test k (get_or xs k 0) ≡ true
at_entry test xs t k l = subst (λ (m : ℕ). test m (get_or xs k 0) ≡ true) (zero-add k) (every_from test xs 0 t k l)
