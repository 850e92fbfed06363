-- Laws of tabulated lists, and of lists of zeros. An entry past the end of a list reads as 0.
use mathlib.Core.Path.{◌≡◌, refl, sym, ap, ◌∙◌}
use mathlib.Core.List.{List}
use Prim.Native.Nat.{ℕ, zero, suc, ◌≤◌, ◌<◌}
use native.Mathlib.Decide.{dec_lt}
use native.Mathlib.Omega.{arith}
use lib.ListN.{length, get_or, replicate, get_or-eq_default}
use lib.Seq.{ext_get_or}
use Rattle.lists.specs.Tabulated.{tabulate}

pub length-tabulate : (n : ℕ) (f : ℕ → ℕ) → length (tabulate n f) ≡ n
unfolding tabulate
length-tabulate zero f = refl
length-tabulate (suc n) f = ap suc (length-tabulate n (λ k. f (suc k)))

pub at_tabulate : (n : ℕ) (f : ℕ → ℕ) (k : ℕ) → k < n → get_or (tabulate n f) k 0 ≡ f k
unfolding tabulate
at_tabulate zero f k h = absurd (omega arith)
at_tabulate (suc n) f zero h = refl
at_tabulate (suc n) f (suc k) h = at_tabulate n (λ j. f (suc j)) k (omega arith)

pub at_past : (a : List ℕ) (k : ℕ) → length a ≤ k → get_or a k 0 ≡ 0
at_past a k h = get_or-eq_default a 0 h

pub at_zeros : (n k : ℕ) → ◌≡◌ {A = ℕ} (get_or (replicate n 0) k 0) 0
at_zeros zero k = refl
at_zeros (suc n) zero = refl
at_zeros (suc n) (suc k) = at_zeros n k

-- a list of n elements, each what f says, is the tabulated one
pub is_tabulate : (n : ℕ) (f : ℕ → ℕ) (a : List ℕ) → length a ≡ n → ((k : ℕ) → k < n → get_or a k 0 ≡ f k) → a ≡ tabulate n f
is_tabulate n f a size elements =
    ext_get_or 0 a (tabulate n f) (size ∙ sym (length-tabulate n f)) (λ k h. elements k (omega arith) ∙ sym (at_tabulate n f k (omega arith)))

-- functions that agree below n make the same list
pub tabulate_cong : (n : ℕ) (f g : ℕ → ℕ) → ((k : ℕ) → k < n → f k ≡ g k) → tabulate n f ≡ tabulate n g
tabulate_cong n f g same = is_tabulate n g (tabulate n f) (length-tabulate n f) (λ k h. at_tabulate n f k h ∙ same k h)

-- past the end
pub at_tabulate_past : (n : ℕ) (f : ℕ → ℕ) (k : ℕ) → n ≤ k → get_or (tabulate n f) k 0 ≡ 0
at_tabulate_past n f k h = at_past (tabulate n f) k (let l = length-tabulate n f in omega arith)

-- at any place, where f is 0 past the end
pub at_tabulate_all : (n : ℕ) (f : ℕ → ℕ) → ((k : ℕ) → n ≤ k → f k ≡ 0) → (k : ℕ) → get_or (tabulate n f) k 0 ≡ f k
at_tabulate_all n f past k = go (dec_lt k n)
  where
    go : Dec (k < n) → get_or (tabulate n f) k 0 ≡ f k
    go (yes h) = at_tabulate n f k h
    go (no h) = at_tabulate_past n f k (omega arith) ∙ sym (past k (omega arith))
