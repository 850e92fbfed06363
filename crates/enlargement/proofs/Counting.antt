-- Two tables of rows, the second holding every bad row of the first: the bad rows of the second number as many as those of the first and the
-- further bad ones together.
use mathlib.Core.Path.{◌≡◌, refl, sym, ◌∙◌, ap}
use mathlib.Core.Logic.{◌≢◌, ◌⊎◌, inl, inr}
use mathlib.Core.Bool.{Bool, true, false, not, ◌&&◌}
use Prim.Native.Nat.{ℕ, zero, suc, ◌+◌, ◌≤◌, ◌<◌}
use native.Mathlib.Omega.{arith}
use Rattle.lists.proofs.Truth.{never_true}
use Rattle.std.specs.Prelude.{Option, Some, None}
use Rattle.lists.specs.Search.{first_below, any_below, is_found, or_else}
use Rattle.lists.proofs.FirstBelow.{none_below}
use Rattle.lists.specs.Counting.{one_if, count_below}
use Rattle.lists.proofs.Counting.{count_same, count_change}

-- one number more, which fails the test, or passes it
any_more : (n : ℕ) (test : ℕ → Bool) → test n ≡ false → any_below (suc n) test ≡ any_below n test
unfolding first_below
any_more n test e = rw e (by (first_below n test))
  where
    by : (f : Option ℕ) → is_found (or_else f None) ≡ is_found f
    by (Some i) = refl
    by None = refl

any_here : (n : ℕ) (test : ℕ → Bool) → test n ≡ true → any_below (suc n) test ≡ true
unfolding first_below
any_here n test e = rw e (by (first_below n test))
  where
    by : (f : Option ℕ) → is_found (or_else f (Some n)) ≡ true
    by (Some i) = refl
    by None = refl

-- a number below n passes the test, or none does
pub passes_or_none : (n : ℕ) (test : ℕ → Bool) → ((i : ℕ) × (i < n) × (test i ≡ true)) ⊎ (any_below n test ≡ false)
unfolding first_below
passes_or_none zero test = inr refl
passes_or_none (suc n) test = by (test n) refl (passes_or_none n test)
  where
    by : (b : Bool) → test n ≡ b → ((i : ℕ) × (i < n) × (test i ≡ true)) ⊎ (any_below n test ≡ false)
        → ((i : ℕ) × (i < suc n) × (test i ≡ true)) ⊎ (any_below (suc n) test ≡ false)
    by true e c = inl (n, omega arith, e)
    by false e (inl t) = inl (t.0, (let l = t.1 in omega arith), t.2)
    by false e (inr none) = inr (any_more n test e ∙ none)

never : (b : Bool) → (b && false) ≡ false
never true = refl
never false = refl

-- `same i j` tests whether row i of the first table is row j of the second; bad and bad' test the rows of the tables
module _ (same : ℕ → ℕ → Bool) (bad bad' : ℕ → Bool) where
  -- each bad one of the first L rows of the first table is one of the first L' rows of the second; no row stands in a table twice, and a row is
  -- bad in both tables or in none
  pub record Held (L L' : ℕ) : Type 0 where
    pub holds : (i : ℕ) → i < L → bad i ≡ true → (j : ℕ) × (j < L') × (same i j ≡ true)
    pub first : (i k j : ℕ) → i < L → k < L → same i j ≡ true → same k j ≡ true → i ≡ k
    pub second : (k i j : ℕ) → i < L' → j < L' → same k i ≡ true → same k j ≡ true → i ≡ j
    pub equal : (i j : ℕ) → i < L → j < L' → same i j ≡ true → bad i ≡ bad' j

  -- row j of the second table is bad, and none of the first k rows of the first
  abbrev pub further_bad : ℕ → ℕ → Bool
  further_bad k j = not (any_below k (λ i. same i j)) && bad' j

  module _ {L L' : ℕ} (H : Held L L') where
    -- a bad row k of the first table stands at one place of the second
    bad_row : (k : ℕ) → k < L → bad k ≡ true → count_below L' (further_bad k) ≡ count_below L' (further_bad (suc k)) + 1
    bad_row k l is-bad =
        let change = count_change (further_bad k) (further_bad (suc k)) L' j place.1 other gone in
        let one = ap one_if here in
        omega arith
      where
        place : (j : ℕ) × (j < L') × (same k j ≡ true)
        place = H.holds k l is-bad

        j : ℕ
        j = place.0

        other : (m : ℕ) → m < L' → m ≢ j → further_bad k m ≡ further_bad (suc k) m
        other m h ne = ap (λ t. not t && bad' m) (sym (any_more k (λ i. same i m) (never_true _ (λ e. ne (H.second k m j h place.1 e place.2)))))

        gone : further_bad (suc k) j ≡ false
        gone = ap (λ t. not t && bad' j) (any_here k (λ i. same i j) place.2)

        here : further_bad k j ≡ true
        here = ap (λ t. not (is_found t) && bad' j)
            (none_below (λ i. same i j) k (λ i h. never_true _ (λ e. let s = H.first i k j (omega arith) l e place.2 in omega arith)))
            ∙ sym (H.equal k j l place.1 place.2) ∙ is-bad

    -- and where another one stands, the row there is not bad
    other_row : (k : ℕ) → k < L → bad k ≡ false → count_below L' (further_bad k) ≡ count_below L' (further_bad (suc k))
    other_row k l not-bad = count_same L' (further_bad k) (further_bad (suc k)) (λ m h. by m h (same k m) refl)
      where
        by : (m : ℕ) → m < L' → (b : Bool) → same k m ≡ b → further_bad k m ≡ further_bad (suc k) m
        by m h true e = let none = sym (H.equal k m l h e) ∙ not-bad in rw none (never (not (any_below k (λ i. same i m))) ∙ sym (never (not (any_below (suc k) (λ i. same i m)))))
        by m h false e = ap (λ t. not t && bad' m) (sym (any_more k (λ i. same i m) e))

    bad_adds_below : (k : ℕ) → k ≤ L → count_below L' bad' ≡ count_below k bad + count_below L' (further_bad k)
    unfolding count_below first_below
    bad_adds_below zero l = omega arith
    bad_adds_below (suc k) l = by (bad k) refl (bad_adds_below k (omega arith))
      where
        by : (b : Bool) → bad k ≡ b → count_below L' bad' ≡ count_below k bad + count_below L' (further_bad k)
            → count_below L' bad' ≡ count_below k bad + one_if (bad k) + count_below L' (further_bad (suc k))
        by true e before = let flag = ap one_if e in omega (arith, bad_row k l e)
        by false e before = let flag = ap one_if e in omega (arith, other_row k l e)

    pub bad_adds : count_below L' bad' ≡ count_below L bad + count_below L' (further_bad L)
    bad_adds = bad_adds_below L (omega arith)
