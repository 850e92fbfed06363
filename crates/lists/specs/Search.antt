-- Searches among the numbers below a bound.
use Rattle.std.specs.Prelude.{ℕ, zero, suc, ◌<◌, Bool, true, false, List, ◌≡◌, get_or, Option, Some, None}

-- i, if the test holds there
abbrev pub if_holds : Bool → ℕ → Option ℕ
if_holds true i = Some i
if_holds false i = None

-- what an earlier search found, or else what a later one does
abbrev pub or_else : Option ℕ → Option ℕ → Option ℕ
or_else (Some i) later = Some i
or_else None later = later

-- the first of 0, 1, .., n - 1 that passes the test
unfoldable pub first_below : ℕ → (ℕ → Bool) → Option ℕ
first_below zero test = None
first_below (suc n) test = or_else (first_below n test) (if_holds (test n) n)

abbrev pub is_found : Option ℕ → Bool
is_found (Some i) = true
is_found None = false

-- whether one of 0, 1, .., n - 1 passes the test
abbrev pub any_below : ℕ → (ℕ → Bool) → Bool
any_below n test = is_found (first_below n test)

-- no two of the first n numbers are the same
abbrev pub Distinct : List ℕ → ℕ → Type 0
Distinct a n = (q r : ℕ) → q < r → r < n → get_or a q 0 ≡ get_or a r 0 → ⊥
