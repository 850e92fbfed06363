-- Counting among the numbers below a bound.
use Rattle.std.specs.Prelude.{ℕ, zero, suc, ◌+◌, Bool, cond}

-- 1 where the test holds, 0 where it does not
abbrev pub one_if : Bool → ℕ
one_if b = cond b 1 0

-- how many of 0, 1, .., n - 1 pass the test
unfoldable pub count_below : ℕ → (ℕ → Bool) → ℕ
count_below zero test = 0
count_below (suc n) test = count_below n test + one_if (test n)
