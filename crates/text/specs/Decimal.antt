-- Numbers as paper 01's program prints them: "decimal numbers, single spaces". Bytes are ASCII.
use Rattle.std.specs.Prelude.{ℕ, zero, suc, ◌+◌, ◌/◌, ◌%◌, cond, List, [], ◌∷◌, ◌++◌, ltb}

-- the decimal digits of n, the most significant first, as long as n is below the first number
unfoldable pub digits_within : ℕ → ℕ → List ℕ
digits_within zero n = []
digits_within (suc k) n =
    let front = digits_within k (n / 10) in
    cond (ltb n 10) ((48 + n) ∷ []) (front ++ ((48 + n % 10) ∷ []))

-- the decimal digits of n
abbrev pub decimal_of : ℕ → List ℕ
decimal_of n = digits_within (suc n) n

-- a space and a number
abbrev pub item_of : ℕ → List ℕ
item_of n = 32 ∷ decimal_of n
