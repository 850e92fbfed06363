-- The decimal digits of a number are those that std prints (`decimal`).
use Rattle.std.proofs.Common.{◌≡◌, ℕ, suc, ◌+◌, ◌/◌, ◌%◌, ◌^◌, ◌≤◌, ◌<◌, [], ◌∷◌, ◌++◌, length, sym, ap, ◌∙◌, arith, rules}
use Rattle.std.specs.Fmt.{decimal}
use Rattle.std.proofs.lemmas.Fmt.{AppendsLastDigit, decimal_from_appends, decimal_digit, decimal_step, length-decimal-le, length-decimal-le_succ}
use Rattle.text.specs.Decimal.{digits_within, decimal_of}

appends-digits : AppendsLastDigit digits_within
unfolding digits_within
appends-digits = search rules

pub decimal_of-decimal : (n : ℕ) → n < 2 ^ 64 → decimal_of n ≡ decimal n
decimal_of-decimal n small = decimal_from_appends digits_within appends-digits (suc n) n small (omega (arith, length-decimal-le_succ n small))

pub digit_alone : (n : ℕ) → n < 10 → decimal_of n ≡ (48 + n % 10) ∷ []
digit_alone n low = decimal_of-decimal n (omega arith) ∙ decimal_digit n low ∙ ap (λ d. (48 + d) ∷ []) (omega arith)

pub digit_behind : (n : ℕ) → 10 ≤ n → n < 2 ^ 64 → decimal_of n ≡ decimal_of (n / 10) ++ ((48 + n % 10) ∷ [])
digit_behind n large small =
    decimal_of-decimal n small ∙ decimal_step n large small ∙ ap (λ front. front ++ ((48 + n % 10) ∷ [])) (sym (decimal_of-decimal (n / 10) (omega arith)))

-- a number below 10^k has at most k digits
pub digits_few : (k n : ℕ) → 0 < k → n < 10 ^ k → n < 2 ^ 64 → length (decimal_of n) ≤ k
digits_few k n some low small = omega (arith, ap length (decimal_of-decimal n small), length-decimal-le k n some low small)
