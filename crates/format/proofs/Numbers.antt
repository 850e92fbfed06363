-- The refusals' numbers: 1 to 12, one for each reason.
use mathlib.Core.Path.{◌≡◌, refl, ap, ◌∙◌, sym}
use mathlib.Core.List.{[], ◌∷◌}
use Prim.Native.Nat.{ℕ, ◌<◌}
use native.Mathlib.Omega.{arith}
use lib.ListN.{get_or}
use Rattle.format.specs.declared.Reason.{Reason}
use Rattle.format.specs.declared.Reason.TheVariants.{TooShort, SpareBit, ByteCount, TooFewRows, OutOfRange, RepeatedPoint, AreaTooShort, NoAnswer, TooManyRows, NotReduced, AddedHeader, TooFewSpeaking}
use Rattle.format.specs.Outcomes.{refusal_number}

pub number_positive : (reason : Reason) → 0 < refusal_number reason
number_positive TooShort = omega arith
number_positive SpareBit = omega arith
number_positive ByteCount = omega arith
number_positive TooFewRows = omega arith
number_positive OutOfRange = omega arith
number_positive RepeatedPoint = omega arith
number_positive AreaTooShort = omega arith
number_positive NoAnswer = omega arith
number_positive TooManyRows = omega arith
number_positive NotReduced = omega arith
number_positive AddedHeader = omega arith
number_positive TooFewSpeaking = omega arith

-- the reasons, each at the place of its number
abbrev reason_at : ℕ → Reason
reason_at n =
    get_or (NoAnswer ∷ TooShort ∷ SpareBit ∷ ByteCount ∷ TooFewRows ∷ OutOfRange ∷ RepeatedPoint ∷ AreaTooShort ∷ NoAnswer ∷ TooManyRows ∷ NotReduced ∷ AddedHeader ∷ TooFewSpeaking ∷ []) n NoAnswer

reason_of_number : (reason : Reason) → reason_at (refusal_number reason) ≡ reason
reason_of_number TooShort = refl
reason_of_number SpareBit = refl
reason_of_number ByteCount = refl
reason_of_number TooFewRows = refl
reason_of_number OutOfRange = refl
reason_of_number RepeatedPoint = refl
reason_of_number AreaTooShort = refl
reason_of_number NoAnswer = refl
reason_of_number TooManyRows = refl
reason_of_number NotReduced = refl
reason_of_number AddedHeader = refl
reason_of_number TooFewSpeaking = refl

pub number_injective : (q q' : Reason) → refusal_number q ≡ refusal_number q' → q ≡ q'
number_injective q q' e = sym (reason_of_number q) ∙ ap reason_at e ∙ reason_of_number q'
