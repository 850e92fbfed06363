-- Truth values.
use mathlib.Core.Path.{◌≡◌, refl, sym}
use mathlib.Core.Bool.{Bool, true, false, ◌||◌, true≢false}
use mathlib.Core.Logic.{◌↔◌}

-- Anything follows from a contradiction. Where the facts in scope make two constructors equal, `cc` proves this one: `clash cc`.
pub clash : {A : Type 0} → true ≡ false → A
clash e = absurd (true≢false e)

-- a truth value that cannot be true
pub never_true : (b : Bool) → (b ≡ true → ⊥) → b ≡ false
never_true true n = absurd (n refl)
never_true false n = refl

-- neither of two holds
pub or-false : (a b : Bool) → (a || b) ≡ false → (a ≡ false) × (b ≡ false)
or-false true b e = clash e
or-false false b e = (refl, e)

-- the answer false, where A does not hold
pub refuted : {A : Type 0} → (A → ⊥) → (false ≡ true) ↔ A
refuted none = ((λ e. clash (sym e)), λ a. absurd (none a))
