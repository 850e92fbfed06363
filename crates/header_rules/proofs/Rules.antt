-- What the rules of the longer header say of the bounds.
use Prim.Native.Nat.{ℕ, ◌%◌, ◌≤◌, ◌<◌}
use mathlib.Core.Bool.{Bool, true, false, cond, not, ◌&&◌, ◌||◌}
use mathlib.Core.List.{List}
use mathlib.Core.Logic.{◌⊎◌, inl, inr}
use mathlib.Core.Path.{◌≡◌, refl}
use native.Mathlib.Omega.{arith}
use borrow.Author.Tests.{le-leb, eqb-true, not-false}
use lib.Dec.{ltb, leb, eqb}
use Rattle.lists.proofs.Order.{lt_or_ge}
use Rattle.lists.proofs.Truth.{clash, or-false}
use Rattle.std.specs.Prelude.{Result, Ok}
use Rattle.format.specs.declared.Reason.TheVariants.{TooShort, AddedHeader}
use Rattle.format.specs.declared.Refusal.{Refusal}
use Rattle.format.specs.Outcomes.{refused}
use Rattle.format.specs.Bounds.{numerator_bound_of, largest_bound}
use Rattle.format.proofs.Sizes.{largest_above}
use Rattle.cursor.proofs.Fields.{field_below}
use Rattle.lists.proofs.FirstBelow.{any_passes}
use Rattle.header.specs.Header.{outputs_of, df_of, spare_bit_of, flags_of, bounds_of}
use Rattle.header.proofs.Fields.{bound_at, bound_past}
use Rattle.header_rules.specs.Rules.{bounds_absent, added_header_broken}

-- a short header breaks none
pub short_unbroken : (s : List ℕ) → spare_bit_of s ≡ 0 → added_header_broken s ≡ false
short_unbroken s e = rw e refl

-- the spare bit is 0 or 1
pub short_or_longer : (s : List ℕ) → (spare_bit_of s ≡ 0) ⊎ (spare_bit_of s ≡ 1)
unfolding spare_bit_of
short_or_longer s = by (lt_or_ge (spare_bit_of s) 1)
  where
    by : (spare_bit_of s < 1) ⊎ (1 ≤ spare_bit_of s) → (spare_bit_of s ≡ 0) ⊎ (spare_bit_of s ≡ 1)
    by (inl l) = inl (omega arith)
    by (inr l) = inr (omega (arith, field_below s 23 1))

module _ (s : List ℕ) (unbroken : added_header_broken s ≡ false) (longer : spare_bit_of s ≡ 1) where
  rules_kept : (flags_of s % 2048 ≡ 0) × (bounds_absent (bounds_of s) ≡ false) × (df_of s ≡ largest_bound (bounds_of s) (bounds_of s).outputs)
  rules_kept =
      let flags = not (eqb (flags_of s % 2048) 0) in
      let absent = bounds_absent (bounds_of s) in
      let df = not (eqb (df_of s) (largest_bound (bounds_of s) (bounds_of s).outputs)) in
      let all : (flags || absent || df) ≡ false = rw longer at unbroken in
      let last = or-false (flags || absent) df all in
      let first = or-false flags absent last.0 in
      (eqb-true _ _ (not-false _ first.0), first.1, eqb-true _ _ (not-false _ last.1))

  pub absent_zero : (i : ℕ) → i < 4 → (bounds_of s).outputs ≤ i → numerator_bound_of (bounds_of s) i ≡ 0
  absent_zero i l past =
      let b = bounds_of s in
      let absent = any_passes (λ k. leb b.outputs k && not (eqb (numerator_bound_of b k) 0)) 4 rules_kept.1 i l in
      eqb-true _ _ (not-false _ (simp (le-leb b.outputs i past) at absent))

-- where no rule is broken, df is above no output's bound
pub bound_within_df : (s : List ℕ) → added_header_broken s ≡ false → (i : ℕ) → numerator_bound_of (bounds_of s) i ≤ df_of s
bound_within_df s unbroken i = by (short_or_longer s) (lt_or_ge i 4) (lt_or_ge i (bounds_of s).outputs)
  where
    equal : (exists : Bool) → cond exists (df_of s) 0 ≤ df_of s
    equal true = omega arith
    equal false = omega arith

    by : (spare_bit_of s ≡ 0) ⊎ (spare_bit_of s ≡ 1) → (i < 4) ⊎ (4 ≤ i) → (i < (bounds_of s).outputs) ⊎ ((bounds_of s).outputs ≤ i)
        → numerator_bound_of (bounds_of s) i ≤ df_of s
    by spare (inr past) place = rw (bound_past s i past) (omega arith)
    by (inl short) (inl l) place = rw (bound_at s i l, short) (equal (ltb i (outputs_of s)))
    by (inr longer) (inl l) (inl exists) = rw (rules_kept s unbroken longer).2 (largest_above (bounds_of s) (bounds_of s).outputs i exists)
    by (inr longer) (inl l) (inr past) = rw (absent_zero s unbroken longer i l past) (omega arith)

-- tests 1 and 11, a and b, and what later ones say: `rules_then` with both in their places
abbrev pub two_tests : (a b : Bool) → Result (Unit {0}) Refusal → Result (Unit {0}) Refusal
two_tests a b later = cond a (refused TooShort 0) (cond b (refused AddedHeader 0) later)

pub two_refused : (a b : Bool) (later : Result (Unit {0}) Refusal) → (two_tests a b (Ok tt) ≡ Ok tt → ⊥) → two_tests a b (Ok tt) ≡ two_tests a b later
two_refused true b later refuses = refl
two_refused false true later refuses = refl
two_refused false false later refuses = absurd (refuses refl)

pub two_passed : (a b : Bool) (later : Result (Unit {0}) Refusal) → two_tests a b (Ok tt) ≡ Ok tt → later ≡ two_tests a b later
two_passed true b later e = absurd (clash cc)
two_passed false true later e = absurd (clash cc)
two_passed false false later e = refl
