-- Which test decides.
use mathlib.Core.Bool.{true, false}
use mathlib.Core.List.{List}
use mathlib.Core.Path.{◌≡◌, refl}
use Prim.Native.Nat.{ℕ}
use Rattle.std.specs.Prelude.{Option, Some, None, Result, Ok, Err}
use Rattle.format.specs.declared.Refusal.{Refusal}
use Rattle.lists.proofs.Truth.{clash}
use Rattle.format.specs.declared.Reason.TheVariants.{TooShort, TooFewRows, OutOfRange, TooFewSpeaking, RepeatedPoint, AreaTooShort}
use Rattle.header.specs.Header.{bounds_of}
use Rattle.lists.specs.Search.{first_below, if_holds}
use Rattle.header_rules.specs.Rules.{too_short, added_header_broken}
use Rattle.job.specs.Refusals.{byte_count_differs, too_few_rows, out_of_range, too_few_speaking, repeated_point, area_too_short, refuse, row_tests, outcome_of_rows, outcome_of}
use Rattle.format.specs.Outcomes.{refused}

-- three tests, by what they found
abbrev three_tests : (a b c : Option ℕ) → Result (Unit {0}) Refusal → Result (Unit {0}) Refusal
three_tests a b c later = refuse OutOfRange a (refuse TooFewSpeaking b (refuse RepeatedPoint c later))

three-refused : (a b c : Option ℕ) {e : Refusal} (later : Result (Unit {0}) Refusal) → three_tests a b c (Ok tt) ≡ Err e → three_tests a b c later ≡ Err e
three-refused (Some r) b c later e = e
three-refused None (Some r) c later e = e
three-refused None None (Some r) later e = e
three-refused None None None later e = absurd (clash cc)

three-passed : (a b c : Option ℕ) (later : Result (Unit {0}) Refusal) → three_tests a b c (Ok tt) ≡ Ok tt → three_tests a b c later ≡ later
three-passed (Some r) b c later e = absurd (clash cc)
three-passed None (Some r) c later e = absurd (clash cc)
three-passed None None (Some r) later e = absurd (clash cc)
three-passed None None None later e = refl

-- tests 5, 12 and 6, whatever the later ones say
module _ (s : List ℕ) where
  abbrev range : Option ℕ
  range = first_below (bounds_of s).rows (out_of_range s)

  abbrev few : Option ℕ
  few = if_holds (too_few_speaking s) 0

  abbrev repeated : Option ℕ
  repeated = first_below (bounds_of s).rows (repeated_point s)

  pub rows-refused : {e : Refusal} (later : Result (Unit {0}) Refusal) → row_tests s (Ok tt) ≡ Err e → row_tests s later ≡ Err e
  rows-refused later e = three-refused range few repeated later e

  pub rows-passed : (later : Result (Unit {0}) Refusal) → row_tests s (Ok tt) ≡ Ok tt → row_tests s later ≡ later
  rows-passed later e = three-passed range few repeated later e

  module _ (later : Result (Unit {0}) Refusal) where
    pub at_5 : {r : ℕ} → first_below (bounds_of s).rows (out_of_range s) ≡ Some r → row_tests s later ≡ refused OutOfRange r
    at_5 e = rw e refl

    module _ (not-5 : first_below (bounds_of s).rows (out_of_range s) ≡ None) where
      pub at_12 : too_few_speaking s ≡ true → row_tests s later ≡ refused TooFewSpeaking 0
      at_12 e = rw (not-5, e) refl

      module _ (not-12 : too_few_speaking s ≡ false) where
        pub at_6 : {r : ℕ} → first_below (bounds_of s).rows (repeated_point s) ≡ Some r → row_tests s later ≡ refused RepeatedPoint r
        at_6 e = rw (not-5, not-12, e) refl

        pub past_6 : first_below (bounds_of s).rows (repeated_point s) ≡ None → row_tests s later ≡ later
        past_6 e = rw (not-5, not-12, e) refl

module _ (s : List ℕ) (area : ℕ) where
  -- test 7
  pub at_7 : area_too_short s area ≡ true → row_tests s (Ok tt) ≡ Ok tt → outcome_of_rows s area ≡ refused AreaTooShort 0
  unfolding outcome_of_rows
  at_7 e passed = rw e (rows-passed s (refused AreaTooShort 0) passed)

  pub accepted : area_too_short s area ≡ false → row_tests s (Ok tt) ≡ Ok tt → outcome_of_rows s area ≡ Ok tt
  unfolding outcome_of_rows
  accepted e passed = rw e passed

  -- tests 1 and 4
  pub at_1 : too_short s ≡ true → outcome_of s area ≡ refused TooShort 0
  unfolding outcome_of
  at_1 e = rw e refl

  module _ (not-1 : too_short s ≡ false) (not-11 : added_header_broken s ≡ false) (not-3 : byte_count_differs s ≡ false) where
    pub at_4 : too_few_rows s ≡ true → outcome_of s area ≡ refused TooFewRows 0
    unfolding outcome_of
    at_4 e = rw (not-1, not-11, not-3, e) refl

    pub past_4 : too_few_rows s ≡ false → outcome_of s area ≡ outcome_of_rows s area
    unfolding outcome_of
    past_4 e = rw (not-1, not-11, not-3, e) refl
