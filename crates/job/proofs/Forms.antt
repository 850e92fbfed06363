-- What the tests before 7 say does not depend on the answer area.
use mathlib.Core.Path.{◌≡◌, refl, sym, ap, ◌∙◌}
use mathlib.Core.Logic.{◌⊎◌, inl, inr}
use mathlib.Core.Bool.{Bool, true, false}
use mathlib.Core.List.{List}
use Prim.Native.Nat.{ℕ, ◌≤◌, ◌<◌}
use native.Mathlib.Nat.{le_refl}
use native.Mathlib.Omega.{arith}
use borrow.Author.Tests.{le-ltb}
use Rattle.std.specs.Prelude.{Option, Some, None, Result, Ok}
use Rattle.format.specs.declared.Refusal.{Refusal}
use Rattle.format.specs.Bounds.{answer_length_of}
use Rattle.format.specs.declared.Reason.{Reason}
use Rattle.format.specs.declared.Reason.TheVariants.{TooShort, AddedHeader, ByteCount, TooFewRows, OutOfRange, TooFewSpeaking, RepeatedPoint, AreaTooShort}
use Rattle.format.specs.Outcomes.{refusal_number, check_report_of, refused}
use Rattle.lists.specs.Search.{if_holds, first_below}
use Rattle.header.specs.Header.{bounds_of}
use Rattle.header_rules.specs.Rules.{too_short, added_header_broken}
use Rattle.job.specs.Form.{first_tests, form_outcome_of}
use Rattle.job.specs.Refusals.{byte_count_differs, too_few_rows, out_of_range, too_few_speaking, repeated_point, area_too_short, refuse, outcome_of_rows, outcome_of}
use Rattle.job.proofs.Laws.{answer_length_most}

-- tests either refuse, whatever the later ones say and for one of the given reasons, or answer as the later ones do
abbrev pub Decisive : (Given : Reason → Type 0) → (Result (Unit {0}) Refusal → Result (Unit {0}) Refusal) → Type 0
Decisive Given tests =
    ((reason : Reason) × (row : ℕ) × Given reason × ((later : Result (Unit {0}) Refusal) → tests later ≡ refused reason row)) ⊎ ((later : Result (Unit {0}) Refusal) → tests later ≡ later)

pub refuse_decisive : (Given : Reason → Type 0) (reason : Reason) (f : Option ℕ) (tests : Result (Unit {0}) Refusal → Result (Unit {0}) Refusal) → Given reason → Decisive Given tests
    → Decisive Given (λ later. refuse reason f (tests later))
refuse_decisive Given reason (Some row) tests given d = inl (reason, row, given, λ later. refl)
refuse_decisive Given reason None tests given d = d

-- the number of a refusal before m, or 11 or 12; 2 is none
abbrev pub Given : (m n : ℕ) → Type 0
Given m n = (0 < n) × (n ≡ 2 → ⊥) × (m ≤ n → (11 ≤ n) × (n ≤ 12))

-- the reasons of tests 1, 11, 3, 4, 5, 12 and 6
abbrev pub OfForm : Reason → Type 0
OfForm reason = Given 7 (refusal_number reason)

module _ (s : List ℕ) where
  -- test 7 alone
  abbrev pub last_test : ℕ → Result (Unit {0}) Refusal
  last_test area = refuse AreaTooShort (if_holds (area_too_short s area) 0) (Ok tt)

  -- one of them refuses the job whatever the area, or test 7 decides
  abbrev pub ByForm : Type 0
  ByForm =
      ((reason : Reason) × (row : ℕ) × OfForm reason × ((area : ℕ) → outcome_of s area ≡ refused reason row))
      ⊎ ((area : ℕ) → outcome_of s area ≡ last_test area)

  first_decisive : Decisive OfForm (first_tests s)
  first_decisive =
      refuse_decisive OfForm TooShort (if_holds (too_short s) 0) _ (omega arith)
      (refuse_decisive OfForm AddedHeader (if_holds (added_header_broken s) 0) _ (omega arith)
      (refuse_decisive OfForm ByteCount (if_holds (byte_count_differs s) 0) _ (omega arith)
      (refuse_decisive OfForm TooFewRows (if_holds (too_few_rows s) 0) _ (omega arith)
      (refuse_decisive OfForm OutOfRange (first_below (bounds_of s).rows (out_of_range s)) _ (omega arith)
      (refuse_decisive OfForm TooFewSpeaking (if_holds (too_few_speaking s) 0) _ (omega arith)
      (refuse_decisive OfForm RepeatedPoint (first_below (bounds_of s).rows (repeated_point s)) (λ later. later) (omega arith) (inr (λ later. refl))))))))

  pub by_form : ByForm
  unfolding outcome_of outcome_of_rows
  by_form = by first_decisive
    where
      by : Decisive OfForm (first_tests s) → ByForm
      by (inl d) = inl (d.0, d.1, d.2, λ area. d.3 (last_test area))
      by (inr d) = inr (λ area. d (last_test area))

  pub long_enough : (area : ℕ) → answer_length_of (bounds_of s) ≤ area → last_test area ≡ Ok tt
  long_enough area l = simp (le-ltb area (answer_length_of (bounds_of s)) l)

  -- no test gives another outcome
  pub accepted_or_refused : (area : ℕ) → (outcome_of s area ≡ Ok tt) ⊎ ((reason : Reason) × (row : ℕ) × (outcome_of s area ≡ refused reason row))
  accepted_or_refused area = by by_form
    where
      last : (short : Bool) → outcome_of s area ≡ refuse AreaTooShort (if_holds short 0) (Ok tt)
          → (outcome_of s area ≡ Ok tt) ⊎ ((reason : Reason) × (row : ℕ) × (outcome_of s area ≡ refused reason row))
      last true e = inr (AreaTooShort, 0, e)
      last false e = inl e

      by : ByForm → (outcome_of s area ≡ Ok tt) ⊎ ((reason : Reason) × (row : ℕ) × (outcome_of s area ≡ refused reason row))
      by (inl refused) = inr (refused.0, refused.1, refused.3 area)
      by (inr passed) = last (area_too_short s area) (passed area)

  -- a check for form says what the tests say with an area just as long as the answer
  pub form-outcome : form_outcome_of s ≡ outcome_of s (answer_length_of (bounds_of s))
  unfolding form_outcome_of outcome_of outcome_of_rows
  form-outcome = ap (first_tests s) (sym (long_enough (answer_length_of (bounds_of s)) (le_refl _)))

  -- a check for form and the tests with an area refuse the job alike, with one of them; or the check accepts it, and test 7 decides
  abbrev pub Alike : ℕ → Type 0
  Alike area =
      ((reason : Reason) × (row : ℕ) × OfForm reason × (form_outcome_of s ≡ refused reason row) × (outcome_of s area ≡ refused reason row))
      ⊎ ((form_outcome_of s ≡ Ok tt) × (outcome_of s area ≡ last_test area))

  pub check_alike : (area : ℕ) → Alike area
  check_alike area = by by_form
    where
      by : ByForm → Alike area
      by (inl refused) = inl (refused.0, refused.1, refused.2, form-outcome ∙ refused.3 (answer_length_of (bounds_of s)), refused.3 area)
      by (inr passed) = inr (form-outcome ∙ passed (answer_length_of (bounds_of s)) ∙ long_enough _ (le_refl _), passed area)

  -- areas that are long enough
  pub form-same : (area : ℕ) → 254 ≤ area → outcome_of s area ≡ outcome_of s (answer_length_of (bounds_of s))
  form-same area l = by by_form
    where
      by : ByForm → outcome_of s area ≡ outcome_of s (answer_length_of (bounds_of s))
      by (inl refused) = refused.3 area ∙ sym (refused.3 (answer_length_of (bounds_of s)))
      by (inr passed) =
          let exact = passed (answer_length_of (bounds_of s)) ∙ long_enough _ (le_refl _) in
          passed area ∙ long_enough area (omega (arith, answer_length_most s _ exact)) ∙ sym exact

  -- with 254 bytes, which no answer exceeds, the tests say what a check for form does
  pub form_with_room : form_outcome_of s ≡ outcome_of s 254
  form_with_room = form-outcome ∙ sym (form-same 254 (le_refl 254))

  -- a refusal before 7 is given with every area
  pub form-refused : (area : ℕ) → 0 < (check_report_of (outcome_of s area)).refusal → ((check_report_of (outcome_of s area)).refusal ≡ 7 → ⊥)
      → outcome_of s area ≡ outcome_of s (answer_length_of (bounds_of s))
  form-refused area positive other = by by_form
    where
      seven : (short : Bool) → outcome_of s area ≡ refuse AreaTooShort (if_holds short 0) (Ok tt) → ⊥
      seven true e = other (ap (λ o. (check_report_of o).refusal) e)
      seven false e = let n = ap (λ o. (check_report_of o).refusal) e in omega arith

      by : ByForm → outcome_of s area ≡ outcome_of s (answer_length_of (bounds_of s))
      by (inl refused) = refused.3 area ∙ sym (refused.3 (answer_length_of (bounds_of s)))
      by (inr passed) = absurd (seven (area_too_short s area) (passed area))

  -- and a job that passes test 7 passes it with every area that is long enough
  pub form_accepted : (area : ℕ) → outcome_of s area ≡ Ok tt → outcome_of s (answer_length_of (bounds_of s)) ≡ Ok tt
  form_accepted area wf = by by_form
    where
      by : ByForm → outcome_of s (answer_length_of (bounds_of s)) ≡ Ok tt
      by (inl refused) = refused.3 (answer_length_of (bounds_of s)) ∙ sym (refused.3 area) ∙ wf
      by (inr passed) = passed (answer_length_of (bounds_of s)) ∙ long_enough _ (le_refl _)
