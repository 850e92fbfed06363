-- The tests before 8 refuse nothing, or answer with a refusal numbered 1, 11, 12 or 3 to 7; where the area is as long as the answer, 7 is none.
use mathlib.Core.Path.{◌≡◌, ap, ◌∙◌}
use mathlib.Core.Logic.{◌⊎◌, inl, inr}
use mathlib.Core.Bool.{Bool, true, false}
use mathlib.Core.List.{List}
use Prim.Native.Nat.{ℕ}
use native.Mathlib.Nat.{le_refl}
use native.Mathlib.Omega.{arith}
use Rattle.std.specs.Prelude.{Result, Ok}
use Rattle.format.specs.declared.Refusal.{Refusal}
use Rattle.format.specs.Bounds.{answer_length_of}
use Rattle.format.specs.declared.Reason.TheVariants.{AreaTooShort}
use Rattle.format.specs.Outcomes.{check_report_of, refused}
use Rattle.lists.specs.Search.{if_holds}
use Rattle.header.specs.Header.{bounds_of}
use Rattle.job.specs.Refusals.{area_too_short, refuse, outcome_of}
use Rattle.job.proofs.Forms.{Given, ByForm, by_form, long_enough}

-- no refusal, or one numbered below m, or 11 or 12
abbrev pub EarlyBelow : ℕ → Result (Unit {0}) Refusal → Type 0
EarlyBelow m o = (o ≡ Ok tt) ⊎ Given m (check_report_of o).refusal

abbrev pub Early : Result (Unit {0}) Refusal → Type 0
Early o = EarlyBelow 8 o

pub outcome_early : (s : List ℕ) (area : ℕ) → Early (outcome_of s area)
outcome_early s area = by (by_form s)
  where
    last : (short : Bool) → outcome_of s area ≡ refuse AreaTooShort (if_holds short 0) (Ok tt) → Early (outcome_of s area)
    last true e = inr (rw (ap (λ o. (check_report_of o).refusal) e) (omega arith, (λ two. omega arith), λ high. omega arith))
    last false e = inl e

    by : ByForm s → Early (outcome_of s area)
    by (inl refused) = inr (rw (ap (λ o. (check_report_of o).refusal) (refused.3 area)) (refused.2.0, refused.2.1, λ high. refused.2.2 (omega arith)))
    by (inr passed) = last (area_too_short s area) (passed area)

pub form_early : (s : List ℕ) → EarlyBelow 7 (outcome_of s (answer_length_of (bounds_of s)))
form_early s = by (by_form s)
  where
    by : ByForm s → EarlyBelow 7 (outcome_of s (answer_length_of (bounds_of s)))
    by (inl refused) =
        inr (rw (ap (λ o. (check_report_of o).refusal) (refused.3 (answer_length_of (bounds_of s)))) refused.2)
    by (inr passed) = inl (passed (answer_length_of (bounds_of s)) ∙ long_enough s (answer_length_of (bounds_of s)) (le_refl _))
