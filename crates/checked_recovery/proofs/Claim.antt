-- The claim about the two calls, from what each of them settles.
use mathlib.Core.Path.{◌≡◌, refl, sym, ap, ◌∙◌}
use mathlib.Core.Logic.{◌⊎◌, inl, inr}
use mathlib.Core.Bool.{Bool, true, false}
use mathlib.Core.List.{List}
use Prim.Native.Nat.{ℕ, ◌<◌}
use borrow.Author.Tests.{ltb-true}
use lib.ListN.{length}
use Rattle.std.specs.Prelude.{Result, Ok}
use Rattle.format.specs.Bounds.{answer_length_of}
use Rattle.format.specs.declared.Reason.TheVariants.{AreaTooShort}
use Rattle.format.specs.declared.Report.{Report}
use Rattle.format.specs.declared.Refusal.{Refusal}
use Rattle.format.specs.Outcomes.{check_report_of, refused_report}
use Rattle.header.specs.Header.{bounds_of}
use Rattle.job.specs.Refusals.{area_too_short, refuse, outcome_of}
use Rattle.job.specs.Form.{form_outcome_of}
use Rattle.job.proofs.Facts.{refused_not_accepted}
use Rattle.job.proofs.Forms.{last_test, Alike, check_alike}
use Rattle.lists.specs.Search.{if_holds}
use Rattle.recovery.specs.Recovery.{RefusedEarly, Answered, RefusedUnsolvable, Settled}
use Rattle.checked_recovery.specs.CheckedRecovery.{CheckedRecovery}

module _ (s : List ℕ) {c : Result (Unit {0}) Refusal} (C : c ≡ form_outcome_of s) (area : List ℕ) {r : Report} {after : List ℕ} (S : Settled s area r after) where
  -- a job that a test before 7 refuses
  early : {o : Result (Unit {0}) Refusal} → (o ≡ Ok tt → ⊥) → outcome_of s (length area) ≡ o → (r ≡ check_report_of o) × (after ≡ area)
  early {o} not e = by S.cases
    where
      by : RefusedEarly s area r after ⊎ (Answered s area r after ⊎ RefusedUnsolvable s area r after) → (r ≡ check_report_of o) × (after ≡ area)
      by (inl h) = (h.report ∙ ap check_report_of e, h.untouched)
      by (inr (inl h)) = absurd (not (sym e ∙ h.well_formed))
      by (inr (inr h)) = absurd (not (sym e ∙ h.well_formed))

  abbrev Later : Type 0
  Later = (r.refusal ≡ 0) ⊎ (((length area < answer_length_of (bounds_of s)) × (r ≡ refused_report 7 0)) ⊎ (r ≡ refused_report 8 0))

  -- a job that they let pass
  later : outcome_of s (length area) ≡ last_test s (length area) → Later
  later e = by S.cases
    where
      seven : (b : Bool) → area_too_short s (length area) ≡ b → RefusedEarly s area r after → Later
      seven true short h = inr (inl (ltb-true _ _ short, h.report ∙ ap check_report_of (e ∙ ap (λ (x : Bool). refuse AreaTooShort (if_holds x 0) (Ok tt)) short)))
      seven false long h = absurd (h.malformed (e ∙ ap (λ (x : Bool). refuse AreaTooShort (if_holds x 0) (Ok tt)) long))

      by : RefusedEarly s area r after ⊎ (Answered s area r after ⊎ RefusedUnsolvable s area r after) → Later
      by (inl h) = seven (area_too_short s (length area)) refl h
      by (inr (inl h)) = inl (ap (λ (x : Report). x.refusal) h.report)
      by (inr (inr h)) = inr (inr h.report)

  pub checked_recovery : CheckedRecovery s area c r after
  checked_recovery = by (check_alike s (length area))
    where
      by : Alike s (length area) → CheckedRecovery s area c r after
      by (inl h) =
          let form = C ∙ h.3 in
          let alike = early refused_not_accepted h.4 in record {
            first = C;
            second = S;
            refused = λ reason row e. (alike.0 ∙ ap check_report_of (sym form ∙ e), alike.1);
            accepted = λ e. absurd (refused_not_accepted (sym form ∙ e));
          }
      by (inr h) = record {
        first = C;
        second = S;
        refused = λ reason row e. absurd (refused_not_accepted (sym e ∙ C ∙ h.0));
        accepted = λ e. later h.1;
      }
