-- What a report tells of the answer behind it: it gives that answer back.
use mathlib.Core.Path.{◌≡◌, refl, sym, ap, ap₂}
use native.Mathlib.Omega.{arith}
use Rattle.std.specs.Prelude.{ℕ, Result, Ok, Err}
use Rattle.format.specs.declared.Reason.{Reason}
use Rattle.format.specs.declared.Refusal.{Refusal}
use Rattle.format.specs.declared.Recovered.{Recovered}
use Rattle.format.specs.Outcomes.{refusal_number, refused, report_of, check_report_of, writing_report_of}
use Rattle.format.proofs.Numbers.{number_positive, number_injective}

-- no refusal has the number 0
no_zero : (q : Reason) → refusal_number q ≡ 0 → ⊥
no_zero q z = let l = number_positive q in omega arith

same_refusal : {A : Type 0} (e e' : Refusal) → refusal_number e.reason ≡ refusal_number e'.reason → e.row ≡ e'.row → ◌≡◌ {A = Result A Refusal} (Err e) (Err e')
same_refusal e e' number row = ap₂ refused (number_injective e.reason e'.reason number) row

pub outcome_injective : (r r' : Result Recovered Refusal) → report_of r ≡ report_of r' → r ≡ r'
outcome_injective (Ok a) (Ok a') e = ap₂ (λ n w. Ok (record { bytes = n; wrong = w })) (ap (λ t. t.written) e) (ap (λ t. t.wrong) e)
outcome_injective (Ok a) (Err q) e = absurd (no_zero q.reason (sym (ap (λ t. t.refusal) e)))
outcome_injective (Err q) (Ok a) e = absurd (no_zero q.reason (ap (λ t. t.refusal) e))
outcome_injective (Err q) (Err q') e = same_refusal q q' (ap (λ t. t.refusal) e) (ap (λ t. t.row) e)

pub check_injective : (r r' : Result (Unit {0}) Refusal) → check_report_of r ≡ check_report_of r' → r ≡ r'
check_injective (Ok a) (Ok a') e = refl
check_injective (Ok a) (Err q) e = absurd (no_zero q.reason (sym (ap (λ t. t.refusal) e)))
check_injective (Err q) (Ok a) e = absurd (no_zero q.reason (ap (λ t. t.refusal) e))
check_injective (Err q) (Err q') e = same_refusal q q' (ap (λ t. t.refusal) e) (ap (λ t. t.row) e)

pub writing_injective : (r r' : Result ℕ Refusal) → writing_report_of r ≡ writing_report_of r' → r ≡ r'
writing_injective (Ok n) (Ok n') e = ap Ok (ap (λ t. t.written) e)
writing_injective (Ok n) (Err q) e = absurd (no_zero q.reason (sym (ap (λ t. t.refusal) e)))
writing_injective (Err q) (Ok n) e = absurd (no_zero q.reason (ap (λ t. t.refusal) e))
writing_injective (Err q) (Err q') e = same_refusal q q' (ap (λ t. t.refusal) e) (ap (λ t. t.row) e)
