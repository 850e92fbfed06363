-- The margin by what the tests before 7 say, and as a sum.
use Prim.Native.Nat.{ℕ, ◌+◌, ◌-◌, ◌*◌, ◌≤◌, ◌<◌}
use mathlib.Core.Path.{◌≡◌, refl, ap, ◌∙◌}
use mathlib.Core.Logic.{◌⊎◌, inl, inr}
use mathlib.Core.List.{List}
use native.Mathlib.Omega.{arith}
use borrow.Author.Tests.{lt-ltb, le-ltb}
use Rattle.lists.proofs.Order.{lt_or_ge}
use Rattle.std.specs.Prelude.{Result, Ok, Err}
use Rattle.format.specs.declared.Refusal.{Refusal}
use Rattle.header.specs.Header.{df_of, bounds_of}
use Rattle.marked_rows.specs.Marks.{speaking_count}
use Rattle.job.specs.Form.{form_outcome_of}
use Rattle.margin.specs.Margin.{excess_of, margin_by, margin_of}

-- the difference where it is at least 1; where it is not, 0 is the difference too
pub excess_difference : (number other : ℕ) → excess_of number other ≡ number - other
excess_difference number other = by (lt_or_ge other number)
  where
    by : (other < number) ⊎ (number ≤ other) → excess_of number other ≡ number - other
    by (inl l) = rw (lt-ltb other number l) refl
    by (inr l) = rw (le-ltb other number l) (omega arith)

module _ (s : List ℕ) (wrong : ℕ) where
  pub margin_by_lem : {o : Result (Unit {0}) Refusal} → form_outcome_of s ≡ o → margin_of s wrong ≡ margin_by o s wrong
  unfolding margin_of
  margin_by_lem e = ap (λ (o : Result (Unit {0}) Refusal). margin_by o s wrong) e

  pub margin-refused : (form_outcome_of s ≡ Ok tt → ⊥) → margin_of s wrong ≡ 0
  margin-refused not = by (form_outcome_of s) refl
    where
      by : (o : Result (Unit {0}) Refusal) → form_outcome_of s ≡ o → margin_of s wrong ≡ 0
      by (Ok _) e = absurd (not e)
      by (Err _) e = margin_by_lem e

  -- a margin that is not 0 says that no test before 7 refuses the job
  pub margin_accepted : 0 < margin_of s wrong → form_outcome_of s ≡ Ok tt
  margin_accepted positive = by (form_outcome_of s) refl
    where
      by : (o : Result (Unit {0}) Refusal) → form_outcome_of s ≡ o → o ≡ Ok tt
      by (Ok _) e = refl
      by (Err _) e = absurd (omega (arith, margin_by_lem e, positive))

  -- then S is df + dg + 2 W and the margin; and it is not 0 where S is above df + dg + 2 W
  pub margin-sum : 0 < margin_of s wrong → df_of s + (bounds_of s).dg + 2 * wrong + margin_of s wrong ≡ speaking_count s
  margin-sum positive = omega (arith, margin_by_lem (margin_accepted positive) ∙ excess_difference _ _, positive)

  pub margin_positive : form_outcome_of s ≡ Ok tt → df_of s + (bounds_of s).dg + 2 * wrong < speaking_count s → 0 < margin_of s wrong
  margin_positive accepted many = omega (arith, margin_by_lem accepted ∙ excess_difference _ _, many)
