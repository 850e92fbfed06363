-- The wrong rows of a trial job are the poles and the spoiled rows.
use Prim.Native.Nat.{ℕ, zero, suc, ◌+◌, ◌-◌, ◌*◌, ◌%◌, ◌≤◌, ◌<◌}
use mathlib.Core.Path.{◌≡◌, refl, sym, ap, ◌∙◌}
use mathlib.Core.Bool.{Bool, true, false, ◌||◌}
use mathlib.Core.List.{List}
use mathlib.Core.Logic.{◌⊎◌, inl, inr}
use native.Mathlib.Nat.{add-mod_right, add-zero, mod-eq_of_lt, mod-lt}
use native.Mathlib.Omega.{arith}
use borrow.Author.Tests.{eqb-true}
use Rattle.lists.proofs.Order.{lt_or_ge}
use Rattle.field.proofs.Primality.{IsPrime}
use Rattle.field.proofs.Moduli.{modulus_prime, modulus_positive}
use Rattle.format.specs.Bounds.{prime_of}
use Rattle.header.specs.Header.{bounds_of}
use Rattle.header.proofs.Fields.{fits_fields}
use Rattle.poly.specs.Operations.{value_of}
use Rattle.problem.specs.Rows.{wrong_row}
use Rattle.problem.specs.Answers.{wrong_at}
use Rattle.problem.proofs.Rows.{wrong_one, all_right, wrong_same, unmarked_verdict}
use Rattle.problem.proofs.Roots.{root_wrong}
use Rattle.answer.specs.Coefficients.{denominator_of, numerator_of}
use Rattle.spoiling.specs.Spoiling.{added_by, spoiled_by}
use Rattle.spoiling.proofs.Added.{added_below, spoiled_positive, unspoiled_zero}
use Rattle.trial.specs.Rows.{pole_at, value_before, trial_number}
use Rattle.trial.proofs.Values.{regular_right, regular_only, value_before_below}
use Rattle.trial.specs.Trial.{trial_job, TrialReduced}
use Rattle.trial.proofs.Facts.{TrialFacts}
use Rattle.trial_recovery.specs.TrialRecovery.{pole_or_spoiled}
use Rattle.trial_recovery.proofs.Reading.{bounds_same, number_read, row_unmarked, refusal_number}

-- a residue that is moved by 1 to p - 1 is another one
moved : (p v a : ℕ) → v < p → 0 < a → a < p → (v + a) % p ≡ v → ⊥
moved p v a lv positive la e = by (lt_or_ge (v + a) p)
  where
    by : (v + a < p) ⊎ (p ≤ v + a) → ⊥
    by (inl l) = let same = mod-eq_of_lt l in omega arith
    by (inr l) =
        let whole : v + a ≡ (v + a - p) + p = omega arith in
        let rest : (v + a) % p ≡ v + a - p = ap (λ x. x % p) whole ∙ add-mod_right (v + a - p) p ∙ mod-eq_of_lt (omega arith) in
        omega arith

module _ (h c : List ℕ) (start w : ℕ) (facts : TrialFacts h c w) (R : TrialReduced h c) where
  abbrev p : ℕ
  p = prime_of (bounds_of h)

  abbrev n : ℕ
  n = (bounds_of h).outputs

  abbrev f : ℕ → List ℕ
  f = numerator_of (bounds_of h) c

  abbrev g : List ℕ
  g = denominator_of (bounds_of h) c

  abbrev numbers : ℕ → ℕ → ℕ
  numbers = refusal_number h c start w facts

  -- row r as it was written
  abbrev written_wrong : ℕ → Bool
  written_wrong r = wrong_row p n r (λ i. numbers r (1 + i)) f g

  -- is row r as it is read, which has no mark
  read_wrong : (r : ℕ) → r < (bounds_of h).rows → wrong_at (trial_job h c start w) f g r ≡ written_wrong r
  unfolding trial_number
  read_wrong r l =
      unmarked_verdict _ _ _ _ f g (row_unmarked h c start w facts r l)
      ∙ rw (bounds_same h c start w facts, number_read h c start w facts r 0 l (omega arith))
      (wrong_same p r n f f g g (λ i m. number_read h c start w facts r (1 + i) l (omega arith)) (λ i m k. refl) (λ k. refl))

  first_value : (r : ℕ) → numbers r 1 ≡ (value_before p f g r 0 + added_by p (bounds_of h).rows start w r) % p
  unfolding trial_number
  first_value r = refl

  module _ (r : ℕ) where
    P : IsPrime p
    P = modulus_prime (bounds_of h).prime

    -- a pole is wrong whatever it says
    at_pole : pole_at p g r ≡ true → written_wrong r ≡ true
    at_pole e = root_wrong p r P.two R (eqb-true _ _ e) _

    -- a spoiled row that is none has a wrong first value
    when_spoiled : pole_at p g r ≡ false → spoiled_by p (bounds_of h).rows start w r ≡ true → written_wrong r ≡ true
    when_spoiled regular e =
        let a = added_by p (bounds_of h).rows start w r in
        let v = value_before p f g r 0 in
        let positive = modulus_positive (bounds_of h).prime in
        wrong_one p r _ f g n 0 (let l = (fits_fields h).outputs_least in omega arith)
        (λ right. moved p v a (value_before_below P f g r 0) (spoiled_positive p (bounds_of h).rows start w r e) (added_below p (bounds_of h).rows start w r P.two)
        (regular_only P f g r 0 regular ((v + a) % p) (mod-lt _ positive) (right ∙ ap (λ y. value_of p r g * y % p) (first_value r))))

    -- any other row is right
    otherwise : pole_at p g r ≡ false → spoiled_by p (bounds_of h).rows start w r ≡ false → written_wrong r ≡ false
    unfolding trial_number
    otherwise regular e = all_right p r _ f g n (λ i l. regular_right P f g r i regular ∙ ap (λ y. value_of p r g * y % p) (sym (value i)))
      where
        value : (i : ℕ) → numbers r (1 + i) ≡ value_before p f g r i
        value zero =
            ap (λ a. (value_before p f g r 0 + a) % p) (unspoiled_zero p (bounds_of h).rows start w r e)
            ∙ ap (λ x. x % p) (add-zero (value_before p f g r 0)) ∙ mod-eq_of_lt (value_before_below P f g r 0)
        value (suc i) = ap (numbers r) (let e : 1 + suc i ≡ suc (suc i) = omega arith in e)

    judged : written_wrong r ≡ pole_or_spoiled h c start w r
    judged = by (pole_at p g r) (spoiled_by p (bounds_of h).rows start w r) refl refl
      where
        by : (a b : Bool) → pole_at p g r ≡ a → spoiled_by p (bounds_of h).rows start w r ≡ b → written_wrong r ≡ (a || b)
        by true b ea eb = at_pole ea
        by false true ea eb = when_spoiled ea eb
        by false false ea eb = otherwise ea eb

  -- the wrong rows are the poles and the spoiled rows
  pub wrong_rows_lem : (r : ℕ) → r < (bounds_of h).rows → wrong_at (trial_job h c start w) f g r ≡ pole_or_spoiled h c start w r
  wrong_rows_lem r l = read_wrong r l ∙ judged r
