-- What a job's tests say where they do not apply.
use mathlib.Core.Bool.{Bool, true, false, not, ◌&&◌, ◌||◌}
use mathlib.Core.List.{List}
use mathlib.Core.Logic.{◌⊎◌, inl, inr, ⊎_elim}
use mathlib.Core.Path.{◌≡◌, refl, sym, ap, ap₂, ◌∙◌}
use Prim.Native.Nat.{ℕ, ◌+◌, ◌*◌, ◌<◌, ◌≤◌}
use native.Mathlib.Nat.{eq-or-lt_of_le}
use native.Mathlib.Omega.{arith}
use borrow.Author.Tests.{leb-false, eqb-false, eqb-true, ltb-false, not-false, lt-leb, ne_eqb, eq-eqb, le-ltb}
use lib.Dec.{eqb, leb}
use lib.ListN.{length}
use Rattle.std.specs.Prelude.{Option, Some, None, Result, Ok}
use Rattle.format.specs.declared.Refusal.{Refusal}
use Rattle.lists.proofs.Truth.{clash, or-false}
use Rattle.field.specs.Primes.{modulus_of}
use Rattle.format.specs.Bounds.{numerator_bound_of, answer_length_of}
use Rattle.format.specs.declared.Reason.{Reason}
use Rattle.format.specs.declared.Reason.TheVariants.{TooShort, AddedHeader, ByteCount, TooFewRows, OutOfRange, TooFewSpeaking, RepeatedPoint, AreaTooShort}
use Rattle.header.specs.Header.{bounds_of, header_of, job_length_of, rows_needed_of, FitsFields}
use Rattle.header.proofs.Fields.{fits_fields}
use Rattle.header_rules.specs.Rules.{too_short, added_header_broken}
use Rattle.header_rules.proofs.Rules.{bound_within_df}
use Rattle.lists.specs.Search.{first_below, if_holds, is_found}
use Rattle.rows.specs.Rows.{job_point, job_value}
use Rattle.marked_rows.specs.Marks.{mark_at, is_unmarked, speaking_count}
use Rattle.lists.proofs.Order.{lt_or_ge}
use Rattle.lists.proofs.FirstBelow.{at_not_nothing, none_passes, any_passes, none_below}
use Rattle.job.proofs.Deciding.{past_4, past_6, accepted}
use Rattle.job.specs.Refusals.{byte_count_differs, too_few_rows, out_of_range, too_few_speaking, repeated_point, area_too_short, refuse, outcome_of_rows, outcome_of, WellFormed}
use Rattle.format.specs.Outcomes.{refused}

module _ (s : List ℕ) (not-5 : first_below (bounds_of s).rows (out_of_range s) ≡ None) where
  in_range : (r : ℕ) → r < (bounds_of s).rows → out_of_range s r ≡ false
  in_range = none_passes (out_of_range s) (bounds_of s).rows not-5

  pub points_below : (r : ℕ) → r < (bounds_of s).rows → job_point s r < modulus_of (bounds_of s).prime
  points_below r l = leb-false _ _ (or-false _ _ (in_range r l)).0

  pub values_below : (r i : ℕ) → r < (bounds_of s).rows → i < (bounds_of s).outputs → is_unmarked (mark_at s r) ≡ true → job_value s r i < modulus_of (bounds_of s).prime
  values_below r i l m unmarked =
      let p = modulus_of (bounds_of s).prime in
      let range = (or-false (leb p (job_point s r)) _ (in_range r l)).1 in
      leb-false _ _ (any_passes (λ j. leb p (job_value s r j)) (bounds_of s).outputs (rw unmarked at range) i m)

module _ (s : List ℕ) (not-6 : first_below (bounds_of s).rows (repeated_point s) ≡ None) where
  earlier_differs : (q r : ℕ) → q < r → r < (bounds_of s).rows → job_point s q ≡ job_point s r → ⊥
  earlier_differs q r l m =
      eqb-false _ _
      (any_passes (λ k. eqb (job_point s k) (job_point s r)) r (none_passes (repeated_point s) (bounds_of s).rows not-6 r m) q l)

  pub points_distinct : (q r : ℕ) → q < (bounds_of s).rows → r < (bounds_of s).rows → job_point s q ≡ job_point s r → q ≡ r
  points_distinct q r l m e = distinct (lt_or_ge q r)
    where
      distinct : (q < r) ⊎ (r ≤ q) → q ≡ r
      distinct (inl n) = absurd (earlier_differs q r n m e)
      distinct (inr n) = ⊎_elim (λ h. sym h) (λ h. absurd (earlier_differs r q h l (sym e))) (eq-or-lt_of_le n)

-- What the layers above count on in a well-formed job. It is all that well-formedness says (`facts_well_formed`).
pub record WellFormedFacts (s : List ℕ) (area : ℕ) : Type 0 where
  pub fields : FitsFields (bounds_of s)
  pub rules : added_header_broken s ≡ false
  pub byte_count : length s ≡ job_length_of (header_of s)
  pub enough_rows : rows_needed_of (header_of s) ≤ (bounds_of s).rows
  pub points_in_range : (r : ℕ) → r < (bounds_of s).rows → job_point s r < modulus_of (bounds_of s).prime
  pub values_in_range : (r i : ℕ) → r < (bounds_of s).rows → i < (bounds_of s).outputs → is_unmarked (mark_at s r) ≡ true → job_value s r i < modulus_of (bounds_of s).prime
  pub enough_speaking : rows_needed_of (header_of s) ≤ speaking_count s
  pub distinct : (q r : ℕ) → q < (bounds_of s).rows → r < (bounds_of s).rows → job_point s q ≡ job_point s r → q ≡ r
  pub enough_area : answer_length_of (bounds_of s) ≤ area

pub refused_not_accepted : {reason : Reason} {row : ℕ} → ◌≡◌ {A = Result (Unit {0}) Refusal} (refused reason row) (Ok tt) → ⊥
refused_not_accepted e = clash cc

-- a test that leaves the job accepted found nothing, and so did the later ones
pub passed : (reason : Reason) (f : Option ℕ) (later : Result (Unit {0}) Refusal) → refuse reason f later ≡ Ok tt → (f ≡ None) × (later ≡ Ok tt)
passed reason (Some row) later e = absurd (refused_not_accepted e)
passed reason None later e = (refl, e)

pub does_not_hold : (b : Bool) → if_holds b 0 ≡ None → b ≡ false
does_not_hold true e = absurd (at_not_nothing e)
does_not_hold false e = refl

module _ (s : List ℕ) (area : ℕ) where
  pub well_formed_facts : WellFormed s area → WellFormedFacts s area
  unfolding outcome_of outcome_of_rows
  well_formed_facts accepted =
      let t1 = passed TooShort (if_holds (too_short s) 0) _ accepted in
      let t2 = passed AddedHeader (if_holds (added_header_broken s) 0) _ t1.1 in
      let t3 = passed ByteCount (if_holds (byte_count_differs s) 0) _ t2.1 in
      let t4 = passed TooFewRows (if_holds (too_few_rows s) 0) _ t3.1 in
      let t5 = passed OutOfRange (first_below (bounds_of s).rows (out_of_range s)) _ t4.1 in
      let t12 = passed TooFewSpeaking (if_holds (too_few_speaking s) 0) _ t5.1 in
      let t6 = passed RepeatedPoint (first_below (bounds_of s).rows (repeated_point s)) _ t12.1 in
      let t7 = passed AreaTooShort (if_holds (area_too_short s area) 0) _ t6.1 in
      record {
        fields = fits_fields s;
        rules = does_not_hold (added_header_broken s) t2.0;
        byte_count = eqb-true _ _ (not-false _ (does_not_hold (byte_count_differs s) t3.0));
        enough_rows = ltb-false _ _ (does_not_hold (too_few_rows s) t4.0);
        points_in_range = points_below s t5.0;
        values_in_range = values_below s t5.0;
        enough_speaking = ltb-false _ _ (does_not_hold (too_few_speaking s) t12.0);
        distinct = points_distinct s t6.0;
        enough_area = ltb-false _ _ (does_not_hold (area_too_short s area) t7.0);
      }

  -- and nothing else is asked of a job
  pub facts_well_formed : WellFormedFacts s area → WellFormed s area
  facts_well_formed h =
      let in_range : (r : ℕ) → r < (bounds_of s).rows → out_of_range s r ≡ false =
      λ r l. ap₂ ◌||◌ (lt-leb _ _ (h.points_in_range r l))
      (when_true (is_unmarked (mark_at s r)) _ (λ unmarked.
      ap is_found (none_below (λ i. leb (modulus_of (bounds_of s).prime) (job_value s r i)) _ (λ i m. lt-leb _ _ (h.values_in_range r i l m unmarked))))) in
      let new-point : (r : ℕ) → r < (bounds_of s).rows → repeated_point s r ≡ false =
      λ r l. ap is_found (none_below (λ q. eqb (job_point s q) (job_point s r)) r (λ q m. ne_eqb _ _ (later q r m l))) in
      past_4 s area (le-ltb (length s) (header_of s).length (omega (arith, h.byte_count))) h.rules
      (ap not (eq-eqb _ _ h.byte_count)) (le-ltb _ _ h.enough_rows)
      ∙ accepted s area (le-ltb _ _ h.enough_area)
      (past_6 s (Ok tt) (none_below (out_of_range s) _ in_range) (le-ltb _ _ h.enough_speaking) (none_below (repeated_point s) _ new-point))
    where
      when_true : (a b : Bool) → (a ≡ true → b ≡ false) → (a && b) ≡ false
      when_true true b h = h refl
      when_true false b h = refl

      later : (q r : ℕ) → q < r → r < (bounds_of s).rows → job_point s q ≡ job_point s r → ⊥
      later q r m l e = let same = h.distinct q r (omega arith) l e in omega arith

-- enough rows for df, and enough that speak, are enough for the bound of each output
pub each_enough : {s : List ℕ} {area : ℕ} → WellFormedFacts s area → (i : ℕ)
    → numerator_bound_of (bounds_of s) i + (bounds_of s).dg + 2 * (bounds_of s).errors + 1 ≤ (bounds_of s).rows
each_enough {s} h i = omega (arith, bound_within_df s h.rules i, h.enough_rows)

pub each_speaking : {s : List ℕ} {area : ℕ} → WellFormedFacts s area → (i : ℕ)
    → numerator_bound_of (bounds_of s) i + (bounds_of s).dg + 2 * (bounds_of s).errors + 1 ≤ speaking_count s
each_speaking {s} h i = omega (arith, bound_within_df s h.rules i, h.enough_speaking)
