-- A job is answered with f/g and k wrong rows exactly when it is well formed and f/g is its answer, with k wrong rows.
use mathlib.Core.Path.{◌≡◌, sym, ◌∙◌, ap}
use mathlib.Core.Logic.{◌⊎◌, inl, inr}
use mathlib.Core.List.{List}
use Prim.Native.Nat.{ℕ, ◌≤◌, ◌<◌}
use native.Mathlib.Decide.{dec_le}
use native.Mathlib.Omega.{arith}
use lib.ListN.{get_or, length}
use Rattle.format.specs.Numbers.{word_from}
use Rattle.format.specs.declared.Report.{Report}
use Rattle.format.specs.Bounds.{numerator_bound_of}
use Rattle.header.specs.Header.{bounds_of}
use Rattle.job.proofs.Facts.{well_formed_facts}
use Rattle.lists.specs.Overwriting.{overwritten}
use Rattle.row_mask.proofs.Words.{word_same}
use Rattle.problem.specs.Reduced.{Same}
use Rattle.problem.specs.Answers.{Within, word_for, recovered_bytes}
use Rattle.problem.proofs.Written.{word_written, denominator_written, numerator_written}
use Rattle.problem.proofs.Same.{wrong_at_same, wrong_count-same, answer_same}
use Rattle.recovery.proofs.Settling.{answered_if_zero}
use Rattle.recovery.specs.Recovery.{RefusedEarly, Answered, RefusedUnsolvable, Settled}
use Rattle.enlargement.specs.Enlargement.{Lists, AnsweredWith, Named, AnsweredExactly}

-- the area lists the answer that was written
lists_written : (s : List ℕ) {f : ℕ → List ℕ} {g : List ℕ} → Within (bounds_of s) f g → (area after : List ℕ) → after ≡ overwritten (recovered_bytes s f g) area → Lists s after f g
lists_written s {f} {g} within area after e = record {
  denominator = denominator_written s f g area after e within;
  numerators = numerator_written s f g area after e within;
  meets = record {
    denominator = λ k l. within.denominator.within k (omega arith);
    numerators = λ i k li l. (within.numerators i li).within k (omega arith);
  };
}

-- what one area lists is one fraction
same_lists : (s after : List ℕ) {f f' : ℕ → List ℕ} {g g' : List ℕ} → Lists s after f g → Lists s after f' g' → Same (bounds_of s).outputs f g f' g'
same_lists s after {f} {f'} {g} {g'} h h' = record {
  denominator = λ k. by (dec_le k (bounds_of s).dg);
  numerators = λ i li k. by_output i li (dec_le k (numerator_bound_of (bounds_of s) i));
}
  where
    by : {k : ℕ} → Dec (k ≤ (bounds_of s).dg) → get_or g k 0 ≡ get_or g' k 0
    by {k} (yes l) = sym (h.denominator k l) ∙ h'.denominator k l
    by {k} (no l) = h.meets.denominator k (omega arith) ∙ sym (h'.meets.denominator k (omega arith))

    by_output : {k : ℕ} (i : ℕ) → i < (bounds_of s).outputs → Dec (k ≤ numerator_bound_of (bounds_of s) i) → get_or (f i) k 0 ≡ get_or (f' i) k 0
    by_output {k} i li (yes l) = sym (h.numerators i k li l) ∙ h'.numerators i k li l
    by_output {k} i li (no l) = h.meets.numerators i k li (omega arith) ∙ sym (h'.meets.numerators i k li (omega arith))

-- and the same fraction is listed
lists_same : {s after : List ℕ} {f f' : ℕ → List ℕ} {g g' : List ℕ} → Same (bounds_of s).outputs f g f' g' → Lists s after f g → Lists s after f' g'
lists_same same l = record {
  denominator = λ k m. l.denominator k m ∙ same.denominator k;
  numerators = λ i k li m. l.numerators i k li m ∙ same.numerators i li k;
  meets = record {
    denominator = λ k m. sym (same.denominator k) ∙ l.meets.denominator k m;
    numerators = λ i k li m. sym (same.numerators i li k) ∙ l.meets.numerators i k li m;
  };
}

module _ (s area : List ℕ) (r : Report) (after : List ℕ) where
  -- a call that answered the job, and the fraction that it was answered with
  pub answered_call : Settled s area r after → {f : ℕ → List ℕ} {g : List ℕ} {k : ℕ} → AnsweredWith s r after f g k
      → (A : Answered s area r after) × Same (bounds_of s).outputs A.f A.g f g
  answered_call S w =
      let A = answered_if_zero s area S w.not_refused in
      (A, same_lists s after (lists_written s A.answer.within area after A.written) w.lists)

  -- the word that it wrote is that of f/g
  pub answered_word : Settled s area r after → {f : ℕ → List ℕ} {g : List ℕ} {k : ℕ} → AnsweredWith s r after f g k → word_from after ≡ word_for s f g
  answered_word S w =
      let c = answered_call S w in
      let W = well_formed_facts s (length area) c.0.well_formed in
      word_written s c.0.f c.0.g area after c.0.written (let n = W.fields.rows_most in omega arith)
      ∙ word_same (bounds_of s).rows _ _ (λ j l. wrong_at_same s c.1 j)

  pub answered_named : Settled s area r after → {f : ℕ → List ℕ} {g : List ℕ} {k : ℕ} → AnsweredWith s r after f g k → Named s area f g k
  answered_named S w =
      let c = answered_call S w in
      record {
        well_formed = c.0.well_formed;
        answer = answer_same s c.1 c.0.answer;
        count = sym (wrong_count-same s c.1) ∙ sym (ap (λ t. t.wrong) c.0.report) ∙ w.count;
      }

  pub named_answered : Settled s area r after → {f : ℕ → List ℕ} {g : List ℕ} {k : ℕ} → Named s area f g k → AnsweredWith s r after f g k
  named_answered S {f} {g} {k} n = by S.cases
    where
      by : RefusedEarly s area r after ⊎ (Answered s area r after ⊎ RefusedUnsolvable s area r after) → AnsweredWith s r after f g k
      by (inl early) = absurd (early.malformed n.well_formed)
      by (inr (inr none)) = absurd (none.none _ _ n.answer)
      by (inr (inl A)) =
          let same = A.only f g n.answer in
          record {
            not_refused = ap (λ t. t.refusal) A.report;
            lists = lists_same same (lists_written s A.answer.within area after A.written);
            count = ap (λ t. t.wrong) A.report ∙ wrong_count-same s same ∙ n.count;
          }

  pub answered_exactly : Settled s area r after → AnsweredExactly s area r after
  answered_exactly S f g k = (answered_named S, named_answered S)
