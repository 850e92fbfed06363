-- Two jobs that say the same have the same answers, and their calls report and leave the same.
use Prim.Native.Nat.{ℕ, ◌≤◌}
use mathlib.Core.Bool.{Bool}
use mathlib.Core.List.{List}
use mathlib.Core.Logic.{◌⊎◌, inl, inr}
use mathlib.Core.Path.{◌≡◌, refl, sym, ap, ap₂, fun_ext, subst, ◌∙◌}
use lib.ListN.{length}
use Rattle.format.specs.declared.Bounds.{Bounds}
use Rattle.std.specs.Prelude.{Result, Ok, Err}
use Rattle.format.specs.declared.Refusal.{Refusal}
use Rattle.format.specs.declared.Report.{Report}
use Rattle.format.specs.Bounds.{prime_of, answer_length_of}
use Rattle.format.specs.Outcomes.{check_report_of, recovered_report}
use Rattle.header.specs.Header.{bounds_of}
use Rattle.rows.specs.Rows.{number_at}
use Rattle.job.specs.Form.{form_outcome_of}
use Rattle.job.specs.Refusals.{outcome_of}
use Rattle.job.proofs.Forms.{form_with_room}
use Rattle.margin.specs.Margin.{margin_by, margin_of}
use Rattle.margin.proofs.Laws.{margin_by_lem}
use Rattle.row_mask.specs.Word.{word_of}
use Rattle.lists.specs.Counting.{count_below}
use Rattle.answer.specs.Bytes.{answer_bytes}
use Rattle.lists.specs.Overwriting.{overwritten}
use Rattle.problem.specs.Reduced.{Reduced, Same}
use Rattle.problem.specs.Answers.{Within, Answer, wrong_at, wrong_count, recovered_bytes}
use Rattle.recovery.specs.Recovery.{RefusedEarly, Answered, RefusedUnsolvable, Settled}
use Rattle.recovery.proofs.Settling.{settled}
use Rattle.recovery.proofs.Laws.{settled_unique}
use Rattle.either_header.specs.EitherHeader.{SameJob, EitherHeader}
use Rattle.either_header.specs.Unflagged.{plain_wrong, Unflagged}
use Rattle.either_header.proofs.Headers.{short_plain, longer_plain, speaking-same, df_same, bounds_same, numbers-same, outcome-same}

module _ (s s' : List ℕ) (U : Unflagged s) (U' : Unflagged s') (bounds : bounds_of s' ≡ bounds_of s) (numbers : number_at s' ≡ number_at s) where
  -- the same rows are wrong
  wrong_same : (f : ℕ → List ℕ) (g : List ℕ) → wrong_at s' f g ≡ wrong_at s f g
  wrong_same f g =
      fun_ext (λ r. U'.wrong f g r ∙ ap₂ (λ (b : Bounds) (n : ℕ → ℕ → ℕ). plain_wrong b n f g r) bounds numbers ∙ sym (U.wrong f g r))

  count_same : (f : ℕ → List ℕ) (g : List ℕ) → wrong_count s' f g ≡ wrong_count s f g
  count_same f g = ap₂ (λ (b : Bounds) (wrong : ℕ → Bool). count_below b.rows wrong) bounds (wrong_same f g)

  bytes_same : (f : ℕ → List ℕ) (g : List ℕ) → recovered_bytes s' f g ≡ recovered_bytes s f g
  bytes_same f g = ap₂ (λ (b : Bounds) (wrong : ℕ → Bool). answer_bytes b (word_of b.rows wrong) g f) bounds (wrong_same f g)

  answer_same : (f : ℕ → List ℕ) (g : List ℕ) → Answer s' f g → Answer s f g
  answer_same f g A = record {
    within = subst (λ (b : Bounds). Within b f g) bounds A.within;
    reduced = subst (λ (b : Bounds). Reduced (prime_of b) b.outputs f g) bounds A.reduced;
    few_wrong = subst (λ (k : ℕ). k ≤ (bounds_of s).errors) (count_same f g) (subst (λ (b : Bounds). wrong_count s' f g ≤ b.errors) bounds A.few_wrong);
  }

module _ (s s' : List ℕ) (J : SameJob s s') where
  U : Unflagged s
  U = short_plain s s' J

  U' : Unflagged s'
  U' = longer_plain s s' J

  bounds : bounds_of s' ≡ bounds_of s
  bounds = bounds_same s s' J

  numbers : number_at s' ≡ number_at s
  numbers = numbers-same s s' J

  outcome : (room : ℕ) → outcome_of s' room ≡ outcome_of s room
  outcome = outcome-same s s' J

  -- what a call settles for one it settles for the other
  pub settled_same : (area : List ℕ) {r : Report} {after : List ℕ} → Settled s' area r after → Settled s area r after
  settled_same area {r} {after} S = settled s area (by S.cases)
    where
      forth : (f : ℕ → List ℕ) (g : List ℕ) → Answer s f g → Answer s' f g
      forth = answer_same s' s U' U (sym bounds) (sym numbers)

      by : RefusedEarly s' area r after ⊎ (Answered s' area r after ⊎ RefusedUnsolvable s' area r after)
          → RefusedEarly s area r after ⊎ (Answered s area r after ⊎ RefusedUnsolvable s area r after)
      by (inl e) = inl (record {
        malformed = λ wf. e.malformed (outcome (length area) ∙ wf);
        report = e.report ∙ ap check_report_of (outcome (length area));
        untouched = e.untouched;
      })
      by (inr (inl A)) = inr (inl (record {
        well_formed = sym (outcome (length area)) ∙ A.well_formed;
        f = A.f;
        g = A.g;
        answer = answer_same s s' U U' bounds numbers A.f A.g A.answer;
        only = λ f' g' B. subst (λ (b : Bounds). Same b.outputs A.f A.g f' g') bounds (A.only f' g' (forth f' g' B));
        report = A.report ∙ ap₂ (λ (b : Bounds) (k : ℕ). recovered_report (answer_length_of b) k) bounds (count_same s s' U U' bounds numbers A.f A.g);
        written = A.written ∙ ap (λ (t : List ℕ). overwritten t area) (bytes_same s s' U U' bounds numbers A.f A.g);
      }))
      by (inr (inr u)) = inr (inr (record {
        well_formed = sym (outcome (length area)) ∙ u.well_formed;
        none = λ f g B. u.none f g (forth f g B);
        report = u.report;
        untouched = u.untouched;
      }))

  -- paper 02, item 7: the margin is the same too
  pub margin-same : (wrong : ℕ) → margin_of s' wrong ≡ margin_of s wrong
  margin-same wrong = margin_by_lem s' wrong same ∙ by (form_outcome_of s) ∙ sym (margin_by_lem s wrong refl)
    where
      same : form_outcome_of s' ≡ form_outcome_of s
      same = form_with_room s' ∙ outcome 254 ∙ sym (form_with_room s)

      by : (o : Result (Unit {0}) Refusal) → margin_by o s' wrong ≡ margin_by o s wrong
      by (Ok _) = rw (speaking-same s s' J, df_same s s' J, bounds) refl
      by (Err _) = refl

-- the claim
pub either_header : (s area s' area' : List ℕ) {r r' : Report} {after after' : List ℕ} → Settled s area r after → Settled s' area' r' after'
    → EitherHeader s area r after s' area' r' after'
either_header s area s' area' {r} {r'} {after} {after'} S S' = record {
  first = S;
  second = S';
  alike = λ J same. settled_unique s area
      (settled_same s s' J area (subst (λ (a : List ℕ). Settled s' a r' after') same S')) S;
}
