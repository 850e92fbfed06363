-- The margin of an answer, and the claim about the two calls, from what each of them settles.
use mathlib.Core.Path.{◌≡◌, sym, ap, subst, ◌∙◌}
use mathlib.Core.Logic.{inl, inr}
use mathlib.Core.List.{List}
use Prim.Native.Nat.{ℕ, ◌+◌, ◌*◌, ◌≤◌, ◌<◌}
use native.Mathlib.Omega.{arith}
use lib.ListN.{length}
use Rattle.format.specs.Bounds.{prime_of}
use Rattle.format.specs.declared.Report.{Report}
use Rattle.header.specs.Header.{df_of, bounds_of}
use Rattle.marked_rows.specs.Marks.{speaking_count}
use Rattle.job.specs.Refusals.{WellFormed}
use Rattle.job.proofs.Facts.{well_formed_facts}
use Rattle.job.proofs.Forms.{form-outcome, form_with_room, form_accepted}
use Rattle.problem.specs.Reduced.{Reduced}
use Rattle.problem.specs.Answers.{wrong_count, Within, Answer}
use Rattle.problem.proofs.Same.{wrong_count-same}
use Rattle.soundness.proofs.OnlyOne.{SameOrFew, same_or_few}
use Rattle.recovery.specs.Recovery.{Settled}
use Rattle.recovery.proofs.Settling.{answered_if_zero}
use Rattle.margin.specs.Margin.{margin_of}
use Rattle.margin.proofs.Laws.{margin_accepted, margin-sum, margin_positive}
use Rattle.margin.specs.Others.{Other, Margin}
use Rattle.margin.specs.RecoveredMargin.{RecoveredMargin}

-- of any job, also the count of wrong rows of a vector that is no answer gives its margin, where that is not 0
pub vector_margin : (s : List ℕ) {f : ℕ → List ℕ} {g : List ℕ} → Within (bounds_of s) f g
    → Reduced (prime_of (bounds_of s)) (bounds_of s).outputs f g → 0 < margin_of s (wrong_count s f g) → Margin s f g (margin_of s (wrong_count s f g))
vector_margin s {f} {g} within reduced positive = record {
  sum = sum;
  positive = omega arith;
  others = others;
  more = λ f' g' o. omega (arith, sum, others f' g' o);
}
  where
    sum : df_of s + (bounds_of s).dg + 2 * wrong_count s f g + margin_of s (wrong_count s f g) ≡ speaking_count s
    sum = margin-sum s (wrong_count s f g) positive

    others : (f' : ℕ → List ℕ) (g' : List ℕ) → Other s f g f' g' → speaking_count s ≤ df_of s + (bounds_of s).dg + wrong_count s f g + wrong_count s f' g'
    others f' g' o = by (same_or_few s (well_formed_facts s 254 (sym (form_with_room s) ∙ margin_accepted s _ positive)) within reduced o.within o.reduced)
      where
        by : SameOrFew s f g f' g' → speaking_count s ≤ df_of s + (bounds_of s).dg + wrong_count s f g + wrong_count s f' g'
        by (inl same) = absurd (o.differs same)
        by (inr few) = few

-- of an answer of a well-formed job it is not 0, as there are rows enough that speak
pub answer_margin : (s : List ℕ) (area : ℕ) → WellFormed s area → {f : ℕ → List ℕ} {g : List ℕ} → Answer s f g → Margin s f g (margin_of s (wrong_count s f g))
answer_margin s area wf {f} {g} a =
    vector_margin s a.within a.reduced
    (margin_positive s (wrong_count s f g) (form-outcome s ∙ form_accepted s area wf) (omega (arith, (well_formed_facts s area wf).enough_speaking, a.few_wrong)))

module _
    (s area : List ℕ) {r : Report} {after : List ℕ} (S : Settled s area r after) {m : ℕ}
    (M : r.refusal ≡ 0 → m ≡ margin_of s r.wrong) where
  recovered : r.refusal ≡ 0 → (f : ℕ → List ℕ) (g : List ℕ) → Answer s f g → Margin s f g m
  recovered zero f g a =
      let A = answered_if_zero s area S zero in
      let count = ap (λ (x : Report). x.wrong) A.report ∙ wrong_count-same s (A.only f g a) in
      subst (Margin s f g) (sym (M zero ∙ ap (margin_of s) count)) (answer_margin s (length area) A.well_formed a)

  pub recovered-margin : (0 < r.refusal → m ≡ 0) → RecoveredMargin s area r after m
  recovered-margin none = record { first = S; second = M; recovered = recovered; refused = none }
