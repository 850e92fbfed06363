-- The jobs checked by hand, H1 to H12, with an answer that somebody offers: what is said of it, by paper 02, item 3.
use Rattle.std.specs.Prelude.{◌≡◌, ◌↔◌, List, [], ◌∷◌, ℕ, ◌<◌, length}
use Rattle.format.specs.Bounds.{answer_length_of}
use Rattle.header.specs.Header.{bounds_of}
use Rattle.offered_answer.specs.declared.JudgementReport.{JudgementReport}
use Rattle.offered_answer.specs.Judgements.{no_report, unjudged_report, Judged}
use Rattle.examples.specs.Hand.{Example}

-- yes to the paper's bytes and to no others; no to everything where there is no answer (H7, H9); 5 where the job is refused (H11)
pub record OfferJudged (e : Example) (a : List ℕ) (j : JudgementReport) : Type 0 where
  pub answered : e.report.refusal ≡ 0 → (j.yes ≡ 1) ↔ (a ≡ e.bytes)
  pub unsolvable : e.report.refusal ≡ 8 → length a ≡ answer_length_of (bounds_of e.job) → j ≡ no_report
  pub refused : 0 < e.report.refusal → e.report.refusal < 7 → j ≡ unjudged_report e.report.refusal e.report.row

-- the claim: so it is at every entry of a table, whatever is offered
abbrev pub EveryJudged : List Example → Type 0
EveryJudged [] = Unit
EveryJudged (e ∷ es) = ((a : List ℕ) (j : JudgementReport) → Judged e.job a j → OfferJudged e a j) × EveryJudged es
