-- From what the recovery settles on each job of the table.
use native.Mathlib.Omega.{arith}
use mathlib.Core.Path.{◌≡◌, refl, sym, ◌∙◌}
use mathlib.Core.List.{List, [], ◌∷◌}
use Prim.Native.Nat.{ℕ}
use lib.ListN.{length, take, drop, replicate, length-replicate}
use lib.Seq.{take_at}
use Rattle.lists.specs.Overwriting.{overwritten}
use Rattle.offered_answer.specs.declared.JudgementReport.{JudgementReport}
use Rattle.offered_answer.specs.Judgements.{Judged}
use Rattle.judged_recovery.proofs.Claim.{judged_recovery}
use Rattle.examples.specs.Hand.{Example, table, ExampleHolds, EveryHolds}
use Rattle.examples.proofs.Hand.{hand_examples}
use Rattle.examples.specs.Judged.{OfferJudged, EveryJudged}

-- as many bytes are written as the entry has
abbrev EveryWrites : List Example → Type 0
EveryWrites [] = Unit
EveryWrites (e ∷ es) = (length e.bytes ≡ e.report.written) × EveryWrites es

table_writes : EveryWrites table
unfolding table
table_writes = (refl, (refl, (refl, (refl, (refl, (refl, (refl, (refl, (refl, (refl, (refl, (refl, (refl, tt)))))))))))))

entry_judged : (e : Example) → ExampleHolds e → length e.bytes ≡ e.report.written → (a : List ℕ) (j : JudgementReport) → Judged e.job a j → OfferJudged e a j
entry_judged e holds writes a j J =
    let area : List ℕ = replicate e.room 0 in
    let claim = judged_recovery e.job a J area (holds area (length-replicate e.room 0)) in
    let bytes : take e.report.written (overwritten e.bytes area) ≡ e.bytes = take_at e.bytes (drop (length e.bytes) area) e.report.written writes in
    record {
      answered = λ z. ((λ y. (claim.answered z).0 y ∙ bytes), λ same. (claim.answered z).1 (same ∙ sym bytes));
      unsolvable = claim.unsolvable;
      refused = λ positive low. claim.refused positive (λ seven. omega arith) (λ eight. omega arith);
    }

all_judged : (es : List Example) → EveryHolds es → EveryWrites es → EveryJudged es
all_judged [] h w = tt
all_judged (e ∷ es) h w = (entry_judged e h.0 w.0, all_judged es h.1 w.1)

pub every_example_judged : EveryJudged table
every_example_judged = all_judged table hand_examples table_writes
