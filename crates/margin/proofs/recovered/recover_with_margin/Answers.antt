-- The report tells the two ways apart: a refusal above 0 returns 0, any other asks for the margin.
use Prim.Native.Nat.{ℕ}
use mathlib.Core.Path.{◌≡◌, refl, ap, ◌∙◌}
use mathlib.Core.List.{List}
use native.Mathlib.Omega.{arith}
use Rattle.format.specs.declared.Report.{Report}
use Rattle.format.specs.Outcomes.{report_of}
use Rattle.margin.specs.Margin.{margin_of}
use Rattle.margin.proofs.Claim.{recovered-margin}
use Rattle.margin.proofs.recovered.recover_with_margin.Goals as goal

pub returns-then-report-gt0 : goal.returns-then-report-gt0
returns-then-report-gt0 c =
    let job : List ℕ = c.args.job.now in
    let refusal : c.from-report.result.refusal ≡ (report_of c.recover-recovery.result).refusal = ap (λ (r : Report). r.refusal) c.from-report.ensures in
    recovered-margin job _ c.recover-recovery.ensures (λ zero. absurd (omega (arith, refusal))) (λ positive. refl)

pub returns : goal.returns
returns c =
    let job : List ℕ = c.args.job.now in
    let refusal : c.from-report.result.refusal ≡ (report_of c.recover-recovery.result).refusal = ap (λ (r : Report). r.refusal) c.from-report.ensures in
    recovered-margin job _ c.recover-recovery.ensures
    (λ zero. c.margin-margin.ensures ∙ ap (λ (r : Report). margin_of job r.wrong) c.from-report.ensures)
    (λ positive. absurd (omega (arith, refusal)))
