use mathlib.Core.Path.{ap, ◌∙◌}
use native.Mathlib.Omega.{arith}
use Rattle.std.specs.Prelude.{Some}
use Rattle.candidate.specs.Candidates.{next_of, candidate_after}
use Rattle.candidate.proofs.CandidateLaws.{fitting_start, after_none, after_steps}
use Rattle.candidate.proofs.ExtensionLaws.{step_made, none_after}
use Rattle.candidate.proofs.after_outputs.Goals as goal

pub loop-i-init : goal.loop-i-init
loop-i-init c = (ap Some c.start-v.ensures ∙ after_none _ _ _ _ _, rw c.start-v.ensures (fitting_start c.args.b))

pub loop-i-preserved : goal.loop-i-preserved
loop-i-preserved c =
    let b = c.args.b in
    let t = c.args.table.now in (
      step_made (candidate_after b t.speaking t.points t.weights t.values) (next_of b t.speaking t.points t.weights t.values)
          (after_steps b t.speaking t.points t.weights t.values) c.loop-i.i c.loop-i.invariant.0 c.in_ok-v.ensures.value,
      c.in_ok-v.ensures.fitting,
    )

pub returns-in_err-v-clause-value : goal.returns-in_err-v-clause-value
returns-in_err-v-clause-value c =
    let b = c.args.b in
    let t = c.args.table.now in
    none_after (candidate_after b t.speaking t.points t.weights t.values) (next_of b t.speaking t.points t.weights t.values)
    (after_steps b t.speaking t.points t.weights t.values) c.loop-i.i b.outputs (omega arith) c.loop-i.invariant.0 c.in_err-v.ensures.value c.from_residual.ensures
