use native.Mathlib.Omega.{arith}
use Rattle.candidate.specs.Extensions.{raised_below, raised_at}
use Rattle.candidate.proofs.ExtensionLaws.{raised_none, raised_steps, step_made, none_after}
use Rattle.candidate.proofs.extension.raised.Goals as goal

pub loop-j-init : goal.loop-j-init
loop-j-init c = (raised_none _ _ _, c.requires.1)

pub loop-j-preserved : goal.loop-j-preserved
loop-j-preserved c =
    let g = c.args in (
      step_made (λ j. raised_below g.b g.h.now.c j g.v.now) (raised_at g.b g.h.now.c) (raised_steps g.b g.h.now.c g.v.now) c.loop-j.j c.loop-j.invariant.0
          c.in_ok-r.ensures.value,
      c.in_ok-r.ensures.fitting,
    )

pub returns-in_err-r-clause-value : goal.returns-in_err-r-clause-value
returns-in_err-r-clause-value c =
    let g = c.args in
    none_after (λ j. raised_below g.b g.h.now.c j g.v.now) (raised_at g.b g.h.now.c) (raised_steps g.b g.h.now.c g.v.now) c.loop-j.j g.i (omega arith)
    c.loop-j.invariant.0 c.in_err-r.ensures.value c.from_residual.ensures
