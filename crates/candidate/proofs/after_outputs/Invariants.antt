-- After i outputs the candidate is `candidate_after`, and within the bounds.
use mathlib.Core.Path.{◌≡◌}
use Rattle.std.specs.Prelude.{Some}
use Rattle.candidate.specs.Extensions.{Fitting}
use Rattle.candidate.specs.Candidates.{candidate_after}
use Rattle.candidate.proofs.after_outputs.Given as goal

abbrev pub invariant-loop-i : goal.invariant-loop-i
invariant-loop-i l =
    (Some l.v ≡ candidate_after l.b l.table.speaking l.table.points l.table.weights l.table.values l.i) × Fitting l.b l.v
