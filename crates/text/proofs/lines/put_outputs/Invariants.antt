-- The lines of the first i outputs are put, and `start` is where the answer's bytes have output i.
use Rattle.std.proofs.Common.{◌≡◌, ◌+◌, ◌*◌, ◌≤◌}
use Rattle.answer.specs.Bytes.{numerator_start}
use Rattle.text.specs.Drafts.{extended}
use Rattle.text.specs.Lines.{output_lines}
use Rattle.text.proofs.lines.put_outputs.Given as goal

abbrev pub invariant-loop-i : goal.invariant-loop-i
invariant-loop-i l =
    (l.start ≡ numerator_start l.b l.i) × (l.start ≤ 68 + 64 * l.i) × (l.draft ≡ extended l.initial.draft (output_lines l.b l.area l.i))
