-- After k turns the first k bytes stand in the area, and what lies behind them is as it was.
use mathlib.Core.Path.{◌≡◌}
use lib.ListN.{length}
use lib.Seq.{paste}
use Rattle.answer.proofs.put_bytes.Given as goal

abbrev pub invariant-loop-k : goal.invariant-loop-k
invariant-loop-k l = (length l.area ≡ length l.initial.area) × (l.area ≡ paste l.initial.area 0 l.bytes l.k)
