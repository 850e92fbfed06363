-- The invariant is `Changing` with `difference_lane`. The factor of a turn is a difference, so it is below p, and its low half is computed from it.
use Rattle.lanes.specs.Lanes.{difference_lane}
use Rattle.lanes.proofs.Changes.{Changing}
use Rattle.lane_differences.proofs.times_differences.Given as goal

abbrev pub invariant-loop-k : goal.invariant-loop-k
invariant-loop-k l = Changing l.m.p l.start l.end (difference_lane l.m.p l.m.inverse l.xs l.x l.initial.a) l.initial.a l.k l.a
