-- The invariant is `Changing` with `horner_lane`. c is added by taking away p - c, which is p itself where c is 0; `difference` takes that too.
use Rattle.lanes.specs.Lanes.{horner_lane}
use Rattle.lanes.proofs.Changes.{Changing}
use Rattle.lane_horner.proofs.horner.Given as goal

abbrev pub invariant-loop-k : goal.invariant-loop-k
invariant-loop-k l = Changing l.m.p 0 l.end (horner_lane l.m.p l.m.inverse l.xs l.initial.a l.c) l.initial.a l.k l.a
