-- The invariant is `Changing` with `combined_lane`. A turn stores the difference of two products, which are below p since they are reduced.
use lib.ListN.{get_or}
use Rattle.lanes.specs.Lanes.{combined_lane}
use Rattle.lanes.proofs.Changes.{Changing}
use Rattle.lane_combination.proofs.combine.Given as goal

abbrev pub invariant-loop-k : goal.invariant-loop-k
invariant-loop-k l =
    Changing l.m.p l.start l.end (combined_lane l.m.p (record { form = get_or l.ds 0 0; low = get_or l.dl 0 0 }) l.initial.a (record { form = get_or l.cs 0 0; low = get_or l.cl 0 0 }) l.b) l.initial.a l.k l.a
