-- The invariant is `Changing` with `linear_lane`; and `lower` is the entry below as it was before the loop, since the turn before has overwritten it.
use lib.ListN.{get_or}
use mathlib.Core.Path.{◌≡◌}
use mathlib.Core.List.{◌∷◌}
use Prim.Native.Nat.{◌<◌}
use Rattle.lanes.specs.Lanes.{modulus_at, linear_lane}
use Rattle.lanes.proofs.Changes.{Changing}
use Rattle.lane_linear.proofs.times_linear.Given as goal

abbrev pub invariant-loop-k : goal.invariant-loop-k
invariant-loop-k l =
    Changing l.m.p 0 l.end (linear_lane l.m.p (record { form = get_or l.xs 0 0; low = get_or l.xl 0 0 }) l.initial.a) l.initial.a l.k l.a × (l.lower ≡ get_or (0 ∷ l.initial.a) l.k 0) × (l.lower < modulus_at l.m.p)
