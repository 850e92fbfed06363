-- The first j numerators are raised.
use mathlib.Core.Path.{◌≡◌}
use Rattle.std.specs.Prelude.{Some}
use Rattle.candidate.specs.Extensions.{raised_below, Fitting}
use Rattle.candidate.proofs.extension.raised.Given as goal

abbrev pub invariant-loop-j : goal.invariant-loop-j
invariant-loop-j l = (Some l.r ≡ raised_below l.b l.h.c l.j l.v) × Fitting l.b l.r
