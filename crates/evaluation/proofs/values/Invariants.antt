-- Horner's rule from the top: v has the values of the coefficients from k on, as a polynomial of their own, at whatever points have the forms xs.
use lib.ListN.{drop}
use Rattle.lanes.specs.Lanes.{modulus_at, Residues}
use Rattle.evaluation.specs.Values.{Evaluated}
use Rattle.evaluation.proofs.values.Given as goal

abbrev pub invariant-loop-k : goal.invariant-loop-k
invariant-loop-k l =
    Residues l.m.p l.v × Evaluated (modulus_at l.m.p) l.xs l.rows (drop l.k l.a.c) l.v
