-- The forms below l are stored, and the rest are still 0; the loop ends behind a whole group of eight.
use lib.ListN.{get_or}
use Rattle.field.specs.Primes.{modulus_of}
use Rattle.montgomery.specs.Factors.{montgomery_form}
use Rattle.lists.proofs.Filling.{Filled}
use Rattle.evaluation.proofs.forms.Given as goal

abbrev pub invariant-loop-l : goal.invariant-loop-l
invariant-loop-l l =
    Filled 32 (λ k. montgomery_form (modulus_of l.q) (get_or l.points k 0)) (λ k. 0) l.l l.r.v
