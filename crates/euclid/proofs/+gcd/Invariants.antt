-- The second length falls with each call, since a remainder is shorter than the divisor.
use Rattle.euclid.proofs.+gcd.Given as goal

abbrev pub decreases-gcd : goal.decreases-gcd
decreases-gcd l = l.lb
