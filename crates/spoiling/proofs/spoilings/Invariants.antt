-- `Spoiled`: after j spoilings the array holds what they add, and `last` is the last word drawn. A chosen row is below `rows`.
use Rattle.std.proofs.Common.{◌-◌, ◌≤◌}
use Rattle.field.specs.Primes.{modulus_of}
use Rattle.spoiling.proofs.Storing.{Spoiled}
use Rattle.spoiling.proofs.spoilings.Given as goal

abbrev pub invariant-loop : goal.invariant-loop
invariant-loop l = (l.counter ≤ l.count) × Spoiled (modulus_of l.q) l.rows l.start l.counter l.by l.last

abbrev pub decreases-loop : goal.decreases-loop
decreases-loop l = l.count - l.counter
