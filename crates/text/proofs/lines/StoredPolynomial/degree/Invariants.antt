-- Searching from k down gives what searching from the bound down gives, since the coefficients above k are 0.
use Rattle.std.proofs.Common.{◌≡◌}
use Rattle.text.specs.Lines.{coefficient_from, degree_within}
use Rattle.text.proofs.lines.StoredPolynomial.degree.Given as goal

abbrev pub invariant-loop-k : goal.invariant-loop-k
invariant-loop-k l = degree_within (coefficient_from l.self.area.now l.self.start) l.k ≡ degree_within (coefficient_from l.self.area.now l.self.start) l.self.bound
