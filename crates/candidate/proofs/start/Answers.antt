use mathlib.Core.Path.{ap₂}
use mathlib.Core.List.{List}
use Prim.Native.Nat.{ℕ}
use lib.ListN.{set, replicate}
use Rattle.candidate.specs.Candidates.{start_candidate}
use Rattle.candidate.proofs.start.Goals as goal

-- one store into the list of zeros
pub returns : goal.returns
unfolding start_candidate
returns c = ap₂ (λ (x y : List ℕ). record { g = record { c = set x 0 1 }; f = replicate 4 (record { c = y }) }) c.zero-g.ensures c.zero.ensures
