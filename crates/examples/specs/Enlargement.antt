-- Demand 3 speaks of something: two jobs that meet all its conditions, T with the short header and T' with the longer one, and with bounds that differ.
use Rattle.std.specs.Prelude.{◌≡◌, true, List, [], ◌∷◌, ℕ, ◌+◌, ◌≤◌, length}
use Rattle.header.specs.Header.{bounds_of}
use Rattle.lists.specs.Overwriting.{overwritten}
use Rattle.problem.specs.Answers.{wrong_at}
use Rattle.enlargement.specs.Enlargement.{AnsweredWith, StandsAt, further_row, further_wrong, HoldsRows, Comparable}
use Rattle.enlargement.specs.Pair.{smaller_job, larger_job, pair_numerators, pair_denominator}
use Rattle.recovery.specs.Recovery.{Settled}
use Rattle.examples.specs.Hand.{Example, answered}

-- T's answer is 5 / 1 and 3 / 1, and row 2 is wrong
abbrev pub smaller : Example
smaller = answered smaller_job 10 1 (0x2000 ∷ 0x0000 ∷ 0x0001 ∷ 0x0005 ∷ 0x0003 ∷ [])

-- so is that of T', where rows 0 and 1 are wrong: 1 coefficient of f1 and 2 of f2
abbrev pub larger : Example
larger = answered larger_job 12 2 (0xC000 ∷ 0x0000 ∷ 0x0001 ∷ 0x0005 ∷ 0x0003 ∷ 0x0000 ∷ [])

abbrev pub f : ℕ → List ℕ
f = pair_numerators

abbrev pub g : List ℕ
g = pair_denominator

-- the areas before the two calls
pub record RuleApplies (area area' : List ℕ) : Type 0 where
  pub first : Settled smaller.job area smaller.report (overwritten smaller.bytes area)
  pub second : Settled larger.job area' larger.report (overwritten larger.bytes area')
  pub answered : AnsweredWith smaller.job smaller.report (overwritten smaller.bytes area) f g 1
  pub comparable : Comparable HoldsRows smaller.job larger.job area' f g
  pub moved : StandsAt smaller.job 0 larger.job 2
  pub moved_wrong : StandsAt smaller.job 2 larger.job 0 × (wrong_at smaller.job f g 2 ≡ true)
  pub new_wrong : (further_row smaller.job larger.job 1 ≡ true) × (wrong_at larger.job f g 1 ≡ true)
  pub further : further_wrong smaller.job larger.job f g ≡ 1
  pub few : 1 + further_wrong smaller.job larger.job f g ≤ (bounds_of larger.job).errors

-- the claim, for any areas of 10 and 12 bytes
abbrev pub RuleSpeaks : Type 0
RuleSpeaks = (area area' : List ℕ) → length area ≡ 10 → length area' ≡ 12 → RuleApplies area area'
