-- Paper 02, item 7, and demand 2: a job's recovery and the margin for its count of wrong rows, as one claim about two calls, with any job s and area. The
-- first call reports r and leaves `after` in the area. The second is made for a recovered job alone, and m is what it returns; else m is 0.
use Rattle.std.specs.Prelude.{◌≡◌, List, ℕ, ◌<◌}
use Rattle.format.specs.declared.Report.{Report}
use Rattle.problem.specs.Answers.{Answer}
use Rattle.recovery.specs.Recovery.{Settled}
use Rattle.margin.specs.Margin.{margin_of}
use Rattle.margin.specs.Others.{Margin}

pub record RecoveredMargin (s area : List ℕ) (r : Report) (after : List ℕ) (m : ℕ) : Type 0 where
  pub first : Settled s area r after
  pub second : r.refusal ≡ 0 → m ≡ margin_of s r.wrong
  -- which is the margin of the job's answer
  pub recovered : r.refusal ≡ 0 → (f : ℕ → List ℕ) (g : List ℕ) → Answer s f g → Margin s f g m
  -- where no answer is given there is no margin, whatever the refusal
  pub refused : 0 < r.refusal → m ≡ 0
