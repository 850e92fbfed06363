-- Paper 02, item 7: how far off every other reduced vector is from an answer f, g of the job s. S rows speak, W are wrong for the answer.
use Rattle.std.specs.Prelude.{◌≡◌, List, ℕ, ◌+◌, ◌*◌, ◌≤◌}
use Rattle.format.specs.Bounds.{prime_of}
use Rattle.header.specs.Header.{df_of, bounds_of}
use Rattle.marked_rows.specs.Marks.{speaking_count}
use Rattle.problem.specs.Reduced.{Reduced, Same}
use Rattle.problem.specs.Answers.{Within, wrong_count}

-- "Every other reduced vector within the same bounds"
pub record Other (s : List ℕ) (f : ℕ → List ℕ) (g : List ℕ) (f' : ℕ → List ℕ) (g' : List ℕ) : Type 0 where
  pub within : Within (bounds_of s) f' g'
  pub reduced : Reduced (prime_of (bounds_of s)) (bounds_of s).outputs f' g'
  pub differs : Same (bounds_of s).outputs f g f' g' → ⊥

-- m is the margin of f, g. Differences are written as sums.
pub record Margin (s : List ℕ) (f : ℕ → List ℕ) (g : List ℕ) (m : ℕ) : Type 0 where
  -- "S − df − dg − 2W"
  pub sum : df_of s + (bounds_of s).dg + 2 * wrong_count s f g + m ≡ speaking_count s
  -- "which is never below 1"
  pub positive : 1 ≤ m
  -- every other "leaves at least S − df − dg − W rows wrong"
  pub others : (f' : ℕ → List ℕ) (g' : List ℕ) → Other s f g f' g' → speaking_count s ≤ df_of s + (bounds_of s).dg + wrong_count s f g + wrong_count s f' g'
  -- so at least m more than f, g
  pub more : (f' : ℕ → List ℕ) (g' : List ℕ) → Other s f g f' g' → wrong_count s f g + m ≤ wrong_count s f' g'
