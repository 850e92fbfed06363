-- Paper 01, "The object" and "The recovered sheet": what an answer of a job is, and its word and bytes. s holds the job's bytes.
use Rattle.std.specs.Prelude.{Bool, List, ℕ, ◌+◌, ◌≤◌, ◌<◌}
use Rattle.format.specs.declared.Bounds.{Bounds}
use Rattle.format.specs.Bounds.{prime_of, numerator_bound_of}
use Rattle.poly.specs.Coefficients.{Bounded}
use Rattle.header.specs.Header.{bounds_of}
use Rattle.rows.specs.Rows.{job_point, job_value}
use Rattle.row_mask.specs.Word.{word_of}
use Rattle.lists.specs.Counting.{count_below}
use Rattle.answer.specs.Bytes.{answer_bytes}
use Rattle.marked_rows.specs.Marks.{mark_at}
use Rattle.problem.specs.Rows.{Verdict, verdict_of, is_wrong}
use Rattle.problem.specs.Reduced.{Reduced}

-- coefficients from 0 to p - 1, and degrees within each output's bound and dg; "The zero polynomial meets every degree bound"
pub record Within (b : Bounds) (f : ℕ → List ℕ) (g : List ℕ) : Type 0 where
  pub numerators : (i : ℕ) → i < b.outputs → Bounded (prime_of b) (numerator_bound_of b i + 1) (f i)
  pub denominator : Bounded (prime_of b) (b.dg + 1) g

-- what row r of the job is for f and g
abbrev pub verdict_at : List ℕ → (ℕ → List ℕ) → List ℕ → ℕ → Verdict
verdict_at s f g r = verdict_of (mark_at s r) (prime_of (bounds_of s)) (bounds_of s).outputs (job_point s r) (job_value s r) f g

-- row r is wrong; so it speaks
abbrev pub wrong_at : List ℕ → (ℕ → List ℕ) → List ℕ → ℕ → Bool
wrong_at s f g r = is_wrong (verdict_at s f g r)

-- how many rows are
abbrev pub wrong_count : List ℕ → (ℕ → List ℕ) → List ℕ → ℕ
wrong_count s f g = count_below (bounds_of s).rows (wrong_at s f g)

-- an answer of the job: within its bounds, reduced, and at most E rows are wrong
pub record Answer (s : List ℕ) (f : ℕ → List ℕ) (g : List ℕ) : Type 0 where
  pub within : Within (bounds_of s) f g
  pub reduced : Reduced (prime_of (bounds_of s)) (bounds_of s).outputs f g
  pub few_wrong : wrong_count s f g ≤ (bounds_of s).errors

-- "no reduced answer within df and dg has at most E wrong rows"
abbrev pub Unsolvable : List ℕ → Type 0
Unsolvable s = (f : ℕ → List ℕ) (g : List ℕ) → Answer s f g → ⊥

-- the word of the wrong rows
abbrev pub word_for : List ℕ → (ℕ → List ℕ) → List ℕ → ℕ
word_for s f g = word_of (bounds_of s).rows (wrong_at s f g)

-- the recovered bytes: the word, then g and the numerators
abbrev pub recovered_bytes : List ℕ → (ℕ → List ℕ) → List ℕ → List ℕ
recovered_bytes s f g = answer_bytes (bounds_of s) (word_for s f g) g f
