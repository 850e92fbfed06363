-- Paper 02, item 1: "If the poles and spoiled rows together, a spoiled pole counted once, number at most E, recovery of the job into a long
-- enough area gives back f/g and exactly those rows." As one claim about two calls, with any header h, coefficients c, start and number w.
use Rattle.std.specs.Prelude.{◌≡◌, Bool, ◌||◌, List, ◌++◌, ℕ, ◌≤◌, length, take}
use Rattle.format.specs.Bounds.{prime_of, answer_length_of}
use Rattle.format.specs.declared.Report.{Report}
use Rattle.format.specs.declared.WritingReport.{WritingReport}
use Rattle.format.specs.Outcomes.{refused_report, recovered_report}
use Rattle.header.specs.Header.{bounds_of}
use Rattle.row_mask.specs.Word.{word_of}
use Rattle.lists.specs.Counting.{count_below}
use Rattle.answer.specs.Bytes.{four_bytes}
use Rattle.lists.specs.Overwriting.{overwritten}
use Rattle.recovery.specs.Recovery.{Settled}
use Rattle.answer.specs.Coefficients.{denominator_of}
use Rattle.spoiling.specs.Spoiling.{spoiled_by}
use Rattle.trial.specs.Rows.{pole_at}
use Rattle.trial.specs.Trial.{Trial}

-- row r is a pole or spoiled
abbrev pub pole_or_spoiled : (h c : List ℕ) (start w r : ℕ) → Bool
pole_or_spoiled h c start w r =
    pole_at (prime_of (bounds_of h)) (denominator_of (bounds_of h) c) r || spoiled_by (prime_of (bounds_of h)) (bounds_of h).rows start w r

-- how many rows are, "a spoiled pole counted once"
abbrev pub poles_and_spoiled : (h c : List ℕ) (start w : ℕ) → ℕ
poles_and_spoiled h c start w = count_below (bounds_of h).rows (pole_or_spoiled h c start w)

-- A recovery "gives back f/g and exactly those rows": it is answered, its count is the number of those rows, its word has a 1 exactly at them,
-- and behind the word stand the coefficients of this g and these fi, byte for byte as they came.
pub record GivenBack (h c : List ℕ) (start w : ℕ) (area : List ℕ) (r : Report) (after : List ℕ) : Type 0 where
  pub report : r ≡ recovered_report (answer_length_of (bounds_of h)) (poles_and_spoiled h c start w)
  pub written : after ≡ overwritten (four_bytes (word_of (bounds_of h).rows (pole_or_spoiled h c start w)) ++ c) area

-- The first call wrote a trial job to its area, with the report r; the second recovered the bytes that the first wrote, with the report r'.
-- Where the first was refused, that is the empty job.
pub record TrialRecovered (h c : List ℕ) (start w : ℕ) (jobArea : List ℕ) (r : WritingReport) (jobAfter area : List ℕ) (r' : Report) (after : List ℕ) : Type 0 where
  pub first : Trial h c start w jobArea r jobAfter
  pub second : Settled (take r.written jobAfter) area r' after
  pub refused : (r.refusal ≡ 0 → ⊥) → (jobAfter ≡ jobArea) × (r' ≡ refused_report 1 0) × (after ≡ area)
  pub recovered : r.refusal ≡ 0 → answer_length_of (bounds_of h) ≤ length area → poles_and_spoiled h c start w ≤ (bounds_of h).errors
      → GivenBack h c start w area r' after
