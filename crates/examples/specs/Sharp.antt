-- Paper 02, item 7: no more can be said of all jobs. Jobs modulo 7 of which another reduced vector leaves exactly S − df − dg − W rows wrong, as one
-- table with one claim over it. Outputs, rows and coefficients are counted from 0 here.
use Rattle.std.specs.Prelude.{◌≡◌, List, [], ◌∷◌, ℕ, zero, suc, ◌+◌, Ok}
use Rattle.header.specs.Header.{df_of, bounds_of}
use Rattle.marked_rows.specs.Marks.{speaking_count}
use Rattle.job.specs.Form.{form_outcome_of}
use Rattle.problem.specs.Answers.{wrong_count, Answer}
use Rattle.margin.specs.Margin.{margin_of}
use Rattle.margin.specs.Others.{Other}
use Rattle.examples.specs.Hand.{numbers, three}

-- numerators f and a denominator g, coefficients from the constant term upward
pub record Vector : Type 0 where
  pub f : List (List ℕ)
  pub g : List ℕ

-- the numerator of output i, zero past the list's end
unfoldable pub numerator_of : List (List ℕ) → ℕ → List ℕ
numerator_of [] i = []
numerator_of (f ∷ fs) zero = f
numerator_of (f ∷ fs) (suc i) = numerator_of fs i

-- a job's bytes, its answer, the answer's margin, and another reduced vector
pub record Example : Type 0 where
  pub job : List ℕ
  pub answer : Vector
  pub margin : ℕ
  pub next : Vector

-- how many rows of the example's job are wrong for a vector
abbrev pub wrong_for : Example → Vector → ℕ
wrong_for e v = wrong_count e.job (numerator_of v.f) v.g

unfoldable pub table : List Example
table =
    -- H1: 5, with row 2 wrong. Rows 0 and 1 are wrong for 2.
    record {
      job = three 5 5 2;
      answer = record { f = (5 ∷ []) ∷ []; g = 1 ∷ [] };
      margin = 1;
      next = record { f = (2 ∷ []) ∷ []; g = 1 ∷ [] };
    }
    -- the same with no row wrong; all three are wrong for any other constant
    ∷ record {
      job = three 5 5 5;
      answer = record { f = (5 ∷ []) ∷ []; g = 1 ∷ [] };
      margin = 3;
      next = record { f = (2 ∷ []) ∷ []; g = 1 ∷ [] };
    }
    -- df 1, dg 1, E 1: u / (1 + u), with row 1 wrong. Rows 2 and 4 are wrong for 3 u / (2 + u).
    ∷ record {
      job = 0x02 ∷ 0x84 ∷ 0x22 ∷ numbers (0 ∷ 0 ∷ 1 ∷ 1 ∷ 2 ∷ 3 ∷ 3 ∷ 6 ∷ 4 ∷ 5 ∷ []);
      answer = record { f = (0 ∷ 1 ∷ []) ∷ []; g = 1 ∷ 1 ∷ [] };
      margin = 1;
      next = record { f = (0 ∷ 3 ∷ []) ∷ []; g = 2 ∷ 1 ∷ [] };
    }
    -- the bounds 0 and 1, dg 1, E 1, row 1 reports a pole, row 4 is silent: 2 / (6 + u) and u / (6 + u), with row 0 wrong. Rows 2 and 3 are wrong for
    -- 2 / (6 + u) and (6 + 4 u) / (6 + u).
    ∷ record {
      job =
          0x13 ∷ 0x04 ∷ 0x23 ∷ 0x00 ∷ 0x40 ∷ 0x08 ∷ 0x00
          ∷ numbers (0 ∷ 5 ∷ 1 ∷ 1 ∷ 0xFFFF ∷ 0xFFFF ∷ 2 ∷ 2 ∷ 2 ∷ 3 ∷ 1 ∷ 5 ∷ 4 ∷ 0xFFFE ∷ 0xFFFE ∷ 5 ∷ 4 ∷ 3 ∷ []);
      answer = record { f = (2 ∷ []) ∷ (0 ∷ 1 ∷ []) ∷ []; g = 6 ∷ 1 ∷ [] };
      margin = 1;
      next = record { f = (2 ∷ []) ∷ (6 ∷ 4 ∷ []) ∷ []; g = 6 ∷ 1 ∷ [] };
    }
    ∷ []

-- the bound is attained
pub record Attained (e : Example) : Type 0 where
  pub accepted : form_outcome_of e.job ≡ Ok tt
  pub answered : Answer e.job (numerator_of e.answer.f) e.answer.g
  pub margin : margin_of e.job (wrong_for e e.answer) ≡ e.margin
  pub other : Other e.job (numerator_of e.answer.f) e.answer.g (numerator_of e.next.f) e.next.g
  pub exactly : df_of e.job + (bounds_of e.job).dg + wrong_for e e.answer + wrong_for e e.next ≡ speaking_count e.job

-- the claim: so it is at every entry
abbrev pub EveryAttained : List Example → Type 0
EveryAttained [] = Unit
EveryAttained (e ∷ es) = Attained e × EveryAttained es
