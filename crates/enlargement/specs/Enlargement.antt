-- Paper 01, "What a contract here has to settle", point 5, with paper 02, item 6: demand 3, the enlargement rule, about any two jobs T and T'. Here s
-- and s' are their bytes, r and after what the call for T reported and left in its area, r' and after' the same for T'.
use Rattle.std.specs.Prelude.{◌≡◌, Bool, true, false, not, ◌&&◌, ◌⊎◌, ◌↔◌, List, [], ◌∷◌, ℕ, ◌+◌, ◌*◌, ◌≤◌, ◌<◌, eqb, get_or, length, take, drop}
use Rattle.format.specs.Numbers.{number_from, word_from}
use Rattle.format.specs.declared.Report.{Report}
use Rattle.format.specs.Bounds.{numerator_bound_of}
use Rattle.lists.specs.Search.{any_below}
use Rattle.header.specs.Header.{header_length_of, bounds_of}
use Rattle.job.specs.Refusals.{WellFormed}
use Rattle.row_mask.specs.Word.{bit_at}
use Rattle.lists.specs.Counting.{count_below}
use Rattle.marked_rows.specs.Marks.{speaks}
use Rattle.answer.specs.Bytes.{numerator_start}
use Rattle.problem.specs.Answers.{Answer, wrong_at, wrong_count}
use Rattle.recovery.specs.Recovery.{Settled}

-- no coefficient of f and g stands above the job's degree bounds
pub record Meets (s : List ℕ) (f : ℕ → List ℕ) (g : List ℕ) : Type 0 where
  pub denominator : (k : ℕ) → (bounds_of s).dg < k → get_or g k 0 ≡ 0
  pub numerators : (i k : ℕ) → i < (bounds_of s).outputs → numerator_bound_of (bounds_of s) i < k → get_or (f i) k 0 ≡ 0

-- "its sheet lists the coefficients of this g and these fi", "with zeros up to its own bounds"
pub record Lists (s after : List ℕ) (f : ℕ → List ℕ) (g : List ℕ) : Type 0 where
  pub denominator : (k : ℕ) → k ≤ (bounds_of s).dg → number_from after (4 + 2 * k) ≡ get_or g k 0
  pub numerators : (i k : ℕ) → i < (bounds_of s).outputs → k ≤ numerator_bound_of (bounds_of s) i
      → number_from after (numerator_start (bounds_of s) i + 2 * k) ≡ get_or (f i) k 0
  pub meets : Meets s f g

-- "A job is answered with f/g and k wrong rows when its call isn't refused, its sheet lists the coefficients of this g and these fi, and
-- it returns k as the count of wrong rows"
pub record AnsweredWith (s : List ℕ) (r : Report) (after : List ℕ) (f : ℕ → List ℕ) (g : List ℕ) (k : ℕ) : Type 0 where
  pub not_refused : r.refusal ≡ 0
  pub lists : Lists s after f g
  pub count : r.wrong ≡ k

-- "the job is well formed and f/g is the reduced vector that demand 2 names for it, with k wrong rows"
pub record Named (s area : List ℕ) (f : ℕ → List ℕ) (g : List ℕ) (k : ℕ) : Type 0 where
  pub well_formed : WellFormed s (length area)
  pub answer : Answer s f g
  pub count : wrong_count s f g ≡ k

-- "this is so exactly when .., and that belongs to the claim"
abbrev pub AnsweredExactly : List ℕ → List ℕ → Report → List ℕ → Type 0
AnsweredExactly s area r after = (f : ℕ → List ℕ) (g : List ℕ) (k : ℕ) → AnsweredWith s r after f g k ↔ Named s area f g k

-- the bytes of row i
unfoldable pub row_bytes : List ℕ → ℕ → List ℕ
row_bytes s i = take (2 * (1 + (bounds_of s).outputs)) (drop (header_length_of s + 2 * (i * (1 + (bounds_of s).outputs))) s)

-- row i of T stands in T' at place j: "one of its rows has the same bytes"
abbrev pub StandsAt : List ℕ → ℕ → List ℕ → ℕ → Type 0
StandsAt s i s' j = row_bytes s' j ≡ row_bytes s i

-- T' holds every row of T, in any order
abbrev pub HoldsRows : List ℕ → List ℕ → Type 0
HoldsRows s s' = (i : ℕ) → i < (bounds_of s).rows → (j : ℕ) × (j < (bounds_of s').rows) × StandsAt s i s' j

-- "The enlargement rule counts only speaking rows": T' holds every row of T that speaks. A silent row of T may be missing there, or a row with its point
-- may stand in its place.
abbrev pub HoldsSpeaking : List ℕ → List ℕ → Type 0
HoldsSpeaking s s' = (i : ℕ) → i < (bounds_of s).rows → speaks s i ≡ true → (j : ℕ) × (j < (bounds_of s').rows) × StandsAt s i s' j

-- equal lists of bytes
unfoldable pub same_bytes : List ℕ → List ℕ → Bool
same_bytes [] [] = true
same_bytes [] (b ∷ m) = false
same_bytes (a ∷ l) [] = false
same_bytes (a ∷ l) (b ∷ m) = eqb a b && same_bytes l m

-- "The further rows are all other rows of T'": row j of T' has the bytes of no row of T
abbrev pub further_row : List ℕ → List ℕ → ℕ → Bool
further_row s s' j = not (any_below (bounds_of s).rows (λ i. same_bytes (row_bytes s i) (row_bytes s' j)))

-- w: how many further rows are wrong for f/g
abbrev pub further_wrong : List ℕ → List ℕ → (ℕ → List ℕ) → List ℕ → ℕ
further_wrong s s' f g = count_below (bounds_of s').rows (λ j. further_row s s' j && wrong_at s' f g j)

-- "a 1 at the place in T' of each row that T's word marks and of each further row that is wrong for f/g"
abbrev pub SetAt : List ℕ → List ℕ → List ℕ → (ℕ → List ℕ) → List ℕ → ℕ → Type 0
SetAt s after s' f g j =
    ((i : ℕ) × (i < (bounds_of s).rows) × StandsAt s i s' j × (bit_at (word_from after) i ≡ 1))
    ⊎ ((further_row s s' j ≡ true) × (wrong_at s' f g j ≡ true))

-- T' is answered with f/g exactly if k + w is at most its E; where it is, the count is k + w, and the word has a 1 at those places and
-- "0 everywhere else"
pub record Enlarged (s after s' : List ℕ) (r' : Report) (after' : List ℕ) (f : ℕ → List ℕ) (g : List ℕ) (k : ℕ) : Type 0 where
  pub exactly : ((c : ℕ) × AnsweredWith s' r' after' f g c) ↔ (k + further_wrong s s' f g ≤ (bounds_of s').errors)
  pub count : (c : ℕ) → AnsweredWith s' r' after' f g c → c ≡ k + further_wrong s s' f g
  pub ones : (c : ℕ) → AnsweredWith s' r' after' f g c → (j : ℕ) → j < (bounds_of s').rows → SetAt s after s' f g j
      → bit_at (word_from after') j ≡ 1
  pub zeros : (c : ℕ) → AnsweredWith s' r' after' f g c → (j : ℕ) → j < 32
      → ((j < (bounds_of s').rows) × SetAt s after s' f g j → ⊥) → bit_at (word_from after') j ≡ 0

-- the conditions on the two jobs: the same prime and n, T' well formed, T' holds rows of T, f and g within the bounds of T'. The flags may differ.
pub record Comparable (Holds : List ℕ → List ℕ → Type 0) (s s' area' : List ℕ) (f : ℕ → List ℕ) (g : List ℕ) : Type 0 where
  pub prime : (bounds_of s').prime ≡ (bounds_of s).prime
  pub outputs : (bounds_of s').outputs ≡ (bounds_of s).outputs
  pub well_formed : WellFormed s' (length area')
  pub holds : Holds s s'
  pub meets : Meets s' f g

-- the enlargement rule, where T' holds rows of T in the given sense
abbrev pub EnlargementRule : (List ℕ → List ℕ → Type 0) → List ℕ → Report → List ℕ → List ℕ → List ℕ → Report → List ℕ → Type 0
EnlargementRule Holds s r after s' area' r' after' =
    (f : ℕ → List ℕ) (g : List ℕ) (k : ℕ) → AnsweredWith s r after f g k → Comparable Holds s s' area' f g → Enlarged s after s' r' after' f g k

-- demand 3 as one claim about two calls: what each settles, when each has answered its job, and the rule
pub record TwoCalls (s area : List ℕ) (r : Report) (after s' area' : List ℕ) (r' : Report) (after' : List ℕ) : Type 0 where
  pub first : Settled s area r after
  pub second : Settled s' area' r' after'
  pub first_answered : AnsweredExactly s area r after
  pub second_answered : AnsweredExactly s' area' r' after'
  -- T' holds the rows of T that speak; and so also where it holds every row of T
  pub enlargement : EnlargementRule HoldsSpeaking s r after s' area' r' after'
  pub enlargement_whole : EnlargementRule HoldsRows s r after s' area' r' after'
