-- An offered answer of the right length passes the tests exactly if its bytes are those of an answer of the job.
use mathlib.Core.Path.{◌≡◌, sym, ap, ap₂, ◌∙◌}
use mathlib.Core.Logic.{◌⊎◌, inl, inr, ◌↔◌}
use mathlib.Core.Bool.{true, false}
use mathlib.Core.List.{List, [], ◌∷◌, ◌++◌, append-nil}
use Prim.Native.Nat.{ℕ, ◌+◌, ◌-◌, ◌*◌, ◌≤◌, ◌<◌}
use native.Mathlib.Omega.{arith}
use lib.ListN.{length, get_or, drop, length-drop}
use lib.Seq.{get_or-drop, drop-cons}
use Rattle.lists.proofs.Order.{lt_or_ge}
use Rattle.format.specs.declared.Bounds.{Bounds}
use Rattle.format.specs.Bounds.{prime_of, numerator_bound_of, answer_length_of}
use Rattle.format.specs.Numbers.{number_from, word_from}
use Rattle.header.specs.Header.{bounds_of}
use Rattle.header.proofs.Fields.{fits_fields, fits_polynomials}
use Rattle.marked_rows.specs.Table.{job_points, job_weights, job_values}
use Rattle.row_mask.specs.Word.{bit_at, word_of, wrong_count_of}
use Rattle.row_mask.proofs.Words.{word_same, bit_exactly}
use Rattle.row_mask.proofs.SetBits.{count_of_word}
use Rattle.answer.specs.Bytes.{four_bytes, answer_bytes, numerator_start}
use Rattle.lists.specs.Overwriting.{overwritten}
use Rattle.answer.specs.Coefficients.{coefficient_length_of, any_too_large}
use Rattle.answer.proofs.Ranges.{coefficient_at, coefficient_above, not_large, denominator_bounded, numerator_bounded, none_large}
use Rattle.answer.proofs.Written.{Bytes, coefficients_written}
use Rattle.wrong_rows.specs.Rows.{wrong_row_at}
use Rattle.wrong_rows.proofs.JobRows.{same_wrong}
use Rattle.problem.specs.Reduced.{Reduced, Same}
use Rattle.problem.specs.Answers.{wrong_at, wrong_count, Within, Answer, word_for, recovered_bytes}
use Rattle.problem.proofs.Same.{wrong_at_same, answer_same}
use Rattle.problem.proofs.Written.{word_written, denominator_written, numerator_written}
use Rattle.offered_answer.specs.Judgements.{OfAnswer}
use Rattle.offered_answer.specs.Tests.{offered_denominator, offered_numerator, Passes}

-- a number behind the word
number_behind_word : (a : List ℕ) (k : ℕ) → number_from (drop 4 a) k ≡ number_from a (4 + k)
number_behind_word a k =
    let next : 4 + (k + 1) ≡ 4 + k + 1 = omega arith in
    ap₂ (λ x y. x * 256 + y) (get_or-drop 4 a k 0) (get_or-drop 4 a (k + 1) 0 ∙ ap (λ j. get_or a j 0) next)

-- four bytes are those of the word that they make
word_bytes : (a : List ℕ) → Bytes a → four_bytes (word_from a) ≡ get_or a 0 0 ∷ get_or a 1 0 ∷ get_or a 2 0 ∷ get_or a 3 0 ∷ []
word_bytes a bytes =
    let a0 = bytes 0 in
    let a1 = bytes 1 in
    let a2 = bytes 2 in
    let a3 = bytes 3 in
    ap₂ ◌++◌ (ap₂ (λ x y. x ∷ y ∷ []) (omega arith) (omega arith)) (ap₂ (λ x y. x ∷ y ∷ []) (omega arith) (omega arith))

first_four : (a : List ℕ) → 4 ≤ length a → a ≡ (get_or a 0 0 ∷ get_or a 1 0 ∷ get_or a 2 0 ∷ get_or a 3 0 ∷ []) ++ drop 4 a
first_four a l =
    drop-cons a 0 0 (omega arith)
    ∙ ap (λ t. get_or a 0 0 ∷ t) (drop-cons a 1 0 (omega arith)
    ∙ ap (λ t. get_or a 1 0 ∷ t) (drop-cons a 2 0 (omega arith) ∙ ap (λ t. get_or a 2 0 ∷ t) (drop-cons a 3 0 (omega arith))))

module _ (s a : List ℕ) (size : length a ≡ answer_length_of (bounds_of s)) where
  abbrev b : Bounds
  b = bounds_of s

  abbrev f : ℕ → List ℕ
  f = offered_numerator (bounds_of s) a

  abbrev g : List ℕ
  g = offered_denominator (bounds_of s) a

  pub size_behind : length (drop 4 a) ≡ coefficient_length_of (bounds_of s)
  size_behind = length-drop 4 a ∙ ap (λ k. k - 4) size

  -- "degrees": an offered answer of the right length whose coefficients are below p keeps the degree bounds
  pub length_keeps_degrees : any_too_large (bounds_of s) (drop 4 a) ≡ false → Within (bounds_of s) f g
  length_keeps_degrees e = record {
    numerators = numerator_bounded b (fits_polynomials s) (drop 4 a) size_behind (not_large b (drop 4 a) e);
    denominator = denominator_bounded b (fits_polynomials s) (drop 4 a) size_behind (not_large b (drop 4 a) e);
  }

  -- the word of the rows that are wrong for f and g, and their number
  word_of_rows : (f : ℕ → List ℕ) (g : List ℕ) → word_of b.rows (wrong_row_at b (job_points s) (job_weights s) (job_values s) f g) ≡ word_for s f g
  word_of_rows f g = word_same b.rows _ _ (same_wrong s f g)

  count_of_rows : (f : ℕ → List ℕ) (g : List ℕ) → wrong_count_of (word_for s f g) ≡ wrong_count s f g
  count_of_rows f g = count_of_word b.rows (wrong_at s f g) (let n = (fits_fields s).rows_most in omega arith)

  -- the offered bytes are those of their own word and polynomials
  own_bytes : Bytes a → a ≡ answer_bytes b (word_from a) g f
  own_bytes bytes =
      first_four a (omega arith)
      ∙ ap₂ ◌++◌ (sym (word_bytes a bytes)) (sym (coefficients_written (drop 4 a) (λ k. rw (get_or-drop 4 a k 0) (bytes (4 + k))) b (fits_polynomials s) size_behind))

  pub passes-right : Bytes a → Passes b (job_points s) (job_weights s) (job_values s) a → OfAnswer s a
  passes-right bytes P =
      let word : word_from a ≡ word_for s f g = P.rows.named ∙ word_of_rows f g in (
        f,
        g,
        record {
          within = length_keeps_degrees P.below;
          reduced = P.reduced;
          few_wrong = (let count = ap wrong_count_of word ∙ count_of_rows f g in omega (arith, P.rows.few));
        },
        own_bytes bytes ∙ ap (λ w. answer_bytes b w g f) word,
      )

  -- the other way round: what an answer's bytes list is that answer
  module _ {f' : ℕ → List ℕ} {g' : List ℕ} (A : Answer s f' g') (e : a ≡ recovered_bytes s f' g') where
    alone : a ≡ overwritten (recovered_bytes s f' g') []
    alone = e ∙ sym (append-nil (recovered_bytes s f' g'))

    same-denominator : (k : ℕ) → (k < b.dg + 1) ⊎ (b.dg + 1 ≤ k) → get_or g' k 0 ≡ get_or g k 0
    same-denominator k (inl l) =
        let place : 4 + (0 + 2 * k) ≡ 4 + 2 * k = omega arith in
        sym (coefficient_at (drop 4 a) 0 (b.dg + 1) (let d = (fits_fields s).dg_most in omega arith) k l ∙ number_behind_word a (0 + 2 * k)
        ∙ ap (number_from a) place ∙ denominator_written s f' g' [] a alone A.within k (omega arith))
    same-denominator k (inr l) =
        A.within.denominator.within k l ∙ sym (coefficient_above (drop 4 a) 0 (b.dg + 1) (let d = (fits_fields s).dg_most in omega arith) k l)

    fits : (i : ℕ) → i < b.outputs → numerator_bound_of b i + 1 ≤ 32
    fits i l = let n = (fits_polynomials s).numerators-low i l in omega arith

    same_numerator : (i : ℕ) → i < b.outputs → (k : ℕ) → (k < numerator_bound_of b i + 1) ⊎ (numerator_bound_of b i + 1 ≤ k) → get_or (f' i) k 0 ≡ get_or (f i) k 0
    same_numerator i li k (inl l) =
        let from = numerator_start b i - 4 in
        let place : 4 + (from + 2 * k) ≡ numerator_start b i + 2 * k = omega arith in
        sym (coefficient_at (drop 4 a) from (numerator_bound_of b i + 1) (fits i li) k l ∙ number_behind_word a (from + 2 * k)
        ∙ ap (number_from a) place ∙ numerator_written s f' g' [] a alone A.within i k li (omega arith))
    same_numerator i li k (inr l) =
        (A.within.numerators i li).within k l
        ∙ sym (coefficient_above (drop 4 a) (numerator_start b i - 4) (numerator_bound_of b i + 1) (fits i li) k l)

    pub listed_same : Same b.outputs f' g' f g
    listed_same = record {
      denominator = λ k. same-denominator k (lt_or_ge k (b.dg + 1));
      numerators = λ i li k. same_numerator i li k (lt_or_ge k (numerator_bound_of b i + 1));
    }

    answer_passes : Passes b (job_points s) (job_weights s) (job_values s) a
    answer_passes =
        let own = answer_same s listed_same A in
        let word : word_from a ≡ word_for s f g = word_written s f' g' [] a alone (let n = (fits_fields s).rows_most in omega arith) ∙ word_same b.rows _ _ (λ r l. wrong_at_same s listed_same r) in
        record {
          below = none_large b (fits_polynomials s) (drop 4 a) size_behind own.within.denominator.residues (λ i l. (own.within.numerators i l).residues);
          reduced = own.reduced;
          rows = record {
            named = word ∙ sym (word_of_rows f g);
            few = (let count = ap wrong_count_of word ∙ count_of_rows f g in omega (arith, own.few_wrong));
          };
        }

  pub right-passes : OfAnswer s a → Passes b (job_points s) (job_weights s) (job_values s) a
  right-passes right = answer_passes right.2 right.3

  -- What a yes says of the offered bytes, so that each lack is a no: a coefficient of p or more, a vector that is not reduced, a row that is
  -- named and not wrong, or wrong and not named, a bit for a row that does not exist, a wrong row too many.
  pub yes_says : OfAnswer s a
      → (any_too_large b (drop 4 a) ≡ false) × Reduced (prime_of b) b.outputs f g
      × ((r : ℕ) → r < 32 → (bit_at (word_from a) r ≡ 1) ↔ ((r < b.rows) × (wrong_at s f g r ≡ true))) × (wrong_count s f g ≤ b.errors)
  yes_says right =
      let P = right-passes right in
      let word : word_from a ≡ word_for s f g = P.rows.named ∙ word_of_rows f g in
      let count = ap wrong_count_of word ∙ count_of_rows f g in
      (P.below, P.reduced, (λ r l. rw word (bit_exactly b.rows (wrong_at s f g) r (let n = (fits_fields s).rows_most in omega arith) l)), omega (arith, P.rows.few))
