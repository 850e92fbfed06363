-- An answer's bytes at the start of an area, read back: the word, and the coefficients of g and of each numerator.
use lib.ListN.{get_or}
use mathlib.Core.Path.{◌≡◌, ◌∙◌, ap}
use mathlib.Core.List.{List}
use Prim.Native.Nat.{ℕ, ◌+◌, ◌*◌, ◌≤◌, ◌<◌}
use Rattle.format.specs.Numbers.{number_from, word_from}
use Rattle.format.specs.Bounds.{numerator_bound_of}
use Rattle.header.specs.Header.{bounds_of}
use Rattle.row_mask.proofs.Words.{word_lt}
use Rattle.answer.specs.Bytes.{numerator_start}
use Rattle.lists.specs.Overwriting.{overwritten}
use Rattle.answer.proofs.Reading.{residues_short, read_word, read-denominator, read_numerator}
use Rattle.problem.specs.Answers.{wrong_at, Within, word_for, recovered_bytes}

module _ (s : List ℕ) (f : ℕ → List ℕ) (g : List ℕ) (area after : List ℕ) (e : after ≡ overwritten (recovered_bytes s f g) area) where
  pub word_written : (bounds_of s).rows ≤ 32 → word_from after ≡ word_for s f g
  word_written few = ap word_from e ∙ read_word (bounds_of s) (word_for s f g) g f area (word_lt (bounds_of s).rows (wrong_at s f g) few)

  module _ (within : Within (bounds_of s) f g) where
    pub denominator_written : (k : ℕ) → k ≤ (bounds_of s).dg → number_from after (4 + 2 * k) ≡ get_or g k 0
    denominator_written k l =
        ap (λ t. number_from t (4 + 2 * k)) e ∙ read-denominator (bounds_of s) (word_for s f g) g f area (residues_short (bounds_of s) within.denominator) k l

    pub numerator_written : (i k : ℕ) → i < (bounds_of s).outputs → k ≤ numerator_bound_of (bounds_of s) i → number_from after (numerator_start (bounds_of s) i + 2 * k) ≡ get_or (f i) k 0
    numerator_written i k li l =
        ap (λ t. number_from t (numerator_start (bounds_of s) i + 2 * k)) e
        ∙ read_numerator (bounds_of s) (word_for s f g) g f area (λ j lj. residues_short (bounds_of s) (within.numerators j lj)) i k li l
