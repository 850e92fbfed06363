-- Rows with the same bytes: the same point and values, the same mark, and wrong for the same fractions.
use mathlib.Core.Path.{◌≡◌, refl, sym, ◌∙◌, ap, ap₂, subst}
use mathlib.Core.Bool.{Bool, true, false, and-eq-true_iff}
use mathlib.Core.List.{List, [], ◌∷◌}
use Prim.Native.Nat.{ℕ, ◌+◌, ◌*◌, ◌≤◌, ◌<◌}
use native.Mathlib.Omega.{arith}
use lib.Dec.{eqb}
use lib.ListN.{get_or, take, drop}
use lib.Seq.{get_or-take, get_or-drop}
use borrow.Author.Tests.{eqb-true, eq-eqb}
use Rattle.lists.proofs.Truth.{clash}
use Rattle.format.specs.Numbers.{number_from}
use Rattle.format.specs.Bounds.{prime_of}
use Rattle.field.specs.Primes.{modulus_of}
use Rattle.field.proofs.Moduli.{modulus_small}
use Rattle.header.specs.Header.{header_length_of, flags_of, marks_allowed, bounds_of}
use Rattle.rows.specs.Rows.{number_at, job_point, job_value}
use Rattle.marked_rows.specs.declared.Mark.{Mark}
use Rattle.marked_rows.specs.declared.Mark.TheVariants.{Pole, Silent}
use Rattle.std.specs.Prelude.{Option, Some, None}
use Rattle.marked_rows.specs.Marks.{mark_of, mark_at, is_unmarked, speaking, speaks}
use Rattle.marked_rows.proofs.Marks.{unmarked_if_not_allowed, unmarked_if_small, mark_cong}
use Rattle.job.proofs.Facts.{WellFormedFacts}
use Rattle.problem.specs.Rows.{verdict_of, is_wrong}
use Rattle.problem.specs.Answers.{wrong_at}
use Rattle.problem.proofs.Rows.{verdict_same}
use Rattle.enlargement.specs.Enlargement.{row_bytes, StandsAt, same_bytes}

-- the test on bytes is equality
pub bytes_equal : (l m : List ℕ) → same_bytes l m ≡ true → l ≡ m
unfolding same_bytes
bytes_equal [] [] e = refl
bytes_equal [] (b ∷ m) e = clash (sym e)
bytes_equal (a ∷ l) [] e = clash (sym e)
bytes_equal (a ∷ l) (b ∷ m) e =
    let t = (and-eq-true_iff (eqb a b) (same_bytes l m)).0 e in
    ap₂ ◌∷◌ (eqb-true a b t.0) (bytes_equal l m t.1)

itself : (l : List ℕ) → same_bytes l l ≡ true
unfolding same_bytes
itself [] = refl
itself (a ∷ l) = rw (eq-eqb a a refl) (itself l)

pub equal_bytes : (l m : List ℕ) → l ≡ m → same_bytes l m ≡ true
equal_bytes l m e = subst (λ t. same_bytes l t ≡ true) e (itself l)

-- a number of a row, read from the row's own bytes
in_row : (s : List ℕ) (i c : ℕ) → c ≤ (bounds_of s).outputs → number_at s i c ≡ number_from (row_bytes s i) (2 * c)
unfolding number_at row_bytes
in_row s i c l =
    let high : start + 2 * (i * (1 + n)) + 2 * c ≡ start + 2 * (i * (1 + n) + c) = omega arith in
    let low : start + 2 * (i * (1 + n)) + (2 * c + 1) ≡ start + 2 * (i * (1 + n) + c) + 1 = omega arith in
    sym (ap₂ (λ x y. x * 256 + y) (byte (2 * c) (omega arith) ∙ ap (λ k. get_or s k 0) high) (byte (2 * c + 1) (omega arith) ∙ ap (λ k. get_or s k 0) low))
  where
    n : ℕ
    n = (bounds_of s).outputs

    start : ℕ
    start = header_length_of s

    byte : (k : ℕ) → k < 2 * (1 + n) → get_or (take (2 * (1 + n)) (drop (start + 2 * (i * (1 + n))) s)) k 0 ≡ get_or s (start + 2 * (i * (1 + n)) + k) 0
    byte k h = get_or-take _ _ k 0 h ∙ get_or-drop _ s k 0

-- the first value of a row without marks is no mark
first_small : (s : List ℕ) {area : ℕ} → WellFormedFacts s area → marks_allowed (flags_of s) ≡ false → (i : ℕ) → i < (bounds_of s).rows → job_value s i 0 < 65534
first_small s W none i l =
    let unmarked = ap is_unmarked (unmarked_if_not_allowed (marks_allowed (flags_of s)) (bounds_of s).outputs (job_value s i) none) in
    let below = W.values_in_range i 0 l W.fields.outputs_least unmarked in
    omega (arith, modulus_small (bounds_of s).prime)

-- a wrong row speaks
pub wrong_speaks : (s : List ℕ) (f : ℕ → List ℕ) (g : List ℕ) (i : ℕ) → wrong_at s f g i ≡ true → speaks s i ≡ true
wrong_speaks s f g i = by (mark_at s i)
  where
    by : (m : Option Mark) → is_wrong (verdict_of m (prime_of (bounds_of s)) (bounds_of s).outputs (job_point s i) (job_value s i) f g) ≡ true → speaking m ≡ true
    by None e = refl
    by (Some Pole) e = refl
    by (Some Silent) e = clash (sym e)

module _ (s s' : List ℕ) (outputs : (bounds_of s').outputs ≡ (bounds_of s).outputs) where
  same_number : (i j c : ℕ) → c ≤ (bounds_of s).outputs → StandsAt s i s' j → number_at s i c ≡ number_at s' j c
  same_number i j c l e = in_row s i c l ∙ ap (λ t. number_from t (2 * c)) (sym e) ∙ sym (in_row s' j c (omega arith))

  pub same_point : (i j : ℕ) → StandsAt s i s' j → job_point s i ≡ job_point s' j
  same_point i j e = same_number i j 0 (omega arith) e

  module _ {area area' : ℕ} (W : WellFormedFacts s area) (W' : WellFormedFacts s' area') (i j : ℕ) (l : i < (bounds_of s).rows) (l' : j < (bounds_of s').rows)
      (e : StandsAt s i s' j) where
    same-value : (k : ℕ) → k < (bounds_of s).outputs → job_value s i k ≡ job_value s' j k
    same-value k h = same_number i j (1 + k) (omega arith) e

    first : job_value s i 0 ≡ job_value s' j 0
    first = same-value 0 W.fields.outputs_least

    -- no mark, where one of the jobs has none
    small_unmarked : job_value s i 0 < 65534 → mark_at s i ≡ mark_at s' j
    small_unmarked small =
        unmarked_if_small (marks_allowed (flags_of s)) (bounds_of s).outputs (job_value s i) 0 W.fields.outputs_least small
        ∙ sym (unmarked_if_small (marks_allowed (flags_of s')) (bounds_of s').outputs (job_value s' j) 0 W'.fields.outputs_least (omega (arith, first)))

    -- the flags may differ, and yet a row has the same mark in both jobs
    same_mark : mark_at s i ≡ mark_at s' j
    same_mark = by (marks_allowed (flags_of s)) (marks_allowed (flags_of s')) refl refl
      where
        by : (a a' : Bool) → marks_allowed (flags_of s) ≡ a → marks_allowed (flags_of s') ≡ a' → mark_at s i ≡ mark_at s' j
        by true true a a' =
            ap (λ t. mark_of t (bounds_of s).outputs (job_value s i)) (a ∙ sym a')
            ∙ mark_cong (marks_allowed (flags_of s')) (bounds_of s).outputs (job_value s i) (job_value s' j) same-value
            ∙ ap (λ n. mark_of (marks_allowed (flags_of s')) n (job_value s' j)) (sym outputs)
        by false a' a e' = small_unmarked (first_small s W a i l)
        by true false a a' = small_unmarked (omega (arith, first, first_small s' W' a' j l'))

    -- with the same prime, a row is wrong in both jobs or in none
    pub same_wrong : (bounds_of s').prime ≡ (bounds_of s).prime → (f : ℕ → List ℕ) (g : List ℕ) → wrong_at s f g i ≡ wrong_at s' f g j
    same_wrong prime f g =
        ap₂ (λ m x. is_wrong (verdict_of m (prime_of (bounds_of s)) (bounds_of s).outputs x (job_value s i) f g)) same_mark (same_point i j e)
        ∙ verdict_same (mark_at s' j) (prime_of (bounds_of s)) (job_point s' j) (bounds_of s).outputs f f g g same-value (λ k l m. refl) (λ m. refl)
        ∙ ap₂ (λ q n. is_wrong (verdict_of (mark_at s' j) (modulus_of q) n (job_point s' j) (job_value s' j) f g)) (sym prime) (sym outputs)
