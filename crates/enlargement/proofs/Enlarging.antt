-- The enlargement rule: the wrong rows of T' are those of T and the further ones.
use mathlib.Core.Path.{◌≡◌, sym, ◌∙◌, ap}
use mathlib.Core.Logic.{◌⊎◌, inl, inr}
use mathlib.Core.Bool.{Bool, true, false, not}
use mathlib.Core.List.{List}
use Prim.Native.Nat.{ℕ, ◌+◌, ◌<◌}
use Rattle.header.specs.Header.{bounds_of}
use Rattle.lists.specs.Search.{any_below}
use Rattle.rows.specs.Rows.{job_point}
use Rattle.job.proofs.Facts.{WellFormedFacts}
use Rattle.problem.specs.Answers.{wrong_at, wrong_count}
use Rattle.enlargement.specs.Enlargement.{row_bytes, StandsAt, HoldsSpeaking, same_bytes, further_row, further_wrong}
use Rattle.enlargement.proofs.RowBytes.{bytes_equal, equal_bytes, wrong_speaks, same_point, same_wrong}
use Rattle.enlargement.proofs.Counting.{passes_or_none, bad_adds}

module _ (s s' : List ℕ) {area area' : ℕ} (W : WellFormedFacts s area) (W' : WellFormedFacts s' area')
    (prime : (bounds_of s').prime ≡ (bounds_of s).prime) (outputs : (bounds_of s').outputs ≡ (bounds_of s).outputs) where
  -- row i of T is row j of T'
  abbrev same : ℕ → ℕ → Bool
  same i j = same_bytes (row_bytes s i) (row_bytes s' j)

  stands : (i j : ℕ) → same i j ≡ true → StandsAt s i s' j
  stands i j e = sym (bytes_equal (row_bytes s i) (row_bytes s' j) e)

  point : (i j : ℕ) → same i j ≡ true → job_point s i ≡ job_point s' j
  point i j e = same_point s s' outputs i j (stands i j e)

  -- a row of T' is one of T's or a further one
  pub old_or_new : (j : ℕ) → ((i : ℕ) × (i < (bounds_of s).rows) × StandsAt s i s' j) ⊎ (further_row s s' j ≡ true)
  old_or_new j = by (passes_or_none (bounds_of s).rows (λ i. same i j))
    where
      by : ((i : ℕ) × (i < (bounds_of s).rows) × (same i j ≡ true)) ⊎ (any_below (bounds_of s).rows (λ i. same i j) ≡ false)
          → ((i : ℕ) × (i < (bounds_of s).rows) × StandsAt s i s' j) ⊎ (further_row s s' j ≡ true)
      by (inl t) = inl (t.0, t.1, stands t.0 j t.2)
      by (inr none) = inr (ap not none)

  pub wrong_adds : HoldsSpeaking s s' → (f : ℕ → List ℕ) (g : List ℕ) → wrong_count s' f g ≡ wrong_count s f g + further_wrong s s' f g
  wrong_adds holds f g = bad_adds same (wrong_at s f g) (wrong_at s' f g) (record {
    holds = λ i l e. (let t = holds i l (wrong_speaks s f g i e) in (t.0, t.1, equal_bytes (row_bytes s i) (row_bytes s' t.0) (sym t.2)));
    first = λ i k j l l' a b. W.distinct i k l l' (point i j a ∙ sym (point k j b));
    second = λ k i j l l' a b. W'.distinct i j l l' (sym (point k i a) ∙ point k j b);
    equal = λ i j l l' e. same_wrong s s' outputs W W' i j l l' (stands i j e) prime f g;
  })
