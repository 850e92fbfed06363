-- The enlargement rule, from what two calls settled.
use mathlib.Core.Path.{◌≡◌, refl, sym, ◌∙◌, ap, subst}
use mathlib.Core.Logic.{◌⊎◌, inl, inr, ◌↔◌}
use mathlib.Core.Bool.{true}
use mathlib.Core.List.{List}
use Prim.Native.Nat.{ℕ, ◌+◌, ◌≤◌, ◌<◌}
use native.Mathlib.Decide.{ℕ_discrete}
use native.Mathlib.Omega.{arith}
use lib.ListN.{get_or, length}
use Rattle.format.specs.Numbers.{word_from}
use Rattle.format.specs.declared.Report.{Report}
use Rattle.format.specs.Bounds.{prime_of}
use Rattle.field.specs.Primes.{modulus_of}
use Rattle.header.specs.Header.{bounds_of}
use Rattle.job.proofs.Facts.{WellFormedFacts, well_formed_facts}
use Rattle.row_mask.specs.Word.{bit_at}
use Rattle.row_mask.proofs.Words.{bit_exactly}
use Rattle.problem.specs.Reduced.{Reduced}
use Rattle.problem.specs.Answers.{wrong_at, wrong_count, Within}
use Rattle.recovery.specs.Recovery.{Settled}
use Rattle.enlargement.specs.Enlargement.{AnsweredWith, Named, StandsAt, HoldsRows, HoldsSpeaking, further_row, further_wrong, SetAt, Enlarged, Comparable, EnlargementRule}
use Rattle.enlargement.proofs.RowBytes.{same_wrong}
use Rattle.enlargement.proofs.Exactly.{answered_named, named_answered, answered_word}
use Rattle.enlargement.proofs.Enlarging.{wrong_adds, old_or_new}

module _ {s area : List ℕ} {r : Report} {after : List ℕ} (S : Settled s area r after) {s' area' : List ℕ} {r' : Report} {after' : List ℕ}
    (S' : Settled s' area' r' after') (f : ℕ → List ℕ) (g : List ℕ) (k : ℕ) (answered : AnsweredWith s r after f g k) (C : Comparable HoldsSpeaking s s' area' f g) where
  N : Named s area f g k
  N = answered_named s area r after S answered

  W : WellFormedFacts s (length area)
  W = well_formed_facts s (length area) N.well_formed

  W' : WellFormedFacts s' (length area')
  W' = well_formed_facts s' (length area') C.well_formed

  same_outputs : (bounds_of s').outputs ≡ (bounds_of s).outputs
  same_outputs = C.outputs

  same_prime : prime_of (bounds_of s') ≡ prime_of (bounds_of s)
  same_prime = ap modulus_of C.prime

  -- f and g are within the bounds of T'
  within : Within (bounds_of s') f g
  within = record {
    numerators = λ i l. record {
      residues = λ m. subst (λ p. get_or (f i) m 0 < p) (sym same_prime) ((N.answer.within.numerators i (lower i l)).residues m);
      within = λ m h. C.meets.numerators i m l (omega arith);
    };
    denominator = record {
      residues = λ m. subst (λ p. get_or g m 0 < p) (sym same_prime) (N.answer.within.denominator.residues m);
      within = λ m h. C.meets.denominator m (omega arith);
    };
  }
    where
      lower : (i : ℕ) → i < (bounds_of s').outputs → i < (bounds_of s).outputs
      lower i l = let e = same_outputs in omega arith

  reduced : Reduced (prime_of (bounds_of s')) (bounds_of s').outputs f g
  reduced = subst (λ n. Reduced (prime_of (bounds_of s')) n f g) (sym same_outputs) (subst (λ p. Reduced p (bounds_of s).outputs f g) (sym same_prime) N.answer.reduced)

  -- k + w
  together : wrong_count s' f g ≡ k + further_wrong s s' f g
  together = let e = wrong_adds s s' W W' C.prime same_outputs C.holds f g in let c = N.count in omega arith

  exactly : ((c : ℕ) × AnsweredWith s' r' after' f g c) ↔ (k + further_wrong s s' f g ≤ (bounds_of s').errors)
  exactly = (
    (λ t. let n = answered_named s' area' r' after' S' t.1 in let m = n.answer.few_wrong in let e = together in omega arith),
    (λ few. (
      wrong_count s' f g,
      named_answered s' area' r' after' S' (record {
        well_formed = C.well_formed;
        answer = record { within = within; reduced = reduced; few_wrong = (let e = together in omega arith) };
        count = refl;
      }),
    )),
  )

  count : (c : ℕ) → AnsweredWith s' r' after' f g c → c ≡ k + further_wrong s s' f g
  count c w = let n = answered_named s' area' r' after' S' w in sym n.count ∙ together

  -- the words, bit by bit
  bit : (i : ℕ) → i < 32 → (bit_at (word_from after) i ≡ 1) ↔ ((i < (bounds_of s).rows) × (wrong_at s f g i ≡ true))
  bit i l =
      subst (λ w. (bit_at w i ≡ 1) ↔ ((i < (bounds_of s).rows) × (wrong_at s f g i ≡ true))) (sym (answered_word s area r after S answered))
      (bit_exactly (bounds_of s).rows (wrong_at s f g) i (let n = W.fields.rows_most in omega arith) l)

  module _ (c : ℕ) (w : AnsweredWith s' r' after' f g c) (j : ℕ) where
    bit' : j < 32 → (bit_at (word_from after') j ≡ 1) ↔ ((j < (bounds_of s').rows) × (wrong_at s' f g j ≡ true))
    bit' l =
        subst (λ w. (bit_at w j ≡ 1) ↔ ((j < (bounds_of s').rows) × (wrong_at s' f g j ≡ true))) (sym (answered_word s' area' r' after' S' w))
        (bit_exactly (bounds_of s').rows (wrong_at s' f g) j (let n = W'.fields.rows_most in omega arith) l)

    -- a row of T in T' is wrong in both or in none
    wrong_there : j < (bounds_of s').rows → (i : ℕ) → i < (bounds_of s).rows → StandsAt s i s' j → wrong_at s f g i ≡ wrong_at s' f g j
    wrong_there l' i l e = same_wrong s s' same_outputs W W' i j l l' e C.prime f g

    set_wrong : j < (bounds_of s').rows → SetAt s after s' f g j → wrong_at s' f g j ≡ true
    set_wrong l' (inl t) =
        sym (wrong_there l' t.0 t.1 t.2) ∙ ((bit t.0 (let l = t.1 in let n = W.fields.rows_most in omega arith)).0 t.3).1
    set_wrong l' (inr t) = t.1

    wrong_set : j < (bounds_of s').rows → wrong_at s' f g j ≡ true → SetAt s after s' f g j
    wrong_set l' e = by (old_or_new s s' W W' C.prime same_outputs j)
      where
        by : ((i : ℕ) × (i < (bounds_of s).rows) × StandsAt s i s' j) ⊎ (further_row s s' j ≡ true) → SetAt s after s' f g j
        by (inl t) =
            let l = t.1 in
            let n = W.fields.rows_most in
            inl (t.0, t.1, t.2, (bit t.0 (omega arith)).1 (t.1, wrong_there l' t.0 t.1 t.2 ∙ e))
        by (inr h) = inr (h, e)

    ones : j < (bounds_of s').rows → SetAt s after s' f g j → bit_at (word_from after') j ≡ 1
    ones l m = (bit' (let n = W'.fields.rows_most in omega arith)).1 (l, set_wrong l m)

    zeros : j < 32 → ((j < (bounds_of s').rows) × SetAt s after s' f g j → ⊥) → bit_at (word_from after') j ≡ 0
    zeros l none = by (ℕ_discrete (bit_at (word_from after') j) 1)
      where
        by : Dec (bit_at (word_from after') j ≡ 1) → bit_at (word_from after') j ≡ 0
        by (yes e) = let t = (bit' l).0 e in absurd (none (t.0, wrong_set t.0 t.1))
        by (no n) = omega arith

  pub enlarged : Enlarged s after s' r' after' f g k
  enlarged = record { exactly = exactly; count = count; ones = ones; zeros = zeros }

module _ {s area : List ℕ} {r : Report} {after : List ℕ} (S : Settled s area r after) {s' area' : List ℕ} {r' : Report} {after' : List ℕ}
    (S' : Settled s' area' r' after') where
  pub enlargement : EnlargementRule HoldsSpeaking s r after s' area' r' after'
  enlargement f g k w C = enlarged S S' f g k w C

  -- where T' holds every row of T, it holds those that speak
  pub enlargement_whole : EnlargementRule HoldsRows s r after s' area' r' after'
  enlargement_whole f g k w C = enlargement f g k w (record {
    prime = C.prime;
    outputs = C.outputs;
    well_formed = C.well_formed;
    holds = λ i l speaking. C.holds i l;
    meets = C.meets;
  })
