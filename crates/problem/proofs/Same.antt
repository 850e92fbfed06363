-- Vectors compared by their coefficients: of the same vector the same rows are wrong, it is an answer of the same jobs, and its bytes are the same.
use lib.ListN.{get_or}
use mathlib.Core.Path.{◌≡◌, refl, sym, ◌∙◌, ap, ap₂, subst}
use mathlib.Core.List.{List, ◌++◌}
use Prim.Native.Nat.{ℕ, zero, suc, ◌+◌, ◌%◌, ◌<◌}
use native.Mathlib.Omega.{arith}
use Rattle.format.specs.declared.Bounds.{Bounds}
use Rattle.format.specs.Bounds.{prime_of, numerator_bound_of}
use Rattle.poly.specs.Coefficients.{Bounded}
use Rattle.header.specs.Header.{bounds_of}
use Rattle.rows.specs.Rows.{job_point}
use Rattle.row_mask.proofs.Words.{word_same}
use Rattle.lists.proofs.Counting.{count_same}
use Rattle.answer.specs.Bytes.{two_bytes, four_bytes, coefficient_bytes, output_bytes, answer_bytes}
use Rattle.problem.specs.Reduced.{Divides, Reduced, Same}
use Rattle.problem.specs.Answers.{wrong_at, wrong_count, Within, Answer, recovered_bytes}
use Rattle.marked_rows.specs.Marks.{mark_at}
use Rattle.problem.proofs.Rows.{verdict_same}

bounded_same : {p n : ℕ} {a b : List ℕ} → ((k : ℕ) → get_or a k 0 ≡ get_or b k 0) → Bounded p n a → Bounded p n b
bounded_same {p} e h = record { residues = λ k. subst (λ t. t < p) (e k) (h.residues k); within = λ k l. sym (e k) ∙ h.within k l }

divides_same : (p : ℕ) (d a b : List ℕ) → ((k : ℕ) → get_or a k 0 ≡ get_or b k 0) → Divides p d b → Divides p d a
divides_same p d a b e D = (D.0, λ k. D.1 k ∙ ap (λ t. t % p) (sym (e k)))

pub same_sym : {n : ℕ} {f f' : ℕ → List ℕ} {g g' : List ℕ} → Same n f g f' g' → Same n f' g' f g
same_sym h = record { denominator = λ k. sym (h.denominator k); numerators = λ i l k. sym (h.numerators i l k) }

-- equal polynomials have the same coefficients
pub same_if_equal : {n : ℕ} {f f' : ℕ → List ℕ} {g g' : List ℕ} → ((i : ℕ) → i < n → f i ≡ f' i) → g ≡ g' → Same n f g f' g'
same_if_equal ef eg = record { denominator = λ k. ap (λ t. get_or t k 0) eg; numerators = λ i l k. ap (λ t. get_or t k 0) (ef i l) }

pub within_same : {b : Bounds} {f f' : ℕ → List ℕ} {g g' : List ℕ} → Same b.outputs f g f' g' → Within b f g → Within b f' g'
within_same h w = record { numerators = λ i l. bounded_same (h.numerators i l) (w.numerators i l); denominator = bounded_same h.denominator w.denominator }

pub reduced-same : {p n : ℕ} {f f' : ℕ → List ℕ} {g g' : List ℕ} → Same n f g f' g' → Reduced p n f g → Reduced p n f' g'
reduced-same {p} {f = f} {f' = f'} {g = g} {g' = g'} h r = record {
  monic = record {
    degree = r.monic.degree;
    leading = sym (h.denominator _) ∙ r.monic.leading;
    above = λ k l. sym (h.denominator k) ∙ r.monic.above k l;
  };
  coprime = λ d dg df. r.coprime d (divides_same p d g g' h.denominator dg) (λ i l. divides_same p d (f i) (f' i) (h.numerators i l) (df i l));
}

-- of the numerators the first n count
pub reduced_cong : {p n : ℕ} {f f' : ℕ → List ℕ} {g : List ℕ} → ((i : ℕ) → i < n → f i ≡ f' i) → Reduced p n f g → Reduced p n f' g
reduced_cong e = reduced-same (same_if_equal e refl)

module _ (s : List ℕ) {f f' : ℕ → List ℕ} {g g' : List ℕ} (h : Same (bounds_of s).outputs f g f' g') where
  -- the same rows are wrong
  pub wrong_at_same : (r : ℕ) → wrong_at s f g r ≡ wrong_at s f' g' r
  wrong_at_same r = verdict_same (mark_at s r) (prime_of (bounds_of s)) (job_point s r) (bounds_of s).outputs f f' g g' (λ i l. refl) h.numerators h.denominator

  pub wrong_count-same : wrong_count s f g ≡ wrong_count s f' g'
  wrong_count-same = count_same (bounds_of s).rows (wrong_at s f g) (wrong_at s f' g') (λ r l. wrong_at_same r)

  pub answer_same : Answer s f g → Answer s f' g'
  answer_same a = record {
    within = within_same h a.within;
    reduced = reduced-same h a.reduced;
    few_wrong = (let e = wrong_count-same in let m = a.few_wrong in omega arith);
  }

-- an answer's bytes depend on the coefficients alone
coefficients-same : (a b : List ℕ) → ((k : ℕ) → get_or a k 0 ≡ get_or b k 0) → (n : ℕ) → coefficient_bytes a n ≡ coefficient_bytes b n
unfolding coefficient_bytes
coefficients-same a b e zero = refl
coefficients-same a b e (suc n) = ap₂ (λ l v. l ++ two_bytes v) (coefficients-same a b e n) (e n)

outputs_same : (b : Bounds) (f f' : ℕ → List ℕ) (n : ℕ) → ((i : ℕ) → i < n → (k : ℕ) → get_or (f i) k 0 ≡ get_or (f' i) k 0) → output_bytes b f n ≡ output_bytes b f' n
unfolding output_bytes
outputs_same b f f' zero e = refl
outputs_same b f f' (suc n) e =
    ap₂ ◌++◌ (outputs_same b f f' n (λ i l. e i (omega arith))) (coefficients-same (f n) (f' n) (e n (omega arith)) (numerator_bound_of b n + 1))

bytes_same : (b : Bounds) {w w' : ℕ} {f f' : ℕ → List ℕ} {g g' : List ℕ} → w ≡ w' → Same b.outputs f g f' g' → answer_bytes b w g f ≡ answer_bytes b w' g' f'
bytes_same b {w} {w'} {f} {f'} {g} {g'} e h =
    ap₂ ◌++◌ (ap four_bytes e) (ap₂ ◌++◌ (coefficients-same g g' h.denominator (b.dg + 1)) (outputs_same b f f' b.outputs h.numerators))

pub recovered-same : (s : List ℕ) {f f' : ℕ → List ℕ} {g g' : List ℕ} → Same (bounds_of s).outputs f g f' g' → recovered_bytes s f g ≡ recovered_bytes s f' g'
recovered-same s h = bytes_same (bounds_of s) (word_same (bounds_of s).rows _ _ (λ r l. wrong_at_same s h r)) h
