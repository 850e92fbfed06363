-- All outputs: after the last one the code holds the method's candidate, or there is no answer.
use lib.ListN.{get_or}
use Rattle.format.specs.Bounds.{prime_of}
use mathlib.Core.Path.{◌≡◌, refl, sym, ◌∙◌, ap, ap₂, subst}
use mathlib.Core.List.{List}
use Prim.Native.Nat.{ℕ, zero, suc, ◌+◌, ◌-◌, ◌*◌, ◌%◌, ◌≤◌, ◌<◌}
use native.Mathlib.Decide.{ℕ_discrete}
use native.Mathlib.Omega.{arith}
use borrow.Author.Tests.{eq-eqb, ne_eqb}
use Rattle.std.specs.Prelude.{Option, Some, None, option_and_then}
use Rattle.algebra.proofs.Counting.{failures_le}
use Rattle.algebra.proofs.Field.{Field}
use Rattle.algebra.proofs.Bounds.{Below}
use Rattle.algebra.proofs.Value.{value}
use Rattle.method.proofs.Solution.{Solves}
use Rattle.method.proofs.Interpolation.{Condition, dec_idle, active_below}
use Rattle.method.proofs.Problem.{Problem, phi_degree}
use Rattle.method.proofs.CrossProduct.{conditions, active_count as methodActive, psi_degree, active_degrees}
use Rattle.method.proofs.Outputs.{none_if_psi_null}
use Rattle.reciprocal.proofs.PrimeField.{residue, residue-mul}
use Rattle.format.specs.declared.Bounds.{Bounds}
use Rattle.poly.specs.declared.Vector.{Vector}
use Rattle.poly.specs.Coefficients.{Stored}
use Rattle.poly.specs.Operations.{value_of, length_of}
use Rattle.lists.proofs.Tabulated.{at_tabulate}
use Rattle.poly_meaning.proofs.Series.{residue-mod, value_means_bounded}
use Rattle.poly_meaning.proofs.Degrees.{length_means_null}
use Rattle.pairs.specs.declared.Pair.{Pair}
use Rattle.pairs.specs.Pairs.{active_count}
use Rattle.euclid.proofs.Leading.{bounded_stored}
use Rattle.column.specs.Columns.{column_of}
use Rattle.format.proofs.Sizes.{denominator-low}
use Rattle.column.proofs.Columns.{column_is, bounded_column}
use Rattle.candidate.specs.Candidates.{phi_bound, psi_bound, output_pair_of, with_fraction, next_of, candidate_after}
use Rattle.soundness.proofs.Interpolation.{condition_at, active_means, Lists, solution_means}
use Rattle.soundness.proofs.Fraction.{fraction_means}
use Rattle.soundness.proofs.Tables.{P, R, F, poly, evaluation, problem, Usable, ample, capacity}
use Rattle.soundness.proofs.Candidates.{Good, Verdict, start_decided, extended_decided}

-- conditions that agree are active alike
same-active : (F : Field) (row row' : ℕ → Condition F.ring) (k : ℕ) → ((l : ℕ) → l < k → (row l).c ≡ (row' l).c) → ((l : ℕ) → l < k → (row l).z ≡ (row' l).z)
    → active_below F row k ≡ active_below F row' k
same-active F row row' k ec ez =
    let le = failures_le (λ l. dec_idle F (row l)) (λ l. dec_idle F (row' l)) k (λ l h idle. (sym (ec l h) ∙ idle.0, sym (ez l h) ∙ idle.1)) in
    let ge = failures_le (λ l. dec_idle F (row' l)) (λ l. dec_idle F (row l)) k (λ l h idle. (ec l h ∙ idle.0, ez l h ∙ idle.1)) in
    omega arith

module _ (b : Bounds) (speaking : ℕ) (points weights values : List ℕ) (U : Usable b speaking points weights values) where
  abbrev p : ℕ
  p = prime_of b

  positive : 0 < p
  positive = let two = (P b).two in omega arith

  -- the right-hand sides of output i's conditions
  module _ (i : ℕ) (v : Vector) (G : Good b speaking points weights values U i v) where
    abbrev z : List ℕ
    z = column_of b points values i v.g.c

    z_at : (l : ℕ) → l < b.rows → get_or z l 0 ≡ value_of p (get_or points l 0) v.g.c * get_or values (l * 4 + i) 0 % p
    unfolding column_of
    z_at l h = at_tabulate 32 _ l (let n = U.enough_rows.rows in omega arith) ∙ sym (column_is p b.rows points values i v.g.c l h refl refl)

    z_below : (l : ℕ) → get_or z l 0 < p
    unfolding column_of
    z_below = (bounded_column p b.rows points values i v.g.c positive).residues

    -- they are those of the method
    z_means : (l : ℕ) → l < b.rows
        → residue p (P b) (get_or z l 0) ≡ (conditions (F b) 32 (poly b v.g.c) i (evaluation b points weights values) l).z
    z_means l h =
        ap (residue p (P b)) (z_at l h) ∙ residue-mod p (P b) _ ∙ sym (residue-mul p (P b) _ _)
        ∙ ap (λ t. (R b).mul t (residue p (P b) (get_or values (l * 4 + i) 0)))
        (value_means_bounded p (P b) 32 (get_or points l 0) G.fitting.denominator (let n = denominator-low U.enough_rows in omega arith))

    abbrev s : Pair
    s = output_pair_of b speaking points weights z

    abbrev T : Problem (R b)
    T = problem b points weights values

    -- A and B are the method's
    abbrev A : ℕ
    A = phi_bound b speaking

    abbrev B : ℕ
    B = psi_bound b speaking (active_count weights z b.rows)

    module _ (li : i < b.outputs) where
      -- as many rows ask something of output i as it has active conditions
      active : active_count weights z b.rows ≡ methodActive (F b) 32 T (poly b v.g.c) i
      active = sym (active_means p (P b) points weights z U.weights_below z_below b.rows) ∙ same-active (F b) _ _ b.rows (λ l h. refl) z_means

      a_degree : phi_bound b speaking ≡ phi_degree (F b) T
      a_degree = ap (phi_bound b) (sym U.speaking)

      b-degree : psi_bound b speaking (active_count weights z b.rows) ≡ psi_degree (F b) 32 T (poly b v.g.c) i
      b-degree = ap₂ (λ n a. n - (a + 1)) active a_degree ∙ less_one _ _
        where
          less_one : (n a : ℕ) → n - (a + 1) ≡ n - 1 - a
          less_one n a = omega arith

      both : active_count weights z b.rows ≡ A + B + 1
      both =
          active
          ∙ active_degrees (F b) 32 T (ample b speaking points weights values U) (capacity b speaking points weights values U) li G.candidate.monic G.candidate.fits
          ∙ sym (ap₂ (λ m n. m + n + 1) a_degree b-degree)

      solution : Lists p (P b) (b.rows + 1) s
          × Solves (R b) A B 32 (condition_at p (P b) points weights z) b.rows (poly b s.a.c) (poly b s.b.c)
      solution = solution_means p (P b) A B points weights z U.points_below z_below b.rows U.enough_rows.rows
          (active_means p (P b) points weights z U.weights_below z_below b.rows ∙ both)

      solves : Solves (R b) (phi_degree (F b) T) (psi_degree (F b) 32 T (poly b v.g.c) i) 32 (conditions (F b) 32 (poly b v.g.c) i (evaluation b points weights values)) b.rows
          (poly b s.a.c) (poly b s.b.c)
      solves = record {
        phi_below = subst (λ n. Below (R b) (poly b s.a.c) (suc n)) a_degree solution.1.phi_below;
        psi_below = subst (λ n. Below (R b) (poly b s.b.c) (suc n)) b-degree solution.1.psi_below;
        meets = λ l h. solution.1.meets l h ∙ ap (λ t. (R b).mul t (value (R b) 32 (poly b s.b.c) (residue p (P b) (get_or points l 0)))) (z_means l h);
        not_both_null = solution.1.not_both_null;
      }

      stored_left : Stored p s.a.c
      stored_left = bounded_stored solution.0.bounded.left solution.0.left_size

      stored_right : Stored p s.b.c
      stored_right = bounded_stored solution.0.bounded.right solution.0.right-size

      fraction_decided : Dec (length_of s.b.c ≡ 0) → Verdict b speaking points weights values U (suc i) (with_fraction b i s v)
      unfolding with_fraction
      fraction_decided (yes null) =
          rw (eq-eqb _ _ null)
          (none_if_psi_null (F b) 32 (problem b points weights values) (ample b speaking points weights values U) (capacity b speaking points weights values U) li G.candidate solves
          (length_means_null p (P b) solution.0.bounded.right null))
      fraction_decided (no nonzero) =
          let M = fraction_means p (P b) stored_left stored_right nonzero in
          rw (ne_eqb _ _ nonzero)
          (extended_decided b speaking points weights values U li G solves M.terms M.numerator M.denominator M.numerator_bounded M.denominator_bounded
          M.denominator-length)

      next_decided : Verdict b speaking points weights values U (suc i) (next_of b speaking points weights values i v)
      unfolding next_of
      next_decided = fraction_decided (ℕ_discrete (length_of s.b.c) 0)

  -- after each output
  pub decided : (i : ℕ) → i ≤ b.outputs → Verdict b speaking points weights values U i (candidate_after b speaking points weights values i)
  unfolding candidate_after
  decided zero l = start_decided b speaking points weights values U
  decided (suc i) l = by (candidate_after b speaking points weights values i) (decided i (omega arith))
    where
      by : (o : Option Vector) → Verdict b speaking points weights values U i o
          → Verdict b speaking points weights values U (suc i) (option_and_then (next_of b speaking points weights values i) o)
      by (Some v) G = next_decided i v G (omega arith)
      by None unanswered = unanswered
