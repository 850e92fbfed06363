-- docs/METHOD.md, Why that is right: for an answer (f, g) that is a multiple of the fractions found so far, f_i psi and q phi agree at
-- every right row whose condition is active, so they are equal; and q can be divided by the new denominator.
use mathlib.Core.Path.{◌≡◌, sym, ◌∙◌, ap, subst}
use mathlib.Core.Logic.{◌≢◌, ◌⊎◌, inl, inr}
use Prim.Native.Nat.{ℕ, suc, ◌+◌, ◌-◌, ◌≤◌, ◌<◌}
use native.Mathlib.Omega.{arith}
use Rattle.algebra.proofs.Counting.{dec_and, dec_not, failures_and, failures_not, failures_le}
use Rattle.algebra.proofs.Ring.{ring, mul_comm}
use Rattle.algebra.proofs.Series.{Series, add_s, null_s, mul_s, null_mul_s, mul_s_null, series_ring}
use Rattle.algebra.proofs.Bounds.{Below, below_mono, below_mul, Polynomial, polynomial-add, polynomial-mul}
use Rattle.algebra.proofs.Value.{value, value_stable, value-mul_within}
use Rattle.algebra.proofs.Identities.{split_off, cross_divided, part_divided}
use Rattle.algebra.proofs.Field.{Field, cancel, one_proportion, no_zero_divisors}
use Rattle.algebra.proofs.Degree.{cofactor_below, regular}
use Rattle.algebra.proofs.Roots.{root_bound, equal_if_agree}
use Rattle.algebra.proofs.LowestTerms.{Monic, monic_degree, monic_nonnull, LowestTerms}
use Rattle.method.proofs.Interpolation.{Condition, Idle, dec_idle, active_below}
use Rattle.method.proofs.Solution.{Solves}
use Rattle.method.proofs.Vectors.{Multiple}
use Rattle.method.proofs.Problem.{Evaluation, Problem, Silent, dec_silent, Right, dec_right, Answer, points, speaking_count, phi_degree, Ample, ample_fits}

module _ (F : Field) (N : ℕ) where
  open F use {ring as R, dec}
  open R use {mul as ◌⊗◌, null}

  infixl 70 ◌⊗◌
  -- the conditions of output i (docs/METHOD.md, All outputs): c_l, and z_l = G(x_l) y_li
  abbrev pub conditions : Series R → ℕ → (ℕ → Evaluation R) → ℕ → Condition R
  conditions G i row l = record { x = (row l).point; c = (row l).weight; z = value R N G (row l).point ⊗ (row l).values i }

  module _ (T : Problem R) where
    -- the active conditions of output i
    abbrev pub active_count : Series R → ℕ → ℕ
    active_count G i = active_below F (conditions G i T.row) T.count

    -- the degree B of the polynomial psi that is found for output i (docs/METHOD.md, All outputs)
    abbrev pub psi_degree : Series R → ℕ → ℕ
    psi_degree G i = active_count G i - 1 - phi_degree F T

    pub active-le : (G : Series R) (i : ℕ) → active_count G i ≤ T.count
    active-le G i = let e = failures_not (λ l. dec_idle F (conditions G i T.row l)) T.count in omega arith

    module _ (H : Ample F T) (capacity : T.count < N) {i : ℕ} (li : i < T.outputs) {G : Series R} {d : ℕ}
        (monic : Monic F G d) (short : d ≤ T.denominator_bound) where
      -- a row that speaks has an idle condition only at a root of G, and G has at most d
      pub active_many : speaking_count F T ≤ d + active_count G i
      active_many =
          let roots = root_bound F (points F T) T.count (suc d) G monic.low H.distinct (monic_nonnull F G d monic) in
          let zeros = failures_not root T.count in
          let either = failures_and idle (λ l. dec_not (root l)) T.count in
          let few = failures_le (λ l. dec_and (idle l) (dec_not (root l))) (λ l. dec_silent F T.outputs (T.row l)) T.count silent in
          omega arith
        where
          idle : (l : ℕ) → Dec (Idle R (conditions G i T.row l))
          idle l = dec_idle F (conditions G i T.row l)

          root : (l : ℕ) → Dec (value R (suc d) G (points F T l) ≡ null)
          root l = dec _ _

          silent : (l : ℕ) → l < T.count → Idle R (conditions G i T.row l) × (value R (suc d) G (points F T l) ≢ null) → Silent F T.outputs (T.row l)
          silent l h asks =
              let fits = (ample_fits F N T H capacity).denominator in
              H.clear l h i li asks.0.0
              (cancel F _ _ (λ z. asks.1 (sym (value_stable R (suc d) N G _ monic.low (omega arith)) ∙ z)) asks.0.1)

      -- the active conditions are as many as A and B ask for
      pub active_degrees : active_count G i ≡ phi_degree F T + psi_degree G i + 1
      active_degrees = let e = active_many in let e' = H.room in omega arith

module _ (F : Field) where
  open F use {ring as R}
  open R use {Carrier, mul as ◌⊗◌}

  infixl 70 ◌⊗◌
  -- q = h rest and f = a rest
  pub record Divided (q f a h : Series R) : Type 0 where
    pub rest : Series R
    pub rest_polynomial : Polynomial R rest
    pub q_equation : q ≡ mul_s R h rest
    pub f_equation : f ≡ mul_s R a rest

  module _ (N : ℕ) (T : Problem R) (f : ℕ → Series R) (g : Series R) (a : Answer F N T f g) where
    pub multiple_nonnull : {i : ℕ} {Fs : ℕ → Series R} {G : Series R} (M : Multiple F i f g Fs G) → M.q ≢ null_s R
    multiple_nonnull {G = G} M e = monic_nonnull F g a.vector.degree a.vector.monic (M.denominator ∙ ap (mul_s R G) e ∙ mul_s_null R G)

    module _ (H : Ample F T) (capacity : T.count < N) (i : ℕ) (li : i < T.outputs) (Fs : ℕ → Series R) (G : Series R) (d : ℕ)
        (monic : Monic F G d) (short : d ≤ T.denominator_bound) (M : Multiple F i f g Fs G) (phi psi : Series R)
        (S : Solves R (phi_degree F T) (psi_degree F N T G i) N (conditions F N G i T.row) T.count phi psi) where
      abbrev A : ℕ
      A = phi_degree F T

      abbrev B : ℕ
      B = psi_degree F N T G i

      abbrev dg : ℕ
      dg = T.denominator_bound

      -- the degrees of f_i psi and q phi are at most A + B - E
      abbrev m : ℕ
      m = A + B + 1 - T.errors

      -- B ≥ dg - d + E, A ≥ bound i + E, and the active conditions number A + B + 1, which is less than N
      record Sizes : Type 0 where
        denominators : dg + T.errors ≤ d + B
        numerators : T.bound i + T.errors ≤ A
        active : active_count F N T G i ≡ A + B + 1
        rows : A + B + 1 < N

      sizes : Sizes
      sizes =
          let many = active_many F N T H capacity li monic short in
          let active = active_degrees F N T H capacity li monic short in
          let le = active-le F N T G i in
          let enough = H.enough i li in
          record { denominators = omega arith; numerators = omega arith; active = active; rows = omega arith }

      g_below : Below R (mul_s R G M.q) (suc dg)
      g_below = subst (λ t. Below R t (suc dg)) M.denominator a.vector.denominator_below

      q_below : Below R M.q (suc dg - d)
      q_below = cofactor_below F G M.q d (suc dg) (monic_degree F G d monic) M.q_polynomial g_below

      left_below : Below R (mul_s R (f i) psi) m
      left_below = below_mono R _ (suc (T.bound i) + B) m (let l = sizes.numerators in omega arith)
          (below_mul R (f i) psi (suc (T.bound i)) B (a.vector.numerators_below i li) S.psi_below)

      left_value : (x : Carrier) → value R m (mul_s R (f i) psi) x ≡ value R N (f i) x ⊗ value R N psi x
      left_value x = let l = sizes.numerators in let l' = sizes.rows in value-mul_within R (suc (T.bound i)) (suc B) m m N (f i) psi x
          (a.vector.numerators_below i li) S.psi_below left_below (omega arith) (omega arith) (omega arith)

      right_below : Below R (mul_s R M.q phi) m
      right_below = below_mono R _ (suc dg - d + A) m (let l = sizes.denominators in omega arith)
          (below_mul R M.q phi (suc dg - d) A q_below S.phi_below)

      right-value : (x : Carrier) → value R m (mul_s R M.q phi) x ≡ value R N M.q x ⊗ value R N phi x
      right-value x = let l = sizes.denominators in let l' = sizes.rows in value-mul_within R (suc dg - d) (suc A) m m N M.q phi x
          q_below S.phi_below right_below (omega arith) (omega arith) (omega arith)

      denominator-value : (x : Carrier) → value R N g x ≡ value R N G x ⊗ value R N M.q x
      denominator-value x =
          let l = (ample_fits F N T H capacity).denominator in
          ap (λ t. value R N t x) M.denominator
          ∙ value-mul_within R (suc d) (suc dg - d) (suc dg) N N G M.q x monic.low q_below g_below (omega arith) (omega arith) (omega arith)

      abbrev right : (l : ℕ) → Dec (Right F N T.outputs f g (T.row l))
      right l = dec_right F N T.outputs f g (T.row l)

      abbrev idle : (l : ℕ) → Dec (Idle R (conditions F N G i T.row l))
      idle l = dec_idle F (conditions F N G i T.row l)

      -- (f_i, q) and (phi, psi) meet the condition of a right row, and an active one leaves one proportion
      agree : (l : ℕ) → l < T.count → Right F N T.outputs f g (T.row l) × (Idle R (conditions F N G i T.row l) → ⊥)
          → value R m (mul_s R (f i) psi) (points F T l) ≡ value R m (mul_s R M.q phi) (points F T l)
      agree l h ok =
          left_value _
          ∙ one_proportion F (T.row l).weight _ _ (value R N M.q _) _ _ (ok.0 i li ∙ ap (λ t. t ⊗ (T.row l).values i) (denominator-value _) ∙ turn _ _ _)
          (S.meets l h ∙ mul_comm R _ _) ok.1
          ∙ mul_comm R _ _ ∙ sym (right-value _)
        where
          turn : (Gx qx y : Carrier) → (Gx ⊗ qx) ⊗ y ≡ qx ⊗ (Gx ⊗ y)
          turn Gx qx y = simp ring

      pub cross : mul_s R (f i) psi ≡ mul_s R M.q phi
      cross = equal_if_agree F (λ l. dec_and (right l) (dec_not (idle l))) (points F T) T.count m (mul_s R (f i) psi) (mul_s R M.q phi)
          left_below right_below H.distinct agree
          (let few = a.few_wrong in let either = failures_and right (λ l. dec_not (idle l)) T.count in let all = failures_not idle T.count in
          let s = sizes.active in let s' = sizes.numerators in omega arith)

      pub psi_nonnull : psi ≢ null_s R
      psi_nonnull z = by_factor (no_zero_divisors F _ M.q phi M.q_polynomial.1 (sym cross ∙ ap (mul_s R (f i)) z ∙ mul_s_null R (f i)))
        where
          by_factor : (M.q ≡ null_s R) ⊎ (phi ≡ null_s R) → ⊥
          by_factor (inl e) = multiple_nonnull M e
          by_factor (inr e) = S.not_both_null e z

      -- with r a + s h = 1: the new denominator h divides q
      pub divide : (W : LowestTerms F phi psi) → Divided M.q (f i) W.numerator W.denominator
      divide W = record {
        rest = rest;
        rest_polynomial = polynomial-add R _ _ (polynomial-mul R _ _ W.r_polynomial (suc (T.bound i), a.vector.numerators_below i li))
            (polynomial-mul R _ _ W.s-polynomial M.q_polynomial);
        q_equation = q_equation;
        f_equation = regular F (suc W.degree) W.denominator W.monic.low (monic_nonnull F W.denominator W.degree W.monic) _ _
            (part_divided (series_ring R) W.denominator (f i) M.q W.numerator rest lowest_cross q_equation);
      }
        where
          common_nonnull : W.common ≢ null_s R
          common_nonnull e = S.not_both_null (W.numerator_equation ∙ ap (λ t. mul_s R t W.numerator) e ∙ null_mul_s R W.numerator)
              (W.denominator_equation ∙ ap (λ t. mul_s R t W.denominator) e ∙ null_mul_s R W.denominator)

          lowest_cross : mul_s R (f i) W.denominator ≡ mul_s R M.q W.numerator
          lowest_cross = regular F W.common_polynomial.0 W.common W.common_polynomial.1 common_nonnull _ _
              (cross_divided (series_ring R) W.common (f i) W.denominator M.q W.numerator psi phi W.denominator_equation W.numerator_equation cross)

          rest : Series R
          rest = add_s R (mul_s R W.r (f i)) (mul_s R W.s M.q)

          q_equation : M.q ≡ mul_s R W.denominator rest
          q_equation = split_off (series_ring R) M.q W.r W.numerator W.s W.denominator (f i) lowest_cross W.bezout
