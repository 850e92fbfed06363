-- The pairs that the code makes, row by row, are those of docs/METHOD.md, One output, over the residues modulo p.
use mathlib.Core.Path.{◌≡◌, refl, sym, ◌∙◌, ap, ap₂, subst}
use mathlib.Core.Logic.{◌≢◌}
use mathlib.Core.List.{List}
use Prim.Native.Nat.{ℕ, zero, suc, ◌+◌, ◌-◌, ◌*◌, ◌≤◌, ◌<◌}
use native.Mathlib.Nat.{mod-lt}
use native.Mathlib.Numerals.{add-one}
use native.Mathlib.Decide.{dec_le, ℕ_discrete}
use native.Mathlib.Omega.{arith}
use borrow.Author.Tests.{eq-eqb, ne_eqb}
use lib.ListN.{get_or, length}
use Rattle.algebra.proofs.Ring.{Ring, neg-mul}
use Rattle.algebra.proofs.Field.{Field}
use Rattle.algebra.proofs.Series.{Series, const_s, null_s}
use Rattle.method.proofs.PairLaws.{combine}
use Rattle.method.proofs.Interpolation.{Condition, Pair as SeriesPair, discrepancy, discrepancy_at, first_pair, second_pair, advanced, combined, Invariant, start_invariant, keep_both, advance_first, advance_second, combine_second, combine_first, Idle, dec_idle, idle-discrepancy, active_below, active_below-zero, active_below-idle, active_below-active}
use Rattle.method.proofs.Solution.{Solves, first_solves, second_solves}
use Rattle.field.proofs.Primality.{IsPrime}
use Rattle.reciprocal.proofs.PrimeField.{residue, residue-add, residue-mul, residue-neg, residue_ring, residue_field}
use Rattle.poly.specs.Operations.{value_of, times_linear_of, combination_of}
use Rattle.poly.specs.Vectors.{one_poly, zero_poly}
use Rattle.lists.proofs.Tabulated.{length-tabulate}
use Rattle.poly.proofs.Bounds.{bounded_times_linear, bounded_combination}
use Rattle.poly_meaning.proofs.Series.{series, residue-mod, residue-zero, zeros_means, constant_means, times_linear_means, combination_means, value_means_bounded}
use Rattle.lists.specs.Counting.{count_below, one_if}
use Rattle.pairs.specs.declared.Pair.{Pair}
use Rattle.pairs.specs.Pairs.{Pairs, PairBounded, active_at, active_count, discrepancy_of, advanced_of, combined_of, pairs_step, start_of, pairs_after, smaller_of, solution_of}
use Rattle.pairs.proofs.PairLaws.{pair_mono, step_both, step_second, step_first, step-clear_second, step-clear_first, reached_start, smaller_first, smaller_second}

module _ (p : ℕ) (P : IsPrime p) where
  abbrev R : Ring
  R = residue_ring p P

  abbrev F : Field
  F = residue_field p P

  -- a pair of lists that the code holds, as a pair of polynomials
  abbrev pub meaning : Pair → SeriesPair (residue_ring p P)
  meaning s = record { a = series p P s.a.c; b = series p P s.b.c; e = s.e }

  same-pair : {a a' b b' : Series R} {e e' : ℕ} → a ≡ a' → b ≡ b' → e ≡ e'
      → ◌≡◌ {A = SeriesPair R} (record { a = a; b = b; e = e }) (record { a = a'; b = b'; e = e' })
  same-pair ea eb ee = cc

  -- the condition c a(x) = z b(x)
  abbrev pub condition : (c x z : ℕ) → Condition (residue_ring p P)
  condition c x z = record { x = residue p P x; c = residue p P c; z = residue p P z }

  -- what the discrepancy means, for polynomials within 32 coefficients
  discrepancy_means : {n : ℕ} (c x z : ℕ) (s : Pair) → z < p → PairBounded p n s → n ≤ 32
      → residue p P (discrepancy_of p c x z s) ≡ discrepancy R 32 (condition c x z) (meaning s)
  unfolding discrepancy_of
  discrepancy_means c x z s l b n =
      let va = value_of p x s.a.c in
      let vb = value_of p x s.b.c in
      residue-mod p P _ ∙ sym (residue-add p P (c * va) ((p - z) * vb))
      ∙ ap₂ R.add
      (sym (residue-mul p P c va) ∙ ap (R.mul (residue p P c)) (value_means_bounded p P 32 x b.left n))
      (sym (residue-mul p P (p - z) vb) ∙ ap₂ R.mul (sym (residue-neg p P z l)) (value_means_bounded p P 32 x b.right n) ∙ neg-mul R _ _)
      ∙ sym (discrepancy_at R 32 (condition c x z) (meaning s))

  -- a pair of the code: two lists of 32 numbers below p, which are 0 from n on
  pub record Lists (n : ℕ) (t : Pair) : Type 0 where
    pub bounded : PairBounded p n t
    pub left_size : length t.a.c ≡ 32
    pub right-size : length t.b.c ≡ 32

  -- its lists mean the pair m
  record Reads (n : ℕ) (t : Pair) (m : SeriesPair R) : Type 0 where
    lists : Lists n t
    means : meaning t ≡ m

  -- after row k: a pair that stays as it is, one times (u - x), and a combination d s - c t
  module _ (k : ℕ) (fits : k + 1 < 32) where
    stays : {t : Pair} → Lists (k + 1) t → Reads (suc k + 1) t (meaning t)
    stays l = record { lists = record { bounded = pair_mono l.bounded (omega arith); left_size = l.left_size; right-size = l.right-size }; means = refl }

    rises : (x : ℕ) → x < p → {t : Pair} → PairBounded p (k + 1) t → Reads (suc k + 1) (advanced_of p x t) (advanced R (residue p P x) (meaning t))
    unfolding advanced_of times_linear_of
    rises x lx {t} b =
        let two = P.two in
        record {
          lists = record {
            bounded = pair_mono
                (record { left = bounded_times_linear b.left x (omega arith); right = bounded_times_linear b.right x (omega arith) }) (omega arith);
            left_size = length-tabulate 32 _;
            right-size = length-tabulate 32 _;
          };
          means = same-pair (times_linear_means p P x b.left fits lx) (times_linear_means p P x b.right fits lx) (add-one t.e);
        }

    combines : (d c : ℕ) → c < p → {s t : Pair} → PairBounded p (k + 1) s → PairBounded p (k + 1) t
        → Reads (suc k + 1) (combined_of p d s c t) (combined R (residue p P d) (meaning s) (residue p P c) (meaning t))
    unfolding combined_of combination_of combine
    combines d c lc bs bt =
        let two = P.two in
        record {
          lists = record {
            bounded = pair_mono (record {
              left = bounded_combination bs.left bt.left d c (omega arith);
              right = bounded_combination bs.right bt.right d c (omega arith);
            }) (omega arith);
            left_size = length-tabulate 32 _;
            right-size = length-tabulate 32 _;
          };
          means = same-pair (combination_means p P d c bs.left bt.left (omega arith) lc) (combination_means p P d c bs.right bt.right (omega arith) lc) refl;
        }

  -- the conditions of the rows
  module _ (points weights z : List ℕ) where
    abbrev pub condition_at : ℕ → Condition (residue_ring p P)
    condition_at l = condition (get_or weights l 0) (get_or points l 0) (get_or z l 0)

    -- a row asks something exactly if its condition is active
    module _ (weights_below : (k : ℕ) → get_or weights k 0 < 2) (z_below : (k : ℕ) → get_or z k 0 < p) where
      pub active_means : (k : ℕ) → active_below (residue_field p P) condition_at k ≡ active_count weights z k
      unfolding count_below
      active_means zero = active_below-zero F condition_at
      active_means (suc k) = by (ℕ_discrete (get_or weights k 0) 0) (ℕ_discrete (get_or z k 0) 0) (active_means k)
        where
          low : get_or weights k 0 < p
          low = let w = weights_below k in let two = P.two in omega arith

          by : Dec (get_or weights k 0 ≡ 0) → Dec (get_or z k 0 ≡ 0) → active_below F condition_at k ≡ active_count weights z k
              → active_below F condition_at (suc k) ≡ active_count weights z k + one_if (active_at weights z k)
          by (yes w) (yes e) same =
              let idle = active_below-idle F condition_at k (ap (residue p P) w, ap (residue p P) e) in
              let flag : one_if (active_at weights z k) ≡ 0 = rw (eq-eqb _ _ w, eq-eqb _ _ e) refl in
              omega arith
          by (yes w) (no ne) same =
              let active = active_below-active F condition_at k (λ idle. ne (residue-zero p P _ (z_below k) idle.1)) in
              let flag : one_if (active_at weights z k) ≡ 1 = rw (eq-eqb _ _ w, ne_eqb _ _ ne) refl in
              omega arith
          by (no nw) e same =
              let active = active_below-active F condition_at k (λ idle. nw (residue-zero p P _ low idle.0)) in
              let flag : one_if (active_at weights z k) ≡ 1 = rw (ne_eqb _ _ nw) refl in
              omega arith

  module _ (A B : ℕ) (points weights z : List ℕ) (points_below : (k : ℕ) → get_or points k 0 < p) (z_below : (k : ℕ) → get_or z k 0 < p) where
    abbrev here : ℕ → Condition R
    here = condition_at points weights z

    -- how many of the first k conditions are active
    abbrev active : ℕ → ℕ
    active k = active_below F here k

    -- after k rows
    pub record Means (k : ℕ) (s : Pairs) : Type 0 where
      pub one : Lists (k + 1) s.first
      pub two : Lists (k + 1) s.second
      pub invariant : Invariant (residue_ring p P) A B 32 (condition_at points weights z) k (active_below (residue_field p P) (condition_at points weights z) k)
          (meaning s.first) (meaning s.second)

    reads_means : (k : ℕ) {s t : Pair} {m n : SeriesPair R} → Reads (k + 1) s m → Reads (k + 1) t n → Invariant R A B 32 here k (active k) m n
        → Means k (record { first = s; second = t })
    reads_means k {s} {t} {m} S T I = record {
      one = S.lists;
      two = T.lists;
      invariant = subst (λ r. Invariant R A B 32 here k (active k) r (meaning t)) (sym S.means)
          (subst (Invariant R A B 32 here k (active k) m) (sym T.means) I);
    }

    start_means : Means 0 (start_of A B)
    unfolding start_of
    start_means =
        let b = (reached_start p points weights z A B (start_of A B) (let two = P.two in omega arith) refl).bounded in
        reads_means 0 (record { lists = record { bounded = b.one; left_size = refl; right-size = refl }; means = same-pair one none refl })
        (record { lists = record { bounded = b.two; left_size = refl; right-size = refl }; means = same-pair none one refl })
        (subst (λ a. Invariant R A B 32 here 0 a (first_pair R B) (second_pair R A)) (sym (active_below-zero F here)) (start_invariant F A B 32 here))
      where
        one : series p P one_poly.c ≡ const_s R (residue p P 1)
        one = constant_means p P 1 31

        none : series p P zero_poly.c ≡ null_s R
        none = zeros_means p P 32

    -- one row: d0 and d1 are the discrepancies
    module _ (k : ℕ) (fits : k + 1 < 32) (s : Pairs) (M : Means k s) where
      abbrev x : ℕ
      x = get_or points k 0

      abbrev c : ℕ
      c = get_or weights k 0

      abbrev d0 : ℕ
      d0 = discrepancy_of p c x (get_or z k 0) s.first

      abbrev d1 : ℕ
      d1 = discrepancy_of p c x (get_or z k 0) s.second

      means : (t : Pair) → PairBounded p (k + 1) t → residue p P (discrepancy_of p c x (get_or z k 0) t) ≡ discrepancy R 32 (here k) (meaning t)
      means t b = discrepancy_means c x (get_or z k 0) t (z_below k) b (omega arith)

      small : (t : Pair) → discrepancy_of p c x (get_or z k 0) t < p
      unfolding discrepancy_of
      small t = mod-lt _ (let two = P.two in omega arith)

      null : (t : Pair) → PairBounded p (k + 1) t → discrepancy_of p c x (get_or z k 0) t ≡ 0 → discrepancy R 32 (here k) (meaning t) ≡ residue p P 0
      null t b e = sym (means t b) ∙ ap (residue p P) e

      nonnull : (t : Pair) → (discrepancy_of p c x (get_or z k 0) t ≡ 0 → ⊥) → residue p P (discrepancy_of p c x (get_or z k 0) t) ≢ residue p P 0
      nonnull t n e = n (residue-zero p P _ (small t) e)

      -- a row where a pair has a discrepancy is active, and no row takes from the count
      active_if : (t : Pair) → PairBounded p (k + 1) t → (discrepancy_of p c x (get_or z k 0) t ≡ 0 → ⊥) → suc (active k) ≡ active (suc k)
      active_if t b n =
          sym (active_below-active F here k (λ idle. n (residue-zero p P _ (small t) (means t b ∙ idle-discrepancy R 32 (here k) (meaning t) idle))))

      active_grows : active k ≤ active (suc k)
      active_grows = by (dec_idle F (here k))
        where
          by : Dec (Idle R (here k)) → active k ≤ active (suc k)
          by (yes idle) = let e = active_below-idle F here k idle in omega arith
          by (no asks) = let e = active_below-active F here k asks in omega arith

      -- one active row more
      counted : {m n : SeriesPair R} → suc (active k) ≡ active (suc k) → Invariant R A B 32 here (suc k) (suc (active k)) m n → Invariant R A B 32 here (suc k) (active (suc k)) m n
      counted {m} {n} e I = subst (λ a. Invariant R A B 32 here (suc k) a m n) e I

      step_means : Means (suc k) (pairs_step p c x (get_or z k 0) s)
      step_means = by (ℕ_discrete d0 0) (ℕ_discrete d1 0) (dec_le s.first.e s.second.e)
        where
          b0 : PairBounded p (k + 1) s.first
          b0 = M.one.bounded

          b1 : PairBounded p (k + 1) s.second
          b1 = M.two.bounded

          risen : {t : Pair} → PairBounded p (k + 1) t → Reads (suc k + 1) (advanced_of p x t) (advanced R (residue p P x) (meaning t))
          risen b = rises k fits x (points_below k) b

          by : Dec (d0 ≡ 0) → Dec (d1 ≡ 0) → Dec (s.first.e ≤ s.second.e) → Means (suc k) (pairs_step p c x (get_or z k 0) s)
          by (yes z0) (yes z1) le =
              subst (Means (suc k)) (step_both p x d0 d1 s z0 z1)
              (reads_means (suc k) (stays k fits M.one) (stays k fits M.two) (keep_both F A B 32 M.invariant (null s.first b0 z0) (null s.second b1 z1) active_grows))
          by (yes z0) (no n1) le =
              subst (Means (suc k)) (step_second p x d0 d1 s _ z0 n1 refl)
              (reads_means (suc k) (stays k fits M.one) (risen b1) (counted (active_if s.second b1 n1) (advance_second F A B 32 M.invariant (omega arith) (null s.first b0 z0))))
          by (no n0) (yes z1) le =
              subst (Means (suc k)) (step_first p x d0 d1 s _ n0 z1 refl)
              (reads_means (suc k) (risen b0) (stays k fits M.two) (counted (active_if s.first b0 n0) (advance_first F A B 32 M.invariant (omega arith) (null s.second b1 z1))))
          by (no n0) (no n1) (yes le) =
              subst (Means (suc k)) (step-clear_second p x d0 d1 s _ _ n0 n1 le refl refl)
              (reads_means (suc k) (risen b0) (combines k fits d0 d1 (small s.second) b1 b0)
              (counted (active_if s.first b0 n0) (combine_second F A B 32 M.invariant (omega arith) _ _ (means s.first b0) (means s.second b1) (nonnull s.first n0) le)))
          by (no n0) (no n1) (no gt) =
              subst (Means (suc k)) (step-clear_first p x d0 d1 s _ _ n0 n1 (omega arith) refl refl)
              (reads_means (suc k) (combines k fits d1 d0 (small s.first) b0 b1) (risen b1)
              (counted (active_if s.second b1 n1) (combine_first F A B 32 M.invariant (omega arith) _ _ (means s.first b0) (means s.second b1) (nonnull s.second n1) (omega arith))))

    -- after each row
    pub pairs_mean : (k : ℕ) → k ≤ 31 → Means k (pairs_after p points weights z A B k)
    unfolding pairs_after
    pairs_mean zero l = start_means
    pairs_mean (suc k) l = step_means k (omega arith) (pairs_after p points weights z A B k) (pairs_mean k (omega arith))

    -- after as many active rows as there are coefficients less one, the smaller pair solves the conditions
    pub solution_means : (k : ℕ) → k ≤ 31 → active_below (residue_field p P) (condition_at points weights z) k ≡ A + B + 1
        → Lists (k + 1) (solution_of p points weights z A B k)
        × Solves (residue_ring p P) A B 32 (condition_at points weights z) k (series p P (solution_of p points weights z A B k).a.c) (series p P (solution_of p points weights z A B k).b.c)
    solution_means k l e = by (dec_le s.first.e s.second.e)
      where
        s : Pairs
        s = pairs_after p points weights z A B k

        M : Means k s
        M = pairs_mean k l

        Good : Pair → Type 0
        Good t = Lists (k + 1) t × Solves R A B 32 here k (series p P t.a.c) (series p P t.b.c)

        by : Dec (s.first.e ≤ s.second.e) → Good (smaller_of s)
        by (yes le) = subst Good (smaller_first {s = s} refl le) (M.one, first_solves R M.invariant e le)
        by (no gt) = subst Good (smaller_second {s = s} refl (omega arith)) (M.two, second_solves R M.invariant e (omega arith))
