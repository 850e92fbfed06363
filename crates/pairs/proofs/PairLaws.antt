-- Laws of the pairs that the proofs of the loop share.
use mathlib.Core.Path.{◌≡◌, sym, ap, ap₂, subst, ◌∙◌}
use mathlib.Core.Bool.{Bool, true, false, cond}
use mathlib.Core.List.{List}
use Prim.Native.Nat.{ℕ, zero, suc, ◌+◌, ◌≤◌, ◌<◌}
use native.Mathlib.Numerals.{add-one}
use native.Mathlib.Omega.{arith}
use lib.Dec.{eqb, leb}
use lib.ListN.{get_or}
use borrow.Author.Tests.{eq-eqb, ne_eqb, le-leb, lt-leb}
use Rattle.poly.specs.declared.Poly.{Poly}
use Rattle.poly.specs.Coefficients.{Bounded}
use Rattle.poly.specs.Vectors.{one_poly, zero_poly}
use Rattle.lists.proofs.Tabulated.{at_zeros}
use Rattle.poly.proofs.Lists.{bounded_mono, bounded_zeros}
use Rattle.pairs.specs.declared.Pair.{Pair}
use Rattle.pairs.specs.Pairs.{Pairs, PairBounded, PairsBounded, advanced_of, combined_of, step_by, start_of, pairs_step, pairs_after, discrepancy_of, smaller_of}

-- a pair by its two coefficient lists
pub pair_is : (a b : Poly) (e : ℕ) {la lb : List ℕ} → a.c ≡ la → b.c ≡ lb
    → ◌≡◌ {A = Pair} (record { a = a; b = b; e = e }) (record { a = record { c = la }; b = record { c = lb }; e = e })
pair_is a b e ea eb = ap₂ (λ (x y : List ℕ). record { a = record { c = x }; b = record { c = y }; e = e }) ea eb

pub pair_mono : {p n m : ℕ} {s : Pair} → PairBounded p n s → n ≤ m → PairBounded p m s
pair_mono h l = record { left = bounded_mono h.left l; right = bounded_mono h.right l }

-- the numbers rise by at most 1
choose_most : {A : Type 0} (size : A → ℕ) (t : Bool) (a b : A) (n : ℕ) → size a ≤ n → size b ≤ n → size (cond t a b) ≤ n
choose_most size true a b n ha hb = ha
choose_most size false a b n ha hb = hb

abbrev first_number : Pairs → ℕ
first_number t = t.first.e

abbrev second_number : Pairs → ℕ
second_number t = t.second.e

module _ (p x d0 d1 : ℕ) (s : Pairs) where
  -- one bound on the four results of a step
  step_most : (size : Pairs → ℕ) (n : ℕ) → size s ≤ n
      → size (record { first = s.first; second = advanced_of p x s.second }) ≤ n
      → size (record { first = advanced_of p x s.first; second = s.second }) ≤ n
      → size (record { first = advanced_of p x s.first; second = combined_of p d0 s.second d1 s.first }) ≤ n
      → size (record { first = combined_of p d1 s.first d0 s.second; second = advanced_of p x s.second }) ≤ n
      → size (step_by p x d0 d1 s) ≤ n
  unfolding step_by
  step_most size n both second first low high =
      choose_most size (eqb d0 0) _ _ _ (choose_most size (eqb d1 0) _ _ _ both second)
      (choose_most size (eqb d1 0) _ _ _ first (choose_most size (leb s.first.e s.second.e) _ _ _ low high))

  pub first_rises : (step_by p x d0 d1 s).first.e ≤ s.first.e + 1
  unfolding advanced_of combined_of
  first_rises = step_most first_number _ (omega arith) (omega arith) (omega arith) (omega arith) (omega arith)

  pub second_rises : (step_by p x d0 d1 s).second.e ≤ s.second.e + 1
  unfolding advanced_of combined_of
  second_rises = step_most second_number _ (omega arith) (omega arith) (omega arith) (omega arith) (omega arith)

  -- the lines of the table in docs/METHOD.md, section 1, as the code makes them
  pub step_both : d0 ≡ 0 → d1 ≡ 0 → s ≡ step_by p x d0 d1 s
  unfolding step_by
  step_both z0 z1 = simp (eq-eqb _ _ z0, eq-eqb _ _ z1)

  pub step_second : (t : Pair) → d0 ≡ 0 → (d1 ≡ 0 → ⊥) → t ≡ advanced_of p x s.second
      → ◌≡◌ {A = Pairs} (record { first = s.first; second = t }) (step_by p x d0 d1 s)
  unfolding step_by
  step_second t z0 n1 e = simp (eq-eqb _ _ z0, ne_eqb _ _ n1, e)

  pub step_first : (t : Pair) → (d0 ≡ 0 → ⊥) → d1 ≡ 0 → t ≡ advanced_of p x s.first
      → ◌≡◌ {A = Pairs} (record { first = t; second = s.second }) (step_by p x d0 d1 s)
  unfolding step_by
  step_first t n0 z1 e = simp (ne_eqb _ _ n0, eq-eqb _ _ z1, e)

  pub step-clear_second : (t w : Pair) → (d0 ≡ 0 → ⊥) → (d1 ≡ 0 → ⊥) → s.first.e ≤ s.second.e
      → t ≡ advanced_of p x s.first → w ≡ combined_of p d0 s.second d1 s.first
      → ◌≡◌ {A = Pairs} (record { first = t; second = w }) (step_by p x d0 d1 s)
  unfolding step_by
  step-clear_second t w n0 n1 l et ew = simp (ne_eqb _ _ n0, ne_eqb _ _ n1, le-leb _ _ l, et, ew)

  pub step-clear_first : (t w : Pair) → (d0 ≡ 0 → ⊥) → (d1 ≡ 0 → ⊥) → s.second.e < s.first.e
      → t ≡ advanced_of p x s.second → w ≡ combined_of p d1 s.first d0 s.second
      → ◌≡◌ {A = Pairs} (record { first = w; second = t }) (step_by p x d0 d1 s)
  unfolding step_by
  step-clear_first t w n0 n1 l et ew = simp (ne_eqb _ _ n0, ne_eqb _ _ n1, lt-leb _ _ l, et, ew)

-- the pair with the smaller number, where both are known
module _ {s t : Pairs} (same : s ≡ t) where
  pub smaller_first : s.first.e ≤ s.second.e → s.first ≡ smaller_of t
  unfolding smaller_of
  smaller_first l = sym (simp (sym same, le-leb _ _ l))

  pub smaller_second : s.second.e < s.first.e → s.second ≡ smaller_of t
  unfolding smaller_of
  smaller_second l = sym (simp (sym same, lt-leb _ _ l))

pub bounded_one : (p : ℕ) → 1 < p → Bounded p 1 one_poly.c
bounded_one p l = record { residues = low; within = past }
  where
    low : (k : ℕ) → get_or one_poly.c k 0 < p
    low zero = l
    low (suc k) = let z = at_zeros 31 k in omega arith

    past : (k : ℕ) → 1 ≤ k → get_or one_poly.c k 0 ≡ 0
    past zero h = absurd (omega arith)
    past (suc k) h = at_zeros 31 k

-- what the loop over the rows keeps
pub record Reached (p : ℕ) (points weights z : List ℕ) (A B k n : ℕ) (s : Pairs) : Type 0 where
  pub same : s ≡ pairs_after p points weights z A B k
  pub low : n ≤ k + 1
  pub bounded : PairsBounded p n s
  pub first_low : s.first.e ≤ B + k
  pub second_low : s.second.e ≤ A + k

pub reached_start : (p : ℕ) (points weights z : List ℕ) (A B : ℕ) (s : Pairs) → 1 < p → s ≡ start_of A B → Reached p points weights z A B 0 1 s
unfolding start_of pairs_after
reached_start p points weights z A B s l e =
    let null : Bounded p 1 zero_poly.c = bounded_zeros p 1 32 (omega arith) in
    let start : PairsBounded p 1 (start_of A B) = record {
      one = record { left = bounded_one p l; right = null };
      two = record { left = null; right = bounded_one p l };
    } in
    record {
      same = e;
      low = omega arith;
      bounded = subst (PairsBounded p 1) (sym e) start;
      first_low = omega (arith, ap first_number e);
      second_low = omega (arith, ap second_number e);
    }

pub reached_step : {p : ℕ} {points weights z : List ℕ} {A B k n : ℕ} {s : Pairs} → Reached p points weights z A B k n s → (r : Pairs) (m : ℕ)
    → r ≡ pairs_step p (get_or weights k 0) (get_or points k 0) (get_or z k 0) s → m ≤ k + 1 + 1 → PairsBounded p m r
    → Reached p points weights z A B (k + 1) m r
unfolding pairs_after
reached_step {p} {points} {weights} {z} {A} {B} {k} {n} {s} h r m e l b = record {
  same = e ∙ ap (pairs_step p (get_or weights k 0) (get_or points k 0) (get_or z k 0)) h.same ∙ ap (pairs_after p points weights z A B) (sym (add-one k));
  low = l;
  bounded = b;
  first_low = omega (arith, ap first_number e, first_rises p x d0 d1 s, h.first_low);
  second_low = omega (arith, ap second_number e, second_rises p x d0 d1 s, h.second_low);
}
  where
    x : ℕ
    x = get_or points k 0

    d0 : ℕ
    d0 = discrepancy_of p (get_or weights k 0) x (get_or z k 0) s.first

    d1 : ℕ
    d1 = discrepancy_of p (get_or weights k 0) x (get_or z k 0) s.second
