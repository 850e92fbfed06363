-- The pairs that arrays hold after a step, and that the discrepancies follow them.
use lib.ListN.{get_or}
use mathlib.Core.Path.{◌≡◌, refl, sym, ap, ap₂, ◌∙◌}
use mathlib.Core.Bool.{Bool, true, false, not, cond}
use mathlib.Core.List.{List}
use Prim.Native.Nat.{ℕ, ◌+◌, ◌-◌, ◌*◌, ◌%◌, ◌≤◌, ◌<◌}
use native.Mathlib.Omega.{arith}
use lib.Dec.{eqb}
use Rattle.montgomery.specs.Factors.{montgomery_form}
use Rattle.poly.specs.Operations.{combination_at}
use Rattle.poly.specs.Vectors.{one_poly, zero_poly}
use Rattle.poly.proofs.Lists.{bounded_zeros}
use Rattle.pairs.specs.declared.Pair.{Pair}
use Rattle.pairs.specs.Pairs.{Pairs, PairShort, discrepancy_of, advanced_of, combined_of, step_by, start_of}
use Rattle.pairs.proofs.PairLaws.{bounded_one, Reached, reached_step}
use Rattle.pairs.proofs.Discrepancies.{discrepancy-advanced, discrepancy-combined, discrepancy_first, discrepancy_second}
use Rattle.pairs.proofs.Arrays.{held_mono, bounded_held}
use Rattle.pairs.specs.declared.stepping.RowStep.{RowStep}
use Rattle.pairs.specs.declared.stepping.PairArrays.{PairArrays}
use Rattle.lanes.specs.declared.Modulus.{Modulus}
use Rattle.pairs.specs.Held.{Holds, PairHeld, prime_at, Advanced, Cleared, Kept, line_of, first_leads, Stepped, pair_of, pairs_of}

pub advanced_is : {r : RowStep} {m : Modulus} {xs : List ℕ} {s s' : PairArrays} → Advanced r m xs s s' → pair_of s' ≡ advanced_of (prime_at r) r.point (pair_of s)
unfolding advanced_of
advanced_is h = rw (h.left, h.right, h.side)

pub combined_is : {r : RowStep} {m : Modulus} {t s s' : PairArrays} → Cleared r m t s s'
    → pair_of s' ≡ combined_of (prime_at r) (get_or t.d r.index 0) (pair_of s) (get_or s.d r.index 0) (pair_of t)
unfolding combined_of
combined_is h = rw (h.left, h.right, h.side)

held-short : {p n : ℕ} {s : PairArrays} (m : ℕ) → n ≤ m → PairHeld p n s → PairShort m (pair_of s)
held-short m l h = record { left = λ k g. h.left.bounded.within k (omega arith); right = λ k g. h.right.bounded.within k (omega arith) }

-- the pair times (u - x)
pub follow_advanced : {r : RowStep} {m : Modulus} {xs : List ℕ} {s s' : PairArrays} → Advanced r m xs s s' → s.state.n ≤ 31 → PairHeld (prime_at r) s.state.n s
    → (l y c z : ℕ) → r.index ≤ l → l < r.rows → get_or xs l 0 ≡ montgomery_form (prime_at r) y
    → get_or s.d l 0 ≡ discrepancy_of (prime_at r) c y z (pair_of s) → get_or s'.d l 0 ≡ discrepancy_of (prime_at r) c y z (pair_of s')
follow_advanced {r} {s = s} h short held l y c z i g form ed =
    h.each l y i g form
    ∙ ap (λ v. (y + (prime_at r - r.point)) * v % prime_at r) ed
    ∙ sym
    (ap (discrepancy_of (prime_at r) c y z) (advanced_is h)
    ∙ discrepancy-advanced (prime_at r) c y z r.point (pair_of s) (held-short 31 short held))

-- the pair less a multiple of the other
pub follow_cleared : {r : RowStep} {m : Modulus} {t s s' : PairArrays} {n : ℕ} → Cleared r m t s s' → n ≤ 31 → PairHeld (prime_at r) n t → PairHeld (prime_at r) n s
    → (l y c z : ℕ) → r.index ≤ l → l < r.rows
    → get_or t.d l 0 ≡ discrepancy_of (prime_at r) c y z (pair_of t) → get_or s.d l 0 ≡ discrepancy_of (prime_at r) c y z (pair_of s)
    → get_or s'.d l 0 ≡ discrepancy_of (prime_at r) c y z (pair_of s')
unfolding combination_at
follow_cleared {r} {t = t} {s = s} h short held other l y c z i k ed ee =
    let m = get_or t.d r.index 0 in
    let n = get_or s.d r.index 0 in
    h.each l i k
    ∙ ap₂ (λ v w. (m * v + (prime_at r - n) * w) % prime_at r) ee ed
    ∙ sym
    (ap (discrepancy_of (prime_at r) c y z) (combined_is h)
    ∙ discrepancy-combined (prime_at r) c y z m n (pair_of s) (pair_of t) (held-short 32 (omega arith) other) (held-short 32 (omega arith) held))

-- the arrays before the first row
pub start_is : (s t : PairArrays) → s.a ≡ one_poly.c → s.b ≡ zero_poly.c → t.a ≡ zero_poly.c → t.b ≡ one_poly.c
    → pairs_of (pair_of s) (pair_of t) ≡ start_of t.state.e s.state.e
unfolding start_of
start_is s t e0 f0 e1 f1 = rw (e0, f0, e1, f1)

pub one_held : {p : ℕ} → 1 < p → Holds p 1 one_poly.c
one_held {p} l = record { bounded = bounded_one p l; size = refl }

pub zero_held : {p : ℕ} → 1 < p → Holds p 1 zero_poly.c
zero_held {p} l = record { bounded = bounded_zeros p 1 32 (omega arith); size = refl }

-- the discrepancies of (1, 0) are the weights, and those of (0, 1) are - z
pub start-kept : {p : ℕ} (points weights z d e : List ℕ) (rows A B : ℕ) {s : Pairs} → 1 < p → ((k : ℕ) → get_or weights k 0 < 2) → s ≡ start_of A B
    → ((k : ℕ) → k < rows → get_or d k 0 ≡ get_or weights k 0) → ((k : ℕ) → k < rows → get_or e k 0 ≡ (0 + (p - get_or z k 0)) % p)
    → Kept p points weights z 0 rows s.first d × Kept p points weights z 0 rows s.second e
start-kept {p} points weights z d e rows A B {s} l low es ed ee = (
  λ k i h. ed k h ∙ sym
      (ap (λ (t : Pairs). discrepancy_of p (get_or weights k 0) (get_or points k 0) (get_or z k 0) t.first) es
      ∙ discrepancy_first p _ _ _ A B l (omega (arith, low k))),
  λ k i h. ee k h ∙ ap (λ n. n % p) (omega arith) ∙ sym
      (ap (λ (t : Pairs). discrepancy_of p (get_or weights k 0) (get_or points k 0) (get_or z k 0) t.second) es ∙ discrepancy_second p _ _ _ A B l),
)

-- both lines together are a step
lines_step : (t0 t1 t : Bool) (s0 m0 c0 s1 m1 c1 : Pair)
    → pairs_of (cond t0 s0 (cond t1 m0 (cond t m0 c0))) (cond t1 s1 (cond t0 m1 (cond (not t) m1 c1)))
    ≡ cond t0 (cond t1 (pairs_of s0 s1) (pairs_of s0 m1)) (cond t1 (pairs_of m0 s1) (cond t (pairs_of m0 c1) (pairs_of c0 m1)))
lines_step true true t s0 m0 c0 s1 m1 c1 = refl
lines_step true false t s0 m0 c0 s1 m1 c1 = refl
lines_step false true t s0 m0 c0 s1 m1 c1 = refl
lines_step false false true s0 m0 c0 s1 m1 c1 = refl
lines_step false false false s0 m0 c0 s1 m1 c1 = refl

-- from one row to the next
module _ {r : RowStep} {m : Modulus} {xs : List ℕ} {s t s' t' : PairArrays} (h : Stepped r m xs s t s' t') where
  pub stepped_pairs : pairs_of (pair_of s') (pair_of t') ≡ step_by (prime_at r) r.point (get_or s.d r.index 0) (get_or t.d r.index 0) (pairs_of (pair_of s) (pair_of t))
  unfolding line_of step_by
  stepped_pairs =
      ap₂ pairs_of h.first.pair h.second.pair
      ∙ lines_step (eqb (get_or s.d r.index 0) 0) (eqb (get_or t.d r.index 0) 0) (first_leads s t) _ _ _ _ _ _

  pub kept_step : (points weights z : List ℕ) → ((l : ℕ) → l < r.rows → get_or xs l 0 ≡ montgomery_form (prime_at r) (get_or points l 0))
      → Kept (prime_at r) points weights z r.index r.rows (pair_of s) s.d → Kept (prime_at r) points weights z r.index r.rows (pair_of t) t.d
      → Kept (prime_at r) points weights z (r.index + 1) r.rows (pair_of s') s'.d × Kept (prime_at r) points weights z (r.index + 1) r.rows (pair_of t') t'.d
  kept_step points weights z form first second = (
    λ l i g. h.first.followed l _ _ _ (omega arith) g (form l g) (first l (omega arith) g) (second l (omega arith) g),
    λ l i g. h.second.followed l _ _ _ (omega arith) g (form l g) (second l (omega arith) g) (first l (omega arith) g),
  )

  -- what the loop over the rows keeps
  pub reached_more : {points weights z : List ℕ} {A B : ℕ} → Reached (prime_at r) points weights z A B r.index (r.index + 1) (pairs_of (pair_of s) (pair_of t))
      → r.point ≡ get_or points r.index 0 → r.index < r.rows
      → Kept (prime_at r) points weights z r.index r.rows (pair_of s) s.d → Kept (prime_at r) points weights z r.index r.rows (pair_of t) t.d
      → Reached (prime_at r) points weights z A B (r.index + 1) (r.index + 1 + 1) (pairs_of (pair_of s') (pair_of t'))
  reached_more reached point there first second =
      reached_step reached _ _
      (stepped_pairs ∙ rw (point, first r.index (omega arith) there, second r.index (omega arith) there))
      (omega arith)
      (record {
        one = bounded_held (held_mono h.first.held.pair h.first.low);
        two = bounded_held (held_mono h.second.held.pair h.second.low);
      })
