-- What the operations on pairs do to a discrepancy, at any row (y, z) of weight c.
use mathlib.Core.Path.{◌≡◌, sym, ap, ap₂, ◌∙◌}
use Prim.Native.Nat.{ℕ, ◌+◌, ◌-◌, ◌*◌, ◌%◌, ◌<◌}
use native.Mathlib.Nat.{mod-add-mod, mod-eq_of_lt}
use native.Mathlib.Omega.{arith}
use lib.ListN.{replicate}
use Rattle.field.proofs.Remainders.{mul-mod}
use Rattle.poly.specs.Vectors.{one_poly, zero_poly}
use Rattle.poly.specs.Operations.{value_of}
use Rattle.poly.proofs.Linear.{linear-step, factor_step, value_combination, value-times_linear}
use Rattle.lists.proofs.Tabulated.{at_zeros}
use Rattle.poly.proofs.Values.{value_zeros}
use Rattle.pairs.specs.declared.Pair.{Pair}
use Rattle.pairs.specs.Pairs.{PairShort, discrepancy_of, advanced_of, combined_of, start_of}

-- the values of the polynomials that the pairs start from
value-zero : (p y : ℕ) → value_of p y zero_poly.c ≡ 0
value-zero p y = value_zeros p y zero_poly.c (at_zeros 32)

value_one : (p y : ℕ) → 1 < p → value_of p y one_poly.c ≡ 1
unfolding value_of
value_one p y h =
    let sum : 1 + y * value_of p y (replicate 31 0) ≡ 1 = rw (value_zeros p y (replicate 31 0) (at_zeros 31)) (omega arith) in
    ap (λ n. n % p) sum ∙ mod-eq_of_lt h

-- a reduced number times c
weighted : (p c a b rest : ℕ) → c * a ≡ b → (c * (a % p) + rest) % p ≡ (b % p + rest) % p
weighted p c a b rest e =
    sym (mod-add-mod (c * (a % p)) p rest) ∙ ap (λ v. (v + rest) % p) (mul-mod c a p ∙ ap (λ v. v % p) e)

module _ (p c y z : ℕ) where
  by_values : (s : Pair) {v w : ℕ} → value_of p y s.a.c ≡ v → value_of p y s.b.c ≡ w
      → discrepancy_of p c y z s ≡ (c * v + (p - z) * w) % p
  unfolding discrepancy_of
  by_values s ev ew = ap₂ (λ v w. (c * v + (p - z) * w) % p) ev ew

  -- the pair times (u - x)
  pub discrepancy-advanced : (x : ℕ) (s : Pair) → PairShort 31 s
      → discrepancy_of p c y z (advanced_of p x s) ≡ (y + (p - x)) * discrepancy_of p c y z s % p
  unfolding discrepancy_of advanced_of
  discrepancy-advanced x s h =
      by_values (advanced_of p x s) (value-times_linear p y x s.a.c h.left) (value-times_linear p y x s.b.c h.right)
      ∙ weighted p c _ _ _ (omega arith)
      ∙ factor_step p (p - z) (y + (p - x)) (c * value_of p y s.a.c) (value_of p y s.b.c)

  -- d s - m t
  pub discrepancy-combined : (d m : ℕ) (s t : Pair) → PairShort 32 s → PairShort 32 t
      → discrepancy_of p c y z (combined_of p d s m t) ≡ (d * discrepancy_of p c y z s + (p - m) * discrepancy_of p c y z t) % p
  unfolding discrepancy_of combined_of
  discrepancy-combined d m s t hs ht =
      by_values (combined_of p d s m t)
      (value_combination p y d m s.a.c t.a.c hs.left ht.left)
      (value_combination p y d m s.b.c t.b.c hs.right ht.right)
      ∙ weighted p c _ _ _ (omega arith)
      ∙ linear-step p (p - z) d (p - m) (c * value_of p y s.a.c) (c * value_of p y t.a.c) (value_of p y s.b.c) (value_of p y t.b.c)

  -- the pairs (1, 0) and (0, 1) at the start
  pub discrepancy_first : (A B : ℕ) → 1 < p → c < p → discrepancy_of p c y z (start_of A B).first ≡ c
  unfolding start_of
  discrepancy_first A B h l =
      by_values (start_of A B).first (value_one p y h) (value-zero p y) ∙ ap (λ n. n % p) (omega arith) ∙ mod-eq_of_lt l

  pub discrepancy_second : (A B : ℕ) → 1 < p → discrepancy_of p c y z (start_of A B).second ≡ (p - z) % p
  unfolding start_of
  discrepancy_second A B h = by_values (start_of A B).second (value-zero p y) (value_one p y h) ∙ ap (λ n. n % p) (omega arith)
