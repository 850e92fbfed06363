-- The two pairs of polynomials, row by row, as the code makes them. A row (x, z) of weight c asks for c a(x) = z b(x).
use Rattle.std.specs.Prelude.{◌≡◌, Bool, cond, not, ◌&&◌, List, ℕ, zero, suc, ◌+◌, ◌-◌, ◌*◌, ◌%◌, ◌≤◌, ◌<◌, eqb, leb, get_or}
use Rattle.lists.specs.Counting.{count_below}
use Rattle.poly.specs.Coefficients.{Bounded}
use Rattle.poly.specs.Vectors.{one_poly, zero_poly}
use Rattle.poly.specs.Operations.{value_of, combination_of, times_linear_of}
use Rattle.pairs.specs.declared.Pair.{Pair}

-- the first pair leads in a, the second in b
pub record Pairs : Type 0 where
  pub first : Pair
  pub second : Pair

-- both polynomials have coefficients below p, zero from n on
pub record PairBounded (p n : ℕ) (s : Pair) : Type 0 where
  pub left : Bounded p n s.a.c
  pub right : Bounded p n s.b.c

pub record PairsBounded (p n : ℕ) (s : Pairs) : Type 0 where
  pub one : PairBounded p n s.first
  pub two : PairBounded p n s.second

-- both polynomials are zero from n on
pub record PairShort (n : ℕ) (s : Pair) : Type 0 where
  pub left : (k : ℕ) → n ≤ k → get_or s.a.c k 0 ≡ 0
  pub right : (k : ℕ) → n ≤ k → get_or s.b.c k 0 ≡ 0

-- what the rows and the degree bounds A and B keep to
pub record Conditions (p : ℕ) (points weights z : List ℕ) (rows A B : ℕ) : Type 0 where
  pub few : rows ≤ 31
  pub low_a : A ≤ 31
  pub low-b : B ≤ 31
  pub points_below : (k : ℕ) → get_or points k 0 < p
  pub weights_below : (k : ℕ) → get_or weights k 0 < 2
  pub z_below : (k : ℕ) → get_or z k 0 < p

-- row l asks something: with weight 0 and z 0 it is idle, and every pair meets its condition
abbrev pub active_at : (weights z : List ℕ) → ℕ → Bool
active_at weights z l = not (eqb (get_or weights l 0) 0 && eqb (get_or z l 0) 0)

-- how many of the rows do
abbrev pub active_count : (weights z : List ℕ) → (rows : ℕ) → ℕ
active_count weights z rows = count_below rows (active_at weights z)

-- c a(x) - z b(x)
unfoldable pub discrepancy_of : ℕ → ℕ → ℕ → ℕ → Pair → ℕ
discrepancy_of p c x z s = (c * value_of p x s.a.c + (p - z) * value_of p x s.b.c) % p

-- the pair times (u - x)
unfoldable pub advanced_of : ℕ → ℕ → Pair → Pair
advanced_of p x s = record { a = record { c = times_linear_of p x s.a.c }; b = record { c = times_linear_of p x s.b.c }; e = s.e + 1 }

-- d s - c t
unfoldable pub combined_of : ℕ → ℕ → Pair → ℕ → Pair → Pair
combined_of p d s c t =
    record {
      a = record { c = combination_of p d s.a.c c t.a.c };
      b = record { c = combination_of p d s.b.c c t.b.c };
      e = s.e;
    }

-- one row with the point x, where d0 and d1 are the pairs' discrepancies
unfoldable pub step_by : ℕ → ℕ → ℕ → ℕ → Pairs → Pairs
step_by p x d0 d1 s =
    cond (eqb d0 0)
    (cond (eqb d1 0) s (record { first = s.first; second = advanced_of p x s.second }))
    (cond (eqb d1 0) (record { first = advanced_of p x s.first; second = s.second })
    (cond (leb s.first.e s.second.e)
    (record { first = advanced_of p x s.first; second = combined_of p d0 s.second d1 s.first })
    (record { first = combined_of p d1 s.first d0 s.second; second = advanced_of p x s.second })))

-- one row (x, z) of weight c
abbrev pub pairs_step : ℕ → ℕ → ℕ → ℕ → Pairs → Pairs
pairs_step p c x z s = step_by p x (discrepancy_of p c x z s.first) (discrepancy_of p c x z s.second) s

-- before the first row: (1, 0) and (0, 1), with the numbers B and A
unfoldable pub start_of : ℕ → ℕ → Pairs
start_of A B = record { first = record { a = one_poly; b = zero_poly; e = B }; second = record { a = zero_poly; b = one_poly; e = A } }

-- after k rows with these points, weights and z's
unfoldable pub pairs_after : ℕ → List ℕ → List ℕ → List ℕ → ℕ → ℕ → ℕ → Pairs
pairs_after p points weights z A B zero = start_of A B
pairs_after p points weights z A B (suc k) =
    pairs_step p (get_or weights k 0) (get_or points k 0) (get_or z k 0) (pairs_after p points weights z A B k)

-- the pair with the smaller number, the first of equal ones
unfoldable pub smaller_of : Pairs → Pair
smaller_of s = cond (leb s.first.e s.second.e) s.first s.second

-- what is left of the first k rows
abbrev pub solution_of : ℕ → List ℕ → List ℕ → List ℕ → ℕ → ℕ → ℕ → Pair
solution_of p points weights z A B k = smaller_of (pairs_after p points weights z A B k)
