-- The two pairs of polynomials as arrays hold them, with their discrepancies at all rows.
use Rattle.std.specs.Prelude.{◌≡◌, Bool, true, false, cond, not, List, ◌⊎◌, Option, None, Some, ℕ, ◌+◌, ◌-◌, ◌*◌, ◌/◌, ◌%◌, ◌≤◌, ◌<◌, eqb, leb, get_or, length, max}
use Rattle.field.specs.Primes.{modulus_of}
use Rattle.montgomery.specs.Factors.{montgomery_form, factor_of}
use Rattle.poly.specs.Coefficients.{Bounded, Stored}
use Rattle.poly.specs.Operations.{times_linear_of, combination_at, combination_of}
use Rattle.lanes.specs.Lanes.{groups_of, replaced, combined_lane, difference_lane}
use Rattle.lanes.specs.declared.Modulus.{Modulus}
use Rattle.pairs.specs.declared.Pair.{Pair}
use Rattle.pairs.specs.Pairs.{Pairs, discrepancy_of, advanced_of, combined_of}
use Rattle.pairs.specs.declared.stepping.PairState.{PairState}
use Rattle.pairs.specs.declared.stepping.PairArrays.{PairArrays}
use Rattle.pairs.specs.declared.stepping.RowStep.{RowStep}
use Rattle.pairs.specs.declared.stepping.Leader.{Leader}
use Rattle.pairs.specs.declared.stepping.Leader.TheVariants.{First, Second}

-- an array of 32 coefficients below p, zero from n on
pub record Holds (p n : ℕ) (a : List ℕ) : Type 0 where
  pub bounded : Bounded p n a
  pub size : length a ≡ 32

pub record PairHeld (p n : ℕ) (s : PairArrays) : Type 0 where
  pub left : Holds p n s.a
  pub right : Holds p n s.b

abbrev pub pair_of : PairArrays → Pair
pair_of s = record { a = record { c = s.a }; b = record { c = s.b }; e = s.state.e }

abbrev pub pairs_of : Pair → Pair → Pairs
pairs_of s t = record { first = s; second = t }

-- the prime of a row
abbrev pub prime_at : RowStep → ℕ
prime_at r = modulus_of r.prime

-- a row among its rows, with its point as a factor
pub record Fits (r : RowStep) : Type 0 where
  pub there : r.index < r.rows
  pub few : r.rows ≤ 31
  pub low : r.point < prime_at r
  pub factor : r.x ≡ factor_of r.prime r.point

-- a pair as the arrays hold it, and its discrepancies
pub record Held (r : RowStep) (s : PairArrays) : Type 0 where
  pub pair : PairHeld (prime_at r) s.state.n s
  pub discrepancies : Stored (prime_at r) s.d

-- a pair before the row; its number is a degree bound of at most 31, and 1 for each row at most
pub record Ready (r : RowStep) (s : PairArrays) : Type 0 where
  pub held : Held r s
  pub low : s.state.n ≤ r.index + 1
  pub small : s.state.e < 64

-- how many entries of the discrepancies are written: the group of the row and those behind it
abbrev pub entries_from : RowStep → ℕ
entries_from r = groups_of r.rows - r.index / 8 * 8

-- of a pair that stays, of one that is multiplied by (u - x), and of one that is combined with the other, from n on zero
abbrev pub kept_state : PairState → PairState
kept_state s = record { e = s.e; n = s.n; coefficients = 0; discrepancies = 0 }

abbrev pub advanced_state : RowStep → PairState → PairState
advanced_state r s = record { e = s.e + 1; n = s.n + 1; coefficients = groups_of (s.n + 1); discrepancies = entries_from r }

abbrev pub cleared_state : RowStep → ℕ → PairState → PairState
cleared_state r n s = record { e = s.e; n = n; coefficients = groups_of n; discrepancies = entries_from r }

-- the discrepancies d of a pair that is multiplied by (u - x)
abbrev pub multiplied_by : RowStep → Modulus → (xs d : List ℕ) → List ℕ
multiplied_by r m xs d = replaced (r.index / 8 * 8) (groups_of r.rows) (difference_lane m.p m.inverse xs r.x.form d) d

-- the discrepancies e of a pair that becomes m times itself less c times the pair of d, where m and c are d's and e's at the row
abbrev pub cleared_by : RowStep → Modulus → (d e : List ℕ) → List ℕ
cleared_by r m d e =
    replaced (r.index / 8 * 8) (groups_of r.rows)
    (combined_lane m.p (factor_of r.prime (get_or d r.index 0)) e (factor_of r.prime (get_or e r.index 0)) d) e

-- The pair s times (u - x): at the row and behind it its discrepancies change as its condition does, where the form of the row's point y stands in xs.
pub record Advanced (r : RowStep) (m : Modulus) (xs : List ℕ) (s s' : PairArrays) : Type 0 where
  pub left : s'.a ≡ times_linear_of (prime_at r) r.point s.a
  pub right : s'.b ≡ times_linear_of (prime_at r) r.point s.b
  pub side : s'.state ≡ advanced_state r s.state
  pub exact : s'.d ≡ multiplied_by r m xs s.d
  pub held : Held r s'
  pub each : (l y : ℕ) → r.index ≤ l → l < r.rows → get_or xs l 0 ≡ montgomery_form (prime_at r) y
      → get_or s'.d l 0 ≡ (y + (prime_at r - r.point)) * get_or s.d l 0 % prime_at r

-- s less a multiple of t, so that it has no discrepancy at the row
pub record Cleared (r : RowStep) (m : Modulus) (t s s' : PairArrays) : Type 0 where
  pub left : s'.a ≡ combination_of (prime_at r) (get_or t.d r.index 0) s.a (get_or s.d r.index 0) t.a
  pub right : s'.b ≡ combination_of (prime_at r) (get_or t.d r.index 0) s.b (get_or s.d r.index 0) t.b
  pub side : s'.state ≡ cleared_state r (max t.state.n s.state.n) s.state
  pub exact : s'.d ≡ cleared_by r m t.d s.d
  pub held : Held r s'
  pub each : (l : ℕ) → r.index ≤ l → l < r.rows → get_or s'.d l 0 ≡ combination_at (prime_at r) (get_or t.d r.index 0) s.d (get_or s.d r.index 0) t.d l

-- The pair s stays as it is.
pub record Stays (s s' : PairArrays) : Type 0 where
  pub left : s'.a ≡ s.a
  pub right : s'.b ≡ s.b
  pub side : s'.state ≡ kept_state s.state
  pub exact : s'.d ≡ s.d

-- s has no discrepancy at the row, and stays, or it has one, and is freed of it by t
abbrev pub Freed : (r : RowStep) (m : Modulus) (t s s' : PairArrays) → Type 0
Freed r m t s s' = ((get_or s.d r.index 0 ≡ 0) × Stays s s') ⊎ ((get_or s.d r.index 0 ≡ 0 → ⊥) × Cleared r m t s s')

-- The pair that leads, by the discrepancies m and c of the first and the second and by their numbers: of those that have a discrepancy the one
-- with the smaller number, and the first of equal ones.
abbrev pub Leads : (m c first second : ℕ) → Option Leader → Type 0
Leads m c first second None = (m ≡ 0) × (c ≡ 0)
Leads m c first second (Some First) = (m ≡ 0 → ⊥) × ((c ≡ 0 → ⊥) → leb first second ≡ true)
Leads m c first second (Some Second) = (c ≡ 0 → ⊥) × ((m ≡ 0 → ⊥) → leb first second ≡ false)

-- d holds the discrepancies of the pair s at rows `from` to rows - 1
abbrev pub Kept : (p : ℕ) (points weights z : List ℕ) («from» rows : ℕ) (s : Pair) (d : List ℕ) → Type 0
Kept p points weights z «from» rows s d = (l : ℕ) → «from» ≤ l → l < rows → get_or d l 0 ≡ discrepancy_of p (get_or weights l 0) (get_or points l 0) (get_or z l 0) s

-- The table of docs/METHOD.md for one of the pairs, by its own discrepancy m at the row and that of the other pair, c, and by whether it leads: it stays,
-- is multiplied by (u - x), or is combined with the other
unfoldable pub line_of : {A : Type 0} → (m c : ℕ) (leads : Bool) (stays multiplied combined : A) → A
line_of m c leads stays multiplied combined = cond (eqb m 0) stays (cond (eqb c 0) multiplied (cond leads multiplied combined))

-- One of the pairs, s, beside the other, t, and by whether it leads where both have a discrepancy:
-- The line of docs/METHOD.md for it; its number, its length and the entries written, and every entry of its discrepancies; and at the row and behind it
-- the discrepancies are still those of the pair.
pub record Lined (r : RowStep) (m : Modulus) (xs : List ℕ) (leads : Bool) (s t s' : PairArrays) : Type 0 where
  pub pair : pair_of s'
      ≡ line_of (get_or s.d r.index 0) (get_or t.d r.index 0) leads (pair_of s) (advanced_of (prime_at r) r.point (pair_of s))
      (combined_of (prime_at r) (get_or t.d r.index 0) (pair_of s) (get_or s.d r.index 0) (pair_of t))
  pub side : s'.state
      ≡ line_of (get_or s.d r.index 0) (get_or t.d r.index 0) leads (kept_state s.state) (advanced_state r s.state) (cleared_state r (max t.state.n s.state.n) s.state)
  pub exact : s'.d ≡ line_of (get_or s.d r.index 0) (get_or t.d r.index 0) leads s.d (multiplied_by r m xs s.d) (cleared_by r m t.d s.d)
  pub held : Held r s'
  pub low : s'.state.n ≤ r.index + 1 + 1
  pub followed : (l y c z : ℕ) → r.index ≤ l → l < r.rows → get_or xs l 0 ≡ montgomery_form (prime_at r) y
      → get_or s.d l 0 ≡ discrepancy_of (prime_at r) c y z (pair_of s) → get_or t.d l 0 ≡ discrepancy_of (prime_at r) c y z (pair_of t)
      → get_or s'.d l 0 ≡ discrepancy_of (prime_at r) c y z (pair_of s')

-- whether the first pair leads where both have a discrepancy
abbrev pub first_leads : (s t : PairArrays) → Bool
first_leads s t = leb s.state.e t.state.e

-- one row
pub record Stepped (r : RowStep) (m : Modulus) (xs : List ℕ) (s t s' t' : PairArrays) : Type 0 where
  pub first : Lined r m xs (first_leads s t) s t s'
  pub second : Lined r m xs (not (first_leads s t)) t s t'
