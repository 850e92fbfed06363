-- The problem of paper 01 over any field: rows, when a row is right or wrong, what an answer is, and when rows are enough.
-- Values are taken with N coefficients, so that "right" does not depend on the bounds of a problem.
use mathlib.Core.Path.{◌≡◌, sym, ◌∙◌, ap}
use Prim.Native.Nat.{ℕ, suc, ◌+◌, ◌*◌, ◌-◌, ◌≤◌, ◌<◌}
use native.Mathlib.Omega.{arith}
use Rattle.algebra.proofs.Counting.{dec_all, dec_and, failures, failures_zero, failures_holds, failures_fails, failures_not, failures_le}
use Rattle.algebra.proofs.Ring.{Ring}
use Rattle.algebra.proofs.Series.{Series}
use Rattle.algebra.proofs.Value.{value}
use Rattle.algebra.proofs.Field.{Field}
use Rattle.algebra.proofs.Roots.{Distinct}
use Rattle.method.proofs.Vectors.{ReducedVector, SameVector}

-- a row: a point, a weight c and a number y_i for each output, where c f_i(x) = g(x) y_i is asked. A row of paper 01 that reports values has
-- the weight 1 and its values; one that reports a pole has 0, and 1 for each output; a silent one has 0 throughout
pub record Evaluation (R : Ring) : Type 0 where
  pub point : R.Carrier
  pub weight : R.Carrier
  pub values : ℕ → R.Carrier

-- a job of paper 01: n outputs with a degree bound for each, the bound of the denominator, the number of wrong rows allowed, L rows
pub record Problem (R : Ring) : Type 0 where
  pub outputs : ℕ
  pub bound : ℕ → ℕ
  pub denominator_bound : ℕ
  pub errors : ℕ
  pub count : ℕ
  pub row : ℕ → Evaluation R

-- N coefficients are enough for n numerators with these degree bounds and for a denominator of degree at most dg
pub record Fits (N n : ℕ) (bound : ℕ → ℕ) (dg : ℕ) : Type 0 where
  pub numerators : (i : ℕ) → i < n → bound i < N
  pub denominator : dg < N

module _ (F : Field) where
  open F use {ring as R, dec, one≢null}
  open R use {mul as ◌⊗◌, null}

  infixl 70 ◌⊗◌
  module _ (n : ℕ) where
    -- a silent row asks nothing of any output; the others speak
    abbrev pub Silent : Evaluation R → Type 0
    Silent r = (r.weight ≡ null) × ((i : ℕ) → i < n → r.values i ≡ null)

    -- it is decided whether a row is silent
    pub dec_silent : (r : Evaluation R) → Dec (Silent r)
    dec_silent r = dec_and (dec _ _) (dec_all n (λ i. r.values i ≡ null) (λ i l. dec _ _))

    -- how many of the first L rows speak
    abbrev pub speaking_below : (ℕ → Evaluation R) → ℕ → ℕ
    speaking_below row L = failures (λ l. dec_silent (row l)) L

    -- no row, a silent row more, a row more that speaks
    pub speaking_below-zero : (row : ℕ → Evaluation R) → speaking_below row 0 ≡ 0
    speaking_below-zero row = failures_zero (λ l. dec_silent (row l))

    pub speaking_below-silent : (row : ℕ → Evaluation R) (l : ℕ) → Silent (row l) → speaking_below row (suc l) ≡ speaking_below row l
    speaking_below-silent row l silent = failures_holds (λ l. dec_silent (row l)) l silent

    pub speaking_below-speaks : (row : ℕ → Evaluation R) (l : ℕ) → (Silent (row l) → ⊥) → speaking_below row (suc l) ≡ suc (speaking_below row l)
    speaking_below-speaks row l speaks = failures_fails (λ l. dec_silent (row l)) l speaks

    pub speaking-le : (row : ℕ → Evaluation R) (L : ℕ) → speaking_below row L ≤ L
    speaking-le row L = let e = failures_not (λ l. dec_silent (row l)) L in omega arith

    -- each of the first L rows that asks nothing of one output is silent
    abbrev pub Clear : (ℕ → Evaluation R) → ℕ → Type 0
    Clear row L = (l : ℕ) → l < L → (i : ℕ) → i < n → (row l).weight ≡ null → (row l).values i ≡ null → Silent (row l)

  module _ (N n : ℕ) where
    -- a right row of paper 01: c f_i(x) = g(x) y_i for every output i; the others are wrong
    abbrev pub Right : (ℕ → Series R) → Series R → Evaluation R → Type 0
    Right f g r = (i : ℕ) → i < n → r.weight ⊗ value R N (f i) r.point ≡ value R N g r.point ⊗ r.values i

    -- it is decided whether a row is right
    pub dec_right : (f : ℕ → Series R) (g : Series R) (r : Evaluation R) → Dec (Right f g r)
    dec_right f g r = dec_all n (λ i. r.weight ⊗ value R N (f i) r.point ≡ value R N g r.point ⊗ r.values i) (λ i l. dec _ _)

    -- how many of the first L rows are wrong
    abbrev pub wrong_count : (ℕ → Series R) → Series R → (ℕ → Evaluation R) → ℕ → ℕ
    wrong_count f g row L = failures (λ l. dec_right f g (row l)) L

    -- no row, a right row more, a wrong row more
    pub wrong_count-zero : (f : ℕ → Series R) (g : Series R) (row : ℕ → Evaluation R) → wrong_count f g row 0 ≡ 0
    wrong_count-zero f g row = failures_zero (λ l. dec_right f g (row l))

    pub wrong_count-right : (f : ℕ → Series R) (g : Series R) (row : ℕ → Evaluation R) (l : ℕ)
        → Right f g (row l) → wrong_count f g row (suc l) ≡ wrong_count f g row l
    wrong_count-right f g row l ok = failures_holds (λ l. dec_right f g (row l)) l ok

    pub wrong_count_wrong : (f : ℕ → Series R) (g : Series R) (row : ℕ → Evaluation R) (l : ℕ)
        → (Right f g (row l) → ⊥) → wrong_count f g row (suc l) ≡ suc (wrong_count f g row l)
    wrong_count_wrong f g row l bad = failures_fails (λ l. dec_right f g (row l)) l bad

    -- the same vector has no more wrong rows
    pub wrong_count_respects : {f f' : ℕ → Series R} {g g' : Series R} → SameVector F n f g f' g'
        → (row : ℕ → Evaluation R) (L : ℕ) → wrong_count f' g' row L ≤ wrong_count f g row L
    wrong_count_respects same row L =
        failures_le _ _ L (λ l h ok i li.
        ap (λ t. (row l).weight ⊗ value R N t (row l).point) (sym (same.1 i li)) ∙ ok i li ∙ ap (λ t. value R N t (row l).point ⊗ (row l).values i) same.0)

  -- an answer of paper 01: a reduced vector within the bounds for which few rows are wrong
  pub record Answer (N : ℕ) (T : Problem R) (f : ℕ → Series R) (g : Series R) : Type 0 where
    pub vector : ReducedVector F T.outputs T.bound T.denominator_bound f g
    pub few_wrong : wrong_count N T.outputs f g T.row T.count ≤ T.errors

  -- there is no answer
  abbrev pub None : ℕ → Problem R → Type 0
  None N T = (f : ℕ → Series R) (g : Series R) → Answer N T f g → ⊥

  -- the points of the rows
  abbrev pub points : Problem R → ℕ → R.Carrier
  points T l = (T.row l).point

  -- the rows that speak
  abbrev pub speaking_count : Problem R → ℕ
  speaking_count T = speaking_below T.outputs T.row T.count

  -- the degree A of the polynomial phi that is found for an output (docs/METHOD.md, All outputs)
  abbrev pub phi_degree : Problem R → ℕ
  phi_degree T = speaking_count T - 1 - (T.denominator_bound + T.errors)

  -- distinct points, rows that are silent or ask something of every output, and enough of them that speak for every output,
  -- S ≥ df + dg + 2 E + 1; where there is an output, `room` follows from `enough`
  pub record Ample (T : Problem R) : Type 0 where
    pub distinct : Distinct F (points T) T.count
    pub clear : Clear T.outputs T.row T.count
    pub room : T.denominator_bound + T.errors < speaking_count T
    pub enough : (i : ℕ) → i < T.outputs → T.bound i + T.denominator_bound + 2 * T.errors < speaking_count T

  -- more coefficients than rows are enough for the bounds
  pub ample_fits : (N : ℕ) (T : Problem R) → Ample T → T.count < N → Fits N T.outputs T.bound T.denominator_bound
  ample_fits N T H l =
      let s = speaking-le T.outputs T.row T.count in
      record { numerators = λ i h. (let e = H.enough i h in omega arith); denominator = (let e = H.room in omega arith) }
