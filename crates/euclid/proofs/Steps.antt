-- The steps of long division: what they change, and the bounds of remainder and quotient.
use mathlib.Core.Path.{◌≡◌, refl, sym, ap, ap₂, ◌∙◌}
use mathlib.Core.List.{List}
use Prim.Native.Nat.{ℕ, zero, suc, ◌+◌, ◌-◌, ◌*◌, ◌%◌, ◌≤◌, ◌<◌}
use native.Mathlib.Nat.{mod-lt}
use native.Mathlib.Decide.{ℕ_discrete}
use native.Mathlib.Omega.{arith}
use lib.ListN.{get_or, length, set, replicate, length-set, length-replicate}
use lib.Seq.{get_or-set_same, get_or-set_other, set-get_or}
use Rattle.poly.specs.Coefficients.{Bounded}
use Rattle.poly.specs.Operations.{length_of}
use Rattle.lists.proofs.Tabulated.{at_zeros}
use Rattle.poly.proofs.Lists.{bounded_mono, bounded_zeros}
use Rattle.poly.proofs.Lengths.{length_at_most, bounded_length}
use Rattle.std.specs.Prelude.{Some}
use Rattle.euclid.specs.Division.{cancel_factor, division_step, remainder_from, quotient_from, degree_of, leading_reciprocal, remainder_by, quotient_by, remainder_of, quotient_of}
use Rattle.euclid.proofs.Cancellation.{length-step, bounded_step, factor_none, step_none}
use Rattle.euclid.proofs.Leading.{Divisor, degree_is, leading_number, leading_inverts}

bounded_set : {p n : ℕ} {c : List ℕ} → Bounded p n c → length c ≡ 32 → (j k : ℕ) → j < n → j < 32 → k < p → Bounded p n (set c j k)
bounded_set {p} {n} {c} bc size j k ln l small = record { residues = λ x. residue x (ℕ_discrete x j); within = λ x h. past x h }
  where
    other : (x : ℕ) → (x ≡ j → ⊥) → get_or (set c j k) x 0 ≡ get_or c x 0
    other x h = get_or-set_other c j x k 0 h

    residue : (x : ℕ) → Dec (x ≡ j) → get_or (set c j k) x 0 < p
    residue x (yes same) = let e : get_or (set c j k) x 0 ≡ k = ap (λ i. get_or (set c j k) i 0) same ∙ get_or-set_same c j k 0 (omega arith) in omega arith
    residue x (no h) = let e = other x h in let s = bc.residues x in omega arith

    past : (x : ℕ) → n ≤ x → get_or (set c j k) x 0 ≡ 0
    past x h = other x (λ same. omega arith) ∙ bc.within x h

-- what no longer changes from n on
settled : (f : ℕ → List ℕ) (n : ℕ) → ((k : ℕ) → n ≤ k → f (suc k) ≡ f k) → (k : ℕ) → n ≤ k → f k ≡ f n
settled f n same zero l = ap f (omega arith)
settled f n same (suc k) l = by_place (ℕ_discrete n (suc k)) (settled f n same k)
  where
    by_place : Dec (n ≡ suc k) → (n ≤ k → f k ≡ f n) → f (suc k) ≡ f n
    by_place (yes end) lower = ap f (sym end)
    by_place (no other) lower = same k (omega arith) ∙ lower (omega arith)

module _ (p : ℕ) (b : List ℕ) (m i : ℕ) where
  pub remainder_more : (n : ℕ) (a : List ℕ) → remainder_from p b m i (suc n) a ≡ remainder_from p b m i n (division_step p b m i n a)
  unfolding remainder_from
  remainder_more n a = refl

  pub quotient_more : (n : ℕ) (a c : List ℕ) → quotient_from p b m i (suc n) a c ≡ quotient_from p b m i n (division_step p b m i n a) (set c n (cancel_factor p m i n a))
  unfolding quotient_from
  quotient_more n a c = refl

  -- steps at places where a is zero change nothing
  module _ (a : List ℕ) (n : ℕ) (ba : Bounded p (n + m) a) (size : length a ≡ 32) where
    remainder_skip : (k : ℕ) → n ≤ k → remainder_from p b m i k a ≡ remainder_from p b m i n a
    remainder_skip = settled (λ t. remainder_from p b m i t a) n (λ k l.
        remainder_more k a ∙ ap (remainder_from p b m i k) (step_none p b m i k a ba size (ba.within (k + m) (omega arith))))

    quotient_skip : (c : List ℕ) → ((j : ℕ) → get_or c j 0 ≡ 0) → (k : ℕ) → n ≤ k → quotient_from p b m i k a c ≡ quotient_from p b m i n a c
    quotient_skip c z = settled (λ t. quotient_from p b m i t a c) n (λ k l.
        let none : get_or a (k + m) 0 ≡ 0 = ba.within (k + m) (omega arith) in
        let same : set c k (cancel_factor p m i k a) ≡ c = ap (set c k) (factor_none p b m i k a none ∙ sym (z k)) ∙ set-get_or c k 0 in
        quotient_more k a c ∙ ap₂ (quotient_from p b m i k) (step_none p b m i k a ba size none) same)

  bounded_remainder_from : Bounded p (m + 1) b → i * get_or b m 0 % p ≡ 1 → (n : ℕ) (a : List ℕ) → Bounded p (n + m) a → Bounded p m (remainder_from p b m i n a)
  unfolding remainder_from
  bounded_remainder_from bb e zero a ba = bounded_mono ba (omega arith)
  bounded_remainder_from bb e (suc n) a ba =
      bounded_remainder_from bb e n (division_step p b m i n a) (bounded_step p b m i n a (bounded_mono ba (omega arith)) bb e)

  length-remainder_from : (n : ℕ) (a : List ℕ) → length a ≡ 32 → length (remainder_from p b m i n a) ≡ 32
  unfolding remainder_from
  length-remainder_from zero a size = size
  length-remainder_from (suc n) a size = length-remainder_from n (division_step p b m i n a) (length-step p b m i n a)

  pub factor_small : 0 < p → (n : ℕ) (a : List ℕ) → cancel_factor p m i n a < p
  unfolding cancel_factor
  factor_small h n a = mod-lt _ h

  bounded_quotient_from : (t : ℕ) → 0 < p → t ≤ 32 → (n : ℕ) (a c : List ℕ) → n ≤ t → length c ≡ 32 → Bounded p t c → Bounded p t (quotient_from p b m i n a c)
  unfolding quotient_from
  bounded_quotient_from t h l zero a c ln size bc = bc
  bounded_quotient_from t h l (suc n) a c ln size bc =
      bounded_quotient_from t h l n (division_step p b m i n a) (set c n (cancel_factor p m i n a)) (omega arith) (length-set c n _ ∙ size)
      (bounded_set bc size n _ (omega arith) (omega arith) (factor_small h n a))

  length-quotient_from : (n : ℕ) (a c : List ℕ) → length c ≡ 32 → length (quotient_from p b m i n a c) ≡ 32
  unfolding quotient_from
  length-quotient_from zero a c size = size
  length-quotient_from (suc n) a c size = length-quotient_from n (division_step p b m i n a) (set c n (cancel_factor p m i n a)) (length-set c n _ ∙ size)

-- the definitions, where i is the reciprocal of b's leading coefficient
module _ (p : ℕ) (a b : List ℕ) {i : ℕ} (u : Some i ≡ leading_reciprocal p b) where
  pub remainder_steps : remainder_of p a b ≡ remainder_from p b (degree_of b) i (length_of a - degree_of b) a
  unfolding remainder_of
  remainder_steps = ap (remainder_by p a b) (sym u)

  pub quotient_steps : quotient_of p a b ≡ quotient_from p b (degree_of b) i (length_of a - degree_of b) a (replicate 32 0)
  unfolding quotient_of
  quotient_steps = ap (quotient_by p a b) (sym u)

-- a divided by b
module _ {p : ℕ} {b : List ℕ} {lb : ℕ} (D : Divisor p b lb) {a : List ℕ} {la : ℕ} (la-fits : la ≤ 32) (ba : Bounded p la a) (size : length a ≡ 32) where
  places : Bounded p (la + 1 - lb + degree_of b) a
  places = let d = degree_is D in let positive = D.positive in bounded_mono ba (omega arith)

  -- la is the length of a at least, and the places past that length can be left out
  own_places : Bounded p (length_of a - degree_of b + degree_of b) a
  own_places = bounded_mono (bounded_length ba) (omega arith)

  fewer_places : length_of a - degree_of b ≤ la + 1 - lb
  fewer_places = let d = degree_is D in let positive = D.positive in let l = length_at_most a la ba.within in omega arith

  -- i is the reciprocal of b's leading coefficient
  module _ {i : ℕ} (u : Some i ≡ leading_reciprocal p b) where
    pub remainder_places : remainder_of p a b ≡ remainder_from p b (degree_of b) i (la + 1 - lb) a
    remainder_places = remainder_steps p a b u ∙ sym (remainder_skip p b _ i a (length_of a - degree_of b) own_places size (la + 1 - lb) fewer_places)

    pub quotient_places : quotient_of p a b ≡ quotient_from p b (degree_of b) i (la + 1 - lb) a (replicate 32 0)
    quotient_places =
        quotient_steps p a b u
        ∙ sym (quotient_skip p b _ i a (length_of a - degree_of b) own_places size (replicate 32 0) (at_zeros 32) (la + 1 - lb) fewer_places)

  pub bounded_remainder : Bounded p (lb - 1) (remainder_of p a b)
  bounded_remainder =
      let d = degree_is D in
      let positive = D.positive in
      let u = (leading_number D).1 in
      let inverts = rw (← d) at (leading_inverts D u) in
      rw (remainder_places u, ← d) (bounded_remainder_from p b (degree_of b) _ (bounded_mono D.bounded (omega arith)) inverts (la + 1 - lb) a places)

  pub bounded_quotient : Bounded p (la + 1 - lb) (quotient_of p a b)
  bounded_quotient =
      let positive = D.positive in
      let h : 0 < p = (let t = D.prime.two in omega arith) in
      rw (quotient_places (leading_number D).1) (bounded_quotient_from p b _ _ (la + 1 - lb) h (omega arith) (la + 1 - lb) a (replicate 32 0) (omega arith)
      (length-replicate {A = ℕ} 32 0) (bounded_zeros p _ 32 h))

  pub length_remainder : length (remainder_of p a b) ≡ 32
  length_remainder = rw (remainder_steps p a b (leading_number D).1) (length-remainder_from p b _ _ _ a size)

  pub length-quotient : length (quotient_of p a b) ≡ 32
  length-quotient = rw (quotient_steps p a b (leading_number D).1) (length-quotient_from p b _ _ _ a _ (length-replicate {A = ℕ} 32 0))
