-- The residues modulo a prime p are a field. A residue is a number below p, and a law of residues is the law of numbers under `residue`.
use Prim.Native.Nat.{ℕ, ◌+◌, ◌-◌, ◌*◌, ◌%◌, ◌<◌, Fin}
use mathlib.Core.Path.{◌≡◌, refl, sym, ap, ◌∙◌}
use mathlib.Core.Logic.{◌≢◌}
use native.Mathlib.Nat.{add_assoc, add_comm, add-mod-mod, add-zero, mod-add-mod, mod-eq_of_lt, mod-lt, mod_self, mul_assoc, mul_comm, mul-one, zero-mod}
use native.Mathlib.Decide.{Fin-discrete}
use native.Mathlib.Omega.{arith}
use Rattle.algebra.proofs.Ring.{Ring}
use Rattle.algebra.proofs.Field.{Field}
use Rattle.field.proofs.Primality.{IsPrime}
use Rattle.field.proofs.Remainders.{mod-mul, mul-mod}
use Rattle.reciprocal.proofs.Reciprocals.{inverse_exists}

module _ (p : ℕ) (P : IsPrime p) where
  abbrev pub Residue : Type 0
  Residue = Fin p

  -- a number's residue
  unfoldable pub residue : ℕ → Residue
  residue n = (n % p, mod-lt n (let t = P.two in omega arith))

  pub residue_equal : (m n : ℕ) → m % p ≡ n % p → residue m ≡ residue n
  unfolding residue
  residue_equal m n e = native.Mathlib.Fin.val_path e

  pub equal_residue : (m n : ℕ) → residue m ≡ residue n → m % p ≡ n % p
  unfolding residue
  equal_residue m n e = ap (λ x. x.0) e

  number_residue : (n : ℕ) → (residue n).0 ≡ n % p
  unfolding residue
  number_residue n = refl

  pub residue_number : (a : Residue) → residue a.0 ≡ a
  unfolding residue
  residue_number a = native.Mathlib.Fin.val_path (mod-eq_of_lt a.1)

  -- an operation on numbers, on residues
  unfoldable pub lifted : (ℕ → ℕ → ℕ) → Residue → Residue → Residue
  lifted op a b = residue (op a.0 b.0)

  abbrev pub add_r : Residue → Residue → Residue
  add_r = lifted ◌+◌

  abbrev pub mul_r : Residue → Residue → Residue
  mul_r = lifted ◌*◌

  unfoldable pub neg_r : Residue → Residue
  neg_r a = residue (p - a.0)

  pub residue-add : (m n : ℕ) → add_r (residue m) (residue n) ≡ residue (m + n)
  unfolding lifted
  residue-add m n = residue_equal _ _ (rw (number_residue, number_residue) (mod-add-mod m p (n % p) ∙ add-mod-mod m n p))

  pub residue-mul : (m n : ℕ) → mul_r (residue m) (residue n) ≡ residue (m * n)
  unfolding lifted
  residue-mul m n = residue_equal _ _ (rw (number_residue, number_residue) (mod-mul m (n % p) p ∙ mul-mod m n p))

  -- n and p - n cancel
  pub residue-neg : (n : ℕ) → n < p → neg_r (residue n) ≡ residue (p - n)
  unfolding neg_r
  residue-neg n l = ap (λ x. residue (p - x)) (number_residue n ∙ mod-eq_of_lt l)

  -- it keeps its laws
  module _ (op : ℕ → ℕ → ℕ) where
    pub lifted_comm : ((m n : ℕ) → op m n ≡ op n m) → (a b : Residue) → lifted op a b ≡ lifted op b a
    unfolding lifted
    lifted_comm comm a b = ap residue (comm _ _)

    module _ (carried : (m n : ℕ) → lifted op (residue m) (residue n) ≡ residue (op m n)) where
      pub lifted_assoc : ((k m n : ℕ) → op (op k m) n ≡ op k (op m n)) → (a b c : Residue) → lifted op (lifted op a b) c ≡ lifted op a (lifted op b c)
      lifted_assoc assoc a b c = rw (← residue_number a, ← residue_number b, ← residue_number c) (simp carried (ap residue (assoc _ _ _)))

      pub lifted_unit : (e : ℕ) → ((n : ℕ) → op n e ≡ n) → (a : Residue) → lifted op a (residue e) ≡ a
      lifted_unit e unit a = rw (← residue_number a) (simp (carried, unit))

  pub add_r_null : (a : Residue) → add_r a (residue 0) ≡ a
  add_r_null = lifted_unit ◌+◌ residue-add 0 add-zero

  pub add_r-neg : (a : Residue) → add_r a (neg_r a) ≡ residue 0
  unfolding neg_r
  add_r-neg a =
      let l = a.1 in
      let whole : a.0 + (p - a.0) ≡ p = omega arith in
      ap (λ x. add_r x (neg_r a)) (sym (residue_number a)) ∙ residue-add a.0 (p - a.0)
      ∙ residue_equal _ _ (ap (λ x. x % p) whole ∙ mod_self p ∙ sym (zero-mod p))

  pub mul_r-add : (a b c : Residue) → mul_r a (add_r b c) ≡ add_r (mul_r a b) (mul_r a c)
  mul_r-add a b c =
      rw (← residue_number a, ← residue_number b, ← residue_number c)
      (simp (residue-add, residue-mul) (ap residue (omega arith)))

  abbrev pub residue_ring : Ring
  residue_ring = record {
    Carrier = Residue;
    add = add_r;
    mul = mul_r;
    neg = neg_r;
    null = residue 0;
    one = residue 1;
    add_comm = lifted_comm ◌+◌ add_comm;
    add_assoc = lifted_assoc ◌+◌ residue-add add_assoc;
    add_null = add_r_null;
    add-neg = add_r-neg;
    mul_comm = lifted_comm ◌*◌ mul_comm;
    mul_assoc = lifted_assoc ◌*◌ residue-mul mul_assoc;
    mul-one = lifted_unit ◌*◌ residue-mul 1 mul-one;
    mul-add = mul_r-add;
  }

  -- numbers whose product leaves 1 have residues that are each other's reciprocals
  pub residue_unit : (m n : ℕ) → m * n % p ≡ 1 → mul_r (residue n) (residue m) ≡ residue 1
  residue_unit m n e =
      lifted_comm ◌*◌ mul_comm _ _ ∙ residue-mul m n ∙ residue_equal _ _ (e ∙ sym (mod-eq_of_lt (let t = P.two in omega arith)))

  -- a residue that is not 0 has one
  inverse_of_lem : (a : Residue) → a ≢ residue 0 → (r : ℕ) × (r < p) × (r * a.0 % p ≡ 1)
  inverse_of_lem a nz =
      let nonzero : a.0 % p ≡ 0 → ⊥ = λ e. nz (sym (residue_number a) ∙ residue_equal _ 0 (e ∙ sym (zero-mod p))) in
      inverse_exists p P a.0 (omega arith)

  pub inv_r : (a : Residue) → a ≢ residue 0 → Residue
  inv_r a nz = residue (inverse_of_lem a nz).0

  pub mul_r-inv : (a : Residue) (nz : a ≢ residue 0) → mul_r a (inv_r a nz) ≡ residue 1
  unfolding inv_r
  mul_r-inv a nz =
      ap (λ x. mul_r x (inv_r a nz)) (sym (residue_number a)) ∙ residue_unit (inverse_of_lem a nz).0 a.0 (inverse_of_lem a nz).2

  pub one_not_null : residue 1 ≢ residue 0
  one_not_null e =
      let same : 1 % p ≡ 0 % p = equal_residue 1 0 e in
      let t = P.two in
      let one : 1 % p ≡ 1 = mod-eq_of_lt (omega arith) in
      let null : 0 % p ≡ 0 = zero-mod p in
      omega arith

  abbrev pub residue_field : Field
  residue_field = record {
    ring = residue_ring;
    dec = Fin-discrete p;
    inv = inv_r;
    inv-mul = mul_r-inv;
    one≢null = one_not_null;
  }
