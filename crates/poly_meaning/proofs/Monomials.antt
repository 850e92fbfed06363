-- Monomials c u^n as series.
use mathlib.Core.Path.{◌≡◌, refl, ap, ◌∙◌}
use Prim.Native.Nat.{ℕ, zero, suc}
use Rattle.algebra.proofs.Ring.{Ring}
use Rattle.algebra.proofs.Series.{Series, cons, const_s, cons-zero, cons-suc, const_s-zero, const_s-suc}

module _ (R : Ring) where
  open R use {Carrier, null}

  -- c u^n
  unfoldable pub monomial : ℕ → Carrier → Series R
  monomial zero c = const_s R c
  monomial (suc n) c = cons R null (monomial n c)

  pub monomial-here : (n : ℕ) (c : Carrier) → monomial n c n ≡ c
  unfolding monomial
  monomial-here zero c = const_s-zero R c
  monomial-here (suc n) c = cons-suc R null (monomial n c) n ∙ monomial-here n c

  pub monomial_other : (n : ℕ) (c : Carrier) (k : ℕ) → (k ≡ n → ⊥) → monomial n c k ≡ null
  unfolding monomial
  monomial_other zero c zero h = absurd (h refl)
  monomial_other zero c (suc k) h = const_s-suc R c k
  monomial_other (suc n) c zero h = cons-zero R null (monomial n c)
  monomial_other (suc n) c (suc k) h = cons-suc R null (monomial n c) k ∙ monomial_other n c k (λ e. h (ap suc e))
