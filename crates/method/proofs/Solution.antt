-- docs/METHOD.md, One output, the end: after A + B + 1 active conditions the pair with the smaller number is a solution that is not null.
use mathlib.Core.Path.{◌≡◌, sym, ◌∙◌, ap}
use mathlib.Core.Logic.{◌≢◌}
use Prim.Native.Nat.{ℕ, suc, ◌+◌, ◌-◌, ◌≤◌, ◌<◌}
use native.Mathlib.Omega.{arith}
use Rattle.algebra.proofs.Ring.{Ring, sub_null}
use Rattle.algebra.proofs.Series.{Series, null_s, null_s_at}
use Rattle.algebra.proofs.Bounds.{Below}
use Rattle.algebra.proofs.Value.{value}
use Rattle.method.proofs.PairLaws.{Leading}
use Rattle.method.proofs.Interpolation.{Condition, Pair, discrepancy_at, Holds, Invariant}

module _ (R : Ring) where
  -- phi of degree at most A, psi of degree at most B, not both null, meet the first L conditions
  pub record Solves (A B N : ℕ) (row : ℕ → Condition R) (L : ℕ) (phi psi : Series R) : Type 0 where
    pub phi_below : Below R phi (suc A)
    pub psi_below : Below R psi (suc B)
    pub meets : (l : ℕ) → l < L → R.mul (row l).c (value R N phi (row l).x) ≡ R.mul (row l).z (value R N psi (row l).x)
    pub not_both_null : phi ≡ null_s R → psi ≢ null_s R

  holds_meets : {N : ℕ} {row : ℕ → Condition R} {k : ℕ} {s : Pair R} {f g : Series R} {A B t : ℕ} → Holds R N row k s f A g B t → (l : ℕ) → l < k
      → R.mul (row l).c (value R N s.a (row l).x) ≡ R.mul (row l).z (value R N s.b (row l).x)
  holds_meets {N} {row} {k} {s} S l h = sub_null R _ _ (sym (discrepancy_at R N (row l) s) ∙ S.at_row l h)

  leads_nonnull : {f g : Series R} {A B t e : ℕ} → Leading R f A g B t e → f ≢ null_s R
  leads_nonnull {A = A} {e = e} L z = L.top (e - A) (let h = L.fits in omega arith) (ap (λ g. g (e - A)) z ∙ null_s_at R _)

  module _ {A B N : ℕ} {row : ℕ → Condition R} {L a : ℕ} {s t : Pair R} (I : Invariant R A B N row L a s t) (rows : a ≡ A + B + 1) where
    pub first_solves : s.e ≤ t.e → Solves A B N row L s.a s.b
    first_solves le = record {
      phi_below = λ k l. I.first.leads.f_null k (let h = I.sum in omega arith);
      psi_below = λ k l. I.first.leads.g_null k (let h = I.sum in omega arith);
      meets = holds_meets I.first;
      not_both_null = λ z _. leads_nonnull I.first.leads z;
    }

    pub second_solves : t.e < s.e → Solves A B N row L t.a t.b
    second_solves lt = record {
      phi_below = λ k l. I.second.leads.g_null k (let h = I.sum in omega arith);
      psi_below = λ k l. I.second.leads.f_null k (let h = I.sum in omega arith);
      meets = holds_meets I.second;
      not_both_null = λ _. leads_nonnull I.second.leads;
    }
