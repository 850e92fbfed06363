-- The array of numerators while it is filled.
use Prim.Native.Nat.{ℕ, zero, suc, ◌+◌, ◌≤◌, ◌<◌}
use mathlib.Core.Path.{◌≡◌, refl, ◌∙◌}
use mathlib.Core.List.{List, [], ◌∷◌}
use native.Mathlib.Omega.{arith}
use lib.ListN.{length, set, replicate, length-set}
use Rattle.lists.proofs.Filling.{stored_below, stored_above}
use Rattle.format.specs.declared.Bounds.{Bounds}
use Rattle.poly.specs.declared.Poly.{Poly}
use Rattle.poly.specs.Vectors.{coefficients_at}
use Rattle.answer.specs.Coefficients.{numerator_of}

-- the numerators before i are read, and the others are zero
pub record Filled (b : Bounds) (s : List ℕ) (i : ℕ) (f : List Poly) : Type 0 where
  pub size : length f ≡ 4
  pub done : (j : ℕ) → j < i → coefficients_at f j ≡ numerator_of b s j
  pub rest : (j : ℕ) → i ≤ j → j < 4 → coefficients_at f j ≡ replicate 32 0

pub filled_none : (b : Bounds) (s : List ℕ) (a : Poly) → a.c ≡ replicate 32 0 → Filled b s 0 (a ∷ a ∷ a ∷ a ∷ [])
filled_none b s a e = record { size = refl; done = λ j l. absurd (omega arith); rest = λ j z l. rest j l }
  where
    rest : (j : ℕ) → j < 4 → coefficients_at (a ∷ a ∷ a ∷ a ∷ []) j ≡ replicate 32 0
    rest zero l = e
    rest (suc zero) l = e
    rest (suc (suc zero)) l = e
    rest (suc (suc (suc zero))) l = e
    rest (suc (suc (suc (suc j)))) l = absurd (omega arith)

pub filled_more : {b : Bounds} {s : List ℕ} {i : ℕ} {f : List Poly} → Filled b s i f → i < 4 → (a : Poly) → a.c ≡ numerator_of b s i → Filled b s (i + 1) (set f i a)
filled_more {b} {s} {i} {f} h l a e = record {
  size = length-set f i a ∙ h.size;
  done = stored_below (λ (x : Poly). x.c) (record { c = [] }) (numerator_of b s) f i a (let z = h.size in omega arith) h.done e;
  rest = λ j lj four. stored_above (λ (x : Poly). x.c) (record { c = [] }) (numerator_of b s) f i a j lj ∙ h.rest j (omega arith) four;
}
