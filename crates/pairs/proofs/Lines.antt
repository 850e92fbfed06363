-- The lines of the table in docs/METHOD.md, section 1: what the code does in each of its cases is a step.
use lib.ListN.{get_or}
use mathlib.Core.Path.{◌≡◌, refl, ◌∙◌}
use mathlib.Core.Bool.{Bool, true, false, cond}
use mathlib.Core.List.{List}
use mathlib.Core.Logic.{◌⊎◌, inl, inr}
use Prim.Native.Nat.{ℕ, ◌≤◌, max}
use native.Mathlib.Omega.{arith}
use lib.Dec.{eqb}
use borrow.Author.Tests.{eq-eqb, ne_eqb}
use Rattle.lanes.specs.declared.Modulus.{Modulus}
use Rattle.pairs.specs.declared.stepping.RowStep.{RowStep}
use Rattle.pairs.specs.declared.stepping.PairArrays.{PairArrays}
use Rattle.pairs.specs.Held.{Fits, Ready, Advanced, Cleared, Stays, Freed, line_of, Lined, pair_of}
use Rattle.pairs.proofs.Arrays.{held_mono}
use Rattle.pairs.proofs.Following.{advanced_is, combined_is, follow_advanced, follow_cleared}

either : {A : Type 0} (t : Bool) (x : A) → x ≡ cond t x x
either true x = refl
either false x = refl

-- the three lines of a pair
module _ {A : Type 0} (m c : ℕ) (leads : Bool) (stays multiplied combined : A) where
  line_stays : m ≡ 0 → stays ≡ line_of m c leads stays multiplied combined
  unfolding line_of
  line_stays z = simp (eq-eqb _ _ z)

  line_multiplied : (m ≡ 0 → ⊥) → (c ≡ 0) ⊎ (leads ≡ true) → multiplied ≡ line_of m c leads stays multiplied combined
  unfolding line_of
  line_multiplied n (inl z) = simp (ne_eqb _ _ n, eq-eqb _ _ z)
  line_multiplied n (inr l) = rw (ne_eqb _ _ n, l) (either (eqb c 0) multiplied)

  line_combined : (m ≡ 0 → ⊥) → (c ≡ 0 → ⊥) → leads ≡ false → combined ≡ line_of m c leads stays multiplied combined
  unfolding line_of
  line_combined n k e = simp (ne_eqb _ _ n, ne_eqb _ _ k, e)

-- one of the pairs, s, beside the other, t
module _ {r : RowStep} (fits : Fits r) {m : Modulus} {xs : List ℕ} {s t s' : PairArrays} (h : Ready r s) (k : Ready r t) (leads : Bool) where
  -- it has no discrepancy
  pub stays : get_or s.d r.index 0 ≡ 0 → Stays s s' → Lined r m xs leads s t s'
  stays z i =
      let same : pair_of s' ≡ pair_of s = rw (i.left, i.right, i.side) in
      record {
        pair = same ∙ line_stays _ _ _ _ _ _ z;
        side = i.side ∙ line_stays _ _ _ _ _ _ z;
        exact = i.exact ∙ line_stays _ _ _ _ _ _ z;
        held = record {
          pair = record { left = rw (i.left, i.side) h.held.pair.left; right = rw (i.right, i.side) h.held.pair.right };
          discrepancies = rw i.exact h.held.discrepancies;
        };
        low = rw i.side (omega (arith, h.low));
        followed = λ l y c z i' g form own beside. rw (i.exact, same) own;
      }

  -- it has one, and the other has none, or it leads
  pub advances : (get_or s.d r.index 0 ≡ 0 → ⊥) → (get_or t.d r.index 0 ≡ 0) ⊎ (leads ≡ true) → Advanced r m xs s s' → Lined r m xs leads s t s'
  advances n c i =
      let short : s.state.n ≤ 31 = omega (arith, h.low, fits.there, fits.few) in
      record {
        pair = advanced_is i ∙ line_multiplied _ _ _ _ _ _ n c;
        side = i.side ∙ line_multiplied _ _ _ _ _ _ n c;
        exact = i.exact ∙ line_multiplied _ _ _ _ _ _ n c;
        held = i.held;
        low = rw i.side (omega (arith, h.low));
        followed = λ l y c z j g form own beside. follow_advanced i short h.held.pair l y c z j g form own;
      }

  -- both have one, and the other leads
  pub clears : (get_or s.d r.index 0 ≡ 0 → ⊥) → (get_or t.d r.index 0 ≡ 0 → ⊥) → leads ≡ false → Cleared r m t s s' → Lined r m xs leads s t s'
  clears n c f i =
      let longer = max t.state.n s.state.n in
      let short : longer ≤ 31 = omega (arith, h.low, k.low, fits.there, fits.few) in
      record {
        pair = combined_is i ∙ line_combined _ _ _ _ _ _ n c f;
        side = i.side ∙ line_combined _ _ _ _ _ _ n c f;
        exact = i.exact ∙ line_combined _ _ _ _ _ _ n c f;
        held = i.held;
        low = rw i.side (omega (arith, h.low, k.low));
        followed = λ l y c z j g form own beside.
            follow_cleared i short (held_mono k.held.pair (omega arith)) (held_mono h.held.pair (omega arith)) l y c z j g beside own;
      }

-- both, where s leads
pub exchanged : {r : RowStep} → Fits r → {m : Modulus} {xs : List ℕ} {s t s' t' : PairArrays} → Ready r s → Ready r t → (leads follows : Bool)
    → (get_or s.d r.index 0 ≡ 0 → ⊥) → ((get_or t.d r.index 0 ≡ 0 → ⊥) → (leads ≡ true) × (follows ≡ false))
    → Advanced r m xs s s' → Freed r m s t t' → Lined r m xs leads s t s' × Lined r m xs follows t s t'
exchanged fits h k leads follows n c i (inl (z, f)) = (advances fits h k leads n (inl z) i, stays fits k h follows z f)
exchanged fits h k leads follows n c i (inr (m, f)) = (advances fits h k leads n (inr (c m).0) i, clears fits k h follows m n (c m).1 f)
