-- Entries of what is computed for every point, and one step of Horner's rule on all of them.
use mathlib.Core.Path.{◌≡◌, refl, sym, ap, ◌∙◌}
use mathlib.Core.Bool.{Bool, true, false, cond}
use mathlib.Core.List.{List}
use Prim.Native.Nat.{ℕ, ◌+◌, ◌*◌, ◌%◌, ◌≤◌, ◌<◌}
use native.Mathlib.Numerals.{add-one}
use native.Mathlib.Decide.{dec_lt}
use native.Mathlib.Omega.{arith}
use lib.Dec.{ltb}
use lib.ListN.{get_or, length, drop, replicate}
use borrow.Author.Tests.{lt-ltb, le-ltb}
use Rattle.field.specs.declared.Prime.{Prime}
use Rattle.field.specs.Primes.{modulus_of}
use Rattle.field.proofs.Moduli.{modulus_positive, residue_below}
use Rattle.montgomery.specs.Factors.{montgomery_form}
use Rattle.poly.specs.Coefficients.{Stored}
use Rattle.poly.specs.Operations.{value_of}
use Rattle.lists.proofs.Tabulated.{at_tabulate, at_tabulate_past, at_past, at_zeros, is_tabulate, length-tabulate}
use Rattle.poly.proofs.Lists.{bounded_tabulate}
use Rattle.poly.proofs.Values.{value_more, value-start}
use Rattle.lanes.specs.Lanes.{groups_of, modulus_at, Constants, Inverses, replaced, horner_lane}
use Rattle.lanes.proofs.Changes.{replaced_inside, replaced_behind, length-replaced}
use Rattle.lanes_meaning.proofs.Meaning.{horner_lane_lem}
use Rattle.evaluation.specs.Values.{each_point, forms_of, values_of, Formed}

module _ (f : ℕ → ℕ) (points : List ℕ) (rows : ℕ) where
  pub each_inside : (l : ℕ) → l < 32 → l < groups_of rows → get_or (each_point f points rows) l 0 ≡ f (get_or points l 0)
  unfolding each_point
  each_inside l h g = at_tabulate 32 _ l h ∙ simp (lt-ltb _ _ g)

  pub each_behind : (l : ℕ) → groups_of rows ≤ l → get_or (each_point f points rows) l 0 ≡ 0
  unfolding each_point
  each_behind l g = go (dec_lt l 32)
    where
      go : Dec (l < 32) → get_or (each_point f points rows) l 0 ≡ 0
      go (yes h) = at_tabulate 32 _ l h ∙ simp (le-ltb _ _ g)
      go (no h) = at_tabulate_past 32 _ l (omega arith)

  -- an entry within the rows
  pub at_row : {v : List ℕ} → v ≡ each_point f points rows → rows ≤ 32 → (l : ℕ) → l < rows → get_or v l 0 ≡ f (get_or points l 0)
  at_row e few l h = ap (λ (t : List ℕ). get_or t l 0) e ∙ each_inside l (omega arith) (omega arith)

  -- 32 entries that are f's within the groups, and 0 behind them
  pub is_each : (v : List ℕ) → length v ≡ 32 → ((l : ℕ) → l < 32 → l < groups_of rows → get_or v l 0 ≡ f (get_or points l 0))
      → ((l : ℕ) → groups_of rows ≤ l → get_or v l 0 ≡ 0) → v ≡ each_point f points rows
  unfolding each_point
  is_each v size inside behind = is_tabulate 32 _ v size (λ l h. go l h (dec_lt l (groups_of rows)))
    where
      go : (l : ℕ) → l < 32 → Dec (l < groups_of rows) → get_or v l 0 ≡ cond (ltb l (groups_of rows)) (f (get_or points l 0)) 0
      go l h (yes g) = inside l h g ∙ sym (simp (lt-ltb _ _ g))
      go l h (no g) = behind l (omega arith) ∙ sym (simp (le-ltb l (groups_of rows) (omega arith)))

-- forms are below the prime
pub narrow_forms : (q : Prime) (points : List ℕ) (rows : ℕ) → Stored (modulus_of q) (forms_of (modulus_of q) points rows)
unfolding each_point
narrow_forms q points rows = record {
  size = length-tabulate 32 _;
  below = (bounded_tabulate (modulus_of q) (groups_of rows) 32 _ (λ l. low (ltb l (groups_of rows)) (get_or points l 0)) (λ l g. simp (le-ltb _ _ g))).residues;
}
  where
    low : (inside : Bool) (x : ℕ) → cond inside (montgomery_form (modulus_of q) x) 0 < modulus_of q
    low true x = residue_below q _
    low false x = modulus_positive q

pub narrow_formed : (q : Prime) {rows : ℕ} {xs : List ℕ} → Formed (modulus_of q) xs rows → Stored (modulus_of q) xs
narrow_formed q h = rw h.is (narrow_forms q h.points _)

-- before the first step: no coefficient is taken
pub values-start : (p rows n : ℕ) (points a : List ℕ) → ((k : ℕ) → n ≤ k → get_or a k 0 ≡ 0) → replicate 32 0 ≡ values_of p points rows (drop n a)
values-start p rows n points a past =
    is_each _ points rows (replicate 32 0) refl (λ l h g. at_zeros 32 l ∙ sym (value-start p (get_or points l 0) n n a (omega arith) past))
    (λ l g. at_zeros 32 l)

-- one coefficient more
module _ {q : Prime} {ps vs : List ℕ} (cs : Constants q ps) (is : Inverses q vs) (rows : ℕ) (few : rows ≤ 32) (points a : List ℕ) where
  pub values-step : (xs v : List ℕ) (k c : ℕ) → xs ≡ forms_of (modulus_at ps) points rows → v ≡ values_of (modulus_at ps) points rows (drop (k + 1) a)
      → k < length a → c ≡ get_or a k 0 → c < modulus_at ps
      → replaced 0 (groups_of rows) (horner_lane ps vs xs v c) v ≡ values_of (modulus_at ps) points rows (drop k a)
  values-step xs v k c ex ev lk ec low =
      is_each _ points rows _ (length-replaced 0 (groups_of rows) _ v) inside
      (λ l g. behind l g (dec_lt l 32))
    where
      p : ℕ
      p = modulus_at ps

      inside : (l : ℕ) → l < 32 → l < groups_of rows → get_or (replaced 0 (groups_of rows) (horner_lane ps vs xs v c) v) l 0 ≡ value_of (modulus_at ps) (get_or points l 0) (drop k a)
      inside l h g =
          let form : get_or xs l 0 ≡ montgomery_form (modulus_of q) (get_or points l 0) =
          rw (sym cs.number) (ap (λ (t : List ℕ). get_or t l 0) ex ∙ each_inside _ points rows l h g) in
          let before : get_or v l 0 ≡ value_of p (get_or points l 0) (drop (k + 1) a) = ap (λ (t : List ℕ). get_or t l 0) ev ∙ each_inside _ points rows l h g in
          let more : value_of p (get_or points l 0) (drop k a) ≡ (get_or a k 0 + get_or points l 0 * value_of p (get_or points l 0) (drop (k + 1) a)) % p =
          rw add-one (value_more p (get_or points l 0) a k lk) in
          replaced_inside 0 (groups_of rows) _ v l h (omega arith) g
          ∙ horner_lane_lem cs l h is xs (get_or points l 0) v c form (rw (sym cs.number) low)
          ∙ rw (sym cs.number, ec, before) (sym more)

      behind : (l : ℕ) → groups_of rows ≤ l → Dec (l < 32) → get_or (replaced 0 (groups_of rows) (horner_lane ps vs xs v c) v) l 0 ≡ 0
      behind l g (yes h) =
          replaced_behind 0 (groups_of rows) _ v l h (omega arith) g ∙ ap (λ (t : List ℕ). get_or t l 0) ev
          ∙ each_behind (λ x. value_of p x (drop (k + 1) a)) points rows l g
      behind l g (no h) = at_past (replaced 0 (groups_of rows) (horner_lane ps vs xs v c) v) l (let n = length-replaced 0 (groups_of rows) (horner_lane ps vs xs v c) v in omega arith)
