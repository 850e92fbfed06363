-- What the functions on arrays make of the polynomials and of the discrepancies.
use mathlib.Core.Path.{◌≡◌, ap, ap₂, ◌∙◌}
use mathlib.Core.List.{List}
use Prim.Native.Nat.{ℕ, ◌+◌, ◌-◌, ◌*◌, ◌/◌, ◌%◌, ◌≤◌, ◌<◌}
use native.Mathlib.Omega.{arith}
use lib.ListN.{get_or, length}
use Rattle.field.specs.declared.Prime.{Prime}
use Rattle.field.specs.Primes.{modulus_of}
use Rattle.field.proofs.Moduli.{modulus_positive}
use Rattle.montgomery.specs.declared.Factor.{Factor}
use Rattle.montgomery.specs.Factors.{montgomery_form, factor_of}
use Rattle.poly.specs.Coefficients.{Stored}
use Rattle.poly.specs.Operations.{times_linear_at, times_linear_of, combination_at, combination_of}
use Rattle.poly.proofs.Bounds.{times_linear_past, bounded_times_linear, combination_past, bounded_combination}
use Rattle.lists.proofs.Tabulated.{length-tabulate}
use Rattle.poly.proofs.Lists.{bounded_mono}
use Rattle.pairs.specs.Pairs.{PairBounded}
use Rattle.lanes.specs.Lanes.{groups_of, Constants, Inverses, Residues, replaced, combined_lane, linear_lane, difference_lane}
use Rattle.lanes.proofs.Changes.{replaced_inside}
use Rattle.lanes_meaning.proofs.Meaning.{whole, stored_replaced, combined_lane_lem, linear_lane_lem, combined_below, difference_lane_lem, difference_below}
use Rattle.pairs.specs.declared.stepping.PairState.{PairState}
use Rattle.pairs.specs.declared.stepping.PairArrays.{PairArrays}
use Rattle.pairs.specs.Held.{Holds, PairHeld, pair_of}

pub holds_mono : {p n m : ℕ} {a : List ℕ} → Holds p n a → n ≤ m → Holds p m a
holds_mono h l = record { bounded = bounded_mono h.bounded l; size = h.size }

pub held_mono : {p n m : ℕ} {s : PairArrays} → PairHeld p n s → n ≤ m → PairHeld p m s
held_mono h l = record { left = holds_mono h.left l; right = holds_mono h.right l }

pub side_is : (e n : ℕ) {x y u v : ℕ} → x ≡ u → y ≡ v
    → ◌≡◌ {A = PairState} (record { e = e; n = n; coefficients = x; discrepancies = y }) (record { e = e; n = n; coefficients = u; discrepancies = v })
side_is e n ex ey = ap₂ (λ (x y : ℕ). record { e = e; n = n; coefficients = x; discrepancies = y }) ex ey

pub bounded_held : {p n : ℕ} {s : PairArrays} → PairHeld p n s → PairBounded p n (pair_of s)
bounded_held h = record { left = h.left.bounded; right = h.right.bounded }

module _ {q : Prime} {ps : List ℕ} (cs : Constants q ps) where
  -- the same bound, by the prime and by the array
  pub residues_of : {a : List ℕ} → Stored (modulus_of q) a → Residues ps a
  residues_of h = record { size = h.size; below = λ k. rw cs.number (h.below k) }

  stored_of : {a : List ℕ} → Residues ps a → Stored (modulus_of q) a
  stored_of h = record { size = h.size; below = λ k. rw cs.number at (h.below k) }

  module _ {n : ℕ} {a : List ℕ} (ha : Holds (modulus_of q) n a) where
    -- (u - x) a
    pub linear_is : (x : ℕ) {f : Factor} {r : List ℕ} → f ≡ factor_of q x → x < modulus_of q → r ≡ replaced 0 (groups_of (n + 1)) (linear_lane ps f a) a
        → r ≡ times_linear_of (modulus_of q) x a
    unfolding times_linear_of
    linear_is x {f} e l er =
        er ∙ ap (λ (t : Factor). replaced 0 (groups_of (n + 1)) (linear_lane ps t a) a) e
        ∙ whole _ (times_linear_at (modulus_of q) x a) a (n + 1) (λ k h. linear_lane_lem cs k h x a (omega arith)) (λ k h. ha.bounded.within k (omega arith))
        (times_linear_past ha.bounded x)

    pub linear-held : (x : ℕ) {r : List ℕ} → r ≡ times_linear_of (modulus_of q) x a → Holds (modulus_of q) (n + 1) r
    unfolding times_linear_of
    linear-held x er = record { bounded = rw er (bounded_times_linear ha.bounded x (modulus_positive q)); size = ap length er ∙ length-tabulate 32 _ }

    module _ {b : List ℕ} (hb : Holds (modulus_of q) n b) (d c : ℕ) (low : c < modulus_of q) where
      -- d a - c b
      pub combination_is : {f g : Factor} {r : List ℕ} → f ≡ factor_of q d → g ≡ factor_of q c
          → r ≡ replaced 0 (groups_of n) (combined_lane ps f a g b) a → r ≡ combination_of (modulus_of q) d a c b
      unfolding combination_of
      combination_is {f} {g} ef eg er =
          er ∙ rw (ef, eg)
          (whole (combined_lane ps (factor_of q d) a (factor_of q c) b) (combination_at (modulus_of q) d a c b) a n (λ k h. combined_lane_lem cs k h d c a b (omega arith))
          ha.bounded.within (combination_past ha.bounded hb.bounded d c))

      pub combination_held : {r : List ℕ} → r ≡ combination_of (modulus_of q) d a c b → Holds (modulus_of q) n r
      unfolding combination_of
      combination_held er =
          record { bounded = rw er (bounded_combination ha.bounded hb.bounded d c (modulus_positive q)); size = ap length er ∙ length-tabulate 32 _ }

  -- the discrepancies, from the group of a row on to the last group
  module _ (start rows : ℕ) (few : rows ≤ 31) {d : List ℕ} (nd : Stored (modulus_of q) d) where
    pub multiplied_is : {vs : List ℕ} → Inverses q vs → (xs : List ℕ) (point : ℕ) {x : ℕ} {e : List ℕ} → point < modulus_of q
        → x ≡ montgomery_form (modulus_of q) point → e ≡ replaced (start / 8 * 8) (groups_of rows) (difference_lane ps vs xs x d) d
        → (l y : ℕ) → start ≤ l → l < rows → get_or xs l 0 ≡ montgomery_form (modulus_of q) y → get_or e l 0 ≡ (y + (modulus_of q - point)) * get_or d l 0 % modulus_of q
    multiplied_is is xs point low ex er l y i h form =
        ap (λ (t : List ℕ). get_or t l 0) er
        ∙ replaced_inside _ _ _ d l (omega arith) (omega arith) (omega arith)
        ∙ rw ex (difference_lane_lem cs l (omega arith) is xs y point d form (omega arith))

    pub multiplied_stored : (vs xs : List ℕ) (x : ℕ) {e : List ℕ} → e ≡ replaced (start / 8 * 8) (groups_of rows) (difference_lane ps vs xs x d) d
        → Stored (modulus_of q) e
    multiplied_stored vs xs x er = stored_of (rw er (stored_replaced _ _ _ (residues_of nd) (λ k l. difference_below cs k l vs xs x d)))

    pub combined_is : (u : List ℕ) (m c : ℕ) {f g : Factor} {e : List ℕ} → c < modulus_of q → f ≡ factor_of q m → g ≡ factor_of q c
        → e ≡ replaced (start / 8 * 8) (groups_of rows) (combined_lane ps f d g u) d
        → (l : ℕ) → start ≤ l → l < rows → get_or e l 0 ≡ combination_at (modulus_of q) m d c u l
    combined_is u m c low ef eg er l i h =
        ap (λ (t : List ℕ). get_or t l 0) er
        ∙ replaced_inside _ _ _ d l (omega arith) (omega arith) (omega arith)
        ∙ rw (ef, eg) (combined_lane_lem cs l (omega arith) m c d u (omega arith))

    pub combined_stored : (u : List ℕ) (f g : Factor) {e : List ℕ} → e ≡ replaced (start / 8 * 8) (groups_of rows) (combined_lane ps f d g u) d
        → Stored (modulus_of q) e
    combined_stored u f g er = stored_of (rw er (stored_replaced _ _ _ (residues_of nd) (λ k l. combined_below cs k l f g d u)))
