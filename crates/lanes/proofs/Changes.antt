-- A loop that changes an array of 32 residues in place, from `start` on and below `end`.
use mathlib.Core.Path.{◌≡◌, sym, ◌∙◌}
use mathlib.Core.Bool.{cond, ◌&&◌}
use mathlib.Core.List.{List, ◌∷◌}
use Prim.Native.Nat.{ℕ, ◌+◌, ◌-◌, ◌*◌, ◌%◌, ◌≤◌, ◌<◌}
use native.Mathlib.Nat.{mod-lt}
use native.Mathlib.Omega.{arith}
use lib.Dec.{leb, ltb}
use lib.ListN.{get_or, length, set, replicate, get_or-replicate}
use borrow.Author.Tests.{lt-ltb, le-ltb, le-leb, lt-leb}
use Rattle.lists.proofs.Tabulated.{length-tabulate, at_tabulate}
use Rattle.lists.proofs.Filling.{Filled, filled_more, filled_all}
use Rattle.montgomery.specs.Reduction.{reduced_of}
use Rattle.montgomery.specs.declared.Factor.{Factor}
use Rattle.lanes.specs.Lanes.{modulus_at, Moduli, Residues, replaced, less_by, combined_lane, linear_lane, difference_lane, horner_lane}

-- an entry of a replaced array
module _ (start end : ℕ) (f : ℕ → ℕ) (a : List ℕ) where
  abbrev pub replaced_at : ℕ → ℕ
  replaced_at k = cond (leb start k && ltb k end) (f k) (get_or a k 0)

  at_before : (k : ℕ) → k < start → replaced_at k ≡ get_or a k 0
  at_before k s = simp (lt-leb _ _ s)

  at_inside : (k : ℕ) → start ≤ k → k < end → replaced_at k ≡ f k
  at_inside k s e = simp (le-leb _ _ s, lt-ltb _ _ e)

  at_behind : (k : ℕ) → start ≤ k → end ≤ k → replaced_at k ≡ get_or a k 0
  at_behind k s e = simp (le-leb _ _ s, le-ltb _ _ e)

  pub replaced_inside : (k : ℕ) → k < 32 → start ≤ k → k < end → get_or (replaced start end f a) k 0 ≡ f k
  unfolding replaced
  replaced_inside k l s e = at_tabulate 32 _ k l ∙ at_inside k s e

  pub replaced_before : (k : ℕ) → k < 32 → k < start → get_or (replaced start end f a) k 0 ≡ get_or a k 0
  unfolding replaced
  replaced_before k l s = at_tabulate 32 _ k l ∙ at_before k s

  pub replaced_behind : (k : ℕ) → k < 32 → start ≤ k → end ≤ k → get_or (replaced start end f a) k 0 ≡ get_or a k 0
  unfolding replaced
  replaced_behind k l s e = at_tabulate 32 _ k l ∙ at_behind k s e

  pub length-replaced : length (replaced start end f a) ≡ 32
  unfolding replaced
  length-replaced = length-tabulate 32 _

-- What the loop knows at k: it has stored f's values below k, and from there on the array is as it was, of residues.
pub record Changing (ps : List ℕ) (start end : ℕ) (f : ℕ → ℕ) (old : List ℕ) (k : ℕ) (a : List ℕ) : Type 0 where
  pub moduli : Moduli ps
  pub residues : Residues ps old
  pub few : end ≤ 32
  pub begun : start ≤ k
  pub within : k ≤ end
  pub filled : Filled 32 (replaced_at start end f old) (λ k. get_or old k 0) k a

-- an array of 32 equal numbers
pub splat : (x k : ℕ) → k < 32 → get_or (replicate 32 x) k 0 ≡ x
splat x k l = get_or-replicate 32 k x 0 l

module _ {ps : List ℕ} {start end : ℕ} {f : ℕ → ℕ} {old : List ℕ} {k : ℕ} {a : List ℕ} (c : Changing ps start end f old k a) where
  -- what the loop leaves
  pub changing_end : end ≤ k → a ≡ replaced start end f old
  unfolding replaced
  changing_end l = filled_all c.filled (λ j h. at_behind start end f old j (omega arith) (omega arith))

  -- the entry that is next
  pub changing_same : get_or a k 0 ≡ get_or old k 0
  changing_same = c.filled.rest k (omega arith)

  module _ (l : k < end) where
    pub changing_next : {v : ℕ} → v ≡ f k → Changing ps start end f old (k + 1) (set a k v)
    changing_next {v} e = record {
      moduli = c.moduli;
      residues = c.residues;
      few = c.few;
      begun = omega arith;
      within = omega arith;
      filled = filled_more c.filled v (omega arith) (e ∙ sym (at_inside start end f old k c.begun l));
    }

    -- what is below the modulus is below that of its lane
    pub lane_below : {x : ℕ} → x < modulus_at ps → x < get_or ps k 0
    lane_below h = rw (c.moduli.each k (omega arith)) h

    each : (x : ℕ) → get_or (replicate 32 x) k 0 ≡ x
    each x = splat x k (omega arith)

    pub splat_below : {x : ℕ} → x < modulus_at ps → get_or (replicate 32 x) k 0 < get_or ps k 0
    splat_below {x} h = rw (each x) (lane_below h)

    pub splat_most : {x : ℕ} → x ≤ modulus_at ps → get_or (replicate 32 x) k 0 ≤ get_or ps k 0
    splat_most {x} h = rw (each x, c.moduli.each k (omega arith)) h

    -- so is the entry that is next
    pub next_below : get_or a k 0 < get_or ps k 0
    next_below = rw changing_same (lane_below (c.residues.below k))

    -- and what is computed
    pub reduced_below : (form low x : ℕ) {r : ℕ} → r ≡ reduced_of (get_or ps k 0) form low x → r < get_or ps k 0
    unfolding reduced_of
    reduced_below form low x e = rw e (mod-lt _ (let n = next_below in omega arith))

    pub less_below : (x y : ℕ) {r : ℕ} → r ≡ less_by ps k x y → r < get_or ps k 0
    less_below x y e = rw e (mod-lt _ (let n = next_below in omega arith))

    -- what the code computes for an entry, by the numbers that it reads, is what the definitions say
    pub combined_is : (d e : Factor) (b : List ℕ) {u v r : ℕ} → u ≡ reduced_of (get_or ps k 0) (get_or (replicate 32 d.form) k 0) (get_or (replicate 32 d.low) k 0) (get_or a k 0)
        → v ≡ reduced_of (get_or ps k 0) (get_or (replicate 32 e.form) k 0) (get_or (replicate 32 e.low) k 0) (get_or b k 0) → r ≡ less_by ps k u v → r ≡ combined_lane ps d old e b k
    unfolding combined_lane
    combined_is d e b eu ev er = rw (er, eu, ev, each d.form, each d.low, each e.form, each e.low, changing_same)

    pub linear_is : (x : Factor) {lower u r : ℕ} → lower ≡ get_or (0 ∷ old) k 0 → u ≡ reduced_of (get_or ps k 0) (get_or (replicate 32 x.form) k 0) (get_or (replicate 32 x.low) k 0) (get_or a k 0)
        → r ≡ less_by ps k lower u → r ≡ linear_lane ps x old k
    unfolding linear_lane
    linear_is x el eu er = rw (er, el, eu, each x.form, each x.low, changing_same)

    pub difference_is : (vs xs : List ℕ) (x : ℕ) {d low r : ℕ} → d ≡ less_by ps k (get_or xs k 0) (get_or (replicate 32 x) k 0) → low ≡ d * get_or vs k 0 % 65536
        → r ≡ reduced_of (get_or ps k 0) d low (get_or a k 0) → r ≡ difference_lane ps vs xs x old k
    unfolding difference_lane
    difference_is vs xs x ed el er = rw (er, el, ed, each x, changing_same)

    pub horner_is : (vs xs : List ℕ) (x : ℕ) {low u r : ℕ} → low ≡ get_or xs k 0 * get_or vs k 0 % 65536 → u ≡ reduced_of (get_or ps k 0) (get_or xs k 0) low (get_or a k 0)
        → r ≡ less_by ps k u (get_or (replicate 32 (modulus_at ps - x)) k 0) → r ≡ horner_lane ps vs xs old x k
    unfolding horner_lane
    horner_is vs xs x el eu er = rw (er, eu, el, each (modulus_at ps - x), changing_same)
