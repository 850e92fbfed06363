-- Loops that store a function's values in a list, one after the other.
use mathlib.Core.Path.{◌≡◌, refl, sym, ap, subst, ◌∙◌}
use mathlib.Core.Bool.{Bool, true, false, cond}
use mathlib.Core.List.{List}
use mathlib.Core.Logic.{⊎_elim}
use Prim.Native.Nat.{ℕ, ◌+◌, ◌≤◌, ◌<◌}
use native.Mathlib.Nat.{eq-or-lt_of_le}
use native.Mathlib.Decide.{dec_lt}
use native.Mathlib.Omega.{arith}
use borrow.Author.Tests.{lt-ltb, le-ltb}
use lib.Dec.{ltb}
use lib.ListN.{length, get_or, set, replicate, length-set, length-replicate}
use lib.Seq.{get_or-set_same, get_or-set_other}
use Rattle.lists.specs.Tabulated.{tabulate}
use Rattle.lists.proofs.Tabulated.{at_zeros, is_tabulate}

-- after a store at k, what is seen of the entries is f's below k + 1, and from there on it is as before
module _ {A B : Type 0} (see : A → B) (d : A) (f : ℕ → B) (r : List A) (k : ℕ) (v : A) where
  pub stored_below : k < length r → ((j : ℕ) → j < k → see (get_or r j d) ≡ f j) → see v ≡ f k → (j : ℕ) → j < k + 1 → see (get_or (set r k v) j d) ≡ f j
  stored_below there done e j l =
      ⊎_elim
      (λ (same : j ≡ k). subst (λ (i : ℕ). see (get_or (set r k v) i d) ≡ f i) (sym same) (ap see (get_or-set_same r k v d there) ∙ e))
      (λ (lower : j < k). ap see (get_or-set_other r k j v d (λ same. omega arith)) ∙ done j lower)
      (eq-or-lt_of_le (omega arith))

  pub stored_above : (j : ℕ) → k + 1 ≤ j → see (get_or (set r k v) j d) ≡ see (get_or r j d)
  stored_above j l = ap see (get_or-set_other r k j v d (λ same. omega arith))

-- Of n entries those below k are f's already, and the rest are still g's.
pub record Filled (n : ℕ) (f g : ℕ → ℕ) (k : ℕ) (r : List ℕ) : Type 0 where
  pub size : length r ≡ n
  pub done : (j : ℕ) → j < k → get_or r j 0 ≡ f j
  pub rest : (j : ℕ) → k ≤ j → get_or r j 0 ≡ g j

-- a list of zeros, before the first store
pub filled_none : (n : ℕ) (f : ℕ → ℕ) (r : List ℕ) → r ≡ replicate n 0 → Filled n f (λ j. 0) 0 r
filled_none n f r e = record {
  size = ap length e ∙ length-replicate {A = ℕ} n 0;
  done = λ j h. absurd (omega arith);
  rest = λ j h. ap (λ (l : List ℕ). get_or l j 0) e ∙ at_zeros n j;
}

-- a list that the loop changes from k on, where f keeps what stands below k
pub filled_from : (n : ℕ) (f : ℕ → ℕ) (k : ℕ) (r : List ℕ) → length r ≡ n → ((j : ℕ) → j < k → f j ≡ get_or r j 0) → Filled n f (λ j. get_or r j 0) k r
filled_from n f k r size same = record { size = size; done = λ j l. sym (same j l); rest = λ j l. refl }

module _ {n : ℕ} {f g : ℕ → ℕ} {k : ℕ} {r : List ℕ} (h : Filled n f g k r) where
  pub filled_more : (v : ℕ) → k < n → v ≡ f k → Filled n f g (k + 1) (set r k v)
  filled_more v l e = record {
    size = length-set r k v ∙ h.size;
    done = stored_below (λ x. x) 0 f r k v (let s = h.size in omega arith) h.done e;
    rest = λ j lj. stored_above (λ x. x) 0 f r k v j lj ∙ h.rest j (omega arith);
  }

  -- once f is g from k on, the list is complete
  pub filled_all : ((j : ℕ) → k ≤ j → f j ≡ g j) → r ≡ tabulate n f
  filled_all past = is_tabulate n f r h.size (λ j l. go j (dec_lt j k))
    where
      go : (j : ℕ) → Dec (j < k) → get_or r j 0 ≡ f j
      go j (yes lower) = h.done j lower
      go j (no upper) = h.rest j (omega arith) ∙ sym (past j (omega arith))

  -- the entries are below p where f's and g's are
  pub filled_below : {p : ℕ} → ((j : ℕ) → f j < p) → ((j : ℕ) → g j < p) → (j : ℕ) → get_or r j 0 < p
  filled_below {p} low rest j = go (dec_lt j k)
    where
      go : Dec (j < k) → get_or r j 0 < p
      go (yes l) = rw (h.done j l) (low j)
      go (no l) = rw (h.rest j (omega arith)) (rest j)

module _ {n : ℕ} {f : ℕ → ℕ} {k : ℕ} {r : List ℕ} (h : Filled n f (λ j. 0) k r) where
  -- where a test holds below k and nowhere else, what was a list of zeros has f's values where it holds
  pub filled_where : (test : ℕ → Bool) → ((j : ℕ) → j < k → test j ≡ true) → ((j : ℕ) → k ≤ j → test j ≡ false) → r ≡ tabulate n (λ j. cond (test j) (f j) 0)
  filled_where test below from = is_tabulate n _ r h.size (λ j l. go j (dec_lt j k))
    where
      go : (j : ℕ) → Dec (j < k) → get_or r j 0 ≡ cond (test j) (f j) 0
      go j (yes l) = h.done j l ∙ sym (simp (below j l))
      go j (no l) = h.rest j (omega arith) ∙ sym (simp (from j (omega arith)))

  -- so where the loop ends at m
  pub filled_up_to : (m : ℕ) → k ≡ m → r ≡ tabulate n (λ j. cond (ltb j m) (f j) 0)
  filled_up_to m e = filled_where (λ j. ltb j m) (λ j l. lt-ltb j m (omega arith)) (λ j l. le-ltb j m (omega arith))
