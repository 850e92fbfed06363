-- What `any` gives of a list, as a search among its places.
use mathlib.Core.Bool.{Bool, true, false, ◌&&◌, ◌||◌}
use mathlib.Core.List.{List}
use mathlib.Core.Path.{◌≡◌, refl, sym, ap, ap₂, ◌∙◌}
use Prim.Native.Nat.{ℕ, zero, suc, ◌+◌, ◌-◌, ◌≤◌, ◌<◌}
use native.Mathlib.Nat.{le_refl}
use native.Mathlib.Numerals.{add-one}
use native.Mathlib.Omega.{arith}
use borrow.Author.Tests.{lt-leb, le-leb}
use lib.Dec.{leb}
use lib.ListN.{length, get_or, take, drop}
use Rattle.std.specs.Prelude.{Option, Some, None}
use Rattle.std.specs.List.{list_any}
use Rattle.std.proofs.Math.Seq.{take-length}
use Rattle.std.proofs.lemmas.List.Folds.{list_any_more}
use Rattle.std.proofs.lemmas.List.{get_or-drop, length-drop}
use Rattle.lists.proofs.FirstBelow.{first_cong, none_below}
use Rattle.lists.specs.Search.{first_below, any_below, or_else, if_holds, is_found}

found_or : (f : Option ℕ) (b : Bool) (n : ℕ) → (is_found f || b) ≡ is_found (or_else f (if_holds b n))
found_or (Some i) b n = refl
found_or None true n = refl
found_or None false n = refl

module _ {X : Type 0} (test : X → Bool) (xs : List X) (d : X) where
  -- whether one of the first n elements passes the test is whether one of the first n places does
  pub list_any-take : (n : ℕ) → n ≤ length xs → list_any test (take n xs) ≡ any_below n (λ i. test (get_or xs i d))
  unfolding first_below
  list_any-take zero l = refl
  list_any-take (suc n) l =
      let more = list_any_more test xs n d (omega arith) in
      rw (add-one n) at more ∙ rw (list_any-take n (omega arith)) (found_or (first_below n (λ i. test (get_or xs i d))) (test (get_or xs n d)) n)

  -- the same of all
  pub list_any-any_below : list_any test xs ≡ any_below (length xs) (λ i. test (get_or xs i d))
  list_any-any_below = sym (rw (take-length xs) refl) ∙ list_any-take (length xs) (le_refl _)

-- the same of n elements from a place on
pub list_any-slice : {X : Type 0} (test : X → Bool) (xs : List X) (d : X) (from n : ℕ) → from + n ≤ length xs
    → list_any test (take n (drop from xs)) ≡ any_below n (λ i. test (get_or xs (from + i) d))
list_any-slice test xs d from n l =
    list_any-take test (drop from xs) d n (omega (arith, length-drop from xs))
    ∙ ap is_found (first_cong n _ _ (λ i m. ap test (get_or-drop from xs i d)))

-- places from n on, counted from n
any_from : (test : ℕ → Bool) (n k : ℕ) → any_below k (λ i. test (n + i)) ≡ any_below (n + k) (λ i. leb n i && test i)
unfolding first_below
any_from test n zero =
    let none : (i : ℕ) → i < n + 0 → (leb n i && test i) ≡ false = λ i l. rw (lt-leb n i (omega arith)) refl in
    sym (ap is_found (none_below (λ i. leb n i && test i) (n + 0) none))
any_from test n (suc k) =
    let here : (leb n (n + k) && test (n + k)) ≡ test (n + k) = rw (le-leb n (n + k) (omega arith)) refl in
    let next : n + suc k ≡ suc (n + k) = omega arith in
    sym (found_or (first_below k (λ i. test (n + i))) (test (n + k)) k)
    ∙ ap₂ ◌||◌ (any_from test n k) (sym here)
    ∙ found_or (first_below (n + k) (λ i. leb n i && test i)) (leb n (n + k) && test (n + k)) (n + k)
    ∙ sym (ap (λ m. any_below m (λ i. leb n i && test i)) next)

-- whether an element from place n on passes the test
pub list_any-drop : {X : Type 0} (test : X → Bool) (xs : List X) (d : X) (n : ℕ) → n ≤ length xs
    → list_any test (drop n xs) ≡ any_below (length xs) (λ i. leb n i && test (get_or xs i d))
list_any-drop test xs d n l =
    let rest : n + (length xs - n) ≡ length xs = omega arith in
    list_any-any_below test (drop n xs) d
    ∙ ap (λ m. any_below m (λ i. test (get_or (drop n xs) i d))) (length-drop n xs)
    ∙ ap is_found (first_cong (length xs - n) _ _ (λ i m. ap test (get_or-drop n xs i d)))
    ∙ any_from (λ i. test (get_or xs i d)) n (length xs - n)
    ∙ ap (λ m. any_below m (λ i. leb n i && test (get_or xs i d))) rest
