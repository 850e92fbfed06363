-- Horner's rule from the top coefficient down.
use mathlib.Core.Path.{◌≡◌, refl, ◌∙◌}
use mathlib.Core.List.{List, [], ◌∷◌}
use Prim.Native.Nat.{ℕ, suc, ◌+◌, ◌*◌, ◌%◌, ◌≤◌, ◌<◌}
use native.Mathlib.Nat.{mod-lt}
use native.Mathlib.Omega.{arith}
use lib.ListN.{get_or, length, drop}
use lib.Seq.{drop-cons, get_or-drop}
use Rattle.poly.specs.Operations.{value_of}
use Rattle.poly.proofs.Bounds.{zero_remainder}

pub value_zeros : (p x : ℕ) (a : List ℕ) → ((k : ℕ) → get_or a k 0 ≡ 0) → value_of p x a ≡ 0
unfolding value_of
value_zeros p x [] h = refl
value_zeros p x (c ∷ cs) h =
    let rest = value_zeros p x cs (λ k. h (suc k)) in
    let top = h 0 in
    let sum : c + x * value_of p x cs ≡ 0 = rw (rest, top) (omega arith) in
    zero_remainder p _ sum

-- what the loop starts from: nothing from i on, where i is at least n
pub value-start : (p x n i : ℕ) (a : List ℕ) → n ≤ i → ((k : ℕ) → n ≤ k → get_or a k 0 ≡ 0) → value_of p x (drop i a) ≡ 0
value-start p x n i a l h = value_zeros p x (drop i a) (λ k. get_or-drop i a k 0 ∙ h (i + k) (omega arith))

-- one coefficient more
pub value_more : (p x : ℕ) (a : List ℕ) (i : ℕ) → i < length a → value_of p x (drop i a) ≡ (get_or a i 0 + x * value_of p x (drop (suc i) a)) % p
unfolding value_of
value_more p x a i l = rw (drop-cons a i 0 l)

pub value_below : (p x : ℕ) (a : List ℕ) → 0 < p → value_of p x a < p
unfolding value_of
value_below p x [] h = h
value_below p x (c ∷ cs) h = mod-lt _ h
