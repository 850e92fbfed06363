-- One thing put behind another.
use Rattle.std.proofs.Common.{◌≡◌, ℕ, zero, suc, ◌+◌, ◌-◌, ◌≤◌, List, [], ◌∷◌, ◌++◌, length, take, refl, sym, ap, ◌∙◌, arith}
use Rattle.std.specs.Prelude.{min}
use mathlib.Core.List.{append_assoc, append-nil}
use Rattle.std.proofs.Math.ListN.{length-append}
use Rattle.std.proofs.lemmas.List.{take_min, length-take, drop_all}
use Rattle.std.proofs.lemmas.Slice.{take-put_mid}
use borrow.Rule.Slice.PartMut.{put_mid}
use Rattle.lists.specs.Overwriting.{overwritten}
use Rattle.text.specs.Drafts.{text_room, extended}

-- bytes put in place of as many others
pub put_all : (ys old : List ℕ) → length old ≤ length ys → overwritten ys old ≡ ys
put_all ys old few = ap (λ l. ys ++ l) (drop_all (length ys) old few) ∙ append-nil ys

-- ys, as much of `more` as there is room for, is written behind the first count bytes
pub put_fits : (bytes more ys : List ℕ) (count n k : ℕ) → length bytes ≡ text_room → count ≤ text_room → n ≡ min (length more) (text_room - count) → ys ≡ take n more
    → take (count + n) (put_mid count k bytes ys) ≡ extended (take count bytes) more
put_fits bytes more ys count n k whole room fits part =
    let front : length (take count bytes) ≡ count = omega (arith, length-take count bytes) in
    let size : length ys ≡ n = ap length part ∙ omega (arith, length-take n more) in
    let smaller : n ≡ min (text_room - length (take count bytes)) (length more) = omega arith in
    take-put_mid count k bytes ys (count + n) (omega arith) (omega arith)
    ∙ ap (λ l. take count bytes ++ l) (part ∙ ap (λ i. take i more) smaller ∙ take_min (text_room - length (take count bytes)) more)

take-append : (n : ℕ) (a b : List ℕ) → take n (a ++ b) ≡ take n a ++ take (n - length a) b
take-append zero a b = let e : 0 - length a ≡ 0 = omega arith in rw e
take-append (suc n) [] b = let e : suc n - 0 ≡ suc n = omega arith in rw e
take-append (suc n) (x ∷ a) b = let e : suc n - suc (length a) ≡ n - length a = omega arith in rw e (ap (λ l. x ∷ l) (take-append n a b))

take-nil : (n : ℕ) → take {A = ℕ} n [] ≡ []
take-nil zero = refl
take-nil (suc n) = refl

pub extended-nil : (x : List ℕ) → extended x [] ≡ x
extended-nil x = ap (λ l. x ++ l) (take-nil (text_room - length x)) ∙ append-nil x

-- a and then b behind x
pub put_both : (x a b : List ℕ) {d r : List ℕ} → d ≡ extended x a → r ≡ extended d b → r ≡ extended x (a ++ b)
put_both x a b first second =
    let room = text_room - length x in
    let left : text_room - length (x ++ take room a) ≡ room - length a = omega (arith, length-append x (take room a), length-take room a) in
    second
    ∙ ap (λ d. extended d b) first
    ∙ append_assoc x (take room a) (take (text_room - length (x ++ take room a)) b)
    ∙ ap (λ n. x ++ (take room a ++ take n b)) left
    ∙ ap (λ l. x ++ l) (sym (take-append room a b))

-- the pieces of a recovered text, in whichever order they are put together
pub pieces : (a b line c d e f g h : List ℕ) → (a ++ b ++ (line ++ c) ++ d ++ (line ++ e) ++ f ++ g) ++ h ≡ a ++ b ++ line ++ c ++ d ++ line ++ e ++ f ++ g ++ h
pieces a b line c d e f g h = simp append_assoc
