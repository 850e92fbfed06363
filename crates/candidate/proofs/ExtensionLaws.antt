-- What the code's steps make of a candidate is what the definitions say.
use mathlib.Core.Path.{◌≡◌, refl, sym, ap, subst, ◌∙◌}
use mathlib.Core.Logic.{⊎_elim}
use mathlib.Core.Bool.{Bool, true, false, ◌&&◌, cond}
use mathlib.Core.List.{List, []}
use Prim.Native.Nat.{ℕ, zero, suc, ◌+◌, ◌≤◌, ◌<◌}
use native.Mathlib.Nat.{eq-or-lt_of_le}
use native.Mathlib.Numerals.{add-one}
use native.Mathlib.Omega.{arith}
use lib.Dec.{ltb}
use lib.ListN.{length, get_or, set}
use lib.Seq.{set-get_or}
use borrow.Author.Tests.{lt-ltb, le-ltb}
use Rattle.std.specs.Prelude.{Option, Some, None, option_and_then}
use Rattle.std.specs.Option.{option_map}
use Rattle.format.specs.declared.Bounds.{Bounds}
use Rattle.format.specs.Bounds.{numerator_bound_of, prime_of}
use Rattle.poly.specs.declared.Poly.{Poly}
use Rattle.poly.specs.declared.Vector.{Vector}
use Rattle.poly.specs.Coefficients.{Bounded}
use Rattle.poly.specs.Operations.{length_of, product_of}
use Rattle.poly.proofs.Lengths.{length_at_most}
use Rattle.poly.proofs.Products.{product_one}
use Rattle.candidate.specs.Extensions.{numerator_at, Fitting, raised_at, raised_below, with_output, extended_of}

-- steps one after the other, of which each can find that there is no answer
module _ (after : ℕ → Option Vector) (step : ℕ → Vector → Option Vector) (steps : (i : ℕ) → after (suc i) ≡ option_and_then (step i) (after i)) where
  pub step_made : (i : ℕ) {r : Vector} {t : Option Vector} → Some r ≡ after i → t ≡ step i r → t ≡ after (i + 1)
  step_made i e et = et ∙ ap (option_and_then (step i)) e ∙ sym (steps i) ∙ ap after (sym (add-one i))

  stays_none : (i n : ℕ) → i ≤ n → None ≡ after i → None ≡ after n
  stays_none i zero l e = subst (λ k. None ≡ after k) (omega arith) e
  stays_none i (suc n) l e =
      ⊎_elim (λ (same : i ≡ suc n). subst (λ k. None ≡ after k) same e)
      (λ (lower : i < suc n). ap (option_and_then (step n)) (stays_none i n (omega arith) e) ∙ sym (steps n)) (eq-or-lt_of_le l)

  -- where one finds it, there is none after more steps
  pub none_after : (i n : ℕ) {r : Vector} {t : Option Vector} → i < n → Some r ≡ after i → None ≡ step i r → t ≡ None → t ≡ after n
  none_after i n l e none et = et ∙ stays_none (i + 1) n (omega arith) (step_made i e none)

-- one numerator times h
module _ (b : Bounds) (h : List ℕ) (j : ℕ) (v : Vector) where
  pub raised_too_long : 0 < length_of (numerator_at v j) → numerator_bound_of b j + 2 < length_of (numerator_at v j) + length_of h
      → None ≡ raised_at b h j v
  unfolding raised_at
  raised_too_long l m = simp (lt-ltb _ _ l, lt-ltb _ _ m)

  pub raised-fits : (a : Poly) → (0 < length_of (numerator_at v j) → length_of (numerator_at v j) + length_of h ≤ numerator_bound_of b j + 2)
      → a.c ≡ product_of (prime_of b) (numerator_at v j) h
      → Some (record { g = v.g; f = set v.f j a }) ≡ raised_at b h j v
  unfolding raised_at
  raised-fits a short e =
      ap (λ (l : List ℕ). Some (record { g = v.g; f = set v.f j (record { c = l }) })) e
      ∙ rw (not_both (length_of (numerator_at v j)) (numerator_bound_of b j + 2) (length_of (numerator_at v j) + length_of h) short)
    where
      not_both : (l m n : ℕ) → (0 < l → n ≤ m) → (ltb 0 l && ltb m n) ≡ false
      not_both zero m n k = refl
      not_both (suc l) m n k = simp (lt-ltb 0 (suc l) (omega arith), le-ltb m n (k (omega arith)))

-- the numerators of the first outputs times h
module _ (b : Bounds) (h : List ℕ) (v : Vector) where
  pub raised_none : Some v ≡ raised_below b h 0 v
  unfolding raised_below
  raised_none = refl

  pub raised_steps : (j : ℕ) → raised_below b h (suc j) v ≡ option_and_then (raised_at b h j) (raised_below b h j v)
  unfolding raised_below
  raised_steps j = refl

-- one output more, whose fraction is a / h
module _ (b : Bounds) (i : ℕ) (a h : List ℕ) where
  pub output_added : (g : List ℕ) (r : Vector) (w : Poly) → w.c ≡ product_of (prime_of b) g h
      → ◌≡◌ {A = Vector} (record { g = w; f = set r.f i (record { c = a }) }) (with_output b i a g h r)
  unfolding with_output
  output_added g r w e = ap (λ (l : List ℕ). record { g = record { c = l }; f = set r.f i (record { c = a }) }) e

  module _ (v : Vector) where
    pub denominator_too_long : b.dg + 2 < length_of v.g.c + length_of h → None ≡ extended_of b i a h v
    unfolding extended_of
    denominator_too_long l = simp (lt-ltb _ _ l)

    pub numerator_too_long : numerator_bound_of b i + 1 < length_of a → None ≡ extended_of b i a h v
    unfolding extended_of
    numerator_too_long l = by (ltb (b.dg + 2) (length_of v.g.c + length_of h))
      where
        by : (t : Bool) → None ≡ cond t None (cond (ltb (numerator_bound_of b i + 1) (length_of a)) None (option_map (with_output b i a v.g.c h) (raised_below b h i v)))
        by true = refl
        by false = simp (lt-ltb _ _ l)

    pub extended_is : length_of v.g.c + length_of h ≤ b.dg + 2 → length_of a ≤ numerator_bound_of b i + 1
        → option_map (with_output b i a v.g.c h) (raised_below b h i v) ≡ extended_of b i a h v
    unfolding extended_of
    extended_is l m = simp (le-ltb _ _ l, le-ltb _ _ m)

-- where h is 1, the earlier numerators stay
module _ {b : Bounds} {h : List ℕ} (bh : Bounded (prime_of b) 1 h) (constant : get_or h 0 0 ≡ 1) {v : Vector} (F : Fitting b v)
    (sizes : (j : ℕ) → j < 4 → length (numerator_at v j) ≡ 32) where
  -- a product with h is no longer than the other factor
  fits : (m : ℕ) (f : List ℕ) → Bounded (prime_of b) (m + 1) f → length_of f + length_of h ≤ m + 2
  fits m f bf = omega (arith, length_at_most f (m + 1) bf.within, length_at_most h 1 bh.within)

  one_raised_at : (j : ℕ) → j < 4 → raised_at b h j v ≡ Some v
  one_raised_at j l =
      sym (raised-fits b h j v (get_or v.f j (record { c = [] })) (λ _. fits _ _ (F.numerators j)) (sym (product_one (F.numerators j) bh constant (sizes j l))))
      ∙ ap (λ (f : List Poly). Some (record { g = v.g; f = f })) (set-get_or v.f j _)

  one_raised : (i : ℕ) → i ≤ 4 → raised_below b h i v ≡ Some v
  unfolding raised_below
  one_raised zero l = refl
  one_raised (suc i) l = ap (option_and_then (raised_at b h i)) (one_raised i (omega arith)) ∙ one_raised_at i (omega arith)

  pub one_extended : (i : ℕ) (a : List ℕ) → i < 4 → length_of a ≤ numerator_bound_of b i + 1
      → Some (with_output b i a v.g.c h v) ≡ extended_of b i a h v
  one_extended i a l m =
      ap (option_map (with_output b i a v.g.c h)) (sym (one_raised i (omega arith))) ∙ extended_is b i a h v (fits _ _ F.denominator) m
