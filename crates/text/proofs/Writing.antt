-- What a call that writes a text answers, by its cases.
use Prim.Native.Nat.{ℕ, ◌≤◌}
use Rattle.std.specs.Prelude.{Option, Result, Ok}
use mathlib.Core.Path.{◌≡◌, ap₂, ◌∙◌}
use mathlib.Core.Bool.{true, ◌&&◌, and-eq-true_iff}
use mathlib.Core.List.{List}
use native.Mathlib.Omega.{arith}
use lib.Dec.{leb}
use lib.ListN.{length}
use borrow.Author.Tests.{le-leb, leb-true}
use Rattle.format.specs.declared.Bounds.{Bounds}
use Rattle.format.specs.declared.Recovered.{Recovered}
use Rattle.format.specs.declared.Refusal.{Refusal}
use Rattle.format.specs.Bounds.{largest_bound, FitsPolynomials}
use Rattle.format.proofs.Sizes.{largest_above, largest_most}
use Rattle.lists.specs.Overwriting.{overwritten}
use Rattle.text.specs.declared.TextError.{TextError}
use Rattle.text.specs.Text.{text_of, fits_of, written_of, buffer_after}

-- what is left of the test where its first two parts hold
pub fits_last : (b : Bounds) → b.outputs ≤ 4 → b.dg ≤ 31 → fits_of b ≡ leb (largest_bound b b.outputs) 31
fits_last b few low =
    ap₂ (λ x y. x && y && leb (largest_bound b b.outputs) 31) (le-leb b.outputs 4 few) (le-leb b.dg 31 low)

pub true_fits : (b : Bounds) → FitsPolynomials b → fits_of b ≡ true
true_fits b fits =
    fits_last b fits.few fits.denominator-low ∙ le-leb (largest_bound b b.outputs) 31 (largest_most b 31 b.outputs fits.numerators-low)

pub fits_true : (b : Bounds) → fits_of b ≡ true → FitsPolynomials b
fits_true b e =
    let all = (and-eq-true_iff (leb b.outputs 4 && leb b.dg 31) (leb (largest_bound b b.outputs) 31)).0 e in
    let first = (and-eq-true_iff (leb b.outputs 4) (leb b.dg 31)).0 all.0 in
    record {
      few = leb-true b.outputs 4 first.0;
      denominator-low = leb-true b.dg 31 first.1;
      numerators-low = λ i l. (let low = leb-true (largest_bound b b.outputs) 31 all.1 in omega (arith, largest_above b b.outputs i l));
    }

module _ (b : Bounds) (outcome : Option (Result Recovered Refusal)) (margin : ℕ) (s old : List ℕ) where
  -- the answer r and the buffer's contents are those of the definitions
  abbrev pub Told : Result ℕ TextError → List ℕ → Type 0
  Told r after = (r ≡ written_of b outcome margin s (length old)) × (after ≡ buffer_after b outcome margin s old)

  pub told_bytes : fits_of b ≡ true → (n : ℕ) → n ≡ length (text_of b outcome margin s) → n ≤ length old → Told (Ok n) (overwritten (text_of b outcome margin s) old)
  told_bytes good n size room =
      let test = le-leb (length (text_of b outcome margin s)) (length old) (omega arith) in
      (rw (size, good, test), rw (good, test))
