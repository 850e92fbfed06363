-- For a reader: the condition can be met. H8's job of paper 01 under both headers, with the bounds 1 and 1.
use mathlib.Core.Bool.{cond}
use mathlib.Core.List.{List, [], ◌∷◌}
use mathlib.Core.Path.{◌≡◌, refl, sym, ap, ◌∙◌}
use Prim.Native.Nat.{ℕ, ◌+◌, ◌*◌, ◌<◌}
use native.Mathlib.Omega.{arith}
use lib.Dec.{ltb}
use lib.ListN.{get_or}
use Rattle.lists.specs.Tabulated.{tabulate}
use Rattle.lists.proofs.Tabulated.{at_tabulate}
use Rattle.cursor.specs.Bits.{bit_of, field_of}
use Rattle.header.specs.Header.{outputs_of, df_of, spare_bit_of}
use Rattle.either_header.specs.EitherHeader.{SameJob}

abbrev rows : List ℕ
rows = 0 ∷ 0 ∷ 0 ∷ 1 ∷ 0 ∷ 0 ∷ 0 ∷ 1 ∷ 0 ∷ 4 ∷ 0 ∷ 4 ∷ 0 ∷ 2 ∷ 0 ∷ 5 ∷ 0 ∷ 3 ∷ []

abbrev short : List ℕ
short = 0x11 ∷ 0x84 ∷ 0x20 ∷ rows

abbrev longer : List ℕ
longer = 0x11 ∷ 0x84 ∷ 0x21 ∷ 0x08 ∷ 0x40 ∷ 0x00 ∷ 0x00 ∷ rows

-- functions with the same list agree
agree : (n : ℕ) (f g : ℕ → ℕ) → tabulate n f ≡ tabulate n g → (k : ℕ) → k < n → f k ≡ g k
agree n f g e k l = sym (at_tabulate n f k l) ∙ ap (λ (t : List ℕ). get_or t k 0) e ∙ at_tabulate n g k l

same-job : SameJob short longer
unfolding tabulate field_of outputs_of df_of spare_bit_of
same-job = record {
  short = (omega arith, refl);
  longer = (omega arith, refl);
  fields = agree 23 (bit_of longer) (bit_of short) refl;
  bounds = agree 4 (λ i. field_of longer (24 + 5 * i) 5) (λ i. cond (ltb i (outputs_of short)) (df_of short) 0) refl;
  flags = refl;
  rows = refl;
}
