-- Part j of the word is the row's number j (`parts`); the fifth number, where there is one, is read by itself.
use Prim.Native.Nat.{ℕ, ◌+◌, ◌*◌, ◌≤◌, ◌<◌}
use mathlib.Core.Bool.{cond}
use mathlib.Core.List.{List, [], ◌∷◌}
use mathlib.Core.Path.{◌≡◌, ap, ◌∙◌}
use borrow.Author.Tests.{lt-ltb}
use lib.Dec.{ltb}
use lib.ListN.{get_or}
use native.Mathlib.Nat.{zero-add}
use native.Mathlib.Omega.{arith}
use Rattle.std.proofs.lemmas.Bool.Decides.{nat_tests}
use Rattle.format.specs.Numbers.{number_from}
use Rattle.lists.specs.Tabulated.{tabulate}
use Rattle.read_u64.specs.Words.{joined_bytes, part_of}
use Rattle.read_u64.proofs.Parts.{parts}
use Rattle.rows.specs.declared.Row.{Row}
use Rattle.rows.specs.Steps.{row_of}
use Rattle.rows.proofs.read_long_row.Goals as goal

module _ (bytes : List ℕ) (outputs w : ℕ) (small : (k : ℕ) → get_or bytes k 0 < 256) (word : w ≡ joined_bytes bytes 0 8) where
  -- part j of the word is the row's number j
  number : (j : ℕ) {r : ℕ} → j < 4 → r ≡ part_of w j → r ≡ number_from bytes (2 * j)
  number j l e =
      e
      ∙ ap (λ (x : ℕ). part_of x j) word
      ∙ parts bytes small 0 j l
      ∙ ap (number_from bytes) (zero-add (2 * j))

  value : (i : ℕ) {r : ℕ} → i < 3 → i < outputs → r ≡ part_of w (1 + i) → r ≡ cond (ltb i outputs) (number_from bytes (2 * (1 + i))) 0
  value i l here e = let there = lt-ltb i outputs here in rw there (number (1 + i) (omega arith) e)

  -- the row, with the number that is left over
  row : {p x y z v : ℕ} → 3 ≤ outputs → p ≡ part_of w 0 → x ≡ part_of w 1 → y ≡ part_of w 2 → z ≡ part_of w 3
      → v ≡ cond (ltb 3 outputs) (number_from bytes 8) 0
      → ◌≡◌ {A = Row} record { point = p; values = x ∷ y ∷ z ∷ v ∷ [] } (row_of bytes outputs)
  unfolding row_of tabulate
  row more ep ex ey ez last =
      let point = number 0 (omega arith) ep in
      let first = value 0 (omega arith) (omega arith) ex in
      let second = value 1 (omega arith) (omega arith) ey in
      let third = value 2 (omega arith) (omega arith) ez in
      λ i. record { point = point i; values = first i ∷ second i ∷ third i ∷ last i ∷ [] }

pub returns : goal.returns
returns c =
    row c.args.bytes.now c.args.outputs c.read_u64-word.result (λ k. (c.type_inv.bytes k).fits) c.read_u64-word.ensures
    (omega arith)
    c.part.ensures
    c.part-2.ensures
    c.part-3.ensures
    c.part-4.ensures
    (grind (arith, nat_tests))
