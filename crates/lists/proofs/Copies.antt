-- Bytes copied to the front of old ones, one after the other.
use Prim.Native.Nat.{ℕ, suc, ◌+◌, ◌<◌}
use mathlib.Core.List.{List, ◌++◌}
use mathlib.Core.Path.{◌≡◌, sym, ap, ap₂, ◌∙◌}
use native.Mathlib.Nat.{zero-add}
use native.Mathlib.Omega.{arith}
use lib.ListN.{length, get_or, set, drop}
use lib.Seq.{paste, paste-suc, take-length}
use Rattle.lists.specs.Overwriting.{overwritten}

module _ (bytes old : List ℕ) where
  -- one byte more
  pub copy_next : (now : List ℕ) (k : ℕ) → k < length bytes → k < length old → now ≡ paste old 0 bytes k → set now k (get_or bytes k 0) ≡ paste old 0 bytes (k + 1)
  copy_next now k inside room copied =
      let place : 0 + k ≡ k = omega arith in
      let next : suc k ≡ k + 1 = omega arith in
      ap (λ l. set l k (get_or bytes k 0)) copied ∙ ap (λ j. set (paste old 0 bytes k) j (get_or bytes k 0)) (sym place)
      ∙ paste-suc old 0 bytes k 0 (omega arith) inside ∙ ap (paste old 0 bytes) next

  -- all of them
  pub copy_all : paste old 0 bytes (length bytes) ≡ overwritten bytes old
  copy_all = ap₂ (λ l k. l ++ drop k old) (take-length bytes) (zero-add (length bytes))
