-- The table's rule is computed once over all entries: entry 0 is 0, and each other is below 257 and leaves 1 times its index.
use Prim.Native.Nat.{ℕ, zero, suc, ◌*◌, ◌%◌}
use mathlib.Core.Path.{◌≡◌, refl, ap, ◌∙◌}
use mathlib.Core.Bool.{Bool, true, false, cond, ◌&&◌, and-eq-true_iff}
use mathlib.Core.List.{List}
use lib.ListN.{get_or, length}
use lib.Dec.{eqb, ltb, lit<}
use borrow.Author.Tests.{eqb-true, lt-ltb, ltb-true}
use Rattle.std.specs.Prelude.{unwrap_or}
use Rattle.reciprocal.specs.Reciprocals.{table_entry}
use Rattle.reciprocal.proofs.Reciprocals.{reciprocal_is, zero_has_none}
use Rattle.reciprocal.proofs.Table.{at_entry, every}
use Rattle.reciprocal.proofs.table257.entry_at.Goals as goal

-- the rule at one entry
fits : ℕ → ℕ → Bool
fits zero x = eqb x 0
fits (suc k) x = ltb x 257 && eqb (x * suc k % 257) 1

fits-is : (k x : ℕ) → fits k x ≡ true → x ≡ table_entry k
unfolding fits
fits-is zero x t = eqb-true x 0 t ∙ ap (λ o. unwrap_or o 0) (zero_has_none 257 0 (lit< tt) refl)
fits-is (suc k) x t =
    let parts = (and-eq-true_iff (ltb x 257) (eqb (x * suc k % 257) 1)).0 t in
    ap (λ o. unwrap_or o 0) (reciprocal_is 257 (suc k) x (ltb-true x 257 parts.0) (eqb-true (x * suc k % 257) 1 parts.1))

-- The rule as an equation that asks nothing, so that it fits whatever list the code holds: where the test passes at every entry, the one at k is
-- the table's.
abbrev entryOr : (fit : Bool) → List ℕ → ℕ → ℕ
entryOr fit xs k = cond fit (table_entry k) (get_or xs k 0)

checked-entry : (xs : List ℕ) (k : ℕ) → get_or xs k 0 ≡ cond (every fits 0 xs) (entryOr (ltb k (length xs)) xs k) (get_or xs k 0)
checked-entry xs k = go (every fits 0 xs) refl (ltb k (length xs)) refl
  where
    go : (b : Bool) → every fits 0 xs ≡ b → (d : Bool) → ltb k (length xs) ≡ d → get_or xs k 0 ≡ cond b (entryOr d xs k) (get_or xs k 0)
    go false e d f = refl
    go true e false f = refl
    go true e true f = fits-is k (get_or xs k 0) (at_entry fits xs e k (ltb-true k (length xs) f))

pub returns : goal.returns
unfolding fits
returns c = rw checked-entry (simp (lt-ltb _ _ c.requires))
