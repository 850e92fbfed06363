-- The first places of four zeros, filled.
use mathlib.Core.Bool.{cond}
use mathlib.Core.List.{List, [], ◌∷◌, ◌++◌}
use mathlib.Core.Path.{◌≡◌, refl, ap, ◌∙◌}
use Prim.Native.Nat.{ℕ, zero, suc, ◌≤◌}
use lib.Dec.{ltb}
use lib.ListN.{drop, length, replicate, take}
use native.Mathlib.Omega.{arith}
use Rattle.lists.specs.Tabulated.{tabulate}
use Rattle.header.proofs.without_added.Goals as goal

abbrev zeros : List ℕ
zeros = 0 ∷ 0 ∷ 0 ∷ 0 ∷ []

front : (n v : ℕ) → n ≤ 4 → replicate (length (take n zeros)) v ++ drop n zeros ≡ tabulate 4 (λ i. cond (ltb i n) v 0)
unfolding tabulate
front zero v l = refl
front (suc zero) v l = refl
front (suc (suc zero)) v l = refl
front (suc (suc (suc zero))) v l = refl
front (suc (suc (suc (suc zero)))) v l = refl
front (suc (suc (suc (suc (suc n))))) v l = absurd (omega arith)

pub returns : goal.returns
returns c = (ap (λ l. l ++ drop c.args.outputs zeros) (c.fill.ensures.after (λ y e. e)) ∙ front c.args.outputs c.args.df c.requires, refl)
