-- The bounds before the index are read, and the cursor stands behind them; so the flags begin at bit 44.
use Prim.Native.Nat.{◌+◌, ◌*◌}
use mathlib.Core.Path.{◌≡◌}
use Rattle.cursor.specs.Bits.{field_of}
use Rattle.lists.proofs.Filling.{Filled}
use Rattle.header.proofs.read_added.Given as goal

abbrev pub invariant-loop-bound : goal.invariant-loop-bound
invariant-loop-bound l =
    (l.at.at ≡ 24 + 5 * l.bound-index) × Filled 4 (λ k. field_of l.s (24 + 5 * k) 5) (λ k. 0) l.bound-index l.bound-items
