-- All four bounds are read (`is_tabulate`), and the flags begin at bit 44.
use Prim.Native.Nat.{ℕ}
use mathlib.Core.Path.{◌≡◌, ap, ◌∙◌}
use native.Mathlib.Omega.{arith}
use Rattle.lists.proofs.Tabulated.{is_tabulate}
use Rattle.cursor.specs.Bits.{field_of}
use Rattle.header.proofs.read_added.Goals as goal

pub returns : goal.returns
returns c =
    let filled = c.loop-bound.invariant.1 in
    let flags-at : c.loop-bound.at.at ≡ 44 = omega arith in (
      is_tabulate 4 _ _ filled.size (λ k l. filled.done k (omega arith)),
      c.take-flags.ensures.0 ∙ ap (λ (at : ℕ). field_of c.args.s.now at 12) flags-at,
    )
