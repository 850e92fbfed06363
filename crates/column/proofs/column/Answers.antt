use mathlib.Core.Path.{◌≡◌, refl}
use native.Mathlib.Omega.{arith}
use borrow.Author.Rules.{rules}
use Rattle.field.proofs.Moduli.{modulus_positive, residue_below}
use Rattle.lists.proofs.Filling.{filled_none, filled_below}
use Rattle.column.specs.Columns.{column_of}
use Rattle.column.proofs.Columns.{column_all}
use Rattle.format.proofs.Sizes.{denominator-low}
use Rattle.column.proofs.column.Goals as goal

pub values-denominators-requires : goal.values-denominators-requires
values-denominators-requires c =
    let low = denominator-low c.requires.0 in
    search rules

pub returns : goal.returns
unfolding column_of
returns c =
    let all : c.loop-l.l ≡ c.args.b.rows = omega arith in
    let stored = rw all at c.loop-l.invariant in (
      λ points h. column_all _ _ points _ _ _ (omega arith) (c.values-denominators.ensures points h) stored,
      filled_below stored (λ k. residue_below c.args.b.prime _) (λ k. modulus_positive c.args.b.prime),
      c.active_rows.ensures,
    )

pub overflow_add-b : goal.overflow_add-b
overflow_add-b c = omega (arith, denominator-low c.requires.0)

pub loop-l-init : goal.loop-l-init
loop-l-init c = filled_none 32 _ _ refl
