use mathlib.Core.Path.{◌≡◌, refl, ◌∙◌}
use Prim.Native.Nat.{ℕ, ◌+◌, ◌-◌, ◌<◌}
use lib.ListN.{get_or, length, replicate}
use Rattle.field.proofs.Moduli.{modulus_positive}
use Rattle.lists.proofs.Tabulated.{at_zeros}
use Rattle.lanes.specs.Lanes.{modulus_at, Residues}
use Rattle.lanes_meaning.proofs.Meaning.{stored_replaced, horner_below}
use Rattle.evaluation.proofs.Steps.{values-start, values-step, narrow_formed}
use borrow.Author.Rules.{rules}
use native.Mathlib.Omega.{arith}
use Rattle.evaluation.proofs.values.Goals as goal

pub loop-k-init : goal.loop-k-init
loop-k-init c =
    let e = c.new-m.ensures.constants.number in
    let zero : (l : ℕ) → get_or (replicate 32 0) l 0 < modulus_at c.new-m.result.p = λ l. rw (at_zeros 32 l, e) (modulus_positive c.args.q) in
    (record { size = refl; below = zero }, λ points h. values-start _ _ _ points _ c.requires.2.within)

pub horner-requires : goal.horner-requires
horner-requires c =
    let e = c.new-m.ensures.constants.number in
    let narrow = narrow_formed c.args.q c.requires.3 in
    let forms : Residues c.new-m.result.p c.args.xs.now = record { size = narrow.size; below = λ l. rw e (narrow.below l) } in
    (c.requires.0, forms, c.loop-k.invariant.0, rw e (c.requires.2.residues (c.loop-k.k - 1)))

pub loop-k-preserved : goal.loop-k-preserved
loop-k-preserved c =
    let m = c.new-m.ensures in
    let low : get_or c.args.a.c (c.loop-k.k - 1) 0 < modulus_at c.new-m.result.p = rw m.constants.number (c.requires.2.residues (c.loop-k.k - 1)) in
    let size_of : length c.args.a.c ≡ 32 = search rules in
    let k = c.loop-k.k in
    let inv = c.loop-k.invariant in
    let e = c.horner.ensures.1 in
    let next : k - 1 + 1 ≡ k = omega arith in
    let size = size_of in (
      rw e (stored_replaced _ _ _ inv.0 (λ l h. horner_below m.constants l h _ _ _ _)),
      λ points h. e ∙ values-step m.constants m.inverses _ c.requires.0 points c.args.a.c _ _ (k - 1) _ h (rw next (inv.1 points h)) (omega arith) refl low,
    )
