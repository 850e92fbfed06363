use mathlib.Core.Path.{◌≡◌, ◌∙◌}
use native.Mathlib.Omega.{arith}
use borrow.Author.Rules.{rules}
use lib.ListN.{length}
use Rattle.euclid.proofs.Leading.{length_array, divisor_array, leading-residue, leading_is}
use Rattle.euclid.proofs.Steps.{bounded_remainder, bounded_quotient}
use Rattle.euclid.proofs.Loop.{progress_start, progress_step, progress_end}
use Rattle.euclid.proofs.division.divide.Goals as goal

-- the reciprocal that the code computes
pub nonzero_reciprocal-inverse-requires : goal.nonzero_reciprocal-inverse-requires
nonzero_reciprocal-inverse-requires c =
    let size : length c.args.b.c ≡ 32 = search rules in
    leading-residue (divisor_array c.args.q size c.requires.2 c.requires.3 c.requires.4)

pub loop-top-init : goal.loop-top-init
loop-top-init c =
    let size : length c.args.b.c ≡ 32 = search rules in
    let divisor = divisor_array c.args.q size c.requires.2 c.requires.3 c.requires.4 in
    let size-a : length c.args.a.c ≡ 32 = search rules in
    let inverse-is = c.nonzero_reciprocal-inverse.ensures ∙ leading_is divisor in
    (rw c.zero-quotient.ensures (progress_start divisor inverse-is c.args.a.c _ (omega arith) c.requires.0 size-a c.requires.1), size-a)

pub loop-top-preserved : goal.loop-top-preserved
loop-top-preserved c =
    let size : length c.args.b.c ≡ 32 = search rules in
    let divisor = divisor_array c.args.q size c.requires.2 c.requires.3 c.requires.4 in
    let inverse-is = c.nonzero_reciprocal-inverse.ensures ∙ leading_is divisor in
    (progress_step divisor inverse-is c.args.a.c c.args.la c.loop-top.invariant.0 (omega arith) c.product-k.ensures c.cancel.ensures.1, c.cancel.ensures.2)

pub returns : goal.returns
returns c =
    let size : length c.args.b.c ≡ 32 = search rules in
    let divisor = divisor_array c.args.q size c.requires.2 c.requires.3 c.requires.4 in
    let size-a : length c.args.a.c ≡ 32 = search rules in
    let inverse-is = c.nonzero_reciprocal-inverse.ensures ∙ leading_is divisor in
    let e = progress_end divisor inverse-is c.args.a.c c.args.la c.loop-top.invariant.0 (omega arith) in
    let q = bounded_quotient divisor c.requires.0 c.requires.1 size-a in
    let r = bounded_remainder divisor c.requires.0 c.requires.1 size-a in
    (e.0, rw e.0 q, e.1, rw e.1 r)

pub offset_bounds-b-lb : goal.offset_bounds-b-lb
offset_bounds-b-lb c =
    let size : length c.args.b.c ≡ 32 = search rules in
    omega (arith, length_array c.args.b.c size)

pub bounds-b-lb : goal.bounds-b-lb
bounds-b-lb c =
    let size : length c.args.b.c ≡ 32 = search rules in
    omega (arith, length_array c.args.b.c size)
