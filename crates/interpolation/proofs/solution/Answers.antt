use mathlib.Core.Path.{◌≡◌, refl}
use Prim.Native.Nat.{◌≤◌, ◌<◌}
use Rattle.field.specs.Primes.{modulus_of}
use Rattle.field.proofs.Moduli.{modulus_prime}
use Rattle.montgomery.proofs.Constants.{factor_at}
use Rattle.pairs.proofs.PairLaws.{reached_start, smaller_first, smaller_second}
use Rattle.evaluation.proofs.Steps.{at_row, narrow_forms}
use Rattle.pairs.proofs.Following.{start_is, one_held, zero_held, start-kept, kept_step, reached_more}
use native.Mathlib.Omega.{arith}
use Rattle.interpolation.specs.Start.{pair_at_start}
use Rattle.interpolation.proofs.Standing.{standing_ready, standing_next, standing_bounded}
use Rattle.interpolation.proofs.solution.Goals as goal

pub negations-requires : goal.negations-requires
negations-requires c =
    (omega (arith, c.requires.0.few), λ k. rw c.new-m.ensures.constants.number (c.requires.0.z_below k))

pub loop-k-init : goal.loop-k-init
loop-k-init c =
    let cond = c.requires.0 in
    let l : 1 < modulus_of c.args.q = (let t = (modulus_prime c.args.q).two in omega arith) in
    let negated = rw c.new-m.ensures.constants.number at c.negations.ensures in
    let begun = start_is (pair_at_start 1 0 c.args.bound_b c.args.weights.now) (pair_at_start 0 1 c.args.bound_a c.negations.result) refl refl refl refl in
    let kept = start-kept c.args.points.now c.args.weights.now c.args.z.now _ _ c.args.rows _ _ l cond.weights_below begun (λ k h. refl) negated.0 in
    rw (c.started-first.ensures, c.started-second.ensures) (record {
      reached = reached_start _ _ _ _ _ _ _ l begun;
      first = record {
        held = record { left = one_held l; right = zero_held l };
        low = omega arith;
        stored = record { size = omega arith; below = λ k. omega (arith, cond.weights_below k) };
        kept = kept.0;
      };
      second = record { held = record { left = zero_held l; right = one_held l }; low = omega arith; stored = negated.1; kept = kept.1 };
    })

pub row-requires : goal.row-requires
row-requires c = omega (arith, c.loop-k-test.true, c.requires.0.few)

pub step-requires : goal.step-requires
step-requires c =
    let k = c.loop-k.k in
    let inv = c.loop-k.invariant in
    let cond = c.requires.0 in
    let taken = c.loop-k-test.true in
    let few : c.args.rows ≤ 32 = omega (arith, cond.few) in
    rw c.row.ensures (
      c.new-m.ensures,
      record {
        there = taken;
        few = cond.few;
        low = cond.points_below k;
        factor = factor_at c.args.q _ (at_row _ _ _ c.requires.1 few k taken) (c.new-m.ensures.inverses.each k (omega arith)) refl;
      },
      rw c.requires.1 (narrow_forms c.args.q _ _),
      standing_ready inv.first (omega (arith, inv.reached.first_low, cond.low-b, cond.few, taken)),
      standing_ready inv.second (omega (arith, inv.reached.second_low, cond.low_a, cond.few, taken)),
    )

pub loop-k-preserved : goal.loop-k-preserved
loop-k-preserved c =
    let inv = c.loop-k.invariant in
    let s = rw c.row.ensures at c.step.ensures in
    let few : c.args.rows ≤ 32 = omega (arith, c.requires.0.few) in
    let kept = kept_step s c.args.points.now c.args.weights.now c.args.z.now (at_row _ _ _ c.requires.1 few) inv.first.kept inv.second.kept in
    record {
      reached = reached_more s inv.reached refl c.loop-k-test.true inv.first.kept inv.second.kept;
      first = standing_next s.first kept.0;
      second = standing_next s.second kept.1;
    }

pub returns-then-first-second : goal.returns-then-first-second
returns-then-first-second c =
    let done : c.loop-k.k ≡ c.args.rows = omega arith in
    let inv = rw done at c.loop-k.invariant in
    rw c.paired.ensures (smaller_first inv.reached.same c.if-first-second.true, standing_bounded inv.first)

pub returns-else-first-second : goal.returns-else-first-second
returns-else-first-second c =
    let done : c.loop-k.k ≡ c.args.rows = omega arith in
    let inv = rw done at c.loop-k.invariant in
    rw c.paired-else-first-second.ensures (smaller_second inv.reached.same c.if-first-second.false, standing_bounded inv.second)
