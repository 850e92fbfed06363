-- Without a discrepancy the pair stays; else its three arrays are combined with those of the leading pair, each time by the two discrepancies as factors.
use mathlib.Core.Path.{◌∙◌}
use mathlib.Core.Logic.{inr}
use Prim.Native.Nat.{◌≤◌}
use native.Mathlib.Omega.{arith}
use Rattle.pairs.proofs.Arrays.{side_is, holds_mono, combination_is, combination_held, combined_is, combined_stored}
use Rattle.pairs.proofs.stepping.PairArrays.clear.Goals as goal

pub returns : goal.returns
returns c =
    let cs = c.requires.0.constants in
    let fits = c.requires.1 in
    let before = c.requires.2.held in
    let lead = c.requires.3.held in
    let n = c.max-n.ensures in
    let own : c.args.self.now.state.n ≤ c.max-n.result = omega arith in
    let other : c.args.lead.now.state.n ≤ c.max-n.result = omega arith in
    let m = c.as_factor-d.ensures in
    let f = c.as_factor-c.ensures in
    let low = before.discrepancies.below c.args.r.index in
    let first = c.combine-coefficients.ensures in
    let third = c.combine-discrepancies.ensures in
    let sa = holds_mono before.pair.left own in
    let sb = holds_mono before.pair.right own in
    let ta = holds_mono lead.pair.left other in
    let tb = holds_mono lead.pair.right other in
    let a = combination_is cs sa ta _ _ low m f first.1 in
    let b = combination_is cs sb tb _ _ low m f c.combine.ensures.1 in
    inr (
      c.if-self-k-eq0.false,
      record {
        left = a;
        right = b;
        side = rw (← n) (side_is _ _ (first.0 ∙ omega arith) third.0);
        exact = rw (m, f) at third.1;
        held = record {
          pair = record { left = combination_held cs sa ta _ _ low a; right = combination_held cs sb tb _ _ low b };
          discrepancies = combined_stored cs _ _ fits.few before.discrepancies _ _ _ third.1;
        };
        each = combined_is cs _ _ fits.few before.discrepancies _ _ _ low m f third.1;
      },
    )
