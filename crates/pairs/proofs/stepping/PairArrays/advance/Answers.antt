-- Both polynomials are multiplied by (u - x), and the discrepancy at each x_l by x_l - x; all stay residues.
use mathlib.Core.Path.{ap}
use Prim.Native.Nat.{◌+◌}
use Rattle.montgomery.specs.declared.Factor.{Factor}
use Rattle.pairs.proofs.Arrays.{side_is, linear_is, linear-held, multiplied_is, multiplied_stored}
use Rattle.pairs.proofs.stepping.PairArrays.advance.Goals as goal

pub returns : goal.returns
returns c =
    let cs = c.requires.0.constants in
    let fits = c.requires.1 in
    let before = c.requires.3.held in
    let first = c.times_linear-coefficients.ensures in
    let third = c.times_differences-discrepancies.ensures in
    let a = linear_is cs before.pair.left _ fits.factor fits.low first.1 in
    let b = linear_is cs before.pair.right _ fits.factor fits.low c.times_linear.ensures.1 in
    record {
      left = a;
      right = b;
      side = side_is (c.args.self.now.state.e + 1) (c.args.self.now.state.n + 1) first.0 third.0;
      exact = third.1;
      held = record {
        pair = record { left = linear-held cs before.pair.left _ a; right = linear-held cs before.pair.right _ b };
        discrepancies = multiplied_stored cs _ _ fits.few before.discrepancies _ _ _ third.1;
      };
      each = multiplied_is cs _ _ fits.few before.discrepancies c.requires.0.inverses _ _ fits.low (ap (λ (f : Factor). f.form) fits.factor) third.1;
    }
