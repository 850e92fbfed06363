-- The sum is the definition spelled out for four bytes (`four_bytes`).
use native.Mathlib.Omega.{arith}
use Rattle.read_u64.proofs.Parts.{four_bytes}
use Rattle.read_u64.proofs.four_bytes.Goals as goal

pub returns : goal.returns
returns c =
    let e = four_bytes c.args.s.now c.args.k in
    omega (arith, e)
