-- Eight bytes joined are the first four joined, times 2^32, and the other four (`eight_bytes`).
use native.Mathlib.Omega.{arith}
use Rattle.read_u64.proofs.Parts.{eight_bytes}
use Rattle.read_u64.proofs.read_u64.Goals as goal

pub returns : goal.returns
returns c =
    let e = eight_bytes c.args.bytes.now in
    omega (arith, e, c.four_bytes.ensures, c.four_bytes-2.ensures)
