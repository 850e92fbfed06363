use Prim.Native.Nat.{◌+◌, ◌*◌, ◌/◌, ◌%◌, ◌≤◌}
use mathlib.Core.Path.{◌≡◌, refl, sym, ap, ◌∙◌}
use native.Mathlib.Nat.{mod-lt}
use native.Mathlib.Omega.{arith}
use lib.ListN.{length, get_or}
use Rattle.format.specs.Bounds.{prime_of}
use Rattle.poly.specs.Vectors.{coefficients_at}
use Rattle.answer.specs.Bytes.{coefficient_bytes}
use Rattle.lists.specs.Overwriting.{spliced}
use Rattle.lists.proofs.Splices.{splice_none}
use Rattle.trial.specs.Rows.{trial_number, trial_numbers}
use Rattle.trial.proofs.Numbers.{row_below, next_number}
use Rattle.trial.proofs.job_rows.put_rows.Goals as goal

pub loop-k-init : goal.loop-k-init
unfolding coefficient_bytes
loop-k-init c = (omega arith, refl, omega arith, sym (splice_none c.args.start c.args.area.now))

pub number_at-number-requires : goal.number_at-number-requires
number_at-number-requires c =
    let k = c.loop-k.k in
    let n = c.args.b.outputs in
    let row = row_below c.args.b.rows (1 + n) k (omega arith) c.loop-k-test.true in
    let column = mod-lt k {m = 1 + n} (omega arith) in
    (omega (arith, c.requires.0.rows_most), omega (arith, c.requires.0.outputs_most), c.requires.2, (λ i l. c.requires.3 i (omega arith)), c.requires.4 _)

pub loop-k-preserved : goal.loop-k-preserved
loop-k-preserved c =
    let r = c.put_number-written in
    let g = c.args in
    let k = c.loop-k.k in
    let width = 1 + g.b.outputs in
    let number = c.number_at-number in
    let room : g.start + c.loop-k.written ≤ length g.area.now = omega arith in (
      omega arith,
      r.auto.area ∙ c.loop-k.invariant.1,
      omega (arith, r.ensures.0),
      next_number (λ j. trial_number (prime_of g.b) (coefficients_at g.v.now.f) g.v.now.g.c (λ i. get_or g.by.now i 0) (j / width) (j % width))
          (g.b.rows * width) g.start k c.loop-k.written number.result g.area.now c.loop-k.area r.new.area (omega arith) number.ensures c.loop-k.invariant.2 room c.loop-k.invariant.3 r.ensures.1,
    )

pub returns : goal.returns
unfolding trial_numbers
returns c =
    let all : c.loop-k.k ≡ c.args.b.rows * (1 + c.args.b.outputs) = omega arith in
    (omega arith, c.loop-k.invariant.3 ∙ ap (λ k. spliced c.args.start (coefficient_bytes (trial_numbers (prime_of c.args.b) (coefficients_at c.args.v.now.f) c.args.v.now.g.c (λ i. get_or c.args.by.now i 0) c.args.b.rows c.args.b.outputs) k) c.args.area.now) all)
