use Prim.Native.Nat.{ℕ}
use mathlib.Core.Bool.{Bool, true, false}
use mathlib.Core.Path.{◌≡◌, refl}
use native.Mathlib.Omega.{arith}
use lib.Dec.{eqb}
use lib.ListN.{get_or}
use mir.Val.{bool_byte}
use Rattle.lists.specs.Counting.{one_if, count_below}
use Rattle.lists.proofs.Counting.{count_more}
use Rattle.row_search.proofs.count_of.Goals as goal

-- a test's truth value as a number
flag : (b : Bool) → bool_byte b ≡ one_if b
flag true = refl
flag false = refl

pub loop-number-init : goal.loop-number-init
unfolding count_below
loop-number-init c = refl

pub overflow_add-count : goal.overflow_add-count
overflow_add-count c =
    let test : ℕ → Bool = (λ j. eqb (get_or c.args.numbers.now j 0) c.args.x) in
    omega (arith, (count_more _ test c.loop-number.invariant (flag (test c.loop-number.number-index))).1)

pub loop-number-preserved : goal.loop-number-preserved
loop-number-preserved c =
    let test : ℕ → Bool = (λ j. eqb (get_or c.args.numbers.now j 0) c.args.x) in
    (count_more _ test c.loop-number.invariant (flag (test c.loop-number.number-index))).0

pub returns : goal.returns
returns c =
    let e : c.loop-number.number-index ≡ 32 = omega arith in
    rw e at c.loop-number.invariant
