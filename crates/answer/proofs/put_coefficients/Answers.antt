use Prim.Native.Nat.{ℕ, ◌+◌, ◌≤◌, ◌<◌}
use mathlib.Core.List.{List}
use mathlib.Core.Path.{◌≡◌, refl, sym, ap, ◌∙◌}
use native.Mathlib.Omega.{arith}
use lib.ListN.{length, take, get_or}
use lib.Seq.{length-take-le, get_or-take}
use borrow.Author.Rules.{rules}
use Rattle.answer.specs.Bytes.{two_bytes, coefficient_bytes}
use Rattle.lists.specs.Overwriting.{spliced}
use Rattle.lists.proofs.Splices.{splice_none}
use Rattle.answer.proofs.Runs.{next_coefficient}
use Rattle.answer.proofs.put_coefficients.Goals as goal

-- the first coefficients are as many as they should be
front : (a : List ℕ) (count : ℕ) → length a ≡ 32 → count ≤ 32 → length (take count a) ≡ count
front a count full few = length-take-le count a (omega arith)

pub loop-coefficient-init : goal.loop-coefficient-init
unfolding coefficient_bytes
loop-coefficient-init c = (refl, sym (splice_none c.args.at c.args.area.now))

pub loop-coefficient-preserved : goal.loop-coefficient-preserved
loop-coefficient-preserved c =
    let g = c.args in
    let a = g.a.now.c in
    let k = c.loop-coefficient.coefficient-index in
    let written = c.loop-coefficient.written in
    let area = c.loop-coefficient.area in
    let full : length a ≡ 32 = search rules in
    let below : k < g.count = omega (arith, front a g.count full c.requires.0) in
    let room : g.at + written ≤ length g.area.now = omega arith in
    let here : get_or (take g.count a) k 0 ≡ get_or a k 0 = get_or-take g.count a k 0 below in (
      omega (arith, c.put_number-written.ensures.0),
      c.put_number-written.ensures.1
          ∙ ap (λ v. spliced (g.at + written) (two_bytes v) area) here
          ∙ next_coefficient g.at a k written g.area.now area c.loop-coefficient.invariant.0 room c.loop-coefficient.invariant.1,
    )

pub returns : goal.returns
returns c =
    let g = c.args in
    let a = g.a.now.c in
    let full : length a ≡ 32 = search rules in
    let all : c.loop-coefficient.coefficient-index ≡ g.count = omega (arith, front a g.count full c.requires.0) in
    (omega arith, c.loop-coefficient.invariant.1 ∙ ap (λ k. spliced g.at (coefficient_bytes a k) g.area.now) all)
