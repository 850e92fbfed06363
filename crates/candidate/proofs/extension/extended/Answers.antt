-- Each way through the code is a case of `extended_of`, whose tests stand in another order; where h is 1, the products by it change nothing (`one_extended`).
use mathlib.Core.Path.{◌≡◌, sym, ap, ◌∙◌}
use Prim.Native.Nat.{ℕ, ◌<◌}
use native.Mathlib.Omega.{arith}
use lib.ListN.{length, get_or}
use borrow.Author.Rules.{rules}
use Rattle.std.specs.Prelude.{Some}
use Rattle.std.specs.Option.{option_map}
use Rattle.field.specs.Primes.{modulus_of}
use Rattle.poly.specs.Coefficients.{Bounded}
use Rattle.poly.proofs.Lists.{bounded_mono}
use Rattle.poly.proofs.Lengths.{bounded_length}
use Rattle.poly.proofs.Products.{product_one}
use Rattle.candidate.specs.Extensions.{numerator_at, with_output}
use Rattle.format.proofs.Sizes.{denominator-low}
use Rattle.candidate.proofs.Fittings.{size_of_each, fitting_set}
use Rattle.candidate.proofs.ExtensionLaws.{output_added, denominator_too_long, numerator_too_long, extended_is, one_extended}
use Rattle.candidate.proofs.extension.extended.Goals as goal

pub returns-then-numerator_bound-la-clause-value : goal.returns-then-numerator_bound-la-clause-value
returns-then-numerator_bound-la-clause-value c =
    let g = c.args in numerator_too_long g.b g.i g.a.now.c g.h.now.c g.v (omega arith)

pub returns-then-is_one-clause-value : goal.returns-then-is_one-clause-value
returns-then-is_one-clause-value c =
    -- g and the numerators have 32 coefficients each: their types say so
    let g-size : length c.args.v.g.c ≡ 32 = search rules in
    let f-sizes : (j : ℕ) → j < 4 → length (numerator_at c.args.v j) ≡ 32 = (λ j l. search (rules, size_of_each)) in
    let length-one : c.length-lh.result ≡ 1 = (c.is_one.ensures.0 c.if-is_one.true).0 in
    let unit : get_or c.args.h.now.c 0 0 ≡ 1 = (c.is_one.ensures.0 c.if-is_one.true).1 in
    let one : let g = c.args in Bounded (modulus_of g.b.prime) 1 g.h.now.c = bounded_mono (bounded_length c.requires.5) (omega arith) in
    let g = c.args in
    ap Some (output_added g.b g.i g.a.now.c g.h.now.c g.v.g.c g.v g.v.g (sym (product_one c.requires.1.denominator one unit g-size)))
    ∙ one_extended one unit c.requires.1 f-sizes g.i g.a.now.c (omega arith) (omega arith)

pub returns-then-is_one-clause-fitting : goal.returns-then-is_one-clause-fitting
returns-then-is_one-clause-fitting c =
    let g = c.args in
    fitting_set g.b c.requires.1 g.v.g g.a.now g.i (omega arith) c.requires.1.denominator (bounded_mono (bounded_length c.requires.4) (omega arith))

pub returns-then-b-lg-clause-value : goal.returns-then-b-lg-clause-value
returns-then-b-lg-clause-value c =
    let g = c.args in denominator_too_long g.b g.i g.a.now.c g.h.now.c g.v (omega arith)

pub raised-requires : goal.raised-requires
raised-requires c =
    let e = c.length-lh.ensures in
    (c.requires.0, c.requires.1, omega arith, e.0, omega arith, rw e.0 (bounded_length c.requires.5))

pub returns-in_err-r-clause-value : goal.returns-in_err-r-clause-value
returns-in_err-r-clause-value c =
    let g = c.args in
    c.from_residual.ensures ∙ ap (option_map (with_output g.b g.i g.a.now.c g.v.g.c g.h.now.c)) c.in_err-r.ensures.value
    ∙ extended_is g.b g.i g.a.now.c g.h.now.c g.v (omega arith) (omega arith)

pub product-r-requires : goal.product-r-requires
product-r-requires c = (
  omega (arith, denominator-low c.requires.0),
  rw c.length-lg.ensures.0 (bounded_length c.requires.1.denominator),
  rw c.length-lh.ensures.0 (bounded_length c.requires.5),
)

pub returns-clause-value : goal.returns-clause-value
returns-clause-value c =
    let g = c.args in
    ap Some (output_added g.b g.i g.a.now.c g.h.now.c g.v.g.c c.in_ok-r.r c.product-r.result c.product-r.ensures.0)
    ∙ ap (option_map (with_output g.b g.i g.a.now.c g.v.g.c g.h.now.c)) c.in_ok-r.ensures.value
    ∙ extended_is g.b g.i g.a.now.c g.h.now.c g.v (omega arith) (omega arith)

pub returns-clause-fitting : goal.returns-clause-fitting
returns-clause-fitting c =
    let g = c.args in
    fitting_set g.b c.in_ok-r.ensures.fitting c.product-r.result g.a.now g.i (omega arith) (bounded_mono c.product-r.ensures.1 (omega arith))
    (bounded_mono (bounded_length c.requires.4) (omega arith))
