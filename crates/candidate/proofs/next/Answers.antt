-- The pair is that of `next_of`: where psi is zero it makes no fraction (`fraction_none`), else one in lowest terms (`fraction_some`).
use mathlib.Core.Path.{sym, ap, ◌∙◌}
use Rattle.pairs.specs.declared.Pair.{Pair}
use Rattle.candidate.specs.Candidates.{with_fraction, next_of}
use Rattle.candidate.proofs.CandidateLaws.{fraction_none, fraction_some}
use Rattle.candidate.proofs.next.Goals as goal

pub returns-then-length-eq0-clause-value : goal.returns-then-length-eq0-clause-value
unfolding next_of
returns-then-length-eq0-clause-value c =
    let g = c.args in
    fraction_none g.b g.i c.pair-s.result g.v (sym c.length.ensures.0 ∙ c.if-length-eq0.true)
    ∙ ap (λ (s : Pair). with_fraction g.b g.i s g.v) c.pair-s.ensures.0

pub returns-clause-value : goal.returns-clause-value
unfolding next_of
returns-clause-value c =
    let g = c.args in
    c.extended.ensures.value
    ∙ fraction_some g.b g.i c.pair-s.result g.v (λ z. c.if-length-eq0.false (c.length.ensures.0 ∙ z)) c.lowest_terms-t.ensures.0 c.lowest_terms-t.ensures.2
    ∙ ap (λ (s : Pair). with_fraction g.b g.i s g.v) c.pair-s.ensures.0
