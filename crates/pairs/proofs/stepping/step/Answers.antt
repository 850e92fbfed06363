-- By the leader: where neither pair has a discrepancy both stay, else the leader advances and the other is freed of its own (`exchanged`).
use mathlib.Core.Path.{ap}
use mathlib.Core.Bool.{not}
use Rattle.pairs.proofs.Lines.{stays, exchanged}
use Rattle.pairs.proofs.stepping.step.Goals as goal

pub returns-in-None : goal.returns-in-None
returns-in-None c =
    let none = rw c.in-None.is at c.leading.ensures in
    let first = c.requires.3 in
    let second = c.requires.4 in
    record {
      first = stays c.requires.1 first second _ none.0 c.keep.ensures;
      second = stays c.requires.1 second first _ none.1 c.keep-in-None.ensures;
    }

pub returns-in-Some-First : goal.returns-in-Some-First
returns-in-Some-First c =
    let lead = rw c.in-Some-First.field-0-is at c.in-Some-First.ensures in
    let both = exchanged c.requires.1 c.requires.3 c.requires.4 _ _ lead.0 (λ k. (lead.1 k, ap not (lead.1 k))) c.exchange.ensures.0 c.exchange.ensures.1 in
    record { first = both.0; second = both.1 }

pub returns-in-Some-Second : goal.returns-in-Some-Second
returns-in-Some-Second c =
    let lead = rw c.in-Some-Second.field-0-is at c.in-Some-Second.ensures in
    let both = exchanged c.requires.1 c.requires.4 c.requires.3 _ _ lead.0 (λ k. (ap not (lead.1 k), lead.1 k)) c.exchange-in-Some-Second.ensures.0 c.exchange-in-Some-Second.ensures.1 in
    record { first = both.1; second = both.0 }
