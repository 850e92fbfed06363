-- What `find` finds among 0 .. rows - 1 is what the definition's search finds; where nothing is found, code and definition both say d.
use Rattle.std.proofs.Common.{◌≡◌, ℕ, ◌+◌, ◌%◌, ◌<◌, ◌≤◌, Option, Some, None, get_or, eqb, not, refl, sym, ap, ◌∙◌, arith, rules, tests, unwrap_or, eq-eqb, ne_eqb}
use Rattle.std.specs.Option.{MatchOption}
use Rattle.std.proofs.lemmas.Iterator.{first_from_Range}
use Rattle.lists.specs.Search.{first_below}
use Rattle.lists.proofs.FirstBelow.{search_found, none_below}
use Rattle.spoiling.specs.Spoiling.{number_in, untaken_from}
use Rattle.spoiling.proofs.untaken_from.Goals as goal

-- the first k below n where x k is 0
abbrev FirstZero : (n : ℕ) (x : ℕ → ℕ) → Option ℕ → Type 0
FirstZero n x o = MatchOption o ((k : ℕ) → 0 ≤ k → k < n → x k ≡ 0 → ⊥) (λ i. (0 ≤ i) × (i < n) × (x i ≡ 0) × ((k : ℕ) → 0 ≤ k → k < i → x k ≡ 0 → ⊥))

is_first : (n : ℕ) (x : ℕ → ℕ) (o : Option ℕ) → FirstZero n x o → o ≡ first_below n (λ k. not (not (eqb (x k) 0)))
is_first n x None none = sym (none_below _ n (λ i l. ap (λ b. not (not b)) (ne_eqb (x i) 0 (none i (omega arith) l))))
is_first n x (Some i) found =
    search_found _ (record { within = omega arith; none = none_below _ i (λ k l. ap (λ b. not (not b)) (ne_eqb (x k) 0 (found.3 k (omega arith) l))) })
    found.1 (ap (λ b. not (not b)) (eq-eqb (x i) 0 found.2))

first_within : (n : ℕ) (x : ℕ → ℕ) (o : Option ℕ) → FirstZero n x o → unwrap_or o 0 ≤ n
first_within n x None none = omega arith
first_within n x (Some i) found = omega arith

number : (o : Option ℕ) → unwrap_or o 0 ≡ number_in o
number None = refl
number (Some i) = refl

behind : (c : goal.After-unwrap_or-behind) → FirstZero c.args.rows (λ k. get_or c.args.by.now ((c.args.d + k) % c.args.rows) 0) c.find.result
behind c =
    let row : ℕ → ℕ = λ k. get_or c.args.by.now ((c.args.d + k) % c.args.rows) 0 in
    first_from_Range _ _ _ _ (λ k. row k ≡ 0) (λ k. row k ≡ 0 → ⊥) c.find.ensures.ran (λ x q e. grind (arith, tests)) (λ x q e. (search rules, grind (arith, tests)))

pub overflow_add-result : goal.overflow_add-result
overflow_add-result c = let l = first_within _ _ _ (behind c) in omega (arith, c.unwrap_or-behind.ensures, l)

pub returns : goal.returns
unfolding untaken_from
returns c = let found = c.unwrap_or-behind.ensures ∙ number c.find.result ∙ ap number_in (is_first _ _ _ (behind c)) in cc
