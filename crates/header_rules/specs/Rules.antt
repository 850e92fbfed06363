-- Paper 01's refusal 1 and paper 02's refusal 11, item 5: what the header alone decides. s holds the bytes that it begins.
use Rattle.std.specs.Prelude.{ℕ, ◌%◌, Bool, cond, not, ◌&&◌, ◌||◌, List, ltb, leb, eqb, length, Result, Ok}
use Rattle.format.specs.declared.Bounds.{Bounds}
use Rattle.format.specs.declared.Reason.TheVariants.{TooShort, AddedHeader}
use Rattle.format.specs.declared.Refusal.{Refusal}
use Rattle.format.specs.Outcomes.{refused}
use Rattle.format.specs.Bounds.{numerator_bound_of, largest_bound}
use Rattle.lists.specs.Search.{any_below}
use Rattle.header.specs.declared.Header.{Header}
use Rattle.header.specs.Header.{header_length_of, header_of}

-- 1: "fewer than 3 bytes", and "if the spare bit is 1 and fewer than 7 bytes are there". A bit that is not there reads as 0, so that fewer than 3
-- bytes have no spare bit.
abbrev pub too_short : List ℕ → Bool
too_short s = ltb (length s) (header_length_of s)

-- an output that does not exist has a bound other than 0: "Bounds of outputs that don't exist are 0"
abbrev pub bounds_absent : Bounds → Bool
bounds_absent b = any_below 4 (λ i. leb b.outputs i && not (eqb (numerator_bound_of b i) 0))

-- the longer header sets a flag bit other than the first of the twelve, bounds an output that does not exist, or df is not the largest of those that do
abbrev pub breaks_rule : Header → Bool
breaks_rule h =
    eqb h.length 7
    && (not (eqb (h.flags % 2048) 0) || bounds_absent h.bounds || not (eqb h.df (largest_bound h.bounds h.bounds.outputs)))

-- 11: "if the added header breaks a rule here"; with item 6 the first flag bit breaks none
abbrev pub added_header_broken : List ℕ → Bool
added_header_broken s = breaks_rule (header_of s)

-- refused by the first of tests 1 and 11 that applies to so many bytes that begin with a header, and where neither does what the later ones say
abbrev pub rules_then : (bytes : ℕ) → Header → Result (Unit {0}) Refusal → Result (Unit {0}) Refusal
rules_then bytes h later = cond (ltb bytes h.length) (refused TooShort 0) (cond (breaks_rule h) (refused AddedHeader 0) later)

abbrev pub rules_outcome_of : (bytes : ℕ) → Header → Result (Unit {0}) Refusal
rules_outcome_of bytes h = rules_then bytes h (Ok tt)
