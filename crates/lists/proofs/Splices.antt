-- Bytes put into a list at a place.
use Prim.Native.Nat.{ℕ, ◌+◌, ◌≤◌}
use mathlib.Core.Path.{◌≡◌, sym, ap, ap₂, ◌∙◌}
use mathlib.Core.List.{List, [], ◌++◌, append_assoc, append-nil}
use native.Mathlib.Nat.{add-zero, add_assoc, zero-add}
use native.Mathlib.Omega.{arith}
use lib.ListN.{length, take, drop, length-append, take-append-drop}
use lib.Seq.{length-take-le, take_at, drop_at, drop-drop}
use Rattle.lists.specs.Overwriting.{spliced, overwritten}

pub splice_none : (at : ℕ) (old : List ℕ) → spliced at [] old ≡ old
splice_none at old = ap₂ (λ k l. l ++ drop k old) (add-zero at) (append-nil (take at old)) ∙ take-append-drop at old

splice_front : (new old : List ℕ) → spliced 0 new old ≡ overwritten new old
splice_front new old = ap (λ k. new ++ drop k old) (zero-add (length new))

module _ (at : ℕ) (first old : List ℕ) (fits : at + length first ≤ length old) where
  head-length : length (take at old ++ first) ≡ at + length first
  head-length = length-append (take at old) first ∙ ap (λ k. k + length first) (length-take-le at old (omega arith))

  -- two adjoining splices are one
  splice_splice : (second : List ℕ) → spliced (at + length first) second (spliced at first old) ≡ spliced at (first ++ second) old
  splice_splice second =
      let next = at + length first in
      let once = spliced at first old in
      let before : take next once ≡ take at old ++ first = take_at (take at old ++ first) (drop next old) next head-length in
      let behind : drop next once ≡ drop next old = drop_at (take at old ++ first) (drop next old) next head-length in
      let place : next + length second ≡ at + length (first ++ second) = add_assoc at (length first) (length second) ∙ ap (λ k. at + k) (sym (length-append first second)) in
      let rest : drop (next + length second) once ≡ drop (at + length (first ++ second)) old =
      sym (drop-drop (length second) next once) ∙ ap (drop (length second)) behind ∙ drop-drop (length second) next old ∙ ap (λ k. drop k old) place in
      ap₂ (λ l m. l ++ second ++ m) before rest ∙ ap (λ l. l ++ drop (at + length (first ++ second)) old) (append_assoc (take at old) first second)

-- bytes put behind so many that were put there before
pub splice_more : (at : ℕ) (first second old : List ℕ) {area : List ℕ} {written : ℕ} → written ≡ length first → at + written ≤ length old → area ≡ spliced at first old
    → spliced (at + written) second area ≡ spliced at (first ++ second) old
splice_more at first second old size fits before = rw (before, size) (splice_splice at first old (rw size at fits) second)

pub splice_behind : (first second old : List ℕ) → length first ≤ length old → spliced (length first) second (overwritten first old) ≡ overwritten (first ++ second) old
splice_behind first second old fits =
    ap₂ (λ at l. spliced at second l) (sym (zero-add (length first))) (sym (splice_front first old))
    ∙ splice_splice 0 first old (rw zero-add fits) second ∙ splice_front (first ++ second) old
