-- Lists of which a part is replaced.
use Rattle.std.specs.Prelude.{ℕ, ◌+◌, List, ◌++◌, length, take, drop}

-- new in place of as many elements at the start of old: "Bytes of the answer area behind it keep their contents"
abbrev pub overwritten : List ℕ → List ℕ → List ℕ
overwritten new old = new ++ drop (length new) old

-- the same from a place on: what stands before it keeps its contents too
abbrev pub spliced : ℕ → List ℕ → List ℕ → List ℕ
spliced at new old = take at old ++ new ++ drop (at + length new) old
