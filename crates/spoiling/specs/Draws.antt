-- Paper 02, item 1: the words that a trial job draws.
use Rattle.std.specs.Prelude.{ℕ, zero, suc, ◌+◌, ◌*◌, ◌/◌, ◌%◌, ◌^◌}

-- "Each draw is a new word: 1664525 times the last plus 1013904223, with what passes 32 bits dropped"
abbrev pub next_word : ℕ → ℕ
next_word last = (1664525 * last + 1013904223) % 2 ^ 32

-- the word of draw k, counted from 1: "Before the first draw the last word is the start"
unfoldable pub drawn : (start : ℕ) → ℕ → ℕ
drawn start zero = start
drawn start (suc k) = next_word (drawn start k)

-- "the top 16 bits" of a word
abbrev pub top_bits : ℕ → ℕ
top_bits word = word / 65536
