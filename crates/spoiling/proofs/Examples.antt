-- For a reader: the first draws, and two spoilings of four rows modulo 7.
use Rattle.std.proofs.Common.{◌≡◌, [], ◌∷◌, refl}
use Rattle.lists.specs.Tabulated.{tabulate}
use Rattle.lists.specs.Search.{first_below}
use Rattle.spoiling.specs.Draws.{drawn, top_bits}
use Rattle.spoiling.specs.Spoiling.{untaken_from, chosen_row, added_by}

first_draw : drawn 0 1 ≡ 1013904223
unfolding drawn
first_draw = refl

-- what passes 32 bits is dropped
second_draw : drawn 0 2 ≡ 1196435762
unfolding drawn
second_draw = refl

top_of_first : top_bits (drawn 0 1) ≡ 15470
unfolding drawn
top_of_first = refl

-- 1 is added to row 3; then row 3 is taken, and 5 is added to row 0
two_spoilings : tabulate 4 (added_by 7 4 6 2) ≡ 5 ∷ 0 ∷ 0 ∷ 1 ∷ []
unfolding tabulate first_below drawn untaken_from chosen_row added_by
two_spoilings = refl
