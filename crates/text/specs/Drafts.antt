-- A text that is being made, as the list of its bytes.
use Rattle.std.specs.Prelude.{◌≡◌, ℕ, ◌-◌, ◌≤◌, List, ◌++◌, length, take}

-- how many bytes a draft has room for; every text has fewer
abbrev pub text_room : ℕ
text_room = 1280

-- the bytes of a draft with more behind, as far as its room reaches
abbrev pub extended : List ℕ → List ℕ → List ℕ
extended draft more = draft ++ take (text_room - length draft) more

-- a draft holds this text, and nothing of it is lost
abbrev pub Spells : List ℕ → List ℕ → Type 0
Spells draft text = (draft ≡ text) × (length draft ≤ text_room)
