-- The job's bytes in the area.
use Prim.Native.Nat.{ℕ, ◌≤◌}
use mathlib.Core.List.{List, ◌++◌}
use mathlib.Core.Path.{◌≡◌, ◌∙◌}
use lib.ListN.{length}
use Rattle.lists.specs.Overwriting.{overwritten, spliced}
use Rattle.lists.proofs.Splices.{splice_behind}

-- the rows behind the header
pub behind_header : (h rows old once twice : List ℕ) → length h ≤ length old → once ≡ overwritten h old → twice ≡ spliced (length h) rows once
    → twice ≡ overwritten (h ++ rows) old
behind_header h rows old once twice fits first second = second ∙ rw first (splice_behind h rows old fits)
