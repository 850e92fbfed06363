-- Four entries of an array, filled at once.
use mathlib.Core.List.{List}
use mathlib.Core.Path.{◌≡◌, ap, ◌∙◌}
use Prim.Native.Nat.{ℕ, ◌+◌, ◌≤◌, ◌<◌}
use native.Mathlib.Omega.{arith}
use lib.ListN.{get_or, set}
use Rattle.lists.proofs.Filling.{Filled, filled_more}

-- v's first four entries, stored from place k on
abbrev set_four : List ℕ → ℕ → List ℕ → List ℕ
set_four l k v = set (set (set (set l k (get_or v 0 0)) (k + 1) (get_or v 1 0)) (k + 2) (get_or v 2 0)) (k + 3) (get_or v 3 0)

pub fill_four : {n : ℕ} {f g : ℕ → ℕ} {k : ℕ} {r : List ℕ} → Filled n f g k r → (v : List ℕ) → k + 4 ≤ n
    → ((i : ℕ) → i < 4 → get_or v i 0 ≡ f (k + i)) → Filled n f g (k + 4) (set_four r k v)
fill_four {f = f} {k = k} h v l same =
    let one = filled_more h (get_or v 0 0) (omega arith) (same 0 (omega arith) ∙ ap f (omega arith)) in
    let two = filled_more one (get_or v 1 0) (omega arith) (same 1 (omega arith)) in
    let next : k + 1 + 1 ≡ k + 2 = omega arith in
    let three = filled_more (rw next at two) (get_or v 2 0) (omega arith) (same 2 (omega arith)) in
    let last : k + 2 + 1 ≡ k + 3 = omega arith in
    let end : k + 3 + 1 ≡ k + 4 = omega arith in
    rw end at (filled_more (rw last at three) (get_or v 3 0) (omega arith) (same 3 (omega arith)))
