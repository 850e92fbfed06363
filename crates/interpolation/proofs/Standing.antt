-- One of the pairs between two rows.
use mathlib.Core.List.{List}
use mathlib.Core.Bool.{Bool}
use Prim.Native.Nat.{ℕ, ◌+◌, ◌≤◌, ◌<◌}
use Rattle.poly.specs.Coefficients.{Stored}
use Rattle.lanes.specs.declared.Modulus.{Modulus}
use Rattle.pairs.specs.Pairs.{PairBounded}
use Rattle.pairs.specs.declared.stepping.PairArrays.{PairArrays}
use Rattle.pairs.specs.declared.stepping.RowStep.{RowStep}
use Rattle.pairs.specs.Held.{PairHeld, Kept, Ready, Lined, pair_of, prime_at}
use Rattle.pairs.proofs.Arrays.{held_mono, bounded_held}

-- the arrays hold it, and its discrepancies at the rows from k on
pub record Standing (p : ℕ) (points weights z : List ℕ) (rows k : ℕ) (s : PairArrays) : Type 0 where
  pub held : PairHeld p s.state.n s
  pub low : s.state.n ≤ k + 1
  pub stored : Stored p s.d
  pub kept : Kept p points weights z k rows (pair_of s) s.d

-- what a row asks of it
pub standing_ready : {points weights z : List ℕ} {r : RowStep} {s : PairArrays} → Standing (prime_at r) points weights z r.rows r.index s → s.state.e < 64 → Ready r s
standing_ready h l = record { held = record { pair = h.held; discrepancies = h.stored }; low = h.low; small = l }

-- and leaves of it
pub standing_next : {points weights z : List ℕ} {r : RowStep} {m : Modulus} {xs : List ℕ} {leads : Bool} {s t s' : PairArrays} → Lined r m xs leads s t s'
    → Kept (prime_at r) points weights z (r.index + 1) r.rows (pair_of s') s'.d → Standing (prime_at r) points weights z r.rows (r.index + 1) s'
standing_next h kept = record { held = h.held.pair; low = h.low; stored = h.held.discrepancies; kept = kept }

pub standing_bounded : {p : ℕ} {points weights z : List ℕ} {rows k : ℕ} {s : PairArrays} → Standing p points weights z rows k s → PairBounded p (k + 1) (pair_of s)
standing_bounded h = bounded_held (held_mono h.held h.low)
