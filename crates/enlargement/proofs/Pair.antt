-- The pairs of jobs meet the conditions of the enlargement rule.
use mathlib.Core.Path.{◌≡◌, refl, sym, subst}
use mathlib.Core.Bool.{Bool, true, not, ◌&&◌, and-eq-true_iff}
use mathlib.Core.List.{List, [], ◌∷◌}
use Prim.Native.Nat.{ℕ, zero, suc, ◌<◌}
use native.Mathlib.Omega.{arith}
use borrow.Author.Tests.{ltb-true, not-false}
use lib.Dec.{ltb}
use lib.ListN.{get_or, length}
use Rattle.std.specs.Prelude.{None, Ok}
use Rattle.lists.specs.Tabulated.{tabulate}
use Rattle.format.specs.Bounds.{largest_bound, numerator_count}
use Rattle.poly.specs.Operations.{value_of}
use Rattle.cursor.specs.Bits.{field_of}
use Rattle.header.specs.Header.{outputs_of, df_of, spare_bit_of, numerator_bounds_of, flags_of, bounds_of}
use Rattle.lists.specs.Search.{first_below}
use Rattle.lists.proofs.FirstBelow.{none_passes}
use Rattle.rows.specs.Rows.{number_at}
use Rattle.lists.specs.Counting.{count_below}
use Rattle.marked_rows.specs.Marks.{mark_of, speaks, speaking_count}
use Rattle.job.specs.Refusals.{outcome_of, outcome_of_rows}
use Rattle.problem.specs.Rows.{wrong_row}
use Rattle.problem.specs.Answers.{wrong_count}
use Rattle.enlargement.specs.Enlargement.{Meets, row_bytes, StandsAt, HoldsRows, HoldsSpeaking, same_bytes, further_wrong, Comparable}
use Rattle.enlargement.proofs.RowBytes.{bytes_equal}
use Rattle.enlargement.specs.Pair.{smaller_job, larger_job, pair_numerators, pair_denominator, silent_job, marked_job, pole_job, pole_larger_job, pole_numerators, pole_denominator}

-- a constant has no coefficient above its first
pub constant : (c k : ℕ) → 0 < k → get_or (c ∷ []) k 0 ≡ 0
constant c zero l = absurd (omega arith)
constant c (suc k) l = past k
  where
    past : (k : ℕ) → ◌≡◌ {A = ℕ} (get_or [] k 0) 0
    past zero = refl
    past (suc k) = refl

linear : (c d k : ℕ) → 1 < k → get_or (c ∷ d ∷ []) k 0 ≡ 0
linear c d zero l = absurd (omega arith)
linear c d (suc k) l = constant d k (omega arith)

-- the same prime and n
abbrev Alike : (s s' : List ℕ) → Type 0
Alike s s' = ((bounds_of s').prime ≡ (bounds_of s).prime) × ((bounds_of s').outputs ≡ (bounds_of s).outputs)

pairs_alike : Alike smaller_job larger_job × Alike silent_job larger_job × Alike smaller_job marked_job × Alike pole_job pole_larger_job
unfolding field_of outputs_of bounds_of
pairs_alike = ((refl, refl), (refl, refl), (refl, refl), (refl, refl))

comparable : {Holds : List ℕ → List ℕ → Type 0} {room : ℕ} {f : ℕ → List ℕ} {g : List ℕ} (s s' : List ℕ)
    → Alike s s'
    → outcome_of s' room ≡ Ok tt
    → Holds s s'
    → Meets s' f g
    → (area' : List ℕ)
    → length area' ≡ room
    → Comparable Holds s s' area' f g
comparable s s' alike well_formed holds meets area' n = record {
  prime = alike.0;
  outputs = alike.1;
  well_formed = subst (λ room. outcome_of s' room ≡ Ok tt) (sym n) well_formed;
  holds = holds;
  meets = meets;
}

-- all jobs are well formed
pub jobs_well_formed : (outcome_of smaller_job 10 ≡ Ok tt) × (outcome_of larger_job 12 ≡ Ok tt) × (outcome_of silent_job 10 ≡ Ok tt)
    × (outcome_of marked_job 10 ≡ Ok tt) × (outcome_of pole_job 12 ≡ Ok tt) × (outcome_of pole_larger_job 12 ≡ Ok tt)
unfolding outcome_of outcome_of_rows tabulate largest_bound numerator_count field_of outputs_of df_of spare_bit_of numerator_bounds_of flags_of bounds_of first_below number_at mark_of
    speaking_count count_below
jobs_well_formed = (refl, refl, refl, refl, refl, refl)

-- T' holds the rows of T that pass, at the given places, where a search finds no other
held : (s s' : List ℕ) (pass : ℕ → Bool) (places : List ℕ)
    → first_below (bounds_of s).rows (λ i. pass i && not (ltb (get_or places i 0) (bounds_of s').rows && same_bytes (row_bytes s' (get_or places i 0)) (row_bytes s i))) ≡ None
    → (i : ℕ) → i < (bounds_of s).rows → pass i ≡ true → (j : ℕ) × (j < (bounds_of s').rows) × StandsAt s i s' j
held s s' pass places e i l p =
    let there = (and-eq-true_iff _ _).0 (not-false _ (rw p at (none_passes _ _ e i l))) in
    (get_or places i 0, ltb-true _ _ there.0, bytes_equal _ _ there.1)

pairs_held : HoldsRows smaller_job larger_job × HoldsSpeaking silent_job larger_job × HoldsRows smaller_job marked_job × HoldsSpeaking pole_job pole_larger_job
unfolding field_of outputs_of spare_bit_of flags_of bounds_of row_bytes same_bytes first_below number_at mark_of
pairs_held = (
  λ i l. held smaller_job larger_job (λ i. true) (2 ∷ 3 ∷ 0 ∷ []) refl i l refl,
  held silent_job larger_job (speaks silent_job) (2 ∷ 0 ∷ 3 ∷ 0 ∷ []) refl,
  λ i l. held smaller_job marked_job (λ i. true) (2 ∷ 4 ∷ 1 ∷ []) refl i l refl,
  held pole_job pole_larger_job (speaks pole_job) (2 ∷ 0 ∷ 4 ∷ 6 ∷ 0 ∷ []) refl,
)

constants_meet : (s : List ℕ) → Meets s pair_numerators pair_denominator
constants_meet s = record { denominator = λ k l. constant 1 k (omega arith); numerators = λ i k li l. constant _ k (omega arith) }

pole_meets : Meets pole_larger_job pole_numerators pole_denominator
unfolding field_of bounds_of
pole_meets = record { denominator = λ k l. linear 0 1 k l; numerators = λ i k li l. constant _ k (omega arith) }

-- the conditions
pub pair_comparable : (area' : List ℕ) → length area' ≡ 12 → Comparable HoldsRows smaller_job larger_job area' pair_numerators pair_denominator
pair_comparable = comparable smaller_job larger_job pairs_alike.0 jobs_well_formed.1 pairs_held.0 (constants_meet larger_job)

pub silent_comparable : (area' : List ℕ) → length area' ≡ 12 → Comparable HoldsSpeaking silent_job larger_job area' pair_numerators pair_denominator
silent_comparable = comparable silent_job larger_job pairs_alike.1 jobs_well_formed.1 pairs_held.1 (constants_meet larger_job)

pub marked_comparable : (area' : List ℕ) → length area' ≡ 10 → Comparable HoldsRows smaller_job marked_job area' pair_numerators pair_denominator
marked_comparable = comparable smaller_job marked_job pairs_alike.2 jobs_well_formed.3 pairs_held.2 (constants_meet marked_job)

pub pole_comparable : (area' : List ℕ) → length area' ≡ 12 → Comparable HoldsSpeaking pole_job pole_larger_job area' pole_numerators pole_denominator
pole_comparable = comparable pole_job pole_larger_job pairs_alike.3 jobs_well_formed.5 pairs_held.3 pole_meets

-- of the pairs with marks, one row of T and one further row of T' is wrong
abbrev pub OneEach : (s s' : List ℕ) (f : ℕ → List ℕ) (g : List ℕ) → Type 0
OneEach s s' f g = (wrong_count s f g ≡ 1) × (further_wrong s s' f g ≡ 1)

pub marked_counts : OneEach silent_job larger_job pair_numerators pair_denominator × OneEach smaller_job marked_job pair_numerators pair_denominator
    × OneEach pole_job pole_larger_job pole_numerators pole_denominator
unfolding field_of outputs_of spare_bit_of flags_of bounds_of row_bytes same_bytes first_below count_below mark_of wrong_row value_of number_at
marked_counts = ((refl, refl), (refl, refl), (refl, refl))
