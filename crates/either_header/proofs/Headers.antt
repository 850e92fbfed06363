-- What the two headers of the same job say is the same, and so are the rows behind them.
use Prim.Native.Nat.{ℕ, ◌+◌, ◌*◌, ◌≤◌, ◌<◌}
use mathlib.Core.Bool.{false, cond, not, ◌&&◌}
use mathlib.Core.List.{List}
use mathlib.Core.Logic.{◌⊎◌, inl, inr}
use mathlib.Core.Path.{◌≡◌, refl, sym, ap, ap₂, fun_ext, ◌∙◌}
use native.Mathlib.Decide.{ℕ_discrete}
use native.Mathlib.Omega.{arith}
use borrow.Author.Tests.{lt-ltb, le-ltb, le-leb, lt-leb, eq-eqb, ne_eqb}
use lib.Dec.{ltb, leb, eqb}
use lib.ListN.{length, get_or, length-drop}
use lib.Seq.{get_or-drop}
use Rattle.lists.proofs.Order.{lt_or_ge}
use Rattle.lists.proofs.Tabulated.{tabulate_cong}
use Rattle.format.specs.Bounds.{numerator_bound_of, largest_bound}
use Rattle.format.specs.declared.Bounds.{Bounds}
use Rattle.marked_rows.specs.Marks.{speaking_count}
use Rattle.format.proofs.Sizes.{largest_above, largest_most}
use Rattle.cursor.specs.Bits.{field_of}
use Rattle.cursor.proofs.Fields.{field_cong}
use Rattle.header.specs.Header.{outputs_of, df_of, header_length_of, numerator_bounds_of, flags_of, marks_allowed, bounds_of, header_of, job_length_of}
use Rattle.header.proofs.Fields.{fits_fields, df_by, bounds_by, bound_at}
use Rattle.header_rules.specs.Rules.{bounds_absent}
use Rattle.lists.specs.Search.{is_found}
use Rattle.lists.proofs.FirstBelow.{none_below}
use Rattle.rows.specs.Rows.{number_at}
use Rattle.job.specs.Refusals.{byte_count_differs, too_few_rows, outcome_of}
use Rattle.either_header.specs.EitherHeader.{SameJob}
use Rattle.either_header.specs.Unflagged.{plain_row_tests, item5_broken, item5_outcome, Unflagged}
use Rattle.either_header.proofs.Unflagged.{unflagged, all_speak, short_unset}

eqb_plus : (a b k : ℕ) → eqb (a + k) (b + k) ≡ eqb a b
eqb_plus a b k = by (ℕ_discrete a b)
  where
    by : Dec (a ≡ b) → eqb (a + k) (b + k) ≡ eqb a b
    by (yes e) = eq-eqb _ _ (ap (λ (x : ℕ). x + k) e) ∙ sym (eq-eqb _ _ e)
    by (no e) = ne_eqb (a + k) (b + k) (λ (h : a + k ≡ b + k). e (omega arith)) ∙ sym (ne_eqb a b e)

module _ (s s' : List ℕ) (J : SameJob s s') where
  field_same : (at bits : ℕ) → at + bits ≤ 23 → field_of s' at bits ≡ field_of s at bits
  field_same at bits inside = field_cong s' s at at bits (λ k l. J.fields (at + k) (omega arith))

  pub df_same : df_of s' ≡ df_of s
  unfolding df_of
  df_same = df_by s' (field_of s) field_same

  numerators-same : numerator_bounds_of s' ≡ numerator_bounds_of s
  unfolding numerator_bounds_of
  numerators-same = tabulate_cong 4 _ _ (λ i l. rw (J.longer.1, J.short.1) (J.bounds i l))

  pub bounds_same : bounds_of s' ≡ bounds_of s
  unfolding bounds_of outputs_of
  bounds_same = bounds_by s' (field_of s) field_same numerators-same

  -- the longer header breaks no rule
  equal_bound : (i : ℕ) → i < 4 → numerator_bound_of (bounds_of s) i ≡ cond (ltb i (outputs_of s)) (df_of s) 0
  equal_bound i l = bound_at s i l ∙ rw J.short.1 refl

  outputs_are : (bounds_of s).outputs ≡ outputs_of s
  unfolding bounds_of
  outputs_are = refl

  largest_equal : largest_bound (bounds_of s) (bounds_of s).outputs ≡ df_of s
  largest_equal =
      let n = fits_fields s in
      let each : (i : ℕ) → i < (bounds_of s).outputs → numerator_bound_of (bounds_of s) i ≡ df_of s =
      λ i l. equal_bound i (omega arith) ∙ rw (lt-ltb i (outputs_of s) (omega (arith, outputs_are))) refl in
      let most = largest_most (bounds_of s) (df_of s) (bounds_of s).outputs (λ i l. (let e = each i l in omega arith)) in
      let least = largest_above (bounds_of s) (bounds_of s).outputs 0 (omega arith) in
      omega (arith, each 0 (omega arith))

  none_absent : bounds_absent (bounds_of s) ≡ false
  none_absent = ap is_found (none_below _ 4 (λ i l. by i l (lt_or_ge i (bounds_of s).outputs)))
    where
      by : (i : ℕ) → i < 4 → (i < (bounds_of s).outputs) ⊎ ((bounds_of s).outputs ≤ i) → (leb (bounds_of s).outputs i && not (eqb (numerator_bound_of (bounds_of s) i) 0)) ≡ false
      by i l (inl exists) = simp (lt-leb (bounds_of s).outputs i exists)
      by i l (inr past) =
          let zero : numerator_bound_of (bounds_of s) i ≡ 0 = equal_bound i l ∙ rw (le-ltb i (outputs_of s) (omega (arith, outputs_are))) refl in
          simp (le-leb (bounds_of s).outputs i past, zero)

  no_flags : flags_of s' ≡ 0
  unfolding flags_of
  no_flags = rw J.longer.1 J.flags

  unbroken : item5_broken s' ≡ false
  unbroken = rw (J.longer.1, no_flags, bounds_same, none_absent, df_same, eq-eqb _ _ (sym largest_equal)) refl

  -- neither has the first flag bit set
  pub short_plain : Unflagged s
  short_plain = unflagged s (short_unset s J.short.1)

  pub longer_plain : Unflagged s'
  longer_plain = unflagged s' (ap marks_allowed no_flags)

  -- and all rows of both speak
  pub speaking-same : speaking_count s' ≡ speaking_count s
  speaking-same = all_speak s' (ap marks_allowed no_flags) ∙ ap (λ (b : Bounds). b.rows) bounds_same ∙ sym (all_speak s (short_unset s J.short.1))

  -- 4 bytes more
  pub length-same : length s' ≡ length s + 4
  length-same =
      let e = sym (length-drop 7 s') ∙ ap length J.rows ∙ length-drop 3 s in
      omega (arith, J.short.0, J.longer.0)

  -- the rows' bytes, and so their numbers
  byte_same : (k : ℕ) → get_or s' (7 + k) 0 ≡ get_or s (3 + k) 0
  byte_same k = sym (get_or-drop 7 s' k 0) ∙ ap (λ (l : List ℕ). get_or l k 0) J.rows ∙ get_or-drop 3 s k 0

  pub numbers-same : number_at s' ≡ number_at s
  unfolding number_at
  numbers-same =
      fun_ext (λ r. fun_ext (λ c.
      let k = 2 * (r * (1 + (bounds_of s).outputs) + c) in
      let next : 7 + k + 1 ≡ 7 + (k + 1) = omega arith in
      let next' : 3 + k + 1 ≡ 3 + (k + 1) = omega arith in
      rw (bounds_same, J.longer.1, J.short.1, next, next') (ap₂ (λ x y. x * 256 + y) (byte_same k) (byte_same (k + 1)))))

  -- so every test says the same
  total_same : job_length_of (header_of s') ≡ job_length_of (header_of s) + 4
  total_same = rw (bounds_same, J.longer.1, J.short.1) (omega arith)

  count_same : byte_count_differs s' ≡ byte_count_differs s
  count_same = rw (length-same, total_same) (ap not (eqb_plus (length s) (job_length_of (header_of s)) 4))

  few-same : too_few_rows s' ≡ too_few_rows s
  few-same = rw (bounds_same, df_same) refl

  rows_same : (room : ℕ) → plain_row_tests (bounds_of s') (number_at s') room ≡ plain_row_tests (bounds_of s) (number_at s) room
  rows_same room = ap₂ (λ (b : Bounds) (n : ℕ → ℕ → ℕ). plain_row_tests b n room) bounds_same numbers-same

  plain_same : (room : ℕ) → item5_outcome s' room ≡ item5_outcome s room
  plain_same room =
      let long_enough = le-ltb (length s) (header_length_of s) (rw J.short.1 J.short.0) in
      let long-enough' = le-ltb (length s') (header_length_of s') (rw J.longer.1 J.longer.0) in
      let short : item5_broken s ≡ false = rw J.short.1 refl in
      rw (long_enough, long-enough', unbroken, short, count_same, few-same, rows_same room) refl

  pub outcome-same : (room : ℕ) → outcome_of s' room ≡ outcome_of s room
  outcome-same room = longer_plain.tests room ∙ plain_same room ∙ sym (short_plain.tests room)
