-- Paper 02, item 5: "an old job is one with equal bounds and is answered as before". The same job under its two headers, s with the short one and s'
-- with the longer one, as one claim about two calls: the first reports r and leaves `after` in its area, the second r' and after'.
use Rattle.std.specs.Prelude.{◌≡◌, cond, List, ℕ, ◌+◌, ◌*◌, ◌≤◌, ◌<◌, ltb, length, drop}
use Rattle.format.specs.declared.Report.{Report}
use Rattle.cursor.specs.Bits.{bit_of, field_of}
use Rattle.header.specs.Header.{outputs_of, df_of, spare_bit_of}
use Rattle.recovery.specs.Recovery.{Settled}

pub record SameJob (s s' : List ℕ) : Type 0 where
  pub short : (3 ≤ length s) × (spare_bit_of s ≡ 0)
  pub longer : (7 ≤ length s') × (spare_bit_of s' ≡ 1)
  -- the 23 bits before the spare bit
  pub fields : (k : ℕ) → k < 23 → bit_of s' k ≡ bit_of s k
  -- the added bounds are df for every output and 0 for those that do not exist, and no flag is set
  pub bounds : (i : ℕ) → i < 4 → field_of s' (24 + 5 * i) 5 ≡ cond (ltb i (outputs_of s)) (df_of s) 0
  pub flags : field_of s' 44 12 ≡ 0
  -- "the rows equal": all bytes behind the headers
  pub rows : drop 7 s' ≡ drop 3 s

-- with areas that hold the same, both calls report the same and leave the same bytes
pub record EitherHeader (s area : List ℕ) (r : Report) (after s' area' : List ℕ) (r' : Report) (after' : List ℕ) : Type 0 where
  pub first : Settled s area r after
  pub second : Settled s' area' r' after'
  pub alike : SameJob s s' → area' ≡ area → (r' ≡ r) × (after' ≡ after)
