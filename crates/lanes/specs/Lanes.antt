-- Arrays of 32 residues modulo p, entry by entry.
use Rattle.std.specs.Prelude.{get_or, ◌≡◌, cond, ◌&&◌, List, ◌∷◌, ℕ, ◌+◌, ◌-◌, ◌*◌, ◌/◌, ◌%◌, ◌<◌, leb, ltb}
use Rattle.field.specs.declared.Prime.{Prime}
use Rattle.field.specs.Primes.{modulus_of}
use Rattle.montgomery.specs.declared.Factor.{Factor}
use Rattle.montgomery.specs.Factors.{inverse_of}
use Rattle.montgomery.specs.Reduction.{reduced_of}
use Rattle.lists.specs.Tabulated.{tabulate}
use Rattle.poly.specs.Coefficients.{Stored}

-- n rounded up to whole groups of eight
abbrev pub groups_of : ℕ → ℕ
groups_of n = (n + 7) / 8 * 8

-- the modulus, where an array holds it 32 times
abbrev pub modulus_at : List ℕ → ℕ
modulus_at ps = get_or ps 0 0

pub record Moduli (ps : List ℕ) : Type 0 where
  pub each : (k : ℕ) → k < 32 → get_or ps k 0 ≡ modulus_at ps

-- the prime's number, 32 times
pub record Constants (q : Prime) (ps : List ℕ) : Type 0 where
  pub moduli : Moduli ps
  pub number : modulus_at ps ≡ modulus_of q

-- its reciprocal modulo 2^16, 32 times
pub record Inverses (q : Prime) (vs : List ℕ) : Type 0 where
  pub each : (k : ℕ) → k < 32 → get_or vs k 0 ≡ inverse_of q

-- 32 residues
abbrev pub Residues : (ps a : List ℕ) → Type 0
Residues ps a = Stored (modulus_at ps) a

-- a with f's values from `start` on, below `end`
unfoldable pub replaced : (start end : ℕ) (f : ℕ → ℕ) (a : List ℕ) → List ℕ
replaced start end f a = tabulate 32 (λ k. cond (leb start k && ltb k end) (f k) (get_or a k 0))

module _ (ps : List ℕ) where
  -- a less b
  abbrev pub less_by : (k a b : ℕ) → ℕ
  less_by k a b = (a + (get_or ps k 0 - b)) % get_or ps k 0

  -- d a - c b
  unfoldable pub combined_lane : Factor → List ℕ → Factor → List ℕ → ℕ → ℕ
  combined_lane d a c b k = less_by k (reduced_of (get_or ps k 0) d.form d.low (get_or a k 0)) (reduced_of (get_or ps k 0) c.form c.low (get_or b k 0))

  -- (u - x) a: the entry below less x times the entry
  unfoldable pub linear_lane : Factor → List ℕ → ℕ → ℕ
  linear_lane x a k = less_by k (get_or (0 ∷ a) k 0) (reduced_of (get_or ps k 0) x.form x.low (get_or a k 0))

  -- (x_k - x) a_k, by the forms of x_k and x
  unfoldable pub difference_lane : (vs xs : List ℕ) (x : ℕ) (a : List ℕ) → ℕ → ℕ
  difference_lane vs xs x a k = reduced_of (get_or ps k 0) (less_by k (get_or xs k 0) x) (less_by k (get_or xs k 0) x * get_or vs k 0 % 65536) (get_or a k 0)

  -- x_k a_k + c, by the form of x_k
  unfoldable pub horner_lane : (vs xs a : List ℕ) (c : ℕ) → ℕ → ℕ
  horner_lane vs xs a c k = less_by k (reduced_of (get_or ps k 0) (get_or xs k 0) (get_or xs k 0 * get_or vs k 0 % 65536) (get_or a k 0)) (modulus_at ps - c)
