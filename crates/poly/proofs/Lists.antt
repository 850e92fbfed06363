-- Bounds of coefficient lists.
use mathlib.Core.Path.{◌≡◌, ◌∙◌}
use mathlib.Core.List.{List}
use Prim.Native.Nat.{ℕ, ◌≤◌, ◌<◌}
use native.Mathlib.Decide.{dec_lt}
use native.Mathlib.Omega.{arith}
use lib.ListN.{get_or, replicate}
use Rattle.lists.specs.Tabulated.{tabulate}
use Rattle.lists.proofs.Tabulated.{at_tabulate, at_tabulate_past, at_zeros}
use Rattle.poly.specs.Coefficients.{Bounded}

pub bounded_mono : {p n m : ℕ} {a : List ℕ} → Bounded p n a → n ≤ m → Bounded p m a
bounded_mono b h = record { residues = b.residues; within = λ k l. b.within k (omega arith) }

pub bounded_zeros : (p n m : ℕ) → 0 < p → Bounded p n (replicate m 0)
bounded_zeros p n m h = record {
  residues = λ k. let z = at_zeros m k in omega arith;
  within = λ k l. at_zeros m k;
}

pub bounded_tabulate : (p n m : ℕ) (f : ℕ → ℕ) → ((k : ℕ) → f k < p) → ((k : ℕ) → n ≤ k → f k ≡ 0) → Bounded p n (tabulate m f)
bounded_tabulate p n m f small past = record {
  residues = λ k. go k (dec_lt k m);
  within = λ k l. zero_past k l (dec_lt k m);
}
  where
    go : (k : ℕ) → Dec (k < m) → get_or (tabulate m f) k 0 < p
    go k (yes h) = rw (at_tabulate m f k h) (small k)
    go k (no h) = let e = at_tabulate_past m f k (omega arith) in let s = small k in omega arith

    zero_past : (k : ℕ) → n ≤ k → Dec (k < m) → get_or (tabulate m f) k 0 ≡ 0
    zero_past k l (yes h) = at_tabulate m f k h ∙ past k l
    zero_past k l (no h) = at_tabulate_past m f k (omega arith)
