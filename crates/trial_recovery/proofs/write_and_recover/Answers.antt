-- What was written is no longer than the area (`written_fits`), so it can be lent; the claim joins what the two calls promise (`trial-recovered`).
use Prim.Native.Nat.{ℕ}
use mathlib.Core.Path.{◌≡◌, refl, subst, ◌∙◌}
use native.Mathlib.Omega.{arith}
use lib.ListN.{take, length-take}
use Rattle.std.specs.Prelude.{Result, Ok, Err}
use Rattle.std.specs.Result.{result_unwrap_or}
use Rattle.format.specs.declared.Refusal.{Refusal}
use Rattle.format.specs.Outcomes.{report_of, writing_report_of}
use Rattle.recovery.specs.Recovery.{Settled}
use Rattle.trial_recovery.proofs.Claim.{written_fits, trial-recovered}
use Rattle.trial_recovery.proofs.write_and_recover.Goals as goal

-- how many bytes the first call wrote
number : (r : Result ℕ Refusal) → result_unwrap_or r 0 ≡ (writing_report_of r).written
number (Ok n) = refl
number (Err e) = refl

pub slice_bounds-recover-end : goal.slice_bounds-recover-end
slice_bounds-recover-end c =
    let t = c.trial-writing in
    omega (arith, written_fits _ _ _ _ _ t.ensures, c.unwrap_or-end.ensures, number t.result, t.auto.area)

pub slice_bounds-recover-end-2 : goal.slice_bounds-recover-end-2
slice_bounds-recover-end-2 c = let l = slice_bounds-recover-end c in omega (arith, length-take {A = ℕ})

pub returns : goal.returns
returns c =
    let t = c.trial-writing in
    let a = c.args in
    let end : c.unwrap_or-end.result ≡ (writing_report_of t.result).written = c.unwrap_or-end.ensures ∙ number t.result in
    trial-recovered _ _ _ _ _ t.ensures (λ k. (c.type_inv.coefficients k).fits) _
    (subst (λ k. Settled (take k t.new.area) a.area.now (report_of c.recover-recovery.result) c.recover-recovery.new.area) end c.recover-recovery.ensures)
