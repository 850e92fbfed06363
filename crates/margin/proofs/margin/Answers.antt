-- With an area of 254 bytes the tests say what a check for form says; an accepted job's reading then holds the fields that the margin is made of.
use mathlib.Core.Path.{sym, ap, ap₂, ◌∙◌}
use mathlib.Core.List.{List}
use Prim.Native.Nat.{ℕ, ◌+◌, ◌*◌, ◌≤◌}
use native.Mathlib.Omega.{arith}
use Rattle.header.specs.declared.Header.{Header}
use Rattle.header.specs.Header.{bounds_of}
use Rattle.header.proofs.Fields.{fits_fields, fits-header}
use Rattle.lists.proofs.Counting.{count_most}
use Rattle.marked_rows.specs.Marks.{speaks, speaking_count}
use Rattle.job.specs.declared.parsed_job.ParsedJob.{ParsedJob}
use Rattle.job.specs.ParsedJob.{accepted_job}
use Rattle.job.proofs.Forms.{form_with_room}
use Rattle.job.proofs.Laws.{parsed_accepted, parsed_well_formed}
use Rattle.margin.specs.Margin.{excess_of}
use Rattle.margin.proofs.Laws.{margin_by_lem, margin-refused}
use Rattle.margin.proofs.margin.Goals as goal

pub returns-in_default : goal.returns-in_default
returns-in_default c =
    let job : List ℕ = c.args.job.now in
    sym (margin-refused job _ (λ e. c.in_default.not-Ok (accepted_job job) (c.read.ensures ∙ parsed_accepted job 254 (sym (form_with_room job) ∙ e))))

pub returns : goal.returns
returns c =
    let job : List ℕ = c.args.job.now in
    let wrong = c.args.wrong in
    let read = parsed_well_formed job 254 (sym c.read.ensures ∙ c.in-Ok.is) in
    let margin : ParsedJob → Header → ℕ = λ r h. excess_of r.table.speaking (h.df + r.bounds.dg + 2 * wrong) in
    c.excess.ensures ∙ ap₂ margin read.1 c.read_header-header.ensures ∙ sym (margin_by_lem job wrong (form_with_room job ∙ read.0))

pub excess-requires : goal.excess-requires
unfolding speaking_count
excess-requires c =
    let job : List ℕ = c.args.job.now in
    let read = parsed_well_formed job 254 (sym c.read.ensures ∙ c.in-Ok.is) in
    let few : speaking_count job ≤ 31 = omega (arith, count_most (bounds_of job).rows (speaks job), (fits_fields job).rows_most) in (
      omega (arith, ap (λ (r : ParsedJob). r.table.speaking) read.1, few),
      omega (arith, ap (λ (h : Header). h.df) c.read_header-header.ensures, (fits-header job).df_most),
      omega (arith, ap (λ (r : ParsedJob). r.bounds.dg) read.1, (fits_fields job).dg_most),
    )
