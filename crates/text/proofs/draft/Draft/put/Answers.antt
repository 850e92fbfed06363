use Rattle.std.proofs.Common.{◌≡◌, ◌+◌, ◌-◌, length, take, drop, sym, ap, ◌∙◌, arith}
use Rattle.std.proofs.lemmas.List.{length-take}
use Rattle.text.specs.Drafts.{extended}
use Rattle.text.proofs.Puts.{put_fits, put_all}
use Rattle.text.proofs.draft.Draft.put.Goals as goal

pub returns : goal.returns
returns c =
    let d = c.self.inside in
    let more = c.args.more.now in
    let copied : length (take c.min-fits.result more) ≡ c.min-fits.result = omega (arith, length-take c.min-fits.result more, c.min-fits.ensures) in
    let counted : c.put_bytes.result ≡ c.min-fits.result = c.put_bytes.ensures.0 ∙ copied in
    let whole : c.put_bytes.new.area ≡ take c.put_bytes.result more =
    c.put_bytes.ensures.1 ∙ put_all (take c.min-fits.result more) _ (omega (arith, copied, length-take (d.count + c.min-fits.result - d.count) (drop d.count d.bytes))) ∙ ap (λ n. take n more) (sym counted) in
    put_fits d.bytes more c.put_bytes.new.area d.count c.put_bytes.result _ c.self.told c.self.invariant (counted ∙ c.min-fits.ensures) whole
    ∙ ap (λ held. extended held more) c.self.view_is
