use Rattle.std.proofs.Common.{sym, ap, ◌∙◌}
use Rattle.std.specs.Prelude.{position}
use Rattle.std.specs.Str.{bytes_eq}
use Rattle.bm_lang.proofs.Lookups.{position-map}
use Rattle.bm_lang.proofs.tables.script_place.Goals as goal

pub returns : goal.returns
returns c =
    let e = rw c.as_bytes.ensures.value at c.place.ensures in
    e ∙ ap (position (λ n. bytes_eq n c.args.name.now)) c.args.scripts.same ∙ sym (position-map (λ x. x.name) (λ n. bytes_eq n c.args.name.now) c.args.scripts.items.now)
