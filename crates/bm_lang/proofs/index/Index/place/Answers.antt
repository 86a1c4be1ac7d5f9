use Rattle.std.proofs.Common.{ap, ◌∙◌}
use Rattle.std.specs.Prelude.{position}
use Rattle.std.specs.Str.{bytes_eq}
use Rattle.bm_lang.proofs.Lookups.{position-map}
use Rattle.bm_lang.proofs.index.Index.place.Goals as goal

pub returns : goal.returns
returns c = c.key_place.ensures ∙ position-map (λ v. v.items) (λ n. bytes_eq n c.args.name.now) c.self.inside.names.keys ∙ ap (position (λ n. bytes_eq n c.args.name.now)) c.self.view_is
