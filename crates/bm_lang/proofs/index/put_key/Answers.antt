use Rattle.std.proofs.Common.{ap, ◌∙◌, [], ◌∷◌, ◌++◌, cond}
use Rattle.std.specs.Str.{bytes_eq}
use Rattle.bm_lang.proofs.Lookups.{absent_any, eq_swap}
use Rattle.bm_lang.proofs.index.put_key.Goals as goal

pub returns : goal.returns
returns c = c.in_ok-insert_full.ensures.keys ∙ ap (λ b. cond b c.args.keys.now.keys (c.args.keys.now.keys ++ c.args.owned ∷ [])) (absent_any (λ v. bytes_eq v.items c.args.owned.items) _ c.args.keys.now.keys (λ x. eq_swap c.args.owned.items x.items) c.requires)
