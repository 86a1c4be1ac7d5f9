use Rattle.std.proofs.Common.{ap, ◌∙◌, [], ◌∷◌, ◌++◌, List, ℕ}
use Rattle.std.specs.Prelude.{position, map}
use Rattle.std.specs.Str.{bytes_eq}
use Rattle.bm_lang.proofs.Lookups.{position-map}
use Rattle.bm_lang.proofs.Pushes.{map-push}
use Rattle.bm_lang.proofs.Printed.{on_ok_then}
use Rattle.bm_lang.proofs.index.Index.put.Goals as goal

pub put_key-requires : goal.put_key-requires
put_key-requires c = rw c.in_ok-owned.ensures.items (position-map (λ v. v.items) (λ n. bytes_eq n c.args.name.now) c.self.inside.names.keys ∙ ap (position (λ n. bytes_eq n c.args.name.now)) c.self.view_is ∙ c.requires)

pub returns : goal.returns
returns c =
    on_ok_then c.put_key.result c.put_key.ensures (λ e. ap (map (λ v. v.items)) e ∙ map-push (λ v. v.items) c.self.inside.names.keys c.in_ok-owned.owned
    ∙ ap (λ (ys : List (List ℕ)). ys ++ c.in_ok-owned.owned.items ∷ []) c.self.view_is ∙ ap (λ (n : List ℕ). c.args.self.now ++ n ∷ []) c.in_ok-owned.ensures.items)
