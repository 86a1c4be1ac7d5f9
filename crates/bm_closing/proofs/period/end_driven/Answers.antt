use Rattle.std.proofs.Common.{◌∙◌, [], ◌∷◌, ap}
use Rattle.bm_law_order.specs.Act as act
use Rattle.bm_grace.specs.Known.{Known, side}
use Rattle.bm_work.specs.Still.{alike-joined}
use Rattle.bm_work.proofs.Alike.{alike-finished, alike-looked}
use Rattle.bm_closing.proofs.AtEnds.{alike-told}
use Rattle.bm_closing.proofs.Classes.{other-changed}
use Rattle.bm_closing.proofs.period.end_driven.Goals as goal

pub returns-clause-rest : goal.returns-clause-rest
returns-clause-rest g c n = record {
  moves = λ h. (c.finish.ensures.rest n).moves (c.look.ensures.rest c.args.domain n h);
  other = λ d k ne h. (c.finish.ensures.rest n).other d k ne (c.look.ensures.rest d k h);
}

pub returns-clause-alike : goal.returns-clause-alike
returns-clause-alike g c =
    let K = g.W.Knows.known in
    let a = K c.args.world.now in
    let b = K c.look.new.self in
    let d = K c.finish.new.self in
    alike-joined a b d (alike-told a b _ c.look.ensures.known (alike-looked _ _ _ a)) (alike-told b d _ c.finish.ensures.known (alike-finished _ _ b))

pub returns-clause-other : goal.returns-clause-other
returns-clause-other g c d ne =
    let K = g.W.Knows.known in
    let F = λ (k : Known). side d k in
    ap F c.finish.ensures.known ∙ (other-changed _ c.args.domain d _ _ (K c.look.new.self) ne ∙ (ap F c.look.ensures.known ∙ other-changed _ c.args.domain d _ _ (K c.args.world.now) ne))

pub returns-clause-does : goal.returns-clause-does
returns-clause-does g c =
    let d = c.args.domain in
    let b = c.look.new.self in
    let words = (side d (g.W.Knows.known b)).later in
    (words, g.W.Knows.does_join (act.Looks d words ∷ []) (act.Finishes c.finish.result ∷ []) c.args.world.now b c.finish.new.self c.look.ensures.does c.finish.ensures.does)
