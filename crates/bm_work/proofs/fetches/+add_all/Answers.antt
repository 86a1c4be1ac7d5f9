use Rattle.std.proofs.Common.{ℕ, List, map, drop, subst}
use Rattle.bm_cache.specs.Shown.{shown}
use Rattle.bm_cache.specs.Tokens.{number_of}
use Rattle.bm_law_work.specs.Parts.{Say}
use Rattle.bm_law_work.specs.WorkPhrases.{AddAll}
use Rattle.bm_work.specs.Periods.{AddsFirst}
use Rattle.bm_work.specs.Works.{Works}
use Rattle.bm_work.proofs.Came.{adds-more}
use Rattle.bm_work.proofs.Sides.{works-join}
use Rattle.bm_work.proofs.fetches.+add_all.Goals as goal

pub returns-clause-works : goal.returns-clause-works
returns-clause-works g t c =
    let j = g.met.H.Desk.stays_join in
    let i = c.args.class in
    let a = c.args.host.now in
    let b = c.add_first.new.host in
    let z = c.add_all.new.host in
    let ns : List ℕ = map number_of ((shown (g.H.Host.held a)).sides (g.H.Host.face a).level).hand in
    let N : List ℕ → Type 0 = λ x. Works g.R.Recorder.log g.H.Host.face g.H.Host.pending g.H.Desk.stays g.H.Host.held (λ h. g.H.W.Knows.known (g.H.Desk.shared h)) 0 0 (λ l. AddAll l i x) b z in
    works-join g.R.Recorder.log g.R.Recorder.counts g.H.Host.face g.H.Host.pending g.H.Desk.stays g.H.Host.held (λ h. g.H.W.Knows.known (g.H.Desk.shared h)) j 0 0 0 0 (λ l. Say l (AddsFirst i ns)) (λ l. AddAll l i (drop 1 ns)) (λ l. AddAll l i ns) a b z (λ l s one two. adds-more l i ns s one two) c.requires.stands.fine.placed c.add_first.ensures.stands.fine.placed c.add_first.ensures.works (subst N c.add_first.ensures.named c.add_all.ensures.works)
