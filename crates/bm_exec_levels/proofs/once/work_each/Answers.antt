use Rattle.std.proofs.Common.{◌≡◌, ◌∷◌, ◌+◌, ℕ, ap, drop, length, sym, ◌∙◌, arith}
use Rattle.std.proofs.lemmas.List.{drop_all, drop_more}
use Rattle.bm_law_work.specs.Parts.{Part}
use Rattle.bm_law_scenario.specs.Works.{WorkEach}
use Rattle.bm_exec_levels.proofs.Each.{works-each, works-more, works-none}
use Rattle.bm_exec_levels.proofs.GoingAfter.{begins-after}
use Rattle.bm_exec_levels.proofs.Toward.{Toward}
use Rattle.bm_exec_levels.proofs.once.work_each.Goals as goal

pub loop-class-init : goal.loop-class-init
loop-class-init g c =
    let a = c.args.host.now in
    record {
      works = works-none g.R.Recorder.log g.R.Recorder.counts g.H.Host.face g.H.Host.pending g.H.Desk.stays g.H.Host.held (λ h. g.H.W.Knows.known (g.H.Desk.shared h)) g.met.H.Desk.stays_join c.args.classes.now a (g.met.H.Desk.keeps_stays a a (g.met.H.Host.keeps_same a));
      at_rest = c.requires.at_rest;
    }

pub work_once-requires-clause-begins : goal.work_once-requires-clause-begins
work_once-requires-clause-begins g c =
    let i = c.loop-class.class-index in
    let cs = c.args.classes.now in
    let T : ℕ → Part = λ l. Toward (WorkEach (drop i cs)) (WorkEach cs) in
    begins-after g.R.Recorder.log g.H.Host.face g.H.Host.pending g.H.Desk.stays g.H.Host.held (λ h. g.H.W.Knows.known (g.H.Desk.shared h)) i (length cs) 1 T c.args.host.now c.loop-class.host c.requires.begins c.loop-class.invariant.works (omega arith)

pub loop-class-preserved : goal.loop-class-preserved
loop-class-preserved g c =
    let i = c.loop-class.class-index in
    let cs = c.args.classes.now in
    let a = c.args.host.now in
    let b = c.loop-class.host in
    let z = c.work_once.new.host in
    let w = c.in_ok-work_once.ensures in
    let v = c.loop-class.invariant in
    let x = c.class-item.result in
    let e : drop i cs ≡ x ∷ drop (i + 1) cs = drop_more cs i x c.loop-class-test.true ∙ ap (λ (y : ℕ). y ∷ drop (i + 1) cs) (sym c.class-item.is) in
    record {
      works = works-more g.R.Recorder.log g.R.Recorder.counts g.H.Host.face g.H.Host.pending g.H.Desk.stays g.H.Host.held (λ h. g.H.W.Knows.known (g.H.Desk.shared h)) g.met.H.Desk.stays_join cs i x (drop i cs) (drop (i + 1) cs) a b z e c.requires.at_rest.stands.fine.placed v.at_rest.stands.fine.placed v.works w.works;
      at_rest = w.at_rest;
    }

pub returns-clause-works : goal.returns-clause-works
returns-clause-works g c =
    let i = c.loop-class.class-index in
    let cs = c.args.classes.now in
    let a = c.args.host.now in
    let b = c.loop-class.host in
    let v = c.loop-class.invariant in
    works-each g.R.Recorder.log g.R.Recorder.counts g.H.Host.face g.H.Host.pending g.H.Desk.stays g.H.Host.held (λ h. g.H.W.Knows.known (g.H.Desk.shared h)) g.met.H.Desk.stays_join cs (λ h. g.H.W.Knows.rights (g.H.Desk.shared h)) i (length cs) (drop i cs) a b (g.met.H.Desk.keeps_stays b b (g.met.H.Host.keeps_same b)) (drop_all i cs (omega arith)) (omega arith) c.requires.at_rest.stands.fine.placed v.at_rest.stands.fine.placed v.works
