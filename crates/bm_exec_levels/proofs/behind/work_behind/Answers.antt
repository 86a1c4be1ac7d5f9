use Rattle.std.proofs.Common.{◌≤◌, ◌+◌, ◌-◌, ◌*◌, ℕ, length, arith}
use Rattle.std.proofs.lemmas.Nat.{mul-le}
use Rattle.bm_law_work.specs.Parts.{Part}
use Rattle.bm_law_scenario.specs.Works.{UntilDown, WorkBehind, WorkEach}
use Rattle.bm_work.proofs.Sides.{on-ok, works-at-most, works-then}
use Rattle.bm_exec_levels.proofs.GoingAfter.{begins-after}
use Rattle.bm_exec_levels.proofs.behind.work_behind.Goals as goal

-- no handler was added, and so no more works can come
more-left : (k p q : ℕ) → q ≤ p → (k + 1) * (q + 1) ≤ (k + 1) * (p + 1)
more-left k p q h = mul-le (k + 1) (q + 1) (k + 1) (p + 1) (omega arith) (omega (arith, h))

pub until_down-requires-clause-begins : goal.until_down-requires-clause-begins
until_down-requires-clause-begins g c =
    let a = c.args.host.now in
    let b = c.work_each.new.host in
    let cs = c.args.classes.now in
    let k = length cs in
    let p = g.H.Host.pending a in
    let q = g.H.Host.pending b in
    let v = c.in_ok-work_each.ensures in
    let E : ℕ → Part = λ l. WorkEach cs in
    let less = more-left k p q v.works.goes.pending in
    begins-after g.R.Recorder.log g.H.Host.face g.H.Host.pending g.H.Desk.stays g.H.Host.held (λ h. g.H.W.Knows.known (g.H.Desk.shared h)) k (k + (k + 1) * (p + 1)) ((k + 1) * (q + 1)) E a b c.requires.begins v.works (omega (arith, less))

pub returns-clause-works : goal.returns-clause-works
returns-clause-works g c =
    let a = c.args.host.now in
    let b = c.work_each.new.host in
    let z = c.until_down.new.host in
    let cs = c.args.classes.now in
    let k = length cs in
    let p = g.H.Host.pending a in
    let q = g.H.Host.pending b in
    let v = c.in_ok-work_each.ensures in
    let E : ℕ → Part = λ l. WorkEach cs in
    let U : ℕ → Part = λ l. UntilDown cs in
    let r = g.H.Host.pending z in
    let fewer : q - r ≤ p - r = (let h = v.works.goes.pending in omega (arith, h)) in
    let less = more-left k (p - r) (q - r) fewer in
    let le : k + (k + 1) * (q - r + 1) ≤ k + (k + 1) * (p - r + 1) = omega (arith, less) in
    on-ok c.until_down.result (λ w.
    works-at-most g.R.Recorder.log g.R.Recorder.counts g.H.Host.face g.H.Host.pending g.H.Desk.stays g.H.Host.held (λ h. g.H.W.Knows.known (g.H.Desk.shared h)) (λ h. g.H.W.Knows.rights (g.H.Desk.shared h)) (k + (k + 1) * (q - r + 1)) (k + (k + 1) * (q - r + 1)) (k + (k + 1) * (p - r + 1)) (k + (k + 1) * (p - r + 1)) (λ l. WorkBehind cs) a z le le
    (works-then g.R.Recorder.log g.R.Recorder.counts g.H.Host.face g.H.Host.pending g.H.Desk.stays g.H.Host.held (λ h. g.H.W.Knows.known (g.H.Desk.shared h)) g.met.H.Desk.stays_join k k ((k + 1) * (q - r + 1)) ((k + 1) * (q - r + 1)) E U a b z c.requires.at_rest.stands.fine.placed v.at_rest.stands.fine.placed v.works w)) c.until_down.ensures.works
