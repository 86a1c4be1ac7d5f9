use Rattle.std.proofs.Common.{[], ◌≡◌, ◌%◌, ℕ, arith, inl, inr}
use Rattle.bm_law.specs.SweepPhrases.{MayFinish}
use Rattle.bm_law_work.specs.Parts.{Say}
use Rattle.bm_work.proofs.Sides.{called-works}
use Rattle.bm_work.proofs.Owing.{looked-sound, stands-with}
use Rattle.bm_work.proofs.period.finish_if_passed.Goals as goal

pub returns-then-drives-clause-works : goal.returns-then-drives-clause-works
returns-then-drives-clause-works g c =
    let d = c.args.domain in
    let a = c.args.host.now in
    let b = c.drives.new.host in
    let y = c.finish_if_all.new.host in
    called-works g.R.Recorder.log g.R.Recorder.counts g.H.Host.face g.H.Host.pending g.H.Desk.stays g.H.Host.held (λ h. g.H.W.Knows.known (g.H.Desk.shared h)) (λ h. g.H.W.Knows.rights (g.H.Desk.shared h)) g.met.H.Desk.stays_join 0 0 0 0 (λ l. Say l (MayFinish d)) a b y c.requires.stands.fine.placed c.drives.ensures.stands.fine.placed c.drives.ensures.called c.finish_if_all.ensures.works

pub returns-then-drives-clause-stands : goal.returns-then-drives-clause-stands
returns-then-drives-clause-stands g c =
    let h = c.args.host.now in
    let y = c.finish_if_all.new.host in
    let o = c.finish_if_all.ensures.owes [] [] (c.drives.ensures.owes [] [] (g.met.H.Desk.owes_open h c.requires.stands.sound)) in
    stands-with g.R.Recorder.log g.R.Recorder.counts (λ _. Unit {0}) g.H.Host.sound g.H.Host.tests g.H.Host.face g.H.Host.held y (looked-sound (λ h. g.H.W.Knows.known (g.H.Desk.shared h)) g.H.Desk.owes g.H.Host.sound g.met.H.Desk.owes_closed c.args.domain y o) c.finish_if_all.ensures.stands

pub returns-else-drives-clause-stands : goal.returns-else-drives-clause-stands
returns-else-drives-clause-stands g c =
    let h = c.args.host.now in
    let y = c.drives.new.host in
    let o = c.drives.ensures.owes [] [] (g.met.H.Desk.owes_open h c.requires.stands.sound) in
    stands-with g.R.Recorder.log g.R.Recorder.counts (λ _. Unit {0}) g.H.Host.sound g.H.Host.tests g.H.Host.face g.H.Host.held y (g.met.H.Desk.owes_shut y o) c.drives.ensures.stands

even-none : (n : ℕ) → n ≡ 0 → n % 2 ≡ 1 → ⊥
even-none n e h = omega (arith, e, h)

pub returns-then-drives-clause-rested : goal.returns-then-drives-clause-rested
returns-then-drives-clause-rested g c x odd =
    let d = c.args.domain in
    let y = c.finish_if_all.new.host in
    elim (c.finish_if_all.ensures.owes [] [] (c.drives.ensures.owes [] [] (g.met.H.Desk.owes_open c.args.host.now c.requires.stands.sound))) [
      | inl q ↦ g.met.H.Desk.rested_looked y d x q.1 q.0
      | inr q ↦ absurd (even-none _ q.3 odd)
    ]

pub returns-else-drives-clause-rested : goal.returns-else-drives-clause-rested
returns-else-drives-clause-rested g c x odd = absurd (even-none _ (c.drives.ensures.none c.if-drives.false) odd)
