use Rattle.std.proofs.Common.{◌≡◌, ◌≤◌, ◌-◌, [], ℕ, suc, List, length, map, sym, subst, ap, arith}
use Rattle.std.proofs.lemmas.List.{length-map}
use Rattle.bm_journal.specs.declared.units.Units.TheVariants.{Whole}
use Rattle.bm_journal.specs.declared.entry.Entry.TheVariants as entry
use Rattle.bm_law.specs.State.{Side}
use Rattle.bm_cache.specs.Shown.{shown}
use Rattle.bm_cache.specs.Span.{Face}
use Rattle.bm_cache.specs.Tokens.{Token, number_of}
use Rattle.bm_law_work.specs.Parts.{Part, Say, Stand, Then}
use Rattle.bm_law_work.specs.WorkPhrases.{AddAll, IsOne}
use Rattle.bm_work_lists.specs.FromLists.{Fetched}
use Rattle.bm_work_lists.proofs.Grown.{then-after}
use Rattle.bm_work.specs.Works.{Works}
use Rattle.bm_work.proofs.Mail.{works-fetched}
use Rattle.bm_work.proofs.Sides.{on-err-any, works-posted, works-join, works-then}
use Rattle.bm_work.proofs.Owing.{stands-with}
use Rattle.bm_work.proofs.fetches.fetch_rest.Goals as goal

pub returns-clause-ok : goal.returns-clause-ok
returns-clause-ok g c =
    let j = g.met.H.Desk.stays_join in
    let i = c.args.class in
    let n : ℕ = c.args.want - 1 in
    let w : suc n ≡ c.args.want = omega (arith, c.if-want-eq0.false) in
    let us : List Token = c.in_ok-units.units.items in
    let ns : List ℕ = map number_of us in
    let a = c.args.host.now in
    let b = c.pause.new.host in
    let x = c.get_fetched.new.host in
    let y = c.note_fetched.new.host in
    let z = c.add_all.new.host in
    let sy = shown (g.H.Host.held y) in
    let F : ℕ → Type 0 = λ k. (sy.sides k).hand ≡ us in
    let h : F (g.H.Host.face y).level = subst F (sym (ap (λ (f : Face). f.level) c.note_fetched.ensures.handled.face)) (ap (λ (s : Side Token). s.hand) c.note_fetched.ensures.side) in
    let N : List ℕ → Type 0 = λ m. Works g.R.Recorder.log g.H.Host.face g.H.Host.pending g.H.Desk.stays g.H.Host.held (λ h. g.H.W.Knows.known (g.H.Desk.shared h)) 0 0 (λ l. AddAll l i m) y z in
    let V : ℕ → Type 0 = λ m. Works g.R.Recorder.log g.H.Host.face g.H.Host.pending g.H.Desk.stays g.H.Host.held (λ h. g.H.W.Knows.known (g.H.Desk.shared h)) 0 0 (λ l. Fetched l i m) a z in
    let E : ℕ → Type 0 = λ m. Works g.R.Recorder.log g.H.Host.face g.H.Host.pending g.H.Desk.stays g.H.Host.held (λ h. g.H.W.Knows.known (g.H.Desk.shared h)) 0 0 (λ l. Say l (IsOne (entry.Fetch i m (Whole ns)))) b y in
    let P : ℕ → Part = λ l. Say l (IsOne (entry.Fetch i (suc n) (Whole ns))) in
    let Q : ℕ → Part = λ l. Then (P l) (AddAll l i ns) in
    let few : length ns ≤ suc n = omega (arith, c.in_ok-units.ensures.few, w, length-map us number_of) in
    let fetched = works-fetched g.R.Recorder.log g.H.Host.face g.H.Host.pending g.H.Desk.stays g.H.Host.held g.H.Desk.shared g.H.W.Knows.known g.H.Host.tests j b x y i c.args.want us c.get_fetched.ensures.posted c.note_fetched.ensures.handled c.note_fetched.ensures.step in
    let u = works-then g.R.Recorder.log g.R.Recorder.counts g.H.Host.face g.H.Host.pending g.H.Desk.stays g.H.Host.held (λ h. g.H.W.Knows.known (g.H.Desk.shared h)) j 0 0 0 0 P (λ l. AddAll l i ns) b y z c.pause.ensures.stands.fine.placed c.note_fetched.ensures.stands.fine.placed (subst E (sym w) fetched) (subst N (ap (λ (m : List Token). map number_of m) h) c.add_all.ensures.works) in
    subst V w (works-join g.R.Recorder.log g.R.Recorder.counts g.H.Host.face g.H.Host.pending g.H.Desk.stays g.H.Host.held (λ h. g.H.W.Knows.known (g.H.Desk.shared h)) j 0 0 0 0 (λ l. Stand l []) Q (λ l. Fetched l i (suc n)) a b z (λ l s one two p q. (ns, few, then-after l (IsOne (entry.Fetch i (suc n) (Whole ns))) (AddAll l i ns) s one two p q)) c.requires.stands.fine.placed c.pause.ensures.stands.fine.placed c.pause.ensures.works u)

pub returns-in_err-units-clause-err : goal.returns-in_err-units-clause-err
returns-in_err-units-clause-err g c = on-err-any c.from_residual.result (works-posted g.R.Recorder.log g.R.Recorder.counts g.H.Host.face g.H.Host.pending g.H.Desk.stays g.H.Host.held (λ h. g.H.W.Knows.known (g.H.Desk.shared h)) g.H.Host.tests g.met.H.Desk.stays_join [] 0 0 (λ l. Stand l []) c.args.host.now c.pause.new.host c.get_fetched.new.host c.pause.ensures.works c.get_fetched.ensures.posted)

pub add_all-requires-clause-stands : goal.add_all-requires-clause-stands
add_all-requires-clause-stands g c =
    let y = c.note_fetched.new.host in
    let o = c.in_ok-units.ensures.owes [] (g.met.H.Desk.asked_open c.pause.new.host c.pause.ensures.stands.sound) in
    stands-with g.R.Recorder.log g.R.Recorder.counts (λ _. Unit {0}) g.H.Host.sound g.H.Host.tests g.H.Host.face g.H.Host.held y (c.note_fetched.ensures.sound o) c.note_fetched.ensures.stands
