use Rattle.std.proofs.Common.{◌≡◌, ◌-◌, ◌∙◌, ℕ, List, length, map, drop, sym, subst, ap}
use Rattle.std.specs.List.{All}
use Rattle.bm_law.specs.declared.mark.Mark.TheVariants as mark
use Rattle.bm_law.specs.State.{Side}
use Rattle.bm_cache.specs.Shown.{shown}
use Rattle.bm_cache.specs.Span.{Face}
use Rattle.bm_cache.specs.Tokens.{Token, number_of}
use Rattle.bm_work_lists.specs.Fit.{Fit}
use Rattle.bm_work_lists.proofs.Fits.{fit-all}
use Rattle.bm_work.proofs.Came.{all-rest, drop-named, one-less, one-there}
use Rattle.bm_work.proofs.fetches.add_first.Goals as goal

pub add_one-requires-clause-hand : goal.add_one-requires-clause-hand
add_one-requires-clause-hand g c = one-there (Fit (g.H.Host.tests c.args.host.now) c.args.class) ((shown (g.H.Host.held c.args.host.now)).sides (g.H.Host.face c.args.host.now).level).hand c.args.left c.requires.left c.requires.some c.requires.fit

pub returns-clause-quiet : goal.returns-clause-quiet
returns-clause-quiet g c =
    let z = shown (g.H.Host.held c.add_one.new.host) in
    let F : ℕ → Type 0 = λ k. (z.sides k).mark ≡ mark.Quiet in
    subst F (sym (ap (λ (f : Face). f.level) c.add_one.ensures.works.goes.face)) (ap (λ (s : Side Token). s.mark) c.add_one.ensures.side)

pub returns-clause-fit : goal.returns-clause-fit
returns-clause-fit g c =
    let a = c.args.host.now in
    let b = c.add_one.new.host in
    let i = c.args.class in
    let h = ((shown (g.H.Host.held a)).sides (g.H.Host.face a).level).hand in
    let z = shown (g.H.Host.held b) in
    let P = Fit (g.H.Host.tests b) i in
    let F : ℕ → Type 0 = λ k. All P (z.sides k).hand in
    let G : List Token → Type 0 = λ us. All P us in
    subst F (sym (ap (λ (f : Face). f.level) c.add_one.ensures.works.goes.face)) (subst G (sym (ap (λ (s : Side Token). s.hand) c.add_one.ensures.side)) (fit-all i (g.H.Host.tests a) (g.H.Host.tests b) (drop 1 h) c.add_one.ensures.lasts (all-rest (Fit (g.H.Host.tests a) i) h c.requires.fit)))

pub returns-clause-left : goal.returns-clause-left
returns-clause-left g c =
    let a = c.args.host.now in
    let b = c.add_one.new.host in
    let h = ((shown (g.H.Host.held a)).sides (g.H.Host.face a).level).hand in
    let z = shown (g.H.Host.held b) in
    let F : ℕ → Type 0 = λ k. c.args.left - 1 ≡ length (z.sides k).hand in
    subst F (sym (ap (λ (f : Face). f.level) c.add_one.ensures.works.goes.face)) (one-less h c.args.left c.requires.left c.requires.some ∙ sym (ap (λ (s : Side Token). length s.hand) c.add_one.ensures.side))

pub returns-clause-named : goal.returns-clause-named
returns-clause-named g c =
    let a = c.args.host.now in
    let b = c.add_one.new.host in
    let h = ((shown (g.H.Host.held a)).sides (g.H.Host.face a).level).hand in
    let z = shown (g.H.Host.held b) in
    let F : ℕ → Type 0 = λ k. map number_of (z.sides k).hand ≡ drop 1 (map number_of h) in
    subst F (sym (ap (λ (f : Face). f.level) c.add_one.ensures.works.goes.face)) (ap (λ (s : Side Token). map number_of s.hand) c.add_one.ensures.side ∙ drop-named h)
