use Rattle.std.proofs.Common.{◌≡◌, ◌∙◌, ◌<◌, ◌+◌, ◌-◌, ℕ, [], Some, ap, arith, refl, subst, sym}
use Rattle.bm_journal.specs.declared.entry.Entry.TheVariants as entry
use Rattle.bm_journal.specs.declared.ids.ObjId.{ObjId}
use Rattle.bm_grace.specs.Known.{Known, Living, Lives}
use Rattle.bm_law_scenario.specs.Declared.{Declared, declared_in}
use Rattle.bm_world.specs.Lives.{life_given_up}
use Rattle.bm_exec.specs.Living.{count_in}
use Rattle.bm_exec_levels.specs.AtTie.{tied-given-up, tied-open}
use Rattle.bm_exec_levels.specs.Hosting.{with_caches, with_side}
use Rattle.bm_exec_levels.specs.Ready.{known_of}
use Rattle.bm_exec_levels.specs.Slotted.{in_hands, items_in}
use Rattle.bm_exec_levels.specs.declared.processor.Processor.{Processor}
use Rattle.bm_exec_levels.proofs.Begun.{at-given-up, at-noted}
use Rattle.bm_exec_levels.proofs.Made.{one-less}
use Rattle.bm_exec_levels.proofs.Noted.{between-join, between-noted, between-sided, came-before, fine-before}
use Rattle.bm_exec_levels.proofs.Stocked.{hand-life, hands-given-up}
use Rattle.bm_exec_levels.proofs.Graphed.{items-counted}
use Rattle.bm_law_order.specs.Graphs.{graph_names_in}
use Rattle.bm_exec_levels.proofs.calls.give_up_other.Goals as goal

pub release_other-seen-requires-clause-lives : goal.release_other-seen-requires-clause-lives
release_other-seen-requires-clause-lives g c =
    let o : ObjId = c.args.object in
    let d : Declared = declared_in c.args.program.now.scenario.now in
    let h = hand-life d (known_of g.W.Knows c.args.own.now).objects c.requires.living.0 o.unit o.life c.requires.at.ready.stocked c.requires.living.1 in
    rw c.call.ensures.known h

pub release_other-seen-requires-clause-others : goal.release_other-seen-requires-clause-others
release_other-seen-requires-clause-others g c = rw c.call.ensures.known c.requires.others

pub returns-clause-given_up : goal.returns-clause-given_up
returns-clause-given_up g c =
    let n = rw c.level.ensures.number at c.note.ensures.step in
    let o : ObjId = c.args.object in
    let d : Declared = declared_in c.args.program.now.scenario.now in
    let k : Known = known_of g.W.Knows c.args.own.now in
    let j : Known = known_of g.W.Knows c.call.new.own in
    let e = c.release_other-seen.ensures in
    let counts : c.release_other-seen.result ≡ count_in (k.objects.lives o.unit) = e.seen ∙ ap (λ (x : Known). count_in (x.objects.lives o.unit)) c.call.ensures.known in
    let others = c.requires.others in
    let now = ap (λ (x : Known). in_hands x.objects) e.known ∙ (ap (λ (x : Known). in_hands (life_given_up o.unit x).objects) c.call.ensures.known ∙ hands-given-up d k o.unit _ c.requires.at.ready.stocked c.requires.living.1.is others) in
    one-less g.L.Rank.number o c.release_other-seen.result _ _ _ (in_hands k.objects) _ (omega (arith, counts, others)) c.call.ensures.said n.records now

pub returns-clause-at : goal.returns-clause-at
returns-clause-at g c =
    let n = rw c.level.ensures.number at c.note.ensures.step in
    let o : ObjId = c.args.object in
    let q = c.call.ensures.known in
    let l = g.L.Rank.number in
    let p = c.args.program.now in
    let k : Processor g.row.W.Denot = c.call.new.own in
    let held = ap (λ (x : Known). in_hands x.objects o.unit) q ∙ c.requires.living.1.is in
    let others : 1 < count_in ((known_of g.W.Knows k).objects.lives o.unit) = (let a = c.requires.others in let b = ap (λ (x : Known). count_in (x.objects.lives o.unit)) q in omega (arith, a, b)) in
    let one = at-given-up g.W.Knows l p k c.release_other-seen.new.self o.unit _ c.release_other-seen.ensures.known held others c.call.ensures.at in
    at-noted g.W.Knows l p (with_side k c.release_other-seen.new.self) c.note.new.self (entry.Still c.release_other-seen.result) refl tt refl n.processor n.records one

pub returns-clause-tied : goal.returns-clause-tied
returns-clause-tied g c =
    let n = rw c.level.ensures.number at c.note.ensures.step in
    let o : ObjId = c.args.object in
    let l = g.L.Rank.number in
    let m : Processor g.row.W.Denot = c.args.own.now in
    let k : Processor g.row.W.Denot = with_caches (with_side c.call.new.own c.release_other-seen.new.self) c.note.new.self in
    let e = c.release_other-seen.ensures in
    tied-given-up g.W.Knows g.B.Since.since g.B.Since.start l o.unit o.life c.release_other-seen.result c.call.new.own k (c.call.ensures.owes [] (tied-open g.W.Knows g.B.Since.since g.B.Since.start l m c.requires.tied)) (e.does, ap (λ (x : Known). x.grace.processor) e.known, ap (λ (x : Known). graph_names_in x.objects.graphs) e.known) n.records

pub returns-clause-items : goal.returns-clause-items
returns-clause-items g c =
    let o : ObjId = c.args.object in
    let j : Known = known_of g.W.Knows c.call.new.own in
    let e = c.release_other-seen.ensures in
    record {
      graphs = ap (λ (x : Known). x.objects.graphs) e.known ∙ ap (λ (x : Known). x.objects.graphs) c.call.ensures.known;
      items = ap (λ (x : Known). items_in x.objects) e.known ∙ (items-counted j.objects o.unit (count_in (j.objects.lives o.unit) - 1) j.objects.asked ∙ ap (λ (x : Known). items_in x.objects) c.call.ensures.known);
    }
