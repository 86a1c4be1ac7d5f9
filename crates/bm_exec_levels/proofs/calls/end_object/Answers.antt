use Rattle.std.specs.Prelude.{◌&&◌, is_none}
use Rattle.std.proofs.lemmas.Bool.{and_from}
use Rattle.std.proofs.Common.{◌≡◌, ◌∙◌, ◌+◌, ℕ, Bool, true, false, Option, None, Some, is_some, [], ◌∷◌, refl, sym, ap, subst, arith}
use Rattle.bm_journal.specs.declared.entry.Entry.TheVariants as entry
use Rattle.bm_journal.specs.declared.ids.ObjId.{ObjId}
use Rattle.bm_page.specs.UnitState.{UnitState}
use Rattle.bm_law_order.specs.Act as act
use Rattle.bm_law_order.specs.Graphs.{graph_names_in, standing_from}
use Rattle.bm_grace.specs.Known.{Known}
use Rattle.bm_law.specs.Stands.{stands}
use Rattle.bm_exec.specs.Living.{Living, count_in, home_of}
use Rattle.bm_exec.proofs.Lives.{living-now}
use Rattle.bm_exec.proofs.Sounds.{times-self}
use Rattle.bm_law.specs.State.{seen}
use Rattle.bm_cache.specs.Tests.{SuitsFree}
use Rattle.bm_cache.specs.Tokens.{number_of}
use Rattle.bm_page.specs.declared.units.Seal.{Seal}
use Rattle.bm_exec_levels.specs.AtProcessor.{lists_of, tests_of}
use Rattle.bm_exec_levels.specs.Freeing.{free_entry}
use Rattle.bm_exec_levels.specs.Ready.{known_of}
use Rattle.bm_exec_levels.specs.AtTie.{Awaits, FreesAt, tied-freeing, tied-open}
use Rattle.bm_exec_levels.specs.Slotted.{in_hands, items_in}
use Rattle.bm_law_scenario.specs.Declared.{Declared, declared_in}
use Rattle.bm_world.specs.Lives.{life_ended}
use Rattle.bm_exec_levels.specs.Hosting.{with_caches, with_side}
use Rattle.bm_exec_levels.specs.declared.processor.Processor.{Processor}
use Rattle.bm_exec_levels.proofs.Begun.{at-ended, at-noted}
use Rattle.bm_exec_levels.proofs.Made.{given-up}
use Rattle.bm_exec_levels.proofs.Graphed.{items-ended}
use Rattle.bm_exec_levels.proofs.Noted.{between-join, between-noted, between-sided, came-sided, fine-sided, stands-nowhere}
use Rattle.bm_exec_levels.proofs.Stocked.{handed, hands-ended, last-held, last-out}
use Rattle.bm_exec_levels.proofs.calls.end_object.Goals as goal

pub end_life-unit-requires-clause-lives : goal.end_life-unit-requires-clause-lives
end_life-unit-requires-clause-lives g c =
    let o : ObjId = c.args.object in
    let d : Declared = declared_in c.args.program.now.scenario.now in
    let k : Known = known_of g.W.Knows c.args.own.now in
    ap (λ (x : Known). is_some (x.objects.lives o.unit)) c.call.ensures.known ∙ ap is_some (handed d k.objects c.requires.at.ready.stocked o.unit _ c.requires.living.1.is).lives_so

pub end_life-unit-requires-clause-only : goal.end_life-unit-requires-clause-only
end_life-unit-requires-clause-only g c = ap (λ (x : Known). count_in (x.objects.lives c.args.object.unit)) c.call.ensures.known ∙ c.requires.only

pub release-requires-clause-at : goal.release-requires-clause-at
release-requires-clause-at g c =
    let l = g.L.Rank.number in
    let p = c.args.program.now in
    let n = rw c.level.ensures.number at c.note.ensures.step in
    let o : ObjId = c.args.object in
    let k : Processor g.row.W.Denot = c.call.new.own in
    let q = c.call.ensures.known in
    let held = ap (λ (x : Known). in_hands x.objects o.unit) q ∙ c.requires.living.1.is in
    let only = ap (λ (x : Known). count_in (x.objects.lives o.unit)) q ∙ c.requires.only in
    let one = at-noted g.W.Knows l p k c.note.new.self entry.Last refl tt refl n.processor n.records c.call.ensures.at in
    at-ended g.W.Knows l p (with_caches k c.note.new.self) c.end_life-unit.new.self o.unit _ c.end_life-unit.ensures.known held only one

pub release-requires-clause-fine : goal.release-requires-clause-fine
release-requires-clause-fine g c =
    let l = g.L.Rank.number in
    let p = c.args.program.now in
    let n = rw c.level.ensures.number at c.note.ensures.step in
    let o : ObjId = c.args.object in
    let z = c.note.new.self in
    let w : g.row.W.Denot = c.end_life-unit.new.self in
    let e = c.end_life-unit.ensures in
    let two = between-noted g.W.Knows l p c.call.new.own z entry.Last c.note.ensures.same n.processor c.note.ensures.placed n.records c.call.ensures.between.fine in
    let k : Processor g.row.W.Denot = with_caches c.call.new.own z in
    let none : stands o.unit (lists_of k) ≡ 0 = stands-nowhere g.W.Knows l o.unit k (e.mine.were_not o.unit (times-self o.unit)) two.fine in
    fine-sided g.W.Knows l o.unit k w e.others none (ap (λ (x : Known). x.grace.processors) e.known) two.fine

pub release-requires-clause-fresh : goal.release-requires-clause-fresh
release-requires-clause-fresh g c =
    let l = g.L.Rank.number in
    let p = c.args.program.now in
    let n = rw c.level.ensures.number at c.note.ensures.step in
    let o : ObjId = c.args.object in
    let z = c.note.new.self in
    let e = c.end_life-unit.ensures in
    let two = between-noted g.W.Knows l p c.call.new.own z entry.Last c.note.ensures.same n.processor c.note.ensures.placed n.records c.call.ensures.between.fine in
    let k : Processor g.row.W.Denot = with_caches c.call.new.own z in
    let none : stands o.unit (lists_of k) ≡ 0 = stands-nowhere g.W.Knows l o.unit k (e.mine.were_not o.unit (times-self o.unit)) two.fine in
    let F : ℕ → Type 0 = λ j. stands j (lists_of k) ≡ 0 in
    subst F (sym e.number) none

pub returns-clause-disposed : goal.returns-clause-disposed
returns-clause-disposed g c class alive =
    let l = g.L.Rank.number in
    let n = rw c.level.ensures.number at c.note.ensures.step in
    let m : Processor g.row.W.Denot = c.args.own.now in
    let o : ObjId = c.args.object in
    let d : Declared = declared_in c.args.program.now.scenario.now in
    let k : Known = known_of g.W.Knows m in
    let u : UnitState = c.end_life-unit.result in
    let e = c.end_life-unit.ensures in
    let q = c.call.ensures.known in
    let f = c.release.ensures.freed in
    let hands = in_hands k.objects in
    let stocked = c.requires.at.ready.stocked in
    let whole : hands o.unit ≡ k.objects.lives o.unit = last-held d k o.unit _ stocked alive.is c.requires.only in
    let lived = whole ∙ (sym (ap (λ (x : Known). x.objects.lives o.unit) q) ∙ e.lived) in
    let home : home_of (hands o.unit) ≡ Some u.home = ap home_of lived in
    let is : u.class ≡ class = (living-now hands o.unit o.life class _ 1 _ u lived alive).1 in
    let ends = c.release.ensures.lives.0 ∙ (ap (λ (x : Known). in_hands x.objects) e.known ∙ (ap (λ (x : Known). in_hands (life_ended o.unit x).objects) q ∙ hands-ended d k o.unit _ stocked alive.is c.requires.only)) in
    given-up c.args.counted l _ class o u (lists_of m) _ f.rest _ _ _ _ hands _ e.number is (ap (seen number_of) (c.note.ensures.same ∙ c.call.ensures.shown)) home c.call.ensures.said n.records f.records f.allowed (ap count_in whole ∙ c.requires.only) ends

pub returns-clause-between : goal.returns-clause-between
returns-clause-between g c =
    let l = g.L.Rank.number in
    let p = c.args.program.now in
    let n = rw c.level.ensures.number at c.note.ensures.step in
    let m : Processor g.row.W.Denot = c.args.own.now in
    let o : ObjId = c.args.object in
    let z = c.note.new.self in
    let w : g.row.W.Denot = c.end_life-unit.new.self in
    let e = c.end_life-unit.ensures in
    let two = between-noted g.W.Knows l p c.call.new.own z entry.Last c.note.ensures.same n.processor c.note.ensures.placed n.records c.call.ensures.between.fine in
    let k : Processor g.row.W.Denot = with_caches c.call.new.own z in
    let none : stands o.unit (lists_of k) ≡ 0 = stands-nowhere g.W.Knows l o.unit k (e.mine.were_not o.unit (times-self o.unit)) two.fine in
    let graced = ap (λ (x : Known). x.grace) e.known in
    let many = ap (λ (x : Known). x.grace.processors) e.known in
    let asked : (g.W.Knows.known w).objects.asked ≡ (known_of g.W.Knows k).objects.asked + 0 = (let a = ap (λ (x : Known). x.objects.asked) e.known in omega (arith, a)) in
    let three = between-sided g.W.Knows 0 l p k w graced asked (fine-sided g.W.Knows l o.unit k w e.others none many two.fine) (came-sided g.W.Knows l o.unit k w e.others none) in
    between-join g.W.Knows 1 0 0 0 l p m (with_side k w) c.release.new.own (between-join g.W.Knows 1 0 0 0 l p m k (with_side k w) (between-join g.W.Knows 1 0 0 0 l p m c.call.new.own k c.call.ensures.between two) three) c.release.ensures.between

-- by how its life ended
either : (delayed : Bool) (A : Bool → Type 0) → (delayed ≡ false → A false) → (delayed ≡ true → A true) → A delayed
either false A f t = f refl
either true A f t = t refl

pub release-requires-clause-suits : goal.release-requires-clause-suits
release-requires-clause-suits g c =
    let u : UnitState = c.end_life-unit.result in
    let e = c.end_life-unit.ensures in
    let k : Processor g.row.W.Denot = with_side (with_caches c.call.new.own c.note.new.self) c.end_life-unit.new.self in
    let r = g.W.Knows.rights c.end_life-unit.new.self in
    let n : u.number ≡ c.args.object.unit = e.number in
    let mine : r.mine u.number ≡ true = subst (λ x. r.mine x ≡ true) (sym n) (e.mine.are c.args.object.unit (times-self c.args.object.unit)) in
    either c.args.counted (λ d. SuitsFree (tests_of g.W.Knows k) u (free_entry d u.number u.home))
    (λ f. and_from (r.mine u.number) (r.settled u.number u.life u.seal) mine (e.settled f))
    (λ f. and_from (r.mine u.number) (r.due u.number u.life None && is_none u.seal) mine (and_from (r.due u.number u.life None) (is_none u.seal) (subst (λ x. r.due x u.life None ≡ true) (sym n) (e.due f)) (ap (λ (s : Option Seal). is_none s) e.unsealed)))

pub release-requires-clause-tied : goal.release-requires-clause-tied
release-requires-clause-tied g c =
    let l = g.L.Rank.number in
    let since = g.B.Since.since in
    let start = g.B.Since.start in
    let n = rw c.level.ensures.number at c.note.ensures.step in
    let m : Processor g.row.W.Denot = c.args.own.now in
    let o : ObjId = c.args.object in
    let d : Declared = declared_in c.args.program.now.scenario.now in
    let j : Known = known_of g.W.Knows m in
    let u : UnitState = c.end_life-unit.result in
    let e = c.end_life-unit.ensures in
    let alive = c.requires.living in
    let lived = last-held d j o.unit _ c.requires.at.ready.stocked alive.1.is c.requires.only ∙ (sym (ap (λ (x : Known). x.objects.lives o.unit) c.call.ensures.known) ∙ e.lived) in
    let now : u.life ≡ o.life = (living-now (in_hands j.objects) o.unit o.life alive.0 _ 1 _ u lived alive.1).0 in
    let k : Processor g.row.W.Denot = with_side (with_caches c.call.new.own c.note.new.self) c.end_life-unit.new.self in
    let F : ℕ → Type 0 = λ x. FreesAt g.W.Knows since start l x u.home k in
    subst F (sym e.number) (tied-freeing g.W.Knows since start c.args.counted l o.unit o.life u.home c.call.new.own k (c.call.ensures.owes [] (tied-open g.W.Knows since start l m c.requires.tied)) n.records
    (subst (λ x. g.W.Knows.does (act.Ends o.unit x u.home c.args.counted ∷ []) c.call.new.own.side k.side) now e.does, ap (λ (x : Known). x.grace.processor) e.known, ap (λ (x : Known). graph_names_in x.objects.graphs) e.known) (either c.args.counted (λ d. Awaits g.W.Knows d o.unit k) (λ f. e.undue f) (λ f. e.unsettled f)))

pub end_life-unit-requires-clause-alone : goal.end_life-unit-requires-clause-alone
end_life-unit-requires-clause-alone g c =
    let o : ObjId = c.args.object in
    let d : Declared = declared_in c.args.program.now.scenario.now in
    let k : Known = known_of g.W.Knows c.args.own.now in
    ap (λ (x : Known). standing_from 0 x.objects.graphs o.unit) c.call.ensures.known ∙ last-out d k o.unit _ c.requires.at.ready.stocked c.requires.living.1.is c.requires.only

pub returns-clause-items : goal.returns-clause-items
returns-clause-items g c =
    let o : ObjId = c.args.object in
    let d : Declared = declared_in c.args.program.now.scenario.now in
    let k : Known = known_of g.W.Knows c.args.own.now in
    let e = c.end_life-unit.ensures in
    let q = c.call.ensures.known in
    let r = c.release.ensures.lives.1 in
    record {
      graphs = r.graphs ∙ (ap (λ (x : Known). x.objects.graphs) e.known ∙ ap (λ (x : Known). x.objects.graphs) q);
      items = r.items ∙ (ap (λ (x : Known). items_in x.objects) e.known ∙ (ap (λ (x : Known). items_in (life_ended o.unit x).objects) q ∙ items-ended d k o.unit _ c.requires.at.ready.stocked c.requires.living.1.is c.requires.only));
    }
