use Rattle.std.proofs.Common.{◌≡◌, [], ◌∷◌, ◌++◌, ◌∙◌, ◌+◌, ◌<◌, ℕ, List, Option, None, Some, refl, sym, ap, subst, arith, inl, inr}
use Rattle.std.specs.Prelude.{◌^◌, Bool, IfSome, false, if◌then◌else◌, nat_lt, true}
use Rattle.bm_class.specs.Sizes.{size_of_class}
use Rattle.bm_class.specs.Watermarks.{low_of_size}
use Rattle.bm_exec_levels.specs.Asked.{AsksFor, asked_over}
use Rattle.bm_journal.specs.declared.entry.Entry.{Entry}
use Rattle.bm_journal.specs.declared.entry.Entry.TheVariants as entry
use Rattle.bm_law.specs.Phrases.{given, raise_below}
use Rattle.bm_law.specs.Spans.{Records}
use Rattle.bm_law_order.specs.Chunk.{seal_told}
use Rattle.bm_page.specs.UnitState.{UnitState}
use Rattle.bm_page.specs.declared.units.Seal.{Seal}
use Rattle.bm_grace.specs.Known.{Known, Lives}
use Rattle.bm_cache.specs.Tokens.{Token, seal_numbers}
use Rattle.bm_exec.specs.Living.{IsMade, new_life, with_life}
use Rattle.bm_exec_levels.specs.AtProcessor.{log_of}
use Rattle.bm_exec_levels.specs.Hosting.{with_side}
use Rattle.bm_exec_levels.specs.AtTie.{asked-behind, tied-begun, tied-closed, tied-open}
use Rattle.bm_exec_levels.specs.Ready.{asked_of, known_of}
use Rattle.bm_exec_levels.specs.declared.processor.Processor.{Processor}
use Rattle.bm_exec_levels.proofs.Begun.{at-begun}
use Rattle.bm_exec_levels.proofs.Stocked.{hands-begun, no-hands}
use Rattle.bm_exec_levels.specs.Slotted.{in_hands, items_in}
use Rattle.bm_law_scenario.specs.Declared.{Declared, declared_in}
use Rattle.bm_law_order.specs.Chunk as chunk
use Rattle.bm_exec_levels.proofs.Made.{made-none, made-one}
use Rattle.bm_exec_levels.proofs.Graphed.{items-begun}
use Rattle.bm_law_order.specs.Graphs.{graph_names_in}
use Rattle.bm_exec_levels.proofs.Noted.{between-join, between-most, between-sided, came-sided, fine-sided}
use Rattle.bm_exec_levels.proofs.calls.make.Goals as goal

pub allocate-requires-clause-tied : goal.allocate-requires-clause-tied
allocate-requires-clause-tied g c =
    let l = g.L.Rank.number in
    let since = g.B.Since.since in
    let start = g.B.Since.start in
    let e = entry.New c.args.name c.args.values in
    tied-closed g.W.Knows since start l [] (e ∷ []) c.call.new.own (record { chunk = chunk.Quiet e refl; free = refl; acts_are = refl; entries_are = refl }) (c.call.ensures.owes [] (tied-open g.W.Knows since start l c.args.own.now c.requires.tied))

pub returns-in-Unit-clause-created : goal.returns-in-Unit-clause-created
returns-in-Unit-clause-created g c =
    let d : Declared = declared_in c.args.program.now.scenario.now in
    let m : Known = known_of g.W.Knows c.args.own.now in
    let k : Known = known_of g.W.Knows c.allocate.new.own in
    let u : UnitState = c.in-Unit.unit in
    let a = c.in-Unit.ensures.answer in
    let b = c.begin_life.ensures in
    let t = c.args.type_id.0 in
    let kept : in_hands k.objects ≡ in_hands m.objects = c.allocate.ensures.lives.0 ∙ ap (λ (x : Known). in_hands x.objects) c.call.ensures.known in
    let none : in_hands m.objects u.number ≡ None = ap (λ (f : Lives). f u.number) (sym kept) ∙ no-hands k.objects u.number b.none in
    let V : List ℕ → Type 0 = λ v. in_hands (g.W.Knows.known c.begin_life.new.self).objects ≡ with_life u.number (Some (new_life u.class t (u.life + 1) u.home v)) (in_hands k.objects) in
    let lived = subst V c.duplicate-fields.ensures (ap (λ (x : Known). in_hands x.objects) b.known ∙ hands-begun d k t c.duplicate-fields.result u c.in-Unit.ensures.sound.0.ready.stocked b.none) in
    let F : ℕ → Lives → Type 0 = λ z f. in_hands (g.W.Knows.known c.begin_life.new.self).objects ≡ with_life u.number (Some (new_life z t (u.life + 1) u.home c.args.values)) f in
    let now = subst (F c.args.class) kept (subst (λ z. F z (in_hands k.objects)) c.in-Unit.ensures.class lived) in
    rw b.object (made-one g.L.Rank.number c.args.class t c.args.name c.args.values _ _ _ u a.0 a.1 (in_hands m.objects) (in_hands (g.W.Knows.known c.begin_life.new.self).objects) c.call.ensures.said a.4 none now)

-- no more were asked for than before the allocation
pub returns-in-Unit-clause-at : goal.returns-in-Unit-clause-at
returns-in-Unit-clause-at g c =
    let k : Processor g.row.W.Denot = c.allocate.new.own in
    let u : UnitState = c.in-Unit.unit in
    let t = c.args.type_id.0 in
    let types = c.args.program.now.scenario.now.types in
    let more = c.call.ensures.between.stays.asks_most in
    let most = c.allocate.ensures.between.stays.asks_most in
    let room = c.requires.room in
    let asks : asked_of g.W.Knows c.args.program.now.scenario.now k + 1 < 2 ^ 22 = omega (arith, most, more, room) in
    let made = subst (λ i. IsMade types i t c.duplicate-fields.result) (sym c.in-Unit.ensures.class) (subst (λ (v : List ℕ). IsMade types c.args.class t v) (sym c.duplicate-fields.ensures) c.requires.made) in
    at-begun g.W.Knows g.L.Rank.number c.args.program.now k c.begin_life.new.self t c.duplicate-fields.result u c.begin_life.ensures.known c.begin_life.ensures.none made asks c.in-Unit.ensures.sound.0

pub returns-in-Unit-clause-between : goal.returns-in-Unit-clause-between
returns-in-Unit-clause-between g c =
    let l = g.L.Rank.number in
    let p = c.args.program.now in
    let m : Processor g.row.W.Denot = c.args.own.now in
    let k : Processor g.row.W.Denot = c.allocate.new.own in
    let w : g.row.W.Denot = c.begin_life.new.self in
    let u : UnitState = c.in-Unit.unit in
    let b = c.begin_life.ensures in
    let x = c.allocate.ensures.between in
    let none = c.in-Unit.ensures.gone.1 in
    let graced = ap (λ (x : Known). x.grace) b.known in
    let many = ap (λ (x : Known). x.grace.processors) b.known in
    let two = between-join g.W.Knows 1 0 0 0 l p m c.call.new.own k c.call.ensures.between x in
    let three = between-sided g.W.Knows 1 l p k w graced (ap (λ (x : Known). x.objects.asked) b.known) (fine-sided g.W.Knows l u.number k w b.others none many x.fine) (came-sided g.W.Knows l u.number k w b.others none) in
    between-join g.W.Knows 1 0 1 0 l p m k (with_side k w) two three

pub returns-in-Empty-clause-created : goal.returns-in-Empty-clause-created
returns-in-Empty-clause-created g c =
    let a = c.in-Empty.ensures.answer in
    made-none g.L.Rank.number c.args.class c.args.type_id.0 c.args.name c.args.values _ _ _ _ (in_hands (known_of g.W.Knows c.args.own.now).objects) _ c.call.ensures.said a.1.records (inl (a.0, refl)) (c.allocate.ensures.lives.0 ∙ ap (λ (x : Known). in_hands x.objects) c.call.ensures.known)

pub returns-in-Empty-clause-between : goal.returns-in-Empty-clause-between
returns-in-Empty-clause-between g c =
    let l = g.L.Rank.number in
    let p = c.args.program.now in
    between-most g.W.Knows 1 2 0 l p c.args.own.now c.allocate.new.own (omega arith) (between-join g.W.Knows 1 0 0 0 l p c.args.own.now c.call.new.own c.allocate.new.own c.call.ensures.between c.allocate.ensures.between)

pub returns-in-Busy-clause-created : goal.returns-in-Busy-clause-created
returns-in-Busy-clause-created g c =
    let a = c.in-Busy.ensures.answer in
    made-none g.L.Rank.number c.args.class c.args.type_id.0 c.args.name c.args.values _ _ _ _ (in_hands (known_of g.W.Knows c.args.own.now).objects) _ c.call.ensures.said a.2.records (inr (_, a.0, a.1, refl)) (c.allocate.ensures.lives.0 ∙ ap (λ (x : Known). in_hands x.objects) c.call.ensures.known)

pub returns-in-Busy-clause-between : goal.returns-in-Busy-clause-between
returns-in-Busy-clause-between g c =
    let l = g.L.Rank.number in
    let p = c.args.program.now in
    between-most g.W.Knows 1 2 0 l p c.args.own.now c.allocate.new.own (omega arith) (between-join g.W.Knows 1 0 0 0 l p c.args.own.now c.call.new.own c.allocate.new.own c.call.ensures.between c.allocate.ensures.between)

-- a seal as the caches tell it, and as the table of chunks does
seals-same : (s : Option Seal) → seal_numbers s ≡ seal_told s
seals-same None = refl
seals-same (Some seal) = refl

-- a flag that is raised is no reply
raises-none : (i k : ℕ) (values : List ℕ) → asked_over (raise_below i k) (Some values) ≡ Some values
raises-none i k values = either (nat_lt k (low_of_size (size_of_class i)))
  where
    either : (b : Bool) → asked_over (if b then entry.Raise i ∷ [] else []) (Some values) ≡ Some values
    either true = refl
    either false = refl

pub returns-in-Unit-clause-tied : goal.returns-in-Unit-clause-tied
returns-in-Unit-clause-tied g c =
    let k : Processor g.row.W.Denot = c.allocate.new.own in
    let u : UnitState = c.in-Unit.unit in
    let b = c.begin_life.ensures in
    let x = c.allocate.ensures.between in
    let a = c.in-Unit.ensures.answer in
    let s = c.in-Unit.ensures.sound in
    let home : u.home ≡ (known_of g.W.Knows k).grace.processor = ap (λ (t : Token). t.home) a.7 ∙ (sym x.came.processor ∙ s.0.ready.here) in
    let i = c.args.class in
    let before : List Entry = entry.Enter i 1 ∷ entry.Pop i u.number ∷ entry.Count i a.0 ∷ entry.Leave i a.1 ∷ raise_below i a.0 in
    let F : Option (ℕ × ℕ) → Type 0 = λ z. Records g.L.Rank.number (before ++ given u.number (u.life + 1) z ∷ []) (log_of c.call.new.own) (log_of k) in
    tied-begun g.W.Knows g.B.Since.since g.B.Since.start g.L.Rank.number u.number (u.life + 1) c.args.type_id.0 c.duplicate-fields.result u.seal before (log_of c.call.new.own) k (with_side k c.begin_life.new.self) (subst (λ v. IfSome (log_of c.call.new.own) (AsksFor g.L.Rank.number v)) (sym c.duplicate-fields.ensures) (asked-behind g.L.Rank.number c.args.name c.args.values (log_of c.args.own.now) (log_of c.call.new.own) c.call.ensures.said)) (raises-none i a.0 c.duplicate-fields.result) (subst F (seals-same u.seal) a.4) refl (b.does home, ap (λ (x : Known). x.grace.processor) b.known, ap (λ (x : Known). graph_names_in x.objects.graphs) b.known) s.1

pub returns-in-Unit-clause-items : goal.returns-in-Unit-clause-items
returns-in-Unit-clause-items g c =
    let d : Declared = declared_in c.args.program.now.scenario.now in
    let k : Known = known_of g.W.Knows c.allocate.new.own in
    let u : UnitState = c.in-Unit.unit in
    let b = c.begin_life.ensures in
    let r = c.allocate.ensures.lives.1 in
    record {
      graphs = ap (λ (x : Known). x.objects.graphs) b.known ∙ (r.graphs ∙ ap (λ (x : Known). x.objects.graphs) c.call.ensures.known);
      items = ap (λ (x : Known). items_in x.objects) b.known ∙ (items-begun d k c.args.type_id.0 c.duplicate-fields.result u c.in-Unit.ensures.sound.0.ready.stocked b.none ∙ (r.items ∙ ap (λ (x : Known). items_in x.objects) c.call.ensures.known));
    }

pub returns-in-Empty-clause-items : goal.returns-in-Empty-clause-items
returns-in-Empty-clause-items g c = (let r = c.allocate.ensures.lives.1 in record { graphs = r.graphs ∙ ap (λ (x : Known). x.objects.graphs) c.call.ensures.known; items = r.items ∙ ap (λ (x : Known). items_in x.objects) c.call.ensures.known })

pub returns-in-Busy-clause-items : goal.returns-in-Busy-clause-items
returns-in-Busy-clause-items g c = (let r = c.allocate.ensures.lives.1 in record { graphs = r.graphs ∙ ap (λ (x : Known). x.objects.graphs) c.call.ensures.known; items = r.items ∙ ap (λ (x : Known). items_in x.objects) c.call.ensures.known })
