-- Where code is, once it called a list or tree.
use Rattle.std.proofs.Common.{◌≡◌, ◌∙◌, ◌<◌, ◌+◌, ℕ, Bool, List, [], ◌∷◌, Option, Some, None, ap, ap₂, arith, refl, slice_get, subst, sym}
use Rattle.std.specs.Prelude.{IfSome, map}
use Rattle.std.specs.Option.{option_map}
use Rattle.bm_journal.specs.declared.entry.Entry.{Entry}
use Rattle.bm_journal.specs.declared.ids.ObjId.{ObjId}
use Rattle.bm_lang.specs.declared.scenario.MapId.{MapId}
use Rattle.bm_journal.specs.Recording.{Appends}
use Rattle.bm_journal.specs.declared.ids.Tag.{Tag}
use Rattle.bm_journal.specs.declared.past.PastCall.{PastCall}
use Rattle.bm_lang.specs.declared.scenario.MapDeclaration.{MapDeclaration}
use Rattle.bm_grace.specs.Known.{Known, Lives, Objects}
use Rattle.bm_grace.specs.Rights.{AsBefore}
use Rattle.bm_graph.specs.Entries.{call_entry}
use Rattle.bm_law.specs.Lists.{Log}
use Rattle.bm_law_order.specs.Act as act
use Rattle.bm_law_order.specs.Calls.{tag_after}
use Rattle.bm_law_order.specs.Graphs.{NamedGraph, effect_of, graph_at, graph_names_in, graphs_after, standing_from}
use Rattle.bm_law_scenario.specs.Declared.{Declared, declared_in, graph_kind}
use Rattle.bm_plan.specs.Position.{StandsAt}
use Rattle.bm_world.specs.Lives.{asked_once, graph_called}
use Rattle.bm_exec.specs.Guarded.{Guarded, Shelved}
use Rattle.bm_exec.specs.Living.{IsToPut, TakesOut, without}
use Rattle.bm_exec_levels.specs.AtPolls.{MayCall, OwnerIs, home, names_of}
use Rattle.bm_exec_levels.specs.AtProcessor.{Between, FineAt, IsAt, guarded_of, items_of, lives_of, lock_of, log_of}
use Rattle.bm_exec_levels.specs.AtTie.{OwesAt, TiedAt, owes-did, tied-called, tied-open}
use Rattle.bm_exec_levels.specs.Calling.{counts-of}
use Rattle.bm_exec_levels.specs.Hosting.{with_side}
use Rattle.bm_exec_levels.specs.Ready.{known_of}
use Rattle.bm_exec_levels.specs.Slotted.{AreStocked, in_hands, items_in}
use Rattle.bm_exec_levels.specs.declared.processor.Processor.{Processor}
use Rattle.bm_exec_levels.specs.declared.program.Program.{Program}
use Rattle.bm_exec_levels.proofs.Begun.{at-graphed}
use Rattle.bm_exec_levels.proofs.Graphed.{HasMoved, graph-name, graph-names, graphed, hands-called, hands-kept, put_by, stocked-called, taken_by}
use Rattle.bm_exec_levels.proofs.Noted.{between-join, between-sided, came-before, fine-before}
use Rattle.bm_grace.specs.declared.grace.Knows.{Ghosts as Knows}

module _ {W : Type 0} (knows : Knows W) (l : ℕ) (p : Program) (m : Processor W) (w : W) (place : ℕ) (call : PastCall) (tag : Tag) (decl : MapDeclaration) (known : knows.known w ≡ graph_called place call tag (known_of knows m)) (found : slice_get p.scenario.now.maps place ≡ Some decl) where
  abbrev was : Objects
  was = (known_of knows m).objects

  abbrev gs : List NamedGraph
  gs = graphs_after place call tag was.graphs

  graced : (knows.known w).grace ≡ (known_of knows m).grace
  graced = ap (λ (x : Known). x.grace) known

  home-same : home knows w ≡ home knows m.side
  home-same = ap (λ (x : Known). x.grace.processor) known

  names-same : names_of knows w ≡ names_of knows m.side
  names-same = ap (λ (x : Known). graph_names_in x.objects.graphs) known ∙ graph-names place call tag was.graphs

  pub moved-now : HasMoved place call was.graphs (knows.known w).objects.graphs → HasMoved place call was.graphs gs
  moved-now h = subst (λ (x : Known). HasMoved place call was.graphs x.objects.graphs) known h

  -- it is there still
  pub at-graph : (is_tree : Bool) → decl.kind ≡ graph_kind is_tree → HasMoved place call was.graphs (knows.known w).objects.graphs → IsToPut decl.type_id.0 (in_hands was) (put_by (effect_of call)) → IsAt knows StandsAt l p m → IsAt knows StandsAt l p (with_side m w)
  at-graph is_tree kind h held s =
      let d : Declared = declared_in p.scenario.now in
      at-graphed knows l p m w graced (ap (λ (x : Known). x.objects.asked) known)
      (subst (λ (x : Known). AreStocked d x.objects) (sym known) (stocked-called d was place decl is_tree call tag s.ready.stocked found kind (moved-now h) held)) s

  -- what names hold then
  pub hands-graph : HasMoved place call was.graphs (knows.known w).objects.graphs → IsToPut decl.type_id.0 (in_hands was) (put_by (effect_of call)) → IsAt knows StandsAt l p m → TakesOut p.scenario.now.types decl.type_id.0 (without (put_by (effect_of call)) (in_hands was)) (in_hands (knows.known w).objects) (taken_by (effect_of call))
  hands-graph h held s =
      let d : Declared = declared_in p.scenario.now in
      subst (λ (x : Known). TakesOut p.scenario.now.types decl.type_id.0 (without (put_by (effect_of call)) (in_hands was)) (in_hands x.objects) (taken_by (effect_of call))) (sym known)
      (hands-called d was place decl call tag s.ready.stocked found (moved-now h) held)

  pub fine-graph : AsBefore (knows.rights m.side) (knows.rights w) → FineAt knows l m → FineAt knows l (with_side m w)
  fine-graph s f = fine-before knows l m w s (ap (λ (x : Known). x.grace.processors) known) f

  pub between-graph : (k : Processor W) → AsBefore (knows.rights m.side) (knows.rights w) → FineAt knows l m → Between knows 1 0 l p (with_side m w) k → Between knows 1 0 l p m k
  between-graph k s f b =
      between-join knows 0 0 1 0 l p m (with_side m w) k
      (between-sided knows 0 l p m w graced (let a = ap (λ (x : Known). x.objects.asked) known in omega (arith, a)) (fine-graph s f) (came-before knows l m w s)) b

  -- the same, of a processor that counted the call besides
  module _ (k : Processor W) (counted : known_of knows k ≡ asked_once (knows.known w)) where
    pub takes-graph : (put taken : Option ObjId) → put_by (effect_of call) ≡ put → taken_by (effect_of call) ≡ taken → HasMoved place call was.graphs (knows.known w).objects.graphs → IsToPut decl.type_id.0 (in_hands was) put → IsAt knows StandsAt l p m → TakesOut p.scenario.now.types decl.type_id.0 (without put (in_hands was)) (lives_of knows k) taken
    takes-graph put taken e f h held s =
        let F : Option ObjId → Option ObjId → Type 0 = λ x y. TakesOut p.scenario.now.types decl.type_id.0 (without x (in_hands was)) (in_hands (knows.known w).objects) y in
        let first : F (put_by (effect_of call)) (taken_by (effect_of call)) = hands-graph h (subst (IsToPut decl.type_id.0 (in_hands was)) (sym e) held) s in
        subst (λ (xs : Lives). TakesOut p.scenario.now.types decl.type_id.0 (without put (in_hands was)) xs taken) (sym (ap (λ (x : Known). in_hands x.objects) counted))
        (subst (F put) f (subst (λ x. F x (taken_by (effect_of call))) e first))

    pub lives-graph : standing_from 0 gs ≡ standing_from 0 was.graphs → lives_of knows k ≡ in_hands was
    lives-graph same = ap (λ (x : Known). in_hands x.objects) counted ∙ (ap (λ (x : Known). in_hands x.objects) known ∙ hands-kept was gs place same)

    items-now : items_of knows k ≡ items_in (graphed gs was)
    items-now = ap (λ (x : Known). items_in x.objects) counted ∙ ap (λ (x : Known). items_in x.objects) known

    pub guarded-graph : k.locked ≡ m.locked → guarded_of knows k ≡ (let g : Guarded = record { lock = (guarded_of knows m).lock; within = items_in (graphed gs was) } in g)
    guarded-graph e = ap₂ (λ (x : Option ℕ) (f : ℕ → Option Shelved). let g : Guarded = record { lock = x; within = f } in g) (ap (option_map (λ (g : MapId). g.0)) e) items-now

  -- its log and its side are tied, behind the entry of the call
  pub tied-graph : (since : Log) (start : W) (name owner : List ℕ) (position : ℕ) (e : Entry) (k : Processor W) → e ≡ call_entry name position owner call → l ≡ 0 → decl.name ≡ name → tag ≡ tag_after (home knows m.side) m.calls → IsAt knows StandsAt l p m → TiedAt knows since start m → IfSome (log_of m) (MayCall (home knows m.side) name) → OwnerIs (names_of knows m.side) (effect_of call) owner →
      knows.does (act.Calls (graph_at place was.graphs).name position call tag ∷ []) m.side w → Appends (log_of m) l e (log_of k) → home knows k.side ≡ home knows w → names_of knows k.side ≡ names_of knows w →
      (OwesAt knows since start l (act.Calls name position call tag ∷ []) [] (with_side m w) → OwesAt knows since start l (act.Calls name position call tag ∷ []) (e ∷ []) k) → TiedAt knows since start k
  tied-graph since start name owner position e k is_e low named is s tied may owns does said home-is names-are owes =
      let d : Declared = declared_in p.scenario.now in
      let called : (graph_at place was.graphs).name ≡ name = graph-name d was place decl s.ready.stocked found ∙ named in
      let did = owes-did knows since start l [] (act.Calls name position call tag ∷ []) [] m w (subst (λ (n : List ℕ). knows.does (act.Calls n position call tag ∷ []) m.side w) called does, home-same, names-same) (tied-open knows since start l m tied) in
      let here : home knows k.side ≡ home knows m.side = home-is ∙ home-same in
      tied-called knows since start l name position call owner tag m k low (subst (λ (x : Entry). Appends (log_of m) l x (log_of k)) is_e said) (counts-of (log_of m) m.calls (lock_of p m) s.counts)
      (subst (λ q. IfSome (log_of m) (MayCall q name)) (sym here) may)
      (subst (λ (ns : List (List ℕ)). OwnerIs ns (effect_of call) owner) (sym (names-are ∙ names-same)) owns)
      (is ∙ ap (λ q. tag_after q m.calls) (sym here))
      (subst (λ (x : Entry). OwesAt knows since start l (act.Calls name position call tag ∷ []) (x ∷ []) k) is_e (owes did))
