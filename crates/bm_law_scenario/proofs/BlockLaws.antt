-- A block has what its calls and the deferred work behind its statements have.
use Rattle.std.proofs.Common.{ℕ, zero, suc, ◌+◌, Bool, true, false, List, [], ◌∷◌, Option, Some, None, inl, inr, subst}
use Rattle.bm_journal.specs.declared.ids.Domain.TheVariants.{Plain}
use Rattle.bm_journal.specs.declared.entry.Entry.TheVariants as entry
use Rattle.bm_journal.specs.declared.ids.ObjId.{ObjId}
use Rattle.bm_journal.specs.declared.ids.Tag.{Tag}
use Rattle.bm_lang.specs.declared.scenario.Action.{Action, New, Drop, Acquire, Get, Exchange, If', Repeat, Section, Lock, Unlock, Yield, PushFront, PushBack, PopFront, PopBack, Add, First, Remove, Held-Action-If-2, None', Some'}
use Rattle.bm_lang.specs.declared.scenario.Block.{Block, Block', Row_of-Statement, end_of-Statement, more_of-Statement}
use Rattle.bm_lang.specs.declared.scenario.MapDeclaration.{MapDeclaration}
use Rattle.bm_lang.specs.declared.scenario.MapId.{MapId}
use Rattle.bm_lang.specs.declared.scenario.MapKind.{MapKind}
use Rattle.bm_lang.specs.declared.scenario.MapKind.TheVariants as kind
use Rattle.bm_lang.specs.declared.scenario.TypeId.{TypeId}
use Rattle.bm_law.specs.Lists.{Log}
use Rattle.bm_law.specs.State.{State}
use Rattle.bm_law_work.specs.Parts.{Part, Nothing, Say, Stand, Then}
use Rattle.bm_journal.specs.declared.entry.Entry.{Entry}
use Rattle.bm_journal.specs.declared.past.PastCall.{PastCall}
use Rattle.bm_journal.specs.declared.past.PastCall.TheVariants as past
use Rattle.bm_graph.specs.Calls.{first_call}
use Rattle.bm_graph.specs.Entries.{call_entry}
use Rattle.bm_graph.specs.Ways.{pop_call, push_call, refused_push}
use Rattle.bm_graph.specs.declared.ways.End.{End}
use Rattle.bm_graph.specs.declared.ways.End.TheVariants as end_
use Rattle.bm_graph.specs.declared.ways.Way.{Way}
use Rattle.bm_graph.specs.declared.ways.Way.TheVariants as way
use Rattle.bm_law_scenario.specs.Closing.{Empties, EmptiesList, EmptiesMap, EmptiesMaps, EmptiesSlot, EmptiesTree, GivesBack}
use Rattle.bm_law_scenario.specs.Declared.{Declared, under}
use Rattle.bm_law_scenario.specs.Held.{Held, Nothing as Nothing_held, Null, Object, Soft, Names, no_names, with_name}
use Rattle.bm_law_scenario.specs.Calls.{RunsAcquire, RunsExchange, RunsFirst, RunsGet, RunsDrop, RunsGivingUp, RunsLock, RunsNew, RunsPop, RunsPutting, RunsRemove, RunsStill, RunsUnlock, any_batch, batch_in}
use Rattle.bm_law_scenario.specs.Runs.{Run, Calls, Leaving, Done, Followed, Times, Chosen, Enclosed, Within, RunsAction, RunsElse, RunsBlock, RunsRow, lock_after, unlocked}
use Rattle.bm_law_scenario.proofs.Cuts.{stand-cut}
use Rattle.bm_law_scenario.proofs.PartLaws.{Laws, law-as, law-never}
use Rattle.bm_law_scenario.proofs.Freed.{loosened}

-- what the calls of a script, its locks, its plain sections and its yields have
pub record Called (d : Declared) (L : Part → Type 0) : Type 0 where
  pub new : (x : List ℕ) (t : TypeId) (values : List ℕ) (names after : Names) → L (Say 0 (λ own. RunsNew d.types x t values names own after))
  pub dropped : (x : List ℕ) (names after : Names) → L (Say 0 (λ own. RunsDrop d.types x any_batch names own after))
  pub still : (x : List ℕ) (names after : Names) → L (Say 0 (λ own. RunsStill d.types x names own after))
  pub acquired : (y x : List ℕ) (names after : Names) → L (Say 0 (λ own. RunsAcquire d.types y x names own after))
  pub read : (x field : List ℕ) (names after : Names) → L (Say 0 (λ own. RunsGet d.types x field names own after))
  pub exchanged : (y : List ℕ) (slot : MapId) (given : Option (List ℕ)) (names after : Names) → L (Say 0 (λ own. RunsExchange d.maps y slot given names own after))
  pub locks : (graph : List ℕ) → L (Stand 0 (entry.Lock graph ∷ []))
  pub unlocks : (graph : List ℕ) → L (Stand 0 (entry.Unlock graph ∷ []))
  pub calls : (graph : List ℕ) (position : ℕ) (owner : List ℕ) (call : PastCall) → L (Stand 0 (call_entry graph position owner call ∷ []))
  pub enters : (w : ℕ) → L (Stand 0 (entry.In Plain w ∷ []))
  pub leaves : (w : ℕ) → L (Stand 0 (entry.Out Plain w ∷ []))
  pub yields : L (Stand 0 (entry.Yield ∷ []))
  pub silent : L (Stand 0 [])

-- a run whose parts have it
abbrev LawRun : (Part → Type 0) → Run → Type 0
LawRun L R = (names after : Names) → L (R names after)

module _ (d : Declared) (L : Part → Type 0) (k : Laws L) (c : Called d L) (behind : Part) (q : L behind) where
  law-leaving : (Q : Part) → L Q → LawRun L (Leaving Q)
  law-leaving Q h names after = law-as L k Q (Leaving Q names after) h (λ s part r. r.1)

  law-done : LawRun L Done
  law-done = law-leaving Nothing k.nothing

  law-followed : (R Q : Run) → LawRun L R → LawRun L Q → LawRun L (Followed R Q)
  law-followed R Q f g names after = k.cases Names (λ middle. Then (R names middle) (Q middle after)) (Followed R Q names after) (λ middle. k.both (R names middle) (Q middle after) (f names middle) (g middle after)) (λ s part h. h)

  law-times : (R : Run) (n : ℕ) → LawRun L R → LawRun L (Times R n)
  law-times R zero f = law-done
  law-times R (suc n) f = law-followed R (Times R n) f (law-times R n f)

  law-chosen : (v : Held) (R Q : Run) → LawRun L R → LawRun L Q → LawRun L (Chosen v R Q)
  law-chosen Nothing_held R Q f g = λ names after. law-never L k (Chosen Nothing_held R Q names after) (λ s part h. h)
  law-chosen Null R Q f g = g
  law-chosen (Object t u life) R Q f g = f
  law-chosen (Soft t graph u life) R Q f g = f

  law-within : (i : Bool) (R : Run) → LawRun L R → LawRun L (Within i 0 R)
  law-within true R f = f
  law-within false R f = λ names after.
      k.cases ℕ (λ w. Enclosed 0 R w names after) (Within false 0 R names after)
      (λ w. k.both (Stand 0 (entry.In Plain w ∷ [])) (Then (R names after) (Stand 0 (entry.Out Plain (w + 1) ∷ []))) (c.enters w) (k.both (R names after) (Stand 0 (entry.Out Plain (w + 1) ∷ [])) (f names after) (c.leaves (w + 1)))) (λ s part h. h)

  -- a reference that is given up, the last or another one
  abbrev given-up : (x : List ℕ) (names after : Names) → Bool → Part
  given-up x names after true = Say 0 (λ own. RunsStill d.types x names own after)
  given-up x names after false = Say 0 (λ own. RunsDrop d.types x any_batch names own after)

  given-up-law : (x : List ℕ) (names after : Names) (b : Bool) → L (given-up x names after b)
  given-up-law x names after true = c.still x names after
  given-up-law x names after false = c.dropped x names after

  given-up-own : (x : List ℕ) (names after : Names) (known : ℕ → Bool → Type 0) (s : State ℕ) (part : Log) (own : List Entry) → RunsGivingUp d.types x known names own after → Stand 0 own s part → (b : Bool) × given-up x names after b s part
  given-up-own x names after known s part own (inl r) stands = (true, (own, r, stands))
  given-up-own x names after known s part own (inr r) stands = (false, (own, loosened d.types x known names after own r, stands))

  given-up-some : (x : List ℕ) (names after : Names) (s : State ℕ) (part : Log) → Calls 0 (RunsGivingUp d.types x (batch_in s)) names after s part → (b : Bool) × given-up x names after b s part
  given-up-some x names after s part h = given-up-own x names after (batch_in s) s part h.0 h.1 h.2

  -- ---- locks, lists and trees

  law-lock : (lock : Option MapId) (g : MapId) → LawRun L (Calls 0 (RunsLock (under lock d) g))
  law-lock lock g names after =
      k.cases (List ℕ) (λ name. Stand 0 (entry.Lock name ∷ [])) (Calls 0 (RunsLock (under lock d) g) names after) (λ name. c.locks name)
      (λ s part h. (h.1.declared.name, subst (λ own. Stand 0 own s part) h.1.part_is h.2))

  law-unlock : (lock : Option MapId) → LawRun L (Calls 0 (RunsUnlock (under lock d)))
  law-unlock lock names after =
      k.cases (List ℕ) (λ name. Stand 0 (entry.Unlock name ∷ [])) (Calls 0 (RunsUnlock (under lock d)) names after) (λ name. c.unlocks name)
      (λ s part h. (h.1.declared.name, subst (λ own. Stand 0 own s part) h.1.part_is h.2))

  -- a call: the name of its list or tree, its position, and what its history names
  abbrev Call : Type 0
  Call = List ℕ × ℕ × List ℕ × PastCall

  abbrev stands-call : Call → Part
  stands-call z = Stand 0 (call_entry z.0 z.1 z.2 z.3 ∷ [])

  law-pop : (lock : Option MapId) (end : End) (q : MapId) (x : List ℕ) → LawRun L (Calls 0 (RunsPop (under lock d) end q x))
  law-pop lock end q x names after =
      k.cases Call stands-call (Calls 0 (RunsPop (under lock d) end q x) names after) (λ z. c.calls z.0 z.1 z.2 z.3)
      (λ s part h. ((h.1.declared.name, h.1.position, [], pop_call end h.1.item), subst (λ own. Stand 0 own s part) h.1.part_is h.2))

  law-first : (lock : Option MapId) (t : MapId) (x : List ℕ) → LawRun L (Calls 0 (RunsFirst (under lock d) t x))
  law-first lock t x names after =
      k.cases Call stands-call (Calls 0 (RunsFirst (under lock d) t x) names after) (λ z. c.calls z.0 z.1 z.2 z.3)
      (λ s part h. ((h.1.declared.name, h.1.position, [], first_call h.1.item), subst (λ own. Stand 0 own s part) h.1.part_is h.2))

  -- a call, or nothing
  abbrev stands-some : Option Call → Part
  stands-some None = Stand 0 []
  stands-some (Some z) = stands-call z

  law-remove : (lock : Option MapId) (t : MapId) (y x : List ℕ) → LawRun L (Calls 0 (RunsRemove (under lock d) t y x))
  law-remove lock t y x names after =
      k.cases (Option Call) stands-some (Calls 0 (RunsRemove (under lock d) t y x) names after) some-law (λ s part h. by s part h.0 h.1 h.2)
    where
      some-law : (z : Option Call) → L (stands-some z)
      some-law None = c.silent
      some-law (Some z) = c.calls z.0 z.1 z.2 z.3

      by : (s : State ℕ) (part : Log) (own : List Entry) → RunsRemove (under lock d) t y x names own after → Stand 0 own s part → (z : Option Call) × stands-some z s part
      by s part own h stands = elim h.1 [
        | inl r ↦ (Some (r.declared.name, r.position, [], past.Remove r.id), subst (λ own. Stand 0 own s part) r.part_is stands)
        | inr r ↦ (None, subst (λ own. Stand 0 own s part) r.part_is stands)
      ]

  -- a push or an addition, done, or refused, and then the reference is given up
  abbrev put : (x : List ℕ) (names after : Names) → Call → Option Bool → Part
  put x names after z None = stands-call z
  put x names after z (Some b) = Then (stands-call z) (given-up x names after b)

  put-law : (x : List ℕ) (names after : Names) (z : Call) (o : Option Bool) → L (put x names after z o)
  put-law x names after z None = c.calls z.0 z.1 z.2 z.3
  put-law x names after z (Some b) = k.both (stands-call z) (given-up x names after b) (c.calls z.0 z.1 z.2 z.3) (given-up-law x names after b)

  law-put : (lock : Option MapId) (way : Way) (g : MapId) (x : List ℕ) (names after : Names) → L (λ s. Calls 0 (RunsPutting (under lock d) way g x (batch_in s)) names after s)
  law-put lock way g x names after =
      k.cases (Call × Option Bool) (λ z. put x names after z.0 z.1) (λ s. Calls 0 (RunsPutting (under lock d) way g x (batch_in s)) names after s) (λ z. put-law x names after z.0 z.1)
      (λ s part h. by s part h.0 h.1 h.2)
    where
      by : (s : State ℕ) (part : Log) (own : List Entry) → RunsPutting (under lock d) way g x (batch_in s) names own after → Stand 0 own s part → (z : Call × Option Bool) × put x names after z.0 z.1 s part
      by s part own (inl r) stands = (((r.declared.name, r.position, [], push_call way r.id 0), None), subst (λ own. Stand 0 own s part) r.part_is stands)
      by s part own (inr r) stands =
          let z : Call = (r.declared.name, r.position, r.owning.name, refused_push way r.id 0 r.owner) in
          let cut = stand-cut (call_entry z.0 z.1 z.2 z.3) r.own s part (subst (λ own. Stand 0 own s part) r.part_is stands) in
          let up = given-up-own x names after (batch_in s) _ cut.two r.own r.gives_up cut.is_second in
          ((z, Some up.0), record { one = cut.one; two = cut.two; part_is = cut.part_is; is_first = cut.is_first; is_second = up.1 })

  -- where a lock is held nothing stands behind a statement
  law-unlocked : (lock : Option MapId) → L (unlocked lock behind)
  law-unlocked None = q
  law-unlocked (Some graph) = k.nothing

  mutual
    law-action : (lock : Option MapId) (i : Bool) (a : Action) → LawRun L (RunsAction (under lock d) 0 i behind a)
    law-action lock i (New x t values) = λ names after. c.new x t values names after
    law-action lock i (Drop x) = λ names after. k.cases Bool (given-up x names after) (RunsAction (under lock d) 0 i behind (Drop x) names after) (given-up-law x names after) (given-up-some x names after)
    law-action lock i (Acquire y x) = λ names after. c.acquired y x names after
    law-action lock i (If' x body otherwise) = λ names after. law-chosen (names x) (RunsBlock (under lock d) 0 i behind body) (RunsElse (under lock d) 0 i behind otherwise) (law-under lock i body) (law-else lock i otherwise) names after
    law-action lock i (Repeat n body) = law-times (RunsBlock (under lock d) 0 i behind body) n (law-under lock i body)
    law-action lock i (Section body) = law-within i (RunsBlock (under lock d) 0 true behind body) (law-under lock true body)
    law-action lock i Yield = law-leaving (Stand 0 (entry.Yield ∷ [])) c.yields
    law-action lock i (Get x field) = λ names after. c.read x field names after
    law-action lock i (Exchange y slot x) = λ names after. c.exchanged y slot x names after
    law-action lock i (Lock graph) = law-lock lock graph
    law-action lock i Unlock = law-unlock lock
    law-action lock i (PushFront list x) = law-put lock way.Front list x
    law-action lock i (PushBack list x) = law-put lock way.Back list x
    law-action lock i (PopFront x list) = law-pop lock end_.Front list x
    law-action lock i (PopBack x list) = law-pop lock end_.Back list x
    law-action lock i (Add tree x) = law-put lock way.Ordered tree x
    law-action lock i (First x tree) = law-first lock tree x
    law-action lock i (Remove y tree x) = law-remove lock tree y x

    law-else : (lock : Option MapId) (i : Bool) (o : Held-Action-If-2) → LawRun L (RunsElse (under lock d) 0 i behind o)
    law-else lock i None' = law-done
    law-else lock i (Some' body) = law-under lock i body

    law-under : (lock : Option MapId) (i : Bool) (b : Block) → LawRun L (RunsBlock (under lock d) 0 i behind b)
    law-under lock i (Block' shape row end_line) = law-row lock i row

    law-row : (lock : Option MapId) (i : Bool) {m : _} (row : Row_of-Statement m) → LawRun L (RunsRow (under lock d) 0 i behind row)
    law-row lock i end_of-Statement = law-done
    law-row lock i (more_of-Statement line action rest) =
        let left : Option MapId = lock_after lock action in
        law-followed (Followed (RunsAction (under lock d) 0 i behind action) (Leaving (unlocked left behind))) (RunsRow (under left d) 0 i behind rest)
        (law-followed (RunsAction (under lock d) 0 i behind action) (Leaving (unlocked left behind)) (law-action lock i action) (law-leaving (unlocked left behind) (law-unlocked left))) (law-row left i rest)

  -- whatever lock is held around it
  pub law-block : (i : Bool) (b : Block) → LawRun L (RunsBlock d 0 i behind b)
  law-block i b = law-under d.lock i b

  -- ---- what the closing gives up

  law-gives : (t : TypeId) (was : Option ObjId) → L (GivesBack d.types t was)
  law-gives t None = k.nothing
  law-gives t (Some o) =
      k.cases (List ℕ × Names × Bool) (λ z. given-up z.0 (with_name z.0 (Object t o.unit o.life) no_names) z.1 z.2) (GivesBack d.types t (Some o))
      (λ z. given-up-law z.0 (with_name z.0 (Object t o.unit o.life) no_names) z.1 z.2)
      (λ s part h. let y = given-up-some h.0 (with_name h.0 (Object t o.unit o.life) no_names) h.1 s part h.2 in ((h.0, h.1, y.0), y.1))

  module _ (e : (slot : List ℕ) (was : Option ObjId) (by : Option Tag) → L (Stand 0 (entry.Xchg slot None was by ∷ []))) where
    law-slot : (m : MapDeclaration) → L (EmptiesSlot d.types m)
    law-slot m =
        k.cases (Option ObjId × Option Tag) (λ z. Then (Stand 0 (entry.Xchg m.name None z.0 z.1 ∷ [])) (GivesBack d.types m.type_id z.0)) (EmptiesSlot d.types m)
        (λ z. k.both (Stand 0 (entry.Xchg m.name None z.0 z.1 ∷ [])) (GivesBack d.types m.type_id z.0) (e m.name z.0 z.1) (law-gives m.type_id z.0)) (λ s part h. ((h.0, h.1), h.2))

    -- two calls, one behind the other
    law-two : (z y : Call) → L (Stand 0 (call_entry z.0 z.1 z.2 z.3 ∷ call_entry y.0 y.1 y.2 y.3 ∷ []))
    law-two z y =
        law-as L k (Then (stands-call z) (stands-call y)) (Stand 0 (call_entry z.0 z.1 z.2 z.3 ∷ call_entry y.0 y.1 y.2 y.3 ∷ [])) (k.both (stands-call z) (stands-call y) (c.calls z.0 z.1 z.2 z.3) (c.calls y.0 y.1 y.2 y.3))
        (λ s part h. stand-cut (call_entry z.0 z.1 z.2 z.3) (call_entry y.0 y.1 y.2 y.3 ∷ []) s part h)

    law-list : (m : MapDeclaration) (n : ℕ) → L (EmptiesList d.types m n)
    law-list m zero = k.cases ℕ (λ position. Stand 0 (entry.PopFront m.name None position ∷ [])) (EmptiesList d.types m zero) (λ position. c.calls m.name position [] past.PopFrontNone) (λ s part h. h)
    law-list m (suc n) =
        k.cases (ObjId × ℕ) (λ z. Then (Stand 0 (entry.PopFront m.name (Some z.0) z.1 ∷ [])) (Then (GivesBack d.types m.type_id (Some z.0)) (EmptiesList d.types m n))) (EmptiesList d.types m (suc n))
        (λ z. k.both (Stand 0 (entry.PopFront m.name (Some z.0) z.1 ∷ [])) (Then (GivesBack d.types m.type_id (Some z.0)) (EmptiesList d.types m n)) (c.calls m.name z.1 [] (past.PopFront z.0))
        (k.both (GivesBack d.types m.type_id (Some z.0)) (EmptiesList d.types m n) (law-gives m.type_id (Some z.0)) (law-list m n)))
        (λ s part h. ((h.0, h.1), h.2))

    law-tree : (m : MapDeclaration) (n : ℕ) → L (EmptiesTree d.types m n)
    law-tree m zero = k.cases ℕ (λ position. Stand 0 (entry.First m.name None position ∷ [])) (EmptiesTree d.types m zero) (λ position. c.calls m.name position [] past.FirstNone) (λ s part h. h)
    law-tree m (suc n) =
        k.cases (ObjId × ℕ × ℕ) (λ z. Then (Stand 0 (entry.First m.name (Some z.0) z.1 ∷ entry.Remove m.name z.0.unit z.0.life z.2 ∷ [])) (Then (GivesBack d.types m.type_id (Some z.0)) (EmptiesTree d.types m n))) (EmptiesTree d.types m (suc n))
        (λ z. k.both (Stand 0 (entry.First m.name (Some z.0) z.1 ∷ entry.Remove m.name z.0.unit z.0.life z.2 ∷ [])) (Then (GivesBack d.types m.type_id (Some z.0)) (EmptiesTree d.types m n))
        (law-two (m.name, z.1, [], past.First z.0) (m.name, z.2, [], past.Remove z.0)) (k.both (GivesBack d.types m.type_id (Some z.0)) (EmptiesTree d.types m n) (law-gives m.type_id (Some z.0)) (law-tree m n)))
        (λ s part h. ((h.0, h.1, h.2), h.3))

    law-map : (kind : MapKind) (m : MapDeclaration) → L (EmptiesMap d.types kind m)
    law-map kind.Slot m = law-slot m
    law-map kind.List m = k.cases ℕ (EmptiesList d.types m) (EmptiesMap d.types kind.List m) (law-list m) (λ s part h. h)
    law-map kind.Tree m = k.cases ℕ (EmptiesTree d.types m) (EmptiesMap d.types kind.Tree m) (law-tree m) (λ s part h. h)

    law-maps : (ms : List MapDeclaration) → L (EmptiesMaps d.types ms)
    law-maps [] = k.nothing
    law-maps (m ∷ ms) = k.both (EmptiesMap d.types m.kind m) (EmptiesMaps d.types ms) (law-map m.kind m) (law-maps ms)

    pub law-empties : (p : ℕ) → L (Empties p d)
    law-empties zero = law-maps d.maps
    law-empties (suc p) = k.nothing
