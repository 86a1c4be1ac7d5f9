-- What holds of all that a block leaves in a log.
use Rattle.std.proofs.Common.{ℕ, suc, zero, ◌+◌, Bool, true, false, List, [], ◌∷◌, Option, ◌++◌, inl, inr, sym, subst}
use Rattle.bm_journal.specs.declared.ids.Domain.TheVariants.{Plain}
use Rattle.bm_journal.specs.declared.entry.Entry.{Entry}
use Rattle.bm_journal.specs.declared.entry.Entry.TheVariants as entry
use Rattle.bm_lang.specs.declared.scenario.Action.{Action, New, Drop, Acquire, Get, Exchange, If', Repeat, Section, Lock, Unlock, Yield, PushFront, PushBack, PopFront, PopBack, Add, First, Remove, Held-Action-If-2, None', Some'}
use Rattle.bm_lang.specs.declared.scenario.Block.{Block, Block', Row_of-Statement, end_of-Statement, more_of-Statement}
use Rattle.bm_lang.specs.declared.scenario.MapId.{MapId}
use Rattle.bm_lang.specs.declared.scenario.TypeId.{TypeId}
use Rattle.bm_journal.specs.declared.past.PastCall.{PastCall}
use Rattle.bm_journal.specs.declared.past.PastCall.TheVariants as past
use Rattle.bm_graph.specs.Calls.{first_call}
use Rattle.bm_graph.specs.Entries.{call_entry}
use Rattle.bm_graph.specs.Ways.{pop_call, push_call, refused_push}
use Rattle.bm_graph.specs.declared.ways.End.TheVariants as end_
use Rattle.bm_graph.specs.declared.ways.Way.{Way}
use Rattle.bm_graph.specs.declared.ways.Way.TheVariants as way
use Rattle.bm_law_scenario.specs.Declared.{Declared, under}
use Rattle.bm_law_scenario.specs.Held.{Held, Nothing, Null, Object, Soft, Names}
use Rattle.bm_law_scenario.specs.Calls.{RunsAcquire, RunsExchange, RunsGet, RunsDrop, RunsGivingUp, RunsNew, RunsPutting, RunsRemove, RunsStill, any_batch}
use Rattle.bm_law_scenario.specs.Runs.{lock_after}
use Rattle.bm_law_scenario.proofs.OwnRuns.{Times, Chosen, Within, RunsAction, RunsElse, RunsBlock, RunsRow}

-- A property of stretches that joins, and that each `new`, each `acquire` and each `drop` has, by its reply, each call on a list or tree, each
-- `lock` and `unlock`, each begin and end of a plain section and each `yield`.
pub record Closed (d : Declared) (P : List Entry → Type 0) : Type 0 where
  pub none : P []
  pub join : (v w : List Entry) → P v → P w → P (v ++ w)
  pub new : (x : List ℕ) (t : TypeId) (values : List ℕ) (names : Names) (part : List Entry) (after : Names) → RunsNew d.types x t values names part after → P part
  pub dropped : (x : List ℕ) (names : Names) (part : List Entry) (after : Names) → RunsDrop d.types x any_batch names part after → P part
  pub still : (x : List ℕ) (names : Names) (part : List Entry) (after : Names) → RunsStill d.types x names part after → P part
  pub acquired : (y x : List ℕ) (names : Names) (part : List Entry) (after : Names) → RunsAcquire d.types y x names part after → P part
  pub read : (x field : List ℕ) (names : Names) (part : List Entry) (after : Names) → RunsGet d.types x field names part after → P part
  pub exchanged : (y : List ℕ) (slot : MapId) (given : Option (List ℕ)) (names : Names) (part : List Entry) (after : Names) → RunsExchange d.maps y slot given names part after → P part
  pub locks : (graph : List ℕ) → P (entry.Lock graph ∷ [])
  pub unlocks : (graph : List ℕ) → P (entry.Unlock graph ∷ [])
  pub calls : (graph : List ℕ) (position : ℕ) (owner : List ℕ) (call : PastCall) → P (call_entry graph position owner call ∷ [])
  pub enters : (w : ℕ) → P (entry.In Plain w ∷ [])
  pub leaves : (w : ℕ) → P (entry.Out Plain w ∷ [])
  pub yields : P (entry.Yield ∷ [])

-- a reference that is given up, the last or another one
gives-up-all : (d : Declared) (P : List Entry → Type 0) (k : Closed d P) (x : List ℕ) (names : Names) (part : List Entry) (after : Names) → RunsGivingUp d.types x any_batch names part after → P part
gives-up-all d P k x names part after (inl r) = k.still x names part after r
gives-up-all d P k x names part after (inr r) = k.dropped x names part after r

chosen-all : (P : List Entry → Type 0) (v : Held) (first second : Names → List Entry → Names → Type 0) (names : Names) (part : List Entry) (after : Names) → (first names part after → P part) → (second names part after → P part) → Chosen v first second names part after → P part
chosen-all P Nothing first second names part after f g r = absurd r
chosen-all P Null first second names part after f g r = g r
chosen-all P (Object t u n) first second names part after f g r = f r
chosen-all P (Soft t g u n) first second names part after f h r = f r

times-all : (d : Declared) (P : List Entry → Type 0) (k : Closed d P) (run : Names → List Entry → Names → Type 0) (n : ℕ) (names : Names) (part : List Entry) (after : Names) → ((a : Names) (p : List Entry) (b : Names) → run a p b → P p) → Times run n names part after → P part
times-all d P k run zero names part after f r = subst P (sym r.0) k.none
times-all d P k run (suc n) names part after f r = subst P (sym r.part_is) (k.join r.one r.two (f names r.one r.middle r.first_runs) (times-all d P k run n r.middle r.two after f r.second_runs))

within-all : (d : Declared) (P : List Entry → Type 0) (k : Closed d P) (i : Bool) (run : Names → List Entry → Names → Type 0) (names : Names) (part : List Entry) (after : Names) → ((a : Names) (p : List Entry) (b : Names) → run a p b → P p) → Within i run names part after → P part
within-all d P k true run names part after f r = f names part after r
within-all d P k false run names part after f r =
    let t = r.1.second_runs in
    let first = subst P (sym r.1.first_runs.0) (k.enters r.0) in
    let last = subst P (sym t.second_runs.0) (k.leaves (r.0 + 1)) in
    subst P (sym r.1.part_is) (k.join r.1.one r.1.two first (subst P (sym t.part_is) (k.join t.one t.two (f r.1.middle t.one t.middle t.first_runs) last)))

-- a push or an addition, done or refused
put-all : (d : Declared) (P : List Entry → Type 0) (k : Closed d P) (lock : Option MapId) (way : Way) (g : MapId) (x : List ℕ) (names : Names) (part : List Entry) (after : Names) → RunsPutting (under lock d) way g x any_batch names part after → P part
put-all d P k lock way g x names part after (inl r) = subst P (sym r.part_is) (k.calls r.declared.name r.position [] (push_call way r.id 0))
put-all d P k lock way g x names part after (inr r) =
    let call : PastCall = refused_push way r.id 0 r.owner in
    subst P (sym r.part_is) (k.join (call_entry r.declared.name r.position r.owning.name call ∷ []) r.own (k.calls r.declared.name r.position r.owning.name call) (gives-up-all d P k x names r.own after r.gives_up))

-- an object is taken out of a tree, or null is given back
remove-all : (d : Declared) (P : List Entry → Type 0) (k : Closed d P) (lock : Option MapId) (t : MapId) (y x : List ℕ) (names : Names) (part : List Entry) (after : Names) → RunsRemove (under lock d) t y x names part after → P part
remove-all d P k lock t y x names part after r = elim r.1 [
  | inl h ↦ subst P (sym h.part_is) (k.calls h.declared.name h.position [] (past.Remove h.id))
  | inr h ↦ subst P (sym h.part_is) k.none
]

mutual
  action-all : (d : Declared) (P : List Entry → Type 0) (k : Closed d P) (lock : Option MapId) (i : Bool) (a : Action) (names : Names) (part : List Entry) (after : Names) → RunsAction (under lock d) i a names part after → P part
  action-all d P k lock i (New x t values) names part after r = k.new x t values names part after r
  action-all d P k lock i (Drop x) names part after r = gives-up-all d P k x names part after r
  action-all d P k lock i (Acquire y x) names part after r = k.acquired y x names part after r
  action-all d P k lock i (If' x body otherwise) names part after r = chosen-all P (names x) (RunsBlock (under lock d) i body) (RunsElse (under lock d) i otherwise) names part after (λ y. under-all d P k lock i body names part after y) (λ y. else-all d P k lock i otherwise names part after y) r
  action-all d P k lock i (Repeat n body) names part after r = times-all d P k (RunsBlock (under lock d) i body) n names part after (λ a p b y. under-all d P k lock i body a p b y) r
  action-all d P k lock i (Section body) names part after r = within-all d P k i (RunsBlock (under lock d) true body) names part after (λ a p b y. under-all d P k lock true body a p b y) r
  action-all d P k lock i (Get x field) names part after r = k.read x field names part after r
  action-all d P k lock i (Exchange y slot x) names part after r = k.exchanged y slot x names part after r
  action-all d P k lock i (Lock graph) names part after r = subst P (sym r.part_is) (k.locks r.declared.name)
  action-all d P k lock i Unlock names part after r = subst P (sym r.part_is) (k.unlocks r.declared.name)
  action-all d P k lock i Yield names part after r = subst P (sym r.0) k.yields
  action-all d P k lock i (PushFront list x) names part after r = put-all d P k lock way.Front list x names part after r
  action-all d P k lock i (PushBack list x) names part after r = put-all d P k lock way.Back list x names part after r
  action-all d P k lock i (PopFront x list) names part after r = subst P (sym r.part_is) (k.calls r.declared.name r.position [] (pop_call end_.Front r.item))
  action-all d P k lock i (PopBack x list) names part after r = subst P (sym r.part_is) (k.calls r.declared.name r.position [] (pop_call end_.Back r.item))
  action-all d P k lock i (Add tree x) names part after r = put-all d P k lock way.Ordered tree x names part after r
  action-all d P k lock i (First x tree) names part after r = subst P (sym r.part_is) (k.calls r.declared.name r.position [] (first_call r.item))
  action-all d P k lock i (Remove y tree x) names part after r = remove-all d P k lock tree y x names part after r

  else-all : (d : Declared) (P : List Entry → Type 0) (k : Closed d P) (lock : Option MapId) (i : Bool) (o : Held-Action-If-2) (names : Names) (part : List Entry) (after : Names) → RunsElse (under lock d) i o names part after → P part
  else-all d P k lock i None' names part after r = subst P (sym r.0) k.none
  else-all d P k lock i (Some' body) names part after r = under-all d P k lock i body names part after r

  under-all : (d : Declared) (P : List Entry → Type 0) (k : Closed d P) (lock : Option MapId) (i : Bool) (b : Block) (names : Names) (part : List Entry) (after : Names) → RunsBlock (under lock d) i b names part after → P part
  under-all d P k lock i (Block' shape row end_line) names part after r = row-all d P k lock i row names part after r

  row-all : (d : Declared) (P : List Entry → Type 0) (k : Closed d P) (lock : Option MapId) (i : Bool) {m : _} (row : Row_of-Statement m) (names : Names) (part : List Entry) (after : Names) → RunsRow (under lock d) i row names part after → P part
  row-all d P k lock i end_of-Statement names part after r = subst P (sym r.0) k.none
  row-all d P k lock i (more_of-Statement line action rest) names part after r =
      subst P (sym r.part_is) (k.join r.one r.two (action-all d P k lock i action names r.one r.middle r.first_runs) (row-all d P k (lock_after lock action) i rest r.middle r.two after r.second_runs))

-- whatever lock is held around it
pub block-all : (d : Declared) (P : List Entry → Type 0) (k : Closed d P) (i : Bool) (b : Block) (names : Names) (part : List Entry) (after : Names) → RunsBlock d i b names part after → P part
block-all d P k i b names part after r = under-all d P k d.lock i b names part after r
