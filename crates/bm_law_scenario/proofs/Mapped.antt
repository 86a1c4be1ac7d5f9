-- What is a run where no map is declared is one where some are.
use Rattle.std.proofs.Common.{◌≡◌, ℕ, zero, suc, Bool, true, false, List, [], Option, Some, None, inl, inr}
use Rattle.bm_journal.specs.declared.entry.Entry.{Entry}
use Rattle.bm_lang.specs.declared.scenario.Action.{Action, New, Drop, Acquire, Get, Exchange, If', Repeat, Section, Lock, Unlock, Yield, PushFront, PushBack, PopFront, PopBack, Add, First, Remove, Held-Action-If-2, None', Some'}
use Rattle.bm_lang.specs.declared.scenario.Block.{Block, Block', Row_of-Statement, end_of-Statement, more_of-Statement}
use Rattle.bm_law.specs.Lists.{Log}
use Rattle.bm_law.specs.State.{State}
use Rattle.bm_law_work.specs.Parts.{Part, Stand, Then}
use Rattle.bm_graph.specs.declared.ways.Way.{Way}
use Rattle.bm_lang.specs.declared.scenario.MapDeclaration.{MapDeclaration}
use Rattle.bm_lang.specs.declared.scenario.MapId.{MapId}
use Rattle.bm_law_scenario.specs.Calls.{RunsExchange, RunsPutting, RunsRemove}
use Rattle.bm_law_scenario.specs.Declared.{Declared, IsGraph, under, unmapped}
use Rattle.bm_law_scenario.specs.Held.{Held, Names, Nothing, Null, Object, Soft}
use Rattle.bm_law_scenario.specs.Runs.{Chosen, Enclosed, Followed, Leaving, Run, RunsAction, RunsBlock, RunsElse, RunsRow, Times, Within, lock_after, unlocked}

-- each part of the one run is one of the other
abbrev IsWithin : Run → Run → Type 0
IsWithin R Q = (names after : Names) (s : State ℕ) (part : Log) → R names after s part → Q names after s part

then-more : (A B C D : Part) (s : State ℕ) (part : Log) → ((t : State ℕ) (p : Log) → A t p → C t p) → ((t : State ℕ) (p : Log) → B t p → D t p) → Then A B s part → Then C D s part
then-more A B C D s part f g h = record { one = h.one; two = h.two; part_is = h.part_is; is_first = f s h.one h.is_first; is_second = g _ h.two h.is_second }

followed-more : (R Q S T : Run) → IsWithin R S → IsWithin Q T → IsWithin (Followed R Q) (Followed S T)
followed-more R Q S T f g names after s part h = (h.0, then-more (R names h.0) (Q h.0 after) (S names h.0) (T h.0 after) s part (f names h.0) (g h.0 after) h.1)

times-more : (R S : Run) (n : ℕ) → IsWithin R S → IsWithin (Times R n) (Times S n)
times-more R S zero f = λ names after s part h. h
times-more R S (suc n) f = followed-more R (Times R n) S (Times S n) f (times-more R S n f)

chosen-more : (v : Held) (R Q S T : Run) → IsWithin R S → IsWithin Q T → IsWithin (Chosen v R Q) (Chosen v S T)
chosen-more Nothing R Q S T f g names after s part h = h
chosen-more Null R Q S T f g names after s part h = g names after s part h
chosen-more (Object t u life) R Q S T f g names after s part h = f names after s part h
chosen-more (Soft t graph u life) R Q S T f g names after s part h = f names after s part h

enclosed-more : (l w : ℕ) (R S : Run) → IsWithin R S → IsWithin (Enclosed l R w) (Enclosed l S w)
enclosed-more l w R S f names after s part h =
    then-more (Stand l _) (Then (R names after) (Stand l _)) (Stand l _) (Then (S names after) (Stand l _)) s part (λ t p y. y)
    (λ t p y. then-more (R names after) (Stand l _) (S names after) (Stand l _) t p (f names after) (λ u q z. z) y) h

within-more : (i : Bool) (l : ℕ) (R S : Run) → IsWithin R S → IsWithin (Within i l R) (Within i l S)
within-more true l R S f = f
within-more false l R S f = λ names after s part h. (h.0, enclosed-more l h.0 R S f names after s part h.1)

-- no slot is declared
no-slot : (y : List ℕ) (slot : _) (given : _) (names : Names) (own : List Entry) (after : Names) → RunsExchange [] y slot given names own after → ⊥
no-slot y slot given names own after h = (let q : None ≡ Some h.declared = h.is_slot.found in cc)

-- no list or tree is declared
no-graph : (is_tree : Bool) (m : ℕ) (graph : MapDeclaration) → IsGraph [] is_tree m graph → ⊥
no-graph is_tree m graph h = (let q : None ≡ Some graph = h.found in cc)

module _ (d : Declared) (l : ℕ) (behind : Part) where
  -- the types alone, under this lock
  abbrev bare : Option MapId → Declared
  bare lock = under lock (unmapped d.types)

  no-put : (lock : Option MapId) (way : Way) (g : MapId) (x : List ℕ) (known : ℕ → Bool → Type 0) (names : Names) (own : List Entry) (after : Names) → RunsPutting (bare lock) way g x known names own after → ⊥
  no-put lock way g x known names own after (inl h) = no-graph _ g.0 h.declared h.is_graph
  no-put lock way g x known names own after (inr h) = no-graph _ g.0 h.declared h.is_graph

  removes-more : (lock : Option MapId) (t : MapId) (y x : List ℕ) (names : Names) (own : List Entry) (after : Names) → RunsRemove (bare lock) t y x names own after → RunsRemove (under lock d) t y x names own after
  removes-more lock t y x names own after h = (h.0, elim h.1 [ inl r ↦ absurd (no-graph true t.0 r.declared r.is_graph) | inr r ↦ inr r ])

  mutual
    action-more : (lock : Option MapId) (i : Bool) (a : Action) → IsWithin (RunsAction (bare lock) l i behind a) (RunsAction (under lock d) l i behind a)
    action-more lock i (New x t values) = λ names after s part h. h
    action-more lock i (Drop x) = λ names after s part h. h
    action-more lock i (Acquire y x) = λ names after s part h. h
    action-more lock i (If' x body otherwise) = λ names after s part h. chosen-more (names x) (RunsBlock (bare lock) l i behind body) (RunsElse (bare lock) l i behind otherwise) (RunsBlock (under lock d) l i behind body) (RunsElse (under lock d) l i behind otherwise) (under-more lock i body) (else-more lock i otherwise) names after s part h
    action-more lock i (Repeat n body) = times-more (RunsBlock (bare lock) l i behind body) (RunsBlock (under lock d) l i behind body) n (under-more lock i body)
    action-more lock i (Section body) = within-more i l (RunsBlock (bare lock) l true behind body) (RunsBlock (under lock d) l true behind body) (under-more lock true body)
    action-more lock i (Get x field) = λ names after s part h. h
    action-more lock i (Exchange y slot x) = λ names after s part h. absurd (no-slot y slot x names h.0 after h.1)
    action-more lock i (Lock graph) = λ names after s part h. absurd (no-graph h.1.is_tree graph.0 h.1.declared h.1.is_graph)
    action-more lock i Unlock = λ names after s part h. absurd (no-graph h.1.is_tree h.1.graph.0 h.1.declared h.1.is_graph)
    action-more lock i Yield = λ names after s part h. h
    action-more lock i (PushFront list x) = λ names after s part h. absurd (no-put lock _ list x _ names h.0 after h.1)
    action-more lock i (PushBack list x) = λ names after s part h. absurd (no-put lock _ list x _ names h.0 after h.1)
    action-more lock i (PopFront x list) = λ names after s part h. absurd (no-graph false list.0 h.1.declared h.1.is_graph)
    action-more lock i (PopBack x list) = λ names after s part h. absurd (no-graph false list.0 h.1.declared h.1.is_graph)
    action-more lock i (Add tree x) = λ names after s part h. absurd (no-put lock _ tree x _ names h.0 after h.1)
    action-more lock i (First x tree) = λ names after s part h. absurd (no-graph true tree.0 h.1.declared h.1.is_graph)
    action-more lock i (Remove y tree x) = λ names after s part h. (h.0, removes-more lock tree y x names h.0 after h.1, h.2)

    else-more : (lock : Option MapId) (i : Bool) (o : Held-Action-If-2) → IsWithin (RunsElse (bare lock) l i behind o) (RunsElse (under lock d) l i behind o)
    else-more lock i None' = λ names after s part h. h
    else-more lock i (Some' body) = under-more lock i body

    under-more : (lock : Option MapId) (i : Bool) (b : Block) → IsWithin (RunsBlock (bare lock) l i behind b) (RunsBlock (under lock d) l i behind b)
    under-more lock i (Block' shape row end_line) = row-more lock i row

    row-more : (lock : Option MapId) (i : Bool) {m : _} (row : Row_of-Statement m) → IsWithin (RunsRow (bare lock) l i behind row) (RunsRow (under lock d) l i behind row)
    row-more lock i end_of-Statement = λ names after s part h. h
    row-more lock i (more_of-Statement line action rest) =
        let left : Option MapId = lock_after lock action in
        let stands : Run = Leaving (unlocked left behind) in
        followed-more (Followed (RunsAction (bare lock) l i behind action) stands) (RunsRow (bare left) l i behind rest) (Followed (RunsAction (under lock d) l i behind action) stands) (RunsRow (under left d) l i behind rest)
        (followed-more (RunsAction (bare lock) l i behind action) stands (RunsAction (under lock d) l i behind action) stands (action-more lock i action) (λ names after s part h. h)) (row-more left i rest)

  -- under the same lock
  pub block-more : (i : Bool) (b : Block) → IsWithin (RunsBlock (bare d.lock) l i behind b) (RunsBlock d l i behind b)
  block-more i b = under-more d.lock i b
