-- What holds of handlers, and of all entries of a log above ordinary code.
use Rattle.std.proofs.Common.{◌≡◌, ◌<◌, ℕ, ◌+◌, true, false, cond, eqb, if◌then◌else◌, List, [], ◌∷◌, ◌++◌, refl, sym, subst, eq-eqb}
use Rattle.bm_journal.specs.declared.ids.Domain.TheVariants.{Plain}
use Rattle.bm_journal.specs.declared.entry.Entry.{Entry}
use Rattle.bm_journal.specs.declared.entry.Entry.TheVariants as entry
use Rattle.bm_lang.specs.declared.scenario.Parts.{Parts}
use Rattle.bm_graph.specs.Entries.{call_entry}
use Rattle.bm_law.specs.Lists.{Log}
use Rattle.bm_law.specs.Spans.{own_entries}
use Rattle.bm_due.specs.Standing.{HandlersStand}
use Rattle.bm_law_work.proofs.Each.{AllOf, of-append, of-map}
use Rattle.bm_law_scenario.specs.CallEntries.{IsOfStatement, IsOfHandler}
use Rattle.bm_law_scenario.specs.Declared.{declared_in}
use Rattle.bm_law_scenario.specs.Handlers.{AreHandlers, HandlerPhrase, HandlersDone, enclosed, more, none}
use Rattle.bm_law_scenario.specs.Held.{no_names}
use Rattle.bm_law_lives.specs.SectionWords.{is_outside}
use Rattle.bm_law_scenario.proofs.Levels.{levels}
use Rattle.bm_law_scenario.proofs.OfCall.{of-calls}
use Rattle.bm_law_scenario.proofs.RunsAll.{Closed, block-all}
use Rattle.bm_law_scenario.proofs.SameRuns.{alone-owned}

-- ---- whole handlers

-- What the parts of handlers of a scenario have.
pub record Framed (s : Parts) (P : List Entry → Type 0) : Type 0 where
  pub closed : Closed (declared_in s) P
  pub begins : (name : List ℕ) → P (entry.Handler name ∷ [])
  pub ends : (name : List ℕ) → P (entry.Back name ∷ [])

enclosed-has : (s : Parts) (P : List Entry → Type 0) (k : Framed s P) (w : ℕ) (part : List Entry) → P part → P (enclosed w part)
enclosed-has s P k w part h = elim (is_outside w) as (λ b. P (if b then entry.In Plain (w + 1) ∷ part ++ entry.Out Plain (w + 2) ∷ [] else part)) [
  | true ↦ k.closed.join (entry.In Plain (w + 1) ∷ []) (part ++ entry.Out Plain (w + 2) ∷ []) (k.closed.enters (w + 1)) (k.closed.join part (entry.Out Plain (w + 2) ∷ []) h (k.closed.leaves (w + 2)))
  | false ↦ h
]

phrase-has : (s : Parts) (P : List Entry → Type 0) (k : Framed s P) (name : List ℕ) (w : ℕ) (own : List Entry) → HandlerPhrase s name w own → P own
phrase-has s P k name w own h = subst P (sym h.own_is) (enclosed-has s P k w h.part (block-all (declared_in s) P k.closed true h.script.body no_names h.part h.after (alone-owned (declared_in s) h.script.body no_names h.after h.part h.runs)))

-- they have it together
pub handlers-have : (s : Parts) (P : List Entry → Type 0) → Framed s P → (es : List Entry) → AreHandlers s es → P es
handlers-have s P k _ none = k.closed.none
handlers-have s P k _ (more {own = own} {rest = rest} name w p h) =
    k.closed.join (entry.Handler name ∷ own) (entry.Back name ∷ rest) (k.closed.join (entry.Handler name ∷ []) own (k.begins name) (phrase-has s P k name w own p)) (k.closed.join (entry.Back name ∷ []) rest (k.ends name) (handlers-have s P k rest h))

-- ---- their entries

call-handler : (e : Entry) → IsOfStatement e → IsOfHandler e
call-handler (entry.Handler name) h = tt
call-handler (entry.Back name) h = tt
call-handler (entry.In d w) h = tt
call-handler (entry.Out d w) h = tt
call-handler _ h = h

of-handlers : (s : Parts) → Framed s (λ es. AllOf IsOfHandler es)
of-handlers s =
    let k = of-calls (declared_in s) in
    record {
      closed = record {
        none = tt;
        join = of-append IsOfHandler;
        new = λ x t values names part after r. of-map IsOfStatement IsOfHandler call-handler part (k.new x t values names part after r);
        dropped = λ x names part after r. of-map IsOfStatement IsOfHandler call-handler part (k.dropped x names part after r);
        still = λ x names part after r. of-map IsOfStatement IsOfHandler call-handler part (k.still x names part after r);
        acquired = λ y x names part after r. of-map IsOfStatement IsOfHandler call-handler part (k.acquired y x names part after r);
        read = λ x field names part after r. of-map IsOfStatement IsOfHandler call-handler part (k.read x field names part after r);
        exchanged = λ y slot given names part after r. of-map IsOfStatement IsOfHandler call-handler part (k.exchanged y slot given names part after r);
        locks = λ graph. (tt, tt);
        unlocks = λ graph. (tt, tt);
        calls = λ graph position owner call. of-map IsOfStatement IsOfHandler call-handler (call_entry graph position owner call ∷ []) (k.calls graph position owner call);
        enters = λ w. (tt, tt);
        leaves = λ w. (tt, tt);
        yields = (tt, tt);
      };
      begins = λ name. (tt, tt);
      ends = λ name. (tt, tt);
    }

pub handler-entries : (s : Parts) (p : ℕ) (log : Log) → HandlersStand s p log → HandlersDone s p log → (l : ℕ) → 0 < l → AllOf IsOfHandler (own_entries l log)
handler-entries s p log stand done l up = handlers-have s (λ es. AllOf IsOfHandler es) (of-handlers s) (own_entries l log) (levels s p log stand done l up)

-- ---- entries of all levels above

-- each entry above ordinary code has it
abbrev pub AllAbove : (Entry → Type 0) → Log → Type 0
AllAbove I [] = Unit {0}
AllAbove I (e ∷ es) = (0 < e.0 → I e.1) × AllAbove I es

pub each-above : (I : Entry → Type 0) (log : Log) → ((l : ℕ) → 0 < l → AllOf I (own_entries l log)) → AllAbove I log
each-above I [] h = tt
each-above I (e ∷ es) h = (λ up. (subst (λ v. AllOf I v) (head e es) (h e.0 up)).0, each-above I es (λ l up. rest l (h l up)))
  where
    head : (x : ℕ × Entry) (v : Log) → own_entries x.0 (x ∷ v) ≡ x.1 ∷ own_entries x.0 v
    head x v = rw (eq-eqb x.0 x.0 refl) refl

    rest : (l : ℕ) → AllOf I (own_entries l (e ∷ es)) → AllOf I (own_entries l es)
    rest l = elim (eqb e.0 l) as (λ b. AllOf I (cond b (e.1 ∷ own_entries l es) (own_entries l es)) → AllOf I (own_entries l es)) [ true ↦ λ k. k.1 | false ↦ λ k. k ]

pub above-map : (I J : Entry → Type 0) → ((e : Entry) → I e → J e) → (log : Log) → AllAbove I log → AllAbove J log
above-map I J f [] h = tt
above-map I J f (e ∷ es) h = (λ up. f e.1 (h.0 up), above-map I J f es h.1)

pub above-front : (I : Entry → Type 0) (one two : Log) → AllAbove I (one ++ two) → AllAbove I one
above-front I [] two h = tt
above-front I (e ∷ es) two h = (h.0, above-front I es two h.1)

pub above-back : (I : Entry → Type 0) (one two : Log) → AllAbove I (one ++ two) → AllAbove I two
above-back I [] two h = h
above-back I (e ∷ es) two h = above-back I es two h.1

-- of a log where handlers stand and left their phrases
pub handlers-above : (s : Parts) (p : ℕ) (log : Log) → HandlersStand s p log → HandlersDone s p log → AllAbove IsOfHandler log
handlers-above s p log stand done = each-above IsOfHandler log (handler-entries s p log stand done)
