-- The log and the side of a processor that has ended, tied since a time.
use Rattle.std.specs.Prelude.{◌≡◌, ◌≤◌, ℕ, List, [], ◌∷◌, ◌++◌, Option, Some, None, IfSome, IsSome, true}
use Rattle.bm_world.specs.ToldLiving.{knows_living}
use Rattle.std.proofs.Common.{◌∙◌, ap, append_assoc, append-nil, refl, subst, sym}
use Rattle.std.proofs.lemmas.List.{append_cancel_right}
use Rattle.bm_journal.specs.declared.ids.Domain.{Domain}
use Rattle.bm_journal.specs.declared.period.Period.{Period}
use Rattle.bm_journal.specs.declared.entry.Entry.{Entry}
use Rattle.bm_journal.specs.declared.entry.Entry.TheVariants as entry
use Rattle.bm_journal.specs.declared.units.Units.TheVariants.{Whole}
use Rattle.bm_journal.specs.Recording.{Appends}
use Rattle.bm_law.specs.Alone.{Adds}
use Rattle.bm_law.specs.Alone as alone
use Rattle.bm_law.specs.Lists.{Log, stamp_of}
use Rattle.bm_law.specs.State.{State, opening}
use Rattle.bm_law.proofs.Folds.{after-append}
use Rattle.bm_law_order.specs.Act.{Act, Sealed, units_of}
use Rattle.bm_law_order.specs.Act as act
use Rattle.bm_law_order.specs.Chunk.{Shows}
use Rattle.bm_law_order.specs.Chunk as chunk
use Rattle.bm_law_order.specs.Graphs.{GraphsLead, Shelf, graph_names_in, shelf_of}
use Rattle.bm_law_order.specs.Slots.{Contents, SlotsLead, named_in}
use Rattle.bm_law_order.specs.Made.{Fields, MadeLead}
use Rattle.bm_law_order.specs.Quiet.{is_quiet}
use Rattle.bm_law_order.specs.Story.{at_level, deeds, lines}
use Rattle.bm_law_order.specs.Tie.{Tied, TiedBy, whatever}
use Rattle.bm_law_order.proofs.ActsJoin.{acts-append, acts-before}
use Rattle.bm_law_order.proofs.WaitsJoin.{go-unread}
use Rattle.bm_law_order.proofs.Ties.{law-closed, law-done, law-quiet, law-said, law-stepped, tie-first, tie-unjudged}
use Rattle.bm_grace.specs.PlainState.{domain_in}
use Rattle.bm_closing.specs.Told.{at_once, passed_at_once}
use Rattle.bm_cache.specs.declared.caches.Caches.{Caches}
use Rattle.bm_journal.specs.Recording.{Kept as Recorded}
use Rattle.bm_exec_levels.specs.AtPolls.{DoesHere, IsDue, here-join, here-same, home, WaitsIn, WasIdle, polled, unpolled}
use Rattle.bm_exec_levels.specs.AtPolls as idle
use Rattle.bm_exec_levels.specs.AtTie.{as-judged}
use Rattle.bm_world.specs.LivingState.{LivingState}
use Rattle.bm_world.specs.Spared.{spare-append}
use Rattle.bm_world.specs.Standings.{waits_told}
use Rattle.bm_world.specs.ToldLiving.{LivingDoes, fields_told, told_living}

-- tied since then, with these acts and entries that aren't told of yet
abbrev pub Ends : Log → LivingState → List Act → List Entry → Option Log → LivingState → Type 0
Ends since start done es told side =
    TiedBy (polled knows_living true since start) (DoesHere knows_living) since start 0 done es told
    side

-- these caches are those of the side's processor, and they end there
abbrev pub IsHere : Caches Recorded → LivingState → Type 0
IsHere caches side = caches.processor ≡ home knows_living side

abbrev pub EndsHere :
    Log → LivingState → List Act → List Entry → Caches Recorded → LivingState → Type 0
EndsHere since start done es caches side =
    IsHere caches side × Ends since start done es caches.recorder.told side

-- nobody has a grace period in progress
abbrev pub IsIdle : LivingState → Type 0
IsIdle world = (d : Domain) → (domain_in d world.side.grace).driver ≡ None

pub ends-back :
    (since : Log) (start : LivingState) (now before : Option Log) (side : LivingState)
    → now ≡ before → Ends since start [] [] before side → Ends since start [] [] now side
ends-back since start now before side e t = subst (λ o. Ends since start [] [] o side) (sym e) t

pub ends-quiet :
    (since : Log) (start : LivingState) (e : Entry) (before now : Option Log) (side : LivingState)
    → is_quiet e ≡ true → Appends before 0 e now → Ends since start [] [] before side
    → Ends since start [] [] now side
ends-quiet since start e before now side q a t =
    law-quiet (polled knows_living true since start) (unpolled knows_living true since start)
    (DoesHere knows_living) (here-same knows_living) (here-join knows_living) since start 0 e
    before now side q a t

pub ends-did :
    (since : Log) (start : LivingState) (done more : List Act) (es : List Entry) (told : Option Log)
    (side now : LivingState) → DoesHere knows_living more side now
    → Ends since start done es told side → Ends since start (done ++ more) es told now
ends-did since start done more es told side now d t =
    law-done (polled knows_living true since start) (unpolled knows_living true since start)
    (DoesHere knows_living) (here-same knows_living) (here-join knows_living) since start 0 done
    more es told side now d t

pub ends-said :
    (since : Log) (start : LivingState) (done : List Act) (es : List Entry) (e : Entry)
    (before now : Option Log) (side : LivingState) → Appends before 0 e now
    → Ends since start done es before side → Ends since start done (es ++ e ∷ []) now side
ends-said since start done es e before now side a t =
    law-said (polled knows_living true since start) (unpolled knows_living true since start)
    (DoesHere knows_living) (here-same knows_living) (here-join knows_living) since start 0 done
    es e before now side a t

pub ends-closed :
    (since : Log) (start : LivingState) (done : List Act) (es : List Entry) (told : Option Log)
    (side : LivingState) → Shows done es → Ends since start done es told side
    → Ends since start [] [] told side
ends-closed since start done es told side s t =
    law-closed (polled knows_living true since start) (unpolled knows_living true since start)
    (DoesHere knows_living) (here-same knows_living) (here-join knows_living) since start 0 done
    es told side s t

-- units go back in the closing, whatever they wait for
pub ends-returned :
    (since : Log) (start : LivingState) (i : ℕ) (us : List Sealed) (told : Option Log)
    (side : LivingState)
    → Ends since start (act.Returns us ∷ []) (entry.Return i (Whole (units_of us)) ∷ []) told side
    → Ends since start [] [] told side
ends-returned since start i us told side t =
    as-judged knows_living true since start 0 (act.Returns us ∷ [])
    (entry.Return i (Whole (units_of us)) ∷ []) told side (chunk.Returning i us) refl refl
    (λ before q. refl) t

-- the entry of a step, where it stands for what was done if the log is told
pub ends-stepped :
    (since : Log) (start : LivingState) (done : List Act) (e : Entry) (before now : Option Log)
    (side : LivingState) → (IsSome now → Shows done (e ∷ [])) → Appends before 0 e now
    → Ends since start done [] before side → Ends since start [] [] now side
ends-stepped since start done e before None side s a t = tt
ends-stepped since start done e before (Some now) side s a t =
    law-stepped (polled knows_living true since start) (unpolled knows_living true since start)
    (DoesHere knows_living) (here-same knows_living) (here-join knows_living) since start 0 done
    e before (Some now) side (s refl) a t

-- ---- several at once

same-levels : (es : List Entry) → alone.at_level 0 es ≡ at_level 0 es
same-levels [] = refl
same-levels (e ∷ es) = ap (λ z. (0, e) ∷ z) (same-levels es)

levels-append : (es fs : List Entry) → at_level 0 (es ++ fs) ≡ at_level 0 es ++ at_level 0 fs
levels-append [] fs = refl
levels-append (e ∷ es) fs = ap (λ z. (0, e) ∷ z) (levels-append es fs)

added :
    (since : Log) (start : LivingState) (done : List Act) (es more : List Entry) (log : Log)
    (side : LivingState)
    → Tied (polled knows_living true since start) (DoesHere knows_living) since start 0 done es log
    side
    → Tied (polled knows_living true since start) (DoesHere knows_living) since start 0 done
    (es ++ more) (log ++ alone.at_level 0 more) side
added since start done es more log side t = record {
  story = t.story;
  judged = t.judged;
  log_is =
      ap (λ z. z ++ alone.at_level 0 more) t.log_is
      ∙ (append_assoc since (lines t.story ++ at_level 0 es) (alone.at_level 0 more)
      ∙ ap (λ z. since ++ z)
      (append_assoc (lines t.story) (at_level 0 es) (alone.at_level 0 more)
      ∙ ap (λ z. lines t.story ++ z)
      (ap (λ z. at_level 0 es ++ z) (same-levels more) ∙ sym (levels-append es more))));
  done_is = t.done_is;
}

pub ends-noted :
    (since : Log) (start : LivingState) (done : List Act) (es more : List Entry)
    (before now : Option Log) (side : LivingState) → Adds 0 more before now
    → Ends since start done es before side → Ends since start done (es ++ more) now side
ends-noted since start done es more before None side a t = tt
ends-noted since start done es more None (Some now) side a t = absurd (let q = a.told in cc)
ends-noted since start done es more (Some log) (Some now) side a t =
    let same : log ≡ a.log = (let q = a.told in cc) in
    subst
    (λ z. Tied (polled knows_living true since start) (DoesHere knows_living) since start 0 done
    (es ++ more) z side)
    (ap (λ z. z ++ alone.at_level 0 more) same ∙ sym a.now_is)
    (added since start done es more log side t)

-- the first acts and entries are told
pub ends-told :
    (since : Log) (start : LivingState) (done more : List Act) (es others : List Entry)
    (told : Option Log) (side : LivingState) → Shows done es
    → Ends since start (done ++ more) (es ++ others) told side
    → Ends since start more others told side
ends-told since start done more es others None side s t = tt
ends-told since start done more es others (Some log) side s t =
    tie-first (polled knows_living true since start) (unpolled knows_living true since start)
    (DoesHere knows_living) (here-same knows_living) (here-join knows_living) since start 0 done
    more es others log side s.chunk s.acts_are s.entries_are
    (λ before q. unpolled knows_living true since start 0 before s.chunk s.free) t

-- ---- a period that was waited for

-- the last number that was read is no matter
unread :
    (acts : List Act) (d : Domain) (x m : ℕ) (a b : LivingState)
    → DoesHere knows_living (acts ++ act.Reads d x m ∷ []) a b → DoesHere knows_living acts a b
unread acts d x m a b here = (did-before here.0, here.1, here.2)
  where
    made-unread :
        (es : List Act) (p q : Fields) → MadeLead (es ++ act.Reads d x m ∷ []) p q → MadeLead es p q
    made-unread [] p q w = w.1.1 ∙ w.1.0
    made-unread (e ∷ es) p q w = (w.0, (w.1.0, made-unread es w.0 q w.1.1))

    slots-unread :
        (es : List Act) (p q : Contents) → SlotsLead (es ++ act.Reads d x m ∷ []) p q
        → SlotsLead es p q
    slots-unread [] p q w = w.1.1 ∙ w.1.0
    slots-unread (e ∷ es) p q w = (w.0, (w.1.0, slots-unread es w.0 q w.1.1))

    graphs-unread :
        (names : List (List ℕ)) (es : List Act) (p q : Shelf)
        → GraphsLead names (es ++ act.Reads d x m ∷ []) p q → GraphsLead names es p q
    graphs-unread names [] p q w = w.1.1 ∙ w.1.0
    graphs-unread names (e ∷ es) p q w = (w.0, (w.1.0, graphs-unread names es w.0 q w.1.1))

    did-before : LivingDoes (acts ++ act.Reads d x m ∷ []) a b → LivingDoes acts a b
    did-before did = record {
      waits = go-unread acts d x m (waits_told a.standings) (waits_told b.standings) did.waits;
      made = made-unread acts (fields_told a) (fields_told b) did.made;
      exchanged = slots-unread acts (named_in a.contents) (named_in b.contents) did.exchanged;
      called =
          graphs-unread (graph_names_in a.graphs) acts (shelf_of a.graphs) (shelf_of b.graphs)
          did.called;
      named = did.named;
      asked = did.asked;
      keeps = λ n s. did.keeps n (spare-append n acts (act.Reads d x m ∷ []) s (tt, tt));
      did = λ p s.
          let h = did.did p s in
          record {
            leads =
                record {
                  fit = acts-before p acts (act.Reads d x m ∷ []) (told_living a) h.leads.fit;
                  now_is =
                      sym (acts-append p acts (act.Reads d x m ∷ []) (told_living a))
                      ∙ h.leads.now_is;
                };
            stays = h.stays;
            others = h.others;
          };
    }

-- what stands behind the batch of a class leaves its stamp
waits-front :
    (q c : ℕ) (d : Domain) (x n m : ℕ) (p : Period) (log before : Log)
    → log ≡ before ++ (0, entry.Begin d n) ∷ (0, entry.Finish p) ∷ (0, entry.Pass c d m) ∷ []
    → WaitsIn q c d x log → WaitsIn q c d x before
waits-front q c d x n m p log before e w =
    let es : Log = (0, entry.Begin d n) ∷ (0, entry.Finish p) ∷ (0, entry.Pass c d m) ∷ [] in
    ap (λ (s : State ℕ). stamp_of d (s.rows c).deferred) (sym (after-append (opening q) before es))
    ∙ subst (WaitsIn q c d x) e w

waits-ended :
    (q c : ℕ) (d : Domain) (x m : ℕ) (log before : Log) → log ≡ before ++ (0, entry.Pass c d m) ∷ []
    → WaitsIn q c d x log → WaitsIn q c d x before
waits-ended q c d x m log before e w =
    ap (λ (s : State ℕ). stamp_of d (s.rows c).deferred)
    (sym (after-append (opening q) before ((0, entry.Pass c d m) ∷ [])))
    ∙ subst (WaitsIn q c d x) e w

-- a period that began for the batch of a class, below its stamp, and ended at once; and its number was read and recorded
waited :
    (since : Log) (start : LivingState) (d : Domain) (x n m c : ℕ) (ws : List ℕ) (p : Period)
    (log : Log) (side : LivingState) → p.domain ≡ d → n ≤ x
    → WaitsIn (home knows_living side) c d x log
    → Tied (polled knows_living true since start) (DoesHere knows_living) since start 0
    (at_once d x n m ws p) (passed_at_once d n m c p) log side
    → TiedBy (polled knows_living true since start) (DoesHere knows_living) since start 0 [] []
    (Some log) side
waited since start d x n m c ws p log side q b w t =
    as-judged knows_living true since start 0 (act.Reads d x m ∷ []) (entry.Pass c d m ∷ [])
    (Some log) side (chunk.Passing c d x m) refl refl was
    (tie-first (polled knows_living true since start) (unpolled knows_living true since start)
    (DoesHere knows_living) (here-same knows_living) (here-join knows_living) since start 0
    begun (act.Reads d x m ∷ []) said (entry.Pass c d m ∷ []) log side
    (chunk.WholePeriod n ws p)
    (ap (λ k. act.Begins k n ∷ act.Looks k ws ∷ act.Finishes p ∷ []) q)
    (ap (λ k. entry.Begin k n ∷ entry.Finish p ∷ []) q) due t)
  where
    begun : List Act
    begun = act.Begins d n ∷ act.Looks d ws ∷ act.Finishes p ∷ []

    said : List Entry
    said = entry.Begin d n ∷ entry.Finish p ∷ []

    due :
        (before : Log)
        → log ≡ before ++ (0, entry.Begin d n) ∷ (0, entry.Finish p) ∷ (0, entry.Pass c d m) ∷ []
        → IsDue (home knows_living start) p.domain n before
    due before e =
        record {
          stamp = x;
          awaited = (
            c,
            subst (λ k. WaitsIn (home knows_living start) c k x before) (sym q)
                (waits-front (home knows_living start) c d x n m p log before e
                (subst (λ r. WaitsIn r c d x log) t.done_is.1 w)),
          );
          below = b;
        }

    was :
        (before : Log) → Some log ≡ Some (before ++ (0, entry.Pass c d m) ∷ [])
        → WasIdle knows_living since start 0 c d x before
    was before r =
        let e : log ≡ before ++ (0, entry.Pass c d m) ∷ [] = (let k = r in cc) in
        let here = waits-ended (home knows_living side) c d x m log before e w in
        let ls = lines t.story in
        let there : log ≡ (since ++ (ls ++ at_level 0 said)) ++ (0, entry.Pass c d m) ∷ [] =
        t.log_is
        ∙ ap (λ z. since ++ z)
        (sym (append_assoc ls (at_level 0 said) ((0, entry.Pass c d m) ∷ [])))
        ∙ sym (append_assoc since (ls ++ at_level 0 said) ((0, entry.Pass c d m) ∷ [])) in
        let same : before ≡ since ++ (ls ++ at_level 0 said) = append_cancel_right before (since
        ++ (ls ++ at_level 0 said)) ((0, entry.Pass c d m) ∷ []) (sym e ∙ there) in
        let did = unread (deeds t.story ++ begun) d x m start side (subst
        (λ z. DoesHere knows_living z start side)
        (sym (append_assoc (deeds t.story) begun (act.Reads d x m ∷ []))) t.done_is) in
        let tied : Tied whatever (DoesHere knows_living) since start 0 begun said before side =
        tie-unjudged (polled knows_living true since start) (DoesHere knows_living) since start
        0 begun said before side (record
        { story = t.story; judged = t.judged; log_is = same; done_is = did }) in
        record {
          waits = subst (λ r. WaitsIn r c d x before) t.done_is.1 here;
          before = before;
          at = side;
          idle =
              record
              { done = begun; es = said; idle = idle.Ended n ws p q b (c, here); tied = tied };
          added = [];
          from = tt;
          log_is = sym (append-nil before);
        }

pub ends-waited :
    (since : Log) (start : LivingState) (d : Domain) (x n m c : ℕ) (ws : List ℕ) (p : Period)
    (told : Option Log) (side : LivingState) → p.domain ≡ d → n ≤ x
    → IfSome told (WaitsIn (home knows_living side) c d x)
    → Ends since start (at_once d x n m ws p) (passed_at_once d n m c p) told side
    → Ends since start [] [] told side
ends-waited since start d x n m c ws p None side q b w t = tt
ends-waited since start d x n m c ws p (Some log) side q b w t =
    waited since start d x n m c ws p log side q b w t
