-- Where no deferred work runs, the entries of its level that a run leaves are a run by entries, and entries of a run by entries
-- are a run.
use Rattle.std.proofs.Common.{◌≡◌, ℕ, zero, suc, Bool, true, false, List, [], ◌∷◌, ◌++◌, Option, Some, None, refl, sym, ap, subst, ◌∙◌, append-nil, inl, inr}
use Rattle.bm_journal.specs.declared.entry.Entry.{Entry}
use Rattle.bm_journal.specs.declared.entry.Entry.TheVariants as entry
use Rattle.bm_lang.specs.declared.scenario.Action.{Action, New, Drop, Acquire, Get, Exchange, If', Repeat, Section, Lock, Unlock, Yield, PushFront, PushBack, PopFront, PopBack, Add, First, Remove, Held-Action-If-2, None', Some'}
use Rattle.bm_lang.specs.declared.scenario.Block.{Block, Block', Row_of-Statement, end_of-Statement, more_of-Statement}
use Rattle.bm_law.specs.State.{State, opening}
use Rattle.bm_law.specs.Lists.{Log, after}
use Rattle.bm_law.specs.Alone.{at_level}
use Rattle.bm_law.specs.Spans.{AllFrom, own_entries}
use Rattle.bm_law.proofs.Spans.{from-append, own-append}
use Rattle.bm_law.proofs.Alone.{level-append, level-from, level-own}
use Rattle.bm_law_work.specs.Parts.{Stand, Then}
use Rattle.bm_law_work.specs.Parts as part
use Rattle.bm_lang.specs.declared.scenario.MapId.{MapId}
use Rattle.bm_graph.specs.declared.ways.End.TheVariants as end_
use Rattle.bm_graph.specs.declared.ways.Way.TheVariants as way
use Rattle.bm_graph.specs.declared.ways.Way.{Way}
use Rattle.bm_law_scenario.specs.Declared.{Declared, under}
use Rattle.bm_law_scenario.specs.Held.{Held, Nothing, Null, Object, Soft, Names}
use Rattle.bm_law_scenario.specs.Calls.{RunsAcquire, RunsExchange, RunsFirst, RunsGet, RunsGivingUp, RunsLock, RunsNew, RunsPop, RunsPutting, RunsRemove, RunsUnlock, any_batch, batch_in}
use Rattle.bm_law_scenario.specs.Runs.{Run, Leaving, Done, Followed, Times, Calls, Chosen, Within, RunsAction, RunsAlone, RunsElse, RunsBlock, RunsRow, lock_after, unlocked}
use Rattle.bm_law_scenario.proofs.Freed.{NoCounts, loosely, no-count, putting-loosely, refused-by, uncounted}
use Rattle.bm_law_scenario.proofs.OwnRuns as own

-- Each part of a run is of level l and above, and its entries of that level are a run by entries; and such entries alone are a
-- run.
pub record Same (d : Declared) (l : ℕ) (R : Run) (Q : own.Run) : Type 0 where
  pub owned : (names after : Names) (s : State ℕ) (log : Log) → R names after s log → AllFrom l log × Q names (own_entries l log) after
  pub told : NoCounts d.types → (names after : Names) (s : State ℕ) (es : List Entry) → Q names es after → R names after s (at_level l es)

none-same : (d : Declared) (l : ℕ) → Same d l (λ names after s log. ⊥) (λ names es after. ⊥)
none-same d l = record { owned = λ names after s log h. absurd h; told = λ loose names after s es h. absurd h }

done-same : (d : Declared) (l : ℕ) → Same d l Done own.Done
done-same d l = record {
  owned = λ names after s log h. (let F : Log → Type 0 = AllFrom l in subst F (sym h.1) tt, (ap (own_entries l) h.1, h.0));
  told = λ loose names after s es h. (h.1, ap (at_level l) h.0);
}

calls-same : (d : Declared) (l : ℕ) (call : Names → List Entry → Names → Type 0) → Same d l (Calls l call) call
calls-same d l call = record {
  owned = λ names after s log h. (h.2.from, subst (λ es. call names es after) (sym h.2.own_is) h.1);
  told = λ loose names after s es h. (es, h, record { from = level-from l es; own_is = level-own l es });
}

-- what code knows of batches its entries don't say
told-drop : (d : Declared) (x : List ℕ) (s : State ℕ) (names after : Names) (own : List Entry) → NoCounts d.types → RunsGivingUp d.types x any_batch names own after → RunsGivingUp d.types x (batch_in s) names own after
told-drop d x s names after own loose (inl h) = inl h
told-drop d x s names after own loose (inr h) = inr (uncounted d.types x s names after own h (no-count d.types h.type.0 h.declared loose h.of_class.found))

drop-same : (l : ℕ) (d : Declared) (x : List ℕ) → Same d l (λ names after s. Calls l (RunsGivingUp d.types x (batch_in s)) names after s) (RunsGivingUp d.types x any_batch)
drop-same l d x = record {
  owned = λ names after s log h. (h.2.from, subst (λ es. RunsGivingUp d.types x any_batch names es after) (sym h.2.own_is) (loosely d.types x (batch_in s) names after h.0 h.1));
  told = λ loose names after s es h. (es, told-drop d x s names after es loose h, record { from = level-from l es; own_is = level-own l es });
}

told-put : (d : Declared) (lock : Option MapId) (way : Way) (g : MapId) (x : List ℕ) (s : State ℕ) (names after : Names) (own : List Entry) → NoCounts d.types → RunsPutting (under lock d) way g x any_batch names own after → RunsPutting (under lock d) way g x (batch_in s) names own after
told-put d lock way g x s names after own loose (inl h) = inl h
told-put d lock way g x s names after own loose (inr h) = inr (refused-by (under lock d) way g x any_batch (batch_in s) names after own h (told-drop d x s names after h.own loose h.gives_up))

put-same : (l : ℕ) (d : Declared) (lock : Option MapId) (way : Way) (g : MapId) (x : List ℕ) → Same d l (λ names after s. Calls l (RunsPutting (under lock d) way g x (batch_in s)) names after s) (RunsPutting (under lock d) way g x any_batch)
put-same l d lock way g x = record {
  owned = λ names after s log h. (h.2.from, subst (λ es. RunsPutting (under lock d) way g x any_batch names es after) (sym h.2.own_is) (putting-loosely (under lock d) way g x (batch_in s) names after h.0 h.1));
  told = λ loose names after s es h. (es, told-put d lock way g x s names after es loose h, record { from = level-from l es; own_is = level-own l es });
}

followed-same : (d : Declared) (l : ℕ) (R R' : Run) (Q Q' : own.Run) → Same d l R Q → Same d l R' Q' → Same d l (Followed R R') (own.Then Q Q')
followed-same d l R R' Q Q' a b = record {
  owned = λ names last s log h.
      let t = h.1 in
      let f = a.owned names h.0 s t.one t.is_first in
      let g = b.owned h.0 last (after s t.one) t.two t.is_second in
      let F : Log → Type 0 = AllFrom l in (
        subst F (sym t.part_is) (from-append l t.one t.two f.0 g.0),
        record {
          middle = h.0;
          one = own_entries l t.one;
          two = own_entries l t.two;
          part_is = ap (own_entries l) t.part_is ∙ own-append l t.one t.two;
          first_runs = f.1;
          second_runs = g.1;
        },
      );
  told = λ loose names last s es h. (
    h.middle,
    record {
      one = at_level l h.one;
      two = at_level l h.two;
      part_is = ap (at_level l) h.part_is ∙ level-append l h.one h.two;
      is_first = a.told loose names h.middle s h.one h.first_runs;
      is_second = b.told loose h.middle last (after s (at_level l h.one)) h.two h.second_runs;
    },
  );
}

-- nothing stands behind a statement
bare-same : (d : Declared) (l : ℕ) (R : Run) (Q : own.Run) → Same d l R Q → Same d l (Followed R (Leaving part.Nothing)) Q
bare-same d l R Q a = record {
  owned = λ names last s log h.
      let t = h.1 in
      let whole : log ≡ t.one = t.part_is ∙ (ap (λ w. t.one ++ w) t.is_second.1 ∙ append-nil t.one) in
      let F : Log → Names → Type 0 = λ w n. AllFrom l w × Q names (own_entries l w) n in
      subst (λ n. F log n) (sym t.is_second.0) (subst (λ w. F w h.0) (sym whole) (a.owned names h.0 s t.one t.is_first));
  told = λ loose names last s es h. (
    last,
    record {
      one = at_level l es;
      two = [];
      part_is = sym (append-nil (at_level l es));
      is_first = a.told loose names last s es h;
      is_second = (refl, refl);
    },
  );
}

-- .. whether a lock is held there or not
unlocked-same : (d : Declared) (l : ℕ) (lock : Option MapId) (R : Run) (Q : own.Run) → Same d l R Q → Same d l (Followed R (Leaving (unlocked lock part.Nothing))) Q
unlocked-same d l None R Q a = bare-same d l R Q a
unlocked-same d l (Some g) R Q a = bare-same d l R Q a

times-same : (d : Declared) (l : ℕ) (R : Run) (Q : own.Run) (n : ℕ) → Same d l R Q → Same d l (Times R n) (own.Times Q n)
times-same d l R Q zero a = done-same d l
times-same d l R Q (suc n) a = followed-same d l R (Times R n) Q (own.Times Q n) a (times-same d l R Q n a)

chosen-same : (d : Declared) (l : ℕ) (F O : Run) (G P : own.Run) → Same d l F G → Same d l O P → (v : Held) → Same d l (Chosen v F O) (own.Chosen v G P)
chosen-same d l F O G P a b Nothing = none-same d l
chosen-same d l F O G P a b Null = b
chosen-same d l F O G P a b (Object t u n) = a
chosen-same d l F O G P a b (Soft t g u n) = a

if-same : (d : Declared) (l : ℕ) (F O : Run) (G P : own.Run) (x : List ℕ) → Same d l F G → Same d l O P → Same d l (λ names. Chosen (names x) F O names) (λ names. own.Chosen (names x) G P names)
if-same d l F O G P x a b = record {
  owned = λ names. (chosen-same d l F O G P a b (names x)).owned names;
  told = λ loose names. (chosen-same d l F O G P a b (names x)).told loose names;
}

-- these entries stand there, and the names hold what they held
stand-same : (d : Declared) (l : ℕ) (stands : List Entry) → Same d l (Leaving (Stand l stands)) (own.Leaving stands)
stand-same d l stands = record {
  owned = λ names after s log h. (h.1.from, (h.1.own_is, h.0));
  told = λ loose names after s es h. (h.1, record { from = level-from l es; own_is = level-own l es ∙ h.0 });
}

within-same : (d : Declared) (l : ℕ) (R : Run) (Q : own.Run) (i : Bool) → Same d l R Q → Same d l (Within i l R) (own.Within i Q)
within-same d l R Q true a = a
within-same d l R Q false a = record {
  owned = λ names last s log h.
      let t = h.1 in
      let u = t.is_second in
      let m = after s t.one in
      let x = a.owned names last m u.one u.is_first in
      let F : Log → Type 0 = AllFrom l in
      let two = from-append l u.one u.two x.0 u.is_second.from in (
        subst F (sym t.part_is) (from-append l t.one t.two t.is_first.from (subst F (sym u.part_is) two)),
        (
          h.0,
          record {
            middle = names;
            one = own_entries l t.one;
            two = own_entries l t.two;
            part_is = ap (own_entries l) t.part_is ∙ own-append l t.one t.two;
            first_runs = (t.is_first.own_is, refl);
            second_runs = record {
              middle = last;
              one = own_entries l u.one;
              two = own_entries l u.two;
              part_is = ap (own_entries l) u.part_is ∙ own-append l u.one u.two;
              first_runs = x.1;
              second_runs = (u.is_second.own_is, refl);
            };
          },
        ),
      );
  told = λ loose names last s es h.
      let t = h.1 in
      let u = t.second_runs in
      let m = after s (at_level l t.one) in (
        h.0,
        record {
          one = at_level l t.one;
          two = at_level l t.two;
          part_is = ap (at_level l) t.part_is ∙ level-append l t.one t.two;
          is_first = record { from = level-from l t.one; own_is = level-own l t.one ∙ t.first_runs.0 };
          is_second = record {
            one = at_level l u.one;
            two = at_level l u.two;
            part_is = ap (at_level l) u.part_is ∙ level-append l u.one u.two;
            is_first = subst (λ n. R names n m (at_level l u.one)) (sym u.second_runs.1) (subst (λ n. R n u.middle m (at_level l u.one)) t.first_runs.1 (a.told loose t.middle u.middle m u.one u.first_runs));
            is_second = record { from = level-from l u.two; own_is = level-own l u.two ∙ u.second_runs.0 };
          };
        },
      );
}

mutual
  action-same : (l : ℕ) (d : Declared) (lock : Option MapId) (i : Bool) (a : Action) → Same d l (RunsAction (under lock d) l i part.Nothing a) (own.RunsAction (under lock d) i a)
  action-same l d lock i (New x t values) = calls-same d l (RunsNew d.types x t values)
  action-same l d lock i (Drop x) = drop-same l d x
  action-same l d lock i (Acquire y x) = calls-same d l (RunsAcquire d.types y x)
  action-same l d lock i (If' x body otherwise) = if-same d l (RunsBlock (under lock d) l i part.Nothing body) (RunsElse (under lock d) l i part.Nothing otherwise) (own.RunsBlock (under lock d) i body) (own.RunsElse (under lock d) i otherwise) x (under-same l d lock i body) (else-same l d lock i otherwise)
  action-same l d lock i (Repeat n body) = times-same d l (RunsBlock (under lock d) l i part.Nothing body) (own.RunsBlock (under lock d) i body) n (under-same l d lock i body)
  action-same l d lock i (Section body) = within-same d l (RunsBlock (under lock d) l true part.Nothing body) (own.RunsBlock (under lock d) true body) i (under-same l d lock true body)
  action-same l d lock i (Get x field) = calls-same d l (RunsGet d.types x field)
  action-same l d lock i (Exchange y slot x) = calls-same d l (RunsExchange d.maps y slot x)
  action-same l d lock i (Lock graph) = calls-same d l (RunsLock (under lock d) graph)
  action-same l d lock i Unlock = calls-same d l (RunsUnlock (under lock d))
  action-same l d lock i Yield = stand-same d l (entry.Yield ∷ [])
  action-same l d lock i (PushFront list x) = put-same l d lock way.Front list x
  action-same l d lock i (PushBack list x) = put-same l d lock way.Back list x
  action-same l d lock i (PopFront x list) = calls-same d l (RunsPop (under lock d) end_.Front list x)
  action-same l d lock i (PopBack x list) = calls-same d l (RunsPop (under lock d) end_.Back list x)
  action-same l d lock i (Add tree x) = put-same l d lock way.Ordered tree x
  action-same l d lock i (First x tree) = calls-same d l (RunsFirst (under lock d) tree x)
  action-same l d lock i (Remove y tree x) = calls-same d l (RunsRemove (under lock d) tree y x)

  else-same : (l : ℕ) (d : Declared) (lock : Option MapId) (i : Bool) (o : Held-Action-If-2) → Same d l (RunsElse (under lock d) l i part.Nothing o) (own.RunsElse (under lock d) i o)
  else-same l d lock i None' = done-same d l
  else-same l d lock i (Some' body) = under-same l d lock i body

  under-same : (l : ℕ) (d : Declared) (lock : Option MapId) (i : Bool) (b : Block) → Same d l (RunsBlock (under lock d) l i part.Nothing b) (own.RunsBlock (under lock d) i b)
  under-same l d lock i (Block' shape row end_line) = row-same l d lock i row

  row-same : (l : ℕ) (d : Declared) (lock : Option MapId) (i : Bool) {m : _} (row : Row_of-Statement m) → Same d l (RunsRow (under lock d) l i part.Nothing row) (own.RunsRow (under lock d) i row)
  row-same l d lock i end_of-Statement = done-same d l
  row-same l d lock i (more_of-Statement line action rest) =
      let left : Option MapId = lock_after lock action in
      followed-same d l (Followed (RunsAction (under lock d) l i part.Nothing action) (Leaving (unlocked left part.Nothing))) (RunsRow (under left d) l i part.Nothing rest) (own.RunsAction (under lock d) i action) (own.RunsRow (under left d) i rest)
      (unlocked-same d l left (RunsAction (under lock d) l i part.Nothing action) (own.RunsAction (under lock d) i action) (action-same l d lock i action)) (row-same l d left i rest)

-- whatever lock is held around it
pub block-same : (l : ℕ) (d : Declared) (i : Bool) (b : Block) → Same d l (RunsBlock d l i part.Nothing b) (own.RunsBlock d i b)
block-same l d i b = under-same l d d.lock i b

-- the same of a block that stands alone
pub alone-owned : (d : Declared) (b : Block) (names last : Names) (es : List Entry) → RunsAlone d b names es last → own.RunsBlock d true b names es last
alone-owned d b names last es h = subst (λ v. own.RunsBlock d true b names v last) h.own_is ((block-same h.level d true b).owned names last h.lists h.log h.runs).1

-- Where no type has a count, these entries of a level alone are a run from any lists; and so they are those of some part.
pub level-told : (d : Declared) (l : ℕ) (b : Block) (names last : Names) (s : State ℕ) (es : List Entry) → NoCounts d.types → own.RunsBlock d true b names es last → RunsBlock d l true part.Nothing b names last s (at_level l es)
level-told d l b names last s es none h = (block-same l d true b).told none names last s es h

pub alone-told : (d : Declared) (b : Block) (names last : Names) (es : List Entry) → NoCounts d.types → own.RunsBlock d true b names es last → RunsAlone d b names es last
alone-told d b names last es none h = record {
  level = 1;
  lists = opening 0;
  log = at_level 1 es;
  runs = level-told d 1 b names last (opening 0) es none h;
  own_is = level-own 1 es;
}
