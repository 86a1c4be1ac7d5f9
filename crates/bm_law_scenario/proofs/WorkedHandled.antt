-- The worked logs with handlers, and the wrong ones beside them.
use Rattle.std.proofs.Common.{◌≡◌, ℕ, zero, suc, true, List, [], ◌∷◌, ◌++◌, Some, None, refl, sym, ap, subst, ◌∙◌, inr, codes, lit≤, slice_get, slice_index, arith, append-nil, append_assoc}
use Rattle.bm_class.specs.Sizes.{size_of_class}
use Rattle.bm_class.specs.Watermarks.{low_of_size}
use Rattle.bm_journal.specs.declared.ids.Domain.TheVariants.{Plain, Tracing}
use Rattle.bm_journal.specs.declared.entry.Entry.{Entry}
use Rattle.bm_journal.specs.declared.entry.Entry.TheVariants as entry
use Rattle.bm_lang.specs.declared.scenario.Block.{Block}
use Rattle.bm_lang.specs.declared.scenario.Parts.{Parts}
use Rattle.bm_lang.specs.declared.scenario.Script.{Script}
use Rattle.bm_lang.specs.declared.scenario.ScriptKind.TheVariants as kind
use Rattle.bm_law.specs.Alone.{at_level}
use Rattle.bm_law.specs.Lists.{Log, after}
use Rattle.bm_law.specs.State.{State}
use Rattle.bm_law.proofs.Alone.{level-from}
use Rattle.bm_law_work.specs.Parts as part
use Rattle.bm_law.specs.Spans.{own_entries}
use Rattle.bm_law_scenario.specs.Declared.{declared_in, unmapped}
use Rattle.bm_law_scenario.specs.Calls.{Allocates, RunsNew}
use Rattle.bm_law_scenario.specs.Handlers.{HandlerPhrase, HandlersDone, InSection, RunsThere, enclosed}
use Rattle.bm_law_scenario.specs.Held.{Names, OwnsNothing, no_names}
use Rattle.bm_law_scenario.proofs.OwnRuns.{Done, Run, RunsBlock}
use Rattle.bm_law_scenario.specs.Runs.{RunsBlock as RunsBlock'}
use Rattle.bm_law_lives.specs.SectionWords.{SectionWords, word_after}
use Rattle.bm_law_scenario.specs.Worked.{item}
use Rattle.bm_law_scenario.specs.WorkedJournal.{asks, drops_x_unless_null, item_id, makes_and_drops, makes_x, script_of, took, types, vector_of, x_name}
use Rattle.bm_law_scenario.specs.WorkedHandlers.{asks_too, back_as_other, behind_script, counted, encloses_inside, finds_busy, handled, handler, idle, interrupted, keeps, keeps_it, no_section, plain_script, taken, worked_behind, works_on}
use Rattle.bm_law_scenario.proofs.Blocks.{RunsList, block-runs}
use Rattle.bm_law_scenario.proofs.GoneBack.{done-back, done-grow, done-none}
use Rattle.bm_law_scenario.proofs.Ran.{null-owns_nothing, of-item, with_null}
use Rattle.bm_law_scenario.proofs.SameRuns.{alone-owned, alone-told, level-told}
use Rattle.bm_law_scenario.proofs.Taken.{new-taken}
use Rattle.bm_law_scenario.proofs.Told.{same-script}
use Rattle.bm_law_scenario.proofs.Unplanned.{done-stretch, log_within}

-- ---- the worked ones

idle-runs : RunsBlock (unmapped types) true idle no_names [] no_names
idle-runs =
    let list : RunsList (unmapped types) [] no_names [] no_names = (refl, refl) in
    subst (λ (run : Run). run no_names [] no_names) (sym (block-runs (unmapped types) (vector_of [] (lit≤ tt)) 11)) list

busy-allocates : Allocates 0 (entry.Enter 0 2 ∷ entry.Leave 0 1 ∷ entry.Raise 0 ∷ entry.Busy 2 ∷ []) None
unfolding size_of_class low_of_size
busy-allocates = inr (2, 1, omega arith, refl)

busy-runs : RunsBlock (unmapped types) true (makes_and_drops 7 8 9) no_names finds_busy (with_null no_names)
busy-runs =
    let new : RunsNew types x_name item_id (7 ∷ []) no_names finds_busy (with_null no_names) = record {
      class = 0;
      declared = record item { line = 5 };
      of_class = of-item;
      own = entry.Enter 0 2 ∷ entry.Leave 0 1 ∷ entry.Raise 0 ∷ entry.Busy 2 ∷ [];
      reply = None;
      part_is = refl;
      allocates = busy-allocates;
      after_is = refl;
    } in
    let list : RunsList (unmapped types) (makes_x 7 ∷ drops_x_unless_null 8 ∷ []) no_names finds_busy (with_null no_names) = record {
      middle = with_null no_names;
      one = finds_busy;
      two = [];
      part_is = refl;
      first_runs = new;
      second_runs = record { middle = with_null no_names; one = []; two = []; part_is = refl; first_runs = (refl, refl); second_runs = (refl, refl) };
    } in
    subst (λ (run : Run). run no_names finds_busy (with_null no_names)) (sym (block-runs (unmapped types) (vector_of (makes_x 7 ∷ drops_x_unless_null 8 ∷ []) (lit≤ tt)) 9)) list

handler-back : (name back : List ℕ) → entry.Handler name ≡ entry.Back back → ⊥
handler-back name back q = cc

-- a whole handler, with none within it
whole : (s : Parts) (log : Log) (l : ℕ) (name : List ℕ) (own : List Entry) → log_within (at_level l own) ≡ true → own_entries l (at_level l own) ≡ own → HandlersDone s 0 log → HandlerPhrase s name (word_after Plain log) own → RunsThere s 0 l name log (at_level l own) → HandlersDone s 0 ((log ++ (l, entry.Handler name) ∷ at_level l own) ++ (l, entry.Back name) ∷ [])
whole s log l name own w o h p r =
    let begun : HandlersDone s 0 (log ++ (l, entry.Handler name) ∷ []) = done-grow s 0 log l (entry.Handler name) (λ back q. handler-back name back q) h in
    let inside : HandlersDone s 0 (log ++ (l, entry.Handler name) ∷ at_level l own) = subst (HandlersDone s 0) (append_assoc log ((l, entry.Handler name) ∷ []) (at_level l own)) (done-stretch s 0 (at_level l own) (log ++ (l, entry.Handler name) ∷ []) w begun) in
    done-back s 0 log (at_level l own) l name inside (subst (HandlerPhrase s name (word_after Plain log)) (sym o) p) r

pub interrupted-done : HandlersDone (handled (makes_and_drops 7 8 9)) 0 interrupted
interrupted-done =
    let s = handled (makes_and_drops 7 8 9) in
    let phrase : HandlerPhrase s (codes "h") 1 finds_busy = record { index = 1; script = _; found = refl; called = refl; handles = refl; part = finds_busy; after = with_null no_names; own_is = refl; runs = alone-told (declared_in s) (makes_and_drops 7 8 9) no_names (with_null no_names) finds_busy (refl, tt) busy-runs; owns_nothing = null-owns_nothing } in
    let ran : RunsThere s 0 1 (codes "h") taken (at_level 1 finds_busy) = λ lists h. record {
      index = 1;
      script = _;
      found = refl;
      called = refl;
      handles = refl;
      after = with_null no_names;
      runs = level-told (declared_in s) 1 (makes_and_drops 7 8 9) no_names (with_null no_names) lists finds_busy (refl, tt) busy-runs;
      owns_nothing = null-owns_nothing;
    } in
    done-stretch s 0 counted (taken ++ handler (codes "h") finds_busy) refl (whole s taken 1 (codes "h") finds_busy refl refl (done-stretch s 0 taken [] refl (done-none s 0)) phrase ran)

pub behind_script-done : HandlersDone (handled idle) 0 behind_script
behind_script-done =
    let s = handled idle in
    let own : List Entry = entry.In Plain 3 ∷ entry.Out Plain 4 ∷ [] in
    let phrase : HandlerPhrase s (codes "h") 2 own = record { index = 1; script = _; found = refl; called = refl; handles = refl; part = []; after = no_names; own_is = refl; runs = alone-told (declared_in s) idle no_names no_names [] (refl, tt) idle-runs; owns_nothing = λ x. tt } in
    let in_section : (lists : State ℕ) → InSection true 1 2 (RunsBlock' (declared_in s) 1 true part.Nothing idle) no_names no_names lists (at_level 1 own) =
    λ lists. record {
      one = at_level 1 (entry.In Plain 3 ∷ []);
      two = at_level 1 (entry.Out Plain 4 ∷ []);
      part_is = refl;
      is_first = record { from = level-from 1 (entry.In Plain 3 ∷ []); own_is = refl };
      is_second = record {
        one = [];
        two = at_level 1 (entry.Out Plain 4 ∷ []);
        part_is = refl;
        is_first = level-told (declared_in s) 1 idle no_names no_names (after lists (at_level 1 (entry.In Plain 3 ∷ []))) [] (refl, tt) idle-runs;
        is_second = record { from = level-from 1 (entry.Out Plain 4 ∷ []); own_is = refl };
      };
    } in
    let ran : RunsThere s 0 1 (codes "h") worked_behind (at_level 1 own) = λ lists h. record { index = 1; script = _; found = refl; called = refl; handles = refl; after = no_names; runs = in_section lists; owns_nothing = λ x. tt } in
    done-stretch s 0 works_on (worked_behind ++ handler (codes "h") own) refl (whole s worked_behind 1 (codes "h") own refl refl (done-stretch s 0 worked_behind [] refl (done-none s 0)) phrase ran)

pub interrupted-words : SectionWords interrupted
interrupted-words Plain = refl
interrupted-words Tracing = refl

pub behind_script-words : SectionWords behind_script
behind_script-words Plain = refl
behind_script-words Tracing = refl

-- ---- the wrong ones

-- what the one handler script left
record Ran (body : Block) (w : ℕ) (own : List Entry) : Type 0 where
  part : List Entry
  after : Names
  own_is : own ≡ enclosed w part
  runs : RunsBlock (unmapped types) true body no_names part after
  owns_nothing : (x : List ℕ) → OwnsNothing (after x)

abbrev h_script : Block → Script
h_script body = record (script_of 10 (codes "h") body) { kind = kind.Handler }

apart-kinds : kind.Plain ≡ kind.Handler → ⊥
apart-kinds q = cc

none-some : {a : Script} → None ≡ Some a → ⊥
none-some q = cc

-- it is the only one
only : (body : Block) (i : ℕ) (x : Script) → slice_get (script_of 6 (codes "main") (makes_and_drops 7 8 9) ∷ h_script body ∷ []) i ≡ Some x → x.kind ≡ kind.Handler → h_script body ≡ x
only body zero x e k = absurd (apart-kinds (ap (λ (s : Script). s.kind) (same-script e) ∙ k))
only body (suc zero) x e k = same-script e
only body (suc (suc i)) x e k = absurd (none-some e)

ran-of : (body : Block) (name : List ℕ) (w : ℕ) (own : List Entry) → HandlerPhrase (handled body) name w own → Ran body w own
ran-of body name w own h =
    let same = only body h.index h.script h.found h.handles in
    record { part = h.part; after = h.after; own_is = h.own_is; runs = subst (λ (x : Script). RunsBlock (unmapped types) true x.body no_names h.part h.after) (sym same) (alone-owned (unmapped types) h.script.body no_names h.after h.part h.runs); owns_nothing = h.owns_nothing }

-- the body that does nothing leaves nothing
idle-none : (w : ℕ) (own : List Entry) → Ran idle w own → own ≡ enclosed w []
idle-none w own r =
    let list : RunsList (unmapped types) [] no_names r.part r.after = subst (λ (run : Run). run no_names r.part r.after) (block-runs (unmapped types) (vector_of [] (lit≤ tt)) 11) r.runs in
    r.own_is ∙ ap (enclosed w) list.0

cons-none : (e : Entry) (es : List Entry) → e ∷ es ≡ [] → ⊥
cons-none e es q = cc

h-other : codes "h" ≡ codes "main" → ⊥
h-other e = omega (arith, ap (λ (v : List ℕ). slice_index v 0) e)

g-other : codes "g" ≡ codes "h" → ⊥
g-other e = omega (arith, ap (λ (v : List ℕ). slice_index v 0) e)

pub keeps_it-wrong : HandlersDone (handled keeps) 0 keeps_it → ⊥
keeps_it-wrong done =
    let own : List Entry = asks ∷ took 3 in
    let d = done (record { level = 1; name = codes "h"; back = codes "h"; front = taken; part = at_level 1 own; rest = counted; log_is = refl; within = refl }) in
    let r : Ran keeps 1 own = ran-of keeps (codes "h") 1 own d.1 in
    let list : RunsList (unmapped types) (makes_x 11 ∷ []) no_names r.part r.after = subst (λ (run : Run). run no_names r.part r.after) (block-runs (unmapped types) (vector_of (makes_x 11 ∷ []) (lit≤ tt)) 12) r.runs in
    let stays = new-taken Done r.part r.after [] [] list (append-nil r.part ∙ sym r.own_is) in
    subst (λ (names : Names). OwnsNothing (names x_name)) stays.runs.1 (r.owns_nothing x_name)

pub asks_too-wrong : HandlersDone (handled idle) 0 asks_too → ⊥
asks_too-wrong done =
    let d = done (record { level = 1; name = codes "h"; back = codes "h"; front = taken; part = at_level 1 finds_busy; rest = counted; log_is = refl; within = refl }) in
    cons-none _ _ (idle-none 1 finds_busy (ran-of idle (codes "h") 1 finds_busy d.1))

pub encloses_inside-wrong : HandlersDone (handled idle) 0 encloses_inside → ⊥
encloses_inside-wrong done =
    let own : List Entry = entry.In Plain 2 ∷ entry.Out Plain 3 ∷ [] in
    let d = done (record { level = 1; name = codes "h"; back = codes "h"; front = taken; part = at_level 1 own; rest = counted; log_is = refl; within = refl }) in
    cons-none _ _ (idle-none 1 own (ran-of idle (codes "h") 1 own d.1))

pub no_section-wrong : HandlersDone (handled idle) 0 no_section → ⊥
no_section-wrong done =
    let d = done (record { level = 1; name = codes "h"; back = codes "h"; front = worked_behind; part = []; rest = works_on; log_is = refl; within = refl }) in
    cons-none _ _ (sym (idle-none 2 [] (ran-of idle (codes "h") 2 [] d.1)))

pub plain_script-wrong : HandlersDone (handled idle) 0 plain_script → ⊥
plain_script-wrong done =
    let d = done (record { level = 1; name = codes "main"; back = codes "main"; front = taken; part = []; rest = counted; log_is = refl; within = refl }) in
    h-other (ap (λ (x : Script). x.name) (only idle d.1.index d.1.script d.1.found d.1.handles) ∙ d.1.called)

pub back_as_other-wrong : HandlersDone (handled idle) 0 back_as_other → ⊥
back_as_other-wrong done =
    let d = done (record { level = 1; name = codes "h"; back = codes "g"; front = taken; part = []; rest = counted; log_is = refl; within = refl }) in
    g-other d.0
