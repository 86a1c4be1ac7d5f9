-- A handler that is due begins, and goes back.
use Rattle.std.specs.Prelude.{All, IfSome, MatchOption, drop, option_to_list, slice_get, vec_capacity}
use Rattle.std.proofs.Common.{◌≡◌, ◌≤◌, ℕ, zero, suc, ◌+◌, List, [], ◌∷◌, ◌++◌, reverse, length, Option, Some, None, refl, sym, ap, ◌∙◌, subst, arith}
use Rattle.std.proofs.lemmas.List.{reverse-reverse}
use Rattle.bm_journal.specs.declared.entry.Entry.TheVariants as entry
use Rattle.bm_journal.specs.Recording.{Appends}
use Rattle.bm_lang.specs.declared.scenario.Parts.{Parts}
use Rattle.bm_lang.specs.declared.scenario.Script.{Script}
use Rattle.bm_due.specs.declared.planned.Due.{Due}
use Rattle.bm_grace.specs.Known.{Known}
use Rattle.bm_law.specs.Lists.{Log}
use Rattle.bm_law_scenario.specs.Handlers.{HandlersDone}
use Rattle.bm_law_scenario.proofs.GoneBack.{done-back}
use Rattle.bm_law_lives.proofs.Words.{word-append}
use Rattle.bm_plan.specs.Position.{AboutTo, Position, StandsAt, level_in, names_in}
use Rattle.bm_plan.proofs.Positions.{returns-here}
use Rattle.bm_exec_levels.specs.AtProcessor.{HasPhrase, IsAt, IsDue, lock_of, log_of}
use Rattle.bm_exec_levels.specs.Growing.{tells-inner}
use Rattle.bm_exec_levels.specs.Calling.{counts-plain}
use Rattle.bm_exec_levels.specs.Here.{position_of}
use Rattle.bm_exec_levels.specs.Logged.{Tells}
use Rattle.bm_exec_levels.specs.Ready.{BindsAll, IsReady, known_of}
use Rattle.bm_exec_levels.specs.Turns.{told-more}
use Rattle.bm_exec_levels.specs.declared.processor.Processor.{Processor}
use Rattle.bm_exec_levels.specs.declared.program.Program.{Program}
use Rattle.bm_exec_levels.proofs.Dues.{both, innermost-first, one-longer}
use Rattle.bm_grace.specs.declared.grace.Knows.{Ghosts as Knows}

module _ {W : Type 0} (knows : Knows W) where
  -- other handlers run, and other tables are free
  abbrev pub turned : Processor W → Processor W → Processor W
  turned m b = record m { caches = b.caches; running = b.running; tables = b.tables }

  ready-turned : (p : Program) (m : Processor W) (b : Processor W) → b.caches.processor ≡ m.caches.processor → length b.tables.items + length b.running.items ≡ 3 → 3 ≤ vec_capacity b.running → 3 ≤ vec_capacity b.tables → All (BindsAll p.scenario.now.scripts) b.tables.items → IsReady knows p m → IsReady knows p (turned m b)
  ready-turned p m b same n v w f h = record {
    fits = h.fits;
    here = same ∙ h.here;
    scripts = h.scripts;
    planned = h.planned;
    bound = f;
    tables = n;
    room_running = v;
    room_tables = w;
    asks = h.asks;
    words = h.words;
    inside = h.inside;
    calls = h.calls;
    stocked = h.stocked;
  }

  -- the name of a script
  pub name-of : (scripts : List Script) (i : ℕ) (x : Script) → slice_get scripts i ≡ Some x → slice_get (names_in scripts) i ≡ Some x.name
  name-of [] i x h = cc
  name-of (y ∷ ys) zero x h = cc
  name-of (y ∷ ys) (suc i) x h = name-of ys i x h

  -- the handler has begun, and its code goes on
  pub entered : (k : ℕ) (p : Program) (due : Due) (x : Script) (m : Processor W) (b : Processor W) → IsDue knows k p due m → slice_get p.scenario.now.scripts due.script.0 ≡ Some x → b.caches.processor ≡ m.caches.processor → Appends (log_of m) due.level (entry.Handler x.name) (log_of b) → b.running.items ≡ m.running.items ++ due ∷ [] → vec_capacity m.running ≤ vec_capacity b.running → length b.tables.items + 1 ≡ length m.tables.items → vec_capacity b.tables ≡ vec_capacity m.tables → All (BindsAll p.scenario.now.scripts) b.tables.items → IsAt knows StandsAt due.level p (turned m b)
  entered k p due x m b d i same a e v n w f =
      let s : Parts = p.scenario.now in
      let known : Known = known_of knows m in
      let dues = m.running.items ++ due ∷ [] in
      let inner : Position = position_of known.grace.processor s m.handlers.planned dues in
      let At : List Due → Type 0 = λ y. IfSome (log_of b) (StandsAt (position_of known.grace.processor s m.handlers.planned y)) in
      let here : At dues = told-more (λ es. (name : List ℕ) → slice_get (names_in s.scripts) due.script.0 ≡ Some name → StandsAt inner (es ++ (due.level, entry.Handler name) ∷ [])) (StandsAt inner) (log_of m) (log_of b) due.level (entry.Handler x.name) (λ es f. f x.name (name-of s.scripts due.script.0 x i)) a d.begins in
      let T : Log → Type 0 = Tells s known in
      let long = ap (λ (y : List Due). length y) e in
      let more = one-longer m.running.items due in
      let all = d.ready.tables in
      let above = d.above in
      let deep = d.deep in
      let room = d.ready.room_running in
      let room' = d.ready.room_tables in
      record {
        at = record {
          at = subst At (sym e) here;
          level = ap (λ (y : List Due). level_in (reverse y)) e ∙ ap level_in (innermost-first m.running.items due);
          deep = omega (arith, long, more, above, deep);
        };
        tells = told-more T T (log_of m) (log_of b) due.level (entry.Handler x.name) (λ es h. tells-inner s known es due.level (entry.Handler x.name) tt h) a d.tells;
        counts = counts-plain m.calls (lock_of p m) due.level (entry.Handler x.name) (log_of m) (log_of b) refl a d.counts;
        ready = ready-turned p m b same (omega (arith, long, more, all, n)) (omega (arith, v, room)) (omega (arith, w, room')) f d.ready;
      }

  -- behind the end of a handler that left its phrase
  tells-back : (s : Parts) (known : Known) (log : Log) (l : ℕ) (name : List ℕ) → Tells s known log → HasPhrase known.grace.processor l s name log → Tells s known (log ++ (l, entry.Back name) ∷ [])
  tells-back s known log l name t h =
      let p = known.grace.processor in
      let F : Log → Type 0 = λ es. HandlersDone s p (es ++ (l, entry.Back name) ∷ []) in
      let G : Log → Type 0 = λ es. HandlersDone s p es in
      record {
        done = subst F (sym h.log_is) (done-back s p h.front h.part l name (subst G h.log_is t.done) h.phrase h.runs);
        last = λ d. word-append d 0 log ((l, entry.Back name) ∷ []) ∙ t.last d;
      }

  -- the handler has gone back, and what it interrupted goes on
  pub left : (k : ℕ) (p : Program) (due : Due) (x : Script) (was m : Processor W) (b : Processor W) → IsDue knows k p due was → slice_get p.scenario.now.scripts due.script.0 ≡ Some x → IsAt knows StandsAt due.level p m → IfSome (log_of m) (HasPhrase (known_of knows m).grace.processor due.level p.scenario.now x.name) → b.caches.processor ≡ m.caches.processor → Appends (log_of m) due.level (entry.Back x.name) (log_of b) → m.running.items ≡ was.running.items ++ due ∷ [] → b.running.items ≡ was.running.items → vec_capacity b.running ≡ vec_capacity m.running → length b.tables.items ≡ length m.tables.items + 1 → vec_capacity m.tables ≤ vec_capacity b.tables → All (BindsAll p.scenario.now.scripts) b.tables.items → IsAt knows AboutTo k p (turned m b)
  left k p due x was m b d i g f same a e q v n w h =
      let s : Parts = p.scenario.now in
      let known : Known = known_of knows m in
      let dues = was.running.items in
      let At : List Due → Type 0 = λ y. IfSome (log_of b) (AboutTo (position_of known.grace.processor s m.handlers.planned y)) in
      let inner : Position = position_of known.grace.processor s m.handlers.planned m.running.items in
      let outer : Position = position_of known.grace.processor s m.handlers.planned dues in
      let runs : inner.running ≡ due ∷ reverse dues = ap (λ (y : List Due). reverse y) e ∙ innermost-first dues due in
      let here : At dues = told-more (StandsAt inner) (AboutTo outer) (log_of m) (log_of b) due.level (entry.Back x.name) (λ es u. returns-here inner es due (reverse dues) x.name runs (name-of s.scripts due.script.0 x i) u) a g.at.at in
      let T : Log → Type 0 = Tells s known in
      let P : Log → Type 0 = λ es. T es × HasPhrase known.grace.processor due.level s x.name es in
      let said : IfSome (log_of m) P = both (log_of m) (λ es u h. (u, h)) g.tells f in
      let long = ap (λ (y : List Due). length y) e in
      let long' = ap (λ (y : List Due). length y) q in
      let more = one-longer dues due in
      let all = g.ready.tables in
      let deep = d.deep in
      let room = g.ready.room_running in
      let room' = g.ready.room_tables in
      record {
        at = record {
          at = subst At (sym q) here;
          level = ap (λ (y : List Due). level_in (reverse y)) q ∙ d.level;
          deep = omega (arith, long', deep);
        };
        tells = told-more P T (log_of m) (log_of b) due.level (entry.Back x.name) (λ es h. tells-back s known es due.level x.name h.0 h.1) a said;
        counts = counts-plain m.calls (lock_of p m) due.level (entry.Back x.name) (log_of m) (log_of b) refl a g.counts;
        ready = ready-turned p m b same (omega (arith, long, long', more, all, n)) (omega (arith, v, room)) (omega (arith, w, room')) h g.ready;
      }

  -- the innermost one is taken off
  pub popped-is : (found : Option Due) (new old dues : List Due) (due : Due) (n k : ℕ) (P : Due → Type 0) → n ≡ length old → MatchOption found ((n ≡ 0) × (k ≡ 0)) P → old ≡ new ++ option_to_list found → old ≡ dues ++ due ∷ [] → new ≡ dues
  popped-is None new old dues due n k P q m e f = (let a = ap (λ (y : List Due). length y) f in let b = one-longer dues due in let z = m.0 in absurd (omega (arith, a, b, z, q)))
  popped-is (Some x) new old dues due n k P q m e f =
      let h : x ∷ reverse new ≡ due ∷ reverse dues = sym (innermost-first new x) ∙ ap (λ (y : List Due). reverse y) (sym e ∙ f) ∙ innermost-first dues due in
      sym (reverse-reverse new) ∙ ap (λ (y : List Due). reverse (drop 1 y)) h ∙ reverse-reverse dues
