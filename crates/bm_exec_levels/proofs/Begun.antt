-- Where code is, once a unit begins its life or ends it.
use Rattle.std.proofs.Common.{◌≡◌, ◌∙◌, ◌<◌, ◌+◌, ℕ, Bool, false, true, List, [], ◌∷◌, ◌++◌, Option, length, slice_get, Some, None, refl, sym, ap, subst, arith}
use Rattle.std.specs.Prelude.{◌%◌, ◌^◌, IfSome}
use Rattle.bm_journal.specs.declared.entry.Entry.{Entry}
use Rattle.bm_journal.specs.declared.entry.Entry.TheVariants as entry
use Rattle.bm_journal.specs.Recording.{Appends, Kept as Recorded}
use Rattle.bm_page.specs.UnitState.{UnitState}
use Rattle.bm_grace.specs.Known.{Known, Sides, side}
use Rattle.bm_law_scenario.specs.Handlers.{HandlersDone}
use Rattle.bm_journal.specs.declared.ids.Domain.{Domain}
use Rattle.bm_journal.specs.declared.ids.Domain.TheVariants.{Plain, Tracing}
use Rattle.bm_lang.specs.declared.scenario.Parts.{Parts}
use Rattle.bm_law.specs.Lists.{Log}
use Rattle.bm_cache.specs.declared.caches.Caches.{Caches}
use Rattle.bm_plan.specs.Position.{StandsAt}
use Rattle.bm_world.specs.Lives.{asked_once, life_acquired, life_begun, life_ended, life_given_up, slot_exchanged}
use Rattle.bm_journal.specs.declared.ids.ObjId.{ObjId}
use Rattle.bm_journal.specs.declared.ids.Tag.{Tag}
use Rattle.bm_lang.specs.declared.scenario.MapDeclaration.{MapDeclaration}
use Rattle.bm_lang.specs.declared.scenario.MapKind.TheVariants.{Slot as SlotKind}
use Rattle.bm_due.specs.Standing as standing
use Rattle.bm_due.specs.Standing.{kind_of}
use Rattle.bm_lang.specs.declared.scenario.MapId.{MapId}
use Rattle.bm_law_order.specs.Calls.{is_call, lock_after}
use Rattle.bm_law_scenario.specs.Calls.{IsCounted}
use Rattle.bm_law_scenario.specs.Declared.{Declared, declared_in}
use Rattle.bm_grace.specs.Known.{Living}
use Rattle.bm_exec.specs.Living.{IsMade, IsToPut, count_in, type_in}
use Rattle.bm_exec_levels.specs.Calling.{Reckons, call-counts, call-inner, call-stays, counts-locked, counts-more, is_marked, is_object_call, lock_name}
use Rattle.bm_exec_levels.specs.Slotted.{AreStocked, in_hands}
use Rattle.bm_exec_levels.proofs.Stocked.{stocked-acquired, stocked-begun, stocked-ended, stocked-exchanged, stocked-given-up}
use Rattle.bm_exec_levels.specs.AtProcessor.{IsAt, lock_of, log_of}
use Rattle.bm_exec_levels.specs.Growing.{IsInner, tells-inner}
use Rattle.bm_exec_levels.specs.Hosting.{at-say, with_caches, with_side}
use Rattle.bm_exec_levels.specs.Logged.{Tells}
use Rattle.bm_exec_levels.specs.Here.{Running}
use Rattle.bm_exec_levels.specs.Ready.{IsReady, asked_of, known_of, word_of}
use Rattle.bm_exec_levels.specs.Turns.{stands-say, told-more}
use Rattle.bm_exec_levels.specs.declared.processor.Processor.{Processor}
use Rattle.bm_exec_levels.specs.declared.program.Program.{Program}
use Rattle.bm_grace.specs.declared.grace.Knows.{Ghosts as Knows}

-- the words of what knows the same of grace periods
pub same-words : (a b : Known) → b.grace ≡ a.grace → (d : Domain) → (side d b).word ≡ (side d a).word
same-words a b e Plain = ap (λ (s : Sides). s.plain.word) e
same-words a b e Tracing = ap (λ (s : Sides). s.tracing.word) e

-- what it tells, where the words are the same
tells-same : (s : Parts) (k n : Known) (o : Option Log) → n.grace ≡ k.grace → IfSome o (Tells s k) → IfSome o (Tells s n)
tells-same s k n None g t = tt
tells-same s k n (Some es) g t = record { done = (let F : ℕ → Type 0 = λ p. HandlersDone s p es in subst F (sym (ap (λ (x : Sides). x.processor) g)) t.done); last = λ d. t.last d ∙ sym (same-words k n g d) }

-- what lives and what slots hold, where one more call is counted
pub stocked-once : (d : Declared) (k : Known) → AreStocked d k.objects → AreStocked d (asked_once k).objects
stocked-once d k a = record { names = a.names; graphs = a.graphs; kinds = a.kinds; unused = a.unused; still = a.still; kept = a.kept; stocked = a.stocked; items = a.items }

module _ {W : Type 0} (knows : Knows W) where
  -- what lives, and what slots hold, is as the program has it
  abbrev pub StockedAt : Program → W → Type 0
  StockedAt p w = AreStocked (declared_in p.scenario.now) (knows.known w).objects

  -- another side of the same grace periods, on which so many more calls were counted
  ready-asked : (p : Program) (m : Processor W) (w : W) (n : ℕ) → (knows.known w).grace ≡ (known_of knows m).grace → (knows.known w).objects.asked ≡ (known_of knows m).objects.asked + n → asked_of knows p.scenario.now m + n < 2 ^ 22 → StockedAt p w → IsReady knows p m → IsReady knows p (with_side m w)
  ready-asked p m w n g more room stocked r =
      let word : word_of knows Plain (with_side m w) ≡ word_of knows Plain m = same-words (known_of knows m) (knows.known w) g Plain in
      record {
        fits = r.fits;
        here = r.here ∙ sym (ap (λ (x : Sides). x.processor) g);
        scripts = r.scripts;
        planned = r.planned;
        bound = r.bound;
        tables = r.tables;
        room_running = r.room_running;
        room_tables = r.room_tables;
        asks = omega (arith, more, room);
        words = (let h = r.words in omega (arith, h, word));
        inside = ap (λ n. n % 2) word ∙ r.inside;
        calls = (let c = r.calls in omega (arith, c, more));
        stocked = stocked;
      }

  -- it is there still
  pub at-graced : (l : ℕ) (p : Program) (m : Processor W) (w : W) (n : ℕ) → (knows.known w).grace ≡ (known_of knows m).grace → (knows.known w).objects.asked ≡ (known_of knows m).objects.asked + n → asked_of knows p.scenario.now m + n < 2 ^ 22 → StockedAt p w → IsAt knows StandsAt l p m → IsAt knows StandsAt l p (with_side m w)
  at-graced l p m w n g more room stocked s =
      let F : ℕ → Type 0 = λ n. Running StandsAt l n p.scenario.now m.handlers.planned m.running.items (log_of m) in
      record {
        at = subst F (sym (ap (λ (x : Sides). x.processor) g)) s.at;
        tells = tells-same p.scenario.now (known_of knows m) (knows.known w) (log_of m) g s.tells;
        counts = s.counts;
        ready = ready-asked p m w n g more room stocked s.ready;
      }

  -- of a side on which no more calls were counted
  at-uncounted : (l : ℕ) (p : Program) (m : Processor W) (w : W) → (knows.known w).grace ≡ (known_of knows m).grace → (knows.known w).objects.asked ≡ (known_of knows m).objects.asked → StockedAt p w → IsAt knows StandsAt l p m → IsAt knows StandsAt l p (with_side m w)
  at-uncounted l p m w g same stocked s = (let h = s.ready.asks in at-graced l p m w 0 g (omega (arith, same)) (omega (arith, h)) stocked s)

  -- the unit that was given has begun its life
  pub at-begun : (l : ℕ) (p : Program) (m : Processor W) (w : W) (type : ℕ) (values : List ℕ) (u : UnitState) → knows.known w ≡ life_begun type values u (known_of knows m) → (known_of knows m).objects.lives u.number ≡ None → IsMade p.scenario.now.types u.class type values → asked_of knows p.scenario.now m + 1 < 2 ^ 22 → IsAt knows StandsAt l p m → IsAt knows StandsAt l p (with_side m w)
  at-begun l p m w type values u e none made room s =
      at-graced l p m w 1 (ap (λ (x : Known). x.grace) e) (ap (λ (x : Known). x.objects.asked) e) room
      (subst (λ (x : Known). AreStocked (declared_in p.scenario.now) x.objects) (sym e) (stocked-begun (declared_in p.scenario.now) (known_of knows m) type values u s.ready.stocked none made)) s

  -- a call was counted, and its entry recorded
  pub at-called : (l : ℕ) (p : Program) (m k : Processor W) (e : Entry) → is_object_call e ≡ true → known_of knows k ≡ asked_once (known_of knows m) → k ≡ record m { caches = k.caches; side = k.side; calls = m.calls + 1 } → asked_of knows p.scenario.now m + 1 < 2 ^ 22 → k.caches.processor ≡ m.caches.processor → Appends (log_of m) l e (log_of k) → IsAt knows StandsAt l p m → IsAt knows StandsAt l p k
  at-called l p m k e call q same room pr x s =
      let w : W = k.side in
      let n : Known = known_of knows m in
      let mid : IsAt knows StandsAt l p (with_side m w) = at-graced l p m w 1 (ap (λ (x : Known). x.grace) q) (ap (λ (x : Known). x.objects.asked) q) room
      (subst (λ (x : Known). AreStocked (declared_in p.scenario.now) x.objects) (sym q) (stocked-once (declared_in p.scenario.now) n s.ready.stocked)) s in
      let v : Known = knows.known w in
      let r = mid.ready in
      let F : Processor W → Type 0 = λ y. IsAt knows StandsAt l p y in
      subst F (sym same) (record {
        at = stands-say l v.grace.processor p.scenario.now m.handlers.planned m.running.items (log_of m) (log_of k) e (call-stays e call) x mid.at;
        tells = told-more (Tells p.scenario.now v) (Tells p.scenario.now v) (log_of m) (log_of k) l e (λ es h. tells-inner p.scenario.now v es l e (call-inner e call) h) x mid.tells;
        counts = counts-more m.calls (lock_of p m) l e (log_of m) (log_of k) (call-counts e call) x s.counts;
        ready = record {
          fits = r.fits;
          here = pr ∙ r.here;
          scripts = r.scripts;
          planned = r.planned;
          bound = r.bound;
          tables = r.tables;
          room_running = r.room_running;
          room_tables = r.room_tables;
          asks = r.asks;
          words = r.words;
          inside = r.inside;
          calls = (let c = s.ready.calls in let a = ap (λ (x : Known). x.objects.asked) q in omega (arith, c, a));
          stocked = r.stocked;
        };
      })

  -- one more reference was asked for
  pub at-acquired : (l : ℕ) (p : Program) (m : Processor W) (w : W) (n : ℕ) (h : Living) → knows.known w ≡ life_acquired n (known_of knows m) → in_hands (known_of knows m).objects n ≡ Some h → IsCounted p.scenario.now.types (type_in (in_hands (known_of knows m).objects n)) → asked_of knows p.scenario.now m + 1 < 2 ^ 22 → IsAt knows StandsAt l p m → IsAt knows StandsAt l p (with_side m w)
  at-acquired l p m w n h e held counted room s =
      at-graced l p m w 1 (ap (λ (x : Known). x.grace) e) (ap (λ (x : Known). x.objects.asked) e) room
      (subst (λ (x : Known). AreStocked (declared_in p.scenario.now) x.objects) (sym e) (stocked-acquired (declared_in p.scenario.now) (known_of knows m) n h s.ready.stocked held counted)) s

  -- one was given up, and others are left
  pub at-given-up : (l : ℕ) (p : Program) (m : Processor W) (w : W) (n : ℕ) (h : Living) → knows.known w ≡ life_given_up n (known_of knows m) → in_hands (known_of knows m).objects n ≡ Some h → 1 < count_in ((known_of knows m).objects.lives n) → IsAt knows StandsAt l p m → IsAt knows StandsAt l p (with_side m w)
  at-given-up l p m w n h e held others s =
      at-uncounted l p m w (ap (λ (x : Known). x.grace) e) (ap (λ (x : Known). x.objects.asked) e)
      (subst (λ (x : Known). AreStocked (declared_in p.scenario.now) x.objects) (sym e) (stocked-given-up (declared_in p.scenario.now) (known_of knows m) n h s.ready.stocked held others)) s

  -- the last one was given up, and the life has ended
  pub at-ended : (l : ℕ) (p : Program) (m : Processor W) (w : W) (n : ℕ) (h : Living) → knows.known w ≡ life_ended n (known_of knows m) → in_hands (known_of knows m).objects n ≡ Some h → count_in ((known_of knows m).objects.lives n) ≡ 1 → IsAt knows StandsAt l p m → IsAt knows StandsAt l p (with_side m w)
  at-ended l p m w n h e held only s =
      at-uncounted l p m w (ap (λ (x : Known). x.grace) e) (ap (λ (x : Known). x.objects.asked) e)
      (subst (λ (x : Known). AreStocked (declared_in p.scenario.now) x.objects) (sym e) (stocked-ended (declared_in p.scenario.now) (known_of knows m) n h s.ready.stocked held only)) s

  -- what a slot held was exchanged
  pub at-exchanged : (l : ℕ) (p : Program) (m : Processor W) (w : W) (place : ℕ) (put : Option ObjId) (tag : Tag) (slot : MapDeclaration) → knows.known w ≡ slot_exchanged place put tag (known_of knows m) → place < length (known_of knows m).objects.slots → slice_get p.scenario.now.maps place ≡ Some slot → slot.kind ≡ SlotKind → IsToPut slot.type_id.0 (in_hands (known_of knows m).objects) put → IsAt knows StandsAt l p m → IsAt knows StandsAt l p (with_side m w)
  at-exchanged l p m w place put tag slot e lt found kind held s =
      at-uncounted l p m w (ap (λ (x : Known). x.grace) e) (ap (λ (x : Known). x.objects.asked) e)
      (subst (λ (x : Known). AreStocked (declared_in p.scenario.now) x.objects) (sym e) (stocked-exchanged (declared_in p.scenario.now) (known_of knows m).objects place (record { held = put; by = Some tag }) s.ready.stocked lt slot found held kind)) s

  -- an entry that is no call
  pub at-noted : (l : ℕ) (p : Program) (m : Processor W) (z : Caches Recorded) (e : Entry) → kind_of e ≡ standing.Stays → IsInner e → is_marked e ≡ false → z.processor ≡ m.caches.processor → Appends (log_of m) l e z.recorder.told → IsAt knows StandsAt l p m → IsAt knows StandsAt l p (with_caches m z)
  at-noted l p m z e k i none same x s = at-say knows l p m z e k i none same x s

  -- a lock is taken, or given back
  pub at-locked : (l : ℕ) (p : Program) (m : Processor W) (z : Caches Recorded) (k : Option MapId) (e : Entry) → kind_of e ≡ standing.Stays → IsInner e → is_call e ≡ false → lock_after (lock_of p m) e ≡ lock_name p.scenario.now.maps k → z.processor ≡ m.caches.processor → Appends (log_of m) l e z.recorder.told → IsAt knows StandsAt l p m → IsAt knows StandsAt l p (record m { caches = z; locked = k })
  at-locked l p m z k e stays inner none lock same a s =
      let n : Known = known_of knows m in
      let r = s.ready in
      let K : Option (List ℕ) → Type 0 = λ x. IfSome z.recorder.told (Reckons m.calls x) in
      record {
        at = stands-say l n.grace.processor p.scenario.now m.handlers.planned m.running.items (log_of m) z.recorder.told e stays a s.at;
        tells = told-more (Tells p.scenario.now n) (Tells p.scenario.now n) (log_of m) z.recorder.told l e (λ es h. tells-inner p.scenario.now n es l e inner h) a s.tells;
        counts = subst K lock (counts-locked m.calls (lock_of p m) l e (log_of m) z.recorder.told none a s.counts);
        ready = record {
          fits = r.fits;
          here = same ∙ r.here;
          scripts = r.scripts;
          planned = r.planned;
          bound = r.bound;
          tables = r.tables;
          room_running = r.room_running;
          room_tables = r.room_tables;
          asks = r.asks;
          words = r.words;
          inside = r.inside;
          calls = r.calls;
          stocked = r.stocked;
        };
      }

  -- a list or tree was called
  pub at-graphed : (l : ℕ) (p : Program) (m : Processor W) (w : W) → (knows.known w).grace ≡ (known_of knows m).grace → (knows.known w).objects.asked ≡ (known_of knows m).objects.asked → StockedAt p w → IsAt knows StandsAt l p m → IsAt knows StandsAt l p (with_side m w)
  at-graphed l p m w g a stocked s = at-uncounted l p m w g a stocked s
