-- What the machine of a level keeps while its caches or its side change.
use Rattle.std.specs.Prelude.{◌≡◌, ◌<◌, ◌%◌, ◌^◌, ℕ, ◌+◌, ◌*◌, true, false, length, Option, Some, None, IfSome}
use Rattle.std.proofs.Common.{refl, sym, ap, ◌∙◌, subst, arith}
use Rattle.bm_journal.specs.declared.ids.Domain.{Domain}
use Rattle.bm_journal.specs.declared.ids.Domain.TheVariants.{Plain, Tracing}
use Rattle.bm_journal.specs.declared.entry.Entry.{Entry}
use Rattle.bm_journal.specs.Recording.{Appends, Kept as Recorded}
use Rattle.bm_due.specs.Standing as standing
use Rattle.bm_due.specs.Standing.{kind_of}
use Rattle.bm_grace.specs.Known.{Known, Objects}
use Rattle.bm_law_order.specs.Graphs.{graph_names_in}
use Rattle.bm_law_scenario.specs.Handlers.{HandlersDone}
use Rattle.bm_law_scenario.specs.Declared.{declared_in}
use Rattle.bm_exec_levels.specs.Calling.{Reckons, counts-plain, is_marked, no-call-free, no-call-given, no-call-reply, no-call-step}
use Rattle.bm_exec_levels.specs.Slotted.{AreStocked, in_hands, items_in}
use Rattle.bm_lang.specs.declared.scenario.MapId.{MapId}
use Rattle.bm_lang.specs.declared.scenario.Parts.{Parts}
use Rattle.bm_law.specs.Lists.{Log}
use Rattle.bm_law.specs.Phrases.{given}
use Rattle.bm_cache.specs.Steps.{is_free, is_reply, is_step}
use Rattle.bm_cache.specs.declared.caches.Caches.{Caches}
use Rattle.bm_work.specs.Goes.{Alike, GoesOn}
use Rattle.bm_plan.specs.Position.{AskedAt, Position, StandsAt}
use Rattle.bm_exec_levels.specs.AtProcessor.{IsAt, SameItems, SameLives, Stays, lock_of, log_of}
use Rattle.bm_exec_levels.specs.Growing.{inner-free, inner-given, inner-reply, inner-step, IsInner, tells-inner}
use Rattle.bm_exec_levels.specs.Here.{Running}
use Rattle.bm_exec_levels.specs.Logged.{Tells}
use Rattle.bm_exec_levels.specs.Ready.{IsReady, asked_of, known_of, left_cost, left_of, word_of}
use Rattle.bm_exec_levels.specs.Turns.{a-free, a-given, a-reply, running-same, stands-say, stands-step, told-more}
use Rattle.bm_exec_levels.specs.declared.processor.Processor.{Processor}
use Rattle.bm_exec_levels.specs.declared.program.Program.{Program}
use Rattle.bm_grace.specs.declared.grace.Knows.{Ghosts as Knows}

-- the processor with other caches, and with another side
abbrev pub with_caches : {W : Type 0} → Processor W → Caches Recorded → Processor W
with_caches m c = record m { caches = c }

abbrev pub with_side : {W : Type 0} → Processor W → W → Processor W
with_side m w = record m { side = w }

tells-sided :
    (s : Parts) (k n : Known) (o : Option Log) → Alike k n → IfSome o (Tells s k)
    → IfSome o (Tells s n)
tells-sided s k n None a h = tt
tells-sided s k n (Some es) a h =
    record {
      done =
          (let F : ℕ → Type 0 = λ p. HandlersDone s p es in subst F (sym a.processor) h.done);
      last = λ d. h.last d ∙ sym (a.words d);
    }

pub goes-joined : (a b c : Known) → GoesOn a b → GoesOn b c → GoesOn a c
goes-joined a b c x y = record {
  processors = y.processors ∙ x.processors;
  processor = y.processor ∙ x.processor;
  words = λ d. y.words d ∙ x.words d;
  number = λ d. y.number d ∙ x.number d;
  first = λ d. y.first d ∙ x.first d;
  later = λ d. y.later d ∙ x.later d;
  begins = λ d. y.begins d ∙ x.begins d;
  seen = λ d. (let v = x.seen d in let w = y.seen d in omega (arith, v, w));
}

module _ {W : Type 0} (knows : Knows W) where
  -- ---- other caches

  pub ready-caches :
      (p : Program) (m : Processor W) (c : Caches Recorded) → c.processor ≡ m.caches.processor
      → IsReady knows p m → IsReady knows p (with_caches m c)
  ready-caches p m c same r = record {
    fits = r.fits;
    here = same ∙ r.here;
    scripts = r.scripts;
    planned = r.planned;
    bound = r.bound;
    tables = r.tables;
    room_running = r.room_running;
    room_tables = r.room_tables;
    asks = r.asks;
    words = r.words;
    inside = r.inside;
    calls = r.calls;
    stocked = r.stocked;
  }

  pub at-same :
      (P : Position → Log → Type 0) (l : ℕ) (p : Program) (m : Processor W) (c : Caches Recorded)
      → c.processor ≡ m.caches.processor → c.recorder.told ≡ log_of m → IsAt knows P l p m
      → IsAt knows P l p (with_caches m c)
  at-same P l p m c same e s =
      let F : Option Log → Type 0 = λ o. IfSome o (Tells p.scenario.now (known_of knows m)) in
      record {
        at = running-same P l _ _ _ _ _ _ e s.at;
        tells = subst F (sym e) s.tells;
        counts =
            (let G : Option Log → Type 0 = λ o. IfSome o (Reckons m.calls (lock_of p m)) in
            subst G (sym e) s.counts);
        ready = ready-caches p m c same s.ready;
      }

  -- a step that was asked for
  pub at-stepped :
      (l : ℕ) (p : Program) (m : Processor W) (c : Caches Recorded) (e : Entry) → is_step e ≡ true
      → c.processor ≡ m.caches.processor → Appends (log_of m) l e c.recorder.told
      → IsAt knows AskedAt l p m → IsAt knows StandsAt l p (with_caches m c)
  at-stepped l p m c e i same a s =
      let k : Known = known_of knows m in
      let T : Log → Type 0 = Tells p.scenario.now k in
      record {
        at = stands-step l _ _ _ _ _ _ e i a s.at;
        tells =
            told-more T T (log_of m) c.recorder.told l e
            (λ es h. tells-inner p.scenario.now k es l e (inner-step e i) h) a s.tells;
        counts =
            counts-plain m.calls (lock_of p m) l e (log_of m) c.recorder.told (no-call-step e i) a
            s.counts;
        ready = ready-caches p m c same s.ready;
      }

  -- an entry that is no step and no call
  pub at-say :
      (l : ℕ) (p : Program) (m : Processor W) (c : Caches Recorded) (e : Entry)
      → kind_of e ≡ standing.Stays → IsInner e → is_marked e ≡ false
      → c.processor ≡ m.caches.processor → Appends (log_of m) l e c.recorder.told
      → IsAt knows StandsAt l p m → IsAt knows StandsAt l p (with_caches m c)
  at-say l p m c e k i none same a s =
      let n : Known = known_of knows m in
      record {
        at = stands-say l _ _ _ _ _ _ e k a s.at;
        tells =
            told-more (Tells p.scenario.now n) (Tells p.scenario.now n) (log_of m) c.recorder.told l
            e (λ es h. tells-inner p.scenario.now n es l e i h) a s.tells;
        counts = counts-plain m.calls (lock_of p m) l e (log_of m) c.recorder.told none a s.counts;
        ready = ready-caches p m c same s.ready;
      }

  pub at-said :
      (l : ℕ) (p : Program) (m : Processor W) (c : Caches Recorded) (e : Entry) → is_reply e ≡ true
      → c.processor ≡ m.caches.processor → Appends (log_of m) l e c.recorder.told
      → IsAt knows StandsAt l p m → IsAt knows StandsAt l p (with_caches m c)
  at-said l p m c e i = at-say l p m c e (a-reply e i) (inner-reply e i) (no-call-reply e i)

  pub at-gave :
      (l : ℕ) (p : Program) (m : Processor W) (c : Caches Recorded) (u life : ℕ)
      (seal : Option (ℕ × ℕ)) → c.processor ≡ m.caches.processor
      → Appends (log_of m) l (given u life seal) c.recorder.told → IsAt knows StandsAt l p m
      → IsAt knows StandsAt l p (with_caches m c)
  at-gave l p m c u life seal =
      at-say l p m c (given u life seal) (a-given u life seal) (inner-given u life seal)
      (no-call-given u life seal)

  pub at-freed :
      (l : ℕ) (p : Program) (m : Processor W) (c : Caches Recorded) (e : Entry) (u home : ℕ)
      → is_free u home e ≡ true → c.processor ≡ m.caches.processor
      → Appends (log_of m) l e c.recorder.told → IsAt knows StandsAt l p m
      → IsAt knows StandsAt l p (with_caches m c)
  at-freed l p m c e u home i =
      at-say l p m c e (a-free u home e i) (inner-free u home e i) (no-call-free u home e i)

  pub stays-caches :
      (p : Program) (m : Processor W) (c : Caches Recorded) → Stays knows 0 0 p m (with_caches m c)
  stays-caches p m c = record {
    settled = refl;
    locked = refl;
    running = refl;
    tables = refl;
    inside = refl;
    asks_most = omega arith;
    words_most = omega arith;
    parity = λ d. refl;
    inner = λ h. refl;
    tracing = refl;
    processors = refl;
    processor = refl;
  }

  pub stays-same : (p : Program) (m : Processor W) → Stays knows 0 0 p m m
  stays-same p m = stays-caches p m m.caches

  -- ---- another side

  -- what is asked for and told of sections is as it was
  same-asked :
      (p : Program) (m : Processor W) (w : W) → Alike (known_of knows m) (knows.known w)
      → asked_of knows p.scenario.now (with_side m w) ≡ asked_of knows p.scenario.now m
  same-asked p m w a =
      ap (λ (o : Objects). o.asked + m.settled + left_cost p.scenario.now (left_of m)) a.objects

  same-word :
      (d : Domain) (m : Processor W) (w : W) → Alike (known_of knows m) (knows.known w)
      → word_of knows d (with_side m w) ≡ word_of knows d m
  same-word d m w a = a.words d

  ready-sided :
      (p : Program) (m : Processor W) (w : W) → Alike (known_of knows m) (knows.known w)
      → IsReady knows p m → IsReady knows p (with_side m w)
  ready-sided p m w a r =
      let q = same-asked p m w a in
      let n = same-word Plain m w a in
      record {
        fits = r.fits;
        here = r.here ∙ sym a.processor;
        scripts = r.scripts;
        planned = r.planned;
        bound = r.bound;
        tables = r.tables;
        room_running = r.room_running;
        room_tables = r.room_tables;
        asks = (let F : ℕ → Type 0 = λ k. k < 2 ^ 22 in subst F (sym q) r.asks);
        words =
            (let F : ℕ → Type 0 = λ k. k + 2 * length (left_of m) < 2 ^ 28 in
            subst F (sym n) r.words);
        inside = ap (λ k. k % 2) n ∙ r.inside;
        calls =
            (let o = ap (λ (x : Objects). x.asked) a.objects in
            let c = r.calls in omega (arith, o, c));
        stocked = subst (AreStocked (declared_in p.scenario.now)) (sym a.objects) r.stocked;
      }

  pub at-sided :
      (P : Position → Log → Type 0) (l : ℕ) (p : Program) (m : Processor W) (w : W)
      → Alike (known_of knows m) (knows.known w) → IsAt knows P l p m
      → IsAt knows P l p (with_side m w)
  at-sided P l p m w a s =
      let F : ℕ → Type 0 =
      λ n. Running P l n p.scenario.now m.handlers.planned m.running.items (log_of
      m) in
      record {
        at = subst F (sym a.processor) s.at;
        tells = tells-sided p.scenario.now (known_of knows m) (knows.known w) (log_of m) a s.tells;
        counts = s.counts;
        ready = ready-sided p m w a s.ready;
      }

  pub stays-sided :
      (p : Program) (m : Processor W) (w : W) → Alike (known_of knows m) (knows.known w)
      → Stays knows 0 0 p m (with_side m w)
  stays-sided p m w a =
      let q = same-asked p m w a in
      let n = same-word Plain m w a in
      record {
        settled = refl;
        locked = refl;
        running = refl;
        tables = refl;
        inside = refl;
        asks_most = omega (arith, q);
        words_most = omega (arith, n);
        parity = λ d. ap (λ k. k % 2) (same-word d m w a);
        inner = λ h. n;
        tracing = same-word Tracing m w a;
        processors = a.processors;
        processor = a.processor;
      }

  -- ---- one after the other

  -- of one program
  pub stays-join :
      (i j k n : ℕ) (p : Program) (a b c : Processor W) → Stays knows i j p a b
      → Stays knows k n p b c → Stays knows (i + k) (j + n) p a c
  stays-join i j k n p a b c x y = record {
    settled = y.settled ∙ x.settled;
    locked = y.locked ∙ x.locked;
    running = y.running ∙ x.running;
    tables = y.tables ∙ x.tables;
    inside = y.inside ∙ x.inside;
    asks_most = (let v = x.asks_most in let w = y.asks_most in omega (arith, v, w));
    words_most = (let v = x.words_most in let w = y.words_most in omega (arith, v, w));
    parity = λ d. y.parity d ∙ x.parity d;
    inner = λ h. y.inner (x.parity Plain ∙ h) ∙ x.inner h;
    tracing = y.tracing ∙ x.tracing;
    processors = y.processors ∙ x.processors;
    processor = y.processor ∙ x.processor;
  }

  pub stays-joined :
      (p q : Program) (a b c : Processor W) → q ≡ p → Stays knows 0 0 p a b → Stays knows 0 0 q b c
      → Stays knows 0 0 p a c
  stays-joined p q a b c e x y =
      (let F : Program → Type 0 = λ r. Stays knows 0 0 r b c in
      stays-join 0 0 0 0 p a b c x (subst F e y))

  -- the lock is said of apart
  pub stays-locked :
      (k : Option MapId) (i j : ℕ) (p : Program) (a b : Processor W) → Stays knows i j p a b
      → Stays knows i j p (record a { locked = k }) (record b { locked = k })
  stays-locked k i j p a b x = record {
    settled = x.settled;
    locked = refl;
    running = x.running;
    tables = x.tables;
    inside = x.inside;
    asks_most = x.asks_most;
    words_most = x.words_most;
    parity = x.parity;
    inner = x.inner;
    tracing = x.tracing;
    processors = x.processors;
    processor = x.processor;
  }

  -- ---- what names hold, and what is in lists and trees

  pub items-joined :
      (a b c : Processor W) → SameItems knows a b → SameItems knows b c → SameItems knows a c
  items-joined a b c x y = record { graphs = y.graphs ∙ x.graphs; items = y.items ∙ x.items }

  pub lives-same : (m : Processor W) → SameLives knows m m
  lives-same m = (refl, record { graphs = refl; items = refl })

  pub lives-cached : (m : Processor W) (c : Caches Recorded) → SameLives knows m (with_caches m c)
  lives-cached m c = (refl, record { graphs = refl; items = refl })

  pub lives-joined :
      (a b c : Processor W) → SameLives knows a b → SameLives knows b c → SameLives knows a c
  lives-joined a b c x y = (y.0 ∙ x.0, items-joined a b c x.1 y.1)

  pub lives-sided :
      (m : Processor W) (w : W) → Alike (known_of knows m) (knows.known w)
      → SameLives knows m (with_side m w)
  lives-sided m w a = (
    ap in_hands a.objects,
    record
        { graphs = ap (λ (o : Objects). o.graphs) a.objects; items = ap items_in a.objects },
  )

  pub names-sided :
      (m : Processor W) (w : W) → Alike (known_of knows m) (knows.known w)
      → graph_names_in (knows.known w).objects.graphs
      ≡ graph_names_in (known_of knows m).objects.graphs
  names-sided m w a = ap (λ (o : Objects). graph_names_in o.graphs) a.objects
