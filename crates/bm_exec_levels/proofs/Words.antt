-- A processor whose section of a domain begins or ends.
use Rattle.std.proofs.Common.{◌≡◌, ◌≤◌, ◌<◌, ◌+◌, ◌∙◌, ℕ, Bool, false, List, [], ◌∷◌, ◌++◌, refl, sym, ap, subst, arith}
use Rattle.std.specs.Prelude.{◌*◌, ◌%◌, ◌^◌, if◌then◌else◌, length}
use Rattle.bm_journal.specs.declared.ids.Domain.{Domain}
use Rattle.bm_journal.specs.declared.ids.Domain.TheVariants.{Plain, Tracing}
use Rattle.bm_journal.specs.declared.entry.Entry.{Entry}
use Rattle.bm_journal.specs.declared.entry.Entry.TheVariants as entry
use Rattle.bm_journal.specs.Recording.{Appends, Kept as Recorded}
use Rattle.bm_lang.specs.declared.scenario.Parts.{Parts}
use Rattle.bm_grace.specs.Calls.{moved}
use Rattle.bm_grace.specs.Known.{Known, Objects, side}
use Rattle.bm_law_scenario.specs.Handlers.{HandlersDone}
use Rattle.bm_law_scenario.specs.Declared.{declared_in}
use Rattle.bm_exec_levels.specs.Calling.{counts-plain, is_marked}
use Rattle.bm_exec_levels.specs.Slotted.{AreStocked}
use Rattle.bm_grace.specs.declared.step.StepKind.{StepKind}
use Rattle.bm_law.specs.Begun.{for_domain}
use Rattle.bm_law.specs.Lists.{Log}
use Rattle.bm_cache.specs.Shown.{shown}
use Rattle.bm_cache.specs.Span.{Came}
use Rattle.bm_cache.specs.Tests.{Tests}
use Rattle.bm_due.specs.Standing as standing
use Rattle.bm_due.specs.Standing.{kind_of}
use Rattle.bm_law_lives.specs.SectionWords.{word_next}
use Rattle.bm_law_scenario.proofs.GoneBack.{done-grow}
use Rattle.bm_law_lives.proofs.Words.{word-append}
use Rattle.bm_plan.specs.Position.{StandsAt}
use Rattle.bm_exec_levels.specs.AtProcessor.{CameAt, IsAt, lock_of, log_of, tests_of}
use Rattle.bm_exec_levels.specs.Here.{Running}
use Rattle.bm_exec_levels.specs.Logged.{Tells}
use Rattle.bm_exec_levels.specs.Ready.{known_of, left_of, word_of}
use Rattle.bm_exec_levels.specs.Turns.{stands-say, told-more}
use Rattle.bm_exec_levels.specs.declared.processor.Processor.{Processor}
use Rattle.bm_exec_levels.specs.declared.program.Program.{Program}
use Rattle.bm_grace.specs.Rights.{AsBefore}
use Rattle.bm_exec_levels.proofs.Lifetimes.{tests-before}
use Rattle.bm_exec_levels.proofs.Noted.{came-noted}
use Rattle.bm_grace.specs.declared.grace.Knows.{Ghosts as Knows}

-- It names the next word of a domain.
pub record NamesWord (d : Domain) (w : ℕ) (e : Entry) : Type 0 where
  pub kind : kind_of e ≡ standing.Stays
  pub no_back : (name : List ℕ) → e ≡ entry.Back name → ⊥
  pub no_call : is_marked e ≡ false
  pub next : word_next d w e ≡ w + 1
  pub next_other : (o : Domain) (v : ℕ) → (o ≡ d → ⊥) → word_next o v e ≡ v

for-same : (d : Domain) (n v : ℕ) → for_domain d d n v ≡ n
for-same Plain n v = refl
for-same Tracing n v = refl

for-other : (o d : Domain) (n v : ℕ) → (o ≡ d → ⊥) → for_domain o d n v ≡ v
for-other Plain Plain n v ne = absurd (ne refl)
for-other Plain Tracing n v ne = refl
for-other Tracing Plain n v ne = refl
for-other Tracing Tracing n v ne = absurd (ne refl)

pub names-in : (d : Domain) (w : ℕ) → NamesWord d w (entry.In d (w + 1))
names-in d w = record {
  kind = refl;
  no_back = λ name e. cc;
  no_call = refl;
  next = for-same d (w + 1) w;
  next_other = λ o v ne. for-other o d (w + 1) v ne;
}

pub names-out : (d : Domain) (w : ℕ) → NamesWord d w (entry.Out d (w + 1))
names-out d w = record {
  kind = refl;
  no_back = λ name e. cc;
  no_call = refl;
  next = for-same d (w + 1) w;
  next_other = λ o v ne. for-other o d (w + 1) v ne;
}

-- the words of both domains where that of one moved, and an entry names it
moved-named : (kind : StepKind) (tells : Bool) (d o : Domain) (k : Known) (e : Entry) → NamesWord d (side d k).word e → word_next o (side o k).word e ≡ (side o (moved kind tells d k)).word
moved-named kind tells Plain Plain k e names = names.next
moved-named kind tells Plain Tracing k e names = names.next_other Tracing (side Tracing k).word (λ q. cc)
moved-named kind tells Tracing Plain k e names = names.next_other Plain (side Plain k).word (λ q. cc)
moved-named kind tells Tracing Tracing k e names = names.next

-- the word that moved is another one than the processor's number
pub moved-grace : (kind : StepKind) (tells : Bool) (d : Domain) (k : Known) → ((moved kind tells d k).grace.processor ≡ k.grace.processor) × ((moved kind tells d k).grace.processors ≡ k.grace.processors)
moved-grace kind tells Plain k = (refl, refl)
moved-grace kind tells Tracing k = (refl, refl)

-- what the log tells, where the side's word of a domain moved and the entry names it
pub tells-moved : (kind : StepKind) (tells : Bool) (d : Domain) (s : Parts) (k n : Known) (log : Log) (l : ℕ) (e : Entry) → n ≡ moved kind tells d k → NamesWord d (side d k).word e → Tells s k log → Tells s n (log ++ (l, e) ∷ [])
tells-moved kind tells d s k n log l e q names t =
    let F : Known → Type 0 = λ x. Tells s x (log ++ (l, e) ∷ []) in
    subst F (sym q) (record {
      done = (let G : ℕ → Type 0 = λ p. HandlersDone s p (log ++ (l, e) ∷ []) in subst G (sym (moved-grace kind tells d k).0) (done-grow s k.grace.processor log l e names.no_back t.done));
      last = λ o. word-append o 0 log ((l, e) ∷ []) ∙ ap (λ w. word_next o w e) (t.last o) ∙ moved-named kind tells d o k e names;
    })

-- the plain word moved at most once
plain-most : (kind : StepKind) (tells : Bool) (d : Domain) (k : Known) → (side Plain (moved kind tells d k)).word ≤ (side Plain k).word + 1
plain-most kind tells Plain k = omega arith
plain-most kind tells Tracing k = omega arith

-- whether the processor is in a plain section
inside-moved : (kind : StepKind) (tells : Bool) (d : Domain) (k n : Known) (a b c : Bool) → n ≡ moved kind tells d k → (side d n).word % 2 ≡ (if b then 1 else 0) → c ≡ for_domain Plain d b a → (side Plain k).word % 2 ≡ (if a then 1 else 0) → (side Plain n).word % 2 ≡ (if c then 1 else 0)
inside-moved kind tells Plain k n a b c q h e r = h ∙ ap (λ (x : Bool). if x then 1 else 0) (sym e)
inside-moved kind tells Tracing k n a b c q h e r = ap (λ (x : Known). (side Plain x).word % 2) q ∙ (r ∙ ap (λ (x : Bool). if x then 1 else 0) (sym e))

pub moved-here : (kind : StepKind) (tells : Bool) (d : Domain) (k : Known) → (side d (moved kind tells d k)).word ≡ (side d k).word + 1
moved-here kind tells Plain k = refl
moved-here kind tells Tracing k = refl

pub moved-processor : (kind : StepKind) (tells : Bool) (d : Domain) (k : Known) → (moved kind tells d k).grace.processor ≡ k.grace.processor
moved-processor kind tells d k = (moved-grace kind tells d k).0

module _ {W : Type 0} (knows : Knows W) where
  pub at-moved : (kind : StepKind) (d : Domain) (b : Bool) (l : ℕ) (p : Program) (m k : Processor W) (e : Entry) → known_of knows k ≡ moved kind knows.tells d (known_of knows m) → k ≡ record m { caches = k.caches; side = k.side; inside = k.inside } → word_of knows d k % 2 ≡ (if b then 1 else 0) → k.inside ≡ for_domain Plain d b m.inside →
      NamesWord d (word_of knows d m) e → k.caches.processor ≡ m.caches.processor → Appends (log_of m) l e (log_of k) → word_of knows Plain m + 2 * length (left_of m) + 1 < 2 ^ 28 → IsAt knows StandsAt l p m → IsAt knows StandsAt l p k
  at-moved kind d b l p m k e q same parity is names pr a room s =
      let n : Known = known_of knows m in
      let F : Processor W → Type 0 = λ x. IsAt knows StandsAt l p x in
      let proc : (known_of knows k).grace.processor ≡ n.grace.processor = ap (λ (x : Known). x.grace.processor) q ∙ (moved-grace kind knows.tells d n).0 in
      let objects : (known_of knows k).objects ≡ n.objects = ap (λ (x : Known). x.objects) q in
      let word : word_of knows Plain k ≤ word_of knows Plain m + 1 = subst (λ (x : Known). (side Plain x).word ≤ (side Plain n).word + 1) (sym q) (plain-most kind knows.tells d n) in
      let R : ℕ → Type 0 = λ x. Running StandsAt l x p.scenario.now m.handlers.planned m.running.items (log_of k) in
      subst F (sym same) (record {
        at = subst R (sym proc) (stands-say l n.grace.processor p.scenario.now m.handlers.planned m.running.items (log_of m) (log_of k) e names.kind a s.at);
        tells = told-more (Tells p.scenario.now n) (Tells p.scenario.now (known_of knows k)) (log_of m) (log_of k) l e (λ es t. tells-moved kind knows.tells d p.scenario.now n (known_of knows k) es l e q names t) a s.tells;
        counts = counts-plain m.calls (lock_of p m) l e (log_of m) (log_of k) names.no_call a s.counts;
        ready = record {
          fits = s.ready.fits;
          here = pr ∙ (s.ready.here ∙ sym proc);
          scripts = s.ready.scripts;
          planned = s.ready.planned;
          bound = s.ready.bound;
          tables = s.ready.tables;
          room_running = s.ready.room_running;
          room_tables = s.ready.room_tables;
          asks = (let h = s.ready.asks in let o = ap (λ (x : Objects). x.asked) objects in omega (arith, h, o));
          words = omega (arith, room, word);
          inside = inside-moved kind knows.tells d n (known_of knows k) m.inside b k.inside q parity is s.ready.inside;
          calls = (let h = s.ready.calls in let o = ap (λ (x : Objects). x.asked) objects in omega (arith, h, o));
          stocked = subst (AreStocked (declared_in p.scenario.now)) (sym objects) s.ready.stocked;
        };
      })

  -- the tests of units are as they were
  pub came-moved : (l : ℕ) (m k : Processor W) (e : Entry) → AsBefore (knows.rights m.side) (knows.rights k.side) → shown k.caches ≡ shown m.caches → k.caches.processor ≡ m.caches.processor → Appends (log_of m) l e (log_of k) → CameAt knows l m k
  came-moved l m k e s sh pr a =
      let tests : tests_of knows k ≡ tests_of knows m = tests-before (knows.rights m.side) (knows.rights k.side) s in
      let F : Tests → Type 0 = λ t. Came (λ (r : Recorded). r.told) l (tests_of knows m) t m.caches k.caches in
      subst F (sym tests) (came-noted knows l m k.caches e sh pr a)
