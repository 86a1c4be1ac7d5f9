-- A processor runs a script in its section, and ends.
use Rattle.std.proofs.Common.{◌≡◌, ◌+◌, ℕ, Bool, List, [], ◌∷◌, Option, false, true, refl, sym, ap, subst, ◌∙◌, arith, reverse, length}
use Rattle.bm_world.specs.LivingState.{LivingState}
use Rattle.bm_world.specs.ToldLiving.{knows_living}
use Rattle.std.specs.Prelude.{◌≤◌, ◌<◌, ◌*◌, ◌^◌, ◌%◌, if◌then◌else◌}
use Rattle.bm_journal.specs.declared.ids.Domain.{Domain}
use Rattle.bm_journal.specs.declared.ids.Domain.TheVariants.{Plain, Tracing}
use Rattle.bm_journal.specs.declared.entry.Entry.TheVariants as entry
use Rattle.bm_journal.specs.Recording.{Appends, Kept as Recorded}
use Rattle.bm_grace.specs.Calls.{moved}
use Rattle.bm_grace.specs.Known.{Known, side}
use Rattle.bm_grace.specs.declared.step.StepKind.{StepKind}
use Rattle.bm_grace.specs.declared.step.StepKind.TheVariants.{Enter, Leave}
use Rattle.bm_law.specs.Lists.{Log}
use Rattle.bm_cache.specs.Shown.{shown}
use Rattle.bm_cache.specs.declared.caches.Caches.{Caches}
use Rattle.bm_exec_levels.specs.Calling.{counts-plain}
use Rattle.bm_exec_levels.proofs.Moved.{before-same, dated-same, stamped-same}
use Rattle.bm_due.specs.Plan.{Plan}
use Rattle.bm_due.specs.declared.planned.Due.{Due}
use Rattle.bm_lang.specs.declared.scenario.Parts.{Parts}
use Rattle.bm_plan.specs.Position.{StandsAt}
use Rattle.bm_plan.specs.declared.handlers.Handlers.{Handlers}
use Rattle.bm_plan.proofs.Positions.{ends-here}
use Rattle.bm_exec_levels.specs.AtProcessor.{FineAt, lock_of, log_of}
use Rattle.bm_exec_levels.specs.Growing.{tells-inner}
use Rattle.bm_exec_levels.specs.Here.{Running, position_of}
use Rattle.bm_exec_levels.specs.Logged.{Tells}
use Rattle.bm_exec_levels.specs.Ready.{IsReady, asked_of, known_of, left_cost, left_of, word_of}
use Rattle.bm_exec_levels.specs.Sound.{Sound}
use Rattle.bm_exec_levels.specs.Turns.{told-more}
use Rattle.bm_exec_levels.specs.declared.processor.Processor.{Processor}
use Rattle.bm_exec_levels.specs.declared.program.Program.{Program}
use Rattle.bm_exec_levels.specs.Ordinary.{Statements}
use Rattle.bm_exec_levels.proofs.Scripts.{words-most}
use Rattle.bm_run.specs.Lines.{asks_in}
use Rattle.bm_law.specs.Begun.{for_domain}
use Rattle.bm_law_scenario.specs.Grammar.{is_plain}

-- ---- the end of the processor

-- no handler runs where ordinary code does
pub nobody-runs : (dues : List Due) → length dues ≤ 0 → dues ≡ []
nobody-runs [] h = refl
nobody-runs (due ∷ dues) h = absurd (omega (arith, h))

reverse-none : (dues : List Due) → dues ≡ [] → reverse dues ≡ []
reverse-none dues e = ap reverse e

pub runs-none : (p : Program) (m : Processor LivingState) → Sound knows_living p m → reverse m.running.items ≡ []
runs-none p m s = reverse-none m.running.items (nobody-runs m.running.items s.at.at.deep)

ended-at : (n : ℕ) (s : Parts) (plan : Plan) (running : List Due) (before now : Option Log) → reverse running ≡ [] → Appends before 0 entry.Ended now → Running StandsAt 0 n s plan running before → Running StandsAt 0 n s (record plan { ended = true }) running now
ended-at n s plan running before now e a k = record {
  at = told-more (StandsAt (position_of n s plan running)) (StandsAt (position_of n s (record plan { ended = true }) running)) before now 0 entry.Ended (λ es h. ends-here (position_of n s plan running) es e h) a k.at;
  level = k.level;
  deep = k.deep;
}

ready-ended : (p : Program) (m : Processor LivingState) (c : Caches Recorded) (h : Handlers) → h.planned ≡ record m.handlers.planned { ended = true } → h.scripts ≡ m.handlers.scripts → c.processor ≡ m.caches.processor → IsReady knows_living p m → IsReady knows_living p (record m { caches = c; handlers = h })
ready-ended p m c h e n same r =
    let left : h.planned.left ≡ left_of m = ap (λ (x : Plan). x.left) e in
    record {
      fits = r.fits;
      here = same ∙ r.here;
      scripts = n ∙ r.scripts;
      planned = rw left r.planned;
      bound = r.bound;
      tables = r.tables;
      room_running = r.room_running;
      room_tables = r.room_tables;
      asks = rw left r.asks;
      words = rw left r.words;
      inside = r.inside;
      calls = r.calls;
      stocked = r.stocked;
    }

-- its handlers don't matter to calls
fine-handlers : (m : Processor LivingState) (c : Caches Recorded) (h : Handlers) → FineAt knows_living 0 (record m { caches = c }) → FineAt knows_living 0 (record m { caches = c; handlers = h })
fine-handlers m c h f = record { placed = f.placed; ready = f.ready; proper = f.proper; aimed = f.aimed }

ended-with : (p : Program) (m : Processor LivingState) (c : Caches Recorded) (h : Handlers) → h.planned ≡ record m.handlers.planned { ended = true } → h.scripts ≡ m.handlers.scripts → shown c ≡ shown m.caches → c.processor ≡ m.caches.processor → Appends (log_of m) 0 entry.Ended c.recorder.told → FineAt knows_living 0 (record m { caches = c; handlers = h }) → Sound knows_living p m → Sound knows_living p (record m { caches = c; handlers = h })
ended-with p m c h e n same pr a fine s =
    let k : Known = known_of knows_living m in
    let left : h.planned.left ≡ left_of m = ap (λ (x : Plan). x.left) e in
    let T : Log → Type 0 = Tells p.scenario.now k in
    record {
      at = record {
        at = subst (λ plan. Running StandsAt 0 k.grace.processor p.scenario.now plan m.running.items c.recorder.told) (sym e) (ended-at k.grace.processor p.scenario.now m.handlers.planned m.running.items (log_of m) c.recorder.told (runs-none p m s) a s.at.at);
        tells = told-more T T (log_of m) c.recorder.told 0 entry.Ended (λ es t. tells-inner p.scenario.now k es 0 entry.Ended tt t) a s.at.tells;
        counts = counts-plain m.calls (lock_of p m) 0 entry.Ended (log_of m) c.recorder.told refl a s.at.counts;
        ready = ready-ended p m c h e n pr s.at.ready;
      };
      fine = fine;
      dated = dated-same knows_living m (record m { caches = c; handlers = h }) (before-same (knows_living.rights m.side)) same s.dated;
      stamped = stamped-same (shown m.caches) (shown c) same s.stamped;
      begins = λ d. (let b = s.begins d in let z = ap (λ (x : List _). length x) left in omega (arith, b, z));
    }

-- of the processor n, which is m with an entry more, and with its handlers' end
pub sound-ended : (p : Program) (m n : Processor LivingState) (h : Handlers) → h.planned ≡ record n.handlers.planned { ended = true } → h.scripts ≡ n.handlers.scripts → n ≡ record m { caches = n.caches } → shown n.caches ≡ shown m.caches → n.caches.processor ≡ m.caches.processor → Appends (log_of m) 0 entry.Ended (log_of n) → FineAt knows_living 0 n → Sound knows_living p m → Sound knows_living p (record n { handlers = h })
sound-ended p m n h e k is same pr a fine s =
    let plan : n.handlers ≡ m.handlers = ap (λ (x : Processor LivingState). x.handlers) is in
    let F : Processor LivingState → Type 0 = λ x. FineAt knows_living 0 x in
    let z : Sound knows_living p (record m { caches = n.caches; handlers = h }) = ended-with p m n.caches h (rw plan at e) (rw plan at k) same pr a (fine-handlers m n.caches h (subst F is fine)) s in
    subst (λ (x : Processor LivingState). Sound knows_living p (record x { handlers = h })) (sym is) z

-- ---- one script in its section

-- what its section begins with is what it is in
pub starts-is : (d : Domain) (inside now : Bool) → inside ≡ false → now ≡ for_domain Plain d true inside → now ≡ is_plain d
starts-is Plain inside now e h = h
starts-is Tracing inside now e h = h ∙ e

pub even-out : (b : Bool) (w : ℕ) → w % 2 ≡ (if b then 1 else 0) → w % 2 ≡ 0 → b ≡ false
even-out true w h e = absurd (let z = h in omega (arith, z, e))
even-out false w h e = refl

-- what is asked for with a section's begin, and with its end
same-asked : (s : Parts) (m k : Processor LivingState) (e : Domain) (kind : StepKind) → known_of knows_living k ≡ moved kind false e (known_of knows_living m) → k ≡ record m { caches = k.caches; side = k.side; inside = k.inside } → asked_of knows_living s k ≡ asked_of knows_living s m
same-asked s m k e kind q r =
    let objects : (known_of knows_living k).objects.asked ≡ (known_of knows_living m).objects.asked = ap (λ (x : Known). x.objects.asked) q in
    let rest : k.settled + left_cost s (left_of k) ≡ m.settled + left_cost s (left_of m) = ap (λ (x : Processor LivingState). x.settled + left_cost s (left_of x)) r in
    omega (arith, objects, rest)

pub asks-entered : (e : Domain) (s : Parts) (m k : Processor LivingState) → known_of knows_living k ≡ moved Enter false e (known_of knows_living m) → k ≡ record m { caches = k.caches; side = k.side; inside = k.inside } → k.inside ≡ for_domain Plain e true m.inside → asks_in s k ≤ asks_in s m + 2
asks-entered Plain s m k q r i =
    let asked = same-asked s m k Plain Enter q r in
    let word : word_of knows_living Plain k ≡ word_of knows_living Plain m + 1 = ap (λ (x : Known). (side Plain x).word) q in
    let left : length (left_of k) ≡ length (left_of m) = ap (λ (x : Processor LivingState). length (left_of x)) r in
    let now : (let n : ℕ = if k.inside then 1 else 0 in n) ≡ 1 = ap (λ (x : Bool). let n : ℕ = if x then 1 else 0 in n) i in
    omega (arith, asked, word, left, now)
asks-entered Tracing s m k q r i =
    let asked = same-asked s m k Tracing Enter q r in
    let word : word_of knows_living Plain k ≡ word_of knows_living Plain m = ap (λ (x : Known). (side Plain x).word) q in
    let left : length (left_of k) ≡ length (left_of m) = ap (λ (x : Processor LivingState). length (left_of x)) r in
    let now : (let n : ℕ = if k.inside then 1 else 0 in n) ≡ (let n : ℕ = if m.inside then 1 else 0 in n) = ap (λ (x : Bool). let n : ℕ = if x then 1 else 0 in n) i in
    omega (arith, asked, word, left, now)

pub asks-left : (e : Domain) (s : Parts) (m k : Processor LivingState) → known_of knows_living k ≡ moved Leave false e (known_of knows_living m) → k ≡ record m { caches = k.caches; side = k.side; inside = k.inside } → k.inside ≡ for_domain Plain e false m.inside → m.inside ≡ is_plain e → asks_in s k ≤ asks_in s m
asks-left Plain s m k q r i f =
    let asked = same-asked s m k Plain Leave q r in
    let word : word_of knows_living Plain k ≡ word_of knows_living Plain m + 1 = ap (λ (x : Known). (side Plain x).word) q in
    let left : length (left_of k) ≡ length (left_of m) = ap (λ (x : Processor LivingState). length (left_of x)) r in
    let now : (let n : ℕ = if k.inside then 1 else 0 in n) ≡ 0 = ap (λ (x : Bool). let n : ℕ = if x then 1 else 0 in n) i in
    let was : (let n : ℕ = if m.inside then 1 else 0 in n) ≡ 1 = ap (λ (x : Bool). let n : ℕ = if x then 1 else 0 in n) f in
    omega (arith, asked, word, left, now, was)
asks-left Tracing s m k q r i f =
    let asked = same-asked s m k Tracing Leave q r in
    let word : word_of knows_living Plain k ≡ word_of knows_living Plain m = ap (λ (x : Known). (side Plain x).word) q in
    let left : length (left_of k) ≡ length (left_of m) = ap (λ (x : Processor LivingState). length (left_of x)) r in
    let now : (let n : ℕ = if k.inside then 1 else 0 in n) ≡ (let n : ℕ = if m.inside then 1 else 0 in n) = ap (λ (x : Bool). let n : ℕ = if x then 1 else 0 in n) i in
    omega (arith, asked, word, left, now)

-- there is room for one word more
pub few-words : (s : Parts) (m : Processor LivingState) → asks_in s m < 2 ^ 22 → word_of knows_living Plain m + 2 * length (left_of m) + 1 < 2 ^ 28
few-words s m h = omega (arith, h)

-- works were asked for once more
pub asks-worked : (s : Parts) (a b : Processor LivingState) → asked_of knows_living s b ≤ asked_of knows_living s a + 1 → Statements knows_living a b → asks_in s b ≤ asks_in s a + 1
asks-worked s a b h t = (let words = words-most knows_living a b t in omega (arith, h, words))

-- the tracing word moves at most once with a section's begin or end
pub tracing-moved : (kind : StepKind) (e : Domain) (m k : Processor LivingState) → known_of knows_living k ≡ moved kind false e (known_of knows_living m) → word_of knows_living Tracing k ≤ word_of knows_living Tracing m + 1
tracing-moved kind Plain m k q = (let w : word_of knows_living Tracing k ≡ word_of knows_living Tracing m = ap (λ (x : Known). (side Tracing x).word) q in omega (arith, w))
tracing-moved kind Tracing m k q = (let w : word_of knows_living Tracing k ≡ word_of knows_living Tracing m + 1 = ap (λ (x : Known). (side Tracing x).word) q in omega (arith, w))

-- the word of a section that was begun is odd
pub odd-begun : (e : Domain) (v w : ℕ) → v % 2 ≡ 0 → w ≡ v + 1 → w % 2 ≡ 1
odd-begun e v w h k = omega (arith, h, k)

-- ---- the periods at the end
