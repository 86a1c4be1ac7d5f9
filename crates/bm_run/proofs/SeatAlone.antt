-- A processor between its turns, which a turn of another one left alone.
use Rattle.std.specs.Prelude.{◌≤◌, ◌<◌, ◌^◌, ◌%◌, if◌then◌else◌}
use Rattle.std.proofs.Common.{◌≡◌, ℕ, Bool, true, false, List, Option, None, Some, arith, refl, sym, ap, subst, ◌∙◌}
use Rattle.bm_journal.specs.declared.ids.Domain.{Domain}
use Rattle.bm_journal.specs.declared.ids.Domain.TheVariants.{Plain, Tracing}
use Rattle.bm_lang.specs.declared.scenario.Parts.{Parts}
use Rattle.bm_law.specs.Lists.{Log}
use Rattle.bm_law_work.specs.Grown.{GrewBy}
use Rattle.bm_law_work.specs.Parts.{Part, Then}
use Rattle.bm_law_scenario.specs.Grammar.{starts_inside}
use Rattle.bm_grace.specs.Known.{side}
use Rattle.bm_cache.specs.Shown.{shown}
use Rattle.bm_world.specs.LivingState.{LivingState, known_living}
use Rattle.bm_world.specs.ToldLiving.{knows_living}
use Rattle.bm_exec.specs.Around.{Around}
use Rattle.bm_exec.specs.Living.{Lives}
use Rattle.bm_exec.specs.Stack.{Sectioned}
use Rattle.bm_exec_levels.specs.AtProcessor.{lists_of, log_of}
use Rattle.bm_exec_levels.specs.Ready.{asked_of, word_of}
use Rattle.bm_exec_levels.specs.declared.kept.Kept.{Kept}
use Rattle.bm_exec_levels.specs.declared.processor.Processor.{Processor}
use Rattle.bm_exec_levels.specs.declared.program.Program.{Program}
use Rattle.bm_law_scenario.specs.Declared.{declared_in}
use Rattle.bm_exec_levels.specs.Slotted.{AreStocked, in_hands}
use Rattle.bm_run.specs.Asked.{in_its_turn}
use Rattle.bm_run.specs.LeftAlone.{IsLeftAlone}
use Rattle.bm_run.specs.Lines.{works_for}
use Rattle.bm_run.specs.Seated.{HasStopped, IsRunning, IsSeated, runs_or_stopped, seat_asks}
use Rattle.bm_run.specs.SoFar.{at_turn}
use Rattle.bm_run.specs.Turns.{EndsScript, RunsBlocks, around_in, blocks_of, domain_of, outermost, owned_by, stands_in, still_begun}
use Rattle.bm_run.specs.declared.turns.Begun.{Begun}
use Rattle.bm_run.specs.declared.turns.Remaining.{Remaining}
use Rattle.bm_run.specs.declared.seats.Seat.{Seat}
use Rattle.bm_run.proofs.StaysSound.{sound-alone}

abbrev around_with : (whole inside : Bool) → (word : ℕ) → Around
around_with whole inside word = record { whole = whole; begun = if whole then None else (if inside then Some word else None) }

-- in two worlds with the same section words
module _ (kept : Kept) (a b : LivingState) (words : (d : Domain) → (side d (known_living b)).word ≡ (side d (known_living a)).word) where
  abbrev before : Processor LivingState
  before = in_its_turn kept a

  abbrev now : Processor LivingState
  now = in_its_turn kept b

  around-same : (x : Begun) → around_in now x ≡ around_in before x
  around-same x = ap (around_with (starts_inside x.script.now) kept.inside) (words Plain)

  still-same : (s : Parts) (w : Option (List ℕ)) (o : Option Begun) (rest : Part) → still_begun s w now o rest ≡ still_begun s w before o rest
  still-same s w None rest = refl
  still-same s w (Some x) rest =
      ap (λ (z : Around). let P : Part = Then (Then (RunsBlocks s w z x) (EndsScript w x.script.now (word_of knows_living (domain_of x) now))) rest in P) (around-same x)
      ∙ ap (λ (k : ℕ). let P : Part = Then (Then (RunsBlocks s w (around_in before x) x) (EndsScript w x.script.now k)) rest in P) (words (domain_of x))

  outside-same : (d : Domain) → word_of knows_living d before % 2 ≡ 0 → word_of knows_living d now % 2 ≡ 0
  outside-same d h = ap (λ k. k % 2) (words d) ∙ h

  stands-same : (s : Parts) (w : Option (List ℕ)) (base : Lives) (o : Option Begun) → owned_by s base (in_hands (known_living b).objects) o → stands_in s w before o → stands_in s w now o
  stands-same s w base None own h = record { down = h.down; words = λ d. outside-same d (h.words d); unlocked = h.unlocked }
  stands-same s w base (Some x) own h = record {
    found = h.found;
    can = record {
      holds = (base, own);
      sees_nothing = h.can.sees_nothing;
      may = h.can.may;
      accepted = h.can.accepted;
      unlocked = h.can.unlocked;
      sections = (h.can.sections.0, subst (λ (z : Around). Sectioned h.can.sections.0 z (blocks_of x)) (sym (around-same x)) h.can.sections.1);
      down = h.can.down;
    };
    sections = subst (λ (z : Around). Sectioned (outermost x) z (blocks_of x)) (sym (around-same x)) h.sections;
    within = h.within;
    inside = ap (λ k. k % 2) (words (domain_of x)) ∙ h.inside;
    apart = λ e. outside-same Tracing (h.apart e);
    unlocked = h.unlocked;
  }

  runs-same : (s : Parts) (p : ℕ) (r : Remaining) (base : Lives) → owned_by s base (in_hands (known_living b).objects) r.begun → IsRunning s p before r → IsRunning s p now r
  runs-same s p r base own h = record {
    goes = λ final k. h.goes final (subst (λ (P : Part). GrewBy P (lists_of before) (log_of before) final) (still-same s (works_for s) r.begun _) k);
    can = record { stands = stands-same s (works_for s) base r.begun own h.can.stands; declared = h.can.declared };
  }

  stopped-same : (s : Parts) (p : ℕ) (log : Log) (r : Remaining) → HasStopped s p log before r → HasStopped s p log now r
  stopped-same s p log r h = record {
    scripts = h.scripts;
    log_is = h.log_is;
    are_scripts = h.are_scripts;
    leaves = h.leaves;
    stands = h.stands;
    done = h.done;
    outside = λ d. outside-same d (h.outside d);
    unlocked = h.unlocked;
    ended = h.ended;
    nothing = h.nothing;
  }

  either-same : (ended : Bool) (s : Parts) (p : ℕ) (log : Log) (r : Remaining) (base : Lives) → owned_by s base (in_hands (known_living b).objects) r.begun → runs_or_stopped ended s p log before r → runs_or_stopped ended s p log now r
  either-same false s p log r base own h = runs-same s p r base own h
  either-same true s p log r base own h = stopped-same s p log r h

  asks-same : (s : Parts) (r : Remaining) (share : ℕ) → seat_asks s before r ≤ share → seat_asks s now r ≤ share
  asks-same s r share h = (let plain = words Plain in let tracing = words Tracing in omega (arith, plain, tracing, h))

-- Ordinary code can go on on it as before, if few enough objects and works are asked for, whoever asked for them.
pub seat-alone : (g : Program) (q : ℕ) (log : Log) (base base' : Lives) (share : ℕ) (world now : LivingState) (seat : Seat) (h : IsSeated g q log base share world seat) → IsLeftAlone (shown h.kept.caches) (at_turn q world) (at_turn q now) →
    asked_of knows_living g.scenario.now (in_its_turn h.kept (at_turn q now)) < 2 ^ 22 → AreStocked (declared_in g.scenario.now) (known_living now).objects → owned_by g.scenario.now base' (in_hands (known_living now).objects) seat.remaining.begun → IsSeated g q log base' share now seat
seat-alone g q log base base' share world now seat h alone asks stocked own = record {
  kept = h.kept;
  kept_is = h.kept_is;
  told = h.told;
  processor = h.processor;
  sound = sound-alone g (in_its_turn h.kept (at_turn q world)) (at_turn q now) alone asks stocked h.sound;
  runs = either-same h.kept (at_turn q world) (at_turn q now) alone.words seat.ended g.scenario.now q log seat.remaining base' own h.runs;
  owns = own;
  asks = asks-same h.kept (at_turn q world) (at_turn q now) alone.words g.scenario.now seat.remaining share h.asks;
}
