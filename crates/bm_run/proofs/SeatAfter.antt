-- What is so of a seat before and after a turn of its processor.
use Rattle.std.specs.Prelude.{◌≤◌, ◌<◌, ◌+◌, ◌*◌, ◌^◌, ◌%◌, if◌then◌else◌, is_none, length}
use Rattle.std.proofs.Common.{◌≡◌, ℕ, Bool, true, false, List, [], ◌∷◌, ◌++◌, Option, None, Some, IfSome, arith, refl, sym, ap, subst, ◌∙◌}
use Rattle.bm_journal.specs.Recording.{Gains}
use Rattle.bm_journal.specs.Recording as recording
use Rattle.bm_journal.specs.declared.ids.Domain.TheVariants.{Plain, Tracing}
use Rattle.bm_journal.specs.declared.entry.Entry.TheVariants as entry
use Rattle.bm_lang.specs.declared.scenario.AtLine.{AtLine}
use Rattle.bm_lang.specs.declared.scenario.Parts.{Parts}
use Rattle.bm_lang.specs.declared.scenario.RunLine.{RunLine}
use Rattle.bm_law.specs.Lists.{Leaves, Log}
use Rattle.bm_law_work.specs.Grown.{GrewBy, GrewPart}
use Rattle.bm_law_work.proofs.Grown.{grew-none}
use Rattle.bm_law_scenario.specs.Grammar.{AreScripts, lines_of}
use Rattle.bm_law_scenario.specs.Handlers.{HandlersDone}
use Rattle.bm_due.specs.Plan.{Plan}
use Rattle.bm_due.specs.Standing.{HandlersStand}
use Rattle.bm_grace.specs.Known.{side}
use Rattle.bm_cache.specs.Tokens.{number_of}
use Rattle.bm_law.specs.State.{seen}
use Rattle.bm_plan.specs.Position.{StandsAt}
use Rattle.bm_plan.proofs.Positions.{whole}
use Rattle.bm_exec.specs.Living.{Lives}
use Rattle.bm_law_order.specs.Tie.{Tied, TiedBy}
use Rattle.bm_exec_levels.specs.AtPolls.{DoesHere, polled, tied-bare}
use Rattle.bm_exec_levels.specs.AtProcessor.{lists_of, log_of}
use Rattle.bm_exec_levels.specs.AtTie.{TiedAt}
use Rattle.bm_exec_levels.specs.Here.{position_of}
use Rattle.bm_exec_levels.specs.Logged.{Tells}
use Rattle.bm_exec_levels.specs.Ready.{known_of, left_cost, left_of, word_of}
use Rattle.bm_exec_levels.specs.Sound.{Sound}
use Rattle.bm_exec_levels.specs.declared.kept.Kept.{Kept}
use Rattle.bm_exec_levels.specs.declared.processor.Processor.{Processor}
use Rattle.bm_exec_levels.specs.declared.program.Program.{Program}
use Rattle.bm_world.specs.LivingState.{LivingState, known_living}
use Rattle.bm_world.specs.Told.{IsSideOf}
use Rattle.bm_world.specs.ToldLiving.{knows_living}
use Rattle.bm_exec_levels.specs.Slotted.{in_hands}
use Rattle.bm_run.specs.Asked.{in_its_turn}
use Rattle.bm_run.specs.Lines.{works_for}
use Rattle.bm_run.specs.SeatTurn.{HasCeased, MayTurn, TookTurn, has_gone}
use Rattle.bm_run.specs.Seated.{HasStopped, IsRunning, IsSeated, opening_lists, opening_log, runs_or_stopped, seat_asks}
use Rattle.bm_run.specs.SoFar.{at_turn}
use Rattle.bm_run.specs.Turns.{Advanced, IsOutside, StillRuns, cost_left, lines_left, owned_by, stands_in, still_begun, used_in}
use Rattle.bm_run.specs.declared.turns.Begun.{Begun}
use Rattle.bm_run.specs.declared.turns.Remaining.{Remaining}
use Rattle.bm_run.specs.declared.seats.Seat.{Seat}
use Rattle.bm_run.proofs.Sections.{runs-none}

pub same-kept : (a b : Kept) → Some a ≡ Some b → a ≡ b
same-kept a b e = cc

pub same-log : (a b : Log) → Some a ≡ Some b → a ≡ b
same-log a b e = cc

-- at the turn of the processor whose side it is the world is as it is
pub at-own : (p : ℕ) (world : LivingState) → IsSideOf p world.side → at_turn p world ≡ world
at-own p world h =
    sym (ap (λ (k : ℕ). let w : LivingState = record world { side = record { post = record world.side.post { processor = k }; grace = world.side.grace } } in w) h.post_is
    ∙ ap (λ (k : ℕ). let w : LivingState = record world { side = record { post = record world.side.post { processor = p }; grace = record world.side.grace { processor = k } } } in w) h.grace_is)

-- ---- what its log tells where ordinary code stands

pub leaves-here : (g : Program) (p : ℕ) (m : Processor LivingState) (log : Log) → (known_of knows_living m).grace.processor ≡ p → Sound knows_living g m → log_of m ≡ Some log → Leaves p log (lists_of m)
leaves-here g p m log first s told =
    subst (λ (n : ℕ). Leaves n log (lists_of m)) (s.at.ready.here ∙ first) (subst (λ (o : Option Log). IfSome o (λ es. Leaves m.caches.processor es (lists_of m))) told s.fine.placed.told)

pub stands-here : (g : Program) (p : ℕ) (m : Processor LivingState) (log : Log) → (known_of knows_living m).grace.processor ≡ p → Sound knows_living g m → log_of m ≡ Some log → HandlersStand g.scenario.now p log
stands-here g p m log first s told =
    let here = position_of (known_of knows_living m).grace.processor g.scenario.now m.handlers.planned m.running.items in
    let at : StandsAt here log = subst (λ (o : Option Log). IfSome o (StandsAt here)) told s.at.at.at in
    subst (λ (n : ℕ). HandlersStand g.scenario.now n log) first (whole here log (runs-none g m s) at)

pub done-here : (g : Program) (p : ℕ) (m : Processor LivingState) (log : Log) → (known_of knows_living m).grace.processor ≡ p → Sound knows_living g m → log_of m ≡ Some log → HandlersDone g.scenario.now p log
done-here g p m log first s told = (let t : Tells g.scenario.now (known_of knows_living m) log = subst (λ (o : Option Log). IfSome o (Tells g.scenario.now (known_of knows_living m))) told s.at.tells in subst (λ (n : ℕ). HandlersDone g.scenario.now n log) first t.done)

-- ---- before the turn

pub may-turn : (g : Program) (p : ℕ) (log : Log) (base : Lives) (share : ℕ) (world : LivingState) (seat : Seat) → IsSeated g p log base share world seat → seat.ended ≡ false → world.asked + share < 2 ^ 22 → MayTurn g log (at_turn p world) seat
may-turn g p log base share world seat h going few =
    let m : Processor LivingState = in_its_turn h.kept (at_turn p world) in
    let runs : IsRunning g.scenario.now p m seat.remaining = subst (λ (b : Bool). runs_or_stopped b g.scenario.now p log m seat.remaining) going h.runs in
    let asks = h.asks in
    record { kept = h.kept; kept_is = h.kept_is; told = h.told; sound = h.sound; can = runs.can; room = omega (arith, asks, few) }

-- ---- after it

abbrev used_from : Parts → LivingState → ℕ → Bool → List AtLine → ℕ
used_from s w settled inside left =
    (((known_living w).objects.asked + settled + left_cost s left) + ((side Plain (known_living w)).word + 2 * length left + (if inside then 1 else 0))) + (side Tracing (known_living w)).word

-- what one may ask for is told by its side, its handlers that haven't run, and how often it was asked for works
used-same : (s : Parts) (a b : Processor LivingState) → a.side ≡ b.side → a.settled ≡ b.settled → a.inside ≡ b.inside → left_of a ≡ left_of b → used_in s a ≡ used_in s b
used-same s a b e f g h =
    ap (λ (w : LivingState). used_from s w a.settled a.inside (left_of a)) e
    ∙ (ap (λ (k : ℕ). used_from s b.side k a.inside (left_of a)) f
    ∙ (ap (λ (i : Bool). used_from s b.side b.settled i (left_of a)) g ∙ ap (λ (l : List AtLine). used_from s b.side b.settled b.inside l) h))

-- what is left then is, with what was run, what was left before
runs-after : (s : Parts) (p : ℕ) (m n : Processor LivingState) (r r' : Remaining) → IsRunning s p m r → Advanced s (works_for s) m r n r' → IsRunning s p n r'
runs-after s p m n r r' h a = record { goes = λ final k. h.goes final (a.grew final k); can = a.can }

nothing-left : (s : Parts) (w : Option (List ℕ)) (m : Processor LivingState) (r : Remaining) → r.begun ≡ None → lines_left r ≡ [] → GrewBy (StillRuns s w m r) (lists_of m) (log_of m) (log_of m)
nothing-left s w m r none lines =
    subst (λ (o : Option Begun). GrewBy (still_begun s w m o (AreScripts s (lines_left r))) (lists_of m) (log_of m) (log_of m)) (sym none)
    (subst (λ (ls : List RunLine). GrewBy (AreScripts s ls) (lists_of m) (log_of m) (log_of m)) (sym lines) (grew-none (AreScripts s []) (lists_of m) (log_of m) refl))

-- The scripts have ended, and it was recorded.
module _ (g : Program) (p : ℕ) (m n : Processor LivingState) (r r' : Remaining) (h : HasCeased g m r n r') where
  abbrev s : Parts
  s = g.scenario.now

  last-side : n.side ≡ h.last.side
  last-side = ap (λ (x : Processor LivingState). x.side) h.same

  -- its log before that, and this one by now
  pub said-last : (log : Log) → log_of n ≡ Some log → (front : Log) × (log_of h.last ≡ Some front) × (log ≡ front ++ (0, entry.Ended) ∷ [])
  said-last log told = (let k : Gains (log_of h.last) 0 entry.Ended log = subst (λ (o : Option Log). recording.Appends (log_of h.last) 0 entry.Ended o) told h.said in (k.log, k.told, k.more))

  pub last-of : (known_of knows_living n).grace.processor ≡ p → (known_of knows_living h.last).grace.processor ≡ p
  last-of first = ap (λ (x : LivingState). (known_living x).grace.processor) (sym last-side) ∙ first

  stopped-after : (log : Log) → (known_of knows_living n).grace.processor ≡ p → log_of n ≡ Some log → IsRunning s p m r → HasStopped s p log n r'
  stopped-after log first told runs =
      let said = said-last log told in
      let front : Log = said.0 in
      let all : GrewBy (AreScripts s (lines_of p s.runs)) (opening_lists s p) (Some (opening_log s p)) (Some front) =
      subst (λ (o : Option Log). GrewBy (AreScripts s (lines_of p s.runs)) (opening_lists s p) (Some (opening_log s p)) o) said.1 (runs.goes (log_of h.last) (h.advanced.grew (log_of h.last) (nothing-left s (works_for s) h.last r' h.none h.no_lines))) in
      let part : GrewPart (AreScripts s (lines_of p s.runs)) (opening_lists s p) (Some (opening_log s p)) front = all in
      let opened : part.log ≡ opening_log s p = sym (same-log (opening_log s p) part.log part.told) in
      let front_is : front ≡ opening_log s p ++ part.added = part.now_is ∙ ap (λ (z : Log). z ++ part.added) opened in
      let first_last = last-of first in
      let outside : IsOutside (works_for s) h.last = subst (stands_in s (works_for s) h.last) h.none h.advanced.can.stands in
      record {
        scripts = part.added;
        log_is = said.2 ∙ ap (λ (z : Log). z ++ (0, entry.Ended) ∷ []) front_is;
        are_scripts = part.is_part;
        leaves = subst (λ (z : Log). Leaves p z (lists_of n)) front_is (subst (Leaves p front) (ap (seen number_of) (sym h.lists)) (leaves-here g p h.last front first_last h.sound said.1));
        stands = subst (HandlersStand s p) front_is (stands-here g p h.last front first_last h.sound said.1);
        done = subst (HandlersDone s p) front_is (done-here g p h.last front first_last h.sound said.1);
        outside = λ d. subst (λ (x : LivingState). word_of knows_living d (let y : Processor LivingState = record h.last { side = x } in y) % 2 ≡ 0) (sym last-side) (outside.words d);
        unlocked = ap (λ (x : Processor LivingState). x.locked) h.same ∙ outside.unlocked;
        ended = ap (λ (x : Plan). x.ended) h.planned;
        nothing = h.none;
      }

  -- it may ask for no more
  ceased-used : used_in s n + cost_left s r' ≤ used_in s m + cost_left s r
  ceased-used =
      let same : used_in s n ≡ used_in s h.last = used-same s n h.last last-side (ap (λ (x : Processor LivingState). x.settled) h.same) (ap (λ (x : Processor LivingState). x.inside) h.same) (ap (λ (x : Plan). x.left) h.planned) in
      let used = h.advanced.used in
      omega (arith, same, used)

  ceased-owns : (base : Lives) → owned_by s base (in_hands (known_of knows_living m).objects) r.begun → owned_by s base (in_hands (known_of knows_living n).objects) r'.begun
  ceased-owns base k = subst (λ (x : LivingState). owned_by s base (in_hands (known_living x).objects) r'.begun) (sym last-side) (h.advanced.owns base k)

-- by how it ended
gone-runs : (ended : Bool) (g : Program) (p : ℕ) (m n : Processor LivingState) (r r' : Remaining) (log : Log) → (known_of knows_living n).grace.processor ≡ p → log_of n ≡ Some log → IsRunning g.scenario.now p m r → has_gone ended g m r n r' → runs_or_stopped ended g.scenario.now p log n r'
gone-runs false g p m n r r' log first told runs h = runs-after g.scenario.now p m n r r' runs h.advanced
gone-runs true g p m n r r' log first told runs h = stopped-after g p m n r r' h log first told runs

gone-owns : (ended : Bool) (g : Program) (p : ℕ) (m n : Processor LivingState) (r r' : Remaining) → has_gone ended g m r n r' → (base : Lives) → owned_by g.scenario.now base (in_hands (known_of knows_living m).objects) r.begun → owned_by g.scenario.now base (in_hands (known_of knows_living n).objects) r'.begun
gone-owns false g p m n r r' h base = h.advanced.owns base
gone-owns true g p m n r r' h base = ceased-owns g p m n r r' h base

gone-used : (ended : Bool) (g : Program) (p : ℕ) (m n : Processor LivingState) (r r' : Remaining) → has_gone ended g m r n r' → used_in g.scenario.now n + cost_left g.scenario.now r' ≤ used_in g.scenario.now m + cost_left g.scenario.now r
gone-used false g p m n r r' h = h.advanced.used
gone-used true g p m n r r' h = ceased-used g p m n r r' h

-- ---- its seat

-- What a turn left of a seat, where nobody else took one: it has what it keeps, its log is this one, and it may ask for so many.
pub record SeatLeft (g : Program) (p : ℕ) (since log : Log) (world now : LivingState) (share : ℕ) (seat seat' : Seat) : Type 0 where
  pub first : now.side.grace.processor ≡ p
  pub tied : Tied (polled knows_living false since (at_turn p world)) (DoesHere knows_living) since (at_turn p world) 0 [] [] log now
  pub share' : ℕ
  pub seated : (base : Lives) → owned_by g.scenario.now base (in_hands (known_living world).objects) seat.remaining.begun → IsSeated g p log base share' now seat'
  pub few : now.asked + share' ≤ world.asked + share

-- The seat after a turn: its processor is between turns again.
pub seat-after : (g : Program) (p : ℕ) (since : Log) (base : Lives) (share : ℕ) (world now : LivingState) (seat seat' : Seat) → IsSeated g p since base share world seat → seat.ended ≡ false → IsSideOf p (at_turn p world).side → (t : TookTurn g since (at_turn p world) now seat seat') → SeatLeft g p since t.log world now share seat seat'
seat-after g p since base share world now seat seat' h going his t =
    let s : Parts = g.scenario.now in
    let start : LivingState = at_turn p world in
    let m : Processor LivingState = in_its_turn t.kept start in
    let n : Processor LivingState = in_its_turn t.kept_now now in
    let kept : h.kept ≡ t.kept = same-kept h.kept t.kept (sym h.kept_is ∙ t.kept_is) in
    let runs : IsRunning s p m seat.remaining =
    subst (λ (k : Kept). IsRunning s p (in_its_turn k start) seat.remaining) kept (subst (λ (b : Bool). runs_or_stopped b s p since (in_its_turn h.kept start) seat.remaining) going h.runs) in
    let bare = tied-bare knows_living (polled knows_living false since start) since start 0 [] [] t.log now t.tied in
    let own : IsSideOf p now.side = (bare.done_is.did p his).stays in
    let same : now ≡ at_turn p now = sym (at-own p now own) in
    let used = gone-used seat'.ended g p m n seat.remaining seat'.remaining t.went in
    let asks : seat_asks s m seat.remaining ≤ share = subst (λ (k : Kept). seat_asks s (in_its_turn k start) seat.remaining ≤ share) kept h.asks in
    record {
      first = own.grace_is;
      tied = t.tied;
      share' = seat_asks s n seat'.remaining;
      seated = λ b k. record {
        kept = t.kept_now;
        kept_is = t.kept_now_is;
        told = t.told;
        processor = t.processor ∙ h.processor;
        sound = subst (λ (w : LivingState). Sound knows_living g (in_its_turn t.kept_now w)) same t.sound;
        runs = subst (λ (w : LivingState). runs_or_stopped seat'.ended s p t.log (in_its_turn t.kept_now w) seat'.remaining) same (gone-runs seat'.ended g p m n seat.remaining seat'.remaining t.log own.grace_is t.told runs t.went);
        owns = gone-owns seat'.ended g p m n seat.remaining seat'.remaining t.went b k;
        asks = subst (λ (w : LivingState). seat_asks s (in_its_turn t.kept_now w) seat'.remaining ≤ seat_asks s n seat'.remaining) same (omega arith);
      };
      few = omega (arith, used, asks);
    }

-- ---- as the code has it

pub told-some : (o : Option Log) → is_none o ≡ false → (log : Log) × (o ≡ Some log)
told-some None e = absurd (cc)
told-some (Some log) e = (log, refl)

-- what a processor keeps
abbrev pub kept_of : Processor LivingState → Kept
kept_of m = record {
  alloc = m.alloc;
  caches = m.caches;
  settled = m.settled;
  inside = m.inside;
  locked = m.locked;
  handlers = m.handlers;
  running = m.running;
  tables = m.tables;
  calls = m.calls;
}

-- The turn of a processor, from what its seat keeps to what it keeps then.
pub took-turn : (g : Program) (since : Log) (start world now : LivingState) (seat seat' : Seat) (kept kept' : Kept) (m n : Processor LivingState) →
    seat.kept ≡ Some kept → seat'.kept ≡ Some kept' → m ≡ in_its_turn kept world → start ≡ world → kept' ≡ kept_of n → now ≡ n.side → is_none (log_of n) ≡ false →
    TiedAt knows_living since start n → Sound knows_living g n → seat'.remaining.processor ≡ seat.remaining.processor → has_gone seat'.ended g m seat.remaining n seat'.remaining → TookTurn g since start now seat seat'
took-turn g since start world now seat seat' kept kept' m n was is opens begins closes side some tied sound same gone =
    let told = told-some (log_of n) some in
    let opened : m ≡ in_its_turn kept start = opens ∙ ap (λ (w : LivingState). in_its_turn kept w) (sym begins) in
    let back : n ≡ in_its_turn kept' now = sym (ap (λ (k : Kept). in_its_turn k now) closes ∙ ap (λ (w : LivingState). in_its_turn (kept_of n) w) side) in
    record {
      kept = kept;
      kept_is = was;
      kept_now = kept';
      kept_now_is = is;
      log = told.0;
      told = ap (λ (k : Kept). k.caches.recorder.told) closes ∙ told.1;
      tied = subst (λ (w : LivingState). Tied (polled knows_living false since start) (DoesHere knows_living) since start 0 [] [] told.0 w) (sym side)
          (subst (λ (o : Option Log). TiedBy (polled knows_living false since start) (DoesHere knows_living) since start 0 [] [] o n.side) told.1 tied);
      sound = subst (Sound knows_living g) back sound;
      processor = same;
      went = subst (λ (x : Processor LivingState). has_gone seat'.ended g (in_its_turn kept start) seat.remaining x seat'.remaining) back (subst (λ (x : Processor LivingState). has_gone seat'.ended g x seat.remaining n seat'.remaining) opened gone);
    }
