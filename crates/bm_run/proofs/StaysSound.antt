-- Ordinary code can go on on a processor that was left alone.
use Rattle.std.specs.Prelude.{◌≡◌, ◌≢◌, ◌+◌, ◌*◌, ◌<◌, ◌≤◌, ◌^◌, ◌%◌, ◌&&◌, ℕ, suc, List, Option, None, Some, IfSome, eqb, get_or, is_none, is_some, length, not}
use Rattle.std.specs.List.{All}
use Rattle.std.proofs.Common.{sym, ap, ◌∙◌, subst, arith, inl, inr}
use Rattle.bm_journal.specs.declared.ids.Domain.{Domain}
use Rattle.bm_journal.specs.declared.ids.Domain.TheVariants.{Plain, Tracing}
use Rattle.bm_lang.specs.declared.scenario.Parts.{Parts}
use Rattle.bm_law.specs.Lists.{Log}
use Rattle.bm_law.specs.Places.{Stack, list_at, Free, Extra, Extra_delayed, Delayed, First, Ready, Second}
use Rattle.bm_law.specs.State.{State, seen}
use Rattle.bm_law_order.specs.Story.{Story, deeds}
use Rattle.bm_law_places.specs.World.{World}
use Rattle.bm_page.specs.declared.units.Seal.{Seal}
use Rattle.bm_page.specs.Stock.{stocked_at}
use Rattle.bm_grace.specs.Known.{Known, side}
use Rattle.bm_post.specs.HasRoom.{has_room}
use Rattle.bm_post.specs.PostState.{waits}
use Rattle.bm_cache.specs.Each.{Each}
use Rattle.bm_cache.specs.Shown.{shown}
use Rattle.bm_cache.specs.Tests.{Aimed, Either, Passes, Proper, Suits}
use Rattle.bm_cache.specs.Tokens.{Token, number_of}
use Rattle.bm_work.specs.Dated.{Dated}
use Rattle.bm_work.specs.DeskTests.{since_test, tests_by}
use Rattle.bm_work.proofs.Tests.{both, since-is}
use Rattle.bm_world.specs.LivingState.{LivingState, known_living, may_live, rights_living}
use Rattle.bm_world.specs.Slots.{unit_at}
use Rattle.bm_world.specs.Standings.{counts_for, has_waited, is_waiting, standing_at}
use Rattle.bm_world.specs.ToldLiving.{knows_living}
use Rattle.bm_plan.specs.Position.{StandsAt}
use Rattle.bm_law_scenario.specs.Handlers.{HandlersDone}
use Rattle.bm_exec_levels.specs.AtProcessor.{FineAt, log_of}
use Rattle.bm_exec_levels.specs.Here.{Running}
use Rattle.bm_exec_levels.specs.Hosting.{with_side}
use Rattle.bm_exec_levels.specs.Logged.{Tells}
use Rattle.bm_exec_levels.specs.Ready.{IsReady, asked_of, known_of, left_of, word_of}
use Rattle.bm_law_scenario.specs.Declared.{declared_in}
use Rattle.bm_exec_levels.specs.Slotted.{AreStocked}
use Rattle.bm_exec_levels.specs.Sound.{Sound}
use Rattle.bm_exec_levels.specs.declared.kept.Kept.{Kept}
use Rattle.bm_exec_levels.specs.declared.processor.Processor.{Processor}
use Rattle.bm_exec_levels.specs.declared.program.Program.{Program}
use Rattle.bm_run.specs.Asked.{in_its_turn}
use Rattle.bm_run.specs.LeftAlone.{IsLeftAlone, IsTurnOf, KeepsFor, StaysPut}
use Rattle.bm_run.specs.SoFar.{at_turn}
use Rattle.bm_run.proofs.LeftAlone.{turn-left}

-- ---- the tests of one unit

module _ (before now : LivingState) where
  -- it is mine as before
  mine-put : (n : ℕ) → StaysPut n before now → (rights_living now).mine n ≡ (rights_living before).mine n
  mine-put n s =
      ap (λ b. (b && eqb (waits n now.side.post.inboxes) 0) && not (is_some (unit_at now.slots n))) s.out
      ∙ (ap (λ k. ((stocked_at before.side.post.pool.units n).out && eqb k 0) && not (is_some (unit_at now.slots n))) s.inboxes
      ∙ ap (λ b. ((stocked_at before.side.post.pool.units n).out && eqb (waits n before.side.post.inboxes) 0) && not b) s.lives)

  may-put : (n life : ℕ) → StaysPut n before now → may_live now.begun n life ≡ may_live before.begun n life
  may-put n life s = ap (λ k. has_room n life && eqb life k) s.begun

  settled-put : (n life : ℕ) (seal : Option Seal) → StaysPut n before now → (rights_living now).settled n life seal ≡ (rights_living before).settled n life seal
  settled-put n life seal s = ap (λ b. b && has_waited (standing_at now.standings n) seal) (may-put n life s) ∙ ap (λ t. may_live before.begun n life && has_waited t seal) s.standing

  due-put : (n life : ℕ) (seal : Option Seal) → StaysPut n before now → (rights_living now).due n life seal ≡ (rights_living before).due n life seal
  due-put n life seal s = ap (λ b. b && is_waiting (standing_at now.standings n)) (may-put n life s) ∙ ap (λ t. may_live before.begun n life && is_waiting t) s.standing

  -- It passes the tests that it passed: that it may be used again, that it waits, and that it has been mine since a stamp.
  reusable-put : (u : Token) → StaysPut u.number before now → Passes (tests_by (rights_living before)) 0 u → Passes (tests_by (rights_living now)) 0 u
  reusable-put u s h =
      both ((rights_living before).mine u.number) ((rights_living before).settled u.number u.life u.seal) ((rights_living now).mine u.number) ((rights_living now).settled u.number u.life u.seal)
      (λ m. mine-put u.number s ∙ m) (λ m. settled-put u.number u.life u.seal s ∙ m) h

  waits-put : (u : Token) → StaysPut u.number before now → Passes (tests_by (rights_living before)) 1 u → Passes (tests_by (rights_living now)) 1 u
  waits-put u s h =
      both ((rights_living before).mine u.number) ((rights_living before).due u.number u.life None && is_none u.seal) ((rights_living now).mine u.number) ((rights_living now).due u.number u.life None && is_none u.seal)
      (λ m. mine-put u.number s ∙ m) (both ((rights_living before).due u.number u.life None) (is_none u.seal) ((rights_living now).due u.number u.life None) (is_none u.seal) (λ m. due-put u.number u.life None s ∙ m) (λ m. m)) h

  since-put : (d : Domain) (x : ℕ) (u : Token) → StaysPut u.number before now → Passes (tests_by (rights_living before)) (since_test d x) u → Passes (tests_by (rights_living now)) (since_test d x) u
  since-put d x u s h =
      since-is (rights_living now) d x u.number u.life u.seal
      ∙ both ((rights_living before).mine u.number) ((rights_living before).since d x u.number) ((rights_living now).mine u.number) ((rights_living now).since d x u.number)
      (λ m. mine-put u.number s ∙ m) (λ m. ap (counts_for d x) s.standing ∙ m) (sym (since-is (rights_living before) d x u.number u.life u.seal) ∙ h)

  -- ---- all units of a processor

  either-put : (u : Token) → StaysPut u.number before now → Either (tests_by (rights_living before)) u → Either (tests_by (rights_living now)) u
  either-put u s (inl h) = inl (reusable-put u s h)
  either-put u s (inr h) = inr (waits-put u s h)

  suits-put : (k : Stack) (u : Token) → StaysPut u.number before now → Suits (tests_by (rights_living before)) k u → Suits (tests_by (rights_living now)) k u
  suits-put Free u s h = reusable-put u s h
  suits-put Extra u s h = reusable-put u s h
  suits-put Ready u s h = reusable-put u s h
  suits-put Delayed u s h = waits-put u s h
  suits-put Extra_delayed u s h = waits-put u s h
  suits-put First u s h = waits-put u s h
  suits-put Second u s h = either-put u s h

  -- each unit stands where it suits
  proper-put : (s : State Token) → Each (λ c k u. StaysPut u.number before now) (λ u. StaysPut u.number before now) s → Proper (tests_by (rights_living before)) s → Proper (tests_by (rights_living now)) s
  proper-put s e p = record {
    lists = λ c k i u n. suits-put k (get_or (list_at k (s.rows c)) i u) (e.lists c k i u n) (p.lists c k i u n);
    hands = λ l i u n. either-put (get_or (s.sides l).hand i u) (e.hands l i u n) (p.hands l i u n);
  }

  all-since : (d : Domain) (x : ℕ) (us : List Token) → All (λ u. StaysPut u.number before now) us → All (Passes (tests_by (rights_living before)) (since_test d x)) us → All (Passes (tests_by (rights_living now)) (since_test d x)) us
  all-since d x us s h i u n = since-put d x (get_or us i u) (s i u n) (h i u n)

  -- each batch that has its stamp is of units that have been mine since then
  dated-put : (s : State Token) → Each (λ c k u. StaysPut u.number before now) (λ u. StaysPut u.number before now) s → Dated (tests_by (rights_living before)) s → Dated (tests_by (rights_living now)) s
  dated-put s e h k = record {
    plain = λ x y. all-since Plain (suc x) (s.rows k).deferred.first (e.lists k First) ((h k).plain x y);
    tracing = λ x y. all-since Tracing (suc x) (s.rows k).deferred.second (e.lists k Second) ((h k).tracing x y);
    some = (h k).some;
    settled = λ i u n. reusable-put (get_or (s.rows k).deferred.second i u) (e.lists k Second i u n) ((h k).settled i u n);
  }

-- ---- the processor

tells-words : (s : Parts) (a b : Known) (log : Option Log) → b.grace.processor ≡ a.grace.processor → ((d : Domain) → (side d b).word ≡ (side d a).word) → IfSome log (Tells s a) → IfSome log (Tells s b)
tells-words s a b None q w t = tt
tells-words s a b (Some es) q w t = record { done = subst (λ (n : ℕ). HandlersDone s n es) (sym q) t.done; last = λ d. t.last d ∙ sym (w d) }

ready-alone : (p : Program) (m : Processor LivingState) (w : LivingState) → w.side.grace.processor ≡ m.side.side.grace.processor → word_of knows_living Plain (with_side m w) ≡ word_of knows_living Plain m → asked_of knows_living p.scenario.now (with_side m w) < 2 ^ 22 → m.side.asked ≤ w.asked → AreStocked (declared_in p.scenario.now) (known_living w).objects → IsReady knows_living p m → IsReady knows_living p (with_side m w)
ready-alone p m w same word asks more stocked r = record {
  fits = r.fits;
  here = r.here ∙ sym same;
  scripts = r.scripts;
  planned = r.planned;
  bound = r.bound;
  tables = r.tables;
  room_running = r.room_running;
  room_tables = r.room_tables;
  asks = asks;
  words = (let F : ℕ → Type 0 = λ k. k + 2 * length (left_of m) < 2 ^ 28 in subst F (sym word) r.words);
  inside = ap (λ k. k % 2) word ∙ r.inside;
  calls = (let c = r.calls in omega (arith, c, more));
  stocked = stocked;
}

pub fine-alone : (m : Processor LivingState) (w : LivingState) → IsLeftAlone (shown m.caches) m.side w → FineAt knows_living 0 m → FineAt knows_living 0 (with_side m w)
fine-alone m w a f = record {
  placed = f.placed;
  ready = f.ready;
  proper = proper-put m.side w (shown m.caches) a.units f.proper;
  aimed = subst (λ n. Aimed n m.caches) (sym a.processors) f.aimed;
}

-- Ordinary code can go on on it, if few enough objects and works are asked for, whoever asked for them.
pub sound-alone : (p : Program) (m : Processor LivingState) (w : LivingState) → IsLeftAlone (shown m.caches) m.side w → asked_of knows_living p.scenario.now (with_side m w) < 2 ^ 22 → AreStocked (declared_in p.scenario.now) (known_living w).objects → Sound knows_living p m → Sound knows_living p (with_side m w)
sound-alone p m w a asks stocked s = record {
  at = record {
    at = (let F : ℕ → Type 0 = λ n. Running StandsAt 0 n p.scenario.now m.handlers.planned m.running.items (log_of m) in subst F (sym a.processor) s.at.at);
    tells = tells-words p.scenario.now (known_of knows_living m) (known_living w) (log_of m) a.processor a.words s.at.tells;
    counts = s.at.counts;
    ready = ready-alone p m w a.processor (a.words Plain) asks a.asked stocked s.at.ready;
  };
  fine = fine-alone m w a s.fine;
  dated = dated-put m.side w (shown m.caches) a.units s.dated;
  stamped = s.stamped;
  begins = λ d. (let b = s.begins d in let more = a.begins d in omega (arith, b, more));
}

-- The turn of another processor leaves it so.
pub sound-in-turn : (p q : ℕ) → q ≢ p → (story : Story) (places : World) (a w : LivingState) (g : Program) (k : Kept) → IsTurnOf p story places a w → KeepsFor q (deeds story) a w → places.lists q ≡ seen number_of (shown k.caches) → q < a.side.grace.processors → asked_of knows_living g.scenario.now (in_its_turn k (at_turn q w)) < 2 ^ 22 → AreStocked (declared_in g.scenario.now) (known_living w).objects → Sound knows_living g (in_its_turn k (at_turn q a)) → Sound knows_living g (in_its_turn k (at_turn q w))
sound-in-turn p q ne story places a w g k t keeps lists turn asks stocked s = sound-alone g (in_its_turn k (at_turn q a)) (at_turn q w) (turn-left p q ne story places a w (shown k.caches) t keeps lists turn) asks stocked s
