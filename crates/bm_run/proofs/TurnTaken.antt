-- What is so of the order of a run goes on by each turn: by what a processor's log adds while it is tied.
use Rattle.std.specs.Prelude.{◌⊎◌, ◌≢◌}
use Rattle.std.proofs.Common.{◌≡◌, ◌<◌, ℕ, Bool, None, false, [], ◌∷◌, ◌++◌, inl, inr, refl, sym, ◌∙◌, ap, subst}
use Rattle.std.proofs.lemmas.Bool.{cases_eq}
use Rattle.bm_law.specs.Lists.{Log}
use Rattle.bm_law_order.specs.Calls.{lock_in}
use Rattle.bm_law_order.specs.Graphs.{graph_names_in, history_in, standing_from}
use Rattle.bm_law_order.specs.Orders.{AllFit, Order, by, part_of, shared_over}
use Rattle.bm_law_order.specs.Seals.{nobody_waits, waiting_after}
use Rattle.bm_law_order.specs.Shared.{Shared, fresh, shared_after}
use Rattle.bm_law_order.specs.Slots.{named_in}
use Rattle.bm_law_order.specs.Story.{Steady, plainly}
use Rattle.bm_law_order.specs.Tie.{Tied}
use Rattle.bm_law_order.proofs.Along.{leads-join}
use Rattle.bm_law_scenario.proofs.EachLevel.{AllAbove}
use Rattle.bm_law_seals.specs.Batches.{BatchFits}
use Rattle.bm_world.specs.Contents.{are_apart}
use Rattle.bm_world.specs.LivingState.{LivingState}
use Rattle.bm_world.specs.Told.{IsSideOf}
use Rattle.bm_world.specs.ToldLiving.{fields_told, knows_living, told_living}
use Rattle.bm_exec_levels.specs.AtPolls.{DoesHere, polled, tied-bare}
use Rattle.bm_run.specs.SoFar.{MadeAs, SealedSoFar, SoFar, TurnTaken, at_turn}
use Rattle.bm_run.proofs.AddedParts.{part-added, part-kept}
use Rattle.bm_run.proofs.BatchesTold.{LowStamp, tied-batches-since}
use Rattle.bm_run.proofs.Laid.{fresh-leads, fresh-steady, tied-led-since}
use Rattle.bm_run.proofs.OwnedTold.{tied-owned-since}
use Rattle.bm_run.proofs.PollsTold.{tied-polled-since}
use Rattle.bm_run.proofs.SealsTold.{LowSend, tied-sealed-since}
use Rattle.bm_run.proofs.ShelvedTold.{tied-shelved-since}

-- ---- between two turns

-- so it is at the outset, of however many processors
pub fresh-so-far : (n pages : ℕ) (world : LivingState) → told_living world ≡ fresh n pages → world.contents ≡ [] → world.graphs ≡ [] → SoFar n pages [] world
fresh-so-far n pages world e c g = record {
  leads = fresh-leads n pages world e;
  steady = subst Steady (sym e) (fresh-steady n pages);
  polled = tt;
  owned = tt;
  made = λ u. subst (λ (s : Shared). MadeAs (s.lives.holds u) (s.lives.begun u) (fields_told world u) None) (sym e) tt;
  slots = sym (ap named_in c);
  apart = ap (λ gs. are_apart (graph_names_in gs)) g;
  shelved = tt;
  histories = sym (ap history_in g);
  within = sym (ap (standing_from 0) g);
  unlocked = λ name. refl;
  unheld = λ p. refl;
}

-- whose side the world is, is no matter
pub so-far-at : (n pages p : ℕ) (o : Order) (world : LivingState) → SoFar n pages o world → SoFar n pages o (at_turn p world)
so-far-at n pages p o world h = record { leads = h.leads; steady = h.steady; polled = h.polled; owned = h.owned; made = h.made; slots = h.slots; apart = h.apart; shelved = h.shelved; histories = h.histories; within = h.within; unlocked = h.unlocked; unheld = h.unheld }

pub sealed-at : (p : ℕ) (o : Order) (world : LivingState) → SealedSoFar o world → SealedSoFar o (at_turn p world)
sealed-at p o world h = record { waits = h.waits; sealed = h.sealed }

-- at the turn of a processor it is its side
pub side-at : (p q : ℕ) (world : LivingState) → p < world.side.grace.processors → IsSideOf q world.side → IsSideOf p (at_turn p world).side
side-at p q world lt h = record {
  post_is = refl;
  grace_is = refl;
  agree = h.agree;
  turn = lt;
  most = h.most;
  boxes = h.boxes;
  plain_words = h.plain_words;
  tracing_words = h.tracing_words;
}

-- there are as many processors as in the order
pub so-many : (n pages : ℕ) (o : Order) (world : LivingState) → SoFar n pages o world → world.side.grace.processors ≡ n
so-many n pages o world h = sym (ap (λ (s : Shared). s.processors) h.leads.now_is) ∙ same o (fresh n pages)
  where
    same : (o : Order) (s : Shared) → (shared_over o s).processors ≡ s.processors
    same [] s = refl
    same (e ∷ o) s = same o (shared_after e.processor e.level e.entry s)

-- ---- a turn

-- No log holds a lock where none did and the log of this turn holds none.
unheld-added : (p : ℕ) (o : Order) (added : Log) → ((q : ℕ) → lock_in (part_of q o) ≡ None) → lock_in (part_of p o ++ added) ≡ None → (q : ℕ) → lock_in (part_of q (o ++ by p added)) ≡ None
unheld-added p o added h own q = by-case (cases_eq q p)
  where
    by-case : (q ≡ p) ⊎ (q ≢ p) → lock_in (part_of q (o ++ by p added)) ≡ None
    by-case (inl same) = subst (λ r. lock_in (part_of r (o ++ by p added)) ≡ None) (sym same) (ap lock_in (part-added p o added) ∙ own)
    by-case (inr ne) = ap lock_in (part-kept p q o added ne) ∙ h q

pub turn-taken : (closing : Bool) (n pages p : ℕ) (o : Order) (since log : Log) (start now : LivingState) → SoFar n pages o start → IsSideOf p start.side → part_of p o ≡ since → lock_in log ≡ None →
    Tied (polled knows_living closing since start) (DoesHere knows_living) since start 0 [] [] log now → TurnTaken n pages p o since log now
turn-taken closing n pages p o since log start now h own part free t =
    let bare = tied-bare knows_living (polled knows_living closing since start) since start 0 [] [] log now t in
    let r = tied-led-since (polled knows_living closing since start) p 0 since log start now own h.steady bare in
    let told = tied-owned-since closing n pages p o since r.added log start now h.leads h.steady own part r.log_is bare h.owned h.made h.slots in
    let objects = told.0 in
    let before : lock_in since ≡ None = ap lock_in (sym part) ∙ h.unheld p in
    let shelves = tied-shelved-since closing p o since r.added log start now own.grace_is part r.log_is bare before free (record { apart = h.apart; shelved = h.shelved; histories = h.histories; within = h.within; unlocked = h.unlocked }) told.1 in
    record {
      added = r.added;
      log_is = r.log_is;
      so_far = record {
        leads = leads-join o (by p r.added) (fresh n pages) (plainly (told_living start)) (plainly (told_living now)) h.leads r.leads;
        steady = r.steady;
        polled = tied-polled-since n pages p o since start h.leads h.steady own part closing r.added log now r.log_is bare h.polled;
        owned = objects.0;
        made = objects.1.0;
        slots = objects.1.1;
        apart = shelves.apart;
        shelved = shelves.shelved;
        histories = shelves.histories;
        within = shelves.within;
        unlocked = shelves.unlocked;
        unheld = unheld-added p o r.added h.unheld (ap lock_in (ap (λ (z : Log). z ++ r.added) part ∙ sym r.log_is) ∙ free);
      };
      stays = (bare.done_is.did p own).stays;
    }

-- .. from a world that was another processor's side
pub next-turn : (closing : Bool) (n pages p q : ℕ) (o : Order) (since log : Log) (world now : LivingState) → SoFar n pages o world → IsSideOf q world.side → p < n → part_of p o ≡ since → lock_in log ≡ None →
    Tied (polled knows_living closing since (at_turn p world)) (DoesHere knows_living) since (at_turn p world) 0 [] [] log now → TurnTaken n pages p o since log now
next-turn closing n pages p q o since log world now h side lt part free t =
    let there : p < world.side.grace.processors = subst (λ k. p < k) (sym (so-many n pages o world h)) lt in
    turn-taken closing n pages p o since log (at_turn p world) now (so-far-at n pages p o world h) (side-at p q world there side) part free t

-- Before the closing, where sends are of ordinary code, units go on waiting for what is told, and are given with it.
pub turn-sealed : (p : ℕ) (o : Order) (since added log : Log) (start now : LivingState) → IsSideOf p start.side → part_of p o ≡ since → log ≡ since ++ added →
    Tied (polled knows_living false since start) (DoesHere knows_living) since start 0 [] [] log now → AllAbove LowSend added → SealedSoFar o start → SealedSoFar (o ++ by p added) now
turn-sealed p o since added log start now own part log_is t =
    tied-sealed-since p o since added log start now own.grace_is part log_is (tied-bare knows_living (polled knows_living false since start) since start 0 [] [] log now t)

-- .. and where stamps are, too, batches go away as they have to
pub turn-batches : (p : ℕ) (o : Order) (since added log : Log) (start now : LivingState) → IsSideOf p start.side → part_of p o ≡ since → log ≡ since ++ added →
    Tied (polled knows_living false since start) (DoesHere knows_living) since start 0 [] [] log now → AllAbove LowSend added → AllAbove LowStamp added → SealedSoFar o start → AllFit waiting_after BatchFits o nobody_waits → AllFit waiting_after BatchFits (o ++ by p added) nobody_waits
turn-batches p o since added log start now own part log_is t =
    tied-batches-since p o since added log start now own.grace_is part log_is (tied-bare knows_living (polled knows_living false since start) since start 0 [] [] log now t)
