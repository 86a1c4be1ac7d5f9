-- A stretch of one processor's log goes into the order, and leaves the other processors alone.
use Rattle.std.specs.Prelude.{◌≢◌, get_or, set, length}
use Rattle.std.proofs.Common.{◌≡◌, ◌<◌, ◌⊎◌, ℕ, Bool, List, None, [], ◌∷◌, ◌++◌, sym, ◌∙◌, ap, subst, append_assoc, inl, inr}
use Rattle.std.proofs.lemmas.Bool.{cases_eq}
use Rattle.std.proofs.lemmas.List.{append_cancel_left, get_or-set_other, get_or-set_same, length-set}
use Rattle.bm_law.specs.Lists.{Leaves, Log, after}
use Rattle.bm_law.specs.State.{State, opening, seen}
use Rattle.bm_law_laid.specs.OrderOf.{AllBelow, IsOrderOf}
use Rattle.bm_law_order.specs.Calls.{lock_in}
use Rattle.bm_law_order.specs.Orders.{AllFit, Order, by, part_of}
use Rattle.bm_law_order.specs.Tie.{Tied}
use Rattle.bm_law_order.specs.Story.{lines}
use Rattle.bm_law_places.specs.World.{AllFound, SweepsInbox, World, outset, world_after, world_over}
use Rattle.bm_law_places.proofs.Standing.{lists-of, shared-of, standing-outset, standing-over}
use Rattle.bm_law_places.proofs.Logs.{found-join}
use Rattle.bm_law_seals.specs.Answered.{AreAnswered}
use Rattle.bm_cache.specs.Tokens.{number_of}
use Rattle.bm_world.specs.LivingState.{LivingState}
use Rattle.bm_world.specs.Told.{IsSideOf}
use Rattle.bm_world.specs.ToldLiving.{knows_living}
use Rattle.bm_exec_levels.specs.AtPolls.{DoesHere, polled, tied-bare}
use Rattle.bm_run.specs.LeftAlone.{IsTold}
use Rattle.bm_run.specs.LogsSoFar.{AnswersAll, LogsSoFar, Stretched}
use Rattle.bm_run.specs.SoFar.{SoFar, at_turn}
use Rattle.bm_run.proofs.AddedParts.{part-added, part-kept}
use Rattle.bm_run.proofs.BatchesTold.{tied-answers-since}
use Rattle.bm_run.proofs.Laid.{added-lines}
use Rattle.bm_run.proofs.LeftAlone.{turn-left}
use Rattle.bm_run.proofs.TurnsTold.{turn-told}
use Rattle.bm_run.proofs.TurnTaken.{next-turn, side-at, so-far-at, so-many}

-- ---- the logs

below-append : (n : ℕ) (a b : Order) → AllBelow n a → AllBelow n b → AllBelow n (a ++ b)
below-append n [] b h k = k
below-append n (e ∷ a) b h k = (h.0, below-append n a b h.1 k)

below-by : (n p : ℕ) (log : Log) → p < n → AllBelow n (by p log)
below-by n p [] lt = tt
below-by n p (e ∷ log) lt = (lt, below-by n p log lt)

-- the order of logs of which one has grown
pub order-grown : (p : ℕ) (logs : List Log) (o : Order) (added : Log) → p < length logs → IsOrderOf logs o → IsOrderOf (set logs p (get_or logs p [] ++ added)) (o ++ by p added)
order-grown p logs o added lt h =
    let many : length (set logs p (get_or logs p [] ++ added)) ≡ length logs = length-set logs p _ in
    record {
      below = subst (λ n. AllBelow n (o ++ by p added)) (sym many) (below-append (length logs) o (by p added) h.below (below-by (length logs) p added lt));
      parts = λ q there. part q (subst (λ n. q < n) many there) (cases_eq q p);
    }
  where
    part : (q : ℕ) → q < length logs → (q ≡ p) ⊎ (q ≢ p) → part_of q (o ++ by p added) ≡ get_or (set logs p (get_or logs p [] ++ added)) q []
    part q there (inl same) =
        subst (λ r. part_of r (o ++ by p added) ≡ get_or (set logs p (get_or logs p [] ++ added)) r []) (sym same)
        (part-added p o added ∙ (ap (λ (z : Log). z ++ added) (h.parts p lt) ∙ sym (get_or-set_same logs p (get_or logs p [] ++ added) [] lt)))
    part q there (inr ne) = part-kept p q o added ne ∙ (h.parts q there ∙ sym (get_or-set_other logs p q (get_or logs p [] ++ added) [] ne))

answers-grown : (p : ℕ) (logs : List Log) (added : Log) → p < length logs → ((q : ℕ) → AnswersAll (get_or logs q [])) → AnswersAll added → (q : ℕ) → AnswersAll (get_or (set logs p (get_or logs p [] ++ added)) q [])
answers-grown p logs added lt before here q = by (cases_eq q p)
  where
    own : AnswersAll (get_or logs p [] ++ added)
    own rest r = subst AreAnswered (sym (append_assoc (get_or logs p []) added rest)) (before p (added ++ rest) (here rest r))

    by : (q ≡ p) ⊎ (q ≢ p) → AnswersAll (get_or (set logs p (get_or logs p [] ++ added)) q [])
    by (inl same) = subst (λ r. AnswersAll (get_or (set logs p (get_or logs p [] ++ added)) r [])) (sym same) (subst AnswersAll (sym (get_or-set_same logs p (get_or logs p [] ++ added) [] lt)) own)
    by (inr ne) = subst AnswersAll (sym (get_or-set_other logs p q (get_or logs p [] ++ added) [] ne)) (before q)

-- ---- the world of all lists

-- where each entry of an order found what it needed, and it leads to what a world tells
pub order-told : (n pages : ℕ) (o : Order) (world : LivingState) → SoFar n pages o world → AllFound o (outset n pages) → IsTold (world_over o (outset n pages)) world
order-told n pages o world h found = record {
  placed = standing-over o (outset n pages) (standing-outset n pages) found;
  told = shared-of o (outset n pages) ∙ h.leads.now_is;
  steady = h.steady;
}

-- ---- a stretch

pub stretched : (closing : Bool) (n pages p : ℕ) (o : Order) (logs : List Log) (log added : Log) (world now : LivingState) (s : State ℕ) → LogsSoFar n pages o logs world → p < n → log ≡ get_or logs p [] ++ added → lock_in log ≡ None →
    Tied (polled knows_living closing (get_or logs p []) (at_turn p world)) (DoesHere knows_living) (get_or logs p []) (at_turn p world) 0 [] [] log now → Leaves p (get_or logs p []) (after (opening p) (get_or logs p [])) → Leaves p log s →
    AllFit world_after SweepsInbox (by p added) (world_over o (outset n pages)) → Stretched n pages p o logs added world now
stretched closing n pages p o logs log added world now s h lt log_is free tie before leaves sweeps =
    let since : Log = get_or logs p [] in
    let start = at_turn p world in
    let there : p < length logs = subst (λ k. p < k) (sym h.many) lt in
    let part : part_of p o ≡ since = h.order_of.parts p there in
    let many : p < world.side.grace.processors = subst (λ k. p < k) (sym (so-many n pages o world h.so_far)) lt in
    let his : IsSideOf p start.side = side-at p h.turn world many h.side in
    let t = next-turn closing n pages p h.turn o since log world now h.so_far h.side lt part free tie in
    let same : t.added ≡ added = append_cancel_left since t.added added (sym t.log_is ∙ log_is) in
    let bare = tied-bare knows_living (polled knows_living closing since start) since start 0 [] [] log now tie in
    let said : added ≡ lines bare.story = added-lines (polled knows_living closing since start) since added log start now log_is bare in
    let places : World = world_over o (outset n pages) in
    let told : IsTold places start = order-told n pages o start (so-far-at n pages p o world h.so_far) h.found in
    let own : places.lists p ≡ after (opening p) since = lists-of p o (outset n pages) ∙ ap (after (opening p)) part in
    let turned = turn-told (polled knows_living closing since start) p since log places start now s bare told his (subst (Leaves p since) (sym own) before) leaves (subst (λ (z : Log). AllFit world_after SweepsInbox (by p z) places) said sweeps) in
    let found : AllFound (by p added) places = subst (λ (z : Log). AllFound (by p z) places) (sym said) turned.turn.found in
    record {
      so_far = record {
        many = length-set logs p (since ++ added) ∙ h.many;
        order_of = order-grown p logs o added there h.order_of;
        so_far = subst (λ (z : Log). SoFar n pages (o ++ by p z) now) same t.so_far;
        found = found-join o (by p added) (outset n pages) h.found found;
        answers = answers-grown p logs added there h.answers (tied-answers-since (polled knows_living closing since start) since added log start now log_is bare);
        turn = p;
        side = t.stays;
      };
      alone = λ q few ne lists shows.
          let other : places.lists q ≡ seen number_of lists = lists-of q o (outset n pages) ∙ (ap (after (opening q)) (h.order_of.parts q (subst (λ k. q < k) (sym h.many) few)) ∙ sym shows) in
          turn-left p q ne bare.story places start now lists turned.turn (turned.keeps q ne) other (subst (λ k. q < k) (sym (so-many n pages o world h.so_far)) few);
    }
