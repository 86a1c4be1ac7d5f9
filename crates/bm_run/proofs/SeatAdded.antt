-- What a turn adds to its processor's log: it is the piece of the turn, in which nothing is swept, and handlers neither send nor stamp.
use Rattle.std.proofs.Common.{◌≡◌, ℕ, Bool, true, false, List, [], ◌∷◌, ◌++◌, Option, Some, sym, ◌∙◌, ap, subst, append_assoc}
use Rattle.bm_journal.specs.declared.entry.Entry.{Entry}
use Rattle.bm_journal.specs.declared.entry.Entry.TheVariants as entry
use Rattle.bm_lang.specs.declared.scenario.Parts.{Parts}
use Rattle.bm_check.specs.Scripts.{AllAccepted}
use Rattle.bm_law.specs.Lists.{Log}
use Rattle.bm_law.specs.Spans.{own_entries}
use Rattle.bm_law.proofs.Spans.{own-append}
use Rattle.bm_law_work.proofs.Each.{AllOf, of-append}
use Rattle.bm_due.specs.Standing.{HandlersStand}
use Rattle.bm_law_scenario.specs.CallEntries.{IsOfHandler}
use Rattle.bm_law_scenario.specs.Handlers.{HandlersDone}
use Rattle.bm_law_scenario.proofs.EachLevel.{AllAbove, above-back, above-map, handlers-above}
use Rattle.bm_exec.specs.Yields.{AllInTurn, IsInTurn, Unyielding, YieldsLast}
use Rattle.bm_exec_levels.specs.AtProcessor.{log_of}
use Rattle.bm_exec_levels.specs.Ready.{known_of}
use Rattle.bm_exec_levels.specs.Sound.{Sound}
use Rattle.bm_exec_levels.specs.declared.processor.Processor.{Processor}
use Rattle.bm_exec_levels.specs.declared.program.Program.{Program}
use Rattle.bm_world.specs.LivingState.{LivingState}
use Rattle.bm_world.specs.ToldLiving.{knows_living}
use Rattle.bm_run.specs.InTurns.{IsPiece}
use Rattle.bm_run.specs.LeftAlone.{AllUnswept, IsUnswept}
use Rattle.bm_run.specs.SeatTurn.{HasCeased, HasYielded, has_gone}
use Rattle.bm_run.specs.declared.turns.Remaining.{Remaining}
use Rattle.bm_run.proofs.BatchesTold.{LowStamp, all-unswept, handler-low, handler-sends, handler-unswept}
use Rattle.bm_run.proofs.SealsTold.{LowSend}
use Rattle.bm_run.proofs.SeatAfter.{done-here, last-of, said-last, same-log, stands-here}
use Rattle.bm_run.proofs.TurnPieces.{ended-turn, yielded-turn}

pub record Added (ends : Bool) (since log : Log) : Type 0 where
  pub added : Log
  pub log_is : log ≡ since ++ added
  pub piece : IsPiece ends added
  pub unswept : AllUnswept added
  pub sends : AllAbove LowSend added
  pub stamps : AllAbove LowStamp added

turn-unswept : (e : Entry) → IsInTurn e → IsUnswept e
turn-unswept (entry.Sweep c us) h = absurd h
turn-unswept _ h = tt

own-unswept : (own : List Entry) → AllInTurn own → AllOf IsUnswept own
own-unswept [] h = tt
own-unswept (e ∷ own) h = (turn-unswept e h.0, own-unswept own h.1)

-- of a log in which handlers stand and left their phrases
added-so : (ends : Bool) (s : Parts) (p : ℕ) (since added log : Log) → HandlersStand s p log → HandlersDone s p log → log ≡ since ++ added → IsPiece ends added → AllOf IsUnswept (own_entries 0 added) → Added ends since log
added-so ends s p since added log stand done is piece own =
    let handlers : AllAbove IsOfHandler added = above-back IsOfHandler since added (subst (AllAbove IsOfHandler) is (handlers-above s p log stand done)) in
    record {
      added = added;
      log_is = is;
      piece = piece;
      unswept = all-unswept added own (above-map IsOfHandler IsUnswept handler-unswept added handlers);
      sends = above-map IsOfHandler LowSend handler-sends added handlers;
      stamps = above-map IsOfHandler LowStamp handler-low added handlers;
    }

module _ (g : Program) (p : ℕ) (m n : Processor LivingState) (r r' : Remaining) (since log : Log) (before : log_of m ≡ Some since) (now : log_of n ≡ Some log) (first : (known_of knows_living n).grace.processor ≡ p) (sound : Sound knows_living g n) where
  abbrev s : Parts
  s = g.scenario.now

  accepted : AllAccepted s
  accepted = sound.at.ready.fits.accepted

  stand : HandlersStand s p log
  stand = stands-here g p n log first sound now

  done : HandlersDone s p log
  done = done-here g p n log first sound now

  yielded-added : HasYielded g m r n r' → Added false since log
  yielded-added h =
      let t : YieldsLast 0 (Some since) (Some log) = subst (λ (o : Option Log). YieldsLast 0 (Some since) o) now (subst (λ (o : Option Log). YieldsLast 0 o (log_of n)) before h.turn) in
      let k = t.records in
      let is : log ≡ since ++ k.added = k.now_is ∙ ap (λ (z : Log). z ++ k.added) (sym (same-log since k.log k.told)) in
      let own : AllOf IsUnswept (own_entries 0 k.added) = subst (AllOf IsUnswept) (sym k.owned) (of-append IsUnswept t.own (entry.Yield ∷ []) (own-unswept t.own t.none) (tt, tt)) in
      added-so false s p since k.added log stand done is (yielded-turn s p since k.added log accepted stand done is t) own

  ceased-added : HasCeased g m r n r' → Added true since log
  ceased-added h =
      let said = said-last g p m n r r' h log now in
      let front : Log = said.0 in
      let t : Unyielding 0 (Some since) (Some front) = subst (λ (o : Option Log). Unyielding 0 (Some since) o) said.1 (subst (λ (o : Option Log). Unyielding 0 o (log_of h.last)) before h.turn) in
      let k = t.records in
      let is : front ≡ since ++ k.added = k.now_is ∙ ap (λ (z : Log). z ++ k.added) (sym (same-log since k.log k.told)) in
      let end : Log = (0, entry.Ended) ∷ [] in
      let all : log ≡ since ++ (k.added ++ end) = said.2 ∙ (ap (λ (z : Log). z ++ end) is ∙ append_assoc since k.added end) in
      let piece = ended-turn s p since k.added front accepted (stands-here g p h.last front (last-of g p m n r r' h first) h.sound said.1) (done-here g p h.last front (last-of g p m n r r' h first) h.sound said.1) is t in
      let own : AllOf IsUnswept (own_entries 0 (k.added ++ end)) =
      subst (AllOf IsUnswept) (sym (own-append 0 k.added end ∙ ap (λ (z : List Entry). z ++ entry.Ended ∷ []) k.owned)) (of-append IsUnswept t.own (entry.Ended ∷ []) (own-unswept t.own t.none) (tt, tt)) in
      added-so true s p since (k.added ++ end) log stand done all piece own

  pub gone-added : (ended : Bool) → has_gone ended g m r n r' → Added ended since log
  gone-added false h = yielded-added h
  gone-added true h = ceased-added h
