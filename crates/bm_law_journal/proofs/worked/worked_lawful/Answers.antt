use Rattle.std.proofs.Common.{◌≡◌, ℕ, List, [], refl, subst, suc, zero}
use Rattle.std.specs.Prelude.{get_or}
use Rattle.bm_law_objects.specs.ReadsLaw.{ReadsLaw}
use Rattle.bm_law_objects.specs.ReferenceLaw.{ReferenceLaw}
use Rattle.bm_law_objects.specs.SlotChain.{SlotChain, exchanges, of_processor}
use Rattle.bm_law_objects.specs.Worked.{one_slot}
use Rattle.bm_journal.specs.declared.journal.Journal.{Journal}
use Rattle.bm_journal.specs.declared.past.Past.{Past}
use Rattle.bm_lang.specs.declared.scenario.Parts.{Parts}
use Rattle.bm_law.specs.Lists.{Log}
use Rattle.bm_law_graphs.specs.History.{GraphHistory}
use Rattle.bm_law_graphs.specs.Keys.{KeysLaw}
use Rattle.bm_law_graphs.specs.Locks.{LocksLaw}
use Rattle.bm_law_graphs.specs.Takes.{TakesLaw}
use Rattle.bm_law_graphs.specs.Worked.{list_order, logs_of as logs_of_lists, q, r, t, two_lists}
use Rattle.bm_law_graphs.specs.Wrong.{call_left_out, other_key, popped_early}
use Rattle.bm_law_journal.specs.Lawful.{Lawful, history_of}
use Rattle.bm_law_scenario.specs.WorkedDeferred.{one_block_journal}
use Rattle.bm_law_scenario.specs.WorkedDrops.{counted_journal}
use Rattle.bm_law_lives.specs.GraceLaw.{WholeGrace}
use Rattle.bm_law_lives.specs.Lives.{WholeLives}
use Rattle.bm_law_lives.specs.Returns.{ReturnsLaw}
use Rattle.bm_law_lives.specs.StampLaw.{StampLaw}
use Rattle.bm_law_journal.proofs.Shared.{shared-grace, shared-lives, shared-references, shared-returns, shared-stamps}
use Rattle.bm_law_journal.proofs.Ungraphed.{one_block-graphs, shared-graphs}
use Rattle.bm_law_journal.proofs.worked.worked_lawful.Goals as goal

no-exchange : (slot : List ℕ) (p : ℕ) → of_processor p [] ≡ exchanges slot p (get_or one_block_journal.logs p [])
no-exchange slot zero = refl
no-exchange slot (suc p) = refl

-- the history that a journal has of a list
on-journal : (name : List ℕ) (s : Parts) (j : Journal) (history : List Past) (logs : List Log) → j.maps ≡ two_lists → history_of j.graphs name ≡ history → j.logs ≡ logs → Lawful s j → GraphHistory two_lists name history logs
on-journal name s j history logs m g e h =
    subst (λ z. GraphHistory two_lists name history z) e (subst (λ z. GraphHistory two_lists name z j.logs) g (subst (λ names. GraphHistory names name (history_of j.graphs name) j.logs) m (h.graphs.each name)))

pub returns-clause-one_block : goal.returns-clause-one_block
returns-clause-one_block c = record {
  logs = c.worked_deferred.ensures.one_block;
  lives = c.worked_lives.ensures.one_block;
  returns = c.worked_returns.ensures.one_block;
  grace = c.worked_grace.ensures.one_block;
  stamps = c.worked_stamps.ensures.one_block;
  references = λ u life k. refl;
  slots = λ slot. record { chain = []; follow = tt; parts = no-exchange slot };
  reads = tt;
  graphs = one_block-graphs;
}

no-exchange-shared : (slot : List ℕ) (p : ℕ) → of_processor p [] ≡ exchanges slot p (get_or counted_journal.logs p [])
no-exchange-shared slot zero = refl
no-exchange-shared slot (suc p) = refl

pub returns-clause-shared : goal.returns-clause-shared
returns-clause-shared c = record {
  logs = c.worked_drops.ensures.journal;
  lives = shared-lives;
  returns = shared-returns;
  grace = shared-grace;
  stamps = shared-stamps;
  references = shared-references;
  slots = λ slot. record { chain = []; follow = tt; parts = no-exchange-shared slot };
  reads = tt;
  graphs = shared-graphs;
}

pub returns-clause-given_twice : goal.returns-clause-given_twice
returns-clause-given_twice c s j e h = c.worked_lives.ensures.given_twice (subst WholeLives e h.lives).law

pub returns-clause-never_ended : goal.returns-clause-never_ended
returns-clause-never_ended c s j e h = c.worked_lives.ensures.never_ended (subst WholeLives e h.lives)

pub returns-clause-other_home : goal.returns-clause-other_home
returns-clause-other_home c s j e h = c.worked_lives.ensures.other_home (subst WholeLives e h.lives).law

pub returns-clause-never_returned : goal.returns-clause-never_returned
returns-clause-never_returned c s j e h = c.worked_returns.ensures.never_returned (subst ReturnsLaw e h.returns)

pub returns-clause-never_received : goal.returns-clause-never_received
returns-clause-never_received c s j e h = c.worked_returns.ensures.never_received (subst ReturnsLaw e h.returns)

pub returns-clause-ends_in_section : goal.returns-clause-ends_in_section
returns-clause-ends_in_section c s j e h = c.worked_grace.ensures.ends_in_section (subst WholeGrace e h.grace).law

pub returns-clause-sealed_though_plain : goal.returns-clause-sealed_though_plain
returns-clause-sealed_though_plain c s j e h = c.worked_stamps.ensures.sealed_though_plain (subst StampLaw e h.stamps)

pub returns-clause-returned_too_early : goal.returns-clause-returned_too_early
returns-clause-returned_too_early c s j e h = c.worked_stamps.ensures.returned_too_early (subst StampLaw e h.stamps)

pub returns-clause-other_count : goal.returns-clause-other_count
returns-clause-other_count c s j e h = c.wrong_laws.ensures.count (subst ReferenceLaw e h.references)

pub returns-clause-still_twice : goal.returns-clause-still_twice
returns-clause-still_twice c s j e h = c.wrong_laws.ensures.still (subst ReferenceLaw e h.references)

pub returns-clause-two_first : goal.returns-clause-two_first
returns-clause-two_first c s j e h = c.wrong_laws.ensures.two_first (subst (SlotChain one_slot) e (h.slots one_slot))

pub returns-clause-lost_exchange : goal.returns-clause-lost_exchange
returns-clause-lost_exchange c s j e h = c.wrong_laws.ensures.lost (subst (SlotChain one_slot) e (h.slots one_slot))

pub returns-clause-unknown_tag : goal.returns-clause-unknown_tag
returns-clause-unknown_tag c s j e h = c.wrong_laws.ensures.unknown (subst (SlotChain one_slot) e (h.slots one_slot))

pub returns-clause-other_object : goal.returns-clause-other_object
returns-clause-other_object c s j e h = c.wrong_laws.ensures.object (subst (SlotChain one_slot) e (h.slots one_slot))

pub returns-clause-other_field : goal.returns-clause-other_field
returns-clause-other_field c s j e h = c.wrong_laws.ensures.field (subst ReadsLaw e h.reads)

pub returns-clause-handlers_object : goal.returns-clause-handlers_object
returns-clause-handlers_object c s j e h = c.wrong_laws.ensures.within (subst ReadsLaw e h.reads)

pub returns-clause-call_left_out : goal.returns-clause-call_left_out
returns-clause-call_left_out c s j m g e h = c.wrong_laws-2.ensures.left_out (on-journal q s j call_left_out (logs_of_lists list_order) m g e h)

pub returns-clause-early_reply : goal.returns-clause-early_reply
returns-clause-early_reply c s j m g e h = c.wrong_laws-2.ensures.reply (on-journal r s j popped_early (logs_of_lists list_order) m g e h)

pub returns-clause-other_key : goal.returns-clause-other_key
returns-clause-other_key c s j g e h = c.wrong_laws-2.ensures.key (subst (λ logs. KeysLaw other_key logs) e (subst (λ history. KeysLaw history j.logs) g (h.graphs.keys t)))

pub returns-clause-call_between : goal.returns-clause-call_between
returns-clause-call_between c s j e h = c.wrong_laws-2.ensures.between (subst LocksLaw e h.graphs.locks)

pub returns-clause-never_taken : goal.returns-clause-never_taken
returns-clause-never_taken c s j e h = c.wrong_laws-2.ensures.never (subst TakesLaw e h.graphs.takes)
