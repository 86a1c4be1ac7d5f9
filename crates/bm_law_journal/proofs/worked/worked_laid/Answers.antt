use Rattle.std.proofs.Common.{◌≡◌, ℕ, List, [], Option, None, ap, sym, subst, ◌∙◌}
use Rattle.bm_journal.specs.declared.journal.Journal.{Journal}
use Rattle.bm_lang.specs.declared.scenario.Parts.{Parts}
use Rattle.bm_law.specs.Lists.{Log}
use Rattle.bm_law_order.specs.Orders.{IsLaid, Order}
use Rattle.bm_law_order.specs.Polls.{IsPolled}
use Rattle.bm_law_order.specs.Seals.{IsSealed}
use Rattle.bm_law_order.specs.Whole.{whole}
use Rattle.bm_law_lives.specs.Worked.{both_stages}
use Rattle.bm_law_places.specs.Placed.{IsPlaced}
use Rattle.bm_law_places.specs.WorkedPlaces.{sweeps_from_stock}
use Rattle.bm_law_lives.specs.Wrong.{no_seal, other_stamp, sealed_though_plain, sent_too_early, sent_unseen}
use Rattle.bm_law_graphs.specs.Uncalled.{CallNone}
use Rattle.bm_law_journal.specs.Lawful.{Laid, history_of, named_turns, order_of}
use Rattle.bm_law_objects.specs.Objects.{IsOwned}
use Rattle.bm_law_journal.proofs.Owned.{both_stages-owned}
use Rattle.bm_law_journal.proofs.worked.worked_laid.Goals as goal

order-is : (s : Parts) (j : Journal) (logs : List Log) → s.turns ≡ None → j.logs ≡ logs → order_of s j ≡ whole [] logs
order-is s j logs e f = ap (λ (t : Option (List ℕ)). whole (named_turns t) j.logs) e ∙ ap (whole []) f

-- what holds of one processor, one page and this order holds of the journal's
on-journal : (P : ℕ → ℕ → Order → Type 0) (s : Parts) (j : Journal) (logs : List Log) → s.turns ≡ None → j.processors ≡ 1 → j.pages ≡ 1 → j.logs ≡ logs → P 1 1 (whole [] logs) → P j.processors j.pages (order_of s j)
on-journal P s j logs e p q f h = subst (λ o. P j.processors j.pages o) (sym (order-is s j logs e f)) (subst (λ n. P n j.pages (whole [] logs)) (sym p) (subst (λ n. P 1 n (whole [] logs)) (sym q) h))

sealed : (s : Parts) (j : Journal) (logs : List Log) → s.turns ≡ None → j.logs ≡ logs → Laid s j → IsSealed (whole [] logs)
sealed s j logs e f h = subst IsSealed (order-is s j logs e f) h.sealed

uncalled : (s : Parts) (j : Journal) → s.turns ≡ None → j.logs ≡ both_stages → CallNone (order_of s j)
uncalled s j e f = subst CallNone (sym (order-is s j both_stages e f)) (search tt)

pub returns-clause-both_stages : goal.returns-clause-both_stages
returns-clause-both_stages c s j e p q f g = record {
  laid = on-journal IsLaid s j both_stages e p q f c.worked_journal.ensures;
  placed = on-journal IsPlaced s j both_stages e p q f c.worked_journal_places.ensures.both_stages;
  polled = on-journal IsPolled s j both_stages e p q f c.worked_polls.ensures.both_stages;
  sealed = on-journal (λ n m o. IsSealed o) s j both_stages e p q f c.worked_seals.ensures.both_stages;
  owned = on-journal (λ n m o. IsOwned o) s j both_stages e p q f both_stages-owned;
  shelved = c.uncalled_law.ensures.shelved j.maps (order_of s j) (uncalled s j e f);
  histories = λ name. ap (λ graphs. history_of graphs name) g ∙ sym (c.uncalled_law.ensures.histories j.maps (order_of s j) (uncalled s j e f) name);
}

pub returns-clause-no_seal : goal.returns-clause-no_seal
returns-clause-no_seal c s j e f h = c.worked_seals.ensures.no_seal (sealed s j no_seal e f h)

pub returns-clause-other_stamp : goal.returns-clause-other_stamp
returns-clause-other_stamp c s j e f h = c.worked_seals.ensures.other_stamp (sealed s j other_stamp e f h)

pub returns-clause-too_early : goal.returns-clause-too_early
returns-clause-too_early c s j e f h = c.worked_seals.ensures.too_early (sealed s j sent_too_early e f h)

pub returns-clause-unseen : goal.returns-clause-unseen
returns-clause-unseen c s j e f h = c.worked_seals.ensures.unseen (sealed s j sent_unseen e f h)

pub returns-clause-plain : goal.returns-clause-plain
returns-clause-plain c s j e f h = c.worked_seals.ensures.plain (sealed s j sealed_though_plain e f h)

pub returns-clause-swept : goal.returns-clause-swept
returns-clause-swept c s j e p q f h =
    let here : IsPlaced j.processors j.pages (whole [] sweeps_from_stock) = subst (λ o. IsPlaced j.processors j.pages o) (order-is s j sweeps_from_stock e f) h.placed in
    c.worked_journal_places.ensures.swept (subst (λ n. IsPlaced 1 n (whole [] sweeps_from_stock)) q (subst (λ n. IsPlaced n j.pages (whole [] sweeps_from_stock)) p here))
