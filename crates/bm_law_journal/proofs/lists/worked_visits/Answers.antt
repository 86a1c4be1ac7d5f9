use Rattle.std.proofs.Common.{◌≡◌, ℕ, List, [], ◌∷◌, ◌++◌, None, Some, arith, codes, false, inl, inr, subst, true}
use Rattle.bm_journal.specs.declared.journal.Journal.{Journal}
use Rattle.bm_journal.specs.declared.past.Past.{Past}
use Rattle.bm_law.specs.Lists.{Log}
use Rattle.bm_law_graphs.specs.Shelves.{IsShelved, nothing_shelved, shelved_after}
use Rattle.bm_law_order.specs.Orders.{over}
use Rattle.bm_law_order.specs.Whole.{whole}
use Rattle.bm_law_scenario.specs.WorkedLists.{pushes, reads_a}
use Rattle.bm_law_scenario.specs.WorkedVisit.{empties_q, log_with, visit_entries, visited, visited_journal, visited_log}
use Rattle.bm_law_journal.specs.Lawful.{Laid, history_of}
use Rattle.bm_law_journal.proofs.Visited.{one, one-grace, one-graphs, one-histories, one-laid, one-lives, one-owned, one-placed, one-polled, one-references, one-returns, one-sealed, one-shelved, one-stamps, one-within, one_order}
use Rattle.bm_law_journal.proofs.lists.worked_visits.Goals as goal

pub returns-clause-lawful : goal.returns-clause-lawful
returns-clause-lawful c = record {
  logs = c.worked_visit.ensures.visited;
  lives = one-lives;
  returns = one-returns;
  grace = one-grace;
  stamps = one-stamps;
  references = one-references;
  slots = λ slot. c.slots_law.ensures.logs slot one one_order (c.whole_law.ensures [] one) one-owned;
  reads = c.reads_law.ensures.logs one one_order (c.whole_law.ensures [] one) one-owned;
  graphs = one-graphs (c.graphs_law.ensures.logs visited_journal.maps one one_order (c.whole_law.ensures [] one) one-shelved one-within);
}

pub returns-clause-laid : goal.returns-clause-laid
returns-clause-laid c = record {
  laid = one-laid;
  placed = one-placed;
  polled = one-polled;
  sealed = one-sealed;
  owned = one-owned;
  shelved = one-shelved;
  histories = one-histories;
}

-- ---- wrong ones

of-shelved : (log : Log) (j : Journal) → j.logs ≡ log ∷ [] → Laid visited j → IsShelved j.maps (whole [] (log ∷ []))
of-shelved log j e h = subst (λ (x : List Log). IsShelved j.maps (whole [] x)) e h.shelved

none-some : (n : ℕ) → None ≡ Some n → ⊥
none-some n e = absurd (cc)

false-true : false ≡ true → ⊥
false-true e = absurd (cc)

not-unlocked : (maps : List (List ℕ)) → IsShelved maps (whole [] (log_with (pushes ++ reads_a) (empties_q 1) ∷ [])) → ⊥
not-unlocked maps h = elim h.1.1.1.1.1.1.1.1.1.1.0.2.guarded [ inl held ↦ none-some 0 held | inr closing ↦ false-true closing.closing ]

pub returns-clause-unlocked : goal.returns-clause-unlocked
returns-clause-unlocked c j e h = not-unlocked j.maps (of-shelved (log_with (pushes ++ reads_a) (empties_q 1)) j e h)

not-position : (maps : List (List ℕ)) → IsShelved maps (whole [] (log_with visit_entries (empties_q 2) ∷ [])) → ⊥
not-position maps h = (let e : 2 ≡ 1 = h.1.1.1.1.1.1.1.1.1.1.1.1.1.1.1.1.1.1.0.2.position in omega (arith, e))

pub returns-clause-position : goal.returns-clause-position
returns-clause-position c j e h = not-position j.maps (of-shelved (log_with visit_entries (empties_q 2)) j e h)

none-more : (p : Past) (h : List Past) → [] ≡ p ∷ h → ⊥
none-more p h e = absurd (cc)

abbrev made : List (List ℕ) → List Log → List Past
made maps logs = (over (shelved_after maps) (whole [] logs) nothing_shelved).shelves.histories (codes "q")

not-bare : (maps : List (List ℕ)) → [] ≡ made maps (visited_log ∷ []) → ⊥
not-bare maps e = none-more _ _ e

pub returns-clause-histories : goal.returns-clause-histories
returns-clause-histories c j e g h =
    let was : history_of j.graphs (codes "q") ≡ made j.maps j.logs = h.histories (codes "q") in
    let same : history_of j.graphs (codes "q") ≡ made j.maps (visited_log ∷ []) = subst (λ (x : List Log). history_of j.graphs (codes "q") ≡ made j.maps x) e was in
    not-bare j.maps (subst (λ (x : List (List ℕ × List Past)). history_of x (codes "q") ≡ made j.maps (visited_log ∷ [])) g same)
