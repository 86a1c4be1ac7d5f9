-- Logs of which an order is laid keep the law of grace periods.
use Rattle.std.proofs.Common.{◌≡◌, ℕ, suc, ◌<◌, ◌≤◌, List, [], ◌∷◌, get_or, take, length, map, Some, refl, sym, ◌∙◌, ap, subst, arith}
use Rattle.std.proofs.lemmas.List.{get_or-replicate}
use Rattle.bm_journal.specs.declared.ids.Domain.{Domain}
use Rattle.bm_journal.specs.declared.ids.Domain.TheVariants.{Plain, Tracing}
use Rattle.bm_law.specs.Lists.{Log}
use Rattle.bm_law_lives.specs.GraceLaw.{DomainLaw, GraceLaw, PeriodsFit, SectionsFit, last_word, last_words, no_driver}
use Rattle.bm_law_order.specs.ByDomain.{of}
use Rattle.bm_law_order.specs.Words.{Words, first_words, words_after}
use Rattle.bm_law_order.specs.Numbers.{first_numbers}
use Rattle.bm_law_order.specs.Looks.{in_turn, looked_at}
use Rattle.bm_law_order.specs.Shared.{Shared, found, fresh, shared_after}
use Rattle.bm_law_order.specs.Orders.{IsLaid, Order, over, part_of, shared_over}
use Rattle.bm_law_laid.specs.OrderOf.{IsOrderOf}
use Rattle.bm_law_laid.proofs.Each.{each-log}
use Rattle.bm_law_laid.proofs.Parts.{words-fit, words-over}
use Rattle.bm_law_laid.proofs.Words.{Has, has-after, last-word, sections-along, word_at}
use Rattle.bm_law_laid.proofs.PeriodsAlong.{Agrees, periods-along}
use Rattle.bm_law_laid.proofs.OverLogs.{logs-numbers}

-- ---- at the outset

first-word : (d : Domain) (p : ℕ) → p < 8 → word_at d p first_words ≡ 0
first-word Plain p lt = get_or-replicate 8 p 0 0 lt
first-word Tracing p lt = get_or-replicate 8 p 0 0 lt

first-has : (p : ℕ) → p < 8 → Has p first_words
first-has p lt = record { plain = lt; tracing = lt }

none-driven : (d : Domain) (p : ℕ) → (of d first_numbers).driver ≡ Some p → ⊥
none-driven Plain p e = cc
none-driven Tracing p e = cc

first-agrees : (d : Domain) (p processors pages : ℕ) → p < 8 → Agrees d p (fresh processors pages) no_driver
first-agrees d p processors pages lt = record {
  there = first-has p lt;
  plain = sym (first-word Plain p lt);
  tracing = sym (first-word Tracing p lt);
  progress = λ e. absurd (none-driven d p e);
}

-- ---- the last words

has-over : (p : ℕ) (o : Order) (words : Words) → Has p words → Has p (over words_after o words)
has-over p [] words h = h
has-over p (e ∷ o) words h = has-over p o (words_after e.processor e.level e.entry words) (has-after p e.processor e.level e.entry words h)

processors-over : (o : Order) (s : Shared) → (shared_over o s).processors ≡ s.processors
processors-over [] s = refl
processors-over (e ∷ o) s = processors-over o (shared_after e.processor e.level e.entry s)

take-map : (f : Log → ℕ) (logs : List Log) (xs : List ℕ) → ((p : ℕ) → p < length logs → p < length xs) → ((p : ℕ) → p < length logs → get_or xs p 0 ≡ f (get_or logs p [])) → take (length logs) xs ≡ map f logs
take-map f [] xs many h = refl
take-map f (log ∷ logs) [] many h = absurd (let none = many 0 (omega arith) in omega (arith, none))
take-map f (log ∷ logs) (x ∷ xs) many h =
    ap (λ y. y ∷ take (length logs) xs) (h 0 (omega arith))
    ∙ ap (λ ys. f log ∷ ys) (take-map f logs xs (λ p lt. let more = many (suc p) (omega (arith, lt)) in omega (arith, more)) (λ p lt. h (suc p) (omega (arith, lt))))

in-turn : (logs : List Log) → in_turn (map (λ log. last_word Plain 0 log) logs) (map (λ log. last_word Tracing 0 log) logs) ≡ last_words Tracing logs
in-turn [] = refl
in-turn (log ∷ logs) = ap (λ ws. last_word Plain 0 log ∷ last_word Tracing 0 log ∷ ws) (in-turn logs)

module _ (logs : List Log) (o : Order) (small : length logs ≤ 8) (is : IsOrderOf logs o) where
  below-eight : (p : ℕ) → p < length logs → p < 8
  below-eight p lt = omega (arith, lt, small)

  end-word : (d : Domain) (p : ℕ) → p < length logs → word_at d p (over words_after o first_words) ≡ last_word d 0 (get_or logs p [])
  end-word d p lt =
      sym (last-word d p o first_words (first-has p (below-eight p lt)))
      ∙ (ap (λ w. last_word d w (part_of p o)) (first-word d p (below-eight p lt)) ∙ ap (last_word d 0) (is.parts p lt))

  end-plain : take (length logs) (over words_after o first_words).plain ≡ map (λ log. last_word Plain 0 log) logs
  end-plain = take-map (λ log. last_word Plain 0 log) logs (over words_after o first_words).plain (λ p lt. (has-over p o first_words (first-has p (below-eight p lt))).plain) (λ p lt. end-word Plain p lt)

  end-tracing : take (length logs) (over words_after o first_words).tracing ≡ map (λ log. last_word Tracing 0 log) logs
  end-tracing = take-map (λ log. last_word Tracing 0 log) logs (over words_after o first_words).tracing (λ p lt. (has-over p o first_words (first-has p (below-eight p lt))).tracing) (λ p lt. end-word Tracing p lt)

  looked-end : (d : Domain) → looked_at (length logs) (over words_after o first_words) d ≡ last_words d logs
  looked-end Plain = end-plain
  looked-end Tracing =
      ap (λ ws. in_turn ws (take (length logs) (over words_after o first_words).tracing)) end-plain
      ∙ (ap (λ ws. in_turn (map (λ log. last_word Plain 0 log) logs) ws) end-tracing ∙ in-turn logs)

  found-end : (d : Domain) (pages : ℕ) → found (shared_over o (fresh (length logs) pages)) d ≡ last_words d logs
  found-end d pages =
      let end : Shared = shared_over o (fresh (length logs) pages) in
      ap (λ n. looked_at n end.words d) (processors-over o (fresh (length logs) pages))
      ∙ (ap (λ (ws : Words). looked_at (length logs) ws d) (words-over o (fresh (length logs) pages)) ∙ looked-end d)

  domain-law : (d : Domain) (pages : ℕ) → IsLaid (length logs) pages o → DomainLaw d logs
  domain-law d pages laid = record {
    numbers = logs-numbers d (length logs) pages logs o is laid;
    sections = each-log (λ p log. SectionsFit d 0 log) logs (λ p lt.
        subst (SectionsFit d 0) (is.parts p lt) (subst (λ w. SectionsFit d w (part_of p o)) (first-word d p (below-eight p lt))
        (sections-along d p o first_words (first-has p (below-eight p lt)) (words-fit o (fresh (length logs) pages) laid))));
    periods = each-log (λ p log. PeriodsFit d p (last_words d logs) no_driver log) logs (λ p lt.
        subst (PeriodsFit d p (last_words d logs) no_driver) (is.parts p lt) (subst (λ ws. PeriodsFit d p ws no_driver (part_of p o)) (found-end d pages)
        (periods-along d p o (fresh (length logs) pages) no_driver lt laid (first-agrees d p (length logs) pages (below-eight p lt)))));
  }

pub logs-grace : (pages : ℕ) (logs : List Log) (o : Order) → length logs ≤ 8 → IsOrderOf logs o → IsLaid (length logs) pages o → GraceLaw logs
logs-grace pages logs o small is laid = record { plain = domain-law logs o small is Plain pages laid; tracing = domain-law logs o small is Tracing pages laid }
