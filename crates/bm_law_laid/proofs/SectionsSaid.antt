-- Logs of which an order is laid name the words of their sections.
use Rattle.std.specs.Prelude.{◌%◌, ◌&&◌, nat_eq}
use Rattle.std.proofs.Common.{◌≡◌, ◌≤◌, ◌+◌, ℕ, true, not, List, [], ◌∷◌, length, refl, ap, subst, arith, eq-eqb}
use Rattle.std.proofs.lemmas.Bool.{and_from}
use Rattle.bm_journal.specs.declared.ids.Domain.{Domain}
use Rattle.bm_journal.specs.declared.ids.Domain.TheVariants.{Plain, Tracing}
use Rattle.bm_journal.specs.declared.entry.Entry.{Entry}
use Rattle.bm_journal.specs.declared.entry.Entry.TheVariants as entry
use Rattle.bm_law.specs.Lists.{Log}
use Rattle.bm_law_lives.specs.SectionWords.{SectionWords, is_outside, word_fits, word_next, words_fit}
use Rattle.bm_law_lives.proofs.Words.{inside-odd, outside-even}
use Rattle.bm_law_lives.specs.GraceLaw.{GraceLaw, SectionFits, SectionsFit, word_after}
use Rattle.bm_law_lives.specs.Together.{EachLog, LogsFrom}
use Rattle.bm_law_order.specs.Orders.{IsLaid, Order}
use Rattle.bm_law_laid.specs.OrderOf.{IsOrderOf}
use Rattle.bm_law_laid.proofs.GraceOver.{logs-grace}

-- one section, told in both ways
begins : (w n : ℕ) → (n ≡ w + 1) × (n % 2 ≡ 1) → is_outside w && nat_eq n (w + 1) ≡ true
begins w n h = (let next = h.0 in let odd = h.1 in and_from (is_outside w) (nat_eq n (w + 1)) (outside-even w (omega (arith, next, odd))) (eq-eqb n (w + 1) next))

ends : (w n : ℕ) → (n ≡ w + 1) × (n % 2 ≡ 0) → not (is_outside w) && nat_eq n (w + 1) ≡ true
ends w n h = (let next = h.0 in let even = h.1 in and_from (not (is_outside w)) (nat_eq n (w + 1)) (ap not (inside-odd w (omega (arith, next, even)))) (eq-eqb n (w + 1) next))

said : (d : Domain) (w : ℕ) (e : Entry) → SectionFits d w e → word_fits d w e ≡ true
said Plain w (entry.In Plain n) h = begins w n h
said Plain w (entry.In Tracing n) h = refl
said Tracing w (entry.In Plain n) h = refl
said Tracing w (entry.In Tracing n) h = begins w n h
said Plain w (entry.Out Plain n) h = ends w n h
said Plain w (entry.Out Tracing n) h = refl
said Tracing w (entry.Out Plain n) h = refl
said Tracing w (entry.Out Tracing n) h = ends w n h
said d w _ h = refl

same-next : (d : Domain) (w : ℕ) (e : Entry) → word_after d w e ≡ word_next d w e
same-next d w (entry.In k n) = refl
same-next d w (entry.Out k n) = refl
same-next d w _ = refl

all-said : (d : Domain) (w : ℕ) (log : Log) → SectionsFit d w log → words_fit d w log ≡ true
all-said d w [] h = refl
all-said d w (e ∷ log) h =
    and_from (word_fits d w e.1) (words_fit d (word_next d w e.1) log) (said d w e.1 h.0) (all-said d (word_next d w e.1) log (subst (λ v. SectionsFit d v log) (same-next d w e.1) h.1))

each-said : (p : ℕ) (logs : List Log) → LogsFrom p (λ q log. SectionsFit Plain 0 log) logs → LogsFrom p (λ q log. SectionsFit Tracing 0 log) logs → LogsFrom p (λ q log. SectionWords log) logs
each-said p [] a b = tt
each-said p (log ∷ logs) a b = (both, each-said (p + 1) logs a.1 b.1)
  where
    both : SectionWords log
    both Plain = all-said Plain 0 log a.0
    both Tracing = all-said Tracing 0 log b.0

pub logs-words : (pages : ℕ) (logs : List Log) (o : Order) → length logs ≤ 8 → IsOrderOf logs o → IsLaid (length logs) pages o → EachLog (λ p log. SectionWords log) logs
logs-words pages logs o small is laid =
    let g : GraceLaw logs = logs-grace pages logs o small is laid in
    each-said 0 logs g.plain.sections g.tracing.sections
