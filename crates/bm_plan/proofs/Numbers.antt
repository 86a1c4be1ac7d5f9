-- The steps that have numbers are those that the handlers are planned by.
use Rattle.std.proofs.Common.{◌≡◌, ◌∙◌, ℕ, ◌+◌, Bool, true, false, cond, [], ◌∷◌, refl, sym, ap, arith}
use Rattle.bm_journal.specs.declared.entry.Entry.{Entry}
use Rattle.bm_journal.specs.declared.entry.Entry.TheVariants as entry
use Rattle.bm_journal.specs.declared.total.Total.TheVariants as total
use Rattle.bm_journal.specs.Totals.{counts_of, share_of, total_in}
use Rattle.bm_law.specs.Lists.{Log}
use Rattle.bm_cache.specs.Steps.{is_step, steps_in}
use Rattle.bm_due.specs.Standing.{kind_of}
use Rattle.bm_due.proofs.Counting.{counted, first-stays, finish-stays, pop-back-stays, pop-front-stays, steps_of}

pub step-kind : (e : Entry) → steps_of (kind_of e) ≡ cond (is_step e) 1 0
step-kind (entry.PopFront name x at) = ap steps_of (pop-front-stays name x at)
step-kind (entry.PopBack name x at) = ap steps_of (pop-back-stays name x at)
step-kind (entry.First name x at) = ap steps_of (first-stays name x at)
step-kind (entry.Finish p) = ap steps_of (finish-stays p)
step-kind e = refl

pub step-number : (e : Entry) → share_of total.Steps (counts_of e) ≡ cond (is_step e) 1 0
step-number e = counted e ∙ step-kind e

one-more : (b : Bool) (n : ℕ) → cond b (n + 1) n ≡ cond b 1 0 + n
one-more true n = omega arith
one-more false n = omega arith

pub steps-total : (log : Log) → steps_in log ≡ total_in total.Steps log
steps-total [] = refl
steps-total (e ∷ es) =
    one-more (is_step e.1) (steps_in es) ∙ ap (λ n. n + steps_in es) (sym (step-number e.1)) ∙ ap (λ n. share_of total.Steps (counts_of e.1) + n) (steps-total es)
