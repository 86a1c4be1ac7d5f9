-- Counting entry by entry gives the sums over the logs.
use Rattle.std.proofs.Common.{◌≡◌, ℕ, ◌+◌, ◌-◌, ◌^◌, min, List, [], ◌∷◌, ◌++◌, map, replicate, refl, sym, ap, ◌∙◌, arith, add_assoc, add-zero, zero-add}
use Rattle.bm_journal.specs.declared.entry.Entry.{Entry}
use Rattle.bm_journal.specs.declared.total.Total.{Total}
use Rattle.bm_journal.specs.declared.total.Total.TheVariants as total
use Rattle.bm_journal.specs.TotalNames.{all_totals}
use Rattle.bm_journal.specs.Totals.{counts_of, share_of, total_in, total_over, totals_of}
use Rattle.bm_journal.specs.Counting.{added, adds, adds_log, each_total, adds_logs}

-- a number for each total, held at the greatest number of its type
abbrev pub all_held : (Total → ℕ) → List ℕ
all_held number = map (λ t. min (number t) (2 ^ 64 - 1)) all_totals

map_same : (f g : Total → ℕ) → ((t : Total) → f t ≡ g t) → (ts : List Total) → map (λ t. min (f t) (2 ^ 64 - 1)) ts ≡ map (λ t. min (g t) (2 ^ 64 - 1)) ts
map_same f g e [] = refl
map_same f g e (t ∷ ts) = let here : f t ≡ g t = e t in let rest = map_same f g e ts in cc

-- the same numbers, held
all_held_same : (f g : Total → ℕ) → ((t : Total) → f t ≡ g t) → all_held f ≡ all_held g
all_held_same f g e = map_same f g e all_totals

-- a number that is held, with more, and held again
held-add : (a n : ℕ) → min (min a (2 ^ 64 - 1) + n) (2 ^ 64 - 1) ≡ min (a + n) (2 ^ 64 - 1)
held-add a n = omega arith

held-add_right : (a n : ℕ) → min (a + min n (2 ^ 64 - 1)) (2 ^ 64 - 1) ≡ min (a + n) (2 ^ 64 - 1)
held-add_right a n = omega arith

-- numbers that are the same once they are held
map_held : (f g : Total → ℕ) → ((t : Total) → min (f t) (2 ^ 64 - 1) ≡ min (g t) (2 ^ 64 - 1)) → (ts : List Total) → map (λ t. min (f t) (2 ^ 64 - 1)) ts ≡ map (λ t. min (g t) (2 ^ 64 - 1)) ts
map_held f g e [] = refl
map_held f g e (t ∷ ts) = let here = e t in let rest = map_held f g e ts in cc

-- one total more
added-all_held : (f : Total → ℕ) (t : Total) (n : ℕ) → added t n (all_held f) ≡ all_held (λ u. f u + share_of u ((t, n) ∷ []))
added-all_held f total.Steps n = simp (add-zero, held-add)
added-all_held f total.Given n = simp (add-zero, held-add)
added-all_held f total.Empty n = simp (add-zero, held-add)
added-all_held f total.Busy n = simp (add-zero, held-add)
added-all_held f total.Last n = simp (add-zero, held-add)
added-all_held f total.Still n = simp (add-zero, held-add)
added-all_held f total.Acquired n = simp (add-zero, held-add)
added-all_held f total.Exchanged n = simp (add-zero, held-add)
added-all_held f total.Pushed n = simp (add-zero, held-add)
added-all_held f total.Already n = simp (add-zero, held-add)
added-all_held f total.Taken n = simp (add-zero, held-add)
added-all_held f total.None n = simp (add-zero, held-add)
added-all_held f total.Raised n = simp (add-zero, held-add)
added-all_held f total.Worked n = simp (add-zero, held-add)
added-all_held f total.Fetched n = simp (add-zero, held-add)
added-all_held f total.Returned n = simp (add-zero, held-add)
added-all_held f total.Plain n = simp (add-zero, held-add)
added-all_held f total.Tracing n = simp (add-zero, held-add)
added-all_held f total.Handlers n = simp (add-zero, held-add)

-- the additions of an entry
adds-all_held : (xs : List (Total × ℕ)) (f : Total → ℕ) → adds xs (all_held f) ≡ all_held (λ u. f u + share_of u xs)
adds-all_held [] f = all_held_same f (λ u. f u + 0) (λ t. sym (add-zero (f t)))
adds-all_held (x ∷ xs) f =
    ap (adds xs) (added-all_held f x.0 x.1)
    ∙ adds-all_held xs (λ u. f u + share_of u (x ∷ []))
    ∙ all_held_same (λ u. f u + share_of u (x ∷ []) + share_of u xs) (λ u. f u + share_of u (x ∷ xs)) (λ t. omega arith)

-- those of a log
adds_log-all_held : (log : List (ℕ × Entry)) (f : Total → ℕ) → adds_log log (all_held f) ≡ all_held (λ u. f u + total_in u log)
adds_log-all_held [] f = all_held_same f (λ u. f u + 0) (λ t. sym (add-zero (f t)))
adds_log-all_held (x ∷ log) f =
    ap (adds_log log) (adds-all_held (counts_of x.1) f)
    ∙ adds_log-all_held log (λ u. f u + share_of u (counts_of x.1))
    ∙ all_held_same (λ u. f u + share_of u (counts_of x.1) + total_in u log) (λ u. f u + total_in u (x ∷ log)) (λ t. add_assoc (f t) (share_of t (counts_of x.1)) (total_in t log))

-- a log that is counted from nothing
pub log_held : (log : List (ℕ × Entry)) → adds_log log (replicate 19 0) ≡ all_held (λ u. total_in u log)
log_held log =
    adds_log-all_held log (λ u. 0)
    ∙ all_held_same (λ u. 0 + total_in u log) (λ u. total_in u log) (λ t. zero-add (total_in t log))

-- a log's additions, one entry more
pub adds_log-more : (log : List (ℕ × Entry)) (x : ℕ × Entry) (values : List ℕ) → adds_log (log ++ x ∷ []) values ≡ adds (counts_of x.1) (adds_log log values)
adds_log-more [] x values = refl
adds_log-more (y ∷ log) x values = adds_log-more log x (adds (counts_of y.1) values)

-- the share that a total has of as much of each
share_of-each_total : (g : Total → ℕ) (t : Total) → share_of t (each_total (all_held g) all_totals) ≡ min (g t) (2 ^ 64 - 1)
share_of-each_total g total.Steps = simp (add-zero, zero-add)
share_of-each_total g total.Given = simp (add-zero, zero-add)
share_of-each_total g total.Empty = simp (add-zero, zero-add)
share_of-each_total g total.Busy = simp (add-zero, zero-add)
share_of-each_total g total.Last = simp (add-zero, zero-add)
share_of-each_total g total.Still = simp (add-zero, zero-add)
share_of-each_total g total.Acquired = simp (add-zero, zero-add)
share_of-each_total g total.Exchanged = simp (add-zero, zero-add)
share_of-each_total g total.Pushed = simp (add-zero, zero-add)
share_of-each_total g total.Already = simp (add-zero, zero-add)
share_of-each_total g total.Taken = simp (add-zero, zero-add)
share_of-each_total g total.None = simp (add-zero, zero-add)
share_of-each_total g total.Raised = simp (add-zero, zero-add)
share_of-each_total g total.Worked = simp (add-zero, zero-add)
share_of-each_total g total.Fetched = simp (add-zero, zero-add)
share_of-each_total g total.Returned = simp (add-zero, zero-add)
share_of-each_total g total.Plain = simp (add-zero, zero-add)
share_of-each_total g total.Tracing = simp (add-zero, zero-add)
share_of-each_total g total.Handlers = simp (add-zero, zero-add)

-- two sets of numbers that are held, together
held-both : (f g : Total → ℕ) → adds (each_total (all_held g) all_totals) (all_held f) ≡ all_held (λ u. f u + g u)
held-both f g =
    let more = each_total (all_held g) all_totals in
    let same : (t : Total) → min (f t + share_of t more) (2 ^ 64 - 1) ≡ min (f t + g t) (2 ^ 64 - 1) = λ t. ap (λ n. min (f t + n) (2 ^ 64 - 1)) (share_of-each_total g t) ∙ held-add_right (f t) (g t) in
    adds-all_held more f ∙ map_held (λ u. f u + share_of u more) (λ u. f u + g u) same all_totals

-- those of all logs
adds_logs-all_held : (logs : List (List (ℕ × Entry))) (f : Total → ℕ) → adds_logs logs (all_held f) ≡ all_held (λ u. f u + total_over u logs)
adds_logs-all_held [] f = all_held_same f (λ u. f u + 0) (λ t. sym (add-zero (f t)))
adds_logs-all_held (log ∷ logs) f =
    ap (λ values. adds_logs logs (adds (each_total values all_totals) (all_held f))) (log_held log)
    ∙ ap (adds_logs logs) (held-both f (λ u. total_in u log))
    ∙ adds_logs-all_held logs (λ u. f u + total_in u log)
    ∙ all_held_same (λ u. f u + total_in u log + total_over u logs) (λ u. f u + total_over u (log ∷ logs)) (λ t. add_assoc (f t) (total_in t log) (total_over t logs))

-- from nothing
pub adds_logs-none : (logs : List (List (ℕ × Entry))) → adds_logs logs (replicate 19 0) ≡ totals_of logs
adds_logs-none logs =
    adds_logs-all_held logs (λ u. 0)
    ∙ all_held_same (λ u. 0 + total_over u logs) (λ u. total_over u logs) (λ t. zero-add (total_over t logs))
