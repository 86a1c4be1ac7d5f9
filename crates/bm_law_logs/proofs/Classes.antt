-- A unit is taken out of a processor's inboxes, and sent to a processor, as often as it is so in each class together.
use Rattle.std.proofs.Common.{◌≡◌, ◌≢◌, ◌≤◌, ◌<◌, ℕ, ◌+◌, ◌++◌, true, false, ◌==◌, eqb, if◌then◌else◌, List, [], ◌∷◌, refl, ◌∙◌, ap, arith, eq-eqb, ne_eqb}
use Rattle.bm_journal.specs.declared.entry.Entry.{Entry}
use Rattle.bm_journal.specs.declared.entry.Entry.TheVariants as entry
use Rattle.bm_journal.specs.EntryText.{unit_list}
use Rattle.bm_law.specs.State.{State}
use Rattle.bm_law.specs.Lists.{Log, brought, next}
use Rattle.bm_law.specs.Stands.{sum_to, times, class_named}
use Rattle.bm_law.proofs.Stands.{sum-update, sum-zero}
use Rattle.bm_law_lives.specs.Together.{beside, named, named_in}
use Rattle.bm_law_lives.specs.Returns.{in_class, sent_to, unpacked, unpacked_by}
use Rattle.bm_law_logs.specs.UnitsMoved.{arrived_by, arrived_units}
use Rattle.bm_law_logs.proofs.Held.{AllWithin, reach, within-reach}

-- ---- pairs of a class and a unit

-- the units
abbrev pub seconds : List (ℕ × ℕ) → List ℕ
seconds [] = []
seconds (y ∷ ys) = y.1 ∷ seconds ys

-- all classes are below N
abbrev pub Firsts : ℕ → List (ℕ × ℕ) → Type 0
Firsts N [] = Unit {0}
Firsts N (y ∷ ys) = (y.0 < N) × Firsts N ys

pub seconds-append : (v w : List (ℕ × ℕ)) → seconds (v ++ w) ≡ seconds v ++ seconds w
seconds-append [] w = refl
seconds-append (y ∷ v) w = ap (λ z. y.1 ∷ z) (seconds-append v w)

pub seconds-in : (c : ℕ) (us : List ℕ) → seconds (in_class c us) ≡ us
seconds-in c [] = refl
seconds-in c (u ∷ us) = ap (λ z. u ∷ z) (seconds-in c us)

firsts-append : (N : ℕ) (v w : List (ℕ × ℕ)) → Firsts N v → Firsts N w → Firsts N (v ++ w)
firsts-append N [] w f g = g
firsts-append N (y ∷ v) w f g = (f.0, firsts-append N v w f.1 g)

firsts-in : (N c : ℕ) (us : List ℕ) → c < N → Firsts N (in_class c us)
firsts-in N c [] h = tt
firsts-in N c (u ∷ us) h = (h, firsts-in N c us h)

one-more : (x f g s t : ℕ) → t + f ≡ s + g → g ≡ x + f → t ≡ x + s
one-more x f g s t p q = omega (arith, p, q)

-- so the sum over all classes counts each of them
pub over-classes : (N u : ℕ) (ys : List (ℕ × ℕ)) → Firsts N ys → sum_to N (λ c. times u (beside c ys)) ≡ times u (seconds ys)
over-classes N u [] h = sum-zero N
over-classes N u (y ∷ ys) h =
    let f : ℕ → ℕ = λ c. times u (beside c ys) in
    let g : ℕ → ℕ = λ c. times u (beside c (y ∷ ys)) in
    let x : ℕ = if eqb u y.1 then 1 else 0 in
    let apart : (k : ℕ) → k ≢ y.0 → g k ≡ f k = λ k d. rw (ne_eqb k y.0 d) refl in
    let here : g y.0 ≡ x + f y.0 = rw (eq-eqb y.0 y.0 refl) refl in
    one-more x (f y.0) (g y.0) (sum_to N f) (sum_to N g) (sum-update N y.0 f g h.0 apart) here ∙ ap (λ n. x + n) (over-classes N u ys h.1)

-- ---- what a log takes out of its inboxes

arrived-seconds : (e : Entry) (s : State ℕ) → seconds (unpacked e s) ≡ arrived_units e s
arrived-seconds (entry.Receive c us) s = seconds-in c (unit_list us)
arrived-seconds (entry.Sweep c us) s = seconds-in c (brought (entry.Sweep c us) s)
arrived-seconds _ s = refl

pub arrived-all : (s : State ℕ) (log : Log) → seconds (unpacked_by s log) ≡ arrived_by s log
arrived-all s [] = refl
arrived-all s (e ∷ es) = seconds-append (unpacked e.1 s) (unpacked_by (next s e) es) ∙ ap (λ v. v ++ seconds (unpacked_by (next s e) es)) (arrived-seconds e.1 s) ∙ ap (λ v. arrived_units e.1 s ++ v) (arrived-all (next s e) es)

unpacked-firsts : (N : ℕ) (e : Entry) (s : State ℕ) → class_named e < N → Firsts N (unpacked e s)
unpacked-firsts N (entry.Receive c us) s h = firsts-in N c (unit_list us) h
unpacked-firsts N (entry.Sweep c us) s h = firsts-in N c (brought (entry.Sweep c us) s) h
unpacked-firsts N _ s h = tt

pub unpacked-all : (N : ℕ) (s : State ℕ) (log : Log) → AllWithin N log → Firsts N (unpacked_by s log)
unpacked-all N s [] w = tt
unpacked-all N s (e ∷ es) w = firsts-append N (unpacked e.1 s) (unpacked_by (next s e) es) (unpacked-firsts N e.1 s w.0.class) (unpacked-all N (next s e) es w.1)

-- ---- what logs send to a processor

sent-firsts : (N p : ℕ) (e : Entry) → class_named e < N → Firsts N (sent_to p e)
sent-firsts N p (entry.Send c to us) h = elim (to == p) as (λ b. Firsts N (if b then in_class c (unit_list us) else [])) [ true ↦ firsts-in N c (unit_list us) h | false ↦ tt ]
sent-firsts N p _ h = tt

log-firsts : (N p : ℕ) (log : Log) → AllWithin N log → Firsts N (named_in (sent_to p) log)
log-firsts N p [] w = tt
log-firsts N p (e ∷ es) w = firsts-append N (sent_to p e.1) (named_in (sent_to p) es) (sent-firsts N p e.1 w.0.class) (log-firsts N p es w.1)

-- levels and classes of all logs are below N
abbrev pub EachWithin : ℕ → List Log → Type 0
EachWithin N [] = Unit {0}
EachWithin N (log ∷ logs) = AllWithin N log × EachWithin N logs

pub reaches : List Log → ℕ
reaches [] = 0
reaches (log ∷ logs) = reach log + reaches logs

reaches-within : (N : ℕ) (logs : List Log) → reaches logs ≤ N → EachWithin N logs
unfolding reaches
reaches-within N [] h = tt
reaches-within N (log ∷ logs) h = (within-reach N log (omega (arith, h)), reaches-within N logs (omega (arith, h)))

pub each-within : (logs : List Log) → EachWithin (reaches logs) logs
each-within logs = reaches-within (reaches logs) logs (omega arith)

pub sent-all : (N p : ℕ) (logs : List Log) → EachWithin N logs → Firsts N (named (sent_to p) logs)
sent-all N p [] w = tt
sent-all N p (log ∷ logs) w = firsts-append N (named_in (sent_to p) log) (named (sent_to p) logs) (log-firsts N p log w.0) (sent-all N p logs w.1)
