-- The law of returns.
use Rattle.std.proofs.Common.{◌≡◌, ◌<◌, ℕ, suc, ◌+◌, ◌++◌, Some, length, slice_get, List, [], ◌∷◌, true, refl, sym, ◌∙◌, ap, subst, arith}
use Rattle.std.proofs.lemmas.List.{append-nil}
use Rattle.bm_journal.specs.declared.entry.Entry.{Entry}
use Rattle.bm_journal.specs.declared.entry.Entry.TheVariants as entry
use Rattle.bm_journal.specs.declared.journal.Journal.{Journal}
use Rattle.bm_lang.specs.declared.scenario.Parts.{Parts}
use Rattle.bm_law.specs.State.{State, opening}
use Rattle.bm_law.specs.Lists.{Log, next}
use Rattle.bm_law.specs.Stands.{times}
use Rattle.bm_law.proofs.Stands.{sum-same, times-append}
use Rattle.bm_law.specs.Inboxes.{Inboxes, inboxes_after}
use Rattle.bm_law_scenario.specs.Lawful.{LawfulLogs, LawfulLog}
use Rattle.bm_law_scenario.specs.Parcels.{ParcelFits, ParcelLaw, ParcelsFit, no_parcels, sends_alone}
use Rattle.bm_law_lives.specs.Together as together
use Rattle.bm_law_lives.specs.Together.{Each, EachLog, LogsFrom, beside, named, named_in}
use Rattle.bm_law_lives.specs.Returns.{ParcelsArrive, ReturnsLaw, receiver, returned_units, sent_to, taken_units, unpacked_by}
use Rattle.bm_law_logs.specs.UnitsMoved.{FreedAsGiven, LeavesNothing, arrived_by, freed_units, given_units, sent_units}
use Rattle.bm_law_logs.proofs.Balance.{balanced}
use Rattle.bm_law_logs.proofs.Boxes.{unpacked-sent}
use Rattle.bm_law_logs.proofs.Classes.{EachWithin, arrived-all, each-within, over-classes, reaches, seconds, sent-all, unpacked-all}
use Rattle.bm_law_logs.proofs.Counted.{as-counted, as-told}
use Rattle.bm_law_logs.proofs.Held.{AllWithin}
use Rattle.bm_law_logs.proofs.Receivers.{spread, spread-logs}

-- ---- all logs together

-- the units that logs take out of inboxes, where the first one is that of processor p
abbrev arrived : ℕ → List Log → List ℕ
arrived p [] = []
arrived p (log ∷ logs) = arrived_by (opening p) log ++ arrived (p + 1) logs

two : (a b c d e f a' b' c' d' e' f' A B C D E F : ℕ) → A ≡ a + a' → B ≡ b + b' → C ≡ c + c' → D ≡ d + d' → E ≡ e + e' → F ≡ f + f' → a + b + c ≡ d + e + f → a' + b' + c' ≡ d' + e' + f' → A + B + C ≡ D + E + F
two a b c d e f a' b' c' d' e' f' A B C D E F p q r t v w h k = omega (arith, p, q, r, t, v, w, h, k)

-- what came in has gone out
balance : (u p : ℕ) (logs : List Log) → LogsFrom p LeavesNothing logs →
    times u (named given_units logs) + times u (named sent_units logs) + times u (named returned_units logs) ≡ times u (named taken_units logs) + times u (named freed_units logs) + times u (arrived p logs)
balance u p [] h = refl
balance u p (log ∷ logs) h =
    two _ _ _ _ _ _ _ _ _ _ _ _ _ _ _ _ _ _
    (times-append u (named_in given_units log) (named given_units logs))
    (times-append u (named_in sent_units log) (named sent_units logs))
    (times-append u (named_in returned_units log) (named returned_units logs))
    (times-append u (named_in taken_units log) (named taken_units logs))
    (times-append u (named_in freed_units log) (named freed_units logs))
    (times-append u (arrived_by (opening p) log) (arrived (p + 1) logs))
    (balanced p u log h.0) (balance u (p + 1) logs h.1)

-- what is sent to a processor it takes out of its inboxes
came : (N u p : ℕ) (all : List Log) (log : Log) → EachWithin N all → AllWithin N log → ParcelsArrive all p log → times u (arrived_by (opening p) log) ≡ times u (seconds (named (sent_to p) all))
came N u p all log w v h =
    let f : ℕ → ℕ = λ c. times u (beside c (named (sent_to p) all)) in
    let g : ℕ → ℕ = λ c. times u (beside c (unpacked_by (opening p) log)) in
    let same : (c : ℕ) → c < N → g c ≡ f c = λ c k. sym (as-told u (beside c (named (sent_to p) all)) (beside c (unpacked_by (opening p) log)) (h c u)) in
    ap (times u) (sym (arrived-all (opening p) log)) ∙ sym (over-classes N u (unpacked_by (opening p) log) (unpacked-all N (opening p) log v)) ∙ sum-same N f g same ∙ over-classes N u (named (sent_to p) all) (sent-all N p all w)

sums : (x y a b z : ℕ) → z ≡ x + y → x ≡ a → y ≡ b → z ≡ a + b
sums x y a b z h p q = omega (arith, h, p, q)

came-all : (N u p : ℕ) (all logs : List Log) → EachWithin N all → EachWithin N logs → LogsFrom p (ParcelsArrive all) logs → times u (arrived p logs) ≡ spread u (λ q. named (sent_to q) all) p (length logs)
came-all N u p all [] w v h = refl
came-all N u p all (log ∷ logs) w v h = sums _ _ _ _ _ (times-append u (arrived_by (opening p) log) (arrived (p + 1) logs)) (came N u p all log w v.0 h.0) (came-all N u (p + 1) all logs w v.1 h.1)

left : (given sent returned taken freed arrived : ℕ) → given + sent + returned ≡ taken + freed + arrived → freed ≡ given → arrived ≡ sent → returned ≡ taken
left given sent returned taken freed arrived h f a = omega (arith, h, f, a)

pub returns : (logs : List Log) → EachLog LeavesNothing logs → FreedAsGiven logs → Each (λ to. to < length logs) (named receiver logs) → EachLog (ParcelsArrive logs) logs → ReturnsLaw logs
returns logs h f r a =
    let w = each-within logs in
    let sent : (u : ℕ) → times u (arrived 0 logs) ≡ times u (named sent_units logs) = λ u. came-all (reaches logs) u 0 logs logs w w a ∙ spread-logs u (length logs) logs r in
    record {
      returned = λ u. as-counted u (named returned_units logs) (named taken_units logs) (left _ _ _ _ _ _ (balance u 0 logs h) (as-told u (named freed_units logs) (named given_units logs) (f u)) (sent u));
      receivers = r;
      arrive = a;
    }

-- ---- a lawful journal

leave-nothing : (s : Parts) (p : ℕ) (logs : List Log) → ((i : ℕ) (log : Log) → slice_get logs i ≡ Some log → LawfulLog s (p + i) log) → LogsFrom p LeavesNothing logs
leave-nothing s p [] h = tt
leave-nothing s p (log ∷ logs) h =
    let l : LawfulLog s p log = subst (λ q. LawfulLog s q log) (omega arith) (h 0 log refl) in
    let rest : (i : ℕ) (other : Log) → slice_get logs i ≡ Some other → LawfulLog s ((p + 1) + i) other = λ i other e. subst (λ q. LawfulLog s q other) (omega arith) (h (suc i) other e) in
    ((l.last, l.lists, l.emptied), leave-nothing s (p + 1) logs rest)

pub journal-returns : (s : Parts) (j : Journal) → LawfulLogs s j → FreedAsGiven j.logs → Each (λ to. to < length j.logs) (named receiver j.logs) → EachLog (ParcelsArrive j.logs) j.logs → ReturnsLaw j.logs
journal-returns s j h f r a = returns j.logs (leave-nothing s 0 j.logs (λ i log e. subst (λ q. LawfulLog s q log) (omega arith) (h.logs i log e))) f r a

-- ---- one log, by the law of parcels

-- the entries of one log are all that there are
alone : {A : Type 0} (names : Entry → List A) (log : Log) → named names (log ∷ []) ≡ named_in names log
alone names log = append-nil (named_in names log)

pub arrive : (p : ℕ) (log : Log) → ParcelLaw p log → ParcelsArrive (log ∷ []) p log
arrive p log h c u =
    let sent : List ℕ = beside c (named_in (sent_to p) log) in
    let came : List ℕ = beside c (unpacked_by (opening p) log) in
    ap (λ v. together.times u (beside c v)) (alone (sent_to p) log) ∙ as-counted u sent came (sym (unpacked-sent p c u log h))

-- ---- receivers

each-append : {A : Type 0} (P : A → Type 0) (v w : List A) → Each P v → Each P w → Each P (v ++ w)
each-append P [] w f g = g
each-append P (x ∷ v) w f g = (f.0, each-append P v w f.1 g)

each-map : {A : Type 0} (P Q : A → Type 0) → ((x : A) → P x → Q x) → (v : List A) → Each P v → Each Q v
each-map P Q f [] h = tt
each-map P Q f (x ∷ v) h = (f x h.0, each-map P Q f v h.1)

one-receiver : (p : ℕ) (e : Entry) (s : State ℕ) (boxes : Inboxes) → ParcelFits p e s boxes → Each (λ to. to ≡ p) (receiver e)
one-receiver p (entry.Send c to us) s boxes h = (h, tt)
one-receiver p _ s boxes h = tt

log-receivers : (p : ℕ) (s : State ℕ) (boxes : Inboxes) (log : Log) → ParcelsFit p s boxes log → Each (λ to. to ≡ p) (named_in receiver log)
log-receivers p s boxes [] h = tt
log-receivers p s boxes (e ∷ es) h =
    each-append (λ to. to ≡ p) (receiver e.1) (named_in receiver es) (one-receiver p e.1 s boxes h.0) (log-receivers p (next s e) (inboxes_after p e.1 boxes) es h.1)

pub receivers : (p : ℕ) (log : Log) → ParcelLaw p log → Each (λ to. to ≡ p) (named_in receiver log)
receivers p log h = log-receivers p (opening p) no_parcels log h

-- ---- a lawful log of the one processor

below-one : (to : ℕ) → to ≡ 0 → to < 1
below-one to e = omega (arith, e)

pub lawful-returns : (s : Parts) (log : Log) → LawfulLog s 0 log → sends_alone s ≡ true → FreedAsGiven (log ∷ []) → ReturnsLaw (log ∷ [])
lawful-returns s log h a f =
    let q = h.parcels a in
    let to : Each (λ to. to < 1) (named receiver (log ∷ [])) = subst (Each (λ to. to < 1)) (sym (alone receiver log)) (each-map (λ to. to ≡ 0) (λ to. to < 1) below-one (named_in receiver log) (receivers 0 log q)) in
    returns (log ∷ []) ((h.last, h.lists, h.emptied), tt) f to (arrive 0 log q, tt)
