-- The balance of a log, unit by unit: what comes in stands there at the end, or has gone out.
use Rattle.std.proofs.Common.{◌≡◌, ℕ, ◌+◌, [], ◌∷◌, refl, ◌∙◌, ap, arith}
use Rattle.bm_journal.specs.declared.entry.Entry.{Entry}
use Rattle.bm_journal.specs.declared.entry.Entry.TheVariants as entry
use Rattle.bm_law.specs.State.{State, opening}
use Rattle.bm_law.specs.Lists.{AllName, Log, Names, after, brought, next}
use Rattle.bm_law.specs.Stands.{times, comes_in, goes_out}
use Rattle.bm_law.proofs.Stands.{times-append}
use Rattle.bm_law_lives.specs.Together.{named_in}
use Rattle.bm_law_lives.specs.Returns.{returned_units, taken_units}
use Rattle.bm_law_logs.specs.UnitsMoved.{LeavesNothing, arrived_by, arrived_units, freed_units, given_units, sent_units}
use Rattle.bm_law_logs.proofs.Held.{AllWithin, Within, all-within, held, held-effect, held-emptied, held-opening, reach}

-- what goes out is given, sent or returned
gone-out : (u l : ℕ) (e : Entry) (s : State ℕ) → Names l e s → times u (goes_out l e s) ≡ times u (given_units e) + times u (sent_units e) + times u (returned_units e)
gone-out u l (entry.Given v life) s h = omega (arith, ap (times u) h)
gone-out u l (entry.GivenAfter v life stamp seen) s h = omega (arith, ap (times u) h)
gone-out u l (entry.Send c to us) s h = omega (arith, ap (times u) h.1)
gone-out u l (entry.Return c us) s h = omega (arith, ap (times u) h.0)
gone-out u l _ s h = refl

-- what comes in is taken from the stock, freed, or taken out of the inbox
come-in : (u : ℕ) (e : Entry) (s : State ℕ) → times u (comes_in e (brought e s)) ≡ times u (taken_units e) + times u (freed_units e) + times u (arrived_units e s)
come-in u (entry.Fill c us) s = omega arith
come-in u (entry.Fetch c want us) s = omega arith
come-in u (entry.Free v home) s = omega arith
come-in u (entry.Delay v home) s = omega arith
come-in u (entry.Receive c us) s = omega arith
come-in u (entry.Sweep c us) s = omega arith
come-in u _ s = refl

one-entry : (x y o i out in_ : ℕ) → x + o ≡ y + i → o ≡ out → i ≡ in_ → x + out ≡ y + in_
one-entry x y o i out in_ h p q = omega (arith, h, p, q)

entry-balance : (N u l : ℕ) (e : Entry) (s : State ℕ) → Within N l e → Names l e s →
    held N u (next s (l, e)) + (times u (given_units e) + times u (sent_units e) + times u (returned_units e)) ≡ held N u s + (times u (taken_units e) + times u (freed_units e) + times u (arrived_units e s))
entry-balance N u l e s w h = one-entry _ _ _ _ _ _ (held-effect N u l e (brought e s) s w) (gone-out u l e s h) (come-in u e s)

-- one entry, and then the others
joined : (x y z a b c d e f a' b' c' d' e' f' : ℕ) → y + (a + b + c) ≡ x + (d + e + f) → z + (a' + b' + c') ≡ y + (d' + e' + f') → z + ((a + a') + (b + b') + (c + c')) ≡ x + ((d + d') + (e + e') + (f + f'))
joined x y z a b c d e f a' b' c' d' e' f' p q = omega (arith, p, q)

six : (x z a b c d e f a' b' c' d' e' f' : ℕ) → a' ≡ a → b' ≡ b → c' ≡ c → d' ≡ d → e' ≡ e → f' ≡ f → z + (a + b + c) ≡ x + (d + e + f) → z + (a' + b' + c') ≡ x + (d' + e' + f')
six x z a b c d e f a' b' c' d' e' f' p q r t v w h = omega (arith, p, q, r, t, v, w, h)

log-balance : (N u : ℕ) (s : State ℕ) (log : Log) → AllWithin N log → AllName s log →
    held N u (after s log) + (times u (named_in given_units log) + times u (named_in sent_units log) + times u (named_in returned_units log)) ≡ held N u s + (times u (named_in taken_units log) + times u (named_in freed_units log) + times u (arrived_by s log))
log-balance N u s [] w h = refl
log-balance N u s (e ∷ es) w h =
    six _ _ _ _ _ _ _ _ _ _ _ _ _ _
    (times-append u (given_units e.1) (named_in given_units es))
    (times-append u (sent_units e.1) (named_in sent_units es))
    (times-append u (returned_units e.1) (named_in returned_units es))
    (times-append u (taken_units e.1) (named_in taken_units es))
    (times-append u (freed_units e.1) (named_in freed_units es))
    (times-append u (arrived_units e.1 s) (arrived_by (next s e) es))
    (joined _ _ _ _ _ _ _ _ _ _ _ _ _ _ _ (entry-balance N u e.0 e.1 s w.0 h.0) (log-balance N u (next s e) es w.1 h.1))

emptied : (x z a b c d e f : ℕ) → z + (a + b + c) ≡ x + (d + e + f) → x ≡ 0 → z ≡ 0 → a + b + c ≡ d + e + f
emptied x z a b c d e f h p q = omega (arith, h, p, q)

-- where nothing is left, what came in has gone out
pub balanced : (p u : ℕ) (log : Log) → LeavesNothing p log →
    times u (named_in given_units log) + times u (named_in sent_units log) + times u (named_in returned_units log) ≡ times u (named_in taken_units log) + times u (named_in freed_units log) + times u (arrived_by (opening p) log)
balanced p u log h =
    let N : ℕ = reach log in
    emptied _ _ _ _ _ _ _ _ (log-balance N u (opening p) log (all-within log) h.1.named) (held-opening N u p) (ap (held N u) h.1.lists ∙ held-emptied N u h.0 h.2)
