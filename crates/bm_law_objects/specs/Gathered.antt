-- What is gathered from logs entry by entry, each time by what those before it in its log leave, as the number of calls so far or the last
-- call of a level. (This project's own: journals are.)
use Rattle.std.specs.Prelude.{◌≡◌, ◌⊎◌, ℕ, ◌+◌, eqb, if◌then◌else◌, Option, Some, None, List, [], ◌∷◌, ◌++◌}
use Rattle.bm_journal.specs.declared.entry.Entry.{Entry}
use Rattle.bm_law.specs.Lists.{Log}
use Rattle.bm_law_order.specs.Orders.{Order}
use Rattle.bm_law_order.specs.Polls.{for_processor}

-- From a log: an entry with its level gives something by the state before it, and leaves a state.
abbrev pub gathered :
    {S A : Type 0} → (S → ℕ × Entry → S) → (S → ℕ × Entry → List A) → S → Log → List A
gathered after gives s [] = []
gathered after gives s (e ∷ es) = gives s e ++ gathered after gives (after s e) es

-- from logs, each from this state on, where the first one is that of processor p
abbrev pub gathered_from :
    {S A : Type 0} → (S → ℕ × Entry → S) → (ℕ → S → ℕ × Entry → List A) → S → ℕ → List Log → List A
gathered_from after gives s p [] = []
gathered_from after gives s p (log ∷ logs) =
    gathered after (gives p) s log ++ gathered_from after gives s (p + 1) logs

abbrev pub gathered_by :
    {S A : Type 0} → (S → ℕ × Entry → S) → (ℕ → S → ℕ × Entry → List A) → S → List Log → List A
gathered_by after gives s logs = gathered_from after gives s 0 logs

-- from an order, with a state for each processor
abbrev pub gathered_over :
    {S A : Type 0} → (S → ℕ × Entry → S) → (ℕ → S → ℕ × Entry → List A) → Order → (ℕ → S) → List A
gathered_over after gives [] s = []
gathered_over after gives (e ∷ o) s =
    let was = s e.processor in
    gives e.processor was (e.level, e.entry)
    ++ gathered_over after gives o (for_processor e.processor (after was (e.level, e.entry)) s)

-- ---- replies

-- a level's newest call, beside those of the other levels; where there is no call all stay
abbrev pub on_level : {A : Type 0} → ℕ → Option A → (ℕ → Option A) → ℕ → Option A
on_level l None last k = last k
on_level l (Some call) last k = if eqb k l then Some call else last k

-- by level the last call of some kind: a reply answers that of its level
abbrev pub last_call : {A : Type 0} → (Entry → Option A) → (ℕ → Option A) → ℕ × Entry → ℕ → Option A
last_call call_of last e = on_level e.0 (call_of e.1) last

abbrev pub no_call : {A : Type 0} → ℕ → Option A
no_call l = None

-- Nothing is under way at a level, or this call, which is the last one.
abbrev pub IsLast : {A : Type 0} → Option A → Option A → Type 0
IsLast None last = Unit {0}
IsLast (Some call) last = last ≡ Some call

-- so it is at each level of each processor, where `call` has the call of what is under way
abbrev pub AreLast : {A B : Type 0} → (B → Option A) → (ℕ → ℕ → B) → (ℕ → ℕ → Option A) → Type 0
AreLast call way last = (p l : ℕ) → IsLast (call (way p l)) (last p l)

abbrev pub itself : {A : Type 0} → Option A → Option A
itself x = x

-- ---- lists

-- some of these is so
abbrev pub OneOf : {A : Type 0} → (A → Type 0) → List A → Type 0
OneOf P [] = ⊥
OneOf P (x ∷ xs) = P x ⊎ OneOf P xs
