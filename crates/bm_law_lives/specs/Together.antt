-- What the logs of a journal say together. The log of processor p is the p-th one. (This project's own: journals are.)
use Rattle.std.specs.Prelude.{◌≡◌, ℕ, zero, suc, ◌+◌, ◌==◌, if◌then◌else◌, List, [], ◌∷◌, ◌++◌, length}
use Rattle.bm_journal.specs.declared.entry.Entry.{Entry}
use Rattle.bm_law.specs.Lists.{Log}

-- how often a number stands in a list
abbrev pub times : ℕ → List ℕ → ℕ
times x [] = 0
times x (y ∷ ys) = if (x == y) then times x ys + 1 else times x ys

-- the second numbers of those pairs that begin with this one
abbrev pub beside : ℕ → List (ℕ × ℕ) → List ℕ
beside x [] = []
beside x (y ∷ ys) = if (x == y.0) then y.1 ∷ beside x ys else beside x ys

-- each number below n is so
abbrev pub EachBelow : ℕ → (ℕ → Type 0) → Type 0
EachBelow zero P = Unit {0}
EachBelow (suc n) P = EachBelow n P × P n

-- each of these is so
abbrev pub Each : {A : Type 0} → (A → Type 0) → List A → Type 0
Each P [] = Unit {0}
Each P (x ∷ xs) = P x × Each P xs

-- These numbers are f 0, f 1, .., as many as they are, each once, in whatever order.
abbrev pub AreOnce : (ℕ → ℕ) → List ℕ → Type 0
AreOnce f xs = EachBelow (length xs) (λ k. times (f k) xs ≡ 1)

-- what the entries of a log name, and those of all logs
abbrev pub named_in : {A : Type 0} → (Entry → List A) → Log → List A
named_in names [] = []
named_in names (e ∷ es) = names e.1 ++ named_in names es

abbrev pub named : {A : Type 0} → (Entry → List A) → List Log → List A
named names [] = []
named names (log ∷ logs) = named_in names log ++ named names logs

-- each log is so for its processor, where the first one is that of processor p
abbrev pub LogsFrom : ℕ → (ℕ → Log → Type 0) → List Log → Type 0
LogsFrom p P [] = Unit {0}
LogsFrom p P (log ∷ logs) = P p log × LogsFrom (p + 1) P logs

abbrev pub EachLog : (ℕ → Log → Type 0) → List Log → Type 0
EachLog P logs = LogsFrom 0 P logs
