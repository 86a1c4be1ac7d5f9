-- The wrong journals of two scripts are not lawful.
use Rattle.std.proofs.Common.{true, ◌≡◌, ◌≤◌, ◌+◌, ℕ, List, [], ◌∷◌, ◌++◌, refl, sym, ap, subst, ◌∙◌, codes, arith, slice_index, append-nil, lit≤}
use Rattle.bm_class.specs.Sizes.{class_of_size}
use Rattle.bm_journal.specs.declared.units.Units.TheVariants.{Whole}
use Rattle.bm_journal.specs.declared.entry.Entry.{Entry}
use Rattle.bm_journal.specs.declared.entry.Entry.TheVariants as entry
use Rattle.bm_lang.specs.declared.scenario.Action.{Repeat}
use Rattle.bm_lang.specs.declared.scenario.Script.{Script}
use Rattle.bm_page.specs.Stock.{fetched}
use Rattle.bm_law_scenario.specs.Declared.{unmapped}
use Rattle.bm_law_scenario.specs.Fills.{fresh_stock, numbers_of, prefill}
use Rattle.bm_law_scenario.specs.Held.{Names, no_names}
use Rattle.bm_law_scenario.proofs.OwnRuns.{Run, Done, Then, RunsBlock}
use Rattle.bm_law_scenario.proofs.OwnGrammar.{IsLog, IsScript}
use Rattle.bm_law_scenario.specs.Grammar.{section_of}
use Rattle.bm_law_scenario.specs.Lawful.{LawfulLogs}
use Rattle.bm_law_scenario.specs.WorkedJournal.{vector_of, types, makes_x, drops_x_unless_null, makes_and_drops, makes_and_drops_twice, script_of, three_calls}
use Rattle.bm_law_scenario.specs.WrongJournals.{main_first_log, main_first, repeated_once_log, repeated_once}
use Rattle.bm_law_scenario.proofs.Blocks.{block-runs}
use Rattle.bm_law_scenario.proofs.SameLogs.{owned-log}
use Rattle.bm_law_scenario.proofs.Told.{entries_of, own-is, same-script}

-- what the log is made of: two scripts, in the order of their lines
record AreMade (own : List Entry) : Type 0 where
  units : List ℕ
  one : List Entry
  two : List Entry
  rest : List Entry
  own_is : own ≡ entry.Fill 0 (Whole units) ∷ ((one ++ two) ++ rest)
  words : ℕ × ℕ
  first : IsScript three_calls (script_of 10 (codes "twice") (makes_and_drops_twice 11 12)) words.0 one
  second : IsScript three_calls (script_of 6 (codes "main") (makes_and_drops 7 8 9)) words.1 two

made-of : (own : List Entry) → IsLog three_calls 0 own → AreMade own
unfolding class_of_size
made-of own h =
    let opened : List ℕ = numbers_of (fetched 0 (prefill 0) (fresh_stock 0)).units in
    let f : (rest : List Entry) × (h.fills ≡ entry.Fill 0 (Whole opened) ∷ rest) × (rest ≡ []) = h.are_fills in
    let r = h.are_scripts in
    let q = r.2.5 in
    let rest : List Entry = entry.Ended ∷ entry.Close ∷ h.sweeps in
    let P : Script → Type 0 = λ s. IsScript three_calls s r.2.0 r.2.1 in
    let Q : Script → Type 0 = λ s. IsScript three_calls s q.2.0 q.2.1 in
    let front : h.fills ≡ entry.Fill 0 (Whole opened) ∷ [] = f.1 ∙ ap (λ v. entry.Fill 0 (Whole opened) ∷ v) f.2 in
    let scripts : h.scripts ≡ r.2.1 ++ (q.2.1 ++ []) = r.2.3 ∙ ap (λ v. r.2.1 ++ v) (q.2.3 ∙ ap (λ v. q.2.1 ++ v) q.2.5) in
    record {
      units = opened;
      one = r.2.1;
      two = q.2.1 ++ [];
      rest = rest;
      own_is = h.own_is ∙ ap (λ v. v ++ (h.scripts ++ rest)) front ∙ ap (λ v. (entry.Fill 0 (Whole opened) ∷ []) ++ (v ++ rest)) scripts;
      words = (r.2.0, q.2.0);
      first = subst P (sym (same-script r.1)) r.2.4;
      second = rw (append-nil q.2.1) (subst Q (sym (same-script q.1)) q.2.4);
    }

-- ---- the order

apart : (units units' : List ℕ) (v w : List Entry) → entry.Fill 0 (Whole units) ∷ entry.Script (codes "main") ∷ v ≡ entry.Fill 0 (Whole units') ∷ entry.Script (codes "twice") ∷ w → codes "main" ≡ codes "twice"
apart units units' v w e = cc

other-name : codes "main" ≡ codes "twice" → ⊥
other-name e = omega (arith, ap (λ (v : List ℕ). slice_index v 0) e)

pub main_first-wrong : LawfulLogs three_calls main_first → ⊥
main_first-wrong h =
    let l = owned-log three_calls refl refl 0 refl main_first_log (h.logs 0 main_first_log refl) in
    let m = made-of (entries_of main_first_log) (subst (IsLog three_calls 0) (own-is three_calls 0 main_first_log l) l.is_log) in
    other-name (apart [] m.units _ _ (m.own_is ∙ ap (λ v. entry.Fill 0 (Whole m.units) ∷ ((v ++ m.two) ++ m.rest)) m.first.own_is))

-- ---- the number of calls

asks-one : Entry → ℕ
asks-one (entry.New name values) = 1
asks-one _ = 0

-- how many calls for an object there are
calls : List Entry → ℕ
calls [] = 0
calls (e ∷ es) = asks-one e + calls es

calls-append : (v w : List Entry) → calls (v ++ w) ≡ calls v + calls w
unfolding calls
calls-append [] w = omega arith
calls-append (e ∷ v) w = let h = calls-append v w in omega arith

then-calls : (one two : Run) (m n : ℕ) → ((names : Names) (part : List Entry) (after : Names) → one names part after → m ≤ calls part) → ((names : Names) (part : List Entry) (after : Names) → two names part after → n ≤ calls part) → (names : Names) (part : List Entry) (after : Names) → Then one two names part after → m + n ≤ calls part
then-calls one two m n f g names part after h =
    let a = f names h.one h.middle h.first_runs in
    let b = g h.middle h.two after h.second_runs in
    omega (arith, ap calls h.part_is, calls-append h.one h.two)

-- a block that makes and drops calls once at least
block-calls : (first second end : ℕ) (names : Names) (part : List Entry) (after : Names) → RunsBlock (unmapped types) true (makes_and_drops first second end) names part after → 1 ≤ calls part
unfolding calls asks-one
block-calls first second end names part after h =
    let list = subst (λ (run : Run). run names part after) (block-runs (unmapped types) (vector_of (makes_x first ∷ drops_x_unless_null second ∷ []) (lit≤ tt)) end) h in
    omega (arith, ap calls list.part_is, calls-append list.one list.two, ap calls list.first_runs.part_is)

anything : (run : Run) (names : Names) (part : List Entry) (after : Names) → run names part after → 0 ≤ calls part
anything run names part after h = omega arith

twice-calls : (line end : ℕ) (names : Names) (part : List Entry) (after : Names) → RunsBlock (unmapped types) true (makes_and_drops_twice line end) names part after → 2 ≤ calls part
twice-calls line end names part after h =
    let block : Run = RunsBlock (unmapped types) true (makes_and_drops line line line) in
    let list = subst (λ (run : Run). run names part after) (block-runs (unmapped types) (vector_of (record { line = line; action = Repeat 2 (makes_and_drops line line line) } ∷ []) (lit≤ tt)) end) h in
    then-calls (Then block (Then block Done)) Done 2 0 (then-calls block (Then block Done) 1 1 (block-calls line line line) (then-calls block Done 1 0 (block-calls line line line) (anything Done))) (anything Done) names part after list

script-calls : (s : Script) (w : ℕ) (own : List Entry) (k : IsScript three_calls s w own) → calls k.part ≤ calls own
unfolding calls asks-one
script-calls s w own k = omega (arith, ap calls k.own_is, calls-append k.part (entry.Out (section_of s.kind) (w + 1) ∷ entry.Done s.name ∷ []))

pub repeated_once-wrong : LawfulLogs three_calls repeated_once → ⊥
unfolding calls asks-one
repeated_once-wrong h =
    let l = owned-log three_calls refl refl 0 refl repeated_once_log (h.logs 0 repeated_once_log refl) in
    let m = made-of (entries_of repeated_once_log) (subst (IsLog three_calls 0) (own-is three_calls 0 repeated_once_log l) l.is_log) in
    let twice = twice-calls 11 12 no_names m.first.part m.first.after m.first.runs in
    let main = block-calls 7 8 9 no_names m.second.part m.second.after m.second.runs in
    omega (arith, ap calls m.own_is, calls-append (m.one ++ m.two) m.rest, calls-append m.one m.two, script-calls _ _ m.one m.first, script-calls _ _ m.two m.second, twice, main)
