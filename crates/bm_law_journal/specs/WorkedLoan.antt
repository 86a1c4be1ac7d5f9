-- A worked journal, whole and with its scenario, in which a unit is lent: one processor makes an
-- object and hands it to the other one through a slot; the other one frees it with delay; a section
-- of the former holds up the grace period that the unit waits for; then the unit goes home as a
-- parcel, and there an object of another type is made of it. There is one page, and it has one unit
-- of this class, 10, whose units have 4096 bytes; below two free units a cache is short, and a
-- refill asks for three.
use Rattle.std.specs.Prelude.{◌≡◌, ◌+◌, ℕ, true, refl, Option, Some, None, List, [], ◌∷◌, ◌++◌, codes}
use Rattle.std.proofs.Common.{lit≤}
use Rattle.bm_journal.specs.declared.ids.Domain.TheVariants.{Plain, Tracing}
use Rattle.bm_journal.specs.declared.ids.ObjId.{ObjId}
use Rattle.bm_journal.specs.declared.units.Units.TheVariants.{Whole}
use Rattle.bm_journal.specs.declared.entry.Entry.{Entry}
use Rattle.bm_journal.specs.declared.entry.Entry.TheVariants as entry
use Rattle.bm_journal.specs.declared.journal.Journal.{Journal}
use Rattle.bm_lang.specs.declared.scenario.Action.{New, Section, Yield}
use Rattle.bm_lang.specs.declared.scenario.Block.{Block}
use Rattle.bm_lang.specs.declared.scenario.MapDeclaration.{MapDeclaration}
use Rattle.bm_lang.specs.declared.scenario.MapKind.TheVariants.{Slot}
use Rattle.bm_lang.specs.declared.scenario.Parts.{Parts}
use Rattle.bm_lang.specs.declared.scenario.RunLine.{RunLine}
use Rattle.bm_lang.specs.declared.scenario.Script.{Script}
use Rattle.bm_lang.specs.declared.scenario.ScriptKind.TheVariants as kind
use Rattle.bm_lang.specs.declared.scenario.Statement.{Statement}
use Rattle.bm_lang.specs.declared.scenario.TypeDeclaration.{TypeDeclaration}
use Rattle.bm_lang.specs.declared.scenario.TypeId.{TypeId}
use Rattle.bm_law.specs.Lists.{Log}
use Rattle.bm_law.specs.Ordinary.{ordinary}
use Rattle.bm_law_lives.specs.Worked.{batches, delays, ends, frees, opens, period, pushes, returns, sends, sweeps}
use Rattle.bm_law_scenario.specs.Worked.{plain_type}
use Rattle.bm_law_lives.specs.WorkedBlock.{work_ends, work_reads}
use Rattle.bm_law_scenario.specs.WorkedJournal.{block_of, drops_x_unless_null, script_of, x_name}
use Rattle.bm_law_scenario.specs.WorkedSlots.{call_of, desk, exchanges, puts_x_unless_null, takes_x}
use Rattle.bm_law_journal.specs.Lawful.{Laid, Lawful}
use Rattle.bm_law_journal.specs.WorkedTurns.{HasTurns, turns}

-- ---- the scenario

-- `type big counted { pad 4080 }`, `type wide { pad 4088 }`, `slot desk big`
abbrev pub big : TypeDeclaration
big = record (plain_type (codes "big") [] (Some 4080)) { line = 5; counted = true }

abbrev pub wide : TypeDeclaration
wide = record (plain_type (codes "wide") [] (Some 4088)) { line = 6 }

abbrev pub big_id : TypeId
big_id = record { 0 = 0 }

abbrev pub wide_id : TypeId
wide_id = record { 0 = 1 }

abbrev pub slots : List MapDeclaration
slots = record { line = 7; kind = Slot; name = desk; type_id = big_id } ∷ []

-- `new x T`, `yield`, and `section { yield }`, in this line
abbrev pub makes_x_of : TypeId → ℕ → Statement
makes_x_of t line = record { line = line; action = New x_name t [] }

abbrev pub yields : ℕ → Statement
yields line = record { line = line; action = Yield }

abbrev pub stays_inside : ℕ → Statement
stays_inside line =
    record { line = line; action = Section (block_of (yields line ∷ []) (lit≤ tt) line) }

-- `new x big`, `if x { xchg o desk x if o { drop o } }`, `section { yield }`, `yield`
abbrev pub lends_statements : List Statement
lends_statements = makes_x_of big_id 9 ∷ puts_x_unless_null 10 ∷ stays_inside 11 ∷ yields 12 ∷ []

abbrev pub lends : Block
lends = block_of lends_statements (lit≤ tt) 13

-- `new x wide`, `if x { drop x }`
abbrev pub makes_again : Block
makes_again = block_of (makes_x_of wide_id 15 ∷ drops_x_unless_null 16 ∷ []) (lit≤ tt) 17

-- `xchg x desk null`, `if x { drop x }`
abbrev pub gives_up : Block
gives_up = block_of (takes_x 19 ∷ drops_x_unless_null 20 ∷ []) (lit≤ tt) 21

-- `yield`
abbrev pub waits : Block
waits = block_of (yields 23 ∷ []) (lit≤ tt) 24

-- `script lends sleepable`, and three plain ones
abbrev pub lends_script : Script
lends_script = record (script_of 8 (codes "lends") lends) { kind = kind.Sleepable }

abbrev pub again_script : Script
again_script = script_of 14 (codes "again") makes_again

abbrev pub takes_script : Script
takes_script = script_of 18 (codes "takes") gives_up

abbrev pub waits_script : Script
waits_script = script_of 22 (codes "waits") waits

-- `run 0 lends`, `run 0 again`, `run 1 takes`, `run 1 waits`
abbrev pub runs_of : (line processor script : ℕ) → RunLine
runs_of line processor script =
    record { line = line; processor = processor; script = record { 0 = script } }

-- .. `turns { 0 1 0 1 }`; what is left of processor 0 comes after them
abbrev pub loan : Parts
loan = record {
  processors = 2;
  pages = 1;
  deferred = true;
  types = big ∷ wide ∷ [];
  maps = slots;
  scripts = lends_script ∷ again_script ∷ takes_script ∷ waits_script ∷ [];
  runs = runs_of 25 0 0 ∷ runs_of 26 0 1 ∷ runs_of 27 1 2 ∷ runs_of 28 1 3 ∷ [];
  ats = [];
  turns = Some turns;
}

-- ---- parts of the logs

-- the one unit of Free is taken, and given by this reply; Free is short then, so the flag is raised
abbrev pub takes_last : Entry → List Entry
takes_last reply =
    entry.Enter 10 1 ∷ entry.Pop 10 0 ∷ entry.Count 10 0 ∷ entry.Leave 10 0 ∷
    entry.Raise 10 ∷ reply ∷ []

-- so many units are asked of the stock, which has none
abbrev pub finds_none : ℕ → List Entry
finds_none want = entry.Fetch 10 want (Whole []) ∷ []

-- a work to its refill: no parcel waits, Free has k units, and the stock has none
abbrev pub refills_none : ℕ → List Entry
refills_none k = work_reads k ++ finds_none 3

-- a work that has nothing to do, where Free has k units
abbrev pub works_in_vain : ℕ → List Entry
works_in_vain k = refills_none k ++ work_ends

-- a plain script does this in its section, whose word is w inside
abbrev pub runs_plainly : List ℕ → (w : ℕ) → List Entry → List Entry
runs_plainly name w own =
    entry.Script name ∷ entry.In Plain w ∷ own ++ entry.Out Plain (w + 1) ∷ entry.Done name ∷ []

-- ---- processor 0

-- unit 0 in its first life
abbrev pub the_unit : Option ObjId
the_unit = Some (record { unit = 0; life = 1 })

-- it makes an object of the unit, and puts it into the slot, in which nothing was
abbrev pub makes_and_puts : List Entry
makes_and_puts =
    entry.New (codes "big") [] ∷ takes_last (entry.Given 0 1) ++ works_in_vain 0 ++
    exchanges the_unit None None

-- it yields in a plain section; in its second turn it leaves that, and does this before it yields
-- again
abbrev pub holds_up : List Entry → List Entry
holds_up before = entry.In Plain 1 ∷ entry.Yield ∷ entry.Out Plain 2 ∷ before ++ entry.Yield ∷ []

abbrev pub lends_with : List Entry → List Entry
lends_with before =
    entry.Script (codes "lends") ∷ entry.In Tracing 1 ∷
    (makes_and_puts ++ holds_up before) ++
    entry.Out Tracing 2 ∷ entry.Done (codes "lends") ∷ []

-- the work behind the script, in its third turn, finds the parcel: the unit comes back into Free,
-- and two more are asked of the stock
abbrev pub receives : List Entry
receives =
    entry.Work 10 ∷ entry.Receive 10 (Whole (0 ∷ [])) ∷ entry.Receive 10 (Whole []) ∷
    entry.Read 10 0 ∷ entry.Ready 10 0 ∷ pushes 0 ++ finds_none 2 ++ work_ends

-- it makes an object of the other type, which is given by this reply, and frees it plainly
abbrev pub makes_and_drops : Entry → List Entry
makes_and_drops reply =
    entry.New (codes "wide") [] ∷ takes_last reply ++ works_in_vain 0 ++ frees 0 2 0

abbrev pub again_with : Entry → List Entry
again_with reply = runs_plainly (codes "again") 3 (makes_and_drops reply) ++ works_in_vain 1

-- in the closing it finds the slot empty, as the other one's exchange left it, and sweeps the unit
abbrev pub finds_empty : List Entry
finds_empty = exchanges None None (call_of 1 1)

abbrev pub last_words : List ℕ
last_words = 4 ∷ 2 ∷ 4 ∷ 0 ∷ []

abbrev pub sweeps_unit : List Entry
sweeps_unit = sweeps 0 2 ++ period Tracing 1 last_words last_words ++ returns 0 2

abbrev pub sealed : Entry
sealed = entry.GivenAfter 0 2 2 2

abbrev pub lender_entries : (before : List Entry) → (reply : Entry) → List Entry
lender_entries before reply =
    opens (0 ∷ []) ++ (lends_with before ++ receives ++ again_with reply) ++
    entry.Ended ∷ entry.Close ∷ finds_empty ++ sweeps_unit

abbrev pub lender_with : (before : List Entry) → (reply : Entry) → Log
lender_with before reply = ordinary (lender_entries before reply)

abbrev pub lender : Log
lender = lender_with [] sealed

-- ---- processor 1

-- it takes the object, and gives it up: the unit is freed with delay, to this home, and the flag is
-- raised
abbrev pub drops_to : ℕ → List Entry
drops_to home = delays 0 1 home ++ entry.Raise 10 ∷ []

-- the work behind that makes a batch of it, which takes its stamp
abbrev pub takes_and_drops : ℕ → List Entry
takes_and_drops home =
    exchanges None the_unit (call_of 0 2) ++ drops_to home ++ refills_none 0 ++ batches 0 2

-- the work behind the script begins a period, and does this
abbrev pub begins_with : List Entry → List Entry
begins_with own = refills_none 0 ++ entry.Begin Plain 1 ∷ own ++ work_ends

-- the period goes on: it isn't the number that the batch waits for
abbrev pub goes_on : List Entry
goes_on = entry.Pass 10 Plain 1 ∷ []

-- the work behind the other script, in its second turn, does this
abbrev pub polls_with : List Entry → List Entry
polls_with own = refills_none 0 ++ own ++ work_ends

-- the period ends with these words, first and later ones
abbrev pub ends_with : (first later : List ℕ) → Entry
ends_with first later = ends Plain 2 first later

-- it ends with these first words and with the word of processor 0 that has changed since, and the
-- batch goes to a processor
abbrev pub sends_seeing : (first : List ℕ) → (to : ℕ) → List Entry
sends_seeing first to = ends_with first (2 ∷ 4 ∷ []) ∷ sends 0 2 to

-- the words that it found at its begin, when processor 0 was in its section
abbrev pub found_first : List ℕ
found_first = 1 ∷ 2 ∷ []

abbrev pub sends_to : ℕ → List Entry
sends_to to = sends_seeing found_first to

abbrev pub borrower_scripts : (home : ℕ) → (first second : List Entry) → List Entry
borrower_scripts home first second =
    runs_plainly (codes "takes") 1 (takes_and_drops home) ++ begins_with first ++
    runs_plainly (codes "waits") 3 (entry.Yield ∷ []) ++ polls_with second

abbrev pub borrower_entries : (home : ℕ) → (first second : List Entry) → List Entry
borrower_entries home first second =
    opens [] ++ borrower_scripts home first second ++ entry.Ended ∷ []

abbrev pub borrower_with : (home : ℕ) → (first second : List Entry) → Log
borrower_with home first second = ordinary (borrower_entries home first second)

abbrev pub borrower_seeing : (first : List ℕ) → Log
borrower_seeing first = borrower_with 0 goes_on (sends_seeing first 0)

abbrev pub borrower : Log
borrower = borrower_seeing found_first

-- ---- the journal

-- the period ends with these first words
abbrev pub logs_seeing : (first : List ℕ) → List Log
logs_seeing first = lender ∷ borrower_seeing first ∷ []

abbrev pub journal_seeing : (first : List ℕ) → Journal
journal_seeing first = record {
  processors = 2;
  pages = 1;
  types = codes "big" ∷ codes "wide" ∷ [];
  maps = desk ∷ [];
  scripts = codes "lends" ∷ codes "again" ∷ codes "takes" ∷ codes "waits" ∷ [];
  classes = (10, record { low = 2; high = 6; batch = 3 }) ∷ [];
  logs = logs_seeing first;
  graphs = [];
  totals = 75 ∷ 2 ∷ 0 ∷ 0 ∷ 2 ∷ 0 ∷ 0 ∷ 3 ∷ 0 ∷ 0 ∷ 0 ∷ 0 ∷ 3 ∷ 7 ∷ 1 ∷ 1 ∷ 1 ∷ 1 ∷ 0 ∷ [];
  maps_differ = refl;
  owners_named = refl;
  units_whole = refl;
}

abbrev pub loan_logs : List Log
loan_logs = logs_seeing found_first

abbrev pub loan_journal : Journal
loan_journal = journal_seeing found_first

-- ---- wrong ones

-- No journal of these logs is lawful, whatever its scenario; and none is laid with two processors,
-- one page and these turns.
pub record AreRefused (logs : List Log) : Type 0 where
  pub unlawful : (s : Parts) (j : Journal) → j.logs ≡ logs → ¬ Lawful s j
  pub unlaid : (s : Parts) (j : Journal) → HasTurns turns logs s j → ¬ Laid s j

-- The period ends with the word that processor 0 had at its begin, inside of its section: one
-- number is another one.
abbrev pub ended_unchanged : List Log
ended_unchanged =
    lender ∷ borrower_with 0 goes_on (ends_with found_first (1 ∷ 4 ∷ []) ∷ sends 0 2 0) ∷ []

-- It ends directly behind its begin, in the section that was there then, and the batch is sent
-- there.
abbrev pub ended_in_section : List Log
ended_in_section =
    lender ∷ borrower_with 0 (ends_with found_first (1 ∷ 2 ∷ []) ∷ sends 0 2 0) [] ∷ []

-- Processor 0 ends it, which didn't begin it.
abbrev pub ended_by_other : List Log
ended_by_other =
    lender_with (ends_with found_first (2 ∷ 3 ∷ []) ∷ []) sealed ∷
    borrower_with 0 goes_on (sends 0 2 0) ∷ []

-- The unit is given again without a seal.
abbrev pub given_unsealed : List Log
given_unsealed = lender_with [] (entry.Given 0 2) ∷ borrower ∷ []

-- Its batch is sent while the period goes on.
abbrev pub sent_in_period : List Log
sent_in_period =
    lender ∷ borrower_with 0 (sends 0 1 0)
    (ends_with found_first (2 ∷ 4 ∷ []) ∷ entry.Pass 10 Plain 2 ∷ []) ∷ []

-- Processor 1 frees the unit as if it had given it.
abbrev pub freed_to_itself : List Log
freed_to_itself = lender ∷ borrower_with 1 goes_on (sends_to 0) ∷ []

-- It sends the parcel to itself, and processor 0 receives it.
abbrev pub sent_to_itself : List Log
sent_to_itself = lender ∷ borrower_with 0 goes_on (sends_to 1) ∷ []

-- Lawful, but not laid: the period ends as if processor 0 had been in no section at its begin. One
-- number is another one, of which the logs by themselves don't tell, but their order does.
abbrev pub seen_outside : Journal
seen_outside = journal_seeing (2 ∷ 2 ∷ [])
