-- Worked logs with handlers, and logs that are each one step away from one.
use Rattle.std.specs.Prelude.{ℕ, List, [], ◌∷◌, ◌++◌, codes, refl}
use Rattle.std.proofs.Common.{lit≤}
use Rattle.bm_journal.specs.declared.ids.Domain.TheVariants.{Plain}
use Rattle.bm_journal.specs.declared.units.Units.TheVariants.{Whole}
use Rattle.bm_journal.specs.declared.entry.Entry.{Entry}
use Rattle.bm_journal.specs.declared.entry.Entry.TheVariants as entry
use Rattle.bm_journal.specs.declared.journal.Journal.{Journal}
use Rattle.bm_lang.specs.declared.scenario.Block.{Block}
use Rattle.bm_lang.specs.declared.scenario.Parts.{Parts}
use Rattle.bm_lang.specs.declared.scenario.ScriptKind.TheVariants as kind
use Rattle.bm_law.specs.Alone.{at_level}
use Rattle.bm_law.specs.Lists.{Log}
use Rattle.bm_due.specs.Worked.{at_step}
use Rattle.bm_law.specs.Ordinary.{ordinary}
use Rattle.bm_law_scenario.specs.WorkedJournal.{asks, block_of, gave, journal_of, makes_and_drops, makes_x, one_object, one_object_journal, one_page, script_of, swept, took}

-- one object is made and dropped by the plain script `main`, and a handler `h` with this body is planned for the third step
abbrev pub handled : Block → Parts
handled body = record one_object {
  scripts =
      script_of 6 (codes "main") (makes_and_drops 7 8 9)
      ∷ record (script_of 10 (codes "h") body) { kind = kind.Handler } ∷ [];
  ats = at_step 3 1 1 ∷ [];
}

-- bodies: nothing; an object that isn't dropped
abbrev pub idle : Block
idle = block_of [] (lit≤ tt) 11

abbrev pub keeps : Block
keeps = block_of (makes_x 11 ∷ []) (lit≤ tt) 12

-- the handler of this name at level 1, with these entries of its own
abbrev pub handler : List ℕ → List Entry → Log
handler name own = at_level 1 (entry.Handler name ∷ own ++ entry.Back name ∷ [])

-- ---- inside the script's section

-- the script asks for an object, and the unit is taken: two steps
abbrev pub taken : Log
taken =
    ordinary
    (entry.Fill 0 (Whole one_page) ∷ entry.Script (codes "main") ∷ entry.In Plain 1 ∷ asks
    ∷ entry.Enter 0 1 ∷ entry.Pop 0 3 ∷ [])

-- the rest of the script
abbrev pub counted : Log
counted =
    ordinary
    (entry.Count 0 3 ∷ entry.Leave 0 0 ∷ entry.Raise 0 ∷ entry.Given 3 1 ∷ gave 3 4
    ++ entry.Out Plain 2 ∷ entry.Done (codes "main") ∷ entry.Ended ∷ [])

-- what a handler leaves that finds the cache in use
abbrev pub finds_busy : List Entry
finds_busy = asks ∷ entry.Enter 0 2 ∷ entry.Leave 0 1 ∷ entry.Raise 0 ∷ entry.Busy 2 ∷ []

-- a handler before the third step, whose allocation answers null
abbrev pub interrupted : Log
interrupted = (taken ++ handler (codes "h") finds_busy) ++ counted

-- a handler that does nothing, and leaves a section; it asks for an object; it goes back by another name; a plain script
-- stands there
abbrev pub encloses_inside : Log
encloses_inside =
    (taken ++ handler (codes "h") (entry.In Plain 2 ∷ entry.Out Plain 3 ∷ [])) ++ counted

abbrev pub asks_too : Log
asks_too = (taken ++ handler (codes "h") finds_busy) ++ counted

abbrev pub back_as_other : Log
back_as_other =
    (taken ++ at_level 1 (entry.Handler (codes "h") ∷ entry.Back (codes "g") ∷ [])) ++ counted

abbrev pub plain_script : Log
plain_script = (taken ++ handler (codes "main") []) ++ counted

-- a handler that takes a unit and goes back with it
abbrev pub keeps_it : Log
keeps_it = (taken ++ handler (codes "h") (asks ∷ took 3)) ++ counted

-- ---- outside of a section

-- deferred work begins behind the script: `taken` and `counted` without the end of the processor
abbrev pub worked_behind : Log
worked_behind =
    taken
    ++ ordinary
    (entry.Count 0 3 ∷ entry.Leave 0 0 ∷ entry.Raise 0 ∷ entry.Given 3 1 ∷ gave 3 4
    ++ entry.Out Plain 2 ∷ entry.Done (codes "main") ∷ entry.Work 0 ∷ [])

-- the rest of it, and another script
abbrev pub works_on : Log
works_on =
    ordinary
    (entry.Receive 0 (Whole []) ∷ entry.Script (codes "main") ∷ entry.In Plain 5
    ∷ entry.Out Plain 6 ∷ entry.Done (codes "main") ∷ [])

-- a handler before the work's first step, in a section of its own; one without a section
abbrev pub behind_script : Log
behind_script =
    (worked_behind ++ handler (codes "h") (entry.In Plain 3 ∷ entry.Out Plain 4 ∷ [])) ++ works_on

abbrev pub no_section : Log
no_section = (worked_behind ++ handler (codes "h") []) ++ works_on

-- ---- words

-- two scripts' sections with the same words; a section that begins with word 2; one that ends before it began
abbrev pub same_words : Log
same_words =
    ordinary (entry.In Plain 1 ∷ entry.Out Plain 2 ∷ entry.In Plain 1 ∷ entry.Out Plain 2 ∷ [])

abbrev pub begins_with_two : Log
begins_with_two = ordinary (entry.In Plain 2 ∷ entry.Out Plain 3 ∷ [])

abbrev pub ends_first : Log
ends_first = ordinary (entry.Out Plain 1 ∷ [])

-- ---- a whole journal

-- the interrupted log with the closing behind it
abbrev pub interrupted_log : Log
interrupted_log = interrupted ++ ordinary (entry.Close ∷ swept (3 ∷ 2 ∷ 1 ∷ 0 ∷ []))

abbrev pub interrupted_journal : Journal
interrupted_journal =
    record
    (journal_of 1 (interrupted_log ∷ []) refl
    (16 ∷ 1 ∷ 0 ∷ 1 ∷ 1 ∷ 0 ∷ 0 ∷ 0 ∷ 0 ∷ 0 ∷ 0 ∷ 0 ∷ 2 ∷ 0 ∷ 4 ∷ 4 ∷ 0 ∷ 1 ∷ 1 ∷ []))
    { scripts = codes "main" ∷ codes "h" ∷ [] }

-- the journal of one object, in which no handler stands, with the names of both scripts
abbrev pub uninterrupted_journal : Journal
uninterrupted_journal = record one_object_journal { scripts = codes "main" ∷ codes "h" ∷ [] }
