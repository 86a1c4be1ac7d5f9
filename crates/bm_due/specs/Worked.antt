-- Worked values: planned handlers, and logs of one processor in which they stand where they are due, or don't. The units
-- are of 16 bytes, class 0, and of 32 bytes, class 1.
use Rattle.std.specs.Prelude.{ℕ, ◌+◌, false, List, [], ◌∷◌, ◌++◌, None, codes}
use Rattle.bm_journal.specs.declared.ids.Domain.TheVariants.{Plain}
use Rattle.bm_journal.specs.declared.units.Units.TheVariants.{Whole}
use Rattle.bm_journal.specs.declared.entry.Entry.TheVariants as entry
use Rattle.bm_lang.specs.declared.scenario.AtLine.{AtLine}
use Rattle.bm_lang.specs.declared.scenario.Block.{Block}
use Rattle.bm_lang.specs.declared.scenario.Parts.{Parts}
use Rattle.bm_lang.specs.declared.scenario.ScriptKind.TheVariants as kind
use Rattle.bm_law.specs.Lists.{Log}
use Rattle.bm_law.specs.Worked.{made, script_ends, swept_back}

-- a line `at 0 STEP LEVEL SCRIPT`
abbrev pub at_step : ℕ → ℕ → ℕ → AtLine
at_step step level script =
    record { line = 1; processor = 0; step = step; level = level; script = record { 0 = script } }

-- the names of the scripts 0 to 4
abbrev pub script_names : List (List ℕ)
script_names = codes "main" ∷ codes "h" ∷ codes "g" ∷ codes "f" ∷ codes "e" ∷ []

-- A scenario of two processors, for each of which one handler is planned, where all scripts have the same body.
abbrev pub interrupted : Block → Parts
interrupted body = record {
  processors = 2;
  pages = 1;
  deferred = false;
  types = [];
  maps = [];
  scripts =
      record { line = 1; name = codes "main"; kind = kind.Plain; body = body }
      ∷ record { line = 1; name = codes "h"; kind = kind.Handler; body = body } ∷ [];
  runs = [];
  ats = at_step 3 1 1 ∷ record (at_step 1 2 1) { processor = 1 } ∷ [];
  turns = None;
}

-- ---- values

-- four handlers, two of them of one level
abbrev pub four_planned : List AtLine
four_planned = at_step 3 1 1 ∷ at_step 3 2 2 ∷ at_step 4 3 3 ∷ at_step 3 2 4 ∷ []

-- ---- logs

-- The script asks for an object, and its cache is raised and the unit is taken: two steps.
abbrev pub unit_taken : Log
unit_taken =
    (0, entry.Fill 0 (Whole (0 ∷ 1 ∷ 2 ∷ 3 ∷ []))) ∷
    (0, entry.Script (codes "main")) ∷
    (0, entry.In Plain 1) ∷
    (0, entry.New (codes "item") (7 ∷ [])) ∷
    (0, entry.Enter 0 1) ∷
    (0, entry.Pop 0 3) ∷ []

-- The rest of it: three steps.
abbrev pub unit_counted : Log
unit_counted =
    (0, entry.Count 0 3) ∷
    (0, entry.Leave 0 0) ∷
    (0, entry.Raise 0) ∷ []

abbrev pub unit_given : Log
unit_given = unit_counted ++ (0, entry.Given 3 1) ∷ []

-- A handler that does nothing.
abbrev pub idles : List ℕ → ℕ → Log
idles name l = (l, entry.Handler name) ∷ (l, entry.Back name) ∷ []

-- A handler that asks for an object from a cache in use: three steps, with what comes before the first one and before the
-- second one.
abbrev pub asks_around : List ℕ → ℕ → Log → Log → Log
asks_around name l first second =
    (l, entry.Handler name) ∷
    (l, entry.New (codes "item") (9 ∷ [])) ∷ first ++
    (l, entry.Enter 0 (l + 1)) ∷ second ++
    (l, entry.Leave 0 l) ∷
    (l, entry.Raise 0) ∷
    (l, entry.Busy (l + 1)) ∷
    (l, entry.Back name) ∷ []

abbrev pub asks : List ℕ → ℕ → Log
asks name l = asks_around name l [] []

-- a handler between the take of a unit and its count
abbrev pub between : Log
between = unit_taken ++ asks (codes "h") 1 ++ unit_given

-- The same with a handler that makes an object of another class and drops it: nine steps, so that the count is the twelfth.
abbrev pub makes_and_drops : Log
makes_and_drops =
    (1, entry.Handler (codes "h")) ∷
    (1, entry.New (codes "wide") (1 ∷ 2 ∷ [])) ∷
    (1, entry.Enter 1 1) ∷
    (1, entry.Pop 1 259) ∷
    (1, entry.Count 1 3) ∷
    (1, entry.Leave 1 0) ∷
    (1, entry.Raise 1) ∷
    (1, entry.Given 259 1) ∷
    (1, entry.Drop 259 1) ∷
    (1, entry.Last) ∷
    (1, entry.Free 259 0) ∷
    (1, entry.Enter 1 1) ∷
    (1, entry.Push 1 259) ∷
    (1, entry.Count 1 4) ∷
    (1, entry.Leave 1 0) ∷
    (1, entry.Back (codes "h")) ∷ []

abbrev pub up_to_the_twelfth : Log
up_to_the_twelfth = unit_taken ++ makes_and_drops

abbrev pub twelve_steps : Log
twelve_steps = up_to_the_twelfth ++ unit_given

-- Three handlers, the second of which is planned for the second step of the first one, and the third for that of the second.
abbrev pub three_in_turn : Log
three_in_turn =
    unit_taken ++ asks_around (codes "h") 1 [] (asks_around (codes "g") 2 [] (asks (codes "f") 3))
    ++ unit_given

-- Four handlers before one step: the highest level first, and of one level the first in the text.
abbrev pub four_at_once : Log
four_at_once =
    unit_taken ++ idles (codes "f") 3 ++ idles (codes "g") 2 ++ idles (codes "e") 2
    ++ idles (codes "h") 1 ++ unit_given

-- The number of the step is read anew: the first handler takes three steps, so that the second one is due behind it.
abbrev pub read_anew : Log
read_anew = unit_taken ++ asks (codes "h") 1 ++ idles (codes "g") 1 ++ unit_given

-- ---- logs in which they don't

-- held back until the call that it interrupts has ended
abbrev pub held_back : Log
held_back = unit_taken ++ unit_counted ++ asks (codes "h") 1 ++ (0, entry.Given 3 1) ∷ []

-- before an entry that is no step
abbrev pub before_a_call : Log
before_a_call =
    (0, entry.Fill 0 (Whole (0 ∷ 1 ∷ 2 ∷ 3 ∷ []))) ∷
    (0, entry.Script (codes "main")) ∷
    (0, entry.In Plain 1) ∷ idles (codes "h") 1 ++
    (0, entry.New (codes "item") (7 ∷ [])) ∷
    (0, entry.Enter 0 1) ∷ []

-- the lowest level first
abbrev pub lowest_first : Log
lowest_first = unit_taken ++ idles (codes "h") 1 ++ idles (codes "g") 2 ++ unit_given

-- of one level the last in the text first
abbrev pub last_first : Log
last_first = unit_taken ++ idles (codes "e") 2 ++ idles (codes "g") 2 ++ unit_given

-- Each within the one below, where all of them are due before the first one begins.
abbrev pub three_levels : Log
three_levels =
    unit_taken ++ asks_around (codes "h") 1 (asks_around (codes "g") 2 (asks (codes "f") 3) []) []
    ++ unit_given

-- at the level of the handler that it interrupts
abbrev pub own_level : Log
own_level = unit_taken ++ asks_around (codes "h") 1 [] (idles (codes "g") 1) ++ unit_given

-- twice, where it is planned once
abbrev pub twice : Log
twice = unit_taken ++ idles (codes "h") 1 ++ idles (codes "h") 1 ++ unit_given

-- The number of the step is read once, before the first handler: the second one waits for the next step.
abbrev pub read_once : Log
read_once =
    unit_taken ++ asks (codes "h") 1 ++ (0, entry.Count 0 3) ∷ idles (codes "g") 1
    ++ (0, entry.Leave 0 0) ∷ (0, entry.Raise 0) ∷ (0, entry.Given 3 1) ∷ []

-- in the closing
abbrev pub after_the_end : Log
after_the_end =
    made ++ script_ends ++ idles (codes "h") 1 ++ swept_back (2 ∷ 1 ∷ 0 ∷ [])

-- another script's
abbrev pub another_script : Log
another_script = unit_taken ++ idles (codes "g") 1 ++ unit_given

-- one that never goes back, and one that goes back as another
abbrev pub never_back : Log
never_back = unit_taken ++ (1, entry.Handler (codes "h")) ∷ []

abbrev pub back_as_another : Log
back_as_another =
    unit_taken ++ (1, entry.Handler (codes "h")) ∷ (1, entry.Back (codes "g")) ∷ unit_given

-- an entry of the interrupted code amid the handler's
abbrev pub amid : Log
amid =
    unit_taken ++ (1, entry.Handler (codes "h")) ∷ (0, entry.Count 0 3)
    ∷ (1, entry.Back (codes "h")) ∷ (0, entry.Leave 0 0) ∷ []
