-- Worked scenarios with deferred work, each with its journal. Both have a type of 4088 bytes, whose units fill pages of their
-- own: class 10, with the marks 2 and 6 and the batch 3. There are two pages. The parts of their logs are those of bm_law_lives.
use Rattle.std.specs.Prelude.{ℕ, IsTrue, true, refl, None, Some, List, [], ◌∷◌, ◌++◌, codes}
use Rattle.std.proofs.Common.{lit≤}
use Rattle.bm_journal.specs.declared.journal.Journal.{Journal}
use Rattle.bm_journal.specs.WellFormed.{are_whole}
use Rattle.bm_lang.specs.declared.scenario.Action.{New, Repeat}
use Rattle.bm_lang.specs.declared.scenario.Block.{Block}
use Rattle.bm_lang.specs.declared.scenario.Parts.{Parts}
use Rattle.bm_lang.specs.declared.scenario.Statement.{Statement}
use Rattle.bm_lang.specs.declared.scenario.TypeDeclaration.{TypeDeclaration}
use Rattle.bm_law.specs.Lists.{Log}
use Rattle.bm_law.specs.Ordinary.{ordinary}
use Rattle.bm_law_scenario.specs.Worked.{plain_type}
use Rattle.bm_law_scenario.specs.WorkedJournal.{block_of, x_name, item_id, drops_x_unless_null, script_of}
pub use Rattle.bm_law_lives.specs.WorkedBlock.{begins, takes, drops, work_reads, refills, work_ends, stops, closes, one_block_log}

-- ---- the scenarios

-- `type block { pad 4088 }`, the only type
abbrev pub block : TypeDeclaration
block = record (plain_type (codes "block") [] (Some 4088)) { line = 5 }

-- two pages, and one plain script with this body
abbrev pub with_work : Block → Parts
with_work body = record {
  processors = 1;
  pages = 2;
  deferred = true;
  types = block ∷ [];
  maps = [];
  scripts = script_of 6 (codes "main") body ∷ [];
  runs = record { line = 10; processor = 0; script = record { 0 = 0 } } ∷ [];
  ats = [];
  turns = None;
}

-- An object is made and dropped: `new x block`, `if x { drop x }`.
abbrev pub makes_block : Statement
makes_block = record { line = 7; action = New x_name item_id [] }

abbrev pub makes_and_drops_block : Block
makes_and_drops_block = block_of (makes_block ∷ drops_x_unless_null 8 ∷ []) (lit≤ tt) 9

abbrev pub one_block : Parts
one_block = with_work makes_and_drops_block

-- Nothing is made: `repeat 0 { new x block if x { drop x } }`.
abbrev pub makes_never : Statement
makes_never = record { line = 7; action = Repeat 0 makes_and_drops_block }

abbrev pub no_block : Parts
no_block = with_work (block_of (makes_never ∷ []) (lit≤ tt) 9)

-- ---- the journals

-- a journal of such a scenario
abbrev pub telling_work : (log : Log) → IsTrue (are_whole (log ∷ [])) → List ℕ → Journal
telling_work log whole totals = record {
  processors = 1;
  pages = 2;
  types = codes "block" ∷ [];
  maps = [];
  scripts = codes "main" ∷ [];
  classes = (10, record { low = 2; high = 6; batch = 3 }) ∷ [];
  logs = log ∷ [];
  graphs = [];
  totals = totals;
  maps_differ = refl;
  owners_named = refl;
  units_whole = whole;
}

-- One object: the log is told in bm_law_lives.
abbrev pub one_block_journal : Journal
one_block_journal =
    telling_work one_block_log refl
    (28 ∷ 1 ∷ 0 ∷ 0 ∷ 1 ∷ 0 ∷ 0 ∷ 0 ∷ 0 ∷ 0 ∷ 0 ∷ 0 ∷ 1 ∷ 2 ∷ 2 ∷ 2 ∷ 0 ∷ 1 ∷ 0 ∷ [])

-- No object. No flag is up behind the statement, and no work stands there; that behind the script brings a unit.
abbrev pub no_block_log : Log
no_block_log =
    ordinary (begins ++ stops ++ work_reads 1 ++ refills 2 ++ work_ends ++ closes (256 ∷ 0 ∷ []))

abbrev pub no_block_journal : Journal
no_block_journal =
    telling_work no_block_log refl
    (14 ∷ 0 ∷ 0 ∷ 0 ∷ 0 ∷ 0 ∷ 0 ∷ 0 ∷ 0 ∷ 0 ∷ 0 ∷ 0 ∷ 0 ∷ 1 ∷ 2 ∷ 2 ∷ 0 ∷ 1 ∷ 0 ∷ [])
