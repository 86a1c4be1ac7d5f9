-- What histories of all lists and trees, and the logs beside them, keep together.
use Rattle.std.specs.Prelude.{ℕ, List}
use Rattle.bm_journal.specs.declared.past.Past.{Past}
use Rattle.bm_law.specs.Lists.{Log}
use Rattle.bm_law_graphs.specs.History.{GraphHistory}
use Rattle.bm_law_graphs.specs.Keys.{KeysLaw}
use Rattle.bm_law_graphs.specs.Locks.{LocksLaw}
use Rattle.bm_law_graphs.specs.Refusals.{RefusalLaw}
use Rattle.bm_law_graphs.specs.Takes.{TakesLaw}

-- Each history is that of its list or tree, and has the keys of its objects; refused pushes name the one in which their object is; under a lock positions are consecutive;
-- and what is put in is taken out.
pub record GraphLaws (names : List (List ℕ)) (histories : List ℕ → List Past) (logs : List Log) :
    Type 0 where
  pub each : (name : List ℕ) → GraphHistory names name (histories name) logs
  pub keys : (name : List ℕ) → KeysLaw (histories name) logs
  pub refusals : RefusalLaw names histories
  pub locks : LocksLaw logs
  pub takes : TakesLaw logs
