-- A scenario and a journal one step away from `one_block` and its own.
use Rattle.bm_journal.specs.declared.journal.Journal.{Journal}
use Rattle.bm_lang.specs.declared.scenario.Parts.{Parts}
use Rattle.bm_law_scenario.specs.WorkedDeferred.{one_block, one_block_journal}

-- There are three pages, and so a refill that wants three units and gets the second page's alone could have the third page's
-- too.
abbrev pub three_pages : Parts
three_pages = record one_block { pages = 3 }

abbrev pub third_unnamed : Journal
third_unnamed = record one_block_journal { pages = 3 }
