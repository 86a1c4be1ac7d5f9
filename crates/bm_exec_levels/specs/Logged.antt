-- What the log of a processor tells so far. (This project's own: journals are.)
use Rattle.std.specs.Prelude.{◌≡◌}
use Rattle.bm_journal.specs.declared.ids.Domain.{Domain}
use Rattle.bm_lang.specs.declared.scenario.Parts.{Parts}
use Rattle.bm_grace.specs.Known.{Known, side}
use Rattle.bm_law.specs.Lists.{Log}
use Rattle.bm_law_scenario.specs.Handlers.{HandlersDone}
use Rattle.bm_law_lives.specs.SectionWords.{word_after}

-- Each handler that has gone back left its phrase where it stands, and the last words of sections that the log names are those that the side knows.
pub record Tells (s : Parts) (known : Known) (log : Log) : Type 0 where
  pub done : HandlersDone s known.grace.processor log
  pub last : (d : Domain) → word_after d log ≡ (side d known).word
