-- When a journal is lawful for a scenario, and when it is laid: what the program promises of the journals that it prints. One field a law;
-- behind each stands the file that states it. (This project's own: journals are.)
use Rattle.std.specs.Prelude.{◌≡◌, ℕ, if◌then◌else◌, List, [], ◌∷◌, Option, None, Some}
use Rattle.std.specs.Str.{bytes_eq}
use Rattle.bm_journal.specs.declared.journal.Journal.{Journal}
use Rattle.bm_journal.specs.declared.past.Past.{Past}
use Rattle.bm_lang.specs.declared.scenario.Parts.{Parts}
use Rattle.bm_law_order.specs.Orders.{IsLaid, Order, over}
use Rattle.bm_law_order.specs.Polls.{IsPolled}
use Rattle.bm_law_order.specs.Seals.{IsSealed}
use Rattle.bm_law_order.specs.Whole.{whole}
use Rattle.bm_law_places.specs.Placed.{IsPlaced}
use Rattle.bm_law_scenario.specs.Lawful.{LawfulLogs}
use Rattle.bm_law_lives.specs.GraceLaw.{WholeGrace}
use Rattle.bm_law_lives.specs.Lives.{WholeLives}
use Rattle.bm_law_lives.specs.Returns.{ReturnsLaw}
use Rattle.bm_law_lives.specs.StampLaw.{StampLaw}
use Rattle.bm_law_objects.specs.Objects.{IsOwned}
use Rattle.bm_law_objects.specs.ReadsLaw.{ReadsLaw}
use Rattle.bm_law_objects.specs.ReferenceLaw.{ReferenceLaw}
use Rattle.bm_law_objects.specs.SlotChain.{SlotChain}
use Rattle.bm_law_graphs.specs.GraphLaws.{GraphLaws}
use Rattle.bm_law_graphs.specs.Shelves.{IsShelved, nothing_shelved, shelved_after}

-- the history that a journal has of the list or tree of a name
abbrev pub history_of : List (List ℕ × List Past) → List ℕ → List Past
history_of [] name = []
history_of (h ∷ hs) name = if bytes_eq h.0 name then h.1 else history_of hs name

-- ---- lawful

pub record Lawful (s : Parts) (j : Journal) : Type 0 where
  -- Its heading names what the scenario declares; each log is made of the phrases of its processor's scripts, of their handlers and of
  -- deferred work, names what is on its lists, and leaves them empty; fewer units come than were wanted only where the pages are used up;
  -- and its totals are the sums over its logs. (bm_law_scenario, specs/Lawful)
  pub logs : LawfulLogs s j
  -- Each life of a unit is given once, ends once, and its free names the processor that gave it. (bm_law_lives, specs/Lives)
  pub lives : WholeLives j.logs
  -- Each unit goes back to the stock as often as it was taken, and each parcel arrives. (bm_law_lives, specs/Returns)
  pub returns : ReturnsLaw j.logs
  -- No grace period ends while a section goes on that was there when it began, and each ends. (bm_law_lives, specs/GraceLaw)
  pub grace : WholeGrace j.logs
  -- What waits for a grace period waits for one that began after it, and is given again with its number. (bm_law_lives, specs/StampLaw)
  pub stamps : StampLaw j.logs
  -- Of each life as many acquires saw a count of k as drops were answered that there were k + 1. (bm_law_objects, specs/ReferenceLaw)
  pub references : ReferenceLaw j.logs
  -- The exchanges of each slot form one chain, in which each takes what the one before put. (bm_law_objects, specs/SlotChain)
  pub slots : (slot : List ℕ) → SlotChain slot j.logs
  -- Each read of a field finds a value with which that life of the unit was made. (bm_law_objects, specs/ReadsLaw)
  pub reads : ReadsLaw j.logs
  -- The replies of each list and tree are right; each call on it of each log stands once in its history, at the position that the log
  -- names; a refused push names the one in which its object is; and what is put in is taken out. (bm_law_graphs, specs/GraphLaws)
  pub graphs : GraphLaws j.maps (history_of j.graphs) j.logs

-- ---- laid

-- the processors whose turns a scenario names, in order
abbrev pub named_turns : Option (List ℕ) → List ℕ
named_turns None = []
named_turns (Some turns) = turns

-- the one order of all entries that the scenario's turns make of the logs
abbrev pub order_of : Parts → Journal → Order
order_of s j = whole (named_turns s.turns) j.logs

pub record Laid (s : Parts) (j : Journal) : Type 0 where
  -- In that order each entry finds what it needs of what processors share, from the outset on. (bm_law_order, specs/Orders)
  pub laid : IsLaid j.processors j.pages (order_of s j)
  -- Wherever one stops in it, each unit is in exactly one place: in the stock, in an inbox, in a list or hand of one processor, alive, or
  -- on its way from the end of its life to the free that follows. (bm_law_places, specs/Placed)
  pub placed : IsPlaced j.processors j.pages (order_of s j)
  -- Each poll has done what there was to do, and each period was begun for a batch that waits. (bm_law_order, specs/Polls)
  pub polled : IsPolled j.processors j.pages (order_of s j)
  -- Each unit is given with what it has waited for. (bm_law_order, specs/Seals)
  pub sealed : IsSealed (order_of s j)
  -- Each unit is given where an object was asked for; each read finds a value with which the life that the unit has was made, and each
  -- exchange what the slot holds, and who put it there. (bm_law_objects, specs/Objects)
  pub owned : IsOwned (order_of s j)
  -- Each call on a list or tree is made under its lock, or in the closing, and finds what it needs of them. (bm_law_graphs, specs/Shelves)
  pub shelved : IsShelved j.maps (order_of s j)
  -- The histories are those that the order makes.
  pub histories :
      (name : List ℕ)
      → history_of j.graphs name
      ≡ (over (shelved_after j.maps) (order_of s j) nothing_shelved).shelves.histories name
