-- What calls of this project's own leave of what a side knows.
use Rattle.std.specs.Prelude.{◌≡◌, ◌≤◌, ◌%◌}
use Rattle.bm_journal.specs.declared.ids.Domain.{Domain}
use Rattle.bm_grace.specs.Known.{Known, side}

-- Deferred work enters and leaves no section: the same side among as many processors, with the same section words, and with
-- the same objects.
pub record Alike (before now : Known) : Type 0 where
  pub processors : now.grace.processors ≡ before.grace.processors
  pub processor : now.grace.processor ≡ before.grace.processor
  pub words : (d : Domain) → (side d now).word ≡ (side d before).word
  pub objects : now.objects ≡ before.objects

-- Handlers begin and finish no period, send, receive, fetch and put back nothing, and leave each section that they entered:
-- what this side has in progress and how many periods it may still begin is as it was, and each of its two section words is odd or
-- even as it was.
pub record GoesOn (before now : Known) : Type 0 where
  pub processors : now.grace.processors ≡ before.grace.processors
  pub processor : now.grace.processor ≡ before.grace.processor
  pub words : (d : Domain) → (side d now).word % 2 ≡ (side d before).word % 2
  pub number : (d : Domain) → (side d now).number ≡ (side d before).number
  pub first : (d : Domain) → (side d now).first ≡ (side d before).first
  pub later : (d : Domain) → (side d now).later ≡ (side d before).later
  pub begins : (d : Domain) → (side d now).begins ≡ (side d before).begins
  pub seen : (d : Domain) → (side d before).seen ≤ (side d now).seen
