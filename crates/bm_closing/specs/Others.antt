-- What acts of one processor's closing leave of the others, on one thread. (This project's own.)
use Rattle.std.specs.Prelude.{◌≡◌, ℕ}
use Rattle.bm_journal.specs.declared.ids.Domain.{Domain}
use Rattle.bm_grace.specs.PlainState.{domain_in, side_in}
use Rattle.bm_world.specs.SideState.{SideState}
use Rattle.bm_world.specs.Told.{told_boxes}

-- Processor p has no period in progress where it had none, may begin as many as before, and has the same parcels in its inboxes.
pub record LeavesOther (p : ℕ) (before now : SideState) : Type 0 where
  pub none :
      (d : Domain) → (side_in p (domain_in d before.grace)).number ≡ 0
      → (side_in p (domain_in d now.grace)).number ≡ 0
  pub begins :
      (d : Domain)
      → (side_in p (domain_in d now.grace)).begins ≡ (side_in p (domain_in d before.grace)).begins
  pub parcels : (c : ℕ) → told_boxes now.post p c ≡ told_boxes before.post p c
