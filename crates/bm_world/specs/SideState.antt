-- The world on one thread. (This project's own.)
use Rattle.std.specs.Prelude.{◌≡◌, ℕ, ◌%◌, Some}
use Rattle.bm_journal.specs.declared.ids.Domain.{Domain}
use Rattle.bm_journal.specs.declared.ids.Domain.TheVariants.{Plain, Tracing}
use Rattle.bm_grace.specs.AtRest.{IsAtRest, idle-at-rest}
use Rattle.bm_grace.specs.Known.{Known, side}
use Rattle.bm_grace.specs.PlainState.{PlainState, known_in}
use Rattle.bm_post.specs.PostState.{PostState, told_in}

-- The pool and all inboxes, and the words and numbers of both domains.
pub record SideState : Type 0 where
  pub post : PostState
  pub grace : PlainState

-- Both parts have as many processors, and are the side of the same one.
pub record AreOne (post : PostState) (grace : PlainState) : Type 0 where
  pub processors : post.processors ≡ grace.processors
  pub processor : post.processor ≡ grace.processor

-- It knows what its side of the grace periods knows, and tells the parcels of its side of the post.
abbrev pub known_of : SideState → Known
known_of world = record (known_in world.grace) { parcels = Some (told_in world.post) }

-- All is at rest where it is in the grace periods.
abbrev pub SideAtRest : SideState → Domain → ℕ → Type 0
SideAtRest world = IsAtRest world.grace

pub idle-of :
    (world : SideState) (d : Domain) (n : ℕ) → SideAtRest world d n → n % 2 ≡ 0
    → (side d (known_of world)).number ≡ 0
idle-of world Plain n rest even = idle-at-rest world.grace Plain n rest even
idle-of world Tracing n rest even = idle-at-rest world.grace Tracing n rest even
