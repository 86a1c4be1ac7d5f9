-- A history, replayed on a sequential object.
use Rattle.std.specs.Prelude.{ℕ, ◌≡◌, ◌<◌, List, [], ◌∷◌, ◌++◌, Option, Some, None, length, if◌then◌else◌}
use Rattle.bm_journal.specs.declared.ids.Tag.{Tag}
use Rattle.bm_journal.specs.declared.past.Past.{Past}
use Rattle.bm_journal.specs.declared.past.PastCall.{PastCall}
use Rattle.bm_graph.specs.Objects.{Object}

module _ {S : Type 0} where
  -- the state after these entries, if the reply of each is right
  abbrev pub replay_from : Object S → S → List Past → Option S
  replay_from object s [] = Some s
  replay_from object s (p ∷ ps) =
      if object.is_right s p.call then replay_from object (object.after s p.call) ps else None

  -- the state after a whole history, from the empty object on
  abbrev pub replay : Object S → List Past → Option S
  replay object history = replay_from object object.empty history

-- the history has one entry more: this call, at this position, which is the number of entries before it. There are fewer than
-- 2^32 - 1 of those
pub record Records (old new : List Past) (position : ℕ) (tag : Tag) (call : PastCall) : Type 0 where
  pub at : position ≡ length old
  pub room : length old < 4294967295
  pub entry : new ≡ old ++ record { tag = tag; call = call } ∷ []
