-- Chunks of acts and entries, one after the other, each at a level of one processor.
use Rattle.std.specs.Prelude.{◌≡◌, ◌≢◌, ◌⊎◌, ℕ, None, List, [], ◌∷◌, ◌++◌}
use Rattle.std.specs.List.{All}
use Rattle.bm_journal.specs.declared.ids.Domain.{Domain}
pub use Rattle.bm_law.specs.Alone.{at_level}
use Rattle.bm_law.specs.Lists.{Log}
use Rattle.bm_law_order.specs.ByDomain.{of}
use Rattle.bm_law_order.specs.Looks.{Looked, Looks}
use Rattle.bm_law_order.specs.Act.{Act}
use Rattle.bm_law_order.specs.Chunk.{Chunk, acts_of, entries_of}
use Rattle.bm_law_order.specs.Shared.{Shared}

pub record Told : Type 0 where
  pub level : ℕ
  pub chunk : Chunk

abbrev pub Story : Type 0
Story = List Told

abbrev pub lines_of : Told → Log
lines_of t = at_level t.level (entries_of t.chunk)

abbrev pub lines : Story → Log
lines [] = []
lines (t ∷ ts) = lines_of t ++ lines ts

abbrev pub deeds : Story → List Act
deeds [] = []
deeds (t ∷ ts) = acts_of t.chunk ++ deeds ts

-- each chunk is judged so, behind the log that stands before it
abbrev pub AllJudged : (ℕ → Log → Chunk → Type 0) → Log → Story → Type 0
AllJudged judge log [] = Unit {0}
AllJudged judge log (t ∷ ts) = judge t.level log t.chunk × AllJudged judge (log ++ lines_of t) ts

-- ---- what acts tell, as entries tell it

-- entries name no look
abbrev pub unlooked : Looked → Looked
unlooked here = record here { later = [] }

abbrev pub plain_looks : Looks → Looks
plain_looks looks = record { plain = unlooked looks.plain; tracing = unlooked looks.tracing }

abbrev pub plainly : Shared → Shared
plainly s = record s { looks = plain_looks s.looks }

-- Each period in progress was looked at, no drop is under way, and no parcel is empty.
pub record Steady (s : Shared) : Type 0 where
  pub looked : (d : Domain) → ((of d s.numbers).driver ≡ None) ⊎ ((of d s.looks).first ≢ [])
  pub undropped : (p l : ℕ) → s.lives.dropping p l ≡ None
  pub full : (p c : ℕ) → All (λ parcel. parcel ≢ []) (s.boxes p c)
