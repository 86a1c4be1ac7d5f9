-- The inbox of a class was emptied, on a desk. (This project's own.)
use Rattle.std.specs.Prelude.{◌≡◌, ◌≤◌, ℕ, ◌+◌, List, []}
use Rattle.bm_page.specs.UnitState.{UnitState}
use Rattle.bm_grace.specs.Known.{Known}
use Rattle.bm_grace.specs.Rights.{Rights}
use Rattle.bm_law.specs.Stands.{stands, times}
use Rattle.bm_law.specs.State.{seen}
use Rattle.bm_post.specs.Rights.{numbers}
use Rattle.bm_cache.specs.Shown.{shown}
use Rattle.bm_cache.specs.Span.{Face, Goes}
use Rattle.bm_cache.specs.Tokens.{number_of}
use Rattle.bm_cache.specs.declared.caches.Caches.{Caches}
use Rattle.bm_closing.specs.Arrived.{Arrived, Came}

-- These units came from it, and stand nowhere in the caches, which are as they were.
pub record Emptied {H R : Type 0} (faces : H → Face) (waits : H → ℕ) (stays : H → H → Type 0)
    (holds : H → Caches R) (known : H → Known) (rights : H → Rights) (c : ℕ)
    (units : List UnitState) (before now : H) :
    Type 0 where
  pub held : holds now ≡ holds before
  pub arrived : Arrived c (rights now) units
  pub came : Came c [] units (rights before) (rights now) (known before) (known now)
  pub apart : (n : ℕ) → stands n (seen number_of (shown (holds now))) + times n (numbers units) ≤ 1
  pub goes : Goes faces waits stays before now
