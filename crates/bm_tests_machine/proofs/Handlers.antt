-- Several calls of a handler, one after the other.
use Rattle.std.proofs.Common.{ℕ, Option, ap, subst}
use Rattle.bm_law.specs.Lists.{Log}
use Rattle.bm_cache.specs.Tests.{Tests}
use Rattle.bm_cache.specs.Span.{Came, Face, Goes}
use Rattle.bm_cache.specs.declared.caches.Caches.{Caches}
use Rattle.bm_work_lists.proofs.Spans.{came-join}

-- What came over all of them: a call of a host at its level, after others.
module _ {H R : Type 0} (log : R → Option Log) (tests : H → Tests) (faces : H → Face) (waits : H → ℕ) (stays : H → H → Type 0) (holds : H → Caches R) where
  pub came-more : (a b c : H) → Goes faces waits stays a b → Came log (faces a).level (tests a) (tests b) (holds a) (holds b) → Came log (faces b).level (tests b) (tests c) (holds b) (holds c) → Came log (faces a).level (tests a) (tests c) (holds a) (holds c)
  came-more a b c g s t =
      let F : ℕ → Type 0 = λ l. Came log l (tests b) (tests c) (holds b) (holds c) in
      came-join log (faces a).level (tests a) (tests b) (tests c) (holds a) (holds b) (holds c) s (subst F (ap (λ (f : Face). f.level) g.face) t)
