-- Units stand where they suit, and batches are dated, while tests go on.
use Rattle.std.proofs.Common.{ℕ, List, [], suc, Option, refl, inl, inr}
use Rattle.std.specs.Prelude.{get_or}
use Rattle.std.specs.List.{All}
use Rattle.bm_journal.specs.declared.counts.Counts.{Counts}
use Rattle.bm_journal.specs.declared.ids.Domain.TheVariants.{Plain, Tracing}
use Rattle.bm_law.specs.State.{State, Deferred}
use Rattle.bm_law.specs.Lists.{Log}
use Rattle.bm_law.specs.Places.{Stack, list_at, Free, Extra, Extra_delayed, Delayed, First, Ready, Second}
use Rattle.bm_cache.specs.Tokens.{Token}
use Rattle.bm_cache.specs.Tests.{Tests, Passes, Suits, Either, Proper}
use Rattle.bm_cache.specs.Shown.{shown}
use Rattle.bm_cache.specs.Span.{Fine}
use Rattle.bm_cache.specs.declared.caches.Caches.{Caches}
use Rattle.bm_work.specs.DeskTests.{since_test}
use Rattle.bm_work.specs.Dated.{DatedRow, Dated}
use Rattle.bm_work.specs.Onward.{Onward}

-- a test of a unit goes on
pub passes-on : (a b : Tests) (k : ℕ) (u : Token) → Onward [] a b → Passes a k u → Passes b k u
passes-on a b k u o h = o k u.number u.life u.seal refl h

pub all-on : (a b : Tests) (k : ℕ) (us : List Token) → Onward [] a b → All (Passes a k) us → All (Passes b k) us
all-on a b k us o h i u n = passes-on a b k (get_or us i u) o (h i u n)

pub either-on : (a b : Tests) (u : Token) → Onward [] a b → Either a u → Either b u
either-on a b u o (inl h) = inl (passes-on a b 0 u o h)
either-on a b u o (inr h) = inr (passes-on a b 1 u o h)

suits-on : (a b : Tests) (k : Stack) (u : Token) → Onward [] a b → Suits a k u → Suits b k u
suits-on a b Free u o h = passes-on a b 0 u o h
suits-on a b Extra u o h = passes-on a b 0 u o h
suits-on a b Ready u o h = passes-on a b 0 u o h
suits-on a b Delayed u o h = passes-on a b 1 u o h
suits-on a b Extra_delayed u o h = passes-on a b 1 u o h
suits-on a b First u o h = passes-on a b 1 u o h
suits-on a b Second u o h = either-on a b u o h

pub proper-on : (a b : Tests) (s : State Token) → Onward [] a b → Proper a s → Proper b s
proper-on a b s o h = record {
  lists = λ c k i u n. suits-on a b k (get_or (list_at k (s.rows c)) i u) o (h.lists c k i u n);
  hands = λ l i u n. either-on a b (get_or (s.sides l).hand i u) o (h.hands l i u n);
}

pub fine-on : {R : Type 0} (log : R → Option Log) (counts : R → Counts) (a b : Tests) (p l : ℕ) (c : Caches R) → Onward [] a b → Fine log counts a p l c → Fine log counts b p l c
fine-on log counts a b p l c o h = record { placed = h.placed; ready = h.ready; proper = proper-on a b (shown c) o h.proper; aimed = h.aimed }

dated-row : (a b : Tests) (d : Deferred Token) → Onward [] a b → DatedRow a d → DatedRow b d
dated-row a b d o h = record {
  plain = λ x e. all-on a b (since_test Plain (suc x)) d.first o (h.plain x e);
  tracing = λ x e. all-on a b (since_test Tracing (suc x)) d.second o (h.tracing x e);
  some = h.some;
  settled = all-on a b 0 d.second o h.settled;
}

pub dated-on : (a b : Tests) (s : State Token) → Onward [] a b → Dated a s → Dated b s
dated-on a b s o h k = dated-row a b (s.rows k).deferred o (h k)
