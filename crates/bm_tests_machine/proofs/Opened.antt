-- A desk after the opening of its caches with units of one class.
use Rattle.std.proofs.Common.{◌≡◌, ◌<◌, ◌≤◌, ◌+◌, ℕ, false, Bool, true, List, [], ◌∷◌, Option, Some, None, if◌then◌else◌, eqb, refl, sym, ◌∙◌, ap, subst}
use Rattle.std.specs.List.{All}
use Rattle.std.proofs.lemmas.List.Elements.{All-nil}
use Rattle.bm_journal.specs.declared.counts.Counts.{Counts}
use Rattle.bm_journal.specs.declared.ids.Domain.{Domain}
use Rattle.bm_journal.specs.declared.ids.Domain.TheVariants.{Plain, Tracing}
use Rattle.bm_grace.specs.Known.{Known, Sides, side}
use Rattle.bm_law.specs.Kept.{Ready}
use Rattle.bm_law.specs.Lists.{Log, is_unstamped}
use Rattle.bm_law.specs.State.{Deferred, Row, State, no_deferred, opening}
use Rattle.bm_law.proofs.Between.{Ready-up}
use Rattle.bm_cache.specs.Opening.{Opened, filled}
use Rattle.bm_cache.specs.Shown.{shown}
use Rattle.bm_cache.specs.Span.{Face, Fine}
use Rattle.bm_cache.specs.Tests.{Reusable, Tests}
use Rattle.bm_cache.specs.Tokens.{Token}
use Rattle.bm_cache.specs.declared.caches.Caches.{Caches}
use Rattle.bm_cache.proofs.Opened.{fine-opened}
use Rattle.bm_work.specs.Dated.{DatedRow}
use Rattle.bm_work.specs.Rests.{Rests}

-- how many periods may still begin, of both domains
pub same-begins : (a b : Known) (d : Domain) → b.grace ≡ a.grace → (side d b).begins ≡ (side d a).begins
same-begins a b Plain e = ap (λ (s : Sides). s.plain.begins) e
same-begins a b Tracing e = ap (λ (s : Sides). s.tracing.begins) e

pub both-begin : (n : ℕ) (k : Known) → n ≤ k.grace.plain.begins → n ≤ k.grace.tracing.begins → (d : Domain) → n ≤ (side d k).begins
both-begin n k p t Plain = p
both-begin n k p t Tracing = t

-- no batch is in progress
no-dates : (t : Tests) → DatedRow t no_deferred
no-dates t = record {
  plain = λ x e. absurd (clash e);
  tracing = λ x e. absurd (clash e);
  some = λ x e. absurd (clash e);
  settled = All-nil (Reusable t);
}
  where
    clash : {x : ℕ} → ◌≡◌ {A = Option ℕ} None (Some x) → ⊥
    clash e = cc

either-row : (b : Bool) (r q : Row Token) (d : Deferred Token) → r.deferred ≡ d → q.deferred ≡ d → (if b then r else q).deferred ≡ d
either-row true r q d e f = e
either-row false r q d e f = f

-- a fill leaves what deferred work alone writes
none-in-progress : (c : ℕ) (us : List Token) (s : State Token) → s ≡ filled ((c, us) ∷ []) (opening 0) → (k : ℕ) → (s.rows k).deferred ≡ no_deferred
none-in-progress c us s e k = ap (λ (x : State Token). (x.rows k).deferred) e ∙ either-row (eqb k c) _ _ no_deferred refl refl

-- caches without units suit calls of ordinary code
pub fine-none : {R : Type 0} (log : R → Option Log) (counts : R → Counts) (n : ℕ) (t : Tests) (c : Caches R) → Opened log counts 0 [] c → 0 < n → n ≤ 8 → Fine log counts t n 1 c
fine-none log counts n t c o p m =
    let f = fine-opened log counts 0 n t [] c o tt p m in
    record { placed = f.placed; ready = Ready-up 0 (shown c) f.ready; proper = f.proper; aimed = f.aimed }

module _ {H R : Type 0} (log : R → Option Log) (counts : R → Counts) (sound : H → Type 0) (tests : H → Tests) (faces : H → Face) (holds : H → Caches R) (known : H → Known) where
  fine-up : (t : Tests) (p l : ℕ) (c : Caches R) → Fine log counts t p l c → Fine log counts t p (l + 1) c
  fine-up t p l c f = record { placed = f.placed; ready = Ready-up l (shown c) f.ready; proper = f.proper; aimed = f.aimed }

  -- the desk is at rest
  pub rests-opened : (c n : ℕ) (us : List Token) (h : H) → sound h → (faces h).level ≡ 0 → 0 < (faces h).processors → (faces h).processors ≤ 8 → Opened log counts 0 ((c, us) ∷ []) (holds h) → All (Reusable (tests h)) us → ((d : Domain) → n ≤ (side d (known h)).begins) → Rests log counts sound tests faces holds known c n h
  rests-opened c n us h s l p m o r b =
      let i : Fine log counts (tests h) (faces h).processors 0 (holds h) = fine-opened log counts 0 (faces h).processors (tests h) ((c, us) ∷ []) (holds h) o (r, tt) p m in
      let F : ℕ → Type 0 = λ k. Fine log counts (tests h) (faces h).processors k (holds h) in
      let G : ℕ → Type 0 = λ k. Fine log counts (tests h) (faces h).processors (k + 1) (holds h) in
      let Q : ℕ → Type 0 = λ k. Ready k (shown (holds h)) in
      let none = none-in-progress c us (shown (holds h)) o.lists in
      let D : Deferred Token → Type 0 = λ d. DatedRow (tests h) d in
      record {
        stands = record { sound = s; fine = subst G (sym l) (fine-up (tests h) (faces h).processors 0 (holds h) i); dated = λ k. subst D (sym (none k)) (no-dates (tests h)) };
        ordinary = l;
        quiet = subst Q (sym l) i.ready;
        stamped = ap (λ (d : Deferred Token). is_unstamped d.plain) (none c);
        begins = b;
      }
