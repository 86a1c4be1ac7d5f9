-- What the log of a processor says of the periods that it drives, along an order.
use Rattle.std.proofs.Common.{◌≡◌, ◌≢◌, ℕ, ◌<◌, List, [], ◌∷◌, Option, Some, None, refl, sym, ◌∙◌, ap, subst, arith, inl, inr}
use Rattle.std.proofs.lemmas.Bool.Decides.{eqb_tells}
use Rattle.bm_journal.specs.declared.ids.Domain.{Domain}
use Rattle.bm_journal.specs.declared.ids.Domain.TheVariants.{Plain, Tracing}
use Rattle.bm_journal.specs.declared.period.Period.{Period}
use Rattle.bm_journal.specs.declared.entry.Entry.{Entry}
use Rattle.bm_journal.specs.declared.entry.Entry.TheVariants as entry
use Rattle.bm_law.specs.Begun.{for_domain}
use Rattle.bm_law_lives.specs.GraceLaw.{AllPass, Driver, InDomain, NoneAbove, PeriodFits, PeriodsFit, driver_after, first_after, word_after, words_now, words_of}
use Rattle.bm_law_lives.specs.GraceLaw as grace
use Rattle.bm_law_order.specs.ByDomain.{of, with_of}
use Rattle.bm_law_order.specs.Numbers.{Course, IsEnd, Numbers, ended}
use Rattle.bm_law_order.specs.Looks.{HasPassed, Looked, Looks, Passes, nothing_looked}
use Rattle.bm_law_order.specs.Shared.{Shared, Fits, found, shared_after}
use Rattle.bm_law_order.specs.Orders.{AllShared, Order, part_of, shared_over}
use Rattle.bm_law_laid.proofs.Words.{Has, has-after, word-other, word-own, word_at}
use Rattle.bm_law_laid.proofs.Growing.{above-both, above-same, found-grows, found-own, found-over}

-- a period of the domain that the processor has in progress
pub record InProgress (d : Domain) (p : ℕ) (s : Shared) (h : Driver) : Type 0 where
  pub begun : h.begun ≡ Some (of d s.numbers).number
  pub own : words_of d p (of d s.looks).first ≡ h.first
  pub first : NoneAbove (of d s.looks).first (found s d)

-- The log says of the processor what is shared.
pub record Agrees (d : Domain) (p : ℕ) (s : Shared) (h : Driver) : Type 0 where
  pub there : Has p s.words
  pub plain : h.plain ≡ word_at Plain p s.words
  pub tracing : h.tracing ≡ word_at Tracing p s.words
  pub progress : (of d s.numbers).driver ≡ Some p → InProgress d p s h

own-found : (d : Domain) (p : ℕ) (s : Shared) (h : Driver) → p < s.processors → Agrees d p s h → words_of d p (found s d) ≡ words_now d h
own-found Plain p s h lt a = found-own Plain p s.processors s.words lt a.there ∙ ap (λ w. w ∷ []) (sym a.plain)
own-found Tracing p s h lt a = found-own Tracing p s.processors s.words lt a.there ∙ (ap (λ w. w ∷ word_at Tracing p s.words ∷ []) (sym a.plain) ∙ ap (λ w. h.plain ∷ w ∷ []) (sym a.tracing))

-- a period that ends is of another domain, where this one's is still in progress
record Elsewhere (d e : Domain) (numbers : Numbers) (looks : Looks) (b : Option ℕ) : Type 0 where
  number : of d (with_of e (ended (of e numbers)) numbers) ≡ of d numbers
  look : of d (with_of e nothing_looked looks) ≡ of d looks
  begun : for_domain d e None b ≡ b

elsewhere : (d e : Domain) (p : ℕ) (numbers : Numbers) (looks : Looks) (b : Option ℕ) → (of d (with_of e (ended (of e numbers)) numbers)).driver ≡ Some p → Elsewhere d e numbers looks b
elsewhere Plain Plain p numbers looks b q = absurd (cc)
elsewhere Plain Tracing p numbers looks b q = record { number = refl; look = refl; begun = refl }
elsewhere Tracing Plain p numbers looks b q = record { number = refl; look = refl; begun = refl }
elsewhere Tracing Tracing p numbers looks b q = absurd (cc)

-- ---- an entry of the processor

still : (d : Domain) (p : ℕ) (s t : Shared) (h g : Driver) → (of d t.numbers) ≡ (of d s.numbers) → (of d t.looks) ≡ (of d s.looks) → g.begun ≡ h.begun → g.first ≡ h.first → NoneAbove (found s d) (found t d) → Agrees d p s h → (of d t.numbers).driver ≡ Some p → InProgress d p t g
still d p s t h g n l b f grows a q =
    let i = a.progress (sym (ap (λ (x : Course). x.driver) n) ∙ q) in
    record {
      begun = b ∙ (i.begun ∙ ap (λ (x : Course). Some x.number) (sym n));
      own = ap (λ (x : Looked). words_of d p x.first) l ∙ (i.own ∙ sym f);
      first = subst (λ (x : Looked). NoneAbove x.first (found t d)) (sym l) (above-both (of d s.looks).first (found s d) (found t d) i.first grows);
    }

own-progress : (d : Domain) (p l : ℕ) (e : Entry) (s : Shared) (h : Driver) → p < s.processors → Fits p l e s → Agrees d p s h → (of d (shared_after p l e s).numbers).driver ≡ Some p → InProgress d p (shared_after p l e s) (driver_after d h e)
own-progress Plain p l (entry.Begin Plain n) s h lt f a q = record { begun = ap (λ k. Some k) f.numbers.number; own = own-found Plain p s h lt a; first = above-same (found s Plain) }
own-progress Plain p l (entry.Begin Tracing n) s h lt f a q = still Plain p s (shared_after p l (entry.Begin Tracing n) s) h (driver_after Plain h (entry.Begin Tracing n)) refl refl refl refl (above-same (found s Plain)) a q
own-progress Tracing p l (entry.Begin Plain n) s h lt f a q = still Tracing p s (shared_after p l (entry.Begin Plain n) s) h (driver_after Tracing h (entry.Begin Plain n)) refl refl refl refl (above-same (found s Tracing)) a q
own-progress Tracing p l (entry.Begin Tracing n) s h lt f a q = record { begun = ap (λ k. Some k) f.numbers.number; own = own-found Tracing p s h lt a; first = above-same (found s Tracing) }
own-progress d p l (entry.Finish period) s h lt f a q =
    let x = elsewhere d period.domain p s.numbers s.looks h.begun q in
    still d p s (shared_after p l (entry.Finish period) s) h (driver_after d h (entry.Finish period)) x.number x.look x.begun refl (above-same (found s d)) a q
own-progress d p l (entry.In e w) s h lt f a q = still d p s (shared_after p l (entry.In e w) s) h (driver_after d h (entry.In e w)) refl refl refl refl (found-grows s.processors d p l (entry.In e w) s.words f.words) a q
own-progress d p l (entry.Out e w) s h lt f a q = still d p s (shared_after p l (entry.Out e w) s) h (driver_after d h (entry.Out e w)) refl refl refl refl (found-grows s.processors d p l (entry.Out e w) s.words f.words) a q
own-progress d p l _ s h lt f a q = still d p s _ h _ refl refl refl refl (above-same (found s d)) a q

own-step : (d : Domain) (p l : ℕ) (e : Entry) (s : Shared) (h : Driver) → p < s.processors → Fits p l e s → Agrees d p s h → Agrees d p (shared_after p l e s) (driver_after d h e)
own-step d p l e s h lt f a = record {
  there = has-after p p l e s.words a.there;
  plain = ap (λ w. word_after Plain w e) a.plain ∙ sym (word-own Plain p l e s.words a.there);
  tracing = ap (λ w. word_after Tracing w e) a.tracing ∙ sym (word-own Tracing p l e s.words a.there);
  progress = own-progress d p l e s h lt f a;
}

-- ---- an entry of another processor

other-driver : (p q : ℕ) → p ≢ q → Some q ≡ Some p → ⊥
other-driver p q ne e = ne (let same : p ≡ q = cc in same)

other-progress : (d : Domain) (p q l : ℕ) (e : Entry) (s : Shared) (h : Driver) → p ≢ q → Fits q l e s → Agrees d p s h → (of d (shared_after q l e s).numbers).driver ≡ Some p → InProgress d p (shared_after q l e s) h
other-progress Plain p q l (entry.Begin Plain n) s h ne f a k = absurd (other-driver p q ne k)
other-progress Plain p q l (entry.Begin Tracing n) s h ne f a k = still Plain p s (shared_after q l (entry.Begin Tracing n) s) h h refl refl refl refl (above-same (found s Plain)) a k
other-progress Tracing p q l (entry.Begin Plain n) s h ne f a k = still Tracing p s (shared_after q l (entry.Begin Plain n) s) h h refl refl refl refl (above-same (found s Tracing)) a k
other-progress Tracing p q l (entry.Begin Tracing n) s h ne f a k = absurd (other-driver p q ne k)
other-progress d p q l (entry.Finish period) s h ne f a k =
    let x = elsewhere d period.domain p s.numbers s.looks h.begun k in
    still d p s (shared_after q l (entry.Finish period) s) h h x.number x.look refl refl (above-same (found s d)) a k
other-progress d p q l (entry.In e w) s h ne f a k = still d p s (shared_after q l (entry.In e w) s) h h refl refl refl refl (found-grows s.processors d q l (entry.In e w) s.words f.words) a k
other-progress d p q l (entry.Out e w) s h ne f a k = still d p s (shared_after q l (entry.Out e w) s) h h refl refl refl refl (found-grows s.processors d q l (entry.Out e w) s.words f.words) a k
other-progress d p q l _ s h ne f a k = still d p s _ h h refl refl refl refl (above-same (found s d)) a k

other-step : (d : Domain) (p q l : ℕ) (e : Entry) (s : Shared) (h : Driver) → p ≢ q → Fits q l e s → Agrees d p s h → Agrees d p (shared_after q l e s) h
other-step d p q l e s h ne f a = record {
  there = has-after p q l e s.words a.there;
  plain = a.plain ∙ sym (word-other Plain p q l e s.words ne);
  tracing = a.tracing ∙ sym (word-other Tracing p q l e s.words ne);
  progress = other-progress d p q l e s h ne f a;
}

-- ---- a period ends

in-domain : (d e : Domain) (P : Type 0) → (d ≡ e → P) → InDomain d e P
in-domain Plain Plain P h = h refl
in-domain Plain Tracing P h = tt
in-domain Tracing Plain P h = tt
in-domain Tracing Tracing P h = h refl

pass-so : (firsts laters : List ℕ) → Passes firsts laters → AllPass firsts laters
pass-so [] [] h = tt
pass-so [] (y ∷ ys) h = absurd h
pass-so (x ∷ xs) [] h = absurd h
pass-so (x ∷ xs) (y ∷ ys) h = (h.0, pass-so xs ys h.1)

ends-so : (d : Domain) (p : ℕ) (period : Period) (bounds : List ℕ) (s : Shared) (h : Driver) → p < s.processors → IsEnd p period.number (of d s.numbers) → HasPassed period (found s d) (of d s.looks) → NoneAbove (found s d) bounds → Agrees d p s h → grace.IsEnd d p bounds h period
ends-so d p period bounds s h lt e l b a =
    let i = a.progress e.driver in
    let n = e.number in
    record {
      begun = i.begun ∙ ap (λ k. Some k) (omega (arith, n));
      passed = pass-so period.first period.later l.passed;
      first_named = subst (λ ws. NoneAbove ws bounds) (sym l.first) (above-both (of d s.looks).first (found s d) bounds i.first b);
      later_named = subst (λ ws. NoneAbove ws bounds) (sym l.later) b;
      own_first = ap (words_of d p) l.first ∙ i.own;
      own_later = ap (words_of d p) l.later ∙ own-found d p s h lt a;
    }

period-own : (d : Domain) (p l : ℕ) (e : Entry) (bounds : List ℕ) (s : Shared) (h : Driver) → p < s.processors → Fits p l e s → NoneAbove (found s d) bounds → Agrees d p s h → PeriodFits d p bounds h e
period-own d p l (entry.Finish period) bounds s h lt f b a = in-domain d period.domain (grace.IsEnd d p bounds h period) (λ same.
    ends-so d p period bounds s h lt (subst (λ k. IsEnd p period.number (of k s.numbers)) (sym same) f.numbers) (subst (λ k. HasPassed period (found s k) (of k s.looks)) (sym same) f.looks) b a)
period-own d p l _ bounds s h lt f b a = tt

pub periods-along : (d : Domain) (p : ℕ) (o : Order) (s : Shared) (h : Driver) → p < s.processors → AllShared o s → Agrees d p s h → PeriodsFit d p (found (shared_over o s) d) h (part_of p o)
periods-along d p [] s h lt f a = tt
periods-along d p (e ∷ o) s h lt f a =
    let now : Shared = shared_after e.processor e.level e.entry s in
    let bounds : List ℕ = found (shared_over o now) d in
    elim (eqb_tells e.processor p) [
      | inl y ↦
          let fits : Fits p e.level e.entry s = subst (λ q. Fits q e.level e.entry s) y.1 f.0 in
          let agrees : Agrees d p now (driver_after d h e.entry) = subst (λ q. Agrees d p (shared_after q e.level e.entry s) (driver_after d h e.entry)) (sym y.1) (own-step d p e.level e.entry s h lt fits a) in
          rw y.0 (period-own d p e.level e.entry bounds s h lt fits (found-over d (e ∷ o) s f) a, periods-along d p o now (driver_after d h e.entry) lt f.1 agrees)
      | inr y ↦ rw y.0 (periods-along d p o now h lt f.1 (other-step d p e.processor e.level e.entry s h (λ q. y.1 (sym q)) f.0 a))
    ]
