-- Each entry is read back from its words.
use Rattle.std.proofs.Common.{◌≡◌, ℕ, suc, ◌+◌, ◌<◌, ◌≤◌, ◌^◌, true, List, [], ◌∷◌, ◌++◌, Option, Some, None, length, drop, refl, arith, lit≤, add-one, length-append}
use Rattle.std.proofs.lemmas.Bool.Decides.{nat_tests}
use Rattle.std.proofs.Math.Seq.{take-append_seam}
use Rattle.std.specs.List.{position_or_len}
use Rattle.std.specs.Prelude.{codes, IsTrue, nat_lt}
use Rattle.bm_word.specs.Number.{NumbersRoundTrip}
use Rattle.bm_journal.specs.declared.ids.ObjId.{ObjId}
use Rattle.bm_journal.specs.declared.ids.Tag.{Tag}
use Rattle.bm_journal.specs.declared.units.Units.TheVariants.{Whole, Counted}
use Rattle.bm_journal.specs.declared.period.Period.{Period}
use Rattle.bm_journal.specs.declared.entry.Entry.{Entry}
use Rattle.bm_journal.specs.declared.entry.Entry.TheVariants as entry
use Rattle.bm_journal.specs.EntryText as text
use Rattle.bm_journal.specs.WellFormed.{is_whole_entry}
use Rattle.bm_law_text.specs.Kinds.{kind_of}
use Rattle.bm_law_text.specs.Parts.{word_is, name}
use Rattle.bm_law_text.specs.Entries.{entry_of, looked_at}
use Rattle.bm_law_text.specs.Fits.{Each, IsName, CallFits, ObjectFits, FewFit, PeriodFits, EntryFits}
use Rattle.bm_law_text.proofs.PartsBack.{number-decimal, name-back, class-back, domain-back, numbers-back, few-back, not_number, object-back, call-back}

exchanged-back : NumbersRoundTrip → (n : List ℕ) (put was : Option ObjId) (by : Option Tag) → IsName n → ObjectFits put → ObjectFits was → CallFits by → entry_of (text.words_of (entry.Xchg n put was by)) ≡ Some (entry.Xchg n put was by)
unfolding kind_of
exchanged-back rt n put was by hn hp hw hb = rw (name-back n hn) (rw (object-back rt put (codes "was" ∷ (text.object was ++ codes "by" ∷ text.call by)) hp) (rw (object-back rt was (codes "by" ∷ text.call by) hw) (rw (call-back rt by hb) refl)))

-- the place of `later`
later : text.Words → ℕ
later ws = position_or_len (λ w. word_is (codes "later") w) ws

later_at : NumbersRoundTrip → (ns : List ℕ) (rest : text.Words) → Each (λ n. n < 2 ^ 32) ns → position_or_len (λ w. word_is (codes "later") w) (text.numbers ns ++ codes "later" ∷ rest) ≡ length (text.numbers ns)
later_at rt [] rest h = refl
later_at rt (n ∷ ns) rest h =
    let lt : n < 2 ^ 64 = omega (arith, h.0) in
    rw (not_number rt (codes "later") n lt refl) (omega (arith, later_at rt ns rest h.1))

drop_suc : {A : Type 0} (xs : List A) (y : A) (ys : List A) → drop (suc (length xs)) (xs ++ y ∷ ys) ≡ ys
drop_suc [] y ys = refl
drop_suc (x ∷ xs) y ys = drop_suc xs y ys

drop_past : {A : Type 0} (xs : List A) (y : A) (ys : List A) → drop (length xs + 1) (xs ++ y ∷ ys) ≡ ys
drop_past xs y ys = rw add-one (drop_suc xs y ys)

looked-back : NumbersRoundTrip → (a b : List ℕ) → FewFit 16 a → FewFit 16 b → looked_at (text.numbers a ++ codes "later" ∷ text.numbers b) ≡ Some (a, b)
looked-back rt a b ha hb =
    let as_words = text.numbers a in
    let bs = text.numbers b in
    let ws = as_words ++ codes "later" ∷ bs in
    let at : position_or_len (λ w. word_is (codes "later") w) ws ≡ length as_words = later_at rt a bs ha.0 in
    let lt : length as_words < length ws = omega (arith, length-append as_words (codes "later" ∷ bs)) in
    let yes : nat_lt (length as_words) (length ws) ≡ true = grind (arith, nat_tests) in
    rw at (rw yes (rw (take-append_seam as_words (codes "later" ∷ bs)) (rw (few-back rt 16 a ha) (rw (drop_past as_words (codes "later") bs) (rw (few-back rt 16 b hb) refl)))))

finished-back : NumbersRoundTrip → (p : Period) → PeriodFits p → entry_of (text.words_of (entry.Finish p)) ≡ Some (entry.Finish p)
unfolding kind_of
finished-back rt p h = rw (domain-back p.domain) (rw (number-decimal rt (2 ^ 32) p.number h.0 (lit≤ tt)) (rw (looked-back rt p.first p.later h.1 h.2) refl))

popped-back : NumbersRoundTrip → (c u : ℕ) → c ≤ 10 → u < 2 ^ 16 → entry_of (text.words_of (entry.Pop c u)) ≡ Some (entry.Pop c u)
unfolding kind_of
popped-back rt c u hc hu =
    let lt : u < 2 ^ 64 = omega arith in
    rw (not_number rt (codes "none") u lt refl) (rw (class-back rt c hc) (rw (number-decimal rt (2 ^ 16) u hu (lit≤ tt)) refl))

pub entry-back : NumbersRoundTrip → (e : Entry) → EntryFits e → IsTrue (is_whole_entry e) → entry_of (text.words_of e) ≡ Some e
unfolding kind_of
entry-back rt (entry.Fill c (Whole us)) fits whole = rw (class-back rt c fits.0) (rw (numbers-back rt (2 ^ 16) us (lit≤ tt) fits.1) (refl))
entry-back rt (entry.Fill c (Counted n)) fits whole = cc
entry-back rt (entry.Script name) fits whole = rw (name-back name fits) (refl)
entry-back rt (entry.Done name) fits whole = rw (name-back name fits) (refl)
entry-back rt (entry.Handler name) fits whole = rw (name-back name fits) (refl)
entry-back rt (entry.Back name) fits whole = rw (name-back name fits) (refl)
entry-back rt (entry.In d w) fits whole = rw (domain-back d) (rw (number-decimal rt (2 ^ 32) w fits (lit≤ tt)) (refl))
entry-back rt (entry.Out d w) fits whole = rw (domain-back d) (rw (number-decimal rt (2 ^ 32) w fits (lit≤ tt)) (refl))
entry-back rt entry.Yield fits whole = refl
entry-back rt entry.Ended fits whole = refl
entry-back rt entry.Close fits whole = refl
entry-back rt (entry.New name vs) fits whole = rw (name-back name fits.0) (rw (few-back rt 8 vs fits.1) (refl))
entry-back rt (entry.Given u l) fits whole = rw (number-decimal rt (2 ^ 16) u fits.0 (lit≤ tt)) (rw (number-decimal rt (2 ^ 32) l fits.1 (lit≤ tt)) (refl))
entry-back rt (entry.GivenAfter u l s n) fits whole = rw (number-decimal rt (2 ^ 16) u fits.0 (lit≤ tt)) (rw (number-decimal rt (2 ^ 32) l fits.1 (lit≤ tt)) (rw (number-decimal rt (2 ^ 32) s fits.2 (lit≤ tt)) (rw (number-decimal rt (2 ^ 32) n fits.3 (lit≤ tt)) (refl))))
entry-back rt entry.Empty fits whole = refl
entry-back rt (entry.Busy a) fits whole = rw (number-decimal rt (2 ^ 32) a fits (lit≤ tt)) (refl)
entry-back rt (entry.Drop u l) fits whole = rw (number-decimal rt (2 ^ 16) u fits.0 (lit≤ tt)) (rw (number-decimal rt (2 ^ 32) l fits.1 (lit≤ tt)) (refl))
entry-back rt (entry.Still k) fits whole = rw (number-decimal rt (2 ^ 32) k fits (lit≤ tt)) (refl)
entry-back rt entry.Last fits whole = refl
entry-back rt (entry.Free u h) fits whole = rw (number-decimal rt (2 ^ 16) u fits.0 (lit≤ tt)) (rw (number-decimal rt (2 ^ 8) h fits.1 (lit≤ tt)) (refl))
entry-back rt (entry.Delay u h) fits whole = rw (number-decimal rt (2 ^ 16) u fits.0 (lit≤ tt)) (rw (number-decimal rt (2 ^ 8) h fits.1 (lit≤ tt)) (refl))
entry-back rt (entry.Acquire u l k) fits whole = rw (number-decimal rt (2 ^ 16) u fits.0 (lit≤ tt)) (rw (number-decimal rt (2 ^ 32) l fits.1 (lit≤ tt)) (rw (number-decimal rt (2 ^ 32) k fits.2 (lit≤ tt)) (refl)))
entry-back rt (entry.Get u l f v) fits whole = rw (number-decimal rt (2 ^ 16) u fits.0 (lit≤ tt)) (rw (number-decimal rt (2 ^ 32) l fits.1 (lit≤ tt)) (rw (number-decimal rt (2 ^ 8) f fits.2 (lit≤ tt)) (rw (number-decimal rt (2 ^ 32) v fits.3 (lit≤ tt)) (refl))))
entry-back rt (entry.Lock name) fits whole = rw (name-back name fits) (refl)
entry-back rt (entry.Unlock name) fits whole = rw (name-back name fits) (refl)
entry-back rt (entry.PushFront name u l pos) fits whole = rw (name-back name fits.0) (rw (number-decimal rt (2 ^ 16) u fits.1 (lit≤ tt)) (rw (number-decimal rt (2 ^ 32) l fits.2 (lit≤ tt)) (rw (number-decimal rt (2 ^ 32) pos fits.3 (lit≤ tt)) (refl))))
entry-back rt (entry.PushBack name u l pos) fits whole = rw (name-back name fits.0) (rw (number-decimal rt (2 ^ 16) u fits.1 (lit≤ tt)) (rw (number-decimal rt (2 ^ 32) l fits.2 (lit≤ tt)) (rw (number-decimal rt (2 ^ 32) pos fits.3 (lit≤ tt)) (refl))))
entry-back rt (entry.Add name u l pos) fits whole = rw (name-back name fits.0) (rw (number-decimal rt (2 ^ 16) u fits.1 (lit≤ tt)) (rw (number-decimal rt (2 ^ 32) l fits.2 (lit≤ tt)) (rw (number-decimal rt (2 ^ 32) pos fits.3 (lit≤ tt)) (refl))))
entry-back rt (entry.PushFrontAlready name u l owner pos) fits whole = rw (name-back name fits.0) (rw (number-decimal rt (2 ^ 16) u fits.1 (lit≤ tt)) (rw (number-decimal rt (2 ^ 32) l fits.2 (lit≤ tt)) (rw (name-back owner fits.3) (rw (number-decimal rt (2 ^ 32) pos fits.4 (lit≤ tt)) (refl)))))
entry-back rt (entry.PushBackAlready name u l owner pos) fits whole = rw (name-back name fits.0) (rw (number-decimal rt (2 ^ 16) u fits.1 (lit≤ tt)) (rw (number-decimal rt (2 ^ 32) l fits.2 (lit≤ tt)) (rw (name-back owner fits.3) (rw (number-decimal rt (2 ^ 32) pos fits.4 (lit≤ tt)) (refl)))))
entry-back rt (entry.AddAlready name u l owner pos) fits whole = rw (name-back name fits.0) (rw (number-decimal rt (2 ^ 16) u fits.1 (lit≤ tt)) (rw (number-decimal rt (2 ^ 32) l fits.2 (lit≤ tt)) (rw (name-back owner fits.3) (rw (number-decimal rt (2 ^ 32) pos fits.4 (lit≤ tt)) (refl)))))
entry-back rt (entry.Remove name u l pos) fits whole = rw (name-back name fits.0) (rw (number-decimal rt (2 ^ 16) u fits.1 (lit≤ tt)) (rw (number-decimal rt (2 ^ 32) l fits.2 (lit≤ tt)) (rw (number-decimal rt (2 ^ 32) pos fits.3 (lit≤ tt)) (refl))))
entry-back rt (entry.Work c) fits whole = rw (class-back rt c fits) (refl)
entry-back rt (entry.Begin d n) fits whole = rw (domain-back d) (rw (number-decimal rt (2 ^ 32) n fits (lit≤ tt)) (refl))
entry-back rt (entry.Enter c a) fits whole = rw (class-back rt c fits.0) (rw (number-decimal rt (2 ^ 32) a fits.1 (lit≤ tt)) (refl))
entry-back rt (entry.PopNone c) fits whole = rw (class-back rt c fits) (refl)
entry-back rt (entry.Count c k) fits whole = rw (class-back rt c fits.0) (rw (number-decimal rt (2 ^ 32) k fits.1 (lit≤ tt)) (refl))
entry-back rt (entry.Leave c a) fits whole = rw (class-back rt c fits.0) (rw (number-decimal rt (2 ^ 32) a fits.1 (lit≤ tt)) (refl))
entry-back rt (entry.Raise c) fits whole = rw (class-back rt c fits) (refl)
entry-back rt (entry.Push c u) fits whole = rw (class-back rt c fits.0) (rw (number-decimal rt (2 ^ 16) u fits.1 (lit≤ tt)) (refl))
entry-back rt (entry.Delayed c u) fits whole = rw (class-back rt c fits.0) (rw (number-decimal rt (2 ^ 16) u fits.1 (lit≤ tt)) (refl))
entry-back rt (entry.Look c k) fits whole = rw (class-back rt c fits.0) (rw (number-decimal rt (2 ^ 32) k fits.1 (lit≤ tt)) (refl))
entry-back rt (entry.Put c u) fits whole = rw (class-back rt c fits.0) (rw (number-decimal rt (2 ^ 16) u fits.1 (lit≤ tt)) (refl))
entry-back rt (entry.Lost c) fits whole = rw (class-back rt c fits) (refl)
entry-back rt (entry.LookDelayed c k) fits whole = rw (class-back rt c fits.0) (rw (number-decimal rt (2 ^ 32) k fits.1 (lit≤ tt)) (refl))
entry-back rt (entry.PutDelayed c u) fits whole = rw (class-back rt c fits.0) (rw (number-decimal rt (2 ^ 16) u fits.1 (lit≤ tt)) (refl))
entry-back rt (entry.LostDelayed c) fits whole = rw (class-back rt c fits) (refl)
entry-back rt (entry.Receive c (Whole us)) fits whole = rw (class-back rt c fits.0) (rw (numbers-back rt (2 ^ 16) us (lit≤ tt) fits.1) (refl))
entry-back rt (entry.Receive c (Counted n)) fits whole = cc
entry-back rt (entry.Read c k) fits whole = rw (class-back rt c fits.0) (rw (number-decimal rt (2 ^ 32) k fits.1 (lit≤ tt)) (refl))
entry-back rt (entry.Ready c u) fits whole = rw (class-back rt c fits.0) (rw (number-decimal rt (2 ^ 16) u fits.1 (lit≤ tt)) (refl))
entry-back rt (entry.Second c u) fits whole = rw (class-back rt c fits.0) (rw (number-decimal rt (2 ^ 16) u fits.1 (lit≤ tt)) (refl))
entry-back rt (entry.Fetch c want (Whole us)) fits whole = rw (class-back rt c fits.0) (rw (number-decimal rt (2 ^ 32) want fits.1 (lit≤ tt)) (rw (numbers-back rt (2 ^ 16) us (lit≤ tt) fits.2) (refl)))
entry-back rt (entry.Fetch c want (Counted n)) fits whole = cc
entry-back rt (entry.TakeExtra c (Whole us)) fits whole = rw (class-back rt c fits.0) (rw (numbers-back rt (2 ^ 16) us (lit≤ tt) fits.1) (refl))
entry-back rt (entry.TakeExtra c (Counted n)) fits whole = cc
entry-back rt (entry.Send c p (Whole us)) fits whole = rw (class-back rt c fits.0) (rw (number-decimal rt (2 ^ 8) p fits.1 (lit≤ tt)) (rw (numbers-back rt (2 ^ 16) us (lit≤ tt) fits.2) (refl)))
entry-back rt (entry.Send c p (Counted n)) fits whole = cc
entry-back rt (entry.TakeDelayed c (Whole us)) fits whole = rw (class-back rt c fits.0) (rw (numbers-back rt (2 ^ 16) us (lit≤ tt) fits.1) (refl))
entry-back rt (entry.TakeDelayed c (Counted n)) fits whole = cc
entry-back rt (entry.Batch c (Whole us)) fits whole = rw (class-back rt c fits.0) (rw (numbers-back rt (2 ^ 16) us (lit≤ tt) fits.1) (refl))
entry-back rt (entry.Batch c (Counted n)) fits whole = cc
entry-back rt (entry.Stamp c d s) fits whole = rw (class-back rt c fits.0) (rw (domain-back d) (rw (number-decimal rt (2 ^ 32) s fits.1 (lit≤ tt)) (refl)))
entry-back rt (entry.Pass c d n) fits whole = rw (class-back rt c fits.0) (rw (domain-back d) (rw (number-decimal rt (2 ^ 32) n fits.1 (lit≤ tt)) (refl)))
entry-back rt (entry.BeginSecond c (Whole us)) fits whole = rw (class-back rt c fits.0) (rw (numbers-back rt (2 ^ 16) us (lit≤ tt) fits.1) (refl))
entry-back rt (entry.BeginSecond c (Counted n)) fits whole = cc
entry-back rt (entry.Return c (Whole us)) fits whole = rw (class-back rt c fits.0) (rw (numbers-back rt (2 ^ 16) us (lit≤ tt) fits.1) (refl))
entry-back rt (entry.Return c (Counted n)) fits whole = cc
entry-back rt (entry.Sweep c (Whole us)) fits whole = rw (class-back rt c fits.0) (rw (numbers-back rt (2 ^ 16) us (lit≤ tt) fits.1) (refl))
entry-back rt (entry.Sweep c (Counted n)) fits whole = cc
entry-back rt (entry.PopFront name (Some o) pos) fits whole = rw (name-back name fits.0) (rw (number-decimal rt (2 ^ 16) o.unit fits.1.0 (lit≤ tt)) (rw (number-decimal rt (2 ^ 32) o.life fits.1.1 (lit≤ tt)) (rw (number-decimal rt (2 ^ 32) pos fits.2 (lit≤ tt)) refl)))
entry-back rt (entry.PopFront name None pos) fits whole = rw (name-back name fits.0) (rw (number-decimal rt (2 ^ 32) pos fits.2 (lit≤ tt)) refl)
entry-back rt (entry.PopBack name (Some o) pos) fits whole = rw (name-back name fits.0) (rw (number-decimal rt (2 ^ 16) o.unit fits.1.0 (lit≤ tt)) (rw (number-decimal rt (2 ^ 32) o.life fits.1.1 (lit≤ tt)) (rw (number-decimal rt (2 ^ 32) pos fits.2 (lit≤ tt)) refl)))
entry-back rt (entry.PopBack name None pos) fits whole = rw (name-back name fits.0) (rw (number-decimal rt (2 ^ 32) pos fits.2 (lit≤ tt)) refl)
entry-back rt (entry.First name (Some o) pos) fits whole = rw (name-back name fits.0) (rw (number-decimal rt (2 ^ 16) o.unit fits.1.0 (lit≤ tt)) (rw (number-decimal rt (2 ^ 32) o.life fits.1.1 (lit≤ tt)) (rw (number-decimal rt (2 ^ 32) pos fits.2 (lit≤ tt)) refl)))
entry-back rt (entry.First name None pos) fits whole = rw (name-back name fits.0) (rw (number-decimal rt (2 ^ 32) pos fits.2 (lit≤ tt)) refl)
entry-back rt (entry.Xchg name put was by) fits whole = exchanged-back rt name put was by fits.0 fits.1 fits.2 fits.3
entry-back rt (entry.Finish p) fits whole = finished-back rt p fits
entry-back rt (entry.Pop c u) fits whole = popped-back rt c u fits.0 fits.1
