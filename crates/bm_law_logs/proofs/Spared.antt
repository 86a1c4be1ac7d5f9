-- The caches of classes that no type uses.
use Rattle.std.proofs.Common.{◌≡◌, ◌≢◌, ℕ, suc, zero, Bool, true, false, ◌||◌, List, [], ◌∷◌, refl, sym, ap, subst, ◌∙◌, Option, Some, slice_get, cond, nat_eq, arith}
use Rattle.std.specs.List.{filter, list_any}
use Rattle.std.proofs.lemmas.Bool.Decides.{Decides-eqb, nat_tests}
use Rattle.bm_class.specs.Sizes.{class_of_size}
use Rattle.bm_journal.specs.declared.ids.Domain.{Domain}
use Rattle.bm_journal.specs.declared.units.Units.TheVariants.{Whole}
use Rattle.bm_journal.specs.declared.entry.Entry.{Entry}
use Rattle.bm_journal.specs.declared.entry.Entry.TheVariants as entry
use Rattle.bm_lang.specs.declared.scenario.Parts.{Parts}
use Rattle.bm_lang.specs.declared.scenario.TypeDeclaration.{TypeDeclaration}
use Rattle.bm_law.specs.Effect.{sent}
use Rattle.bm_law.specs.Spans.{own_entries}
use Rattle.bm_law.specs.State.{State}
use Rattle.bm_law_work.specs.WorkPhrases.{Work}
use Rattle.bm_law_work.proofs.Each.{AllOf}
use Rattle.bm_law_scenario.specs.Declared.{Declared, declared_in}
use Rattle.bm_law_scenario.specs.Opened.{OfClass, is_class, object_size, opened_classes, uses_class}
use Rattle.bm_graph.specs.Entries.{call_entry}
use Rattle.bm_journal.specs.declared.past.PastCall.{PastCall}
use Rattle.bm_journal.specs.declared.past.PastCall.TheVariants as past
use Rattle.bm_law_scenario.proofs.RunsAll.{Closed}
use Rattle.bm_law_scenario.proofs.Spares.{AllSpare, Spares, other-row, spare-alloc, spare-delay, spare-free, spare-join}
use Rattle.bm_law_scenario.proofs.PartLaws.{among}
use Rattle.bm_law_scenario.specs.WorkEntries.{IsOfWork}
use Rattle.bm_law_scenario.proofs.Freed.{either-free}
use Rattle.bm_law_scenario.proofs.FrontLaws.{Written}
use Rattle.bm_law_scenario.proofs.OfWork.{work-writes}
use Rattle.bm_law_scenario.proofs.PartLaws.{Has}

-- ---- which classes are used

uses-itself : (d : ℕ) (o : Option ℕ) → o ≡ Some d → is_class d o ≡ true
uses-itself d o e = ap (is_class d) e ∙ (Decides-eqb d d).1 refl

or-left : (a b : Bool) → a ≡ true → (a || b) ≡ true
or-left true b e = refl
or-left false b e = cc

or-right : (a b : Bool) → b ≡ true → (a || b) ≡ true
or-right true b e = refl
or-right false b e = e

found : (d : ℕ) (x : TypeDeclaration) (ts : List TypeDeclaration) (i : ℕ) → uses_class d x ≡ true → slice_get ts i ≡ Some x → list_any (uses_class d) ts ≡ true
found d x [] i h e = cc
found d x (y ∷ ys) zero h e = let q : y ≡ x = cc in or-left (uses_class d y) (list_any (uses_class d) ys) (ap (uses_class d) q ∙ h)
found d x (y ∷ ys) (suc i) h e = or-right (uses_class d y) (list_any (uses_class d) ys) (found d x ys i h e)

used : (types : List TypeDeclaration) (t d : ℕ) (x : TypeDeclaration) → OfClass types t d x → list_any (uses_class d) types ≡ true
used types t d x of = found d x types t (uses-itself d (class_of_size (object_size x)) of.class) of.found

true-false : (b : Bool) → b ≡ true → b ≡ false → ⊥
true-false b p q = absurd (cc)

other-class : (types : List TypeDeclaration) (c d : ℕ) → list_any (uses_class c) types ≡ false → list_any (uses_class d) types ≡ true → c ≢ d
other-class types c d e f q = true-false (list_any (uses_class c) types) (ap (λ k. list_any (uses_class k) types) q ∙ f) e

-- what is kept meets the test
here : (P : ℕ → Bool) (d x : ℕ) (rest b : Bool) → nat_eq d x ≡ b → P x ≡ true → (rest ≡ true → P d ≡ true) → (b || rest) ≡ true → P d ≡ true
here P d x rest true e p f h = let q : d ≡ x = grind (arith, nat_tests, e) in ap P q ∙ p
here P d x rest false e p f h = f h

first-kept : (P : ℕ → Bool) (d x : ℕ) (xs : List ℕ) (b : Bool) → P x ≡ b → (among d (filter P xs) ≡ true → P d ≡ true) → among d (cond b (x ∷ filter P xs) (filter P xs)) ≡ true → P d ≡ true
first-kept P d x xs true p f h = here P d x (among d (filter P xs)) (nat_eq d x) refl p f h
first-kept P d x xs false p f h = f h

kept : (P : ℕ → Bool) (d : ℕ) (xs : List ℕ) → among d (filter P xs) ≡ true → P d ≡ true
kept P d [] h = absurd (cc)
kept P d (x ∷ xs) h = first-kept P d x xs (P x) refl (kept P d xs) h

kept-in : (P : ℕ → Bool) (d : ℕ) (ys xs : List ℕ) → ys ≡ filter P xs → among d ys ≡ true → P d ≡ true
kept-in P d ys xs e h = kept P d xs (subst (λ zs. among d zs ≡ true) e h)

abbrev all : List ℕ
all = 0 ∷ 1 ∷ 2 ∷ 3 ∷ 4 ∷ 5 ∷ 6 ∷ 7 ∷ 8 ∷ 9 ∷ 10 ∷ []

opened-used : (types : List TypeDeclaration) (d : ℕ) → among d (opened_classes types) ≡ true → list_any (uses_class d) types ≡ true
opened-used types d h = kept-in (λ c. list_any (uses_class c) types) d (opened_classes types) all refl h

-- ---- entries on another class

sent-other : (k c l : ℕ) (us : List ℕ) (s : State ℕ) → k ≢ c → (sent c l us s).rows k ≡ s.rows k
sent-other k c l [] s ne = other-row k c _ s ne
sent-other k c l (u ∷ us) s ne = refl

work-spares : (k c : ℕ) (e : Entry) → k ≢ c → IsOfWork c e → Spares k e
work-spares k c (entry.Work d) ne h = λ l us s. other-row k d _ s (λ q. ne (q ∙ h))
work-spares k c (entry.Receive d vs) ne h = λ l us s. other-row k d _ s (λ q. ne (q ∙ h))
work-spares k c (entry.Read d n) ne h = λ l us s. refl
work-spares k c (entry.Ready d u) ne h = λ l us s. other-row k d _ s (λ q. ne (q ∙ h))
work-spares k c (entry.Second d u) ne h = λ l us s. other-row k d _ s (λ q. ne (q ∙ h))
work-spares k c (entry.Fetch d want vs) ne h = λ l us s. refl
work-spares k c (entry.Enter d n) ne h = λ l us s. other-row k d _ s (λ q. ne (q ∙ h))
work-spares k c (entry.Push d u) ne h = λ l us s. other-row k d _ s (λ q. ne (q ∙ h))
work-spares k c (entry.Pop d u) ne h = λ l us s. other-row k d _ s (λ q. ne (q ∙ h))
work-spares k c (entry.PopNone d) ne h = λ l us s. refl
work-spares k c (entry.Count d n) ne h = λ l us s. other-row k d _ s (λ q. ne (q ∙ h))
work-spares k c (entry.Leave d n) ne h = λ l us s. other-row k d _ s (λ q. ne (q ∙ h))
work-spares k c (entry.TakeExtra d vs) ne h = λ l us s. other-row k d _ s (λ q. ne (q ∙ h))
work-spares k c (entry.Send d to vs) ne h = λ l us s. sent-other k d l (s.sides l).hand s (λ q. ne (q ∙ h))
work-spares k c (entry.TakeDelayed d vs) ne h = λ l us s. other-row k d _ s (λ q. ne (q ∙ h))
work-spares k c (entry.Batch d vs) ne h = λ l us s. other-row k d _ s (λ q. ne (q ∙ h))
work-spares k c (entry.Stamp d domain n) ne h = λ l us s. other-row k d _ s (λ q. ne (q ∙ h))
work-spares k c (entry.Pass d domain n) ne h = λ l us s. refl
work-spares k c (entry.BeginSecond d vs) ne h = λ l us s. other-row k d _ s (λ q. ne (q ∙ h))
work-spares k c (entry.Return d vs) ne h = λ l us s. other-row k d _ s (λ q. ne (q ∙ h))
work-spares k c (entry.Begin domain n) ne h = λ l us s. refl
work-spares k c (entry.Finish period) ne h = λ l us s. refl
work-spares k c _ ne h = absurd h

all-work-spare : (k c : ℕ) (es : List Entry) → k ≢ c → AllOf (IsOfWork c) es → AllSpare k es
all-work-spare k c [] ne h = tt
all-work-spare k c (e ∷ es) ne h = (work-spares k c e ne h.0, all-work-spare k c es ne h.1)

call-spares : (c : ℕ) (graph : List ℕ) (position : ℕ) (owner : List ℕ) (call : PastCall) → Spares c (call_entry graph position owner call)
call-spares c graph position owner (past.PushFront id) = λ l us s. refl
call-spares c graph position owner _ = λ l us s. refl

closed : (d : Declared) (c : ℕ) → list_any (uses_class c) d.types ≡ false → Closed d (AllSpare c)
closed d c e = record {
  none = tt;
  join = spare-join c;
  new = λ x t values names part after r. subst (AllSpare c) (sym r.part_is) (λ l us s. refl, spare-alloc c r.class r.own r.reply (other-class d.types c r.class e (used d.types t.0 r.class r.declared r.of_class)) r.allocates);
  dropped = λ x names part after r. subst (AllSpare c) (sym r.part_is) (λ l us s. refl, (λ l us s. refl, (let ne = other-class d.types c r.class e (used d.types r.type.0 r.class r.declared r.of_class) in either-free (AllSpare c) r.declared.counted r.class r.unit r.home r.batch r.own (spare-free c r.class r.unit r.home r.own ne) (spare-delay c r.class r.unit r.home r.batch r.own ne) r.frees)));
  still = λ x names part after r. subst (AllSpare c) (sym r.part_is) (λ l us s. refl, (λ l us s. refl, tt));
  acquired = λ y x names part after r. subst (AllSpare c) (sym r.part_is) (λ l us s. refl, tt);
  read = λ x field names part after r. subst (AllSpare c) (sym r.part_is) (λ l us s. refl, tt);
  exchanged = λ y slot given names part after r. subst (AllSpare c) (sym r.part_is) (λ l us s. refl, tt);
  locks = λ graph. (λ l us s. refl, tt);
  unlocks = λ graph. (λ l us s. refl, tt);
  calls = λ graph position owner call. (call-spares c graph position owner call, tt);
  enters = λ w. (λ l us s. refl, tt);
  leaves = λ w. (λ l us s. refl, tt);
  yields = (λ l us s. refl, tt);
}

fill-spares : (types : List TypeDeclaration) (c d : ℕ) (us : List ℕ) → list_any (uses_class c) types ≡ false → among d (opened_classes types) ≡ true → AllSpare c (entry.Fill d (Whole us) ∷ [])
fill-spares types c d us e m = (λ l vs t. other-row c d _ t (other-class types c d e (opened-used types d m)), tt)

work-part-spares : (types : List TypeDeclaration) (c d : ℕ) → list_any (uses_class c) types ≡ false → among d (opened_classes types) ≡ true → Has (AllSpare c) (Work 0 d)
work-part-spares types c d e m t part h = all-work-spare c d (own_entries 0 part) (other-class types c d e (opened-used types d m)) (work-writes 0 d t part h)

begins-spare : (c w : ℕ) (d : Domain) (name : List ℕ) → AllSpare c (entry.Script name ∷ entry.In d w ∷ [])
begins-spare c w d name = (λ l us t. refl, (λ l us t. refl, tt))

ends-spare : (c w : ℕ) (d : Domain) (name : List ℕ) → AllSpare c (entry.Out d w ∷ entry.Done name ∷ [])
ends-spare c w d name = (λ l us t. refl, (λ l us t. refl, tt))

pub spared : (s : Parts) (c : ℕ) → list_any (uses_class c) s.types ≡ false → Written s (AllSpare c)
spared s c e = record {
  closed = closed (declared_in s) c e;
  fill = λ d us m. fill-spares s.types c d us e m;
  begins = λ d name w. begins-spare c w d name;
  ends = λ d name w. ends-spare c w d name;
  work = λ d m. work-part-spares s.types c d e m;
}
