-- Work and sweeps return what has waited.
use Rattle.std.specs.Prelude.{◌≢◌, ◌≤◌, if◌then◌else◌, not, ◌==◌, nat_le}
use Rattle.std.proofs.Common.{◌≡◌, ◌<◌, ◌+◌, ℕ, zero, suc, Bool, true, false, List, [], ◌∷◌, ◌++◌, Option, None, Some, refl, sym, ◌∙◌, ap, subst, inl, inr, arith, append_assoc, eq-eqb, ne_eqb}
use Rattle.std.proofs.lemmas.Bool.Decides.{eqb_tells, nat_tests}
use Rattle.bm_journal.specs.declared.ids.Domain.{Domain}
use Rattle.bm_journal.specs.declared.ids.Domain.TheVariants.{Tracing}
use Rattle.bm_journal.specs.declared.units.Units.{Units}
use Rattle.bm_journal.specs.declared.units.Units.TheVariants.{Whole}
use Rattle.bm_journal.specs.declared.entry.Entry.{Entry}
use Rattle.bm_journal.specs.declared.entry.Entry.TheVariants as entry
use Rattle.bm_law.specs.Lists.{AllName, Log, Names, after, next}
use Rattle.bm_law.specs.Spans.{own_entries}
use Rattle.bm_law.specs.State.{State}
use Rattle.bm_law.specs.SweepPhrases.{PollPhrase}
use Rattle.bm_law.proofs.Folds.{AllName-back, AllName-front}
use Rattle.bm_law_work.specs.Parts.{Part, Nothing, Say, Then, If, When}
use Rattle.bm_law_work.specs.WorkPhrases.{Balance, FirstStage, IsOne, IsReturn, IsSecond, IsStamp, Passing, Receive, SecondStage, Work, may_begin}
use Rattle.bm_law_work.proofs.Each.{AllOf, PartOf, of-map, part-map}
use Rattle.bm_law_scenario.specs.Closing.{SweepOf, SweepWhere}
use Rattle.bm_law_scenario.proofs.EachLevel.{AllAbove, above-back, above-front}
use Rattle.bm_law_lives.specs.StampLaw.{HasPassed, ReturnFits, holds, last_after, on_class, passed, stood_after}
use Rattle.bm_law_lives.specs.Together.{Each, times}
use Rattle.bm_law_scenario.specs.WorkEntries.{KeepsBatch}
use Rattle.bm_law_logs.proofs.Batches.{AllKeep, Any, Less, ReturnsAt, ReturnsBy, Says, Stood, StoodFor, after-apart, all-keep, keep-fits, keep-less, keep-stood, keeps-say, last_over, nothing-at, returns-laws, says-join, stood-over-kept, stood_over, then-at}
use Rattle.bm_law_scenario.proofs.OfWork.{IsCalm, balance, first, one, poll, receive}

-- ---- entries of ordinary code in a part

-- a part is cut where the entries of ordinary code are
pub record Cut (part : Log) (xs ys : List Entry) : Type 0 where
  pub one : Log
  pub two : Log
  pub part_is : part ≡ one ++ two
  pub one_is : own_entries 0 one ≡ xs
  pub two_is : own_entries 0 two ≡ ys

abbrev Headed : ℕ × Entry → Bool → List Entry → List Entry
Headed e b es = if b then e.1 ∷ es else es

cut-at : (part : Log) (xs ys : List Entry) → own_entries 0 part ≡ xs ++ ys → Cut part xs ys
cut-at part [] ys q = record { one = []; two = part; part_is = refl; one_is = refl; two_is = q }
cut-at [] (x ∷ xs) ys q = absurd (cc)
cut-at (e ∷ es) (x ∷ xs) ys q = elim (eqb_tells e.0 0) [
  | inl y ↦
      let here : e.1 ∷ own_entries 0 es ≡ x ∷ (xs ++ ys) = rw y.0 at q in
      let rest : own_entries 0 es ≡ xs ++ ys = (let k = here in cc) in
      let head : e.1 ≡ x = (let k = here in cc) in
      let r = cut-at es xs ys rest in
      let own : own_entries 0 (e ∷ r.one) ≡ e.1 ∷ own_entries 0 r.one = ap (λ b. Headed e b (own_entries 0 r.one)) y.0 in
      record { one = e ∷ r.one; two = r.two; part_is = ap (λ z. e ∷ z) r.part_is; one_is = own ∙ (ap (λ z. z ∷ own_entries 0 r.one) head ∙ ap (λ z. x ∷ z) r.one_is); two_is = r.two_is }
  | inr y ↦
      let here : own_entries 0 es ≡ x ∷ (xs ++ ys) = rw y.0 at q in
      let r = cut-at es (x ∷ xs) ys here in
      let own : own_entries 0 (e ∷ r.one) ≡ own_entries 0 r.one = ap (λ b. Headed e b (own_entries 0 r.one)) y.0 in
      record { one = e ∷ r.one; two = r.two; part_is = ap (λ z. e ∷ z) r.part_is; one_is = own ∙ r.one_is; two_is = r.two_is }
]

-- the last entry of ordinary code
abbrev last_of : Option Entry → List Entry → Option Entry
last_of last [] = last
last_of last (e ∷ es) = last_of (Some e) es

last-own : (last : Option Entry) (part : Log) → last_over last part ≡ last_of last (own_entries 0 part)
last-own last [] = refl
last-own last (e ∷ es) = elim (eqb_tells e.0 0) [
  | inl y ↦ rw y.0 (last-own (Some e.1) es)
  | inr y ↦ rw y.0 (last-own last es)
]

last-behind : (last : Option Entry) (es : List Entry) (e : Entry) → last_of last (es ++ e ∷ []) ≡ Some e
last-behind last [] e = refl
last-behind last (x ∷ es) e = last-behind (Some x) es e

-- a poll ends with its pass
poll-last : (last : Option Entry) (c : ℕ) (d : Domain) (own : List Entry) (part : Log) (h : PollPhrase c d own) → own_entries 0 part ≡ own → last_over last part ≡ Some (entry.Pass c d h.seen)
poll-last last c d own part h e =
    let all : own ≡ (h.ended ++ h.begun) ++ entry.Pass c d h.seen ∷ [] = h.own_is ∙ sym (append_assoc h.ended h.begun (entry.Pass c d h.seen ∷ [])) in
    last-own last part ∙ (ap (last_of last) (e ∙ all) ∙ last-behind last (h.ended ++ h.begun) (entry.Pass c d h.seen))

poll-keeps : (c : ℕ) (d : Domain) (own : List Entry) (part : Log) → PollPhrase c d own → own_entries 0 part ≡ own → AllAbove KeepsBatch part → AllKeep part
poll-keeps c d own part h e above = all-keep part above (subst (AllOf KeepsBatch) (sym e) (of-map (IsCalm c) KeepsBatch (λ x w. w.1) own (poll c d own h)))

-- ---- a part with one entry of ordinary code

pub record Sole (e : Entry) (part : Log) : Type 0 where
  pub front : Log
  pub rest : Log
  pub part_is : part ≡ front ++ (0, e) ∷ rest
  pub front_keeps : AllKeep front
  pub rest_keeps : AllKeep rest
  pub silent : (last : Option Entry) → last_over last front ≡ last

above-zero : (n : ℕ) → (n ≡ 0 → ⊥) → 0 < n
above-zero zero f = absurd (f refl)
above-zero (suc n) f = omega arith

sole : (e : Entry) (part : Log) → AllAbove KeepsBatch part → own_entries 0 part ≡ e ∷ [] → Sole e part
sole e [] above q = absurd (cc)
sole e ((l, x) ∷ es) above q = elim (eqb_tells l 0) [
  | inl y ↦
      let here : x ∷ own_entries 0 es ≡ e ∷ [] = rw y.0 at q in
      let none : own_entries 0 es ≡ [] = (let k = here in cc) in
      let same : x ≡ e = (let k = here in cc) in
      record {
        front = [];
        rest = es;
        part_is = ap (λ (n : ℕ). (n, x) ∷ es) y.1 ∙ ap (λ (z : Entry). (0, z) ∷ es) same;
        front_keeps = tt;
        rest_keeps = all-keep es above.1 (subst (AllOf KeepsBatch) (sym none) tt);
        silent = λ last. refl;
      }
  | inr y ↦
      let here : own_entries 0 es ≡ e ∷ [] = rw y.0 at q in
      let r = sole e es above.1 here in
      record {
        front = (l, x) ∷ r.front;
        rest = r.rest;
        part_is = ap (λ (z : Log). (l, x) ∷ z) r.part_is;
        front_keeps = (above.0 (above-zero l y.1), r.front_keeps);
        rest_keeps = r.rest_keeps;
        silent = λ last. rw y.0 (r.silent last);
      }
]

-- what such a part says, by what its entry says where it stands
around : (P Q : ℕ → Type 0) (s : State ℕ) (last : Option Entry) (stood : ℕ → List ℕ) (e : Entry) (part : Log) → Sole e part → AllName s part → StoodFor P s stood →
    ((t : State ℕ) → Names 0 e t → StoodFor P t stood → ((k : ℕ) → Less (s.rows k).deferred (t.rows k).deferred) → ReturnFits t last stood e × StoodFor Q (next t (0, e)) (stood_after t e stood)) → Says Q s last stood part
around P Q s last stood e part x names h f =
    let t : State ℕ = after s x.front in
    let same : stood_over s x.front stood ≡ stood = stood-over-kept s x.front stood x.front_keeps in
    let there : AllName t ((0, e) ∷ x.rest) = AllName-back s x.front ((0, e) ∷ x.rest) (subst (AllName s) x.part_is names) in
    let here = f t there.0 (subst (StoodFor P t) same (keep-stood P s stood x.front x.front_keeps h)) (λ k. keep-less s x.front k x.front_keeps) in
    let one : Says P s last stood x.front = record { fit = keep-fits s last stood x.front x.front_keeps; stands = keep-stood P s stood x.front x.front_keeps h } in
    let two : Says Q t last stood ((0, e) ∷ x.rest) = record {
      fit = (here.0, keep-fits (next t (0, e)) (last_after last (0, e)) (stood_after t e stood) x.rest x.rest_keeps);
      stands = keep-stood Q (next t (0, e)) (stood_after t e stood) x.rest x.rest_keeps here.1;
    } in
    let S : Option Entry → (ℕ → List ℕ) → Type 0 = λ l z. Says Q t l z ((0, e) ∷ x.rest) in
    let two' : S (last_over last x.front) (stood_over s x.front stood) = subst (λ l. S l (stood_over s x.front stood)) (sym (x.silent last)) (subst (S last) (sym same) two) in
    subst (Says Q s last stood) (sym x.part_is) (says-join P Q s last stood x.front ((0, e) ∷ x.rest) one two')

-- ---- a return

-- the batch of this class waits for this stamp, which this number has reached, and its pass was the last entry of ordinary code
pub record HasWaited (c : ℕ) (s : State ℕ) (last : Option Entry) : Type 0 where
  pub stamp : ℕ
  pub seen : ℕ
  pub waits : (s.rows c).deferred.tracing ≡ Some stamp
  pub last_is : last ≡ Some (entry.Pass c Tracing seen)
  pub reached : stamp ≤ seen

clash : {x : ℕ} {A : Type 0} → ◌≡◌ {A = Option ℕ} None (Some x) → A
clash e = absurd (cc)

return-says : (c : ℕ) (us : Units) (s : State ℕ) (last : Option Entry) (stood : ℕ → List ℕ) (part : Log) → own_entries 0 part ≡ entry.Return c us ∷ [] → AllName s part → AllAbove KeepsBatch part → Stood s stood → HasWaited c s last → Says Any s last stood part
return-says c us s last stood part own names above h w =
    around Any Any s last stood (entry.Return c us) part (sole (entry.Return c us) part above own) names h (λ t n k less. (
      (
        subst (λ o. HasPassed o (passed c Tracing last)) (sym ((less c).stamp ∙ w.waits)) (subst (λ l. HasPassed (Some w.stamp) (passed c Tracing l)) (sym w.last_is) (rw (eq-eqb c c refl) w.reached)),
        subst (Each (λ u. holds u (stood c) ≡ true)) (sym n.0) (k c w.stamp tt ((less c).stamp ∙ w.waits)),
      ),
      λ j x p q. elim (eqb_tells j c) [
        | inl y ↦ clash (rw y.0 at q)
        | inr y ↦ rw y.0 (k j x tt (rw y.0 at q))
      ],
    ))

-- ---- a batch that begins

abbrev Others : ℕ → ℕ → Type 0
Others c k = k ≢ c

-- units of a class begin to wait, and those of others stand as they did
other-class : (c : ℕ) (ws : List ℕ) (stood : ℕ → List ℕ) (k : ℕ) → k ≢ c → on_class c ws stood k ≡ stood k
other-class c ws stood k ne = rw (ne_eqb k c ne) refl

begin-says : (c : ℕ) (us : Units) (s : State ℕ) (last : Option Entry) (stood : ℕ → List ℕ) (part : Log) → own_entries 0 part ≡ entry.BeginSecond c us ∷ [] → AllName s part → AllAbove KeepsBatch part → Stood s stood → Says (Others c) s last stood part
begin-says c us s last stood part own names above h =
    around Any (Others c) s last stood (entry.BeginSecond c us) part (sole (entry.BeginSecond c us) part above own) names h (λ t n k less. (
      tt,
      λ j x ne q. rw (ne_eqb j c ne) (k j x tt (rw (ne_eqb j c ne) at q)),
    ))

sweep-says : (c : ℕ) (us : Units) (s : State ℕ) (last : Option Entry) (stood : ℕ → List ℕ) (part : Log) → own_entries 0 part ≡ entry.Sweep c us ∷ [] → AllName s part → AllAbove KeepsBatch part → Stood s stood → Says (Others c) s last stood part
sweep-says c us s last stood part own names above h =
    around Any (Others c) s last stood (entry.Sweep c us) part (sole (entry.Sweep c us) part above own) names h (λ t n k less. (
      tt,
      λ j x ne q. rw (ne_eqb j c ne) (k j x tt (rw (ne_eqb j c ne) at q)),
    ))

-- ---- a stamp that is taken

some-held : (n : ℕ) → not (n + 1 == 0) ≡ true
some-held n = ap not (ne_eqb (n + 1) 0 (λ e. omega (arith, e)))

holds-first : (u : ℕ) (us : List ℕ) → holds u (u ∷ us) ≡ true
holds-first u us = rw (eq-eqb u u refl) (some-held (times u us))

holds-more : (u v : ℕ) (us : List ℕ) → holds u us ≡ true → holds u (v ∷ us) ≡ true
holds-more u v us h = elim (eqb_tells u v) [
  | inl y ↦ rw y.0 (some-held (times u us))
  | inr y ↦ rw y.0 h
]

each-held : (ws us : List ℕ) → ((u : ℕ) → holds u ws ≡ true → holds u us ≡ true) → Each (λ u. holds u us ≡ true) ws
each-held [] us f = tt
each-held (w ∷ ws) us f = (f w (holds-first w ws), each-held ws us (λ u h. f u (holds-more u w ws h)))

stamp-says : (c x : ℕ) (s : State ℕ) (last : Option Entry) (stood : ℕ → List ℕ) (part : Log) → own_entries 0 part ≡ entry.Stamp c Tracing x ∷ [] → AllName s part → AllAbove KeepsBatch part → StoodFor (Others c) s stood → Says Any s last stood part
stamp-says c x s last stood part own names above h =
    around (Others c) Any s last stood (entry.Stamp c Tracing x) part (sole (entry.Stamp c Tracing x) part above own) names h (λ t n k less. (
      tt,
      λ j z p q. elim (eqb_tells j c) [
        | inl y ↦ rw y.0 (each-held (t.rows c).deferred.second (t.rows c).deferred.second (λ u e. e))
        | inr y ↦ rw y.0 (k j z y.1 (rw y.0 at q))
      ],
    ))

-- the stamp of the batch is that one
stamp-taken : (c x : ℕ) (s : State ℕ) (part : Log) → Sole (entry.Stamp c Tracing x) part → ((after s part).rows c).deferred.tracing ≡ Some x
stamp-taken c x s part h =
    let e : ℕ × Entry = (0, entry.Stamp c Tracing x) in
    let t : State ℕ = next (after s h.front) e in
    let now : (t.rows c).deferred.tracing ≡ Some x = rw (eq-eqb c c refl) refl in
    let T : State ℕ → Option ℕ = λ (z : State ℕ). (z.rows c).deferred.tracing in
    ap (λ (z : Log). T (after s z)) h.part_is ∙ (ap T (after-apart s h.front (e ∷ h.rest)) ∙ ((keep-less t h.rest c h.rest_keeps).stamp ∙ now))

-- ---- the second stage

-- behind a poll the batch has waited where the number that was seen has reached its stamp
after-poll : (c stamp : ℕ) (own : List Entry) (h : PollPhrase c Tracing own) (s : State ℕ) (last : Option Entry) (part : Log) → own_entries 0 part ≡ own → AllAbove KeepsBatch part → (s.rows c).deferred.tracing ≡ Some stamp → stamp ≤ h.seen → HasWaited c (after s part) (last_over last part)
after-poll c stamp own h s last part e above t le = record {
  stamp = stamp;
  seen = h.seen;
  waits = (keep-less s part c (poll-keeps c Tracing own part h e above)).stamp ∙ t;
  last_is = poll-last last c Tracing own part h e;
  reached = le;
}

le-true : (a b : ℕ) → nat_le a b ≡ true → a ≤ b
le-true a b h = grind (arith, nat_tests, h)

-- a return, where the number has reached the stamp
passed-at : (c stamp : ℕ) (own : List Entry) (h : PollPhrase c Tracing own) (b : Bool) → nat_le stamp h.seen ≡ b → (s : State ℕ) (last : Option Entry) (stood : ℕ → List ℕ) (part two : Log) → own_entries 0 part ≡ own → AllAbove KeepsBatch part → (s.rows c).deferred.tracing ≡ Some stamp → AllName (after s part) two → AllAbove KeepsBatch two → Stood (after s part) (stood_over s part stood) → If b (Say 0 (IsReturn c)) Nothing (after s part) two → Says Any (after s part) (last_over last part) (stood_over s part stood) two
passed-at c stamp own h true le s last stood part two e above t names above' k d =
    return-says c (Whole d.1.0) (after s part) (last_over last part) (stood_over s part stood) two (d.2.own_is ∙ d.1.1) names above' k (after-poll c stamp own h s last part e above t (le-true stamp h.seen le))
passed-at c stamp own h false le s last stood part two e above t names above' k d = nothing-at (after s part) (last_over last part) (stood_over s part stood) two names above' k d

passing-at : (c : ℕ) (s : State ℕ) (batch : Option ℕ) → (s.rows c).deferred.tracing ≡ batch → ReturnsAt s (Passing 0 c Tracing batch (Say 0 (IsReturn c)))
passing-at c s None e = nothing-at s
passing-at c s (Some stamp) e = λ last stood part names above h d.
    let own = d.0 in
    let polls = d.1 in
    let t = d.2 in
    let names' : AllName s (t.one ++ t.two) = subst (AllName s) t.part_is names in
    let above' : AllAbove KeepsBatch (t.one ++ t.two) = subst (AllAbove KeepsBatch) t.part_is above in
    let above1 = above-front KeepsBatch t.one t.two above' in
    let keeps = poll-keeps c Tracing own t.one polls t.is_first.own_is above1 in
    let stood1 = keep-stood Any s stood t.one keeps h in
    let one : Says Any s last stood t.one = record { fit = keep-fits s last stood t.one keeps; stands = stood1 } in
    let two = passed-at c stamp own polls (nat_le stamp polls.seen) refl s last stood t.one t.two t.is_first.own_is above1 e (AllName-back s t.one t.two names') (above-back KeepsBatch t.one t.two above') stood1 t.is_second in
    subst (Says Any s last stood) (sym t.part_is) (says-join Any Any s last stood t.one t.two one two)

-- Ready becomes a batch, which takes its stamp
batch-at : (c : ℕ) (s : State ℕ) → ReturnsAt s (Then (Say 0 (IsSecond c)) (Say 0 (IsStamp c Tracing)))
batch-at c s last stood part names above h d =
    let names' : AllName s (d.one ++ d.two) = subst (AllName s) d.part_is names in
    let above' : AllAbove KeepsBatch (d.one ++ d.two) = subst (AllAbove KeepsBatch) d.part_is above in
    let first = d.is_first in
    let second = d.is_second in
    let a = begin-says c (Whole first.1.0) s last stood d.one (first.2.own_is ∙ first.1.1) (AllName-front s d.one d.two names') (above-front KeepsBatch d.one d.two above') h in
    let b = stamp-says c second.1.0 (after s d.one) (last_over last d.one) (stood_over s d.one stood) d.two (second.2.own_is ∙ second.1.1) (AllName-back s d.one d.two names') (above-back KeepsBatch d.one d.two above') a.stands in
    subst (Says Any s last stood) (sym d.part_is) (says-join (Others c) Any s last stood d.one d.two a b)

may-at : (c : ℕ) (s : State ℕ) (b : Bool) → ReturnsAt s (If b (Then (Say 0 (IsSecond c)) (Say 0 (IsStamp c Tracing))) Nothing)
may-at c s true = batch-at c s
may-at c s false = nothing-at s

second-by : (c : ℕ) → ReturnsBy (SecondStage 0 c)
second-by c s last stood part names above h d =
    let begin : Part = When (may_begin c) (Then (Say 0 (IsSecond c)) (Say 0 (IsStamp c Tracing))) in
    then-at s (Passing 0 c Tracing (s.rows c).deferred.tracing (Say 0 (IsReturn c))) begin (passing-at c s (s.rows c).deferred.tracing refl)
    (λ t l z p n a k x. may-at c t (may_begin c t) l z p n a k x) last stood part names above h d

pub work-by : (c : ℕ) → ReturnsBy (Work 0 c)
work-by c =
    let keeps : (P : Part) → PartOf (IsCalm c) 0 P → ReturnsBy P = λ P q. keeps-say P (part-map (IsCalm c) KeepsBatch (λ e w. w.1) 0 P q) in
    let stages : Part = Then (FirstStage 0 c) (SecondStage 0 c) in
    let head : Part = Say 0 (IsOne (entry.Work c)) in
    returns-laws.both head (Then (Receive 0 c 64) (Then (Balance 0 c) stages)) (keeps head (one 0 c (entry.Work c) (refl, tt)))
    (returns-laws.both (Receive 0 c 64) (Then (Balance 0 c) stages) (keeps (Receive 0 c 64) (receive 0 c 64))
    (returns-laws.both (Balance 0 c) stages (keeps (Balance 0 c) (balance 0 c)) (returns-laws.both (FirstStage 0 c) (SecondStage 0 c) (keeps (FirstStage 0 c) (first 0 c)) (second-by c))))

-- ---- a sweep

swept-by : (c : ℕ) (units : List ℕ) → ReturnsBy (Say 0 (SweepOf c units))
swept-by c units s last stood part names above h d =
    let x = d.1.phrase in
    let back : List Entry = entry.Return c (Whole x.returned) ∷ [] in
    let taken : Entry = entry.Sweep c (Whole x.swept) in
    let stamped : Entry = entry.Stamp c Tracing x.stamp in
    let a = cut-at part (taken ∷ []) (stamped ∷ x.poll ++ back) (d.2.own_is ∙ x.own_is) in
    let b = cut-at a.two (stamped ∷ []) (x.poll ++ back) a.two_is in
    let e = cut-at b.two x.poll back b.two_is in
    let names1 : AllName s (a.one ++ a.two) = subst (AllName s) a.part_is names in
    let above1 : AllAbove KeepsBatch (a.one ++ a.two) = subst (AllAbove KeepsBatch) a.part_is above in
    let s1 = after s a.one in
    let names2 : AllName s1 (b.one ++ b.two) = subst (AllName s1) b.part_is (AllName-back s a.one a.two names1) in
    let above2 : AllAbove KeepsBatch (b.one ++ b.two) = subst (AllAbove KeepsBatch) b.part_is (above-back KeepsBatch a.one a.two above1) in
    let s2 = after s1 b.one in
    let names3 : AllName s2 (e.one ++ e.two) = subst (AllName s2) e.part_is (AllName-back s1 b.one b.two names2) in
    let above3 : AllAbove KeepsBatch (e.one ++ e.two) = subst (AllAbove KeepsBatch) e.part_is (above-back KeepsBatch b.one b.two above2) in
    let abovep = above-front KeepsBatch e.one e.two above3 in
    let aboves = above-front KeepsBatch b.one b.two above2 in
    let l1 = last_over last a.one in
    let z1 = stood_over s a.one stood in
    let l2 = last_over l1 b.one in
    let z2 = stood_over s1 b.one z1 in
    let one = sweep-says c (Whole x.swept) s last stood a.one a.one_is (AllName-front s a.one a.two names1) (above-front KeepsBatch a.one a.two above1) h in
    let two = stamp-says c x.stamp s1 l1 z1 b.one b.one_is (AllName-front s1 b.one b.two names2) aboves one.stands in
    let tracing = stamp-taken c x.stamp s1 b.one (sole stamped b.one aboves b.one_is) in
    let keeps = poll-keeps c Tracing x.poll e.one x.polls e.one_is abovep in
    let stood3 = keep-stood Any s2 z2 e.one keeps two.stands in
    let three : Says Any s2 l2 z2 e.one = record { fit = keep-fits s2 l2 z2 e.one keeps; stands = stood3 } in
    let four = return-says c (Whole x.returned) (after s2 e.one) (last_over l2 e.one) (stood_over s2 e.one z2) e.two e.two_is (AllName-back s2 e.one e.two names3) (above-back KeepsBatch e.one e.two above3) stood3 (after-poll c x.stamp x.poll x.polls s2 l2 e.one e.one_is abovep tracing d.1.waited) in
    let rest = subst (Says Any s2 l2 z2) (sym e.part_is) (says-join Any Any s2 l2 z2 e.one e.two three four) in
    let more = subst (Says Any s1 l1 z1) (sym b.part_is) (says-join Any Any s1 l1 z1 b.one b.two two rest) in
    subst (Says Any s last stood) (sym a.part_is) (says-join (Others c) Any s last stood a.one a.two one more)

pub where-by : (c : ℕ) (units : List ℕ) → ReturnsBy (SweepWhere c units)
where-by c [] = nothing-at
where-by c (u ∷ us) = swept-by c (u ∷ us)
