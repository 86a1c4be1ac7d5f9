-- What a log says of its tracing batches: each return stands behind the pass of its stamp, and gives back what stood in Second when
-- that stamp was taken.
use Rattle.std.specs.Prelude.{drop}
use Rattle.std.proofs.Common.{◌≡◌, ◌<◌, ℕ, zero, suc, true, List, [], ◌∷◌, ◌++◌, Option, Some, refl, sym, ◌∙◌, ap, subst, inl, inr, arith}
use Rattle.std.proofs.lemmas.Bool.Decides.{eqb_tells}
use Rattle.bm_journal.specs.declared.ids.Domain.TheVariants.{Plain, Tracing}
use Rattle.bm_journal.specs.declared.entry.Entry.{Entry}
use Rattle.bm_journal.specs.declared.entry.Entry.TheVariants as entry
use Rattle.bm_law.specs.Effect.{effect, sent}
use Rattle.bm_law.specs.Lists.{AllName, Log, after, brought, next}
use Rattle.bm_law.specs.Spans.{own_entries}
use Rattle.bm_law.specs.State.{Deferred, Row, State, with_row}
use Rattle.bm_law.proofs.Folds.{AllName-back, AllName-front}
use Rattle.bm_law.proofs.Plain.{plain-effect}
use Rattle.bm_law_work.specs.Parts.{Part, Nothing, Then}
use Rattle.bm_law_work.proofs.Each.{AllOf, PartOf}
use Rattle.bm_law_scenario.specs.WorkEntries.{KeepsBatch}
use Rattle.bm_law_scenario.proofs.EachLevel.{AllAbove, above-back, above-front}
use Rattle.bm_law_lives.specs.StampLaw.{ReturnFits, ReturnsFit, holds, last_after, stood_after}
use Rattle.bm_law_lives.specs.Together.{Each}
use Rattle.bm_law_scenario.proofs.PartLaws.{Laws}

-- ---- entries that leave the tracing batches

-- the same stamp, and no more units in Second
pub record Less (before now : Deferred ℕ) : Type 1 where
  pub stamp : now.tracing ≡ before.tracing
  pub units : (P : ℕ → Type 0) → Each P before.second → Each P now.second

less-same : (d : Deferred ℕ) → Less d d
less-same d = record { stamp = refl; units = λ P h. h }

less-is : (d e : Deferred ℕ) → e ≡ d → Less d e
less-is d e q = subst (Less d) (sym q) (less-same d)

pub less-join : (a b c : Deferred ℕ) → Less a b → Less b c → Less a c
less-join a b c x y = record { stamp = y.stamp ∙ x.stamp; units = λ P h. y.units P (x.units P h) }

row-less : (c k : ℕ) (r : Row ℕ) (s : State ℕ) → Less (s.rows c).deferred r.deferred → Less (s.rows k).deferred ((with_row c r s).rows k).deferred
row-less c k r s h = elim (eqb_tells k c) [
  | inl y ↦ rw y.0 (subst (λ j. Less (s.rows j).deferred r.deferred) (sym y.1) h)
  | inr y ↦ rw y.0 (less-same (s.rows k).deferred)
]

each-drop : (P : ℕ → Type 0) (us : List ℕ) → Each P us → Each P (drop 1 us)
each-drop P [] h = h
each-drop P (u ∷ us) h = h.1

sent-less : (c l k : ℕ) (hand : List ℕ) (s : State ℕ) → Less (s.rows k).deferred ((sent c l hand s).rows k).deferred
sent-less c l k [] s = row-less c k _ s (record { stamp = refl; units = λ P h. h })
sent-less c l k (u ∷ us) s = less-same (s.rows k).deferred

effect-less : (l : ℕ) (e : Entry) (us : List ℕ) (s : State ℕ) (k : ℕ) → KeepsBatch e → Less (s.rows k).deferred ((effect l e us s).rows k).deferred
effect-less l (entry.Receive c ns) us s k q = row-less c k _ s (record { stamp = refl; units = λ P h. h })
effect-less l (entry.Ready c u) us s k q = row-less c k _ s (record { stamp = refl; units = λ P h. h })
effect-less l (entry.Second c u) us s k q = row-less c k _ s (record { stamp = refl; units = λ P h. each-drop P (s.rows c).deferred.second h })
effect-less l (entry.Send c to ns) us s k q = sent-less c l k (s.sides l).hand s
effect-less l (entry.Batch c ns) us s k q = row-less c k _ s (record { stamp = refl; units = λ P h. h })
effect-less l (entry.Stamp c Plain x) us s k q = row-less c k _ s (record { stamp = refl; units = λ P h. h })
effect-less l (entry.Stamp c Tracing x) us s k q = absurd (cc)
effect-less l (entry.BeginSecond c ns) us s k q = absurd q
effect-less l (entry.Return c ns) us s k q = absurd q
effect-less l (entry.Sweep c ns) us s k q = absurd q
effect-less l e us s k q = less-is (s.rows k).deferred ((effect l e us s).rows k).deferred (plain-effect l e us s k refl)

pub next-less : (s : State ℕ) (e : ℕ × Entry) (k : ℕ) → KeepsBatch e.1 → Less (s.rows k).deferred ((next s e).rows k).deferred
next-less s e k q = effect-less e.0 e.1 (brought e.1 s) s k q

stood-kept : (s : State ℕ) (e : Entry) (stood : ℕ → List ℕ) → KeepsBatch e → stood_after s e stood ≡ stood
stood-kept s (entry.Stamp c Plain x) stood q = refl
stood-kept s (entry.Stamp c Tracing x) stood q = absurd (cc)
stood-kept s (entry.BeginSecond c us) stood q = absurd q
stood-kept s (entry.Return c us) stood q = absurd q
stood-kept s (entry.Sweep c us) stood q = absurd q
stood-kept s _ stood q = refl

kept-fits : (s : State ℕ) (last : Option Entry) (stood : ℕ → List ℕ) (e : Entry) → KeepsBatch e → ReturnFits s last stood e
kept-fits s last stood (entry.Return c us) q = absurd q
kept-fits s last stood _ q = tt

-- ---- what stood in Second

-- The units in Second of each of these classes stood there when the stamp of its tracing batch was taken, if it has one.
abbrev pub StoodFor : (ℕ → Type 0) → State ℕ → (ℕ → List ℕ) → Type 0
StoodFor P s stood = (k x : ℕ) → P k → (s.rows k).deferred.tracing ≡ Some x → Each (λ u. holds u (stood k) ≡ true) (s.rows k).deferred.second

abbrev pub Any : ℕ → Type 0
Any k = Unit {0}

abbrev pub Stood : State ℕ → (ℕ → List ℕ) → Type 0
Stood s stood = StoodFor Any s stood

pub next-stood : (P : ℕ → Type 0) (s : State ℕ) (e : ℕ × Entry) (stood : ℕ → List ℕ) → KeepsBatch e.1 → StoodFor P s stood → StoodFor P (next s e) (stood_after s e.1 stood)
next-stood P s e stood q h = subst (StoodFor P (next s e)) (sym (stood-kept s e.1 stood q)) (λ k x p t.
    let less = next-less s e k q in less.units (λ u. holds u (stood k) ≡ true) (h k x p (sym less.stamp ∙ t)))

-- ---- along a log

abbrev pub last_over : Option Entry → Log → Option Entry
last_over last [] = last
last_over last (e ∷ es) = last_over (last_after last e) es

abbrev pub stood_over : State ℕ → Log → (ℕ → List ℕ) → ℕ → List ℕ
stood_over s [] stood = stood
stood_over s (e ∷ es) stood = stood_over (next s e) es (stood_after s e.1 stood)

pub returns-append : (s : State ℕ) (last : Option Entry) (stood : ℕ → List ℕ) (xs ys : Log) → ReturnsFit s last stood xs → ReturnsFit (after s xs) (last_over last xs) (stood_over s xs stood) ys → ReturnsFit s last stood (xs ++ ys)
returns-append s last stood [] ys h k = k
returns-append s last stood (e ∷ xs) ys h k = (h.0, returns-append (next s e) (last_after last e) (stood_after s e.1 stood) xs ys h.1 k)

pub stood-append : (s : State ℕ) (xs ys : Log) (stood : ℕ → List ℕ) → stood_over s (xs ++ ys) stood ≡ stood_over (after s xs) ys (stood_over s xs stood)
stood-append s [] ys stood = refl
stood-append s (e ∷ xs) ys stood = stood-append (next s e) xs ys (stood_after s e.1 stood)

pub after-apart : (s : State ℕ) (xs ys : Log) → after s (xs ++ ys) ≡ after (after s xs) ys
after-apart s [] ys = refl
after-apart s (e ∷ xs) ys = after-apart (next s e) xs ys

abbrev pub AllKeep : Log → Type 0
AllKeep [] = Unit {0}
AllKeep (e ∷ es) = KeepsBatch e.1 × AllKeep es

pub keep-fits : (s : State ℕ) (last : Option Entry) (stood : ℕ → List ℕ) (log : Log) → AllKeep log → ReturnsFit s last stood log
keep-fits s last stood [] q = tt
keep-fits s last stood (e ∷ es) q = (kept-fits s last stood e.1 q.0, keep-fits (next s e) (last_after last e) (stood_after s e.1 stood) es q.1)

pub keep-stood : (P : ℕ → Type 0) (s : State ℕ) (stood : ℕ → List ℕ) (log : Log) → AllKeep log → StoodFor P s stood → StoodFor P (after s log) (stood_over s log stood)
keep-stood P s stood [] q h = h
keep-stood P s stood (e ∷ es) q h = keep-stood P (next s e) (stood_after s e.1 stood) es q.1 (next-stood P s e stood q.0 h)

pub stood-over-kept : (s : State ℕ) (log : Log) (stood : ℕ → List ℕ) → AllKeep log → stood_over s log stood ≡ stood
stood-over-kept s [] stood q = refl
stood-over-kept s (e ∷ es) stood q = ap (stood_over (next s e) es) (stood-kept s e.1 stood q.0) ∙ stood-over-kept (next s e) es stood q.1

pub keep-less : (s : State ℕ) (log : Log) (k : ℕ) → AllKeep log → Less (s.rows k).deferred ((after s log).rows k).deferred
keep-less s [] k q = less-same (s.rows k).deferred
keep-less s (e ∷ es) k q = less-join (s.rows k).deferred ((next s e).rows k).deferred ((after (next s e) es).rows k).deferred (next-less s e k q.0) (keep-less (next s e) es k q.1)

-- ---- a part of a log

-- where entries above ordinary code leave the batches, and those of ordinary code do so too
pub all-keep : (log : Log) → AllAbove KeepsBatch log → AllOf KeepsBatch (own_entries 0 log) → AllKeep log
all-keep [] q w = tt
all-keep (e ∷ es) q w = elim (eqb_tells e.0 0) [
  | inl y ↦
      let here : KeepsBatch e.1 × AllOf KeepsBatch (own_entries 0 es) = rw y.0 at w in
      (here.0, all-keep es q.1 here.1)
  | inr y ↦
      let rest : AllOf KeepsBatch (own_entries 0 es) = rw y.0 at w in
      (q.0 (above e.0 y.1), all-keep es q.1 rest)
]
  where
    above : (n : ℕ) → (n ≡ 0 → ⊥) → 0 < n
    above zero f = absurd (f refl)
    above (suc n) f = omega arith

-- what such a part says of returns, from some lists on, and what stood in Second of these classes behind it
pub record Says (P : ℕ → Type 0) (s : State ℕ) (last : Option Entry) (stood : ℕ → List ℕ) (part : Log) : Type 0 where
  pub fit : ReturnsFit s last stood part
  pub stands : StoodFor P (after s part) (stood_over s part stood)

abbrev pub ReturnsAt : State ℕ → Part → Type 0
ReturnsAt s Q = (last : Option Entry) (stood : ℕ → List ℕ) (part : Log) → AllName s part → AllAbove KeepsBatch part → Stood s stood → Q s part → Says Any s last stood part

abbrev pub ReturnsBy : Part → Type 0
ReturnsBy Q = (s : State ℕ) → ReturnsAt s Q

pub keeps-say : (Q : Part) → PartOf KeepsBatch 0 Q → ReturnsBy Q
keeps-say Q q s last stood part names above h d =
    let all = all-keep part above (q s part d) in
    record { fit = keep-fits s last stood part all; stands = keep-stood Any s stood part all h }

pub says-join : (P Q : ℕ → Type 0) (s : State ℕ) (last : Option Entry) (stood : ℕ → List ℕ) (xs ys : Log) → Says P s last stood xs → Says Q (after s xs) (last_over last xs) (stood_over s xs stood) ys → Says Q s last stood (xs ++ ys)
says-join P Q s last stood xs ys a b = record {
  fit = returns-append s last stood xs ys a.fit b.fit;
  stands = subst (λ t. StoodFor Q t (stood_over s (xs ++ ys) stood)) (sym (after-apart s xs ys)) (subst (StoodFor Q (after (after s xs) ys)) (sym (stood-append s xs ys stood)) b.stands);
}

pub then-at : (s : State ℕ) (Q R : Part) → ReturnsAt s Q → ReturnsBy R → ReturnsAt s (Then Q R)
then-at s Q R f g last stood part names above h d =
    let names' : AllName s (d.one ++ d.two) = subst (AllName s) d.part_is names in
    let above' : AllAbove KeepsBatch (d.one ++ d.two) = subst (AllAbove KeepsBatch) d.part_is above in
    let a = f last stood d.one (AllName-front s d.one d.two names') (above-front KeepsBatch d.one d.two above') h d.is_first in
    let b = g (after s d.one) (last_over last d.one) (stood_over s d.one stood) d.two (AllName-back s d.one d.two names') (above-back KeepsBatch d.one d.two above') a.stands d.is_second in
    subst (Says Any s last stood) (sym d.part_is) (says-join Any Any s last stood d.one d.two a b)

pub nothing-at : (s : State ℕ) → ReturnsAt s Nothing
nothing-at s last stood part names above h d = subst (Says Any s last stood) (sym d) (record { fit = tt; stands = h })

pub returns-laws : Laws ReturnsBy
returns-laws = record {
  nothing = nothing-at;
  both = λ Q R f g s. then-at s Q R (f s) g;
  cases = λ A Q R f g s last stood part names above h d. let x = g s part d in f x.0 s last stood part names above h x.1;
}
