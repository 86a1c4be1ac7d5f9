-- Fronts and whole logs with handlers.
use Rattle.std.proofs.Common.{◌≡◌, ◌<◌, ℕ, zero, suc, true, false, List, [], ◌∷◌, ◌++◌, None, refl, sym, ap, subst, ◌∙◌, inl, inr, arith}
use Rattle.std.specs.List.{list_any}
use Rattle.std.proofs.lemmas.Bool.{and_from}
use Rattle.std.proofs.lemmas.Bool.Decides.{eqb_tells}
use Rattle.bm_journal.specs.declared.entry.Entry.{Entry}
use Rattle.bm_journal.specs.declared.entry.Entry.TheVariants as entry
use Rattle.bm_lang.specs.declared.scenario.Parts.{Parts}
use Rattle.bm_law.specs.Lists.{Leaves, Log, after, brought, next}
use Rattle.bm_law.specs.Null.{Asked, Nothing, NullLaw, RepliesFit, all_apart, is_apart}
use Rattle.bm_law.specs.Spans.{own_entries}
use Rattle.bm_law.specs.State.{State, opening}
use Rattle.bm_law.proofs.Null.{pops-fit, replies-append}
use Rattle.bm_law.proofs.Spans.{own-append}
use Rattle.bm_law_work.specs.Parts.{Part, Nothing as Nothing_part, Stand, Then}
use Rattle.bm_law_work.proofs.Each.{AllOf}
use Rattle.bm_due.specs.Standing.{HandlersStand}
use Rattle.bm_law_scenario.specs.Closing.{AreSweeps, Closing, Empties, EndsPeriods, close_of}
use Rattle.bm_law_scenario.specs.Declared.{declared_in}
use Rattle.bm_law_scenario.specs.Grammar.{Front, IsLog}
use Rattle.bm_law_scenario.specs.Handlers.{HandlersDone}
use Rattle.bm_law_scenario.specs.Opened.{opened_classes, uses_class}
use Rattle.bm_law_scenario.proofs.EachLevel.{AllAbove, Framed, each-above, handlers-have}
use Rattle.bm_law_scenario.proofs.Levels.{levels}
use Rattle.bm_law_scenario.proofs.Spares.{AllSpare, Spares}
use Rattle.bm_law_logs.specs.ClosingEntries.{IsOfClosing}
use Rattle.bm_law_logs.specs.Owed.{AllReplied}
use Rattle.bm_law_scenario.proofs.BlockLaws.{law-empties}
use Rattle.bm_law_scenario.proofs.FrontLaws.{front-has, written}
use Rattle.bm_law_scenario.proofs.PartLaws.{Has, Laws, has-laws, has-stand}
use Rattle.bm_law_scenario.proofs.RunsAll.{Closed}
use Rattle.bm_law_logs.proofs.OfClosing.{closing-writes}
use Rattle.bm_law_logs.proofs.Replied.{apart, replied}
use Rattle.bm_law_logs.proofs.Spared.{spared}

-- a level is that of ordinary code, or above it
above-zero : (n : ℕ) → (n ≡ 0 → ⊥) → 0 < n
above-zero zero f = absurd (f refl)
above-zero (suc n) f = omega arith

-- ---- the caches of classes that no type uses

frame-spared : (s : Parts) (c : ℕ) → list_any (uses_class c) s.types ≡ false → Framed s (AllSpare c)
frame-spared s c e = record {
  closed = (spared s c e).closed;
  begins = λ name. (λ l us t. refl, tt);
  ends = λ name. (λ l us t. refl, tt);
}

each-spares : (c : ℕ) (es : List Entry) → AllSpare c es → AllOf (Spares c) es
each-spares c [] h = tt
each-spares c (e ∷ es) h = (h.0, each-spares c es h.1)

rows-all : (c : ℕ) (log : Log) (s : State ℕ) → AllSpare c (own_entries 0 log) → AllAbove (Spares c) log → (after s log).rows c ≡ s.rows c
rows-all c [] s h k = refl
rows-all c (e ∷ es) s h k = elim (eqb_tells e.0 0) [
  | inl y ↦
      let g : Spares c e.1 × AllSpare c (own_entries 0 es) = rw y.0 at h in
      rows-all c es (next s e) g.1 k.1 ∙ g.0 e.0 (brought e.1 s) s
  | inr y ↦
      let g : AllSpare c (own_entries 0 es) = rw y.0 at h in
      rows-all c es (next s e) g k.1 ∙ k.0 (above-zero e.0 y.1) e.0 (brought e.1 s) s
]

pub rows-handled : (s : Parts) (p : ℕ) (front : Log) → HandlersStand s p front → HandlersDone s p front → Front s p (opening p) front → (c : ℕ) → list_any (uses_class c) s.types ≡ false → (after (opening p) front).rows c ≡ (opening p).rows c
rows-handled s p front stand done f c e =
    let above : AllAbove (Spares c) front = each-above (Spares c) front (λ l up. each-spares c (own_entries l front) (handlers-have s (AllSpare c) (frame-spared s c e) (own_entries l front) (levels s p front stand done l up))) in
    rows-all c front (opening p) (front-has s (AllSpare c) (spared s c e) p (opening p) front f) above

-- ---- replies

frame-replied : (s : Parts) → Framed s AllReplied
frame-replied s = record {
  closed = (replied s).closed;
  begins = λ name. record { replies = (tt, tt); owed = refl };
  ends = λ name. record { replies = (tt, tt); owed = refl };
}

pub replies-handled : (s : Parts) (p : ℕ) (log : Log) → HandlersStand s p log → HandlersDone s p log → (l : ℕ) → 0 < l → AllReplied (own_entries l log)
replies-handled s p log stand done l up = handlers-have s AllReplied (frame-replied s) (own_entries l log) (levels s p log stand done l up)

closing-apart : (e : Entry) → IsOfClosing e → is_apart e ≡ true
closing-apart (entry.New name values) h = absurd h
closing-apart (entry.Given u life) h = absurd h
closing-apart (entry.GivenAfter u life stamp seen) h = absurd h
closing-apart entry.Empty h = absurd h
closing-apart (entry.Busy n) h = absurd h
closing-apart _ h = refl

closes-apart : (es : List Entry) → AllOf IsOfClosing es → all_apart es ≡ true
closes-apart [] h = refl
closes-apart (e ∷ es) h = and_from (is_apart e) (all_apart es) (closing-apart e h.0) (closes-apart es h.1)

close-replied : (p : ℕ) → AllReplied (entry.Ended ∷ close_of p)
close-replied zero = apart (entry.Ended ∷ entry.Close ∷ []) refl
close-replied (suc p) = apart (entry.Ended ∷ []) refl

-- so does the closing
closing-replied : (s : Parts) (p : ℕ) (front : Log) → Has AllReplied (Closing (declared_in s) p (opened_classes s.types) front)
closing-replied s p front =
    let classes : List ℕ = opened_classes s.types in
    let closed : Closed (declared_in s) AllReplied = (replied s).closed in
    let laws : Laws (Has AllReplied) = has-laws AllReplied (record { none = closed.none; join = closed.join }) in
    let rest : Part = Then (EndsPeriods front) (AreSweeps classes) in
    let empties : Part = Empties p (declared_in s) in
    laws.both (Stand 0 (entry.Ended ∷ close_of p)) (Then empties rest) (has-stand AllReplied (entry.Ended ∷ close_of p) (close-replied p))
    (laws.both empties rest
    (law-empties (declared_in s) (Has AllReplied) laws (written s AllReplied (replied s)).calls Nothing_part laws.nothing (λ slot was by. has-stand AllReplied (entry.Xchg slot None was by ∷ []) (apart (entry.Xchg slot None was by ∷ []) refl)) p)
    (λ t part h. apart (own_entries 0 part) (closes-apart (own_entries 0 part) (closing-writes classes front t part h))))

ordinary-replies : (s : Parts) (p : ℕ) (log : Log) → IsLog s p log → RepliesFit Nothing (own_entries 0 log)
ordinary-replies s p log i =
    let front : AllReplied (own_entries 0 i.front) = front-has s AllReplied (replied s) p (opening p) i.front i.is_front in
    let closing : AllReplied (own_entries 0 i.closing) = closing-replied s p i.front (after (opening p) i.front) i.closing i.is_closing in
    let parts : own_entries 0 log ≡ own_entries 0 i.front ++ own_entries 0 i.closing = ap (own_entries 0) i.log_is ∙ own-append 0 i.front i.closing in
    subst (λ (es : List Entry). RepliesFit Nothing es) (sym parts) (replies-append Nothing (own_entries 0 i.front) (own_entries 0 i.closing) front.replies (subst (λ (k : Asked). RepliesFit k (own_entries 0 i.closing)) (sym front.owed) closing.replies))

pub null-handled : (s : Parts) (p : ℕ) (log : Log) (last : State ℕ) → HandlersStand s p log → HandlersDone s p log → IsLog s p log → Leaves p log last → NullLaw p log
null-handled s p log last stand done i leaves = record {
  pops = pops-fit (opening p) log leaves.named;
  replies = at_level;
}
  where
    at_level : (l : ℕ) → RepliesFit Nothing (own_entries l log)
    at_level zero = ordinary-replies s p log i
    at_level (suc l) = (replies-handled s p log stand done (suc l) (omega arith)).replies
