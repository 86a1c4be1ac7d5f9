-- What a turn adds to its processor's log is its piece: handlers go back before the turn ends, and yield nowhere.
use Rattle.std.specs.Prelude.{not, ◌&&◌, if◌then◌else◌, nat_eq, is_none}
use Rattle.std.proofs.Common.{◌≡◌, ◌⊎◌, ◌+◌, ℕ, Bool, true, false, List, [], ◌∷◌, ◌++◌, Option, Some, None, refl, sym, ◌∙◌, ap, subst, inl, inr, append_assoc}
use Rattle.std.proofs.lemmas.Bool.Decides.{eqb_tells}
use Rattle.std.proofs.lemmas.List.{append_cancel_left, same_from_push}
use Rattle.bm_journal.specs.declared.entry.Entry.{Entry}
use Rattle.bm_journal.specs.declared.entry.Entry.TheVariants as entry
use Rattle.bm_lang.specs.declared.scenario.AtLine.{AtLine}
use Rattle.bm_lang.specs.declared.scenario.Parts.{Parts}
use Rattle.bm_check.specs.Scripts.{AllAccepted}
use Rattle.bm_law.specs.Lists.{Log}
use Rattle.bm_law.specs.Spans.{own_entries}
use Rattle.bm_law.proofs.Spans.{own-append}
use Rattle.bm_due.specs.Standing.{Begins, Ends, HandlersStand, Kind, Returns, Standing, Stays, Steps, after_kind, due_in, is_called, is_nobody, is_ordinary, kind_of, left_in, level_of, standing_after, begun, returned, stopped}
use Rattle.bm_law_scenario.specs.Handlers.{HandlersDone}
use Rattle.bm_law_scenario.proofs.EachLevel.{AllAbove, above-back, above-front}
use Rattle.bm_exec.specs.Yields.{IsInTurn, AllInTurn, Unyielding, YieldsLast}
use Rattle.bm_run.specs.InTurns.{IsPiece}
use Rattle.bm_run.proofs.HandlersYieldNot.{handlers-yield-not}
use Rattle.bm_run.proofs.PiecesKnown.{stopped-piece}

-- ---- the last entry of a log in which each handler has gone back

both-true : (a b : Bool) → (a && b) ≡ true → (a ≡ true) × (b ≡ true)
both-true true b e = (refl, e)
both-true false b e = absurd (cc)

nobody-level : (running : List AtLine) → is_nobody running ≡ true → level_of running ≡ 0
nobody-level [] e = refl
nobody-level (line ∷ lines) e = absurd (cc)

same-level : (a b : ℕ) → nat_eq a b ≡ true → a ≡ b
same-level a b e = elim (eqb_tells a b) [
  | inl y ↦ y.1
  | inr y ↦ absurd (apart (sym e ∙ y.0))
]
  where
    apart : true ≡ false → ⊥
    apart e = cc

-- an entry of the code that runs
level-ordinary : (l : ℕ) (may : Bool) (t : Standing) (b : Bool) → (nat_eq l (level_of t.running) && may) ≡ b → is_ordinary (if b then Some t else None) ≡ true → l ≡ 0
level-ordinary l may t false e h = absurd (cc)
level-ordinary l may t true e h =
    same-level l (level_of t.running) (both-true (nat_eq l (level_of t.running)) may e).0 ∙ nobody-level t.running (both-true (is_nobody t.running) (not t.resumes) h).0

module _ (names : List (List ℕ)) where
  -- a handler's begin is not the last one
  begun-ordinary : (l : ℕ) (name : List ℕ) (due : Option AtLine) (s : Standing) → is_ordinary (begun names l name due s) ≡ true → ⊥
  begun-ordinary l name None s h = cc
  begun-ordinary l name (Some line) s h = by-name (is_called names l name line) h
    where
      by-name : (b : Bool) → is_ordinary (if b then Some (record s { running = line ∷ s.running; left = left_in s; resumes = false }) else None) ≡ true → ⊥
      by-name true k = cc
      by-name false k = cc

  -- nor is its end
  returned-ordinary : (l : ℕ) (name : List ℕ) (running : List AtLine) (s : Standing) → is_ordinary (returned names l name running s) ≡ true → ⊥
  returned-ordinary l name [] s h = cc
  returned-ordinary l name (line ∷ lines) s h = by-name (is_called names l name line && not s.resumes) h
    where
      resumed : (b : Bool) → (b && false) ≡ true → ⊥
      resumed true k = cc
      resumed false k = cc

      by-name : (b : Bool) → is_ordinary (if b then Some (record s { running = lines; resumes = true }) else None) ≡ true → ⊥
      by-name true k = resumed (is_nobody lines) k
      by-name false k = cc

  stopped-ordinary : (l : ℕ) (running : List AtLine) (s : Standing) → is_ordinary (stopped l running s) ≡ true → l ≡ 0
  stopped-ordinary l [] s h = by-test (nat_eq l 0 && not s.resumes) refl h
    where
      by-test : (b : Bool) → (nat_eq l 0 && not s.resumes) ≡ b → is_ordinary (if b then Some (record s { ended = true }) else None) ≡ true → l ≡ 0
      by-test true e k = same-level l 0 (both-true (nat_eq l 0) (not s.resumes) e).0
      by-test false e k = absurd (cc)
  stopped-ordinary l (line ∷ lines) s h = absurd (cc)

  kind-ordinary : (l : ℕ) (k : Kind) (s : Standing) → is_ordinary (after_kind names l k s) ≡ true → l ≡ 0
  kind-ordinary l (Begins name) s h = absurd (begun-ordinary l name (due_in s) s h)
  kind-ordinary l (Returns name) s h = absurd (returned-ordinary l name s.running s h)
  kind-ordinary l Ends s h = stopped-ordinary l s.running s h
  kind-ordinary l Steps s h = level-ordinary l (is_none (due_in s)) (record s { steps = s.steps + 1; resumes = false }) _ refl h
  kind-ordinary l Stays s h = level-ordinary l (not s.resumes) s _ refl h

  last-level : (front : Log) (e : ℕ × Entry) (s : Option Standing) → is_ordinary (standing_after names (front ++ e ∷ []) s) ≡ true → e.0 ≡ 0
  last-level [] e None h = absurd (cc)
  last-level [] e (Some s) h = kind-ordinary e.0 (kind_of e.1) s h
  last-level (x ∷ front) e None h = absurd (cc)
  last-level (x ∷ front) e (Some s) h = last-level front e (after_kind names x.0 (kind_of x.1) s) h

pub last-ordinary : (s : Parts) (p : ℕ) (front : Log) (e : ℕ × Entry) → HandlersStand s p (front ++ e ∷ []) → e.0 ≡ 0
last-ordinary s p front e h = last-level _ front e _ h

-- ---- what a turn adds

some-last : (log : Log) → (log ≡ []) ⊎ ((front : Log) × (e : ℕ × Entry) × (log ≡ front ++ e ∷ []))
some-last [] = inl refl
some-last (x ∷ log) = elim (some-last log) [
  | inl none ↦ inr ([], x, ap (λ z. x ∷ z) none)
  | inr some ↦ inr (x ∷ some.0, some.1, ap (λ z. x ∷ z) some.2)
]

-- It ends with the last of its entries of ordinary code, where each handler has gone back by then.
pub turn-last : (s : Parts) (p : ℕ) (since added : Log) (own : List Entry) (e : Entry) → HandlersStand s p (since ++ added) → own_entries 0 added ≡ own ++ e ∷ [] → (front : Log) × (added ≡ front ++ (0, e) ∷ []) × (own_entries 0 front ≡ own)
turn-last s p since added own e stand own_is = elim (some-last added) [
  | inl none ↦ absurd (empty own (sym (ap (own_entries 0) none) ∙ own_is))
  | inr some ↦ found some.0 some.1.0 some.1.1 some.2
]
  where
    empty : (v : List Entry) → [] ≡ v ++ e ∷ [] → ⊥
    empty [] k = cc
    empty (x ∷ v) k = cc

    found : (front : Log) (l : ℕ) (x : Entry) → added ≡ front ++ (l, x) ∷ [] → (front : Log) × (added ≡ front ++ (0, e) ∷ []) × (own_entries 0 front ≡ own)
    found front l x is =
        let level : l ≡ 0 = last-ordinary s p (since ++ front) (l, x) (subst (HandlersStand s p) (ap (λ z. since ++ z) is ∙ sym (append_assoc since front ((l, x) ∷ []))) stand) in
        let there : added ≡ front ++ (0, x) ∷ [] = is ∙ ap (λ z. front ++ (z, x) ∷ []) level in
        let same = same_from_push (own_entries 0 front) own x e (sym (own-append 0 front ((0, x) ∷ [])) ∙ (sym (ap (own_entries 0) there) ∙ own_is)) in
        (front, there ∙ ap (λ z. front ++ (0, z) ∷ []) same.1, same.0)

same-rest : (since log added more : Log) → Some since ≡ Some log → log ++ more ≡ since ++ added → more ≡ added
same-rest since log added more e k = append_cancel_left since more added (ap (λ z. z ++ more) (same e) ∙ k)
  where
    same : Some since ≡ Some log → since ≡ log
    same q = cc

-- ---- turns

-- A turn that ends with a yield adds the piece of one.
pub yielded-turn : (s : Parts) (p : ℕ) (since added log : Log) → AllAccepted s → HandlersStand s p log → HandlersDone s p log → log ≡ since ++ added → YieldsLast 0 (Some since) (Some log) → IsPiece false added
yielded-turn s p since added log accepted stand done is t =
    let rest = same-rest since t.records.log added t.records.added t.records.told (sym t.records.now_is ∙ is) in
    let own : own_entries 0 added ≡ t.own ++ entry.Yield ∷ [] = ap (own_entries 0) (sym rest) ∙ t.records.owned in
    let last = turn-last s p since added t.own entry.Yield (subst (HandlersStand s p) is stand) own in
    let above : AllAbove IsInTurn (last.0 ++ (0, entry.Yield) ∷ []) = subst (AllAbove IsInTurn) last.1 (above-back IsInTurn since added (subst (AllAbove IsInTurn) is (handlers-yield-not s p log accepted stand done))) in
    subst (IsPiece false) (sym last.1) (stopped-piece false last.0 (subst AllInTurn (sym last.2) t.none) (above-front IsInTurn last.0 ((0, entry.Yield) ∷ []) above))

-- One that ends without a yield adds the piece of the processor's end, once its end is recorded.
pub ended-turn : (s : Parts) (p : ℕ) (since added log : Log) → AllAccepted s → HandlersStand s p log → HandlersDone s p log → log ≡ since ++ added → Unyielding 0 (Some since) (Some log) → IsPiece true (added ++ (0, entry.Ended) ∷ [])
ended-turn s p since added log accepted stand done is t =
    let rest = same-rest since t.records.log added t.records.added t.records.told (sym t.records.now_is ∙ is) in
    let own : own_entries 0 added ≡ t.own = ap (own_entries 0) (sym rest) ∙ t.records.owned in
    stopped-piece true added (subst AllInTurn (sym own) t.none) (above-back IsInTurn since added (subst (AllAbove IsInTurn) is (handlers-yield-not s p log accepted stand done)))
