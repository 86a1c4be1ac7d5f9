-- Handlers that have gone back left their phrases, entry by entry.
use Rattle.std.proofs.Common.{◌≡◌, inl, inr, ℕ, ◌+◌, true, false, if◌then◌else◌, List, [], ◌∷◌, ◌++◌, refl, sym, ap, subst, ◌∙◌, append_assoc}
use Rattle.std.proofs.lemmas.Bool.{and_from, and_parts, eq-eqb}
use Rattle.bm_journal.specs.declared.ids.Domain.TheVariants.{Plain}
use Rattle.bm_journal.specs.declared.entry.Entry.{Entry}
use Rattle.bm_journal.specs.declared.entry.Entry.TheVariants as entry
use Rattle.bm_lang.specs.declared.scenario.Parts.{Parts}
use Rattle.bm_law.specs.Lists.{Log}
use Rattle.bm_law.specs.Spans.{own_entries}
use Rattle.bm_law.proofs.Spans.{own-append}
use Rattle.bm_law_scenario.specs.Declared.{declared_in}
use Rattle.bm_law_scenario.specs.CallEntries.{IsOfStatement}
use Rattle.bm_law_scenario.specs.Held.{no_names}
use Rattle.bm_law_lives.specs.SectionWords.{is_outside, word_after}
use Rattle.bm_law_scenario.specs.Handlers.{Handled, HandlerPhrase, HandlersDone, RunsThere, all_within, enclosed, is_within}
use Rattle.bm_law_scenario.proofs.Cuts.{Before, cuts, last-cut}
use Rattle.bm_law_scenario.proofs.OfCall.{OfCalls, of-calls}
use Rattle.bm_law_scenario.proofs.RunsAll.{block-all}
use Rattle.bm_law_scenario.proofs.SameRuns.{alone-owned}

-- ---- entries of a handler's own

pub within-append : (v w : List Entry) → all_within v ≡ true → all_within w ≡ true → all_within (v ++ w) ≡ true
within-append [] w f g = g
within-append (e ∷ es) w f g =
    let p = and_parts (is_within e) (all_within es) f in
    and_from (is_within e) (all_within (es ++ w)) p.0 (within-append es w p.1 g)

within-back : (v w : List Entry) → all_within (v ++ w) ≡ true → all_within w ≡ true
within-back [] w f = f
within-back (e ∷ es) w f = within-back es w (and_parts (is_within e) (all_within (es ++ w)) f).1

call-within : (e : Entry) → IsOfStatement e → is_within e ≡ true
call-within (entry.New name values) h = refl
call-within (entry.Given u life) h = refl
call-within (entry.GivenAfter u life stamp seen) h = refl
call-within entry.Empty h = refl
call-within (entry.Busy a) h = refl
call-within (entry.Drop u life) h = refl
call-within (entry.Still k) h = refl
call-within entry.Last h = refl
call-within (entry.Acquire u life k) h = refl
call-within (entry.Get u life place value) h = refl
call-within (entry.Xchg name put was by) h = refl
call-within (entry.Lock name) h = refl
call-within (entry.Unlock name) h = refl
call-within (entry.PushFront name u life position) h = refl
call-within (entry.PushBack name u life position) h = refl
call-within (entry.Add name u life position) h = refl
call-within (entry.PushFrontAlready name u life owner position) h = refl
call-within (entry.PushBackAlready name u life owner position) h = refl
call-within (entry.AddAlready name u life owner position) h = refl
call-within (entry.PopFront name item position) h = refl
call-within (entry.PopBack name item position) h = refl
call-within (entry.First name item position) h = refl
call-within (entry.Remove name u life position) h = refl
call-within (entry.Free u home) h = refl
call-within (entry.Delay u home) h = refl
call-within (entry.Enter c a) h = refl
call-within (entry.Pop c u) h = refl
call-within (entry.PopNone c) h = refl
call-within (entry.Push c u) h = refl
call-within (entry.Count c k) h = refl
call-within (entry.Look c k) h = refl
call-within (entry.Put c u) h = refl
call-within (entry.Lost c) h = refl
call-within (entry.Delayed c u) h = refl
call-within (entry.LookDelayed c k) h = refl
call-within (entry.PutDelayed c u) h = refl
call-within (entry.LostDelayed c) h = refl
call-within (entry.Leave c a) h = refl
call-within (entry.Raise c) h = refl
call-within (entry.In d w) h = refl
call-within (entry.Out d w) h = refl
call-within entry.Yield h = refl
call-within _ h = absurd h

calls-within : (es : List Entry) → OfCalls es → all_within es ≡ true
calls-within [] h = refl
calls-within (e ∷ es) h = and_from (is_within e) (all_within es) (call-within e h.0) (calls-within es h.1)

enclosed-within : (w : ℕ) (part : List Entry) → all_within part ≡ true → all_within (enclosed w part) ≡ true
enclosed-within w part h = elim (is_outside w) as (λ b. all_within (if b then entry.In Plain (w + 1) ∷ part ++ entry.Out Plain (w + 2) ∷ [] else part) ≡ true) [
  | true ↦ within-append part (entry.Out Plain (w + 2) ∷ []) h refl
  | false ↦ h
]

pub phrase-calls : (s : Parts) (name : List ℕ) (w : ℕ) (own : List Entry) (h : HandlerPhrase s name w own) → OfCalls h.part
phrase-calls s name w own h = block-all (declared_in s) OfCalls (of-calls (declared_in s)) true h.script.body no_names h.part h.after (alone-owned (declared_in s) h.script.body no_names h.after h.part h.runs)

pub phrase-within : (s : Parts) (name : List ℕ) (w : ℕ) (own : List Entry) → HandlerPhrase s name w own → all_within own ≡ true
phrase-within s name w own h = subst (λ es. all_within es ≡ true) (sym h.own_is) (enclosed-within w h.part (calls-within h.part (phrase-calls s name w own h)))

-- ---- entry by entry

pub done-none : (s : Parts) (p : ℕ) → HandlersDone s p []
done-none s p h = absurd (empty (h.front ++ (h.level, entry.Handler h.name) ∷ h.part) (h.level, entry.Back h.back) h.rest h.log_is)
  where
    empty : (v : Log) (e : ℕ × Entry) (w : Log) → [] ≡ v ++ e ∷ w → ⊥
    empty [] e w q = cc
    empty (x ∷ v) e w q = cc

-- a handler of the log before is one of the log that has grown
pub done-front : (s : Parts) (p : ℕ) (one two : Log) → HandlersDone s p (one ++ two) → HandlersDone s p one
done-front s p one two done h =
    done (record {
      level = h.level;
      name = h.name;
      back = h.back;
      front = h.front;
      part = h.part;
      rest = h.rest ++ two;
      log_is = ap (λ z. z ++ two) h.log_is ∙ append_assoc (h.front ++ (h.level, entry.Handler h.name) ∷ h.part) ((h.level, entry.Back h.back) ∷ h.rest) two;
      within = h.within;
    })

-- a handler that went back before the last entry
done-before : (s : Parts) (p : ℕ) (log : Log) (b : ℕ × Entry) → HandlersDone s p log → (h : Handled (log ++ b ∷ [])) →
    Before log (h.front ++ (h.level, entry.Handler h.name) ∷ h.part) (h.level, entry.Back h.back) b h.rest → (h.back ≡ h.name) × HandlerPhrase s h.name (word_after Plain h.front) (own_entries h.level h.part) × RunsThere s p h.level h.name h.front h.part
done-before s p log b done h k =
    done (record {
      level = h.level;
      name = h.name;
      back = h.back;
      front = h.front;
      part = h.part;
      rest = k.more;
      log_is = k.log_is;
      within = h.within;
    })

-- an entry that ends no handler
pub done-grow : (s : Parts) (p : ℕ) (log : Log) (l : ℕ) (e : Entry) → ((name : List ℕ) → e ≡ entry.Back name → ⊥) → HandlersDone s p log → HandlersDone s p (log ++ (l, e) ∷ [])
done-grow s p log l e ne done h =
    elim (last-cut log (h.front ++ (h.level, entry.Handler h.name) ∷ h.part) h.rest (l, e) (h.level, entry.Back h.back) h.log_is) [
      | inl k ↦ absurd (ne h.back (entry-is k.same))
      | inr k ↦ done-before s p log (l, e) done h k
    ]
  where
    entry-is : {l k : ℕ} {e f : Entry} → ◌≡◌ {A = ℕ × Entry} (l, e) (k, f) → e ≡ f
    entry-is q = ap (λ (z : ℕ × Entry). z.1) q

-- The begin of the handler that ends now, found twice.
pub done-back : (s : Parts) (p : ℕ) (front part : Log) (l : ℕ) (name : List ℕ) → HandlersDone s p (front ++ (l, entry.Handler name) ∷ part) → HandlerPhrase s name (word_after Plain front) (own_entries l part) → RunsThere s p l name front part → HandlersDone s p (front ++ (l, entry.Handler name) ∷ part ++ (l, entry.Back name) ∷ [])
done-back s p front part l name done phrase runs = whole
  where
    log : Log
    log = front ++ (l, entry.Handler name) ∷ part

    same-level : {l k : ℕ} {v w : List ℕ} → ◌≡◌ {A = ℕ × Entry} (l, entry.Back v) (k, entry.Back w) → (l ≡ k) × (v ≡ w)
    same-level q = (ap (λ (z : ℕ × Entry). z.0) q, let n = ap (λ (z : ℕ × Entry). z.1) q in cc)

    same-name : {l k : ℕ} {v w : List ℕ} → ◌≡◌ {A = ℕ × Entry} (l, entry.Handler v) (k, entry.Handler w) → v ≡ w
    same-name q = let n = ap (λ (z : ℕ × Entry). z.1) q in cc

    -- no other handler of the level begins in between
    apart : (v w w' : Log) (k : ℕ) (x : List ℕ) → v ≡ w ++ (k, entry.Handler x) ∷ w' → all_within (own_entries k v) ≡ true → ⊥
    apart v w w' k x q h =
        let parts : own_entries k v ≡ own_entries k w ++ own_entries k ((k, entry.Handler x) ∷ w') = ap (own_entries k) q ∙ own-append k w ((k, entry.Handler x) ∷ w') in
        let last : all_within (own_entries k ((k, entry.Handler x) ∷ w')) ≡ true = within-back (own_entries k w) (own_entries k ((k, entry.Handler x) ∷ w')) (subst (λ es. all_within es ≡ true) parts h) in
        let at : own_entries k ((k, entry.Handler x) ∷ w') ≡ entry.Handler x ∷ own_entries k w' = rw (eq-eqb k k refl) refl in
        false-true (subst (λ es. all_within es ≡ true) at last)
      where
        false-true : false ≡ true → ⊥
        false-true q = cc

    found : (h : Handled (log ++ (l, entry.Back name) ∷ [])) → l ≡ h.level → name ≡ h.back → log ≡ h.front ++ (h.level, entry.Handler h.name) ∷ h.part → (h.back ≡ h.name) × HandlerPhrase s h.name (word_after Plain h.front) (own_entries h.level h.part) × RunsThere s p h.level h.name h.front h.part
    found h e f q =
        let here : all_within (own_entries l h.part) ≡ true = subst (λ k. all_within (own_entries k h.part) ≡ true) (sym e) h.within in
        let q' : log ≡ h.front ++ (l, entry.Handler h.name) ∷ h.part = subst (λ k. log ≡ h.front ++ (k, entry.Handler h.name) ∷ h.part) (sym e) q in
        elim (cuts front part h.front h.part (l, entry.Handler name) (l, entry.Handler h.name) q') [
          | inl k ↦
              let n : name ≡ h.name = same-name k.at in
              let left : HandlerPhrase s h.name (word_after Plain h.front) (own_entries l h.part) =
              subst (λ v. HandlerPhrase s h.name (word_after Plain h.front) (own_entries l v)) k.rest (subst (λ v. HandlerPhrase s h.name (word_after Plain v) (own_entries l part)) k.front (subst (λ x. HandlerPhrase s x (word_after Plain front) (own_entries l part)) n phrase)) in
              let ran : RunsThere s p l h.name h.front h.part =
              subst (λ v. RunsThere s p l h.name h.front v) k.rest (subst (λ v. RunsThere s p l h.name v part) k.front (subst (λ x. RunsThere s p l x front part) n runs)) in
              (sym f ∙ n, subst (λ k. HandlerPhrase s h.name (word_after Plain h.front) (own_entries k h.part)) e left, subst (λ k. RunsThere s p k h.name h.front h.part) e ran)
          | inr (inl k) ↦ absurd (apart part k.between h.part l h.name k.rest_is (phrase-within s name (word_after Plain front) (own_entries l part) phrase))
          | inr (inr k) ↦ absurd (apart h.part k.between part l name k.rest_is here)
        ]

    whole : HandlersDone s p (log ++ (l, entry.Back name) ∷ [])
    whole h =
        elim (last-cut log (h.front ++ (h.level, entry.Handler h.name) ∷ h.part) h.rest (l, entry.Back name) (h.level, entry.Back h.back) h.log_is) [
          | inl k ↦ let q = same-level k.same in found h q.0 q.1 k.log_is
          | inr k ↦ done-before s p log (l, entry.Back name) done h k
        ]
