-- What a lawful journal of a worked scenario tells of its one log.
use Rattle.std.proofs.Common.{◌≡◌, ℕ, zero, suc, List, [], ◌∷◌, ◌++◌, Option, Some, None, refl, sym, ap, subst, ◌∙◌, append_assoc, append-nil, codes, map, slice_get, true, ◌+◌, nat_eq, eqb-true}
use Rattle.std.proofs.lemmas.Bool.{and_parts}
use Rattle.bm_class.specs.Sizes.{class_of_size}
use Rattle.bm_journal.specs.declared.ids.Domain.TheVariants.{Plain}
use Rattle.bm_journal.specs.declared.units.Units.TheVariants.{Whole}
use Rattle.bm_journal.specs.declared.entry.Entry.{Entry}
use Rattle.bm_journal.specs.declared.entry.Entry.TheVariants as entry
use Rattle.bm_lang.specs.declared.scenario.Block.{Block}
use Rattle.bm_lang.specs.declared.scenario.Parts.{Parts}
use Rattle.bm_lang.specs.declared.scenario.Script.{Script}
use Rattle.bm_law.specs.State.{State, seven_lists}
use Rattle.bm_law.specs.Lists.{Log, Leaves, lists_of}
use Rattle.bm_law.proofs.Agree.{lists-leaves}
use Rattle.bm_law_scenario.specs.Declared.{unmapped}
use Rattle.bm_law_scenario.specs.Held.{Names, no_names, OwnsNothing}
use Rattle.bm_law_scenario.proofs.OwnRuns.{RunsBlock}
use Rattle.bm_page.specs.Stock.{fetched}
use Rattle.bm_law_scenario.specs.Fills.{fresh_stock, numbers_of, prefill}
use Rattle.bm_law_scenario.specs.Lawful as lawful
use Rattle.bm_law.specs.Ordinary.{ordinary}
use Rattle.bm_law_scenario.proofs.OwnGrammar.{IsLog, IsScript, LawfulLog, Swept}
use Rattle.bm_law_lives.specs.SectionWords.{SectionWords, word_fits, word_next, words_fit}
use Rattle.bm_law_scenario.specs.WorkedJournal.{types, scenario_of, script_of}

-- its entries
abbrev pub entries_of : Log → List Entry
entries_of log = map (λ (e : ℕ × Entry). e.1) log

of-ordinary : (own : List Entry) → entries_of (ordinary own) ≡ own
of-ordinary [] = refl
of-ordinary (e ∷ own) = ap (λ v. e ∷ v) (of-ordinary own)

-- a log whose entries don't all name what is there
pub unlisted : (s : Parts) (log : Log) → lists_of 0 log ≡ None → LawfulLog s 0 log → ⊥
unlisted s log e h = apart e (lists-leaves 0 log h.last h.lists)
  where
    apart : {A : Type 0} {a : Option A} {b : A} → a ≡ None → a ≡ Some b → ⊥
    apart e f = cc

-- the log of one plain script with this body: what its block left, and what stands behind that
pub record IsMade (body : Block) (own : List Entry) : Type 0 where
  pub units : List ℕ
  pub part : List Entry
  pub after : Names
  pub sweeps : List Entry
  pub own_is : own ≡ entry.Fill 0 (Whole units) ∷ entry.Script (codes "main") ∷ entry.In Plain 1 ∷ part ++ entry.Out Plain 2 ∷ entry.Done (codes "main") ∷ entry.Ended ∷ entry.Close ∷ sweeps
  pub runs : RunsBlock (unmapped types) true body no_names part after
  pub owns_nothing : (x : List ℕ) → OwnsNothing (after x)
  pub before : State ℕ
  pub before_is : Leaves 0 (ordinary (entry.Fill 0 (Whole units) ∷ entry.Script (codes "main") ∷ entry.In Plain 1 ∷ part ++ entry.Out Plain 2 ∷ entry.Done (codes "main") ∷ [])) before
  pub are_sweeps : Swept 0 (seven_lists (before.rows 0)) (λ v. v ≡ []) sweeps

joined : (a b c d e f g : Entry) (v w : List Entry) → (a ∷ []) ++ (((b ∷ c ∷ v ++ d ∷ e ∷ []) ++ []) ++ (f ∷ g ∷ w)) ≡ a ∷ b ∷ c ∷ v ++ d ∷ e ∷ f ∷ g ∷ w
joined a b c d e f g v w = simp append_assoc

pub same-script : {a b : Script} → Some a ≡ Some b → a ≡ b
same-script e = cc

-- the first section of a script that runs first has word 1
pub first-word : (w : ℕ) (fill script : Entry) (own rest : List Entry) → word_next Plain 0 fill ≡ 0 → word_next Plain 0 script ≡ 0 → own ≡ fill ∷ script ∷ entry.In Plain w ∷ rest → SectionWords (ordinary own) → w ≡ 1
first-word w fill script own rest f g e h =
    let one = and_parts (word_fits Plain 0 fill) (words_fit Plain (word_next Plain 0 fill) (ordinary (script ∷ entry.In Plain w ∷ rest))) (subst (λ es. words_fit Plain 0 (ordinary es) ≡ true) e (h Plain)) in
    let two = and_parts (word_fits Plain 0 script) (words_fit Plain (word_next Plain 0 script) (ordinary (entry.In Plain w ∷ rest))) (subst (λ n. words_fit Plain n (ordinary (script ∷ entry.In Plain w ∷ rest)) ≡ true) f one.1) in
    let three = and_parts (nat_eq w 1) (words_fit Plain w (ordinary rest)) (subst (λ n. words_fit Plain n (ordinary (entry.In Plain w ∷ rest)) ≡ true) g two.1) in
    eqb-true w 1 three.0

made-of : (pages : ℕ) (body : Block) (own : List Entry) → IsLog (scenario_of pages body) 0 own → SectionWords (ordinary own) → IsMade body own
unfolding class_of_size
made-of pages body own h words =
    let opened : List ℕ = numbers_of (fetched 0 (prefill 0) (fresh_stock pages)).units in
    let f : (rest : List Entry) × (h.fills ≡ entry.Fill 0 (Whole opened) ∷ rest) × (rest ≡ []) = h.are_fills in
    let r = h.are_scripts in
    let P : Script → Type 0 = λ s. IsScript (scenario_of pages body) s r.2.0 r.2.1 in
    let k0 = subst P (sym (same-script r.1)) r.2.4 in
    let front : h.fills ≡ entry.Fill 0 (Whole opened) ∷ [] = f.1 ∙ ap (λ v. entry.Fill 0 (Whole opened) ∷ v) f.2 in
    let behind : List Entry = entry.Ended ∷ entry.Close ∷ h.sweeps in
    let inside : List Entry = k0.part ++ entry.Out Plain (r.2.0 + 1) ∷ entry.Done (codes "main") ∷ [] in
    let begins : own ≡ entry.Fill 0 (Whole opened) ∷ entry.Script (codes "main") ∷ entry.In Plain r.2.0 ∷ ((inside ++ r.2.2) ++ behind) =
    h.own_is ∙ ap (λ v. v ++ (h.scripts ++ behind)) front ∙ ap (λ v. (entry.Fill 0 (Whole opened) ∷ []) ++ (v ++ behind)) (r.2.3 ∙ ap (λ v. v ++ r.2.2) k0.own_is) in
    let word : r.2.0 ≡ 1 = first-word r.2.0 (entry.Fill 0 (Whole opened)) (entry.Script (codes "main")) own ((inside ++ r.2.2) ++ behind) refl refl begins words in
    let W : ℕ → Type 0 = λ n. IsScript (scenario_of pages body) (script_of 6 (codes "main") body) n r.2.1 in
    let k : IsScript (scenario_of pages body) (script_of 6 (codes "main") body) 1 r.2.1 = subst W word k0 in
    let ran : List Entry = entry.Script (codes "main") ∷ entry.In Plain 1 ∷ k.part ++ entry.Out Plain 2 ∷ entry.Done (codes "main") ∷ [] in
    let script : h.scripts ≡ ran ++ [] = r.2.3 ∙ ap (λ v. r.2.1 ++ v) r.2.5 ∙ ap (λ v. v ++ []) k.own_is in
    record {
      units = opened;
      part = k.part;
      after = k.after;
      sweeps = h.sweeps;
      own_is = h.own_is ∙ ap (λ v. v ++ (h.scripts ++ (entry.Ended ∷ entry.Close ∷ h.sweeps))) front ∙ ap (λ v. (entry.Fill 0 (Whole opened) ∷ []) ++ (v ++ (entry.Ended ∷ entry.Close ∷ h.sweeps))) script
          ∙ joined (entry.Fill 0 (Whole opened)) (entry.Script (codes "main")) (entry.In Plain 1) (entry.Out Plain 2) (entry.Done (codes "main")) entry.Ended entry.Close k.part h.sweeps;
      runs = k.runs;
      owns_nothing = k.owns_nothing;
      before = h.before;
      before_is = subst (λ v. Leaves 0 (ordinary v) h.before) (ap (λ v. v ++ h.scripts) front ∙ ap (λ v. entry.Fill 0 (Whole opened) ∷ v) (script ∙ append-nil ran)) h.before_is;
      are_sweeps = h.are_sweeps;
    }

-- the entries of a lawful log are those that it is made of
pub own-is : (s : Parts) (p : ℕ) (log : Log) (h : LawfulLog s p log) → h.own ≡ entries_of log
own-is s p log h = sym (of-ordinary h.own) ∙ ap entries_of (sym h.log_is)

pub log-made : (pages : ℕ) (body : Block) (log : Log) → LawfulLog (scenario_of pages body) 0 log → IsMade body (entries_of log)
log-made pages body log h =
    let same = own-is (scenario_of pages body) 0 log h in
    made-of pages body (entries_of log) (subst (IsLog (scenario_of pages body) 0) same h.is_log) (subst SectionWords (h.log_is ∙ ap ordinary same) h.words)

none-some : {A X : Type 0} {a : A} → None ≡ Some a → X
none-some e = absurd (cc)

same-log : {a b : Log} → Some a ≡ Some b → a ≡ b
same-log e = cc

-- one log is the only one
pub one-log : (s : Parts) (log : Log) → lawful.LawfulLog s 0 log → (p : ℕ) (other : Log) → slice_get (log ∷ []) p ≡ Some other → lawful.LawfulLog s p other
one-log s log h zero other e = subst (lawful.LawfulLog s 0) (same-log e) h
one-log s log h (suc p) other e = none-some e
