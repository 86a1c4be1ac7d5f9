-- The wrong journals with sections are not lawful: what stands in a lawful one is known to the last entry.
use Rattle.std.proofs.Common.{IsTrue, ◌≡◌, ℕ, ◌+◌, List, [], ◌∷◌, ◌++◌, refl, sym, ap, subst, ◌∙◌, codes}
use Rattle.bm_journal.specs.declared.ids.Domain.{Domain}
use Rattle.bm_journal.specs.declared.ids.Domain.TheVariants.{Plain, Tracing}
use Rattle.bm_journal.specs.declared.entry.Entry.{Entry}
use Rattle.bm_journal.specs.declared.entry.Entry.TheVariants as entry
use Rattle.bm_journal.specs.WellFormed.{are_whole}
use Rattle.bm_lang.specs.declared.scenario.Script.{Script}
use Rattle.bm_law.specs.Lists.{Log}
use Rattle.bm_law_scenario.specs.Lawful.{LawfulLogs}
use Rattle.bm_law_scenario.specs.WorkedSections.{asleep, asleep_log, awake, awake_log, no_section, one_yield, open_section, stepless, two_sections, wide_section}
use Rattle.bm_law_scenario.proofs.OwnGrammar.{IsLog, IsScript}
use Rattle.bm_law_scenario.proofs.SameLogs.{owned-log}
use Rattle.bm_law_scenario.proofs.Slept.{asleep-only, awake-only, slept}
use Rattle.bm_law_scenario.proofs.Told.{entries_of, own-is, same-script}

-- the entries of one script, in the section of this domain whose word is w, of which these are its block's
abbrev Scripted : Domain → ℕ → List Entry → List Entry → List Entry
Scripted d w part rest = entry.Script (codes "main") ∷ entry.In d w ∷ part ++ entry.Out d (w + 1) ∷ entry.Done (codes "main") ∷ rest

-- a log of the sleepable script
record IsAsleep (own : List Entry) : Type 0 where
  outer : ℕ
  word : ℕ
  sweeps : List Entry
  own_is : own ≡ Scripted Tracing outer (slept word) (entry.Ended ∷ entry.Close ∷ sweeps)

asleep-of : (own : List Entry) → IsLog asleep 0 own → IsAsleep own
asleep-of own h =
    let r = h.are_scripts in
    let P : Script → Type 0 = λ s. IsScript asleep s r.2.0 r.2.1 in
    let k = subst P (sym (same-script r.1)) r.2.4 in
    let b = asleep-only _ k.after k.part k.runs in
    let behind : List Entry = entry.Ended ∷ entry.Close ∷ h.sweeps in
    let script : h.scripts ≡ Scripted Tracing r.2.0 (slept b.0) [] ++ [] = r.2.3 ∙ ap (λ v. r.2.1 ++ v) r.2.5 ∙ ap (λ v. v ++ []) (k.own_is ∙ ap (λ v. Scripted Tracing r.2.0 v []) b.1) in
    record { outer = r.2.0; word = b.0; sweeps = h.sweeps; own_is = h.own_is ∙ ap (λ v. v ++ (h.scripts ++ behind)) h.are_fills ∙ ap (λ v. v ++ behind) script }

-- a log of the plain script
record IsAwake (own : List Entry) : Type 0 where
  outer : ℕ
  sweeps : List Entry
  own_is : own ≡ Scripted Plain outer (entry.Yield ∷ entry.Yield ∷ []) (entry.Ended ∷ entry.Close ∷ sweeps)

awake-of : (own : List Entry) → IsLog awake 0 own → IsAwake own
awake-of own h =
    let r = h.are_scripts in
    let P : Script → Type 0 = λ s. IsScript awake s r.2.0 r.2.1 in
    let k = subst P (sym (same-script r.1)) r.2.4 in
    let b = awake-only _ k.after k.part k.runs in
    let behind : List Entry = entry.Ended ∷ entry.Close ∷ h.sweeps in
    let script : h.scripts ≡ Scripted Plain r.2.0 (entry.Yield ∷ entry.Yield ∷ []) [] ++ [] = r.2.3 ∙ ap (λ v. r.2.1 ++ v) r.2.5 ∙ ap (λ v. v ++ []) (k.own_is ∙ ap (λ v. Scripted Plain r.2.0 v []) b.0) in
    record { outer = r.2.0; sweeps = h.sweeps; own_is = h.own_is ∙ ap (λ v. v ++ (h.scripts ++ behind)) h.are_fills ∙ ap (λ v. v ++ behind) script }

asleep-log : (log : Log) (whole : IsTrue (are_whole (log ∷ []))) → LawfulLogs asleep (stepless log whole) → IsAsleep (entries_of log)
asleep-log log whole h =
    let l = owned-log asleep refl refl 0 refl log (h.logs 0 log refl) in
    asleep-of (entries_of log) (subst (IsLog asleep 0) (own-is asleep 0 log l) l.is_log)

awake-log : (log : Log) (whole : IsTrue (are_whole (log ∷ []))) → LawfulLogs awake (stepless log whole) → IsAwake (entries_of log)
awake-log log whole h =
    let l = owned-log awake refl refl 0 refl log (h.logs 0 log refl) in
    awake-of (entries_of log) (subst (IsLog awake 0) (own-is awake 0 log l) l.is_log)

-- ---- the entries in which they differ

-- behind the two first entries
third-apart : {a b c d e f : Entry} {v w : List Entry} → a ∷ b ∷ c ∷ v ≡ d ∷ e ∷ f ∷ w → c ≡ f
third-apart e = cc

fourth-apart : {a b c d e f x y : Entry} {v w : List Entry} → a ∷ b ∷ c ∷ x ∷ v ≡ d ∷ e ∷ f ∷ y ∷ w → x ≡ y
fourth-apart e = cc

fifth-apart : {a b c d e f x y z u : Entry} {v w : List Entry} → a ∷ b ∷ c ∷ x ∷ z ∷ v ≡ d ∷ e ∷ f ∷ y ∷ u ∷ w → z ≡ u
fifth-apart e = cc

sixth-apart : {a b c d e f x y z u p q : Entry} {v w : List Entry} → a ∷ b ∷ c ∷ x ∷ z ∷ p ∷ v ≡ d ∷ e ∷ f ∷ y ∷ u ∷ q ∷ w → p ≡ q
sixth-apart e = cc

second-apart : {a b d e : Entry} {v w : List Entry} → a ∷ b ∷ v ≡ d ∷ e ∷ w → b ≡ e
second-apart e = cc

yield-in : (d : Domain) (w : ℕ) → entry.Yield ≡ entry.In d w → ⊥
yield-in d w e = cc

yield-out : (d : Domain) (w : ℕ) → entry.Yield ≡ entry.Out d w → ⊥
yield-out d w e = cc

out-yield : (d : Domain) (w : ℕ) → entry.Out d w ≡ entry.Yield → ⊥
out-yield d w e = cc

plain-tracing : (w x : ℕ) → entry.In Plain w ≡ entry.In Tracing x → ⊥
plain-tracing w x e = cc

tracing-plain : (w x : ℕ) → entry.In Tracing w ≡ entry.In Plain x → ⊥
tracing-plain w x e = cc

pub no_section-wrong : LawfulLogs asleep (stepless no_section refl) → ⊥
no_section-wrong h = let k = asleep-log no_section refl h in yield-in Plain k.word (third-apart k.own_is)

pub two_sections-wrong : LawfulLogs asleep (stepless two_sections refl) → ⊥
two_sections-wrong h = let k = asleep-log two_sections refl h in out-yield Plain 2 (fourth-apart k.own_is)

pub wide_section-wrong : LawfulLogs asleep (stepless wide_section refl) → ⊥
wide_section-wrong h = let k = asleep-log wide_section refl h in yield-out Plain (k.word + 1) (fifth-apart k.own_is)

pub open_section-wrong : LawfulLogs asleep (stepless open_section refl) → ⊥
open_section-wrong h = let k = asleep-log open_section refl h in yield-out Plain (k.word + 1) (fifth-apart k.own_is)

pub one_yield-wrong : LawfulLogs asleep (stepless one_yield refl) → ⊥
one_yield-wrong h = let k = asleep-log one_yield refl h in out-yield Tracing 2 (sixth-apart k.own_is)

pub plain-wrong : LawfulLogs asleep (stepless awake_log refl) → ⊥
plain-wrong h = let k = asleep-log awake_log refl h in plain-tracing 1 k.outer (second-apart k.own_is)

pub tracing-wrong : LawfulLogs awake (stepless asleep_log refl) → ⊥
tracing-wrong h = let k = awake-log asleep_log refl h in tracing-plain 1 k.outer (second-apart k.own_is)
