-- A handler that ran where it stands left its phrase.
use Rattle.std.proofs.Common.{◌≡◌, ℕ, ◌+◌, Bool, true, false, List, [], ◌∷◌, ◌++◌, refl, sym, ap, subst, ◌∙◌, arith}
use Rattle.bm_journal.specs.declared.ids.Domain.TheVariants.{Plain}
use Rattle.bm_journal.specs.declared.entry.Entry.{Entry}
use Rattle.bm_journal.specs.declared.entry.Entry.TheVariants as entry
use Rattle.bm_lang.specs.declared.scenario.Parts.{Parts}
use Rattle.bm_law.specs.Lists.{Log, after as lists_after}
use Rattle.bm_law.specs.Spans.{AllFrom, own_entries}
use Rattle.bm_law.specs.State.{State}
use Rattle.bm_law.proofs.Spans.{from-append, own-append}
use Rattle.bm_law_work.specs.Parts.{Nothing, Say}
use Rattle.bm_law_scenario.specs.Declared.{declared_in}
use Rattle.bm_law_scenario.specs.Handlers.{HandlerPhrase, HandlerRun, InSection, enclosed}
use Rattle.bm_law_scenario.specs.Held.{no_names}
use Rattle.bm_law_scenario.specs.Runs.{RunsBlock}
use Rattle.bm_law_lives.specs.SectionWords.{is_outside}
use Rattle.bm_law_scenario.proofs.SameRuns.{block-same}

pub phrase-of-run : (s : Parts) (l : ℕ) (name : List ℕ) (w : ℕ) (lists : State ℕ) (log : Log) → HandlerRun s l name w lists log → Say l (HandlerPhrase s name w) lists log
phrase-of-run s l name w lists log r = by (is_outside w) refl r.runs
  where
    -- the entries of its block, and the part of the log that they are of
    phrase : (own run : List Entry) (before : State ℕ) (part : Log) → own ≡ enclosed w run → own_entries l part ≡ run → RunsBlock (declared_in s) l true Nothing r.script.body no_names r.after before part → HandlerPhrase s name w own
    phrase own run before part e f h = record {
      index = r.index;
      script = r.script;
      found = r.found;
      called = r.called;
      handles = r.handles;
      part = run;
      after = r.after;
      own_is = e;
      runs = record { level = l; lists = before; log = part; runs = h; own_is = f };
      owns_nothing = r.owns_nothing;
    }

    in_one : (run : List Entry) → is_outside w ≡ true → enclosed w run ≡ entry.In Plain (w + 1) ∷ run ++ entry.Out Plain (w + 2) ∷ []
    in_one run e = rw e refl

    in_none : (run : List Entry) → is_outside w ≡ false → enclosed w run ≡ run
    in_none run e = rw e refl

    by : (b : Bool) → is_outside w ≡ b → InSection b l w (RunsBlock (declared_in s) l true Nothing r.script.body) no_names r.after lists log → Say l (HandlerPhrase s name w) lists log
    by false e h =
        let from = ((block-same l (declared_in s) true r.script.body).owned no_names r.after lists log h).0 in
        (own_entries l log, phrase (own_entries l log) (own_entries l log) lists log (sym (in_none (own_entries l log) e)) refl h, record { from = from; own_is = refl })
    by true e h =
        let u = h.is_second in
        let m = lists_after lists h.one in
        let from = ((block-same l (declared_in s) true r.script.body).owned no_names r.after m u.one u.is_first).0 in
        let F : Log → Type 0 = AllFrom l in
        let two : F h.two = subst F (sym u.part_is) (from-append l u.one u.two from u.is_second.from) in
        let run = own_entries l u.one in
        let word : entry.Out Plain (w + 1 + 1) ≡ entry.Out Plain (w + 2) = ap (entry.Out Plain) (omega arith) in
        let after_it : own_entries l h.two ≡ run ++ entry.Out Plain (w + 2) ∷ [] = ap (own_entries l) u.part_is ∙ own-append l u.one u.two ∙ ap (λ v. run ++ v) (u.is_second.own_is ∙ ap (λ (x : Entry). x ∷ []) word) in
        let own : own_entries l log ≡ entry.In Plain (w + 1) ∷ run ++ entry.Out Plain (w + 2) ∷ [] = ap (own_entries l) h.part_is ∙ own-append l h.one h.two ∙ ap (λ v. v ++ own_entries l h.two) h.is_first.own_is ∙ ap (λ v. entry.In Plain (w + 1) ∷ v) after_it in (
          own_entries l log,
          phrase (own_entries l log) run m u.one (own ∙ sym (in_one run e)) refl u.is_first,
          record { from = subst F (sym h.part_is) (from-append l h.one h.two h.is_first.from two); own_is = refl },
        )
