-- Where no deferred work runs, nothing is sent before the closing.
use Rattle.std.proofs.Common.{◌≡◌, ◌+◌, ℕ, Bool, true, false, List, [], ◌∷◌}
use Rattle.bm_journal.specs.declared.ids.Domain.{Domain}
use Rattle.bm_journal.specs.declared.ids.Domain.TheVariants.{Plain}
use Rattle.bm_journal.specs.declared.entry.Entry.{Entry}
use Rattle.bm_journal.specs.declared.entry.Entry.TheVariants as entry
use Rattle.bm_lang.specs.declared.scenario.RunLine.{RunLine}
use Rattle.bm_lang.specs.declared.scenario.Parts.{Parts}
use Rattle.bm_lang.specs.declared.scenario.Script.{Script}
use Rattle.bm_law_work.specs.Parts.{If, Part, Nothing, Stand, Then}
use Rattle.bm_law_work.proofs.Each.{AllOf, of-append, of-map}
use Rattle.bm_law_scenario.specs.Declared.{declared_in}
use Rattle.bm_law_scenario.specs.CallEntries.{IsOfStatement}
use Rattle.bm_law_scenario.specs.Calls.{RunsAcquire, RunsExchange, RunsGet, RunsDrop, RunsNew, RunsStill, any_batch}
use Rattle.bm_law_scenario.specs.Grammar.{AreScripts, IsBody, IsScript, behind_script, behind_statement, section_of, starts_inside}
use Rattle.bm_law_scenario.specs.Held.{Names, no_names}
use Rattle.bm_law_scenario.specs.Opened.{opened_classes}
use Rattle.bm_law_scenario.specs.Runs.{RunsBlock}
use Rattle.bm_law_scenario.specs.Works.{UntilDown, WorkBehind}
use Rattle.bm_graph.specs.Entries.{call_entry}
use Rattle.bm_law_scenario.proofs.BlockLaws.{Called, law-block}
use Rattle.bm_law_scenario.proofs.OfCall.{of-calls}
use Rattle.bm_law_scenario.proofs.PartLaws.{Has, Laws, has-laws, has-say, has-stand, law-as}
use Rattle.bm_run.proofs.OwnParcels.{IsUnsent}

statement-unsent : (e : Entry) → IsOfStatement e → IsUnsent e
statement-unsent (entry.Send c to us) h = absurd h
statement-unsent _ h = tt

-- what isn't done has the law
never : (L : Part → Type 0) (k : Laws L) (b : Bool) (Q : Part) → b ≡ false → L (If b Q Nothing)
never L k true Q e = absurd (cc)
never L k false Q e = k.nothing

module _ (s : Parts) (off : s.deferred ≡ false) where
  laws : Laws (Has (AllOf IsUnsent))
  laws = has-laws (AllOf IsUnsent) (record { none = tt; join = of-append IsUnsent })

  calls : Called (declared_in s) (Has (AllOf IsUnsent))
  calls =
      let k = of-calls (declared_in s) in
      record {
        new = λ x t values names after. has-say (AllOf IsUnsent) (λ own. RunsNew s.types x t values names own after) (λ own h. of-map IsOfStatement IsUnsent statement-unsent own (k.new x t values names own after h));
        dropped = λ x names after. has-say (AllOf IsUnsent) (λ own. RunsDrop s.types x any_batch names own after) (λ own h. of-map IsOfStatement IsUnsent statement-unsent own (k.dropped x names own after h));
        still = λ x names after. has-say (AllOf IsUnsent) (λ own. RunsStill s.types x names own after) (λ own h. of-map IsOfStatement IsUnsent statement-unsent own (k.still x names own after h));
        acquired = λ y x names after. has-say (AllOf IsUnsent) (λ own. RunsAcquire s.types y x names own after) (λ own h. of-map IsOfStatement IsUnsent statement-unsent own (k.acquired y x names own after h));
        read = λ x field names after. has-say (AllOf IsUnsent) (λ own. RunsGet s.types x field names own after) (λ own h. of-map IsOfStatement IsUnsent statement-unsent own (k.read x field names own after h));
        exchanged = λ y slot given names after. has-say (AllOf IsUnsent) (λ own. RunsExchange s.maps y slot given names own after) (λ own h. of-map IsOfStatement IsUnsent statement-unsent own (k.exchanged y slot given names own after h));
        locks = λ graph. has-stand (AllOf IsUnsent) (entry.Lock graph ∷ []) (tt, tt);
        unlocks = λ graph. has-stand (AllOf IsUnsent) (entry.Unlock graph ∷ []) (tt, tt);
        calls = λ graph position owner call. has-stand (AllOf IsUnsent) (call_entry graph position owner call ∷ []) (of-map IsOfStatement IsUnsent statement-unsent (call_entry graph position owner call ∷ []) (k.calls graph position owner call));
        enters = λ w. has-stand (AllOf IsUnsent) (entry.In Plain w ∷ []) (tt, tt);
        leaves = λ w. has-stand (AllOf IsUnsent) (entry.Out Plain w ∷ []) (tt, tt);
        yields = has-stand (AllOf IsUnsent) (entry.Yield ∷ []) (tt, tt);
        silent = has-stand (AllOf IsUnsent) [] tt;
      }

  body : (x : Script) → Has (AllOf IsUnsent) (IsBody s x)
  body x =
      laws.cases Names (λ names. RunsBlock (declared_in s) 0 (starts_inside x) (behind_statement s) x.body no_names names) (IsBody s x)
      (λ names. law-block (declared_in s) (Has (AllOf IsUnsent)) laws calls (behind_statement s) (never (Has (AllOf IsUnsent)) laws s.deferred (UntilDown (opened_classes s.types)) off) (starts_inside x) x.body no_names names) (λ t part h. (h.0, h.1))

  script : (x : Script) (w : ℕ) → Has (AllOf IsUnsent) (IsScript s x w)
  script x w =
      let d : Domain = section_of x.kind in
      let first : List Entry = entry.Script x.name ∷ entry.In d w ∷ [] in
      let last : List Entry = entry.Out d (w + 1) ∷ entry.Done x.name ∷ [] in
      let stop : Part = Then (Stand 0 last) (behind_script s) in
      let works = never (Has (AllOf IsUnsent)) laws s.deferred (WorkBehind (opened_classes s.types)) off in
      laws.both (Stand 0 first) (Then (IsBody s x) stop) (has-stand (AllOf IsUnsent) first (tt, (tt, tt)))
      (laws.both (IsBody s x) stop (body x) (laws.both (Stand 0 last) (behind_script s) (has-stand (AllOf IsUnsent) last (tt, (tt, tt))) works))

  pub scripts-unsent : (rs : List RunLine) → Has (AllOf IsUnsent) (AreScripts s rs)
  scripts-unsent [] = law-as (Has (AllOf IsUnsent)) laws Nothing (AreScripts s []) laws.nothing (λ t part h. h)
  scripts-unsent (r ∷ rs) =
      laws.cases (Script × ℕ) (λ x. Then (IsScript s x.0 x.1) (AreScripts s rs)) (AreScripts s (r ∷ rs))
      (λ x. laws.both (IsScript s x.0 x.1) (AreScripts s rs) (script x.0 x.1) (scripts-unsent rs)) (λ t part h. ((h.0, h.2), h.3))
