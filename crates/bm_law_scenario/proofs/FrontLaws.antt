-- A front has what its fills, its calls, the begins and ends of its scripts and the works in it have.
use Rattle.std.proofs.Common.{◌≡◌, ℕ, ◌+◌, true, List, [], ◌∷◌, refl, sym, subst}
use Rattle.bm_journal.specs.declared.ids.Domain.{Domain}
use Rattle.bm_journal.specs.declared.ids.Domain.TheVariants.{Plain}
use Rattle.bm_journal.specs.declared.units.Units.TheVariants.{Whole}
use Rattle.bm_journal.specs.declared.entry.Entry.{Entry}
use Rattle.bm_journal.specs.declared.entry.Entry.TheVariants as entry
use Rattle.bm_lang.specs.declared.scenario.RunLine.{RunLine}
use Rattle.bm_lang.specs.declared.scenario.Parts.{Parts}
use Rattle.bm_lang.specs.declared.scenario.Script.{Script}
use Rattle.bm_page.specs.Stock.{Stock, fetched}
use Rattle.bm_law_work.specs.Parts.{Part, Nothing, Say, Stand, Then}
use Rattle.bm_law_work.specs.WorkPhrases.{Work}
use Rattle.bm_graph.specs.Entries.{call_entry}
use Rattle.bm_law_scenario.specs.Fills.{AreFills, numbers_of, prefill}
use Rattle.bm_law_scenario.specs.Calls.{RunsAcquire, RunsExchange, RunsGet, RunsDrop, RunsNew, RunsStill, any_batch}
use Rattle.bm_law_scenario.specs.Declared.{declared_in}
use Rattle.bm_law_scenario.specs.Held.{Names, no_names}
use Rattle.bm_law_scenario.specs.Runs.{RunsBlock}
use Rattle.bm_law_scenario.specs.Opened.{opened_classes}
use Rattle.bm_law_scenario.specs.Works.{UntilDown, WorkBehind}
use Rattle.bm_law_scenario.specs.Grammar.{AreScripts, Front, IsBody, IsScript, behind_script, behind_statement, lines_of, section_of, starts_inside, stock_for}
use Rattle.bm_law_scenario.proofs.RunsAll.{Closed}
use Rattle.bm_law_scenario.proofs.PartLaws.{among, first-among, later-among}
use Rattle.bm_law_scenario.proofs.PartLaws.{Has, Laws, has-laws, has-say, has-stand, law-as, law-behind, law-if, law-until}
use Rattle.bm_law_scenario.proofs.BlockLaws.{Called, law-block}

-- what the parts of a front of a scenario have
pub record Fronted (s : Parts) (L : Part → Type 0) : Type 0 where
  pub calls : Called (declared_in s) L
  pub fills : (pool : Stock) → L (Say 0 (AreFills (opened_classes s.types) pool))
  pub begins : (d : Domain) (name : List ℕ) (w : ℕ) → L (Stand 0 (entry.Script name ∷ entry.In d w ∷ []))
  pub ends : (d : Domain) (name : List ℕ) (w : ℕ) → L (Stand 0 (entry.Out d w ∷ entry.Done name ∷ []))
  pub work : (c : ℕ) → among c (opened_classes s.types) ≡ true → L (Work 0 c)

module _ (s : Parts) (L : Part → Type 0) (k : Laws L) (f : Fronted s L) where
  body : (x : Script) → L (IsBody s x)
  body x =
      let classes : List ℕ = opened_classes s.types in
      let works : L (behind_statement s) = law-if L k s.deferred (UntilDown classes) Nothing (law-until L k classes f.work) k.nothing in
      k.cases Names (λ names. RunsBlock (declared_in s) 0 (starts_inside x) (behind_statement s) x.body no_names names) (IsBody s x)
      (λ names. law-block (declared_in s) L k f.calls (behind_statement s) works (starts_inside x) x.body no_names names) (λ t part h. (h.0, h.1))

  script : (x : Script) (w : ℕ) → L (IsScript s x w)
  script x w =
      let classes : List ℕ = opened_classes s.types in
      let d : Domain = section_of x.kind in
      let first : List Entry = entry.Script x.name ∷ entry.In d w ∷ [] in
      let last : List Entry = entry.Out d (w + 1) ∷ entry.Done x.name ∷ [] in
      let stop : Part = Then (Stand 0 last) (behind_script s) in
      let works : L (behind_script s) = law-if L k s.deferred (WorkBehind classes) Nothing (law-behind L k classes f.work) k.nothing in
      k.both (Stand 0 first) (Then (IsBody s x) stop) (f.begins d x.name w) (k.both (IsBody s x) stop (body x) (k.both (Stand 0 last) (behind_script s) (f.ends d x.name (w + 1)) works))

  scripts : (rs : List RunLine) → L (AreScripts s rs)
  scripts [] = law-as L k Nothing (AreScripts s []) k.nothing (λ t part h. h)
  scripts (r ∷ rs) =
      k.cases (Script × ℕ) (λ x. Then (IsScript s x.0 x.1) (AreScripts s rs)) (AreScripts s (r ∷ rs))
      (λ x. k.both (IsScript s x.0 x.1) (AreScripts s rs) (script x.0 x.1) (scripts rs)) (λ t part h. ((h.0, h.2), h.3))

  pub front-law : (p : ℕ) → L (Front s p)
  front-law p =
      law-as L k (Then (Say 0 (AreFills (opened_classes s.types) (stock_for s p))) (AreScripts s (lines_of p s.runs))) (Front s p)
      (k.both (Say 0 (AreFills (opened_classes s.types) (stock_for s p))) (AreScripts s (lines_of p s.runs)) (f.fills (stock_for s p)) (scripts (lines_of p s.runs))) (λ t part h. h)

-- ---- what the entries of ordinary code in a front have

pub record Written (s : Parts) (P : List Entry → Type 0) : Type 0 where
  pub closed : Closed (declared_in s) P
  pub fill : (c : ℕ) (us : List ℕ) → among c (opened_classes s.types) ≡ true → P (entry.Fill c (Whole us) ∷ [])
  pub begins : (d : Domain) (name : List ℕ) (w : ℕ) → P (entry.Script name ∷ entry.In d w ∷ [])
  pub ends : (d : Domain) (name : List ℕ) (w : ℕ) → P (entry.Out d w ∷ entry.Done name ∷ [])
  pub work : (c : ℕ) → among c (opened_classes s.types) ≡ true → Has P (Work 0 c)

module _ (s : Parts) (P : List Entry → Type 0) (k : Written s P) where
  fills-have : (cs : List ℕ) (pool : Stock) (own : List Entry) → ((c : ℕ) → among c cs ≡ true → among c (opened_classes s.types) ≡ true) → AreFills cs pool own → P own
  fills-have [] pool own m e = subst P (sym e) k.closed.none
  fills-have (c ∷ cs) pool own m f =
      let units = numbers_of (fetched c (prefill c) pool).units in
      subst P (sym f.1) (k.closed.join (entry.Fill c (Whole units) ∷ []) f.0 (k.fill c units (m c (first-among c c cs refl))) (fills-have cs (fetched c (prefill c) pool).pool f.0 (λ d e. m d (later-among d c cs e)) f.2))

  pub written : Fronted s (Has P)
  written =
      let classes : List ℕ = opened_classes s.types in
      record {
        calls = record {
          new = λ x t values names after. has-say P (λ own. RunsNew s.types x t values names own after) (λ own h. k.closed.new x t values names own after h);
          dropped = λ x names after. has-say P (λ own. RunsDrop s.types x any_batch names own after) (λ own h. k.closed.dropped x names own after h);
          still = λ x names after. has-say P (λ own. RunsStill s.types x names own after) (λ own h. k.closed.still x names own after h);
          acquired = λ y x names after. has-say P (λ own. RunsAcquire s.types y x names own after) (λ own h. k.closed.acquired y x names own after h);
          read = λ x field names after. has-say P (λ own. RunsGet s.types x field names own after) (λ own h. k.closed.read x field names own after h);
          exchanged = λ y slot given names after. has-say P (λ own. RunsExchange s.maps y slot given names own after) (λ own h. k.closed.exchanged y slot given names own after h);
          locks = λ graph. has-stand P (entry.Lock graph ∷ []) (k.closed.locks graph);
          unlocks = λ graph. has-stand P (entry.Unlock graph ∷ []) (k.closed.unlocks graph);
          calls = λ graph position owner call. has-stand P (call_entry graph position owner call ∷ []) (k.closed.calls graph position owner call);
          enters = λ w. has-stand P (entry.In Plain w ∷ []) (k.closed.enters w);
          leaves = λ w. has-stand P (entry.Out Plain w ∷ []) (k.closed.leaves w);
          yields = has-stand P (entry.Yield ∷ []) k.closed.yields;
          silent = has-stand P [] k.closed.none;
        };
        fills = λ pool. has-say P (AreFills classes pool) (λ own h. fills-have classes pool own (λ c e. e) h);
        begins = λ d name w. has-stand P (entry.Script name ∷ entry.In d w ∷ []) (k.begins d name w);
        ends = λ d name w. has-stand P (entry.Out d w ∷ entry.Done name ∷ []) (k.ends d name w);
        work = k.work;
      }

  pub front-has : (p : ℕ) → Has P (Front s p)
  front-has p = front-law s (Has P) (has-laws P (record { none = k.closed.none; join = k.closed.join })) written p
