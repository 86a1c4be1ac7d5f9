-- A processor that has been opened is tied to its log since the outset: its fills are what was fetched.
use Rattle.std.specs.Prelude.{◌≡◌, ◌+◌, ◌*◌, ◌&&◌, ◌++◌, ℕ, zero, suc, Bool, true, false, List, [], ◌∷◌, map, replicate, nat_lt, Option, None, get_or, if◌then◌else◌}
use Rattle.bm_lang.specs.declared.scenario.MapDeclaration.{MapDeclaration}
use Rattle.bm_world.specs.ToldLiving.{knows_living}
use Rattle.std.proofs.Common.{◌∙◌, arith, ap, append-nil, refl, subst, sym}
use Rattle.bm_law.specs.Lists.{Log}
use mathlib.Core.Path.{fun_ext}
use Rattle.bm_page.specs.declared.units.Stocked.{Stocked}
use Rattle.bm_page.specs.Stock.{Stock, fetched, unborn}
use Rattle.bm_cache.specs.Opening.{fill_log, named}
use Rattle.bm_journal.specs.declared.entry.Entry.TheVariants as entry
use Rattle.bm_law_scenario.specs.Fills.{fresh_stock, prefill}
use Rattle.bm_law_order.specs.Act as act
use Rattle.bm_law_order.specs.Acts.{ActsLead, act_after}
use Rattle.bm_law_order.specs.Bare.{bare_pool, bare_unit}
use Rattle.bm_law_order.specs.Chunk as chunk
use Rattle.bm_law_order.specs.Lives.{Life}
use Rattle.bm_law_order.specs.Looks.{first_looks}
use Rattle.bm_law_order.specs.Numbers.{first_numbers}
use Rattle.bm_law_order.specs.Pages.{fetches}
use Rattle.bm_law_order.specs.Seals.{Wait, WaitLeads}
use Rattle.bm_law_order.specs.Shared.{Shared, fresh}
use Rattle.bm_law_order.specs.Slots.{Contents, SlotsLead, empty_slot, named_in}
use Rattle.bm_law_order.specs.Story.{AllJudged, Story, deeds, lines}
use Rattle.bm_law_order.specs.Tie.{Tied}
use Rattle.bm_law_order.specs.Words.{first_words}
use Rattle.bm_law_order.proofs.BarePool.{fetched-bare}
use Rattle.bm_post.specs.PostState.{no_parcels}
use Rattle.bm_post.specs.Rights.{numbers}
use Rattle.bm_world.specs.LivingState.{LivingState, begun_at}
use Rattle.bm_world.specs.Slots.{AllEmpty, object_at, values_of}
use Rattle.bm_world.specs.declared.slots.Object.{Object}
use Rattle.bm_world.proofs.SlotLemmas.{no-object}
use Rattle.bm_law_order.specs.Graphs.{GraphsLead, Shelf, shelf_of}
use Rattle.bm_law_order.specs.Made.{Fields, MadeLead}
use Rattle.bm_world.specs.Standings.{standing_at, told_standing, waits_told}
use Rattle.bm_world.specs.declared.standing.Standing.{Standing}
use Rattle.bm_world.specs.declared.standing.Standing.TheVariants.{Nothing}
use Rattle.bm_world.specs.Told.{told_boxes}
use Rattle.bm_world.specs.ToldLiving.{LivingDoes, life_of, told_living}
use Rattle.bm_run.specs.Filling.{filling}
use Rattle.bm_exec_levels.specs.AtPolls.{DoesHere, polled}
use Rattle.bm_run.specs.Opened.{fresh_side, fresh_world}
use Rattle.bm_run.proofs.OpeningLemmas.{living_side, named-empty, none-at}

bare-unborn : (n : ℕ) → map bare_unit (replicate n unborn) ≡ replicate n unborn
bare-unborn zero = refl
bare-unborn (suc n) = ap (λ us. unborn ∷ us) (bare-unborn n)

no-boxes : (n q : ℕ) (pool : Stock) (p c : ℕ) → told_boxes (fresh_side n q pool).post p c ≡ []
no-boxes n q pool p c = none (nat_lt p 8 && nat_lt c 11)
  where
    none : (b : Bool) → (if b then map numbers (get_or no_parcels (11 * p + c) []) else []) ≡ []
    none true = ap (map numbers) (none-at 88 (11 * p + c))
    none false = refl

-- What is told where nobody did anything but take units from the stock. Whose side it is, is no matter.
pub fresh-told : (n q pages : ℕ) (pool : Stock) (slots : List (Option Object)) (begun : List ℕ) (standings : List Standing) (maps : List MapDeclaration) → AllEmpty slots → ((u : ℕ) → begun_at begun u ≡ 0) → told_living (living_side n q pool slots begun standings maps) ≡ record (fresh n pages) { pool = bare_pool pool }
fresh-told n q pages pool slots begun standings maps e z =
    let F : (ℕ → ℕ → List (List ℕ)) → (ℕ → ℕ) → (ℕ → Option Life) → Shared = λ b g h. record { processors = n; words = first_words; numbers = first_numbers; looks = first_looks; lives = record { begun = g; holds = h; dropping = λ p l. None }; pool = bare_pool pool; boxes = b } in
    let B : ℕ → ℕ → List (List ℕ) = λ p c. [] in
    ap (λ b. F b (begun_at begun) (λ u. life_of (object_at slots u))) (fun_ext (λ p. fun_ext (λ c. no-boxes n q pool p c)))
    ∙ (ap (λ g. F B g (λ u. life_of (object_at slots u))) (fun_ext z)
    ∙ ap (λ h. F B (λ u. 0) h) (fun_ext (λ u. ap life_of (no-object (object_at slots u) (e u)))))

pub no-slots : AllEmpty []
no-slots zero = refl
no-slots (suc n) = refl

pub no-standing : (n : ℕ) → standing_at [] n ≡ Nothing
no-standing zero = refl
no-standing (suc n) = refl

pub no-lives : (n : ℕ) → begun_at [] n ≡ 0
no-lives zero = refl
no-lives (suc n) = refl

-- .. before any opening, of so many processors
pub first-told : (n q pages : ℕ) → told_living (fresh_world n q (fresh_stock pages)) ≡ fresh n pages
first-told n q pages =
    let F : List Stocked → Shared = λ us. record (fresh n pages) { pool = record { classes = replicate pages None; units = us } } in
    fresh-told n q pages (fresh_stock pages) [] [] [] [] no-slots no-lives ∙ ap F (bare-unborn (256 * pages))

-- the fills of some classes from a stock
abbrev fill_story : List ℕ → Stock → Story
fill_story [] pool = []
fill_story (c ∷ cs) pool = let f = fetched c (prefill c) pool in record { level = 0; chunk = chunk.Filling c (numbers f.units) } ∷ fill_story cs f.pool

fill-lines : (cs : List ℕ) (pool : Stock) → lines (fill_story cs pool) ≡ fill_log (filling cs pool).fills
fill-lines [] pool = refl
fill-lines (c ∷ cs) pool = let f = fetched c (prefill c) pool in ap (λ es. (0, entry.Fill c (named f.units)) ∷ es) (fill-lines cs f.pool)

fill-judged : (start : LivingState) (log : Log) (cs : List ℕ) (pool : Stock) → AllJudged (polled knows_living false [] start) log (fill_story cs pool)
fill-judged start log [] pool = tt
fill-judged start log (c ∷ cs) pool = let f = fetched c (prefill c) pool in (tt, fill-judged start (log ++ (0, entry.Fill c (named f.units)) ∷ []) cs f.pool)

-- they lead from what is told of the stock to what they leave of it
fill-leads : (p : ℕ) (cs : List ℕ) (pool : Stock) (s : Shared) → s.pool ≡ bare_pool pool → ActsLead p (deeds (fill_story cs pool)) s (record s { pool = bare_pool (filling cs pool).pool })
fill-leads p [] pool s e = record { fit = tt; now_is = ap (λ q. let x : Shared = record s { pool = q } in x) e }
fill-leads p (c ∷ cs) pool s e =
    let f = fetched c (prefill c) pool in
    let same = fetched-bare c (prefill c) pool in
    let now : Shared = act_after p (act.Fetches c (prefill c) (numbers f.units)) s in
    let pools : now.pool ≡ bare_pool f.pool = ap (λ q. (fetched c (prefill c) q).pool) e ∙ sym same.pools in
    let rest = fill-leads p cs f.pool now pools in
    record { fit = (same.units ∙ ap (fetches c (prefill c)) (sym e), rest.fit); now_is = rest.now_is }

fill-waits : (cs : List ℕ) (pool : Stock) (w : ℕ → Wait) → WaitLeads (deeds (fill_story cs pool)) w w
fill-waits [] pool w = refl
fill-waits (c ∷ cs) pool w = (w, (refl, fill-waits cs (fetched c (prefill c) pool).pool w))

fill-made : (cs : List ℕ) (pool : Stock) (w : Fields) → MadeLead (deeds (fill_story cs pool)) w w
fill-made [] pool w = refl
fill-made (c ∷ cs) pool w = (w, (refl, fill-made cs (fetched c (prefill c) pool).pool w))

-- nothing is exchanged
fill-exchanged : (cs : List ℕ) (pool : Stock) (w : Contents) → SlotsLead (deeds (fill_story cs pool)) w w
fill-exchanged [] pool w = refl
fill-exchanged (c ∷ cs) pool w = (w, (refl, fill-exchanged cs (fetched c (prefill c) pool).pool w))

-- no list or tree is called
fill-called : (names : List (List ℕ)) (cs : List ℕ) (pool : Stock) (w : Shelf) → GraphsLead names (deeds (fill_story cs pool)) w w
fill-called names [] pool w = refl
fill-called names (c ∷ cs) pool w = (w, (refl, fill-called names cs (fetched c (prefill c) pool).pool w))

fill-does : (n q : ℕ) (cs : List ℕ) (before pool : Stock) (slots : List (Option Object)) (begun : List ℕ) (standings : List Standing) → pool ≡ (filling cs before).pool → AllEmpty slots → ((u : ℕ) → begun_at begun u ≡ 0) → ((u : ℕ) → standing_at standings u ≡ Nothing) →
    LivingDoes (deeds (fill_story cs before)) (fresh_world n q before) (living_side n q pool slots begun standings [])
fill-does n q cs before pool slots begun standings same e z stands = record {
  waits = subst (λ w. WaitLeads (deeds (fill_story cs before)) (waits_told []) w) (fun_ext (λ u. ap told_standing (no-standing u ∙ sym (stands u)))) (fill-waits cs before (waits_told []));
  made = subst (MadeLead (deeds (fill_story cs before)) (λ u. [])) (fun_ext (λ u. ap values_of (sym (no-object (object_at slots u) (e u))))) (subst (λ w. MadeLead (deeds (fill_story cs before)) w (λ u. [])) (fun_ext (λ u. ap values_of (sym (no-object (object_at [] u) (no-slots u))))) (fill-made cs before (λ u. [])));
  exchanged = subst (SlotsLead (deeds (fill_story cs before)) (named_in [])) (sym (named-empty [])) (fill-exchanged cs before (λ name. empty_slot));
  called = fill-called [] cs before (shelf_of []);
  named = refl;
  asked = omega arith;
  keeps = λ u s. stands u ∙ sym (no-standing u);
  did = λ p s.
      let first = fresh-told n q 0 before [] [] [] [] no-slots no-lives in
      let start : Shared = record (fresh n 0) { pool = bare_pool before } in
      let lead = fill-leads p cs before start refl in
      let now = fresh-told n q 0 pool slots begun standings [] e z ∙ ap (λ x. let y : Shared = record (fresh n 0) { pool = bare_pool x } in y) same in
      record {
        leads = subst (λ x. ActsLead p (deeds (fill_story cs before)) x (told_living (living_side n q pool slots begun standings []))) (sym first) (subst (ActsLead p (deeds (fill_story cs before)) start) (sym now) lead);
        stays = record { post_is = s.post_is; grace_is = s.grace_is; agree = s.agree; turn = s.turn; most = s.most; boxes = s.boxes; plain_words = s.plain_words; tracing_words = s.tracing_words };
        others = λ d q ne. refl;
      };
}

-- The fills of a processor's opening are tied since the stock before them.
pub fills-tied : (n q : ℕ) (cs : List ℕ) (before pool : Stock) (slots : List (Option Object)) (begun : List ℕ) (standings : List Standing) → pool ≡ (filling cs before).pool → AllEmpty slots → ((u : ℕ) → begun_at begun u ≡ 0) → ((u : ℕ) → standing_at standings u ≡ Nothing) →
    Tied (polled knows_living false [] (fresh_world n q before)) (DoesHere knows_living) [] (fresh_world n q before) 0 [] [] (fill_log (filling cs before).fills) (living_side n q pool slots begun standings [])
fills-tied n q cs before pool slots begun standings same e z stands =
    let story = fill_story cs before in
    let start = fresh_world n q before in
    let world : LivingState = living_side n q pool slots begun standings [] in
    record {
      story = story;
      judged = fill-judged start [] cs before;
      log_is = sym (fill-lines cs before) ∙ sym (append-nil (lines story));
      done_is = (subst (λ as'. LivingDoes as' start world) (sym (append-nil (deeds story))) (fill-does n q cs before pool slots begun standings same e z stands), refl, refl);
    }
