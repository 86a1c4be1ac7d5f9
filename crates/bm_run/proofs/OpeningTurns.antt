-- The order of the openings of several processors: each opening is a turn, so the order is so far as it is between two turns.
use Rattle.std.specs.Prelude.{◌<◌, ◌≤◌}
use Rattle.std.proofs.Common.{◌≡◌, ℕ, zero, suc, Option, false, true, map, List, [], ◌∷◌, ◌++◌, length, refl, sym, ap, subst, ◌∙◌, None, arith, inl, inr}
use Rattle.std.proofs.lemmas.Bool.{cases_eq, cases_lt}
use Rattle.std.proofs.lemmas.Option.{slice_get_within}
use mathlib.Core.Path.{fun_ext}
use Rattle.bm_lang.specs.declared.scenario.MapDeclaration.{MapDeclaration}
use Rattle.bm_lang.specs.declared.scenario.Parts.{Parts}
use Rattle.bm_lang.specs.Fine.{HasConditions}
use Rattle.bm_lang.specs.Limits.{first_limit}
use Rattle.bm_page.specs.Stock.{Stock}
use Rattle.bm_law.specs.Lists.{AllName, Log}
use Rattle.bm_law.specs.State.{State, opening}
use Rattle.bm_law_scenario.specs.Fills.{fresh_stock, opening_stock}
use Rattle.bm_law_scenario.proofs.EachLevel.{AllAbove}
use Rattle.bm_law_order.specs.Bare.{bare_pool}
use Rattle.bm_law_order.specs.Calls.{lock_in}
use Rattle.bm_law_order.specs.Graphs.{graph_names_in, history_in, standing_from}
use Rattle.bm_law_order.specs.Orders.{AllFit, AllShared, Leads, Order, by, over, part_of}
use Rattle.bm_law_order.specs.Seals.{nobody_waits, waiting_after}
use Rattle.bm_law_order.specs.Shared.{Shared, fresh}
use Rattle.bm_law_order.specs.Slots.{named_in}
use Rattle.bm_law_order.specs.Story.{Steady, plainly}
use Rattle.bm_law_graphs.specs.Shelves.{nothing_shelved}
use Rattle.bm_law_graphs.specs.Uncalled.{CallNone}
use Rattle.bm_law_graphs.proofs.UncalledAlong.{uncalled-fits, uncalled-histories, uncalled-holders, uncalled-within}
use Rattle.bm_law_places.specs.World.{AllFound, SweepsInbox, World, outset, world_after}
use Rattle.bm_law_seals.specs.Batches.{BatchFits}
use Rattle.bm_cache.specs.Opening.{Fills, fill_log}
use Rattle.bm_world.specs.Contents.{are_apart}
use Rattle.bm_world.specs.LivingState.{LivingState, begun_at}
use Rattle.bm_world.specs.Slots.{AllEmpty, object_at, values_of}
use Rattle.bm_world.proofs.SlotLemmas.{no-object}
use Rattle.bm_law_order.specs.Made.{Fields}
use Rattle.bm_law_objects.specs.Objects.{nothing_owned, owned_after}
use Rattle.bm_world.specs.declared.slots.Object.{Object}
use Rattle.bm_world.specs.Standings.{standing_at, told_standing}
use Rattle.bm_world.specs.Told.{IsSideOf}
use Rattle.bm_world.specs.ToldLiving.{fields_told, told_living}
use Rattle.bm_world.specs.declared.standing.Standing.{Standing}
use Rattle.bm_world.specs.declared.standing.Standing.TheVariants.{Nothing}
use Rattle.bm_exec_levels.specs.Ready.{IsProgram}
use Rattle.bm_exec_levels.specs.declared.kept.Kept.{Kept}
use Rattle.bm_exec_levels.specs.declared.program.Program.{Program}
use Rattle.bm_run.specs.LeftAlone.{AllUnswept}
use Rattle.bm_run.specs.Opened.{fresh_world}
use Rattle.bm_run.specs.Openings.{AreFilled, AreOpen, filling_of, openings}
use Rattle.bm_run.specs.SoFar.{MadeAs, SealedSoFar, SoFar}
use Rattle.bm_run.specs.LogsSoFar.{OrderUnswept}
use Rattle.bm_run.proofs.AddedParts.{part-added, part-kept}
use Rattle.bm_run.proofs.BatchesTold.{LowStamp, unswept-append, unswept-by}
use Rattle.bm_run.proofs.Bounds.{within}
use Rattle.bm_run.proofs.FreshTold.{fills-tied, first-told, fresh-told, no-lives, no-slots, no-standing}
use Rattle.bm_run.proofs.OpeningLemmas.{graph-names-empty, living_side, named-empty, none-called, none-within}
use Rattle.bm_run.proofs.Opens.{filling-leaves, opens}
use Rattle.bm_run.proofs.SealsTold.{LowSend}
use Rattle.bm_run.proofs.SweepsTake.{unswept-take}
use Rattle.bm_run.proofs.TurnTaken.{fresh-so-far, sealed-at, so-far-at, turn-batches, turn-sealed, turn-taken}

-- ---- the parts of the processors

-- a processor has no entry before its opening
pub part-unopened : (classes : List ℕ) (pages n q : ℕ) → n ≤ q → part_of q (openings classes pages n) ≡ []
part-unopened classes pages zero q h = refl
part-unopened classes pages (suc p) q h =
    part-kept p q (openings classes pages p) (fill_log (filling_of classes pages p).fills) (λ e. absurd (omega (arith, h, e))) ∙ part-unopened classes pages p q (omega (arith, h))

-- .. and then the fills of its caches
pub part-opened : (classes : List ℕ) (pages n q : ℕ) → q < n → part_of q (openings classes pages n) ≡ fill_log (filling_of classes pages q).fills
part-opened classes pages zero q h = absurd (omega (arith, h))
part-opened classes pages (suc p) q h = elim (cases_eq q p) [
  | inl same ↦
      subst (λ k. part_of k (openings classes pages (suc p)) ≡ fill_log (filling_of classes pages k).fills) (sym same)
      (part-added p (openings classes pages p) (fill_log (filling_of classes pages p).fills) ∙ ap (λ (z : Log). z ++ fill_log (filling_of classes pages p).fills) (part-unopened classes pages p p (omega arith)))
  | inr other ↦ part-kept p q (openings classes pages p) (fill_log (filling_of classes pages p).fills) other ∙ part-opened classes pages p q (omega (arith, h, other))
]

-- ---- what fills don't do

-- they send nothing

fills-send : (fs : Fills) → AllAbove LowSend (fill_log fs)
fills-send [] = tt
fills-send (f ∷ fs) = (λ up. tt, fills-send fs)

-- .. and take no stamp
fills-stamp : (fs : Fills) → AllAbove LowStamp (fill_log fs)
fills-stamp [] = tt
fills-stamp (f ∷ fs) = (λ up. tt, fills-stamp fs)

-- they name nothing that has to be in the lists
fills-name : (fs : Fills) (s : State ℕ) → AllName s (fill_log fs)
fills-name [] s = tt
fills-name (f ∷ fs) s = (tt, fills-name fs _)

-- Each processor's part of the openings names what is in its lists.
pub openings-name : (classes : List ℕ) (pages n q : ℕ) → AllName (opening q) (part_of q (openings classes pages n))
openings-name classes pages n q = elim (cases_lt q n) [
  | inl below ↦ subst (AllName (opening q)) (sym (part-opened classes pages n q below)) (fills-name (filling_of classes pages q).fills (opening q))
  | inr above ↦ subst (AllName (opening q)) (sym (part-unopened classes pages n q above)) tt
]

-- they sweep nothing
fills-unswept : (fs : Fills) → AllUnswept (fill_log fs)
fills-unswept [] = tt
fills-unswept (f ∷ fs) = (tt, fills-unswept fs)

pub openings-unswept : (classes : List ℕ) (pages n : ℕ) → OrderUnswept (openings classes pages n)
openings-unswept classes pages zero = tt
openings-unswept classes pages (suc p) =
    let fs = (filling_of classes pages p).fills in
    unswept-append (openings classes pages p) (by p (fill_log fs)) (openings-unswept classes pages p) (unswept-by p (fill_log fs) (fills-unswept fs))

-- No list or tree is called in the openings, and no lock is taken.

none-append : (o q : Order) → CallNone o → CallNone q → CallNone (o ++ q)
none-append [] q h k = k
none-append (e ∷ o) q h k = (h.0, none-append o q h.1 k)

fills-uncalled : (p : ℕ) (fs : Fills) → CallNone (by p (fill_log fs))
fills-uncalled p [] = tt
fills-uncalled p (f ∷ fs) = (tt, fills-uncalled p fs)

pub openings-uncalled : (classes : List ℕ) (pages n : ℕ) → CallNone (openings classes pages n)
openings-uncalled classes pages zero = tt
openings-uncalled classes pages (suc p) =
    let fs = (filling_of classes pages p).fills in
    none-append (openings classes pages p) (by p (fill_log fs)) (openings-uncalled classes pages p) (fills-uncalled p fs)

fills-free : (fs : Fills) → lock_in (fill_log fs) ≡ None
fills-free [] = refl
fills-free (f ∷ fs) = fills-free fs

-- Nothing is swept in the openings.
pub openings-take : (classes : List ℕ) (pages n : ℕ) (w : World) → AllFit world_after SweepsInbox (openings classes pages n) w
openings-take classes pages n w = unswept-take (openings classes pages n) w (openings-unswept classes pages n)

-- So each entry of the openings finds what it needs, in the lists too, where it finds what is shared: by `found_law` of bm_law_places,
-- clause `parts`.
pub openings-found : ((o : Order) (w : World) → AllShared o w.shared → ((p : ℕ) → AllName (w.lists p) (part_of p o)) → AllFit world_after SweepsInbox o w → AllFound o w) →
    (n pages : ℕ) (classes : List ℕ) (world : LivingState) → SoFar n pages (openings classes pages n) world → AllFound (openings classes pages n) (outset n pages)
openings-found found n pages classes world h =
    found (openings classes pages n) (outset n pages) h.leads.fit (openings-name classes pages n) (openings-take classes pages n (outset n pages))

-- ---- turn after turn

-- it is processor p's side of a world in which nobody has done anything but open
fresh-is-side : (n p : ℕ) (pool : Stock) → p < n → n ≤ 8 → IsSideOf p (fresh_world n p pool).side
fresh-is-side n p pool lt most = record { post_is = refl; grace_is = refl; agree = refl; turn = lt; most = most; boxes = refl; plain_words = refl; tracing_words = refl }

-- What is so of an order of openings and the world after them: between two turns, while nothing was swept, and of batches.
record OpenedSoFar (n pages : ℕ) (o : Order) (world : LivingState) : Type 0 where
  so_far : SoFar n pages o world
  sealed : SealedSoFar o world
  batches : AllFit waiting_after BatchFits o nobody_waits

-- so it is before the first opening
none-opened : (n pages : ℕ) → OpenedSoFar n pages [] (fresh_world n 0 (fresh_stock pages))
none-opened n pages = record {
  so_far = fresh-so-far n pages (fresh_world n 0 (fresh_stock pages)) (first-told n 0 pages) refl refl;
  sealed = record { waits = fun_ext (λ u. ap told_standing (sym (no-standing u))); sealed = tt };
  batches = tt;
}

-- .. and after that of each processor, which is a turn of its
opened-so-far : (n pages : ℕ) (classes : List ℕ) (k : ℕ) → k ≤ n → n ≤ 8 → OpenedSoFar n pages (openings classes pages k) (fresh_world n 0 (opening_stock classes pages k))
opened-so-far n pages classes zero few most = none-opened n pages
opened-so-far n pages classes (suc p) few most =
    let before = opening_stock classes pages p in
    let pool = opening_stock classes pages (suc p) in
    let o = openings classes pages p in
    let fs = (filling_of classes pages p).fills in
    let log = fill_log fs in
    let start : LivingState = fresh_world n p before in
    let now : LivingState = fresh_world n p pool in
    let h = opened-so-far n pages classes p (omega (arith, few)) most in
    let tied = fills-tied n p classes before pool [] [] [] (sym (filling-leaves classes before)) no-slots no-lives no-standing in
    let own = fresh-is-side n p before (omega (arith, few)) most in
    let part = part-unopened classes pages p p (omega arith) in
    let sealed = sealed-at p o (fresh_world n 0 before) h.sealed in
    let t = turn-taken false n pages p o [] log start now (so-far-at n pages p o (fresh_world n 0 before) h.so_far) own part (fills-free fs) tied in
    let so_far : SoFar n pages (o ++ by p log) now = subst (λ (z : Log). SoFar n pages (o ++ by p z) now) (sym t.log_is) t.so_far in
    record {
      so_far = so-far-at n pages 0 (o ++ by p log) now so_far;
      sealed = sealed-at 0 (o ++ by p log) now (turn-sealed p o [] log log start now own part refl tied (fills-send fs) sealed);
      batches = turn-batches p o [] log log start now own part refl tied (fills-send fs) (fills-stamp fs) sealed h.batches;
    }

-- What is so far is so of a world that tells the same, with other lists and trees in which nothing is, where none was called.
so-far-told : (n pages : ℕ) (o : Order) (a b : LivingState) → told_living a ≡ told_living b → named_in b.contents ≡ named_in a.contents → fields_told a ≡ fields_told b → CallNone o → are_apart (graph_names_in b.graphs) ≡ true → ((name : List ℕ) → history_in b.graphs name ≡ []) → ((u : ℕ) → standing_from 0 b.graphs u ≡ None) → SoFar n pages o a → SoFar n pages o b
so-far-told n pages o a b e c f none apart empty stands h = record {
  leads = subst (λ s. Leads o (fresh n pages) (plainly s)) e h.leads;
  steady = subst Steady e h.steady;
  polled = h.polled;
  owned = h.owned;
  slots = h.slots ∙ sym c;
  apart = apart;
  shelved = uncalled-fits (graph_names_in b.graphs) o nothing_shelved none;
  histories = uncalled-histories (graph_names_in b.graphs) o nothing_shelved none ∙ fun_ext (λ name. sym (empty name));
  within = uncalled-within (graph_names_in b.graphs) o nothing_shelved none ∙ fun_ext (λ u. sym (stands u));
  unlocked = λ name. ap (λ (holders : List ℕ → Option ℕ). holders name) (uncalled-holders (graph_names_in b.graphs) o nothing_shelved none);
  unheld = h.unheld;
  made = λ u.
      subst (λ (g : Fields). MadeAs ((told_living b).lives.holds u) ((told_living b).lives.begun u) (g u) ((over owned_after o nothing_owned).objects.made u)) f
      (subst (λ (s : Shared). MadeAs (s.lives.holds u) (s.lives.begun u) (fields_told a u) ((over owned_after o nothing_owned).objects.made u)) e (h.made u));
}

-- In the openings batches go away as they have to: none does.
pub openings-batched : (n pages : ℕ) (classes : List ℕ) → n ≤ 8 → AllFit waiting_after BatchFits (openings classes pages n) nobody_waits
openings-batched n pages classes most = (opened-so-far n pages classes n (omega arith) most).batches

-- ---- all processors

-- Processors that have filled their caches one after the other are open, on a world in which nobody has done anything else.

pub all-open : (p : Program) (classes : List ℕ) (kept : List Kept) (pool : Stock) (slots : List (Option Object)) (begun : List ℕ) (standings : List Standing) → IsProgram p → HasConditions p.scenario.now → first_limit p.scenario.now ≡ None →
    length kept ≡ p.scenario.now.processors → are_apart (map (λ (m : MapDeclaration). m.name) p.scenario.now.maps) ≡ true → AreFilled p.scenario.now classes kept pool → AllEmpty slots → ((u : ℕ) → begun_at begun u ≡ 0) → ((u : ℕ) → standing_at standings u ≡ Nothing) →
    AreOpen p classes kept (living_side p.scenario.now.processors 0 pool slots begun standings p.scenario.now.maps)
all-open p classes kept pool slots begun standings fits fine limits many apart filled empty none stands =
    let s : Parts = p.scenario.now in
    let maps = s.maps in
    let n = s.processors in
    let some : 0 < n = fine.processors in
    let most : n ≤ 8 = (within s 0 some limits).processors in
    let o = openings classes s.pages n in
    let left : pool ≡ opening_stock classes s.pages n = filled.stock ∙ ap (opening_stock classes s.pages) many in
    let first : LivingState = fresh_world n 0 (opening_stock classes s.pages n) in
    let world : LivingState = living_side n 0 pool slots begun standings maps in
    let h = opened-so-far n s.pages classes n (omega arith) most in
    let same : told_living first ≡ told_living world =
    fresh-told n 0 s.pages (opening_stock classes s.pages n) [] [] [] [] no-slots no-lives
    ∙ (ap (λ (x : Stock). let y : Shared = record (fresh n s.pages) { pool = bare_pool x } in y) (sym left) ∙ sym (fresh-told n 0 s.pages pool slots begun standings maps empty none)) in
    record {
      many = many;
      each = λ i own f.
          let lt : i < n = (let w = slice_get_within kept i own f in omega (arith, w, many)) in
          let x = filled.each i own f in
          opens n i p (filling_of classes s.pages i) pool slots begun standings own lt most fits fine (within s i lt limits) x.filled x.units filled.unborn empty none stands;
      side = fresh-is-side n 0 pool some most;
      so_far = so-far-told n s.pages o first world same (named-empty maps) (fun_ext (λ u. ap values_of (no-object (object_at [] u) (no-slots u) ∙ sym (no-object (object_at slots u) (empty u)))))
          (openings-uncalled classes s.pages n) (ap are_apart (graph-names-empty maps) ∙ apart) (none-called maps) (none-within maps 0) h.so_far;
      sealed = record {
        waits = h.sealed.waits ∙ fun_ext (λ u. ap told_standing (no-standing u ∙ sym (stands u)));
        sealed = h.sealed.sealed;
      };
    }
