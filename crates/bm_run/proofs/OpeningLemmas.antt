-- A processor after its opening.
use Rattle.std.proofs.Common.{◌≡◌, ◌≢◌, ◌≤◌, ◌<◌, ◌+◌, ℕ, suc, zero, Bool, true, false, not, if◌then◌else◌, List, [], ◌∷◌, ◌++◌, length, get_or, map, refl, sym, ap, subst, ◌∙◌, Option, Some, None, arith, eq-eqb, eqb, ne_eqb, nat_lt, is_some, inl, inr, replicate}
use Rattle.std.specs.List.{All, AllPairs}
use Rattle.std.proofs.lemmas.Bool.{and_from, and_parts, cases_eq, ltb-true}
use Rattle.std.proofs.lemmas.Bool.Decides.{nat_tests}
use Rattle.std.proofs.lemmas.List.{get_or-replicate, map-append}
use Rattle.std.proofs.lemmas.List.Elements.{All-nil}
use Rattle.std.specs.Str.{bytes_eq}
use mathlib.Core.Path.{fun_ext}
use Rattle.bm_journal.specs.declared.ids.ObjId.{ObjId}
use Rattle.bm_journal.specs.declared.past.Past.{Past}
use Rattle.bm_lang.specs.declared.scenario.MapDeclaration.{MapDeclaration}
use Rattle.bm_journal.specs.declared.ids.Domain.{Domain}
use Rattle.bm_journal.specs.declared.ids.Domain.TheVariants.{Plain, Tracing}
use Rattle.bm_journal.specs.declared.entry.Entry.TheVariants as entry
use Rattle.bm_page.specs.declared.units.Seal.{Seal}
use Rattle.bm_page.specs.Stock.{Stock, stocked_at, fetched}
use Rattle.bm_page.specs.Out.{AreOut}
use Rattle.bm_page.proofs.StockLemmas.{out_inside}
use Rattle.bm_grace.specs.Known.{Living, Objects, side}
use Rattle.bm_post.specs.HasRoom.{has_room}
use Rattle.bm_post.specs.Kept.{IsRoomy}
use Rattle.bm_post.specs.PostState.{Parcels, PostState, is_mine, no_parcels, waits}
use Rattle.bm_post.proofs.Room.{room-is}
use Rattle.bm_world.specs.Standings.{has_waited, standing_at, standing_of}
use Rattle.bm_world.specs.declared.standing.Standing.{Standing}
use Rattle.bm_world.specs.declared.standing.Standing.TheVariants.{Nothing}
use Rattle.bm_world.proofs.Left.{waited-so}
use Rattle.bm_world.specs.LivingState.{HaveLived, LivingState, begun_at, known_living, lives_of, living_of, may_be_used, may_live, rights_living}
use Rattle.bm_world.specs.Slots.{AllEmpty, object_at, unit_at}
use Rattle.bm_world.specs.declared.slots.Object.{Object}
use Rattle.bm_world.proofs.SlotLemmas.{no-object}
use Rattle.bm_law.specs.Effect.{effect}
use Rattle.bm_law.specs.Lists.{is_unstamped}
use Rattle.bm_law.specs.Stands.{times}
use Rattle.bm_law.specs.State.{Deferred, Row, State, no_deferred, opening}
use Rattle.bm_cache.specs.Opening.{Fills, Ascending, FillsSuit, filled, named, numbers_in}
use Rattle.bm_cache.specs.Tests.{Reusable, Tests}
use Rattle.bm_cache.specs.Tokens.{Token, number_of}
use Rattle.bm_work.specs.Dated.{Dated, DatedRow}
use Rattle.bm_work.specs.DeskTests.{tests_by}
use Rattle.bm_law_scenario.specs.Declared.{Declared, graph_kind}
use Rattle.bm_law_order.specs.Graphs.{Standing as Stood, graph_names_in, history_in, standing_from}
use Rattle.bm_law_scenario.specs.Fills.{prefill}
use Rattle.bm_law_order.specs.Slots.{Slot, empty_slot, named_in}
use Rattle.bm_world.specs.Contents.{names_in, slot_at}
use Rattle.bm_world.specs.Graphs.{AreBare}
use Rattle.bm_exec.specs.Living.{one_less}
use Rattle.bm_exec_levels.specs.Slotted.{AreKinds, AreStocked, AreUnused, elsewhere, in_hands, less_times}
use Rattle.bm_run.specs.Filling.{filling, units_in, IsUnborn, NeverLived}
use Rattle.bm_run.specs.Opened.{ascends, empty_graphs, empty_slots, fresh_side, is_tree_kind}
use Rattle.bm_run.specs.Openings.{AreNew}

pub ascending : (cs : List ℕ) (pool : Stock) → ascends cs ≡ true → Ascending (filling cs pool).fills
ascending [] pool h = tt
ascending (c ∷ []) pool h = grind (arith, nat_tests, h)
ascending (c ∷ d ∷ cs) pool h =
    let both = and_parts (nat_lt c d) (ascends (d ∷ cs)) h in
    (ltb-true c d both.0, ascending (d ∷ cs) (fetched c (prefill c) pool).pool both.1)

numbers-units : (fs : Fills) → numbers_in fs ≡ map number_of (units_in fs)
numbers-units [] = refl
numbers-units (f ∷ fs) = ap (λ l. map number_of f.1 ++ l) (numbers-units fs) ∙ sym (map-append number_of f.1 (units_in fs))

-- units with different numbers
distinct-tail : (u : Token) (us : List Token) → AllPairs (λ (a b : Token). a.number ≢ b.number) (u ∷ us) → AllPairs (λ (a b : Token). a.number ≢ b.number) us
distinct-tail u us h i j d lt le = h (suc i) (suc j) d (omega arith) (omega arith)

absent : (n : ℕ) (us : List Token) → ((i : ℕ) (d : Token) → i < length us → n ≢ (get_or us i d).number) → times n (map number_of us) ≡ 0
absent n [] h = refl
absent n (u ∷ us) h = let rest = absent n us (λ i d lt. h (suc i) d (omega arith)) in rw (ne_eqb n u.number (h 0 u (omega arith))) (omega (arith, rest))

some-once : (us : List Token) → AllPairs (λ (a b : Token). a.number ≢ b.number) us → (n : ℕ) → times n (map number_of us) ≤ 1
some-once [] h n = omega arith
some-once (u ∷ us) h n =
    let r = some-once us (distinct-tail u us h) n in
    elim (cases_eq n u.number) [
      | inl same ↦ (let z = absent n us (λ i d lt. (λ f. h 0 (suc i) d (omega arith) (omega arith) (sym same ∙ f))) in rw (eq-eqb n u.number same) (omega (arith, z)))
      | inr other ↦ rw (ne_eqb n u.number other) (omega (arith, r))
    ]

pub fills-once : (fs : Fills) (pool : Stock) → AreOut pool (units_in fs) → (n : ℕ) → times n (numbers_in fs) ≤ 1
fills-once fs pool o n = subst (λ (l : List ℕ). times n l ≤ 1) (sym (numbers-units fs)) (some-once (units_in fs) o.distinct n)

-- ---- the side

-- no parcel waits in an empty inbox
pub none-at : (k i : ℕ) → get_or (replicate k (let x : Parcels = [] in x)) i [] ≡ []
none-at zero i = refl
none-at (suc k) zero = refl
none-at (suc k) (suc i) = none-at k i

no-waits : (k n : ℕ) → waits n (replicate k (let x : Parcels = [] in x)) ≡ 0
no-waits zero n = refl
no-waits (suc k) n = no-waits k n

pub roomy : (pool : Stock) → IsUnborn pool.units → IsRoomy pool
roomy pool h = record {
  size = let s = h.size in omega (arith, s);
  lives = λ n. let z = (h.each n).0 in omega (arith, z);
}

pub unlived : (post : PostState) → IsUnborn post.pool.units → post.inboxes ≡ no_parcels → HaveLived [] [] post
unlived post h e = record {
  stock = λ n out. ((h.each n).0, ap standing_of (sym (h.each n).1));
  boxes = λ i. let none : get_or post.inboxes i [] ≡ [] = ap (λ (z : List Parcels). get_or z i []) e ∙ none-at 88 i in rw none (All-nil _);
}

-- the world of processor p of n with nothing alive, and the slots of these maps
abbrev pub living_side : (n p : ℕ) → Stock → List (Option Object) → List ℕ → List Standing → List MapDeclaration → LivingState
living_side n p pool slots begun standings maps = record { side = fresh_side n p pool; slots = slots; begun = begun; standings = standings; asked = 0; contents = empty_slots maps; graphs = empty_graphs maps }

pub side-is : (n p : ℕ) (world : LivingState) (pool : Stock) (maps : List MapDeclaration) → world.side ≡ fresh_side n p pool → world.asked ≡ 0 → world.contents ≡ empty_slots maps → world.graphs ≡ empty_graphs maps → world ≡ living_side n p pool world.slots world.begun world.standings maps
side-is n p world pool maps e z c g =
    ap (λ s. let w : LivingState = record { side = s; slots = world.slots; begun = world.begun; standings = world.standings; asked = world.asked; contents = world.contents; graphs = world.graphs } in w) e ∙
    (ap (λ a. let w : LivingState = record { side = fresh_side n p pool; slots = world.slots; begun = world.begun; standings = world.standings; asked = a; contents = world.contents; graphs = world.graphs } in w) z ∙
    (ap (λ x. let w : LivingState = record { side = fresh_side n p pool; slots = world.slots; begun = world.begun; standings = world.standings; asked = 0; contents = x; graphs = world.graphs } in w) c ∙
    ap (λ x. let w : LivingState = record { side = fresh_side n p pool; slots = world.slots; begun = world.begun; standings = world.standings; asked = 0; contents = empty_slots maps; graphs = x } in w) g))

-- ---- slots that hold nothing

-- by whatever name
pub named-empty : (maps : List MapDeclaration) → named_in (empty_slots maps) ≡ (λ name. empty_slot)
named-empty maps = fun_ext (λ name. none maps name)
  where
    either : (b : Bool) (x : Slot) → x ≡ empty_slot → (if b then empty_slot else x) ≡ empty_slot
    either true x e = refl
    either false x e = e

    none : (maps : List MapDeclaration) (name : List ℕ) → named_in (empty_slots maps) name ≡ empty_slot
    none [] name = refl
    none (m ∷ ms) name = either (bytes_eq m.name name) (named_in (empty_slots ms) name) (none ms name)

-- .. or at whatever place
at-empty : (maps : List MapDeclaration) (place : ℕ) → (slot_at place (empty_slots maps)).slot.held ≡ None
at-empty [] place = refl
at-empty (m ∷ ms) zero = refl
at-empty (m ∷ ms) (suc place) = at-empty ms place

pub names-empty : (maps : List MapDeclaration) → names_in (empty_slots maps) ≡ map (λ (m : MapDeclaration). m.name) maps
names-empty [] = refl
names-empty (m ∷ ms) = ap (λ ns. m.name ∷ ns) (names-empty ms)

-- ---- lists and trees in which nothing is

pub graph-names-empty : (maps : List MapDeclaration) → graph_names_in (empty_graphs maps) ≡ map (λ (m : MapDeclaration). m.name) maps
graph-names-empty [] = refl
graph-names-empty (m ∷ ms) = ap (λ ns. m.name ∷ ns) (graph-names-empty ms)

pub bare-empty : (maps : List MapDeclaration) → AreBare (empty_graphs maps)
bare-empty [] i d lt = absurd (omega arith)
bare-empty (m ∷ ms) zero d lt = refl
bare-empty (m ∷ ms) (suc i) d lt = bare-empty ms i d (omega arith)

-- none was called
pub none-called : (maps : List MapDeclaration) (name : List ℕ) → history_in (empty_graphs maps) name ≡ []
none-called [] name = refl
none-called (m ∷ ms) name = either (bytes_eq m.name name) (history_in (empty_graphs ms) name) (none-called ms name)
  where
    either : (b : Bool) (h : List Past) → h ≡ [] → (if b then [] else h) ≡ []
    either true h e = refl
    either false h e = e

-- no object stands in one
pub none-within : (maps : List MapDeclaration) (place u : ℕ) → standing_from place (empty_graphs maps) u ≡ None
none-within [] place u = refl
none-within (m ∷ ms) place u = none-within ms (place + 1) u

-- a map that is declared as a tree is one, and one that is declared as a list is none
kind-told : (is_tree : Bool) → is_tree_kind (graph_kind is_tree) ≡ is_tree
kind-told true = refl
kind-told false = refl

kinds-empty : (maps : List MapDeclaration) → AreKinds maps (empty_graphs maps)
kinds-empty [] place m b found is = absurd (let z : ◌≡◌ {A = Option MapDeclaration} None (Some m) = found in cc)
kinds-empty (x ∷ xs) zero m b found is =
    let same : ◌≡◌ {A = Option MapDeclaration} (Some x) (Some m) = found in
    let e : x ≡ m = cc in
    ap (λ (y : MapDeclaration). is_tree_kind y.kind) e ∙ (ap is_tree_kind is ∙ kind-told b)
kinds-empty (x ∷ xs) (suc place) m b found is = kinds-empty xs place m b found is

-- none has a history
unused-empty : (maps : List MapDeclaration) → AreUnused maps (empty_graphs maps)
unused-empty [] place m found is = absurd (let z : ◌≡◌ {A = Option MapDeclaration} None (Some m) = found in cc)
unused-empty (x ∷ xs) zero m found is = (refl, refl)
unused-empty (x ∷ xs) (suc place) m found is = unused-empty xs place m found is

-- nothing lives, and nothing is in the slots, lists and trees
pub stocked-empty : (d : Declared) (o : Objects) → o.slots ≡ empty_slots d.maps → o.graphs ≡ empty_graphs d.maps → ((u : ℕ) → o.lives u ≡ None) → AreStocked d o
stocked-empty d o e g none = record {
  names = ap names_in e ∙ names-empty d.maps;
  graphs = ap graph_names_in g ∙ graph-names-empty d.maps;
  kinds = subst (AreKinds d.maps) (sym g) (kinds-empty d.maps);
  unused = subst (AreUnused d.maps) (sym g) (unused-empty d.maps);
  still = λ place m b found is. ap (λ ss. (slot_at place ss).slot.held) e ∙ at-empty d.maps place;
  items = λ u s h. absurd (let z : ◌≡◌ {A = Option Stood} None (Some s) = sym (ap (λ gs. standing_from 0 gs u) g ∙ none-within d.maps 0 u) ∙ h in cc);
  kept = λ u object h. absurd (let z : ◌≡◌ {A = Option Living} None (Some object) = sym (none u) ∙ h in cc);
  stocked = λ place x h. absurd (let z : ◌≡◌ {A = Option ObjId} None (Some x) = sym (ap (λ ss. (slot_at place ss).slot.held) e ∙ at-empty d.maps place) ∙ h in cc);
}

-- .. so no name holds a reference
pub no-hands : (o : Objects) (u : ℕ) → o.lives u ≡ None → in_hands o u ≡ None
no-hands o u e = ap (less_times (elsewhere o u)) e ∙ less (elsewhere o u)
  where
    less : (k : ℕ) → less_times k None ≡ None
    less zero = refl
    less (suc k) = ap one_less (less k)

pub none-live : (slots : List (Option Object)) → AllEmpty slots → (u : ℕ) → lives_of slots u ≡ None
none-live slots e u = ap living_of (no-object (object_at slots u) (e u))

-- a word of each processor is 0, of however many
all-zero : (k i : ℕ) → get_or {A = ℕ} (replicate k 0) i 0 ≡ 0
all-zero zero i = refl
all-zero (suc k) zero = refl
all-zero (suc k) (suc i) = all-zero k i

pub no-numbers : (n p : ℕ) (pool : Stock) (slots : List (Option Object)) (begun : List ℕ) (standings : List Standing) (maps : List MapDeclaration) (d : Domain) → (side d (known_living (living_side n p pool slots begun standings maps))).number ≡ 0
no-numbers n p pool slots begun standings maps Plain = refl
no-numbers n p pool slots begun standings maps Tracing = refl

pub no-words : (n p : ℕ) (pool : Stock) (slots : List (Option Object)) (begun : List ℕ) (standings : List Standing) (maps : List MapDeclaration) (d : Domain) → (side d (known_living (living_side n p pool slots begun standings maps))).word ≡ 0
no-words n p pool slots begun standings maps Plain = all-zero 8 p
no-words n p pool slots begun standings maps Tracing = all-zero 8 p

pub all-begins : (n p : ℕ) (pool : Stock) (slots : List (Option Object)) (begun : List ℕ) (standings : List Standing) (maps : List MapDeclaration) (d : Domain) → p < 8 → (side d (known_living (living_side n p pool slots begun standings maps))).begins ≡ 134217728
all-begins n p pool slots begun standings maps Plain lt = get_or-replicate 8 p 134217728 0 lt
all-begins n p pool slots begun standings maps Tracing lt = get_or-replicate 8 p 134217728 0 lt

-- ---- each unit may be used again

mine-here : (n p : ℕ) (pool : Stock) (slots : List (Option Object)) (begun : List ℕ) (standings : List Standing) (maps : List MapDeclaration) (u : ℕ) → AllEmpty slots → (stocked_at pool.units u).out ≡ true → (rights_living (living_side n p pool slots begun standings maps)).mine u ≡ true
mine-here n p pool slots begun standings maps u e o =
    let none : not (is_some (unit_at slots u)) ≡ true = ap (λ x. not (is_some x)) (e u) in
    let alone : eqb (waits u no_parcels) 0 ≡ true = ap (λ k. eqb k 0) (no-waits 88 u) in
    and_from (is_mine (fresh_side n p pool).post u) (not (is_some (unit_at slots u))) (and_from (stocked_at pool.units u).out (eqb (waits u no_parcels) 0) o alone) none

settled-here : (begun : List ℕ) (standings : List Standing) (n life : ℕ) (seal : Option Seal) → n < 65536 → NeverLived life seal → begun_at begun n ≡ 0 → standing_at standings n ≡ Nothing → may_be_used begun standings n life seal ≡ true
settled-here begun standings n life seal lt new none stands =
    let z = new.0 in
    and_from (may_live begun n life) (has_waited (standing_at standings n) seal)
    (and_from (has_room n life) (eqb life (begun_at begun n)) (room-is n life (omega (arith, lt)) (omega (arith, z))) (eq-eqb life (begun_at begun n) (z ∙ sym none)))
    (waited-so (standing_at standings n) seal (stands ∙ ap standing_of (sym new.1)))

reusable : (n p : ℕ) (pool : Stock) (slots : List (Option Object)) (begun : List ℕ) (standings : List Standing) (maps : List MapDeclaration) (u : Token) → AllEmpty slots → ((k : ℕ) → begun_at begun k ≡ 0) → ((k : ℕ) → standing_at standings k ≡ Nothing) → IsUnborn pool.units → NeverLived u.life u.seal → (stocked_at pool.units u.number).out ≡ true → Reusable (tests_by (rights_living (living_side n p pool slots begun standings maps))) u
reusable n p pool slots begun standings maps u e none stands born z o =
    let inside = out_inside pool.units u.number o in
    let size = born.size in
    and_from ((rights_living (living_side n p pool slots begun standings maps)).mine u.number) (may_be_used begun standings u.number u.life u.seal) (mine-here n p pool slots begun standings maps u.number e o) (settled-here begun standings u.number u.life u.seal (omega (arith, inside, size)) z (none u.number) (stands u.number))

all-front : (P : Token → Type 0) (xs ys : List Token) → All P (xs ++ ys) → All P xs
all-front P [] ys h i d lt = absurd (omega arith)
all-front P (x ∷ xs) ys h zero d lt = h 0 d (omega arith)
all-front P (x ∷ xs) ys h (suc i) d lt = all-front P xs ys (λ k e l. h (suc k) e (omega arith)) i d (omega arith)

all-back : (P : Token → Type 0) (xs ys : List Token) → All P (xs ++ ys) → All P ys
all-back P [] ys h = h
all-back P (x ∷ xs) ys h = all-back P xs ys (λ k e l. h (suc k) e (omega arith))

suits : (t : Tests) (fs : Fills) → All (Reusable t) (units_in fs) → FillsSuit t fs
suits t [] h = tt
suits t (f ∷ fs) h = (all-front (Reusable t) f.1 (units_in fs) h, suits t fs (all-back (Reusable t) f.1 (units_in fs) h))

pub fills-suit : (n p : ℕ) (pool : Stock) (slots : List (Option Object)) (begun : List ℕ) (standings : List Standing) (maps : List MapDeclaration) (fs : Fills) → AllEmpty slots → ((k : ℕ) → begun_at begun k ≡ 0) → ((k : ℕ) → standing_at standings k ≡ Nothing) → IsUnborn pool.units → AreNew pool (units_in fs) → FillsSuit (tests_by (rights_living (living_side n p pool slots begun standings maps))) fs
fills-suit n p pool slots begun standings maps fs e none stands born new =
    suits (tests_by (rights_living (living_side n p pool slots begun standings maps))) fs (λ i d lt. reusable n p pool slots begun standings maps (get_or (units_in fs) i d) e none stands born (new.unlived i d lt) (new.out i d lt))

-- ---- no deferred work is in progress

either-row : (b : Bool) (r q : Row Token) (d : Deferred Token) → r.deferred ≡ d → q.deferred ≡ d → (if b then r else q).deferred ≡ d
either-row true r q d e f = e
either-row false r q d e f = f

deferred-filled : (fs : Fills) (s : State Token) → ((k : ℕ) → (s.rows k).deferred ≡ no_deferred) → (k : ℕ) → ((filled fs s).rows k).deferred ≡ no_deferred
deferred-filled [] s h = h
deferred-filled (f ∷ fs) s h = deferred-filled fs (effect 0 (entry.Fill f.0 (named f.1)) f.1 s) (λ k. either-row (eqb k f.0) _ (s.rows k) no_deferred (h f.0) (h k))

either-flag : (b : Bool) (r q : Row Token) → r.raised ≡ false → q.raised ≡ false → (if b then r else q).raised ≡ false
either-flag true r q e f = e
either-flag false r q e f = f

lowered-filled : (fs : Fills) (s : State Token) → ((k : ℕ) → (s.rows k).raised ≡ false) → (k : ℕ) → ((filled fs s).rows k).raised ≡ false
lowered-filled [] s h = h
lowered-filled (f ∷ fs) s h = lowered-filled fs (effect 0 (entry.Fill f.0 (named f.1)) f.1 s) (λ k. either-flag (eqb k f.0) _ (s.rows k) (h f.0) (h k))

pub lowered : (p : ℕ) (fs : Fills) (s : State Token) → s ≡ filled fs (opening p) → (c : ℕ) → (s.rows c).raised ≡ false
lowered p fs s e c = ap (λ (x : State Token). (x.rows c).raised) e ∙ lowered-filled fs (opening p) (λ i. refl) c

no-dates : (t : Tests) → DatedRow t no_deferred
no-dates t = record {
  plain = λ x e. absurd (clash e);
  tracing = λ x e. absurd (clash e);
  some = λ x e. absurd (clash e);
  settled = All-nil (Reusable t);
}
  where
    clash : {x : ℕ} → ◌≡◌ {A = Option ℕ} None (Some x) → ⊥
    clash e = cc

pub dated : (p : ℕ) (t : Tests) (fs : Fills) (s : State Token) → s ≡ filled fs (opening p) → Dated t s
dated p t fs s e k =
    let d : (s.rows k).deferred ≡ no_deferred = ap (λ (x : State Token). (x.rows k).deferred) e ∙ deferred-filled fs (opening p) (λ i. refl) k in
    subst (DatedRow t) (sym d) (no-dates t)

pub stamped : (p : ℕ) (fs : Fills) (s : State Token) → s ≡ filled fs (opening p) → (c : ℕ) → is_unstamped (s.rows c).deferred.plain ≡ false
stamped p fs s e c =
    let d : (s.rows c).deferred ≡ no_deferred = ap (λ (x : State Token). (x.rows c).deferred) e ∙ deferred-filled fs (opening p) (λ i. refl) c in
    ap (λ (x : Deferred Token). is_unstamped x.plain) d
