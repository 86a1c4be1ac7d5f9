-- Locks, and calls on lists and trees.
use Rattle.std.proofs.Common.{◌≡◌, ◌⊎◌, ◌<◌, ◌≤◌, ◌∙◌, ℕ, ◌+◌, ◌||◌, Bool, true, false, List, [], ◌∷◌, length, refl, sym, ap, subst, Option, Some, None, IfSome, is_some, slice_get, arith, inl, inr, eqb, eq-eqb, nat_lt, if◌then◌else◌}
use Rattle.std.specs.Option.{option_map, option_map_or}
use Rattle.std.specs.Str.{bytes_eq}
use Rattle.std.proofs.lemmas.Bool.Decides.{Decides-eqb, nat_tests}
use Rattle.bm_graph.specs.Calls.{first_call}
use Rattle.bm_graph.specs.Entries.{call_entry}
use Rattle.bm_graph.specs.Ways.{is_for_tree, pop_call, push_call, refused_push}
use Rattle.bm_graph.specs.declared.ways.End.{End}
use Rattle.bm_graph.specs.declared.ways.End.TheVariants as end_is
use Rattle.bm_graph.specs.declared.ways.Way.{Way}
use Rattle.bm_graph.specs.declared.ways.Way.TheVariants as way_is
use Rattle.bm_journal.specs.declared.entry.Entry.{Entry}
use Rattle.bm_journal.specs.declared.entry.Entry.TheVariants as entry
use Rattle.bm_journal.specs.declared.ids.ObjId.{ObjId}
use Rattle.bm_journal.specs.declared.past.PastCall.TheVariants as past
use Rattle.bm_lang.specs.declared.scenario.Action.{Action, First, Lock, Remove, Unlock}
use Rattle.bm_lang.specs.declared.scenario.MapDeclaration.{MapDeclaration}
use Rattle.bm_lang.specs.declared.scenario.MapId.{MapId}
use Rattle.bm_lang.specs.declared.scenario.MapKind.{MapKind}
use Rattle.bm_lang.specs.declared.scenario.MapKind.TheVariants as kind
use Rattle.bm_lang.specs.declared.scenario.TypeDeclaration.{TypeDeclaration}
use Rattle.bm_lang.specs.declared.scenario.TypeId.{TypeId}
use Rattle.bm_law.specs.State.{State}
use Rattle.bm_law.specs.Lists.{Leaves, Log}
use Rattle.bm_law.specs.Spans.{Records}
use Rattle.bm_law.proofs.Spans.{Records-join, Records-none}
use Rattle.bm_law_work.specs.Grown.{GrewBy}
use Rattle.bm_law_work.specs.Parts.{Say}
use Rattle.bm_law_work.proofs.Grown.{grew-map, grew-say}
use Rattle.bm_law_scenario.proofs.Freed.{knows-batch}
use Rattle.bm_law_scenario.specs.Calls.{RunsFirst, RunsGivingUp, RunsLock, RunsPop, RunsPutting, RunsRemove, RunsUnlock, batch_in, found_in, put_in, taken}
use Rattle.bm_law_scenario.specs.Declared.{Declared, IsGraph, graph_kind, under}
use Rattle.bm_law_scenario.specs.Held.{Held, Names, Nothing, Null, Object, Soft, soft_ended, with_name}
use Rattle.bm_law_scenario.specs.Opened.{OfClass}
use Rattle.bm_law_scenario.specs.Runs.{RunsAction, unlocked}
use Rattle.bm_check.specs.declared.name_state.HeldLock.{HeldLock}
use Rattle.bm_check.specs.declared.name_state.HeldLock.TheVariants.{Nothing as NoLock, Here}
use Rattle.bm_check.specs.Statements.{Setting, is_counted, is_handler, type_of_map}
use Rattle.bm_check.specs.Values as safe
use Rattle.bm_exec.specs.Around.{Around, is_inside}
use Rattle.bm_exec.specs.declared.frame.Open.{Open}
use Rattle.bm_exec.specs.Given.{pop_action, push_action}
use Rattle.bm_exec.specs.Guarded.{Found, Guarded, Guards, IsFound, IsLock, IsSeen, IsShelved, Popped, PutIn, Refused, Removed, Sees, Shelved, place_in, shelved_at, with_guard, with_shelved, without_shelved}
use Rattle.bm_exec.specs.Lists.{Behind, Quiet}
use Rattle.bm_exec.specs.Living.{Holds, IsHeld, LetGo, Lives, TakesOut, let_go, refers}
use Rattle.bm_exec.specs.Meets.{Test, stack_meets}
use Rattle.bm_exec.specs.Running.{Performed}
use Rattle.bm_exec.specs.Runnable.{has_key, has_some_field, is_graph, is_graph_kind}
use Rattle.bm_exec.specs.Stack.{RunsStack, SafeStack, Sectioned, lock_of, under_lock}
use Rattle.bm_exec.specs.Cost.{stack_cost}
use Rattle.bm_exec.specs.Steps.{IsSafe, RunsNext, weight}
use Rattle.bm_exec.specs.Stores.{locked_in, store_of, value_of}
use Rattle.bm_exec.proofs.Exchanging.{holds-its-type, taken-hard}
use Rattle.bm_exec.proofs.Locks.{lock-is, quiet-locked, under-is, under-same}
use Rattle.bm_exec.proofs.Objects.{holds-ended, holds-null, holds-other, holds-takes, let-go, store-with}
use Rattle.bm_exec.proofs.Going.{some-cost}
use Rattle.bm_exec.proofs.Performing.{KeepsLock, called, none-left}
use Rattle.bm_exec.proofs.Softened.{nothing-hard, null-hard, sees-ended, sees-free, owns-after, owns-before, sees-nothing, sees-put, store-ended}
use Rattle.bm_exec.proofs.Tables.{is_or_not}

-- ---- lists and trees that are declared

graph-kind-is : (b : Bool) (k : MapKind) → is_graph_kind b k ≡ true → k ≡ graph_kind b
graph-kind-is true kind.Slot e = cc
graph-kind-is true kind.List e = cc
graph-kind-is true kind.Tree e = refl
graph-kind-is false kind.Slot e = cc
graph-kind-is false kind.List e = refl
graph-kind-is false kind.Tree e = cc

pub graph-is : (maps : List MapDeclaration) (b : Bool) (m : ℕ) (d : MapDeclaration) → is_graph b (slice_get maps m) ≡ true → slice_get maps m ≡ Some d → IsGraph maps b m d
graph-is maps b m d e found = record { found = found; kind = graph-kind-is b d.kind (ap (is_graph b) (sym found) ∙ e) }

some-map : (m k : MapDeclaration) → Some m ≡ Some k → m ≡ k
some-map m k e = cc

-- what is declared there is that list or tree
pub graph-again : (maps : List MapDeclaration) (b : Bool) (i : ℕ) (m k : MapDeclaration) → IsGraph maps b i m → slice_get maps i ≡ Some k → IsGraph maps b i k
graph-again maps b i m k of found = subst (λ (x : MapDeclaration). IsGraph maps b i x) (some-map m k (sym of.found ∙ found)) of

either-true : (a b : Bool) → (a || b) ≡ true → (a ≡ true) ⊎ (b ≡ true)
either-true true b e = inl refl
either-true false b e = inr e

pub any-graph-is : (maps : List MapDeclaration) (m : ℕ) (d : MapDeclaration) → (is_graph false (slice_get maps m) || is_graph true (slice_get maps m)) ≡ true → slice_get maps m ≡ Some d → (b : Bool) × IsGraph maps b m d
any-graph-is maps m d e found = elim (either-true (is_graph false (slice_get maps m)) (is_graph true (slice_get maps m)) e) [
  | inl list ↦ (false, graph-is maps false m d list found)
  | inr tree ↦ (true, graph-is maps true m d tree found)
]

-- the type of what it holds, by the setting
graph-type : (e : Setting) (maps : List MapDeclaration) (graph : MapId) (m : MapDeclaration) → e.maps ≡ maps → slice_get maps graph.0 ≡ Some m → type_of_map e graph ≡ Some m.type_id
graph-type e maps graph m from found = ap (λ (ms : List MapDeclaration). option_map (λ (k : MapDeclaration). k.type_id) (slice_get ms graph.0)) from ∙ ap (option_map (λ (k : MapDeclaration). k.type_id)) found

some-type : (t u : TypeId) → Some t ≡ Some u → t ≡ u
some-type t u e = cc

-- one map is declared there, of one type
map-type : (maps : List MapDeclaration) (graph : MapId) (m : MapDeclaration) → slice_get maps graph.0 ≡ Some m → (k : MapDeclaration) → slice_get maps graph.0 ≡ Some k → m.type_id ≡ k.type_id
map-type maps graph m found k again = ap (λ (x : MapDeclaration). x.type_id) (some-map m k (sym found ∙ again))

-- ---- what is guarded

-- only the lock and what is in lists and trees are guarded
pub guards-moved : (maps : List MapDeclaration) (handler : Bool) (l : ℕ) (g g' : Guarded) (k : HeldLock) → g'.lock ≡ g.lock → Guards maps handler l g k → Guards maps handler l g' k
guards-moved maps handler l g g' k e x = record { ground = x.ground; none = x.none; held = λ z. e ∙ x.held z; declared = x.declared }

without-lock : (was : Option ObjId) (g : Guarded) → (without_shelved was g).lock ≡ g.lock
without-lock None g = refl
without-lock (Some o) g = refl

-- another unit is where it was
shelved-still : (types : List TypeDeclaration) (t place : ℕ) (g : Guarded) (v u n : ℕ) (s : Option Shelved) → eqb v u ≡ false → IsShelved types t place g u n → IsShelved types t place (with_shelved v s g) u n
shelved-still types t place g v u n s other x = record { shelved = x.shelved; found = rw other x.found; place_is = x.place_is; life_is = x.life_is; type_is = x.type_is; made = x.made }

not-shelved : (g : Guarded) (u v : ℕ) (s : Shelved) → g.within u ≡ None → g.within v ≡ Some s → eqb u v ≡ false
not-shelved g u v s none some = elim (is_or_not (eqb u v)) [
  | inl same ↦ (let q : u ≡ v = (Decides-eqb u v).0 same in let f = sym none ∙ (ap g.within q ∙ some) in cc)
  | inr other ↦ other
]

-- what a name held that is put in is there then
now-shelved : (types : List TypeDeclaration) (lives : Lives) (g : Guarded) (t : TypeId) (place u n : ℕ) → IsHeld types lives t u n → IsShelved types t.0 place (with_shelved u (shelved_at place (lives u)) g) u n
now-shelved types lives g t place u n held = record {
  shelved = record { place = place; class = held.class; life = n; type = held.alive.type; values = held.alive.values };
  found = rw (eq-eqb u u refl) (ap (shelved_at place) held.alive.is);
  place_is = refl;
  life_is = refl;
  type_is = held.typed;
  made = record { declared = held.declared; of_class = held.of_class; fields = held.fields; few = held.few };
}

-- ---- the innermost block under another lock

safe-under : (e : Setting) (names : Names) (s : safe.Store) (k : HeldLock) (ps : List Open) → safe.with_lock s k ≡ store_of names k → 0 < length ps → SafeStack e (safe.with_lock s k) ps → IsSafe e names (under_lock k ps)
safe-under e names s k [] is some y = absurd (omega (arith, some))
safe-under e names s k (o ∷ ps) is some y = subst (λ (r : safe.Store). SafeStack e r (o ∷ ps)) is y

under-meets : (t : Test) (k : HeldLock) (ps : List Open) → stack_meets t ps ≡ true → stack_meets t (under_lock k ps) ≡ true
under-meets t k [] y = y
under-meets t k (o ∷ ps) y = y

under-sections : (base z : Around) (k : HeldLock) (ps : List Open) → Sectioned base z ps → Sectioned base z (under_lock k ps)
under-sections base z k [] y = y
under-sections base z k (o ∷ ps) y = y

under-cost : (k : HeldLock) (ps : List Open) → stack_cost (under_lock k ps) ≡ stack_cost ps
under-cost k [] = refl
under-cost k (o ∷ ps) = refl

under-weight : (k : HeldLock) (ps : List Open) → weight (under_lock k ps) ≡ weight ps
under-weight k [] = refl
under-weight k (o ∷ ps) = refl

not-both : {b : Bool} → b ≡ true → b ≡ false → ⊥
not-both q r = cc

-- ---- locks

pub lock-performed : (d : Declared) (l : ℕ) (z : Around) (w : Option (List ℕ)) (p : ℕ) (s s' : State ℕ) (g : Guarded) (graph : MapId) (b : Bool) (m : MapDeclaration) (names : Names) (os : List Open) (lives lives' : Lives) (asked asked' : ℕ) (log log' : Option Log) →
    IfSome log (λ es. Leaves p es s) → IfSome log' (λ es. Leaves p es s') → IsGraph d.maps b graph.0 m → Records l (entry.Lock m.name ∷ []) log log' → lives' ≡ lives → asked' ≤ asked + 1 → lock_of os ≡ NoLock → 0 < length os → Performed d l z z w s s' g (with_guard (Some graph.0) g) (Lock graph) names names os (under_lock (Here graph) os) lives lives' asked asked' log log'
lock-performed d l z w p s s' g graph b m names os lives lives' asked asked' log log' x x' of r alive n free some =
    let now = under_lock (Here graph) os in
    let locked : locked_in (lock_of now) ≡ Some graph = ap locked_in (under-is (Here graph) os some) in record {
      grew = called d l z w p (Lock graph) s s' s' names names os now log log' log' x x' x' refl
          (grew-say l (λ own. RunsLock (under (locked_in (lock_of os)) d) graph names own names) (entry.Lock m.name ∷ []) s log log' r
          (record { is_tree = b; declared = m; is_graph = of; none = ap locked_in free; part_is = refl; after_is = refl })) (none-left (Here graph) w s' log' refl);
      safe = λ e from k. safe-under e names (store_of names (lock_of os)) (Here graph) os refl some k.2;
      guards = λ e from k h. record {
        ground = h.ground;
        none = λ q. absurd (not-both q k.0);
        held = λ q. sym (ap place_in locked);
        declared = subst (IsLock d.maps) (sym locked) (b, m, of);
      };
      locked = locked;
      holds = λ base h. rw alive h;
      sees = λ h. sees-nothing d (with_guard (Some graph.0) g) (lock_of now) names (sees-free d g (lock_of os) names (ap locked_in free) h);
      meets = λ t h a c. under-meets t (Here graph) os c;
      sections = λ base h. under-sections base z (Here graph) os h;
      cost = (let c = under-cost (Here graph) os in omega (arith, c, n));
      weight = (let c = under-weight (Here graph) os in omega (arith, c));
      down = quiet-locked (lock_of now) graph w s' locked;
    }

pub unlock-performed : (d : Declared) (l : ℕ) (z : Around) (w : Option (List ℕ)) (p : ℕ) (s s1 s' : State ℕ) (g : Guarded) (graph : MapId) (b : Bool) (m : MapDeclaration) (names names' : Names) (os : List Open) (lives lives' : Lives) (asked asked' : ℕ) (log log1 log' : Option Log) →
    IfSome log (λ es. Leaves p es s) → IfSome log1 (λ es. Leaves p es s1) → IfSome log' (λ es. Leaves p es s') → IsGraph d.maps b graph.0 m → Records l (entry.Unlock m.name ∷ []) log log1 → names' ≡ soft_ended names → lives' ≡ lives → asked' ≤ asked + 2 → GrewBy (Behind w) s1 log1 log' → Behind w s' [] → lock_of os ≡ Here graph → 0 < length os → Performed d l z z w s s' g (with_guard None g) Unlock names names' os (under_lock NoLock os) lives lives' asked asked' log log'
unlock-performed d l z w p s s1 s' g graph b m names names' os lives lives' asked asked' log log1 log' x x1 x' of r e alive n work down held some =
    let now = under_lock NoLock os in
    let none : lock_of now ≡ NoLock = under-is NoLock os some in record {
      grew = called d l z w p Unlock s s1 s' names names' os now log log1 log' x x1 x' refl
          (grew-say l (λ own. RunsUnlock (under (locked_in (lock_of os)) d) names own names') (entry.Unlock m.name ∷ []) s log log1 r
          (record { graph = graph; locked = ap locked_in held; is_tree = b; declared = m; is_graph = of; part_is = refl; after_is = e })) work;
      safe = λ t from k. rw e (safe-under t (soft_ended names) (safe.soft_ended (store_of names (lock_of os))) NoLock os (sym (ap (λ (c : safe.Store). safe.with_lock c NoLock) (store-ended names (lock_of os)))) some k.2);
      guards = λ t from k h. record {
        ground = h.ground;
        none = λ q. none;
        held = λ q. sym (ap (λ c. place_in (locked_in c)) none);
        declared = subst (λ c. IsLock d.maps (locked_in c)) (sym none) tt;
      };
      locked = ap locked_in none;
      holds = λ base h. rw alive (rw e (holds-ended d.types base lives names h));
      sees = λ h. rw e (sees-ended d (with_guard None g) (lock_of now) names);
      meets = λ t h a c. under-meets t NoLock os c;
      sections = λ base h. under-sections base z NoLock os h;
      cost = (let c = under-cost NoLock os in omega (arith, c, n));
      weight = (let c = under-weight NoLock os in omega (arith, c));
      down = subst (λ c. Quiet c w s') (sym none) down;
    }

-- what a statement leaves that leaves the lock as it is, under it
called-under : (d : Declared) (l : ℕ) (z : Around) (w : Option (List ℕ)) (p : ℕ) (a : Action) (s s' : State ℕ) (names names' : Names) (os : List Open) (log log' : Option Log) → IfSome log (λ es. Leaves p es s) → IfSome log' (λ es. Leaves p es s') → KeepsLock a → Quiet (lock_of os) w s' →
    GrewBy (RunsAction (under (locked_in (lock_of os)) d) l (is_inside z) (Behind w) a names names') s log log' → (last : Names) (final : Option Log) → GrewBy (RunsStack d l z w os names' last) s' log' final → GrewBy (RunsNext d l z w a os names last) s log final
called-under d l z w p a s s' names names' os log log' x x' keeps quiet y =
    called d l z w p a s s' s' names names' os os log log' log' x x' x' (ap (λ k. under_lock k os) (keeps.0 (lock_of os)) ∙ under-same os) y
    (subst (λ o. GrewBy (unlocked o (Behind w)) s' log' log') (sym (keeps.1 (locked_in (lock_of os)))) (none-left (lock_of os) w s' log' quiet))

-- ---- puts

push-keeps : (way : Way) (graph : MapId) (x : List ℕ) → KeepsLock (push_action way graph x)
push-keeps way_is.Front graph x = (λ k. refl, λ o. refl)
push-keeps way_is.Back graph x = (λ k. refl, λ o. refl)
push-keeps way_is.Ordered graph x = (λ k. refl, λ o. refl)

putting : (c : Declared) (l : ℕ) (i : Bool) (w : Option (List ℕ)) (way : Way) (graph : MapId) (x : List ℕ) (names names' : Names) (s : State ℕ) (part : Log) → Say l (λ own. RunsPutting c way graph x (batch_in s) names own names') s part → RunsAction c l i (Behind w) (push_action way graph x) names names' s part
putting c l i w way_is.Front graph x names names' s part y = y
putting c l i w way_is.Back graph x names names' s part y = y
putting c l i w way_is.Ordered graph x names names' s part y = y

pushes-safe : (e : Setting) (s : safe.Store) (way : Way) (graph : MapId) (x : List ℕ) (Q : safe.Store → Type 0) → safe.SafeAction e s (push_action way graph x) Q → safe.Pushes e s graph x Q
pushes-safe e s way_is.Front graph x Q k = k
pushes-safe e s way_is.Back graph x Q k = k
pushes-safe e s way_is.Ordered graph x Q k = k

-- what a name is left with, as the law of accepted scripts has it
put-value : (counted : Bool) (t : TypeId) (graph : MapId) (u n : ℕ) → value_of (put_in counted t graph u n) ≡ (if counted then safe.Empty else safe.NonOwning t graph)
put-value true t graph u n = refl
put-value false t graph u n = refl

put-bare : (counted : Bool) (t : TypeId) (graph : MapId) (u n v : ℕ) → refers v (put_in counted t graph u n) ≡ false
put-bare true t graph u n v = refl
put-bare false t graph u n v = refl

put-no-object : (counted : Bool) (t t' : TypeId) (graph : MapId) (u n u' n' : ℕ) → put_in counted t graph u n ≡ Object t' u' n' → ⊥
put-no-object true t t' graph u n u' n' e = cc
put-no-object false t t' graph u n u' n' e = cc

counted-is : (e : Setting) (types : List TypeDeclaration) (t : TypeId) (d : TypeDeclaration) → e.types ≡ types → slice_get types t.0 ≡ Some d → is_counted e t ≡ d.counted
counted-is e types t d of found = ap (λ (ts : List TypeDeclaration). option_map_or (λ (k : TypeDeclaration). k.counted) (slice_get ts t.0) false) of ∙ ap (λ o. option_map_or (λ (k : TypeDeclaration). k.counted) o false) found

-- an object of a map whose objects have a key has a value
pub key-some : (types : List TypeDeclaration) (maps : List MapDeclaration) (graph : ℕ) (m : MapDeclaration) (d : TypeDeclaration) → has_key types (slice_get maps graph) ≡ true → slice_get maps graph ≡ Some m → slice_get types m.type_id.0 ≡ Some d → 0 < length d.fields
key-some types maps graph m d key found of = more (length d.fields) (ap has_some_field (sym of) ∙ (ap (has_key types) (sym found) ∙ key))
  where
    more : (n : ℕ) → nat_lt 0 n ≡ true → 0 < n
    more n e = grind (arith, nat_tests)

-- the type of what is put in
pub type-put : (names : Names) (x : List ℕ) (t u : TypeId) (v n : ℕ) → names x ≡ Object t v n → value_of (names x) ≡ safe.Owning u → u ≡ t
type-put names x t u v n held owns = (let q = sym owns ∙ ap value_of held in cc)

safe-put : (e : Setting) (types : List TypeDeclaration) (names : Names) (k : HeldLock) (way : Way) (graph : MapId) (x : List ℕ) (t : TypeId) (u n : ℕ) (d : TypeDeclaration) (os : List Open) → e.types ≡ types → slice_get types t.0 ≡ Some d → names x ≡ Object t u n → safe.SafeAction e (store_of names k) (push_action way graph x) (λ r. SafeStack e r os) → SafeStack e (store_of (with_name x (put_in d.counted t graph u n) names) k) os
safe-put e types names k way graph x t u n d os of found held it =
    let y = pushes-safe e (store_of names k) way graph x (λ r. SafeStack e r os) it in
    let F : TypeId → Type 0 = λ c. SafeStack e (safe.with_value (store_of names k) x (if is_counted e c then safe.Empty else safe.NonOwning c graph)) os in
    let G : Bool → Type 0 = λ b. SafeStack e (safe.with_value (store_of names k) x (if b then safe.Empty else safe.NonOwning t graph)) os in
    let V : safe.Value → Type 0 = λ v. SafeStack e (safe.with_value (store_of names k) x v) os in
    rw (store-with x (put_in d.counted t graph u n) names k) (subst V (sym (put-value d.counted t graph u n)) (subst G (counted-is e types t d of found) (subst F (type-put names x t y.1.0 u n held y.1.1) y.1.3)))

same-soft : (a a' : TypeId) (b b' : MapId) (c c' m m' : ℕ) → Soft a b c m ≡ Soft a' b' c' m' → (a ≡ a') × (b ≡ b') × (c ≡ c') × (m ≡ m')
same-soft a a' b b' c c' m m' e = (cc, cc, cc, cc)

-- what names see once a reference is put in
sees-put-in : (d : Declared) (lives : Lives) (g : Guarded) (k : HeldLock) (names : Names) (x : List ℕ) (counted : Bool) (t : TypeId) (graph : MapId) (u n : ℕ) → locked_in k ≡ Some graph → ((m : MapDeclaration) → slice_get d.maps graph.0 ≡ Some m → t ≡ m.type_id) → g.within u ≡ None → IsHeld d.types lives t u n → Sees d g k names → Sees d (with_shelved u (shelved_at graph.0 (lives u)) g) k (with_name x (put_in counted t graph u n) names)
sees-put-in d lives g k names x counted t graph u n locked typed none mine h y t' graph' u' n' held = elim (is_or_not (bytes_eq x y)) [
  | inl same ↦ new counted (rw same at held)
  | inr other ↦
      (let old = h y t' graph' u' n' (rw other at held) in
      record { locked = old.locked; typed = old.typed; shelved = shelved-still d.types t'.0 graph'.0 g u u' n' (shelved_at graph.0 (lives u)) (not-shelved g u u' old.shelved.shelved none old.shelved.found) old.shelved })
]
  where
    now : Guarded
    now = with_shelved u (shelved_at graph.0 (lives u)) g

    new : (c : Bool) → put_in c t graph u n ≡ Soft t' graph' u' n' → IsSeen d now k t' graph' u' n'
    new true e = cc
    new false e =
        let same = same-soft t t' graph graph' u u' n n' e in
        let S : TypeId → MapId → ℕ → ℕ → Type 0 = λ a b c e. IsSeen d now k a b c e in
        let first : IsSeen d now k t graph u n = record { locked = locked; typed = typed; shelved = now-shelved d.types lives g t graph.0 u n mine } in
        subst (λ d. S t' graph' u' d) same.3 (subst (λ c. S t' graph' c n) same.2 (subst (λ b. S t' b u n) same.1 (subst (λ a. S a graph u n) same.0 first)))

pub put-performed : (d : Declared) (l : ℕ) (z : Around) (w : Option (List ℕ)) (p : ℕ) (s s' : State ℕ) (g g' : Guarded) (way : Way) (graph : MapId) (x : List ℕ) (m : MapDeclaration) (o : ObjId) (object : TypeDeclaration) (names names' : Names) (os : List Open) (lives lives' : Lives) (asked asked' : ℕ) (log log' : Option Log) →
    IfSome log (λ es. Leaves p es s) → IfSome log' (λ es. Leaves p es s') → IsGraph d.maps (is_for_tree way) graph.0 m → slice_get d.types m.type_id.0 ≡ Some object → names x ≡ Object m.type_id o.unit o.life → IsHeld d.types lives m.type_id o.unit o.life → PutIn l graph.0 m.name way o log log' lives lives' g g' → names' ≡ with_name x (put_in object.counted m.type_id graph o.unit o.life) names → asked' ≤ asked + 2 → locked_in (lock_of os) ≡ Some graph →
    Performed d l z z w s s' g g' (push_action way graph x) names names' os os lives lives' asked asked' log log'
put-performed d l z w p s s' g g' way graph x m o object names names' os lives lives' asked asked' log log' told told' of found held mine got e n locked =
    let c : Declared = under (locked_in (lock_of os)) d in
    let a : Action = push_action way graph x in
    let keeps : KeepsLock a = push-keeps way graph x in
    let quiet : Quiet (lock_of os) w s' = quiet-locked (lock_of os) graph w s' locked in
    let v = put_in object.counted m.type_id graph o.unit o.life in record {
      grew = called-under d l z w p a s s' names names' os log log' told told' keeps quiet
          (grew-map (Say l (λ own. RunsPutting c way graph x (batch_in s) names own names')) (RunsAction c l (is_inside z) (Behind w) a names names') s log log' (putting c l (is_inside z) w way graph x names names' s)
          (grew-say l (λ own. RunsPutting c way graph x (batch_in s) names own names') (call_entry m.name got.position [] (push_call way o 0) ∷ []) s log log' got.records
          (inl (record { locked = locked; declared = m; is_graph = of; object = object; of_type = found; id = o; held = held; position = got.position; part_is = refl; after_is = e }))));
      safe = λ t from k. rw e (safe-put t d.types names (lock_of os) way graph x m.type_id o.unit o.life object os from.0 found held k);
      guards = λ t from k h. guards-moved d.maps (is_handler t.kind) l g g' (lock_of os) (ap (λ (q : Guarded). q.lock) got.now_in) h;
      locked = sym (keeps.1 (locked_in (lock_of os)));
      holds = λ base h. rw e (holds-other d.types base lives' names x v (λ u. put-bare object.counted m.type_id graph o.unit o.life u) (λ t u k q. put-no-object object.counted m.type_id t graph o.unit o.life u k q) (let-go d.types base lives lives' names x m.type_id o.unit o.life held got.less h));
      sees = λ h. rw e (rw got.now_in (sees-put-in d lives g (lock_of os) names x object.counted m.type_id graph o.unit o.life locked (map-type d.maps graph m of.found) got.free mine h));
      meets = λ t h q k. k;
      sections = λ base h. h;
      cost = (let one = some-cost a in omega (arith, n, one));
      weight = (let one = some-cost a in omega (arith, one));
      down = quiet;
    }

-- ---- refused puts

-- what a reference's giving up leaves
giving-up : (types : List TypeDeclaration) (l : ℕ) (s : State ℕ) (x : List ℕ) (t : TypeId) (o : ObjId) (names names' : Names) (lives lives' : Lives) (log log' : Option Log) (c : ℕ) (declared : TypeDeclaration) → OfClass types t.0 c declared → names x ≡ Object t o.unit o.life → names' ≡ with_name x Nothing names → LetGo l declared.counted c o s log log' lives lives' → (own : List Entry) × Records l own log log' × RunsGivingUp types x (batch_in s) names own names'
giving-up types l s x t o names names' lives lives' log log' c declared of held e (inl gone) = (
  entry.Drop o.unit o.life ∷ entry.Last ∷ gone.own,
  gone.records,
  inr (record { type = t; unit = o.unit; life = o.life; held = held; class = c; declared = declared; of_class = of; home = gone.home; batch = is_some (s.rows c).deferred.plain; batch_is = knows-batch s c; own = gone.own; part_is = refl; frees = gone.frees; after_is = e }),
)
giving-up types l s x t o names names' lives lives' log log' c declared of held e (inr (counted, gone)) = (
  entry.Drop o.unit o.life ∷ entry.Still gone.seen ∷ [],
  gone.records,
  inl (record { type = t; unit = o.unit; life = o.life; held = held; of_type = record { declared = declared; found = of.found; counted = counted }; seen = gone.seen; others = gone.others; part_is = refl; after_is = e }),
)

given-less : (l : ℕ) (counted : Bool) (c : ℕ) (o : ObjId) (s : State ℕ) (log log' : Option Log) (lives lives' : Lives) → LetGo l counted c o s log log' lives lives' → lives' ≡ let_go o.unit lives
given-less l counted c o s log log' lives lives' (inl gone) = gone.ends
given-less l counted c o s log log' lives lives' (inr (is, gone)) = gone.less

safe-refused : (e : Setting) (types : List TypeDeclaration) (names : Names) (k : HeldLock) (way : Way) (graph : MapId) (x : List ℕ) (t : TypeId) (u n : ℕ) (d : TypeDeclaration) (os : List Open) → e.types ≡ types → slice_get types t.0 ≡ Some d → d.counted ≡ true → names x ≡ Object t u n → safe.SafeAction e (store_of names k) (push_action way graph x) (λ r. SafeStack e r os) → SafeStack e (store_of (with_name x Nothing names) k) os
safe-refused e types names k way graph x t u n d os of found counted held it =
    let F : Bool → Type 0 = λ b. SafeStack e (store_of (with_name x (put_in b t graph u n) names) k) os in
    subst F counted (safe-put e types names k way graph x t u n d os of found held it)

pub refused-performed : (d : Declared) (l : ℕ) (z : Around) (w : Option (List ℕ)) (p : ℕ) (s s' : State ℕ) (g g1 : Guarded) (way : Way) (graph : MapId) (x : List ℕ) (m : MapDeclaration) (o : ObjId) (object : TypeDeclaration) (c : ℕ) (names names' : Names) (os : List Open) (lives lives1 lives' : Lives) (asked asked' : ℕ) (log log1 log' : Option Log) →
    IfSome log (λ es. Leaves p es s) → IfSome log' (λ es. Leaves p es s') → IsGraph d.maps (is_for_tree way) graph.0 m → OfClass d.types m.type_id.0 c object → object.counted ≡ true → names x ≡ Object m.type_id o.unit o.life → Refused l d.types d.maps m.name way o log log1 lives lives1 g g1 → LetGo l object.counted c o s log1 log' lives1 lives' → names' ≡ with_name x Nothing names → asked' ≤ asked + 2 → locked_in (lock_of os) ≡ Some graph →
    Performed d l z z w s s' g g1 (push_action way graph x) names names' os os lives lives' asked asked' log log'
refused-performed d l z w p s s' g g1 way graph x m o object c names names' os lives lives1 lives' asked asked' log log1 log' told told' of class counted held got gone e n locked =
    let k : Declared = under (locked_in (lock_of os)) d in
    let a : Action = push_action way graph x in
    let keeps : KeepsLock a = push-keeps way graph x in
    let quiet : Quiet (lock_of os) w s' = quiet-locked (lock_of os) graph w s' locked in
    let up = giving-up d.types l s x m.type_id o names names' lives1 lives' log1 log' c object class held e gone in
    let call : Entry = call_entry m.name got.position got.owning.name (refused_push way o 0 got.owner) in record {
      grew = called-under d l z w p a s s' names names' os log log' told told' keeps quiet
          (grew-map (Say l (λ own. RunsPutting k way graph x (batch_in s) names own names')) (RunsAction k l (is_inside z) (Behind w) a names names') s log log' (putting k l (is_inside z) w way graph x names names' s)
          (grew-say l (λ own. RunsPutting k way graph x (batch_in s) names own names') (call ∷ up.0) s log log' (Records-join l (call ∷ []) up.0 log log1 log' got.records up.1)
          (inr (record { locked = locked; declared = m; is_graph = of; id = o; held = held; position = got.position; owner = got.owner; owning = got.owning; is_owner = got.is_owner; own = up.0; part_is = refl; gives_up = up.2 }))));
      safe = λ t from q. rw e (safe-refused t d.types names (lock_of os) way graph x m.type_id o.unit o.life object os from.0 class.found counted held q);
      guards = λ t from q h. guards-moved d.maps (is_handler t.kind) l g g1 (lock_of os) (ap (λ (r : Guarded). r.lock) got.guarded_same) h;
      locked = sym (keeps.1 (locked_in (lock_of os)));
      holds = λ base h. rw e (let-go d.types base lives lives' names x m.type_id o.unit o.life held (given-less l object.counted c o s log1 log' lives1 lives' gone ∙ ap (let_go o.unit) got.lives_same) h);
      sees = λ h. rw e (rw got.guarded_same (sees-put d g (lock_of os) names x Nothing nothing-hard h));
      meets = λ t h q r. r;
      sections = λ base h. h;
      cost = (let one = some-cost a in omega (arith, n, one));
      weight = (let one = some-cost a in omega (arith, one));
      down = quiet;
    }

-- ---- takes

pop-keeps : (end : End) (list : MapId) (x : List ℕ) → KeepsLock (pop_action end list x)
pop-keeps end_is.Front list x = (λ k. refl, λ o. refl)
pop-keeps end_is.Back list x = (λ k. refl, λ o. refl)

popping : (c : Declared) (l : ℕ) (i : Bool) (w : Option (List ℕ)) (end : End) (list : MapId) (x : List ℕ) (names names' : Names) (s : State ℕ) (part : Log) → Say l (λ own. RunsPop c end list x names own names') s part → RunsAction c l i (Behind w) (pop_action end list x) names names' s part
popping c l i w end_is.Front list x names names' s part y = y
popping c l i w end_is.Back list x names names' s part y = y

pops-safe : (e : Setting) (s : safe.Store) (end : End) (list : MapId) (x : List ℕ) (Q : safe.Store → Type 0) → safe.SafeAction e s (pop_action end list x) Q → safe.Pops e (safe.soft_ended s) x list safe.Owning Q
pops-safe e s end_is.Front list x Q k = k
pops-safe e s end_is.Back list x Q k = k

-- what is left is safe, whatever was taken
safe-taken : (e : Setting) (maps : List MapDeclaration) (x : List ℕ) (graph : MapId) (m : MapDeclaration) (names : Names) (k : HeldLock) (was : Option ObjId) (os : List Open) → e.maps ≡ maps → slice_get maps graph.0 ≡ Some m → safe.Pops e (safe.soft_ended (store_of names k)) x graph safe.Owning (λ r. SafeStack e r os) → SafeStack e (store_of (with_name x (taken m.type_id was) (soft_ended names)) k) os
safe-taken e maps x graph m names k None os from found s =
    let S : safe.Store → Type 0 = λ r. SafeStack e (safe.with_value r x safe.Null) os in
    rw (store-with x Null (soft_ended names) k) (subst S (sym (store-ended names k)) (s.1.2.1 false))
safe-taken e maps x graph m names k (Some o) os from found s =
    let same : s.1.0 ≡ m.type_id = some-type s.1.0 m.type_id (sym s.1.1 ∙ graph-type e maps graph m from found) in
    let S : safe.Store → Type 0 = λ r. SafeStack e (safe.with_value r x (safe.Owning m.type_id)) os in
    rw (store-with x (Object m.type_id o.unit o.life) (soft_ended names) k) (subst S (sym (store-ended names k)) (subst (λ v. SafeStack e (safe.with_value (safe.soft_ended (store_of names k)) x (safe.Owning v)) os) same (s.1.2.1 true)))

-- a name may get what is taken
pub free-taken : (e : Setting) (names : Names) (k : HeldLock) (x : List ℕ) (graph : MapId) (Q : safe.Store → Type 0) → safe.Pops e (safe.soft_ended (store_of names k)) x graph safe.Owning Q → safe.is_owning (value_of (names x)) ≡ false
free-taken e names k x graph Q s = owns-before names k x s.1.2.0

pub free-popped : (e : Setting) (names : Names) (k : HeldLock) (end : End) (list : MapId) (x : List ℕ) (Q : safe.Store → Type 0) → safe.SafeAction e (store_of names k) (pop_action end list x) Q → safe.is_owning (value_of (names x)) ≡ false
free-popped e names k end list x Q s = free-taken e names k x list Q (pops-safe e (store_of names k) end list x Q s)

-- what names hold and see once something was taken
holds-popped : (types : List TypeDeclaration) (base lives lives' : Lives) (names : Names) (x : List ℕ) (t : TypeId) (was : Option ObjId) → safe.is_owning (value_of (names x)) ≡ false → TakesOut types t.0 lives lives' was → Holds types base lives names → Holds types base lives' (with_name x (taken t was) (soft_ended names))
holds-popped types base lives lives' names x t was free takes h = holds-takes types base lives lives' (soft_ended names) x t was (owns-after (names x) free) takes (holds-ended types base lives names h)

sees-popped : (d : Declared) (g : Guarded) (k : HeldLock) (names : Names) (x : List ℕ) (t : TypeId) (was : Option ObjId) → Sees d g k (with_name x (taken t was) (soft_ended names))
sees-popped d g k names x t was = sees-put d g k (soft_ended names) x (taken t was) (taken-hard t was) (sees-ended d g k names)

pub pop-performed : (d : Declared) (l : ℕ) (z : Around) (w : Option (List ℕ)) (p : ℕ) (s s' : State ℕ) (g g' : Guarded) (end : End) (list : MapId) (x : List ℕ) (m : MapDeclaration) (was : Option ObjId) (names names' : Names) (os : List Open) (lives lives' : Lives) (asked asked' : ℕ) (log log' : Option Log) →
    IfSome log (λ es. Leaves p es s) → IfSome log' (λ es. Leaves p es s') → IsGraph d.maps false list.0 m → safe.is_owning (value_of (names x)) ≡ false → Popped l d.types m.type_id.0 m.name end log log' lives lives' g g' was → names' ≡ with_name x (taken m.type_id was) (soft_ended names) → asked' ≤ asked + 1 → locked_in (lock_of os) ≡ Some list →
    Performed d l z z w s s' g g' (pop_action end list x) names names' os os lives lives' asked asked' log log'
pop-performed d l z w p s s' g g' end list x m was names names' os lives lives' asked asked' log log' told told' of free got e n locked =
    let c : Declared = under (locked_in (lock_of os)) d in
    let a : Action = pop_action end list x in
    let keeps : KeepsLock a = pop-keeps end list x in
    let quiet : Quiet (lock_of os) w s' = quiet-locked (lock_of os) list w s' locked in record {
      grew = called-under d l z w p a s s' names names' os log log' told told' keeps quiet
          (grew-map (Say l (λ own. RunsPop c end list x names own names')) (RunsAction c l (is_inside z) (Behind w) a names names') s log log' (popping c l (is_inside z) w end list x names names' s)
          (grew-say l (λ own. RunsPop c end list x names own names') (call_entry m.name got.position [] (pop_call end was) ∷ []) s log log' got.records
          (record { locked = locked; declared = m; is_graph = of; item = was; position = got.position; part_is = refl; after_is = e })));
      safe = λ t from k. rw e (safe-taken t d.maps x list m names (lock_of os) was os from.1 of.found (pops-safe t (store_of names (lock_of os)) end list x (λ r. SafeStack t r os) k));
      guards = λ t from k h. guards-moved d.maps (is_handler t.kind) l g g' (lock_of os) (ap (λ (q : Guarded). q.lock) got.now_in ∙ without-lock was g) h;
      locked = sym (keeps.1 (locked_in (lock_of os)));
      holds = λ base h. rw e (holds-popped d.types base lives lives' names x m.type_id was free got.takes h);
      sees = λ h. rw e (sees-popped d g' (lock_of os) names x m.type_id was);
      meets = λ t h q k. k;
      sections = λ base h. h;
      cost = (let one = some-cost a in omega (arith, n, one));
      weight = (let one = some-cost a in omega (arith, one));
      down = quiet;
    }

-- ---- the first of a tree

-- a name may get what is found
pub free-found : (e : Setting) (names : Names) (k : HeldLock) (x : List ℕ) (tree : MapId) (Q : safe.Store → Type 0) → safe.SafeAction e (store_of names k) (First x tree) Q → safe.is_owning (value_of (names x)) ≡ false
free-found e names k x tree Q s = s.1.2.0

safe-found : (e : Setting) (maps : List MapDeclaration) (x : List ℕ) (tree : MapId) (m : MapDeclaration) (names : Names) (k : HeldLock) (item : Option ObjId) (os : List Open) → e.maps ≡ maps → slice_get maps tree.0 ≡ Some m → safe.SafeAction e (store_of names k) (First x tree) (λ r. SafeStack e r os) → SafeStack e (store_of (with_name x (found_in m.type_id tree item) names) k) os
safe-found e maps x tree m names k None os from found s = rw (store-with x Null names k) (s.1.2.1 false)
safe-found e maps x tree m names k (Some o) os from found s =
    let same : s.1.0 ≡ m.type_id = some-type s.1.0 m.type_id (sym s.1.1 ∙ graph-type e maps tree m from found) in
    rw (store-with x (Soft m.type_id tree o.unit o.life) names k) (subst (λ v. SafeStack e (safe.with_value (store_of names k) x (safe.NonOwning v tree)) os) same (s.1.2.1 true))

found-bare : (t : TypeId) (tree : MapId) (item : Option ObjId) (u : ℕ) → refers u (found_in t tree item) ≡ false
found-bare t tree None u = refl
found-bare t tree (Some o) u = refl

found-no-object : (t : TypeId) (tree : MapId) (item : Option ObjId) (t' : TypeId) (u n : ℕ) → found_in t tree item ≡ Object t' u n → ⊥
found-no-object t tree None t' u n e = cc
found-no-object t tree (Some o) t' u n e = cc

sees-found : (d : Declared) (g : Guarded) (k : HeldLock) (names : Names) (x : List ℕ) (t : TypeId) (tree : MapId) (item : Option ObjId) → locked_in k ≡ Some tree → ((m : MapDeclaration) → slice_get d.maps tree.0 ≡ Some m → t ≡ m.type_id) → IsFound d.types t.0 tree.0 g item → Sees d g k names → Sees d g k (with_name x (found_in t tree item) names)
sees-found d g k names x t tree None locked typed found h y t' graph' u' n' held = sees-put d g k names x Null null-hard h y t' graph' u' n' held
sees-found d g k names x t tree (Some o) locked typed found h y t' graph' u' n' held = elim (is_or_not (bytes_eq x y)) [
  | inl same ↦ new (rw same at held)
  | inr other ↦ h y t' graph' u' n' (rw other at held)
]
  where
    new : Soft t tree o.unit o.life ≡ Soft t' graph' u' n' → IsSeen d g k t' graph' u' n'
    new e =
        let same = same-soft t t' tree graph' o.unit u' o.life n' e in
        let S : TypeId → MapId → ℕ → ℕ → Type 0 = λ a b c e. IsSeen d g k a b c e in
        let first : IsSeen d g k t tree o.unit o.life = record { locked = locked; typed = typed; shelved = found } in
        subst (λ d. S t' graph' u' d) same.3 (subst (λ c. S t' graph' c o.life) same.2 (subst (λ b. S t' b o.unit o.life) same.1 (subst (λ a. S a tree o.unit o.life) same.0 first)))

pub found-performed : (d : Declared) (l : ℕ) (z : Around) (w : Option (List ℕ)) (p : ℕ) (s s' : State ℕ) (g : Guarded) (x : List ℕ) (tree : MapId) (m : MapDeclaration) (item : Option ObjId) (names names' : Names) (os : List Open) (lives lives' : Lives) (asked asked' : ℕ) (log log' : Option Log) →
    IfSome log (λ es. Leaves p es s) → IfSome log' (λ es. Leaves p es s') → IsGraph d.maps true tree.0 m → safe.is_owning (value_of (names x)) ≡ false → Found l d.types m.type_id.0 tree.0 m.name log log' g item → names' ≡ with_name x (found_in m.type_id tree item) names → lives' ≡ lives → asked' ≤ asked + 1 → locked_in (lock_of os) ≡ Some tree →
    Performed d l z z w s s' g g (First x tree) names names' os os lives lives' asked asked' log log'
found-performed d l z w p s s' g x tree m item names names' os lives lives' asked asked' log log' told told' of free got e alive n locked =
    let quiet : Quiet (lock_of os) w s' = quiet-locked (lock_of os) tree w s' locked in record {
      grew = called-under d l z w p (First x tree) s s' names names' os log log' told told' (λ k. refl, λ o. refl) quiet
          (grew-say l (λ own. RunsFirst (under (locked_in (lock_of os)) d) tree x names own names') (call_entry m.name got.position [] (first_call item) ∷ []) s log log' got.records
          (record { locked = locked; declared = m; is_graph = of; item = item; position = got.position; part_is = refl; after_is = e }));
      safe = λ t from k. rw e (safe-found t d.maps x tree m names (lock_of os) item os from.1 of.found k);
      guards = λ t from k h. h;
      locked = refl;
      holds = λ base h. rw e (holds-null d.types base lives lives' names x (found_in m.type_id tree item) (found-bare m.type_id tree item) (found-no-object m.type_id tree item) free alive h);
      sees = λ h. rw e (sees-found d g (lock_of os) names x m.type_id tree item locked (map-type d.maps tree m of.found) got.found h);
      meets = λ t h q k. k;
      sections = λ base h. h;
      cost = omega (arith, n);
      weight = omega arith;
      down = quiet;
    }

-- ---- removes

-- the name's reference is into the tree
pub soft-graph : (v : Held) (t : TypeId) (graph tree : MapId) (u n : ℕ) → v ≡ Soft t graph u n → ((value_of v ≡ safe.Null) ⊎ ((t' : TypeId) × (value_of v ≡ safe.NonOwning t' tree))) → graph ≡ tree
soft-graph v t graph tree u n is (inl null) = (let q = sym null ∙ ap value_of is in cc)
soft-graph v t graph tree u n is (inr soft) = (let q = sym soft.1 ∙ ap value_of is in cc)

pub remove-performed : (d : Declared) (l : ℕ) (z : Around) (w : Option (List ℕ)) (p : ℕ) (s s' : State ℕ) (g g' : Guarded) (y : List ℕ) (tree : MapId) (x : List ℕ) (m : MapDeclaration) (o : ObjId) (names names' : Names) (os : List Open) (lives lives' : Lives) (asked asked' : ℕ) (log log' : Option Log) →
    IfSome log (λ es. Leaves p es s) → IfSome log' (λ es. Leaves p es s') → IsGraph d.maps true tree.0 m → names x ≡ Soft m.type_id tree o.unit o.life → safe.is_owning (value_of (names y)) ≡ false → Removed l d.types m.type_id.0 m.name o log log' lives lives' g g' → names' ≡ with_name y (Object m.type_id o.unit o.life) (soft_ended names) → asked' ≤ asked + 1 → locked_in (lock_of os) ≡ Some tree →
    Performed d l z z w s s' g g' (Remove y tree x) names names' os os lives lives' asked asked' log log'
remove-performed d l z w p s s' g g' y tree x m o names names' os lives lives' asked asked' log log' told told' of held free got e n locked =
    let quiet : Quiet (lock_of os) w s' = quiet-locked (lock_of os) tree w s' locked in record {
      grew = called-under d l z w p (Remove y tree x) s s' names names' os log log' told told' (λ k. refl, λ o. refl) quiet
          (grew-say l (λ own. RunsRemove (under (locked_in (lock_of os)) d) tree y x names own names') (call_entry m.name got.position [] (past.Remove o) ∷ []) s log log' got.records
          (locked, inl (record { declared = m; is_graph = of; id = o; held = held; position = got.position; part_is = refl; after_is = e })));
      safe = λ t from k. rw e (safe-taken t d.maps y tree m names (lock_of os) (Some o) os from.1 of.found k.1);
      guards = λ t from k h. guards-moved d.maps (is_handler t.kind) l g g' (lock_of os) (ap (λ (q : Guarded). q.lock) got.now_in) h;
      locked = refl;
      holds = λ base h. rw e (holds-popped d.types base lives lives' names y m.type_id (Some o) free got.takes h);
      sees = λ h. rw e (sees-popped d g' (lock_of os) names y m.type_id (Some o));
      meets = λ t h q k. k;
      sections = λ base h. h;
      cost = omega (arith, n);
      weight = omega arith;
      down = quiet;
    }

-- .. where the name holds null
pub spared-performed : (d : Declared) (l : ℕ) (z : Around) (w : Option (List ℕ)) (p : ℕ) (s : State ℕ) (g : Guarded) (y : List ℕ) (tree : MapId) (x : List ℕ) (m : MapDeclaration) (names names' : Names) (os : List Open) (lives : Lives) (asked : ℕ) (log : Option Log) →
    IfSome log (λ es. Leaves p es s) → IsGraph d.maps true tree.0 m → names x ≡ Null → safe.is_owning (value_of (names y)) ≡ false → names' ≡ with_name y Null (soft_ended names) → locked_in (lock_of os) ≡ Some tree →
    Performed d l z z w s s g g (Remove y tree x) names names' os os lives lives asked asked log log
spared-performed d l z w p s g y tree x m names names' os lives asked log told of held free e locked =
    let quiet : Quiet (lock_of os) w s = quiet-locked (lock_of os) tree w s locked in record {
      grew = called-under d l z w p (Remove y tree x) s s names names' os log log told told (λ k. refl, λ o. refl) quiet
          (grew-say l (λ own. RunsRemove (under (locked_in (lock_of os)) d) tree y x names own names') [] s log log (Records-none l log) (locked, inr (record { null = held; part_is = refl; after_is = e })));
      safe = λ t from k. rw e (safe-taken t d.maps y tree m names (lock_of os) None os from.1 of.found k.1);
      guards = λ t from k h. h;
      locked = refl;
      holds = λ base h. rw e (holds-popped d.types base lives lives names y m.type_id None free refl h);
      sees = λ h. rw e (sees-popped d g (lock_of os) names y m.type_id None);
      meets = λ t h q k. k;
      sections = λ base h. h;
      cost = omega arith;
      weight = omega arith;
      down = quiet;
    }

-- ---- what the law of accepted scripts says of the lock

pub push-locked : (e : Setting) (s : safe.Store) (way : Way) (graph : MapId) (x : List ℕ) (Q : safe.Store → Type 0) → safe.SafeAction e s (push_action way graph x) Q → locked_in s.lock ≡ Some graph
push-locked e s way graph x Q k = lock-is graph s.lock (pushes-safe e s way graph x Q k).0

pub push-gives : (e : Setting) (maps : List MapDeclaration) (names : Names) (k : HeldLock) (way : Way) (graph : MapId) (x : List ℕ) (m : MapDeclaration) (Q : safe.Store → Type 0) → e.maps ≡ maps → slice_get maps graph.0 ≡ Some m → safe.SafeAction e (store_of names k) (push_action way graph x) Q → value_of (names x) ≡ safe.Owning m.type_id
push-gives e maps names k way graph x m Q from found it =
    let y = pushes-safe e (store_of names k) way graph x Q it in
    y.1.1 ∙ ap safe.Owning (holds-its-type e maps graph m y.1.0 from found y.1.2)

pub pop-locked : (e : Setting) (s : safe.Store) (end : End) (list : MapId) (x : List ℕ) (Q : safe.Store → Type 0) → safe.SafeAction e s (pop_action end list x) Q → locked_in s.lock ≡ Some list
pop-locked e s end list x Q k = lock-is list s.lock (pops-safe e s end list x Q k).0

pub first-locked : (e : Setting) (s : safe.Store) (tree : MapId) (x : List ℕ) (Q : safe.Store → Type 0) → safe.SafeAction e s (First x tree) Q → locked_in s.lock ≡ Some tree
first-locked e s tree x Q k = lock-is tree s.lock k.0

pub remove-locked : (e : Setting) (s : safe.Store) (tree : MapId) (y x : List ℕ) (Q : safe.Store → Type 0) → safe.SafeAction e s (Remove y tree x) Q → locked_in s.lock ≡ Some tree
remove-locked e s tree y x Q k = lock-is tree s.lock k.1.0
