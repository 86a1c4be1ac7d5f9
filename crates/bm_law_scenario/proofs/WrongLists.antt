-- Calls on lists and trees that no script makes, and closings that leave something.
use Rattle.std.proofs.Common.{◌≡◌, ◌≤◌, ◌∙◌, ℕ, zero, suc, ◌+◌, Bool, true, false, List, [], ◌∷◌, ◌++◌, Option, None, Some, ap, append-nil, arith, codes, inl, inr, lit≤, refl, subst, sym}
use Rattle.bm_graph.specs.declared.ways.End.TheVariants as end_
use Rattle.bm_graph.specs.declared.ways.Way.TheVariants as way
use Rattle.bm_journal.specs.declared.entry.Entry.{Entry}
use Rattle.bm_journal.specs.declared.entry.Entry.TheVariants as entry
use Rattle.bm_journal.specs.declared.ids.ObjId.{ObjId}
use Rattle.bm_lang.specs.declared.scenario.MapDeclaration.{MapDeclaration}
use Rattle.bm_lang.specs.declared.scenario.MapId.{MapId}
use Rattle.bm_lang.specs.declared.scenario.MapKind.TheVariants as kind
use Rattle.bm_lang.specs.declared.scenario.TypeDeclaration.{TypeDeclaration}
use Rattle.bm_lang.specs.declared.scenario.TypeId.{TypeId}
use Rattle.bm_law.specs.Lists.{Log}
use Rattle.bm_law.specs.Ordinary.{ordinary}
use Rattle.bm_law.specs.Spans.{own_entries}
use Rattle.bm_law.specs.State.{State, opening}
use Rattle.bm_law.proofs.Spans.{own-append}
use Rattle.bm_law_scenario.specs.Calls.{RunsFirst, RunsGet, RunsLock, RunsPop, RunsPush, RunsRefused, RunsRemove, RunsUnlock, any_batch, put_in, taken}
use Rattle.bm_law_scenario.specs.Closing.{EmptiesList, EmptiesTree}
use Rattle.bm_law_scenario.specs.Declared.{graph_kind}
use Rattle.bm_law_scenario.specs.Held.{Names, no_names}
use Rattle.bm_law_scenario.specs.Held as held
use Rattle.bm_law_scenario.specs.Runs.{Run}
use Rattle.bm_law_scenario.specs.WorkedDrops.{a_field, y_name}
use Rattle.bm_law_scenario.specs.WorkedJournal.{x_name}
use Rattle.bm_law_scenario.specs.WorkedLists.{Empties, LeavesFrom, added, f_name, finds, found, found_none, graphs, holding_job, holding_shared, left, lock_of, locks, popped, popped_none, popped_soft, pops, pushed, pushes, q_id, q_map, r_id, reads_a, refused, removed, removed_none, removes, row_of, s_id, s_map, shared_spent, t_id, t_map, takes_job, takes_leaf, unlock_of, unlocks, within, work, works}
use Rattle.bm_law_scenario.proofs.BlockParts.{RunsList, block-parts}
use Rattle.bm_law_scenario.proofs.Cuts.{tail-of}
use Rattle.bm_law_scenario.proofs.Ordinary.{parted, said, stood}

-- ---- locks

none-some : {A : Type 0} (a : A) → None ≡ Some a → ⊥
none-some a e = absurd (cc)

some-none : {A : Type 0} (a : A) → Some a ≡ None → ⊥
some-none a e = absurd (cc)

pub unlocked_push-wrong : RunsPush graphs way.Back q_id x_name holding_job pushes pushed → ⊥
unlocked_push-wrong h = none-some q_id h.locked

pub unlocked_pop-wrong : RunsPop graphs end_.Front q_id y_name pushed pops popped → ⊥
unlocked_pop-wrong h = none-some q_id h.locked

pub unlocked_first-wrong : RunsFirst graphs t_id f_name added finds found → ⊥
unlocked_first-wrong h = none-some t_id h.locked

pub unlocked_remove-wrong : RunsRemove graphs t_id y_name f_name found removes removed → ⊥
unlocked_remove-wrong h = none-some t_id h.0

-- the number of what is locked
number : Option MapId → ℕ
number None = 9
number (Some g) = g.0

pub other_lock-wrong : RunsPush (within r_id) way.Back q_id x_name holding_job pushes pushed → ⊥
unfolding number
other_lock-wrong h = (let e : 1 ≡ 0 = ap number h.locked in omega (arith, e))

pub second_lock-wrong : RunsLock (within q_id) t_id no_names (lock_of (codes "t")) no_names → ⊥
second_lock-wrong h = some-none q_id h.none

slot-not : (is_tree : Bool) → kind.Slot ≡ graph_kind is_tree → ⊥
slot-not true e = absurd (cc)
slot-not false e = absurd (cc)

some-is : {A : Type 0} {a b : A} → Some a ≡ Some b → a ≡ b
some-is e = cc

pub slot_lock-wrong : RunsLock graphs s_id no_names (lock_of (codes "s")) no_names → ⊥
slot_lock-wrong h =
    let same : s_map ≡ h.declared = some-is h.is_graph.found in
    slot-not h.is_tree (ap (λ (m : MapDeclaration). m.kind) same ∙ h.is_graph.kind)

-- ---- work

empty : (es : List Entry) → ordinary es ≡ [] → es ≡ []
empty [] e = refl
empty (x ∷ xs) e = absurd (cc)

two-one : (a b c : Entry) → a ∷ b ∷ [] ≡ c ∷ [] → ⊥
two-one a b c e = absurd (cc)

one-two : (a b c : Entry) → a ∷ [] ≡ b ∷ c ∷ [] → ⊥
one-two a b c e = absurd (cc)

-- a list with nothing behind it
alone : (es one two : List Entry) → es ≡ one ++ two → two ≡ [] → es ≡ one
alone es one two e z = e ∙ (ap (λ w. one ++ w) z ∙ append-nil one)

pub work_under-wrong : LeavesFrom graphs locks no_names (lock_of (codes "q") ++ work) no_names → ⊥
work_under-wrong h =
    let es : List Entry = lock_of (codes "q") ++ work in
    let list : RunsList graphs 0 works locks no_names no_names (opening 0) (ordinary es) = subst (λ (run : Run). run no_names no_names (opening 0) (ordinary es)) (block-parts graphs 0 works (row_of locks h.0) 20) h.1 in
    let t = parted _ _ (opening 0) es list.1 in
    let u = parted _ _ (opening 0) t.left t.is_first.1 in
    let call = said _ (opening 0) u.left u.is_first in
    two-one _ _ _ (alone es t.left t.right t.whole (empty t.right t.is_second.1) ∙ alone t.left u.left u.right u.whole (empty u.right u.is_second.1) ∙ call.part_is)

pub no_work-wrong : LeavesFrom (within q_id) unlocks no_names (unlock_of (codes "q")) no_names → ⊥
no_work-wrong h =
    let es : List Entry = unlock_of (codes "q") in
    let list : RunsList (within q_id) 0 works unlocks no_names no_names (opening 0) (ordinary es) = subst (λ (run : Run). run no_names no_names (opening 0) (ordinary es)) (block-parts (within q_id) 0 works (row_of unlocks h.0) 20) h.1 in
    let t = parted _ _ (opening 0) es list.1 in
    let u = parted _ _ (opening 0) t.left t.is_first.1 in
    let call = said _ (opening 0) u.left u.is_first in
    let behind : u.right ≡ work = stood work _ u.right u.is_second.1 in
    one-two _ _ _ (alone es t.left t.right t.whole (empty t.right t.is_second.1) ∙ u.whole ∙ ap (λ w. w ++ u.right) call.part_is ∙ ap (λ w. entry.Unlock call.declared.name ∷ w) behind)

-- ---- what names hold

owned-not : (counted : Bool) (t t' : TypeId) (g : MapId) (u n u' n' : ℕ) → held.Object t u n ≡ put_in counted t' g u' n' → ⊥
owned-not true t t' g u n u' n' e = absurd (cc)
owned-not false t t' g u n u' n' e = absurd (cc)

pub kept-wrong : RunsPush (within q_id) way.Back q_id x_name holding_job pushes holding_job → ⊥
kept-wrong h = owned-not h.object.counted _ h.declared.type_id q_id 3 1 h.id.unit h.id.life (ap (λ (n : Names). n x_name) h.after_is)

nothing-taken : (t : TypeId) (item : Option ObjId) → held.Nothing ≡ taken t item → ⊥
nothing-taken t None e = absurd (cc)
nothing-taken t (Some o) e = absurd (cc)

pub taken_none-wrong : RunsPop (within q_id) end_.Front q_id y_name pushed pops popped_none → ⊥
taken_none-wrong h = nothing-taken h.declared.type_id h.item (ap (λ (n : Names). n y_name) h.after_is)

soft-not : (t : TypeId) (g : MapId) (u n : ℕ) → held.Soft t g u n ≡ held.Nothing → ⊥
soft-not t g u n e = absurd (cc)

pub soft_popped-wrong : RunsPop (within q_id) end_.Front q_id y_name pushed pops popped_soft → ⊥
soft_popped-wrong h = soft-not _ q_id 3 1 (ap (λ (n : Names). n x_name) h.after_is)

pub soft_unlocked-wrong : RunsUnlock (within q_id) pushed (unlock_of (codes "q")) pushed → ⊥
soft_unlocked-wrong h = soft-not _ q_id 3 1 (ap (λ (n : Names). n x_name) h.after_is)

object-not : (t : TypeId) (u n : ℕ) → held.Nothing ≡ held.Object t u n → ⊥
object-not t u n e = absurd (cc)

pub soft_read-wrong : RunsGet graphs.types x_name a_field left reads_a left → ⊥
soft_read-wrong h = elim h.held [ inl e ↦ object-not h.type h.unit h.life e | inr e ↦ soft-not h.type e.0 h.unit h.life (sym e.1) ]

null-soft : (t : TypeId) (g : MapId) (u n : ℕ) → held.Null ≡ held.Soft t g u n → ⊥
null-soft t g u n e = absurd (cc)

some-entry : (e : Entry) (es : List Entry) → e ∷ es ≡ [] → ⊥
some-entry e es q = absurd (cc)

pub null_call-wrong : RunsRemove (within t_id) t_id y_name f_name found_none removes removed_none → ⊥
null_call-wrong h = elim h.1 [ inl r ↦ null-soft r.declared.type_id t_id r.id.unit r.id.life r.held | inr r ↦ some-entry _ _ r.part_is ]

pub undropped-wrong : RunsRefused (within r_id) way.Back r_id x_name any_batch holding_shared refused shared_spent → ⊥
undropped-wrong h =
    let none : [] ≡ h.own = tail-of h.part_is in
    elim h.gives_up [ inl r ↦ some-entry _ _ (sym (none ∙ r.part_is)) | inr r ↦ some-entry _ _ (sym (none ∙ r.part_is)) ]

-- ---- the closing

-- how many calls find nothing
finds_none : Entry → ℕ
finds_none (entry.PopFront name None k) = 1
finds_none (entry.First name None k) = 1
finds_none _ = 0

nones : List Entry → ℕ
nones [] = 0
nones (e ∷ es) = finds_none e + nones es

nones-append : (v w : List Entry) → nones (v ++ w) ≡ nones v + nones w
unfolding nones
nones-append [] w = omega arith
nones-append (e ∷ es) w = (let h = nones-append es w in omega (arith, h))

nones-behind : (one two part : Log) → part ≡ one ++ two → 1 ≤ nones (own_entries 0 two) → 1 ≤ nones (own_entries 0 part)
nones-behind one two part e h =
    let whole : own_entries 0 part ≡ own_entries 0 one ++ own_entries 0 two = ap (own_entries 0) e ∙ own-append 0 one two in
    let sum = nones-append (own_entries 0 one) (own_entries 0 two) in
    subst (λ w. 1 ≤ nones w) (sym whole) (omega (arith, h, sum))

list-ends : (types : List TypeDeclaration) (m : MapDeclaration) (n : ℕ) (s : State ℕ) (part : Log) → EmptiesList types m n s part → 1 ≤ nones (own_entries 0 part)
unfolding nones finds_none
list-ends types m zero s part h = subst (λ w. 1 ≤ nones w) (sym h.1.own_is) (lit≤ tt)
list-ends types m (suc n) s part h =
    let t = h.2 in
    let u = t.is_second in
    nones-behind t.one t.two part t.part_is (nones-behind u.one u.two t.two u.part_is (list-ends types m n _ u.two u.is_second))

tree-ends : (types : List TypeDeclaration) (m : MapDeclaration) (n : ℕ) (s : State ℕ) (part : Log) → EmptiesTree types m n s part → 1 ≤ nones (own_entries 0 part)
unfolding nones finds_none
tree-ends types m zero s part h = subst (λ w. 1 ≤ nones w) (sym h.1.own_is) (lit≤ tt)
tree-ends types m (suc n) s part h =
    let t = h.3 in
    let u = t.is_second in
    nones-behind t.one t.two part t.part_is (nones-behind u.one u.two t.two u.part_is (tree-ends types m n _ u.two u.is_second))

pub list_left-wrong : Empties q_map takes_job → ⊥
unfolding nones finds_none
list_left-wrong h = (let e : 1 ≤ 0 = list-ends graphs.types q_map h.0 (opening 0) (ordinary takes_job) h.1 in omega (arith, e))

pub tree_left-wrong : Empties t_map takes_leaf → ⊥
unfolding nones finds_none
tree_left-wrong h = (let e : 1 ≤ 0 = tree-ends graphs.types t_map h.0 (opening 0) (ordinary takes_leaf) h.1 in omega (arith, e))
