use Rattle.std.proofs.Common.{◌∙◌, ap, inl, inr, length, reverse, subst, sym, refl, arith}
use Rattle.std.proofs.lemmas.List.{length-reverse}
use Rattle.bm_check.specs.Values.{is_owning}
use Rattle.bm_check.specs.Statements.{is_handler}
use Rattle.bm_graph.specs.declared.ways.End.TheVariants as end_is
use Rattle.bm_graph.specs.declared.ways.Way.TheVariants as way_is
use Rattle.bm_lang.specs.declared.scenario.Action.{Acquire, Add, Exchange, First, Lock, New, None', PopBack, PopFront, PushBack, PushFront, Remove, Some'}
use Rattle.bm_exec.specs.Guarded.{IsLock, place_in}
use Rattle.bm_exec.specs.Stack.{SafeStack, lock_of}
use Rattle.bm_exec.specs.Stores.{locked_in, store_of}
use Rattle.bm_exec.specs.Seen.{has_name, names_of}
use Rattle.bm_exec.proofs.Meeting.{block-room, new-known, opens-again, opens-if, opens-other, opens-section}
use Rattle.bm_exec.proofs.Counted.{counted-in, owning-one}
use Rattle.bm_exec.proofs.Guarding.{first-locked, free-found, free-popped, free-taken, pop-locked, push-gives, push-locked, remove-locked}
use Rattle.bm_exec.proofs.Locks.{grounded, lock-held}
use Rattle.bm_exec.proofs.Exchanging.{free-in, gives-in}
use Rattle.bm_exec.proofs.Fields.{field-in}
use Rattle.bm_exec.proofs.Performing.{first-performed, left, other-performed, right, skip-performed, repeat-performed, yield-performed}
use Rattle.bm_exec.proofs.Yields.{unyielding-none, yields-one}
use Rattle.bm_exec.specs.Named.{declared_of}
use Rattle.bm_exec.proofs.running.perform.Goals as goal

-- ---- room for a block

pub open_block-requires : goal.open_block-requires
open_block-requires g c =
    let types = declared_of c.args.types.now in
    let known = has_name c.args.names.now in
    let os = c.args.frame.now.blocks.items in
    let o = opens-if types known (length (reverse os)) c.in-If.name c.in-If.body c.in-If.otherwise (rw c.in-If.is at c.requires.may) in
    let room = block-room types known (length (reverse os)) c.in-If.body o.1 in
    record { room = omega (arith, room, length-reverse os) }

pub open_block-requires-in-Soft : goal.open_block-requires-in-Soft
open_block-requires-in-Soft g c =
    let types = declared_of c.args.types.now in
    let known = has_name c.args.names.now in
    let os = c.args.frame.now.blocks.items in
    let o = opens-if types known (length (reverse os)) c.in-If.name c.in-If.body c.in-If.otherwise (rw c.in-If.is at c.requires.may) in
    let room = block-room types known (length (reverse os)) c.in-If.body o.1 in
    record { room = omega (arith, room, length-reverse os) }

pub open_block-requires-in-Some : goal.open_block-requires-in-Some
open_block-requires-in-Some g c =
    let types = declared_of c.args.types.now in
    let known = has_name c.args.names.now in
    let os = c.args.frame.now.blocks.items in
    let is = rw c.in-Some.is at c.in-If.is in
    let o = opens-other types known (length (reverse os)) c.in-If.name c.in-If.body c.in-Some.block (rw is at c.requires.may) in
    let room = block-room types known (length (reverse os)) c.in-Some.block o.1 in
    record { room = omega (arith, room, length-reverse os) }

pub repeat_block-requires : goal.repeat_block-requires
repeat_block-requires g c =
    let types = declared_of c.args.types.now in
    let known = has_name c.args.names.now in
    let os = c.args.frame.now.blocks.items in
    let o = opens-again types known (length (reverse os)) c.in-Repeat.count c.in-Repeat.body (rw c.in-Repeat.is at c.requires.may) in
    let room = block-room types known (length (reverse os)) c.in-Repeat.body o.1 in
    record { room = omega (arith, room, length-reverse os) }

pub perform_section-requires-clause-fits : goal.perform_section-requires-clause-fits
perform_section-requires-clause-fits g c =
    let types = declared_of c.args.types.now in
    let known = has_name c.args.names.now in
    let os = c.args.frame.now.blocks.items in
    let o = opens-section types known (length (reverse os)) c.in-Section.body (rw c.in-Section.is at c.requires.may) in
    let room = block-room types known (length (reverse os)) c.in-Section.body o.1 in
    omega (arith, room, length-reverse os)

-- ---- calls

pub perform_new-requires-clause-can : goal.perform_new-requires-clause-can
perform_new-requires-clause-can g c =
    let os = c.args.frame.now.blocks.items in
    (new-known (declared_of c.args.types.now) (has_name c.args.names.now) (length (reverse os)) (New c.in-New.name c.in-New.type_id c.in-New.values) (rw c.in-New.is at c.requires.may)).0

pub perform_new-requires-clause-there : goal.perform_new-requires-clause-there
perform_new-requires-clause-there g c =
    let os = c.args.frame.now.blocks.items in
    (new-known (declared_of c.args.types.now) (has_name c.args.names.now) (length (reverse os)) (New c.in-New.name c.in-New.type_id c.in-New.values) (rw c.in-New.is at c.requires.may)).1

pub perform_acquire-requires-clause-there : goal.perform_acquire-requires-clause-there
perform_acquire-requires-clause-there g c =
    let os = c.args.frame.now.blocks.items in
    (new-known (declared_of c.args.types.now) (has_name c.args.names.now) (length (reverse os)) (Acquire c.in-Acquire.name c.in-Acquire.of) (rw c.in-Acquire.is at c.requires.may)).1

pub perform_acquire-requires-clause-owned : goal.perform_acquire-requires-clause-owned
perform_acquire-requires-clause-owned g c =
    let e = rw c.in-Acquire.is at c.requires.needed.4 in
    ap is_owning e.1

pub perform_acquire-requires-clause-free : goal.perform_acquire-requires-clause-free
perform_acquire-requires-clause-free g c =
    let e = rw c.in-Acquire.is at c.requires.needed.4 in
    e.3.0

pub perform_acquire-requires-clause-counted : goal.perform_acquire-requires-clause-counted
perform_acquire-requires-clause-counted g c t v =
    let e = rw c.in-Acquire.is at c.requires.needed.4 in
    counted-in c.requires.needed.0 c.args.types.now.declared.now e.0 t c.requires.needed.1 (owning-one e.0 t (sym e.1 ∙ v)) e.2

pub perform_get-requires-clause-field : goal.perform_get-requires-clause-field
perform_get-requires-clause-field g c =
    let e = rw c.in-Get.is at c.requires.needed.4 in
    (e.0, e.1, field-in c.requires.needed.0 c.args.types.now.declared.now c.in-Get.field e.0 e.0 c.requires.needed.1 refl e.2)

pub perform_get-requires-clause-seen : goal.perform_get-requires-clause-seen
perform_get-requires-clause-seen g c t graph u n held =
    let m = c.args.machine.now in
    let maps = c.args.types.now.maps.now in
    let k = lock_of (reverse c.args.frame.now.blocks.items) in
    let seen = c.requires.sees c.in-Get.name t graph u n held in
    (grounded maps (is_handler c.requires.needed.0.kind) (g.M.Machine.level m) (g.M.Machine.guarded m) k graph seen.locked c.requires.needed.3, lock-held maps (is_handler c.requires.needed.0.kind) (g.M.Machine.level m) (g.M.Machine.guarded m) k graph seen.locked c.requires.needed.3, seen.shelved)

pub perform_exchange-requires-clause-can : goal.perform_exchange-requires-clause-can
perform_exchange-requires-clause-can g c =
    let os = c.args.frame.now.blocks.items in
    (new-known (declared_of c.args.types.now) (has_name c.args.names.now) (length (reverse os)) (Exchange c.in-Exchange.name c.in-Exchange.slot c.in-Exchange.given) (rw c.in-Exchange.is at c.requires.may)).0

pub perform_exchange-requires-clause-there : goal.perform_exchange-requires-clause-there
perform_exchange-requires-clause-there g c =
    let os = c.args.frame.now.blocks.items in
    (new-known (declared_of c.args.types.now) (has_name c.args.names.now) (length (reverse os)) (Exchange c.in-Exchange.name c.in-Exchange.slot c.in-Exchange.given) (rw c.in-Exchange.is at c.requires.may)).1

pub perform_exchange-requires-clause-gives : goal.perform_exchange-requires-clause-gives
perform_exchange-requires-clause-gives g c m of =
    let e = rw c.in-Exchange.is at c.requires.needed.4 in
    gives-in c.requires.needed.0 c.args.types.now.maps.now c.in-Exchange.name c.in-Exchange.slot c.in-Exchange.given (names_of c.args.names.now) _ _ m c.requires.needed.2 e of.found

pub perform_exchange-requires-clause-free : goal.perform_exchange-requires-clause-free
perform_exchange-requires-clause-free g c =
    let e = rw c.in-Exchange.is at c.requires.needed.4 in
    free-in c.requires.needed.0 c.in-Exchange.name c.in-Exchange.slot c.in-Exchange.given (names_of c.args.names.now) _ _ e

-- ---- locks, and calls on lists and trees

pub perform_lock-requires-clause-ground : goal.perform_lock-requires-clause-ground
perform_lock-requires-clause-ground g c =
    let e = rw c.in-Lock.is at c.requires.needed.4 in
    c.requires.needed.3.ground e.0

pub perform_lock-requires-clause-free : goal.perform_lock-requires-clause-free
perform_lock-requires-clause-free g c =
    let e = rw c.in-Lock.is at c.requires.needed.4 in
    c.requires.needed.3.held (c.requires.needed.3.ground e.0) ∙ ap (λ k. place_in (locked_in k)) e.1

pub perform_lock-requires-clause-lock : goal.perform_lock-requires-clause-lock
perform_lock-requires-clause-lock g c =
    let e = rw c.in-Lock.is at c.requires.needed.4 in
    e.1

pub perform_lock-requires-clause-can : goal.perform_lock-requires-clause-can
perform_lock-requires-clause-can g c =
    let os = c.args.frame.now.blocks.items in
    (new-known (declared_of c.args.types.now) (has_name c.args.names.now) (length (reverse os)) (Lock c.in-Lock.graph) (rw c.in-Lock.is at c.requires.may)).0

pub perform_unlock-requires-clause-ground : goal.perform_unlock-requires-clause-ground
perform_unlock-requires-clause-ground g c =
    let m = c.args.machine.now in
    let e = rw c.in-Unlock.is at c.requires.needed.4 in
    grounded c.args.types.now.maps.now (is_handler c.requires.needed.0.kind) (g.M.Machine.level m) (g.M.Machine.guarded m) _ e.0 (ap locked_in e.1) c.requires.needed.3

pub perform_unlock-requires-clause-held : goal.perform_unlock-requires-clause-held
perform_unlock-requires-clause-held g c =
    let m = c.args.machine.now in
    let maps = c.args.types.now.maps.now in
    let e = rw c.in-Unlock.is at c.requires.needed.4 in
    let k = c.requires.needed.3 in
    (e.0, e.1, lock-held maps (is_handler c.requires.needed.0.kind) (g.M.Machine.level m) (g.M.Machine.guarded m) _ e.0 (ap locked_in e.1) k, subst (λ q. IsLock maps (locked_in q)) e.1 k.declared)

pub perform_push-requires-clause-ground : goal.perform_push-requires-clause-ground
perform_push-requires-clause-ground g c =
    let m = c.args.machine.now in
    let e = rw c.in-PushFront.is at c.requires.needed.4 in
    grounded c.args.types.now.maps.now (is_handler c.requires.needed.0.kind) (g.M.Machine.level m) (g.M.Machine.guarded m) _ c.in-PushFront.list (push-locked c.requires.needed.0 (store_of (names_of c.args.names.now) (lock_of (reverse c.args.frame.now.blocks.items))) way_is.Front c.in-PushFront.list c.in-PushFront.name (λ r. SafeStack c.requires.needed.0 r (reverse c.args.frame.now.blocks.items)) e) c.requires.needed.3

pub perform_push-requires-clause-held : goal.perform_push-requires-clause-held
perform_push-requires-clause-held g c =
    let m = c.args.machine.now in
    let e = rw c.in-PushFront.is at c.requires.needed.4 in
    lock-held c.args.types.now.maps.now (is_handler c.requires.needed.0.kind) (g.M.Machine.level m) (g.M.Machine.guarded m) _ c.in-PushFront.list (push-locked c.requires.needed.0 (store_of (names_of c.args.names.now) (lock_of (reverse c.args.frame.now.blocks.items))) way_is.Front c.in-PushFront.list c.in-PushFront.name (λ r. SafeStack c.requires.needed.0 r (reverse c.args.frame.now.blocks.items)) e) c.requires.needed.3

pub perform_push-requires-clause-gives : goal.perform_push-requires-clause-gives
perform_push-requires-clause-gives g c m of =
    let e = rw c.in-PushFront.is at c.requires.needed.4 in
    push-gives c.requires.needed.0 c.args.types.now.maps.now (names_of c.args.names.now) (lock_of (reverse c.args.frame.now.blocks.items)) way_is.Front c.in-PushFront.list c.in-PushFront.name m (λ r. SafeStack c.requires.needed.0 r (reverse c.args.frame.now.blocks.items)) c.requires.needed.2 of.found e

pub perform_push-requires-clause-can : goal.perform_push-requires-clause-can
perform_push-requires-clause-can g c =
    let os = c.args.frame.now.blocks.items in
    (new-known (declared_of c.args.types.now) (has_name c.args.names.now) (length (reverse os)) (PushFront c.in-PushFront.list c.in-PushFront.name) (rw c.in-PushFront.is at c.requires.may)).0

pub perform_push-requires-clause-keyed : goal.perform_push-requires-clause-keyed
perform_push-requires-clause-keyed g c ordered = absurd (cc)

pub perform_push-requires-in-PushBack-clause-ground : goal.perform_push-requires-in-PushBack-clause-ground
perform_push-requires-in-PushBack-clause-ground g c =
    let m = c.args.machine.now in
    let e = rw c.in-PushBack.is at c.requires.needed.4 in
    grounded c.args.types.now.maps.now (is_handler c.requires.needed.0.kind) (g.M.Machine.level m) (g.M.Machine.guarded m) _ c.in-PushBack.list (push-locked c.requires.needed.0 (store_of (names_of c.args.names.now) (lock_of (reverse c.args.frame.now.blocks.items))) way_is.Back c.in-PushBack.list c.in-PushBack.name (λ r. SafeStack c.requires.needed.0 r (reverse c.args.frame.now.blocks.items)) e) c.requires.needed.3

pub perform_push-requires-in-PushBack-clause-held : goal.perform_push-requires-in-PushBack-clause-held
perform_push-requires-in-PushBack-clause-held g c =
    let m = c.args.machine.now in
    let e = rw c.in-PushBack.is at c.requires.needed.4 in
    lock-held c.args.types.now.maps.now (is_handler c.requires.needed.0.kind) (g.M.Machine.level m) (g.M.Machine.guarded m) _ c.in-PushBack.list (push-locked c.requires.needed.0 (store_of (names_of c.args.names.now) (lock_of (reverse c.args.frame.now.blocks.items))) way_is.Back c.in-PushBack.list c.in-PushBack.name (λ r. SafeStack c.requires.needed.0 r (reverse c.args.frame.now.blocks.items)) e) c.requires.needed.3

pub perform_push-requires-in-PushBack-clause-gives : goal.perform_push-requires-in-PushBack-clause-gives
perform_push-requires-in-PushBack-clause-gives g c m of =
    let e = rw c.in-PushBack.is at c.requires.needed.4 in
    push-gives c.requires.needed.0 c.args.types.now.maps.now (names_of c.args.names.now) (lock_of (reverse c.args.frame.now.blocks.items)) way_is.Back c.in-PushBack.list c.in-PushBack.name m (λ r. SafeStack c.requires.needed.0 r (reverse c.args.frame.now.blocks.items)) c.requires.needed.2 of.found e

pub perform_push-requires-in-PushBack-clause-can : goal.perform_push-requires-in-PushBack-clause-can
perform_push-requires-in-PushBack-clause-can g c =
    let os = c.args.frame.now.blocks.items in
    (new-known (declared_of c.args.types.now) (has_name c.args.names.now) (length (reverse os)) (PushBack c.in-PushBack.list c.in-PushBack.name) (rw c.in-PushBack.is at c.requires.may)).0

pub perform_push-requires-in-PushBack-clause-keyed : goal.perform_push-requires-in-PushBack-clause-keyed
perform_push-requires-in-PushBack-clause-keyed g c ordered = absurd (cc)

pub perform_push-requires-in-Add-clause-ground : goal.perform_push-requires-in-Add-clause-ground
perform_push-requires-in-Add-clause-ground g c =
    let m = c.args.machine.now in
    let e = rw c.in-Add.is at c.requires.needed.4 in
    grounded c.args.types.now.maps.now (is_handler c.requires.needed.0.kind) (g.M.Machine.level m) (g.M.Machine.guarded m) _ c.in-Add.tree (push-locked c.requires.needed.0 (store_of (names_of c.args.names.now) (lock_of (reverse c.args.frame.now.blocks.items))) way_is.Ordered c.in-Add.tree c.in-Add.name (λ r. SafeStack c.requires.needed.0 r (reverse c.args.frame.now.blocks.items)) e) c.requires.needed.3

pub perform_push-requires-in-Add-clause-held : goal.perform_push-requires-in-Add-clause-held
perform_push-requires-in-Add-clause-held g c =
    let m = c.args.machine.now in
    let e = rw c.in-Add.is at c.requires.needed.4 in
    lock-held c.args.types.now.maps.now (is_handler c.requires.needed.0.kind) (g.M.Machine.level m) (g.M.Machine.guarded m) _ c.in-Add.tree (push-locked c.requires.needed.0 (store_of (names_of c.args.names.now) (lock_of (reverse c.args.frame.now.blocks.items))) way_is.Ordered c.in-Add.tree c.in-Add.name (λ r. SafeStack c.requires.needed.0 r (reverse c.args.frame.now.blocks.items)) e) c.requires.needed.3

pub perform_push-requires-in-Add-clause-gives : goal.perform_push-requires-in-Add-clause-gives
perform_push-requires-in-Add-clause-gives g c m of =
    let e = rw c.in-Add.is at c.requires.needed.4 in
    push-gives c.requires.needed.0 c.args.types.now.maps.now (names_of c.args.names.now) (lock_of (reverse c.args.frame.now.blocks.items)) way_is.Ordered c.in-Add.tree c.in-Add.name m (λ r. SafeStack c.requires.needed.0 r (reverse c.args.frame.now.blocks.items)) c.requires.needed.2 of.found e

pub perform_push-requires-in-Add-clause-can : goal.perform_push-requires-in-Add-clause-can
perform_push-requires-in-Add-clause-can g c =
    let os = c.args.frame.now.blocks.items in
    left _ _ (new-known (declared_of c.args.types.now) (has_name c.args.names.now) (length (reverse os)) (Add c.in-Add.tree c.in-Add.name) (rw c.in-Add.is at c.requires.may)).0

pub perform_push-requires-in-Add-clause-keyed : goal.perform_push-requires-in-Add-clause-keyed
perform_push-requires-in-Add-clause-keyed g c ordered =
    let os = c.args.frame.now.blocks.items in
    right _ _ (new-known (declared_of c.args.types.now) (has_name c.args.names.now) (length (reverse os)) (Add c.in-Add.tree c.in-Add.name) (rw c.in-Add.is at c.requires.may)).0

pub perform_pop-requires-clause-ground : goal.perform_pop-requires-clause-ground
perform_pop-requires-clause-ground g c =
    let m = c.args.machine.now in
    let e = rw c.in-PopFront.is at c.requires.needed.4 in
    grounded c.args.types.now.maps.now (is_handler c.requires.needed.0.kind) (g.M.Machine.level m) (g.M.Machine.guarded m) _ c.in-PopFront.list (pop-locked c.requires.needed.0 (store_of (names_of c.args.names.now) (lock_of (reverse c.args.frame.now.blocks.items))) end_is.Front c.in-PopFront.list c.in-PopFront.name (λ r. SafeStack c.requires.needed.0 r (reverse c.args.frame.now.blocks.items)) e) c.requires.needed.3

pub perform_pop-requires-clause-held : goal.perform_pop-requires-clause-held
perform_pop-requires-clause-held g c =
    let m = c.args.machine.now in
    let e = rw c.in-PopFront.is at c.requires.needed.4 in
    lock-held c.args.types.now.maps.now (is_handler c.requires.needed.0.kind) (g.M.Machine.level m) (g.M.Machine.guarded m) _ c.in-PopFront.list (pop-locked c.requires.needed.0 (store_of (names_of c.args.names.now) (lock_of (reverse c.args.frame.now.blocks.items))) end_is.Front c.in-PopFront.list c.in-PopFront.name (λ r. SafeStack c.requires.needed.0 r (reverse c.args.frame.now.blocks.items)) e) c.requires.needed.3

pub perform_pop-requires-clause-free : goal.perform_pop-requires-clause-free
perform_pop-requires-clause-free g c =
    let e = rw c.in-PopFront.is at c.requires.needed.4 in
    free-popped c.requires.needed.0 (names_of c.args.names.now) _ end_is.Front c.in-PopFront.list c.in-PopFront.name (λ r. SafeStack c.requires.needed.0 r (reverse c.args.frame.now.blocks.items)) e

pub perform_pop-requires-clause-can : goal.perform_pop-requires-clause-can
perform_pop-requires-clause-can g c =
    let os = c.args.frame.now.blocks.items in
    (new-known (declared_of c.args.types.now) (has_name c.args.names.now) (length (reverse os)) (PopFront c.in-PopFront.name c.in-PopFront.list) (rw c.in-PopFront.is at c.requires.may)).0

pub perform_pop-requires-clause-there : goal.perform_pop-requires-clause-there
perform_pop-requires-clause-there g c =
    let os = c.args.frame.now.blocks.items in
    (new-known (declared_of c.args.types.now) (has_name c.args.names.now) (length (reverse os)) (PopFront c.in-PopFront.name c.in-PopFront.list) (rw c.in-PopFront.is at c.requires.may)).1

pub perform_pop-requires-in-PopBack-clause-ground : goal.perform_pop-requires-in-PopBack-clause-ground
perform_pop-requires-in-PopBack-clause-ground g c =
    let m = c.args.machine.now in
    let e = rw c.in-PopBack.is at c.requires.needed.4 in
    grounded c.args.types.now.maps.now (is_handler c.requires.needed.0.kind) (g.M.Machine.level m) (g.M.Machine.guarded m) _ c.in-PopBack.list (pop-locked c.requires.needed.0 (store_of (names_of c.args.names.now) (lock_of (reverse c.args.frame.now.blocks.items))) end_is.Back c.in-PopBack.list c.in-PopBack.name (λ r. SafeStack c.requires.needed.0 r (reverse c.args.frame.now.blocks.items)) e) c.requires.needed.3

pub perform_pop-requires-in-PopBack-clause-held : goal.perform_pop-requires-in-PopBack-clause-held
perform_pop-requires-in-PopBack-clause-held g c =
    let m = c.args.machine.now in
    let e = rw c.in-PopBack.is at c.requires.needed.4 in
    lock-held c.args.types.now.maps.now (is_handler c.requires.needed.0.kind) (g.M.Machine.level m) (g.M.Machine.guarded m) _ c.in-PopBack.list (pop-locked c.requires.needed.0 (store_of (names_of c.args.names.now) (lock_of (reverse c.args.frame.now.blocks.items))) end_is.Back c.in-PopBack.list c.in-PopBack.name (λ r. SafeStack c.requires.needed.0 r (reverse c.args.frame.now.blocks.items)) e) c.requires.needed.3

pub perform_pop-requires-in-PopBack-clause-free : goal.perform_pop-requires-in-PopBack-clause-free
perform_pop-requires-in-PopBack-clause-free g c =
    let e = rw c.in-PopBack.is at c.requires.needed.4 in
    free-popped c.requires.needed.0 (names_of c.args.names.now) _ end_is.Back c.in-PopBack.list c.in-PopBack.name (λ r. SafeStack c.requires.needed.0 r (reverse c.args.frame.now.blocks.items)) e

pub perform_pop-requires-in-PopBack-clause-can : goal.perform_pop-requires-in-PopBack-clause-can
perform_pop-requires-in-PopBack-clause-can g c =
    let os = c.args.frame.now.blocks.items in
    (new-known (declared_of c.args.types.now) (has_name c.args.names.now) (length (reverse os)) (PopBack c.in-PopBack.name c.in-PopBack.list) (rw c.in-PopBack.is at c.requires.may)).0

pub perform_pop-requires-in-PopBack-clause-there : goal.perform_pop-requires-in-PopBack-clause-there
perform_pop-requires-in-PopBack-clause-there g c =
    let os = c.args.frame.now.blocks.items in
    (new-known (declared_of c.args.types.now) (has_name c.args.names.now) (length (reverse os)) (PopBack c.in-PopBack.name c.in-PopBack.list) (rw c.in-PopBack.is at c.requires.may)).1

pub perform_first-requires-clause-ground : goal.perform_first-requires-clause-ground
perform_first-requires-clause-ground g c =
    let m = c.args.machine.now in
    let e = rw c.in-First.is at c.requires.needed.4 in
    grounded c.args.types.now.maps.now (is_handler c.requires.needed.0.kind) (g.M.Machine.level m) (g.M.Machine.guarded m) _ c.in-First.tree (first-locked c.requires.needed.0 (store_of (names_of c.args.names.now) (lock_of (reverse c.args.frame.now.blocks.items))) c.in-First.tree c.in-First.name (λ r. SafeStack c.requires.needed.0 r (reverse c.args.frame.now.blocks.items)) e) c.requires.needed.3

pub perform_first-requires-clause-held : goal.perform_first-requires-clause-held
perform_first-requires-clause-held g c =
    let m = c.args.machine.now in
    let e = rw c.in-First.is at c.requires.needed.4 in
    lock-held c.args.types.now.maps.now (is_handler c.requires.needed.0.kind) (g.M.Machine.level m) (g.M.Machine.guarded m) _ c.in-First.tree (first-locked c.requires.needed.0 (store_of (names_of c.args.names.now) (lock_of (reverse c.args.frame.now.blocks.items))) c.in-First.tree c.in-First.name (λ r. SafeStack c.requires.needed.0 r (reverse c.args.frame.now.blocks.items)) e) c.requires.needed.3

pub perform_first-requires-clause-free : goal.perform_first-requires-clause-free
perform_first-requires-clause-free g c =
    let e = rw c.in-First.is at c.requires.needed.4 in
    free-found c.requires.needed.0 (names_of c.args.names.now) _ c.in-First.name c.in-First.tree (λ r. SafeStack c.requires.needed.0 r (reverse c.args.frame.now.blocks.items)) e

pub perform_first-requires-clause-can : goal.perform_first-requires-clause-can
perform_first-requires-clause-can g c =
    let os = c.args.frame.now.blocks.items in
    (new-known (declared_of c.args.types.now) (has_name c.args.names.now) (length (reverse os)) (First c.in-First.name c.in-First.tree) (rw c.in-First.is at c.requires.may)).0

pub perform_first-requires-clause-there : goal.perform_first-requires-clause-there
perform_first-requires-clause-there g c =
    let os = c.args.frame.now.blocks.items in
    (new-known (declared_of c.args.types.now) (has_name c.args.names.now) (length (reverse os)) (First c.in-First.name c.in-First.tree) (rw c.in-First.is at c.requires.may)).1

pub perform_remove-requires-clause-ground : goal.perform_remove-requires-clause-ground
perform_remove-requires-clause-ground g c =
    let m = c.args.machine.now in
    let e = rw c.in-Remove.is at c.requires.needed.4 in
    grounded c.args.types.now.maps.now (is_handler c.requires.needed.0.kind) (g.M.Machine.level m) (g.M.Machine.guarded m) _ c.in-Remove.tree (remove-locked c.requires.needed.0 (store_of (names_of c.args.names.now) (lock_of (reverse c.args.frame.now.blocks.items))) c.in-Remove.tree c.in-Remove.name c.in-Remove.node (λ r. SafeStack c.requires.needed.0 r (reverse c.args.frame.now.blocks.items)) e) c.requires.needed.3

pub perform_remove-requires-clause-held : goal.perform_remove-requires-clause-held
perform_remove-requires-clause-held g c =
    let m = c.args.machine.now in
    let e = rw c.in-Remove.is at c.requires.needed.4 in
    lock-held c.args.types.now.maps.now (is_handler c.requires.needed.0.kind) (g.M.Machine.level m) (g.M.Machine.guarded m) _ c.in-Remove.tree (remove-locked c.requires.needed.0 (store_of (names_of c.args.names.now) (lock_of (reverse c.args.frame.now.blocks.items))) c.in-Remove.tree c.in-Remove.name c.in-Remove.node (λ r. SafeStack c.requires.needed.0 r (reverse c.args.frame.now.blocks.items)) e) c.requires.needed.3

pub perform_remove-requires-clause-free : goal.perform_remove-requires-clause-free
perform_remove-requires-clause-free g c =
    let e = rw c.in-Remove.is at c.requires.needed.4 in
    free-taken c.requires.needed.0 (names_of c.args.names.now) _ c.in-Remove.name c.in-Remove.tree (λ r. SafeStack c.requires.needed.0 r (reverse c.args.frame.now.blocks.items)) e.1

pub perform_remove-requires-clause-can : goal.perform_remove-requires-clause-can
perform_remove-requires-clause-can g c =
    let os = c.args.frame.now.blocks.items in
    (new-known (declared_of c.args.types.now) (has_name c.args.names.now) (length (reverse os)) (Remove c.in-Remove.name c.in-Remove.tree c.in-Remove.node) (rw c.in-Remove.is at c.requires.may)).0

pub perform_remove-requires-clause-there : goal.perform_remove-requires-clause-there
perform_remove-requires-clause-there g c =
    let os = c.args.frame.now.blocks.items in
    (new-known (declared_of c.args.types.now) (has_name c.args.names.now) (length (reverse os)) (Remove c.in-Remove.name c.in-Remove.tree c.in-Remove.node) (rw c.in-Remove.is at c.requires.may)).1

pub perform_remove-requires-clause-node : goal.perform_remove-requires-clause-node
perform_remove-requires-clause-node g c =
    let e = rw c.in-Remove.is at c.requires.needed.4 in
    e.0

pub perform_remove-requires-clause-typed : goal.perform_remove-requires-clause-typed
perform_remove-requires-clause-typed g c t u n m held of =
    let seen = c.requires.sees c.in-Remove.node t c.in-Remove.tree u n held in
    (seen.typed m of.found, seen.shelved)

-- ---- what was performed

pub returns-in-Object-clause-performed : goal.returns-in-Object-clause-performed
returns-in-Object-clause-performed g c =
    let held = rw c.as_bytes.ensures.value at (rw c.in-Object.is at c.holding.ensures) in
    rw c.in-If.is (first-performed (declared_of c.args.types.now) (g.M.Machine.level c.args.machine.now) (g.M.Machine.around c.args.machine.now) (g.M.Machine.behind c.args.machine.now) (g.M.Machine.lists c.args.machine.now) (g.M.Machine.guarded c.args.machine.now) c.in-If.name _ _ _ c.in-If.body _ (names_of c.args.names.now) _ _ (g.M.Machine.lives c.args.machine.now) (g.M.Machine.asked c.args.machine.now) (g.M.Machine.log c.args.machine.now) c.requires.open c.requires.down (inl (sym held)) c.open_block.ensures.pushed)

pub returns-in-Soft-clause-performed : goal.returns-in-Soft-clause-performed
returns-in-Soft-clause-performed g c =
    let held = rw c.as_bytes.ensures.value at (rw c.in-Soft.is at c.holding.ensures) in
    rw c.in-If.is (first-performed (declared_of c.args.types.now) (g.M.Machine.level c.args.machine.now) (g.M.Machine.around c.args.machine.now) (g.M.Machine.behind c.args.machine.now) (g.M.Machine.lists c.args.machine.now) (g.M.Machine.guarded c.args.machine.now) c.in-If.name _ _ _ c.in-If.body _ (names_of c.args.names.now) _ _ (g.M.Machine.lives c.args.machine.now) (g.M.Machine.asked c.args.machine.now) (g.M.Machine.log c.args.machine.now) c.requires.open c.requires.down (inr (c.in-Soft.field-1, sym held)) c.open_block-in-Soft.ensures.pushed)

pub returns-in-Some-clause-performed : goal.returns-in-Some-clause-performed
returns-in-Some-clause-performed g c =
    let held = rw c.as_bytes.ensures.value at (rw c.in-Null.is at c.holding.ensures) in
    let is = rw c.in-Some.is at c.in-If.is in
    rw is (other-performed (declared_of c.args.types.now) (g.M.Machine.level c.args.machine.now) (g.M.Machine.around c.args.machine.now) (g.M.Machine.behind c.args.machine.now) (g.M.Machine.lists c.args.machine.now) (g.M.Machine.guarded c.args.machine.now) c.in-If.name c.in-If.body c.in-Some.block (Some' c.in-Some.block) (names_of c.args.names.now) _ _ (g.M.Machine.lives c.args.machine.now) (g.M.Machine.asked c.args.machine.now) (g.M.Machine.log c.args.machine.now) c.requires.open c.requires.down (sym held) refl c.open_block-in-Some.ensures.pushed)

pub returns-in-None-clause-performed : goal.returns-in-None-clause-performed
returns-in-None-clause-performed g c =
    let held = rw c.as_bytes.ensures.value at (rw c.in-Null.is at c.holding.ensures) in
    let is = rw c.in-None.is at c.in-If.is in
    rw is (skip-performed (declared_of c.args.types.now) (g.M.Machine.level c.args.machine.now) (g.M.Machine.around c.args.machine.now) (g.M.Machine.behind c.args.machine.now) (g.M.Machine.lists c.args.machine.now) (g.M.Machine.guarded c.args.machine.now) c.in-If.name c.in-If.body None' (names_of c.args.names.now) _ (g.M.Machine.lives c.args.machine.now) (g.M.Machine.asked c.args.machine.now) (g.M.Machine.log c.args.machine.now) c.requires.down (sym held) refl)

pub returns-in-Repeat-clause-performed : goal.returns-in-Repeat-clause-performed
returns-in-Repeat-clause-performed g c =
    rw c.in-Repeat.is (repeat-performed (declared_of c.args.types.now) (g.M.Machine.level c.args.machine.now) (g.M.Machine.around c.args.machine.now) (g.M.Machine.behind c.args.machine.now) (g.M.Machine.lists c.args.machine.now) (g.M.Machine.guarded c.args.machine.now) c.in-Repeat.count c.in-Repeat.body (names_of c.args.names.now) _ _ (g.M.Machine.lives c.args.machine.now) (g.M.Machine.asked c.args.machine.now) (g.M.Machine.log c.args.machine.now) c.requires.open c.requires.down c.repeat_block.ensures.pushed)

pub returns-in-Object-clause-keeps : goal.returns-in-Object-clause-keeps
returns-in-Object-clause-keeps g c = g.met.M.Machine.keeps_same c.args.machine.now

pub returns-in-Some-clause-keeps : goal.returns-in-Some-clause-keeps
returns-in-Some-clause-keeps g c = g.met.M.Machine.keeps_same c.args.machine.now

pub returns-in-None-clause-keeps : goal.returns-in-None-clause-keeps
returns-in-None-clause-keeps g c = g.met.M.Machine.keeps_same c.args.machine.now

pub returns-in-Repeat-clause-keeps : goal.returns-in-Repeat-clause-keeps
returns-in-Repeat-clause-keeps g c = g.met.M.Machine.keeps_same c.args.machine.now

pub returns-in-Section-clause-performed : goal.returns-in-Section-clause-performed
returns-in-Section-clause-performed g c = rw (c.in-Section.is, c.perform_section.ensures.guarded) (c.perform_section.ensures.performed (declared_of c.args.types.now) (names_of c.args.names.now))

pub returns-in-Yield-clause-performed : goal.returns-in-Yield-clause-performed
returns-in-Yield-clause-performed g c =
    let m = c.args.machine.now in
    let n = c.pause.new.self in
    let e = c.pause.ensures in
    rw c.in-Yield.is (rw (e.around, e.guarded) (yield-performed (declared_of c.args.types.now) (g.M.Machine.level m) (g.M.Machine.around m) (g.M.Machine.behind m) (g.M.Machine.processor m) (g.M.Machine.lists m) (g.M.Machine.lists n) (g.M.Machine.guarded m) (names_of c.args.names.now) _ (g.M.Machine.lives m) (g.M.Machine.lives n) (g.M.Machine.asked m) (g.M.Machine.asked n) (g.M.Machine.log m) (g.M.Machine.log n)
    (g.met.M.Machine.told m c.requires.sound) (rw e.processor at (g.met.M.Machine.told n e.sound)) e.paused e.lists e.lives e.asked c.requires.down))

-- ---- what yields

pub returns-in-Object-clause-yields : goal.returns-in-Object-clause-yields
returns-in-Object-clause-yields g c = rw c.in-If.is (unyielding-none (g.M.Machine.level c.args.machine.now) (g.M.Machine.log c.args.machine.now))

pub returns-in-Some-clause-yields : goal.returns-in-Some-clause-yields
returns-in-Some-clause-yields g c = rw c.in-If.is (unyielding-none (g.M.Machine.level c.args.machine.now) (g.M.Machine.log c.args.machine.now))

pub returns-in-None-clause-yields : goal.returns-in-None-clause-yields
returns-in-None-clause-yields g c = rw c.in-If.is (unyielding-none (g.M.Machine.level c.args.machine.now) (g.M.Machine.log c.args.machine.now))

pub returns-in-Repeat-clause-yields : goal.returns-in-Repeat-clause-yields
returns-in-Repeat-clause-yields g c = rw c.in-Repeat.is (unyielding-none (g.M.Machine.level c.args.machine.now) (g.M.Machine.log c.args.machine.now))

pub returns-in-Section-clause-yields : goal.returns-in-Section-clause-yields
returns-in-Section-clause-yields g c = rw c.in-Section.is c.perform_section.ensures.yields

pub returns-in-Yield-clause-yields : goal.returns-in-Yield-clause-yields
returns-in-Yield-clause-yields g c = rw c.in-Yield.is (yields-one _ _ _ c.pause.ensures.paused)

pub returns-in-Soft-clause-keeps : goal.returns-in-Soft-clause-keeps
returns-in-Soft-clause-keeps g c = g.met.M.Machine.keeps_same c.args.machine.now

pub returns-in-Soft-clause-yields : goal.returns-in-Soft-clause-yields
returns-in-Soft-clause-yields g c = rw c.in-If.is (unyielding-none (g.M.Machine.level c.args.machine.now) (g.M.Machine.log c.args.machine.now))

pub returns-in-Lock-clause-performed : goal.returns-in-Lock-clause-performed
returns-in-Lock-clause-performed g c = rw c.in-Lock.is (c.perform_lock.ensures.performed (names_of c.args.names.now))
