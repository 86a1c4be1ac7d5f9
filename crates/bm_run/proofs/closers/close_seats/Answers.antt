use Rattle.std.specs.Prelude.{get_or, slice_get}
use Rattle.std.proofs.lemmas.List.{length-set}
use Rattle.std.proofs.Common.{◌≡◌, ◌<◌, ◌≤◌, ◌∙◌, [], ap, length, refl, set, subst, sym, List, None, Option, Some}
use Rattle.bm_law.specs.Lists.{Log}
use Rattle.bm_world.specs.LivingState.{LivingState}
use Rattle.bm_world.specs.ToldLiving.{knows_living}
use Rattle.bm_exec_levels.specs.Sound.{Sound}
use Rattle.bm_exec_levels.specs.declared.kept.Kept.{Kept}
use Rattle.bm_exec_levels.specs.declared.program.Program.{Program}
use Rattle.bm_run.specs.Asked.{in_its_turn}
use Rattle.bm_run.specs.Closers.{BeginsClosing, Keeps, told_log}
use Rattle.bm_run.specs.Emptied.{HasRoomFor}
use Rattle.bm_run.specs.SoFar.{at_turn}
use Rattle.bm_run.proofs.ClosersBegin.{all-can-end, few-processors, first-room, first-sound, first-told, first-unlocked, kept_by, many-places, outside-then, some-processors, stopped-at}
use Rattle.bm_run.proofs.ClosersFinal.{all-closed, crew-as}
use Rattle.bm_run.proofs.ClosersTaken.{get-set-same, set-twice}
use Rattle.bm_run.proofs.Results.{if-ok}
use Rattle.bm_run.proofs.closers.close_seats.Goals as goal

pub take_kept-kept-requires : goal.take_kept-kept-requires
take_kept-kept-requires c =
    let b = c.requires.between.1 in
    let g = c.args.program.now in
    let x = stopped-at g c.requires.between.0 c.args.seats.items c.args.world b c.requires.stopped 0 (some-processors g c.requires.between.0 c.args.seats.items c.args.world b c.requires.stopped c.handled_law.ensures.rows) in
    (x.kept, ap (λ (ps : List (Option Kept)). slice_get ps 0) c.in-Ok.ensures ∙ x.keeps)

pub begin_own-requires-clause-told : goal.begin_own-requires-clause-told
begin_own-requires-clause-told c =
    let kept : Kept = c.take_kept-kept.result in
    let keeps : Keeps (kept_by c.args.seats.items) 0 kept = ap (λ (ps : List (Option Kept)). slice_get ps 0) (sym c.in-Ok.ensures) ∙ c.take_kept-kept.ensures.kept in
    let told = first-told c.args.program.now c.requires.between.0 c.args.seats.items c.args.world c.requires.between.1 c.requires.stopped c.handled_law.ensures.rows kept keeps in
    told ∙ ap Some (sym (ap told_log told))

pub begin_own-requires-clause-sound : goal.begin_own-requires-clause-sound
begin_own-requires-clause-sound c =
    let kept : Kept = c.take_kept-kept.result in
    let keeps : Keeps (kept_by c.args.seats.items) 0 kept = ap (λ (ps : List (Option Kept)). slice_get ps 0) (sym c.in-Ok.ensures) ∙ c.take_kept-kept.ensures.kept in
    subst (λ (w : LivingState). Sound knows_living c.args.program.now (in_its_turn kept w)) (sym (c.turned-side.ensures c.args.world refl))
    (first-sound c.args.program.now c.requires.between.0 c.args.seats.items c.args.world c.requires.between.1 c.requires.stopped c.handled_law.ensures.rows kept keeps)

pub begin_own-requires-clause-room : goal.begin_own-requires-clause-room
begin_own-requires-clause-room c =
    let kept : Kept = c.take_kept-kept.result in
    let keeps : Keeps (kept_by c.args.seats.items) 0 kept = ap (λ (ps : List (Option Kept)). slice_get ps 0) (sym c.in-Ok.ensures) ∙ c.take_kept-kept.ensures.kept in
    subst (λ (w : LivingState). HasRoomFor c.args.program.now (in_its_turn kept w)) (sym (c.turned-side.ensures c.args.world refl))
    (first-room c.args.program.now c.requires.between.0 c.args.seats.items c.args.world c.requires.between.1 c.requires.stopped c.handled_law.ensures.rows kept keeps (c.requires.few, c.few_items.ensures))

pub begin_own-requires-clause-first : goal.begin_own-requires-clause-first
begin_own-requires-clause-first c = ap (λ (w : LivingState). w.side.grace.processor) (c.turned-side.ensures c.args.world refl)

pub begin_own-requires-clause-unlocked : goal.begin_own-requires-clause-unlocked
begin_own-requires-clause-unlocked c =
    let kept : Kept = c.take_kept-kept.result in
    let keeps : Keeps (kept_by c.args.seats.items) 0 kept = ap (λ (ps : List (Option Kept)). slice_get ps 0) (sym c.in-Ok.ensures) ∙ c.take_kept-kept.ensures.kept in
    first-unlocked c.args.program.now c.requires.between.0 c.args.seats.items c.args.world c.requires.between.1 c.requires.stopped c.handled_law.ensures.rows kept keeps

pub put_kept-requires : goal.put_kept-requires
put_kept-requires c =
    let many = many-places c.args.program.now c.requires.between.0 c.args.seats.items c.args.world c.requires.between.1 c.requires.stopped c.handled_law.ensures.rows in
    let some = some-processors c.args.program.now c.requires.between.0 c.args.seats.items c.args.world c.requires.between.1 c.requires.stopped c.handled_law.ensures.rows in
    let there : 0 < length c.in-Ok.places.items = subst (λ k. 0 < k) (sym (ap length c.in-Ok.ensures ∙ many)) some in
    ap (λ (ps : List (Option Kept)). slice_get ps 0) c.take_kept-kept.ensures.places ∙ get-set-same c.in-Ok.places.items 0 None there

-- the places, once the closing has begun
noted : (seats taken put first : List (Option Kept)) (later : Option Kept) → first ≡ seats → taken ≡ set first 0 None → put ≡ set taken 0 later → put ≡ set seats 0 later
noted seats taken put first later e f h =
    h ∙ (ap (λ (ps : List (Option Kept)). set ps 0 later) f ∙ (set-twice first 0 None later ∙ ap (λ (ps : List (Option Kept)). set ps 0 later) e))

-- how the closing began
began : (g : Program) (kept later : Kept) (side start now : LivingState) (log : Log) → side ≡ start → kept.caches.recorder.told ≡ Some log → BeginsClosing g kept side (told_log kept.caches.recorder.told) later now → BeginsClosing g kept start log later now
began g kept later side start now log e told h =
    subst (λ (w : LivingState). BeginsClosing g kept w log later now) e (subst (λ (z : Log). BeginsClosing g kept side z later now) (ap told_log told) h)

pub all_at_rest-requires : goal.all_at_rest-requires
all_at_rest-requires c =
    let g = c.args.program.now in
    let turns = c.requires.between.0 in
    let seats = c.args.seats.items in
    let b = c.requires.between.1 in
    let rows = c.handled_law.ensures.rows in
    let kept : Kept = c.take_kept-kept.result in
    let keeps : Keeps (kept_by seats) 0 kept = ap (λ (ps : List (Option Kept)). slice_get ps 0) (sym c.in-Ok.ensures) ∙ c.take_kept-kept.ensures.kept in
    let told = first-told g turns seats c.args.world b c.requires.stopped rows kept keeps in
    let begins = began g kept c.in-Ok-begin_own.begun.0 c.turned-side.result (at_turn 0 c.args.world) c.in-Ok-begin_own.begun.1 (get_or b.logs 0 []) (c.turned-side.ensures c.args.world refl) told c.in-Ok-begin_own.ensures in
    record { outside = outside-then g turns seats c.args.world b c.requires.stopped rows kept c.in-Ok-begin_own.begun.0 c.in-Ok-begin_own.begun.1 keeps (c.requires.few, c.few_items.ensures) begins }

pub close_begun-requires-clause-some : goal.close_begun-requires-clause-some
close_begun-requires-clause-some c =
    let g = c.args.program.now in
    let turns = c.requires.between.0 in
    let seats = c.args.seats.items in
    let b = c.requires.between.1 in
    let rows = c.handled_law.ensures.rows in
    let places = noted (kept_by seats) c.take_kept-kept.new.places.items c.put_kept.new.places.items c.in-Ok.places.items (Some c.in-Ok-begin_own.begun.0) c.in-Ok.ensures c.take_kept-kept.ensures.places c.put_kept.ensures in
    let many : length c.put_kept.new.places.items ≡ g.scenario.now.processors = ap length places ∙ (length-set (kept_by seats) 0 (Some c.in-Ok-begin_own.begun.0) ∙ many-places g turns seats c.args.world b c.requires.stopped rows) in
    subst (λ k. 0 < k) (sym many) (some-processors g turns seats c.args.world b c.requires.stopped rows)

pub close_begun-requires-clause-few : goal.close_begun-requires-clause-few
close_begun-requires-clause-few c =
    let g = c.args.program.now in
    let turns = c.requires.between.0 in
    let seats = c.args.seats.items in
    let b = c.requires.between.1 in
    let rows = c.handled_law.ensures.rows in
    let places = noted (kept_by seats) c.take_kept-kept.new.places.items c.put_kept.new.places.items c.in-Ok.places.items (Some c.in-Ok-begin_own.begun.0) c.in-Ok.ensures c.take_kept-kept.ensures.places c.put_kept.ensures in
    let many : length c.put_kept.new.places.items ≡ g.scenario.now.processors = ap length places ∙ (length-set (kept_by seats) 0 (Some c.in-Ok-begin_own.begun.0) ∙ many-places g turns seats c.args.world b c.requires.stopped rows) in
    subst (λ k. k ≤ 8) (sym many) (few-processors g turns seats c.args.world b c.requires.stopped rows)

pub close_begun-requires-clause-may : goal.close_begun-requires-clause-may
close_begun-requires-clause-may c =
    let g = c.args.program.now in
    let turns = c.requires.between.0 in
    let seats = c.args.seats.items in
    let b = c.requires.between.1 in
    let rows = c.handled_law.ensures.rows in
    let kept : Kept = c.take_kept-kept.result in
    let keeps : Keeps (kept_by seats) 0 kept = ap (λ (ps : List (Option Kept)). slice_get ps 0) (sym c.in-Ok.ensures) ∙ c.take_kept-kept.ensures.kept in
    let told = first-told g turns seats c.args.world b c.requires.stopped rows kept keeps in
    let begins = began g kept c.in-Ok-begin_own.begun.0 c.turned-side.result (at_turn 0 c.args.world) c.in-Ok-begin_own.begun.1 (get_or b.logs 0 []) (c.turned-side.ensures c.args.world refl) told c.in-Ok-begin_own.ensures in
    let places = noted (kept_by seats) c.take_kept-kept.new.places.items c.put_kept.new.places.items c.in-Ok.places.items (Some c.in-Ok-begin_own.begun.0) c.in-Ok.ensures c.take_kept-kept.ensures.places c.put_kept.ensures in
    all-can-end g turns seats c.args.world b c.requires.stopped rows kept c.in-Ok-begin_own.begun.0 c.in-Ok-begin_own.begun.1 keeps (c.requires.few, c.few_items.ensures) begins c.all_at_rest.ensures.driven c.put_kept.new.places.items c.args.classes.now places c.requires.classes

pub returns-clause-closed : goal.returns-clause-closed
returns-clause-closed c = if-ok c.close_begun.result _ _ c.close_begun.ensures.closed (λ left together turns b.
    let g = c.args.program.now in
    let seats = c.args.seats.items in
    let rows = c.handled_law.ensures.rows in
    let kept : Kept = c.take_kept-kept.result in
    let keeps : Keeps (kept_by seats) 0 kept = ap (λ (ps : List (Option Kept)). slice_get ps 0) (sym c.in-Ok.ensures) ∙ c.take_kept-kept.ensures.kept in
    let told = first-told g turns seats c.args.world b c.requires.stopped rows kept keeps in
    let begins = began g kept c.in-Ok-begin_own.begun.0 c.turned-side.result (at_turn 0 c.args.world) c.in-Ok-begin_own.begun.1 (get_or b.logs 0 []) (c.turned-side.ensures c.args.world refl) told c.in-Ok-begin_own.ensures in
    let places = noted (kept_by seats) c.take_kept-kept.new.places.items c.put_kept.new.places.items c.in-Ok.places.items (Some c.in-Ok-begin_own.begun.0) c.in-Ok.ensures c.take_kept-kept.ensures.places c.put_kept.ensures in
    let crew = crew-as g turns seats c.args.world b c.requires.stopped rows kept c.in-Ok-begin_own.begun.0 c.in-Ok-begin_own.begun.1 keeps (c.requires.few, c.few_items.ensures) begins c.requires.apart left.logs.items left.histories.items c.put_kept.new.places.items c.args.classes.now places c.requires.classes together in
    all-closed g turns seats c.args.world b c.requires.stopped rows kept c.in-Ok-begin_own.begun.0 c.in-Ok-begin_own.begun.1 keeps (c.requires.few, c.few_items.ensures) begins c.requires.apart left.logs.items left.histories.items crew)
