use Rattle.std.proofs.Common.{◌≡◌, ◌∙◌, ◌+◌, ◌*◌, ◌<◌, ◌++◌, ◌∷◌, [], List, ap, get_or, length, refl, subst, sym, take, take_all}
use Rattle.std.proofs.lemmas.List.{take_more}
use Rattle.std.proofs.lemmas.Option.{slice_get_read}
use Rattle.bm_lang.specs.declared.scenario.MapDeclaration.{MapDeclaration}
use Rattle.bm_lang.specs.declared.scenario.TypeDeclaration.{TypeDeclaration}
use Rattle.bm_law_scenario.specs.Closing.{EmptiesMaps}
use Rattle.bm_law_work.specs.Grown.{GrewBy}
use Rattle.bm_law_work.proofs.Grown.{grew-none}
use Rattle.bm_world.specs.LivingState.{LivingState}
use Rattle.bm_exec_levels.specs.AtProcessor.{lists_of, log_of}
use Rattle.bm_exec_levels.specs.declared.processor.Processor.{Processor}
use Rattle.bm_run.proofs.Emptied.{grew-map-more, still-closing}
use Rattle.bm_run.proofs.EmptiedMaps.{bare-all, between-all, room-for-next, so-far-more, so-far-none}
use Rattle.bm_run.proofs.emptying.empty_maps.Goals as goal

pub loop-index-init : goal.loop-index-init
loop-index-init g c =
    let a : Processor LivingState = c.args.own.now in
    record {
      sound = c.requires.sound;
      tied = c.requires.tied;
      emptied = grew-none (EmptiesMaps c.args.program.now.scenario.now.types []) (lists_of a) (log_of a) refl;
      lives = refl;
      so_far = so-far-none c.args.program.now a c.requires.sound.fine;
    }

pub empty_map-requires-clause-closing : goal.empty_map-requires-clause-closing
empty_map-requires-clause-closing g c =
    let x = c.loop-index.invariant.so_far in
    still-closing c.args.program.now (2 * c.loop-index.index + 3 * x.count) c.args.own.now c.loop-index.own x.between c.requires.closing

pub empty_map-requires-clause-found : goal.empty_map-requires-clause-found
empty_map-requires-clause-found g c =
    let maps : List MapDeclaration = c.args.program.now.scenario.now.maps in
    let i = c.loop-index.index in
    let m : MapDeclaration = c.map-item.result in
    let same = c.as_slice-map-items.ensures in
    let below : i < length maps = subst (λ (xs : List MapDeclaration). i < length xs) same c.loop-index-test.true in
    let at : m ≡ get_or maps i m = c.map-item.is ∙ ap (λ (xs : List MapDeclaration). get_or xs i m) same in
    slice_get_read maps (length maps) i m refl below at

pub empty_map-requires-clause-room : goal.empty_map-requires-clause-room
empty_map-requires-clause-room g c =
    let maps : List MapDeclaration = c.args.program.now.scenario.now.maps in
    let i = c.loop-index.index in
    let below : i < length maps = subst (λ (xs : List MapDeclaration). i < length xs) c.as_slice-map-items.ensures c.loop-index-test.true in
    room-for-next c.args.program.now i c.args.own.now c.loop-index.own c.loop-index.invariant.so_far c.requires.room below

-- the maps so far have this one at their end then
pub loop-index-preserved : goal.loop-index-preserved
loop-index-preserved g c =
    let p = c.args.program.now in
    let types : List TypeDeclaration = p.scenario.now.types in
    let maps : List MapDeclaration = p.scenario.now.maps in
    let i = c.loop-index.index in
    let a : Processor LivingState = c.args.own.now in
    let b : Processor LivingState = c.loop-index.own in
    let d : Processor LivingState = c.empty_map.new.own in
    let m : MapDeclaration = c.map-item.result in
    let h = c.loop-index.invariant in
    let e = c.in_ok-empty_map.ensures in
    let same = c.as_slice-map-items.ensures in
    let below : i < length maps = subst (λ (xs : List MapDeclaration). i < length xs) same c.loop-index-test.true in
    let at : m ≡ get_or maps i m = c.map-item.is ∙ ap (λ (xs : List MapDeclaration). get_or xs i m) same in
    let next : take (i + 1) maps ≡ take i maps ++ m ∷ [] = take_more maps i m below ∙ ap (λ y. take i maps ++ y ∷ []) (sym at) in
    let grew = grew-map-more p types (take i maps) m (2 * i + 3 * h.so_far.count) a b (log_of d) c.requires.sound.fine h.so_far.between h.emptied e.grew in
    record {
      sound = e.sound;
      tied = e.tied;
      emptied = subst (λ (ms : List MapDeclaration). GrewBy (EmptiesMaps types ms) (lists_of a) (log_of a) (log_of d)) (sym next) grew;
      lives = e.lives ∙ h.lives;
      so_far = so-far-more p i a b d h.so_far e.emptied e.between below;
    }

pub returns-clause-grew : goal.returns-clause-grew
returns-clause-grew g c =
    let types : List TypeDeclaration = c.args.program.now.scenario.now.types in
    let maps : List MapDeclaration = c.args.program.now.scenario.now.maps in
    let a : Processor LivingState = c.args.own.now in
    let b : Processor LivingState = c.loop-index.own in
    let whole : take c.loop-index.index maps ≡ maps = take_all c.loop-index.index maps (rw c.as_slice-map-items.ensures at c.loop-index-test.false) in
    subst (λ (ms : List MapDeclaration). GrewBy (EmptiesMaps types ms) (lists_of a) (log_of a) (log_of b)) whole c.loop-index.invariant.emptied

pub returns-clause-bare : goal.returns-clause-bare
returns-clause-bare g c =
    let p = c.args.program.now in
    let all = rw c.as_slice-map-items.ensures at c.loop-index-test.false in
    bare-all p c.args.own.now c.loop-index.own c.loop-index.index c.loop-index.invariant.so_far all c.loop-index.invariant.sound

pub returns-clause-between : goal.returns-clause-between
returns-clause-between g c =
    let p = c.args.program.now in
    let all = rw c.as_slice-map-items.ensures at c.loop-index-test.false in
    between-all p c.args.own.now c.loop-index.own c.loop-index.index c.loop-index.invariant.so_far all

pub returns-clause-processor : goal.returns-clause-processor
returns-clause-processor g c = c.loop-index.invariant.so_far.between.came.processor
