use Rattle.std.proofs.Common.{◌≡◌, ℕ, List, Some, slice_get, subst, sym}
use Rattle.bm_lang.specs.declared.scenario.TypeDeclaration.{TypeDeclaration}
use Rattle.bm_lang.specs.declared.scenario.TypeId.{TypeId}
use Rattle.bm_world.specs.LivingState.{LivingState}
use Rattle.bm_world.specs.ToldLiving.{knows_living}
use Rattle.bm_exec.specs.Living.{HasType}
use Rattle.bm_exec_levels.specs.AtProcessor.{lists_of, lives_of, log_of}
use Rattle.bm_exec_levels.specs.declared.processor.Processor.{Processor}
use Rattle.bm_exec_levels.proofs.Grounds.{sound-still}
use Rattle.bm_run.proofs.Emptied.{taken-class, taken-given-back, taken-let-go, taken-lives, taken-type}
use Rattle.bm_run.proofs.emptying.give_back.Goals as goal

pub is_counted-counted-requires : goal.is_counted-counted-requires
is_counted-counted-requires g c =
    let types : List TypeDeclaration = c.args.program.now.scenario.now.types in
    let t : ℕ = c.args.type_id.0 in
    let x = c.requires.taken.1 in
    let declared = x.made.declared in
    let found = (taken-class types t c.requires.taken.0 (lives_of knows_living c.args.own.now) c.args.object x).found in
    record { declared = (declared, subst (λ (ts : List TypeDeclaration). slice_get ts t ≡ Some declared) (sym c.as_slice.ensures) found) }

pub give_up-requires-clause-living : goal.give_up-requires-clause-living
give_up-requires-clause-living g c =
    let types : List TypeDeclaration = c.args.program.now.scenario.now.types in
    let x = c.requires.taken.1 in
    (x.object.class, taken-lives types c.args.type_id.0 c.requires.taken.0 (lives_of knows_living c.args.own.now) c.args.object x)

pub give_up-requires-clause-typed : goal.give_up-requires-clause-typed
give_up-requires-clause-typed g c =
    let types : List TypeDeclaration = c.args.program.now.scenario.now.types in
    let t : ℕ = c.args.type_id.0 in
    let x = c.requires.taken.1 in
    let typed : HasType types t c.is_counted-counted.result = subst (λ (ts : List TypeDeclaration). HasType ts t c.is_counted-counted.result) c.as_slice.ensures c.is_counted-counted.ensures in
    subst (λ k. HasType types k c.is_counted-counted.result) (sym (taken-type types t c.requires.taken.0 (lives_of knows_living c.args.own.now) c.args.object x)) typed

pub returns-clause-grew : goal.returns-clause-grew
returns-clause-grew g c =
    let types : List TypeDeclaration = c.args.program.now.scenario.now.types in
    let t : TypeId = c.args.type_id in
    let a : Processor LivingState = c.args.own.now in
    let b : Processor LivingState = c.give_up.new.own in
    let typed : HasType types t.0 c.is_counted-counted.result = subst (λ (ts : List TypeDeclaration). HasType ts t.0 c.is_counted-counted.result) c.as_slice.ensures c.is_counted-counted.ensures in
    taken-given-back types t c.args.object c.is_counted-counted.result (lists_of a) (log_of a) (log_of b) c.requires.taken.0 (lives_of knows_living a) (lives_of knows_living b) c.requires.taken.1 c.give_up.ensures.disposed typed

pub returns-clause-lives : goal.returns-clause-lives
returns-clause-lives g c =
    let types : List TypeDeclaration = c.args.program.now.scenario.now.types in
    let a : Processor LivingState = c.args.own.now in
    let b : Processor LivingState = c.give_up.new.own in
    taken-let-go types c.args.type_id c.args.object c.is_counted-counted.result (lists_of a) (log_of a) (log_of b) c.requires.taken.0 (lives_of knows_living a) (lives_of knows_living b) c.requires.taken.1 c.give_up.ensures.disposed

pub returns-clause-sound : goal.returns-clause-sound
returns-clause-sound g c = sound-still knows_living 1 c.args.program.now c.args.own.now c.give_up.new.own c.give_up.ensures.between c.give_up.ensures.at c.requires.sound
