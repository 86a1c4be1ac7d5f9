use Rattle.std.proofs.Common.{◌∙◌, ℕ, List, None, Option, Some, subst}
use Rattle.bm_journal.specs.declared.ids.ObjId.{ObjId}
use Rattle.bm_lang.specs.declared.scenario.MapDeclaration.{MapDeclaration}
use Rattle.bm_lang.specs.declared.scenario.TypeDeclaration.{TypeDeclaration}
use Rattle.bm_world.specs.LivingState.{LivingState}
use Rattle.bm_world.specs.ToldLiving.{knows_living}
use Rattle.bm_exec.specs.Living.{Exchanged}
use Rattle.bm_exec_levels.specs.AtProcessor.{lives_of, log_of}
use Rattle.bm_exec_levels.specs.declared.processor.Processor.{Processor}
use Rattle.bm_exec_levels.specs.Hosting.{items-joined}
use Rattle.bm_exec_levels.proofs.Grounds.{sound-still}
use Rattle.bm_exec_levels.proofs.Noted.{between-join}
use Rattle.bm_run.proofs.Emptied.{emptied-none, exchanged-with, let-go-again}
use Rattle.bm_run.proofs.emptying.empty_slot.Goals as goal

-- what a call of a slot's exchange with null found
abbrev Found : List TypeDeclaration → MapDeclaration → List ℕ → (before now : Processor LivingState) → Option ObjId → Type 0
Found types m name before now was = Exchanged 0 types m.type_id.0 name None (log_of before) (log_of now) (lives_of knows_living before) (lives_of knows_living now) was

-- ---- it held nothing

pub returns-in_default-clause-grew : goal.returns-in_default-clause-grew
returns-in_default-clause-grew g c =
    let types : List TypeDeclaration = c.args.program.now.scenario.now.types in
    let m : MapDeclaration = c.args.slot.now in
    let a : Processor LivingState = c.args.own.now in
    let b : Processor LivingState = c.exchange.new.own in
    let e = c.exchange.ensures in
    let got : Found types m c.duplicate-name.result a b None = subst (Found types m c.duplicate-name.result a b) c.in_default.is (e.exchanged m c.requires.slot) in
    emptied-none c.args.program.now a b types m c.duplicate-name.result 1 c.duplicate-name.ensures c.requires.sound.fine e.between got

pub returns-in_default-clause-lives : goal.returns-in_default-clause-lives
returns-in_default-clause-lives g c =
    let types : List TypeDeclaration = c.args.program.now.scenario.now.types in
    let m : MapDeclaration = c.args.slot.now in
    let a : Processor LivingState = c.args.own.now in
    let b : Processor LivingState = c.exchange.new.own in
    let got : Found types m c.duplicate-name.result a b None = subst (Found types m c.duplicate-name.result a b) c.in_default.is (c.exchange.ensures.exchanged m c.requires.slot) in
    (got.takes, c.exchange.ensures.items)

pub returns-in_default-clause-sound : goal.returns-in_default-clause-sound
returns-in_default-clause-sound g c = sound-still knows_living 1 c.args.program.now c.args.own.now c.exchange.new.own c.exchange.ensures.between c.exchange.ensures.at c.requires.sound

-- ---- it held an object

pub give_back-requires-clause-taken : goal.give_back-requires-clause-taken
give_back-requires-clause-taken g c =
    let types : List TypeDeclaration = c.args.program.now.scenario.now.types in
    let m : MapDeclaration = c.args.slot.now in
    let a : Processor LivingState = c.args.own.now in
    let b : Processor LivingState = c.exchange.new.own in
    let o : ObjId = c.in-Some.object in
    let got : Found types m c.duplicate-name.result a b (Some o) = subst (Found types m c.duplicate-name.result a b) c.in-Some.is (c.exchange.ensures.exchanged m c.requires.slot) in
    (lives_of knows_living a, got.takes)

pub give_back-requires-clause-sound : goal.give_back-requires-clause-sound
give_back-requires-clause-sound g c = sound-still knows_living 1 c.args.program.now c.args.own.now c.exchange.new.own c.exchange.ensures.between c.exchange.ensures.at c.requires.sound

pub returns-clause-grew : goal.returns-clause-grew
returns-clause-grew g c =
    let types : List TypeDeclaration = c.args.program.now.scenario.now.types in
    let m : MapDeclaration = c.args.slot.now in
    let a : Processor LivingState = c.args.own.now in
    let b : Processor LivingState = c.exchange.new.own in
    let o : ObjId = c.in-Some.object in
    let e = c.exchange.ensures in
    let got : Found types m c.duplicate-name.result a b (Some o) = subst (Found types m c.duplicate-name.result a b) c.in-Some.is (e.exchanged m c.requires.slot) in
    exchanged-with c.args.program.now a b types m c.duplicate-name.result 1 c.duplicate-name.ensures c.requires.sound.fine e.between (log_of c.give_back.new.own) (Some o) got c.give_back.ensures.grew

pub returns-clause-lives : goal.returns-clause-lives
returns-clause-lives g c =
    let types : List TypeDeclaration = c.args.program.now.scenario.now.types in
    let m : MapDeclaration = c.args.slot.now in
    let a : Processor LivingState = c.args.own.now in
    let b : Processor LivingState = c.exchange.new.own in
    let o : ObjId = c.in-Some.object in
    let e = c.exchange.ensures in
    let got : Found types m c.duplicate-name.result a b (Some o) = subst (Found types m c.duplicate-name.result a b) c.in-Some.is (e.exchanged m c.requires.slot) in (
      c.give_back.ensures.lives ∙ let-go-again types m.type_id.0 (lives_of knows_living a) (lives_of knows_living b) o got.takes,
      items-joined knows_living a b c.give_back.new.own e.items c.give_back.ensures.items,
    )

pub returns-clause-between : goal.returns-clause-between
returns-clause-between g c = between-join knows_living 1 0 1 0 0 c.args.program.now c.args.own.now c.exchange.new.own c.give_back.new.own c.exchange.ensures.between c.give_back.ensures.between
