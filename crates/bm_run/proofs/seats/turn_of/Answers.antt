use Rattle.std.specs.Prelude.{ℕ, List, set}
use Rattle.std.proofs.Common.{◌∙◌, arith}
use Rattle.std.proofs.lemmas.Option.{get_or_from_slice_get, slice_get_within}
use Rattle.std.proofs.lemmas.Result.{IfOk-weaker}
use Rattle.bm_world.specs.LivingState.{LivingState}
use Rattle.bm_run.specs.Between.{Between, ended_of}
use Rattle.bm_run.specs.NextTurn.{IsNextTurn}
use Rattle.bm_run.specs.SeatTurn.{TookTurn, kept_log}
use Rattle.bm_run.specs.declared.seats.Seat.{Seat}
use Rattle.bm_run.proofs.SeatTurn.{between-turn, if-on, may-be, may-begin, took-as, turn-less}
use Rattle.bm_run.proofs.seats.turn_of.Goals as goal

pub turn-requires : goal.turn-requires
turn-requires c =
    let b = c.requires.between in
    let t = c.requires.there in
    may-begin c.args.program.now b.0 b.1 c.args.seats.now.items c.args.world b.2 c.args.processor t.0 t.1

pub index_mut-seat-requires : goal.index_mut-seat-requires
index_mut-seat-requires c =
    let t = c.requires.there in
    let within = slice_get_within c.args.seats.now.items c.args.processor t.0 t.1 in
    let many = c.args.seats.now.ok.0 in
    omega (arith, within, many)

pub turn_on-requires-clause-may : goal.turn_on-requires-clause-may
turn_on-requires-clause-may c =
    let b = c.requires.between in
    let t = c.requires.there in
    let seats = c.args.seats.now.items in
    let seat : Seat = c.index_mut-seat.result.now in
    may-be c.args.program.now b.0 b.1 seats c.args.world b.2 c.args.processor t.0 t.1 seat c.turn.new.self
    (c.index_mut-seat.ensures.value ∙ get_or_from_slice_get seats c.args.processor t.0 seat t.1) c.turn.ensures t.2

pub returns-clause-between : goal.returns-clause-between
returns-clause-between c =
    let t = c.requires.there in
    let g = c.args.program.now in
    let seats = c.args.seats.now.items in
    let p = c.args.processor in
    let world = c.args.world in
    let seat : Seat = c.index_mut-seat.result.now in
    let same = c.index_mut-seat.ensures.value ∙ get_or_from_slice_get seats p t.0 seat t.1 in
    let then : Seat = c.turn_on.new.seat in
    let Took : LivingState → Type 0 = λ now. TookTurn g (kept_log seat.kept) c.turn.new.self now seat then in
    let Goes : LivingState → Type 0 = λ now. (turns rest after : List ℕ) → IsNextTurn (ended_of seats) rest p after → Between g turns rest seats world → Between g turns after (set seats p then) now in
    let goes : (now : LivingState) → Took now → Goes now = λ now took turns rest after next b.
    between-turn g turns rest seats world b p t.0 t.1 after now then t.2 next (took-as g turns rest seats world b p t.0 t.1 seat then c.turn.new.self now same c.turn.ensures took) in
    IfOk-weaker c.turn_on.result Took Goes goes c.turn_on.ensures.took

pub returns-clause-less : goal.returns-clause-less
returns-clause-less c =
    let b = c.requires.between in
    let t = c.requires.there in
    let g = c.args.program.now in
    let seats = c.args.seats.now.items in
    let p = c.args.processor in
    let world = c.args.world in
    let seat : Seat = c.index_mut-seat.result.now in
    let same = c.index_mut-seat.ensures.value ∙ get_or_from_slice_get seats p t.0 seat t.1 in
    let then : Seat = c.turn_on.new.seat in
    let Took : LivingState → Type 0 = λ now. TookTurn g (kept_log seat.kept) c.turn.new.self now seat then in
    if-on c.turn_on.result Took _ c.turn_on.ensures.took (λ now took. turn-less g _ _ now seats p t.0 then t.1 t.2 (took-as g b.0 b.1 seats world b.2 p t.0 t.1 seat then c.turn.new.self now same c.turn.ensures took))
