-- What came before a read that ended the loop was taken too.
use Rattle.std.proofs.Common.{arith, vec_items, length-append}
use Rattle.std.proofs.lemmas.Result.{err_from_is_err_and}
use Rattle.std.proofs.KnownBytes.{Consumes-trans}
use Rattle.bm_text.proofs.Taken.{TakesCount-over}
use Rattle.bm_text.proofs.whole.read_all.Goals as goal

pub returns-in_err-read_piece-clause-taken : goal.returns-in_err-read_piece-clause-taken
returns-in_err-read_piece-clause-taken g c = (_, Consumes-trans _ _ _ _ _ c.turns.invariant.taken c.in_err-read_piece.ensures.taken.1)

pub returns-in_err-read_piece-clause-too_long : goal.returns-in_err-read_piece-clause-too_long
returns-in_err-read_piece-clause-too_long g c = λ is.
    let same = err_from_is_err_and c.from_residual.result c.from_residual.ensures.1 in
    let last = c.in_err-read_piece.ensures.too_long (cc (same.1, same.2, is)) in
    let bytes = c.turns.bytes in
    (_, Consumes-trans _ _ _ _ _ c.turns.invariant.taken last.1, omega (arith, length-append (vec_items bytes) last.0, last.2, bytes.ok.0, c.turns.invariant.within))

pub returns-in_err-read_piece-clause-over : goal.returns-in_err-read_piece-clause-over
returns-in_err-read_piece-clause-over g c = TakesCount-over _ _ _ _ (returns-in_err-read_piece-clause-too_long g c)
