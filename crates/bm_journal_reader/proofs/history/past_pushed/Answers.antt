use Rattle.std.proofs.Common.{arith, sym}
use Rattle.bm_journal_reader.proofs.Shapes.{past_pushed_other}
use Rattle.bm_journal_reader.proofs.history.past_pushed.Goals as goal

pub returns-in_default : goal.returns-in_default
returns-in_default c = sym (past_pushed_other c.args.owners.now c.args.kind c.args.words.now (λ e. omega arith) (λ e. omega arith))

pub returns-in_default-2 : goal.returns-in_default-2
returns-in_default-2 c = sym (past_pushed_other c.args.owners.now c.args.kind c.args.words.now (λ e. omega arith) (λ e. omega arith))

pub returns-in_default-3 : goal.returns-in_default-3
returns-in_default-3 c = sym (past_pushed_other c.args.owners.now c.args.kind c.args.words.now (λ e. omega arith) (λ e. omega arith))
