use Rattle.std.proofs.Common.{◌≡◌, drop}
use Rattle.bm_check.specs.Changes.{names_in, KeepsStart}
use Rattle.bm_check.specs.Statements.{setting_of}
use Rattle.bm_check.specs.Blocks.{at}
use Rattle.bm_check.proofs.BlockLemmas.{judged_list}
use Rattle.bm_check.proofs.block.+blocks.Given as goal

abbrev pub invariant-judge_block-loop-statement : goal.invariant-judge_block-loop-statement
invariant-judge_block-loop-statement l = record {
  judged : judged_list (setting_of l.setting.scenario.now l.setting.kind) (at (names_in l.initial.log) l.initial.held) l.statement-items ≡ judged_list (setting_of l.setting.scenario.now l.setting.kind) (at (names_in l.log) l.held) (drop l.statement-index l.statement-items);
  kept : KeepsStart l.initial.log l.log;
}
