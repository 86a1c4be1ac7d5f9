use Rattle.std.proofs.Common.{◌≡◌, vec_len}
use Rattle.bm_check.specs.Names.{soft_ended}
use Rattle.bm_check.specs.Changes.{names_in, KeepsStart}
use Rattle.bm_check.proofs.name_log.NameLog.end_soft.Given as goal

abbrev pub invariant-loop-name : goal.invariant-loop-name
invariant-loop-name l = record {
  ended : soft_ended (names_in l.self) ≡ soft_ended (names_in l.initial.self);
  kept : KeepsStart l.initial.self l.self;
}

abbrev pub decreases-loop-name : goal.decreases-loop-name
decreases-loop-name l = vec_len l.self.soft
