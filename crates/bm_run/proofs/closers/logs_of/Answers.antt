use Rattle.std.proofs.Common.{◌≡◌, ◌++◌, ◌∷◌, [], IsTrue, sym}
use Rattle.bm_journal.specs.WellFormed.{is_whole_log}
use Rattle.bm_run.specs.Closers.{IsEmptied, log_kept}
use Rattle.bm_run.proofs.ClosersLists.{all-first, all-last, all-more, told-more}
use Rattle.bm_run.proofs.Results.{not-err}
use Rattle.bm_run.proofs.closers.logs_of.Goals as goal

pub log_of-requires : goal.log_of-requires
log_of-requires c = all-last IsEmptied c.loop-place.places.items c.pop.new.self.items c.in-Some.place c.in-Some.ensures.items c.loop-place.invariant.emptied

pub loop-place-preserved : goal.loop-place-preserved
loop-place-preserved c =
    let added : c.add_log.new.logs.items ≡ c.loop-place.logs.items ++ c.in-Some-log_of.log ∷ [] = not-err c.add_log.result _ c.if-is_err.ensures.value c.add_log.ensures in
    record {
      told = told-more log_kept c.loop-place.places.items c.pop.new.self.items c.in-Some.place c.loop-place.logs.items c.add_log.new.logs.items c.in-Some-log_of.log _ c.in-Some.ensures.items added (sym c.in-Some-log_of.ensures.told) c.loop-place.invariant.told;
      emptied = all-first IsEmptied c.loop-place.places.items c.pop.new.self.items c.in-Some.place c.in-Some.ensures.items c.loop-place.invariant.emptied;
      whole = all-more (λ log. IsTrue (is_whole_log log)) c.loop-place.logs.items c.add_log.new.logs.items c.in-Some-log_of.log added c.loop-place.invariant.whole c.in-Some-log_of.ensures.whole;
    }
