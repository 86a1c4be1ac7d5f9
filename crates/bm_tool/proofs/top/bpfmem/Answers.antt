use Rattle.std.proofs.Common.{◌≡◌, inl, inr, sym, subst}
use Rattle.bm_command.specs.Words.{texts}
use Rattle.bm_tool.specs.declared.refusal.Refusal.{Refusal}
use Rattle.bm_tool.specs.declared.refusal.Refusal.TheVariants.{OutOfMemory, WriteFailed}
use Rattle.bm_tool.specs.Causes.{Cause}
use Rattle.bm_tool.proofs.Causes.{some_command}
use Rattle.bm_tool.proofs.top.bpfmem.Goals as goal

pub returns-in-Ok-run-clause-refused : goal.returns-in-Ok-run-clause-refused
returns-in-Ok-run-clause-refused g c = λ other.
    let is : c.print.result.status ≡ 3 = elim c.print.ensures.status [ inl done ↦ absurd (other done) | inr failed ↦ failed ] in
    record { refusal = WriteFailed; status_is = is; cause = c.print.ensures.failed is; told = c.print.ensures.told is }

pub returns-in-Ok-generate-clause-refused : goal.returns-in-Ok-generate-clause-refused
returns-in-Ok-generate-clause-refused g c = λ other.
    let is : c.print-in-Ok-generate.result.status ≡ 3 = elim c.print-in-Ok-generate.ensures.status [ inl done ↦ absurd (other done) | inr failed ↦ failed ] in
    record { refusal = WriteFailed; status_is = is; cause = c.print-in-Ok-generate.ensures.failed is; told = c.print-in-Ok-generate.ensures.told is }

pub returns-in-Err-NoMemory-clause-refused : goal.returns-in-Err-NoMemory-clause-refused
returns-in-Err-NoMemory-clause-refused g c = λ other.
    let told = c.refused-in-Err-NoMemory.ensures.told in
    let same : told.0 ≡ OutOfMemory = elim told.1 [ inl is ↦ is | inr long ↦ long.1 ] in
    let usage = rw c.in-Err-NoMemory.field-0-is at c.in-Err-NoMemory.ensures.usage in
    let some = some_command (texts c.args.words.now) (λ none. let bad = usage.1 none in cc) in
    record {
      refusal = told.0;
      status_is = told.2;
      cause = subst (λ (r : Refusal). Cause (texts c.args.words.now) (g.S.Source.left c.args.source.now) (g.S.Source.faults c.args.source.now) (g.S.Source.faults c.args.source.now) (g.K.Sink.faults c.args.out.now) (g.K.Sink.faults c.args.out.now) r) (sym same) some;
      told = told.3;
    }
