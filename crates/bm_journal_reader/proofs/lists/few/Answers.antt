use Rattle.std.proofs.Common.{◌≡◌, ◌^◌, ◌<◌, ◌≤◌, length, Some, take, sym, ap, ◌∙◌, arith}
use Rattle.bm_journal_reader.specs.Pieces.{texts}
use Rattle.bm_law_text.specs.Parts.{numbers}
use Rattle.bm_journal_reader.proofs.NumbersRead.{numbers-more, numbers-none, numbers-all, numbers-length, few-long, few-none, few-some, length-texts}
use Rattle.std.proofs.lemmas.List.{length-take-le}
use Rattle.bm_journal_reader.proofs.lists.few.Goals as goal

pub returns-then-words-gt16 : goal.returns-then-words-gt16
returns-then-words-gt16 c =
    let lt : 16 < length (texts c.args.words.now) = omega (arith, length-texts c.args.words.now) in
    few-long 16 (texts c.args.words.now) lt

pub loop-word-init : goal.loop-word-init
unfolding numbers
loop-word-init c = ap Some (sym c.new-few.ensures)

pub returns-in_default : goal.returns-in_default
returns-in_default c = few-none 16 (texts c.args.words.now) (numbers-none (2 ^ 32) c.args.words.now c.loop-word.word-index _ c.loop-word-test.true (sym c.number.ensures ∙ c.in_default.is))

pub returns-in-Err : goal.returns-in-Err
returns-in-Err c =
    let same = numbers-length (2 ^ 32) (texts (take c.loop-word.word-index c.args.words.now)) c.loop-word.few.items c.loop-word.invariant in
    let short = length-texts (take c.loop-word.word-index c.args.words.now) in
    let taken = length-take-le c.loop-word.word-index c.args.words.now (omega arith) in
    let full : length c.loop-word.few.items ≡ 16 = c.in-Err.ensures.full in
    absurd (omega arith)

pub loop-word-preserved : goal.loop-word-preserved
loop-word-preserved c =
    numbers-more (2 ^ 32) c.args.words.now c.loop-word.word-index _ c.loop-word.few.items c.in-Some.number c.loop-word-test.true c.loop-word.invariant (sym c.number.ensures ∙ c.in-Some.is)
    ∙ ap Some (sym c.in-Ok.ensures.ok)

pub returns : goal.returns
returns c =
    let le : length (texts c.args.words.now) ≤ 16 = omega (arith, length-texts c.args.words.now) in
    few-some 16 (texts c.args.words.now) c.loop-word.few.items le (numbers-all (2 ^ 32) c.args.words.now c.loop-word.word-index c.loop-word.few.items (omega arith) c.loop-word.invariant)
