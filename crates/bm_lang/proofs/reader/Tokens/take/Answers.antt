use Rattle.std.proofs.Common.{◌<◌, length, arith, sym, ◌∙◌, ap}
use Rattle.std.proofs.lemmas.Bool.Decides.{nat_tests}
use Rattle.bm_lang.specs.Tokens.{tokens, marks_of}
use Rattle.bm_lang.proofs.Taking.{takes_end, takes_token, is_no_end}
use Rattle.bm_lang.proofs.Legal.{legal_front}
use Rattle.bm_lang.proofs.reader.Tokens.take.Goals as goal

pub returns-then-is_empty-clause-begins : goal.returns-then-is_empty-clause-begins
unfolding tokens
returns-then-is_empty-clause-begins c = takes_end _ c.skip_separators.new.self.place c.skip_separators.new.self.rest.now c.skip_separators.ensures.same (grind (arith, nat_tests, c.if-is_empty.ensures))

pub returns-then-is_empty-clause-ended : goal.returns-then-is_empty-clause-ended
unfolding tokens
returns-then-is_empty-clause-ended c = λ e. ap marks_of c.skip_separators.ensures.same

pub returns-clause-begins : goal.returns-clause-begins
unfolding tokens
returns-clause-begins c =
    let some : 0 < length c.skip_separators.new.self.rest.now = omega (arith, c.token_len.ensures.some, c.token_len.ensures.in_range) in
    takes_token _ c.skip_separators.new.self.place c.skip_separators.new.self.rest.now c.split_at.result.0.now c.split_at.result.1.now c.token_len.result _ c.skip_separators.ensures.same c.skip_separators.ensures.past some c.token_len.ensures.length c.split_at.ensures.front c.split_at.ensures.back c.split_at.ensures.front_len c.token_len.ensures.some c.token_of.ensures

pub returns-clause-ended : goal.returns-clause-ended
returns-clause-ended c = λ e. absurd (is_no_end c.split_at.result.0.now (omega (arith, c.split_at.ensures.front_len, c.token_len.ensures.some)) (sym c.token_of.ensures ∙ e))

pub returns-clause-legal : goal.returns-clause-legal
returns-clause-legal c =
    let some : 0 < length c.skip_separators.new.self.rest.now = omega (arith, c.token_len.ensures.some, c.token_len.ensures.in_range) in
    rw (c.token_of.ensures) (legal_front c.skip_separators.new.self.rest.now c.split_at.result.0.now c.token_len.result some c.token_len.ensures.length c.split_at.ensures.front)
