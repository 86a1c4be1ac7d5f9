use Rattle.std.proofs.Common.{◌≡◌, length}
use Rattle.bm_lang.specs.Tokens.{pieces}
use Rattle.bm_lang.proofs.reader.Tokens.skip_separators.Given as goal

abbrev pub invariant-loop-self : goal.invariant-loop-self
invariant-loop-self l = pieces l.self.place l.self.rest.now ≡ pieces l.fn.self.place l.fn.self.rest.now

abbrev pub decreases-loop-self : goal.decreases-loop-self
decreases-loop-self l = length l.self.rest.now
