use Rattle.bm_law_seals.proofs.LivesWhole.{freed-as-given, lives-law, whole-lives}
use Rattle.bm_law_seals.proofs.lives.lives_law.Goals as goal

pub returns-clause-law : goal.returns-clause-law
returns-clause-law c = lives-law

pub returns-clause-whole : goal.returns-clause-whole
returns-clause-whole c = whole-lives

pub returns-clause-freed : goal.returns-clause-freed
returns-clause-freed c = freed-as-given
