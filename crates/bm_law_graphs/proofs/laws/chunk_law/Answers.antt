use Rattle.bm_law_graphs.proofs.ChunkShelved.{chunk-shelved}
use Rattle.bm_law_graphs.proofs.ShelvedAlong.{declared-call}
use Rattle.bm_law_graphs.proofs.laws.chunk_law.Goals as goal

pub returns-clause-goes : goal.returns-clause-goes
returns-clause-goes c = chunk-shelved

pub returns-clause-declared : goal.returns-clause-declared
returns-clause-declared c = declared-call
