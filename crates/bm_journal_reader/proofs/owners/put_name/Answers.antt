use Rattle.bm_journal_reader.proofs.OwnersPut.{puts}
use Rattle.bm_journal_reader.proofs.owners.put_name.Goals as goal

pub returns : goal.returns
returns c = puts (λ v. v.items) c.args.names.now.keys c.args.name c.insert.new.self.keys c.in_ok-differs.differs c.in_ok-differs.ensures.added c.in_ok-differs.ensures.keys
