-- The worked journals fit the laws.
use Rattle.std.proofs.Common.{inl, inr, length, refl, sym, ap, ◌∙◌, lit≤, lit<}
use Rattle.bm_journal.specs.declared.ids.Domain.TheVariants.{Plain, Tracing}
use Rattle.bm_law_lives.specs.Together.{named}
use Rattle.bm_law_lives.specs.Lives.{LivesLaw, WholeLives, given_object, all_ended}
use Rattle.bm_law_lives.specs.Returns.{ReturnsLaw, returned_units, taken_units}
use Rattle.bm_law_lives.specs.GraceLaw.{GraceLaw, WholeGrace, DomainLaw}
use Rattle.bm_law_lives.specs.StampLaw.{StampLaw}
use Rattle.bm_law_lives.specs.Worked.{one_block, both_stages, two_processors, swept_from_inbox, sleepable_reader, waits_for_next, interrupted}
use Rattle.bm_law_lives.specs.Wrong.{never_ended, not_ended}
use Rattle.bm_law_lives.proofs.Named.{by-pairs, by-both, same-times}

-- ---- lives

pub one_block-law : LivesLaw one_block
one_block-law = record {
  given = by-pairs _ (named given_object one_block) (λ u e. rw e tt) (search tt);
  ended = by-pairs _ (named given_object one_block) (λ u e. rw e tt) (search (tt, lit≤));
  homes = search tt;
}

pub one_block-lives : WholeLives one_block
one_block-lives = record { law = one_block-law; each_ended = by-both _ (all_ended one_block) (named given_object one_block) (λ u e f. ap length (e ∙ sym f)) (search tt) (search tt) }

pub both_stages-law : LivesLaw both_stages
both_stages-law = record {
  given = by-pairs _ (named given_object both_stages) (λ u e. rw e tt) (search tt);
  ended = by-pairs _ (named given_object both_stages) (λ u e. rw e tt) (search (tt, lit≤));
  homes = search tt;
}

pub both_stages-lives : WholeLives both_stages
both_stages-lives = record { law = both_stages-law; each_ended = by-both _ (all_ended both_stages) (named given_object both_stages) (λ u e f. ap length (e ∙ sym f)) (search tt) (search tt) }

pub two_processors-law : LivesLaw two_processors
two_processors-law = record {
  given = by-pairs _ (named given_object two_processors) (λ u e. rw e tt) (search tt);
  ended = by-pairs _ (named given_object two_processors) (λ u e. rw e tt) (search (tt, lit≤));
  homes = search tt;
}

pub two_processors-lives : WholeLives two_processors
two_processors-lives = record { law = two_processors-law; each_ended = by-both _ (all_ended two_processors) (named given_object two_processors) (λ u e f. ap length (e ∙ sym f)) (search tt) (search tt) }

-- at any time, where the last life has not ended
pub unended-lives : LivesLaw never_ended
unended-lives = record {
  given = by-pairs _ (named given_object never_ended) (λ u e. rw e tt) (search tt);
  ended = by-pairs _ (named given_object never_ended) (λ u e. rw e tt) (search (tt, lit≤));
  homes = search tt;
}

-- ---- returns

pub one_block-returns : ReturnsLaw one_block
one_block-returns = record {
  returned = same-times (named returned_units one_block) (named taken_units one_block) (search tt) (search tt);
  receivers = tt;
  arrive = (λ c u. refl, tt);
}

pub both_stages-returns : ReturnsLaw both_stages
both_stages-returns = record {
  returned = same-times (named returned_units both_stages) (named taken_units both_stages) (search tt) (search tt);
  receivers = search (tt, lit<);
  arrive = (λ c u. refl, tt);
}

pub two_processors-returns : ReturnsLaw two_processors
two_processors-returns = record {
  returned = same-times (named returned_units two_processors) (named taken_units two_processors) (search tt) (search tt);
  receivers = search (tt, lit<);
  arrive = (λ c u. refl, (λ c u. refl, tt));
}

pub swept_from_inbox-returns : ReturnsLaw swept_from_inbox
swept_from_inbox-returns = record {
  returned = same-times (named returned_units swept_from_inbox) (named taken_units swept_from_inbox) (search tt) (search tt);
  receivers = search (tt, lit<);
  arrive = (λ c u. refl, (λ c u. refl, tt));
}

-- ---- grace periods

pub one_block-plain : DomainLaw Plain one_block
one_block-plain = record { numbers = search (tt, lit≤); sections = search tt; periods = search tt }

pub one_block-tracing : DomainLaw Tracing one_block
one_block-tracing = record { numbers = search (tt, lit≤); sections = search tt; periods = search (tt, inl, lit≤) }

pub one_block-grace : WholeGrace one_block
one_block-grace = record { law = record { plain = one_block-plain; tracing = one_block-tracing }; plain_ended = refl; tracing_ended = refl }

pub both_stages-plain : DomainLaw Plain both_stages
both_stages-plain = record { numbers = search (tt, lit≤); sections = search tt; periods = search (tt, inl, lit≤) }

pub both_stages-tracing : DomainLaw Tracing both_stages
both_stages-tracing = record { numbers = search (tt, lit≤); sections = search tt; periods = search (tt, inl, lit≤) }

pub both_stages-grace : WholeGrace both_stages
both_stages-grace = record { law = record { plain = both_stages-plain; tracing = both_stages-tracing }; plain_ended = refl; tracing_ended = refl }

pub two_processors-plain : DomainLaw Plain two_processors
two_processors-plain = record { numbers = search (tt, lit≤); sections = search tt; periods = search (tt, inl, inr, lit≤, lit<) }

pub two_processors-tracing : DomainLaw Tracing two_processors
two_processors-tracing = record { numbers = search (tt, lit≤); sections = search tt; periods = search (tt, inl, lit≤) }

pub two_processors-grace : WholeGrace two_processors
two_processors-grace = record { law = record { plain = two_processors-plain; tracing = two_processors-tracing }; plain_ended = refl; tracing_ended = refl }

pub sleepable_reader-plain : DomainLaw Plain sleepable_reader
sleepable_reader-plain = record { numbers = search (tt, lit≤); sections = search tt; periods = search tt }

pub sleepable_reader-tracing : DomainLaw Tracing sleepable_reader
sleepable_reader-tracing = record { numbers = search (tt, lit≤); sections = search tt; periods = search (tt, inl, inr, lit≤, lit<) }

pub sleepable_reader-grace : WholeGrace sleepable_reader
sleepable_reader-grace = record { law = record { plain = sleepable_reader-plain; tracing = sleepable_reader-tracing }; plain_ended = refl; tracing_ended = refl }

-- at any time, where the last period has not ended
pub unended-grace : GraceLaw not_ended
unended-grace = search (tt, lit≤)

-- ---- stamps

pub one_block-stamps : StampLaw one_block
one_block-stamps = record {
  plain_stamps = search tt;
  tracing_stamps = search tt;
  plain_seen = search tt;
  tracing_seen = search (tt, lit≤);
  seals = search tt;
  returns = search (tt, lit≤);
}

pub both_stages-stamps : StampLaw both_stages
both_stages-stamps = record {
  plain_stamps = search tt;
  tracing_stamps = search (tt, lit≤);
  plain_seen = search (tt, lit≤);
  tracing_seen = search (tt, lit≤);
  seals = search (tt, lit≤);
  returns = search (tt, lit≤);
}

pub two_processors-stamps : StampLaw two_processors
two_processors-stamps = record {
  plain_stamps = search tt;
  tracing_stamps = search tt;
  plain_seen = search (tt, lit≤);
  tracing_seen = search (tt, lit≤);
  seals = search (tt, lit≤);
  returns = search (tt, lit≤);
}

pub waits_for_next-stamps : StampLaw waits_for_next
waits_for_next-stamps = record {
  plain_stamps = search (tt, lit≤);
  tracing_stamps = search tt;
  plain_seen = search (tt, lit≤);
  tracing_seen = search tt;
  seals = search tt;
  returns = search tt;
}

pub interrupted-stamps : StampLaw interrupted
interrupted-stamps = record {
  plain_stamps = search tt;
  tracing_stamps = search tt;
  plain_seen = search (tt, lit≤);
  tracing_seen = search tt;
  seals = search (tt, lit≤);
  returns = search tt;
}
