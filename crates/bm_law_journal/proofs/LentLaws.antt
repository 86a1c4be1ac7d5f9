-- What the logs of the worked journal of two processors say together.
use Rattle.std.proofs.Common.{inl, inr, length, sym, ap, ◌∙◌, lit≤, lit<, refl}
use Rattle.bm_journal.specs.declared.ids.Domain.TheVariants.{Plain, Tracing}
use Rattle.bm_law_lives.specs.Together.{named}
use Rattle.bm_law_lives.specs.Lives.{LivesLaw, WholeLives, given_object, all_ended}
use Rattle.bm_law_lives.specs.Returns.{ReturnsLaw, returned_units, taken_units}
use Rattle.bm_law_lives.specs.GraceLaw.{WholeGrace, DomainLaw}
use Rattle.bm_law_lives.specs.StampLaw.{StampLaw}
use Rattle.bm_law_lives.proofs.Named.{by-pairs, by-both, same-times}
use Rattle.bm_law_journal.specs.WorkedTurns.{lent}

lent-law : LivesLaw lent
lent-law = record {
  given = by-pairs _ (named given_object lent) (λ u e. rw e tt) (search tt);
  ended = by-pairs _ (named given_object lent) (λ u e. rw e tt) (search (tt, lit≤));
  homes = search tt;
}

pub lent-lives : WholeLives lent
lent-lives = record { law = lent-law; each_ended = by-both _ (all_ended lent) (named given_object lent) (λ u e f. ap length (e ∙ sym f)) (search tt) (search tt) }

pub lent-returns : ReturnsLaw lent
lent-returns = record {
  returned = same-times (named returned_units lent) (named taken_units lent) (search tt) (search tt);
  receivers = search (tt, lit<);
  arrive = (λ c u. refl, (λ c u. refl, tt));
}

lent-plain : DomainLaw Plain lent
lent-plain = record { numbers = search (tt, lit≤); sections = search tt; periods = search (tt, inl, inr, lit≤, lit<) }

lent-tracing : DomainLaw Tracing lent
lent-tracing = record { numbers = search (tt, lit≤); sections = search tt; periods = search (tt, inl, lit≤) }

pub lent-grace : WholeGrace lent
lent-grace = record { law = record { plain = lent-plain; tracing = lent-tracing }; plain_ended = refl; tracing_ended = refl }

pub lent-stamps : StampLaw lent
lent-stamps = record {
  plain_stamps = search tt;
  tracing_stamps = search tt;
  plain_seen = search (tt, lit≤);
  tracing_seen = search (tt, lit≤);
  seals = search (tt, lit≤);
  returns = search (tt, lit≤);
}
