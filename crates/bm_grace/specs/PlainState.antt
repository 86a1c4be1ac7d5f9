-- The words and numbers of all processors, for one thread, and what each call makes of them.
use Rattle.std.specs.Prelude.{ℕ, ◌+◌, ◌-◌, ◌==◌, if◌then◌else◌, Bool, false, Option, None, Some, List, [], take, replicate, slice_index, slice_set}
use Rattle.bm_journal.specs.declared.ids.Domain.{Domain}
use Rattle.bm_journal.specs.declared.ids.Domain.TheVariants.{Plain, Tracing}
use Rattle.bm_grace.specs.declared.answer.Began.{Began}
use Rattle.bm_grace.specs.declared.answer.Began.TheVariants.{Won, Moved}
use Rattle.bm_grace.specs.Known.{Known, Side, no_objects}
use Rattle.bm_grace.specs.Calls.{first_or}
pub use Rattle.bm_law_order.specs.Looks.{in_turn}

-- One domain: by processor its section word and how many periods it may still begin, 0 and 2^27 for those of the eight
-- that aren't there; the number; the processor that has a period in progress, if one has; and that period's words.
pub record DomainState : Type 0 where
  pub words : List ℕ
  pub begins : List ℕ
  pub number : ℕ
  pub driver : Option ℕ
  pub first : List ℕ
  pub later : List ℕ

-- Both domains: among how many processors, and whose side it is now.
pub record PlainState : Type 0 where
  pub processors : ℕ
  pub processor : ℕ
  pub plain : DomainState
  pub tracing : DomainState

-- Nobody has done anything.
abbrev pub idle : DomainState
idle =
    record {
      words = replicate 8 0;
      begins = replicate 8 134217728;
      number = 0;
      driver = None;
      first = [];
      later = [];
    }

abbrev pub domain_in : Domain → PlainState → DomainState
domain_in Plain state = state.plain
domain_in Tracing state = state.tracing

abbrev pub with_domain : Domain → DomainState → PlainState → PlainState
with_domain Plain here state = record state { plain = here }
with_domain Tracing here state = record state { tracing = here }

-- The section word of a processor is one greater.
abbrev pub word_moved : ℕ → DomainState → DomainState
word_moved processor here =
    record here { words = slice_set here.words processor (slice_index here.words processor + 1) }

-- A processor was to begin a period.
abbrev pub period_begun : ℕ → Began → DomainState → DomainState
period_begun processor Won here = record here {
  begins = slice_set here.begins processor (slice_index here.begins processor - 1);
  number = here.number + 1;
  driver = Some processor;
  first = [];
  later = [];
}
period_begun processor (Moved number) here = here

-- The period in progress looked at its words, and found these.
abbrev pub period_looked : List ℕ → DomainState → DomainState
period_looked words here = record here { first = first_or words here.first; later = words }

-- The period in progress has ended.
abbrev pub period_ended : DomainState → DomainState
period_ended here = record here { number = here.number + 1; driver = None; first = []; later = [] }

-- The words that a period of a domain looks at: the plain ones, and in the tracing domain both of each processor.
abbrev pub words_in : Domain → PlainState → List ℕ
words_in Plain state = take state.processors state.plain.words
words_in Tracing state =
    in_turn (take state.processors state.plain.words) (take state.processors state.tracing.words)

-- Whether it is this processor.
abbrev pub is_processor : ℕ → Option ℕ → Bool
is_processor processor None = false
is_processor processor (Some other) = other == processor

-- What a processor's side knows of one domain. The number that it saw is the number that stands there.
abbrev pub side_in : ℕ → DomainState → Side
side_in processor here =
    let driving = is_processor processor here.driver in
    record {
      word = slice_index here.words processor;
      number = if driving then here.number else 0;
      first = if driving then here.first else [];
      later = if driving then here.later else [];
      begins = slice_index here.begins processor;
      seen = here.number;
    }

-- What the processor whose side it is knows. No steps are told, no parcels, and no objects.
abbrev pub known_in : PlainState → Known
known_in state = record {
  grace = record {
    processors = state.processors;
    processor = state.processor;
    plain = side_in state.processor state.plain;
    tracing = side_in state.processor state.tracing;
  };
  steps = [];
  parcels = None;
  objects = no_objects;
}
