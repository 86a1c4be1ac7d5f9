-- What each call leaves known. Sections, numbers and periods are this project's own model of the kernel's grace periods.
use Rattle.std.specs.Prelude.{ℕ, ◌+◌, ◌-◌, ◌*◌, ◌/◌, ◌%◌, ◌==◌, if◌then◌else◌, Bool, true, false, List, [], ◌∷◌, ◌++◌}
use Rattle.bm_journal.specs.declared.ids.Domain.{Domain}
use Rattle.bm_journal.specs.declared.ids.Domain.TheVariants.{Plain, Tracing}
use Rattle.bm_grace.specs.declared.answer.Began.{Began}
use Rattle.bm_grace.specs.declared.answer.Began.TheVariants.{Won, Moved}
use Rattle.bm_grace.specs.declared.step.StepKind.{StepKind}
use Rattle.bm_grace.specs.declared.step.StepKind.TheVariants.{Enter, Leave, Stamp, Begin, Look, Finish}
use Rattle.bm_grace.specs.declared.step.TableWord.{TableWord}
use Rattle.bm_grace.specs.declared.step.TableWord.TheVariants.{Section, Number}
use Rattle.bm_grace.specs.declared.step.TableStep.{TableStep}
pub use Rattle.bm_law_order.specs.Looks.{first_or}
use Rattle.bm_grace.specs.Known.{Known, Side, Sides, side}

abbrev pub sides_with : Domain → Side → Sides → Sides
sides_with Plain s sides = record sides { plain = s }
sides_with Tracing s sides = record sides { tracing = s }

-- steps are known of where they are told
abbrev pub told : Bool → List TableStep → List TableStep → List TableStep
told true before more = before ++ more
told false before more = before

-- a call left this side of a domain, and took these steps; all else is as it was
abbrev pub changed : Bool → Domain → Side → List TableStep → Known → Known
changed tells domain s steps known =
    record known { grace = sides_with domain s known.grace; steps = told tells known.steps steps }

abbrev pub one_step : StepKind → TableWord → ℕ → ℕ → List TableStep
one_step kind word found left = record { kind = kind; word = word; found = found; left = left } ∷ []

-- the section word of the domain is one greater
abbrev pub moved : StepKind → Bool → Domain → Known → Known
moved kind tells domain known =
    let s = side domain known in
    let step = one_step kind (Section domain known.grace.processor) s.word (s.word + 1) in
    changed tells domain (record s { word = s.word + 1 }) step known

abbrev pub entered : Bool → Domain → Known → Known
entered = moved Enter

abbrev pub left : Bool → Domain → Known → Known
left = moved Leave

-- the number of the domain was read
abbrev pub read : Bool → Domain → ℕ → Known → Known
read tells domain number known =
    changed tells domain (record (side domain known) { seen = number })
    (one_step Stamp (Number domain) number number) known

-- the number that was found where a period was to begin at an even one, and the number that was left
abbrev pub found_at : ℕ → Began → ℕ
found_at even Won = even
found_at even (Moved number) = number

abbrev pub left_at : ℕ → Began → ℕ
left_at even Won = even + 1
left_at even (Moved number) = number

-- a period that was begun has no words yet
abbrev pub side_begun : ℕ → Began → Side → Side
side_begun even Won s =
    record s { number = even + 1; first = []; later = []; begins = s.begins - 1; seen = even + 1 }
side_begun even (Moved number) s = record s { seen = number }

-- a period was to begin at an even number
abbrev pub began : Bool → Domain → Began → ℕ → Known → Known
began tells domain answer even known =
    let step = one_step Begin (Number domain) (found_at even answer) (left_at even answer) in
    changed tells domain (side_begun even answer (side domain known)) step known

-- how many words a period looks at: one a processor in the plain domain, two in the tracing one
abbrev pub looks : Domain → ℕ → ℕ
looks Plain processors = processors
looks Tracing processors = 2 * processors

-- whose word a period looks at as its i-th
abbrev pub processor_at : Domain → ℕ → ℕ
processor_at Plain i = i
processor_at Tracing i = i / 2

-- of which domain it is: in the tracing domain the plain word of a processor stands before its tracing one
abbrev pub domain_at : Domain → ℕ → Domain
domain_at Plain i = Plain
domain_at Tracing i = if (i % 2 == 0) then Plain else Tracing

-- the words that a period found, from its i-th on
abbrev pub look_steps : Domain → ℕ → List ℕ → List TableStep
look_steps domain i [] = []
look_steps domain i (word ∷ words) =
    one_step (Look domain) (Section (domain_at domain i) (processor_at domain i)) word word
    ++ look_steps domain (i + 1) words

-- a period of the domain looked at its words, and found these
abbrev pub looked : Bool → Domain → List ℕ → Known → Known
looked tells domain words known =
    let s = side domain known in
    changed tells domain (record s { first = first_or words s.first; later = words })
    (look_steps domain 0 words) known

-- the period that was in progress has ended
abbrev pub finished : Bool → Domain → Known → Known
finished tells domain known =
    let s = side domain known in
    let step = one_step Finish (Number domain) s.number (s.number + 1) in
    changed tells domain (record s { number = 0; first = []; later = []; seen = s.number + 1 }) step
    known
