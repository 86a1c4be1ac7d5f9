-- What a processor's side knows of what all processors share.
use Rattle.std.specs.Prelude.{ℕ, Option, None, List, []}
use Rattle.bm_journal.specs.declared.ids.Domain.{Domain}
use Rattle.bm_journal.specs.declared.ids.Domain.TheVariants.{Plain, Tracing}
use Rattle.bm_law_order.specs.Graphs.{NamedGraph}
use Rattle.bm_law_order.specs.Slots.{Named}
use Rattle.bm_grace.specs.declared.step.TableStep.{TableStep}

-- of one domain
pub record Side : Type 0 where
  -- its own section word, which is odd inside a section
  pub word : ℕ
  -- the odd number of the period that it has in progress, or 0
  pub number : ℕ
  -- the words of that period, as first and as last looked at, in the period's order; none before the first look
  pub first : List ℕ
  pub later : List ℕ
  -- how many periods it may still begin
  pub begins : ℕ
  -- a number that the domain had
  pub seen : ℕ

-- of both domains: among how many processors, which one it is, and its sides
pub record Sides : Type 0 where
  pub processors : ℕ
  pub processor : ℕ
  pub plain : Side
  pub tracing : Side

-- An object that lives: the class of its unit, which life of the unit it is, the unit's home, which is the processor that gave it, its type, by
-- its number among those declared, how many references there are to it, and the values of its fields.
pub record Living : Type 0 where
  pub class : ℕ
  pub life : ℕ
  pub home : ℕ
  pub type : ℕ
  pub count : ℕ
  pub values : List ℕ

-- by the numbers of units
abbrev pub Lives : Type 0
Lives = ℕ → Option Living

-- The objects that live on a side, how many lives each unit has begun, how many calls for objects were counted there, its slots with what they hold,
-- and its lists and trees. No call on grace periods, parcels or the stock changes them.
pub record Objects : Type 0 where
  pub lives : Lives
  pub begun : ℕ → ℕ
  pub asked : ℕ
  pub slots : List Named
  pub graphs : List NamedGraph

-- all of it
pub record Known : Type 0 where
  pub grace : Sides
  -- the steps that it took, in their order, where they are told
  pub steps : List TableStep
  -- the parcels in its own inbox of each class, by the numbers of their units, the oldest first, where they are told
  pub parcels : Option (ℕ → List (List ℕ))
  pub objects : Objects

abbrev pub side : Domain → Known → Side
side Plain known = known.grace.plain
side Tracing known = known.grace.tracing

-- where none lives or has lived, and none was asked for
abbrev pub no_objects : Objects
no_objects = record { lives = λ n. None; begun = λ n. 0; asked = 0; slots = []; graphs = [] }

-- of what has no part in grace periods
abbrev pub no_side : Side
no_side = record { word = 0; number = 0; first = []; later = []; begins = 0; seen = 0 }

abbrev pub no_known : Known
no_known = record {
  grace = record { processors = 0; processor = 0; plain = no_side; tracing = no_side };
  steps = [];
  parcels = None;
  objects = no_objects;
}
