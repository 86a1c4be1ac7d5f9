-- What acts of a processor need of what all share, and make of it: each is one step of the model.
use Rattle.std.specs.Prelude.{◌≡◌, ◌≢◌, ◌<◌, ◌+◌, ◌-◌, ℕ, Option, Some, None, List, [], ◌∷◌, ◌++◌, drop, reverse}
use Rattle.bm_journal.specs.declared.ids.Domain.{Domain}
use Rattle.bm_journal.specs.declared.ids.ObjId.{ObjId}
use Rattle.bm_journal.specs.declared.past.PastCall.{PastCall}
use Rattle.bm_journal.specs.declared.past.PastCall.TheVariants as past
use Rattle.bm_journal.specs.declared.period.Period.{Period}
use Rattle.bm_law.specs.Inboxes.{oldest}
use Rattle.bm_law_order.specs.ByDomain.{of, with_of}
use Rattle.bm_law_order.specs.Words.{IsNextWord, with_word}
use Rattle.bm_law_order.specs.Numbers.{IsBegin, IsEnd, begun, ended, next}
use Rattle.bm_law_order.specs.Looks.{Looked, Passes, first_or, nothing_looked}
use Rattle.bm_law_order.specs.Lives.{Has, IfAlive, IsAlive, IsGiven, Lives, counted, given_life, with_life}
use Rattle.bm_law_order.specs.Pages.{AllOut, all_back, fetches, less_fetched}
use Rattle.bm_law_order.specs.Parcels.{IsParcel, on_box}
use Rattle.bm_law_order.specs.Shared.{Shared, found}
use Rattle.bm_law_order.specs.Act.{Act, units_of}
use Rattle.bm_law_order.specs.Act as act

-- the period in progress found these words: the first ones stay, if there are some
abbrev pub looked : List ℕ → Looked → Looked
looked words here = record { first = first_or words here.first; later = words }

-- another number of references to the life that a unit has
abbrev pub recounted : (ℕ → ℕ) → ℕ → Lives → Lives
recounted f u lives = with_life u (counted f (lives.holds u)) lives

-- after an act of processor p
abbrev pub act_after : ℕ → Act → Shared → Shared
act_after p (act.Enters d w) s = record s { words = with_word p d w s.words }
act_after p (act.Leaves d w) s = record s { words = with_word p d w s.words }
act_after p (act.Begins d n) s =
    record s {
      numbers = with_of d (begun p (of d s.numbers)) s.numbers;
      looks = with_of d nothing_looked s.looks;
    }
act_after p (act.Looks d words) s =
    record s { looks = with_of d (looked words (of d s.looks)) s.looks }
act_after p (act.Finishes period) s =
    record s {
      numbers = with_of period.domain (ended (of period.domain s.numbers)) s.numbers;
      looks = with_of period.domain nothing_looked s.looks;
    }
act_after p (act.Fetches c want us) s = record s { pool = less_fetched c want s.pool }
act_after p (act.Returns us) s = record s { pool = all_back (reverse (units_of us)) s.pool }
act_after p (act.Sends c to us) s =
    record s { boxes = on_box to c (λ parcels. parcels ++ units_of us ∷ []) s.boxes }
act_after p (act.Receives c us) s = record s { boxes = on_box p c (drop 1) s.boxes }
act_after p (act.Drains c to us) s =
    record s { boxes = on_box to c (λ parcels. parcels ++ us ∷ []) s.boxes }
act_after p (act.Releases c to us stamp seen) s =
    record s { boxes = on_box to c (λ parcels. parcels ++ us ∷ []) s.boxes }
act_after p (act.GivesBack us) s = record s { pool = all_back (reverse us) s.pool }
act_after p (act.Makes u life type values seal) s = record s { lives = given_life p u s.lives }
act_after p (act.Acquires u life seen) s = record s { lives = recounted (λ n. n + 1) u s.lives }
act_after p (act.GivesUp u life seen) s = record s { lives = recounted (λ n. n - 1) u s.lives }
act_after p (act.Ends u life home delayed) s = record s { lives = with_life u None s.lives }
act_after p _ s = s

-- the processor looks at the words of the period that it has in progress, of which there are some
pub record LooksAt (p : ℕ) (d : Domain) (words : List ℕ) (s : Shared) : Type 0 where
  pub driver : (of d s.numbers).driver ≡ Some p
  pub words_are : words ≡ found s d
  pub some : words ≢ []

-- it ends the period that it has in progress, with the words that it looked at first and last, and they pass
pub record CanEnd (p : ℕ) (period : Period) (s : Shared) : Type 0 where
  pub number : IsEnd p period.number (of period.domain s.numbers)
  pub first : period.first ≡ (of period.domain s.looks).first
  pub later : period.later ≡ (of period.domain s.looks).later
  pub passed : Passes period.first period.later

-- the one reference to a life of this processor's is given up
pub record IsOnly (u life home : ℕ) (s : Shared) : Type 0 where
  pub holds : s.lives.holds u ≡ Some (record { maker = home; count = 1 })
  pub now_is : life ≡ s.lives.begun u

-- the object that is to be put into a list or tree, if one is
abbrev pub pushed_by : PastCall → Option ObjId
pushed_by (past.PushFront id) = Some id
pushed_by (past.PushBack id) = Some id
pushed_by (past.Add id key) = Some id
pushed_by (past.PushFrontAlready id owner) = Some id
pushed_by (past.PushBackAlready id owner) = Some id
pushed_by (past.AddAlready id key owner) = Some id
pushed_by _ = None

-- what an act of processor p needs
abbrev pub ActFits : ℕ → Act → Shared → Type 0
ActFits p (act.Enters d w) s = IsNextWord p 1 w (of d s.words)
ActFits p (act.Leaves d w) s = IsNextWord p 0 w (of d s.words)
ActFits p (act.Stamps d x) s = x ≡ next (of d s.numbers).number
ActFits p (act.Reads d x n) s = n ≡ (of d s.numbers).number
ActFits p (act.Begins d n) s = IsBegin n (of d s.numbers)
ActFits p (act.Misses d even n) s = (n ≡ (of d s.numbers).number) × (n ≢ even)
ActFits p (act.Looks d words) s = LooksAt p d words s
ActFits p (act.Finishes period) s = CanEnd p period s
ActFits p (act.Fetches c want us) s = us ≡ fetches c want s.pool
ActFits p (act.Returns us) s = AllOut (reverse (units_of us)) s.pool
ActFits p (act.Sends c to us) s = IsParcel s.processors to (units_of us)
ActFits p (act.Receives c us) s = us ≡ oldest (s.boxes p c)
ActFits p (act.Drains c to us) s = IsParcel s.processors to us
ActFits p (act.Releases c to us stamp seen) s = IsParcel s.processors to us
ActFits p (act.GivesBack us) s = AllOut (reverse us) s.pool
ActFits p (act.Makes u life type values seal) s = IsGiven u life s.lives
ActFits p (act.Acquires u life seen) s = Has u life seen s.lives
ActFits p (act.Finds u life place value) s = IsAlive u life s.lives
ActFits p (act.Exchanges name put was by tag) s = IfAlive put s.lives
ActFits p (act.Calls graph position call tag) s = IfAlive (pushed_by call) s.lives
ActFits p (act.GivesUp u life seen) s = Has u life seen s.lives × (1 < seen)
ActFits p (act.Ends u life home delayed) s = IsOnly u life home s

abbrev pub acts_over : ℕ → List Act → Shared → Shared
acts_over p [] s = s
acts_over p (a ∷ more) s = acts_over p more (act_after p a s)

abbrev pub ActsFit : ℕ → List Act → Shared → Type 0
ActsFit p [] s = Unit {0}
ActsFit p (a ∷ more) s = ActFits p a s × ActsFit p more (act_after p a s)

-- these acts of processor p, in order, lead from one state to another
pub record ActsLead (p : ℕ) (acts : List Act) (before now : Shared) : Type 0 where
  pub fit : ActsFit p acts before
  pub now_is : acts_over p acts before ≡ now
