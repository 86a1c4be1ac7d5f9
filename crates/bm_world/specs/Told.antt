-- What the world on one thread tells of what processors share, and what its side did.
use Rattle.std.specs.Prelude.{◌≡◌, ◌≢◌, slice_index, ℕ, ◌<◌, ◌≤◌, ◌&&◌, nat_lt, if◌then◌else◌, List, [], ◌++◌, length, map}
use Rattle.bm_law_order.specs.Act.{Act}
use Rattle.std.proofs.Common.{refl, ◌∙◌}
use Rattle.bm_journal.specs.declared.ids.Domain.{Domain}
use Rattle.bm_grace.specs.PlainState.{DomainState, domain_in}
use Rattle.bm_post.specs.PostState.{PostState, inbox}
use Rattle.bm_post.specs.Rights.{numbers}
use Rattle.bm_law_order.specs.Lives.{Lives}
use Rattle.bm_law_order.specs.Looks.{Looked}
use Rattle.bm_law_order.specs.Numbers.{Course}
use Rattle.bm_law_order.specs.Shared.{Shared}
use Rattle.bm_law_order.specs.Bare.{bare_pool}
use Rattle.bm_law_order.specs.Acts.{ActsLead}
use Rattle.bm_law_order.proofs.ActsJoin.{acts-join, acts-same}
use Rattle.bm_world.specs.SideState.{SideState}

abbrev pub told_course : DomainState → Course
told_course d = record { number = d.number; driver = d.driver }

abbrev pub told_looked : DomainState → Looked
told_looked d = record { first = d.first; later = d.later }

-- the parcels of the eight processors, of eleven classes each
abbrev pub told_boxes : PostState → ℕ → ℕ → List (List ℕ)
told_boxes post p c = if nat_lt p 8 && nat_lt c 11 then map numbers (inbox p c post) else []

-- All that is shared; the lives of units are not the side's own.
abbrev pub told : Lives → SideState → Shared
told lives world = record {
  processors = world.grace.processors;
  words = record { plain = world.grace.plain.words; tracing = world.grace.tracing.words };
  numbers =
      record { plain = told_course world.grace.plain; tracing = told_course world.grace.tracing };
  looks =
      record { plain = told_looked world.grace.plain; tracing = told_looked world.grace.tracing };
  lives = lives;
  pool = bare_pool world.post.pool;
  boxes = told_boxes world.post;
}

-- it is processor p's side, of so many, and its lists have their lengths
pub record IsSideOf (p : ℕ) (world : SideState) : Type 0 where
  pub post_is : world.post.processor ≡ p
  pub grace_is : world.grace.processor ≡ p
  pub agree : world.post.processors ≡ world.grace.processors
  pub turn : p < world.grace.processors
  pub most : world.grace.processors ≤ 8
  pub boxes : length world.post.inboxes ≡ 88
  pub plain_words : length world.grace.plain.words ≡ 8
  pub tracing_words : length world.grace.tracing.words ≡ 8

-- of other processors than p, each may begin as many periods as before
abbrev pub OthersBegin : ℕ → SideState → SideState → Type 0
OthersBegin p before now =
    (d : Domain) (q : ℕ) → q ≢ p
    → slice_index (domain_in d now.grace).begins q ≡ slice_index (domain_in d before.grace).begins q

-- what is told goes from one to the other by these acts, and it stays the side of the same processor
pub record SideDid (p : ℕ) (acts : List Act) (before now : SideState) : Type 0 where
  pub leads : (lives : Lives) → ActsLead p acts (told lives before) (told lives now)
  pub stays : IsSideOf p now
  pub others : OthersBegin p before now

pub record SideDoes (acts : List Act) (before now : SideState) : Type 0 where
  pub did : (p : ℕ) → IsSideOf p before → SideDid p acts before now

pub does-same : (a : SideState) → SideDoes [] a a
does-same a =
    record {
      did =
          λ p s. record {
            leads = λ lives. acts-same p (told lives a);
            stays = s;
            others = λ d q ne. refl;
          };
    }

pub does-join :
    (es fs : List Act) (a b c : SideState) → SideDoes es a b → SideDoes fs b c
    → SideDoes (es ++ fs) a c
does-join es fs a b c x y = record {
  did = λ p s.
      let u = x.did p s in
      let v = y.did p u.stays in
      record {
        leads =
            λ lives. acts-join p es fs (told lives a) (told lives b) (told lives c)
            (u.leads lives) (v.leads lives);
        stays = v.stays;
        others = λ d q ne. v.others d q ne ∙ u.others d q ne;
      };
}
