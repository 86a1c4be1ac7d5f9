-- The lives of units and the references to them, as entries name them. (In the kernel an object is given by bpf_obj_new_impl and
-- given up by bpf_obj_drop_impl of kernel/bpf/helpers.c, and counted by bpf_refcount_acquire_impl. Lives are this project's own.)
use Rattle.std.specs.Prelude.{◌≡◌, ◌<◌, ℕ, ◌+◌, ◌-◌, ◌&&◌, eqb, if◌then◌else◌, Option, Some, None}
use Rattle.bm_journal.specs.declared.ids.ObjId.{ObjId}
use Rattle.bm_journal.specs.declared.entry.Entry.{Entry}
use Rattle.bm_journal.specs.declared.entry.Entry.TheVariants as entry

-- The life that a unit has: the processor that made it, and how many references there are to it.
pub record Life : Type 0 where
  pub maker : ℕ
  pub count : ℕ

-- A drop that a level of a processor has begun: of which life of which unit, and, once it was answered by `last`, who made the life
-- that it ended.
pub record Dropping : Type 0 where
  pub unit : ℕ
  pub life : ℕ
  pub ended : Option ℕ

-- By unit how many lives it has begun, and the one that it has, if it has one; and by processor and level the drop that is
-- under way.
pub record Lives : Type 0 where
  pub begun : ℕ → ℕ
  pub holds : ℕ → Option Life
  pub dropping : ℕ → ℕ → Option Dropping

abbrev pub first_lives : Lives
first_lives = record { begun = λ u. 0; holds = λ u. None; dropping = λ p l. None }

-- unit u begins a life, made by processor p
abbrev pub given_life : (p u : ℕ) → Lives → Lives
given_life p u lives = record lives {
  begun = λ v. if eqb v u then lives.begun v + 1 else lives.begun v;
  holds = λ v. if eqb v u then Some (record { maker = p; count = 1 }) else lives.holds v;
}

-- unit u has this life now, or none
abbrev pub with_life : (u : ℕ) → Option Life → Lives → Lives
with_life u life lives = record lives { holds = λ v. if eqb v u then life else lives.holds v }

-- this drop is under way at level l of processor p, or none
abbrev pub with_drop : (p l : ℕ) → Option Dropping → Lives → Lives
with_drop p l drop lives =
    record lives { dropping = λ q k. if eqb q p && eqb k l then drop else lives.dropping q k }

-- another number of references
abbrev pub counted : (ℕ → ℕ) → Option Life → Option Life
counted f None = None
counted f (Some life) = Some (record life { count = f life.count })

abbrev pub maker_of : Option Life → Option ℕ
maker_of None = None
maker_of (Some life) = Some life.maker

-- what a reply makes of the drop that is under way
abbrev pub answered_still : (p l : ℕ) → Option Dropping → Lives → Lives
answered_still p l None lives = lives
answered_still p l (Some d) lives =
    with_drop p l None (with_life d.unit (counted (λ k. k - 1) (lives.holds d.unit)) lives)

abbrev pub answered_last : (p l : ℕ) → Option Dropping → Lives → Lives
answered_last p l None lives = lives
answered_last p l (Some d) lives =
    with_drop p l (Some (record d { ended = maker_of (lives.holds d.unit) }))
    (with_life d.unit None lives)

-- what an entry of level l of processor p makes of them
abbrev pub lives_after : (p l : ℕ) → Entry → Lives → Lives
lives_after p l (entry.Given u life) lives = given_life p u lives
lives_after p l (entry.GivenAfter u life stamp seen) lives = given_life p u lives
lives_after p l (entry.Acquire u life k) lives =
    with_life u (counted (λ n. n + 1) (lives.holds u)) lives
lives_after p l (entry.Drop u life) lives =
    with_drop p l (Some (record { unit = u; life = life; ended = None })) lives
lives_after p l (entry.Still k) lives = answered_still p l (lives.dropping p l) lives
lives_after p l entry.Last lives = answered_last p l (lives.dropping p l) lives
lives_after p l (entry.Free u home) lives = with_drop p l None lives
lives_after p l (entry.Delay u home) lives = with_drop p l None lives
lives_after p l _ lives = lives

-- the unit has no life, and begins the next one
pub record IsGiven (u life : ℕ) (lives : Lives) : Type 0 where
  pub none : lives.holds u ≡ None
  pub next_is : life ≡ lives.begun u + 1

-- the unit has this life, to which there are so many references
pub record Has (u life k : ℕ) (lives : Lives) : Type 0 where
  pub held : Life
  pub holds : lives.holds u ≡ Some held
  pub count : held.count ≡ k
  pub now_is : life ≡ lives.begun u

-- the unit has this life now
pub record IsAlive (u life : ℕ) (lives : Lives) : Type 0 where
  pub held : Life
  pub holds : lives.holds u ≡ Some held
  pub now_is : life ≡ lives.begun u

-- .. if there is one
abbrev pub IfAlive : Option ObjId → Lives → Type 0
IfAlive None lives = Unit {0}
IfAlive (Some x) lives = IsAlive x.unit x.life lives

-- a life that the unit has is given up, and nothing else is being given up here
pub record IsDrop (p l u life : ℕ) (lives : Lives) : Type 0 where
  pub references : ℕ
  pub has : Has u life references lives
  pub none : lives.dropping p l ≡ None

-- a drop is under way here, of the life that its unit has, to which there are so many references
pub record IsReply (p l k : ℕ) (lives : Lives) : Type 0 where
  pub unit : ℕ
  pub life : ℕ
  pub under : lives.dropping p l ≡ Some (record { unit = unit; life = life; ended = None })
  pub has : Has unit life k lives

-- the drop under way here has ended a life of this unit, which this processor made
pub record IsEnding (p l u home : ℕ) (lives : Lives) : Type 0 where
  pub life : ℕ
  pub under : lives.dropping p l ≡ Some (record { unit = u; life = life; ended = Some home })

-- what such an entry needs of them
abbrev pub LivesFit : (p l : ℕ) → Entry → Lives → Type 0
LivesFit p l (entry.Given u life) lives = IsGiven u life lives
LivesFit p l (entry.GivenAfter u life stamp seen) lives = IsGiven u life lives
LivesFit p l (entry.Acquire u life k) lives = Has u life k lives
LivesFit p l (entry.Drop u life) lives = IsDrop p l u life lives
LivesFit p l (entry.Still k) lives = IsReply p l k lives × (1 < k)
LivesFit p l entry.Last lives = IsReply p l 1 lives
LivesFit p l (entry.Free u home) lives = IsEnding p l u home lives
LivesFit p l (entry.Delay u home) lives = IsEnding p l u home lives
LivesFit p l _ lives = Unit {0}
