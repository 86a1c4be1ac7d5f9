-- Acts of one processor's closing leave the others alone.
use Rattle.std.proofs.Common.{◌≡◌, ◌≢◌, ℕ, if◌then◌else◌, List, [], ◌∷◌, refl, sym, ◌∙◌, ap, ne_eqb}
use Rattle.bm_journal.specs.declared.ids.Domain.{Domain}
use Rattle.bm_journal.specs.declared.ids.Domain.TheVariants.{Plain, Tracing}
use Rattle.bm_law_order.specs.Act.{Act}
use Rattle.bm_law_order.specs.Act as act
use Rattle.bm_law_order.specs.Acts.{ActsLead, act_after, acts_over}
use Rattle.bm_law_order.specs.ByDomain.{of, with_of}
use Rattle.bm_law_order.specs.Lives.{Lives, first_lives}
use Rattle.bm_law_order.specs.Numbers.{Course, Numbers, begun, ended}
use Rattle.bm_law_order.specs.Shared.{Shared}
use Rattle.bm_grace.specs.PlainState.{domain_in, is_processor, side_in}
use Rattle.bm_world.specs.LivingState.{LivingState}
use Rattle.bm_world.specs.SideState.{SideState}
use Rattle.bm_world.specs.Told.{IsSideOf, OthersBegin, SideDoes, told}
use Rattle.bm_world.specs.ToldLiving.{LivingDoes, lives_told}
use Rattle.bm_closing.specs.Closes.{AreClosing, ClosesBy, IsClosing}
use Rattle.bm_closing.specs.Others.{LeavesOther}

-- the number of the period that processor p has in progress, or 0
abbrev own : ℕ → Course → ℕ
own p c = if is_processor p c.driver then c.number else 0

-- ---- numbers

own-begun : (p q : ℕ) (d e : Domain) (x : Numbers) → p ≢ q → own p (of d x) ≡ 0 → own p (of d (with_of e (begun q (of e x)) x)) ≡ 0
own-begun p q Plain Plain x ne h = rw (ne_eqb q p (λ s. ne (sym s))) refl
own-begun p q Plain Tracing x ne h = h
own-begun p q Tracing Plain x ne h = h
own-begun p q Tracing Tracing x ne h = rw (ne_eqb q p (λ s. ne (sym s))) refl

own-ended : (p : ℕ) (d e : Domain) (x : Numbers) → own p (of d x) ≡ 0 → own p (of d (with_of e (ended (of e x)) x)) ≡ 0
own-ended p Plain Plain x h = refl
own-ended p Plain Tracing x h = h
own-ended p Tracing Plain x h = h
own-ended p Tracing Tracing x h = refl

own-act : (p q : ℕ) (d : Domain) (a : Act) (s : Shared) → p ≢ q → IsClosing a → own p (of d s.numbers) ≡ 0 → own p (of d (act_after q a s).numbers) ≡ 0
own-act p q d (act.Begins e n) s ne k h = own-begun p q d e s.numbers ne h
own-act p q d (act.Finishes period) s ne k h = own-ended p d period.domain s.numbers h
own-act p q d _ s ne k h = h

own-acts : (p q : ℕ) (d : Domain) (acts : List Act) (s : Shared) → p ≢ q → AreClosing acts → own p (of d s.numbers) ≡ 0 → own p (of d (acts_over q acts s).numbers) ≡ 0
own-acts p q d [] s ne k h = h
own-acts p q d (a ∷ acts) s ne k h = own-acts p q d acts (act_after q a s) ne k.1 (own-act p q d a s ne k.0 h)

-- ---- inboxes

box-act : (p q c : ℕ) (a : Act) (s : Shared) → p ≢ q → IsClosing a → (act_after q a s).boxes p c ≡ s.boxes p c
box-act p q c (act.Receives i us) s ne k = rw (ne_eqb p q ne) refl
box-act p q c (act.Sends i to us) s ne k = absurd k
box-act p q c (act.Drains i to us) s ne k = absurd k
box-act p q c (act.Releases i to us stamp seen) s ne k = absurd k
box-act p q c _ s ne k = refl

box-acts : (p q c : ℕ) (acts : List Act) (s : Shared) → p ≢ q → AreClosing acts → (acts_over q acts s).boxes p c ≡ s.boxes p c
box-acts p q c [] s ne k = refl
box-acts p q c (a ∷ acts) s ne k = box-acts p q c acts (act_after q a s) ne k.1 ∙ box-act p q c a s ne k.0

-- ---- the world on one thread

none-over : (p q : ℕ) (d : Domain) (acts : List Act) (x y : Lives) (before now : SideState) → p ≢ q → AreClosing acts → ActsLead q acts (told x before) (told y now) → own p (of d (told x before).numbers) ≡ 0 → own p (of d (told y now).numbers) ≡ 0
none-over p q d acts x y before now ne k l h = ap (λ (s : Shared). own p (of d s.numbers)) (sym l.now_is) ∙ own-acts p q d acts (told x before) ne k h

leads-leave : (p q : ℕ) (acts : List Act) (x y : Lives) (before now : SideState) → p ≢ q → AreClosing acts → ActsLead q acts (told x before) (told y now) → OthersBegin q before now → LeavesOther p before now
leads-leave p q acts x y before now ne k l o = record {
  none = none;
  begins = λ d. o d p ne;
  parcels = λ c. ap (λ (s : Shared). s.boxes p c) (sym l.now_is) ∙ box-acts p q c acts (told x before) ne k;
}
  where
    none : (d : Domain) → (side_in p (domain_in d before.grace)).number ≡ 0 → (side_in p (domain_in d now.grace)).number ≡ 0
    none Plain h = none-over p q Plain acts x y before now ne k l h
    none Tracing h = none-over p q Tracing acts x y before now ne k l h

-- the closing of processor q leaves another processor alone
pub side-leaves : (p q : ℕ) (before now : SideState) → p ≢ q → IsSideOf q before → ClosesBy SideDoes before now → LeavesOther p before now
side-leaves p q before now ne is c = let did = c.2.did q is in leads-leave p q c.0 first_lives first_lives before now ne c.1 (did.leads first_lives) did.others

pub living-leaves : (p q : ℕ) (before now : LivingState) → p ≢ q → IsSideOf q before.side → ClosesBy LivingDoes before now → LeavesOther p before.side now.side
living-leaves p q before now ne is c = let did = c.2.did q is in leads-leave p q c.0 (lives_told before) (lives_told now) before.side now.side ne c.1 did.leads did.others
