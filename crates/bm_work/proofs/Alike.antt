-- What calls of a side leave of what it knows.
use Rattle.std.proofs.Common.{◌≡◌, ℕ, Bool, List, Option, refl, sym, subst}
use Rattle.std.specs.Prelude.{option_map}
use Rattle.bm_journal.specs.declared.ids.Domain.{Domain}
use Rattle.bm_journal.specs.declared.ids.Domain.TheVariants.{Plain, Tracing}
use Rattle.bm_grace.specs.declared.step.TableStep.{TableStep}
use Rattle.bm_grace.specs.declared.answer.Began.{Began}
use Rattle.bm_grace.specs.declared.answer.Began.TheVariants.{Won, Moved}
use Rattle.bm_grace.specs.Known.{Known, Side, side}
use Rattle.bm_grace.specs.Calls.{changed, looked, read, began, finished, told}
use Rattle.bm_post.specs.Calls.{Mails, Posts}
use Rattle.bm_law.specs.Inboxes.{Inboxes}
use Rattle.bm_work.specs.Goes.{Alike}

-- a side of one domain with the same word
pub alike-changed : (t : Bool) (d : Domain) (s : Side) (steps : List TableStep) (k : Known) → s.word ≡ (side d k).word → Alike k (changed t d s steps k)
alike-changed t Plain s steps k e = record { processors = refl; processor = refl; words = w; objects = refl }
  where
    w : (d : Domain) → (side d (changed t Plain s steps k)).word ≡ (side d k).word
    w Plain = e
    w Tracing = refl
alike-changed t Tracing s steps k e = record { processors = refl; processor = refl; words = w; objects = refl }
  where
    w : (d : Domain) → (side d (changed t Tracing s steps k)).word ≡ (side d k).word
    w Plain = refl
    w Tracing = e

pub alike-looked : (t : Bool) (d : Domain) (words : List ℕ) (k : Known) → Alike k (looked t d words k)
alike-looked t d words k = alike-changed t d _ _ k refl

pub alike-read : (t : Bool) (d : Domain) (n : ℕ) (k : Known) → Alike k (read t d n k)
alike-read t d n k = alike-changed t d _ _ k refl

pub alike-began : (t : Bool) (d : Domain) (a : Began) (even : ℕ) (k : Known) → Alike k (began t d a even k)
alike-began t d Won even k = alike-changed t d _ _ k refl
alike-began t d (Moved n) even k = alike-changed t d _ _ k refl

pub alike-finished : (t : Bool) (d : Domain) (k : Known) → Alike k (finished t d k)
alike-finished t d k = alike-changed t d _ _ k refl

-- a post's call may add steps, and change the parcels
alike-but : (k : Known) (steps : List TableStep) (parcels : Option Inboxes) → Alike k (record k { steps = steps; parcels = parcels })
alike-but k steps parcels = record { processors = refl; processor = refl; words = w; objects = refl }
  where
    w : (d : Domain) → (side d (record k { steps = steps; parcels = parcels })).word ≡ (side d k).word
    w Plain = refl
    w Tracing = refl

pub alike-mails : (t : Bool) (f : Inboxes → Inboxes) (a b : Known) → Mails t f a b → Alike a b
alike-mails t f a b h = subst (λ k. Alike a k) (sym h.known) (alike-but a (told t a.steps h.steps) (option_map f a.parcels))

-- or steps alone
alike-more : (k : Known) (steps : List TableStep) → Alike k (record k { steps = steps })
alike-more k steps = record { processors = refl; processor = refl; words = w; objects = refl }
  where
    w : (d : Domain) → (side d (record k { steps = steps })).word ≡ (side d k).word
    w Plain = refl
    w Tracing = refl

pub alike-posts : (t : Bool) (a b : Known) → Posts t a b → Alike a b
alike-posts t a b h = subst (λ k. Alike a k) (sym h.known) (alike-more a (told t a.steps h.steps))
