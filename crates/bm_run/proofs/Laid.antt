-- The log of a run is laid, and no period is in progress after it.
use Rattle.std.specs.Prelude.{◌≢◌, ◌⊎◌, None}
use Rattle.std.proofs.Common.{◌≡◌, arith, inl, ◌++◌, ◌∷◌, [], ℕ, zero, suc, Bool, true, false, List, refl, sym, ◌∙◌, ap, append-nil}
use Rattle.std.proofs.lemmas.List.{append_cancel_left}
use Rattle.bm_journal.specs.declared.ids.Domain.{Domain}
use Rattle.bm_journal.specs.declared.ids.Domain.TheVariants.{Plain, Tracing}
use Rattle.bm_law.specs.Lists.{Log}
use Rattle.bm_law_order.specs.Acts.{ActsLead}
use Rattle.bm_law_order.specs.ByDomain.{of}
use Rattle.bm_law_order.specs.Orders.{Leads}
use Rattle.bm_law_order.specs.Shared.{fresh}
use Rattle.bm_law_order.specs.Story.{Steady, lines, plainly}
use Rattle.bm_law_order.specs.Chunk.{Chunk}
use Rattle.bm_law_order.specs.Tie.{HasLed, Tied}
use Rattle.bm_law_order.specs.Whole.{cut_behind, in_turns, joined, with_front}
use Rattle.bm_law_order.proofs.TiesLead.{tied-leads}
use Rattle.bm_world.specs.LivingState.{LivingState}
use Rattle.bm_world.specs.Told.{IsSideOf}
use Rattle.bm_world.specs.ToldLiving.{LivingDoes, told_living}

pub fresh-steady : (n pages : ℕ) → Steady (fresh n pages)
fresh-steady n pages = record { looked = looked; undropped = λ p l. refl; full = λ p c i u lt. absurd (omega (arith, lt)) }
  where
    looked : (d : Domain) → ((of d (fresh n pages).numbers).driver ≡ None) ⊎ ((of d (fresh n pages).looks).first ≢ [])
    looked Plain = inl refl
    looked Tracing = inl refl

-- what a log that is tied since a time has added
pub added-lines : (judge : ℕ → Log → Chunk → Type 0) (since added log : Log) (start now : LivingState) → log ≡ since ++ added → (t : Tied judge LivingDoes since start 0 [] [] log now) → added ≡ lines t.story
added-lines judge since added log start now log_is t =
    append_cancel_left since added (lines t.story) (sym log_is ∙ (t.log_is ∙ ap (λ (z : Log). since ++ z) (append-nil (lines t.story))))

-- The log of a processor that is tied since a time, however its chunks are judged, has led from what the world told then, which was
-- steady, to what it tells now.
pub tied-led-since : (judge : ℕ → Log → Chunk → Type 0) (p l : ℕ) (since log : Log) (start now : LivingState) → IsSideOf p start.side → Steady (told_living start) → Tied judge LivingDoes since start l [] [] log now →
    HasLed p since (told_living start) log (told_living now)
tied-led-since judge p l since log start now side steady t =
    let did = (t.done_is.did p side).leads in
    let told : Tied judge (ActsLead p) since (told_living start) l [] [] log (told_living now) = record { story = t.story; judged = t.judged; log_is = t.log_is; done_is = did } in
    tied-leads judge p l since log (told_living start) (told_living now) told steady

-- no entries lead from the outset to a world that tells it
pub fresh-leads : (n pages : ℕ) (world : LivingState) → told_living world ≡ fresh n pages → Leads [] (fresh n pages) (plainly (told_living world))
fresh-leads n pages world e = record { fit = tt; now_is = ap plainly (sym e) }

-- ---- the whole order of one log

joined-front : {A : Type 0} (x : A) (pieces : List (List A)) → joined (with_front x pieces) ≡ x ∷ joined pieces
joined-front x [] = refl
joined-front x (piece ∷ pieces) = refl

joined-cut : {A : Type 0} (test : A → Bool) (xs : List A) → joined (cut_behind test xs) ≡ xs
joined-cut test [] = refl
joined-cut test (x ∷ xs) = cut (joined-cut test xs) (test x) refl
  where
    cut : joined (cut_behind test xs) ≡ xs → (b : Bool) → test x ≡ b → joined (cut_behind test (x ∷ xs)) ≡ x ∷ xs
    cut rest true e = rw e (ap (λ ys. x ∷ ys) rest)
    cut rest false e = rw e (joined-front x (cut_behind test xs) ∙ ap (λ ys. x ∷ ys) rest)

no-turn : (n : ℕ) (pieces : List Log) (turns : List ℕ) → in_turns (suc n ∷ turns) (pieces ∷ []) ≡ in_turns turns (pieces ∷ [])
no-turn zero pieces turns = refl
no-turn (suc n) pieces turns = refl
