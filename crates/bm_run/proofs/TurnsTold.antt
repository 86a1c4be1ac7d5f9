-- What a turn leaves that is tied to its processor's log.
use Rattle.std.specs.Prelude.{◌≡◌, ◌≢◌, ◌++◌, ℕ, List, [], ◌∷◌}
use Rattle.std.proofs.Common.{refl, sym, ap, ◌∙◌, subst, append-nil, arith, eq-eqb}
use Rattle.bm_journal.specs.declared.entry.Entry.{Entry}
use Rattle.bm_journal.specs.declared.entry.Entry.TheVariants as entry
use Rattle.bm_law.specs.Lists.{AllName, Leaves, Log, after}
use Rattle.bm_law.specs.State.{State, opening}
use Rattle.bm_law.proofs.Folds.{AllName-back, after-append}
use Rattle.bm_law_order.specs.Act.{Act}
use Rattle.bm_law_order.specs.Acts.{ActsFit, acts_over}
use Rattle.bm_law_order.specs.Chunk.{Chunk}
use Rattle.bm_law_order.specs.Orders.{AllFit, AllShared, Leads, by, part_of, shared_over}
use Rattle.bm_law_order.specs.Shared.{Shared}
use Rattle.bm_law_order.specs.Story.{Steady, deeds, lines, plainly}
use Rattle.bm_law_order.specs.Tie.{Tied}
use Rattle.bm_law_order.proofs.Stories.{story-reads}
use Rattle.bm_law_places.specs.World.{AllFound, SweepsInbox, World, world_after}
use Rattle.bm_law_places.proofs.Apart.{leaves-alone, others-part}
use Rattle.bm_law_places.proofs.Logs.{stretch-found}
use Rattle.bm_law_places.proofs.Standing.{lists-of, shared-of, standing-over}
use Rattle.bm_world.specs.LivingState.{LivingState}
use Rattle.bm_world.specs.Told.{IsSideOf}
use Rattle.bm_world.specs.ToldLiving.{LivingDoes, told_living}
use Rattle.bm_run.specs.LeftAlone.{AllUnswept, IsTold, IsUnswept, KeepsFor, Turned}

own-part : (p : ℕ) (log : Log) → part_of p (by p log) ≡ log
own-part p [] = refl
own-part p (e ∷ log) = rw (eq-eqb p p refl) (ap (λ (x : Log). e ∷ x) (own-part p log))

-- What is told of acts of processor p keeps for another one what it may begin, and what units wait for that they spare.
pub keeps-for : (p q : ℕ) → q ≢ p → (acts : List Act) (a w : LivingState) → IsSideOf p a.side → LivingDoes acts a w → KeepsFor q acts a w
keeps-for p q ne acts a w s d = record {
  begins = λ e. (let same = (d.did p s).others e q ne in omega (arith, same));
  asked = d.asked;
  standings = d.keeps;
}

-- A turn whose log goes on naming what is there, and is tied to the world since its begin, is one.
pub turn-told : (judge : ℕ → Log → Chunk → Type 0) (p : ℕ) (since log : Log) (places : World) (a w : LivingState) (s : State ℕ) (k : Tied judge LivingDoes since a 0 [] [] log w) → IsTold places a → IsSideOf p a.side → Leaves p since (places.lists p) → Leaves p log s → AllFit world_after SweepsInbox (by p (lines k.story)) places → Turned p k.story places s a w
turn-told judge p since log places a w s k is his before now sweeps =
    let added = lines k.story in
    let o = by p added in
    let did = k.done_is.did p his in
    let none : deeds k.story ++ [] ≡ deeds k.story = append-nil (deeds k.story) in
    let fit : ActsFit p (deeds k.story) (told_living a) = subst (λ (acts : List Act). ActsFit p acts (told_living a)) none did.leads.fit in
    let there : acts_over p (deeds k.story) (told_living a) ≡ told_living w = ap (λ (acts : List Act). acts_over p acts (told_living a)) (sym none) ∙ did.leads.now_is in
    let reads = story-reads p k.story (told_living a) fit is.steady in
    let leads : Leads o (plainly (told_living a)) (plainly (told_living w)) = subst (λ (z : Shared). Leads o (plainly (told_living a)) (plainly z)) there reads.leads in
    let log_is : log ≡ since ++ added = k.log_is ∙ ap (λ (z : Log). since ++ z) (append-nil added) in
    let all : AllName (opening p) (since ++ added) = subst (AllName (opening p)) log_is now.named in
    let names : AllName (places.lists p) added = subst (λ (x : State ℕ). AllName x added) before.lists (AllName-back (opening p) since added all) in
    let shared : AllShared o places.shared = subst (λ (x : Shared). AllShared o x) (sym is.told) leads.fit in
    let found : AllFound o places = stretch-found p added places shared names sweeps in
    record {
      turn = record { placed = is.placed; found = found; told = is.told; leads = leads; begins_his = his; ends_his = did.stays };
      told = record {
        placed = standing-over o places is.placed found;
        told = shared-of o places ∙ (ap (shared_over o) is.told ∙ leads.now_is);
        steady = subst Steady there reads.steady;
      };
      own = lists-of p o places
          ∙ (ap (after (places.lists p)) (own-part p added)
          ∙ (ap (λ (x : State ℕ). after x added) (sym before.lists)
          ∙ (sym (after-append (opening p) since added) ∙ (ap (after (opening p)) (sym log_is) ∙ now.lists))));
      others = λ q ne. (leaves-alone q o places (others-part p q added ne) is.placed found).lists;
      keeps = λ q ne. keeps-for p q ne (deeds k.story) a w his (subst (λ (acts : List Act). LivingDoes acts a w) none k.done_is);
    }

-- what doesn't sweep takes nothing out of an inbox by a sweep
no-sweep : (p l : ℕ) (e : Entry) (w : World) → IsUnswept e → SweepsInbox p l e w
no-sweep p l (entry.Sweep c us) w h = absurd h
no-sweep p l _ w h = tt

pub unswept-found : (p : ℕ) (log : Log) (w : World) → AllUnswept log → AllFit world_after SweepsInbox (by p log) w
unswept-found p [] w h = tt
unswept-found p (e ∷ log) w h = (no-sweep p e.0 e.1 w h.0, unswept-found p log (world_after p e.0 e.1 w) h.1)
