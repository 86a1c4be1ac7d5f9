-- A log is cut back in the parts that it was made of.
use Rattle.std.specs.Prelude.{get_or, not, replicate, set}
use Rattle.std.proofs.Common.{◌≡◌, ◌<◌, ℕ, Bool, true, false, List, [], ◌∷◌, ◌++◌, arith, length, refl, sym, ◌∙◌, ap, subst, inl, inr, append-nil, append_assoc}
use Rattle.std.proofs.lemmas.Bool.Decides.{eqb_tells}
use Rattle.std.proofs.lemmas.List.{get_or-set_other, get_or-set_same}
use Rattle.std.proofs.Math.ListN.{get_or-replicate}
use Rattle.bm_journal.specs.declared.entry.Entry.{Entry}
use Rattle.bm_journal.specs.declared.entry.Entry.TheVariants as entry
use Rattle.bm_law.specs.Lists.{Log}
use Rattle.bm_law_order.specs.Whole.{before_first, behind_first, closing_of, cut_behind, from_first, given_up, is_ended, is_fill, is_finish_or_sweep, is_sweep, is_yield, joined, opening_of, periods_ended, run_of, scripts_of, swept, through_first, turns_of, with_front}
use Rattle.bm_run.specs.InTurns.{AreParts, ArePieces, AreTaken, BeginsWith, IsPiece, LogParts, NonePass, last, log_from, more, none}

-- ---- a log cut in two

before-over : {A : Type 0} (test : A → Bool) (a b : List A) → NonePass test a → before_first test (a ++ b) ≡ a ++ before_first test b
before-over test [] b h = refl
before-over test (x ∷ a) b h = rw h.0 (ap (λ z. x ∷ z) (before-over test a b h.1))

from-over : {A : Type 0} (test : A → Bool) (a b : List A) → NonePass test a → from_first test (a ++ b) ≡ from_first test b
from-over test [] b h = refl
from-over test (x ∷ a) b h = rw h.0 (from-over test a b h.1)

before-begun : {A : Type 0} (test : A → Bool) (b : List A) → BeginsWith test b → before_first test b ≡ []
before-begun test [] h = refl
before-begun test (x ∷ b) h = rw h refl

from-begun : {A : Type 0} (test : A → Bool) (b : List A) → BeginsWith test b → from_first test b ≡ b
from-begun test [] h = refl
from-begun test (x ∷ b) h = rw h refl

before-apart : {A : Type 0} (test : A → Bool) (a b : List A) → NonePass test a → BeginsWith test b → before_first test (a ++ b) ≡ a
before-apart test a b h k = before-over test a b h ∙ (ap (λ z. a ++ z) (before-begun test b k) ∙ append-nil a)

from-apart : {A : Type 0} (test : A → Bool) (a b : List A) → NonePass test a → BeginsWith test b → from_first test (a ++ b) ≡ b
from-apart test a b h k = from-over test a b h ∙ from-begun test b k

through-apart : {A : Type 0} (test : A → Bool) (a : List A) (x : A) (b : List A) → NonePass test a → test x ≡ true → through_first test (a ++ x ∷ b) ≡ a ++ x ∷ []
through-apart test [] x b h e = rw e refl
through-apart test (y ∷ a) x b h e = rw h.0 (ap (λ z. y ∷ z) (through-apart test a x b h.1 e))

behind-apart : {A : Type 0} (test : A → Bool) (a : List A) (x : A) (b : List A) → NonePass test a → test x ≡ true → behind_first test (a ++ x ∷ b) ≡ b
behind-apart test [] x b h e = rw e refl
behind-apart test (y ∷ a) x b h e = rw h.0 (behind-apart test a x b h.1 e)

pub begins-append : {A : Type 0} (test : A → Bool) (a b : List A) → BeginsWith test a → BeginsWith test b → BeginsWith test (a ++ b)
begins-append test [] b h k = k
begins-append test (x ∷ a) b h k = h

-- ---- pieces

-- a stretch up to and with the first that passes the test is a piece
cut-piece : {A : Type 0} (test : A → Bool) (a : List A) (x : A) (b : List A) → NonePass test a → test x ≡ true → cut_behind test ((a ++ x ∷ []) ++ b) ≡ (a ++ x ∷ []) ∷ cut_behind test b
cut-piece test [] x b h e = rw e refl
cut-piece test (y ∷ a) x b h e = rw h.0 (ap (with_front y) (cut-piece test a x b h.1 e))

-- .. and so is one without any, at the end
cut-last : {A : Type 0} (test : A → Bool) (a : List A) (x : A) → NonePass test a → test x ≡ false → cut_behind test (a ++ x ∷ []) ≡ (a ++ x ∷ []) ∷ []
cut-last test [] x h e = rw e refl
cut-last test (y ∷ a) x h e = rw h.0 (ap (with_front y) (cut-last test a x h.1 e))

-- the pieces of turns are cut behind the yields
pub cut-pieces : (ended : Bool) (pieces : List Log) → ArePieces ended pieces → cut_behind is_yield (joined pieces) ≡ pieces
cut-pieces _ _ none = refl
cut-pieces _ _ (last {piece = piece} p) =
    ap (cut_behind is_yield) (append-nil piece ∙ p.piece_is) ∙ (cut-last is_yield p.front (0, entry.Ended) p.unyielding refl ∙ ap (λ z. z ∷ []) (sym p.piece_is))
cut-pieces _ _ (more {ended = ended} {piece = piece} {pieces = pieces} p h) =
    ap (λ z. cut_behind is_yield (z ++ joined pieces)) p.piece_is
    ∙ (cut-piece is_yield p.front (0, entry.Yield) (joined pieces) p.unyielding refl
    ∙ (ap (λ z. z ∷ cut_behind is_yield (joined pieces)) (sym p.piece_is) ∙ ap (λ z. piece ∷ z) (cut-pieces ended pieces h)))

-- those of a processor go on by one more
pub more-pieces : (ends : Bool) (pieces : List Log) (piece : Log) → ArePieces false pieces → IsPiece ends piece → ArePieces ends (pieces ++ piece ∷ [])
more-pieces true [] piece h p = last p
more-pieces false [] piece h p = more p none
more-pieces ends (first ∷ pieces) piece (more q h) p = more q (more-pieces ends pieces piece h p)

pub joined-more : (pieces : List Log) (piece : Log) → joined (pieces ++ piece ∷ []) ≡ joined pieces ++ piece
joined-more [] piece = append-nil piece
joined-more (first ∷ pieces) piece = ap (λ z. first ++ z) (joined-more pieces piece) ∙ sym (append_assoc first (joined pieces) piece)

-- before the first turn no processor has taken one
pub taken-begin : (n : ℕ) → AreTaken n (replicate n []) (replicate n false)
taken-begin n p lt = subst (λ b. ArePieces b (get_or (replicate n []) p [])) (sym (get_or-replicate n p false true lt)) (subst (ArePieces false) (sym (get_or-replicate n p [] [] lt)) none)

-- with a turn of a processor that hadn't ended they are the pieces of all turns again
pub taken-more : (n p : ℕ) (taken : List (List Log)) (ended : List Bool) (ends : Bool) (piece : Log) → length taken ≡ n → length ended ≡ n → p < n → get_or ended p true ≡ false → IsPiece ends piece → AreTaken n taken ended →
    AreTaken n (set taken p (get_or taken p [] ++ piece ∷ [])) (set ended p ends)
taken-more n p taken ended ends piece e f lt going is h q there =
    let pieces : List Log = get_or taken p [] ++ piece ∷ [] in
    let own : ArePieces ends pieces = more-pieces ends (get_or taken p []) piece (subst (λ b. ArePieces b (get_or taken p [])) going (h p lt)) is in
    elim (eqb_tells q p) [
      | inl y ↦ subst (λ k. ArePieces (get_or (set ended p ends) k true) (get_or (set taken p pieces) k [])) (sym y.1)
          (subst (λ b. ArePieces b (get_or (set taken p pieces) p [])) (sym (get_or-set_same ended p ends true (omega arith)))
          (subst (ArePieces ends) (sym (get_or-set_same taken p pieces [] (omega arith))) own))
      | inr y ↦ subst (λ b. ArePieces b (get_or (set taken p pieces) q [])) (sym (get_or-set_other ended p q ends true y.1))
          (subst (ArePieces (get_or ended q true)) (sym (get_or-set_other taken p q pieces [] y.1)) (h q there))
    ]

-- ---- the parts of a log

module _ (x : LogParts) (h : AreParts x) where
  abbrev closing : Log
  closing = x.given ++ (x.finishes ++ x.sweeps)

  run-begins : BeginsWith (λ e. not (is_fill e)) (joined x.pieces ++ closing)
  run-begins = rw h.scripts_are (begins-more h.scripts (subst (BeginsWith (λ e. not (is_fill e))) h.scripts_are h.begins))
    where
      begins-more : (front : Log) → BeginsWith (λ e. not (is_fill e)) (front ++ (0, entry.Ended) ∷ []) → BeginsWith (λ e. not (is_fill e)) ((front ++ (0, entry.Ended) ∷ []) ++ closing)
      begins-more [] k = k
      begins-more (e ∷ front) k = k

  pub opening-part : opening_of (log_from x) ≡ x.fills
  opening-part = before-apart (λ e. not (is_fill e)) x.fills (joined x.pieces ++ closing) h.fills run-begins

  run-part : run_of (log_from x) ≡ joined x.pieces ++ closing
  run-part = from-apart (λ e. not (is_fill e)) x.fills (joined x.pieces ++ closing) h.fills run-begins

  run-apart : run_of (log_from x) ≡ h.scripts ++ (0, entry.Ended) ∷ closing
  run-apart = run-part ∙ (ap (λ z. z ++ closing) h.scripts_are ∙ append_assoc h.scripts ((0, entry.Ended) ∷ []) closing)

  scripts-part : scripts_of (log_from x) ≡ joined x.pieces
  scripts-part = ap (through_first is_ended) run-apart ∙ (through-apart is_ended h.scripts (0, entry.Ended) closing h.unended refl ∙ sym h.scripts_are)

  closing-part : closing_of (log_from x) ≡ closing
  closing-part = ap (behind_first is_ended) run-apart ∙ behind-apart is_ended h.scripts (0, entry.Ended) closing h.unended refl

  pub turns-part : turns_of (log_from x) ≡ x.pieces
  turns-part = ap (cut_behind is_yield) scripts-part ∙ cut-pieces true x.pieces h.turns

  -- a sweep ends what is given up as the end of a period does
  late-begins : BeginsWith is_finish_or_sweep (x.finishes ++ x.sweeps)
  late-begins = begins-append is_finish_or_sweep x.finishes x.sweeps h.finishes_begin (sweeps x.sweeps h.sweeps_begin)
    where
      is-late : (l : ℕ) (e : Entry) → is_sweep (l, e) ≡ true → is_finish_or_sweep (l, e) ≡ true
      is-late l (entry.Sweep c us) k = refl
      is-late l _ k = absurd (cc)

      sweeps : (log : Log) → BeginsWith is_sweep log → BeginsWith is_finish_or_sweep log
      sweeps [] k = tt
      sweeps (e ∷ log) k = is-late e.0 e.1 k

  pub given-part : given_up (log_from x) ≡ x.given
  given-part = ap (before_first is_finish_or_sweep) closing-part ∙ before-apart is_finish_or_sweep x.given (x.finishes ++ x.sweeps) h.given late-begins

  late-part : from_first is_finish_or_sweep (closing_of (log_from x)) ≡ x.finishes ++ x.sweeps
  late-part = ap (from_first is_finish_or_sweep) closing-part ∙ from-apart is_finish_or_sweep x.given (x.finishes ++ x.sweeps) h.given late-begins

  pub periods-part : periods_ended (log_from x) ≡ x.finishes
  periods-part = ap (before_first is_sweep) late-part ∙ before-apart is_sweep x.finishes x.sweeps h.finishes h.sweeps_begin

  pub swept-part : swept (log_from x) ≡ x.sweeps
  swept-part = ap (from_first is_sweep) late-part ∙ from-apart is_sweep x.finishes x.sweeps h.finishes h.sweeps_begin
