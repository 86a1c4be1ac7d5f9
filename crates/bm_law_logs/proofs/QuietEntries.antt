-- Entries that neither send a parcel nor take one, and parts of deferred work that have no others.
use Rattle.std.proofs.Common.{◌≡◌, ℕ, List, [], ◌∷◌, ◌++◌, refl, sym, subst, inl, inr}
use Rattle.bm_journal.specs.declared.ids.Domain.{Domain}
use Rattle.bm_journal.specs.declared.entry.Entry.{Entry}
use Rattle.bm_journal.specs.declared.entry.Entry.TheVariants as entry
use Rattle.bm_law.specs.SweepPhrases.{MayBegin, MayFinish, PollPhrase}
use Rattle.bm_law.specs.Inboxes.{Inboxes, inboxes_after}
use Rattle.bm_law_work.specs.Parts.{Part}
use Rattle.bm_law_work.proofs.Each.{AllOf, PartOf, of-append}

abbrev pub IsQuiet : Entry → Type 0
IsQuiet (entry.Send c to us) = ⊥
IsQuiet (entry.Receive c us) = ⊥
IsQuiet (entry.Sweep c us) = ⊥
IsQuiet _ = Unit {0}

abbrev pub AllQuiet : List Entry → Type 0
AllQuiet es = AllOf IsQuiet es

-- a part whose entries of level l are quiet
abbrev pub QuietPart : ℕ → Part → Type 0
QuietPart l P = PartOf IsQuiet l P

-- it leaves the inboxes
pub after-quiet : (p : ℕ) (e : Entry) (boxes : Inboxes) → IsQuiet e → inboxes_after p e boxes ≡ boxes
after-quiet p (entry.Send c to us) boxes h = absurd h
after-quiet p (entry.Receive c us) boxes h = absurd h
after-quiet p (entry.Sweep c us) boxes h = absurd h
after-quiet p _ boxes h = refl

-- polls
may-finish-quiet : (d : Domain) (own : List Entry) → MayFinish d own → AllQuiet own
may-finish-quiet d own (inl h) = subst AllQuiet (sym h) tt
may-finish-quiet d own (inr (e, h, (period, n, f))) = subst AllQuiet (sym h) (subst IsQuiet (sym f) tt, tt)

may-begin-quiet : (d : Domain) (own : List Entry) → MayBegin d own → AllQuiet own
may-begin-quiet d own (inl h) = subst AllQuiet (sym h) tt
may-begin-quiet d own (inr (n, rest, h, f)) = subst AllQuiet (sym h) (tt, may-finish-quiet d rest f)

pub poll-quiet : (c : ℕ) (d : Domain) (own : List Entry) → PollPhrase c d own → AllQuiet own
poll-quiet c d own h = subst AllQuiet (sym h.own_is) (of-append IsQuiet h.ended (h.begun ++ entry.Pass c d h.seen ∷ []) (may-finish-quiet d h.ended h.may_finish) (of-append IsQuiet h.begun (entry.Pass c d h.seen ∷ []) (may-begin-quiet d h.begun h.may_begin) (tt, tt)))
