-- How the lines of a drop stand in a log, and where a unit goes that is freed with delay. (bpf_obj_drop_impl of kernel/bpf/helpers.c;
-- unit_free_rcu of kernel/bpf/memalloc.c puts the unit on free_by_rcu, or, where the cache is in use, on free_llist_extra_rcu.)
use Rattle.std.specs.Prelude.{◌≡◌, ℕ, List, [], ◌∷◌}
use Rattle.bm_journal.specs.declared.entry.Entry.{Entry}
use Rattle.bm_journal.specs.declared.entry.Entry.TheVariants as entry
use Rattle.bm_law.specs.Lists.{Log}

abbrev pub IsReply : Entry → Type 0
IsReply (entry.Still k) = Unit {0}
IsReply entry.Last = Unit {0}
IsReply _ = ⊥

abbrev pub IsFree : Entry → Type 0
IsFree (entry.Free u home) = Unit {0}
IsFree (entry.Delay u home) = Unit {0}
IsFree _ = ⊥

-- the log is at its end, or goes on with an entry of this level that is so
abbrev pub GoesOn : ℕ → (Entry → Type 0) → Log → Type 0
GoesOn l P [] = Unit {0}
GoesOn l P (e ∷ es) = (e.0 ≡ l) × P e.1

-- Directly after a drop stands its reply, and directly after the reply `last` the unit's free.
abbrev pub IsAnswered : ℕ → Entry → Log → Type 0
IsAnswered l (entry.Drop u life) es = GoesOn l IsReply es
IsAnswered l entry.Last es = GoesOn l IsFree es
IsAnswered l _ es = Unit {0}

abbrev pub AreAnswered : Log → Type 0
AreAnswered [] = Unit {0}
AreAnswered (e ∷ es) = IsAnswered e.0 e.1 es × AreAnswered es

-- In the entries of its level a delayed free goes on over the cache's active number, and over looks that may be overtaken, until it has
-- put the unit on Delayed or ExtraDelayed.
abbrev pub PutsDelayed : ℕ → List Entry → Type 0
PutsDelayed u [] = Unit {0}
PutsDelayed u (entry.Enter c a ∷ own) = PutsDelayed u own
PutsDelayed u (entry.LookDelayed c k ∷ own) = PutsDelayed u own
PutsDelayed u (entry.LostDelayed c ∷ own) = PutsDelayed u own
PutsDelayed u (entry.Delayed c v ∷ own) = v ≡ u
PutsDelayed u (entry.PutDelayed c v ∷ own) = v ≡ u
PutsDelayed u (_ ∷ own) = ⊥

abbrev pub IsPut : Entry → List Entry → Type 0
IsPut (entry.Delay u home) own = PutsDelayed u own
IsPut _ own = Unit {0}

-- so does each delayed free among entries of one level
abbrev pub ArePut : List Entry → Type 0
ArePut [] = Unit {0}
ArePut (e ∷ own) = IsPut e own × ArePut own
