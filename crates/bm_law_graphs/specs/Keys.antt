-- Keys of additions, which histories name and logs don't. (In the kernel bpf_rbtree_add_impl of kernel/bpf/helpers.c orders nodes by the
-- program's own comparison; that the first field decides is this project's own.)
use Rattle.std.specs.Prelude.{ℕ, List, [], ◌∷◌}
use Rattle.bm_journal.specs.declared.ids.ObjId.{ObjId}
use Rattle.bm_journal.specs.declared.past.Past.{Past}
use Rattle.bm_journal.specs.declared.past.PastCall.{PastCall}
use Rattle.bm_journal.specs.declared.past.PastCall.TheVariants as past
use Rattle.bm_law.specs.Lists.{Log}
use Rattle.bm_law_lives.specs.Together.{Each}
use Rattle.bm_law_objects.specs.Gathered.{OneOf}
use Rattle.bm_law_objects.specs.ReadsLaw.{Read, Wrote, all_objects}

-- a key is the value of the first field
abbrev pub first_field : ObjId → (key : ℕ) → Read
first_field id key = record { unit = id.unit; life = id.life; place = 0; value = key }

abbrev pub key_read : PastCall → List Read
key_read (past.Add id key) = first_field id key ∷ []
key_read (past.AddAlready id key owner) = first_field id key ∷ []
key_read _ = []

-- The key that an addition of a history names, done or refused, is the first value with which some log made its object.
abbrev pub KeysLaw : List Past → List Log → Type 0
KeysLaw history logs =
    Each (λ p. Each (λ r. OneOf (Wrote r) (all_objects logs)) (key_read p.call)) history
