-- Exchanges that no script makes.
use Rattle.std.proofs.Common.{◌≡◌, ◌∙◌, ℕ, List, [], ◌∷◌, Option, None, Some, ap}
use Rattle.bm_journal.specs.declared.entry.Entry.TheVariants as entry
use Rattle.bm_journal.specs.declared.ids.ObjId.{ObjId}
use Rattle.bm_journal.specs.declared.ids.Tag.{Tag}
use Rattle.bm_lang.specs.declared.scenario.TypeId.{TypeId}
use Rattle.bm_law_scenario.specs.Calls.{RunsExchange}
use Rattle.bm_law_scenario.specs.Held.{Names, Nothing, Object, no_names}
use Rattle.bm_law_scenario.specs.WorkedJournal.{x_name}
use Rattle.bm_law_scenario.specs.WorkedSlots.{desk_id, exchanges, given_away, holding, kept, o_name, slots, the_object}

nothing-not : (t : TypeId) (u n : ℕ) → Nothing ≡ Object t u n → ⊥
nothing-not t u n e = absurd (cc)

object-not : (t : TypeId) (u n : ℕ) → Object t u n ≡ Nothing → ⊥
object-not t u n e = absurd (cc)

put-is : (name other : List ℕ) (put was put' was' : Option ObjId) (by by' : Option Tag) → entry.Xchg name put was by ∷ [] ≡ entry.Xchg other put' was' by' ∷ [] → put ≡ put'
put-is name other put was put' was' by by' e = cc

none-some : {A : Type 0} (a : A) → None ≡ Some a → ⊥
none-some a e = absurd (cc)

pub unheld-wrong : RunsExchange slots o_name desk_id (Some x_name) no_names (exchanges the_object None None) given_away → ⊥
unheld-wrong h = nothing-not h.declared.type_id h.puts.0.unit h.puts.0.life h.puts.2

pub null-wrong : RunsExchange slots o_name desk_id (Some x_name) holding (exchanges None None None) given_away → ⊥
null-wrong h = none-some h.puts.0 (put-is _ h.declared.name None None h.put h.was None h.by h.part_is ∙ h.puts.1)

pub kept-wrong : RunsExchange slots o_name desk_id (Some x_name) holding (exchanges the_object None None) kept → ⊥
kept-wrong h = object-not _ 3 1 (ap (λ (n : Names). n x_name) h.after_is ∙ ap (λ (n : Names). n x_name) h.puts.3)

pub undeclared-wrong : RunsExchange [] o_name desk_id (Some x_name) holding (exchanges the_object None None) given_away → ⊥
undeclared-wrong h = none-some h.declared h.is_slot.found
