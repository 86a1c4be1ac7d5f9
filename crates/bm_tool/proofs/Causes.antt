-- Causes of refusals.
use Rattle.std.proofs.Common.{◌≡◌, ℕ, ◌≤◌, arith, inl, inr, List, Option, Some, None, Result, Ok, Err, length, IfSome, IsSomeAnd, IfErr, slice_get, refl, subst, ◌∙◌}
use Rattle.bm_lang.specs.declared.scenario.Parts.{Parts}
use Rattle.bm_lang.specs.declared.scenario.Script.{Script}
use Rattle.bm_lang.specs.Limits.{first_limit}
use Rattle.bm_lang.specs.Scenarios.{Reads}
use Rattle.bm_command.specs.declared.command.Command.{Command}
use Rattle.bm_command.specs.Words.{command_of}
use Rattle.bm_tool.specs.declared.refusal.Refusal.{Refusal}
use Rattle.bm_tool.specs.declared.refusal.Refusal.TheVariants as refusal
use Rattle.bm_tool.specs.Causes.{InputCause, IsExceeded, IsRejection, IsScriptRejected, IsUnread}
use Rattle.bm_tool.specs.Outcome.{IsServable}
use Rattle.bm_tool.specs.Refusals.{input_limit}

-- what holds of the bytes that were read holds of those that were left
of_left : (P : List ℕ → Type 0) (left : Option (List ℕ)) (bytes : List ℕ) → IfSome left (λ l. bytes ≡ l) → P bytes → IfSome left P
of_left P None bytes same p = tt
of_left P (Some l) bytes same p = subst P same p

moved : (left : Option (List ℕ)) (bytes : List ℕ) (before after : ℕ) (r : Refusal) → IfSome left (λ l. bytes ≡ l) → InputCause (Some bytes) before after r → InputCause left before after r
moved left bytes before after refusal.Usage same h = h
moved left bytes before after refusal.ReadFailed same h = h
moved left bytes before after refusal.WriteFailed same h = h
moved left bytes before after refusal.OutOfMemory same h = h
moved left bytes before after (refusal.Text bad) same h = of_left (λ bytes. (length bytes ≤ input_limit) × IsUnread bytes bad) left bytes same h
moved left bytes before after (refusal.Rejected script line rule) same h = of_left (λ bytes. IsScriptRejected bytes script line rule) left bytes same h
moved left bytes before after (refusal.Limit l) same h = of_left (λ bytes. IsExceeded bytes l) left bytes same h

pub cause_of_left : {T : Type 0} (x : Result T Refusal) (left : Option (List ℕ)) (bytes : List ℕ) (before after : ℕ) → IfSome left (λ l. bytes ≡ l)
    → IfErr x (λ r. (b a : ℕ) → InputCause (Some bytes) b a r) → IfErr x (InputCause left before after)
cause_of_left (Ok t) left bytes before after same h = tt
cause_of_left (Err r) left bytes before after same h = moved left bytes before after r same (h before after)

-- the same bytes, once more under another name
pub renamed : (left : Option (List ℕ)) (bytes more : List ℕ) → more ≡ bytes → IfSome left (λ l. bytes ≡ l) → IfSome left (λ l. more ≡ l)
renamed None bytes more e h = tt
renamed (Some l) bytes more e h = e ∙ h

named : (scripts : List Script) (place : ℕ) (name : List ℕ) → IsSomeAnd (slice_get scripts place) (λ (x : Script). x.name ≡ name) → (x : Script) × (slice_get scripts place ≡ Some x) × (x.name ≡ name)
named scripts place name h = found (slice_get scripts place) refl h
  where
    found : (o : Option Script) → slice_get scripts place ≡ o → IsSomeAnd o (λ (x : Script). x.name ≡ name) → (x : Script) × (slice_get scripts place ≡ Some x) × (x.name ≡ name)
    found (Some x) e h = (x, e, h)
    found None e h = absurd h

-- scripts that aren't accepted
pub rejected : (bytes : List ℕ) (s : Parts) (r : Refusal) → length bytes ≤ input_limit → Reads bytes s → first_limit s ≡ None → IsRejection s r → (before after : ℕ) → InputCause (Some bytes) before after r
rejected bytes s refusal.Usage short reads within h before after = absurd h
rejected bytes s refusal.ReadFailed short reads within h before after = absurd h
rejected bytes s refusal.WriteFailed short reads within h before after = absurd h
rejected bytes s refusal.OutOfMemory short reads within h before after = tt
rejected bytes s (refusal.Text bad) short reads within h before after = absurd h
rejected bytes s (refusal.Rejected name line rule) short reads within h before after =
    let n = named s.scripts h.0 name h.2 in
    record { within = short; scenario = s; reads = reads; limits = within; place = h.0; rejected = h.1; script = n.0; here = n.1; name_is = n.2 }
rejected bytes s (refusal.Limit l) short reads within h before after = absurd h

pub as_given : (s given : Parts) (r : Refusal) → given ≡ s → IsRejection given r → IsRejection s r
as_given s given r e h = subst (λ (s : Parts). IsRejection s r) e h

-- words that aren't none are a command
pub some_command : (words : List (List ℕ)) → (command_of words ≡ None → ⊥) → (c : Command) × (command_of words ≡ Some c)
some_command words h = found (command_of words) refl
  where
    found : (o : Option Command) → command_of words ≡ o → (c : Command) × (command_of words ≡ Some c)
    found (Some c) e = (c, e)
    found None e = absurd (h e)

-- What can be served is refused for want of memory alone.
pub memory_alone : (r : Refusal) (bytes : List ℕ) → IsServable bytes → ((before after : ℕ) → InputCause (Some bytes) before after r) → r ≡ refusal.OutOfMemory
memory_alone refusal.Usage bytes can h = absurd (h 0 0)
memory_alone refusal.ReadFailed bytes can h = absurd (let rose = h 0 0 in omega (arith, rose))
memory_alone refusal.WriteFailed bytes can h = absurd (h 0 0)
memory_alone refusal.OutOfMemory bytes can h = refl
memory_alone (refusal.Text bad) bytes can h = absurd ((h 0 0).1.none can.reading can.reads)
memory_alone (refusal.Rejected name line rule) bytes can h =
    let x = h 0 0 in
    absurd (let accepted = can.accepted x.scenario x.reads x.place x.rejected.broken x.rejected.here in let broken = x.rejected.first_rule in cc)
memory_alone (refusal.Limit l) bytes can h = elim (h 0 0) [
  | inl long ↦ absurd (let short = can.within in let more = long.1 in omega (arith, short, more))
  | inr x ↦ absurd (let none = can.limits x.1.0 x.1.1 in let some = x.1.2 in cc)
]
