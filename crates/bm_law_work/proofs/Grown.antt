-- How a log grows by parts.
use Rattle.std.proofs.Common.{◌≡◌, ℕ, ◌++◌, List, [], Option, Some, None, IfSome, refl, sym, ◌∙◌, ap, subst, arith, append_assoc}
use Rattle.std.proofs.lemmas.Grind.{common_steps}
use Rattle.bm_journal.specs.declared.entry.Entry.{Entry}
use Rattle.bm_law.specs.State.{State, opening}
use Rattle.bm_law.specs.Lists.{Log, after, Leaves}
use Rattle.bm_law.specs.Spans.{AllFrom, own_entries, Records}
use Rattle.bm_law.proofs.Folds.{after-append}
use Rattle.bm_law.proofs.Spans.{from-append, own-append}
use Rattle.bm_law_work.specs.Parts.{Part, Stand, Say, Then}
use Rattle.bm_law_work.specs.Grown.{GrewPart, GrewBy}

-- nothing was added
pub grew-none : (P : Part) (s : State ℕ) (a : Option Log) → P s [] → GrewBy P s a a
grew-none P s None h = tt
grew-none P s (Some log) h = record { log = log; told = refl; added = []; now_is = grind (arith, common_steps); is_part = h }

-- entries of a call's own, as a part
pub grew-stand : (l : ℕ) (own : List Entry) (s : State ℕ) (a b : Option Log) → Records l own a b → GrewBy (Stand l own) s a b
grew-stand l own s a None h = tt
grew-stand l own s a (Some now) h = record { log = h.log; told = h.told; added = h.added; now_is = h.now_is; is_part = record { from = h.from; own_is = h.owned } }

pub grew-say : (l : ℕ) (phrase : List Entry → Type 0) (own : List Entry) (s : State ℕ) (a b : Option Log) → Records l own a b → phrase own → GrewBy (Say l phrase) s a b
grew-say l phrase own s a None h p = tt
grew-say l phrase own s a (Some now) h p = record { log = h.log; told = h.told; added = h.added; now_is = h.now_is; is_part = (own, p, record { from = h.from; own_is = h.owned }) }

-- a part that is another one too
pub grew-map : (P Q : Part) (s : State ℕ) (a b : Option Log) → ((part : Log) → P s part → Q s part) → GrewBy P s a b → GrewBy Q s a b
grew-map P Q s a None f g = tt
grew-map P Q s a (Some now) f g = record { log = g.log; told = g.told; added = g.added; now_is = g.now_is; is_part = f g.added g.is_part }

-- the lists after two stretches of a log
leaves-after : (p : ℕ) (log added : Log) (s t : State ℕ) → Leaves p log s → Leaves p (log ++ added) t → t ≡ after s added
leaves-after p log added s t h k = sym k.lists ∙ after-append (opening p) log added ∙ ap (λ x. after x added) h.lists

-- Two parts join, where the log between them leaves exactly the lists that the second one begins with.
pub grew-join : (P Q W : Part) (p : ℕ) (s t : State ℕ) (a b c : Option Log) → ((one two : Log) → P s one → Q (after s one) two → W s (one ++ two)) → IfSome a (λ es. Leaves p es s) → IfSome b (λ es. Leaves p es t) → GrewBy P s a b → GrewBy Q t b c → GrewBy W s a c
grew-join P Q W p s t a b None f x y g h = tt
grew-join P Q W p s t a b (Some now) f x y g h =
    let B : Option Log → Type 0 = λ o. GrewBy P s a o in
    let g' : GrewPart P s a h.log = subst B h.told g in
    let L : State ℕ → Option Log → Type 0 = λ v o. IfSome o (λ es. Leaves p es v) in
    let ls : Leaves p g'.log s = subst (L s) g'.told x in
    let lt : Leaves p h.log t = subst (L t) h.told y in
    let N : Log → Type 0 = λ es. Leaves p es t in
    let e : t ≡ after s g'.added = leaves-after p g'.log g'.added s t ls (subst N g'.now_is lt) in
    let S : State ℕ → Type 0 = λ v. Q v h.added in
    record {
      log = g'.log;
      told = g'.told;
      added = g'.added ++ h.added;
      now_is = h.now_is ∙ ap (λ z. z ++ h.added) g'.now_is ∙ append_assoc g'.log g'.added h.added;
      is_part = f g'.added h.added g'.is_part (subst S e h.is_part);
    }

-- What handlers add belongs to the phrase after it.
pub stand-after : (l : ℕ) (own : List Entry) (s t : State ℕ) (one two : Log) → AllFrom l one → own_entries l one ≡ [] → Stand l own t two → Stand l own s (one ++ two)
stand-after l own s t one two f n h = record { from = from-append l one two f h.from; own_is = own-append l one two ∙ ap (λ z. z ++ own_entries l two) n ∙ h.own_is }

pub say-after : (l : ℕ) (phrase : List Entry → Type 0) (s t : State ℕ) (one two : Log) → Stand l [] s one → Say l phrase t two → Say l phrase s (one ++ two)
say-after l phrase s t one two f h = (h.0, h.1, stand-after l h.0 s t one two f.from f.own_is h.2)

pub then-after : (l : ℕ) (phrase : List Entry → Type 0) (Q : Part) (s : State ℕ) (one two : Log) → Stand l [] s one → Then (Say l phrase) Q (after s one) two → Then (Say l phrase) Q s (one ++ two)
then-after l phrase Q s one two f h =
    let S : State ℕ → Type 0 = λ v. Q v h.two in
    record {
      one = one ++ h.one;
      two = h.two;
      part_is = ap (λ z. one ++ z) h.part_is ∙ sym (append_assoc one h.one h.two);
      is_first = say-after l phrase s (after s one) one h.one f h.is_first;
      is_second = subst S (sym (after-append s one h.one)) h.is_second;
    }
