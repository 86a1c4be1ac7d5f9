-- What holds along an order, of one after the other, and of the parts of what is shared.
use Rattle.std.proofs.Common.{◌≡◌, ℕ, [], ◌∷◌, ◌++◌, refl, sym, ◌∙◌, ap, subst}
use Rattle.std.proofs.lemmas.List.{map-append}
use Rattle.bm_journal.specs.declared.entry.Entry.{Entry}
use Rattle.bm_law.specs.Lists.{Log}
use Rattle.bm_law_order.specs.Shared.{Shared, Fits, shared_after}
use Rattle.bm_law_order.specs.Orders.{Order, AllFit, AllShared, Leads, by, event, over, shared_over}

module _ {S : Type 0} (after : (p l : ℕ) → Entry → S → S) (fits : (p l : ℕ) → Entry → S → Type 0) where
  pub over-append : (es fs : Order) (s : S) → over after (es ++ fs) s ≡ over after fs (over after es s)
  over-append [] fs s = refl
  over-append (e ∷ es) fs s = over-append es fs (after e.processor e.level e.entry s)

  pub fit-append : (es fs : Order) (s : S) → AllFit after fits es s → AllFit after fits fs (over after es s) → AllFit after fits (es ++ fs) s
  fit-append [] fs s h k = k
  fit-append (e ∷ es) fs s h k = (h.0, fit-append es fs (after e.processor e.level e.entry s) h.1 k)

  pub fit-front : (es fs : Order) (s : S) → AllFit after fits (es ++ fs) s → AllFit after fits es s
  fit-front [] fs s h = tt
  fit-front (e ∷ es) fs s h = (h.0, fit-front es fs (after e.processor e.level e.entry s) h.1)

  pub fit-rest : (es fs : Order) (s : S) → AllFit after fits (es ++ fs) s → AllFit after fits fs (over after es s)
  fit-rest [] fs s h = h
  fit-rest (e ∷ es) fs s h = fit-rest es fs (after e.processor e.level e.entry s) h.1

-- A part of what is shared goes its own way along an order.
module _ {S : Type 0} (part : Shared → S) (after : (p l : ℕ) → Entry → S → S) (goes : (p l : ℕ) (e : Entry) (s : Shared) → part (shared_after p l e s) ≡ after p l e (part s)) where
  pub part-over : (o : Order) (s : Shared) → part (shared_over o s) ≡ over after o (part s)
  part-over [] s = refl
  part-over (e ∷ o) s = part-over o (shared_after e.processor e.level e.entry s) ∙ ap (over after o) (goes e.processor e.level e.entry s)

  pub part-fits : (fits : (p l : ℕ) → Entry → S → Type 0) → ((p l : ℕ) (e : Entry) (s : Shared) → Fits p l e s → fits p l e (part s)) → (o : Order) (s : Shared) → AllShared o s → AllFit after fits o (part s)
  part-fits fits has [] s h = tt
  part-fits fits has (e ∷ o) s h = (
    has e.processor e.level e.entry s h.0,
    subst (AllFit after fits o) (goes e.processor e.level e.entry s) (part-fits fits has o (shared_after e.processor e.level e.entry s) h.1),
  )

pub leads-same : (s : Shared) → Leads [] s s
leads-same s = record { fit = tt; now_is = refl }

pub leads-join : (es fs : Order) (a b c : Shared) → Leads es a b → Leads fs b c → Leads (es ++ fs) a c
leads-join es fs a b c x y = record {
  fit = fit-append shared_after Fits es fs a x.fit (subst (λ s. AllShared fs s) (sym x.now_is) y.fit);
  now_is = over-append shared_after Fits es fs a ∙ (ap (shared_over fs) x.now_is ∙ y.now_is);
}

pub by-append : (p : ℕ) (es fs : Log) → by p (es ++ fs) ≡ by p es ++ by p fs
by-append p es fs = map-append (event p) es fs

pub leads-by-join : (p : ℕ) (es fs : Log) (a b c : Shared) → Leads (by p es) a b → Leads (by p fs) b c → Leads (by p (es ++ fs)) a c
leads-by-join p es fs a b c x y = subst (λ o. Leads o a c) (sym (by-append p es fs)) (leads-join (by p es) (by p fs) a b c x y)
