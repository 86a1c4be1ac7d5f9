-- What a log of fills tells, and where the code is behind it.
use Rattle.std.proofs.Common.{◌≡◌, ℕ, List, [], ◌∷◌, ◌++◌, refl, sym, subst, append_assoc, append-nil, Option, Some, None, IfSome}
use Rattle.bm_journal.specs.declared.ids.Domain.{Domain}
use Rattle.bm_journal.specs.declared.entry.Entry.{Entry}
use Rattle.bm_journal.specs.declared.entry.Entry.TheVariants as entry
use Rattle.bm_lang.specs.declared.scenario.AtLine.{AtLine}
use Rattle.bm_lang.specs.declared.scenario.Parts.{Parts}
use Rattle.bm_grace.specs.Known.{Known, side}
use Rattle.bm_law.specs.Lists.{Log}
use Rattle.bm_law_scenario.proofs.GoneBack.{done-none}
use Rattle.bm_cache.specs.Opening.{Fills, fill_log, named}
use Rattle.bm_cache.specs.Tokens.{Token}
use Rattle.bm_plan.specs.Position.{StandsAt, outset}
use Rattle.bm_plan.proofs.Positions.{at-outset, stays-here}
use Rattle.bm_exec_levels.specs.Growing.{tells-inner}
use Rattle.bm_exec_levels.specs.Logged.{Tells}

-- what an entry keeps that fills a class, fills keep
over-fills : (P : Log → Type 0) → ((log : Log) (f : ℕ × List Token) → P log → P (log ++ (0, entry.Fill f.0 (named f.1)) ∷ [])) → (log : Log) (fs : Fills) → P log → P (log ++ fill_log fs)
over-fills P one log [] h = subst P (sym (append-nil log)) h
over-fills P one log (f ∷ fs) h =
    let e : ℕ × Entry = (0, entry.Fill f.0 (named f.1)) in
    subst P (append_assoc log (e ∷ []) (fill_log fs)) (over-fills P one (log ++ e ∷ []) fs (one log f h))

-- ordinary code is there behind the fills
pub stands-filled : (names : List (List ℕ)) (lines : List AtLine) (fs : Fills) → StandsAt (outset names lines) (fill_log fs)
stands-filled names lines fs =
    over-fills (StandsAt (outset names lines)) (λ log f h. stays-here (outset names lines) log (entry.Fill f.0 (named f.1)) refl h) [] fs (at-outset names lines)

-- nothing is told before the first entry
tells-none : (s : Parts) (known : Known) → ((d : Domain) → (side d known).word ≡ 0) → Tells s known []
tells-none s known words = record { done = done-none s known.grace.processor; last = λ d. sym (words d) }

-- the fills tell of no section and no handler
pub tells-filled : (s : Parts) (known : Known) (fs : Fills) → ((d : Domain) → (side d known).word ≡ 0) → Tells s known (fill_log fs)
tells-filled s known fs words =
    over-fills (Tells s known) (λ log f h. tells-inner s known log 0 (entry.Fill f.0 (named f.1)) tt h) [] fs (tells-none s known words)

-- what holds of this log holds of the one that is told
pub where-told : (P : Log → Type 0) (log : Option Log) (es : Log) → IfSome log (λ told. told ≡ es) → P es → IfSome log P
where-told P None es e h = tt
where-told P (Some told) es e h = subst P (sym e) h
