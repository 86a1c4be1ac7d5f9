-- What a log tells behind one more entry.
use Rattle.std.specs.Prelude.{◌≡◌, ℕ, true, [], ◌∷◌, ◌++◌, Option, Some, None}
use Rattle.std.proofs.Common.{refl, ◌∙◌, subst}
use Rattle.bm_journal.specs.declared.ids.Domain.{Domain}
use Rattle.bm_journal.specs.declared.entry.Entry.{Entry}
use Rattle.bm_journal.specs.declared.entry.Entry.TheVariants as entry
use Rattle.bm_lang.specs.declared.scenario.Parts.{Parts}
use Rattle.bm_grace.specs.Known.{Known}
use Rattle.bm_law.specs.Lists.{Log}
use Rattle.bm_law.specs.Phrases.{given}
use Rattle.bm_cache.specs.Steps.{is_free, is_reply, is_step}
use Rattle.bm_law_lives.specs.SectionWords.{word_after, word_next}
use Rattle.bm_law_scenario.proofs.GoneBack.{done-grow}
use Rattle.bm_law_lives.proofs.Words.{word-append}
use Rattle.bm_exec_levels.specs.Logged.{Tells}

-- It ends no handler, and begins and ends no section.
abbrev pub IsInner : Entry → Type 0
IsInner (entry.Back name) = ⊥
IsInner (entry.In d w) = ⊥
IsInner (entry.Out d w) = ⊥
IsInner _ = Unit {0}

-- ---- such entries

pub inner-step : (e : Entry) → is_step e ≡ true → IsInner e
inner-step (entry.Back name) h = absurd (cc)
inner-step (entry.In d w) h = absurd (cc)
inner-step (entry.Out d w) h = absurd (cc)
inner-step _ h = tt

pub inner-reply : (e : Entry) → is_reply e ≡ true → IsInner e
inner-reply (entry.Back name) h = absurd (cc)
inner-reply (entry.In d w) h = absurd (cc)
inner-reply (entry.Out d w) h = absurd (cc)
inner-reply _ h = tt

pub inner-given : (u life : ℕ) (seal : Option (ℕ × ℕ)) → IsInner (given u life seal)
inner-given u life None = tt
inner-given u life (Some s) = tt

pub inner-free : (u home : ℕ) (e : Entry) → is_free u home e ≡ true → IsInner e
inner-free u home (entry.Back name) h = absurd (cc)
inner-free u home (entry.In d w) h = absurd (cc)
inner-free u home (entry.Out d w) h = absurd (cc)
inner-free u home _ h = tt

-- ---- behind one more entry

pub no-back : (e : Entry) → IsInner e → (name : _) → e ≡ entry.Back name → ⊥
no-back e i name q = subst IsInner q i

inner-next : (d : Domain) (w : ℕ) (e : Entry) → IsInner e → word_next d w e ≡ w
inner-next d w (entry.Back name) i = absurd i
inner-next d w (entry.In k n) i = absurd i
inner-next d w (entry.Out k n) i = absurd i
inner-next d w _ i = refl

-- no section began or ended
pub word-inner :
    (d : Domain) (log : Log) (l : ℕ) (e : Entry) → IsInner e
    → word_after d (log ++ (l, e) ∷ []) ≡ word_after d log
word-inner d log l e i = word-append d 0 log ((l, e) ∷ []) ∙ inner-next d (word_after d log) e i

pub tells-inner :
    (s : Parts) (known : Known) (log : Log) (l : ℕ) (e : Entry) → IsInner e → Tells s known log
    → Tells s known (log ++ (l, e) ∷ [])
tells-inner s known log l e i t =
    record {
      done = done-grow s known.grace.processor log l e (no-back e i) t.done;
      last = λ d. word-inner d log l e i ∙ t.last d;
    }
