-- Entries that touch nothing of what processors share.
use Rattle.std.proofs.Common.{◌≡◌, ℕ, true, [], ◌∷◌, refl}
use Rattle.bm_journal.specs.declared.entry.Entry.{Entry}
use Rattle.bm_journal.specs.declared.entry.Entry.TheVariants as entry
use Rattle.bm_law_order.specs.Quiet.{is_quiet}
use Rattle.bm_law_order.specs.Shared.{Shared, Fits, shared_after}
use Rattle.bm_law_order.specs.Orders.{Leads, by}

record Untouched (p l : ℕ) (e : Entry) (s : Shared) : Type 0 where
  pub fits : Fits p l e s
  pub same : shared_after p l e s ≡ s

untouched : (p l : ℕ) (e : Entry) (s : Shared) → is_quiet e ≡ true → Untouched p l e s
untouched p l (entry.Fill c us) s h = absurd (cc)
untouched p l (entry.In d w) s h = absurd (cc)
untouched p l (entry.Out d w) s h = absurd (cc)
untouched p l (entry.Given u life) s h = absurd (cc)
untouched p l (entry.GivenAfter u life stamp seen) s h = absurd (cc)
untouched p l (entry.Drop u life) s h = absurd (cc)
untouched p l (entry.Still k) s h = absurd (cc)
untouched p l entry.Last s h = absurd (cc)
untouched p l (entry.Free u home) s h = absurd (cc)
untouched p l (entry.Delay u home) s h = absurd (cc)
untouched p l (entry.Acquire u life k) s h = absurd (cc)
untouched p l (entry.Get u life place value) s h = absurd (cc)
untouched p l (entry.Begin d n) s h = absurd (cc)
untouched p l (entry.Finish period) s h = absurd (cc)
untouched p l (entry.Receive c us) s h = absurd (cc)
untouched p l (entry.Fetch c want us) s h = absurd (cc)
untouched p l (entry.Send c to us) s h = absurd (cc)
untouched p l (entry.Stamp c d x) s h = absurd (cc)
untouched p l (entry.Pass c d n) s h = absurd (cc)
untouched p l (entry.Return c us) s h = absurd (cc)
untouched p l (entry.Sweep c us) s h = absurd (cc)
untouched p l _ s h = record { fits = record { words = tt; numbers = tt; looks = tt; lives = tt; pages = tt; boxes = tt }; same = refl }

pub leads-quiet : (p l : ℕ) (e : Entry) (s : Shared) → is_quiet e ≡ true → Leads (by p ((l, e) ∷ [])) s s
leads-quiet p l e s h = let u = untouched p l e s h in record { fit = (u.fits, tt); now_is = u.same }
