-- An entry that is read has the words that it is read from, and fits.
use Rattle.std.proofs.Common.{◌≡◌, ℕ, zero, suc, add-one, ◌+◌, ◌<◌, ◌≤◌, ◌^◌, Bool, true, false, cond, List, [], ◌∷◌, ◌++◌, Option, Some, None, length, take, drop, get_or, refl, sym, ◌∙◌, ap, arith, decimal, subst}
use Rattle.std.specs.Prelude.{codes, IsTrue, position}
use Rattle.std.proofs.lemmas.List.Quantifiers.{position-Some}
use Rattle.bm_word.specs.Number.{NumbersRoundTrip}
use Rattle.bm_journal.specs.declared.ids.Domain.{Domain}
use Rattle.bm_journal.specs.declared.ids.ObjId.{ObjId}
use Rattle.bm_journal.specs.declared.units.Units.TheVariants.{Whole}
use Rattle.bm_journal.specs.declared.entry.Entry.{Entry}
use Rattle.bm_journal.specs.declared.entry.Entry.TheVariants as entry
use Rattle.bm_journal.specs.EntryText as text
use Rattle.bm_journal.specs.WellFormed.{is_whole_entry}
use Rattle.bm_law_text.specs.declared.kind.Kind.{Kind}
use Rattle.bm_law_text.specs.declared.kind.Kind.TheVariants as kind
use Rattle.bm_law_text.specs.Kinds.{kind_of, kind_text}
use Rattle.bm_law_text.specs.Parts.{after, word_is, number, name, class, domain, numbers, few, object_id, object, call}
use Rattle.bm_law_text.specs.Entries as form
use Rattle.bm_law_text.specs.Fits.{Each, IsName, IdFits, ObjectFits, FewFit, EntryFits}
use Rattle.bm_law_text.proofs.Options.{after-some, only_if-some}
use Rattle.bm_law_text.proofs.PartsSound.{same, word-sound, number-sound, name-sound, class-sound, domain-sound, numbers-sound, few-sound, id-sound, object-sound, call-sound}
use Rattle.bm_law_text.proofs.Spelled.{spelled}

-- the entry has these words behind the kind's, and fits
abbrev pub Said : Kind → text.Words → Entry → Type 0
Said k ws e = (text.words_of e ≡ kind_text k ∷ ws) × EntryFits e × IsTrue (is_whole_entry e)

bare_entry-sound : (k : Kind) (e : Entry) → form.bare_entry k ≡ Some e → Said k ([]) e
bare_entry-sound kind.Yield e h = subst (Said kind.Yield ([])) (same h) (refl, tt, refl)
bare_entry-sound kind.Ended e h = subst (Said kind.Ended ([])) (same h) (refl, tt, refl)
bare_entry-sound kind.Close e h = subst (Said kind.Close ([])) (same h) (refl, tt, refl)
bare_entry-sound kind.Empty e h = subst (Said kind.Empty ([])) (same h) (refl, tt, refl)
bare_entry-sound kind.Last e h = subst (Said kind.Last ([])) (same h) (refl, tt, refl)
bare_entry-sound k e h = absurd (cc)

bare-sound : (k : Kind) (ws : text.Words) (e : Entry) → form.bare k ws ≡ Some e → Said k ws e
bare-sound k [] e h = bare_entry-sound k e h
bare-sound k (w ∷ ws) e h = absurd (cc)

named_entry-sound : (k : Kind) (n : List ℕ) (e : Entry) → IsName n → form.named_entry k n ≡ Some e → Said k (n ∷ []) e
named_entry-sound kind.Script n e hn h = subst (Said kind.Script (n ∷ [])) (same h) (refl, hn, refl)
named_entry-sound kind.Done n e hn h = subst (Said kind.Done (n ∷ [])) (same h) (refl, hn, refl)
named_entry-sound kind.Handler n e hn h = subst (Said kind.Handler (n ∷ [])) (same h) (refl, hn, refl)
named_entry-sound kind.Back n e hn h = subst (Said kind.Back (n ∷ [])) (same h) (refl, hn, refl)
named_entry-sound kind.Lock n e hn h = subst (Said kind.Lock (n ∷ [])) (same h) (refl, hn, refl)
named_entry-sound kind.Unlock n e hn h = subst (Said kind.Unlock (n ∷ [])) (same h) (refl, hn, refl)
named_entry-sound k n e hn h = absurd (cc)

named-sound : (k : Kind) (ws : text.Words) (e : Entry) → form.named k ws ≡ Some e → Said k ws e
named-sound k (n ∷ []) e h =
    let a = after-some (name n) (form.named_entry k) e h in
    let x = name-sound n a.0 a.1 in
    let s = named_entry-sound k a.0 e x.1 a.2 in
    (s.0 ∙ ap (λ w. kind_text k ∷ w ∷ []) (sym x.0), s.1, s.2)
named-sound k ws e h = absurd (cc)

of_domain_entry-sound : (k : Kind) (d : Domain) (n : ℕ) (e : Entry) → n < 2 ^ 32 → form.of_domain_entry k d n ≡ Some e → Said k (text.domain d ∷ decimal n ∷ []) e
of_domain_entry-sound kind.In d n e hn h = subst (Said kind.In (text.domain d ∷ decimal n ∷ [])) (same h) (refl, hn, refl)
of_domain_entry-sound kind.Out d n e hn h = subst (Said kind.Out (text.domain d ∷ decimal n ∷ [])) (same h) (refl, hn, refl)
of_domain_entry-sound kind.Begin d n e hn h = subst (Said kind.Begin (text.domain d ∷ decimal n ∷ [])) (same h) (refl, hn, refl)
of_domain_entry-sound k d n e hn h = absurd (cc)

of_domain-sound : NumbersRoundTrip → (k : Kind) (ws : text.Words) (e : Entry) → form.of_domain k ws ≡ Some e → Said k ws e
of_domain-sound rt k (d ∷ n ∷ []) e h =
    let a = after-some (domain d) (λ d. after (number (2 ^ 32) n) (form.of_domain_entry k d)) e h in
    let b = after-some (number (2 ^ 32) n) (form.of_domain_entry k a.0) e a.2 in
    let x = domain-sound d a.0 a.1 in
    let y = number-sound rt (2 ^ 32) n b.0 b.1 in
    let s = of_domain_entry-sound k a.0 b.0 e y.1 b.2 in
    (s.0 ∙ sym (ap (λ w. kind_text k ∷ w ∷ n ∷ []) x ∙ ap (λ w. kind_text k ∷ text.domain a.0 ∷ w ∷ []) y.0), s.1, s.2)
of_domain-sound rt k ws e h = absurd (cc)

one_entry-sound : (k : Kind) (n : ℕ) (e : Entry) → n < 2 ^ 32 → form.one_entry k n ≡ Some e → Said k (decimal n ∷ []) e
one_entry-sound kind.Busy n e hn h = subst (Said kind.Busy (decimal n ∷ [])) (same h) (refl, hn, refl)
one_entry-sound kind.Still n e hn h = subst (Said kind.Still (decimal n ∷ [])) (same h) (refl, hn, refl)
one_entry-sound k n e hn h = absurd (cc)

one-sound : NumbersRoundTrip → (k : Kind) (ws : text.Words) (e : Entry) → form.one k ws ≡ Some e → Said k ws e
one-sound rt k (n ∷ []) e h =
    let b = after-some (number (2 ^ 32) n) (form.one_entry k) e h in
    let y = number-sound rt (2 ^ 32) n b.0 b.1 in
    let s = one_entry-sound k b.0 e y.1 b.2 in
    (s.0 ∙ ap (λ w. kind_text k ∷ w ∷ []) (sym y.0), s.1, s.2)
one-sound rt k ws e h = absurd (cc)

freed_entry-sound : (k : Kind) (u : ℕ) (n : ℕ) (e : Entry) → u < 2 ^ 16 → n < 2 ^ 8 → form.freed_entry k u n ≡ Some e → Said k (decimal u ∷ decimal n ∷ []) e
freed_entry-sound kind.Free u n e hu hn h = subst (Said kind.Free (decimal u ∷ decimal n ∷ [])) (same h) (refl, (hu, hn), refl)
freed_entry-sound kind.Delay u n e hu hn h = subst (Said kind.Delay (decimal u ∷ decimal n ∷ [])) (same h) (refl, (hu, hn), refl)
freed_entry-sound k u n e hu hn h = absurd (cc)

-- two words, each spelled as what it says
two : (t a b c d : List ℕ) → a ≡ c → b ≡ d → (t ∷ c ∷ d ∷ []) ≡ (t ∷ a ∷ b ∷ [])
two t a b c d x y = cc

three : (t a b p c d q : List ℕ) → a ≡ c → b ≡ d → p ≡ q → (t ∷ c ∷ d ∷ q ∷ []) ≡ (t ∷ a ∷ b ∷ p ∷ [])
three t a b p c d q x y z = cc

four : (t a b p v c d q w : List ℕ) → a ≡ c → b ≡ d → p ≡ q → v ≡ w → (t ∷ c ∷ d ∷ q ∷ w ∷ []) ≡ (t ∷ a ∷ b ∷ p ∷ v ∷ [])
four t a b p v c d q w x y z u = cc

freed-sound : NumbersRoundTrip → (k : Kind) (ws : text.Words) (e : Entry) → form.freed k ws ≡ Some e → Said k ws e
freed-sound rt k (u ∷ n ∷ []) e h =
    let a = after-some (number (2 ^ 16) u) (λ u. after (number (2 ^ 8) n) (form.freed_entry k u)) e h in
    let b = after-some (number (2 ^ 8) n) (form.freed_entry k a.0) e a.2 in
    let x = number-sound rt (2 ^ 16) u a.0 a.1 in
    let y = number-sound rt (2 ^ 8) n b.0 b.1 in
    let s = freed_entry-sound k a.0 b.0 e x.1 y.1 b.2 in
    (s.0 ∙ two (kind_text k) u n (decimal a.0) (decimal b.0) x.0 y.0, s.1, s.2)
freed-sound rt k ws e h = absurd (cc)

dropped-sound : NumbersRoundTrip → (ws : text.Words) (e : Entry) → form.dropped ws ≡ Some e → Said kind.Drop ws e
dropped-sound rt (u ∷ l ∷ []) e h =
    let a = after-some (object_id u l) (λ o. Some (entry.Drop o.unit o.life)) e h in
    let x = id-sound rt u l a.0 a.1 in
    subst (Said kind.Drop (u ∷ l ∷ [])) (same a.2) (two (codes "drop") u l (decimal a.0.unit) (decimal a.0.life) x.0 x.1, x.2, refl)
dropped-sound rt ws e h = absurd (cc)

given-sound : NumbersRoundTrip → (ws : text.Words) (e : Entry) → form.given ws ≡ Some e → Said kind.Given ws e
given-sound rt (u ∷ l ∷ []) e h =
    let a = after-some (object_id u l) (λ o. Some (entry.Given o.unit o.life)) e h in
    let x = id-sound rt u l a.0 a.1 in
    subst (Said kind.Given (u ∷ l ∷ [])) (same a.2) (two (codes "given") u l (decimal a.0.unit) (decimal a.0.life) x.0 x.1, x.2, refl)
given-sound rt (u ∷ l ∷ w ∷ s ∷ n ∷ []) e h =
    let t = only_if-some (word_is (codes "after") w) (after (object_id u l) (λ o. after (number (2 ^ 32) s) (λ s. after (number (2 ^ 32) n) (λ n. Some (entry.GivenAfter o.unit o.life s n))))) e h in
    let a = after-some (object_id u l) (λ o. after (number (2 ^ 32) s) (λ s. after (number (2 ^ 32) n) (λ n. Some (entry.GivenAfter o.unit o.life s n)))) e t.1 in
    let b = after-some (number (2 ^ 32) s) (λ s. after (number (2 ^ 32) n) (λ n. Some (entry.GivenAfter a.0.unit a.0.life s n))) e a.2 in
    let c = after-some (number (2 ^ 32) n) (λ n. Some (entry.GivenAfter a.0.unit a.0.life b.0 n)) e b.2 in
    let v = word-sound (codes "after") w t.0 in
    let x = id-sound rt u l a.0 a.1 in
    let y = number-sound rt (2 ^ 32) s b.0 b.1 in
    let z = number-sound rt (2 ^ 32) n c.0 c.1 in
    subst (Said kind.Given (u ∷ l ∷ w ∷ s ∷ n ∷ [])) (same c.2) (cc (v, x.0, x.1, y.0, z.0), (x.2.0, x.2.1, y.1, z.1), refl)
given-sound rt ws e h = absurd (cc)

acquired-sound : NumbersRoundTrip → (ws : text.Words) (e : Entry) → form.acquired ws ≡ Some e → Said kind.Acquire ws e
acquired-sound rt (u ∷ l ∷ n ∷ []) e h =
    let a = after-some (object_id u l) (λ o. after (number (2 ^ 32) n) (λ k. Some (entry.Acquire o.unit o.life k))) e h in
    let b = after-some (number (2 ^ 32) n) (λ k. Some (entry.Acquire a.0.unit a.0.life k)) e a.2 in
    let x = id-sound rt u l a.0 a.1 in
    let y = number-sound rt (2 ^ 32) n b.0 b.1 in
    subst (Said kind.Acquire (u ∷ l ∷ n ∷ [])) (same b.2) (cc (x.0, x.1, y.0), (x.2.0, x.2.1, y.1), refl)
acquired-sound rt ws e h = absurd (cc)

got-sound : NumbersRoundTrip → (ws : text.Words) (e : Entry) → form.got ws ≡ Some e → Said kind.Get ws e
got-sound rt (u ∷ l ∷ f ∷ v ∷ []) e h =
    let a = after-some (object_id u l) (λ o. after (number (2 ^ 8) f) (λ f. after (number (2 ^ 32) v) (λ v. Some (entry.Get o.unit o.life f v)))) e h in
    let b = after-some (number (2 ^ 8) f) (λ f. after (number (2 ^ 32) v) (λ v. Some (entry.Get a.0.unit a.0.life f v))) e a.2 in
    let c = after-some (number (2 ^ 32) v) (λ v. Some (entry.Get a.0.unit a.0.life b.0 v)) e b.2 in
    let x = id-sound rt u l a.0 a.1 in
    let y = number-sound rt (2 ^ 8) f b.0 b.1 in
    let z = number-sound rt (2 ^ 32) v c.0 c.1 in
    subst (Said kind.Get (u ∷ l ∷ f ∷ v ∷ [])) (same c.2) (cc (x.0, x.1, y.0, z.0), (x.2.0, x.2.1, y.1, z.1), refl)
got-sound rt ws e h = absurd (cc)

-- ---- names

new-sound : NumbersRoundTrip → (ws : text.Words) (e : Entry) → form.new ws ≡ Some e → Said kind.New ws e
new-sound rt [] e h = absurd (cc)
new-sound rt (n ∷ vs) e h =
    let a = after-some (name n) (λ n. after (few 8 vs) (λ vs. Some (entry.New n vs))) e h in
    let b = after-some (few 8 vs) (λ vs. Some (entry.New a.0 vs)) e a.2 in
    let x = name-sound n a.0 a.1 in
    let y = few-sound rt 8 vs b.0 b.1 in
    subst (Said kind.New (n ∷ vs)) (same b.2) (cc (x.0, y.0), (x.1, y.1), refl)

past_word-sound : (t : List ℕ) (ws r : text.Words) → form.past_word t ws ≡ Some r → ws ≡ t ∷ r
past_word-sound t [] r h = cc
past_word-sound t (w ∷ ws) r h =
    let b = only_if-some (word_is t w) (Some ws) r h in
    let x = word-sound t w b.0 in
    let y : ws ≡ r = same b.1 in
    cc

exchanged_said : NumbersRoundTrip → (n : List ℕ) (ws : text.Words) (e : Entry) → form.exchanged (n ∷ ws) ≡ Some e → Said kind.Xchg (n ∷ ws) e
exchanged_said rt n ws e h =
    let a = after-some (name n) (λ n. after (form.past_word (codes "put") ws) (λ ws. after (object ws) (λ put. after (form.past_word (codes "was") put.1) (λ ws. after (object ws) (λ was. after (form.past_word (codes "by") was.1) (λ ws. after (call ws) (λ by. Some (entry.Xchg n put.0 was.0 by)))))))) e h in
    let b = after-some (form.past_word (codes "put") ws) (λ ws. after (object ws) (λ put. after (form.past_word (codes "was") put.1) (λ ws. after (object ws) (λ was. after (form.past_word (codes "by") was.1) (λ ws. after (call ws) (λ by. Some (entry.Xchg a.0 put.0 was.0 by))))))) e a.2 in
    let c = after-some (object b.0) (λ put. after (form.past_word (codes "was") put.1) (λ ws. after (object ws) (λ was. after (form.past_word (codes "by") was.1) (λ ws. after (call ws) (λ by. Some (entry.Xchg a.0 put.0 was.0 by)))))) e b.2 in
    let d = after-some (form.past_word (codes "was") c.0.1) (λ ws. after (object ws) (λ was. after (form.past_word (codes "by") was.1) (λ ws. after (call ws) (λ by. Some (entry.Xchg a.0 c.0.0 was.0 by))))) e c.2 in
    let f = after-some (object d.0) (λ was. after (form.past_word (codes "by") was.1) (λ ws. after (call ws) (λ by. Some (entry.Xchg a.0 c.0.0 was.0 by)))) e d.2 in
    let g = after-some (form.past_word (codes "by") f.0.1) (λ ws. after (call ws) (λ by. Some (entry.Xchg a.0 c.0.0 f.0.0 by))) e f.2 in
    let i = after-some (call g.0) (λ by. Some (entry.Xchg a.0 c.0.0 f.0.0 by)) e g.2 in
    let x = name-sound n a.0 a.1 in
    let y = object-sound rt b.0 c.0 c.1 in
    let z = object-sound rt d.0 f.0 f.1 in
    let w = call-sound rt g.0 i.0 i.1 in
    let p = past_word-sound (codes "put") ws b.0 b.1 in
    let q = past_word-sound (codes "was") c.0.1 d.0 d.1 in
    let r = past_word-sound (codes "by") f.0.1 g.0 g.1 in
    let last : f.0.1 ≡ codes "by" ∷ text.call i.0 = r ∙ ap (λ v. codes "by" ∷ v) w.0 in
    let middle : c.0.1 ≡ codes "was" ∷ (text.object f.0.0 ++ codes "by" ∷ text.call i.0) = q ∙ ap (λ v. codes "was" ∷ v) (z.0 ∙ ap (λ v. text.object f.0.0 ++ v) last) in
    let front : ws ≡ codes "put" ∷ (text.object c.0.0 ++ codes "was" ∷ (text.object f.0.0 ++ codes "by" ∷ text.call i.0)) = p ∙ ap (λ v. codes "put" ∷ v) (y.0 ∙ ap (λ v. text.object c.0.0 ++ v) middle) in
    subst (Said kind.Xchg (n ∷ ws)) (same i.2) (ap (λ v. codes "xchg" ∷ a.0 ∷ v) (sym front) ∙ ap (λ v. codes "xchg" ∷ v ∷ ws) (sym x.0), (x.1, y.1, z.1, w.1), refl)

exchanged-sound : NumbersRoundTrip → (ws : text.Words) (e : Entry) → form.exchanged ws ≡ Some e → Said kind.Xchg ws e
exchanged-sound rt [] e h = absurd (cc)
exchanged-sound rt (n ∷ ws) e h = exchanged_said rt n ws e h

at_position-sound : NumbersRoundTrip → (a p : List ℕ) (n : ℕ) → form.at_position a p ≡ Some n → (a ≡ codes "at") × (p ≡ decimal n) × (n < 2 ^ 32)
at_position-sound rt a p n h =
    let b = only_if-some (word_is (codes "at") a) (number (2 ^ 32) p) n h in
    let x = number-sound rt (2 ^ 32) p n b.1 in
    (word-sound (codes "at") a b.0, x.0, x.1)

-- ---- pushes and pops

pushed_entry-sound : (k : Kind) (n : List ℕ) (x : ObjId) (p : ℕ) (e : Entry) → IsName n → IdFits x → p < 2 ^ 32 → form.pushed_entry k n x p ≡ Some e → Said k (n ∷ decimal x.unit ∷ decimal x.life ∷ codes "at" ∷ decimal p ∷ []) e
pushed_entry-sound kind.PushFront n x p e hn hx hp h = subst (Said kind.PushFront (n ∷ decimal x.unit ∷ decimal x.life ∷ codes "at" ∷ decimal p ∷ [])) (same h) (refl, (hn, hx.0, hx.1, hp), refl)
pushed_entry-sound kind.PushBack n x p e hn hx hp h = subst (Said kind.PushBack (n ∷ decimal x.unit ∷ decimal x.life ∷ codes "at" ∷ decimal p ∷ [])) (same h) (refl, (hn, hx.0, hx.1, hp), refl)
pushed_entry-sound kind.Add n x p e hn hx hp h = subst (Said kind.Add (n ∷ decimal x.unit ∷ decimal x.life ∷ codes "at" ∷ decimal p ∷ [])) (same h) (refl, (hn, hx.0, hx.1, hp), refl)
pushed_entry-sound kind.Remove n x p e hn hx hp h = subst (Said kind.Remove (n ∷ decimal x.unit ∷ decimal x.life ∷ codes "at" ∷ decimal p ∷ [])) (same h) (refl, (hn, hx.0, hx.1, hp), refl)
pushed_entry-sound k n x p e hn hx hp h = absurd (cc)

refused_entry-sound : (k : Kind) (n : List ℕ) (x : ObjId) (y : List ℕ) (p : ℕ) (e : Entry) → IsName n → IdFits x → IsName y → p < 2 ^ 32 → form.refused_entry k n x y p ≡ Some e → Said k (n ∷ decimal x.unit ∷ decimal x.life ∷ codes "already" ∷ y ∷ codes "at" ∷ decimal p ∷ []) e
refused_entry-sound kind.PushFront n x y p e hn hx hy hp h = subst (Said kind.PushFront (n ∷ decimal x.unit ∷ decimal x.life ∷ codes "already" ∷ y ∷ codes "at" ∷ decimal p ∷ [])) (same h) (refl, (hn, hx.0, hx.1, hy, hp), refl)
refused_entry-sound kind.PushBack n x y p e hn hx hy hp h = subst (Said kind.PushBack (n ∷ decimal x.unit ∷ decimal x.life ∷ codes "already" ∷ y ∷ codes "at" ∷ decimal p ∷ [])) (same h) (refl, (hn, hx.0, hx.1, hy, hp), refl)
refused_entry-sound kind.Add n x y p e hn hx hy hp h = subst (Said kind.Add (n ∷ decimal x.unit ∷ decimal x.life ∷ codes "already" ∷ y ∷ codes "at" ∷ decimal p ∷ [])) (same h) (refl, (hn, hx.0, hx.1, hy, hp), refl)
refused_entry-sound k n x y p e hn hx hy hp h = absurd (cc)

pushed-sound : NumbersRoundTrip → (k : Kind) (ws : text.Words) (e : Entry) → form.pushed k ws ≡ Some e → Said k ws e
pushed-sound rt k (n ∷ u ∷ l ∷ t ∷ p ∷ []) e h =
    let a = after-some (name n) (λ n. after (object_id u l) (λ o. after (form.at_position t p) (form.pushed_entry k n o))) e h in
    let b = after-some (object_id u l) (λ o. after (form.at_position t p) (form.pushed_entry k a.0 o)) e a.2 in
    let c = after-some (form.at_position t p) (form.pushed_entry k a.0 b.0) e b.2 in
    let x = name-sound n a.0 a.1 in
    let y = id-sound rt u l b.0 b.1 in
    let z = at_position-sound rt t p c.0 c.1 in
    let s = pushed_entry-sound k a.0 b.0 c.0 e x.1 y.2 z.2 c.2 in
    let spelt : (kind_text k ∷ a.0 ∷ decimal b.0.unit ∷ decimal b.0.life ∷ codes "at" ∷ decimal c.0 ∷ []) ≡ (kind_text k ∷ n ∷ u ∷ l ∷ t ∷ p ∷ []) = cc (x.0, y.0, y.1, z.0, z.1) in
    (s.0 ∙ spelt, s.1, s.2)
pushed-sound rt k (n ∷ u ∷ l ∷ w ∷ owner ∷ t ∷ p ∷ []) e h =
    let v = only_if-some (word_is (codes "already") w) (after (name n) (λ n. after (object_id u l) (λ o. after (name owner) (λ owner. after (form.at_position t p) (form.refused_entry k n o owner))))) e h in
    let a = after-some (name n) (λ n. after (object_id u l) (λ o. after (name owner) (λ owner. after (form.at_position t p) (form.refused_entry k n o owner)))) e v.1 in
    let b = after-some (object_id u l) (λ o. after (name owner) (λ owner. after (form.at_position t p) (form.refused_entry k a.0 o owner))) e a.2 in
    let c = after-some (name owner) (λ owner. after (form.at_position t p) (form.refused_entry k a.0 b.0 owner)) e b.2 in
    let d = after-some (form.at_position t p) (form.refused_entry k a.0 b.0 c.0) e c.2 in
    let r = word-sound (codes "already") w v.0 in
    let x = name-sound n a.0 a.1 in
    let y = id-sound rt u l b.0 b.1 in
    let q = name-sound owner c.0 c.1 in
    let z = at_position-sound rt t p d.0 d.1 in
    let s = refused_entry-sound k a.0 b.0 c.0 d.0 e x.1 y.2 q.1 z.2 d.2 in
    let spelt : (kind_text k ∷ a.0 ∷ decimal b.0.unit ∷ decimal b.0.life ∷ codes "already" ∷ c.0 ∷ codes "at" ∷ decimal d.0 ∷ []) ≡ (kind_text k ∷ n ∷ u ∷ l ∷ w ∷ owner ∷ t ∷ p ∷ []) = cc (r, x.0, y.0, y.1, q.0, z.0, z.1) in
    (s.0 ∙ spelt, s.1, s.2)
pushed-sound rt k ws e h = absurd (cc)

found_entry-sound : (k : Kind) (n : List ℕ) (x : Option ObjId) (p : ℕ) (e : Entry) → IsName n → ObjectFits x → p < 2 ^ 32 → form.found_entry k n x p ≡ Some e → Said k (n ∷ (text.object x ++ codes "at" ∷ decimal p ∷ [])) e
found_entry-sound kind.PopFront n x p e hn hx hp h = subst (Said kind.PopFront (n ∷ (text.object x ++ codes "at" ∷ decimal p ∷ []))) (same h) (refl, (hn, hx, hp), refl)
found_entry-sound kind.PopBack n x p e hn hx hp h = subst (Said kind.PopBack (n ∷ (text.object x ++ codes "at" ∷ decimal p ∷ []))) (same h) (refl, (hn, hx, hp), refl)
found_entry-sound kind.First n x p e hn hx hp h = subst (Said kind.First (n ∷ (text.object x ++ codes "at" ∷ decimal p ∷ []))) (same h) (refl, (hn, hx, hp), refl)
found_entry-sound k n x p e hn hx hp h = absurd (cc)

found-sound : NumbersRoundTrip → (k : Kind) (ws : text.Words) (e : Entry) → form.found k ws ≡ Some e → Said k ws e
found-sound rt k (n ∷ w ∷ t ∷ p ∷ []) e h =
    let v = only_if-some (word_is (codes "none") w) (after (name n) (λ n. after (form.at_position t p) (form.found_entry k n None))) e h in
    let a = after-some (name n) (λ n. after (form.at_position t p) (form.found_entry k n None)) e v.1 in
    let c = after-some (form.at_position t p) (form.found_entry k a.0 None) e a.2 in
    let r = word-sound (codes "none") w v.0 in
    let x = name-sound n a.0 a.1 in
    let z = at_position-sound rt t p c.0 c.1 in
    let s = found_entry-sound k a.0 None c.0 e x.1 tt z.2 c.2 in
    let spelt : (kind_text k ∷ a.0 ∷ codes "none" ∷ codes "at" ∷ decimal c.0 ∷ []) ≡ (kind_text k ∷ n ∷ w ∷ t ∷ p ∷ []) = cc (r, x.0, z.0, z.1) in
    (s.0 ∙ spelt, s.1, s.2)
found-sound rt k (n ∷ u ∷ l ∷ t ∷ p ∷ []) e h =
    let a = after-some (name n) (λ n. after (object_id u l) (λ o. after (form.at_position t p) (form.found_entry k n (Some o)))) e h in
    let b = after-some (object_id u l) (λ o. after (form.at_position t p) (form.found_entry k a.0 (Some o))) e a.2 in
    let c = after-some (form.at_position t p) (form.found_entry k a.0 (Some b.0)) e b.2 in
    let x = name-sound n a.0 a.1 in
    let y = id-sound rt u l b.0 b.1 in
    let z = at_position-sound rt t p c.0 c.1 in
    let s = found_entry-sound k a.0 (Some b.0) c.0 e x.1 y.2 z.2 c.2 in
    let spelt : (kind_text k ∷ a.0 ∷ decimal b.0.unit ∷ decimal b.0.life ∷ codes "at" ∷ decimal c.0 ∷ []) ≡ (kind_text k ∷ n ∷ u ∷ l ∷ t ∷ p ∷ []) = cc (x.0, y.0, y.1, z.0, z.1) in
    (s.0 ∙ spelt, s.1, s.2)
found-sound rt k ws e h = absurd (cc)

-- ---- the end of a period

cut : (xs : text.Words) (i : ℕ) (y : List ℕ) → i < length xs → get_or xs i [] ≡ y → xs ≡ take i xs ++ y ∷ drop (i + 1) xs
cut [] i y lt at = absurd (omega arith)
cut (x ∷ xs) zero y lt at = ap (λ v. v ∷ xs) at
cut (x ∷ xs) (suc i) y lt at = rw add-one (ap (λ v. x ∷ v) (cut xs i y (omega arith) at ∙ rw add-one refl))

looked_at-sound : NumbersRoundTrip → (ws : text.Words) (r : List ℕ × List ℕ) → form.looked_at ws ≡ Some r → (ws ≡ text.numbers r.0 ++ codes "later" ∷ text.numbers r.1) × FewFit 16 r.0 × FewFit 16 r.1
looked_at-sound rt ws r h =
    let a = after-some (position (λ w. word_is (codes "later") w) ws) (form.words_at ws) r h in
    let b = after-some (few 16 (take a.0 ws)) (λ first. after (few 16 (drop (a.0 + 1) ws)) (λ later. Some (first, later))) r a.2 in
    let c = after-some (few 16 (drop (a.0 + 1) ws)) (λ later. Some (b.0, later)) r b.2 in
    let at = position-Some (λ w. word_is (codes "later") w) ws a.0 [] a.1 in
    let x = few-sound rt 16 (take a.0 ws) b.0 b.1 in
    let y = few-sound rt 16 (drop (a.0 + 1) ws) c.0 c.1 in
    let whole = cut ws a.0 (codes "later") at.0 (word-sound (codes "later") (get_or ws a.0 []) at.1) in
    subst (λ r. (ws ≡ text.numbers r.0 ++ codes "later" ∷ text.numbers r.1) × FewFit 16 r.0 × FewFit 16 r.1) (same c.2)
    (whole ∙ ap (λ v. v ++ codes "later" ∷ drop (a.0 + 1) ws) x.0 ∙ ap (λ v. text.numbers b.0 ++ codes "later" ∷ v) y.0, x.1, y.1)

finished-sound : NumbersRoundTrip → (ws : text.Words) (e : Entry) → form.finished ws ≡ Some e → Said kind.Finish ws e
finished-sound rt (d ∷ n ∷ f ∷ ws) e h =
    let v = only_if-some (word_is (codes "first") f) (after (domain d) (λ d. after (number (2 ^ 32) n) (λ n. after (form.looked_at ws) (λ ws. Some (entry.Finish (record { domain = d; number = n; first = ws.0; later = ws.1 })))))) e h in
    let a = after-some (domain d) (λ d. after (number (2 ^ 32) n) (λ n. after (form.looked_at ws) (λ ws. Some (entry.Finish (record { domain = d; number = n; first = ws.0; later = ws.1 }))))) e v.1 in
    let b = after-some (number (2 ^ 32) n) (λ n. after (form.looked_at ws) (λ ws. Some (entry.Finish (record { domain = a.0; number = n; first = ws.0; later = ws.1 })))) e a.2 in
    let c = after-some (form.looked_at ws) (λ ws. Some (entry.Finish (record { domain = a.0; number = b.0; first = ws.0; later = ws.1 }))) e b.2 in
    let r = word-sound (codes "first") f v.0 in
    let x = domain-sound d a.0 a.1 in
    let y = number-sound rt (2 ^ 32) n b.0 b.1 in
    let z = looked_at-sound rt ws c.0 c.1 in
    let spelt : (codes "finish" ∷ text.domain a.0 ∷ decimal b.0 ∷ codes "first" ∷ (text.numbers c.0.0 ++ codes "later" ∷ text.numbers c.0.1)) ≡ (codes "finish" ∷ d ∷ n ∷ f ∷ ws) = cc (r, x, y.0, z.0) in
    subst (Said kind.Finish (d ∷ n ∷ f ∷ ws)) (same c.2) (spelt, (y.1, z.1, z.2), refl)
finished-sound rt ws e h = absurd (cc)

-- ---- classes

of_class_entry-sound : (k : Kind) (c : ℕ) (e : Entry) → c ≤ 10 → form.of_class_entry k c ≡ Some e → Said k (text.size c ∷ []) e
of_class_entry-sound kind.Work c e hc h = subst (Said kind.Work (text.size c ∷ [])) (same h) (refl, hc, refl)
of_class_entry-sound kind.Raise c e hc h = subst (Said kind.Raise (text.size c ∷ [])) (same h) (refl, hc, refl)
of_class_entry-sound kind.Lost c e hc h = subst (Said kind.Lost (text.size c ∷ [])) (same h) (refl, hc, refl)
of_class_entry-sound kind.LostDelayed c e hc h = subst (Said kind.LostDelayed (text.size c ∷ [])) (same h) (refl, hc, refl)
of_class_entry-sound k c e hc h = absurd (cc)

of_class-sound : NumbersRoundTrip → (k : Kind) (ws : text.Words) (e : Entry) → form.of_class k ws ≡ Some e → Said k ws e
of_class-sound rt k (c ∷ []) e h =
    let a = after-some (class c) (form.of_class_entry k) e h in
    let x = class-sound rt c a.0 a.1 in
    let s = of_class_entry-sound k a.0 e x.1 a.2 in
    (s.0 ∙ ap (λ w. kind_text k ∷ w ∷ []) (sym x.0), s.1, s.2)
of_class-sound rt k ws e h = absurd (cc)

class_number_entry-sound : (k : Kind) (c : ℕ) (n : ℕ) (e : Entry) → c ≤ 10 → n < 2 ^ 32 → form.class_number_entry k c n ≡ Some e → Said k (text.size c ∷ decimal n ∷ []) e
class_number_entry-sound kind.Enter c n e hc hn h = subst (Said kind.Enter (text.size c ∷ decimal n ∷ [])) (same h) (refl, (hc, hn), refl)
class_number_entry-sound kind.Count c n e hc hn h = subst (Said kind.Count (text.size c ∷ decimal n ∷ [])) (same h) (refl, (hc, hn), refl)
class_number_entry-sound kind.Leave c n e hc hn h = subst (Said kind.Leave (text.size c ∷ decimal n ∷ [])) (same h) (refl, (hc, hn), refl)
class_number_entry-sound kind.Look c n e hc hn h = subst (Said kind.Look (text.size c ∷ decimal n ∷ [])) (same h) (refl, (hc, hn), refl)
class_number_entry-sound kind.LookDelayed c n e hc hn h = subst (Said kind.LookDelayed (text.size c ∷ decimal n ∷ [])) (same h) (refl, (hc, hn), refl)
class_number_entry-sound kind.Read c n e hc hn h = subst (Said kind.Read (text.size c ∷ decimal n ∷ [])) (same h) (refl, (hc, hn), refl)
class_number_entry-sound k c n e hc hn h = absurd (cc)

class_number-sound : NumbersRoundTrip → (k : Kind) (ws : text.Words) (e : Entry) → form.class_number k ws ≡ Some e → Said k ws e
class_number-sound rt k (c ∷ n ∷ []) e h =
    let a = after-some (class c) (λ c. after (number (2 ^ 32) n) (form.class_number_entry k c)) e h in
    let b = after-some (number (2 ^ 32) n) (form.class_number_entry k a.0) e a.2 in
    let x = class-sound rt c a.0 a.1 in
    let y = number-sound rt (2 ^ 32) n b.0 b.1 in
    let s = class_number_entry-sound k a.0 b.0 e x.1 y.1 b.2 in
    (s.0 ∙ two (kind_text k) c n (text.size a.0) (decimal b.0) x.0 y.0, s.1, s.2)
class_number-sound rt k ws e h = absurd (cc)

class_unit_entry-sound : (k : Kind) (c : ℕ) (n : ℕ) (e : Entry) → c ≤ 10 → n < 2 ^ 16 → form.class_unit_entry k c n ≡ Some e → Said k (text.size c ∷ decimal n ∷ []) e
class_unit_entry-sound kind.Push c n e hc hn h = subst (Said kind.Push (text.size c ∷ decimal n ∷ [])) (same h) (refl, (hc, hn), refl)
class_unit_entry-sound kind.Delayed c n e hc hn h = subst (Said kind.Delayed (text.size c ∷ decimal n ∷ [])) (same h) (refl, (hc, hn), refl)
class_unit_entry-sound kind.Put c n e hc hn h = subst (Said kind.Put (text.size c ∷ decimal n ∷ [])) (same h) (refl, (hc, hn), refl)
class_unit_entry-sound kind.PutDelayed c n e hc hn h = subst (Said kind.PutDelayed (text.size c ∷ decimal n ∷ [])) (same h) (refl, (hc, hn), refl)
class_unit_entry-sound kind.Ready c n e hc hn h = subst (Said kind.Ready (text.size c ∷ decimal n ∷ [])) (same h) (refl, (hc, hn), refl)
class_unit_entry-sound kind.Second c n e hc hn h = subst (Said kind.Second (text.size c ∷ decimal n ∷ [])) (same h) (refl, (hc, hn), refl)
class_unit_entry-sound kind.Pop c n e hc hn h = subst (Said kind.Pop (text.size c ∷ decimal n ∷ [])) (same h) (refl, (hc, hn), refl)
class_unit_entry-sound k c n e hc hn h = absurd (cc)

class_unit-sound : NumbersRoundTrip → (k : Kind) (ws : text.Words) (e : Entry) → form.class_unit k ws ≡ Some e → Said k ws e
class_unit-sound rt k (c ∷ n ∷ []) e h =
    let a = after-some (class c) (λ c. after (number (2 ^ 16) n) (form.class_unit_entry k c)) e h in
    let b = after-some (number (2 ^ 16) n) (form.class_unit_entry k a.0) e a.2 in
    let x = class-sound rt c a.0 a.1 in
    let y = number-sound rt (2 ^ 16) n b.0 b.1 in
    let s = class_unit_entry-sound k a.0 b.0 e x.1 y.1 b.2 in
    (s.0 ∙ two (kind_text k) c n (text.size a.0) (decimal b.0) x.0 y.0, s.1, s.2)
class_unit-sound rt k ws e h = absurd (cc)

popped-sound : NumbersRoundTrip → (ws : text.Words) (e : Entry) → form.popped ws ≡ Some e → Said kind.Pop ws e
popped-sound rt (c ∷ u ∷ []) e h =
    let case : (b : Bool) → word_is (codes "none") u ≡ b → cond b (after (class c) (λ c. Some (entry.PopNone c))) (form.class_unit kind.Pop (c ∷ u ∷ [])) ≡ Some e → Said kind.Pop (c ∷ u ∷ []) e = λ b.
    elim b as (λ b. word_is (codes "none") u ≡ b → cond b (after (class c) (λ c. Some (entry.PopNone c))) (form.class_unit kind.Pop (c ∷ u ∷ [])) ≡ Some e → Said kind.Pop (c ∷ u ∷ []) e) [
      | true ↦ λ v h.
          (let a = after-some (class c) (λ c. Some (entry.PopNone c)) e h in
          let x = class-sound rt c a.0 a.1 in
          subst (Said kind.Pop (c ∷ u ∷ [])) (same a.2) (two (codes "pop") c u (text.size a.0) (codes "none") x.0 (word-sound (codes "none") u v), x.1, refl))
      | false ↦ λ v h. class_unit-sound rt kind.Pop (c ∷ u ∷ []) e h
    ]
    in case (word_is (codes "none") u) refl h
popped-sound rt ws e h = absurd (cc)

class_units_entry-sound : (k : Kind) (c : ℕ) (us : List ℕ) (e : Entry) → c ≤ 10 → Each (λ u. u < 2 ^ 16) us → form.class_units_entry k c us ≡ Some e → Said k (text.size c ∷ text.numbers us) e
class_units_entry-sound kind.Fill c us e hc hu h = subst (Said kind.Fill (text.size c ∷ text.numbers us)) (same h) (refl, (hc, hu), refl)
class_units_entry-sound kind.Receive c us e hc hu h = subst (Said kind.Receive (text.size c ∷ text.numbers us)) (same h) (refl, (hc, hu), refl)
class_units_entry-sound kind.TakeExtra c us e hc hu h = subst (Said kind.TakeExtra (text.size c ∷ text.numbers us)) (same h) (refl, (hc, hu), refl)
class_units_entry-sound kind.TakeDelayed c us e hc hu h = subst (Said kind.TakeDelayed (text.size c ∷ text.numbers us)) (same h) (refl, (hc, hu), refl)
class_units_entry-sound kind.Batch c us e hc hu h = subst (Said kind.Batch (text.size c ∷ text.numbers us)) (same h) (refl, (hc, hu), refl)
class_units_entry-sound kind.BeginSecond c us e hc hu h = subst (Said kind.BeginSecond (text.size c ∷ text.numbers us)) (same h) (refl, (hc, hu), refl)
class_units_entry-sound kind.Return c us e hc hu h = subst (Said kind.Return (text.size c ∷ text.numbers us)) (same h) (refl, (hc, hu), refl)
class_units_entry-sound kind.Sweep c us e hc hu h = subst (Said kind.Sweep (text.size c ∷ text.numbers us)) (same h) (refl, (hc, hu), refl)
class_units_entry-sound k c us e hc hu h = absurd (cc)

class_units-sound : NumbersRoundTrip → (k : Kind) (ws : text.Words) (e : Entry) → form.class_units k ws ≡ Some e → Said k ws e
class_units-sound rt k [] e h = absurd (cc)
class_units-sound rt k (c ∷ us) e h =
    let a = after-some (class c) (λ c. after (numbers (2 ^ 16) us) (form.class_units_entry k c)) e h in
    let b = after-some (numbers (2 ^ 16) us) (form.class_units_entry k a.0) e a.2 in
    let x = class-sound rt c a.0 a.1 in
    let y = numbers-sound rt (2 ^ 16) us b.0 b.1 in
    let s = class_units_entry-sound k a.0 b.0 e x.1 y.1 b.2 in
    let spelt : (kind_text k ∷ text.size a.0 ∷ text.numbers b.0) ≡ (kind_text k ∷ c ∷ us) = cc (x.0, y.0) in
    (s.0 ∙ spelt, s.1, s.2)

fetched-sound : NumbersRoundTrip → (ws : text.Words) (e : Entry) → form.fetched ws ≡ Some e → Said kind.Fetch ws e
fetched-sound rt (c ∷ n ∷ us) e h =
    let a = after-some (class c) (λ c. after (number (2 ^ 32) n) (λ n. after (numbers (2 ^ 16) us) (λ us. Some (entry.Fetch c n (Whole us))))) e h in
    let d = after-some (number (2 ^ 32) n) (λ n. after (numbers (2 ^ 16) us) (λ us. Some (entry.Fetch a.0 n (Whole us)))) e a.2 in
    let b = after-some (numbers (2 ^ 16) us) (λ us. Some (entry.Fetch a.0 d.0 (Whole us))) e d.2 in
    let x = class-sound rt c a.0 a.1 in
    let z = number-sound rt (2 ^ 32) n d.0 d.1 in
    let y = numbers-sound rt (2 ^ 16) us b.0 b.1 in
    let spelt : (codes "fetch" ∷ text.size a.0 ∷ decimal d.0 ∷ text.numbers b.0) ≡ (codes "fetch" ∷ c ∷ n ∷ us) = cc (x.0, y.0, z.0) in
    subst (Said kind.Fetch (c ∷ n ∷ us)) (same b.2) (spelt, (x.1, z.1, y.1), refl)
fetched-sound rt ws e h = absurd (cc)

sent-sound : NumbersRoundTrip → (ws : text.Words) (e : Entry) → form.sent ws ≡ Some e → Said kind.Send ws e
sent-sound rt (c ∷ n ∷ us) e h =
    let a = after-some (class c) (λ c. after (number (2 ^ 8) n) (λ n. after (numbers (2 ^ 16) us) (λ us. Some (entry.Send c n (Whole us))))) e h in
    let d = after-some (number (2 ^ 8) n) (λ n. after (numbers (2 ^ 16) us) (λ us. Some (entry.Send a.0 n (Whole us)))) e a.2 in
    let b = after-some (numbers (2 ^ 16) us) (λ us. Some (entry.Send a.0 d.0 (Whole us))) e d.2 in
    let x = class-sound rt c a.0 a.1 in
    let z = number-sound rt (2 ^ 8) n d.0 d.1 in
    let y = numbers-sound rt (2 ^ 16) us b.0 b.1 in
    let spelt : (codes "send" ∷ text.size a.0 ∷ decimal d.0 ∷ text.numbers b.0) ≡ (codes "send" ∷ c ∷ n ∷ us) = cc (x.0, y.0, z.0) in
    subst (Said kind.Send (c ∷ n ∷ us)) (same b.2) (spelt, (x.1, z.1, y.1), refl)
sent-sound rt ws e h = absurd (cc)

class_domain_entry-sound : (k : Kind) (c : ℕ) (d : Domain) (n : ℕ) (e : Entry) → c ≤ 10 → n < 2 ^ 32 → form.class_domain_entry k c d n ≡ Some e → Said k (text.size c ∷ text.domain d ∷ decimal n ∷ []) e
class_domain_entry-sound kind.Stamp c d n e hc hn h = subst (Said kind.Stamp (text.size c ∷ text.domain d ∷ decimal n ∷ [])) (same h) (refl, (hc, hn), refl)
class_domain_entry-sound kind.Pass c d n e hc hn h = subst (Said kind.Pass (text.size c ∷ text.domain d ∷ decimal n ∷ [])) (same h) (refl, (hc, hn), refl)
class_domain_entry-sound k c d n e hc hn h = absurd (cc)

class_domain-sound : NumbersRoundTrip → (k : Kind) (ws : text.Words) (e : Entry) → form.class_domain k ws ≡ Some e → Said k ws e
class_domain-sound rt k (c ∷ d ∷ n ∷ []) e h =
    let a = after-some (class c) (λ c. after (domain d) (λ d. after (number (2 ^ 32) n) (form.class_domain_entry k c d))) e h in
    let b = after-some (domain d) (λ d. after (number (2 ^ 32) n) (form.class_domain_entry k a.0 d)) e a.2 in
    let f = after-some (number (2 ^ 32) n) (form.class_domain_entry k a.0 b.0) e b.2 in
    let x = class-sound rt c a.0 a.1 in
    let y = domain-sound d b.0 b.1 in
    let z = number-sound rt (2 ^ 32) n f.0 f.1 in
    let s = class_domain_entry-sound k a.0 b.0 f.0 e x.1 z.1 f.2 in
    (s.0 ∙ three (kind_text k) c d n (text.size a.0) (text.domain b.0) (decimal f.0) x.0 y z.0, s.1, s.2)
class_domain-sound rt k ws e h = absurd (cc)

-- ---- the whole

entry_as-sound : NumbersRoundTrip → (k : Kind) (ws : text.Words) (e : Entry) → form.entry_as k ws ≡ Some e → Said k ws e
entry_as-sound rt kind.Fill ws e h = class_units-sound rt kind.Fill ws e h
entry_as-sound rt kind.Script ws e h = named-sound kind.Script ws e h
entry_as-sound rt kind.Done ws e h = named-sound kind.Done ws e h
entry_as-sound rt kind.Handler ws e h = named-sound kind.Handler ws e h
entry_as-sound rt kind.Back ws e h = named-sound kind.Back ws e h
entry_as-sound rt kind.In ws e h = of_domain-sound rt kind.In ws e h
entry_as-sound rt kind.Out ws e h = of_domain-sound rt kind.Out ws e h
entry_as-sound rt kind.Yield ws e h = bare-sound kind.Yield ws e h
entry_as-sound rt kind.Ended ws e h = bare-sound kind.Ended ws e h
entry_as-sound rt kind.Close ws e h = bare-sound kind.Close ws e h
entry_as-sound rt kind.New ws e h = new-sound rt ws e h
entry_as-sound rt kind.Given ws e h = given-sound rt ws e h
entry_as-sound rt kind.Empty ws e h = bare-sound kind.Empty ws e h
entry_as-sound rt kind.Busy ws e h = one-sound rt kind.Busy ws e h
entry_as-sound rt kind.Drop ws e h = dropped-sound rt ws e h
entry_as-sound rt kind.Still ws e h = one-sound rt kind.Still ws e h
entry_as-sound rt kind.Last ws e h = bare-sound kind.Last ws e h
entry_as-sound rt kind.Free ws e h = freed-sound rt kind.Free ws e h
entry_as-sound rt kind.Delay ws e h = freed-sound rt kind.Delay ws e h
entry_as-sound rt kind.Acquire ws e h = acquired-sound rt ws e h
entry_as-sound rt kind.Get ws e h = got-sound rt ws e h
entry_as-sound rt kind.Xchg ws e h = exchanged-sound rt ws e h
entry_as-sound rt kind.Lock ws e h = named-sound kind.Lock ws e h
entry_as-sound rt kind.Unlock ws e h = named-sound kind.Unlock ws e h
entry_as-sound rt kind.PushFront ws e h = pushed-sound rt kind.PushFront ws e h
entry_as-sound rt kind.PushBack ws e h = pushed-sound rt kind.PushBack ws e h
entry_as-sound rt kind.Add ws e h = pushed-sound rt kind.Add ws e h
entry_as-sound rt kind.PopFront ws e h = found-sound rt kind.PopFront ws e h
entry_as-sound rt kind.PopBack ws e h = found-sound rt kind.PopBack ws e h
entry_as-sound rt kind.First ws e h = found-sound rt kind.First ws e h
entry_as-sound rt kind.Remove ws e h = pushed-sound rt kind.Remove ws e h
entry_as-sound rt kind.Work ws e h = of_class-sound rt kind.Work ws e h
entry_as-sound rt kind.Begin ws e h = of_domain-sound rt kind.Begin ws e h
entry_as-sound rt kind.Finish ws e h = finished-sound rt ws e h
entry_as-sound rt kind.Enter ws e h = class_number-sound rt kind.Enter ws e h
entry_as-sound rt kind.Pop ws e h = popped-sound rt ws e h
entry_as-sound rt kind.Count ws e h = class_number-sound rt kind.Count ws e h
entry_as-sound rt kind.Leave ws e h = class_number-sound rt kind.Leave ws e h
entry_as-sound rt kind.Raise ws e h = of_class-sound rt kind.Raise ws e h
entry_as-sound rt kind.Push ws e h = class_unit-sound rt kind.Push ws e h
entry_as-sound rt kind.Delayed ws e h = class_unit-sound rt kind.Delayed ws e h
entry_as-sound rt kind.Look ws e h = class_number-sound rt kind.Look ws e h
entry_as-sound rt kind.Put ws e h = class_unit-sound rt kind.Put ws e h
entry_as-sound rt kind.Lost ws e h = of_class-sound rt kind.Lost ws e h
entry_as-sound rt kind.LookDelayed ws e h = class_number-sound rt kind.LookDelayed ws e h
entry_as-sound rt kind.PutDelayed ws e h = class_unit-sound rt kind.PutDelayed ws e h
entry_as-sound rt kind.LostDelayed ws e h = of_class-sound rt kind.LostDelayed ws e h
entry_as-sound rt kind.Receive ws e h = class_units-sound rt kind.Receive ws e h
entry_as-sound rt kind.Read ws e h = class_number-sound rt kind.Read ws e h
entry_as-sound rt kind.Ready ws e h = class_unit-sound rt kind.Ready ws e h
entry_as-sound rt kind.Second ws e h = class_unit-sound rt kind.Second ws e h
entry_as-sound rt kind.Fetch ws e h = fetched-sound rt ws e h
entry_as-sound rt kind.TakeExtra ws e h = class_units-sound rt kind.TakeExtra ws e h
entry_as-sound rt kind.Send ws e h = sent-sound rt ws e h
entry_as-sound rt kind.TakeDelayed ws e h = class_units-sound rt kind.TakeDelayed ws e h
entry_as-sound rt kind.Batch ws e h = class_units-sound rt kind.Batch ws e h
entry_as-sound rt kind.Stamp ws e h = class_domain-sound rt kind.Stamp ws e h
entry_as-sound rt kind.Pass ws e h = class_domain-sound rt kind.Pass ws e h
entry_as-sound rt kind.BeginSecond ws e h = class_units-sound rt kind.BeginSecond ws e h
entry_as-sound rt kind.Return ws e h = class_units-sound rt kind.Return ws e h
entry_as-sound rt kind.Sweep ws e h = class_units-sound rt kind.Sweep ws e h

pub entry-sound : NumbersRoundTrip → (ws : text.Words) (e : Entry) → form.entry_of ws ≡ Some e → (text.words_of e ≡ ws) × EntryFits e × IsTrue (is_whole_entry e)
entry-sound rt [] e h = absurd (cc)
entry-sound rt (w ∷ ws) e h =
    let a = after-some (kind_of w) (λ k. form.entry_as k ws) e h in
    let s = entry_as-sound rt a.0 ws e a.2 in
    (s.0 ∙ ap (λ v. v ∷ ws) (sym (spelled w a.0 a.1)), s.1, s.2)
