-- A line that is read has the words that it is read from, and fits.
use Rattle.std.proofs.Common.{◌≡◌, ℕ, zero, suc, ◌<◌, ◌≤◌, ◌^◌, Bool, true, false, cond, List, [], ◌∷◌, Option, Some, None, length, get_or, refl, sym, ◌∙◌, ap, arith, decimal, subst}
use Rattle.std.proofs.lemmas.Bool.{ltb-true, lt-ltb}
use Rattle.std.proofs.lemmas.List.Quantifiers.{position-Some}
use Rattle.std.proofs.lemmas.Slice.Eq.{bytes_eq-Decides}
use Rattle.std.specs.Prelude.{codes, IsTrue, position, nat_lt, slice_get, find}
use Rattle.std.specs.Str.{bytes_eq}
use Rattle.bm_word.specs.Number.{NumbersRoundTrip}
use Rattle.bm_journal.specs.declared.ids.ObjId.{ObjId}
use Rattle.bm_journal.specs.declared.past.PastCall.{PastCall}
use Rattle.bm_journal.specs.declared.past.PastCall.TheVariants as past
use Rattle.bm_journal.specs.EntryText as text
use Rattle.bm_journal.specs.JournalText.{owner, owner_words, past_words}
use Rattle.bm_journal.specs.TotalNames.{all_totals, total_name}
use Rattle.bm_journal.specs.WellFormed.{all_differ, owner_below}
use Rattle.bm_law_text.specs.declared.kind.Kind.{Kind}
use Rattle.bm_law_text.specs.declared.kind.Kind.TheVariants as kind
use Rattle.bm_law_text.specs.declared.line.Line.{Line}
use Rattle.bm_law_text.specs.declared.line.Line.TheVariants as line_as
use Rattle.bm_law_text.specs.Kinds.{kind_of, kind_text}
use Rattle.bm_law_text.specs.Parts.{after, only_if, word_is, number, name, names, class, object_id, tag}
use Rattle.bm_law_text.specs.Entries.{entry_of}
use Rattle.bm_law_text.specs.Reading as read
use Rattle.bm_law_text.specs.Lines.{line_head, line_tail}
use Rattle.bm_law_text.specs.Fits.{IdFits, PastCallFits, LineFits}
use Rattle.bm_law_text.proofs.Options.{after-some, only_if-some}
use Rattle.bm_law_text.proofs.PartsSound.{same, word-sound, number-sound, name-sound, names-sound, class-sound, id-sound, tag-sound}
use Rattle.bm_law_text.proofs.EntriesSound.{entry-sound}
use Rattle.bm_law_text.proofs.Spelled.{spelled}

-- a line has these words, and fits
abbrev pub LineSaid : List (List ℕ) → List ℕ → text.Words → Line → Type 0
LineSaid maps w ws l = ((line_head l ∷ line_tail maps l) ≡ w ∷ ws) × LineFits maps l

-- ---- the heading and the totals

size-sound : NumbersRoundTrip → (maps : List (List ℕ)) (ws : text.Words) (l : Line) → read.size_words ws ≡ Some l → LineSaid maps (codes "processors") ws l
size-sound rt maps (p ∷ w ∷ g ∷ []) l h =
    let v = only_if-some (word_is (codes "pages") w) (after (number (2 ^ 8) p) (λ p. after (number (2 ^ 16) g) (λ g. Some (line_as.Size p g)))) l h in
    let a = after-some (number (2 ^ 8) p) (λ p. after (number (2 ^ 16) g) (λ g. Some (line_as.Size p g))) l v.1 in
    let b = after-some (number (2 ^ 16) g) (λ g. Some (line_as.Size a.0 g)) l a.2 in
    let r = word-sound (codes "pages") w v.0 in
    let x = number-sound rt (2 ^ 8) p a.0 a.1 in
    let y = number-sound rt (2 ^ 16) g b.0 b.1 in
    subst (LineSaid maps (codes "processors") (p ∷ w ∷ g ∷ [])) (same b.2) (cc (r, x.0, y.0), (x.1, y.1))
size-sound rt maps ws l h = absurd (cc)

class-line-sound : NumbersRoundTrip → (maps : List (List ℕ)) (ws : text.Words) (l : Line) → read.class_words ws ≡ Some l → LineSaid maps (codes "class") ws l
class-line-sound rt maps (c ∷ w ∷ p ∷ q ∷ b ∷ []) l h =
    let v = only_if-some (word_is (codes "marks") w) (after (class c) (λ c. after (number (2 ^ 32) p) (λ p. after (number (2 ^ 32) q) (λ q. after (number (2 ^ 32) b) (λ b. Some (line_as.Class c (record { low = p; high = q; batch = b }))))))) l h in
    let a = after-some (class c) (λ c. after (number (2 ^ 32) p) (λ p. after (number (2 ^ 32) q) (λ q. after (number (2 ^ 32) b) (λ b. Some (line_as.Class c (record { low = p; high = q; batch = b })))))) l v.1 in
    let d = after-some (number (2 ^ 32) p) (λ p. after (number (2 ^ 32) q) (λ q. after (number (2 ^ 32) b) (λ b. Some (line_as.Class a.0 (record { low = p; high = q; batch = b }))))) l a.2 in
    let f = after-some (number (2 ^ 32) q) (λ q. after (number (2 ^ 32) b) (λ b. Some (line_as.Class a.0 (record { low = d.0; high = q; batch = b })))) l d.2 in
    let g = after-some (number (2 ^ 32) b) (λ b. Some (line_as.Class a.0 (record { low = d.0; high = f.0; batch = b }))) l f.2 in
    let r = word-sound (codes "marks") w v.0 in
    let x = class-sound rt c a.0 a.1 in
    let y = number-sound rt (2 ^ 32) p d.0 d.1 in
    let z = number-sound rt (2 ^ 32) q f.0 f.1 in
    let u = number-sound rt (2 ^ 32) b g.0 g.1 in
    subst (LineSaid maps (codes "class") (c ∷ w ∷ p ∷ q ∷ b ∷ [])) (same g.2) (cc (r, x.0, y.0, z.0, u.0), (x.1, (y.1, z.1, u.1)))
class-line-sound rt maps ws l h = absurd (cc)

processor-sound : NumbersRoundTrip → (maps : List (List ℕ)) (ws : text.Words) (l : Line) → read.processor_words ws ≡ Some l → LineSaid maps (codes "processor") ws l
processor-sound rt maps (p ∷ []) l h =
    let a = after-some (number (2 ^ 64) p) (λ p. Some (line_as.Processor p)) l h in
    let x = number-sound rt (2 ^ 64) p a.0 a.1 in
    subst (LineSaid maps (codes "processor") (p ∷ [])) (same a.2) (cc (x.0), x.1)
processor-sound rt maps ws l h = absurd (cc)

graph-sound : (maps : List (List ℕ)) (ws : text.Words) (l : Line) → read.graph_words ws ≡ Some l → LineSaid maps (codes "graph") ws l
graph-sound maps (n ∷ []) l h =
    let a = after-some (name n) (λ n. Some (line_as.Graph n)) l h in
    let x = name-sound n a.0 a.1 in
    subst (LineSaid maps (codes "graph") (n ∷ [])) (same a.2) (cc (x.0), x.1)
graph-sound maps ws l h = absurd (cc)

find-passes : {A : Type 0} (p : A → Bool) (xs : List A) (x : A) → find p xs ≡ Some x → p x ≡ true
find-passes p [] x h = absurd (cc)
find-passes p (y ∷ xs) x h =
    let case : (b : Bool) → p y ≡ b → cond b (Some y) (find p xs) ≡ Some x → p x ≡ true = λ b.
    elim b as (λ b. p y ≡ b → cond b (Some y) (find p xs) ≡ Some x → p x ≡ true)
    [ true ↦ λ e h. subst (λ z. p z ≡ true) (same h) e | false ↦ λ e h. find-passes p xs x h ]
    in case (p y) refl h

total-sound : NumbersRoundTrip → (maps : List (List ℕ)) (ws : text.Words) (l : Line) → read.total_words ws ≡ Some l → LineSaid maps (codes "total") ws l
total-sound rt maps (n ∷ v ∷ []) l h =
    let a = after-some (find (λ t. bytes_eq (total_name t) n) all_totals) (λ t. after (number (2 ^ 64) v) (λ v. Some (line_as.Total t v))) l h in
    let b = after-some (number (2 ^ 64) v) (λ v. Some (line_as.Total a.0 v)) l a.2 in
    let x : total_name a.0 ≡ n = (bytes_eq-Decides (total_name a.0) n).0 (find-passes (λ t. bytes_eq (total_name t) n) all_totals a.0 a.1) in
    let y = number-sound rt (2 ^ 64) v b.0 b.1 in
    subst (LineSaid maps (codes "total") (n ∷ v ∷ [])) (same b.2) (cc (x, y.0), y.1)
total-sound rt maps ws l h = absurd (cc)

-- ---- histories

got-at : (maps : List (List ℕ)) (i : ℕ) (w : List ℕ) → i < length maps → get_or maps i [] ≡ w → slice_get maps i ≡ Some w
got-at [] i w lt at = absurd (omega arith)
got-at (m ∷ maps) zero w lt at = ap Some at
got-at (m ∷ maps) (suc i) w lt at = got-at maps i w (omega arith) at

owner-sound : (maps : List (List ℕ)) (w : List ℕ) (place : ℕ) → read.owner_place maps w ≡ Some place → (owner maps place ≡ w ∷ []) × (place < 2 ^ 8) × IsTrue (nat_lt place (length maps))
unfolding read.owner_place
owner-sound maps w place h =
    let a = after-some (position (λ m. bytes_eq w m) maps) (λ place. only_if (nat_lt place (2 ^ 8)) (Some place)) place h in
    let b = only_if-some (nat_lt a.0 (2 ^ 8)) (Some a.0) place a.2 in
    let at = position-Some (λ m. bytes_eq w m) maps a.0 [] a.1 in
    let here = got-at maps a.0 w at.0 (sym ((bytes_eq-Decides w (get_or maps a.0 [])).0 at.1)) in
    subst (λ place. (owner maps place ≡ w ∷ []) × (place < 2 ^ 8) × IsTrue (nat_lt place (length maps))) (same b.1) (ap owner_words here, ltb-true a.0 (2 ^ 8) b.0, lt-ltb a.0 (length maps) at.0)

-- a call has these words behind the kind's, and fits
abbrev PastSaid : List (List ℕ) → Kind → text.Words → PastCall → Type 0
PastSaid maps k ws c = (past_words maps c ≡ kind_text k ∷ ws) × PastCallFits c × IsTrue (owner_below (length maps) c)

past_pushed_call-sound : (maps : List (List ℕ)) (k : Kind) (o : ObjId) (c : PastCall) → IdFits o → read.past_pushed_call k o ≡ Some c → PastSaid maps k (decimal o.unit ∷ decimal o.life ∷ []) c
past_pushed_call-sound maps kind.PushFront o c ho h = subst (PastSaid maps kind.PushFront (decimal o.unit ∷ decimal o.life ∷ [])) (same h) (refl, ho, refl)
past_pushed_call-sound maps kind.PushBack o c ho h = subst (PastSaid maps kind.PushBack (decimal o.unit ∷ decimal o.life ∷ [])) (same h) (refl, ho, refl)
past_pushed_call-sound maps k o c ho h = absurd (cc)

past_refused_call-sound : (maps : List (List ℕ)) (k : Kind) (o : ObjId) (place : ℕ) (w : List ℕ) (c : PastCall) → IdFits o → owner maps place ≡ w ∷ [] → place < 2 ^ 8 → IsTrue (nat_lt place (length maps)) → read.past_refused_call k o place ≡ Some c → PastSaid maps k (decimal o.unit ∷ decimal o.life ∷ codes "already" ∷ w ∷ []) c
past_refused_call-sound maps kind.PushFront o place w c ho hw hp hl h = subst (PastSaid maps kind.PushFront (decimal o.unit ∷ decimal o.life ∷ codes "already" ∷ w ∷ [])) (same h) (ap (λ v. kind_text kind.PushFront ∷ decimal o.unit ∷ decimal o.life ∷ codes "already" ∷ v) hw, (ho, hp), hl)
past_refused_call-sound maps kind.PushBack o place w c ho hw hp hl h = subst (PastSaid maps kind.PushBack (decimal o.unit ∷ decimal o.life ∷ codes "already" ∷ w ∷ [])) (same h) (ap (λ v. kind_text kind.PushBack ∷ decimal o.unit ∷ decimal o.life ∷ codes "already" ∷ v) hw, (ho, hp), hl)
past_refused_call-sound maps k o place w c ho hw hp hl h = absurd (cc)

past_found_call-sound : (maps : List (List ℕ)) (k : Kind) (o : ObjId) (c : PastCall) → IdFits o → read.past_found_call k o ≡ Some c → PastSaid maps k (decimal o.unit ∷ decimal o.life ∷ []) c
past_found_call-sound maps kind.PopFront o c ho h = subst (PastSaid maps kind.PopFront (decimal o.unit ∷ decimal o.life ∷ [])) (same h) (refl, ho, refl)
past_found_call-sound maps kind.PopBack o c ho h = subst (PastSaid maps kind.PopBack (decimal o.unit ∷ decimal o.life ∷ [])) (same h) (refl, ho, refl)
past_found_call-sound maps kind.First o c ho h = subst (PastSaid maps kind.First (decimal o.unit ∷ decimal o.life ∷ [])) (same h) (refl, ho, refl)
past_found_call-sound maps kind.Remove o c ho h = subst (PastSaid maps kind.Remove (decimal o.unit ∷ decimal o.life ∷ [])) (same h) (refl, ho, refl)
past_found_call-sound maps k o c ho h = absurd (cc)

past_none_call-sound : (maps : List (List ℕ)) (k : Kind) (c : PastCall) → read.past_none_call k ≡ Some c → PastSaid maps k (codes "none" ∷ []) c
past_none_call-sound maps kind.PopFront c h = subst (PastSaid maps kind.PopFront (codes "none" ∷ [])) (same h) (refl, tt, refl)
past_none_call-sound maps kind.PopBack c h = subst (PastSaid maps kind.PopBack (codes "none" ∷ [])) (same h) (refl, tt, refl)
past_none_call-sound maps kind.First c h = subst (PastSaid maps kind.First (codes "none" ∷ [])) (same h) (refl, tt, refl)
past_none_call-sound maps k c h = absurd (cc)

past_pushed-sound : NumbersRoundTrip → (maps : List (List ℕ)) (k : Kind) (ws : text.Words) (c : PastCall) → read.past_pushed maps k ws ≡ Some c → PastSaid maps k ws c
past_pushed-sound rt maps k (u ∷ l ∷ []) c h =
    let a = after-some (object_id u l) (read.past_pushed_call k) c h in
    let x = id-sound rt u l a.0 a.1 in
    let s = past_pushed_call-sound maps k a.0 c x.2 a.2 in
    let spelt : (kind_text k ∷ decimal a.0.unit ∷ decimal a.0.life ∷ []) ≡ (kind_text k ∷ u ∷ l ∷ []) = cc (x.0, x.1) in
    (s.0 ∙ spelt, s.1, s.2)
past_pushed-sound rt maps k (u ∷ l ∷ y ∷ w ∷ []) c h =
    let v = only_if-some (word_is (codes "already") y) (after (object_id u l) (λ o. after (read.owner_place maps w) (read.past_refused_call k o))) c h in
    let a = after-some (object_id u l) (λ o. after (read.owner_place maps w) (read.past_refused_call k o)) c v.1 in
    let b = after-some (read.owner_place maps w) (read.past_refused_call k a.0) c a.2 in
    let r = word-sound (codes "already") y v.0 in
    let x = id-sound rt u l a.0 a.1 in
    let z = owner-sound maps w b.0 b.1 in
    let s = past_refused_call-sound maps k a.0 b.0 w c x.2 z.0 z.1 z.2 b.2 in
    let spelt : (kind_text k ∷ decimal a.0.unit ∷ decimal a.0.life ∷ codes "already" ∷ w ∷ []) ≡ (kind_text k ∷ u ∷ l ∷ y ∷ w ∷ []) = cc (r, x.0, x.1) in
    (s.0 ∙ spelt, s.1, s.2)
past_pushed-sound rt maps k ws c h = absurd (cc)

past_added-sound : NumbersRoundTrip → (maps : List (List ℕ)) (ws : text.Words) (c : PastCall) → read.past_added maps ws ≡ Some c → PastSaid maps kind.Add ws c
past_added-sound rt maps (u ∷ l ∷ key ∷ []) c h =
    let a = after-some (object_id u l) (λ o. after (number (2 ^ 32) key) (λ key. Some (past.Add o key))) c h in
    let b = after-some (number (2 ^ 32) key) (λ key. Some (past.Add a.0 key)) c a.2 in
    let x = id-sound rt u l a.0 a.1 in
    let y = number-sound rt (2 ^ 32) key b.0 b.1 in
    subst (PastSaid maps kind.Add (u ∷ l ∷ key ∷ [])) (same b.2) (cc (x.0, x.1, y.0), (x.2, y.1), refl)
past_added-sound rt maps (u ∷ l ∷ key ∷ y ∷ w ∷ []) c h =
    let v = only_if-some (word_is (codes "already") y) (after (object_id u l) (λ o. after (number (2 ^ 32) key) (λ key. after (read.owner_place maps w) (λ owner. Some (past.AddAlready o key owner))))) c h in
    let a = after-some (object_id u l) (λ o. after (number (2 ^ 32) key) (λ key. after (read.owner_place maps w) (λ owner. Some (past.AddAlready o key owner)))) c v.1 in
    let b = after-some (number (2 ^ 32) key) (λ key. after (read.owner_place maps w) (λ owner. Some (past.AddAlready a.0 key owner))) c a.2 in
    let d = after-some (read.owner_place maps w) (λ owner. Some (past.AddAlready a.0 b.0 owner)) c b.2 in
    let r = word-sound (codes "already") y v.0 in
    let x = id-sound rt u l a.0 a.1 in
    let q = number-sound rt (2 ^ 32) key b.0 b.1 in
    let z = owner-sound maps w d.0 d.1 in
    let spelt : (codes "add" ∷ decimal a.0.unit ∷ decimal a.0.life ∷ decimal b.0 ∷ codes "already" ∷ w ∷ []) ≡ (codes "add" ∷ u ∷ l ∷ key ∷ y ∷ w ∷ []) = cc (r, x.0, x.1, q.0) in
    subst (PastSaid maps kind.Add (u ∷ l ∷ key ∷ y ∷ w ∷ [])) (same d.2) (ap (λ v. codes "add" ∷ decimal a.0.unit ∷ decimal a.0.life ∷ decimal b.0 ∷ codes "already" ∷ v) z.0 ∙ spelt, (x.2, q.1, z.1), z.2)
past_added-sound rt maps ws c h = absurd (cc)

past_found-sound : NumbersRoundTrip → (maps : List (List ℕ)) (k : Kind) (ws : text.Words) (c : PastCall) → read.past_found k ws ≡ Some c → PastSaid maps k ws c
past_found-sound rt maps k (u ∷ l ∷ []) c h =
    let a = after-some (object_id u l) (read.past_found_call k) c h in
    let x = id-sound rt u l a.0 a.1 in
    let s = past_found_call-sound maps k a.0 c x.2 a.2 in
    let spelt : (kind_text k ∷ decimal a.0.unit ∷ decimal a.0.life ∷ []) ≡ (kind_text k ∷ u ∷ l ∷ []) = cc (x.0, x.1) in
    (s.0 ∙ spelt, s.1, s.2)
past_found-sound rt maps k (x ∷ []) c h =
    let v = only_if-some (word_is (codes "none") x) (read.past_none_call k) c h in
    let r = word-sound (codes "none") x v.0 in
    let s = past_none_call-sound maps k c v.1 in
    (s.0 ∙ ap (λ w. kind_text k ∷ w ∷ []) (sym r), s.1, s.2)
past_found-sound rt maps k ws c h = absurd (cc)

past_as-sound : NumbersRoundTrip → (maps : List (List ℕ)) (k : Kind) (ws : text.Words) (c : PastCall) → read.past_as maps k ws ≡ Some c → PastSaid maps k ws c
past_as-sound rt maps kind.PushFront ws c h = past_pushed-sound rt maps kind.PushFront ws c h
past_as-sound rt maps kind.PushBack ws c h = past_pushed-sound rt maps kind.PushBack ws c h
past_as-sound rt maps kind.Add ws c h = past_added-sound rt maps ws c h
past_as-sound rt maps k ws c h = past_found-sound rt maps k ws c h

past_call-sound : NumbersRoundTrip → (maps : List (List ℕ)) (ws : text.Words) (c : PastCall) → read.past_call maps ws ≡ Some c → (past_words maps c ≡ ws) × PastCallFits c × IsTrue (owner_below (length maps) c)
past_call-sound rt maps [] c h = absurd (cc)
past_call-sound rt maps (w ∷ ws) c h =
    let a = after-some (kind_of w) (λ k. read.past_as maps k ws) c h in
    let s = past_as-sound rt maps a.0 ws c a.2 in
    (s.0 ∙ ap (λ v. v ∷ ws) (sym (spelled w a.0 a.1)), s.1, s.2)

past-line-sound : NumbersRoundTrip → (maps : List (List ℕ)) (ws : text.Words) (l : Line) → read.past_line_words maps ws ≡ Some l → LineSaid maps (codes "at") ws l
past-line-sound rt maps (pos ∷ w ∷ p ∷ s ∷ ws) l h =
    let v = only_if-some (word_is (codes "by") w) (after (number (2 ^ 64) pos) (λ pos. after (tag p s) (λ t. after (read.past_call maps ws) (λ c. Some (line_as.Past pos (record { tag = t; call = c })))))) l h in
    let a = after-some (number (2 ^ 64) pos) (λ pos. after (tag p s) (λ t. after (read.past_call maps ws) (λ c. Some (line_as.Past pos (record { tag = t; call = c }))))) l v.1 in
    let b = after-some (tag p s) (λ t. after (read.past_call maps ws) (λ c. Some (line_as.Past a.0 (record { tag = t; call = c })))) l a.2 in
    let d = after-some (read.past_call maps ws) (λ c. Some (line_as.Past a.0 (record { tag = b.0; call = c }))) l b.2 in
    let r = word-sound (codes "by") w v.0 in
    let x = number-sound rt (2 ^ 64) pos a.0 a.1 in
    let y = tag-sound rt p s b.0 b.1 in
    let z = past_call-sound rt maps ws d.0 d.1 in
    subst (LineSaid maps (codes "at") (pos ∷ w ∷ p ∷ s ∷ ws)) (same d.2) (cc (r, x.0, y.0, y.1, z.0), (x.1, (y.2, z.1), z.2))
past-line-sound rt maps ws l h = absurd (cc)

-- ---- the whole

-- a choice by a word
chosen : (maps : List (List ℕ)) (t w : List ℕ) (ws : text.Words) (a b : Option Line) (l : Line) → (a ≡ Some l → LineSaid maps t ws l) → (b ≡ Some l → LineSaid maps w ws l) → cond (word_is t w) a b ≡ Some l → LineSaid maps w ws l
chosen maps t w ws a b l here other h =
    let case : (c : Bool) → word_is t w ≡ c → cond c a b ≡ Some l → LineSaid maps w ws l = λ c.
    elim c as (λ c. word_is t w ≡ c → cond c a b ≡ Some l → LineSaid maps w ws l)
    [ true ↦ λ e h. subst (λ v. LineSaid maps v ws l) (sym (word-sound t w e)) (here h) | false ↦ λ e h. other h ]
    in case (word_is t w) refl h

heading-sound : NumbersRoundTrip → (maps : List (List ℕ)) (w : List ℕ) (ws : text.Words) (l : Line) → read.heading_titled w ws ≡ Some l → LineSaid maps w ws l
heading-sound rt maps w ws l h =
    let types : after (names ws) (λ ns. Some (line_as.Types ns)) ≡ Some l → LineSaid maps (codes "types") ws l = λ h.
    (let a = after-some (names ws) (λ ns. Some (line_as.Types ns)) l h in
    let x = names-sound ws a.0 a.1 in
    subst (LineSaid maps (codes "types") ws) (same a.2) (ap (λ v. codes "types" ∷ v) (sym x.0), x.1)) in
    let scripts : after (names ws) (λ ns. Some (line_as.Scripts ns)) ≡ Some l → LineSaid maps (codes "scripts") ws l = λ h.
    (let a = after-some (names ws) (λ ns. Some (line_as.Scripts ns)) l h in
    let x = names-sound ws a.0 a.1 in
    subst (LineSaid maps (codes "scripts") ws) (same a.2) (ap (λ v. codes "scripts" ∷ v) (sym x.0), x.1)) in
    let declared : after (names ws) (λ ns. only_if (all_differ ns) (Some (line_as.Maps ns))) ≡ Some l → LineSaid maps (codes "maps") ws l = λ h.
    (let a = after-some (names ws) (λ ns. only_if (all_differ ns) (Some (line_as.Maps ns))) l h in
    let b = only_if-some (all_differ a.0) (Some (line_as.Maps a.0)) l a.2 in
    let x = names-sound ws a.0 a.1 in
    subst (LineSaid maps (codes "maps") ws) (same b.1) (ap (λ v. codes "maps" ∷ v) (sym x.0), (x.1, b.0))) in
    chosen maps (codes "processors") w ws _ _ l (size-sound rt maps ws l)
    (chosen maps (codes "types") w ws _ _ l types
    (chosen maps (codes "maps") w ws _ _ l declared
    (chosen maps (codes "scripts") w ws _ _ l scripts (λ none. absurd (cc))))) h

body-sound : NumbersRoundTrip → (maps : List (List ℕ)) (w : List ℕ) (ws : text.Words) (other : Option Line) (l : Line) → (other ≡ Some l → LineSaid maps w ws l) → read.body_titled maps w ws other ≡ Some l → LineSaid maps w ws l
body-sound rt maps w ws other l rest h =
    chosen maps (codes "at") w ws _ _ l (past-line-sound rt maps ws l)
    (chosen maps (codes "graph") w ws _ _ l (graph-sound maps ws l)
    (chosen maps (codes "processor") w ws _ _ l (processor-sound rt maps ws l)
    (chosen maps (codes "total") w ws _ _ l (total-sound rt maps ws l)
    (chosen maps (codes "class") w ws _ _ l (class-line-sound rt maps ws l) rest)))) h

entry-line-sound : NumbersRoundTrip → (maps : List (List ℕ)) (w : List ℕ) (n : ℕ) (ws : text.Words) (l : Line) → number 4 w ≡ Some n → after (entry_of ws) (λ e. Some (line_as.Entry n e)) ≡ Some l → LineSaid maps w ws l
entry-line-sound rt maps w n ws l is h =
    let a = after-some (entry_of ws) (λ e. Some (line_as.Entry n e)) l h in
    let x = number-sound rt 4 w n is in
    let s = entry-sound rt ws a.0 a.1 in
    let le : n ≤ 3 = omega (arith, x.1) in
    subst (LineSaid maps w ws) (same a.2) (cc (x.0, s.0), (le, s.1, s.2))

pub line-sound : NumbersRoundTrip → (maps : List (List ℕ)) (ws : text.Words) (l : Line) → read.line_of maps ws ≡ Some l → ((line_head l ∷ line_tail maps l) ≡ ws) × LineFits maps l
line-sound rt maps [] l h = absurd (cc)
line-sound rt maps (w ∷ ws) l h =
    let case : (o : Option ℕ) → number 4 w ≡ o → read.headed maps o w ws (read.heading_titled w ws) ≡ Some l → LineSaid maps w ws l = λ o.
    elim o as (λ o. number 4 w ≡ o → read.headed maps o w ws (read.heading_titled w ws) ≡ Some l → LineSaid maps w ws l) [
      | None ↦ λ e h. body-sound rt maps w ws (read.heading_titled w ws) l (heading-sound rt maps w ws l) h
      | Some n ↦ λ e h. entry-line-sound rt maps w n ws l e h
    ]
    in case (number 4 w) refl h
