-- At each stage the lines that may come are those that are looked for.
use Rattle.std.proofs.Common.{◌≡◌, ℕ, Bool, true, false, cond, List, [], ◌∷◌, Option, Some, None, refl, sym, ap, ◌∙◌, ◌^◌, subst}
use Rattle.std.specs.Prelude.{codes}
use Rattle.bm_word.specs.Number.{NumbersRoundTrip}
use Rattle.bm_journal.specs.EntryText.{Words}
use Rattle.bm_journal.specs.WellFormed.{all_differ}
use Rattle.bm_law_text.specs.declared.line.Line.{Line}
use Rattle.bm_law_text.specs.declared.line.Line.TheVariants as line_as
use Rattle.bm_law_text.specs.Parts.{after, only_if, word_is, number, names}
use Rattle.bm_law_text.specs.Entries.{past_word}
use Rattle.bm_law_text.specs.Reading.{line_of, body_line_of, headed, heading_titled, size_words}
use Rattle.bm_law_text.proofs.LinesSound.{line-sound}
use Rattle.bm_law_text.proofs.Options.{after-some, only_if-some}
use Rattle.bm_law_text.proofs.PartsSound.{same, word-sound}
use Rattle.bm_journal_reader.specs.Drafts.{Stage, Begun, Sized, Typed, Mapped, Opened, Logging, Telling, Counting, stage_maps, stage_line, next, step}

heading-said : (t : List ℕ) (f : Words → Option Line) (ws : Words) (l : Line) → after (past_word t ws) f ≡ Some l → (rest : Words) × (ws ≡ t ∷ rest) × (f rest ≡ Some l)
heading-said t f [] l h = absurd (cc)
heading-said t f (w ∷ ws) l h =
    let a = after-some (past_word t (w ∷ ws)) f l h in
    let b = only_if-some (word_is t w) (Some ws) a.0 a.1 in
    (ws, ap (λ v. v ∷ ws) (word-sound t w b.0), ap f (same b.1) ∙ a.2)

more : (b : Bool) (a x y : Option Line) (l : Line) → (x ≡ Some l → y ≡ Some l) → cond b a x ≡ Some l → cond b a y ≡ Some l
more true a x y l f h = h
more false a x y l f h = f h

body-said : (maps : List (List ℕ)) (ws : Words) (l : Line) → body_line_of maps ws ≡ Some l → line_of maps ws ≡ Some l
body-said maps [] l h = h
body-said maps (w ∷ ws) l h =
    let case : (o : Option ℕ) → headed maps o w ws None ≡ Some l → headed maps o w ws (heading_titled w ws) ≡ Some l = λ o.
    elim o as (λ o. headed maps o w ws None ≡ Some l → headed maps o w ws (heading_titled w ws) ≡ Some l) [
      | None ↦ λ h. more (word_is (codes "at") w) _ _ _ l (more (word_is (codes "graph") w) _ _ _ l (more (word_is (codes "processor") w) _ _ _ l (more (word_is (codes "total") w) _ _ _ l (more (word_is (codes "class") w) _ _ _ l (λ none. absurd (cc)))))) h
      | Some n ↦ λ h. h
    ]
    in case (number 4 w) h

-- what is looked for is what the words say
pub stage-said : (s : Stage) (ws : Words) (l : Line) → stage_line s ws ≡ Some l → line_of (stage_maps s) ws ≡ Some l
unfolding number
stage-said Begun ws l h = let a = heading-said (codes "processors") size_words ws l h in ap (line_of []) a.1 ∙ a.2
stage-said Sized ws l h = let a = heading-said (codes "types") (λ ws. after (names ws) (λ ns. Some (line_as.Types ns))) ws l h in ap (line_of []) a.1 ∙ a.2
stage-said Typed ws l h = let a = heading-said (codes "maps") (λ ws. after (names ws) (λ ns. only_if (all_differ ns) (Some (line_as.Maps ns)))) ws l h in ap (line_of []) a.1 ∙ a.2
stage-said (Mapped maps) ws l h = let a = heading-said (codes "scripts") (λ ws. after (names ws) (λ ns. Some (line_as.Scripts ns))) ws l h in ap (line_of maps) a.1 ∙ a.2
stage-said (Opened maps) ws l h = body-said maps ws l h
stage-said (Logging maps n) ws l h = body-said maps ws l h
stage-said (Telling maps n) ws l h = body-said maps ws l h
stage-said (Counting maps n) ws l h = body-said maps ws l h

-- ---- and nothing else that may come is said

is_heading : Line → Type 0
is_heading (line_as.Size p g) = Unit {0}
is_heading (line_as.Types ns) = Unit {0}
is_heading (line_as.Maps ns) = Unit {0}
is_heading (line_as.Scripts ns) = Unit {0}
is_heading l = ⊥

either : (P : Line → Type 0) (b : Bool) (a x : Option Line) (l : Line) → (a ≡ Some l → P l) → (x ≡ Some l → P l) → cond b a x ≡ Some l → P l
either P true a x l f g h = f h
either P false a x l f g h = g h

size-heading : (ws : Words) (l : Line) → size_words ws ≡ Some l → is_heading l
unfolding is_heading
size-heading (p ∷ w ∷ g ∷ []) l h =
    let v = only_if-some (word_is (codes "pages") w) (after (number (2 ^ 8) p) (λ p. after (number (2 ^ 16) g) (λ g. Some (line_as.Size p g)))) l h in
    let a = after-some (number (2 ^ 8) p) (λ p. after (number (2 ^ 16) g) (λ g. Some (line_as.Size p g))) l v.1 in
    let b = after-some (number (2 ^ 16) g) (λ g. Some (line_as.Size a.0 g)) l a.2 in
    subst is_heading (same b.2) tt
size-heading ws l h = absurd (cc)

heading-heading : (w : List ℕ) (ws : Words) (l : Line) → heading_titled w ws ≡ Some l → is_heading l
unfolding is_heading
heading-heading w ws l h =
    let types : after (names ws) (λ ns. Some (line_as.Types ns)) ≡ Some l → is_heading l = λ h. (let a = after-some (names ws) (λ ns. Some (line_as.Types ns)) l h in subst is_heading (same a.2) tt) in
    let scripts : after (names ws) (λ ns. Some (line_as.Scripts ns)) ≡ Some l → is_heading l = λ h. (let a = after-some (names ws) (λ ns. Some (line_as.Scripts ns)) l h in subst is_heading (same a.2) tt) in
    let declared : after (names ws) (λ ns. only_if (all_differ ns) (Some (line_as.Maps ns))) ≡ Some l → is_heading l = λ h.
    (let a = after-some (names ws) (λ ns. only_if (all_differ ns) (Some (line_as.Maps ns))) l h in
    let b = only_if-some (all_differ a.0) (Some (line_as.Maps a.0)) l a.2 in
    subst is_heading (same b.1) tt) in
    either is_heading (word_is (codes "processors") w) _ _ l (size-heading ws l)
    (either is_heading (word_is (codes "types") w) _ _ l types
    (either is_heading (word_is (codes "maps") w) _ _ l declared
    (either is_heading (word_is (codes "scripts") w) _ _ l scripts (λ none. absurd (cc))))) h

fewer : (b : Bool) (a x y : Option Line) (l : Line) → (y ≡ Some l → x ≡ Some l) → cond b a y ≡ Some l → cond b a x ≡ Some l
fewer true a x y l f h = h
fewer false a x y l f h = f h

body-line : (maps : List (List ℕ)) (ws : Words) (l : Line) → (is_heading l → ⊥) → line_of maps ws ≡ Some l → body_line_of maps ws ≡ Some l
body-line maps [] l other h = h
body-line maps (w ∷ ws) l other h =
    let case : (o : Option ℕ) → headed maps o w ws (heading_titled w ws) ≡ Some l → headed maps o w ws None ≡ Some l = λ o.
    elim o as (λ o. headed maps o w ws (heading_titled w ws) ≡ Some l → headed maps o w ws None ≡ Some l) [
      | None ↦ λ h. fewer (word_is (codes "at") w) _ _ _ l (fewer (word_is (codes "graph") w) _ _ _ l (fewer (word_is (codes "processor") w) _ _ _ l (fewer (word_is (codes "total") w) _ _ _ l (fewer (word_is (codes "class") w) _ _ _ l (λ said. absurd (other (heading-heading w ws l said))))))) h
      | Some n ↦ λ h. h
    ]
    in case (number 4 w) h

no-heading : (s : Stage) (l : Line) (t : Stage) → next s l ≡ Some t → (s ≡ Begun → ⊥) → (s ≡ Sized → ⊥) → (s ≡ Typed → ⊥) → ((maps : List (List ℕ)) → s ≡ Mapped maps → ⊥) → is_heading l → ⊥
unfolding is_heading
no-heading Begun l t h a b c d is = a refl
no-heading Sized l t h a b c d is = b refl
no-heading Typed l t h a b c d is = c refl
no-heading (Mapped maps) l t h a b c d is = d maps refl
no-heading s (line_as.Size p g) t h a b c d is = cc
no-heading s (line_as.Types ns) t h a b c d is = cc
no-heading s (line_as.Maps ns) t h a b c d is = cc
no-heading s (line_as.Scripts ns) t h a b c d is = cc
no-heading s l t h a b c d is = is

-- where words that may come are said, they are looked for
stage-looks : NumbersRoundTrip → (s : Stage) (ws : Words) (l : Line) (t : Stage) → line_of (stage_maps s) ws ≡ Some l → next s l ≡ Some t → stage_line s ws ≡ Some l
unfolding number
stage-looks rt Begun ws (line_as.Size p g) t said goes =
    let e = (line-sound rt [] ws (line_as.Size p g) said).0 in
    ap (stage_line Begun) (sym e) ∙ ap (line_of []) e ∙ said
stage-looks rt Begun ws l t said goes = absurd (cc)
stage-looks rt Sized ws (line_as.Types ns) t said goes =
    let e = (line-sound rt [] ws (line_as.Types ns) said).0 in
    ap (stage_line Sized) (sym e) ∙ ap (line_of []) e ∙ said
stage-looks rt Sized ws l t said goes = absurd (cc)
stage-looks rt Typed ws (line_as.Maps ns) t said goes =
    let e = (line-sound rt [] ws (line_as.Maps ns) said).0 in
    ap (stage_line Typed) (sym e) ∙ ap (line_of []) e ∙ said
stage-looks rt Typed ws l t said goes = absurd (cc)
stage-looks rt (Mapped maps) ws (line_as.Scripts ns) t said goes =
    let e = (line-sound rt maps ws (line_as.Scripts ns) said).0 in
    ap (stage_line (Mapped maps)) (sym e) ∙ ap (line_of maps) e ∙ said
stage-looks rt (Mapped maps) ws l t said goes = absurd (cc)
stage-looks rt (Opened maps) ws l t said goes = body-line maps ws l (no-heading (Opened maps) l t goes (λ e. cc) (λ e. cc) (λ e. cc) (λ m e. cc)) said
stage-looks rt (Logging maps n) ws l t said goes = body-line maps ws l (no-heading (Logging maps n) l t goes (λ e. cc) (λ e. cc) (λ e. cc) (λ m e. cc)) said
stage-looks rt (Telling maps n) ws l t said goes = body-line maps ws l (no-heading (Telling maps n) l t goes (λ e. cc) (λ e. cc) (λ e. cc) (λ m e. cc)) said
stage-looks rt (Counting maps n) ws l t said goes = body-line maps ws l (no-heading (Counting maps n) l t goes (λ e. cc) (λ e. cc) (λ e. cc) (λ m e. cc)) said

pub stage-none : NumbersRoundTrip → (s : Stage) (ws : Words) → after (stage_line s ws) (next s) ≡ None → step s ws ≡ None
stage-none rt s ws none =
    let case : (o : Option Stage) → step s ws ≡ o → step s ws ≡ None = λ o.
    elim o as (λ o. step s ws ≡ o → step s ws ≡ None) [
      | None ↦ λ e. e
      | Some t ↦ λ e.
          let a = after-some (line_of (stage_maps s) ws) (next s) t e in
          let said = stage-looks rt s ws a.0 t a.1 a.2 in
          let found : after (stage_line s ws) (next s) ≡ Some t = ap (λ o. after o (next s)) said ∙ a.2 in
          absurd (cc)
    ]
    in case (step s ws) refl
