-- What is kept from line to line.
use Rattle.std.proofs.Common.{◌≡◌, ℕ, zero, suc, ◌+◌, Bool, true, false, cond, ◌==◌, List, [], ◌∷◌, ◌++◌, Option, Some, None, length, take, drop, map, refl, sym, ap, ◌∙◌, arith, subst, append_assoc, append-nil, length-append, length-drop, ◌-◌, ◌≤◌, ◌⊎◌, inl, inr}
use Rattle.std.proofs.lemmas.Bool.{ltb-true}
use Rattle.std.proofs.lemmas.List.Splits.{slice_split_first, join_with_byte-slice_split}
use Rattle.std.specs.List.{position_or_len, onto_first, join_with_byte}
use Rattle.std.specs.Prelude.{position, nat_lt, option_map}
use Rattle.bm_word.specs.Number.{NumbersRoundTrip}
use Rattle.bm_journal.specs.EntryText.{Words}
use Rattle.bm_journal.specs.Line.{spaced}
use Rattle.bm_law_text.specs.declared.line.Line.{Line}
use Rattle.bm_law_text.specs.Parts.{after}
use Rattle.bm_law_text.specs.Fits.{Each, LineFits}
use Rattle.bm_law_text.specs.Lines.{line_head, line_tail}
use Rattle.bm_law_text.specs.Pieces.{pieces, words}
use Rattle.bm_law_text.proofs.ItemsFit.{each-append}
use Rattle.bm_law_text.proofs.LinesSound.{line-sound}
use Rattle.bm_law_text.proofs.PartsSound.{same}
use Rattle.bm_journal_reader.specs.declared.draft.Draft.{Draft}
use Rattle.bm_law_text.specs.declared.line.Line.TheVariants as line_as
use Rattle.bm_journal_reader.specs.declared.draft.Head.{Head}
use Rattle.bm_journal_reader.specs.declared.draft.Head.TheVariants as head
use Rattle.bm_journal_reader.specs.declared.body.Part.{Part}
use Rattle.bm_journal_reader.specs.declared.body.Part.TheVariants as part
use Rattle.bm_journal_reader.proofs.Stepping.{named-maps, stays}
use Rattle.bm_journal_reader.specs.Drafts.{Stage, Begun, Sized, Typed, Mapped, Opened, Logging, Telling, Counting, staged, head_stage, head_lines, stage_maps, stage_line, next, step, draft_stage, draft_lines, IsSound, Read, Reads}
use Rattle.bm_journal_reader.specs.Faults.{first_bad, behind_step, line_content, plus, Kept, IsFirstLine}
use Rattle.bm_journal_reader.proofs.OwnersPut.{take_all}
use Rattle.bm_journal_reader.proofs.Staged.{stage-said, stage-none}

-- a text is cut at its first line feed
pub piece-cut : (rest : List ℕ) (end : ℕ) → position (λ b. b == 10) rest ≡ Some end → pieces rest ≡ take end rest ∷ pieces (drop (end + 1) rest)
piece-cut rest end at =
    let p : ℕ → Bool = λ b. b == 10 in
    let n = position_or_len p rest in
    let case : (b : Bool) → nat_lt n (length rest) ≡ b → cond b (Some n) None ≡ Some end → pieces rest ≡ take end rest ∷ pieces (drop (end + 1) rest) = λ b.
    elim b as (λ b. nat_lt n (length rest) ≡ b → cond b (Some n) None ≡ Some end → pieces rest ≡ take end rest ∷ pieces (drop (end + 1) rest)) [
      | true ↦ λ e h. subst (λ m. pieces rest ≡ take m rest ∷ pieces (drop (m + 1) rest)) (same h) (slice_split_first p rest 0 (ltb-true n (length rest) e))
      | false ↦ λ e h. absurd (cc)
    ]
    in case (nat_lt n (length rest)) refl at

-- the end of a text is a piece too
pub some-piece : (rest : List ℕ) → (p : List ℕ) × (ps : List (List ℕ)) × (pieces rest ≡ p ∷ ps)
some-piece [] = ([], [], refl)
some-piece (b ∷ rest) =
    let a = some-piece rest in
    let case : (c : Bool) → (p : List ℕ) × (ps : List (List ℕ)) × (cond c ([] ∷ pieces rest) (onto_first b (pieces rest)) ≡ p ∷ ps) = λ c.
    elim c as (λ c. (p : List ℕ) × (ps : List (List ℕ)) × (cond c ([] ∷ pieces rest) (onto_first b (pieces rest)) ≡ p ∷ ps))
    [ true ↦ ([], pieces rest, refl) | false ↦ (b ∷ a.0, a.1, ap (onto_first b) a.2) ]
    in case (b == 10)

plus-zero : (o : Option ℕ) → plus 0 o ≡ o
plus-zero None = refl
plus-zero (Some k) = let e : 0 + k ≡ k = omega arith in ap Some e

plus-suc : (n : ℕ) (o : Option ℕ) → plus n (option_map (λ k. suc k) o) ≡ plus (n + 1) o
plus-suc n None = refl
plus-suc n (Some k) = let e : n + suc k ≡ n + 1 + k = omega arith in ap Some e

pub begun : (bytes : List ℕ) (d : Draft) → draft_stage d ≡ Begun → draft_lines d ≡ [] → IsSound d → Kept bytes bytes 1 d
begun bytes d stage lines sound = record {
  bad = sym (plus-zero (first_bad Begun (pieces bytes))) ∙ (λ i. plus (length (sym lines i)) (first_bad (sym stage i) (pieces bytes)));
  read = (λ i. map (line_content (stage_maps (draft_stage d))) (sym lines i) ++ pieces bytes);
  fit = subst (Each (LineFits (stage_maps (draft_stage d)))) (sym lines) tt;
  sound = sound;
  count = omega (arith, ap length lines);
}

join-spaced : (w : List ℕ) (ws : Words) → join_with_byte 32 (w ∷ ws) ≡ w ++ spaced ws
join-spaced w [] = sym (append-nil w)
join-spaced w (v ∷ ws) = ap (λ xs. w ++ (32 ∷ xs)) (join-spaced v ws)

-- words that say a line are its text
spelt : (m : List (List ℕ)) (l : Line) (p : List ℕ) → (line_head l ∷ line_tail m l) ≡ words p → p ≡ line_content m l
spelt m l p e = sym (join_with_byte-slice_split 32 p) ∙ ap (join_with_byte 32) (sym e) ∙ join-spaced (line_head l) (line_tail m l)

-- the names of the maps change where they are read alone
moved-maps : (s : Stage) (l : Line) (t : Stage) → next s l ≡ Some t → (stage_maps t ≡ stage_maps s) ⊎ ((s ≡ Typed) × ((ns : List (List ℕ)) × (l ≡ line_as.Maps ns)))
moved-maps Begun (line_as.Size p g) t e = inl (ap stage_maps (sym (same e)))
moved-maps Begun l t e = absurd (cc)
moved-maps Sized (line_as.Types ns) t e = inl (ap stage_maps (sym (same e)))
moved-maps Sized l t e = absurd (cc)
moved-maps Typed (line_as.Maps ns) t e = inr (refl, (ns, refl))
moved-maps Typed l t e = absurd (cc)
moved-maps (Mapped m) l t e = inl (named-maps m t (stays m (Mapped m) l t refl e))
moved-maps (Opened m) l t e = inl (named-maps m t (stays m (Opened m) l t refl e))
moved-maps (Logging m n) l t e = inl (named-maps m t (stays m (Logging m n) l t refl e))
moved-maps (Telling m n) l t e = inl (named-maps m t (stays m (Telling m n) l t refl e))
moved-maps (Counting m n) l t e = inl (named-maps m t (stays m (Counting m n) l t refl e))

-- before the maps two lines are read
behind-part : (maps : List (List ℕ)) (p : Part) (logs totals : ℕ) → staged maps p logs totals ≡ Typed → ⊥
behind-part maps part.Classes logs totals e = cc
behind-part maps (part.Log v) logs totals e = cc
behind-part maps (part.Graph n v) logs totals e = cc
behind-part maps part.Totals logs totals e = cc

two-read : (h : Head) (d : Draft) → head_stage h d.maps.items d.body ≡ Typed → head_lines h d ≡ line_as.Size d.processors d.pages ∷ line_as.Types d.types.items ∷ []
two-read head.Size d e = absurd (cc)
two-read head.Types d e = absurd (cc)
two-read head.Maps d e = refl
two-read head.Scripts d e = absurd (cc)
two-read head.Behind d e = absurd (behind-part d.maps.items d.body.part (length d.body.logs.items) (length d.body.totals.items) e)

map-push : {A B : Type 0} (f : A → B) (xs : List A) (x : A) → map f (xs ++ x ∷ []) ≡ map f xs ++ f x ∷ []
map-push f [] x = refl
map-push f (y ∷ xs) x = ap (λ ys. f y ∷ ys) (map-push f xs x)

-- the lines read so far stay as they are under the names that are read
stay-read : (old new : Draft) (l : Line) → next (draft_stage old) l ≡ Some (draft_stage new) → let m = stage_maps (draft_stage old) in let n = stage_maps (draft_stage new) in
    (map (line_content n) (draft_lines old) ≡ map (line_content m) (draft_lines old)) × (Each (LineFits m) (draft_lines old) → Each (LineFits n) (draft_lines old)) × (line_content n l ≡ line_content m l) × (LineFits m l → LineFits n l)
stay-read old new l goes =
    let m = stage_maps (draft_stage old) in
    let n = stage_maps (draft_stage new) in
    let ls = draft_lines old in
    let Stay : List (List ℕ) → Type 0 = λ n. (map (line_content n) ls ≡ map (line_content m) ls) × (Each (LineFits m) ls → Each (LineFits n) ls) × (line_content n l ≡ line_content m l) × (LineFits m l → LineFits n l) in
    elim (moved-maps (draft_stage old) l (draft_stage new) goes) [
      | inl e ↦ subst Stay (sym e) (refl, λ x. x, refl, λ x. x)
      | inr typed ↦
          (let Front : List Line → Type 0 = λ ls. (map (line_content n) ls ≡ map (line_content m) ls) × (Each (LineFits m) ls → Each (LineFits n) ls) in
          let Last : Line → Type 0 = λ l. (line_content n l ≡ line_content m l) × (LineFits m l → LineFits n l) in
          let front = subst Front (sym (two-read old.head old typed.0)) (refl, λ x. x) in
          let last = subst Last (sym typed.1.1) (refl, λ x. x) in
          (front.0, front.1, last.0, last.1))
    ]

pub line-kept : NumbersRoundTrip → (bytes rest : List ℕ) (line end : ℕ) (old new : Draft) → Kept bytes rest line old → position (λ b. b == 10) rest ≡ Some end → Read old (words (take end rest)) new → Kept bytes (drop (end + 1) rest) (line + 1) new
line-kept rt bytes rest line end old new kept at read =
    let s = draft_stage old in
    let t = draft_stage new in
    let m = stage_maps s in
    let n = stage_maps t in
    let l = read.line in
    let p = take end rest in
    let left = drop (end + 1) rest in
    let said = stage-said s (words p) l read.said in
    let sound = line-sound rt m (words p) l said in
    let stepped : step s (words p) ≡ Some t = ap (λ o. after o (next s)) said ∙ read.stage in
    let cut = piece-cut rest end at in
    let more = some-piece left in
    let stay = stay-read old new l read.stage in
    let now : first_bad s (pieces rest) ≡ option_map (λ k. suc k) (first_bad t (pieces left)) =
    ap (first_bad s) (cut ∙ ap (λ ps. p ∷ ps) more.2) ∙ ap (λ o. behind_step o (λ u. first_bad u (more.0 ∷ more.1))) stepped ∙ ap (λ ps. option_map (λ k. suc k) (first_bad t ps)) (sym more.2) in
    let long : length (draft_lines new) ≡ length (draft_lines old) + 1 = omega (arith, ap length read.lines, length-append (draft_lines old) (l ∷ [])) in
    let here : p ≡ line_content n l = spelt m l p sound.0 ∙ sym stay.2 in
    record {
      bad = kept.bad ∙ ap (plus (length (draft_lines old))) now ∙ plus-suc (length (draft_lines old)) (first_bad t (pieces left)) ∙ ap (λ k. plus k (first_bad t (pieces left))) (sym long);
      read = kept.read ∙ (λ i. sym stay.0 i ++ (cut ∙ ap (λ q. q ∷ pieces left) here) i) ∙ sym (append_assoc (map (line_content n) (draft_lines old)) (line_content n l ∷ []) (pieces left)) ∙ ap (λ xs. xs ++ pieces left) (sym (ap (map (line_content n)) read.lines ∙ map-push (line_content n) (draft_lines old) l));
      fit = subst (Each (LineFits n)) (sym read.lines) (each-append (LineFits n) (draft_lines old) (l ∷ []) (stay.1 kept.fit) (stay.3 sound.1, tt));
      sound = read.sound;
      count = omega (arith, long, kept.count);
    }

pub line-refused : NumbersRoundTrip → (bytes rest : List ℕ) (line end : ℕ) (d : Draft) (ws : Words) → Kept bytes rest line d → position (λ b. b == 10) rest ≡ Some end → ws ≡ words (take end rest) → after (stage_line (draft_stage d) ws) (next (draft_stage d)) ≡ None → (k : ℕ) × (line ≡ k + 1) × (first_bad Begun (pieces bytes) ≡ Some k)
line-refused rt bytes rest line end d ws kept at same-words none =
    let s = draft_stage d in
    let p = take end rest in
    let left = drop (end + 1) rest in
    let more = some-piece left in
    let stuck : step s (words p) ≡ None = ap (step s) (sym same-words) ∙ stage-none rt s ws none in
    let now : first_bad s (pieces rest) ≡ Some 0 =
    ap (first_bad s) (piece-cut rest end at ∙ ap (λ ps. p ∷ ps) more.2) ∙ ap (λ o. behind_step o (λ u. first_bad u (more.0 ∷ more.1))) stuck in
    let e : line ≡ length (draft_lines d) + 0 + 1 = omega (arith, kept.count) in
    (length (draft_lines d) + 0, e, kept.bad ∙ ap (plus (length (draft_lines d))) now)

drop-one : (n : ℕ) (xs : List ℕ) → drop 1 (drop n xs) ≡ drop (suc n) xs
drop-one zero [] = refl
drop-one zero (x ∷ xs) = refl
drop-one (suc n) [] = refl
drop-one (suc n) (x ∷ xs) = drop-one n xs

-- what is behind the first of some bytes
pub behind-first : (bytes behind : List ℕ) (n : ℕ) → behind ≡ drop n bytes → take (length behind - 1) (drop 1 behind) ≡ drop (n + 1) bytes
behind-first bytes behind n e =
    let short : length (drop 1 behind) ≤ length behind - 1 = omega (arith, length-drop 1 behind) in
    take_all (drop 1 behind) (length behind - 1) short ∙ ap (drop 1) e ∙ drop-one n bytes ∙ ap (λ k. drop k bytes) (let e : suc n ≡ n + 1 = omega arith in e)

pub reads-no : (b : Bool) (old new : Draft) (ws : Words) → b ≡ false → Reads b old ws new → after (stage_line (draft_stage old) ws) (next (draft_stage old)) ≡ None
reads-no true old new ws e h = absurd (cc)
reads-no false old new ws e h = h

pub reads-yes : (b : Bool) (old new : Draft) (ws vs : Words) → b ≡ true → ws ≡ vs → Reads b old ws new → Read old vs new
reads-yes true old new ws vs e f h = subst (λ ws. Read old ws new) f h
reads-yes false old new ws vs e f h = absurd (cc)

-- the first line is read
pub first-kept : NumbersRoundTrip → (bytes rest first left : List ℕ) (line : ℕ) (old new : Draft) → Kept bytes rest line old → (cut : IsFirstLine rest (Some (first, left))) → Read old (words first) new → Kept bytes left (line + 1) new
first-kept rt bytes rest first left line old new kept cut read =
    subst (λ ys. Kept bytes ys (line + 1) new) (sym cut.3) (line-kept rt bytes rest line cut.0 old new kept cut.1 (subst (λ xs. Read old (words xs) new) cut.2 read))

pub first-shorter : (rest first left : List ℕ) → IsFirstLine rest (Some (first, left)) → length left + 1 ≤ length rest
first-shorter rest first left cut = omega (arith, ap length cut.3, length-drop (cut.0 + 1) rest, cut.4)
