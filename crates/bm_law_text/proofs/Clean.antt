-- No word of a line has a space or a line feed in it.
use Rattle.std.proofs.Common.{◌≡◌, ℕ, zero, suc, ◌<◌, ◌≤◌, ◌^◌, Bool, true, false, ◌&&◌, not, ◌==◌, List, [], ◌∷◌, ◌++◌, Option, Some, None, length, refl, ap, arith, rules, decimal, lit≤, lit<}
use Rattle.std.proofs.lemmas.Bool.Decides.{Decides-eqb}
use Rattle.std.proofs.lemmas.Str.Parse.{IsNumeralModel, numerals_by_fold}
use Rattle.std.proofs.lemmas.Fmt.{digits_decimal}
use Rattle.std.specs.List.{list_all}
use Rattle.std.specs.Char.{is_ascii_digit}
use Rattle.std.specs.Prelude.{codes, nat_le, slice_get}
use Rattle.bm_class.specs.Sizes.{size_of_class}
use Rattle.bm_word.specs.Number.{digits_value}
use Rattle.bm_word.specs.Word.{is_run_byte, begins_word}
use Rattle.bm_journal.specs.declared.ids.Domain.{Domain}
use Rattle.bm_journal.specs.declared.ids.Domain.TheVariants.{Plain, Tracing}
use Rattle.bm_journal.specs.declared.ids.ObjId.{ObjId}
use Rattle.bm_journal.specs.declared.ids.Tag.{Tag}
use Rattle.bm_journal.specs.declared.units.Units.TheVariants.{Whole, Counted}
use Rattle.bm_journal.specs.declared.entry.Entry.{Entry}
use Rattle.bm_journal.specs.declared.entry.Entry.TheVariants as entry
use Rattle.bm_journal.specs.declared.past.PastCall.{PastCall}
use Rattle.bm_journal.specs.declared.past.PastCall.TheVariants as past
use Rattle.bm_journal.specs.declared.total.Total.{Total}
use Rattle.bm_journal.specs.declared.total.Total.TheVariants as total
use Rattle.bm_journal.specs.EntryText as text
use Rattle.bm_journal.specs.JournalText.{owner_words, past_words}
use Rattle.bm_journal.specs.TotalNames.{total_name}
use Rattle.bm_law_text.specs.declared.line.Line.{Line}
use Rattle.bm_law_text.specs.declared.line.Line.TheVariants as line_as
use Rattle.bm_law_text.specs.Lines.{line_head, line_tail}
use Rattle.bm_law_text.specs.Fits.{Each, IsName, IdFits, CallFits, ObjectFits, EntryFits, PastCallFits, LineFits}

-- a byte that is neither a space nor a line feed
abbrev pub plain : ℕ → Bool
plain b = not (b == 32) && not (b == 10)

abbrev pub clean : List ℕ → Bool
clean word = list_all plain word

abbrev pub clean_words : text.Words → Bool
clean_words words = list_all clean words

pub both : (a b : Bool) → (a && b) ≡ true → (a ≡ true) × (b ≡ true)
both true b h = (refl, h)
both false b h = cc

-- a test that refuses both bytes lets only plain ones pass
passes : (test : ℕ → Bool) (b : ℕ) → test 32 ≡ false → test 10 ≡ false → test b ≡ true → plain b ≡ true
passes test b space feed h =
    let no : (c : ℕ) → test c ≡ false → (b == c) ≡ false = λ c refused.
    (let case : (t : Bool) → (b == c) ≡ t → (b == c) ≡ false = λ t.
    elim t as (λ t. (b == c) ≡ t → (b == c) ≡ false)
    [ true ↦ λ e. let same : b ≡ c = (Decides-eqb b c).0 e in cc (ap test same) | false ↦ λ e. e ]
    in case (b == c) refl)
    in rw (no 32 space) (rw (no 10 feed) refl)

all_pass : (test : ℕ → Bool) (bs : List ℕ) → test 32 ≡ false → test 10 ≡ false → list_all test bs ≡ true → clean bs ≡ true
all_pass test [] space feed h = refl
all_pass test (b ∷ bs) space feed h =
    let hs = both (test b) (list_all test bs) h in
    rw (passes test b space feed hs.0) (all_pass test bs space feed hs.1)

own : IsNumeralModel (λ ds. list_all is_ascii_digit ds ≡ true) (digits_value 0)
own = numerals_by_fold _ (search rules) digits_value (search rules)

pub decimal-clean : (n : ℕ) → n < 2 ^ 64 → clean (decimal n) ≡ true
decimal-clean n lt = all_pass is_ascii_digit (decimal n) refl refl (digits_decimal own n lt)

pub name-clean : (n : List ℕ) → IsName n → clean n ≡ true
name-clean n h =
    let hs = both (begins_word n) (nat_le (length n) 31 && list_all is_run_byte n) h in
    all_pass is_run_byte n refl refl ((both (nat_le (length n) 31) (list_all is_run_byte n) hs.1).1)

size_small : (c : ℕ) → c ≤ 10 → size_of_class c < 2 ^ 64
unfolding size_of_class
size_small zero h = lit< tt
size_small (suc zero) h = lit< tt
size_small (suc (suc zero)) h = lit< tt
size_small (suc (suc (suc zero))) h = lit< tt
size_small (suc (suc (suc (suc zero)))) h = lit< tt
size_small (suc (suc (suc (suc (suc zero))))) h = lit< tt
size_small (suc (suc (suc (suc (suc (suc zero)))))) h = lit< tt
size_small (suc (suc (suc (suc (suc (suc (suc zero))))))) h = lit< tt
size_small (suc (suc (suc (suc (suc (suc (suc (suc zero)))))))) h = lit< tt
size_small (suc (suc (suc (suc (suc (suc (suc (suc (suc zero))))))))) h = lit< tt
size_small (suc (suc (suc (suc (suc (suc (suc (suc (suc (suc zero)))))))))) h = lit< tt
size_small (suc (suc (suc (suc (suc (suc (suc (suc (suc (suc (suc c))))))))))) h = absurd (omega arith)

pub size-clean : (c : ℕ) → c ≤ 10 → clean (text.size c) ≡ true
size-clean c h = decimal-clean (size_of_class c) (size_small c h)

pub domain-clean : (d : Domain) → clean (text.domain d) ≡ true
domain-clean Plain = refl
domain-clean Tracing = refl

pub numbers-clean : (limit : ℕ) (ns : List ℕ) → limit ≤ 2 ^ 64 → Each (λ n. n < limit) ns → clean_words (text.numbers ns) ≡ true
numbers-clean limit [] le h = refl
numbers-clean limit (n ∷ ns) le h = let lt : n < 2 ^ 64 = omega (arith, h.0) in rw (decimal-clean n lt) (numbers-clean limit ns le h.1)

pub names-clean : (ns : List (List ℕ)) → Each IsName ns → clean_words ns ≡ true
names-clean [] h = refl
names-clean (n ∷ ns) h = rw (name-clean n h.0) (names-clean ns h.1)

pub append-clean : (xs ys : text.Words) → clean_words xs ≡ true → clean_words ys ≡ true → clean_words (xs ++ ys) ≡ true
append-clean [] ys hx hy = hy
append-clean (x ∷ xs) ys hx hy = let h = both (clean x) (clean_words xs) hx in rw h.0 (append-clean xs ys h.1 hy)

pub object-clean : (o : Option ObjId) → ObjectFits o → clean_words (text.object o) ≡ true
object-clean (Some o) h = rw (decimal-clean o.unit (omega (arith, h.0))) (rw (decimal-clean o.life (omega (arith, h.1))) refl)
object-clean None h = refl

pub call-clean : (t : Option Tag) → CallFits t → clean_words (text.call t) ≡ true
call-clean (Some t) h = rw (decimal-clean t.processor (omega (arith, h.0))) (rw (decimal-clean t.serial (omega (arith, h.1))) refl)
call-clean None h = refl

pub entry-clean : (e : Entry) → EntryFits e → clean_words (text.words_of e) ≡ true
entry-clean (entry.Fill c (Whole us)) fits = rw (size-clean c fits.0) (rw (numbers-clean (2 ^ 16) us (lit≤ tt) fits.1) (refl))
entry-clean (entry.Fill c (Counted k)) fits = rw (size-clean c fits.0) (refl)
entry-clean (entry.Script name) fits = rw (name-clean name fits) (refl)
entry-clean (entry.Done name) fits = rw (name-clean name fits) (refl)
entry-clean (entry.Handler name) fits = rw (name-clean name fits) (refl)
entry-clean (entry.Back name) fits = rw (name-clean name fits) (refl)
entry-clean (entry.In d w) fits = rw (domain-clean d) (rw (decimal-clean w (omega (arith, fits))) (refl))
entry-clean (entry.Out d w) fits = rw (domain-clean d) (rw (decimal-clean w (omega (arith, fits))) (refl))
entry-clean entry.Yield fits = refl
entry-clean entry.Ended fits = refl
entry-clean entry.Close fits = refl
entry-clean (entry.New name vs) fits = rw (name-clean name fits.0) (rw (numbers-clean (2 ^ 32) vs (lit≤ tt) fits.1.0) (refl))
entry-clean (entry.Given u l) fits = rw (decimal-clean u (omega (arith, fits.0))) (rw (decimal-clean l (omega (arith, fits.1))) (refl))
entry-clean (entry.GivenAfter u l s n) fits = rw (decimal-clean u (omega (arith, fits.0))) (rw (decimal-clean l (omega (arith, fits.1))) (rw (decimal-clean s (omega (arith, fits.2))) (rw (decimal-clean n (omega (arith, fits.3))) (refl))))
entry-clean entry.Empty fits = refl
entry-clean (entry.Busy a) fits = rw (decimal-clean a (omega (arith, fits))) (refl)
entry-clean (entry.Drop u l) fits = rw (decimal-clean u (omega (arith, fits.0))) (rw (decimal-clean l (omega (arith, fits.1))) (refl))
entry-clean (entry.Still k) fits = rw (decimal-clean k (omega (arith, fits))) (refl)
entry-clean entry.Last fits = refl
entry-clean (entry.Free u h) fits = rw (decimal-clean u (omega (arith, fits.0))) (rw (decimal-clean h (omega (arith, fits.1))) (refl))
entry-clean (entry.Delay u h) fits = rw (decimal-clean u (omega (arith, fits.0))) (rw (decimal-clean h (omega (arith, fits.1))) (refl))
entry-clean (entry.Acquire u l k) fits = rw (decimal-clean u (omega (arith, fits.0))) (rw (decimal-clean l (omega (arith, fits.1))) (rw (decimal-clean k (omega (arith, fits.2))) (refl)))
entry-clean (entry.Get u l f v) fits = rw (decimal-clean u (omega (arith, fits.0))) (rw (decimal-clean l (omega (arith, fits.1))) (rw (decimal-clean f (omega (arith, fits.2))) (rw (decimal-clean v (omega (arith, fits.3))) (refl))))
entry-clean (entry.Lock name) fits = rw (name-clean name fits) (refl)
entry-clean (entry.Unlock name) fits = rw (name-clean name fits) (refl)
entry-clean (entry.PushFront name u l pos) fits = rw (name-clean name fits.0) (rw (decimal-clean u (omega (arith, fits.1))) (rw (decimal-clean l (omega (arith, fits.2))) (rw (decimal-clean pos (omega (arith, fits.3))) (refl))))
entry-clean (entry.PushBack name u l pos) fits = rw (name-clean name fits.0) (rw (decimal-clean u (omega (arith, fits.1))) (rw (decimal-clean l (omega (arith, fits.2))) (rw (decimal-clean pos (omega (arith, fits.3))) (refl))))
entry-clean (entry.Add name u l pos) fits = rw (name-clean name fits.0) (rw (decimal-clean u (omega (arith, fits.1))) (rw (decimal-clean l (omega (arith, fits.2))) (rw (decimal-clean pos (omega (arith, fits.3))) (refl))))
entry-clean (entry.PushFrontAlready name u l owner pos) fits = rw (name-clean name fits.0) (rw (decimal-clean u (omega (arith, fits.1))) (rw (decimal-clean l (omega (arith, fits.2))) (rw (name-clean owner fits.3) (rw (decimal-clean pos (omega (arith, fits.4))) (refl)))))
entry-clean (entry.PushBackAlready name u l owner pos) fits = rw (name-clean name fits.0) (rw (decimal-clean u (omega (arith, fits.1))) (rw (decimal-clean l (omega (arith, fits.2))) (rw (name-clean owner fits.3) (rw (decimal-clean pos (omega (arith, fits.4))) (refl)))))
entry-clean (entry.AddAlready name u l owner pos) fits = rw (name-clean name fits.0) (rw (decimal-clean u (omega (arith, fits.1))) (rw (decimal-clean l (omega (arith, fits.2))) (rw (name-clean owner fits.3) (rw (decimal-clean pos (omega (arith, fits.4))) (refl)))))
entry-clean (entry.Remove name u l pos) fits = rw (name-clean name fits.0) (rw (decimal-clean u (omega (arith, fits.1))) (rw (decimal-clean l (omega (arith, fits.2))) (rw (decimal-clean pos (omega (arith, fits.3))) (refl))))
entry-clean (entry.Work c) fits = rw (size-clean c fits) (refl)
entry-clean (entry.Begin d n) fits = rw (domain-clean d) (rw (decimal-clean n (omega (arith, fits))) (refl))
entry-clean (entry.Enter c a) fits = rw (size-clean c fits.0) (rw (decimal-clean a (omega (arith, fits.1))) (refl))
entry-clean (entry.Pop c u) fits = rw (size-clean c fits.0) (rw (decimal-clean u (omega (arith, fits.1))) (refl))
entry-clean (entry.PopNone c) fits = rw (size-clean c fits) (refl)
entry-clean (entry.Count c k) fits = rw (size-clean c fits.0) (rw (decimal-clean k (omega (arith, fits.1))) (refl))
entry-clean (entry.Leave c a) fits = rw (size-clean c fits.0) (rw (decimal-clean a (omega (arith, fits.1))) (refl))
entry-clean (entry.Raise c) fits = rw (size-clean c fits) (refl)
entry-clean (entry.Push c u) fits = rw (size-clean c fits.0) (rw (decimal-clean u (omega (arith, fits.1))) (refl))
entry-clean (entry.Delayed c u) fits = rw (size-clean c fits.0) (rw (decimal-clean u (omega (arith, fits.1))) (refl))
entry-clean (entry.Look c k) fits = rw (size-clean c fits.0) (rw (decimal-clean k (omega (arith, fits.1))) (refl))
entry-clean (entry.Put c u) fits = rw (size-clean c fits.0) (rw (decimal-clean u (omega (arith, fits.1))) (refl))
entry-clean (entry.Lost c) fits = rw (size-clean c fits) (refl)
entry-clean (entry.LookDelayed c k) fits = rw (size-clean c fits.0) (rw (decimal-clean k (omega (arith, fits.1))) (refl))
entry-clean (entry.PutDelayed c u) fits = rw (size-clean c fits.0) (rw (decimal-clean u (omega (arith, fits.1))) (refl))
entry-clean (entry.LostDelayed c) fits = rw (size-clean c fits) (refl)
entry-clean (entry.Receive c (Whole us)) fits = rw (size-clean c fits.0) (rw (numbers-clean (2 ^ 16) us (lit≤ tt) fits.1) (refl))
entry-clean (entry.Receive c (Counted k)) fits = rw (size-clean c fits.0) (refl)
entry-clean (entry.Read c k) fits = rw (size-clean c fits.0) (rw (decimal-clean k (omega (arith, fits.1))) (refl))
entry-clean (entry.Ready c u) fits = rw (size-clean c fits.0) (rw (decimal-clean u (omega (arith, fits.1))) (refl))
entry-clean (entry.Second c u) fits = rw (size-clean c fits.0) (rw (decimal-clean u (omega (arith, fits.1))) (refl))
entry-clean (entry.Fetch c want (Whole us)) fits = rw (size-clean c fits.0) (rw (decimal-clean want (omega (arith, fits.1))) (rw (numbers-clean (2 ^ 16) us (lit≤ tt) fits.2) (refl)))
entry-clean (entry.Fetch c want (Counted k)) fits = rw (size-clean c fits.0) (rw (decimal-clean want (omega (arith, fits.1))) (refl))
entry-clean (entry.TakeExtra c (Whole us)) fits = rw (size-clean c fits.0) (rw (numbers-clean (2 ^ 16) us (lit≤ tt) fits.1) (refl))
entry-clean (entry.TakeExtra c (Counted k)) fits = rw (size-clean c fits.0) (refl)
entry-clean (entry.Send c p (Whole us)) fits = rw (size-clean c fits.0) (rw (decimal-clean p (omega (arith, fits.1))) (rw (numbers-clean (2 ^ 16) us (lit≤ tt) fits.2) (refl)))
entry-clean (entry.Send c p (Counted k)) fits = rw (size-clean c fits.0) (rw (decimal-clean p (omega (arith, fits.1))) (refl))
entry-clean (entry.TakeDelayed c (Whole us)) fits = rw (size-clean c fits.0) (rw (numbers-clean (2 ^ 16) us (lit≤ tt) fits.1) (refl))
entry-clean (entry.TakeDelayed c (Counted k)) fits = rw (size-clean c fits.0) (refl)
entry-clean (entry.Batch c (Whole us)) fits = rw (size-clean c fits.0) (rw (numbers-clean (2 ^ 16) us (lit≤ tt) fits.1) (refl))
entry-clean (entry.Batch c (Counted k)) fits = rw (size-clean c fits.0) (refl)
entry-clean (entry.Stamp c d s) fits = rw (size-clean c fits.0) (rw (domain-clean d) (rw (decimal-clean s (omega (arith, fits.1))) (refl)))
entry-clean (entry.Pass c d n) fits = rw (size-clean c fits.0) (rw (domain-clean d) (rw (decimal-clean n (omega (arith, fits.1))) (refl)))
entry-clean (entry.BeginSecond c (Whole us)) fits = rw (size-clean c fits.0) (rw (numbers-clean (2 ^ 16) us (lit≤ tt) fits.1) (refl))
entry-clean (entry.BeginSecond c (Counted k)) fits = rw (size-clean c fits.0) (refl)
entry-clean (entry.Return c (Whole us)) fits = rw (size-clean c fits.0) (rw (numbers-clean (2 ^ 16) us (lit≤ tt) fits.1) (refl))
entry-clean (entry.Return c (Counted k)) fits = rw (size-clean c fits.0) (refl)
entry-clean (entry.Sweep c (Whole us)) fits = rw (size-clean c fits.0) (rw (numbers-clean (2 ^ 16) us (lit≤ tt) fits.1) (refl))
entry-clean (entry.Sweep c (Counted k)) fits = rw (size-clean c fits.0) (refl)
entry-clean (entry.PopFront name (Some o) pos) fits = rw (name-clean name fits.0) (rw (decimal-clean o.unit (omega (arith, fits.1.0))) (rw (decimal-clean o.life (omega (arith, fits.1.1))) (rw (decimal-clean pos (omega (arith, fits.2))) refl)))
entry-clean (entry.PopFront name None pos) fits = rw (name-clean name fits.0) (rw (decimal-clean pos (omega (arith, fits.2))) refl)
entry-clean (entry.PopBack name (Some o) pos) fits = rw (name-clean name fits.0) (rw (decimal-clean o.unit (omega (arith, fits.1.0))) (rw (decimal-clean o.life (omega (arith, fits.1.1))) (rw (decimal-clean pos (omega (arith, fits.2))) refl)))
entry-clean (entry.PopBack name None pos) fits = rw (name-clean name fits.0) (rw (decimal-clean pos (omega (arith, fits.2))) refl)
entry-clean (entry.First name (Some o) pos) fits = rw (name-clean name fits.0) (rw (decimal-clean o.unit (omega (arith, fits.1.0))) (rw (decimal-clean o.life (omega (arith, fits.1.1))) (rw (decimal-clean pos (omega (arith, fits.2))) refl)))
entry-clean (entry.First name None pos) fits = rw (name-clean name fits.0) (rw (decimal-clean pos (omega (arith, fits.2))) refl)
entry-clean (entry.Xchg name put was by) fits =
    let last = append-clean (codes "by" ∷ []) (text.call by) refl (call-clean by fits.3) in
    let middle = append-clean (codes "was" ∷ []) (text.object was ++ codes "by" ∷ text.call by) refl (append-clean (text.object was) (codes "by" ∷ text.call by) (object-clean was fits.2) last) in
    rw (name-clean name fits.0) (append-clean (text.object put) (codes "was" ∷ (text.object was ++ codes "by" ∷ text.call by)) (object-clean put fits.1) middle)
entry-clean (entry.Finish p) fits =
    let first = numbers-clean (2 ^ 32) p.first (lit≤ tt) fits.1.0 in
    let later = numbers-clean (2 ^ 32) p.later (lit≤ tt) fits.2.0 in
    rw (domain-clean p.domain) (rw (decimal-clean p.number (omega (arith, fits.0))) (append-clean (text.numbers p.first) (codes "later" ∷ text.numbers p.later) first later))

owner_clean : (maps : List (List ℕ)) (place : ℕ) → Each IsName maps → clean_words (owner_words (slice_get maps place)) ≡ true
owner_clean [] place h = refl
owner_clean (m ∷ maps) zero h = rw (name-clean m h.0) refl
owner_clean (m ∷ maps) (suc place) h = owner_clean maps place h.1

id_clean : (o : ObjId) → IdFits o → clean_words (text.object (Some o)) ≡ true
id_clean o h = object-clean (Some o) h

past-clean : (maps : List (List ℕ)) (call : PastCall) → Each IsName maps → PastCallFits call → clean_words (past_words maps call) ≡ true
past-clean maps (past.PushFront o) names h = id_clean o h
past-clean maps (past.PushBack o) names h = id_clean o h
past-clean maps (past.Add o key) names h = rw (decimal-clean o.unit (omega (arith, h.0.0))) (rw (decimal-clean o.life (omega (arith, h.0.1))) (rw (decimal-clean key (omega (arith, h.1))) refl))
past-clean maps (past.PushFrontAlready o other) names h = append-clean (text.object (Some o)) (codes "already" ∷ owner_words (slice_get maps other)) (id_clean o h.0) (owner_clean maps other names)
past-clean maps (past.PushBackAlready o other) names h = append-clean (text.object (Some o)) (codes "already" ∷ owner_words (slice_get maps other)) (id_clean o h.0) (owner_clean maps other names)
past-clean maps (past.AddAlready o key other) names h = rw (decimal-clean o.unit (omega (arith, h.0.0))) (rw (decimal-clean o.life (omega (arith, h.0.1))) (rw (decimal-clean key (omega (arith, h.1))) (owner_clean maps other names)))
past-clean maps (past.PopFront o) names h = id_clean o h
past-clean maps past.PopFrontNone names h = refl
past-clean maps (past.PopBack o) names h = id_clean o h
past-clean maps past.PopBackNone names h = refl
past-clean maps (past.First o) names h = id_clean o h
past-clean maps past.FirstNone names h = refl
past-clean maps (past.Remove o) names h = id_clean o h

total_clean : (t : Total) → clean (total_name t) ≡ true
total_clean total.Steps = refl
total_clean total.Given = refl
total_clean total.Empty = refl
total_clean total.Busy = refl
total_clean total.Last = refl
total_clean total.Still = refl
total_clean total.Acquired = refl
total_clean total.Exchanged = refl
total_clean total.Pushed = refl
total_clean total.Already = refl
total_clean total.Taken = refl
total_clean total.None = refl
total_clean total.Raised = refl
total_clean total.Worked = refl
total_clean total.Fetched = refl
total_clean total.Returned = refl
total_clean total.Plain = refl
total_clean total.Tracing = refl
total_clean total.Handlers = refl

pub line-clean : (maps : List (List ℕ)) (l : Line) → Each IsName maps → LineFits maps l → clean_words (line_head l ∷ line_tail maps l) ≡ true
line-clean maps (line_as.Size p g) names h = rw (decimal-clean p (omega (arith, h.0))) (rw (decimal-clean g (omega (arith, h.1))) refl)
line-clean maps (line_as.Types ns) names h = names-clean ns h
line-clean maps (line_as.Maps ns) names h = names-clean ns h.0
line-clean maps (line_as.Scripts ns) names h = names-clean ns h
line-clean maps (line_as.Class c m) names h = rw (size-clean c h.0) (rw (decimal-clean m.low (omega (arith, h.1.0))) (rw (decimal-clean m.high (omega (arith, h.1.1))) (rw (decimal-clean m.batch (omega (arith, h.1.2))) refl)))
line-clean maps (line_as.Processor p) names h = rw (decimal-clean p h) refl
line-clean maps (line_as.Entry l e) names h = rw (decimal-clean l (omega (arith, h.0))) (entry-clean e h.1)
line-clean maps (line_as.Graph n) names h = rw (name-clean n h) refl
line-clean maps (line_as.Past p call) names h = rw (decimal-clean p h.0) (rw (decimal-clean call.tag.processor (omega (arith, h.1.0.0))) (rw (decimal-clean call.tag.serial (omega (arith, h.1.0.1))) (past-clean maps call.call names h.1.1)))
line-clean maps (line_as.Total t v) names h = rw (total_clean t) (rw (decimal-clean v h) refl)
