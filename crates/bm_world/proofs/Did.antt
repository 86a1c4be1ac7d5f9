-- What each call of the world on one thread does.
use Rattle.std.proofs.Common.{◌≡◌, ◌≢◌, ◌⊎◌, ℕ, zero, suc, ◌+◌, ◌*◌, ◌%◌, ◌<◌, ◌≤◌, Bool, true, List, [], ◌∷◌, ◌++◌, length, map, get_or, set, drop, Option, None, Some, Result, Ok, Err, OnOk, refl, sym, ◌∙◌, ap, subst, arith, inl, inr, length-set, eq-eqb, ne_eqb}
use Rattle.std.specs.Prelude.{◌-◌, eqb, nat_lt, if◌then◌else◌, reverse, slice_index}
use Rattle.std.proofs.lemmas.Bool.{cases_eq, cases_lt, lt-ltb, le-ltb, cases_Bool}
use Rattle.std.proofs.lemmas.List.{get_or-set_same, get_or-set_other, map-append, length-map}
use Rattle.std.proofs.Math.Seq.{drop-append_seam}
use mathlib.Core.Path.{fun_ext}
use Rattle.bm_journal.specs.declared.ids.Domain.{Domain}
use Rattle.bm_journal.specs.declared.ids.Domain.TheVariants.{Plain, Tracing}
use Rattle.bm_journal.specs.declared.period.Period.{Period}
use Rattle.bm_law_order.specs.Act.{Act, sealed, units_of}
use Rattle.bm_law_order.specs.Act as act
use Rattle.bm_grace.specs.Answers.{BeganAt, CanFinish, ended, next}
use Rattle.bm_grace.specs.Begins.{begin_act}
use Rattle.bm_grace.specs.Known.{side}
use Rattle.bm_grace.specs.Calls.{found_at, looks}
use Rattle.bm_grace.specs.declared.answer.Began.{Began}
use Rattle.bm_grace.specs.declared.answer.Began.TheVariants.{Won, Moved}
use Rattle.bm_grace.specs.PlainState.{PlainState, domain_in, is_processor, period_begun, period_ended, period_looked, with_domain, word_moved, words_in}
use Rattle.bm_page.specs.UnitState.{UnitState}
use Rattle.bm_page.specs.Stock.{Stock, fetched as stock_fetched, returned, stocked_at}
use Rattle.bm_post.specs.PostState.{Parcels, PostState, all_returned, inbox, place, rights_in, sent_to, waits, with_inbox}
use Rattle.bm_post.specs.Rights.{Holds, number_of, numbers}
use Rattle.bm_law.proofs.Seen.{map-reverse}
use Rattle.bm_law_order.specs.ByDomain.{of}
use Rattle.bm_law_order.specs.Lives.{Lives}
use Rattle.bm_law_order.specs.Pages.{AllOut, all_back}
use Rattle.bm_law_order.specs.Parcels.{IsParcel, on_box}
use Rattle.bm_page.specs.declared.units.Seal.{Seal}
use Rattle.bm_law_order.specs.Shared.{Shared, found}
use Rattle.bm_law_order.specs.Bare.{bare_pool}
use Rattle.bm_law_order.specs.Looks.{Passes}
use Rattle.bm_law_order.specs.Words.{IsNextWord}
use Rattle.bm_law_order.specs.Acts.{ActFits, act_after}
use Rattle.bm_law_order.proofs.BarePool.{fetched-bare, returned-bare, stocked-bare}
use Rattle.std.specs.List.{All}
use Rattle.std.proofs.lemmas.List.{reverse-append}
use Rattle.std.proofs.lemmas.List.Elements.{All-append, All-cons, All-head, All-nil, All-tail}
use Rattle.std.proofs.lemmas.Bool.{and_parts}
use Rattle.bm_page.specs.declared.units.Stocked.{Stocked}
use Rattle.bm_law.specs.Stands.{times}
use Rattle.bm_post.proofs.Returned.{others-stay, times-reversed}
use Rattle.bm_world.specs.SideState.{SideState, known_of}
use Rattle.bm_world.specs.Told.{IsSideOf, OthersBegin, SideDoes, does-same, told, told_boxes}

-- one act, where what is told and the lengths are so
does-one : (x : Act) (a b c : SideState) → b ≡ c → ((p : ℕ) → IsSideOf p a → (lives : Lives) → ActFits p x (told lives a)) → ((p : ℕ) → IsSideOf p a → (lives : Lives) → act_after p x (told lives a) ≡ told lives c) → ((p : ℕ) → IsSideOf p a → IsSideOf p c) → ((p : ℕ) → IsSideOf p a → OthersBegin p a c) → SideDoes (x ∷ []) a b
does-one x a b c e fits after stays others = record {
  did = λ p s. record {
    leads = λ lives. record { fit = (fits p s lives, tt); now_is = after p s lives ∙ ap (told lives) (sym e) };
    stays = subst (IsSideOf p) (sym e) (stays p s);
    others = subst (OthersBegin p a) (sym e) (others p s);
  };
}

-- the side of the same processor
stays-like : (p : ℕ) (a b : SideState) → b.post.processor ≡ a.post.processor → b.post.processors ≡ a.post.processors → length b.post.inboxes ≡ length a.post.inboxes → b.grace.processor ≡ a.grace.processor → b.grace.processors ≡ a.grace.processors → length b.grace.plain.words ≡ length a.grace.plain.words → length b.grace.tracing.words ≡ length a.grace.tracing.words → IsSideOf p a → IsSideOf p b
stays-like p a b e1 e2 e3 e4 e5 e6 e7 s = record {
  post_is = e1 ∙ s.post_is;
  grace_is = e4 ∙ s.grace_is;
  agree = e2 ∙ (s.agree ∙ sym e5);
  turn = subst (λ n. p < n) (sym e5) s.turn;
  most = subst (λ n. n ≤ 8) (sym e5) s.most;
  boxes = e3 ∙ s.boxes;
  plain_words = e6 ∙ s.plain_words;
  tracing_words = e7 ∙ s.tracing_words;
}

abbrev with_post_grace : PostState → PlainState → SideState
with_post_grace p g = record { post = p; grace = g }

-- nothing happened
pub does-nothing : (a b : SideState) → b.post ≡ a.post → b.grace ≡ a.grace → SideDoes [] a b
does-nothing a b post grace =
    let e : b ≡ a = ap (λ p. with_post_grace p b.grace) post ∙ ap (with_post_grace a.post) grace in
    subst (λ w. SideDoes [] a w) (sym e) (does-same a)

-- ---- sections

at-word : (d : Domain) (w : ℕ) (a : SideState) (p : ℕ) → a.grace.processor ≡ p → w ≡ (side d (known_of a)).word + 1 → w ≡ slice_index (domain_in d a.grace).words p + 1
at-word Plain w a p s e = e ∙ ap (λ q. slice_index a.grace.plain.words q + 1) s
at-word Tracing w a p s e = e ∙ ap (λ q. slice_index a.grace.tracing.words q + 1) s

abbrev moved : (d : Domain) (a : SideState) → SideState
moved d a = record a { grace = with_domain d (word_moved a.grace.processor (domain_in d a.grace)) a.grace }

stays-moved : (d : Domain) (a : SideState) (p : ℕ) → IsSideOf p a → IsSideOf p (moved d a)
stays-moved Plain a p s = stays-like p a (moved Plain a) refl refl refl refl refl (length-set a.grace.plain.words a.grace.processor (slice_index a.grace.plain.words a.grace.processor + 1)) refl s
stays-moved Tracing a p s = stays-like p a (moved Tracing a) refl refl refl refl refl refl (length-set a.grace.tracing.words a.grace.processor (slice_index a.grace.tracing.words a.grace.processor + 1)) s

begins-moved : (d : Domain) (a : SideState) (p : ℕ) → OthersBegin p a (moved d a)
begins-moved Plain a p Plain q ne = refl
begins-moved Plain a p Tracing q ne = refl
begins-moved Tracing a p Plain q ne = refl
begins-moved Tracing a p Tracing q ne = refl

word-moved : (d : Domain) (w : ℕ) (a : SideState) (p : ℕ) (lives : Lives) → a.grace.processor ≡ p → w ≡ (side d (known_of a)).word + 1 → act_after p (act.Enters d w) (told lives a) ≡ told lives (moved d a)
word-moved Plain w a p lives s e =
    let F : ℕ → ℕ → Shared = λ q x. act_after q (act.Enters Plain x) (told lives a) in
    ap (λ q. F q w) (sym s) ∙ ap (F a.grace.processor) e
word-moved Tracing w a p lives s e =
    let F : ℕ → ℕ → Shared = λ q x. act_after q (act.Enters Tracing x) (told lives a) in
    ap (λ q. F q w) (sym s) ∙ ap (F a.grace.processor) e

is-word : (d : Domain) (w odd : ℕ) (a : SideState) (p : ℕ) (lives : Lives) → a.grace.processor ≡ p → w ≡ (side d (known_of a)).word + 1 → w % 2 ≡ odd → IsNextWord p odd w (of d (told lives a).words)
is-word Plain w odd a p lives s e h = record { next_is = at-word Plain w a p s e; parity = h }
is-word Tracing w odd a p lives s e h = record { next_is = at-word Tracing w a p s e; parity = h }

now-moved : (d : Domain) (a b : SideState) → b.post ≡ a.post → b.grace ≡ with_domain d (word_moved a.grace.processor (domain_in d a.grace)) a.grace → b ≡ moved d a
now-moved d a b post grace = ap (λ p. with_post_grace p b.grace) post ∙ ap (with_post_grace a.post) grace

pub does-enter : (d : Domain) (w : ℕ) (a b : SideState) → b.post ≡ a.post → b.grace ≡ with_domain d (word_moved a.grace.processor (domain_in d a.grace)) a.grace → w ≡ (side d (known_of a)).word + 1 → (side d (known_of a)).word % 2 ≡ 0 → SideDoes (act.Enters d w ∷ []) a b
does-enter d w a b post grace word even =
    does-one (act.Enters d w) a b (moved d a) (now-moved d a b post grace) (λ p s lives. is-word d w 1 a p lives s.grace_is word (odd (side d (known_of a)).word word even)) (λ p s lives. word-moved d w a p lives s.grace_is word) (λ p s. stays-moved d a p s) (λ p s. begins-moved d a p)
  where
    odd : (k : ℕ) → w ≡ k + 1 → k % 2 ≡ 0 → w % 2 ≡ 1
    odd k e h = omega (arith, e, h)

pub does-leave : (d : Domain) (w : ℕ) (a b : SideState) → b.post ≡ a.post → b.grace ≡ with_domain d (word_moved a.grace.processor (domain_in d a.grace)) a.grace → w ≡ (side d (known_of a)).word + 1 → (side d (known_of a)).word % 2 ≡ 1 → SideDoes (act.Leaves d w ∷ []) a b
does-leave d w a b post grace word odd =
    does-one (act.Leaves d w) a b (moved d a) (now-moved d a b post grace) (λ p s lives. is-word d w 0 a p lives s.grace_is word (even (side d (known_of a)).word word odd)) (λ p s lives. word-moved d w a p lives s.grace_is word) (λ p s. stays-moved d a p s) (λ p s. begins-moved d a p)
  where
    even : (k : ℕ) → w ≡ k + 1 → k % 2 ≡ 1 → w % 2 ≡ 0
    even k e h = omega (arith, e, h)

-- ---- numbers

stamp-fits : (d : Domain) (x : ℕ) (a : SideState) (lives : Lives) → x ≡ next (domain_in d a.grace).number → x ≡ next (of d (told lives a).numbers).number
stamp-fits Plain x a lives e = e
stamp-fits Tracing x a lives e = e

pub does-stamp : (d : Domain) (x : ℕ) (a b : SideState) → b ≡ a → x ≡ next (domain_in d a.grace).number → SideDoes (act.Stamps d x ∷ []) a b
does-stamp d x a b e h = does-one (act.Stamps d x) a b a e (λ p s lives. stamp-fits d x a lives h) (λ p s lives. refl) (λ p s. s) (λ p s d q ne. refl)

number-fits : (d : Domain) (n : ℕ) (a : SideState) (lives : Lives) → n ≡ (domain_in d a.grace).number → n ≡ (of d (told lives a).numbers).number
number-fits Plain n a lives e = e
number-fits Tracing n a lives e = e

pub does-read : (d : Domain) (x n : ℕ) (a b : SideState) → b ≡ a → n ≡ (domain_in d a.grace).number → SideDoes (act.Reads d x n ∷ []) a b
does-read d x n a b e h = does-one (act.Reads d x n) a b a e (λ p s lives. number-fits d n a lives h) (λ p s lives. refl) (λ p s. s) (λ p s d q ne. refl)

-- ---- periods

abbrev begun : (d : Domain) (r : Began) (a : SideState) → SideState
begun d r a = record a { grace = with_domain d (period_begun a.grace.processor r (domain_in d a.grace)) a.grace }

stays-begun : (d : Domain) (r : Began) (a : SideState) (p : ℕ) → IsSideOf p a → IsSideOf p (begun d r a)
stays-begun Plain Won a p s = stays-like p a (begun Plain Won a) refl refl refl refl refl refl refl s
stays-begun Tracing Won a p s = stays-like p a (begun Tracing Won a) refl refl refl refl refl refl refl s
stays-begun Plain (Moved n) a p s = stays-like p a (begun Plain (Moved n) a) refl refl refl refl refl refl refl s
stays-begun Tracing (Moved n) a p s = stays-like p a (begun Tracing (Moved n) a) refl refl refl refl refl refl refl s

-- only whose side it is may begin a period less
begins-begun : (d : Domain) (r : Began) (a : SideState) (p : ℕ) → a.grace.processor ≡ p → OthersBegin p a (begun d r a)
begins-begun Plain Won a p s Plain q ne = get_or-set_other a.grace.plain.begins a.grace.processor q (slice_index a.grace.plain.begins a.grace.processor - 1) 0 (λ e. ne (e ∙ s))
begins-begun Tracing Won a p s Tracing q ne = get_or-set_other a.grace.tracing.begins a.grace.processor q (slice_index a.grace.tracing.begins a.grace.processor - 1) 0 (λ e. ne (e ∙ s))
begins-begun Plain Won a p s Tracing q ne = refl
begins-begun Tracing Won a p s Plain q ne = refl
begins-begun Plain (Moved n) a p s Plain q ne = refl
begins-begun Plain (Moved n) a p s Tracing q ne = refl
begins-begun Tracing (Moved n) a p s Plain q ne = refl
begins-begun Tracing (Moved n) a p s Tracing q ne = refl

begin-fits : (d : Domain) (even : ℕ) (r : Began) (a : SideState) (p : ℕ) (lives : Lives) → even % 2 ≡ 0 → BeganAt r even → found_at even r ≡ (domain_in d a.grace).number → ActFits p (begin_act d even r) (told lives a)
begin-fits Plain even Won a p lives h g f = record { even = ap (λ k. k % 2) (sym f) ∙ h; number = ap (λ k. k + 1) f }
begin-fits Tracing even Won a p lives h g f = record { even = ap (λ k. k % 2) (sym f) ∙ h; number = ap (λ k. k + 1) f }
begin-fits Plain even (Moved n) a p lives h g f = (f, g)
begin-fits Tracing even (Moved n) a p lives h g f = (f, g)

begin-after : (d : Domain) (even : ℕ) (r : Began) (a : SideState) (p : ℕ) (lives : Lives) → a.grace.processor ≡ p → act_after p (begin_act d even r) (told lives a) ≡ told lives (begun d r a)
begin-after Plain even Won a p lives s = ap (λ q. act_after q (begin_act Plain even Won) (told lives a)) (sym s)
begin-after Tracing even Won a p lives s = ap (λ q. act_after q (begin_act Tracing even Won) (told lives a)) (sym s)
begin-after Plain even (Moved n) a p lives s = refl
begin-after Tracing even (Moved n) a p lives s = refl

pub does-begin : (d : Domain) (even : ℕ) (r : Began) (a b : SideState) → b.post ≡ a.post → b.grace ≡ with_domain d (period_begun a.grace.processor r (domain_in d a.grace)) a.grace → even % 2 ≡ 0 → BeganAt r even → found_at even r ≡ (domain_in d a.grace).number → SideDoes (begin_act d even r ∷ []) a b
does-begin d even r a b post grace h g f =
    does-one (begin_act d even r) a b (begun d r a) (ap (λ p. with_post_grace p b.grace) post ∙ ap (with_post_grace a.post) grace) (λ p s lives. begin-fits d even r a p lives h g f) (λ p s lives. begin-after d even r a p lives s.grace_is) (λ p s. stays-begun d r a p s) (λ p s. begins-begun d r a p s.grace_is)

-- a side whose number of a domain is odd has the period that is in progress
own-driver : (p : ℕ) (o : Option ℕ) (n : ℕ) → (if is_processor p o then n else 0) % 2 ≡ 1 → is_processor p o ≡ true
own-driver p o n h = elim (cases_Bool (is_processor p o)) [ inl own ↦ own | inr other ↦ absurd (let g = rw other at h in omega (arith, g)) ]

is-driver : (p : ℕ) (o : Option ℕ) → is_processor p o ≡ true → o ≡ Some p
is-driver p None h = absurd (cc)
is-driver p (Some q) h = ap (λ k. Some k) (eqb-is q p h)
  where
    eqb-is : (m n : ℕ) → eqb m n ≡ true → m ≡ n
    eqb-is m n e = elim (cases_eq m n) [ inl same ↦ same | inr other ↦ absurd (let f = ne_eqb m n other in cc) ]

driving : (d : Domain) (a : SideState) (p : ℕ) → a.grace.processor ≡ p → (side d (known_of a)).number % 2 ≡ 1 → is_processor a.grace.processor (domain_in d a.grace).driver ≡ true
driving Plain a p s h = own-driver a.grace.processor a.grace.plain.driver a.grace.plain.number h
driving Tracing a p s h = own-driver a.grace.processor a.grace.tracing.driver a.grace.tracing.number h

drives : (d : Domain) (a : SideState) (p : ℕ) (lives : Lives) → a.grace.processor ≡ p → (side d (known_of a)).number % 2 ≡ 1 → (of d (told lives a).numbers).driver ≡ Some p
drives Plain a p lives s h = is-driver p a.grace.plain.driver (ap (λ q. is_processor q a.grace.plain.driver) (sym s) ∙ driving Plain a p s h)
drives Tracing a p lives s h = is-driver p a.grace.tracing.driver (ap (λ q. is_processor q a.grace.tracing.driver) (sym s) ∙ driving Tracing a p s h)

abbrev looked : (d : Domain) (a : SideState) → SideState
looked d a = record a { grace = with_domain d (period_looked (words_in d a.grace) (domain_in d a.grace)) a.grace }

stays-looked : (d : Domain) (a : SideState) (p : ℕ) → IsSideOf p a → IsSideOf p (looked d a)
stays-looked Plain a p s = stays-like p a (looked Plain a) refl refl refl refl refl refl refl s
stays-looked Tracing a p s = stays-like p a (looked Tracing a) refl refl refl refl refl refl refl s

begins-looked : (d : Domain) (a : SideState) (p : ℕ) → OthersBegin p a (looked d a)
begins-looked Plain a p Plain q ne = refl
begins-looked Plain a p Tracing q ne = refl
begins-looked Tracing a p Plain q ne = refl
begins-looked Tracing a p Tracing q ne = refl

later-is : (d : Domain) (a : SideState) (lives : Lives) → is_processor a.grace.processor (domain_in d a.grace).driver ≡ true → (side d (known_of (looked d a))).later ≡ found (told lives a) d
later-is Plain a lives h = ap (λ b. if b then words_in Plain a.grace else []) h
later-is Tracing a lives h = ap (λ b. if b then words_in Tracing a.grace else []) h

look-after : (d : Domain) (words : List ℕ) (a : SideState) (p : ℕ) (lives : Lives) → words ≡ found (told lives a) d → act_after p (act.Looks d words) (told lives a) ≡ told lives (looked d a)
look-after Plain words a p lives e = ap (λ ws. act_after p (act.Looks Plain ws) (told lives a)) e
look-after Tracing words a p lives e = ap (λ ws. act_after p (act.Looks Tracing ws) (told lives a)) e

some-words : (d : Domain) (n p : ℕ) (ws : List ℕ) → p < n → length ws ≡ looks d n → ws ≢ []
some-words Plain n p ws lt e q = absurd (let f = ap length q in omega (arith, lt, e, f))
some-words Tracing n p ws lt e q = absurd (let f = ap length q in omega (arith, lt, e, f))

pub does-look : (d : Domain) (a b : SideState) → b.post ≡ a.post → b.grace ≡ with_domain d (period_looked (words_in d a.grace) (domain_in d a.grace)) a.grace → (side d (known_of a)).number % 2 ≡ 1 → length (side d (known_of b)).later ≡ looks d a.grace.processors → SideDoes (act.Looks d (side d (known_of b)).later ∷ []) a b
does-look d a b post grace odd count =
    let e : b ≡ looked d a = ap (λ p. with_post_grace p b.grace) post ∙ ap (with_post_grace a.post) grace in
    let words = (side d (known_of b)).later in
    let ws : (lives : Lives) (q : ℕ) → a.grace.processor ≡ q → words ≡ found (told lives a) d = λ lives q s. ap (λ z. (side d (known_of z)).later) e ∙ later-is d a lives (driving d a q s odd) in
    does-one (act.Looks d words) a b (looked d a) e
    (λ p s lives. record { driver = drives d a p lives s.grace_is odd; words_are = ws lives p s.grace_is; some = some-words d a.grace.processors p words s.turn count })
    (λ p s lives. look-after d words a p lives (ws lives p s.grace_is)) (λ p s. stays-looked d a p s) (λ p s. begins-looked d a p)

pass-list : (n : ℕ) (xs ys : List ℕ) → length xs ≡ n → length ys ≡ n → ((i : ℕ) → i < n → (slice_index xs i % 2 ≡ 0) ⊎ (slice_index xs i < slice_index ys i)) → Passes xs ys
pass-list n [] [] e f h = tt
pass-list n [] (y ∷ ys) e f h = absurd (omega (arith, e, f))
pass-list n (x ∷ xs) [] e f h = absurd (omega (arith, e, f))
pass-list zero (x ∷ xs) (y ∷ ys) e f h = absurd (omega (arith, e))
pass-list (suc n) (x ∷ xs) (y ∷ ys) e f h = (h 0 (omega arith), pass-list n xs ys (omega (arith, e)) (omega (arith, f)) (λ i lt. h (suc i) (omega arith)))

abbrev finished : (d : Domain) (a : SideState) → SideState
finished d a = record a { grace = with_domain d (period_ended (domain_in d a.grace)) a.grace }

stays-finished : (d : Domain) (a : SideState) (p : ℕ) → IsSideOf p a → IsSideOf p (finished d a)
stays-finished Plain a p s = stays-like p a (finished Plain a) refl refl refl refl refl refl refl s
stays-finished Tracing a p s = stays-like p a (finished Tracing a) refl refl refl refl refl refl refl s

finish-fits : (d : Domain) (a : SideState) (p : ℕ) (lives : Lives) → a.grace.processor ≡ p → CanFinish d (known_of a) → ActFits p (act.Finishes (ended d (side d (known_of a)))) (told lives a)
finish-fits Plain a p lives s h =
    let own = driving Plain a p s h.driving in
    record {
      number = record {
        driver = drives Plain a p lives s h.driving;
        odd = ap (λ b. (if b then a.grace.plain.number else 0) % 2) (sym own) ∙ h.driving;
        number = ap (λ b. (if b then a.grace.plain.number else 0) + 1) own;
      };
      first = ap (λ b. if b then a.grace.plain.first else []) own;
      later = ap (λ b. if b then a.grace.plain.later else []) own;
      passed = pass-list (looks Plain a.grace.processors) _ _ h.first h.later h.passed;
    }
finish-fits Tracing a p lives s h =
    let own = driving Tracing a p s h.driving in
    record {
      number = record {
        driver = drives Tracing a p lives s h.driving;
        odd = ap (λ b. (if b then a.grace.tracing.number else 0) % 2) (sym own) ∙ h.driving;
        number = ap (λ b. (if b then a.grace.tracing.number else 0) + 1) own;
      };
      first = ap (λ b. if b then a.grace.tracing.first else []) own;
      later = ap (λ b. if b then a.grace.tracing.later else []) own;
      passed = pass-list (looks Tracing a.grace.processors) _ _ h.first h.later h.passed;
    }

finish-after : (d : Domain) (a : SideState) (p : ℕ) (lives : Lives) → act_after p (act.Finishes (ended d (side d (known_of a)))) (told lives a) ≡ told lives (finished d a)
finish-after Plain a p lives = refl
finish-after Tracing a p lives = refl

-- what is answered, by what stands there
abbrev standing_period : Domain → SideState → Period
standing_period d a = record { domain = d; number = (domain_in d a.grace).number + 1; first = (domain_in d a.grace).first; later = (domain_in d a.grace).later }

pub standing-ended : (d : Domain) (a : SideState) → CanFinish d (known_of a) → standing_period d a ≡ ended d (side d (known_of a))
standing-ended Plain a h =
    let F : Bool → Period = λ b. record { domain = Plain; number = (if b then a.grace.plain.number else 0) + 1; first = if b then a.grace.plain.first else []; later = if b then a.grace.plain.later else [] } in
    ap F (sym (driving Plain a a.grace.processor refl h.driving))
standing-ended Tracing a h =
    let F : Bool → Period = λ b. record { domain = Tracing; number = (if b then a.grace.tracing.number else 0) + 1; first = if b then a.grace.tracing.first else []; later = if b then a.grace.tracing.later else [] } in
    ap F (sym (driving Tracing a a.grace.processor refl h.driving))

begins-finished : (d : Domain) (a : SideState) (p : ℕ) → OthersBegin p a (finished d a)
begins-finished Plain a p Plain q ne = refl
begins-finished Plain a p Tracing q ne = refl
begins-finished Tracing a p Plain q ne = refl
begins-finished Tracing a p Tracing q ne = refl

pub does-finish : (d : Domain) (period : Period) (a b : SideState) → b.post ≡ a.post → b.grace ≡ with_domain d (period_ended (domain_in d a.grace)) a.grace → CanFinish d (known_of a) → period ≡ ended d (side d (known_of a)) → SideDoes (act.Finishes period ∷ []) a b
does-finish d period a b post grace can is =
    let e : b ≡ finished d a = ap (λ p. with_post_grace p b.grace) post ∙ ap (with_post_grace a.post) grace in
    subst (λ x. SideDoes (act.Finishes x ∷ []) a b) (sym is)
    (does-one (act.Finishes (ended d (side d (known_of a)))) a b (finished d a) e (λ p s lives. finish-fits d a p lives s.grace_is can) (λ p s lives. finish-after d a p lives) (λ p s. stays-finished d a p s) (λ p s. begins-finished d a p))

-- ---- the stock

abbrev with_pool : Stock → SideState → SideState
with_pool pool a = record a { post = record a.post { pool = pool } }

now-pool : (pool : Stock) (a b : SideState) → b.post ≡ record a.post { pool = pool } → b.grace ≡ a.grace → b ≡ with_pool pool a
now-pool pool a b post grace = ap (λ p. with_post_grace p b.grace) post ∙ ap (with_post_grace (record a.post { pool = pool })) grace

stays-pool : (pool : Stock) (a : SideState) (p : ℕ) → IsSideOf p a → IsSideOf p (with_pool pool a)
stays-pool pool a p s = stays-like p a (with_pool pool a) refl refl refl refl refl refl refl s

came : (xs ys us : List UnitState) → ys ≡ xs ++ us → numbers (drop (length xs) ys) ≡ numbers us
came xs ys us e = ap (λ (z : List UnitState). numbers (drop (length xs) z)) e ∙ ap numbers (drop-append_seam xs us)

pub does-fetch : {E : Type 0} (r : Result ℕ E) (class want : ℕ) (list longer : List UnitState) (a b : SideState) → OnOk r (longer ≡ list ++ (stock_fetched class want a.post.pool).units) → OnOk r (b.post ≡ record a.post { pool = (stock_fetched class want a.post.pool).pool }) → b.grace ≡ a.grace → OnOk r (SideDoes (act.Fetches class want (numbers (drop (length list) longer)) ∷ []) a b)
does-fetch (Err x) class want list longer a b us post grace = tt
does-fetch (Ok n) class want list longer a b us post grace =
    let pool = (stock_fetched class want a.post.pool).pool in
    let same = fetched-bare class want a.post.pool in
    does-one (act.Fetches class want (numbers (drop (length list) longer))) a b (with_pool pool a) (now-pool pool a b post grace)
    (λ p s lives. came list longer (stock_fetched class want a.post.pool).units us ∙ same.units)
    (λ p s lives. ap (λ z. record (told lives a) { pool = z }) (sym same.pools))
    (λ p s. stays-pool pool a p s) (λ p s d q ne. refl)

all-back : (us : List UnitState) (pool : Stock) → bare_pool (all_returned us pool) ≡ all_back (numbers us) (bare_pool pool)
all-back [] pool = refl
all-back (u ∷ us) pool = all-back us (returned u pool) ∙ ap (all_back (numbers us)) (returned-bare u pool)

-- a number that stands nowhere in a list isn't its first, and stands nowhere below
not-first : (x y : ℕ) (ys : List ℕ) → times x (y ∷ ys) ≡ 0 → y ≢ x
not-first x y ys t q = absurd (let o = rw (eq-eqb x y (sym q)) at t in omega (arith, o))

not-below : (x y : ℕ) (ys : List ℕ) → times x (y ∷ ys) ≡ 0 → times x ys ≡ 0
not-below x y ys t = omega (arith, t)

-- the numbers of units with their seals are the units'
pub units-sealed : (us : List UnitState) → units_of (sealed us) ≡ numbers us
units-sealed [] = refl
units-sealed (u ∷ us) = ap (λ ns. u.number ∷ ns) (units-sealed us)

abbrev IsOutOf : Stock → UnitState → Type 0
IsOutOf pool u = (stocked_at pool.units u.number).out ≡ true

-- a unit that is out stays out where another one goes back
still-out : (u : UnitState) (pool : Stock) (vs : List UnitState) → times u.number (numbers vs) ≡ 0 → All (IsOutOf pool) vs → All (IsOutOf (returned u pool)) vs
still-out u pool [] t h = All-nil (IsOutOf (returned u pool))
still-out u pool (v ∷ vs) t h =
    let other : v.number ≢ u.number = not-first u.number v.number (numbers vs) t in
    let none : times v.number (numbers (u ∷ [])) ≡ 0 = rw (ne_eqb v.number u.number other) refl in
    let same : stocked_at (returned u pool).units v.number ≡ stocked_at pool.units v.number = others-stay (u ∷ []) pool v.number none in
    All-cons (IsOutOf (returned u pool)) v vs (ap (λ (z : Stocked). z.out) same ∙ All-head (IsOutOf pool) v vs h)
    (still-out u pool vs (not-below u.number v.number (numbers vs) t) (All-tail (IsOutOf pool) v vs h))

-- units that are out, none of which is there twice, are out one after the other
all-out : (us : List UnitState) (pool : Stock) → All (IsOutOf pool) us → ((n : ℕ) → times n (numbers us) ≤ 1) → AllOut (numbers us) (bare_pool pool)
all-out [] pool h once = tt
all-out (u ∷ us) pool h once =
    let here : times u.number (numbers us) ≡ 0 = (let o = rw (eq-eqb u.number u.number refl) at (once u.number) in omega (arith, o)) in
    let rest : (n : ℕ) → times n (numbers us) ≤ 1 = λ n. (let o = once n in omega (arith, o)) in
    let more = all-out us (returned u pool) (still-out u pool us here (All-tail (IsOutOf pool) u us h)) rest in (
      ap (λ (z : Stocked). z.out) (stocked-bare pool.units u.number) ∙ All-head (IsOutOf pool) u us h,
      subst (AllOut (numbers us)) (returned-bare u pool) more,
    )

out-reversed : (us : List UnitState) (pool : Stock) → All (IsOutOf pool) us → All (IsOutOf pool) (reverse us)
out-reversed [] pool h = h
out-reversed (u ∷ us) pool h =
    subst (All (IsOutOf pool)) (sym (reverse-append (u ∷ []) us)) (All-append (IsOutOf pool) (reverse us) (u ∷ []) (out-reversed us pool (All-tail (IsOutOf pool) u us h)) (All-cons (IsOutOf pool) u [] (All-head (IsOutOf pool) u us h) (All-nil (IsOutOf pool))))

-- what is mine is out
mine-out : (post : PostState) (us : List UnitState) → All (λ (u : UnitState). (rights_in post).mine u.number ≡ true) us → All (IsOutOf post.pool) us
mine-out post [] h = All-nil (IsOutOf post.pool)
mine-out post (u ∷ us) h =
    All-cons (IsOutOf post.pool) u us
    (and_parts (stocked_at post.pool.units u.number).out (eqb (waits u.number post.inboxes) 0) (All-head (λ (v : UnitState). (rights_in post).mine v.number ≡ true) u us h)).0
    (mine-out post us (All-tail (λ (v : UnitState). (rights_in post).mine v.number ≡ true) u us h))

pub does-return : (us : List UnitState) (a b : SideState) → Holds (rights_in a.post) us → b.post ≡ record a.post { pool = all_returned (reverse us) a.post.pool } → b.grace ≡ a.grace → SideDoes (act.Returns (sealed us) ∷ []) a b
does-return us a b holds post grace =
    let pool = all_returned (reverse us) a.post.pool in
    let named : reverse (units_of (sealed us)) ≡ numbers (reverse us) = ap reverse (units-sealed us) ∙ sym (map-reverse number_of us) in
    let out = all-out (reverse us) a.post.pool (out-reversed us a.post.pool (mine-out a.post us holds.each)) (λ n. rw (times-reversed n us) (holds.once n)) in
    does-one (act.Returns (sealed us)) a b (with_pool pool a) (now-pool pool a b post grace)
    (λ p s lives. subst (λ (ns : List ℕ). AllOut ns (bare_pool a.post.pool)) (sym named) out)
    (λ p s lives. ap (λ z. record (told lives a) { pool = z }) (ap (λ ns. all_back ns (bare_pool a.post.pool)) named ∙ sym (all-back (reverse us) a.post.pool)))
    (λ p s. stays-pool pool a p s) (λ p s d q ne. refl)

-- ---- parcels

in-range : (s : PostState) (q k : ℕ) → q < 8 → k < 11 → told_boxes s q k ≡ map numbers (inbox q k s)
in-range s q k ql kl = rw (lt-ltb q 8 ql, lt-ltb k 11 kl) refl

out-of-range : (s : PostState) (q k : ℕ) → (8 ≤ q) ⊎ (11 ≤ k) → told_boxes s q k ≡ []
out-of-range s q k (inl ge) = rw (le-ltb q 8 ge) refl
out-of-range s q k (inr ge) = elim (cases_Bool (nat_lt q 8)) [ inl t ↦ rw (t, le-ltb k 11 ge) refl | inr t ↦ rw t refl ]

on-same : (p c q k : ℕ) (f : List (List ℕ) → List (List ℕ)) (boxes : ℕ → ℕ → List (List ℕ)) → q ≡ p → k ≡ c → on_box p c f boxes q k ≡ f (boxes q k)
on-same p c q k f boxes qp kc = rw (eq-eqb q p qp, eq-eqb k c kc) refl

on-other : (p c q k : ℕ) (f : List (List ℕ) → List (List ℕ)) (boxes : ℕ → ℕ → List (List ℕ)) → (q ≢ p) ⊎ (k ≢ c) → on_box p c f boxes q k ≡ boxes q k
on-other p c q k f boxes (inl ne) = rw (ne_eqb q p ne) refl
on-other p c q k f boxes (inr ne) = elim (cases_Bool (eqb q p)) [ inl t ↦ rw (t, ne_eqb k c ne) refl | inr t ↦ rw t refl ]

box-same : (p c q k : ℕ) (x : Parcels) (s : PostState) → p < 8 → c < 11 → length s.inboxes ≡ 88 → q ≡ p → k ≡ c → inbox q k (with_inbox p c x s) ≡ x
box-same p c q k x s pl cl len qp kc = ap (λ i. get_or (set s.inboxes (place p c) x) i []) (ap (λ m. 11 * m + k) qp ∙ ap (λ m. 11 * p + m) kc) ∙ get_or-set_same s.inboxes (place p c) x [] (omega (arith, pl, cl, len))

box-other : (p c q k : ℕ) (x : Parcels) (s : PostState) → c < 11 → k < 11 → (q ≢ p) ⊎ (k ≢ c) → inbox q k (with_inbox p c x s) ≡ inbox q k s
box-other p c q k x s cl kl h = get_or-set_other s.inboxes (place p c) (place q k) x [] (λ e. elim h [ inl ne ↦ ne (omega (arith, e, cl, kl)) | inr ne ↦ ne (omega (arith, e, cl, kl)) ])

either-box : (p c q k : ℕ) → ((q ≡ p) × (k ≡ c)) ⊎ ((q ≢ p) ⊎ (k ≢ c))
either-box p c q k = elim (cases_eq q p) [ inl qp ↦ elim (cases_eq k c) [ inl kc ↦ inl (qp, kc) | inr ne ↦ inr (inr ne) ] | inr ne ↦ inr (inl ne) ]

either-range : (q k : ℕ) → ((q < 8) × (k < 11)) ⊎ ((8 ≤ q) ⊎ (11 ≤ k))
either-range q k = elim (cases_lt q 8) [ inl ql ↦ elim (cases_lt k 11) [ inl kl ↦ inl (ql, kl) | inr ge ↦ inr (inr ge) ] | inr ge ↦ inr (inl ge) ]

pub told-box : (p c : ℕ) (x : Parcels) (f : List (List ℕ) → List (List ℕ)) (s : PostState) → p < 8 → c < 11 → length s.inboxes ≡ 88 → map numbers x ≡ f (map numbers (inbox p c s)) → told_boxes (with_inbox p c x s) ≡ on_box p c f (told_boxes s)
told-box p c x f s pl cl len e = fun_ext (λ q. fun_ext (λ k. at q k))
  where
    now : PostState
    now = with_inbox p c x s

    at : (q k : ℕ) → told_boxes (with_inbox p c x s) q k ≡ on_box p c f (told_boxes s) q k
    at q k =
        elim (either-range q k) [
          | inl r ↦ elim (either-box p c q k) [
            | inl b ↦
                in-range (with_inbox p c x s) q k r.0 r.1
                ∙ (ap (map numbers) (box-same p c q k x s pl cl len b.0 b.1)
                ∙ (e ∙ (ap f (ap (λ m. map numbers (inbox m c s)) (sym b.0) ∙ (ap (λ m. map numbers (inbox q m s)) (sym b.1) ∙ sym (in-range s q k r.0 r.1)))
                ∙ sym (on-same p c q k f (told_boxes s) b.0 b.1))))
            | inr o ↦
                in-range (with_inbox p c x s) q k r.0 r.1
                ∙ (ap (map numbers) (box-other p c q k x s cl r.1 o)
                ∙ (sym (in-range s q k r.0 r.1) ∙ sym (on-other p c q k f (told_boxes s) o)))
          ]
          | inr far ↦
              out-of-range (with_inbox p c x s) q k far
              ∙ (sym (out-of-range s q k far)
              ∙ sym (on-other p c q k f (told_boxes s) (elim far [ inl ge ↦ inl (λ z. omega (arith, ge, z, pl)) | inr ge ↦ inr (λ z. omega (arith, ge, z, cl)) ])))
        ]

with_posted : PostState → SideState → SideState
with_posted post a = record a { post = post }

pub does-send : {A E : Type 0} (r : Result A E) (to class : ℕ) (us : List UnitState) (a b : SideState) → OnOk r (b.post ≡ sent_to to class us a.post) → b.grace ≡ a.grace → class ≤ 10 → to < a.grace.processors → 0 < length us → OnOk r (SideDoes (act.Sends class to (sealed us) ∷ []) a b)
unfolding with_posted
does-send (Err x) to class us a b post grace few there some = tt
does-send (Ok n) to class us a b post grace few there some =
    let c = with_posted (sent_to to class us a.post) a in
    does-one (act.Sends class to (sealed us)) a b c (ap (λ p. with_post_grace p b.grace) post ∙ ap (with_post_grace (sent_to to class us a.post)) grace)
    (λ p s lives. record { there = there; some = subst (λ k. 0 < k) (sym (ap length (units-sealed us) ∙ length-map us number_of)) some })
    (λ p s lives. ap (λ z. record (told lives a) { boxes = z }) (sym (told-box to class (inbox to class a.post ++ us ∷ []) (λ ps. ps ++ units_of (sealed us) ∷ []) a.post (let m = s.most in omega (arith, there, m)) (omega (arith, few)) s.boxes (map-append numbers (inbox to class a.post) (us ∷ []) ∙ ap (λ ns. map numbers (inbox to class a.post) ++ ns ∷ []) (sym (units-sealed us))))))
    (λ p s. stays-like p a c refl refl (length-set a.post.inboxes (place to class) (inbox to class a.post ++ us ∷ [])) refl refl refl refl s) (λ p s d q ne. refl)

-- ---- the same, told of what units wait for

-- acts that do the same to what processors share
pub did-as : (a b : Act) (x y : SideState) → ((p : ℕ) (s : Shared) → ActFits p a s → ActFits p b s) → ((p : ℕ) (s : Shared) → act_after p b s ≡ act_after p a s) → SideDoes (a ∷ []) x y → SideDoes (b ∷ []) x y
did-as a b x y fits same d = record {
  did = λ p s.
      let h = d.did p s in
      record { leads = λ lives. (let k = h.leads lives in record { fit = (fits p (told lives x) k.fit.0, tt); now_is = same p (told lives x) ∙ k.now_is }); stays = h.stays; others = h.others };
}

pub did-give : (us : List UnitState) (x y : SideState) → SideDoes (act.Returns (sealed us) ∷ []) x y → SideDoes (act.GivesBack (numbers us) ∷ []) x y
did-give us x y d =
    did-as (act.Returns (sealed us)) (act.GivesBack (numbers us)) x y
    (λ p s f. subst (λ (ns : List ℕ). AllOut (reverse ns) s.pool) (units-sealed us) f)
    (λ p s. ap (λ (ns : List ℕ). record s { pool = all_back (reverse ns) s.pool }) (sym (units-sealed us))) d

pub did-drain : (c to : ℕ) (us : List UnitState) (x y : SideState) → SideDoes (act.Sends c to (sealed us) ∷ []) x y → SideDoes (act.Drains c to (numbers us) ∷ []) x y
did-drain c to us x y d =
    did-as (act.Sends c to (sealed us)) (act.Drains c to (numbers us)) x y
    (λ p s f. subst (λ (ns : List ℕ). IsParcel s.processors to ns) (units-sealed us) f)
    (λ p s. ap (λ (ns : List ℕ). record s { boxes = on_box to c (λ parcels. parcels ++ ns ∷ []) s.boxes }) (sym (units-sealed us))) d

pub did-release : (c to stamp seen : ℕ) (us : List UnitState) (x y : SideState) → SideDoes (act.Sends c to (sealed us) ∷ []) x y → SideDoes (act.Releases c to (numbers us) stamp seen ∷ []) x y
did-release c to stamp seen us x y d =
    did-as (act.Sends c to (sealed us)) (act.Releases c to (numbers us) stamp seen) x y
    (λ p s f. subst (λ (ns : List ℕ). IsParcel s.processors to ns) (units-sealed us) f)
    (λ p s. ap (λ (ns : List ℕ). record s { boxes = on_box to c (λ parcels. parcels ++ ns ∷ []) s.boxes }) (sym (units-sealed us))) d

pub drained-ok : {A E : Type 0} (P : Type 0) (r : Result A E) (c to : ℕ) (us : List UnitState) (x y : SideState) → OnOk r (SideDoes (act.Sends c to (sealed us) ∷ []) x y) → OnOk r (P → SideDoes (act.Drains c to (numbers us) ∷ []) x y)
drained-ok P (Ok n) c to us x y d = λ h. did-drain c to us x y d
drained-ok P (Err e) c to us x y d = tt

pub released-ok : {A E : Type 0} (P : Seal → Type 0) (r : Result A E) (c to : ℕ) (us : List UnitState) (x y : SideState) → OnOk r (SideDoes (act.Sends c to (sealed us) ∷ []) x y) → OnOk r ((seal : Seal) → P seal → SideDoes (act.Releases c to (numbers us) seal.stamp seal.seen ∷ []) x y)
released-ok P (Ok n) c to us x y d = λ seal h. did-release c to seal.stamp seal.seen us x y d
released-ok P (Err e) c to us x y d = tt
