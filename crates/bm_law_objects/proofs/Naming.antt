-- Which exchanges of a chain name which, and that a chain has those of all logs.
use Rattle.std.proofs.Common.{◌≡◌, ◌≢◌, ℕ, zero, suc, ◌+◌, ◌<◌, ◌≤◌, true, false, List, [], ◌∷◌, ◌++◌, length, get_or, None, Some, Option, refl, sym, ◌∙◌, ap, subst, arith, inl, inr, length-append, append_assoc}
use Rattle.std.proofs.lemmas.Bool.{cases_Bool, cases_lt}
use Rattle.std.proofs.lemmas.Bool.Decides.{eqb_tells}
use Rattle.std.proofs.lemmas.List.{get_or_past}
use Rattle.std.specs.Str.{bytes_eq}
use Rattle.bm_journal.specs.declared.ids.ObjId.{ObjId}
use Rattle.bm_journal.specs.declared.ids.Tag.{Tag}
use Rattle.bm_journal.specs.declared.entry.Entry.{Entry}
use Rattle.bm_journal.specs.declared.entry.Entry.TheVariants as entry
use Rattle.bm_law.specs.Lists.{Log}
use Rattle.bm_law_objects.specs.Gathered.{OneOf, gathered, gathered_from}
use Rattle.bm_law_objects.specs.Objects.{calls_after, is_call}
use Rattle.bm_law_objects.specs.SlotChain.{EachButLast, Exchange, Follow, SlotChain, all_exchanges, exchange_of, exchanges, names_tag, of_processor, same_tag, times_made, times_named}
use Rattle.bm_law_objects.proofs.Gathering.{from-below, one-from, one-split, sum-more, sum-none, sum-same, sum_below}

-- ---- a chain has the exchanges of all logs

abbrev Below : ℕ → List Exchange → Type 0
Below n [] = Unit {0}
Below n (x ∷ xs) = (x.tag.processor < n) × Below n xs

of-self : (x : Exchange) (xs : List Exchange) → of_processor x.tag.processor (x ∷ xs) ≡ x ∷ of_processor x.tag.processor xs
of-self x xs = elim (eqb_tells x.tag.processor x.tag.processor) [ inl y ↦ rw y.0 refl | inr y ↦ absurd (y.1 refl) ]

of-there : (p : ℕ) (x : Exchange) (xs : List Exchange) → x.tag.processor ≢ p → of_processor p (x ∷ xs) ≡ of_processor p xs
of-there p x xs ne = elim (eqb_tells x.tag.processor p) [ inl y ↦ absurd (ne y.1) | inr y ↦ rw y.0 refl ]

some-none : (x : Exchange) (xs ys : List Exchange) → ys ≡ x ∷ xs → ys ≡ [] → ⊥
some-none x xs ys e f = cc

all-below : (n : ℕ) (xs : List Exchange) → ((p : ℕ) → n ≤ p → of_processor p xs ≡ []) → Below n xs
all-below n [] h = tt
all-below n (x ∷ xs) h = (
  elim (cases_lt x.tag.processor n) [
    | inl lt ↦ lt
    | inr past ↦ absurd (some-none x (of_processor x.tag.processor xs) (of_processor x.tag.processor (x ∷ xs)) (of-self x xs) (h x.tag.processor past))
  ],
  all-below n xs (λ p past. elim (eqb_tells x.tag.processor p) [
    | inl y ↦ absurd (some-none x (of_processor x.tag.processor xs) (of_processor x.tag.processor (x ∷ xs)) (of-self x xs) (h x.tag.processor (subst (λ q. n ≤ q) (sym y.1) past)))
    | inr y ↦ sym (of-there p x xs y.1) ∙ h p past
  ]),
)

part-past : (slot : List ℕ) (logs : List Log) (c : SlotChain slot logs) (p : ℕ) → length logs ≤ p → of_processor p c.chain ≡ []
part-past slot logs c p past = c.parts p ∙ ap (exchanges slot p) (get_or_past logs p [] past)

module _ (count : List Exchange → ℕ) (none : count [] ≡ 0) (both : (xs ys : List Exchange) → count (xs ++ ys) ≡ count xs + count ys) where
  parts-below : (n : ℕ) (xs : List Exchange) → Below n xs → count xs ≡ sum_below n (λ p. count (of_processor p xs))
  parts-below n [] h = none ∙ sym (sum-none n (λ p. count []) (λ p lt. none))
  parts-below n (x ∷ xs) h =
      let q = x.tag.processor in
      let here = ap count (of-self x xs) ∙ both (x ∷ []) (of_processor q xs) in
      let more = sum-more n q (count (x ∷ [])) (λ p. count (of_processor p (x ∷ xs))) (λ p. count (of_processor p xs)) h.0 here (λ p ne. ap count (of-there p x xs ne)) in
      let rest = parts-below n xs h.1 in
      let all = both (x ∷ []) xs in
      omega (arith, more, rest, all)

  pub logs-below : (slot : List ℕ) (logs : List Log) → count (all_exchanges slot logs) ≡ sum_below (length logs) (λ p. count (exchanges slot p (get_or logs p [])))
  logs-below slot logs =
      let a = from-below calls_after (exchange_of slot) count none both 0 0 logs in
      let b = sum-same (length logs) (λ i. count (exchanges slot (0 + i) (get_or logs i []))) (λ p. count (exchanges slot p (get_or logs p []))) (λ p lt. ap (λ q. count (exchanges slot q (get_or logs p []))) (omega arith)) in
      a ∙ b

  pub chain-count : (slot : List ℕ) (logs : List Log) (c : SlotChain slot logs) → count (all_exchanges slot logs) ≡ count c.chain
  chain-count slot logs c =
      let n = length logs in
      let a = logs-below slot logs in
      let b = parts-below n c.chain (all-below n c.chain (part-past slot logs c)) in
      let s = sum-same n (λ p. count (of_processor p c.chain)) (λ p. count (exchanges slot p (get_or logs p []))) (λ p lt. ap count (c.parts p)) in
      omega (arith, a, b, s)

named-append : (t : Option Tag) (xs ys : List Exchange) → times_named t (xs ++ ys) ≡ times_named t xs + times_named t ys
named-append t [] ys = omega arith
named-append t (x ∷ xs) ys = let more = named-append t xs ys in elim (cases_Bool (names_tag t x.by)) [ inl y ↦ rw y (omega (arith, more)) | inr y ↦ rw y more ]

made-append : (t : Tag) (xs ys : List Exchange) → times_made t (xs ++ ys) ≡ times_made t xs + times_made t ys
made-append t [] ys = omega arith
made-append t (x ∷ xs) ys = let more = made-append t xs ys in elim (cases_Bool (same_tag t x.tag)) [ inl y ↦ rw y (omega (arith, more)) | inr y ↦ rw y more ]

-- ---- the start

start-later : (t : Tag) (held : Option ObjId) (xs : List Exchange) → Follow held (Some t) xs → times_named None xs ≡ 0
start-later t held [] h = refl
start-later t held (x ∷ xs) h = rw h.0.1 (start-later x.tag x.put xs h.1)

start-once : (held : Option ObjId) (xs : List Exchange) → 0 < length xs → Follow held None xs → times_named None xs ≡ 1
start-once held [] lt h = absurd (omega (arith, lt))
start-once held (x ∷ xs) lt h = (let later = start-later x.tag x.put xs h.1 in rw h.0.1 (omega (arith, later)))

pub start-named : (slot : List ℕ) (logs : List Log) → SlotChain slot logs → 0 < length (all_exchanges slot logs) → times_named None (all_exchanges slot logs) ≡ 1
start-named slot logs c lt =
    let many = chain-count length refl (λ xs ys. length-append xs ys) slot logs c in
    chain-count (times_named None) refl (named-append None) slot logs c ∙ start-once None c.chain (omega (arith, many, lt)) c.follow

-- ---- serials

same-tells : (a b : Tag) → same_tag a b ≡ true → (a.processor ≡ b.processor) × (a.serial ≡ b.serial)
same-tells a b h = elim (eqb_tells a.processor b.processor) [
  | inl y ↦ elim (eqb_tells a.serial b.serial) [ inl z ↦ (y.1, z.1) | inr z ↦ (let no : false ≡ true = rw z.0 at (rw y.0 at h) in cc) ]
  | inr y ↦ (let no : false ≡ true = rw y.0 at h in cc)
]

tag-itself : (a : Tag) → same_tag a a ≡ true
tag-itself a = elim (eqb_tells a.processor a.processor) [
  | inl y ↦ elim (eqb_tells a.serial a.serial) [ inl z ↦ rw (y.0, z.0) refl | inr z ↦ absurd (z.1 refl) ]
  | inr y ↦ absurd (y.1 refl)
]

-- an entry is this exchange, or it isn't
data IsMade (t : Tag) (p n : ℕ) (now later : ℕ) : Type 0 where
  Here : now ≡ 1 → t.processor ≡ p → t.serial ≡ n + 1 → later ≡ n + 1 → IsMade t p n now later
  Not : now ≡ 0 → n ≤ later → IsMade t p n now later

calls-grow : (n : ℕ) (e : ℕ × Entry) → n ≤ calls_after n e
calls-grow n e = elim (cases_Bool (is_call e.1)) [ inl y ↦ rw y (omega arith) | inr y ↦ rw y (omega arith) ]

is-made : (t : Tag) (slot : List ℕ) (p n : ℕ) (e : ℕ × Entry) → IsMade t p n (times_made t (exchange_of slot p n e)) (calls_after n e)
is-made t slot p n (l, entry.Xchg name put was by) = elim (cases_Bool (bytes_eq name slot)) [
  | inl y ↦ elim (cases_Bool (same_tag t (record { processor = p; serial = n + 1 }))) [
    | inl z ↦ (let same = same-tells t (record { processor = p; serial = n + 1 }) z in Here (rw y (rw z refl)) same.0 same.1 refl)
    | inr z ↦ Not (rw y (rw z refl)) (omega arith)
  ]
  | inr y ↦ Not (rw y refl) (omega arith)
]
is-made t slot p n (l, e) = Not refl (calls-grow n (l, e))

made-later : (t : Tag) (slot : List ℕ) (p n : ℕ) (log : Log) → t.serial ≤ n → times_made t (gathered calls_after (exchange_of slot p) n log) ≡ 0
made-later t slot p n [] le = refl
made-later t slot p n (e ∷ log) le =
    let rest = gathered calls_after (exchange_of slot p) (calls_after n e) log in
    let both = made-append t (exchange_of slot p n e) rest in
    elim (is-made t slot p n e) [
      | Here one same serial later ↦ absurd (omega (arith, le, serial))
      | Not zeros grows ↦ let more = made-later t slot p (calls_after n e) log (omega (arith, le, grows)) in omega (arith, both, zeros, more)
    ]

made-other : (t : Tag) (slot : List ℕ) (p n : ℕ) (log : Log) → t.processor ≢ p → times_made t (gathered calls_after (exchange_of slot p) n log) ≡ 0
made-other t slot p n [] ne = refl
made-other t slot p n (e ∷ log) ne =
    let rest = gathered calls_after (exchange_of slot p) (calls_after n e) log in
    let both = made-append t (exchange_of slot p n e) rest in
    elim (is-made t slot p n e) [
      | Here one same serial later ↦ absurd (ne same)
      | Not zeros grows ↦ let more = made-other t slot p (calls_after n e) log ne in omega (arith, both, zeros, more)
    ]

made-in-log : (t : Tag) (slot : List ℕ) (p n : ℕ) (log : Log) → times_made t (gathered calls_after (exchange_of slot p) n log) ≤ 1
made-in-log t slot p n [] = omega arith
made-in-log t slot p n (e ∷ log) =
    let rest = gathered calls_after (exchange_of slot p) (calls_after n e) log in
    let both = made-append t (exchange_of slot p n e) rest in
    elim (is-made t slot p n e) [
      | Here one same serial later ↦ let none = made-later t slot p (calls_after n e) log (omega (arith, serial, later)) in omega (arith, both, one, none)
      | Not zeros grows ↦ let more = made-in-log t slot p (calls_after n e) log in omega (arith, both, zeros, more)
    ]

sum-single : (n q : ℕ) (f : ℕ → ℕ) → ((p : ℕ) → q ≢ p → f p ≡ 0) → sum_below n f ≤ f q
sum-single zero q f h = omega arith
sum-single (suc n) q f h = elim (eqb_tells q n) [
  | inl y ↦
      (let same = y.1 in
      let front = sum-none n f (λ p lt. h p (λ e. omega (arith, lt, e, same))) in
      let last : f n ≡ f q = ap f (sym same) in
      omega (arith, front, last))
  | inr y ↦ let front = sum-single n q f h in let last = h n y.1 in omega (arith, front, last)
]

-- no two exchanges of the logs have one tag
pub made-once : (slot : List ℕ) (logs : List Log) (t : Tag) → times_made t (all_exchanges slot logs) ≤ 1
made-once slot logs t =
    let all = logs-below (times_made t) refl (made-append t) slot logs in
    let f : ℕ → ℕ = λ p. times_made t (exchanges slot p (get_or logs p [])) in
    let one = sum-single (length logs) t.processor f (λ p ne. made-other t slot p 0 (get_or logs p []) ne) in
    let here = made-in-log t slot t.processor 0 (get_or logs t.processor []) in
    omega (arith, all, one, here)

-- ---- each but the last

but_last : List Exchange → List Exchange
but_last [] = []
but_last (x ∷ []) = []
but_last (x ∷ y ∷ xs) = x ∷ but_last (y ∷ xs)

-- those after an exchange name it and those among them that aren't the last
named-after : (t : Tag) (x : Exchange) (xs : List Exchange) → Follow x.put (Some x.tag) xs → times_named (Some t) xs ≡ times_made t (but_last (x ∷ xs))
unfolding but_last
named-after t x [] h = refl
named-after t x (y ∷ xs) h =
    let more = named-after t y xs h.1 in
    rw h.0.1 (elim (cases_Bool (same_tag t x.tag)) [ inl z ↦ rw z (omega (arith, more)) | inr z ↦ rw z more ])

named-made : (t : Tag) (xs : List Exchange) → Follow None None xs → times_named (Some t) xs ≡ times_made t (but_last xs)
unfolding but_last
named-made t [] h = refl
named-made t (x ∷ xs) h = rw h.0.1 (named-after t x xs h.1)

fewer : (t : Tag) (xs : List Exchange) → times_made t (but_last xs) ≤ times_made t xs
unfolding but_last
fewer t [] = omega arith
fewer t (x ∷ []) = omega arith
fewer t (x ∷ y ∷ xs) = let more = fewer t (y ∷ xs) in elim (cases_Bool (same_tag t x.tag)) [ inl z ↦ rw z (omega (arith, more)) | inr z ↦ rw z more ]

-- each but the last stands in front of another one
front-made : (P : Exchange → Type 0) (before xs : List Exchange) → ((x : Exchange) → 1 ≤ times_made x.tag (before ++ but_last xs) → P x) → EachButLast P xs
unfolding but_last
front-made P before [] h = tt
front-made P before (x ∷ []) h = tt
front-made P before (x ∷ y ∷ xs) h = (
  h x (let both = made-append x.tag before (x ∷ but_last (y ∷ xs)) in let itself = tag-itself x.tag in let one : times_made x.tag (x ∷ but_last (y ∷ xs)) ≡ times_made x.tag (but_last (y ∷ xs)) + 1 = rw itself refl in omega (arith, both, one)),
  front-made P (before ++ x ∷ []) (y ∷ xs) (λ z le. h z (subst (λ zs. 1 ≤ times_made z.tag zs) (append_assoc before (x ∷ []) (but_last (y ∷ xs))) le)),
)

pub next-named : (slot : List ℕ) (logs : List Log) (c : SlotChain slot logs) → EachButLast (λ x. times_named (Some x.tag) (all_exchanges slot logs) ≡ 1) c.chain
next-named slot logs c = front-made (λ x. times_named (Some x.tag) (all_exchanges slot logs) ≡ 1) [] c.chain (λ x le.
    let named = chain-count (times_named (Some x.tag)) refl (named-append (Some x.tag)) slot logs c in
    let made = chain-count (times_made x.tag) refl (made-append x.tag) slot logs c in
    let front = named-made x.tag c.chain c.follow in
    let less = fewer x.tag c.chain in
    let once = made-once slot logs x.tag in
    omega (arith, named, made, front, less, once, le))

-- what is named is an exchange of the logs, and is named at most as often as it is one
pub named-made-once : (slot : List ℕ) (logs : List Log) → SlotChain slot logs → (t : Tag) → times_named (Some t) (all_exchanges slot logs) ≤ times_made t (all_exchanges slot logs)
named-made-once slot logs c t =
    let named = chain-count (times_named (Some t)) refl (named-append (Some t)) slot logs c in
    let made = chain-count (times_made t) refl (made-append t) slot logs c in
    let front = named-made t c.chain c.follow in
    let less = fewer t c.chain in
    omega (arith, named, made, front, less)

-- ---- what is named was put

one-part : (P : Exchange → Type 0) (p : ℕ) (xs : List Exchange) → OneOf P (of_processor p xs) → OneOf P xs
one-part P p [] h = h
one-part P p (x ∷ xs) h = elim (eqb_tells x.tag.processor p) [
  | inl y ↦ (let here : OneOf P (x ∷ of_processor p xs) = rw y.0 at h in elim here [ inl a ↦ inl a | inr more ↦ inr (one-part P p xs more) ])
  | inr y ↦ inr (one-part P p xs (rw y.0 at h))
]

one-own : (P : Exchange → Type 0) (xs : List Exchange) → OneOf P xs → (p : ℕ) × OneOf P (of_processor p xs)
one-own P [] h = absurd h
one-own P (x ∷ xs) h = elim h [
  | inl a ↦ (x.tag.processor, subst (OneOf P) (sym (of-self x xs)) (inl a))
  | inr more ↦ let r = one-own P xs more in (r.0, elim (eqb_tells x.tag.processor r.0) [ inl y ↦ rw y.0 (inr r.1) | inr y ↦ rw y.0 r.1 ])
]

one-of-logs : (P : Exchange → Type 0) (slot : List ℕ) (q : ℕ) (logs : List Log) → OneOf P (gathered_from calls_after (exchange_of slot) 0 q logs) → (i : ℕ) × OneOf P (exchanges slot (q + i) (get_or logs i []))
one-of-logs P slot q [] h = absurd h
one-of-logs P slot q (log ∷ logs) h =
    elim (one-split calls_after (exchange_of slot) P (exchanges slot q log) (gathered_from calls_after (exchange_of slot) 0 (q + 1) logs) h) [
      | inl a ↦ (0, subst (λ p. OneOf P (exchanges slot p log)) (omega arith) a)
      | inr a ↦ let r = one-of-logs P slot (q + 1) logs a in (suc r.0, subst (λ p. OneOf P (exchanges slot p (get_or logs r.0 []))) (omega arith) r.1)
    ]

in-chain : (P : Exchange → Type 0) (slot : List ℕ) (logs : List Log) (c : SlotChain slot logs) → OneOf P (all_exchanges slot logs) → OneOf P c.chain
in-chain P slot logs c h =
    let r = one-of-logs P slot 0 logs h in
    let here : OneOf P (exchanges slot r.0 (get_or logs r.0 [])) = subst (λ p. OneOf P (exchanges slot p (get_or logs r.0 []))) (omega arith) r.1 in
    one-part P r.0 c.chain (subst (OneOf P) (sym (c.parts r.0)) here)

in-logs : (P : Exchange → Type 0) (slot : List ℕ) (logs : List Log) (c : SlotChain slot logs) → OneOf P c.chain → OneOf P (all_exchanges slot logs)
in-logs P slot logs c h =
    let r = one-own P c.chain h in
    let here : OneOf P (exchanges slot r.0 (get_or logs r.0 [])) = subst (OneOf P) (c.parts r.0) r.1 in
    elim (cases_lt r.0 (length logs)) [
      | inl lt ↦ one-from calls_after (exchange_of slot) P 0 0 r.0 r.0 logs lt (omega arith) here
      | inr past ↦ absurd (subst (λ log. OneOf P (exchanges slot r.0 log)) (get_or_past logs r.0 [] past) here)
    ]

took-after : (t : Tag) (object : Option ObjId) (x : Exchange) (xs : List Exchange) → Follow x.put (Some x.tag) xs → OneOf (λ y. (y.by ≡ Some t) × (y.was ≡ object)) xs → OneOf (λ y. (y.tag ≡ t) × (y.put ≡ object)) (x ∷ xs)
took-after t object x [] f h = absurd h
took-after t object x (y ∷ xs) f h = elim h [
  | inl a ↦ inl (some-same (sym f.0.1 ∙ a.0), sym f.0.0 ∙ a.1)
  | inr more ↦ inr (took-after t object y xs f.1 more)
]
  where
    tag_or : Tag → Option Tag → Tag
    tag_or d None = d
    tag_or d (Some x) = x

    some-same : {a b : Tag} → Some a ≡ Some b → a ≡ b
    some-same {a} h = ap (tag_or a) h

pub took-put : (slot : List ℕ) (logs : List Log) → SlotChain slot logs → (t : Tag) (object : Option ObjId) → OneOf (λ y. (y.by ≡ Some t) × (y.was ≡ object)) (all_exchanges slot logs) → OneOf (λ x. (x.tag ≡ t) × (x.put ≡ object)) (all_exchanges slot logs)
took-put slot logs c t object h =
    in-logs (λ x. (x.tag ≡ t) × (x.put ≡ object)) slot logs c (of-chain c.chain c.follow (in-chain (λ y. (y.by ≡ Some t) × (y.was ≡ object)) slot logs c h))
  where
    of-chain : (xs : List Exchange) → Follow None None xs → OneOf (λ y. (y.by ≡ Some t) × (y.was ≡ object)) xs → OneOf (λ x. (x.tag ≡ t) × (x.put ≡ object)) xs
    of-chain [] f k = absurd k
    of-chain (x ∷ xs) f k = elim k [
      | inl a ↦ (let no : None ≡ Some t = sym f.0.1 ∙ a.0 in cc)
      | inr more ↦ took-after t object x xs f.1 more
    ]
