-- The calls of a log, and the lock that it holds, behind one more entry.
use Rattle.std.specs.Prelude.{◌≡◌, ℕ, ◌+◌, Bool, true, false, ◌||◌, if◌then◌else◌, List, [], ◌∷◌, ◌++◌, Option, Some, None, IfSome, slice_get}
use Rattle.std.proofs.Common.{refl, ◌∙◌, ap}
use Rattle.bm_lang.specs.declared.scenario.MapDeclaration.{MapDeclaration}
use Rattle.bm_lang.specs.declared.scenario.MapId.{MapId}
use Rattle.bm_journal.specs.declared.entry.Entry.{Entry}
use Rattle.bm_journal.specs.declared.entry.Entry.TheVariants as entry
use Rattle.bm_journal.specs.Recording.{Appends}
use Rattle.bm_due.specs.Standing as standing
use Rattle.bm_due.specs.Standing.{kind_of}
use Rattle.bm_law.specs.Lists.{Log}
use Rattle.bm_law.specs.Phrases.{given}
use Rattle.bm_law_order.specs.Calls.{calls_after, calls_in, calls_over, is_call, lock_after, lock_in, lock_over}
use Rattle.bm_cache.specs.Steps.{is_free, is_note, is_reply, is_step}
use Rattle.bm_exec_levels.specs.Growing.{IsInner}
use Rattle.bm_exec_levels.specs.Turns.{told-more}

-- a lock is taken or given back
abbrev pub is_lock : Entry → Bool
is_lock (entry.Lock name) = true
is_lock (entry.Unlock name) = true
is_lock _ = false

-- a call, or a lock
abbrev pub is_marked : Entry → Bool
is_marked e = is_call e || is_lock e

-- the name of the list or tree whose lock is held, if any
abbrev pub name_in : Option MapDeclaration → Option (List ℕ)
name_in None = None
name_in (Some m) = Some m.name

abbrev pub lock_name : List MapDeclaration → Option MapId → Option (List ℕ)
lock_name maps None = None
lock_name maps (Some g) = name_in (slice_get maps g.0)

-- A log has so many calls, and holds this lock or none.
abbrev pub Reckons : (calls : ℕ) → (lock : Option (List ℕ)) → Log → Type 0
Reckons calls lock log = (calls_in log ≡ calls) × (lock_in log ≡ lock)

-- the calls that scripts make
abbrev pub is_object_call : Entry → Bool
is_object_call (entry.New name values) = true
is_object_call (entry.Drop u life) = true
is_object_call (entry.Acquire u life k) = true
is_object_call (entry.Get u life place value) = true
is_object_call (entry.Xchg name put was by) = true
is_object_call (entry.PushFront name u life pos) = true
is_object_call (entry.PushBack name u life pos) = true
is_object_call (entry.Add name u life pos) = true
is_object_call (entry.PushFrontAlready name u life owner pos) = true
is_object_call (entry.PushBackAlready name u life owner pos) = true
is_object_call (entry.AddAlready name u life owner pos) = true
is_object_call (entry.PopFront name item pos) = true
is_object_call (entry.PopBack name item pos) = true
is_object_call (entry.First name item pos) = true
is_object_call (entry.Remove name u life pos) = true
is_object_call _ = false

pub call-inner : (e : Entry) → is_object_call e ≡ true → IsInner e
call-inner (entry.Back name) h = absurd (cc)
call-inner (entry.In d w) h = absurd (cc)
call-inner (entry.Out d w) h = absurd (cc)
call-inner _ h = tt

pub call-stays : (e : Entry) → is_object_call e ≡ true → kind_of e ≡ standing.Stays
call-stays (entry.New name values) h = refl
call-stays (entry.Drop u life) h = refl
call-stays (entry.Acquire u life k) h = refl
call-stays (entry.Get u life place value) h = refl
call-stays (entry.Xchg name put was by) h = refl
call-stays (entry.PushFront name u life pos) h = refl
call-stays (entry.PushBack name u life pos) h = refl
call-stays (entry.Add name u life pos) h = refl
call-stays (entry.PushFrontAlready name u life owner pos) h = refl
call-stays (entry.PushBackAlready name u life owner pos) h = refl
call-stays (entry.AddAlready name u life owner pos) h = refl
call-stays (entry.PopFront name None pos) h = refl
call-stays (entry.PopFront name (Some item) pos) h = refl
call-stays (entry.PopBack name None pos) h = refl
call-stays (entry.PopBack name (Some item) pos) h = refl
call-stays (entry.First name None pos) h = refl
call-stays (entry.First name (Some item) pos) h = refl
call-stays (entry.Remove name u life pos) h = refl
call-stays _ h = absurd (cc)

pub call-noted : (e : Entry) → is_object_call e ≡ true → is_note e ≡ true
call-noted (entry.New name values) h = refl
call-noted (entry.Drop u life) h = refl
call-noted (entry.Acquire u life k) h = refl
call-noted (entry.Get u life place value) h = refl
call-noted (entry.Xchg name put was by) h = refl
call-noted (entry.PushFront name u life pos) h = refl
call-noted (entry.PushBack name u life pos) h = refl
call-noted (entry.Add name u life pos) h = refl
call-noted (entry.PushFrontAlready name u life owner pos) h = refl
call-noted (entry.PushBackAlready name u life owner pos) h = refl
call-noted (entry.AddAlready name u life owner pos) h = refl
call-noted (entry.PopFront name item pos) h = refl
call-noted (entry.PopBack name item pos) h = refl
call-noted (entry.First name item pos) h = refl
call-noted (entry.Remove name u life pos) h = refl
call-noted _ h = absurd (cc)

pub call-counts : (e : Entry) → is_object_call e ≡ true → is_call e ≡ true
call-counts (entry.New name values) h = refl
call-counts (entry.Drop u life) h = refl
call-counts (entry.Acquire u life k) h = refl
call-counts (entry.Get u life place value) h = refl
call-counts (entry.Xchg name put was by) h = refl
call-counts (entry.PushFront name u life pos) h = refl
call-counts (entry.PushBack name u life pos) h = refl
call-counts (entry.Add name u life pos) h = refl
call-counts (entry.PushFrontAlready name u life owner pos) h = refl
call-counts (entry.PushBackAlready name u life owner pos) h = refl
call-counts (entry.AddAlready name u life owner pos) h = refl
call-counts (entry.PopFront name item pos) h = refl
call-counts (entry.PopBack name item pos) h = refl
call-counts (entry.First name item pos) h = refl
call-counts (entry.Remove name u life pos) h = refl
call-counts _ h = absurd (cc)

-- what is no call
pub no-call-step : (e : Entry) → is_step e ≡ true → is_marked e ≡ false
no-call-step (entry.New name values) h = absurd (cc)
no-call-step (entry.Drop u life) h = absurd (cc)
no-call-step (entry.Acquire u life k) h = absurd (cc)
no-call-step (entry.Get u life place value) h = absurd (cc)
no-call-step (entry.Xchg name put was by) h = absurd (cc)
no-call-step (entry.PushFront name u life pos) h = absurd (cc)
no-call-step (entry.PushBack name u life pos) h = absurd (cc)
no-call-step (entry.Add name u life pos) h = absurd (cc)
no-call-step (entry.PushFrontAlready name u life owner pos) h = absurd (cc)
no-call-step (entry.PushBackAlready name u life owner pos) h = absurd (cc)
no-call-step (entry.AddAlready name u life owner pos) h = absurd (cc)
no-call-step (entry.PopFront name item pos) h = absurd (cc)
no-call-step (entry.PopBack name item pos) h = absurd (cc)
no-call-step (entry.First name item pos) h = absurd (cc)
no-call-step (entry.Remove name u life pos) h = absurd (cc)
no-call-step (entry.Lock name) h = absurd (cc)
no-call-step (entry.Unlock name) h = absurd (cc)
no-call-step _ h = refl

pub no-call-reply : (e : Entry) → is_reply e ≡ true → is_marked e ≡ false
no-call-reply (entry.New name values) h = absurd (cc)
no-call-reply (entry.Drop u life) h = absurd (cc)
no-call-reply (entry.Acquire u life k) h = absurd (cc)
no-call-reply (entry.Get u life place value) h = absurd (cc)
no-call-reply (entry.Xchg name put was by) h = absurd (cc)
no-call-reply (entry.PushFront name u life pos) h = absurd (cc)
no-call-reply (entry.PushBack name u life pos) h = absurd (cc)
no-call-reply (entry.Add name u life pos) h = absurd (cc)
no-call-reply (entry.PushFrontAlready name u life owner pos) h = absurd (cc)
no-call-reply (entry.PushBackAlready name u life owner pos) h = absurd (cc)
no-call-reply (entry.AddAlready name u life owner pos) h = absurd (cc)
no-call-reply (entry.PopFront name item pos) h = absurd (cc)
no-call-reply (entry.PopBack name item pos) h = absurd (cc)
no-call-reply (entry.First name item pos) h = absurd (cc)
no-call-reply (entry.Remove name u life pos) h = absurd (cc)
no-call-reply (entry.Lock name) h = absurd (cc)
no-call-reply (entry.Unlock name) h = absurd (cc)
no-call-reply _ h = refl

pub no-call-free : (u home : ℕ) (e : Entry) → is_free u home e ≡ true → is_marked e ≡ false
no-call-free v home (entry.New name values) h = absurd (cc)
no-call-free v home (entry.Drop u life) h = absurd (cc)
no-call-free v home (entry.Acquire u life k) h = absurd (cc)
no-call-free v home (entry.Get u life place value) h = absurd (cc)
no-call-free v home (entry.Xchg name put was by) h = absurd (cc)
no-call-free v home (entry.PushFront name u life pos) h = absurd (cc)
no-call-free v home (entry.PushBack name u life pos) h = absurd (cc)
no-call-free v home (entry.Add name u life pos) h = absurd (cc)
no-call-free v home (entry.PushFrontAlready name u life owner pos) h = absurd (cc)
no-call-free v home (entry.PushBackAlready name u life owner pos) h = absurd (cc)
no-call-free v home (entry.AddAlready name u life owner pos) h = absurd (cc)
no-call-free v home (entry.PopFront name item pos) h = absurd (cc)
no-call-free v home (entry.PopBack name item pos) h = absurd (cc)
no-call-free v home (entry.First name item pos) h = absurd (cc)
no-call-free v home (entry.Remove name u life pos) h = absurd (cc)
no-call-free v home (entry.Lock name) h = absurd (cc)
no-call-free v home (entry.Unlock name) h = absurd (cc)
no-call-free v home _ h = refl

pub no-call-given : (u life : ℕ) (seal : Option (ℕ × ℕ)) → is_marked (given u life seal) ≡ false
no-call-given u life None = refl
no-call-given u life (Some s) = refl

calls-append : (n : ℕ) (es fs : Log) → calls_over n (es ++ fs) ≡ calls_over (calls_over n es) fs
calls-append n [] fs = refl
calls-append n (e ∷ es) fs = calls-append (calls_after n e) es fs

calls-one :
    (es : Log) (l : ℕ) (e : Entry) (b : Bool) → is_call e ≡ b
    → calls_in (es ++ (l, e) ∷ []) ≡ (if b then calls_in es + 1 else calls_in es)
calls-one es l e b h =
    calls-append 0 es ((l, e) ∷ []) ∙ ap (λ c. if c then calls_in es + 1 else calls_in es) h

lock-append :
    (k : Option (List ℕ)) (es fs : Log) → lock_over k (es ++ fs) ≡ lock_over (lock_over k es) fs
lock-append k [] fs = refl
lock-append k (e ∷ es) fs = lock-append (lock_after k e.1) es fs

lock-one : (es : Log) (l : ℕ) (e : Entry) → lock_in (es ++ (l, e) ∷ []) ≡ lock_after (lock_in es) e
lock-one es l e = lock-append None es ((l, e) ∷ [])

-- an entry that is no lock leaves it
unlocked : (e : Entry) → is_lock e ≡ false → (k : Option (List ℕ)) → lock_after k e ≡ k
unlocked (entry.Lock name) h k = absurd (cc)
unlocked (entry.Unlock name) h k = absurd (cc)
unlocked _ h k = refl

call-unlocked : (e : Entry) → is_call e ≡ true → is_lock e ≡ false
call-unlocked (entry.Lock name) h = absurd (cc)
call-unlocked (entry.Unlock name) h = absurd (cc)
call-unlocked _ h = refl

either-false : (a b : Bool) → (a || b) ≡ false → (a ≡ false) × (b ≡ false)
either-false true b h = absurd (cc)
either-false false b h = (refl, h)

-- what a log has behind an entry that is neither a call nor a lock, behind a call, and behind a lock
pub counts-plain :
    (n : ℕ) (k : Option (List ℕ)) (l : ℕ) (e : Entry) (a b : Option Log) → is_marked e ≡ false
    → Appends a l e b → IfSome a (Reckons n k) → IfSome b (Reckons n k)
counts-plain n k l e a b h =
    let two = either-false (is_call e) (is_lock e) h in
    told-more (Reckons n k) (Reckons n k) a b l e
    (λ es q. (
      calls-one es l e false two.0 ∙ q.0,
      lock-one es l e ∙ (unlocked e two.1 (lock_in es) ∙ q.1),
    ))

pub counts-more :
    (n : ℕ) (k : Option (List ℕ)) (l : ℕ) (e : Entry) (a b : Option Log) → is_call e ≡ true
    → Appends a l e b → IfSome a (Reckons n k) → IfSome b (Reckons (n + 1) k)
counts-more n k l e a b h =
    told-more (Reckons n k) (Reckons (n + 1) k) a b l e
    (λ es q. (
      calls-one es l e true h ∙ ap (λ j. j + 1) q.0,
      lock-one es l e ∙ (unlocked e (call-unlocked e h) (lock_in es) ∙ q.1),
    ))

pub counts-locked :
    (n : ℕ) (k : Option (List ℕ)) (l : ℕ) (e : Entry) (a b : Option Log) → is_call e ≡ false
    → Appends a l e b → IfSome a (Reckons n k) → IfSome b (Reckons n (lock_after k e))
counts-locked n k l e a b h =
    told-more (Reckons n k) (Reckons n (lock_after k e)) a b l e
    (λ es q. (calls-one es l e false h ∙ q.0, lock-one es l e ∙ ap (λ j. lock_after j e) q.1))

-- each of the two by itself
pub counts-of :
    (o : Option Log) (n : ℕ) (k : Option (List ℕ)) → IfSome o (Reckons n k)
    → IfSome o (λ es. calls_in es ≡ n)
counts-of None n k h = tt
counts-of (Some es) n k h = h.0

pub locks-of :
    (o : Option Log) (n : ℕ) (k j : Option (List ℕ)) → k ≡ j → IfSome o (Reckons n k)
    → IfSome o (λ es. lock_in es ≡ j)
locks-of None n k j e h = tt
locks-of (Some es) n k j e h = h.1 ∙ e
