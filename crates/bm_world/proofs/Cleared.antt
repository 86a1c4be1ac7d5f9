-- Units that wait no more, and units that come.
use Rattle.std.proofs.Common.{◌≡◌, ◌⊎◌, ℕ, zero, suc, ◌<◌, true, false, List, [], ◌∷◌, length, get_or, set, length-set, replicate, refl, sym, ◌∙◌, ap, subst, inl, inr, arith, eqb, eq-eqb, ne_eqb, Option, Some, None, Result, Ok, Err, IfOk, OnOk, OnErr, IfSome, IfNone}
use Rattle.std.specs.Prelude.{◌&&◌, not}
use Rattle.std.specs.List.{All}
use Rattle.std.proofs.lemmas.Bool.{cases_eq, cases_lt, and_parts, and_from, false≢true}
use Rattle.std.proofs.lemmas.List.{get_or_past, get_or-set_same, get_or-set_other, length-replicate}
use Rattle.bm_law.specs.Stands.{times}
use Rattle.bm_page.specs.UnitState.{UnitState}
use Rattle.bm_grace.specs.Answers.{next}
use Rattle.bm_grace.specs.Rights.{Rights}
use Rattle.bm_post.specs.HasRoom.{has_room}
use Rattle.bm_post.specs.Rights.{AreSame, Gains, Lasting, Loses, MayLeave, numbers}
use Rattle.bm_post.specs.Calls.{Fetches, Receives, Takes}
use Rattle.bm_post.specs.PostState.{PostState, is_mine, rights_in}
use Rattle.bm_post.proofs.Counts.{here-times, zero-or-more}
use Rattle.bm_world.specs.WaitingState.{AreKept, cleared, counts_for, is_over, is_waiting, no_waits, rights_with, wait_of}
use Rattle.bm_world.specs.declared.wait.Wait.{Wait}

abbrev pub Waits : Type 0
Waits = List (Option Wait)

pub cleared-size : (ns : List ℕ) (ws : Waits) → length (cleared ns ws) ≡ length ws
cleared-size [] ws = refl
cleared-size (n ∷ ns) ws = cleared-size ns (set ws n None) ∙ length-set ws n None

set-none : (ws : Waits) (n : ℕ) → wait_of (set ws n None) n ≡ None
set-none ws n =
    elim (cases_lt n (length ws)) [
      | inl less ↦ get_or-set_same ws n None None less
      | inr past ↦ get_or_past (set ws n None) n None (rw length-set past)
    ]

-- of a unit that doesn't wait it stays so
pub cleared-none : (ns : List ℕ) (ws : Waits) (n : ℕ) → wait_of ws n ≡ None → wait_of (cleared ns ws) n ≡ None
cleared-none [] ws n h = h
cleared-none (m ∷ ns) ws n h =
    cleared-none ns (set ws m None) n (elim (cases_eq n m) [
      | inl same ↦ subst (λ k. wait_of (set ws m None) k ≡ None) (sym same) (set-none ws m)
      | inr other ↦ get_or-set_other ws m n None None other ∙ h
    ])

-- the others wait as before
pub cleared-either : (ns : List ℕ) (ws : Waits) (n : ℕ) → ((wait_of (cleared ns ws) n ≡ None) × (0 < times n ns)) ⊎ ((times n ns ≡ 0) × (wait_of (cleared ns ws) n ≡ wait_of ws n))
cleared-either [] ws n = inr (refl, refl)
cleared-either (m ∷ ns) ws n =
    elim (cases_eq n m) [
      | inl same ↦
          let one : eqb n m ≡ true = eq-eqb n m same in
          inl (cleared-none ns (set ws m None) n (subst (λ k. wait_of (set ws m None) k ≡ None) (sym same) (set-none ws m)), rw one (omega arith))
      | inr other ↦
          let none : eqb n m ≡ false = ne_eqb n m other in
          elim (cleared-either ns (set ws m None) n) [
            | inl gone ↦ inl (gone.0, rw none (let g = gone.1 in omega (arith, g)))
            | inr stays ↦ inr (rw none (let g = stays.0 in omega (arith, g)), stays.1 ∙ get_or-set_other ws m n None None other)
          ]
    ]

-- what waits is mine still
pub kept-cleared : (post post' : PostState) (p t : ℕ) (ns : List ℕ) (ws : Waits) → ((n : ℕ) → times n ns ≡ 0 → is_mine post' n ≡ is_mine post n) → AreKept post p t ws → AreKept post' p t (cleared ns ws)
kept-cleared post post' p t ns ws o k = record {
  size = cleared-size ns ws ∙ k.size;
  mine = λ n w e. let x = before n w e in o n x.0 ∙ k.mine n w x.1;
  began_plain = λ n w e. k.began_plain n w (before n w e).1;
  began_tracing = λ n w e. k.began_tracing n w (before n w e).1;
}
  where
    before : (n : ℕ) (w : Wait) → wait_of (cleared ns ws) n ≡ Some w → (times n ns ≡ 0) × (wait_of ws n ≡ Some w)
    before n w e =
        elim (cleared-either ns ws n) [
          | inl gone ↦ absurd (let x : is_waiting None ≡ is_waiting (Some w) = ap is_waiting (sym gone.0 ∙ e) in false≢true x)
          | inr stays ↦ (stays.0, sym stays.1 ∙ e)
        ]

pub lasting-cleared : (post post' : PostState) (p t : ℕ) (ns : List ℕ) (ws : Waits) → Lasting ns (rights_with post p t ws) (rights_with post' p t (cleared ns ws))
lasting-cleared post post' p t ns ws = record {
  settled = λ n life seal a b h.
      let q = and_parts (has_room n life) (not (is_waiting (wait_of ws n))) h in
      and_from (has_room n life) (not (is_waiting (wait_of (cleared ns ws) n))) q.0 (elim (cleared-either ns ws n) [
        | inl gone ↦ ap (λ w. not (is_waiting w)) gone.0
        | inr stays ↦ ap (λ w. not (is_waiting w)) stays.1 ∙ q.1
      ]);
  due = λ n life seal a b none h. ap (λ w. has_room n life && is_waiting w) (untried n none) ∙ h;
  ripe = λ n life seal a b none h. ap (λ w. has_room n life && is_over p t w seal) (untried n none) ∙ h;
  since = λ d x n a b h.
      elim (cleared-either ns ws n) [
        | inl gone ↦ ap (counts_for d x) gone.0
        | inr stays ↦ ap (counts_for d x) stays.1 ∙ h
      ];
}
  where
    untried : (n : ℕ) → times n ns ≡ 0 → wait_of (cleared ns ws) n ≡ wait_of ws n
    untried n none =
        elim (cleared-either ns ws n) [
          | inl gone ↦ absurd (let g = gone.1 in omega (arith, g, none))
          | inr stays ↦ stays.1
        ]

-- what isn't mine doesn't wait
still : (post : PostState) (p t n : ℕ) (ws : Waits) → AreKept post p t ws → is_mine post n ≡ false → (w : Option Wait) → wait_of ws n ≡ w → not (is_waiting w) ≡ true
still post p t n ws k f None e = refl
still post p t n ws k f (Some w) e = absurd (false≢true (sym f ∙ k.mine n w e))

-- units that came may be used again
pub takes-plain : (class : ℕ) (us : List UnitState) (post post' : PostState) (p t : ℕ) (ws : Waits) → AreKept post p t ws → Takes class us (rights_in post) (rights_in post') → Takes class us (rights_with post p t ws) (rights_with post' p t ws)
takes-plain class us post post' p t ws k x = record {
  of_class = x.of_class;
  settled = λ i d lt.
      let u : UnitState = get_or us i d in
      and_from (has_room u.number u.life) (not (is_waiting (wait_of ws u.number))) (x.settled i d lt) (still post p t u.number ws k (x.gains.were_not u.number (here-times us i d lt)) (wait_of ws u.number) refl);
  gains = record { once = x.gains.once; were_not = x.gains.were_not; are = x.gains.are; others = x.gains.others };
}

pub fetches-plain : {E : Type 0} (r : Result ℕ E) (class want : ℕ) (list longer : List UnitState) (post post' : PostState) (p t : ℕ) (ws : Waits) → AreKept post p t ws → IfOk r (λ n. Fetches class want n list longer (rights_in post) (rights_in post')) → IfOk r (λ n. Fetches class want n list longer (rights_with post p t ws) (rights_with post' p t ws))
fetches-plain (Ok n) class want list longer post post' p t ws k f = record { units = f.units; appended = f.appended; count = f.count; most = f.most; takes = takes-plain class f.units post post' p t ws k f.takes }
fetches-plain (Err e) class want list longer post post' p t ws k f = tt

pub receives-plain : {A : Type 0} (r : Option A) (items : A → List UnitState) (class : ℕ) (post post' : PostState) (p t : ℕ) (ws : Waits) → AreKept post p t ws → IfSome r (λ v. Receives class (items v) (rights_in post) (rights_in post')) → IfSome r (λ v. Receives class (items v) (rights_with post p t ws) (rights_with post' p t ws))
receives-plain (Some v) items class post post' p t ws k f = record { some = f.some; takes = takes-plain class (items v) post post' p t ws k f.takes }
receives-plain None items class post post' p t ws k f = tt

-- what waits is mine still, after units came
mine-gained : (us : List UnitState) (before now : Rights) (n : ℕ) → Gains (numbers us) before now → before.mine n ≡ true → now.mine n ≡ true
mine-gained us before now n g h =
    elim (zero-or-more (times n (numbers us))) [
      | inl none ↦ g.others n none ∙ h
      | inr some ↦ g.are n some
    ]

kept-more : (post post' : PostState) (p t : ℕ) (ws : Waits) → ((n : ℕ) → is_mine post n ≡ true → is_mine post' n ≡ true) → AreKept post p t ws → AreKept post' p t ws
kept-more post post' p t ws m k = record { size = k.size; mine = λ n w e. m n (k.mine n w e); began_plain = k.began_plain; began_tracing = k.began_tracing }

pub kept-fetched : {E : Type 0} (r : Result ℕ E) (class want : ℕ) (list longer : List UnitState) (post post' : PostState) (p t : ℕ) (ws : Waits) → AreKept post p t ws → IfOk r (λ n. Fetches class want n list longer (rights_in post) (rights_in post')) → OnErr r (AreSame (rights_in post) (rights_in post')) → AreKept post' p t ws
kept-fetched (Ok n) class want list longer post post' p t ws k f s = kept-more post post' p t ws (λ n h. mine-gained f.units (rights_in post) (rights_in post') n f.takes.gains h) k
kept-fetched (Err e) class want list longer post post' p t ws k f s = kept-more post post' p t ws (λ n h. s n ∙ h) k

pub kept-received : {A : Type 0} (r : Option A) (items : A → List UnitState) (class : ℕ) (post post' : PostState) (p t : ℕ) (ws : Waits) → AreKept post p t ws → IfSome r (λ v. Receives class (items v) (rights_in post) (rights_in post')) → IfNone r (AreSame (rights_in post) (rights_in post')) → AreKept post' p t ws
kept-received (Some v) items class post post' p t ws k f s = kept-more post post' p t ws (λ n h. mine-gained (items v) (rights_in post) (rights_in post') n f.takes.gains h) k
kept-received None items class post post' p t ws k f s = kept-more post post' p t ws (λ n h. s n ∙ h) k

pub kept-sent : {A E : Type 0} (r : Result A E) (us : List UnitState) (post post' : PostState) (p t : ℕ) (ws : Waits) → AreKept post p t ws → OnOk r (Loses (numbers us) (rights_in post) (rights_in post')) → OnErr r (AreSame (rights_in post) (rights_in post')) → AreKept post' p t (cleared (numbers us) ws)
kept-sent (Ok x) us post post' p t ws k l s = kept-cleared post post' p t (numbers us) ws l.others k
kept-sent (Err e) us post post' p t ws k l s = kept-cleared post post' p t (numbers us) ws (λ n h. s n) k

-- at first nothing waits
pub none-wait : (m n : ℕ) → wait_of (replicate m None) n ≡ None
none-wait zero n = refl
none-wait (suc m) zero = refl
none-wait (suc m) (suc n) = none-wait m n

pub none-kept : (post : PostState) (p t : ℕ) (ws : Waits) → ws ≡ no_waits → AreKept post p t ws
none-kept post p t ws e = record {
  size = ap length e ∙ length-replicate 65536 (let x : Option Wait = None in x);
  mine = λ n w h. absurd (never n w h);
  began_plain = λ n w h. absurd (never n w h);
  began_tracing = λ n w h. absurd (never n w h);
}
  where
    never : (n : ℕ) (w : Wait) → wait_of ws n ≡ Some w → ⊥
    never n w h = let x : is_waiting None ≡ is_waiting (Some w) = ap is_waiting (sym (none-wait 65536 n) ∙ (ap (λ (z : Waits). wait_of z n) (sym e) ∙ h)) in false≢true x

-- units that were to be sent wait no more, so those with room for one life more may leave
pub leave-cleared : {A E : Type 0} (r : Result A E) (us : List UnitState) (post post' : PostState) (p t : ℕ) (ws : Waits) → OnErr r (All (MayLeave (rights_in post)) us) → OnErr r (All (MayLeave (rights_with post' p t (cleared (numbers us) ws))) us)
leave-cleared (Ok x) us post post' p t ws h = tt
leave-cleared (Err e) us post post' p t ws h = λ i d lt.
    let u : UnitState = get_or us i d in
    let room : has_room u.number u.life ≡ true = elim (h i d lt) [ inl a ↦ a | inr b ↦ b ] in
    let free : wait_of (cleared (numbers us) ws) u.number ≡ None =
    elim (cleared-either (numbers us) ws u.number) [
      | inl gone ↦ gone.0
      | inr stays ↦ absurd (let some = here-times us i d lt in let none = stays.0 in omega (arith, some, none))
    ] in
    inl (and_from (has_room u.number u.life) (not (is_waiting (wait_of (cleared (numbers us) ws) u.number))) room (ap (λ w. not (is_waiting w)) free))

-- a unit of mine begins to wait now
pub kept-waiting : (post : PostState) (p t n : ℕ) (ws : Waits) (wait : Wait) → wait.plain ≡ next p → wait.tracing ≡ next t → is_mine post n ≡ true → AreKept post p t ws → AreKept post p t (set ws n (Some wait))
kept-waiting post p t n ws wait plain tracing mine k = record {
  size = length-set ws n (Some wait) ∙ k.size;
  mine = λ m w e. elim (either m w e) [ inl x ↦ subst (λ j. is_mine post j ≡ true) (sym x.0) mine | inr x ↦ k.mine m w x ];
  began_plain = λ m w e. elim (either m w e) [
    | inl x ↦ let q : w.plain ≡ next p = ap (λ (v : Wait). v.plain) x.1 ∙ plain in omega (arith, q)
    | inr x ↦ k.began_plain m w x
  ];
  began_tracing = λ m w e. elim (either m w e) [
    | inl x ↦ let q : w.tracing ≡ next t = ap (λ (v : Wait). v.tracing) x.1 ∙ tracing in omega (arith, q)
    | inr x ↦ k.began_tracing m w x
  ];
}
  where
    wait_in : Option Wait → Wait
    wait_in None = wait
    wait_in (Some w) = w

    either : (m : ℕ) (w : Wait) → wait_of (set ws n (Some wait)) m ≡ Some w → ((m ≡ n) × (w ≡ wait)) ⊎ (wait_of ws m ≡ Some w)
    either m w e =
        elim (cases_eq m n) [
          | inl same ↦ elim (cases_lt m (length ws)) [
            | inl less ↦ inl (same, sym (ap wait_in (sym (subst (λ j. wait_of (set ws n (Some wait)) j ≡ Some wait) (sym same) (get_or-set_same ws n (Some wait) None (subst (λ j. j < length ws) same less))) ∙ e)))
            | inr past ↦ absurd (let x : is_waiting None ≡ is_waiting (Some w) = ap is_waiting (sym (get_or_past (set ws n (Some wait)) m None (rw length-set past)) ∙ e) in false≢true x)
          ]
          | inr other ↦ inr (sym (get_or-set_other ws n m (Some wait) None other) ∙ e)
        ]
