-- What calls do where units live: what stays true, and what they do to the right to units.
use Rattle.std.proofs.Common.{◌≡◌, ◌≢◌, ◌⊎◌, ℕ, ◌+◌, ◌<◌, ◌≤◌, ◌^◌, Bool, true, false, not, ◌&&◌, List, [], ◌∷◌, ◌++◌, length, length-set, get_or, set, reverse, refl, sym, ◌∙◌, ap, subst, inl, inr, arith, eqb, eq-eqb, ne_eqb, is_some, Option, Some, None, Result, Ok, Err, IfOk, OnOk, OnErr, IfSome, IfNone}
use Rattle.std.specs.List.{All}
use Rattle.std.proofs.lemmas.Bool.{cases_eq, cases_lt, and_parts, and_from, eqb-true, false≢true}
use Rattle.std.specs.Prelude.{if◌then◌else◌}
use Rattle.std.proofs.lemmas.List.{append_cancel_left, get_or-set_other, get_or-set_same, get_or_past}
use Rattle.std.proofs.lemmas.List.Elements.{All-nil}
use Rattle.std.proofs.lemmas.List.Sums.{get_or-le-sum_by}
use Rattle.bm_law.specs.Stands.{times}
use Rattle.bm_page.specs.UnitState.{UnitState}
use Rattle.bm_page.specs.declared.units.Seal.{Seal}
use Rattle.bm_page.specs.Out.{IsFromStock}
use Rattle.bm_page.specs.Stock.{fetched, stocked_at}
use Rattle.bm_post.specs.HasRoom.{has_room, room-of}
use Rattle.bm_post.specs.Rights.{AreSame, Gains, Holds, IsSettled, Lasting, Loses, MayLeave, WaitedBy, numbers}
use Rattle.bm_post.specs.Calls.{Fetches, Receives, Takes}
use Rattle.bm_post.specs.PostState.{Parcels, PostState, all_returned, is_mine, rights_in, sent_to, taken_by, times_in, waits}
use Rattle.bm_post.proofs.Counts.{at-number, here-times, zero-or-more}
use Rattle.bm_post.proofs.Room.{room-is}
use Rattle.bm_grace.specs.PlainState.{PlainState}
use Rattle.bm_grace.specs.Rights.{AsBefore}
use Rattle.bm_world.specs.LivingState.{AreLiving, HaveLived, IsCounted, LivedAs, begun_at, may_be_used, may_live, next_life, rights_with_living, slots_counted, standings_after, wait_now}
use Rattle.bm_world.specs.Standings.{AreStanding, IsTimed, counts_for, has_waited, is_over, is_waiting, left_by, standing_at, standing_of}
use Rattle.bm_world.specs.declared.wait.Wait.{Wait}
use Rattle.bm_world.specs.declared.standing.Standing.{Standing}
use Rattle.bm_world.specs.declared.standing.Standing.TheVariants.{Nothing, Waits}
use Rattle.bm_world.specs.Slots.{AllEmpty, new_object, object_at, unit_at, with_count}
use Rattle.bm_world.specs.declared.slots.Object.{Object}
use Rattle.bm_world.proofs.Left.{Standings, among, left-other, left-size, left-there, timed-so, waited-so}
use Rattle.bm_world.proofs.Lived.{came-lived, lived-back, lived-sent}
use Rattle.bm_world.proofs.SlotLemmas.{Slotted, at-other, at-same, no-object, none-not, none-of, not-both, object-other, object-same, some-one, unit-stays, within}

-- ---- the tests

pub lives-as : (begun : List ℕ) (n life : ℕ) → may_live begun n life ≡ true → life ≡ begun_at begun n
lives-as begun n life h = eqb-true life (begun_at begun n) (and_parts (has_room n life) (eqb life (begun_at begun n)) h).1

pub has-room : (begun : List ℕ) (n life : ℕ) → may_live begun n life ≡ true → has_room n life ≡ true
has-room begun n life h = (and_parts (has_room n life) (eqb life (begun_at begun n)) h).0

pub may-live : (begun : List ℕ) (n life : ℕ) → has_room n life ≡ true → life ≡ begun_at begun n → may_live begun n life ≡ true
may-live begun n life r h = and_from (has_room n life) (eqb life (begun_at begun n)) r (eq-eqb life (begun_at begun n) h)

-- .. and it doesn't wait and has its seal
pub may-be-used : (begun : List ℕ) (standings : Standings) (n life : ℕ) (seal : Option Seal) → may_live begun n life ≡ true → standing_at standings n ≡ standing_of seal → may_be_used begun standings n life seal ≡ true
may-be-used begun standings n life seal h s = and_from (may_live begun n life) (has_waited (standing_at standings n) seal) h (waited-so (standing_at standings n) seal s)

pub lives-so : (begun : List ℕ) (standings : Standings) (n life : ℕ) (seal : Option Seal) → may_be_used begun standings n life seal ≡ true → may_live begun n life ≡ true
lives-so begun standings n life seal h = (and_parts (may_live begun n life) (has_waited (standing_at standings n) seal) h).0

pub waited : (begun : List ℕ) (standings : Standings) (n life : ℕ) (seal : Option Seal) → may_be_used begun standings n life seal ≡ true → has_waited (standing_at standings n) seal ≡ true
waited begun standings n life seal h = (and_parts (may_live begun n life) (has_waited (standing_at standings n) seal) h).1

pub settled-waited : (begun : List ℕ) (standings : Standings) (us : List UnitState) → All (λ (u : UnitState). may_be_used begun standings u.number u.life u.seal ≡ true) us → All (λ (u : UnitState). has_waited (standing_at standings u.number) u.seal ≡ true) us
settled-waited begun standings us h k d lt = let u : UnitState = get_or us k d in waited begun standings u.number u.life u.seal (h k d lt)

-- ---- with these standings, at these numbers of both domains

module _ (plain tracing : ℕ) (standings : Standings) where
  -- what is mine here is mine of the post, and doesn't live
  mine-of : (post : PostState) (slots : Slotted) (begun : List ℕ) (n : ℕ) → (rights_with_living post plain tracing slots begun standings).mine n ≡ true → is_mine post n ≡ true
  mine-of post slots begun n h = (and_parts (is_mine post n) (not (is_some (unit_at slots n))) h).0

  pub lives-not : (post : PostState) (slots : Slotted) (begun : List ℕ) (n : ℕ) → (rights_with_living post plain tracing slots begun standings).mine n ≡ true → unit_at slots n ≡ None
  lives-not post slots begun n h = none-of (unit_at slots n) (and_parts (is_mine post n) (not (is_some (unit_at slots n))) h).1

  -- ---- calls of the post

  -- units that are to leave
  pub holds-post : (post : PostState) (slots : Slotted) (begun : List ℕ) (us : List UnitState) → Holds (rights_with_living post plain tracing slots begun standings) us → Holds (rights_in post) us
  holds-post post slots begun us h = record { each = λ k d lt. mine-of post slots begun (get_or us k d).number (h.each k d lt); once = h.once }

  -- a unit that may leave has had the lives that it has begun
  pub leave-lives : (post : PostState) (slots : Slotted) (begun : List ℕ) (u : UnitState) → MayLeave (rights_with_living post plain tracing slots begun standings) u → may_live begun u.number u.life ≡ true
  leave-lives post slots begun u (inl a) = lives-so begun standings u.number u.life u.seal a
  leave-lives post slots begun u (inr b) = (and_parts (may_live begun u.number u.life) (is_over plain tracing (standing_at standings u.number) u.seal) b).0

  pub leave-post : (post : PostState) (slots : Slotted) (begun : List ℕ) (us : List UnitState) → All (MayLeave (rights_with_living post plain tracing slots begun standings)) us → All (MayLeave (rights_in post)) us
  leave-post post slots begun us h k d lt = inl (has-room begun (get_or us k d).number (get_or us k d).life (leave-lives post slots begun (get_or us k d) (h k d lt)))

  -- .. and its wait is over, or it doesn't wait
  pub leave-over : (post : PostState) (slots : Slotted) (begun : List ℕ) (us : List UnitState) → All (MayLeave (rights_with_living post plain tracing slots begun standings)) us → All (λ (u : UnitState). (has_waited (standing_at standings u.number) u.seal ≡ true) ⊎ (is_over plain tracing (standing_at standings u.number) u.seal ≡ true)) us
  leave-over post slots begun us h k d lt = let u : UnitState = get_or us k d in elim (h k d lt) [
    | inl a ↦ inl (waited begun standings u.number u.life u.seal a)
    | inr b ↦ inr (and_parts (may_live begun u.number u.life) (is_over plain tracing (standing_at standings u.number) u.seal) b).1
  ]

  pub numbers-fit : (post : PostState) (slots : Slotted) (begun : List ℕ) (us : List UnitState) → length standings ≡ 2 ^ 16 → All (MayLeave (rights_with_living post plain tracing slots begun standings)) us → All (λ (u : UnitState). u.number < length standings) us
  numbers-fit post slots begun us size h k d lt = let u : UnitState = get_or us k d in
      let fits = (room-of u.number u.life u.seal (has-room begun u.number u.life (leave-lives post slots begun u (h k d lt)))).0 in
      subst (λ m. u.number < m) (sym size) fits

  -- .. so behind them each of them stands as its seal says
  pub leave-lived : (post : PostState) (slots : Slotted) (begun : List ℕ) (us : List UnitState) → length standings ≡ 2 ^ 16 → Holds (rights_with_living post plain tracing slots begun standings) us → All (MayLeave (rights_with_living post plain tracing slots begun standings)) us → All (LivedAs begun (left_by us standings)) us
  leave-lived post slots begun us size holds h k d lt =
      let u : UnitState = get_or us k d in
      (lives-as begun u.number u.life (leave-lives post slots begun u (h k d lt)), left-there us standings holds.once (numbers-fit post slots begun us size h) k d lt)

  -- units that may be used again, or have waited by one seal
  pub settled-post : (post : PostState) (slots : Slotted) (begun : List ℕ) (us : List UnitState) → All (IsSettled (rights_with_living post plain tracing slots begun standings)) us → All (IsSettled (rights_in post)) us
  settled-post post slots begun us h k d lt = let u : UnitState = get_or us k d in has-room begun u.number u.life (lives-so begun standings u.number u.life u.seal (h k d lt))

  pub waited-post : (post : PostState) (slots : Slotted) (begun : List ℕ) (us : List UnitState) (seal : Seal) → All (WaitedBy (rights_with_living post plain tracing slots begun standings) seal) us → All (WaitedBy (rights_in post) seal) us
  waited-post post slots begun us seal h k d lt =
      let u : UnitState = get_or us k d in
      let w = h k d lt in
      record { sealed = w.sealed; ripe = has-room begun u.number u.life (and_parts (may_live begun u.number u.life) (is_over plain tracing (standing_at standings u.number) (Some seal)) w.ripe).0 }

  pub waited-over : (post : PostState) (slots : Slotted) (begun : List ℕ) (us : List UnitState) (seal : Seal) → All (WaitedBy (rights_with_living post plain tracing slots begun standings) seal) us → All (λ (u : UnitState). (u.seal ≡ Some seal) × (is_over plain tracing (standing_at standings u.number) (Some seal) ≡ true)) us
  waited-over post slots begun us seal h k d lt =
      let u : UnitState = get_or us k d in
      let w = h k d lt in
      (w.sealed, (and_parts (may_live begun u.number u.life) (is_over plain tracing (standing_at standings u.number) (Some seal)) w.ripe).1)

  -- units that came
  free-of : (post : PostState) (slots : Slotted) (begun : List ℕ) (asked n : ℕ) → AreLiving post plain tracing slots begun standings asked → is_mine post n ≡ false → (x : Option UnitState) → unit_at slots n ≡ x → not (is_some x) ≡ true
  free-of post slots begun asked n k f None e = refl
  free-of post slots begun asked n k f (Some u) e = absurd (false≢true (sym f ∙ k.mine n u e))

  takes-living : (class : ℕ) (us : List UnitState) (post post' : PostState) (slots : Slotted) (begun : List ℕ) (asked : ℕ) → AreLiving post plain tracing slots begun standings asked → All (LivedAs begun standings) us → Takes class us (rights_in post) (rights_in post') → Takes class us (rights_with_living post plain tracing slots begun standings) (rights_with_living post' plain tracing slots begun standings)
  takes-living class us post post' slots begun asked k lived x = record {
    of_class = x.of_class;
    settled = λ i d lt.
        let u : UnitState = get_or us i d in
        may-be-used begun standings u.number u.life u.seal (may-live begun u.number u.life (x.settled i d lt) (lived i d lt).0) (lived i d lt).1;
    gains = record {
      once = x.gains.once;
      were_not = λ n h. ap (λ b. b && not (is_some (unit_at slots n))) (x.gains.were_not n h);
      are = λ n h. and_from (is_mine post' n) (not (is_some (unit_at slots n))) (x.gains.are n h) (free-of post slots begun asked n k (x.gains.were_not n h) (unit_at slots n) refl);
      others = λ n h. ap (λ b. b && not (is_some (unit_at slots n))) (x.gains.others n h);
    };
  }

  pub fetches-living : {E : Type 0} (r : Result ℕ E) (class want : ℕ) (list longer : List UnitState) (post post' : PostState) (slots : Slotted) (begun : List ℕ) (asked : ℕ) → AreLiving post plain tracing slots begun standings asked → OnOk r (longer ≡ list ++ (fetched class want post.pool).units) → OnOk r (All (IsFromStock class post.pool) (fetched class want post.pool).units) → IfOk r (λ n. Fetches class want n list longer (rights_in post) (rights_in post')) → IfOk r (λ n. Fetches class want n list longer (rights_with_living post plain tracing slots begun standings) (rights_with_living post' plain tracing slots begun standings))
  fetches-living (Ok n) class want list longer post post' slots begun asked k e each f =
      let same : (fetched class want post.pool).units ≡ f.units = append_cancel_left list (fetched class want post.pool).units f.units (sym e ∙ f.appended) in
      let lived : All (LivedAs begun standings) f.units = subst (All (LivedAs begun standings)) same (came-lived class begun standings post.pool (fetched class want post.pool).units k.lived.stock each) in
      record { units = f.units; appended = f.appended; count = f.count; most = f.most; takes = takes-living class f.units post post' slots begun asked k lived f.takes }
  fetches-living (Err x) class want list longer post post' slots begun asked k e each f = tt

  pub receives-living : {A : Type 0} (r : Option A) (items : A → List UnitState) (class : ℕ) (post post' : PostState) (slots : Slotted) (begun : List ℕ) (asked : ℕ) → AreLiving post plain tracing slots begun standings asked → IfSome r (λ v. All (LivedAs begun standings) (items v)) → IfSome r (λ v. Receives class (items v) (rights_in post) (rights_in post')) → IfSome r (λ v. Receives class (items v) (rights_with_living post plain tracing slots begun standings) (rights_with_living post' plain tracing slots begun standings))
  receives-living (Some v) items class post post' slots begun asked k lived f = record { some = f.some; takes = takes-living class (items v) post post' slots begun asked k lived f.takes }
  receives-living None items class post post' slots begun asked k lived f = tt

  -- ---- what stays true

  -- over a call that leaves what lives mine of the post
  pub living-over : (post post' : PostState) (slots : Slotted) (begun : List ℕ) (asked : ℕ) → post'.processors ≡ post.processors → ((n : ℕ) (u : UnitState) → unit_at slots n ≡ Some u → is_mine post n ≡ true → is_mine post' n ≡ true) → HaveLived begun standings post' → AreLiving post plain tracing slots begun standings asked → AreLiving post' plain tracing slots begun standings asked
  living-over post post' slots begun asked p m h k = record {
    size = k.size;
    counts = k.counts;
    number = k.number;
    mine = λ n u e. m n u e (k.mine n u e);
    life = k.life;
    unsealed = k.unsealed;
    home = λ n u e. rw p (k.home n u e);
    counted = k.counted;
    few = k.few;
    most = k.most;
    lived = h;
    standing = k.standing;
  }

  -- units that are mine here aren't those that live
  apart : (post : PostState) (slots : Slotted) (begun : List ℕ) (n : ℕ) (us : List UnitState) (u : UnitState) → Holds (rights_with_living post plain tracing slots begun standings) us → unit_at slots n ≡ Some u → times n (numbers us) ≡ 0
  apart post slots begun n us u h e =
      elim (zero-or-more (times n (numbers us))) [
        | inl none ↦ none
        | inr some ↦ absurd (not-both (unit_at slots n) u (lives-not post slots begun n (at-number (λ m. (rights_with_living post plain tracing slots begun standings).mine m ≡ true) us n h.each some)) e)
      ]

  mine-gained : (us : List UnitState) (post post' : PostState) (n : ℕ) → Gains (numbers us) (rights_in post) (rights_in post') → is_mine post n ≡ true → is_mine post' n ≡ true
  mine-gained us post post' n g h = elim (zero-or-more (times n (numbers us))) [ inl none ↦ g.others n none ∙ h | inr some ↦ g.are n some ]

  pub living-fetched : {E : Type 0} (r : Result ℕ E) (class want : ℕ) (list longer : List UnitState) (post post' : PostState) (slots : Slotted) (begun : List ℕ) (asked : ℕ) → OnOk r (post' ≡ record post { pool = (fetched class want post.pool).pool }) → OnErr r (post' ≡ post) → IfOk r (λ n. Fetches class want n list longer (rights_in post) (rights_in post')) → OnErr r (AreSame (rights_in post) (rights_in post')) → HaveLived begun standings post' → AreLiving post plain tracing slots begun standings asked → AreLiving post' plain tracing slots begun standings asked
  living-fetched (Ok n) class want list longer post post' slots begun asked ok err f s = living-over post post' slots begun asked (ap (λ (p : PostState). p.processors) ok) (λ n u e m. mine-gained f.units post post' n f.takes.gains m)
  living-fetched (Err x) class want list longer post post' slots begun asked ok err f s = living-over post post' slots begun asked (ap (λ (p : PostState). p.processors) err) (λ n u e m. s n ∙ m)

  pub living-received : {A : Type 0} (r : Option A) (items : A → List UnitState) (class : ℕ) (post post' : PostState) (slots : Slotted) (begun : List ℕ) (asked : ℕ) → IfSome r (λ v. post' ≡ taken_by post.processor class post) → IfNone r (post' ≡ post) → IfSome r (λ v. Receives class (items v) (rights_in post) (rights_in post')) → IfNone r (AreSame (rights_in post) (rights_in post')) → HaveLived begun standings post' → AreLiving post plain tracing slots begun standings asked → AreLiving post' plain tracing slots begun standings asked
  living-received (Some v) items class post post' slots begun asked some none f s = living-over post post' slots begun asked (ap (λ (p : PostState). p.processors) some) (λ n u e m. mine-gained (items v) post post' n f.takes.gains m)
  living-received None items class post post' slots begun asked some none f s = living-over post post' slots begun asked (ap (λ (p : PostState). p.processors) none) (λ n u e m. s n ∙ m)

-- a unit that is mine isn't in stock
not-in-stock : (post : PostState) (n m : ℕ) → is_mine post n ≡ true → (stocked_at post.pool.units m).out ≡ false → m ≢ n
not-in-stock post n m mine out same = false≢true (sym (ap (λ k. (stocked_at post.pool.units k).out) (sym same) ∙ out) ∙ (and_parts (stocked_at post.pool.units n).out (eqb (waits n post.inboxes) 0) mine).0)

-- .. and stands in no inbox
none-waits : (n : ℕ) (ps : Parcels) → times_in n ps ≡ 0 → All (All (λ (u : UnitState). u.number ≢ n)) ps
none-waits n ps z j e le k d lt same =
    let one : 0 < times (get_or (get_or ps j e) k d).number (numbers (get_or ps j e)) = here-times (get_or ps j e) k d lt in
    let here : 0 < times n (numbers (get_or ps j e)) = subst (λ m. 0 < times m (numbers (get_or ps j e))) same one in
    let most : times n (numbers (get_or ps j e)) ≤ times_in n ps = get_or-le-sum_by (λ (us : List UnitState). times n (numbers us)) ps j e le in
    absurd (omega (arith, here, most, z))

none-in-boxes : (post : PostState) (n : ℕ) → is_mine post n ≡ true → (i : ℕ) → All (All (λ (u : UnitState). u.number ≢ n)) (get_or post.inboxes i [])
none-in-boxes post n mine i =
    elim (cases_lt i (length post.inboxes)) [
      | inl less ↦
          let w : waits n post.inboxes ≡ 0 = eqb-true (waits n post.inboxes) 0 (and_parts (stocked_at post.pool.units n).out (eqb (waits n post.inboxes) 0) mine).1 in
          let most : times_in n (get_or post.inboxes i []) ≤ waits n post.inboxes = get_or-le-sum_by (times_in n) post.inboxes i [] less in
          none-waits n (get_or post.inboxes i []) (omega (arith, w, most))
      | inr past ↦ rw (get_or_past post.inboxes i [] past) (All-nil _)
    ]

-- ---- units that go

-- which units are mine is told without what they wait for
pub loses-living : (post post' : PostState) (plain tracing : ℕ) (slots : Slotted) (begun : List ℕ) (before now : Standings) (ns : List ℕ) → Loses ns (rights_in post) (rights_in post') → Loses ns (rights_with_living post plain tracing slots begun before) (rights_with_living post' plain tracing slots begun now)
loses-living post post' plain tracing slots begun before now ns l = record {
  are_gone = λ n h. ap (λ b. b && not (is_some (unit_at slots n))) (l.are_gone n h);
  others = λ n h. ap (λ b. b && not (is_some (unit_at slots n))) (l.others n h);
}

-- standings behind units that went
standing-left : (post : PostState) (plain tracing : ℕ) (slots : Slotted) (begun : List ℕ) (standings : Standings) (us : List UnitState) → Holds (rights_with_living post plain tracing slots begun standings) us → All (MayLeave (rights_with_living post plain tracing slots begun standings)) us → AreStanding plain tracing slots standings → AreStanding plain tracing slots (left_by us standings)
standing-left post plain tracing slots begun standings us holds may k = record {
  size = left-size us standings ∙ k.size;
  timed = λ n. elim (among us n) [
    | inl none ↦ subst (IsTimed plain tracing) (sym (left-other us standings n none.1)) (k.timed n)
    | inr some ↦ timed n some.0 (some.1 no-unit).0 (some.1 no-unit).1.0
  ];
  living = λ n u e. left-other us standings n (apart plain tracing standings post slots begun n us u holds e) ∙ k.living n u e;
}
  where
    no-unit : UnitState
    no-unit = record { number = 0; class = 0; home = 0; life = 0; seal = None }

    timed : (n i : ℕ) → i < length us → (get_or us i no-unit).number ≡ n → IsTimed plain tracing (standing_at (left_by us standings) n)
    timed n i lt same =
        let u : UnitState = get_or us i no-unit in
        let here : standing_at (left_by us standings) u.number ≡ standing_of u.seal = left-there us standings holds.once (numbers-fit plain tracing standings post slots begun us k.size may) i no-unit lt in
        let over = leave-over plain tracing standings post slots begun us may i no-unit lt in
        subst (λ m. IsTimed plain tracing (standing_at (left_by us standings) m)) same (subst (IsTimed plain tracing) (sym here) (timed-so plain tracing (standing_at standings u.number) u.seal over (k.timed u.number)))

-- other units than those that are mine stand as before
lived-left : (post : PostState) (begun : List ℕ) (standings : Standings) (us : List UnitState) → All (λ (u : UnitState). is_mine post u.number ≡ true) us → HaveLived begun standings post → HaveLived begun (left_by us standings) post
lived-left post begun standings us mine h = record {
  stock = λ m out. let was = h.stock m out in (was.0, left-other us standings m (other m (λ q. false≢true (sym out ∙ (and_parts (stocked_at post.pool.units m).out (eqb (waits m post.inboxes) 0) q).0))) ∙ was.1);
  boxes = λ i a d lt j e le.
      let v : UnitState = get_or (get_or (get_or post.inboxes i []) a d) j e in
      let was = h.boxes i a d lt j e le in
      (was.0, left-other us standings v.number (other v.number (λ q. none-in-boxes post v.number q i a d lt j e le refl)) ∙ was.1);
}
  where
    other : (m : ℕ) → ((is_mine post m ≡ true) → ⊥) → times m (numbers us) ≡ 0
    other m never = elim (zero-or-more (times m (numbers us))) [ inl none ↦ none | inr some ↦ absurd (never (at-number (λ n. is_mine post n ≡ true) us m mine some)) ]

living-gone : (post post' : PostState) (plain tracing : ℕ) (slots : Slotted) (begun : List ℕ) (standings : Standings) (asked : ℕ) (us : List UnitState) → post'.processors ≡ post.processors → ((n : ℕ) (u : UnitState) → unit_at slots n ≡ Some u → is_mine post n ≡ true → is_mine post' n ≡ true) → HaveLived begun (left_by us standings) post' → AreStanding plain tracing slots (left_by us standings) → AreLiving post plain tracing slots begun standings asked → AreLiving post' plain tracing slots begun (left_by us standings) asked
living-gone post post' plain tracing slots begun standings asked us p m h s k = record {
  size = k.size;
  counts = k.counts;
  number = k.number;
  mine = λ n u e. m n u e (k.mine n u e);
  life = k.life;
  unsealed = k.unsealed;
  home = λ n u e. rw p (k.home n u e);
  counted = k.counted;
  few = k.few;
  most = k.most;
  lived = h;
  standing = s;
}

pub living-back : (post post' : PostState) (plain tracing : ℕ) (slots : Slotted) (begun : List ℕ) (standings : Standings) (asked : ℕ) (us : List UnitState) → post' ≡ record post { pool = all_returned (reverse us) post.pool } → Holds (rights_with_living post plain tracing slots begun standings) us → All (MayLeave (rights_with_living post plain tracing slots begun standings)) us → Loses (numbers us) (rights_in post) (rights_in post') → AreLiving post plain tracing slots begun standings asked → AreLiving post' plain tracing slots begun (left_by us standings) asked
living-back post post' plain tracing slots begun standings asked us e holds may l k =
    let lived = lived-back us begun (left_by us standings) post post' e (leave-lived plain tracing standings post slots begun us k.standing.size holds may) (lived-left post begun standings us (holds-post plain tracing standings post slots begun us holds).each k.lived) in
    living-gone post post' plain tracing slots begun standings asked us (ap (λ (p : PostState). p.processors) e) (λ n u f m. l.others n (apart plain tracing standings post slots begun n us u holds f) ∙ m) lived (standing-left post plain tracing slots begun standings us holds may k.standing) k

-- a parcel was sent, or refused
pub living-sent : {A E : Type 0} (r : Result A E) (to class : ℕ) (post post' : PostState) (plain tracing : ℕ) (slots : Slotted) (begun : List ℕ) (standings now : Standings) (asked : ℕ) (us : List UnitState) → OnOk r (post' ≡ sent_to to class us post) → OnErr r (post' ≡ post) → OnOk r (now ≡ left_by us standings) → OnErr r (now ≡ standings) → Holds (rights_with_living post plain tracing slots begun standings) us → All (MayLeave (rights_with_living post plain tracing slots begun standings)) us → OnOk r (Loses (numbers us) (rights_in post) (rights_in post')) → AreLiving post plain tracing slots begun standings asked → AreLiving post' plain tracing slots begun now asked
living-sent (Ok x) to class post post' plain tracing slots begun standings now asked us ok err gone stay holds may l k =
    let lived = lived-sent {E = ℕ} (Ok x) to class begun (left_by us standings) us post post' ok tt (leave-lived plain tracing standings post slots begun us k.standing.size holds may) (lived-left post begun standings us (holds-post plain tracing standings post slots begun us holds).each k.lived) in
    subst (λ (ss : Standings). AreLiving post' plain tracing slots begun ss asked) (sym gone) (living-gone post post' plain tracing slots begun standings asked us (ap (λ (p : PostState). p.processors) ok) (λ n u e m. l.others n (apart plain tracing standings post slots begun n us u holds e) ∙ m) lived (standing-left post plain tracing slots begun standings us holds may k.standing) k)
living-sent (Err x) to class post post' plain tracing slots begun standings now asked us ok err gone stay holds may l k =
    subst (λ (ss : Standings). AreLiving post' plain tracing slots begun ss asked) (sym stay) (subst (λ (p : PostState). AreLiving p plain tracing slots begun standings asked) (sym err) k)

-- what was true of a unit that is mine still is true
pub lasting-left : (ns : List ℕ) (post post' : PostState) (plain tracing : ℕ) (slots : Slotted) (begun : List ℕ) (standings : Standings) (us : List UnitState) → Loses (numbers us) (rights_with_living post plain tracing slots begun standings) (rights_with_living post' plain tracing slots begun (left_by us standings)) → Lasting ns (rights_with_living post plain tracing slots begun standings) (rights_with_living post' plain tracing slots begun (left_by us standings))
lasting-left ns post post' plain tracing slots begun standings us l = record {
  settled = λ n life seal a b h. ap (λ x. may_live begun n life && has_waited x seal) (stays n b) ∙ h;
  due = λ n life seal a b none h. ap (λ x. may_live begun n life && is_waiting x) (stays n b) ∙ h;
  ripe = λ n life seal a b none h. ap (λ x. may_live begun n life && is_over plain tracing x seal) (stays n b) ∙ h;
  since = λ d x n a b h. ap (counts_for d x) (stays n b) ∙ h;
}
  where
    stays : (n : ℕ) → (rights_with_living post' plain tracing slots begun (left_by us standings)).mine n ≡ true → standing_at (left_by us standings) n ≡ standing_at standings n
    stays n b = elim (zero-or-more (times n (numbers us))) [
      | inl none ↦ left-other us standings n none
      | inr some ↦ absurd (false≢true (sym (l.are_gone n some) ∙ b))
    ]

pub lasting-sent : {A E : Type 0} (r : Result A E) (ns : List ℕ) (post post' : PostState) (plain tracing : ℕ) (slots : Slotted) (begun : List ℕ) (standings now : Standings) (us : List UnitState) → OnErr r (post' ≡ post) → OnOk r (now ≡ left_by us standings) → OnErr r (now ≡ standings) → OnOk r (Loses (numbers us) (rights_in post) (rights_in post')) → Lasting ns (rights_with_living post plain tracing slots begun standings) (rights_with_living post' plain tracing slots begun now)
lasting-sent (Ok x) ns post post' plain tracing slots begun standings now us err gone stay l = subst (λ (ss : Standings). Lasting ns (rights_with_living post plain tracing slots begun standings) (rights_with_living post' plain tracing slots begun ss)) (sym gone) (lasting-left ns post post' plain tracing slots begun standings us (loses-living post post' plain tracing slots begun standings (left_by us standings) (numbers us) l))
lasting-sent (Err x) ns post post' plain tracing slots begun standings now us err gone stay l =
    subst (λ (ss : Standings). Lasting ns (rights_with_living post plain tracing slots begun standings) (rights_with_living post' plain tracing slots begun ss)) (sym stay)
    (subst (λ (p : PostState). Lasting ns (rights_with_living post plain tracing slots begun standings) (rights_with_living p plain tracing slots begun standings)) (sym err) (record { settled = λ n life seal a b h. h; due = λ n life seal a b none h. h; ripe = λ n life seal a b none h. h; since = λ d x n a b h. h }))

-- where no unit has begun a life, the lives of a unit are none, and where none waits each waits for nothing
none-begun : (begun : List ℕ) (standings : Standings) → ((n : ℕ) → begun_at begun n ≡ 0) → ((n : ℕ) → standing_at standings n ≡ Nothing) → (u : UnitState) → LivedAs [] [] u → LivedAs begun standings u
none-begun begun standings z w u h = (h.0 ∙ sym (z u.number), w u.number ∙ h.1)

unlived : (begun : List ℕ) (standings : Standings) (post : PostState) → ((n : ℕ) → begun_at begun n ≡ 0) → ((n : ℕ) → standing_at standings n ≡ Nothing) → HaveLived [] [] post → HaveLived begun standings post
unlived begun standings post z w h = record {
  stock = λ n out. let k = h.stock n out in (k.0 ∙ sym (z n), w n ∙ k.1);
  boxes = λ i k d lt j e le. none-begun begun standings z w (get_or (get_or (get_or post.inboxes i []) k d) j e) (h.boxes i k d lt j e le);
}

pub none-living : (post : PostState) (plain tracing : ℕ) (slots : Slotted) (begun : List ℕ) (standings : Standings) → length slots ≡ 2 ^ 16 → length begun ≡ 2 ^ 16 → length standings ≡ 2 ^ 16 → AllEmpty slots → ((n : ℕ) → begun_at begun n ≡ 0) → ((n : ℕ) → standing_at standings n ≡ Nothing) → HaveLived [] [] post → AreLiving post plain tracing slots begun standings 0
none-living post plain tracing slots begun standings size counts stands empty z w lived = record {
  size = size;
  counts = counts;
  number = λ n u e. absurd (not-both (unit_at slots n) u (empty n) e);
  mine = λ n u e. absurd (not-both (unit_at slots n) u (empty n) e);
  life = λ n u e. absurd (not-both (unit_at slots n) u (empty n) e);
  unsealed = λ n u e. absurd (not-both (unit_at slots n) u (empty n) e);
  home = λ n u e. absurd (not-both (unit_at slots n) u (empty n) e);
  counted = λ n. subst (IsCounted 0) (sym (no-object (object_at slots n) (empty n))) tt;
  few = omega arith;
  most = λ n. let e = z n in omega (arith, e);
  lived = unlived begun standings post z w lived;
  standing = record { size = stands; timed = λ n. subst (IsTimed plain tracing) (sym (w n)) tt; living = λ n u e. w n };
}

-- ---- lives

-- the counts, where one was set
pub counted-same : (begun : List ℕ) (n k : ℕ) → n < length begun → begun_at (set begun n k) n ≡ k
counted-same begun n k lt = get_or-set_same begun n k 0 lt

pub counted-other : (begun : List ℕ) (n m k : ℕ) → m ≢ n → begun_at (set begun n k) m ≡ begun_at begun m
counted-other begun n m k ne = get_or-set_other begun n m k 0 ne

-- .. to one more
pub counted : (begun : List ℕ) (n life m : ℕ) → n < length begun → life ≡ begun_at begun n → begun_at (set begun n (life + 1)) m ≡ (if eqb n m then begun_at begun m + 1 else begun_at begun m)
counted begun n life m lt e =
    elim (cases_eq m n) [
      | inl same ↦ ap (begun_at (set begun n (life + 1))) same ∙ counted-same begun n (life + 1) lt ∙ ap (λ k. k + 1) (e ∙ ap (begun_at begun) (sym same)) ∙ sym (ap (λ b. if b then begun_at begun m + 1 else begun_at begun m) (eq-eqb n m (sym same)))
      | inr other ↦ counted-other begun n m (life + 1) other ∙ sym (ap (λ b. if b then begun_at begun m + 1 else begun_at begun m) (ne_eqb n m (λ f. other (sym f))))
    ]

-- .. where one was set
pub standing-same : (standings : Standings) (n : ℕ) (x : Standing) → n < length standings → standing_at (set standings n x) n ≡ x
standing-same standings n x lt = get_or-set_same standings n x Nothing lt

pub standing-other : (standings : Standings) (n m : ℕ) (x : Standing) → m ≢ n → standing_at (set standings n x) m ≡ standing_at standings m
standing-other standings n m x ne = get_or-set_other standings n m x Nothing ne

lived-begun : (post : PostState) (begun : List ℕ) (standings : Standings) (n k : ℕ) → is_mine post n ≡ true → HaveLived begun standings post → HaveLived (set begun n k) (set standings n Nothing) post
lived-begun post begun standings n k mine h = record {
  stock = λ m out. let was = h.stock m out in (was.0 ∙ sym (counted-other begun n m k (not-in-stock post n m mine out)), standing-other standings n m Nothing (not-in-stock post n m mine out) ∙ was.1);
  boxes = λ i a d lt j e le.
      let v : UnitState = get_or (get_or (get_or post.inboxes i []) a d) j e in
      let was = h.boxes i a d lt j e le in
      let other = none-in-boxes post n mine i a d lt j e le in
      (was.0 ∙ sym (counted-other begun n v.number k other), standing-other standings n v.number Nothing other ∙ was.1);
}

-- .. and its standing alone
lived-set : (post : PostState) (begun : List ℕ) (standings : Standings) (n : ℕ) (x : Standing) → is_mine post n ≡ true → HaveLived begun standings post → HaveLived begun (set standings n x) post
lived-set post begun standings n x mine h = record {
  stock = λ m out. let was = h.stock m out in (was.0, standing-other standings n m x (not-in-stock post n m mine out) ∙ was.1);
  boxes = λ i a d lt j e le.
      let v : UnitState = get_or (get_or (get_or post.inboxes i []) a d) j e in
      let was = h.boxes i a d lt j e le in
      (was.0, standing-other standings n v.number x (none-in-boxes post n mine i a d lt j e le) ∙ was.1);
}

most-begun : (begun : List ℕ) (n life asked m : ℕ) → n < length begun → life ≡ begun_at begun n → begun_at begun m ≤ asked → begun_at (set begun n (life + 1)) m ≤ asked + 1
most-begun begun n life asked m lt e h =
    elim (cases_eq m n) [
      | inl same ↦ let a : begun_at (set begun n (life + 1)) m ≡ life + 1 = ap (begun_at (set begun n (life + 1))) same ∙ counted-same begun n (life + 1) lt in let b : life ≡ begun_at begun m = e ∙ ap (begun_at begun) (sym same) in omega (arith, a, b, h)
      | inr other ↦ let a = counted-other begun n m (life + 1) other in omega (arith, a, h)
    ]

-- more were asked for
more-counted : (asked more : ℕ) (x : Option Object) → asked ≤ more → IsCounted asked x → IsCounted more x
more-counted asked more None le h = tt
more-counted asked more (Some o) le h = (h.0, (let a = h.1 in omega (arith, a, le)))

-- a unit of mine begins a life
pub living-begun : (post : PostState) (plain tracing : ℕ) (slots : Slotted) (begun : List ℕ) (standings : Standings) (asked type : ℕ) (values : List ℕ) (u : UnitState) → asked + 1 < 2 ^ 31 → (rights_with_living post plain tracing slots begun standings).mine u.number ≡ true → may_live begun u.number u.life ≡ true → u.home < post.processors → AreLiving post plain tracing slots begun standings asked → AreLiving post plain tracing (set slots u.number (Some (new_object type values (next_life u)))) (set begun u.number (u.life + 1)) (set standings u.number Nothing) (asked + 1)
living-begun post plain tracing slots begun standings asked type values u room mine fit home k = record {
  size = length-set slots u.number (Some (new_object type values (next_life u))) ∙ k.size;
  counts = length-set begun u.number (u.life + 1) ∙ k.counts;
  number = λ m v e. elim (either m v e) [ inl x ↦ subst (λ w. w.number ≡ m) (sym x.1) (sym x.0) | inr x ↦ k.number m v x.1 ];
  mine = λ m v e. elim (either m v e) [ inl x ↦ subst (λ j. is_mine post j ≡ true) (sym x.0) is-mine | inr x ↦ k.mine m v x.1 ];
  life = λ m v e. elim (either m v e) [
    | inl x ↦ ap (λ (w : UnitState). w.life) x.1 ∙ sym (ap (begun_at (set begun u.number (u.life + 1))) x.0 ∙ counted-same begun u.number (u.life + 1) counts-there)
    | inr x ↦ k.life m v x.1 ∙ sym (counted-other begun u.number m (u.life + 1) x.0)
  ];
  unsealed = λ m v e. elim (either m v e) [ inl x ↦ ap (λ (w : UnitState). w.seal) x.1 | inr x ↦ k.unsealed m v x.1 ];
  home = λ m v e. elim (either m v e) [ inl x ↦ subst (λ w. w.home < post.processors) (sym x.1) home | inr x ↦ k.home m v x.1 ];
  counted = λ m. elim (cases_eq m u.number) [
    | inl same ↦ subst (IsCounted (asked + 1)) (sym (ap (object_at (set slots u.number (Some (new_object type values (next_life u))))) same ∙ object-same slots u.number (Some (new_object type values (next_life u))) there)) (omega arith, omega arith)
    | inr other ↦ subst (IsCounted (asked + 1)) (sym (object-other slots u.number m (Some (new_object type values (next_life u))) other)) (more-counted asked (asked + 1) (object_at slots m) (omega arith) (k.counted m))
  ];
  few = room;
  most = λ m. most-begun begun u.number u.life asked m counts-there (lives-as begun u.number u.life fit) (k.most m);
  lived = lived-begun post begun standings u.number (u.life + 1) is-mine k.lived;
  standing = record {
    size = length-set standings u.number Nothing ∙ k.standing.size;
    timed = λ m. elim (cases_eq m u.number) [
      | inl same ↦ subst (IsTimed plain tracing) (sym (ap (standing_at (set standings u.number Nothing)) same ∙ standing-same standings u.number Nothing stands-there)) tt
      | inr other ↦ subst (IsTimed plain tracing) (sym (standing-other standings u.number m Nothing other)) (k.standing.timed m)
    ];
    living = λ m v e. elim (either m v e) [
      | inl x ↦ ap (standing_at (set standings u.number Nothing)) x.0 ∙ standing-same standings u.number Nothing stands-there
      | inr x ↦ standing-other standings u.number m Nothing x.0 ∙ k.standing.living m v x.1
    ];
  };
}
  where
    is-mine : is_mine post u.number ≡ true
    is-mine = mine-of plain tracing standings post slots begun u.number mine

    number : u.number < 2 ^ 16
    number = (room-of u.number u.life None (has-room begun u.number u.life fit)).0

    there : u.number < length slots
    there = let r = number in let s = k.size in omega (arith, r, s)

    counts-there : u.number < length begun
    counts-there = let r = number in let s = k.counts in omega (arith, r, s)

    stands-there : u.number < length standings
    stands-there = let r = number in let s = k.standing.size in omega (arith, r, s)

    either : (m : ℕ) (v : UnitState) → unit_at (set slots u.number (Some (new_object type values (next_life u)))) m ≡ Some v → ((m ≡ u.number) × (v ≡ next_life u)) ⊎ ((m ≢ u.number) × (unit_at slots m ≡ Some v))
    either m v e =
        elim (cases_eq m u.number) [
          | inl same ↦ inl (same, some-one v (next_life u) (sym e ∙ (ap (unit_at (set slots u.number (Some (new_object type values (next_life u))))) same ∙ at-same slots u.number (Some (new_object type values (next_life u))) there)))
          | inr other ↦ inr (other, sym (at-other slots u.number m (Some (new_object type values (next_life u))) other) ∙ e)
        ]

and-false : (b : Bool) → b && false ≡ false
and-false true = refl
and-false false = refl

one-times : (n m : ℕ) → 0 < times n (m ∷ []) → n ≡ m
one-times n m h = elim (cases_eq n m) [ inl same ↦ same | inr other ↦ absurd (let e = ne_eqb n m other in let g = rw e at h in omega (arith, g)) ]

not-one : (n m : ℕ) → times n (m ∷ []) ≡ 0 → n ≢ m
not-one n m h q = absurd (let e = eq-eqb n m q in let g = rw e at h in omega (arith, g))

pub begun-gone : (post : PostState) (plain tracing : ℕ) (slots : Slotted) (begun begun' : List ℕ) (standings standings' : Standings) (n : ℕ) (v : Object) → n < length slots → Loses (n ∷ []) (rights_with_living post plain tracing slots begun standings) (rights_with_living post plain tracing (set slots n (Some v)) begun' standings')
begun-gone post plain tracing slots begun begun' standings standings' n v there = record {
  are_gone = λ m h.
      let same : unit_at (set slots n (Some v)) m ≡ Some v.unit = ap (unit_at (set slots n (Some v))) (one-times m n h) ∙ at-same slots n (Some v) there in
      ap (λ o. is_mine post m && not (is_some o)) same ∙ and-false (is_mine post m);
  others = λ m h. ap (λ o. is_mine post m && not (is_some o)) (at-other slots n m (Some v) (not-one m n h));
}

-- a life ends
pub ended-mine : (post : PostState) (plain tracing : ℕ) (slots : Slotted) (begun : List ℕ) (standings standings' : Standings) (asked n : ℕ) (u : UnitState) → unit_at slots n ≡ Some u → AreLiving post plain tracing slots begun standings asked → Gains (n ∷ []) (rights_with_living post plain tracing slots begun standings) (rights_with_living post plain tracing (set slots n None) begun standings')
ended-mine post plain tracing slots begun standings standings' asked n u there k = record {
  once = λ m. elim (cases_eq m n) [ inl same ↦ rw (eq-eqb m n same) (omega arith) | inr other ↦ rw (ne_eqb m n other) (omega arith) ];
  were_not = λ m h.
      let same : unit_at slots m ≡ Some u = ap (unit_at slots) (one-times m n h) ∙ there in
      ap (λ o. is_mine post m && not (is_some o)) same ∙ and-false (is_mine post m);
  are = λ m h.
      let same = one-times m n h in
      and_from (is_mine post m) (not (is_some (unit_at (set slots n None) m)))
      (ap (is_mine post) same ∙ k.mine n u there)
      (none-not (unit_at (set slots n None) m) (ap (unit_at (set slots n None)) same ∙ at-same slots n None (within slots n u there)));
  others = λ m h. ap (λ o. is_mine post m && not (is_some o)) (at-other slots n m None (not-one m n h));
}

pub living-ended : (delayed : Bool) (post : PostState) (grace : PlainState) (slots : Slotted) (begun : List ℕ) (standings : Standings) (asked n : ℕ) (u : UnitState) → unit_at slots n ≡ Some u → AreLiving post grace.plain.number grace.tracing.number slots begun standings asked → AreLiving post grace.plain.number grace.tracing.number (set slots n None) begun (standings_after delayed n grace standings) asked
living-ended delayed post grace slots begun standings asked n u there k = record {
  size = length-set slots n None ∙ k.size;
  counts = k.counts;
  number = λ m v e. k.number m v (was m v e).1;
  mine = λ m v e. k.mine m v (was m v e).1;
  life = λ m v e. k.life m v (was m v e).1;
  unsealed = λ m v e. k.unsealed m v (was m v e).1;
  home = λ m v e. k.home m v (was m v e).1;
  counted = λ m. elim (cases_eq m n) [
    | inl same ↦ subst (IsCounted asked) (sym (ap (object_at (set slots n None)) same ∙ object-same slots n None (within slots n u there))) tt
    | inr other ↦ subst (IsCounted asked) (sym (object-other slots n m None other)) (k.counted m)
  ];
  few = k.few;
  most = k.most;
  lived = lived delayed;
  standing = standing delayed;
}
  where
    was : (m : ℕ) (v : UnitState) → unit_at (set slots n None) m ≡ Some v → (m ≢ n) × (unit_at slots m ≡ Some v)
    was m v e =
        elim (cases_eq m n) [
          | inl same ↦ absurd (not-both (unit_at (set slots n None) m) v (ap (unit_at (set slots n None)) same ∙ at-same slots n None (within slots n u there)) e)
          | inr other ↦ (other, sym (at-other slots n m None other) ∙ e)
        ]

    stands-there : n < length standings
    stands-there = let a = within slots n u there in let b = k.size in let c = k.standing.size in omega (arith, a, b, c)

    lived : (delayed : Bool) → HaveLived begun (standings_after delayed n grace standings) post
    lived true = lived-set post begun standings n (Waits (wait_now grace)) (k.mine n u there) k.lived
    lived false = k.lived

    standing : (delayed : Bool) → AreStanding grace.plain.number grace.tracing.number (set slots n None) (standings_after delayed n grace standings)
    standing false = record { size = k.standing.size; timed = k.standing.timed; living = λ m v e. k.standing.living m v (was m v e).1 }
    standing true = record {
      size = length-set standings n (Waits (wait_now grace)) ∙ k.standing.size;
      timed = λ m. elim (cases_eq m n) [
        | inl same ↦ subst (IsTimed grace.plain.number grace.tracing.number) (sym (ap (standing_at (set standings n (Waits (wait_now grace)))) same ∙ standing-same standings n (Waits (wait_now grace)) stands-there)) (omega arith, omega arith)
        | inr other ↦ subst (IsTimed grace.plain.number grace.tracing.number) (sym (standing-other standings n m (Waits (wait_now grace)) other)) (k.standing.timed m)
      ];
      living = λ m v e. standing-other standings n m (Waits (wait_now grace)) (was m v e).0 ∙ k.standing.living m v (was m v e).1;
    }

-- .. and the unit has room for one life more
pub ended-lives : (post : PostState) (plain tracing : ℕ) (slots : Slotted) (begun : List ℕ) (standings : Standings) (asked n : ℕ) (u : UnitState) → unit_at slots n ≡ Some u → AreLiving post plain tracing slots begun standings asked → may_live begun u.number u.life ≡ true
ended-lives post plain tracing slots begun standings asked n u there k =
    let number = k.number n u there in
    let life = k.life n u there in
    let inside = within slots n u there in
    let size = k.size in
    let most = k.most n in
    let few = k.few in
    may-live begun u.number u.life (room-is u.number u.life (omega (arith, number, inside, size)) (omega (arith, life, most, few))) (life ∙ ap (begun_at begun) (sym number))

-- .. behind a plain free it may be used again, and isn't due
pub ended-settled : (post : PostState) (plain tracing : ℕ) (slots : Slotted) (begun : List ℕ) (standings : Standings) (asked n : ℕ) (u : UnitState) → unit_at slots n ≡ Some u → AreLiving post plain tracing slots begun standings asked → may_be_used begun standings u.number u.life u.seal ≡ true
ended-settled post plain tracing slots begun standings asked n u there k =
    may-be-used begun standings u.number u.life u.seal (ended-lives post plain tracing slots begun standings asked n u there k)
    (ap (standing_at standings) (k.number n u there) ∙ (k.standing.living n u there ∙ ap standing_of (sym (k.unsealed n u there))))

pub ended-undue : (post : PostState) (plain tracing : ℕ) (slots : Slotted) (begun : List ℕ) (standings : Standings) (asked n : ℕ) (u : UnitState) → unit_at slots n ≡ Some u → AreLiving post plain tracing slots begun standings asked → (life : ℕ) → (may_live begun n life && is_waiting (standing_at standings n)) ≡ false
ended-undue post plain tracing slots begun standings asked n u there k life = ap (λ x. may_live begun n life && is_waiting x) (k.standing.living n u there) ∙ and-false (may_live begun n life)

-- .. and behind one with delay it is due
pub ended-due : (post : PostState) (plain tracing : ℕ) (slots : Slotted) (begun : List ℕ) (standings : Standings) (asked n : ℕ) (u : UnitState) (wait : Wait) → unit_at slots n ≡ Some u → AreLiving post plain tracing slots begun standings asked → (may_live begun n u.life && is_waiting (standing_at (set standings n (Waits wait)) n)) ≡ true
ended-due post plain tracing slots begun standings asked n u wait there k =
    let inside = within slots n u there in
    let size = k.size in
    let stands = k.standing.size in
    and_from (may_live begun n u.life) (is_waiting (standing_at (set standings n (Waits wait)) n))
    (subst (λ m. may_live begun m u.life ≡ true) (k.number n u there) (ended-lives post plain tracing slots begun standings asked n u there k))
    (ap is_waiting (standing-same standings n (Waits wait) (omega (arith, inside, size, stands))))

-- the same, by how the life ended
pub after-settled : (delayed : Bool) (post : PostState) (grace : PlainState) (slots : Slotted) (begun : List ℕ) (standings : Standings) (asked n : ℕ) (u : UnitState) → delayed ≡ false → unit_at slots n ≡ Some u → AreLiving post grace.plain.number grace.tracing.number slots begun standings asked → may_be_used begun (standings_after delayed n grace standings) u.number u.life u.seal ≡ true
after-settled false post grace slots begun standings asked n u e there k = ended-settled post grace.plain.number grace.tracing.number slots begun standings asked n u there k
after-settled true post grace slots begun standings asked n u e there k = absurd (false≢true (sym e))

pub after-undue : (delayed : Bool) (post : PostState) (grace : PlainState) (slots : Slotted) (begun : List ℕ) (standings : Standings) (asked n : ℕ) (u : UnitState) → delayed ≡ false → unit_at slots n ≡ Some u → AreLiving post grace.plain.number grace.tracing.number slots begun standings asked → (life : ℕ) → (may_live begun n life && is_waiting (standing_at (standings_after delayed n grace standings) n)) ≡ false
after-undue false post grace slots begun standings asked n u e there k = ended-undue post grace.plain.number grace.tracing.number slots begun standings asked n u there k
after-undue true post grace slots begun standings asked n u e there k = absurd (false≢true (sym e))

pub after-due : (delayed : Bool) (post : PostState) (grace : PlainState) (slots : Slotted) (begun : List ℕ) (standings : Standings) (asked n : ℕ) (u : UnitState) → delayed ≡ true → unit_at slots n ≡ Some u → AreLiving post grace.plain.number grace.tracing.number slots begun standings asked → (may_live begun n u.life && is_waiting (standing_at (standings_after delayed n grace standings) n)) ≡ true
after-due true post grace slots begun standings asked n u e there k = ended-due post grace.plain.number grace.tracing.number slots begun standings asked n u (wait_now grace) there k
after-due false post grace slots begun standings asked n u e there k = absurd (false≢true e)

-- .. and may not be used again, with whatever seal
pub after-unsettled : (delayed : Bool) (post : PostState) (grace : PlainState) (slots : Slotted) (begun : List ℕ) (standings : Standings) (asked n : ℕ) (u : UnitState) → delayed ≡ true → unit_at slots n ≡ Some u → AreLiving post grace.plain.number grace.tracing.number slots begun standings asked → (life : ℕ) (seal : Option Seal) → may_be_used begun (standings_after delayed n grace standings) n life seal ≡ false
after-unsettled false post grace slots begun standings asked n u e there k life seal = absurd (false≢true e)
after-unsettled true post grace slots begun standings asked n u e there k life seal =
    let inside = within slots n u there in
    let size = k.size in
    let stands = k.standing.size in
    ap (λ x. may_live begun n life && has_waited x seal) (standing-same standings n (Waits (wait_now grace)) (omega (arith, inside, size, stands))) ∙ (ap (λ b. may_live begun n life && b) (unwaited (wait_now grace) seal) ∙ and-false (may_live begun n life))
  where
    -- who waits has no seal of it
    unwaited : (wait : Wait) (seal : Option Seal) → has_waited (Waits wait) seal ≡ false
    unwaited wait None = refl
    unwaited wait (Some s) = refl

-- ---- references

counted-so : (count asked : ℕ) (x : Option Object) → 0 < count → count ≤ asked → IsCounted asked (with_count count x)
counted-so count asked None some most = tt
counted-so count asked (Some o) some most = (some, most)

-- an object has another number of references
pub living-recounted : (post : PostState) (plain tracing : ℕ) (slots : Slotted) (begun : List ℕ) (standings : Standings) (asked more n count : ℕ) → n < length slots → 0 < count → count ≤ more → asked ≤ more → more < 2 ^ 31 → AreLiving post plain tracing slots begun standings asked → AreLiving post plain tracing (slots_counted n count slots) begun standings more
living-recounted post plain tracing slots begun standings asked more n count lt some most le room k = record {
  size = length-set slots n (with_count count (object_at slots n)) ∙ k.size;
  counts = k.counts;
  number = λ m v e. k.number m v (was m v e);
  mine = λ m v e. k.mine m v (was m v e);
  life = λ m v e. k.life m v (was m v e);
  unsealed = λ m v e. k.unsealed m v (was m v e);
  home = λ m v e. k.home m v (was m v e);
  counted = λ m. elim (cases_eq m n) [
    | inl same ↦ subst (IsCounted more) (sym (ap (object_at (slots_counted n count slots)) same ∙ object-same slots n (with_count count (object_at slots n)) lt)) (counted-so count more (object_at slots n) some most)
    | inr other ↦ subst (IsCounted more) (sym (object-other slots n m (with_count count (object_at slots n)) other)) (more-counted asked more (object_at slots m) le (k.counted m))
  ];
  few = room;
  most = λ m. (let a = k.most m in omega (arith, a, le));
  lived = k.lived;
  standing = record { size = k.standing.size; timed = k.standing.timed; living = λ m v e. k.standing.living m v (was m v e) };
}
  where
    was : (m : ℕ) (v : UnitState) → unit_at (slots_counted n count slots) m ≡ Some v → unit_at slots m ≡ Some v
    was m v e = sym (unit-stays slots n count m lt) ∙ e

-- .. and of all units everything is as before
pub rights-recounted : (post : PostState) (plain tracing : ℕ) (slots : Slotted) (begun : List ℕ) (standings : Standings) (n count : ℕ) → n < length slots → AsBefore (rights_with_living post plain tracing slots begun standings) (rights_with_living post plain tracing (slots_counted n count slots) begun standings)
rights-recounted post plain tracing slots begun standings n count lt = record {
  mine = λ m. ap (λ (o : Option UnitState). is_mine post m && not (is_some o)) (unit-stays slots n count m lt);
  settled = λ m life seal. refl;
  due = λ m life seal. refl;
  ripe = λ m life seal. refl;
  since = λ d x m. refl;
}
