-- A run of all processors goes on by a turn of one.
use Rattle.std.specs.Prelude.{◌≢◌, ◌≤◌, ◌*◌, ◌^◌, get_or, if◌then◌else◌, length, set, slice_get, sum_by}
use Rattle.std.proofs.Common.{◌≡◌, ◌<◌, ◌⊎◌, ◌+◌, ℕ, Bool, true, false, List, [], ◌∷◌, ◌++◌, Err, IfOk, IfSome, None, Ok, OnOk, Option, Result, Some, arith, append_assoc, inl, inr, refl, sym, ◌∙◌, ap, subst}
use Rattle.std.proofs.lemmas.Bool.{cases_eq}
use Rattle.std.proofs.lemmas.List.{get_or-map, get_or-set_other, get_or-set_same, length-set, map-set}
use Rattle.std.proofs.lemmas.List.Sums.{get_or-le-sum_by, sum_by-set}
use Rattle.std.proofs.lemmas.Option.{get_or_from_slice_get, slice_get-get_or, slice_get_within}
use Rattle.bm_lang.specs.declared.scenario.Parts.{Parts}
use Rattle.bm_law.specs.Lists.{Leaves, Log, after}
use Rattle.bm_law.specs.State.{opening}
use Rattle.bm_law_order.specs.Calls.{lock_in}
use Rattle.bm_law_order.specs.Orders.{Order, by, part_of}
use Rattle.bm_law_order.specs.Whole.{joined}
use Rattle.bm_law_places.specs.World.{outset, world_over}
use Rattle.bm_cache.specs.Shown.{shown}
use Rattle.bm_exec.specs.Living.{Lives}
use Rattle.bm_exec_levels.specs.declared.kept.Kept.{Kept}
use Rattle.bm_exec_levels.specs.declared.processor.Processor.{Processor}
use Rattle.bm_exec_levels.specs.declared.program.Program.{Program}
use Rattle.bm_world.specs.LivingState.{LivingState, known_living}
use Rattle.bm_world.specs.Told.{IsSideOf}
use Rattle.bm_world.specs.ToldLiving.{knows_living}
use Rattle.bm_exec_levels.specs.AtProcessor.{lock_of, log_of}
use Rattle.bm_exec_levels.specs.Calling.{Reckons, lock_name}
use Rattle.bm_exec_levels.specs.Slotted.{in_hands}
use Rattle.bm_exec_levels.specs.Sound.{Sound}
use Rattle.bm_run.specs.Asked.{in_its_turn}
use Rattle.bm_run.specs.Between.{Between, all_openings, ended_of}
use Rattle.bm_run.specs.InTurns.{AreTaken, TurnsSoFar}
use Rattle.bm_run.specs.LogsSoFar.{LogsSoFar, Stretched, WaitsSoFar}
use Rattle.bm_run.specs.NextTurn.{IsNextTurn, seat_weight, seats_weight}
use Rattle.bm_run.specs.SeatTurn.{MayTurn, TookTurn, has_gone, kept_log, told_or_none}
use Rattle.bm_run.specs.Lines.{works_for}
use Rattle.bm_run.specs.Seated.{IsSeated, opening_log, runs_or_stopped}
use Rattle.bm_run.specs.SoFar.{at_turn}
use Rattle.bm_run.specs.Turns.{owned_by, stands_in, weight_left}
use Rattle.bm_run.specs.declared.seats.Seat.{Seat}
use Rattle.bm_run.specs.declared.turns.Begun.{Begun}
use Rattle.bm_run.specs.declared.turns.Remaining.{Remaining}
use Rattle.bm_run.proofs.BatchesTold.{unswept-append, unswept-by}
use Rattle.bm_run.proofs.PiecesCut.{joined-more, taken-more}
use Rattle.bm_run.proofs.SeatAdded.{Added, gone-added}
use Rattle.bm_run.proofs.SeatAfter.{SeatLeft, leaves-here, may-turn, same-kept, seat-after}
use Rattle.bm_run.proofs.SeatAlone.{seat-alone}
use Rattle.bm_run.proofs.SeatLives.{add-up-after, base-own, bases_after, owned-after}
use Rattle.bm_run.proofs.Stretch.{stretched}
use Rattle.bm_run.proofs.TurnTaken.{sealed-at, side-at, so-many, turn-batches, turn-sealed}
use Rattle.bm_run.proofs.TurnsInOrder.{turn-lowest, turn-named}
use Rattle.bm_run.proofs.TurnsTold.{unswept-found}

pub if-on : {X E : Type 0} (r : Result X E) (P : X → Type 0) (A : Type 0) → IfOk r P → ((x : X) → P x → A) → OnOk r A
if-on (Ok x) P A h f = f x h
if-on (Err e) P A h f = tt

-- ---- lists of seats

got-same : (xs : List Seat) (p : ℕ) (x y : Seat) → p < length xs → slice_get (set xs p x) p ≡ Some y → x ≡ y
got-same xs p x y lt e = sym (get_or-set_same xs p x y lt) ∙ get_or_from_slice_get (set xs p x) p y y e

got-other : (xs : List Seat) (p q : ℕ) (x y : Seat) → q ≢ p → slice_get (set xs p x) q ≡ Some y → slice_get xs q ≡ Some y
got-other xs p q x y ne e =
    slice_get-get_or xs q y (subst (λ (k : ℕ). q < k) (length-set xs p x) (slice_get_within (set xs p x) q y e))
    ∙ ap Some (sym (get_or-set_other xs p q x y ne) ∙ get_or_from_slice_get (set xs p x) q y y e)

-- whether a processor has ended
ended-at : (seats : List Seat) (p : ℕ) (seat : Seat) → slice_get seats p ≡ Some seat → get_or (ended_of seats) p true ≡ seat.ended
ended-at seats p seat there =
    get_or-map (λ (x : Seat). x.ended) seats p seat true (slice_get_within seats p seat there) ∙ ap (λ (x : Seat). x.ended) (get_or_from_slice_get seats p seat seat there)

ended-set : (seats : List Seat) (p : ℕ) (seat : Seat) → set (ended_of seats) p seat.ended ≡ ended_of (set seats p seat)
ended-set seats p seat = sym (map-set (λ (x : Seat). x.ended) seats p seat)

-- ---- locks

stands-unlocked : (s : Parts) (w : Option (List ℕ)) (m : Processor LivingState) (b : Option Begun) → stands_in s w m b → m.locked ≡ None
stands-unlocked s w m None h = h.unlocked
stands-unlocked s w m (Some b) h = h.unlocked

-- between turns a processor holds none
seat-unlocked : (ended : Bool) (s : Parts) (p : ℕ) (log : Log) (m : Processor LivingState) (r : Remaining) → runs_or_stopped ended s p log m r → m.locked ≡ None
seat-unlocked false s p log m r h = stands-unlocked s (works_for s) m r.begun h.can.stands
seat-unlocked true s p log m r h = h.unlocked

-- .. and neither does its log
seat-free : (g : Program) (log : Log) (m : Processor LivingState) → Sound knows_living g m → log_of m ≡ Some log → m.locked ≡ None → lock_in log ≡ None
seat-free g log m sound told unlocked =
    let counts : IfSome (Some log) (Reckons m.calls (lock_of g m)) = subst (λ (o : Option Log). IfSome o (Reckons m.calls (lock_of g m))) told sound.at.counts in
    counts.1 ∙ ap (lock_name g.scenario.now.maps) unlocked

-- ---- what makes turns end

gone-less : (ended : Bool) (g : Program) (m n : Processor LivingState) (r r' : Remaining) → has_gone ended g m r n r' → (if ended then 0 else weight_left g.scenario.now r' + 1) < weight_left g.scenario.now r + 1
gone-less false g m n r r' h = (let less = h.less in omega (arith, less))
gone-less true g m n r r' h = omega arith

pub turn-less : (g : Program) (since : Log) (start now : LivingState) (seats : List Seat) (p : ℕ) (seat seat' : Seat) → slice_get seats p ≡ Some seat → seat.ended ≡ false → TookTurn g since start now seat seat' → seats_weight g.scenario.now (set seats p seat') < seats_weight g.scenario.now seats
turn-less g since start now seats p seat seat' there going t =
    let s : Parts = g.scenario.now in
    let sums = sum_by-set (seat_weight s) seats p seat' seat (slice_get_within seats p seat there) in
    let is : seat_weight s (get_or seats p seat) ≡ weight_left s seat.remaining + 1 =
    ap (seat_weight s) (get_or_from_slice_get seats p seat seat there) ∙ ap (λ (b : Bool). let k : ℕ = if b then 0 else weight_left s seat.remaining + 1 in k) going in
    let less : seat_weight s seat' < weight_left s seat.remaining + 1 = gone-less seat'.ended g (in_its_turn t.kept start) (in_its_turn t.kept_now now) seat.remaining seat'.remaining t.went in
    omega (arith, sums, is, less)

-- ---- a turn

seated-as : (g : Program) (q : ℕ) (log log' : Log) (base base' : Lives) (share share' : ℕ) (now : LivingState) (seat : Seat) → log ≡ log' → base ≡ base' → share ≡ share' → IsSeated g q log base share now seat → IsSeated g q log' base' share' now seat
seated-as g q log log' base base' share share' now seat e f k h =
    subst (λ (x : ℕ). IsSeated g q log' base' x now seat) k (subst (λ (x : Lives). IsSeated g q log' x share now seat) f (subst (λ (x : Log). IsSeated g q x base share now seat) e h))

-- The processor's log is what its seat keeps, and it may take its turn.
module _ (g : Program) (turns rest : List ℕ) (seats : List Seat) (world : LivingState) (b : Between g turns rest seats world) (p : ℕ) (seat : Seat) (there : slice_get seats p ≡ Some seat) where
  abbrev s : Parts
  s = g.scenario.now

  abbrev n : ℕ
  n = s.processors

  abbrev since : Log
  since = get_or b.logs p []

  abbrev lives : Lives
  lives = in_hands (known_living world).objects

  pub before : IsSeated g p since (b.bases p) (get_or b.shares p 0) world seat
  before = b.seated p seat there

  since-is : kept_log seat.kept ≡ since
  since-is = ap kept_log before.kept_is ∙ ap told_or_none before.told

  turn : p < n
  turn = subst (λ (k : ℕ). p < k) b.many (slice_get_within seats p seat there)

  pub few-processors : p < world.side.grace.processors
  few-processors = subst (λ (k : ℕ). p < k) (sym (so-many n s.pages (all_openings s ++ b.order) world b.so_far.so_far)) turn

  his : IsSideOf p (at_turn p world).side
  his = side-at p b.so_far.turn world few-processors b.so_far.side

  share-most : (q : ℕ) → q < n → get_or b.shares q 0 ≤ sum_by (λ x. x) b.shares
  share-most q lt = get_or-le-sum_by (λ x. x) b.shares q 0 (subst (λ (k : ℕ). q < k) (sym b.shares_many) lt)

  pub can-turn : seat.ended ≡ false → MayTurn g since (at_turn p world) seat
  can-turn going = (let most = share-most p turn in let few = b.few in may-turn g p since (b.bases p) (get_or b.shares p 0) world seat before going (omega (arith, most, few)))

  -- as the seat is taken, and as the world is given to its processor
  pub may-be : (x : Seat) (start : LivingState) → x ≡ seat → start ≡ at_turn p world → seat.ended ≡ false → MayTurn g (kept_log x.kept) start x
  may-be x start is at going =
      subst (λ (y : Seat). MayTurn g (kept_log y.kept) start y) (sym is)
      (subst (λ (w : LivingState). MayTurn g (kept_log seat.kept) w seat) (sym at) (subst (λ (z : Log). MayTurn g z (at_turn p world) seat) (sym since-is) (can-turn going)))

  pub took-as : (x seat' : Seat) (start now : LivingState) → x ≡ seat → start ≡ at_turn p world → TookTurn g (kept_log x.kept) start now x seat' → TookTurn g since (at_turn p world) now seat seat'
  took-as x seat' start now is at t =
      subst (λ (z : Log). TookTurn g z (at_turn p world) now seat seat') since-is
      (subst (λ (w : LivingState). TookTurn g (kept_log seat.kept) w now seat seat') at (subst (λ (y : Seat). TookTurn g (kept_log y.kept) start now y seat') is t))

  pub may-begin : p < world.side.post.processors
  may-begin = subst (λ (k : ℕ). p < k) (sym b.so_far.side.agree) few-processors

  -- its log leaves its lists
  leaves-before : Leaves p since (after (opening p) since)
  leaves-before = (let l = leaves-here g p (in_its_turn before.kept (at_turn p world)) since refl before.sound before.told in record { named = l.named; lists = refl })

  -- The turn was taken.
  module _ (later : List ℕ) (now : LivingState) (seat' : Seat) (going : seat.ended ≡ false) (next : IsNextTurn (ended_of seats) rest p later) (t : TookTurn g since (at_turn p world) now seat seat') where
    abbrev o : Order
    o = all_openings s ++ b.order

    abbrev lives' : Lives
    lives' = in_hands (known_living now).objects

    left : SeatLeft g p since t.log world now (get_or b.shares p 0) seat seat'
    left = seat-after g p since (b.bases p) (get_or b.shares p 0) world now seat seat' before going his t

    -- p's seat, with the objects of the others as they were
    own-seat : IsSeated g p t.log (b.bases p) left.share' now seat'
    own-seat = left.seated (b.bases p) before.owns

    more : Added seat'.ended since t.log
    more = gone-added g p (in_its_turn t.kept (at_turn p world)) (in_its_turn t.kept_now now) seat.remaining seat'.remaining since t.log (before-told t.kept t.kept_is) t.told left.first t.sound seat'.ended t.went
      where
        before-told : (k : Kept) → seat.kept ≡ Some k → k.caches.recorder.told ≡ Some since
        before-told k is = subst (λ (x : Kept). x.caches.recorder.told ≡ Some since) (same-kept before.kept k (sym before.kept_is ∙ is)) before.told

    abbrev added : Log
    added = more.added

    abbrev logs' : List Log
    logs' = set b.logs p (since ++ added)

    abbrev shares' : List ℕ
    shares' = set b.shares p left.share'

    abbrev bases' : ℕ → Lives
    bases' = bases_after p lives lives' b.bases

    below : p < length b.logs
    below = subst (λ (k : ℕ). p < k) (sym b.so_far.many) turn

    shares-below : p < length b.shares
    shares-below = subst (λ (k : ℕ). p < k) (sym b.shares_many) turn

    taken-below : p < length b.taken
    taken-below = subst (λ (k : ℕ). p < k) (sym b.turned.taken_many) turn

    went : Stretched n s.pages p o b.logs added world now
    went =
        stretched false n s.pages p o b.logs t.log added world now _ b.so_far turn more.log_is (seat-free g t.log (in_its_turn own-seat.kept (at_turn p now)) own-seat.sound own-seat.told (seat-unlocked seat'.ended s p t.log (in_its_turn own-seat.kept (at_turn p now)) seat'.remaining own-seat.runs)) left.tied leaves-before
        (leaves-here g p (in_its_turn own-seat.kept (at_turn p now)) t.log refl own-seat.sound own-seat.told) (unswept-found p added (world_over o (outset n s.pages)) more.unswept)

    -- ---- the turns

    abbrev taken' : List (List Log)
    taken' = set b.taken p (get_or b.taken p [] ++ added ∷ [])

    is-going : get_or (ended_of seats) p true ≡ false
    is-going = ended-at seats p seat there ∙ going

    turned : TurnsSoFar n turns later taken' (ended_of (set seats p seat')) (b.order ++ by p added)
    turned = subst (λ (x : List Bool). TurnsSoFar n turns later taken' x (b.order ++ by p added)) (ended-set seats p seat') (took next)
      where
        took : IsNextTurn (ended_of seats) rest p later → TurnsSoFar n turns later taken' (set (ended_of seats) p seat'.ended) (b.order ++ by p added)
        took (inl named) = turn-named n p turns later b.taken (ended_of seats) b.order seat'.ended added (subst (λ (x : List ℕ). TurnsSoFar n turns x b.taken (ended_of seats) b.order) named b.turned) turn is-going
        took (inr lowest) =
            subst (λ (x : List ℕ). TurnsSoFar n turns x taken' (set (ended_of seats) p seat'.ended) (b.order ++ by p added)) (sym lowest.1)
            (turn-lowest n p turns b.taken (ended_of seats) b.order seat'.ended added (subst (λ (x : List ℕ). TurnsSoFar n turns x b.taken (ended_of seats) b.order) lowest.0 b.turned) turn lowest.2)

    pieces : AreTaken n taken' (ended_of (set seats p seat'))
    pieces =
        subst (AreTaken n taken') (ended-set seats p seat')
        (taken-more n p b.taken (ended_of seats) seat'.ended added b.turned.taken_many b.turned.ended_many turn is-going more.piece b.pieces)

    logs-are : (q : ℕ) → q < n → get_or logs' q [] ≡ opening_log s q ++ joined (get_or taken' q [])
    logs-are q lt = by (cases_eq q p)
      where
        own : get_or logs' p [] ≡ opening_log s p ++ joined (get_or taken' p [])
        own =
            get_or-set_same b.logs p (since ++ added) [] below
            ∙ (ap (λ (z : Log). z ++ added) (b.logs_are p turn)
            ∙ (append_assoc (opening_log s p) (joined (get_or b.taken p [])) added
            ∙ ap (λ (z : Log). opening_log s p ++ z) (sym (joined-more (get_or b.taken p []) added) ∙ ap (λ (z : List Log). joined z) (sym (get_or-set_same b.taken p (get_or b.taken p [] ++ added ∷ []) [] taken-below)))))

        by : (q ≡ p) ⊎ (q ≢ p) → get_or logs' q [] ≡ opening_log s q ++ joined (get_or taken' q [])
        by (inl same) = subst (λ (k : ℕ). get_or logs' k [] ≡ opening_log s k ++ joined (get_or taken' k [])) (sym same) own
        by (inr ne) =
            get_or-set_other b.logs p q (since ++ added) [] ne
            ∙ (b.logs_are q lt ∙ ap (λ (z : List Log). opening_log s q ++ joined z) (sym (get_or-set_other b.taken p q (get_or b.taken p [] ++ added ∷ []) [] ne)))

    -- ---- the order

    order-is : o ++ by p added ≡ all_openings s ++ (b.order ++ by p added)
    order-is = append_assoc (all_openings s) b.order (by p added)

    part : part_of p o ≡ since
    part = b.so_far.order_of.parts p below

    waits : WaitsSoFar (o ++ by p added) now
    waits =
        let sealed = sealed-at p o world b.waits.sealed in
        record {
          sealed = turn-sealed p o since added t.log (at_turn p world) now his part more.log_is left.tied more.sends sealed;
          batches = turn-batches p o since added t.log (at_turn p world) now his part more.log_is left.tied more.sends more.stamps sealed b.waits.batches;
          unswept = unswept-append o (by p added) b.waits.unswept (unswept-by p added more.unswept);
        }

    -- ---- the seats

    few : now.asked + sum_by (λ x. x) shares' + 3 * 2 ^ 16 + 128 < 2 ^ 22
    few =
        let sums : sum_by (λ x. x) shares' + get_or b.shares p 0 ≡ sum_by (λ x. x) b.shares + left.share' = sum_by-set (λ x. x) b.shares p left.share' 0 shares-below in
        let asked = left.few in
        let most = b.few in
        omega (arith, sums, asked, most)

    own-after : IsSeated g p (get_or logs' p []) (bases' p) (get_or shares' p 0) now seat'
    own-after =
        seated-as g p t.log (get_or logs' p []) (b.bases p) (bases' p) left.share' (get_or shares' p 0) now seat' (more.log_is ∙ sym (get_or-set_same b.logs p (since ++ added) [] below))
        (sym (base-own s n p b.bases lives lives' turn b.add_up seat.remaining.begun seat'.remaining.begun before.owns own-seat.owns)) (sym (get_or-set_same b.shares p left.share' 0 shares-below)) own-seat

    other-after : (q : ℕ) (x : Seat) → q ≢ p → slice_get seats q ≡ Some x → IsSeated g q (get_or logs' q []) (bases' q) (get_or shares' q 0) now x
    other-after q x ne at =
        let h = b.seated q x at in
        let lt : q < n = subst (λ (k : ℕ). q < k) b.many (slice_get_within seats q x at) in
        let shows = leaves-here g q (in_its_turn h.kept (at_turn q world)) (get_or b.logs q []) refl h.sound h.told in
        let alone = went.alone q lt ne (shown h.kept.caches) (sym shows.lists) in
        let same : get_or shares' q 0 ≡ get_or b.shares q 0 = get_or-set_other b.shares p q left.share' 0 ne in
        let most : get_or shares' q 0 ≤ sum_by (λ y. y) shares' = get_or-le-sum_by (λ y. y) shares' q 0 (subst (λ (k : ℕ). q < k) (sym (length-set b.shares p left.share' ∙ b.shares_many)) lt) in
        let asks = h.asks in
        let all = few in
        let own : owned_by s (bases' q) lives' x.remaining.begun = owned-after s n p b.bases lives lives' turn b.add_up seat.remaining.begun seat'.remaining.begun before.owns own-seat.owns q lt ne x.remaining.begun h.owns in
        seated-as g q (get_or b.logs q []) (get_or logs' q []) (bases' q) (bases' q) (get_or b.shares q 0) (get_or shares' q 0) now x (sym (get_or-set_other b.logs p q (since ++ added) [] ne)) refl (sym same)
        (seat-alone g q (get_or b.logs q []) (b.bases q) (bases' q) (get_or b.shares q 0) world now x h alone (omega (arith, same, most, asks, all)) own-seat.sound.at.ready.stocked own)

    seated : (q : ℕ) (x : Seat) → slice_get (set seats p seat') q ≡ Some x → IsSeated g q (get_or logs' q []) (bases' q) (get_or shares' q 0) now x
    seated q x at = by (cases_eq q p)
      where
        by : (q ≡ p) ⊎ (q ≢ p) → IsSeated g q (get_or logs' q []) (bases' q) (get_or shares' q 0) now x
        by (inl same) =
            let is : seat' ≡ x = got-same seats p seat' x (slice_get_within seats p seat there) (subst (λ (k : ℕ). slice_get (set seats p seat') k ≡ Some x) same at) in
            subst (λ (k : ℕ). IsSeated g k (get_or logs' k []) (bases' k) (get_or shares' k 0) now x) (sym same) (subst (λ (y : Seat). IsSeated g p (get_or logs' p []) (bases' p) (get_or shares' p 0) now y) is own-after)
        by (inr ne) = other-after q x ne (got-other seats p q seat' x ne at)

    pub between-turn : Between g turns later (set seats p seat') now
    between-turn = record {
      many = length-set seats p seat' ∙ b.many;
      order = b.order ++ by p added;
      taken = taken';
      logs = logs';
      bases = bases';
      shares = shares';
      turned = turned;
      pieces = pieces;
      logs_are = logs-are;
      so_far = subst (λ (x : Order). LogsSoFar n s.pages x logs' now) order-is went.so_far;
      waits = subst (λ (x : Order). WaitsSoFar x now) order-is waits;
      seated = seated;
      add_up = add-up-after s n p b.bases lives lives' turn b.add_up seat.remaining.begun seat'.remaining.begun before.owns own-seat.owns;
      shares_many = length-set b.shares p left.share' ∙ b.shares_many;
      few = few;
    }
