-- Maps that were emptied.
use Rattle.std.proofs.Common.{◌||◌, ◌≡◌, ◌<◌, ◌+◌, ◌∙◌, ◌++◌, ◌∷◌, [], ℕ, zero, suc, Bool, true, false, List, Option, Some, None, IfSome, ap, append-nil, append_assoc, arith, inl, inr, is_some, refl, subst, sym, eqb}
use Rattle.std.proofs.Math.Path.{fun_ext}
use Rattle.std.proofs.lemmas.Bool.{eqb-true}
use Rattle.bm_journal.specs.Recording.{Appends}
use Rattle.bm_journal.specs.declared.entry.Entry.{Entry}
use Rattle.bm_journal.specs.declared.entry.Entry.TheVariants as entry
use Rattle.bm_journal.specs.declared.ids.ObjId.{ObjId}
use Rattle.bm_lang.specs.declared.scenario.MapDeclaration.{MapDeclaration}
use Rattle.bm_lang.specs.declared.scenario.TypeDeclaration.{TypeDeclaration}
use Rattle.bm_lang.specs.declared.scenario.TypeId.{TypeId}
use Rattle.bm_law.specs.Lists.{Leaves, Log, after}
use Rattle.bm_law.specs.State.{State}
use Rattle.bm_law.specs.Spans.{Above}
use Rattle.bm_law.proofs.Folds.{after-append}
use Rattle.bm_law_order.specs.Calls.{closes, is_close, lock_in}
use Rattle.bm_law_work.specs.Grown.{GrewBy}
use Rattle.bm_law_work.specs.Parts.{Nothing, Part, Say, Stand}
use Rattle.bm_law_work.proofs.Grown.{grew-join, grew-map, grew-none, grew-say, grew-stand}
use Rattle.bm_law_scenario.specs.Calls.{RunsGivingUp, batch_in}
use Rattle.bm_law_scenario.specs.Closing.{EmptiesMap, EmptiesMaps, EmptiesSlot, GivesBack}
use Rattle.bm_law_scenario.specs.Held.{Names, Object, no_names, with_name}
use Rattle.bm_law_scenario.specs.Held.{Nothing as HoldsNothing}
use Rattle.bm_law_scenario.specs.Opened.{OfClass}
use Rattle.bm_law_scenario.proofs.Freed.{knows-batch}
use Rattle.bm_world.specs.LivingState.{LivingState}
use Rattle.bm_world.specs.ToldLiving.{knows_living}
use Rattle.bm_exec.specs.Living.{Exchanged, HasType, LetGo, Lives, Living, LivesAs, TakenOut, count_in, less_of, let_go, one_less, type_in, with_life}
use Rattle.bm_exec_levels.specs.AtPolls.{MayCall, home}
use Rattle.bm_exec_levels.specs.AtProcessor.{Between, FineAt, lists_of, lives_of, lock_of, log_of}
use Rattle.bm_exec_levels.specs.Calling.{lock_name, locks-of}
use Rattle.bm_exec_levels.specs.Sound.{Sound}
use Rattle.bm_exec_levels.specs.declared.processor.Processor.{Processor}
use Rattle.bm_exec_levels.specs.declared.program.Program.{Program}
use Rattle.bm_run.specs.Emptied.{IsClosing}

-- ---- the references that names hold

eqb-itself : (u : ℕ) → eqb u u ≡ true
eqb-itself u = grind arith

-- what stands at a number, by the same number
at-itself : (u : ℕ) (x : Option Living) (lives : Lives) → with_life u x lives u ≡ x
at-itself u x lives = rw (eqb-itself u) refl

-- one reference more, and it is let go again
less-again : (before : Option Living) (object : Living) → object.count ≡ count_in before + 1 → ((l : Living) → before ≡ Some l → 0 < l.count) → ((l : Living) → before ≡ Some l → object ≡ record l { count = l.count + 1 }) → one_less (Some object) ≡ before
less-again None object one some same = ap (λ n. less_of n object) (one ∙ alone)
  where
    alone : 0 + 1 ≡ suc zero
    alone = omega arith
less-again (Some l) object one some same = others l.count refl
  where
    others : (n : ℕ) → l.count ≡ n → less_of object.count object ≡ Some l
    others zero e = (let more = some l refl in absurd (omega (arith, e, more)))
    others (suc k) e =
        let all : object.count ≡ suc (suc k) = omega (arith, one, e) in
        let less : Some (record object { count = suc k }) ≡ Some (record l { count = suc k }) = ap (λ (x : Living). Some (record x { count = suc k })) (same l refl) in
        ap (λ n. less_of n object) all ∙ (less ∙ ap (λ (n : ℕ). Some (record l { count = n })) (sym e))

-- what was taken out of a slot and is let go: names hold what they held
module _ (types : List TypeDeclaration) (t : ℕ) (lives lives' : Lives) (o : ObjId) (x : TakenOut types t lives lives' o) where
  taken-now : lives' o.unit ≡ Some x.object
  taken-now = ap (λ (l : Lives). l o.unit) x.now_is ∙ at-itself o.unit (Some x.object) lives

  pub let-go-again : let_go o.unit lives' ≡ lives
  let-go-again = fun_ext (λ v. alike v (eqb o.unit v) refl)
    where
      less : one_less (lives' o.unit) ≡ lives o.unit
      less = ap one_less taken-now ∙ less-again (lives o.unit) x.object x.count_is x.some x.same

      aside : (v : ℕ) → eqb o.unit v ≡ false → lives' v ≡ lives v
      aside v e = ap (λ (l : Lives). l v) x.now_is ∙ (rw e refl)

      alike : (v : ℕ) (b : Bool) → eqb o.unit v ≡ b → let_go o.unit lives' v ≡ lives v
      alike v true e = rw e (less ∙ ap lives (eqb-true o.unit v e))
      alike v false e = rw e (aside v e)

  -- it lives, as an object of the slot's type
  pub taken-lives : LivesAs lives' x.object.class o.unit o.life
  taken-lives = record {
    home = x.object.home;
    type = x.object.type;
    count = x.object.count;
    values = x.object.values;
    is = taken-now ∙ ap (λ k. Some (record x.object { life = k })) x.life_is;
  }

  pub taken-type : type_in (lives' o.unit) ≡ t
  taken-type = ap type_in taken-now ∙ x.type_is

  pub taken-class : OfClass types t x.object.class x.made.declared
  taken-class = x.made.of_class

-- ---- what stands in the log

some-is : {A : Type 0} (x y : A) → Some x ≡ Some y → x ≡ y
some-is x y e = cc

-- names of which one holds this object
abbrev holder : TypeId → ObjId → Names
holder t o = with_name [] (Object t o.unit o.life) no_names

-- it gives that up
abbrev GivesUp : List TypeDeclaration → TypeId → ObjId → State ℕ → List Entry → Type 0
GivesUp types t o s own = RunsGivingUp types [] (batch_in s) (holder t o) own (with_name [] HoldsNothing (holder t o))

-- what a slot held is given up
given-back : (types : List TypeDeclaration) (t : TypeId) (o : ObjId) (s : State ℕ) (log log' : Option Log) (lives lives' : Lives) (c : ℕ) (declared : TypeDeclaration) → OfClass types t.0 c declared → LetGo 0 declared.counted c o s log log' lives lives' → GrewBy (GivesBack types t (Some o)) s log log'
given-back types t o s log log' lives lives' c declared of gone = grew-map (Say 0 (GivesUp types t o s)) (GivesBack types t (Some o)) s log log' (λ part y. ([], with_name [] HoldsNothing (holder t o), y)) (said gone)
  where
    said : LetGo 0 declared.counted c o s log log' lives lives' → GrewBy (Say 0 (GivesUp types t o s)) s log log'
    said (inl x) =
        grew-say 0 (GivesUp types t o s) (entry.Drop o.unit o.life ∷ entry.Last ∷ x.own) s log log' x.records
        (inr (record { type = t; unit = o.unit; life = o.life; held = refl; class = c; declared = declared; of_class = of; home = x.home; batch = is_some (s.rows c).deferred.plain; batch_is = knows-batch s c; own = x.own; part_is = refl; frees = x.frees; after_is = refl }))
    said (inr (counted, x)) =
        grew-say 0 (GivesUp types t o s) (entry.Drop o.unit o.life ∷ entry.Still x.seen ∷ []) s log log' x.records
        (inl (record { type = t; unit = o.unit; life = o.life; held = refl; of_type = record { declared = declared; found = of.found; counted = counted }; seen = x.seen; others = x.others; part_is = refl; after_is = refl }))

let-go-less : (counted : Bool) (c : ℕ) (o : ObjId) (s : State ℕ) (log log' : Option Log) (lives lives' : Lives) → LetGo 0 counted c o s log log' lives lives' → lives' ≡ let_go o.unit lives
let-go-less counted c o s log log' lives lives' (inl gone) = gone.ends
let-go-less counted c o s log log' lives lives' (inr (is, gone)) = gone.less

-- what was taken out of a map is given up
module _ (types : List TypeDeclaration) (t : TypeId) (o : ObjId) (counted : Bool) (s : State ℕ) (log log' : Option Log) (before lives lives' : Lives) (x : TakenOut types t.0 before lives o) (gone : (k : ℕ) → LivesAs lives k o.unit o.life → LetGo 0 counted k o s log log' lives lives') where
  let-go-now : LetGo 0 counted x.object.class o s log log' lives lives'
  let-go-now = gone x.object.class (taken-lives types t.0 before lives o x)

  pub taken-given-back : HasType types t.0 counted → GrewBy (GivesBack types t (Some o)) s log log'
  taken-given-back typed =
      let k = x.object.class in
      let of = taken-class types t.0 before lives o x in
      let declared = x.made.declared in
      let is : counted ≡ declared.counted = sym typed.counted_is ∙ ap (λ (d : TypeDeclaration). d.counted) (some-is typed.declared declared (sym typed.found ∙ of.found)) in
      given-back types t o s log log' lives lives' k declared of (subst (λ d. LetGo 0 d k o s log log' lives lives') is let-go-now)

  pub taken-let-go : lives' ≡ let_go o.unit lives
  taken-let-go = let-go-less counted x.object.class o s log log' lives lives' let-go-now

-- two parts join between processors, of which the second one came behind the first
pub grew-between : (P Q R : Part) (p : Program) (n : ℕ) (a b : Processor LivingState) (log : Option Log) → ((one two : Log) (s : State ℕ) → P s one → Q (after s one) two → R s (one ++ two)) → FineAt knows_living 0 a → Between knows_living n 0 0 p a b → GrewBy P (lists_of a) (log_of a) (log_of b) → GrewBy Q (lists_of b) (log_of b) log → GrewBy R (lists_of a) (log_of a) log
grew-between P Q R p n a b log join fine x one two =
    grew-join P Q R a.caches.processor (lists_of a) (lists_of b) (log_of a) (log_of b) log (λ u v j k. join u v (lists_of a) j k)
    fine.placed.told (subst (λ k. IfSome (log_of b) (λ es. Leaves k es (lists_of b))) x.came.processor x.fine.placed.told) one two

-- a slot is exchanged with null, and then what it held is given up
module _ (p : Program) (a b : Processor LivingState) (types : List TypeDeclaration) (m : MapDeclaration) (name : List ℕ) (i : ℕ) (same : name ≡ m.name) (fine : FineAt knows_living 0 a) (x : Between knows_living i 0 0 p a b) where
  pub exchanged-with : (log : Option Log) (was : Option ObjId) → Exchanged 0 types m.type_id.0 name None (log_of a) (log_of b) (lives_of knows_living a) (lives_of knows_living b) was → GrewBy (GivesBack types m.type_id was) (lists_of b) (log_of b) log → GrewBy (EmptiesSlot types m) (lists_of a) (log_of a) log
  exchanged-with log was got back =
      let first : Part = Stand 0 (entry.Xchg m.name None was got.by ∷ []) in
      let one : GrewBy first (lists_of a) (log_of a) (log_of b) = subst (λ (k : List ℕ). GrewBy (Stand 0 (entry.Xchg k None was got.by ∷ [])) (lists_of a) (log_of a) (log_of b)) same (grew-stand 0 (entry.Xchg name None was got.by ∷ []) (lists_of a) (log_of a) (log_of b) got.records) in
      grew-between first (GivesBack types m.type_id was) (EmptiesSlot types m) p i a b log (λ one two s j k. (was, got.by, record { one = one; two = two; part_is = refl; is_first = j; is_second = k })) fine x one back

  pub emptied-none : Exchanged 0 types m.type_id.0 name None (log_of a) (log_of b) (lives_of knows_living a) (lives_of knows_living b) None → GrewBy (EmptiesSlot types m) (lists_of a) (log_of a) (log_of b)
  emptied-none got = exchanged-with (log_of b) None got (grew-none Nothing (lists_of b) (log_of b) refl)

-- ---- one map after the other

-- one map more
pub maps-and-one : (types : List TypeDeclaration) (ms : List MapDeclaration) (m : MapDeclaration) (s : State ℕ) (one two : Log) → EmptiesMaps types ms s one → EmptiesMap types m.kind m (after s one) two → EmptiesMaps types (ms ++ m ∷ []) s (one ++ two)
maps-and-one types [] m s one two f g =
    let F : Log → Type 0 = λ es. EmptiesMap types m.kind m (after s es) two in
    record { one = two; two = []; part_is = ap (λ es. es ++ two) f ∙ sym (append-nil two); is_first = subst F f g; is_second = refl }
maps-and-one types (x ∷ xs) m s one two f g =
    let F : State ℕ → Type 0 = λ v. EmptiesMap types m.kind m v two in
    record {
      one = f.one;
      two = f.two ++ two;
      part_is = ap (λ es. es ++ two) f.part_is ∙ append_assoc f.one f.two two;
      is_first = f.is_first;
      is_second = maps-and-one types xs m (after s f.one) f.two two f.is_second (subst F (ap (after s) f.part_is ∙ after-append s f.one f.two) g);
    }

-- One map more was emptied, where calls may begin on the caches before it.
pub grew-map-more : (p : Program) (types : List TypeDeclaration) (ms : List MapDeclaration) (m : MapDeclaration) (i : ℕ) (a b : Processor LivingState) (log : Option Log) → FineAt knows_living 0 a → Between knows_living i 0 0 p a b → GrewBy (EmptiesMaps types ms) (lists_of a) (log_of a) (log_of b) → GrewBy (EmptiesMap types m.kind m) (lists_of b) (log_of b) log →
    GrewBy (EmptiesMaps types (ms ++ m ∷ [])) (lists_of a) (log_of a) log
grew-map-more p types ms m i a b log fine x g h =
    grew-between (EmptiesMaps types ms) (EmptiesMap types m.kind m) (EmptiesMaps types (ms ++ m ∷ [])) p i a b log (λ one two s j k. maps-and-one types ms m s one two j k) fine x g h

-- ---- in the closing

or-more : (x y z : Bool) → (y ≡ true → z ≡ true) → (x || y) ≡ true → (x || z) ≡ true
or-more true y z f h = refl
or-more false y z f h = f h

closes-more : (a b : Log) → closes a ≡ true → closes (a ++ b) ≡ true
closes-more [] b h = absurd (cc)
closes-more (e ∷ a) b h = or-more (is_close e.1) (closes a) (closes (a ++ b)) (closes-more a b) h

-- a log has the begin of the closing still once it has grown
still-closes : (a b : Option Log) → Above 0 a b → IfSome a (λ (es : Log). closes es ≡ true) → IfSome b (λ (es : Log). closes es ≡ true)
still-closes a None r h = tt
still-closes a (Some now) r h =
    let was : closes r.log ≡ true = subst (λ (o : Option Log). IfSome o (λ (es : Log). closes es ≡ true)) r.told h in
    subst (λ (es : Log). closes es ≡ true) (sym r.now_is) (closes-more r.log r.added was)

pub still-closing : (p : Program) (n : ℕ) (a b : Processor LivingState) → Between knows_living n 0 0 p a b → IsClosing a → IsClosing b
still-closing p n a b x c = record {
  begun = still-closes (log_of a) (log_of b) x.came.above c.begun;
  first = x.stays.processor ∙ c.first;
  unlocked = x.stays.locked ∙ c.unlocked;
}

closes-here : (l : ℕ) (es : Log) → closes (es ++ (l, entry.Close) ∷ []) ≡ true
closes-here l [] = refl
closes-here l (e ∷ es) = or-more (is_close e.1) true (closes (es ++ (l, entry.Close) ∷ [])) (λ h. closes-here l es) (or-true (is_close e.1))
  where
    or-true : (x : Bool) → (x || true) ≡ true
    or-true true = refl
    or-true false = refl

-- a log has it once it was noted
pub closes-noted : (l : ℕ) (a b : Option Log) → Appends a l entry.Close b → IfSome b (λ (es : Log). closes es ≡ true)
closes-noted l a None x = tt
closes-noted l a (Some now) x = subst (λ (es : Log). closes es ≡ true) (sym x.more) (closes-here l x.log)

-- any list or tree may be called then
pub may-call : (p : Program) (m : Processor LivingState) (name : List ℕ) → IsClosing m → Sound knows_living p m → IfSome (log_of m) (MayCall (home knows_living m.side) name)
may-call p m name c s = of (log_of m) c.begun (locks-of (log_of m) m.calls (lock_of p m) None (ap (lock_name p.scenario.now.maps) c.unlocked) s.at.counts)
  where
    of : (o : Option Log) → IfSome o (λ (es : Log). closes es ≡ true) → IfSome o (λ (es : Log). lock_in es ≡ None) → IfSome o (MayCall (home knows_living m.side) name)
    of None x y = tt
    of (Some es) x y = inr (c.first, x, y)
