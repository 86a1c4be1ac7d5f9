-- Works on a desk, one after the other, until no flag is up.
use Rattle.std.proofs.Common.{◌≡◌, ◌≢◌, ◌≤◌, ◌+◌, ◌*◌, ℕ, false, List, [], Option, Some, None, refl, sym, ◌∙◌, ap, length, subst, arith, inl, inr}
use Rattle.std.proofs.lemmas.Bool.Decides.{eqb_tells}
use Rattle.bm_journal.specs.declared.counts.Counts.{Counts}
use Rattle.bm_journal.specs.declared.ids.Domain.{Domain}
use Rattle.bm_journal.specs.declared.ids.Domain.TheVariants.{Plain, Tracing}
use Rattle.bm_grace.specs.Known.{Known, side}
use Rattle.bm_grace.specs.Rights.{Rights}
use Rattle.bm_law.specs.State.{Deferred, idle_side, seen}
use Rattle.bm_law.specs.Kept.{Ready}
use Rattle.bm_law.specs.Lists.{Log, after, is_unstamped}
use Rattle.bm_cache.specs.Tests.{Tests}
use Rattle.bm_cache.specs.Tokens.{Token, number_of}
use Rattle.bm_cache.specs.Shown.{shown}
use Rattle.bm_cache.specs.Span.{Face}
use Rattle.bm_cache.specs.declared.caches.Caches.{Caches}
use Rattle.bm_law_work.specs.Parts.{Part}
use Rattle.bm_law_work.specs.WorkPhrases.{Work}
use Rattle.bm_law_scenario.specs.Works.{UntilDown, lowest_raised}
use Rattle.bm_work.specs.Works.{Posted, Stands, Works}
use Rattle.bm_work.proofs.Rests.{ready-again}
use Rattle.bm_work.proofs.Sides.{works-at-most, works-join, works-map-at, works-posted, works-still}
use Rattle.bm_exec_levels.specs.Settled.{Settled}
use Rattle.bm_exec_levels.proofs.Left.{works-left-less, works_left}
use Rattle.bm_exec_levels.proofs.Toward.{AllDown, Lowest, Toward, down-toward, lowest-toward, toward-more, toward-none}

module _ {H R : Type 0} (log : R → Option Log) (counts : R → Counts) (sound : H → Type 0) (tests : H → Tests) (faces : H → Face) (holds : H → Caches R) where
  -- the desk was asked for its caches, and goes on with the same
  pub settled-asked : (a b : H) → holds b ≡ holds a → faces b ≡ faces a → Stands log counts sound tests faces holds b → Settled log counts sound tests faces holds a → Settled log counts sound tests faces holds b
  settled-asked a b e f s r =
      let Q : ℕ → Caches R → Type 0 = λ l z. Ready l (shown z) in
      let S : Caches R → Type 0 = λ z. (c : ℕ) → is_unstamped ((shown z).rows c).deferred.plain ≡ false in
      let k : (faces b).level ≡ (faces a).level = ap (λ (z : Face). z.level) f in
      record {
        stands = s;
        ordinary = k ∙ r.ordinary;
        quiet = subst (λ l. Q l (holds b)) (sym k) (subst (Q (faces a).level) (sym e) r.quiet);
        stamped = subst S (sym e) r.stamped;
      }

  -- a work was done
  pub settled-worked : (waits : H → ℕ) (stays : H → H → Type 0) (known : H → Known) (c : ℕ) (P : ℕ → Part) (a b : H) → Settled log counts sound tests faces holds a → Works log faces waits stays holds known 1 1 P a b → Stands log counts sound tests faces holds b → is_unstamped ((shown (holds b)).rows c).deferred.plain ≡ false → ((k : ℕ) → k ≢ c → ((shown (holds b)).rows k).deferred ≡ ((shown (holds a)).rows k).deferred) → (shown (holds b)).sides (faces a).level ≡ idle_side → Settled log counts sound tests faces holds b
  settled-worked waits stays known c P a b r w s u o i =
      let e : (faces b).level ≡ (faces a).level = ap (λ (z : Face). z.level) w.goes.face in
      let F : ℕ → Type 0 = λ l. Ready l (shown (holds b)) in
      let G : ℕ → Type 0 = λ l. Ready (l + 1) (shown (holds b)) in
      let U : ℕ → Type 0 = λ k. is_unstamped ((shown (holds b)).rows k).deferred.plain ≡ false in
      let q : Ready (faces a).level (shown (holds b)) = ready-again (faces a).level (shown (holds a)) (shown (holds b)) r.quiet w.active (subst G e s.fine.ready) i in
      record {
        stands = s;
        ordinary = e ∙ r.ordinary;
        quiet = subst F (sym e) q;
        stamped = λ k. elim (eqb_tells k c) [
          | inl y ↦ subst U (sym y.1) u
          | inr y ↦ (let d : ((shown (holds b)).rows k).deferred ≡ ((shown (holds a)).rows k).deferred = o k y.1 in
              ap (λ (z : Deferred Token). is_unstamped z.plain) d ∙ r.stamped k)
        ];
      }

-- how many works are left at most on a desk
abbrev pub left_on : {H R : Type 0} → (H → ℕ) → (H → Caches R) → List ℕ → H → ℕ
left_on waits holds classes h = works_left (waits h) classes (λ c. ((shown (holds h)).rows c).raised)

-- So many periods may still begin after works that began some.
pub begins-after : {H R : Type 0} (log : R → Option Log) (faces : H → Face) (waits : H → ℕ) (stays : H → H → Type 0) (holds : H → Caches R) (known : H → Known) (n k m : ℕ) (P : ℕ → Part) (a b : H) → ((d : Domain) → k ≤ (side d (known a)).begins) → Works log faces waits stays holds known n n P a b → m + n ≤ k → (d : Domain) → m ≤ (side d (known b)).begins
begins-after log faces waits stays holds known n k m P a b h w e Plain = let q : k ≤ (known a).grace.plain.begins = h Plain in omega (arith, q, w.plain_begins, e)
begins-after log faces waits stays holds known n k m P a b h w e Tracing = let q : k ≤ (known a).grace.tracing.begins = h Tracing in omega (arith, q, w.tracing_begins, e)

module _ {H R : Type 0} (log : R → Option Log) (faces : H → Face) (waits : H → ℕ) (stays : H → H → Type 0) (holds : H → Caches R) (known : H → Known) (classes : List ℕ) where
  -- as many works are left where the flags were looked at
  pub left-asked : (tests : H → Tests) (b c : H) → Posted faces waits stays holds known tests [] b c → left_on waits holds classes c ≡ left_on waits holds classes b
  left-asked tests b c p =
      let E : ℕ → Caches R → Type 0 = λ n z. works_left n classes (λ k. ((shown z).rows k).raised) ≡ left_on waits holds classes b in
      subst (λ n. E n (holds c)) (sym p.pending) (subst (E (waits b)) (sym p.held) refl)

  -- fewer works are left behind one
  pub left-less : (c : ℕ) (b d : H) → Some c ≡ lowest_raised classes (seen number_of (shown (holds b))) → Works log faces waits stays holds known 1 1 (λ l. Work 0 c) b d → (waits d ≡ waits b → ((shown (holds d)).rows c).raised ≡ false) → left_on waits holds classes d + 1 ≤ left_on waits holds classes b
  left-less c b d e w f = works-left-less (waits b) (waits d) c classes (λ k. ((shown (holds b)).rows k).raised) (λ k. ((shown (holds d)).rows k).raised) (sym e) w.goes.pending f w.flags.flags

-- So many works were done, each of the lowest class whose flag was up.
pub record Going {H R : Type 0} (log : R → Option Log) (faces : H → Face) (waits : H → ℕ) (stays : H → H → Type 0) (holds : H → Caches R) (known : H → Known) (classes : List ℕ) (a h : H) : Type 0 where
  pub done : ℕ
  pub works : Works log faces waits stays holds known done done (λ l. Toward (UntilDown classes) (UntilDown classes)) a h
  pub left : done + left_on waits holds classes h ≤ left_on waits holds classes a

module _ {H R : Type 0} (log : R → Option Log) (counts : R → Counts) (sound : H → Type 0) (tests : H → Tests) (faces : H → Face) (waits : H → ℕ) (stays : H → H → Type 0) (holds : H → Caches R) (known : H → Known) (join : (a b c : H) → stays a b → stays b c → stays a c) (classes : List ℕ) where
  pub going-none : (a : H) → stays a a → Going log faces waits stays holds known classes a a
  going-none a k = record {
    done = 0;
    works = works-still log faces waits stays holds known (λ l. Toward (UntilDown classes) (UntilDown classes)) a k (λ l. toward-none (UntilDown classes) (seen number_of (shown (holds a))));
    left = omega arith;
  }

  -- the flags were looked at
  pub going-asked : (a b c : H) → Posted faces waits stays holds known tests [] b c → Going log faces waits stays holds known classes a b → Going log faces waits stays holds known classes a c
  going-asked a b c p g = record {
    done = g.done;
    works = works-posted log counts faces waits stays holds known tests join [] g.done g.done (λ l. Toward (UntilDown classes) (UntilDown classes)) a b c g.works p;
    left = omega (arith, g.left, left-asked log faces waits stays holds known classes tests b c p);
  }

  -- one more work was done
  pub going-more : (c : ℕ) (a b d : H) → Settled log counts sound tests faces holds a → Settled log counts sound tests faces holds b → Some c ≡ lowest_raised classes (seen number_of (shown (holds b))) → Works log faces waits stays holds known 1 1 (λ l. Work 0 c) b d → (waits d ≡ waits b → ((shown (holds d)).rows c).raised ≡ false) → Going log faces waits stays holds known classes a b → Going log faces waits stays holds known classes a d
  going-more c a b d x y e w f g =
      let n = g.done in
      let less = left-less log faces waits stays holds known classes c b d e w f in
      record {
        done = n + 1;
        works = works-join log counts faces waits stays holds known join n n 1 1 (λ l. Toward (UntilDown classes) (UntilDown classes)) (λ l. Lowest classes c) (λ l. Toward (UntilDown classes) (UntilDown classes)) a b d (λ l s one two p q. toward-more (UntilDown classes) (UntilDown classes) (UntilDown classes) s one two p (lowest-toward classes c (after s one) two q)) x.stands.fine.placed y.stands.fine.placed g.works
            (works-map-at log faces waits stays holds known 1 1 (λ l. Work 0 c) (λ l. Lowest classes c) b d (λ l part v. record { is_lowest = sym e; work = v }) w);
        left = omega (arith, g.left, less);
      }

  -- no flag is up any more
  pub going-end : (rights : H → Rights) (n : ℕ) (a b : H) → stays b b → left_on waits holds classes a ≤ n + waits b * (length classes + 1) → Settled log counts sound tests faces holds a → Settled log counts sound tests faces holds b → None ≡ lowest_raised classes (seen number_of (shown (holds b))) → Going log faces waits stays holds known classes a b → Works log faces waits stays holds known n n (λ l. UntilDown classes) a b
  going-end rights n a b k most x y e g =
      let m = g.done in
      let le : m + 0 ≤ n = omega (arith, g.left, most) in
      works-at-most log counts faces waits stays holds known rights (m + 0) (m + 0) n n (λ l. UntilDown classes) a b le le
      (works-join log counts faces waits stays holds known join m m 0 0 (λ l. Toward (UntilDown classes) (UntilDown classes)) (λ l. AllDown classes) (λ l. UntilDown classes) a b b (λ l s one two p q. down-toward classes s one two p q) x.stands.fine.placed y.stands.fine.placed g.works
      (works-still log faces waits stays holds known (λ l. AllDown classes) b k (λ l. record { down = sym e; nothing = refl })))

  -- another period may begin
  pub going-begins : (n : ℕ) (a b : H) → left_on waits holds classes a + 1 ≤ n → ((d : Domain) → n ≤ (side d (known a)).begins) → Going log faces waits stays holds known classes a b → (d : Domain) → 1 ≤ (side d (known b)).begins
  going-begins n a b most h g d = begins-after log faces waits stays holds known g.done n 1 (λ l. Toward (UntilDown classes) (UntilDown classes)) a b h g.works (omega (arith, g.left, most)) d
