-- A word that says something is spelled as what it says.
use Rattle.std.proofs.Common.{◌≡◌, ℕ, ◌<◌, ◌≤◌, ◌^◌, Bool, true, false, cond, List, [], ◌∷◌, ◌++◌, Option, Some, None, length, refl, sym, ◌∙◌, ap, arith, decimal, subst, lit≤}
use Rattle.std.proofs.lemmas.Bool.{ltb-true}
use Rattle.std.proofs.lemmas.Bool.Decides.{nat_tests, Decides-eqb}
use Rattle.std.proofs.lemmas.Slice.Eq.{bytes_eq-Decides}
use Rattle.std.specs.Prelude.{nat_lt, nat_le, codes, find, ◌==◌}
use Rattle.bm_class.specs.Sizes.{size_of_class}
use Rattle.bm_word.specs.Number.{number_of, NumbersRoundTrip}
use Rattle.bm_word.specs.Word.{is_word}
use Rattle.bm_journal.specs.declared.ids.Domain.{Domain}
use Rattle.bm_journal.specs.declared.ids.Domain.TheVariants.{Plain, Tracing}
use Rattle.bm_journal.specs.declared.ids.ObjId.{ObjId}
use Rattle.bm_journal.specs.declared.ids.Tag.{Tag}
use Rattle.bm_journal.specs.EntryText as text
use Rattle.bm_law_text.specs.Parts.{after, only_if, word_is, each_read, number, name, names, class, classes, domain, numbers, few, object_id, object_some, object, call, tag}
use Rattle.bm_law_text.specs.Fits.{Each, IsName, IdFits, TagFits, CallFits, ObjectFits, FewFit}
use Rattle.bm_law_text.proofs.Options.{after-some, only_if-some}

pub same : {A : Type 0} {x y : A} → Some x ≡ Some y → x ≡ y
same h = cc

pub word-sound : (t w : List ℕ) → word_is t w ≡ true → w ≡ t
word-sound t w h = (bytes_eq-Decides w t).0 h

pub number-sound : NumbersRoundTrip → (limit : ℕ) (w : List ℕ) (n : ℕ) → number limit w ≡ Some n → (w ≡ decimal n) × (n < limit)
unfolding number
number-sound rt limit w n h =
    let a = after-some (number_of w) (λ n. only_if (nat_lt n limit) (Some n)) n h in
    let b = only_if-some (nat_lt a.0 limit) (Some a.0) n a.2 in
    let is : a.0 ≡ n = same b.1 in
    let lt : a.0 < limit = ltb-true a.0 limit b.0 in
    (rt.only w a.0 a.1 ∙ ap decimal is, subst (λ m. m < limit) is lt)

pub name-sound : (w n : List ℕ) → name w ≡ Some n → (w ≡ n) × IsName n
unfolding name
name-sound w n h =
    let b = only_if-some (is_word w) (Some w) n h in
    (same b.1, subst IsName (same b.1) b.0)

find-each : {A : Type 0} (P : A → Type 0) (p : A → Bool) (xs : List A) (x : A) → Each P xs → find p xs ≡ Some x → (p x ≡ true) × P x
find-each P p [] x each h = absurd (cc)
find-each P p (y ∷ xs) x each h =
    let case : (b : Bool) → p y ≡ b → cond b (Some y) (find p xs) ≡ Some x → (p x ≡ true) × P x = λ b.
    elim b as (λ b. p y ≡ b → cond b (Some y) (find p xs) ≡ Some x → (p x ≡ true) × P x) [
      | true ↦ λ e h. subst (λ z. (p z ≡ true) × P z) (same h) (e, each.0)
      | false ↦ λ e h. find-each P p xs x each.1 h
    ]
    in case (p y) refl h

at_most : Each (λ c. c ≤ 10) classes
at_most = (lit≤ tt, (lit≤ tt, (lit≤ tt, (lit≤ tt, (lit≤ tt, (lit≤ tt, (lit≤ tt, (lit≤ tt, (lit≤ tt, (lit≤ tt, (lit≤ tt, tt)))))))))))

pub class-sound : NumbersRoundTrip → (w : List ℕ) (c : ℕ) → class w ≡ Some c → (w ≡ text.size c) × (c ≤ 10)
unfolding class
class-sound rt w c h =
    let a = after-some (number_of w) (λ n. find (λ c. size_of_class c == n) classes) c h in
    let b = find-each (λ c. c ≤ 10) (λ c. size_of_class c == a.0) classes c at_most a.2 in
    (rt.only w a.0 a.1 ∙ ap decimal (sym ((Decides-eqb (size_of_class c) a.0).0 b.0)), b.1)

pub domain-sound : (w : List ℕ) (d : Domain) → domain w ≡ Some d → w ≡ text.domain d
unfolding domain
domain-sound w d h =
    let case : (b c : Bool) → word_is (codes "plain") w ≡ b → word_is (codes "tracing") w ≡ c → cond b (Some Plain) (cond c (Some Tracing) None) ≡ Some d → w ≡ text.domain d = λ b c.
    elim b as (λ b. word_is (codes "plain") w ≡ b → word_is (codes "tracing") w ≡ c → cond b (Some Plain) (cond c (Some Tracing) None) ≡ Some d → w ≡ text.domain d) [
      | true ↦ λ e f h. word-sound (codes "plain") w e ∙ ap text.domain (same h)
      | false ↦ λ e. elim c as (λ c. word_is (codes "tracing") w ≡ c → cond c (Some Tracing) None ≡ Some d → w ≡ text.domain d)
          [ true ↦ λ f h. word-sound (codes "tracing") w f ∙ ap text.domain (same h) | false ↦ λ f h. absurd (cc) ]
    ]
    in case (word_is (codes "plain") w) (word_is (codes "tracing") w) refl refl h

numbers_each : NumbersRoundTrip → (limit : ℕ) (ws : text.Words) (ns : List ℕ) → each_read (number limit) ws ≡ Some ns → (ws ≡ text.numbers ns) × Each (λ n. n < limit) ns
numbers_each rt limit [] ns h = subst (λ ns. ([] ≡ text.numbers ns) × Each (λ n. n < limit) ns) (same h) (refl, tt)
numbers_each rt limit (w ∷ ws) ns h =
    let a = after-some (number limit w) (λ n. after (each_read (number limit) ws) (λ ns. Some (n ∷ ns))) ns h in
    let b = after-some (each_read (number limit) ws) (λ ms. Some (a.0 ∷ ms)) ns a.2 in
    let n = number-sound rt limit w a.0 a.1 in
    let rest = numbers_each rt limit ws b.0 b.1 in
    subst (λ ns. ((w ∷ ws) ≡ text.numbers ns) × Each (λ n. n < limit) ns) (same b.2) (cc (n.0, rest.0), (n.1, rest.1))

pub numbers-sound : NumbersRoundTrip → (limit : ℕ) (ws : text.Words) (ns : List ℕ) → numbers limit ws ≡ Some ns → (ws ≡ text.numbers ns) × Each (λ n. n < limit) ns
unfolding numbers
numbers-sound rt limit ws ns h = numbers_each rt limit ws ns h

pub names_each : (ws : text.Words) (ns : List (List ℕ)) → each_read name ws ≡ Some ns → (ws ≡ ns) × Each IsName ns
names_each [] ns h = subst (λ ns. ([] ≡ ns) × Each IsName ns) (same h) (refl, tt)
names_each (w ∷ ws) ns h =
    let a = after-some (name w) (λ n. after (each_read name ws) (λ ns. Some (n ∷ ns))) ns h in
    let b = after-some (each_read name ws) (λ ms. Some (a.0 ∷ ms)) ns a.2 in
    let n = name-sound w a.0 a.1 in
    let rest = names_each ws b.0 b.1 in
    subst (λ ns. ((w ∷ ws) ≡ ns) × Each IsName ns) (same b.2) (cc (n.0, rest.0), (n.1, rest.1))

pub names-sound : (ws : text.Words) (ns : List (List ℕ)) → names ws ≡ Some ns → (ws ≡ ns) × Each IsName ns
unfolding names
names-sound ws ns h = names_each ws ns h

pub few-sound : NumbersRoundTrip → (most : ℕ) (ws : text.Words) (ns : List ℕ) → few most ws ≡ Some ns → (ws ≡ text.numbers ns) × FewFit most ns
few-sound rt most ws ns h =
    let a = after-some (numbers (2 ^ 32) ws) (λ ns. only_if (nat_le (length ns) most) (Some ns)) ns h in
    let b = only_if-some (nat_le (length a.0) most) (Some a.0) ns a.2 in
    let n = numbers-sound rt (2 ^ 32) ws a.0 a.1 in
    let yes = b.0 in
    let le : length a.0 ≤ most = grind (arith, nat_tests, yes) in
    subst (λ ns. (ws ≡ text.numbers ns) × FewFit most ns) (same b.1) (n.0, (n.1, le))

pub id-sound : NumbersRoundTrip → (u l : List ℕ) (o : ObjId) → object_id u l ≡ Some o → (u ≡ decimal o.unit) × (l ≡ decimal o.life) × IdFits o
id-sound rt u l o h =
    let a = after-some (number (2 ^ 16) u) (λ u. after (number (2 ^ 32) l) (λ l. Some (record { unit = u; life = l }))) o h in
    let b = after-some (number (2 ^ 32) l) (λ l. Some (record { unit = a.0; life = l })) o a.2 in
    let x = number-sound rt (2 ^ 16) u a.0 a.1 in
    let y = number-sound rt (2 ^ 32) l b.0 b.1 in
    subst (λ o. (u ≡ decimal o.unit) × (l ≡ decimal o.life) × IdFits o) (same b.2) (x.0, y.0, (x.1, y.1))

pub tag-sound : NumbersRoundTrip → (p s : List ℕ) (t : Tag) → tag p s ≡ Some t → (p ≡ decimal t.processor) × (s ≡ decimal t.serial) × TagFits t
tag-sound rt p s t h =
    let a = after-some (number (2 ^ 8) p) (λ p. after (number (2 ^ 32) s) (λ s. Some (record { processor = p; serial = s }))) t h in
    let b = after-some (number (2 ^ 32) s) (λ s. Some (record { processor = a.0; serial = s })) t a.2 in
    let x = number-sound rt (2 ^ 8) p a.0 a.1 in
    let y = number-sound rt (2 ^ 32) s b.0 b.1 in
    subst (λ t. (p ≡ decimal t.processor) × (s ≡ decimal t.serial) × TagFits t) (same b.2) (x.0, y.0, (x.1, y.1))

-- an object and the words after it
abbrev pub ObjectSaid : text.Words → Option ObjId × text.Words → Type 0
ObjectSaid ws r = (ws ≡ text.object r.0 ++ r.1) × ObjectFits r.0

object_some-sound : NumbersRoundTrip → (u : List ℕ) (ws : text.Words) (r : Option ObjId × text.Words) → object_some u ws ≡ Some r → ObjectSaid (u ∷ ws) r
object_some-sound rt u [] r h = absurd (cc)
object_some-sound rt u (l ∷ rest) r h =
    let a = after-some (object_id u l) (λ o. Some (Some o, rest)) r h in
    let o = id-sound rt u l a.0 a.1 in
    subst (ObjectSaid (u ∷ l ∷ rest)) (same a.2) (cc (o.0, o.1), o.2)

pub object-sound : NumbersRoundTrip → (ws : text.Words) (r : Option ObjId × text.Words) → object ws ≡ Some r → ObjectSaid ws r
unfolding object
object-sound rt [] r h = absurd (cc)
object-sound rt (u ∷ rest) r h =
    let case : (b : Bool) → word_is (codes "none") u ≡ b → cond b (Some (None, rest)) (object_some u rest) ≡ Some r → ObjectSaid (u ∷ rest) r = λ b.
    elim b as (λ b. word_is (codes "none") u ≡ b → cond b (Some (None, rest)) (object_some u rest) ≡ Some r → ObjectSaid (u ∷ rest) r) [
      | true ↦ λ e h. subst (ObjectSaid (u ∷ rest)) (same h) (ap (λ w. w ∷ rest) (word-sound (codes "none") u e), tt)
      | false ↦ λ e h. object_some-sound rt u rest r h
    ]
    in case (word_is (codes "none") u) refl h

pub call-sound : NumbersRoundTrip → (ws : text.Words) (t : Option Tag) → call ws ≡ Some t → (ws ≡ text.call t) × CallFits t
unfolding call
call-sound rt [] t h = absurd (cc)
call-sound rt (p ∷ []) t h =
    let b = only_if-some (word_is (codes "start") p) (Some None) t h in
    subst (λ t. ((p ∷ []) ≡ text.call t) × CallFits t) (same b.1) (ap (λ w. w ∷ []) (word-sound (codes "start") p b.0), tt)
call-sound rt (p ∷ s ∷ []) t h =
    let a = after-some (tag p s) (λ t. Some (Some t)) t h in
    let x = tag-sound rt p s a.0 a.1 in
    subst (λ t. ((p ∷ s ∷ []) ≡ text.call t) × CallFits t) (same a.2) (cc (x.0, x.1), x.2)
call-sound rt (p ∷ s ∷ q ∷ ws) t h = absurd (cc)
