-- What stands in a line is read back, word by word.
use Rattle.std.proofs.Common.{◌≡◌, ℕ, zero, suc, ◌<◌, ◌≤◌, ◌^◌, Bool, true, false, List, [], ◌∷◌, ◌++◌, Option, Some, None, length, refl, arith, decimal, lit<, lit≤}
use Rattle.std.proofs.lemmas.Bool.Decides.{nat_tests}
use Rattle.std.proofs.lemmas.Slice.Eq.{bytes_eq-Decides}
use Rattle.std.specs.Prelude.{nat_lt, nat_le, codes}
use Rattle.std.specs.Str.{bytes_eq}
use Rattle.bm_class.specs.Sizes.{size_of_class}
use Rattle.bm_word.specs.Number.{number_of, NumbersRoundTrip}
use Rattle.bm_journal.specs.declared.ids.Domain.{Domain}
use Rattle.bm_journal.specs.declared.ids.Domain.TheVariants.{Plain, Tracing}
use Rattle.bm_journal.specs.declared.ids.ObjId.{ObjId}
use Rattle.bm_journal.specs.declared.ids.Tag.{Tag}
use Rattle.bm_journal.specs.EntryText as text
use Rattle.bm_law_text.specs.Parts.{word_is, number, name, class, domain, numbers, few, object_id, object, call, tag}
use Rattle.bm_law_text.specs.Fits.{Each, IsName, IdFits, TagFits, CallFits, ObjectFits, FewFit}

pub number-decimal : NumbersRoundTrip → (limit n : ℕ) → n < limit → limit ≤ 2 ^ 64 → number limit (decimal n) ≡ Some n
unfolding number
number-decimal rt limit n lt le =
    let small : n < 2 ^ 64 = omega arith in
    let fits : nat_lt n limit ≡ true = grind (arith, nat_tests) in
    rw (rt.reads n small) (rw fits refl)

pub name-back : (n : List ℕ) → IsName n → name n ≡ Some n
unfolding name
name-back n h = rw h refl

class_at : NumbersRoundTrip → (c : ℕ) → c ≤ 10 → class (decimal (size_of_class c)) ≡ Some c
unfolding class size_of_class
class_at rt zero h = rw (rt.reads 16 (lit< tt)) refl
class_at rt (suc zero) h = rw (rt.reads 32 (lit< tt)) refl
class_at rt (suc (suc zero)) h = rw (rt.reads 64 (lit< tt)) refl
class_at rt (suc (suc (suc zero))) h = rw (rt.reads 96 (lit< tt)) refl
class_at rt (suc (suc (suc (suc zero)))) h = rw (rt.reads 128 (lit< tt)) refl
class_at rt (suc (suc (suc (suc (suc zero))))) h = rw (rt.reads 192 (lit< tt)) refl
class_at rt (suc (suc (suc (suc (suc (suc zero)))))) h = rw (rt.reads 256 (lit< tt)) refl
class_at rt (suc (suc (suc (suc (suc (suc (suc zero))))))) h = rw (rt.reads 512 (lit< tt)) refl
class_at rt (suc (suc (suc (suc (suc (suc (suc (suc zero)))))))) h = rw (rt.reads 1024 (lit< tt)) refl
class_at rt (suc (suc (suc (suc (suc (suc (suc (suc (suc zero))))))))) h = rw (rt.reads 2048 (lit< tt)) refl
class_at rt (suc (suc (suc (suc (suc (suc (suc (suc (suc (suc zero)))))))))) h = rw (rt.reads 4096 (lit< tt)) refl
class_at rt (suc (suc (suc (suc (suc (suc (suc (suc (suc (suc (suc c))))))))))) h = absurd (omega arith)

pub class-back : NumbersRoundTrip → (c : ℕ) → c ≤ 10 → class (text.size c) ≡ Some c
class-back rt c h = class_at rt c h

pub domain-back : (d : Domain) → domain (text.domain d) ≡ Some d
unfolding domain
domain-back Plain = refl
domain-back Tracing = refl

pub numbers-back : NumbersRoundTrip → (limit : ℕ) (ns : List ℕ) → limit ≤ 2 ^ 64 → Each (λ n. n < limit) ns → numbers limit (text.numbers ns) ≡ Some ns
unfolding numbers
numbers-back rt limit [] le h = refl
numbers-back rt limit (n ∷ ns) le h = rw (number-decimal rt limit n h.0 le) (rw (numbers-back rt limit ns le h.1) refl)

pub few-back : NumbersRoundTrip → (most : ℕ) (ns : List ℕ) → FewFit most ns → few most (text.numbers ns) ≡ Some ns
few-back rt most ns h =
    let fits : nat_le (length ns) most ≡ true = grind (arith, nat_tests) in
    rw (numbers-back rt (2 ^ 32) ns (lit≤ tt) h.0) (rw fits refl)

pub id-back : NumbersRoundTrip → (o : ObjId) → IdFits o → object_id (decimal o.unit) (decimal o.life) ≡ Some o
id-back rt o h = rw (number-decimal rt (2 ^ 16) o.unit h.0 (lit≤ tt)) (rw (number-decimal rt (2 ^ 32) o.life h.1 (lit≤ tt)) refl)

pub tag-back : NumbersRoundTrip → (t : Tag) → TagFits t → tag (decimal t.processor) (decimal t.serial) ≡ Some t
tag-back rt t h = rw (number-decimal rt (2 ^ 8) t.processor h.0 (lit≤ tt)) (rw (number-decimal rt (2 ^ 32) t.serial h.1 (lit≤ tt)) refl)

-- a number is spelled like no word
pub not_number : NumbersRoundTrip → (word : List ℕ) (n : ℕ) → n < 2 ^ 64 → number_of word ≡ None → word_is word (decimal n) ≡ false
not_number rt word n lt none =
    let case : (b : Bool) → bytes_eq (decimal n) word ≡ b → bytes_eq (decimal n) word ≡ false = λ b.
    elim b as (λ b. bytes_eq (decimal n) word ≡ b → bytes_eq (decimal n) word ≡ false) [
      | true ↦ λ e. let same : decimal n ≡ word = (bytes_eq-Decides (decimal n) word).0 e in let read = rt.reads n lt in cc
      | false ↦ λ e. e
    ]
    in case (bytes_eq (decimal n) word) refl

pub object-back : NumbersRoundTrip → (o : Option ObjId) (rest : text.Words) → ObjectFits o → object (text.object o ++ rest) ≡ Some (o, rest)
unfolding object
object-back rt (Some o) rest h =
    let lt : o.unit < 2 ^ 64 = omega (arith, h.0) in
    rw (not_number rt (codes "none") o.unit lt refl) (rw (id-back rt o h) refl)
object-back rt None rest h = refl

pub call-back : NumbersRoundTrip → (t : Option Tag) → CallFits t → call (text.call t) ≡ Some t
unfolding call
call-back rt (Some t) h = rw (tag-back rt t h) refl
call-back rt None h = refl
