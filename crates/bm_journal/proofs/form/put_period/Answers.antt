use Rattle.std.proofs.Common.{[], ◌∷◌, ◌++◌, ◌∙◌, ap, codes, decimal}
use Rattle.bm_journal.specs.Line.{spaced}
use Rattle.bm_journal.specs.EntryText.{domain, numbers}
use Rattle.bm_journal.proofs.Printing.{printed_three, on_ok-same}
use Rattle.bm_journal.proofs.form.put_period.Goals as goal

pub returns : goal.returns
returns c =
    let out = c.args.out.now.items in
    let period = c.args.period.now in
    let named = codes "finish" ∷ domain period.domain ∷ decimal period.number ∷ [] in
    let first = codes "first" ∷ numbers c.as_slice.result.now in
    let later = codes "later" ∷ numbers c.as_slice-2.result.now in
    let seen = printed_three out _ _ named first later c.in_ok-put_of_domain.ensures c.in_ok-put_listed.ensures in
    let same_first = ap (λ ns. out ++ spaced (named ++ ((codes "first" ∷ numbers ns) ++ later))) c.as_slice.ensures in
    let same_later = ap (λ ns. out ++ spaced (named ++ ((codes "first" ∷ numbers period.first) ++ (codes "later" ∷ numbers ns)))) c.as_slice-2.ensures in
    on_ok-same c.put_listed-2.result _ _ _ (seen ∙ same_first ∙ same_later) c.put_listed-2.ensures
