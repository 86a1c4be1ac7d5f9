use Rattle.std.proofs.Common.{[], ◌∷◌, codes}
use Rattle.bm_journal.specs.EntryText.{object, call}
use Rattle.bm_journal.proofs.Printing.{printed_four, on_ok-same}
use Rattle.bm_journal.proofs.form.put_exchange.Goals as goal

pub returns : goal.returns
returns c =
    let out = c.args.out.now.items in
    let named = codes "xchg" ∷ c.args.name.now ∷ [] in
    let put = codes "put" ∷ object c.args.put in
    let was = codes "was" ∷ object c.args.was in
    let by = codes "by" ∷ call c.args.by in
    on_ok-same c.put_by.result _ _ _
    (printed_four out _ _ _ named put was by c.in_ok-put_named.ensures c.in_ok-put_with_object.ensures c.in_ok-put_with_object-2.ensures) c.put_by.ensures
