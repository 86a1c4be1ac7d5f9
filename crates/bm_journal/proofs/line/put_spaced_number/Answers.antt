use Rattle.std.proofs.Common.{◌+◌, ◌/◌, ◌%◌, [], ◌∷◌, ◌++◌, ◌∙◌, ap, sym, arith}
use Rattle.std.proofs.lemmas.Fmt.{decimal_digit}
use Rattle.bm_journal.proofs.Digits.{decimal_two, decimal_three}
use Rattle.bm_journal.proofs.line.put_spaced_number.Goals as goal

pub returns-in_ok-extend_from_slice : goal.returns-in_ok-extend_from_slice
returns-in_ok-extend_from_slice c =
    let out = c.args.out.now.items in
    c.in_ok-extend_from_slice.ensures.items
    ∙ ap (λ d. out ++ 32 ∷ d ∷ []) c.digit.ensures
    ∙ ap (λ ds. out ++ 32 ∷ (ds ++ [])) (sym (decimal_digit c.args.number c.if-number-lt10.true))

pub returns-in_ok-extend_from_slice-2 : goal.returns-in_ok-extend_from_slice-2
returns-in_ok-extend_from_slice-2 c =
    let out = c.args.out.now.items in
    let n = c.args.number in
    let ten = c.digit-then-number-lt100.result in
    c.in_ok-extend_from_slice-2.ensures.items
    ∙ ap (λ d. out ++ 32 ∷ ten ∷ d ∷ []) c.digit-then-number-lt100-2.ensures
    ∙ ap (λ d. out ++ 32 ∷ d ∷ (48 + n % 10) ∷ []) c.digit-then-number-lt100.ensures
    ∙ ap (λ ds. out ++ 32 ∷ (ds ++ [])) (sym (decimal_two c.args.number (omega arith) c.if-number-lt100.true))

pub returns-in_ok-extend_from_slice-3 : goal.returns-in_ok-extend_from_slice-3
returns-in_ok-extend_from_slice-3 c =
    let out = c.args.out.now.items in
    let n = c.args.number in
    let hundred = c.digit-then-number-lt1000.result in
    let ten = c.digit-then-number-lt1000-2.result in
    c.in_ok-extend_from_slice-3.ensures.items
    ∙ ap (λ d. out ++ 32 ∷ hundred ∷ ten ∷ d ∷ []) c.digit-then-number-lt1000-3.ensures
    ∙ ap (λ d. out ++ 32 ∷ hundred ∷ d ∷ (48 + n % 10) ∷ []) c.digit-then-number-lt1000-2.ensures
    ∙ ap (λ d. out ++ 32 ∷ d ∷ (48 + n / 10 % 10) ∷ (48 + n % 10) ∷ []) c.digit-then-number-lt1000.ensures
    ∙ ap (λ ds. out ++ 32 ∷ (ds ++ [])) (sym (decimal_three c.args.number (omega arith) c.if-number-lt1000.true))
