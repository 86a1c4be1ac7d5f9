use Rattle.std.proofs.Common.{◌≡◌, ℕ, ap, ◌∙◌, arith}
use Rattle.std.specs.Prelude.{slice_index}
use Rattle.bm_journal.specs.declared.ids.Domain.TheVariants.{Tracing}
use Rattle.bm_grace.specs.PlainState.{PlainState, domain_in, idle, with_domain, word_moved}
use Rattle.bm_world.specs.SideState.{SideState, known_of}
use Rattle.bm_tests_machine.proofs.Opened.{both-begin}
use Rattle.bm_tests_machine.proofs.refill_tests.side_beside_a_section.Goals as goal

abbrev turned : ℕ → PlainState → PlainState
turned p x = record x { processor = p }

abbrev within : PlainState → PlainState
within x = with_domain Tracing (word_moved x.processor (domain_in Tracing x)) x

abbrev start : PlainState
start = record { processors = 2; processor = 0; plain = idle; tracing = idle }

pub returns-clause-processors : goal.returns-clause-processors
returns-clause-processors g c =
    ap (λ (s : SideState). s.grace.processors) c.turn-2.ensures ∙ (ap (λ (x : PlainState). x.processors) c.enter.ensures.grace ∙ (ap (λ (s : SideState). s.grace.processors) c.turn.ensures ∙ ap (λ (x : PlainState). x.processors) c.side_over-side.ensures.grace))

pub returns-clause-begins : goal.returns-clause-begins
returns-clause-begins g c =
    let one : c.turn.new.self.grace ≡ turned 1 start = ap (λ (s : SideState). s.grace) c.turn.ensures ∙ ap (turned 1) c.side_over-side.ensures.grace in
    let two : c.enter.new.self.grace ≡ within (turned 1 start) = c.enter.ensures.grace ∙ ap within one in
    let end : c.turn-2.new.self.grace ≡ turned 0 (within (turned 1 start)) = ap (λ (s : SideState). s.grace) c.turn-2.ensures ∙ ap (turned 0) two in
    let plain : slice_index c.turn-2.new.self.grace.plain.begins c.turn-2.new.self.grace.processor ≡ 134217728 = ap (λ (x : PlainState). slice_index x.plain.begins x.processor) end in
    let tracing : slice_index c.turn-2.new.self.grace.tracing.begins c.turn-2.new.self.grace.processor ≡ 134217728 = ap (λ (x : PlainState). slice_index x.tracing.begins x.processor) end in
    both-begin 4 (known_of c.turn-2.new.self) (omega (arith, plain)) (omega (arith, tracing))
