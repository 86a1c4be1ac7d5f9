use Rattle.bm_generator.proofs.TextLemmas.{whole_text}
use Rattle.bm_generator.proofs.scenario.generated_text.Goals as goal

pub returns : goal.returns
returns c =
    let e1 = rw c.new-out.ensures.items at c.in_ok-put_head.ensures in
    whole_text c.args.count c.args.start _ _ _ _ _ c.requires.few e1 c.in_ok-put_scripts.ensures c.in_ok-put_lines.ensures c.in_ok-put_turns.ensures c.in_ok-put_bytes.ensures
