use Rattle.bm_journal.proofs.text.put_past_call.Goals as goal

pub returns-in-PushFrontAlready : goal.returns-in-PushFrontAlready
returns-in-PushFrontAlready c = rw (c.in-PushFrontAlready.is, ← c.owner_part.ensures) c.put_parts-in-PushFrontAlready.ensures

pub returns-in-PushBackAlready : goal.returns-in-PushBackAlready
returns-in-PushBackAlready c = rw (c.in-PushBackAlready.is, ← c.owner_part-in-PushBackAlready.ensures) c.put_parts-in-PushBackAlready.ensures
