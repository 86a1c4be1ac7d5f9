use Rattle.bm_journal.proofs.form.put_entry.Goals as goal

pub returns-in-PushFront : goal.returns-in-PushFront
returns-in-PushFront c = rw (c.in-PushFront.is, ← c.as_bytes-in-PushFront.ensures.value) c.put_at.ensures

pub returns-in-PushFrontAlready : goal.returns-in-PushFrontAlready
returns-in-PushFrontAlready c =
    rw (c.in-PushFrontAlready.is, ← c.as_bytes-in-PushFrontAlready.ensures.value, ← c.as_bytes-in-PushFrontAlready-2.ensures.value) c.put_already.ensures
