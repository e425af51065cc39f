use Rattle.raft_messages.proofs.writing.put_log_end.Goals as goal

pub returns-clause-bytes : goal.returns-clause-bytes
returns-clause-bytes c = rw (← c.end.view_is) c.put_two.ensures
