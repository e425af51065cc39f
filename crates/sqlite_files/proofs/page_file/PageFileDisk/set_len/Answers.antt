use Rattle.sqlite_files.proofs.page_file.PageFileDisk.set_len.Goals as goal

pub invariant_of-self : goal.invariant_of-self
invariant_of-self c = c.set_length-outcome.ensures.since _ c.self.invariant
