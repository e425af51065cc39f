use Rattle.sqlite_files.proofs.page_file.PageFileDisk.write_at.Goals as goal

pub invariant_of-self : goal.invariant_of-self
invariant_of-self c = c.write-outcome.ensures.since _ c.self.invariant
