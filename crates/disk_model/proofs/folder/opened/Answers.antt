use Rattle.disk_model.proofs.Standing.{opened_same}
use Rattle.disk_model.proofs.folder.opened.Goals as goal

pub returns-clause-same : goal.returns-clause-same
returns-clause-same c = opened_same c.args.files.now.items c.push.new.self.items _ c.in_ok-push.ensures.items (λ i. (c.missing.ensures i).read) (λ i. (c.missing.ensures i).base)
