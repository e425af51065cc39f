use Rattle.cluster_model.proofs.Proposals.{proposals_seen_hold, proposals_weave_hold}
use Rattle.cluster_model.proofs.proposals_weave.Goals as goal

pub returns-clause-seen : goal.returns-clause-seen
returns-clause-seen c = proposals_seen_hold

pub returns-clause-weaves : goal.returns-clause-weaves
returns-clause-weaves c = proposals_weave_hold
