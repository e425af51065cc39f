use Rattle.std.proofs.Common.{ap, sym, ◌∙◌}
use Rattle.raft_spec.specs.Node.{Server}
use Rattle.raft_messages.specs.Servers.{last_from}
use Rattle.raft_messages.proofs.ServerLaws.{last_from-push}
use Rattle.raft_messages.proofs.configuration.last_id.Goals as goal

pub returns : goal.returns
returns c =
    ap (λ (s : Server). s.id) c.last.view_is ∙ sym (last_from-push 0 c.in-Some.field-0-1.now c.in-Some.last.now) ∙ sym (ap (last_from 0) c.in-Some.ensures.cases.0)
