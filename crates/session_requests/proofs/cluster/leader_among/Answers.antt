use Rattle.std.proofs.Common.{◌≡◌, ◌<◌, ◌≤◌, length, find, Some, sym, ap, ◌∙◌, arith}
use Rattle.std.specs.Prelude.{◌==◌}
use Rattle.std.proofs.lemmas.Result.{IfOk-weaker}
use Rattle.raft_spec.specs.Node.{Server}
use Rattle.session_spec.specs.Asking.{told_leader}
use Rattle.session_requests.proofs.Changing.{server_found}
use Rattle.session_requests.proofs.Finding.{skipped, hit, missed}
use Rattle.session_requests.proofs.cluster.leader_among.Goals as goal

pub loop-server-preserved : goal.loop-server-preserved
loop-server-preserved c =
    let at : c.loop-server.server-index < length c.args.servers.now = omega arith in
    skipped (λ (s : Server). s.id == c.args.id) c.args.servers.now c.loop-server.server-index c.server-item.result _ c.server-item.is c.loop-server.invariant at (sym c.has_id.ensures ∙ c.if-has_id.false)

pub returns-then-has_id : goal.returns-then-has_id
returns-then-has_id c =
    let at : c.loop-server.server-index < length c.args.servers.now = omega arith in
    let found : find (λ (s : Server). s.id == c.args.id) c.args.servers.now ≡ Some c.server-item.result =
    hit (λ (s : Server). s.id == c.args.id) c.args.servers.now c.loop-server.server-index c.server-item.result _ c.server-item.is c.loop-server.invariant at (sym c.has_id.ensures ∙ c.if-has_id.true) in
    IfOk-weaker c.told_leader.result _ _ (λ r e. e ∙ ap told_leader (sym (server_found c.args.servers.now c.args.id ∙ found))) c.told_leader.ensures

pub returns : goal.returns
returns c =
    let past : length c.args.servers.now ≤ c.loop-server.server-index = omega arith in
    c.no_leader.ensures ∙ ap told_leader (sym (server_found c.args.servers.now c.args.id ∙ missed (λ (s : Server). s.id == c.args.id) c.args.servers.now c.loop-server.server-index _ c.loop-server.invariant past))
