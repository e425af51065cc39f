use Rattle.std.proofs.Common.{◌∙◌}
use Rattle.std.proofs.lemmas.Result.{on_ok_weaker}
use Rattle.node_core.specs.declared.running.Running.{Running}
use Rattle.node_core.proofs.RaftExactly.{shown_is}
use Rattle.node_core.proofs.running.Running.look_at_servers.Goals as goal

pub returns-clause-exact : goal.returns-clause-exact
returns-clause-exact c =
    let old : Running = c.args.self.now in
    on_ok_weaker c.look.result
    (shown_is old c.show.new.self c.look.new.self (c.show.ensures ∙ (λ i. record old { view = record old.view { servers = (c.in_ok-servers.ensures ∙ c.as_slice.ensures) i } })))
    c.look.ensures.exact
