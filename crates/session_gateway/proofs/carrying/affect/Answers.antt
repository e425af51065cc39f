use Rattle.std.proofs.Common.{◌≡◌, refl, sym, subst}
use Rattle.session_spec.specs.Requests.{affected_by}
use Rattle.session_table.specs.Table.{table_of}
use Rattle.session_requests.specs.declared.wanted.ClusterEffect.{ClusterEffect}
use Rattle.session_requests.specs.Meant.{effect_named}
use Rattle.session_gateway.proofs.carrying.affect.Goals as goal

pub returns-in_ok-act-in-Weighs-clause-weight : goal.returns-in_ok-act-in-Weighs-clause-weight
unfolding table_of
returns-in_ok-act-in-Weighs-clause-weight c = λ databases sessions.
    subst (λ (e : ClusterEffect). table_of databases sessions c.in-Weighs.new ≡ affected_by (table_of databases sessions c.args.weight.now) (effect_named e)) (sym c.in-Weighs.is) refl
