use Rattle.node_core.proofs.CoreEntries.{made_by_entry}
use Rattle.node_core.proofs.Applying.{stands_applied, clients_applied, agrees_applied, servers_stay, index_rises}
use Rattle.node_core.proofs.leading.apply.Goals as goal

pub returns-clause-index : goal.returns-clause-index
returns-clause-index c = index_rises c.apply-effect.result c.args.applied.now _ c.args.entry.now c.apply-effect.ensures.applied

pub returns-clause-servers : goal.returns-clause-servers
returns-clause-servers c = servers_stay c.apply-effect.result c.args.applied.now _ c.args.entry.now c.apply-effect.ensures.applied c.apply-effect.ensures.told

pub returns-clause-stand : goal.returns-clause-stand
returns-clause-stand c = λ held s. stands_applied c.apply-effect.result held c.args.applied.now _ c.args.entry.now c.apply-effect.ensures.applied c.apply-effect.ensures.kept c.apply-effect.ensures.pins s

pub returns-clause-agrees : goal.returns-clause-agrees
returns-clause-agrees c = λ known held a. agrees_applied c.apply-effect.result known held c.args.applied.now _ c.args.entry.now c.apply-effect.ensures.applied c.apply-effect.ensures.kept c.databases-before.ensures.stand c.databases-after.ensures.stand a

pub returns-clause-clients : goal.returns-clause-clients
returns-clause-clients c = λ held s. clients_applied c.apply-effect.result held c.args.applied.now _ c.args.entry.now c.apply-effect.ensures.applied c.apply-effect.ensures.kept c.apply-effect.ensures.pins s

pub returns-clause-files : goal.returns-clause-files
returns-clause-files c = made_by_entry c.apply-effect.result c.args.applied.now _ c.args.entry.now c.databases-before.ensures.stand c.apply-effect.ensures.applied
