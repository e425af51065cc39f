use Rattle.node_spec.proofs.OneChanges.{joins_stand, roles_stand, leaves_stand, voters_are_near}
use Rattle.node_spec.proofs.Proposing.{changes_are_proposed}
use Rattle.node_spec.proofs.one_change_stands.Goals as goal

pub returns-clause-joins : goal.returns-clause-joins
returns-clause-joins c = joins_stand

pub returns-clause-roles : goal.returns-clause-roles
returns-clause-roles c = roles_stand

pub returns-clause-leaves : goal.returns-clause-leaves
returns-clause-leaves c = leaves_stand

pub returns-clause-near : goal.returns-clause-near
returns-clause-near c = voters_are_near

pub returns-clause-proposed : goal.returns-clause-proposed
returns-clause-proposed c = changes_are_proposed
