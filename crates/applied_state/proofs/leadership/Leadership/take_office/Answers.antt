use Rattle.std.proofs.Common.{ap}
use Rattle.applied_state.specs.declared.leadership.LeadershipPhase.{LeadershipPhase}
use Rattle.applied_state.proofs.leadership.Leadership.take_office.Goals as goal

pub returns-clause-office : goal.returns-clause-office
returns-clause-office c = ap (λ (p : LeadershipPhase). record { term = c.args.self.now.term; phase = p }) (c.in_ok-self.ensures _ _ c.in_ok-entries.ensures.entries)
