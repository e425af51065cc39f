use Rattle.store_chance.proofs.Chance.{picks_leave_three, checks_suffice, checks_are_chance}
use Rattle.store_chance.proofs.Reached.{whole_writes_are_fair}
use Rattle.store_chance.proofs.torn_metadata.Goals as goal

pub returns-clause-three : goal.returns-clause-three
returns-clause-three c = picks_leave_three

pub returns-clause-suffices : goal.returns-clause-suffices
returns-clause-suffices c = checks_suffice

pub returns-clause-chance : goal.returns-clause-chance
returns-clause-chance c = checks_are_chance

pub returns-clause-whole : goal.returns-clause-whole
returns-clause-whole c = whole_writes_are_fair
