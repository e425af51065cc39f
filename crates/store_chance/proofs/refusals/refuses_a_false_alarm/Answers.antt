use Rattle.store_chance.proofs.Refused.{no_false_alarm}
use Rattle.store_chance.proofs.refusals.refuses_a_false_alarm.Goals as goal

pub returns : goal.returns
returns c = no_false_alarm
