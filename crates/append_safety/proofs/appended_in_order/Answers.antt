use Rattle.append_safety.proofs.Appending.{chosen_appended_holds, appended_in_order_holds}
use Rattle.append_safety.proofs.Kept.{kept_agrees_holds}
use Rattle.append_safety.proofs.Later.{new_is_later_holds, applied_is_first_holds}
use Rattle.append_safety.proofs.appended_in_order.Goals as goal

pub returns-clause-each : goal.returns-clause-each
returns-clause-each c = chosen_appended_holds

pub returns-clause-order : goal.returns-clause-order
returns-clause-order c = appended_in_order_holds

pub returns-clause-kept : goal.returns-clause-kept
returns-clause-kept c = kept_agrees_holds

pub returns-clause-later : goal.returns-clause-later
returns-clause-later c = new_is_later_holds

pub returns-clause-applied : goal.returns-clause-applied
returns-clause-applied c = applied_is_first_holds
