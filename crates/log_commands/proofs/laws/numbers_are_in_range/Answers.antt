use Rattle.log_commands.proofs.InOtherWords.{in_range_of, in_range_test, fit_low}
use Rattle.log_commands.proofs.laws.numbers_are_in_range.Goals as goal

pub returns-clause-sound : goal.returns-clause-sound
returns-clause-sound c = λ name tx truncate commit pages. in_range_of truncate commit pages

pub returns-clause-complete : goal.returns-clause-complete
returns-clause-complete c = λ name tx truncate commit pages. in_range_test truncate commit pages

pub returns-clause-low : goal.returns-clause-low
returns-clause-low c = fit_low
