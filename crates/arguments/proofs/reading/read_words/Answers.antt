use Rattle.std.proofs.Common.{Some, map, string_bytes}
use Rattle.arguments.proofs.Found.{askable}
use Rattle.arguments.proofs.reading.read_words.Goals as goal

pub returns-in-Some-line_of-clause-fit : goal.returns-in-Some-line_of-clause-fit
returns-in-Some-line_of-clause-fit c = askable (Some c.in-Some-line_of.line) (map string_bytes c.in-Some.others.now) c.read_by.result c.read_by.ensures
