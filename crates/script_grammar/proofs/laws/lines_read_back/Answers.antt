use Rattle.script_grammar.proofs.SpelledLines.{line_spelled, line_read}
use Rattle.script_grammar.proofs.laws.lines_read_back.Goals as goal

pub returns : goal.returns
returns c = record { spelled = line_spelled; read = line_read }
