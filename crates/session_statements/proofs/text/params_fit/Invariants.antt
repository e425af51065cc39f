use Rattle.std.proofs.Common.{◌≡◌, ◌+◌, take, length}
use Rattle.session_statements.specs.Texts.{wants}
use Rattle.session_statements.proofs.text.params_fit.Given as goal

abbrev pub invariant-loop-piece : goal.invariant-loop-piece
invariant-loop-piece l = l.left + wants (take l.piece-index l.pieces) ≡ length l.params
