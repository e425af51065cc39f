use Rattle.std.proofs.Common.{◌≡◌, ℕ, List, drop}
use Rattle.session_spec.specs.Statements.{any_barred}
use Rattle.session_statements.specs.Texts.{cut_at}
use Rattle.session_statements.proofs.text.any_barred.Given as goal

abbrev pub invariant-loop-piece : goal.invariant-loop-piece
invariant-loop-piece l = (text : List ℕ) → any_barred (cut_at text l.pieces) ≡ any_barred (cut_at text (drop l.piece-index l.pieces))
