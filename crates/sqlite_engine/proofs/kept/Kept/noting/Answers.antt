use Rattle.std.proofs.Math.Logic.{∥∥₁_map}
use Rattle.sqlite_engine.proofs.Standing.{one_more_looks}
use Rattle.sqlite_engine.proofs.kept.Kept.noting.Goals as goal

pub kept_over-requires-clause-looks : goal.kept_over-requires-clause-looks
kept_over-requires-clause-looks c =
    ∥∥₁_map c.args.self.looks (λ h.
    one_more_looks _ _ _ c.args.text.now c.args.statement.now.columns (rw c.column_names.ensures at c.note_text.ensures) c.requires h)
