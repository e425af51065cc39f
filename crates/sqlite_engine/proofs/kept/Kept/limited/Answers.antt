use Rattle.std.proofs.Common.{sym, subst}
use Rattle.std.proofs.Math.Logic.{∥∥₁_map}
use Rattle.sqlite.specs.Files.{file_state}
use Rattle.sqlite_engine.specs.Looking.{AllLook}
use Rattle.sqlite_engine.specs.Marking.{AreMarked}
use Rattle.sqlite_engine.specs.Sql.{Conn, Stands}
use Rattle.sqlite_engine.proofs.Marking.{limited_marked}
use Rattle.sqlite_engine.proofs.Standing.{limited_stands}
use Rattle.sqlite_engine.proofs.kept.Kept.limited.Goals as goal

pub kept_over-requires-clause-stands : goal.kept_over-requires-clause-stands
kept_over-requires-clause-stands c =
    ∥∥₁_map c.args.self.stands (λ h.
    subst (λ (it : Conn). Stands c.args.self.base it) (sym (rw c.deref_mut.ensures.value at c.limit_steps.ensures))
    (limited_stands c.args.self.base c.args.self.conn.value c.args.limit h))

pub kept_over-requires-clause-looks : goal.kept_over-requires-clause-looks
kept_over-requires-clause-looks c =
    ∥∥₁_map c.args.self.looks (λ h.
    subst (λ (it : Conn). AllLook (file_state it).now.schema c.args.self.looking.items) (sym (rw c.deref_mut.ensures.value at c.limit_steps.ensures)) h)

pub kept_over-requires-clause-marked : goal.kept_over-requires-clause-marked
kept_over-requires-clause-marked c =
    subst (λ (it : Conn). AreMarked c.args.self.base c.args.self.marks it) (sym (rw c.deref_mut.ensures.value at c.limit_steps.ensures))
    (limited_marked c.args.self.base c.args.self.marks c.args.self.conn.value c.args.limit c.args.self.marked)
