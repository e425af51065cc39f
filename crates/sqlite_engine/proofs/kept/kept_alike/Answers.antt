use Rattle.std.proofs.Common.{sym, subst}
use Rattle.std.proofs.Math.Logic.{∥∥₁_map}
use Rattle.dq_base.specs.declared.images.Image.{Image}
use Rattle.sqlite_engine.specs.Sql.{Stands}
use Rattle.sqlite_engine.proofs.Standing.{goes_on}
use Rattle.sqlite_engine.proofs.kept.kept_alike.Goals as goal

pub kept_anew-requires-clause-stands : goal.kept_anew-requires-clause-stands
kept_anew-requires-clause-stands c =
    let it = c.args.conn.value in
    ∥∥₁_map ((rw c.deref-unboxed.ensures at c.held.ensures) c.requires.open) (λ h.
    subst (λ (i : Image). Stands i it) (sym c.in-Some.ensures)
    (goes_on c.args.image.now it (rw c.deref-unboxed.ensures at c.connected.ensures) c.requires.open c.requires.autocommit
    ((rw c.deref-unboxed.ensures at (c.holds_alike.ensures c.if-not-holds_alike.false)) _ h)))

pub kept_anew-requires-clause-marked : goal.kept_anew-requires-clause-marked
kept_anew-requires-clause-marked c it none = absurd cc
