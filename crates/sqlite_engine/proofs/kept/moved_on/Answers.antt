use Rattle.std.proofs.Common.{sym, subst, ◌∙◌}
use Rattle.dq_base.specs.declared.images.Image.{Image}
use Rattle.sqlite_engine.specs.Marking.{AreMarked}
use Rattle.sqlite_engine.specs.Sql.{Stands}
use Rattle.sqlite_engine.specs.Settling.{files_beneath}
use Rattle.sqlite_engine.proofs.kept.moved_on.Goals as goal

pub kept_anew-requires-clause-stands : goal.kept_anew-requires-clause-stands
kept_anew-requires-clause-stands c =
    let is = c.takes_over.ensures c.if-takes_over.true (files_beneath c.args.conn.value) c.requires.short c.requires.pages in
    subst (λ (i : Image). ∥ Stands i c.args.conn.value ∥₁) (sym is) c.requires.stands

pub kept_anew-requires-clause-marked : goal.kept_anew-requires-clause-marked
kept_anew-requires-clause-marked c =
    let is = c.takes_over.ensures c.if-takes_over.true (files_beneath c.args.conn.value) c.requires.short c.requires.pages in
    subst (λ (i : Image). AreMarked i c.marks_of-marks.result c.args.conn.value) (sym is) (rw c.deref.ensures at c.marks_of-marks.ensures)

pub returns-then-takes_over : goal.returns-then-takes_over
returns-then-takes_over c =
    c.kept_anew.ensures.base ∙ c.takes_over.ensures c.if-takes_over.true (files_beneath c.args.conn.value) c.requires.short c.requires.pages
