use Rattle.std.proofs.Common.{◌≡◌, ◌≤◌, All, Contains}
use Rattle.session_spec.specs.Touched.{ListsAll}
use Rattle.image_diff.specs.Undoing.{all_undone}
use Rattle.session_statements.proofs.Standing.{Standing}
use Rattle.session_statements.proofs.running.advance.Given as goal

abbrev pub invariant-loop-piece : goal.invariant-loop-piece
invariant-loop-piece g l = record {
  standing : Standing (g.E.Engine.meaning (g.E.Engine.kind l.initial.engine)) (g.E.Engine.kind l.initial.engine) (g.E.Engine.kind l.engine) l.initial.image l.text l.pieces l.params l.piece-index l.rest (g.E.Engine.told l.initial.engine) (g.E.Engine.told l.engine) l.image l.progress.answer;
  counted : g.E.Engine.refused_openings l.initial.engine ≤ g.E.Engine.refused_openings l.engine;
  known : All (Contains (g.E.Engine.known l.initial.engine)) (g.E.Engine.known l.engine);
  listed : ListsAll l.progress.touched.items l.initial.image l.image;
  kept : all_undone l.progress.undoes.items l.image ≡ all_undone l.initial.progress.undoes.items l.initial.image;
}
