use Rattle.std.proofs.Common.{◌∙◌, Some, refl, sym, ap, subst}
use Rattle.std.specs.Prelude.{All}
use Rattle.sql_engine.specs.Meanings.{Tells}
use Rattle.sql_engine.specs.Known.{MayKnow}
use Rattle.engine_recording.specs.Noting.{told_by}
use Rattle.engine_recording.proofs.Telling.{told_more, told_lost}
use Rattle.engine_recording.proofs.engine.RecordingEngineEngine.run.Goals as goal
use Rattle.engine_recording.proofs.engine.RecordingEngineEngine.run.Goals.{in-Ok-1, in-Err-1}

pub returns-then-self-clause-told : goal.returns-then-self-clause-told
returns-then-self-clause-told g c = told_lost _ _ _ _ refl (sym (ap (λ v. v.cut) c.self.view_is) ∙ c.if-self.true)

pub returns-in-Ok-clause-told : goal.returns-in-Ok-clause-told
returns-in-Ok-clause-told g c =
    subst (λ v. Tells c.run-answer.result (Some (told_by v.noted v.cut)) (Some (told_by c.keep.new.noted.items c.self.inside.cut))) c.self.view_is
    (told_more c.run-answer.result c.self.inside.noted.items c.keep.new.noted.items c.self.inside.cut c.self.inside.cut c.if-self.false c.if-self.false c.in-Ok.ensures.kept)

pub returns-in-Err-clause-told : goal.returns-in-Err-clause-told
returns-in-Err-clause-told g c =
    let same = c.in-Err.ensures.same refl ∙ ap (λ v. v.noted) c.self.view_is in
    elim c.match-answer.branch [
      | in-Ok-1 w ↦ told_lost _ _ _ _ (ap (λ v. v.noted) w.self-is ∙ same) (ap (λ v. v.cut) w.self-is)
      | in-Err-1 w ↦ told_lost _ _ _ _ (ap (λ v. v.noted) w.self-is ∙ same) (ap (λ v. v.cut) w.self-is)
    ]

pub returns-in-Ok-clause-known : goal.returns-in-Ok-clause-known
returns-in-Ok-clause-known g c =
    subst (λ v. All (MayKnow c.args.image.now c.args.numbers c.run-answer.result (g.E.Engine.known v.engine)) (g.E.Engine.known c.run-answer.new.self)) c.self.view_is
    c.run-answer.ensures.known
