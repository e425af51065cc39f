use Rattle.std.proofs.Common.{refl, sym, subst, ap, ◌∙◌}
use Rattle.sqlite.specs.Files.{file_state}
use Rattle.sqlite.specs.Listing.{understood}
use Rattle.sqlite.specs.State.{IsNotRun, IsUnchanged}
use Rattle.sqlite.specs.Steps.{Outlines}
use Rattle.sqlite_engine.specs.Sql.{Conn}
use Rattle.sqlite_engine.proofs.Clean.{always_clean}
use Rattle.sqlite_engine.proofs.connection.prepare_pinned.Goals as goal

pub returns-in-Ok-clause-columns : goal.returns-in-Ok-clause-columns
returns-in-Ok-clause-columns g c =
    let clean = always_clean (λ _. refl) c.prepare.new.self in (
      c.in-Ok.statement,
      (c.in-Ok.ensures.ok clean).0,
      subst (λ (d : Conn). Outlines (understood (file_state d).now.schema c.args.text.now.text.now) c.in-Ok.statement)
          (c.deref_mut.ensures.value ∙ c.pinned-conn.ensures) (c.in-Ok.ensures.shape clean),
      refl,
    )

pub returns-in-Ok-clause-same : goal.returns-in-Ok-clause-same
returns-in-Ok-clause-same g c =
    subst (λ (d : Conn). IsUnchanged (file_state c.args.conn.value) (file_state d)) (sym c.loosened.ensures.value)
    (subst (λ (d : Conn). IsUnchanged (file_state d) (file_state c.prepare.new.self)) (c.deref_mut.ensures.value ∙ c.pinned-conn.ensures)
    (c.in-Ok.ensures.ok (always_clean (λ _. refl) c.prepare.new.self)).1)

pub returns-in-Ok-clause-limit : goal.returns-in-Ok-clause-limit
returns-in-Ok-clause-limit g c =
    ap (λ (d : Conn). d.step_limit) c.loosened.ensures.value ∙ c.in-Ok.ensures.survives.limit
    ∙ ap (λ (d : Conn). d.step_limit) (c.deref_mut.ensures.value ∙ c.pinned-conn.ensures)

pub returns-in-Err-clause-err : goal.returns-in-Err-clause-err
returns-in-Err-clause-err g c params =
    let text = c.args.text.now.text.now in
    subst (λ (d : Conn). IsNotRun (file_state c.args.conn.value) (file_state d) text params c.in-Err.error) (sym c.loosened-in-Err.ensures.value)
    (subst (λ (d : Conn). IsNotRun (file_state d) (file_state c.prepare.new.self) text params c.in-Err.error)
    (c.deref_mut.ensures.value ∙ c.pinned-conn.ensures)
    (c.in-Err.ensures.err (always_clean (λ _. refl) c.prepare.new.self) params))
