use Rattle.std.proofs.Common.{ap, ◌∙◌}
use Rattle.session_spec.specs.Sessions.{Prepared}
use Rattle.session_spec.specs.Statements.{prepared_from}
use Rattle.session_spec.specs.Asking.{with_room}
use Rattle.session_table.specs.Table.{session_of}
use Rattle.session_requests.proofs.prepare_requests.prepares_first.Goals as goal

pub returns-clause-wants : goal.returns-clause-wants
returns-clause-wants c = λ databases.
    c.with_room.ensures.wants databases
    ∙ ap (λ (p : Prepared). with_room (session_of databases c.args.session.now) p c.tail_of-tail.result) c.in_ok-prepared.ensures
    ∙ ap (with_room (session_of databases c.args.session.now) (prepared_from c.args.sql.now c.args.piece.now)) c.tail_of-tail.ensures
