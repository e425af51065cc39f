use Rattle.std.proofs.Common.{sym, ◌∙◌}
use Rattle.std.proofs.lemmas.Bool.{cond-false}
use Rattle.std.proofs.lemmas.Result.{IfOk-weaker}
use Rattle.session_spec.specs.Causes.{NotAllowed}
use Rattle.session_spec.specs.Statements.{prepared_from, is_left_out}
use Rattle.session_spec.specs.Asking.{Never, with_room, tail_of}
use Rattle.session_table.specs.Table.{session_of}
use Rattle.session_requests.proofs.prepare_requests.prepares_only.Goals as goal

pub returns-clause-wants : goal.returns-clause-wants
returns-clause-wants c = λ databases.
    IfOk-weaker c.prepares_first.result _ _
    (λ w e. e ∙ sym (cond-false (is_left_out c.args.piece.now.word) (Never NotAllowed) (with_room (session_of databases c.args.session.now) (prepared_from c.args.sql.now c.args.piece.now) (tail_of c.args.wide c.args.piece.now)) (sym c.is_left_out.ensures ∙ c.if-is_left_out.false)))
    (c.prepares_first.ensures.wants databases)
