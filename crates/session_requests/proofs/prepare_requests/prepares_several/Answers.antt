use Rattle.std.proofs.Common.{sym, ◌∙◌}
use Rattle.std.proofs.lemmas.Result.{IfOk-weaker}
use Rattle.session_table.specs.Table.{session_of}
use Rattle.session_requests.proofs.Rooms.{barred, too_many, first_prepared}
use Rattle.session_requests.proofs.prepare_requests.prepares_several.Goals as goal

pub returns-then-any_barred-clause-wants : goal.returns-then-any_barred-clause-wants
returns-then-any_barred-clause-wants c = λ databases.
    sym (barred (session_of databases c.args.session.now) c.args.sql.now c.args.wide c.args.pieces.now c.requires.several (sym (c.any_barred.ensures c.args.sql.now) ∙ c.if-any_barred.true))

pub returns-then-not-wide-clause-wants : goal.returns-then-not-wide-clause-wants
returns-then-not-wide-clause-wants c = λ databases.
    sym (too_many (session_of databases c.args.session.now) c.args.sql.now c.args.wide c.args.pieces.now c.requires.several (sym (c.any_barred.ensures c.args.sql.now) ∙ c.if-any_barred.false) c.if-not-wide.true)

pub returns-clause-wants : goal.returns-clause-wants
returns-clause-wants c = λ databases.
    IfOk-weaker c.prepares_first.result _ _
    (λ w e. e ∙ sym (first_prepared (session_of databases c.args.session.now) c.args.sql.now c.args.wide c.args.pieces.now _ c.requires.several (sym (c.any_barred.ensures c.args.sql.now) ∙ c.if-any_barred.false) c.if-not-wide.false))
    (c.prepares_first.ensures.wants databases)
