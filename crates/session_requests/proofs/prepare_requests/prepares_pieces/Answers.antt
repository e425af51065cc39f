use Rattle.std.proofs.Common.{◌≡◌, length, sym, ◌∙◌, arith}
use Rattle.std.proofs.lemmas.Result.{IfOk-weaker}
use Rattle.session_table.specs.Table.{session_of}
use Rattle.session_requests.proofs.Rooms.{one_prepared}
use Rattle.session_requests.proofs.prepare_requests.prepares_pieces.Goals as goal

pub returns-in-len1-clause-wants : goal.returns-in-len1-clause-wants
returns-in-len1-clause-wants c = λ databases.
    let one : length c.args.pieces.now ≡ 1 = omega arith in
    IfOk-weaker c.prepares_only.result _ _ (λ w e. e ∙ sym (one_prepared (session_of databases c.args.session.now) c.args.sql.now c.args.wide c.args.pieces.now _ one)) (c.prepares_only.ensures.wants databases)
