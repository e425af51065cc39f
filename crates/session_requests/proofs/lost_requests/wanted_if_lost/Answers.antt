use Rattle.std.proofs.lemmas.Result.{IfOk-weaker}
use Rattle.session_spec.specs.Asking.{asks_lost}
use Rattle.session_table.specs.Table.{session_of}
use Rattle.session_requests.specs.Meant.{params_of}
use Rattle.session_requests.proofs.LostWants.{planned}
use Rattle.session_requests.proofs.lost_requests.wanted_if_lost.Goals as goal

pub returns-then-session : goal.returns-then-session
returns-then-session c = λ databases asked.
    IfOk-weaker c.wanted_by_request.result _ _
    (λ w same. planned (params_of c.args.request.now) c.args.session.now.lost (asks_lost (session_of databases c.args.session.now) c.args.request.now) w asked c.if-session.true same)
    (c.wanted_by_request.ensures databases)
