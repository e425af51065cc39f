use Rattle.std.proofs.Common.{[]}
use Rattle.std.proofs.lemmas.Result.{IfOk-weaker}
use Rattle.session_spec.specs.Asking.{asks_remove}
use Rattle.session_requests.specs.Meant.{meant}
use Rattle.session_requests.proofs.Refused.{refused, passed}
use Rattle.session_requests.proofs.request.removes.Goals as goal

pub returns-in-Some : goal.returns-in-Some
returns-in-Some c = λ databases weight.
    refused c.change_hindrance.result c.in-Some.cause (asks_remove c.args.view.now c.args.id) _ (c.change_hindrance.ensures databases weight (asks_remove c.args.view.now c.args.id)) c.in-Some.is

pub returns-in-None : goal.returns-in-None
returns-in-None c = λ databases weight.
    IfOk-weaker c.wanted_by_remove.result _ _
    (λ w e. passed c.change_hindrance.result (asks_remove c.args.view.now c.args.id) _ (meant [] w) (c.change_hindrance.ensures databases weight (asks_remove c.args.view.now c.args.id)) c.in-None.is e)
    c.wanted_by_remove.ensures
