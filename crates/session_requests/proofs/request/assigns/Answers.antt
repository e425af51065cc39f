use Rattle.std.proofs.Common.{[]}
use Rattle.std.proofs.lemmas.Result.{IfOk-weaker}
use Rattle.session_spec.specs.Asking.{asks_assign}
use Rattle.session_requests.specs.Meant.{meant}
use Rattle.session_requests.proofs.Refused.{refused, passed}
use Rattle.session_requests.proofs.request.assigns.Goals as goal

pub returns-in-Some : goal.returns-in-Some
returns-in-Some c = λ databases weight.
    refused c.change_hindrance.result c.in-Some.cause (asks_assign c.args.view.now c.args.id c.args.role) _ (c.change_hindrance.ensures databases weight (asks_assign c.args.view.now c.args.id c.args.role)) c.in-Some.is

pub returns-in-None : goal.returns-in-None
returns-in-None c = λ databases weight.
    IfOk-weaker c.wanted_by_assign.result _ _
    (λ w e. passed c.change_hindrance.result (asks_assign c.args.view.now c.args.id c.args.role) _ (meant [] w) (c.change_hindrance.ensures databases weight (asks_assign c.args.view.now c.args.id c.args.role)) c.in-None.is e)
    c.wanted_by_assign.ensures
