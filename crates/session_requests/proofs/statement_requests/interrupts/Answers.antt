use Rattle.std.proofs.Common.{refl}
use Rattle.wire_msgs.specs.declared.response.Response.TheVariants as responses
use Rattle.session_spec.specs.Asking.{Tells}
use Rattle.session_requests.proofs.Refused.{refused, passed}
use Rattle.session_requests.proofs.statement_requests.interrupts.Goals as goal

pub returns-in-Some : goal.returns-in-Some
returns-in-Some c = λ databases. refused c.refusal.result c.in-Some.cause (Tells responses.Empty) _ (c.refusal.ensures databases (Tells responses.Empty)) c.in-Some.is

pub returns-in-None : goal.returns-in-None
returns-in-None c = λ databases. passed c.refusal.result (Tells responses.Empty) _ (Tells responses.Empty) (c.refusal.ensures databases (Tells responses.Empty)) c.in-None.is refl
