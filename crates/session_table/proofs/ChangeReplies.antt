-- The reply to a change of the servers is one response.
use Rattle.std.proofs.Common.{◌≡◌, Bool, true, false, length, refl}
use Rattle.session_spec.specs.Sessions.{change_reply, responses_of}

pub one_response : (short : Bool) → length (responses_of (change_reply short)) ≡ 1
one_response false = refl
one_response true = refl
