-- What a request makes of the gateway, what is said at once, and what is proposed.
use Rattle.std.specs.Prelude.{ℕ, List, [], Option, Some, None}
use Rattle.session_spec.specs.Entries.{Content}
use Rattle.session_spec.specs.Sessions.{Reply, Refusal, Gateway, Turned, Refused, Lacks, Answers, Proposes, Lends, Affects, empty}
use Rattle.session_spec.specs.Requests.{with_session, affected_by}

-- the gateway after a request of a connection
abbrev pub gateway_after : Gateway → ℕ → Turned → Gateway
gateway_after g conn (Refused cause) = g
gateway_after g conn Lacks = g
gateway_after g conn (Answers s reply note) = with_session g conn s
gateway_after g conn (Proposes s contents note) = with_session g conn s
gateway_after g conn (Lends s job) = with_session g conn s
gateway_after g conn (Affects effect) = affected_by g effect

-- the reply at once, if any
abbrev pub reply_at_once : Turned → Option Reply
reply_at_once (Refused cause) = Some (Refusal cause)
reply_at_once Lacks = None
reply_at_once (Answers s reply note) = Some reply
reply_at_once (Proposes s contents note) = None
reply_at_once (Lends s job) = None
reply_at_once (Affects effect) = Some empty

-- what is to be appended
abbrev pub proposed_by : Turned → List Content
proposed_by (Refused cause) = []
proposed_by Lacks = []
proposed_by (Answers s reply note) = []
proposed_by (Proposes s contents note) = contents
proposed_by (Lends s job) = []
proposed_by (Affects effect) = []
