-- What a call of the gateway did: the definitions' outcome, as code says it.
use Rattle.std.specs.Prelude.{◌≡◌, ℕ, ◌≤◌, true, false, List, [], ◌∷◌, length}
use Rattle.std.specs.List.{AllByRecursion}
use Rattle.dq_base.specs.Names.{has_nul}
use Rattle.wire_msgs.specs.declared.request.Request.{Request}
use Rattle.wire_msgs.specs.declared.request.Request.TheVariants as requests
use Rattle.wire_msgs.specs.declared.response.Response.TheVariants as responses
use Rattle.session_spec.specs.Causes.{failure}
use Rattle.session_spec.specs.Entries.{written}
use Rattle.session_spec.specs.Seen.{HasSpelling}
use Rattle.session_spec.specs.Engines.{Answer, AllowsFor, used_for}
use Rattle.session_spec.specs.Sessions.{responses_of, Gateway, View, Effect, HandsOver, JoinsPeer, Weighs}
use Rattle.session_spec.specs.Sessions.{Turned, Refused, Lacks, Answers, Proposes, Lends, Affects}
use Rattle.session_spec.specs.Requests.{on_request, handed, with_session, affected_by}
use Rattle.raft_messages.specs.Servers.{IsConfiguration}
use Rattle.session_requests.specs.declared.wanted.RequestPlan.{RequestPlan}
use Rattle.session_requests.specs.declared.wanted.RequestPlan.TheVariants as wanted
use Rattle.session_statements.specs.Calls.{EngineCall}
use Rattle.session_statements.specs.Running.{TellsAll}
use Rattle.session_outcomes.specs.Scenes.{Scene}
use Rattle.session_gateway.specs.declared.act.Act.{Act}
use Rattle.session_gateway.specs.declared.act.Act.TheVariants as acts

-- what a request does outside the sessions
abbrev pub act_for : Effect → Act
act_for (HandsOver id) = acts.Transfer id
act_for (JoinsPeer id) = acts.Peer id
act_for (Weighs weight) = acts.Reply (responses.Empty ∷ [])

-- What comes of a request, as code says it: the sessions after it, and the act. A refusal leaves all as it was; no answer
-- of the engine is ever missing; and what is proposed reads back.
abbrev pub Is : View → Gateway → ℕ → Turned → Gateway → Act → Type 0
Is v g conn (Refused cause) now act = (now ≡ g) × (act ≡ acts.Reply (failure cause ∷ []))
Is v g conn Lacks now act = ⊥
Is v g conn (Answers session reply note) now act = (now ≡ with_session g conn session) × (act ≡ acts.Reply (responses_of reply))
Is v g conn (Proposes session contents note) now act = (now ≡ with_session g conn session) × (act ≡ acts.Propose (written v.term contents))
    × AllByRecursion HasSpelling contents
Is v g conn (Lends session job) now act = (now ≡ with_session g conn session) × (act ≡ acts.Lend job)
Is v g conn (Affects effect) now act = (now ≡ affected_by g effect) × (act ≡ act_for effect)

-- There are answers that the engine may give to what the request hands it, and which it gave one after the other. The
-- request uses all of them, and by them it ends with this act and these sessions.
pub record TurnsByAnswers (c : EngineCall) (at : Scene) (request : Request) (now : Gateway) (act : Act) : Type 0 where
  pub answers : List Answer
  pub allowed : AllowsFor c.meaning c.kind (handed at.view at.machine at.sessions at.conn request) answers
  pub told : TellsAll answers c.told_before c.told_now
  pub exact : used_for (handed at.view at.machine at.sessions at.conn request) answers ≡ length answers
  pub is : Is at.view at.sessions at.conn (on_request at.view at.machine at.sessions at.conn request answers) now act

-- no text of the request holds a NUL
abbrev pub HasNoNul : Request → Type 0
HasNoNul (requests.Open name flags vfs) = has_nul name ≡ false
HasNoNul (requests.Prepare db sql wide) = has_nul sql ≡ false
HasNoNul (requests.ExecSql db sql params wide) = has_nul sql ≡ false
HasNoNul (requests.QuerySql db sql params wide) = has_nul sql ≡ false
HasNoNul (requests.Add id address) = has_nul address ≡ false
HasNoNul (requests.Dump name) = has_nul name ≡ false
HasNoNul request = Unit {0}

-- no address of a server that is to join holds a NUL
abbrev pub AddressHasNoNul : Request → Type 0
AddressHasNoNul (requests.Add id address) = has_nul address ≡ false
AddressHasNoNul request = Unit {0}

-- the servers of the cluster are ones that may stand together
abbrev pub IsConfigured : View → Type 0
IsConfigured v = IsConfiguration v.servers

-- so are those that it is to get
abbrev pub MayConfigure : RequestPlan → Type 0
MayConfigure (wanted.Changes servers short) = IsConfiguration servers
MayConfigure other = Unit {0}

-- a serving leader's term has 32 bits, so that the number of a transaction has 64
abbrev pub HasShortTerm : View → Type 0
HasShortTerm v = v.serving ≡ true → v.term ≤ 4294967295
