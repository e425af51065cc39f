-- One turn leads from one core to one core, by any answers of cells.
use Rattle.std.proofs.Common.{◌≡◌, ◌⊎◌, ℕ, Bool, true, false, cond, ◌&&◌, List, [], ◌∷◌, ◌++◌, length, map, Option, Some, None, Result, Ok, Err, inl, inr, refl, sym, ap, ◌∙◌, subst}
use Rattle.std.specs.Prelude.{nat_lt, not}
use Rattle.std.specs.List.{AllByRecursion}
use Rattle.wire_msgs.specs.declared.fault.MsgFault.{MsgFault}
use Rattle.wire_msgs.specs.declared.request.Request.{Request}
use Rattle.wire_msgs.specs.Reading.{request_of}
use Rattle.client_connection.specs.declared.connection.CloseReason.{CloseReason}
use Rattle.sql_engine.specs.declared.kind.EngineKind.TheVariants.{Cells}
use Rattle.sql_engine.specs.Replies.{Statement}
use Rattle.sql_engine.specs.Cells.{cells}
use Rattle.session_spec.specs.Engines.{Answer, Handed, AllowsFor, used_for}
use Rattle.session_spec.specs.Entries.{Content, Does, Configures, Other, written}
use Rattle.session_spec.specs.Seen.{entry_seen, log_seen}
use Rattle.session_spec.specs.Requests.{with_session, on_request, handed, on_later, handed_later, without_later}
use Rattle.session_spec.specs.Sessions.{Gateway, HandsOver, JoinsPeer, Weighs, Turned, Refused, Lacks, Answers, Proposes, Lends, Affects, later_query}
use Rattle.session_safety.specs.Alone.{lacks}
use Rattle.session_gateway.specs.Later.{first_due}
use Rattle.client_sessions.specs.Clients.{Offer, next_offer, closing}
use Rattle.raft_spec.specs.Log.{Entry}
use Rattle.applied_state.specs.Content.{effect_of}
use Rattle.applied_state.specs.Office.{owed, office_after, serves}
use Rattle.applied_state.specs.declared.effect.AppliedEffect.{AppliedEffect}
use Rattle.applied_state.specs.declared.leadership.Leadership.{Leadership}
use Rattle.raft_core.specs.declared.event.RaftEvent.{RaftEvent}
use Rattle.raft_core.specs.declared.event.RaftEvent.TheVariants as due
use Rattle.node_core.specs.declared.links.Link.{Link}
use Rattle.node_core.specs.Plain.{plain_gate}
use Rattle.node_core.specs.Core.{Core, clients_at, entry_done, is_settled, owing, waiting, duty_of, dutiful, replied, taking, idle, closed_for}
use Rattle.node_core.specs.Exact.{TurnsTo, ExactRequest, ExactMessage, resuming, ExactWaitingQuery, ExactWaitingQueries, ExactEntry, MayCompact, ExactCompaction, OnHeard, OnOffer, OnQuery, OnCommit, OnDue, ExactTurn}
use Rattle.script_determinism.specs.CoreSteps.{IsAmple, plain_answer, IsAlone}
use Rattle.script_determinism.proofs.PlainAsking.{plain_turned, session_twice, responses_plain, handed_plain, handed_later_plain, request_plain, later_plain, without_plain}
use Rattle.script_determinism.proofs.SameRequests.{asked_same}
use Rattle.script_determinism.proofs.SameAnswers.{later_same, asked_alike, later_alike}
use Rattle.script_determinism.proofs.SameSteps.{own_same, compacts_same, beside, own_beside, compacts_beside}
use Rattle.script_determinism.proofs.Unlinked.{IsTold, request_told, later_told}

-- the answers are the same except for numbers of transactions
abbrev pub AreAlike : List Answer → List Answer → Type 0
AreAlike a b = map plain_answer a ≡ map plain_answer b

-- ---- what comes of a request, as it is done

lacks_plain : (t : Turned) → lacks (plain_turned t) ≡ lacks t
lacks_plain (Refused cause) = refl
lacks_plain Lacks = refl
lacks_plain (Answers s reply note) = refl
lacks_plain (Proposes s contents note) = refl
lacks_plain (Lends s job) = refl
lacks_plain (Affects effect) = refl

enough : (conn : ℕ) (t : Turned) (w v : Core) → TurnsTo conn t w v → lacks t ≡ false
enough conn (Refused cause) w v h = refl
enough conn Lacks w v h = absurd h
enough conn (Answers s reply note) w v h = refl
enough conn (Proposes s contents note) w v h = refl
enough conn (Lends s job) w v h = refl
enough conn (Affects effect) w v h = refl

told_plain : (t : Turned) → IsTold t → IsTold (plain_turned t)
told_plain (Refused cause) h = tt
told_plain Lacks h = tt
told_plain (Answers s reply note) h = tt
told_plain (Proposes s contents note) h = tt
told_plain (Lends s job) h = h
told_plain (Affects effect) h = h

to_plain : (conn : ℕ) (t : Turned) (w v : Core) → TurnsTo conn t w v → TurnsTo conn (plain_turned t) w v
to_plain conn (Refused cause) w v h = h
to_plain conn Lacks w v h = h
to_plain conn (Answers s reply note) w v h =
    h ∙ (λ i. replied conn (sym (responses_plain reply) i) (record w { sessions = with_session w.sessions conn (sym (session_twice s) i) }))
to_plain conn (Proposes s contents note) w v h = h ∙ (λ i. record w { sessions = with_session w.sessions conn (sym (session_twice s) i); due = w.due ++ due.Propose (written w.view.term contents) ∷ [] })
to_plain conn (Lends s job) w v h = h
to_plain conn (Affects (HandsOver id)) w v h = h
to_plain conn (Affects (JoinsPeer id)) w v h = h
to_plain conn (Affects (Weighs weight)) w v h = h

one_to : (conn : ℕ) (t : Turned) (w v u : Core) → IsTold t → TurnsTo conn t w v → TurnsTo conn t w u → v ≡ u
one_to conn (Refused cause) w v u told p q = p ∙ sym q
one_to conn Lacks w v u told p q = absurd p
one_to conn (Answers s reply note) w v u told p q = p ∙ sym q
one_to conn (Proposes s contents note) w v u told p q = p ∙ sym q
one_to conn (Lends s job) w v u told p q = absurd told
one_to conn (Affects (HandsOver id)) w v u told p q = p ∙ sym q
one_to conn (Affects (JoinsPeer id)) w v u told p q = absurd told
one_to conn (Affects (Weighs weight)) w v u told p q = p ∙ sym q

to_beside : (conn : ℕ) (t : Turned) (w v : Core) → IsTold t → TurnsTo conn t w v → beside v ≡ beside w
to_beside conn (Refused cause) w v told p = ap beside p
to_beside conn Lacks w v told p = absurd p
to_beside conn (Answers s reply note) w v told p = ap beside p
to_beside conn (Proposes s contents note) w v told p = ap beside p
to_beside conn (Lends s job) w v told p = absurd told
to_beside conn (Affects (HandsOver id)) w v told p = ap beside p
to_beside conn (Affects (JoinsPeer id)) w v told p = absurd told
to_beside conn (Affects (Weighs weight)) w v told p = ap beside p

-- outcomes of one plain form lead to one core
turned_same : (conn : ℕ) (t r : Turned) (w v u : Core) → IsTold t → plain_turned t ≡ plain_turned r → TurnsTo conn t w v → TurnsTo conn r w u → v ≡ u
turned_same conn t r w v u told e p q =
    one_to conn (plain_turned t) w v u (told_plain t told) (to_plain conn t w v p) (subst (λ (x : Turned). TurnsTo conn x w u) (sym e) (to_plain conn r w u q))

-- ---- a request

module _ (conn : ℕ) (r : Request) (w : Core) (gate : Gateway) (a : List Answer) where
  abbrev at_gate : Gateway → Turned
  at_gate g = on_request w.view w.files g conn r a

  asked_plain : plain_gate gate ≡ w.sessions → plain_turned (at_gate w.sessions) ≡ plain_turned (at_gate gate)
  asked_plain e = ap (λ (g : Gateway). plain_turned (at_gate g)) (sym e) ∙ request_plain w.view w.files gate conn r a

  handed_at : plain_gate gate ≡ w.sessions → handed w.view w.files gate conn r ≡ handed w.view w.files w.sessions conn r
  handed_at e = sym (handed_plain w.view w.files gate conn r) ∙ ap (λ (g : Gateway). handed w.view w.files g conn r) e

  asked_enough : (v : Core) → plain_gate gate ≡ w.sessions → TurnsTo conn (at_gate gate) w v → lacks (at_gate w.sessions) ≡ false
  asked_enough v e to = sym (lacks_plain (at_gate w.sessions)) ∙ ap lacks (asked_plain e) ∙ lacks_plain (at_gate gate) ∙ enough conn (at_gate gate) w v to

request_same : (conn : ℕ) (r : Request) (w v u : Core) (a b : List Answer) → IsAlone w → ExactRequest cells Cells conn r w v a → ExactRequest cells Cells conn r w u b
    → AllByRecursion IsAmple a → AllByRecursion IsAmple b → (v ≡ u) × AreAlike a b
request_same conn r w v u a b alone p q m n =
    let g = w.sessions in
    let one = handed_at conn r w p.gate a p.plain in
    let other = handed_at conn r w q.gate b q.plain in
    let may = subst (λ (o : Option Handed). AllowsFor cells Cells o a) one p.allowed in
    let might = subst (λ (o : Option Handed). AllowsFor cells Cells o b) other q.allowed in
    let some = asked_enough conn r w p.gate a v p.plain p.to in
    let more = asked_enough conn r w q.gate b u q.plain q.to in
    let same = sym (asked_plain conn r w p.gate a p.plain) ∙ asked_same w.view w.files g conn r a b may might m n some more ∙ asked_plain conn r w q.gate b q.plain in (
      turned_same conn (on_request w.view w.files p.gate conn r a) (on_request w.view w.files q.gate conn r b) w v u (request_told w.view w.files p.gate conn r a alone.unlinked alone.unread) same p.to q.to,
      asked_alike w.view w.files g conn r a b may might m n (sym (ap (λ (o : Option Handed). used_for o a) one) ∙ p.exact) (sym (ap (λ (o : Option Handed). used_for o b) other) ∙ q.exact) some more,
    )

request_beside : (conn : ℕ) (r : Request) (w v : Core) (a : List Answer) → IsAlone w → ExactRequest cells Cells conn r w v a → beside v ≡ beside w
request_beside conn r w v a alone p = to_beside conn (on_request w.view w.files p.gate conn r a) w v (request_told w.view w.files p.gate conn r a alone.unlinked alone.unread) p.to

message_same : (conn : ℕ) (read : Result Request MsgFault) (w v u : Core) (a b : List Answer) → IsAlone w → ExactMessage cells Cells conn read w v a → ExactMessage cells Cells conn read w u b
    → AllByRecursion IsAmple a → AllByRecursion IsAmple b → (v ≡ u) × AreAlike a b
message_same conn (Ok r) w v u a b alone p q m n = request_same conn r w v u a b alone p q m n
message_same conn (Err fault) w v u a b alone p q m n = (p.0 ∙ sym q.0, ap (map plain_answer) (p.1 ∙ sym q.1))

message_beside : (conn : ℕ) (read : Result Request MsgFault) (w v : Core) (a : List Answer) → IsAlone w → ExactMessage cells Cells conn read w v a → beside v ≡ beside w
message_beside conn (Ok r) w v a alone p = request_beside conn r w v a alone p
message_beside conn (Err fault) w v a alone p = ap beside p.0

-- ---- a query that is run later

some_same : {T : Type 0} (x y : T) → Some x ≡ Some y → x ≡ y
some_same x y e = cc

module _ (conn : ℕ) (s : Statement) (w : Core) (gate : Gateway) (a : List Answer) where
  -- at the gate without the query
  abbrev run_at : Gateway → Turned
  run_at g = on_later w.view w.files (without_later g conn) conn s a

  run_plain : plain_gate gate ≡ w.sessions → plain_turned (run_at w.sessions) ≡ plain_turned (run_at gate)
  run_plain e =
      ap (λ (g : Gateway). plain_turned (run_at g)) (sym e)
      ∙ ap (λ (g : Gateway). plain_turned (on_later w.view w.files g conn s a)) (sym (without_plain gate conn))
      ∙ later_plain w.view w.files (without_later gate conn) conn s a

  run_handed : plain_gate gate ≡ w.sessions → handed_later w.view w.files (without_later gate conn) conn s ≡ handed_later w.view w.files (without_later w.sessions conn) conn s
  run_handed e =
      sym (handed_later_plain w.view w.files (without_later gate conn) conn s)
      ∙ ap (λ (g : Gateway). handed_later w.view w.files g conn s) (without_plain gate conn)
      ∙ ap (λ (g : Gateway). handed_later w.view w.files (without_later g conn) conn s) e

  run_enough : (v : Core) → plain_gate gate ≡ w.sessions → TurnsTo conn (run_at gate) (resuming conn w) v → lacks (run_at w.sessions) ≡ false
  run_enough v e to = sym (lacks_plain (run_at w.sessions)) ∙ ap lacks (run_plain e) ∙ lacks_plain (run_at gate) ∙ enough conn (run_at gate) (resuming conn w) v to

-- the same query is run
query_same : (conn : ℕ) (w v : Core) (a : List Answer) (gate : Gateway) (s : Statement) → plain_gate gate ≡ w.sessions → later_query (gate.session conn).later ≡ Some s
    → later_query (w.sessions.session conn).later ≡ Some s
query_same conn w v a gate s e is = ap (λ (g : Gateway). later_query (g.session conn).later) (sym e) ∙ is

later_by_same : (conn : ℕ) (w v u : Core) (a b : List Answer) → ExactWaitingQuery cells Cells conn w v a → ExactWaitingQuery cells Cells conn w u b
    → AllByRecursion IsAmple a → AllByRecursion IsAmple b → (v ≡ u) × AreAlike a b
later_by_same conn w v u a b p q m n =
    let s = p.statement in
    let is : q.statement ≡ s =
    some_same q.statement s (sym (query_same conn w u b q.gate q.statement q.plain q.later) ∙ query_same conn w v a p.gate s p.plain p.later) in
    let allowed = subst (λ (x : Statement). AllowsFor cells Cells (handed_later w.view w.files (without_later q.gate conn) conn x) b) is q.allowed in
    let exact = subst (λ (x : Statement). used_for (handed_later w.view w.files (without_later q.gate conn) conn x) b ≡ length b) is q.exact in
    let to = subst (λ (x : Statement). TurnsTo conn (on_later w.view w.files (without_later q.gate conn) conn x b) (resuming conn w) u) is q.to in
    let one = run_handed conn s w p.gate a p.plain in
    let other = run_handed conn s w q.gate b q.plain in
    let may = subst (λ (o : Option Handed). AllowsFor cells Cells o a) one p.allowed in
    let might = subst (λ (o : Option Handed). AllowsFor cells Cells o b) other allowed in
    let some = run_enough conn s w p.gate a v p.plain p.to in
    let more = run_enough conn s w q.gate b u q.plain to in
    let g = without_later w.sessions conn in
    let same = sym (run_plain conn s w p.gate a p.plain) ∙ later_same w.view w.files g conn s a b may might m n some more ∙ run_plain conn s w q.gate b q.plain in (
      turned_same conn (on_later w.view w.files (without_later p.gate conn) conn s a) (on_later w.view w.files (without_later q.gate conn) conn s b) (resuming conn w) v u
          (later_told w.view w.files (without_later p.gate conn) conn s a) same p.to to,
      later_alike w.view w.files g conn s a b may might m n (sym (ap (λ (o : Option Handed). used_for o a) one) ∙ p.exact) (sym (ap (λ (o : Option Handed). used_for o b) other) ∙ exact) some more,
    )

later_beside : (conn : ℕ) (w v : Core) (a : List Answer) → ExactWaitingQuery cells Cells conn w v a → beside v ≡ beside w
later_beside conn w v a p =
    to_beside conn (on_later w.view w.files (without_later p.gate conn) conn p.statement a) (resuming conn w) v (later_told w.view w.files (without_later p.gate conn) conn p.statement a) p.to

later_if_same : (o : Option ℕ) (w v u : Core) (a b : List Answer) → ExactWaitingQueries cells Cells o w v a → ExactWaitingQueries cells Cells o w u b
    → AllByRecursion IsAmple a → AllByRecursion IsAmple b → (v ≡ u) × AreAlike a b
later_if_same None w v u a b p q m n = (p.0 ∙ sym q.0, ap (map plain_answer) (p.1 ∙ sym q.1))
later_if_same (Some conn) w v u a b p q m n = later_by_same conn w v u a b p q m n

later_if_beside : (o : Option ℕ) (w v : Core) (a : List Answer) → ExactWaitingQueries cells Cells o w v a → beside v ≡ beside w
later_if_beside None w v a p = ap beside p.0
later_if_beside (Some conn) w v a p = later_beside conn w v a p

-- ---- an entry

entry_beside : (content : Content) (w : Core) → beside (entry_done content w) ≡ beside w
entry_beside (Does command) w = refl
entry_beside (Configures servers) w = refl
entry_beside Other w = refl

serving_beside : (b : Bool) (w : Core) → beside (cond b (record w { view = record w.view { serving = true } }) w) ≡ beside w
serving_beside true w = refl
serving_beside false w = refl

owing_beside : (office : Leadership) (cs : List Content) (w : Core) → beside (owing office cs w) ≡ beside w
owing_beside office [] w = serving_beside (serves office.phase && not w.view.serving && is_settled w) w
owing_beside office (c ∷ cs) w = refl

duty_beside : (o : Option Leadership) (effect : AppliedEffect) (w : Core) → beside (duty_of o effect w) ≡ beside w
duty_beside None effect w = refl
duty_beside (Some office) effect w =
    owing_beside (office_after office w.applied w.files) (owed office.phase w.applied w.files effect (log_seen (waiting w))) (record w { office = Some (office_after office w.applied w.files) })

entry_same : (w v u : Core) (a b : List Answer) → ExactEntry cells Cells w v a → ExactEntry cells Cells w u b → AllByRecursion IsAmple a → AllByRecursion IsAmple b → (v ≡ u) × AreAlike a b
entry_same w v u a b p q m n =
    let is : q.entry ≡ p.entry = some_same q.entry p.entry (sym q.is ∙ p.is) in
    let runs = subst (λ (e : Entry). ExactWaitingQueries cells Cells (first_due (entry_done (entry_seen e).content w).sessions) (entry_done (entry_seen e).content w) q.last b) is q.runs in
    let same = later_if_same (first_due (entry_done (entry_seen p.entry).content w).sessions) (entry_done (entry_seen p.entry).content w) p.last q.last a b p.runs runs m n in
    (p.owes ∙ (λ i. dutiful (effect_of (entry_seen (sym is i)).content) (same.0 i)) ∙ sym q.owes, same.1)

by_entry_beside : (w v : Core) (a : List Answer) → ExactEntry cells Cells w v a → beside v ≡ beside w
by_entry_beside w v a p =
    let done = entry_done (entry_seen p.entry).content w in
    ap beside p.owes ∙ duty_beside p.last.office (effect_of (entry_seen p.entry).content) p.last ∙ later_if_beside (first_due done.sessions) done p.last a p.runs ∙ entry_beside (entry_seen p.entry).content w

-- ---- a turn

closed_beside : (o : Option CloseReason) (conn : ℕ) (w : Core) → beside (closed_for o conn w) ≡ beside w
closed_beside None conn w = refl
closed_beside (Some reason) conn w = refl

heard_same : (o : Option ℕ) (w v u : Core) (more other : Bool) → OnHeard o w v more → OnHeard o w u other → (v ≡ u) × (more ≡ other)
heard_same None w v u more other p q = (p.0 ∙ sym q.0, p.1 ∙ sym q.1)
heard_same (Some conn) w v u more other p q = (p.0 ∙ sym q.0, p.1 ∙ sym q.1)

heard_beside : (o : Option ℕ) (w v : Core) (more : Bool) → OnHeard o w v more → beside v ≡ beside w
heard_beside None w v more p = ap beside p.0
heard_beside (Some conn) w v more p = ap beside p.0 ∙ closed_beside (closing (w.streams conn)) conn (record w { heard = None })

-- a turn leads to one core, and leaves something or not
abbrev pub LeadsSo : Core → Core → Bool → Bool → List Answer → List Answer → Type 0
LeadsSo v u more other a b = (v ≡ u) × (more ≡ other) × AreAlike a b

-- by what it was done, something is left
left : (v u : Core) (more other : Bool) (a b : List Answer) → (v ≡ u) × AreAlike a b → more ≡ true → other ≡ true → LeadsSo v u more other a b
left v u more other a b h p q = (h.0, p ∙ sym q, h.1)

abbrev Took : Core → Core → Bool → Type 0
Took w v more = MayCompact w × ExactCompaction w v × (more ≡ true)

abbrev Passed : Core → Core → Bool → Type 0
Passed w v more = (MayCompact w → ⊥) × OnHeard w.heard w v more

took_same : (w v u : Core) (more other : Bool) → Took w v more ⊎ Passed w v more → Took w u other ⊎ Passed w u other → (v ≡ u) × (more ≡ other)
took_same w v u more other (inl p) (inl q) = (compacts_same w v u p.1 q.1, p.2 ∙ sym q.2)
took_same w v u more other (inl p) (inr q) = absurd (q.0 p.0)
took_same w v u more other (inr p) (inl q) = absurd (p.0 q.0)
took_same w v u more other (inr p) (inr q) = heard_same w.heard w v u more other p.1 q.1

took_beside : (w v : Core) (more : Bool) → Took w v more ⊎ Passed w v more → beside v ≡ beside w
took_beside w v more (inl p) = compacts_beside w v p.1
took_beside w v more (inr p) = heard_beside w.heard w v more p.1

pub alone_of : (w v : Core) → IsAlone w → beside v ≡ beside w → IsAlone v
alone_of w v alone e = record {
  links = ap (λ (x : List Link × Bool × Bool). x.0) e ∙ alone.links;
  unlinked = ap (λ (x : List Link × Bool × Bool). x.1) e ∙ alone.unlinked;
  unread = ap (λ (x : List Link × Bool × Bool). x.2) e ∙ alone.unread;
}

offer_same : (o : Option Offer) (w v u : Core) (more other : Bool) (a b : List Answer) → IsAlone w → OnOffer cells Cells o w v more a → OnOffer cells Cells o w u other b
    → AllByRecursion IsAmple a → AllByRecursion IsAmple b → LeadsSo v u more other a b
offer_same (Some offer) w v u more other a b alone p q m n =
    left v u more other a b (message_same offer.conn (request_of offer.message) (taking offer w) v u a b (alone_of w (taking offer w) alone refl) p.0 q.0 m n) p.1 q.1
offer_same None w v u more other a b alone p q m n =
    let h = took_same (idle w) v u more other p.0 q.0 in
    (h.0, h.1, ap (map plain_answer) (p.1 ∙ sym q.1))

offer_beside : (o : Option Offer) (w v : Core) (more : Bool) (a : List Answer) → IsAlone w → OnOffer cells Cells o w v more a → beside v ≡ beside w
offer_beside (Some offer) w v more a alone p = message_beside offer.conn (request_of offer.message) (taking offer w) v a (alone_of w (taking offer w) alone refl) p.0
offer_beside None w v more a alone p = took_beside (idle w) v more p.0

query_turn : (o : Option ℕ) (w v u : Core) (more other : Bool) (a b : List Answer) → IsAlone w → OnQuery cells Cells o w v more a → OnQuery cells Cells o w u other b
    → AllByRecursion IsAmple a → AllByRecursion IsAmple b → LeadsSo v u more other a b
query_turn (Some conn) w v u more other a b alone p q m n = left v u more other a b (later_by_same conn w v u a b p.0 q.0 m n) p.1 q.1
query_turn None w v u more other a b alone p q m n = offer_same (next_offer (clients_at w)) w v u more other a b alone p q m n

query_beside : (o : Option ℕ) (w v : Core) (more : Bool) (a : List Answer) → IsAlone w → OnQuery cells Cells o w v more a → beside v ≡ beside w
query_beside (Some conn) w v more a alone p = later_beside conn w v a p.0
query_beside None w v more a alone p = offer_beside (next_offer (clients_at w)) w v more a alone p

commit_turn : (committed : Bool) (w v u : Core) (more other : Bool) (a b : List Answer) → IsAlone w → OnCommit cells Cells committed w v more a → OnCommit cells Cells committed w u other b
    → AllByRecursion IsAmple a → AllByRecursion IsAmple b → LeadsSo v u more other a b
commit_turn true w v u more other a b alone p q m n = left v u more other a b (entry_same w v u a b p.0 q.0 m n) p.1 q.1
commit_turn false w v u more other a b alone p q m n = query_turn (first_due w.sessions) w v u more other a b alone p q m n

commit_beside : (committed : Bool) (w v : Core) (more : Bool) (a : List Answer) → IsAlone w → OnCommit cells Cells committed w v more a → beside v ≡ beside w
commit_beside true w v more a alone p = by_entry_beside w v a p.0
commit_beside false w v more a alone p = query_beside (first_due w.sessions) w v more a alone p

due_turn : (events : List RaftEvent) (w v u : Core) (more other : Bool) (a b : List Answer) → IsAlone w → OnDue cells Cells events w v more a → OnDue cells Cells events w u other b
    → AllByRecursion IsAmple a → AllByRecursion IsAmple b → LeadsSo v u more other a b
due_turn (event ∷ rest) w v u more other a b alone p q m n =
    left v u more other a b (own_same event (record w { due = rest }) v u p.0 q.0, ap (map plain_answer) (p.2 ∙ sym q.2)) p.1 q.1
due_turn [] w v u more other a b alone p q m n = commit_turn (nat_lt w.applied w.raft.commit) w v u more other a b alone p q m n

due_beside : (events : List RaftEvent) (w v : Core) (more : Bool) (a : List Answer) → IsAlone w → OnDue cells Cells events w v more a → beside v ≡ beside w
due_beside (event ∷ rest) w v more a alone p = own_beside event (record w { due = rest }) v p.0
due_beside [] w v more a alone p = commit_beside (nat_lt w.applied w.raft.commit) w v more a alone p

pub turn_same : (w v u : Core) (more other : Bool) (a b : List Answer) → IsAlone w → ExactTurn cells Cells w v more a → ExactTurn cells Cells w u other b
    → AllByRecursion IsAmple a → AllByRecursion IsAmple b → LeadsSo v u more other a b
turn_same w v u more other a b alone p q m n = due_turn w.due w v u more other a b alone p q m n

pub turn_alone : (w v : Core) (more : Bool) (a : List Answer) → IsAlone w → ExactTurn cells Cells w v more a → IsAlone v
turn_alone w v more a alone p = alone_of w v alone (due_beside w.due w v more a alone p)
