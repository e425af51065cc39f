-- One event leads a node from one core to one core, by any answers of cells; and what was kept gives one core where a node starts.
use Rattle.std.proofs.Common.{◌≡◌, ℕ, zero, suc, true, false, true≢false, List, [], ◌∷◌, ◌++◌, map, Option, Some, None, refl, sym, ap, ◌∙◌, subst}
use Rattle.std.specs.List.{AllByRecursion}
use Rattle.std.proofs.lemmas.List.{map-append}
use Rattle.client_sessions.specs.declared.connect_result.ConnectResult.{ConnectResult}
use Rattle.client_sessions.specs.declared.connect_result.ConnectResult.TheVariants as joinings
use Rattle.client_sessions.specs.Clients.{joining}
use Rattle.client_connection.specs.Connection.{Conn}
use Rattle.sql_engine.specs.declared.kind.EngineKind.TheVariants.{Cells}
use Rattle.sql_engine.specs.Cells.{cells}
use Rattle.session_spec.specs.Engines.{Answer}
use Rattle.raft_core.specs.declared.event.RaftEvent.TheVariants as due
use Rattle.raft_on_disk.specs.Mails.{sent}
use Rattle.applied_state.specs.Snapshot.{NodeSnapshot}
use Rattle.node_core.specs.declared.event.Event.{Event}
use Rattle.node_core.specs.declared.event.Event.TheVariants as events
use Rattle.node_core.specs.Core.{Core, core_of, joined_by, heard_by, gone_by, silent}
use Rattle.node_core.specs.Exact.{RunsIn, ExactBegin}
use Rattle.node_core.specs.ExactStart.{started}
use Rattle.script_determinism.specs.CoreSteps.{IsAmple, plain_answer, IsAlone, IsUnread, StepsAreDecided, StartsAreDecided, KeptIsOfCore}
use Rattle.script_determinism.proofs.SameSteps.{raft_same, raft_beside, beside}
use Rattle.script_determinism.proofs.SameTurns.{AreAlike, turn_same, turn_alone, alone_of}

-- ---- answers one after the other

front_ample : (a b : List Answer) → AllByRecursion IsAmple (a ++ b) → AllByRecursion IsAmple a
front_ample [] b h = tt
front_ample (x ∷ xs) b h = (h.0, front_ample xs b h.1)

back_ample : (a b : List Answer) → AllByRecursion IsAmple (a ++ b) → AllByRecursion IsAmple b
back_ample [] b h = h
back_ample (x ∷ xs) b h = back_ample xs b h.1

alike_behind : (a b c d : List Answer) → AreAlike a b → AreAlike c d → AreAlike (a ++ c) (b ++ d)
alike_behind a b c d p q = map-append plain_answer a c ∙ (λ i. p i ++ q i) ∙ sym (map-append plain_answer b d)

-- ---- turns

runs_in_same : (one other : ℕ) (w v u : Core) (a b : List Answer) → IsAlone w → RunsIn one cells Cells w v a → RunsIn other cells Cells w u b
    → AllByRecursion IsAmple a → AllByRecursion IsAmple b → (v ≡ u) × AreAlike a b
runs_in_same zero zero w v u a b alone p q m n = let h = turn_same w v u false false a b alone (p alone.links) (q alone.links) m n in (h.0, h.2)
runs_in_same zero (suc other) w v u a b alone p q m n =
    let n' = subst (AllByRecursion IsAmple) q.3 n in
    absurd (true≢false (sym (turn_same w v q.0 false true a q.1 alone (p alone.links) (q.4 alone.links) m (front_ample q.1 q.2 n')).1))
runs_in_same (suc one) zero w v u a b alone p q m n =
    let m' = subst (AllByRecursion IsAmple) p.3 m in
    absurd (true≢false (turn_same w p.0 u true false p.1 b alone (p.4 alone.links) (q alone.links) (front_ample p.1 p.2 m') n).1)
runs_in_same (suc one) (suc other) w v u a b alone p q m n =
    let m' = subst (AllByRecursion IsAmple) p.3 m in
    let n' = subst (AllByRecursion IsAmple) q.3 n in
    let h = turn_same w p.0 q.0 true true p.1 q.1 alone (p.4 alone.links) (q.4 alone.links) (front_ample p.1 p.2 m') (front_ample q.1 q.2 n') in
    let on = turn_alone w p.0 true p.1 alone (p.4 alone.links) in
    let rest = runs_in_same one other p.0 v u p.2 q.2 on p.5 (subst (λ (z : Core). RunsIn other cells Cells z u q.2) (sym h.0) q.5) (back_ample p.1 p.2 m') (back_ample q.1 q.2 n') in
    (rest.0, ap (map plain_answer) p.3 ∙ alike_behind p.1 q.1 p.2 q.2 h.2 rest.1 ∙ sym (ap (map plain_answer) q.3))

runs_in_alone : (turns : ℕ) (w v : Core) (a : List Answer) → IsAlone w → RunsIn turns cells Cells w v a → IsAlone v
runs_in_alone zero w v a alone p = turn_alone w v false a alone (p alone.links)
runs_in_alone (suc turns) w v a alone p = runs_in_alone turns p.0 v p.2 (turn_alone w p.0 true p.1 alone (p.4 alone.links)) p.5

-- ---- an event

begins_same : (event : Event) (w v u : Core) (a b : List Answer) → IsUnread event → IsAlone w → ExactBegin event w v a → ExactBegin event w u b → (v ≡ u) × AreAlike a b
begins_same events.Timeout w v u a b here alone p q = (raft_same due.Timeout w v u p.0 q.0, ap (map plain_answer) (p.1 ∙ sym q.1))
begins_same events.Beat w v u a b here alone p q = (raft_same due.Beat w v u p.0 q.0, ap (map plain_answer) (p.1 ∙ sym q.1))
begins_same events.Yield w v u a b here alone p q = (raft_same due.Yield w v u p.0 q.0, ap (map plain_answer) (p.1 ∙ sym q.1))
begins_same (events.Peer message) w v u a b here alone p q = (raft_same (due.Message message) w v u p.0 q.0, ap (map plain_answer) (p.1 ∙ sym q.1))
begins_same (events.Connect conn) w v u a b here alone p q = (p.0 alone.links ∙ sym (q.0 alone.links), ap (map plain_answer) (p.1 ∙ sym q.1))
begins_same (events.Bytes conn bytes) w v u a b here alone p q = (p.0 alone.links ∙ sym (q.0 alone.links), ap (map plain_answer) (p.1 ∙ sym q.1))
begins_same (events.Hangup conn) w v u a b here alone p q = (p.0 alone.links ∙ sym (q.0 alone.links), ap (map plain_answer) (p.1 ∙ sym q.1))
begins_same (events.ReadDone conn read) w v u a b here alone p q = absurd here

joined_beside : (how : ConnectResult) (conn : ℕ) (w : Core) → beside (joined_by how conn w) ≡ beside w
joined_beside joinings.Joined conn w = refl
joined_beside joinings.Full conn w = refl
joined_beside joinings.Taken conn w = refl

heard_beside : (o : Option Conn) (conn : ℕ) (bytes : List ℕ) (w : Core) → beside (heard_by o conn bytes w) ≡ beside w
heard_beside None conn bytes w = refl
heard_beside (Some stream) conn bytes w = refl

gone_beside : (o : Option Conn) (conn : ℕ) (w : Core) → beside (gone_by o conn w) ≡ beside w
gone_beside None conn w = refl
gone_beside (Some stream) conn w = refl

begins_beside : (event : Event) (w v : Core) (a : List Answer) → IsUnread event → IsAlone w → ExactBegin event w v a → beside v ≡ beside w
begins_beside events.Timeout w v a here alone p = raft_beside due.Timeout w v p.0
begins_beside events.Beat w v a here alone p = raft_beside due.Beat w v p.0
begins_beside events.Yield w v a here alone p = raft_beside due.Yield w v p.0
begins_beside (events.Peer message) w v a here alone p = raft_beside (due.Message message) w v p.0
begins_beside (events.Connect conn) w v a here alone p = ap beside (p.0 alone.links) ∙ joined_beside (joining w.sessions conn) conn w
begins_beside (events.Bytes conn bytes) w v a here alone p = ap beside (p.0 alone.links) ∙ heard_beside (w.streams conn) conn bytes (record w { heard = Some conn })
begins_beside (events.Hangup conn) w v a here alone p = ap beside (p.0 alone.links) ∙ gone_beside (w.streams conn) conn w
begins_beside (events.ReadDone conn read) w v a here alone p = absurd here

pub steps_decided : StepsAreDecided
steps_decided event w v u one other a b here alone p q m n =
    let m' = subst (AllByRecursion IsAmple) p.all m in
    let n' = subst (AllByRecursion IsAmple) q.all n in
    let begun = begins_same event w p.mid q.mid p.first q.first here alone p.begins q.begins in
    let on = alone_of w p.mid alone (begins_beside event w p.mid p.first here alone p.begins) in
    let runs = runs_in_same p.runs.turns q.runs.turns p.mid p.last q.last p.rest q.rest on p.runs.are (subst (λ (z : Core). RunsIn q.runs.turns cells Cells z q.last q.rest) (sym begun.0) q.runs.are)
    (back_ample p.first p.rest m') (back_ample q.first q.rest n') in
    let last = runs_in_alone p.runs.turns p.mid p.last p.rest on p.runs.are in
    record {
      core = p.says.is ∙ ap silent runs.0 ∙ sym q.says.is;
      replies = p.says.replies ∙ ap (λ (z : Core). z.replies) runs.0 ∙ sym q.says.replies;
      closed = p.says.closed ∙ ap (λ (z : Core). z.closed) runs.0 ∙ sym q.says.closed;
      messages = p.says.messages ∙ ap (λ (z : Core). sent z.mail) runs.0 ∙ sym q.says.messages;
      answers = ap (map plain_answer) p.all ∙ alike_behind p.first q.first p.rest q.rest begun.1 runs.1 ∙ sym (ap (map plain_answer) q.all);
      alone = alone_of p.last v last (ap beside p.says.is);
    }

-- ---- a start

one_state : (x y : NodeSnapshot) → Some x ≡ Some y → x ≡ y
one_state x y e = cc

pub starts_decided : StartsAreDecided
starts_decided me opening kept v u p q = (
  p.is ∙ ap (λ (s : NodeSnapshot). started me false false kept s) (one_state p.state q.state (sym p.found ∙ q.found)) ∙ sym q.is,
  record { links = ap (λ (z : Core). z.links) p.is; unlinked = ap (λ (z : Core). z.view.links) p.is; unread = ap (λ (z : Core). z.view.readers) p.is },
)

pub kept_of_core : KeptIsOfCore
unfolding core_of
kept_of_core n = refl
