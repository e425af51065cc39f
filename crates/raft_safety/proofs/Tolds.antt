-- With fixed voters each node is told what it needs.
use Rattle.std.proofs.Common.{◌≡◌, ℕ, Bool, true, false, List, [], ◌∷◌, ◌++◌, length, refl, sym, ap, ◌∙◌, true≢false}
use Rattle.std.specs.Prelude.{◌==◌, ◌&&◌, not, nat_lt, nat_le}
use Rattle.std.proofs.lemmas.Bool.{cond_both}
use Rattle.raft_spec.specs.Log.{Entry, LogEnd, matches}
use Rattle.raft_spec.specs.Node.{What, AskVote, Vote, Append, Ack, Install, TimeoutNow, Message, Node, Server, Outcome, voters, among, peers, majority, is_leader, is_candidate, Timeout, Beat, Yield, Propose, Transfer, Snapped, UseServers, Input, Local, Receive}
use Rattle.raft_spec.specs.Outcomes.{in_newer_term, with_grants, with_term}
use Rattle.raft_spec.specs.Elections.{as_candidate, grants_with, on_grants, may_start_election, on_yield, start_election, grants_vote, on_ask_vote, on_vote}
use Rattle.raft_spec.specs.Replication.{take_entries, agrees, replaces_committed, on_append, on_ack, on_propose, on_beat, on_transfer}
use Rattle.raft_spec.specs.Snapshots.{on_install, on_snapped}
use Rattle.raft_spec.specs.Membership.{on_servers}
use Rattle.raft_spec.specs.Receiving.{on_own_term, on_older_term, in_range, on_message}
use Rattle.raft_spec.specs.Steps.{finish, serve, raft_step}
use Rattle.raft_safety.specs.Members.{fixed, voters_after, may_take, member_step}
use Rattle.raft_safety.specs.Cuts.{ToldAt, SameVoters, FixedTold}
use Rattle.raft_safety.proofs.Shapes.{rule_of}
use Rattle.raft_safety.proofs.Fixeds.{fixed_servers_holds, fixed_proposals_holds}

-- the node was given these servers
abbrev Was : List Server → Outcome → Type 0
Was servers d = d.node.servers ≡ servers

counted_was : (voters_of : List Entry → List ℕ) (me : ℕ) (s : Node) (out : List Message) → Was s.servers (on_grants voters_of me s out)
unfolding on_grants
counted_was voters_of me s out = cond_both (majority (voters_of s.log) (among s.grants)) _ _ (Was s.servers) (λ e. refl) (λ e. refl)

stand_was : (transfer : Bool) (voters_of : List Entry → List ℕ) (me : ℕ) (s : Node) → Was s.servers (start_election voters_of me s transfer)
unfolding start_election
stand_was transfer voters_of me s = cond_both (may_start_election voters_of me s) _ _ (Was s.servers) (λ e. counted_was voters_of me (as_candidate me s) _) (λ e. refl)

on_ask_was : (me : ℕ) (s : Node) (from : ℕ) (last : LogEnd) → Was s.servers (on_ask_vote me s from last)
unfolding on_ask_vote
on_ask_was me s from last = cond_both (grants_vote s from last) _ _ (Was s.servers) (λ e. refl) (λ e. refl)

on_vote_was : (voters_of : List Entry → List ℕ) (me : ℕ) (s : Node) (from : ℕ) (granted : Bool) → Was s.servers (on_vote voters_of me s from granted)
unfolding on_vote
on_vote_was voters_of me s from granted = cond_both (granted && is_candidate s.role) _ _ (Was s.servers) (λ e. counted_was voters_of me (with_grants s (grants_with (voters_of s.log) s.grants from)) []) (λ e. refl)

on_append_was : (me : ℕ) (s : Node) (from : ℕ) (prev : LogEnd) (commit : ℕ) (es : List Entry) → Was s.servers (on_append me s from prev commit es)
unfolding on_append take_entries
on_append_was me s from prev commit es =
    cond_both (is_leader s.role) _ _ (Was s.servers) (λ e. refl)
    (λ e. cond_both (agrees s prev) _ _ (Was s.servers) (λ x. cond_both (replaces_committed s prev es) _ _ (Was s.servers) (λ y. refl) (λ y. refl)) (λ x. refl))

on_install_was : (me : ℕ) (s : Node) (from : ℕ) (last : LogEnd) (front : List Entry) → Was s.servers (on_install me s from last front)
unfolding on_install
on_install_was me s from last front =
    cond_both (is_leader s.role) _ _ (Was s.servers) (λ e. refl)
    (λ e. cond_both (nat_le last.index s.commit) _ _ (Was s.servers) (λ x. refl) (λ x. cond_both (matches s.log last) _ _ (Was s.servers) (λ y. refl) (λ y. refl)))

on_ack_was : (me : ℕ) (s : Node) (from : ℕ) (good : Bool) (index : ℕ) → Was s.servers (on_ack me s from good index)
unfolding on_ack
on_ack_was me s from true index = cond_both (is_leader s.role && among (peers s.servers me) from && nat_le index (length s.log)) _ _ (Was s.servers) (λ e. refl) (λ e. refl)
on_ack_was me s from false index = cond_both (is_leader s.role && among (peers s.servers me) from) _ _ (Was s.servers) (λ e. refl) (λ e. refl)

in_turn_was : (voters_of : List Entry → List ℕ) (me : ℕ) (s : Node) (from : ℕ) (w : What) → Was s.servers (on_own_term voters_of me s from w)
in_turn_was voters_of me s from (AskVote last transfer) = on_ask_was me s from last
in_turn_was voters_of me s from (Vote granted) = on_vote_was voters_of me s from granted
in_turn_was voters_of me s from (Append prev commit es) = on_append_was me s from prev commit es
in_turn_was voters_of me s from (Ack good index) = on_ack_was me s from good index
in_turn_was voters_of me s from (Install last front) = on_install_was me s from last front
in_turn_was voters_of me s from TimeoutNow = stand_was true voters_of me s

stale_was : (me : ℕ) (s : Node) (from : ℕ) (w : What) → Was s.servers (on_older_term me s from w)
stale_was me s from (AskVote last transfer) = refl
stale_was me s from (Vote granted) = refl
stale_was me s from (Append prev commit es) = refl
stale_was me s from (Ack good index) = refl
stale_was me s from (Install last front) = refl
stale_was me s from TimeoutNow = refl

-- the servers after an input
abbrev told_by : Node → Input → List Server
told_by s (Local (UseServers servers)) = servers
told_by s (Local Timeout) = s.servers
told_by s (Local Beat) = s.servers
told_by s (Local Yield) = s.servers
told_by s (Local (Propose es)) = s.servers
told_by s (Local (Transfer to)) = s.servers
told_by s (Local (Snapped i)) = s.servers
told_by s (Receive m) = s.servers

rule_was : (voters_of : List Entry → List ℕ) (me : ℕ) (s : Node) (i : Input) → Was (told_by s i) (rule_of voters_of me s i)
unfolding on_beat on_yield on_propose on_transfer on_snapped on_servers on_message
rule_was voters_of me s (Local Timeout) = stand_was false voters_of me s
rule_was voters_of me s (Local Beat) = cond_both (is_leader s.role) _ _ (Was s.servers) (λ e. refl) (λ e. refl)
rule_was voters_of me s (Local Yield) = cond_both (is_leader s.role && nat_lt s.term 4294967295) _ _ (Was s.servers) (λ e. refl) (λ e. refl)
rule_was voters_of me s (Local (Propose es)) = cond_both (is_leader s.role) _ _ (Was s.servers) (λ e. refl) (λ e. refl)
rule_was voters_of me s (Local (Transfer to)) = cond_both (is_leader s.role && not (to == me)) _ _ (Was s.servers) (λ e. refl) (λ e. refl)
rule_was voters_of me s (Local (Snapped i)) = cond_both (nat_lt s.snapshot.index i && nat_le i s.commit) _ _ (Was s.servers) (λ e. refl) (λ e. refl)
rule_was voters_of me s (Local (UseServers servers)) = cond_both (is_leader s.role) _ _ (Was servers) (λ e. refl) (λ e. refl)
rule_was voters_of me s (Receive m) =
    cond_both (in_range s.term m) _ _ (Was s.servers)
    (λ e. cond_both (nat_lt m.term s.term) _ _ (Was s.servers) (λ x. stale_was me s m.from m.what)
    (λ x. cond_both (nat_lt s.term m.term) _ _ (Was s.servers) (λ y. in_turn_was voters_of me (in_newer_term s m.term) m.from m.what) (λ y. in_turn_was voters_of me s m.from m.what)))
    (λ e. refl)

finish_was : (voters_of : List Entry → List ℕ) (me : ℕ) (servers : List Server) (d : Outcome) → Was servers d → Was servers (finish voters_of me d)
unfolding finish
finish_was voters_of me servers d w = cond_both (is_leader d.node.role) _ _ (Was servers) (λ e. w) (λ e. w)

serve_was : (me : ℕ) (servers : List Server) (d : Outcome) → Was servers d → Was servers (serve me d)
unfolding serve
serve_was me servers d w = cond_both (is_leader d.node.role) _ _ (Was servers) (λ e. w) (λ e. w)

raft_was : (voters_of : List Entry → List ℕ) (me : ℕ) (s : Node) (i : Input) → Was (told_by s i) (raft_step voters_of me s i)
unfolding raft_step
raft_was voters_of me s (Local Timeout) = finish_was voters_of me s.servers _ (rule_was voters_of me s (Local Timeout))
raft_was voters_of me s (Local Beat) = finish_was voters_of me s.servers _ (rule_was voters_of me s (Local Beat))
raft_was voters_of me s (Local Yield) = finish_was voters_of me s.servers _ (rule_was voters_of me s (Local Yield))
raft_was voters_of me s (Local (Propose es)) = finish_was voters_of me s.servers _ (rule_was voters_of me s (Local (Propose es)))
raft_was voters_of me s (Local (Transfer to)) = finish_was voters_of me s.servers _ (rule_was voters_of me s (Local (Transfer to)))
raft_was voters_of me s (Local (Snapped i)) = finish_was voters_of me s.servers _ (rule_was voters_of me s (Local (Snapped i)))
raft_was voters_of me s (Local (UseServers servers)) = serve_was me servers _ (rule_was voters_of me s (Local (UseServers servers)))
raft_was voters_of me s (Receive m) = finish_was voters_of me s.servers _ (rule_was voters_of me s (Receive m))

-- with fixed voters a step is made whatever it proposes
fixed_was : (servers : List Server) (me : ℕ) (s : Node) (i : Input) → Was (told_by s i) (member_step (fixed servers) me s i)
unfolding member_step
fixed_was servers me s i = cond_both (may_take (fixed servers) s i) _ _ (Was (told_by s i)) (λ e. raft_was (voters_after (fixed servers)) me s i) (λ e. absurd (true≢false (sym (fixed_proposals_holds servers s i) ∙ e)))

told_at : (servers : List Server) (s : Node) (i : Input) → voters s.servers ≡ voters servers → ToldAt (fixed servers) s i
unfolding voters_after
told_at servers s (Local (UseServers others)) e = tt
told_at servers s (Local (Propose es)) e = e ∙ sym (ap voters (fixed_servers_holds servers (s.log ++ with_term s.term es)))
told_at servers s (Local Timeout) e = e ∙ sym (ap voters (fixed_servers_holds servers s.log))
told_at servers s (Local Beat) e = e ∙ sym (ap voters (fixed_servers_holds servers s.log))
told_at servers s (Local Yield) e = e ∙ sym (ap voters (fixed_servers_holds servers s.log))
told_at servers s (Local (Transfer to)) e = e ∙ sym (ap voters (fixed_servers_holds servers s.log))
told_at servers s (Local (Snapped i)) e = e ∙ sym (ap voters (fixed_servers_holds servers s.log))
told_at servers s (Receive m) e = e ∙ sym (ap voters (fixed_servers_holds servers s.log))

-- the voters after an input that tells no others, and what is left of the inputs
after_one : (ids : List ℕ) (s : Node) (i : Input) (is : List Input) → voters s.servers ≡ ids → SameVoters ids (i ∷ is) → (voters (told_by s i) ≡ ids) × SameVoters ids is
after_one ids s (Local (UseServers servers)) is e w = w
after_one ids s (Local Timeout) is e w = (e, w)
after_one ids s (Local Beat) is e w = (e, w)
after_one ids s (Local Yield) is e w = (e, w)
after_one ids s (Local (Propose es)) is e w = (e, w)
after_one ids s (Local (Transfer to)) is e w = (e, w)
after_one ids s (Local (Snapped i)) is e w = (e, w)
after_one ids s (Receive m) is e w = (e, w)

pub fixed_told_holds : FixedTold
fixed_told_holds servers n s [] e w = (tt, e)
fixed_told_holds servers n s (i ∷ is) e w =
    let a = after_one (voters servers) s i is e w in
    let rest = fixed_told_holds servers n (member_step (fixed servers) n s i).node is (ap voters (fixed_was servers n s i) ∙ a.0) a.1 in
    ((fixed_proposals_holds servers s i, told_at servers s i e, rest.0), rest.1)
