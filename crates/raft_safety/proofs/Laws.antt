-- The laws over every list of events.
use Rattle.std.proofs.Common.{List, ◌≡◌, ℕ, ◌++◌, sym, ap, ◌∙◌, subst}
use Rattle.raft_spec.specs.Node.{is_leader}
use Rattle.raft_safety.specs.Members.{Setup}
use Rattle.raft_safety.specs.World.{Event, run}
use Rattle.raft_safety.specs.Laws.{AppliedAgree, LeadersComplete, Leads, LogsAgree, OneLeader, log_at}
use Rattle.raft_safety.specs.Members.{Setup}
use Rattle.raft_safety.proofs.Logs.{Agree}
use Rattle.raft_safety.proofs.History.{Hist, LeaderOk}
use Rattle.raft_safety.proofs.Growth.{ne_along, sound_later, committed_later}
use Rattle.raft_safety.proofs.Complete.{meet}
use Rattle.raft_safety.proofs.Accepts.{committed_in, committed_agree}
use Rattle.raft_safety.proofs.Bases.{committed_up, committed_down}
use Rattle.raft_safety.proofs.Worlds.{WorldOk, moments}

pub leader_ok : {h : Hist} (vs : Setup) (es : List Event) (n t : ℕ) → WorldOk vs h (run vs es) → Leads vs es n t → LeaderOk h n ((run vs es).nodes n)
leader_ok vs es n t a l = (a.nodes n).leading (ap is_leader l.0)

pub one_leader_holds : OneLeader
one_leader_holds vs es fs n m t a b =
    let x = moments vs es fs in
    let l = leader_ok vs es n t x.world a in
    let k = leader_ok vs (es ++ fs) m t x.world' b in
    let early : x.first.who t ≡ n = ap x.first.who (sym a.1) ∙ l.who in
    let late : x.second.who t ≡ m = ap x.second.who (sym b.1) ∙ k.who in
    sym early ∙ sym (x.later.who t (ne_along _ _ early l.id)) ∙ late

pub logs_agree_holds : LogsAgree
logs_agree_holds vs es fs n m i le le' e =
    let x = moments vs es fs in
    ((meet (sound_later x.later (x.world.nodes n).sound) (x.world'.nodes m).sound).at i le le' e).same

pub leaders_complete_holds : LeadersComplete
leaders_complete_holds vs es fs n m t b le =
    let x = moments vs es fs in
    let k = leader_ok vs (es ++ fs) m t x.world' b in
    let c = committed_up t le (committed_later vs x.later (x.world.nodes n).commit) in
    let late : x.second.who t ≡ m = ap x.second.who (sym b.1) ∙ k.who in
    let a = committed_in x.world'.hist (ne_along _ _ late k.id) c in
    let log : x.second.log_of t ≡ log_at vs (es ++ fs) m = ap x.second.log_of (sym b.1) ∙ k.log in
    let r = subst (Agree ((run vs es).nodes n).commit (log_at vs es n)) log a in
    (r.in_left, r.in_right, r.same)

pub applied_agree_holds : AppliedAgree
applied_agree_holds vs es fs n m i le le' =
    let x = moments vs es fs in
    (committed_agree x.world'.hist (committed_down i le (committed_later vs x.later (x.world.nodes n).commit)) (committed_down i le' (x.world'.nodes m).commit)).same
