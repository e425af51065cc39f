-- Each step of an event keeps what its node had applied.
use Rattle.std.proofs.Common.{ℕ, zero, suc, ◌≤◌, List, [], ◌∷◌, take, refl, arith}
use Rattle.raft_spec.specs.Node.{Node, Input}
use Rattle.raft_spec.specs.Account.{steps}
use Rattle.raft_safety.specs.Members.{Setup, member_step}
use Rattle.raft_safety.specs.World.{run}
use Rattle.raft_safety.specs.Laws.{SameUpTo}
use Rattle.raft_safety.specs.Chosen.{actor}
use Rattle.raft_safety.specs.Sources.{causes_of, intake, AppliedKept}
use Rattle.raft_safety.proofs.History.{Hist, HistOk, NodeOk}
use Rattle.raft_safety.proofs.Growth.{committed_later}
use Rattle.raft_safety.proofs.Bases.{committed_down, committed_within}
use Rattle.raft_safety.proofs.Accepts.{committed_agree}
use Rattle.raft_safety.proofs.Steps.{InputsOk, inputs_later, step_fine, member_plain}
use Rattle.raft_safety.proofs.Worlds.{inputs_fine, moments}

abbrev Keeps : Node → Node → Type 0
Keeps s t = (s.commit ≤ t.commit) × SameUpTo s.commit s.log t.log

kept_along : {vs : Setup} (n : ℕ) (is : List Input) (h : Hist) (s : Node) (k : ℕ) → HistOk vs h → NodeOk vs h n s → InputsOk vs h n is → Keeps (steps (member_step vs n) s (take k is)) (steps (member_step vs n) s (take (suc k) is))
kept_along n [] h s zero ok a w = let b = committed_within a.commit in (omega arith, (b, b, refl))
kept_along n [] h s (suc k) ok a w = let b = committed_within a.commit in (omega arith, (b, b, refl))
kept_along {vs} n (i ∷ is) h s zero ok a w =
    let d = member_step vs n s i in
    let r = step_fine n s i ok a w.0 in
    let up = (member_plain vs n s i).up in
    let x = committed_agree r.hist (committed_later vs r.grows.later a.commit) (committed_down s.commit up r.node.commit) in
    (up, (x.in_left, x.in_right, x.same))
kept_along {vs} n (i ∷ is) h s (suc k) ok a w =
    let r = step_fine n s i ok a w.0 in
    kept_along n is r.to (member_step vs n s i).node k r.hist r.node (inputs_later vs n is r.grows.later w.1)

pub applied_kept_hold : AppliedKept
applied_kept_hold vs es e k =
    let m = moments vs es [] in
    let n = actor e in
    kept_along n (intake (run vs es) e) m.first ((run vs es).nodes n) k m.world.hist (m.world.nodes n) (inputs_fine vs m.first n (run vs es).messages (causes_of e) m.world.messages)
