-- Kept snapshots and those in messages represent fronts of the chosen entries.
use Rattle.std.proofs.Common.{ℕ, List, length, take, sym, ap, ◌∙◌, arith}
use Rattle.std.proofs.lemmas.List.{take-take}
use Rattle.raft_spec.specs.Log.{Entry}
use Rattle.raft_spec.specs.Node.{What, AskVote, Vote, Append, Ack, Install, TimeoutNow}
use Rattle.raft_safety.specs.Members.{Setup}
use Rattle.raft_safety.specs.World.{run}
use Rattle.raft_safety.specs.Laws.{node_at, log_at}
use Rattle.raft_safety.specs.Chosen.{chosen, WithinWhat}
use Rattle.raft_safety.specs.Sources.{WhatFront, SnapshotFronts}
use Rattle.raft_safety.proofs.History.{Hist, HistOk, Committed, WhatOk}
use Rattle.raft_safety.proofs.Bases.{committed_down}
use Rattle.raft_safety.proofs.Accepts.{committed_agree}
use Rattle.raft_safety.proofs.Worlds.{at_number}
use Rattle.raft_safety.proofs.Chosens.{applied, applied_chosen_holds, cuts_applied_hold}
use Rattle.raft_safety.proofs.Fronts.{snapshots_chosen_holds}

what_front : {vs : Setup} {h : Hist} (c : List Entry) (b from to u : ℕ) (w : What) → HistOk vs h → Committed vs h c b (length c) → WithinWhat (length c) w → WhatOk vs h from to u w → WhatFront c w
what_front c b from to u (AskVote last transfer) ok s l a = tt
what_front c b from to u (Vote granted) ok s l a = tt
what_front c b from to u (Append prev commit es) ok s l a = tt
what_front c b from to u (Ack good index) ok s l a = tt
what_front c b from to u (Install last front) ok s l a = (l, a.1.same ∙ (committed_agree ok a.1.settled (committed_down last.index l s)).same)
what_front c b from to u TimeoutNow ok s l a = tt

pub snapshot_fronts_hold : SnapshotFronts
snapshot_fronts_hold vs es = (
  (λ n.
      let a = applied_chosen_holds vs es n in
      let low = (cuts_applied_hold vs es n).1 in
      let one = a.0 in
      let two = a.1 in
      let i = (node_at vs es n).snapshot.index in
      let k = (node_at vs es n).commit in
      (omega arith, omega arith, sym (take-take i k (log_at vs es n) low) ∙ ap (take i) a.2 ∙ take-take i k (chosen vs es) low)),
  (λ k m e.
      let a = applied vs es in
      let list = a.list in
      what_front (chosen vs es) list.bound m.from m.to m.term m.what a.world.hist list.settled ((snapshots_chosen_holds vs es).1 k m e) (at_number vs a.to (run vs es).messages k m a.world.messages e)),
)
