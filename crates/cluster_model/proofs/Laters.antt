-- Pending writes, and barriers, at a moment of a cluster and a later one.
use Rattle.std.proofs.Common.{◌≡◌, ℕ, ◌<◌, ◌≤◌, true, List, [], ◌∷◌, ◌++◌, length, drop, sym, ap, ◌∙◌, subst, ⊎_elim, arith, length-append, append_assoc}
use Rattle.std.specs.Prelude.{Option, Some}
use Rattle.std.proofs.lemmas.List.{append-nil}
use Rattle.std.proofs.lemmas.Bool.{cases_lt}
use Rattle.sql_engine.specs.declared.kind.EngineKind.{EngineKind}
use Rattle.sql_engine.specs.Meanings.{Meaning}
use Rattle.session_spec.specs.Entries.{Entry as Line, tx_of}
use Rattle.session_spec.specs.Seen.{log_seen}
use Rattle.session_spec.specs.Sessions.{Flight}
use Rattle.session_safety.specs.Woven.{Bears}
use Rattle.session_safety.specs.Nodes.{Said, Trail}
use Rattle.session_safety.specs.Life.{commit_of}
use Rattle.session_safety.specs.Replies.{CommitOk}
use Rattle.session_safety.proofs.Invariant.{FlightIs, FlightOk, write_of}
use Rattle.raft_safety.specs.Members.{Setup}
use Rattle.raft_safety.specs.World.{Event, start}
use Rattle.raft_safety.specs.Laws.{Leads, node_at}
use Rattle.raft_safety.specs.Chosen.{chosen}
use Rattle.raft_safety.specs.Properties.{EventsKeep}
use Rattle.raft_safety.proofs.Standing.{barrier_past_holds}
use Rattle.raft_safety.proofs.Chosens.{applied_chosen_holds}
use Rattle.cluster_model.specs.Weaving.{IsWoven}
use Rattle.cluster_model.specs.Clusters.{Cluster, Act, event_of, acted, first_cluster, cluster_from, cluster}
use Rattle.cluster_model.specs.Laws.{AllBelow, FlightsWhole, BarriersRead}
use Rattle.cluster_model.proofs.Fronts.{Root, AllRooted, more_chosen}
use Rattle.cluster_model.proofs.Blocks.{chosen_whole_holds}
use Rattle.cluster_model.proofs.Clusters.{cluster_ok, cluster_join, raft_of, fit_parts}

raft_from : (vs : Setup) (acts : List Act) (c : Cluster) → (fs : List Event) × ((cluster_from vs c acts).raft ≡ c.raft ++ fs)
raft_from vs [] c = ([], sym (append-nil c.raft))
raft_from vs (a ∷ acts) c =
    let rest = raft_from vs acts (acted vs c a) in
    (event_of a ∷ rest.0, rest.1 ∙ ap (λ l. l ++ rest.0) (raft_of vs c a) ∙ append_assoc c.raft (event_of a ∷ []) rest.0)

raft_later : (vs : Setup) (acts more : List Act) → (fs : List Event) × ((cluster vs (acts ++ more)).raft ≡ (cluster vs acts).raft ++ fs)
unfolding cluster
raft_later vs acts more =
    let r = raft_from vs more (cluster_from vs first_cluster acts) in
    (r.0, ap (λ (d : Cluster). d.raft) (cluster_join vs acts more first_cluster) ∙ r.1)

-- what was answered is chosen
root_chosen : (vs : Setup) (es : List Event) (x : Said) → Root vs es x → x.index ≤ length (chosen vs es)
root_chosen vs es x r =
    let a = applied_chosen_holds vs r.first r.node in
    let done = r.done in
    let in_list = a.1 in
    let more = ap length (more_chosen vs r.first r.rest) in
    let same = ap (λ l. length (chosen vs l)) r.split in
    omega (arith, length-append (chosen vs r.first) (drop (length (chosen vs r.first)) (chosen vs (r.first ++ r.rest))))

rooted_below : (vs : Setup) (es : List Event) (a : ℕ) (xs : List Said) → length (chosen vs es) < a → AllRooted vs es xs → AllBelow a xs
rooted_below vs es a [] lt r = tt
rooted_below vs es a (x ∷ xs) lt r = (
  ⊎_elim (λ (h : 0 < x.index). let low = root_chosen vs es x (r.0 h) in omega arith) (λ (h : x.index ≤ 0). omega arith) (cases_lt 0 x.index),
  rooted_below vs es a xs lt r.1,
)

module _ (mean : Meaning) (kind : EngineKind) where
  flight_of : (log : List Line) (applied term : ℕ) (t : Trail) (o : Option Flight) (f : Flight) → o ≡ Some f → FlightIs mean log applied term t o → FlightOk mean log applied term t f
  flight_of log applied term t o f e a = subst (FlightIs mean log applied term t) e a

  pub flights_whole_hold : FlightsWhole mean kind
  flights_whole_hold vs acts more n conn f h up e writes i term name pages pos there =
      let c = cluster vs acts in
      let d = cluster vs (acts ++ more) in
      let a = cluster_ok mean kind vs acts (fit_parts mean kind vs acts more first_cluster h).0 in
      let b = cluster_ok mean kind vs (acts ++ more) h in
      let later = raft_later vs acts more in
      let w = c.lives n in
      let ok = a.lives n in
      let x = flight_of w.log w.applied w.term (w.trail conn) (w.gate.session conn).flight f e (ok.sessions conn).flight in
      let whole : CommitOk mean w.log (commit_of f (w.trail conn).ran) = (write_of mean w.log (w.trail conn) f f.kind x.kind writes).commit in
      let k = commit_of f (w.trail conn).ran in
      let co = a.coherent n up in
      let P = λ (es : List Event). (i ≡ f.last) × CommitOk mean (log_seen (chosen vs es)) k in
      subst P (sym later.1)
      (chosen_whole_holds mean vs c.raft later.0 n k (subst (EventsKeep IsWoven vs (start vs)) later.1 b.weaves) (subst (λ l. CommitOk mean l k) co.log whole) i term name pages pos
      (subst (λ es. Bears (log_seen (chosen vs es)) i name (tx_of f.term f.first) true term pages) later.1 there))

  pub barriers_read_hold : BarriersRead mean kind
  barriers_read_hold vs acts more n t a h l k past low =
      let c = cluster vs acts in
      let ok = cluster_ok mean kind vs acts (fit_parts mean kind vs acts more first_cluster h).0 in
      let later = raft_later vs acts more in
      let far = barrier_past_holds vs c.raft later.0 n t a l (subst (λ es. Leads vs es n t) later.1 k) past (subst (λ es. a ≤ (node_at vs es n).commit) later.1 low) in
      rooted_below vs c.raft a c.said far ok.rooted
