-- A node that starts represents what was kept.
use Rattle.std.proofs.Common.{◌≡◌, inr, ℕ, suc, ◌+◌, ◌-◌, ◌<◌, ◌≤◌, true, List, [], ◌∷◌, ◌++◌, length, take, drop, refl, sym, ap, subst, ◌∙◌, arith}
use Rattle.std.specs.Prelude.{Some, Ok, Err}
use Rattle.std.proofs.Math.Seq.{drop-append-add}
use Rattle.std.proofs.lemmas.List.{length-append, length-drop, length-replicate, length-take-le, take-append-drop, take-map, drop-drop}
use Rattle.session_spec.specs.Machine.{machine_of, files}
use Rattle.session_spec.specs.Restarts.{restarted, shifted}
use Rattle.session_spec.specs.Seen.{entry_seen}
use Rattle.raft_spec.specs.Log.{Entry}
use Rattle.raft_spec.specs.Node.{Server, Node}
use Rattle.raft_spec.specs.Account.{Stored, stored_of, loaded}
use Rattle.raft_spec.specs.Compaction.{compacted, with_whole_log}
use Rattle.raft_safety.specs.Cuts.{Same, Twin}
use Rattle.raft_safety.specs.Members.{Setup}
use Rattle.raft_membership.specs.Members.{IsOf, read_setup}
use Rattle.raft_messages.specs.Servers.{IsConfiguration}
use Rattle.raft_messages.specs.declared.message.Snapshot.{Snapshot as SnapshotOf}
use Rattle.raft_spec.specs.NodeValues.{node_of}
use Rattle.database_state.specs.Databases.{contents_of}
use Rattle.cluster_model.specs.Clusters.{booted}
use Rattle.store_laws.specs.Store.{Kept, Log, no_snap}
use Rattle.store_format.specs.FilesRead.{snap_kept}
use Rattle.store_format.specs.Starts.{CanStart}
use Rattle.raft_on_disk.specs.Replicas.{end_of, stored_at}
use Rattle.applied_state.specs.declared.applied.Applied.{Applied}
use Rattle.applied_state.specs.Applied.{HasApplied, HasNoPins}
use Rattle.applied_state.specs.Snapshot.{IsRestored, commits_of}
use Rattle.node_spec.specs.Nodes.{Node as RuleNode, IsCutOff, KeptIs, Stands}
use Rattle.node_spec.specs.Steps.{Counts}
use Rattle.node_spec.specs.Voting.{VotersStart, StartCounts}
use Rattle.disk_model.specs.Disk.{Disk}
use Rattle.disk_model.specs.Trait.{Text}
use Rattle.segment_store.specs.Open.{Open}
use Rattle.segment_store.specs.Keeps.{folder}
use Rattle.segment_store.specs.Loading.{IsLoaded, Loads}
use Rattle.node_core.specs.declared.fault.StartFault.{StartFault}
use Rattle.node_core.specs.declared.fault.StartFault.TheVariants as start
use Rattle.node_core.specs.Starting.{AppliesKept, ShowsFront, Begun, BegunStands, IsUnread, StartLeaves, StartsOver}

-- ---- Raft's part

abbrev loaded_with : List Server → ℕ → ℕ → Log → ℕ → ℕ → Node
loaded_with servers term vote log index last = loaded true servers (stored_at (record { term = term; vote = vote; snap = record { index = index; term = last; bytes = [] }; log = log }))

abbrev cut_log : Stored → Log
cut_log x = record { first = suc x.base; entries = drop x.base x.log }

before_next : (n : ℕ) → suc n - 1 ≡ n
before_next n = omega arith

-- what is loaded is the node that has stored it, without what is compacted
is_cut : (setup : Setup) (servers : List Server) (k : Kept) (x : Stored) → KeptIs setup k x → loaded true servers (stored_at k) ≡ with_whole_log (loaded true servers x) (compacted x.snapshot x.base ++ drop x.base x.log)
is_cut setup servers k x e =
    ap (λ (n : ℕ). loaded_with servers n k.vote k.log k.snap.index k.snap.term) e.term
    ∙ ap (λ (n : ℕ). loaded_with servers x.term n k.log k.snap.index k.snap.term) e.vote
    ∙ ap (λ (l : Log). loaded_with servers x.term x.vote l k.snap.index k.snap.term) e.log
    ∙ ap (λ (n : ℕ). loaded_with servers x.term x.vote (cut_log x) n k.snap.term) e.index
    ∙ ap (λ (n : ℕ). loaded_with servers x.term x.vote (cut_log x) x.snapshot.index n) e.snap_term
    ∙ ap (λ (n : ℕ). with_whole_log (record (loaded true servers x) { base = n }) (compacted x.snapshot n ++ drop x.base x.log)) (before_next x.base)

-- ---- the front that the snapshot represents

reaches : (k : Kept) (x : Stored) → k.log ≡ cut_log x → k.snap.index ≡ x.snapshot.index → CanStart k → Same x.base x.snapshot.index x.log (compacted x.snapshot x.base ++ drop x.base x.log) → x.snapshot.index ≤ length x.log
reaches k x log index c same =
    let len = same.len ∙ length-append (compacted x.snapshot x.base) (drop x.base x.log) in
    let cut : length (compacted x.snapshot x.base) ≡ x.base = length-replicate x.base _ in
    let left = length-drop x.base x.log in
    let first : k.log.first ≡ suc x.base = ap (λ (l : Log). l.first) log in
    let rest : length k.log.entries ≡ length (drop x.base x.log) = ap (λ (l : Log). length l.entries) log in
    let within = c.within in
    omega (arith, len, cut, left, first, rest, within, index)

-- the front, and the entries after it, are the log
joined : (k : Kept) (x : Stored) → k.log ≡ cut_log x → k.snap.index ≡ x.snapshot.index → CanStart k → take x.snapshot.index x.log ++ drop (suc k.snap.index - k.log.first) k.log.entries ≡ x.log
joined k x log index c =
    let first : k.log.first ≡ suc x.base = ap (λ (l : Log). l.first) log in
    let low = c.low in
    let at : x.base + (suc k.snap.index - k.log.first) ≡ x.snapshot.index = omega (arith, first, low, index) in
    let behind : drop (suc k.snap.index - k.log.first) k.log.entries ≡ drop x.snapshot.index x.log =
    ap (λ (l : Log). drop (suc k.snap.index - k.log.first) l.entries) log ∙ drop-drop (suc k.snap.index - k.log.first) x.base x.log ∙ ap (λ (n : ℕ). drop n x.log) at in
    ap (λ es. take x.snapshot.index x.log ++ es) behind ∙ take-append-drop x.snapshot.index x.log

-- ---- the configurations

-- what lies after the snapshot in the log that is loaded is what was kept there
behind : (servers : List Server) (k : Kept) → CanStart k → drop k.snap.index (loaded true servers (stored_at k)).log ≡ drop (suc k.snap.index - k.log.first) k.log.entries
behind servers k c =
    let first = c.first in
    let low = c.low in
    let cut : length (compacted (end_of k.snap) (k.log.first - 1)) ≡ k.log.first - 1 = length-replicate (k.log.first - 1) _ in
    let at : k.snap.index ≡ length (compacted (end_of k.snap) (k.log.first - 1)) + (suc k.snap.index - k.log.first) = omega (arith, cut, first, low) in
    ap (λ (n : ℕ). drop n (compacted (end_of k.snap) (k.log.first - 1) ++ k.log.entries)) at ∙ drop-append-add (compacted (end_of k.snap) (k.log.first - 1)) k.log.entries (suc k.snap.index - k.log.first)

voters_start : (opening servers : List Server) (k : Kept) (n : RuleNode) (a : Applied) → Begun opening servers k n a → VotersStart opening k n servers
voters_start opening servers k n a b = record {
  first = a.servers;
  none = b.applies.none;
  contents = contents_of a.machine;
  spelled = b.applies.spelled;
  members = λ first front len is. subst (λ (s : Node). IsOf (read_setup first) (front ++ drop k.snap.index s.log) n.members) (sym b.raft)
      (subst (λ (held : List Entry). IsOf (read_setup first) (front ++ held) n.members) (sym (behind servers k b.starts)) (b.members first front len is));
  current = b.current;
}

-- ---- the node

pub begun_stands : StartCounts → BegunStands
begun_stands counts opening servers kept n a b = (by, b.waiting)
  where
    by : (x : Stored) → KeptIs (read_setup opening) kept x → IsCutOff x → Stands (read_setup opening) n (loaded true servers x) (booted (loaded true servers x)) × Counts (read_setup opening) n (loaded true servers x)
    by x e cut =
        let within = reaches kept x e.log e.index b.starts cut in
        let len : length (take x.snapshot.index x.log) ≡ kept.snap.index = length-take-le x.snapshot.index x.log within ∙ sym e.index in
        let applied = b.applies.applied (take x.snapshot.index x.log) len (λ pos. e.bytes (subst (λ (i : ℕ). 0 < i) e.index pos)) in
        let has = applied.1 in
        let since = has.databases.0 in
        let twin : Twin (loaded true servers x) (node_of n.raft) = record { log = compacted x.snapshot x.base ++ drop x.base x.log; node = b.raft ∙ is_cut (read_setup opening) servers kept x e; same = cut } in (
          record {
            twin = twin;
            raft = b.coherent;
            up = refl;
            coherent = record { log = refl; applied = refl; term = refl; leads = refl };
            serving = sym b.serving;
            machine = b.machine;
            lacks = applied.0;
            since = since;
            files = ap files (take-map entry_seen x.snapshot.index x.log) ∙ has.databases.1 ∙ ap (λ d. restarted applied.0 since (machine_of d)) (sym b.machine_is);
            sessions = ap (shifted applied.0) (sym b.sessions);
            kept = subst (λ (k : Kept). KeptIs (read_setup opening) k (stored_of (loaded true servers x))) (sym b.kept_is) (record { term = e.term; vote = e.vote; log = e.log; index = e.index; snap_term = e.snap_term; bytes = e.bytes });
          },
          counts opening kept n servers x (voters_start opening servers kept n a b) e twin b.coherent,
        )

-- ---- what is applied

pub applies_none : (opening : List Server) (a : Applied) → IsConfiguration opening → a ≡ record { machine = []; servers = opening; index = 0 } → HasApplied opening (λ name. 0) [] a → AppliesKept opening no_snap a
applies_none opening a stands is has = record {
  index = ap (λ (x : Applied). x.index) is;
  servers = subst (λ (x : Applied). IsConfiguration x.servers) (sym is) stands;
  none = λ zero_is. ap (λ (x : Applied). x.servers) is;
  spelled = λ pos. absurd (omega (arith, pos));
  unpinned = subst (λ (x : Applied). HasNoPins x.machine) (sym is) (λ pin pinned. absurd pinned);
  applied = λ front len spelled. (λ name. 0, subst (λ (f : List Entry). HasApplied opening (λ name. 0) f a) (sym (nothing front len)) has);
}
  where
    nothing : (front : List Entry) → length front ≡ 0 → front ≡ []
    nothing [] e = refl
    nothing (x ∷ xs) e = absurd cc

pub applies_some : (opening : List Server) (s : SnapshotOf) (a : Applied) → 0 < s.index → IsRestored s.index s.bytes a → IsConfiguration a.servers → HasNoPins a.machine → ShowsFront s.index s.bytes a → AppliesKept opening (snap_kept (Some s)) a
applies_some opening s a pos r stands unpinned shows = record {
  index = r.index_is;
  servers = stands;
  none = λ none. absurd (omega (arith, pos, none));
  spelled = λ some. r.spelled;
  unpinned = unpinned;
  applied = λ front len spelled. (commits_of front, shows opening front len (spelled pos));
}

-- ---- no node over what was loaded

pub start_fails : (fault : StartFault) (store : Open) (k : Kept) (d e : Disk Text) → IsUnread k.snap.index k.snap.bytes fault → IsLoaded store k (folder d) (folder e) → StartLeaves (Err fault) d e
start_fails (start.Snapshot at) store k d e u l = (record { kept = k; reads = l.reads; at_is = sym u.0; some = u.1; unread = u.2 }, inr (store, (k, l)))
start_fails start.NoMemory store k d e u l = inr (store, (k, l))
start_fails start.DiskFault store k d e u l = absurd u
start_fails (start.Damaged fault) store k d e u l = absurd u

pub starts_over : (before after : Disk Text → Type 0) (fault : StartFault) (store : Open) (k : Kept) → IsUnread k.snap.index k.snap.bytes fault → Loads before after (Ok (store, k)) → StartsOver before after (Err fault)
starts_over before after fault store k u l = record { each = λ d was is. let x = l.each d was is in (x.0, (x.1.0, start_fails fault store k d x.0 u x.1.1)) }
