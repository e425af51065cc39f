-- Each turn of a node is a stretch in which it is given its voters.
use Rattle.std.proofs.Common.{◌≡◌, ℕ, zero, suc, ◌<◌, ◌≤◌, Bool, true, false, List, [], ◌∷◌, ◌++◌, length, take, drop, refl, sym, ap, ◌∙◌, subst, arith, take-append-drop, length-take, length-append}
use Rattle.std.proofs.lemmas.List.{length-replicate}
use Rattle.std.specs.Prelude.{◌&&◌, ◌+◌, cond, Option, Some, None, Result, Ok, Err}
use Rattle.raft_spec.specs.Log.{Entry, term_at}
use Rattle.raft_spec.specs.Node.{Node, Server, voters, is_leader, Message, Input, Local, Receive, Propose, Snapped, UseServers}
use Rattle.raft_spec.specs.NodeValues.{NodeValue, IsCoherent, node_of}
use Rattle.raft_spec.specs.Account.{steps, loaded}
use Rattle.raft_spec.specs.Compaction.{compacted, compacted_step}
use Rattle.raft_spec.specs.Membership.{with_servers}
use Rattle.raft_spec.specs.Outcomes.{with_term}
use Rattle.raft_messages.specs.Servers.{servers_bytes, configuration_of}
use Rattle.raft_messages.specs.declared.servers_fault.ServersFault.{ServersFault}
use Rattle.raft_messages.proofs.ServerLaws.{servers_read as configuration_reads}
use Rattle.raft_safety.specs.Laws.{SameUpTo}
use Rattle.raft_safety.specs.Members.{is_change, reads, servers_read, changes, configuration, voters_after, may_take, member_step}
use Rattle.raft_safety.specs.Cuts.{Twin, AlikeInput, AlikeInputs, ToldAt, Told}
use Rattle.raft_safety.proofs.Alikes.{same_at, same_drop}
use Rattle.raft_membership.specs.Members.{Configurations, last_servers, configuration_in, read_setup, IsOf}
use Rattle.database_state.specs.Files.{Content}
use Rattle.database_state.specs.Snapshot.{snapshot_text}
use Rattle.applied_state.specs.Snapshot.{NodeSnapshot, SpellsSnapshot, snapshot_body, made_in}
use Rattle.node_spec.specs.Nodes as rules
use Rattle.node_spec.specs.Steps.{TakesIn, Counts}
use Rattle.node_spec.specs.Voting.{taking, MayTell, IsPlain, TellsLast, with_same, with_own, with_told, MayChange, FromSnapshot, RestTells, FollowTells, ChangeTells, InstallTells, CompactTells, PlainStops, ChangeStops, StartCounts}
use Rattle.node_spec.proofs.Proposing.{none_later, near_are_proposed}
use Rattle.node_spec.proofs.SnapshotSteps.{snapshots_come}
use Rattle.node_spec.proofs.Stretches.{tail_is, head_is}
use Rattle.node_spec.proofs.VoterLogs.{current_voters, same_voters_after, change_follows}
use Rattle.node_spec.proofs.VoterSteps.{voters_stay, serve_node, may_plain, told_plain, ahead_same, propose_node, snapped_log}

-- ---- inputs that are alike

-- an input alike to a local one is that one
local_is : (i : Input) (local : _) → AlikeInput i (Local local) → i ≡ Local local
local_is (Local other) local a = sym a
local_is (Receive m) local a = absurd (wrong _ _ a.1)
  where
    wrong : (local : _) (m : _) → Local local ≡ Receive m → ⊥
    wrong local m e = cc

none_is : (is : List Input) → AlikeInputs is [] → is ≡ []
none_is [] e = refl
none_is (i ∷ is) e = absurd cc

-- the first input and the rest
record Parted (is : List Input) (x : Input) (xs : List Input) : Type 0 where
  first : Input
  rest : List Input
  is_so : is ≡ first ∷ rest
  alike : AlikeInput first x
  others : AlikeInputs rest xs

parted : (is : List Input) (x : Input) (xs : List Input) → AlikeInputs is (x ∷ xs) → Parted is x xs
parted [] x xs a = absurd cc
parted (i ∷ is) x xs a = record {
  first = i;
  rest = is;
  is_so = refl;
  alike = subst (AlikeInput i) (sym (head_is x a.0 xs a.1 a.2)) a.3;
  others = subst (AlikeInputs is) (sym (tail_is x a.0 xs a.1 a.2)) a.4;
}

one_local : (is : List Input) (local : _) → AlikeInputs is (Local local ∷ []) → is ≡ Local local ∷ []
one_local is local a =
    let p = parted is (Local local) [] a in
    p.is_so ∙ (λ k. local_is p.first local p.alike k ∷ none_is p.rest p.others k)

plain_is : (i x : Input) → AlikeInput i x → IsPlain x → IsPlain i
plain_is (Local local) x a p = subst IsPlain a p
plain_is (Receive m) x a p = tt

-- ---- a node and its twin

same_commit : (s : Node) (h : NodeValue) → Twin s (node_of h) → h.commit ≡ s.commit
same_commit s h t = ap (λ (z : Node). z.commit) t.node

same_voters : (s : Node) (h : NodeValue) → Twin s (node_of h) → voters h.servers ≡ voters s.servers
same_voters s h t = ap (λ (z : Node). voters z.servers) t.node

-- after a place that isn't compacted both logs are the same
held : (s : Node) (h : NodeValue) (k : ℕ) → Twin s (node_of h) → h.base ≤ k → drop k s.log ≡ drop k (node_of h).log
held s h k t low =
    let base : h.base ≡ s.base = ap (λ (z : Node). z.base) t.node in
    let low_s : s.base ≤ k = omega (arith, base, low) in
    same_drop {b = s.base} {i = s.snapshot.index} k low_s t.same ∙ ap (drop k) (sym (ap (λ (z : Node). z.log) t.node))

-- both have the same term at an applied index
same_barrier : (s : Node) (h : NodeValue) → Twin s (node_of h) → IsCoherent h → term_at (node_of h).log h.commit ≡ h.term → term_at s.log s.commit ≡ s.term
same_barrier s h t c e =
    let base : h.base ≡ s.base = ap (λ (z : Node). z.base) t.node in
    let snap : h.snapshot.index ≡ s.snapshot.index = ap (λ (z : Node). z.snapshot.index) t.node in
    let commit = same_commit s h t in
    let term : h.term ≡ s.term = ap (λ (z : Node). z.term) t.node in
    let log : (node_of h).log ≡ t.log = ap (λ (z : Node). z.log) t.node in
    let low = c.low in
    let applied = c.applied in
    let low_s : s.base ≤ s.commit = omega (arith, low, applied, base, snap, commit) in
    let end : s.commit ≡ s.base → s.base ≡ s.snapshot.index = λ q. omega (arith, low, applied, base, snap, commit, q) in
    same_at {b = s.base} {i = s.snapshot.index} s.commit low_s end t.same ∙ (λ k. term_at (sym log k) (sym commit k)) ∙ e ∙ term

-- ---- the first step of a turn

-- what it leaves
record Stepped (opening : List Server) (me : ℕ) (a : rules.Node) (s : Node) (i : Input) (mid : NodeValue) : Type 0 where
  before : Twin s (node_of a.raft)
  behind : Twin (member_step (read_setup opening) me s i).node (node_of mid)
  kept : SameUpTo s.commit s.log (member_step (read_setup opening) me s i).node.log

stepped : (opening : List Server) (me : ℕ) (bytes : List ℕ) (a : rules.Node) (s : Node) (i x : Input) (is xs : List Input) (mid : NodeValue) → TakesIn (read_setup opening) me a s (i ∷ is) (taking bytes (x ∷ xs)) →
    may_take (read_setup opening) s i ≡ true → ToldAt (read_setup opening) s i → node_of mid ≡ (compacted_step me (node_of a.raft) x).node → Stepped opening me a s i mid
stepped opening me bytes a s i x is xs mid t may told made = record {
  before = t.twins 0 tt;
  behind = subst (Twin (member_step (read_setup opening) me s i).node) (sym made) (t.twins 1 (may, told, tt));
  kept = (t.kept 0).1;
}

-- ---- no step

pub rest_tells : RestTells
rest_tells setup me bytes a b r = record {
  made = ap node_of r.raft;
  may = λ s is c t. subst (Told setup me s) (sym (none_is is t.alike)) tt;
  counts = λ s is c t told.
      let commit = same_commit s a.raft (t.twins 0 tt) in
      let long : s.commit ≤ length s.log = (t.kept 0).1.0 in
      let high = r.high in
      subst (λ l. Counts setup b (steps (member_step setup me) s l)) (sym (none_is is t.alike))
      (record { told = c.told; members = r.settle setup s.log c.members (omega (arith, commit, long, high)) });
}

-- ---- a step that proposes no change

plain_told : (opening : List Server) (me : ℕ) (bytes : List ℕ) (a : rules.Node) (i : Input) → IsPlain i → MayTell (read_setup opening) me bytes a (i ∷ [])
plain_told opening me bytes a i p s is c t =
    let d = parted is i [] t.alike in
    let q = plain_is d.first i d.alike p in
    subst (Told (read_setup opening) me s) (sym (d.is_so ∙ ap (λ l. d.first ∷ l) (none_is d.rest d.others))) (may_plain opening s d.first q, told_plain opening s d.first q c.told, tt)

both_told : (opening : List Server) (me : ℕ) (bytes : List ℕ) (a : rules.Node) (i : Input) (servers : List Server) → IsPlain i → MayTell (read_setup opening) me bytes a (i ∷ Local (UseServers servers) ∷ [])
both_told opening me bytes a i servers p s is c t =
    let d = parted is i (Local (UseServers servers) ∷ []) t.alike in
    let q = plain_is d.first i d.alike p in
    subst (Told (read_setup opening) me s) (sym (d.is_so ∙ ap (λ l. d.first ∷ l) (one_local d.rest (UseServers servers) d.others))) (may_plain opening s d.first q, told_plain opening s d.first q c.told, (refl, tt, tt))

pub plain_stops : PlainStops
plain_stops opening me bytes a i servers p = (plain_told opening me bytes a i p, both_told opening me bytes a i servers p)

-- a node that is told the current servers counts by them
told_counts : (opening : List Server) (me : ℕ) (t : Node) (b : rules.Node) (servers : List Server) → servers ≡ last_servers b.members → IsOf (read_setup opening) t.log b.members →
    Counts (read_setup opening) b (member_step (read_setup opening) me t (Local (UseServers servers))).node
told_counts opening me t b servers e is =
    subst (Counts (read_setup opening) b) (sym (serve_node (read_setup opening) me t servers)) (record { told = ap voters e ∙ current_voters (read_setup opening) t.log b.members is; members = is })

-- how the turn ends
last_counts : (opening : List Server) (me : ℕ) (bytes : List ℕ) (a b : rules.Node) (i x : Input) (xs : List Input) (s : Node) (is : List Input) (mid : NodeValue) → IsPlain i → IsCoherent a.raft →
    Counts (read_setup opening) a s → Stepped opening me a s i mid → node_of mid ≡ (compacted_step me (node_of a.raft) x).node → IsPlain x → s.commit ≤ length s.log →
    IsOf (read_setup opening) (member_step (read_setup opening) me s i).node.log b.members → AlikeInputs is xs → TellsLast me a b mid xs → Counts (read_setup opening) b (steps (member_step (read_setup opening) me) s (i ∷ is))
last_counts opening me bytes a b i x xs s is mid p co c st made px long of alike (with_same raft members none) =
    let t = (member_step (read_setup opening) me s i).node in
    let keep : voters t.servers ≡ voters s.servers = sym (same_voters t mid st.behind) ∙ ap (λ (z : Node). voters z.servers) made ∙ voters_stay me (node_of a.raft) x px ∙ same_voters s a.raft st.before in
    let same : voters_after (read_setup opening) s.log ≡ voters_after (read_setup opening) t.log = same_voters_after (read_setup opening) s.log t.log a.members c.members (subst (IsOf (read_setup opening) t.log) members of) in
    subst (λ l. Counts (read_setup opening) b (steps (member_step (read_setup opening) me) s (i ∷ l))) (sym (none_is is (subst (AlikeInputs is) none alike))) (record { told = keep ∙ c.told ∙ same; members = of })
last_counts opening me bytes a b i x xs s is mid p co c st made px long of alike (with_own raft role none) =
    let t = (member_step (read_setup opening) me s i).node in
    let keep : voters t.servers ≡ voters s.servers = sym (same_voters t mid st.behind) ∙ ap (λ (z : Node). voters z.servers) made ∙ voters_stay me (node_of a.raft) x px ∙ same_voters s a.raft st.before in
    let snap : a.raft.snapshot.index ≡ s.snapshot.index = ap (λ (z : Node). z.snapshot.index) st.before.node in
    let commit = same_commit s a.raft st.before in
    let applied = co.applied in
    let low : s.snapshot.index ≤ length s.log = omega (arith, snap, commit, applied, long) in
    let same : voters_after (read_setup opening) t.log ≡ voters_after (read_setup opening) s.log = ahead_same opening me s i mid.role p low (sym (ap (λ (z : Node). z.role) st.behind.node)) role in
    subst (λ l. Counts (read_setup opening) b (steps (member_step (read_setup opening) me) s (i ∷ l))) (sym (none_is is (subst (AlikeInputs is) none alike))) (record { told = keep ∙ c.told ∙ sym same; members = of })
last_counts opening me bytes a b i x xs s is mid p co c st made px long of alike (with_told servers current raft more) =
    let t = (member_step (read_setup opening) me s i).node in
    subst (λ l. Counts (read_setup opening) b (steps (member_step (read_setup opening) me) s (i ∷ l))) (sym (one_local is (UseServers servers) (subst (AlikeInputs is) more alike))) (told_counts opening me t b servers current of)

last_made : (me : ℕ) (a b : rules.Node) (mid : NodeValue) (i : Input) (more : List Input) → node_of mid ≡ (compacted_step me (node_of a.raft) i).node → TellsLast me a b mid more → node_of b.raft ≡ steps (compacted_step me) (node_of a.raft) (i ∷ more)
last_made me a b mid i more made (with_same raft members none) = ap node_of raft ∙ made ∙ ap (λ l. steps (compacted_step me) (node_of a.raft) (i ∷ l)) (sym none)
last_made me a b mid i more made (with_own raft role none) = ap node_of raft ∙ made ∙ ap (λ l. steps (compacted_step me) (node_of a.raft) (i ∷ l)) (sym none)
last_made me a b mid i more made (with_told servers current raft is) = raft ∙ ap (λ v. (compacted_step me v (Local (UseServers servers))).node) made ∙ ap (λ l. steps (compacted_step me) (node_of a.raft) (i ∷ l)) (sym is)

last_may : (opening : List Server) (me : ℕ) (bytes : List ℕ) (a b : rules.Node) (mid : NodeValue) (i : Input) (more : List Input) → IsPlain i → TellsLast me a b mid more → MayTell (read_setup opening) me bytes a (i ∷ more)
last_may opening me bytes a b mid i more p (with_same raft members none) = subst (λ l. MayTell (read_setup opening) me bytes a (i ∷ l)) (sym none) (plain_told opening me bytes a i p)
last_may opening me bytes a b mid i more p (with_own raft role none) = subst (λ l. MayTell (read_setup opening) me bytes a (i ∷ l)) (sym none) (plain_told opening me bytes a i p)
last_may opening me bytes a b mid i more p (with_told servers current raft is) = subst (λ l. MayTell (read_setup opening) me bytes a (i ∷ l)) (sym is) (both_told opening me bytes a i servers p)

pub follow_tells : FollowTells
follow_tells opening me bytes a b x xs r = record {
  made = last_made me a b r.mid x xs r.made r.last;
  may = last_may opening me bytes a b r.mid x xs r.plain r.last;
  counts = λ s is c t told.
      let d = parted is x xs t.alike in
      let q = plain_is d.first x d.alike r.plain in
      let u = subst (λ l. TakesIn (read_setup opening) me a s l (taking bytes (x ∷ xs))) d.is_so t in
      let st = stepped opening me bytes a s d.first x d.rest xs r.mid u (may_plain opening s d.first q) (told_plain opening s d.first q c.told) r.made in
      let of = r.follow opening s (member_step (read_setup opening) me s d.first).node st.before st.behind st.kept c.members in
      subst (λ l. Counts (read_setup opening) b (steps (member_step (read_setup opening) me) s l)) (sym d.is_so)
      (last_counts opening me bytes a b d.first x xs s d.rest r.mid q r.coherent c st r.made r.plain (t.kept 0).1.0 of d.others r.last);
}

-- ---- a change

-- an entry that changes to servers
reads_so : (e : Entry) (servers : List Server) → configuration_in e ≡ Some servers → (is_change e.kind ≡ true) × (configuration_of e.bytes ≡ Some servers)
reads_so e servers = by (is_change e.kind)
  where
    by : (b : Bool) → cond b (configuration_of e.bytes) None ≡ Some servers → (b ≡ true) × (configuration_of e.bytes ≡ Some servers)
    by true h = (refl, h)
    by false h = absurd cc

-- the leader that was told the servers
told_leader : (opening : List Server) (me : ℕ) (a : rules.Node) (e : Entry) (servers : List Server) (s : Node) → MayChange a e servers → Twin s (node_of a.raft) → IsOf (read_setup opening) s.log a.members →
    (may_take (read_setup opening) (with_servers me s servers) (Local (Propose (e ∷ []))) ≡ true)
    × (voters servers ≡ voters_after (read_setup opening) (s.log ++ with_term s.term (e ∷ [])))
told_leader opening me a e servers s m twin of =
    let r = reads_so e servers m.reads in
    let reads_some : configuration_of e.bytes ≡ Some servers = r.1 in
    let is : changes (read_setup opening) e ≡ true = (λ k. r.0 k && reads (reads_some k)) in (
      near_are_proposed opening (with_servers me s servers) e a.members servers of (m.at ∙ same_commit s a.raft twin) (none_later (read_setup opening) s.log a.members of m.none) (same_barrier s a.raft twin m.coherent m.barrier) reads_some m.near,
      sym (change_follows (read_setup opening) s.log (record { term = s.term; kind = e.kind; bytes = e.bytes }) is ∙ ap (λ (o : Option (List Server)). voters (servers_read o)) reads_some),
    )

-- what the steps before its proposal and at it need
change_told : (opening : List Server) (me : ℕ) (a : rules.Node) (e : Entry) (servers : List Server) (s : Node) → MayChange a e servers → Twin s (node_of a.raft) → IsOf (read_setup opening) s.log a.members →
    (may_take (read_setup opening) (member_step (read_setup opening) me s (Local (UseServers servers))).node (Local (Propose (e ∷ []))) ≡ true)
    × ToldAt (read_setup opening) (member_step (read_setup opening) me s (Local (UseServers servers))).node (Local (Propose (e ∷ [])))
change_told opening me a e servers s m twin of =
    subst (λ (z : Node). (may_take (read_setup opening) z (Local (Propose (e ∷ []))) ≡ true) × ToldAt (read_setup opening) z (Local (Propose (e ∷ [])))) (sym (serve_node (read_setup opening) me s servers))
    (told_leader opening me a e servers s m twin of)

two_local : (is : List Input) (one two : _) → AlikeInputs is (Local one ∷ Local two ∷ []) → is ≡ Local one ∷ Local two ∷ []
two_local is one two a =
    let p = parted is (Local one) (Local two ∷ []) a in
    p.is_so ∙ (λ k. local_is p.first one p.alike k ∷ one_local p.rest two p.others k)

change_may : (opening : List Server) (me : ℕ) (bytes : List ℕ) (a : rules.Node) (e : Entry) (servers : List Server) → MayChange a e servers →
    MayTell (read_setup opening) me bytes a (Local (UseServers servers) ∷ Local (Propose (e ∷ [])) ∷ [])
change_may opening me bytes a e servers m s is c t =
    let twin : Twin s (node_of a.raft) = t.twins 0 tt in
    let d = change_told opening me a e servers s m twin c.members in
    subst (Told (read_setup opening) me s) (sym (two_local is (UseServers servers) (Propose (e ∷ [])) t.alike)) (refl, tt, (d.0, d.1, tt))

pub change_stops : ChangeStops
change_stops opening me bytes a e servers m = (
  (λ s is c t. subst (Told (read_setup opening) me s) (sym (one_local is (UseServers servers) t.alike)) (refl, tt, tt)),
  change_may opening me bytes a e servers m,
)

pub change_tells : ChangeTells
change_tells opening me bytes a b e servers v = record {
  made = v.made ∙ ap (λ z. (compacted_step me z (Local (Propose (e ∷ [])))).node) v.told;
  may = change_may opening me bytes a e servers v.may;
  counts = λ s is c t told.
      let same = two_local is (UseServers servers) (Propose (e ∷ [])) t.alike in
      subst (λ l. Counts (read_setup opening) b (steps (member_step (read_setup opening) me) s l)) (sym same)
      (change_counts s c (subst (λ l. TakesIn (read_setup opening) me a s l (taking bytes (Local (UseServers servers) ∷ Local (Propose (e ∷ [])) ∷ []))) same t));
}
  where
    change_counts : (s : Node) → Counts (read_setup opening) a s → TakesIn (read_setup opening) me a s (Local (UseServers servers) ∷ Local (Propose (e ∷ [])) ∷ []) (taking bytes (Local (UseServers servers) ∷ Local (Propose (e ∷ [])) ∷ [])) →
        Counts (read_setup opening) b (steps (member_step (read_setup opening) me) s (Local (UseServers servers) ∷ Local (Propose (e ∷ [])) ∷ []))
    change_counts s c t =
        let vs = read_setup opening in
        let twin : Twin s (node_of a.raft) = t.twins 0 tt in
        let d = change_told opening me a e servers s v.may twin c.members in
        let mid = (member_step (read_setup opening) me s (Local (UseServers servers))).node in
        let served : mid ≡ with_servers me s servers = serve_node (read_setup opening) me s servers in
        let mid_twin : Twin mid (node_of v.mid) = subst (Twin mid) (sym v.told) (t.twins 1 (refl, tt, tt)) in
        let end = (member_step (read_setup opening) me mid (Local (Propose (e ∷ [])))).node in
        let end_twin : Twin end (node_of b.raft) = subst (Twin end) (sym (v.made ∙ ap (λ z. (compacted_step me z (Local (Propose (e ∷ [])))).node) v.told)) (t.twins 2 (refl, tt, (d.0, d.1, tt))) in
        let leads : is_leader mid.role ≡ true = ap (λ (z : Node). is_leader z.role) served ∙ sym (ap (λ (z : Node). is_leader z.role) twin.node) ∙ v.may.leads in
        let p = propose_node (read_setup opening) me mid (e ∷ []) d.0 leads in
        let log : end.log ≡ mid.log ++ with_term mid.term (e ∷ []) = ap (λ (z : Node). z.log) p.1 in
        let same : end.servers ≡ mid.servers = ap (λ (z : Node). z.servers) p.1 in
        let mid_log : mid.log ≡ s.log = ap (λ (z : Node). z.log) served in
        record {
          told = ap voters same ∙ d.1 ∙ ap (voters_after (read_setup opening)) (sym log);
          members = v.follow opening mid end mid_twin end_twin (t.kept 1).1 (subst (λ l. IsOf (read_setup opening) l a.members) (sym mid_log) c.members);
        }

-- ---- a snapshot

-- the servers that were read
abbrev read_servers : Result (List Server × ℕ) ServersFault → List Server
read_servers (Ok read) = read.0
read_servers (Err fault) = []

empty_configuration : (opening : List Server) → configuration (read_setup opening) [] ≡ opening
unfolding configuration
empty_configuration opening = refl

-- bytes are the snapshot of one configuration alone
one_configuration : (x y : NodeSnapshot) (bytes : List ℕ) → SpellsSnapshot x bytes → SpellsSnapshot y bytes → x.servers ≡ y.servers
one_configuration x y bytes p q =
    let one = configuration_reads (snapshot_body bytes) x.servers (servers_bytes x.servers) (snapshot_text x.contents) p.servers p.parts in
    let two = configuration_reads (snapshot_body bytes) y.servers (servers_bytes y.servers) (snapshot_text y.contents) q.servers q.parts in
    ap read_servers (sym one ∙ two)

-- the configurations of a whole log of whose front the snapshot is
from_snapshot : (opening : List Server) (first : List Server) (contents : List Content) (bytes : List ℕ) (index : ℕ) (log kept : List Entry) (m : Configurations) → index ≤ length log → drop index log ≡ drop index kept →
    SpellsSnapshot (made_in (read_setup opening) (take index log)) bytes → SpellsSnapshot (record { servers = first; contents = contents }) bytes → FromSnapshot first index kept m → IsOf (read_setup opening) log m
from_snapshot opening first contents bytes index log kept m within rest made own from =
    let long : length (take index log) ≡ index = length-take index log ∙ (let l = within in omega (arith, l)) in
    let same : configuration (read_setup opening) (take index log) ≡ first = one_configuration (made_in (read_setup opening) (take index log)) (record { servers = first; contents = contents }) bytes made own in
    subst (λ l. IsOf (read_setup opening) l m) (ap (λ l. take index log ++ l) (sym rest) ∙ take-append-drop index log) (from opening (take index log) long same)

-- a message is alike to a message
record Comes (is : List Input) (servers : List Server) : Type 0 where
  message : Message
  is_so : is ≡ Receive message ∷ Local (UseServers servers) ∷ []

comes_so : (is : List Input) (m : Message) (servers : List Server) → AlikeInputs is (Receive m ∷ Local (UseServers servers) ∷ []) → Comes is servers
comes_so is m servers a =
    let p = parted is (Receive m) (Local (UseServers servers) ∷ []) a in
    by p.first p.alike (p.is_so ∙ ap (λ l. p.first ∷ l) (one_local p.rest (UseServers servers) p.others))
  where
    by : (i : Input) → AlikeInput i (Receive m) → is ≡ i ∷ Local (UseServers servers) ∷ [] → Comes is servers
    by (Receive k) al e = record { message = k; is_so = e }
    by (Local local) al e = absurd (wrong local al)
      where
        wrong : (local : _) → Receive m ≡ Local local → ⊥
        wrong local w = cc

pub install_tells : InstallTells
install_tells opening me bytes a b m servers v = record {
  made = v.told ∙ ap (λ z. (compacted_step me z (Local (UseServers servers))).node) v.made;
  may = both_told opening me bytes a (Receive m) servers tt;
  counts = λ s is c t told.
      let p = comes_so is m servers t.alike in
      subst (λ l. Counts (read_setup opening) b (steps (member_step (read_setup opening) me) s l)) (sym p.is_so)
      (installed s p.message c (subst (λ l. TakesIn (read_setup opening) me a s l (taking bytes (Receive m ∷ Local (UseServers servers) ∷ []))) p.is_so t));
}
  where
    installed : (s : Node) (k : Message) → Counts (read_setup opening) a s → TakesIn (read_setup opening) me a s (Receive k ∷ Local (UseServers servers) ∷ []) (taking bytes (Receive m ∷ Local (UseServers servers) ∷ [])) →
        Counts (read_setup opening) b (steps (member_step (read_setup opening) me) s (Receive k ∷ Local (UseServers servers) ∷ []))
    installed s k c t =
        let st = stepped opening me bytes a s (Receive k) (Receive m) (Local (UseServers servers) ∷ []) (Local (UseServers servers) ∷ []) v.mid t refl c.told v.made in
        let u = (member_step (read_setup opening) me s (Receive k)).node in
        let commit = same_commit s a.raft st.before in
        let snap_before : a.raft.snapshot.index ≡ s.snapshot.index = ap (λ (z : Node). z.snapshot.index) st.before.node in
        let snap : v.mid.snapshot.index ≡ u.snapshot.index = ap (λ (z : Node). z.snapshot.index) st.behind.node in
        let u_commit = same_commit u v.mid st.behind in
        let applied = v.coherent.applied in
        let comes = v.comes in
        let below : s.snapshot.index ≤ s.commit = omega (arith, commit, snap_before, applied) in
        let past : s.commit < u.snapshot.index = omega (arith, commit, snap, comes) in
        let bytes_are = snapshots_come (read_setup opening) me a s (Receive k ∷ Local (UseServers servers) ∷ []) (taking bytes (Receive m ∷ Local (UseServers servers) ∷ [])) 0 k t refl below past in
        let some : 0 < u.snapshot.index = omega (arith, past) in
        let spelled : SpellsSnapshot (made_in (read_setup opening) (take v.mid.snapshot.index u.log)) bytes = subst (λ n. SpellsSnapshot (made_in (read_setup opening) (take n u.log)) bytes) (sym snap) (bytes_are some) in
        let long : u.commit ≤ length u.log = (t.kept 1).1.0 in
        let mid_applied = v.mid_coherent.applied in
        let within : v.mid.snapshot.index ≤ length u.log = omega (arith, mid_applied, u_commit, long) in
        let rest = held u v.mid v.mid.snapshot.index st.behind v.mid_coherent.low in
        told_counts opening me u b servers v.current (from_snapshot opening v.first v.contents bytes v.mid.snapshot.index u.log (node_of v.mid).log b.members within rest spelled v.spelled v.members)

pub compact_tells : CompactTells
compact_tells opening me bytes a b index v = record {
  made = v.made;
  may = plain_told opening me bytes a (Local (Snapped index)) tt;
  counts = λ s is c t told.
      let e = one_local is (Snapped index) t.alike in
      subst (λ l. Counts (read_setup opening) b (steps (member_step (read_setup opening) me) s l)) (sym e)
      (taken s c (subst (λ l. TakesIn (read_setup opening) me a s l (taking bytes (Local (Snapped index) ∷ []))) e t));
}
  where
    taken : (s : Node) → Counts (read_setup opening) a s → TakesIn (read_setup opening) me a s (Local (Snapped index) ∷ []) (taking bytes (Local (Snapped index) ∷ [])) → Counts (read_setup opening) b (member_step (read_setup opening) me s (Local (Snapped index))).node
    taken s c t =
        let st = stepped opening me bytes a s (Local (Snapped index)) (Local (Snapped index)) [] [] b.raft t refl c.told v.made in
        let u = (member_step (read_setup opening) me s (Local (Snapped index))).node in
        let log : u.log ≡ s.log = snapped_log (read_setup opening) me s index in
        let keep : voters u.servers ≡ voters s.servers = sym (same_voters u b.raft st.behind) ∙ ap (λ (z : Node). voters z.servers) v.made ∙ voters_stay me (node_of a.raft) (Local (Snapped index)) tt ∙ same_voters s a.raft st.before in
        record {
          told = keep ∙ c.told ∙ ap (voters_after (read_setup opening)) (sym log);
          members = subst (λ l. IsOf (read_setup opening) l b.members) (sym log) (subst (IsOf (read_setup opening) s.log) (sym v.members) c.members);
        }

-- ---- a start

pub start_counts : StartCounts
start_counts opening kept new servers x v k twin co =
    let snap : new.raft.snapshot.index ≡ x.snapshot.index = ap (λ (z : Node). z.snapshot.index) twin.node in
    let commit : new.raft.commit ≡ x.snapshot.index = same_commit (loaded true servers x) new.raft twin in
    let index : kept.snap.index ≡ x.snapshot.index = k.index in
    let low = co.low in
    let within = co.within in
    let size : length x.log ≡ length (node_of new.raft).log = twin.same.len ∙ ap length (sym (ap (λ (z : Node). z.log) twin.node)) in
    let long : length (node_of new.raft).log ≡ new.raft.base + length new.raft.entries = held_length new.raft in
    let inside : kept.snap.index ≤ length x.log = omega (arith, index, commit, within, size, long) in
    let base : new.raft.base ≤ kept.snap.index = omega (arith, low, snap, index) in
    let rest = held (loaded true servers x) new.raft kept.snap.index twin base in
    let of : IsOf (read_setup opening) x.log new.members = by_index kept.snap.index refl inside rest in
    record { told = ap voters v.current ∙ current_voters (read_setup opening) x.log new.members of; members = of }
  where
    held_length : (h : NodeValue) → length (node_of h).log ≡ h.base + length h.entries
    held_length h = length-append (compacted h.snapshot h.base) h.entries ∙ ap (λ n. n + length h.entries) (length-replicate h.base _)

    by_index : (n : ℕ) → kept.snap.index ≡ n → kept.snap.index ≤ length x.log → drop kept.snap.index x.log ≡ drop kept.snap.index (node_of new.raft).log → IsOf (read_setup opening) x.log new.members
    by_index zero e within rest =
        let nothing : kept.snap.index ≡ 0 = e in
        let same : configuration (read_setup opening) [] ≡ v.first = empty_configuration opening ∙ sym (v.none nothing) in
        subst (λ l. IsOf (read_setup opening) l new.members) (ap (λ n. drop n (node_of new.raft).log) nothing ∙ sym (ap (λ n. drop n (node_of new.raft).log) nothing) ∙ sym rest ∙ ap (λ n. drop n x.log) nothing) (v.members opening [] (sym nothing) same)
    by_index (suc n) e within rest =
        let some : 0 < kept.snap.index = omega (arith, e) in
        let index : kept.snap.index ≡ x.snapshot.index = k.index in
        let some_x : 0 < x.snapshot.index = omega (arith, some, index) in
        let spelled : SpellsSnapshot (made_in (read_setup opening) (take kept.snap.index x.log)) kept.snap.bytes = subst (λ i. SpellsSnapshot (made_in (read_setup opening) (take i x.log)) kept.snap.bytes) (sym index) (k.bytes some_x) in
        from_snapshot opening v.first v.contents kept.snap.bytes kept.snap.index x.log (node_of new.raft).log new.members within rest spelled (v.spelled some) v.members
