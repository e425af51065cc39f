-- One event leads Raft's part of a node, and what follows it, from one core to one core.
use Rattle.std.proofs.Common.{◌≡◌, ◌<◌, ◌≤◌, ℕ, zero, suc, ◌-◌, Bool, true, false, cond, List, [], ◌∷◌, length, map, take, Option, Some, None, inl, inr, arith, refl, sym, ap, ◌∙◌, subst}
use Rattle.std.specs.Prelude.{nat_lt}
use Rattle.std.specs.List.{AllByRecursion}
use Rattle.std.proofs.lemmas.Bool.{cases_lt}
use Rattle.raft_spec.specs.Log.{Entry, nth_term, term_at}
use Rattle.raft_spec.specs.Node as rules
use Rattle.raft_spec.specs.Node.{Node, Server}
use Rattle.raft_spec.specs.Todo.{Begins, IsBatch}
use Rattle.raft_messages.specs.declared.message.RaftMessage.{RaftMessage}
use Rattle.raft_messages.specs.declared.message.Snapshot.{Snapshot}
use Rattle.raft_messages.specs.declared.message.MessageBody.{MessageBody}
use Rattle.raft_messages.specs.declared.message.MessageBody.TheVariants as whats
use Rattle.raft_messages.specs.Messages.{what_value, message_value}
use Rattle.raft_core.specs.Events.{offered}
use Rattle.raft_core.specs.declared.event.RaftEvent.{RaftEvent}
use Rattle.raft_core.specs.declared.event.RaftEvent.TheVariants as due
use Rattle.store_laws.specs.Store.{Snap}
use Rattle.raft_on_disk.specs.Letters.{Carries, CarriesIn, Tells}
use Rattle.raft_on_disk.specs.Mails.{all_posted}
use Rattle.applied_state.specs.Snapshot.{NodeSnapshot}
use Rattle.node_core.specs.declared.links.Link.{Link}
use Rattle.node_core.specs.Core.{Core, looked, showing_servers, won, has_lost, losing, leaving, ended, followed, are_others, replaced}
use Rattle.node_core.specs.Exact.{step_of, snap_by, ChangesFrom, ExactStep, ExactTold, told_behind, ExactFollow, ExactInstall, puts, brings, index_of, OnOffered, OnPut, ExactRaft, change_for, ExactOwnStep, ExactCompaction, own_event, own_snap}

-- ---- messages

abbrev snapshot_of : Snap → Snapshot
snapshot_of s = record { index = s.index; term = s.term; bytes = s.bytes }

-- what a message of the rules says, with this snapshot
abbrev back_what : Snap → rules.What → MessageBody
back_what kept (rules.AskVote last transfer) = whats.AskVote last transfer
back_what kept (rules.Vote granted) = whats.Vote granted
back_what kept (rules.Append prev commit entries) = whats.Append prev commit entries
back_what kept (rules.Ack good index) = whats.Ack good index
back_what kept (rules.Install last front) = whats.Install (snapshot_of kept)
back_what kept rules.TimeoutNow = whats.TimeoutNow

abbrev back : Snap → rules.Message → RaftMessage
back kept m = record { from = m.from; to = m.to; term = m.term; what = back_what kept m.what }

what_back : (kept : Snap) (w : MessageBody) → Carries kept w → back_what kept (what_value w) ≡ w
what_back kept (whats.AskVote last transfer) e = refl
what_back kept (whats.Vote granted) e = refl
what_back kept (whats.Append prev commit entries) e = refl
what_back kept (whats.Ack good index) e = refl
what_back kept (whats.Install s) e = ap (λ (k : Snap). whats.Install (snapshot_of k)) (sym e)
what_back kept whats.TimeoutNow e = refl

messages_back : (kept : Snap) (ms : List RaftMessage) → AllByRecursion (CarriesIn kept) ms → map (back kept) (map message_value ms) ≡ ms
messages_back kept [] h = refl
messages_back kept (m ∷ ms) h = λ i. record { from = m.from; to = m.to; term = m.term; what = what_back kept m.what h.0 i } ∷ messages_back kept ms h.1 i

-- What a step says fixes its messages.
tells_same : (out : List rules.Message) (kept : Snap) (ms ns : List RaftMessage) → Tells out kept ms → Tells out kept ns → ms ≡ ns
tells_same out kept ms ns p q = sym (messages_back kept ms p.carries) ∙ ap (map (back kept)) (p.says ∙ sym q.says) ∙ messages_back kept ns q.carries

-- ---- from where the log has changed

nth_front : (log : List Entry) (n k : ℕ) → k < n → nth_term (take n log) k ≡ nth_term log k
nth_front log zero k l = absurd (omega arith)
nth_front [] (suc n) k l = refl
nth_front (e ∷ es) (suc n) zero l = refl
nth_front (e ∷ es) (suc n) (suc k) l = nth_front es n k (omega arith)

term_front : (log : List Entry) (n at : ℕ) → at ≤ n → term_at (take n log) at ≡ term_at log at
unfolding term_at
term_front log n zero l = refl
term_front log n (suc k) l = nth_front log n k (omega arith)

-- not from an earlier index too
earlier : (commit : ℕ) (old new : List Entry) (one other : ℕ) → Begins commit old new one → Begins commit old new other → one < other → ⊥
earlier commit old new one other p q l =
    let before : one ≤ other - 1 = let past = q.past in omega arith in
    let same : term_at old one ≡ term_at new one =
    sym (term_front old (other - 1) one before) ∙ ap (λ (log : List Entry). term_at log one) (sym q.same) ∙ term_front new (other - 1) one before in
    elim p.differs [
      | inl last ↦ let next = q.next in omega arith
      | inr differs ↦ differs same
    ]

unchanged : (commit : ℕ) (old new : List Entry) (first : ℕ) → new ≡ old → Begins commit old new first → ⊥
unchanged commit old new first e b = elim b.differs [
  | inl last ↦ let within = b.within in let count : length new ≡ length old = ap (λ (log : List Entry). length log) e in omega arith
  | inr differs ↦ differs (ap (λ (log : List Entry). term_at log first) (sym e))
]

batch_same : (commit : ℕ) (old new : List Entry) (x y : Option ℕ) → IsBatch commit old new x → IsBatch commit old new y → x ≡ y
batch_same commit old new None None p q = refl
batch_same commit old new None (Some first) p q = absurd (unchanged commit old new first p q)
batch_same commit old new (Some first) None p q = absurd (unchanged commit old new first q p)
batch_same commit old new (Some one) (Some other) p q =
    let same : one ≡ other = elim (cases_lt one other) [
      | inl less ↦ absurd (earlier commit old new one other p q less)
      | inr more ↦ elim (cases_lt other one) [
        | inl less ↦ absurd (earlier commit old new other one q p less)
        | inr least ↦ omega arith
      ]
    ] in
    ap (λ (n : ℕ). Some n) same

changes_same : (came : Bool) (s t : Node) (x y : Option ℕ) → ChangesFrom came s t x → ChangesFrom came s t y → x ≡ y
changes_same true s t x y p q = p ∙ sym q
changes_same false s t x y p q = batch_same s.commit s.log t.log x y p q

-- ---- a step of Raft

step_same : (event : RaftEvent) (x y : Option ℕ) (w v u : Core) → ExactStep event x w v → ExactStep event y w u → (x ≡ y) × (v ≡ u)
step_same event x y w v u p q = (
  changes_same (nat_lt w.raft.commit (step_of w event).node.snapshot.index) w.raft (step_of w event).node x y p.moved q.moved,
  p.is
      ∙ ap (λ (ms : List RaftMessage). record w { raft = (step_of w event).node; snap = snap_by w event; mail = all_posted w.mail ms }) (tells_same (step_of w event).out (snap_by w event) p.posted q.posted p.tells q.tells)
      ∙ sym q.is,
)

told_same : (o : Option (List Server)) (w v u : Core) → ExactTold o w v → ExactTold o w u → v ≡ u
told_same None w v u p q = p ∙ sym q
told_same (Some servers) w v u p q = (step_same (due.Servers servers) p.0 q.0 w v u p.1 q.1).1

-- if the same is told of the same
told_alike : (o r : Option (List Server)) (w x v u : Core) → r ≡ o → x ≡ w → ExactTold o w v → ExactTold r x u → v ≡ u
told_alike o r w x v u e f p q =
    told_same o w v u p (subst (λ (s : Option (List Server)). ExactTold s w u) e (subst (λ (z : Core). ExactTold r z u) f q))

-- ---- an event from outside

abbrev following : Option ℕ → Core → Core
following batch mid = followed batch (ended mid)

abbrev telling : Option ℕ → Core → Option (List Server)
telling batch mid = told_behind (are_others batch (ended mid)) (following batch mid)

follows_same : (event : RaftEvent) (w v u : Core) → ExactFollow event w v → ExactFollow event w u → v ≡ u
follows_same event w v u p q =
    let s = step_same event q.batch p.batch w q.mid p.mid q.steps p.steps in
    let last : p.last ≡ q.last =
    told_alike (telling p.batch p.mid) (telling q.batch q.mid) (following p.batch p.mid) (following q.batch q.mid) p.last q.last (λ i. telling (s.0 i) (s.1 i)) (λ i. following (s.0 i) (s.1 i)) p.tells q.tells in
    p.is ∙ ap (λ (z : Core). looked (won z)) last ∙ sym q.is

abbrev installing : ℕ → NodeSnapshot → Core → Core
installing index s mid = replaced index s (losing (ended mid))

installs_same : (event : RaftEvent) (index : ℕ) (s : NodeSnapshot) (w v u : Core) → ExactInstall event index s w v → ExactInstall event index s w u → v ≡ u
installs_same event index s w v u p q =
    let e = (step_same event q.batch p.batch w q.mid p.mid q.steps p.steps).1 in
    let last : p.last ≡ q.last =
    told_alike (told_behind true (installing index s p.mid)) (told_behind true (installing index s q.mid)) (installing index s p.mid) (installing index s q.mid) p.last q.last
    (ap (λ (z : Core). told_behind true (installing index s z)) e) (ap (installing index s) e) p.tells q.tells in
    p.is ∙ ap (λ (z : Core). showing_servers z) last ∙ sym q.is

offered_same : (event : RaftEvent) (o : Option NodeSnapshot) (w v u : Core) → OnOffered event o w v → OnOffered event o w u → v ≡ u
offered_same event None w v u p q = p ∙ sym q
offered_same event (Some s) w v u p q = installs_same event (index_of (offered event)) s w v u p q

put_same : (event : RaftEvent) (b : Bool) (w v u : Core) → OnPut event b w v → OnPut event b w u → v ≡ u
put_same event false w v u p q = follows_same event w v u p q
put_same event true w v u p q = offered_same event (brings w (offered event)) w v u p q

pub raft_same : (event : RaftEvent) (w v u : Core) → ExactRaft event w v → ExactRaft event w u → v ≡ u
raft_same event w v u p q = put_same event (puts event w) w v u p q

-- ---- what the node gives Raft, and an own snapshot

pub own_same : (event : RaftEvent) (w v u : Core) → ExactOwnStep event w v → ExactOwnStep event w u → v ≡ u
own_same event w v u p q =
    let mid : q.mid ≡ p.mid = told_same (change_for event w.raft.role) w q.mid p.mid q.tells p.tells in
    let s = step_same event p.batch q.batch p.mid p.last q.last p.steps (subst (λ (z : Core). ExactStep event q.batch z q.last) mid q.steps) in
    p.is ∙ (λ i. looked (followed (s.0 i) (s.1 i))) ∙ sym q.is

pub compacts_same : (w v u : Core) → ExactCompaction w v → ExactCompaction w u → v ≡ u
compacts_same w v u p q =
    p.is
    ∙ ap (λ (ms : List RaftMessage). looked (record w { raft = (step_of w (own_event w)).node; snap = own_snap w; mail = all_posted w.mail ms }))
    (tells_same (step_of w (own_event w)).out (own_snap w) p.posted q.posted p.tells q.tells)
    ∙ sym q.is

-- ---- what no turn changes

-- peer connections, and whether there are peer connections and readers
abbrev pub beside : Core → List Link × Bool × Bool
beside w = (w.links, w.view.links, w.view.readers)

beside_if : (b : Bool) (x y w : Core) → beside x ≡ beside w → beside y ≡ beside w → beside (cond b x y) ≡ beside w
beside_if true x y w p q = p
beside_if false x y w p q = q

step_beside : (event : RaftEvent) (x : Option ℕ) (w v : Core) → ExactStep event x w v → beside v ≡ beside w
step_beside event x w v p = ap beside p.is

told_beside : (o : Option (List Server)) (w v : Core) → ExactTold o w v → beside v ≡ beside w
told_beside None w v p = ap beside p
told_beside (Some servers) w v p = step_beside (due.Servers servers) p.0 w v p.1

ended_beside : (w : Core) → beside (ended w) ≡ beside w
ended_beside w = beside_if (has_lost w.office w.raft) (losing (leaving w)) w w refl refl

followed_beside : (batch : Option ℕ) (w : Core) → beside (followed batch w) ≡ beside w
followed_beside None w = refl
followed_beside (Some first) w = refl

follows_beside : (event : RaftEvent) (w v : Core) → ExactFollow event w v → beside v ≡ beside w
follows_beside event w v p =
    ap beside p.is ∙ told_beside (telling p.batch p.mid) (following p.batch p.mid) p.last p.tells ∙ followed_beside p.batch (ended p.mid) ∙ ended_beside p.mid ∙ step_beside event p.batch w p.mid p.steps

installs_beside : (event : RaftEvent) (index : ℕ) (s : NodeSnapshot) (w v : Core) → ExactInstall event index s w v → beside v ≡ beside w
installs_beside event index s w v p =
    ap beside p.is ∙ told_beside (told_behind true (installing index s p.mid)) (installing index s p.mid) p.last p.tells ∙ ended_beside p.mid ∙ step_beside event p.batch w p.mid p.steps

offered_beside : (event : RaftEvent) (o : Option NodeSnapshot) (w v : Core) → OnOffered event o w v → beside v ≡ beside w
offered_beside event None w v p = ap beside p
offered_beside event (Some s) w v p = installs_beside event (index_of (offered event)) s w v p

put_beside : (event : RaftEvent) (b : Bool) (w v : Core) → OnPut event b w v → beside v ≡ beside w
put_beside event false w v p = follows_beside event w v p
put_beside event true w v p = offered_beside event (brings w (offered event)) w v p

pub raft_beside : (event : RaftEvent) (w v : Core) → ExactRaft event w v → beside v ≡ beside w
raft_beside event w v p = put_beside event (puts event w) w v p

pub own_beside : (event : RaftEvent) (w v : Core) → ExactOwnStep event w v → beside v ≡ beside w
own_beside event w v p =
    ap beside p.is ∙ followed_beside p.batch p.last ∙ step_beside event p.batch p.mid p.last p.steps ∙ told_beside (change_for event w.raft.role) w p.mid p.tells

pub compacts_beside : (w v : Core) → ExactCompaction w v → beside v ≡ beside w
compacts_beside w v p = ap beside p.is
