-- The commit index of one step.
use Rattle.std.proofs.Common.{◌∷◌, ◌+◌, ◌++◌, length-append, ◌≡◌, ◌⊎◌, inl, inr, ℕ, zero, suc, ◌<◌, ◌≤◌, true, false, Bool, List, [], length, refl, sym, ap, ◌∙◌, subst, ⊎_elim, arith, true≢false}
use Rattle.std.specs.Prelude.{nat_lt, nat_le, ◌&&◌, not, ◌==◌}
use Rattle.std.proofs.lemmas.Bool.{cond-true, eq-eqb, le-leb, lt-ltb, and_from, cond_both, cases_lt, ltb-true, ltb-false, leb-false}
use Rattle.raft_spec.specs.Log.{Entry, LogEnd, matches, term_at}
use Rattle.raft_spec.specs.Node.{Everyone, What, AskVote, Vote, Append, Ack, Install, TimeoutNow, Message, Node, Outcome, among, peers, majority}
use Rattle.raft_spec.specs.Node.{is_leader, is_candidate, LocalEvent, Timeout, Beat, Yield, Propose, Transfer, Snapped, UseServers, Input, Local, Receive}
use Rattle.raft_spec.specs.Outcomes.{sends_to, with_log, with_term, quiet, in_newer_term, with_grants}
use Rattle.raft_spec.specs.Elections.{as_candidate, grants_with, on_grants, may_start_election, on_yield, start_election, grants_vote, on_ask_vote, on_vote}
use Rattle.raft_spec.specs.Replication.{take_entries, agrees, replaces_committed, on_append, on_ack, on_propose, on_beat, on_transfer}
use Rattle.raft_spec.specs.Snapshots.{on_install, on_snapped}
use Rattle.raft_spec.specs.Membership.{on_servers}
use Rattle.raft_spec.specs.Commitment.{has, majority_stores, commit_below, commit_index, is_stored_by_majority, commit_up_to}
use Rattle.raft_spec.specs.Receiving.{on_own_term, on_older_term, in_range, on_message}
use Rattle.raft_spec.specs.Steps.{advance_commit, sends, finish, serve, raft_step}
use Rattle.raft_safety.specs.Members.{voters_after, may_take, member_step}
use Rattle.raft_safety.specs.Commits.{CurrentVotersCommit, Serves, AloneCommits, Exact, LeaderCommit, CommitBy, CommitOf, OtherCommit}
use Rattle.std.proofs.lemmas.List.{length-map}
use Rattle.raft_safety.proofs.Logs.{term_at-new}
use Rattle.raft_safety.proofs.Majorities.{count_yes}
use Rattle.raft_safety.proofs.Reaches.{off}
use Rattle.raft_safety.proofs.Shapes.{rule_of, index_up}

below_exact : (voters_of : List Entry → List ℕ) (me : ℕ) (s : Node) (n : ℕ) → ((commit_below voters_of me s n ≡ s.commit) ⊎ ((s.commit < commit_below voters_of me s n) × (commit_below voters_of me s n ≤ n) × (majority_stores voters_of me s (commit_below voters_of me s n) ≡ true))) × ((k : ℕ) → s.commit < k → commit_below voters_of me s n < k → k ≤ n → majority_stores voters_of me s k ≡ false)
unfolding commit_below commit_up_to majority_stores
below_exact voters_of me s zero = (inl refl, λ k a b c. absurd (omega arith))
below_exact voters_of me s (suc n) =
    let ih = below_exact voters_of me s n in
    let P : ℕ → Type 0 = λ c. ((c ≡ s.commit) ⊎ ((s.commit < c) × (c ≤ suc n) × (majority_stores voters_of me s c ≡ true))) × ((k : ℕ) → s.commit < k → c < k → k ≤ suc n → majority_stores voters_of me s k ≡ false) in
    cond_both (nat_lt s.commit (suc n)) _ _ P
    (λ t. cond_both (majority_stores voters_of me s (suc n)) _ _ P
    (λ u. let lt : s.commit < suc n = ltb-true _ _ t in (inr (lt, omega arith, u), λ k a b c. absurd (omega arith)))
    (λ u. (
      ⊎_elim (λ (x : commit_below voters_of me s n ≡ s.commit). inl x) (λ (x : (s.commit < commit_below voters_of me s n) × (commit_below voters_of me s n ≤ n) × (majority_stores voters_of me s (commit_below voters_of me s n) ≡ true)). inr (x.0, omega (arith, x.1), x.2)) ih.0,
      λ k a b c. ⊎_elim (λ (y : k < suc n). ih.1 k a b (omega arith)) (λ (y : suc n ≤ k). let q : k ≡ suc n = omega arith in ap (majority_stores voters_of me s) q ∙ u) (cases_lt k (suc n)),
    )))
    (λ t. (inl refl, λ k a b c. absurd (let ge = ltb-false _ _ t in omega arith)))

pub exact : (voters_of : List Entry → List ℕ) (me : ℕ) (s : Node) (n : ℕ) → n ≡ length s.log → ((commit_below voters_of me s n ≡ s.commit) ⊎ ((s.commit < commit_below voters_of me s n) × (commit_below voters_of me s n ≤ length s.log) × (majority_stores voters_of me s (commit_below voters_of me s n) ≡ true))) × ((k : ℕ) → s.commit < k → commit_below voters_of me s n < k → k ≤ length s.log → majority_stores voters_of me s k ≡ false)
exact voters_of me s n e = subst (λ m. ((commit_below voters_of me s n ≡ s.commit) ⊎ ((s.commit < commit_below voters_of me s n) × (commit_below voters_of me s n ≤ m) × (majority_stores voters_of me s (commit_below voters_of me s n) ≡ true))) × ((k : ℕ) → s.commit < k → commit_below voters_of me s n < k → k ≤ m → majority_stores voters_of me s k ≡ false)) e (below_exact voters_of me s n)

-- the rule of an input leaves a leader's commit index, and moves another's as it may
record Moves (old : ℕ) (w : ℕ → ℕ → Type 0) (d : Outcome) : Type 0 where
  leads : is_leader d.node.role ≡ true → d.node.commit ≡ old
  other : w old d.node.commit

abbrev Keeps : ℕ → Outcome → Type 0
Keeps old d = d.node.commit ≡ old

counted_keeps : (voters_of : List Entry → List ℕ) (me : ℕ) (s : Node) (out : List Message) → Keeps s.commit (on_grants voters_of me s out)
unfolding on_grants
counted_keeps voters_of me s out = cond_both (majority (voters_of s.log) (among s.grants)) _ _ (Keeps s.commit) (λ e. refl) (λ e. refl)

stand_keeps : (transfer : Bool) (voters_of : List Entry → List ℕ) (me : ℕ) (s : Node) → Keeps s.commit (start_election voters_of me s transfer)
unfolding start_election
stand_keeps transfer voters_of me s = cond_both (may_start_election voters_of me s) _ _ (Keeps s.commit) (λ e. counted_keeps voters_of me (as_candidate me s) _) (λ e. refl)

on_ask_keeps : (me : ℕ) (s : Node) (from : ℕ) (last : LogEnd) → Keeps s.commit (on_ask_vote me s from last)
unfolding on_ask_vote
on_ask_keeps me s from last = cond_both (grants_vote s from last) _ _ (Keeps s.commit) (λ e. refl) (λ e. refl)

on_vote_keeps : (voters_of : List Entry → List ℕ) (me : ℕ) (s : Node) (from : ℕ) (granted : Bool) → Keeps s.commit (on_vote voters_of me s from granted)
unfolding on_vote
on_vote_keeps voters_of me s from granted = cond_both (granted && is_candidate s.role) _ _ (Keeps s.commit) (λ e. counted_keeps voters_of me (with_grants s (grants_with (voters_of s.log) s.grants from)) []) (λ e. refl)

on_ack_keeps : (me : ℕ) (s : Node) (from : ℕ) (good : Bool) (index : ℕ) → Keeps s.commit (on_ack me s from good index)
unfolding on_ack
on_ack_keeps me s from true index = cond_both (is_leader s.role && among (peers s.servers me) from && nat_le index (length s.log)) _ _ (Keeps s.commit) (λ e. refl) (λ e. refl)
on_ack_keeps me s from false index = cond_both (is_leader s.role && among (peers s.servers me) from) _ _ (Keeps s.commit) (λ e. refl) (λ e. refl)

on_append_moves : (me : ℕ) (s : Node) (from : ℕ) (prev : LogEnd) (commit : ℕ) (es : List Entry) → Moves s.commit (CommitBy (Append prev commit es)) (on_append me s from prev commit es)
unfolding on_append take_entries
on_append_moves me s from prev commit es =
    let M = Moves s.commit (CommitBy (Append prev commit es)) in
    cond_both (is_leader s.role) _ _ M (λ e. record { leads = λ l. refl; other = inl refl })
    (λ e. cond_both (agrees s prev) _ _ M
    (λ x. cond_both (replaces_committed s prev es) _ _ M (λ y. record { leads = λ l. refl; other = inl refl }) (λ y. record { leads = λ l. off l; other = inr refl }))
    (λ x. record { leads = λ l. refl; other = inl refl }))

on_install_moves : (me : ℕ) (s : Node) (from : ℕ) (last : LogEnd) (front : List Entry) → Moves s.commit (CommitBy (Install last front)) (on_install me s from last front)
unfolding on_install
on_install_moves me s from last front =
    let M = Moves s.commit (CommitBy (Install last front)) in
    cond_both (is_leader s.role) _ _ M (λ e. record { leads = λ l. refl; other = inl refl })
    (λ e. cond_both (nat_le last.index s.commit) _ _ M (λ x. record { leads = λ l. refl; other = inl refl })
    (λ x.
    let lt : s.commit < last.index = leb-false _ _ x in
    cond_both (matches s.log last) _ _ M (λ y. record { leads = λ l. off l; other = inr (lt, refl) }) (λ y. record { leads = λ l. off l; other = inr (lt, refl) })))

in_turn_moves : (voters_of : List Entry → List ℕ) (me : ℕ) (s : Node) (from : ℕ) (w : What) → Moves s.commit (CommitBy w) (on_own_term voters_of me s from w)
in_turn_moves voters_of me s from (AskVote last transfer) = record { leads = λ l. on_ask_keeps me s from last; other = on_ask_keeps me s from last }
in_turn_moves voters_of me s from (Vote granted) = record { leads = λ l. on_vote_keeps voters_of me s from granted; other = on_vote_keeps voters_of me s from granted }
in_turn_moves voters_of me s from (Append prev commit es) = on_append_moves me s from prev commit es
in_turn_moves voters_of me s from (Ack good index) = record { leads = λ l. on_ack_keeps me s from good index; other = on_ack_keeps me s from good index }
in_turn_moves voters_of me s from (Install last front) = on_install_moves me s from last front
in_turn_moves voters_of me s from TimeoutNow = record { leads = λ l. stand_keeps true voters_of me s; other = stand_keeps true voters_of me s }

still_moves : (s : Node) (w : What) (d : Outcome) → d.node.commit ≡ s.commit → Moves s.commit (CommitBy w) d
still_moves s (AskVote last transfer) d e = record { leads = λ l. e; other = e }
still_moves s (Vote granted) d e = record { leads = λ l. e; other = e }
still_moves s (Append prev commit es) d e = record { leads = λ l. e; other = inl e }
still_moves s (Ack good index) d e = record { leads = λ l. e; other = e }
still_moves s (Install last front) d e = record { leads = λ l. e; other = inl e }
still_moves s TimeoutNow d e = record { leads = λ l. e; other = e }

stale_keeps : (me : ℕ) (s : Node) (from : ℕ) (w : What) → Keeps s.commit (on_older_term me s from w)
stale_keeps me s from (AskVote last transfer) = refl
stale_keeps me s from (Vote granted) = refl
stale_keeps me s from (Append prev commit es) = refl
stale_keeps me s from (Ack good index) = refl
stale_keeps me s from (Install last front) = refl
stale_keeps me s from TimeoutNow = refl

on_message_moves : (voters_of : List Entry → List ℕ) (me : ℕ) (s : Node) (m : Message) → Moves s.commit (CommitBy m.what) (on_message voters_of me s m)
unfolding on_message
on_message_moves voters_of me s m =
    let M = Moves s.commit (CommitBy m.what) in
    cond_both (in_range s.term m) _ _ M
    (λ e. cond_both (nat_lt m.term s.term) _ _ M (λ x. still_moves s m.what (on_older_term me s m.from m.what) (stale_keeps me s m.from m.what))
    (λ x. cond_both (nat_lt s.term m.term) _ _ M (λ y. in_turn_moves voters_of me (in_newer_term s m.term) m.from m.what) (λ y. in_turn_moves voters_of me s m.from m.what)))
    (λ e. still_moves s m.what (quiet s) refl)

deed_keeps : (voters_of : List Entry → List ℕ) (me : ℕ) (s : Node) (d : LocalEvent) → Keeps s.commit (rule_of voters_of me s (Local d))
unfolding on_beat on_yield on_propose on_transfer on_snapped on_servers
deed_keeps voters_of me s Timeout = stand_keeps false voters_of me s
deed_keeps voters_of me s Beat = cond_both (is_leader s.role) _ _ (Keeps s.commit) (λ e. refl) (λ e. refl)
deed_keeps voters_of me s Yield = cond_both (is_leader s.role && nat_lt s.term 4294967295) _ _ (Keeps s.commit) (λ e. refl) (λ e. refl)
deed_keeps voters_of me s (Propose es) = cond_both (is_leader s.role) _ _ (Keeps s.commit) (λ e. refl) (λ e. refl)
deed_keeps voters_of me s (Transfer to) = cond_both (is_leader s.role && not (to == me)) _ _ (Keeps s.commit) (λ e. refl) (λ e. refl)
deed_keeps voters_of me s (Snapped i) = cond_both (nat_lt s.snapshot.index i && nat_le i s.commit) _ _ (Keeps s.commit) (λ e. refl) (λ e. refl)
deed_keeps voters_of me s (UseServers servers) = cond_both (is_leader s.role) _ _ (Keeps s.commit) (λ e. refl) (λ e. refl)

rule_moves : (voters_of : List Entry → List ℕ) (me : ℕ) (s : Node) (i : Input) → Moves s.commit (CommitOf i) (rule_of voters_of me s i)
rule_moves voters_of me s (Local d) = record { leads = λ l. deed_keeps voters_of me s d; other = deed_keeps voters_of me s d }
rule_moves voters_of me s (Receive m) = on_message_moves voters_of me s m

-- after the end of a step
finish_exact : (voters_of : List Entry → List ℕ) (me old : ℕ) (d : Outcome) → (is_leader d.node.role ≡ true → d.node.commit ≡ old) → is_leader (finish voters_of me d).node.role ≡ true → Exact voters_of me old (finish voters_of me d).node
unfolding finish commit_index majority_stores is_stored_by_majority
finish_exact voters_of me old d keeps =
    cond_both (is_leader d.node.role) _ _ (λ (e : Outcome). is_leader e.node.role ≡ true → Exact voters_of me old e.node)
    (λ e l.
    let x = exact voters_of me d.node (length d.node.log) refl in
    let k = keeps e in
    let c = commit_index voters_of me d.node in
    let up : d.node.commit ≤ c = index_up voters_of me d.node in
    record {
      is = ⊎_elim (λ (y : c ≡ d.node.commit). inl (y ∙ k)) (λ (y : (d.node.commit < c) × (c ≤ length d.node.log) × (majority_stores voters_of me d.node c ≡ true)). inr (omega (arith, y.0), y.1, y.2)) x.0;
      greatest = λ k lt le. x.1 k (omega arith) lt le;
    })
    (λ e l. absurd (true≢false (sym l ∙ e)))

finish_other : (voters_of : List Entry → List ℕ) (me old : ℕ) (w : ℕ → ℕ → Type 0) (d : Outcome) → w old d.node.commit → is_leader (finish voters_of me d).node.role ≡ false → w old (finish voters_of me d).node.commit
unfolding finish
finish_other voters_of me old w d o =
    cond_both (is_leader d.node.role) _ _ (λ (e : Outcome). is_leader e.node.role ≡ false → w old e.node.commit)
    (λ e l. absurd (true≢false (sym e ∙ l)))
    (λ e l. o)

serve_keeps : (me : ℕ) (d : Outcome) → (serve me d).node.commit ≡ d.node.commit
unfolding serve
serve_keeps me d = cond_both (is_leader d.node.role) _ _ (λ (e : Outcome). e.node.commit ≡ d.node.commit) (λ e. refl) (λ e. refl)

pub leader_commit_holds : LeaderCommit
unfolding raft_step
leader_commit_holds voters_of me s (Local Timeout) l = inl (finish_exact voters_of me s.commit _ (rule_moves voters_of me s (Local Timeout)).leads l)
leader_commit_holds voters_of me s (Local Beat) l = inl (finish_exact voters_of me s.commit _ (rule_moves voters_of me s (Local Beat)).leads l)
leader_commit_holds voters_of me s (Local Yield) l = inl (finish_exact voters_of me s.commit _ (rule_moves voters_of me s (Local Yield)).leads l)
leader_commit_holds voters_of me s (Local (Propose es)) l = inl (finish_exact voters_of me s.commit _ (rule_moves voters_of me s (Local (Propose es))).leads l)
leader_commit_holds voters_of me s (Local (Transfer to)) l = inl (finish_exact voters_of me s.commit _ (rule_moves voters_of me s (Local (Transfer to))).leads l)
leader_commit_holds voters_of me s (Local (Snapped i)) l = inl (finish_exact voters_of me s.commit _ (rule_moves voters_of me s (Local (Snapped i))).leads l)
leader_commit_holds voters_of me s (Local (UseServers servers)) l = inr (tt, serve_keeps me (on_servers me s servers) ∙ (rule_moves voters_of me s (Local (UseServers servers))).other)
leader_commit_holds voters_of me s (Receive m) l = inl (finish_exact voters_of me s.commit _ (rule_moves voters_of me s (Receive m)).leads l)

pub other_commit_holds : OtherCommit
unfolding raft_step
other_commit_holds voters_of me s (Local Timeout) l = finish_other voters_of me s.commit (CommitOf (Local Timeout)) _ (rule_moves voters_of me s (Local Timeout)).other l
other_commit_holds voters_of me s (Local Beat) l = finish_other voters_of me s.commit (CommitOf (Local Beat)) _ (rule_moves voters_of me s (Local Beat)).other l
other_commit_holds voters_of me s (Local Yield) l =
    finish_other voters_of me s.commit (CommitOf (Local Yield)) _ (rule_moves voters_of me s (Local Yield)).other l
other_commit_holds voters_of me s (Local (Propose es)) l = finish_other voters_of me s.commit (CommitOf (Local (Propose es))) _ (rule_moves voters_of me s (Local (Propose es))).other l
other_commit_holds voters_of me s (Local (Transfer to)) l = finish_other voters_of me s.commit (CommitOf (Local (Transfer to))) _ (rule_moves voters_of me s (Local (Transfer to))).other l
other_commit_holds voters_of me s (Local (Snapped i)) l = finish_other voters_of me s.commit (CommitOf (Local (Snapped i))) _ (rule_moves voters_of me s (Local (Snapped i))).other l
other_commit_holds voters_of me s (Local (UseServers servers)) l = serve_keeps me (on_servers me s servers) ∙ (rule_moves voters_of me s (Local (UseServers servers))).other
other_commit_holds voters_of me s (Receive m) l = finish_other voters_of me s.commit (CommitOf (Receive m)) _ (rule_moves voters_of me s (Receive m)).other l

one_voter : (test : ℕ → Bool) (me : ℕ) → test me ≡ true → majority (me ∷ []) test ≡ true
unfolding majority
one_voter test me e = lt-ltb _ _ (let c = count_yes test me [] e in omega arith)

alone_at : (voters_of : List Entry → List ℕ) (me : ℕ) (new : Node) (old : ℕ) → new.commit ≤ old → old < length new.log → term_at new.log (length new.log) ≡ new.term → voters_of new.log ≡ me ∷ [] → commit_index voters_of me new ≡ length new.log
unfolding commit_index majority_stores is_stored_by_majority
alone_at voters_of me new old low some last alone =
    let n = length new.log in
    let c = commit_index voters_of me new in
    let x = exact voters_of me new n refl in
    let test : ℕ → Bool = λ p. nat_le n (has me new p) in
    let mine : test me ≡ true = ap (nat_le n) (cond-true (me == me) n (new.match_of me) (eq-eqb me me refl)) ∙ le-leb n n (omega arith) in
    let has_it : majority_stores voters_of me new n ≡ true = and_from _ _ (eq-eqb _ _ last) (ap (λ v. majority v test) alone ∙ one_voter test me mine) in
    ⊎_elim (λ (l : c < n). absurd (true≢false (sym has_it ∙ x.1 n (omega arith) l (omega arith))))
    (λ (l : n ≤ c). ⊎_elim (λ (e : c ≡ new.commit). absurd (omega arith)) (λ (y : (new.commit < c) × (c ≤ n) × (majority_stores voters_of me new c ≡ true)). let z = y.1 in omega arith) x.0)
    (cases_lt c n)

pub alone_commits_holds : AloneCommits
unfolding raft_step on_propose finish
alone_commits_holds voters_of me s es lead some low alone =
    let new = with_log s (s.log ++ with_term s.term es) s.commit in
    let d = sends_to new Everyone in
    let len : length new.log ≡ length s.log + length es = length-append s.log (with_term s.term es) ∙ ap (λ n. length s.log + n) (length-map es (λ (e : Entry). of_one s.term e)) in
    let at : commit_index voters_of me new ≡ length new.log = alone_at voters_of me new (length s.log) low (omega arith) (term_at-new s.term s.log es (length new.log) (omega arith) (omega arith)) alone in
    ap (λ (x : Outcome). (finish voters_of me x).node.commit) (cond-true (is_leader s.role) d (quiet s) lead) ∙ ap (λ (x : Outcome). x.node.commit) (cond-true (is_leader s.role) (sends me (advance_commit voters_of me d)) d lead) ∙ at ∙ len
  where
    of_one : ℕ → Entry → Entry
    of_one t e = record { term = t; kind = e.kind; bytes = e.bytes }

-- the same for a step of the world that may be made
pub current_voters_commit_holds : CurrentVotersCommit
unfolding member_step
current_voters_commit_holds setup n s i ok l =
    let e : member_step setup n s i ≡ raft_step (voters_after setup) n s i = cond-true (may_take setup s i) (raft_step (voters_after setup) n s i) (quiet s) ok in
    subst (λ (d : Outcome). is_leader d.node.role ≡ true → Exact (voters_after setup) n s.commit d.node ⊎ (Serves i × (d.node.commit ≡ s.commit))) (sym e) (leader_commit_holds (voters_after setup) n s i) l
