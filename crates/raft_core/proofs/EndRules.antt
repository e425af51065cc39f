-- How a step ends whose rule cuts off the log: the code's node has cut it off before.
use Rattle.std.proofs.Common.{◌≡◌, ℕ, ◌-◌, ◌<◌, ◌≤◌, List, [], ◌∷◌, ◌++◌, drop, refl, sym, ap, subst, ◌∙◌, arith}
use Rattle.std.specs.Prelude.{true, false, ◌&&◌, nat_lt, nat_le, max, map}
use Rattle.std.proofs.lemmas.Bool.{cond-true, cond-false}
use Rattle.std.proofs.lemmas.List.{drop_all}
use Rattle.raft_spec.specs.Log.{Entry, LogEnd, term_at, matches}
use Rattle.raft_spec.specs.Node.{Follower, What, AskVote, Vote, Append, Ack, Install, TimeoutNow, Message, Node, Outcome, voters, is_leader}
use Rattle.raft_spec.specs.Outcomes.{quiet, says, answer, as_follower}
use Rattle.raft_spec.specs.Snapshots.{installed, on_install, on_snapped}
use Rattle.raft_spec.specs.Steps.{finish}
use Rattle.raft_spec.specs.Compaction.{compacted, compact, compact_what, compact_message, with_whole_log}
use Rattle.raft_spec.specs.NodeValues.{NodeValue, node_of}
use Rattle.raft_spec.proofs.NodeValues.{compacted_length, compact_node}
use Rattle.raft_safety.specs.Cuts.{Same, AlikeWhat, AlikeMessage, AlikeAll}
use Rattle.raft_safety.proofs.AlikeRules.{Shape, Alike, always}
use Rattle.raft_safety.proofs.AlikeSteps.{finish_alike}
use Rattle.raft_safety.proofs.Cuts.{forget_same}
use Rattle.raft_core.specs.declared.effects.Say.TheVariants as say
use Rattle.raft_core.specs.declared.effects.Recipients.TheVariants as sent
use Rattle.raft_core.specs.declared.effects.LogChange.TheVariants as changes
use Rattle.raft_core.specs.declared.effects.Say.{Say}
use Rattle.raft_core.specs.declared.effects.Effects.{Effects}
use Rattle.raft_core.specs.Effects.{outcome_of, Does}
use Rattle.raft_core.specs.Nodes.{told}
use Rattle.raft_core.specs.Steps.{compact_outcome, Ends, compacted_at}
use Rattle.raft_core.proofs.VoteRules.{only_says}
use Rattle.raft_core.proofs.TakenLogs.{rest_of}

-- this is said, and a snapshot has come that ends there
abbrev pub says_installed : Say → LogEnd → Effects
says_installed say last = record { say = say; recipients = sent.Nobody; change = changes.Installed last }

-- a rule that cuts nothing off
pub ends_of : (h now : NodeValue) (d : Outcome) (e : Effects) → Does h d now e → Ends h d now e
ends_of h now d e x = record { id = x.id; servers = x.servers; same = ap (λ d. compact_outcome (finish (told h) h.id d)) x.outcome }

pub ends_are : (h now : NodeValue) (d : Outcome) (e e' : Effects) → e ≡ e' → Ends h d now e' → Ends h d now e
ends_are h now d e e' is x = subst (λ (e : Effects). Ends h d now e) (sym is) x

-- who doesn't lead ends a step at once
pub finish_stays : (voters_of : List Entry → List ℕ) (me : ℕ) (d : Outcome) → is_leader d.node.role ≡ false → finish voters_of me d ≡ d
unfolding finish
finish_stays voters_of me d e = cond-false (is_leader d.node.role) _ d e

-- ---- snapshots that come

-- the node that follows and has installed the snapshot, with this log
abbrev has_installed : NodeValue → ℕ → LogEnd → List Entry → Node
has_installed h from last log = installed (as_follower (node_of h) from) last log

-- its value, with these entries past the snapshot
abbrev pub holds_installed : NodeValue → ℕ → LogEnd → List Entry → NodeValue
holds_installed h from last es = record h { role = Follower; leader = from; entries = es; commit = last.index; snapshot = last; base = last.index }

install_ends : (h : NodeValue) (from : ℕ) (last : LogEnd) (log es : List Entry) → drop last.index log ≡ es → Ends h (says (has_installed h from last log) (answer h.id (as_follower (node_of h) from) from (Ack true last.index))) (holds_installed h from last es) (says_installed (say.Ack from true last.index) last)
install_ends h from last log es rest =
    let now = holds_installed h from last es in
    let d : Outcome = says (has_installed h from last log) (answer h.id (as_follower (node_of h) from) from (Ack true last.index)) in
    let e : Outcome = outcome_of now (says_installed (say.Ack from true last.index) last) in
    let node : compact (has_installed h from last log) ≡ compact (node_of now) = ap (λ l. has_installed h from last (compacted last last.index ++ l)) rest ∙ sym (compact_node now) in
    record {
      id = refl;
      servers = refl;
      same = ap compact_outcome (finish_stays (told h) h.id d refl) ∙ (λ k. says (node k) (answer h.id (as_follower (node_of h) from) from (Ack true last.index))) ∙ sym (ap compact_outcome (finish_stays (told h) h.id e refl));
    }

pub install_leads : (h : NodeValue) (from : ℕ) (last : LogEnd) (front : List Entry) → is_leader h.role ≡ true → Ends h (on_install h.id (node_of h) from last front) h (only_says say.Nothing)
unfolding on_install
install_leads h from last front e = ends_of h h _ _ (record { id = refl; servers = refl; outcome = cond-true (is_leader h.role) _ _ e; log = (refl, refl) })

pub install_old : (h now : NodeValue) (from : ℕ) (last : LogEnd) (front : List Entry) → is_leader h.role ≡ false → nat_le last.index h.commit ≡ true → now ≡ record h { role = Follower; leader = from } → Ends h (on_install h.id (node_of h) from last front) now (only_says (say.Ack from true last.index))
unfolding on_install
install_old h now from last front e old is = subst (λ (m : NodeValue). Ends h (on_install h.id (node_of h) from last front) m (only_says (say.Ack from true last.index))) (sym is)
    (ends_of h (record h { role = Follower; leader = from }) _ _ (record { id = refl; servers = refl; outcome = cond-false (is_leader h.role) _ _ e ∙ cond-true (nat_le last.index h.commit) _ _ old; log = (refl, refl) }))

same_rule : (h now : NodeValue) (d d' : Outcome) (e : Effects) → d ≡ d' → Ends h d' now e → Ends h d now e
same_rule h now d d' e is x = subst (λ (d : Outcome). Ends h d now e) (sym is) x

pub install_keeps : (h mid now : NodeValue) (from : ℕ) (last : LogEnd) (front : List Entry) → h.base ≤ last.index → is_leader h.role ≡ false → nat_le last.index h.commit ≡ false → matches (node_of h).log last ≡ true → mid ≡ record h { role = Follower; leader = from } → now ≡ record mid { entries = drop (last.index - mid.base) mid.entries; commit = last.index; snapshot = last; base = last.index } → Ends h (on_install h.id (node_of h) from last front) now (says_installed (say.Ack from true last.index) last)
unfolding on_install
install_keeps h mid now from last front low e new has at is =
    let whole : now ≡ holds_installed h from last (drop (last.index - h.base) h.entries) = is ∙ ap (λ (m : NodeValue). record m { entries = drop (last.index - m.base) m.entries; commit = last.index; snapshot = last; base = last.index }) at in
    subst (λ (m : NodeValue). Ends h (on_install h.id (node_of h) from last front) m (says_installed (say.Ack from true last.index) last)) (sym whole)
    (same_rule h _ _ _ _ (cond-false (is_leader h.role) _ _ e ∙ cond-false (nat_le last.index h.commit) _ _ new ∙ cond-true (matches (node_of h).log last) _ _ has) (install_ends h from last (node_of h).log (drop (last.index - h.base) h.entries) (rest_of h last.index low)))

pub install_replaces : (h mid now : NodeValue) (from : ℕ) (last : LogEnd) → is_leader h.role ≡ false → nat_le last.index h.commit ≡ false → matches (node_of h).log last ≡ false → mid ≡ record h { role = Follower; leader = from } → now ≡ record mid { entries = []; commit = last.index; snapshot = last; base = last.index } → Ends h (on_install h.id (node_of h) from last (compacted last last.index)) now (says_installed (say.Ack from true last.index) last)
unfolding on_install
install_replaces h mid now from last e new has at is =
    let whole : now ≡ holds_installed h from last [] = is ∙ ap (λ (m : NodeValue). record m { entries = []; commit = last.index; snapshot = last; base = last.index }) at in
    let n = compacted_length last last.index in
    subst (λ (m : NodeValue). Ends h (on_install h.id (node_of h) from last (compacted last last.index)) m (says_installed (say.Ack from true last.index) last)) (sym whole)
    (same_rule h _ _ _ _ (cond-false (is_leader h.role) _ _ e ∙ cond-false (nat_le last.index h.commit) _ _ new ∙ cond-false (matches (node_of h).log last) _ _ has) (install_ends h from last (compacted last last.index) [] (drop_all last.index (compacted last last.index) (omega arith))))

-- ---- own snapshots

same_what : (v w : What) → AlikeWhat v w → compact_what v ≡ compact_what w
same_what (Install last front) w a = sym (ap compact_what a.1)
same_what (AskVote last transfer) w a = sym (ap compact_what a)
same_what (Vote granted) w a = sym (ap compact_what a)
same_what (Append prev commit es) w a = sym (ap compact_what a)
same_what (Ack good index) w a = sym (ap compact_what a)
same_what TimeoutNow w a = sym (ap compact_what a)

same_message : (m k : Message) → AlikeMessage m k → compact_message m ≡ compact_message k
same_message m k a = λ i. record { from = (sym a.from) i; to = (sym a.to) i; term = (sym a.term) i; what = (same_what m.what k.what a.what) i }

same_messages : (ms ks : List Message) → AlikeAll ms ks → map compact_message ms ≡ map compact_message ks
same_messages [] ks a = ap (map compact_message) (sym a)
same_messages (m ∷ ms) ks a =
    let one = same_message m a.0 a.3 in
    let rest = same_messages ms a.1 a.4 in
    (λ i. one i ∷ rest i) ∙ ap (map compact_message) (sym a.2)

-- outcomes that differ in what is compacted alone show the same
same_outcome : (voters_of : List Entry → List ℕ) (ids : List ℕ) (d e : Outcome) → Alike voters_of ids d e → compact_outcome d ≡ compact_outcome e
same_outcome voters_of ids d e a =
    let node : compact d.node ≡ compact e.node = ap (λ l. with_whole_log d.node (compacted d.node.snapshot d.node.base ++ l)) a.same.rest ∙ ap compact (sym a.node) in
    let out = same_messages d.out e.out a.out in
    λ i. record { node = node i; out = out i; recipients = (sym a.recipients) i }

pub snapped_ignored : (h : NodeValue) (i : ℕ) → (nat_lt h.snapshot.index i && nat_le i h.commit) ≡ false → Ends h (on_snapped (node_of h) i) h (only_says say.Nothing)
unfolding on_snapped
snapped_ignored h i e = ends_of h h _ _ (record { id = refl; servers = refl; outcome = cond-false (nat_lt h.snapshot.index i && nat_le i h.commit) _ _ e; log = (refl, refl) })

-- the node of the rules that has taken the snapshot
abbrev snapped_node : NodeValue → ℕ → Node
snapped_node h i = record (node_of h) { snapshot = record { index = i; term = term_at (node_of h).log i }; base = max h.base (i - 16) }

pub snapped_ends : (h now : NodeValue) (i : ℕ) → Shape (node_of h) → (nat_lt h.snapshot.index i && nat_le i h.commit) ≡ true → h.snapshot.index < i → i ≤ h.commit → now ≡ compacted_at h i → Ends h (on_snapped (node_of h) i) now (only_says say.Nothing)
unfolding on_snapped
snapped_ends h now i sh may lt le is =
    let s = snapped_node h i in
    let b = max h.base (i - 16) in
    let a = sh.low in
    let p = sh.applied in
    let w = sh.within in
    let ys = compacted s.snapshot s.base ++ drop s.base s.log in
    let size : i - 16 - h.base ≡ b - h.base = omega arith in
    let node : node_of (compacted_at h i) ≡ with_whole_log s ys = ap (λ n. with_whole_log s (compacted s.snapshot s.base ++ drop n h.entries)) size ∙ ap (λ l. with_whole_log s (compacted s.snapshot s.base ++ l)) (sym (rest_of h b (omega arith))) in
    let forget : Same s.base s.snapshot.index s.log ys = forget_same s.base s.snapshot s.log (omega arith) (omega arith) refl in
    let alike : Alike (told h) (voters h.servers) (quiet s) (outcome_of (compacted_at h i) (only_says say.Nothing)) = record { log = ys; node = node; same = forget; out = refl; recipients = refl; sees = λ l. refl } in
    let ended = finish_alike h.id (quiet s) (outcome_of (compacted_at h i) (only_says say.Nothing)) (record { low = omega arith; applied = le; within = w }) alike in
    subst (λ (m : NodeValue). Ends h (on_snapped (node_of h) i) m (only_says say.Nothing)) (sym is) (record {
      id = refl;
      servers = refl;
      same = ap (λ d. compact_outcome (finish (told h) h.id d)) (cond-true (nat_lt h.snapshot.index i && nat_le i h.commit) _ _ may) ∙ same_outcome (told h) (voters h.servers) (finish (told h) h.id (quiet s)) (finish (always (voters h.servers)) h.id (outcome_of (compacted_at h i) (only_says say.Nothing))) ended;
    })
