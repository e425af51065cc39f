-- The end of a step, as the code's node makes it.
use Rattle.std.proofs.Common.{◌≡◌, ℕ, ◌+◌, ◌-◌, ◌<◌, ◌≤◌, ◌⊎◌, List, [], ◌∷◌, ◌++◌, length, take, drop, refl, sym, ap, ◌∙◌, ⊎_elim, arith, append_assoc, append-nil}
use Rattle.std.specs.Prelude.{slice_index_or, Bool, true, false, cond, ◌&&◌, ◌==◌, nat_lt, nat_le, if◌then◌else◌, Some, None, map}
use Rattle.std.proofs.lemmas.Bool.{cond-true, cond-false, and_cases, leb-false, cases_lt}
use Rattle.std.proofs.lemmas.List.{map-append, take_more}
use Rattle.raft_spec.specs.Log.{Entry, LogEnd, term_at}
use Rattle.raft_spec.specs.Node.{AskVote, Append, Install, Message, Outcome, Recipients, Everyone, others, voters, is_leader}
use Rattle.raft_spec.specs.Commitment.{commit_index, commit_below, commit_up_to}
use Rattle.raft_spec.specs.Snapshots.{needs_snapshot}
use Rattle.raft_spec.specs.Steps.{message_to, receivers, sends, finish}
use Rattle.raft_spec.specs.Progress.{LeaderProgress, next_in, match_in, commit_of}
use Rattle.raft_spec.specs.Compaction.{CutLog, compacted, whole_log, compact, compact_what, compact_message}
use Rattle.raft_spec.specs.NodeValues.{NodeValue, node_of}
use Rattle.raft_spec.proofs.NodeValues.{compact_node, whole_length}
use Rattle.raft_log.specs.Places.{known_term}
use Rattle.raft_log.proofs.PeerTables.{others_append}
use Rattle.raft_safety.specs.Cuts.{Same}
use Rattle.raft_safety.proofs.Logs.{term_at-zero, term_at-past}
use Rattle.raft_safety.proofs.Alikes.{same_at}
use Rattle.raft_safety.proofs.AlikeSteps.{index_alike, bounds}
use Rattle.raft_core.specs.declared.effects.Say.{Say}
use Rattle.raft_core.specs.declared.effects.Say.TheVariants as say
use Rattle.raft_core.specs.declared.effects.Recipients.{Recipients as SentTo}
use Rattle.raft_core.specs.declared.effects.LogChange.TheVariants as changes
use Rattle.raft_core.specs.declared.effects.Effects.{Effects}
use Rattle.raft_core.specs.Effects.{message_in, said_in, said, recipients_value, outcome_of}
use Rattle.raft_core.specs.declared.sending.Outgoing.{Outgoing}
use Rattle.raft_core.specs.Messages.{sents_value}
use Rattle.raft_core.specs.Nodes.{IsLog, told}
use Rattle.raft_core.specs.Steps.{compact_outcome}
use Rattle.raft_core.proofs.WholeLogs.{log_with, log_same, shape_of}

-- ---- the commit index

same_back : {b i : ℕ} {xs ys : List Entry} → Same b i xs ys → Same b i ys xs
same_back s = record { len = sym s.len; rest = sym s.rest; snapshot = sym s.snapshot }

-- the code finds the rules' commit index
pub commit_same : (first : LogEnd) (h : NodeValue) (p : LeaderProgress) → first.index ≡ h.base → IsLog (log_with first h) h.commit h.snapshot → p.own ≡ h.id → p.voters ≡ voters h.servers → p.rows ≡ h.rows → commit_of p (whole_log (log_with first h)) h.term h.commit ≡ commit_index (told h) h.id (node_of h)
unfolding commit_index commit_below
commit_same first h p at ok own counted rows =
    let ys = whole_log (log_with first h) in
    (λ k. commit_up_to ys h.term (counted k) (λ q. cond (q == own k) (length ys) (match_in (rows k) q)) h.commit (length ys))
    ∙ sym (index_alike (told h) (voters h.servers) h.id (node_of h) ys refl (shape_of first h at ok) (same_back (log_same first h at ok)))

-- and what is known of a log still holds with it
pub advanced_log : (first : LogEnd) (h : NodeValue) (commit : ℕ) → first.index ≡ h.base → IsLog (log_with first h) h.commit h.snapshot → commit ≡ commit_index (told h) h.id (node_of h) → IsLog (log_with first h) commit h.snapshot
advanced_log first h commit at ok is =
    let b = bounds (told h) h.id (node_of h) (shape_of first h at ok) in
    let n = whole_length h in
    let up = b.0 in
    let within = b.1 in
    let applied = ok.applied in
    record { low = ok.low; applied = omega arith; within = omega arith; cut = ok.cut }

-- ---- terms

pub known_some : (l : CutLog) (i t : ℕ) → Some t ≡ known_term l i → t ≡ term_at (whole_log l) i
known_some l i t e = at (nat_le l.first.index i && nat_le i (length (whole_log l))) e
  where
    at : (b : Bool) → Some t ≡ (if b then Some (term_at (whole_log l) i) else None) → t ≡ term_at (whole_log l) i
    at true e = cc
    at false e = absurd cc

known_none : (l : CutLog) (i : ℕ) → None ≡ known_term l i → l.first.index ≤ i → length (whole_log l) < i
known_none l i e low = at (nat_le l.first.index i && nat_le i (length (whole_log l))) refl e
  where
    past : (nat_le l.first.index i && nat_le i (length (whole_log l))) ≡ false → length (whole_log l) < i
    past f = ⊎_elim (λ (x : nat_le l.first.index i ≡ false). let z : i < l.first.index = leb-false _ _ x in absurd (omega arith)) (λ (x : nat_le i (length (whole_log l)) ≡ false). leb-false _ _ x) (and_cases _ _ f)

    at : (b : Bool) → (nat_le l.first.index i && nat_le i (length (whole_log l))) ≡ b → None ≡ (if b then Some (term_at (whole_log l) i) else None) → length (whole_log l) < i
    at true f e = absurd cc
    at false f e = past f

-- the code's log has the node's term where that is known
pub term_same : (first : LogEnd) (h : NodeValue) (i : ℕ) → first.index ≡ h.base → IsLog (log_with first h) h.commit h.snapshot → h.base ≤ i → (i ≡ h.base → (h.base ≡ 0) ⊎ (h.base ≡ h.snapshot.index)) → term_at (whole_log (log_with first h)) i ≡ term_at (node_of h).log i
term_same first h i at ok low known =
    let s = log_same first h at ok in
    ⊎_elim
    (λ (l : h.base < i). same_at i low (λ e. absurd (omega arith)) s)
    (λ (l : i ≤ h.base).
    let e : i ≡ h.base = omega arith in
    ⊎_elim
    (λ (z : h.base ≡ 0). ap (term_at (whole_log (log_with first h))) (e ∙ z) ∙ term_at-zero (whole_log (log_with first h)) ∙ sym (ap (term_at (node_of h).log) (e ∙ z) ∙ term_at-zero (node_of h).log))
    (λ (z : h.base ≡ h.snapshot.index). same_at i low (λ q. z) s)
    (known e))
    (cases_lt h.base i)

-- past the end there is none
pub term_none : (first : LogEnd) (h : NodeValue) (i : ℕ) → first.index ≡ h.base → IsLog (log_with first h) h.commit h.snapshot → h.base ≤ i → None ≡ known_term (log_with first h) i → 0 ≡ term_at (node_of h).log i
term_none first h i at ok low e =
    let s = log_same first h at ok in
    let past = known_none (log_with first h) i e (omega arith) in
    let len = s.len in
    sym (term_at-past (node_of h).log i (omega arith))

-- ---- the message for a peer

pub sends_snapshot : (h : NodeValue) (p next : ℕ) → next ≡ next_in h.rows p → needs_snapshot (node_of h) next ≡ true → message_in h.id h.term p (Install h.snapshot (compacted h.snapshot h.snapshot.index)) ≡ compact_message (message_to h.id (node_of h) p)
unfolding message_to
sends_snapshot h p next at needs = ap (λ w. message_in h.id h.term p (compact_what w)) (sym (cond-true (needs_snapshot (node_of h) (next_in h.rows p)) _ _ (ap (needs_snapshot (node_of h)) (sym at) ∙ needs)))

pub sends_entries : (h : NodeValue) (p next : ℕ) → next ≡ next_in h.rows p → needs_snapshot (node_of h) next ≡ false → message_in h.id h.term p (Append (record { index = next - 1; term = term_at (node_of h).log (next - 1) }) h.commit (take 16 (drop (next - 1) (node_of h).log))) ≡ compact_message (message_to h.id (node_of h) p)
unfolding message_to
sends_entries h p next at needs =
    ap (λ n. message_in h.id h.term p (Append (record { index = n - 1; term = term_at (node_of h).log (n - 1) }) h.commit (take 16 (drop (n - 1) (node_of h).log)))) at
    ∙ ap (λ w. message_in h.id h.term p (compact_what w)) (sym (cond-false (needs_snapshot (node_of h) (next_in h.rows p)) (Install h.snapshot (take h.snapshot.index (node_of h).log)) (Append (record { index = next_in h.rows p - 1; term = term_at (node_of h).log (next_in h.rows p - 1) }) h.commit (take 16 (drop (next_in h.rows p - 1) (node_of h).log))) (ap (needs_snapshot (node_of h)) (sym at) ∙ needs)))

-- ---- the end

asks_compact : (me term : ℕ) (last : LogEnd) (transfer : Bool) (ids : List ℕ) → map compact_message (map (λ to. message_in me term to (AskVote last transfer)) ids) ≡ map (λ to. message_in me term to (AskVote last transfer)) ids
asks_compact me term last transfer [] = refl
asks_compact me term last transfer (x ∷ ids) = ap (λ l. message_in me term x (AskVote last transfer) ∷ l) (asks_compact me term last transfer ids)

-- what a node says by itself holds no front of a log
pub said_compact : (me term : ℕ) (ids : List ℕ) (s : Say) → map compact_message (said_in me term ids s) ≡ said_in me term ids s
said_compact me term ids say.Nothing = refl
said_compact me term ids (say.AskVotes last transfer) = asks_compact me term last transfer ids
said_compact me term ids (say.Vote to granted) = refl
said_compact me term ids (say.Ack to good index) = refl
said_compact me term ids (say.TimeoutNow to) = refl

pub sent_compact : (f : ℕ → Message) (a : List Message) (ps : List ℕ) → map compact_message (a ++ map f ps) ≡ map compact_message a ++ map (λ p. compact_message (f p)) ps
sent_compact f [] [] = refl
sent_compact f [] (p ∷ ps) = ap (λ l. compact_message (f p) ∷ l) (sent_compact f [] ps)
sent_compact f (m ∷ a) ps = ap (λ l. compact_message m ∷ l) (sent_compact f a ps)

-- this is said, and the log is sent to these
abbrev pub effects_of : Say → SentTo → Effects
effects_of say to = record { say = say; recipients = to; change = changes.Nothing }

-- who doesn't lead says what it says
pub ends_quiet : (h : NodeValue) (e : Effects) → is_leader h.role ≡ false → finish (told h) h.id (outcome_of h e) ≡ outcome_of h e
unfolding finish
ends_quiet h e l = cond-false (is_leader h.role) _ _ l

pub quiet_node : (h : NodeValue) (e : Effects) → is_leader h.role ≡ false → node_of h ≡ (compact_outcome (finish (told h) h.id (outcome_of h e))).node
quiet_node h e l = sym (compact_node h) ∙ ap (λ (d : Outcome). compact d.node) (sym (ends_quiet h e l))

pub quiet_out : (h : NodeValue) (e : Effects) (out : List Message) → is_leader h.role ≡ false → out ≡ said h e.say → out ≡ (compact_outcome (finish (told h) h.id (outcome_of h e))).out
quiet_out h e out l is = is ∙ sym (said_compact h.id h.term _ e.say) ∙ ap (λ (d : Outcome). map compact_message d.out) (sym (ends_quiet h e l))

-- a leader at its new commit index
abbrev pub advanced : NodeValue → NodeValue
advanced h = record h { commit = commit_index (told h) h.id (node_of h) }

-- to whom it sends then
abbrev pub sent_to : NodeValue → Effects → Recipients
sent_to h e = cond (nat_lt h.commit (commit_index (told h) h.id (node_of h))) Everyone (recipients_value e.recipients)

ends_sending : (h : NodeValue) (e : Effects) → is_leader h.role ≡ true → finish (told h) h.id (outcome_of h e) ≡ sends h.id (record { node = node_of (advanced h); out = said h e.say; recipients = sent_to h e })
unfolding finish
ends_sending h e l = cond-true (is_leader h.role) _ _ l

pub leader_node : (h now : NodeValue) (e : Effects) → is_leader h.role ≡ true → now ≡ advanced h → node_of now ≡ (compact_outcome (finish (told h) h.id (outcome_of h e))).node
leader_node h now e l is = ap node_of is ∙ sym (compact_node (advanced h)) ∙ ap (λ (d : Outcome). compact d.node) (sym (ends_sending h e l))

pub leader_out : (h now : NodeValue) (e : Effects) (first out : List Message) (moved : Bool) (to : Recipients) → is_leader h.role ≡ true → now ≡ advanced h → first ≡ said h e.say → moved ≡ nat_lt h.commit now.commit → to ≡ cond moved Everyone (recipients_value e.recipients) → out ≡ first ++ map (λ p. compact_message (message_to now.id (node_of now) p)) (receivers now.id (node_of now) to) → out ≡ (compact_outcome (finish (told h) h.id (outcome_of h e))).out
leader_out h now e first out moved to l is begin m t o =
    let who : to ≡ sent_to h e = t ∙ ap (λ b. cond b Everyone (recipients_value e.recipients)) (m ∙ ap (λ (n : NodeValue). nat_lt h.commit n.commit) is) in
    o ∙ ap (λ l. l ++ map (λ p. compact_message (message_to now.id (node_of now) p)) (receivers now.id (node_of now) to)) (begin ∙ sym (said_compact h.id h.term _ e.say))
    ∙ ap (λ (n : NodeValue). map compact_message (said h e.say) ++ map (λ p. compact_message (message_to n.id (node_of n) p)) (receivers n.id (node_of n) to)) is
    ∙ ap (λ r. map compact_message (said h e.say) ++ map (λ p. compact_message (message_to h.id (node_of (advanced h)) p)) (receivers h.id (node_of (advanced h)) r)) who
    ∙ sym (sent_compact (message_to h.id (node_of (advanced h))) (said h e.say) (receivers h.id (node_of (advanced h)) (sent_to h e)))
    ∙ ap (λ (d : Outcome). map compact_message d.out) (sym (ends_sending h e l))

-- so of what the code sends
pub leader_sends : (h now : NodeValue) (e : Effects) (olds news : List Outgoing) (moved : Bool) (to : Recipients) → is_leader h.role ≡ true → now ≡ advanced h → sents_value h.id olds ≡ said h e.say → moved ≡ nat_lt h.commit now.commit → to ≡ cond moved Everyone (recipients_value e.recipients) → sents_value now.id news ≡ sents_value now.id olds ++ map (λ p. compact_message (message_to now.id (node_of now) p)) (receivers now.id (node_of now) to) → sents_value h.id news ≡ (compact_outcome (finish (told h) h.id (outcome_of h e))).out
leader_sends h now e olds news moved to l is begin m t o =
    let same : now.id ≡ h.id = ap (λ (n : NodeValue). n.id) is in
    ap (λ n. sents_value n news) (sym same) ∙ leader_out h now e (sents_value now.id olds) (sents_value now.id news) moved to l is (ap (λ n. sents_value n olds) same ∙ begin) m t o

-- ---- asking voters

pub asks_none : (f : ℕ → Message) (xs : List Message) (own : ℕ) → xs ≡ xs ++ map f (others [] own)
unfolding others
asks_none f xs own = sym (append-nil xs)

pub asks_more : (f : ℕ → Message) (start now new : List Message) (voters : List ℕ) (i own : ℕ) → i < length voters → now ≡ start ++ map f (others (take i voters) own) → new ≡ now ++ map f (others (slice_index_or voters i 0 ∷ []) own) → new ≡ start ++ map f (others (take (i + 1) voters) own)
asks_more f start now new voters i own lt so made =
    let v = slice_index_or voters i 0 in
    made ∙ ap (λ l. l ++ map f (others (v ∷ []) own)) so ∙ append_assoc start (map f (others (take i voters) own)) (map f (others (v ∷ []) own))
    ∙ ap (λ l. start ++ l) (sym (map-append f (others (take i voters) own) (others (v ∷ []) own)) ∙ ap (map f) (sym (others_append (take i voters) (v ∷ []) own) ∙ ap (λ l. others l own) (sym (take_more voters i 0 lt))))
