-- Other servers, as the code's node is given them.
use Rattle.std.proofs.Common.{◌≡◌, ℕ, suc, ◌+◌, ◌<◌, List, [], ◌∷◌, ◌++◌, length, take, refl, sym, ap, ◌∙◌}
use Rattle.std.specs.Prelude.{Bool, true, false, cond, not, ◌&&◌, ◌==◌, nat_lt, map, slice_index_or}
use Rattle.std.specs.List.{filter}
use Rattle.std.proofs.lemmas.Bool.{cond-true, cond-false}
use Rattle.std.proofs.lemmas.List.{map-append, take_more}
use Rattle.std.proofs.lemmas.List.Elements.{filter-append}
use Rattle.raft_spec.specs.Node.{Server, Node, Outcome, Only, among, others, voters, peers, is_leader}
use Rattle.raft_spec.specs.Outcomes.{quiet, sends_to}
use Rattle.raft_spec.specs.Membership.{gained, next_among, match_among, with_servers, on_servers}
use Rattle.raft_spec.specs.Steps.{message_to, sends, serve}
use Rattle.raft_spec.specs.Progress.{LeaderProgress, next_in, match_in, ids_in, rows_for}
use Rattle.raft_spec.specs.Compaction.{compact, compact_message}
use Rattle.raft_spec.specs.NodeValues.{NodeValue, node_of}
use Rattle.raft_spec.proofs.NodeValues.{compact_node}
use Rattle.raft_spec.proofs.ProgressPeers.{next_rows_for, match_rows_for, match_none}
use Rattle.raft_core.specs.declared.sending.Outgoing.{Outgoing}
use Rattle.raft_core.specs.Messages.{sents_value}
use Rattle.raft_core.specs.Steps.{compact_outcome}
use Rattle.raft_core.proofs.PeerLists.{peers_again}
use Rattle.raft_core.proofs.FinishRules.{sent_compact}

-- ---- ids of servers

voters_append : (xs ys : List Server) → voters (xs ++ ys) ≡ voters xs ++ voters ys
unfolding voters
voters_append xs ys = ap (map (λ (s : Server). s.id)) (filter-append (λ (s : Server). s.role == 0) xs ys) ∙ map-append (λ (s : Server). s.id) (filter (λ (s : Server). s.role == 0) xs) (filter (λ (s : Server). s.role == 0) ys)

peers_append : (xs ys : List Server) (own : ℕ) → peers (xs ++ ys) own ≡ peers xs own ++ peers ys own
unfolding peers others
peers_append xs ys own =
    ap (λ l. filter (λ v. not (v == own)) (map (λ (s : Server). s.id) l)) (filter-append (λ (s : Server). nat_lt s.role 2) xs ys)
    ∙ ap (filter (λ v. not (v == own))) (map-append (λ (s : Server). s.id) (filter (λ (s : Server). nat_lt s.role 2) xs) (filter (λ (s : Server). nat_lt s.role 2) ys))
    ∙ filter-append (λ v. not (v == own)) (map (λ (s : Server). s.id) (filter (λ (s : Server). nat_lt s.role 2) xs)) (map (λ (s : Server). s.id) (filter (λ (s : Server). nat_lt s.role 2) ys))

pub no_voters : [] ≡ voters []
unfolding voters
no_voters = refl

pub no_peers : (own : ℕ) → [] ≡ peers [] own
unfolding peers others
no_peers own = refl

pub voters_more : (servers : List Server) (ids new : List ℕ) (i : ℕ) (s : Server) → i < length servers → ids ≡ voters (take i servers) → s ≡ slice_index_or servers i s → new ≡ ids ++ voters (s ∷ []) → new ≡ voters (take (i + 1) servers)
voters_more servers ids new i s lt so is made =
    made ∙ ap (λ l. l ++ voters (s ∷ [])) so ∙ sym (voters_append (take i servers) (s ∷ [])) ∙ ap (λ x. voters (take i servers ++ x ∷ [])) is ∙ ap voters (sym (take_more servers i s lt))

pub peers_more : (servers : List Server) (ids new : List ℕ) (i own : ℕ) (s : Server) → i < length servers → ids ≡ peers (take i servers) own → s ≡ slice_index_or servers i s → new ≡ ids ++ peers (s ∷ []) own → new ≡ peers (take (i + 1) servers) own
peers_more servers ids new i own s lt so is made =
    made ∙ ap (λ l. l ++ peers (s ∷ []) own) so ∙ sym (peers_append (take i servers) (s ∷ []) own) ∙ ap (λ x. peers (take i servers ++ x ∷ []) own) is ∙ ap (λ l. peers l own) (sym (take_more servers i s lt))

-- ---- the node

-- what a leader knows of them
pub told_progress : (p q : LeaderProgress) (id next : ℕ) (servers : List Server) (voting sent : List ℕ) → p.own ≡ id → voting ≡ voters servers → sent ≡ peers servers id → q ≡ record p { voters = voting; rows = rows_for (others sent p.own) next p.rows } → q ≡ record { own = id; voters = voters servers; rows = rows_for (peers servers id) next p.rows }
told_progress p q id next servers voting sent o v s made =
    made ∙ (λ k. record { own = o k; voters = v k; rows = rows_for (others (s k) (o k)) next p.rows }) ∙ ap (λ ids. record { own = id; voters = voters servers; rows = rows_for ids next p.rows }) (peers_again servers id)

-- the node with these servers
abbrev pub holds_servers : NodeValue → List Server → NodeValue
holds_servers h servers = record h { servers = servers; rows = rows_for (peers servers h.id) (suc (length (node_of h).log)) h.rows }

pub told_node : (h : NodeValue) (servers : List Server) → ids_in h.rows ≡ peers h.servers h.id → node_of (holds_servers h servers) ≡ with_servers h.id (node_of h) servers
told_node h servers ids = λ k. record (node_of (holds_servers h servers)) { next_of = λ p. next_is p k; match_of = λ p. match_is p k }
  where
    next_is : (p : ℕ) → next_in (rows_for (peers servers h.id) (suc (length (node_of h).log)) h.rows) p ≡ next_among h.id (node_of h) servers p
    next_is p = next_rows_for (peers servers h.id) (suc (length (node_of h).log)) h.rows p ∙ ap (λ l. cond (among (peers servers h.id) p) (cond (among l p) (next_in h.rows p) (suc (length (node_of h).log))) 1) ids

    both : (a b : Bool) (n : ℕ) → (b ≡ false → n ≡ 0) → cond a n 0 ≡ cond (a && b) n 0
    both true true n f = refl
    both true false n f = f refl
    both false b n f = refl

    match_is : (p : ℕ) → match_in (rows_for (peers servers h.id) (suc (length (node_of h).log)) h.rows) p ≡ match_among h.id (node_of h) servers p
    match_is p = match_rows_for (peers servers h.id) (suc (length (node_of h).log)) h.rows p ∙ both (among (peers servers h.id) p) (among (peers h.servers h.id) p) (match_in h.rows p) (λ f. match_none h.rows p (ap (λ l. among l p) ids ∙ f))

-- ---- the step

served_quiet : (me : ℕ) (s : Node) (servers : List Server) → is_leader s.role ≡ false → serve me (on_servers me s servers) ≡ quiet (with_servers me s servers)
unfolding serve on_servers
served_quiet me s servers l =
    let rule : on_servers me s servers ≡ quiet (with_servers me s servers) = cond-false (is_leader s.role) _ _ l in
    ap (serve me) rule ∙ cond-false (is_leader s.role) _ _ l

served_sends : (me : ℕ) (s : Node) (servers : List Server) → is_leader s.role ≡ true → serve me (on_servers me s servers) ≡ sends me (sends_to (with_servers me s servers) (Only (gained (peers s.servers me) (peers servers me))))
unfolding serve on_servers
served_sends me s servers l =
    let rule : on_servers me s servers ≡ sends_to (with_servers me s servers) (Only (gained (peers s.servers me) (peers servers me))) = cond-true (is_leader s.role) _ _ l in
    ap (serve me) rule ∙ cond-true (is_leader s.role) _ _ l

node_told : (h now : NodeValue) (servers : List Server) → ids_in h.rows ≡ peers h.servers h.id → now ≡ holds_servers h servers → node_of now ≡ compact (with_servers h.id (node_of h) servers)
node_told h now servers ids is = ap node_of is ∙ sym (compact_node (holds_servers h servers)) ∙ ap compact (told_node h servers ids)

pub serve_node_quiet : (h now : NodeValue) (servers : List Server) → is_leader h.role ≡ false → ids_in h.rows ≡ peers h.servers h.id → now ≡ holds_servers h servers → node_of now ≡ (compact_outcome (serve h.id (on_servers h.id (node_of h) servers))).node
serve_node_quiet h now servers l ids is = node_told h now servers ids is ∙ ap (λ (d : Outcome). compact d.node) (sym (served_quiet h.id (node_of h) servers l))

pub serve_out_quiet : (h : NodeValue) (servers : List Server) → is_leader h.role ≡ false → (compact_outcome (serve h.id (on_servers h.id (node_of h) servers))).out ≡ []
serve_out_quiet h servers l = ap (λ (d : Outcome). map compact_message d.out) (served_quiet h.id (node_of h) servers l)

pub serve_node_leads : (h now : NodeValue) (servers : List Server) → is_leader h.role ≡ true → ids_in h.rows ≡ peers h.servers h.id → now ≡ holds_servers h servers → node_of now ≡ (compact_outcome (serve h.id (on_servers h.id (node_of h) servers))).node
serve_node_leads h now servers l ids is = node_told h now servers ids is ∙ ap (λ (d : Outcome). compact d.node) (sym (served_sends h.id (node_of h) servers l))

pub serve_out_leads : (h now : NodeValue) (servers : List Server) (olds news : List Outgoing) (to : List ℕ) → is_leader h.role ≡ true → ids_in h.rows ≡ peers h.servers h.id → now ≡ holds_servers h servers → olds ≡ [] → to ≡ gained (peers h.servers h.id) (peers servers h.id) → sents_value now.id news ≡ sents_value now.id olds ++ map (λ p. compact_message (message_to now.id (node_of now) p)) to → sents_value h.id news ≡ (compact_outcome (serve h.id (on_servers h.id (node_of h) servers))).out
serve_out_leads h now servers olds news to l ids is none who o =
    let same : now.id ≡ h.id = ap (λ (n : NodeValue). n.id) is in
    let ps = gained (peers h.servers h.id) (peers servers h.id) in
    ap (λ n. sents_value n news) (sym same) ∙ o
    ∙ ap (λ x. sents_value now.id x ++ map (λ p. compact_message (message_to now.id (node_of now) p)) to) none
    ∙ ap (λ t. map (λ p. compact_message (message_to now.id (node_of now) p)) t) who
    ∙ ap (λ (n : NodeValue). map (λ p. compact_message (message_to n.id (node_of n) p)) ps) is
    ∙ ap (λ s. map (λ p. compact_message (message_to h.id s p)) ps) (told_node h servers ids)
    ∙ sym (sent_compact (message_to h.id (with_servers h.id (node_of h) servers)) [] ps)
    ∙ ap (λ (d : Outcome). map compact_message d.out) (sym (served_sends h.id (node_of h) servers l))
