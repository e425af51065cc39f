-- What a leader does with Acks, proposals, heartbeats and transfers, as the code's node does it.
use Rattle.std.proofs.Common.{◌≡◌, ℕ, suc, ◌-◌, ◌<◌, List, [], ◌∷◌, ◌++◌, length, refl, sym, ap, subst, ◌∙◌, arith, append_assoc, append-nil}
use Rattle.std.specs.Prelude.{Bool, true, false, cond, not, ◌&&◌, ◌==◌, nat_lt, nat_le, max, min}
use Rattle.std.proofs.lemmas.Bool.{cond-true, cond-false, eq-eqb, eqb-true, eqb-false}
use Rattle.std.proofs.lemmas.List.{length-map}
use Rattle.raft_spec.specs.Log.{Entry}
use Rattle.raft_spec.specs.Node.{Follower, Node, Nobody, Everyone, Only, among, peers, is_leader}
use Rattle.raft_spec.specs.Outcomes.{sends_to, with_log, with_progress, updated, with_term}
use Rattle.raft_spec.specs.Elections.{on_yield}
use Rattle.raft_spec.specs.Replication.{on_ack, on_propose, on_beat, on_transfer}
use Rattle.raft_spec.specs.Progress.{PeerProgress, next_in, match_in, ids_in, ProgressTable, progress_of, after_ack}
use Rattle.raft_spec.specs.NodeValues.{NodeValue, node_of}
use Rattle.raft_spec.specs.Compaction.{compacted}
use Rattle.raft_spec.proofs.NodeValues.{whole_length}
use Rattle.raft_core.specs.declared.effects.Say.TheVariants as say
use Rattle.raft_core.specs.declared.effects.Recipients.{Recipients as SentTo}
use Rattle.raft_core.specs.declared.effects.Recipients.TheVariants as sent
use Rattle.raft_core.specs.declared.effects.LogChange.TheVariants as changes
use Rattle.raft_core.specs.declared.effects.Effects.{Effects}
use Rattle.raft_core.specs.Effects.{Does, recipients_value}
use Rattle.raft_core.proofs.TakenLogs.{appended}
use Rattle.raft_core.proofs.VoteRules.{only_says, does_nothing}

-- the log is sent to these, and nothing else happens
abbrev pub only_sends : SentTo → Effects
only_sends to = record { say = say.Nothing; recipients = to; change = changes.Nothing }

-- ---- Acks

and3 : (a b c : Bool) → a ≡ true → b ≡ true → c ≡ true → (a && b && c) ≡ true
and3 a b c p q r = ap (λ x. x && b && c) p ∙ ap (λ x. x && c) q ∙ r

and2 : (a b : Bool) → a ≡ true → b ≡ true → (a && b) ≡ true
and2 a b p q = ap (λ x. x && b) p ∙ q

-- the node whose table of progress is this one
abbrev tabled : Node → ProgressTable → Node
tabled s t = with_progress s t.next_of t.match_of

bad_rows : (rows new : List PeerProgress) (ids : List ℕ) (from index : ℕ) → ids_in rows ≡ ids → among ids from ≡ true → progress_of new ≡ after_ack (progress_of rows) from false index → progress_of new ≡ record (progress_of rows) { next_of = updated (next_in rows) from (max (suc (match_in rows from)) (min (next_in rows from - 1) (suc index))) }
bad_rows rows new ids from index e a is = is ∙ cond-true (among (ids_in rows) from) _ _ (ap (λ l. among l from) e ∙ a)

good_rows : (rows new : List PeerProgress) (ids : List ℕ) (from index : ℕ) → ids_in rows ≡ ids → among ids from ≡ true → progress_of new ≡ after_ack (progress_of rows) from true index → progress_of new ≡ record (progress_of rows) { next_of = updated (next_in rows) from (suc (max (match_in rows from) index)); match_of = updated (match_in rows) from (max (match_in rows from) index) }
good_rows rows new ids from index e a is = is ∙ cond-true (among (ids_in rows) from) _ _ (ap (λ l. among l from) e ∙ a)

-- from another node, or at another than a leader, nothing happens
pub ack_ignored : (h : NodeValue) (from : ℕ) (good : Bool) (index : ℕ) → (is_leader h.role && among (peers h.servers h.id) from) ≡ false → Does h (on_ack h.id (node_of h) from good index) h (only_says say.Nothing)
unfolding on_ack
ack_ignored h from true index e = does_nothing h _ (cond-false (is_leader h.role && among (peers h.servers h.id) from && nat_le index (length (node_of h).log)) _ _ (ap (λ b. b && nat_le index (length (node_of h).log)) e))
ack_ignored h from false index e = does_nothing h _ (cond-false (is_leader h.role && among (peers h.servers h.id) from) _ _ e)

pub ack_bad : (h now : NodeValue) (from index : ℕ) → is_leader h.role ≡ true → among (peers h.servers h.id) from ≡ true → ids_in h.rows ≡ peers h.servers h.id → progress_of now.rows ≡ after_ack (progress_of h.rows) from false index → now ≡ record h { rows = now.rows } → Does h (on_ack h.id (node_of h) from false index) now (only_sends (sent.Only from))
unfolding on_ack
ack_bad h now from index l p ids rows is =
    let t = bad_rows h.rows now.rows (peers h.servers h.id) from index ids p rows in
    subst (λ (m : NodeValue). Does h (on_ack h.id (node_of h) from false index) m (only_sends (sent.Only from))) (sym is) (record {
      id = refl;
      servers = refl;
      outcome = cond-true (is_leader h.role && among (peers h.servers h.id) from) _ _ (and2 _ _ l p) ∙ ap (λ (t : ProgressTable). sends_to (tabled (node_of h) t) (Only (from ∷ []))) (sym t);
      log = (refl, refl);
    })

-- one past the log changes nothing
pub ack_lost : (h : NodeValue) (from index : ℕ) → is_leader h.role ≡ true → among (peers h.servers h.id) from ≡ true → nat_le index (length (node_of h).log) ≡ false → Does h (on_ack h.id (node_of h) from true index) h (only_says say.Nothing)
unfolding on_ack
ack_lost h from index l p e = does_nothing h _ (cond-false (is_leader h.role && among (peers h.servers h.id) from && nat_le index (length (node_of h).log)) _ _ (ap (λ b. b && nat_le index (length (node_of h).log)) (and2 _ _ l p) ∙ e))

same_updated : (f : ℕ → ℕ) (p v : ℕ) → updated f p v p ≡ v
same_updated f p v = cond-true (p == p) v (f p) (eq-eqb p p refl)

good_match : (h now : NodeValue) (from index : ℕ) → among (peers h.servers h.id) from ≡ true → ids_in h.rows ≡ peers h.servers h.id → progress_of now.rows ≡ after_ack (progress_of h.rows) from true index → match_in now.rows from ≡ max (match_in h.rows from) index
good_match h now from index p ids rows = ap (λ (t : ProgressTable). t.match_of from) (good_rows h.rows now.rows (peers h.servers h.id) from index ids p rows) ∙ same_updated (match_in h.rows) from (max (match_in h.rows from) index)

-- a good one: the peer is sent to again where it lags
abbrev pub again : Bool → ℕ → SentTo
again true from = sent.Only from
again false from = sent.Nobody

again_is : (b : Bool) (from : ℕ) → cond b (Only (from ∷ [])) Nobody ≡ recipients_value (again b from)
again_is true from = refl
again_is false from = refl

pub ack_good : (h now : NodeValue) (from index last : ℕ) (behind : Bool) → is_leader h.role ≡ true → among (peers h.servers h.id) from ≡ true → nat_le index (length (node_of h).log) ≡ true → ids_in h.rows ≡ peers h.servers h.id → progress_of now.rows ≡ after_ack (progress_of h.rows) from true index → now ≡ record h { rows = now.rows } → last ≡ length (node_of h).log → nat_lt (match_in now.rows from) last ≡ behind → Does h (on_ack h.id (node_of h) from true index) now (only_sends (again behind from))
unfolding on_ack
ack_good h now from index last behind l p w ids rows is end b =
    let t = good_rows h.rows now.rows (peers h.servers h.id) from index ids p rows in
    let m = good_match h now from index p ids rows in
    let less : nat_lt (max (match_in h.rows from) index) (length (node_of h).log) ≡ behind = ap (λ n. nat_lt n (length (node_of h).log)) (sym m) ∙ ap (nat_lt (match_in now.rows from)) (sym end) ∙ b in
    subst (λ (m : NodeValue). Does h (on_ack h.id (node_of h) from true index) m (only_sends (again behind from))) (sym is) (record {
      id = refl;
      servers = refl;
      outcome = cond-true (is_leader h.role && among (peers h.servers h.id) from && nat_le index (length (node_of h).log)) _ _ (and3 _ _ _ l p w)
          ∙ ap (λ (t : ProgressTable). sends_to (tabled (node_of h) t) (cond (nat_lt (max (match_in h.rows from) index) (length (node_of h).log)) (Only (from ∷ [])) Nobody)) (sym t)
          ∙ ap (λ r. sends_to (tabled (node_of h) (progress_of now.rows)) r) (ap (λ c. cond c (Only (from ∷ [])) Nobody) less ∙ again_is behind from);
      log = (refl, refl);
    })

-- ---- proposals, heartbeats, transfers

pub propose_ignored : (h : NodeValue) (es : List Entry) → is_leader h.role ≡ false → Does h (on_propose (node_of h) es) h (only_says say.Nothing)
unfolding on_propose
propose_ignored h es e = does_nothing h _ (cond-false (is_leader h.role) _ _ e)

pub propose_none : (h : NodeValue) (es : List Entry) → is_leader h.role ≡ true → es ≡ [] → Does h (on_propose (node_of h) es) h (only_sends sent.Everyone)
unfolding on_propose
propose_none h es e none = record {
  id = refl;
  servers = refl;
  outcome = cond-true (is_leader h.role) _ _ e ∙ ap (λ l. sends_to (with_log (node_of h) ((node_of h).log ++ with_term h.term l) h.commit) Everyone) none ∙ ap (λ l. sends_to (with_log (node_of h) l h.commit) Everyone) (append-nil (node_of h).log);
  log = (refl, refl);
}

pub propose_some : (h now : NodeValue) (es : List Entry) (first : ℕ) → is_leader h.role ≡ true → 0 < length es → first ≡ suc (length (node_of h).log) → h.commit < first → now ≡ record h { entries = h.entries ++ with_term h.term es } → Does h (on_propose (node_of h) es) now (record { say = say.Nothing; recipients = sent.Everyone; change = changes.From first })
unfolding on_propose
propose_some h now es first e some at past is =
    let n = whole_length h in
    let size : length (with_term h.term es) ≡ length es = length-map es (λ (x : Entry). record { term = h.term; kind = x.kind; bytes = x.bytes }) in
    let join = append_assoc (compacted h.snapshot h.base) h.entries (with_term h.term es) in
    subst (λ (m : NodeValue). Does h (on_propose (node_of h) es) m (record { say = say.Nothing; recipients = sent.Everyone; change = changes.From first })) (sym is) (record {
      id = refl;
      servers = refl;
      outcome = cond-true (is_leader h.role) _ _ e ∙ ap (λ l. sends_to (with_log (node_of h) l h.commit) Everyone) join;
      log = (refl, omega arith, appended h.commit (node_of h).log (with_term h.term es) (node_of (record h { entries = h.entries ++ with_term h.term es })).log first (sym join) (omega arith) at past);
    })

pub beat_sends : (h : NodeValue) → is_leader h.role ≡ true → Does h (on_beat (node_of h)) h (only_sends sent.Everyone)
unfolding on_beat
beat_sends h e = record { id = refl; servers = refl; outcome = cond-true (is_leader h.role) _ _ e; log = (refl, refl) }

pub beat_ignored : (h : NodeValue) → is_leader h.role ≡ false → Does h (on_beat (node_of h)) h (only_says say.Nothing)
unfolding on_beat
beat_ignored h e = does_nothing h _ (cond-false (is_leader h.role) _ _ e)

pub yields_leadership : (h now : NodeValue) → (is_leader h.role && nat_lt h.term 4294967295) ≡ true
    → now ≡ record h { term = suc h.term; vote = 0; role = Follower; leader = 0; grants = [] } → Does h (on_yield (node_of h)) now (only_says say.Nothing)
unfolding on_yield
yields_leadership h now e is = subst (λ (m : NodeValue). Does h (on_yield (node_of h)) m (only_says say.Nothing)) (sym is)
    (record { id = refl; servers = refl; outcome = cond-true (is_leader h.role && nat_lt h.term 4294967295) _ _ e; log = (refl, refl) })

pub yield_ignored : (h : NodeValue) → (is_leader h.role && nat_lt h.term 4294967295) ≡ false → Does h (on_yield (node_of h)) h (only_says say.Nothing)
unfolding on_yield
yield_ignored h e = does_nothing h _ (cond-false (is_leader h.role && nat_lt h.term 4294967295) _ _ e)

pub transfer_says : (h : NodeValue) (to : ℕ) → (is_leader h.role && not (to == h.id)) ≡ true → Does h (on_transfer h.id (node_of h) to) h (only_says (say.TimeoutNow to))
unfolding on_transfer
transfer_says h to e = record { id = refl; servers = refl; outcome = cond-true (is_leader h.role && not (to == h.id)) _ _ e; log = (refl, refl) }

pub transfer_ignored : (h : NodeValue) (to : ℕ) → (is_leader h.role && not (to == h.id)) ≡ false → Does h (on_transfer h.id (node_of h) to) h (only_says say.Nothing)
unfolding on_transfer
transfer_ignored h to e = does_nothing h _ (cond-false (is_leader h.role && not (to == h.id)) _ _ e)

-- ---- whether there are entries

pub empty_of : (es : List Entry) → (length es == 0) ≡ true → es ≡ []
empty_of [] e = refl
empty_of (x ∷ es) e = absurd (let z : suc (length es) ≡ 0 = eqb-true _ _ e in omega arith)

pub some_of : (es : List Entry) → (length es == 0) ≡ false → 0 < length es
some_of [] e = absurd (eqb-false 0 0 e refl)
some_of (x ∷ es) e = omega arith
