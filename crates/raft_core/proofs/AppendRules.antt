-- The rules of Append, as the code's node makes them.
use Rattle.std.proofs.Common.{◌≡◌, ℕ, ◌+◌, ◌-◌, ◌≤◌, List, length, drop, refl, sym, ap, subst, ◌∙◌, arith}
use Rattle.std.specs.Prelude.{true, false, ◌&&◌, nat_lt, nat_le, max, min}
use Rattle.std.proofs.lemmas.Bool.{cond-true, cond-false}
use Rattle.std.proofs.lemmas.List.{length-drop}
use Rattle.raft_spec.specs.Log.{Entry, LogEnd, accept, accept_above, first_replaced, first_replaced_above}
use Rattle.raft_spec.specs.Node.{Follower, Ack, Node, is_leader}
use Rattle.raft_spec.specs.Outcomes.{says, answer, as_follower, with_log}
use Rattle.raft_spec.specs.Replication.{agrees, take_entries, replaces_committed, on_append}
use Rattle.raft_spec.specs.NodeValues.{NodeValue, node_of}
use Rattle.raft_core.specs.declared.effects.Say.TheVariants as say
use Rattle.raft_core.specs.declared.effects.Recipients.TheVariants as sent
use Rattle.raft_core.specs.declared.effects.LogChange.{LogChange}
use Rattle.raft_core.specs.Effects.{Does, Takes}
use Rattle.raft_core.proofs.VoteRules.{only_says, does_nothing}

abbrev following : NodeValue → ℕ → NodeValue
following h from = record h { role = Follower; leader = from }

-- a leader of the term gets none
pub append_leads : (h : NodeValue) (from : ℕ) (prev : LogEnd) (commit : ℕ) (es : List Entry) → is_leader h.role ≡ true → Does h (on_append h.id (node_of h) from prev commit es) h (only_says say.Nothing)
unfolding on_append
append_leads h from prev commit es e = does_nothing h _ (cond-true (is_leader h.role) _ _ e)

-- one whose place the log doesn't have is refused
pub append_differs : (h now : NodeValue) (from : ℕ) (prev : LogEnd) (commit : ℕ) (es : List Entry) (index : ℕ) → is_leader h.role ≡ false → agrees (node_of h) prev ≡ false → index ≡ length (node_of h).log → now ≡ record h { role = Follower; leader = from } → Does h (on_append h.id (node_of h) from prev commit es) now (only_says (say.Ack from false index))
unfolding on_append
append_differs h now from prev commit es index e a at is =
    subst (λ (m : NodeValue). Does h (on_append h.id (node_of h) from prev commit es) m (only_says (say.Ack from false index))) (sym is) (record {
      id = refl;
      servers = refl;
      outcome = cond-false (is_leader h.role) _ _ e ∙ cond-false (agrees (node_of h) prev) _ _ a ∙ ap (λ n. says (as_follower (node_of h) from) (answer h.id (node_of h) from (Ack false n))) (sym at);
      log = (refl, refl);
    })

-- one that would replace a committed entry changes nothing
pub append_lost : (h : NodeValue) (from : ℕ) (prev : LogEnd) (commit : ℕ) (es : List Entry) → is_leader h.role ≡ false → agrees (node_of h) prev ≡ true → replaces_committed (node_of h) prev es ≡ true → Does h (on_append h.id (node_of h) from prev commit es) h (only_says say.Nothing)
unfolding on_append
append_lost h from prev commit es e a r = does_nothing h _ (cond-false (is_leader h.role) _ _ e ∙ cond-true (agrees (node_of h) prev) _ _ a ∙ cond-true (replaces_committed (node_of h) prev es) _ _ r)

-- the entries past the snapshot, by their place
pub replaces_past : (h : NodeValue) (prev : LogEnd) (es coming : List Entry) (place : ℕ) → place ≡ max prev.index h.snapshot.index → coming ≡ drop (place - prev.index) es → replaces_committed (node_of h) prev es ≡ (nat_lt 0 (first_replaced (node_of h).log place coming) && nat_le (first_replaced (node_of h).log place coming) h.commit)
unfolding replaces_committed first_replaced_above
replaces_past h prev es coming place at is =
    let same : first_replaced (node_of h).log (max prev.index h.snapshot.index) (drop (max prev.index h.snapshot.index - prev.index) es) ≡ first_replaced (node_of h).log place coming = ap (λ p. first_replaced (node_of h).log p (drop (p - prev.index) es)) (sym at) ∙ ap (first_replaced (node_of h).log place) (sym is) in
    ap (λ f. nat_lt 0 f && nat_le f h.commit) same

-- they end where all that came end, or before their place
pub known_within : (prev place : ℕ) (es coming : List Entry) → prev ≤ place → coming ≡ drop (place - prev) es → prev + length es ≤ place + length coming
known_within prev place es coming le is =
    let size = ap length is ∙ length-drop (place - prev) es in
    omega arith

-- else its entries are taken
pub append_takes : (h mid now : NodeValue) (from : ℕ) (prev : LogEnd) (commit : ℕ) (es coming : List Entry) (place index : ℕ) (change : LogChange) → is_leader h.role ≡ false → agrees (node_of h) prev ≡ true → replaces_committed (node_of h) prev es ≡ false → mid ≡ record h { role = Follower; leader = from } → place ≡ max prev.index h.snapshot.index → coming ≡ drop (place - prev.index) es → index ≡ prev.index + length es → Takes mid now place coming (min commit index) change → Does h (on_append h.id (node_of h) from prev commit es) now (record { say = say.Ack from true index; recipients = sent.Nobody; change = change })
unfolding on_append take_entries accept_above
append_takes h mid now from prev commit es coming place index change e a r is at past known t =
    let f : NodeValue = record h { role = Follower; leader = from } in
    let taken : Takes f now place coming (min commit index) change = subst (λ (m : NodeValue). Takes m now place coming (min commit index) change) is t in
    let log : accept (node_of h).log (max prev.index h.snapshot.index) (drop (max prev.index h.snapshot.index - prev.index) es) ≡ accept (node_of h).log place coming = ap (λ p. accept (node_of h).log p (drop (p - prev.index) es)) (sym at) ∙ ap (accept (node_of h).log place) (sym past) in
    let whole : with_log (as_follower (node_of h) from) (accept (node_of h).log (max prev.index h.snapshot.index) (drop (max prev.index h.snapshot.index - prev.index) es)) (max h.commit (min commit (prev.index + length es))) ≡ node_of now = ap (λ l. with_log (as_follower (node_of h) from) l (max h.commit (min commit (prev.index + length es)))) log ∙ ap (λ n. with_log (as_follower (node_of h) from) (accept (node_of h).log place coming) (max h.commit (min commit n))) (sym known) ∙ sym taken.node in
    record {
      id = taken.id;
      servers = taken.servers;
      outcome = cond-false (is_leader h.role) _ _ e ∙ cond-true (agrees (node_of h) prev) _ _ a ∙ cond-false (replaces_committed (node_of h) prev es) _ _ r
          ∙ ap (λ (s : Node). says s (answer h.id (node_of h) from (Ack true (prev.index + length es)))) whole
          ∙ ap (λ n. says (node_of now) (answer h.id (node_of h) from (Ack true n))) (sym known)
          ∙ (λ k. says (node_of now) (record { from = (sym taken.id) k; to = from; term = (ap (λ (s : Node). s.term) (sym taken.node)) k; what = Ack true index }));
      log = taken.log;
    }
