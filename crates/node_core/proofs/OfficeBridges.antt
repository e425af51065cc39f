-- What a step of Raft does to a leader's leadership, and to its sessions.
use Rattle.std.proofs.Common.{◌≡◌, ◌⊎◌, ⊎_elim, ℕ, Bool, true, false, true≢false, List, [], ◌++◌, refl, sym, ap, ◌∙◌, append-nil}
use Rattle.std.specs.Prelude.{◌&&◌, ◌==◌}
use Rattle.std.proofs.lemmas.Bool.{and_parts, eqb-true, eq-eqb}
use Rattle.session_spec.specs.Events.{on_lost, told_lost}
use Rattle.session_spec.specs.Sessions.{Reply, Gateway}
use Rattle.raft_spec.specs.Node.{is_leader}
use Rattle.client_sessions.specs.Calls.{lost_all}
use Rattle.client_sessions.specs.Clients.{Clients}
use Rattle.node_spec.specs.Accounts.{Moment}
use Rattle.node_spec.specs.RaftTurns.{HasEnded, LeadershipFollows, in_office, loses, has_none}
use Rattle.node_spec.proofs.EndedSessions.{ends_on_holds}

-- ---- the leadership, by the test that a node makes of it (`is_in`) with the term of its leadership

pub office_stays : (a b : Moment) (term : ℕ) → is_leader a.node.raft.role ≡ true → term ≡ a.node.raft.term → (is_leader b.node.raft.role && (term == b.node.raft.term)) ≡ true →
    b.node.sessions ≡ a.node.sessions → b.node.serving ≡ a.node.serving → LeadershipFollows a b []
office_stays a b term leads at is sessions serving =
    let parts = and_parts (is_leader b.node.raft.role) (term == b.node.raft.term) is in
    in_office leads parts.0 (sym (eqb-true term b.node.raft.term parts.1) ∙ at) sessions serving refl

pub office_ends : (a b : Moment) (term : ℕ) → is_leader a.node.raft.role ≡ true → term ≡ a.node.raft.term → (is_leader b.node.raft.role && (term == b.node.raft.term)) ≡ false →
    b.node.sessions ≡ on_lost a.node.sessions → b.node.serving ≡ false → LeadershipFollows a b (told_lost a.node.sessions)
office_ends a b term leads at isnt sessions serving =
    loses leads (λ up same. true≢false (sym (both up (eq-eqb term b.node.raft.term (at ∙ sym same))) ∙ isnt)) sessions serving refl
  where
    both : is_leader b.node.raft.role ≡ true → (term == b.node.raft.term) ≡ true → (is_leader b.node.raft.role && (term == b.node.raft.term)) ≡ true
    both p q = ap (λ (x : Bool). x && (term == b.node.raft.term)) p ∙ q

pub office_lacks : (a b : Moment) → is_leader a.node.raft.role ≡ false → HasEnded a.node.sessions → b.node.sessions ≡ a.node.sessions → a.node.serving ≡ false → b.node.serving ≡ false → LeadershipFollows a b []
office_lacks a b down ended sessions idle serving = has_none down ended sessions idle serving refl

-- ---- the clients of a leadership that is lost (`lost` of `Clients::on_lost`)

pub lost_sessions : (k l : Clients) → l ≡ lost_all k → l.sessions ≡ on_lost k.sessions
lost_sessions k l e = ap (λ (c : Clients). c.sessions) e

-- what waits on a connection stays
pub lost_streams : (k l : Clients) → l ≡ lost_all k → (conn : ℕ) → l.streams conn ≡ k.streams conn
lost_streams k l e conn = ap (λ (c : Clients). c.streams conn) e

-- After a step that brought a snapshot all ends once more, whether the leadership was lost in it or not: together it has ended, and
-- was told, once.
pub ends_once : (old mid new : Gateway) (told : List (ℕ × Reply)) → ((mid ≡ old) × (told ≡ [])) ⊎ ((mid ≡ on_lost old) × (told ≡ told_lost old)) → new ≡ on_lost mid → (new ≡ on_lost old) × (told ++ told_lost mid ≡ told_lost old)
ends_once old mid new told ways e = ⊎_elim
    (λ (x : (mid ≡ old) × (told ≡ [])). (e ∙ ap on_lost x.0, ap (λ (l : List (ℕ × Reply)). l ++ told_lost mid) x.1 ∙ ap told_lost x.0))
    (λ (x : (mid ≡ on_lost old) × (told ≡ told_lost old)).
    let ended = ends_on_holds.lost_all old in
    (e ∙ ap on_lost x.0 ∙ ended.ended, ap (λ (l : List (ℕ × Reply)). l ++ told_lost mid) x.1 ∙ ap (λ (g : Gateway). told_lost old ++ told_lost g) x.0 ∙ ap (λ (l : List (ℕ × Reply)). told_lost old ++ l) ended.told ∙ append-nil (told_lost old)))
    ways
