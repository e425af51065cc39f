-- The peers of a node, and a new leader's progress of them.
use Rattle.std.proofs.Common.{◌≡◌, ℕ, ◌≤◌, List, [], ◌∷◌, length, refl, ap, ◌∙◌, arith}
use Rattle.std.specs.Prelude.{Bool, true, false, cond, not, ◌==◌, map, nat_lt}
use Rattle.std.specs.List.{filter}
use Rattle.std.proofs.lemmas.List.{length-map}
use Rattle.std.proofs.lemmas.List.Sums.{length-filter, count_by-le-length}
use Rattle.raft_spec.specs.Node.{Server, others, voters, peers}
use Rattle.raft_spec.specs.Progress.{LeaderProgress, rows_for}
use Rattle.raft_log.proofs.PeerTables.{rows_none}

filtered : (f : ℕ → Bool) (xs : List ℕ) → filter f (filter f xs) ≡ filter f xs
filtered f [] = refl
filtered f (x ∷ xs) = at (f x) refl (filtered f xs)
  where
    at : (b : Bool) → f x ≡ b → filter f (filter f xs) ≡ filter f xs → filter f (cond b (x ∷ filter f xs) (filter f xs)) ≡ cond b (x ∷ filter f xs) (filter f xs)
    at true e ih = ap (λ c. cond c (x ∷ filter f (filter f xs)) (filter f (filter f xs))) e ∙ ap (λ l. x ∷ l) ih
    at false e ih = ih

-- the own id isn't among them, so leaving it out again changes nothing
pub peers_again : (servers : List Server) (own : ℕ) → others (peers servers own) own ≡ peers servers own
unfolding others peers
peers_again servers own = filtered (λ v. not (v == own)) (map (λ s. s.id) (filter (λ s. nat_lt s.role 2) servers))

-- they are no more than the servers
pub few_peers : (servers : List Server) (own : ℕ) → length (peers servers own) ≤ length servers
unfolding others peers
few_peers servers own =
    let sent = filter (λ (s : Server). nat_lt s.role 2) servers in
    let ids : List ℕ = map (λ (s : Server). s.id) sent in
    let a = length-filter (λ v. not (v == own)) ids in
    let a' = count_by-le-length (λ v. not (v == own)) ids in
    let b = length-map sent (λ (s : Server). s.id) in
    let c = length-filter (λ (s : Server). nat_lt s.role 2) servers in
    let c' = count_by-le-length (λ (s : Server). nat_lt s.role 2) servers in
    omega arith

-- what a new leader knows of them
pub new_progress : (p q : LeaderProgress) (id own next : ℕ) (servers : List Server) (voting sent : List ℕ) → p ≡ record { own = own; voters = []; rows = rows_for (others [] own) next [] } → own ≡ id → voting ≡ voters servers → sent ≡ peers servers id → q ≡ record p { voters = voting; rows = rows_for (others sent p.own) next p.rows } → q ≡ record { own = id; voters = voters servers; rows = rows_for (peers servers id) next [] }
new_progress p q id own next servers voting sent is o v s made =
    made ∙ ap (λ (p : LeaderProgress). record { own = p.own; voters = voting; rows = rows_for (others sent p.own) next p.rows }) is
    ∙ (λ k. record { own = o k; voters = v k; rows = rows_for (others (s k) (o k)) next ((rows_none (o k) next []) k) })
    ∙ ap (λ ids. record { own = id; voters = voters servers; rows = rows_for ids next [] }) (peers_again servers id)
