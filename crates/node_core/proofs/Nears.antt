-- The servers whose log is nearly a leader's.
use Rattle.std.proofs.Common.{◌≡◌, ◌<◌, ℕ, Bool, true, false, cond, List, [], ◌∷◌, ◌++◌, length, map, get_or, take, refl, sym, ap, ◌∙◌}
use Rattle.std.specs.List.{filter}
use Rattle.std.specs.Prelude.{Option, Some, None, ◌&&◌, ◌+◌, ◌-◌, ◌==◌, nat_le, nat_lt}
use Rattle.std.proofs.lemmas.List.{map-append, take_more}
use Rattle.std.proofs.lemmas.List.Elements.{filter-append}
use Rattle.raft_spec.specs.Node.{Node, Server, is_leader}
use Rattle.raft_spec.specs.NodeValues.{NodeValue, node_of}
use Rattle.raft_core.specs.Queries.{matched_at}
use Rattle.node_core.specs.Core.{is_near, nears}

same_some : {a b : ℕ} → Some a ≡ Some b → a ≡ b
same_some e = cc

none_some : {a : ℕ} → None ≡ Some a → ⊥
none_some e = cc

module _ (all own m : ℕ) where
  known : (leads is_own : Bool) → cond leads (cond is_own (Some all) (Some own)) None ≡ Some m
      → (leads && nat_lt 0 (cond is_own all own) && nat_le (all - cond is_own all own) 16) ≡ (nat_lt 0 m && nat_le (all - m) 16)
  known true true e = ap (λ (n : ℕ). nat_lt 0 n && nat_le (all - n) 16) (same_some e)
  known true false e = ap (λ (n : ℕ). nat_lt 0 n && nat_le (all - n) 16) (same_some e)
  known false is_own e = absurd (none_some e)

-- a server of which a leader knows up to where its log agrees
pub near_as : (h : NodeValue) (server : Server) (m : ℕ) → matched_at h server.id ≡ Some m
    → is_near h.id (node_of h) server ≡ (nat_lt 0 m && nat_le (length (node_of h).log - m) 16)
near_as h server m e = known (length (node_of h).log) ((node_of h).match_of server.id) m (is_leader h.role) (server.id == h.id) e

none : (all own : ℕ) (leads is_own : Bool) → cond leads (cond is_own (Some all) (Some own)) None ≡ None
    → (leads && nat_lt 0 (cond is_own all own) && nat_le (all - cond is_own all own) 16) ≡ false
none all own true true e = absurd (none_some (sym e))
none all own true false e = absurd (none_some (sym e))
none all own false is_own e = refl

-- nobody knows it who doesn't lead
pub near_none : (h : NodeValue) (server : Server) → matched_at h server.id ≡ None → is_near h.id (node_of h) server ≡ false
near_none h server e = none (length (node_of h).log) ((node_of h).match_of server.id) (is_leader h.role) (server.id == h.id) e

nears_append : (me : ℕ) (r : Node) (front back : List Server) → nears me r (front ++ back) ≡ nears me r front ++ nears me r back
nears_append me r front back =
    ap (map (λ (server : Server). server.id)) (filter-append (is_near me r) front back) ∙ map-append (λ (server : Server). server.id) (filter (is_near me r) front) (filter (is_near me r) back)

pub nears_more : (me : ℕ) (r : Node) (servers : List Server) (ids new : List ℕ) (i : ℕ) (s : Server) → i < length servers → ids ≡ nears me r (take i servers) → s ≡ get_or servers i s
    → new ≡ ids ++ nears me r (s ∷ []) → new ≡ nears me r (take (i + 1) servers)
nears_more me r servers ids new i s lt so is made =
    made ∙ ap (λ (l : List ℕ). l ++ nears me r (s ∷ [])) so ∙ sym (nears_append me r (take i servers) (s ∷ []))
    ∙ ap (λ (x : Server). nears me r (take i servers ++ x ∷ [])) is ∙ ap (nears me r) (sym (take_more servers i s lt))
