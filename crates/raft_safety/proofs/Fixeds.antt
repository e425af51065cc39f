-- If no configuration reads, the voters are fixed.
use Rattle.std.proofs.Common.{◌≡◌, Bool, true, false, List, [], ◌∷◌, refl, ap, ◌∙◌}
use Rattle.std.specs.Prelude.{cond, not, ◌&&◌, ◌||◌}
use Rattle.raft_spec.specs.Log.{Entry}
use Rattle.raft_spec.specs.Node.{Server, Node, Timeout, Beat, Yield, Propose, Transfer, Snapped, UseServers, Local, Receive}
use Rattle.raft_safety.specs.Members.{fixed, changes, is_change, servers_read, any_change, may_change, may_propose, configuration_from, configuration, FixedServers, FixedProposals}

none : (servers : List Server) (e : Entry) → changes (fixed servers) e ≡ false
none servers e = no (is_change e.kind)
  where
    no : (b : Bool) → (b && false) ≡ false
    no true = refl
    no false = refl

stays : (servers start : List Server) (log : List Entry) → configuration_from (fixed servers) start log ≡ start
stays servers start [] = refl
stays servers start (e ∷ es) = ap (λ b. configuration_from (fixed servers) (cond b (servers_read ((fixed servers).read e.bytes)) start) es) (none servers e) ∙ stays servers start es

pub fixed_servers_holds : FixedServers
unfolding configuration
fixed_servers_holds servers log = stays servers servers log

none_of : (servers : List Server) (es : List Entry) → any_change (fixed servers) es ≡ false
none_of servers [] = refl
none_of servers (e ∷ es) = ap (λ b. b || any_change (fixed servers) es) (none servers e) ∙ none_of servers es

proposes : (servers : List Server) (s : Node) (es : List Entry) → may_propose (fixed servers) s es ≡ true
proposes servers s [] = refl
proposes servers s (e ∷ []) = ap (λ b. not b || may_change (fixed servers) s e) (none servers e)
proposes servers s (e ∷ f ∷ es) = ap not (none_of servers (e ∷ f ∷ es))

pub fixed_proposals_holds : FixedProposals
fixed_proposals_holds servers s (Local Timeout) = refl
fixed_proposals_holds servers s (Local Beat) = refl
fixed_proposals_holds servers s (Local Yield) = refl
fixed_proposals_holds servers s (Local (Propose es)) = proposes servers s es
fixed_proposals_holds servers s (Local (Transfer to)) = refl
fixed_proposals_holds servers s (Local (Snapped i)) = refl
fixed_proposals_holds servers s (Local (UseServers others)) = refl
fixed_proposals_holds servers s (Receive m) = refl
