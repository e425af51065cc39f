-- The voters of whole logs, by the configurations that a node keeps of them.
use Rattle.std.proofs.Common.{◌≡◌, ℕ, suc, Bool, true, false, cond, List, [], ◌∷◌, ◌++◌, take, drop, refl, sym, ap, ◌∙◌, take-append-drop}
use Rattle.std.specs.Prelude.{◌||◌}
use Rattle.std.proofs.lemmas.Bool.{cond-true, cond-false}
use Rattle.raft_spec.specs.Log.{Entry}
use Rattle.raft_spec.specs.Node.{Server, voters}
use Rattle.raft_spec.specs.Outcomes.{with_term}
use Rattle.raft_safety.specs.Members.{Setup, servers_read, changes, any_change, configuration_from, configuration, voters_after}
use Rattle.raft_membership.specs.Members.{Configurations, servers_from, last_servers, changes_from, IsOf}

conf_append : (vs : Setup) (c : List Server) (xs ys : List Entry) → configuration_from vs c (xs ++ ys) ≡ configuration_from vs (configuration_from vs c xs) ys
conf_append vs c [] ys = refl
conf_append vs c (e ∷ xs) ys = conf_append vs _ xs ys

-- the configuration after entries is that of the last change among them
last_change : (vs : Setup) (c : List Server) (k : ℕ) (es : List Entry) → servers_from c (changes_from vs k es) ≡ configuration_from vs c es
last_change vs c k [] = refl
last_change vs c k (e ∷ es) = by (changes vs e) (servers_read (vs.read e.bytes)) (λ d. last_change vs d (suc k) es)
  where
    by : (b : Bool) (d : List Server) → ((x : List Server) → servers_from x (changes_from vs (suc k) es) ≡ configuration_from vs x es) →
        servers_from c (cond b (record { index = k; servers = d } ∷ changes_from vs (suc k) es) (changes_from vs (suc k) es)) ≡ configuration_from vs (cond b d c) es
    by true d rest = rest d
    by false d rest = rest c

-- the current configuration of a whole log
pub current_is : (vs : Setup) (log : List Entry) (m : Configurations) → IsOf vs log m → last_servers m ≡ configuration vs log
unfolding configuration
current_is vs log m h =
    (λ i. servers_from (h.servers i) (h.later i))
    ∙ last_change vs (configuration_from vs vs.opening (take m.at log)) (suc m.at) (drop m.at log)
    ∙ sym (conf_append vs vs.opening (take m.at log) (drop m.at log))
    ∙ ap (configuration_from vs vs.opening) (take-append-drop m.at log)

pub current_voters : (vs : Setup) (log : List Entry) (m : Configurations) → IsOf vs log m → voters (last_servers m) ≡ voters_after vs log
unfolding voters_after
current_voters vs log m h = ap voters (current_is vs log m h)

-- two logs of the same configurations
pub same_voters_after : (vs : Setup) (xs ys : List Entry) (m : Configurations) → IsOf vs xs m → IsOf vs ys m → voters_after vs xs ≡ voters_after vs ys
same_voters_after vs xs ys m a b = sym (current_voters vs xs m a) ∙ current_voters vs ys m b

-- ---- entries at the end

neither : (a b : Bool) → (a || b) ≡ false → (a ≡ false) × (b ≡ false)
neither true b e = absurd cc
neither false b e = (refl, e)

same_conf : (vs : Setup) (c : List Server) (es : List Entry) → any_change vs es ≡ false → configuration_from vs c es ≡ c
same_conf vs c [] e = refl
same_conf vs c (x ∷ es) e =
    let n = neither (changes vs x) (any_change vs es) e in
    ap (λ (d : List Server). configuration_from vs d es) (cond-false (changes vs x) (servers_read (vs.read x.bytes)) c n.0) ∙ same_conf vs c es n.1

-- those without a change
pub others_follow : (vs : Setup) (log es : List Entry) → any_change vs es ≡ false → voters_after vs (log ++ es) ≡ voters_after vs log
unfolding voters_after configuration
others_follow vs log es e = ap voters (conf_append vs vs.opening log es ∙ same_conf vs (configuration_from vs vs.opening log) es e)

-- a change
pub change_follows : (vs : Setup) (log : List Entry) (e : Entry) → changes vs e ≡ true → voters_after vs (log ++ e ∷ []) ≡ voters (servers_read (vs.read e.bytes))
unfolding voters_after configuration
change_follows vs log e is = ap voters (conf_append vs vs.opening log (e ∷ []) ∙ cond-true (changes vs e) (servers_read (vs.read e.bytes)) (configuration_from vs vs.opening log) is)

-- a term makes no change
pub with_term_changes : (vs : Setup) (term : ℕ) (es : List Entry) → any_change vs (with_term term es) ≡ any_change vs es
with_term_changes vs term [] = refl
with_term_changes vs term (e ∷ es) = ap (λ b. changes vs e || b) (with_term_changes vs term es)
