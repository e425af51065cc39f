-- With fixed voters a node is given them.
use Rattle.std.specs.Prelude.{cond, ◌&&◌}
use Rattle.std.proofs.lemmas.List.{take_all}
use Rattle.std.proofs.Common.{◌≡◌, ℕ, suc, Bool, true, false, ◌≤◌, List, [], ◌∷◌, ◌++◌, length, take, drop, arith, append_assoc, refl, sym, ap, ◌∙◌, subst}
use Rattle.raft_spec.specs.Log.{Entry}
use Rattle.raft_spec.specs.Node.{voters, Server, LocalEvent, Timeout, Beat, Yield, Propose, Transfer, Snapped, UseServers, Input, Local, Receive, Node, Outcome}
use Rattle.raft_spec.specs.Account.{steps}
use Rattle.raft_safety.specs.Members.{Setup, is_change, configuration_from, configuration, fixed, voters_after, member_step}
use Rattle.raft_safety.specs.Cuts.{AlikeInputs, SameVoters}
use Rattle.std.proofs.lemmas.List.{take-append-drop}
use Rattle.raft_safety.proofs.Alikes.{same_drop}
use Rattle.raft_safety.proofs.Fixeds.{fixed_servers_holds}
use Rattle.raft_safety.proofs.Tolds.{fixed_told_holds}
use Rattle.raft_membership.specs.declared.members.Change.{Change}
use Rattle.raft_membership.specs.Members.{changes_from}
use Rattle.node_spec.specs.Steps.{FixedTells, FixedCounts, MembersKnown}

-- inputs that are alike tell the same voters
same_voters : (ids : List ℕ) (is js : List Input) → AlikeInputs is js → SameVoters ids js → SameVoters ids is
same_voters ids [] js a v = tt
same_voters ids (Local local ∷ is) js a v =
    let w : SameVoters ids (Local local ∷ a.1) = subst (SameVoters ids) (a.2 ∙ ap (λ j. j ∷ a.1) a.3) v in by_local local is a.1 (λ u. same_voters ids is a.1 a.4 u) w
  where
    by_local : (local : LocalEvent) (is js : List Input) → (SameVoters ids js → SameVoters ids is) → SameVoters ids (Local local ∷ js) → SameVoters ids (Local local ∷ is)
    by_local (UseServers servers) is js f w = (w.0, f w.1)
    by_local Timeout is js f w = f w
    by_local Beat is js f w = f w
    by_local Yield is js f w = f w
    by_local (Propose es) is js f w = f w
    by_local (Transfer to) is js f w = f w
    by_local (Snapped i) is js f w = f w
same_voters ids (Receive m ∷ is) js a v =
    let w : SameVoters ids (Receive (record { from = m.from; to = m.to; term = m.term; what = a.3.0 }) ∷ a.1) = subst (SameVoters ids) (a.2 ∙ ap (λ j. j ∷ a.1) a.3.1) v in same_voters ids is a.1 a.4 w

gives : (servers : List Server) (log : List Entry) → voters_after (fixed servers) log ≡ voters servers
unfolding voters_after
gives servers log = ap voters (fixed_servers_holds servers log)

pub fixed_tells_hold : FixedTells
fixed_tells_hold servers me old x v s w is stands was t = (fixed_told_holds servers me s is (was.told ∙ gives servers s.log) (same_voters (voters servers) is x.inputs t.alike v)).0

no_changes : (servers : List Server) (k : ℕ) (es : List Entry) → changes_from (fixed servers) k es ≡ []
no_changes servers k [] = refl
no_changes servers k (e ∷ es) = by (is_change e.kind) (record { index = k; servers = [] }) (no_changes servers (suc k) es)
  where
    by : (b : Bool) (c : Change) → changes_from (fixed servers) (suc k) es ≡ [] → cond (b && false) (c ∷ changes_from (fixed servers) (suc k) es) (changes_from (fixed servers) (suc k) es) ≡ []
    by true c rest = rest
    by false c rest = rest

-- the commit index doesn't fall
still_applied : (f : Node → Input → Outcome) (s : Node) (is : List Input) → ((k : ℕ) → (steps f s (take k is)).commit ≤ (steps f s (take (suc k) is)).commit) → s.commit ≤ (steps f s is).commit
still_applied f s [] h = omega arith
still_applied f s (i ∷ is) h = let one : s.commit ≤ (f s i).node.commit = h 0 in let rest = still_applied f (f s i).node is (λ k. h (suc k)) in omega (arith, one, rest)

pub fixed_counts_hold : FixedCounts
fixed_counts_hold servers me old new x v low these none s w is stands was t told =
    let u = steps (member_step (fixed servers) me) s is in
    let r = fixed_told_holds servers me s is (was.told ∙ gives servers s.log) (same_voters (voters servers) is x.inputs t.alike v) in
    let commit : old.raft.commit ≡ s.commit = ap (λ (z : Node). z.commit) stands.twin.node in
    let rise : s.commit ≤ u.commit = still_applied (member_step (fixed servers) me) s is (λ k. (t.kept k).0) in
    let whole : take (length is) is ≡ is = take_all (length is) is (omega arith) in
    let long : u.commit ≤ length u.log = subst (λ l. (steps (member_step (fixed servers) me) s l).commit ≤ length (steps (member_step (fixed servers) me) s l).log) whole (t.kept (length is)).1.0 in
    record {
      told = r.1 ∙ sym (gives servers u.log);
      members = record {
        within = omega (arith, low, commit, rise, long);
        servers = these ∙ sym (fixed_servers_holds servers (take new.members.at u.log));
        later = none ∙ sym (no_changes servers (suc new.members.at) (drop new.members.at u.log));
      };
    }

-- ---- voters that change

conf_append : (vs : Setup) (c : List Server) (xs ys : List Entry) → configuration_from vs c (xs ++ ys) ≡ configuration_from vs (configuration_from vs c xs) ys
conf_append vs c [] ys = refl
conf_append vs c (e ∷ xs) ys = conf_append vs _ xs ys

pub members_known_hold : MembersKnown
unfolding configuration
members_known_hold vs s v more t low =
    let i = v.snapshot.index in
    let base : v.base ≡ s.base = ap (λ (z : Node). z.base) t.node in
    let log : v.log ≡ t.log = ap (λ (z : Node). z.log) t.node in
    let low_s : s.base ≤ i = omega arith in
    let rest : drop i s.log ≡ drop i v.log = same_drop {b = s.base} {i = s.snapshot.index} i low_s t.same ∙ ap (drop i) (sym log) in
    ap (configuration_from vs vs.opening) (ap (λ l. l ++ more) (sym (take-append-drop i s.log)) ∙ append_assoc (take i s.log) (drop i s.log) more)
    ∙ conf_append vs vs.opening (take i s.log) (drop i s.log ++ more)
    ∙ ap (λ l. configuration_from vs (configuration_from vs vs.opening (take i s.log)) (l ++ more)) rest
