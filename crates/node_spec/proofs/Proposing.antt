-- A change that was let pass may be proposed.
use Rattle.std.proofs.Common.{◌≡◌, ◌⊎◌, inl, inr, ◌≤◌, arith, ℕ, suc, Bool, true, false, cond, List, [], ◌∷◌, ◌++◌, take, drop, refl, sym, ap, ◌∙◌, subst, take-append-drop}
use Rattle.std.specs.Prelude.{◌&&◌, ◌||◌, not, Some}
use Rattle.std.proofs.lemmas.Bool.{cond-false, eq-eqb}
use Rattle.raft_spec.specs.Log.{Entry, term_at}
use Rattle.raft_spec.specs.Node.{Node, Server, voters, Local, Propose}
use Rattle.raft_messages.specs.Servers.{configuration_of}
use Rattle.raft_safety.specs.Members.{Setup, servers_read, voters_read, changes, any_change, configuration_from, configuration, voters_after, may_change, may_take}
use Rattle.raft_membership.specs.declared.members.Change.{Change}
use Rattle.raft_membership.specs.Members.{Configurations, last_from, last_index, changes_from, read_setup, IsOf}
use Rattle.node_spec.specs.Changes.{are_near, ChangesAreProposed}
use Rattle.node_spec.proofs.OneChanges.{voters_are_near}

both_true : (a b : Bool) → a ≡ true → b ≡ true → (a && b) ≡ true
both_true true b p q = q
both_true false b p q = absurd cc

neither : (a b : Bool) → (a || b) ≡ false → (a ≡ false) × (b ≡ false)
neither true b e = absurd cc
neither false b e = (refl, e)

or_second : (a b : Bool) → b ≡ true → (a || b) ≡ true
or_second true b e = refl
or_second false b e = e

none_changes : (vs : Setup) (k : ℕ) (es : List Entry) → changes_from vs k es ≡ [] → any_change vs es ≡ false
none_changes vs k [] e = refl
none_changes vs k (x ∷ es) e = by (changes vs x) (record { index = k; servers = servers_read (vs.read x.bytes) }) (λ f. none_changes vs (suc k) es f) e
  where
    by : (b : Bool) (c : Change) → (changes_from vs (suc k) es ≡ [] → any_change vs es ≡ false) → cond b (c ∷ changes_from vs (suc k) es) (changes_from vs (suc k) es) ≡ [] → (b || any_change vs es) ≡ false
    by true c rest e = absurd cc
    by false c rest e = rest e

same_conf : (vs : Setup) (c : List Server) (es : List Entry) → any_change vs es ≡ false → configuration_from vs c es ≡ c
same_conf vs c [] e = refl
same_conf vs c (x ∷ es) e =
    let n = neither (changes vs x) (any_change vs es) e in
    ap (λ (d : List Server). configuration_from vs d es) (cond-false (changes vs x) (servers_read (vs.read x.bytes)) c n.0) ∙ same_conf vs c es n.1

conf_append : (vs : Setup) (c : List Server) (xs ys : List Entry) → configuration_from vs c (xs ++ ys) ≡ configuration_from vs (configuration_from vs c xs) ys
conf_append vs c [] ys = refl
conf_append vs c (e ∷ xs) ys = conf_append vs _ xs ys

-- if the last change is the applied one, none is past it
past_or_none : (vs : Setup) (k : ℕ) (es : List Entry) (at : ℕ) → (changes_from vs k es ≡ []) ⊎ (k ≤ last_from at (changes_from vs k es))
past_or_none vs k [] at = inl refl
past_or_none vs k (x ∷ es) at = by (changes vs x) (servers_read (vs.read x.bytes)) (past_or_none vs (suc k) es k) (past_or_none vs (suc k) es at)
  where
    behind : (cs : List Change) → (cs ≡ []) ⊎ (suc k ≤ last_from k cs) → k ≤ last_from k cs
    behind [] h = omega arith
    behind (c ∷ cs) (inl e) = absurd cc
    behind (c ∷ cs) (inr le) = omega (arith, le)

    later : (cs : List Change) → (cs ≡ []) ⊎ (suc k ≤ last_from at cs) → (cs ≡ []) ⊎ (k ≤ last_from at cs)
    later cs (inl e) = inl e
    later cs (inr le) = inr (omega (arith, le))

    by : (b : Bool) (servers : List Server) → (changes_from vs (suc k) es ≡ []) ⊎ (suc k ≤ last_from k (changes_from vs (suc k) es)) → (changes_from vs (suc k) es ≡ []) ⊎ (suc k ≤ last_from at (changes_from vs (suc k) es)) →
        (cond b (record { index = k; servers = servers } ∷ changes_from vs (suc k) es) (changes_from vs (suc k) es) ≡ [])
        ⊎ (k ≤ last_from at (cond b (record { index = k; servers = servers } ∷ changes_from vs (suc k) es) (changes_from vs (suc k) es)))
    by true servers one two = inr (behind (changes_from vs (suc k) es) one)
    by false servers one two = later (changes_from vs (suc k) es) two

pub none_later : (vs : Setup) (log : List Entry) (m : Configurations) → IsOf vs log m → last_index m ≡ m.at → m.later ≡ []
none_later vs log m h same = by (past_or_none vs (suc m.at) (drop m.at log) m.at)
  where
    by : (changes_from vs (suc m.at) (drop m.at log) ≡ []) ⊎ (suc m.at ≤ last_from m.at (changes_from vs (suc m.at) (drop m.at log))) → m.later ≡ []
    by (inl e) = h.later ∙ e
    by (inr le) =
        let last : last_from m.at (changes_from vs (suc m.at) (drop m.at log)) ≡ m.at = ap (last_from m.at) (sym h.later) ∙ same in
        absurd (omega (arith, le, last))

-- if no change is past the applied index, the applied configuration is the current one
current : (vs : Setup) (log : List Entry) (m : Configurations) → IsOf vs log m → m.later ≡ [] → configuration vs log ≡ m.servers
unfolding configuration
current vs log m h none =
    ap (configuration_from vs vs.opening) (sym (take-append-drop m.at log))
    ∙ conf_append vs vs.opening (take m.at log) (drop m.at log)
    ∙ same_conf vs (configuration_from vs vs.opening (take m.at log)) (drop m.at log) (none_changes vs (suc m.at) (drop m.at log) (sym h.later ∙ none))
    ∙ sym h.servers

pub near_are_proposed : (opening : List Server) (s : Node) (e : Entry) (m : Configurations) (new : List Server) → IsOf (read_setup opening) s.log m → m.at ≡ s.commit → m.later ≡ [] →
    term_at s.log s.commit ≡ s.term → configuration_of e.bytes ≡ Some new → are_near (voters m.servers) (voters new) ≡ true → may_take (read_setup opening) s (Local (Propose (e ∷ []))) ≡ true
unfolding may_change voters_after
near_are_proposed opening s e m new h at none barrier reads close =
    let vs : Setup = read_setup opening in
    let no : any_change (read_setup opening) (drop s.commit s.log) ≡ false =
    subst (λ (n : ℕ). any_change (read_setup opening) (drop n s.log) ≡ false) at (none_changes (read_setup opening) (suc m.at) (drop m.at s.log) (sym h.later ∙ none)) in
    let own : voters (configuration (read_setup opening) s.log) ≡ voters m.servers = ap voters (current (read_setup opening) s.log m h none) in
    let theirs : voters_read ((read_setup opening).read e.bytes) ≡ voters new = ap voters_read reads in
    let near : are_near (voters (configuration (read_setup opening) s.log)) (voters_read ((read_setup opening).read e.bytes)) ≡ true = (λ i. are_near (own i) (theirs i)) ∙ close in
    or_second (not (changes (read_setup opening) e)) _ (both_true _ _ (both_true _ _ (eq-eqb _ _ barrier) (ap not no)) near)

pub changes_are_proposed : ChangesAreProposed
changes_are_proposed opening s e m v new h at none barrier reads change c = near_are_proposed opening s e m new h at none barrier reads (voters_are_near v m.servers new change c)
