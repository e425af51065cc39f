-- Snapshots at their nodes.
use Rattle.std.proofs.Common.{◌≡◌, ◌≢◌, ℕ, ◌+◌, ◌-◌, ◌<◌, ◌≤◌, max, true, false, List, [], length, take, refl, sym, ap, ◌∙◌, subst, ⊎_elim, arith}
use Rattle.std.specs.Prelude.{◌==◌, ◌&&◌, nat_lt, nat_le}
use Rattle.std.proofs.lemmas.Bool.{cond_both, and_parts, and_cases, eqb-false, leb-true, leb-false, ltb-true}
use Rattle.raft_spec.specs.Log.{Entry, LogEnd, matches, term_at}
use Rattle.raft_spec.specs.Node.{Ack, Node, is_leader}
use Rattle.raft_spec.specs.Outcomes.{answer, as_follower, says}
use Rattle.raft_spec.specs.Snapshots.{installed, on_install, on_snapped}
use Rattle.raft_safety.specs.Members.{Setup}
use Rattle.raft_safety.proofs.Logs.{Agree, Accepted, stays, moves, agree_sym, agree_term, agree_down, term_at-past}
use Rattle.raft_safety.proofs.History.{Hist, HistOk, NodeOk, InstallOk}
use Rattle.raft_safety.proofs.Growth.{committed_along}
use Rattle.raft_safety.proofs.Complete.{meet, terms}
use Rattle.raft_safety.proofs.Bases.{BaseOk, base, with_base, base_commit}
use Rattle.raft_safety.proofs.Accepts.{committed_in, accept_agree, accept_base}
use Rattle.raft_safety.proofs.Reaches.{still, off, follower_ok}
use Rattle.raft_safety.proofs.Votes.{Fine}
use Rattle.raft_safety.proofs.Appends.{acking, matches_parts}

not_matches : (log ys : List Entry) (last : LogEnd) → matches log last ≡ false → term_at ys last.index ≡ last.term → 0 < last.term → term_at log last.index ≢ term_at ys last.index
unfolding matches
not_matches log ys last e same pos z =
    ⊎_elim
    (λ (x : nat_le last.index (length log) ≡ false). let y = term_at-past log last.index (leb-false _ _ x) in omega arith)
    (λ (x : (term_at log last.index == last.term) ≡ false). eqb-false _ _ x (z ∙ same))
    (and_cases _ _ e)

-- the log after an Install that isn't old: an Append of the front
install_base : {vs : Setup} {h : Hist} {n u vote : ℕ} {log new : List Entry} {commit : ℕ} (last : LogEnd) (front : List Entry) → HistOk vs h → InstallOk vs h u last front → Accepted 0 last.index log (h.log_of u) new → BaseOk vs h n u vote log commit → BaseOk vs h n u vote new last.index × Agree last.index new (h.log_of u)
install_base {vs} {h} {n} {u} {vote} {log} {new} {commit} last front ok m acc a =
    let zero : 0 + last.index ≡ last.index = omega arith in
    let within : 0 + last.index ≤ length (h.log_of u) = let w = m.within in omega arith in
    let whole : Agree last.index new (h.log_of u) = subst (λ k. Agree k new (h.log_of u)) zero (accept_agree within acc) in
    (base_commit last.index (committed_along vs u last.index (omega arith) (omega arith) (agree_sym whole) m.settled) (accept_base ok m.leads within acc a), whole)

pub on_install_fine : {vs : Setup} {h : Hist} (me : ℕ) (s : Node) (from : ℕ) (last : LogEnd) (front : List Entry) → HistOk vs h → NodeOk vs h me s → InstallOk vs h s.term last front → Fine vs h me (on_install me s from last front)
unfolding on_install
on_install_fine {vs} {h} me s from last front ok a m =
    let F = Fine vs h me in
    cond_both (is_leader s.role) _ _ F (λ e. still s [] ok a tt)
    (λ e. cond_both (nat_le last.index s.commit) _ _ F (λ x. old (leb-true _ _ x))
    (λ x. cond_both (matches s.log last) _ _ F (λ y. keeps y) (λ y. replaces (leb-false _ _ x) y)))
  where
    log : List Entry
    log = h.log_of s.term

    zero : 0 + last.index ≡ last.index
    zero = omega arith

    old : last.index ≤ s.commit → Fine vs h me (says (as_follower s from) (answer me s from (Ack true last.index)))
    old le = acking me (as_follower s from) from last.index ok (λ x. off x) (λ x. off x) (base s a) (follower_ok s from a).snaps (agree_down last.index le (committed_in ok m.leads a.commit))

    done : (new : List Entry) → Accepted 0 last.index s.log log new → Fine vs h me (says (installed (as_follower s from) last new) (answer me s from (Ack true last.index)))
    done new acc =
        let b = install_base last front ok m acc (base s a) in
        acking me (installed (as_follower s from) last new) from last.index ok (λ x. off x) (λ x. off x) b.0
        (record { base = omega arith; applied = omega arith; term = agree_term last.index (omega arith) b.1 ∙ m.term })
        b.1

    keeps : matches s.log last ≡ true → Fine vs h me (says (installed (as_follower s from) last s.log) (answer me s from (Ack true last.index)))
    keeps y =
        let p = matches_parts s.log last y in
        done s.log (stays refl (subst (λ k. Agree k s.log log) (sym zero) ((meet a.sound (ok.sound s.term)).at last.index p.0 m.within (p.1 ∙ sym m.term))))

    replaces : s.commit < last.index → matches s.log last ≡ false → Fine vs h me (says (installed (as_follower s from) last front) (answer me s from (Ack true last.index)))
    replaces lt y =
        let nz = (terms vs ok (ok.sound s.term)).at last.index (omega arith) m.within in
        let pos : 0 < last.term = let t = m.term in omega arith in
        done front (moves (m.same ∙ ap (λ k. take k log) (sym zero)) last.index (omega arith) (not_matches s.log log last y m.term pos))

pub on_snap_fine : {vs : Setup} {h : Hist} (n : ℕ) (s : Node) (i : ℕ) → HistOk vs h → NodeOk vs h n s → Fine vs h n (on_snapped s i)
unfolding on_snapped
on_snap_fine {vs} {h} n s i ok a =
    cond_both (nat_lt s.snapshot.index i && nat_le i s.commit) _ _ (Fine vs h n)
    (λ e.
    let p = and_parts _ _ e in
    let lt : s.snapshot.index < i = ltb-true _ _ p.0 in
    let le : i ≤ s.commit = leb-true _ _ p.1 in
    let low = a.snaps.base in
    still _ [] ok
    (with_base (record s { snapshot = record { index = i; term = term_at s.log i }; base = max s.base (i - 16) })
    (base s a)
    (record { base = omega arith; applied = le; term = refl })
    (λ x. let c = a.standing x in record { id = c.id; self = c.self; had = c.had; not_yet = c.not_yet; older = c.older; grants = c.grants })
    (λ x. let l = a.leading x in record { id = l.id; who = l.who; log = l.log; own = l.own; matched = l.matched; next = l.next }))
    tt)
    (λ e. still s [] ok a tt)
