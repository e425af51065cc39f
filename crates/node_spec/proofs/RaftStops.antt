-- What a stop within a step of Raft leaves.
use Rattle.std.proofs.Common.{◌≡◌, ◌⊎◌, inl, inr, ⊎_elim, ℕ, zero, suc, ◌+◌, ◌-◌, ◌<◌, ◌≤◌, Bool, true, false, true≢false, cond, List, [], ◌∷◌, length, drop, refl, sym, ap, ◌∙◌, subst, arith}
use Rattle.std.specs.Prelude.{◌&&◌, ◌==◌, nat_lt, min, Option, Some}
use Rattle.std.proofs.lemmas.Bool.{cond-false, and_parts, ltb-true, ltb-false, le-leb, eqb-true, eq-eqb}
use Rattle.std.proofs.lemmas.List.{drop-drop, length-drop}
use Rattle.session_safety.specs.Nodes.{Node as Life}
use Rattle.raft_spec.specs.Log.{Entry, LogEnd, nth_term, term_at, matches}
use Rattle.raft_spec.specs.Node.{Node, Timeout, Beat, Yield, Propose, Transfer, Snapped, UseServers, Input, Local, Receive}
use Rattle.raft_spec.specs.Account.{Stored, stored_of, older}
use Rattle.raft_safety.specs.Members.{Setup, member_step}
use Rattle.raft_safety.specs.Cuts.{AlikeInput}
use Rattle.raft_safety.specs.Properties.{ProposalKeeps}
use Rattle.raft_safety.proofs.Logs.{nth_at}
use Rattle.applied_state.specs.Laws.{SnapshotsRead}
use Rattle.store_laws.specs.Meta.{with_vote}
use Rattle.store_laws.specs.Snapshots.{Longer, Left, given, earlier}
use Rattle.store_laws.specs.Store as store
use Rattle.store_laws.specs.Store.{Log, Snap, Kept, behind}
use Rattle.cluster_model.specs.Weaving.{IsWoven}
use Rattle.node_spec.specs.Nodes.{KeptIs}
use Rattle.node_spec.specs.Steps.{TakesIn}
use Rattle.node_spec.specs.Snapshots.{SnapshotIs}
use Rattle.node_spec.specs.Accounts.{Moment, DueWeaves, StandsAt, no_piece, taken_by, LeftBetween}
use Rattle.node_spec.specs.RaftTurns.{raft_after, kept_of, IsLater, BytesAfter, kept_bytes, brought_bytes, own_bytes, StopsAt, at_first, at_vote, at_end, IsFirst, StopLeaves}
use Rattle.node_spec.proofs.RaftGoes.{Stepped, stepped_to}
use Rattle.node_spec.proofs.RaftShapes.{Places, cut_stays, log_stays, clears, snapped_still}
use Rattle.node_spec.proofs.RaftSnapshots.{spells_front, snapped_is, received_is}
use Rattle.node_spec.proofs.SnapshotSteps.{snapshots_stay, snapshots_come, snapshots_taken}

-- ---- a proposal

first_weaves : (vs : Setup) (a : Moment) (s : Node) (w : Life) (i j : Input) → StandsAt vs a s w → IsFirst a i → AlikeInput j i → ProposalKeeps IsWoven s j
first_weaves vs a s w i (Local (Propose es)) x first alike =
    let due = subst (IsFirst a) alike first in
    let weaves : DueWeaves s.term s.log (es ∷ due.0) = subst (DueWeaves s.term s.log) due.1 x.weaves in
    λ leads. weaves.0
first_weaves vs a s w i (Local Timeout) x first alike = tt
first_weaves vs a s w i (Local Beat) x first alike = tt
first_weaves vs a s w i (Local Yield) x first alike = tt
first_weaves vs a s w i (Local (Transfer to)) x first alike = tt
first_weaves vs a s w i (Local (Snapped index)) x first alike = tt
first_weaves vs a s w i (Local (UseServers servers)) x first alike = tt
first_weaves vs a s w i (Receive m) x first alike = tt

-- ---- the log

same_terms : (es : List Entry) (k : ℕ) → store.nth_term es k ≡ nth_term es k
same_terms [] k = refl
same_terms (e ∷ es) zero = refl
same_terms (e ∷ es) (suc k) = same_terms es k

-- a log that has the end of a snapshot past its cut matches it
has_end : (log : List Entry) (base : ℕ) (last : LogEnd) → base < last.index → last.index < suc base + length (drop base log) → nth_term (drop base log) (last.index - suc base) ≡ last.term → matches log last ≡ true
unfolding matches
has_end log base last past within term =
    let long : length (drop base log) ≡ length log - base = length-drop base log in
    let at : suc (base + (last.index - suc base)) ≡ last.index = omega (arith, past) in
    let there : term_at log last.index ≡ last.term = ap (term_at log) (sym at) ∙ sym (nth_at base (last.index - suc base) log) ∙ term in
    both_true _ _ (le-leb _ _ (omega (arith, past, within, long))) (eq-eqb _ _ there)
  where
    both_true : (b c : Bool) → b ≡ true → c ≡ true → (b && c) ≡ true
    both_true b c p q = ap (λ (x : Bool). x && c) p ∙ q

-- what follows a snapshot is the log itself: its end is at or before the cut, or the log has it
behind_is : (s : Snap) (base : ℕ) (log : List Entry) → behind s (record { first = suc base; entries = drop base log }) ≡ record { first = suc base; entries = drop base log } → (s.index ≤ base) ⊎ (matches log (record { index = s.index; term = s.term }) ≡ true)
unfolding behind
behind_is s base log e = by (nat_lt s.index (suc base)) refl (nat_lt s.index (suc base + length (drop base log)) && (store.nth_term (drop base log) (s.index - suc base) == s.term)) refl
  where
    old : Log
    old = record { first = suc base; entries = drop base log }

    inner : Bool
    inner = nat_lt s.index (suc base + length (drop base log)) && (store.nth_term (drop base log) (s.index - suc base) == s.term)

    gone : Log
    gone = record { first = suc s.index; entries = [] }

    first_is : gone ≡ old → s.index ≤ base
    first_is q = let f : suc s.index ≡ suc base = ap (λ (l : Log). l.first) q in omega (arith, f)

    by : (b : Bool) → nat_lt s.index (suc base) ≡ b → (c : Bool) → inner ≡ c → (s.index ≤ base) ⊎ (matches log (record { index = s.index; term = s.term }) ≡ true)
    by true low c d = inl (let l : s.index < suc base = ltb-true _ _ low in omega (arith, l))
    by false high true d =
        let past : suc base ≤ s.index = ltb-false _ _ high in
        let parts = and_parts _ _ d in
        let within : s.index < suc base + length (drop base log) = ltb-true _ _ parts.0 in
        let term : nth_term (drop base log) (s.index - suc base) ≡ s.term = sym (same_terms (drop base log) (s.index - suc base)) ∙ eqb-true _ _ parts.1 in
        inr (has_end log base (record { index = s.index; term = s.term }) (omega (arith, past)) within term)
    by false high false d =
        let one : cond (nat_lt s.index (suc base)) old (cond inner old gone) ≡ cond inner old gone = cond-false (nat_lt s.index (suc base)) old (cond inner old gone) high in
        let two : cond inner old gone ≡ gone = cond-false inner old gone d in
        inl (first_is (sym two ∙ sym one ∙ e))

-- the log that is kept is the new one, or has a longer old part
record Cut (t : Node) (log : Log) : Type 0 where
  base : ℕ
  is : log ≡ record { first = suc (min base t.base); entries = drop (min base t.base) t.log }

cut_at : (t : Node) (log : Log) (base : ℕ) → base ≤ t.base → log ≡ record { first = suc base; entries = drop base t.log } → Cut t log
cut_at t log base low e =
    let same : base ≡ min base t.base = omega (arith, low) in
    record { base = base; is = e ∙ ap (λ (b : ℕ). record { first = suc b; entries = drop b t.log }) same }

log_is : (l : Log) (first : ℕ) (entries : List Entry) → l.first ≡ first → l.entries ≡ entries → l ≡ record { first = first; entries = entries }
log_is l first entries p q = λ i. record { first = p i; entries = q i }

left_log : (s t : Node) (snap : Snap) (old new log : Log) → old ≡ record { first = suc s.base; entries = drop s.base s.log } → new ≡ record { first = suc t.base; entries = drop t.base t.log } → snap.index ≡ t.snapshot.index → snap.term ≡ t.snapshot.term → Places s t → Longer log new → Left snap old new log → Cut t log
left_log s t snap old new log was now index term places longer (given e) = cut_at t log t.base (omega arith) (e ∙ now)
left_log s t snap old new log was now index term places longer (earlier stands part) = by places
  where
    base : ℕ
    base = log.first - 1

    old_first : old.first ≡ suc s.base
    old_first = ap (λ (l : Log). l.first) was

    new_first : new.first ≡ suc t.base
    new_first = ap (λ (l : Log). l.first) now

    low : s.base ≤ base
    low = let a = part.first in omega (arith, a, old_first)

    high : base ≤ t.base
    high = let a = longer.first in omega (arith, a, new_first)

    first_is : log.first ≡ suc base
    first_is = let a = part.first in omega (arith, a, old_first)

    own : log.entries ≡ drop base s.log
    own =
        let diff : s.base + (log.first - old.first) ≡ base = (let a = part.first in omega (arith, a, old_first)) in
        part.entries ∙ ap (λ (l : Log). drop (log.first - old.first) l.entries) was ∙ drop-drop (log.first - old.first) s.base s.log ∙ ap (λ (n : ℕ). drop n s.log) diff

    -- if both begin at the same place
    whole : base ≡ t.base → Cut t log
    whole e =
        let none : new.first - log.first ≡ 0 = omega (arith, new_first, first_is, e) in
        let same : log.entries ≡ drop t.base t.log = sym (longer.entries ∙ ap (λ (n : ℕ). drop n log.entries) none) ∙ ap (λ (l : Log). l.entries) now in
        cut_at t log t.base (omega arith) (log_is log (suc t.base) (drop t.base t.log) (first_is ∙ ap suc e) same)

    kept : t.log ≡ s.log → Cut t log
    kept e = cut_at t log base high (log_is log (suc base) (drop base t.log) first_is (own ∙ ap (drop base) (sym e)))

    by : Places s t → Cut t log
    by (cut_stays e) = whole (omega (arith, low, high, e))
    by (log_stays e) = kept e
    by (clears differs at) = ⊎_elim
        (λ (before : snap.index ≤ s.base). whole (omega (arith, low, high, at, before, index)))
        (λ (has : matches s.log (record { index = snap.index; term = snap.term }) ≡ true). absurd (true≢false (sym has ∙ (λ i. matches s.log (record { index = index i; term = term i })) ∙ differs)))
        (behind_is snap s.base s.log (subst (λ (l : Log). behind snap l ≡ l) was stands))

-- ---- the states

kept_first : (vs : Setup) (k : Kept) (x : Stored) → KeptIs vs k x → KeptIs vs k (older x.base x)
kept_first vs k x h =
    let same : min x.base x.base ≡ x.base = omega arith in
    subst (λ (b : ℕ). KeptIs vs k (record x { base = b })) (sym same) (record { term = h.term; vote = h.vote; log = h.log; index = h.index; snap_term = h.snap_term; bytes = h.bytes })

kept_vote : (vs : Setup) (k was : Kept) (x : Stored) (term vote : ℕ) → KeptIs vs was x → k ≡ with_vote term vote was → KeptIs vs k (older x.base (record x { term = term; vote = vote }))
kept_vote vs k was x term vote h e = kept_first vs k (record x { term = term; vote = vote }) (subst (λ (z : Kept). KeptIs vs z (record x { term = term; vote = vote })) (sym e) (record { term = refl; vote = refl; log = h.log; index = h.index; snap_term = h.snap_term; bytes = h.bytes }))

-- whose bytes they are
bytes_stand : SnapshotsRead → (vs : Setup) (me : ℕ) (came : List ℕ) (joins : Option ℕ) (a : Moment) (i j : Input) (bytes : List ℕ) (s : Node) (w : Life) → StandsAt vs a s w → AlikeInput j i → TakesIn vs me a.node s (j ∷ []) (taken_by came joins (record no_piece { inputs = i ∷ [] })) →
    Stepped vs me a s (member_step vs me s j).node (raft_after me a i) → BytesAfter vs me came a i bytes → SnapshotIs vs (member_step vs me s j).node bytes
bytes_stand reads vs me came joins a i j bytes s w x alike takes st (kept_bytes same e) =
    snapshots_stay vs me a.node s (j ∷ []) (taken_by came joins (record no_piece { inputs = i ∷ [] })) 0 bytes takes st.low (sym st.snapshot_after ∙ same ∙ st.snapshot) (subst (SnapshotIs vs s) (sym e) x.kept.bytes)
bytes_stand reads vs me came joins a i j bytes s w x alike takes st (brought_bytes m is past e) =
    let r = received_is j m (subst (AlikeInput j) is alike) in
    let index = ap (λ (z : LogEnd). z.index) st.snapshot_after in
    let commit = st.commit in
    subst (SnapshotIs vs (member_step vs me s j).node) (sym e) (snapshots_come vs me a.node s (j ∷ []) (taken_by came joins (record no_piece { inputs = i ∷ [] })) 0 r.message takes (ap (λ (k : Input). Some k) r.is) st.low (omega (arith, past, index, commit)))
bytes_stand reads vs me came joins a i j bytes s w x alike takes st (own_bytes index is spells) =
    let same : j ≡ Local (Snapped index) = snapped_is j index (subst (AlikeInput j) is alike) in
    let past : s.snapshot.index < index = (let was = spells.past in let e : a.node.raft.snapshot.index ≡ s.snapshot.index = ap (λ (z : LogEnd). z.index) st.snapshot in omega (arith, was, e)) in
    let high : index ≤ s.commit = (let at = spells.at in let low = x.within in omega (arith, at, low)) in
    let z : (member_step vs me s j).node.snapshot.index ≡ index = ap (λ (k : Input). (member_step vs me s k).node.snapshot.index) same ∙ (snapped_still vs me s index past high).index_is in
    snapshots_taken vs me a.node s (j ∷ []) (taken_by came joins (record no_piece { inputs = i ∷ [] })) 0 index bytes takes high z (spells_front reads vs a index bytes s w x st.front.0 spells)

later_stands : (vs : Setup) (me : ℕ) (a : Moment) (i : Input) (bytes : List ℕ) (kept : Kept) (s t : Node) (w : Life) → StandsAt vs a s w → Stepped vs me a s t (raft_after me a i) → SnapshotIs vs t bytes → IsLater me a i bytes kept → (base : ℕ) × KeptIs vs kept (older base (stored_of t))
later_stands vs me a i bytes kept s t w x st spelled h =
    let u = raft_after me a i in
    let base : u.base ≡ t.base = ap (λ (z : Node). z.base) st.twin.node in
    let log : u.log ≡ st.twin.log = ap (λ (z : Node). z.log) st.twin.node in
    let new : (kept_of u bytes).log ≡ record { first = suc t.base; entries = drop t.base t.log } =
    ap (λ (b : ℕ). record { first = suc b; entries = drop b u.log }) base ∙ ap (λ (l : List Entry). record { first = suc t.base; entries = drop t.base l }) log ∙ ap (λ (l : List Entry). record { first = suc t.base; entries = l }) (sym st.twin.same.rest) in
    let index : kept.snap.index ≡ t.snapshot.index = ap (λ (z : Snap). z.index) h.snap ∙ ap (λ (z : LogEnd). z.index) st.snapshot_after in
    let term : kept.snap.term ≡ t.snapshot.term = ap (λ (z : Snap). z.term) h.snap ∙ ap (λ (z : LogEnd). z.term) st.snapshot_after in
    let cut = left_log s t kept.snap a.node.kept.log (kept_of u bytes).log kept.log x.kept.log new index term st.shape.places h.longer h.left in (
      cut.base,
      record {
        term = h.term ∙ st.term_after;
        vote = h.vote ∙ ap (λ (z : Node). z.vote) st.twin.node;
        log = cut.is;
        index = index;
        snap_term = term;
        bytes = λ some. subst (SnapshotIs vs t) (sym (ap (λ (z : Snap). z.bytes) h.snap)) spelled some;
      },
    )

pub stop_leaves_holds : SnapshotsRead → StopLeaves
stop_leaves_holds reads vs me came joins a i kept first stop s w j x takes told = (first_weaves vs a s w i j x first alike, by stop)
  where
    head_is : {A : Type 0} (x y : A) (xs ys : List A) → x ∷ xs ≡ y ∷ ys → x ≡ y
    head_is x y xs ys e = cc

    alike : AlikeInput j i
    alike = subst (AlikeInput j) (sym (head_is i takes.alike.0 [] takes.alike.1 takes.alike.2)) takes.alike.3

    t : Node
    t = (member_step vs me s j).node

    st : Stepped vs me a s t (raft_after me a i)
    st = stepped_to vs me a (raft_after me a i) i j (taken_by came joins (record no_piece { inputs = i ∷ [] })) s w refl x refl takes told

    by : StopsAt vs me came a i kept → LeftBetween vs kept s t
    by (at_first e) = (s.base, inl (kept_first vs kept (stored_of s) (subst (λ (k : Kept). KeptIs vs k (stored_of s)) (sym e) x.kept)))
    by (at_vote e) = (
      s.base,
      inr (inl (kept_vote vs kept a.node.kept (stored_of s) t.term t.vote x.kept (e ∙ (λ n. with_vote (st.term_after n) (ap (λ (z : Node). z.vote) st.twin.node n) a.node.kept)))),
    )
    by (at_end bytes whose later) = let r = later_stands vs me a i bytes kept s t w x st (bytes_stand reads vs me came joins a i j bytes s w x alike takes st whose) later in (r.0, inr (inr r.1))
