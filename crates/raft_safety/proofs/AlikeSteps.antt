-- A whole step is the same at two logs that are the same past the cut.
use Rattle.std.proofs.Common.{◌≡◌, ◌≢◌, ◌⊎◌, inl, inr, ℕ, zero, suc, ◌-◌, ◌<◌, ◌≤◌, Bool, true, false, cond, List, [], ◌∷◌, ◌++◌, length, take, drop, refl, sym, ap, ◌∙◌, subst, ⊎_elim, arith}
use Rattle.std.specs.Prelude.{◌==◌, ◌&&◌, not, nat_lt, nat_le, map}
use Rattle.std.proofs.lemmas.List.{length-take-le, drop_all}
use Rattle.std.proofs.lemmas.Bool.{cases_eq, and_cases, or_parts, ltb-true, ltb-false, eqb-true, eqb-false, not-false}
use Rattle.raft_spec.specs.Log.{Entry, term_at}
use Rattle.raft_spec.specs.Node.{What, Append, Install, Message, Node, Outcome, Recipients, Nobody, Everyone, Only, majority, is_leader, Timeout, Beat}
use Rattle.raft_spec.specs.Node.{Yield, Propose, Transfer, Snapped, UseServers, Input, Local, Receive}
use Rattle.raft_spec.specs.Outcomes.{with_log, with_term}
use Rattle.raft_spec.specs.Snapshots.{needs_snapshot}
use Rattle.raft_spec.specs.Commitment.{has, majority_stores, commit_below, commit_index, is_stored_by_majority, commit_up_to}
use Rattle.raft_spec.specs.Steps.{message_to, receivers, sends, finish, serve, raft_step}
use Rattle.raft_spec.specs.Compaction.{with_whole_log}
use Rattle.raft_safety.specs.Cuts.{Same, AlikeWhat, AlikeMessage, AlikeAll, AlikeInput}
use Rattle.raft_safety.proofs.Logs.{term_at-zero, term_at-take}
use Rattle.raft_safety.proofs.Shapes.{rule_of}
use Rattle.raft_safety.proofs.Alikes.{same_term, same_drop, same_at}
use Rattle.raft_safety.proofs.AlikeRules.{Shape, Sees, Alike, AlikeServed, always, alike_cond, stand_alike, on_beat_alike, on_yield_alike}
use Rattle.raft_safety.proofs.AlikeRules.{on_propose_alike, on_transfer_alike, on_snap_alike, on_servers_alike, on_message_alike}

pub alikes_append : (a a' b b' : List Message) → AlikeAll a a' → AlikeAll b b' → AlikeAll (a ++ b) (a' ++ b')
alikes_append [] a' b b' x y = subst (λ l. AlikeAll b (l ++ b')) (sym x) y
alikes_append (m ∷ a) a' b b' x y = (x.0, x.1 ++ b', ap (λ l. l ++ b') x.2, x.3, alikes_append a x.1 b b' x.4 y)

what_cond : (b : Bool) (x y v w : What) → (b ≡ true → AlikeWhat x v) → (b ≡ false → AlikeWhat y w) → AlikeWhat (cond b x y) (cond b v w)
what_cond true x y v w p q = p refl
what_cond false x y v w p q = q refl

cond_same : {A : Type 0} (b : Bool) (x y v w : A) → (b ≡ true → x ≡ v) → (b ≡ false → y ≡ w) → cond b x y ≡ cond b v w
cond_same true x y v w p q = p refl
cond_same false x y v w p q = q refl

-- if an Append is sent, its place is known
pub place_known : (s : Node) (next : ℕ) → Shape s → needs_snapshot s next ≡ false → (s.base ≤ next - 1) × ((next - 1 ≡ s.base) → (s.base ≡ 0) ⊎ (s.base ≡ s.snapshot.index))
unfolding needs_snapshot
place_known s next sh e =
    let p = or_parts _ _ e in
    let ge : suc s.base ≤ next = ltb-false _ _ p.0 in (
      omega arith,
      λ at. ⊎_elim
          (λ (x : ((next == suc s.base) && not (s.base == 0)) ≡ false). ⊎_elim
          (λ (y : (next == suc s.base) ≡ false). absurd (eqb-false _ _ y (omega arith)))
          (λ (y : not (s.base == 0) ≡ false). inl (eqb-true _ _ (not-false _ y)))
          (and_cases _ _ x))
          (λ (x : not (s.base == s.snapshot.index) ≡ false). inr (eqb-true _ _ (not-false _ x)))
          (and_cases _ _ p.1),
    )

append_path : (i t u c : ℕ) (es fs : List Entry) → t ≡ u → es ≡ fs → Append (record { index = i; term = t }) c es ≡ Append (record { index = i; term = u }) c fs
append_path i t u c es fs p q = λ k. Append (record { index = i; term = p k }) c (q k)

append_alike : (me : ℕ) (s : Node) (ys : List Entry) (p : ℕ) → Shape s → Same s.base s.snapshot.index s.log ys → AlikeMessage (message_to me s p) (message_to me (with_whole_log s ys) p)
unfolding message_to needs_snapshot
append_alike me s ys p sh e = record {
  from = refl;
  to = refl;
  term = refl;
  what = what_cond (needs_snapshot s (s.next_of p)) (Install s.snapshot (take s.snapshot.index s.log)) (Append (record { index = at; term = term_at s.log at }) s.commit (take 16 (drop at s.log))) (Install s.snapshot (take s.snapshot.index ys)) (Append (record { index = at; term = term_at ys at }) s.commit (take 16 (drop at ys))) (λ t. (take s.snapshot.index ys, refl, front)) (λ t. let k = place_known s (s.next_of p) sh t in sym (append_path at (term_at s.log at) (term_at ys at) s.commit (take 16 (drop at s.log)) (take 16 (drop at ys)) (term k) (ap (take 16) (same_drop at k.0 e))));
}
  where
    at : ℕ
    at = s.next_of p - 1

    front : Same s.snapshot.index s.snapshot.index (take s.snapshot.index s.log) (take s.snapshot.index ys)
    front =
        let a = sh.applied in
        let b = sh.within in
        let len = e.len in
        let lx = length-take-le s.snapshot.index s.log (omega arith) in
        let ly = length-take-le s.snapshot.index ys (omega arith) in
        record {
          len = omega arith;
          rest = drop_all s.snapshot.index (take s.snapshot.index s.log) (omega arith) ∙ sym (drop_all s.snapshot.index (take s.snapshot.index ys) (omega arith));
          snapshot = term_at-take s.snapshot.index s.log s.snapshot.index (omega arith) ∙ e.snapshot ∙ sym (term_at-take s.snapshot.index ys s.snapshot.index (omega arith));
        }

    term : (s.base ≤ s.next_of p - 1) × ((s.next_of p - 1 ≡ s.base) → (s.base ≡ 0) ⊎ (s.base ≡ s.snapshot.index)) → term_at s.log (s.next_of p - 1) ≡ term_at ys (s.next_of p - 1)
    term k =
        ⊎_elim
        (λ (z : s.next_of p - 1 ≡ s.base). ⊎_elim
        (λ (y : s.base ≡ 0). ap (term_at s.log) (z ∙ y) ∙ term_at-zero s.log ∙ sym (term_at-zero ys) ∙ ap (term_at ys) (sym (z ∙ y)))
        (λ (y : s.base ≡ s.snapshot.index). same_at (s.next_of p - 1) k.0 (λ w. y) e)
        (k.1 z))
        (λ (z : s.next_of p - 1 ≢ s.base). let lo = k.0 in same_term (s.next_of p - 1) (omega arith) e)
        (cases_eq (s.next_of p - 1) s.base)

sends_alike : (me : ℕ) (s : Node) (ys : List Entry) (ps : List ℕ) → Shape s → Same s.base s.snapshot.index s.log ys → AlikeAll (map (message_to me s) ps) (map (message_to me (with_whole_log s ys)) ps)
sends_alike me s ys [] sh e = refl
sends_alike me s ys (p ∷ ps) sh e = (message_to me (with_whole_log s ys) p, map (message_to me (with_whole_log s ys)) ps, refl, append_alike me s ys p sh e, sends_alike me s ys ps sh e)

stored_alike : (voters_of : List Entry → List ℕ) (ids : List ℕ) (me : ℕ) (s : Node) (ys : List Entry) (k : ℕ) → voters_of s.log ≡ ids → s.base < k → Same s.base s.snapshot.index s.log ys → majority_stores voters_of me s k ≡ majority_stores (always ids) me (with_whole_log s ys) k
unfolding majority_stores is_stored_by_majority
stored_alike voters_of ids me s ys k told lt e =
    ap (λ t. (t == s.term) && majority (voters_of s.log) (λ p. nat_le k (has me s p))) (same_term k lt e) ∙ ap (λ v. (term_at ys k == s.term) && majority v (λ p. nat_le k (has me s p))) told ∙ ap (λ n. (term_at ys k == s.term) && majority ids (λ p. nat_le k (cond (p == me) n (s.match_of p)))) e.len

below_alike : (voters_of : List Entry → List ℕ) (ids : List ℕ) (me : ℕ) (s : Node) (ys : List Entry) (k : ℕ) → voters_of s.log ≡ ids → Shape s → Same s.base s.snapshot.index s.log ys → commit_below voters_of me s k ≡ commit_below (always ids) me (with_whole_log s ys) k
unfolding commit_below commit_up_to majority_stores
below_alike voters_of ids me s ys zero told sh e = refl
below_alike voters_of ids me s ys (suc k) told sh e =
    let ih = below_alike voters_of ids me s ys k told sh e in
    cond_same (nat_lt s.commit (suc k)) _ _ _ _
    (λ t.
    let lt : s.commit < suc k = ltb-true _ _ t in
    let a = sh.low in
    let b = sh.applied in
    let st = stored_alike voters_of ids me s ys (suc k) told (omega arith) e in
    ap (λ c. cond c (suc k) (commit_below voters_of me s k)) st ∙ ap (λ x. cond (majority_stores (always ids) me (with_whole_log s ys) (suc k)) (suc k) x) ih)
    (λ t. refl)

pub index_alike : (voters_of : List Entry → List ℕ) (ids : List ℕ) (me : ℕ) (s : Node) (ys : List Entry) → voters_of s.log ≡ ids → Shape s → Same s.base s.snapshot.index s.log ys → commit_index voters_of me s ≡ commit_index (always ids) me (with_whole_log s ys)
unfolding commit_index
index_alike voters_of ids me s ys told sh e = below_alike voters_of ids me s ys (length s.log) told sh e ∙ ap (commit_below (always ids) me (with_whole_log s ys)) e.len

receivers_alike : (me : ℕ) (s : Node) (ys : List Entry) (sp : Recipients) → receivers me s sp ≡ receivers me (with_whole_log s ys) sp
receivers_alike me s ys Nobody = refl
receivers_alike me s ys Everyone = refl
receivers_alike me s ys (Only ps) = refl

all_to : (ms ks ls : List Message) → ks ≡ ls → AlikeAll ms ks → AlikeAll ms ls
all_to ms ks ls e a = subst (AlikeAll ms) e a

-- a leader's end of a step, at its new commit index
ended : ℕ → Node → List Message → Recipients → ℕ → Outcome
ended me s out sp c = sends me (record { node = with_log s s.log c; out = out; recipients = cond (nat_lt s.commit c) Everyone sp })

ended_alike : {voters_of : List Entry → List ℕ} {ids : List ℕ} (me : ℕ) (s : Node) (ys : List Entry) (out out' : List Message) (sp : Recipients) (c : ℕ) → voters_of s.log ≡ ids → s.commit ≤ c → c ≤ length s.log → Shape s → Same s.base s.snapshot.index s.log ys → AlikeAll out out' → Alike voters_of ids (ended me s out sp c) (ended me (with_whole_log s ys) out' sp c)
unfolding ended
ended_alike me s ys out out' sp c told up within sh e o =
    let a = sh.applied in
    let to = cond (nat_lt s.commit c) Everyone sp in
    record {
      log = ys;
      node = refl;
      same = e;
      out = alikes_append out out' _ _ o
          (all_to (map (message_to me (with_log s s.log c)) (receivers me (with_log s s.log c) to)) _ _ (ap (map (message_to me (with_whole_log (with_log s s.log c) ys))) (receivers_alike me (with_log s s.log c) ys to))
          (sends_alike me (with_log s s.log c) ys (receivers me (with_log s s.log c) to) (record { low = sh.low; applied = omega arith; within = within }) e));
      recipients = refl;
      sees = λ l. told;
    }

below_bounds : (voters_of : List Entry → List ℕ) (me : ℕ) (s : Node) (k : ℕ) → k ≤ length s.log → s.commit ≤ length s.log → (s.commit ≤ commit_below voters_of me s k) × (commit_below voters_of me s k ≤ length s.log)
unfolding commit_below commit_up_to majority_stores
below_bounds voters_of me s zero le in_log = (omega arith, in_log)
below_bounds voters_of me s (suc k) le in_log =
    let ih = below_bounds voters_of me s k (omega arith) in_log in
    let P : ℕ → Type 0 = λ x. (s.commit ≤ x) × (x ≤ length s.log) in
    on (nat_lt s.commit (suc k)) (cond (majority_stores voters_of me s (suc k)) (suc k) (commit_below voters_of me s k)) s.commit P
    (λ t. on (majority_stores voters_of me s (suc k)) (suc k) (commit_below voters_of me s k) P (λ u. let lt : s.commit < suc k = ltb-true _ _ t in (omega arith, le)) (λ u. ih))
    (λ t. (omega arith, in_log))
  where
    on : (b : Bool) (x y : ℕ) (P : ℕ → Type 0) → (b ≡ true → P x) → (b ≡ false → P y) → P (cond b x y)
    on true x y P p q = p refl
    on false x y P p q = q refl

pub bounds : (voters_of : List Entry → List ℕ) (me : ℕ) (s : Node) → Shape s → (s.commit ≤ commit_index voters_of me s) × (commit_index voters_of me s ≤ length s.log)
unfolding commit_index
bounds voters_of me s sh = below_bounds voters_of me s (length s.log) (omega arith) sh.within

finish_at : {voters_of : List Entry → List ℕ} {ids : List ℕ} (me : ℕ) (s : Node) (ys : List Entry) (out out' : List Message) (sp : Recipients) → (is_leader s.role ≡ true → voters_of s.log ≡ ids) → Shape s → Same s.base s.snapshot.index s.log ys → AlikeAll out out' → Alike voters_of ids (finish voters_of me (record { node = s; out = out; recipients = sp })) (finish (always ids) me (record { node = with_whole_log s ys; out = out'; recipients = sp }))
unfolding finish ended
finish_at {voters_of} {ids} me s ys out out' sp told sh e o =
    alike_cond (is_leader s.role) (is_leader s.role) _ _ _ _ refl
    (λ t. subst (λ c. Alike voters_of ids (ended me s out sp (commit_index voters_of me s)) (ended me (with_whole_log s ys) out' sp c)) (index_alike voters_of ids me s ys (told t) sh e) (ended_alike me s ys out out' sp (commit_index voters_of me s) (told t) (bounds voters_of me s sh).0 (bounds voters_of me s sh).1 sh e o))
    (λ t. record { log = ys; node = refl; same = e; out = o; recipients = refl; sees = told })

pub finish_alike : {voters_of : List Entry → List ℕ} {ids : List ℕ} (me : ℕ) (d e : Outcome) → Shape d.node → Alike voters_of ids d e → Alike voters_of ids (finish voters_of me d) (finish (always ids) me e)
finish_alike {voters_of} {ids} me d e sh a =
    subst (λ n. Alike voters_of ids (finish voters_of me d) (finish (always ids) me (record { node = n; out = e.out; recipients = e.recipients }))) (sym a.node)
    (subst (λ p. Alike voters_of ids (finish voters_of me d) (finish (always ids) me (record { node = with_whole_log d.node a.log; out = e.out; recipients = p }))) (sym a.recipients) (finish_at me d.node a.log d.out e.out d.recipients a.sees sh a.same a.out))

-- what is known of two steps: the same node except for what is compacted, and the same
-- messages
pub record AlikeStep (d e : Outcome) : Type 0 where
  pub log : List Entry
  pub node : e.node ≡ with_whole_log d.node log
  pub same : Same d.node.base d.node.snapshot.index d.node.log log
  pub out : AlikeAll d.out e.out

pub steps_alike : {voters_of : List Entry → List ℕ} {ids : List ℕ} (d e : Outcome) → Alike voters_of ids d e → AlikeStep d e
steps_alike d e a = record { log = a.log; node = a.node; same = a.same; out = a.out }

served_at : (me : ℕ) (s : Node) (ys : List Entry) (out out' : List Message) (sp : Recipients) → Shape s → Same s.base s.snapshot.index s.log ys → AlikeAll out out' → AlikeStep (serve me (record { node = s; out = out; recipients = sp })) (serve me (record { node = with_whole_log s ys; out = out'; recipients = sp }))
unfolding serve
served_at me s ys out out' sp sh e o = at (is_leader s.role)
  where
    at : (b : Bool) → AlikeStep (cond b (sends me (record { node = s; out = out; recipients = sp })) (record { node = s; out = out; recipients = sp })) (cond b (sends me (record { node = with_whole_log s ys; out = out'; recipients = sp })) (record { node = with_whole_log s ys; out = out'; recipients = sp }))
    at true = record { log = ys; node = refl; same = e; out = alikes_append out out' _ _ o (all_to (map (message_to me s) (receivers me s sp)) _ _ (ap (map (message_to me (with_whole_log s ys))) (receivers_alike me s ys sp)) (sends_alike me s ys (receivers me s sp) sh e)) }
    at false = record { log = ys; node = refl; same = e; out = o }

pub serve_alike : (me : ℕ) (d e : Outcome) → Shape d.node → AlikeServed d e → AlikeStep (serve me d) (serve me e)
serve_alike me d e sh a =
    subst (λ n. AlikeStep (serve me d) (serve me (record { node = n; out = e.out; recipients = e.recipients }))) (sym a.node)
    (subst (λ p. AlikeStep (serve me d) (serve me (record { node = with_whole_log d.node a.log; out = e.out; recipients = p }))) (sym a.recipients) (served_at me d.node a.log d.out e.out d.recipients sh a.same a.out))

-- what the node was told of the voters, as an input needs it
abbrev pub SeesAt : (List Entry → List ℕ) → List ℕ → Node → Input → Type 0
SeesAt voters_of ids s (Local (UseServers servers)) = Unit {0}
SeesAt voters_of ids s (Local (Propose es)) = voters_of (s.log ++ with_term s.term es) ≡ ids
SeesAt voters_of ids s (Local Timeout) = Sees voters_of ids s.log
SeesAt voters_of ids s (Local Beat) = Sees voters_of ids s.log
SeesAt voters_of ids s (Local Yield) = Sees voters_of ids s.log
SeesAt voters_of ids s (Local (Transfer to)) = Sees voters_of ids s.log
SeesAt voters_of ids s (Local (Snapped i)) = Sees voters_of ids s.log
SeesAt voters_of ids s (Receive m) = Sees voters_of ids s.log

-- the node's state and its messages after a step are known from what it has, whatever was compacted
pub step_alike : (voters_of : List Entry → List ℕ) (ids : List ℕ) (me : ℕ) (s : Node) (ys : List Entry) (i j : Input) → SeesAt voters_of ids s i → Shape s → Shape (rule_of voters_of me s i).node → Same s.base s.snapshot.index s.log ys → AlikeInput i j → AlikeStep (raft_step voters_of me s i) (raft_step (always ids) me (with_whole_log s ys) j)
unfolding raft_step
step_alike voters_of ids me s ys (Local Timeout) j told sh after e a = subst (λ j. AlikeStep (raft_step voters_of me s (Local Timeout)) (raft_step (always ids) me (with_whole_log s ys) j)) (sym a) (steps_alike _ _ (finish_alike me _ _ after (stand_alike false me s ys told sh e)))
step_alike voters_of ids me s ys (Local Beat) j told sh after e a = subst (λ j. AlikeStep (raft_step voters_of me s (Local Beat)) (raft_step (always ids) me (with_whole_log s ys) j)) (sym a) (steps_alike _ _ (finish_alike me _ _ after (on_beat_alike s ys told.now e)))
step_alike voters_of ids me s ys (Local Yield) j told sh after e a =
    subst (λ j. AlikeStep (raft_step voters_of me s (Local Yield)) (raft_step (always ids) me (with_whole_log s ys) j)) (sym a)
    (steps_alike _ _ (finish_alike me _ _ after (on_yield_alike s ys told.now e)))
step_alike voters_of ids me s ys (Local (Propose es)) j told sh after e a = subst (λ j. AlikeStep (raft_step voters_of me s (Local (Propose es))) (raft_step (always ids) me (with_whole_log s ys) j)) (sym a) (steps_alike _ _ (finish_alike me _ _ after (on_propose_alike s ys es told sh e)))
step_alike voters_of ids me s ys (Local (Transfer to)) j told sh after e a = subst (λ j. AlikeStep (raft_step voters_of me s (Local (Transfer to))) (raft_step (always ids) me (with_whole_log s ys) j)) (sym a) (steps_alike _ _ (finish_alike me _ _ after (on_transfer_alike me s ys to told.now e)))
step_alike voters_of ids me s ys (Local (Snapped i)) j told sh after e a = subst (λ j. AlikeStep (raft_step voters_of me s (Local (Snapped i))) (raft_step (always ids) me (with_whole_log s ys) j)) (sym a) (steps_alike _ _ (finish_alike me _ _ after (on_snap_alike s ys i told.now sh e)))
step_alike voters_of ids me s ys (Local (UseServers servers)) j told sh after e a = subst (λ j. AlikeStep (raft_step voters_of me s (Local (UseServers servers))) (raft_step (always ids) me (with_whole_log s ys) j)) (sym a) (serve_alike me _ _ after (on_servers_alike me s ys servers e))
step_alike voters_of ids me s ys (Receive m) j told sh after e a = subst (λ j. AlikeStep (raft_step voters_of me s (Receive m)) (raft_step (always ids) me (with_whole_log s ys) j)) (sym a.1) (steps_alike _ _ (finish_alike me _ _ after (on_message_alike me s ys m a.0 told sh e a.2)))
