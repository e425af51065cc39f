-- Each rule gives the same step at two logs that are the same past the cut.
use Rattle.std.proofs.Common.{◌≡◌, ℕ, suc, ◌+◌, ◌-◌, ◌<◌, ◌≤◌, max, Bool, true, false, cond, List, [], ◌∷◌, ◌++◌, length, drop, refl, sym, ap, ◌∙◌, subst, ⊎_elim, arith}
use Rattle.std.specs.Prelude.{◌==◌, ◌&&◌, ◌||◌, not, nat_lt, nat_le, map}
use Rattle.std.proofs.lemmas.Bool.{cases_Bool, and_parts, or_cases, or_left, ltb-true, leb-true, leb-false}
use Rattle.raft_spec.specs.Log.{Entry, LogEnd, term_at, log_end, matches, conflict_place, first_replaced, accept_above, first_replaced_above, is_up_to_date}
use Rattle.raft_spec.specs.Node.{What, AskVote, Vote, Append, Ack, Install, TimeoutNow, Message, Leader, Node, Server, Outcome, Recipients, Nobody, Everyone, Only, among, others, peers, majority, is_leader, is_candidate}
use Rattle.raft_spec.specs.Outcomes.{quiet, says, sends_to, in_newer_term, as_follower, with_log, with_vote, with_grants, barrier, answer, with_term}
use Rattle.raft_spec.specs.Elections.{as_candidate, on_grants, ask_vote, may_start_election, on_yield, start_election, on_ask_vote, grants_with, on_vote}
use Rattle.raft_spec.specs.Elections.{may_grant}
use Rattle.raft_spec.specs.Replication.{take_entries, agrees, replaces_committed, on_append, good_ack, bad_ack, on_ack, on_propose, on_beat, on_transfer}
use Rattle.raft_spec.specs.Snapshots.{installed, on_install, on_snapped}
use Rattle.raft_spec.specs.Membership.{gained, with_servers, on_servers}
use Rattle.raft_spec.specs.Receiving.{on_own_term, on_older_term, in_range, on_message}
use Rattle.raft_spec.specs.Compaction.{with_whole_log}
use Rattle.raft_safety.specs.Cuts.{Same, AlikeWhat, AlikeMessage, AlikeAll}
use Rattle.raft_safety.proofs.Reaches.{off}
use Rattle.raft_safety.proofs.Alikes.{same_term, same_drop, same_end, same_append, same_accept}

pub record Shape (s : Node) : Type 0 where
  pub low : s.base ≤ s.snapshot.index
  pub applied : s.snapshot.index ≤ s.commit
  pub within : s.commit ≤ length s.log

-- the voters by the log are those that the node was told, also once a barrier follows
pub record Sees (voters_of : List Entry → List ℕ) (ids : List ℕ) (xs : List Entry) : Type 0 where
  pub now : voters_of xs ≡ ids
  pub barrier : (t : ℕ) → voters_of (xs ++ barrier t ∷ []) ≡ ids

pub record Alike (voters_of : List Entry → List ℕ) (ids : List ℕ) (d e : Outcome) : Type 0 where
  pub log : List Entry
  pub node : e.node ≡ with_whole_log d.node log
  pub same : Same d.node.base d.node.snapshot.index d.node.log log
  pub out : AlikeAll d.out e.out
  pub recipients : e.recipients ≡ d.recipients
  pub sees : is_leader d.node.role ≡ true → voters_of d.node.log ≡ ids

-- the voters that the code's node goes by
abbrev pub always : List ℕ → List Entry → List ℕ
always ids log = ids

alike_at : {voters_of : List Entry → List ℕ} {ids : List ℕ} (b : Bool) (x y v w : Outcome) → (b ≡ true → Alike voters_of ids x v) → (b ≡ false → Alike voters_of ids y w) → Alike voters_of ids (cond b x y) (cond b v w)
alike_at true x y v w p q = p refl
alike_at false x y v w p q = q refl

pub alike_cond : {voters_of : List Entry → List ℕ} {ids : List ℕ} (b c : Bool) (x y v w : Outcome) → b ≡ c → (b ≡ true → Alike voters_of ids x v) → (b ≡ false → Alike voters_of ids y w) → Alike voters_of ids (cond b x y) (cond c v w)
alike_cond {voters_of} {ids} b c x y v w e p q = subst (λ c. Alike voters_of ids (cond b x y) (cond c v w)) e (alike_at b x y v w p q)

quiet_alike : {voters_of : List Entry → List ℕ} {ids : List ℕ} (s : Node) (ys : List Entry) → voters_of s.log ≡ ids → Same s.base s.snapshot.index s.log ys → Alike voters_of ids (quiet s) (quiet (with_whole_log s ys))
quiet_alike s ys told e = record { log = ys; node = refl; same = e; out = refl; recipients = refl; sees = λ l. told }

-- one message, of which the two nodes know the same
says_alike : {voters_of : List Entry → List ℕ} {ids : List ℕ} (s : Node) (ys : List Entry) (m k : Message) → (is_leader s.role ≡ true → voters_of s.log ≡ ids) → Same s.base s.snapshot.index s.log ys → AlikeMessage m k → Alike voters_of ids (says s m) (says (with_whole_log s ys) k)
says_alike s ys m k told e a = record { log = ys; node = refl; same = e; out = (k, [], refl, a, refl); recipients = refl; sees = told }

on_ask_alike : {voters_of : List Entry → List ℕ} {ids : List ℕ} (me : ℕ) (s : Node) (ys : List Entry) (from : ℕ) (last : LogEnd) → voters_of s.log ≡ ids → Shape s → Same s.base s.snapshot.index s.log ys → Alike voters_of ids (on_ask_vote me s from last) (on_ask_vote me (with_whole_log s ys) from last)
unfolding on_ask_vote may_grant
on_ask_alike me s ys from last told sh e =
    let low = sh.applied in
    let end = same_end sh.low (let x = sh.within in omega arith) e in
    alike_cond (((s.vote == 0) || (s.vote == from)) && is_up_to_date last (log_end s.log)) (((s.vote == 0) || (s.vote == from)) && is_up_to_date last (log_end ys)) _ _ _ _ (ap (λ x. ((s.vote == 0) || (s.vote == from)) && is_up_to_date last x) end)
    (λ t. says_alike (with_vote s from) ys _ _ (λ l. told) e (record { from = refl; to = refl; term = refl; what = refl }))
    (λ t. says_alike s ys _ _ (λ l. told) e (record { from = refl; to = refl; term = refl; what = refl }))

-- after the entries come
takes_alike : {voters_of : List Entry → List ℕ} {ids : List ℕ} (me : ℕ) (s : Node) (ys : List Entry) (from : ℕ) (prev : LogEnd) (commit : ℕ) (es : List Entry) → Shape s → prev.index ≤ length s.log → Same s.base s.snapshot.index s.log ys → Alike voters_of ids (take_entries me (as_follower s from) from prev commit es) (take_entries me (with_whole_log (as_follower s from) ys) from prev commit es)
unfolding take_entries accept_above
takes_alike me s ys from prev commit es sh le e =
    let p = max prev.index s.snapshot.index in
    let up = sh.applied in
    let in_log = sh.within in
    let same = same_accept p (drop (p - prev.index) es) sh.low (omega arith) (omega arith) e in
    record { log = accept_above ys s.snapshot.index prev.index es; node = refl; same = same; out = (_, [], refl, record { from = refl; to = refl; term = refl; what = refl }, refl); recipients = refl; sees = λ l. off l }

cut_alike : (s : Node) (ys : List Entry) (prev : LogEnd) (es : List Entry) → Shape s → Same s.base s.snapshot.index s.log ys → first_replaced_above s.log s.snapshot.index prev.index es ≡ first_replaced_above ys s.snapshot.index prev.index es
unfolding first_replaced_above first_replaced
cut_alike s ys prev es sh e =
    let p = max prev.index s.snapshot.index in
    let low = sh.low in
    let same = same_drop p (omega arith) e in
    ap (λ l. cond (conflict_place l (drop (p - prev.index) es) == 0) 0 (p + conflict_place l (drop (p - prev.index) es))) same

cuts_alike : (s : Node) (ys : List Entry) (prev : LogEnd) (es : List Entry) → Shape s → Same s.base s.snapshot.index s.log ys → replaces_committed s prev es ≡ replaces_committed (with_whole_log s ys) prev es
unfolding replaces_committed
cuts_alike s ys prev es sh e = ap (λ c. nat_lt 0 c && nat_le c s.commit) (cut_alike s ys prev es sh e)

agrees_alike : (s : Node) (ys : List Entry) (prev : LogEnd) → Shape s → Same s.base s.snapshot.index s.log ys → agrees s prev ≡ agrees (with_whole_log s ys) prev
unfolding agrees matches
agrees_alike s ys prev sh e =
    ⊎_elim
    (λ (t : nat_le prev.index s.snapshot.index ≡ true). or_left _ _ t ∙ sym (or_left _ _ t))
    (λ (f : nat_le prev.index s.snapshot.index ≡ false).
    let low = sh.low in
    let lt = leb-false _ _ f in
    let term = same_term prev.index (omega arith) e in
    ap (λ n. nat_le prev.index s.snapshot.index || (nat_le prev.index n && (term_at s.log prev.index == prev.term))) e.len ∙ ap (λ t. nat_le prev.index s.snapshot.index || (nat_le prev.index (length ys) && (t == prev.term))) term)
    (cases_Bool (nat_le prev.index s.snapshot.index))

agrees_within : (s : Node) (prev : LogEnd) → Shape s → agrees s prev ≡ true → prev.index ≤ length s.log
unfolding agrees matches
agrees_within s prev sh e =
    let a = sh.applied in
    let b = sh.within in
    ⊎_elim (λ (t : nat_le prev.index s.snapshot.index ≡ true). let x = leb-true _ _ t in omega arith)
    (λ (t : (nat_le prev.index (length s.log) && (term_at s.log prev.index == prev.term)) ≡ true). leb-true _ _ (and_parts _ _ t).0)
    (or_cases _ _ e)

on_append_alike : {voters_of : List Entry → List ℕ} {ids : List ℕ} (me : ℕ) (s : Node) (ys : List Entry) (from : ℕ) (prev : LogEnd) (commit : ℕ) (es : List Entry) → voters_of s.log ≡ ids → Shape s → Same s.base s.snapshot.index s.log ys → Alike voters_of ids (on_append me s from prev commit es) (on_append me (with_whole_log s ys) from prev commit es)
unfolding on_append
on_append_alike me s ys from prev commit es told sh e =
    alike_cond (is_leader s.role) (is_leader s.role) _ _ _ _ refl (λ t. quiet_alike s ys told e)
    (λ t. alike_cond (agrees s prev) (agrees (with_whole_log s ys) prev) _ _ _ _ (agrees_alike s ys prev sh e)
    (λ a. alike_cond (replaces_committed s prev es) (replaces_committed (with_whole_log s ys) prev es) _ _ _ _ (cuts_alike s ys prev es sh e) (λ q. quiet_alike s ys told e)
    (λ q. takes_alike me s ys from prev commit es sh (agrees_within s prev sh a) e))
    (λ a. says_alike (as_follower s from) ys _ _ (λ l. told) e (record { from = refl; to = refl; term = refl; what = ap (λ n. Ack false n) (sym e.len) })))

matches_alike : (s : Node) (ys : List Entry) (last : LogEnd) → s.base < last.index → Same s.base s.snapshot.index s.log ys → matches s.log last ≡ matches ys last
unfolding matches
matches_alike s ys last lt e =
    let term = same_term last.index lt e in
    ap (λ n. nat_le last.index n && (term_at s.log last.index == last.term)) e.len ∙ ap (λ t. nat_le last.index (length ys) && (t == last.term)) term

on_install_alike : {voters_of : List Entry → List ℕ} {ids : List ℕ} (me : ℕ) (s : Node) (ys : List Entry) (from : ℕ) (last : LogEnd) (front front' : List Entry) → voters_of s.log ≡ ids → Shape s → Same s.base s.snapshot.index s.log ys → Same last.index last.index front front' → Alike voters_of ids (on_install me s from last front) (on_install me (with_whole_log s ys) from last front')
unfolding on_install
on_install_alike me s ys from last front front' told sh e f =
    alike_cond (is_leader s.role) (is_leader s.role) _ _ _ _ refl (λ t. quiet_alike s ys told e)
    (λ t. alike_cond (nat_le last.index s.commit) (nat_le last.index s.commit) _ _ _ _ refl (λ q. says_alike (as_follower s from) ys _ _ (λ l. told) e (record { from = refl; to = refl; term = refl; what = refl }))
    (λ q.
    let lt : s.commit < last.index = leb-false _ _ q in
    let low = sh.low in
    let up = sh.applied in
    alike_cond (matches s.log last) (matches ys last) _ _ _ _ (matches_alike s ys last (omega arith) e)
    (λ a. says_alike (installed (as_follower s from) last s.log) ys _ _ (λ l. off l) (record { len = e.len; rest = same_drop last.index (omega arith) e; snapshot = same_term last.index (omega arith) e }) (record { from = refl; to = refl; term = refl; what = refl }))
    (λ a. says_alike (installed (as_follower s from) last front) front' _ _ (λ l. off l) f (record { from = refl; to = refl; term = refl; what = refl }))))

snapped : Node → ℕ → ℕ → Node
snapped s i t = record s { snapshot = record { index = i; term = t }; base = max s.base (i - 16) }

pub on_snap_alike : {voters_of : List Entry → List ℕ} {ids : List ℕ} (s : Node) (ys : List Entry) (i : ℕ) → voters_of s.log ≡ ids → Shape s → Same s.base s.snapshot.index s.log ys → Alike voters_of ids (on_snapped s i) (on_snapped (with_whole_log s ys) i)
unfolding on_snapped snapped
on_snap_alike s ys i told sh e =
    alike_cond (nat_lt s.snapshot.index i && nat_le i s.commit) (nat_lt s.snapshot.index i && nat_le i s.commit) _ _ _ _ refl
    (λ t.
    let lt : s.snapshot.index < i = ltb-true _ _ (and_parts _ _ t).0 in
    let low = sh.low in
    let same = same_term i (omega arith) e in
    record {
      log = ys;
      node = ap (λ t. with_whole_log (snapped s i t) ys) (sym same);
      same = record { len = e.len; rest = same_drop (max s.base (i - 16)) (omega arith) e; snapshot = same };
      out = refl;
      recipients = refl;
      sees = λ l. told;
    })
    (λ t. quiet_alike s ys told e)

spread_alike : {voters_of : List Entry → List ℕ} {ids : List ℕ} (s : Node) (ys : List Entry) (sp sp' : Recipients) → (is_leader s.role ≡ true → voters_of s.log ≡ ids) → sp' ≡ sp → Same s.base s.snapshot.index s.log ys → Alike voters_of ids (sends_to s sp) (sends_to (with_whole_log s ys) sp')
spread_alike s ys sp sp' told q e = record { log = ys; node = refl; same = e; out = refl; recipients = q; sees = told }

on_ack_alike : {voters_of : List Entry → List ℕ} {ids : List ℕ} (me : ℕ) (s : Node) (ys : List Entry) (from : ℕ) (good : Bool) (index : ℕ) → voters_of s.log ≡ ids → Same s.base s.snapshot.index s.log ys → Alike voters_of ids (on_ack me s from good index) (on_ack me (with_whole_log s ys) from good index)
unfolding on_ack
on_ack_alike me s ys from true index told e =
    alike_cond (is_leader s.role && among (peers s.servers me) from && nat_le index (length s.log)) (is_leader s.role && among (peers s.servers me) from && nat_le index (length ys)) _ _ _ _ (ap (λ n. is_leader s.role && among (peers s.servers me) from && nat_le index n) e.len)
    (λ t. spread_alike (good_ack s from index) ys _ _ (λ l. told) (ap (λ n. cond (nat_lt (max (s.match_of from) index) n) (Only (from ∷ [])) Nobody) (sym e.len)) e)
    (λ t. quiet_alike s ys told e)
on_ack_alike me s ys from false index told e =
    alike_cond (is_leader s.role && among (peers s.servers me) from) (is_leader s.role && among (peers s.servers me) from) _ _ _ _ refl (λ t. spread_alike (bad_ack s from index) ys _ _ (λ l. told) refl e) (λ t. quiet_alike s ys told e)

counted_alike : {voters_of : List Entry → List ℕ} {ids : List ℕ} (me : ℕ) (s : Node) (ys : List Entry) (out out' : List Message) → Sees voters_of ids s.log → Shape s → Same s.base s.snapshot.index s.log ys → AlikeAll out out' → Alike voters_of ids (on_grants voters_of me s out) (on_grants (always ids) me (with_whole_log s ys) out')
unfolding on_grants
counted_alike {voters_of} {ids} me s ys out out' told sh e o =
    let a = sh.applied in
    let b = sh.within in
    alike_cond (majority (voters_of s.log) (among s.grants)) (majority ids (among s.grants)) _ _ _ _ (ap (λ v. majority v (among s.grants)) told.now)
    (λ t. record {
      log = ys ++ barrier s.term ∷ [];
      node = ap (λ n. with_whole_log (with_log (crown s n) (s.log ++ barrier s.term ∷ []) s.commit) (ys ++ barrier s.term ∷ [])) (sym e.len);
      same = same_append (barrier s.term ∷ []) sh.low (omega arith) e;
      out = o;
      recipients = refl;
      sees = λ l. told.barrier s.term;
    })
    (λ t. record { log = ys; node = refl; same = e; out = o; recipients = refl; sees = λ l. told.now })
  where
    crown : Node → ℕ → Node
    crown s n = record s { role = Leader; leader = me; next_of = λ p. cond (among (peers s.servers me) p) (suc n) 1; match_of = λ p. 0 }

asks_alike : (transfer : Bool) (me : ℕ) (s : Node) (ys : List Entry) (vs : List ℕ) → log_end s.log ≡ log_end ys
    → AlikeAll (map (ask_vote me s transfer) vs) (map (ask_vote me (with_whole_log s ys) transfer) vs)
asks_alike transfer me s ys [] e = refl
asks_alike transfer me s ys (v ∷ vs) e = (ask_vote me (with_whole_log s ys) transfer v, map (ask_vote me (with_whole_log s ys) transfer) vs, refl, record { from = refl; to = refl; term = refl; what = ap (λ end. AskVote end transfer) (sym e) }, asks_alike transfer me s ys vs e)

all_over : (ms ks ls : List Message) → ks ≡ ls → AlikeAll ms ks → AlikeAll ms ls
all_over ms ks ls e a = subst (AlikeAll ms) e a

pub stand_alike : (transfer : Bool) {voters_of : List Entry → List ℕ} {ids : List ℕ} (me : ℕ) (s : Node) (ys : List Entry) → Sees voters_of ids s.log
    → Shape s → Same s.base s.snapshot.index s.log ys
    → Alike voters_of ids (start_election voters_of me s transfer) (start_election (always ids) me (with_whole_log s ys) transfer)
unfolding start_election may_start_election
stand_alike transfer {voters_of} {ids} me s ys told sh e =
    let a = sh.applied in
    let b = sh.within in
    alike_cond (may_start_election voters_of me s) (may_start_election (always ids) me (with_whole_log s ys)) _ _ _ _
    (ap (λ v. among v me && nat_lt 0 me && not (is_leader s.role) && nat_lt s.term 4294967295 && nat_lt (length s.log) 4294900000) told.now ∙ ap (λ n. among ids me && nat_lt 0 me && not (is_leader s.role) && nat_lt s.term 4294967295 && nat_lt n 4294900000) e.len)
    (λ t. counted_alike me (as_candidate me s) ys _ _ told (record { low = sh.low; applied = sh.applied; within = sh.within }) e
    (all_over (map (ask_vote me (as_candidate me s) transfer) (others (voters_of s.log) me)) _ _ (ap (λ v. map (ask_vote me (with_whole_log (as_candidate me s) ys) transfer) (others v me)) told.now) (asks_alike transfer me (as_candidate me s) ys (others (voters_of s.log) me) (same_end sh.low (omega arith) e))))
    (λ t. quiet_alike s ys told.now e)

on_vote_alike : {voters_of : List Entry → List ℕ} {ids : List ℕ} (me : ℕ) (s : Node) (ys : List Entry) (from : ℕ) (granted : Bool) → Sees voters_of ids s.log → Shape s → Same s.base s.snapshot.index s.log ys → Alike voters_of ids (on_vote voters_of me s from granted) (on_vote (always ids) me (with_whole_log s ys) from granted)
unfolding on_vote
on_vote_alike {voters_of} {ids} me s ys from granted told sh e =
    alike_cond (granted && is_candidate s.role) (granted && is_candidate s.role) _ _ _ _ refl
    (λ t. subst (λ v. Alike voters_of ids (on_grants voters_of me (with_grants s (grants_with (voters_of s.log) s.grants from)) []) (on_grants (always ids) me (with_whole_log (with_grants s (grants_with v s.grants from)) ys) [])) told.now
    (counted_alike me (with_grants s (grants_with (voters_of s.log) s.grants from)) ys [] [] told (record { low = sh.low; applied = sh.applied; within = sh.within }) e refl))
    (λ t. quiet_alike s ys told.now e)

pub in_turn_alike : {voters_of : List Entry → List ℕ} {ids : List ℕ} (me : ℕ) (s : Node) (ys : List Entry) (from : ℕ) (w v : What) → Sees voters_of ids s.log → Shape s → Same s.base s.snapshot.index s.log ys → AlikeWhat w v → Alike voters_of ids (on_own_term voters_of me s from w) (on_own_term (always ids) me (with_whole_log s ys) from v)
in_turn_alike {voters_of} {ids} me s ys from (AskVote last transfer) v told sh e a =
    subst (λ v. Alike voters_of ids (on_ask_vote me s from last) (on_own_term (always ids) me (with_whole_log s ys) from v)) (sym a)
    (on_ask_alike me s ys from last told.now sh e)
in_turn_alike {voters_of} {ids} me s ys from (Vote granted) v told sh e a = subst (λ v. Alike voters_of ids (on_vote voters_of me s from granted) (on_own_term (always ids) me (with_whole_log s ys) from v)) (sym a) (on_vote_alike me s ys from granted told sh e)
in_turn_alike {voters_of} {ids} me s ys from (Append prev commit es) v told sh e a = subst (λ v. Alike voters_of ids (on_append me s from prev commit es) (on_own_term (always ids) me (with_whole_log s ys) from v)) (sym a) (on_append_alike me s ys from prev commit es told.now sh e)
in_turn_alike {voters_of} {ids} me s ys from (Ack good index) v told sh e a = subst (λ v. Alike voters_of ids (on_ack me s from good index) (on_own_term (always ids) me (with_whole_log s ys) from v)) (sym a) (on_ack_alike me s ys from good index told.now e)
in_turn_alike {voters_of} {ids} me s ys from (Install last front) v told sh e a = subst (λ v. Alike voters_of ids (on_install me s from last front) (on_own_term (always ids) me (with_whole_log s ys) from v)) (sym a.1) (on_install_alike me s ys from last front a.0 told.now sh e a.2)
in_turn_alike {voters_of} {ids} me s ys from TimeoutNow v told sh e a =
    subst (λ v. Alike voters_of ids (start_election voters_of me s true) (on_own_term (always ids) me (with_whole_log s ys) from v)) (sym a)
    (stand_alike true me s ys told sh e)

fresh_says : {voters_of : List Entry → List ℕ} {ids : List ℕ} (me : ℕ) (s : Node) (ys : List Entry) (from : ℕ) (w v : What) → voters_of s.log ≡ ids → Same s.base s.snapshot.index s.log ys → AlikeWhat w v → Alike voters_of ids (says s (answer me s from w)) (says (with_whole_log s ys) (answer me (with_whole_log s ys) from v))
fresh_says me s ys from w v told e a = says_alike s ys _ _ (λ l. told) e (record { from = refl; to = refl; term = refl; what = a })

pub stale_alike : {voters_of : List Entry → List ℕ} {ids : List ℕ} (me : ℕ) (s : Node) (ys : List Entry) (from : ℕ) (w v : What) → voters_of s.log ≡ ids → Same s.base s.snapshot.index s.log ys → AlikeWhat w v → Alike voters_of ids (on_older_term me s from w) (on_older_term me (with_whole_log s ys) from v)
stale_alike {voters_of} {ids} me s ys from (AskVote last transfer) v told e a =
    subst (λ v. Alike voters_of ids (on_older_term me s from (AskVote last transfer)) (on_older_term me (with_whole_log s ys) from v)) (sym a)
    (fresh_says me s ys from (Vote false) (Vote false) told e refl)
stale_alike {voters_of} {ids} me s ys from (Vote granted) v told e a = subst (λ v. Alike voters_of ids (quiet s) (on_older_term me (with_whole_log s ys) from v)) (sym a) (quiet_alike s ys told e)
stale_alike {voters_of} {ids} me s ys from (Append prev commit es) v told e a = subst (λ v. Alike voters_of ids (on_older_term me s from (Append prev commit es)) (on_older_term me (with_whole_log s ys) from v)) (sym a) (fresh_says me s ys from (Ack false (length s.log)) (Ack false (length ys)) told e (ap (λ n. Ack false n) (sym e.len)))
stale_alike {voters_of} {ids} me s ys from (Ack good index) v told e a = subst (λ v. Alike voters_of ids (quiet s) (on_older_term me (with_whole_log s ys) from v)) (sym a) (quiet_alike s ys told e)
stale_alike {voters_of} {ids} me s ys from (Install last front) v told e a = subst (λ v. Alike voters_of ids (on_older_term me s from (Install last front)) (on_older_term me (with_whole_log s ys) from v)) (sym a.1) (fresh_says me s ys from (Ack false (length s.log)) (Ack false (length ys)) told e (ap (λ n. Ack false n) (sym e.len)))
stale_alike {voters_of} {ids} me s ys from TimeoutNow v told e a = subst (λ v. Alike voters_of ids (quiet s) (on_older_term me (with_whole_log s ys) from v)) (sym a) (quiet_alike s ys told e)

-- the range is of what both carry
range_alike : (own : ℕ) (m : Message) (w : What) → AlikeWhat m.what w
    → in_range own m ≡ in_range own (record { from = m.from; to = m.to; term = m.term; what = w })
unfolding in_range
range_alike own m w a = go m.what w a
  where
    go : (x v : What) → AlikeWhat x v → in_range own (record { from = m.from; to = m.to; term = m.term; what = x }) ≡ in_range own (record { from = m.from; to = m.to; term = m.term; what = v })
    go (AskVote last transfer) v a = ap (λ v. in_range own (record { from = m.from; to = m.to; term = m.term; what = v })) (sym a)
    go (Vote granted) v a = ap (λ v. in_range own (record { from = m.from; to = m.to; term = m.term; what = v })) (sym a)
    go (Append prev commit es) v a = ap (λ v. in_range own (record { from = m.from; to = m.to; term = m.term; what = v })) (sym a)
    go (Ack good index) v a = ap (λ v. in_range own (record { from = m.from; to = m.to; term = m.term; what = v })) (sym a)
    go (Install last front) v a = ap (λ v. in_range own (record { from = m.from; to = m.to; term = m.term; what = v })) (sym a.1)
    go TimeoutNow v a = ap (λ v. in_range own (record { from = m.from; to = m.to; term = m.term; what = v })) (sym a)

pub on_message_alike : {voters_of : List Entry → List ℕ} {ids : List ℕ} (me : ℕ) (s : Node) (ys : List Entry) (m : Message) (w : What) → Sees voters_of ids s.log → Shape s → Same s.base s.snapshot.index s.log ys → AlikeWhat m.what w → Alike voters_of ids (on_message voters_of me s m) (on_message (always ids) me (with_whole_log s ys) (record { from = m.from; to = m.to; term = m.term; what = w }))
unfolding on_message
on_message_alike me s ys m w told sh e a =
    alike_cond (in_range s.term m) (in_range s.term (record { from = m.from; to = m.to; term = m.term; what = w })) _ _ _ _ (range_alike s.term m w a)
    (λ t. alike_cond (nat_lt m.term s.term) (nat_lt m.term s.term) _ _ _ _ refl (λ q. stale_alike me s ys m.from m.what w told.now e a)
    (λ q. alike_cond (nat_lt s.term m.term) (nat_lt s.term m.term) _ _ _ _ refl
    (λ r. in_turn_alike me (in_newer_term s m.term) ys m.from m.what w told (record { low = sh.low; applied = sh.applied; within = sh.within }) e a)
    (λ r. in_turn_alike me s ys m.from m.what w told sh e a)))
    (λ t. quiet_alike s ys told.now e)

pub on_propose_alike : {voters_of : List Entry → List ℕ} {ids : List ℕ} (s : Node) (ys es : List Entry) → voters_of (s.log ++ with_term s.term es) ≡ ids → Shape s → Same s.base s.snapshot.index s.log ys → Alike voters_of ids (on_propose s es) (on_propose (with_whole_log s ys) es)
unfolding on_propose
on_propose_alike s ys es told sh e =
    let a = sh.applied in
    let b = sh.within in
    alike_cond (is_leader s.role) (is_leader s.role) _ _ _ _ refl
    (λ t. record { log = ys ++ with_term s.term es; node = refl; same = same_append (with_term s.term es) sh.low (omega arith) e; out = refl; recipients = refl; sees = λ l. told })
    (λ t. record { log = ys; node = refl; same = e; out = refl; recipients = refl; sees = λ l. absurd (true_false (sym l ∙ t)) })
  where
    true_false : true ≡ false → ⊥
    true_false q = off (sym q)

pub on_beat_alike : {voters_of : List Entry → List ℕ} {ids : List ℕ} (s : Node) (ys : List Entry) → voters_of s.log ≡ ids → Same s.base s.snapshot.index s.log ys → Alike voters_of ids (on_beat s) (on_beat (with_whole_log s ys))
unfolding on_beat
on_beat_alike s ys told e = alike_cond (is_leader s.role) (is_leader s.role) _ _ _ _ refl (λ t. spread_alike s ys Everyone Everyone (λ l. told) refl e) (λ t. quiet_alike s ys told e)

pub on_yield_alike : {voters_of : List Entry → List ℕ} {ids : List ℕ} (s : Node) (ys : List Entry) → voters_of s.log ≡ ids
    → Same s.base s.snapshot.index s.log ys → Alike voters_of ids (on_yield s) (on_yield (with_whole_log s ys))
unfolding on_yield
on_yield_alike s ys told e =
    alike_cond (is_leader s.role && nat_lt s.term 4294967295) (is_leader s.role && nat_lt s.term 4294967295) _ _ _ _ refl
    (λ t. quiet_alike (in_newer_term s (suc s.term)) ys told e) (λ t. quiet_alike s ys told e)

pub on_transfer_alike : {voters_of : List Entry → List ℕ} {ids : List ℕ} (me : ℕ) (s : Node) (ys : List Entry) (to : ℕ) → voters_of s.log ≡ ids → Same s.base s.snapshot.index s.log ys → Alike voters_of ids (on_transfer me s to) (on_transfer me (with_whole_log s ys) to)
unfolding on_transfer
on_transfer_alike me s ys to told e = alike_cond (is_leader s.role && not (to == me)) (is_leader s.role && not (to == me)) _ _ _ _ refl (λ t. fresh_says me s ys to TimeoutNow TimeoutNow told e refl) (λ t. quiet_alike s ys told e)

-- other servers: here the voters are not read
pub record AlikeServed (d e : Outcome) : Type 0 where
  pub log : List Entry
  pub node : e.node ≡ with_whole_log d.node log
  pub same : Same d.node.base d.node.snapshot.index d.node.log log
  pub out : AlikeAll d.out e.out
  pub recipients : e.recipients ≡ d.recipients

pub on_servers_alike : (me : ℕ) (s : Node) (ys : List Entry) (servers : List Server) → Same s.base s.snapshot.index s.log ys → AlikeServed (on_servers me s servers) (on_servers me (with_whole_log s ys) servers)
unfolding on_servers
on_servers_alike me s ys servers e = at (is_leader s.role)
  where
    told : Node → ℕ → Node
    told s n = record s { servers = servers; next_of = λ p. cond (among (peers servers me) p) (cond (among (peers s.servers me) p) (s.next_of p) (suc n)) 1; match_of = λ p. cond (among (peers servers me) p && among (peers s.servers me) p) (s.match_of p) 0 }

    at : (b : Bool) → AlikeServed (cond b (sends_to (with_servers me s servers) (Only (gained (peers s.servers me) (peers servers me)))) (quiet (with_servers me s servers))) (cond b (sends_to (with_servers me (with_whole_log s ys) servers) (Only (gained (peers s.servers me) (peers servers me)))) (quiet (with_servers me (with_whole_log s ys) servers)))
    at true = record { log = ys; node = ap (λ n. with_whole_log (told s n) ys) (sym e.len); same = e; out = refl; recipients = refl }
    at false = record { log = ys; node = ap (λ n. with_whole_log (told s n) ys) (sym e.len); same = e; out = refl; recipients = refl }
