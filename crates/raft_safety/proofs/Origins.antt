-- What one step makes of a node's log, and what is sent of it.
use Rattle.std.proofs.Common.{◌≡◌, ◌≢◌, ◌⊎◌, inl, inr, ℕ, zero, suc, ◌+◌, ◌-◌, ◌<◌, ◌≤◌, Bool, true, false, true≢false, List, [], ◌∷◌, ◌++◌, length, take, drop, max, refl, sym, ap, ◌∙◌, subst, ⊎_elim, arith}
use Rattle.std.specs.Prelude.{◌==◌, ◌&&◌, not, nat_lt, nat_le, map}
use Rattle.std.proofs.lemmas.List.{length-take-le}
use Rattle.std.proofs.lemmas.Bool.{cond_both, or_cases, leb-true}
use Rattle.raft_spec.specs.Log.{Entry, LogEnd, nth_term, term_at, merged, accept, accept_above, matches}
use Rattle.raft_spec.specs.Node.{What, AskVote, Vote, Append, Ack, Install, TimeoutNow, Message, Node, Outcome, Recipients, Nobody, Everyone, Only, among, others, peers, majority, is_leader, is_candidate, Timeout, Beat, Yield, Propose, Transfer, Snapped, UseServers, Input, Local, Receive}
use Rattle.raft_spec.specs.Outcomes.{in_newer_term, as_follower, with_log, with_vote, with_grants, barrier, answer}
use Rattle.raft_spec.specs.Elections.{as_candidate, on_grants, ask_vote, may_start_election, on_yield, start_election, grants_vote, on_ask_vote}
use Rattle.raft_spec.specs.Elections.{grants_with, on_vote}
use Rattle.raft_spec.specs.Replication.{agrees, take_entries, replaces_committed, on_append, good_ack, bad_ack, on_ack, on_propose, on_beat, on_transfer}
use Rattle.raft_spec.specs.Snapshots.{installed, on_install, on_snapped}
use Rattle.raft_spec.specs.Membership.{with_servers, on_servers, gained}
use Rattle.raft_spec.specs.Commitment.{commit_index}
use Rattle.raft_spec.specs.Receiving.{on_own_term, on_older_term, in_range, on_message}
use Rattle.raft_spec.specs.Steps.{message_to, finish, serve, raft_step}
use Rattle.raft_safety.specs.Members.{Setup, voters_after, may_take, member_step}
use Rattle.raft_safety.specs.Sources.{Adds, nothing_new, a_barrier, proposed, LeadersAdd}
use Rattle.raft_safety.proofs.Logs.{nth_at, term_at-suc}
use Rattle.raft_safety.proofs.Appends.{matches_parts}
use Rattle.raft_safety.proofs.Shapes.{rule_of}

-- what a message carries at an index
abbrev pub InWhat : What → ℕ → ℕ → Type 0
InWhat (AskVote last transfer) j t = ⊥
InWhat (Vote granted) j t = ⊥
InWhat (Append prev commit es) j t = (k : ℕ) × (j ≡ suc (prev.index + k)) × (nth_term es k ≡ t)
InWhat (Ack good index) j t = ⊥
InWhat (Install last front) j t = term_at front j ≡ t
InWhat TimeoutNow j t = ⊥

abbrev pub Carries : Input → ℕ → ℕ → Type 0
Carries (Local local) j t = ⊥
Carries (Receive m) j t = InWhat m.what j t

pub data Step (s : Node) (i : Input) (d : Node) : Type 0 where
  same : d.log ≡ s.log → Step s i d
  own : is_leader d.role ≡ true → Adds s i d → Step s i d
  taken : is_leader d.role ≡ false → ((j t : ℕ) → term_at d.log j ≡ t → t ≢ 0 → (term_at s.log j ≡ t) ⊎ Carries i j t) → Step s i d

-- a message with no entries
abbrev pub Bare : What → Type 0
Bare (AskVote last transfer) = Unit {0}
Bare (Vote granted) = Unit {0}
Bare (Append prev commit es) = ⊥
Bare (Ack good index) = Unit {0}
Bare (Install last front) = ⊥
Bare TimeoutNow = Unit {0}

abbrev pub AllBare : List Message → Type 0
AllBare [] = Unit {0}
AllBare (m ∷ ms) = Bare m.what × AllBare ms

pub record Ruled (s : Node) (i : Input) (d : Outcome) : Type 0 where
  pub step : Step s i d.node
  pub bare : AllBare d.out

still : (s : Node) (i : Input) (d : Node) (out : List Message) (sp : Recipients) → d.log ≡ s.log → AllBare out → Ruled s i (record { node = d; out = out; recipients = sp })
still s i d out sp e b = record { step = same e; bare = b }

bare_map : (f : ℕ → Message) (xs : List ℕ) → ((x : ℕ) → Bare (f x).what) → AllBare (map f xs)
bare_map f [] h = tt
bare_map f (x ∷ xs) h = (h x, bare_map f xs h)

-- standing and counting
counted_ruled : (voters_of : List Entry → List ℕ) (me : ℕ) (s c : Node) (i : Input) (out : List Message) → c.log ≡ s.log → AllBare out → Ruled s i (on_grants voters_of me c out)
unfolding on_grants
counted_ruled voters_of me s c i out e b = cond_both (majority (voters_of c.log) (among c.grants)) _ _ (Ruled s i)
    (λ z. record { step = own refl (a_barrier (ap (λ l. l ++ barrier c.term ∷ []) e)); bare = b })
    (λ z. still s i c out Nobody e b)

stand_ruled : (transfer : Bool) (voters_of : List Entry → List ℕ) (me : ℕ) (s b : Node) (i : Input) → s.log ≡ b.log
    → Ruled b i (start_election voters_of me s transfer)
unfolding start_election
stand_ruled transfer voters_of me s b i e = cond_both (may_start_election voters_of me s) _ _ (Ruled b i)
    (λ z. counted_ruled voters_of me b (as_candidate me s) i _ e (bare_map (ask_vote me (as_candidate me s) transfer) (others (voters_of s.log) me) (λ x. tt)))
    (λ z. still b i s [] Nobody e tt)

on_ask_ruled : (me : ℕ) (s b : Node) (i : Input) (from : ℕ) (last : LogEnd) → s.log ≡ b.log → Ruled b i (on_ask_vote me s from last)
unfolding on_ask_vote
on_ask_ruled me s b i from last e = cond_both (grants_vote s from last) _ _ (Ruled b i) (λ z. still b i (with_vote s from) (answer me s from (Vote true) ∷ []) Nobody e (tt, tt)) (λ z. still b i s (answer me s from (Vote false) ∷ []) Nobody e (tt, tt))

on_vote_ruled : (voters_of : List Entry → List ℕ) (me : ℕ) (s b : Node) (i : Input) (from : ℕ) (granted : Bool) → s.log ≡ b.log → Ruled b i (on_vote voters_of me s from granted)
unfolding on_vote
on_vote_ruled voters_of me s b i from granted e = cond_both (granted && is_candidate s.role) _ _ (Ruled b i) (λ z. counted_ruled voters_of me b (with_grants s (grants_with (voters_of s.log) s.grants from)) i [] e tt) (λ z. still b i s [] Nobody e tt)

-- entries that are taken

merged_from : (rest es : List Entry) (k t : ℕ) → nth_term (merged rest es) k ≡ t → (nth_term rest k ≡ t) ⊎ (nth_term es k ≡ t)
unfolding merged
merged_from rest [] k t e = inl e
merged_from [] (x ∷ xs) k t e = inr e
merged_from (r ∷ rs) (x ∷ xs) zero t e = cond_both (r.term == x.term) (r ∷ merged rs xs) (x ∷ xs) (λ l. nth_term l 0 ≡ t → (r.term ≡ t) ⊎ (x.term ≡ t)) (λ z q. inl q) (λ z q. inr q) e
merged_from (r ∷ rs) (x ∷ xs) (suc k) t e = cond_both (r.term == x.term) (r ∷ merged rs xs) (x ∷ xs) (λ l. nth_term l (suc k) ≡ t → (nth_term rs k ≡ t) ⊎ (nth_term xs k ≡ t)) (λ z q. merged_from rs xs k t q) (λ z q. inr q) e

nth_drop : (p : ℕ) (xs : List Entry) (k : ℕ) → nth_term (drop p xs) k ≡ nth_term xs (p + k)
nth_drop p xs k = nth_at p k xs ∙ term_at-suc xs (p + k)

nth_front : (n : ℕ) (xs : List Entry) (k t : ℕ) → nth_term (take n xs) k ≡ t → t ≢ 0 → nth_term xs k ≡ t
nth_front zero xs k t e nz = absurd (nz (sym e))
nth_front (suc n) [] k t e nz = e
nth_front (suc n) (x ∷ xs) zero t e nz = e
nth_front (suc n) (x ∷ xs) (suc k) t e nz = nth_front n xs k t e nz

nth_joined : (xs ys : List Entry) (k t : ℕ) → nth_term (xs ++ ys) k ≡ t → ((k < length xs) × (nth_term xs k ≡ t)) ⊎ ((length xs ≤ k) × (nth_term ys (k - length xs) ≡ t))
nth_joined [] ys k t e = let z : k - 0 ≡ k = omega arith in inr (omega arith, ap (nth_term ys) z ∙ e)
nth_joined (x ∷ xs) ys zero t e = inl (omega arith, e)
nth_joined (x ∷ xs) ys (suc k) t e = ⊎_elim (λ (p : (k < length xs) × (nth_term xs k ≡ t)). inl (let q = p.0 in omega arith, p.1)) (λ (p : (length xs ≤ k) × (nth_term ys (k - length xs) ≡ t)). let q = p.0 in let z : suc k - suc (length xs) ≡ k - length xs = omega arith in inr (omega arith, ap (nth_term ys) z ∙ p.1)) (nth_joined xs ys k t e)

-- an index of a log after entries were taken in after a place
accept_from : (log : List Entry) (p : ℕ) (es : List Entry) (k t : ℕ) → p ≤ length log → nth_term (accept log p es) k ≡ t → t ≢ 0 → (nth_term log k ≡ t) ⊎ ((q : ℕ) × (k ≡ p + q) × (nth_term es q ≡ t))
unfolding accept
accept_from log p es k t h e nz =
    let long = length-take-le p log h in
    ⊎_elim
    (λ (x : (k < length (take p log)) × (nth_term (take p log) k ≡ t)). inl (nth_front p log k t x.1 nz))
    (λ (x : (length (take p log) ≤ k) × (nth_term (merged (drop p log) es) (k - length (take p log)) ≡ t)).
    let at = x.0 in
    let q = k - length (take p log) in
    let back : p + q ≡ k = omega arith in
    ⊎_elim (λ (y : nth_term (drop p log) q ≡ t). inl (ap (nth_term log) (sym back) ∙ sym (nth_drop p log q) ∙ y)) (λ (y : nth_term es q ≡ t). inr (q, sym back, y)) (merged_from (drop p log) es q t x.1))
    (nth_joined (take p log) (merged (drop p log) es) k t e)

take_from : (log : List Entry) (floor prev : ℕ) (es : List Entry) (j t : ℕ) → max prev floor ≤ length log → term_at (accept_above log floor prev es) j ≡ t → t ≢ 0 → (term_at log j ≡ t) ⊎ ((k : ℕ) × (j ≡ suc (prev + k)) × (nth_term es k ≡ t))
unfolding accept_above term_at
take_from log floor prev es zero t h e nz = absurd (nz (sym e))
take_from log floor prev es (suc k) t h e nz =
    let d = max prev floor - prev in
    ⊎_elim (λ (x : nth_term log k ≡ t). inl x)
    (λ (x : (q : ℕ) × (k ≡ max prev floor + q) × (nth_term (drop d es) q ≡ t)).
    let at = x.1 in
    let place : suc k ≡ suc (prev + (d + x.0)) = omega arith in
    inr (d + x.0, place, sym (nth_drop d es x.0) ∙ x.2))
    (accept_from log (max prev floor) (drop d es) k t h e nz)

within_of : (s : Node) (prev : LogEnd) → agrees s prev ≡ true → s.snapshot.index ≤ length s.log → max prev.index s.snapshot.index ≤ length s.log
unfolding agrees
within_of s prev e low = ⊎_elim (λ (x : nat_le prev.index s.snapshot.index ≡ true). let y = leb-true _ _ x in omega arith) (λ (x : matches s.log prev ≡ true). let y = (matches_parts s.log prev x).0 in omega arith) (or_cases _ _ e)

on_append_ruled : (me : ℕ) (s b : Node) (m : Message) (prev : LogEnd) (commit : ℕ) (es : List Entry) → m.what ≡ Append prev commit es → s.log ≡ b.log → s.snapshot.index ≤ length s.log → Ruled b (Receive m) (on_append me s m.from prev commit es)
unfolding on_append take_entries
on_append_ruled me s b m prev commit es w e low =
    cond_both (is_leader s.role) _ _ (Ruled b (Receive m)) (λ z. still b (Receive m) s [] Nobody e tt)
    (λ z. cond_both (agrees s prev) _ _ (Ruled b (Receive m))
    (λ y. cond_both (replaces_committed s prev es) _ _ (Ruled b (Receive m)) (λ x. still b (Receive m) s [] Nobody e tt)
    (λ x. record {
      step = taken refl (λ j t q nz. ⊎_elim (λ (p : term_at s.log j ≡ t). inl (ap (λ l. term_at l j) (sym e) ∙ p)) (λ (p : (k : ℕ) × (j ≡ suc (prev.index + k)) × (nth_term es k ≡ t)). inr (subst (λ v. InWhat v j t) (sym w) p)) (take_from s.log s.snapshot.index prev.index es j t (within_of s prev y low) q nz));
      bare = (tt, tt);
    }))
    (λ y. still b (Receive m) (as_follower s m.from) (answer me s m.from (Ack false (length s.log)) ∷ []) Nobody e (tt, tt)))

on_install_ruled : (me : ℕ) (s b : Node) (m : Message) (last : LogEnd) (front : List Entry) → m.what ≡ Install last front → s.log ≡ b.log → Ruled b (Receive m) (on_install me s m.from last front)
unfolding on_install
on_install_ruled me s b m last front w e =
    cond_both (is_leader s.role) _ _ (Ruled b (Receive m)) (λ z. still b (Receive m) s [] Nobody e tt)
    (λ z. cond_both (nat_le last.index s.commit) _ _ (Ruled b (Receive m)) (λ y. still b (Receive m) (as_follower s m.from) (answer me s m.from (Ack true last.index) ∷ []) Nobody e (tt, tt))
    (λ y. cond_both (matches s.log last) _ _ (Ruled b (Receive m)) (λ x. still b (Receive m) (installed (as_follower s m.from) last s.log) (answer me s m.from (Ack true last.index) ∷ []) Nobody e (tt, tt))
    (λ x. record { step = taken refl (λ j t q nz. inr (subst (λ v. InWhat v j t) (sym w) q)); bare = (tt, tt) })))

on_ack_ruled : (me : ℕ) (s b : Node) (i : Input) (from : ℕ) (good : Bool) (index : ℕ) → s.log ≡ b.log → Ruled b i (on_ack me s from good index)
unfolding on_ack
on_ack_ruled me s b i from true index e = cond_both (is_leader s.role && among (peers s.servers me) from && nat_le index (length s.log)) _ _ (Ruled b i) (λ z. still b i (good_ack s from index) [] _ e tt) (λ z. still b i s [] Nobody e tt)
on_ack_ruled me s b i from false index e = cond_both (is_leader s.role && among (peers s.servers me) from) _ _ (Ruled b i) (λ z. still b i (bad_ack s from index) [] _ e tt) (λ z. still b i s [] Nobody e tt)

in_turn_ruled : (voters_of : List Entry → List ℕ) (me : ℕ) (s b : Node) (m : Message) (what : What) → m.what ≡ what → s.log ≡ b.log → s.snapshot.index ≤ length s.log → Ruled b (Receive m) (on_own_term voters_of me s m.from what)
in_turn_ruled voters_of me s b m (AskVote last transfer) w e low = on_ask_ruled me s b (Receive m) m.from last e
in_turn_ruled voters_of me s b m (Vote granted) w e low = on_vote_ruled voters_of me s b (Receive m) m.from granted e
in_turn_ruled voters_of me s b m (Append prev commit es) w e low = on_append_ruled me s b m prev commit es w e low
in_turn_ruled voters_of me s b m (Ack good index) w e low = on_ack_ruled me s b (Receive m) m.from good index e
in_turn_ruled voters_of me s b m (Install last front) w e low = on_install_ruled me s b m last front w e
in_turn_ruled voters_of me s b m TimeoutNow w e low = stand_ruled true voters_of me s b (Receive m) e

stale_ruled : (me : ℕ) (s : Node) (i : Input) (from : ℕ) (what : What) → Ruled s i (on_older_term me s from what)
stale_ruled me s i from (AskVote last transfer) = still s i s _ Nobody refl (tt, tt)
stale_ruled me s i from (Vote granted) = still s i s [] Nobody refl tt
stale_ruled me s i from (Append prev commit es) = still s i s _ Nobody refl (tt, tt)
stale_ruled me s i from (Ack good index) = still s i s [] Nobody refl tt
stale_ruled me s i from (Install last front) = still s i s _ Nobody refl (tt, tt)
stale_ruled me s i from TimeoutNow = still s i s [] Nobody refl tt

on_message_ruled : (voters_of : List Entry → List ℕ) (me : ℕ) (s : Node) (m : Message) → s.snapshot.index ≤ length s.log → Ruled s (Receive m) (on_message voters_of me s m)
unfolding on_message
on_message_ruled voters_of me s m low =
    cond_both (in_range s.term m) _ _ (Ruled s (Receive m))
    (λ z. cond_both (nat_lt m.term s.term) _ _ (Ruled s (Receive m)) (λ y. stale_ruled me s (Receive m) m.from m.what)
    (λ y. cond_both (nat_lt s.term m.term) _ _ (Ruled s (Receive m)) (λ x. in_turn_ruled voters_of me (in_newer_term s m.term) s m m.what refl refl low) (λ x. in_turn_ruled voters_of me s s m m.what refl refl low)))
    (λ z. still s (Receive m) s [] Nobody refl tt)

on_propose_ruled : (s : Node) (es : List Entry) → Ruled s (Local (Propose es)) (on_propose s es)
unfolding on_propose
on_propose_ruled s es = cond_both (is_leader s.role) _ _ (Ruled s (Local (Propose es))) (λ z. record { step = own z (proposed es refl z refl refl); bare = tt }) (λ z. still s (Local (Propose es)) s [] Nobody refl tt)

rule_ruled : (voters_of : List Entry → List ℕ) (me : ℕ) (s : Node) (i : Input) → s.snapshot.index ≤ length s.log → Ruled s i (rule_of voters_of me s i)
unfolding on_beat on_yield on_transfer on_snapped on_servers
rule_ruled voters_of me s (Local Timeout) low = stand_ruled false voters_of me s s (Local Timeout) refl
rule_ruled voters_of me s (Local Beat) low = cond_both (is_leader s.role) _ _ (Ruled s (Local Beat)) (λ z. still s (Local Beat) s [] Everyone refl tt) (λ z. still s (Local Beat) s [] Nobody refl tt)
rule_ruled voters_of me s (Local Yield) low =
    cond_both (is_leader s.role && nat_lt s.term 4294967295) _ _ (Ruled s (Local Yield))
    (λ z. still s (Local Yield) (in_newer_term s (suc s.term)) [] Nobody refl tt) (λ z. still s (Local Yield) s [] Nobody refl tt)
rule_ruled voters_of me s (Local (Propose es)) low = on_propose_ruled s es
rule_ruled voters_of me s (Local (Transfer to)) low = cond_both (is_leader s.role && not (to == me)) _ _ (Ruled s (Local (Transfer to))) (λ z. still s (Local (Transfer to)) s (answer me s to TimeoutNow ∷ []) Nobody refl (tt, tt)) (λ z. still s (Local (Transfer to)) s [] Nobody refl tt)
rule_ruled voters_of me s (Local (Snapped i)) low = cond_both (nat_lt s.snapshot.index i && nat_le i s.commit) _ _ (Ruled s (Local (Snapped i))) (λ z. still s (Local (Snapped i)) _ [] Nobody refl tt) (λ z. still s (Local (Snapped i)) s [] Nobody refl tt)
rule_ruled voters_of me s (Local (UseServers servers)) low = cond_both (is_leader s.role) _ _ (Ruled s (Local (UseServers servers))) (λ z. still s (Local (UseServers servers)) (with_servers me s servers) [] (Only (gained (peers s.servers me) (peers servers me))) refl tt) (λ z. still s (Local (UseServers servers)) (with_servers me s servers) [] Nobody refl tt)
rule_ruled voters_of me s (Receive m) low = on_message_ruled voters_of me s m low

-- what is sent has no entries, or is of a leader and of its term

abbrev pub SentBy : Node → Message → Type 0
SentBy d m = Bare m.what ⊎ ((is_leader d.role ≡ true) × (m.term ≡ d.term))

abbrev pub AllSentBy : Node → List Message → Type 0
AllSentBy d [] = Unit {0}
AllSentBy d (m ∷ ms) = SentBy d m × AllSentBy d ms

bare_sent : (d : Node) (ms : List Message) → AllBare ms → AllSentBy d ms
bare_sent d [] b = tt
bare_sent d (m ∷ ms) b = (inl b.0, bare_sent d ms b.1)

sent_append : (d : Node) (xs ys : List Message) → AllSentBy d xs → AllSentBy d ys → AllSentBy d (xs ++ ys)
sent_append d [] ys a b = b
sent_append d (x ∷ xs) ys a b = (a.0, sent_append d xs ys a.1 b)

sends_sent : (me : ℕ) (s : Node) (ps : List ℕ) → is_leader s.role ≡ true → AllSentBy s (map (message_to me s) ps)
unfolding message_to
sends_sent me s [] l = tt
sends_sent me s (p ∷ ps) l = (inr (l, refl), sends_sent me s ps l)

pub record Stepped (s : Node) (i : Input) (d : Outcome) : Type 0 where
  pub step : Step s i d.node
  pub sent : AllSentBy d.node d.out

adds_commit : (s : Node) (i : Input) (d : Node) (c : ℕ) → Adds s i d → Adds s i (with_log d d.log c)
adds_commit s i d c (nothing_new e) = nothing_new e
adds_commit s i d c (a_barrier e) = a_barrier e
adds_commit s i d c (proposed new e r t l) = proposed new e r t l

step_commit : (s : Node) (i : Input) (d : Node) (c : ℕ) → Step s i d → Step s i (with_log d d.log c)
step_commit s i d c (same e) = same e
step_commit s i d c (own r o) = own r (adds_commit s i d c o)
step_commit s i d c (taken r h) = taken r h

finish_stepped : (voters_of : List Entry → List ℕ) (me : ℕ) (s : Node) (i : Input) (d : Outcome) → Ruled s i d → Stepped s i (finish voters_of me d)
unfolding finish
finish_stepped voters_of me s i d r =
    cond_both (is_leader d.node.role) _ d (Stepped s i)
    (λ z. record { step = step_commit s i d.node _ r.step; sent = sent_append (with_log d.node d.node.log (commit_index voters_of me d.node)) d.out _ (bare_sent (with_log d.node d.node.log (commit_index voters_of me d.node)) d.out r.bare) (sends_sent me (with_log d.node d.node.log (commit_index voters_of me d.node)) _ z) })
    (λ z. record { step = r.step; sent = bare_sent d.node d.out r.bare })

serve_stepped : (me : ℕ) (s : Node) (i : Input) (d : Outcome) → Ruled s i d → Stepped s i (serve me d)
unfolding serve
serve_stepped me s i d r =
    cond_both (is_leader d.node.role) _ d (Stepped s i)
    (λ z. record { step = r.step; sent = sent_append d.node d.out _ (bare_sent d.node d.out r.bare) (sends_sent me d.node _ z) })
    (λ z. record { step = r.step; sent = bare_sent d.node d.out r.bare })

raft_stepped : (voters_of : List Entry → List ℕ) (me : ℕ) (s : Node) (i : Input) → s.snapshot.index ≤ length s.log → Stepped s i (raft_step voters_of me s i)
unfolding raft_step
raft_stepped voters_of me s (Local Timeout) low = finish_stepped voters_of me s _ _ (rule_ruled voters_of me s (Local Timeout) low)
raft_stepped voters_of me s (Local Beat) low = finish_stepped voters_of me s _ _ (rule_ruled voters_of me s (Local Beat) low)
raft_stepped voters_of me s (Local Yield) low = finish_stepped voters_of me s _ _ (rule_ruled voters_of me s (Local Yield) low)
raft_stepped voters_of me s (Local (Propose es)) low = finish_stepped voters_of me s _ _ (rule_ruled voters_of me s (Local (Propose es)) low)
raft_stepped voters_of me s (Local (Transfer to)) low = finish_stepped voters_of me s _ _ (rule_ruled voters_of me s (Local (Transfer to)) low)
raft_stepped voters_of me s (Local (Snapped i)) low = finish_stepped voters_of me s _ _ (rule_ruled voters_of me s (Local (Snapped i)) low)
raft_stepped voters_of me s (Local (UseServers servers)) low = serve_stepped me s _ _ (rule_ruled voters_of me s (Local (UseServers servers)) low)
raft_stepped voters_of me s (Receive m) low = finish_stepped voters_of me s _ _ (rule_ruled voters_of me s (Receive m) low)

pub stepped : (vs : Setup) (me : ℕ) (s : Node) (i : Input) → s.snapshot.index ≤ length s.log → Stepped s i (member_step vs me s i)
unfolding member_step
stepped vs me s i low = cond_both (may_take vs s i) _ _ (Stepped s i) (λ z. raft_stepped (voters_after vs) me s i low) (λ z. record { step = same refl; sent = tt })

leader_adds : (s : Node) (i : Input) (d : Node) → is_leader d.role ≡ true → Step s i d → Adds s i d
leader_adds s i d l (same e) = nothing_new e
leader_adds s i d l (own r o) = o
leader_adds s i d l (taken r f) = absurd (true≢false (sym l ∙ r))

pub leaders_add_hold : LeadersAdd
leaders_add_hold vs n s i low l = leader_adds s i (member_step vs n s i).node l (stepped vs n s i low).step
