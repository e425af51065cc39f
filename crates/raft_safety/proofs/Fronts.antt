-- The snapshots of a run represent fronts of the chosen entries.
use Rattle.std.proofs.Common.{◌≡◌, ℕ, zero, suc, ◌≤◌, Bool, true, false, cond, List, [], ◌∷◌, ◌++◌, Option, Some, None, length, max, take, drop, refl, ap, subst, arith, length-append}
use Rattle.std.specs.Prelude.{◌==◌, ◌&&◌, not, nat_lt, nat_le, map, slice_get}
use Rattle.std.proofs.lemmas.Bool.{cond_both, eq-eqb}
use Rattle.raft_spec.specs.Log.{Entry, LogEnd, matches}
use Rattle.raft_spec.specs.Node.{What, AskVote, Vote, Append, Ack, Install, TimeoutNow, Message, Node, Outcome, among, others, peers, majority, is_leader}
use Rattle.raft_spec.specs.Node.{is_candidate, Timeout, Beat, Yield, Propose, Transfer, Snapped, UseServers, Input, Local, Receive}
use Rattle.raft_spec.specs.Outcomes.{in_newer_term, with_grants}
use Rattle.raft_spec.specs.Elections.{as_candidate, grants_with, ask_vote, on_grants, may_start_election, on_yield, start_election, grants_vote}
use Rattle.raft_spec.specs.Elections.{on_ask_vote, on_vote}
use Rattle.raft_spec.specs.Replication.{take_entries, agrees, replaces_committed, on_append, on_ack, on_propose, on_beat, on_transfer}
use Rattle.raft_spec.specs.Snapshots.{on_install, on_snapped, needs_snapshot}
use Rattle.raft_spec.specs.Membership.{on_servers}
use Rattle.raft_spec.specs.Receiving.{on_own_term, on_older_term, in_range, on_message}
use Rattle.raft_spec.specs.Steps.{message_to, receivers, advance_commit, sends, finish, serve, raft_step}
use Rattle.raft_spec.specs.Account.{steps, said}
use Rattle.raft_safety.specs.Members.{Setup, voters_after, may_take, member_step}
use Rattle.raft_safety.specs.World.{World, Event, Acts, Stops, Crash, Start, inputs, one_of, picked, put, after, outs, happens, start, run_from, run}
use Rattle.raft_safety.specs.Chosen.{actor, reached, chosen_more, chosen_from, chosen, WithinWhat, SnapshotsChosen}
use Rattle.raft_safety.proofs.History.{Hist, HistOk, NodeOk}
use Rattle.raft_safety.proofs.Shapes.{rule_of}
use Rattle.raft_safety.proofs.Steps.{InputsOk, step_fine, member_plain, inputs_later}
use Rattle.raft_safety.proofs.Worlds.{WorldOk, blank, start_fine, inputs_fine}
use Rattle.raft_safety.proofs.Chosens.{ChosenOk, one, begin, applied}

abbrev AllWithin : ℕ → List Message → Type 0
AllWithin k [] = Unit {0}
AllWithin k (m ∷ ms) = WithinWhat k m.what × AllWithin k ms

what_more : (j k : ℕ) (w : What) → j ≤ k → WithinWhat j w → WithinWhat k w
what_more j k (Install last front) le a = omega arith
what_more j k (AskVote last transfer) le a = tt
what_more j k (Vote granted) le a = tt
what_more j k (Append prev commit es) le a = tt
what_more j k (Ack good index) le a = tt
what_more j k TimeoutNow le a = tt

within_more : (j k : ℕ) (ms : List Message) → j ≤ k → AllWithin j ms → AllWithin k ms
within_more j k [] le a = tt
within_more j k (m ∷ ms) le a = (what_more j k m.what le a.0, within_more j k ms le a.1)

within_append : (k : ℕ) (ms ns : List Message) → AllWithin k ms → AllWithin k ns → AllWithin k (ms ++ ns)
within_append k [] ns a b = b
within_append k (m ∷ ms) ns a b = (a.0, within_append k ms ns a.1 b)

within_map : (k : ℕ) (f : ℕ → Message) (xs : List ℕ) → ((x : ℕ) → WithinWhat k (f x).what) → AllWithin k (map f xs)
within_map k f [] e = tt
within_map k f (x ∷ xs) e = (e x, within_map k f xs e)

within_at : (k : ℕ) (ms : List Message) (n : ℕ) (m : Message) → AllWithin k ms → slice_get ms n ≡ Some m → WithinWhat k m.what
within_at k [] n m a e = absurd (cc)
within_at k (x ∷ ms) zero m a e = subst (λ m. WithinWhat k m.what) (some_is x m e) a.0
  where
    some_is : (x y : Message) → slice_get (x ∷ ms) 0 ≡ Some y → x ≡ y
    some_is x y e = cc
within_at k (x ∷ ms) (suc n) m a e = within_at k ms n m a.1 e

within_picked : (k : ℕ) (ms : List Message) (ks : List ℕ) → AllWithin k ms → AllWithin k (picked ms ks)
within_picked k ms [] a = tt
within_picked k ms (n ∷ ks) a = within_append k (one_of (slice_get ms n)) (picked ms ks) (found (slice_get ms n) refl) (within_picked k ms ks a)
  where
    found : (o : Option Message) → slice_get ms n ≡ o → AllWithin k (one_of o)
    found None e = tt
    found (Some m) e = (within_at k ms n m a e, tt)

-- the rules themselves make no Install
abbrev MakesNone : Outcome → Type 0
MakesNone d = AllWithin 0 d.out

counted_none : (voters_of : List Entry → List ℕ) (me : ℕ) (s : Node) (out : List Message) → AllWithin 0 out → MakesNone (on_grants voters_of me s out)
unfolding on_grants
counted_none voters_of me s out a = cond_both (majority (voters_of s.log) (among s.grants)) _ _ MakesNone (λ e. a) (λ e. a)

stand_none : (transfer : Bool) (voters_of : List Entry → List ℕ) (me : ℕ) (s : Node) → MakesNone (start_election voters_of me s transfer)
unfolding start_election
stand_none transfer voters_of me s = cond_both (may_start_election voters_of me s) _ _ MakesNone (λ e. counted_none voters_of me (as_candidate me s) _ (within_map 0 (ask_vote me (as_candidate me s) transfer) (others (voters_of s.log) me) (λ v. tt))) (λ e. tt)

on_ask_none : (me : ℕ) (s : Node) (from : ℕ) (last : LogEnd) → MakesNone (on_ask_vote me s from last)
unfolding on_ask_vote
on_ask_none me s from last = cond_both (grants_vote s from last) _ _ MakesNone (λ e. (tt, tt)) (λ e. (tt, tt))

on_vote_none : (voters_of : List Entry → List ℕ) (me : ℕ) (s : Node) (from : ℕ) (granted : Bool) → MakesNone (on_vote voters_of me s from granted)
unfolding on_vote
on_vote_none voters_of me s from granted = cond_both (granted && is_candidate s.role) _ _ MakesNone (λ e. counted_none voters_of me (with_grants s (grants_with (voters_of s.log) s.grants from)) [] tt) (λ e. tt)

on_append_none : (me : ℕ) (s : Node) (from : ℕ) (prev : LogEnd) (commit : ℕ) (es : List Entry) → MakesNone (on_append me s from prev commit es)
unfolding on_append take_entries
on_append_none me s from prev commit es =
    cond_both (is_leader s.role) _ _ MakesNone (λ e. tt)
    (λ e. cond_both (agrees s prev) _ _ MakesNone (λ x. cond_both (replaces_committed s prev es) _ _ MakesNone (λ y. tt) (λ y. (tt, tt))) (λ x. (tt, tt)))

on_install_none : (me : ℕ) (s : Node) (from : ℕ) (last : LogEnd) (front : List Entry) → MakesNone (on_install me s from last front)
unfolding on_install
on_install_none me s from last front =
    cond_both (is_leader s.role) _ _ MakesNone (λ e. tt)
    (λ e. cond_both (nat_le last.index s.commit) _ _ MakesNone (λ x. (tt, tt)) (λ x. cond_both (matches s.log last) _ _ MakesNone (λ y. (tt, tt)) (λ y. (tt, tt))))

on_ack_none : (me : ℕ) (s : Node) (from : ℕ) (good : Bool) (index : ℕ) → MakesNone (on_ack me s from good index)
unfolding on_ack
on_ack_none me s from true index = cond_both (is_leader s.role && among (peers s.servers me) from && nat_le index (length s.log)) _ _ MakesNone (λ e. tt) (λ e. tt)
on_ack_none me s from false index = cond_both (is_leader s.role && among (peers s.servers me) from) _ _ MakesNone (λ e. tt) (λ e. tt)

in_turn_none : (voters_of : List Entry → List ℕ) (me : ℕ) (s : Node) (from : ℕ) (w : What) → MakesNone (on_own_term voters_of me s from w)
in_turn_none voters_of me s from (AskVote last transfer) = on_ask_none me s from last
in_turn_none voters_of me s from (Vote granted) = on_vote_none voters_of me s from granted
in_turn_none voters_of me s from (Append prev commit es) = on_append_none me s from prev commit es
in_turn_none voters_of me s from (Ack good index) = on_ack_none me s from good index
in_turn_none voters_of me s from (Install last front) = on_install_none me s from last front
in_turn_none voters_of me s from TimeoutNow = stand_none true voters_of me s

stale_none : (me : ℕ) (s : Node) (from : ℕ) (w : What) → MakesNone (on_older_term me s from w)
stale_none me s from (AskVote last transfer) = (tt, tt)
stale_none me s from (Vote granted) = tt
stale_none me s from (Append prev commit es) = (tt, tt)
stale_none me s from (Ack good index) = tt
stale_none me s from (Install last front) = (tt, tt)
stale_none me s from TimeoutNow = tt

rule_none : (voters_of : List Entry → List ℕ) (me : ℕ) (s : Node) (i : Input) → MakesNone (rule_of voters_of me s i)
unfolding on_beat on_yield on_propose on_transfer on_snapped on_servers on_message
rule_none voters_of me s (Local Timeout) = stand_none false voters_of me s
rule_none voters_of me s (Local Beat) = cond_both (is_leader s.role) _ _ MakesNone (λ e. tt) (λ e. tt)
rule_none voters_of me s (Local Yield) = cond_both (is_leader s.role && nat_lt s.term 4294967295) _ _ MakesNone (λ e. tt) (λ e. tt)
rule_none voters_of me s (Local (Propose es)) = cond_both (is_leader s.role) _ _ MakesNone (λ e. tt) (λ e. tt)
rule_none voters_of me s (Local (Transfer to)) = cond_both (is_leader s.role && not (to == me)) _ _ MakesNone (λ e. (tt, tt)) (λ e. tt)
rule_none voters_of me s (Local (Snapped i)) = cond_both (nat_lt s.snapshot.index i && nat_le i s.commit) _ _ MakesNone (λ e. tt) (λ e. tt)
rule_none voters_of me s (Local (UseServers servers)) = cond_both (is_leader s.role) _ _ MakesNone (λ e. tt) (λ e. tt)
rule_none voters_of me s (Receive m) =
    cond_both (in_range s.term m) _ _ MakesNone
    (λ e. cond_both (nat_lt m.term s.term) _ _ MakesNone (λ x. stale_none me s m.from m.what)
    (λ x. cond_both (nat_lt s.term m.term) _ _ MakesNone (λ y. in_turn_none voters_of me (in_newer_term s m.term) m.from m.what) (λ y. in_turn_none voters_of me s m.from m.what)))
    (λ e. tt)

-- what a leader sends represents its own snapshot
abbrev Own : Outcome → Type 0
Own d = AllWithin d.node.snapshot.index d.out

sends_own : (me : ℕ) (d : Outcome) → MakesNone d → Own (sends me d)
unfolding message_to
sends_own me d a =
    within_append d.node.snapshot.index d.out _ (within_more 0 d.node.snapshot.index d.out (omega arith) a)
    (within_map d.node.snapshot.index (message_to me d.node) (receivers me d.node d.recipients) (λ p. cond_both (needs_snapshot d.node (d.node.next_of p)) _ _ (WithinWhat d.node.snapshot.index) (λ e. omega arith) (λ e. tt)))

finish_own : (voters_of : List Entry → List ℕ) (me : ℕ) (d : Outcome) → MakesNone d → Own (finish voters_of me d)
unfolding finish
finish_own voters_of me d a = cond_both (is_leader d.node.role) _ _ Own (λ e. sends_own me (advance_commit voters_of me d) a) (λ e. within_more 0 d.node.snapshot.index d.out (omega arith) a)

serve_own : (me : ℕ) (d : Outcome) → MakesNone d → Own (serve me d)
unfolding serve
serve_own me d a = cond_both (is_leader d.node.role) _ _ Own (λ e. sends_own me d a) (λ e. within_more 0 d.node.snapshot.index d.out (omega arith) a)

raft_own : (voters_of : List Entry → List ℕ) (me : ℕ) (s : Node) (i : Input) → Own (raft_step voters_of me s i)
unfolding raft_step
raft_own voters_of me s (Local Timeout) = finish_own voters_of me _ (rule_none voters_of me s (Local Timeout))
raft_own voters_of me s (Local Beat) = finish_own voters_of me _ (rule_none voters_of me s (Local Beat))
raft_own voters_of me s (Local Yield) = finish_own voters_of me _ (rule_none voters_of me s (Local Yield))
raft_own voters_of me s (Local (Propose es)) = finish_own voters_of me _ (rule_none voters_of me s (Local (Propose es)))
raft_own voters_of me s (Local (Transfer to)) = finish_own voters_of me _ (rule_none voters_of me s (Local (Transfer to)))
raft_own voters_of me s (Local (Snapped i)) = finish_own voters_of me _ (rule_none voters_of me s (Local (Snapped i)))
raft_own voters_of me s (Local (UseServers servers)) = serve_own me _ (rule_none voters_of me s (Local (UseServers servers)))
raft_own voters_of me s (Receive m) = finish_own voters_of me _ (rule_none voters_of me s (Receive m))

member_own : (vs : Setup) (me : ℕ) (s : Node) (i : Input) → Own (member_step vs me s i)
unfolding member_step
member_own vs me s i = cond_both (may_take vs s i) _ _ Own (λ e. raft_own (voters_after vs) me s i) (λ e. tt)

-- the commit index doesn't fall in several steps, and covers the snapshots that they send
steps_up : (vs : Setup) (n : ℕ) (s : Node) (is : List Input) → s.commit ≤ (steps (member_step vs n) s is).commit
steps_up vs n s [] = omega arith
steps_up vs n s (i ∷ is) = let a = (member_plain vs n s i).up in let b = steps_up vs n (member_step vs n s i).node is in omega arith

said_within : {vs : Setup} (n : ℕ) (is : List Input) (h : Hist) (s : Node) → HistOk vs h → NodeOk vs h n s → InputsOk vs h n is → AllWithin (steps (member_step vs n) s is).commit (said (member_step vs n) s is)
said_within n [] h s ok a w = tt
said_within {vs} n (i ∷ is) h s ok a w =
    let d = member_step vs n s i in
    let f = step_fine n s i ok a w.0 in
    let rest = said_within n is f.to d.node f.hist f.node (inputs_later vs n is f.grows.later w.1) in
    let low = f.node.snaps.applied in
    let up = steps_up vs n d.node is in
    within_append (steps (member_step vs n) d.node is).commit d.out (said (member_step vs n) d.node is) (within_more d.node.snapshot.index (steps (member_step vs n) d.node is).commit d.out (omega arith) (member_own vs n s i)) rest

-- one event
put_messages : (w : World) (n : ℕ) (s : Node) (out : List Message) (k : ℕ) → AllWithin k w.messages → AllWithin k out → AllWithin k (put w n s out).messages
unfolding put
put_messages w n s out k a b = within_append k w.messages out a b

put_commit : (w : World) (n : ℕ) (s : Node) (out : List Message) → ((put w n s out).nodes n).commit ≡ s.commit
unfolding put
put_commit w n s out = ap (λ b. (cond b s (w.nodes n)).commit) (eq-eqb n n refl)

happens_within : {vs : Setup} {h : Hist} (w : World) (e : Event) (k : ℕ) → WorldOk vs h w → AllWithin k w.messages → ((happens vs w e).nodes (actor e)).commit ≤ k → AllWithin k (happens vs w e).messages
happens_within {vs} {h} w (Acts n cs places) k ok a =
    cond_both (w.nodes n).up (put w n (after vs w n cs) (picked (outs vs w n cs) places)) w (λ v. (v.nodes n).commit ≤ k → AllWithin k v.messages)
    (λ u le.
    let c = put_commit w n (after vs w n cs) (picked (outs vs w n cs) places) in
    put_messages w n (after vs w n cs) (picked (outs vs w n cs) places) k a (within_picked k (outs vs w n cs) places (within_more (after vs w n cs).commit k (outs vs w n cs) (omega arith) (said_within n (inputs n w.messages cs) h (w.nodes n) ok.hist (ok.nodes n) (inputs_fine vs h n w.messages cs ok.messages)))))
    (λ u le. a)
happens_within w (Stops n cs acts applied base) k ok a = λ le. put_messages w n _ [] k a tt
happens_within w (Crash n) k ok a = λ le. put_messages w n _ [] k a tt
happens_within {vs} w (Start n servers) k ok a = cond_both (w.nodes n).up w (put w n _ []) (λ v. (v.nodes n).commit ≤ k → AllWithin k v.messages) (λ u le. a) (λ u le. put_messages w n _ [] k a tt)

all_within : (vs : Setup) (es : List Event) (h : Hist) (w : World) (c : List Entry) → WorldOk vs h w → ChosenOk vs h w c → AllWithin (length c) w.messages → AllWithin (length (chosen_from vs w c es)) (run_from vs w es).messages
all_within vs [] h w c ok l a = a
all_within vs (e ∷ es) h w c ok l a =
    let x = reached vs w e in
    let next = one vs h w c e ok l in
    let more = length-append c (drop (length c) (take (max x.applied x.snapshot.index) x.log)) in
    all_within vs es next.to (happens vs w e) (chosen_more c x) next.world next.list
    (happens_within w e (length (chosen_more c x)) ok (within_more (length c) (length (chosen_more c x)) w.messages (omega arith) a) (next.list.covers (actor e)))

pub snapshots_chosen_holds : SnapshotsChosen
unfolding run chosen
snapshots_chosen_holds vs es =
    let x = applied vs es in (
      λ n. let a = (x.world.nodes n).snaps.applied in let b = x.list.covers n in omega arith,
      λ k m e. within_at (length (chosen vs es)) (run vs es).messages k m (all_within vs es blank (start vs) [] (start_fine vs) (begin vs) tt) e,
    )
