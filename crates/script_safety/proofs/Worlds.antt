-- In a script's world a message that arrives was sent.
use Rattle.std.proofs.Common.{◌≡◌, ◌≤◌, ◌⊎◌, inl, inr, ℕ, zero, suc, Bool, true, false, List, [], ◌∷◌, ◌++◌, map, refl, sym, ap, ◌∙◌, subst, append-nil}
use Rattle.std.proofs.Common.{append_assoc}
use Rattle.std.specs.Prelude.{◌-◌, ◌+◌, Option, Some, None, Result, Ok, Err, slice_get, nat_le, if◌then◌else◌}
use Rattle.std.specs.List.{AllByRecursion}
use Rattle.std.proofs.lemmas.Bool.{cases_lt}
use Rattle.std.proofs.lemmas.List.{map-append}
use Rattle.raft_messages.specs.declared.message.RaftMessage.{RaftMessage}
use Rattle.raft_messages.specs.declared.fault.PeerFault.{PeerFault}
use Rattle.raft_messages.specs.declared.fault.PeerFault.TheVariants.{Kind, Range}
use Rattle.raft_messages.specs.Messages.{message_bytes, numbers_fit}
use Rattle.raft_messages.specs.Reading.{peer_message_of}
use Rattle.raft_messages.proofs.MessageLaws.{schema_is, message_read, message_refused, far_refuse}
use Rattle.script_grammar.specs.declared.events.Event.{Event}
use Rattle.script_grammar.specs.declared.events.Event.TheVariants as event
use Rattle.script_grammar.specs.declared.grammar.FaultTarget.{FaultTarget}
use Rattle.script_grammar.specs.declared.grammar.FaultTarget.TheVariants.{Nothing}
use Rattle.script_grammar.specs.declared.grammar.ScriptLine.{ScriptLine}
use Rattle.script_grammar.specs.declared.grammar.ScriptLine.TheVariants as says
use Rattle.script_grammar.specs.declared.usage.Usage.{Usage}
use Rattle.script_grammar.specs.Grammar.{line_of}
use Rattle.script_grammar.specs.Lines.{lines_of}
use Rattle.script_grammar.specs.ScriptSize.{line_count_limit}
use Rattle.script_grammar.specs.Usage.{with_event, with_messages}
use Rattle.script_cluster.specs.declared.cluster_line.ClusterLine.{ClusterLine}
use Rattle.script_cluster.specs.Outcomes.{Standing, Outs, Ending, Steps, Starts, Stops, Fails, Unreadable, Outcome, Doing, Timeout, Beat, Connect, Bytes, Hangup, Receive, Start, Turn, Does, Crashes}
use Rattle.script_cluster.specs.Run as runs
use Rattle.script_cluster.specs.Run.{Stage, Opening, Within, Fault, Next, line_step, said_step, step, run_from}
use Rattle.script_cluster.specs.World.{Letter, World, Halt, Went, quiet, onward, then_on, is_node, is_up, arrived_at, arriving, letter_of, letters_of, wire_message, after_step, after_ending, with_turn, unless_many, asked, at_node, on_link, connects, hangs_up, arrives, delivered, delivers, crashes, starts, counted_so, counted, settled_so, settles, exists, happens, takes, empty_world, all_start, opened, node_of, first_waiting, bytes_in, shown}
use Rattle.script_safety.specs.Mails.{CanHold, AllCanHold, MailIsSent}
use Rattle.script_safety.specs.Turns.{messages_of, messages_in, WasSent, SentTo, AllSentTo}

-- ---- a message that is written reads as itself, or as none

-- written, and read again
ReadsBack : RaftMessage → Type 0
ReadsBack m = (other : RaftMessage) → arriving (letter_of m) ≡ Ok other → other ≡ m

ok_is : (a b : Result RaftMessage PeerFault) (x y : RaftMessage) → a ≡ Ok x → b ≡ Ok y → a ≡ b → y ≡ x
ok_is a b x y p q e = inner (sym p ∙ e ∙ q)
  where
    inner : ◌≡◌ {A = Result RaftMessage PeerFault} (Ok x) (Ok y) → y ≡ x
    inner z = cc

no_err : (a : Result RaftMessage PeerFault) (x : RaftMessage) (f : PeerFault) → a ≡ Err f → a ≡ Ok x → ⊥
no_err a x f p q = inner (sym p ∙ q)
  where
    inner : ◌≡◌ {A = Result RaftMessage PeerFault} (Err f) (Ok x) → ⊥
    inner z = cc

reads_back : (m : RaftMessage) → CanHold m → ReadsBack m
unfolding ReadsBack
reads_back m h other e = elim (cases_lt 127 m.to) [ inl far ↦ absurd (no_err (arriving (letter_of m)) other Kind (far_refuse m.to (wire_message (message_bytes m)) far) e) | inr low ↦ by low (numbers_fit m) refl ]
  where
    by : m.to ≤ 127 → (b : Bool) → numbers_fit m ≡ b → other ≡ m
    by low true fit = ok_is (arriving (letter_of m)) (arriving (letter_of m)) m other (message_read (wire_message (message_bytes m)) m (record { kind = refl; schema = schema_is m low; receiver = low; holds = h; body = refl; in_range = fit })) e refl
    by low false fit = absurd (no_err (arriving (letter_of m)) other Range (message_refused m low h fit) e)

-- ---- what was sent

-- all messages that were said in turns
abbrev sent_in : List Turn → List RaftMessage
sent_in [] = []
sent_in (turn ∷ turns) = messages_in turn ++ sent_in turns

sent_more : (turns : List Turn) (turn : Turn) → sent_in (turns ++ turn ∷ []) ≡ sent_in turns ++ messages_in turn
sent_more [] turn = append-nil (messages_in turn)
sent_more (t ∷ turns) turn = ap (λ l. messages_in t ++ l) (sent_more turns turn) ∙ sym (append_assoc (messages_in t) (sent_in turns) (messages_in turn))

-- one turn more, by a message that was sent before
all_more : (sent : List RaftMessage) (turns : List Turn) (turn : Turn) → AllSentTo sent turns → SentTo (sent ++ sent_in turns) turn → AllSentTo sent (turns ++ turn ∷ [])
all_more sent [] turn a h = (subst (λ l. SentTo l turn) (append-nil sent) h, tt)
all_more sent (t ∷ turns) turn a h = (a.0, all_more (sent ++ messages_in t) turns turn a.1 (subst (λ l. SentTo l turn) (sym (append_assoc sent (messages_in t) (sent_in turns))) h))

read_before : (turns : List Turn) (turn : Turn) → AllCanHold (turns ++ turn ∷ []) → AllCanHold turns
read_before [] turn h = tt
read_before (t ∷ turns) turn h = (h.0, read_before turns turn h.1)

one_reads : (ms : List RaftMessage) (rest : List RaftMessage) (k : ℕ) (m : RaftMessage) → AllByRecursion CanHold ms → ((j : ℕ) → slice_get rest j ≡ Some m → ReadsBack m) → slice_get (ms ++ rest) k ≡ Some m → ReadsBack m
one_reads [] rest k m h more e = more k e
one_reads (x ∷ ms) rest zero m h more e = subst ReadsBack (some_is x m e) (reads_back x h.0)
  where
    some_is : (a b : RaftMessage) → Some a ≡ Some b → a ≡ b
    some_is a b e = cc
one_reads (x ∷ ms) rest (suc k) m h more e = one_reads ms rest k m h.1 more e

nowhere : (k : ℕ) (m : RaftMessage) → slice_get [] k ≡ Some m → ⊥
nowhere k m e = cc

all_read : (turns : List Turn) → AllCanHold turns → (k : ℕ) (m : RaftMessage) → slice_get (sent_in turns) k ≡ Some m → ReadsBack m
all_read [] h k m e = absurd (nowhere k m e)
all_read (t ∷ turns) h k m e = one_reads (messages_in t) (sent_in turns) k m h.0 (λ j f. all_read turns h.1 j m f) e

-- ---- peer messages

-- a peer message except for whether it has arrived
abbrev strip : Letter → ℕ × List ℕ
strip l = (l.to, l.bytes)

abbrev written : RaftMessage → ℕ × List ℕ
written m = strip (letter_of m)

abbrev read_of : ℕ × List ℕ → Result RaftMessage PeerFault
read_of p = peer_message_of p.0 (wire_message p.1)

strip_arrived : (mail : List Letter) (place : ℕ) → map strip (arrived_at mail place) ≡ map strip mail
strip_arrived [] place = refl
strip_arrived (l ∷ mail) zero = refl
strip_arrived (l ∷ mail) (suc place) = ap (λ z. strip l ∷ z) (strip_arrived mail place)

strip_letters : (ms : List RaftMessage) → map strip (letters_of ms) ≡ map written ms
strip_letters [] = refl
strip_letters (m ∷ ms) = ap (λ z. written m ∷ z) (strip_letters ms)

-- where a peer message lies, a message was sent of which it is
found : (mail : List Letter) (ms : List RaftMessage) (place : ℕ) (l : Letter) → map strip mail ≡ map written ms → slice_get mail place ≡ Some l → (k : ℕ) × (m : RaftMessage) × (slice_get ms k ≡ Some m) × (written m ≡ strip l)
found [] ms place l e is = absurd (no place is)
  where
    no : (k : ℕ) → slice_get [] k ≡ Some l → ⊥
    no k e = cc
found (x ∷ mail) [] place l e is = absurd (no e)
  where
    no : strip x ∷ map strip mail ≡ [] → ⊥
    no e = cc
found (x ∷ mail) (m ∷ ms) zero l e is = (0, m, refl, head_is (strip x) (written m) (map strip mail) (map written ms) e ∙ ap strip (some_is x l is))
  where
    some_is : (a b : Letter) → Some a ≡ Some b → a ≡ b
    some_is a b e = cc

    head_is : (a b : ℕ × List ℕ) (as_ bs : List (ℕ × List ℕ)) → a ∷ as_ ≡ b ∷ bs → b ≡ a
    head_is a b as_ bs e = cc
found (x ∷ mail) (m ∷ ms) (suc place) l e is =
    let r = found mail ms place l (tail_is (strip x) (written m) (map strip mail) (map written ms) e) is in
    (suc r.0, r.1, r.2, r.3)
  where
    tail_is : (a b : ℕ × List ℕ) (as_ bs : List (ℕ × List ℕ)) → a ∷ as_ ≡ b ∷ bs → as_ ≡ bs
    tail_is a b as_ bs e = cc

-- ---- worlds

-- in any front of turns only what was sent has arrived
abbrev FrontsSent : List Turn → Type 0
FrontsSent turns = (front rest : List Turn) → turns ≡ front ++ rest → AllCanHold front → AllSentTo [] front

-- its mail is what was said in its turns, and in these only what was sent has arrived
record Mailed (w : World) : Type 0 where
  pub mail : map strip w.mail ≡ map written (sent_in w.turns)
  pub sent : FrontsSent w.turns

same_mail : (w v : World) → map strip v.mail ≡ map strip w.mail → v.turns ≡ w.turns → Mailed w → Mailed v
same_mail w v mail turns h = record {
  mail = mail ∙ h.mail ∙ ap (λ (t : List Turn). map written (sent_in t)) (sym turns);
  sent = subst FrontsSent (sym turns) h.sent;
}

-- a front of turns and of one more is all of them, or a front of the turns
front_parts : (turns : List Turn) (turn : Turn) (front rest : List Turn) → turns ++ turn ∷ [] ≡ front ++ rest → (front ≡ turns ++ turn ∷ []) ⊎ ((more : List Turn) × (turns ≡ front ++ more))
front_parts turns turn [] rest e = inr (turns, refl)
front_parts [] turn (f ∷ front) rest e = inl (ap (λ (t : Turn). t ∷ front) (sym (head_is turn f [] (front ++ rest) e)) ∙ ap (λ (l : List Turn). turn ∷ l) (none front rest (sym (tail_is turn f [] (front ++ rest) e))))
  where
    head_is : (a b : Turn) (xs ys : List Turn) → a ∷ xs ≡ b ∷ ys → a ≡ b
    head_is a b xs ys e = cc

    tail_is : (a b : Turn) (xs ys : List Turn) → a ∷ xs ≡ b ∷ ys → xs ≡ ys
    tail_is a b xs ys e = cc

    none : (xs ys : List Turn) → xs ++ ys ≡ [] → xs ≡ []
    none [] ys e = refl
    none (x ∷ xs) ys e = absurd cc
front_parts (t ∷ turns) turn (f ∷ front) rest e =
    let same : t ≡ f = head_is t f (turns ++ turn ∷ []) (front ++ rest) e in
    elim (front_parts turns turn front rest (tail_is t f (turns ++ turn ∷ []) (front ++ rest) e)) [
      | inl all ↦ inl (ap (λ (u : Turn). u ∷ front) (sym same) ∙ ap (λ (l : List Turn). t ∷ l) all)
      | inr some ↦ inr (some.0, ap (λ (u : Turn). u ∷ turns) same ∙ ap (λ (l : List Turn). f ∷ l) some.1)
    ]
  where
    head_is : (a b : Turn) (xs ys : List Turn) → a ∷ xs ≡ b ∷ ys → a ≡ b
    head_is a b xs ys e = cc

    tail_is : (a b : Turn) (xs ys : List Turn) → a ∷ xs ≡ b ∷ ys → xs ≡ ys
    tail_is a b xs ys e = cc

turned : (w v : World) (turn : Turn) → Mailed w → v.turns ≡ w.turns ++ turn ∷ [] → map strip v.mail ≡ map strip w.mail ++ map written (messages_in turn) → (AllCanHold w.turns → SentTo (sent_in w.turns) turn) → Mailed v
turned w v turn h turns mail came = record {
  mail = mail ∙ ap (λ z. z ++ map written (messages_in turn)) h.mail ∙ sym (map-append written (sent_in w.turns) (messages_in turn)) ∙ ap (map written) (sym (sent_more w.turns turn)) ∙ ap (λ (t : List Turn). map written (sent_in t)) (sym turns);
  sent = λ front rest e r.
      elim (front_parts w.turns turn front rest (sym turns ∙ e)) [
        | inl all ↦
            let before = read_before w.turns turn (subst AllCanHold all r) in
            subst (AllSentTo []) (sym all) (all_more [] w.turns turn (h.sent w.turns [] (sym (append-nil w.turns)) before) (came before))
        | inr some ↦ h.sent front some.0 some.1 r
      ];
}

-- what continues from worlds of this kind leads to worlds of this kind
abbrev Goes : (World → Went) → Type 0
Goes go = (w : World) → Mailed w → Mailed (go w).world

on_mailed : (go : World → Went) (went : Went) (o : Option Halt) → Goes go → Mailed went.world → Mailed (onward go went o).world
on_mailed go went None g h = g went.world h
on_mailed go went (Some why) g h = h

then_mailed : (go : World → Went) (went : Went) → Goes go → Mailed went.world → Mailed (then_on go went).world
then_mailed go went g h = on_mailed go went went.halt g h

-- ---- what comes of an event at a node

-- if it didn't halt
abbrev Unhalted : Went → Option Halt → Type 0
Unhalted went None = Mailed went.world
Unhalted went (Some why) = Unit {0}

stepped : (n : ℕ) (outs : Outs) (standing : Standing) (aim : FaultTarget) (doing : Doing) (outcome : Outcome) (left : List Outcome) (w : World) (o : Option Usage) → Mailed w → (AllCanHold w.turns → WasSent (sent_in w.turns) n doing) → outcome.ending ≡ Steps outs standing →
    Unhalted (after_step n outs standing (with_turn w n doing aim outcome left) o) (after_step n outs standing (with_turn w n doing aim outcome left) o).halt
stepped n outs standing aim doing outcome left w None h came is = tt
stepped n outs standing aim doing outcome left w (Some usage) h came is =
    turned w _ (Does n doing aim outcome) h refl (map-append strip w.mail (letters_of outs.messages) ∙ ap (λ z. map strip w.mail ++ z) (strip_letters outs.messages ∙ ap (λ (e : Ending). map written (messages_of e)) (sym is))) came

unsaid : (w v : World) (n : ℕ) (doing : Doing) (aim : FaultTarget) (outcome : Outcome) → Mailed w → v.turns ≡ w.turns ++ Does n doing aim outcome ∷ [] → v.mail ≡ w.mail → messages_of outcome.ending ≡ [] → (AllCanHold w.turns → WasSent (sent_in w.turns) n doing) → Mailed v
unsaid w v n doing aim outcome h turns mail none came =
    turned w v (Does n doing aim outcome) h turns (ap (map strip) mail ∙ sym (append-nil (map strip w.mail)) ∙ ap (λ (ms : List RaftMessage). map strip w.mail ++ map written ms) (sym none)) came

ended : (n : ℕ) (ending : Ending) (doing : Doing) (aim : FaultTarget) (outcome : Outcome) (left : List Outcome) (w : World) → outcome.ending ≡ ending → Mailed w → (AllCanHold w.turns → WasSent (sent_in w.turns) n doing) →
    Unhalted (after_ending n ending (with_turn w n doing aim outcome left)) (after_ending n ending (with_turn w n doing aim outcome left)).halt
ended n (Steps outs standing) doing aim outcome left w is h came = stepped n outs standing aim doing outcome left w (with_messages w.usage (bytes_in outs.messages)) h came is
ended n (Starts kept standing) doing aim outcome left w is h came = unsaid w _ n doing aim outcome h refl refl (ap messages_of is) came
ended n (Stops keeps) doing aim outcome left w is h came = unsaid w _ n doing aim outcome h refl refl (ap messages_of is) came
ended n (Fails keeps) doing aim outcome left w is h came = unsaid w _ n doing aim outcome h refl refl (ap messages_of is) came
ended n Unreadable doing aim outcome left w is h came = unsaid w _ n doing aim outcome h refl refl (ap messages_of is) came

many_mailed : (w : World) (went : Went) (o : Option Halt) → Mailed w → Unhalted went o → Mailed (unless_many w went o).world
many_mailed w went None h u = u
many_mailed w went (Some why) h u = h

asked_mailed : (n : ℕ) (doing : Doing) (aim : FaultTarget) (w : World) (outcomes : List Outcome) → Mailed w → (AllCanHold w.turns → WasSent (sent_in w.turns) n doing) → Mailed (asked n doing aim w outcomes).world
asked_mailed n doing aim w [] h came = h
asked_mailed n doing aim w (outcome ∷ left) h came =
    let went = after_ending n outcome.ending (with_turn w n doing aim outcome left) in
    let many : World = record w { over = Some (Does n doing aim outcome) } in
    many_mailed many went went.halt (same_mail w many refl refl h) (ended n outcome.ending doing aim outcome left w refl h came)

-- one of two
either_mailed : (b : Bool) (x y : Went) → Mailed x.world → Mailed y.world → Mailed (if b then x else y).world
either_mailed true x y a b = a
either_mailed false x y a b = b

at_mailed : (n : ℕ) (doing : Doing) (aim : FaultTarget) (w : World) → Mailed w → (AllCanHold w.turns → WasSent (sent_in w.turns) n doing) → Mailed (at_node n doing aim w).world
at_mailed n doing aim w h came = either_mailed (is_up w n) (asked n doing aim w w.outcomes) (quiet w) (asked_mailed n doing aim w w.outcomes h came) h

-- ---- events

link_mailed : (doing : Doing) (aim : FaultTarget) (w : World) (o : Option ℕ) → Mailed w → ((n : ℕ) → AllCanHold w.turns → WasSent (sent_in w.turns) n doing) → Mailed (on_link doing aim w o).world
link_mailed doing aim w None h came = h
link_mailed doing aim w (Some n) h came = at_mailed n doing aim w h (came n)

arrives_mailed : (aim : FaultTarget) (w : World) (r : Result RaftMessage PeerFault) → Mailed w → ((m : RaftMessage) → r ≡ Ok m → AllCanHold w.turns → WasSent (sent_in w.turns) m.to (Receive m)) → Mailed (arrives aim w r).world
arrives_mailed aim w (Err fault) h came = h
arrives_mailed aim w (Ok m) h came = either_mailed (is_node w m.to) (at_node m.to (Receive m) aim w) (quiet w) (at_mailed m.to (Receive m) aim w h (came m refl)) h

was_sent : (w : World) (place : ℕ) (l : Letter) (m : RaftMessage) → Mailed w → slice_get w.mail place ≡ Some l → arriving l ≡ Ok m → AllCanHold w.turns → WasSent (sent_in w.turns) m.to (Receive m)
unfolding ReadsBack
was_sent w place l m h at reads back =
    let f = found w.mail (sent_in w.turns) place l h.mail at in
    let same : m ≡ f.1 = all_read w.turns back f.0 f.1 f.2 m (ap read_of f.3 ∙ reads) in
    (refl, (f.0, f.2 ∙ ap Some (sym same)))

delivered_mailed : (aim : FaultTarget) (w : World) (place : ℕ) (o : Option Letter) → slice_get w.mail place ≡ o → Mailed w → Mailed (delivered aim w place o).world
delivered_mailed aim w place None at h = h
delivered_mailed aim w place (Some l) at h =
    let v = record w { mail = arrived_at w.mail place } in
    arrives_mailed aim v (arriving l) (same_mail w v (strip_arrived w.mail place) refl h) (λ m reads back. was_sent w place l m h at reads back)

delivers_mailed : (place : ℕ) (aim : FaultTarget) → Goes (delivers place aim)
delivers_mailed place aim w h = delivered_mailed aim w place (slice_get w.mail place) refl h

connects_mailed : (n c : ℕ) → Goes (connects n c)
connects_mailed n c w h = either_mailed (is_up w n) _ _ (asked_mailed n (Connect c) Nothing _ w.outcomes (same_mail w _ refl refl h) (λ r. tt)) (same_mail w _ refl refl h)

hangs_mailed : (c : ℕ) (aim : FaultTarget) → Goes (hangs_up c aim)
hangs_mailed c aim w h = link_mailed (Hangup c) aim _ (node_of w.links c) (same_mail w _ refl refl h) (λ n r. tt)

crashes_mailed : (n pick : ℕ) → Goes (crashes n pick)
crashes_mailed n pick w h = either_mailed (is_up w n) _ (quiet w) (turned w _ (Crashes n pick) h refl (sym (append-nil (map strip w.mail))) (λ r. tt)) h

starts_mailed : (n : ℕ) (aim : FaultTarget) → Goes (starts n aim)
starts_mailed n aim w h = either_mailed (is_up w n) (quiet w) (asked n (Start w.voters) aim w w.outcomes) h (asked_mailed n (Start w.voters) aim w w.outcomes h (λ r. tt))

counted_so_mailed : (go : World → Went) → Goes go → (w : World) (o : Option Usage) → Mailed w → Mailed (counted_so go w o).world
counted_so_mailed go g w None h = h
counted_so_mailed go g w (Some usage) h = g _ (same_mail w _ refl refl h)

counted_mailed : (go : World → Went) → Goes go → Goes (counted go)
counted_mailed go g w h = counted_so_mailed go g w (with_event w.usage) h

settled_mailed : (go : World → Went) → Goes go → (w : World) (o : Option ℕ) → Mailed w → Mailed (settled_so go w o).world
settled_mailed go g w None h = h
settled_mailed go g w (Some place) h = then_mailed go (counted (delivers place Nothing) w) g (one place)
  where
    one : (place : ℕ) → Mailed (counted (delivers place Nothing) w).world
    one place = counted_mailed (delivers place Nothing) (delivers_mailed place Nothing) w h

settles_mailed : (count : ℕ) → Goes (settles count)
settles_mailed zero w h = h
settles_mailed (suc count) w h = settled_mailed (settles count) (settles_mailed count) w (first_waiting w.mail) h

happens_mailed : (e : Event) (aim : FaultTarget) (w : World) → Mailed w → Mailed (happens w e aim).world
unfolding happens
happens_mailed (event.Timeout n) aim w h = counted_mailed (at_node n Timeout aim) (λ v k. at_mailed n Timeout aim v k (λ r. tt)) w h
happens_mailed (event.Beat n) aim w h = counted_mailed (at_node n Beat aim) (λ v k. at_mailed n Beat aim v k (λ r. tt)) w h
happens_mailed (event.Connect n c) aim w h = counted_mailed (connects n c) (connects_mailed n c) w h
happens_mailed (event.Bytes c bytes) aim w h = counted_mailed (λ (v : World). on_link (Bytes c bytes) aim v (node_of v.links c)) (λ v k. link_mailed (Bytes c bytes) aim v (node_of v.links c) k (λ n r. tt)) w h
happens_mailed (event.Hangup c) aim w h = counted_mailed (hangs_up c aim) (hangs_mailed c aim) w h
happens_mailed (event.Deliver m) aim w h = counted_mailed (delivers (m - 1) aim) (delivers_mailed (m - 1) aim) w h
happens_mailed (event.Settle count) aim w h = settles_mailed count w h
happens_mailed (event.Crash n pick) aim w h = counted_mailed (crashes n pick) (crashes_mailed n pick) w h
happens_mailed (event.Start n) aim w h = counted_mailed (starts n aim) (starts_mailed n aim) w h
happens_mailed (event.Put bytes) aim w h = h
happens_mailed (event.Take machine) aim w h = h

takes_mailed : (e : Event) (aim : FaultTarget) (w : World) → Mailed w → Mailed (takes w e aim).world
takes_mailed e aim w h = either_mailed (exists w e) _ _ (happens_mailed e aim w h) h

all_start_mailed : (count n : ℕ) → Goes (all_start count n)
all_start_mailed zero n w h = h
all_start_mailed (suc count) n w h = then_mailed (all_start count (suc n)) (starts n Nothing w) (all_start_mailed count (suc n)) (starts_mailed n Nothing w h)

none_sent : FrontsSent []
none_sent [] rest e r = tt
none_sent (f ∷ front) rest e r = absurd cc

opened_mailed : (voters spare : ℕ) (outcomes : List Outcome) → Mailed (opened voters spare outcomes).world
unfolding opened
opened_mailed voters spare outcomes = all_start_mailed (voters + spare) 1 (empty_world voters spare outcomes) (record { mail = refl; sent = none_sent })

-- ---- lines

abbrev StageMailed : Stage → Type 0
StageMailed (Opening outcomes) = Unit {0}
StageMailed (Within w) = Mailed w

shows_mailed : (s : Stage) (number : ℕ) (o : Option ClusterLine) → StageMailed s → StageMailed (runs.shows s number o).stage
shows_mailed s number None h = h
shows_mailed s number (Some say) h = h

line_mailed : (s : Stage) (number : ℕ) (line : ScriptLine) → StageMailed s → StageMailed (line_step s number line).stage
unfolding line_step
line_mailed s number says.Blank h = h
line_mailed (Opening outcomes) number (says.Nodes voters spare) h = opened_mailed voters spare outcomes
line_mailed (Opening outcomes) number (says.Pages machines) h = h
line_mailed (Opening outcomes) number (says.Show node) h = h
line_mailed (Opening outcomes) number (says.Event e aim) h = h
line_mailed (Within w) number (says.Nodes voters spare) h = h
line_mailed (Within w) number (says.Pages machines) h = h
line_mailed (Within w) number (says.Show node) h = shows_mailed (Within w) number (shown w node) h
line_mailed (Within w) number (says.Event e aim) h = takes_mailed e aim w h

said_mailed : (s : Stage) (number : ℕ) (o : Option ScriptLine) → StageMailed s → StageMailed (said_step s number o).stage
said_mailed s number None h = h
said_mailed s number (Some line) h = line_mailed s number line h

stop_or : (b : Bool) (s : Stage) (n m : Next) → StageMailed n.stage → StageMailed m.stage → StageMailed (if b then n else m).stage
stop_or true s n m a b = a
stop_or false s n m a b = b

step_mailed : (s : Stage) (number : ℕ) (line : List ℕ) → StageMailed s → StageMailed (step s number line).stage
unfolding step
step_mailed s number line h = stop_or (nat_le number line_count_limit) s (said_step s number (line_of line)) _ (said_mailed s number (line_of line) h) h

abbrev RunSent : runs.Run → Type 0
RunSent r = FrontsSent r.turns

ends_sent : (s : Stage) (said : List ClusterLine) (fault : Option Fault) → StageMailed s → RunSent (runs.ends_at s said fault)
ends_sent (Opening outcomes) said fault h = none_sent
ends_sent (Within w) said fault h = h.sent

onward_sent : (go : Stage → runs.Run) (next : Next) (o : Option Fault) → ((s : Stage) → StageMailed s → RunSent (go s)) → StageMailed next.stage → RunSent (runs.onward go next o)
onward_sent go next None g h = g next.stage h
onward_sent go next (Some fault) g h = ends_sent next.stage next.said (Some fault) h

lines_sent : (lines : List (List ℕ)) (s : Stage) (number : ℕ) → StageMailed s → RunSent (run_from s number lines)
lines_sent [] s number h = ends_sent s (runs.closing s) None h
lines_sent (line ∷ lines) s number h =
    onward_sent (λ (z : Stage). run_from z (suc number) lines) (step s number line) (step s number line).fault (λ z k. lines_sent lines z (suc number) k) (step_mailed s number line h)

pub mail_is_sent_holds : MailIsSent
mail_is_sent_holds script outcomes = lines_sent (lines_of script) (Opening outcomes) 1 tt
