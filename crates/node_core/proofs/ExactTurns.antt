-- Turns, what runs until nothing is left, and a step, exactly: from what their parts show.
use Rattle.std.proofs.Common.{◌≡◌, ◌⊎◌, ◌<◌, ◌≤◌, ℕ, zero, suc, Bool, true, false, true≢false, List, [], ◌∷◌, ◌++◌, Option, Some, None, Result, Ok, Err, inl, inr, refl, sym, ap, ◌∙◌, subst, append_assoc}
use Rattle.std.specs.Prelude.{nat_lt, is_some, IfOk}
use Rattle.std.proofs.lemmas.Bool.{lt-ltb, le-ltb}
use Rattle.sql_engine.specs.declared.kind.EngineKind.{EngineKind}
use Rattle.sql_engine.specs.Meanings.{Meaning, Told}
use Rattle.session_statements.specs.Running.{TellsAll}
use Rattle.session_statements.proofs.Telling.{tells_join}
use Rattle.session_spec.specs.Engines.{Answer}
use Rattle.session_gateway.specs.Later.{first_due}
use Rattle.client_sessions.specs.Clients.{Offer, next_offer}
use Rattle.raft_safety.specs.Members.{Setup}
use Rattle.raft_core.specs.declared.event.RaftEvent.{RaftEvent}
use Rattle.raft_on_disk.specs.Mails.{sent}
use Rattle.raft_on_disk.specs.Replicas.{ReplicaValue}
use Rattle.node_core.specs.declared.event.Event.{Event}
use Rattle.node_core.specs.declared.fault.NodeFault.{NodeFault}
use Rattle.node_core.specs.declared.links.Link.{Link}
use Rattle.node_core.specs.declared.outs.StepOutputs.{StepOutputs}
use Rattle.node_core.specs.declared.running.Running.{Running}
use Rattle.node_core.specs.Core.{Core, core_of, clients_at, idle}
use Rattle.node_core.specs.Exact.{ExactDue, ExactWaitingQueries, ExactEntry, MayCompact, ExactCompaction, OnHeard, OnOffer, OnQuery, ExactAttend, ExactAttends, OnCommit, OnDue, ExactTurn, UnlinkedTurn, RunsIn, ExactTurns, ExactBegin, SaysOf, StepsExactly}
use Rattle.node_core.specs.ExactParts.{Answered, ExactOffer, ExactCompactionIfDue}
use Rattle.node_core.specs.Taking.{takes, loses, TookLetter, came, none_came}
use Rattle.node_core.specs.Whole.{IsQuiet}

-- ---- answers

-- the same answers give another thing
abbrev pub so_answered : (P Q : List Answer → Type 0) (t u : Option Told) → ((answers : List Answer) → P answers → Q answers) → Answered t u P → Answered t u Q
so_answered P Q t u f h = record { answers = h.answers; told = h.told; by = f h.answers h.by }

-- there was none
pub unanswered : (P : List Answer → Type 0) (t u : Option Told) → u ≡ t → P [] → Answered t u P
unfolding TellsAll
unanswered P t u e h = record { answers = []; told = sym e; by = h }

untold_so : (answers : List Answer) (t u : Option Told) → answers ≡ [] → TellsAll answers t u → u ≡ t
unfolding TellsAll
untold_so answers t u none told = sym (subst (λ (a : List Answer). TellsAll a t u) none told)

none_of : {T : Type 0} (o : Option T) (b : Bool) → b ≡ false → b ≡ is_some o → o ≡ None
none_of None b e is = refl
none_of (Some x) b e is = absurd (true≢false (sym is ∙ e))

-- ---- the peer connections of a core

pub links_in : (n : Running) → (core_of n).links ≡ n.links.all.items
unfolding core_of
links_in n = refl

pub due_in : (n : Running) → (core_of n).due ≡ n.due.items
unfolding core_of
due_in n = refl

-- other messages of connections that carry those of peers
pub linked_core : (old new : Running) → new ≡ record old { links = new.links } → old.links.all.items ≡ [] → new.links.all.items ≡ [] → core_of new ≡ core_of old
unfolding core_of
linked_core old new is before now = ap core_of is ∙ ap (λ (links : List Link). record (core_of old) { links = links }) (now ∙ sym before)

-- ---- a turn where nothing is due at Raft and all that is committed is applied

some_query : (m : Meaning) (kind : EngineKind) (o : Option ℕ) (w v : Core) (more : Bool) (answers : List Answer) → more ≡ true → more ≡ is_some o → ExactWaitingQueries m kind o w v answers → OnQuery m kind o w v true answers
some_query m kind None w v more answers on is h = absurd (true≢false (sym on ∙ is))
some_query m kind (Some conn) w v more answers on is h = (h, refl)

-- a query was run
pub query_turn : (m : Meaning) (kind : EngineKind) (t u : Option Told) (w v : Core) (more : Bool) → more ≡ true → more ≡ is_some (first_due w.sessions)
    → Answered t u (ExactWaitingQueries m kind (first_due w.sessions) w v) → Answered t u (ExactAttends m kind w v true)
query_turn m kind t u w v more on is h = record { answers = h.answers; told = h.told; by = λ links. some_query m kind (first_due w.sessions) w v more h.answers on is h.by }

some_offer : (m : Meaning) (kind : EngineKind) (o : Option Offer) (w v : Core) (more : Bool) (answers : List Answer) → more ≡ true → more ≡ is_some o → ExactOffer m kind o w v answers → OnOffer m kind o w v true answers
some_offer m kind None w v more answers on is h = absurd (true≢false (sym on ∙ is))
some_offer m kind (Some offer) w v more answers on is h = (h, refl)

-- no query was due, and this is so of offers
on_offer : (m : Meaning) (kind : EngineKind) (w v : Core) (more : Bool) (answers : List Answer) → first_due w.sessions ≡ None → OnOffer m kind (next_offer (clients_at w)) w v more answers → ExactAttend m kind w v more answers
on_offer m kind w v more answers none h = subst (λ (o : Option ℕ). OnQuery m kind o w v more answers) (sym none) h

-- What was looked at before anything was done: no query was due.
pub record NoQuery (s t : Option Told) (w x : Core) : Type 0 where
  pub none : first_due w.sessions ≡ None
  pub same : x ≡ w
  pub untold : t ≡ s

pub no_query : (s t : Option Told) (old new : Running) (more : Bool) → more ≡ false → more ≡ is_some (first_due (core_of old).sessions) → new ≡ old → t ≡ s → NoQuery s t (core_of old) (core_of new)
no_query s t old new more off is same untold = record { none = none_of (first_due (core_of old).sessions) more off is; same = ap core_of same; untold = untold }

-- a message was taken
pub message_turn : (M : EngineKind → Meaning) (k l : EngineKind) (s t u : Option Told) (w x v : Core) (more : Bool) → l ≡ k → NoQuery s t w x → more ≡ true → more ≡ is_some (next_offer (clients_at x))
    → Answered t u (ExactOffer (M l) l (next_offer (clients_at x)) x v) → Answered s u (ExactAttends (M k) k w v true)
message_turn M k l s t u w x v more kind n on is h = record {
  answers = h.answers;
  told = subst (λ (z : Option Told). TellsAll h.answers z u) n.untold h.told;
  by = λ links.
      on_offer (M k) k w v true h.answers n.none
      (subst (λ (z : Core). OnOffer (M k) k (next_offer (clients_at z)) z v true h.answers) n.same
      (some_offer (M k) k (next_offer (clients_at x)) x v more h.answers on is (subst (λ (z : EngineKind). ExactOffer (M z) z (next_offer (clients_at x)) x v h.answers) kind h.by)));
}

-- nor was a message to be taken
pub record NoOffer (s u : Option Told) (w y : Core) : Type 0 where
  pub due : first_due w.sessions ≡ None
  pub none : next_offer (clients_at w) ≡ None
  pub is : y ≡ idle w
  pub untold : u ≡ s

none_offered : (m : Meaning) (kind : EngineKind) (o : Option Offer) (x v : Core) (answers : List Answer) → o ≡ None → ExactOffer m kind o x v answers → (v ≡ idle x) × (answers ≡ [])
none_offered m kind o x v answers none h = subst (λ (z : Option Offer). ExactOffer m kind z x v answers) none h

pub no_offer : (m : Meaning) (kind : EngineKind) (s t u : Option Told) (w x v : Core) (more : Bool) → NoQuery s t w x → more ≡ false → more ≡ is_some (next_offer (clients_at x))
    → Answered t u (ExactOffer m kind (next_offer (clients_at x)) x v) → NoOffer s u w v
no_offer m kind s t u w x v more n off is h =
    let none = none_of (next_offer (clients_at x)) more off is in
    let by = none_offered m kind (next_offer (clients_at x)) x v h.answers none h.by in
    record {
      due = n.none;
      none = sym (ap (λ (z : Core). next_offer (clients_at z)) n.same) ∙ none;
      is = by.0 ∙ ap idle n.same;
      untold = untold_so h.answers t u by.1 h.told ∙ n.untold;
    }

-- after that
behind_offers : (m : Meaning) (kind : EngineKind) (s u : Option Told) (w y v : Core) (more : Bool) → NoOffer s u w y
    → (MayCompact y × ExactCompaction y v × (more ≡ true)) ⊎ ((MayCompact y → ⊥) × OnHeard y.heard y v more) → ExactAttend m kind w v more []
behind_offers m kind s u w y v more n h =
    on_offer m kind w v more [] n.due
    (subst (λ (o : Option Offer). OnOffer m kind o w v more []) (sym n.none)
    (subst (λ (z : Core). (MayCompact z × ExactCompaction z v × (more ≡ true)) ⊎ ((MayCompact z → ⊥) × OnHeard z.heard z v more)) n.is h, refl))

compacted : (y v : Core) (more : Bool) → more ≡ true → ExactCompactionIfDue y v more → MayCompact y × ExactCompaction y v
compacted y v more on h = subst (ExactCompactionIfDue y v) on h

-- a snapshot was taken
pub compact_turn : (m : Meaning) (kind : EngineKind) (s u : Option Told) (w y v : Core) (more : Bool) → NoOffer s u w y → more ≡ true → ExactCompactionIfDue y v more → Answered s u (ExactAttends m kind w v true)
compact_turn m kind s u w y v more n on h =
    let by = compacted y v more on h in
    unanswered (ExactAttends m kind w v true) s u n.untold (λ links. behind_offers m kind s u w y v true n (inl (by.0, by.1, refl)))

-- nor was one to be taken
pub uncompacted : (y v : Core) (more : Bool) → more ≡ false → ExactCompactionIfDue y v more → MayCompact y → ⊥
uncompacted y v more off h = (subst (ExactCompactionIfDue y v) off h).0

-- if no connection carried a peer's messages before, none does then
pub still_unlinked : (s u : Option Told) (w : Core) (mid old : Running) → NoOffer s u w (core_of mid) → old ≡ mid → w.links ≡ [] → old.links.all.items ≡ []
still_unlinked s u w mid old n same links = sym (links_in old) ∙ ap (λ (x : Running). (core_of x).links) same ∙ ap (λ (z : Core). z.links) n.is ∙ links

-- a message of a peer was taken, which is so only if there are peer connections
pub letter_turn : (m : Meaning) (kind : EngineKind) (n : Meaning) (other : EngineKind) (setup : Setup) (old new : Running) (s t u : Option Told) (w v : Core) → t ≡ s
    → TookLetter n other setup old new t u → (w.links ≡ [] → ⊥) → Answered s u (ExactAttends m kind w v true)
unfolding TellsAll
letter_turn m kind n other setup old new s t u w v e (came message mid links is (takes since beside) moves) none = record {
  answers = since.piece.answers;
  told = subst (λ (z : Option Told). TellsAll since.piece.answers z u) e since.heard;
  by = λ links. absurd (none links);
}
letter_turn m kind n other setup old new s t u w v e (came message mid links is (loses lost same told) moves) none = unanswered (ExactAttends m kind w v true) s u (sym told ∙ e) (λ links. absurd (none links))
letter_turn m kind n other setup old new s t u w v e (none_came fresh told moves) none = unanswered (ExactAttends m kind w v true) s u (sym told ∙ e) (λ links. absurd (none links))

-- the connection whose bytes came was looked at, or nothing was left
pub heard_turn : (r : Result Bool NodeFault) (m : Meaning) (kind : EngineKind) (s t u : Option Told) (w y z v : Core) → NoOffer s t w y → u ≡ t → (MayCompact y → ⊥) → (w.links ≡ [] → z ≡ y)
    → IfOk r (λ more. z.links ≡ [] → OnHeard z.heard z v more) → IfOk r (λ more. Answered s u (ExactAttends m kind w v more))
heard_turn (Err fault) m kind s t u w y z v n untold never same h = tt
heard_turn (Ok more) m kind s t u w y z v n untold never same h =
    unanswered (ExactAttends m kind w v more) s u (untold ∙ n.untold)
    (λ links. behind_offers m kind s t w y v more n
    (inr (never, subst (λ (c : Core). OnHeard c.heard c v more) (same links) (h (ap (λ (c : Core). c.links) (same links ∙ n.is) ∙ links)))))

-- ---- a turn

-- what the node has given Raft itself
pub due_turn : (m : Meaning) (kind : EngineKind) (t : Option Told) (w v : Core) (more : Bool) → more ≡ true → ExactDue w.due w v more → Answered t t (UnlinkedTurn m kind w v true)
due_turn m kind t w v more on h = unanswered (UnlinkedTurn m kind w v true) t t refl (λ links. by w.due h)
  where
    by : (events : List RaftEvent) → ExactDue events w v more → OnDue m kind events w v true []
    by [] h = absurd (true≢false (sym on ∙ h.1))
    by (event ∷ rest) h = (h.0, refl, refl)

pub taken_due : (m : Meaning) (kind : EngineKind) (t : Option Told) (old new : Running) (more : Bool) → more ≡ true → ExactDue old.due.items (core_of old) (core_of new) more → Answered t t (UnlinkedTurn m kind (core_of old) (core_of new) true)
taken_due m kind t old new more on h = due_turn m kind t (core_of old) (core_of new) more on (subst (λ (events : List RaftEvent). ExactDue events (core_of old) (core_of new) more) (sym (due_in old)) h)

-- nothing was due
pub record NoneDue (w x : Core) : Type 0 where
  pub none : w.due ≡ []
  pub same : x ≡ w

pub none_due : (w x : Core) (more : Bool) → more ≡ false → ExactDue w.due w x more → NoneDue w x
none_due w x more off h = by w.due refl h
  where
    by : (events : List RaftEvent) → w.due ≡ events → ExactDue events w x more → NoneDue w x
    by [] is h = record { none = is; same = h.0 }
    by (event ∷ rest) is h = absurd (true≢false (sym h.1 ∙ off))

pub untaken_due : (old new : Running) (more : Bool) → more ≡ false → ExactDue old.due.items (core_of old) (core_of new) more → NoneDue (core_of old) (core_of new)
untaken_due old new more off h = none_due (core_of old) (core_of new) more off (subst (λ (events : List RaftEvent). ExactDue events (core_of old) (core_of new) more) (sym (due_in old)) h)

on_commit : (m : Meaning) (kind : EngineKind) (w v : Core) (committed more : Bool) (answers : List Answer) → w.due ≡ [] → nat_lt w.applied w.raft.commit ≡ committed → OnCommit m kind committed w v more answers
    → ExactTurn m kind w v more answers
on_commit m kind w v committed more answers none is h =
    subst (λ (events : List RaftEvent). OnDue m kind events w v more answers) (sym none) (subst (λ (b : Bool). OnCommit m kind b w v more answers) (sym is) h)

-- whether an entry may be applied, by the numbers that code compares
pub may_apply : (n : Running) (commit : ℕ) → commit ≡ n.replica.raft.commit → n.applied.index < commit → nat_lt (core_of n).applied (core_of n).raft.commit ≡ true
unfolding core_of
may_apply n commit e l = ap (λ (c : ℕ). nat_lt n.applied.index c) (sym e) ∙ lt-ltb n.applied.index commit l

pub all_applied : (n : Running) (commit : ℕ) → commit ≡ n.replica.raft.commit → commit ≤ n.applied.index → nat_lt (core_of n).applied (core_of n).raft.commit ≡ false
unfolding core_of
all_applied n commit e l = ap (λ (c : ℕ). nat_lt n.applied.index c) (sym e) ∙ le-ltb n.applied.index commit l

-- an entry was applied
pub entry_turn : (m : Meaning) (kind : EngineKind) (t u : Option Told) (w x v : Core) → NoneDue w x → nat_lt x.applied x.raft.commit ≡ true → Answered t u (ExactEntry m kind x v) → Answered t u (UnlinkedTurn m kind w v true)
entry_turn m kind t u w x v n more h = record {
  answers = h.answers;
  told = h.told;
  by = λ links.
      on_commit m kind w v true true h.answers n.none (sym (ap (λ (z : Core). nat_lt z.applied z.raft.commit) n.same) ∙ more)
      (subst (λ (z : Core). ExactEntry m kind z v h.answers) n.same h.by, refl);
}

-- it was attended to what there is
pub attend_turn : (r : Result Bool NodeFault) (m : Meaning) (kind : EngineKind) (t u : Option Told) (w x v : Core) → NoneDue w x → nat_lt x.applied x.raft.commit ≡ false
    → IfOk r (λ more. Answered t u (ExactAttends m kind x v more)) → IfOk r (λ more. Answered t u (UnlinkedTurn m kind w v more))
attend_turn (Err fault) m kind t u w x v n all h = tt
attend_turn (Ok more) m kind t u w x v n all h = record {
  answers = h.answers;
  told = h.told;
  by = λ links.
      on_commit m kind w v false more h.answers n.none (sym (ap (λ (z : Core). nat_lt z.applied z.raft.commit) n.same) ∙ all)
      (subst (λ (z : Core). ExactAttend m kind z v more h.answers) n.same (h.by (ap (λ (z : Core). z.links) n.same ∙ links)));
}

-- ---- turns one after another

-- Turns have led here after which something is left: whatever runs from here runs from there.
pub record Ahead (m : Meaning) (kind : EngineKind) (told told_now : Option Told) (w now : Core) : Type 0 where
  pub answers : List Answer
  pub told_so : TellsAll answers told told_now
  pub on : (turns : ℕ) (v : Core) (rest : List Answer) → RunsIn turns m kind now v rest → (more : ℕ) × RunsIn more m kind w v (answers ++ rest)

pub none_ahead : (m : Meaning) (kind : EngineKind) (told : Option Told) (w : Core) → Ahead m kind told told w w
unfolding TellsAll
none_ahead m kind told w = record { answers = []; told_so = refl; on = λ turns v rest h. (turns, h) }

pub one_ahead : (M : EngineKind → Meaning) (k l : EngineKind) (s t u : Option Told) (w x y : Core) (more : Bool) → l ≡ k → more ≡ true → Ahead (M k) k s t w x → Answered t u (UnlinkedTurn (M l) l x y more) → Ahead (M k) k s u w y
one_ahead M k l s t u w x y more kind left a h = record {
  answers = a.answers ++ h.answers;
  told_so = tells_join a.answers h.answers s t u a.told_so h.told;
  on = λ turns v rest r.
      let turn = subst (λ (b : Bool). UnlinkedTurn (M k) k x y b h.answers) left (subst (λ (z : EngineKind). UnlinkedTurn (M z) z x y more h.answers) kind h.by) in
      let p = a.on (suc turns) v (h.answers ++ rest) (y, h.answers, rest, refl, turn, r) in
      (p.0, subst (λ (all : List Answer). RunsIn p.0 (M k) k w v all) (sym (append_assoc a.answers h.answers rest)) p.1);
}

pub last_ahead : (M : EngineKind → Meaning) (k l : EngineKind) (s t u : Option Told) (w x y : Core) (more : Bool) → l ≡ k → more ≡ false → Ahead (M k) k s t w x → Answered t u (UnlinkedTurn (M l) l x y more) → Answered s u (ExactTurns (M k) k w y)
last_ahead M k l s t u w x y more kind left a h =
    let turn = subst (λ (b : Bool). UnlinkedTurn (M k) k x y b h.answers) left (subst (λ (z : EngineKind). UnlinkedTurn (M z) z x y more h.answers) kind h.by) in
    let p = a.on zero y h.answers turn in
    record { answers = a.answers ++ h.answers; told = tells_join a.answers h.answers s t u a.told_so h.told; by = record { turns = p.0; are = p.1 } }

-- ---- a step

-- how many times something was kept decides nothing
pub counted_core : (old : Running) (r : ReplicaValue) → r ≡ record old.replica { keeps = 0 } → core_of (record old { replica = r }) ≡ core_of old
unfolding core_of
counted_core old r e = ap (λ (z : ReplicaValue). core_of (record old { replica = z })) e

-- what was noted is said
pub said_of : (r : Result StepOutputs NodeFault) (old new : Running) → new ≡ record old { outs = new.outs; mail = new.mail } → IsQuiet new
    → IfOk r (λ outs. (outs.replies.items ≡ old.outs.replies.items) × (outs.closed.items ≡ old.outs.closed.items)) → IfOk r (λ outs. outs.messages.items ≡ sent old.mail) → IfOk r (λ outs. SaysOf (core_of old) (core_of new) outs)
unfolding core_of
said_of (Err fault) old new rest quiet said messages = tt
said_of (Ok outs) old new rest quiet said messages = record {
  replies = said.0;
  closed = said.1;
  messages = messages;
  is = ap core_of rest ∙ (λ i. record (core_of old) { mail = quiet.mail i; replies = quiet.replies i; closed = quiet.closed i });
}

pub step_of : (r : Result StepOutputs NodeFault) (M : EngineKind → Meaning) (k l : EngineKind) (s t u : Option Told) (event : Event) (w x y z v : Core) → x ≡ w → l ≡ k → Answered s t (ExactBegin event x y) → Answered t u (ExactTurns (M l) l y z)
    → IfOk r (λ outs. SaysOf z v outs) → IfOk r (λ outs. Answered s u (StepsExactly (M k) k event w v outs))
step_of (Err fault) M k l s t u event w x y z v same kind begun ran says = tt
step_of (Ok outs) M k l s t u event w x y z v same kind begun ran says = record {
  answers = begun.answers ++ ran.answers;
  told = tells_join begun.answers ran.answers s t u begun.told ran.told;
  by = record {
    first = begun.answers;
    rest = ran.answers;
    all = refl;
    mid = y;
    begins = subst (λ (c : Core). ExactBegin event c y begun.answers) same begun.by;
    last = z;
    runs = subst (λ (n : EngineKind). ExactTurns (M n) n y z ran.answers) kind ran.by;
    says = says;
  };
}
