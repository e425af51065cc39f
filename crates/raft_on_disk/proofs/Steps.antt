-- What a step leaves: after Ok, and at each exit of an Err.
use Rattle.std.proofs.Common.{◌≡◌, ◌≢◌, ℕ, ◌+◌, ◌-◌, ◌<◌, ◌≤◌, Bool, true, false, cond, List, [], ◌∷◌, drop, map, refl, sym, ap, subst, ◌∙◌, arith, ⊎_elim, Option, Some, None, Ok, Err}
use Rattle.std.specs.Prelude.{MatchOption, ◌&&◌, ◌==◌, nat_lt, option_map}
use Rattle.std.specs.List.{AllByRecursion}
use Rattle.std.proofs.lemmas.Bool.{cond_both, and_parts, ltb-true, ltb-false, eqb-true, eq-eqb}
use Rattle.raft_spec.specs.Log.{LogEnd}
use Rattle.raft_spec.specs.Node as rules
use Rattle.raft_spec.specs.Todo.{IsLogWrite}
use Rattle.raft_spec.specs.NodeValues.{NodeValue, IsCoherent, node_of}
use Rattle.raft_spec.specs.Compaction.{compacted}
use Rattle.raft_spec.proofs.NodeValues.{compacted_length}
use Rattle.raft_messages.specs.declared.message.Snapshot.{Snapshot}
use Rattle.raft_messages.specs.declared.message.MessageBody.{MessageBody}
use Rattle.raft_messages.specs.declared.message.MessageBody.TheVariants as whats
use Rattle.raft_messages.specs.declared.message.RaftMessage.{RaftMessage}
use Rattle.raft_messages.specs.Messages.{snapshot_end, what_value, message_value}
use Rattle.raft_core.specs.declared.event.RaftEvent.{RaftEvent}
use Rattle.raft_core.specs.declared.event.RaftEvent.TheVariants as events
use Rattle.raft_core.specs.declared.sending.Outgoing.{Outgoing}
use Rattle.raft_core.specs.declared.sending.Outgoing.TheVariants as sendings
use Rattle.raft_core.specs.Events.{input_of, offered, IsMeta, IsOffered, WritesLog}
use Rattle.raft_core.specs.Messages.{IsBare, IsBareWhat, sending_value, sendings_value}
use Rattle.disk_model.specs.Disk.{Disk}
use Rattle.disk_model.specs.Trait.{Text, Known}
use Rattle.disk_model.proofs.Runs.{known_map}
use Rattle.store_laws.specs.Names.{NodeFiles}
use Rattle.store_laws.specs.Store.{Snap, Log, Kept, Loaded}
use Rattle.store_laws.specs.Meta.{with_vote}
use Rattle.store_laws.specs.Snapshots.{given, IsLonger, with_snapshot}
use Rattle.store_format.specs.NodeFormat.{node_format}
use Rattle.store_format.specs.FilesRead.{snap_kept}
use Rattle.segment_store.specs.Open.{Open}
use Rattle.segment_store.specs.declared.fault.StoreFault.{StoreFault}
use Rattle.segment_store.specs.Keeps.{folder, OldOrNew}
use Rattle.segment_store.specs.Keeping.{OldOrKept, snap_value}
use Rattle.segment_store.specs.Loading.{kept_in}
use Rattle.raft_on_disk.specs.Terms.{HasTerm}
use Rattle.raft_on_disk.specs.Keeping.{kept_at, log_from, voted, one_of, kept_snapshot, Has, Stores, KeepsLog}
use Rattle.raft_on_disk.specs.Replicas.{ReplicaValue, IsNoneAtZero, IsWhole, IsIntake, IsKept, kept_of, end_of, stepped, said, bytes_in, bytes_after, snap_after}
use Rattle.raft_on_disk.specs.Stops.{votes_between, before, between, after, StopsIn, Stops}
use Rattle.raft_on_disk.specs.Letters.{letter, Carries, CarriesIn, Tells}
use Rattle.raft_on_disk.proofs.StepShapes.{step_has_term, step_speaks, IsFront, IsIntake as IsRuleIntake, SpeaksOf, SpeakOf}
use Rattle.raft_on_disk.proofs.KeptLogs.{Stepped, stepped_of, nothing_written, batch_fits, batch_written, snapshot_fits, snapshot_written}
use Rattle.raft_on_disk.proofs.KeptStates.{seen}
use Rattle.raft_on_disk.proofs.CommitRises.{commit_rises}

-- ---- the event

front_fits : (w : MessageBody) → IsFront (what_value w)
front_fits (whats.AskVote last transfer) = tt
front_fits (whats.Vote granted) = tt
front_fits (whats.Append prev commit entries) = tt
front_fits (whats.Ack good index) = tt
front_fits (whats.Install snapshot) = compacted_length (snapshot_end snapshot) snapshot.index
front_fits whats.TimeoutNow = tt

rule_intake : (event : RaftEvent) → IsIntake event → IsRuleIntake (input_of event)
rule_intake events.Timeout x = tt
rule_intake events.Beat x = tt
rule_intake events.Yield x = tt
rule_intake (events.Message message) x = front_fits message.what
rule_intake (events.Propose entries) x = tt
rule_intake (events.Transfer to) x = tt
rule_intake (events.Snapped end) x = absurd x
rule_intake (events.Servers servers) x = tt

log_write : (event : RaftEvent) (s t : rules.Node) (install : Option Snapshot) (batch : Option ℕ) → IsIntake event → WritesLog event s t install batch → IsLogWrite s t (option_map snapshot_end install) batch
log_write events.Timeout s t install batch x w = w
log_write events.Beat s t install batch x w = w
log_write events.Yield s t install batch x w = w
log_write (events.Message message) s t install batch x w = w
log_write (events.Propose entries) s t install batch x w = w
log_write (events.Transfer to) s t install batch x w = w
log_write (events.Snapped end) s t install batch x w = absurd x
log_write (events.Servers servers) s t install batch x w = w

-- what Raft's step has made
pub record Made (r : ReplicaValue) (event : RaftEvent) (n : NodeValue) (meta : Option (ℕ × ℕ)) (install : Option Snapshot) (batch : Option ℕ) : Type 0 where
  pub whole : IsWhole r
  pub intake : IsIntake event
  pub coherent : IsCoherent n
  pub node : node_of n ≡ stepped r event
  pub meta_is : IsMeta r.raft.term r.raft.vote n meta
  pub log : WritesLog event (node_of r.raft) (node_of n) install batch
  pub offers : IsOffered event install

abbrev came_bytes : List ℕ → Option Snapshot → List ℕ
came_bytes was None = was
came_bytes was (Some s) = s.bytes

abbrev pub came_snap : Snap → Option Snapshot → Snap
came_snap was None = was
came_snap was (Some s) = snap_value s

snaps_are : (s t : rules.Node) (event : RaftEvent) (install : Option Snapshot) (batch : Option ℕ) (was : Snap) → s.snapshot.index ≤ s.commit → IsLogWrite s t (option_map snapshot_end install) batch → IsOffered event install → cond (nat_lt s.commit t.snapshot.index) (snap_kept (offered event)) was ≡ came_snap was install
snaps_are s t event None batch was low w o = cond_both (nat_lt s.commit t.snapshot.index) _ _ (λ (l : Snap). l ≡ was)
    (λ e. let lt = ltb-true _ _ e in let i : t.snapshot.index ≡ s.snapshot.index = ap (λ (x : LogEnd). x.index) w.0 in absurd (omega arith))
    (λ e. refl)
snaps_are s t event (Some snap) batch was low w o = cond_both (nat_lt s.commit t.snapshot.index) _ _ (λ (l : Snap). l ≡ snap_value snap)
    (λ e. ap snap_kept o)
    (λ e. let le = ltb-false _ _ e in let lt : s.commit < t.snapshot.index = w.0 in absurd (omega arith))

bytes_are : (s t : rules.Node) (event : RaftEvent) (install : Option Snapshot) (batch : Option ℕ) (was : List ℕ) → s.snapshot.index ≤ s.commit → IsLogWrite s t (option_map snapshot_end install) batch → IsOffered event install → cond (nat_lt s.commit t.snapshot.index) (bytes_in (offered event)) was ≡ came_bytes was install
bytes_are s t event None batch was low w o = cond_both (nat_lt s.commit t.snapshot.index) _ _ (λ (l : List ℕ). l ≡ was)
    (λ e. let lt = ltb-true _ _ e in let i : t.snapshot.index ≡ s.snapshot.index = ap (λ (x : LogEnd). x.index) w.0 in absurd (omega arith))
    (λ e. refl)
bytes_are s t event (Some snap) batch was low w o = cond_both (nat_lt s.commit t.snapshot.index) _ _ (λ (l : List ℕ). l ≡ snap.bytes)
    (λ e. ap bytes_in o)
    (λ e. let le = ltb-false _ _ e in let lt : s.commit < t.snapshot.index = w.0 in absurd (omega arith))

-- ---- the term and the vote

voted_is : (h n : NodeValue) (meta : Option (ℕ × ℕ)) (was : List ℕ) → IsMeta h.term h.vote n meta → voted meta (kept_at (node_of h) was) ≡ with_vote n.term n.vote (kept_at (node_of h) was)
voted_is h n None was m = λ i. record { term = sym m.0 i; vote = sym m.1 i; snap = (kept_at (node_of h) was).snap; log = (kept_at (node_of h) was).log }
voted_is h n (Some meta) was m = λ i. record { term = m.1 i; vote = m.2 i; snap = (kept_at (node_of h) was).snap; log = (kept_at (node_of h) was).log }

votes_are : (h n : NodeValue) (meta : Option (ℕ × ℕ)) → IsMeta h.term h.vote n meta → votes_between (node_of h) (node_of n) ≡ one_of meta
votes_are h n None m = cond_both ((n.term == h.term) && (n.vote == h.vote)) _ _ (λ (k : ℕ). k ≡ 0) (λ e. refl) (λ e. absurd (bad _ _ (eq-eqb _ _ m.0) (eq-eqb _ _ m.1) e))
  where
    bad : (a b : Bool) → a ≡ true → b ≡ true → (a && b) ≡ false → ⊥
    bad true true p q x = absurd cc
    bad true false p q x = absurd cc
    bad false b p q x = absurd cc
votes_are h n (Some meta) m = cond_both ((n.term == h.term) && (n.vote == h.vote)) _ _ (λ (k : ℕ). k ≡ 1)
    (λ e. let p = and_parts _ _ e in ⊎_elim (λ (x : n.term ≢ h.term). absurd (x (eqb-true _ _ p.0))) (λ (x : n.vote ≢ h.vote). absurd (x (eqb-true _ _ p.1))) m.0)
    (λ e. refl)

-- ---- what a load may answer

longer_same : (g : NodeFiles) (old : Log) (k : Kept) → kept_in g ≡ Loaded k → IsLonger node_format 10000000000000000 g k.term k.vote k.snap old k.log
longer_same g old k e =
    let z : k.log.first - k.log.first ≡ 0 = omega arith in
    record { log = k.log; kept_is = e; longer = record { first = omega arith; upto = omega arith; entries = ap (λ n. drop n k.log.entries) (sym z) }; left = given refl }

pub stops_none : (tells : Bool) (states : Disk Text → Type 0) (store : Open) (s t : rules.Node) (was now : List ℕ) (count : ℕ) → Has tells states store (kept_at s was) → Stops tells states s t was now count count
stops_none tells states store s t was now count has = known_map tells states _ (λ d. StopsIn s t was now count count (folder d)) has
    (λ d h. record { crash = λ g left fair. before refl (h.crash g left); seen = seen store (kept_at s was) (folder d) h })

stops_vote : (tells : Bool) (states : Disk Text → Type 0) (s t : rules.Node) (was now : List ℕ) (count : ℕ) (new : Kept) → new ≡ with_vote t.term t.vote (kept_at s was) → Known tells states (λ d. OldOrNew (kept_at s was) new (folder d)) → Stops tells states s t was now count count
stops_vote tells states s t was now count new is known = known_map tells states _ (λ d. StopsIn s t was now count count (folder d)) known
    (λ d o. record {
      crash = λ g left fair. ⊎_elim (λ (a : kept_in g ≡ Loaded (kept_at s was)). before refl a) (λ (b : kept_in g ≡ Loaded new). between (omega arith) (b ∙ ap Loaded is)) (o.crash g left fair);
      seen = o.seen;
    })

pub stops_after : (tells : Bool) (states : Disk Text → Type 0) (store : Open) (s t : rules.Node) (was now : List ℕ) (count total : ℕ) → count + votes_between s t ≤ total → Has tells states store (kept_at t now) → Stops tells states s t was now count total
stops_after tells states store s t was now count total le has = known_map tells states _ (λ d. StopsIn s t was now count total (folder d)) has
    (λ d h. record { crash = λ g left fair. after le (longer_same g (kept_at s was).log (kept_at t now) (h.crash g left)); seen = seen store (kept_at t now) (folder d) h })

-- the log is kept or not, after the vote
module _ (tells : Bool) (mid end : Disk Text → Type 0) (was_open now_open : Open) (s t : rules.Node) (was : List ℕ) (x : Stepped s t) where
  abbrev pub V : Kept
  V = with_vote t.term t.vote (kept_at s was)

  one_or_other : (now : List ℕ) (count : ℕ) (new : Kept) → new ≡ kept_at t now → Known tells end (λ d. OldOrNew V new (folder d)) → Stops tells end s t was now count (count + votes_between s t)
  one_or_other now count new is known = known_map tells end _ (λ d. StopsIn s t was now count (count + votes_between s t) (folder d)) known
      (λ d o. record {
        crash = λ g left fair. ⊎_elim (λ (a : kept_in g ≡ Loaded V). between (omega arith) a) (λ (b : kept_in g ≡ Loaded new). after (omega arith) (longer_same g (kept_at s was).log (kept_at t now) (b ∙ ap Loaded is))) (o.crash g left fair);
        seen = o.seen;
      })

  or_longer : (now : List ℕ) (count : ℕ) (snap : Snap) (l : Log) → with_snapshot snap l V ≡ kept_at t now → Known tells end (λ d. OldOrKept V snap l (folder d)) → Stops tells end s t was now count (count + votes_between s t)
  or_longer now count snap l is known = known_map tells end _ (λ d. StopsIn s t was now count (count + votes_between s t) (folder d)) known
      (λ d o. record {
        crash = λ g left fair. ⊎_elim (λ (a : kept_in g ≡ Loaded V). between (omega arith) a)
            (λ (b : IsLonger node_format 10000000000000000 g t.term t.vote snap (kept_at s was).log l). after (omega arith) (subst (λ (k : Kept). IsLonger node_format 10000000000000000 g t.term t.vote k.snap (kept_at s was).log k.log) is b)) (o.crash g left fair);
        seen = o.seen;
      })

  pub log_stops : (install : Option Snapshot) (batch : Option ℕ) (y : StoreFault) (count : ℕ) → IsLogWrite s t (option_map snapshot_end install) batch → KeepsLog tells mid end was_open now_open V t.log install batch (Err y) → Has tells mid was_open V → Stops tells end s t was (came_bytes was install) count (count + votes_between s t)
  log_stops None None y count w keeps has = one_or_other was count V (sym (nothing_written s t was x w.0 w.1)) (keeps has).1
  log_stops None (Some first) y count w keeps has = one_or_other was count _ (batch_written s t was first x w.0 w.1) (keeps (batch_fits s t was first x w.0 w.1) has).1
  log_stops (Some snap) batch y count w keeps has = or_longer snap.bytes count (snap_value snap) (log_from snap.index t.log) (snapshot_written s t was (snap_value snap) x w.0 (sym w.1)) (keeps (snapshot_fits s t was (snap_value snap) x w.0 (sym w.1)) has).1

  pub log_stands : (install : Option Snapshot) (batch : Option ℕ) → IsLogWrite s t (option_map snapshot_end install) batch → KeepsLog {E = StoreFault} tells mid end was_open now_open V t.log install batch (Ok tt) → Has tells mid was_open V → Has tells end now_open (kept_at t (came_bytes was install))
  log_stands None None w keeps has = subst (Has tells end now_open) (sym (nothing_written s t was x w.0 w.1)) (keeps has).0
  log_stands None (Some first) w keeps has = subst (Has tells end now_open) (batch_written s t was first x w.0 w.1) (keeps (batch_fits s t was first x w.0 w.1) has).0
  log_stands (Some snap) batch w keeps has = subst (Has tells end now_open) (snapshot_written s t was (snap_value snap) x w.0 (sym w.1)) (keeps (snapshot_fits s t was (snap_value snap) x w.0 (sym w.1)) has).0

-- ---- messages

letter_says : (me : ℕ) (kept : Snapshot) (s : Outgoing) → SpeaksOf (snapshot_end kept) (sending_value me s).what → message_value (letter me kept s) ≡ sending_value me s
letter_says me kept (sendings.Message message) e = refl
letter_says me kept (sendings.Install to term last) e = λ i. record { from = me; to = to; term = term; what = rules.Install (sym e i) (compacted (sym e i) (sym e i).index) }

letters_say : (me : ℕ) (kept : Snapshot) (sends : List Outgoing) → SpeakOf (snapshot_end kept) (sendings_value me sends) → map message_value (map (letter me kept) sends) ≡ sendings_value me sends
letters_say me kept [] e = refl
letters_say me kept (s ∷ sends) e = λ i. letter_says me kept s e.0 i ∷ letters_say me kept sends e.1 i

bare_carries : (kept : Snapshot) (w : MessageBody) → IsBareWhat w → Carries (snap_value kept) w
bare_carries kept (whats.Install snapshot) b = absurd b
bare_carries kept (whats.AskVote last transfer) b = tt
bare_carries kept (whats.Vote granted) b = tt
bare_carries kept (whats.Append prev commit entries) b = tt
bare_carries kept (whats.Ack good index) b = tt
bare_carries kept whats.TimeoutNow b = tt

letter_carries : (me : ℕ) (kept : Snapshot) (s : Outgoing) → IsBare s → CarriesIn (snap_value kept) (letter me kept s)
letter_carries me kept (sendings.Message message) b = bare_carries kept message.what b
letter_carries me kept (sendings.Install to term last) b = refl

letters_carry : (me : ℕ) (kept : Snapshot) (sends : List Outgoing) → AllByRecursion IsBare sends → AllByRecursion (CarriesIn (snap_value kept)) (map (letter me kept) sends)
letters_carry me kept [] b = tt
letters_carry me kept (s ∷ sends) b = (letter_carries me kept s b.0, letters_carry me kept sends b.1)

pub tells_of : (me own : ℕ) (out : List rules.Message) (kept : Snapshot) (sends : List Outgoing) (messages : List RaftMessage) → me ≡ own → SpeakOf (snapshot_end kept) out → sendings_value me sends ≡ out → AllByRecursion IsBare sends → messages ≡ map (letter own kept) sends → Tells out (snap_value kept) messages
tells_of me own out kept sends messages is speak says bare e = subst (Tells out (snap_value kept)) (sym e) (subst (λ (n : ℕ). Tells out (snap_value kept) (map (letter n kept) sends)) is (record {
  says = letters_say me kept sends (subst (SpeakOf (snapshot_end kept)) (sym says) speak) ∙ says;
  carries = letters_carry me kept sends bare;
}))

-- ---- the exits

module _ (r : ReplicaValue) (event : RaftEvent) (n : NodeValue) (meta : Option (ℕ × ℕ)) (install : Option Snapshot) (batch : Option ℕ) (m : Made r event n meta install batch) where
  shape : Stepped (node_of r.raft) (node_of n)
  shape = stepped_of r.raft (input_of event) (node_of n) m.whole.coherent (rule_intake event m.intake) m.whole.has_term m.node

  write : IsLogWrite (node_of r.raft) (node_of n) (option_map snapshot_end install) batch
  write = log_write event (node_of r.raft) (node_of n) install batch m.intake m.log

  vote_is : voted meta (kept_of r) ≡ with_vote n.term n.vote (kept_of r)
  vote_is = voted_is r.raft n meta r.snap.bytes m.meta_is

  -- said of the new node and the bytes that came, and then of the rules' one
  abbrev At : Bool → (Disk Text → Type 0) → ℕ → rules.Node → Type 0
  At tells states total t = Stops tells states (node_of r.raft) t r.snap.bytes (cond (nat_lt r.raft.commit t.snapshot.index) (bytes_in (offered event)) r.snap.bytes) r.keeps total

  at_step : (tells : Bool) (states : Disk Text → Type 0) (total : ℕ) → Stops tells states (node_of r.raft) (node_of n) r.snap.bytes (came_bytes r.snap.bytes install) r.keeps total → At tells states total (stepped r event)
  at_step tells states total stops = subst (At tells states total) m.node
      (subst (λ (now : List ℕ). Stops tells states (node_of r.raft) (node_of n) r.snap.bytes now r.keeps total) (sym (bytes_are (node_of r.raft) (node_of n) event install batch r.snap.bytes m.whole.coherent.applied write m.offers)) stops)

  pub bytes_come : bytes_after r event ≡ came_bytes r.snap.bytes install
  bytes_come = subst (λ (t : rules.Node). cond (nat_lt r.raft.commit t.snapshot.index) (bytes_in (offered event)) r.snap.bytes ≡ came_bytes r.snap.bytes install) m.node (bytes_are (node_of r.raft) (node_of n) event install batch r.snap.bytes m.whole.coherent.applied write m.offers)

  pub stops_at_vote : (tells : Bool) (old new : Disk Text → Type 0) (now_open : Open) (y : StoreFault) (total : ℕ) → total ≡ r.keeps → Stores tells old new r.store now_open (kept_of r) (voted meta (kept_of r)) (Err y) → IsKept tells old r → Stops tells new (node_of r.raft) (stepped r event) r.snap.bytes (bytes_after r event) r.keeps total
  stops_at_vote tells old new now_open y total e stores has = subst (λ k. At tells new k (stepped r event)) (sym e)
      (at_step tells new r.keeps (stops_vote tells new (node_of r.raft) (node_of n) r.snap.bytes (came_bytes r.snap.bytes install) r.keeps (voted meta (kept_of r)) vote_is (stores has).1))

  has_vote : (tells : Bool) (old mid : Disk Text → Type 0) (mid_open : Open) → Stores {E = StoreFault} tells old mid r.store mid_open (kept_of r) (voted meta (kept_of r)) (Ok tt) → IsKept tells old r → Has tells mid mid_open (with_vote n.term n.vote (kept_of r))
  has_vote tells old mid mid_open stores has = subst (Has tells mid mid_open) vote_is (stores has).0

  pub stops_at_log : (tells : Bool) (old mid new : Disk Text → Type 0) (mid_open now_open : Open) (y : StoreFault) (total : ℕ) → total ≡ r.keeps + one_of meta → Stores {E = StoreFault} tells old mid r.store mid_open (kept_of r) (voted meta (kept_of r)) (Ok tt)
      → ((k : Kept) → KeepsLog tells mid new mid_open now_open k (node_of n).log install batch (Err y)) → IsKept tells old r → Stops tells new (node_of r.raft) (stepped r event) r.snap.bytes (bytes_after r event) r.keeps total
  stops_at_log tells old mid new mid_open now_open y total e stores keeps has =
      let v : votes_between (node_of r.raft) (node_of n) ≡ one_of meta = votes_are r.raft n meta m.meta_is in
      let sum : r.keeps + votes_between (node_of r.raft) (node_of n) ≡ total = omega arith in
      subst (λ k. At tells new k (stepped r event)) sum
      (at_step tells new (r.keeps + votes_between (node_of r.raft) (node_of n)) (log_stops tells mid new mid_open now_open (node_of r.raft) (node_of n) r.snap.bytes shape install batch y r.keeps write (keeps (with_vote n.term n.vote (kept_of r))) (has_vote tells old mid mid_open stores has)))

  pub stands : (tells : Bool) (old mid new : Disk Text → Type 0) (mid_open now_open : Open) → Stores {E = StoreFault} tells old mid r.store mid_open (kept_of r) (voted meta (kept_of r)) (Ok tt)
      → ((k : Kept) → KeepsLog {E = StoreFault} tells mid new mid_open now_open k (node_of n).log install batch (Ok tt)) → IsKept tells old r → Has tells new now_open (kept_at (node_of n) (came_bytes r.snap.bytes install))
  stands tells old mid new mid_open now_open stores keeps has =
      log_stands tells mid new mid_open now_open (node_of r.raft) (node_of n) r.snap.bytes shape install batch write (keeps (with_vote n.term n.vote (kept_of r))) (has_vote tells old mid mid_open stores has)

  pub stops_at_end : (tells : Bool) (new : Disk Text → Type 0) (now_open : Open) (total more : ℕ) → total ≡ r.keeps + one_of meta + more → Has tells new now_open (kept_at (node_of n) (came_bytes r.snap.bytes install)) → Stops tells new (node_of r.raft) (stepped r event) r.snap.bytes (bytes_after r event) r.keeps total
  stops_at_end tells new now_open total more e has =
      let v : votes_between (node_of r.raft) (node_of n) ≡ one_of meta = votes_are r.raft n meta m.meta_is in
      at_step tells new total (stops_after tells new now_open (node_of r.raft) (node_of n) r.snap.bytes (came_bytes r.snap.bytes install) r.keeps total (omega arith) has)

  -- what is handed over is past the cut
  pub batch_past : MatchOption batch (Unit {0}) (λ first. n.base < first)
  batch_past = by install batch write
    where
      by : (i : Option Snapshot) (b : Option ℕ) → IsLogWrite (node_of r.raft) (node_of n) (option_map snapshot_end i) b → MatchOption b (Unit {0}) (λ first. n.base < first)
      by None None w = tt
      by None (Some k) w =
          let e : n.snapshot.index ≡ r.raft.snapshot.index = ap (λ (x : LogEnd). x.index) w.0 in
          let low = m.coherent.low in
          let applied = m.whole.coherent.applied in
          let past = w.1.past in
          omega arith
      by (Some snap) b w = subst (λ (o : Option ℕ). MatchOption o (Unit {0}) (λ first. n.base < first)) (sym w.2) tt

  pub install_past : MatchOption install (Unit {0}) (λ snapshot. (n.base ≤ snapshot.index) × (batch ≡ None))
  install_past = by install write
    where
      by : (i : Option Snapshot) → IsLogWrite (node_of r.raft) (node_of n) (option_map snapshot_end i) batch → MatchOption i (Unit {0}) (λ snapshot. (n.base ≤ snapshot.index) × (batch ≡ None))
      by None w = tt
      by (Some snap) w =
          let e : snap.index ≡ n.snapshot.index = ap (λ (x : LogEnd). x.index) w.1 in
          let low = m.coherent.low in
          (omega arith, w.2)

  -- ---- after Ok

  pub snap_comes : snap_after r event ≡ came_snap r.snap install
  snap_comes = subst (λ (t : rules.Node). cond (nat_lt r.raft.commit t.snapshot.index) (snap_kept (offered event)) r.snap ≡ came_snap r.snap install) m.node (snaps_are (node_of r.raft) (node_of n) event install batch r.snap m.whole.coherent.applied write m.offers)

  pub snap_kept_as : (was kept : Snapshot) → snap_value was ≡ r.snap → kept ≡ kept_snapshot was install → snap_value kept ≡ came_snap r.snap install
  snap_kept_as was kept s e = ap snap_value e ∙ by install
    where
      by : (i : Option Snapshot) → snap_value (kept_snapshot was i) ≡ came_snap r.snap i
      by None = s
      by (Some snap) = refl

  came_none : IsNoneAtZero (came_snap r.snap install)
  came_none = by install write
    where
      by : (i : Option Snapshot) → IsLogWrite (node_of r.raft) (node_of n) (option_map snapshot_end i) batch → IsNoneAtZero (came_snap r.snap i)
      by None w = m.whole.none
      by (Some snap) w = λ z. let e : snap.index ≡ n.snapshot.index = ap (λ (x : LogEnd). x.index) w.1 in let lt : r.raft.commit < n.snapshot.index = w.0 in absurd (omega arith)

  pub commit_up : r.raft.commit ≤ n.commit
  commit_up = subst (λ (t : rules.Node). r.raft.commit ≤ t.commit) (sym m.node) (commit_rises r.raft.id (node_of r.raft) (input_of event))

  pub whole_after : (was kept : Snapshot) (o : Open) (k : ℕ) → snap_value was ≡ r.snap → kept ≡ kept_snapshot was install → n.id ≡ r.raft.id → IsWhole (record { id = r.id; raft = n; snap = snap_value kept; store = o; keeps = k })
  whole_after was kept o k s e id = record {
    id = id ∙ m.whole.id;
    coherent = m.coherent;
    snap = by install write ∙ ap (λ (x : Snapshot). end_of (snap_value x)) (sym e);
    has_term = subst HasTerm (sym m.node) (step_has_term r.raft.id (node_of r.raft) (input_of event) (rule_intake event m.intake) m.whole.has_term);
    none = subst (λ (x : Snap). IsNoneAtZero x) (sym (snap_kept_as was kept s e)) came_none;
  }
    where
      by : (i : Option Snapshot) → IsLogWrite (node_of r.raft) (node_of n) (option_map snapshot_end i) batch → n.snapshot ≡ end_of (snap_value (kept_snapshot was i))
      by None w = w.0 ∙ m.whole.snap ∙ ap end_of (sym s)
      by (Some snap) w = sym w.1

  pub bytes_kept : (was kept : Snapshot) → snap_value was ≡ r.snap → kept ≡ kept_snapshot was install → kept.bytes ≡ came_bytes r.snap.bytes install
  bytes_kept was kept s e = ap (λ (x : Snapshot). x.bytes) e ∙ by install
    where
      by : (i : Option Snapshot) → (kept_snapshot was i).bytes ≡ came_bytes r.snap.bytes i
      by None = ap (λ (x : Snap). x.bytes) s
      by (Some snap) = refl

  -- ---- what is said

  pub all_told : (kept : Snapshot) (sends : List Outgoing) (messages : List RaftMessage) → n.snapshot ≡ end_of (snap_value kept) → sendings_value r.raft.id sends ≡ said r event → AllByRecursion IsBare sends → messages ≡ map (letter r.id kept) sends → Tells (said r event) (snap_value kept) messages
  all_told kept sends messages end says bare e = tells_of r.raft.id r.id (said r event) kept sends messages m.whole.id
      (subst (λ (l : LogEnd). SpeakOf l (said r event)) (sym (sym end ∙ ap (λ (s : rules.Node). s.snapshot) m.node)) (step_speaks r.raft.id (node_of r.raft) (input_of event) (rule_intake event m.intake) m.whole.has_term))
      says bare e
