-- Turns of a step, one after another.
use Rattle.std.proofs.Common.{◌≡◌, ◌≤◌, ℕ, Bool, true, refl, subst, ◌∙◌, arith}
use Rattle.std.specs.Prelude.{List, Option}
use Rattle.sql_engine.specs.declared.kind.EngineKind.{EngineKind}
use Rattle.sql_engine.specs.Known.{Known}
use Rattle.sql_engine.specs.Meanings.{Meaning, Stays, Told}
use Rattle.disk_model.specs.Disk.{Disk}
use Rattle.disk_model.specs.Trait.{Text}
use Rattle.raft_spec.specs.Node.{Server}
use Rattle.raft_safety.specs.Members.{Setup}
use Rattle.raft_membership.specs.Members.{read_setup}
use Rattle.client_sessions.specs.Seen.{Agrees}
use Rattle.raft_on_disk.specs.Replicas.{IsKept}
use Rattle.node_core.specs.declared.event.Event.{Event}
use Rattle.node_core.specs.declared.running.Running.{Running}
use Rattle.node_core.specs.Account.{Underway}
use Rattle.node_core.specs.Conns.{StreamsClose}
use Rattle.node_core.specs.Core.{core_of}
use Rattle.node_core.specs.Exact.{UnlinkedTurn}
use Rattle.node_core.specs.ExactParts.{Answered}
use Rattle.node_core.specs.Whole.{IsGoing, IsLed}
use Rattle.node_core.proofs.ConnStreams.{conns_same, conns_both}
use Rattle.node_core.proofs.ExactTurns.{Ahead, none_ahead, one_ahead}

-- What this many turns have left, with the counts of faults of the disk and of refused openings before and now.
pub record Turned (M : EngineKind → Meaning) (tells : Bool) (before now : Disk Text → Type 0) (faults faults_now : ℕ) (kind kind_now : EngineKind) (openings openings_now : ℕ) (told told_now : Option Told) (known : List Known) (old new : Running) : Type 0 where
  pub going : IsGoing new
  pub agrees : Agrees known new.clients new.applied.machine
  pub stored : IsKept tells before old.replica → IsKept tells now new.replica
  pub never_falls : faults ≤ faults_now
  pub led : IsLed new
  pub same_kind : kind_now ≡ kind
  pub on : (opening : List Server) (start : Running) (event : Event) (first : Option Told) → Underway (M kind) kind (read_setup opening) start old event first told → Underway (M kind) kind (read_setup opening) start new event first told_now
  pub opened : openings ≤ openings_now
  pub conns : StreamsClose old new
  pub exact : Ahead (M kind) kind told told_now (core_of old) (core_of new)

pub none_turned : (M : EngineKind → Meaning) (tells : Bool) (states : Disk Text → Type 0) (faults : ℕ) (kind : EngineKind) (openings : ℕ) (told : Option Told) (known : List Known) (n : Running) → IsGoing n → IsLed n → Agrees known n.clients n.applied.machine → Turned M tells states states faults faults kind kind openings openings told told known n n
none_turned M tells states faults kind openings told known n g led a = record { going = g; led = led; on = λ opening start event first u. u; agrees = a; stored = λ k. k; never_falls = omega arith; same_kind = refl; opened = omega arith; conns = conns_same n; exact = none_ahead (M kind) kind told (core_of n) }

pub stays_on : (k l m : EngineKind) (a b c : ℕ) → l ≡ k → a ≤ b → Stays l m b c → Stays k m a c
stays_on k l m a b c e le s = record { kind = s.kind ∙ e; openings = let o : b ≤ c = s.openings in omega (arith, le, o) }

-- along an engine whose kind stayed
pub under_kind : {first mid now : Option Told} (M : EngineKind → Meaning) (k l : EngineKind) (setup : Setup) (start a b : Running) (event : Event) → l ≡ k → (Underway (M l) l setup start a event first mid → Underway (M l) l setup start b event first now) → Underway (M k) k setup start a event first mid → Underway (M k) k setup start b event first now
under_kind {first} {mid} {now} M k l setup start a b event e f = subst (λ z. Underway (M z) z setup start a event first mid → Underway (M z) z setup start b event first now) e f

-- one turn more
pub turned_on : (M : EngineKind → Meaning) (tells : Bool) (s0 s1 s2 : Disk Text → Type 0) (f0 f1 f2 : ℕ) (k0 k1 k2 : EngineKind) (o0 o1 o2 : ℕ) (t0 t1 t2 : Option Told) (known1 known2 : List Known) (old mid new : Running) → Turned M tells s0 s1 f0 f1 k0 k1 o0 o1 t0 t1 known1 old mid
    → IsGoing new → IsLed new → Agrees known2 new.clients new.applied.machine → (IsKept tells s1 mid.replica → IsKept tells s2 new.replica) → f1 ≤ f2 → Stays k1 k2 o1 o2
    → ((opening : List Server) (start : Running) (event : Event) (first : Option Told) → Underway (M k1) k1 (read_setup opening) start mid event first t1 → Underway (M k1) k1 (read_setup opening) start new event first t2)
    → StreamsClose mid new → (more : Bool) → more ≡ true → Answered t1 t2 (UnlinkedTurn (M k1) k1 (core_of mid) (core_of new) more) → Turned M tells s0 s2 f0 f2 k0 k2 o0 o2 t0 t2 known2 old new
turned_on M tells s0 s1 s2 f0 f1 f2 k0 k1 k2 o0 o1 o2 t0 t1 t2 known1 known2 old mid new t g led a stored le s on conns more left exact = record {
  going = g;
  led = led;
  agrees = a;
  stored = λ has. stored (t.stored has);
  never_falls = let l : f0 ≤ f1 = t.never_falls in omega (arith, l, le);
  same_kind = s.kind ∙ t.same_kind;
  on = λ opening start event first u. under_kind M k0 k1 (read_setup opening) start mid new event t.same_kind (on opening start event first) (t.on opening start event first u);
  opened = let l : o0 ≤ o1 = t.opened in let m : o1 ≤ o2 = s.openings in omega (arith, l, m);
  conns = conns_both old mid new t.conns conns;
  exact = one_ahead M k0 k1 t0 t1 t2 (core_of old) (core_of mid) (core_of new) more t.same_kind left t.exact exact;
}
