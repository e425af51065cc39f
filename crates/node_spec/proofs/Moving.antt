-- Stretches of an event in which Raft takes nothing in.
use Rattle.std.proofs.Common.{◌≡◌, ℕ, ◌≤◌, Bool, List, [], ◌∷◌, ◌++◌, length, take, refl, sym, ap, ◌∙◌, subst, arith, append-nil}
use Rattle.std.specs.Prelude.{Option}
use Rattle.std.proofs.lemmas.List.{take_all}
use Rattle.sql_engine.specs.declared.kind.EngineKind.{EngineKind}
use Rattle.sql_engine.specs.Meanings.{Meaning}
use Rattle.wire_msgs.specs.declared.request.Request.{Request}
use Rattle.session_spec.specs.Engines.{Answer, Handed, used_for}
use Rattle.session_spec.specs.Restarts.{restarted, shifted}
use Rattle.session_spec.specs.Seen.{log_seen}
use Rattle.session_spec.specs.Sessions.{Reply}
use Rattle.session_safety.specs.Lending.{uses}
use Rattle.session_safety.specs.Nodes.{Said, Node as Life, databases}
use Rattle.raft_spec.specs.Node.{Node, Input}
use Rattle.raft_spec.specs.NodeValues.{NodeValue, IsCoherent, node_of}
use Rattle.raft_spec.specs.Account.{stored_of}
use Rattle.raft_safety.specs.Members.{Setup}
use Rattle.raft_safety.specs.Cuts.{Twin, AlikeInputs}
use Rattle.store_laws.specs.Store.{Kept}
use Rattle.cluster_model.specs.Clusters.{InTerm}
use Rattle.node_spec.specs.Nodes.{KeptIs}
use Rattle.node_spec.specs.Steps.{ArePartOf}
use Rattle.node_spec.specs.Accounts.{Moment, with_due, DueWeaves, StandsAt, NoneWaited, Lives, Goes}
use Rattle.node_spec.specs.Turns.{KeepsRaft}
use Rattle.node_spec.proofs.Stretches.{part_self}

pub no_inputs : (is : List Input) → AlikeInputs is [] → is ≡ []
no_inputs [] e = refl
no_inputs (i ∷ is) e = absurd cc

-- a turn in which Raft takes nothing in, and which lends nothing, is a stretch, if the life has such events
pub quiet_goes : (m : Meaning) (kind : EngineKind) (vs : Setup) (n : ℕ) (bytes : List ℕ) (joins : Option ℕ) (a b : Moment) (asks : ℕ → List Request) (replies : List (ℕ × Reply)) (answers : List Answer) (late : Bool) → b.node.raft ≡ a.node.raft →
    ((s : Node) (w : Life) → StandsAt vs a s w → s.commit ≤ length s.log → Lives m kind vs n joins a b (record { inputs = []; asks = asks; letters = []; replies = replies; jobs = []; answers = answers; late = late }) s w []) → Goes m kind vs n bytes joins a b (record { inputs = []; asks = asks; letters = []; replies = replies; jobs = []; answers = answers; late = late })
quiet_goes m kind vs n bytes joins a b asks replies answers late raft alone = record {
  made = ap node_of raft;
  letters = refl;
  lives = λ s w is x takes told_so. subst (Lives m kind vs n joins a b (record { inputs = []; asks = asks; letters = []; replies = replies; jobs = []; answers = answers; late = late }) s w) (sym (no_inputs is takes.alike)) (alone s w x (takes.kept 0).1.0);
}

-- a moment that differs from one in sessions and in what is due alone
pub moved : (vs : Setup) (a b : Moment) (s : Node) (w v : Life) (x : StandsAt vs a s w) → KeepsRaft a b → v.gate ≡ shifted x.lacks b.node.sessions → v.log ≡ log_seen (with_due s.term s.log b.due) → DueWeaves s.term s.log b.due → v.applied ≡ w.applied → v.term ≡ w.term → v.leads ≡ w.leads → v.serving ≡ w.serving → databases v ≡ databases w → StandsAt vs b s v
moved vs a b s w v x k gate log weaves applied term leads serving same = record {
  twin = subst (λ (h : NodeValue). Twin s (node_of h)) (sym k.raft) x.twin;
  raft = subst (λ (h : NodeValue). IsCoherent h) (sym k.raft) x.raft;
  up = x.up;
  log = log;
  weaves = weaves;
  applied = applied ∙ x.applied ∙ sym k.applied;
  within = subst (λ n. n ≤ s.commit) (sym k.applied) x.within;
  term = term ∙ x.term;
  leads = leads ∙ x.leads;
  serving = serving ∙ x.serving ∙ sym k.serving;
  machine = k.machine;
  lacks = x.lacks;
  since = x.since;
  files = same ∙ x.files ∙ ap (restarted x.lacks x.since) (sym k.files);
  sessions = gate;
  kept = subst (λ (h : Kept). KeptIs vs h (stored_of s)) (sym k.kept) x.kept;
}

-- what was due is due
pub due_stays : (vs : Setup) (a b : Moment) (s : Node) (w : Life) → StandsAt vs a s w → b.due ≡ a.due → (w.log ≡ log_seen (with_due s.term s.log b.due)) × DueWeaves s.term s.log b.due
due_stays vs a b s w x e = (subst (λ l. w.log ≡ log_seen (with_due s.term s.log l)) (sym e) x.log, subst (DueWeaves s.term s.log) (sym e) x.weaves)

-- replies that didn't wait are in term at any time
pub in_term : (w : Life) (xs : List Said) → NoneWaited xs → InTerm w xs
in_term w [] a = tt
in_term w (y ∷ xs) a = let z : y.index ≡ 0 = a.0 in ((λ h. absurd (omega (arith, h, z))), in_term w xs a.1)

-- answers that are all used are those that are
pub all_used : (given : Option Handed) (answers : List Answer) → used_for given answers ≡ length answers → uses given answers ≡ answers
all_used given answers e = ap (λ (k : ℕ). take k answers) e ∙ take_all (length answers) answers (omega arith)

-- what waits is what waited
pub part_same : (xs ys : List Request) → xs ≡ ys → ArePartOf xs (ys ++ [])
part_same xs ys e = subst (ArePartOf xs) (e ∙ sym (append-nil ys)) (part_self xs)

pub all_same : (xs ys : List Request) → xs ≡ ys → xs ≡ ys ++ []
all_same xs ys e = e ∙ sym (append-nil ys)
