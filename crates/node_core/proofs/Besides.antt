-- What a node learns of its voters in parts of a step: they join, and are what an act tells, or one that was stopped.
use Rattle.std.proofs.Common.{◌≡◌, ℕ, List, [], ◌∷◌, ◌++◌, refl, sym, ap, subst, ◌∙◌, arith}
use Rattle.std.specs.Prelude.{Option}
use Rattle.session_spec.specs.Sessions.{Reply}
use Rattle.raft_spec.specs.Node as raft
use Rattle.raft_spec.specs.Node.{Server}
use Rattle.raft_safety.specs.Members.{Setup}
use Rattle.raft_core.specs.declared.event.RaftEvent.{RaftEvent}
use Rattle.raft_core.specs.declared.event.RaftEvent.TheVariants as events
use Rattle.raft_core.specs.Events.{input_of}
use Rattle.raft_membership.specs.Members.{read_setup, IsOf}
use Rattle.raft_on_disk.specs.Replicas.{ReplicaValue}
use Rattle.node_spec.specs.Accounts.{Moment, Piece, read_by}
use Rattle.node_spec.specs.Steps.{TellsVoters, VotersWereTold}
use Rattle.node_spec.specs.Voting.{MayTell, Tells, IsPlain}
use Rattle.node_spec.proofs.Telling.{tells_on, tells_to_end, tells_to_stop}
use Rattle.node_spec.proofs.VoterTurns.{rest_tells, plain_stops}
use Rattle.node_core.specs.declared.running.Running.{Running}
use Rattle.node_core.specs.Account.{Fresh}
use Rattle.node_core.specs.Values.{seen}
use Rattle.node_core.specs.Voters.{Beside, MayBe, RestsBeside}
use Rattle.node_core.specs.Whole.{IsOutside}

-- ---- parts of a step

-- without a step of Raft
pub rests_same : (a b : Running) → b.replica ≡ a.replica → b.members ≡ a.members → b.has_links ≡ a.has_links → RestsBeside a b
rests_same a b replica members links = record {
  voters = record {
    raft = ap (λ (r : ReplicaValue). r.raft) replica;
    applied = 0;
    high = omega arith;
    settle = λ setup log of low. subst (IsOf setup log) (sym members) of;
  };
  links = links;
}

module _ (setup : Setup) (bytes : List ℕ) where
  pub beside_rest : (a b : Running) → RestsBeside a b → Beside setup a b bytes []
  beside_rest a b r = record { voters = rest_tells setup a.replica.id bytes (seen a) (seen b) r.voters; links = r.links }

  pub beside_same : (a b : Running) → b.replica ≡ a.replica → b.members ≡ a.members → b.has_links ≡ a.has_links → Beside setup a b bytes []
  beside_same a b replica members links = beside_rest a b (rests_same a b replica members links)

  pub beside_none : (a : Running) → Beside setup a a bytes []
  beside_none a = beside_same a a refl refl refl

  pub beside_on : (a b c : Running) (xs ys : List raft.Input) → b.replica.id ≡ a.replica.id → Beside setup a b bytes xs → Beside setup b c bytes ys → Beside setup a c bytes (xs ++ ys)
  beside_on a b c xs ys id x y = record {
    voters = tells_on setup a.replica.id bytes (seen a) (seen b) (seen c) xs ys x.voters (subst (λ me. Tells setup me bytes (seen b) (seen c) ys) id y.voters);
    links = y.links ∙ x.links;
  }

  -- if only what the rules don't see changes after it, or before it
  pub beside_then : (a b c : Running) (is : List raft.Input) → Beside setup a b bytes is → Fresh b c → Beside setup a c bytes is
  beside_then a b c is x f = record {
    voters = subst (λ (z : Moment). Tells setup a.replica.id bytes (seen a) z.node is) (sym f.moment) x.voters;
    links = f.links ∙ x.links;
  }

  pub beside_from : (a b c : Running) (is : List raft.Input) → Fresh a b → Beside setup b c bytes is → Beside setup a c bytes is
  beside_from a b c is f x = record {
    voters = subst (λ me. Tells setup me bytes (seen a) (seen c) is) f.id (subst (λ (z : Moment). Tells setup b.replica.id bytes z.node (seen c) is) f.moment x.voters);
    links = x.links ∙ f.links;
  }

  -- ---- acts

  -- a whole act
  pub tells_act : (a b : Running) (joins : Option ℕ) (read : Option (ℕ × Reply)) (p : Piece) → Beside setup a b bytes p.inputs →
      TellsVoters setup a.replica.id (seen a) (read_by bytes joins read p) × VotersWereTold setup a.replica.id (seen a) (seen b) (read_by bytes joins read p)
  tells_act a b joins read p x = tells_to_end setup a.replica.id (seen a) (seen b) (read_by bytes joins read p) x.voters

  -- one that was stopped in a further step
  pub tells_stop : (a b : Running) (joins : Option ℕ) (read : Option (ℕ × Reply)) (p : Piece) (xs ys : List raft.Input) → b.replica.id ≡ a.replica.id → Beside setup a b bytes xs → MayBe setup b bytes ys → p.inputs ≡ xs ++ ys →
      TellsVoters setup a.replica.id (seen a) (read_by bytes joins read p)
  tells_stop a b joins read p xs ys id x may is =
      tells_to_stop setup a.replica.id (seen a) (seen b) (read_by bytes joins read p) xs ys x.voters (subst (λ me. MayTell setup me bytes (seen b) ys) id may) is

  -- by what was before it
  pub tells_begun : (a : Running) (joins : Option ℕ) (read : Option (ℕ × Reply)) (p : Piece) → MayBe setup a bytes p.inputs → TellsVoters setup a.replica.id (seen a) (read_by bytes joins read p)
  tells_begun a joins read p may = tells_stop a a joins read p [] p.inputs refl (beside_none a) may refl

-- ---- steps that propose no change

pub outside_plain : (event : RaftEvent) → IsOutside event → IsPlain (input_of event)
outside_plain events.Timeout o = tt
outside_plain events.Beat o = tt
outside_plain events.Yield o = tt
outside_plain (events.Message m) o = tt
outside_plain (events.Propose es) o = absurd o
outside_plain (events.Transfer to) o = absurd o
outside_plain (events.Snapped at) o = absurd o
outside_plain (events.Servers servers) o = absurd o

module _ (opening : List Server) (bytes : List ℕ) (a : Running) where
  pub may_plain : (i : raft.Input) → IsPlain i → MayBe (read_setup opening) a bytes (i ∷ [])
  may_plain i plain = (plain_stops opening a.replica.id bytes (seen a) i [] plain).0

  pub may_plain_told : (i : raft.Input) (servers : List Server) → IsPlain i → MayBe (read_setup opening) a bytes (i ∷ raft.Local (raft.UseServers servers) ∷ [])
  may_plain_told i servers plain = (plain_stops opening a.replica.id bytes (seen a) i servers plain).1

  -- an event from outside, and after it
  pub may_outside : (event : RaftEvent) → IsOutside event → MayBe (read_setup opening) a bytes (input_of event ∷ [])
  may_outside event o = may_plain (input_of event) (outside_plain event o)

  pub may_outside_told : (event : RaftEvent) (servers : List Server) → IsOutside event → MayBe (read_setup opening) a bytes (input_of event ∷ raft.Local (raft.UseServers servers) ∷ [])
  may_outside_told event servers o = may_plain_told (input_of event) servers (outside_plain event o)
