-- What Raft's turns leave is what the account has of them.
use Rattle.std.proofs.Common.{◌≡◌, inl, inr, ℕ, Bool, false, List, [], ◌∷◌, ◌++◌, refl, sym, ap, subst, ◌∙◌, append-nil}
use Rattle.std.specs.Prelude.{map, Option}
use Rattle.sql_engine.specs.declared.kind.EngineKind.{EngineKind}
use Rattle.sql_engine.specs.Meanings.{Meaning, Told}
use Rattle.session_statements.proofs.Telling.{tells_none}
use Rattle.session_spec.specs.Sessions.{Reply, Job}
use Rattle.raft_spec.specs.Log.{Entry}
use Rattle.raft_spec.specs.Node as raft
use Rattle.raft_messages.specs.declared.message.RaftMessage.{RaftMessage}
use Rattle.raft_messages.specs.Messages.{message_value}
use Rattle.raft_core.specs.declared.event.RaftEvent.{RaftEvent}
use Rattle.raft_core.specs.declared.event.RaftEvent.TheVariants as events
use Rattle.raft_core.specs.Events.{input_of}
use Rattle.raft_membership.specs.Members.{read_setup}
use Rattle.raft_safety.specs.Members.{Setup}
use Rattle.store_laws.specs.Store.{Kept}
use Rattle.raft_on_disk.specs.Mails.{all_posted}
use Rattle.raft_on_disk.specs.Replicas.{kept_of}
use Rattle.node_spec.specs.Accounts.{SameTerm, no_piece, Goes, Begins}
use Rattle.node_spec.specs.Steps.{Letter, AllSent}
use Rattle.node_spec.proofs.RaftGoes.{leaving_goes_holds, following_goes_holds}
use Rattle.node_spec.proofs.RaftSnapshots.{install_goes_holds}
use Rattle.node_spec.proofs.Stretches.{nothing_goes_holds}
use Rattle.node_core.specs.declared.outs.StepOutputs.{StepOutputs}
use Rattle.node_core.specs.declared.running.Running.{Running}
use Rattle.node_core.specs.Account.{moment_of, bytes_in, letter_of, Sends, Says, Brought, IsOwn, Turns, Fresh}
use Rattle.node_core.specs.Posting.{KeepsAllButLog, MaybeToldServers, untold, told_servers, told_inputs, ProposesFirst, StepsWithoutSnapshot, StepsWithSnapshot, TurnsWithoutSnapshot, TurnsWithSnapshot, TakesOwnStep, owns_proposal, owns_transfer}
use Rattle.node_core.specs.Taking.{TurnsInTerm, bytes_with, came_by, BeganStep, takes}
use Rattle.node_core.specs.Voters.{Beside}
use Rattle.node_core.proofs.Accounting.{SinceIn, turns_both, sends_none, says_none, adds_none, since_on}
use Rattle.node_core.proofs.Besides.{beside_then}
use Rattle.node_core.proofs.TurnsOf.{turns_proposes, turns_leaves, early_leaves, since_follows, since_installs}

-- ---- what is said

says_so : (old new : Running) (posted : List RaftMessage) (replies : List (ℕ × Reply)) (told : List (ℕ × List ℕ)) → new.mail ≡ all_posted old.mail posted → new.outs.replies.items ≡ old.outs.replies.items ++ told → new.outs.reads.items ≡ old.outs.reads.items → Sends replies told →
    Says old new (map letter_of posted) replies []
says_so old new posted replies told mail outs reads tells = record { posted = posted; letters_are = refl; mail = mail; told = told; outs = outs; tells = tells; reads = reads ∙ sym (append-nil old.outs.reads.items) }

says_then : (a b c : Running) (letters : List Letter) (replies : List (ℕ × Reply)) (jobs : List (ℕ × Job)) → Says a b letters replies jobs → Fresh b c → Says a c letters replies jobs
says_then a b c letters replies jobs s f = record { posted = s.posted; letters_are = s.letters_are; mail = f.mail ∙ s.mail; told = s.told; outs = f.replies ∙ s.outs; tells = s.tells; reads = f.reads ∙ s.reads }

-- ---- turns

-- A turn in which Raft makes steps of these inputs, and which leaves term, leadership and the kept snapshot.
pub record RaftTurn (m : Meaning) (kind : EngineKind) (setup : Setup) (bytes : List ℕ) (joins : Option ℕ) (old new : Running) (told_before told_now : Option Told) (inputs : List raft.Input) : Type 0 where
  pub turns : Turns m kind setup bytes joins old new told_before told_now
  pub is : turns.piece.inputs ≡ inputs
  pub same : SameTerm (moment_of old) (moment_of new)
  pub snap : (kept_of old.replica).snap ≡ (kept_of new.replica).snap

module _ (m : Meaning) (kind : EngineKind) (setup : Setup) where
  module _ (bytes : List ℕ) (joins : Option ℕ) where
    abbrev So : Running → Running → Option Told → Option Told → List raft.Input → Type 0
    So a b before now inputs = RaftTurn m kind setup bytes joins a b before now inputs

    -- only what the rules don't see changes after a turn
    turns_then : {before now : Option Told} (a b c : Running) (inputs : List raft.Input) → So a b before now inputs → Fresh b c → So a c before now inputs
    turns_then a b c inputs t f = record {
      turns = record {
        piece = t.turns.piece;
        goes = subst (λ z. Goes m kind setup a.replica.id bytes joins (moment_of a) z t.turns.piece) (sym f.moment) t.turns.goes;
        inputs = t.turns.inputs;
        asks = t.turns.asks;
        says = says_then a b c t.turns.piece.letters t.turns.piece.replies t.turns.piece.jobs t.turns.says f;
        heard = t.turns.heard;
        sent = subst (λ k. AllSent (kept_of a.replica) k t.turns.piece.letters) (sym f.kept) t.turns.sent;
        id = f.id ∙ t.turns.id;
      };
      is = t.is;
      same = subst (SameTerm (moment_of a)) (sym f.moment) t.same;
      snap = t.snap ∙ sym (ap (λ (k : Kept). k.snap) f.kept);
    }

    turns_on : {before mid now : Option Told} (a b c : Running) (xs ys : List raft.Input) → So a b before mid xs → So b c mid now ys →
        So a c before now (xs ++ ys)
    unfolding turns_both
    turns_on a b c xs ys s t = record {
      turns = turns_both m kind setup bytes joins a b c s.turns t.turns t.same s.snap;
      is = λ i. s.is i ++ t.is i;
      same = record { term = t.same.term ∙ s.same.term; leads = t.same.leads ∙ s.same.leads };
      snap = s.snap ∙ t.snap;
    }

    turns_left : {told : Option Told} (a b : Running) (i : raft.Input) → IsOwn i → KeepsAllButLog a b i → So a b told told (i ∷ [])
    turns_left a b i own l =
        let t = turns_leaves m kind setup a b l.posts.id bytes joins (leaving_goes_holds m kind) i (map letter_of l.posts.posted) own l.leaves
        (says_so a b l.posts.posted [] [] l.posts.mail (ap (λ (o : StepOutputs). o.replies.items) l.outs ∙ sym (append-nil a.outs.replies.items)) (ap (λ (o : StepOutputs). o.reads.items) l.outs) sends_none) l.posts.sent in
        record { turns = t.0; is = t.1; same = l.same; snap = l.snap }

    turns_proposed : {told : Option Told} (a b : Running) (es : List Entry) → ProposesFirst a b es → So a b told told (raft.Local (raft.Propose es) ∷ [])
    turns_proposed a b es l =
        let t = turns_proposes m kind setup a b l.posts.id bytes joins es (map letter_of l.posts.posted) l.proposes
        (says_so a b l.posts.posted [] [] l.posts.mail (ap (λ (o : StepOutputs). o.replies.items) l.outs ∙ sym (append-nil a.outs.replies.items)) (ap (λ (o : StepOutputs). o.reads.items) l.outs) sends_none) l.posts.sent in
        record { turns = t.0; is = t.1; same = l.same; snap = l.snap }

    turns_told : {told : Option Told} (a b c : Running) (ys : List raft.Input) (e : MaybeToldServers a b) → So b c told told ys → So a c told told (told_inputs e ++ ys)
    turns_told {told} a b c ys (untold e) t = subst (λ (n : Running). So n c told told ys) e t
    turns_told a b c ys (told_servers servers l) t = turns_on a b c (raft.Local (raft.UseServers servers) ∷ []) ys (turns_left a b (raft.Local (raft.UseServers servers)) tt l) t

    -- with what the node learns of its voters
    with_beside : {before now : Option Told} (a b : Running) (inputs : List raft.Input) → So a b before now inputs → Beside setup a b bytes inputs → TurnsInTerm m kind setup bytes joins a b before now
    with_beside a b inputs t beside = record { turns = t.turns; same = t.same; snap = t.snap; beside = subst (Beside setup a b bytes) (sym t.is) beside }

  -- ---- an event from outside

  since_then : {before now : Option Told} (x : Brought) (late : Bool) (a b c : Running) (inputs : List raft.Input) → SinceIn m kind setup x late a b before now inputs → Fresh b c → SinceIn m kind setup x late a c before now inputs
  since_then x late a b c inputs (s, is) f = (
    record {
      piece = s.piece;
      goes = λ known. subst (λ z. Begins m kind setup a.replica.id x.bytes x.joins x.read (moment_of a) z s.piece) (sym f.moment) (s.goes known);
      inputs = s.inputs;
      asks = s.asks;
      is_late = s.is_late;
      says = says_then a b c s.piece.letters s.piece.replies s.piece.jobs s.says f;
      heard = s.heard;
      sent = subst (λ k. AllSent (kept_of a.replica) k s.piece.letters) (sym f.kept) s.sent;
      id = f.id ∙ s.id;
    },
    is,
  )

  since_told : {told : Option Told} (x : Brought) (a b c : Running) (inputs : List raft.Input) → SinceIn m kind setup x false a b told told inputs → (e : MaybeToldServers b c) → SinceIn m kind setup x false a c told told (inputs ++ told_inputs e)
  unfolding since_on
  since_told {told} x a b c inputs s (untold e) =
      let r = subst (λ (n : Running). SinceIn m kind setup x false a n told told inputs) (sym e) s in
      (r.0, r.1 ∙ sym (append-nil inputs))
  since_told {told} x a b c inputs s (told_servers servers l) =
      let i : raft.Input = raft.Local (raft.UseServers servers) in
      let says = says_so b c l.posts.posted [] [] l.posts.mail (ap (λ (o : StepOutputs). o.replies.items) l.outs ∙ sym (append-nil b.outs.replies.items)) (ap (λ (o : StepOutputs). o.reads.items) l.outs) sends_none in
      let law = leaving_goes_holds m kind in
      let letters = map letter_of l.posts.posted in
      let t = turns_leaves m kind setup b c l.posts.id x.bytes x.joins law i letters tt l.leaves says l.posts.sent in
      subst (λ late. SinceIn m kind setup x late a c told told (inputs ++ i ∷ [])) (early_leaves m kind setup b c l.posts.id x.bytes x.joins told law i letters tt l.leaves says l.posts.sent)
      (since_on m kind setup x false a b c s.0 t.0 (inl refl) (inr l.snap), λ j. s.1 j ++ t.1 j)

  pub since_followed : {told : Option Told} (old mid : Running) (event : RaftEvent) → StepsWithoutSnapshot old mid (input_of event) → SinceIn m kind setup (came_by event) false old mid told told (input_of event ∷ [])
  since_followed old mid event f =
      since_follows m kind setup old mid f.posts.id (bytes_with event) (following_goes_holds m kind) (input_of event) (map letter_of f.posts.posted) f.replies f.follows
      (says_so old mid f.posts.posted f.replies f.told f.posts.mail f.outs f.reads f.tells) f.posts.sent

  pub since_installed : {told : Option Told} (old mid : Running) (message : RaftMessage) → StepsWithSnapshot setup old mid (bytes_in message.what) (message_value message) →
      SinceIn m kind setup (came_by (events.Message message)) false old mid told told (raft.Receive (message_value message) ∷ [])
  since_installed old mid message i =
      since_installs m kind setup old mid i.posts.id (bytes_in message.what) (install_goes_holds m kind) (message_value message) (map letter_of i.posts.posted) i.replies i.installs
      (says_so old mid i.posts.posted i.replies i.told i.posts.mail i.outs i.reads i.tells) i.posts.sent

  -- the act of an event has begun, in which this was taken in
  began_with : {told : Option Told} (old new : Running) (event : RaftEvent) (inputs : List raft.Input) → SinceIn m kind setup (came_by event) false old new told told inputs → Beside setup old new (bytes_with event) inputs → BeganStep m kind setup old new event told told
  began_with old new event inputs s beside = takes s.0 (subst (Beside setup old new (bytes_with event)) (sym s.1) beside)

  installing : {told : Option Told} (old new : Running) (message : RaftMessage) (mid last : Running) → StepsWithSnapshot setup old mid (bytes_in message.what) (message_value message) → (tells : MaybeToldServers mid last) →
      Beside setup old last (bytes_in message.what) (raft.Receive (message_value message) ∷ told_inputs tells) → Fresh last new → BeganStep m kind setup old new (events.Message message) told told
  installing old new message mid last i tells beside fresh =
      let x : Brought = came_by (events.Message message) in
      let first : List raft.Input = raft.Receive (message_value message) ∷ [] in
      began_with old new (events.Message message) (first ++ told_inputs tells)
      (since_then x false old last new (first ++ told_inputs tells) (since_told x old mid last first (since_installed old mid message i) tells) fresh)
      (beside_then setup (bytes_in message.what) old last new (first ++ told_inputs tells) beside fresh)

  pub began_installing : {told : Option Told} (old new : Running) (event : RaftEvent) → TurnsWithSnapshot setup old new event → BeganStep m kind setup old new event told told
  began_installing {told} old new event o = subst (λ (e : RaftEvent). BeganStep m kind setup old new e told told) (sym o.event_is) (installing old new o.message o.mid o.last o.installs o.tells o.beside o.fresh)

module _ (m : Meaning) (kind : EngineKind) (opening : List raft.Server) where
  pub began_following : {told : Option Told} (old new : Running) (event : RaftEvent) → TurnsWithoutSnapshot old new event → BeganStep m kind (read_setup opening) old new event told told
  began_following old new event o =
      let vs : Setup = read_setup opening in
      let x : Brought = came_by event in
      let first : List raft.Input = input_of event ∷ [] in
      began_with m kind vs old new event (first ++ told_inputs o.tells)
      (since_then m kind vs x false old o.last new (first ++ told_inputs o.tells) (since_told m kind vs x old o.mid o.last first (since_followed m kind vs old o.mid event o.follows) o.tells) o.fresh)
      (beside_then vs (bytes_with event) old o.last new (first ++ told_inputs o.tells) (o.beside opening (bytes_with event)) o.fresh)

  -- what the node gave Raft itself
  pub owns_turns : {told : Option Told} (bytes : List ℕ) (joins : Option ℕ) (old new : Running) → TakesOwnStep old new → TurnsInTerm m kind (read_setup opening) bytes joins old new told told
  owns_turns bytes joins old new (owns_transfer mid last to e l beside f) =
      let vs : Setup = read_setup opening in
      let i : raft.Input = raft.Local (raft.Transfer to) in
      let all : List raft.Input = told_inputs e ++ i ∷ [] in
      with_beside m kind vs bytes joins old new all
      (turns_then m kind vs bytes joins old last new all (turns_told m kind vs bytes joins old mid last (i ∷ []) e (turns_left m kind vs bytes joins mid last i tt l)) f)
      (beside_then vs bytes old last new all (beside opening bytes) f)
  owns_turns bytes joins old new (owns_proposal mid last es e p beside f) =
      let vs : Setup = read_setup opening in
      let i : raft.Input = raft.Local (raft.Propose es) in
      let all : List raft.Input = told_inputs e ++ i ∷ [] in
      with_beside m kind vs bytes joins old new all
      (turns_then m kind vs bytes joins old last new all (turns_told m kind vs bytes joins old mid last (i ∷ []) e (turns_proposed m kind vs bytes joins mid last es p)) f)
      (beside_then vs bytes old last new all (beside opening bytes) f)

-- Raft was given servers, or nothing has changed
pub told_turns : {told : Option Told} (m : Meaning) (kind : EngineKind) (setup : Setup) (bytes : List ℕ) (joins : Option ℕ) (a b : Running) (e : MaybeToldServers a b) → RaftTurn m kind setup bytes joins a b told told (told_inputs e)
told_turns {told} m kind setup bytes joins a b (untold e) = subst (λ (n : Running). RaftTurn m kind setup bytes joins a n told told []) (sym e) (record {
  turns = record {
    piece = no_piece;
    goes = nothing_goes_holds m kind setup a.replica.id bytes joins (moment_of a);
    inputs = adds_none [];
    asks = λ conn. refl;
    says = says_none a a refl refl refl;
    heard = tells_none told;
    sent = tt;
    id = refl;
  };
  is = refl;
  same = record { term = refl; leads = refl };
  snap = refl;
})
told_turns {told} m kind setup bytes joins a b (told_servers servers l) = turns_left m kind setup bytes joins a b (raft.Local (raft.UseServers servers)) tt l
