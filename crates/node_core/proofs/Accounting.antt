-- Turns of a node join to what happened since an act began, and that is an act, or one that was stopped.
use Rattle.std.proofs.Common.{◌≡◌, ◌⊎◌, inl, inr, ⊎_elim, ℕ, Bool, false, List, [], ◌∷◌, ◌++◌, refl, sym, ap, ◌∙◌, subst, append-nil, append_assoc}
use Rattle.std.specs.Prelude.{map, ◌||◌, Option, None}
use Rattle.std.specs.List.{AllByRecursion, flat_map}
use Rattle.std.proofs.lemmas.List.{map-append}
use Rattle.std.proofs.lemmas.List.Concat.{flat_map-append}
use Rattle.wire_msgs.specs.declared.request.Request.{Request}
use Rattle.client_connection.specs.Connection.{Conn}
use Rattle.sql_engine.specs.declared.kind.EngineKind.{EngineKind}
use Rattle.sql_engine.specs.Meanings.{Meaning, Told}
use Rattle.session_statements.specs.Running.{TellsAll}
use Rattle.session_statements.proofs.Telling.{tells_none, tells_join}
use Rattle.session_spec.specs.Sessions.{Reply, Job}
use Rattle.database_state.specs.Machines.{IsMachine}
use Rattle.raft_spec.specs.Node as raft
use Rattle.raft_messages.specs.declared.message.RaftMessage.{RaftMessage}
use Rattle.raft_safety.specs.Members.{Setup}
use Rattle.store_laws.specs.Store.{Kept}
use Rattle.raft_on_disk.specs.Mails.{MailValue, no_mail, posted, all_posted, sent}
use Rattle.raft_on_disk.specs.Replicas.{kept_of}
use Rattle.node_spec.specs.Accounts.{Moment, resting, Piece, no_piece, both, read_by, Goes, Begins, SameTerm, MayEnd, with_input, LeftBy}
use Rattle.node_spec.specs.Steps.{Letter, Made, TellsVoters, AllSent}
use Rattle.node_spec.specs.ClientTurns.{Hears}
use Rattle.node_spec.specs.RaftTurns.{HasServers}
use Rattle.node_spec.proofs.Connecting.{hearing_goes_holds}
use Rattle.node_spec.proofs.Ends.{goes_to_end_holds, stops_between_holds, stops_within_holds}
use Rattle.node_spec.proofs.Stretches.{nothing_goes_holds, goes_begins_holds, goes_on_holds, begins_on_holds, sent_on_holds}
use Rattle.node_core.specs.declared.event.Event.{Event}
use Rattle.node_core.specs.declared.event.Event.TheVariants as events
use Rattle.node_core.specs.declared.outs.StepOutputs.{StepOutputs}
use Rattle.node_core.specs.declared.running.Running.{Running}
use Rattle.node_core.specs.Values.{seen, clients_in, waiting_on}
use Rattle.node_core.specs.Account.{moment_of, letter_of, lived, responses_in, sent_so, Sends, Says, Brought, IsOwn, Adds, Turns, KnowsServers, Since, Begin, IsLost, Brings, Comes_in, Takes, AtRest, none_made, made_both, Act, Acts, Stopped, Fresh, SoFar, Between, Went, IsMore, Happens, Comes, Compacts, message_by, messages_of, NoneAsks, heard_on, acts_asks, AreOf, IsAlone, AreAlone, Underway, AccountsForStep, AccountsForStop}
use Rattle.node_core.specs.Taking.{TurnsInTerm}
use Rattle.node_core.specs.Voters.{Beside, MayBe}
use Rattle.node_core.specs.Carrying.{MovesLines, LinesSince, ConnectionsOfStep, ConnectionsOfStop}
use Rattle.node_core.proofs.Carried.{since_still, since_on as lines_on, since_up_to}
use Rattle.node_core.proofs.Besides.{beside_none, beside_on, tells_act, tells_begun}

-- ---- what is said

flat_append : {A B : Type 0} (f : A → List B) (xs ys : List A) → flat_map f (xs ++ ys) ≡ flat_map f xs ++ flat_map f ys
flat_append f [] ys = refl
flat_append f (x ∷ xs) ys = ap (λ l. f x ++ l) (flat_append f xs ys) ∙ sym (append_assoc (f x) (flat_map f xs) (flat_map f ys))

pub sends_none : Sends [] []
sends_none = record { items = []; lives = refl; sends = refl }

pub sends_join : (replies more : List (ℕ × Reply)) (bytes others : List (ℕ × List ℕ)) → Sends replies bytes → Sends more others → Sends (replies ++ more) (bytes ++ others)
sends_join replies more bytes others a b = record {
  items = a.items ++ b.items;
  lives = ap (λ l. l ++ more) a.lives ∙ ap (λ l. flat_map lived a.items ++ l) b.lives ∙ sym (flat_append lived a.items b.items);
  sends = ap (λ l. l ++ others) a.sends ∙ ap (λ l. map sent_so (flat_map responses_in a.items) ++ l) b.sends ∙ sym (map-append sent_so (flat_map responses_in a.items) (flat_map responses_in b.items)) ∙ ap (map sent_so) (sym (flat_append responses_in a.items b.items));
}

posted_join : (mail : MailValue) (xs ys : List RaftMessage) → all_posted mail (xs ++ ys) ≡ all_posted (all_posted mail xs) ys
posted_join mail [] ys = refl
posted_join mail (x ∷ xs) ys = posted_join (posted mail x) xs ys

-- nothing is said
pub says_none : (old new : Running) → new.mail ≡ old.mail → new.outs.replies.items ≡ old.outs.replies.items → new.outs.reads.items ≡ old.outs.reads.items → Says old new [] [] []
says_none old new mail outs reads = record {
  posted = [];
  letters_are = refl;
  mail = mail;
  told = [];
  outs = outs ∙ sym (append-nil old.outs.replies.items);
  tells = sends_none;
  reads = reads ∙ sym (append-nil old.outs.reads.items);
}

pub says_join : (a b c : Running) (xs ys : List Letter) (rs qs : List (ℕ × Reply)) (js ks : List (ℕ × Job)) → Says a b xs rs js → Says b c ys qs ks → Says a c (xs ++ ys) (rs ++ qs) (js ++ ks)
says_join a b c xs ys rs qs js ks x y = record {
  posted = x.posted ++ y.posted;
  letters_are = ap (λ l. l ++ ys) x.letters_are ∙ ap (λ l. map letter_of x.posted ++ l) y.letters_are ∙ sym (map-append letter_of x.posted y.posted);
  mail = y.mail ∙ ap (λ m. all_posted m y.posted) x.mail ∙ sym (posted_join a.mail x.posted y.posted);
  told = x.told ++ y.told;
  outs = y.outs ∙ ap (λ l. l ++ y.told) x.outs ∙ append_assoc a.outs.replies.items x.told y.told;
  tells = sends_join rs qs x.told y.told x.tells y.tells;
  reads = y.reads ∙ ap (λ l. l ++ ks) x.reads ∙ append_assoc a.outs.reads.items js ks;
}

-- ---- what is taken in

own_join : (xs ys : List raft.Input) → AllByRecursion IsOwn xs → AllByRecursion IsOwn ys → AllByRecursion IsOwn (xs ++ ys)
own_join [] ys a b = b
own_join (x ∷ xs) ys a b = (a.0, own_join xs ys a.1 b)

pub adds_none : (given : List raft.Input) → Adds given given
adds_none given = record { own = []; each = tt; is = sym (append-nil given) }

pub adds_join : (xs ys given : List raft.Input) → Adds xs given → Adds ys [] → Adds (xs ++ ys) given
adds_join xs ys given a b = record {
  own = a.own ++ b.own;
  each = own_join a.own b.own a.each b.each;
  is = ap (λ l. l ++ ys) a.is ∙ append_assoc given a.own ys ∙ ap (λ l. given ++ (a.own ++ l)) b.is;
}

-- ---- the account

-- a turn of which it is known what it takes in; one that takes nothing in; and so what happened since an act began
abbrev pub TurnsIn : Meaning → EngineKind → Setup → List ℕ → Option ℕ → Running → Running → Option Told → Option Told → List raft.Input → Type 0
TurnsIn m kind setup bytes joins old new before now inputs = (t : Turns m kind setup bytes joins old new before now) × (t.piece.inputs ≡ inputs)

abbrev pub QuietTurns : Meaning → EngineKind → Setup → List ℕ → Option ℕ → Running → Running → Option Told → Option Told → Type 0
QuietTurns m kind setup bytes joins old new before now = TurnsIn m kind setup bytes joins old new before now []

abbrev pub SinceIn : Meaning → EngineKind → Setup → Brought → Bool → Running → Running → Option Told → Option Told → List raft.Input → Type 0
SinceIn m kind setup x late old new before now inputs = (s : Since m kind setup x late old new before now) × (s.piece.inputs ≡ inputs)

-- a turn, and one more that leaves term and leadership, if the kept snapshot stayed in the first
unfoldable pub turns_both : {before mid now : Option Told} (m : Meaning) (kind : EngineKind) (setup : Setup) (bytes : List ℕ) (joins : Option ℕ)
    (a b c : Running) → Turns m kind setup bytes joins a b before mid → Turns m kind setup bytes joins b c mid now →
    SameTerm (moment_of b) (moment_of c) → (kept_of a.replica).snap ≡ (kept_of b.replica).snap → Turns m kind setup bytes joins a c before now
turns_both m kind setup bytes joins a b c s t same snap = record {
  piece = both s.piece t.piece;
  goes = goes_on_holds m kind setup a.replica.id bytes joins (moment_of a) (moment_of b) (moment_of c) s.piece t.piece s.goes
      (subst (λ me. Goes m kind setup me bytes joins (moment_of b) (moment_of c) t.piece) s.id t.goes) (inr same);
  inputs = adds_join s.piece.inputs t.piece.inputs [] s.inputs t.inputs;
  asks = λ conn. ap (λ (l : List Request). l ++ t.piece.asks conn) (s.asks conn) ∙ t.asks conn;
  says = says_join a b c s.piece.letters t.piece.letters s.piece.replies t.piece.replies s.piece.jobs t.piece.jobs s.says t.says;
  heard = tells_join s.piece.answers t.piece.answers _ _ _ s.heard t.heard;
  sent = sent_on_holds (kept_of a.replica) (kept_of b.replica) (kept_of c.replica) s.piece.letters t.piece.letters s.sent t.sent (inl snap);
  id = t.id ∙ s.id;
}

-- nothing was brought but what may come with an event beside Raft's inputs and requests
unfoldable pub since_nothing : {told : Option Told} (m : Meaning) (kind : EngineKind) (setup : Setup) (x : Brought) (n : Running) → x.inputs ≡ [] → ((conn : ℕ) → x.asks conn ≡ []) → Since m kind setup x false n n told told
since_nothing m kind setup x n inputs asks = record {
  piece = no_piece;
  goes = λ known. goes_begins_holds m kind setup n.replica.id x.bytes x.joins x.read (moment_of n) (moment_of n) no_piece (nothing_goes_holds m kind setup n.replica.id x.bytes x.joins (moment_of n));
  inputs = subst (Adds []) (sym inputs) (adds_none []);
  asks = λ conn. sym (asks conn);
  is_late = refl;
  says = says_none n n refl refl refl;
  heard = tells_none _;
  sent = tt;
  id = refl;
}

pub nothing_since : {told : Option Told} (m : Meaning) (kind : EngineKind) (setup : Setup) (x : Brought) (n : Running) → x.inputs ≡ [] → ((conn : ℕ) → x.asks conn ≡ []) → SinceIn m kind setup x false n n told told []
unfolding since_nothing
nothing_since m kind setup x n inputs asks = (since_nothing m kind setup x n inputs asks, refl)

-- one turn more
unfoldable pub since_on : {before mid now : Option Told} (m : Meaning) (kind : EngineKind) (setup : Setup) (x : Brought) (late : Bool) (a b c : Running) → Since m kind setup x late a b before mid → (t : Turns m kind setup x.bytes x.joins b c mid now) →
    (late ≡ false) ⊎ SameTerm (moment_of b) (moment_of c) → ((kept_of a.replica).snap ≡ (kept_of b.replica).snap) ⊎ ((kept_of b.replica).snap ≡ (kept_of c.replica).snap) →
    Since m kind setup x (late || t.piece.late) a c before now
since_on m kind setup x late a b c s t when once = record {
  piece = both s.piece t.piece;
  goes = λ known. begins_on_holds m kind setup a.replica.id x.bytes x.joins x.read (moment_of a) (moment_of b) (moment_of c) s.piece t.piece (s.goes known)
      (subst (λ me. Goes m kind setup me x.bytes x.joins (moment_of b) (moment_of c) t.piece) s.id t.goes) (⊎_elim (λ e. inl (s.is_late ∙ e)) (λ e. inr e) when);
  inputs = adds_join s.piece.inputs t.piece.inputs x.inputs s.inputs t.inputs;
  asks = λ conn. ap (λ l. l ++ t.piece.asks conn) (s.asks conn) ∙ ap (λ l. x.asks conn ++ l) (t.asks conn) ∙ append-nil (x.asks conn);
  is_late = ap (λ z. z || t.piece.late) s.is_late;
  says = says_join a b c s.piece.letters t.piece.letters s.piece.replies t.piece.replies s.piece.jobs t.piece.jobs s.says t.says;
  heard = tells_join s.piece.answers t.piece.answers _ _ _ s.heard t.heard;
  sent = sent_on_holds (kept_of a.replica) (kept_of b.replica) (kept_of c.replica) s.piece.letters t.piece.letters s.sent t.sent once;
  id = t.id ∙ s.id;
}

unfoldable pub since_fresh : {before now : Option Told} (m : Meaning) (kind : EngineKind) (setup : Setup) (x : Brought) (late : Bool) (a b c : Running) → Fresh a b → Since m kind setup x late b c before now → Since m kind setup x late a c before now
since_fresh m kind setup x late a b c f s = record {
  piece = s.piece;
  goes = λ known. subst (λ me. Begins m kind setup me x.bytes x.joins x.read (moment_of a) (moment_of c) s.piece) f.id
      (subst (λ z. Begins m kind setup b.replica.id x.bytes x.joins x.read z (moment_of c) s.piece) f.moment (s.goes (subst (λ (z : Moment). HasServers setup z z.node.members.servers) (sym f.moment) known)));
  inputs = s.inputs;
  asks = s.asks;
  is_late = s.is_late;
  says = says_join a b c [] s.piece.letters [] s.piece.replies [] s.piece.jobs (says_none a b f.mail f.replies f.reads) s.says;
  heard = s.heard;
  sent = subst (λ k. AllSent k (kept_of c.replica) s.piece.letters) f.kept s.sent;
  id = s.id ∙ f.id;
}

-- ---- acts

taken_so : (old : Running) (begin : Begin) (x : Brought) (p : Piece) → Comes_in old begin x → Adds p.inputs x.inputs → ((conn : ℕ) → p.asks conn ≡ x.asks conn) → Takes old begin (read_by x.bytes x.joins x.read p)
taken_so old begin x p c inputs asks = record {
  inputs = ⊎_elim (λ e. inl (subst (Adds p.inputs) e inputs)) (λ (e : IsLost old begin × (x.inputs ≡ [])). inr (e.0, subst (Adds p.inputs) e.1 inputs)) c.inputs;
  bytes = c.bytes;
  joins = c.joins;
  read = c.read;
  asks = subst (Brings old begin) (λ i. λ conn. sym (asks conn) i) c.asks;
}

-- what happened until nothing was left to do is an act, and it was said
pub since_ends : {before now : Option Told} (m : Meaning) (kind : EngineKind) (setup : Setup) (x : Brought) (late : Bool) (a b : Running) (begin : Begin) → AtRest a → Comes_in a begin x → (s : Since m kind setup x late a b before now) → Beside setup a b x.bytes s.piece.inputs → MayEnd (moment_of b) → b.replica.raft.id ≡ b.replica.id →
    (made : Made) × Act m kind setup a b begin made × Says a b made.letters made.replies made.jobs × TellsAll made.answers before now
since_ends m kind setup x late a b begin stood comes s beside end id = (
  record { letters = s.piece.letters; replies = s.piece.replies; jobs = s.piece.jobs; answers = s.piece.answers },
  record {
    stood = stood;
    id = id ∙ s.id ∙ sym stood.id;
    taken = read_by x.bytes x.joins x.read s.piece;
    takes = taken_so a begin x s.piece comes s.inputs s.asks;
    steps = λ known. goes_to_end_holds m kind setup a.replica.id x.bytes x.joins x.read (seen a) (moment_of b) s.piece (subst (λ z. Begins m kind setup a.replica.id x.bytes x.joins x.read z (moment_of b) s.piece) stood.rests (s.goes known)) end;
    tells = (tells_act setup x.bytes a b x.joins x.read s.piece beside).0;
    counts = (tells_act setup x.bytes a b x.joins x.read s.piece beside).1;
    sent = s.sent;
  },
  s.says,
  s.heard,
)

-- a stop between two turns
pub since_stops : {before now : Option Told} (m : Meaning) (kind : EngineKind) (setup : Setup) (x : Brought) (late : Bool) (a b : Running) (begin : Begin) → AtRest a → Comes_in a begin x → (s : Since m kind setup x late a b before now) → Beside setup a b x.bytes s.piece.inputs →
    Stopped m kind setup a begin (kept_of b.replica)
since_stops m kind setup x late a b begin stood comes s beside = record {
  stood = stood;
  taken = read_by x.bytes x.joins x.read s.piece;
  takes = taken_so a begin x s.piece comes s.inputs s.asks;
  stops = λ known. stops_between_holds m kind setup a.replica.id x.bytes x.joins x.read (seen a) (moment_of b) s.piece (subst (λ z. Begins m kind setup a.replica.id x.bytes x.joins x.read z (moment_of b) s.piece) stood.rests (s.goes known));
  tells = (tells_act setup x.bytes a b x.joins x.read s.piece beside).0;
}

-- a stop within the step of one input more, which the node added
pub since_within : {before now : Option Told} (m : Meaning) (kind : EngineKind) (setup : Setup) (x : Brought) (late : Bool) (a b : Running) (begin : Begin) (i : raft.Input) (kept : Kept) → AtRest a → Comes_in a begin x → (s : Since m kind setup x late a b before now) → IsOwn i →
    TellsVoters setup a.replica.id (seen a) (read_by x.bytes x.joins x.read (with_input s.piece i)) → (KnowsServers setup a → LeftBy setup a.replica.id x.bytes x.joins (moment_of b) i kept) → Stopped m kind setup a begin kept
since_within m kind setup x late a b begin i kept stood comes s own tells left = record {
  tells = tells;
  stood = stood;
  taken = read_by x.bytes x.joins x.read (with_input s.piece i);
  takes = taken_so a begin x (with_input s.piece i) comes (adds_join s.piece.inputs (i ∷ []) x.inputs s.inputs (record { own = i ∷ []; each = (own, tt); is = refl })) s.asks;
  stops = λ known. stops_within_holds m kind setup a.replica.id x.bytes x.joins x.read (seen a) (moment_of b) s.piece i kept (subst (λ z. Begins m kind setup a.replica.id x.bytes x.joins x.read z (moment_of b) s.piece) stood.rests (s.goes known)) (left known);
}

-- or within the act's own input
pub begin_within : (m : Meaning) (kind : EngineKind) (setup : Setup) (x : Brought) (a : Running) (begin : Begin) (i : raft.Input) (kept : Kept) → AtRest a → Comes_in a begin x → x.inputs ≡ i ∷ [] → ((conn : ℕ) → x.asks conn ≡ []) →
    MayBe setup a x.bytes (i ∷ []) → (KnowsServers setup a → LeftBy setup a.replica.id x.bytes x.joins (moment_of a) i kept) → Stopped m kind setup a begin kept
begin_within m kind setup x a begin i kept stood comes is asks may left = record {
  tells = tells_begun setup x.bytes a x.joins x.read (with_input no_piece i) may;
  stood = stood;
  taken = read_by x.bytes x.joins x.read (with_input no_piece i);
  takes = taken_so a begin x (with_input no_piece i) comes (subst (Adds (i ∷ [])) (sym is) (adds_none (i ∷ []))) (λ conn. sym (asks conn));
  stops = λ known. stops_within_holds m kind setup a.replica.id x.bytes x.joins x.read (seen a) (resting (seen a)) no_piece i kept
      (goes_begins_holds m kind setup a.replica.id x.bytes x.joins x.read (resting (seen a)) (resting (seen a)) no_piece (nothing_goes_holds m kind setup a.replica.id x.bytes x.joins (resting (seen a))))
      (subst (λ z. LeftBy setup a.replica.id x.bytes x.joins z i kept) stood.rests (left known));
}

-- ---- the acts of a step

made_assoc : (x y z : Made) → made_both (made_both x y) z ≡ made_both x (made_both y z)
made_assoc x y z = λ i. record {
  letters = append_assoc x.letters y.letters z.letters i;
  replies = append_assoc x.replies y.replies z.replies i;
  jobs = append_assoc x.jobs y.jobs z.jobs i;
  answers = append_assoc x.answers y.answers z.answers i;
}

made_nil : (x : Made) → made_both x none_made ≡ x
made_nil x = λ i. record { letters = append-nil x.letters i; replies = append-nil x.replies i; jobs = append-nil x.jobs i; answers = append-nil x.answers i }

-- an act more after those that there are, if only what the rules don't see has changed before it
acts_end : (m : Meaning) (kind : EngineKind) (setup : Setup) (a b c d : Running) (begins : List Begin) (begin : Begin) (xs ys : Made) →
    Acts m kind setup a b begins xs → seen c ≡ seen b → Act m kind setup c d begin ys → Acts m kind setup a d (begins ++ begin ∷ []) (made_both xs ys)
acts_end m kind setup a b c d [] begin xs ys all same act = (c, d, ys, none_made, same ∙ all.0, act, (refl, refl), ap (λ z. made_both z ys) all.1 ∙ sym (made_nil ys))
acts_end m kind setup a b c d (first ∷ begins) begin xs ys all same act = (
  all.0,
  all.1,
  all.2,
  made_both all.3 ys,
  all.4,
  all.5,
  acts_end m kind setup all.1 b c d begins begin all.3 ys all.6 same act,
  ap (λ z. made_both z ys) all.7 ∙ made_assoc all.2 all.3 ys,
)

acts_still : (m : Meaning) (kind : EngineKind) (setup : Setup) (a b c : Running) (begins : List Begin) (xs : Made) → Acts m kind setup a b begins xs → seen c ≡ seen b → Acts m kind setup a c begins xs
acts_still m kind setup a b c [] xs all same = (same ∙ all.0, all.1)
acts_still m kind setup a b c (first ∷ begins) xs all same =
    (all.0, all.1, all.2, all.3, all.4, all.5, acts_still m kind setup all.1 b c begins all.3 all.6 same, all.7)

-- what is asked in acts, and in one more
acts_asks_end : (m : Meaning) (kind : EngineKind) (setup : Setup) (a b c d : Running) (begins : List Begin) (begin : Begin) (xs ys : Made) (all : Acts m kind setup a b begins xs) (same : seen c ≡ seen b)
    (act : Act m kind setup c d begin ys) (conn : ℕ) → acts_asks m kind setup a d (begins ++ begin ∷ []) (made_both xs ys) (acts_end m kind setup a b c d begins begin xs ys all same act) conn
    ≡ acts_asks m kind setup a b begins xs all conn ++ act.taken.asks conn
unfolding acts_end
acts_asks_end m kind setup a b c d [] begin xs ys all same act conn = append-nil (act.taken.asks conn)
acts_asks_end m kind setup a b c d (first ∷ begins) begin xs ys all same act conn =
    ap (λ (l : List Request). all.5.taken.asks conn ++ l) (acts_asks_end m kind setup all.1 b c d begins begin all.3 ys all.6 same act conn)
    ∙ sym (append_assoc (all.5.taken.asks conn) (acts_asks m kind setup all.1 b begins all.3 all.6 conn) (act.taken.asks conn))

acts_asks_still : (m : Meaning) (kind : EngineKind) (setup : Setup) (a b c : Running) (begins : List Begin) (xs : Made) (all : Acts m kind setup a b begins xs) (same : seen c ≡ seen b) (conn : ℕ)
    → acts_asks m kind setup a c begins xs (acts_still m kind setup a b c begins xs all same) conn ≡ acts_asks m kind setup a b begins xs all conn
unfolding acts_still
acts_asks_still m kind setup a b c [] xs all same conn = refl
acts_asks_still m kind setup a b c (first ∷ begins) xs all same conn = ap (λ (l : List Request). all.5.taken.asks conn ++ l) (acts_asks_still m kind setup all.1 b c begins all.3 all.6 same conn)

-- what an act takes in is what came in by it
taken_asks : {before now : Option Told} (m : Meaning) (kind : EngineKind) (setup : Setup) (x : Brought) (late : Bool) (a b : Running) (begin : Begin) (stood : AtRest a) (comes : Comes_in a begin x)
    (s : Since m kind setup x late a b before now) (beside : Beside setup a b x.bytes s.piece.inputs) (end : MayEnd (moment_of b)) (id : b.replica.raft.id ≡ b.replica.id) (conn : ℕ)
    → (since_ends m kind setup x late a b begin stood comes s beside end id).1.taken.asks conn ≡ x.asks conn
unfolding since_ends
taken_asks m kind setup x late a b begin stood comes s beside end id conn = s.asks conn

-- what is brought is so where clients have the same streams
brings_same : (a b : Running) (event : Event) (asks : ℕ → List Request) → (clients_in a).streams ≡ (clients_in b).streams → Brings a (Happens event) asks → Brings b (Happens event) asks
brings_same a b events.Timeout asks same h = h
brings_same a b events.Beat asks same h = h
brings_same a b events.Yield asks same h = h
brings_same a b (events.Connect conn) asks same h = h
brings_same a b (events.Hangup conn) asks same h = h
brings_same a b (events.Peer message) asks same h = h
brings_same a b (events.ReadDone conn read) asks same h = h
brings_same a b (events.Bytes conn bytes) asks same h = record {
  here = ap (λ (s : ℕ → Option Conn). waiting_on (s conn) ++ asks conn) (sym same) ∙ h.here ∙ ap (λ (s : ℕ → Option Conn). heard_on (s conn) bytes) same;
  others = h.others;
}

-- none yet
pub went_none : {told : Option Told} (m : Meaning) (kind : EngineKind) (setup : Setup) (a : Running) → Went m kind setup a a [] told told
went_none m kind setup a = record { made = none_made; acts = (refl, refl); says = says_none a a refl refl refl; heard = tells_none _ }

pub went_on : {before mid now : Option Told} (m : Meaning) (kind : EngineKind) (setup : Setup) (a b c d : Running) (begins : List Begin) (begin : Begin) (ys : Made) →
    Went m kind setup a b begins before mid → Between b c → Act m kind setup c d begin ys → Says c d ys.letters ys.replies ys.jobs → TellsAll ys.answers mid now → Went m kind setup a d (begins ++ begin ∷ []) before now
went_on m kind setup a b c d begins begin ys w between act says heard = record {
  made = made_both w.made ys;
  acts = acts_end m kind setup a b c d begins begin w.made ys w.acts between.same act;
  says = says_join a b d w.made.letters ys.letters w.made.replies ys.replies w.made.jobs ys.jobs w.says
      (says_join b c d [] ys.letters [] ys.replies [] ys.jobs (says_none b c between.mail between.replies between.reads) says);
  heard = tells_join w.made.answers ys.answers _ _ _ w.heard heard;
}

went_asks : (before mid now : Option Told) (m : Meaning) (kind : EngineKind) (setup : Setup) (a b c d : Running) (begins : List Begin) (begin : Begin) (ys : Made) (w : Went m kind setup a b begins before mid)
    (between : Between b c) (act : Act m kind setup c d begin ys) (says : Says c d ys.letters ys.replies ys.jobs) (heard : TellsAll ys.answers mid now) (conn : ℕ)
    → acts_asks m kind setup a d (begins ++ begin ∷ []) (went_on m kind setup a b c d begins begin ys w between act says heard).made (went_on m kind setup a b c d begins begin ys w between act says heard).acts conn
    ≡ acts_asks m kind setup a b begins w.made w.acts conn ++ act.taken.asks conn
unfolding went_on
went_asks before mid now m kind setup a b c d begins begin ys w between act says heard conn = acts_asks_end m kind setup a b c d begins begin w.made ys w.acts between.same act conn

-- what is said at the end is what was said since the begin, if nothing had been
pub went_steps : {before now : Option Told} (m : Meaning) (kind : EngineKind) (setup : Setup) (a b c : Running) (begins : List Begin) (event : Event) (outs : StepOutputs) → a.mail ≡ no_mail → a.outs.replies.items ≡ [] → a.outs.reads.items ≡ [] → AreOf event begins →
    (w : Went m kind setup a b begins before now) → seen c ≡ seen b → outs.messages.items ≡ sent b.mail → outs.replies.items ≡ b.outs.replies.items → outs.reads.items ≡ b.outs.reads.items → c.has_links ≡ a.has_links → AreAlone a begins → ConnectionsOfStep event a c outs (messages_of begins)
    → Brings a (Happens event) (acts_asks m kind setup a b begins w.made w.acts) → AccountsForStep m kind setup a c event outs before now
went_steps m kind setup a b c begins event outs quiet silent unread are w same messages replies reads links alone lines asks = record {
  lines = lines;
  asks = subst (Brings a (Happens event)) (λ i. λ conn. sym (acts_asks_still m kind setup a b c begins w.made w.acts same conn) i) asks;
  links = links;
  alone = alone;
  begins = begins;
  are = are;
  made = w.made;
  acts = acts_still m kind setup a b c begins w.made w.acts same;
  posted = w.says.posted;
  letters_are = w.says.letters_are;
  messages = messages ∙ ap sent w.says.mail ∙ ap (λ z. sent (all_posted z w.says.posted)) quiet;
  tells = subst (Sends w.made.replies) (sym (replies ∙ w.says.outs ∙ ap (λ l. l ++ w.says.told) silent)) w.says.tells;
  reads = reads ∙ w.says.reads ∙ ap (λ l. l ++ w.made.jobs) unread;
  heard = w.heard;
}

-- what the last act left, after those before it
pub went_stops : {before now : Option Told} (m : Meaning) (kind : EngineKind) (setup : Setup) (a b c : Running) (begins : List Begin) (last : Begin) (event : Event) (kept : Kept) → AreOf event (begins ++ last ∷ []) → Went m kind setup a b begins before now → Between b c → Stopped m kind setup c last kept → AreAlone a (begins ++ last ∷ []) → ConnectionsOfStop event a (messages_of (begins ++ last ∷ [])) → AccountsForStop m kind setup a event kept
went_stops m kind setup a b c begins last event kept are w between stopped alone lines = record {
  alone = alone;
  lines = lines;
  begins = begins;
  last = last;
  are = are;
  mid = c;
  made = w.made;
  acts = acts_still m kind setup a b c begins w.made w.acts between.same;
  stopped = stopped;
}

-- ---- a stop before anything was done

-- what is asked waits after what waits, and nothing else
asked_by : Moment → (ℕ → List Request) → Moment
asked_by a asks = record a { node = record a.node { waiting = λ conn. a.node.waiting conn ++ asks conn } }

pub begun_stops : (m : Meaning) (kind : EngineKind) (setup : Setup) (x : Brought) (a : Running) (begin : Begin) → IsMachine a.applied.machine → AtRest a → Comes_in a begin x → x.inputs ≡ [] → Stopped m kind setup a begin (kept_of a.replica)
unfolding asked_by
begun_stops m kind setup x a begin machine stood comes none =
    let p : Piece = record no_piece { asks = x.asks } in
    let heard : Hears (moment_of a) (asked_by (moment_of a) x.asks) x.asks = record { sessions = refl; waiting = λ conn. refl; due = refl; rest = record { raft = refl; kept = refl; applied = refl; serving = refl; machine = machine; files = refl } } in
    let goes = goes_begins_holds m kind setup a.replica.id x.bytes x.joins x.read (moment_of a) (asked_by (moment_of a) x.asks) p (hearing_goes_holds m kind setup a.replica.id x.bytes x.joins (moment_of a) (asked_by (moment_of a) x.asks) x.asks heard) in
    record {
      stood = stood;
      taken = read_by x.bytes x.joins x.read p;
      takes = taken_so a begin x p comes (subst (Adds []) (sym none) (adds_none [])) (λ conn. refl);
      tells = (tells_act setup x.bytes a a x.joins x.read p (beside_none setup x.bytes a)).0;
      stops = λ known. stops_between_holds m kind setup a.replica.id x.bytes x.joins x.read (seen a) (asked_by (moment_of a) x.asks) p (subst (λ z. Begins m kind setup a.replica.id x.bytes x.joins x.read z (asked_by (moment_of a) x.asks) p) stood.rests goes);
    }

-- ---- a step under way

pub are_more : (event : Event) (begins : List Begin) (begin next : Begin) → AreOf event (begins ++ begin ∷ []) → IsMore next → AreOf event ((begins ++ begin ∷ []) ++ next ∷ [])
are_more event [] begin next are more = (are.0, (more, tt))
are_more event (first ∷ begins) begin next are more = (are.0, all begins are.1)
  where
    all : (xs : List Begin) → AllByRecursion IsMore (xs ++ begin ∷ []) → AllByRecursion IsMore ((xs ++ begin ∷ []) ++ next ∷ [])
    all [] h = (h.0, (more, tt))
    all (x ∷ xs) h = (h.0, all xs h.1)

-- and another act
pub since_next : (event : Event) (a b d : Running) (begins : List Begin) (next : Begin) → LinesSince event a b (messages_of begins) → MovesLines b d (message_by next) → LinesSince event a d (messages_of (begins ++ next ∷ []))
since_next event a b d begins next since moves =
    subst (LinesSince event a d) (ap (λ (l : List RaftMessage). messages_of begins ++ l) (sym (append-nil (message_by next))) ∙ sym (flat_map-append message_by begins (next ∷ [])))
    (lines_on event a b d (messages_of begins) (message_by next) since moves)

-- the event's act has begun
pub underway_starts : {before now : Option Told} (m : Meaning) (kind : EngineKind) (setup : Setup) (a from b : Running) (event : Event) → Between a from → (clients_in from).streams ≡ (clients_in a).streams → AtRest from
    → LinesSince event a b [] → SoFar m kind setup from b (Happens event) before now → Underway m kind setup a b event before now
underway_starts m kind setup a from b event between streams stood lines so_far = record {
  lines = lines;
  asks = brings_same from a event so_far.brought.asks streams so_far.comes.asks;
  begins = [];
  begin = Happens event;
  are = (refl, tt);
  mid = a;
  told_between = _;
  went = went_none m kind setup a;
  from = from;
  between = between;
  stood = stood;
  so_far = so_far;
  links = so_far.beside.links ∙ between.links;
  alone = λ none. (tt, tt);
}

-- a turn more, in which nothing comes in, and which leaves term, leadership and the kept snapshot
pub so_far_on : {before mid now : Option Told} (m : Meaning) (kind : EngineKind) (setup : Setup) (a b c : Running) (begin : Begin) → SoFar m kind setup a b begin before mid → ((bytes : List ℕ) (joins : Option ℕ) → TurnsInTerm m kind setup bytes joins b c mid now) → SoFar m kind setup a c begin before now
unfolding since_on
so_far_on m kind setup a b c begin f t =
    let x = f.brought in
    let on = t x.bytes x.joins in
    record {
      brought = x;
      late = f.late || on.turns.piece.late;
      comes = f.comes;
      since = since_on m kind setup x f.late a b c f.since on.turns (inr on.same) (inr on.snap);
      beside = beside_on setup x.bytes a b c f.since.piece.inputs on.turns.piece.inputs f.since.id f.beside on.beside;
    }

brought_on : {before mid now : Option Told} (m : Meaning) (kind : EngineKind) (setup : Setup) (a b c : Running) (begin : Begin) (f : SoFar m kind setup a b begin before mid)
    (t : (bytes : List ℕ) (joins : Option ℕ) → TurnsInTerm m kind setup bytes joins b c mid now) → (so_far_on m kind setup a b c begin f t).brought ≡ f.brought
unfolding so_far_on
brought_on m kind setup a b c begin f t = refl

pub underway_on : {before mid now : Option Told} (m : Meaning) (kind : EngineKind) (setup : Setup) (a b c : Running) (event : Event) → Underway m kind setup a b event before mid → MovesLines b c [] → ((bytes : List ℕ) (joins : Option ℕ) → TurnsInTerm m kind setup bytes joins b c mid now) → Underway m kind setup a c event before now
underway_on m kind setup a b c event u moves t = record {
  lines = since_still event a b c (messages_of (u.begins ++ u.begin ∷ [])) u.lines moves;
  begins = u.begins;
  begin = u.begin;
  are = u.are;
  mid = u.mid;
  told_between = u.told_between;
  went = u.went;
  from = u.from;
  between = u.between;
  stood = u.stood;
  so_far = so_far_on m kind setup u.from b c u.begin u.so_far t;
  asks = subst (Brings a (Happens event))
      (λ i. λ conn. acts_asks m kind setup a u.mid u.begins u.went.made u.went.acts conn ++ (sym (brought_on m kind setup u.from b c u.begin u.so_far t) i).asks conn) u.asks;
  links = (t [] None).beside.links ∙ u.links;
  alone = u.alone;
}

pub all_then : (begins : List Begin) (next : Begin) → AllByRecursion IsAlone begins → IsAlone next → AllByRecursion IsAlone (begins ++ next ∷ [])
all_then [] next all alone = (alone, tt)
all_then (b ∷ begins) next all alone = (all.0, all_then begins next all.1 alone)

-- what is asked in the acts that have ended, with the one that was under way
ended_asks : {before now : Option Told} (m : Meaning) (kind : EngineKind) (setup : Setup) (a b : Running) (event : Event) (u : Underway m kind setup a b event before now) (end : MayEnd (moment_of b))
    (id : b.replica.raft.id ≡ b.replica.id) (conn : ℕ) →
    let f = u.so_far in
    let r = since_ends m kind setup f.brought f.late u.from b u.begin u.stood f.comes f.since f.beside end id in
    let w = went_on m kind setup a u.mid u.from b u.begins u.begin r.0 u.went u.between r.1 r.2 r.3 in
    acts_asks m kind setup a b (u.begins ++ u.begin ∷ []) w.made w.acts conn ≡ acts_asks m kind setup a u.mid u.begins u.went.made u.went.acts conn ++ f.brought.asks conn
ended_asks m kind setup a b event u end id conn =
    let f = u.so_far in
    let r = since_ends m kind setup f.brought f.late u.from b u.begin u.stood f.comes f.since f.beside end id in
    went_asks _ _ _ m kind setup a u.mid u.from b u.begins u.begin r.0 u.went u.between r.1 r.2 r.3 conn
    ∙ ap (λ (l : List Request). acts_asks m kind setup a u.mid u.begins u.went.made u.went.acts conn ++ l) (taken_asks m kind setup f.brought f.late u.from b u.begin u.stood f.comes f.since f.beside end id conn)

-- nothing is asked where a message of a peer came, or an own snapshot was kept
more_asks : (a : Running) (begin : Begin) (asks : ℕ → List Request) → IsMore begin → Brings a begin asks → NoneAsks asks
more_asks a (Happens event) asks more h = absurd more
more_asks a (Comes message) asks more h = h
more_asks a (Compacts index) asks more h = h

-- what was asked is asked in the act that has ended, and nothing in the next one
asked_then : (earlier first rest : ℕ → List Request) (all : ℕ → List Request) → ((conn : ℕ) → all conn ≡ earlier conn ++ first conn) → NoneAsks rest → (conn : ℕ) → earlier conn ++ first conn ≡ all conn ++ rest conn
asked_then earlier first rest all is none conn = sym (is conn) ∙ sym (append-nil (all conn)) ∙ ap (λ (l : List Request). all conn ++ l) (sym (none conn))

-- the node rests again, and another act has begun
pub underway_next : {before mid now : Option Told} (m : Meaning) (kind : EngineKind) (setup : Setup) (a b c d : Running) (event : Event) → Underway m kind setup a b event before mid → MayEnd (moment_of b) → b.replica.raft.id ≡ b.replica.id → Between b c → AtRest c → (next : Begin) → IsMore next →
    (a.has_links ≡ false → IsAlone next) → MovesLines b d (message_by next) → SoFar m kind setup c d next mid now → Underway m kind setup a d event before now
underway_next m kind setup a b c d event u end id between stood next more alone moves so_far =
    let f = u.so_far in
    let r = since_ends m kind setup f.brought f.late u.from b u.begin u.stood f.comes f.since f.beside end id in
    record {
      lines = since_next event a b d (u.begins ++ u.begin ∷ []) next u.lines moves;
      begins = u.begins ++ u.begin ∷ [];
      begin = next;
      are = are_more event u.begins u.begin next u.are more;
      mid = b;
      told_between = _;
      went = went_on m kind setup a u.mid u.from b u.begins u.begin r.0 u.went u.between r.1 r.2 r.3;
      from = c;
      between = between;
      stood = stood;
      so_far = so_far;
      asks = subst (Brings a (Happens event))
          (λ i. λ conn. asked_then (acts_asks m kind setup a u.mid u.begins u.went.made u.went.acts) f.brought.asks so_far.brought.asks
          (acts_asks m kind setup a b (u.begins ++ u.begin ∷ []) (went_on m kind setup a u.mid u.from b u.begins u.begin r.0 u.went u.between r.1 r.2 r.3).made
          (went_on m kind setup a u.mid u.from b u.begins u.begin r.0 u.went u.between r.1 r.2 r.3).acts)
          (ended_asks m kind setup a b event u end id)
          (more_asks c next so_far.brought.asks more so_far.comes.asks) conn i) u.asks;
      links = so_far.beside.links ∙ between.links ∙ u.links;
      alone = λ none. all_then (u.begins ++ u.begin ∷ []) next (u.alone none) (alone none);
    }

-- the step ends, and what was said is taken from it
pub underway_ends : {before now : Option Told} (m : Meaning) (kind : EngineKind) (setup : Setup) (a b c : Running) (event : Event) (outs : StepOutputs) (u : Underway m kind setup a b event before now) → MayEnd (moment_of b) → b.replica.raft.id ≡ b.replica.id →
    a.mail ≡ no_mail → a.outs.replies.items ≡ [] → a.outs.reads.items ≡ [] → seen c ≡ seen b → outs.messages.items ≡ sent b.mail → outs.replies.items ≡ b.outs.replies.items → outs.reads.items ≡ b.outs.reads.items → c.has_links ≡ b.has_links
    → ConnectionsOfStep event a c outs (messages_of (u.begins ++ u.begin ∷ [])) → AccountsForStep m kind setup a c event outs before now
underway_ends m kind setup a b c event outs u end id quiet silent unread same messages replies reads links lines =
    let f = u.so_far in
    let r = since_ends m kind setup f.brought f.late u.from b u.begin u.stood f.comes f.since f.beside end id in
    went_steps m kind setup a b c (u.begins ++ u.begin ∷ []) event outs quiet silent unread u.are (went_on m kind setup a u.mid u.from b u.begins u.begin r.0 u.went u.between r.1 r.2 r.3) same messages replies reads (links ∙ u.links) u.alone lines
    (subst (Brings a (Happens event)) (λ i. λ conn. sym (ended_asks m kind setup a b event u end id conn) i) u.asks)

-- the act under way was stopped
pub underway_stops : {before now : Option Told} (m : Meaning) (kind : EngineKind) (setup : Setup) (a b : Running) (event : Event) (kept : Kept) (u : Underway m kind setup a b event before now) → Stopped m kind setup u.from u.begin kept → AccountsForStop m kind setup a event kept
underway_stops m kind setup a b event kept u stopped =
    went_stops m kind setup a u.mid u.from u.begins u.begin event kept u.are u.went u.between stopped u.alone (since_up_to event a b (messages_of (u.begins ++ u.begin ∷ [])) u.lines)
