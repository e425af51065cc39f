-- What is kept of a node by every event.
use Rattle.std.proofs.Common.{◌≡◌, ◌⊎◌, ℕ, ◌-◌, ◌<◌, ◌≤◌, Bool, true, false, true≢false, cond, List, [], ◌∷◌, ◌++◌, length, take, drop, refl, sym, ap, ◌∙◌, subst, arith, length-append}
use Rattle.std.specs.Prelude.{Option, Some, None}
use Rattle.std.proofs.lemmas.List.{take-append-le, take-take, length-take-le}
use Rattle.std.proofs.lemmas.Bool.{and_parts, and_from}
use Rattle.dq_base.specs.Changes.{changed}
use Rattle.raft_spec.specs.Node.{Server, among}
use Rattle.sql_engine.specs.Replies.{Statement}
use Rattle.sql_engine.specs.Replies.{Reply as StatementReply}
use Rattle.sql_engine.specs.Meanings.{Meaning, IsShort}
use Rattle.sql_engine.specs.Runs.{RanAll}
use Rattle.log_commands.specs.declared.command.Command.TheVariants.{OpenDb}
use Rattle.session_spec.specs.Causes.{LeadershipLost}
use Rattle.session_spec.specs.Entries.{Content, Does, Configures, Entry}
use Rattle.session_spec.specs.Machine.{base_at, image_at}
use Rattle.session_spec.specs.Engines.{no_pages}
use Rattle.session_spec.specs.Sessions.{Reply, Refusal, Single, Rows, result, empty, db, Kind, Opening, Configuring, Writing, Committing, Querying, Flight, Later, Due, Lent, is_due, later_query, Transaction, Session}
use Rattle.session_spec.specs.Limits.{writes_to, is_write}
use Rattle.session_spec.proofs.Names.{name_is, same_name}
use Rattle.session_safety.specs.Woven.{Woven}
use Rattle.session_safety.specs.Nodes.{Query, Commit, Said, Trail, Node}
use Rattle.session_safety.specs.Life.{query_for, commit_of}
use Rattle.session_safety.specs.Replies.{QueryOk, CommitOk, change_entries, StandsAt, EntryOk, QueryIs, CommitIs, RowsAre, AllSaid}
use Rattle.session_safety.proofs.Weaves.{stands_more}
use Rattle.session_safety.proofs.Files.{Free, free_grown, base_append, base_take}

-- no entry past the index does anything to the database, and nothing is pending in it there
pub record Calm (name : List ℕ) (k : ℕ) (log : List Entry) : Type 0 where
  pub free : Free name (drop k log)
  pub still : (base_at log k name).pending ≡ None

-- an open transaction
pub record TxOk (mean : Meaning) (log : List Entry) (t : Trail) (x : Transaction) : Type 0 where
  pub pinned : x.pinned ≡ image_at log t.at x.name
  pub mark : x.mark ≡ (base_at log t.at x.name).newest
  pub replies : List StatementReply
  pub ran : RanAll mean x.pinned t.ran x.working replies
  pub seen : t.seen ≤ t.at
  pub led : no_pages (changed x.pinned x.working) ≡ false → IsShort x.working

abbrev pub TxIs : Meaning → List Entry → Trail → Option Transaction → Type 0
TxIs mean log t None = Unit {0}
TxIs mean log t (Some x) = TxOk mean log t x

-- a pending write
pub record WriteOk (mean : Meaning) (log : List Entry) (t : Trail) (f : Flight) : Type 0 where
  pub calm : Calm f.name f.last log
  pub commit : CommitOk mean log (commit_of f t.ran)

abbrev pub KindOk : Meaning → List Entry → Trail → Flight → Kind → Type 0
KindOk mean log t f Opening = Unit {0}
KindOk mean log t f (Configuring short) = Unit {0}
KindOk mean log t f (Writing reply) = WriteOk mean log t f × QueryIs mean log (query_for reply f.name t.at [] t.ran t.seen)
KindOk mean log t f Committing = WriteOk mean log t f
KindOk mean log t f (Querying statement) = Unit {0}

-- rows, or how many rows were changed
pub record IsResult (reply : Reply) : Type 0 where
  pub not_db : reply ≡ db → ⊥
  pub not_empty : reply ≡ empty → ⊥
  pub not_lost : reply ≡ Refusal LeadershipLost → ⊥

pub result_plain : (n : ℕ) → IsResult (result n)
result_plain n = record { not_db = λ e. cc; not_empty = λ e. cc; not_lost = λ e. cc }

-- what the last entry of a proposal has, by its kind
abbrev pub IsOf : Kind → List ℕ → Content → Type 0
IsOf Opening name content = content ≡ Does (OpenDb name)
IsOf (Configuring short) name content = (servers : List Server) × (content ≡ Configures servers)
IsOf (Writing reply) name content = IsResult reply
IsOf Committing name content = Unit {0}
IsOf (Querying statement) name content = Unit {0}

-- the last entry of a pending proposal is in the log
pub record LastOk (log : List Entry) (f : Flight) : Type 0 where
  pub content : Content
  pub stands : StandsAt log f.last f.term content
  pub of : IsOf f.kind f.name content

pub record FlightOk (mean : Meaning) (log : List Entry) (applied term : ℕ) (t : Trail) (f : Flight) : Type 0 where
  pub ahead : applied < f.last
  pub within : f.last ≤ length log
  pub of_term : f.term ≡ term
  pub kind : KindOk mean log t f f.kind
  pub entry : LastOk log f

abbrev pub FlightIs : Meaning → List Entry → ℕ → ℕ → Trail → Option Flight → Type 0
FlightIs mean log applied term t None = Unit {0}
FlightIs mean log applied term t (Some f) = FlightOk mean log applied term t f

-- a statement's write is pending outside a transaction alone
abbrev pub ApartBy : Kind → Option Transaction → Type 0
ApartBy Opening o = Unit {0}
ApartBy (Configuring short) o = Unit {0}
ApartBy (Writing reply) o = o ≡ None
ApartBy Committing o = Unit {0}
ApartBy (Querying statement) o = Unit {0}

abbrev pub Apart : Option Flight → Option Transaction → Type 0
Apart None o = Unit {0}
Apart (Some f) o = ApartBy f.kind o

-- if a query waits for its answer, nothing is pending; one that a reader runs is over an image that is no older than what its
-- connection has seen
abbrev pub IsFree : ℕ → ℕ → Option Later → Option Flight → Type 0
IsFree seen at None o = Unit {0}
IsFree seen at (Some (Due statement)) o = o ≡ None
IsFree seen at (Some (Lent statement)) o = (o ≡ None) × (seen ≤ at)

pub free_when : (seen at : ℕ) (d : Option Later) (o : Option Flight) → d ≡ None → IsFree seen at d o
free_when seen at d o e = subst (λ x. IsFree seen at x o) (sym e) tt

pub free_flies : (seen at : ℕ) (d : Option Later) (f : Flight) → IsFree seen at d (Some f) → d ≡ None
free_flies seen at None f h = refl
free_flies seen at (Some (Due statement)) f h = absurd cc
free_flies seen at (Some (Lent statement)) f h = absurd (flies h.0)
  where
    flies : Some f ≡ None → ⊥
    flies e = cc

-- nothing is pending where a query waits for its answer
pub free_later : (seen at : ℕ) (d : Option Later) (o : Option Flight) (s : Statement) → later_query d ≡ Some s → IsFree seen at d o → o ≡ None
free_later seen at None o s e h = absurd cc
free_later seen at (Some (Due statement)) o s e h = h
free_later seen at (Some (Lent statement)) o s e h = h.0

pub record SessionOk (mean : Meaning) (log : List Entry) (applied term : ℕ) (s : Session) (t : Trail) : Type 0 where
  pub at : t.at ≤ applied
  pub seen : t.seen ≤ applied
  pub tx : TxIs mean log t s.tx
  pub flight : FlightIs mean log applied term t s.flight
  pub apart : Apart s.flight s.tx
  pub free : IsFree t.seen t.at s.later s.flight

pub record Bare (s : Session) : Type 0 where
  pub tx : s.tx ≡ None
  pub flight : s.flight ≡ None
  pub due : is_due s.later ≡ false

-- some session writes to the database
pub record Held (session : ℕ → Session) (name : List ℕ) : Type 0 where
  pub conn : ℕ
  pub writes : writes_to (session conn).flight name ≡ true

-- each number once
abbrev pub Once : List ℕ → Type 0
Once [] = Unit {0}
Once (x ∷ xs) = (among xs x ≡ false) × Once xs

-- the connections that are searched are there, each once
pub record Sole (conns : List ℕ) (session : ℕ → Session) : Type 0 where
  pub once : Once conns
  pub there : (c : ℕ) → among conns c ≡ true → (session c).there ≡ true

pub record NodeOk (mean : Meaning) (w : Node) : Type 0 where
  pub applied : w.applied ≤ length w.log
  pub leads : w.serving ≡ true → w.leads ≡ true
  pub sessions : (c : ℕ) → SessionOk mean w.log w.applied w.term (w.gate.session c) (w.trail c)
  pub idle : w.serving ≡ false → (c : ℕ) → Bare (w.gate.session c)
  pub calm : w.serving ≡ true → (name : List ℕ) → Calm name w.applied w.log ⊎ Held w.gate.session name
  pub listed : (c : ℕ) → (w.gate.session c).there ≡ true → among w.gate.conns c ≡ true
  pub absent : (c : ℕ) → (w.gate.session c).there ≡ false → Bare (w.gate.session c)
  pub gone : (c : ℕ) → (w.gate.session c).there ≡ false → (w.gate.session c).later ≡ None
  pub sole : Sole w.gate.conns w.gate.session
  pub woven : Woven w.log
  pub said : AllSaid mean (take w.applied w.log) w.said

-- two lists that agree up to an index
pub record Agree (k : ℕ) (xs ys : List Entry) : Type 0 where
  pub right : k ≤ length ys
  pub same : take k xs ≡ take k ys

pub agree_base : (k : ℕ) (xs ys : List Entry) (p : ℕ) (n : List ℕ) → Agree k xs ys → p ≤ k → base_at xs p n ≡ base_at ys p n
agree_base k xs ys p n a h = sym (base_take xs p k n h) ∙ ap (λ l. base_at l p n) a.same ∙ base_take ys p k n h

pub agree_append : (k : ℕ) (xs ys : List Entry) → k ≤ length xs → Agree k xs (xs ++ ys)
agree_append k xs ys h = record { right = omega (arith, length-append xs ys); same = sym (take-append-le k xs ys h) }

pub agree_take : (k p : ℕ) (xs : List Entry) → k ≤ p → p ≤ length xs → Agree k xs (take p xs)
agree_take k p xs h l = record { right = omega (arith, length-take-le p xs l); same = sym (take-take k p xs h) }

-- the log grows by entries that leave alone the databases of the pending writes
pub calm_grown : (n : List ℕ) (k : ℕ) (log es : List Entry) → k ≤ length log → Free n es → Calm n k log → Calm n k (log ++ es)
calm_grown n k log es h f c = record { free = free_grown k log es n h c.free f; still = ap (λ d. d.pending) (base_append log es k n h) ∙ c.still }

pub writes_parts : (f : Flight) (n : List ℕ) → writes_to (Some f) n ≡ true → (is_write f.kind ≡ true) × (f.name ≡ n)
writes_parts f n e = let p = and_parts _ _ e in (p.0, name_is _ _ p.1)

pub bare_writes : (s : Session) (n : List ℕ) → s.flight ≡ None → writes_to s.flight n ≡ true → ⊥
bare_writes s n b e = absurd (true≢false (sym e ∙ ap (λ o. writes_to o n) b))

pub two_cond : (b : Bool) (P : Session → Trail → Type 0) (s s' : Session) (t t' : Trail) → (b ≡ true → P s t) → (b ≡ false → P s' t') → P (cond b s s') (cond b t t')
two_cond true P s s' t t' h k = h refl
two_cond false P s s' t t' h k = k refl

pub rows_are : (r : Reply) (name : List ℕ) (at : ℕ) (before ss : List Statement) (seen : ℕ) → RowsAre r (query_for r name at before ss seen)
rows_are (Refusal cause) name at before ss seen = tt
rows_are (Single response) name at before ss seen = tt
rows_are (Rows answer) name at before ss seen = refl

module _ (mean : Meaning) where
  pub query_along : (k : ℕ) (xs ys : List Entry) (q : Query) → Agree k xs ys → q.at ≤ k → QueryOk mean xs q → QueryOk mean ys q
  query_along k xs ys q a h x = record {
    within = omega (arith, a.right);
    newer = x.newer;
    over = x.over;
    replies = x.replies;
    so_far = subst (λ d. RanAll mean d.image q.before x.over x.replies) (agree_base k xs ys q.at q.name a h) x.so_far;
    left = x.left;
    ran = x.ran;
  }

  pub commit_along : (xs ys : List Entry) (c : Commit) → Agree c.last xs ys → CommitOk mean xs c → CommitOk mean ys c
  commit_along xs ys c a x =
      let low = x.low in
      let order = x.order in
      let one : base_at xs (c.first - 1) c.name ≡ base_at ys (c.first - 1) c.name = agree_base c.last xs ys (c.first - 1) c.name a (omega arith) in
      let two : base_at xs c.last c.name ≡ base_at ys c.last c.name = agree_base c.last xs ys c.last c.name a (omega arith) in
      record {
        low = x.low;
        order = x.order;
        within = a.right;
        entries = ap (drop (c.first - 1)) (sym a.same) ∙ x.entries ∙ ap (λ d. change_entries c.term c.first c.name d.image (image_at xs c.last c.name)) one ∙ ap (λ d. change_entries c.term c.first c.name (image_at ys (c.first - 1) c.name) d.image) two;
        replies = x.replies;
        ran = subst (λ d. RanAll mean (image_at ys (c.first - 1) c.name) c.statements d.image x.replies) two (subst (λ d. RanAll mean d.image c.statements (image_at xs c.last c.name) x.replies) one x.ran);
      }

  query_is_grown : (log es : List Entry) (o : Option Query) → QueryIs mean log o → QueryIs mean (log ++ es) o
  query_is_grown log es None x = tt
  query_is_grown log es (Some q) x = query_along q.at log (log ++ es) q (agree_append q.at log es x.within) (omega arith) x

  commit_is_grown : (log es : List Entry) (o : Option Commit) → CommitIs mean log o → CommitIs mean (log ++ es) o
  commit_is_grown log es None x = tt
  commit_is_grown log es (Some c) x = commit_along log (log ++ es) c (agree_append c.last log es x.within) x

  entry_grown : (log es : List Entry) (x : Said) → EntryOk log x → EntryOk (log ++ es) x
  entry_grown log es x a = record { content = a.content; stands = stands_more log es x.index x.term a.content a.stands; opens = a.opens; changes = a.changes }

  pub said_grown : (log es : List Entry) (xs : List Said) → AllSaid mean log xs → AllSaid mean (log ++ es) xs
  said_grown log es [] a = tt
  said_grown log es (x ∷ xs) a = (record { rows = a.0.rows; query = query_is_grown log es x.query a.0.query; commit = commit_is_grown log es x.commit a.0.commit; ends = a.0.ends; entry = λ h. entry_grown log es x (a.0.entry h) }, said_grown log es xs a.1)

  pub said_append : (log : List Entry) (xs ys : List Said) → AllSaid mean log xs → AllSaid mean log ys → AllSaid mean log (xs ++ ys)
  said_append log [] ys a b = b
  said_append log (x ∷ xs) ys a b = (a.0, said_append log xs ys a.1 b)

  pub tx_grown : (log es : List Entry) (t : Trail) (o : Option Transaction) → t.at ≤ length log → TxIs mean log t o → TxIs mean (log ++ es) t o
  tx_grown log es t None h a = tt
  tx_grown log es t (Some x) h a =
      let b = base_append log es t.at x.name h in
      record { pinned = a.pinned ∙ ap (λ d. d.image) (sym b); mark = a.mark ∙ ap (λ d. d.newest) (sym b); replies = a.replies; ran = a.ran; seen = a.seen; led = a.led }

  write_grown : (log es : List Entry) (t : Trail) (f : Flight) → f.last ≤ length log → Free f.name es → WriteOk mean log t f → WriteOk mean (log ++ es) t f
  write_grown log es t f h x a = record { calm = calm_grown f.name f.last log es h x a.calm; commit = commit_along log (log ++ es) (commit_of f t.ran) (agree_append f.last log es h) a.commit }

  kind_grown : (log es : List Entry) (t : Trail) (f : Flight) (k : Kind) → f.last ≤ length log → (is_write k ≡ true → Free f.name es) → KindOk mean log t f k → KindOk mean (log ++ es) t f k
  kind_grown log es t f Opening h x a = tt
  kind_grown log es t f (Configuring short) h x a = tt
  kind_grown log es t f (Writing reply) h x a = (write_grown log es t f h (x refl) a.0, query_is_grown log es (query_for reply f.name t.at [] t.ran t.seen) a.1)
  kind_grown log es t f Committing h x a = write_grown log es t f h (x refl) a
  kind_grown log es t f (Querying statement) h x a = tt

  flight_grown : (log es : List Entry) (applied term : ℕ) (t : Trail) (o : Option Flight) → ((n : List ℕ) → writes_to o n ≡ true → Free n es) → FlightIs mean log applied term t o → FlightIs mean (log ++ es) applied term t o
  flight_grown log es applied term t None x a = tt
  flight_grown log es applied term t (Some f) x a = record {
    ahead = a.ahead;
    within = omega (arith, a.within, length-append log es);
    of_term = a.of_term;
    kind = kind_grown log es t f f.kind a.within (λ e. x f.name (and_from _ _ e (same_name f.name))) a.kind;
    entry = record { content = a.entry.content; stands = stands_more log es f.last f.term a.entry.content a.entry.stands; of = a.entry.of };
  }

  pub session_grown : (log es : List Entry) (applied term : ℕ) (s : Session) (t : Trail) → applied ≤ length log → ((n : List ℕ) → writes_to s.flight n ≡ true → Free n es) → SessionOk mean log applied term s t → SessionOk mean (log ++ es) applied term s t
  session_grown log es applied term s t h x a = record {
    at = a.at;
    seen = a.seen;
    tx = tx_grown log es t s.tx (omega (arith, a.at)) a.tx;
    flight = flight_grown log es applied term t s.flight x a.flight;
    apart = a.apart;
    free = a.free;
  }

  -- a session without transaction and proposal
  pub bare_ok : (log : List Entry) (applied term : ℕ) (s : Session) (t : Trail) → Bare s → IsFree t.seen t.at s.later s.flight → t.at ≤ applied → t.seen ≤ applied → SessionOk mean log applied term s t
  bare_ok log applied term s t b free at seen = record {
    at = at;
    seen = seen;
    tx = subst (TxIs mean log t) (sym b.tx) tt;
    flight = subst (FlightIs mean log applied term t) (sym b.flight) tt;
    apart = subst (λ o. Apart o s.tx) (sym b.flight) tt;
    free = free;
  }

  pub write_of : (log : List Entry) (t : Trail) (f : Flight) (k : Kind) → KindOk mean log t f k → is_write k ≡ true → WriteOk mean log t f
  write_of log t f Opening a e = absurd (true≢false (sym e))
  write_of log t f (Configuring short) a e = absurd (true≢false (sym e))
  write_of log t f (Writing reply) a e = a.0
  write_of log t f Committing a e = a
  write_of log t f (Querying statement) a e = absurd (true≢false (sym e))
