-- A step of one node, with the history after it.
use Rattle.std.proofs.Common.{◌≡◌, ℕ, ◌<◌, ◌≤◌, Bool, true, false, List, [], ◌∷◌, ◌++◌, refl, sym, arith, true≢false}
use Rattle.std.specs.Prelude.{map}
use Rattle.raft_spec.specs.Node.{Message, Node}
use Rattle.raft_spec.specs.Outcomes.{as_follower, in_newer_term}
use Rattle.std.proofs.lemmas.Bool.{or_left, or_right, eq-eqb}
use Rattle.raft_spec.specs.Log.{term_at}
use Rattle.raft_spec.specs.Node.{Server, among}
use Rattle.raft_spec.specs.Account.{Stored, stored_of, loaded, older}
use Rattle.raft_safety.specs.Members.{Setup}
use Rattle.raft_safety.proofs.History.{Hist, Committed, HistOk, NodeOk, MessageOk}
use Rattle.raft_safety.proofs.Growth.{Later, Grows, grows_refl, grows_trans, what_later}
use Rattle.raft_safety.proofs.Bases.{BaseOk, base, with_base, base_term, base_commit, committed_down}

abbrev pub AllOk : Setup → Hist → List Message → Type 0
AllOk vs h [] = Unit {0}
AllOk vs h (m ∷ ms) = MessageOk vs h m × AllOk vs h ms

pub all_later : {h g : Hist} (vs : Setup) (ms : List Message) → Later h g → AllOk vs h ms → AllOk vs g ms
all_later vs [] l a = tt
all_later vs (m ∷ ms) l a = (what_later vs m.from m.to m.term m.what l a.0, all_later vs ms l a.1)

pub all_append : (vs : Setup) (h : Hist) (ms ns : List Message) → AllOk vs h ms → AllOk vs h ns → AllOk vs h (ms ++ ns)
all_append vs h [] ns a b = b
all_append vs h (m ∷ ms) ns a b = (a.0, all_append vs h ms ns a.1 b)

pub all_map : (vs : Setup) (h : Hist) (f : ℕ → Message) (xs : List ℕ) → ((x : ℕ) → MessageOk vs h (f x)) → AllOk vs h (map f xs)
all_map vs h f [] e = tt
all_map vs h f (x ∷ xs) e = (e x, all_map vs h f xs e)

-- of these, each that is among them
pub all_among : (vs : Setup) (h : Hist) (f : ℕ → Message) (xs : List ℕ) → ((x : ℕ) → among xs x ≡ true → MessageOk vs h (f x)) → AllOk vs h (map f xs)
all_among vs h f [] e = tt
all_among vs h f (x ∷ xs) e = (e x (or_left _ _ (eq-eqb x x refl)), all_among vs h f xs (λ y a. e y (or_right _ _ a)))

-- the node n ends with this state, with these messages
pub record Reach (vs : Setup) (h : Hist) (n : ℕ) (s : Node) (out : List Message) : Type 0 where
  pub to : Hist
  pub grows : Grows n h to
  pub hist : HistOk vs to
  pub node : NodeOk vs to n s
  pub sent : AllOk vs to out

pub still : {vs : Setup} {h : Hist} {n : ℕ} (s : Node) (out : List Message) → HistOk vs h → NodeOk vs h n s → AllOk vs h out → Reach vs h n s out
still {vs} {h} {n} s out ok node sent = record { to = h; grows = grows_refl n h; hist = ok; node = node; sent = sent }

-- one step after another; the second may say what the first left to say
pub before : {vs : Setup} {h g : Hist} {n : ℕ} {s : Node} {out : List Message} → Grows n h g → Reach vs g n s out → Reach vs h n s out
before {vs} {h} {g} {n} {s} {out} grows r = record { to = r.to; grows = grows_trans n h g r.to grows r.grows; hist = r.hist; node = r.node; sent = r.sent }

-- a quiet step, with messages that were fit before
pub saying : {vs : Setup} {h : Hist} {n : ℕ} {s : Node} (out : List Message) → AllOk vs h out → Reach vs h n s [] → Reach vs h n s out
saying {vs} out ok r = record { to = r.to; grows = r.grows; hist = r.hist; node = r.node; sent = all_later vs out r.grows.later ok }

pub off : {A : Type 0} → false ≡ true → A
off e = absurd (true≢false (sym e))

pub in_term_ok : {vs : Setup} {h : Hist} {n : ℕ} (s : Node) (t : ℕ) → s.term < t → NodeOk vs h n s → NodeOk vs h n (in_newer_term s t)
in_term_ok s t lt a = with_base (in_newer_term s t) (base_term t lt (base s a)) (record { base = a.snaps.base; applied = a.snaps.applied; term = a.snaps.term }) (λ e. off e) (λ e. off e)

pub follower_ok : {vs : Setup} {h : Hist} {n : ℕ} (s : Node) (l : ℕ) → NodeOk vs h n s → NodeOk vs h n (as_follower s l)
follower_ok s l a = with_base (as_follower s l) (base s a) (record { base = a.snaps.base; applied = a.snaps.applied; term = a.snaps.term }) (λ e. off e) (λ e. off e)

-- what a node has stored is fit: the node may be loaded from it
pub record StoredOk (vs : Setup) (h : Hist) (n : ℕ) (x : Stored) : Type 0 where
  pub base : BaseOk vs h n x.term x.vote x.log x.applied
  pub settled : Committed vs h x.log x.term x.snapshot.index
  pub low : x.base ≤ x.snapshot.index
  pub term : term_at x.log x.snapshot.index ≡ x.snapshot.term

pub stored_ok : {vs : Setup} {h : Hist} {n : ℕ} (s : Node) → NodeOk vs h n s → StoredOk vs h n (stored_of s)
stored_ok s a = record { base = base s a; settled = committed_down s.snapshot.index a.snaps.applied a.commit; low = a.snaps.base; term = a.snaps.term }

pub loaded_ok : {vs : Setup} {h : Hist} {n : ℕ} (up : Bool) (servers : List Server) (x : Stored) → StoredOk vs h n x → NodeOk vs h n (loaded up servers x)
loaded_ok up servers x a = with_base (loaded up servers x) (base_commit x.snapshot.index a.settled a.base) (record { base = a.low; applied = omega arith; term = a.term }) (λ e. off e) (λ e. off e)

pub older_ok : {vs : Setup} {h : Hist} {n : ℕ} (first : ℕ) (x : Stored) → StoredOk vs h n x → StoredOk vs h n (older first x)
older_ok first x a = record { base = a.base; settled = a.settled; low = let l = a.low in omega arith; term = a.term }
