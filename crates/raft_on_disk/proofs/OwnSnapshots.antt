-- An own snapshot: what may be kept with it, and the step by which Raft is told.
use Rattle.std.proofs.Common.{◌≡◌, ◌≢◌, ℕ, suc, ◌+◌, ◌-◌, ◌<◌, ◌≤◌, max, Bool, true, false, List, length, drop, refl, sym, ap, subst, ◌∙◌, arith, ⊎_elim, Option, Some, Ok, Err}
use Rattle.std.specs.Prelude.{◌&&◌, ◌==◌, not, nat_lt, nat_le}
use Rattle.std.proofs.lemmas.Bool.{cond_both, and_parts, lt-ltb, le-leb, eqb-true, eq-eqb}
use Rattle.raft_spec.specs.Log.{Entry, term_at}
use Rattle.raft_spec.specs.Node.{Node, Outcome, voters, is_leader, Local, Snapped}
use Rattle.raft_spec.specs.Outcomes.{with_log}
use Rattle.raft_spec.specs.Snapshots.{on_snapped}
use Rattle.raft_spec.specs.Commitment.{commit_index}
use Rattle.raft_spec.specs.Steps.{finish, raft_step}
use Rattle.raft_spec.specs.Compaction.{compact, compacted_step}
use Rattle.raft_spec.specs.NodeValues.{NodeValue, IsCoherent, node_of}
use Rattle.raft_spec.proofs.NodeValues.{whole_length}
use Rattle.raft_core.specs.Queries.{forgets_at, known_at}
use Rattle.disk_model.specs.Disk.{Disk}
use Rattle.disk_model.specs.Trait.{Text}
use Rattle.disk_model.proofs.Runs.{known_map}
use Rattle.store_laws.specs.Store.{Snap, Kept, Loaded}
use Rattle.store_laws.specs.Snapshots.{part, IsLonger, with_snapshot}
use Rattle.store_format.specs.NodeFormat.{node_format}
use Rattle.segment_store.specs.Open.{Open}
use Rattle.segment_store.specs.declared.fault.StoreFault.{StoreFault}
use Rattle.segment_store.specs.Keeps.{folder}
use Rattle.segment_store.specs.Keeping.{CanKeep}
use Rattle.segment_store.specs.Loading.{kept_in}
use Rattle.raft_on_disk.specs.Terms.{HasTerm}
use Rattle.raft_on_disk.specs.Keeping.{kept_at, log_from, Has, StoresSnapshot}
use Rattle.raft_on_disk.specs.Stops.{votes_between, before, after, StopsIn, Stops}
use Rattle.raft_on_disk.proofs.StepShapes.{SpeakOf, both_speak, sent_speaks, all_compact}
use Rattle.raft_on_disk.proofs.KeptLogs.{drop_length, drop_drop, kept_behind, put_away}

-- ---- the step

-- the node that has an own snapshot at an index, except for its commit index and what it knows of its
-- peers
record Owns (s : Node) (i : ℕ) (u : Node) : Type 0 where
  term : u.term ≡ s.term
  vote : u.vote ≡ s.vote
  log : u.log ≡ s.log
  snapshot : u.snapshot ≡ record { index = i; term = term_at s.log i }
  base : u.base ≡ max s.base (i - 16)

abbrev Told : Node → ℕ → Outcome → Type 0
Told s i d = Owns s i d.node × SpeakOf d.node.snapshot d.out

bad : (a b : Bool) → a ≡ true → b ≡ true → (a && b) ≡ false → ⊥
bad true true p q r = absurd cc
bad true false p q r = absurd cc
bad false b p q r = absurd cc

ruled : (s : Node) (i : ℕ) → s.snapshot.index < i → i ≤ s.commit → Told s i (on_snapped s i)
unfolding on_snapped
ruled s i lt le = cond_both (nat_lt s.snapshot.index i && nat_le i s.commit) _ _ (Told s i)
    (λ e. (record { term = refl; vote = refl; log = refl; snapshot = refl; base = refl }, tt))
    (λ e. absurd (bad _ _ (lt-ltb _ _ lt) (le-leb _ _ le) e))

ended : (voters_of : List Entry → List ℕ) (me : ℕ) (s : Node) (i : ℕ) (d : Outcome) → Told s i d → Told s i (finish voters_of me d)
unfolding finish
ended voters_of me s i d o = cond_both (is_leader d.node.role) _ _ (Told s i)
    (λ e. (record { term = o.0.term; vote = o.0.vote; log = o.0.log; snapshot = o.0.snapshot; base = o.0.base }, both_speak d.node.snapshot d.out _ o.1 (sent_speaks me (with_log d.node d.node.log (commit_index voters_of me d.node)) _)))
    (λ e. o)

told : (me : ℕ) (s : Node) (i : ℕ) → s.snapshot.index < i → i ≤ s.commit → Told s i (raft_step (λ log. voters s.servers) me s (Local (Snapped i)))
unfolding raft_step
told me s i lt le = ended (λ log. voters s.servers) me s i (on_snapped s i) (ruled s i lt le)

-- what is known of the node after it
pub record Own (s : Node) (i : ℕ) (t : Node) : Type 0 where
  pub term : t.term ≡ s.term
  pub vote : t.vote ≡ s.vote
  pub snapshot : t.snapshot ≡ record { index = i; term = term_at s.log i }
  pub base : t.base ≡ max s.base (i - 16)
  pub rest : drop (max s.base (i - 16)) t.log ≡ drop (max s.base (i - 16)) s.log

pub own_step : (me : ℕ) (s : Node) (i : ℕ) → s.snapshot.index < i → i ≤ s.commit → Own s i (compacted_step me s (Local (Snapped i))).node
unfolding compacted_step
own_step me s i lt le =
    let u = (raft_step (λ log. voters s.servers) me s (Local (Snapped i))).node in
    let o = (told me s i lt le).0 in
    record {
      term = o.term;
      vote = o.vote;
      snapshot = o.snapshot;
      base = o.base;
      rest = subst (λ (b : ℕ). drop b (compact u).log ≡ drop b s.log) o.base (put_away u ∙ ap (drop u.base) o.log);
    }

pub own_speaks : (me : ℕ) (s : Node) (i : ℕ) → s.snapshot.index < i → i ≤ s.commit → SpeakOf (compacted_step me s (Local (Snapped i))).node.snapshot (compacted_step me s (Local (Snapped i))).out
unfolding compacted_step
own_speaks me s i lt le = all_compact _ (raft_step (λ log. voters s.servers) me s (Local (Snapped i))).out (told me s i lt le).1

-- ---- what is kept

module _ (h : NodeValue) (i : ℕ) (ok : IsCoherent h) (has : HasTerm (node_of h)) (lt : h.snapshot.index < i) (le : i ≤ h.commit) where
  s : Node
  s = node_of h

  -- the cut after it
  abbrev pub cut : ℕ
  cut = max h.base (i - 16)

  abbrev pub snap_of : List ℕ → Snap
  snap_of bytes = record { index = i; term = term_at (node_of h).log i; bytes = bytes }

  within : i ≤ length (node_of h).log
  within = let n = whole_length h in let w = ok.within in omega arith

  low : h.base < i
  low = let l = ok.low in omega arith

  pub has_term : h.term ≢ 0
  has_term = has.1 (omega arith)

  pub own_fits : (was bytes : List ℕ) → CanKeep (kept_at (node_of h) was) (snap_of bytes) (log_from cut (node_of h).log)
  own_fits was bytes =
      let l = low in
      let w = within in
      let n : length (drop h.base (node_of h).log) ≡ length (node_of h).log - h.base = drop_length h.base (node_of h).log in
      let c : cut < i = omega arith in
      let sum : h.base + (suc cut - suc h.base) ≡ cut = omega arith in
      record {
        has_term = has_term;
        past = lt;
        some = omega arith;
        upto = omega arith;
        stays = part (kept_behind h.base (node_of h).log (snap_of bytes) l w refl)
            (record { first = omega arith; upto = omega arith; entries = sym (drop_drop (suc cut - suc h.base) h.base (node_of h).log ∙ ap (λ k. drop k (node_of h).log) sum) })
            (kept_behind cut (node_of h).log (snap_of bytes) c w refl);
      }

  pub own_written : (was bytes : List ℕ) (t : Node) → Own (node_of h) i t → with_snapshot (snap_of bytes) (log_from cut (node_of h).log) (kept_at (node_of h) was) ≡ kept_at t bytes
  own_written was bytes t o =
      let rest : drop cut (node_of h).log ≡ drop t.base t.log = sym o.rest ∙ ap (λ k. drop k t.log) (sym o.base) in
      λ k. record { term = sym o.term k; vote = sym o.vote k; snap = record { index = (sym o.snapshot k).index; term = (sym o.snapshot k).term; bytes = bytes }; log = record { first = suc (sym o.base k); entries = rest k } }

  pub own_known : known_at h i ≡ Some (term_at (node_of h).log i)
  own_known =
      let l = low in
      let w = within in
      cond_both (forgets_at h i) _ _ (λ (o : Option ℕ). o ≡ Some (term_at (node_of h).log i))
      (λ e. let q : i ≡ h.base = eqb-true _ _ (and_parts (i == h.base) (not (i == 0)) (and_parts (i == h.base && not (i == 0)) (not (i == h.snapshot.index)) e).0).0 in absurd (omega arith))
      (λ e. cond_both (nat_le h.base i && nat_le i (length (node_of h).log)) _ _ (λ (o : Option ℕ). o ≡ Some (term_at (node_of h).log i)) (λ f. refl) (λ f. absurd (bad _ _ (le-leb h.base i (omega arith)) (le-leb _ _ w) f)))

  pub own_has_term : (t : Node) → Own (node_of h) i t → HasTerm t
  own_has_term t o = ((λ r z. has_term (sym o.term ∙ z)), (λ l z. has_term (sym o.term ∙ z)))

  same_votes : (t : Node) → Own (node_of h) i t → votes_between (node_of h) t ≡ 0
  same_votes t o = cond_both ((t.term == h.term) && (t.vote == h.vote)) _ _ (λ (k : ℕ). k ≡ 0) (λ e. refl) (λ e. absurd (bad _ _ (eq-eqb _ _ o.term) (eq-eqb _ _ o.vote) e))

  -- an Err of the store
  pub own_stops : (tells : Bool) (old new : Disk Text → Type 0) (was_open now_open : Open) (was bytes : List ℕ) (t : Node) (y : StoreFault) (count total : ℕ) → Own (node_of h) i t → total ≡ count
      → (CanKeep (kept_at (node_of h) was) (snap_of bytes) (log_from cut (node_of h).log) → StoresSnapshot tells old new was_open now_open (kept_at (node_of h) was) (snap_of bytes) (log_from cut (node_of h).log) (Err y))
      → Has tells old was_open (kept_at (node_of h) was) → Stops tells new (node_of h) t was bytes count total
  own_stops tells old new was_open now_open was bytes t y count total o e stores has =
      let v = same_votes t o in
      known_map tells new _ (λ d. StopsIn (node_of h) t was bytes count total (folder d)) (stores (own_fits was bytes) has).1
      (λ d x. record {
        crash = λ g left fair. ⊎_elim (λ (a : kept_in g ≡ Loaded (kept_at (node_of h) was)). before e a)
            (λ (b : IsLonger node_format 10000000000000000 g h.term h.vote (snap_of bytes) (kept_at (node_of h) was).log (log_from cut (node_of h).log)). after (omega arith)
            (subst (λ (k : Kept). IsLonger node_format 10000000000000000 g k.term k.vote k.snap (kept_at (node_of h) was).log k.log) (own_written was bytes t o) b)) (x.crash g left fair);
        seen = x.seen;
      })

  -- and what is there after it
  pub own_stands : (tells : Bool) (old new : Disk Text → Type 0) (was_open now_open : Open) (was bytes : List ℕ) (t : Node) → Own (node_of h) i t
      → (CanKeep (kept_at (node_of h) was) (snap_of bytes) (log_from cut (node_of h).log) → StoresSnapshot {E = StoreFault} tells old new was_open now_open (kept_at (node_of h) was) (snap_of bytes) (log_from cut (node_of h).log) (Ok tt))
      → Has tells old was_open (kept_at (node_of h) was) → Has tells new now_open (kept_at t bytes)
  own_stands tells old new was_open now_open was bytes t o stores has = subst (Has tells new now_open) (own_written was bytes t o) (stores (own_fits was bytes) has).0

  pub own_votes : (t : Node) (count : ℕ) → Own (node_of h) i t → count + votes_between (node_of h) t ≤ suc count
  own_votes t count o = let v = same_votes t o in omega arith
