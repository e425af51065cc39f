-- A leader's change of servers: what its entry and its voters show.
use Rattle.std.proofs.Common.{◌≡◌, ◌≢◌, ◌≤◌, ◌<◌, ◌+◌, ◌-◌, ℕ, zero, suc, add-one, Bool, true, false, cond, List, [], ◌∷◌, ◌++◌, length, take, drop, slice_index_or, refl, sym, ap, subst, ◌∙◌, arith}
use Rattle.std.specs.Prelude.{◌&&◌, ◌||◌, ◌==◌, min, Option, Some}
use Rattle.std.specs.List.{AllByRecursion}
use Rattle.std.proofs.lemmas.Bool.{cond_both, and_parts, eq-eqb, eqb-true}
use Rattle.std.proofs.lemmas.List.{length-replicate, length-append, length-take, length-drop}
use Rattle.raft_spec.specs.Compaction.{compacted}
use Rattle.raft_spec.specs.Log.{Entry, nth_term, term_at}
use Rattle.raft_spec.specs.Node as raft
use Rattle.raft_spec.specs.Node.{Server, voters}
use Rattle.raft_spec.specs.NodeValues.{NodeValue, IsCoherent, node_of}
use Rattle.raft_messages.specs.Servers.{configuration_of}
use Rattle.raft_safety.specs.Members.{is_change, reads, any_change, same_ids, one_more}
use Rattle.raft_core.specs.declared.event.RaftEvent.{RaftEvent}
use Rattle.raft_core.specs.declared.event.RaftEvent.TheVariants as events
use Rattle.raft_core.specs.Events.{input_of}
use Rattle.raft_membership.specs.Members.{AllStand, last_index, configuration_in, read_setup}
use Rattle.raft_on_disk.specs.Replicas.{IsWhole}
use Rattle.node_spec.specs.Changes.{are_near}
use Rattle.node_spec.specs.Voting.{IsPlain, MayChange}
use Rattle.node_spec.proofs.VoterTurns.{change_stops}
use Rattle.node_core.specs.declared.running.Running.{Running}
use Rattle.node_core.specs.Posting.{MayChangeTo, DecidesChange, HoldsCommit, MayTake, IsUnfit, has_change}
use Rattle.node_core.specs.Values.{seen}
use Rattle.node_core.specs.Voters.{MayBe, LacksAt}
use Rattle.node_core.specs.Whole.{IsOwnDue}

-- ---- entries without a change

abbrev pub ArePlain : List Entry → Type 0
ArePlain es = AllByRecursion (λ (e : Entry). is_change e.kind ≡ false) es

pub plain_more : (es : List Entry) (i : ℕ) (e : Entry) → i < length es → e ≡ slice_index_or es i e → is_change e.kind ≡ false → ArePlain (take i es) → ArePlain (take (i + 1) es)
plain_more es i e lt is plain all = rw add-one (by es i lt is all)
  where
    by : (xs : List Entry) (k : ℕ) → k < length xs → e ≡ slice_index_or xs k e → ArePlain (take k xs) → ArePlain (take (suc k) xs)
    by [] k lt is all = absurd (omega (arith, lt))
    by (x ∷ xs) zero lt is all = (subst (λ (y : Entry). is_change y.kind ≡ false) is plain, tt)
    by (x ∷ xs) (suc k) lt is all = (all.0, by xs k (omega (arith, lt)) is all.1)

all_taken : {A : Type 0} (i : ℕ) (es : List A) → length es ≤ i → take i es ≡ es
all_taken zero [] h = refl
all_taken zero (x ∷ xs) h = absurd (omega (arith, h))
all_taken (suc i) [] h = refl
all_taken (suc i) (x ∷ xs) h = ap (λ l. x ∷ l) (all_taken i xs (omega (arith, h)))

none_of : (es : List Entry) → ArePlain es → any_change (read_setup []) es ≡ false
none_of [] all = refl
none_of (e ∷ es) all = λ i. (all.0 i && reads (configuration_of e.bytes)) || none_of es all.1 i

pub plain_all : (es : List Entry) (i : ℕ) → length es ≤ i → ArePlain (take i es) → any_change (read_setup []) es ≡ false
plain_all es i long all = none_of es (subst ArePlain (all_taken i es long) all)

-- one that is a change
pub change_here : (es : List Entry) (i : ℕ) (e : Entry) → i < length es → e ≡ slice_index_or es i e → is_change e.kind ≡ true → has_change es ≡ true
change_here [] i e lt is change = absurd (omega (arith, lt))
change_here (x ∷ xs) zero e lt is change = ap (λ (y : Entry). is_change y.kind || has_change xs) (sym is) ∙ ap (λ b. b || has_change xs) change
change_here (x ∷ xs) (suc i) e lt is change = or_later (is_change x.kind) (change_here xs i e (omega (arith, lt)) is change)
  where
    or_later : {a : Bool} (b : Bool) → a ≡ true → (b || a) ≡ true
    or_later true q = refl
    or_later false q = q

-- ---- voters that are nearly the same

same_self : (ids : List ℕ) → same_ids ids ids ≡ true
same_self [] = refl
same_self (v ∷ ids) = (λ i. eq-eqb v v refl i && same_ids ids ids) ∙ same_self ids

self_more : (w : ℕ) (ids : List ℕ) → one_more ids (w ∷ ids) ≡ true
self_more w [] = refl
self_more w (v ∷ ids) = cond_both (v == w) (one_more ids (v ∷ ids)) (same_ids (v ∷ ids) (v ∷ ids)) (λ (b : Bool). b ≡ true) (λ e. self_more v ids) (λ e. same_self (v ∷ ids))

heads : {x y : ℕ} {xs ys : List ℕ} → x ∷ xs ≡ y ∷ ys → x ≡ y
heads e = cc

tails : {x y : ℕ} {xs ys : List ℕ} → x ∷ xs ≡ y ∷ ys → xs ≡ ys
tails e = cc

lacks : (i : ℕ) (xs ys : List ℕ) → take i xs ≡ take i ys → drop i xs ≡ drop (suc i) ys → i < length ys → one_more xs ys ≡ true
lacks i xs [] front back lt = absurd (omega (arith, lt))
lacks zero xs (y ∷ ys) front back lt = ap (λ l. one_more l (y ∷ ys)) back ∙ self_more y ys
lacks (suc i) [] (y ∷ ys) front back lt = absurd (by front)
  where
    by : [] ≡ y ∷ take i ys → ⊥
    by e = cc
lacks (suc i) (x ∷ xs) (y ∷ ys) front back lt =
    (λ j. cond (eq-eqb x y (heads front) j) (one_more xs ys) (same_ids (x ∷ xs) ys)) ∙ lacks i xs ys (tails front) back (omega (arith, lt))

pub lacks_more : (i : ℕ) (xs ys : List ℕ) → i < length ys → LacksAt i xs ys → true ≡ one_more xs ys
lacks_more i xs ys lt l = sym (lacks i xs ys l.front l.back lt)

-- two slices each
rest_of : (i : ℕ) (xs : List ℕ) → take (length xs - i) (drop i xs) ≡ drop i xs
rest_of i xs = all_taken (length xs - i) (drop i xs) (let l : length (drop i xs) ≡ length xs - i = length-drop i xs in omega (arith, l))

pub lacks_parts : (i : ℕ) (xs ys : List ℕ) → take i xs ≡ take i ys → take (length xs - i) (drop i xs) ≡ take (length ys - (i + 1)) (drop (i + 1) ys) → LacksAt i xs ys
lacks_parts i xs ys front back = record { front = front; back = sym (rest_of i xs) ∙ back ∙ rest_of (i + 1) ys ∙ ap (λ (n : ℕ). drop n ys) (add-one i) }

pub back_parts : (i : ℕ) (xs ys : List ℕ) → LacksAt i xs ys → take (length xs - i) (drop i xs) ≡ take (length ys - (i + 1)) (drop (i + 1) ys)
back_parts i xs ys l = rest_of i xs ∙ l.back ∙ sym (ap (λ (n : ℕ). drop n ys) (add-one i)) ∙ sym (rest_of (i + 1) ys)

-- lists of ids that the test finds the same
same_true : (xs ys : List ℕ) → same_ids xs ys ≡ true → xs ≡ ys
same_true [] [] e = refl
same_true [] (w ∷ ys) e = absurd cc
same_true (v ∷ xs) [] e = absurd cc
same_true (v ∷ xs) (w ∷ ys) e =
    let p = and_parts (v == w) (same_ids xs ys) e in
    let first : v ≡ w = eqb-true v w p.0 in
    let rest : xs ≡ ys = same_true xs ys p.1 in
    λ i. first i ∷ rest i

false_of : (b : Bool) → (b ≡ true → ⊥) → b ≡ false
false_of true never = absurd (never refl)
false_of false never = refl

-- a place without which the second is the first
record Place (xs ys : List ℕ) : Type 0 where
  at : ℕ
  within : at < length ys
  lacks_it : LacksAt at xs ys

place_of : (xs ys : List ℕ) → one_more xs ys ≡ true → Place xs ys
place_of xs [] e = absurd (by xs e)
  where
    by : (l : List ℕ) → one_more l [] ≡ true → ⊥
    by [] e = cc
    by (x ∷ l) e = cc
place_of [] (w ∷ ws) e = record { at = 0; within = omega arith; lacks_it = record { front = refl; back = same_true [] ws e } }
place_of (v ∷ xs) (w ∷ ws) e = by (v == w) refl (λ f. place_of xs ws f) e
  where
    by : (b : Bool) → (v == w) ≡ b → (one_more xs ws ≡ true → Place xs ws) → cond b (one_more xs ws) (same_ids (v ∷ xs) ws) ≡ true → Place (v ∷ xs) (w ∷ ws)
    by true q rest e =
        let r = rest e in
        let lt : r.at < length ws = r.within in
        let first : v ≡ w = eqb-true v w q in
        record { at = suc r.at; within = omega (arith, lt); lacks_it = record { front = λ i. first i ∷ r.lacks_it.front i; back = r.lacks_it.back } }
    by false q rest e = record { at = 0; within = omega arith; lacks_it = record { front = refl; back = same_true (v ∷ xs) ws e } }

pub lacks_none : (xs ys : List ℕ) → ((i : ℕ) → i < length ys → LacksAt i xs ys → ⊥) → false ≡ one_more xs ys
lacks_none xs ys none = sym (false_of (one_more xs ys) (λ e. let p = place_of xs ys e in none p.at p.within p.lacks_it))

-- at no place up to one more
pub none_further : (xs ys : List ℕ) (n : ℕ) → ((i : ℕ) → i < n → LacksAt i xs ys → ⊥) → (LacksAt n xs ys → ⊥) → (i : ℕ) → i < n + 1 → LacksAt i xs ys → ⊥
none_further xs ys n none here i lt l = by (i == n) refl
  where
    by : (b : Bool) → (i == n) ≡ b → ⊥
    by true e = here (subst (λ (k : ℕ). LacksAt k xs ys) (eqb-true i n e) l)
    by false e = none i (let d : i ≡ n → ⊥ = λ q. apart (sym e ∙ eq-eqb i n q) in omega (arith, lt, d)) l
      where
        apart : false ≡ true → ⊥
        apart q = cc

-- whose lengths don't differ by one
length_more : (xs ys : List ℕ) → one_more xs ys ≡ true → suc (length xs) ≡ length ys
length_more xs ys e =
    let p = place_of xs ys e in
    let n : ℕ = p.at in
    let lt : n < length ys = p.within in
    let front : length (take n xs) ≡ length (take n ys) = ap length p.lacks_it.front in
    let back : length (drop n xs) ≡ length (drop (suc n) ys) = ap length p.lacks_it.back in
    let a = length-take n xs in
    let b = length-take n ys in
    let c : length (drop n xs) ≡ length xs - n = length-drop n xs in
    let d : length (drop (suc n) ys) ≡ length ys - suc n = length-drop (suc n) ys in
    by (length xs) (length ys) n lt (sym a ∙ front ∙ b) (sym c ∙ back ∙ d)
  where
    by : (k m n : ℕ) → n < m → min n k ≡ min n m → k - n ≡ m - suc n → suc k ≡ m
    by k m n lt one two = omega (arith, lt, one, two)

pub other_length : (xs ys : List ℕ) → (suc (length xs) ≡ length ys → ⊥) → false ≡ one_more xs ys
other_length xs ys never = sym (false_of (one_more xs ys) (λ e. never (length_more xs ys e)))

-- ---- voters that are near

pub alike_near : (xs ys : List ℕ) → xs ≡ ys → true ≡ are_near xs ys
alike_near xs ys e = sym (subst (λ (l : List ℕ). are_near xs l ≡ true) e (ap (λ b. b || one_more xs xs || one_more xs xs) (same_self xs)))

either_true : (a b c : Bool) → b ≡ true → (a || b || c) ≡ true
either_true true b c e = refl
either_true false true c e = refl
either_true false false c e = absurd cc

pub more_near : (xs ys : List ℕ) → one_more xs ys ≡ true → true ≡ are_near xs ys
more_near xs ys e = sym (either_true (same_ids xs ys) (one_more xs ys) (one_more ys xs) e)

pub last_near : (xs ys : List ℕ) (b : Bool) → (xs ≡ ys → ⊥) → one_more xs ys ≡ false → b ≡ one_more ys xs → b ≡ are_near xs ys
last_near xs ys b differ none is =
    let same : same_ids xs ys ≡ false = false_of (same_ids xs ys) (λ e. differ (same_true xs ys e)) in
    is ∙ sym (λ i. same i || none i || one_more ys xs)

-- ---- the term at the commit index

nth_behind : (xs ys : List Entry) (n k : ℕ) → n ≡ k + length xs → nth_term (xs ++ ys) n ≡ nth_term ys k
nth_behind [] ys n k e = ap (nth_term ys) (let q : n ≡ k = omega (arith, e) in q)
nth_behind (x ∷ xs) ys zero k e = absurd (omega (arith, e))
nth_behind (x ∷ xs) ys (suc n) k e = nth_behind xs ys n k (omega (arith, e))

nth_at : (ys : List Entry) (k : ℕ) (e : Entry) → k < length ys → e ≡ slice_index_or ys k e → nth_term ys k ≡ e.term
nth_at [] k e lt is = absurd (omega (arith, lt))
nth_at (y ∷ ys) zero e lt is = ap (λ (z : Entry). z.term) (sym is)
nth_at (y ∷ ys) (suc k) e lt is = nth_at ys k e (omega (arith, lt)) is

pub term_held : (h : NodeValue) (index : ℕ) (e : Entry) → h.base < index → index ≤ h.base + length h.entries → e ≡ slice_index_or h.entries (index - h.base - 1) e → term_at (node_of h).log index ≡ e.term
unfolding term_at
term_held h zero e low high is = absurd (omega (arith, low))
term_held h (suc index) e low high is =
    let cut : length (compacted h.snapshot h.base) ≡ h.base = length-replicate h.base _ in
    nth_behind (compacted h.snapshot h.base) h.entries index (suc index - h.base - 1) (omega (arith, cut, low)) ∙ nth_at h.entries (suc index - h.base - 1) e (omega (arith, low, high)) is

-- the entry that is held at the commit index
module _ (h : NodeValue) (commit term : ℕ) (e : Entry) (at : commit ≡ h.commit) (now : term ≡ h.term) (held : (h.base < commit) × (commit ≤ length (node_of h).log)) (is : e ≡ slice_index_or h.entries (commit - h.base - 1) e) where
  own_term : term_at (node_of h).log h.commit ≡ e.term
  own_term =
      let long : length (node_of h).log ≡ length (compacted h.snapshot h.base) + length h.entries = length-append (compacted h.snapshot h.base) h.entries in
      let cut : length (compacted h.snapshot h.base) ≡ h.base = length-replicate h.base _ in
      let low : h.base < commit = held.0 in
      let high : commit ≤ length (node_of h).log = held.1 in
      subst (λ (n : ℕ). term_at (node_of h).log n ≡ e.term) at (term_held h commit e low (omega (arith, long, cut, high)) is)

  pub owns_so : (e.term == term) ≡ true → HoldsCommit h
  owns_so same = (subst (λ (n : ℕ). h.base < n) at held.0, own_term ∙ eqb-true e.term term same ∙ now)

  pub owns_not : (e.term == term) ≡ false → HoldsCommit h → ⊥
  owns_not other holds = wrong (sym other ∙ eq-eqb e.term term (sym own_term ∙ holds.1 ∙ sym now))
    where
      wrong : false ≡ true → ⊥
      wrong q = cc

-- none is held there
pub owns_none : (h : NodeValue) (commit : ℕ) → IsCoherent h → commit ≡ h.commit → ((h.base < commit) × (commit ≤ length (node_of h).log) → ⊥) → HoldsCommit h → ⊥
owns_none h commit co at none holds =
    let long : length (node_of h).log ≡ length (compacted h.snapshot h.base) + length h.entries = length-append (compacted h.snapshot h.base) h.entries in
    let cut : length (compacted h.snapshot h.base) ≡ h.base = length-replicate h.base _ in
    let low : h.base < h.commit = holds.0 in
    let within : h.commit ≤ h.base + length h.entries = co.within in
    none (omega (arith, at, low), omega (arith, at, long, cut, within))

-- ---- what may be proposed

-- an own event that is no proposal
pub other_plain : (event : RaftEvent) → IsOwnDue event → ((es : List Entry) → event ≢ events.Propose es) → IsPlain (input_of event)
other_plain (events.Propose es) own none = absurd (none es refl)
other_plain (events.Transfer to) own none = tt
other_plain events.Timeout own none = absurd own
other_plain events.Beat own none = absurd own
other_plain events.Yield own none = absurd own
other_plain (events.Message m) own none = absurd own
other_plain (events.Snapped at) own none = absurd own
other_plain (events.Servers servers) own none = absurd own

-- one entry alone
pub one_entry : (es : List Entry) (e : Entry) → length es ≡ 1 → e ≡ slice_index_or es 0 e → es ≡ e ∷ []
one_entry [] e one is = absurd (omega (arith, one))
one_entry (x ∷ []) e one is = λ i. sym is i ∷ []
one_entry (x ∷ y ∷ es) e one is = absurd (omega (arith, one))

pub change_event : (event : RaftEvent) (entries slice : List Entry) (e : Entry) → event ≡ events.Propose entries → slice ≡ entries → 1 ≤ length slice → length slice < 2 → e ≡ slice_index_or slice 0 e → event ≡ events.Propose (e ∷ [])
change_event event entries slice e is same low high at = is ∙ ap (λ (es : List Entry). events.Propose es) (sym same ∙ one_entry slice e (omega (arith, low, high)) at)

-- a leader may propose it if its voters leave room for it
pub may_so : (n : Running) (event : RaftEvent) (entry : Entry) (servers : List Server) → IsWhole n.replica → AllStand n.members → event ≡ events.Propose (entry ∷ []) → MayTake event n.replica.raft → configuration_in entry ≡ Some servers → MayChangeTo n servers →
    MayChange (seen n) entry servers
may_so n event entry servers whole stand is takes reads room = record {
  leads = subst (λ (e : RaftEvent). MayTake e n.replica.raft) is takes;
  coherent = whole.coherent;
  reads = reads;
  at = room.at;
  none = room.none;
  stands = stand.0;
  barrier = room.barrier;
  near = room.near;
}

-- and Raft may be given its servers
pub may_tell : (opening : List Server) (came : List ℕ) (n : Running) (entry : Entry) (servers : List Server) → MayChange (seen n) entry servers → MayBe (read_setup opening) n came (raft.Local (raft.UseServers servers) ∷ [])
may_tell opening came n entry servers may = (change_stops opening n.replica.id came (seen n) entry servers may).0

-- what a look at it answers
pub may_by : (n : Running) (servers : List Server) (b : Bool) → n.members.at ≡ n.replica.raft.commit → last_index n.members ≡ n.members.at → HoldsCommit n.replica.raft → b ≡ are_near (voters n.members.servers) (voters servers) → DecidesChange b n servers
may_by n servers true at none holds near = record { at = at; none = none; held = holds.0; barrier = holds.1; near = sym near }
may_by n servers false at none holds near = λ room. wrong (near ∙ room.near)
  where
    wrong : false ≡ true → ⊥
    wrong q = cc

-- ---- what must not be proposed

-- the proposal of an event that has a change
unfit_by : (n : Running) (event : RaftEvent) (entries slice : List Entry) → event ≡ events.Propose entries → slice ≡ entries → has_change slice ≡ true →
    ((entry : Entry) (servers : List Server) → entries ≡ entry ∷ [] → configuration_in entry ≡ Some servers → MayChangeTo n servers → ⊥) → IsUnfit n event
unfit_by n event entries slice is same change none = subst (IsUnfit n) (sym is) (subst (λ (es : List Entry). has_change es ≡ true) same change, none)

-- which has no entry, or further ones
pub unfit_few : (n : Running) (event : RaftEvent) (entries slice other : List Entry) → event ≡ events.Propose entries → slice ≡ entries → has_change slice ≡ true → other ≡ entries → length other < 1 → IsUnfit n event
unfit_few n event entries slice other is same change alike low =
    unfit_by n event entries slice is same change (λ entry servers one reads may. let l : length other ≡ 1 = ap length (alike ∙ one) in omega (arith, low, l))

pub unfit_many : (n : Running) (event : RaftEvent) (entries slice other : List Entry) → event ≡ events.Propose entries → slice ≡ entries → has_change slice ≡ true → other ≡ entries → 2 ≤ length other → IsUnfit n event
unfit_many n event entries slice other is same change alike high =
    unfit_by n event entries slice is same change (λ entry servers one reads may. let l : length other ≡ 1 = ap length (alike ∙ one) in omega (arith, high, l))

-- its one entry
the_entry : (entries slice : List Entry) (e entry : Entry) → slice ≡ entries → e ≡ slice_index_or slice 0 e → entries ≡ entry ∷ [] → e ≡ entry
the_entry entries slice e entry same at one = by slice (same ∙ one) at
  where
    by : (l : List Entry) → l ≡ entry ∷ [] → e ≡ slice_index_or l 0 e → e ≡ entry
    by [] q at = absurd cc
    by (x ∷ l) q at = at ∙ head q
      where
        head : x ∷ l ≡ entry ∷ [] → x ≡ entry
        head q = cc

-- which is none that reads
pub unfit_unread : (n : Running) (event : RaftEvent) (entries slice other : List Entry) (e : Entry) (read : Option (List Server)) → event ≡ events.Propose entries → slice ≡ entries → has_change slice ≡ true → other ≡ entries → e ≡ slice_index_or other 0 e →
    read ≡ configuration_in e → ((servers : List Server) → read ≡ Some servers → ⊥) → IsUnfit n event
unfit_unread n event entries slice other e read is same change alike at reads none =
    unfit_by n event entries slice is same change (λ entry servers one some may. none servers (reads ∙ ap configuration_in (the_entry entries other e entry alike at one) ∙ some))

-- or one that must not be proposed
pub unfit_not : (n : Running) (event : RaftEvent) (entries slice other : List Entry) (e : Entry) (servers seen_servers : List Server) → event ≡ events.Propose entries → slice ≡ entries → has_change slice ≡ true → other ≡ entries →
    e ≡ slice_index_or other 0 e → Some servers ≡ configuration_in e → seen_servers ≡ servers → (MayChangeTo n seen_servers → ⊥) → IsUnfit n event
unfit_not n event entries slice other e servers seen_servers is same change alike at reads looked none =
    unfit_by n event entries slice is same change
    (λ entry found one some may. none (subst (MayChangeTo n) (inside (sym some ∙ sym (ap configuration_in (the_entry entries other e entry alike at one)) ∙ sym reads) ∙ sym looked) may))
  where
    inside : {x y : List Server} → Some x ≡ Some y → x ≡ y
    inside q = cc
