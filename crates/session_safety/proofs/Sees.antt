-- What a connection has seen.
use Rattle.std.proofs.Common.{◌≡◌, ◌≢◌, ℕ, suc, ◌≤◌, max, Bool, true, false, true≢false, cond, List, [], ◌∷◌, ◌++◌, refl, sym, ap, ◌∙◌, subst, ⊎_elim, arith, append_assoc}
use Rattle.std.specs.Prelude.{◌==◌, Option, Some, None}
use Rattle.std.proofs.lemmas.List.{append-nil}
use Rattle.std.proofs.lemmas.Bool.{cond_both, cases_eq, eqb-true, eq-eqb, or_parts}
use Rattle.raft_spec.specs.Node.{among}
use Rattle.sql_engine.specs.declared.kind.EngineKind.{EngineKind}
use Rattle.sql_engine.specs.Replies.{Statement}
use Rattle.sql_engine.specs.Meanings.{Meaning}
use Rattle.session_spec.specs.Sessions.{Reply, Refusal, Single, Rows, Kind, Opening, Configuring, Writing, Committing, Querying, Flight, later_query, lent_query, Session, Note, Nothing, Began, Inside, Outside, Turned, Refused, Lacks, Answers, Proposes, Lends, Affects, may_ask}
use Rattle.session_spec.specs.Engines.{Answer}
use Rattle.session_spec.specs.Events.{connects, told_lost}
use Rattle.session_safety.specs.Nodes.{Query, Commit, Said, Trail, Node, Standing, started, unseen}
use Rattle.session_safety.specs.Life.{Event, Connect, Hangup, Call, Resume, Done, Apply, Lose, Lead, Serve, Append, Follow, undue, outcome_later, resumed, told_at, said_read, read_trail, read_by, read, query_for, query_by, answered_trail, proposed_trail, tells, called, said_landed, said_by, said_applied, landed_trail, trail_by, told_all, joined, happens, run_from, AllFit}
use Rattle.session_safety.specs.Laws.{EachTo, QueryUpTo, CommitUpTo, RestsUpTo, HadSeen, SeeEarlier, NoneComes, Sees, LivesSee}
use Rattle.session_safety.proofs.Invariant.{Once, NodeOk}
use Rattle.session_safety.proofs.Laters.{resumed_both}
use Rattle.session_safety.proofs.Lives.{happens_ok, run_ok, started_ok}
use Rattle.session_safety.proofs.Lasts.{run_append, fit_parts}

-- ---- replies to one connection

each_append : (c : ℕ) (P : Said → Type 0) (xs ys : List Said) → EachTo c P xs → EachTo c P ys → EachTo c P (xs ++ ys)
each_append c P [] ys a b = b
each_append c P (x ∷ xs) ys a b = (a.0, each_append c P xs ys a.1 b)

each_map : (c : ℕ) (P Q : Said → Type 0) (xs : List Said) → ((x : Said) → P x → Q x) → EachTo c P xs → EachTo c Q xs
each_map c P Q [] f a = tt
each_map c P Q (x ∷ xs) f a = ((λ e. f x (a.0 e)), each_map c P Q xs f a.1)

each_for : (c : ℕ) (P : Said → Type 0) (xs : List Said) → ((x : Said) → P x) → EachTo c P xs
each_for c P [] f = tt
each_for c P (x ∷ xs) f = ((λ e. f x), each_for c P xs f)

-- none of them is to it
abbrev NotTo : ℕ → List Said → Type 0
NotTo c xs = EachTo c (λ x. ⊥) xs

-- ---- what is seen

query_wider : (n m : ℕ) (o : Option Query) → n ≤ m → QueryUpTo n o → QueryUpTo m o
query_wider n m None h a = tt
query_wider n m (Some q) h a = omega (arith, h, a)

commit_wider : (n m : ℕ) (x : Said) → n ≤ m → CommitUpTo n x.commit → CommitUpTo m x.commit
commit_wider n m x h a = by x.commit a
  where
    by : (o : Option Commit) → CommitUpTo n o → CommitUpTo m o
    by None b = tt
    by (Some k) b = omega (arith, h, b)

rests_wider : (n m : ℕ) → n ≤ m → (x : Said) → RestsUpTo n x → RestsUpTo m x
rests_wider n m h x a = record { query = query_wider n m x.query h a.query; commit = commit_wider n m x h a.commit }

-- the query, if any, counts this index as seen
abbrev Counts : ℕ → Option Query → Type 0
Counts n None = Unit {0}
Counts n (Some q) = q.seen ≡ n

had_by : (n : ℕ) (x : Said) (o : Option Query) → RestsUpTo n x → Counts n o → HadSeen x o
had_by n x None a e = tt
had_by n x (Some q) a e = subst (λ k. RestsUpTo k x) (sym e) a

see_append : (c n : ℕ) (xs ys : List Said) → SeeEarlier c xs → EachTo c (RestsUpTo n) xs → EachTo c (λ y. Counts n y.query) ys → SeeEarlier c ys → SeeEarlier c (xs ++ ys)
see_append c n [] ys a up at b = b
see_append c n (x ∷ xs) ys a up at b = ((λ e. each_append c (λ y. HadSeen x y.query) xs ys (a.0 e) (each_map c (λ y. Counts n y.query) (λ y. HadSeen x y.query) ys (λ y k. had_by n x y.query (up.0 e) k) at)), see_append c n xs ys a.1 up.1 at b)

see_none : (c : ℕ) (xs ys : List Said) → NotTo c xs → SeeEarlier c ys → SeeEarlier c (xs ++ ys)
see_none c [] ys a b = b
see_none c (x ∷ xs) ys a b = ((λ e. absurd (a.0 e)), see_none c xs ys a.1 b)

-- ---- what one event says to a connection that had seen so much before it, and so much after

record Step (c before after : ℕ) (xs : List Said) : Type 0 where
  more : before ≤ after
  up : EachTo c (RestsUpTo after) xs
  at : EachTo c (λ y. Counts before y.query) xs
  see : SeeEarlier c xs

step_none : (c n : ℕ) → Step c n n []
step_none c n = record { more = omega arith; up = tt; at = tt; see = tt }

-- one reply
step_one : (c n m : ℕ) (x : Said) → n ≤ m → (x.conn ≡ c → RestsUpTo m x × Counts n x.query) → Step c n m (x ∷ [])
step_one c n m x h f = record { more = h; up = ((λ e. (f e).0), tt); at = ((λ e. (f e).1), tt); see = ((λ e. tt), tt) }

up_query : (r : Reply) (name : List ℕ) (at : ℕ) (before ss : List Statement) (seen n : ℕ) → at ≤ n → QueryUpTo n (query_for r name at before ss seen)
up_query (Refusal cause) name at before ss seen n h = tt
up_query (Single response) name at before ss seen n h = tt
up_query (Rows answer) name at before ss seen n h = h

at_query : (r : Reply) (name : List ℕ) (at : ℕ) (before ss : List Statement) (seen : ℕ) → Counts seen (query_for r name at before ss seen)
at_query (Refusal cause) name at before ss seen = tt
at_query (Single response) name at before ss seen = tt
at_query (Rows answer) name at before ss seen = refl

answer_up : (applied : ℕ) (t : Trail) (r : Reply) (note : Note) → QueryUpTo (answered_trail applied t note).seen (query_by applied t r note)
answer_up applied t r Nothing = up_query r [] 0 [] [] t.seen t.seen (omega arith)
answer_up applied t r Began = up_query r [] 0 [] [] t.seen t.seen (omega arith)
answer_up applied t r (Inside name ss) = up_query r name t.at t.ran ss t.seen (max t.seen t.at) (omega arith)
answer_up applied t r (Outside name ss) = up_query r name applied [] ss t.seen (max t.seen applied) (omega arith)

answer_at : (applied : ℕ) (t : Trail) (r : Reply) (note : Note) → Counts t.seen (query_by applied t r note)
answer_at applied t r Nothing = at_query r [] 0 [] [] t.seen
answer_at applied t r Began = at_query r [] 0 [] [] t.seen
answer_at applied t r (Inside name ss) = at_query r name t.at t.ran ss t.seen
answer_at applied t r (Outside name ss) = at_query r name applied [] ss t.seen

answer_more : (applied : ℕ) (t : Trail) (note : Note) → t.seen ≤ (answered_trail applied t note).seen
answer_more applied t Nothing = omega arith
answer_more applied t Began = omega arith
answer_more applied t (Inside name ss) = omega arith
answer_more applied t (Outside name ss) = omega arith

proposed_same : (applied : ℕ) (t : Trail) (note : Note) → (proposed_trail applied t note).seen ≡ t.seen
proposed_same applied t Nothing = refl
proposed_same applied t Began = refl
proposed_same applied t (Inside name ss) = refl
proposed_same applied t (Outside name ss) = refl

-- from one node to the next
abbrev Steps : ℕ → Node → Node → Type 0
Steps c w v = (xs : List Said) × (v.said ≡ w.said ++ xs) × Step c (w.trail c).seen (v.trail c).seen xs

steps_none : (c : ℕ) (w v : Node) → v.said ≡ w.said → (v.trail c).seen ≡ (w.trail c).seen → Steps c w v
steps_none c w v e t = ([], e ∙ sym (append-nil w.said), subst (λ n. Step c (w.trail c).seen n []) (sym t) (step_none c (w.trail c).seen))

-- a reply that rests on nothing
told_step : (c n d : ℕ) (r : Reply) → Step c n n (tells d r ∷ [])
told_step c n d r = step_one c n n (tells d r) (omega arith) (λ e. (record { query = tt; commit = tt }, tt))

called_steps : (w : Node) (c d : ℕ) (t : Turned) → Steps c w (called w d t)
called_steps w c d (Refused why) = (_, refl, told_step c (w.trail c).seen d (Refusal why))
called_steps w c d Lacks = steps_none c w w refl refl
called_steps w c d (Affects effect) = (_, refl, told_step c (w.trail c).seen d _)
called_steps w c d (Proposes s contents note) = steps_none c w (called w d (Proposes s contents note)) refl
    (cond_both (c == d) (proposed_trail w.applied (w.trail d) note) (w.trail c) (λ t. t.seen ≡ (w.trail c).seen) (λ e. proposed_same w.applied (w.trail d) note ∙ ap (λ k. (w.trail k).seen) (sym (eqb-true c d e))) (λ e. refl))
called_steps w c d (Lends s job) = steps_none c w (called w d (Lends s job)) refl
    (cond_both (c == d) (proposed_trail w.applied (w.trail d) (Outside job.name (job.statement ∷ []))) (w.trail c) (λ t. t.seen ≡ (w.trail c).seen) (λ e. ap (λ k. (w.trail k).seen) (sym (eqb-true c d e))) (λ e. refl))
called_steps w c d (Answers s r note) = (
  _,
  refl,
  cond_both (c == d) (answered_trail w.applied (w.trail d) note) (w.trail c) (λ t. Step c (w.trail c).seen t.seen (reply ∷ []))
      (λ e.
      let same : (w.trail d).seen ≡ (w.trail c).seen = ap (λ k. (w.trail k).seen) (sym (eqb-true c d e)) in
      step_one c (w.trail c).seen (answered_trail w.applied (w.trail d) note).seen reply (subst (λ n. n ≤ (answered_trail w.applied (w.trail d) note).seen) same (answer_more w.applied (w.trail d) note))
      (λ z. (record { query = answer_up w.applied (w.trail d) r note; commit = tt }, subst (λ n. Counts n (query_by w.applied (w.trail d) r note)) same (answer_at w.applied (w.trail d) r note))))
      (λ e. step_one c (w.trail c).seen (w.trail c).seen reply (omega arith) (λ z. absurd (true≢false (sym (eq-eqb c d (sym z)) ∙ e)))),
)
  where
    reply : Said
    reply = record { conn = d; reply = r; query = query_by w.applied (w.trail d) r note; commit = None; opened = None; index = 0; term = 0 }

resumed_steps : (w : Node) (c d : ℕ) (standing : Standing) (answers : List Answer) (o : Option Statement) → Steps c w (resumed w d standing answers o)
resumed_steps w c d standing answers None = steps_none c w w refl refl
resumed_steps w c d standing answers (Some s) =
    let t = outcome_later w d standing s answers in resumed_both (Steps c w) w d t (steps_none c w w refl refl) (called_steps (undue w d) c d t)

-- a reader answers a reply
told_steps : (w : Node) (c d : ℕ) (s : Statement) (o : Option Reply) → Steps c w (read_by w d s o)
told_steps w c d s None = steps_none c w w refl refl
told_steps w c d s (Some r) = (
  _,
  refl,
  cond_both (c == d) (read_trail (w.trail d)) (w.trail c) (λ t. Step c (w.trail c).seen t.seen (said_read w d s r ∷ []))
      (λ e.
      let same : (w.trail d).seen ≡ (w.trail c).seen = ap (λ k. (w.trail k).seen) (sym (eqb-true c d e)) in
      step_one c (w.trail c).seen (read_trail (w.trail d)).seen (said_read w d s r) (omega arith)
      (λ z. (
        record { query = up_query r (w.gate.session d).database (w.trail d).at [] (s ∷ []) (w.trail d).seen (read_trail (w.trail d)).seen (omega arith); commit = tt },
        subst (λ n. Counts n (said_read w d s r).query) same (at_query r (w.gate.session d).database (w.trail d).at [] (s ∷ []) (w.trail d).seen),
      )))
      (λ e. step_one c (w.trail c).seen (w.trail c).seen (said_read w d s r) (omega arith) (λ z. absurd (true≢false (sym (eq-eqb c d (sym z)) ∙ e)))),
)

read_steps : (w : Node) (c d : ℕ) (answers : List Answer) (o : Option Statement) → Steps c w (read w d answers o)
read_steps w c d answers None = steps_none c w w refl refl
read_steps w c d answers (Some s) = told_steps w c d s (told_at w d s answers)

-- ---- an entry is applied

landed_not : (c d : ℕ) (t : Trail) (f : Flight) (k : Kind) → d ≢ c → NotTo c (said_landed d t f k)
landed_not c d t f Opening h = (h, tt)
landed_not c d t f (Configuring short) h = (h, tt)
landed_not c d t f (Writing reply) h = (h, tt)
landed_not c d t f Committing h = (h, tt)
landed_not c d t f (Querying statement) h = tt

by_not : (index c d : ℕ) (t : Trail) (hung : Bool) (o : Option Flight) → d ≢ c → NotTo c (said_by index d t hung o)
by_not index c d t hung None h = tt
by_not index c d t hung (Some f) h =
    cond_both (f.last == index) _ _ (NotTo c) (λ e. cond_both hung _ _ (NotTo c) (λ z. tt) (λ z. landed_not c d t f f.kind h)) (λ e. tt)

applied_not : (index c : ℕ) (trail : ℕ → Trail) (session : ℕ → Session) (cs : List ℕ) → among cs c ≡ false → NotTo c (said_applied index trail session cs)
applied_not index c trail session [] e = tt
applied_not index c trail session (d ∷ cs) e =
    let p = or_parts (d == c) (among cs c) e in
    each_append c (λ x. ⊥) (said_by index d (trail d) (session d).hung (session d).flight) (said_applied index trail session cs)
    (by_not index c d (trail d) (session d).hung (session d).flight (λ z. true≢false (sym (eq-eqb d c z) ∙ p.0)))
    (applied_not index c trail session cs p.1)

landed_step : (index c : ℕ) (t : Trail) (f : Flight) (k : Kind) → f.last ≡ index → t.at ≤ index → Step c t.seen (landed_trail index t k).seen (said_landed c t f k)
landed_step index c t f Opening e h = step_one c t.seen t.seen _ (omega arith) (λ z. (record { query = tt; commit = tt }, tt))
landed_step index c t f (Configuring short) e h = step_one c t.seen t.seen _ (omega arith) (λ z. (record { query = tt; commit = tt }, tt))
landed_step index c t f (Writing reply) e h = step_one c t.seen (max t.seen index) _ (omega arith) (λ z. (record { query = up_query reply f.name t.at [] t.ran t.seen (max t.seen index) (omega arith); commit = omega arith }, at_query reply f.name t.at [] t.ran t.seen))
landed_step index c t f Committing e h = step_one c t.seen (max t.seen index) _ (omega arith) (λ z. (record { query = tt; commit = omega arith }, tt))
landed_step index c t f (Querying statement) e h = step_none c t.seen

landed_more : (index : ℕ) (t : Trail) (k : Kind) → t.seen ≤ (landed_trail index t k).seen
landed_more index t Opening = omega arith
landed_more index t (Configuring short) = omega arith
landed_more index t (Writing reply) = omega arith
landed_more index t Committing = omega arith
landed_more index t (Querying statement) = omega arith

trail_more : (index : ℕ) (t : Trail) (o : Option Flight) → t.seen ≤ (trail_by index t o).seen
trail_more index t None = omega arith
trail_more index t (Some f) =
    cond_both (f.last == index) (landed_trail index t f.kind) t (λ x. t.seen ≤ x.seen) (λ e. landed_more index t f.kind) (λ e. omega arith)

nothing : (c n m : ℕ) → n ≤ m → Step c n m []
nothing c n m h = record { more = h; up = tt; at = tt; see = tt }

by_step : (index c : ℕ) (t : Trail) (hung : Bool) (o : Option Flight) → t.at ≤ index → Step c t.seen (trail_by index t o).seen (said_by index c t hung o)
by_step index c t hung None h = step_none c t.seen
by_step index c t hung (Some f) h =
    two (f.last == index) (λ e. cond_both hung [] (said_landed c t f f.kind) (Step c t.seen (landed_trail index t f.kind).seen) (λ z. nothing c t.seen (landed_trail index t f.kind).seen (landed_more index t f.kind)) (λ z. landed_step index c t f f.kind (eqb-true f.last index e) h))
  where
    two : (b : Bool) → (b ≡ true → Step c t.seen (landed_trail index t f.kind).seen (cond hung [] (said_landed c t f f.kind))) → Step c t.seen (cond b (landed_trail index t f.kind) t).seen (cond b (cond hung [] (said_landed c t f f.kind)) [])
    two true k = k refl
    two false k = step_none c t.seen

not_step : (c n m : ℕ) (xs : List Said) → n ≤ m → NotTo c xs → Step c n m xs
not_step c n m xs h a = record {
  more = h;
  up = each_map c (λ x. ⊥) (RestsUpTo m) xs (λ x z. absurd z) a;
  at = each_map c (λ x. ⊥) (λ y. Counts n y.query) xs (λ x z. absurd z) a;
  see = subst (SeeEarlier c) (append-nil xs) (see_none c xs [] a tt);
}

-- others' replies in front of it, and after it
before_step : (c n m : ℕ) (xs ys : List Said) → NotTo c xs → Step c n m ys → Step c n m (xs ++ ys)
before_step c n m xs ys a b = record {
  more = b.more;
  up = each_append c (RestsUpTo m) xs ys (each_map c (λ x. ⊥) (RestsUpTo m) xs (λ x z. absurd z) a) b.up;
  at = each_append c (λ y. Counts n y.query) xs ys (each_map c (λ x. ⊥) (λ y. Counts n y.query) xs (λ x z. absurd z) a) b.at;
  see = see_none c xs ys a b.see;
}

see_behind : (c : ℕ) (xs ys : List Said) → SeeEarlier c xs → NotTo c ys → SeeEarlier c (xs ++ ys)
see_behind c [] ys a b = subst (SeeEarlier c) (append-nil ys) (see_none c ys [] b tt)
see_behind c (x ∷ xs) ys a b = ((λ e. each_append c (λ y. HadSeen x y.query) xs ys (a.0 e) (each_map c (λ y. ⊥) (λ y. HadSeen x y.query) ys (λ y z. absurd z) b)), see_behind c xs ys a.1 b)

behind_step : (c n m : ℕ) (xs ys : List Said) → Step c n m xs → NotTo c ys → Step c n m (xs ++ ys)
behind_step c n m xs ys a b = record {
  more = a.more;
  up = each_append c (RestsUpTo m) xs ys a.up (each_map c (λ x. ⊥) (RestsUpTo m) ys (λ x z. absurd z) b);
  at = each_append c (λ y. Counts n y.query) xs ys a.at (each_map c (λ x. ⊥) (λ y. Counts n y.query) ys (λ x z. absurd z) b);
  see = see_behind c xs ys a.see b;
}

applied_step : (index c : ℕ) (trail : ℕ → Trail) (session : ℕ → Session) (cs : List ℕ) → (trail c).at ≤ index → Once cs → Step c (trail c).seen (trail_by index (trail c) (session c).flight).seen (said_applied index trail session cs)
applied_step index c trail session [] h o =
    nothing c (trail c).seen (trail_by index (trail c) (session c).flight).seen (trail_more index (trail c) (session c).flight)
applied_step index c trail session (d ∷ cs) h o = ⊎_elim
    (λ (e : d ≡ c). behind_step c (trail c).seen (trail_by index (trail c) (session c).flight).seen (said_by index d (trail d) (session d).hung (session d).flight) (said_applied index trail session cs)
    (subst (λ k. Step c (trail c).seen (trail_by index (trail c) (session c).flight).seen (said_by index k (trail k) (session k).hung (session k).flight)) (sym e) (by_step index c (trail c) (session c).hung (session c).flight h))
    (applied_not index c trail session cs (subst (λ k. among cs k ≡ false) e o.0)))
    (λ (e : d ≢ c). before_step c (trail c).seen (trail_by index (trail c) (session c).flight).seen (said_by index d (trail d) (session d).hung (session d).flight) (said_applied index trail session cs) (by_not index c d (trail d) (session d).hung (session d).flight e) (applied_step index c trail session cs h o.1))
    (cases_eq d c)

-- ---- events

lost_step : (c n : ℕ) (rs : List (ℕ × Reply)) → Step c n n (told_all rs)
lost_step c n [] = step_none c n
lost_step c n (r ∷ rs) =
    let a = lost_step c n rs in
    record {
      more = omega arith;
      up = ((λ e. record { query = tt; commit = tt }), a.up);
      at = ((λ e. tt), a.at);
      see = ((λ e. each_silent (λ y. HadSeen (tells r.0 r.1) y.query) (λ d q. tt) rs), a.see);
    }
  where
    each_silent : (P : Said → Type 0) → ((d : ℕ) (q : Reply) → P (tells d q)) → (qs : List (ℕ × Reply)) → EachTo c P (told_all qs)
    each_silent P f [] = tt
    each_silent P f (q ∷ qs) = ((λ e. f q.0 q.1), each_silent P f qs)

-- what was said since a moment
pub record Gone (c : ℕ) (u w : Node) : Type 0 where
  pub more : List Said
  pub said : w.said ≡ u.said ++ more
  pub up : EachTo c (RestsUpTo (w.trail c).seen) more
  pub see : SeeEarlier c more

pub gone_none : (c : ℕ) (w : Node) → Gone c w w
gone_none c w = record { more = []; said = sym (append-nil w.said); up = tt; see = tt }

pub gone_sees : (c : ℕ) (u w : Node) → Gone c u w → Sees c u w
gone_sees c u w g = record { more = g.more; said = g.said; see = g.see }

gone_next : (c : ℕ) (u w v : Node) → Gone c u w → Steps c w v → Gone c u v
gone_next c u w v g s = record {
  more = g.more ++ s.0;
  said = s.1 ∙ ap (λ l. l ++ s.0) g.said ∙ append_assoc u.said g.more s.0;
  up = each_append c (RestsUpTo (v.trail c).seen) g.more s.0 (each_map c (RestsUpTo (w.trail c).seen) (RestsUpTo (v.trail c).seen) g.more (rests_wider (w.trail c).seen (v.trail c).seen s.2.more) g.up) s.2.up;
  see = see_append c (w.trail c).seen g.more s.0 g.see g.up s.2.at s.2.see;
}

module _ (mean : Meaning) (kind : EngineKind) where
  steps : (c : ℕ) (w : Node) (e : Event) → e ≢ Connect c → NodeOk mean w → Steps c w (happens w e)
  unfolding happens
  steps c w (Connect d) h a = cond_both (connects w.gate d) _ w (Steps c w) (λ e. steps_none c w (joined w d) refl (cond_both (c == d) unseen (w.trail c) (λ t. t.seen ≡ (w.trail c).seen) (λ z. absurd (h (ap (λ k. Connect k) (sym (eqb-true c d z))))) (λ z. refl))) (λ e. steps_none c w w refl refl)
  steps c w (Hangup d) h a = steps_none c w (happens w (Hangup d)) refl refl
  steps c w (Call d standing r answers) h a =
      cond_both (may_ask (w.gate.session d)) _ w (Steps c w) (λ e. called_steps w c d _) (λ e. steps_none c w w refl refl)
  steps c w (Resume d standing answers) h a = resumed_steps w c d standing answers (later_query (w.gate.session d).later)
  steps c w (Done d answers) h a = read_steps w c d answers (lent_query (w.gate.session d).later)
  steps c w Apply h a = let low = (a.sessions c).at in (_, refl, applied_step (suc w.applied) c w.trail w.gate.session w.gate.conns (omega arith) a.sole.once)
  steps c w (Lose t) h a = (_, refl, lost_step c (w.trail c).seen (told_lost w.gate))
  steps c w (Lead t) h a = steps_none c w (happens w (Lead t)) refl refl
  steps c w Serve h a = steps_none c w (happens w Serve) refl refl
  steps c w (Append contents) h a = steps_none c w (happens w (Append contents)) refl refl
  steps c w (Follow es) h a = steps_none c w (happens w (Follow es)) refl refl

  -- one event after another
  pub along : (c : ℕ) (u w : Node) (es : List Event) → AllFit mean kind w es → NoneComes c es → NodeOk mean w → Gone c u w → Gone c u (run_from w es)
  along c u w [] h n a g = g
  along c u w (e ∷ es) h n a g = along c u (happens w e) es h.1 n.1 (happens_ok mean kind w e h.0 a) (gone_next c u w (happens w e) g (steps c w e n.0 a))

  pub lives_see_hold : LivesSee mean kind
  lives_see_hold log applied term es fs c s h n =
      let w = started log applied term in
      let p = fit_parts mean kind w es fs h in
      let a = run_ok mean kind w es p.0 (started_ok mean kind log applied term s.within s.woven) in
      let v = run_from w es in
      subst (Sees c (run_from w es)) (sym (run_append w es fs)) (gone_sees c v (run_from v fs) (along c v v fs p.1 n a (gone_none c v)))
