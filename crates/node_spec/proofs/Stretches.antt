-- Stretches of an event join, and lead to what an event has to show.
use Rattle.std.proofs.Common.{◌≡◌, ◌⊎◌, inl, inr, ⊎_elim, ℕ, zero, suc, ◌≤◌, Bool, true, false, List, [], ◌∷◌, ◌++◌, length, take, refl, sym, ap, ◌∙◌, subst, arith, append_assoc, append-nil}
use Rattle.std.specs.Prelude.{map, slice_get, cond, ◌==◌, ◌||◌, Option, None}
use Rattle.std.proofs.lemmas.List.{map-append}
use Rattle.sql_engine.specs.declared.kind.EngineKind.{EngineKind}
use Rattle.sql_engine.specs.Meanings.{Meaning}
use Rattle.session_spec.specs.Entries.{Entry as Line}
use Rattle.wire_msgs.specs.declared.request.Request.{Request}
use Rattle.session_spec.specs.Seen.{log_seen}
use Rattle.session_spec.specs.Sessions.{Gateway}
use Rattle.session_spec.specs.Restarts.{shifted}
use Rattle.session_safety.specs.Nodes.{Said, Node as Life}
use Rattle.session_safety.specs.Life.{Event as Doing, Connect, Hangup, Call, Resume, Done, Apply, Lose, Lead, Serve, Append, Follow, happens, run_from as lives_on}
use Rattle.session_safety.specs.Answering.{Handled, handled_by, handled_in, IsOpen}
use Rattle.session_safety.specs.Lending.{lent_by, lent_in, answers_by, answers_in}
use Rattle.session_safety.specs.Laws.{NoneComes}
use Rattle.session_safety.proofs.Replying.{open_back}
use Rattle.raft_spec.specs.Node as raft
use Rattle.raft_spec.specs.Node.{Node, Input, Outcome, is_leader}
use Rattle.raft_spec.specs.NodeValues.{node_of}
use Rattle.raft_spec.specs.Account.{steps, said}
use Rattle.raft_spec.specs.Compaction.{compacted_step}
use Rattle.raft_safety.specs.Members.{Setup, member_step}
use Rattle.raft_safety.specs.Laws.{SameUpTo}
use Rattle.raft_safety.specs.Cuts.{Twin, AlikeInput, AlikeInputs, Told}
use Rattle.raft_safety.specs.Properties.{ProposalsKeep}
use Rattle.store_laws.specs.Store.{Kept}
use Rattle.cluster_model.specs.Clusters.{FitsIn, AllFitIn, InTerm, step_logs}
use Rattle.cluster_model.specs.Weaving.{IsWoven}
use Rattle.node_spec.specs.Nodes as rules
use Rattle.node_spec.specs.Steps.{Letter, BytesAre, HasFrontOf, TakesIn, told, calls, ArePartOf, FlightsServed, HasBytes, WhatSent, AllSent}
use Rattle.node_spec.specs.Accounts.{Moment, StandsAt, Piece, no_piece, both, taken_by, NoneWaited, Lives, SameTerm, NothingGoes, GoesOn, GoesBegins, BeginsOn, SentOn}
use Rattle.node_spec.proofs.Served.{lives_so}

-- ---- steps

pub steps_join : (f : Node → Input → Outcome) (s : Node) (xs ys : List Input) → steps f s (xs ++ ys) ≡ steps f (steps f s xs) ys
steps_join f s [] ys = refl
steps_join f s (x ∷ xs) ys = steps_join f (f s x).node xs ys

pub said_join : (f : Node → Input → Outcome) (s : Node) (xs ys : List Input) → said f s (xs ++ ys) ≡ said f s xs ++ said f (steps f s xs) ys
said_join f s [] ys = refl
said_join f s (x ∷ xs) ys = ap (λ l. (f s x).out ++ l) (said_join f (f s x).node xs ys) ∙ sym (append_assoc (f s x).out (said f (f s x).node xs) (said f (steps f (f s x).node xs) ys))

pub keep_join : (vs : Setup) (n : ℕ) (s : Node) (xs ys : List Input) → ProposalsKeep IsWoven vs n s xs → ProposalsKeep IsWoven vs n (steps (member_step vs n) s xs) ys → ProposalsKeep IsWoven vs n s (xs ++ ys)
keep_join vs n s [] ys a b = b
keep_join vs n s (x ∷ xs) ys a b = (a.0, keep_join vs n (member_step vs n s x).node xs ys a.1 b)

-- ---- what is taken in

pub tail_is : {A : Type 0} (x y : A) (xs ys : List A) → x ∷ xs ≡ y ∷ ys → xs ≡ ys
tail_is x y xs ys e = cc

pub head_is : {A : Type 0} (x y : A) (xs ys : List A) → x ∷ xs ≡ y ∷ ys → x ≡ y
head_is x y xs ys e = cc

-- inputs that are alike, cut in two
pub record Parts (is xs ys : List Input) : Type 0 where
  pub first : List Input
  pub rest : List Input
  pub whole : is ≡ first ++ rest
  pub alike : AlikeInputs first xs
  pub rest_alike : AlikeInputs rest ys

pub parts : (is xs ys : List Input) → AlikeInputs is (xs ++ ys) → Parts is xs ys
parts is [] ys a = record { first = []; rest = is; whole = refl; alike = refl; rest_alike = a }
parts [] (x ∷ xs) ys a = absurd cc
parts (i ∷ is) (x ∷ xs) ys a =
    let e : x ∷ (xs ++ ys) ≡ a.0 ∷ a.1 = a.2 in
    let r = parts is xs ys (subst (AlikeInputs is) (sym (tail_is x a.0 (xs ++ ys) a.1 e)) a.4) in
    record {
      first = i ∷ r.first;
      rest = r.rest;
      whole = ap (λ l. i ∷ l) r.whole;
      alike = (x, xs, refl, subst (AlikeInput i) (sym (head_is x a.0 (xs ++ ys) a.1 e)) a.3, r.alike);
      rest_alike = r.rest_alike;
    }

told_first : (vs : Setup) (n : ℕ) (s : Node) (is js : List Input) → Told vs n s (is ++ js) → Told vs n s is
told_first vs n s [] js t = tt
told_first vs n s (i ∷ is) js t = (t.0, t.1, told_first vs n (member_step vs n s i).node is js t.2)

told_rest : (vs : Setup) (n : ℕ) (s : Node) (is js : List Input) → Told vs n s (is ++ js) → Told vs n (steps (member_step vs n) s is) js
told_rest vs n s [] js t = t
told_rest vs n s (i ∷ is) js t = told_rest vs n (member_step vs n s i).node is js t.2

bytes_first : (vs : Setup) (bytes : List ℕ) (is js : List Input) → BytesAre vs bytes (is ++ js) → BytesAre vs bytes is
bytes_first vs bytes [] js b = tt
bytes_first vs bytes (raft.Local local ∷ is) js b = bytes_first vs bytes is js b
bytes_first vs bytes (raft.Receive m ∷ is) js b = (b.0, bytes_first vs bytes is js b.1)

bytes_rest : (vs : Setup) (bytes : List ℕ) (is js : List Input) → BytesAre vs bytes (is ++ js) → BytesAre vs bytes js
bytes_rest vs bytes [] js b = b
bytes_rest vs bytes (raft.Local local ∷ is) js b = bytes_rest vs bytes is js b
bytes_rest vs bytes (raft.Receive m ∷ is) js b = bytes_rest vs bytes is js b.1

abbrev Keeps : Node → Node → Type 0
Keeps s t = (s.commit ≤ t.commit) × SameUpTo s.commit s.log t.log

-- what was applied is kept, and each step of a node is one of the other
record Steps (vs : Setup) (n : ℕ) (s v : Node) (is xs : List Input) : Type 0 where
  kept : (k : ℕ) → Keeps (steps (member_step vs n) s (take k is)) (steps (member_step vs n) s (take (suc k) is))
  fronts : (k : ℕ) → HasFrontOf (steps (member_step vs n) s (take (suc k) is)) (slice_get is k)
  twins : (k : ℕ) → Told vs n s (take k is) → Twin (steps (member_step vs n) s (take k is)) (steps (compacted_step n) v (take k xs))

steps_next : (vs : Setup) (n : ℕ) (s v : Node) (i x : Input) (is xs : List Input) → (Told vs n s (i ∷ [])) → Steps vs n s v (i ∷ is) (x ∷ xs) → Steps vs n (member_step vs n s i).node (compacted_step n v x).node is xs
steps_next vs n s v i x is xs t a = record { kept = λ k. a.kept (suc k); fronts = λ k. a.fronts (suc k); twins = λ k h. a.twins (suc k) (t.0, t.1, h) }

steps_first : (vs : Setup) (n : ℕ) (s v : Node) (is js xs ys : List Input) → AlikeInputs is xs → Told vs n s is → Steps vs n s v (is ++ js) (xs ++ ys) → Steps vs n s v is xs
steps_first vs n s v [] js xs ys e t a =
    let z = a.kept 0 in
    record {
      kept = λ k. still k z.1.0;
      fronts = λ k. empty k;
      twins = λ k h. subst (λ l. Twin (steps (member_step vs n) s (take k [])) (steps (compacted_step n) v (take k l))) (sym e) (none k (a.twins 0 tt));
    }
  where
    still : (k : ℕ) → s.commit ≤ length s.log → Keeps (steps (member_step vs n) s (take k [])) (steps (member_step vs n) s (take (suc k) []))
    still zero b = (omega arith, (b, b, refl))
    still (suc k) b = (omega arith, (b, b, refl))

    empty : (k : ℕ) → HasFrontOf (steps (member_step vs n) s (take (suc k) [])) (slice_get [] k)
    empty zero = tt
    empty (suc k) = tt

    none : (k : ℕ) → Twin s v → Twin (steps (member_step vs n) s (take k [])) (steps (compacted_step n) v (take k []))
    none zero b = b
    none (suc k) b = b
steps_first vs n s v (i ∷ is) js [] ys e t a = absurd cc
steps_first vs n s v (i ∷ is) js (x ∷ xs) ys e t a =
    let same : AlikeInputs is xs = subst (AlikeInputs is) (sym (tail_is x e.0 xs e.1 e.2)) e.4 in
    let r = steps_first vs n (member_step vs n s i).node (compacted_step n v x).node is js xs ys same t.2 (steps_next vs n s v i x (is ++ js) (xs ++ ys) (t.0, t.1, tt) a) in
    record { kept = λ k. kept_at k r; fronts = λ k. front_at k r; twins = λ k h. twin_at k h r }
  where
    kept_at : (k : ℕ) → Steps vs n (member_step vs n s i).node (compacted_step n v x).node is xs → Keeps (steps (member_step vs n) s (take k (i ∷ is))) (steps (member_step vs n) s (take (suc k) (i ∷ is)))
    kept_at zero r = a.kept 0
    kept_at (suc k) r = r.kept k

    front_at : (k : ℕ) → Steps vs n (member_step vs n s i).node (compacted_step n v x).node is xs → HasFrontOf (steps (member_step vs n) s (take (suc k) (i ∷ is))) (slice_get (i ∷ is) k)
    front_at zero r = a.fronts 0
    front_at (suc k) r = r.fronts k

    twin_at : (k : ℕ) → Told vs n s (take k (i ∷ is)) → Steps vs n (member_step vs n s i).node (compacted_step n v x).node is xs → Twin (steps (member_step vs n) s (take k (i ∷ is))) (steps (compacted_step n) v (take k (x ∷ xs)))
    twin_at zero h r = a.twins 0 tt
    twin_at (suc k) h r = r.twins k h.2

steps_rest : (vs : Setup) (n : ℕ) (s v : Node) (is js xs ys : List Input) → AlikeInputs is xs → Told vs n s is → Steps vs n s v (is ++ js) (xs ++ ys) → Steps vs n (steps (member_step vs n) s is) (steps (compacted_step n) v xs) js ys
steps_rest vs n s v [] js xs ys e t a = subst (λ l. Steps vs n s v js (l ++ ys) → Steps vs n s (steps (compacted_step n) v l) js ys) (sym e) (λ b. b) a
steps_rest vs n s v (i ∷ is) js [] ys e t a = absurd cc
steps_rest vs n s v (i ∷ is) js (x ∷ xs) ys e t a =
    let same : AlikeInputs is xs = subst (AlikeInputs is) (sym (tail_is x e.0 xs e.1 e.2)) e.4 in
    steps_rest vs n (member_step vs n s i).node (compacted_step n v x).node is js xs ys same t.2 (steps_next vs n s v i x (is ++ js) (xs ++ ys) (t.0, t.1, tt) a)

-- what is taken in, cut in two
pub record Halves (vs : Setup) (n : ℕ) (bytes : List ℕ) (joins : Option ℕ) (a : rules.Node) (s : Node) (is : List Input) (p q : Piece) : Type 0 where
  pub cut : Parts is p.inputs q.inputs
  pub first : TakesIn vs n a s cut.first (taken_by bytes joins p)
  pub told : Told vs n s cut.first
  pub rest : (b : rules.Node) → node_of b.raft ≡ steps (compacted_step n) (node_of a.raft) p.inputs → TakesIn vs n b (steps (member_step vs n) s cut.first) cut.rest (taken_by bytes joins q)
  pub rest_told : Told vs n (steps (member_step vs n) s cut.first) cut.rest

pub halves : (vs : Setup) (n : ℕ) (bytes : List ℕ) (joins : Option ℕ) (a : rules.Node) (s : Node) (is : List Input) (p q : Piece) → TakesIn vs n a s is (taken_by bytes joins (both p q)) → Told vs n s is → Halves vs n bytes joins a s is p q
halves vs n bytes joins a s is p q t h =
    let c = parts is p.inputs q.inputs t.alike in
    let told : Told vs n s (c.first ++ c.rest) = subst (Told vs n s) c.whole h in
    let all : Steps vs n s (node_of a.raft) (c.first ++ c.rest) (p.inputs ++ q.inputs) =
    subst (λ l. Steps vs n s (node_of a.raft) l (p.inputs ++ q.inputs)) c.whole (record { kept = t.kept; fronts = t.fronts; twins = t.twins }) in
    let front : BytesAre vs bytes (c.first ++ c.rest) = subst (BytesAre vs bytes) c.whole t.front in
    let early = told_first vs n s c.first c.rest told in
    let one = steps_first vs n s (node_of a.raft) c.first c.rest p.inputs q.inputs c.alike early all in
    record {
      cut = c;
      first = record { alike = c.alike; front = bytes_first vs bytes c.first c.rest front; kept = one.kept; fronts = one.fronts; twins = one.twins };
      told = early;
      rest = λ b e.
          let two = subst (λ v. Steps vs n (steps (member_step vs n) s c.first) v c.rest q.inputs) (sym e) (steps_rest vs n s (node_of a.raft) c.first c.rest p.inputs q.inputs c.alike early all) in
          record { alike = c.rest_alike; front = bytes_rest vs bytes c.first c.rest front; kept = two.kept; fronts = two.fronts; twins = two.twins };
      rest_told = told_rest vs n s c.first c.rest told;
    }

-- ---- lives

pub lives_join : (w : Life) (xs ys : List Doing) → lives_on w (xs ++ ys) ≡ lives_on (lives_on w xs) ys
lives_join w [] ys = refl
lives_join w (x ∷ xs) ys = lives_join (happens w x) xs ys

pub none_join : (conn : ℕ) (xs ys : List Doing) → NoneComes conn xs → NoneComes conn ys → NoneComes conn (xs ++ ys)
none_join conn [] ys a b = b
none_join conn (x ∷ xs) ys a b = (a.0, none_join conn xs ys a.1 b)

pub handled_join : (conn : ℕ) (w : Life) (xs ys : List Doing) → handled_in conn w (xs ++ ys) ≡ handled_in conn w xs ++ handled_in conn (lives_on w xs) ys
handled_join conn w [] ys = refl
handled_join conn w (x ∷ xs) ys = ap (λ l. handled_by conn w x ++ l) (handled_join conn (happens w x) xs ys) ∙ sym (append_assoc (handled_by conn w x) (handled_in conn (happens w x) xs) (handled_in conn (lives_on (happens w x) xs) ys))

-- ---- queries that are lent, and answers that are used

pub lent_join : (w : Life) (xs ys : List Doing) → lent_in w (xs ++ ys) ≡ lent_in w xs ++ lent_in (lives_on w xs) ys
lent_join w [] ys = refl
lent_join w (x ∷ xs) ys = ap (λ l. lent_by w x ++ l) (lent_join (happens w x) xs ys) ∙ sym (append_assoc (lent_by w x) (lent_in (happens w x) xs) (lent_in (lives_on (happens w x) xs) ys))

pub answers_join : (w : Life) (xs ys : List Doing) → answers_in w (xs ++ ys) ≡ answers_in w xs ++ answers_in (lives_on w xs) ys
answers_join w [] ys = refl
answers_join w (x ∷ xs) ys = ap (λ l. answers_by w x ++ l) (answers_join (happens w x) xs ys) ∙ sym (append_assoc (answers_by w x) (answers_in (happens w x) xs) (answers_in (lives_on (happens w x) xs) ys))

-- if there are none in either part
pub none_lent : (w : Life) (xs ys : List Doing) → lent_in w xs ≡ [] → lent_in (lives_on w xs) ys ≡ [] → lent_in w (xs ++ ys) ≡ []
none_lent w xs ys a b = lent_join w xs ys ∙ ap (λ l. l ++ lent_in (lives_on w xs) ys) a ∙ b

pub none_used : (w : Life) (xs ys : List Doing) → answers_in w xs ≡ [] → answers_in (lives_on w xs) ys ≡ [] → answers_in w (xs ++ ys) ≡ []
none_used w xs ys a b = answers_join w xs ys ∙ ap (λ l. l ++ answers_in (lives_on w xs) ys) a ∙ b

-- ---- requests that are handled

pub calls_join : (conn : ℕ) (xs ys : List Doing) → calls conn (xs ++ ys) ≡ calls conn xs ++ calls conn ys
calls_join conn [] ys = refl
calls_join conn (Connect k ∷ xs) ys = calls_join conn xs ys
calls_join conn (Hangup k ∷ xs) ys = calls_join conn xs ys
calls_join conn (Call k standing request answers ∷ xs) ys = again (calls_join conn xs ys) (cond (k == conn) (request ∷ []) [])
  where
    again : calls conn (xs ++ ys) ≡ calls conn xs ++ calls conn ys → (front : List Request) → front ++ calls conn (xs ++ ys) ≡ (front ++ calls conn xs) ++ calls conn ys
    again e front = ap (λ l. front ++ l) e ∙ sym (append_assoc front (calls conn xs) (calls conn ys))
calls_join conn (Resume k standing answers ∷ xs) ys = calls_join conn xs ys
calls_join conn (Done k answers ∷ xs) ys = calls_join conn xs ys
calls_join conn (Apply ∷ xs) ys = calls_join conn xs ys
calls_join conn (Lose term ∷ xs) ys = calls_join conn xs ys
calls_join conn (Lead term ∷ xs) ys = calls_join conn xs ys
calls_join conn (Serve ∷ xs) ys = calls_join conn xs ys
calls_join conn (Append contents ∷ xs) ys = calls_join conn xs ys
calls_join conn (Follow entries ∷ xs) ys = calls_join conn xs ys

-- ---- requests

pub part_self : (xs : List Request) → ArePartOf xs xs
part_self [] = tt
part_self (x ∷ xs) = inl (refl, part_self xs)

pub part_none : (ys : List Request) → ArePartOf [] ys
part_none ys = tt

part_behind : (xs ys zs : List Request) → ArePartOf xs ys → ArePartOf (xs ++ zs) (ys ++ zs)
part_behind [] [] zs a = part_self zs
part_behind [] (y ∷ ys) zs a = part_skip zs y (ys ++ zs) (part_behind [] ys zs tt)
  where
    part_skip : (xs : List Request) (y : Request) (ys : List Request) → ArePartOf xs ys → ArePartOf xs (y ∷ ys)
    part_skip [] y ys a = tt
    part_skip (x ∷ xs) y ys a = inr a
part_behind (x ∷ xs) [] zs a = absurd a
part_behind (x ∷ xs) (y ∷ ys) zs (inl a) = inl (a.0, part_behind xs ys zs a.1)
part_behind (x ∷ xs) (y ∷ ys) zs (inr a) = inr (part_behind (x ∷ xs) ys zs a)

pub part_before : (zs xs ys : List Request) → ArePartOf xs ys → ArePartOf (zs ++ xs) (zs ++ ys)
part_before [] xs ys a = a
part_before (z ∷ zs) xs ys a = inl (refl, part_before zs xs ys a)

pub part_of_part : (xs ys zs : List Request) → ArePartOf xs ys → ArePartOf ys zs → ArePartOf xs zs
part_of_part [] ys zs a b = tt
part_of_part (x ∷ xs) [] zs a b = absurd a
part_of_part (x ∷ xs) (y ∷ ys) [] a b = absurd b
part_of_part (x ∷ xs) (y ∷ ys) (z ∷ zs) (inl a) (inl b) = inl (a.0 ∙ b.0, part_of_part xs ys zs a.1 b.1)
part_of_part (x ∷ xs) (y ∷ ys) (z ∷ zs) (inr a) (inl b) = inr (part_of_part (x ∷ xs) ys zs a b.1)
part_of_part (x ∷ xs) (y ∷ ys) (z ∷ zs) a (inr b) = inr (part_of_part (x ∷ xs) (y ∷ ys) zs a b)

parts_join : (c d left rest was asks more : List Request) → ArePartOf (c ++ left) (was ++ asks) → ArePartOf (d ++ rest) (left ++ more) → ArePartOf ((c ++ d) ++ rest) (was ++ (asks ++ more))
parts_join c d left rest was asks more a b =
    let one : ArePartOf (c ++ (d ++ rest)) (c ++ (left ++ more)) = part_before c (d ++ rest) (left ++ more) b in
    let two : ArePartOf ((c ++ left) ++ more) ((was ++ asks) ++ more) = part_behind (c ++ left) (was ++ asks) more a in
    let end = part_of_part (c ++ (d ++ rest)) (c ++ (left ++ more)) ((was ++ asks) ++ more) one (subst (λ l. ArePartOf l ((was ++ asks) ++ more)) (append_assoc c left more) two) in
    subst (λ l. ArePartOf l (was ++ (asks ++ more))) (sym (append_assoc c d rest)) (subst (ArePartOf (c ++ (d ++ rest))) (append_assoc was asks more) end)

same_join : (c d left rest was asks more : List Request) → c ++ left ≡ was ++ asks → d ++ rest ≡ left ++ more → (c ++ d) ++ rest ≡ was ++ (asks ++ more)
same_join c d left rest was asks more a b =
    append_assoc c d rest ∙ ap (λ l. c ++ l) b ∙ sym (append_assoc c left more) ∙ ap (λ l. l ++ more) a ∙ append_assoc was asks more

-- ---- replies

pub term_join : (w : Life) (xs ys : List Said) → InTerm w xs → InTerm w ys → InTerm w (xs ++ ys)
term_join w [] ys a b = b
term_join w (x ∷ xs) ys a b = (a.0, term_join w xs ys a.1 b)

term_none : (w : Life) (xs : List Said) → NoneWaited xs → InTerm w xs
term_none w [] a = tt
term_none w (x ∷ xs) a = let z : x.index ≡ 0 = a.0 in ((λ h. absurd (omega (arith, h))), term_none w xs a.1)

term_same : (w v : Life) (xs : List Said) → v.term ≡ w.term → v.leads ≡ w.leads → InTerm w xs → InTerm v xs
term_same w v [] t l a = tt
term_same w v (x ∷ xs) t l a = ((λ h. let r = a.0 h in (r.0 ∙ sym t, l ∙ r.1)), term_same w v xs t l a.1)

none_waited : (xs ys : List Said) → NoneWaited xs → NoneWaited ys → NoneWaited (xs ++ ys)
none_waited [] ys a b = b
none_waited (x ∷ xs) ys a b = (a.0, none_waited xs ys a.1 b)

neither : (a b : Bool) → (a || b) ≡ false → (a ≡ false) × (b ≡ false)
neither true b e = absurd cc
neither false b e = (refl, e)

-- ---- logs of steps

front_place : (k : ℕ) (xs ys : List Input) → (j : ℕ) × (take k xs ≡ take j (xs ++ ys))
front_place zero xs ys = (0, refl)
front_place (suc k) [] ys = (0, refl)
front_place (suc k) (x ∷ xs) ys = let r = front_place k xs ys in (suc r.0, ap (λ l. x ∷ l) r.1)

rest_place : (f : Node → Input → Outcome) (s : Node) (k : ℕ) (xs ys : List Input) → (j : ℕ) × (steps f (steps f s xs) (take k ys) ≡ steps f s (take j (xs ++ ys)))
rest_place f s k [] ys = (k, refl)
rest_place f s k (x ∷ xs) ys = let r = rest_place f (f s x).node k xs ys in (suc r.0, r.1)

module _ (m : Meaning) (kind : EngineKind) where
  fit_wider : (front whole : ℕ → List Line) (w : Life) (e : Doing) → ((k : ℕ) → (j : ℕ) × (front k ≡ whole j)) → FitsIn m kind front w e → FitsIn m kind whole w e
  fit_wider front whole w (Connect conn) h f = f
  fit_wider front whole w (Hangup conn) h f = f
  fit_wider front whole w (Call conn standing request answers) h f = f
  fit_wider front whole w (Resume conn standing answers) h f = f
  fit_wider front whole w (Done conn answers) h f = f
  fit_wider front whole w Apply h f = f
  fit_wider front whole w (Lose term) h f = f
  fit_wider front whole w (Lead term) h f = f
  fit_wider front whole w Serve h f = f
  fit_wider front whole w (Append contents) h f = f
  fit_wider front whole w (Follow entries) h f = let r = h f.1 in (f.0, r.0, f.2, sym r.1 ∙ f.3)

  all_wider : (front whole : ℕ → List Line) (w : Life) (es : List Doing) → ((k : ℕ) → (j : ℕ) × (front k ≡ whole j)) → AllFitIn m kind front w es → AllFitIn m kind whole w es
  all_wider front whole w [] h f = tt
  all_wider front whole w (e ∷ es) h f = (fit_wider front whole w e h f.0, all_wider front whole (happens w e) es h f.1)

  all_join : (whole : ℕ → List Line) (w : Life) (xs ys : List Doing) → AllFitIn m kind whole w xs → AllFitIn m kind whole (lives_on w xs) ys → AllFitIn m kind whole w (xs ++ ys)
  all_join whole w [] ys a b = b
  all_join whole w (x ∷ xs) ys a b = (a.0, all_join whole (happens w x) xs ys a.1 b)

  pub fits_join : (vs : Setup) (n : ℕ) (s : Node) (is js : List Input) (w : Life) (xs ys : List Doing) → AllFitIn m kind (step_logs vs n s is) w xs → AllFitIn m kind (step_logs vs n (steps (member_step vs n) s is) js) (lives_on w xs) ys → AllFitIn m kind (step_logs vs n s (is ++ js)) w (xs ++ ys)
  fits_join vs n s is js w xs ys a b =
      all_join (step_logs vs n s (is ++ js)) w xs ys
      (all_wider (step_logs vs n s is) (step_logs vs n s (is ++ js)) w xs (λ k. let r = front_place k is js in (r.0, ap (λ l. log_seen (steps (member_step vs n) s l).log) r.1)) a)
      (all_wider (step_logs vs n (steps (member_step vs n) s is) js) (step_logs vs n s (is ++ js)) (lives_on w xs) ys (λ k. let r = rest_place (member_step vs n) s k is js in (r.0, ap (λ (z : Node). log_seen z.log) r.1)) b)

  -- ---- one stretch more

  open_before : (vs : Setup) (b c : Moment) (p : Piece) (t : Node) (w : Life) (es : List Doing) (conn : ℕ) (s : Node) → StandsAt vs b s w → StandsAt vs c t (lives_on w es) → NoneComes conn es → IsOpen (c.node.sessions.session conn) → IsOpen (b.node.sessions.session conn)
  open_before vs b c p t w es conn s x y none o =
      let late : IsOpen ((lives_on w es).gate.session conn) = subst (λ (g : Gateway). IsOpen (g.session conn)) (sym y.sessions) (record { there = o.there; here = o.here }) in
      let early = open_back conn w es none late in
      let back : IsOpen ((shifted x.lacks b.node.sessions).session conn) = subst (λ (g : Gateway). IsOpen (g.session conn)) x.sessions early in
      record { there = back.there; here = back.here }

  -- the life's term and leadership are those of the moment
  life_term : (vs : Setup) (b c : Moment) (s t : Node) (w v : Life) → SameTerm b c → StandsAt vs b s w → StandsAt vs c t v → (v.term ≡ w.term) × (v.leads ≡ w.leads)
  life_term vs b c s t w v e x y =
      let s_term : b.node.raft.term ≡ s.term = ap (λ (z : Node). z.term) x.twin.node in
      let t_term : c.node.raft.term ≡ t.term = ap (λ (z : Node). z.term) y.twin.node in
      let s_leads : is_leader b.node.raft.role ≡ is_leader s.role = ap (λ (z : Node). is_leader z.role) x.twin.node in
      let t_leads : is_leader c.node.raft.role ≡ is_leader t.role = ap (λ (z : Node). is_leader z.role) y.twin.node in
      (y.term ∙ sym t_term ∙ e.term ∙ s_term ∙ sym x.term, y.leads ∙ sym t_leads ∙ e.leads ∙ s_leads ∙ sym x.leads)

  lives_both : (vs : Setup) (n : ℕ) (joins : Option ℕ) (a b c : Moment) (p q : Piece) (s : Node) (w : Life) (is js : List Input) → (p.late ≡ false) ⊎ SameTerm b c → (x : Lives m kind vs n joins a b p s w is) → Lives m kind vs n joins b c q (steps (member_step vs n) s is) (lives_on w x.life) js → Lives m kind vs n joins a c (both p q) s w (is ++ js)
  lives_both vs n joins a b c p q s w is js when x y =
      let life = x.life ++ y.life in
      let on = lives_join w x.life y.life in
      let end : StandsAt vs c (steps (member_step vs n) (steps (member_step vs n) s is) js) (lives_on (lives_on w x.life) y.life) = y.stands in
      let earlier : (p.late ≡ false) ⊎ SameTerm b c → FlightsServed w → InTerm (lives_on (lives_on w x.life) y.life) x.said = λ o f. ⊎_elim (λ e. term_none (lives_on (lives_on w x.life) y.life) x.said (x.early e)) (λ e. let r = life_term vs b c _ _ (lives_on w x.life) (lives_on (lives_on w x.life) y.life) e x.stands end in term_same (lives_on w x.life) (lives_on (lives_on w x.life) y.life) x.said r.0 r.1 (x.terms f)) o in
      record {
        life = life;
        said = x.said ++ y.said;
        weaves = keep_join vs n s is js x.weaves y.weaves;
        fits = fits_join vs n s is js w x.life y.life x.fits y.fits;
        stands = subst (StandsAt vs c (steps (member_step vs n) s (is ++ js))) (sym on) (subst (λ z. StandsAt vs c z (lives_on (lives_on w x.life) y.life)) (sym (steps_join (member_step vs n) s is js)) end);
        says = ap (λ (v : Life). v.said) on ∙ y.says ∙ ap (λ l. l ++ y.said) x.says ∙ append_assoc w.said x.said y.said;
        replies = ap (λ l. l ++ q.replies) x.replies ∙ ap (λ l. map told x.said ++ l) y.replies ∙ sym (map-append told x.said y.said);
        lends = ap (λ l. l ++ q.jobs) x.lends ∙ ap (λ l. lent_in w x.life ++ l) y.lends ∙ sym (lent_join w x.life y.life);
        uses = ap (λ l. l ++ q.answers) x.uses ∙ ap (λ l. answers_in w x.life ++ l) y.uses ∙ sym (answers_join w x.life y.life);
        terms = λ f. subst (λ v. InTerm v (x.said ++ y.said)) (sym on) (term_join (lives_on (lives_on w x.life) y.life) x.said y.said (earlier when f) (y.terms (lives_so m kind (step_logs vs n s is) w x.life x.fits f)));
        early = λ e. let r = neither p.late q.late e in none_waited x.said y.said (x.early r.0) (y.early r.1);
        joined = λ conn other. none_join conn x.life y.life (x.joined conn other) (y.joined conn other);
        handles = λ conn. subst (λ l. ArePartOf (l ++ c.node.waiting conn) (a.node.waiting conn ++ (p.asks conn ++ q.asks conn))) (sym (calls_join conn x.life y.life)) (parts_join (calls conn x.life) (calls conn y.life) (b.node.waiting conn) (c.node.waiting conn) (a.node.waiting conn) (p.asks conn) (q.asks conn) (x.handles conn) (y.handles conn));
        completes = λ conn o other.
            let late = y.completes conn o other in
            let early = x.completes conn (open_before vs b c p _ (lives_on w x.life) y.life conn _ x.stands end (y.joined conn other) o) other in
            record {
              all = ap (λ l. l ++ c.node.waiting conn) (calls_join conn x.life y.life) ∙ same_join (calls conn x.life) (calls conn y.life) (b.node.waiting conn) (c.node.waiting conn) (a.node.waiting conn) (p.asks conn) (q.asks conn) early.all late.all;
              handled = ap (map (λ (h : Handled). h.request)) (handled_join conn w x.life y.life) ∙ map-append (λ (h : Handled). h.request) (handled_in conn w x.life) (handled_in conn (lives_on w x.life) y.life) ∙ ap (λ l. l ++ map (λ (h : Handled). h.request) (handled_in conn (lives_on w x.life) y.life)) early.handled ∙ ap (λ l. calls conn x.life ++ l) late.handled ∙ sym (calls_join conn x.life y.life);
            };
      }

pub begins_on_holds : (m : Meaning) (kind : EngineKind) → BeginsOn m kind
begins_on_holds m kind vs n bytes joins read a b c p q x y when = record {
  made = y.made ∙ ap (λ v. steps (compacted_step n) v q.inputs) x.made ∙ sym (steps_join (compacted_step n) (node_of a.node.raft) p.inputs q.inputs);
  letters = map-append (λ (l : Letter). l.message) p.letters q.letters ∙ ap (λ l. l ++ map (λ (l : Letter). l.message) q.letters) x.letters ∙ ap (λ l. said (compacted_step n) (node_of a.node.raft) p.inputs ++ l) (y.letters ∙ ap (λ v. said (compacted_step n) v q.inputs) x.made) ∙ sym (said_join (compacted_step n) (node_of a.node.raft) p.inputs q.inputs);
  lives = λ s w is stands takes told reads.
      let h = halves vs n bytes joins a.node s is p q takes told in
      let one = x.lives s w h.cut.first stands h.first h.told reads in
      let two = y.lives (steps (member_step vs n) s h.cut.first) (lives_on w one.life) h.cut.rest one.stands (h.rest b.node x.made) h.rest_told in
      subst (Lives m kind vs n joins a c (both p q) s w) (sym h.cut.whole) (lives_both m kind vs n joins a b c p q s w h.cut.first h.cut.rest when one two);
}

pub goes_begins_holds : (m : Meaning) (kind : EngineKind) → GoesBegins m kind
goes_begins_holds m kind vs n bytes joins read a b p x = record { made = x.made; letters = x.letters; lives = λ s w is stands takes told reads. x.lives s w is stands takes told }

pub goes_on_holds : (m : Meaning) (kind : EngineKind) → GoesOn m kind
goes_on_holds m kind vs n bytes joins a b c p q x y when =
    let r = begins_on_holds m kind vs n bytes joins None a b c p q (goes_begins_holds m kind vs n bytes joins None a b p x) y when in
    record { made = r.made; letters = r.letters; lives = λ s w is stands takes told. r.lives s w is stands takes told tt }

pub nothing_goes_holds : (m : Meaning) (kind : EngineKind) → NothingGoes m kind
nothing_goes_holds m kind vs n bytes joins a = record {
  made = refl;
  letters = refl;
  lives = λ s w is stands takes told. subst (Lives m kind vs n joins a a no_piece s w) (sym (none is takes.alike)) (record {
    life = [];
    said = [];
    weaves = tt;
    fits = tt;
    stands = stands;
    says = sym (append-nil w.said);
    replies = refl;
    lends = refl;
    uses = refl;
    terms = λ f. tt;
    early = λ e. tt;
    joined = λ conn other. tt;
    handles = λ conn. subst (ArePartOf (a.node.waiting conn)) (sym (append-nil (a.node.waiting conn))) (part_self (a.node.waiting conn));
    completes = λ conn o other. record { all = sym (append-nil (a.node.waiting conn)); handled = refl };
  });
}
  where
    none : (is : List Input) → AlikeInputs is [] → is ≡ []
    none [] e = refl
    none (i ∷ is) e = absurd cc

-- ---- what is sent

one_of : (a b c : Kept) (last : _) (bytes : List ℕ) → HasBytes a last bytes ⊎ HasBytes b last bytes → (a.snap ≡ b.snap) ⊎ (b.snap ≡ c.snap) → HasBytes a last bytes ⊎ HasBytes c last bytes
one_of a b c last bytes (inl x) e = inl x
one_of a b c last bytes (inr x) (inl e) = inl (x.0 ∙ ap (λ z. z.index) (sym e), x.1 ∙ ap (λ z. z.bytes) (sym e))
one_of a b c last bytes (inr x) (inr e) = inr (x.0 ∙ ap (λ z. z.index) e, x.1 ∙ ap (λ z. z.bytes) e)

other_of : (a b c : Kept) (last : _) (bytes : List ℕ) → HasBytes b last bytes ⊎ HasBytes c last bytes → (a.snap ≡ b.snap) ⊎ (b.snap ≡ c.snap) → HasBytes a last bytes ⊎ HasBytes c last bytes
other_of a b c last bytes (inr x) e = inr x
other_of a b c last bytes (inl x) (inl e) = inl (x.0 ∙ ap (λ z. z.index) (sym e), x.1 ∙ ap (λ z. z.bytes) (sym e))
other_of a b c last bytes (inl x) (inr e) = inr (x.0 ∙ ap (λ z. z.index) e, x.1 ∙ ap (λ z. z.bytes) e)

sent_early : (a b c : Kept) (xs : List Letter) → AllSent a b xs → (a.snap ≡ b.snap) ⊎ (b.snap ≡ c.snap) → AllSent a c xs
sent_early a b c [] h e = tt
sent_early a b c (x ∷ xs) h e = (what x.message.what h.0, sent_early a b c xs h.1 e)
  where
    what : (w : raft.What) → WhatSent a b x.bytes w → WhatSent a c x.bytes w
    what (raft.Install last front) h = one_of a b c last x.bytes h e
    what (raft.AskVote last transfer) h = tt
    what (raft.Vote granted) h = tt
    what (raft.Append prev commit entries) h = tt
    what (raft.Ack good index) h = tt
    what raft.TimeoutNow h = tt

sent_late : (a b c : Kept) (xs : List Letter) → AllSent b c xs → (a.snap ≡ b.snap) ⊎ (b.snap ≡ c.snap) → AllSent a c xs
sent_late a b c [] h e = tt
sent_late a b c (x ∷ xs) h e = (what x.message.what h.0, sent_late a b c xs h.1 e)
  where
    what : (w : raft.What) → WhatSent b c x.bytes w → WhatSent a c x.bytes w
    what (raft.Install last front) h = other_of a b c last x.bytes h e
    what (raft.AskVote last transfer) h = tt
    what (raft.Vote granted) h = tt
    what (raft.Append prev commit entries) h = tt
    what (raft.Ack good index) h = tt
    what raft.TimeoutNow h = tt

sent_join : (a c : Kept) (xs ys : List Letter) → AllSent a c xs → AllSent a c ys → AllSent a c (xs ++ ys)
sent_join a c [] ys h k = k
sent_join a c (x ∷ xs) ys h k = (h.0, sent_join a c xs ys h.1 k)

pub sent_on_holds : SentOn
sent_on_holds a b c xs ys h k e = sent_join a c xs ys (sent_early a b c xs h e) (sent_late a b c ys k e)
