-- The code's nodes, which have cut their logs, make the steps of the nodes of the world.
use Rattle.std.proofs.Common.{◌≡◌, ◌≢◌, ℕ, zero, suc, ◌-◌, ◌<◌, ◌≤◌, true, List, [], ◌∷◌, ◌++◌, length, drop, refl, sym, ap, ◌∙◌, subst, ⊎_elim, arith, length-append, length-drop}
use Rattle.std.specs.Prelude.{map}
use Rattle.std.proofs.lemmas.List.{length-replicate, length-take-le, drop_at, drop_all}
use Rattle.std.proofs.lemmas.Bool.{cases_eq, cond-true}
use Rattle.raft_spec.specs.Log.{Entry, Barrier, LogEnd, nth_term, term_at}
use Rattle.raft_spec.specs.Node.{What, AskVote, Vote, Append, Ack, Install, TimeoutNow, Message, Node, Outcome, voters, Timeout, Beat, Yield, Propose, Transfer, Snapped, UseServers, Input, Local, Receive}
use Rattle.raft_spec.specs.Outcomes.{barrier, quiet}
use Rattle.raft_spec.specs.Steps.{raft_step}
use Rattle.raft_spec.specs.Account.{steps, said}
use Rattle.raft_spec.specs.Compaction.{compacted, compact, compact_what, compact_message, compacted_step}
use Rattle.raft_safety.specs.Members.{Setup, voters_after, may_take, member_step}
use Rattle.raft_safety.specs.World.{inputs, run}
use Rattle.raft_safety.specs.Cuts.{Same, Twin, AlikeWhat, AlikeAll, AlikeInput, AlikeInputs, ToldAt, Told, ForgetsNothing, CutSteps}
use Rattle.raft_safety.proofs.Logs.{term_at-zero, term_at-suc, term_at-take, term_at-append}
use Rattle.raft_safety.proofs.Confs.{conf_still}
use Rattle.raft_safety.proofs.History.{Hist, HistOk, NodeOk, WhatOk}
use Rattle.raft_safety.proofs.Bases.{committed_within}
use Rattle.raft_safety.proofs.Reaches.{AllOk}
use Rattle.raft_safety.proofs.Shapes.{rule_of}
use Rattle.raft_safety.proofs.Alikes.{same_term}
use Rattle.raft_safety.proofs.AlikeRules.{Shape}
use Rattle.raft_safety.proofs.AlikeSteps.{SeesAt, AlikeStep, step_alike, alikes_append}
use Rattle.raft_safety.proofs.Steps.{InputOk, InputsOk, rule_fine, raft_fine, step_fine, inputs_later}
use Rattle.raft_safety.proofs.Worlds.{moments, inputs_fine}

pub same_refl : (b i : ℕ) (xs : List Entry) → Same b i xs xs
same_refl b i xs = record { len = refl; rest = refl; snapshot = refl }

same_trans : {b i : ℕ} {xs ys zs : List Entry} → Same b i xs ys → Same b i ys zs → Same b i xs zs
same_trans p q = record { len = p.len ∙ q.len; rest = p.rest ∙ q.rest; snapshot = p.snapshot ∙ q.snapshot }

nth_gone : (last : LogEnd) (n k : ℕ) → k < n → nth_term (compacted last n) k ≡ last.term
nth_gone last zero k lt = absurd (omega arith)
nth_gone last (suc n) zero lt = refl
nth_gone last (suc n) (suc k) lt = nth_gone last n k (omega arith)

-- what a node forgets is nothing that it knows
pub forget_same : (b : ℕ) (last : LogEnd) (ys : List Entry) → b ≤ last.index → b ≤ length ys → term_at ys last.index ≡ last.term → Same b last.index ys (compacted last b ++ drop b ys)
forget_same b last ys low le t =
    let n : length (compacted last b) ≡ b = length-replicate b (record { term = last.term; kind = Barrier; bytes = [] }) in
    let rest : drop b ys ≡ drop b (compacted last b ++ drop b ys) = sym (drop_at (compacted last b) (drop b ys) b n) in
    let len : length ys ≡ length (compacted last b ++ drop b ys) = omega (arith, length-append (compacted last b) (drop b ys), length-drop b ys) in
    ⊎_elim
    (λ (e : b ≡ last.index). record {
      len = len;
      rest = rest;
      snapshot = ⊎_elim
          (λ (z : b ≡ 0). let i : last.index ≡ 0 = omega arith in ap (term_at ys) i ∙ term_at-zero ys ∙ sym (term_at-zero (compacted last b ++ drop b ys)) ∙ ap (term_at (compacted last b ++ drop b ys)) (sym i))
          (λ (z : b ≢ 0).
          let i : last.index ≡ suc (b - 1) = omega arith in
          t ∙ sym (term_at-append (compacted last b) (drop b ys) last.index (omega arith) ∙ ap (term_at (compacted last b)) i ∙ term_at-suc (compacted last b) (b - 1) ∙ nth_gone last b (b - 1) (omega arith)))
          (cases_eq b 0);
    })
    (λ (e : b ≢ last.index).
    let flat : Same b b ys (compacted last b ++ drop b ys) → term_at ys last.index ≡ term_at (compacted last b ++ drop b ys) last.index = λ s. same_term last.index (omega arith) s in
    record { len = len; rest = rest; snapshot = by_rest b last.index ys (compacted last b ++ drop b ys) (omega arith) len rest })
    (cases_eq b last.index)
  where
    by_rest : (b k : ℕ) (xs zs : List Entry) → b < k → length xs ≡ length zs → drop b xs ≡ drop b zs → term_at xs k ≡ term_at zs k
    by_rest b k xs zs lt len rest = same_term {b = b} {i = 0} k lt (record { len = len; rest = rest; snapshot = term_at-zero xs ∙ sym (term_at-zero zs) })

gone_same : (last : LogEnd) (front : List Entry) → length front ≡ last.index → term_at front last.index ≡ last.term → Same last.index last.index front (compacted last last.index)
gone_same last front len t =
    let n : length (compacted last last.index) ≡ last.index = length-replicate last.index (record { term = last.term; kind = Barrier; bytes = [] }) in record {
      len = len ∙ sym n;
      rest = drop_all last.index front (omega arith) ∙ sym (drop_all last.index (compacted last last.index) (omega arith));
      snapshot = ⊎_elim
          (λ (z : last.index ≡ 0). ap (term_at front) z ∙ term_at-zero front ∙ sym (term_at-zero (compacted last last.index)) ∙ ap (term_at (compacted last last.index)) (sym z))
          (λ (z : last.index ≢ 0).
          let i : last.index ≡ suc (last.index - 1) = omega arith in
          t ∙ sym (ap (term_at (compacted last last.index)) i ∙ term_at-suc (compacted last last.index) (last.index - 1) ∙ nth_gone last last.index (last.index - 1) (omega arith)))
          (cases_eq last.index 0);
    }

what_forget : (vs : Setup) (h : Hist) (from to u : ℕ) (w v : What) → WhatOk vs h from to u w → AlikeWhat w v → AlikeWhat w (compact_what v)
what_forget vs h from to u (AskVote last transfer) v ok a = ap compact_what a
what_forget vs h from to u (Vote granted) v ok a = ap compact_what a
what_forget vs h from to u (Append prev commit es) v ok a = ap compact_what a
what_forget vs h from to u (Ack good index) v ok a = ap compact_what a
what_forget vs h from to u TimeoutNow v ok a = ap compact_what a
what_forget vs h from to u (Install last front) v bad a =
    let ok = bad.1 in
    let len : length front ≡ last.index = ap length ok.same ∙ length-take-le last.index (h.log_of u) ok.within in
    let t : term_at front last.index ≡ last.term = ap (λ l. term_at l last.index) ok.same ∙ term_at-take last.index (h.log_of u) last.index (omega arith) ∙ ok.term in
    (compacted last last.index, ap compact_what a.1, gone_same last front len t)

messages_forget : (vs : Setup) (h : Hist) (ms ks : List Message) → AllOk vs h ms → AlikeAll ms ks → AlikeAll ms (map compact_message ks)
messages_forget vs h [] ks ok a = ap (map compact_message) a
messages_forget vs h (m ∷ ms) ks ok a =
    let k = a.0 in
    (compact_message k, map compact_message a.1, ap (map compact_message) a.2, record { from = a.3.from; to = a.3.to; term = a.3.term; what = what_forget vs h m.from m.to m.term m.what k.what ok.0 a.3.what }, messages_forget vs h ms a.1 ok.1 a.4)

shape : {vs : Setup} {h : Hist} {n : ℕ} (s : Node) → NodeOk vs h n s → Shape s
shape s a = record { low = a.snaps.base; applied = a.snaps.applied; within = committed_within a.commit }

twin_forget : {vs : Setup} {h : Hist} {n : ℕ} (s v : Node) → NodeOk vs h n s → Twin s v → Twin s (compact v)
twin_forget s v a t =
    let ys = t.log in
    let low = a.snaps.base in
    let up = a.snaps.applied in
    let in_log = committed_within a.commit in
    let len = t.same.len in
    let zs = compacted s.snapshot s.base ++ drop s.base ys in
    record { log = zs; node = ap compact t.node; same = same_trans t.same (forget_same s.base s.snapshot ys low (omega arith) (sym t.same.snapshot ∙ a.snaps.term)) }

-- what the node was told is what the rules look at
sees_at : (vs : Setup) (s : Node) (i : Input) → ToldAt vs s i → SeesAt (voters_after vs) (voters s.servers) s i
sees_at vs s (Local (UseServers servers)) t = tt
sees_at vs s (Local (Propose es)) t = sym t
sees_at vs s (Local Timeout) t = record { now = sym t; barrier = λ u. conf_still vs s.log (barrier u) refl ∙ sym t }
sees_at vs s (Local Beat) t = record { now = sym t; barrier = λ u. conf_still vs s.log (barrier u) refl ∙ sym t }
sees_at vs s (Local Yield) t = record { now = sym t; barrier = λ u. conf_still vs s.log (barrier u) refl ∙ sym t }
sees_at vs s (Local (Transfer to)) t = record { now = sym t; barrier = λ u. conf_still vs s.log (barrier u) refl ∙ sym t }
sees_at vs s (Local (Snapped i)) t = record { now = sym t; barrier = λ u. conf_still vs s.log (barrier u) refl ∙ sym t }
sees_at vs s (Receive m) t = record { now = sym t; barrier = λ u. conf_still vs s.log (barrier u) refl ∙ sym t }

-- one step at a node and at its twin
record Steps (d e : Outcome) : Type 0 where
  node : Twin d.node e.node
  out : AlikeAll d.out e.out

raft_twin : {vs : Setup} {h : Hist} (n : ℕ) (s v : Node) (i j : Input) → HistOk vs h → NodeOk vs h n s → InputOk vs h n i → may_take vs s i ≡ true → ToldAt vs s i → Twin s v → AlikeInput i j → Steps (raft_step (voters_after vs) n s i) (compacted_step n v j)
unfolding compacted_step
raft_twin {vs} {h} n s v i j ok a w may told t e =
    let r = rule_fine n s i ok a w may in
    let f = raft_fine n s i ok a w may in
    let al = step_alike (voters_after vs) (voters s.servers) n s t.log i j (sees_at vs s i told) (shape s a) (shape (rule_of (voters_after vs) n s i).node r.node) t.same e in
    let d = raft_step (voters_after vs) n s i in
    let al' : AlikeStep d (raft_step (λ log. voters v.servers) n v j) = subst (λ z. AlikeStep d (raft_step (λ log. voters z.servers) n z j)) (sym t.node) al in
    record {
      node = twin_forget d.node (raft_step (λ log. voters v.servers) n v j).node f.node (record { log = al'.log; node = al'.node; same = al'.same });
      out = messages_forget vs f.to d.out (raft_step (λ log. voters v.servers) n v j).out f.sent al'.out;
    }

step_twin : {vs : Setup} {h : Hist} (n : ℕ) (s v : Node) (i j : Input) → HistOk vs h → NodeOk vs h n s → InputOk vs h n i → may_take vs s i ≡ true → ToldAt vs s i → Twin s v → AlikeInput i j → Steps (member_step vs n s i) (compacted_step n v j)
unfolding member_step
step_twin {vs} {h} n s v i j ok a w may told t e =
    subst (λ d. Steps d (compacted_step n v j)) (sym (cond-true (may_take vs s i) (raft_step (voters_after vs) n s i) (quiet s) may)) (raft_twin n s v i j ok a w may told t e)

steps_twin : {vs : Setup} (n : ℕ) (is : List Input) (h : Hist) (s v : Node) (js : List Input) → HistOk vs h → NodeOk vs h n s → InputsOk vs h n is → Told vs n s is → Twin s v → AlikeInputs is js → Twin (steps (member_step vs n) s is) (steps (compacted_step n) v js) × AlikeAll (said (member_step vs n) s is) (said (compacted_step n) v js)
steps_twin {vs} n [] h s v js ok a w told t e = subst (λ l. Twin s (steps (compacted_step n) v l) × AlikeAll [] (said (compacted_step n) v l)) (sym e) (t, refl)
steps_twin {vs} n (i ∷ is) h s v js ok a w told t e =
    let d = member_step vs n s i in
    let j = e.0 in
    let one = step_twin n s v i j ok a w.0 told.0 told.1 t e.3 in
    let f = step_fine n s i ok a w.0 in
    let rest = steps_twin n is f.to d.node (compacted_step n v j).node e.1 f.hist f.node (inputs_later vs n is f.grows.later w.1) told.2 one.node e.4 in
    subst (λ l. Twin (steps (member_step vs n) d.node is) (steps (compacted_step n) v l) × AlikeAll (d.out ++ said (member_step vs n) d.node is) (said (compacted_step n) v l)) (sym e.2)
    (rest.0, alikes_append d.out (compacted_step n v j).out (said (member_step vs n) d.node is) (said (compacted_step n) (compacted_step n v j).node e.1) one.out rest.1)

pub forgets_nothing_holds : ForgetsNothing
forgets_nothing_holds vs es n =
    let x = moments vs es [] in
    let s = (run vs es).nodes n in
    twin_forget s s (x.world.nodes n) (record { log = s.log; node = refl; same = same_refl s.base s.snapshot.index s.log })

pub cut_steps_hold : CutSteps
cut_steps_hold vs es n causes v js t e told =
    let x = moments vs es [] in
    let w = run vs es in
    steps_twin n (inputs n w.messages causes) x.first (w.nodes n) v js x.world.hist (x.world.nodes n) (inputs_fine vs x.first n w.messages causes x.world.messages) told t e
