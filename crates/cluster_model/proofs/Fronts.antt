-- What lives applied is a front of the chosen entries, and what was answered is in the logs of later leaders.
use Rattle.std.proofs.Common.{◌≡◌, ℕ, zero, suc, ◌<◌, ◌≤◌, true, true≢false, List, [], ◌∷◌, ◌++◌, length, take, drop, refl, sym, ap, ◌∙◌, subst, arith, length-append, append_assoc, take-append-drop}
use Rattle.std.proofs.lemmas.List.{take-append-le, append-nil, take-take}
use Rattle.session_spec.specs.Entries.{Entry as Line}
use Rattle.session_spec.specs.Seen.{log_seen}
use Rattle.session_safety.specs.Nodes.{Said, Node as Life, applied_entries}
use Rattle.raft_spec.specs.Node.{Role, Leader, Candidate, Follower, is_leader}
use Rattle.raft_safety.specs.Members.{Setup}
use Rattle.raft_safety.specs.World.{Event}
use Rattle.raft_safety.specs.Laws.{Leads, node_at, log_at}
use Rattle.raft_safety.specs.Chosen.{chosen}
use Rattle.raft_safety.specs.Standing.{turn}
use Rattle.raft_safety.proofs.Laws.{leaders_complete_holds}
use Rattle.raft_safety.proofs.Chosens.{applied_chosen_holds, chosen_grows_holds}
use Rattle.raft_safety.proofs.Standing.{events_chosen_holds}
use Rattle.cluster_model.specs.Clusters.{Cluster, InTerm, Coherent, Ended}
use Rattle.cluster_model.specs.Laws.{AllStand, AllInTime}
use Rattle.cluster_model.proofs.Lines.{size_of, seen_take, seen_append}

-- indexes that were answered are applied
abbrev pub AllIndexed : ℕ → List Said → Type 0
AllIndexed k [] = Unit {0}
AllIndexed k (x ∷ xs) = (x.index ≤ k) × AllIndexed k xs

pub indexed_more : (k m : ℕ) (xs : List Said) → k ≤ m → AllIndexed k xs → AllIndexed m xs
indexed_more k m [] h a = tt
indexed_more k m (x ∷ xs) h a = (let b = a.0 in omega arith, indexed_more k m xs h a.1)

pub indexed_append : (k : ℕ) (xs ys : List Said) → AllIndexed k xs → AllIndexed k ys → AllIndexed k (xs ++ ys)
indexed_append k [] ys a b = b
indexed_append k (x ∷ xs) ys a b = (a.0, indexed_append k xs ys a.1 b)

pub indexed_drop : (k d : ℕ) (xs : List Said) → AllIndexed k xs → AllIndexed k (drop d xs)
indexed_drop k zero xs a = a
indexed_drop k (suc d) [] a = tt
indexed_drop k (suc d) (x ∷ xs) a = indexed_drop k d xs a.1

-- indexes that were answered past one and up to another
abbrev pub AllBetween : ℕ → ℕ → List Said → Type 0
AllBetween k m [] = Unit {0}
AllBetween k m (x ∷ xs) = (0 < x.index → (k < x.index) × (x.index ≤ m)) × AllBetween k m xs

pub between_wider : (j k m n : ℕ) (xs : List Said) → j ≤ k → m ≤ n → AllBetween k m xs → AllBetween j n xs
between_wider j k m n [] h l a = tt
between_wider j k m n (x ∷ xs) h l a = ((λ p. let y = a.0 p in let low = y.0 in let high = y.1 in (omega arith, omega arith)), between_wider j k m n xs h l a.1)

pub between_append : (k m : ℕ) (xs ys : List Said) → AllBetween k m xs → AllBetween k m ys → AllBetween k m (xs ++ ys)
between_append k m [] ys a b = b
between_append k m (x ∷ xs) ys a b = (a.0, between_append k m xs ys a.1 b)

pub leader_is : (r : Role) → is_leader r ≡ true → r ≡ Leader
leader_is Leader e = refl
leader_is Candidate e = absurd (true≢false (sym e))
leader_is Follower e = absurd (true≢false (sym e))

-- a reply that waited is said by the leader of its term
pub leads_so : (vs : Setup) (es : List Event) (n : ℕ) (w : Life) (x : Said) → Coherent w (node_at vs es n) → (x.term ≡ w.term) × (w.leads ≡ true) → Leads vs es n x.term
leads_so vs es n w x co b = (leader_is (node_at vs es n).role (sym co.leads ∙ b.1), sym co.term ∙ sym b.0)

-- what was said in time
pub in_time : (vs : Setup) (before after : List Event) (n k : ℕ) (w : Life) (xs : List Said) → k ≡ (node_at vs before n).commit → Coherent w (node_at vs after n) → AllBetween k w.applied xs → InTerm w xs → AllInTime vs before after n xs
in_time vs before after n k w [] e co a b = tt
in_time vs before after n k w (x ∷ xs) e co a b = (
  (λ h. let y = a.0 h in let low = y.0 in let high = y.1 in let same = co.applied in record { past = omega arith; within = omega arith; leads = leads_so vs after n w x co (b.0 h) }),
  in_time vs before after n k w xs e co a.1 b.1,
)

-- the one list

pub more_chosen : (vs : Setup) (es fs : List Event) → chosen vs (es ++ fs) ≡ chosen vs es ++ drop (length (chosen vs es)) (chosen vs (es ++ fs))
more_chosen vs es fs = sym (take-append-drop (length (chosen vs es)) (chosen vs (es ++ fs))) ∙ ap (λ l. l ++ drop (length (chosen vs es)) (chosen vs (es ++ fs))) (chosen_grows_holds vs es fs)

-- what a life applied is the front of these
pub record FrontOf (w : Life) (xs : List Line) : Type 0 where
  pub low : w.applied ≤ length xs
  pub is : applied_entries w ≡ take w.applied xs

pub front_more : (vs : Setup) (es fs : List Event) (w : Life) → FrontOf w (log_seen (chosen vs es)) → FrontOf w (log_seen (chosen vs (es ++ fs)))
front_more vs es fs w a =
    let xs = log_seen (chosen vs es) in
    let ys = log_seen (drop (length (chosen vs es)) (chosen vs (es ++ fs))) in
    let low = a.low in
    subst (FrontOf w) (sym (ap log_seen (more_chosen vs es fs) ∙ seen_append (chosen vs es) (drop (length (chosen vs es)) (chosen vs (es ++ fs)))))
    (record { low = omega (arith, length-append xs ys); is = a.is ∙ sym (take-append-le w.applied xs ys low) })

pub done_chosen : (vs : Setup) (es : List Event) (n : ℕ) (w : Life) → Coherent w (node_at vs es n) → FrontOf w (log_seen (chosen vs es))
done_chosen vs es n w h =
    let c = (node_at vs es n).commit in
    let a = applied_chosen_holds vs es n in
    let low = a.1 in
    let applied = h.applied in
    let size = size_of (chosen vs es) in
    record {
      low = omega arith;
      is = ap (take w.applied) h.log ∙ ap (λ k. take k (log_seen (log_at vs es n))) applied
          ∙ seen_take c (log_at vs es n) ∙ ap log_seen a.2 ∙ sym (seen_take c (chosen vs es))
          ∙ ap (λ k. take k (log_seen (chosen vs es))) (sym applied);
    }

-- the life of a stopped event
pub ended_chosen : (vs : Setup) (es : List Event) (e : Event) (w : Life) → Ended w (turn vs es e) → FrontOf w (log_seen (chosen vs (es ++ e ∷ [])))
ended_chosen vs es e w h =
    let x = turn vs es e in
    let a = events_chosen_holds vs es e in
    let low = a.1 in
    let applied = h.applied in
    let size = size_of (chosen vs (es ++ e ∷ [])) in
    record {
      low = omega arith;
      is = h.front ∙ ap log_seen a.2 ∙ sym (seen_take x.applied (chosen vs (es ++ e ∷ []))) ∙ ap (λ k. take k (log_seen (chosen vs (es ++ e ∷ [])))) (sym applied);
    }

-- if a reply that waited was said
pub record Root (vs : Setup) (es : List Event) (x : Said) : Type 0 where
  pub first : List Event
  pub rest : List Event
  pub node : ℕ
  pub split : es ≡ first ++ rest
  pub done : x.index ≤ (node_at vs first node).commit
  pub leads : Leads vs first node x.term

abbrev pub AllRooted : Setup → List Event → List Said → Type 0
AllRooted vs es [] = Unit {0}
AllRooted vs es (x ∷ xs) = (0 < x.index → Root vs es x) × AllRooted vs es xs

pub rooted_more : (vs : Setup) (es fs : List Event) (xs : List Said) → AllRooted vs es xs → AllRooted vs (es ++ fs) xs
rooted_more vs es fs [] a = tt
rooted_more vs es fs (x ∷ xs) a = ((λ h. let r = a.0 h in record { first = r.first; rest = r.rest ++ fs; node = r.node; split = ap (λ l. l ++ fs) r.split ∙ append_assoc r.first r.rest fs; done = r.done; leads = r.leads }), rooted_more vs es fs xs a.1)

pub rooted_append : (vs : Setup) (es : List Event) (xs ys : List Said) → AllRooted vs es xs → AllRooted vs es ys → AllRooted vs es (xs ++ ys)
rooted_append vs es [] ys a b = b
rooted_append vs es (x ∷ xs) ys a b = (a.0, rooted_append vs es xs ys a.1 b)

pub rooted_now : (vs : Setup) (es : List Event) (n : ℕ) (w : Life) (xs : List Said) → Coherent w (node_at vs es n) → AllIndexed w.applied xs → InTerm w xs → AllRooted vs es xs
rooted_now vs es n w [] co a b = tt
rooted_now vs es n w (x ∷ xs) co a b = ((λ h. record { first = es; rest = []; node = n; split = sym (append-nil es); done = let y = a.0 in let e = co.applied in omega arith; leads = leads_so vs es n w x co (b.0 h) }), rooted_now vs es n w xs co a.1 b.1)

pub root_stands : (vs : Setup) (c : Cluster) (x : Said) → Root vs c.raft x → (m t : ℕ) → Leads vs c.raft m t → x.term ≤ t → (x.index ≤ length (log_at vs c.raft m)) × (take x.index (log_at vs c.raft m) ≡ take x.index (chosen vs c.raft))
root_stands vs c x r m t leads le =
    let P = λ (es : List Event). (x.index ≤ length (log_at vs es m)) × (take x.index (log_at vs es m) ≡ take x.index (chosen vs es)) in
    let es = r.first ++ r.rest in
    let k = (node_at vs r.first r.node).commit in
    let done : x.index ≤ k = r.done in
    let term = r.leads.1 in
    let low : (node_at vs r.first r.node).term ≤ t = omega arith in
    let l = leaders_complete_holds vs r.first r.rest r.node m t (subst (λ y. Leads vs y m t) r.split leads) low in
    let long = l.1 in
    let c1 = applied_chosen_holds vs r.first r.node in
    let front : take k (chosen vs es) ≡ take k (chosen vs r.first) = ap (take k) (more_chosen vs r.first r.rest) ∙ take-append-le k (chosen vs r.first) _ c1.1 in
    let whole : take k (log_at vs es m) ≡ take k (chosen vs es) = sym l.2 ∙ c1.2 ∙ sym front in
    subst P (sym r.split) (omega arith, sym (take-take x.index k (log_at vs es m) done) ∙ ap (take x.index) whole ∙ take-take x.index k (chosen vs es) done)

pub all_stand : (vs : Setup) (c : Cluster) (xs : List Said) → AllRooted vs c.raft xs → AllStand vs c xs
all_stand vs c [] a = tt
all_stand vs c (x ∷ xs) a = ((λ h. root_stands vs c x (a.0 h)), all_stand vs c xs a.1)
