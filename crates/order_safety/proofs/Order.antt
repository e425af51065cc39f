-- A pending proposal is in its leader's log, and so before what is appended later.
use Rattle.std.proofs.Common.{◌≡◌, ℕ, zero, suc, ◌-◌, ◌<◌, ◌≤◌, List, [], ◌∷◌, ◌++◌, length, take, drop, refl, sym, ap, ◌∙◌, subst, ⊎_elim, arith, append_assoc, length-append}
use Rattle.std.specs.Prelude.{Option, Some, None, slice_get}
use Rattle.std.proofs.lemmas.Bool.{cases_lt}
use Rattle.std.proofs.lemmas.List.{append-nil, take_at}
use Rattle.sql_engine.specs.declared.kind.EngineKind.{EngineKind}
use Rattle.sql_engine.specs.Meanings.{Meaning}
use Rattle.session_spec.specs.Entries.{Content, Entry as Line}
use Rattle.session_spec.specs.Seen.{entry_seen, log_seen}
use Rattle.session_spec.specs.Sessions.{Flight}
use Rattle.session_safety.specs.Nodes.{Said, Trail}
use Rattle.session_safety.proofs.Invariant.{FlightIs, FlightOk}
use Rattle.raft_spec.specs.Log.{Entry, nth_term, term_at}
use Rattle.raft_safety.specs.Members.{Setup}
use Rattle.raft_safety.specs.World.{Event}
use Rattle.raft_safety.specs.Laws.{Leads, log_at}
use Rattle.raft_safety.specs.Chosen.{chosen}
use Rattle.raft_safety.proofs.Chosens.{applied_chosen_holds}
use Rattle.raft_safety.proofs.Logs.{term_at-suc}
use Rattle.cluster_model.specs.Clusters.{Cluster, Act, event_of, acted, first_cluster, cluster_from, cluster}
use Rattle.cluster_model.specs.Laws.{AllBelow, chosen_seen}
use Rattle.cluster_model.proofs.Clusters.{cluster_ok, cluster_join, raft_of}
use Rattle.cluster_model.proofs.Fronts.{Root, AllRooted, more_chosen}
use Rattle.cluster_model.proofs.Lines.{seen_append}
use Rattle.append_safety.proofs.Later.{new_is_later_holds, applied_is_first_holds}
use Rattle.order_safety.specs.Order.{HasTerm, PendingComesFirst, AnsweredComesFirst}

-- ---- the terms of entries

same_line : (x y : Line) → Some x ≡ Some y → x ≡ y
same_line x y e = cc

none_there : (x : Line) → None ≡ Some x → ⊥
none_there x e = cc

nth_is : (xs : List Entry) (k t : ℕ) (content : Content) → slice_get (log_seen xs) k ≡ Some (record { term = t; content = content }) →
    (suc k ≤ length xs) × (nth_term xs k ≡ t)
nth_is [] k t content e = absurd (none_there (record { term = t; content = content }) e)
nth_is (x ∷ xs) zero t content e = (omega arith, ap (λ (z : Line). z.term) (same_line (entry_seen x) (record { term = t; content = content }) e))
nth_is (x ∷ xs) (suc k) t content e = let r = nth_is xs k t content e in let low = r.0 in (omega arith, r.1)

-- an entry that sessions see is one of Raft's log, with its term
term_is : (xs : List Entry) (i t : ℕ) → 0 < i → HasTerm (log_seen xs) i t → (i ≤ length xs) × (term_at xs i ≡ t)
term_is xs i t pos has =
    let e : suc (i - 1) ≡ i = omega (arith, pos) in
    let r = nth_is xs (i - 1) t has.0 has.1 in
    let low = r.0 in
    (omega arith, ap (term_at xs) (sym e) ∙ term_at-suc xs (i - 1) ∙ r.1)

-- ---- the events of Raft

raft_from : (vs : Setup) (acts : List Act) (c : Cluster) → (fs : List Event) × ((cluster_from vs c acts).raft ≡ c.raft ++ fs)
raft_from vs [] c = ([], sym (append-nil c.raft))
raft_from vs (a ∷ acts) c =
    let rest = raft_from vs acts (acted vs c a) in
    (event_of a ∷ rest.0, rest.1 ∙ ap (λ l. l ++ rest.0) (raft_of vs c a) ∙ append_assoc c.raft (event_of a ∷ []) rest.0)

pub raft_later : (vs : Setup) (acts more : List Act) → (fs : List Event) × ((cluster vs (acts ++ more)).raft ≡ (cluster vs acts).raft ++ fs)
unfolding cluster
raft_later vs acts more =
    let r = raft_from vs more (cluster_from vs first_cluster acts) in
    (r.0, ap (λ (d : Cluster). d.raft) (cluster_join vs acts more first_cluster) ∙ r.1)

raft_end : (vs : Setup) (acts more rest : List Act) →
    (cluster vs (acts ++ (more ++ rest))).raft ≡ (cluster vs acts).raft ++ ((raft_later vs acts more).0 ++ (raft_later vs (acts ++ more) rest).0)
raft_end vs acts more rest =
    let one = raft_later vs acts more in
    let two = raft_later vs (acts ++ more) rest in
    ap (λ l. (cluster vs l).raft) (sym (append_assoc acts more rest)) ∙ two.1 ∙ ap (λ l. l ++ two.0) one.1
    ∙ append_assoc (cluster vs acts).raft one.0 two.0

-- the chosen entries as sessions see them only grow
pub chosen_grows : (vs : Setup) (acts more : List Act) →
    take (length (chosen_seen vs (cluster vs acts))) (chosen_seen vs (cluster vs (acts ++ more))) ≡ chosen_seen vs (cluster vs acts)
chosen_grows vs acts more =
    let r = raft_later vs acts more in
    let es = (cluster vs acts).raft in
    let now = log_seen (chosen vs es) in
    let rest = log_seen (drop (length (chosen vs es)) (chosen vs (es ++ r.0))) in
    let whole : chosen_seen vs (cluster vs (acts ++ more)) ≡ now ++ rest =
    ap (λ l. log_seen (chosen vs l)) r.1 ∙ ap log_seen (more_chosen vs es r.0) ∙ seen_append (chosen vs es)
    (drop (length (chosen vs es)) (chosen vs (es ++ r.0))) in
    ap (take (length now)) whole ∙ take_at now rest (length now) refl

-- ---- proposals

flight_of : (mean : Meaning) (log : List Line) (applied term : ℕ) (t : Trail) (o : Option Flight) (f : Flight) → o ≡ Some f →
    FlightIs mean log applied term t o → FlightOk mean log applied term t f
flight_of mean log applied term t o f e a = subst (FlightIs mean log applied term t) e a

pub pending_comes_first_holds : (mean : Meaning) (kind : EngineKind) → PendingComesFirst mean kind
pending_comes_first_holds mean kind vs acts more rest n conn k term index f fits up flight may pos has_index has_f =
    let c = cluster vs acts in
    let a = cluster_ok mean kind vs acts fits in
    let w = c.lives n in
    let ok = a.lives n in
    let x = flight_of mean w.log w.applied w.term (w.trail conn) (w.gate.session conn).flight f flight (ok.sessions conn).flight in
    let ahead = x.ahead in
    let low : 0 < f.last = omega arith in
    let log = log_at vs c.raft n in
    let own = term_is log f.last f.term low (subst (λ l. HasTerm l f.last f.term) (a.coherent n up).log (x.entry.content, x.entry.stands)) in
    let one = raft_later vs acts more in
    let two = raft_later vs (acts ++ more) rest in
    let end = raft_end vs acts more rest in
    let all = chosen vs (c.raft ++ (one.0 ++ two.0)) in
    let at_index = term_is all index term pos (subst (λ es. HasTerm (log_seen (chosen vs es)) index term) end has_index) in
    let at_f = term_is all f.last f.term low (subst (λ es. HasTerm (log_seen (chosen vs es)) f.last f.term) end has_f) in
    new_is_later_holds vs c.raft one.0 two.0 n k index f.last term pos own.0
    (subst (λ es. Leads vs es k term) one.1 may.leads) (subst (λ es. length (log_at vs es k) < index) one.1 may.ends)
    at_index.0 at_index.1 at_f.0 (at_f.1 ∙ sym own.1)

-- ---- answers

-- what was answered is applied
root_applied : (vs : Setup) (es : List Event) (x : Said) → Root vs es x → x.index ≤ length (chosen vs es)
root_applied vs es x r =
    let a = applied_chosen_holds vs r.first r.node in
    let done = r.done in
    let in_list = a.1 in
    let more = ap length (more_chosen vs r.first r.rest) in
    let same = ap (λ l. length (chosen vs l)) r.split in
    omega (arith, length-append (chosen vs r.first) (drop (length (chosen vs r.first)) (chosen vs (r.first ++ r.rest))))

all_below : (vs : Setup) (es : List Event) (index : ℕ) (xs : List Said) → length (chosen vs es) < index → AllRooted vs es xs → AllBelow index xs
all_below vs es index [] lt r = tt
all_below vs es index (x ∷ xs) lt r = (
  ⊎_elim (λ (h : 0 < x.index). let low = root_applied vs es x (r.0 h) in omega arith) (λ (h : x.index ≤ 0). omega arith) (cases_lt 0 x.index),
  all_below vs es index xs lt r.1,
)

pub answered_comes_first_holds : (mean : Meaning) (kind : EngineKind) → AnsweredComesFirst mean kind
answered_comes_first_holds mean kind vs acts more rest k term index fits may pos has_index =
    let c = cluster vs acts in
    let one = raft_later vs acts more in
    let two = raft_later vs (acts ++ more) rest in
    let end = raft_end vs acts more rest in
    let all = chosen vs (c.raft ++ (one.0 ++ two.0)) in
    let at_index = term_is all index term pos (subst (λ es. HasTerm (log_seen (chosen vs es)) index term) end has_index) in
    let past = applied_is_first_holds vs c.raft one.0 two.0 k index term pos
    (subst (λ es. Leads vs es k term) one.1 may.leads) (subst (λ es. length (log_at vs es k) < index) one.1 may.ends) at_index.0 at_index.1 in
    all_below vs c.raft index c.said past (cluster_ok mean kind vs acts fits).rooted
