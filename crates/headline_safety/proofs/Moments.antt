-- All moments of a run by one list of acts.
use Rattle.std.proofs.Common.{◌≡◌, ℕ, List, [], ◌∷◌, ◌++◌, length, take, refl, sym, ap, ◌∙◌, subst, append_assoc}
use Rattle.std.proofs.lemmas.List.{append-nil}
use Rattle.sql_engine.specs.declared.kind.EngineKind.{EngineKind}
use Rattle.sql_engine.specs.Meanings.{Meaning}
use Rattle.session_spec.specs.Entries.{Entry as Line}
use Rattle.session_safety.specs.Nodes.{Said}
use Rattle.raft_safety.specs.Members.{Setup}
use Rattle.cluster_model.specs.Clusters.{Act, cluster}
use Rattle.cluster_model.specs.Laws.{chosen_seen}
use Rattle.cluster_model.proofs.Clusters.{replies_stay_hold}
use Rattle.cluster_safety.specs.Runs.{Run, Event, happens, first_run, run_from, run, AllHold}
use Rattle.cluster_safety.specs.Acts.{RunIs}
use Rattle.cluster_safety.specs.Laws.{SafeRun}
use Rattle.cluster_safety.proofs.Runs.{step, first_run_is}
use Rattle.cluster_safety.proofs.Safes.{run_is_safe}
use Rattle.order_safety.proofs.Order.{chosen_grows}
use Rattle.headline_safety.specs.Shown.{HasOneList}

module _ (mean : Meaning) (kind : EngineKind) where
  -- up to this moment the run is that of a prefix of the acts
  record Front (vs : Setup) (r : Run) (acts all : List Act) (early : List Event) : Type 0 where
    front : List Act
    back : List Act
    split : all ≡ front ++ back
    is : RunIs mean kind vs (run_from r early) (acts ++ front)

  record Acted (vs : Setup) (r : Run) (acts : List Act) (events : List Event) : Type 0 where
    all : List Act
    at : (early late : List Event) → events ≡ early ++ late → Front vs r acts all early

  at_once : (vs : Setup) (r : Run) (acts all : List Act) → RunIs mean kind vs r acts → Front vs r acts all []
  at_once vs r acts all was = record { front = []; back = all; split = refl; is = subst (RunIs mean kind vs r) (sym (append-nil acts)) was }

  none_at : (vs : Setup) (r : Run) (acts : List Act) → RunIs mean kind vs r acts → (early late : List Event) → [] ≡ early ++ late → Front vs r acts [] early
  none_at vs r acts was [] late e = at_once vs r acts [] was
  none_at vs r acts was (x ∷ early) late e = absurd cc

  -- after one event more
  more_at : (vs : Setup) (r : Run) (acts new all : List Act) (e : Event) (events : List Event) → RunIs mean kind vs r acts →
      ((early late : List Event) → events ≡ early ++ late → Front vs (happens r e) (acts ++ new) all early) →
      (early late : List Event) → e ∷ events ≡ early ++ late → Front vs r acts (new ++ all) early
  more_at vs r acts new all e events was rest [] late q = at_once vs r acts (new ++ all) was
  more_at vs r acts new all e events was rest (f ∷ early) late q =
      let head : e ≡ f = cc in
      let tail : events ≡ early ++ late = cc in
      let p = rest early late tail in
      record {
        front = new ++ p.front;
        back = p.back;
        split = ap (λ l. new ++ l) p.split ∙ sym (append_assoc new p.front p.back);
        is = subst (λ x. RunIs mean kind vs (run_from (happens r x) early) (acts ++ (new ++ p.front))) head
            (subst (RunIs mean kind vs (run_from (happens r e) early)) (append_assoc acts new p.front) p.is);
      }

  acted : (vs : Setup) (r : Run) (acts : List Act) (events : List Event) → RunIs mean kind vs r acts → AllHold mean kind vs r events → Acted vs r acts events
  acted vs r acts [] was h = record { all = []; at = none_at vs r acts was }
  acted vs r acts (e ∷ events) was h =
      let x = step mean kind vs r acts e was h.0 in
      let rest = acted vs (happens r e) (acts ++ x.later) events x.is h.1 in
      record { all = x.later ++ rest.all; at = more_at vs r acts x.later rest.all e events was rest.at }

  -- A moment of a run: the run is that of these acts, and safe by prefixes of the list and of the account.
  pub record Moment (vs : Setup) (early : List Event) (chosen : List Line) (said : List Said) : Type 0 where
    pub acts : List Act
    pub is : RunIs mean kind vs (run early) acts
    pub size : ℕ
    pub count : ℕ
    pub safe : SafeRun mean vs (run early) (take size chosen) (take count said)

  moment : (vs : Setup) (front back : List Act) (early : List Event) → RunIs mean kind vs (run_from first_run early) front →
      Moment vs early (chosen_seen vs (cluster vs (front ++ back))) (cluster vs (front ++ back)).said
  unfolding run
  moment vs front back early is =
      let f = cluster vs front in
      let safe = run_is_safe mean kind vs (run_from first_run early) front is in
      record {
        acts = front;
        is = is;
        size = length (chosen_seen vs f);
        count = length f.said;
        safe = subst (λ l. SafeRun mean vs (run_from first_run early) l (take (length f.said) (cluster vs (front ++ back)).said))
            (sym (chosen_grows vs front back))
            (subst (SafeRun mean vs (run_from first_run early) (chosen_seen vs f)) (sym (replies_stay_hold vs front back)) safe);
      }

  -- all moments of a run
  pub record Moments (vs : Setup) (events : List Event) : Type 0 where
    pub chosen : List Line
    pub said : List Said
    pub at : (early late : List Event) → events ≡ early ++ late → Moment vs early chosen said

  pub moments_of : (vs : Setup) (events : List Event) → AllHold mean kind vs first_run events → Moments vs events
  moments_of vs events h =
      let x = acted vs first_run [] events (first_run_is mean kind vs) h in
      record {
        chosen = chosen_seen vs (cluster vs x.all);
        said = (cluster vs x.all).said;
        at = λ early late e.
            let p = x.at early late e in
            subst (λ l. Moment vs early (chosen_seen vs (cluster vs l)) (cluster vs l).said) (sym p.split) (moment vs p.front p.back early p.is);
      }

  pub one_list : (vs : Setup) (events : List Event) → AllHold mean kind vs first_run events → HasOneList mean vs events
  one_list vs events h =
      let x = moments_of vs events h in
      record { chosen = x.chosen; said = x.said; moments = λ early late e. let m = x.at early late e in (m.size, m.count, m.safe) }
