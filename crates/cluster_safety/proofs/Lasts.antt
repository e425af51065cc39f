-- A run at a moment and at a later one.
use Rattle.std.proofs.Common.{true, false, ◌≡◌, ℕ, suc, ◌<◌, ◌≤◌, List, [], ◌∷◌, ◌++◌, length, map, take, drop, refl, sym, ap, ◌∙◌, subst, ⊎_elim, arith, append_assoc}
use Rattle.std.specs.Prelude.{◌==◌, Option, None, Some}
use Rattle.std.specs.Option.{option_map}
use Rattle.std.proofs.Math.Seq.{drop-append_seam}
use Rattle.std.proofs.lemmas.List.{append-nil, take_at}
use Rattle.std.proofs.lemmas.Bool.{cond-true, eq-eqb}
use Rattle.sql_engine.specs.declared.kind.EngineKind.{EngineKind}
use Rattle.sql_engine.specs.Meanings.{Meaning}
use Rattle.session_spec.specs.Seen.{log_seen}
use Rattle.session_spec.specs.Restarts.{shifted_tx}
use Rattle.session_spec.specs.Sessions.{is_busy, Gateway}
use Rattle.session_safety.specs.Lending.{handed_on}
use Rattle.session_safety.specs.Laws.{NoneComes, SeeEarlier, EachTo, HadSeen}
use Rattle.session_safety.proofs.Replying.{said_to_append}
use Rattle.session_safety.specs.Life.{run_from as lives_on}
use Rattle.session_safety.specs.Nodes.{Query, Said, Node as Life}
use Rattle.session_safety.specs.Answering.{Handled, handled_in, said_to, ArePaired, IsOpen}
use Rattle.raft_spec.specs.Node as raft
use Rattle.raft_spec.specs.Node.{is_leader}
use Rattle.raft_safety.specs.Chosen.{chosen}
use Rattle.raft_safety.specs.Laws.{Leads, node_at, log_at}
use Rattle.raft_safety.specs.Members.{Setup}
use Rattle.raft_safety.specs.World.{Event as RaftEvent}
use Rattle.cluster_model.specs.Clusters.{Cluster, Act, Moves, event_of, said_of, all_doings, acted, first_cluster, cluster_from, cluster, ActsFit}
use Rattle.cluster_model.specs.Laws.{NoneStarts, AllBelow, AllInTime, chosen_seen}
use Rattle.cluster_model.proofs.Answering.{all_fit, clusters_answer_hold}
use Rattle.cluster_model.proofs.Clusters.{cluster_join, cluster_ok, fit_parts, raft_of, answers_in_time_hold, replies_stay_hold}
use Rattle.cluster_model.proofs.Fronts.{more_chosen}
use Rattle.cluster_model.proofs.Laters.{flights_whole_hold, barriers_read_hold}
use Rattle.cluster_model.proofs.Lines.{seen_append, size_of}
use Rattle.cluster_model.proofs.Seeing.{life_later, clusters_see_hold}
use Rattle.node_spec.specs.Nodes.{Node}
use Rattle.node_spec.specs.Steps.{calls, ArePartOf}
use Rattle.cluster_safety.specs.Runs.{Place, Up, Run, Goes, Event, spoken, with_place, happens, first_run, run_from, run, AllHold}
use Rattle.cluster_safety.specs.Acts.{RunIs, asked, waits}
use Rattle.cluster_safety.specs.Laws.{applied, SafeRun, InTime, RunsAnswer, HasAll, FirstIs, RunsLast, spoken_in, said_at}
use Rattle.cluster_safety.proofs.Fresh.{QueryNew, lives, begins_quiet}
use Rattle.cluster_safety.proofs.Letters.{causes}
use Rattle.cluster_safety.proofs.Parts.{part_trans, part_less, handled_called}
use Rattle.cluster_safety.proofs.Runs.{goes, said_more, runs_make_acts_hold}
use Rattle.cluster_safety.proofs.Safes.{log_is, up_at, applied_is, run_is_safe}
use Rattle.cluster_safety.proofs.Speaks.{speaks_on, newly, told_at, told_in, told_newly}

pub run_join : (r : Run) (xs ys : List Event) → run_from r (xs ++ ys) ≡ run_from (run_from r xs) ys
run_join r [] ys = refl
run_join r (e ∷ xs) ys = run_join (happens r e) xs ys

raft_from : (vs : Setup) (acts : List Act) (c : Cluster) → (fs : List RaftEvent) × ((cluster_from vs c acts).raft ≡ c.raft ++ fs)
raft_from vs [] c = ([], sym (append-nil c.raft))
raft_from vs (a ∷ acts) c =
    let rest = raft_from vs acts (acted vs c a) in
    (event_of a ∷ rest.0, rest.1 ∙ ap (λ l. l ++ rest.0) (raft_of vs c a) ∙ append_assoc c.raft (event_of a ∷ []) rest.0)

raft_later : (vs : Setup) (acts more : List Act) → (fs : List RaftEvent) × ((cluster vs (acts ++ more)).raft ≡ (cluster vs acts).raft ++ fs)
unfolding cluster
raft_later vs acts more =
    let r = raft_from vs more (cluster_from vs first_cluster acts) in
    (r.0, ap (λ (d : Cluster). d.raft) (cluster_join vs acts more first_cluster) ∙ r.1)

chosen_grows : (vs : Setup) (acts more : List Act) →
    take (length (chosen_seen vs (cluster vs acts))) (chosen_seen vs (cluster vs (acts ++ more))) ≡ chosen_seen vs (cluster vs acts)
chosen_grows vs acts more =
    let r = raft_later vs acts more in
    let es = (cluster vs acts).raft in
    let rest = drop (length (chosen vs es)) (chosen vs (es ++ r.0)) in
    let whole : chosen_seen vs (cluster vs (acts ++ more)) ≡ log_seen (chosen vs es) ++ log_seen rest = ap (λ l. log_seen (chosen vs l)) r.1 ∙ ap log_seen (more_chosen vs es r.0) ∙ seen_append (chosen vs es) rest in
    ap (take (length (log_seen (chosen vs es)))) whole ∙ take_at (log_seen (chosen vs es)) (log_seen rest) (length (log_seen (chosen vs es))) refl

-- ---- fronts of accounts

each_front : (conn : ℕ) (P : Said → Type 0) (xs ys : List Said) → EachTo conn P (xs ++ ys) → EachTo conn P xs
each_front conn P [] ys h = tt
each_front conn P (x ∷ xs) ys h = (h.0, each_front conn P xs ys h.1)

see_front : (conn : ℕ) (xs ys : List Said) → SeeEarlier conn (xs ++ ys) → SeeEarlier conn xs
see_front conn [] ys h = tt
see_front conn (x ∷ xs) ys h = (λ e. each_front conn (λ y. HadSeen x y.query) xs ys (h.0 e), see_front conn xs ys h.1)

first_front : (P : Said → Type 0) (xs ys : List Said) → FirstIs P (xs ++ ys) → FirstIs P xs
first_front P [] ys h = tt
first_front P (x ∷ xs) ys h = h

paired_front : (xs ys : List Said) (hs owed : List Handled) → ArePaired (xs ++ ys) hs owed → (yet : List Handled) × ArePaired xs hs yet
paired_front [] ys hs owed h = (hs, refl)
paired_front (x ∷ xs) ys [] owed h = absurd h
paired_front (x ∷ xs) ys (k ∷ hs) owed h = let r = paired_front xs ys hs owed h.1 in (r.0, (h.0, r.1))

module _ (mean : Meaning) (kind : EngineKind) where
  pub hold_parts : (vs : Setup) (r : Run) (xs ys : List Event) → AllHold mean kind vs r (xs ++ ys) →
      AllHold mean kind vs r xs × AllHold mean kind vs (run_from r xs) ys
  hold_parts vs r [] ys h = (tt, h)
  hold_parts vs r (e ∷ xs) ys h = let p = hold_parts vs (happens r e) xs ys h.1 in ((h.0, p.0), p.1)

  leads_at : (vs : Setup) (r : Run) (acts : List Act) (n : ℕ) (v : Node) → r.places n ≡ Up v → RunIs mean kind vs r acts → v.raft.role ≡ raft.Leader →
      Leads vs (cluster vs acts).raft n v.raft.term
  leads_at vs r acts n v e h lead =
      let st = up_at mean kind vs r acts n v e h in
      (sym (ap (λ (z : raft.Node). z.role) st.twin.node) ∙ lead, sym (ap (λ (z : raft.Node). z.term) st.twin.node))

  -- ---- answers in time

  in_time : (vs : Setup) (before after : List RaftEvent) (n : ℕ) (old new : Node) (xs : List Said) → (node_at vs before n).commit ≡ applied old →
      (node_at vs after n).commit ≡ applied new →
      (node_at vs after n).role ≡ new.raft.role → (node_at vs after n).term ≡ new.raft.term → AllInTime vs before after n xs → InTime old new xs
  in_time vs before after n old new [] a b r t h = tt
  in_time vs before after n old new (x ∷ xs) a b r t h = (
    (λ pos. let y = h.0 pos in (subst (λ k. k < x.index) a y.past, subst (λ k. x.index ≤ k) b y.within, sym r ∙ y.leads.0, sym t ∙ y.leads.1)),
    in_time vs before after n old new xs a b r t h.1,
  )

  pub runs_answer_hold : RunsAnswer mean kind
  unfolding run
  runs_answer_hold vs events n came added new letters replies jobs h =
      let p = hold_parts vs first_run events (Goes n came added new letters replies jobs ∷ []) h in
      let x = runs_make_acts_hold mean kind vs events p.0 in
      let acts = x.0 in
      let r = run_from first_run events in
      let e = p.1.0 in
      let g = goes mean kind vs r acts n came added e.0 new letters replies jobs e.1 e.2 e.3 e.4 x.1 in
      let a = Moves n (causes came added) g.places g.life in
      let c = cluster vs acts in
      let d = cluster vs (acts ++ a ∷ []) in
      let after = with_place r n (Up new) (handed_on (r.jobs n) jobs) letters (map (spoken n) replies) in
      let same : run_from first_run (events ++ Goes n came added new letters replies jobs ∷ []) ≡ after = run_join first_run events (Goes n came added new letters replies jobs ∷ []) in
      let said : d.said ≡ c.said ++ said_of c a = said_more mean kind vs acts a g.is.fit in
      let safe : SafeRun mean vs after (chosen_seen vs d) d.said = run_is_safe mean kind vs after (acts ++ a ∷ []) g.is in
      let one = up_at mean kind vs r acts n e.0 e.2 x.1 in
      let here : after.places n ≡ Up new = cond-true (n == n) (Up new) (r.places n) (eq-eqb n n refl) in
      let two = up_at mean kind vs after (acts ++ a ∷ []) n new here g.is in
      record {
        old = e.0;
        up = e.2;
        chosen = chosen_seen vs d;
        before = c.said;
        more = said_of c a;
        safe =
            subst (λ q. SafeRun mean vs q (chosen_seen vs d) (c.said ++ said_of c a)) (sym same)
            (subst (λ l. SafeRun mean vs after (chosen_seen vs d) l) said safe);
        replies_are = g.says;
        in_time =
            in_time vs c.raft d.raft n e.0 new (said_of c a) (applied_is mean kind vs e.0 _ _ one) (applied_is mean kind vs new _ _ two)
            (sym (ap (λ (z : raft.Node). z.role) two.twin.node)) (sym (ap (λ (z : raft.Node). z.term) two.twin.node))
            (answers_in_time_hold mean kind vs acts a g.is.fit).1;
      }

  -- ---- a later moment

  below_up : (a b : ℕ) (xs : List Said) → a ≤ b → AllBelow a xs → AllBelow b xs
  below_up a b [] e h = tt
  below_up a b (x ∷ xs) e h = (omega (arith, e, h.0), below_up a b xs e h.1)

  new_has : (vs : Setup) (acts more : List Act) (n t : ℕ) (o : Option Query) → ActsFit mean kind vs first_cluster (acts ++ more) →
      Leads vs (cluster vs acts).raft n t → Leads vs (cluster vs (acts ++ more)).raft n t →
      ((cluster vs (acts ++ more)).lives n).applied ≡ (node_at vs (cluster vs (acts ++ more)).raft n).commit → QueryNew (length (log_at vs
      (cluster vs acts).raft n)) ((cluster vs (acts ++ more)).lives n).applied o → HasAll (cluster vs acts).said o
  new_has vs acts more n t None h l k e x = tt
  new_has vs acts more n t (Some q) h l k e x =
      let i = length (log_at vs (cluster vs acts).raft n) in
      below_up (suc i) q.at (cluster vs acts).said (omega (arith, x.0)) (barriers_read_hold mean kind vs acts more n t (suc i) h l k (omega arith) (omega
      (arith, x.1, e)))

  fit_two : (vs : Setup) (acts more : List Act) → ActsFit mean kind vs first_cluster (acts ++ more) →
      ActsFit mean kind vs first_cluster acts × ActsFit mean kind vs (cluster vs acts) more
  unfolding cluster
  fit_two vs acts more h = fit_parts mean kind vs acts more first_cluster h

  -- the first reply to a connection that asks for barriers, at a leader that still leads
  unfoldable fresh_acts : (vs : Setup) (acts more : List Act) (n conn t : ℕ) → ActsFit mean kind vs first_cluster (acts ++ more) →
      (node_at vs (cluster vs acts).raft n).up ≡ true → (node_at vs (cluster vs (acts ++ more)).raft n).up ≡ true →
      Leads vs (cluster vs acts).raft n t → Leads vs (cluster vs (acts ++ more)).raft n t → NoneStarts n more → NoneComes conn (all_doings n more) →
      is_busy (((cluster vs acts).lives n).gate.session conn) ≡ false → (((cluster vs acts).lives n).gate.session conn).tx ≡ None →
      (((cluster vs acts).lives n).gate.session conn).barriers ≡ true →
      (xs : List Said) × (((cluster vs (acts ++ more)).lives n).said ≡ ((cluster vs acts).lives n).said ++ xs) × FirstIs (λ z. HasAll
      (cluster vs acts).said z.query) (said_to conn xs)
  fresh_acts vs acts more n conn t h up up_yet l still starts comes free out barriers =
      let c = cluster vs acts in
      let d = cluster vs (acts ++ more) in
      let doings = all_doings n more in
      let p = fit_two vs acts more h in
      let ok = cluster_ok mean kind vs acts p.0 in
      let co = ok.coherent n up in
      let after = (cluster_ok mean kind vs (acts ++ more) h).coherent n up_yet in
      let same = life_later vs acts more n starts in
      let i = length (log_at vs c.raft n) in
      let size = size_of (log_at vs c.raft n) in
      let long = ap length co.log in
      let begin = co.term in
      let end = after.term in
      let t1 = l.1 in
      let t2 = still.1 in
      let lives_same = ap (λ (w : Life). w.term) same in
      let quiet = begins_quiet mean kind i conn (c.lives n) (co.leads ∙ ap is_leader l.0) (omega arith) free out barriers in
      let x = lives mean kind i conn doings (c.lives n) (ok.lives n) (all_fit mean kind vs more c n ok p.1 starts) comes (omega arith) quiet in
      let whole = ap (λ (w : Life). w.applied) same in (
        x.more,
        ap (λ (w : Life). w.said) same ∙ x.said,
        ⊎_elim
            (λ (z : said_to conn x.more ≡ []). subst (FirstIs (λ z. HasAll c.said z.query)) (sym z) tt)
            (λ (z : (a : Said) × (ys : List Said) × (said_to conn x.more ≡ a ∷ ys) × QueryNew i (lives_on (c.lives n) doings).applied a.query).
            subst (FirstIs (λ z. HasAll c.said z.query)) (sym z.2) (new_has vs acts more n t z.0.query h l still after.applied (subst
            (λ b. QueryNew i b z.0.query) (sym whole) z.3)))
            x.so,
      )

  pub runs_last_hold : RunsLast mean kind
  unfolding run
  runs_last_hold vs events more h =
      let p = hold_parts vs first_run events more h in
      let x = runs_make_acts_hold mean kind vs events p.0 in
      let acts = x.0 in
      let r = run_from first_run events in
      let y = speaks_on mean kind vs r acts more x.1 p.1 in
      let later = y.on.later in
      let q = run_from r more in
      let c = cluster vs acts in
      let d = cluster vs (acts ++ later) in
      let fit = y.on.is.fit in
      let same : run_from first_run (events ++ more) ≡ q = run_join first_run events more in
      record {
        chosen = chosen_seen vs c;
        said = c.said;
        later = chosen_seen vs d;
        all = d.said;
        safe = run_is_safe mean kind vs r acts x.1;
        still = subst (λ z. SafeRun mean vs z (chosen_seen vs d) d.said) (sym same) (run_is_safe mean kind vs q (acts ++ later) y.on.is);
        grows = chosen_grows vs acts later;
        stays = replies_stay_hold vs acts later;
        tells = λ n. told_at n (spoken_in more) (newly vs acts later) (told_newly mean kind vs r q acts later more x.1 y.on.is refl) ∙ told_in n more;
        flights = λ n conn v f e flight writes i term name pages pos there.
            let st = up_at mean kind vs r acts n v e x.1 in
            let in_life : ((c.lives n).gate.session conn).flight ≡ Some f = ap (λ (g : Gateway). (g.session conn).flight) st.sessions ∙ flight in
            let w = flights_whole_hold mean kind vs acts later n conn f fit st.up in_life writes i term name pages pos there in
            (w.0, ((c.lives n).trail conn).ran, w.1);
        barriers = λ n a v u e g lead still_leads term past within.
            let st = up_at mean kind vs r acts n v e x.1 in
            let g_at : q.places n ≡ Up u = ap (λ (z : Run). z.places n) (sym same) ∙ g in
            let su = up_at mean kind vs q (acts ++ later) n u g_at y.on.is in
            let size = (log_is (node_at vs c.raft n) v.raft st.twin).size in
            let commit = applied_is mean kind vs u (node_at vs d.raft n) (d.lives n) su in
            barriers_read_hold mean kind vs acts later n v.raft.term a fit (leads_at vs r acts n v e x.1 lead) (subst (λ t. Leads vs d.raft n t) term (leads_at vs q (acts ++ later) n u g_at y.on.is still_leads)) (subst (λ k. k < a) (sym size) past) (subst (λ k. a ≤ k) (sym commit) within);
        fresh = λ n conn v u e g starts joins lead still_leads term asks.
            let st = up_at mean kind vs r acts n v e x.1 in
            let g_at : q.places n ≡ Up u = ap (λ (z : Run). z.places n) (sym same) ∙ g in
            let su = up_at mean kind vs q (acts ++ later) n u g_at y.on.is in
            let k = y.speaks n starts in
            let w = (c.lives n).said in
            let l = leads_at vs r acts n v e x.1 lead in
            let still = subst (λ t. Leads vs d.raft n t) term (leads_at vs q (acts ++ later) n u g_at y.on.is still_leads) in
            let s = fresh_acts vs acts later n conn v.raft.term fit st.up su.up l still (y.on.starts n starts) (y.on.comes n conn joins)
            (ap (λ (z : Gateway). is_busy (z.session conn)) st.sessions ∙ asks.free)
            (ap (λ (z : Gateway). (z.session conn).tx) st.sessions ∙ ap (option_map (shifted_tx st.lacks)) asks.outside)
            (ap (λ (z : Gateway). (z.session conn).barriers) st.sessions ∙ asks.barriers) in
            let one : k.more ≡ s.0 = sym (drop-append_seam w k.more) ∙ ap (drop (length w)) (sym k.said ∙ s.1) ∙ drop-append_seam w s.0 in
            let own = said_at n (spoken_in more) (newly vs acts later) in
            first_front (λ z. HasAll c.said z.query) (said_to conn own) (said_to conn k.own)
            (subst (FirstIs (λ z. HasAll c.said z.query)) (ap (said_to conn) k.mine ∙ said_to_append conn own k.own)
            (subst (λ l. FirstIs (λ z. HasAll c.said z.query) (said_to conn l)) (sym one) s.2));
        sees = λ n conn starts joins.
            let s = clusters_see_hold mean kind vs acts later n conn fit (y.on.starts n starts) (y.on.comes n conn joins) in
            let k = y.speaks n starts in
            let w = (c.lives n).said in
            let one : k.more ≡ s.more = sym (drop-append_seam w k.more) ∙ ap (drop (length w)) (sym k.said ∙ s.said) ∙ drop-append_seam w s.more in
            see_front conn (said_at n (spoken_in more) (newly vs acts later)) k.own (subst (SeeEarlier conn) (sym one ∙ k.mine) s.see);
        answers = λ n conn v u e g starts joins free is_open.
            let st = up_at mean kind vs r acts n v e x.1 in
            let g_at : q.places n ≡ Up u = ap (λ (z : Run). z.places n) (sym same) ∙ g in
            let su = up_at mean kind vs q (acts ++ later) n u g_at y.on.is in
            let none : is_busy ((c.lives n).gate.session conn) ≡ false = ap (λ (z : Gateway). is_busy (z.session conn)) st.sessions ∙ free in
            let still : IsOpen ((d.lives n).gate.session conn) = subst (λ (z : Gateway). IsOpen (z.session conn)) (sym su.sessions) (record { there = is_open.there; here = is_open.here }) in
            let s = clusters_answer_hold mean kind vs acts later n conn fit (y.on.starts n starts) (y.on.comes n conn joins) none still in
            let k = y.speaks n starts in
            let w = (c.lives n).said in
            let doings = all_doings n later in
            let to = s.1 in
            let one : k.more ≡ to.more = sym (drop-append_seam w k.more) ∙ ap (drop (length w)) (sym k.said ∙ ap (λ (z : Life). z.said) s.0 ∙ to.said) ∙ drop-append_seam w to.more in
            let asks : ArePartOf (map (λ (h : Handled). h.request) (handled_in conn (c.lives n) doings)) (v.waiting conn ++ asked n conn more) =
            part_trans (v.waiting conn ++ asked n conn more) (calls conn doings) (map (λ (h : Handled). h.request) (handled_in conn (c.lives n) doings)) (handled_called conn (c.lives n) doings)
            (subst (λ (z : Place). ArePartOf (calls conn doings) (waits z conn ++ asked n conn more)) e (part_less (calls conn doings) (waits (q.places n) conn) (waits (r.places n) conn ++ asked n conn more) (y.on.handles n conn))) in
            let own = said_at n (spoken_in more) (newly vs acts later) in
            let pairs = paired_front (said_to conn own) (said_to conn k.own) (handled_in conn (c.lives n) doings) to.owed
            (subst (λ l. ArePaired l (handled_in conn (c.lives n) doings) to.owed) (ap (said_to conn) (sym one ∙ k.mine)
            ∙ said_to_append conn own k.own) to.paired) in
            record { handled = handled_in conn (c.lives n) doings; asked_so = asks; owed_yet = pairs.0; paired = pairs.1 };
      }
