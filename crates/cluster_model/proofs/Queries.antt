-- A barrier query has every commit that was answered before it was taken.
use Rattle.std.proofs.Common.{◌≡◌, ℕ, List, [], ◌∷◌, ◌++◌, refl, sym, ap, ◌∙◌, subst, arith, append_assoc}
use Rattle.std.specs.Prelude.{Option, Some}
use Rattle.sql_engine.specs.declared.answer.StatementResult.{StatementResult}
use Rattle.sql_engine.specs.declared.kind.EngineKind.{EngineKind}
use Rattle.sql_engine.specs.Meanings.{Meaning}
use Rattle.sql_engine.specs.Replies.{Statement}
use Rattle.session_spec.specs.Engines.{Answer}
use Rattle.session_spec.specs.Sessions.{Later, Due, later_query, Session, Rows, Outside, Answers}
use Rattle.session_safety.specs.Nodes.{Query, Said, Standing, Node as Life}
use Rattle.session_safety.specs.Life.{Event as Doing, Resume, undue, outcome_later, resumed_by, resumed, AllFit, called, happens as goes_on, run_from as lives_on}
use Rattle.session_safety.proofs.Lives.{run_ok}
use Rattle.raft_safety.specs.Members.{Setup}
use Rattle.raft_safety.specs.Laws.{node_at}
use Rattle.cluster_model.specs.Clusters.{Cluster, Act, Moves, event_of, acted, first_cluster, cluster_from, cluster, ActsFit}
use Rattle.cluster_model.specs.Laws.{AllBelow, BarrierQueries}
use Rattle.cluster_model.proofs.Clusters.{cluster_ok, cluster_join, move_fit, move_applied, applied_run, raft_of, fit_parts}
use Rattle.cluster_model.proofs.Laters.{barriers_read_hold}

pub lives_join : (xs ys : List Doing) (w : Life) → lives_on w (xs ++ ys) ≡ lives_on (lives_on w xs) ys
lives_join [] ys w = refl
lives_join (x ∷ xs) ys w = lives_join xs ys (goes_on w x)

-- the cluster with one act more
pub with_act : (vs : Setup) (acts more : List Act) (a : Act) → cluster vs (acts ++ (more ++ a ∷ [])) ≡ acted vs (cluster vs (acts ++ more)) a
unfolding cluster
with_act vs acts more a =
    cluster_join vs acts (more ++ a ∷ []) first_cluster
    ∙ cluster_join vs more (a ∷ []) (cluster_from vs first_cluster acts)
    ∙ ap (λ c. acted vs c a) (sym (cluster_join vs acts more first_cluster))

-- what is said of an answered query
called_says : (w : Life) (conn : ℕ) (answer : StatementResult) (left : Session) (name : List ℕ) (ss : List Statement) → (x : Said) × (q : Query) × ((called w conn (Answers left (Rows answer) (Outside name ss))).said ≡ w.said ++ x ∷ []) × (x.reply ≡ Rows answer) × (x.query ≡ Some q) × (q.at ≡ w.applied)
called_says w conn answer left name ss = (_, _, refl, refl, refl, refl)

due_says : (w : Life) (conn : ℕ) (standing : Standing) (s : Statement) (answers : List Answer) → (w.gate.session conn).later ≡ Some (Due s) → goes_on w (Resume conn standing answers) ≡ resumed_by w conn (outcome_later w conn standing s answers)
unfolding goes_on
due_says w conn standing s answers is = ap (λ (d : Option Later). resumed w conn standing answers (later_query d)) is

module _ (mean : Meaning) (kind : EngineKind) where
  pub front_fit : (xs ys : List Doing) (w : Life) → AllFit mean kind w (xs ++ ys) → AllFit mean kind w xs
  front_fit [] ys w h = tt
  front_fit (x ∷ xs) ys w h = (h.0, front_fit xs ys (goes_on w x) h.1)

  pub back_fit : (xs ys : List Doing) (w : Life) → AllFit mean kind w (xs ++ ys) → AllFit mean kind (lives_on w xs) ys
  back_fit [] ys w h = h
  back_fit (x ∷ xs) ys w h = back_fit xs ys (goes_on w x) h.1

  pub last_fits : (vs : Setup) (acts more : List Act) (a : Act) → ActsFit mean kind vs first_cluster (acts ++ (more ++ a ∷ [])) → ActsFit mean kind vs (cluster vs (acts ++ more)) (a ∷ [])
  unfolding cluster
  last_fits vs acts more a h =
      subst (λ c. ActsFit mean kind vs c (a ∷ [])) (sym (cluster_join vs acts more first_cluster))
      (fit_parts mean kind vs more (a ∷ []) (cluster_from vs first_cluster acts) (fit_parts mean kind vs acts (more ++ a ∷ []) first_cluster h).1).1

  pub fits_join : (vs : Setup) (acts more : List Act) (a : Act) → ActsFit mean kind vs first_cluster (acts ++ (more ++ a ∷ [])) → ActsFit mean kind vs first_cluster (acts ++ more)
  fits_join vs acts more a h =
      (fit_parts mean kind vs (acts ++ more) (a ∷ []) first_cluster (subst (ActsFit mean kind vs first_cluster) (sym (append_assoc acts more (a ∷ []))) h)).0

  pub barrier_queries_hold : BarrierQueries mean kind
  barrier_queries_hold vs acts more n t cs places before after conn standing s answers answer left name ss h l k past due is =
      let d = cluster vs (acts ++ more) in
      let ls = before ++ Resume conn standing answers ∷ after in
      let last = Moves n cs places ls in
      let all = acts ++ (more ++ last ∷ []) in
      let ok = cluster_ok mean kind vs (acts ++ more) (fits_join vs acts more last h) in
      let fits = (last_fits vs acts more last h).0 in
      let w = lives_on (d.lives n) before in
      let fit = move_fit mean kind vs d n cs places ls ok fits in
      let life = run_ok mean kind (d.lives n) before (front_fit before (Resume conn standing answers ∷ after) (d.lives n) fit) (ok.lives n) in
      let up = applied_run mean kind w (Resume conn standing answers ∷ after) (back_fit before (Resume conn standing answers ∷ after) (d.lives n) fit) life in
      let whole = ap (λ (x : Life). x.applied) (lives_join before (Resume conn standing answers ∷ after) (d.lives n)) in
      let commit = move_applied mean kind vs d n cs places ls fits in
      let raft : (cluster vs all).raft ≡ d.raft ++ event_of last ∷ [] = ap (λ (x : Cluster). x.raft) (with_act vs acts more last) ∙ raft_of vs d last in
      let same = ap (λ es. (node_at vs es n).commit) raft in
      let below : AllBelow w.applied (cluster vs acts).said = barriers_read_hold mean kind vs acts (more ++ last ∷ []) n t w.applied h l k past (omega arith) in
      let x = called_says (undue w conn) conn answer left name ss in
      (x.0, x.1, ap (λ (v : Life). v.said) (due_says w conn standing s answers due ∙ ap (resumed_by w conn) is) ∙ x.2, x.3, x.4, subst (λ a. AllBelow a (cluster vs acts).said) (sym x.5) below)
