-- What happens in a life by a step of Raft: its log is followed, or leadership is won.
use Rattle.std.proofs.Common.{◌≡◌, ◌≢◌, ◌⊎◌, ⊎_elim, ℕ, ◌≤◌, Bool, true, false, true≢false, List, [], ◌∷◌, ◌++◌, length, take, drop, refl, sym, ap, ◌∙◌, subst, arith, append-nil, take-append-drop}
use Rattle.std.proofs.lemmas.List.{take-append-le, take-take}
use Rattle.sql_engine.specs.declared.kind.EngineKind.{EngineKind}
use Rattle.sql_engine.specs.Meanings.{Meaning}
use Rattle.session_spec.specs.Entries.{Other, Entry as Line, entries_of}
use Rattle.session_spec.specs.Machine.{files}
use Rattle.session_spec.specs.Seen.{log_seen}
use Rattle.session_safety.specs.Nodes.{Node as Life, databases}
use Rattle.session_safety.specs.Life.{Event as Doing, Lead, Append, Follow, happens, run_from as lives_on}
use Rattle.session_safety.specs.Answering.{handled_in}
use Rattle.session_safety.specs.Lending.{lent_in, answers_in}
use Rattle.session_safety.specs.Laws.{NoneComes}
use Rattle.raft_spec.specs.Log.{Entry}
use Rattle.raft_spec.specs.Node.{Node, Input, Local, Propose, is_leader}
use Rattle.raft_spec.specs.Outcomes.{barrier}
use Rattle.raft_safety.specs.Laws.{SameUpTo}
use Rattle.raft_safety.specs.Members.{Setup, member_step}
use Rattle.raft_safety.specs.Sources.{Adds, nothing_new, a_barrier, proposed}
use Rattle.raft_safety.proofs.Origins.{leaders_add_hold}
use Rattle.cluster_model.specs.Clusters.{AllFitIn, step_logs}
use Rattle.cluster_model.proofs.Lines.{size_of, seen_append, seen_agree}
use Rattle.node_spec.specs.Steps.{calls}

-- A life continues up to this log, term and leadership, by events in which nobody comes, nothing is asked, nothing is said and no entry is
-- applied.
pub record Led (m : Meaning) (kind : EngineKind) (logs : ℕ → List Line) (w : Life) (log : List Line) (term : ℕ) (leads : Bool) : Type 0 where
  pub life : List Doing
  pub fits : AllFitIn m kind logs w life
  pub log_is : (lives_on w life).log ≡ log
  pub applied : (lives_on w life).applied ≡ w.applied
  pub term_is : (lives_on w life).term ≡ term
  pub leads_is : (lives_on w life).leads ≡ leads
  pub serving : (lives_on w life).serving ≡ w.serving
  pub gate : (lives_on w life).gate ≡ w.gate
  pub trail : (lives_on w life).trail ≡ w.trail
  pub said : (lives_on w life).said ≡ w.said
  pub files_are : databases (lives_on w life) ≡ databases w
  pub none : (conn : ℕ) → NoneComes conn life
  pub calls_none : (conn : ℕ) → calls conn life ≡ []
  pub handled : (conn : ℕ) → handled_in conn w life ≡ []
  pub lends : lent_in w life ≡ []
  pub uses : answers_in w life ≡ []

module _ (m : Meaning) (kind : EngineKind) (logs : ℕ → List Line) where
  -- it stays as it is
  stands_still : (w : Life) → Led m kind logs w w.log w.term w.leads
  stands_still w = record {
    life = [];
    fits = tt;
    log_is = refl;
    applied = refl;
    term_is = refl;
    leads_is = refl;
    serving = refl;
    gate = refl;
    trail = refl;
    said = refl;
    files_are = refl;
    none = λ conn. tt;
    calls_none = λ conn. refl;
    handled = λ conn. refl;
    lends = refl;
    uses = refl;
  }

  -- who doesn't lead follows a log with the front that is applied
  follows_on : (w : Life) (log : List Line) (k : ℕ) → w.leads ≡ false → logs k ≡ log → take w.applied w.log ≡ take w.applied log → Led m kind logs w log w.term false
  unfolding happens
  follows_on w log k down at front =
      let es = drop w.applied log in
      let whole : take w.applied w.log ++ es ≡ log = ap (λ (l : List Line). l ++ es) front ∙ take-append-drop w.applied log in
      record {
        life = Follow es ∷ [];
        fits = ((down, k, [], at ∙ sym whole ∙ sym (append-nil (take w.applied w.log ++ es))), tt);
        log_is = whole;
        applied = refl;
        term_is = refl;
        leads_is = down;
        serving = refl;
        gate = refl;
        trail = refl;
        said = refl;
        files_are = ap (λ (l : List Line). files (take w.applied l)) whole ∙ ap files (sym front);
        none = λ conn. ((λ q. cc), tt);
        calls_none = λ conn. refl;
        handled = λ conn. refl;
        lends = refl;
        uses = refl;
      }

  -- leadership is won in the term
  wins : (w : Life) → w.leads ≡ false → w.serving ≡ false → Led m kind logs w w.log w.term true
  unfolding happens
  wins w down idle = record {
    life = Lead w.term ∷ [];
    fits = ((down, (omega arith)), tt);
    log_is = refl;
    applied = refl;
    term_is = refl;
    leads_is = refl;
    serving = sym idle;
    gate = refl;
    trail = refl;
    said = refl;
    files_are = refl;
    none = λ conn. ((λ q. cc), tt);
    calls_none = λ conn. refl;
    handled = λ conn. refl;
    lends = refl;
    uses = refl;
  }

  -- a leader's barrier
  appends_barrier : (w : Life) → w.leads ≡ true → w.applied ≤ length w.log → Led m kind logs w (w.log ++ entries_of w.term (Other ∷ [])) w.term true
  unfolding happens
  appends_barrier w up short = record {
    life = Append (Other ∷ []) ∷ [];
    fits = ((up, (tt, tt)), tt);
    log_is = refl;
    applied = refl;
    term_is = refl;
    leads_is = up;
    serving = refl;
    gate = refl;
    trail = refl;
    said = refl;
    files_are = ap files (take-append-le w.applied w.log (entries_of w.term (Other ∷ [])) short);
    none = λ conn. ((λ q. cc), tt);
    calls_none = λ conn. refl;
    handled = λ conn. refl;
    lends = refl;
    uses = refl;
  }

  -- and that of one who wins
  wins_with_barrier : (w : Life) → w.leads ≡ false → w.serving ≡ false → w.applied ≤ length w.log → Led m kind logs w (w.log ++ entries_of w.term (Other ∷ [])) w.term true
  unfolding happens
  wins_with_barrier w down idle short = record {
    life = Lead w.term ∷ Append (Other ∷ []) ∷ [];
    fits = ((down, (omega arith)), ((refl, (tt, tt)), tt));
    log_is = refl;
    applied = refl;
    term_is = refl;
    leads_is = refl;
    serving = sym idle;
    gate = refl;
    trail = refl;
    said = refl;
    files_are = ap files (take-append-le w.applied w.log (entries_of w.term (Other ∷ [])) short);
    none = λ conn. ((λ q. cc), ((λ q. cc), tt));
    calls_none = λ conn. refl;
    handled = λ conn. refl;
    lends = refl;
    uses = refl;
  }

-- the log of a leader with its barrier
barrier_seen : (log : List Entry) (term other : ℕ) → other ≡ term → log_seen (log ++ barrier term ∷ []) ≡ log_seen log ++ entries_of other (Other ∷ [])
barrier_seen log term other e = seen_append log (barrier term ∷ []) ∙ ap (λ (n : ℕ). log_seen log ++ entries_of n (Other ∷ [])) (sym e)

-- a leader before and after a step, or one that didn't lead
pub record IsReady (w : Life) (t : Node) : Type 0 where
  pub term : w.term ≡ t.term
  pub office : ((w.leads ≡ true) × (is_leader t.role ≡ true)) ⊎ ((w.leads ≡ false) × (w.serving ≡ false))

-- what happens in a life, once the term is that of the node after the step
pub goes_with : (m : Meaning) (kind : EngineKind) (vs : Setup) (me : ℕ) (s : Node) (j : Input) (w : Life) →
    let t = (member_step vs me s j).node in IsReady w t → w.log ≡ log_seen s.log → w.applied ≤ s.commit → SameUpTo s.commit s.log t.log → s.snapshot.index ≤ s.commit →
    ((es : List Entry) → j ≢ Local (Propose es)) → Led m kind (step_logs vs me s (j ∷ [])) w (log_seen t.log) t.term (is_leader t.role)
goes_with m kind vs me s j w ready log low same snap other = by_role (is_leader t.role) refl
  where
    t : Node
    t = (member_step vs me s j).node

    logs : ℕ → List Line
    logs = step_logs vs me s (j ∷ [])

    short : w.applied ≤ length w.log
    short =
        let size : length w.log ≡ length s.log = ap length log ∙ size_of s.log in
        let long : s.commit ≤ length s.log = same.0 in
        omega (arith, size, long, low)

    front : take w.applied w.log ≡ take w.applied (log_seen t.log)
    front =
        ap (take w.applied) log ∙ sym (take-take w.applied s.commit (log_seen s.log) low) ∙ ap (take w.applied) (seen_agree s.commit s.log t.log same.2) ∙ take-take w.applied s.commit (log_seen t.log) low

    led_at : {lines : List Line} {leads : Bool} → lines ≡ log_seen t.log → Led m kind logs w lines w.term leads → Led m kind logs w (log_seen t.log) t.term leads
    led_at {lines} {leads} e x = subst (λ (n : ℕ). Led m kind logs w (log_seen t.log) n leads) ready.term (subst (λ (l : List Line). Led m kind logs w l w.term leads) e x)

    leading : Adds s j t → is_leader t.role ≡ true → Led m kind logs w (log_seen t.log) t.term true
    leading (nothing_new e) up = ⊎_elim
        (λ (x : (w.leads ≡ true) × (is_leader t.role ≡ true)). subst (λ (b : Bool). Led m kind logs w (log_seen t.log) t.term b) x.0 (led_at (log ∙ ap log_seen (sym e)) (stands_still m kind logs w)))
        (λ (x : (w.leads ≡ false) × (w.serving ≡ false)). led_at (log ∙ ap log_seen (sym e)) (wins m kind logs w x.0 x.1))
        ready.office
    leading (a_barrier e) up =
        let more : w.log ++ entries_of w.term (Other ∷ []) ≡ log_seen t.log = ap (λ (l : List Line). l ++ entries_of w.term (Other ∷ [])) log ∙ sym (barrier_seen s.log t.term w.term ready.term) ∙ ap log_seen (sym e) in
        ⊎_elim
        (λ (x : (w.leads ≡ true) × (is_leader t.role ≡ true)). led_at more (appends_barrier m kind logs w x.0 short))
        (λ (x : (w.leads ≡ false) × (w.serving ≡ false)). led_at more (wins_with_barrier m kind logs w x.0 x.1 short))
        ready.office
    leading (proposed new e leads term log_is) up = absurd (other new e)

    by_role : (b : Bool) → is_leader t.role ≡ b → Led m kind logs w (log_seen t.log) t.term (is_leader t.role)
    by_role true up =
        let long : s.commit ≤ length s.log = same.0 in
        subst (λ (b : Bool). Led m kind logs w (log_seen t.log) t.term b) (sym up) (leading (leaders_add_hold vs me s j (omega (arith, snap, long)) up) up)
    by_role false down = subst (λ (b : Bool). Led m kind logs w (log_seen t.log) t.term b) (sym down) (⊎_elim
        (λ (x : (w.leads ≡ true) × (is_leader t.role ≡ true)). absurd (true≢false (sym x.1 ∙ down)))
        (λ (x : (w.leads ≡ false) × (w.serving ≡ false)). led_at refl (follows_on m kind logs w (log_seen t.log) 1 x.0 refl front))
        ready.office)
