-- A small run, whose clauses all hold.
use Rattle.session_spec.specs.Sessions.{is_due}
use Rattle.std.proofs.Common.{false, ◌≡◌, ℕ, suc, true, List, [], ◌∷◌, ◌++◌, length, map, drop, refl, sym, ap, ◌∙◌, subst, arith}
use Rattle.std.specs.Prelude.{None, Ok}
use Rattle.std.specs.List.Sorted.{IsStrictlySortedBy}
use Rattle.std.proofs.lemmas.List.{drop_all, append-nil}
use Rattle.sql_engine.specs.declared.kind.EngineKind.{EngineKind}
use Rattle.sql_engine.specs.Meanings.{Meaning}
use Rattle.session_spec.specs.Machine.{files}
use Rattle.raft_spec.specs.Node.{Server, voters, peers, Input}
use Rattle.raft_spec.specs.Account.{Stored, loaded, steps, said}
use Rattle.raft_spec.specs.Compaction.{compacted_step}
use Rattle.raft_spec.specs.NodeValues.{node_of}
use Rattle.raft_safety.specs.Cuts.{AlikeInputs, Told}
use Rattle.raft_safety.specs.Members.{Setup, configuration, voters_after, member_step}
use Rattle.cluster_model.specs.Clusters.{booted, said_in, InTerm, StepFits}
use Rattle.store_laws.specs.Store.{Log}
use Rattle.node_spec.specs.Nodes.{Node, KeptIs, Stands}
use Rattle.node_spec.specs.Steps.{Taken, Counts, StepHolds, CompletesStart, told, ArePartOf}
use Rattle.cluster_safety.specs.Runs.{nothing_kept}
use Rattle.cluster_safety.specs.Examples.{lone, LoneRuns}
use Rattle.cluster_safety.proofs.Parts.{part_same}

-- what has stored nothing
abbrev blank : ℕ → Stored
blank applied = record { term = 0; vote = 0; log = []; snapshot = record { index = 0; term = 0 }; base = 0; applied = applied }

no_base : (x : Stored) → nothing_kept.log ≡ record { first = suc x.base; entries = drop x.base x.log } → 0 ≡ x.base
no_base x e = let n : 1 ≡ suc x.base = ap (λ (l : Log). l.first) e in omega arith

is_blank : (setup : Setup) (x : Stored) → KeptIs setup nothing_kept x → blank x.applied ≡ x
is_blank setup x k =
    let base = no_base x k.log in
    let log : [] ≡ x.log = ap (λ (l : Log). l.entries) k.log ∙ ap (λ b. drop b x.log) (sym base) in
    ap (λ t. record { term = t; vote = 0; log = []; snapshot = record { index = 0; term = 0 }; base = 0; applied = x.applied }) k.term
    ∙ ap (λ t. record { term = x.term; vote = t; log = []; snapshot = record { index = 0; term = 0 }; base = 0; applied = x.applied }) k.vote
    ∙ ap (λ t. record { term = x.term; vote = x.vote; log = t; snapshot = record { index = 0; term = 0 }; base = 0; applied = x.applied }) log
    ∙ ap (λ t. record { term = x.term; vote = x.vote; log = x.log; snapshot = record { index = t; term = 0 }; base = 0; applied = x.applied }) k.index
    ∙ ap (λ t. record { term = x.term; vote = x.vote; log = x.log; snapshot = record { index = x.snapshot.index; term = t }; base = 0; applied = x.applied }) k.snap_term
    ∙ ap (λ t. record { term = x.term; vote = x.vote; log = x.log; snapshot = x.snapshot; base = t; applied = x.applied }) base

lone_stands : (setup : Setup) (servers : List Server) (applied : ℕ) → peers servers 1 ≡ [] → Stands setup (lone setup.opening servers) (loaded true servers (blank applied)) (booted (loaded true servers (blank applied)))
unfolding files IsStrictlySortedBy
lone_stands setup servers applied none = record {
  twin = record { log = []; node = refl; same = record { len = refl; rest = refl; snapshot = refl } };
  raft = record { low = omega arith; applied = omega arith; within = omega arith; rows = sym none };
  up = refl;
  coherent = record { log = refl; applied = refl; term = refl; leads = refl };
  serving = refl;
  machine = record { in_order = tt; below = tt; apart = tt; marks = tt; numbers = tt };
  lacks = λ name. 0;
  since = λ name. 0;
  files = refl;
  sessions = refl;
  kept = record { term = refl; vote = refl; log = refl; index = refl; snap_term = refl; bytes = λ h. absurd (omega (arith, h)) };
}

lone_counts : (setup : Setup) (servers : List Server) (applied : ℕ) → voters servers ≡ voters_after setup [] → Counts setup (lone setup.opening servers) (loaded true servers (blank applied))
unfolding configuration
lone_counts setup servers applied same = record { told = same; members = record { within = omega arith; servers = refl; later = refl } }

pub lone_starts : (setup : Setup) (servers : List Server) → peers servers 1 ≡ [] → voters servers ≡ voters_after setup [] → CompletesStart setup nothing_kept (lone setup.opening servers) servers
lone_starts setup servers none same = (
  (λ x k cut.
      let e = is_blank setup x k in (
        subst (λ y. Stands setup (lone setup.opening servers) (loaded true servers y) (booted (loaded true servers y))) e (lone_stands setup servers x.applied none),
        subst (λ (y : Stored). Counts setup (lone setup.opening servers) (loaded true servers y)) e (lone_counts setup servers x.applied same),
      )),
  (λ conn. refl),
)

-- ---- nothing happens

no_inputs : (is : List Input) → AlikeInputs is [] → is ≡ []
no_inputs [] a = refl
no_inputs (i ∷ is) a = absurd (no a.0 a.1 a.2)
  where
    no : (j : Input) (rest : List Input) → [] ≡ j ∷ rest → ⊥
    no j rest e = cc

module _ (mean : Meaning) (kind : EngineKind) where
  pub still : (setup : Setup) (me : ℕ) (old : Node) (x : Taken) → x.inputs ≡ [] → x.joins ≡ None → ((conn : ℕ) → x.asks conn ≡ []) → ((conn : ℕ) → old.waiting conn ≡ []) → ((conn : ℕ) → is_due (old.sessions.session conn).later ≡ false) → StepHolds {E = ℕ} mean kind setup me old old old.kept x (Ok (record { letters = []; replies = []; jobs = []; answers = [] }))
  still setup me old x none joins asks idle run = record {
    tells = λ s w is st was t.
        let e = no_inputs is (subst (AlikeInputs is) none t.alike) in
        subst (Told setup me s) (sym e) tt;
    counts = λ s w is st was t told_so.
        let e = no_inputs is (subst (AlikeInputs is) none t.alike) in
        subst (λ (l : List Input). Counts setup old (steps (member_step setup me) s l)) (sym e) was;
    whole = λ s w is st t told_so reads served.
        let e = no_inputs is (subst (AlikeInputs is) none t.alike) in
        let quiet : said_in w [] ≡ [] = drop_all (length w.said) w.said (omega arith) in (
          [],
          subst (λ (l : List Input). StepFits mean kind setup me s l w []) (sym e) (record { weaves = tt; fits = tt; terms = subst (InTerm w) (sym quiet) tt; coherent = st.coherent }),
          subst (λ (l : List Input). Stands setup old (steps (member_step setup me) s l) w) (sym e) st,
          sym (ap (said (compacted_step me) (node_of old.raft)) none),
          sym (ap (map told) quiet),
          refl,
          refl,
          (λ conn j. tt),
          (λ conn. subst (λ l. ArePartOf (old.waiting conn) (old.waiting conn ++ l)) (sym (asks conn)) (subst (ArePartOf (old.waiting conn)) (sym (append-nil (old.waiting conn))) (part_same (old.waiting conn)))),
          (λ conn o j. record { all = sym (ap (λ l. old.waiting conn ++ l) (asks conn) ∙ append-nil (old.waiting conn)); handled = refl; waits = λ e. idle conn; run = run conn }),
        );
    sent = tt;
    failed = tt;
  }

  pub lone_runs_hold : LoneRuns mean kind
  lone_runs_hold setup servers none same =
      let s = lone_starts setup servers none same in (
        (nothing_kept, refl, s),
        ((lone setup.opening servers, [], refl, tt, still setup 1 (lone setup.opening servers) _ refl refl (λ conn. refl) (λ conn. refl) (λ conn. refl)), (tt, ((nothing_kept, refl, s), tt))),
      )
