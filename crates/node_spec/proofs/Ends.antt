-- What happened up to a moment is what an event has to show that ends there, or that is stopped there or in the next step.
use Rattle.std.proofs.Common.{◌≡◌, ◌⊎◌, inl, inr, ⊎_elim, ℕ, ◌≤◌, List, [], ◌∷◌, ◌++◌, length, take, drop, refl, sym, ap, ◌∙◌, subst, arith, append-nil, length-append}
use Rattle.std.specs.Prelude.{map, min, ◌+◌, Option}
use Rattle.std.proofs.lemmas.List.{take_all, take-append-le, take-take}
use Rattle.std.proofs.Math.Seq.{drop-append_seam}
use Rattle.sql_engine.specs.declared.kind.EngineKind.{EngineKind}
use Rattle.sql_engine.specs.Meanings.{Meaning}
use Rattle.session_spec.specs.Seen.{log_seen}
use Rattle.session_spec.specs.Sessions.{Reply}
use Rattle.session_safety.specs.Nodes.{Said, Node as Life}
use Rattle.session_safety.specs.Life.{Event as Doing, run_from as lives_on}
use Rattle.raft_spec.specs.Log.{Entry}
use Rattle.raft_spec.specs.Node.{Node, Input}
use Rattle.raft_spec.specs.Outcomes.{with_term}
use Rattle.raft_spec.specs.Account.{Stored, stored_of, older, applied_to, enacted, steps, account}
use Rattle.raft_safety.specs.Members.{Setup, member_step}
use Rattle.raft_safety.specs.Cuts.{AlikeInputs, Told}
use Rattle.raft_safety.specs.Stages.{past}
use Rattle.raft_safety.proofs.Steps.{whole_account_holds, stops_before_holds, stops_at_meta_holds, stops_at_log_holds}
use Rattle.store_laws.specs.Store.{Kept}
use Rattle.cluster_model.specs.Clusters.{AllFitIn, InTerm, Ended, said_in, step_logs, stands_after, StopFits}
use Rattle.cluster_model.proofs.Lines.{seen_take}
use Rattle.node_spec.specs.Nodes as rules
use Rattle.node_spec.specs.Nodes.{KeptIs, Stands}
use Rattle.node_spec.specs.Steps.{TakesIn, told, calls, ArePartOf}
use Rattle.node_spec.specs.Accounts.{Moment, resting, with_due, StandsAt, Piece, no_piece, taken_by, GoesToEnd, StopsBetween, read_by, LeftBetween, StopsWithin}
use Rattle.node_spec.proofs.Stretches.{halves, keep_join, fits_join, part_before, part_of_part, part_none, tail_is}

-- a node at rest represents at this moment what it represents
pub begun : (vs : Setup) (n : rules.Node) (s : Node) (w : Life) → Stands vs n s w → StandsAt vs (resting n) s w
begun vs n s w x =
    let commit : n.raft.commit ≡ s.commit = ap (λ (z : Node). z.commit) x.twin.node in
    record {
      twin = x.twin;
      raft = x.raft;
      up = x.up;
      log = x.coherent.log;
      weaves = tt;
      applied = x.coherent.applied ∙ sym commit;
      within = omega (arith, commit);
      term = x.coherent.term;
      leads = x.coherent.leads;
      serving = x.serving;
      machine = x.machine;
      lacks = x.lacks;
      since = x.since;
      files = x.files;
      sessions = x.sessions;
      kept = x.kept;
    }

-- and so the other way, if all is applied and nothing is left to propose
ended : (vs : Setup) (b : Moment) (s : Node) (w : Life) → b.applied ≡ b.node.raft.commit → b.due ≡ [] → StandsAt vs b s w → Stands vs b.node s w
ended vs b s w applied due x =
    let commit : b.node.raft.commit ≡ s.commit = ap (λ (z : Node). z.commit) x.twin.node in
    record {
      twin = x.twin;
      raft = x.raft;
      up = x.up;
      coherent = record {
        log = x.log ∙ ap (λ l. log_seen (with_due s.term s.log l)) due;
        applied = x.applied ∙ applied ∙ commit;
        term = x.term;
        leads = x.leads;
      };
      serving = x.serving;
      machine = x.machine;
      lacks = x.lacks;
      since = x.since;
      files = x.files;
      sessions = x.sessions;
      kept = x.kept;
    }

-- what is said in a life is what it said more
said_more : (w : Life) (life : List Doing) (more : List Said) → (lives_on w life).said ≡ w.said ++ more → said_in w life ≡ more
said_more w life more e = ap (drop (length w.said)) e ∙ drop-append_seam w.said more

-- what a reader answers is no input of Raft's
plain : {vs : Setup} {n : ℕ} {old : rules.Node} {s : Node} {is : List Input} {bytes : List ℕ} {joins : Option ℕ} {read : Option (ℕ × Reply)} (p : Piece) → TakesIn vs n old s is (read_by bytes joins read p) → TakesIn vs n old s is (taken_by bytes joins p)
plain p t = record { alike = t.alike; front = t.front; kept = t.kept; fronts = t.fronts; twins = t.twins }

pub goes_to_end_holds : (m : Meaning) (kind : EngineKind) → GoesToEnd m kind
goes_to_end_holds m kind vs n bytes joins read old b p x end s w is stands takes told_so reads served =
    let r = x.lives s w is (begun vs old s w stands) (plain p takes) told_so reads in
    let news = said_more w r.life r.said r.says in
    let at = ended vs b _ (lives_on w r.life) end.applied end.due r.stands in (
      r.life,
      record { weaves = r.weaves; fits = r.fits; terms = subst (InTerm (lives_on w r.life)) (sym news) (r.terms served); coherent = at.coherent },
      at,
      x.letters,
      r.replies ∙ ap (map told) (sym news),
      r.lends,
      r.uses,
      r.joined,
      r.handles,
      λ conn o other. let k = r.completes conn o other in record { all = k.all; handled = k.handled; waits = end.waits conn o; run = end.run conn o },
    )

-- ---- stops

kept_still : (vs : Setup) (kept : Kept) (x : Stored) (base applied : ℕ) → KeptIs vs kept (older base x) → KeptIs vs kept (older base (applied_to applied x))
kept_still vs kept x base applied k = record { term = k.term; vote = k.vote; log = k.log; index = k.index; snap_term = k.snap_term; bytes = k.bytes }

kept_same : (vs : Setup) (kept : Kept) (x : Stored) → KeptIs vs kept x → KeptIs vs kept (older x.base x)
kept_same vs kept x k = subst (λ b. KeptIs vs kept (record x { base = b })) (sym same) (record { term = k.term; vote = k.vote; log = k.log; index = k.index; snap_term = k.snap_term; bytes = k.bytes })
  where
    same : min x.base x.base ≡ x.base
    same = omega arith

-- what is left of requests that wait is dropped
dropped : (c left was : _) → ArePartOf (c ++ left) was → ArePartOf (c ++ []) was
dropped c left was h = part_of_part (c ++ []) (c ++ left) was (part_before c [] left (part_none left)) h

-- what is due follows the log
pub before_due : (term : ℕ) (log : List Entry) (due : List (List Entry)) (k : ℕ) → k ≤ length log → take k (with_due term log due) ≡ take k log
before_due term log [] k h = refl
before_due term log (es ∷ due) k h =
    let longer = length-append log (with_term term es) in
    before_due term (log ++ with_term term es) due k (omega (arith, h, longer)) ∙ take-append-le k log (with_term term es) h

-- the life has applied the front of a log that agrees up to the commit index
ended_at : (vs : Setup) (b : Moment) (s : Node) (w : Life) (x : Stored) → StandsAt vs b s w → s.commit ≤ length s.log → x.applied ≡ s.commit → take s.commit x.log ≡ take s.commit s.log → Ended w (applied_to b.applied x)
ended_at vs b s w x stands long applied same =
    let low : b.applied ≤ s.commit = stands.within in
    let all : min b.applied x.applied ≡ b.applied = omega (arith, low, applied) in
    let short : take b.applied x.log ≡ take b.applied s.log = sym (cut x.log) ∙ ap (take b.applied) same ∙ cut s.log in
    record {
      applied = stands.applied ∙ sym all;
      front = ap (λ k. take k w.log) stands.applied ∙ ap (take b.applied) stands.log ∙ seen_take b.applied (with_due s.term s.log b.due) ∙ ap log_seen (before_due s.term s.log b.due b.applied (omega (arith, low, long)) ∙ sym short) ∙ ap (λ k. log_seen (take k x.log)) (sym all);
    }
  where
    cut : (l : List Entry) → take b.applied (take s.commit l) ≡ take b.applied l
    cut l = take-take b.applied s.commit l stands.within

pub stops_between_holds : (m : Meaning) (kind : EngineKind) → StopsBetween m kind
stops_between_holds m kind vs n bytes joins read old b p x s w is stands takes told_so reads =
    let r = x.lives s w is (begun vs old s w stands) (plain p takes) told_so reads in
    let t = steps (member_step vs n) s is in
    let acts = account (member_step vs n) s is in
    let all : enacted (stored_of s) (take (length acts) acts) ≡ stored_of t = ap (enacted (stored_of s)) (take_all (length acts) acts (omega arith)) ∙ whole_account_holds vs n s is in
    let k = takes.kept (length is) in
    let whole : take (length is) is ≡ is = take_all (length is) is (omega arith) in
    let long : t.commit ≤ length t.log = subst (λ l. (steps (member_step vs n) s l).commit ≤ length (steps (member_step vs n) s l).log) whole k.1.0 in (
      length acts,
      b.applied,
      t.base,
      r.life,
      subst (λ y. KeptIs vs b.node.kept (older t.base (applied_to b.applied y))) (sym all) (kept_still vs b.node.kept (stored_of t) t.base b.applied (kept_same vs b.node.kept (stored_of t) r.stands.kept)),
      record {
        weaves = r.weaves;
        fits = r.fits;
        ended = subst (λ y. Ended (lives_on w r.life) (applied_to b.applied y)) (sym all) (ended_at vs b t (lives_on w r.life) (stored_of t) r.stands long refl refl);
      },
      r.joined,
      λ conn. dropped (calls conn r.life) (b.node.waiting conn) _ (r.handles conn),
    )

-- after which of the step's acts it stands
record Left (vs : Setup) (n : ℕ) (kept : Kept) (s t : Node) (first : List Input) (j : Input) : Type 0 where
  acts : ℕ
  base : ℕ
  stored : Stored
  is : past vs n s first (j ∷ []) acts ≡ stored
  keeps : KeptIs vs kept (older base stored)
  applied : stored.applied ≡ (steps (member_step vs n) s first).commit
  log : (stored.log ≡ (steps (member_step vs n) s first).log) ⊎ (stored.log ≡ t.log)

left_at : (vs : Setup) (n : ℕ) (kept : Kept) (s : Node) (first : List Input) (j : Input) → LeftBetween vs kept (steps (member_step vs n) s first) (member_step vs n (steps (member_step vs n) s first) j).node → Left vs n kept s (member_step vs n (steps (member_step vs n) s first) j).node first j
left_at vs n kept s first j (base, inl k) = record { acts = 0; base = base; stored = stored_of (steps (member_step vs n) s first); is = stops_before_holds vs n s first (j ∷ []); keeps = k; applied = refl; log = inl refl }
left_at vs n kept s first j (base, inr (inl k)) = record {
  acts = 1;
  base = base;
  stored = record (stored_of (steps (member_step vs n) s first)) { term = (member_step vs n (steps (member_step vs n) s first) j).node.term; vote = (member_step vs n (steps (member_step vs n) s first) j).node.vote };
  is = stops_at_meta_holds vs n s first j [];
  keeps = k;
  applied = refl;
  log = inl refl;
}
left_at vs n kept s first j (base, inr (inr k)) = record {
  acts = 2;
  base = base;
  stored = record (stored_of (member_step vs n (steps (member_step vs n) s first) j).node) { applied = (steps (member_step vs n) s first).commit };
  is = stops_at_log_holds vs n s first j [];
  keeps = record { term = k.term; vote = k.vote; log = k.log; index = k.index; snap_term = k.snap_term; bytes = k.bytes };
  applied = refl;
  log = inr refl;
}

-- one input alone
only : (i : Input) (js : List Input) → AlikeInputs js (i ∷ []) → (j : Input) × (js ≡ j ∷ [])
only i [] a = absurd cc
only i (j ∷ js) a = (j, ap (λ l. j ∷ l) (none js (subst (AlikeInputs js) (sym (tail_is i a.0 [] a.1 a.2)) a.4)))
  where
    none : (l : List Input) → AlikeInputs l [] → l ≡ []
    none [] e = refl
    none (x ∷ l) e = absurd cc

pub stops_within_holds : (m : Meaning) (kind : EngineKind) → StopsWithin m kind
stops_within_holds m kind vs n bytes joins read old b p i kept x left s w is stands takes told_so reads =
    let q : Piece = record no_piece { inputs = i ∷ [] } in
    let h = halves vs n bytes joins old s is p q (record { alike = takes.alike; front = takes.front; kept = takes.kept; fronts = takes.fronts; twins = takes.twins }) told_so in
    let o = only i h.cut.rest h.cut.rest_alike in
    let first = h.cut.first in
    let j = o.0 in
    let whole : is ≡ first ++ j ∷ [] = h.cut.whole ∙ ap (λ l. first ++ l) o.1 in
    let r = x.lives s w first (begun vs old s w stands) h.first h.told reads in
    let t = steps (member_step vs n) s first in
    let in_rest = subst (λ l. TakesIn vs n b.node t l (taken_by bytes joins q)) o.1 (h.rest b.node x.made) in
    let d = left t (lives_on w r.life) j r.stands in_rest (subst (Told vs n t) o.1 h.rest_told) in
    let l = left_at vs n kept s first j d.1 in
    let k = in_rest.kept 0 in
    let stood : stands_after vs n s (first ++ j ∷ []) (length (account (member_step vs n) s first) + l.acts) b.applied ≡ applied_to b.applied l.stored = ap (applied_to b.applied) l.is in
    let same : take t.commit l.stored.log ≡ take t.commit t.log = ⊎_elim (λ e. ap (take t.commit) e) (λ e. ap (take t.commit) e ∙ sym k.1.2) l.log in (
      length (account (member_step vs n) s first) + l.acts,
      b.applied,
      l.base,
      r.life,
      subst (λ js. KeptIs vs kept (older l.base (stands_after vs n s js (length (account (member_step vs n) s first) + l.acts) b.applied))) (sym whole) (subst (λ y. KeptIs vs kept (older l.base y)) (sym stood) (kept_still vs kept l.stored l.base b.applied l.keeps)),
      subst (λ js. StopFits m kind vs n s js (length (account (member_step vs n) s first) + l.acts) b.applied w r.life) (sym whole) (record {
        weaves = keep_join vs n s first (j ∷ []) r.weaves (d.0, tt);
        fits = subst (AllFitIn m kind (step_logs vs n s (first ++ j ∷ [])) w) (append-nil r.life) (fits_join m kind vs n s first (j ∷ []) w r.life [] r.fits tt);
        ended = subst (Ended (lives_on w r.life)) (sym stood) (ended_at vs b t (lives_on w r.life) l.stored r.stands k.1.0 l.applied same);
      }),
      r.joined,
      λ conn. dropped (calls conn r.life) (b.node.waiting conn) _ (r.handles conn),
    )
