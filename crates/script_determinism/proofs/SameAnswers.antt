-- What comes of a query that is run later is the same by any answers of cells; and so are the answers to it, and to a request.
use Rattle.std.proofs.Common.{◌≡◌, ℕ, suc, Bool, true, false, List, [], ◌∷◌, length, map, Ok, Err, Option, Some, None, inl, inr, arith, refl, sym, ap, ◌∙◌, subst}
use Rattle.std.specs.List.{AllByRecursion}
use Rattle.std.proofs.lemmas.Bool.{cases_Bool, cond-true, cond-false}
use Rattle.dq_base.specs.declared.images.Image.{Image}
use Rattle.wire_msgs.specs.declared.request.Request.{Request}
use Rattle.sql_engine.specs.declared.answer.StatementResult.{StatementResult}
use Rattle.sql_engine.specs.declared.kind.EngineKind.TheVariants.{Cells}
use Rattle.sql_engine.specs.Replies.{Statement}
use Rattle.sql_engine.specs.Cells.{cells}
use Rattle.database_state.specs.Files.{image_after}
use Rattle.session_spec.specs.Causes.{NotLeader}
use Rattle.session_spec.specs.Machine.{Machine}
use Rattle.session_spec.specs.Engines.{Answer, Handed, Lacking, TooLarge, takes, no_answer, runs, used, used_for, AllowsAll, AllowsFor}
use Rattle.session_spec.specs.Sessions.{Transaction, Session, Gateway, View, Refused}
use Rattle.session_spec.specs.Asking.{Asked, Never, Tells, Sets, Opens, Creates, Prepares, Drops, Forgets, Begins, Commits, RollsBack, Changes, Runs, Reads, asked}
use Rattle.session_spec.specs.Requests.{run_in, read_in, waits_first, barrier_first, does, on_request, on_later, ground, handed_over, handed_for, handed, handed_later}
use Rattle.session_safety.specs.Alone.{lacks}
use Rattle.node_core.specs.Plain.{plain_ran}
use Rattle.script_determinism.specs.CoreSteps.{IsAmple, plain_answer}
use Rattle.script_determinism.proofs.CellAnswers.{answer_same, rest_of}
use Rattle.script_determinism.proofs.SameRequests.{outside_lacks, inside_lacks, read_lacks, run_same}
use Rattle.script_determinism.proofs.PlainAsking.{plain_turned}

-- ---- what comes of a query that is run later

pub later_same : (v : View) (m : Machine) (g : Gateway) (conn : ℕ) (q : Statement) (a b : List Answer)
    → AllowsFor cells Cells (handed_later v m g conn q) a → AllowsFor cells Cells (handed_later v m g conn q) b → AllByRecursion IsAmple a → AllByRecursion IsAmple b
    → lacks (on_later v m g conn q a) ≡ false → lacks (on_later v m g conn q b) ≡ false → plain_turned (on_later v m g conn q a) ≡ plain_turned (on_later v m g conn q b)
unfolding on_later handed_later
later_same v m g conn q a b p r n k x y =
    let s = g.session conn in
    elim (cases_Bool v.serving) [
      | inl on ↦
          let over = cond-true v.serving (handed_over (ground m s s.tx) (q ∷ [])) None on in
          let one = cond-true v.serving (run_in v m g conn s s.tx (q ∷ []) true a) (Refused NotLeader) on in
          let other = cond-true v.serving (run_in v m g conn s s.tx (q ∷ []) true b) (Refused NotLeader) on in
          ap plain_turned one
          ∙ run_same v m g conn a b s s.tx (q ∷ []) true (subst (λ (o : Option Handed). AllowsFor cells Cells o a) over p) (subst (λ (o : Option Handed). AllowsFor cells Cells o b) over r) n k (sym (ap lacks one) ∙ x) (sym (ap lacks other) ∙ y)
          ∙ sym (ap plain_turned other)
      | inr off ↦ ap plain_turned (cond-false v.serving (run_in v m g conn s s.tx (q ∷ []) true a) (Refused NotLeader) off ∙ sym (cond-false v.serving (run_in v m g conn s s.tx (q ∷ []) true b) (Refused NotLeader) off))
    ]

-- ---- and the answers themselves

none_left : (a : List Answer) → 0 ≡ length a → map plain_answer a ≡ []
none_left [] e = refl
none_left (x ∷ xs) e = absurd (omega arith)

-- none after the first
sole_left : (a : List Answer) → 1 ≡ suc (length a) → map plain_answer a ≡ []
sole_left a e = none_left a (omega arith)

none_alike : (a b : List Answer) → 0 ≡ length a → 0 ≡ length b → map plain_answer a ≡ map plain_answer b
none_alike a b e f = none_left a e ∙ sym (none_left b f)

suc_same : (m n : ℕ) → suc m ≡ suc n → m ≡ n
suc_same m n e = omega arith

runs_alike : (ss : List Statement) (i : Image) (last other : StatementResult) (a b : List Answer)
    → AllowsAll cells Cells i ss a → AllowsAll cells Cells i ss b → AllByRecursion IsAmple a → AllByRecursion IsAmple b
    → used i ss a ≡ length a → used i ss b ≡ length b → (runs i last ss a ≡ Lacking → ⊥) → (runs i other ss b ≡ Lacking → ⊥) → map plain_answer a ≡ map plain_answer b
unfolding runs used
runs_alike [] i last other a b p q m n e f x y = none_alike a b e f
runs_alike (s ∷ ss) i last other [] b p q m n e f x y = absurd (x refl)
runs_alike (s ∷ ss) i last other (Ok r ∷ a) [] p q m n e f x y = absurd (y refl)
runs_alike (s ∷ ss) i last other (Err g ∷ a) [] p q m n e f x y = absurd (y refl)
runs_alike (s ∷ ss) i last other (Ok r ∷ a) (Err h ∷ b) p q m n e f x y = absurd (answer_same i s (Ok r) (Err h) p.0 q m.0 n.0)
runs_alike (s ∷ ss) i last other (Err g ∷ a) (Ok t ∷ b) p q m n e f x y = absurd (answer_same i s (Err g) (Ok t) p q.0 m.0 n.0)
runs_alike (s ∷ ss) i last other (Err g ∷ a) (Err h ∷ b) p q m n e f x y =
    let same : g ≡ h = answer_same i s (Err g) (Err h) p q m.0 n.0 in
    let rest : map plain_answer a ≡ map plain_answer b = sole_left a e ∙ sym (sole_left b f) in
    λ k. Err (same k) ∷ rest k
runs_alike (s ∷ ss) i last other (Ok r ∷ a) (Ok t ∷ b) p q m n e f x y =
    let same : plain_ran r ≡ plain_ran t = answer_same i s (Ok r) (Ok t) p.0 q.0 m.0 n.0 in
    let pages : r.after.pages ≡ t.after.pages = ap (λ (u : StatementResult). u.after.pages) same in
    let rest : map plain_answer a ≡ map plain_answer b = elim (cases_Bool (takes r.after.pages)) [
      | inl taken ↦
          let also : takes t.after.pages ≡ true = ap takes (sym pages) ∙ taken in
          let one = cond-true (takes r.after.pages) (runs (image_after i r.after.pages) r ss a) (TooLarge r) taken in
          let two = cond-true (takes t.after.pages) (runs (image_after i t.after.pages) t ss b) (TooLarge t) also in
          let count : used (image_after i r.after.pages) ss a ≡ length a = suc_same _ _ (ap suc (sym (cond-true (takes r.after.pages) (used (image_after i r.after.pages) ss a) 0 taken)) ∙ e) in
          let number : used (image_after i t.after.pages) ss b ≡ length b = suc_same _ _ (ap suc (sym (cond-true (takes t.after.pages) (used (image_after i t.after.pages) ss b) 0 also)) ∙ f) in
          let there : AllowsAll cells Cells (image_after i r.after.pages) ss b = subst (λ ps. AllowsAll cells Cells (image_after i ps) ss b) (sym pages) (rest_of (takes t.after.pages) (AllowsAll cells Cells (image_after i t.after.pages) ss b) also q.1) in
          runs_alike ss (image_after i r.after.pages) r t a b (rest_of (takes r.after.pages) (AllowsAll cells Cells (image_after i r.after.pages) ss a) taken p.1) there m.1 n.1
          count (ap (λ ps. used (image_after i ps) ss b) pages ∙ number) (λ l. x (one ∙ l)) (λ l. y (two ∙ sym (ap (λ ps. runs (image_after i ps) t ss b) pages) ∙ l))
      | inr refused ↦
          let also : takes t.after.pages ≡ false = ap takes (sym pages) ∙ refused in
          sole_left a (ap suc (sym (cond-false (takes r.after.pages) (used (image_after i r.after.pages) ss a) 0 refused)) ∙ e)
          ∙ sym (sole_left b (ap suc (sym (cond-false (takes t.after.pages) (used (image_after i t.after.pages) ss b) 0 also)) ∙ f))
    ] in
    λ k. Ok (same k) ∷ rest k

module _ (v : View) (m : Machine) (g : Gateway) (conn : ℕ) (a b : List Answer) (n : AllByRecursion IsAmple a) (k : AllByRecursion IsAmple b) where
  run_alike : (s : Session) (o : Option Transaction) (ss : List Statement) (rows : Bool)
      → AllowsAll cells Cells (ground m s o) ss a → AllowsAll cells Cells (ground m s o) ss b → used (ground m s o) ss a ≡ length a → used (ground m s o) ss b ≡ length b
      → lacks (run_in v m g conn s o ss rows a) ≡ false → lacks (run_in v m g conn s o ss rows b) ≡ false → map plain_answer a ≡ map plain_answer b
  run_alike s None ss rows p q e f x y =
      let i = (m.base s.database).image in
      runs_alike ss i no_answer no_answer a b p q n k e f (outside_lacks v m g conn s ss rows (runs i no_answer ss a) x) (outside_lacks v m g conn s ss rows (runs i no_answer ss b) y)
  run_alike s (Some t) ss rows p q e f x y =
      runs_alike ss t.working no_answer no_answer a b p q n k e f (inside_lacks m g conn s t ss rows (runs t.working no_answer ss a) x) (inside_lacks m g conn s t ss rows (runs t.working no_answer ss b) y)

  query_alike : (s : Session) (o : Option Transaction) (query : Statement)
      → AllowsAll cells Cells (ground m s o) (query ∷ []) a → AllowsAll cells Cells (ground m s o) (query ∷ []) b
      → used (ground m s o) (query ∷ []) a ≡ length a → used (ground m s o) (query ∷ []) b ≡ length b
      → lacks (read_in v m g conn s o query a) ≡ false → lacks (read_in v m g conn s o query b) ≡ false → map plain_answer a ≡ map plain_answer b
  query_alike s None query p q e f x y =
      let i = (m.base s.database).image in
      runs_alike (query ∷ []) i no_answer no_answer a b p q n k e f (read_lacks v m g conn s query (runs i no_answer (query ∷ []) a) x) (read_lacks v m g conn s query (runs i no_answer (query ∷ []) b) y)
  query_alike s (Some t) query p q e f x y = run_alike s (Some t) (query ∷ []) true p q e f x y

  does_alike : (s : Session) (x : Asked)
      → AllowsFor cells Cells (handed_for m s x) a → AllowsFor cells Cells (handed_for m s x) b → used_for (handed_for m s x) a ≡ length a → used_for (handed_for m s x) b ≡ length b
      → lacks (does v m g conn s x a) ≡ false → lacks (does v m g conn s x b) ≡ false → map plain_answer a ≡ map plain_answer b
  unfolding does
  does_alike s (Runs ss) p q e f l r = run_alike s s.tx ss false p q e f l r
  does_alike s (Reads query) p q e f l r = elim (cases_Bool (waits_first s)) [
    | inl waits ↦
        let over : handed_for m s (Reads query) ≡ None = cond-true (waits_first s) None _ waits in
        none_alike a b (sym (ap (λ (o : Option Handed). used_for o a) over) ∙ e) (sym (ap (λ (o : Option Handed). used_for o b) over) ∙ f)
    | inr goes ↦
        let over : handed_for m s (Reads query) ≡ handed_over (ground m s s.tx) (query ∷ []) = cond-false (waits_first s) None _ goes in
        let one = cond-false (waits_first s) (barrier_first v s query) (read_in v m g conn s s.tx query a) goes in
        let other = cond-false (waits_first s) (barrier_first v s query) (read_in v m g conn s s.tx query b) goes in
        query_alike s s.tx query (subst (λ (o : Option Handed). AllowsFor cells Cells o a) over p) (subst (λ (o : Option Handed). AllowsFor cells Cells o b) over q)
        (sym (ap (λ (o : Option Handed). used_for o a) over) ∙ e) (sym (ap (λ (o : Option Handed). used_for o b) over) ∙ f) (sym (ap lacks one) ∙ l) (sym (ap lacks other) ∙ r)
  ]
  does_alike s (Never cause) p q e f l r = none_alike a b e f
  does_alike s (Tells response) p q e f l r = none_alike a b e f
  does_alike s (Sets effect) p q e f l r = none_alike a b e f
  does_alike s (Opens name barriers) p q e f l r = none_alike a b e f
  does_alike s (Creates name barriers) p q e f l r = none_alike a b e f
  does_alike s (Prepares prepared tail) p q e f l r = none_alike a b e f
  does_alike s (Drops id) p q e f l r = none_alike a b e f
  does_alike s (Forgets response) p q e f l r = none_alike a b e f
  does_alike s (Begins at_once) p q e f l r = none_alike a b e f
  does_alike s Commits p q e f l r = none_alike a b e f
  does_alike s RollsBack p q e f l r = none_alike a b e f
  does_alike s (Changes servers short) p q e f l r = none_alike a b e f

pub asked_alike : (v : View) (m : Machine) (g : Gateway) (conn : ℕ) (r : Request) (a b : List Answer)
    → AllowsFor cells Cells (handed v m g conn r) a → AllowsFor cells Cells (handed v m g conn r) b → AllByRecursion IsAmple a → AllByRecursion IsAmple b
    → used_for (handed v m g conn r) a ≡ length a → used_for (handed v m g conn r) b ≡ length b
    → lacks (on_request v m g conn r a) ≡ false → lacks (on_request v m g conn r b) ≡ false → map plain_answer a ≡ map plain_answer b
unfolding on_request handed
asked_alike v m g conn r a b p q n k e f x y = does_alike v m g conn a b n k (g.session conn) (asked v m g conn r) p q e f x y

pub later_alike : (v : View) (m : Machine) (g : Gateway) (conn : ℕ) (query : Statement) (a b : List Answer)
    → AllowsFor cells Cells (handed_later v m g conn query) a → AllowsFor cells Cells (handed_later v m g conn query) b → AllByRecursion IsAmple a → AllByRecursion IsAmple b
    → used_for (handed_later v m g conn query) a ≡ length a → used_for (handed_later v m g conn query) b ≡ length b
    → lacks (on_later v m g conn query a) ≡ false → lacks (on_later v m g conn query b) ≡ false → map plain_answer a ≡ map plain_answer b
unfolding on_later handed_later
later_alike v m g conn query a b p q n k e f x y =
    let s = g.session conn in
    elim (cases_Bool v.serving) [
      | inl on ↦
          let over = cond-true v.serving (handed_over (ground m s s.tx) (query ∷ [])) None on in
          let one = cond-true v.serving (run_in v m g conn s s.tx (query ∷ []) true a) (Refused NotLeader) on in
          let other = cond-true v.serving (run_in v m g conn s s.tx (query ∷ []) true b) (Refused NotLeader) on in
          run_alike v m g conn a b n k s s.tx (query ∷ []) true (subst (λ (o : Option Handed). AllowsFor cells Cells o a) over p) (subst (λ (o : Option Handed). AllowsFor cells Cells o b) over q)
          (sym (ap (λ (o : Option Handed). used_for o a) over) ∙ e) (sym (ap (λ (o : Option Handed). used_for o b) over) ∙ f) (sym (ap lacks one) ∙ x) (sym (ap lacks other) ∙ y)
      | inr off ↦
          let over = cond-false v.serving (handed_over (ground m s s.tx) (query ∷ [])) None off in
          none_alike a b (sym (ap (λ (o : Option Handed). used_for o a) over) ∙ e) (sym (ap (λ (o : Option Handed). used_for o b) over) ∙ f)
    ]
