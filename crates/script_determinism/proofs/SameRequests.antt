-- What a request makes of a session is the same by any answers of cells.
use Rattle.std.proofs.Common.{◌≡◌, ℕ, Bool, true, false, cond, List, [], ◌∷◌, Option, Some, None, inl, inr, refl, sym, ap, ◌∙◌, subst}
use Rattle.std.specs.Prelude.{◌&&◌}
use Rattle.std.specs.List.{AllByRecursion}
use Rattle.std.proofs.lemmas.Bool.{cases_Bool, cond-true, cond-false}
use Rattle.wire_msgs.specs.declared.request.Request.{Request}
use Rattle.sql_engine.specs.declared.kind.EngineKind.TheVariants.{Cells}
use Rattle.sql_engine.specs.Replies.{Statement}
use Rattle.sql_engine.specs.Cells.{cells}
use Rattle.session_spec.specs.Machine.{Machine}
use Rattle.session_spec.specs.Engines.{Answer, Handed, Ending, Lacking, no_answer, runs, AllowsAll, AllowsFor}
use Rattle.session_spec.specs.Sessions.{Lent, Gateway, Session, Transaction, View, Lends}
use Rattle.session_spec.specs.Asking.{Asked, Never, Tells, Sets, Opens, Creates, Prepares, Drops, Forgets, Begins, Commits, RollsBack, Changes, Runs, Reads, asked}
use Rattle.session_spec.specs.Requests.{with_later, outside, inside, run_in, waits_first, barrier_first, job_of, read_outside, read_in, does, on_request, ground, handed_over, handed_for, handed}
use Rattle.session_safety.specs.Alone.{lacks}
use Rattle.script_determinism.specs.CoreSteps.{IsAmple}
use Rattle.script_determinism.proofs.CellAnswers.{runs_same}
use Rattle.script_determinism.proofs.PlainAsking.{plain_turned}
use Rattle.script_determinism.proofs.SameEndings.{outside_same, inside_same, read_same}

yes_no : true ≡ false → ⊥
yes_no e = cc

pub outside_lacks : (v : View) (m : Machine) (g : Gateway) (conn : ℕ) (s : Session) (ss : List Statement) (rows : Bool) (e : Ending) → lacks (outside v m g conn s ss rows e) ≡ false → e ≡ Lacking → ⊥
unfolding outside
outside_lacks v m g conn s ss rows e enough is = yes_no (sym (ap (λ (x : Ending). lacks (outside v m g conn s ss rows x)) is) ∙ enough)

pub inside_lacks : (m : Machine) (g : Gateway) (conn : ℕ) (s : Session) (x : Transaction) (ss : List Statement) (rows : Bool) (e : Ending) → lacks (inside m g conn s x ss rows e) ≡ false → e ≡ Lacking → ⊥
unfolding inside
inside_lacks m g conn s x ss rows e enough is = yes_no (sym (ap (λ (y : Ending). lacks (inside m g conn s x ss rows y)) is) ∙ enough)

pub read_lacks : (v : View) (m : Machine) (g : Gateway) (conn : ℕ) (s : Session) (statement : Statement) (e : Ending) → lacks (read_outside v m g conn s statement e) ≡ false → e ≡ Lacking → ⊥
unfolding outside
read_lacks v m g conn s statement e enough is = yes_no (sym (by v.readers) ∙ sym (ap (λ (x : Ending). lacks (read_outside v m g conn s statement x)) is) ∙ enough)
  where
    by : (b : Bool) → lacks (cond (b && false) (Lends (with_later s (Some (Lent statement))) (job_of m s statement)) (outside v m g conn s (statement ∷ []) true Lacking)) ≡ true
    by true = refl
    by false = refl

module _ (v : View) (m : Machine) (g : Gateway) (conn : ℕ) (a b : List Answer) where
  pub run_same : (s : Session) (o : Option Transaction) (ss : List Statement) (rows : Bool)
      → AllowsAll cells Cells (ground m s o) ss a → AllowsAll cells Cells (ground m s o) ss b → AllByRecursion IsAmple a → AllByRecursion IsAmple b
      → lacks (run_in v m g conn s o ss rows a) ≡ false → lacks (run_in v m g conn s o ss rows b) ≡ false
      → plain_turned (run_in v m g conn s o ss rows a) ≡ plain_turned (run_in v m g conn s o ss rows b)
  run_same s None ss rows p q n k x y =
      let i = (m.base s.database).image in
      outside_same v m g conn s ss rows _ _ (runs_same ss i no_answer no_answer a b refl p q n k (outside_lacks v m g conn s ss rows (runs i no_answer ss a) x) (outside_lacks v m g conn s ss rows (runs i no_answer ss b) y))
  run_same s (Some t) ss rows p q n k x y =
      inside_same m g conn s t ss rows _ _ (runs_same ss t.working no_answer no_answer a b refl p q n k (inside_lacks m g conn s t ss rows (runs t.working no_answer ss a) x) (inside_lacks m g conn s t ss rows (runs t.working no_answer ss b) y))

  query_same : (s : Session) (o : Option Transaction) (statement : Statement)
      → AllowsAll cells Cells (ground m s o) (statement ∷ []) a → AllowsAll cells Cells (ground m s o) (statement ∷ []) b → AllByRecursion IsAmple a → AllByRecursion IsAmple b
      → lacks (read_in v m g conn s o statement a) ≡ false → lacks (read_in v m g conn s o statement b) ≡ false
      → plain_turned (read_in v m g conn s o statement a) ≡ plain_turned (read_in v m g conn s o statement b)
  query_same s None statement p q n k x y =
      let i = (m.base s.database).image in
      read_same v m g conn s statement _ _ (runs_same (statement ∷ []) i no_answer no_answer a b refl p q n k (read_lacks v m g conn s statement (runs i no_answer (statement ∷ []) a) x) (read_lacks v m g conn s statement (runs i no_answer (statement ∷ []) b) y))
  query_same s (Some t) statement p q n k x y = run_same s (Some t) (statement ∷ []) true p q n k x y

  does_same : (s : Session) (x : Asked)
      → AllowsFor cells Cells (handed_for m s x) a → AllowsFor cells Cells (handed_for m s x) b → AllByRecursion IsAmple a → AllByRecursion IsAmple b
      → lacks (does v m g conn s x a) ≡ false → lacks (does v m g conn s x b) ≡ false → plain_turned (does v m g conn s x a) ≡ plain_turned (does v m g conn s x b)
  unfolding does
  does_same s (Never cause) p q n k l r = refl
  does_same s (Tells response) p q n k l r = refl
  does_same s (Sets effect) p q n k l r = refl
  does_same s (Opens name barriers) p q n k l r = refl
  does_same s (Creates name barriers) p q n k l r = refl
  does_same s (Prepares prepared tail) p q n k l r = refl
  does_same s (Drops id) p q n k l r = refl
  does_same s (Forgets response) p q n k l r = refl
  does_same s (Begins at_once) p q n k l r = refl
  does_same s Commits p q n k l r = refl
  does_same s RollsBack p q n k l r = refl
  does_same s (Changes servers short) p q n k l r = refl
  does_same s (Runs ss) p q n k l r = run_same s s.tx ss false p q n k l r
  does_same s (Reads statement) p q n k l r = elim (cases_Bool (waits_first s)) [
    | inl waits ↦ ap plain_turned (cond-true (waits_first s) (barrier_first v s statement) _ waits ∙ sym (cond-true (waits_first s) (barrier_first v s statement) _ waits))
    | inr goes ↦
        let over : handed_for m s (Reads statement) ≡ handed_over (ground m s s.tx) (statement ∷ []) = cond-false (waits_first s) None _ goes in
        let one = cond-false (waits_first s) (barrier_first v s statement) (read_in v m g conn s s.tx statement a) goes in
        let other = cond-false (waits_first s) (barrier_first v s statement) (read_in v m g conn s s.tx statement b) goes in
        ap plain_turned one
        ∙ query_same s s.tx statement (subst (λ (o : Option Handed). AllowsFor cells Cells o a) over p) (subst (λ (o : Option Handed). AllowsFor cells Cells o b) over q) n k (sym (ap lacks one) ∙ l) (sym (ap lacks other) ∙ r)
        ∙ sym (ap plain_turned other)
  ]

-- A request gives the same by any answers of cells that are enough, except for the numbers of
-- transactions.
pub asked_same : (v : View) (m : Machine) (g : Gateway) (conn : ℕ) (request : Request) (a b : List Answer)
    → AllowsFor cells Cells (handed v m g conn request) a → AllowsFor cells Cells (handed v m g conn request) b → AllByRecursion IsAmple a → AllByRecursion IsAmple b
    → lacks (on_request v m g conn request a) ≡ false → lacks (on_request v m g conn request b) ≡ false
    → plain_turned (on_request v m g conn request a) ≡ plain_turned (on_request v m g conn request b)
unfolding on_request handed
asked_same v m g conn request a b p q n k l r = does_same v m g conn a b (g.session conn) (asked v m g conn request) p q n k l r
