-- What an engine of cells answers to statements is decided by them and their image, except for the numbers of
-- transactions.
use Rattle.std.proofs.Common.{◌≡◌, ◌≢◌, ℕ, Bool, true, false, List, [], ◌∷◌, map, Ok, Err, Option, Some, None, Result, inl, inr, refl, sym, ap, ◌∙◌, subst}
use Rattle.std.specs.List.{AllByRecursion}
use Rattle.std.proofs.lemmas.Bool.{cases_Bool, cond-true, cond-false}
use Rattle.dq_base.specs.declared.images.Image.{Image}
use Rattle.dq_base.specs.Changes.{changed}
use Rattle.wire_words.specs.declared.value.Value.{Value}
use Rattle.wire_words.specs.declared.value.Value.TheVariants.{Null}
use Rattle.sql_engine.specs.declared.answer.StatementResult.{StatementResult}
use Rattle.sql_engine.specs.declared.kind.EngineKind.TheVariants.{Cells, Sqlite}
use Rattle.sql_engine.specs.declared.fault.EngineFault.{EngineFault}
use Rattle.sql_engine.specs.declared.fault.EngineFault.TheVariants as faults
use Rattle.sql_engine.specs.Replies.{Statement, Shown, plain, real, plain_rows, fault_in}
use Rattle.sql_engine.specs.Meanings.{Answers, Faults, Refusal, constraint, sql, reply_of}
use Rattle.sql_engine.specs.Cells.{Outcome, outcome_of, cells}
use Rattle.database_state.specs.Files.{image_after}
use Rattle.session_spec.specs.Engines.{Answer, Ending, Lacking, TooLarge, Stopped, Ended, takes, runs, Allows, AllowsRest, AllowsAll}
use Rattle.node_core.specs.Plain.{plain_ran}
use Rattle.script_determinism.specs.CoreSteps.{IsAmple}

-- an ending without the number of the transaction that its pages are listed under
abbrev pub plain_end : Ending → Ending
plain_end Lacking = Lacking
plain_end (TooLarge ran) = TooLarge (plain_ran ran)
plain_end (Stopped fault) = Stopped fault
plain_end (Ended to ran) = Ended to (plain_ran ran)

-- ---- one answer

abbrev value_of : Shown → Value
value_of (plain v) = v
value_of real = Null

row_back : (vs : List Value) → map value_of (map plain vs) ≡ vs
row_back [] = refl
row_back (v ∷ vs) = ap (λ (xs : List Value). v ∷ xs) (row_back vs)

rows_back : (rows : List (List Value)) → map (map value_of) (plain_rows rows) ≡ rows
rows_back [] = refl
rows_back (r ∷ rows) = λ i. row_back r i ∷ rows_back rows i

same_rows : (xs ys : List (List Value)) → plain_rows xs ≡ plain_rows ys → xs ≡ ys
same_rows xs ys e = sym (rows_back xs) ∙ ap (map (map value_of)) e ∙ rows_back ys

ok_same : (a b : Outcome) (r : Result Outcome Refusal) → r ≡ Ok a → r ≡ Ok b → a ≡ b
ok_same a b r p q = let e = sym p ∙ q in cc

some_same : (a b : EngineFault) → Some a ≡ Some b → a ≡ b
some_same a b e = cc

outcome_ok : (i : Image) (s : Statement) (a b : Outcome) → outcome_of i s ≡ Ok a → outcome_of i s ≡ Ok b → a ≡ b
outcome_ok i s a b p q = ok_same a b (outcome_of i s) p q

-- why a statement of cells isn't answered, if it isn't
abbrev fault_for : Result Outcome Refusal → Option EngineFault
fault_for (Ok outcome) = fault_in outcome.reply.rows
fault_for (Err constraint) = Some faults.Constraint
fault_for (Err sql) = Some faults.Sql

not_sqlite : Cells ≡ Sqlite → ⊥
not_sqlite e = cc

fault_known : (i : Image) (s : Statement) (f : EngineFault) → Faults cells Cells i s f → f ≢ faults.NoMemory → fault_for (outcome_of i s) ≡ Some f
fault_known i s faults.Constraint h ample = ap fault_for h
fault_known i s faults.Sql h ample = ap fault_for h
fault_known i s (faults.Float row column) h ample = ap fault_for h.runs ∙ h.found
fault_known i s (faults.NotText row column) h ample = ap fault_for h.runs ∙ h.found
fault_known i s faults.Unopened h ample = absurd (not_sqlite h)
fault_known i s faults.Cut h ample = absurd (not_sqlite h)
fault_known i s faults.NoMemory h ample = absurd (ample refl)

no_fault : (i : Image) (s : Statement) (tx : ℕ) (ran : StatementResult) → Answers cells i s tx ran → fault_for (outcome_of i s) ≡ None
unfolding fault_in
no_fault i s tx ran h = ap fault_for h.runs ∙ h.readable

none_some : (f : EngineFault) → None ≡ Some f → ⊥
none_some f e = cc

-- the answers say the same
abbrev pub IsSame : Answer → Answer → Type 0
IsSame (Ok a) (Ok b) = plain_ran a ≡ plain_ran b
IsSame (Ok a) (Err f) = ⊥
IsSame (Err f) (Ok b) = ⊥
IsSame (Err f) (Err g) = f ≡ g

ran_same : (i : Image) (s : Statement) (a b : StatementResult) (tx tx' : ℕ) → Answers cells i s tx a → Answers cells i s tx' b → plain_ran a ≡ plain_ran b
ran_same i s a b tx tx' p q =
    let e = outcome_ok i s (record { after = p.after; reply = reply_of a }) (record { after = q.after; reply = reply_of b }) p.runs q.runs in
    let pages : a.after.pages ≡ b.after.pages = ap (λ set. set.pages) p.pages ∙ ap (λ (o : Outcome). changed i o.after) e ∙ sym (ap (λ set. set.pages) q.pages) in
    let affected : a.affected ≡ b.affected = ap (λ (o : Outcome). o.reply.affected) e in
    let columns : a.columns ≡ b.columns = ap (λ (o : Outcome). o.reply.columns) e in
    let rows : a.rows ≡ b.rows = same_rows a.rows b.rows (ap (λ (o : Outcome). o.reply.rows) e) in
    λ k. record { after = record { tx = 0; pages = pages k }; affected = affected k; columns = columns k; rows = rows k }

ample_fault : (f : EngineFault) → IsAmple (Err f) → f ≢ faults.NoMemory
ample_fault f h e = h (ap (λ (g : EngineFault). Err g) e)

pub answer_same : (i : Image) (s : Statement) (a b : Answer) → Allows cells Cells i s a → Allows cells Cells i s b → IsAmple a → IsAmple b → IsSame a b
answer_same i s (Ok a) (Ok b) p q m n = ran_same i s a b p.0 q.0 p.1 q.1
answer_same i s (Ok a) (Err g) p q m n = none_some g (sym (no_fault i s p.0 a p.1) ∙ fault_known i s g q (ample_fault g n))
answer_same i s (Err f) (Ok b) p q m n = none_some f (sym (no_fault i s q.0 b q.1) ∙ fault_known i s f p (ample_fault f m))
answer_same i s (Err f) (Err g) p q m n = some_same f g (sym (fault_known i s f p (ample_fault f m)) ∙ fault_known i s g q (ample_fault g n))

-- ---- statements that run one after another

pub rest_of : (b : Bool) (P : Type 0) → b ≡ true → AllowsRest b P → P
rest_of b P e h = subst (λ (c : Bool). AllowsRest c P) e h

pub runs_same : (ss : List Statement) (i : Image) (last other : StatementResult) (a b : List Answer) → plain_ran last ≡ plain_ran other
    → AllowsAll cells Cells i ss a → AllowsAll cells Cells i ss b → AllByRecursion IsAmple a → AllByRecursion IsAmple b
    → (runs i last ss a ≡ Lacking → ⊥) → (runs i other ss b ≡ Lacking → ⊥) → plain_end (runs i last ss a) ≡ plain_end (runs i other ss b)
unfolding runs
runs_same [] i last other a b e p q m n x y = ap (λ (r : StatementResult). Ended i r) e
runs_same (s ∷ ss) i last other [] b e p q m n x y = absurd (x refl)
runs_same (s ∷ ss) i last other (Ok r ∷ a) [] e p q m n x y = absurd (y refl)
runs_same (s ∷ ss) i last other (Err f ∷ a) [] e p q m n x y = absurd (y refl)
runs_same (s ∷ ss) i last other (Ok r ∷ a) (Err g ∷ b) e p q m n x y = absurd (answer_same i s (Ok r) (Err g) p.0 q m.0 n.0)
runs_same (s ∷ ss) i last other (Err f ∷ a) (Ok t ∷ b) e p q m n x y = absurd (answer_same i s (Err f) (Ok t) p q.0 m.0 n.0)
runs_same (s ∷ ss) i last other (Err f ∷ a) (Err g ∷ b) e p q m n x y = ap (λ (h : EngineFault). Stopped h) (answer_same i s (Err f) (Err g) p q m.0 n.0)
runs_same (s ∷ ss) i last other (Ok r ∷ a) (Ok t ∷ b) e p q m n x y =
    let same : plain_ran r ≡ plain_ran t = answer_same i s (Ok r) (Ok t) p.0 q.0 m.0 n.0 in
    let pages : r.after.pages ≡ t.after.pages = ap (λ (u : StatementResult). u.after.pages) same in
    elim (cases_Bool (takes r.after.pages)) [
      | inl taken ↦
          let also : takes t.after.pages ≡ true = ap takes (sym pages) ∙ taken in
          let one = cond-true (takes r.after.pages) (runs (image_after i r.after.pages) r ss a) (TooLarge r) taken in
          let two = cond-true (takes t.after.pages) (runs (image_after i t.after.pages) t ss b) (TooLarge t) also in
          let there : AllowsAll cells Cells (image_after i r.after.pages) ss b = subst (λ ps. AllowsAll cells Cells (image_after i ps) ss b) (sym pages) (rest_of (takes t.after.pages) (AllowsAll cells Cells (image_after i t.after.pages) ss b) also q.1) in
          let moved : runs (image_after i r.after.pages) t ss b ≡ runs (image_after i t.after.pages) t ss b = ap (λ ps. runs (image_after i ps) t ss b) pages in
          ap plain_end one
          ∙ runs_same ss (image_after i r.after.pages) r t a b same (rest_of (takes r.after.pages) (AllowsAll cells Cells (image_after i r.after.pages) ss a) taken p.1) there m.1 n.1 (λ l. x (one ∙ l)) (λ l. y (two ∙ sym moved ∙ l))
          ∙ ap plain_end moved
          ∙ sym (ap plain_end two)
      | inr refused ↦
          let also : takes t.after.pages ≡ false = ap takes (sym pages) ∙ refused in
          ap plain_end (cond-false (takes r.after.pages) (runs (image_after i r.after.pages) r ss a) (TooLarge r) refused)
          ∙ ap (λ (u : StatementResult). TooLarge u) same
          ∙ sym (ap plain_end (cond-false (takes t.after.pages) (runs (image_after i t.after.pages) t ss b) (TooLarge t) also))
    ]
