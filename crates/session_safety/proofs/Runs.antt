-- Statements that ran by an engine's answers.
use Rattle.std.proofs.Common.{◌≡◌, ◌⊎◌, inl, inr, Bool, true, false, true≢false, List, [], ◌∷◌, ◌++◌, refl, sym, ap, ◌∙◌, subst, ⊎_elim}
use Rattle.std.specs.Prelude.{Ok, Err}
use Rattle.std.proofs.lemmas.Bool.{cond_both}
use Rattle.dq_base.specs.declared.images.Image.{Image}
use Rattle.dq_base.specs.Changes.{changed}
use Rattle.database_state.specs.Files.{image_after}
use Rattle.sql_engine.specs.declared.answer.StatementResult.{StatementResult}
use Rattle.sql_engine.specs.declared.kind.EngineKind.{EngineKind}
use Rattle.sql_engine.specs.Replies.{Statement, Reply}
use Rattle.sql_engine.specs.Meanings.{Meaning, IsShort, reply_of}
use Rattle.sql_engine.specs.Runs.{RanAll}
use Rattle.session_spec.specs.Engines.{Answer, takes, Ending, Lacking, TooLarge, Stopped, Ended, runs, AllowsRest, AllowsAll}
use Rattle.session_spec.proofs.Images.{apply_changed}

-- statements led to an image: it is the one before, or its files are short
abbrev pub Led : Image → Image → Type 0
Led from to = (to ≡ from) ⊎ IsShort to

-- the reply of the last statement; without one, this one
abbrev pub last_reply : Reply → List Reply → Reply
last_reply first [] = first
last_reply first (r ∷ rs) = last_reply r rs

module _ (mean : Meaning) where
  -- the statements ran from the image, and the last answer gives their last reply
  abbrev pub RunsOk : Image → StatementResult → List Statement → Ending → Type 0
  RunsOk i g ss Lacking = Unit {0}
  RunsOk i g ss (TooLarge answer) = Unit {0}
  RunsOk i g ss (Stopped fault) = Unit {0}
  RunsOk i g ss (Ended to answer) = (rs : List Reply) × RanAll mean i ss to rs × (last_reply (reply_of g) rs ≡ reply_of answer) × Led i to

  first_ran : (i m : Image) (g ran : StatementResult) (s : Statement) (ss : List Statement) (e : Ending) → IsShort m → mean.runs i s m (reply_of ran) → RunsOk m ran ss e → RunsOk i g (s ∷ ss) e
  first_ran i m g ran s ss Lacking short r x = tt
  first_ran i m g ran s ss (TooLarge last) short r x = tt
  first_ran i m g ran s ss (Stopped fault) short r x = tt
  first_ran i m g ran s ss (Ended to last) short r x = (reply_of ran ∷ x.0, (m, (r, x.1)), x.2, inr (⊎_elim (λ (e : to ≡ m). subst IsShort (sym e) short) (λ (e : IsShort to). e) x.3))

  rest_of : (b : Bool) (P : Type 0) → b ≡ true → AllowsRest b P → P
  rest_of true P e x = x
  rest_of false P e x = absurd (true≢false (sym e))

  pub runs_ok : (kind : EngineKind) (ss : List Statement) (i : Image) (g : StatementResult) (answers : List Answer) → AllowsAll mean kind i ss answers → RunsOk i g ss (runs i g ss answers)
  unfolding runs
  runs_ok kind [] i g answers a = ([], refl, refl, inl refl)
  runs_ok kind (s ∷ ss) i g [] a = tt
  runs_ok kind (s ∷ ss) i g (Ok ran ∷ answers) a =
      cond_both (takes ran.after.pages) (runs (image_after i ran.after.pages) ran ss answers) (TooLarge ran) (RunsOk i g (s ∷ ss))
      (λ t.
      let may = a.0.1 in
      let told : ran.after.pages ≡ changed i may.after = ap (λ x. x.pages) may.pages in
      let after : image_after i ran.after.pages ≡ may.after = ap (image_after i) told ∙ apply_changed i may.after may.short (ap takes (sym told) ∙ t) in
      let short : IsShort (image_after i ran.after.pages) = subst IsShort (sym after) may.short in
      let ran_now : mean.runs i s (image_after i ran.after.pages) (reply_of ran) = subst (λ m. mean.runs i s m (reply_of ran)) (sym after) may.runs in
      first_ran i (image_after i ran.after.pages) g ran s ss (runs (image_after i ran.after.pages) ran ss answers) short ran_now (runs_ok kind ss (image_after i ran.after.pages) ran answers (rest_of (takes ran.after.pages) (AllowsAll mean kind (image_after i ran.after.pages) ss answers) t a.1)))
      (λ t. tt)
  runs_ok kind (s ∷ ss) i g (Err fault ∷ answers) a = tt

  -- one statement gave the last reply
  pub sole_ran : (i to : Image) (first reply : Reply) (s : Statement) (rs : List Reply) → RanAll mean i (s ∷ []) to rs → last_reply first rs ≡ reply → mean.runs i s to reply
  sole_ran i to first reply s [] r e = absurd r
  sole_ran i to first reply s (x ∷ []) r e = subst (λ o. mean.runs i s o reply) r.1.1 (subst (mean.runs i s r.0) e r.1.0)
  sole_ran i to first reply s (x ∷ y ∷ ys) r e = absurd r.1.1

  -- one run after another
  pub ran_append : (ss ts : List Statement) (i m j : Image) (rs us : List Reply) → RanAll mean i ss m rs → RanAll mean m ts j us → RanAll mean i (ss ++ ts) j (rs ++ us)
  ran_append [] ts i m j [] us a b = subst (λ x. RanAll mean x ts j us) (sym a) b
  ran_append [] ts i m j (r ∷ rs) us a b = absurd a
  ran_append (s ∷ ss) ts i m j [] us a b = absurd a
  ran_append (s ∷ ss) ts i m j (r ∷ rs) us a b = (a.0, (a.1.0, ran_append ss ts a.0 m j rs us a.1.1 b))
