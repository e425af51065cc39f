-- Statements that ran so far, and how running them ends.
use Rattle.std.proofs.Common.{◌≡◌, ◌+◌, ℕ, suc, Bool, true, false, List, [], ◌∷◌, ◌++◌, length, Option, Some, None, is_none, Ok, Err, ◌⊎◌, inl, inr, refl, sym, ap, subst, ◌∙◌, append_assoc, append-nil, length-append, arith}
use Rattle.std.proofs.lemmas.Bool.{cases_Bool, cond-true, cond-false}
use Rattle.dq_base.specs.declared.images.Image.{Image}
use Rattle.dq_base.specs.declared.pages.NumberedPage.{NumberedPage}
use Rattle.dq_base.specs.declared.pages.PageSet.{PageSet}
use Rattle.dq_base.specs.Applying.{applied, page_fault, fault_before}
use Rattle.dq_base.specs.Changes.{changed}
use Rattle.database_state.specs.Files.{image_after}
use Rattle.sql_engine.specs.declared.answer.StatementResult.{StatementResult}
use Rattle.sql_engine.specs.declared.kind.EngineKind.{EngineKind}
use Rattle.sql_engine.specs.declared.fault.EngineFault.{EngineFault}
use Rattle.sql_engine.specs.Replies.{Statement}
use Rattle.sql_engine.specs.Meanings.{Meaning, Answers, Faults, IsShort, Told, Tells}
use Rattle.sql_engine.proofs.ChangeLists.{changed_none}
use Rattle.sql_engine.proofs.Leading.{leads_on}
use Rattle.session_statements.proofs.Changing.{change_leads}
use Rattle.session_statements.proofs.Telling.{tells_join}
use Rattle.session_spec.specs.Engines.{Answer, Ending, TooLarge, takes, no_answer, runs, used, AllowsRest, AllowsAll}
use Rattle.session_statements.specs.declared.ending.AllRan.{AllRan}
use Rattle.session_statements.specs.declared.ending.Ending.{Ending as CodeEnding}
use Rattle.session_statements.specs.declared.ending.Ending.TheVariants as codes
use Rattle.session_spec.specs.Touched.{put_in_order, ListsAll}
use Rattle.image_diff.specs.declared.touched_image.TouchedImage.{TouchedImage as There}
use Rattle.session_statements.specs.declared.running.UnsettledRun.{UnsettledRun}
use Rattle.session_statements.specs.declared.running.UnsettledRun.TheVariants as came
use Rattle.image_diff.specs.Reached.{reached_at, change_to}
use Rattle.image_diff.proofs.Arriving.{arrives}
use Rattle.session_statements.specs.Calls.{call_of}
use Rattle.session_statements.specs.Running.{AdvancedTo, CameTo, ended, TellsAll, change_in, Shows, RanTo, ending_of, Led, Went, WentTooFar, Failed}

-- The answers so far lead from the first image to the one that was reached, with these statements still to run.
pub record Reached (m : Meaning) (kind : EngineKind) (base : Image) (statements rest : List Statement) (told_before told_now : Option Told) (cur : Image) (last : StatementResult) : Type 0 where
  pub answers : List Answer
  pub told : TellsAll answers told_before told_now
  pub runs_on : (more : List Answer) → runs base no_answer statements (answers ++ more) ≡ runs cur last rest more
  pub uses_on : (more : List Answer) → used base statements (answers ++ more) ≡ length answers + used cur rest more
  pub allows_on : (more : List Answer) → AllowsAll m kind cur rest more → AllowsAll m kind base statements (answers ++ more)
  pub short : (cur ≡ base) ⊎ IsShort cur

pub reached_start : (m : Meaning) (kind : EngineKind) (base : Image) (statements : List Statement) (told : Option Told) → Reached m kind base statements statements told told base no_answer
unfolding TellsAll
reached_start m kind base statements told = record {
  answers = [];
  told = refl;
  runs_on = λ more. refl;
  uses_on = λ more. omega arith;
  allows_on = λ more h. h;
  short = inl refl;
}

tells_more : (answers : List Answer) (a : Answer) (before now next : Option Told) → TellsAll answers before now → Tells a now next → TellsAll (answers ++ a ∷ []) before next
unfolding TellsAll
tells_more answers a before now next h t = tells_join answers (a ∷ []) before now next h (next, t, refl)

-- pages that are taken lead to the image with them applied
after_nothing : (image : Image) → image_after image [] ≡ applied image []
unfolding applied fault_before
after_nothing image = refl

pub after_is : (image : Image) (pages : List NumberedPage) → takes pages ≡ true → image_after image pages ≡ applied image pages
unfolding takes
after_is image [] taken = after_nothing image
after_is image (p ∷ ps) taken = cond-true (is_none (page_fault (p ∷ ps))) (applied image (p ∷ ps)) image taken

runs_one : (cur to : Image) (last : StatementResult) (s : Statement) (rest : List Statement) (ran : StatementResult) (more : List Answer) → takes ran.after.pages ≡ true → to ≡ applied cur ran.after.pages
    → runs cur last (s ∷ rest) (Ok ran ∷ more) ≡ runs to ran rest more
unfolding runs
runs_one cur to last s rest ran more taken image =
    cond-true (takes ran.after.pages) (runs (image_after cur ran.after.pages) ran rest more) (TooLarge ran) taken
    ∙ ap (λ (i : Image). runs i ran rest more) (after_is cur ran.after.pages taken ∙ sym image)

uses_one : (cur to : Image) (s : Statement) (rest : List Statement) (ran : StatementResult) (more : List Answer) → takes ran.after.pages ≡ true → to ≡ applied cur ran.after.pages → used cur (s ∷ rest) (Ok ran ∷ more) ≡ suc (used to rest more)
unfolding used
uses_one cur to s rest ran more taken image =
    ap suc (cond-true (takes ran.after.pages) (used (image_after cur ran.after.pages) rest more) 0 taken
    ∙ ap (λ (i : Image). used i rest more) (after_is cur ran.after.pages taken ∙ sym image))

counts_more : (answers : List Answer) (a : Answer) (n : ℕ) → length answers + suc n ≡ length (answers ++ a ∷ []) + n
counts_more answers a n = let long = length-append answers (a ∷ []) in omega arith

allows_one : (m : Meaning) (kind : EngineKind) (tx : ℕ) (cur to : Image) (s : Statement) (rest : List Statement) (ran : StatementResult) (more : List Answer) → Answers m cur s tx ran → takes ran.after.pages ≡ true → to ≡ applied cur ran.after.pages
    → AllowsAll m kind to rest more → AllowsAll m kind cur (s ∷ rest) (Ok ran ∷ more)
allows_one m kind tx cur to s rest ran more a taken image h =
    let there : AllowsAll m kind (image_after cur ran.after.pages) rest more = subst (λ (i : Image). AllowsAll m kind i rest more) (image ∙ sym (after_is cur ran.after.pages taken)) h in
    let gate : AllowsRest (takes ran.after.pages) (AllowsAll m kind (image_after cur ran.after.pages) rest more) = subst (λ (b : Bool). AllowsRest b (AllowsAll m kind (image_after cur ran.after.pages) rest more)) (sym taken) there in
    ((tx, a), gate)

reached_short : (m : Meaning) (tx : ℕ) (cur to : Image) (s : Statement) (ran : StatementResult) (a : Answers m cur s tx ran) → to ≡ applied cur ran.after.pages → IsShort to
reached_short m tx cur to s ran a image =
    let e : to ≡ a.after = image ∙ leads_on m cur s tx ran a in
    subst IsShort (sym e) a.short

pub reached_more : (m : Meaning) (kind : EngineKind) (tx : ℕ) (base : Image) (statements : List Statement) (s : Statement) (rest : List Statement) (before now next : Option Told) (cur to : Image) (last ran : StatementResult)
    → Reached m kind base statements (s ∷ rest) before now cur last → Went (call_of m kind now next) tx cur s to ran → Reached m kind base statements rest before next to ran
reached_more m kind tx base statements s rest before now next cur to last ran r w = record {
  answers = r.answers ++ Ok ran ∷ [];
  told = tells_more r.answers (Ok ran) before now next r.told w.told;
  runs_on = λ more. ap (runs base no_answer statements) (append_assoc r.answers (Ok ran ∷ []) more) ∙ r.runs_on (Ok ran ∷ more) ∙ runs_one cur to last s rest ran more w.taken w.image;
  uses_on = λ more. ap (used base statements) (append_assoc r.answers (Ok ran ∷ []) more) ∙ r.uses_on (Ok ran ∷ more) ∙ ap (λ (n : ℕ). length r.answers + n) (uses_one cur to s rest ran more w.taken w.image) ∙ counts_more r.answers (Ok ran) (used to rest more);
  allows_on = λ more h. subst (λ (told : List Answer). AllowsAll m kind base statements told) (sym (append_assoc r.answers (Ok ran ∷ []) more)) (r.allows_on (Ok ran ∷ more) (allows_one m kind tx cur to s rest ran more w.answers w.taken w.image h));
  short = inr (reached_short m tx cur to s ran w.answers w.image);
}

-- Where what is reached ends with these answers more, all of it does.
ran_to : (m : Meaning) (kind : EngineKind) (tx : ℕ) (base : Image) (statements rest : List Statement) (before now next : Option Told) (cur : Image) (last : StatementResult) (more : List Answer) (ending : CodeEnding)
    → (r : Reached m kind base statements rest before now cur last) → TellsAll (r.answers ++ more) before next → AllowsAll m kind cur rest more → used cur rest more ≡ length more → Shows tx base (runs cur last rest more) ending
    → RanTo (call_of m kind before next) tx base statements ending
ran_to m kind tx base statements rest before now next cur last more ending r told allowed exact shows = record {
  answers = r.answers ++ more;
  allowed = r.allows_on more allowed;
  told = told;
  exact = r.uses_on more ∙ ap (λ (n : ℕ). length r.answers + n) exact ∙ sym (length-append r.answers more);
  ends = subst (λ (e : Ending). Shows tx base e ending) (sym (r.runs_on more)) shows;
}

after_none : (base : Image) → applied base [] ≡ base
unfolding applied
after_none base = refl

change_shown : (base cur : Image) → (cur ≡ base) ⊎ IsShort cur → applied base (changed base cur) ≡ cur
change_shown base cur short =
    elim short [
      | inl same ↦ ap (applied base) (ap (changed base) same ∙ changed_none base) ∙ after_none base ∙ sym same
      | inr s ↦ change_leads base cur s
    ]

pub reached_end : (m : Meaning) (kind : EngineKind) (tx : ℕ) (base : Image) (statements : List Statement) (before now : Option Told) (cur : Image) (last : StatementResult) (ran : AllRan)
    → Reached m kind base statements [] before now cur last → ran.answer ≡ last → change_in ran ≡ record { tx = tx; pages = changed base cur } → RanTo (call_of m kind before now) tx base statements (codes.Ended ran)
unfolding runs used
reached_end m kind tx base statements before now cur last ran r answer change =
    ran_to m kind tx base statements [] before now now cur last [] (codes.Ended ran) r
    (subst (λ (rest : List Answer). TellsAll rest before now) (sym (append-nil r.answers)) r.told)
    tt
    refl
    (ran, refl, answer, change, change_shown base cur r.short)

pub reached_led : (m : Meaning) (kind : EngineKind) (base : Image) (statements : List Statement) (before now : Option Told) (cur : Image) (last : StatementResult) → Reached m kind base statements [] before now cur last → Led (call_of m kind before now) base statements cur last
unfolding runs used
reached_led m kind base statements before now cur last r = record {
  answers = r.answers ++ [];
  allowed = r.allows_on [] tt;
  told = subst (λ (answers : List Answer). TellsAll answers before now) (sym (append-nil r.answers)) r.told;
  exact = r.uses_on [] ∙ sym (length-append r.answers []);
  ends = r.runs_on [];
  leads = change_shown base cur r.short;
}

-- statements that all ran, with the change from the first image to the one that they led to
pub led_ran : (m : Meaning) (kind : EngineKind) (tx : ℕ) (image : Image) (statements : List Statement) (before now : Option Told) (to : Image) (answer : StatementResult) → Led (call_of m kind before now) image statements to answer
    → RanTo (call_of m kind before now) tx image statements (codes.Ended (record { together = Some (record { tx = tx; pages = changed image to }); answer = answer }))
led_ran m kind tx image statements before now to answer led = record {
  answers = led.answers;
  allowed = led.allowed;
  told = led.told;
  exact = led.exact;
  ends = subst (λ (e : Ending). Shows tx image e (codes.Ended (record { together = Some (record { tx = tx; pages = changed image to }); answer = answer }))) (sym led.ends) (record { together = Some (record { tx = tx; pages = changed image to }); answer = answer }, refl, refl, refl, led.leads);
}

-- if they all led, told by the pages that they touched
pub came_through : (m : Meaning) (kind : EngineKind) (tx : ℕ) (image : Image) (ss : List Statement) (before now : Option Told) (to : Image) (answer : StatementResult) (o : Option CodeEnding) (touched known : List ℕ) (reached : There) → o ≡ None
    → AdvancedTo (call_of m kind before now) tx image ss to answer o → (o ≡ None → ListsAll touched image to) → IsShort to → known ≡ touched → reached ≡ reached_at (put_in_order [] known) to → CameTo (call_of m kind before now) tx image ss answer (came.Through reached)
came_through m kind tx image ss before now to answer o touched known reached none ran touches short same is = (
  to,
  subst (AdvancedTo (call_of m kind before now) tx image ss to answer) none ran,
  ap (change_to image) (is ∙ ap (λ (ns : List ℕ). reached_at (put_in_order [] ns) to) same) ∙ arrives touched image to (touches none) short.main short.side,
)

-- how running ends that ended with this
pub came_ran : (m : Meaning) (kind : EngineKind) (tx : ℕ) (image back : Image) (ss : List Statement) (before now : Option Told) (answer : StatementResult) (c : UnsettledRun) (ending : CodeEnding) → CameTo (call_of m kind before now) tx image ss answer c → back ≡ image → ending ≡ ended tx back answer c → RanTo (call_of m kind before now) tx image ss ending
came_ran m kind tx image back ss before now answer (came.Through reached) ending (to, led, change) same is =
    subst (RanTo (call_of m kind before now) tx image ss)
    (sym (is ∙ ap (λ (pages : List NumberedPage). codes.Ended (record { together = Some (record { tx = tx; pages = pages }); answer = answer })) (ap (λ (i : Image). change_to i reached) same ∙ change)))
    (led_ran m kind tx image ss before now to answer led)
came_ran m kind tx image back ss before now answer (came.Short ended) ending ran same is = subst (RanTo (call_of m kind before now) tx image ss) (sym is) ran

pub reached_fault : (m : Meaning) (kind : EngineKind) (tx : ℕ) (base : Image) (statements : List Statement) (s : Statement) (rest : List Statement) (before now next : Option Told) (cur : Image) (last : StatementResult) (fault : EngineFault)
    → Reached m kind base statements (s ∷ rest) before now cur last → Failed (call_of m kind now next) cur s fault → RanTo (call_of m kind before next) tx base statements (codes.Stopped fault)
unfolding runs used
reached_fault m kind tx base statements s rest before now next cur last fault r f =
    ran_to m kind tx base statements (s ∷ rest) before now next cur last (Err fault ∷ []) (codes.Stopped fault) r
    (tells_more r.answers (Err fault) before now next r.told f.told)
    f.faults
    refl
    refl

too_large : (cur : Image) (last : StatementResult) (s : Statement) (rest : List Statement) (ran : StatementResult) → takes ran.after.pages ≡ false → runs cur last (s ∷ rest) (Ok ran ∷ []) ≡ TooLarge ran
unfolding runs
too_large cur last s rest ran refused = cond-false (takes ran.after.pages) (runs (image_after cur ran.after.pages) ran rest []) (TooLarge ran) refused

allows_last : (m : Meaning) (kind : EngineKind) (tx : ℕ) (cur : Image) (s : Statement) (rest : List Statement) (ran : StatementResult) → Answers m cur s tx ran → takes ran.after.pages ≡ false → AllowsAll m kind cur (s ∷ rest) (Ok ran ∷ [])
allows_last m kind tx cur s rest ran a refused =
    let gate : AllowsRest (takes ran.after.pages) (AllowsAll m kind (image_after cur ran.after.pages) rest []) = subst (λ (b : Bool). AllowsRest b (AllowsAll m kind (image_after cur ran.after.pages) rest [])) (sym refused) tt in
    ((tx, a), gate)

uses_last : (cur : Image) (s : Statement) (rest : List Statement) (ran : StatementResult) → takes ran.after.pages ≡ false → used cur (s ∷ rest) (Ok ran ∷ []) ≡ 1
unfolding used
uses_last cur s rest ran refused = ap suc (cond-false (takes ran.after.pages) (used (image_after cur ran.after.pages) rest []) 0 refused)

pub reached_too_far : (m : Meaning) (kind : EngineKind) (tx : ℕ) (base : Image) (statements : List Statement) (s : Statement) (rest : List Statement) (before now next : Option Told) (cur : Image) (last ran : StatementResult)
    → Reached m kind base statements (s ∷ rest) before now cur last → WentTooFar (call_of m kind now next) tx cur s ran → RanTo (call_of m kind before next) tx base statements (codes.TooLarge ran)
reached_too_far m kind tx base statements s rest before now next cur last ran r w =
    ran_to m kind tx base statements (s ∷ rest) before now next cur last (Ok ran ∷ []) (codes.TooLarge ran) r
    (tells_more r.answers (Ok ran) before now next r.told w.told)
    (allows_last m kind tx cur s rest ran w.answers w.refused)
    (uses_last cur s rest ran w.refused)
    (subst (λ (e : Ending). Shows tx base e (codes.TooLarge ran)) (sym (too_large cur last s rest ran w.refused)) refl)

abbrev the_set : ℕ → List NumberedPage → PageSet
the_set tx pages = record { tx = tx; pages = pages }

abbrev alone : StatementResult → AllRan
alone ran = record { together = None; answer = ran }

-- what comes of an answer to the only statement
pub ran_alone : (m : Meaning) (kind : EngineKind) (tx : ℕ) (base : Image) (s : Statement) (before now : Option Told) (ran : StatementResult) → Answers m base s tx ran → Tells (Ok ran) before now → RanTo (call_of m kind before now) tx base (s ∷ []) (ending_of ran)
ran_alone m kind tx base s before now ran a told =
    elim (cases_Bool (takes ran.after.pages)) [
      | inl taken ↦
          let to : Image = applied base ran.after.pages in
          let is : to ≡ a.after = leads_on m base s tx ran a in
          let change : ran.after ≡ record { tx = tx; pages = changed base to } = a.pages ∙ ap (λ (i : Image). the_set tx (changed base i)) (sym is) in
          let w : Went (call_of m kind before now) tx base s to ran = record { answers = a; told = told; taken = taken; image = refl } in
          let all : Reached m kind base (s ∷ []) [] before now to ran = reached_more m kind tx base (s ∷ []) s [] before before now base to no_answer ran (reached_start m kind base (s ∷ []) before) w in
          let e : ending_of ran ≡ codes.Ended (alone ran) = cond-true (takes ran.after.pages) (codes.Ended (alone ran)) (codes.TooLarge ran) taken in
          subst (λ (c : CodeEnding). RanTo (call_of m kind before now) tx base (s ∷ []) c) (sym e) (reached_end m kind tx base (s ∷ []) before now to ran (alone ran) all refl change)
      | inr refused ↦
          let w : WentTooFar (call_of m kind before now) tx base s ran = record { answers = a; told = told; refused = refused } in
          let e : ending_of ran ≡ codes.TooLarge ran = cond-false (takes ran.after.pages) (codes.Ended (alone ran)) (codes.TooLarge ran) refused in
          subst (λ (c : CodeEnding). RanTo (call_of m kind before now) tx base (s ∷ []) c) (sym e) (reached_too_far m kind tx base (s ∷ []) s [] before before now base no_answer ran (reached_start m kind base (s ∷ []) before) w)
    ]

pub failed_alone : (m : Meaning) (kind : EngineKind) (tx : ℕ) (base : Image) (s : Statement) (before now : Option Told) (fault : EngineFault) → Faults m kind base s fault → Tells (Err fault) before now → RanTo (call_of m kind before now) tx base (s ∷ []) (codes.Stopped fault)
failed_alone m kind tx base s before now fault faults told =
    reached_fault m kind tx base (s ∷ []) s [] before before now base no_answer fault (reached_start m kind base (s ∷ []) before) (record { faults = faults; told = told })
