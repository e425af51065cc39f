-- The outcome of a commit, by what code tells.
use Rattle.std.proofs.Common.{◌≡◌, ℕ, Bool, true, false, cond, is_none, not, List, Option, Some, None, Result, Ok, Err, IfOk, inl, inr, refl, sym, ap, subst}
use Rattle.std.specs.declared.alloc.AllocError.{AllocError}
use Rattle.std.proofs.lemmas.Bool.{cases_Bool, both_ways, or_from}
use Rattle.dq_base.specs.declared.images.Image.{Image}
use Rattle.dq_base.specs.declared.pages.NumberedPage.{NumberedPage}
use Rattle.dq_base.specs.Applying.{page_fault}
use Rattle.dq_base.specs.Changes.{changed}
use Rattle.dq_base.specs.Images.{page_count}
use Rattle.database_state.specs.Files.{empty_image}
use Rattle.session_spec.specs.Asking.{Commits}
use Rattle.session_spec.specs.Causes.{Cause as RuleCause, LogFull}
use Rattle.session_spec.specs.Engines.{Answer, no_pages}
use Rattle.session_spec.specs.Limits.{log_full, first_cause, change_refusal}
use Rattle.session_spec.specs.Machine.{Machine}
use Rattle.session_spec.specs.Requests.{unless, flying, change_of, with_tx, commit_in, has_nothing, committed, does}
use Rattle.session_spec.specs.Sessions.{Session, Gateway, View, Transaction, Turned, Answers, Proposes, Committing, Nothing, result}
use Rattle.session_table.specs.declared.cause.Cause.{Cause}
use Rattle.session_table.specs.Named.{cause_named}
use Rattle.session_outcomes.specs.declared.decision.Decision.{Decision}
use Rattle.session_outcomes.specs.declared.decision.Decision.TheVariants as decisions
use Rattle.session_outcomes.specs.Turning.{MatchesOutcome}
use Rattle.session_outcomes.specs.Hindered.{LeadsTo, Hinders}

-- pages that nothing hinders can be applied
pub free_taken : (pages : List NumberedPage) (r : Result ℕ Cause) (count : ℕ) (h : Image → Option RuleCause) → r ≡ Ok count → ((to : Image) → LeadsTo pages to → Hinders pages to (h to) r) → is_none (page_fault pages) ≡ true
free_taken pages r count h is free = elim (cases_Bool (is_none (page_fault pages))) [
  | inl taken ↦ taken
  | inr refused ↦ (subst (Hinders pages empty_image (h empty_image)) is (free empty_image (λ taken. absurd (both_ways (is_none (page_fault pages)) refused taken)))).2
]

module _ (v : View) (m : Machine) (s : Session) where
  -- after the test of the log's end
  behind : (r : Result Decision AllocError) (full : Bool) (h : Option RuleCause) (turned : Turned) → full ≡ false → IfOk r (MatchesOutcome v m s (unless h turned)) → IfOk r (MatchesOutcome v m s (unless (first_cause full LogFull h) turned))
  behind r full h turned is comes = subst (λ (b : Bool). IfOk r (MatchesOutcome v m s (unless (first_cause b LogFull h) turned))) (sym is) comes

  -- something hinders it
  pub stops : (full : Bool) (pages : List NumberedPage) (to : Image) (h : Option RuleCause) (r : Result ℕ Cause) (cause : Cause) (turned : Turned) → full ≡ false → r ≡ Err cause → Hinders pages to h r
      → MatchesOutcome v m s (unless (first_cause full LogFull h) turned) (decisions.Refused cause)
  stops full pages to h r cause turned has_room is hinders =
      let named : h ≡ Some (cause_named cause) = subst (Hinders pages to h) is hinders in
      behind (Ok (decisions.Refused cause)) full h turned has_room (subst (λ (o : Option RuleCause). MatchesOutcome v m s (unless o turned) (decisions.Refused cause)) (sym named) refl)

  -- nothing hinders it
  pub goes : (result : Result Decision AllocError) (full : Bool) (pages : List NumberedPage) (to : Image) (h : Option RuleCause) (r : Result ℕ Cause) (count : ℕ) (turned : ℕ → Turned) → full ≡ false → r ≡ Ok count → Hinders pages to h r
      → IfOk result (MatchesOutcome v m s (turned count)) → IfOk result (MatchesOutcome v m s (unless (first_cause full LogFull h) (turned (page_count to))))
  goes result full pages to h r count turned has_room is hinders comes =
      let free : (h ≡ None) × (count ≡ page_count to) × (is_none (page_fault pages) ≡ true) = subst (Hinders pages to h) is hinders in
      behind result full h (turned (page_count to)) has_room
      (subst (λ (o : Option RuleCause). IfOk result (MatchesOutcome v m s (unless o (turned (page_count to))))) (sym free.0)
      (subst (λ (n : ℕ). IfOk result (MatchesOutcome v m s (turned n))) free.1 comes))

-- the commit of an open transaction's pages
abbrev commit_of : View → Machine → Gateway → ℕ → Session → Transaction → List NumberedPage → Turned
commit_of v m g conn s x pages =
    unless (first_cause (log_full v) LogFull (change_refusal m g conn x.name x.mark pages x.working))
    (Proposes (flying v s x.name (change_of v x.name pages) (page_count x.working) Committing) (change_of v x.name pages) Nothing)

pub commits : (v : View) (m : Machine) (g : Gateway) (conn : ℕ) (s : Session) (x : Transaction) (pages : List NumberedPage) (r : Result Decision AllocError) (answers : List Answer) → s.tx ≡ Some x → x.turn ≡ true → pages ≡ changed x.pinned x.working
    → no_pages pages ≡ false → IfOk r (MatchesOutcome v m s (commit_of v m g conn s x pages)) → IfOk r (MatchesOutcome v m s (does v m g conn s Commits answers))
unfolding does committed
commits v m g conn s x pages r answers begun took is some comes =
    let all = changed x.pinned x.working in
    let here : has_nothing x ≡ false = or_from (not x.turn) (no_pages all) (ap not took) (subst (λ (ps : List NumberedPage). no_pages ps ≡ false) is some) in
    let there : IfOk r (MatchesOutcome v m s (commit_of v m g conn s x all)) = subst (λ (ps : List NumberedPage). IfOk r (MatchesOutcome v m s (commit_of v m g conn s x ps))) is comes in
    subst (λ (o : Option Transaction). IfOk r (MatchesOutcome v m s (commit_in v m g conn s o))) (sym begun)
    (subst (λ (b : Bool). IfOk r (MatchesOutcome v m s (cond b (Answers (with_tx s None) (result 0) Nothing) (commit_of v m g conn s x all)))) (sym here) there)
