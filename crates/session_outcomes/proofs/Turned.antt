-- What is refused, and what continues.
use Rattle.std.proofs.Common.{◌≡◌, ℕ, Bool, true, false, ◌||◌, is_none, List, suc, map, Option, Some, None, Result, Ok, Err, IfOk, inl, inr, refl, sym, subst}
use Rattle.dq_base.specs.declared.pages.NumberedPage.{NumberedPage}
use Rattle.dq_base.specs.declared.images.Image.{Image}
use Rattle.dq_base.specs.Applying.{page_fault}
use Rattle.std.specs.declared.alloc.AllocError.{AllocError}
use Rattle.std.proofs.lemmas.Bool.{cases_Bool, both_ways}
use Rattle.dq_base.specs.declared.pages.PageSet.{PageSet}
use Rattle.dq_base.specs.Images.{page_count}
use Rattle.log_commands.specs.Splitting.{split}
use Rattle.sql_engine.specs.declared.answer.StatementResult.{StatementResult}
use Rattle.database_state.specs.Files.{empty_image}
use Rattle.session_spec.specs.Entries.{Content, Does, tx_of}
use Rattle.session_spec.specs.Limits.{first_cause}
use Rattle.session_spec.specs.Causes.{Cause as RuleCause, LogFull}
use Rattle.session_spec.specs.Engines.{no_pages, takes}
use Rattle.session_spec.specs.Machine.{Machine}
use Rattle.session_spec.specs.Sessions.{Session, View, Turned, Note, Writing, Proposes}
use Rattle.session_spec.specs.Requests.{unless, row_cause, reply_of, change_of, flying}
use Rattle.session_table.specs.declared.cause.Cause.{Cause}
use Rattle.session_table.specs.declared.cause.Cause.TheVariants as causes
use Rattle.session_table.specs.Named.{cause_named}
use Rattle.session_outcomes.specs.Hindered.{LeadsTo, Hinders}
use Rattle.session_outcomes.specs.Runs.{AreTaken}
use Rattle.session_outcomes.specs.declared.decision.Decision.{Decision}
use Rattle.session_outcomes.specs.declared.decision.Decision.TheVariants as decisions
use Rattle.session_outcomes.specs.Turning.{MatchesOutcome}

module _ (v : View) (m : Machine) (s : Session) where
  pub stops : (hindrance : Option RuleCause) (cause : Cause) (turned : Turned) → hindrance ≡ Some (cause_named cause) → MatchesOutcome v m s (unless hindrance turned) (decisions.Refused cause)
  stops hindrance cause turned is = subst (λ (h : Option RuleCause). MatchesOutcome v m s (unless h turned) (decisions.Refused cause)) (sym is) refl

  pub goes : (hindrance : Option RuleCause) (turned : Turned) (decision : Decision) → hindrance ≡ None → MatchesOutcome v m s turned decision → MatchesOutcome v m s (unless hindrance turned) decision
  goes hindrance turned decision is comes = subst (λ (h : Option RuleCause). MatchesOutcome v m s (unless h turned) decision) (sym is) comes

module _ (v : View) (m : Machine) (s : Session) (r : Result Decision AllocError) where
  -- after the test of the log's end
  pub log_full_first : (full : Bool) (later : Option RuleCause) (turned : Turned) → full ≡ true → MatchesOutcome v m s (unless (first_cause full LogFull later) turned) (decisions.Refused causes.LogFull)
  log_full_first full later turned is = subst (λ (b : Bool). MatchesOutcome v m s (unless (first_cause b LogFull later) turned) (decisions.Refused causes.LogFull)) (sym is) refl

  pub behind_log : (full : Bool) (cause : Option RuleCause) (turned : Turned) → full ≡ false → IfOk r (MatchesOutcome v m s (unless cause turned)) → IfOk r (MatchesOutcome v m s (unless (first_cause full LogFull cause) turned))
  behind_log full cause turned is comes = subst (λ (b : Bool). IfOk r (MatchesOutcome v m s (unless (first_cause b LogFull cause) turned))) (sym is) comes

  -- a write that nothing hinders
  abbrev pub proposes : List ℕ → Bool → StatementResult → Note → List Content → ℕ → Turned
  proposes name rows answer note contents count = Proposes (flying v s name contents count (Writing (reply_of rows answer))) contents note

  pub goes_on : (name : List ℕ) (rows : Bool) (answer : StatementResult) (note : Note) (full : Bool) (hindrance : Option RuleCause) (set : PageSet) (count : ℕ) (to : Image)
      → full ≡ false → hindrance ≡ None → count ≡ page_count to → set.tx ≡ tx_of v.term (suc v.last)
      → IfOk r (MatchesOutcome v m s (unless (row_cause rows answer None) (proposes name rows answer note (map Does (split name set)) count)))
      → IfOk r (MatchesOutcome v m s (unless (first_cause full LogFull (row_cause rows answer hindrance)) (proposes name rows answer note (change_of v name set.pages) (page_count to))))
  goes_on name rows answer note full hindrance set count to not_full none counted number comes =
      behind_log full (row_cause rows answer hindrance) (proposes name rows answer note (change_of v name set.pages) (page_count to)) not_full
      (subst (λ (h : Option RuleCause). IfOk r (MatchesOutcome v m s (unless (row_cause rows answer h) (proposes name rows answer note (change_of v name set.pages) (page_count to))))) (sym none)
      (subst (λ (n : ℕ). IfOk r (MatchesOutcome v m s (unless (row_cause rows answer None) (proposes name rows answer note (change_of v name set.pages) n)))) counted
      (subst (λ (tx : ℕ). IfOk r (MatchesOutcome v m s (unless (row_cause rows answer None) (proposes name rows answer note (map Does (split name (record { tx = tx; pages = set.pages }))) count)))) number comes)))

-- pages that nothing hinders can be applied
pub always_taken : (pages : List NumberedPage) (count : ℕ) (hindrance : Image → Option RuleCause) → ((to : Image) → LeadsTo pages to → Hinders pages to (hindrance to) (Ok count)) → is_none (page_fault pages) ≡ true
always_taken pages count hindrance free = elim (cases_Bool (is_none (page_fault pages))) [
  | inl taken ↦ taken
  | inr refused ↦ (free empty_image (λ taken. absurd (both_ways (is_none (page_fault pages)) refused taken))).2
]

pub taken_of : (pages : List NumberedPage) (hindrance : Image → Option RuleCause) (r : Result (Result ℕ Cause) AllocError) → ((to : Image) → LeadsTo pages to → IfOk r (Hinders pages to (hindrance to))) → IfOk r (AreTaken pages)
taken_of pages hindrance (Ok (Ok count)) free = always_taken pages count hindrance free
taken_of pages hindrance (Ok (Err cause)) free = tt
taken_of pages hindrance (Err e) free = tt

pub leads_anyway : (pages : List NumberedPage) (to : Image) → is_none (page_fault pages) ≡ false → LeadsTo pages to
leads_anyway pages to refused = λ taken. absurd (both_ways (is_none (page_fault pages)) refused taken)

-- pages that can't be applied are always hindered
pub never_free : (pages : List NumberedPage) (to : Image) (hindrance : Option RuleCause) (count : ℕ) → is_none (page_fault pages) ≡ false → Hinders pages to hindrance (Ok count) → ⊥
never_free pages to hindrance count refused free = both_ways (is_none (page_fault pages)) refused free.2

-- pages that can be applied are taken
pub taken_not : (pages : List NumberedPage) → takes pages ≡ false → (no_pages pages ≡ false) × (is_none (page_fault pages) ≡ false)
unfolding takes
taken_not pages e = by (no_pages pages) (is_none (page_fault pages)) e
  where
    by : (a b : Bool) → (a || b) ≡ false → (a ≡ false) × (b ≡ false)
    by true b f = absurd cc
    by false b f = (refl, f)
