-- Two runs of one script, line by line.
use Rattle.std.proofs.Common.{◌≡◌, ℕ, suc, Bool, true, false, cond, List, [], ◌∷◌, ◌++◌, map, Option, Some, None, refl, sym, ap, subst, ◌∙◌, append_assoc, append-nil}
use Rattle.std.specs.Prelude.{nat_le}
use Rattle.std.specs.Option.{option_map}
use Rattle.std.proofs.lemmas.List.{map-append}
use Rattle.script_grammar.specs.ScriptSize.{line_count_limit}
use Rattle.script_grammar.specs.Lines.{lines_of}
use Rattle.script_grammar.specs.Grammar.{line_of}
use Rattle.script_grammar.specs.declared.grammar.ScriptLine.{ScriptLine}
use Rattle.script_grammar.specs.declared.grammar.ScriptLine.TheVariants as says
use Rattle.script_grammar.specs.declared.usage.Usage.{Usage}
use Rattle.script_cluster.specs.declared.cluster_line.ClusterLine.{ClusterLine as NodeSaid}
use Rattle.script_cluster.specs.Knowing.{outcomes_in, outcomes_over, with_over}
use Rattle.script_cluster.specs.Outcomes.{Outcome, Turn}
use Rattle.script_cluster.specs.Run as nodes
use Rattle.script_cluster.specs.Run.{Fault, Line, Large, Untold, fault_by, fault_text}
use Rattle.script_cluster.specs.World.{World, Halt, Went, shown, takes, opened}
use Rattle.script_machines.specs.Machines.{Fleet}
use Rattle.script_runner.specs.Ending.{IsBeside}
use Rattle.script_runner.specs.Run.{Said, OfNodes, Stage, AtNodes, AtMachines, Next, Run, at_nodes, stops, line_step, said_step, step, onward, said_before, ends_at, closing, turns_at, over_at, journal_at, run_from, run, text_of, printed}
use Rattle.script_runner.proofs.Growing.{run_grows}
use Rattle.script_runner.proofs.Printed.{text_of-append}
use Rattle.script_determinism.specs.Plain.{plain_turns, plain_items}
use Rattle.script_determinism.specs.Nodes.{Nodes, AreLed, AreExact, MayCrash}
use Rattle.script_determinism.specs.Repeats.{AreAlike, IsLed, StartWith, EndsBefore, Compared, Same, Shorter, Longer, RunsCompare, IsWhole, FrontsRepeat, BrokenRunsRepeat, WholeRunsRepeat}
use Rattle.script_determinism.proofs.Using.{over_behind, only_crashes}
use Rattle.script_determinism.proofs.Paths.{led_front, led_crashes}
use Rattle.script_determinism.proofs.Going.{Beside, Past, world_with, beside_of, past_of, SamePast, SameWorld, GoShort, FitsBy, Together, takes_repeats, opened_repeats}
use Rattle.script_determinism.proofs.Going as going

-- ---- stages

-- if a script is, except for what happened and what is to come
data Form : Type 0 where
  Before : Form
  Among : Beside → Form
  OfMachines : Usage → Fleet → Form

abbrev stage_with : Form → Past → Stage
stage_with Before h = AtNodes (nodes.Opening h.outcomes)
stage_with (Among x) h = AtNodes (nodes.Within (world_with x h))
stage_with (OfMachines usage fleet) h = AtMachines usage fleet

record SameStage (one other : Stage) : Type 0 where
  form : Form
  past : Past
  also : Past
  same : SamePast past also
  one_is : one ≡ stage_with form past
  other_is : other ≡ stage_with form also

stage_itself : (stage : Stage) → SameStage stage stage
stage_itself (AtNodes (nodes.Opening outcomes)) =
    let h : Past = record { turns = []; journal = []; outcomes = outcomes; over = None } in
    record { form = Before; past = h; also = h; same = record { turns = refl; journal = refl }; one_is = refl; other_is = refl }
stage_itself (AtNodes (nodes.Within w)) = record { form = Among (beside_of w); past = past_of w; also = past_of w; same = record { turns = refl; journal = refl }; one_is = refl; other_is = refl }
stage_itself (AtMachines usage fleet) =
    let h : Past = record { turns = []; journal = []; outcomes = []; over = None } in
    record { form = OfMachines usage fleet; past = h; also = h; same = record { turns = refl; journal = refl }; one_is = refl; other_is = refl }

form_stage : (form : Form) (h k : Past) → SamePast h k → SameStage (stage_with form h) (stage_with form k)
form_stage form h k same = record { form = form; past = h; also = k; same = same; one_is = refl; other_is = refl }

world_stage : (w v : World) → SameWorld w v → SameStage (AtNodes (nodes.Within w)) (AtNodes (nodes.Within v))
world_stage w v s = record {
  form = Among (beside_of w);
  past = past_of w;
  also = past_of v;
  same = s.past;
  one_is = refl;
  other_is = ap (λ (x : Beside). AtNodes (nodes.Within (world_with x (past_of v)))) (sym s.beside);
}

-- what they show of it
record Shows (one other : Stage) : Type 0 where
  turns : plain_turns (turns_at one) ≡ plain_turns (turns_at other)
  journal : plain_items (journal_at one) ≡ plain_items (journal_at other)
  said : closing one ≡ closing other

form_shows : (form : Form) (h k : Past) → SamePast h k → Shows (stage_with form h) (stage_with form k)
form_shows Before h k same = record { turns = refl; journal = refl; said = refl }
form_shows (Among x) h k same = record { turns = same.turns; journal = same.journal; said = refl }
form_shows (OfMachines usage fleet) h k same = record { turns = refl; journal = refl; said = refl }

stage_shows : (one other : Stage) → SameStage one other → Shows one other
stage_shows one other s =
    subst (λ (a : Stage). Shows a other) (sym s.one_is) (subst (λ (b : Stage). Shows (stage_with s.form s.past) b) (sym s.other_is) (form_shows s.form s.past s.also s.same))

-- ---- lines

record NextAlike (one other : Next) : Type 0 where
  stage : SameStage one.stage other.stage
  said : one.said ≡ other.said
  fault : one.fault ≡ other.fault

record NextShort (one other : Next) : Type 0 where
  early : one.fault ≡ Some Untold
  front : StartWith other.said one.said

data NextTogether (one other : Next) : Type 0 where
  Alike : NextAlike one other → NextTogether one other
  Ends : NextShort one other → NextTogether one other
  Goes : NextShort other one → NextTogether one other

next_itself : (next : Next) → NextTogether next next
next_itself next = Alike (record { stage = stage_itself next.stage; said = refl; fault = refl })

-- the next of what went
abbrev next_of : ℕ → Went → Next
next_of number went = at_nodes (nodes.next_by number went)

map_front : (said front : List NodeSaid) → StartWith said front → StartWith (map OfNodes said) (map OfNodes front)
map_front said front s = (map OfNodes s.0, ap (map OfNodes) s.1 ∙ map-append OfNodes front s.0)

next_short : (number : ℕ) (one other : Went) → GoShort one other → NextShort (next_of number one) (next_of number other)
next_short number one other s = record { early = ap (option_map (fault_by number)) s.cut; front = map_front other.said one.said s.front }

next_together : (number : ℕ) (one other : Went) → Together one other → NextTogether (next_of number one) (next_of number other)
next_together number one other (going.Alike s) = Alike (record {
  stage = world_stage one.world other.world s.world;
  said = ap (map OfNodes) s.said;
  fault = ap (option_map (fault_by number)) s.halt;
})
next_together number one other (going.Shorter s) = Ends (next_short number one other s)
next_together number one other (going.Longer s) = Goes (next_short number other one s)

module _ (places : Nodes) (exact : AreExact places) where
  abbrev FitsStage : Option Fault → Stage → Type 0
  FitsStage None stage = AreLed places (turns_at stage)
  FitsStage (Some fault) stage = AreLed places (with_over (turns_at stage) (over_at stage))

  abbrev FitsNext : Next → Type 0
  FitsNext next = FitsStage next.fault next.stage

  went_fits : (number : ℕ) (w : World) (halt : Option Halt) → FitsStage (option_map (fault_by number) halt) (AtNodes (nodes.Within w)) → FitsBy places exact halt w
  went_fits number w None fits = fits
  went_fits number w (Some why) fits = fits

  -- a line leads to the same from both
  abbrev StepsAlike : (Stage → Next) → Type 0
  StepsAlike go = (form : Form) (h k : Past) → SamePast h k → FitsNext (go (stage_with form h)) → FitsNext (go (stage_with form k)) → NextTogether (go (stage_with form h)) (go (stage_with form k))

  stops_alike : (fault : Fault) → StepsAlike (λ (s : Stage). stops s fault)
  stops_alike fault form h k same a b = Alike (record { stage = form_stage form h k same; said = refl; fault = refl })

  show_alike : (number : ℕ) (x : Beside) (h k : Past) (say : Option NodeSaid) → SamePast h k
      → NextTogether (at_nodes (nodes.shows (nodes.Within (world_with x h)) number say)) (at_nodes (nodes.shows (nodes.Within (world_with x k)) number say))
  show_alike number x h k None same = Alike (record { stage = form_stage (Among x) h k same; said = refl; fault = refl })
  show_alike number x h k (Some say) same = Alike (record { stage = form_stage (Among x) h k same; said = refl; fault = refl })

  line_alike : (number : ℕ) (line : ScriptLine) → StepsAlike (λ (s : Stage). line_step s number line)
  unfolding line_step nodes.line_step
  line_alike number says.Blank Before h k same a b = Alike (record { stage = form_stage Before h k same; said = refl; fault = refl })
  line_alike number (says.Nodes voters spare) Before h k same a b =
      next_together number (opened voters spare h.outcomes) (opened voters spare k.outcomes) (opened_repeats places exact voters spare h.outcomes k.outcomes (went_fits number _ (opened voters spare h.outcomes).halt a) (went_fits number _ (opened voters spare k.outcomes).halt b))
  line_alike number (says.Pages machines) Before h k same a b = next_itself _
  line_alike number (says.Show node) Before h k same a b = stops_alike (Line number) Before h k same a b
  line_alike number (says.Event e aim) Before h k same a b = stops_alike (Line number) Before h k same a b
  line_alike number says.Blank (Among x) h k same a b = Alike (record { stage = form_stage (Among x) h k same; said = refl; fault = refl })
  line_alike number (says.Nodes voters spare) (Among x) h k same a b = stops_alike (Line number) (Among x) h k same a b
  line_alike number (says.Pages machines) (Among x) h k same a b = stops_alike (Line number) (Among x) h k same a b
  line_alike number (says.Show node) (Among x) h k same a b = show_alike number x h k (shown (world_with x h) node) same
  line_alike number (says.Event e aim) (Among x) h k same a b =
      next_together number (takes (world_with x h) e aim) (takes (world_with x k) e aim) (takes_repeats places exact e aim x h k same (went_fits number _ (takes (world_with x h) e aim).halt a) (went_fits number _ (takes (world_with x k) e aim).halt b))
  line_alike number line (OfMachines usage fleet) h k same a b = next_itself _

  said_alike : (number : ℕ) (line : Option ScriptLine) → StepsAlike (λ (s : Stage). said_step s number line)
  said_alike number None = stops_alike (Line number)
  said_alike number (Some line) = line_alike number line

  few_alike : (few : Bool) (number : ℕ) (line : Option ScriptLine) → StepsAlike (λ (s : Stage). cond few (said_step s number line) (stops s Large))
  few_alike true number line = said_alike number line
  few_alike false number line = stops_alike Large

  step_alike : (number : ℕ) (line : List ℕ) → StepsAlike (λ (s : Stage). step s number line)
  unfolding step
  step_alike number line = few_alike (nat_le number line_count_limit) number (line_of line)

  -- ---- runs

  abbrev FitsRun : Run → Type 0
  FitsRun r = IsLed places r

  run_fits : (r : Run) (over : Option Turn) → AreLed places (with_over r.turns over) → AreLed places r.turns
  run_fits r None led = led
  run_fits r (Some turn) led = led_front places r.turns (turn ∷ []) led

  runs_behind : (p q : Run) (said also : List Said) → said ≡ also → Compared p q → Compared (said_before said p) (said_before also q)
  runs_behind p q said also e (Same s) = Same (record { said = λ i. e i ++ s.said i; fault = s.fault; turns = s.turns; journal = s.journal })
  runs_behind p q said also e (Shorter s) = Shorter (record { early = s.early; front = (s.front.0, ap (λ (all : List Said). also ++ all) s.front.1 ∙ ap (λ (all : List Said). all ++ (p.said ++ s.front.0)) (sym e) ∙ sym (append_assoc said p.said s.front.0)) })
  runs_behind p q said also e (Longer s) = Longer (record { early = s.early; front = (s.front.0, ap (λ (all : List Said). said ++ all) s.front.1 ∙ ap (λ (all : List Said). all ++ (q.said ++ s.front.0)) e ∙ sym (append_assoc also q.said s.front.0)) })

  -- where it ends
  ends_alike : (one other : Next) (fault : Option Fault) (said also : List Said) → SameStage one.stage other.stage → said ≡ also → AreAlike (ends_at one.stage said fault) (ends_at other.stage also fault)
  ends_alike one other fault said also s e = let x = stage_shows one.stage other.stage s in record { said = e; fault = refl; turns = x.turns; journal = x.journal }

  module _ (go : Stage → Run) (grows : (s : Stage) → StartWith (go s).turns (turns_at s)) (leads : (form : Form) (h k : Past) → SamePast h k → FitsRun (go (stage_with form h)) → FitsRun (go (stage_with form k)) → Compared (go (stage_with form h)) (go (stage_with form k))) where
    next_fits : (next : Next) (fault : Option Fault) → FitsRun (onward go next fault) → FitsStage fault next.stage
    next_fits next None fits =
        led_front places (turns_at next.stage) (grows next.stage).0 (subst (AreLed places) (grows next.stage).1 (run_fits (go next.stage) (go next.stage).over fits))
    next_fits next (Some fault) fits = fits

    goes_on : (one other : Stage) → SameStage one other → FitsRun (go one) → FitsRun (go other) → Compared (go one) (go other)
    goes_on one other s =
        subst (λ (a : Stage). FitsRun (go a) → FitsRun (go other) → Compared (go a) (go other)) (sym s.one_is)
        (subst (λ (b : Stage). FitsRun (go (stage_with s.form s.past)) → FitsRun (go b) → Compared (go (stage_with s.form s.past)) (go b)) (sym s.other_is) (leads s.form s.past s.also s.same))

    both_on : (one other : Next) → NextAlike one other → (a b : Option Fault) → a ≡ b → FitsRun (onward go one a) → FitsRun (onward go other b) → Compared (onward go one a) (onward go other b)
    both_on one other s None None e fits also = runs_behind (go one.stage) (go other.stage) one.said other.said s.said (goes_on one.stage other.stage s.stage fits also)
    both_on one other s (Some fault) (Some why) e fits also =
        let x = stage_shows one.stage other.stage s.stage in
        Same (record { said = s.said; fault = e; turns = x.turns; journal = x.journal })
    both_on one other s None (Some why) e fits also = absurd cc
    both_on one other s (Some fault) None e fits also = absurd cc

    longer : (other : Next) (front : List Said) (b : Option Fault) → StartWith other.said front → StartWith (onward go other b).said front
    longer other front None s = (s.0 ++ (go other.stage).said, ap (λ (all : List Said). all ++ (go other.stage).said) s.1 ∙ append_assoc front s.0 (go other.stage).said)
    longer other front (Some why) s = s

    short_on : (one other : Next) → NextShort one other → (a b : Option Fault) → a ≡ Some Untold → EndsBefore (onward go one a) (onward go other b)
    short_on one other s None b early = absurd cc
    short_on one other s (Some fault) b early = record { early = early; front = longer other one.said b s.front }

    onward_compared : (one other : Next) → NextTogether one other → FitsRun (onward go one one.fault) → FitsRun (onward go other other.fault) → Compared (onward go one one.fault) (onward go other other.fault)
    onward_compared one other (Alike s) fits also = both_on one other s one.fault other.fault s.fault fits also
    onward_compared one other (Ends s) fits also = Shorter (short_on one other s one.fault other.fault s.early)
    onward_compared one other (Goes s) fits also = Longer (short_on other one s other.fault one.fault s.early)

  runs_compared : (lines : List (List ℕ)) (number : ℕ) (form : Form) (h k : Past) → SamePast h k → FitsRun (run_from (stage_with form h) number lines) → FitsRun (run_from (stage_with form k) number lines)
      → Compared (run_from (stage_with form h) number lines) (run_from (stage_with form k) number lines)
  runs_compared [] number form h k same fits also = let x = form_shows form h k same in Same (record { said = x.said; fault = refl; turns = x.turns; journal = x.journal })
  runs_compared (line ∷ lines) number form h k same fits also =
      let go = λ (s : Stage). run_from s (suc number) lines in
      let grows = λ (s : Stage). run_grows s (suc number) lines in
      let leads = runs_compared lines (suc number) in
      let one = step (stage_with form h) number line in
      let other = step (stage_with form k) number line in
      onward_compared go grows leads one other
      (step_alike number line form h k same (next_fits go grows leads one one.fault fits) (next_fits go grows leads other other.fault also)) fits also

-- ---- the laws

pub runs_compare : (places : Nodes) → RunsCompare places
runs_compare places exact script one other fits also =
    runs_compared places exact (lines_of script) 1 Before (record { turns = []; journal = []; outcomes = one; over = None }) (record { turns = []; journal = []; outcomes = other; over = None })
    (record { turns = refl; journal = refl }) fits also

prints_same : (one other : Run) → AreAlike one other → (printed one ≡ printed other) × (one.fault ≡ other.fault)
prints_same one other s = ((λ i. text_of (s.said i) ++ fault_text (s.fault i)), s.fault)

whole_same : (one other : Run) → Compared one other → IsWhole one.fault → IsWhole other.fault → (printed one ≡ printed other) × (one.fault ≡ other.fault)
whole_same one other (Same s) whole also = prints_same one other s
whole_same one other (Shorter s) whole also = absurd (whole s.early)
whole_same one other (Longer s) whole also = absurd (also s.early)

front_printed : (one other : Run) → EndsBefore one other → StartWith (printed other) (printed one)
front_printed one other s =
    let rest = text_of s.front.0 ++ fault_text other.fault in (
      rest,
      ap (λ (said : List Said). text_of said ++ fault_text other.fault) s.front.1
          ∙ ap (λ (text : List ℕ). text ++ fault_text other.fault) (text_of-append one.said s.front.0)
          ∙ append_assoc (text_of one.said) (text_of s.front.0) (fault_text other.fault)
          ∙ ap (λ (text : List ℕ). text ++ rest) (sym (ap (λ (end : List ℕ). text_of one.said ++ end) (ap fault_text s.early) ∙ append-nil (text_of one.said))),
    )

fronts_same : (one other : Run) → Compared one other → IsWhole other.fault → StartWith (printed other) (printed one)
fronts_same one other (Same s) whole = ([], sym (prints_same one other s).0 ∙ sym (append-nil (printed one)))
fronts_same one other (Shorter s) whole = front_printed one other s
fronts_same one other (Longer s) whole = absurd (whole s.early)

pub fronts_repeat : (places : Nodes) → FrontsRepeat places
fronts_repeat places exact script one other fits also whole = fronts_same (run script one) (run script other) (runs_compare places exact script one other fits also) whole

-- a run that broke off did what its nodes do, up to its end
broken_led : (places : Nodes) → MayCrash places → (script : List ℕ) (outcomes : List Outcome) (turns : List Turn) (over : Option Turn) → AreLed places (with_over turns over) → outcomes_in turns ++ outcomes_over over ≡ outcomes
    → StartWith (run script outcomes).turns turns → IsBeside turns over (run script outcomes) → IsLed places (run script outcomes)
broken_led places may script outcomes turns None led uses begins beside =
    let r = run script outcomes in
    let crashes = only_crashes script outcomes turns begins.0 (sym (append-nil (outcomes_in turns)) ∙ uses) begins.1 in
    subst (AreLed places) (sym (ap (λ (ts : List Turn). with_over ts r.over) begins.1 ∙ over_behind turns begins.0 r.over)) (led_crashes places may turns (with_over begins.0 r.over) crashes led)
broken_led places may script outcomes turns (Some turn) led uses begins beside =
    subst (AreLed places) (λ i. with_over (sym beside.0 i) (sym beside.1 i)) led

pub broken_runs_repeat : (places : Nodes) → BrokenRunsRepeat places
broken_runs_repeat places exact may script one other broke also whole =
    fronts_repeat places exact script one other (broken_led places may script one broke.turns broke.over broke.led broke.uses broke.begins broke.beside) also whole

pub whole_runs_repeat : (places : Nodes) → WholeRunsRepeat places
whole_runs_repeat places exact script one other fits also whole whole_too = whole_same (run script one) (run script other) (runs_compare places exact script one other fits also) whole whole_too
