-- What happens at the nodes of a script is as in the run of nodes.
use Rattle.std.proofs.Common.{◌≡◌, ℕ, suc, Bool, true, false, cond, List, [], ◌∷◌, Option, Some, None, refl, sym, subst}
use Rattle.script_grammar.specs.ScriptSize.{line_count_limit}
use Rattle.std.specs.Prelude.{nat_le}
use Rattle.script_grammar.specs.Lines.{lines_of}
use Rattle.script_grammar.specs.Grammar.{line_of}
use Rattle.script_grammar.specs.Usage.{with_event}
use Rattle.script_grammar.specs.declared.grammar.ScriptLine.{ScriptLine}
use Rattle.script_grammar.specs.declared.grammar.ScriptLine.TheVariants as says
use Rattle.script_grammar.specs.declared.usage.Usage.{Usage}
use Rattle.script_cluster.specs.Outcomes.{Outcome, Turn, Item}
use Rattle.script_cluster.specs.Run as nodes
use Rattle.script_machines.specs.declared.machine_line.MachineLine.{MachineLine as MachineSaid}
use Rattle.script_machines.specs.Machines.{Fleet, applies, standing_of}
use Rattle.script_cluster.specs.Run.{Fault, Line, Large}
use Rattle.script_runner.specs.Run.{Stage, AtNodes, AtMachines, Next, Run, at_nodes, stops, shows, counts, after_event, line_step, said_step, step, onward, turns_at, journal_at, run_from, run}

-- the same happened at nodes, and the same was noted
pub record Alike (r : Run) (turns : List Turn) (journal : List Item) : Type 0 where
  pub turns_are : r.turns ≡ turns
  pub journal_is : r.journal ≡ journal

-- ---- among state machines nothing happens at nodes, and nothing is noted

abbrev IsMachines : Stage → Type 0
IsMachines (AtNodes stage) = ⊥
IsMachines (AtMachines usage fleet) = Unit {0}

show_stays : (usage : Usage) (fleet : Fleet) (number : ℕ) (o : Option MachineSaid) → IsMachines (shows usage fleet number o).stage
show_stays usage fleet number None = tt
show_stays usage fleet number (Some say) = tt

counts_stay : (usage : Usage) (fleet : Fleet) (next : Fleet × List MachineSaid) (o : Option Usage) → IsMachines (counts usage fleet next o).stage
counts_stay usage fleet next None = tt
counts_stay usage fleet next (Some more) = tt

event_stays : (usage : Usage) (fleet : Fleet) (number : ℕ) (o : Option (Fleet × List MachineSaid)) → IsMachines (after_event usage fleet number o).stage
event_stays usage fleet number None = tt
event_stays usage fleet number (Some next) = counts_stay usage fleet next (with_event usage)

line_stays : (usage : Usage) (fleet : Fleet) (number : ℕ) (line : ScriptLine) → IsMachines (line_step (AtMachines usage fleet) number line).stage
unfolding line_step
line_stays usage fleet number says.Blank = tt
line_stays usage fleet number (says.Nodes voters spare) = tt
line_stays usage fleet number (says.Pages machines) = tt
line_stays usage fleet number (says.Show machine) = show_stays usage fleet number (standing_of fleet machine)
line_stays usage fleet number (says.Event event aim) = event_stays usage fleet number (applies fleet event)

said_stays : (usage : Usage) (fleet : Fleet) (number : ℕ) (line : Option ScriptLine) → IsMachines (said_step (AtMachines usage fleet) number line).stage
said_stays usage fleet number None = tt
said_stays usage fleet number (Some line) = line_stays usage fleet number line

few_stay : (few : Bool) (usage : Usage) (fleet : Fleet) (next : Next) → IsMachines next.stage → IsMachines (cond few next (stops (AtMachines usage fleet) Large)).stage
few_stay true usage fleet next stays = stays
few_stay false usage fleet next stays = tt

step_stays : (usage : Usage) (fleet : Fleet) (number : ℕ) (line : List ℕ) → IsMachines (step (AtMachines usage fleet) number line).stage
unfolding step
step_stays usage fleet number line = few_stay _ usage fleet (said_step (AtMachines usage fleet) number (line_of line)) (said_stays usage fleet number (line_of line))

ends_quiet : (stage : Stage) → IsMachines stage → (turns_at stage ≡ []) × (journal_at stage ≡ [])
ends_quiet (AtNodes stage) is = absurd is
ends_quiet (AtMachines usage fleet) is = (refl, refl)

quiet : (stage : Stage) (number : ℕ) (lines : List (List ℕ)) → IsMachines stage → Alike (run_from stage number lines) [] []
quiet stage number [] is = let e = ends_quiet stage is in record { turns_are = e.0; journal_is = e.1 }
quiet (AtNodes stage) number (line ∷ lines) is = absurd is
quiet (AtMachines usage fleet) number (line ∷ lines) is =
    let next = step (AtMachines usage fleet) number line in
    let later = step_stays usage fleet number line in
    let P : Option Fault → Type 0 = λ o. Alike (onward (λ (s : Stage). run_from s (suc number) lines) next o) [] [] in
    elim next.fault as P [
      | None ↦ let w = quiet next.stage (suc number) lines later in record { turns_are = w.turns_are; journal_is = w.journal_is }
      | Some fault ↦ let e = ends_quiet next.stage later in record { turns_are = e.0; journal_is = e.1 }
    ]

-- ---- among nodes

-- a line leads as in the run of nodes; or to state machines, if the run of nodes ends with nothing
pub data Twin (next : Next) (other : nodes.Next) : Type 0 where
  Same : next ≡ at_nodes other → Twin next other
  Parted : IsMachines next.stage → (fault : Fault) (outcomes : List Outcome) → other ≡ nodes.stops (nodes.Opening outcomes) fault → Twin next other

line_twin : (stage : nodes.Stage) (number : ℕ) (line : ScriptLine) → Twin (line_step (AtNodes stage) number line) (nodes.line_step stage number line)
unfolding line_step nodes.line_step
line_twin stage number says.Blank = Same refl
line_twin stage number (says.Nodes voters spare) = Same refl
line_twin (nodes.Opening outcomes) number (says.Pages machines) = Parted tt (Line number) outcomes refl
line_twin (nodes.Within w) number (says.Pages machines) = Same refl
line_twin stage number (says.Show node) = Same refl
line_twin stage number (says.Event event aim) = Same refl

said_twin : (stage : nodes.Stage) (number : ℕ) (line : Option ScriptLine) → Twin (said_step (AtNodes stage) number line) (nodes.said_step stage number line)
said_twin stage number None = Same refl
said_twin stage number (Some line) = line_twin stage number line

few_twin : (few : Bool) (stage : nodes.Stage) (next : Next) (other : nodes.Next) → Twin next other → Twin (cond few next (stops (AtNodes stage) Large)) (cond few other (nodes.stops stage Large))
few_twin true stage next other twin = twin
few_twin false stage next other twin = Same refl

step_twin : (stage : nodes.Stage) (number : ℕ) (line : List ℕ) → Twin (step (AtNodes stage) number line) (nodes.step stage number line)
unfolding step nodes.step
step_twin stage number line = few_twin (nat_le number line_count_limit) stage (said_step (AtNodes stage) number (line_of line)) (nodes.said_step stage number (line_of line)) (said_twin stage number (line_of line))

-- what nodes' run from there has of turns and of notes
abbrev IsAlike : Run → nodes.Run → Type 0
IsAlike r other = Alike r other.turns other.journal

runs_twin : (stage : nodes.Stage) (number : ℕ) (lines : List (List ℕ)) → IsAlike (run_from (AtNodes stage) number lines) (nodes.run_from stage number lines)
runs_twin stage number [] = record { turns_are = refl; journal_is = refl }
runs_twin stage number (line ∷ lines) =
    let next = step (AtNodes stage) number line in
    let other = nodes.step stage number line in
    let go = λ (s : Stage). run_from s (suc number) lines in
    let way = λ (s : nodes.Stage). nodes.run_from s (suc number) lines in
    elim (step_twin stage number line) [
      | Same e ↦
          let P : Option Fault → Type 0 = λ o. IsAlike (onward go (at_nodes other) o) (nodes.onward way other o) in
          let there : IsAlike (onward go (at_nodes other) other.fault) (nodes.onward way other other.fault) =
          elim other.fault as P [
            | None ↦ let w = runs_twin other.stage (suc number) lines in record { turns_are = w.turns_are; journal_is = w.journal_is }
            | Some fault ↦ record { turns_are = refl; journal_is = refl }
          ] in
          subst (λ (n : Next). IsAlike (onward go n n.fault) (nodes.onward way other other.fault)) (sym e) there
      | Parted is fault outcomes e ↦
          let P : Option Fault → Type 0 = λ o. Alike (onward go next o) [] [] in
          let there : Alike (onward go next next.fault) [] [] =
          elim next.fault as P [
            | None ↦ let w = quiet next.stage (suc number) lines is in record { turns_are = w.turns_are; journal_is = w.journal_is }
            | Some f ↦ let q = ends_quiet next.stage is in record { turns_are = q.0; journal_is = q.1 }
          ] in
          subst (λ (n : nodes.Next). IsAlike (onward go next next.fault) (nodes.onward way n n.fault)) (sym e) there
    ]

pub run_twin : (script : List ℕ) (outcomes : List Outcome) → IsAlike (run script outcomes) (nodes.run script outcomes)
run_twin script outcomes = runs_twin (nodes.Opening outcomes) 1 (lines_of script)
