-- What a line does in either mode, from what nodes or state machines did.
use Rattle.std.proofs.Common.{◌≡◌, ℕ, ◌≤◌, Bool, true, false, cond, List, [], ◌∷◌, ◌++◌, map, Option, Some, None, Result, Ok, Err, refl, sym, ap, subst, ◌∙◌}
use Rattle.std.proofs.lemmas.Bool.{le-leb}
use Rattle.script_grammar.specs.ScriptSize.{line_count_limit}
use Rattle.script_grammar.specs.Grammar.{line_of}
use Rattle.script_grammar.specs.Usage.{no_usage, with_event}
use Rattle.script_grammar.specs.declared.events.Event.{Event}
use Rattle.script_grammar.specs.declared.faults.EventFault.{EventFault}
use Rattle.script_grammar.specs.declared.faults.EventFault.TheVariants as faults
use Rattle.script_grammar.specs.declared.grammar.FaultTarget.{FaultTarget}
use Rattle.script_grammar.specs.declared.grammar.ScriptLine.{ScriptLine}
use Rattle.script_grammar.specs.declared.grammar.ScriptLine.TheVariants as says
use Rattle.script_grammar.specs.declared.usage.Usage.{Usage}
use Rattle.script_cluster.specs.declared.cluster_line.ClusterLine.{ClusterLine as NodeSaid}
use Rattle.script_cluster.specs.Outcomes.{Outcome, Turn}
use Rattle.script_cluster.specs.World.{Place}
use Rattle.script_cluster.specs.Knowing.{Knowing, Told}
use Rattle.script_cluster.specs.Run as nodes
use Rattle.script_machines.specs.declared.machine_line.MachineLine.{MachineLine as MachineSaid}
use Rattle.script_machines.specs.Machines.{Fleet, idle_fleet, applies, standing_of}
use Rattle.script_runner.specs.declared.script_mode.ScriptMode.{ScriptMode}
use Rattle.script_runner.specs.declared.script_mode.ScriptMode.TheVariants as scene
use Rattle.script_runner.specs.declared.node_script.NodeScript.{NodeScript as CodeStage}
use Rattle.script_runner.specs.Stages as stages
use Rattle.script_runner.specs.Stages.{Stands, AtStart, AtNodes}
use Rattle.script_cluster.specs.Run.{Fault, Line, Large}
use Rattle.script_runner.specs.Run.{Said, OfNodes, OfMachines, Stage, Next, at_nodes, stays, stops, shows, counts, after_event, line_step, said_step, step}
use Rattle.script_runner.specs.Run as run
use Rattle.script_runner.specs.Scenes.{Holds, Nodes, Machines, Known, holds, stage_of, journal_of, turns_of, machines_in, Goes, Ends, EndsAt, DoesLine}
use Rattle.script_runner.proofs.Steps.{no_places}
use Rattle.script_runner.proofs.Steps as steps

-- ---- among nodes

-- a line that opens no state machines does what it does in the run of nodes
other_step : (at : nodes.Stage) (number : ℕ) (line : ScriptLine) → machines_in line ≡ None → line_step (run.AtNodes at) number line ≡ at_nodes (nodes.line_step at number line)
unfolding line_step
other_step at number says.Blank e = refl
other_step at number (says.Nodes voters spare) e = refl
other_step at number (says.Pages machines) e = absurd cc
other_step at number (says.Show node) e = refl
other_step at number (says.Event event aim) e = refl

-- no place was led to where nothing happened
pub none_told : {P : Type 0} (knows : Knowing P) → Told knows [] None
none_told knows = record { voters = 1; places = []; know = no_places knows 1; last = tt }

pub told_at : {P : Type 0} (knows : Knowing P) (at : Holds P) (earlier : List Turn) → Known knows at earlier → Told knows (turns_of at earlier) None
told_at knows (Nodes s) earlier known = steps.told_at knows s earlier known
told_at knows (Machines usage fleet) earlier known = none_told knows

module _ {P : Type 0} (knows : Knowing P) where
  nodes_go : (number : ℕ) (line : ScriptLine) (old new : Stands P) (told : List NodeSaid) → machines_in line ≡ None → stages.Goes knows (λ (s : nodes.Stage). nodes.line_step s number line) old new [] told
      → Goes knows (λ (s : Stage). line_step s number line) (Nodes old) (Nodes new) (map OfNodes told)
  nodes_go number line old new told e d = record {
    outcomes = d.outcomes;
    turns = d.turns;
    goes = λ earlier later.
        other_step _ number line e ∙ ap at_nodes (d.goes earlier later)
        ∙ ap (λ (said : List NodeSaid). stays (stage_of (Nodes new) (d.turns earlier) later) (map OfNodes said)) (sym d.says);
    know = d.know;
    uses = d.uses;
  }

  nodes_end : (number : ℕ) (fault : Fault) (line : ScriptLine) (old new : Stands P) (told : List NodeSaid) → machines_in line ≡ None → stages.Ends knows (λ (s : nodes.Stage). nodes.line_step s number line) fault old new [] told
      → Ends knows (λ (s : Stage). line_step s number line) fault (Nodes old) (Nodes new) (map OfNodes told)
  nodes_end number fault line old new told e d = record {
    outcomes = d.outcomes;
    turns = d.turns;
    over = d.over;
    ends = λ earlier later.
        let x = d.ends earlier later in
        subst (EndsAt fault (journal_of (Nodes new)) (map OfNodes told) (d.turns earlier) d.over) (sym (other_step _ number line e))
        (record { fault_is = x.fault_is; said_is = ap (map OfNodes) (x.said_is ∙ sym d.says); journal_is = x.journal_is; turns_are = x.turns_are; over_is = x.over_is });
    told = d.told;
    uses = d.uses;
  }

  pub nodes_do : {T : Type 0} (number : ℕ) (line : ScriptLine) (result : Result T EventFault) (old new : Stands P) (told : List NodeSaid) → machines_in line ≡ None
      → stages.DoesLine knows number (λ (s : nodes.Stage). nodes.line_step s number line) result old new [] told
      → DoesLine knows number (λ (s : Stage). line_step s number line) result (Nodes old) (Nodes new) (map OfNodes told)
  nodes_do number line (Ok x) old new told e d = nodes_go number line old new told e d
  nodes_do number line (Err faults.NotThere) old new told e d = nodes_end number (Line number) line old new told e d
  nodes_do number line (Err faults.TooMany) old new told e d = nodes_end number Large line old new told e d
  nodes_do number line (Err faults.NoMemory) old new told e d = tt
  nodes_do number line (Err faults.Internal) old new told e d = tt

  -- by a list of what is said that was empty before
  pub nodes_done : {T : Type 0} (number : ℕ) (line : ScriptLine) (result : Result T EventFault) (old new : Stands P) (before told : List NodeSaid) → before ≡ [] → machines_in line ≡ None
      → stages.DoesLine knows number (λ (s : nodes.Stage). nodes.line_step s number line) result old new before told
      → DoesLine knows number (λ (s : Stage). line_step s number line) result (Nodes old) (Nodes new) (map OfNodes told)
  nodes_done number line result old new before told none e d =
      nodes_do number line result old new told e (subst (λ (b : List NodeSaid). stages.DoesLine knows number (λ (s : nodes.Stage). nodes.line_step s number line) result old new b told) none d)

-- ---- among state machines

module _ {P : Type 0} (knows : Knowing P) where
  -- a line leads on there
  leads_on : (go : Stage → Next) (usage more : Usage) (fleet next : Fleet) (said : List Said) → go (run.AtMachines usage fleet) ≡ stays (run.AtMachines more next) said
      → Goes knows go (Machines usage fleet) (Machines more next) said
  leads_on go usage more fleet next said e = record { outcomes = []; turns = λ earlier. earlier; goes = λ earlier later. e; know = λ earlier known. tt; uses = λ earlier. refl }

  -- a line ends the script there, which notes nothing
  ends_here : (go : Stage → Next) (fault : Fault) (usage more : Usage) (fleet next : Fleet) (now : List Said) → now ≡ [] → go (run.AtMachines usage fleet) ≡ stops (run.AtMachines usage fleet) fault
      → Ends knows go fault (Machines usage fleet) (Machines more next) now
  ends_here go fault usage more fleet next now none e =
      subst (Ends knows go fault (Machines usage fleet) (Machines more next)) (sym none) (record {
        outcomes = [];
        turns = λ earlier. [];
        over = None;
        ends = λ earlier later. subst (EndsAt fault [] [] [] None) (sym e) (record { fault_is = refl; said_is = refl; journal_is = refl; turns_are = refl; over_is = refl });
        told = λ earlier known. none_told knows;
        uses = λ earlier. refl;
      })

module _ {P : Type 0} (knows : Knowing P) (line : ℕ) (usage : Usage) (fleet : Fleet) where
  pub machine_shown : (number : ℕ) (found : Option MachineSaid) (say : MachineSaid) (before told : List MachineSaid) → found ≡ standing_of fleet number → found ≡ Some say → before ≡ [] → told ≡ before ++ say ∷ []
      → Goes knows (λ (s : Stage). line_step s line (says.Show number)) (Machines usage fleet) (Machines usage fleet) (map OfMachines told)
  unfolding line_step
  machine_shown number found say before told is some none more =
      let all : told ≡ say ∷ [] = more ∙ ap (λ (b : List MachineSaid). b ++ say ∷ []) none in
      subst (λ (t : List MachineSaid). Goes knows (λ (s : Stage). line_step s line (says.Show number)) (Machines usage fleet) (Machines usage fleet) (map OfMachines t)) (sym all)
      (leads_on knows (λ (s : Stage). line_step s line (says.Show number)) usage usage fleet fleet (OfMachines say ∷ []) (ap (shows usage fleet line) (sym is ∙ some)))

  pub no_machine : (number : ℕ) (found : Option MachineSaid) (now : List Said) → now ≡ [] → found ≡ standing_of fleet number → found ≡ None
      → Ends knows (λ (s : Stage). line_step s line (says.Show number)) (Line line) (Machines usage fleet) (Machines usage fleet) now
  unfolding line_step
  no_machine number found now none is e = ends_here knows (λ (s : Stage). line_step s line (says.Show number)) (Line line) usage usage fleet fleet now none (ap (shows usage fleet line) (sym is ∙ e))

  pub event_counted : (event : Event) (aim : FaultTarget) (more : Usage) (next : Fleet) (said : List MachineSaid) → applies fleet event ≡ Some (next, said) → with_event usage ≡ Some more
      → Goes knows (λ (s : Stage). line_step s line (says.Event event aim)) (Machines usage fleet) (Machines more next) (map OfMachines said)
  unfolding line_step
  event_counted event aim more next said e used =
      leads_on knows (λ (s : Stage). line_step s line (says.Event event aim)) usage more fleet next (map OfMachines said)
      (ap (after_event usage fleet line) e ∙ ap (counts usage fleet (next, said)) used)

  pub event_uncounted : (event : Event) (aim : FaultTarget) (more : Usage) (next : Fleet) (said : List MachineSaid) (now : List Said) → now ≡ [] → applies fleet event ≡ Some (next, said) → with_event usage ≡ None
      → Ends knows (λ (s : Stage). line_step s line (says.Event event aim)) Large (Machines usage fleet) (Machines more next) now
  unfolding line_step
  event_uncounted event aim more next said now none e used =
      ends_here knows (λ (s : Stage). line_step s line (says.Event event aim)) Large usage more fleet next now none (ap (after_event usage fleet line) e ∙ ap (counts usage fleet (next, said)) used)

  pub event_failed : (event : Event) (aim : FaultTarget) (fault : EventFault) (more : Usage) (next : Fleet) (now : List Said) → now ≡ [] → (fault ≡ faults.NotThere → applies fleet event ≡ None) → (fault ≡ faults.TooMany → ⊥)
      → DoesLine {P = P} {T = Unit {0}} knows line (λ (s : Stage). line_step s line (says.Event event aim)) (Err fault) (Machines usage fleet) (Machines more next) now
  unfolding line_step
  event_failed event aim faults.NotThere more next now none absent few =
      ends_here knows (λ (s : Stage). line_step s line (says.Event event aim)) (Line line) usage more fleet next now none (ap (after_event usage fleet line) (absent refl))
  event_failed event aim faults.TooMany more next now none absent few = absurd (few refl)
  event_failed event aim faults.NoMemory more next now none absent few = tt
  event_failed event aim faults.Internal more next now none absent few = tt

  -- an empty line, and a mode line, which comes once
  pub blank_here : (l : ScriptLine) (now : List Said) → l ≡ says.Blank → now ≡ [] → Goes knows (λ (s : Stage). line_step s line l) (Machines usage fleet) (Machines usage fleet) now
  unfolding line_step
  blank_here l now is none =
      subst (λ (k : ScriptLine). Goes knows (λ (s : Stage). line_step s line k) (Machines usage fleet) (Machines usage fleet) now) (sym is)
      (subst (λ (n : List Said). Goes knows (λ (s : Stage). line_step s line says.Blank) (Machines usage fleet) (Machines usage fleet) n) (sym none)
      (leads_on knows (λ (s : Stage). line_step s line says.Blank) usage usage fleet fleet [] refl))

  pub nodes_refused : (l : ScriptLine) (voters spare : ℕ) (now : List Said) → l ≡ says.Nodes voters spare → now ≡ [] → Ends knows (λ (s : Stage). line_step s line l) (Line line) (Machines usage fleet) (Machines usage fleet) now
  unfolding line_step
  nodes_refused l voters spare now is none =
      subst (λ (k : ScriptLine). Ends knows (λ (s : Stage). line_step s line k) (Line line) (Machines usage fleet) (Machines usage fleet) now) (sym is)
      (ends_here knows (λ (s : Stage). line_step s line (says.Nodes voters spare)) (Line line) usage usage fleet fleet now none refl)

  pub pages_refused : (l : ScriptLine) (machines : ℕ) (now : List Said) → l ≡ says.Pages machines → now ≡ [] → Ends knows (λ (s : Stage). line_step s line l) (Line line) (Machines usage fleet) (Machines usage fleet) now
  unfolding line_step
  pages_refused l machines now is none =
      subst (λ (k : ScriptLine). Ends knows (λ (s : Stage). line_step s line k) (Line line) (Machines usage fleet) (Machines usage fleet) now) (sym is)
      (ends_here knows (λ (s : Stage). line_step s line (says.Pages machines)) (Line line) usage usage fleet fleet now none refl)

-- what a line does that is this one
pub as_line : {P T : Type 0} (knows : Knowing P) (number : ℕ) (line other : ScriptLine) (result : Result T EventFault) (old new : Holds P) (now : List Said) → line ≡ other
    → DoesLine knows number (λ (s : Stage). line_step s number other) result old new now → DoesLine knows number (λ (s : Stage). line_step s number line) result old new now
as_line knows number line other result old new now is d = subst (λ (l : ScriptLine). DoesLine knows number (λ (s : Stage). line_step s number l) result old new now) (sym is) d

-- ---- the mode line of state machines

module _ {P : Type 0} (see : P → Place) (knows : Knowing P) (x : ScriptMode P) where
  -- what a line does where the scene is this
  pub at_scene : {T : Type 0} (number : ℕ) (line : ScriptLine) (result : Result T EventFault) (held new : Holds P) (now : List Said) → holds see x ≡ held
      → DoesLine knows number (λ (s : Stage). line_step s number line) result held new now → DoesLine knows number (λ (s : Stage). line_step s number line) result (holds see x) new now
  at_scene {T} number line result held new now is d = subst (λ (h : Holds P). DoesLine knows number (λ (s : Stage). line_step s number line) result h new now) (sym is) d

opened : {P : Type 0} (knows : Knowing P) (number machines : ℕ) (at : Stands P) (fleet : Fleet) → stages.is_opening at ≡ true → fleet ≡ idle_fleet machines
    → Goes knows (λ (s : Stage). line_step s number (says.Pages machines)) (Nodes at) (Machines no_usage fleet) []
unfolding line_step
opened knows number machines AtStart fleet opens e =
    subst (λ (f : Fleet). Goes knows (λ (s : Stage). line_step s number (says.Pages machines)) (Nodes AtStart) (Machines no_usage f) []) (sym e)
    (record { outcomes = []; turns = λ earlier. []; goes = λ earlier later. refl; know = λ earlier known. tt; uses = λ earlier. refl })
opened knows number machines (AtNodes h) fleet opens e = absurd cc

late : {P : Type 0} (knows : Knowing P) (number machines : ℕ) (at : Stands P) → stages.is_opening at ≡ false → Ends knows (λ (s : Stage). line_step s number (says.Pages machines)) (Line number) (Nodes at) (Nodes at) []
unfolding line_step
late knows number machines AtStart opens = absurd cc
late knows number machines (AtNodes h) opens = record {
  outcomes = [];
  turns = λ earlier. earlier;
  over = None;
  ends = λ earlier later. record { fault_is = refl; said_is = refl; journal_is = refl; turns_are = refl; over_is = refl };
  told = λ earlier known. told_at knows (Nodes (AtNodes h)) earlier known;
  uses = λ earlier. refl;
}

module _ {P : Type 0} (see : P → Place) (knows : Knowing P) (x : ScriptMode P) where
  pub pages_opened : (st : CodeStage P) (number machines : ℕ) (opens : Bool) (fleet : Fleet) (usage : Usage) → x ≡ scene.Nodes st → opens ≡ stages.is_opening (stages.stands see st) → opens ≡ true → fleet ≡ idle_fleet machines → usage ≡ no_usage
      → Goes knows (λ (s : Stage). line_step s number (says.Pages machines)) (holds see x) (Machines usage fleet) []
  pages_opened st number machines opens fleet usage is same may e none =
      subst (λ (u : Usage). Goes knows (λ (s : Stage). line_step s number (says.Pages machines)) (holds see x) (Machines u fleet) []) (sym none)
      (subst (λ (h : Holds P). Goes knows (λ (s : Stage). line_step s number (says.Pages machines)) h (Machines no_usage fleet) []) (sym (ap (holds see) is))
      (opened knows number machines (stages.stands see st) fleet (sym same ∙ may) e))

  pub pages_late : (st : CodeStage P) (number machines : ℕ) (opens : Bool) → x ≡ scene.Nodes st → opens ≡ stages.is_opening (stages.stands see st) → opens ≡ false
      → Ends knows (λ (s : Stage). line_step s number (says.Pages machines)) (Line number) (holds see x) (Nodes (stages.stands see st)) []
  pages_late st number machines opens is same no_more =
      subst (λ (h : Holds P). Ends knows (λ (s : Stage). line_step s number (says.Pages machines)) (Line number) h (Nodes (stages.stands see st)) []) (sym (ap (holds see) is))
      (late knows number machines (stages.stands see st) (sym same ∙ no_more))

  pub pages_twice : (usage : Usage) (fleet : Fleet) (number machines : ℕ) → holds see x ≡ Machines usage fleet → Ends knows (λ (s : Stage). line_step s number (says.Pages machines)) (Line number) (holds see x) (holds see x) []
  pages_twice usage fleet number machines is =
      subst (λ (h : Holds P). Ends knows (λ (s : Stage). line_step s number (says.Pages machines)) (Line number) h h []) (sym is)
      (pages_refused knows number usage fleet (says.Pages machines) machines [] refl refl)

-- a line that opens this many state machines
pub is_pages : (line : ScriptLine) (machines : ℕ) → machines_in line ≡ Some machines → line ≡ says.Pages machines
is_pages says.Blank machines e = absurd cc
is_pages (says.Nodes voters spare) machines e = absurd cc
is_pages (says.Pages count) machines e = cc
is_pages (says.Show number) machines e = absurd cc
is_pages (says.Event event aim) machines e = absurd cc

module _ {P : Type 0} (knows : Knowing P) where
  pub pages_do : {T : Type 0} (number machines : ℕ) (line : ScriptLine) (result : Result T EventFault) (old new : Holds P) (said : List Said) → machines_in line ≡ Some machines → said ≡ []
      → DoesLine knows number (λ (s : Stage). line_step s number (says.Pages machines)) result old new [] → DoesLine knows number (λ (s : Stage). line_step s number line) result old new said
  pages_do {T} number machines line result old new said e none d =
      subst (λ (l : ScriptLine). DoesLine knows number (λ (s : Stage). line_step s number l) result old new said) (sym (is_pages line machines e))
      (subst (λ (told : List Said). DoesLine knows number (λ (s : Stage). line_step s number (says.Pages machines)) result old new told) (sym none) d)

-- ---- the bytes of a line

step_of : (at : Stage) (number : ℕ) (line : List ℕ) → number ≤ line_count_limit → step at number line ≡ said_step at number (line_of line)
unfolding step
step_of at number line few = ap (λ (b : Bool). cond b (said_step at number (line_of line)) (stops at Large)) (le-leb number line_count_limit few)

journal_same : {P : Type 0} (at : Holds P) (turns : List Turn) (later : List Outcome) → run.journal_at (stage_of at turns later) ≡ journal_of at
journal_same (Nodes AtStart) turns later = refl
journal_same (Nodes (AtNodes h)) turns later = refl
journal_same (Machines usage fleet) turns later = refl

turns_same : {P : Type 0} (at : Holds P) (earlier : List Turn) (later : List Outcome) → run.turns_at (stage_of at earlier later) ≡ turns_of at earlier
turns_same (Nodes AtStart) earlier later = refl
turns_same (Nodes (AtNodes h)) earlier later = refl
turns_same (Machines usage fleet) earlier later = refl

-- nothing was done there outside the run
pub over_none : {P : Type 0} (at : Holds P) (earlier : List Turn) (later : List Outcome) → run.over_at (stage_of at earlier later) ≡ None
over_none (Nodes AtStart) earlier later = refl
over_none (Nodes (AtNodes h)) earlier later = refl
over_none (Machines usage fleet) earlier later = refl

module _ {P : Type 0} (knows : Knowing P) where
  -- the same for another way to say it
  does_as : {T : Type 0} (number : ℕ) (go way : Stage → Next) (result : Result T EventFault) (old new : Holds P) (now : List Said) → ((s : Stage) → go s ≡ way s)
      → DoesLine knows number way result old new now → DoesLine knows number go result old new now
  does_as number go way (Ok x) old new now same d = record { outcomes = d.outcomes; turns = d.turns; goes = λ earlier later. same _ ∙ d.goes earlier later; know = d.know; uses = d.uses }
  does_as number go way (Err faults.NotThere) old new now same d = record {
    outcomes = d.outcomes;
    turns = d.turns;
    over = d.over;
    ends = λ earlier later. subst (EndsAt (Line number) (journal_of new) now (d.turns earlier) d.over) (sym (same _)) (d.ends earlier later);
    told = d.told;
    uses = d.uses;
  }
  does_as number go way (Err faults.TooMany) old new now same d = record {
    outcomes = d.outcomes;
    turns = d.turns;
    over = d.over;
    ends = λ earlier later. subst (EndsAt Large (journal_of new) now (d.turns earlier) d.over) (sym (same _)) (d.ends earlier later);
    told = d.told;
    uses = d.uses;
  }
  does_as number go way (Err faults.NoMemory) old new now same d = tt
  does_as number go way (Err faults.Internal) old new now same d = tt

  pub line_does : {T : Type 0} (number : ℕ) (bytes : List ℕ) (line : ScriptLine) (result : Result T EventFault) (old new : Holds P) (now : List Said) → number ≤ line_count_limit → Some line ≡ line_of bytes
      → DoesLine knows number (λ (s : Stage). line_step s number line) result old new now → DoesLine knows number (λ (s : Stage). step s number bytes) result old new now
  line_does number bytes line result old new now few is d =
      does_as number (λ (s : Stage). step s number bytes) (λ (s : Stage). line_step s number line) result old new now (λ s. step_of s number bytes few ∙ ap (said_step s number) (sym is)) d

  pub no_line : (number : ℕ) (bytes : List ℕ) (at : Holds P) (now : List Said) → now ≡ [] → number ≤ line_count_limit → None ≡ line_of bytes → Ends knows (λ (s : Stage). step s number bytes) (Line number) at at now
  no_line number bytes at now none few is =
      subst (Ends knows (λ (s : Stage). step s number bytes) (Line number) at at) (sym none) (record {
        outcomes = [];
        turns = turns_of at;
        over = None;
        ends = λ earlier later.
            subst (EndsAt (Line number) (journal_of at) [] (turns_of at earlier) None) (sym (step_of (stage_of at earlier later) number bytes few ∙ ap (said_step (stage_of at earlier later) number) (sym is)))
            (record { fault_is = refl; said_is = refl; journal_is = journal_same at earlier later; turns_are = turns_same at earlier later; over_is = over_none at earlier later });
        told = told_at knows at;
        uses = λ earlier. refl;
      })
