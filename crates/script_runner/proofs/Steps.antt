-- What a line does, from what the cluster did.
use Rattle.std.proofs.Common.{◌≡◌, ℕ, ◌+◌, zero, suc, List, [], ◌∷◌, ◌++◌, length, map, Option, Some, None, Result, Ok, Err, refl, sym, ap, subst, ◌∙◌, append_assoc}
use Rattle.std.specs.Option.{option_map}
use Rattle.std.proofs.lemmas.List.{append-nil, length-map}
use Rattle.script_grammar.specs.Grammar.{line_of}
use Rattle.script_grammar.specs.declared.events.Event.{Event}
use Rattle.script_grammar.specs.declared.faults.EventFault.{EventFault}
use Rattle.script_grammar.specs.declared.faults.EventFault.TheVariants as faults
use Rattle.script_grammar.specs.declared.grammar.FaultTarget.{FaultTarget}
use Rattle.script_grammar.specs.declared.grammar.ScriptLine.{ScriptLine}
use Rattle.script_grammar.specs.declared.grammar.ScriptLine.TheVariants as says
use Rattle.script_cluster.specs.declared.cluster_line.ClusterLine.{ClusterLine}
use Rattle.script_cluster.specs.Outcomes.{Outcome, Item, Turn}
use Rattle.script_cluster.specs.World.{Place, World, Went, Halt, NotThere, TooMany, takes, opened, all_start, empty_places, shown}
use Rattle.script_cluster.specs.Holding.{Held, world_of, Leads, Halts, HaltsAt, Does}
use Rattle.script_cluster.specs.Clusters.{empty_held, held, world_now}
use Rattle.script_cluster.specs.Run.{Stage, Within, Next, Line, line_step, next_by, fault_by, stays, stops, shows, journal_at, turns_at, over_at}
use Rattle.script_cluster.specs.declared.cluster.Cluster.{Cluster}
use Rattle.script_runner.specs.declared.node_script.NodeScript.{NodeScript as CodeStage}
use Rattle.script_runner.specs.declared.node_script.NodeScript.TheVariants as stage
use Rattle.script_grammar.proofs.SpelledLines.{line_spelled}
use Rattle.script_cluster.specs.Knowing.{Knowing, KnowsAt, AllKnow, Told, node_at, outcomes_of, outcomes_in, outcomes_over}
use Rattle.script_runner.specs.Stages.{Stands, AtStart, AtNodes, Known, stands, stage_of, turns_of, journal_of, Goes, Ends, EndsAt, DoesLine, MayOpen}

journal_same : {P : Type 0} (at : Stands P) (turns : List Turn) (later : List Outcome) → journal_at (stage_of at turns later) ≡ journal_of at
journal_same AtStart turns later = refl
journal_same (AtNodes h) turns later = refl

turns_same : {P : Type 0} (at : Stands P) (earlier : List Turn) (later : List Outcome) → turns_at (stage_of at earlier later) ≡ turns_of at earlier
turns_same AtStart earlier later = refl
turns_same (AtNodes h) earlier later = refl

no_turns : {P : Type 0} (knows : Knowing P) (voters node : ℕ) → KnowsAt knows voters node [] (node_at [] node)
no_turns knows voters zero = refl
no_turns knows voters (suc n) = refl

pub no_places : {P : Type 0} (knows : Knowing P) (voters : ℕ) → AllKnow knows voters [] []
no_places knows voters = (no_turns knows voters, tt)

-- places that are known are there; before the mode line none need be
pub told_at : {P : Type 0} (knows : Knowing P) (at : Stands P) (earlier : List Turn) → Known knows at earlier → Told knows (turns_of at earlier) None
told_at knows AtStart earlier known = record { voters = 1; places = []; know = no_places knows 1; last = tt }
told_at knows (AtNodes h) earlier known = record { voters = h.voters; places = h.nodes; know = known; last = tt }

over_none : {P : Type 0} (at : Stands P) (earlier : List Turn) (later : List Outcome) → over_at (stage_of at earlier later) ≡ None
over_none AtStart earlier later = refl
over_none (AtNodes h) earlier later = refl

-- nothing came
no_more : {P : Type 0} (at : Stands P) (earlier : List Turn) → outcomes_in (turns_of at earlier) ≡ outcomes_in (turns_of at earlier) ++ []
no_more at earlier = sym (append-nil (outcomes_in (turns_of at earlier)))

-- nothing happens
pub stays_so : {P : Type 0} (knows : Knowing P) (go : Stage → Next) (at : Stands P) (said : List ClusterLine) → ((earlier : List Turn) (later : List Outcome) → go (stage_of at earlier later) ≡ stays (stage_of at earlier later) []) → Goes knows go at at said said
stays_so knows go at said same = record { outcomes = []; turns = λ earlier. earlier; more = []; goes = same; says = sym (append-nil said); know = λ earlier k. k; uses = no_more at }

-- one thing is shown
pub shows_so : {P : Type 0} (knows : Knowing P) (go : Stage → Next) (at : Stands P) (said new : List ClusterLine) (say : ClusterLine) → ((earlier : List Turn) (later : List Outcome) → go (stage_of at earlier later) ≡ stays (stage_of at earlier later) (say ∷ [])) → new ≡ said ++ say ∷ [] → Goes knows go at at said new
shows_so knows go at said new say same told = record { outcomes = []; turns = λ earlier. earlier; more = say ∷ []; goes = same; says = told; know = λ earlier k. k; uses = no_more at }

-- the line isn't in the grammar there
pub stops_so : {P : Type 0} (knows : Knowing P) (number : ℕ) (go : Stage → Next) (at : Stands P) (said : List ClusterLine) → ((earlier : List Turn) (later : List Outcome) → go (stage_of at earlier later) ≡ stops (stage_of at earlier later) (Line number)) → Ends knows go (Line number) at at said said
stops_so knows number go at said same = record {
  outcomes = [];
  turns = turns_of at;
  more = [];
  over = None;
  ends = λ earlier later.
      subst (EndsAt (Line number) (journal_of at) [] (turns_of at earlier) None) (sym (same earlier later))
      (record { fault_is = refl; said_is = refl; journal_is = journal_same at earlier later; turns_are = turns_same at earlier later; over_is = over_none at earlier later });
  says = sym (append-nil said);
  told = told_at knows at;
  uses = λ earlier. refl;
}

-- ---- events

halts_so : (number : ℕ) (why : Halt) (journal : List Item) (said : List ClusterLine) (turns : List Turn) (over : Option Turn) (went : Went) → HaltsAt why journal said turns over went → EndsAt (fault_by number why) journal said turns over (next_by number went)
halts_so number why journal said turns over went at =
    record { fault_is = ap (option_map (fault_by number)) at.halt; said_is = at.said_is; journal_is = at.journal_is; turns_are = at.turns_are; over_is = at.over_is }

-- the outcomes of turns, and of more after them
outcomes_join : (turns more : List Turn) → outcomes_in (turns ++ more) ≡ outcomes_in turns ++ outcomes_in more
outcomes_join [] more = refl
outcomes_join (turn ∷ turns) more = ap (λ (outcomes : List Outcome). outcomes_of turn ++ outcomes) (outcomes_join turns more) ∙ sym (append_assoc (outcomes_of turn) (outcomes_in turns) (outcomes_in more))

event_goes : {P : Type 0} (knows : Knowing P) (number : ℕ) (e : Event) (aim : FaultTarget) (h new : Held P) (before now : List ClusterLine) → Leads knows (λ (w : World). takes w e aim) h new before now → Goes knows (λ (s : Stage). line_step s number (says.Event e aim)) (AtNodes h) (AtNodes new) before now
unfolding line_step
event_goes knows number e aim h new before now l = record {
  outcomes = l.outcomes;
  turns = λ earlier. earlier ++ l.turns;
  more = l.more;
  goes = λ earlier later. ap (next_by number) (l.goes earlier later);
  says = l.says;
  know = l.know;
  uses = λ earlier. outcomes_join earlier l.turns ∙ ap (λ (outcomes : List Outcome). outcomes_in earlier ++ outcomes) (sym l.uses);
}

event_ends : {P : Type 0} (knows : Knowing P) (number : ℕ) (why : Halt) (e : Event) (aim : FaultTarget) (h new : Held P) (before now : List ClusterLine) → Halts knows (λ (w : World). takes w e aim) why h new before now
    → Ends knows (λ (s : Stage). line_step s number (says.Event e aim)) (fault_by number why) (AtNodes h) (AtNodes new) before now
unfolding line_step
event_ends knows number why e aim h new before now l = record {
  outcomes = l.outcomes;
  turns = λ earlier. earlier ++ l.turns;
  more = l.more;
  over = l.over;
  ends = λ earlier later. halts_so number why new.journal l.more (earlier ++ l.turns) l.over (takes (world_of h earlier (l.outcomes ++ later)) e aim) (l.halts earlier later);
  says = l.says;
  told = λ earlier k. record { voters = new.voters; places = l.nodes; know = l.know earlier k; last = l.last earlier k };
  uses = λ earlier.
      ap (λ (outcomes : List Outcome). outcomes ++ outcomes_over l.over) (outcomes_join earlier l.turns)
      ∙ append_assoc (outcomes_in earlier) (outcomes_in l.turns) (outcomes_over l.over)
      ∙ ap (λ (outcomes : List Outcome). outcomes_in earlier ++ outcomes) (sym l.uses);
}

pub event_does : {P T : Type 0} (knows : Knowing P) (number : ℕ) (e : Event) (aim : FaultTarget) (h new : Held P) (result : Result T EventFault) (before now : List ClusterLine) → Does knows (λ (w : World). takes w e aim) result h new before now
    → DoesLine knows number (λ (s : Stage). line_step s number (says.Event e aim)) result (AtNodes h) (AtNodes new) before now
event_does knows number e aim h new (Ok x) before now d = event_goes knows number e aim h new before now d
event_does knows number e aim h new (Err faults.NotThere) before now d = event_ends knows number NotThere e aim h new before now d
event_does knows number e aim h new (Err faults.TooMany) before now d = event_ends knows number TooMany e aim h new before now d
event_does knows number e aim h new (Err faults.NoMemory) before now d = tt
event_does knows number e aim h new (Err faults.Internal) before now d = tt

-- ---- the mode line

so_many : (n : ℕ) → length (empty_places n) ≡ n
so_many zero = refl
so_many (suc n) = ap suc (so_many n)

nodes_go : {P : Type 0} (knows : Knowing P) (number voters spare : ℕ) (nodes : List P) (new : Held P) (before now : List ClusterLine) → AllKnow knows voters nodes [] → Leads knows (all_start (voters + spare) 1) (empty_held voters spare nodes) new before now → Goes knows (λ (s : Stage). line_step s number (says.Nodes voters spare)) AtStart (AtNodes new) before now
unfolding line_step opened
nodes_go knows number voters spare nodes new before now new_ones l = record {
  outcomes = l.outcomes;
  turns = λ earlier. l.turns;
  more = l.more;
  goes = λ earlier later. ap (next_by number) (l.goes [] later);
  says = l.says;
  know = λ earlier k. l.know [] new_ones;
  uses = λ earlier. sym l.uses;
}

nodes_end : {P : Type 0} (knows : Knowing P) (number : ℕ) (why : Halt) (voters spare : ℕ) (nodes : List P) (new : Held P) (before now : List ClusterLine) → AllKnow knows voters nodes [] → Halts knows (all_start (voters + spare) 1) why (empty_held voters spare nodes) new before now
    → Ends knows (λ (s : Stage). line_step s number (says.Nodes voters spare)) (fault_by number why) AtStart (AtNodes new) before now
unfolding line_step opened
nodes_end knows number why voters spare nodes new before now new_ones l = record {
  outcomes = l.outcomes;
  turns = λ earlier. l.turns;
  more = l.more;
  over = l.over;
  ends = λ earlier later. halts_so number why new.journal l.more l.turns l.over (all_start (voters + spare) 1 (world_of (empty_held voters spare nodes) [] (l.outcomes ++ later))) (l.halts [] later);
  says = l.says;
  told = λ earlier k. record { voters = new.voters; places = l.nodes; know = l.know [] new_ones; last = l.last [] new_ones };
  uses = λ earlier. sym l.uses;
}

nodes_do : {P T : Type 0} (knows : Knowing P) (number voters spare : ℕ) (nodes : List P) (new : Held P) (result : Result T EventFault) (before now : List ClusterLine) → AllKnow knows voters nodes [] → Does knows (all_start (voters + spare) 1) result (empty_held voters spare nodes) new before now
    → DoesLine knows number (λ (s : Stage). line_step s number (says.Nodes voters spare)) result AtStart (AtNodes new) before now
nodes_do knows number voters spare nodes new (Ok x) before now news d = nodes_go knows number voters spare nodes new before now news d
nodes_do knows number voters spare nodes new (Err faults.NotThere) before now news d = nodes_end knows number NotThere voters spare nodes new before now news d
nodes_do knows number voters spare nodes new (Err faults.TooMany) before now news d = nodes_end knows number TooMany voters spare nodes new before now news d
nodes_do knows number voters spare nodes new (Err faults.NoMemory) before now news d = tt
nodes_do knows number voters spare nodes new (Err faults.Internal) before now news d = tt

pub nodes_open : {P T : Type 0} (knows : Knowing P) (number voters spare : ℕ) (shows : P → Place) (places : List P) (h new : Held P) (result : Result T EventFault) (before now : List ClusterLine)
    → h ≡ empty_held voters spare places → h.places ≡ map shows places → AllKnow knows voters places []
    → Does knows (all_start (length places) 1) result h new before now → DoesLine knows number (λ (s : Stage). line_step s number (says.Nodes voters spare)) result AtStart (AtNodes new) before now
nodes_open {P} {T} knows number voters spare shows places h new result before now empty are news d =
    let count : length places ≡ voters + spare = sym (length-map places shows) ∙ ap (λ (ps : List Place). length ps) (sym are ∙ ap (λ (k : Held P). k.places) empty) ∙ so_many (voters + spare) in
    nodes_do knows number voters spare places new result before now news
    (subst (λ (k : Held P). Does knows (all_start (voters + spare) 1) result k new before now) empty (subst (λ (n : ℕ). Does knows (all_start n 1) result h new before now) count d))

-- a mode line of nodes that is in the grammar has from 1 to 7 voters
pub may_open : (line : ScriptLine) (bytes : List ℕ) → Some line ≡ line_of bytes → MayOpen line
may_open says.Blank bytes is = tt
may_open (says.Nodes voters spare) bytes is = let spelled = line_spelled (says.Nodes voters spare) bytes (sym is) in (spelled.text.some, spelled.text.few)
may_open (says.Pages machines) bytes is = tt
may_open (says.Show number) bytes is = tt
may_open (says.Event event aim) bytes is = tt

-- ---- at what the code holds

module _ {P : Type 0} (see : P → Place) (knows : Knowing P) (x : CodeStage P) where
  pub event_refused : (place : P) (number : ℕ) (e : Event) (aim : FaultTarget) (said : List ClusterLine) → x ≡ stage.Opening place
      → Ends knows (λ (s : Stage). line_step s number (says.Event e aim)) (Line number) (stands see x) (stands see x) said said
  unfolding line_step
  event_refused place number e aim said is =
      subst (λ (at : Stands P). Ends knows (λ (s : Stage). line_step s number (says.Event e aim)) (Line number) at at said said) (sym (ap (stands see) is))
      (stops_so knows number (λ (s : Stage). line_step s number (says.Event e aim)) AtStart said (λ earlier later. refl))

  pub event_in : {T : Type 0} (cluster : Cluster P) (number : ℕ) (e : Event) (aim : FaultTarget) (new : Held P) (result : Result T EventFault) (before now : List ClusterLine) → x ≡ stage.Within cluster
      → Does knows (λ (w : World). takes w e aim) result (held see cluster) new before now → DoesLine knows number (λ (s : Stage). line_step s number (says.Event e aim)) result (stands see x) (AtNodes new) before now
  event_in cluster number e aim new result before now is d =
      subst (λ (at : Stands P). DoesLine knows number (λ (s : Stage). line_step s number (says.Event e aim)) result at (AtNodes new) before now) (sym (ap (stands see) is)) (event_does knows number e aim (held see cluster) new result before now d)

  pub show_refused : (place : P) (number node : ℕ) (said : List ClusterLine) → x ≡ stage.Opening place → Ends knows (λ (s : Stage). line_step s number (says.Show node)) (Line number) (stands see x) (stands see x) said said
  unfolding line_step
  show_refused place number node said is =
      subst (λ (at : Stands P). Ends knows (λ (s : Stage). line_step s number (says.Show node)) (Line number) at at said said) (sym (ap (stands see) is))
      (stops_so knows number (λ (s : Stage). line_step s number (says.Show node)) AtStart said (λ earlier later. refl))

  pub show_one : (cluster : Cluster P) (number node : ℕ) (found : Option ClusterLine) (say : ClusterLine) (said new : List ClusterLine) → x ≡ stage.Within cluster → found ≡ shown (world_now (held see cluster)) node → found ≡ Some say → new ≡ said ++ say ∷ []
      → Goes knows (λ (s : Stage). line_step s number (says.Show node)) (stands see x) (stands see x) said new
  unfolding line_step
  show_one cluster number node found say said new is known some told =
      subst (λ (at : Stands P). Goes knows (λ (s : Stage). line_step s number (says.Show node)) at at said new) (sym (ap (stands see) is))
      (shows_so knows (λ (s : Stage). line_step s number (says.Show node)) (AtNodes (held see cluster)) said new say
      (λ earlier later. ap (shows (Within (world_of (held see cluster) earlier later)) number) (sym known ∙ some)) told)

  pub show_none : (cluster : Cluster P) (number node : ℕ) (found : Option ClusterLine) (said : List ClusterLine) → x ≡ stage.Within cluster → found ≡ shown (world_now (held see cluster)) node → found ≡ None
      → Ends knows (λ (s : Stage). line_step s number (says.Show node)) (Line number) (stands see x) (stands see x) said said
  unfolding line_step
  show_none cluster number node found said is known none =
      subst (λ (at : Stands P). Ends knows (λ (s : Stage). line_step s number (says.Show node)) (Line number) at at said said) (sym (ap (stands see) is))
      (stops_so knows number (λ (s : Stage). line_step s number (says.Show node)) (AtNodes (held see cluster)) said
      (λ earlier later. ap (shows (Within (world_of (held see cluster) earlier later)) number) (sym known ∙ none)))

  pub nodes_refused : (cluster : Cluster P) (number voters spare : ℕ) (said : List ClusterLine) → x ≡ stage.Within cluster
      → Ends knows (λ (s : Stage). line_step s number (says.Nodes voters spare)) (Line number) (stands see x) (stands see x) said said
  unfolding line_step
  nodes_refused cluster number voters spare said is =
      subst (λ (at : Stands P). Ends knows (λ (s : Stage). line_step s number (says.Nodes voters spare)) (Line number) at at said said) (sym (ap (stands see) is))
      (stops_so knows number (λ (s : Stage). line_step s number (says.Nodes voters spare)) (AtNodes (held see cluster)) said (λ earlier later. refl))

  pub nodes_in : {T : Type 0} (place : P) (cluster : Cluster P) (number voters spare : ℕ) (new : Held P) (result : Result T EventFault) (before now : List ClusterLine) → x ≡ stage.Opening place → held see cluster ≡ empty_held voters spare cluster.places.items → AllKnow knows voters cluster.places.items []
      → Does knows (all_start (length cluster.places.items) 1) result (held see cluster) new before now → DoesLine knows number (λ (s : Stage). line_step s number (says.Nodes voters spare)) result (stands see x) (AtNodes new) before now
  nodes_in place cluster number voters spare new result before now is empty news d =
      subst (λ (at : Stands P). DoesLine knows number (λ (s : Stage). line_step s number (says.Nodes voters spare)) result at (AtNodes new) before now) (sym (ap (stands see) is))
      (nodes_open knows number voters spare see cluster.places.items (held see cluster) new result before now empty refl news d)

blank_step : {P : Type 0} (at : Stands P) (number : ℕ) (earlier : List Turn) (later : List Outcome) → line_step (stage_of at earlier later) number says.Blank ≡ stays (stage_of at earlier later) []
unfolding line_step
blank_step AtStart number earlier later = refl
blank_step (AtNodes h) number earlier later = refl

pages_step : {P : Type 0} (at : Stands P) (number machines : ℕ) (earlier : List Turn) (later : List Outcome) → line_step (stage_of at earlier later) number (says.Pages machines) ≡ stops (stage_of at earlier later) (Line number)
unfolding line_step
pages_step AtStart number machines earlier later = refl
pages_step (AtNodes h) number machines earlier later = refl

pub blank_goes : {P : Type 0} (knows : Knowing P) (at : Stands P) (number : ℕ) (line : ScriptLine) (said : List ClusterLine) → line ≡ says.Blank → Goes knows (λ (s : Stage). line_step s number line) at at said said
blank_goes knows at number line said is =
    stays_so knows (λ (s : Stage). line_step s number line) at said (λ earlier later. ap (line_step (stage_of at earlier later) number) is ∙ blank_step at number earlier later)

pub pages_refused : {P : Type 0} (knows : Knowing P) (at : Stands P) (number machines : ℕ) (line : ScriptLine) (said : List ClusterLine) → line ≡ says.Pages machines → Ends knows (λ (s : Stage). line_step s number line) (Line number) at at said said
pages_refused knows at number machines line said is =
    stops_so knows number (λ (s : Stage). line_step s number line) at said (λ earlier later. ap (line_step (stage_of at earlier later) number) is ∙ pages_step at number machines earlier later)
