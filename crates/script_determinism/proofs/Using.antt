-- What comes of events is used in its order: the outcomes of what happened, and of what isn't in the run, are a front of all.
use Rattle.std.proofs.Common.{◌≡◌, ℕ, ◌-◌, ◌+◌, zero, suc, Bool, true, false, cond, List, [], ◌∷◌, ◌++◌, Option, Some, None, Result, Ok, Err, refl, sym, ap, subst, ◌∙◌, append_assoc, append-nil}
use Rattle.std.specs.Prelude.{nat_le, slice_get}
use Rattle.std.specs.Option.{option_map}
use Rattle.std.proofs.lemmas.List.{append_cancel_left}
use Rattle.raft_messages.specs.declared.message.RaftMessage.{RaftMessage}
use Rattle.raft_messages.specs.declared.fault.PeerFault.{PeerFault}
use Rattle.script_grammar.specs.ScriptSize.{line_count_limit}
use Rattle.script_grammar.specs.Lines.{lines_of}
use Rattle.script_grammar.specs.Grammar.{line_of}
use Rattle.script_grammar.specs.Usage.{with_event, with_messages}
use Rattle.script_grammar.specs.declared.events.Event.{Event}
use Rattle.script_grammar.specs.declared.events.Event.TheVariants as event
use Rattle.script_grammar.specs.declared.grammar.FaultTarget.{FaultTarget}
use Rattle.script_grammar.specs.declared.grammar.FaultTarget.TheVariants.{Nothing}
use Rattle.script_grammar.specs.declared.grammar.ScriptLine.{ScriptLine}
use Rattle.script_grammar.specs.declared.grammar.ScriptLine.TheVariants as says
use Rattle.script_grammar.specs.declared.usage.Usage.{Usage}
use Rattle.script_cluster.specs.declared.cluster_line.ClusterLine.{ClusterLine as NodeSaid}
use Rattle.script_cluster.specs.declared.cluster_line.ClusterLine.TheVariants.{Closed}
use Rattle.script_cluster.specs.Knowing.{outcomes_of, outcomes_in, outcomes_over, with_over}
use Rattle.script_cluster.specs.Outcomes.{Standing, Outs, Ending, Steps, Starts, Stops, Fails, Unreadable, Outcome, Doing, Timeout, Beat, Connect, Bytes, Hangup, Receive, Start, Turn, Does, Crashes}
use Rattle.script_cluster.specs.Run as nodes
use Rattle.script_cluster.specs.Run.{Fault, Large, fault_by}
use Rattle.script_cluster.specs.World.{World, Letter, Halt, NotThere, Went, quiet, halted, onward, after_step, after_ending, with_turn, unless_many, asked, at_node, connects, on_link, node_of, hangs_up, is_up, arrived_at, arriving, is_node, arrives, with_link, without, fallen, place_at, closings}
use Rattle.script_cluster.specs.World.{delivered, delivers, crashes, starts, counted_so, counted, settled_so, settles, first_waiting, exists, happens, takes, bytes_in, shown, all_start, empty_world, opened}
use Rattle.script_machines.specs.declared.machine_line.MachineLine.{MachineLine as MachineSaid}
use Rattle.script_machines.specs.Machines.{Fleet, applies, standing_of}
use Rattle.script_runner.specs.Run.{Stage, AtNodes, AtMachines, Next, Run, at_nodes, stops, shows, counts, after_event, line_step, said_step, step, onward as run_onward, turns_at, over_at, run_from, run}

-- ---- lists

outcomes_join : (turns more : List Turn) → outcomes_in (turns ++ more) ≡ outcomes_in turns ++ outcomes_in more
outcomes_join [] more = refl
outcomes_join (turn ∷ turns) more = ap (λ (outcomes : List Outcome). outcomes_of turn ++ outcomes) (outcomes_join turns more) ∙ sym (append_assoc (outcomes_of turn) (outcomes_in turns) (outcomes_in more))

-- ---- worlds

module _ (all : List Outcome) where
  -- All outcomes were used by what happened, or are yet to come; and nothing was done beside it.
  pub record Used (w : World) : Type 0 where
    pub over : w.over ≡ None
    pub used : outcomes_in w.turns ++ w.outcomes ≡ all

  -- a front was used, also by what isn't in the run
  pub record Ended (turns : List Turn) (over : Option Turn) : Type 0 where
    pub rest : List Outcome
    pub is : outcomes_in turns ++ (outcomes_over over ++ rest) ≡ all

  abbrev UsedBy : Option Halt → World → Type 0
  UsedBy None w = Used w
  UsedBy (Some why) w = Ended w.turns w.over

  abbrev Uses : Went → Type 0
  Uses went = UsedBy went.halt went.world

  abbrev AlwaysUses : (World → Went) → Type 0
  AlwaysUses go = (w : World) → Used w → Uses (go w)

  -- if events end with nothing done outside the run
  ends_used : (w : World) → Used w → Ended w.turns w.over
  ends_used w u = record { rest = w.outcomes; is = ap (λ (over : Option Turn). outcomes_in w.turns ++ (outcomes_over over ++ w.outcomes)) u.over ∙ u.used }

  either : (b : Bool) (x y : Went) → Uses x → Uses y → Uses (cond b x y)
  either true x y p q = p
  either false x y p q = q

  -- what is besides turns, outcomes and what was done last doesn't matter
  record Beside (w v : World) : Type 0 where
    turns : v.turns ≡ w.turns
    outcomes : v.outcomes ≡ w.outcomes
    over : v.over ≡ w.over

  same_used : (w v : World) → Beside w v → Used w → Used v
  same_used w v b u = record { over = b.over ∙ u.over; used = (λ i. outcomes_in (b.turns i) ++ b.outcomes i) ∙ u.used }

  step_beside : (n : ℕ) (outs : Outs) (standing : Standing) (w : World) (usage : Option Usage) → Beside w (after_step n outs standing w usage).world
  step_beside n outs standing w None = record { turns = refl; outcomes = refl; over = refl }
  step_beside n outs standing w (Some usage) = record { turns = refl; outcomes = refl; over = refl }

  ending_beside : (n : ℕ) (ending : Ending) (w : World) → Beside w (after_ending n ending w).world
  ending_beside n (Steps outs standing) w = step_beside n outs standing w (with_messages w.usage (bytes_in outs.messages))
  ending_beside n (Starts kept standing) w = record { turns = refl; outcomes = refl; over = refl }
  ending_beside n (Stops keeps) w = record { turns = refl; outcomes = refl; over = refl }
  ending_beside n (Fails keeps) w = record { turns = refl; outcomes = refl; over = refl }
  ending_beside n Unreadable w = record { turns = refl; outcomes = refl; over = refl }

  by_halt : (halt : Option Halt) (w : World) → Used w → UsedBy halt w
  by_halt None w u = u
  by_halt (Some why) w u = ends_used w u

  unless_uses : (w : World) (turn : Turn) (outcome : Outcome) (left : List Outcome) (went : Went) (halt : Option Halt) → outcomes_of turn ≡ outcome ∷ [] → w.outcomes ≡ outcome ∷ left → went.halt ≡ halt → Used w → Used went.world
      → Uses (unless_many (record w { over = Some turn }) went halt)
  unless_uses w turn outcome left went None one to_come is u more = by_halt went.halt went.world more
  unless_uses w turn outcome left went (Some why) one to_come is u more = record {
    rest = left;
    is = ap (λ (outcomes : List Outcome). outcomes_in w.turns ++ (outcomes ++ left)) one ∙ ap (λ (outcomes : List Outcome). outcomes_in w.turns ++ outcomes) (sym to_come) ∙ u.used;
  }

  asked_uses : (n : ℕ) (doing : Doing) (aim : FaultTarget) (w : World) (outcomes : List Outcome) → w.outcomes ≡ outcomes → Used w → Uses (asked n doing aim w outcomes)
  asked_uses n doing aim w [] is u = ends_used w u
  asked_uses n doing aim w (outcome ∷ left) is u =
      let v = with_turn w n doing aim outcome left in
      let more : Used v = record {
        over = u.over;
        used =
            ap (λ (outcomes : List Outcome). outcomes ++ left) (outcomes_join w.turns (Does n doing aim outcome ∷ []))
            ∙ append_assoc (outcomes_in w.turns) (outcome ∷ []) left
            ∙ ap (λ (outcomes : List Outcome). outcomes_in w.turns ++ outcomes) (sym is)
            ∙ u.used;
      } in
      unless_uses w (Does n doing aim outcome) outcome left (after_ending n outcome.ending v) (after_ending n outcome.ending v).halt refl is refl u
      (same_used v (after_ending n outcome.ending v).world (ending_beside n outcome.ending v) more)

  quiet_uses : AlwaysUses (λ (w : World). quiet w)
  quiet_uses w u = u

  node_uses : (n : ℕ) (doing : Doing) (aim : FaultTarget) → AlwaysUses (at_node n doing aim)
  node_uses n doing aim w u = either (is_up w n) (asked n doing aim w w.outcomes) (quiet w) (asked_uses n doing aim w w.outcomes refl u) u

  connects_uses : (n c : ℕ) → AlwaysUses (connects n c)
  connects_uses n c w u =
      let v : World = record w { links = with_link (record { conn = c; node = n; open_now = is_up w n }) w.links } in
      let same : Used v = same_used w v (record { turns = refl; outcomes = refl; over = refl }) u in
      either (is_up w n) (asked n (Connect c) Nothing v v.outcomes) (record { world = v; said = Closed c 4 ∷ []; halt = None }) (asked_uses n (Connect c) Nothing v v.outcomes refl same) same

  link_uses : (doing : Doing) (aim : FaultTarget) (node : Option ℕ) → AlwaysUses (λ (w : World). on_link doing aim w node)
  link_uses doing aim None w u = u
  link_uses doing aim (Some n) w u = node_uses n doing aim w u

  hangs_up_uses : (c : ℕ) (aim : FaultTarget) → AlwaysUses (hangs_up c aim)
  hangs_up_uses c aim w u =
      let v : World = record w { links = without w.links c } in
      link_uses (Hangup c) aim (node_of w.links c) v (same_used w v (record { turns = refl; outcomes = refl; over = refl }) u)

  arrives_uses : (aim : FaultTarget) (message : Result RaftMessage PeerFault) → AlwaysUses (λ (w : World). arrives aim w message)
  arrives_uses aim (Err fault) w u = u
  arrives_uses aim (Ok m) w u = either (is_node w m.to) (at_node m.to (Receive m) aim w) (quiet w) (node_uses m.to (Receive m) aim w u) u

  delivered_uses : (aim : FaultTarget) (place : ℕ) (letter : Option Letter) → AlwaysUses (λ (w : World). delivered aim w place letter)
  delivered_uses aim place None w u = u
  delivered_uses aim place (Some letter) w u =
      let v : World = record w { mail = arrived_at w.mail place } in
      arrives_uses aim (arriving letter) v (same_used w v (record { turns = refl; outcomes = refl; over = refl }) u)

  delivers_uses : (place : ℕ) (aim : FaultTarget) → AlwaysUses (delivers place aim)
  delivers_uses place aim w u = delivered_uses aim place (slice_get w.mail place) w u

  crashes_uses : (n pick : ℕ) → AlwaysUses (crashes n pick)
  crashes_uses n pick w u =
      let v : World = record (fallen w n (place_at w n).failed) { turns = w.turns ++ Crashes n pick ∷ [] } in
      let more : Used v = record {
        over = u.over;
        used =
            ap (λ (outcomes : List Outcome). outcomes ++ w.outcomes) (outcomes_join w.turns (Crashes n pick ∷ []) ∙ append-nil (outcomes_in w.turns)) ∙ u.used;
      } in
      either (is_up w n) (record { world = v; said = closings w.links n; halt = None }) (quiet w) more u

  starts_uses : (n : ℕ) (aim : FaultTarget) → AlwaysUses (starts n aim)
  starts_uses n aim w u = either (is_up w n) (quiet w) (asked n (Start w.voters) aim w w.outcomes) u (asked_uses n (Start w.voters) aim w w.outcomes refl u)

  counted_so_uses : (go : World → Went) → AlwaysUses go → (usage : Option Usage) → AlwaysUses (λ (w : World). counted_so go w usage)
  counted_so_uses go uses None w u = ends_used w u
  counted_so_uses go uses (Some usage) w u =
      let v : World = record w { usage = usage } in
      uses v (same_used w v (record { turns = refl; outcomes = refl; over = refl }) u)

  counted_uses : (go : World → Went) → AlwaysUses go → AlwaysUses (counted go)
  counted_uses go uses w u = counted_so_uses go uses (with_event w.usage) w u

  onward_uses : (go : World → Went) → AlwaysUses go → (went : Went) (halt : Option Halt) → went.halt ≡ halt → UsedBy halt went.world → Uses (onward go went halt)
  onward_uses go uses went None is u = uses went.world u
  onward_uses go uses went (Some why) is u = subst (λ (halt : Option Halt). UsedBy halt went.world) (sym is) u

  settled_uses : (go : World → Went) → AlwaysUses go → (place : Option ℕ) → AlwaysUses (λ (w : World). settled_so go w place)
  settled_uses go uses None w u = u
  settled_uses go uses (Some place) w u =
      let went = counted (delivers place Nothing) w in
      onward_uses go uses went went.halt refl (counted_uses (delivers place Nothing) (delivers_uses place Nothing) w u)

  settles_uses : (count : ℕ) → AlwaysUses (settles count)
  settles_uses zero w u = u
  settles_uses (suc count) w u = settled_uses (settles count) (settles_uses count) (first_waiting w.mail) w u

  happens_uses : (e : Event) (aim : FaultTarget) → AlwaysUses (λ (w : World). happens w e aim)
  unfolding happens
  happens_uses (event.Timeout n) aim w u = counted_uses (at_node n Timeout aim) (node_uses n Timeout aim) w u
  happens_uses (event.Beat n) aim w u = counted_uses (at_node n Beat aim) (node_uses n Beat aim) w u
  happens_uses (event.Connect n c) aim w u = counted_uses (connects n c) (connects_uses n c) w u
  happens_uses (event.Bytes c bytes) aim w u = counted_uses (λ (v : World). on_link (Bytes c bytes) aim v (node_of v.links c)) (λ v x. link_uses (Bytes c bytes) aim (node_of v.links c) v x) w u
  happens_uses (event.Hangup c) aim w u = counted_uses (hangs_up c aim) (hangs_up_uses c aim) w u
  happens_uses (event.Deliver m) aim w u = counted_uses (delivers (m - 1) aim) (delivers_uses (m - 1) aim) w u
  happens_uses (event.Settle count) aim w u = settles_uses count w u
  happens_uses (event.Crash n pick) aim w u = counted_uses (crashes n pick) (crashes_uses n pick) w u
  happens_uses (event.Start n) aim w u = counted_uses (starts n aim) (starts_uses n aim) w u
  happens_uses (event.Put bytes) aim w u = ends_used w u
  happens_uses (event.Take machine) aim w u = ends_used w u

  takes_uses : (e : Event) (aim : FaultTarget) → AlwaysUses (λ (w : World). takes w e aim)
  takes_uses e aim w u = either (exists w e) (happens w e aim) (halted NotThere w) (happens_uses e aim w u) (ends_used w u)

  start_uses : (count n : ℕ) → AlwaysUses (all_start count n)
  start_uses zero n w u = u
  start_uses (suc count) n w u = onward_uses (all_start count (suc n)) (start_uses count (suc n)) (starts n Nothing w) (starts n Nothing w).halt refl (starts_uses n Nothing w u)

  -- ---- lines

  abbrev UsedAt : Stage → Type 0
  UsedAt (AtNodes (nodes.Opening outcomes)) = outcomes ≡ all
  UsedAt (AtNodes (nodes.Within w)) = Used w
  UsedAt (AtMachines usage fleet) = Unit {0}

  abbrev StageBy : Option Fault → Stage → Type 0
  StageBy None stage = UsedAt stage
  StageBy (Some fault) stage = Ended (turns_at stage) (over_at stage)

  abbrev NextUses : Next → Type 0
  NextUses next = StageBy next.fault next.stage

  stage_ends : (stage : Stage) → UsedAt stage → Ended (turns_at stage) (over_at stage)
  stage_ends (AtNodes (nodes.Opening outcomes)) u = record { rest = outcomes; is = u }
  stage_ends (AtNodes (nodes.Within w)) u = ends_used w u
  stage_ends (AtMachines usage fleet) u = record { rest = all; is = refl }

  went_uses : (number : ℕ) (halt : Option Halt) (w : World) → UsedBy halt w → StageBy (option_map (fault_by number) halt) (AtNodes (nodes.Within w))
  went_uses number None w u = u
  went_uses number (Some why) w u = u

  show_uses : (w : World) (number : ℕ) (say : Option NodeSaid) → Used w → NextUses (at_nodes (nodes.shows (nodes.Within w) number say))
  show_uses w number None u = ends_used w u
  show_uses w number (Some say) u = u

  none_used : Ended [] None
  none_used = record { rest = all; is = refl }

  machine_shows : (usage : Usage) (fleet : Fleet) (number : ℕ) (say : Option MachineSaid) → NextUses (shows usage fleet number say)
  machine_shows usage fleet number None = none_used
  machine_shows usage fleet number (Some say) = tt

  machine_counts : (usage : Usage) (fleet : Fleet) (next : Fleet × List MachineSaid) (more : Option Usage) → NextUses (counts usage fleet next more)
  machine_counts usage fleet next None = none_used
  machine_counts usage fleet next (Some more) = tt

  machine_event : (usage : Usage) (fleet : Fleet) (number : ℕ) (next : Option (Fleet × List MachineSaid)) → NextUses (after_event usage fleet number next)
  machine_event usage fleet number None = none_used
  machine_event usage fleet number (Some next) = machine_counts usage fleet next (with_event usage)

  line_uses : (stage : Stage) (number : ℕ) (line : ScriptLine) → UsedAt stage → NextUses (line_step stage number line)
  unfolding line_step nodes.line_step opened
  line_uses (AtNodes (nodes.Opening outcomes)) number says.Blank u = u
  line_uses (AtNodes (nodes.Opening outcomes)) number (says.Nodes voters spare) u =
      let went = all_start (voters + spare) 1 (empty_world voters spare outcomes) in
      went_uses number went.halt went.world (start_uses (voters + spare) 1 (empty_world voters spare outcomes) (record { over = refl; used = u }))
  line_uses (AtNodes (nodes.Opening outcomes)) number (says.Pages machines) u = tt
  line_uses (AtNodes (nodes.Opening outcomes)) number (says.Show node) u = record { rest = outcomes; is = u }
  line_uses (AtNodes (nodes.Opening outcomes)) number (says.Event e aim) u = record { rest = outcomes; is = u }
  line_uses (AtNodes (nodes.Within w)) number says.Blank u = u
  line_uses (AtNodes (nodes.Within w)) number (says.Nodes voters spare) u = ends_used w u
  line_uses (AtNodes (nodes.Within w)) number (says.Pages machines) u = ends_used w u
  line_uses (AtNodes (nodes.Within w)) number (says.Show node) u = show_uses w number (shown w node) u
  line_uses (AtNodes (nodes.Within w)) number (says.Event e aim) u = went_uses number (takes w e aim).halt (takes w e aim).world (takes_uses e aim w u)
  line_uses (AtMachines usage fleet) number says.Blank u = tt
  line_uses (AtMachines usage fleet) number (says.Nodes voters spare) u = none_used
  line_uses (AtMachines usage fleet) number (says.Pages machines) u = none_used
  line_uses (AtMachines usage fleet) number (says.Show machine) u = machine_shows usage fleet number (standing_of fleet machine)
  line_uses (AtMachines usage fleet) number (says.Event e aim) u = machine_event usage fleet number (applies fleet e)

  said_uses : (stage : Stage) (number : ℕ) (line : Option ScriptLine) → UsedAt stage → NextUses (said_step stage number line)
  said_uses stage number None u = stage_ends stage u
  said_uses stage number (Some line) u = line_uses stage number line u

  few_uses : (few : Bool) (stage : Stage) (next : Next) → UsedAt stage → NextUses next → NextUses (cond few next (stops stage Large))
  few_uses true stage next u uses = uses
  few_uses false stage next u uses = stage_ends stage u

  step_uses : (stage : Stage) (number : ℕ) (line : List ℕ) → UsedAt stage → NextUses (step stage number line)
  unfolding step
  step_uses stage number line u = few_uses (nat_le number line_count_limit) stage (said_step stage number (line_of line)) u (said_uses stage number (line_of line) u)

  run_on : (go : Stage → Run) → ((stage : Stage) → UsedAt stage → Ended (go stage).turns (go stage).over) → (next : Next) (fault : Option Fault) → StageBy fault next.stage
      → Ended (run_onward go next fault).turns (run_onward go next fault).over
  run_on go uses next None u = uses next.stage u
  run_on go uses next (Some fault) u = u

  runs_use : (lines : List (List ℕ)) (number : ℕ) (stage : Stage) → UsedAt stage → Ended (run_from stage number lines).turns (run_from stage number lines).over
  runs_use [] number stage u = stage_ends stage u
  runs_use (line ∷ lines) number stage u =
      run_on (λ (s : Stage). run_from s (suc number) lines) (runs_use lines (suc number)) (step stage number line) (step stage number line).fault (step_uses stage number line u)

  run_uses : (script : List ℕ) → Ended (run script all).turns (run script all).over
  run_uses script = runs_use (lines_of script) 1 (AtNodes (nodes.Opening all)) refl

-- ---- a run with no more outcomes than these turns used

-- crashes alone
abbrev pub AreCrashes : List Turn → Type 0
AreCrashes [] = Unit {0}
AreCrashes (Does n doing aim outcome ∷ turns) = ⊥
AreCrashes (Crashes n pick ∷ turns) = AreCrashes turns

some_none : (outcome : Outcome) (outcomes : List Outcome) → outcome ∷ outcomes ≡ [] → ⊥
some_none outcome outcomes e = cc

are_crashes : (turns : List Turn) → outcomes_in turns ≡ [] → AreCrashes turns
are_crashes [] none = tt
are_crashes (Does n doing aim outcome ∷ turns) none = some_none outcome (outcomes_in turns) none
are_crashes (Crashes n pick ∷ turns) none = are_crashes turns none

first_none : (one other : List Outcome) → one ++ other ≡ [] → one ≡ []
first_none [] other e = refl
first_none (outcome ∷ one) other e = absurd (some_none outcome (one ++ other) e)

over_crashes : (turns : List Turn) (over : Option Turn) (rest : List Outcome) → outcomes_in turns ++ (outcomes_over over ++ rest) ≡ [] → AreCrashes (with_over turns over)
over_crashes turns None rest none = are_crashes turns (first_none (outcomes_in turns) rest none)
over_crashes turns (Some turn) rest none =
    are_crashes (turns ++ turn ∷ [])
    (outcomes_join turns (turn ∷ [])
    ∙ ap (λ (outcomes : List Outcome). outcomes_in turns ++ outcomes) (append-nil (outcomes_of turn))
    ∙ first_none (outcomes_in turns ++ outcomes_of turn) rest (append_assoc (outcomes_in turns) (outcomes_of turn) rest ∙ none))

pub over_behind : (turns rest : List Turn) (over : Option Turn) → with_over (turns ++ rest) over ≡ turns ++ with_over rest over
over_behind turns rest None = refl
over_behind turns rest (Some turn) = append_assoc turns rest (turn ∷ [])

-- after the turns that used all outcomes there are crashes alone
pub only_crashes : (script : List ℕ) (outcomes : List Outcome) (turns rest : List Turn) → outcomes_in turns ≡ outcomes → (run script outcomes).turns ≡ turns ++ rest → AreCrashes (with_over rest (run script outcomes).over)
only_crashes script outcomes turns rest uses is =
    let r = run script outcomes in
    let e = run_uses outcomes script in
    let whole : outcomes_in turns ++ (outcomes_in rest ++ (outcomes_over r.over ++ e.rest)) ≡ outcomes_in turns ++ [] =
    sym (append_assoc (outcomes_in turns) (outcomes_in rest) (outcomes_over r.over ++ e.rest))
    ∙ ap (λ (all : List Outcome). all ++ (outcomes_over r.over ++ e.rest)) (sym (outcomes_join turns rest) ∙ sym (ap outcomes_in is))
    ∙ e.is ∙ sym uses ∙ sym (append-nil (outcomes_in turns)) in
    over_crashes rest r.over e.rest (append_cancel_left (outcomes_in turns) (outcomes_in rest ++ (outcomes_over r.over ++ e.rest)) [] whole)
