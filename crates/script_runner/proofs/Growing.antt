-- The turns of a run only grow.
use Rattle.std.proofs.Common.{◌≡◌, ℕ, ◌-◌, zero, suc, Bool, true, false, cond, List, [], ◌∷◌, ◌++◌, Option, Some, None, Result, Ok, Err, refl, sym, ap, ◌∙◌, append_assoc}
use Rattle.std.specs.Prelude.{nat_le, slice_get}
use Rattle.std.proofs.lemmas.List.{append-nil}
use Rattle.script_grammar.specs.ScriptSize.{line_count_limit}
use Rattle.script_grammar.specs.Grammar.{line_of}
use Rattle.script_grammar.specs.Usage.{with_event, with_messages}
use Rattle.script_grammar.specs.declared.events.Event.{Event}
use Rattle.script_grammar.specs.declared.events.Event.TheVariants as event
use Rattle.script_grammar.specs.declared.grammar.FaultTarget.{FaultTarget}
use Rattle.script_grammar.specs.declared.grammar.FaultTarget.TheVariants.{Nothing}
use Rattle.script_grammar.specs.declared.grammar.ScriptLine.{ScriptLine}
use Rattle.script_grammar.specs.declared.grammar.ScriptLine.TheVariants as says
use Rattle.script_grammar.specs.declared.usage.Usage.{Usage}
use Rattle.raft_messages.specs.declared.message.RaftMessage.{RaftMessage}
use Rattle.raft_messages.specs.declared.fault.PeerFault.{PeerFault}
use Rattle.script_cluster.specs.Outcomes.{Standing, Outs, Ending, Steps, Starts, Stops, Fails, Unreadable, Outcome, Doing, Timeout, Beat, Connect, Bytes, Hangup, Receive, Start, Turn, Does, Crashes}
use Rattle.script_cluster.specs.World.{World, Letter, Halt, NotThere, Went, quiet, halted, onward, after_step, after_ending, with_turn, unless_many, asked, at_node, connects, on_link, node_of, hangs_up, is_up, arrived_at, arriving, is_node, arrives}
use Rattle.script_cluster.specs.World.{delivered, delivers, crashes, starts, counted_so, counted, settled_so, settles, first_waiting, exists, happens, takes, bytes_in, shown}
use Rattle.script_cluster.specs.declared.cluster_line.ClusterLine.{ClusterLine as NodeSaid}
use Rattle.script_cluster.specs.Run as nodes
use Rattle.script_cluster.specs.Run.{Fault, Large}
use Rattle.script_runner.specs.Run.{Stage, AtNodes, AtMachines, Next, stops, line_step, said_step, step, onward as run_onward, turns_at, run_from}
use Rattle.script_runner.specs.Ending.{BeginWith}

-- ---- lists of turns

pub same_turns : (turns : List Turn) → BeginWith turns turns
same_turns turns = ([], sym (append-nil turns))

pub begin_then : (last middle first : List Turn) → BeginWith last middle → BeginWith middle first → BeginWith last first
begin_then last middle first b c = (c.0 ++ b.0, b.1 ∙ ap (λ (t : List Turn). t ++ b.0) c.1 ∙ append_assoc first c.0 b.0)

-- ---- what is done to a world

abbrev pub Grows : World → Went → Type 0
Grows w went = BeginWith went.world.turns w.turns

abbrev pub AlwaysGrows : (World → Went) → Type 0
AlwaysGrows go = (w : World) → Grows w (go w)

either : (w : World) (b : Bool) (x y : Went) → Grows w x → Grows w y → Grows w (cond b x y)
either w true x y p q = p
either w false x y p q = q

step_keeps : (n : ℕ) (outs : Outs) (standing : Standing) (w : World) (usage : Option Usage) → (after_step n outs standing w usage).world.turns ≡ w.turns
step_keeps n outs standing w None = refl
step_keeps n outs standing w (Some usage) = refl

pub ending_keeps : (n : ℕ) (ending : Ending) (w : World) → (after_ending n ending w).world.turns ≡ w.turns
ending_keeps n (Steps outs standing) w = step_keeps n outs standing w (with_messages w.usage (bytes_in outs.messages))
ending_keeps n (Starts kept standing) w = refl
ending_keeps n (Stops keeps) w = refl
ending_keeps n (Fails keeps) w = refl
ending_keeps n Unreadable w = refl

unless_grows : (w : World) (over : Option Turn) (went : Went) (halt : Option Halt) → Grows w went → Grows w (unless_many (record w { over = over }) went halt)
unless_grows w over went None g = g
unless_grows w over went (Some why) g = same_turns w.turns

asked_grows : (n : ℕ) (doing : Doing) (aim : FaultTarget) (w : World) (outcomes : List Outcome) → Grows w (asked n doing aim w outcomes)
asked_grows n doing aim w [] = same_turns w.turns
asked_grows n doing aim w (outcome ∷ left) =
    let went = after_ending n outcome.ending (with_turn w n doing aim outcome left) in
    unless_grows w (Some (Does n doing aim outcome)) went went.halt (Does n doing aim outcome ∷ [], ending_keeps n outcome.ending (with_turn w n doing aim outcome left))

node_grows : (n : ℕ) (doing : Doing) (aim : FaultTarget) → AlwaysGrows (at_node n doing aim)
node_grows n doing aim w = either w (is_up w n) (asked n doing aim w w.outcomes) (quiet w) (asked_grows n doing aim w w.outcomes) (same_turns w.turns)

connects_grows : (n c : ℕ) → AlwaysGrows (connects n c)
connects_grows n c w = either w (is_up w n) _ _ (asked_grows n (Connect c) Nothing _ w.outcomes) (same_turns w.turns)

link_grows : (doing : Doing) (aim : FaultTarget) (w : World) (node : Option ℕ) → Grows w (on_link doing aim w node)
link_grows doing aim w None = same_turns w.turns
link_grows doing aim w (Some n) = node_grows n doing aim w

hangs_up_grows : (c : ℕ) (aim : FaultTarget) → AlwaysGrows (hangs_up c aim)
hangs_up_grows c aim w = link_grows (Hangup c) aim _ (node_of w.links c)

arrives_grows : (aim : FaultTarget) (w : World) (message : Result RaftMessage PeerFault) → Grows w (arrives aim w message)
arrives_grows aim w (Err fault) = same_turns w.turns
arrives_grows aim w (Ok m) = either w (is_node w m.to) (at_node m.to (Receive m) aim w) (quiet w) (node_grows m.to (Receive m) aim w) (same_turns w.turns)

delivered_grows : (aim : FaultTarget) (w : World) (place : ℕ) (letter : Option Letter) → Grows w (delivered aim w place letter)
delivered_grows aim w place None = same_turns w.turns
delivered_grows aim w place (Some letter) = arrives_grows aim (record w { mail = arrived_at w.mail place }) (arriving letter)

delivers_grows : (place : ℕ) (aim : FaultTarget) → AlwaysGrows (delivers place aim)
delivers_grows place aim w = delivered_grows aim w place (slice_get w.mail place)

crashes_grows : (n pick : ℕ) → AlwaysGrows (crashes n pick)
crashes_grows n pick w = either w (is_up w n) _ (quiet w) (Crashes n pick ∷ [], refl) (same_turns w.turns)

pub starts_grows : (n : ℕ) (aim : FaultTarget) → AlwaysGrows (starts n aim)
starts_grows n aim w = either w (is_up w n) (quiet w) (asked n (Start w.voters) aim w w.outcomes) (same_turns w.turns) (asked_grows n (Start w.voters) aim w w.outcomes)

counted_so_grows : (go : World → Went) → AlwaysGrows go → (w : World) (usage : Option Usage) → Grows w (counted_so go w usage)
counted_so_grows go grows w None = same_turns w.turns
counted_so_grows go grows w (Some usage) = grows (record w { usage = usage })

counted_grows : (go : World → Went) → AlwaysGrows go → AlwaysGrows (counted go)
counted_grows go grows w = counted_so_grows go grows w (with_event w.usage)

pub onward_grows : (go : World → Went) → AlwaysGrows go → (w : World) (went : Went) (halt : Option Halt) → Grows w went → Grows w (onward go went halt)
onward_grows go grows w went None g = begin_then (go went.world).world.turns went.world.turns w.turns (grows went.world) g
onward_grows go grows w went (Some why) g = g

settled_grows : (go : World → Went) → AlwaysGrows go → (w : World) (place : Option ℕ) → Grows w (settled_so go w place)
settled_grows go grows w None = same_turns w.turns
settled_grows go grows w (Some place) =
    let went = counted (delivers place Nothing) w in
    onward_grows go grows w went went.halt (counted_grows (delivers place Nothing) (delivers_grows place Nothing) w)

pub settles_grows : (count : ℕ) → AlwaysGrows (settles count)
settles_grows zero w = same_turns w.turns
settles_grows (suc count) w = settled_grows (settles count) (settles_grows count) w (first_waiting w.mail)

happens_grows : (w : World) (e : Event) (aim : FaultTarget) → Grows w (happens w e aim)
unfolding happens
happens_grows w (event.Timeout n) aim = counted_grows (at_node n Timeout aim) (node_grows n Timeout aim) w
happens_grows w (event.Beat n) aim = counted_grows (at_node n Beat aim) (node_grows n Beat aim) w
happens_grows w (event.Connect n c) aim = counted_grows (connects n c) (connects_grows n c) w
happens_grows w (event.Bytes c bytes) aim =
    counted_grows (λ (v : World). on_link (Bytes c bytes) aim v (node_of v.links c)) (λ v. link_grows (Bytes c bytes) aim v (node_of v.links c)) w
happens_grows w (event.Hangup c) aim = counted_grows (hangs_up c aim) (hangs_up_grows c aim) w
happens_grows w (event.Deliver m) aim = counted_grows (delivers (m - 1) aim) (delivers_grows (m - 1) aim) w
happens_grows w (event.Settle count) aim = settles_grows count w
happens_grows w (event.Crash n pick) aim = counted_grows (crashes n pick) (crashes_grows n pick) w
happens_grows w (event.Start n) aim = counted_grows (starts n aim) (starts_grows n aim) w
happens_grows w (event.Put bytes) aim = same_turns w.turns
happens_grows w (event.Take machine) aim = same_turns w.turns

takes_grows : (w : World) (e : Event) (aim : FaultTarget) → Grows w (takes w e aim)
takes_grows w e aim = either w (exists w e) (happens w e aim) (halted NotThere w) (happens_grows w e aim) (same_turns w.turns)

-- ---- lines

abbrev StageGrows : Stage → Next → Type 0
StageGrows stage next = BeginWith (turns_at next.stage) (turns_at stage)

-- before the mode line there are none
none_grows : (turns : List Turn) → BeginWith turns []
none_grows turns = (turns, refl)

show_grows : (w : World) (number : ℕ) (o : Option NodeSaid) → BeginWith (nodes.turns_at (nodes.shows (nodes.Within w) number o).stage) w.turns
show_grows w number None = same_turns w.turns
show_grows w number (Some say) = same_turns w.turns

line_grows : (stage : Stage) (number : ℕ) (line : ScriptLine) → StageGrows stage (line_step stage number line)
unfolding line_step nodes.line_step
line_grows (AtNodes (nodes.Opening outcomes)) number says.Blank = none_grows []
line_grows (AtNodes (nodes.Opening outcomes)) number (says.Nodes voters spare) = none_grows _
line_grows (AtNodes (nodes.Opening outcomes)) number (says.Pages machines) = none_grows []
line_grows (AtNodes (nodes.Opening outcomes)) number (says.Show node) = none_grows []
line_grows (AtNodes (nodes.Opening outcomes)) number (says.Event e aim) = none_grows []
line_grows (AtNodes (nodes.Within w)) number says.Blank = same_turns w.turns
line_grows (AtNodes (nodes.Within w)) number (says.Nodes voters spare) = same_turns w.turns
line_grows (AtNodes (nodes.Within w)) number (says.Pages machines) = same_turns w.turns
line_grows (AtNodes (nodes.Within w)) number (says.Show node) = show_grows w number (shown w node)
line_grows (AtNodes (nodes.Within w)) number (says.Event e aim) = takes_grows w e aim
line_grows (AtMachines usage fleet) number says.Blank = none_grows _
line_grows (AtMachines usage fleet) number (says.Nodes voters spare) = none_grows _
line_grows (AtMachines usage fleet) number (says.Pages machines) = none_grows _
line_grows (AtMachines usage fleet) number (says.Show machine) = none_grows _
line_grows (AtMachines usage fleet) number (says.Event e aim) = none_grows _

said_grows : (stage : Stage) (number : ℕ) (line : Option ScriptLine) → StageGrows stage (said_step stage number line)
said_grows stage number None = same_turns (turns_at stage)
said_grows stage number (Some line) = line_grows stage number line

few_grows : (few : Bool) (stage : Stage) (next : Next) → StageGrows stage next → StageGrows stage (cond few next (stops stage Large))
few_grows true stage next grows = grows
few_grows false stage next grows = same_turns (turns_at stage)

pub step_grows : (stage : Stage) (number : ℕ) (line : List ℕ) → StageGrows stage (step stage number line)
unfolding step
step_grows stage number line = few_grows (nat_le number line_count_limit) stage (said_step stage number (line_of line)) (said_grows stage number (line_of line))

pub run_grows : (stage : Stage) (number : ℕ) (lines : List (List ℕ)) → BeginWith (run_from stage number lines).turns (turns_at stage)
run_grows stage number [] = same_turns (turns_at stage)
run_grows stage number (line ∷ lines) =
    let next = step stage number line in
    let P : Option Fault → Type 0 = λ o. BeginWith (run_onward (λ (s : Stage). run_from s (suc number) lines) next o).turns (turns_at stage) in
    elim next.fault as P [
      | None ↦ begin_then (run_from next.stage (suc number) lines).turns (turns_at next.stage) (turns_at stage) (run_grows next.stage (suc number) lines) (step_grows stage number line)
      | Some fault ↦ step_grows stage number line
    ]
