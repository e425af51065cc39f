-- Each state machine holds what its front of the run's list makes, at every moment, and is shown so.
use Rattle.std.proofs.Common.{◌≡◌, ℕ, zero, suc, ◌+◌, ◌/◌, ◌<◌, ◌≤◌, Bool, true, false, cond, List, [], ◌∷◌, ◌++◌, Option, Some, None, map, take, All, Contains, refl, sym, ap, subst, ◌∙◌, append_assoc, arith}
use Rattle.std.specs.Prelude.{slice_get}
use Rattle.std.specs.List.{AllByRecursion}
use Rattle.std.proofs.lemmas.List.{take-take}
use Rattle.std.proofs.lemmas.List.Elements.{All-from_recursion, All-contains}
use Rattle.wire_words.specs.Items.{AreBytes}
use Rattle.log_commands.specs.declared.command.Command.{Command}
use Rattle.database_state.specs.Files.{files}
use Rattle.database_state.specs.AsMap.{Does}
use Rattle.database_state.proofs.AsMap.{files_in_order, files_changed}
use Rattle.script_grammar.specs.Lines.{lines_of}
use Rattle.script_grammar.specs.Grammar.{line_of}
use Rattle.script_grammar.specs.Spelling.{AreHex, IsAimed}
use Rattle.script_grammar.specs.Usage.{with_event}
use Rattle.script_grammar.specs.declared.events.Event.{Event}
use Rattle.script_grammar.specs.declared.events.Event.TheVariants as event
use Rattle.script_grammar.specs.declared.grammar.FaultTarget.{FaultTarget}
use Rattle.script_grammar.specs.declared.grammar.FaultTarget.TheVariants as aims
use Rattle.script_grammar.specs.declared.grammar.ScriptLine.{ScriptLine}
use Rattle.script_grammar.specs.declared.grammar.ScriptLine.TheVariants as says
use Rattle.script_grammar.specs.declared.usage.Usage.{Usage}
use Rattle.script_grammar.proofs.SpelledLines.{line_spelled}
use Rattle.script_cluster.specs.declared.cluster_line.ClusterLine.{ClusterLine as NodeSaid}
use Rattle.script_cluster.specs.Outcomes.{Outcome}
use Rattle.script_cluster.specs.Run as nodes
use Rattle.script_machines.specs.declared.machine_line.MachineLine.{MachineLine as MachineSaid}
use Rattle.script_machines.specs.Alike as pages
use Rattle.script_machines.specs.Alike.{BeginsWith, Follows, AllFollow, IsDigestOf, IsSound, PutsBytes, GoesAlike, length_of_all}
use Rattle.script_machines.specs.Holding.{Holding}
use Rattle.script_machines.specs.Machines.{Fleet, idle_fleet, applies, standing_of}
use Rattle.script_machines.proofs.Agreement.{begins_itself, begins_then, follows_grown, tells_grown as machine_grown, all_follow_idle, next_front, events_keep_alike, machines_stand_alike}
use Rattle.script_machines.proofs.Bounded.{none_sound, lists_stay_sound, files_are_bounded}
use Rattle.script_machines.proofs.Elements.{all_weaker, all_append}
use Rattle.script_cluster.specs.Run.{Fault, Line, Large}
use Rattle.script_runner.specs.Run.{Said, OfNodes, OfMachines, Stage, AtNodes, AtMachines, Next, Run, shows, counts, after_event, line_step, said_step, stops, step, onward, closing, run_from, run}
use Rattle.script_runner.specs.Alike.{fleet_at, led, led_from, commands_of, moment, run_until, Tells, IsSeenIn, IsSeen, KeepsAlike, machine_said}

-- ---- what is said

all_machines : (P : Said → Type 0) (Q : MachineSaid → Type 0) → ((say : MachineSaid) → Q say → P (OfMachines say)) → (said : List MachineSaid) → AllByRecursion Q said → AllByRecursion P (map OfMachines said)
all_machines P Q weaker [] a = tt
all_machines P Q weaker (say ∷ said) a = (weaker say a.0, all_machines P Q weaker said a.1)

all_nodes : (P : Said → Type 0) → ((say : NodeSaid) → P (OfNodes say)) → (said : List NodeSaid) → AllByRecursion P (map OfNodes said)
all_nodes P holds [] = tt
all_nodes P holds (say ∷ said) = (holds say, all_nodes P holds said)

tells_grown : (all commands : List Command) → BeginsWith all commands → (say : Said) → Tells commands say → Tells all say
tells_grown all commands b (OfNodes say) t = tt
tells_grown all commands b (OfMachines say) t = machine_grown all commands b say t

-- ---- a line

-- The state machines of a stage became others by a line that said this.
record Goes (old new : Fleet) (said : List Said) : Type 0 where
  follow : AllFollow new
  grows : BeginsWith new.commands old.commands
  tells : AllByRecursion (Tells new.commands) said
  seen : AllByRecursion (IsSeenIn old) said

abbrev StageGoes : Stage → Next → Type 0
StageGoes stage next = Goes (fleet_at stage) (fleet_at next.stage) next.said

stays_so : (fleet : Fleet) → AllFollow fleet → Goes fleet fleet []
stays_so fleet follow = record { follow = follow; grows = begins_itself fleet.commands; tells = tt; seen = tt }

nodes_go : (said : List NodeSaid) → Goes (idle_fleet 0) (idle_fleet 0) (map OfNodes said)
nodes_go said = record {
  follow = tt;
  grows = begins_itself [];
  tells = all_nodes (Tells []) (λ say. tt) said;
  seen = all_nodes (IsSeenIn (idle_fleet 0)) (λ say. tt) said;
}

show_goes : (usage : Usage) (fleet : Fleet) (number machine : ℕ) (o : Option MachineSaid) → standing_of fleet machine ≡ o → AllFollow fleet → StageGoes (AtMachines usage fleet) (shows usage fleet number o)
show_goes usage fleet number machine None is follow = stays_so fleet follow
show_goes usage fleet number machine (Some say) is follow =
    let told = (machines_stand_alike fleet follow).one machine say is in
    record { follow = follow; grows = begins_itself fleet.commands; tells = (told.0, tt); seen = (told.1, tt) }

counted_goes : (usage : Usage) (fleet : Fleet) (next : Fleet × List MachineSaid) (more : Option Usage) → AllFollow fleet → GoesAlike fleet next.0 next.1 → StageGoes (AtMachines usage fleet) (counts usage fleet next more)
counted_goes usage fleet next None follow goes = stays_so fleet follow
counted_goes usage fleet next (Some more) follow goes = record {
  follow = goes.follow;
  grows = goes.grows;
  tells = all_machines (Tells next.0.commands) (pages.Tells next.0.commands) (λ say t. t) next.1 goes.tells;
  seen = all_machines (IsSeenIn fleet) (pages.IsSeenIn fleet) (λ say s. s) next.1 goes.seen;
}

event_goes : (usage : Usage) (fleet : Fleet) (number : ℕ) (event : Event) (o : Option (Fleet × List MachineSaid)) → applies fleet event ≡ o → AllFollow fleet → StageGoes (AtMachines usage fleet) (after_event usage fleet number o)
event_goes usage fleet number event None is follow = stays_so fleet follow
event_goes usage fleet number event (Some next) is follow = counted_goes usage fleet next (with_event usage) follow (events_keep_alike fleet event next follow is)

line_goes : (stage : Stage) (number : ℕ) (line : ScriptLine) → AllFollow (fleet_at stage) → StageGoes stage (line_step stage number line)
unfolding line_step
line_goes (AtNodes stage) number says.Blank follow = nodes_go (nodes.line_step stage number says.Blank).said
line_goes (AtNodes stage) number (says.Nodes voters spare) follow = nodes_go (nodes.line_step stage number (says.Nodes voters spare)).said
line_goes (AtNodes (nodes.Opening outcomes)) number (says.Pages machines) follow = record { follow = all_follow_idle machines; grows = begins_itself []; tells = tt; seen = tt }
line_goes (AtNodes (nodes.Within w)) number (says.Pages machines) follow = stays_so (idle_fleet 0) tt
line_goes (AtNodes stage) number (says.Show node) follow = nodes_go (nodes.line_step stage number (says.Show node)).said
line_goes (AtNodes stage) number (says.Event event aim) follow = nodes_go (nodes.line_step stage number (says.Event event aim)).said
line_goes (AtMachines usage fleet) number says.Blank follow = stays_so fleet follow
line_goes (AtMachines usage fleet) number (says.Nodes voters spare) follow = stays_so fleet follow
line_goes (AtMachines usage fleet) number (says.Pages machines) follow = stays_so fleet follow
line_goes (AtMachines usage fleet) number (says.Show machine) follow = show_goes usage fleet number machine (standing_of fleet machine) refl follow
line_goes (AtMachines usage fleet) number (says.Event event aim) follow = event_goes usage fleet number event (applies fleet event) refl follow

-- a line that isn't in the grammar, or is one too many, changes nothing
stops_goes : (stage : Stage) (fault : Fault) → AllFollow (fleet_at stage) → StageGoes stage (stops stage fault)
stops_goes stage fault follow = stays_so (fleet_at stage) follow

said_goes : (stage : Stage) (number : ℕ) (line : Option ScriptLine) → AllFollow (fleet_at stage) → StageGoes stage (said_step stage number line)
said_goes stage number None follow = stops_goes stage (Line number) follow
said_goes stage number (Some line) follow = line_goes stage number line follow

few_goes : (few : Bool) (stage : Stage) (next : Next) → AllFollow (fleet_at stage) → StageGoes stage next → StageGoes stage (cond few next (stops stage Large))
few_goes true stage next follow goes = goes
few_goes false stage next follow goes = stops_goes stage Large follow

step_goes : (stage : Stage) (number : ℕ) (line : List ℕ) → AllFollow (fleet_at stage) → StageGoes stage (step stage number line)
unfolding step
step_goes stage number line follow = few_goes _ stage (said_step stage number (line_of line)) follow (said_goes stage number (line_of line) follow)

-- ---- the list stays within its limits

hex_small : (digits bytes : List ℕ) → AreHex digits bytes → AllByRecursion (λ byte. byte < 256) bytes
hex_small [] [] h = tt
hex_small [] (byte ∷ bytes) h = absurd h
hex_small (digit ∷ []) [] h = absurd h
hex_small (digit ∷ []) (byte ∷ bytes) h = absurd h
hex_small (high ∷ low ∷ digits) [] h = absurd h
hex_small (high ∷ low ∷ digits) (byte ∷ bytes) h = let small : byte / 16 < 16 = h.0.0 in (omega (arith, small), hex_small digits bytes h.2)

are_bytes : (bytes : List ℕ) → AllByRecursion (λ byte. byte < 256) bytes → AreBytes bytes
are_bytes [] small i = omega arith
are_bytes (byte ∷ bytes) small zero = small.0
are_bytes (byte ∷ bytes) small (suc i) = are_bytes bytes small.1 i

-- what a line puts are bytes
text_puts : (event : Event) (aim : FaultTarget) (text : List ℕ) → IsAimed aim event text → PutsBytes event
text_puts (event.Put bytes) aims.Nothing text s = are_bytes bytes (hex_small s.digits bytes s.hex)
text_puts (event.Put bytes) (aims.Stop call pick) text s = are_bytes bytes (hex_small s.spelled.digits bytes s.spelled.hex)
text_puts (event.Put bytes) (aims.Fail call) text s = are_bytes bytes (hex_small s.spelled.digits bytes s.spelled.hex)
text_puts (event.Timeout node) aim text s = tt
text_puts (event.Beat node) aim text s = tt
text_puts (event.Connect node connection) aim text s = tt
text_puts (event.Bytes connection bytes) aim text s = tt
text_puts (event.Hangup connection) aim text s = tt
text_puts (event.Deliver message) aim text s = tt
text_puts (event.Settle count) aim text s = tt
text_puts (event.Crash node pick) aim text s = tt
text_puts (event.Start node) aim text s = tt
text_puts (event.Take machine) aim text s = tt

-- the list where a line leads
abbrev IsSoundAt : Stage → Type 0
IsSoundAt stage = IsSound (fleet_at stage).commands

abbrev LinePuts : ScriptLine → Type 0
LinePuts says.Blank = Unit {0}
LinePuts (says.Nodes voters spare) = Unit {0}
LinePuts (says.Pages machines) = Unit {0}
LinePuts (says.Show number) = Unit {0}
LinePuts (says.Event event aim) = PutsBytes event

line_puts : (line : ScriptLine) (bytes : List ℕ) → line_of bytes ≡ Some line → LinePuts line
line_puts says.Blank bytes is = tt
line_puts (says.Nodes voters spare) bytes is = tt
line_puts (says.Pages machines) bytes is = tt
line_puts (says.Show number) bytes is = tt
line_puts (says.Event event aim) bytes is = text_puts event aim bytes (line_spelled (says.Event event aim) bytes is).text

show_sound : (usage : Usage) (fleet : Fleet) (number : ℕ) (o : Option MachineSaid) → IsSound fleet.commands → IsSoundAt (shows usage fleet number o).stage
show_sound usage fleet number None sound = sound
show_sound usage fleet number (Some say) sound = sound

counted_sound : (usage : Usage) (fleet : Fleet) (next : Fleet × List MachineSaid) (more : Option Usage) → IsSound fleet.commands → IsSound next.0.commands → IsSoundAt (counts usage fleet next more).stage
counted_sound usage fleet next None sound later = sound
counted_sound usage fleet next (Some more) sound later = later

event_sound : (usage : Usage) (fleet : Fleet) (number : ℕ) (event : Event) (o : Option (Fleet × List MachineSaid)) → applies fleet event ≡ o → PutsBytes event → IsSound fleet.commands → IsSoundAt (after_event usage fleet number o).stage
event_sound usage fleet number event None is puts sound = sound
event_sound usage fleet number event (Some next) is puts sound = counted_sound usage fleet next (with_event usage) sound (lists_stay_sound fleet event next puts sound is)

line_sound : (stage : Stage) (number : ℕ) (line : ScriptLine) → LinePuts line → IsSoundAt stage → IsSoundAt (line_step stage number line).stage
unfolding line_step
line_sound (AtNodes stage) number says.Blank puts sound = none_sound
line_sound (AtNodes stage) number (says.Nodes voters spare) puts sound = none_sound
line_sound (AtNodes (nodes.Opening outcomes)) number (says.Pages machines) puts sound = none_sound
line_sound (AtNodes (nodes.Within w)) number (says.Pages machines) puts sound = none_sound
line_sound (AtNodes stage) number (says.Show node) puts sound = none_sound
line_sound (AtNodes stage) number (says.Event event aim) puts sound = none_sound
line_sound (AtMachines usage fleet) number says.Blank puts sound = sound
line_sound (AtMachines usage fleet) number (says.Nodes voters spare) puts sound = sound
line_sound (AtMachines usage fleet) number (says.Pages machines) puts sound = sound
line_sound (AtMachines usage fleet) number (says.Show machine) puts sound = show_sound usage fleet number (standing_of fleet machine) sound
line_sound (AtMachines usage fleet) number (says.Event event aim) puts sound = event_sound usage fleet number event (applies fleet event) refl puts sound

said_sound : (stage : Stage) (number : ℕ) (bytes : List ℕ) (line : Option ScriptLine) → line_of bytes ≡ line → IsSoundAt stage → IsSoundAt (said_step stage number line).stage
said_sound stage number bytes None is sound = sound
said_sound stage number bytes (Some line) is sound = line_sound stage number line (line_puts line bytes is) sound

few_sound : (few : Bool) (stage : Stage) (next : Next) → IsSoundAt stage → IsSoundAt next.stage → IsSoundAt (cond few next (stops stage Large)).stage
few_sound true stage next sound later = later
few_sound false stage next sound later = sound

step_sound : (stage : Stage) (number : ℕ) (line : List ℕ) → IsSoundAt stage → IsSoundAt (step stage number line).stage
unfolding step
step_sound stage number line sound = few_sound _ stage (said_step stage number (line_of line)) sound (said_sound stage number line (line_of line) refl sound)

lead_sound : (stage : Stage) (number : ℕ) (lines : List (List ℕ)) → IsSoundAt stage → IsSoundAt (led_from stage number lines)
lead_sound stage number [] sound = sound
lead_sound stage number (line ∷ lines) sound =
    let next = step stage number line in
    let later = step_sound stage number line sound in
    let P : Option Fault → Type 0 = λ o. IsSoundAt (led (λ (s : Stage). led_from s (suc number) lines) next o) in
    elim next.fault as P [
      | None ↦ lead_sound next.stage (suc number) lines later
      | Some fault ↦ later
    ]

-- ---- scripts

-- The state machines of a stage follow, and its list begins with an earlier one.
record Leads (before after : Fleet) : Type 0 where
  follow : AllFollow after
  grows : BeginsWith after.commands before.commands

lead : (stage : Stage) (number : ℕ) (lines : List (List ℕ)) → AllFollow (fleet_at stage) → Leads (fleet_at stage) (fleet_at (led_from stage number lines))
lead stage number [] follow = record { follow = follow; grows = begins_itself (fleet_at stage).commands }
lead stage number (line ∷ lines) follow =
    let next = step stage number line in
    let goes = step_goes stage number line follow in
    let P : Option Fault → Type 0 = λ o. Leads (fleet_at stage) (fleet_at (led (λ (s : Stage). led_from s (suc number) lines) next o)) in
    elim next.fault as P [
      | None ↦
          let leads = lead next.stage (suc number) lines goes.follow in
          record { follow = leads.follow; grows = begins_then _ _ _ leads.grows goes.grows }
      | Some fault ↦ record { follow = goes.follow; grows = goes.grows }
    ]

-- The list at a moment is where that of the end begins.
lead_on : (stage : Stage) (number : ℕ) (lines : List (List ℕ)) (count : ℕ) → AllFollow (fleet_at stage)
    → BeginsWith (fleet_at (led_from stage number lines)).commands (fleet_at (led_from stage number (take count lines))).commands
lead_on stage number lines zero follow = (lead stage number lines follow).grows
lead_on stage number [] (suc count) follow = begins_itself (fleet_at stage).commands
lead_on stage number (line ∷ lines) (suc count) follow =
    let next = step stage number line in
    let goes = step_goes stage number line follow in
    let P : Option Fault → Type 0 = λ o.
    BeginsWith (fleet_at (led (λ (s : Stage). led_from s (suc number) lines) next o)).commands (fleet_at (led (λ (s : Stage). led_from s (suc number) (take count lines)) next o)).commands in
    elim next.fault as P [
      | None ↦ lead_on next.stage (suc number) lines count goes.follow
      | Some fault ↦ begins_itself (fleet_at next.stage).commands
    ]

closing_tells : (stage : Stage) → AllFollow (fleet_at stage) → AllByRecursion (Tells (fleet_at stage).commands) (closing stage) × AllByRecursion (IsSeenIn (fleet_at stage)) (closing stage)
closing_tells (AtNodes stage) follow = (all_nodes (Tells []) (λ say. tt) (nodes.closing stage), all_nodes (IsSeenIn (idle_fleet 0)) (λ say. tt) (nodes.closing stage))
closing_tells (AtMachines usage fleet) follow =
    let told = (machines_stand_alike fleet follow).all in
    (all_machines (Tells fleet.commands) (pages.Tells fleet.commands) (λ say t. t) _ told.0, all_machines (IsSeenIn fleet) (pages.IsSeenIn fleet) (λ say s. s) _ told.1)

-- What the run of lines says is of the list where they lead.
run_tells : (stage : Stage) (number : ℕ) (lines : List (List ℕ)) → AllFollow (fleet_at stage) → AllByRecursion (Tells (fleet_at (led_from stage number lines)).commands) (run_from stage number lines).said
run_tells stage number [] follow = (closing_tells stage follow).0
run_tells stage number (line ∷ lines) follow =
    let next = step stage number line in
    let goes = step_goes stage number line follow in
    let P : Option Fault → Type 0 = λ o.
    AllByRecursion (Tells (fleet_at (led (λ (s : Stage). led_from s (suc number) lines) next o)).commands) (onward (λ (s : Stage). run_from s (suc number) lines) next o).said in
    elim next.fault as P [
      | None ↦
          let leads = lead next.stage (suc number) lines goes.follow in
          let all = (fleet_at (led_from next.stage (suc number) lines)).commands in
          all_append (Tells all) next.said (run_from next.stage (suc number) lines).said
          (all_weaker (Tells (fleet_at next.stage).commands) (Tells all) (tells_grown all (fleet_at next.stage).commands leads.grows) next.said goes.tells)
          (run_tells next.stage (suc number) lines goes.follow)
      | Some fault ↦ goes.tells
    ]

-- this holds after some of these lines
abbrev SeenOnTheWay : Stage → ℕ → List (List ℕ) → Said → Type 0
SeenOnTheWay stage number lines say = (count : ℕ) × IsSeenIn (fleet_at (led_from stage number (take count lines))) say

run_seen : (stage : Stage) (number : ℕ) (lines : List (List ℕ)) → AllFollow (fleet_at stage) → AllByRecursion (SeenOnTheWay stage number lines) (run_from stage number lines).said
run_seen stage number [] follow = all_weaker (IsSeenIn (fleet_at stage)) (SeenOnTheWay stage number []) (λ say s. (0, s)) (closing stage) (closing_tells stage follow).1
run_seen stage number (line ∷ lines) follow =
    let next = step stage number line in
    let goes = step_goes stage number line follow in
    let here = all_weaker (IsSeenIn (fleet_at stage)) (SeenOnTheWay stage number (line ∷ lines)) (λ say s. (0, s)) next.said goes.seen in
    let P : Option Fault → Type 0 = λ o. next.fault ≡ o → AllByRecursion (SeenOnTheWay stage number (line ∷ lines)) (onward (λ (s : Stage). run_from s (suc number) lines) next o).said in
    let go : (o : Option Fault) → P o =
    λ o. elim o as P [
      | None ↦ λ e.
          all_append (SeenOnTheWay stage number (line ∷ lines)) next.said (run_from next.stage (suc number) lines).said here
          (all_weaker (SeenOnTheWay next.stage (suc number) lines) (SeenOnTheWay stage number (line ∷ lines))
          (λ say s. (suc s.0, subst (λ (f : Option Fault). IsSeenIn (fleet_at (led (λ (n : Stage). led_from n (suc number) (take s.0 lines)) next f)) say) (sym e) s.1))
          (run_from next.stage (suc number) lines).said
          (run_seen next.stage (suc number) lines goes.follow))
      | Some fault ↦ λ e. here
    ] in
    go next.fault refl

abbrev ShowsAtEnd : Run → Stage → Type 0
ShowsAtEnd run stage = run.fault ≡ None → (said : List Said) × (run.said ≡ said ++ closing stage)

shows_all : (stage : Stage) (number : ℕ) (lines : List (List ℕ)) → ShowsAtEnd (run_from stage number lines) (led_from stage number lines)
shows_all stage number [] = λ e. ([], refl)
shows_all stage number (line ∷ lines) =
    let next = step stage number line in
    let P : Option Fault → Type 0 = λ o. ShowsAtEnd (onward (λ (s : Stage). run_from s (suc number) lines) next o) (led (λ (s : Stage). led_from s (suc number) lines) next o) in
    elim next.fault as P [
      | None ↦ λ e. let w = shows_all next.stage (suc number) lines e in (next.said ++ w.0, ap (λ (s : List Said). next.said ++ s) w.1 ∙ sym (append_assoc next.said w.0 _))
      | Some fault ↦ λ e. absurd cc
    ]

module _ (script : List ℕ) (outcomes : List Outcome) where
  abbrev start : Stage
  start = AtNodes (nodes.Opening outcomes)

  grows_later : (early late : ℕ) → early ≤ late → BeginsWith (moment script outcomes late).commands (moment script outcomes early).commands
  grows_later early late le =
      let front : take early (take late (lines_of script)) ≡ take early (lines_of script) = take-take early late (lines_of script) le in
      subst (λ (lines : List (List ℕ)). BeginsWith (moment script outcomes late).commands (fleet_at (led_from start 1 lines)).commands) front (lead_on start 1 (take late (lines_of script)) early tt)

  grows_to_end : (count : ℕ) → BeginsWith (commands_of script outcomes) (moment script outcomes count).commands
  grows_to_end count = lead_on start 1 (lines_of script) count tt

  each_follows : (count : ℕ) → AllByRecursion (Follows (commands_of script outcomes)) (moment script outcomes count).machines
  each_follows count =
      let fleet = moment script outcomes count in
      all_weaker (Follows fleet.commands) (Follows (commands_of script outcomes)) (follows_grown (commands_of script outcomes) fleet.commands (grows_to_end count)) fleet.machines
      (lead start 1 (take count (lines_of script)) tt).follow

  all_follow : (count : ℕ) → All (Follows (commands_of script outcomes)) (moment script outcomes count).machines
  all_follow count = All-from_recursion (Follows (commands_of script outcomes)) (moment script outcomes count).machines (each_follows count)

  all_bounded : (count : ℕ) → All (λ (machine : Holding). length_of_all machine.databases ≤ 67108864) (moment script outcomes count).machines
  all_bounded count =
      let machines = (moment script outcomes count).machines in
      let commands = commands_of script outcomes in
      let P : Holding → Type 0 = λ machine. length_of_all machine.databases ≤ 67108864 in
      All-from_recursion P machines (all_weaker (Follows commands) P (λ machine f. files_are_bounded commands machine (lead_sound start 1 (lines_of script) none_sound) f) machines (each_follows count))

  same_holding : (early late : ℕ) (machine other : Holding) → Contains (moment script outcomes early).machines machine → Contains (moment script outcomes late).machines other → machine.applied ≡ other.applied → machine.databases ≡ other.databases
  same_holding early late machine other here there e =
      let one = All-contains (Follows (commands_of script outcomes)) (moment script outcomes early).machines machine (all_follow early) here in
      let two = All-contains (Follows (commands_of script outcomes)) (moment script outcomes late).machines other (all_follow late) there in
      one.holds ∙ ap (λ (n : ℕ). files (take n (commands_of script outcomes))) e ∙ sym two.holds

  all_told : All (Tells (commands_of script outcomes)) (run script outcomes).said
  all_told = All-from_recursion (Tells (commands_of script outcomes)) (run script outcomes).said (run_tells start 1 (lines_of script) tt)

  all_seen : All (IsSeen script outcomes) (run script outcomes).said
  all_seen = All-from_recursion (IsSeen script outcomes) (run script outcomes).said (run_seen start 1 (lines_of script) tt)

  same_digests : (number other applied : ℕ) (bytes others : List ℕ) → Contains (run script outcomes).said (machine_said number applied bytes) → Contains (run script outcomes).said (machine_said other applied others) → bytes ≡ others
  same_digests number other applied bytes others here there =
      let said = (run script outcomes).said in
      let one : IsDigestOf (commands_of script outcomes) applied bytes = All-contains (Tells (commands_of script outcomes)) said (machine_said number applied bytes) all_told here in
      let two : IsDigestOf (commands_of script outcomes) applied others = All-contains (Tells (commands_of script outcomes)) said (machine_said other applied others) all_told there in
      one.bytes_are ∙ sym two.bytes_are

  all_told_until : (count : ℕ) → All (Tells (commands_of script outcomes)) (run_until script outcomes count).said
  all_told_until count =
      let fleet = moment script outcomes count in
      let said = (run_until script outcomes count).said in
      All-from_recursion (Tells (commands_of script outcomes)) said
      (all_weaker (Tells fleet.commands) (Tells (commands_of script outcomes)) (tells_grown (commands_of script outcomes) fleet.commands (grows_to_end count)) said (run_tells start 1 (take count (lines_of script)) tt))

  next_does : (count : ℕ) (command : Command) → slice_get (commands_of script outcomes) count ≡ Some command → Does command (files (take count (commands_of script outcomes))) (files (take (count + 1) (commands_of script outcomes)))
  next_does count command e =
      let front = take count (commands_of script outcomes) in
      subst (λ (l : List Command). Does command (files front) (files l)) (sym (next_front (commands_of script outcomes) count command e)) (files_changed front command)

  pub keeps_alike : KeepsAlike script outcomes
  keeps_alike = record {
    grows = grows_later;
    one_list = grows_to_end;
    follow = all_follow;
    same = same_holding;
    bounded = all_bounded;
    told = all_told;
    seen = all_seen;
    same_digest = same_digests;
    told_until = all_told_until;
    shown_until = λ count. shows_all start 1 (take count (lines_of script));
    shown = shows_all start 1 (lines_of script);
    in_order = λ count. files_in_order (take count (commands_of script outcomes));
    does_next = next_does;
  }
