-- Each state machine holds what its front of the list makes, and is shown so.
use Rattle.std.proofs.Common.{◌≡◌, ℕ, zero, suc, ◌+◌, ◌-◌, ◌<◌, ◌≤◌, Bool, true, false, cond, leb, List, [], ◌∷◌, ◌++◌, Option, Some, None, option_map, Ok, Err, length, get_or, take, refl, sym, ap, subst, ◌∙◌, append_assoc, append-nil, arith}
use Rattle.std.specs.Prelude.{slice_get, Result}
use Rattle.std.specs.List.{AllByRecursion}
use Rattle.std.proofs.Math.Seq.{get_or-append_seam}
use Rattle.std.proofs.lemmas.Bool.{le-leb}
use Rattle.std.proofs.lemmas.Grind.{fold-append}
use Rattle.std.proofs.lemmas.Option.{slice_get_within, get_or_from_slice_get}
use Rattle.std.proofs.lemmas.List.{take-append-le, take_more, length-append}
use Rattle.log_commands.specs.declared.command.Command.{Command}
use Rattle.log_commands.specs.declared.fault.CommandFault.{CommandFault}
use Rattle.log_commands.specs.Reading.{command_of}
use Rattle.database_state.specs.Files.{Content, act, files}
use Rattle.script_machines.specs.Limits.{may_join}
use Rattle.file_digest.specs.Digest.{digest}
use Rattle.script_grammar.specs.declared.events.Event.TheVariants.{Timeout, Beat, Connect, Bytes, Hangup, Deliver, Settle, Crash, Start, Put, Take}
use Rattle.script_machines.specs.declared.machine_line.MachineLine.{MachineLine}
use Rattle.script_machines.specs.declared.machine_line.MachineLine.TheVariants.{Refused, Machine}
use Rattle.script_machines.specs.Holding.{Holding}
use Rattle.script_machines.specs.Machines.{Fleet, idle, idle_fleet, after_command, after_next, take_at, with_command, joins, refusal, applies, place_named, standing, standing_of, standings}
use Rattle.script_machines.specs.Alike.{BeginsWith, Follows, AllFollow, IsDigestOf, Tells, AllTell, IsSeenIn, AllSeenIn, GoesAlike, EventsKeepAlike, MachinesStandAlike}
use Rattle.dq_base.proofs.Choices.{some_is}
use Rattle.script_machines.proofs.Elements.{all_weaker, all_set, all_get_or, where_mapped}

-- ---- one state machine, and a list that grows

pub begins_itself : (commands : List Command) → BeginsWith commands commands
begins_itself commands = ([], append-nil commands)

pub begins_then : (last more first : List Command) → BeginsWith last more → BeginsWith more first → BeginsWith last first
begins_then last more first b c = (c.0 ++ b.0, sym (append_assoc first c.0 b.0) ∙ ap (λ (l : List Command). l ++ b.0) c.1 ∙ b.1)

follows_longer : (commands more : List Command) (machine : Holding) → Follows commands machine → Follows (commands ++ more) machine
follows_longer commands more machine f = record {
  within = omega (arith, f.within, length-append commands more);
  holds = f.holds ∙ ap files (sym (take-append-le machine.applied commands more f.within));
}

pub follows_grown : (all commands : List Command) → BeginsWith all commands → (machine : Holding) → Follows commands machine → Follows all machine
follows_grown all commands b machine f = subst (λ (l : List Command). Follows l machine) b.1 (follows_longer commands b.0 machine f)

digest_longer : (commands more : List Command) (applied : ℕ) (bytes : List ℕ) → IsDigestOf commands applied bytes → IsDigestOf (commands ++ more) applied bytes
digest_longer commands more applied bytes d = record {
  within = omega (arith, d.within, length-append commands more);
  bytes_are = d.bytes_are ∙ ap (λ (l : List Command). digest (files l)) (sym (take-append-le applied commands more d.within));
}

pub tells_grown : (all commands : List Command) → BeginsWith all commands → (say : MachineLine) → Tells commands say → Tells all say
tells_grown all commands b Refused t = tt
tells_grown all commands b (Machine number applied bytes) t = subst (λ (l : List Command). IsDigestOf l applied bytes) b.1 (digest_longer commands b.0 applied bytes t)

follows_idle : (commands : List Command) → Follows commands idle
follows_idle commands = record { within = omega arith; holds = refl }

pub next_front : (commands : List Command) (count : ℕ) (command : Command) → slice_get commands count ≡ Some command → take (count + 1) commands ≡ take count commands ++ command ∷ []
next_front commands count command e =
    let is : get_or commands count command ≡ command = get_or_from_slice_get commands count command command e in
    take_more commands count command (slice_get_within commands count command e) ∙ ap (λ (c : Command). take count commands ++ c ∷ []) is

follows_next : (commands : List Command) (machine : Holding) (next : Option Command) → slice_get commands machine.applied ≡ next → Follows commands machine → Follows commands (after_command machine next)
follows_next commands machine None e f = f
follows_next commands machine (Some command) e f =
    let lt : machine.applied < length commands = slice_get_within commands machine.applied command e in
    record {
      within = omega (arith, lt);
      holds = ap (λ (d : List Content). act d command) f.holds ∙ sym (fold-append act [] (take machine.applied commands) (command ∷ [])) ∙ ap files (sym (next_front commands machine.applied command e));
    }

-- ---- all state machines

pub all_follow_idle : (count : ℕ) → AllFollow (idle_fleet count)
all_follow_idle zero = tt
all_follow_idle (suc count) = (follows_idle [], all_follow_idle count)

take_goes : (fleet : Fleet) (place : ℕ) → AllFollow fleet → GoesAlike fleet (take_at fleet place) []
take_goes fleet place follow =
    let old = get_or fleet.machines place idle in
    let f : Follows fleet.commands old = all_get_or (Follows fleet.commands) fleet.machines place idle (follows_idle fleet.commands) follow in
    record {
      follow = all_set (Follows fleet.commands) fleet.machines place (after_next fleet.commands old) (follows_next fleet.commands old (slice_get fleet.commands old.applied) refl f) follow;
      grows = begins_itself fleet.commands;
      tells = tt;
      seen = tt;
    }

put_goes : (fleet : Fleet) (command : Command) (may : Bool) → AllFollow fleet
    → GoesAlike fleet (cond may (record { commands = fleet.commands ++ command ∷ []; machines = fleet.machines }) fleet) (refusal may)
put_goes fleet command true follow = record {
  follow = all_weaker (Follows fleet.commands) (Follows (fleet.commands ++ command ∷ [])) (follows_longer fleet.commands (command ∷ [])) fleet.machines follow;
  grows = (command ∷ [], refl);
  tells = tt;
  seen = tt;
}
put_goes fleet command false follow = record { follow = follow; grows = begins_itself fleet.commands; tells = (tt, tt); seen = (tt, tt) }

read_goes : (fleet : Fleet) (read : Result Command CommandFault) → AllFollow fleet → GoesAlike fleet (with_command fleet read) (refusal (joins fleet read))
read_goes fleet (Err fault) follow = record { follow = follow; grows = begins_itself fleet.commands; tells = (tt, tt); seen = (tt, tt) }
read_goes fleet (Ok command) follow = put_goes fleet command (may_join fleet.commands command) follow

abbrev FleetGoes : Fleet → Fleet × List MachineLine → Type 0
FleetGoes fleet next = GoesAlike fleet next.0 next.1

pub events_keep_alike : EventsKeepAlike
unfolding applies
events_keep_alike fleet (Put bytes) next follow e = subst (FleetGoes fleet) (some_is _ next e) (read_goes fleet (command_of bytes) follow)
events_keep_alike fleet (Take number) next follow e =
    where_mapped (FleetGoes fleet) (λ (place : ℕ). (take_at fleet place, [])) (place_named number (length fleet.machines)) next (λ place h. take_goes fleet place follow) e
events_keep_alike fleet (Timeout node) next follow e = absurd cc
events_keep_alike fleet (Beat node) next follow e = absurd cc
events_keep_alike fleet (Connect node connection) next follow e = absurd cc
events_keep_alike fleet (Bytes connection bytes) next follow e = absurd cc
events_keep_alike fleet (Hangup connection) next follow e = absurd cc
events_keep_alike fleet (Deliver message) next follow e = absurd cc
events_keep_alike fleet (Settle count) next follow e = absurd cc
events_keep_alike fleet (Crash node pick) next follow e = absurd cc
events_keep_alike fleet (Start node) next follow e = absurd cc

-- ---- what is shown

shown_tells : (commands : List Command) (number : ℕ) (machine : Holding) → Follows commands machine → Tells commands (standing number machine)
shown_tells commands number machine f = record { within = f.within; bytes_are = ap digest f.holds }

all_shown_tell : (commands : List Command) (number : ℕ) (machines : List Holding) → AllByRecursion (Follows commands) machines → AllTell commands (standings number machines)
all_shown_tell commands number [] follow = tt
all_shown_tell commands number (machine ∷ machines) follow = (shown_tells commands number machine follow.0, all_shown_tell commands (suc number) machines follow.1)

place_is : (n count : ℕ) → suc n ≤ count → place_named (suc n) count ≡ Some n
place_is n count le =
    let some : leb 1 (suc n) ≡ true = le-leb 1 (suc n) (omega arith) in
    let few : leb (suc n) count ≡ true = le-leb (suc n) count le in
    let back : suc n - 1 ≡ n = omega arith in
    rw (some, few, back) refl

-- the state machine after some others has the number after theirs
here : (commands : List Command) (front machines : List Holding) (machine : Holding)
    → standing_of (record { commands = commands; machines = front ++ machine ∷ machines }) (suc (length front)) ≡ Some (standing (suc (length front)) machine)
here commands front machines machine =
    let number = suc (length front) in
    let all = front ++ machine ∷ machines in
    let long = length-append front (machine ∷ machines) in
    ap (option_map (λ (place : ℕ). standing number (get_or all place idle))) (place_is (length front) (length all) (omega (arith, long)))
    ∙ ap (λ (m : Holding). Some (standing number m)) (get_or-append_seam front machine machines idle)

all_here : (commands : List Command) (front machines : List Holding) → AllSeenIn (record { commands = commands; machines = front ++ machines }) (standings (suc (length front)) machines)
all_here commands front [] = tt
all_here commands front (machine ∷ machines) =
    let others = all_here commands (front ++ machine ∷ []) machines in
    let long : length (front ++ machine ∷ []) ≡ suc (length front) = length-append front (machine ∷ []) ∙ omega arith in
    let same : (front ++ machine ∷ []) ++ machines ≡ front ++ machine ∷ machines = append_assoc front (machine ∷ []) machines in (
      here commands front machines machine,
      subst (λ (n : ℕ). AllSeenIn (record { commands = commands; machines = front ++ machine ∷ machines }) (standings (suc n) machines)) long
          (subst (λ (all : List Holding). AllSeenIn (record { commands = commands; machines = all }) (standings (suc (length (front ++ machine ∷ []))) machines)) same others),
    )

-- what is shown of a state machine is how it stands
standing_seen : (fleet : Fleet) (number : ℕ) (o : Option ℕ) (say : MachineLine) → place_named number (length fleet.machines) ≡ o → option_map (λ (place : ℕ). standing number (get_or fleet.machines place idle)) o ≡ Some say → IsSeenIn fleet say
standing_seen fleet number None say is e = absurd cc
standing_seen fleet number (Some place) say is e =
    let machine = get_or fleet.machines place idle in
    subst (IsSeenIn fleet) (some_is (standing number machine) say e) (ap (option_map (λ (p : ℕ). standing number (get_or fleet.machines p idle))) is)

standing_tells : (fleet : Fleet) (number : ℕ) (say : MachineLine) → AllFollow fleet → standing_of fleet number ≡ Some say → Tells fleet.commands say
standing_tells fleet number say follow e =
    where_mapped (Tells fleet.commands) (λ (place : ℕ). standing number (get_or fleet.machines place idle)) (place_named number (length fleet.machines)) say
    (λ place h. shown_tells fleet.commands number (get_or fleet.machines place idle) (all_get_or (Follows fleet.commands) fleet.machines place idle (follows_idle fleet.commands) follow)) e

pub machines_stand_alike : MachinesStandAlike
machines_stand_alike fleet follow = record {
  one = λ number say e. (standing_tells fleet number say follow e, standing_seen fleet number (place_named number (length fleet.machines)) say refl e);
  all = (all_shown_tell fleet.commands 1 fleet.machines follow, all_here fleet.commands [] fleet.machines);
}
