-- The files of a state machine are never longer together than the limit on what a list of commands states.
use Rattle.std.proofs.Common.{◌≡◌, ℕ, suc, ◌+◌, ◌<◌, ◌≤◌, max, Bool, true, false, cond, List, [], ◌∷◌, ◌++◌, Option, Some, None, Ok, Err, length, take, drop, sum_by, Contains, refl, sym, ap, subst, arith}
use Rattle.std.specs.Prelude.{bytes_eq, Result}
use Rattle.std.specs.List.{AllByRecursion}
use Rattle.std.proofs.lemmas.List.{take-append-drop}
use Rattle.dq_base.specs.declared.pages.NumberedPage.{NumberedPage}
use Rattle.dq_base.specs.Applying.{last_page}
use Rattle.wire_words.specs.Items.{AreBytes}
use Rattle.log_commands.specs.declared.command.Command.{Command}
use Rattle.log_commands.specs.declared.command.Command.TheVariants.{OpenDb, Frames, Undo, Checkpoint}
use Rattle.log_commands.specs.declared.fault.CommandFault.{CommandFault}
use Rattle.log_commands.specs.Reading.{command_of}
use Rattle.log_commands.proofs.CommandLaws.{command_found}
use Rattle.database_state.specs.Files.{Content, files}
use Rattle.database_state.specs.Stated as files_stated
use Rattle.database_state.specs.Stated.{IsSpelled, names_opened}
use Rattle.database_state.proofs.LimitLaw.{limit_bounds}
use Rattle.script_machines.specs.Limits.{length_stated_by, statements, table_of, is_allowed, may_join}
use Rattle.script_machines.specs.StatedLengths.{names_in, greatest_stated}
use Rattle.script_machines.proofs.StatedTables.{names_told, allowed_told}
use Rattle.script_grammar.specs.declared.events.Event.TheVariants as event
use Rattle.script_machines.specs.declared.machine_line.MachineLine.{MachineLine}
use Rattle.script_machines.specs.Machines.{Fleet, take_at, with_command, applies, place_named}
use Rattle.script_machines.specs.Alike.{length_of_all, IsSound, ListsStaySound, FilesAreBounded}
use Rattle.dq_base.proofs.Choices.{some_is}
use Rattle.script_machines.proofs.Elements.{all_append, where_mapped}

-- ---- the list

pub none_sound : IsSound []
unfolding is_allowed
none_sound = record { spelled = tt; allowed = refl }

join_sound : (fleet : Fleet) (command : Command) (may : Bool) → may_join fleet.commands command ≡ may → IsSpelled command → IsSound fleet.commands
    → IsSound (cond may (record { commands = fleet.commands ++ command ∷ []; machines = fleet.machines }) fleet).commands
join_sound fleet command true e spelled sound = record { spelled = all_append IsSpelled fleet.commands (command ∷ []) sound.spelled (spelled, tt); allowed = e }
join_sound fleet command false e spelled sound = sound

read_sound : (fleet : Fleet) (bytes : List ℕ) (read : Result Command CommandFault) → command_of bytes ≡ read → AreBytes bytes → IsSound fleet.commands → IsSound (with_command fleet read).commands
read_sound fleet bytes (Err fault) e are sound = sound
read_sound fleet bytes (Ok command) e are sound = join_sound fleet command (may_join fleet.commands command) refl (bytes, command_found command bytes are e) sound

pub lists_stay_sound : ListsStaySound
unfolding applies
lists_stay_sound fleet (event.Put bytes) next puts sound e = subst (λ (n : Fleet × List MachineLine). IsSound n.0.commands) (some_is _ next e) (read_sound fleet bytes (command_of bytes) refl puts sound)
lists_stay_sound fleet (event.Take number) next puts sound e =
    where_mapped (λ (n : Fleet × List MachineLine). IsSound n.0.commands) (λ (place : ℕ). (take_at fleet place, [])) (place_named number (length fleet.machines)) next (λ place h. sound) e
lists_stay_sound fleet (event.Timeout node) next puts sound e = absurd cc
lists_stay_sound fleet (event.Beat node) next puts sound e = absurd cc
lists_stay_sound fleet (event.Connect node connection) next puts sound e = absurd cc
lists_stay_sound fleet (event.Bytes connection bytes) next puts sound e = absurd cc
lists_stay_sound fleet (event.Hangup connection) next puts sound e = absurd cc
lists_stay_sound fleet (event.Deliver message) next puts sound e = absurd cc
lists_stay_sound fleet (event.Settle count) next puts sound e = absurd cc
lists_stay_sound fleet (event.Crash node pick) next puts sound e = absurd cc
lists_stay_sound fleet (event.Start node) next puts sound e = absurd cc

-- ---- what a list states, as its limits and as the files have it

same_length : (last : Option NumberedPage) → files_stated.length_stated last ≡ length_stated_by last
same_length None = refl
same_length (Some page) = refl

either_way : (same : Bool) (n : ℕ) → cond same n n ≡ n
either_way true n = refl
either_way false n = refl

same_greatest : (commands : List Command) (name : List ℕ) → files_stated.greatest_stated commands name ≡ greatest_stated (statements commands) name
same_greatest [] name = refl
same_greatest (OpenDb other ∷ commands) name =
    (λ i. max (sym (either_way (bytes_eq other name) 0) i) (same_greatest commands name i))
same_greatest (Frames other tx truncate true pages ∷ commands) name =
    (λ i. max (cond (bytes_eq other name) (same_length (last_page pages) i) 0) (same_greatest commands name i))
same_greatest (Frames other tx truncate false pages ∷ commands) name =
    (λ i. max (sym (either_way (bytes_eq other name) 0) i) (same_greatest commands name i))
same_greatest (Undo tx ∷ commands) name = let rest = same_greatest commands name in omega (arith, rest)
same_greatest (Checkpoint other ∷ commands) name = let rest = same_greatest commands name in omega (arith, rest)

same_names : (commands : List Command) → names_opened commands ≡ names_in (statements commands)
same_names [] = refl
same_names (OpenDb name ∷ commands) = ap (λ (names : List (List ℕ)). name ∷ names) (same_names commands)
same_names (Frames name tx truncate commit pages ∷ commands) = ap (λ (names : List (List ℕ)). name ∷ names) (same_names commands)
same_names (Undo tx ∷ commands) = same_names commands
same_names (Checkpoint name ∷ commands) = same_names commands

each_in : (P : List ℕ → Type 0) (names : List (List ℕ)) → ((name : List ℕ) → Contains names name → P name) → AllByRecursion P names
each_in P [] holds = tt
each_in P (n ∷ names) holds = (
  holds n (0, omega arith, refl),
  each_in P names (λ name c. let lt : c.0 < length names = c.1 in holds name (suc c.0, omega (arith, lt), c.2)),
)

-- ---- the files of a state machine

front_within : (commands : List Command) (count : ℕ) → IsSound commands → length_of_all (files (take count commands)) ≤ 67108864
front_within commands count sound =
    let whole : take count commands ++ drop count commands ≡ commands = take-append-drop count commands in
    let names = names_in (table_of commands) in
    let told = names_told (statements commands) in
    let among : AllByRecursion (λ name. Contains names name) (names_opened commands) =
    subst (λ (opened : List (List ℕ)). AllByRecursion (λ name. Contains names name) opened) (sym (same_names commands)) (each_in (λ name. Contains names name) (names_in (statements commands)) (λ name c. (told.same name).1 c)) in
    let limited : sum_by (greatest_stated (statements commands)) names ≤ 67108864 = ((allowed_told (statements commands) names told).0 sound.allowed).1 in
    let total : sum_by (files_stated.greatest_stated commands) names ≤ 67108864 = subst (λ (f : List ℕ → ℕ). sum_by f names ≤ 67108864) (λ i name. sym (same_greatest commands name) i) limited in
    limit_bounds (take count commands) (drop count commands) names 67108864
    (subst (λ (cs : List Command). AllByRecursion IsSpelled cs) (sym whole) sound.spelled)
    (subst (λ (cs : List Command). AllByRecursion (λ name. Contains names name) (names_opened cs)) (sym whole) among)
    (subst (λ (cs : List Command). sum_by (files_stated.greatest_stated cs) names ≤ 67108864) (sym whole) total)

-- So the files of a state machine that has applied a front of the list are within the limit.
pub files_are_bounded : FilesAreBounded
files_are_bounded commands machine sound f = subst (λ (contents : List Content). length_of_all contents ≤ 67108864) (sym f.holds) (front_within commands machine.applied sound)
