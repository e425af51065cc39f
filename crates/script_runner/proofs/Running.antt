-- Running a script line by line gives the run that its bytes make.
use Rattle.std.proofs.Common.{◌≡◌, ℕ, suc, ◌<◌, ◌≤◌, List, [], ◌∷◌, ◌++◌, Option, Some, None, length, refl, sym, ap, subst, ◌∙◌, append_assoc, arith}
use Rattle.std.specs.Io.KnownBytes.{Appends, Consumes, Keeps, IsAtEnd}
use Rattle.std.proofs.lemmas.List.{append-nil, length-append, nil_from_length}
use Rattle.std.proofs.lemmas.Bool.{lt-leb, le-leb}
use Rattle.dq_base.specs.Sink.{AppendsFront}
use Rattle.dq_base.proofs.ContentLaws.{Consumes-nothing, Consumes-then, Appends-nothing, Appends-then, AppendsFront-nothing, AppendsFront-longer, AppendsFront-then}
use Rattle.script_grammar.specs.ScriptSize.{line_limit, line_count_limit}
use Rattle.script_grammar.specs.Lines.{lines_of, Cursor, to_come, TakesLine}
use Rattle.script_grammar.specs.Grammar.{line_of}
use Rattle.script_cluster.specs.Knowing.{Knowing, Told, outcomes_in, outcomes_over}
use Rattle.script_cluster.specs.Outcomes.{Outcome, Item, Turn}
use Rattle.script_cluster.specs.Run.{Fault, Line, Large}
use Rattle.script_runner.specs.Run.{Said, Stage, Next, Run, step, said_before, onward, ends_at, closing, journal_at, turns_at, over_at, run_from, run, stops, text_of}
use Rattle.script_runner.specs.Stages.{AtStart, AtNodes}
use Rattle.script_runner.specs.Scenes.{Holds, Nodes, Machines, stage_of, journal_of, closing_of, turns_of, Goes, Ends, EndsAt}
use Rattle.script_runner.specs.Ending.{MayFollow, Anything, IsRun, IsBeside, EndsBeside, BeginWith, Reached, ReadWhole, RanShort, Settles, StopsShort}
use Rattle.script_runner.proofs.Lining.{lines_feed, lines_last, feed_first, last_first, line_begins, end_left, held, held_end, without_separator, some_line, starts, Consumes-none}
use Rattle.script_runner.proofs.Printed.{text_of-append}
use Rattle.script_runner.proofs.Scening.{none_told, told_at, over_none}
use Rattle.script_runner.proofs.Growing.{run_grows, begin_then}

-- ---- steps

-- where a line leads on
run_step : (stage next : Stage) (number : ℕ) (line : List ℕ) (lines : List (List ℕ)) (said : List Said) → step stage number line ≡ record { stage = next; said = said; fault = None }
    → run_from stage number (line ∷ lines) ≡ said_before said (run_from next (suc number) lines)
run_step stage next number line lines said e = ap (λ (n : Next). onward (λ (s : Stage). run_from s (suc number) lines) n n.fault) e

-- a run whose next line ends it
onward_ends : (go : Stage → Run) (next : Next) (fault : Fault) → next.fault ≡ Some fault → onward go next next.fault ≡ ends_at next.stage next.said (Some fault)
onward_ends go next fault e = ap (onward go next) e

run_fault : (stage : Stage) (number : ℕ) (line : List ℕ) (lines : List (List ℕ)) (fault : Fault) (journal : List Item) (said : List Said) (turns : List Turn) (over : Option Turn) → EndsAt fault journal said turns over (step stage number line)
    → IsRun said (Some fault) journal turns over (run_from stage number (line ∷ lines))
run_fault stage number line lines fault journal said turns over e =
    let ends = onward_ends (λ (s : Stage). run_from s (suc number) lines) (step stage number line) fault e.fault_is in
    subst (IsRun said (Some fault) journal turns over) (sym ends) (record { said_is = e.said_is; fault_is = refl; journal_is = e.journal_is; turns_are = e.turns_are; over_is = e.over_is })

line_long : (line : List ℕ) → line_limit < length line → line_of line ≡ None
unfolding line_of
line_long line long = rw (lt-leb (length line) line_limit long) refl

-- a line that is too long, whatever follows it
step_long : (stage : Stage) (number : ℕ) (line : List ℕ) → number ≤ line_count_limit → line_limit < length line → step stage number line ≡ stops stage (Line number)
unfolding step
step_long stage number line few long = rw (le-leb number line_count_limit few, line_long line long) refl

-- a line past the last that a script may have
step_past : (stage : Stage) (number : ℕ) (line : List ℕ) → line_count_limit < number → step stage number line ≡ stops stage Large
unfolding step
step_past stage number line past = rw (lt-leb number line_count_limit past) refl

stops_so : (stage : Stage) (fault : Fault) (next : Next) → next ≡ stops stage fault → EndsAt fault (journal_at stage) [] (turns_at stage) (over_at stage) next
stops_so stage fault next e = subst (EndsAt fault (journal_at stage) [] (turns_at stage) (over_at stage)) (sym e) (record { fault_is = refl; said_is = refl; journal_is = refl; turns_are = refl; over_is = refl })

said_twice : (a b : List Said) (r : Run) → said_before a (said_before b r) ≡ said_before (a ++ b) r
said_twice a b r = ap (λ (s : List Said). record { said = s; fault = r.fault; turns = r.turns; over = r.over; journal = r.journal }) (sym (append_assoc a b r.said))

-- what was said before is in front
run_behind : (a b : List Said) (fault : Option Fault) (journal : List Item) (turns : List Turn) (over : Option Turn) (r whole : Run) → whole ≡ said_before a r → IsRun b fault journal turns over r → IsRun (a ++ b) fault journal turns over whole
run_behind a b fault journal turns over r whole e is =
    subst (IsRun (a ++ b) fault journal turns over) (sym e) (record { said_is = ap (λ (s : List Said). a ++ s) is.said_is; fault_is = is.fault_is; journal_is = is.journal_is; turns_are = is.turns_are; over_is = is.over_is })

-- what is noted at a stage is what is held of it
journal_same : {P : Type 0} (at : Holds P) (turns : List Turn) (later : List Outcome) → journal_at (stage_of at turns later) ≡ journal_of at
journal_same (Nodes AtStart) turns later = refl
journal_same (Nodes (AtNodes h)) turns later = refl
journal_same (Machines usage fleet) turns later = refl

-- so are the turns there
pub turns_same : {P : Type 0} (at : Holds P) (turns : List Turn) (later : List Outcome) → turns_at (stage_of at turns later) ≡ turns_of at turns
turns_same (Nodes AtStart) turns later = refl
turns_same (Nodes (AtNodes h)) turns later = refl
turns_same (Machines usage fleet) turns later = refl

-- how all stand is no matter of turns and of what is to come
shown_same : {P : Type 0} (at : Holds P) (turns : List Turn) (later : List Outcome) → closing (stage_of at turns later) ≡ closing_of at
shown_same (Nodes AtStart) turns later = refl
shown_same (Nodes (AtNodes h)) turns later = refl
shown_same (Machines usage fleet) turns later = refl

-- what a line printed is a front of the text of the run from there on
onward_front : (a b : Option (List ℕ)) (go : Stage → Run) (next : Next) (fault : Option Fault) → AppendsFront a b (text_of next.said) → AppendsFront a b (text_of (onward go next fault).said)
onward_front a b go next None front = rw (text_of-append next.said (go next.stage).said) (AppendsFront-longer a b (text_of next.said) (text_of (go next.stage).said) front)
onward_front a b go next (Some fault) front = front

step_front : (a b : Option (List ℕ)) (stage : Stage) (number : ℕ) (line : List ℕ) (lines : List (List ℕ)) → AppendsFront a b (text_of (step stage number line).said) → AppendsFront a b (text_of (run_from stage number (line ∷ lines)).said)
step_front a b stage number line lines front = onward_front a b (λ (s : Stage). run_from s (suc number) lines) (step stage number line) (step stage number line).fault front

-- the run of a line and of those after it begins where the line has led
onward_begins : (go : Stage → Run) (next : Next) (fault : Option Fault) (turns : List Turn) → ((s : Stage) → BeginWith (go s).turns (turns_at s)) → BeginWith (turns_at next.stage) turns → BeginWith (onward go next fault).turns turns
onward_begins go next None turns grows b = begin_then (go next.stage).turns (turns_at next.stage) turns (grows next.stage) b
onward_begins go next (Some fault) turns grows b = b

step_begins : (stage : Stage) (number : ℕ) (line : List ℕ) (lines : List (List ℕ)) (turns : List Turn) → BeginWith (turns_at (step stage number line).stage) turns → BeginWith (run_from stage number (line ∷ lines)).turns turns
step_begins stage number line lines turns b =
    onward_begins (λ (s : Stage). run_from s (suc number) lines) (step stage number line) (step stage number line).fault turns (λ s. run_grows s (suc number) lines) b

-- what was said before doesn't matter to what was done outside a run
behind_beside : (turns : List Turn) (over : Option Turn) (said : List Said) (r : Run) → IsBeside turns over r → IsBeside turns over (said_before said r)
behind_beside turns None said r b = tt
behind_beside turns (Some turn) said r b = b

-- a line after which something was done outside the run ends it
line_beside : (turns : List Turn) (over : Option Turn) (stage : Stage) (number : ℕ) (line : List ℕ) (lines : List (List ℕ)) → EndsBeside turns over (step stage number line) → IsBeside turns over (run_from stage number (line ∷ lines))
line_beside turns None stage number line lines e = tt
line_beside turns (Some turn) stage number line lines e =
    let ends = onward_ends (λ (s : Stage). run_from s (suc number) lines) (step stage number line) e.0 e.1 in
    (ap (λ (r : Run). r.turns) ends ∙ e.2, ap (λ (r : Run). r.over) ends ∙ e.3)

-- ---- the script so far

pub reached_start : {P : Type 0} (knows : Knowing P) (left written : Option (List ℕ)) → Reached knows left (to_come (record { line = []; ahead = [] }) left) written written (Nodes AtStart) 1
reached_start knows left written = record { read = []; outcomes = []; turns = []; said = []; taken = starts left; told = Appends-nothing written; goes_on = λ more later. refl; know = tt; uses = refl }

module _ {P : Type 0} (knows : Knowing P) (first now written printed_now : Option (List ℕ)) (at : Holds P) (number : ℕ) (r : Reached knows first now written printed_now at number) where
  -- what comes of later lines follows
  joined : (came later : List Outcome) (bytes : List ℕ) → run bytes ((r.outcomes ++ came) ++ later) ≡ run bytes (r.outcomes ++ (came ++ later))
  joined came later bytes = ap (run bytes) (append_assoc r.outcomes came later)

  -- A line that is in the grammar leads on.
  pub reached_line : (later printed_later : Option (List ℕ)) (line : List ℕ) (next : Holds P) (said : List Said) → TakesLine now later line (10 ∷ [])
      → Goes knows (λ (s : Stage). step s number line) at next said → Appends printed_now printed_later (text_of said) → Reached knows first later written printed_later next (suc number)
  reached_line later printed_later line next said t g a = record {
    read = r.read ++ (line ++ 10 ∷ []);
    outcomes = r.outcomes ++ g.outcomes;
    turns = g.turns r.turns;
    said = r.said ++ said;
    taken = Consumes-then first now later r.read (line ++ 10 ∷ []) r.taken t.taken;
    told = rw (text_of-append r.said said) (Appends-then written printed_now printed_later (text_of r.said) (text_of said) r.told a);
    goes_on = λ more come.
        joined g.outcomes come ((r.read ++ (line ++ 10 ∷ [])) ++ more)
        ∙ ap (λ (bytes : List ℕ). run bytes (r.outcomes ++ (g.outcomes ++ come))) (append_assoc r.read (line ++ 10 ∷ []) more ∙ ap (λ (bytes : List ℕ). r.read ++ bytes) (append_assoc line (10 ∷ []) more))
        ∙ r.goes_on (line ++ 10 ∷ more) (g.outcomes ++ come)
        ∙ ap (λ (lines : List (List ℕ)). said_before r.said (run_from (stage_of at r.turns (g.outcomes ++ come)) number lines)) (lines_feed line more t.no_feed)
        ∙ ap (said_before r.said) (run_step (stage_of at r.turns (g.outcomes ++ come)) (stage_of next (g.turns r.turns) come) number line (lines_of more) said (g.goes r.turns come))
        ∙ said_twice r.said said (run_from (stage_of next (g.turns r.turns) come) (suc number) (lines_of more));
    know = g.know r.turns r.know;
    uses = g.uses r.turns ∙ ap (λ (outcomes : List Outcome). outcomes ++ g.outcomes) r.uses;
  }

  -- ---- what a reader holds

  taken_so : (cursor : Cursor) (left : Option (List ℕ)) (bytes : List ℕ) → Consumes now (to_come cursor left) bytes → Consumes first left (r.read ++ (bytes ++ cursor.ahead))
  taken_so cursor left bytes taken = rw (append_assoc r.read bytes cursor.ahead) at (held first cursor left (r.read ++ bytes) (Consumes-then first now (to_come cursor left) r.read bytes r.taken taken))

  taken_all : (cursor : Cursor) (left : Option (List ℕ)) (line : List ℕ) → TakesLine now (to_come cursor left) line [] → IsAtEnd (to_come cursor left) → Consumes first left (r.read ++ line)
  taken_all cursor left line t end = held_end first cursor left (r.read ++ line) (Consumes-then first now (to_come cursor left) r.read line r.taken (without_separator now (to_come cursor left) line t)) end

  -- the run of what was read and of what follows: what was said, and then the run from here
  goes_behind : (bytes more : List ℕ) (later : List Outcome) → run ((r.read ++ bytes) ++ more) (r.outcomes ++ later) ≡ said_before r.said (run_from (stage_of at r.turns later) number (lines_of (bytes ++ more)))
  goes_behind bytes more later = ap (λ (b : List ℕ). run b (r.outcomes ++ later)) (append_assoc r.read bytes more) ∙ r.goes_on (bytes ++ more) later

  -- No line was left.
  pub whole_none : (cursor : Cursor) (left : Option (List ℕ)) (line : List ℕ) → TakesLine now (to_come cursor left) line [] → IsAtEnd (to_come cursor left) → length line ≡ 0 → ReadWhole knows first left written printed_now at
  whole_none cursor left line t end empty =
      let nil : line ≡ [] = nil_from_length line empty in
      record {
        read = r.read ++ line;
        outcomes = r.outcomes;
        turns = r.turns;
        said = r.said;
        taken = taken_all cursor left line t end;
        end = end_left cursor left end;
        told = r.told;
        runs = λ later. r.goes_on line later ∙ ap (λ (l : List ℕ). said_before r.said (run_from (stage_of at r.turns later) number (lines_of l))) nil ∙ ap (λ (s : List Said). said_before r.said (ends_at (stage_of at r.turns later) s None)) (shown_same at r.turns later);
        know = r.know;
        uses = r.uses;
      }

  -- A last line that lacks its LF leads on.
  pub whole_last : (printed_later : Option (List ℕ)) (cursor : Cursor) (left : Option (List ℕ)) (line : List ℕ) (next : Holds P) (said : List Said) → TakesLine now (to_come cursor left) line [] → IsAtEnd (to_come cursor left)
      → 0 < length line → Goes knows (λ (s : Stage). step s number line) at next said → Appends printed_now printed_later (text_of said) → ReadWhole knows first left written printed_later next
  whole_last printed_later cursor left [] next said t end some g a = absurd (omega arith)
  whole_last printed_later cursor left (b ∷ line) next said t end some g a = record {
    read = r.read ++ b ∷ line;
    outcomes = r.outcomes ++ g.outcomes;
    turns = g.turns r.turns;
    said = r.said ++ said;
    taken = taken_all cursor left (b ∷ line) t end;
    end = end_left cursor left end;
    told = rw (text_of-append r.said said) (Appends-then written printed_now printed_later (text_of r.said) (text_of said) r.told a);
    runs = λ come.
        joined g.outcomes come (r.read ++ b ∷ line)
        ∙ r.goes_on (b ∷ line) (g.outcomes ++ come)
        ∙ ap (λ (lines : List (List ℕ)). said_before r.said (run_from (stage_of at r.turns (g.outcomes ++ come)) number lines)) (lines_last b line t.no_feed)
        ∙ ap (said_before r.said) (run_step (stage_of at r.turns (g.outcomes ++ come)) (stage_of next (g.turns r.turns) come) number (b ∷ line) [] said (g.goes r.turns come))
        ∙ said_twice r.said said (ends_at (stage_of next (g.turns r.turns) come) (closing (stage_of next (g.turns r.turns) come)) None)
        ∙ ap (λ (s : List Said). said_before (r.said ++ said) (ends_at (stage_of next (g.turns r.turns) come) s None)) (shown_same next (g.turns r.turns) come);
    know = g.know r.turns r.know;
    uses = g.uses r.turns ∙ ap (λ (outcomes : List Outcome). outcomes ++ g.outcomes) r.uses;
  }

  -- ---- how a script ends

  settles : (left printed_later : Option (List ℕ)) (bytes : List ℕ) (fault : Fault) (journal : List Item) (turns : List Turn) (over : Option Turn) (came : List Outcome) (more_said : List Said) → Consumes first left (r.read ++ bytes)
      → ((more : List ℕ) → MayFollow left more → (later : List Outcome) → IsRun more_said (Some fault) journal turns over (run_from (stage_of at r.turns (came ++ later)) number (lines_of (bytes ++ more)))) → Appends printed_now printed_later (text_of more_said)
      → Told knows turns over → outcomes_in turns ++ outcomes_over over ≡ outcomes_in (turns_of at r.turns) ++ came → Settles knows (Some fault) journal first left written printed_later
  settles left printed_later bytes fault journal turns over came more_said taken ends a led uses = record {
    read = r.read ++ bytes;
    outcomes = r.outcomes ++ came;
    turns = turns;
    said = r.said ++ more_said;
    taken = taken;
    told = rw (text_of-append r.said more_said) (Appends-then written printed_now printed_later (text_of r.said) (text_of more_said) r.told a);
    runs = λ more may later.
        run_behind r.said more_said (Some fault) journal turns over (run_from (stage_of at r.turns (came ++ later)) number (lines_of (bytes ++ more))) _ (joined came later ((r.read ++ bytes) ++ more) ∙ goes_behind bytes more (came ++ later)) (ends more may later);
    over = over;
    led = led;
    uses = uses ∙ ap (λ (outcomes : List Outcome). outcomes ++ came) r.uses;
  }

  -- A line that ends with LF ends the script.
  pub settles_feed : (printed_later : Option (List ℕ)) (cursor : Cursor) (left : Option (List ℕ)) (line : List ℕ) (fault : Fault) (next : Holds P) (said : List Said) → TakesLine now (to_come cursor left) line (10 ∷ [])
      → Ends knows (λ (s : Stage). step s number line) fault at next said → Appends printed_now printed_later (text_of said) → Settles knows (Some fault) (journal_of next) first left written printed_later
  settles_feed printed_later cursor left line fault next said t e a =
      settles left printed_later ((line ++ 10 ∷ []) ++ cursor.ahead) fault (journal_of next) (e.turns r.turns) e.over e.outcomes said (taken_so cursor left (line ++ 10 ∷ []) t.taken)
      (λ more may later.
      subst (λ (lines : List (List ℕ)). IsRun said (Some fault) (journal_of next) (e.turns r.turns) e.over (run_from (stage_of at r.turns (e.outcomes ++ later)) number lines)) (sym (feed_first line cursor.ahead more t.no_feed))
      (run_fault (stage_of at r.turns (e.outcomes ++ later)) number line (lines_of (cursor.ahead ++ more)) fault (journal_of next) said (e.turns r.turns) e.over (e.ends r.turns later)))
      a (e.told r.turns r.know) (e.uses r.turns)

  -- A last line that lacks its LF ends the script.
  pub settles_last : (printed_later : Option (List ℕ)) (cursor : Cursor) (left : Option (List ℕ)) (line : List ℕ) (fault : Fault) (next : Holds P) (said : List Said) → TakesLine now (to_come cursor left) line [] → IsAtEnd (to_come cursor left)
      → 0 < length line → Ends knows (λ (s : Stage). step s number line) fault at next said → Appends printed_now printed_later (text_of said) → Settles knows (Some fault) (journal_of next) first left written printed_later
  settles_last printed_later cursor left [] fault next said t end some e a = absurd (omega arith)
  settles_last printed_later cursor left (b ∷ line) fault next said t end some e a =
      settles left printed_later (b ∷ line) fault (journal_of next) (e.turns r.turns) e.over e.outcomes said (taken_all cursor left (b ∷ line) t end)
      (λ more may later.
      subst (λ (lines : List (List ℕ)). IsRun said (Some fault) (journal_of next) (e.turns r.turns) e.over (run_from (stage_of at r.turns (e.outcomes ++ later)) number lines)) (sym (last_first b line more t.no_feed (may (end_left cursor left end))))
      (run_fault (stage_of at r.turns (e.outcomes ++ later)) number (b ∷ line) [] fault (journal_of next) said (e.turns r.turns) e.over (e.ends r.turns later)))
      a (e.told r.turns r.know) (e.uses r.turns)

  -- A line is too long.
  pub settles_long : (cursor : Cursor) (left : Option (List ℕ)) (line : List ℕ) → number ≤ line_count_limit → TakesLine now (to_come cursor left) line [] → line_limit < length line → Settles knows (Some (Line number)) (journal_of at) first left written printed_now
  settles_long cursor left [] few t long = absurd (omega arith)
  settles_long cursor left (b ∷ line) few t long =
      settles left printed_now ((b ∷ line) ++ cursor.ahead) (Line number) (journal_of at) (turns_of at r.turns) None [] [] (taken_so cursor left (b ∷ line) (without_separator now (to_come cursor left) (b ∷ line) t))
      (λ more may later.
      let w = line_begins b line (cursor.ahead ++ more) t.no_feed in
      let stage = stage_of at r.turns later in
      let same : lines_of (((b ∷ line) ++ cursor.ahead) ++ more) ≡ ((b ∷ line) ++ w.rest) ∷ w.others = ap lines_of (append_assoc (b ∷ line) cursor.ahead more) ∙ w.lines in
      let ends = stops_so stage (Line number) _ (step_long stage number ((b ∷ line) ++ w.rest) few (omega (arith, long, length-append (b ∷ line) w.rest))) in
      let kept = run_fault stage number ((b ∷ line) ++ w.rest) w.others (Line number) (journal_at stage) [] (turns_at stage) (over_at stage) ends in
      subst (λ (lines : List (List ℕ)). IsRun [] (Some (Line number)) (journal_of at) (turns_of at r.turns) None (run_from stage number lines)) (sym same)
      (record { said_is = kept.said_is; fault_is = kept.fault_is; journal_is = kept.journal_is ∙ journal_same at r.turns later; turns_are = kept.turns_are ∙ turns_same at r.turns later; over_is = kept.over_is ∙ over_none at r.turns later }))
      (Appends-nothing printed_now) (told_at knows at r.turns r.know) refl

  -- There is a line past the last that a script may have.
  pub settles_past : (cursor : Cursor) (left : Option (List ℕ)) → Keeps now (to_come cursor left) → 0 < length cursor.ahead → line_count_limit < number → Settles knows (Some Large) (journal_of at) first left written printed_now
  settles_past cursor left kept some past =
      settles left printed_now cursor.ahead Large (journal_of at) (turns_of at r.turns) None [] [] (taken_so cursor left [] (Consumes-none now (to_come cursor left) kept))
      (λ more may later.
      let w = some_line cursor.ahead more some in
      let stage = stage_of at r.turns later in
      let ends = stops_so stage Large _ (step_past stage number w.0 past) in
      let kept = run_fault stage number w.0 w.1 Large (journal_at stage) [] (turns_at stage) (over_at stage) ends in
      subst (λ (lines : List (List ℕ)). IsRun [] (Some Large) (journal_of at) (turns_of at r.turns) None (run_from stage number lines)) (sym w.2)
      (record { said_is = kept.said_is; fault_is = kept.fault_is; journal_is = kept.journal_is ∙ journal_same at r.turns later; turns_are = kept.turns_are ∙ turns_same at r.turns later; over_is = kept.over_is ∙ over_none at r.turns later }))
      (Appends-nothing printed_now) (told_at knows at r.turns r.know) refl

  -- Nothing is left after the last line that a script may have.
  pub whole_past : (cursor : Cursor) (left : Option (List ℕ)) → Keeps now (to_come cursor left) → IsAtEnd (to_come cursor left) → ReadWhole knows first left written printed_now at
  whole_past cursor left kept end = whole_none cursor left [] (record { taken = Consumes-none now (to_come cursor left) kept; no_feed = tt }) end refl

  -- ---- a front

  short : (follows : List ℕ → Type 0) (left printed_later : Option (List ℕ)) (bytes : List ℕ) (came : List Outcome) (turns : List Turn) (over : Option Turn) → Consumes first left (r.read ++ bytes)
      → ((more : List ℕ) → follows more → (later : List Outcome) → AppendsFront printed_now printed_later (text_of (run_from (stage_of at r.turns (came ++ later)) number (lines_of (bytes ++ more))).said))
      → ((more : List ℕ) → follows more → (later : List Outcome) → BeginWith (run_from (stage_of at r.turns (came ++ later)) number (lines_of (bytes ++ more))).turns turns)
      → ((more : List ℕ) → follows more → (later : List Outcome) → IsBeside turns over (run_from (stage_of at r.turns (came ++ later)) number (lines_of (bytes ++ more))))
      → Told knows turns over → outcomes_in turns ++ outcomes_over over ≡ outcomes_in (turns_of at r.turns) ++ came → StopsShort knows follows first left written printed_later
  short follows left printed_later bytes came turns over taken front begins beside led uses = record {
    read = r.read ++ bytes;
    outcomes = r.outcomes ++ came;
    turns = turns;
    taken = taken;
    front = λ more may later.
        let said = (run_from (stage_of at r.turns (came ++ later)) number (lines_of (bytes ++ more))).said in
        let text : text_of (run ((r.read ++ bytes) ++ more) ((r.outcomes ++ came) ++ later)).said ≡ text_of r.said ++ text_of said =
        ap (λ (x : Run). text_of x.said) (joined came later ((r.read ++ bytes) ++ more) ∙ goes_behind bytes more (came ++ later)) ∙ text_of-append r.said said in
        rw text (AppendsFront-then written printed_now printed_later (text_of r.said) (text_of said) r.told (front more may later));
    begins = λ more may later.
        subst (λ (x : Run). BeginWith x.turns turns) (sym (joined came later ((r.read ++ bytes) ++ more) ∙ goes_behind bytes more (came ++ later))) (begins more may later);
    over = over;
    beside = λ more may later.
        subst (IsBeside turns over) (sym (joined came later ((r.read ++ bytes) ++ more) ∙ goes_behind bytes more (came ++ later)))
        (behind_beside turns over r.said (run_from (stage_of at r.turns (came ++ later)) number (lines_of (bytes ++ more))) (beside more may later));
    led = led;
    uses = uses ∙ ap (λ (outcomes : List Outcome). outcomes ++ came) r.uses;
  }

  -- what was known here is where the run from here begins
  begins_here : (later : List Outcome) (lines : List (List ℕ)) → BeginWith (run_from (stage_of at r.turns later) number lines).turns (turns_of at r.turns)
  begins_here later lines = subst (BeginWith (run_from (stage_of at r.turns later) number lines).turns) (turns_same at r.turns later) (run_grows (stage_of at r.turns later) number lines)

  -- Nothing more was printed.
  pub short_reading : (follows : List ℕ → Type 0) (cursor : Cursor) (left : Option (List ℕ)) (line : List ℕ) → TakesLine now (to_come cursor left) line [] → StopsShort knows follows first left written printed_now
  short_reading follows cursor left line t =
      short follows left printed_now (line ++ cursor.ahead) [] (turns_of at r.turns) None (taken_so cursor left line (without_separator now (to_come cursor left) line t)) (λ more may later. AppendsFront-nothing printed_now _)
      (λ more may later. begins_here later _) (λ more may later. tt) (told_at knows at r.turns r.know) refl

  pub short_past : (cursor : Cursor) (left : Option (List ℕ)) → Keeps now (to_come cursor left) → StopsShort knows Anything first left written printed_now
  short_past cursor left kept =
      short Anything left printed_now cursor.ahead [] (turns_of at r.turns) None (taken_so cursor left [] (Consumes-none now (to_come cursor left) kept)) (λ more may later. AppendsFront-nothing printed_now _)
      (λ more may later. begins_here later _) (λ more may later. tt) (told_at knows at r.turns r.know) refl

  -- A line printed a front of what it says.
  short_line : (bytes : List ℕ) (came later : List Outcome) (turns : List Turn) (lines : List (List ℕ)) → BeginWith (turns_at (step (stage_of at r.turns (came ++ later)) number bytes).stage) turns
      → BeginWith (run_from (stage_of at r.turns (came ++ later)) number (bytes ∷ lines)).turns turns
  short_line bytes came later turns lines b = step_begins (stage_of at r.turns (came ++ later)) number bytes lines turns b

  pub short_feed : (follows : List ℕ → Type 0) (printed_later : Option (List ℕ)) (cursor : Cursor) (left : Option (List ℕ)) (line : List ℕ) (x : RanShort knows (λ (s : Stage). step s number line) at printed_now printed_later)
      → TakesLine now (to_come cursor left) line (10 ∷ []) → StopsShort knows follows first left written printed_later
  short_feed follows printed_later cursor left line x t =
      short follows left printed_later ((line ++ 10 ∷ []) ++ cursor.ahead) x.outcomes (x.turns r.turns) x.over (taken_so cursor left (line ++ 10 ∷ []) t.taken)
      (λ more may later.
      subst (λ (lines : List (List ℕ)). AppendsFront printed_now printed_later (text_of (run_from (stage_of at r.turns (x.outcomes ++ later)) number lines).said)) (sym (feed_first line cursor.ahead more t.no_feed))
      (step_front printed_now printed_later (stage_of at r.turns (x.outcomes ++ later)) number line (lines_of (cursor.ahead ++ more)) (x.front r.turns later)))
      (λ more may later.
      subst (λ (lines : List (List ℕ)). BeginWith (run_from (stage_of at r.turns (x.outcomes ++ later)) number lines).turns (x.turns r.turns)) (sym (feed_first line cursor.ahead more t.no_feed))
      (short_line line x.outcomes later (x.turns r.turns) (lines_of (cursor.ahead ++ more)) (x.begins r.turns later)))
      (λ more may later.
      subst (λ (lines : List (List ℕ)). IsBeside (x.turns r.turns) x.over (run_from (stage_of at r.turns (x.outcomes ++ later)) number lines)) (sym (feed_first line cursor.ahead more t.no_feed))
      (line_beside (x.turns r.turns) x.over (stage_of at r.turns (x.outcomes ++ later)) number line (lines_of (cursor.ahead ++ more)) (x.stops r.turns later)))
      (x.led r.turns r.know) (x.uses r.turns)

  -- A last line that lacks its LF printed a front of what it says.
  pub short_last : (printed_later : Option (List ℕ)) (cursor : Cursor) (left : Option (List ℕ)) (line : List ℕ) (x : RanShort knows (λ (s : Stage). step s number line) at printed_now printed_later)
      → TakesLine now (to_come cursor left) line [] → IsAtEnd (to_come cursor left) → 0 < length line → StopsShort knows (MayFollow left) first left written printed_later
  short_last printed_later cursor left [] x t end some = absurd (omega arith)
  short_last printed_later cursor left (b ∷ line) x t end some =
      short (MayFollow left) left printed_later (b ∷ line) x.outcomes (x.turns r.turns) x.over (taken_all cursor left (b ∷ line) t end)
      (λ more may later.
      subst (λ (lines : List (List ℕ)). AppendsFront printed_now printed_later (text_of (run_from (stage_of at r.turns (x.outcomes ++ later)) number lines).said)) (sym (last_first b line more t.no_feed (may (end_left cursor left end))))
      (step_front printed_now printed_later (stage_of at r.turns (x.outcomes ++ later)) number (b ∷ line) [] (x.front r.turns later)))
      (λ more may later.
      subst (λ (lines : List (List ℕ)). BeginWith (run_from (stage_of at r.turns (x.outcomes ++ later)) number lines).turns (x.turns r.turns)) (sym (last_first b line more t.no_feed (may (end_left cursor left end))))
      (short_line (b ∷ line) x.outcomes later (x.turns r.turns) [] (x.begins r.turns later)))
      (λ more may later.
      subst (λ (lines : List (List ℕ)). IsBeside (x.turns r.turns) x.over (run_from (stage_of at r.turns (x.outcomes ++ later)) number lines)) (sym (last_first b line more t.no_feed (may (end_left cursor left end))))
      (line_beside (x.turns r.turns) x.over (stage_of at r.turns (x.outcomes ++ later)) number (b ∷ line) [] (x.stops r.turns later)))
      (x.led r.turns r.know) (x.uses r.turns)

-- ---- the end of a script

module _ {P : Type 0} (knows : Knowing P) (first now written printed_now later : Option (List ℕ)) (at : Holds P) (r : ReadWhole knows first now written printed_now at) where
  nothing_more : (more : List ℕ) (come : List Outcome) → more ≡ [] → run (r.read ++ more) (r.outcomes ++ come) ≡ said_before r.said (ends_at (stage_of at r.turns come) (closing_of at) None)
  nothing_more more come none = ap (λ (m : List ℕ). run (r.read ++ m) (r.outcomes ++ come)) none ∙ ap (λ (b : List ℕ). run b (r.outcomes ++ come)) (append-nil r.read) ∙ r.runs come

  -- All were shown at the end.
  pub completes : Appends printed_now later (text_of (closing_of at)) → Settles knows None (journal_of at) first now written later
  completes a = record {
    read = r.read;
    outcomes = r.outcomes;
    turns = turns_of at r.turns;
    said = r.said ++ closing_of at;
    taken = r.taken;
    told = rw (text_of-append r.said (closing_of at)) (Appends-then written printed_now later (text_of r.said) (text_of (closing_of at)) r.told a);
    runs = λ more may come.
        subst (IsRun (r.said ++ closing_of at) None (journal_of at) (turns_of at r.turns) None) (sym (nothing_more more come (may r.end)))
        (record { said_is = refl; fault_is = refl; journal_is = journal_same at r.turns come; turns_are = turns_same at r.turns come; over_is = over_none at r.turns come });
    over = None;
    led = told_at knows at r.turns r.know;
    uses = append-nil (outcomes_in (turns_of at r.turns)) ∙ r.uses;
  }

  -- Showing them at the end stopped short.
  pub short_closing : AppendsFront printed_now later (text_of (closing_of at)) → StopsShort knows (MayFollow now) first now written later
  short_closing a = record {
    read = r.read;
    outcomes = r.outcomes;
    turns = turns_of at r.turns;
    taken = r.taken;
    front = λ more may come.
        rw (ap (λ (x : Run). text_of x.said) (nothing_more more come (may r.end)) ∙ text_of-append r.said (closing_of at)) (AppendsFront-then written printed_now later (text_of r.said) (text_of (closing_of at)) r.told a);
    begins = λ more may come. ([], ap (λ (x : Run). x.turns) (nothing_more more come (may r.end)) ∙ turns_same at r.turns come ∙ sym (append-nil (turns_of at r.turns)));
    over = None;
    beside = λ more may come. tt;
    led = told_at knows at r.turns r.know;
    uses = append-nil (outcomes_in (turns_of at r.turns)) ∙ r.uses;
  }

-- A script that was not begun.
pub short_start : {P : Type 0} (knows : Knowing P) (left written : Option (List ℕ)) → StopsShort knows (MayFollow left) left left written written
short_start knows left written = record {
  read = [];
  outcomes = [];
  turns = [];
  taken = Consumes-nothing left;
  front = λ more may later. AppendsFront-nothing written _;
  begins = λ more may later. (_, refl);
  over = None;
  beside = λ more may later. tt;
  led = none_told knows;
  uses = refl;
}
