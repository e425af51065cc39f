-- How a line goes, and how a script ends.
use Rattle.std.proofs.Common.{◌≡◌, ℕ, ◌<◌, List, [], ◌∷◌, ◌++◌, Option, Some, None, length, refl, sym, ap, subst, ◌∙◌}
use Rattle.std.specs.Io.KnownBytes.{Appends, IsAtEnd}
use Rattle.std.proofs.lemmas.List.{append-nil}
use Rattle.dq_base.specs.Sink.{AppendsFront}
use Rattle.dq_base.proofs.ContentLaws.{Appends-then, AppendsFront-nothing, AppendsFront-longer, AppendsFront-then}
use Rattle.script_grammar.specs.Lines.{Cursor, to_come, TakesLine}
use Rattle.script_grammar.specs.declared.lines.LineFault.{LineFault}
use Rattle.script_grammar.specs.declared.lines.LineFault.TheVariants as line
use Rattle.script_cluster.specs.Knowing.{Knowing, outcomes_in}
use Rattle.script_cluster.specs.Outcomes.{Item, Turn}
use Rattle.script_cluster.specs.Run.{Fault, Line, Large, fault_text}
use Rattle.script_runner.specs.declared.printing.PrintFault.{PrintFault}
use Rattle.script_runner.specs.declared.printing.PrintFault.TheVariants as print
use Rattle.script_runner.specs.declared.run.Outcome.{Outcome}
use Rattle.script_runner.specs.declared.run.Outcome.TheVariants as outcome
use Rattle.script_runner.specs.Run.{Said, Stage, Next, Run, step, run, turns_at, text_of, printed}
use Rattle.script_runner.specs.Scenes.{Holds, Goes, Ends, EndsAt, stage_of, journal_of, closing_of, turns_of}
use Rattle.script_runner.specs.Ending.{MayFollow, Anything, IsRun, IsBeside, EndsBeside, BeginWith, Reached, ReadWhole, Settles, StopsShort, Stopped, Prints, PrintsFront, Ended, Ran, RanOut, RanShort, Breaks, line_outcome, print_outcome, fault_line, HasLine}
use Rattle.script_runner.proofs.Scening.{told_at}
use Rattle.script_runner.proofs.Growing.{step_grows}
use Rattle.script_runner.proofs.Running.{turns_same, settles_feed, settles_last, short_feed, short_last, completes, short_closing}

-- what ends a script ends it outside its turns
ends_beside : (fault : Fault) (journal : List Item) (said : List Said) (turns : List Turn) (over : Option Turn) (next : Next) → EndsAt fault journal said turns over next → EndsBeside turns over next
ends_beside fault journal said turns None next e = tt
ends_beside fault journal said turns (Some turn) next e = (fault, e.fault_is, e.turns_are, e.over_is)

run_beside : (said : List Said) (fault : Option Fault) (journal : List Item) (turns : List Turn) (over : Option Turn) (r : Run) → IsRun said fault journal turns over r → IsBeside turns over r
run_beside said fault journal turns None r is = tt
run_beside said fault journal turns (Some turn) r is = (is.turns_are, is.over_is)

-- ---- one line

module _ {P : Type 0} (knows : Knowing P) (go : Stage → Next) (old new : Holds P) (a b : Option (List ℕ)) (said : List Said) where
  pub ran_ok : Goes knows go old new said → Appends a b (text_of said) → Ran knows go old new a b
  ran_ok g told = record { said = said; goes = g; told = told }

  pub ran_out : (fault : Fault) → Ends knows go fault old new said → Appends a b (text_of said) → RanOut knows go fault old new a b
  ran_out fault e told = record { said = said; ends = e; told = told }

  pub ran_part : Goes knows go old new said → AppendsFront a b (text_of said) → RanShort knows go old a b
  ran_part g front = record {
    outcomes = g.outcomes;
    turns = λ earlier. turns_of new (g.turns earlier);
    front = λ earlier later. subst (λ (s : List Said). AppendsFront a b (text_of s)) (sym (ap (λ (n : Next). n.said) (g.goes earlier later))) front;
    begins = λ earlier later. subst (λ (n : Next). BeginWith (turns_at n.stage) (turns_of new (g.turns earlier))) (sym (g.goes earlier later)) ([], turns_same new (g.turns earlier) later ∙ sym (append-nil (turns_of new (g.turns earlier))));
    over = None;
    stops = λ earlier later. tt;
    led = λ earlier known. told_at knows new (g.turns earlier) (g.know earlier known);
    uses = λ earlier. append-nil (outcomes_in (turns_of new (g.turns earlier))) ∙ g.uses earlier;
  }

  pub ended_part : (fault : Fault) → Ends knows go fault old new said → AppendsFront a b (text_of said) → RanShort knows go old a b
  ended_part fault e front = record {
    outcomes = e.outcomes;
    turns = e.turns;
    front = λ earlier later. subst (λ (s : List Said). AppendsFront a b (text_of s)) (sym (e.ends earlier later).said_is) front;
    begins = λ earlier later. ([], (e.ends earlier later).turns_are ∙ sym (append-nil (e.turns earlier)));
    over = e.over;
    stops = λ earlier later. ends_beside fault (journal_of new) said (e.turns earlier) e.over (go (stage_of old earlier (e.outcomes ++ later))) (e.ends earlier later);
    led = e.told;
    uses = e.uses;
  }

-- nothing of a line was done that is told, or printed
pub nothing_ran : {P : Type 0} (knows : Knowing P) (number : ℕ) (line : List ℕ) (old : Holds P) (a : Option (List ℕ)) → RanShort knows (λ (s : Stage). step s number line) old a a
nothing_ran knows number line old a = record {
  outcomes = [];
  turns = turns_of old;
  front = λ earlier later. AppendsFront-nothing a _;
  begins = λ earlier later. subst (BeginWith (turns_at (step (stage_of old earlier later) number line).stage)) (turns_same old earlier later) (step_grows (stage_of old earlier later) number line);
  over = None;
  stops = λ earlier later. tt;
  led = told_at knows old;
  uses = λ earlier. refl;
}

pub breaks_printing : {P : Type 0} (knows : Knowing P) (fault : PrintFault) (number : ℕ) (go : Stage → Next) (old new : Holds P) (a b : Option (List ℕ)) → RanShort knows go old a b → Breaks knows (print_outcome fault) number go old new a b
breaks_printing knows print.Sink number go old new a b short = short
breaks_printing knows print.NoMemory number go old new a b short = short

-- ---- lines that stop a script

pub stopped_reading : {P : Type 0} (knows : Knowing P) (fault : LineFault) (journal : List Item) (left left' a b : Option (List ℕ)) → ((follows : List ℕ → Type 0) → StopsShort knows follows left left' a b) → Stopped knows (line_outcome fault) journal left left' a b
stopped_reading knows line.Source journal left left' a b short = short Anything
stopped_reading knows line.NoMemory journal left left' a b short = short (MayFollow left')

module _ {P : Type 0} (knows : Knowing P) (first now written printed_now : Option (List ℕ)) (at : Holds P) (number : ℕ) (r : Reached knows first now written printed_now at number) where
  pub stopped_feed : (why : Outcome) (later : Option (List ℕ)) (cursor : Cursor) (left : Option (List ℕ)) (bytes : List ℕ) (new : Holds P) → TakesLine now (to_come cursor left) bytes (10 ∷ [])
      → Breaks knows why number (λ (s : Stage). step s number bytes) at new printed_now later → Stopped knows why (journal_of new) first left written later
  stopped_feed outcome.Done later cursor left bytes new t b = absurd b
  stopped_feed (outcome.Script n) later cursor left bytes new t b = settles_feed knows first now written printed_now at number r later cursor left bytes (Line n) new b.1.said t b.1.ends b.1.told
  stopped_feed outcome.Large later cursor left bytes new t b = settles_feed knows first now written printed_now at number r later cursor left bytes Large new b.said t b.ends b.told
  stopped_feed outcome.ReadFault later cursor left bytes new t b = absurd b
  stopped_feed outcome.WriteFault later cursor left bytes new t b = short_feed knows first now written printed_now at number r (MayFollow left) later cursor left bytes b t
  stopped_feed outcome.NoMemory later cursor left bytes new t b = short_feed knows first now written printed_now at number r (MayFollow left) later cursor left bytes b t
  stopped_feed outcome.Internal later cursor left bytes new t b =
      short_feed knows first now written printed_now at number r (MayFollow left) later cursor left bytes b t

  pub stopped_last : (why : Outcome) (later : Option (List ℕ)) (cursor : Cursor) (left : Option (List ℕ)) (bytes : List ℕ) (new : Holds P) → TakesLine now (to_come cursor left) bytes [] → IsAtEnd (to_come cursor left) → 0 < length bytes
      → Breaks knows why number (λ (s : Stage). step s number bytes) at new printed_now later → Stopped knows why (journal_of new) first left written later
  stopped_last outcome.Done later cursor left bytes new t end some b = absurd b
  stopped_last (outcome.Script n) later cursor left bytes new t end some b = settles_last knows first now written printed_now at number r later cursor left bytes (Line n) new b.1.said t end some b.1.ends b.1.told
  stopped_last outcome.Large later cursor left bytes new t end some b = settles_last knows first now written printed_now at number r later cursor left bytes Large new b.said t end some b.ends b.told
  stopped_last outcome.ReadFault later cursor left bytes new t end some b = absurd b
  stopped_last outcome.WriteFault later cursor left bytes new t end some b = short_last knows first now written printed_now at number r later cursor left bytes b t end some
  stopped_last outcome.NoMemory later cursor left bytes new t end some b = short_last knows first now written printed_now at number r later cursor left bytes b t end some
  stopped_last outcome.Internal later cursor left bytes new t end some b =
      short_last knows first now written printed_now at number r later cursor left bytes b t end some

module _ {P : Type 0} (knows : Knowing P) where
  -- a script that was read to its end, with all shown
  pub whole_done : (first now written printed_now later : Option (List ℕ)) (at : Holds P) → ReadWhole knows first now written printed_now at → Appends printed_now later (text_of (closing_of at)) → Stopped knows outcome.Done (journal_of at) first now written later
  whole_done first now written printed_now later at r told = (completes knows first now written printed_now later at r told, r.end)

  pub whole_short : (first now written printed_now later : Option (List ℕ)) (at : Holds P) → ReadWhole knows first now written printed_now at → AppendsFront printed_now later (text_of (closing_of at)) → StopsShort knows (MayFollow now) first now written later
  whole_short first now written printed_now later at r front = short_closing knows first now written printed_now later at r front

-- ---- the line of a fault

run_text : (said : List Said) (fault : Option Fault) (journal : List Item) (turns : List Turn) (over : Option Turn) (r : Run) → IsRun said fault journal turns over r → printed r ≡ text_of said ++ fault_text fault
run_text said fault journal turns over r is = ap (λ (s : List Said). text_of s ++ fault_text r.fault) is.said_is ∙ ap (λ (f : Option Fault). text_of said ++ fault_text f) is.fault_is

then_nothing : (a b c : Option (List ℕ)) (text : List ℕ) → AppendsFront a b text → Appends b c [] → AppendsFront a c text
then_nothing a b c text front none =
    (front.0, front.1, front.2, subst (λ (t : List ℕ). Appends a c t) (append-nil front.0) (Appends-then a b c front.0 [] front.3 none))

module _ {P : Type 0} (knows : Knowing P) (journal : List Item) (left left' a b c : Option (List ℕ)) where
  prints : (fault : Option Fault) → Settles knows fault journal left left' a b → Appends b c (fault_text fault) → Prints knows fault journal left left' a c
  prints fault s told = record {
    read = s.read;
    outcomes = s.outcomes;
    turns = s.turns;
    taken = s.taken;
    ends = λ more may later. (s.runs more may later).fault_is;
    text = λ more may later. rw (run_text s.said fault journal s.turns s.over _ (s.runs more may later)) (Appends-then a b c (text_of s.said) (fault_text fault) s.told told);
    notes = λ more may later. (s.runs more may later).journal_is;
    has = λ more may later. (s.runs more may later).turns_are;
    over = s.over;
    beside = λ more may later. (s.runs more may later).over_is;
    led = s.led;
    uses = s.uses;
  }

  prints_part : (fault : Option Fault) → Settles knows fault journal left left' a b → AppendsFront b c (fault_text fault) → PrintsFront knows (MayFollow left') left left' a c
  prints_part fault s front = record {
    read = s.read;
    outcomes = s.outcomes;
    turns = s.turns;
    taken = s.taken;
    front = λ more may later. rw (run_text s.said fault journal s.turns s.over _ (s.runs more may later)) (AppendsFront-then a b c (text_of s.said) (fault_text fault) s.told front);
    begins = λ more may later. ([], (s.runs more may later).turns_are ∙ sym (append-nil s.turns));
    over = s.over;
    beside = λ more may later. run_beside s.said fault journal s.turns s.over _ (s.runs more may later);
    led = s.led;
    uses = s.uses;
  }

  prints_front : (follows : List ℕ → Type 0) → StopsShort knows follows left left' a b → Appends b c [] → PrintsFront knows follows left left' a c
  prints_front follows s none = record {
    read = s.read;
    outcomes = s.outcomes;
    turns = s.turns;
    taken = s.taken;
    front = λ more may later.
        let r = run (s.read ++ more) (s.outcomes ++ later) in
        AppendsFront-longer a c (text_of r.said) (fault_text r.fault) (then_nothing a b c (text_of r.said) (s.front more may later) none);
    begins = s.begins;
    over = s.over;
    beside = s.beside;
    led = s.led;
    uses = s.uses;
  }

  pub ended_ok : (why : Outcome) → Stopped knows why journal left left' a b → Appends b c (fault_line why) → Ended knows why journal left left' a c
  ended_ok outcome.Done s told = (prints None s.0 told, s.1)
  ended_ok (outcome.Script n) s told = prints (Some (Line n)) s told
  ended_ok outcome.Large s told = prints (Some Large) s told
  ended_ok outcome.ReadFault s told = prints_front Anything s told
  ended_ok outcome.WriteFault s told = prints_front (MayFollow left') s told
  ended_ok outcome.NoMemory s told = prints_front (MayFollow left') s told
  ended_ok outcome.Internal s told = prints_front (MayFollow left') s told

  pub ended_part_of : (why : Outcome) → Stopped knows why journal left left' a b → HasLine why → AppendsFront b c (fault_line why) → PrintsFront knows (MayFollow left') left left' a c
  ended_part_of outcome.Done s has front = absurd has
  ended_part_of (outcome.Script n) s has front = prints_part (Some (Line n)) s front
  ended_part_of outcome.Large s has front = prints_part (Some Large) s front
  ended_part_of outcome.ReadFault s has front = absurd has
  ended_part_of outcome.WriteFault s has front = absurd has
  ended_part_of outcome.NoMemory s has front = absurd has
  ended_part_of outcome.Internal s has front = absurd has

-- a script that was not begun
pub not_begun : {P : Type 0} (knows : Knowing P) (left left' a : Option (List ℕ)) → StopsShort knows (MayFollow left') left left' a a → PrintsFront knows (MayFollow left') left left' a a
not_begun knows left left' a s = record {
  read = s.read;
  outcomes = s.outcomes;
  turns = s.turns;
  taken = s.taken;
  front = λ more may later. AppendsFront-nothing a _;
  begins = s.begins;
  over = s.over;
  beside = s.beside;
  led = s.led;
  uses = s.uses;
}
