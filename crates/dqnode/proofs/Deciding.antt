-- With an engine of cells a script alone decides what is written.
use Rattle.std.proofs.Common.{◌≡◌, List, [], ◌++◌, ℕ, Option, sym, ap, subst, ◌∙◌, append-nil}
use Rattle.std.specs.List.{AllByRecursion}
use Rattle.std.specs.Io.KnownBytes.{Appends}
use Rattle.dq_base.specs.Sink.{AppendsFront}
use Rattle.dq_base.proofs.ContentLaws.{AppendsFront-longer}
use Rattle.sql_engine.specs.declared.kind.EngineKind.TheVariants.{Cells}
use Rattle.sql_engine.specs.Cells.{cells}
use Rattle.script_cluster.specs.Knowing.{with_over}
use Rattle.script_cluster.specs.Outcomes.{Item, Turn}
use Rattle.script_cluster.specs.Run.{Fault, fault_text}
use Rattle.script_runner.specs.Run.{Run, run, text_of, printed}
use Rattle.script_runner.specs.Ending.{Anything, MayFollow}
use Rattle.script_safety.specs.Mails.{ByNodes, OverByNode}
use Rattle.script_safety.specs.Slots.{setup_of}
use Rattle.script_determinism.specs.Plain.{plain_items, plain_turns}
use Rattle.script_determinism.specs.Repeats.{AreAlike, Compared, Same, Shorter, Longer, IsWhole, StartWith}
use Rattle.script_determinism.specs.Decided.{GoesUntroubled, IsOfCells, BrokeOffCells, CellBrokenRepeat, CellScriptsCompare}
use Rattle.dqnode.specs.Program.{BreaksOff, Gives}
use Rattle.dqnode.specs.Decided.{WentWell, BrokeWell, BrokenDecideBy, ScriptsDecide, BrokenScriptsDecide}

module _ (fault : Option Fault) (journal : List Item) (left left' written written' : Option (List ℕ)) (gives : Gives Cells fault journal left left' written written') (well : WentWell gives) (rest : List ℕ) (may : MayFollow left' rest) where
  -- its run is one of cells
  of_cells : IsOfCells (gives.read ++ rest) (gives.outcomes ++ [])
  of_cells = record {
    voters = gives.safe.nodes.voters;
    nodes = subst (ByNodes cells Cells (setup_of gives.safe.nodes.voters)) (sym (gives.has rest may [])) (gives.safe.nodes.by_nodes gives.turns [] (sym (append-nil gives.turns)) well.fair);
    last =
        subst (λ (turns : List Turn). OverByNode cells Cells (setup_of gives.safe.nodes.voters) turns (run (gives.read ++ rest) (gives.outcomes ++ [])).over) (sym (gives.has rest may []))
        (subst (OverByNode cells Cells (setup_of gives.safe.nodes.voters) gives.turns) (sym (gives.beside rest may [])) (gives.safe.nodes.by_last well.fair_last));
    well = subst (AllByRecursion GoesUntroubled) (λ i. with_over (sym (gives.has rest may []) i) (sym (gives.beside rest may []) i)) well.well;
  }

  is_whole : IsWhole (run (gives.read ++ rest) (gives.outcomes ++ [])).fault
  is_whole = subst IsWhole (sym (gives.ends rest may [])) well.whole

-- two runs that are whole are alike
whole_alike : (one other : Run) → Compared one other → IsWhole one.fault → IsWhole other.fault → AreAlike one other
whole_alike one other (Same s) whole also = s
whole_alike one other (Shorter s) whole also = absurd (whole s.early)
whole_alike one other (Longer s) whole also = absurd (also s.early)

pub scripts_decide : CellScriptsCompare → ScriptsDecide
scripts_decide compare fault other journal items left left' written written' from from' shown shown' one also well fine rest more may follows same =
    let script = one.read ++ rest in
    let moved : IsOfCells script (also.outcomes ++ []) =
    subst (λ (bytes : List ℕ). IsOfCells bytes (also.outcomes ++ [])) (sym same) (of_cells other items from from' shown shown' also fine more follows) in
    let whole : IsWhole (run script (also.outcomes ++ [])).fault =
    subst (λ (bytes : List ℕ). IsWhole (run bytes (also.outcomes ++ [])).fault) (sym same) (is_whole other items from from' shown shown' also fine more follows) in
    let both : AreAlike (run script (one.outcomes ++ [])) (run script (also.outcomes ++ [])) =
    whole_alike (run script (one.outcomes ++ [])) (run script (also.outcomes ++ []))
    (compare script (one.outcomes ++ []) (also.outcomes ++ []) (of_cells fault journal left left' written written' one well rest may) moved)
    (is_whole fault journal left left' written written' one well rest may) whole in
    let texts : printed (run script (one.outcomes ++ [])) ≡ printed (run script (also.outcomes ++ [])) = λ i. text_of (both.said i) ++ fault_text (both.fault i) in
    record {
      text = printed (run script (one.outcomes ++ []));
      one = one.text rest may [];
      also = subst (Appends shown shown') (ap (λ (bytes : List ℕ). printed (run bytes (also.outcomes ++ []))) (sym same) ∙ sym texts) (also.text more follows []);
      faults = sym (one.ends rest may []) ∙ both.fault ∙ ap (λ (bytes : List ℕ). (run bytes (also.outcomes ++ [])).fault) same ∙ also.ends more follows [];
      came = ap plain_turns (sym (one.has rest may [])) ∙ both.turns ∙ ap (λ (bytes : List ℕ). plain_turns (run bytes (also.outcomes ++ [])).turns) same ∙ ap plain_turns (also.has more follows []);
      noted =
          ap plain_items (sym (one.notes rest may [])) ∙ both.journal ∙ ap (λ (bytes : List ℕ). plain_items (run bytes (also.outcomes ++ [])).journal) same
          ∙ ap plain_items (also.notes more follows []);
    }

-- ---- one that broke off

module _ (follows : List ℕ → Type 0) (left left' written written' : Option (List ℕ)) (breaks : BreaksOff Cells follows left left' written written') (well : BrokeWell breaks) (rest : List ℕ) (may : follows rest) where
  broke_off : BrokeOffCells (breaks.read ++ rest) (breaks.outcomes ++ [])
  broke_off = record {
    turns = breaks.turns;
    over = breaks.safe.over;
    voters = breaks.safe.nodes.voters;
    nodes = breaks.safe.nodes.by_nodes breaks.turns [] (sym (append-nil breaks.turns)) well.fair;
    last = breaks.safe.nodes.by_last well.fair_last;
    well = well.well;
    uses = breaks.uses ∙ sym (append-nil breaks.outcomes);
    begins = breaks.begins rest may [];
    beside = breaks.beside rest may [];
  }

-- a front of a front
front_longer : (a b : Option (List ℕ)) (text whole : List ℕ) → StartWith whole text → AppendsFront a b text → AppendsFront a b whole
front_longer a b text whole s front = subst (AppendsFront a b) (sym s.1) (AppendsFront-longer a b text s.0 front)

broken_by : (follows : Option (List ℕ) → List ℕ → Type 0) → CellBrokenRepeat → BrokenDecideBy follows
broken_by follows repeat fault journal left left' written written' from from' shown shown' one also well fine rest more may end same =
    let script = one.read ++ rest in
    let moved : IsOfCells script (also.outcomes ++ []) =
    subst (λ (bytes : List ℕ). IsOfCells bytes (also.outcomes ++ [])) (sym same) (of_cells fault journal from from' shown shown' also fine more end) in
    let whole : IsWhole (run script (also.outcomes ++ [])).fault =
    subst (λ (bytes : List ℕ). IsWhole (run bytes (also.outcomes ++ [])).fault) (sym same) (is_whole fault journal from from' shown shown' also fine more end) in
    let front = repeat script (one.outcomes ++ []) (also.outcomes ++ []) (broke_off (follows left') left left' written written' one well rest may) moved whole in
    record {
      text = printed (run script (also.outcomes ++ []));
      front = front_longer written written' (printed (run script (one.outcomes ++ []))) (printed (run script (also.outcomes ++ []))) front (one.front rest may []);
      also = subst (Appends shown shown') (ap (λ (bytes : List ℕ). printed (run bytes (also.outcomes ++ []))) (sym same)) (also.text more end []);
    }

pub broken_scripts_decide : CellBrokenRepeat → BrokenScriptsDecide
broken_scripts_decide repeat = (broken_by (λ left. Anything) repeat, broken_by MayFollow repeat)
