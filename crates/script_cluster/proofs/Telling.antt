-- What came of an event at a node, noted and said.
use Rattle.std.proofs.Common.{◌≡◌, ℕ, ◌-◌, suc, Bool, true, false, cond, List, [], ◌∷◌, ◌++◌, map, set, length, Option, Some, None, Result, Ok, Err, IfOk, sym, ap, subst, ◌∙◌}
use Rattle.std.proofs.lemmas.List.{append-nil, append_assoc}
use Rattle.store_laws.specs.Store.{Kept}
use Rattle.session_spec.specs.Engines.{Answer}
use Rattle.script_grammar.specs.declared.grammar.FaultTarget.{FaultTarget}
use Rattle.script_grammar.specs.declared.usage.Usage.{Usage}
use Rattle.script_cluster.specs.declared.network.Network.{Network}
use Rattle.script_cluster.specs.declared.place.EventEnd.{EventEnd}
use Rattle.script_cluster.specs.declared.place.EventEnd.TheVariants as ended
use Rattle.script_cluster.specs.declared.place.Outs.{Outs as CodeOuts}
use Rattle.script_cluster.specs.declared.cluster_line.ClusterLine.{ClusterLine}
use Rattle.script_cluster.specs.declared.cluster_line.ClusterLine.TheVariants as says
use Rattle.script_cluster.specs.declared.cluster_line.DownCause.TheVariants as causes
use Rattle.script_cluster.specs.Outcomes.{Standing, Outs, Ending, Steps, Starts, Stops, Fails, Unreadable, Item, Answered, Loaded, met_by, noted_by}
use Rattle.script_cluster.specs.World.{Place, after_step, closings, replies_said, closed_said, messages_said}
use Rattle.script_cluster.specs.Places.{TellsEnding, outs_of}
use Rattle.script_cluster.specs.Seen.{loaded_in}
use Rattle.script_cluster.specs.Holding.{outside_of, world_of, with_note, note_of, places_after, SaysAll, SaysNone, SaysOuts, Falls, Asks, Tells}

-- ---- a step

all_asks : (node : ℕ) (aim : FaultTarget) (answers : List Answer) (failed : Bool) (told : Outs) (standing : Standing) (old new : Network) (before now : List ClusterLine) → SaysAll aim answers told old new before now
    → (voters : ℕ) (places : List Place) → Asks node aim answers failed (Steps told standing) (outside_of voters places old) (outside_of voters (places_after node (Steps told standing) places) new) before now
all_asks node aim answers failed told standing old new before now a voters places = record {
  more = replies_said told.replies ++ (closed_said told.closed ++ messages_said (suc (length old.mail)) told.messages);
  goes = λ turns later.
      ap (after_step node told standing (world_of (with_note (outside_of voters places old) aim answers failed (Steps told standing)) turns later)) a.usage
      ∙ (λ i. record {
        world = record {
          voters = voters;
          places = places_after node (Steps told standing) places;
          links = sym a.links i;
          mail = sym a.mail i;
          usage = new.usage;
          turns = turns;
          journal = sym a.journal i;
          outcomes = later;
          over = None;
        };
        said = replies_said told.replies ++ (closed_said told.closed ++ messages_said (suc (length old.mail)) told.messages);
        halt = None;
      });
  says = a.says;
  hold = a.hold;
}

none_asks : (node : ℕ) (aim : FaultTarget) (answers : List Answer) (failed : Bool) (told : Outs) (standing : Standing) (old new : Network) (before now : List ClusterLine) → SaysNone told old new before now
    → Tells false node aim answers failed (Steps told standing) old new before now
none_asks node aim answers failed told standing old new before now a = (
  λ voters places. record {
    halts = λ turns later.
        ap (λ (usage : Option Usage). (after_step node told standing (world_of (with_note (outside_of voters places old) aim answers failed (Steps told standing)) turns later) usage).halt) a.usage;
  },
  a.same,
  a.silent,
)

step_tells : (fits : Bool) (node : ℕ) (aim : FaultTarget) (answers : List Answer) (outs : CodeOuts) (old new : Network) (before now : List ClusterLine) → SaysOuts fits aim answers (outs_of outs) old new before now
    → (failed : Bool) (ending : Ending) → TellsEnding failed (ended.Stepped outs) ending → Tells fits node aim answers failed ending old new before now
step_tells true node aim answers outs old new before now a failed (Steps told standing) tells =
    all_asks node aim answers failed told standing old new before now (subst (λ (o : Outs). SaysAll aim answers o old new before now) (sym tells) a)
step_tells false node aim answers outs old new before now a failed (Steps told standing) tells =
    none_asks node aim answers failed told standing old new before now (subst (λ (o : Outs). SaysNone o old new before now) (sym tells) a)
step_tells fits node aim answers outs old new before now a failed (Starts kept standing) tells = absurd tells
step_tells fits node aim answers outs old new before now a failed (Stops keeps) tells = absurd tells
step_tells fits node aim answers outs old new before now a failed (Fails keeps) tells = absurd tells
step_tells fits node aim answers outs old new before now a failed Unreadable tells = absurd tells

pub step_told : {E : Type 0} (r : Result Bool E) (node : ℕ) (aim : FaultTarget) (answers : List Answer) (came : EventEnd) (outs : CodeOuts) (old new : Network) (before now : List ClusterLine) → came ≡ ended.Stepped outs
    → IfOk r (λ fits. SaysOuts fits aim answers (outs_of outs) old new before now)
    → IfOk r (λ fits. (failed : Bool) (ending : Ending) → TellsEnding failed came ending → Tells fits node aim answers failed ending old new before now)
step_told (Ok fits) node aim answers came outs old new before now is a = λ failed ending tells.
    step_tells fits node aim answers outs old new before now a failed ending (subst (λ (c : EventEnd). TellsEnding failed c ending) is tells)
step_told (Err e) node aim answers came outs old new before now is a = tt

-- ---- a start

start_notes : (aim : FaultTarget) (answers : List Answer) (failed : Bool) (kept : Kept) (standing : Standing) (loaded : Option Kept) (journal : List Item) → loaded ≡ cond failed (Some kept) None
    → journal ++ (note_of answers aim None ++ loaded_in loaded) ≡ journal ++ (map Answered answers ++ noted_by aim failed (Starts kept standing))
start_notes aim answers true kept standing loaded journal is =
    ap (λ (o : Option Kept). journal ++ (note_of answers aim None ++ loaded_in o)) is ∙ ap (λ (all : List Item). journal ++ all) (append_assoc (map Answered answers) (met_by aim None) (Loaded kept ∷ []))
start_notes aim answers false kept standing loaded journal is =
    ap (λ (o : Option Kept). journal ++ (note_of answers aim None ++ loaded_in o)) is ∙ ap (λ (all : List Item). journal ++ all) (append-nil (note_of answers aim None))

start_tells : (node : ℕ) (aim : FaultTarget) (answers : List Answer) (loaded : Option Kept) (old new : Network) (before now : List ClusterLine) → new ≡ record old { journal = old.journal ++ (note_of answers aim None ++ loaded_in loaded) } → now ≡ before
    → (failed : Bool) (ending : Ending) → TellsEnding failed (ended.Started loaded) ending → Tells true node aim answers failed ending old new before now
start_tells node aim answers loaded old new before now is silent failed (Starts kept standing) tells = λ voters places. record {
  more = [];
  goes = λ turns later. λ i. record {
    world = record {
      voters = voters;
      places = set places (node - 1) (record { standing = Some standing; failed = false });
      links = (sym is i).connections;
      mail = (sym is i).mail;
      usage = (sym is i).usage;
      turns = turns;
      journal = (sym (start_notes aim answers failed kept standing loaded old.journal tells) ∙ sym (ap (λ (o : Network). o.journal) is)) i;
      outcomes = later;
      over = None;
    };
    said = [];
    halt = None;
  };
  says = silent ∙ sym (append-nil before);
  hold = tt;
}
start_tells node aim answers loaded old new before now is silent failed (Steps told standing) tells = absurd tells
start_tells node aim answers loaded old new before now is silent failed (Stops keeps) tells = absurd tells
start_tells node aim answers loaded old new before now is silent failed (Fails keeps) tells = absurd tells
start_tells node aim answers loaded old new before now is silent failed Unreadable tells = absurd tells

pub start_told : (node : ℕ) (aim : FaultTarget) (answers : List Answer) (came : EventEnd) (loaded : Option Kept) (old new : Network) (before now : List ClusterLine) → came ≡ ended.Started loaded
    → new ≡ record old { journal = old.journal ++ (note_of answers aim None ++ loaded_in loaded) } → now ≡ before
    → (failed : Bool) (ending : Ending) → TellsEnding failed came ending → Tells true node aim answers failed ending old new before now
start_told node aim answers came loaded old new before now is new_is silent failed ending tells =
    start_tells node aim answers loaded old new before now new_is silent failed ending (subst (λ (c : EventEnd). TellsEnding failed c ending) is tells)

-- ---- a fall

stop_tells : (node : ℕ) (aim : FaultTarget) (answers : List Answer) (keeps : ℕ) (old new : Network) (before now : List ClusterLine) → Falls node aim answers keeps (says.Stopped node) old new before now
    → (failed : Bool) (ending : Ending) → TellsEnding failed (ended.Stopped keeps) ending → Tells true node aim answers failed ending old new before now
stop_tells node aim answers keeps old new before now a failed (Stops told) tells = λ voters places. record {
  more = closings old.connections node ++ says.Stopped node ∷ [];
  goes = λ turns later. λ i. record {
    world = record {
      voters = voters;
      places = set places (node - 1) (record { standing = None; failed = true });
      links = sym a.links i;
      mail = sym a.mail i;
      usage = sym a.usage i;
      turns = turns;
      journal = (ap (λ (n : ℕ). old.journal ++ note_of answers aim (Some n)) tells ∙ sym a.journal) i;
      outcomes = later;
      over = None;
    };
    said = closings old.connections node ++ says.Stopped node ∷ [];
    halt = None;
  };
  says = a.says;
  hold = tt;
}
stop_tells node aim answers keeps old new before now a failed (Steps told standing) tells = absurd tells
stop_tells node aim answers keeps old new before now a failed (Starts kept standing) tells = absurd tells
stop_tells node aim answers keeps old new before now a failed (Fails told) tells = absurd tells
stop_tells node aim answers keeps old new before now a failed Unreadable tells = absurd tells

fail_tells : (node : ℕ) (aim : FaultTarget) (answers : List Answer) (keeps : ℕ) (old new : Network) (before now : List ClusterLine) → Falls node aim answers keeps (says.Down node causes.DiskFault) old new before now
    → (failed : Bool) (ending : Ending) → TellsEnding failed (ended.Failed keeps) ending → Tells true node aim answers failed ending old new before now
fail_tells node aim answers keeps old new before now a failed (Fails told) tells = λ voters places. record {
  more = closings old.connections node ++ says.Down node causes.DiskFault ∷ [];
  goes = λ turns later. λ i. record {
    world = record {
      voters = voters;
      places = set places (node - 1) (record { standing = None; failed = true });
      links = sym a.links i;
      mail = sym a.mail i;
      usage = sym a.usage i;
      turns = turns;
      journal = (ap (λ (n : ℕ). old.journal ++ note_of answers aim (Some n)) tells ∙ sym a.journal) i;
      outcomes = later;
      over = None;
    };
    said = closings old.connections node ++ says.Down node causes.DiskFault ∷ [];
    halt = None;
  };
  says = a.says;
  hold = tt;
}
fail_tells node aim answers keeps old new before now a failed (Steps told standing) tells = absurd tells
fail_tells node aim answers keeps old new before now a failed (Starts kept standing) tells = absurd tells
fail_tells node aim answers keeps old new before now a failed (Stops told) tells = absurd tells
fail_tells node aim answers keeps old new before now a failed Unreadable tells = absurd tells

pub stop_told : (node : ℕ) (aim : FaultTarget) (answers : List Answer) (came : EventEnd) (keeps : ℕ) (old new : Network) (before now : List ClusterLine) → came ≡ ended.Stopped keeps
    → Falls node aim answers keeps (says.Stopped node) old new before now → (failed : Bool) (ending : Ending) → TellsEnding failed came ending → Tells true node aim answers failed ending old new before now
stop_told node aim answers came keeps old new before now is a failed ending tells =
    stop_tells node aim answers keeps old new before now a failed ending (subst (λ (c : EventEnd). TellsEnding failed c ending) is tells)

pub fail_told : (node : ℕ) (aim : FaultTarget) (answers : List Answer) (came : EventEnd) (keeps : ℕ) (old new : Network) (before now : List ClusterLine) → came ≡ ended.Failed keeps
    → Falls node aim answers keeps (says.Down node causes.DiskFault) old new before now → (failed : Bool) (ending : Ending) → TellsEnding failed came ending → Tells true node aim answers failed ending old new before now
fail_told node aim answers came keeps old new before now is a failed ending tells =
    fail_tells node aim answers keeps old new before now a failed ending (subst (λ (c : EventEnd). TellsEnding failed c ending) is tells)

-- ---- files that don't load

unread_tells : (node : ℕ) (aim : FaultTarget) (answers : List Answer) (old new : Network) (before now : List ClusterLine) → new ≡ record old { journal = old.journal ++ note_of answers aim None } → now ≡ before ++ says.Down node causes.Unreadable ∷ []
    → (failed : Bool) (ending : Ending) → TellsEnding failed ended.Unreadable ending → Tells true node aim answers failed ending old new before now
unread_tells node aim answers old new before now is told failed Unreadable tells = λ voters places. record {
  more = says.Down node causes.Unreadable ∷ [];
  goes = λ turns later. λ i. record {
    world = world_of (outside_of voters places (sym is i)) turns later;
    said = says.Down node causes.Unreadable ∷ [];
    halt = None;
  };
  says = told;
  hold = tt;
}
unread_tells node aim answers old new before now is told failed (Steps outs standing) tells = absurd tells
unread_tells node aim answers old new before now is told failed (Starts kept standing) tells = absurd tells
unread_tells node aim answers old new before now is told failed (Stops keeps) tells = absurd tells
unread_tells node aim answers old new before now is told failed (Fails keeps) tells = absurd tells

pub unread_told : (node : ℕ) (aim : FaultTarget) (answers : List Answer) (came : EventEnd) (old new : Network) (before now : List ClusterLine) → came ≡ ended.Unreadable → new ≡ record old { journal = old.journal ++ note_of answers aim None }
    → now ≡ before ++ says.Down node causes.Unreadable ∷ [] → (failed : Bool) (ending : Ending) → TellsEnding failed came ending → Tells true node aim answers failed ending old new before now
unread_told node aim answers came old new before now is new_is told failed ending tells =
    unread_tells node aim answers old new before now new_is told failed ending (subst (λ (c : EventEnd). TellsEnding failed c ending) is tells)
