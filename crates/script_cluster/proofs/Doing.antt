-- What calls lead to, put together.
use Rattle.std.proofs.Common.{◌≡◌, ℕ, ◌-◌, zero, suc, Bool, true, false, cond, List, [], ◌∷◌, ◌++◌, set, get_or, slice_get, nat_le, ◌&&◌, Option, Some, None, is_some, Result, Ok, Err, refl, sym, ap, subst, ◌∙◌}
use Rattle.std.specs.List.{AllByRecursion}
use Rattle.std.proofs.lemmas.List.{append-nil, append_assoc}
use Rattle.session_spec.specs.Engines.{Answer}
use Rattle.script_grammar.specs.declared.faults.EventFault.{EventFault}
use Rattle.script_grammar.specs.declared.faults.EventFault.TheVariants as faults
use Rattle.script_grammar.specs.declared.grammar.FaultTarget.{FaultTarget}
use Rattle.script_grammar.specs.declared.usage.Usage.{Usage}
use Rattle.script_grammar.specs.Usage.{with_event}
use Rattle.script_cluster.specs.declared.network.Network.{Network}
use Rattle.script_cluster.specs.declared.place.EventResult.{EventResult}
use Rattle.script_cluster.specs.declared.cluster_line.ClusterLine.{ClusterLine}
use Rattle.script_cluster.specs.Outcomes.{Ending, Steps, Starts, Stops, Fails, Unreadable, Outcome, Doing, Start, Connect, Hangup, Receive, Item, Turn, Does as Did, Crashes as Crashed}
use Rattle.raft_messages.specs.declared.fault.PeerFault.{PeerFault}
use Rattle.raft_messages.specs.declared.message.RaftMessage.{RaftMessage}
use Rattle.script_grammar.specs.declared.events.Event.{Event}
use Rattle.script_grammar.specs.declared.events.Event.TheVariants as event
use Rattle.script_grammar.specs.declared.grammar.FaultTarget.TheVariants.{Nothing}
use Rattle.script_cluster.specs.declared.cluster_line.ClusterLine.TheVariants as says
use Rattle.script_cluster.specs.declared.place.PlaceFault.{PlaceFault}
use Rattle.script_cluster.specs.declared.place.PlaceFault.TheVariants as place
use Rattle.script_cluster.specs.World.{Letter, with_link, without, without_node, closings, node_of, connects, on_link, hangs_up, is_node, arriving, arrived_at, delivered, delivers, arrives, crashes, fallen, exists, takes, happens, settles, settled_so, first_waiting, all_start}
use Rattle.script_cluster.specs.World.{Place, World, Halt, NotThere, TooMany, Went, quiet, halted, then_on, onward, said_before, asked, asked_so, unless_many, at_node, starts, empty_place, counted, counted_so}
use Rattle.script_cluster.specs.Knowing.{Knowing, AllKnow, KnowsOver, CanHold, messages_of, messages_in, outcomes_of, outcomes_in, outcomes_over}
use Rattle.script_cluster.specs.Seen.{answers_in}
use Rattle.script_cluster.specs.Places.{event_fault, Comes, TellsEnding, place_after, place_after_crash}
use Rattle.script_cluster.specs.Holding.{Held, beside, outside_of, world_of, places_after, Asks, Overruns, Leads, HaltsAt, Halts, DoesBy, Does, TellsAll}

-- ---- nothing, and one after another

-- by this turn the places are led on
abbrev pub Led : {P : Type 0} → Knowing P → ℕ → List P → List P → Turn → Type 0
Led knows voters old new turn = (earlier : List Turn) → AllKnow knows voters old earlier → AllKnow knows voters new (earlier ++ turn ∷ [])

-- this holds if the wire can hold what it says; and in any case it leads the place of its node on
pub record LedBy {P : Type 0} (knows : Knowing P) (voters : ℕ) (old new : List P) (turn : Turn) : Type 0 where
  pub held : AllByRecursion CanHold (messages_in turn) → Led knows voters old new turn
  pub over : (earlier : List Turn) → AllKnow knows voters old earlier → KnowsOver knows voters earlier (Some turn)

outcomes_join : (turns more : List Turn) → outcomes_in (turns ++ more) ≡ outcomes_in turns ++ outcomes_in more
outcomes_join [] more = refl
outcomes_join (turn ∷ turns) more = ap (λ (outcomes : List Outcome). outcomes_of turn ++ outcomes) (outcomes_join turns more) ∙ sym (append_assoc (outcomes_of turn) (outcomes_in turns) (outcomes_in more))

pub none_more : {P : Type 0} (knows : Knowing P) (voters : ℕ) (nodes : List P) (earlier : List Turn) → AllKnow knows voters nodes earlier → AllKnow knows voters nodes (earlier ++ [])
none_more knows voters nodes earlier k = subst (AllKnow knows voters nodes) (sym (append-nil earlier)) k

-- nothing was done
pub quiet_does : {P : Type 0} (knows : Knowing P) (go : World → Went) (h : Held P) (said : List ClusterLine) → ((earlier : List Turn) (later : List Outcome) → go (world_of h earlier later) ≡ quiet (world_of h earlier later)) → Leads knows go h h said said
quiet_does knows go h said same = record {
  outcomes = [];
  turns = [];
  more = [];
  goes = λ earlier later. same earlier later ∙ ap (λ (turns : List Turn). quiet (world_of h turns later)) (sym (append-nil earlier));
  says = sym (append-nil said);
  know = λ earlier k. none_more knows h.voters h.nodes earlier k;
  uses = refl;
}

-- it is the same as something that is done to another world
pub by_way_of : {P : Type 0} (knows : Knowing P) (go way : World → Went) (old mid new : Held P) (before now : List ClusterLine) (fault : Option Halt) → ((earlier : List Turn) (later : List Outcome) → go (world_of old earlier later) ≡ way (world_of mid earlier later))
    → DoesBy knows way fault mid new before now → ((earlier : List Turn) → AllKnow knows old.voters old.nodes earlier → AllKnow knows mid.voters mid.nodes earlier) → DoesBy knows go fault old new before now
by_way_of knows go way old mid new before now None same does keeps = record {
  outcomes = does.outcomes;
  turns = does.turns;
  more = does.more;
  goes = λ earlier later. same earlier (does.outcomes ++ later) ∙ does.goes earlier later;
  says = does.says;
  know = λ earlier k. does.know earlier (keeps earlier k);
  uses = does.uses;
}
by_way_of knows go way old mid new before now (Some why) same does keeps = record {
  outcomes = does.outcomes;
  turns = does.turns;
  more = does.more;
  nodes = does.nodes;
  over = does.over;
  halts = λ earlier later. subst (HaltsAt why new.journal does.more (earlier ++ does.turns) does.over) (sym (same earlier (does.outcomes ++ later))) (does.halts earlier later);
  says = does.says;
  know = λ earlier k. does.know earlier (keeps earlier k);
  last = λ earlier k. does.last earlier (keeps earlier k);
  uses = does.uses;
}

-- the same for an answer
pub in_result : {P T : Type 0} (knows : Knowing P) (go way : World → Went) (old mid new : Held P) (before now : List ClusterLine) (result : Result T EventFault) → ((earlier : List Turn) (later : List Outcome) → go (world_of old earlier later) ≡ way (world_of mid earlier later))
    → Does knows way result mid new before now → ((earlier : List Turn) → AllKnow knows old.voters old.nodes earlier → AllKnow knows mid.voters mid.nodes earlier) → Does knows go result old new before now
in_result knows go way old mid new before now (Ok x) same does keeps = by_way_of knows go way old mid new before now None same does keeps
in_result knows go way old mid new before now (Err faults.NotThere) same does keeps = by_way_of knows go way old mid new before now (Some NotThere) same does keeps
in_result knows go way old mid new before now (Err faults.TooMany) same does keeps = by_way_of knows go way old mid new before now (Some TooMany) same does keeps
in_result knows go way old mid new before now (Err faults.NoMemory) same does keeps = tt
in_result knows go way old mid new before now (Err faults.Internal) same does keeps = tt

halts_behind : (why : Halt) (journal : List Item) (said more : List ClusterLine) (turns : List Turn) (over : Option Turn) (went : Went) → HaltsAt why journal more turns over went → HaltsAt why journal (said ++ more) turns over (said_before said went)
halts_behind why journal said more turns over went at =
    record { halt = at.halt; said_is = ap (λ (all : List ClusterLine). said ++ all) at.said_is; journal_is = at.journal_is; turns_are = at.turns_are; over_is = at.over_is }

-- one thing, and then another
pub then_does : {P : Type 0} (knows : Knowing P) (first next : World → Went) (old mid new : Held P) (before between now : List ClusterLine) (fault : Option Halt) → Leads knows first old mid before between → DoesBy knows next fault mid new between now
    → DoesBy knows (λ (w : World). then_on next (first w)) fault old new before now
then_does knows first next old mid new before between now None a b = record {
  outcomes = a.outcomes ++ b.outcomes;
  turns = a.turns ++ b.turns;
  more = a.more ++ b.more;
  goes = λ earlier later.
      ap (λ (outcomes : List Outcome). then_on next (first (world_of old earlier outcomes))) (append_assoc a.outcomes b.outcomes later)
      ∙ ap (then_on next) (a.goes earlier (b.outcomes ++ later))
      ∙ ap (said_before a.more) (b.goes (earlier ++ a.turns) later)
      ∙ ap (λ (turns : List Turn). record { world = world_of new turns later; said = a.more ++ b.more; halt = None }) (append_assoc earlier a.turns b.turns);
  says = b.says ∙ ap (λ (all : List ClusterLine). all ++ b.more) a.says ∙ append_assoc before a.more b.more;
  know = λ earlier k. subst (AllKnow knows new.voters new.nodes) (append_assoc earlier a.turns b.turns) (b.know (earlier ++ a.turns) (a.know earlier k));
  uses = (λ i. a.uses i ++ b.uses i) ∙ sym (outcomes_join a.turns b.turns);
}
then_does knows first next old mid new before between now (Some why) a b = record {
  outcomes = a.outcomes ++ b.outcomes;
  turns = a.turns ++ b.turns;
  more = a.more ++ b.more;
  nodes = b.nodes;
  over = b.over;
  halts = λ earlier later.
      subst (λ (turns : List Turn). HaltsAt why new.journal (a.more ++ b.more) turns b.over (then_on next (first (world_of old earlier ((a.outcomes ++ b.outcomes) ++ later))))) (append_assoc earlier a.turns b.turns)
      (subst (HaltsAt why new.journal (a.more ++ b.more) ((earlier ++ a.turns) ++ b.turns) b.over)
      (sym (ap (λ (outcomes : List Outcome). then_on next (first (world_of old earlier outcomes))) (append_assoc a.outcomes b.outcomes later) ∙ ap (then_on next) (a.goes earlier (b.outcomes ++ later))))
      (halts_behind why new.journal a.more b.more ((earlier ++ a.turns) ++ b.turns) b.over (next (world_of mid (earlier ++ a.turns) (b.outcomes ++ later))) (b.halts (earlier ++ a.turns) later)));
  says = b.says ∙ ap (λ (all : List ClusterLine). all ++ b.more) a.says ∙ append_assoc before a.more b.more;
  know = λ earlier k. subst (AllKnow knows new.voters b.nodes) (append_assoc earlier a.turns b.turns) (b.know (earlier ++ a.turns) (a.know earlier k));
  last = λ earlier k. subst (λ (turns : List Turn). KnowsOver knows new.voters turns b.over) (append_assoc earlier a.turns b.turns) (b.last (earlier ++ a.turns) (a.know earlier k));
  uses =
      (λ i. a.uses i ++ b.uses i)
      ∙ sym (append_assoc (outcomes_in a.turns) (outcomes_in b.turns) (outcomes_over b.over))
      ∙ ap (λ (outcomes : List Outcome). outcomes ++ outcomes_over b.over) (sym (outcomes_join a.turns b.turns));
}

onward_halts : (next : World → Went) (why : Halt) (journal : List Item) (more : List ClusterLine) (turns : List Turn) (over : Option Turn) (went : Went) → HaltsAt why journal more turns over went → HaltsAt why journal more turns over (then_on next went)
onward_halts next why journal more turns over went at = subst (HaltsAt why journal more turns over) (sym (ap (onward next went) at.halt)) at

-- if the first halts, all does
pub then_halts : {P : Type 0} (knows : Knowing P) (first next : World → Went) (why : Halt) (old new : Held P) (before now : List ClusterLine) → Halts knows first why old new before now → Halts knows (λ (w : World). then_on next (first w)) why old new before now
then_halts knows first next why old new before now a = record {
  outcomes = a.outcomes;
  turns = a.turns;
  more = a.more;
  nodes = a.nodes;
  over = a.over;
  halts = λ earlier later. onward_halts next why new.journal a.more (earlier ++ a.turns) a.over (first (world_of old earlier (a.outcomes ++ later))) (a.halts earlier later);
  says = a.says;
  know = a.know;
  last = a.last;
  uses = a.uses;
}

-- ---- an event at a node

keeps_same : (places : List Place) (i : ℕ) → set places i (get_or places i empty_place) ≡ places
keeps_same [] i = refl
keeps_same (place ∷ places) zero = refl
keeps_same (place ∷ places) (suc i) = ap (λ (all : List Place). place ∷ all) (keeps_same places i)

-- places after an event are those with the place as it stands
placed : (n : ℕ) (ending : Ending) (places : List Place) → places_after n ending places ≡ set places (n - 1) (place_after ending (get_or places (n - 1) empty_place))
placed n (Steps outs standing) places = refl
placed n (Starts kept standing) places = refl
placed n (Stops keeps) places = refl
placed n (Fails keeps) places = refl
placed n Unreadable places = sym (keeps_same places (n - 1))

-- the world at which events end where what came has too many bytes of messages
abbrev over_at : {P : Type 0} → ℕ → Doing → FaultTarget → Held P → List Turn → Outcome → List Outcome → World
over_at n doing aim h earlier outcome later = record (world_of h earlier (outcome ∷ later)) { over = Some (Did n doing aim outcome) }

-- what came is noted and said
asked_leads : {P : Type 0} (knows : Knowing P) (n : ℕ) (doing : Doing) (aim : FaultTarget) (voters : ℕ) (nodes now_nodes : List P) (places : List Place) (old new : Network) (answers : List Answer) (ending : Ending) (before now : List ClusterLine)
    → Asks n aim answers (get_or places (n - 1) empty_place).failed ending (outside_of voters places old) (outside_of voters (places_after n ending places) new) before now
    → (AllByRecursion CanHold (messages_of ending) → Led knows voters nodes now_nodes (Did n doing aim (record { answers = answers; ending = ending })))
    → Leads knows (λ (w : World). asked n doing aim w w.outcomes) (beside voters nodes places old) (beside voters now_nodes (places_after n ending places) new) before now
asked_leads knows n doing aim voters nodes now_nodes places old new answers ending before now a led = record {
  outcomes = record { answers = answers; ending = ending } ∷ [];
  turns = Did n doing aim (record { answers = answers; ending = ending }) ∷ [];
  more = a.more;
  goes = λ earlier later.
      ap (asked_so (over_at n doing aim (beside voters nodes places old) earlier (record { answers = answers; ending = ending }) later)) (a.goes (earlier ++ Did n doing aim (record { answers = answers; ending = ending }) ∷ []) later);
  says = a.says;
  know = led a.hold;
  uses = refl;
}

overrun : (w : World) (went : Went) (journal : List Item) (turns : List Turn) → went.halt ≡ Some TooMany → journal ≡ w.journal → turns ≡ w.turns → HaltsAt TooMany journal [] turns w.over (asked_so w went)
overrun w went journal turns halts same behind =
    subst (HaltsAt TooMany journal [] turns w.over) (sym (ap (unless_many w went) halts)) (record { halt = refl; said_is = refl; journal_is = sym same; turns_are = sym behind; over_is = refl })

asked_halts : {P : Type 0} (knows : Knowing P) (n : ℕ) (doing : Doing) (aim : FaultTarget) (voters : ℕ) (nodes later_nodes : List P) (places later_places : List Place) (old new : Network) (answers : List Answer) (ending : Ending) (before now : List ClusterLine)
    → Overruns n aim answers (get_or places (n - 1) empty_place).failed ending (outside_of voters places old) → new ≡ old → now ≡ before
    → ((earlier : List Turn) → AllKnow knows voters nodes earlier → KnowsOver knows voters earlier (Some (Did n doing aim (record { answers = answers; ending = ending }))))
    → Halts knows (λ (w : World). asked n doing aim w w.outcomes) TooMany (beside voters nodes places old) (beside voters later_nodes later_places new) before now
asked_halts knows n doing aim voters nodes later_nodes places later_places old new answers ending before now a same silent on = record {
  outcomes = record { answers = answers; ending = ending } ∷ [];
  turns = [];
  more = [];
  nodes = nodes;
  over = Some (Did n doing aim (record { answers = answers; ending = ending }));
  halts = λ earlier later.
      overrun (over_at n doing aim (beside voters nodes places old) earlier (record { answers = answers; ending = ending }) later) _ new.journal (earlier ++ [])
      (a.halts (earlier ++ Did n doing aim (record { answers = answers; ending = ending }) ∷ []) later) (ap (λ (o : Network). o.journal) same) (append-nil earlier);
  says = silent ∙ sym (append-nil before);
  know = none_more knows voters nodes;
  last = λ earlier k. subst (λ (turns : List Turn). KnowsOver knows voters turns (Some (Did n doing aim (record { answers = answers; ending = ending })))) (sym (append-nil earlier)) (on earlier k);
  uses = refl;
}

-- what came at the place of a node was noted and said
pub asked_does : {P T : Type 0} (knows : Knowing P) (n : ℕ) (doing : Doing) (aim : FaultTarget) (voters : ℕ) (nodes now_nodes : List P) (places : List Place) (q : Place) (old new : Network) (came : EventResult) (result : Result T EventFault) (before now : List ClusterLine)
    → Comes (get_or places (n - 1) empty_place) q came (λ (outcome : Outcome). LedBy knows voters nodes now_nodes (Did n doing aim outcome))
    → ((failed : Bool) (ending : Ending) → TellsEnding failed came.ended ending → TellsAll result n aim (answers_in came.answers) failed ending old new before now)
    → Does knows (λ (w : World). asked n doing aim w w.outcomes) result (beside voters nodes places old) (beside voters now_nodes (set places (n - 1) q) new) before now
asked_does knows n doing aim voters nodes now_nodes places q old new came (Ok x) before now comes tells =
    subst (λ (all : List Place). Leads knows (λ (w : World). asked n doing aim w w.outcomes) (beside voters nodes places old) (beside voters now_nodes all new) before now)
    (placed n comes.ending places ∙ ap (set places (n - 1)) (sym comes.stands))
    (asked_leads knows n doing aim voters nodes now_nodes places old new (answers_in came.answers) comes.ending before now (tells _ comes.ending comes.tells voters places) comes.on.held)
asked_does knows n doing aim voters nodes now_nodes places q old new came (Err faults.NotThere) before now comes tells = absurd (tells _ comes.ending comes.tells)
asked_does knows n doing aim voters nodes now_nodes places q old new came (Err faults.TooMany) before now comes tells =
    let all = tells (get_or places (n - 1) empty_place).failed comes.ending comes.tells in
    asked_halts knows n doing aim voters nodes now_nodes places (set places (n - 1) q) old new (answers_in came.answers) comes.ending before now (all.0 voters places) all.1 all.2 comes.on.over
asked_does knows n doing aim voters nodes now_nodes places q old new came (Err faults.NoMemory) before now comes tells = tt
asked_does knows n doing aim voters nodes now_nodes places q old new came (Err faults.Internal) before now comes tells = tt

-- a fault of a place promises nothing
pub place_failed : {P : Type 0} (knows : Knowing P) (T : Type 0) (go : World → Went) (fault : PlaceFault) (old new : Held P) (before now : List ClusterLine)
    → Does {T = T} knows go (Err (event_fault fault)) old new before now
place_failed knows T go place.NoMemory old new before now = tt
place_failed knows T go place.Internal old new before now = tt

-- ---- where a node runs, and if none does

pub at_node_up : {P T : Type 0} (knows : Knowing P) (n : ℕ) (doing : Doing) (aim : FaultTarget) (h new : Held P) (result : Result T EventFault) (before now : List ClusterLine) → (nat_le 1 n && is_some (get_or h.places (n - 1) empty_place).standing) ≡ true
    → Does knows (λ (w : World). asked n doing aim w w.outcomes) result h new before now → Does knows (at_node n doing aim) result h new before now
at_node_up knows n doing aim h new result before now up does =
    in_result knows (at_node n doing aim) (λ (w : World). asked n doing aim w w.outcomes) h h new before now result
    (λ earlier later. ap (λ (b : Bool). cond b (asked n doing aim (world_of h earlier later) later) (quiet (world_of h earlier later))) up) does (λ earlier k. k)

pub at_node_down : {P : Type 0} (knows : Knowing P) (n : ℕ) (doing : Doing) (aim : FaultTarget) (h : Held P) (said : List ClusterLine) → (nat_le 1 n && is_some (get_or h.places (n - 1) empty_place).standing) ≡ false → Leads knows (at_node n doing aim) h h said said
at_node_down knows n doing aim h said down =
    quiet_does knows (at_node n doing aim) h said (λ earlier later. ap (λ (b : Bool). cond b (asked n doing aim (world_of h earlier later) later) (quiet (world_of h earlier later))) down)

pub starts_down : {P T : Type 0} (knows : Knowing P) (n : ℕ) (aim : FaultTarget) (h new : Held P) (result : Result T EventFault) (before now : List ClusterLine) → (nat_le 1 n && is_some (get_or h.places (n - 1) empty_place).standing) ≡ false
    → Does knows (λ (w : World). asked n (Start h.voters) aim w w.outcomes) result h new before now → Does knows (starts n aim) result h new before now
starts_down knows n aim h new result before now down does =
    in_result knows (starts n aim) (λ (w : World). asked n (Start h.voters) aim w w.outcomes) h h new before now result
    (λ earlier later. ap (λ (b : Bool). cond b (quiet (world_of h earlier later)) (asked n (Start h.voters) aim (world_of h earlier later) later)) down) does (λ earlier k. k)

pub starts_up : {P : Type 0} (knows : Knowing P) (n : ℕ) (aim : FaultTarget) (h : Held P) (said : List ClusterLine) → (nat_le 1 n && is_some (get_or h.places (n - 1) empty_place).standing) ≡ true → Leads knows (starts n aim) h h said said
starts_up knows n aim h said up =
    quiet_does knows (starts n aim) h said (λ earlier later. ap (λ (b : Bool). cond b (quiet (world_of h earlier later)) (asked n (Start h.voters) aim (world_of h earlier later) later)) up)

-- ---- connections

connect_by : ℕ → ℕ → World → Bool → Went
connect_by n c w up =
    let v = record w { links = with_link (record { conn = c; node = n; open_now = up }) w.links } in
    cond up (asked n (Connect c) Nothing v v.outcomes) (record { world = v; said = says.Closed c 4 ∷ []; halt = None })

pub connect_up : {P T : Type 0} (knows : Knowing P) (n c : ℕ) (h new : Held P) (result : Result T EventFault) (before now : List ClusterLine) → (nat_le 1 n && is_some (get_or h.places (n - 1) empty_place).standing) ≡ true
    → Does knows (at_node n (Connect c) Nothing) result (record h { links = with_link (record { conn = c; node = n; open_now = true }) h.links }) new before now → Does knows (connects n c) result h new before now
unfolding connect_by
connect_up {P = P} knows n c h new result before now up does =
    let mid : Held P = record h { links = with_link (record { conn = c; node = n; open_now = true }) h.links } in
    in_result knows (connects n c) (at_node n (Connect c) Nothing) h mid new before now result
    (λ earlier later.
    ap (connect_by n c (world_of h earlier later)) up
    ∙ sym (ap (λ (b : Bool). cond b (asked n (Connect c) Nothing (world_of mid earlier later) later) (quiet (world_of mid earlier later))) up))
    does (λ earlier k. k)

pub connect_down : {P : Type 0} (knows : Knowing P) (n c : ℕ) (h : Held P) (said : List ClusterLine) → (nat_le 1 n && is_some (get_or h.places (n - 1) empty_place).standing) ≡ false
    → Leads knows (connects n c) h (record h { links = with_link (record { conn = c; node = n; open_now = false }) h.links }) said (said ++ says.Closed c 4 ∷ [])
unfolding connect_by
connect_down knows n c h said down = record {
  outcomes = [];
  turns = [];
  more = says.Closed c 4 ∷ [];
  goes = λ earlier later.
      ap (connect_by n c (world_of h earlier later)) down
      ∙ ap (λ (turns : List Turn). record { world = world_of (record h { links = with_link (record { conn = c; node = n; open_now = false }) h.links }) turns later; said = says.Closed c 4 ∷ []; halt = None }) (sym (append-nil earlier));
  says = refl;
  know = none_more knows h.voters h.nodes;
  uses = refl;
}

pub on_open : {P T : Type 0} (knows : Knowing P) (n c : ℕ) (doing : Doing) (aim : FaultTarget) (h new : Held P) (result : Result T EventFault) (before now : List ClusterLine) → node_of h.links c ≡ Some n
    → Does knows (at_node n doing aim) result h new before now → Does knows (λ (v : World). on_link doing aim v (node_of v.links c)) result h new before now
on_open knows n c doing aim h new result before now is does =
    in_result knows (λ (v : World). on_link doing aim v (node_of v.links c)) (at_node n doing aim) h h new before now result (λ earlier later. ap (on_link doing aim (world_of h earlier later)) is) does (λ earlier k. k)

pub on_shut : {P : Type 0} (knows : Knowing P) (c : ℕ) (doing : Doing) (aim : FaultTarget) (h : Held P) (said : List ClusterLine) → node_of h.links c ≡ None → Leads knows (λ (v : World). on_link doing aim v (node_of v.links c)) h h said said
on_shut knows c doing aim h said is =
    quiet_does knows (λ (v : World). on_link doing aim v (node_of v.links c)) h said (λ earlier later. ap (on_link doing aim (world_of h earlier later)) is)

pub hangs_open : {P T : Type 0} (knows : Knowing P) (n c : ℕ) (aim : FaultTarget) (h new : Held P) (result : Result T EventFault) (before now : List ClusterLine) → node_of h.links c ≡ Some n
    → Does knows (at_node n (Hangup c) aim) result (record h { links = without h.links c }) new before now → Does knows (hangs_up c aim) result h new before now
hangs_open knows n c aim h new result before now is does =
    in_result knows (hangs_up c aim) (at_node n (Hangup c) aim) h (record h { links = without h.links c }) new before now result
    (λ earlier later. ap (on_link (Hangup c) aim (world_of (record h { links = without h.links c }) earlier later)) is) does (λ earlier k. k)

pub hangs_shut : {P : Type 0} (knows : Knowing P) (c : ℕ) (aim : FaultTarget) (h : Held P) (said : List ClusterLine) → node_of h.links c ≡ None → Leads knows (hangs_up c aim) h (record h { links = without h.links c }) said said
hangs_shut knows c aim h said is = by_way_of knows (hangs_up c aim) (λ (w : World). quiet w) h (record h { links = without h.links c }) (record h { links = without h.links c }) said said None
    (λ earlier later. ap (on_link (Hangup c) aim (world_of (record h { links = without h.links c }) earlier later)) is)
    (quiet_does knows (λ (w : World). quiet w) (record h { links = without h.links c }) said (λ earlier later. refl)) (λ earlier k. k)

-- ---- messages

-- the message that arrives is read, and its node is asked
pub delivers_read : {P T : Type 0} (knows : Knowing P) (place : ℕ) (aim : FaultTarget) (letter : Letter) (m : RaftMessage) (h new : Held P) (result : Result T EventFault) (before now : List ClusterLine) → slice_get h.mail place ≡ Some letter → arriving letter ≡ Ok m
    → is_node (world_of h [] []) m.to ≡ true → Does knows (at_node m.to (Receive m) aim) result (record h { mail = arrived_at h.mail place }) new before now → Does knows (delivers place aim) result h new before now
delivers_read {P = P} knows place aim letter m h new result before now is reads there does =
    let mid : Held P = record h { mail = arrived_at h.mail place } in
    in_result knows (delivers place aim) (at_node m.to (Receive m) aim) h mid new before now result
    (λ earlier later.
    ap (delivered aim (world_of h earlier later) place) is
    ∙ ap (arrives aim (world_of mid earlier later)) reads
    ∙ ap (λ (b : Bool). cond b (at_node m.to (Receive m) aim (world_of mid earlier later)) (quiet (world_of mid earlier later))) there)
    does (λ earlier k. k)

-- it is read, and its node isn't there
pub delivers_away : {P : Type 0} (knows : Knowing P) (place : ℕ) (aim : FaultTarget) (letter : Letter) (m : RaftMessage) (h : Held P) (said : List ClusterLine) → slice_get h.mail place ≡ Some letter → arriving letter ≡ Ok m
    → is_node (world_of h [] []) m.to ≡ false → Leads knows (delivers place aim) h (record h { mail = arrived_at h.mail place }) said said
delivers_away {P = P} knows place aim letter m h said is reads there =
    let mid : Held P = record h { mail = arrived_at h.mail place } in
    by_way_of knows (delivers place aim) (λ (w : World). quiet w) h mid mid said said None
    (λ earlier later.
    ap (delivered aim (world_of h earlier later) place) is
    ∙ ap (arrives aim (world_of mid earlier later)) reads
    ∙ ap (λ (b : Bool). cond b (at_node m.to (Receive m) aim (world_of mid earlier later)) (quiet (world_of mid earlier later))) there)
    (quiet_does knows (λ (w : World). quiet w) mid said (λ earlier later. refl)) (λ earlier k. k)

-- it can't be read
pub delivers_unread : {P : Type 0} (knows : Knowing P) (place : ℕ) (aim : FaultTarget) (letter : Letter) (fault : PeerFault) (h : Held P) (said : List ClusterLine) → slice_get h.mail place ≡ Some letter → arriving letter ≡ Err fault
    → Leads knows (delivers place aim) h (record h { mail = arrived_at h.mail place }) said said
delivers_unread {P = P} knows place aim letter fault h said is reads =
    let mid : Held P = record h { mail = arrived_at h.mail place } in
    by_way_of knows (delivers place aim) (λ (w : World). quiet w) h mid mid said said None
    (λ earlier later. ap (delivered aim (world_of h earlier later) place) is ∙ ap (arrives aim (world_of mid earlier later)) reads)
    (quiet_does knows (λ (w : World). quiet w) mid said (λ earlier later. refl)) (λ earlier k. k)

-- ---- crashes

pub crash_up : {P : Type 0} (knows : Knowing P) (n pick : ℕ) (h : Held P) (nodes : List P) (said : List ClusterLine) → (nat_le 1 n && is_some (get_or h.places (n - 1) empty_place).standing) ≡ true
    → Led knows h.voters h.nodes nodes (Crashed n pick)
    → Leads knows (crashes n pick) h (record h { nodes = nodes; places = set h.places (n - 1) (place_after_crash (get_or h.places (n - 1) empty_place)); links = without_node h.links n }) said (said ++ closings h.links n)
crash_up knows n pick h nodes said up led = record {
  outcomes = [];
  turns = Crashed n pick ∷ [];
  more = closings h.links n;
  goes = λ earlier later.
      ap (λ (b : Bool). cond b
      (record { world = record (fallen (world_of h earlier later) n (get_or h.places (n - 1) empty_place).failed) { turns = earlier ++ Crashed n pick ∷ [] }; said = closings h.links n; halt = None })
      (quiet (world_of h earlier later))) up;
  says = refl;
  know = led;
  uses = refl;
}

pub crash_down : {P : Type 0} (knows : Knowing P) (n pick : ℕ) (h : Held P) (said : List ClusterLine) → (nat_le 1 n && is_some (get_or h.places (n - 1) empty_place).standing) ≡ false → Leads knows (crashes n pick) h h said said
crash_down knows n pick h said down =
    quiet_does knows (crashes n pick) h said (λ earlier later.
    ap (λ (b : Bool). cond b
    (record { world = record (fallen (world_of h earlier later) n (get_or h.places (n - 1) empty_place).failed) { turns = earlier ++ Crashed n pick ∷ [] }; said = closings h.links n; halt = None })
    (quiet (world_of h earlier later))) down)

-- ---- events that count

pub halted_at : {P : Type 0} (why : Halt) (h : Held P) (earlier : List Turn) (later : List Outcome) → HaltsAt why h.journal [] (earlier ++ []) None (halted why (world_of h earlier later))
halted_at why h earlier later = record { halt = refl; said_is = refl; journal_is = refl; turns_are = sym (append-nil earlier); over_is = refl }

pub counted_does : {P T : Type 0} (knows : Knowing P) (go : World → Went) (usage : Usage) (h new : Held P) (result : Result T EventFault) (before now : List ClusterLine) → with_event h.usage ≡ Some usage → Does knows go result (record h { usage = usage }) new before now
    → Does knows (counted go) result h new before now
counted_does knows go usage h new result before now is does =
    in_result knows (counted go) go h (record h { usage = usage }) new before now result (λ earlier later. ap (counted_so go (world_of h earlier later)) is) does (λ earlier k. k)

pub counted_halts : {P : Type 0} (knows : Knowing P) (go : World → Went) (h : Held P) (said : List ClusterLine) → with_event h.usage ≡ None → Halts knows (counted go) TooMany h h said said
counted_halts knows go h said is = record {
  outcomes = [];
  turns = [];
  more = [];
  nodes = h.nodes;
  over = None;
  halts = λ earlier later. subst (HaltsAt TooMany h.journal [] (earlier ++ []) None) (sym (ap (counted_so go (world_of h earlier later)) is)) (halted_at TooMany h earlier later);
  says = sym (append-nil said);
  know = none_more knows h.voters h.nodes;
  last = λ earlier k. tt;
  uses = refl;
}

-- ---- whole lines

exists_same : {P : Type 0} (h : Held P) (e : Event) (earlier : List Turn) (later : List Outcome) → exists (world_of h earlier later) e ≡ exists (world_of h [] []) e
exists_same h (event.Timeout n) earlier later = refl
exists_same h (event.Beat n) earlier later = refl
exists_same h (event.Connect n c) earlier later = refl
exists_same h (event.Bytes c bytes) earlier later = refl
exists_same h (event.Hangup c) earlier later = refl
exists_same h (event.Deliver m) earlier later = refl
exists_same h (event.Settle count) earlier later = refl
exists_same h (event.Crash n pick) earlier later = refl
exists_same h (event.Start n) earlier later = refl
exists_same h (event.Put bytes) earlier later = refl
exists_same h (event.Take machine) earlier later = refl

pub takes_there : {P T : Type 0} (knows : Knowing P) (e : Event) (aim : FaultTarget) (h new : Held P) (result : Result T EventFault) (before now : List ClusterLine) → exists (world_of h [] []) e ≡ true → Does knows (λ (w : World). happens w e aim) result h new before now
    → Does knows (λ (w : World). takes w e aim) result h new before now
takes_there knows e aim h new result before now is does =
    in_result knows (λ (w : World). takes w e aim) (λ (w : World). happens w e aim) h h new before now result
    (λ earlier later. ap (λ (b : Bool). cond b (happens (world_of h earlier later) e aim) (halted NotThere (world_of h earlier later))) (exists_same h e earlier later ∙ is)) does (λ earlier k. k)

pub takes_missing : {P : Type 0} (knows : Knowing P) (e : Event) (aim : FaultTarget) (h : Held P) (said : List ClusterLine) → exists (world_of h [] []) e ≡ false → Halts knows (λ (w : World). takes w e aim) NotThere h h said said
takes_missing knows e aim h said is = record {
  outcomes = [];
  turns = [];
  more = [];
  nodes = h.nodes;
  over = None;
  halts = λ earlier later.
      subst (HaltsAt NotThere h.journal [] (earlier ++ []) None)
      (sym (ap (λ (b : Bool). cond b (happens (world_of h earlier later) e aim) (halted NotThere (world_of h earlier later))) (exists_same h e earlier later ∙ is)))
      (halted_at NotThere h earlier later);
  says = sym (append-nil said);
  know = none_more knows h.voters h.nodes;
  last = λ earlier k. tt;
  uses = refl;
}

-- ---- messages arrive until none waits

-- one more arrived
pub settles_more : {P : Type 0} (knows : Knowing P) (count place : ℕ) (h mid new : Held P) (before between now : List ClusterLine) (fault : Option Halt) → first_waiting h.mail ≡ Some place → Leads knows (counted (delivers place Nothing)) h mid before between
    → DoesBy knows (settles count) fault mid new between now → DoesBy knows (settles (suc count)) fault h new before now
settles_more knows count place h mid new before between now fault is first rest =
    by_way_of knows (settles (suc count)) (λ (w : World). then_on (settles count) (counted (delivers place Nothing) w)) h h new before now fault
    (λ earlier later. ap (settled_so (settles count) (world_of h earlier later)) is)
    (then_does knows (counted (delivers place Nothing)) (settles count) h mid new before between now fault first rest) (λ earlier k. k)

pub settles_halts : {P : Type 0} (knows : Knowing P) (count place : ℕ) (h new : Held P) (before now : List ClusterLine) (why : Halt) → first_waiting h.mail ≡ Some place → Halts knows (counted (delivers place Nothing)) why h new before now → Halts knows (settles (suc count)) why h new before now
settles_halts knows count place h new before now why is first =
    by_way_of knows (settles (suc count)) (λ (w : World). then_on (settles count) (counted (delivers place Nothing) w)) h h new before now (Some why)
    (λ earlier later. ap (settled_so (settles count) (world_of h earlier later)) is)
    (then_halts knows (counted (delivers place Nothing)) (settles count) why h new before now first) (λ earlier k. k)

pub settles_all : {P : Type 0} (knows : Knowing P) (count : ℕ) (h : Held P) (said : List ClusterLine) → first_waiting h.mail ≡ None → Leads knows (settles count) h h said said
settles_all knows zero h said is = quiet_does knows (settles zero) h said (λ earlier later. refl)
settles_all knows (suc count) h said is = quiet_does knows (settles (suc count)) h said (λ earlier later. ap (settled_so (settles count) (world_of h earlier later)) is)

-- ---- nodes start one after another

pub starts_more : {P : Type 0} (knows : Knowing P) (count n : ℕ) (h mid new : Held P) (before between now : List ClusterLine) (fault : Option Halt) → Leads knows (starts n Nothing) h mid before between → DoesBy knows (all_start count (suc n)) fault mid new between now
    → DoesBy knows (all_start (suc count) n) fault h new before now
starts_more knows count n h mid new before between now fault first rest = then_does knows (starts n Nothing) (all_start count (suc n)) h mid new before between now fault first rest
