-- What is done to two worlds that differ in their pasts alone leads to two that do, or ends early in one of
-- them.
use Rattle.std.proofs.Common.{◌≡◌, ℕ, ◌-◌, ◌+◌, zero, suc, Bool, true, false, cond, List, [], ◌∷◌, ◌++◌, map, Option, Some, None, Result, Ok, Err, refl, sym, ap, subst, ◌∙◌, append_assoc}
use Rattle.std.specs.Prelude.{slice_get, get_or}
use Rattle.std.proofs.lemmas.List.{map-append}
use Rattle.session_spec.specs.Engines.{Answer}
use Rattle.raft_messages.specs.declared.message.RaftMessage.{RaftMessage}
use Rattle.raft_messages.specs.declared.fault.PeerFault.{PeerFault}
use Rattle.script_grammar.specs.Usage.{with_event, with_messages, no_usage}
use Rattle.script_grammar.specs.declared.events.Event.{Event}
use Rattle.script_grammar.specs.declared.events.Event.TheVariants as event
use Rattle.script_grammar.specs.declared.grammar.FaultTarget.{FaultTarget}
use Rattle.script_grammar.specs.declared.grammar.FaultTarget.TheVariants as aims
use Rattle.script_grammar.specs.declared.grammar.FaultTarget.TheVariants.{Nothing}
use Rattle.script_grammar.specs.declared.usage.Usage.{Usage}
use Rattle.script_cluster.specs.declared.cluster_line.ClusterLine.{ClusterLine}
use Rattle.script_cluster.specs.declared.cluster_line.ClusterLine.TheVariants.{Closed}
use Rattle.script_cluster.specs.Knowing.{with_over}
use Rattle.script_cluster.specs.Outcomes.{Ending, Steps, Starts, Stops, Fails, Unreadable, Outcome, Doing, Timeout, Beat, Connect, Bytes, Hangup, Receive, Start, Turn, Does, Crashes, Item, Answered, Loaded, met_by, noted_by, noted}
use Rattle.script_cluster.specs.World.{Place, Link, Letter, World, Halt, NotThere, TooMany, Untold, Went, quiet, halted, said_before, onward, then_on, is_node, empty_place, place_at, is_up, node_of, with_link, without, closings, fallen, first_waiting, arrived_at, arriving}
use Rattle.script_cluster.specs.World.{after_step, after_ending, with_turn, unless_many, asked, at_node, connects, on_link, hangs_up, arrives, delivered, delivers, crashes, starts, counted_so, counted, settled_so, settles, exists, happens, takes, empty_places, all_start, opened, bytes_in}
use Rattle.script_determinism.specs.Plain.{plain_answer, plain_outcome, plain_turn, plain_turns, plain_item, plain_items}
use Rattle.script_determinism.specs.Nodes.{Nodes, AreLed, AreExact}
use Rattle.script_determinism.specs.Repeats.{StartWith}
use Rattle.script_runner.proofs.Growing.{AlwaysGrows, ending_keeps, settles_grows}
use Rattle.script_determinism.proofs.Growing.{start_grows}
use Rattle.script_determinism.proofs.Paths.{led_front, asked_same}

-- ---- worlds

-- all of a world except for what happened in it, what is noted of that, and what is to
-- come
pub record Beside : Type 0 where
  pub voters : ℕ
  pub places : List Place
  pub links : List Link
  pub mail : List Letter
  pub usage : Usage

pub record Past : Type 0 where
  pub turns : List Turn
  pub journal : List Item
  pub outcomes : List Outcome
  pub over : Option Turn

abbrev pub world_with : Beside → Past → World
world_with x h = record {
  voters = x.voters;
  places = x.places;
  links = x.links;
  mail = x.mail;
  usage = x.usage;
  turns = h.turns;
  journal = h.journal;
  outcomes = h.outcomes;
  over = h.over;
}

abbrev pub beside_of : World → Beside
beside_of w = record { voters = w.voters; places = w.places; links = w.links; mail = w.mail; usage = w.usage }

abbrev pub past_of : World → Past
past_of w = record { turns = w.turns; journal = w.journal; outcomes = w.outcomes; over = w.over }

-- the same happened, except for the numbers of transactions
pub record SamePast (h k : Past) : Type 0 where
  pub turns : plain_turns h.turns ≡ plain_turns k.turns
  pub journal : plain_items h.journal ≡ plain_items k.journal

pub record SameWorld (w v : World) : Type 0 where
  pub beside : beside_of w ≡ beside_of v
  pub past : SamePast (past_of w) (past_of v)

-- ---- what went

pub record GoAlike (one other : Went) : Type 0 where
  pub world : SameWorld one.world other.world
  pub said : one.said ≡ other.said
  pub halt : one.halt ≡ other.halt

-- it doesn't learn what came of an event
pub record GoShort (one other : Went) : Type 0 where
  pub cut : one.halt ≡ Some Untold
  pub front : StartWith other.said one.said

pub data Together (one other : Went) : Type 0 where
  Alike : GoAlike one other → Together one other
  Shorter : GoShort one other → Together one other
  Longer : GoShort other one → Together one other

went_alike : (x : Beside) (h k : Past) (said : List ClusterLine) (halt : Option Halt) → SamePast h k → GoAlike (record { world = world_with x h; said = said; halt = halt }) (record { world = world_with x k; said = said; halt = halt })
went_alike x h k said halt same = record { world = record { beside = refl; past = same }; said = refl; halt = refl }

-- said before
behind : (p q : Went) (said also : List ClusterLine) → said ≡ also → Together p q → Together (said_before said p) (said_before also q)
behind p q said also e (Alike s) = Alike (record { world = s.world; said = λ i. e i ++ s.said i; halt = s.halt })
behind p q said also e (Shorter s) = Shorter (record { cut = s.cut; front = (s.front.0, ap (λ (all : List ClusterLine). also ++ all) s.front.1 ∙ ap (λ (all : List ClusterLine). all ++ (p.said ++ s.front.0)) (sym e) ∙ sym (append_assoc said p.said s.front.0)) })
behind p q said also e (Longer s) = Longer (record { cut = s.cut; front = (s.front.0, ap (λ (all : List ClusterLine). said ++ all) s.front.1 ∙ ap (λ (all : List ClusterLine). all ++ (q.said ++ s.front.0)) e ∙ sym (append_assoc also q.said s.front.0)) })

-- what is said more
longer : (go : World → Went) (went : Went) (front : List ClusterLine) (halt : Option Halt) → StartWith went.said front → StartWith (onward go went halt).said front
longer go went front None s = (s.0 ++ (go went.world).said, ap (λ (all : List ClusterLine). all ++ (go went.world).said) s.1 ∙ append_assoc front s.0 (go went.world).said)
longer go went front (Some why) s = s

-- ---- what is noted

answered_plain : (answers : List Answer) → plain_items (map Answered answers) ≡ map Answered (map plain_answer answers)
answered_plain [] = refl
answered_plain (answer ∷ answers) = ap (λ (items : List Item). Answered (plain_answer answer) ∷ items) (answered_plain answers)

met_plain : (aim : FaultTarget) (met : Option ℕ) → plain_items (met_by aim met) ≡ met_by aim met
met_plain aims.Nothing met = refl
met_plain (aims.Stop call pick) met = refl
met_plain (aims.Fail call) met = refl

ending_plain : (aim : FaultTarget) (failed : Bool) (ending : Ending) → plain_items (noted_by aim failed ending) ≡ noted_by aim failed ending
ending_plain aim failed (Steps outs standing) = met_plain aim None
ending_plain aim false (Starts kept standing) = met_plain aim None
ending_plain aim true (Starts kept standing) = map-append plain_item (met_by aim None) (Loaded kept ∷ []) ∙ ap (λ (items : List Item). items ++ Loaded kept ∷ []) (met_plain aim None)
ending_plain aim failed (Stops keeps) = met_plain aim (Some keeps)
ending_plain aim failed (Fails keeps) = met_plain aim (Some keeps)
ending_plain aim failed Unreadable = met_plain aim None

noted_plain : (aim : FaultTarget) (failed : Bool) (outcome : Outcome) → plain_items (noted aim failed outcome) ≡ noted aim failed (plain_outcome outcome)
noted_plain aim failed outcome =
    map-append plain_item (map Answered outcome.answers) (noted_by aim failed outcome.ending)
    ∙ (λ i. answered_plain outcome.answers i ++ ending_plain aim failed outcome.ending i)

-- one turn more
turn_more : (h k : Past) (turn also : Turn) (items others : List Item) (left after : List Outcome) → SamePast h k → plain_turn turn ≡ plain_turn also → plain_items items ≡ plain_items others
    → SamePast (record { turns = h.turns ++ turn ∷ []; journal = h.journal ++ items; outcomes = left; over = h.over }) (record { turns = k.turns ++ also ∷ []; journal = k.journal ++ others; outcomes = after; over = k.over })
turn_more h k turn also items others left after same one notes = record {
  turns =
      map-append plain_turn h.turns (turn ∷ [])
      ∙ (λ i. same.turns i ++ one i ∷ [])
      ∙ sym (map-append plain_turn k.turns (also ∷ []));
  journal =
      map-append plain_item h.journal items
      ∙ (λ i. same.journal i ++ notes i)
      ∙ sym (map-append plain_item k.journal others);
}

-- ---- what comes of an event

ending_alike : (n : ℕ) (ending : Ending) (x : Beside) (h k : Past) → SamePast h k → GoAlike (after_ending n ending (world_with x h)) (after_ending n ending (world_with x k))
ending_alike n (Steps outs standing) x h k same = at (with_messages x.usage (bytes_in outs.messages))
  where
    at : (usage : Option Usage) → GoAlike (after_step n outs standing (world_with x h) usage) (after_step n outs standing (world_with x k) usage)
    at None = went_alike x h k [] (Some TooMany) same
    at (Some usage) = record { world = record { beside = refl; past = same }; said = refl; halt = refl }
ending_alike n (Starts kept standing) x h k same = record { world = record { beside = refl; past = same }; said = refl; halt = refl }
ending_alike n (Stops keeps) x h k same = record { world = record { beside = refl; past = same }; said = refl; halt = refl }
ending_alike n (Fails keeps) x h k same = record { world = record { beside = refl; past = same }; said = refl; halt = refl }
ending_alike n Unreadable x h k same = went_alike x h k _ None same

-- ---- what is done

module _ (nodes : Nodes) (exact : AreExact nodes) where
  -- what happened is what these nodes do, and if it ended also what isn't in the run
  abbrev pub FitsBy : Option Halt → World → Type 0
  FitsBy None w = AreLed nodes w.turns
  FitsBy (Some why) w = AreLed nodes (with_over w.turns w.over)

  abbrev pub Fits : Went → Type 0
  Fits went = FitsBy went.halt went.world

  fits_turns : (halt : Option Halt) (w : World) → FitsBy halt w → AreLed nodes w.turns
  fits_turns None w fits = fits
  fits_turns (Some why) w fits = over w.over fits
    where
      over : (o : Option Turn) → AreLed nodes (with_over w.turns o) → AreLed nodes w.turns
      over None led = led
      over (Some turn) led = led_front nodes w.turns (turn ∷ []) led

  -- From worlds that are the same except for their pasts it leads to the same, or ends early in one of
  -- them.
  abbrev pub Repeats : (World → Went) → Type 0
  Repeats go = (x : Beside) (h k : Past) → SamePast h k → Fits (go (world_with x h)) → Fits (go (world_with x k)) → Together (go (world_with x h)) (go (world_with x k))

  stays : Repeats (λ (w : World). quiet w)
  stays x h k same a b = Alike (went_alike x h k [] None same)

  halts : (why : Halt) → Repeats (λ (w : World). halted why w)
  halts why x h k same a b = Alike (went_alike x h k [] (Some why) same)

  either : (b : Bool) (p q r s : Went) → (Fits p → Fits r → Together p r) → (Fits q → Fits s → Together q s) → Fits (cond b p q) → Fits (cond b r s) → Together (cond b p q) (cond b r s)
  either true p q r s one other a b = one a b
  either false p q r s one other a b = other a b

  -- ---- an event at a node

  -- what isn't in the run, as it has too many bytes of messages, is the same for both
  unless_together : (w v : World) (one other : Went) (a b : Option Halt) → one.halt ≡ a → other.halt ≡ b → SameWorld w v
      → (AreLed nodes one.world.turns → AreLed nodes other.world.turns → GoAlike one other)
      → with_over w.turns w.over ≡ one.world.turns → with_over v.turns v.over ≡ other.world.turns
      → Fits (unless_many w one a) → Fits (unless_many v other b) → Together (unless_many w one a) (unless_many v other b)
  unless_together w v one other None None e f same both p q fits also = Alike (both (fits_turns one.halt one.world fits) (fits_turns other.halt other.world also))
  unless_together w v one other None (Some why) e f same both p q fits also = absurd (apart (sym e ∙ (both (fits_turns one.halt one.world fits) (subst (AreLed nodes) q also)).halt ∙ f))
    where
      apart : None ≡ Some why → ⊥
      apart e = cc
  unless_together w v one other (Some why) None e f same both p q fits also = absurd (apart (sym e ∙ (both (subst (AreLed nodes) p fits) (fits_turns other.halt other.world also)).halt ∙ f))
    where
      apart : Some why ≡ None → ⊥
      apart e = cc
  unless_together w v one other (Some why) (Some because) e f same both p q fits also =
      Alike (record { world = same; said = refl; halt = sym e ∙ (both (subst (AreLed nodes) p fits) (subst (AreLed nodes) q also)).halt ∙ f })

  module _ (n : ℕ) (doing : Doing) (aim : FaultTarget) (x : Beside) (h k : Past) (same : SamePast h k) where
    -- what comes of it is the same
    told_together : (one other : Outcome) (left after : List Outcome) → AreLed nodes (after_ending n one.ending (with_turn (world_with x h) n doing aim one left)).world.turns → AreLed nodes (after_ending n other.ending (with_turn (world_with x k) n doing aim other after)).world.turns
        → GoAlike (after_ending n one.ending (with_turn (world_with x h) n doing aim one left)) (after_ending n other.ending (with_turn (world_with x k) n doing aim other after))
    told_together one other left after fits also =
        let outcome : plain_outcome one ≡ plain_outcome other =
        asked_same nodes exact n doing aim h.turns k.turns one other same.turns
        (subst (AreLed nodes) (ending_keeps n one.ending (with_turn (world_with x h) n doing aim one left)) fits)
        (subst (AreLed nodes) (ending_keeps n other.ending (with_turn (world_with x k) n doing aim other after)) also) in
        let failed = (get_or x.places (n - 1) empty_place).failed in
        let past = turn_more h k (Does n doing aim one) (Does n doing aim other) (noted aim failed one) (noted aim failed other) left after same
        (ap (λ (o : Outcome). Does n doing aim o) outcome) (noted_plain aim failed one ∙ ap (noted aim failed) outcome ∙ sym (noted_plain aim failed other)) in
        subst (λ (ending : Ending). GoAlike (after_ending n one.ending (with_turn (world_with x h) n doing aim one left)) (after_ending n ending (with_turn (world_with x k) n doing aim other after)))
        (ap (λ (o : Outcome). o.ending) outcome) (ending_alike n one.ending x _ _ past)

    asked_together : (outcomes others : List Outcome) → Fits (asked n doing aim (world_with x h) outcomes) → Fits (asked n doing aim (world_with x k) others) → Together (asked n doing aim (world_with x h) outcomes) (asked n doing aim (world_with x k) others)
    asked_together [] [] fits also = Alike (went_alike x h k [] (Some Untold) same)
    asked_together [] (other ∷ after) fits also = Shorter (record { cut = refl; front = (_, refl) })
    asked_together (one ∷ left) [] fits also = Longer (record { cut = refl; front = (_, refl) })
    asked_together (one ∷ left) (other ∷ after) fits also =
        let w = with_turn (world_with x h) n doing aim one left in
        let v = with_turn (world_with x k) n doing aim other after in
        unless_together (record (world_with x h) { over = Some (Does n doing aim one) }) (record (world_with x k) { over = Some (Does n doing aim other) })
        (after_ending n one.ending w) (after_ending n other.ending v) (after_ending n one.ending w).halt (after_ending n other.ending v).halt
        refl refl (record { beside = refl; past = record { turns = same.turns; journal = same.journal } }) (told_together one other left after) (sym (ending_keeps n one.ending w)) (sym (ending_keeps n other.ending v)) fits also

  node_repeats : (n : ℕ) (doing : Doing) (aim : FaultTarget) → Repeats (at_node n doing aim)
  node_repeats n doing aim x h k same =
      either (is_up (world_with x h) n) (asked n doing aim (world_with x h) h.outcomes) (quiet (world_with x h)) (asked n doing aim (world_with x k) k.outcomes) (quiet (world_with x k))
      (asked_together n doing aim x h k same h.outcomes k.outcomes) (stays x h k same)

  -- ---- events

  connects_repeat : (n c : ℕ) → Repeats (connects n c)
  connects_repeat n c x h k same =
      let y : Beside = record x { links = with_link (record { conn = c; node = n; open_now = is_up (world_with x h) n }) x.links } in
      either (is_up (world_with x h) n)
      (asked n (Connect c) Nothing (world_with y h) h.outcomes) (record { world = world_with y h; said = Closed c 4 ∷ []; halt = None })
      (asked n (Connect c) Nothing (world_with y k) k.outcomes) (record { world = world_with y k; said = Closed c 4 ∷ []; halt = None })
      (asked_together n (Connect c) Nothing y h k same h.outcomes k.outcomes) (λ a b. Alike (went_alike y h k (Closed c 4 ∷ []) None same))

  link_repeats : (doing : Doing) (aim : FaultTarget) (node : Option ℕ) → Repeats (λ (w : World). on_link doing aim w node)
  link_repeats doing aim None = stays
  link_repeats doing aim (Some n) = node_repeats n doing aim

  bytes_repeat : (c : ℕ) (doing : Doing) (aim : FaultTarget) → Repeats (λ (w : World). on_link doing aim w (node_of w.links c))
  bytes_repeat c doing aim x h k same = link_repeats doing aim (node_of x.links c) x h k same

  hangs_up_repeats : (c : ℕ) (aim : FaultTarget) → Repeats (hangs_up c aim)
  hangs_up_repeats c aim x h k same = link_repeats (Hangup c) aim (node_of x.links c) (record x { links = without x.links c }) h k same

  arrives_repeats : (aim : FaultTarget) (message : Result RaftMessage PeerFault) → Repeats (λ (w : World). arrives aim w message)
  arrives_repeats aim (Err fault) x h k same = stays x h k same
  arrives_repeats aim (Ok m) x h k same =
      either (is_node (world_with x h) m.to) (at_node m.to (Receive m) aim (world_with x h)) (quiet (world_with x h)) (at_node m.to (Receive m) aim (world_with x k)) (quiet (world_with x k))
      (node_repeats m.to (Receive m) aim x h k same) (stays x h k same)

  delivered_repeats : (aim : FaultTarget) (place : ℕ) (letter : Option Letter) → Repeats (λ (w : World). delivered aim w place letter)
  delivered_repeats aim place None x h k same = stays x h k same
  delivered_repeats aim place (Some letter) x h k same = arrives_repeats aim (arriving letter) (record x { mail = arrived_at x.mail place }) h k same

  delivers_repeat : (place : ℕ) (aim : FaultTarget) → Repeats (delivers place aim)
  delivers_repeat place aim x h k same = delivered_repeats aim place (slice_get x.mail place) x h k same

  crashes_repeat : (n pick : ℕ) → Repeats (crashes n pick)
  crashes_repeat n pick x h k same =
      let y : Beside = beside_of (fallen (world_with x h) n (place_at (world_with x h) n).failed) in
      let more : Past → Past = λ p. record { turns = p.turns ++ Crashes n pick ∷ []; journal = p.journal; outcomes = p.outcomes; over = p.over } in
      let past : SamePast (more h) (more k) = record {
        turns =
            map-append plain_turn h.turns (Crashes n pick ∷ []) ∙ ap (λ (turns : List Turn). turns ++ Crashes n pick ∷ []) same.turns ∙ sym (map-append plain_turn k.turns (Crashes n pick ∷ []));
        journal = same.journal;
      } in
      either (is_up (world_with x h) n)
      (record { world = world_with y (more h); said = closings x.links n; halt = None }) (quiet (world_with x h))
      (record { world = world_with y (more k); said = closings x.links n; halt = None }) (quiet (world_with x k))
      (λ a b. Alike (went_alike y (more h) (more k) (closings x.links n) None past)) (stays x h k same)

  starts_repeat : (n : ℕ) (aim : FaultTarget) → Repeats (starts n aim)
  starts_repeat n aim x h k same =
      either (is_up (world_with x h) n) (quiet (world_with x h)) (asked n (Start x.voters) aim (world_with x h) h.outcomes) (quiet (world_with x k)) (asked n (Start x.voters) aim (world_with x k) k.outcomes)
      (stays x h k same) (asked_together n (Start x.voters) aim x h k same h.outcomes k.outcomes)

  counted_so_repeats : (go : World → Went) → Repeats go → (usage : Option Usage) → Repeats (λ (w : World). counted_so go w usage)
  counted_so_repeats go repeats None x h k same = halts TooMany x h k same
  counted_so_repeats go repeats (Some usage) x h k same = repeats (record x { usage = usage }) h k same

  counted_repeats : (go : World → Went) → Repeats go → Repeats (counted go)
  counted_repeats go repeats x h k same = counted_so_repeats go repeats (with_event x.usage) x h k same

  -- ---- one thing, and then another

  carried : (go : World → Went) → Repeats go → (w v : World) → SameWorld w v → Fits (go w) → Fits (go v) → Together (go w) (go v)
  carried go repeats w v same =
      subst (λ (y : Beside). Fits (go w) → Fits (go (world_with y (past_of v))) → Together (go w) (go (world_with y (past_of v)))) same.beside
      (repeats (beside_of w) (past_of w) (past_of v) same.past)

  first_fits : (go : World → Went) → AlwaysGrows go → (went : Went) (halt : Option Halt) → went.halt ≡ halt → Fits (onward go went halt) → FitsBy halt went.world
  first_fits go grows went None is fits =
      led_front nodes went.world.turns (grows went.world).0 (subst (AreLed nodes) (grows went.world).1 (fits_turns (go went.world).halt (go went.world).world fits))
  first_fits go grows went (Some why) is fits = subst (λ (halt : Option Halt). FitsBy halt went.world) is fits

  both_on : (go : World → Went) → Repeats go → (one other : Went) → GoAlike one other → (a b : Option Halt) → a ≡ b → Fits (onward go one a) → Fits (onward go other b) → Together (onward go one a) (onward go other b)
  both_on go repeats one other s None None e fits also = behind (go one.world) (go other.world) one.said other.said s.said (carried go repeats one.world other.world s.world fits also)
  both_on go repeats one other s (Some why) (Some because) e fits also = Alike s
  both_on go repeats one other s None (Some because) e fits also = absurd cc
  both_on go repeats one other s (Some why) None e fits also = absurd cc

  shorter_on : (go : World → Went) (one other : Went) → GoShort one other → (a b : Option Halt) → a ≡ Some Untold → GoShort (onward go one a) (onward go other b)
  shorter_on go one other s None b cut = absurd cc
  shorter_on go one other s (Some why) b cut = record { cut = s.cut; front = longer go other one.said b s.front }

  onward_together : (go : World → Went) → Repeats go → (one other : Went) → Together one other → Fits (then_on go one) → Fits (then_on go other) → Together (then_on go one) (then_on go other)
  onward_together go repeats one other (Alike s) fits also = both_on go repeats one other s one.halt other.halt s.halt fits also
  onward_together go repeats one other (Shorter s) fits also = Shorter (shorter_on go one other s one.halt other.halt s.cut)
  onward_together go repeats one other (Longer s) fits also = Longer (shorter_on go other one s other.halt one.halt s.cut)

  then_repeats : (first go : World → Went) → Repeats first → Repeats go → AlwaysGrows go → Repeats (λ (w : World). then_on go (first w))
  then_repeats first go begins repeats grows x h k same fits also =
      let one = first (world_with x h) in
      let other = first (world_with x k) in
      onward_together go repeats one other (begins x h k same (first_fits go grows one one.halt refl fits) (first_fits go grows other other.halt refl also)) fits also

  settled_repeats : (go : World → Went) → Repeats go → AlwaysGrows go → (place : Option ℕ) → Repeats (λ (w : World). settled_so go w place)
  settled_repeats go repeats grows None = stays
  settled_repeats go repeats grows (Some place) = then_repeats (counted (delivers place Nothing)) go (counted_repeats (delivers place Nothing) (delivers_repeat place Nothing)) repeats grows

  settles_repeat : (count : ℕ) → Repeats (settles count)
  settles_repeat zero x h k same = stays x h k same
  settles_repeat (suc count) x h k same = settled_repeats (settles count) (settles_repeat count) (settles_grows count) (first_waiting x.mail) x h k same

  -- ---- events of a script

  happens_repeats : (e : Event) (aim : FaultTarget) → Repeats (λ (w : World). happens w e aim)
  unfolding happens
  happens_repeats (event.Timeout n) aim = counted_repeats (at_node n Timeout aim) (node_repeats n Timeout aim)
  happens_repeats (event.Beat n) aim = counted_repeats (at_node n Beat aim) (node_repeats n Beat aim)
  happens_repeats (event.Connect n c) aim = counted_repeats (connects n c) (connects_repeat n c)
  happens_repeats (event.Bytes c bytes) aim = counted_repeats (λ (w : World). on_link (Bytes c bytes) aim w (node_of w.links c)) (bytes_repeat c (Bytes c bytes) aim)
  happens_repeats (event.Hangup c) aim = counted_repeats (hangs_up c aim) (hangs_up_repeats c aim)
  happens_repeats (event.Deliver m) aim = counted_repeats (delivers (m - 1) aim) (delivers_repeat (m - 1) aim)
  happens_repeats (event.Settle count) aim = settles_repeat count
  happens_repeats (event.Crash n pick) aim = counted_repeats (crashes n pick) (crashes_repeat n pick)
  happens_repeats (event.Start n) aim = counted_repeats (starts n aim) (starts_repeat n aim)
  happens_repeats (event.Put bytes) aim = halts NotThere
  happens_repeats (event.Take machine) aim = halts NotThere

  -- what an event names is there in both
  exists_same : (x : Beside) (h k : Past) (e : Event) → exists (world_with x h) e ≡ exists (world_with x k) e
  exists_same x h k (event.Timeout n) = refl
  exists_same x h k (event.Beat n) = refl
  exists_same x h k (event.Connect n c) = refl
  exists_same x h k (event.Bytes c bytes) = refl
  exists_same x h k (event.Hangup c) = refl
  exists_same x h k (event.Deliver m) = refl
  exists_same x h k (event.Settle count) = refl
  exists_same x h k (event.Crash n pick) = refl
  exists_same x h k (event.Start n) = refl
  exists_same x h k (event.Put bytes) = refl
  exists_same x h k (event.Take machine) = refl

  pub takes_repeats : (e : Event) (aim : FaultTarget) → Repeats (λ (w : World). takes w e aim)
  takes_repeats e aim x h k same =
      let w = world_with x h in
      let v = world_with x k in
      subst (λ (there : Bool). Fits (takes w e aim) → Fits (cond there (happens v e aim) (halted NotThere v)) → Together (takes w e aim) (cond there (happens v e aim) (halted NotThere v))) (exists_same x h k e)
      (either (exists w e) (happens w e aim) (halted NotThere w) (happens v e aim) (halted NotThere v) (happens_repeats e aim x h k same) (halts NotThere x h k same))

  -- ---- the mode line

  start_repeats : (count n : ℕ) → Repeats (all_start count n)
  start_repeats zero n = stays
  start_repeats (suc count) n = then_repeats (starts n Nothing) (all_start count (suc n)) (starts_repeat n Nothing) (start_repeats count (suc n)) (start_grows count (suc n))

  pub opened_repeats : (voters spare : ℕ) (one other : List Outcome) → Fits (opened voters spare one) → Fits (opened voters spare other) → Together (opened voters spare one) (opened voters spare other)
  unfolding opened
  opened_repeats voters spare one other =
      start_repeats (voters + spare) 1 (record { voters = voters; places = empty_places (voters + spare); links = []; mail = []; usage = no_usage })
      (record { turns = []; journal = []; outcomes = one; over = None }) (record { turns = []; journal = []; outcomes = other; over = None }) (record { turns = refl; journal = refl })
