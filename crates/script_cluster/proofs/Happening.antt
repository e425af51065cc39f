-- What the calls of a cluster lead to, from what its parts did.
use Rattle.std.proofs.Common.{◌≡◌, ℕ, ◌-◌, ◌+◌, ◌<◌, ◌≤◌, zero, suc, Bool, true, false, List, [], ◌∷◌, ◌++◌, set, get_or, slice_get, map, nat_le, ◌&&◌, length, is_some, unwrap_or, Option, Some, None, Result, Ok, Err, refl, sym, ap, subst, ◌∙◌, true≢false, arith}
use Rattle.std.proofs.lemmas.List.{append-nil}
use Rattle.raft_messages.specs.declared.message.RaftMessage.{RaftMessage}
use Rattle.script_grammar.specs.declared.events.Event.{Event}
use Rattle.script_grammar.specs.declared.events.Event.TheVariants as event
use Rattle.script_grammar.specs.declared.faults.EventFault.{EventFault}
use Rattle.script_grammar.specs.declared.faults.EventFault.TheVariants as faults
use Rattle.script_grammar.specs.declared.grammar.FaultTarget.{FaultTarget}
use Rattle.script_grammar.specs.declared.grammar.FaultTarget.TheVariants.{Nothing}
use Rattle.script_cluster.specs.declared.network.Network.{Network}
use Rattle.script_cluster.specs.declared.place.EventResult.{EventResult}
use Rattle.script_cluster.specs.declared.cluster_line.ClusterLine.{ClusterLine}
use Rattle.script_cluster.specs.declared.cluster_line.ClusterLine.TheVariants as says
use Rattle.script_cluster.specs.Outcomes.{Doing, Start, Connect, Hangup, Receive, Outcome, Turn, Does as Did, Crashes as Crashed}
use Rattle.script_cluster.specs.Knowing.{Knowing, AllKnow, KnowsAt, LeadsOn, StartsOn, actor, turns_at}
use Rattle.script_cluster.specs.Places.{Comes, place_after_crash}
use Rattle.script_cluster.specs.Seen.{Arrives, answers_in}
use Rattle.script_cluster.specs.World.{Place, Link, Letter, World, Went, Halt, NotThere, TooMany, empty_place, halted, asked, at_node, starts, connects, hangs_up, crashes, delivers, counted, settles, happens, takes, exists, arrived_at, with_link, without, without_node, closings, node_of, is_node, first_waiting, all_start}
use Rattle.script_cluster.specs.Holding.{Held, beside, world_of, Leads, Halts, DoesBy, Does}
use Rattle.script_cluster.specs.Clusters.{ComesAt, CrashesAt, TellsIn, Counts, once, settle_count, world_now}
use Rattle.script_cluster.proofs.Doing.{asked_does, at_node_up, starts_down, connect_up, connect_down, hangs_open, hangs_shut, delivers_read, delivers_away, delivers_unread, crash_up, counted_does, counted_halts, in_result, takes_there, takes_missing, settles_more, settles_halts, settles_all, starts_more, then_halts, quiet_does, Led, LedBy, none_more, halted_at}
use Rattle.script_cluster.proofs.Placing.{from_one, map_set, shown_there}
use Rattle.script_cluster.proofs.Learning.{led_on}

-- ---- an event at a node

from_place : {P : Type 0} (shows : P → Place) (knows : Knowing P) (voters n : ℕ) (nodes mid : List P) (leads : P → P → Outcome → Type 0) (turn : Outcome → Turn) (came : EventResult)
    → 1 ≤ n → ((outcome : Outcome) → actor (turn outcome) ≡ n)
    → ((was now : P) (outcome : Outcome) (turns : List Turn) → leads was now outcome → knows was n voters turns → knows now n voters (turns ++ turn outcome ∷ []))
    → (at : ComesAt shows leads nodes mid (n - 1) came)
    → Comes (get_or (map shows nodes) (n - 1) empty_place) (shows at.now) came (λ (outcome : Outcome). LedBy knows voters nodes mid (turn outcome))
from_place {P} shows knows voters n nodes mid leads turn came one acts on at =
    let last : suc (n - 1) ≡ n = omega (arith, one) in
    let this : Outcome = record { answers = answers_in came.answers; ending = at.comes.ending } in
    subst (λ (place : Place). Comes place (shows at.now) came (λ (outcome : Outcome). LedBy knows voters nodes mid (turn outcome))) (sym (shown_there shows nodes (n - 1) at.was at.there)) (record {
      ending = at.comes.ending;
      tells = at.comes.tells;
      stands = at.comes.stands;
      on = record {
        held = λ hold earlier all.
            subst (λ (places : List P). AllKnow knows voters places (earlier ++ turn this ∷ [])) (sym at.rest)
            (led_on knows voters (n - 1) nodes at.was at.now (turn this) earlier at.there (acts this ∙ sym last) hold
            (λ turns. subst (λ (m : ℕ). knows at.was m voters turns → knows at.now m voters (turns ++ turn this ∷ [])) (sym last) (on at.was at.now this turns at.comes.on)) all);
        over = λ earlier all. (
          at.now,
          subst (λ (m : ℕ). knows at.now m voters (turns_at m earlier ++ turn this ∷ [])) (last ∙ sym (acts this))
              (subst (λ (m : ℕ). knows at.now m voters (turns_at (suc (n - 1)) earlier ++ turn this ∷ [])) (sym last)
              (on at.was at.now this (turns_at (suc (n - 1)) earlier) at.comes.on
              (subst (λ (m : ℕ). knows at.was m voters (turns_at (suc (n - 1)) earlier)) last
              (subst (KnowsAt knows voters (suc (n - 1)) (turns_at (suc (n - 1)) earlier)) at.there (all.0 (suc (n - 1))))))),
        );
      };
    })

places_set : {P : Type 0} (shows : P → Place) (nodes mid after : List P) (i : ℕ) (now : P) → after ≡ mid → mid ≡ set nodes i now → map shows after ≡ set (map shows nodes) i (shows now)
places_set shows nodes mid after i now same rest = ap (map shows) (same ∙ rest) ∙ map_set shows nodes i now

asks_so : {P T : Type 0} (shows : P → Place) (knows : Knowing P) (n : ℕ) (doing : Doing) (aim : FaultTarget) (voters now_voters : ℕ) (nodes mid after : List P) (leads : P → P → Outcome → Type 0) (old new : Network) (came : EventResult) (result : Result T EventFault) (before now : List ClusterLine)
    → 1 ≤ n → ((was now : P) (outcome : Outcome) (turns : List Turn) → leads was now outcome → knows was n voters turns → knows now n voters (turns ++ Did n doing aim outcome ∷ []))
    → ComesAt shows leads nodes mid (n - 1) came → TellsIn result n aim came old new before now → after ≡ mid → now_voters ≡ voters
    → Does knows (λ (w : World). asked n doing aim w w.outcomes) result (beside voters nodes (map shows nodes) old) (beside now_voters after (map shows after) new) before now
asks_so {P} shows knows n doing aim voters now_voters nodes mid after leads old new came result before now one on at tells same voters_same =
    let go : World → Went = λ (w : World). asked n doing aim w w.outcomes in
    let comes = from_place shows knows voters n nodes mid leads (Did n doing aim) came one (λ o. refl) on at in
    subst (λ (v : ℕ). Does knows go result (beside voters nodes (map shows nodes) old) (beside v after (map shows after) new) before now) (sym voters_same)
    (subst (λ (all : List Place). Does knows go result (beside voters nodes (map shows nodes) old) (beside voters after all new) before now) (sym (places_set shows nodes mid after (n - 1) at.now same at.rest))
    (subst (λ (all : List P). Does knows go result (beside voters nodes (map shows nodes) old) (beside voters all (set (map shows nodes) (n - 1) (shows at.now)) new) before now) (sym same)
    (asked_does knows n doing aim voters nodes mid (map shows nodes) (shows at.now) old new came result before now comes tells)))

pub at_node_asks : {P T : Type 0} (shows : P → Place) (knows : Knowing P) (n : ℕ) (doing : Doing) (aim : FaultTarget) (voters now_voters : ℕ) (nodes mid after : List P) (old new : Network) (came : EventResult) (result : Result T EventFault) (before now : List ClusterLine) (index : ℕ)
    → (nat_le 1 n && is_some (get_or (map shows nodes) (n - 1) empty_place).standing) ≡ true → index ≡ n - 1
    → ComesAt shows (λ (was now : P) (outcome : Outcome). LeadsOn knows was now (λ node. Did node doing aim outcome)) nodes mid index came
    → TellsIn result n aim came old new before now → after ≡ mid → now_voters ≡ voters
    → Does knows (at_node n doing aim) result (beside voters nodes (map shows nodes) old) (beside now_voters after (map shows after) new) before now
at_node_asks {P} shows knows n doing aim voters now_voters nodes mid after old new came result before now index up at came_at tells same voters_same =
    at_node_up knows n doing aim (beside voters nodes (map shows nodes) old) (beside now_voters after (map shows after) new) result before now up
    (asks_so shows knows n doing aim voters now_voters nodes mid after (λ was now outcome. LeadsOn knows was now (λ node. Did node doing aim outcome)) old new came result before now
    (from_one n (is_some (get_or (map shows nodes) (n - 1) empty_place).standing) up) (λ was now outcome turns leads. leads n voters turns)
    (subst (λ (i : ℕ). ComesAt shows (λ (was now : P) (outcome : Outcome). LeadsOn knows was now (λ node. Did node doing aim outcome)) nodes mid i came) at came_at) tells same voters_same)

pub starts_asks : {P T : Type 0} (shows : P → Place) (knows : Knowing P) (n : ℕ) (aim : FaultTarget) (voters now_voters : ℕ) (nodes mid after : List P) (old new : Network) (came : EventResult) (result : Result T EventFault) (before now : List ClusterLine) (index : ℕ)
    → 1 ≤ n → (nat_le 1 n && is_some (get_or (map shows nodes) (n - 1) empty_place).standing) ≡ false → index ≡ n - 1
    → ComesAt shows (λ (was now : P). StartsOn knows was now n voters aim) nodes mid index came
    → TellsIn result n aim came old new before now → after ≡ mid → now_voters ≡ voters
    → Does knows (starts n aim) result (beside voters nodes (map shows nodes) old) (beside now_voters after (map shows after) new) before now
starts_asks {P} shows knows n aim voters now_voters nodes mid after old new came result before now index one down at came_at tells same voters_same =
    starts_down knows n aim (beside voters nodes (map shows nodes) old) (beside now_voters after (map shows after) new) result before now down
    (asks_so shows knows n (Start voters) aim voters now_voters nodes mid after (λ was now. StartsOn knows was now n voters aim) old new came result before now
    one (λ was now outcome turns leads. leads turns)
    (subst (λ (i : ℕ). ComesAt shows (λ (was now : P). StartsOn knows was now n voters aim) nodes mid i came) at came_at) tells same voters_same)

pub crash_tells : {P : Type 0} (shows : P → Place) (knows : Knowing P) (n pick voters : ℕ) (nodes after : List P) (old new : Network) (before now : List ClusterLine) (index : ℕ)
    → (nat_le 1 n && is_some (get_or (map shows nodes) (n - 1) empty_place).standing) ≡ true → index ≡ n - 1
    → CrashesAt shows (λ (was now : P). LeadsOn knows was now (λ node. Crashed node pick)) nodes after index
    → new ≡ record old { connections = without_node old.connections n } → now ≡ before ++ closings old.connections n
    → Leads knows (crashes n pick) (beside voters nodes (map shows nodes) old) (beside voters after (map shows after) new) before now
crash_tells {P} shows knows n pick voters nodes after old new before now index up at gone same told =
    let crashed : CrashesAt shows (λ (was now : P). LeadsOn knows was now (λ node. Crashed node pick)) nodes after (n - 1) =
    subst (λ (i : ℕ). CrashesAt shows (λ (was now : P). LeadsOn knows was now (λ node. Crashed node pick)) nodes after i) at gone in
    let last : suc (n - 1) ≡ n = let one : 1 ≤ n = from_one n (is_some (get_or (map shows nodes) (n - 1) empty_place).standing) up in omega (arith, one) in
    let led : Led knows voters nodes after (Crashed n pick) = λ earlier all.
    subst (λ (places : List P). AllKnow knows voters places (earlier ++ Crashed n pick ∷ [])) (sym crashed.rest)
    (led_on knows voters (n - 1) nodes crashed.was crashed.now (Crashed n pick) earlier crashed.there (sym last) tt
    (λ turns. subst (λ (m : ℕ). knows crashed.was m voters turns → knows crashed.now m voters (turns ++ Crashed n pick ∷ [])) (sym last) (crashed.on n voters turns)) all) in
    let stands : map shows after ≡ set (map shows nodes) (n - 1) (place_after_crash (get_or (map shows nodes) (n - 1) empty_place)) =
    places_set shows nodes after after (n - 1) crashed.now refl crashed.rest
    ∙ ap (set (map shows nodes) (n - 1)) (crashed.crashed ∙ ap place_after_crash (sym (shown_there shows nodes (n - 1) crashed.was crashed.there))) in
    subst (λ (said : List ClusterLine). Leads knows (crashes n pick) (beside voters nodes (map shows nodes) old) (beside voters after (map shows after) new) before said) (sym told)
    (subst (λ (o : Network). Leads knows (crashes n pick) (beside voters nodes (map shows nodes) old) (beside voters after (map shows after) o) before (before ++ closings old.connections n)) (sym same)
    (subst (λ (all : List Place). Leads knows (crashes n pick) (beside voters nodes (map shows nodes) old) (beside voters after all (record old { connections = without_node old.connections n })) before (before ++ closings old.connections n)) (sym stands)
    (crash_up knows n pick (beside voters nodes (map shows nodes) old) after before up led)))

-- ---- connections

pub connect_asks : {P T : Type 0} (knows : Knowing P) (n c : ℕ) (h new : Held P) (links : List Link) (result : Result T EventFault) (before now : List ClusterLine) → (nat_le 1 n && is_some (get_or h.places (n - 1) empty_place).standing) ≡ true
    → links ≡ with_link (record { conn = c; node = n; open_now = true }) h.links → Does knows (at_node n (Connect c) Nothing) result (record h { links = links }) new before now → Does knows (connects n c) result h new before now
connect_asks knows n c h new links result before now up made does =
    connect_up knows n c h new result before now up (subst (λ (all : List Link). Does knows (at_node n (Connect c) Nothing) result (record h { links = all }) new before now) made does)

pub connect_closes : {P : Type 0} (knows : Knowing P) (n c : ℕ) (h : Held P) (links : List Link) (before now : List ClusterLine) → (nat_le 1 n && is_some (get_or h.places (n - 1) empty_place).standing) ≡ false
    → links ≡ with_link (record { conn = c; node = n; open_now = false }) h.links → now ≡ before ++ says.Closed c 4 ∷ [] → Leads knows (connects n c) h (record h { links = links }) before now
connect_closes knows n c h links before now down made told =
    subst (λ (said : List ClusterLine). Leads knows (connects n c) h (record h { links = links }) before said) (sym told)
    (subst (λ (all : List Link). Leads knows (connects n c) h (record h { links = all }) before (before ++ says.Closed c 4 ∷ [])) (sym made) (connect_down knows n c h before down))

pub hangup_asks : {P T : Type 0} (knows : Knowing P) (n c : ℕ) (aim : FaultTarget) (h new : Held P) (links : List Link) (node : Option ℕ) (result : Result T EventFault) (before now : List ClusterLine) → node ≡ node_of h.links c → node ≡ Some n → links ≡ without h.links c
    → Does knows (at_node n (Hangup c) aim) result (record h { links = links }) new before now → Does knows (hangs_up c aim) result h new before now
hangup_asks knows n c aim h new links node result before now found is shut does =
    hangs_open knows n c aim h new result before now (sym found ∙ is) (subst (λ (all : List Link). Does knows (at_node n (Hangup c) aim) result (record h { links = all }) new before now) shut does)

pub hangup_quiet : {P : Type 0} (knows : Knowing P) (c : ℕ) (aim : FaultTarget) (h : Held P) (links : List Link) (node : Option ℕ) (said : List ClusterLine) → node ≡ node_of h.links c → node ≡ None → links ≡ without h.links c → Leads knows (hangs_up c aim) h (record h { links = links }) said said
hangup_quiet knows c aim h links node said found is shut =
    subst (λ (all : List Link). Leads knows (hangs_up c aim) h (record h { links = all }) said said) (sym shut) (hangs_shut knows c aim h said (sym found ∙ is))

-- ---- messages

no_letter : Letter
no_letter = record { to = 0; bytes = []; arrived = false }

at_place : (mail : List Letter) (place : ℕ) (d : Letter) → place < length mail → slice_get mail place ≡ Some (get_or mail place d)
at_place [] place d within = absurd (omega (arith, within))
at_place (letter ∷ mail) zero d within = refl
at_place (letter ∷ mail) (suc place) d within = at_place mail place d (omega (arith, within))

pub deliver_asks : {P T : Type 0} (knows : Knowing P) (place : ℕ) (aim : FaultTarget) (m : RaftMessage) (h new : Held P) (mail : List Letter) (message : Option RaftMessage) (there : Bool) (result : Result T EventFault) (before now : List ClusterLine) → place < length h.mail
    → ((d : Letter) → Arrives (get_or h.mail place d).to (get_or h.mail place d).bytes message) → message ≡ Some m → mail ≡ arrived_at h.mail place → there ≡ is_node (world_now (record h { mail = mail })) m.to → there ≡ true
    → Does knows (at_node m.to (Receive m) aim) result (record h { mail = mail }) new before now → Does knows (delivers place aim) result h new before now
deliver_asks knows place aim m h new mail message there result before now within reads is marked known present does =
    delivers_read knows place aim (get_or h.mail place no_letter) m h new result before now (at_place h.mail place no_letter within)
    (subst (Arrives (get_or h.mail place no_letter).to (get_or h.mail place no_letter).bytes) is (reads no_letter)) (sym known ∙ present)
    (subst (λ (all : List Letter). Does knows (at_node m.to (Receive m) aim) result (record h { mail = all }) new before now) marked does)

pub deliver_away : {P : Type 0} (knows : Knowing P) (place : ℕ) (aim : FaultTarget) (m : RaftMessage) (h : Held P) (mail : List Letter) (message : Option RaftMessage) (there : Bool) (said : List ClusterLine) → place < length h.mail
    → ((d : Letter) → Arrives (get_or h.mail place d).to (get_or h.mail place d).bytes message) → message ≡ Some m → mail ≡ arrived_at h.mail place → there ≡ is_node (world_now (record h { mail = mail })) m.to → there ≡ false
    → Leads knows (delivers place aim) h (record h { mail = mail }) said said
deliver_away knows place aim m h mail message there said within reads is marked known present =
    subst (λ (all : List Letter). Leads knows (delivers place aim) h (record h { mail = all }) said said) (sym marked)
    (delivers_away knows place aim (get_or h.mail place no_letter) m h said (at_place h.mail place no_letter within)
    (subst (Arrives (get_or h.mail place no_letter).to (get_or h.mail place no_letter).bytes) is (reads no_letter)) (sym known ∙ present))

pub deliver_unread : {P : Type 0} (knows : Knowing P) (place : ℕ) (aim : FaultTarget) (h : Held P) (mail : List Letter) (message : Option RaftMessage) (said : List ClusterLine) → place < length h.mail
    → ((d : Letter) → Arrives (get_or h.mail place d).to (get_or h.mail place d).bytes message) → message ≡ None → mail ≡ arrived_at h.mail place → Leads knows (delivers place aim) h (record h { mail = mail }) said said
deliver_unread knows place aim h mail message said within reads is marked =
    let why = subst (Arrives (get_or h.mail place no_letter).to (get_or h.mail place no_letter).bytes) is (reads no_letter) in
    subst (λ (all : List Letter). Leads knows (delivers place aim) h (record h { mail = all }) said said) (sym marked)
    (delivers_unread knows place aim (get_or h.mail place no_letter) why.0 h said (at_place h.mail place no_letter within) why.1)

-- ---- events that count

pub counts_then : {P T : Type 0} (knows : Knowing P) (go : World → Went) (h mid new : Held P) (may : Bool) (result : Result T EventFault) (before now : List ClusterLine) → Counts may h mid → may ≡ true
    → Does knows go result mid new before now → Does knows (counted go) result h new before now
counts_then {P = P} knows go h mid new may result before now counts is does =
    let both = subst (λ (m : Bool). Counts m h mid) is counts in
    counted_does knows go mid.usage h new result before now both.0 (subst (λ (k : Held P). Does knows go result k new before now) both.1 does)

pub counts_not : {P : Type 0} (knows : Knowing P) (go : World → Went) (h mid : Held P) (may : Bool) (said : List ClusterLine) → Counts may h mid → may ≡ false → Halts knows (counted go) TooMany h mid said said
counts_not {P = P} knows go h mid may said counts is =
    let both = subst (λ (m : Bool). Counts m h mid) is counts in
    subst (λ (k : Held P). Halts knows (counted go) TooMany h k said said) (sym both.1) (counted_halts knows go h said both.0)

-- an event that is there and settles nothing counts, and then it happens
once_happens : {P : Type 0} (e : Event) (aim : FaultTarget) (h : Held P) (earlier : List Turn) (later : List Outcome) → settle_count e ≡ None → exists (world_of h [] []) e ≡ true → happens (world_of h earlier later) e aim ≡ counted (once e aim) (world_of h earlier later)
unfolding happens
once_happens (event.Timeout n) aim h earlier later one is = refl
once_happens (event.Beat n) aim h earlier later one is = refl
once_happens (event.Connect n c) aim h earlier later one is = refl
once_happens (event.Bytes c bytes) aim h earlier later one is = refl
once_happens (event.Hangup c) aim h earlier later one is = refl
once_happens (event.Deliver m) aim h earlier later one is = refl
once_happens (event.Settle count) aim h earlier later one is = absurd (true≢false (ap is_some one))
once_happens (event.Crash n pick) aim h earlier later one is = refl
once_happens (event.Start n) aim h earlier later one is = refl
once_happens (event.Put bytes) aim h earlier later one is = absurd (true≢false (sym is))
once_happens (event.Take machine) aim h earlier later one is = absurd (true≢false (sym is))

pub takes_once : {P T : Type 0} (knows : Knowing P) (e : Event) (aim : FaultTarget) (h new : Held P) (there : Bool) (count : Option ℕ) (result : Result T EventFault) (before now : List ClusterLine) → there ≡ exists (world_now h) e → there ≡ true → count ≡ settle_count e → count ≡ None
    → Does knows (counted (once e aim)) result h new before now → Does knows (λ (w : World). takes w e aim) result h new before now
takes_once knows e aim h new there count result before now known present counts none does =
    takes_there knows e aim h new result before now (sym known ∙ present)
    (in_result knows (λ (w : World). happens w e aim) (counted (once e aim)) h h new before now result (λ earlier later. once_happens e aim h earlier later (sym counts ∙ none) (sym known ∙ present)) does (λ earlier k. k))

-- the same where no event more may be
pub takes_not : {P : Type 0} (knows : Knowing P) (e : Event) (aim : FaultTarget) (h mid : Held P) (there : Bool) (count : Option ℕ) (may : Bool) (said : List ClusterLine) → there ≡ exists (world_now h) e → there ≡ true → count ≡ settle_count e → count ≡ None
    → Counts may h mid → may ≡ false → Halts knows (λ (w : World). takes w e aim) TooMany h mid said said
takes_not knows e aim h mid there count may said known present counts none count_is is =
    let halts : Does {T = ℕ} knows (counted (once e aim)) (Err faults.TooMany) h mid said said = counts_not knows (once e aim) h mid may said count_is is in
    takes_once {T = ℕ} knows e aim h mid there count (Err faults.TooMany) said said known present counts none halts

settle_is : (e : Event) (aim : FaultTarget) (count : ℕ) (w : World) → settle_count e ≡ Some count → happens w e aim ≡ settles count w
unfolding happens
settle_is (event.Settle n) aim count w is = ap (λ (o : Option ℕ). settles (unwrap_or o count) w) is
settle_is (event.Timeout n) aim count w is = absurd (true≢false (sym (ap is_some is)))
settle_is (event.Beat n) aim count w is = absurd (true≢false (sym (ap is_some is)))
settle_is (event.Connect n c) aim count w is = absurd (true≢false (sym (ap is_some is)))
settle_is (event.Bytes c bytes) aim count w is = absurd (true≢false (sym (ap is_some is)))
settle_is (event.Hangup c) aim count w is = absurd (true≢false (sym (ap is_some is)))
settle_is (event.Deliver m) aim count w is = absurd (true≢false (sym (ap is_some is)))
settle_is (event.Crash n pick) aim count w is = absurd (true≢false (sym (ap is_some is)))
settle_is (event.Start n) aim count w is = absurd (true≢false (sym (ap is_some is)))
settle_is (event.Put bytes) aim count w is = absurd (true≢false (sym (ap is_some is)))
settle_is (event.Take machine) aim count w is = absurd (true≢false (sym (ap is_some is)))

pub takes_settle : {P T : Type 0} (knows : Knowing P) (e : Event) (aim : FaultTarget) (n : ℕ) (h new : Held P) (there : Bool) (count : Option ℕ) (result : Result T EventFault) (before now : List ClusterLine) → there ≡ exists (world_now h) e → there ≡ true → count ≡ settle_count e → count ≡ Some n
    → Does knows (settles n) result h new before now → Does knows (λ (w : World). takes w e aim) result h new before now
takes_settle knows e aim n h new there count result before now known present counts is does =
    takes_there knows e aim h new result before now (sym known ∙ present)
    (in_result knows (λ (w : World). happens w e aim) (settles n) h h new before now result (λ earlier later. settle_is e aim n (world_of h earlier later) (sym counts ∙ is)) does (λ earlier k. k))

pub takes_nothing : {P : Type 0} (knows : Knowing P) (e : Event) (aim : FaultTarget) (h : Held P) (there : Bool) (said : List ClusterLine) → there ≡ exists (world_now h) e → there ≡ false → Halts knows (λ (w : World). takes w e aim) NotThere h h said said
takes_nothing knows e aim h there said known missing = takes_missing knows e aim h said (sym known ∙ missing)

-- an event that is not one of those that happen once
pub never_once : {P : Type 0} (knows : Knowing P) (e : Event) (aim : FaultTarget) (h : Held P) (said : List ClusterLine) → once e aim ≡ halted NotThere → Halts knows (once e aim) NotThere h h said said
never_once knows e aim h said is = subst (λ (go : World → Went). Halts knows go NotThere h h said said) (sym is) (record {
  outcomes = [];
  turns = [];
  more = [];
  nodes = h.nodes;
  over = None;
  halts = λ earlier later. halted_at NotThere h earlier later;
  says = sym (append-nil said);
  know = none_more knows h.voters h.nodes;
  last = λ earlier k. tt;
  uses = refl;
})

-- ---- one message after another

-- what was done so far: whatever is done by what is left of it, the whole does
abbrev pub Settled : {P : Type 0} → Knowing P → ℕ → ℕ → Held P → List ClusterLine → Held P → List ClusterLine → Type 0
Settled {P = P} knows count left first begun h said = (fault : Option Halt) (new : Held P) (now : List ClusterLine) → DoesBy knows (settles left) fault h new said now → DoesBy knows (settles count) fault first new begun now

pub settled_more : {P T : Type 0} (knows : Knowing P) (count arrived place : ℕ) (first h mid : Held P) (mail : List Letter) (waits : Option ℕ) (result : Result T EventFault) (x : T) (begun said between : List ClusterLine) → arrived < count → Settled knows count (count - arrived) first begun h said → mail ≡ h.mail
    → waits ≡ first_waiting h.mail → waits ≡ Some place → Does knows (counted (delivers place Nothing)) result (record h { mail = mail }) mid said between → result ≡ Ok x → Settled knows count (count - (arrived + 1)) first begun mid between
settled_more {T = T} knows count arrived place first h mid mail waits result x begun said between below so_far same waits_is is does ok fault new now rest =
    let left : count - arrived ≡ suc (count - (arrived + 1)) = omega (arith, below) in
    let leads : Leads knows (counted (delivers place Nothing)) h mid said between =
    subst (λ (all : List Letter). Leads knows (counted (delivers place Nothing)) (record h { mail = all }) mid said between) same
    (subst (λ (r : Result T EventFault). Does knows (counted (delivers place Nothing)) r (record h { mail = mail }) mid said between) ok does) in
    so_far fault new now
    (subst (λ (n : ℕ). DoesBy knows (settles n) fault h new said now) (sym left) (settles_more knows (count - (arrived + 1)) place h mid new said between now fault (sym waits_is ∙ is) leads rest))

settled_halts : {P : Type 0} (knows : Knowing P) (count arrived place : ℕ) (first h new : Held P) (why : Halt) (begun said now : List ClusterLine) → arrived < count → Settled knows count (count - arrived) first begun h said → first_waiting h.mail ≡ Some place
    → Halts knows (counted (delivers place Nothing)) why h new said now → Halts knows (settles count) why first new begun now
settled_halts knows count arrived place first h new why begun said now below so_far is halts =
    let left : count - arrived ≡ suc (count - (arrived + 1)) = omega (arith, below) in
    so_far (Some why) new now (subst (λ (n : ℕ). Halts knows (settles n) why h new said now) (sym left) (settles_halts knows (count - (arrived + 1)) place h new said now why is halts))

settled_fault : {P : Type 0} (knows : Knowing P) (T : Type 0) (count arrived place : ℕ) (first h new : Held P) (fault : EventFault) (begun said now : List ClusterLine) → arrived < count → Settled knows count (count - arrived) first begun h said → first_waiting h.mail ≡ Some place
    → Does {T = T} knows (counted (delivers place Nothing)) (Err fault) h new said now → Does {T = T} knows (settles count) (Err fault) first new begun now
settled_fault knows T count arrived place first h new faults.NotThere begun said now below so_far is halts = settled_halts knows count arrived place first h new NotThere begun said now below so_far is halts
settled_fault knows T count arrived place first h new faults.TooMany begun said now below so_far is halts = settled_halts knows count arrived place first h new TooMany begun said now below so_far is halts
settled_fault knows T count arrived place first h new faults.NoMemory begun said now below so_far is halts = tt
settled_fault knows T count arrived place first h new faults.Internal begun said now below so_far is halts = tt

pub settled_not : {P : Type 0} (knows : Knowing P) (T : Type 0) (count arrived place : ℕ) (first h new : Held P) (mail : List Letter) (waits : Option ℕ) (result : Result T EventFault) (fault : EventFault) (begun said now : List ClusterLine) → arrived < count
    → Settled knows count (count - arrived) first begun h said → mail ≡ h.mail → waits ≡ first_waiting h.mail → waits ≡ Some place → Does knows (counted (delivers place Nothing)) result (record h { mail = mail }) new said now → result ≡ Err fault
    → Does {T = T} knows (settles count) (Err fault) first new begun now
settled_not knows T count arrived place first h new mail waits result fault begun said now below so_far same waits_is is does err =
    settled_fault knows T count arrived place first h new fault begun said now below so_far (sym waits_is ∙ is)
    (subst (λ (all : List Letter). Does {T = T} knows (counted (delivers place Nothing)) (Err fault) (record h { mail = all }) new said now) same
    (subst (λ (r : Result T EventFault). Does knows (counted (delivers place Nothing)) r (record h { mail = mail }) new said now) err does))

pub settled_none : {P : Type 0} (knows : Knowing P) (count left : ℕ) (first h : Held P) (mail : List Letter) (waits : Option ℕ) (begun said : List ClusterLine) → Settled knows count left first begun h said → mail ≡ h.mail → waits ≡ first_waiting h.mail → waits ≡ None
    → Leads knows (settles count) first (record h { mail = mail }) begun said
settled_none knows count left first h mail waits begun said so_far same waits_is is =
    subst (λ (all : List Letter). Leads knows (settles count) first (record h { mail = all }) begun said) (sym same) (so_far None h said (settles_all knows left h said (sym waits_is ∙ is)))

pub settled_whole : {P : Type 0} (knows : Knowing P) (count arrived : ℕ) (first h : Held P) (begun said : List ClusterLine) → count ≤ arrived → Settled knows count (count - arrived) first begun h said → Leads knows (settles count) first h begun said
settled_whole knows count arrived first h begun said past so_far =
    let none : count - arrived ≡ 0 = omega (arith, past) in
    so_far None h said (subst (λ (n : ℕ). Leads knows (settles n) h h said said) (sym none) (quiet_does knows (settles 0) h said (λ earlier later. refl)))

-- ---- one node after another

abbrev pub Started : {P : Type 0} → Knowing P → ℕ → ℕ → ℕ → Held P → List ClusterLine → Held P → List ClusterLine → Type 0
Started {P = P} knows count left n first begun h said = (fault : Option Halt) (new : Held P) (now : List ClusterLine) → DoesBy knows (all_start left n) fault h new said now → DoesBy knows (all_start count 1) fault first new begun now

pub started_more : {P T : Type 0} (knows : Knowing P) (count index : ℕ) (first h mid : Held P) (result : Result T EventFault) (x : T) (begun said between : List ClusterLine) → index < count → Started knows count (count - index) (index + 1) first begun h said
    → Does knows (starts (index + 1) Nothing) result h mid said between → result ≡ Ok x → Started knows count (count - (index + 1)) ((index + 1) + 1) first begun mid between
started_more {T = T} knows count index first h mid result x begun said between below so_far does ok fault new now rest =
    let left : count - index ≡ suc (count - (index + 1)) = omega (arith, below) in
    let next : (index + 1) + 1 ≡ suc (index + 1) = omega arith in
    so_far fault new now
    (subst (λ (n : ℕ). DoesBy knows (all_start n (index + 1)) fault h new said now) (sym left)
    (starts_more knows (count - (index + 1)) (index + 1) h mid new said between now fault (subst (λ (r : Result T EventFault). Does knows (starts (index + 1) Nothing) r h mid said between) ok does)
    (subst (λ (n : ℕ). DoesBy knows (all_start (count - (index + 1)) n) fault mid new between now) next rest)))

started_halts : {P : Type 0} (knows : Knowing P) (count index : ℕ) (first h new : Held P) (why : Halt) (begun said now : List ClusterLine) → index < count → Started knows count (count - index) (index + 1) first begun h said → Halts knows (starts (index + 1) Nothing) why h new said now
    → Halts knows (all_start count 1) why first new begun now
started_halts knows count index first h new why begun said now below so_far halts =
    let left : count - index ≡ suc (count - (index + 1)) = omega (arith, below) in
    so_far (Some why) new now
    (subst (λ (n : ℕ). Halts knows (all_start n (index + 1)) why h new said now) (sym left) (then_halts knows (starts (index + 1) Nothing) (all_start (count - (index + 1)) (suc (index + 1))) why h new said now halts))

started_fault : {P : Type 0} (knows : Knowing P) (T : Type 0) (count index : ℕ) (first h new : Held P) (fault : EventFault) (begun said now : List ClusterLine) → index < count → Started knows count (count - index) (index + 1) first begun h said
    → Does {T = T} knows (starts (index + 1) Nothing) (Err fault) h new said now → Does {T = T} knows (all_start count 1) (Err fault) first new begun now
started_fault knows T count index first h new faults.NotThere begun said now below so_far halts = started_halts knows count index first h new NotThere begun said now below so_far halts
started_fault knows T count index first h new faults.TooMany begun said now below so_far halts = started_halts knows count index first h new TooMany begun said now below so_far halts
started_fault knows T count index first h new faults.NoMemory begun said now below so_far halts = tt
started_fault knows T count index first h new faults.Internal begun said now below so_far halts = tt

pub started_not : {P : Type 0} (knows : Knowing P) (T : Type 0) (count index : ℕ) (first h new : Held P) (result : Result T EventFault) (fault : EventFault) (begun said now : List ClusterLine) → index < count → Started knows count (count - index) (index + 1) first begun h said
    → Does knows (starts (index + 1) Nothing) result h new said now → result ≡ Err fault → Does {T = T} knows (all_start count 1) (Err fault) first new begun now
started_not knows T count index first h new result fault begun said now below so_far does err =
    started_fault knows T count index first h new fault begun said now below so_far (subst (λ (r : Result T EventFault). Does knows (starts (index + 1) Nothing) r h new said now) err does)

pub started_whole : {P : Type 0} (knows : Knowing P) (count index : ℕ) (first h : Held P) (begun said : List ClusterLine) → count ≤ index → Started knows count (count - index) (index + 1) first begun h said → Leads knows (all_start count 1) first h begun said
started_whole knows count index first h begun said past so_far =
    let none : count - index ≡ 0 = omega (arith, past) in
    so_far None h said (subst (λ (n : ℕ). Leads knows (all_start n (index + 1)) h h said said) (sym none) (quiet_does knows (all_start 0 (index + 1)) h said (λ earlier later. refl)))
