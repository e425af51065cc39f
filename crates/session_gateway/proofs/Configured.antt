-- What ADD, ASSIGN and REMOVE make of servers that may stand together may stand together.
use Rattle.std.proofs.Common.{◌≡◌, ◌≢◌, ℕ, suc, ◌+◌, ◌<◌, ◌≤◌, Bool, true, false, true≢false, cond, not, ◌&&◌, ◌||◌, List, [], ◌∷◌, length, map, refl, sym, ap, subst, ◌∙◌, arith}
use Rattle.std.specs.Prelude.{◌==◌, nat_lt, nat_le}
use Rattle.std.specs.List.{AllByRecursion, filter}
use Rattle.std.proofs.lemmas.Bool.{eqb-true, eqb-false, ltb-true, ltb-false, leb-false}
use Rattle.dq_base.specs.Names.{has_nul}
use Rattle.wire_words.specs.declared.value.Value.{Value}
use Rattle.wire_msgs.specs.declared.request.Request.{Request}
use Rattle.wire_msgs.specs.declared.request.Request.TheVariants as requests
use Rattle.raft_spec.specs.Node.{Server, among, voters}
use Rattle.raft_messages.specs.Servers.{Ascend, IsServer, IsConfiguration, votes_as}
use Rattle.raft_messages.proofs.ServerLaws.{voters_cons}
use Rattle.session_spec.specs.Asking as asking
use Rattle.session_spec.specs.Asking.{Asked, Never, Changes, fits_one_voter, asked_unless_lost, asked_by, is_barred_node, is_promotion, is_taken}
use Rattle.session_spec.specs.Limits.{change_in_flight, one_too_many, log_full}
use Rattle.session_spec.specs.Machine.{Machine, is_named}
use Rattle.session_spec.specs.Servers.{has_server, has_address, is_spare, with_server, with_role, without_server}
use Rattle.session_spec.specs.Sessions.{Session, Gateway, View}
use Rattle.session_spec.specs.Allowed.{IsAllowed}
use Rattle.session_spec.proofs.Asked.{all_allowed}
use Rattle.session_spec.proofs.Losing.{asked_both}
use Rattle.session_requests.specs.declared.wanted.RequestPlan.{RequestPlan}
use Rattle.session_requests.specs.declared.wanted.RequestPlan.TheVariants as wanted
use Rattle.session_requests.specs.Meant.{meant}
use Rattle.session_gateway.specs.Calls.{AddressHasNoNul, MayConfigure}

or_parts : (x y : Bool) → (x || y) ≡ false → (x ≡ false) × (y ≡ false)
or_parts true y e = absurd (true≢false e)
or_parts false y e = (refl, e)

-- ---- a node joins

module _ (new : Server) where
  joined_ascends : (last : ℕ) (ss : List Server) → last < new.id → has_server ss new.id ≡ false → Ascend last ss → Ascend last (with_server new ss)
  joined_ascends last [] low none a = (low, tt)
  joined_ascends last (s ∷ ss) low none a =
      let other : ((s.id == new.id) ≡ false) × (has_server ss new.id ≡ false) = or_parts (s.id == new.id) (has_server ss new.id) none in
      by (nat_lt new.id s.id) refl other.0 (λ above. joined_ascends s.id ss above other.1 a.1)
    where
      by : (b : Bool) → nat_lt new.id s.id ≡ b → (s.id == new.id) ≡ false → (s.id < new.id → Ascend s.id (with_server new ss)) → Ascend last (cond b (new ∷ s ∷ ss) (s ∷ with_server new ss))
      by true is other rest = (low, (ltb-true new.id s.id is, a.1))
      by false is other rest =
          let above : s.id ≤ new.id = ltb-false new.id s.id is in
          let apart : s.id ≢ new.id = eqb-false s.id new.id other in
          (a.0, rest (omega (arith, above, apart)))

  joined_each : (P : Server → Type 0) (ss : List Server) → P new → AllByRecursion P ss → AllByRecursion P (with_server new ss)
  joined_each P [] p each = (p, tt)
  joined_each P (s ∷ ss) p each = by (nat_lt new.id s.id) (joined_each P ss p each.1)
    where
      by : (b : Bool) → AllByRecursion P (with_server new ss) → AllByRecursion P (cond b (new ∷ s ∷ ss) (s ∷ with_server new ss))
      by true rest = (p, each)
      by false rest = (each.0, rest)

  joined_length : (ss : List Server) → length (with_server new ss) ≡ suc (length ss)
  joined_length [] = refl
  joined_length (s ∷ ss) = by (nat_lt new.id s.id) (joined_length ss)
    where
      by : (b : Bool) → length (with_server new ss) ≡ suc (length ss) → length (cond b (new ∷ s ∷ ss) (s ∷ with_server new ss)) ≡ suc (suc (length ss))
      by true rest = refl
      by false rest = ap suc rest

  -- as it doesn't vote
  unvoted : (n : ℕ) → (new.role == 0) ≡ false → votes_as (new.role == 0) + n ≡ n
  unvoted n spare = ap (λ (b : Bool). votes_as b + n) spare ∙ omega arith

  joined_voters : (ss : List Server) → (new.role == 0) ≡ false → length (voters (with_server new ss)) ≡ length (voters ss)
  joined_voters [] spare = voters_cons new [] ∙ unvoted (length (voters [])) spare
  joined_voters (s ∷ ss) spare = by (nat_lt new.id s.id) (joined_voters ss spare)
    where
      by : (b : Bool) → length (voters (with_server new ss)) ≡ length (voters ss) → length (voters (cond b (new ∷ s ∷ ss) (s ∷ with_server new ss))) ≡ length (voters (s ∷ ss))
      by true rest = voters_cons new (s ∷ ss) ∙ unvoted (length (voters (s ∷ ss))) spare
      by false rest = voters_cons s (with_server new ss) ∙ ap (λ (n : ℕ). votes_as (s.role == 0) + n) rest ∙ sym (voters_cons s ss)

  pub joined : (ss : List Server) → IsConfiguration ss → IsServer new → 0 < new.id → has_server ss new.id ≡ false → length ss < 9 → (new.role == 0) ≡ false → IsConfiguration (with_server new ss)
  joined ss c server low none few spare = record {
    ascend = joined_ascends 0 ss low none c.ascend;
    each = joined_each IsServer ss server c.each;
    few = subst (λ (n : ℕ). n ≤ 9) (sym (joined_length ss)) (omega (arith, few));
    few_voters = subst (λ (n : ℕ). n ≤ 7) (sym (joined_voters ss spare)) c.few_voters;
  }

-- ---- a server leaves

lower : (low last : ℕ) (ss : List Server) → low ≤ last → Ascend last ss → Ascend low ss
lower low last [] le a = tt
lower low last (s ∷ ss) le a = (omega (arith, le, a.0), a.1)

module _ (id : ℕ) where
  left_ascends : (last : ℕ) (ss : List Server) → Ascend last ss → Ascend last (without_server id ss)
  left_ascends last [] a = tt
  left_ascends last (s ∷ ss) a =
      let at : last ≤ s.id = omega (arith, a.0) in
      by (not (s.id == id)) (left_ascends s.id ss a.1) (left_ascends last ss (lower last s.id ss at a.1))
    where
      by : (b : Bool) → Ascend s.id (without_server id ss) → Ascend last (without_server id ss) → Ascend last (cond b (s ∷ without_server id ss) (without_server id ss))
      by true kept gone = (a.0, kept)
      by false kept gone = gone

  left_each : (P : Server → Type 0) (ss : List Server) → AllByRecursion P ss → AllByRecursion P (without_server id ss)
  left_each P [] each = tt
  left_each P (s ∷ ss) each = by (not (s.id == id)) (left_each P ss each.1)
    where
      by : (b : Bool) → AllByRecursion P (without_server id ss) → AllByRecursion P (cond b (s ∷ without_server id ss) (without_server id ss))
      by true rest = (each.0, rest)
      by false rest = rest

  left_length : (ss : List Server) → length (without_server id ss) ≤ length ss
  left_length [] = omega arith
  left_length (s ∷ ss) = by (not (s.id == id)) (left_length ss)
    where
      by : (b : Bool) → length (without_server id ss) ≤ length ss → length (cond b (s ∷ without_server id ss) (without_server id ss)) ≤ suc (length ss)
      by true rest = omega (arith, rest)
      by false rest = omega (arith, rest)

  left_voters : (ss : List Server) → length (voters (without_server id ss)) ≤ length (voters ss)
  left_voters [] = omega arith
  left_voters (s ∷ ss) = subst (λ (n : ℕ). length (voters (without_server id (s ∷ ss))) ≤ n) (sym (voters_cons s ss)) (by (not (s.id == id)) (left_voters ss))
    where
      by : (b : Bool) → length (voters (without_server id ss)) ≤ length (voters ss) → length (voters (cond b (s ∷ without_server id ss) (without_server id ss))) ≤ votes_as (s.role == 0) + length (voters ss)
      by true rest = subst (λ (n : ℕ). n ≤ votes_as (s.role == 0) + length (voters ss)) (sym (voters_cons s (without_server id ss))) (omega (arith, rest))
      by false rest = omega (arith, rest)

  pub left : (ss : List Server) → IsConfiguration ss → IsConfiguration (without_server id ss)
  left ss c = record {
    ascend = left_ascends 0 ss c.ascend;
    each = left_each IsServer ss c.each;
    few = let fewer : length (without_server id ss) ≤ length ss = left_length ss in let few : length ss ≤ 9 = c.few in omega (arith, fewer, few);
    few_voters = let fewer : length (voters (without_server id ss)) ≤ length (voters ss) = left_voters ss in let few : length (voters ss) ≤ 7 = c.few_voters in omega (arith, fewer, few);
  }

-- ---- a server gets another role

module _ (id role : ℕ) where
  same_id : (s : Server) (b : Bool) → (cond b (record { id = s.id; address = s.address; role = role }) s).id ≡ s.id
  same_id s true = refl
  same_id s false = refl

  turned_ascends : (last : ℕ) (ss : List Server) → Ascend last ss → Ascend last (with_role id role ss)
  turned_ascends last [] a = tt
  turned_ascends last (s ∷ ss) a =
      (subst (λ (n : ℕ). last < n) (sym (same_id s (s.id == id))) a.0, subst (λ (n : ℕ). Ascend n (with_role id role ss)) (sym (same_id s (s.id == id))) (turned_ascends s.id ss a.1))

  turned_each : (ss : List Server) → role ≤ 2 → AllByRecursion IsServer ss → AllByRecursion IsServer (with_role id role ss)
  turned_each [] low each = tt
  turned_each (s ∷ ss) low each = (by (s.id == id), turned_each ss low each.1)
    where
      by : (b : Bool) → IsServer (cond b (record { id = s.id; address = s.address; role = role }) s)
      by true = (low, each.0.1, each.0.2)
      by false = each.0

  turned_length : (ss : List Server) → length (with_role id role ss) ≡ length ss
  turned_length [] = refl
  turned_length (s ∷ ss) = ap suc (turned_length ss)

  -- after the server of the id none has it
  none_behind : (last : ℕ) (ss : List Server) → id ≤ last → Ascend last ss → with_role id role ss ≡ ss
  none_behind last [] le a = refl
  none_behind last (s ∷ ss) le a =
      let le_here : id ≤ s.id = omega (arith, le, a.0) in
      by (s.id == id) refl (none_behind s.id ss le_here a.1)
    where
      by : (b : Bool) → (s.id == id) ≡ b → with_role id role ss ≡ ss → (cond b (record { id = s.id; address = s.address; role = role }) s ∷ with_role id role ss) ≡ s ∷ ss
      by true is rest = let same : s.id ≡ id = eqb-true s.id id is in absurd (omega (arith, le, a.0, same))
      by false is rest = ap (λ (these : List Server). s ∷ these) rest

  -- at most one votes more
  one_more : (last : ℕ) (ss : List Server) → Ascend last ss → length (voters (with_role id role ss)) ≤ suc (length (voters ss))
  one_more last [] a = omega arith
  one_more last (s ∷ ss) a = subst (λ (n : ℕ). length (voters (with_role id role (s ∷ ss))) ≤ suc n) (sym (voters_cons s ss)) (by (s.id == id) refl (one_more s.id ss a.1))
    where
      by : (b : Bool) → (s.id == id) ≡ b → length (voters (with_role id role ss)) ≤ suc (length (voters ss)) → length (voters (cond b (record { id = s.id; address = s.address; role = role }) s ∷ with_role id role ss)) ≤ suc (votes_as (s.role == 0) + length (voters ss))
      by true is more =
          let same : s.id ≡ id = eqb-true s.id id is in
          let rest : with_role id role ss ≡ ss = none_behind s.id ss (omega (arith, same)) a.1 in
          subst (λ (n : ℕ). n ≤ suc (votes_as (s.role == 0) + length (voters ss))) (sym (voters_cons (record { id = s.id; address = s.address; role = role }) (with_role id role ss)))
          (subst (λ (ts : List Server). votes_as (role == 0) + length (voters ts) ≤ suc (votes_as (s.role == 0) + length (voters ss))) (sym rest) (at_most_one (role == 0)))
        where
          at_most_one : (b : Bool) → votes_as b + length (voters ss) ≤ suc (votes_as (s.role == 0) + length (voters ss))
          at_most_one true = omega arith
          at_most_one false = omega arith
      by false is more =
          subst (λ (n : ℕ). n ≤ suc (votes_as (s.role == 0) + length (voters ss))) (sym (voters_cons s (with_role id role ss))) (omega (arith, more))

  -- one that isn't to vote makes no vote more
  none_more : (ss : List Server) → (role == 0) ≡ false → length (voters (with_role id role ss)) ≤ length (voters ss)
  none_more [] spare = omega arith
  none_more (s ∷ ss) spare = subst (λ (n : ℕ). length (voters (with_role id role (s ∷ ss))) ≤ n) (sym (voters_cons s ss)) (by (s.id == id) (none_more ss spare))
    where
      by : (b : Bool) → length (voters (with_role id role ss)) ≤ length (voters ss) → length (voters (cond b (record { id = s.id; address = s.address; role = role }) s ∷ with_role id role ss)) ≤ votes_as (s.role == 0) + length (voters ss)
      by true rest =
          subst (λ (n : ℕ). n ≤ votes_as (s.role == 0) + length (voters ss)) (sym (voters_cons (record { id = s.id; address = s.address; role = role }) (with_role id role ss) ∙ ap (λ (b : Bool). votes_as b + length (voters (with_role id role ss))) spare)) (omega (arith, rest))
      by false rest = subst (λ (n : ℕ). n ≤ votes_as (s.role == 0) + length (voters ss)) (sym (voters_cons s (with_role id role ss))) (omega (arith, rest))

  among_cons : (s : Server) (ss : List Server) → among (voters (s ∷ ss)) id ≡ (((s.role == 0) && (s.id == id)) || among (voters ss) id)
  unfolding voters
  among_cons s ss = by (s.role == 0)
    where
      by : (b : Bool) → among (map (λ (t : Server). t.id) (cond b (s ∷ filter (λ (t : Server). t.role == 0) ss) (filter (λ (t : Server). t.role == 0) ss))) id ≡ ((b && (s.id == id)) || among (map (λ (t : Server). t.id) (filter (λ (t : Server). t.role == 0) ss)) id)
      by true = refl
      by false = refl

  none_votes : (last : ℕ) (ss : List Server) → id ≤ last → Ascend last ss → among (voters ss) id ≡ false
  unfolding voters
  none_votes last [] le a = refl
  none_votes last (s ∷ ss) le a = among_cons s ss ∙ by (s.role == 0) (s.id == id) refl (none_votes s.id ss (omega (arith, le, a.0)) a.1)
    where
      by : (votes b : Bool) → (s.id == id) ≡ b → among (voters ss) id ≡ false → ((votes && b) || among (voters ss) id) ≡ false
      by votes true is rest = let same : s.id ≡ id = eqb-true s.id id is in absurd (omega (arith, le, a.0, same))
      by true false is rest = rest
      by false false is rest = rest

  -- one that votes already stays as it is
  already : (last : ℕ) (ss : List Server) → Ascend last ss → (role == 0) ≡ true → among (voters ss) id ≡ true → with_role id role ss ≡ ss
  already last [] a votes is = refl
  already last (s ∷ ss) a votes is = by (s.id == id) refl (s.role == 0) refl (sym (among_cons s ss) ∙ is) (already s.id ss a.1 votes)
    where
      by : (here : Bool) → (s.id == id) ≡ here → (its : Bool) → (s.role == 0) ≡ its → ((its && here) || among (voters ss) id) ≡ true → (among (voters ss) id ≡ true → with_role id role ss ≡ ss) → (cond here (record { id = s.id; address = s.address; role = role }) s ∷ with_role id role ss) ≡ s ∷ ss
      by true at true zero among_so others =
          let rest : with_role id role ss ≡ ss = none_behind s.id ss (let same : s.id ≡ id = eqb-true s.id id at in omega (arith, same)) a.1 in
          let same_role : role ≡ s.role = eqb-true role 0 votes ∙ sym (eqb-true s.role 0 zero) in
          (λ i. record { id = s.id; address = s.address; role = same_role i } ∷ rest i)
      by true at false zero among_so others =
          let none : among (voters ss) id ≡ false = none_votes s.id ss (let same : s.id ≡ id = eqb-true s.id id at in omega (arith, same)) a.1 in
          absurd (true≢false (sym among_so ∙ none))
      by false at true zero among_so others = ap (λ (rest : List Server). s ∷ rest) (others among_so)
      by false at false zero among_so others = ap (λ (rest : List Server). s ∷ rest) (others among_so)

  turned_voters : (ss : List Server) → IsConfiguration ss → is_promotion ss id role && nat_le 7 (length (voters ss)) ≡ false → length (voters (with_role id role ss)) ≤ 7
  turned_voters ss c room = by (role == 0) refl (among (voters ss) id) refl room
    where
      by : (zero : Bool) → (role == 0) ≡ zero → (votes : Bool) → among (voters ss) id ≡ votes → ((zero && not votes) && nat_le 7 (length (voters ss))) ≡ false → length (voters (with_role id role ss)) ≤ 7
      by true zero true votes fits = subst (λ (ts : List Server). length (voters ts) ≤ 7) (sym (already 0 ss c.ascend zero votes)) c.few_voters
      by true zero false votes fits =
          let few : length (voters ss) < 7 = leb-false 7 (length (voters ss)) fits in
          let more : length (voters (with_role id role ss)) ≤ suc (length (voters ss)) = one_more 0 ss c.ascend in
          omega (arith, few, more)
      by false zero votes is fits =
          let few : length (voters ss) ≤ 7 = c.few_voters in
          let none : length (voters (with_role id role ss)) ≤ length (voters ss) = none_more ss zero in
          omega (arith, few, none)

  pub turned : (ss : List Server) → IsConfiguration ss → role ≤ 2 → is_promotion ss id role && nat_le 7 (length (voters ss)) ≡ false → IsConfiguration (with_role id role ss)
  turned ss c low room = record {
    ascend = turned_ascends 0 ss c.ascend;
    each = turned_each ss low c.each;
    few = subst (λ (n : ℕ). n ≤ 9) (sym (turned_length ss)) c.few;
    few_voters = turned_voters ss c room;
  }

-- ---- requests

-- servers that are asked for may stand together
abbrev May : Asked → Type 0
May (Changes servers short) = IsConfiguration servers
May asked = Unit {0}

if_may : (b : Bool) (x y : Asked) → (b ≡ true → May x) → (b ≡ false → May y) → May (cond b x y)
if_may true x y f g = f refl
if_may false x y f g = g refl

module _ (v : View) (g : Gateway) (c : IsConfiguration v.servers) where
  at_leader_may : (asked : Asked) → May asked → May (asking.at_leader v asked)
  at_leader_may asked m = if_may v.serving asked (Never _) (λ e. m) (λ e. tt)

  settled_may : (asked : Asked) → May asked → May (asking.if_settled g asked)
  settled_may asked m = if_may (change_in_flight g) (Never _) asked (λ e. tt) (λ e. m)

  add_may : (id : ℕ) (address : List ℕ) → has_nul address ≡ false → May (asking.asks_add v.servers id address)
  add_may id address text =
      if_may (is_barred_node v.servers id address) (Never _) (Changes (with_server (record { id = id; address = address; role = 2 }) v.servers) false) (λ e. tt) (λ e. by e)
    where
      by : is_barred_node v.servers id address ≡ false → IsConfiguration (with_server (record { id = id; address = address; role = 2 }) v.servers)
      by e =
          let front = or_parts ((id == 0) || nat_lt 9 id || is_taken v.servers id address || nat_lt 255 (length address)) (nat_le 9 (length v.servers)) e in
          let address_part = or_parts ((id == 0) || nat_lt 9 id || is_taken v.servers id address) (nat_lt 255 (length address)) front.0 in
          let server_part = or_parts ((id == 0) || nat_lt 9 id) (is_taken v.servers id address) address_part.0 in
          let free = or_parts (has_server v.servers id) (has_address v.servers address) server_part.1 in
          let id_part = or_parts (id == 0) (nat_lt 9 id) server_part.0 in
          let some : id ≢ 0 = eqb-false id 0 id_part.0 in
          let few : length v.servers < 9 = leb-false 9 (length v.servers) front.1 in
          let short : length address ≤ 255 = ltb-false 255 (length address) address_part.1 in
          joined (record { id = id; address = address; role = 2 }) v.servers c (omega arith, text, short) (omega (arith, some)) free.0 few refl

  of_other_may : (id : ℕ) (asked : Asked) → May asked → May (asking.of_other v id asked)
  of_other_may id asked m = if_may (id == v.id) (Never _) asked (λ e. tt) (λ e. m)

  catch_up_may : (id : ℕ) → May (asking.asks_to_catch_up v id)
  catch_up_may id =
      if_may (is_spare v.servers id) (Changes (with_role id 1 v.servers) true) (Never _) (λ e. turned id 1 v.servers c (omega arith) refl) (λ e. tt)

  role_may : (id role : ℕ) → role ≤ 2 → May (asking.asks_role v id role)
  role_may id role low =
      if_may (is_promotion v.servers id role && nat_le 7 (length (voters v.servers))) (Never _) _ (λ e. tt)
      (λ room. if_may (is_promotion v.servers id role && not (among v.near id)) (asking.asks_to_catch_up v id) (Changes (with_role id role v.servers) false) (λ e. catch_up_may id) (λ e. turned id role v.servers c low room))

  assign_may : (id role : ℕ) → May (asking.asks_assign v id role)
  assign_may id role =
      if_may (not (has_server v.servers id)) (Never _) _ (λ e. tt)
      (λ e. if_may (nat_lt 2 role) (Never _) (asking.of_other v id (asking.asks_role v id role)) (λ high. tt) (λ low. of_other_may id (asking.asks_role v id role) (role_may id role (ltb-false 2 role low))))

  remove_may : (id : ℕ) → May (asking.asks_remove v id)
  remove_may id = if_may (has_server v.servers id) (asking.of_other v id (Changes (without_server id v.servers) false)) (Never _) (λ e. of_other_may id (Changes (without_server id v.servers) false) (left id v.servers c)) (λ e. tt)

module _ (v : View) (m : Machine) (g : Gateway) (conn : ℕ) (s : Session) (c : IsConfiguration v.servers) where
  open_may : (name : List ℕ) (barriers : Bool) → May (asking.asks_open v m g s name barriers)
  open_may name barriers =
      if_may (asking.has_database s) (Never _) _ (λ e. tt)
      (λ e. if_may (not (asking.is_name name)) (Never _) _ (λ e. tt)
      (λ e. if_may (is_named m.names name) (asking.Opens name barriers) (asking.asks_new v m g name barriers) (λ e. tt)
      (λ e. if_may (one_too_many m g name) (Never _) _ (λ e. tt) (λ e. if_may (log_full v) (Never _) (asking.Creates name barriers) (λ e. tt) (λ e. tt)))))

  -- requests of one voter ask for no servers
  plain_may : (request : Request) (asked : Asked) → fits_one_voter request ≡ true → IsAllowed v g s request asked → May asked
  plain_may request (Never cause) fits is = tt
  plain_may request (asking.Tells response) fits is = tt
  plain_may request (asking.Sets effect) fits is = tt
  plain_may request (asking.Opens name barriers) fits is = tt
  plain_may request (asking.Creates name barriers) fits is = tt
  plain_may request (asking.Prepares prepared tail) fits is = tt
  plain_may request (asking.Drops id) fits is = tt
  plain_may request (asking.Forgets response) fits is = tt
  plain_may request (asking.Begins at_once) fits is = tt
  plain_may request asking.Commits fits is = tt
  plain_may request asking.RollsBack fits is = tt
  plain_may request (Changes servers short) fits is = absurd (true≢false (sym fits ∙ is.2))
  plain_may request (asking.Runs statements) fits is = tt
  plain_may request (asking.Reads statement) fits is = tt

  by_law : (request : Request) → fits_one_voter request ≡ true → May (asked_by v m g conn s request)
  by_law request fits = plain_may request (asked_by v m g conn s request) fits (all_allowed v m g conn s request)

  open_unlost : (name vfs : List ℕ) (flags : ℕ) → May (asked_unless_lost v m g conn s (requests.Open name flags vfs))
  unfolding asked_unless_lost
  open_unlost name vfs flags = at_leader_may v g c (asking.asks_open v m g s name (asking.barriers_asked flags)) (open_may name (asking.barriers_asked flags))

  open_asked : (name vfs : List ℕ) (flags : ℕ) → May (asked_by v m g conn s (requests.Open name flags vfs))
  open_asked name vfs flags = asked_both May v m g conn s (requests.Open name flags vfs) tt (λ response ends. tt) (open_unlost name vfs flags)

  add_unlost : (id : ℕ) (address : List ℕ) → has_nul address ≡ false → May (asked_unless_lost v m g conn s (requests.Add id address))
  unfolding asked_unless_lost
  add_unlost id address text = at_leader_may v g c (asking.if_settled g (asking.asks_add v.servers id address)) (settled_may v g c (asking.asks_add v.servers id address) (add_may v g c id address text))

  add_asked : (id : ℕ) (address : List ℕ) → has_nul address ≡ false → May (asked_by v m g conn s (requests.Add id address))
  add_asked id address text = asked_both May v m g conn s (requests.Add id address) tt (λ response ends. tt) (add_unlost id address text)

  assign_unlost : (id role : ℕ) → May (asked_unless_lost v m g conn s (requests.Assign id role))
  unfolding asked_unless_lost
  assign_unlost id role = at_leader_may v g c (asking.if_settled g (asking.asks_assign v id role)) (settled_may v g c (asking.asks_assign v id role) (assign_may v g c id role))

  assign_asked : (id role : ℕ) → May (asked_by v m g conn s (requests.Assign id role))
  assign_asked id role = asked_both May v m g conn s (requests.Assign id role) tt (λ response ends. tt) (assign_unlost id role)

  remove_unlost : (id : ℕ) → May (asked_unless_lost v m g conn s (requests.Remove id))
  unfolding asked_unless_lost
  remove_unlost id = at_leader_may v g c (asking.if_settled g (asking.asks_remove v id)) (settled_may v g c (asking.asks_remove v id) (remove_may v g c id))

  remove_asked : (id : ℕ) → May (asked_by v m g conn s (requests.Remove id))
  remove_asked id = asked_both May v m g conn s (requests.Remove id) tt (λ response ends. tt) (remove_unlost id)

  all_may : (request : Request) → AddressHasNoNul request → May (asked_by v m g conn s request)
  unfolding fits_one_voter
  all_may requests.Leader h = by_law requests.Leader refl
  all_may (requests.Client id) h = by_law (requests.Client id) refl
  all_may (requests.Open name flags vfs) h = open_asked name vfs flags
  all_may (requests.Prepare db sql wide) h = by_law (requests.Prepare db sql wide) refl
  all_may (requests.Exec db id params wide) h = by_law (requests.Exec db id params wide) refl
  all_may (requests.Query db id params wide) h = by_law (requests.Query db id params wide) refl
  all_may (requests.Finalize db id) h = by_law (requests.Finalize db id) refl
  all_may (requests.ExecSql db sql params wide) h = by_law (requests.ExecSql db sql params wide) refl
  all_may (requests.QuerySql db sql params wide) h = by_law (requests.QuerySql db sql params wide) refl
  all_may (requests.Interrupt db) h = by_law (requests.Interrupt db) refl
  all_may (requests.Connect id address) h = by_law (requests.Connect id address) refl
  all_may (requests.Add id address) h = add_asked id address h
  all_may (requests.Assign id role) h = assign_asked id role
  all_may (requests.Remove id) h = remove_asked id
  all_may (requests.Dump name) h = by_law (requests.Dump name) refl
  all_may (requests.Cluster format) h = by_law (requests.Cluster format) refl
  all_may (requests.Transfer id) h = by_law (requests.Transfer id) refl
  all_may (requests.Describe format) h = by_law (requests.Describe format) refl
  all_may (requests.Weight weight) h = by_law (requests.Weight weight) refl

-- so are those that are wanted
pub configured : (v : View) (m : Machine) (g : Gateway) (conn : ℕ) (s : Session) (request : Request) (params : List Value) (w : RequestPlan) → IsConfiguration v.servers → AddressHasNoNul request → meant params w ≡ asked_by v m g conn s request → MayConfigure w
configured v m g conn s request params (wanted.Changes servers short) c text is = subst May (sym is) (all_may v m g conn s c request text)
configured v m g conn s request params (wanted.Never cause) c text is = tt
configured v m g conn s request params (wanted.Tells response) c text is = tt
configured v m g conn s request params (wanted.Sets effect) c text is = tt
configured v m g conn s request params (wanted.Opens name barriers) c text is = tt
configured v m g conn s request params (wanted.Creates name barriers) c text is = tt
configured v m g conn s request params (wanted.Prepares prepared tail) c text is = tt
configured v m g conn s request params (wanted.Drops id) c text is = tt
configured v m g conn s request params (wanted.Forgets response) c text is = tt
configured v m g conn s request params (wanted.Begins at_once) c text is = tt
configured v m g conn s request params wanted.Commits c text is = tt
configured v m g conn s request params wanted.RollsBack c text is = tt
configured v m g conn s request params (wanted.RunsOne prepared) c text is = tt
configured v m g conn s request params (wanted.RunsAll script) c text is = tt
configured v m g conn s request params (wanted.Reads prepared) c text is = tt
