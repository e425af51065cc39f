-- A configuration is read exactly if the bytes are its encoding.
use Rattle.std.proofs.Common.{◌≡◌, ℕ, zero, suc, ◌+◌, ◌<◌, ◌≤◌, ◌^◌, Bool, true, false, cond, ◌&&◌, ◌||◌, not, List, [], ◌∷◌, ◌++◌, length, take, map, Result, Ok, Err, refl, sym, ap, subst, ◌∙◌, append_assoc, arith}
use Rattle.std.specs.Prelude.{◌==◌, nat_lt, nat_le, IfOk}
use Rattle.std.specs.List.{AllByRecursion, filter}
use Rattle.std.proofs.lemmas.Bool.{ltb-true, lt-ltb, leb-true, le-leb}
use Rattle.std.proofs.lemmas.List.{append-nil, length-append, length_push, map-append, take_at}
use Rattle.std.proofs.lemmas.List.Elements.{filter-append}
use Rattle.raft_spec.specs.Node.{Server, voters}
use Rattle.wire_words.specs.declared.fault.WordFault.{WordFault}
use Rattle.wire_words.specs.Items.{word, text, AreBytes}
use Rattle.wire_words.specs.Reading.{◌>>=◌, Unread, unread, word_at, text_at}
use Rattle.wire_words.proofs.ReadBack.{bind_ok, passed}
use Rattle.raft_messages.specs.declared.servers_fault.ServersFault.{ServersFault}
use Rattle.raft_messages.specs.declared.servers_fault.ServersFault.TheVariants.{Order, Role, Limit}
use Rattle.raft_messages.specs.Servers.{Ascend, IsServer, IsConfiguration, server_bytes, each_bytes, servers_bytes, HoldsServer, WritesServers, in_servers, votes_as, last_from, has_room, joined, server_at, more_servers_at, servers_at, with_place, servers_of, GivesServers}
use Rattle.wire_words.proofs.Passing.{Passed, passed_none, pass_none, passed_both, between, passed_first, passed_second, bytes_after, word_passed, word_stood, text_passed, text_stood}

-- ---- results

abbrev done_servers : {A : Type 0} → A → Result A ServersFault
done_servers x = Ok x

servers_is : {A : Type 0} (x y : A) → done_servers x ≡ done_servers y → x ≡ y
servers_is x y e = cc

in_servers_ok : {A : Type 0} (r : Result A WordFault) (y : A) → in_servers r ≡ Ok y → r ≡ Ok y
in_servers_ok (Ok x) y e = let same : x ≡ y = cc in rw same refl
in_servers_ok (Err fault) y e = absurd cc

both_true : (a b : Bool) → (a && b) ≡ true → (a ≡ true) × (b ≡ true)
both_true true b e = (refl, e)
both_true false b e = absurd cc

-- ---- servers after others

pub last_from-push : (k : ℕ) (front : List Server) (s : Server) → last_from k (front ++ s ∷ []) ≡ s.id
last_from-push k [] s = refl
last_from-push k (x ∷ xs) s = last_from-push x.id xs s

voters-append : (a b : List Server) → voters (a ++ b) ≡ voters a ++ voters b
unfolding voters
voters-append a b =
    ap (map (λ (s : Server). s.id)) (filter-append (λ (s : Server). s.role == 0) a b) ∙ map-append (λ (s : Server). s.id) (filter (λ (s : Server). s.role == 0) a) (filter (λ (s : Server). s.role == 0) b)

one_filtered : (b : Bool) (s : Server) (rest : List Server) → length (map (λ (t : Server). t.id) (cond b (s ∷ rest) rest)) ≡ votes_as b + length (map (λ (t : Server). t.id) rest)
one_filtered true s rest = omega arith
one_filtered false s rest = omega arith

pub voters_cons : (s : Server) (ss : List Server) → length (voters (s ∷ ss)) ≡ votes_as (s.role == 0) + length (voters ss)
unfolding voters
voters_cons s ss = one_filtered (s.role == 0) s (filter (λ (t : Server). t.role == 0) ss)

no_voters : length (voters []) ≡ 0
unfolding voters
no_voters = refl

ascend_push : (k : ℕ) (before : List Server) (s : Server) → Ascend k before → last_from k before < s.id → Ascend k (before ++ s ∷ [])
ascend_push k [] s a lt = (lt, tt)
ascend_push k (x ∷ xs) s a lt = (a.0, ascend_push x.id xs s a.1 lt)

ascend_last : (k : ℕ) (before : List Server) (s : Server) (ss : List Server) → Ascend k (before ++ s ∷ ss) → last_from k before < s.id
ascend_last k [] s ss a = a.0
ascend_last k (x ∷ xs) s ss a = ascend_last x.id xs s ss a.1

each_push : (P : Server → Type 0) (before : List Server) (s : Server) → AllByRecursion P before → P s → AllByRecursion P (before ++ s ∷ [])
each_push P [] s a p = (p, tt)
each_push P (x ∷ xs) s a p = (a.0, each_push P xs s a.1 p)

each_at : (P : Server → Type 0) (before : List Server) (s : Server) (ss : List Server) → AllByRecursion P (before ++ s ∷ ss) → P s
each_at P [] s ss a = a.0
each_at P (x ∷ xs) s ss a = each_at P xs s ss a.1

-- what is asked of a server after these
record Joins (before : List Server) (s : Server) : Type 0 where
  pub above : last_from 0 before < s.id
  pub role : s.role ≤ 2
  pub few : length before < 9
  pub few_voters : s.role == 0 ≡ true → length (voters before) < 7
  pub short : length s.address ≤ 255

room_of : (n v : ℕ) (b : Bool) → (nat_lt n 9 && (not b || nat_lt v 7)) ≡ true → (n < 9) × (b ≡ true → v < 7)
room_of n v true e = let p = both_true (nat_lt n 9) (nat_lt v 7) e in (ltb-true n 9 p.0, λ _. ltb-true v 7 p.1)
room_of n v false e = let p = both_true (nat_lt n 9) true e in (ltb-true n 9 p.0, λ f. absurd cc)

room_is : (n v : ℕ) (b : Bool) → n < 9 → (b ≡ true → v < 7) → (nat_lt n 9 && (not b || nat_lt v 7)) ≡ true
room_is n v true lt few = let more : v < 7 = few refl in rw (lt-ltb n 9 lt, lt-ltb v 7 more) refl
room_is n v false lt few = rw (lt-ltb n 9 lt) refl

joined_is : (before : List Server) (at role_at : ℕ) (s t : Server) → joined before at role_at s ≡ Ok t → (s ≡ t) × Joins before s
joined_is before at role_at s t e =
    let a = passed (nat_lt (last_from 0 before) s.id) (Order at) (cond (nat_le s.role 2) (cond (has_room before s.role && nat_le (length s.address) 255) (Ok s) (Err (Limit at))) (Err (Role role_at))) t e in
    let b = passed (nat_le s.role 2) (Role role_at) (cond (has_room before s.role && nat_le (length s.address) 255) (Ok s) (Err (Limit at))) t a.1 in
    let c = passed (has_room before s.role && nat_le (length s.address) 255) (Limit at) (Ok s) t b.1 in
    let both = both_true (has_room before s.role) (nat_le (length s.address) 255) c.0 in
    let room = room_of (length before) (length (voters before)) (s.role == 0) both.0 in (
      servers_is s t c.1,
      record {
        above = ltb-true (last_from 0 before) s.id a.0;
        role = leb-true s.role 2 b.0;
        few = room.0;
        few_voters = room.1;
        short = leb-true (length s.address) 255 both.1;
      },
    )

joined_ok : (before : List Server) (at role_at : ℕ) (s : Server) → Joins before s → joined before at role_at s ≡ Ok s
joined_ok before at role_at s j =
    let room : has_room before s.role ≡ true = room_is (length before) (length (voters before)) (s.role == 0) j.few j.few_voters in
    rw (lt-ltb (last_from 0 before) s.id j.above, le-leb s.role 2 j.role, room, le-leb (length s.address) 255 j.short) refl

voters_push : (b : Bool) (n v m : ℕ) → n ≤ 7 → (b ≡ true → n < 7) → v ≡ n + (votes_as b + m) → m ≡ 0 → v ≤ 7
voters_push true n v m few more is none = let lt : n < 7 = more refl in omega (arith, lt, is, none)
voters_push false n v m few more is none = omega (arith, few, is, none)

configuration_push : (before : List Server) (s : Server) → IsConfiguration before → Joins before s → IsServer s → IsConfiguration (before ++ s ∷ [])
configuration_push before s is j one =
    let count : length (voters (before ++ s ∷ [])) ≡ length (voters before) + length (voters (s ∷ [])) = ap length (voters-append before (s ∷ [])) ∙ length-append (voters before) (voters (s ∷ [])) in
    let more : length (voters (before ++ s ∷ [])) ≡ length (voters before) + (votes_as (s.role == 0) + length (voters [])) = count ∙ ap (λ (n : ℕ). length (voters before) + n) (voters_cons s []) in
    record {
      ascend = ascend_push 0 before s is.ascend j.above;
      each = each_push IsServer before s is.each one;
      few = omega (arith, j.few, length_push before s);
      few_voters = voters_push (s.role == 0) (length (voters before)) (length (voters (before ++ s ∷ []))) (length (voters [])) is.few_voters j.few_voters more no_voters;
    }

voters_before : (b : Bool) (n v m : ℕ) → v ≤ 7 → v ≡ n + (votes_as b + m) → b ≡ true → n < 7
voters_before true n v m few is e = omega (arith, few, is)
voters_before false n v m few is e = absurd cc

joins_of : (before : List Server) (s : Server) (ss : List Server) → IsConfiguration (before ++ s ∷ ss) → Joins before s
joins_of before s ss is =
    let one = each_at IsServer before s ss is.each in
    let all : length (before ++ s ∷ ss) ≡ length before + suc (length ss) = length-append before (s ∷ ss) in
    let count : length (voters (before ++ s ∷ ss)) ≡ length (voters before) + length (voters (s ∷ ss)) = ap length (voters-append before (s ∷ ss)) ∙ length-append (voters before) (voters (s ∷ ss)) in
    let more : length (voters (before ++ s ∷ ss)) ≡ length (voters before) + (votes_as (s.role == 0) + length (voters ss)) = count ∙ ap (λ (n : ℕ). length (voters before) + n) (voters_cons s ss) in
    record {
      above = ascend_last 0 before s ss is.ascend;
      role = one.0;
      few = omega (arith, all, is.few);
      few_voters = voters_before (s.role == 0) (length (voters before)) (length (voters (before ++ s ∷ ss))) (length (voters ss)) is.few_voters more;
      short = one.2;
    }

-- ---- one server

abbrev server_of : ℕ → List ℕ → ℕ → Server
server_of id address role = record { id = id; address = address; role = role }

record PassedServer (before : List Server) (s : Server) (old new : Unread) : Type 0 where
  pub joins : Joins before s
  pub is : IsServer s
  pub holds : HoldsServer s
  pub passed : Passed (server_bytes s) old new

server_passed : (before : List Server) (old new : Unread) (s : Server) → AreBytes old.bytes → server_at before old ≡ Ok (s, new) → PassedServer before s old new
unfolding server_at
server_passed before old new s fits e =
    let a = bind_ok (in_servers (word_at old)) (λ id. in_servers (text_at id.1) >>= λ address. in_servers (word_at address.1) >>= λ role. joined before old.at address.1.at (server_of id.0 address.0 role.0) >>= λ server. Ok (server, role.1)) (s, new) e in
    let b = bind_ok (in_servers (text_at a.0.1)) (λ address. in_servers (word_at address.1) >>= λ role. joined before old.at address.1.at (server_of a.0.0 address.0 role.0) >>= λ server. Ok (server, role.1)) (s, new) a.2 in
    let c = bind_ok (in_servers (word_at b.0.1)) (λ role. joined before old.at b.0.1.at (server_of a.0.0 b.0.0 role.0) >>= λ server. Ok (server, role.1)) (s, new) b.2 in
    let d = bind_ok (joined before old.at b.0.1.at (server_of a.0.0 b.0.0 c.0.0)) (λ server. Ok (server, c.0.1)) (s, new) c.2 in
    let one = server_of a.0.0 b.0.0 c.0.0 in
    let is = joined_is before old.at b.0.1.at one d.0 d.1 in
    let made : Server × Unread = (d.0, c.0.1) in
    let same : made ≡ (s, new) = servers_is made (s, new) d.2 in
    let first = word_passed old a.0.1 a.0.0 fits (in_servers_ok (word_at old) a.0 a.1) in
    let fits1 = bytes_after (word a.0.0) old a.0.1 first.1 fits in
    let second = text_passed a.0.1 b.0.1 b.0.0 (in_servers_ok (text_at a.0.1) b.0 b.1) in
    let fits2 = bytes_after (text b.0.0) a.0.1 b.0.1 second.2 fits1 in
    let third = word_passed b.0.1 c.0.1 c.0.0 fits2 (in_servers_ok (word_at b.0.1) c.0 c.1) in
    let all = passed_both old a.0.1 c.0.1 (word a.0.0) (text b.0.0 ++ word c.0.0) first.1 (passed_both a.0.1 b.0.1 c.0.1 (text b.0.0) (word c.0.0) second.2 third.1) in
    let read : PassedServer before one old c.0.1 = record { joins = is.1; is = (is.1.role, second.1, is.1.short); holds = (first.0, second.0); passed = all } in
    subst (λ (x : Server × Unread). PassedServer before x.0 old x.1) same (subst (λ (t : Server). PassedServer before t old c.0.1) is.0 read)

server_stood : (before : List Server) (s : Server) (old new : Unread) → Joins before s → IsServer s → HoldsServer s → s.role < 2 ^ 64 → Passed (server_bytes s) old new → server_at before old ≡ Ok (s, new)
unfolding server_at
server_stood before s old new j is holds role p =
    let rest = text s.address ++ word s.role in
    let m1 = between old (word s.id) rest new in
    let q = passed_second old new (word s.id) rest p in
    let m2 = between m1 (text s.address) (word s.role) new in
    rw (
      word_stood old m1 s.id holds.0 (passed_first old new (word s.id) rest p),
      text_stood m1 m2 s.address holds.1 is.1 (passed_first m1 new (text s.address) (word s.role) q),
      word_stood m2 new s.role role (passed_second m1 new (text s.address) (word s.role) q),
      joined_ok before old.at m2.at s j,
    ) refl

-- ---- this many servers after others

record PassedMore (before after : List Server) (count : ℕ) (old new : Unread) : Type 0 where
  pub behind : List Server
  pub parts : after ≡ before ++ behind
  pub many : length behind ≡ count
  pub is : IsConfiguration after
  pub holds : AllByRecursion HoldsServer behind
  pub passed : Passed (each_bytes behind) old new

more_passed : (before : List Server) (count : ℕ) (old new : Unread) (after : List Server) → AreBytes old.bytes → IsConfiguration before → more_servers_at before count old ≡ Ok (after, new) → PassedMore before after count old new
unfolding more_servers_at
more_passed before zero old new after fits is e =
    let made : List Server × Unread = (before, old) in
    subst (λ (x : List Server × Unread). PassedMore before x.0 0 old x.1) (servers_is made (after, new) e)
    (record { behind = []; parts = sym (append-nil before); many = refl; is = is; holds = tt; passed = pass_none old })
more_passed before (suc count) old new after fits is e =
    let a = bind_ok (server_at before old) (λ next. more_servers_at (before ++ next.0 ∷ []) count next.1) (after, new) e in
    let s = a.0.0 in
    let p = server_passed before old a.0.1 s fits a.1 in
    let rest = more_passed (before ++ s ∷ []) count a.0.1 new after (bytes_after (server_bytes s) old a.0.1 p.passed fits) (configuration_push before s is p.joins p.is) a.2 in
    record {
      behind = s ∷ rest.behind;
      parts = rest.parts ∙ append_assoc before (s ∷ []) rest.behind;
      many = ap suc rest.many;
      is = rest.is;
      holds = (p.holds, rest.holds);
      passed = passed_both old a.0.1 new (server_bytes s) (each_bytes rest.behind) p.passed rest.passed;
    }

more_stood : (behind before : List Server) (old new : Unread) → IsConfiguration (before ++ behind) → AllByRecursion HoldsServer behind → Passed (each_bytes behind) old new → more_servers_at before (length behind) old ≡ Ok (before ++ behind, new)
unfolding more_servers_at
more_stood [] before old new is holds p = ap (λ (ss : List Server). Ok (ss, old)) (sym (append-nil before)) ∙ ap (λ (left : Unread). Ok (before ++ [], left)) (passed_none old new p)
more_stood (s ∷ ss) before old new is holds p =
    let mid = between old (server_bytes s) (each_bytes ss) new in
    let one = each_at IsServer before s ss is.each in
    let first = server_stood before s old mid (joins_of before s ss is) one holds.0 (omega (arith, one.0)) (passed_first old new (server_bytes s) (each_bytes ss) p) in
    let regroup : (before ++ s ∷ []) ++ ss ≡ before ++ s ∷ ss = append_assoc before (s ∷ []) ss in
    let others = more_stood ss (before ++ s ∷ []) mid new (subst IsConfiguration (sym regroup) is) holds.1 (passed_second old new (server_bytes s) (each_bytes ss) p) in
    rw first (others ∙ ap (λ (x : List Server). Ok (x, new)) regroup)

-- ---- a configuration

none_is : IsConfiguration []
none_is = record { ascend = tt; each = tt; few = omega arith; few_voters = omega (arith, no_voters) }

record PassedServers (servers : List Server) (old new : Unread) : Type 0 where
  pub is : IsConfiguration servers
  pub holds : AllByRecursion HoldsServer servers
  pub passed : Passed (servers_bytes servers) old new

servers_passed : (old new : Unread) (servers : List Server) → AreBytes old.bytes → servers_at old ≡ Ok (servers, new) → PassedServers servers old new
unfolding servers_at
servers_passed old new servers fits e =
    let a = bind_ok (in_servers (word_at old)) (λ count. more_servers_at [] count.0 count.1) (servers, new) e in
    let first = word_passed old a.0.1 a.0.0 fits (in_servers_ok (word_at old) a.0 a.1) in
    let m = more_passed [] a.0.0 a.0.1 new servers (bytes_after (word a.0.0) old a.0.1 first.1 fits) none_is a.2 in
    let same : m.behind ≡ servers = sym m.parts in
    let count : a.0.0 ≡ length servers = sym m.many ∙ ap length same in
    let number : Passed (word (length servers)) old a.0.1 = subst (λ (n : ℕ). Passed (word n) old a.0.1) count first.1 in
    let each : Passed (each_bytes servers) a.0.1 new = subst (λ (x : List Server). Passed (each_bytes x) a.0.1 new) same m.passed in
    record { is = m.is; holds = subst (AllByRecursion HoldsServer) same m.holds; passed = passed_both old a.0.1 new (word (length servers)) (each_bytes servers) number each }

servers_stood : (servers : List Server) (old new : Unread) → IsConfiguration servers → AllByRecursion HoldsServer servers → Passed (servers_bytes servers) old new → servers_at old ≡ Ok (servers, new)
unfolding servers_at
servers_stood servers old new is holds p =
    let mid = between old (word (length servers)) (each_bytes servers) new in
    let number = word_stood old mid (length servers) (omega (arith, is.few)) (passed_first old new (word (length servers)) (each_bytes servers) p) in
    rw number (more_stood servers [] mid new is holds (passed_second old new (word (length servers)) (each_bytes servers) p))

pub servers_found : (bytes : List ℕ) (servers : List Server) (place : ℕ) → AreBytes bytes → servers_of bytes ≡ Ok (servers, place) → WritesServers servers (take place bytes)
servers_found bytes servers place fits e =
    let a = bind_ok (servers_at (unread bytes)) with_place (servers, place) e in
    let made : List Server × ℕ = (a.0.0, a.0.1.at) in
    let p = servers_passed (unread bytes) a.0.1 a.0.0 fits a.1 in
    let after : a.0.1.at ≡ 0 + length (servers_bytes a.0.0) = p.passed.place in
    let size : length (servers_bytes a.0.0) ≡ a.0.1.at = omega (arith, after) in
    let front : take a.0.1.at bytes ≡ servers_bytes a.0.0 =
    ap (take a.0.1.at) p.passed.parts ∙ take_at (servers_bytes a.0.0) a.0.1.bytes a.0.1.at size in
    subst (λ (x : List Server × ℕ). WritesServers x.0 (take x.1 bytes)) (servers_is made (servers, place) a.2)
    (record { is = p.is; holds = p.holds; parts = front })

pub servers_read : (bytes : List ℕ) (servers : List Server) (spelled rest : List ℕ) → WritesServers servers spelled → bytes ≡ spelled ++ rest → servers_of bytes ≡ Ok (servers, length spelled)
servers_read bytes servers spelled rest w is =
    let left : Unread = record { at = 0 + length spelled; bytes = rest } in
    let p : Passed (servers_bytes servers) (unread bytes) left = record { parts = is ∙ ap (λ (x : List ℕ). x ++ rest) w.parts; place = ap (λ (x : List ℕ). 0 + length x) w.parts } in
    let size : 0 + length spelled ≡ length spelled = omega arith in
    rw (servers_stood servers (unread bytes) left w.is w.holds p) (ap (λ (n : ℕ). Ok (servers, n)) size)

pub is_found : (bytes : List ℕ) (result : Result (List Server × ℕ) ServersFault) → AreBytes bytes → GivesServers (λ x. x) (servers_of bytes) result → IfOk result (λ read. WritesServers read.0 (take read.1 bytes))
is_found bytes (Ok read) fits given = servers_found bytes read.0 read.1 fits given
is_found bytes (Err fault) fits given = tt

pub is_only : (bytes : List ℕ) (result : Result (List Server × ℕ) ServersFault) → GivesServers (λ x. x) (servers_of bytes) result
    → (servers : List Server) (spelled rest : List ℕ) → WritesServers servers spelled → bytes ≡ spelled ++ rest → GivesServers (λ x. x) (Ok (servers, length spelled)) result
is_only bytes result given servers spelled rest w is =
    subst (λ (reading : Result (List Server × ℕ) ServersFault). GivesServers (λ x. x) reading result) (servers_read bytes servers spelled rest w is) given
