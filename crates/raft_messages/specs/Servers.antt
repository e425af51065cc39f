-- Configurations: the servers of a cluster, which of them may stand together, their one encoding, and reading them with the first fault.
use Rattle.std.specs.Prelude.{◌≡◌, ℕ, zero, suc, ◌<◌, ◌≤◌, ◌^◌, nat_lt, nat_le, ◌==◌, Bool, true, false, not, ◌&&◌, ◌||◌, if◌then◌else◌, List, [], ◌∷◌, ◌++◌, length, Option, Some, None, Result, Ok, Err, MatchResult, IsUtf8}
use Rattle.std.specs.List.{AllByRecursion}
use Rattle.raft_spec.specs.Node.{Server, voters}
use Rattle.wire_words.specs.declared.fault.WordFault.{WordFault}
use Rattle.wire_words.specs.declared.fault.WordFault.TheVariants as word_faults
use Rattle.wire_words.specs.Items.{word, text, HasNoNul}
use Rattle.wire_words.specs.Reading.{◌>>=◌, Unread, unread, word_at, text_at}
use Rattle.raft_messages.specs.declared.servers_fault.ServersFault.{ServersFault}
use Rattle.raft_messages.specs.declared.servers_fault.ServersFault.TheVariants.{Word, Order, Role, Limit, NoMemory}

-- ---- which servers may stand together

-- each id is above the one before it, and the first is above this one
abbrev pub Ascend : ℕ → List Server → Type 0
Ascend last [] = Unit {0}
Ascend last (s ∷ ss) = (last < s.id) × Ascend s.id ss

-- a server's role is one of the three, and its address has no NUL and at most 255 bytes
abbrev pub IsServer : Server → Type 0
IsServer s = (s.role ≤ 2) × HasNoNul s.address × (length s.address ≤ 255)

-- A configuration: ids ascend from at least 1, and there are at most 9 servers with at most 7 voters.
pub record IsConfiguration (servers : List Server) : Type 0 where
  pub ascend : Ascend 0 servers
  pub each : AllByRecursion IsServer servers
  pub few : length servers ≤ 9
  pub few_voters : length (voters servers) ≤ 7

-- ---- the one encoding

-- a server: its id, its address, its role
abbrev pub server_bytes : Server → List ℕ
server_bytes s = word s.id ++ (text s.address ++ word s.role)

-- servers, one after the other
abbrev pub each_bytes : List Server → List ℕ
each_bytes [] = []
each_bytes (s ∷ ss) = server_bytes s ++ each_bytes ss

-- the number of servers, and they
abbrev pub servers_bytes : List Server → List ℕ
servers_bytes servers = word (length servers) ++ each_bytes servers

-- what the type of a server holds: an id of 64 bits, and an address in UTF-8
abbrev pub HoldsServer : Server → Type 0
HoldsServer s = (s.id < 2 ^ 64) × IsUtf8 s.address

-- The bytes encode the configuration.
pub record WritesServers (servers : List Server) (bytes : List ℕ) : Type 0 where
  pub is : IsConfiguration servers
  pub holds : AllByRecursion HoldsServer servers
  pub parts : bytes ≡ servers_bytes servers

-- ---- reading

-- the fault of a configuration, if an item has this one
abbrev pub servers_fault : WordFault → ServersFault
servers_fault word_faults.NoMemory = NoMemory
servers_fault fault = Word fault

abbrev pub in_servers : {X : Type 0} → Result X WordFault → Result X ServersFault
in_servers (Ok x) = Ok x
in_servers (Err fault) = Err (servers_fault fault)

-- the id of the last of these servers, or this one without servers
abbrev pub last_from : ℕ → List Server → ℕ
last_from last [] = last
last_from last (s ∷ ss) = last_from s.id ss

-- 1 for one that votes, else 0
abbrev pub votes_as : Bool → ℕ
votes_as true = 1
votes_as false = 0

-- after these servers one of this role may stand: they are fewer than 9, and fewer than 7 vote where it does
abbrev pub has_room : List Server → ℕ → Bool
has_room before role = nat_lt (length before) 9 && (not (role == 0) || nat_lt (length (voters before)) 7)

-- a server that was read after these, or what is wrong with it; it begins at this place, and its role is at that one
abbrev pub joined : List Server → ℕ → ℕ → Server → Result Server ServersFault
joined before at role_at s =
    if nat_lt (last_from 0 before) s.id then
    (if nat_le s.role 2 then
    (if has_room before s.role && nat_le (length s.address) 255 then Ok s else Err (Limit at))
    else Err (Role role_at))
    else Err (Order at)

-- the next server after these
unfoldable pub server_at : List Server → Unread → Result (Server × Unread) ServersFault
server_at before left = do
  id ← in_servers (word_at left)
  address ← in_servers (text_at id.1)
  role ← in_servers (word_at address.1)
  server ← joined before left.at address.1.at (record { id = id.0; address = address.0; role = role.0 })
  Ok (server, role.1)

-- these servers, and this many more after them
unfoldable pub more_servers_at : List Server → ℕ → Unread → Result (List Server × Unread) ServersFault
more_servers_at before zero left = Ok (before, left)
more_servers_at before (suc count) left = do
  next ← server_at before left
  more_servers_at (before ++ next.0 ∷ []) count next.1

-- the servers with which the bytes begin, and the rest, or the first fault
unfoldable pub servers_at : Unread → Result (List Server × Unread) ServersFault
servers_at left = do
  count ← in_servers (word_at left)
  more_servers_at [] count.0 count.1

-- the servers and the place after them
abbrev pub with_place : List Server × Unread → Result (List Server × ℕ) ServersFault
with_place x = Ok (x.0, x.1.at)

abbrev pub servers_of : List ℕ → Result (List Server × ℕ) ServersFault
servers_of bytes = servers_at (unread bytes) >>= with_place

-- the configuration that all of the bytes are, if any
abbrev pub whole_servers : List ℕ → Result (List Server × ℕ) ServersFault → Option (List Server)
whole_servers bytes (Err fault) = None
whole_servers bytes (Ok x) = if x.1 == length bytes then Some x.0 else None

abbrev pub configuration_of : List ℕ → Option (List Server)
configuration_of bytes = whole_servers bytes (servers_of bytes)

-- A fault is the one that reading gives, unless memory ran out.
abbrev pub ServersFail : {X : Type 0} → ServersFault → Result X ServersFault → Type 0
ServersFail NoMemory reading = Unit {0}
ServersFail fault reading = reading ≡ Err fault

-- What a call gave is what reading gives, unless memory ran out.
abbrev pub GivesServers : {X Y : Type 0} → (X → Y) → Result Y ServersFault → Result X ServersFault → Type 0
GivesServers view reading result = MatchResult result (λ x. reading ≡ Ok (view x)) (λ fault. ServersFail fault reading)

-- What a reader of a part gave is what reading gives; nothing is said of where a fault leaves the reader.
abbrev pub FindsServers : {X Y : Type 0} → (X → Y) → (Unread → Result (Y × Unread) ServersFault) → Unread → Unread → Result X ServersFault → Type 0
FindsServers view read old new result = MatchResult result (λ x. read old ≡ Ok (view x, new)) (λ fault. ServersFail fault (read old))
