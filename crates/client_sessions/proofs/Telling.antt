-- What applied entries and lost leadership tell can be sent.
use Rattle.std.proofs.Common.{◌≡◌, ℕ, zero, suc, ◌+◌, ◌<◌, Bool, true, false, cond, ◌==◌, List, [], ◌∷◌, ◌++◌, length, take, get_or, map, Option, Some, None, refl, sym, ap, ◌∙◌, arith}
use Rattle.std.proofs.lemmas.List.{map-append, take_more}
use Rattle.std.specs.List.{AllByRecursion, flat_map}
use Rattle.wire_msgs.specs.declared.response.Response.{Response}
use Rattle.wire_msgs.specs.Responses.{IsWritable}
use Rattle.session_spec.specs.Causes.{LeadershipLost}
use Rattle.session_spec.specs.Sessions.{Reply, Refusal, responses_of, Kind, Opening, Configuring, Writing, Committing, Querying, Flight, Session, Gateway}
use Rattle.session_spec.specs.Events.{landed_reply, told_to, told_by, told_applied, told_lost}
use Rattle.session_table.specs.Sweeping.{told_in, all_told}
use Rattle.client_sessions.specs.Clients.{Clients, Sound}
use Rattle.client_sessions.specs.Sending.{CanSend, KindCanSend, FlightCanSend}
use Rattle.client_sessions.proofs.Writable.{ToldCanSend, refusal_sent}

all_append : {X : Type 0} (P : X → Type 0) (xs ys : List X) → AllByRecursion P xs → AllByRecursion P ys → AllByRecursion P (xs ++ ys)
all_append P [] ys a b = b
all_append P (x ∷ xs) ys a b = (a.0, all_append P xs ys a.1 b)

told_writable : (conn : ℕ) (responses : List Response) → AllByRecursion IsWritable responses
    → AllByRecursion (λ (t : ℕ × Response). IsWritable t.1) (map (λ (response : Response). (conn, response)) responses)
told_writable conn [] all = tt
told_writable conn (r ∷ rs) all = (all.0, told_writable conn rs all.1)

all_told_writable : (replies : List (ℕ × Reply)) → AllByRecursion (λ (r : ℕ × Reply). CanSend r.1) replies → AllByRecursion (λ (t : ℕ × Response). IsWritable t.1) (all_told replies)
all_told_writable [] all = tt
all_told_writable (r ∷ rs) all =
    all_append (λ (t : ℕ × Response). IsWritable t.1) (told_in r) (all_told rs) (told_writable r.0 (responses_of r.1) all.0) (all_told_writable rs all.1)

landed_can : (kind : Kind) → KindCanSend kind → ToldCanSend (landed_reply kind)
landed_can Opening can = ((tt, tt), tt)
landed_can (Configuring false) can = ((tt, tt), tt)
landed_can (Configuring true) can = ((tt, (refl, tt)), tt)
landed_can (Writing reply) can = can
landed_can Committing can = ((tt, (tt, tt)), tt)
landed_can (Querying statement) can = tt

told_to_can : (conn : ℕ) (reply : Option Reply) → ToldCanSend reply → AllByRecursion (λ (r : ℕ × Reply). CanSend r.1) (told_to conn reply)
told_to_can conn None can = tt
told_to_can conn (Some reply) can = (can, tt)

where_can : (done hung : Bool) (conn : ℕ) (reply : Option Reply) → ToldCanSend reply → AllByRecursion (λ (r : ℕ × Reply). CanSend r.1) (cond done (cond hung [] (told_to conn reply)) [])
where_can true true conn reply can = tt
where_can true false conn reply can = told_to_can conn reply can
where_can false hung conn reply can = tt

told_by_can : (index conn : ℕ) (s : Session) (flight : Option Flight) → FlightCanSend flight → AllByRecursion (λ (r : ℕ × Reply). CanSend r.1) (told_by index conn s flight)
told_by_can index conn s None can = tt
told_by_can index conn s (Some f) can = where_can (f.last == index) s.hung conn (landed_reply f.kind) (landed_can f.kind can)

conns_can : (g : Gateway) (index : ℕ) (conns : List ℕ) → ((conn : ℕ) → FlightCanSend (g.session conn).flight)
    → AllByRecursion (λ (r : ℕ × Reply). CanSend r.1) (flat_map (λ (conn : ℕ). told_by index conn (g.session conn) (g.session conn).flight) conns)
conns_can g index [] can = tt
conns_can g index (conn ∷ conns) can =
    all_append (λ (r : ℕ × Reply). CanSend r.1) (told_by index conn (g.session conn) (g.session conn).flight) _ (told_by_can index conn (g.session conn) (g.session conn).flight (can conn)) (conns_can g index conns can)

-- what an applied entry tells can be sent
pub applied_sent : (k : Clients) (index : ℕ) → Sound k → AllByRecursion (λ (t : ℕ × Response). IsWritable t.1) (all_told (told_applied index k.sessions))
unfolding told_applied
applied_sent k index sound = all_told_writable _ (conns_can k.sessions index k.sessions.conns sound.sends)

all_lost : (conns : List ℕ) → AllByRecursion (λ (r : ℕ × Reply). CanSend r.1) (map (λ (conn : ℕ). (conn, Refusal LeadershipLost)) conns)
all_lost [] = tt
all_lost (conn ∷ conns) = (refusal_sent LeadershipLost, all_lost conns)

-- what lost leadership tells can be sent
pub lost_sent : (k : Clients) → AllByRecursion (λ (t : ℕ × Response). IsWritable t.1) (all_told (told_lost k.sessions))
unfolding told_lost
lost_sent k = all_told_writable _ (all_lost _)

-- ---- loops over what is reported

-- an item of a list of which all items are so
pub item_of_all : {X : Type 0} (P : X → Type 0) (xs : List X) (i : ℕ) (x : X) → AllByRecursion P xs → i < length xs → x ≡ get_or xs i x → P x
item_of_all P [] i x all lt is = absurd (omega (arith, lt))
item_of_all P (y ∷ ys) zero x all lt is = rw is all.0
item_of_all P (y ∷ ys) (suc i) x all lt is = item_of_all P ys i x all.1 (omega (arith, lt)) is

-- one item more of a list that is mapped
pub mapped_more : {X Y : Type 0} (f : X → Y) (xs : List X) (i : ℕ) (x : X) → i < length xs → x ≡ get_or xs i x → map f (take i xs) ++ f x ∷ [] ≡ map f (take (i + 1) xs)
mapped_more f xs i x lt is =
    sym (map-append f (take i xs) (x ∷ [])) ∙ ap (map f) (ap (λ y. take i xs ++ y ∷ []) is ∙ sym (take_more xs i x lt))
