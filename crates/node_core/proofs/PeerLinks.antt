-- The connections that carry a peer's messages, as code keeps them: the first message that waits, and what comes of it.
use Rattle.std.proofs.Common.{◌≡◌, ◌≢◌, ℕ, ◌+◌, ◌<◌, ◌≤◌, Bool, true, false, true≢false, cond, List, [], ◌∷◌, ◌++◌, length, get_or, take, drop, set, Option, Some, None, Result, Ok, Err, refl, sym, ap, subst, ◌∙◌, add-one, arith}
use Rattle.std.specs.Prelude.{◌==◌, MatchOption, find, is_some}
use Rattle.std.proofs.lemmas.Bool.{eqb-true}
use Rattle.std.proofs.lemmas.List.{drop_more, drop_all, take_more, set_split, set-get_or}
use Rattle.wire_words.specs.declared.message.Message.{Message}
use Rattle.client_connection.specs.declared.connection.CloseReason.{CloseReason}
use Rattle.client_connection.specs.Connection.{Conn, peer_received}
use Rattle.database_state.specs.ByName.{FirstAt}
use Rattle.database_state.proofs.First.{stays, first_put}
use Rattle.raft_messages.specs.declared.fault.PeerFault.{PeerFault}
use Rattle.raft_messages.specs.declared.message.RaftMessage.{RaftMessage}
use Rattle.node_core.specs.declared.links.Letter.{Letter}
use Rattle.node_core.specs.declared.links.Letter.TheVariants as letters
use Rattle.node_core.specs.declared.links.Link.{Link}
use Rattle.node_core.specs.declared.running.Running.{Running}
use Rattle.node_core.specs.Carrying.{if_from, peers_message, Waiting, with_waiting, behind_link, waiting_of, first_waiting, letter_for, letter_of, LinkTook, TookFirst, is_of, link_on, link_reason, heard_link, reason_at}
use Rattle.node_core.specs.Carrying.{lines_in, without_link, TookPeerMessage, TookWrongMessage}

-- ---- a message

pub if_read : (peer : ℕ) (wanted : Result RaftMessage PeerFault) (read : RaftMessage) (b : Bool) → wanted ≡ Ok read → (read.from == peer) ≡ b → if_from peer wanted ≡ cond b (Some read) None
if_read peer wanted read b is same = ap (if_from peer) is ∙ ap (λ (x : Bool). cond x (Some read) None) same

pub if_unread : (peer : ℕ) (wanted : Result RaftMessage PeerFault) (fault : PeerFault) → wanted ≡ Err fault → if_from peer wanted ≡ None
if_unread peer wanted fault is = ap (if_from peer) is

-- ---- a peer connection

pub link_waits_none : (me : ℕ) (old new : Link) (waiting : List Message) → waiting ≡ [] → new ≡ old → LinkTook me old waiting new None
link_waits_none me old new waiting none same = subst (λ (ms : List Message). LinkTook me old ms new None) (sym none) (refl, same)

-- what is left after the first message
left_behind : (old new : Conn) (m : Message) → old ≡ record { end = new.end; waiting = m ∷ new.waiting; full = new.full } → new ≡ record old { waiting = new.waiting }
left_behind old new m is = λ i. record { end = (sym (ap (λ (c : Conn). c.end) is)) i; waiting = new.waiting; full = (sym (ap (λ (c : Conn). c.full) is)) i }

pub link_took : (me : ℕ) (old : Link) (now : Conn) (m : Message) (found : Option RaftMessage) → old.stream ≡ record { end = now.end; waiting = m ∷ now.waiting; full = now.full }
    → found ≡ peers_message me old.peer m → LinkTook me old old.stream.waiting (record old { stream = now }) (Some (letter_for old.conn found))
link_took me old now m found is read =
    subst (λ (ms : List Message). LinkTook me old ms (record old { stream = now }) (Some (letter_for old.conn found))) (sym (ap (λ (c : Conn). c.waiting) is))
    (ap (λ (o : Option RaftMessage). Some (letter_for old.conn o)) read, ap (λ (c : Conn). record old { stream = c }) (left_behind old.stream now m is))

-- ---- the first that waits

abbrev pub behind_all : List Link → Option Waiting → Option Waiting
behind_all [] o = o
behind_all (l ∷ ls) o = behind_link l (behind_all ls o)

behind_one : (front : List Link) (l : Link) (o : Option Waiting) → behind_all (front ++ l ∷ []) o ≡ behind_all front (behind_link l o)
behind_one [] l o = refl
behind_one (x ∷ front) l o = ap (behind_link x) (behind_one front l o)

behind_none : (front : List Link) → behind_all front None ≡ None
behind_none [] = refl
behind_none (x ∷ front) = ap (behind_link x) (behind_none front)

behind_some : (front : List Link) (w : Waiting) → behind_all front (Some w) ≡ Some (record { link = w.link; message = w.message; links = front ++ w.links })
behind_some [] w = refl
behind_some (x ∷ front) w = ap (behind_link x) (behind_some front w)

-- no message waits on the peer connections before this place
pub record NoneWaits (links : List Link) (i : ℕ) : Type 0 where
  pub is : first_waiting links ≡ behind_all (take i links) (first_waiting (drop i links))

pub none_waits : (links : List Link) → NoneWaits links 0
none_waits links = record { is = refl }

waits_first : (l : Link) (ls : List Link) (waiting : List Message) → l.stream.waiting ≡ waiting → first_waiting (l ∷ ls) ≡ waiting_of l waiting ls (first_waiting ls)
unfolding first_waiting
waits_first l ls waiting is = ap (λ (ms : List Message). waiting_of l ms ls (first_waiting ls)) is

module _ (links : List Link) (i : ℕ) (x : Link) (lt : i < length links) (is : x ≡ get_or links i x) (before : NoneWaits links i) where
  rest : drop i links ≡ x ∷ drop (i + 1) links
  rest = drop_more links i x lt ∙ ap (λ (d : Link). d ∷ drop (i + 1) links) (sym is)

  from_here : (waiting : List Message) → x.stream.waiting ≡ waiting → first_waiting links ≡ behind_all (take i links) (waiting_of x waiting (drop (i + 1) links) (first_waiting (drop (i + 1) links)))
  from_here waiting e = before.is ∙ ap (λ (l : List Link). behind_all (take i links) (first_waiting l)) rest ∙ ap (behind_all (take i links)) (waits_first x (drop (i + 1) links) waiting e)

  -- nor on this one
  pub none_here : x.stream.waiting ≡ [] → NoneWaits links (i + 1)
  none_here e =
      let front : take (i + 1) links ≡ take i links ++ x ∷ [] = take_more links i x lt ∙ ap (λ (d : Link). take i links ++ d ∷ []) (sym is) in
      record {
        is = from_here [] e ∙ sym (behind_one (take i links) x (first_waiting (drop (i + 1) links))) ∙ ap (λ (l : List Link). behind_all l (first_waiting (drop (i + 1) links))) (sym front);
      }

  -- or this one's is the first
  first_here : (m : Message) (ms : List Message) → x.stream.waiting ≡ m ∷ ms
      → first_waiting links ≡ Some (record { link = x; message = m; links = set links i (with_waiting x ms) })
  first_here m ms e =
      from_here (m ∷ ms) e ∙ behind_some (take i links) (record { link = x; message = m; links = with_waiting x ms ∷ drop (i + 1) links })
      ∙ ap (λ (l : List Link). Some (record { link = x; message = m; links = l })) (sym (set_split links i (with_waiting x ms) lt ∙ rw (← add-one) refl))

  -- what comes of a look at this one
  pub goes_on : (me : ℕ) (new : Link) → LinkTook me x x.stream.waiting new None → NoneWaits links (i + 1) × (set links i new ≡ links)
  goes_on me new t = by x.stream.waiting refl t
    where
      by : (waiting : List Message) → x.stream.waiting ≡ waiting → LinkTook me x waiting new None → NoneWaits links (i + 1) × (set links i new ≡ links)
      by [] e t = (none_here e, ap (set links i) (t.1 ∙ is) ∙ set-get_or links i x)
      by (m ∷ ms) e t = absurd (cc t.0)

  pub found_here : (me : ℕ) (new : Link) (letter : Letter) (now : List Link) → LinkTook me x x.stream.waiting new (Some letter) → now ≡ set links i new
      → TookFirst me (first_waiting links) links now (Some letter)
  found_here me new letter now t same = by x.stream.waiting refl t
    where
      by : (waiting : List Message) → x.stream.waiting ≡ waiting → LinkTook me x waiting new (Some letter) → TookFirst me (first_waiting links) links now (Some letter)
      by [] e t = absurd (cc t.0)
      by (m ∷ ms) e t = subst (λ (o : Option Waiting). TookFirst me o links now (Some letter)) (sym (first_here m ms e)) (t.0, same ∙ ap (set links i) t.1)

pub never_waits : (me : ℕ) (links now : List Link) (i : ℕ) → length links ≤ i → NoneWaits links i → now ≡ links → TookFirst me (first_waiting links) links now None
unfolding first_waiting
never_waits me links now i past before same =
    subst (λ (o : Option Waiting). TookFirst me o links now None)
    (sym (before.is ∙ ap (λ (l : List Link). behind_all (take i links) (first_waiting l)) (drop_all i links past) ∙ behind_none (take i links))) (refl, same)

-- that there are peer connections, as it is looked at
pub no_links : (slice links : List Link) → slice ≡ links → (length slice == 0) ≡ true → links ≡ []
no_links [] links same e = sym same
no_links (l ∷ ls) links same e =
    let none : length (l ∷ ls) ≡ 0 = eqb-true (length (l ∷ ls)) 0 e in
    absurd (omega (arith, none))

pub some_links : (slice links : List Link) → slice ≡ links → (length slice == 0) ≡ false → links ≡ [] → ⊥
some_links slice links same e none = true≢false (sym (ap (λ (l : List Link). length l == 0) (same ∙ none)) ∙ e)

pub empty_waits : (me : ℕ) (links : List Link) → links ≡ [] → TookFirst me (first_waiting links) links links None
unfolding first_waiting
empty_waits me links none = subst (λ (l : List Link). TookFirst me (first_waiting l) l l None) (sym none) (refl, refl)

-- ---- connections by their number

pub link_there : (o : Option Link) (has : Bool) → has ≡ is_some o → has ≡ true → (link : Link) × (o ≡ Some link)
link_there None has e is = absurd (true≢false (sym is ∙ e))
link_there (Some link) has e is = (link, refl)

pub link_not : (o : Option Link) (has : Bool) → has ≡ is_some o → has ≡ false → o ≡ None
link_not None has e is = refl
link_not (Some link) has e is = absurd (true≢false (sym e ∙ is))

pub has_place : (conn : ℕ) (slice links : List Link) (place : Option ℕ) (has : Bool) → slice ≡ links → MatchOption place (link_on conn slice ≡ None) (FirstAt (is_of conn) slice) → has ≡ is_some place
    → has ≡ is_some (link_on conn links)
has_place conn slice links None has same none e = e ∙ sym (ap is_some none) ∙ ap (λ (l : List Link). is_some (link_on conn l)) same
has_place conn slice links (Some place) has same first e = e ∙ by slice first.within first.found ∙ ap (λ (l : List Link). is_some (link_on conn l)) same
  where
    by : (ls : List Link) → place < length ls → ((x : Link) → find (is_of conn) slice ≡ Some (get_or ls place x)) → true ≡ is_some (link_on conn slice)
    by [] lt found = absurd (omega (arith, lt))
    by (l ∷ ls) lt found = sym (ap is_some (found l))

-- bytes come on the one at this place, or on none
pub heard_at : (conn : ℕ) (bytes : List ℕ) (links : List Link) (place : ℕ) (x : Link) (now : Conn) → FirstAt (is_of conn) links place → x ≡ get_or links place x
    → now ≡ peer_received x.stream bytes → set links place (record x { stream = now }) ≡ heard_link conn bytes links
heard_at conn bytes links place x now first is e =
    first_put (is_of conn) (λ (l : Link). record l { stream = peer_received l.stream bytes }) links place x (record x { stream = now }) first is (λ i. record x { stream = e i })

pub heard_nowhere : (conn : ℕ) (bytes : List ℕ) (links : List Link) → link_on conn links ≡ None → links ≡ heard_link conn bytes links
heard_nowhere conn bytes links none = sym (stays (is_of conn) (λ (l : Link). record l { stream = peer_received l.stream bytes }) links none)

pub reason_of_link : (o : Option Link) (link : Link) (reason : Option CloseReason) (stream : Option Conn) → o ≡ Some link → reason ≡ link_reason o → reason ≡ reason_at o stream
reason_of_link o link reason stream is e = e ∙ ap link_reason is ∙ sym (ap (λ (x : Option Link). reason_at x stream) is)

-- ---- what the node makes of it

some_of : {X : Type 0} (x y : X) → Some x ≡ Some y → x ≡ y
some_of x y e = cc

none_of : {X : Type 0} (x : X) → None ≡ Some x → ⊥
none_of x e = cc

-- a message that is its peer's
pub sent_so : (old mid : Running) (me : ℕ) (given : Option Letter) (message : RaftMessage) → old.has_links ≡ true → me ≡ old.view.id
    → TookFirst me (first_waiting old.links.all.items) old.links.all.items mid.links.all.items given → given ≡ Some (letters.Message message) → mid ≡ record old { links = mid.links }
    → TookPeerMessage (lines_in old) (lines_in mid) message
sent_so old mid me given message takes id took is same = by (first_waiting old.links.all.items) refl took
  where
    read : (conn : ℕ) (o : Option RaftMessage) → letter_for conn o ≡ letters.Message message → o ≡ Some message
    read conn None e = absurd cc
    read conn (Some m) e = cc

    by : (o : Option Waiting) → first_waiting old.links.all.items ≡ o → TookFirst me o old.links.all.items mid.links.all.items given → TookPeerMessage (lines_in old) (lines_in mid) message
    by None e t = absurd (none_of (letters.Message message) (sym t.0 ∙ is))
    by (Some w) e t = record {
      takes = takes;
      first = w;
      waits = e;
      reads = ap (λ (n : ℕ). peers_message n w.link.peer w.message) (sym id) ∙ read w.link.conn (peers_message me w.link.peer w.message) (some_of _ _ (sym t.0 ∙ is));
      is = ap lines_in same ∙ (λ i. record (lines_in old) { links = t.1 i });
    }

-- and one that isn't
pub wrong_so : (old mid new : Running) (me : ℕ) (given : Option Letter) (conn : ℕ) → old.has_links ≡ true → me ≡ old.view.id
    → TookFirst me (first_waiting old.links.all.items) old.links.all.items mid.links.all.items given → given ≡ Some (letters.Wrong conn)
    → lines_in new ≡ record (lines_in old) { links = without_link conn mid.links.all.items } → TookWrongMessage (lines_in old) (lines_in new) conn
wrong_so old mid new me given conn takes id took is same = by (first_waiting old.links.all.items) refl took
  where
    unread : (at : ℕ) (o : Option RaftMessage) → letter_for at o ≡ letters.Wrong conn → (o ≡ None) × (conn ≡ at)
    unread at None e = (refl, cc)
    unread at (Some m) e = absurd cc

    by : (o : Option Waiting) → first_waiting old.links.all.items ≡ o → TookFirst me o old.links.all.items mid.links.all.items given → TookWrongMessage (lines_in old) (lines_in new) conn
    by None e t = absurd (none_of (letters.Wrong conn) (sym t.0 ∙ is))
    by (Some w) e t =
        let u = unread w.link.conn (peers_message me w.link.peer w.message) (some_of _ _ (sym t.0 ∙ is)) in
        record {
          takes = takes;
          first = w;
          waits = e;
          wrong = ap (λ (n : ℕ). peers_message n w.link.peer w.message) (sym id) ∙ u.0;
          conn_is = u.1;
          is = same ∙ (λ i. record (lines_in old) { links = without_link conn (t.1 i) });
        }

-- or none waits
pub none_left : (me : ℕ) (old new : List Link) (given : Option Letter) → TookFirst me (first_waiting old) old new given → given ≡ None → (new ≡ old) × (first_waiting new ≡ None)
none_left me old new given took none = by (first_waiting old) refl took
  where
    by : (o : Option Waiting) → first_waiting old ≡ o → TookFirst me o old new given → (new ≡ old) × (first_waiting new ≡ None)
    by None e t = (t.1, ap first_waiting t.1 ∙ e)
    by (Some w) e t = absurd (none_of (letter_of me w.link w.message) (sym none ∙ t.0))
