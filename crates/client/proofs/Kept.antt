-- What a client does at each event, whatever happened before.
use Rattle.std.proofs.Common.{◌≡◌, inl, inr, ◌+◌, ◌*◌, ◌<◌, ◌≤◌, ◌≢◌, ℕ, Bool, true, false, not, List, [], ◌∷◌, ◌++◌, length, Ok, Err, Result, refl, sym, ap, subst, ◌∙◌, arith, true≢false}
use Rattle.std.proofs.lemmas.Bool.{eqb-true, eqb-false, ltb-true, ltb-false}
use Rattle.std.specs.Prelude.{◌==◌, nat_lt, if◌then◌else◌}
use Rattle.wire_msgs.specs.declared.response.Response.{Response}
use Rattle.wire_msgs.specs.declared.response.Response.TheVariants as responses
use Rattle.wire_rows.specs.declared.part.Part.{Part}
use Rattle.wire_rows.specs.declared.part.More.{More}
use Rattle.wire_rows.specs.declared.part.More.TheVariants as mores
use Rattle.wire_rows.specs.declared.fault.RowReadFault.{RowReadFault}
use Rattle.wire_rows.specs.Reading.{part_of}
use Rattle.client.specs.declared.events.ClientEvent.{ClientEvent}
use Rattle.client.specs.declared.events.ClientEvent.TheVariants as events
use Rattle.client.specs.declared.events.ClientAction.{ClientAction}
use Rattle.client.specs.declared.events.ClientAction.TheVariants.{Dial, Wait, Done}
use Rattle.client.specs.declared.events.ClientEnd.{ClientEnd}
use Rattle.client.specs.declared.events.ClientEnd.TheVariants as client_ends
use Rattle.client.specs.declared.course.Awaited.{Awaited}
use Rattle.client.specs.declared.course.Awaited.TheVariants as awaited
use Rattle.client.specs.declared.course.Course.{Course}
use Rattle.client.specs.Course.{next_address, is_own, waits, sends, ends, refuses, follows, next_try, try_ends, on_begin, on_link, on_leader_link, server_is, on_server, db_refuses, on_db, answer_refuses, part_comes, rows_come, on_answer, on_asked, on_opened, on_stated, on, step}
use Rattle.client.specs.Sending.{leader_bytes, open_bytes, opening_bytes, statement_bytes}
use Rattle.client.specs.Laws.{turns, Wanted, is_statement, is_open, Phase, Free, Stated, Over, heard, phase_after, is_followed, tries_after, BeginsOrEnds, IsNextTry, AreOver, bytes_in, AreRead, IsUnreadable, LeavesOpen, Obeys, AllObey}

abbrev pub wanted_of : Course → Wanted
wanted_of course = record { addresses = course.addresses; sql = course.sql; query = course.query }

abbrev pub phase_of : Awaited → List (List ℕ) → Phase
phase_of awaited.Begin bodies = Free false
phase_of awaited.Link bodies = Free false
phase_of awaited.LeaderLink bodies = Free false
phase_of awaited.Server bodies = Free false
phase_of awaited.Db bodies = Free true
phase_of awaited.Answer bodies = Stated bodies
phase_of awaited.Nothing bodies = Over

abbrev pub tries_of : Awaited → Course → ℕ
tries_of awaited.Begin course = course.tries
tries_of a course = course.tries + 1

-- the bodies of which the parts are held
abbrev pub held_of : Awaited → List (List ℕ) → List (List ℕ)
held_of awaited.Answer bodies = bodies
held_of a bodies = []

abbrev pub IsNew : Awaited → ℕ → Type 0
IsNew awaited.Begin tries = tries ≡ 0
IsNew a tries = Unit {0}

-- if the client can be
pub record Stands (a : Awaited) (course : Course) (bodies : List (List ℕ)) : Type 0 where
  pub left : course.tries < 3 * length course.addresses
  pub read : AreRead (held_of a bodies) course.parts
  pub size : course.size ≡ bytes_in (held_of a bodies)
  pub fresh : IsNew a course.tries

-- after its end nothing matters any more
abbrev pub StandsYet : Awaited → Course → List (List ℕ) → Type 0
StandsYet awaited.Nothing course bodies = Unit {0}
StandsYet a course bodies = Stands a course bodies

-- It did what it may, and where it is now it can be.
pub record Kept (a : Awaited) (course : Course) (bodies : List (List ℕ)) (event : ClientEvent) (turned : ClientAction × Course) : Type 0 where
  pub obeys : Obeys (wanted_of course) (tries_of a course) (phase_of a bodies) event turned.0
  pub behind : List (List ℕ)
  pub tries : tries_after (tries_of a course) (phase_of a bodies) event turned.0 ≡ tries_of turned.1.awaited turned.1
  pub phase : phase_after (phase_of a bodies) event turned.0 ≡ phase_of turned.1.awaited behind
  pub stands : StandsYet turned.1.awaited turned.1 behind
  pub same : wanted_of turned.1 ≡ wanted_of course

-- ---- it waits

may_wait : (a : Awaited) (bodies : List (List ℕ)) (w : Wanted) (t : ℕ) (event : ClientEvent) → Obeys w t (phase_of a bodies) event Wait
may_wait awaited.Begin bodies w t event = tt
may_wait awaited.Link bodies w t event = tt
may_wait awaited.LeaderLink bodies w t event = tt
may_wait awaited.Server bodies w t event = tt
may_wait awaited.Db bodies w t event = tt
may_wait awaited.Answer bodies w t event = tt
may_wait awaited.Nothing bodies w t event = tt

waited : (a : Awaited) (course : Course) (bodies : List (List ℕ)) (event : ClientEvent) → course.awaited ≡ a → heard (phase_of a bodies) event ≡ phase_of a bodies
    → StandsYet a course bodies → Kept a course bodies event (waits course)
waited a course bodies event e h s = record {
  obeys = may_wait a bodies (wanted_of course) (tries_of a course) event;
  behind = bodies;
  tries = ap (λ (x : Awaited). tries_of x course) (sym e);
  phase = h ∙ ap (λ (x : Awaited). phase_of x bodies) (sym e);
  stands = subst (λ (x : Awaited). StandsYet x course bodies) (sym e) s;
  same = refl;
}

-- ---- the try ends

module _ (a : Awaited) (course : Course) (bodies : List (List ℕ)) (event : ClientEvent) where
  try_ended : course.tries < 3 * length course.addresses
      → tries_of a course ≡ course.tries + 1
      → is_followed (phase_of a bodies) event ≡ false
      → ((address : List ℕ) → IsNextTry (wanted_of course) (tries_of a course) address → Obeys (wanted_of course) (tries_of a course) (phase_of a bodies) event (Dial address))
      → ((n : ℕ) → AreOver (wanted_of course) (tries_of a course) n → Obeys (wanted_of course) (tries_of a course) (phase_of a bodies) event (Done (client_ends.NoLeader n)))
      → Kept a course bodies event (try_ends course)
  unfolding try_ends
  try_ended left t f dial end = by (course.tries + 1 == 3 * length course.addresses) refl
    where
      by : (b : Bool) → (course.tries + 1 == 3 * length course.addresses) ≡ b
          → Kept a course bodies event (if b then ends (client_ends.NoLeader (course.tries + 1)) course else (Dial (next_address course), next_try course))
      by true e = record {
        obeys = end (course.tries + 1) (record { are = sym t; over = eqb-true (course.tries + 1) (3 * length course.addresses) e });
        behind = [];
        tries = t;
        phase = refl;
        stands = tt;
        same = refl;
      }
      by false e =
          let differs : (course.tries + 1 ≡ 3 * length course.addresses) → ⊥ = eqb-false (course.tries + 1) (3 * length course.addresses) e in
          let within : course.tries + 1 < 3 * length course.addresses = omega arith in
          record {
            obeys = dial (next_address course) (record { within = rw t within; next = rw t refl });
            behind = [];
            tries = rw f (ap (λ (n : ℕ). n + 1) t);
            phase = refl;
            stands = record { left = within; read = tt; size = refl; fresh = tt };
            same = refl;
          }

-- ---- it ends

ended : (a : Awaited) (course : Course) (bodies : List (List ℕ)) (event : ClientEvent) (end : ClientEnd)
    → tries_of a course ≡ course.tries + 1
    → Obeys (wanted_of course) (tries_of a course) (phase_of a bodies) event (Done end)
    → Kept a course bodies event (ends end course)
ended a course bodies event end t o = record { obeys = o; behind = []; tries = t; phase = refl; stands = tt; same = refl }

-- ---- it sends

leader_is_none : is_statement leader_bytes ≡ false
unfolding is_statement leader_bytes
leader_is_none = refl

leader_opens_none : is_open leader_bytes ≡ false
unfolding is_open leader_bytes
leader_opens_none = refl

open_is_none : (name : List ℕ) → is_statement (open_bytes name) ≡ false
unfolding is_statement open_bytes
open_is_none name = refl

open_opens : (name : List ℕ) → is_open (open_bytes name) ≡ true
unfolding is_open open_bytes
open_opens name = refl

opening_is_none : (name : List ℕ) → is_statement (opening_bytes name) ≡ false
unfolding is_statement opening_bytes
opening_is_none name = refl

opening_opens : (name : List ℕ) → is_open (opening_bytes name) ≡ true
unfolding is_open opening_bytes open_bytes
opening_opens name = refl

pub statement_is_one : (query : Bool) (db : ℕ) (sql : List ℕ) → is_statement (statement_bytes query db sql) ≡ true
unfolding is_statement statement_bytes
statement_is_one true db sql = refl
statement_is_one false db sql = refl

-- ---- at each place

begins : (course : Course) (bodies : List (List ℕ)) (event : ClientEvent) → course.awaited ≡ awaited.Begin → Stands awaited.Begin course bodies
    → Kept awaited.Begin course bodies event (on_begin course event)
begins course bodies events.Begin e s = record {
  obeys = (record { within = s.left; next = refl }, s.fresh);
  behind = [];
  tries = refl;
  phase = refl;
  stands = record { left = s.left; read = s.read; size = s.size; fresh = tt };
  same = refl;
}
begins course bodies events.Dialled e s = waited awaited.Begin course bodies events.Dialled e refl s
begins course bodies events.NotDialled e s = waited awaited.Begin course bodies events.NotDialled e refl s
begins course bodies (events.Got response) e s = waited awaited.Begin course bodies (events.Got response) e refl s
begins course bodies events.Broken e s = waited awaited.Begin course bodies events.Broken e refl s

links : (course : Course) (bodies : List (List ℕ)) (event : ClientEvent) → course.awaited ≡ awaited.Link → Stands awaited.Link course bodies
    → Kept awaited.Link course bodies event (on_link course event)
links course bodies events.Begin e s = waited awaited.Link course bodies events.Begin e refl s
links course bodies events.Dialled e s = record {
  obeys = rw leader_is_none tt;
  behind = [];
  tries = refl;
  phase = rw leader_is_none (ap Free leader_opens_none);
  stands = record { left = s.left; read = s.read; size = s.size; fresh = tt };
  same = refl;
}
links course bodies events.NotDialled e s = try_ended awaited.Link course bodies events.NotDialled s.left refl refl (λ address h. (h, tt)) (λ n h. (refl, h, tt))
links course bodies (events.Got response) e s = waited awaited.Link course bodies (events.Got response) e refl s
links course bodies events.Broken e s = waited awaited.Link course bodies events.Broken e refl s

leads : (course : Course) (bodies : List (List ℕ)) (event : ClientEvent) → course.awaited ≡ awaited.LeaderLink → Stands awaited.LeaderLink course bodies
    → Kept awaited.LeaderLink course bodies event (on_leader_link course event)
leads course bodies events.Begin e s = waited awaited.LeaderLink course bodies events.Begin e refl s
leads course bodies events.Dialled e s = record {
  obeys = rw (opening_is_none course.name) tt;
  behind = [];
  tries = refl;
  phase = rw (opening_is_none course.name) (ap Free (opening_opens course.name));
  stands = record { left = s.left; read = s.read; size = s.size; fresh = tt };
  same = refl;
}
leads course bodies events.NotDialled e s = try_ended awaited.LeaderLink course bodies events.NotDialled s.left refl refl (λ address h. (h, tt)) (λ n h. (refl, h, tt))
leads course bodies (events.Got response) e s = waited awaited.LeaderLink course bodies (events.Got response) e refl s
leads course bodies events.Broken e s = waited awaited.LeaderLink course bodies events.Broken e refl s

-- which server leads
module _ (course : Course) (bodies : List (List ℕ)) (s : Stands awaited.Server course bodies) where
  server_said : (id : ℕ) (address : List ℕ) → Kept awaited.Server course bodies (events.Got (responses.Server id address)) (server_is course id address)
  unfolding server_is
  server_said id address = by (id == 0) (is_own course address) refl
    where
      event : ClientEvent
      event = events.Got (responses.Server id address)

      by : (z own : Bool) → (id == 0) ≡ z
          → Kept awaited.Server course bodies event (if z then try_ends course else if own then sends (open_bytes course.name) awaited.Db course else follows course address)
      by true own e = try_ended awaited.Server course bodies event s.left refl (ap not e) (λ address h. rw e (h, tt)) (λ n h. rw e (refl, h, tt))
      by false true e = record {
        obeys = rw (open_is_none course.name) tt;
        behind = [];
        tries = refl;
        phase = rw (open_is_none course.name) (ap Free (open_opens course.name));
        stands = record { left = s.left; read = s.read; size = s.size; fresh = tt };
        same = refl;
      }
      by false false e = record {
        obeys = rw e refl;
        behind = [];
        tries = rw e refl;
        phase = refl;
        stands = record { left = s.left; read = s.read; size = s.size; fresh = tt };
        same = refl;
      }

  -- another response
  asked_over : (response : Response) → is_followed (Free false) (events.Got response) ≡ false → BeginsOrEnds (course.tries + 1) false (events.Got response)
      → Kept awaited.Server course bodies (events.Got response) (try_ends course)
  asked_over response f h = try_ended awaited.Server course bodies (events.Got response) s.left refl f (λ address n. rw f (n, h)) (λ n o. rw f (refl, o, h))

  asked : (response : Response) → Kept awaited.Server course bodies (events.Got response) (on_server course response)
  asked (responses.Failure code text) = ended awaited.Server course bodies _ _ refl ((refl, refl), λ e. absurd (true≢false (sym e)))
  asked (responses.Server id address) = server_said id address
  asked (responses.Welcome timeout) = asked_over (responses.Welcome timeout) refl tt
  asked (responses.Servers servers) = asked_over (responses.Servers servers) refl tt
  asked (responses.Db id) = asked_over (responses.Db id) refl refl
  asked (responses.Stmt db id params tail) = asked_over (responses.Stmt db id params tail) refl tt
  asked (responses.Result last changed) = asked_over (responses.Result last changed) refl tt
  asked (responses.Rows body) = asked_over (responses.Rows body) refl tt
  asked responses.Empty = asked_over responses.Empty refl tt
  asked (responses.Files files) = asked_over (responses.Files files) refl tt
  asked (responses.Metadata domain weight) = asked_over (responses.Metadata domain weight) refl tt

asks : (course : Course) (bodies : List (List ℕ)) (event : ClientEvent) → course.awaited ≡ awaited.Server → Stands awaited.Server course bodies
    → Kept awaited.Server course bodies event (on_asked course event)
asks course bodies events.Begin e s = waited awaited.Server course bodies events.Begin e refl s
asks course bodies events.Dialled e s = waited awaited.Server course bodies events.Dialled e refl s
asks course bodies events.NotDialled e s = waited awaited.Server course bodies events.NotDialled e refl s
asks course bodies (events.Got response) e s = asked course bodies s response
asks course bodies events.Broken e s = try_ended awaited.Server course bodies events.Broken s.left refl refl (λ address h. (h, tt)) (λ n h. (refl, h, tt))

-- whether the database is open
module _ (course : Course) (bodies : List (List ℕ)) (s : Stands awaited.Db course bodies) where
  db_over : (response : Response) → BeginsOrEnds (course.tries + 1) true (events.Got response)
      → Kept awaited.Db course bodies (events.Got response) (try_ends course)
  db_over response h = try_ended awaited.Db course bodies (events.Got response) s.left refl refl (λ address n. (n, h)) (λ n o. (refl, o, h))

  db_refused : (code : ℕ) (text : List ℕ) → Kept awaited.Db course bodies (events.Got (responses.Failure code text)) (db_refuses course code text)
  unfolding db_refuses
  db_refused code text = by (code == 10250) refl
    where
      by : (b : Bool) → (code == 10250) ≡ b
          → Kept awaited.Db course bodies (events.Got (responses.Failure code text)) (if b then try_ends course else refuses course code text)
      by true e = db_over (responses.Failure code text) (refl, eqb-true code 10250 e)
      by false e = ended awaited.Db course bodies _ _ refl ((refl, refl), λ _. eqb-false code 10250 e)

  opened : (response : Response) → Kept awaited.Db course bodies (events.Got response) (on_db course response)
  opened (responses.Failure code text) = db_refused code text
  opened (responses.Server id address) = db_over (responses.Server id address) tt
  opened (responses.Welcome timeout) = db_over (responses.Welcome timeout) tt
  opened (responses.Servers servers) = db_over (responses.Servers servers) tt
  opened (responses.Db id) = record {
    obeys = rw (statement_is_one course.query id course.sql) (refl, refl);
    behind = [];
    tries = refl;
    phase = rw (statement_is_one course.query id course.sql) refl;
    stands = record { left = s.left; read = s.read; size = s.size; fresh = tt };
    same = refl;
  }
  opened (responses.Stmt db id params tail) = db_over (responses.Stmt db id params tail) tt
  opened (responses.Result last changed) = db_over (responses.Result last changed) tt
  opened (responses.Rows body) = db_over (responses.Rows body) tt
  opened responses.Empty = db_over responses.Empty tt
  opened (responses.Files files) = db_over (responses.Files files) tt
  opened (responses.Metadata domain weight) = db_over (responses.Metadata domain weight) tt

opens : (course : Course) (bodies : List (List ℕ)) (event : ClientEvent) → course.awaited ≡ awaited.Db → Stands awaited.Db course bodies
    → Kept awaited.Db course bodies event (on_opened course event)
opens course bodies events.Begin e s = waited awaited.Db course bodies events.Begin e refl s
opens course bodies events.Dialled e s = waited awaited.Db course bodies events.Dialled e refl s
opens course bodies events.NotDialled e s = waited awaited.Db course bodies events.NotDialled e refl s
opens course bodies (events.Got response) e s = opened course bodies s response
opens course bodies events.Broken e s = try_ended awaited.Db course bodies events.Broken s.left refl refl (λ address h. (h, tt)) (λ n h. (refl, h, tt))

-- ---- the answer

read_on : (bodies : List (List ℕ)) (parts : List Part) (body : List ℕ) (part : Part) → AreRead bodies parts → part_of body ≡ Ok (part, mores.Follows)
    → AreRead (bodies ++ body ∷ []) (parts ++ part ∷ [])
read_on [] [] body part h e = (e, tt)
read_on [] (p ∷ parts) body part h e = absurd h
read_on (b ∷ bodies) [] body part h e = absurd h
read_on (b ∷ bodies) (p ∷ parts) body part h e = (h.0, read_on bodies parts body part h.1 e)

bytes_on : (bodies : List (List ℕ)) (body : List ℕ) → bytes_in (bodies ++ body ∷ []) ≡ bytes_in bodies + length body
bytes_on [] body = omega arith
bytes_on (b ∷ bodies) body = let rest : bytes_in (bodies ++ body ∷ []) ≡ bytes_in bodies + length body = bytes_on bodies body in omega arith

module _ (course : Course) (bodies : List (List ℕ)) (at : course.awaited ≡ awaited.Answer) (s : Stands awaited.Answer course bodies) where
  open_end : (event : ClientEvent) → LeavesOpen course.query bodies event → Kept awaited.Answer course bodies event (ends client_ends.Unknown course)
  open_end event h = ended awaited.Answer course bodies event client_ends.Unknown refl h

  answer_refused : (code : ℕ) (text : List ℕ) → Kept awaited.Answer course bodies (events.Got (responses.Failure code text)) (answer_refuses course code text)
  unfolding answer_refuses
  answer_refused code text = by (code == 10250) (code == 10506) refl refl
    where
      event : ClientEvent
      event = events.Got (responses.Failure code text)

      by : (b c : Bool) → (code == 10250) ≡ b → (code == 10506) ≡ c
          → Kept awaited.Answer course bodies event (if b then try_ends course else if c then ends client_ends.Unknown course else refuses course code text)
      by true c e f =
          let is = eqb-true code 10250 e in
          try_ended awaited.Answer course bodies event s.left refl refl (λ address h. (is, h)) (λ n h. (is, h))
      by false true e f = open_end event (failed course.query)
        where
          failed : (query : Bool) → LeavesOpen query bodies event
          failed true = eqb-true code 10506 f
          failed false = eqb-true code 10506 f
      by false false e f = ended awaited.Answer course bodies event _ refl ((refl, refl), eqb-false code 10250 e, eqb-false code 10506 f)

  module _ (is : course.query ≡ true) (body : List ℕ) where
    unreadable : IsUnreadable bodies body → Kept awaited.Answer course bodies (events.Got (responses.Rows body)) (ends client_ends.Unknown course)
    unreadable h = open_end (events.Got (responses.Rows body)) (subst (λ (q : Bool). LeavesOpen q bodies (events.Got (responses.Rows body))) (sym is) h)

    read_is : (r : Result (Part × More) RowReadFault) → part_of body ≡ r → course.size + length body ≤ 16777216
        → Kept awaited.Answer course bodies (events.Got (responses.Rows body)) (part_comes course (length body) r)
    read_is (Err fault) e le = unreadable (inr (fault, e))
    read_is (Ok (part, mores.Follows)) e le = record {
      obeys = tt;
      behind = bodies ++ body ∷ [];
      tries = ap (λ (x : Awaited). tries_of x (record course { parts = course.parts ++ part ∷ []; size = course.size + length body })) (sym at);
      phase = ap (λ (x : Awaited). phase_of x (bodies ++ body ∷ [])) (sym at);
      stands = subst (λ (x : Awaited). StandsYet x (record course { parts = course.parts ++ part ∷ []; size = course.size + length body }) (bodies ++ body ∷ [])) (sym at)
          (record {
            left = s.left;
            read = read_on bodies course.parts body part s.read e;
            size = ap (λ (n : ℕ). n + length body) s.size ∙ sym (bytes_on bodies body);
            fresh = tt;
          });
      same = refl;
    }
    read_is (Ok (part, mores.Last)) e le = ended awaited.Answer course bodies (events.Got (responses.Rows body)) (client_ends.Rows (course.parts ++ part ∷ [])) refl
        (is, record { front = course.parts; part = part; are = refl; read = s.read; last = e; bound = subst (λ (n : ℕ). n + length body ≤ 16777216) s.size le })

    rows : Kept awaited.Answer course bodies (events.Got (responses.Rows body)) (rows_come course body)
    unfolding rows_come
    rows = by (nat_lt 16777216 (course.size + length body)) refl
      where
        by : (b : Bool) → nat_lt 16777216 (course.size + length body) ≡ b
            → Kept awaited.Answer course bodies (events.Got (responses.Rows body)) (if b then ends client_ends.Unknown course else part_comes course (length body) (part_of body))
        by true e = unreadable (inl (subst (λ (n : ℕ). 16777216 < n + length body) s.size (ltb-true _ _ e)))
        by false e = read_is (part_of body) refl (ltb-false _ _ e)

  at_rows : (query : Bool) → course.query ≡ query → (body : List ℕ) → Kept awaited.Answer course bodies (events.Got (responses.Rows body)) (on_answer query course (responses.Rows body))
  at_rows true q body = rows q body
  at_rows false q body = open_end (events.Got (responses.Rows body)) (subst (λ (x : Bool). LeavesOpen x bodies (events.Got (responses.Rows body))) (sym q) tt)

  at_result : (query : Bool) → course.query ≡ query → (last changed : ℕ)
      → Kept awaited.Answer course bodies (events.Got (responses.Result last changed)) (on_answer query course (responses.Result last changed))
  at_result true q last changed = open_end (events.Got (responses.Result last changed)) (subst (λ (x : Bool). LeavesOpen x bodies (events.Got (responses.Result last changed))) (sym q) tt)
  at_result false q last changed = ended awaited.Answer course bodies (events.Got (responses.Result last changed)) (client_ends.Result changed) refl (q, refl)

  answered : (query : Bool) → course.query ≡ query → (response : Response) → Kept awaited.Answer course bodies (events.Got response) (on_answer query course response)
  answered true q (responses.Failure code text) = answer_refused code text
  answered false q (responses.Failure code text) = answer_refused code text
  answered true q (responses.Result last changed) = at_result true q last changed
  answered false q (responses.Result last changed) = at_result false q last changed
  answered true q (responses.Rows body) = at_rows true q body
  answered false q (responses.Rows body) = at_rows false q body
  answered true q (responses.Server id address) = open_end (events.Got (responses.Server id address)) (subst (λ (x : Bool). LeavesOpen x bodies (events.Got (responses.Server id address))) (sym q) tt)
  answered false q (responses.Server id address) = open_end (events.Got (responses.Server id address)) (subst (λ (x : Bool). LeavesOpen x bodies (events.Got (responses.Server id address))) (sym q) tt)
  answered true q (responses.Welcome timeout) = open_end (events.Got (responses.Welcome timeout)) (subst (λ (x : Bool). LeavesOpen x bodies (events.Got (responses.Welcome timeout))) (sym q) tt)
  answered false q (responses.Welcome timeout) = open_end (events.Got (responses.Welcome timeout)) (subst (λ (x : Bool). LeavesOpen x bodies (events.Got (responses.Welcome timeout))) (sym q) tt)
  answered true q (responses.Servers servers) = open_end (events.Got (responses.Servers servers)) (subst (λ (x : Bool). LeavesOpen x bodies (events.Got (responses.Servers servers))) (sym q) tt)
  answered false q (responses.Servers servers) = open_end (events.Got (responses.Servers servers)) (subst (λ (x : Bool). LeavesOpen x bodies (events.Got (responses.Servers servers))) (sym q) tt)
  answered true q (responses.Db id) = open_end (events.Got (responses.Db id)) (subst (λ (x : Bool). LeavesOpen x bodies (events.Got (responses.Db id))) (sym q) tt)
  answered false q (responses.Db id) = open_end (events.Got (responses.Db id)) (subst (λ (x : Bool). LeavesOpen x bodies (events.Got (responses.Db id))) (sym q) tt)
  answered true q (responses.Stmt db id params tail) = open_end (events.Got (responses.Stmt db id params tail)) (subst (λ (x : Bool). LeavesOpen x bodies (events.Got (responses.Stmt db id params tail))) (sym q) tt)
  answered false q (responses.Stmt db id params tail) = open_end (events.Got (responses.Stmt db id params tail)) (subst (λ (x : Bool). LeavesOpen x bodies (events.Got (responses.Stmt db id params tail))) (sym q) tt)
  answered true q responses.Empty = open_end (events.Got responses.Empty) (subst (λ (x : Bool). LeavesOpen x bodies (events.Got responses.Empty)) (sym q) tt)
  answered false q responses.Empty = open_end (events.Got responses.Empty) (subst (λ (x : Bool). LeavesOpen x bodies (events.Got responses.Empty)) (sym q) tt)
  answered true q (responses.Files files) = open_end (events.Got (responses.Files files)) (subst (λ (x : Bool). LeavesOpen x bodies (events.Got (responses.Files files))) (sym q) tt)
  answered false q (responses.Files files) = open_end (events.Got (responses.Files files)) (subst (λ (x : Bool). LeavesOpen x bodies (events.Got (responses.Files files))) (sym q) tt)
  answered true q (responses.Metadata domain weight) = open_end (events.Got (responses.Metadata domain weight)) (subst (λ (x : Bool). LeavesOpen x bodies (events.Got (responses.Metadata domain weight))) (sym q) tt)
  answered false q (responses.Metadata domain weight) = open_end (events.Got (responses.Metadata domain weight)) (subst (λ (x : Bool). LeavesOpen x bodies (events.Got (responses.Metadata domain weight))) (sym q) tt)

answers : (course : Course) (bodies : List (List ℕ)) (event : ClientEvent) → course.awaited ≡ awaited.Answer → Stands awaited.Answer course bodies
    → Kept awaited.Answer course bodies event (on_stated course event)
answers course bodies events.Begin e s = waited awaited.Answer course bodies events.Begin e refl s
answers course bodies events.Dialled e s = waited awaited.Answer course bodies events.Dialled e refl s
answers course bodies events.NotDialled e s = waited awaited.Answer course bodies events.NotDialled e refl s
answers course bodies (events.Got response) e s = answered course bodies e s course.query refl response
answers course bodies events.Broken e s = open_end course bodies e s events.Broken (by course.query)
  where
    by : (query : Bool) → LeavesOpen query bodies events.Broken
    by true = tt
    by false = tt

-- ---- each event

kept_at : (a : Awaited) (course : Course) (bodies : List (List ℕ)) (event : ClientEvent) → course.awaited ≡ a → StandsYet a course bodies
    → Kept a course bodies event (on a course event)
kept_at awaited.Begin course bodies event e s = begins course bodies event e s
kept_at awaited.Link course bodies event e s = links course bodies event e s
kept_at awaited.LeaderLink course bodies event e s = leads course bodies event e s
kept_at awaited.Server course bodies event e s = asks course bodies event e s
kept_at awaited.Db course bodies event e s = opens course bodies event e s
kept_at awaited.Answer course bodies event e s = answers course bodies event e s
kept_at awaited.Nothing course bodies event e s = waited awaited.Nothing course bodies event e refl tt

pub kept : (course : Course) (bodies : List (List ℕ)) (event : ClientEvent) → StandsYet course.awaited course bodies
    → Kept course.awaited course bodies event (step course event)
unfolding step
kept course bodies event s = kept_at course.awaited course bodies event refl s

-- ---- all events

pub all_kept : (course : Course) (bodies : List (List ℕ)) (events : List ClientEvent) → StandsYet course.awaited course bodies
    → AllObey (wanted_of course) (tries_of course.awaited course) (phase_of course.awaited bodies) (turns course events)
unfolding AllObey turns
all_kept course bodies [] s = tt
all_kept course bodies (event ∷ events) s =
    let k = kept course bodies event s in
    let rest = all_kept (step course event).1 k.behind events k.stands in (
      k.obeys,
      subst (λ (w : Wanted). AllObey w (tries_after (tries_of course.awaited course) (phase_of course.awaited bodies) event (step course event).0) (phase_after (phase_of course.awaited bodies) event (step course event).0) (turns (step course event).1 events)) k.same
          (subst (λ (t : ℕ). AllObey (wanted_of (step course event).1) t (phase_after (phase_of course.awaited bodies) event (step course event).0) (turns (step course event).1 events)) (sym k.tries)
          (subst (λ (p : Phase). AllObey (wanted_of (step course event).1) (tries_of (step course event).1.awaited (step course event).1) p (turns (step course event).1 events)) (sym k.phase) rest)),
    )
