-- What a client's steps want of the dials.
use Rattle.std.proofs.Common.{◌≡◌, ◌+◌, ◌*◌, ℕ, Bool, true, false, List, [], length, Ok, Err, Result, refl, sym, subst}
use Rattle.std.proofs.lemmas.Bool.{eqb-true}
use Rattle.std.specs.Prelude.{◌==◌, nat_lt, if◌then◌else◌}
use Rattle.wire_msgs.specs.declared.response.Response.{Response}
use Rattle.wire_msgs.specs.declared.response.Response.TheVariants as responses
use Rattle.wire_rows.specs.declared.part.Part.{Part}
use Rattle.wire_rows.specs.declared.part.More.{More}
use Rattle.wire_rows.specs.declared.part.More.TheVariants as mores
use Rattle.wire_rows.specs.declared.fault.RowReadFault.{RowReadFault}
use Rattle.wire_rows.specs.Reading.{part_of}
use Rattle.client.specs.declared.events.ClientEvent.{ClientEvent}
use Rattle.client.specs.declared.events.ClientEvent.TheVariants as events
use Rattle.client.specs.declared.events.ClientAction.{ClientAction}
use Rattle.client.specs.declared.events.ClientAction.TheVariants.{Dial}
use Rattle.client.specs.declared.events.ClientEnd.TheVariants as client_ends
use Rattle.client.specs.declared.course.Awaited.{Awaited}
use Rattle.client.specs.declared.course.Awaited.TheVariants as awaited
use Rattle.client.specs.declared.course.Course.{Course}
use Rattle.client.specs.Course.{next_address, is_own, waits, sends, ends, refuses, follows, next_try, try_ends, server_is, on_server, db_refuses, on_db, answer_refuses, part_comes, rows_come, on_answer, on, step}
use Rattle.client.specs.Sending.{open_bytes}
use Rattle.client.specs.Driving.{FineAt, DoneBy}

-- what an address that was dialled, or not, adds to this
abbrev pub Gains : Awaited → ClientEvent → (ℕ → Type 0) → Type 0 → ℕ → Type 0
Gains awaited.Link events.Dialled dials link tries = dials (tries + 1) × link
Gains awaited.Link events.NotDialled dials link tries = dials (tries + 1)
Gains a event dials link tries = Unit {0}

module _ (dials : ℕ → Type 0) (link : Type 0) where
  -- what was dialled is enough for where the client then stands
  pub record Stays (course : Course) (turned : ClientAction × Course) : Type 0 where
    pub fine : FineAt turned.1.awaited dials link turned.1.tries
    pub done : DoneBy dials link (length course.addresses) turned.0
    pub same : turned.1.addresses ≡ course.addresses

  stays : (a : Awaited) (course : Course) → course.awaited ≡ a → FineAt a dials link course.tries → Stays course (waits course)
  stays a course e f = record { fine = subst (λ (x : Awaited). FineAt x dials link course.tries) (sym e) f; done = tt; same = refl }

  tried : (course : Course) → dials (course.tries + 1) → Stays course (try_ends course)
  unfolding try_ends
  tried course d = by (course.tries + 1 == 3 * length course.addresses) refl
    where
      by : (b : Bool) → (course.tries + 1 == 3 * length course.addresses) ≡ b
          → Stays course (if b then ends (client_ends.NoLeader (course.tries + 1)) course else (Dial (next_address course), next_try course))
      by true e = record { fine = tt; done = subst dials (eqb-true (course.tries + 1) (3 * length course.addresses) e) d; same = refl }
      by false e = record { fine = d; done = tt; same = refl }

  module _ (course : Course) (f : dials (course.tries + 1) × link) where
    refused : (code : ℕ) (text : List ℕ) → Stays course (refuses course code text)
    refused code text = record { fine = tt; done = f.1; same = refl }

    unknown : Stays course (ends client_ends.Unknown course)
    unknown = record { fine = tt; done = f.1; same = refl }

    named : (id : ℕ) (address : List ℕ) → Stays course (server_is course id address)
    unfolding server_is
    named id address = by (id == 0) (is_own course address)
      where
        by : (z own : Bool) → Stays course (if z then try_ends course else if own then sends (open_bytes course.name) awaited.Db course else follows course address)
        by true own = tried course f.0
        by false true = record { fine = f; done = tt; same = refl }
        by false false = record { fine = f; done = tt; same = refl }

    asked : (response : Response) → Stays course (on_server course response)
    asked (responses.Failure code text) = refused code text
    asked (responses.Server id address) = named id address
    asked (responses.Db id) = tried course f.0
    asked (responses.Result last changed) = tried course f.0
    asked (responses.Rows body) = tried course f.0
    asked (responses.Welcome timeout) = tried course f.0
    asked (responses.Servers servers) = tried course f.0
    asked (responses.Stmt db id params tail) = tried course f.0
    asked responses.Empty = tried course f.0
    asked (responses.Files files) = tried course f.0
    asked (responses.Metadata domain weight) = tried course f.0

    unopened : (code : ℕ) (text : List ℕ) → Stays course (db_refuses course code text)
    unfolding db_refuses
    unopened code text = by (code == 10250)
      where
        by : (b : Bool) → Stays course (if b then try_ends course else refuses course code text)
        by true = tried course f.0
        by false = refused code text

    opened : (response : Response) → Stays course (on_db course response)
    opened (responses.Failure code text) = unopened code text
    opened (responses.Server id address) = tried course f.0
    opened (responses.Db id) = record { fine = f; done = tt; same = refl }
    opened (responses.Result last changed) = tried course f.0
    opened (responses.Rows body) = tried course f.0
    opened (responses.Welcome timeout) = tried course f.0
    opened (responses.Servers servers) = tried course f.0
    opened (responses.Stmt db id params tail) = tried course f.0
    opened responses.Empty = tried course f.0
    opened (responses.Files files) = tried course f.0
    opened (responses.Metadata domain weight) = tried course f.0

    unanswered : (code : ℕ) (text : List ℕ) → Stays course (answer_refuses course code text)
    unfolding answer_refuses
    unanswered code text = by (code == 10250) (code == 10506)
      where
        by : (b c : Bool) → Stays course (if b then try_ends course else if c then ends client_ends.Unknown course else refuses course code text)
        by true c = tried course f.0
        by false true = unknown
        by false false = refused code text

    module _ (e : course.awaited ≡ awaited.Answer) where
      read_is : (n : ℕ) (r : Result (Part × More) RowReadFault) → Stays course (part_comes course n r)
      read_is n (Err fault) = unknown
      read_is n (Ok (part, mores.Follows)) = record { fine = subst (λ (x : Awaited). FineAt x dials link course.tries) (sym e) f; done = tt; same = refl }
      read_is n (Ok (part, mores.Last)) = record { fine = tt; done = f.1; same = refl }

      rows : (body : List ℕ) → Stays course (rows_come course body)
      unfolding rows_come
      rows body = by (nat_lt 16777216 (course.size + length body))
        where
          by : (b : Bool) → Stays course (if b then ends client_ends.Unknown course else part_comes course (length body) (part_of body))
          by true = unknown
          by false = read_is (length body) (part_of body)

      answered : (query : Bool) (response : Response) → Stays course (on_answer query course response)
      answered true (responses.Failure code text) = unanswered code text
      answered false (responses.Failure code text) = unanswered code text
      answered true (responses.Result last changed) = unknown
      answered false (responses.Result last changed) = record { fine = tt; done = f.1; same = refl }
      answered true (responses.Rows body) = rows body
      answered false (responses.Rows body) = unknown
      answered true (responses.Welcome timeout) = unknown
      answered false (responses.Welcome timeout) = unknown
      answered true (responses.Servers servers) = unknown
      answered false (responses.Servers servers) = unknown
      answered true (responses.Stmt db id params tail) = unknown
      answered false (responses.Stmt db id params tail) = unknown
      answered true responses.Empty = unknown
      answered false responses.Empty = unknown
      answered true (responses.Files files) = unknown
      answered false (responses.Files files) = unknown
      answered true (responses.Metadata domain weight) = unknown
      answered false (responses.Metadata domain weight) = unknown
      answered true (responses.Server id address) = unknown
      answered false (responses.Server id address) = unknown
      answered true (responses.Db id) = unknown
      answered false (responses.Db id) = unknown

  at : (a : Awaited) (course : Course) (event : ClientEvent) → course.awaited ≡ a → FineAt a dials link course.tries → Gains a event dials link course.tries
      → Stays course (on a course event)
  at awaited.Begin course events.Begin e f g = record { fine = f; done = tt; same = refl }
  at awaited.Begin course events.Dialled e f g = stays awaited.Begin course e f
  at awaited.Begin course events.NotDialled e f g = stays awaited.Begin course e f
  at awaited.Begin course (events.Got response) e f g = stays awaited.Begin course e f
  at awaited.Begin course events.Broken e f g = stays awaited.Begin course e f
  at awaited.Link course events.Begin e f g = stays awaited.Link course e f
  at awaited.Link course events.Dialled e f g = record { fine = g; done = tt; same = refl }
  at awaited.Link course events.NotDialled e f g = tried course g
  at awaited.Link course (events.Got response) e f g = stays awaited.Link course e f
  at awaited.Link course events.Broken e f g = stays awaited.Link course e f
  at awaited.LeaderLink course events.Begin e f g = stays awaited.LeaderLink course e f
  at awaited.LeaderLink course events.Dialled e f g = record { fine = f; done = tt; same = refl }
  at awaited.LeaderLink course events.NotDialled e f g = tried course f.0
  at awaited.LeaderLink course (events.Got response) e f g = stays awaited.LeaderLink course e f
  at awaited.LeaderLink course events.Broken e f g = stays awaited.LeaderLink course e f
  at awaited.Server course events.Begin e f g = stays awaited.Server course e f
  at awaited.Server course events.Dialled e f g = stays awaited.Server course e f
  at awaited.Server course events.NotDialled e f g = stays awaited.Server course e f
  at awaited.Server course (events.Got response) e f g = asked course f response
  at awaited.Server course events.Broken e f g = tried course f.0
  at awaited.Db course events.Begin e f g = stays awaited.Db course e f
  at awaited.Db course events.Dialled e f g = stays awaited.Db course e f
  at awaited.Db course events.NotDialled e f g = stays awaited.Db course e f
  at awaited.Db course (events.Got response) e f g = opened course f response
  at awaited.Db course events.Broken e f g = tried course f.0
  at awaited.Answer course events.Begin e f g = stays awaited.Answer course e f
  at awaited.Answer course events.Dialled e f g = stays awaited.Answer course e f
  at awaited.Answer course events.NotDialled e f g = stays awaited.Answer course e f
  at awaited.Answer course (events.Got response) e f g = answered course f e course.query response
  at awaited.Answer course events.Broken e f g = unknown course f
  at awaited.Nothing course event e f g = stays awaited.Nothing course e tt

  pub steps : (course : Course) (event : ClientEvent) → FineAt course.awaited dials link course.tries → Gains course.awaited event dials link course.tries
      → Stays course (step course event)
  unfolding step
  steps course event f g = at course.awaited course event refl f g
