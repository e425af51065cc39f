-- A client stays sound.
use Rattle.std.proofs.Common.{◌≡◌, ◌+◌, ◌*◌, ◌<◌, ◌≤◌, ℕ, Bool, true, false, List, [], length, Ok, Err, Result, refl, sym, ap, subst, arith}
use Rattle.std.proofs.lemmas.Bool.{eqb-false, ltb-false}
use Rattle.std.specs.declared.alloc.AllocError.{AllocError}
use Rattle.std.specs.Prelude.{◌==◌, nat_lt, if◌then◌else◌}
use Rattle.wire_msgs.specs.declared.response.Response.{Response}
use Rattle.wire_msgs.specs.declared.response.Response.TheVariants as responses
use Rattle.wire_rows.specs.declared.part.Part.{Part}
use Rattle.wire_rows.specs.declared.part.More.{More}
use Rattle.wire_rows.specs.declared.part.More.TheVariants as mores
use Rattle.wire_rows.specs.declared.fault.RowReadFault.{RowReadFault}
use Rattle.wire_rows.specs.Reading.{part_of}
use Rattle.client.specs.declared.events.ClientEvent.{ClientEvent}
use Rattle.client.specs.declared.events.ClientEvent.TheVariants as events
use Rattle.client.specs.declared.events.ClientAction.{ClientAction}
use Rattle.client.specs.declared.events.ClientAction.TheVariants.{Dial}
use Rattle.client.specs.declared.events.ClientEnd.TheVariants as client_ends
use Rattle.client.specs.declared.course.Awaited.{Awaited}
use Rattle.client.specs.declared.course.Awaited.TheVariants as awaited
use Rattle.client.specs.declared.course.Course.{Course}
use Rattle.client.specs.Course.{Turned, Takes, IsSound, next_address, is_own, sends, ends, refuses, follows, next_try, try_ends, server_is, on_server, db_refuses, on_db, answer_refuses, part_comes, rows_come, on_answer, on, step}
use Rattle.client.specs.Sending.{open_bytes}

module _ (course : Course) (s : IsSound course) where
  -- only what is awaited changes
  moved : (next : Awaited) → IsSound (record course { awaited = next })
  moved next = record { some = s.some; few = s.few; name = s.name; sql = s.sql; tries = s.tries; size = s.size }

  over : IsSound (record course { awaited = awaited.Nothing; parts = []; size = 0 })
  over = record { some = s.some; few = s.few; name = s.name; sql = s.sql; tries = s.tries; size = omega arith }

  tried : IsSound (try_ends course).1
  unfolding try_ends
  tried = by (course.tries + 1 == 3 * length course.addresses) refl
    where
      by : (b : Bool) → (course.tries + 1 == 3 * length course.addresses) ≡ b
          → IsSound (if b then ends (client_ends.NoLeader (course.tries + 1)) course else (Dial (next_address course), next_try course)).1
      by true e = over
      by false e =
          let left : course.tries < 3 * length course.addresses = s.tries in
          let differs : (course.tries + 1 ≡ 3 * length course.addresses) → ⊥ = eqb-false (course.tries + 1) (3 * length course.addresses) e in
          record { some = s.some; few = s.few; name = s.name; sql = s.sql; tries = omega arith; size = omega arith }

  named : (id : ℕ) (address : List ℕ) → IsSound (server_is course id address).1
  unfolding server_is
  named id address = by (id == 0) (is_own course address)
    where
      by : (z own : Bool) → IsSound (if z then try_ends course else if own then sends (open_bytes course.name) awaited.Db course else follows course address).1
      by true own = tried
      by false true = moved awaited.Db
      by false false = moved awaited.LeaderLink

  asked : (response : Response) → IsSound (on_server course response).1
  asked (responses.Failure code text) = over
  asked (responses.Server id address) = named id address
  asked (responses.Db id) = tried
  asked (responses.Result last changed) = tried
  asked (responses.Rows body) = tried
  asked (responses.Welcome timeout) = tried
  asked (responses.Servers servers) = tried
  asked (responses.Stmt db id params tail) = tried
  asked responses.Empty = tried
  asked (responses.Files files) = tried
  asked (responses.Metadata domain weight) = tried

  unopened : (code : ℕ) (text : List ℕ) → IsSound (db_refuses course code text).1
  unfolding db_refuses
  unopened code text = by (code == 10250)
    where
      by : (b : Bool) → IsSound (if b then try_ends course else refuses course code text).1
      by true = tried
      by false = over

  opened : (response : Response) → IsSound (on_db course response).1
  opened (responses.Failure code text) = unopened code text
  opened (responses.Server id address) = tried
  opened (responses.Db id) = moved awaited.Answer
  opened (responses.Result last changed) = tried
  opened (responses.Rows body) = tried
  opened (responses.Welcome timeout) = tried
  opened (responses.Servers servers) = tried
  opened (responses.Stmt db id params tail) = tried
  opened responses.Empty = tried
  opened (responses.Files files) = tried
  opened (responses.Metadata domain weight) = tried

  unanswered : (code : ℕ) (text : List ℕ) → IsSound (answer_refuses course code text).1
  unfolding answer_refuses
  unanswered code text = by (code == 10250) (code == 10506)
    where
      by : (b c : Bool) → IsSound (if b then try_ends course else if c then ends client_ends.Unknown course else refuses course code text).1
      by true c = tried
      by false true = over
      by false false = over

  read_is : (n : ℕ) → course.size + n ≤ 16777216 → (r : Result (Part × More) RowReadFault) → IsSound (part_comes course n r).1
  read_is n le (Err fault) = over
  read_is n le (Ok (part, mores.Follows)) = record { some = s.some; few = s.few; name = s.name; sql = s.sql; tries = s.tries; size = le }
  read_is n le (Ok (part, mores.Last)) = over

  rows : (body : List ℕ) → IsSound (rows_come course body).1
  unfolding rows_come
  rows body = by (nat_lt 16777216 (course.size + length body)) refl
    where
      by : (b : Bool) → nat_lt 16777216 (course.size + length body) ≡ b
          → IsSound (if b then ends client_ends.Unknown course else part_comes course (length body) (part_of body)).1
      by true e = over
      by false e = read_is (length body) (ltb-false _ _ e) (part_of body)

  answered : (query : Bool) (response : Response) → IsSound (on_answer query course response).1
  answered true (responses.Failure code text) = unanswered code text
  answered false (responses.Failure code text) = unanswered code text
  answered true (responses.Rows body) = rows body
  answered false (responses.Rows body) = over
  answered true (responses.Welcome timeout) = over
  answered false (responses.Welcome timeout) = over
  answered true (responses.Servers servers) = over
  answered false (responses.Servers servers) = over
  answered true (responses.Stmt db id params tail) = over
  answered false (responses.Stmt db id params tail) = over
  answered true responses.Empty = over
  answered false responses.Empty = over
  answered true (responses.Files files) = over
  answered false (responses.Files files) = over
  answered true (responses.Metadata domain weight) = over
  answered false (responses.Metadata domain weight) = over
  answered true (responses.Server id address) = over
  answered false (responses.Server id address) = over
  answered true (responses.Db id) = over
  answered false (responses.Db id) = over
  answered true (responses.Result last changed) = over
  answered false (responses.Result last changed) = over

sound_at : (a : Awaited) (course : Course) (event : ClientEvent) → IsSound course → IsSound (on a course event).1
sound_at awaited.Begin course events.Begin s = moved course s awaited.Link
sound_at awaited.Begin course events.Dialled s = s
sound_at awaited.Begin course events.NotDialled s = s
sound_at awaited.Begin course (events.Got response) s = s
sound_at awaited.Begin course events.Broken s = s
sound_at awaited.Link course events.Begin s = s
sound_at awaited.Link course events.Dialled s = moved course s awaited.Server
sound_at awaited.Link course events.NotDialled s = tried course s
sound_at awaited.Link course (events.Got response) s = s
sound_at awaited.Link course events.Broken s = s
sound_at awaited.LeaderLink course events.Begin s = s
sound_at awaited.LeaderLink course events.Dialled s = moved course s awaited.Db
sound_at awaited.LeaderLink course events.NotDialled s = tried course s
sound_at awaited.LeaderLink course (events.Got response) s = s
sound_at awaited.LeaderLink course events.Broken s = s
sound_at awaited.Server course events.Begin s = s
sound_at awaited.Server course events.Dialled s = s
sound_at awaited.Server course events.NotDialled s = s
sound_at awaited.Server course (events.Got response) s = asked course s response
sound_at awaited.Server course events.Broken s = tried course s
sound_at awaited.Db course events.Begin s = s
sound_at awaited.Db course events.Dialled s = s
sound_at awaited.Db course events.NotDialled s = s
sound_at awaited.Db course (events.Got response) s = opened course s response
sound_at awaited.Db course events.Broken s = tried course s
sound_at awaited.Answer course events.Begin s = s
sound_at awaited.Answer course events.Dialled s = s
sound_at awaited.Answer course events.NotDialled s = s
sound_at awaited.Answer course (events.Got response) s = answered course s course.query response
sound_at awaited.Answer course events.Broken s = over course s
sound_at awaited.Nothing course event s = s

sound : (course : Course) (event : ClientEvent) → IsSound course → IsSound (step course event).1
unfolding step
sound course event s = sound_at course.awaited course event s

-- after a call a client is sound, whatever came of it
pub stays_sound : (old new : Course) (event : ClientEvent) (result : Result ClientAction AllocError) → IsSound old → Takes (step old event) old new result → IsSound new
stays_sound old new event (Ok does) s t = subst IsSound (sym (ap (λ (x : Turned). x.1) t)) (sound old event s)
stays_sound old new event (Err fault) s t = subst IsSound (sym t) s
