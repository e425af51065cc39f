-- What a client awaits.
use Rattle.std.proofs.Common.{◌≡◌, inl, inr, ◌+◌, ◌*◌, ℕ, Bool, true, false, List, [], ◌∷◌, length, Ok, Err, Result, refl, sym, ap, subst, true≢false}
use Rattle.std.specs.Prelude.{◌==◌, nat_lt, if◌then◌else◌}
use Rattle.wire_msgs.specs.declared.response.Response.{Response}
use Rattle.wire_msgs.specs.declared.response.Response.TheVariants as responses
use Rattle.wire_rows.specs.declared.part.Part.{Part}
use Rattle.wire_rows.specs.declared.part.More.{More}
use Rattle.wire_rows.specs.declared.part.More.TheVariants as mores
use Rattle.wire_rows.specs.declared.fault.RowReadFault.{RowReadFault}
use Rattle.wire_rows.specs.Reading.{part_of}
use Rattle.client.specs.declared.events.ClientEvent.{ClientEvent}
use Rattle.client.specs.declared.events.ClientEvent.TheVariants as events
use Rattle.client.specs.declared.events.ClientAction.{ClientAction}
use Rattle.client.specs.declared.events.ClientAction.TheVariants.{Dial, Wait}
use Rattle.client.specs.declared.events.ClientEnd.TheVariants as client_ends
use Rattle.client.specs.declared.course.Awaited.{Awaited}
use Rattle.client.specs.declared.course.Awaited.TheVariants as awaited
use Rattle.client.specs.declared.course.Course.{Course}
use Rattle.client.specs.Course.{next_address, is_own, waits, sends, ends, refuses, follows, next_try, try_ends, server_is, on_server, db_refuses, on_db, answer_refuses, part_comes, rows_come, on_answer, on, step}
use Rattle.client.specs.Sending.{open_bytes}
use Rattle.client.specs.Awaiting.{Awaits, awaits_after, is_awaited, awaits_of, Heeds, AllHeed}
use Rattle.client.specs.Laws.{turns}

-- It heeded the event, and awaits what it did last says.
pub record Heeded (a : Awaited) (event : ClientEvent) (turned : ClientAction × Course) : Type 0 where
  pub heeds : Heeds (awaits_of a) event turned.0
  pub next : awaits_after (awaits_of a) turned.0 ≡ awaits_of turned.1.awaited

ignored : (a : Awaited) (course : Course) (event : ClientEvent) → course.awaited ≡ a → is_awaited (awaits_of a) event ≡ false → Heeded a event (waits course)
ignored a course event e p = record { heeds = inl p; next = ap awaits_of (sym e) }

module _ (a : Awaited) (course : Course) (event : ClientEvent) (p : is_awaited (awaits_of a) event ≡ true) where
  tried : Heeded a event (try_ends course)
  unfolding try_ends
  tried = by (course.tries + 1 == 3 * length course.addresses)
    where
      by : (b : Bool) → Heeded a event (if b then ends (client_ends.NoLeader (course.tries + 1)) course else (Dial (next_address course), next_try course))
      by true = record { heeds = p; next = refl }
      by false = record { heeds = p; next = refl }

  named : (id : ℕ) (address : List ℕ) → Heeded a event (server_is course id address)
  unfolding server_is
  named id address = by (id == 0) (is_own course address)
    where
      by : (z own : Bool) → Heeded a event (if z then try_ends course else if own then sends (open_bytes course.name) awaited.Db course else follows course address)
      by true own = tried
      by false true = record { heeds = p; next = refl }
      by false false = record { heeds = p; next = refl }

  asked : (response : Response) → Heeded a event (on_server course response)
  asked (responses.Failure code text) = record { heeds = p; next = refl }
  asked (responses.Server id address) = named id address
  asked (responses.Db id) = tried
  asked (responses.Result last changed) = tried
  asked (responses.Rows body) = tried
  asked (responses.Welcome timeout) = tried
  asked (responses.Servers servers) = tried
  asked (responses.Stmt db id params tail) = tried
  asked responses.Empty = tried
  asked (responses.Files files) = tried
  asked (responses.Metadata domain weight) = tried

  unopened : (code : ℕ) (text : List ℕ) → Heeded a event (db_refuses course code text)
  unfolding db_refuses
  unopened code text = by (code == 10250)
    where
      by : (b : Bool) → Heeded a event (if b then try_ends course else refuses course code text)
      by true = tried
      by false = record { heeds = p; next = refl }

  opened : (response : Response) → Heeded a event (on_db course response)
  opened (responses.Failure code text) = unopened code text
  opened (responses.Server id address) = tried
  opened (responses.Db id) = record { heeds = p; next = refl }
  opened (responses.Result last changed) = tried
  opened (responses.Rows body) = tried
  opened (responses.Welcome timeout) = tried
  opened (responses.Servers servers) = tried
  opened (responses.Stmt db id params tail) = tried
  opened responses.Empty = tried
  opened (responses.Files files) = tried
  opened (responses.Metadata domain weight) = tried

  unanswered : (code : ℕ) (text : List ℕ) → Heeded a event (answer_refuses course code text)
  unfolding answer_refuses
  unanswered code text = by (code == 10250) (code == 10506)
    where
      by : (b c : Bool) → Heeded a event (if b then try_ends course else if c then ends client_ends.Unknown course else refuses course code text)
      by true c = tried
      by false true = record { heeds = p; next = refl }
      by false false = record { heeds = p; next = refl }

module _ (course : Course) (at : course.awaited ≡ awaited.Answer) where
  read_is : (body : List ℕ) (n : ℕ) (r : Result (Part × More) RowReadFault) → part_of body ≡ r
      → Heeded awaited.Answer (events.Got (responses.Rows body)) (part_comes course n r)
  read_is body n (Err fault) e = record { heeds = refl; next = refl }
  read_is body n (Ok (part, mores.Follows)) e = record { heeds = inr (part, e); next = ap awaits_of (sym at) }
  read_is body n (Ok (part, mores.Last)) e = record { heeds = refl; next = refl }

  rows : (body : List ℕ) → Heeded awaited.Answer (events.Got (responses.Rows body)) (rows_come course body)
  unfolding rows_come
  rows body = by (nat_lt 16777216 (course.size + length body))
    where
      by : (b : Bool) → Heeded awaited.Answer (events.Got (responses.Rows body)) (if b then ends client_ends.Unknown course else part_comes course (length body) (part_of body))
      by true = record { heeds = refl; next = refl }
      by false = read_is body (length body) (part_of body) refl

  answered : (query : Bool) (response : Response) → Heeded awaited.Answer (events.Got response) (on_answer query course response)
  answered true (responses.Failure code text) = unanswered awaited.Answer course (events.Got (responses.Failure code text)) refl code text
  answered false (responses.Failure code text) = unanswered awaited.Answer course (events.Got (responses.Failure code text)) refl code text
  answered true (responses.Rows body) = rows body
  answered false (responses.Rows body) = record { heeds = refl; next = refl }
  answered true (responses.Welcome timeout) = record { heeds = refl; next = refl }
  answered false (responses.Welcome timeout) = record { heeds = refl; next = refl }
  answered true (responses.Servers servers) = record { heeds = refl; next = refl }
  answered false (responses.Servers servers) = record { heeds = refl; next = refl }
  answered true (responses.Stmt db id params tail) = record { heeds = refl; next = refl }
  answered false (responses.Stmt db id params tail) = record { heeds = refl; next = refl }
  answered true responses.Empty = record { heeds = refl; next = refl }
  answered false responses.Empty = record { heeds = refl; next = refl }
  answered true (responses.Files files) = record { heeds = refl; next = refl }
  answered false (responses.Files files) = record { heeds = refl; next = refl }
  answered true (responses.Metadata domain weight) = record { heeds = refl; next = refl }
  answered false (responses.Metadata domain weight) = record { heeds = refl; next = refl }
  answered true (responses.Server id address) = record { heeds = refl; next = refl }
  answered false (responses.Server id address) = record { heeds = refl; next = refl }
  answered true (responses.Db id) = record { heeds = refl; next = refl }
  answered false (responses.Db id) = record { heeds = refl; next = refl }
  answered true (responses.Result last changed) = record { heeds = refl; next = refl }
  answered false (responses.Result last changed) = record { heeds = refl; next = refl }

heeded_at : (a : Awaited) (course : Course) (event : ClientEvent) → course.awaited ≡ a → Heeded a event (on a course event)
heeded_at awaited.Begin course events.Begin e = record { heeds = refl; next = refl }
heeded_at awaited.Begin course events.Dialled e = ignored awaited.Begin course events.Dialled e refl
heeded_at awaited.Begin course events.NotDialled e = ignored awaited.Begin course events.NotDialled e refl
heeded_at awaited.Begin course (events.Got response) e = ignored awaited.Begin course (events.Got response) e refl
heeded_at awaited.Begin course events.Broken e = ignored awaited.Begin course events.Broken e refl
heeded_at awaited.Link course events.Begin e = ignored awaited.Link course events.Begin e refl
heeded_at awaited.Link course events.Dialled e = record { heeds = refl; next = refl }
heeded_at awaited.Link course events.NotDialled e = tried awaited.Link course events.NotDialled refl
heeded_at awaited.Link course (events.Got response) e = ignored awaited.Link course (events.Got response) e refl
heeded_at awaited.Link course events.Broken e = ignored awaited.Link course events.Broken e refl
heeded_at awaited.LeaderLink course events.Begin e = ignored awaited.LeaderLink course events.Begin e refl
heeded_at awaited.LeaderLink course events.Dialled e = record { heeds = refl; next = refl }
heeded_at awaited.LeaderLink course events.NotDialled e = tried awaited.LeaderLink course events.NotDialled refl
heeded_at awaited.LeaderLink course (events.Got response) e = ignored awaited.LeaderLink course (events.Got response) e refl
heeded_at awaited.LeaderLink course events.Broken e = ignored awaited.LeaderLink course events.Broken e refl
heeded_at awaited.Server course events.Begin e = ignored awaited.Server course events.Begin e refl
heeded_at awaited.Server course events.Dialled e = ignored awaited.Server course events.Dialled e refl
heeded_at awaited.Server course events.NotDialled e = ignored awaited.Server course events.NotDialled e refl
heeded_at awaited.Server course (events.Got response) e = asked awaited.Server course (events.Got response) refl response
heeded_at awaited.Server course events.Broken e = tried awaited.Server course events.Broken refl
heeded_at awaited.Db course events.Begin e = ignored awaited.Db course events.Begin e refl
heeded_at awaited.Db course events.Dialled e = ignored awaited.Db course events.Dialled e refl
heeded_at awaited.Db course events.NotDialled e = ignored awaited.Db course events.NotDialled e refl
heeded_at awaited.Db course (events.Got response) e = opened awaited.Db course (events.Got response) refl response
heeded_at awaited.Db course events.Broken e = tried awaited.Db course events.Broken refl
heeded_at awaited.Answer course events.Begin e = ignored awaited.Answer course events.Begin e refl
heeded_at awaited.Answer course events.Dialled e = ignored awaited.Answer course events.Dialled e refl
heeded_at awaited.Answer course events.NotDialled e = ignored awaited.Answer course events.NotDialled e refl
heeded_at awaited.Answer course (events.Got response) e = answered course e course.query response
heeded_at awaited.Answer course events.Broken e = record { heeds = refl; next = refl }
heeded_at awaited.Nothing course event e = ignored awaited.Nothing course event e refl

unheeded_at : (a : Awaited) (course : Course) (event : ClientEvent) → is_awaited (awaits_of a) event ≡ false → on a course event ≡ (Wait, course)
unheeded_at awaited.Begin course events.Begin p = absurd (true≢false p)
unheeded_at awaited.Begin course events.Dialled p = refl
unheeded_at awaited.Begin course events.NotDialled p = refl
unheeded_at awaited.Begin course (events.Got response) p = refl
unheeded_at awaited.Begin course events.Broken p = refl
unheeded_at awaited.Link course events.Begin p = refl
unheeded_at awaited.Link course events.Dialled p = absurd (true≢false p)
unheeded_at awaited.Link course events.NotDialled p = absurd (true≢false p)
unheeded_at awaited.Link course (events.Got response) p = refl
unheeded_at awaited.Link course events.Broken p = refl
unheeded_at awaited.LeaderLink course events.Begin p = refl
unheeded_at awaited.LeaderLink course events.Dialled p = absurd (true≢false p)
unheeded_at awaited.LeaderLink course events.NotDialled p = absurd (true≢false p)
unheeded_at awaited.LeaderLink course (events.Got response) p = refl
unheeded_at awaited.LeaderLink course events.Broken p = refl
unheeded_at awaited.Server course events.Begin p = refl
unheeded_at awaited.Server course events.Dialled p = refl
unheeded_at awaited.Server course events.NotDialled p = refl
unheeded_at awaited.Server course (events.Got response) p = absurd (true≢false p)
unheeded_at awaited.Server course events.Broken p = absurd (true≢false p)
unheeded_at awaited.Db course events.Begin p = refl
unheeded_at awaited.Db course events.Dialled p = refl
unheeded_at awaited.Db course events.NotDialled p = refl
unheeded_at awaited.Db course (events.Got response) p = absurd (true≢false p)
unheeded_at awaited.Db course events.Broken p = absurd (true≢false p)
unheeded_at awaited.Answer course events.Begin p = refl
unheeded_at awaited.Answer course events.Dialled p = refl
unheeded_at awaited.Answer course events.NotDialled p = refl
unheeded_at awaited.Answer course (events.Got response) p = absurd (true≢false p)
unheeded_at awaited.Answer course events.Broken p = absurd (true≢false p)
unheeded_at awaited.Nothing course event p = refl

-- what isn't awaited changes nothing
pub unheeded : (course : Course) (event : ClientEvent) → is_awaited (awaits_of course.awaited) event ≡ false → step course event ≡ (Wait, course)
unfolding step
unheeded course event p = unheeded_at course.awaited course event p

heeded : (course : Course) (event : ClientEvent) → Heeded course.awaited event (step course event)
unfolding step
heeded course event = heeded_at course.awaited course event refl

pub all_heeded : (course : Course) (events : List ClientEvent) → AllHeed (awaits_of course.awaited) (turns course events)
unfolding AllHeed turns
all_heeded course [] = tt
all_heeded course (event ∷ events) =
    let h = heeded course event in
    (h.heeds, subst (λ (w : Awaits). AllHeed w (turns (step course event).1 events)) (sym h.next) (all_heeded (step course event).1 events))
