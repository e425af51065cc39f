-- A client over a dialer, from one call to the next.
use Rattle.std.proofs.Common.{◌≡◌, inl, inr, ◌+◌, ◌*◌, ◌<◌, ◌≤◌, ℕ, suc, Bool, true, false, List, [], ◌∷◌, ◌++◌, length, Option, Some, None, refl, sym, ap, subst, ◌∙◌, arith}
use Rattle.std.proofs.lemmas.Bool.Decides.{leb_tells}
use Rattle.std.proofs.lemmas.List.{append_assoc, append-nil}
use Rattle.std.specs.declared.alloc.AllocError.{AllocError}
use Rattle.dq_base.specs.Faults.{one_more, last_count}
use Rattle.client.specs.declared.events.ClientEvent.{ClientEvent}
use Rattle.client.specs.declared.events.ClientEvent.TheVariants as events
use Rattle.client.specs.declared.events.ClientAction.{ClientAction}
use Rattle.client.specs.declared.events.ClientAction.TheVariants as does
use Rattle.client.specs.declared.events.ClientEnd.{ClientEnd}
use Rattle.client.specs.declared.events.ClientEnd.TheVariants as client_ends
use Rattle.client.specs.declared.course.Awaited.{Awaited}
use Rattle.client.specs.declared.course.Awaited.TheVariants as awaited
use Rattle.client.specs.declared.course.Course.{Course}
use Rattle.client.specs.declared.run.Run.{Run}
use Rattle.client.specs.declared.dialer.NetCall.{NetCall}
use Rattle.client.specs.declared.dialer.NetCall.TheVariants.{Dial, Write, Read}
use Rattle.client.specs.Course.{step}
use Rattle.client.specs.Net.{Net, Tells}
use Rattle.std.specs.Prelude.{nat_lt, drop, if◌then◌else◌, Result, Ok, Err, OnOk, IfOk}
use Rattle.wire_words.specs.Message.{header_of}
use Rattle.wire_words.specs.Stream.{message_with}
use Rattle.wire_msgs.specs.declared.response.Response.{Response}
use Rattle.wire_msgs.specs.declared.fault.MsgFault.{MsgFault}
use Rattle.wire_msgs.specs.Reading.{response_of}
use Rattle.client.specs.Running.{event_of, message_event, Came, came_of, read_of, heard, goes_on, started, IsNamed, AreNamed, after_call, after_calls, HasLed, HaveDialled, EndHasCause, Counted, Made}
use Rattle.client.specs.Driving.{IsBegun, Goes, Stops, FineAt, DoneBy, Going, HaveNamed, HaveEnded, Drives}
use Rattle.client.proofs.Dials.{Gains, steps}
use Rattle.client.proofs.Failing.{failed_on, none_failed}

-- ---- the calls

named_on : (run : Run) (calls : List NetCall) (call : NetCall) → AreNamed run calls → IsNamed (after_calls run calls).does call → AreNamed run (calls ++ call ∷ [])
named_on run [] call h n = (n, tt)
named_on run (c ∷ calls) call h n = (h.0, named_on (after_call run c) calls call h.1 n)

after_on : (run : Run) (calls : List NetCall) (call : NetCall) → after_calls run (calls ++ call ∷ []) ≡ after_call (after_calls run calls) call
after_on run [] call = refl
after_on run (c ∷ calls) call = after_on (after_call run c) calls call

led_on : (first : Run) (before old new : Option (List NetCall)) (run : Run) (call : NetCall) → HasLed first before old run → Tells old new call → IsNamed run.does call
    → HasLed first before new (after_call run call)
led_on first before old None run call h t n = tt
led_on first before None (Some all) run call h t n = absurd t
led_on first None (Some old) (Some all) run call h t n = absurd h
led_on first (Some before) (Some old) (Some all) run call (calls, is, leads) t n = (
  calls ++ call ∷ [],
  t ∙ ap (λ (xs : List NetCall). xs ++ call ∷ []) is ∙ append_assoc before calls (call ∷ []),
  record {
    named = named_on first calls call leads.named (subst (λ (r : Run). IsNamed r.does call) (sym leads.reached) n);
    reached = after_on first calls call ∙ ap (λ (r : Run). after_call r call) leads.reached;
  },
)

pub have_named : (first : Run) (before now : Option (List NetCall)) (run : Run) → HasLed first before now run → HaveNamed first before now
have_named first before None run h = tt
have_named first None (Some all) run h = absurd h
have_named first (Some before) (Some all) run (calls, is, leads) = (calls, is, leads.named)

ended_so : (first : Run) (before now : Option (List NetCall)) (run : Run) (end : ClientEnd) → HasLed first before now run → run.does ≡ does.Done end
    → HaveEnded first before now end
ended_so first before None run end h e = tt
ended_so first None (Some all) run end h e = absurd h
ended_so first (Some before) (Some all) run end (calls, is, leads) e = (calls, is, leads.named, ap (λ (r : Run). r.does) leads.reached ∙ e)

pub none_led : (first : Run) (calls : Option (List NetCall)) → HasLed first calls calls first
none_led first None = tt
none_led first (Some calls) = ([], sym (append-nil calls), record { named = tt; reached = refl })

-- ---- the counts

module _ (start old new : Net) where
  one_fits : (n : ℕ) → new.undialled ≡ one_more old.undialled → new.dialled ≡ old.dialled → HaveDialled start old n → HaveDialled start new (n + 1)
  one_fits n u d (inr last) = inr (u ∙ ap one_more last)
  one_fits n u d (inl le) = elim (leb_tells (suc old.undialled) last_count) [
    | inl w ↦ let fits : suc old.undialled ≤ last_count = w.1 in
        let is : new.undialled ≡ suc old.undialled = u ∙ omega arith in
        inl (omega arith)
    | inr w ↦ let above : last_count < suc old.undialled = w.1 in inr (u ∙ omega arith)
  ]

  fewer : (n : ℕ) → HaveDialled start new (n + 1) → HaveDialled start new n
  fewer n (inl le) = inl (omega arith)
  fewer n (inr last) = inr last

  same_fits : (n : ℕ) → new.dialled ≡ old.dialled → new.undialled ≡ old.undialled → HaveDialled start old n → HaveDialled start new n
  same_fits n d u (inl le) = inl (omega arith)
  same_fits n d u (inr last) = inr (u ∙ last)

  dialled_fits : (n : ℕ) → new.dialled ≡ old.dialled + 1 → new.undialled ≡ old.undialled → HaveDialled start old n → HaveDialled start new (n + 1)
  dialled_fits n d u (inl le) = inl (omega arith)
  dialled_fits n d u (inr last) = inr (u ∙ last)

  -- no dial is lost by a call
  kept_dials : (call : NetCall) → Counted old new call → (n : ℕ) → HaveDialled start old n → HaveDialled start new n
  kept_dials (Dial address true) c n h = fewer n (dialled_fits n c.0 c.1 h)
  kept_dials (Dial address false) c n h = fewer n (one_fits n c.1 c.0 h)
  kept_dials (Write bytes done) c n h = same_fits n c.0 c.1 h
  kept_dials (Read bytes) c n h = same_fits n c.0 c.1 h

  grown : (call : NetCall) → Counted old new call → old.dialled ≤ new.dialled
  grown (Dial address true) c = let is : new.dialled ≡ old.dialled + 1 = c.0 in omega arith
  grown (Dial address false) c = let is : new.dialled ≡ old.dialled = c.0 in omega arith
  grown (Write bytes done) c = let is : new.dialled ≡ old.dialled = c.0 in omega arith
  grown (Read bytes) c = let is : new.dialled ≡ old.dialled = c.0 in omega arith

  fine_on : (a : Awaited) (tries : ℕ) (call : NetCall) → Counted old new call
      → FineAt a (HaveDialled start old) (start.dialled < old.dialled) tries → FineAt a (HaveDialled start new) (start.dialled < new.dialled) tries
  fine_on awaited.Begin tries call c f = kept_dials call c tries f
  fine_on awaited.Link tries call c f = kept_dials call c tries f
  fine_on awaited.LeaderLink tries call c f = let up : old.dialled ≤ new.dialled = grown call c in let was : start.dialled < old.dialled = f.1 in (kept_dials call c (tries + 1) f.0, omega arith)
  fine_on awaited.Server tries call c f = let up : old.dialled ≤ new.dialled = grown call c in let was : start.dialled < old.dialled = f.1 in (kept_dials call c (tries + 1) f.0, omega arith)
  fine_on awaited.Db tries call c f = let up : old.dialled ≤ new.dialled = grown call c in let was : start.dialled < old.dialled = f.1 in (kept_dials call c (tries + 1) f.0, omega arith)
  fine_on awaited.Answer tries call c f = let up : old.dialled ≤ new.dialled = grown call c in let was : start.dialled < old.dialled = f.1 in (kept_dials call c (tries + 1) f.0, omega arith)
  fine_on awaited.Nothing tries call c f = tt

  -- what a call that dials adds
  gained : (a : Awaited) (tries : ℕ) → start.dialled ≤ old.dialled → FineAt a (HaveDialled start old) (start.dialled < old.dialled) tries
      → new.dialled ≡ old.dialled + 1 → new.undialled ≡ old.undialled → Gains a events.Dialled (HaveDialled start new) (start.dialled < new.dialled) tries
  gained awaited.Begin tries le f d u = tt
  gained awaited.Link tries le f d u = (dialled_fits tries d u f, omega arith)
  gained awaited.LeaderLink tries le f d u = tt
  gained awaited.Server tries le f d u = tt
  gained awaited.Db tries le f d u = tt
  gained awaited.Answer tries le f d u = tt
  gained awaited.Nothing tries le f d u = tt

  missed : (a : Awaited) (tries : ℕ) → FineAt a (HaveDialled start old) (start.dialled < old.dialled) tries
      → new.dialled ≡ old.dialled → new.undialled ≡ one_more old.undialled → Gains a events.NotDialled (HaveDialled start new) (start.dialled < new.dialled) tries
  missed awaited.Begin tries f d u = tt
  missed awaited.Link tries f d u = one_fits tries u d f
  missed awaited.LeaderLink tries f d u = tt
  missed awaited.Server tries f d u = tt
  missed awaited.Db tries f d u = tt
  missed awaited.Answer tries f d u = tt
  missed awaited.Nothing tries f d u = tt

-- an event that no dial makes adds nothing
abbrev pub IsOfLink : ClientEvent → Type 0
IsOfLink events.Dialled = ⊥
IsOfLink events.NotDialled = ⊥
IsOfLink event = Unit {0}

none_gained : (a : Awaited) (event : ClientEvent) (dials : ℕ → Type 0) (link : Type 0) (tries : ℕ) → IsOfLink event → Gains a event dials link tries
none_gained awaited.Begin event dials link tries h = tt
none_gained awaited.Link events.Begin dials link tries h = tt
none_gained awaited.Link events.Dialled dials link tries h = absurd h
none_gained awaited.Link events.NotDialled dials link tries h = absurd h
none_gained awaited.Link (events.Got response) dials link tries h = tt
none_gained awaited.Link events.Broken dials link tries h = tt
none_gained awaited.LeaderLink event dials link tries h = tt
none_gained awaited.Server event dials link tries h = tt
none_gained awaited.Db event dials link tries h = tt
none_gained awaited.Answer event dials link tries h = tt
none_gained awaited.Nothing event dials link tries h = tt

abbrev pub CameOnLink : Came → Type 0
CameOnLink (None, held) = Unit {0}
CameOnLink (Some event, held) = IsOfLink event

message_on_link : (bytes : List ℕ) → IsOfLink (message_event bytes)
unfolding message_event
message_on_link bytes = by (response_of 1 (message_with (header_of bytes) (drop 8 bytes)))
  where
    by : (r : Result Response MsgFault) → IsOfLink (event_of r)
    by (Ok response) = tt
    by (Err fault) = tt

heard_on_link : (bytes : List ℕ) → CameOnLink (heard bytes)
unfolding heard
heard_on_link bytes = by (nat_lt (length bytes) 8) (nat_lt 2097152 (header_of bytes).words) (nat_lt (length bytes) (8 + 8 * (header_of bytes).words))
  where
    by : (a b c : Bool) → CameOnLink (if a then (None, bytes) else if b then (Some events.Broken, []) else if c then (None, bytes) else (Some (message_event bytes), []))
    by true b c = tt
    by false true c = tt
    by false false true = tt
    by false false false = message_on_link bytes

read_on_link : (held bytes : List ℕ) → CameOnLink (read_of held bytes)
read_on_link held [] = tt
read_on_link held (byte ∷ bytes) = heard_on_link (held ++ byte ∷ bytes)

-- ---- one call more

module _ (start old new : Net) (run : Run) (never : start.dialled ≤ old.dialled)
    (was_fine : FineAt run.core.awaited (HaveDialled start old) (start.dialled < old.dialled) run.core.tries) (first : Run) (was_same : run.core.addresses ≡ first.core.addresses) where
  -- what is fine of the client after a call
  pub record Fine (to : Run) : Type 0 where
    pub fine : FineAt to.core.awaited (HaveDialled start new) (start.dialled < new.dialled) to.core.tries
    pub done : DoneBy (HaveDialled start new) (start.dialled < new.dialled) (length to.core.addresses) to.does
    pub same : to.core.addresses ≡ first.core.addresses

  happened : (call : NetCall) (event : ClientEvent) (held : List ℕ) → Counted old new call
      → Gains run.core.awaited event (HaveDialled start new) (start.dialled < new.dialled) run.core.tries
      → Fine (goes_on run (Some event, held))
  happened call event held c g =
      let s = steps (HaveDialled start new) (start.dialled < new.dialled) run.core event (fine_on start old new run.core.awaited run.core.tries call c was_fine) g in
      record {
        fine = s.fine;
        done = subst (λ (xs : List (List ℕ)). DoneBy (HaveDialled start new) (start.dialled < new.dialled) (length xs) (step run.core event).0) (sym s.same) s.done;
        same = s.same ∙ was_same;
      }

  came_on : (call : NetCall) (came : Came) → Counted old new call → CameOnLink came → Fine (goes_on run came)
  came_on call (None, held) c h = record { fine = fine_on start old new run.core.awaited run.core.tries call c was_fine; done = tt; same = was_same }
  came_on call (Some event, held) c h = happened call event held c (none_gained run.core.awaited event (HaveDialled start new) (start.dialled < new.dialled) run.core.tries h)

  called : (call : NetCall) → Counted old new call → Fine (after_call run call)
  unfolding after_call
  called (Dial address true) c = happened (Dial address true) events.Dialled [] c (gained start old new run.core.awaited run.core.tries never was_fine c.0 c.1)
  called (Dial address false) c = happened (Dial address false) events.NotDialled [] c (missed start old new run.core.awaited run.core.tries was_fine c.0 c.1)
  called (Write bytes true) c = came_on (Write bytes true) (None, run.held) c tt
  called (Write bytes false) c = came_on (Write bytes false) (Some events.Broken, []) c tt
  called (Read None) c = came_on (Read None) (Some events.Broken, []) c tt
  called (Read (Some bytes)) c = came_on (Read (Some bytes)) (read_of run.held bytes) c (read_on_link run.held bytes)

pub goes : (start old new : Net) (first run to : Run) → Going start first old run → Goes old run new to → Going start first new to
goes start old new first run to g o =
    let le : start.dialled ≤ old.dialled = g.never_falls in
    let up : old.dialled ≤ new.dialled = grown start old new o.call o.made.counts in
    let all = called start old new run g.never_falls g.fine first g.same o.call o.made.counts in
    let here : Going start first new (after_call run o.call) = record {
      failed = failed_on start old new o.call g.failed o.made;
      led = led_on first start.calls old.calls new.calls run o.call g.led o.made.told o.named;
      never_falls = omega arith;
      fine = all.fine;
      done = all.done;
      same = all.same;
    } in
    subst (λ (r : Run). Going start first new r) (sym o.reached) here

pub stops : (start old new : Net) (first run : Run) → Going start first old run → Stops old run new → HaveNamed first start.calls new.calls
stops start old new first run g o = have_named first start.calls new.calls (after_call run o.call) (led_on first start.calls old.calls new.calls run o.call g.led o.made.told o.named)

pub begins : (start : Net) (course : Course) → IsBegun course → Going start (started course) start (started course)
begins start course b =
    let f : FineAt course.awaited (HaveDialled start start) (start.dialled < start.dialled) course.tries
    = subst (λ (c : Course). FineAt c.awaited (HaveDialled start start) (start.dialled < start.dialled) c.tries) (sym b) (inl (omega arith)) in
    let g : Gains course.awaited events.Begin (HaveDialled start start) (start.dialled < start.dialled) course.tries
    = subst (λ (c : Course). Gains c.awaited events.Begin (HaveDialled start start) (start.dialled < start.dialled) c.tries) (sym b) tt in
    let s = steps (HaveDialled start start) (start.dialled < start.dialled) course events.Begin f g in
    record {
      failed = none_failed start;
      led = none_led (started course) start.calls;
      never_falls = omega arith;
      fine = s.fine;
      done = subst (λ (xs : List (List ℕ)). DoneBy (HaveDialled start start) (start.dialled < start.dialled) (length xs) (step course events.Begin).0) (sym s.same) s.done;
      same = refl;
    }

has_cause : (start now : Net) (addresses : ℕ) (end : ClientEnd) → DoneBy (HaveDialled start now) (start.dialled < now.dialled) addresses (does.Done end) → EndHasCause start now addresses end
has_cause start now addresses (client_ends.Result n) d = d
has_cause start now addresses (client_ends.Rows parts) d = d
has_cause start now addresses (client_ends.Refused code text) d = d
has_cause start now addresses (client_ends.NoLeader n) d = d
has_cause start now addresses client_ends.Unknown d = d

-- where the client has ended
pub ends_so : (start now : Net) (first run : Run) (end : ClientEnd) → Going start first now run → run.does ≡ does.Done end
    → HaveEnded first start.calls now.calls end × EndHasCause start now (length first.core.addresses) end
ends_so start now first run end g e = (
  ended_so first start.calls now.calls run end g.led e,
  subst (λ (xs : List (List ℕ)). EndHasCause start now (length xs) end) g.same
      (has_cause start now (length run.core.addresses) end (subst (λ (d : ClientAction). DoneBy (HaveDialled start now) (start.dialled < now.dialled) (length run.core.addresses) d) e g.done)),
)

pub begins_as : (start : Net) (course : Course) (run : Run) → IsBegun course → run ≡ started course → Going start (started course) start run
begins_as start course run b e = subst (λ (r : Run). Going start (started course) start r) (sym e) (begins start course b)

-- before the first call
pub unmoved : (start : Net) (first : Run) → HaveNamed first start.calls start.calls
unmoved start first = have_named first start.calls start.calls first (none_led first start.calls)

-- its outcome
pub ended : (start now : Net) (first run : Run) (r : Result ClientEnd AllocError) → Going start first now run → IfOk r (λ (end : ClientEnd). run.does ≡ does.Done end)
    → Drives start first now r
ended start now first run (Ok end) g e = ends_so start now first run end g e
ended start now first run (Err f) g e = have_named first start.calls now.calls run g.led

-- if memory runs out
pub stopped : (start now : Net) (first : Run) (r : Result ClientEnd AllocError) (f : AllocError) → r ≡ Err f → HaveNamed first start.calls now.calls → Drives start first now r
stopped start now first r f e h = subst (λ (x : Result ClientEnd AllocError). Drives start first now x) (sym e) h

-- ---- one call

goes_as : (run : Run) (came : Option ClientEvent) (left : List ℕ) → goes_on (record run { held = left }) (came, left) ≡ goes_on run (came, left)
goes_as run None left = refl
goes_as run (Some event) left = refl

pub advanced : (old new : Net) (from to : Run) (came : Option ClientEvent) (left : List ℕ) (r : Result Unit AllocError)
    → ((call : NetCall) × Made old new call × IsNamed from.does call × ((came, left) ≡ came_of from.held call))
    → OnOk r (to ≡ goes_on (record from { held = left }) (came, left)) → OnOk r (Goes old from new to)
unfolding after_call
advanced old new from to came left (Err f) made h = tt
advanced old new from to came left (Ok x) (call, made, named, is) h = record {
  call = call;
  made = made;
  named = named;
  reached = h ∙ goes_as from came left ∙ ap (goes_on from) is;
}
