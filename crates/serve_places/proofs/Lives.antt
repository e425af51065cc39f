-- Each number lives once.
use Rattle.std.proofs.Common.{◌≡◌, ◌≢◌, ◌+◌, ◌<◌, ◌≤◌, ℕ, List, [], ◌∷◌, get_or, sym, ap, subst, ◌∙◌, arith, ⊎_elim}
use Rattle.std.proofs.Common.{get_or-set_same, get_or-set_other}
use Rattle.std.proofs.lemmas.Bool.{cases_eq}
use Rattle.serve_traits.specs.declared.event.Event.{Event}
use Rattle.serve_traits.specs.declared.event.Event.TheVariants.{Timeout, Beat, Yield, Connect, Bytes, Hangup, Peer, ReadDone}
use Rattle.serve_places.specs.Numbers.{Numbers, AreFresh, GivesNumber, FreesSocket, EventsCome, IsFinished, IsOpen, LivesOnce}

-- the number at a socket
abbrev at : Numbers → ℕ → ℕ
at numbers socket = get_or numbers.places socket 0

-- Each number that has a socket was given, and has one socket.
record AreSound (numbers : Numbers) : Type 0 where
  below : (socket : ℕ) → at numbers socket < numbers.next
  one : (a b : ℕ) → at numbers a ≡ at numbers b → at numbers a ≢ 0 → a ≡ b

given_here : (old new : Numbers) (s n : ℕ) → GivesNumber old new s n → at new s ≡ n
given_here old new s n g = ap (λ (ps : List ℕ). get_or ps s 0) g.places ∙ get_or-set_same old.places s n 0 g.within

given_else : (old new : Numbers) (s n : ℕ) → GivesNumber old new s n → (i : ℕ) → i ≢ s → at new i ≡ at old i
given_else old new s n g i ne = ap (λ (ps : List ℕ). get_or ps i 0) g.places ∙ get_or-set_other old.places s i n 0 ne

given_below : (old new : Numbers) (s n : ℕ) → AreSound old → GivesNumber old new s n → (i : ℕ) → at new i < new.next
given_below old new s n sound g i = ⊎_elim
    (λ (e : i ≡ s).
    let v : at new i ≡ n = ap (at new) e ∙ given_here old new s n g in
    let x : new.next ≡ n + 1 = g.next in omega arith)
    (λ (ne : i ≢ s).
    let v : at new i ≡ at old i = given_else old new s n g i ne in
    let b : at old i < old.next = sound.below i in
    let m : n ≡ old.next = g.taken in
    let x : new.next ≡ n + 1 = g.next in omega arith)
    (cases_eq i s)

-- the new number is at no other socket
given_alone : (old new : Numbers) (s n : ℕ) → AreSound old → GivesNumber old new s n → (i : ℕ) → at new i ≡ n → i ≡ s
given_alone old new s n sound g i same = ⊎_elim
    (λ (e : i ≡ s). e)
    (λ (ne : i ≢ s).
    let v : at new i ≡ at old i = given_else old new s n g i ne in
    let b : at old i < old.next = sound.below i in
    let m : n ≡ old.next = g.taken in omega arith)
    (cases_eq i s)

given_one : (old new : Numbers) (s n : ℕ) → AreSound old → GivesNumber old new s n → (a b : ℕ) → at new a ≡ at new b → at new a ≢ 0 → a ≡ b
given_one old new s n sound g a b same some = ⊎_elim
    (λ (e : a ≡ s).
    let v : at new b ≡ n = sym same ∙ ap (at new) e ∙ given_here old new s n g in
    e ∙ sym (given_alone old new s n sound g b v))
    (λ (ne : a ≢ s). ⊎_elim
    (λ (e : b ≡ s).
    let v : at new a ≡ n = same ∙ ap (at new) e ∙ given_here old new s n g in
    given_alone old new s n sound g a v ∙ sym e)
    (λ (other : b ≢ s).
    let v : at new a ≡ at old a = given_else old new s n g a ne in
    let w : at new b ≡ at old b = given_else old new s n g b other in
    sound.one a b (sym v ∙ same ∙ w) (λ (z : at old a ≡ 0). some (v ∙ z)))
    (cases_eq b s))
    (cases_eq a s)

given_sound : (old new : Numbers) (s n : ℕ) → AreSound old → GivesNumber old new s n → AreSound new
given_sound old new s n sound g = record { below = given_below old new s n sound g; one = given_one old new s n sound g }

freed_below : (old new : Numbers) (s : ℕ) → AreSound old → FreesSocket old new s → (i : ℕ) → at new i < new.next
freed_below old new s sound f i = ⊎_elim
    (λ (e : i ≡ s).
    let v : at new i ≡ 0 = ap (at new) e ∙ f.freed in
    let b : at old s < old.next = sound.below s in
    let x : new.next ≡ old.next = f.next in omega arith)
    (λ (ne : i ≢ s).
    let v : at new i ≡ at old i = f.others i ne in
    let b : at old i < old.next = sound.below i in
    let x : new.next ≡ old.next = f.next in omega arith)
    (cases_eq i s)

freed_one : (old new : Numbers) (s : ℕ) → AreSound old → FreesSocket old new s → (a b : ℕ) → at new a ≡ at new b → at new a ≢ 0 → a ≡ b
freed_one old new s sound f a b same some = ⊎_elim
    (λ (e : a ≡ s). absurd (some (ap (at new) e ∙ f.freed)))
    (λ (ne : a ≢ s). ⊎_elim
    (λ (e : b ≡ s). absurd (some (same ∙ ap (at new) e ∙ f.freed)))
    (λ (other : b ≢ s).
    let v : at new a ≡ at old a = f.others a ne in
    let w : at new b ≡ at old b = f.others b other in
    sound.one a b (sym v ∙ same ∙ w) (λ (z : at old a ≡ 0). some (v ∙ z)))
    (cases_eq b s))
    (cases_eq a s)

freed_sound : (old new : Numbers) (s : ℕ) → AreSound old → FreesSocket old new s → AreSound new
freed_sound old new s sound f = record { below = freed_below old new s sound f; one = freed_one old new s sound f }

-- a number that has a socket is another one than one that was not given
met_else : (numbers : Numbers) (n m s : ℕ) → AreSound numbers → numbers.next ≤ n → at numbers s ≡ m → m ≢ n
met_else numbers n m s sound new there e =
    let b : at numbers s < numbers.next = sound.below s in omega arith

-- no socket has the number, which was given
record IsGone (numbers : Numbers) (n : ℕ) : Type 0 where
  given : n < numbers.next
  gone : (socket : ℕ) → at numbers socket ≢ n

given_gone : (old new : Numbers) (s m n : ℕ) → GivesNumber old new s m → IsGone old n → IsGone new n
given_gone old new s m n g gone =
    let b : n < old.next = gone.given in
    let e : m ≡ old.next = g.taken in
    let x : new.next ≡ m + 1 = g.next in
    record {
      given = omega arith;
      gone = λ i same. ⊎_elim
          (λ (h : i ≡ s). let v : at new i ≡ m = ap (at new) h ∙ given_here old new s m g in omega arith)
          (λ (ne : i ≢ s). gone.gone i (sym (given_else old new s m g i ne) ∙ same))
          (cases_eq i s);
    }

freed_gone : (old new : Numbers) (s n : ℕ) → n ≢ 0 → FreesSocket old new s → IsGone old n → IsGone new n
freed_gone old new s n some f gone = record {
  given = let b : n < old.next = gone.given in let x : new.next ≡ old.next = f.next in omega arith;
  gone = λ i same. ⊎_elim
      (λ (h : i ≡ s). some (sym same ∙ ap (at new) h ∙ f.freed))
      (λ (ne : i ≢ s). gone.gone i (sym (f.others i ne) ∙ same))
      (cases_eq i s);
}

-- the number whose socket is freed is gone
left_gone : (old new : Numbers) (s n : ℕ) → n ≢ 0 → AreSound old → at old s ≡ n → FreesSocket old new s → IsGone new n
left_gone old new s n some sound there f = record {
  given = let b : at old s < old.next = sound.below s in let x : new.next ≡ old.next = f.next in omega arith;
  gone = λ i same. ⊎_elim
      (λ (h : i ≡ s). some (sym same ∙ ap (at new) h ∙ f.freed))
      (λ (ne : i ≢ s).
      let v : at old i ≡ n = sym (f.others i ne) ∙ same in
      ne (sound.one i s (v ∙ sym there) (λ (z : at old i ≡ 0). some (sym v ∙ z))))
      (cases_eq i s);
}

over : {T : Type 0} (old new : Numbers) (events : List (Event T)) (n : ℕ) → n ≢ 0 → IsGone old n → EventsCome old events new → IsFinished n events
unfolding EventsCome IsFinished
over old new [] n some gone came = tt
over old new (Connect m ∷ events) n some gone (next, met, rest) =
    let b : n < old.next = gone.given in
    let e : m ≡ old.next = met.gives.taken in
    ((λ (h : m ≡ n). omega arith), over next new events n some (given_gone old next met.socket m n met.gives gone) rest)
over old new (Bytes m piece ∷ events) n some gone (next, heard, rest) = (
  (λ (h : m ≡ n). gone.gone heard.socket (heard.there ∙ h)),
  over next new events n some (subst (λ (x : Numbers). IsGone x n) (sym heard.same) gone) rest,
)
over old new (Hangup m ∷ events) n some gone (next, left, rest) = (
  (λ (h : m ≡ n). gone.gone left.socket (left.there ∙ h)),
  over next new events n some (freed_gone old next left.socket n some left.frees gone) rest,
)
over old new (Timeout ∷ events) n some gone (next, never, rest) = absurd never
over old new (Beat ∷ events) n some gone (next, never, rest) = absurd never
over old new (Yield ∷ events) n some gone (next, never, rest) = absurd never
over old new (Peer message ∷ events) n some gone (next, never, rest) = absurd never
over old new (ReadDone m told ∷ events) n some gone (next, never, rest) = absurd never

is_open : {T : Type 0} (old new : Numbers) (events : List (Event T)) (n s : ℕ) → n ≢ 0 → AreSound old → at old s ≡ n →
    EventsCome old events new → IsOpen n events
unfolding EventsCome IsOpen
is_open old new [] n s some sound there came = tt
is_open old new (Connect m ∷ events) n s some sound there (next, met, rest) =
    let b : at old s < old.next = sound.below s in
    let e : m ≡ old.next = met.gives.taken in
    let ne : s ≢ met.socket = λ (h : s ≡ met.socket). some (sym there ∙ ap (at old) h ∙ met.gives.was_free) in (
      (λ (h : m ≡ n). omega arith),
      is_open next new events n s some (given_sound old next met.socket m sound met.gives) (given_else old next met.socket m met.gives s ne ∙ there) rest,
    )
is_open old new (Bytes m piece ∷ events) n s some sound there (next, heard, rest) =
    is_open next new events n s some (subst AreSound (sym heard.same) sound) (ap (λ (x : Numbers). at x s) heard.same ∙ there) rest
is_open old new (Hangup m ∷ events) n s some sound there (next, left, rest) = (
  (λ (h : m ≡ n). over next new events n some (left_gone old next left.socket n some sound (left.there ∙ h) left.frees) rest),
  (λ (ne : m ≢ n).
      let apart : s ≢ left.socket = λ (h : s ≡ left.socket). ne (sym left.there ∙ ap (at old) (sym h) ∙ there) in
      is_open next new events n s some (freed_sound old next left.socket sound left.frees) (left.frees.others s apart ∙ there) rest),
)
is_open old new (Timeout ∷ events) n s some sound there (next, never, rest) = absurd never
is_open old new (Beat ∷ events) n s some sound there (next, never, rest) = absurd never
is_open old new (Yield ∷ events) n s some sound there (next, never, rest) = absurd never
is_open old new (Peer message ∷ events) n s some sound there (next, never, rest) = absurd never
is_open old new (ReadDone m told ∷ events) n s some sound there (next, never, rest) = absurd never

lives : {T : Type 0} (old new : Numbers) (events : List (Event T)) (n : ℕ) → n ≢ 0 → AreSound old → old.next ≤ n →
    EventsCome old events new → LivesOnce n events
unfolding EventsCome LivesOnce
lives old new [] n some sound later came = tt
lives old new (Connect m ∷ events) n some sound later (next, met, rest) =
    let e : m ≡ old.next = met.gives.taken in
    let x : next.next ≡ m + 1 = met.gives.next in
    let still : AreSound next = given_sound old next met.socket m sound met.gives in (
      (λ (h : m ≡ n). is_open next new events n met.socket some still (given_here old next met.socket m met.gives ∙ h) rest),
      (λ (ne : m ≢ n). lives next new events n some still (omega (arith, ne)) rest),
    )
lives old new (Bytes m piece ∷ events) n some sound later (next, heard, rest) = (
  met_else old n m heard.socket sound later heard.there,
  lives next new events n some (subst AreSound (sym heard.same) sound) (subst (λ (x : Numbers). x.next ≤ n) (sym heard.same) later) rest,
)
lives old new (Hangup m ∷ events) n some sound later (next, left, rest) =
    let x : next.next ≡ old.next = left.frees.next in (
      met_else old n m left.socket sound later left.there,
      lives next new events n some (freed_sound old next left.socket sound left.frees) (omega arith) rest,
    )
lives old new (Timeout ∷ events) n some sound later (next, never, rest) = absurd never
lives old new (Beat ∷ events) n some sound later (next, never, rest) = absurd never
lives old new (Yield ∷ events) n some sound later (next, never, rest) = absurd never
lives old new (Peer message ∷ events) n some sound later (next, never, rest) = absurd never
lives old new (ReadDone m told ∷ events) n some sound later (next, never, rest) = absurd never

fresh_sound : (numbers : Numbers) → AreFresh numbers → AreSound numbers
fresh_sound numbers fresh = record {
  below = λ i. let v : at numbers i ≡ 0 = fresh.none i in let x : numbers.next ≡ 1 = fresh.next in omega arith;
  one = λ a b same some. absurd (some (fresh.none a));
}

pub lives_once : {T : Type 0} (before after : Numbers) (events : List (Event T)) → AreFresh before → EventsCome before events after →
    (n : ℕ) → n ≢ 0 → LivesOnce n events
lives_once before after events fresh came n some =
    let x : before.next ≡ 1 = fresh.next in
    lives before after events n some (fresh_sound before fresh) (omega (arith, some)) came
