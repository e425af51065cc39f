-- The sessions that are left are a table, of the same connections; what is told to some.
use Rattle.std.proofs.Common.{◌≡◌, ◌≢◌, ℕ, ◌+◌, ◌≤◌, Bool, true, false, cond, List, [], ◌∷◌, ◌++◌, length, Option, Some, None, refl, sym, ap, subst, ◌∙◌, arith}
use Rattle.std.specs.Prelude.{◌==◌}
use Rattle.std.specs.List.{AllByRecursion}
use Rattle.std.proofs.lemmas.List.{length-append}
use Rattle.database_state.specs.Pins.{Pinning}
use Rattle.session_spec.specs.Sessions.{Kind, Opening, Configuring, Writing, Committing, Querying, Flight}
use Rattle.session_table.specs.declared.session.Session.{Session}
use Rattle.session_table.specs.declared.sweep.Event.{Event}
use Rattle.session_table.specs.declared.sweep.Event.TheVariants.{Applied, Lost, Left, Ended}
use Rattle.session_table.specs.Table.{AreApart, IsTable, pins_of}
use Rattle.session_table.specs.Sweeping.{stopped, lost, done, kept_applied, kept_left, kept, all_kept, all_said}
use Rattle.session_table.proofs.Releasing.{all_both}
use Rattle.session_table.proofs.Parting.{pins_append}

-- nothing, or one of the connection
abbrev pub IsOf : ℕ → List Session → Type 0
IsOf conn [] = Unit {0}
IsOf conn (t ∷ []) = t.conn ≡ conn
IsOf conn (t ∷ u ∷ more) = ⊥

done_of : (s : Session) (name : List ℕ) (kind : Kind) → IsOf s.conn (done s name kind ∷ [])
done_of s name Opening = refl
done_of s name (Configuring short) = refl
done_of s name (Writing reply) = refl
done_of s name Committing = refl
done_of s name (Querying statement) = refl

applied_of : (index : ℕ) (s : Session) (flight : Option Flight) → IsOf s.conn (kept_applied index s flight)
applied_of index s None = refl
applied_of index s (Some f) = elim (f.last == index) as (λ (b : Bool). IsOf s.conn (cond b (cond s.hung [] (done s f.name f.kind ∷ [])) (s ∷ []))) [
  | true ↦ elim s.hung as (λ (h : Bool). IsOf s.conn (cond h [] (done s f.name f.kind ∷ []))) [ true ↦ tt | false ↦ done_of s f.name f.kind ]
  | false ↦ refl
]

left_of : (s : Session) (flight : Option Flight) → IsOf s.conn (kept_left s flight)
left_of s None = tt
left_of s (Some f) = refl

kept_of : (event : Event) (s : Session) → IsOf s.conn (kept event s)
kept_of (Applied index) s = applied_of index s s.flight
kept_of Lost s = elim s.hung as (λ (h : Bool). IsOf s.conn (cond h [] (lost s ∷ []))) [ true ↦ tt | false ↦ refl ]
kept_of (Left conn) s = elim (s.conn == conn) as (λ (b : Bool). IsOf s.conn (cond b (kept_left s s.flight) (s ∷ []))) [ true ↦ left_of s s.flight | false ↦ refl ]
kept_of (Ended conn) s = elim (s.conn == conn) as (λ (b : Bool). IsOf s.conn (cond b (stopped s ∷ []) (s ∷ []))) [ true ↦ refl | false ↦ refl ]

-- of another connection than one
abbrev IsOther : ℕ → Session → Type 0
IsOther conn t = conn ≢ t.conn

other_of : (conn own : ℕ) (ts : List Session) → IsOf own ts → conn ≢ own → AllByRecursion (IsOther conn) ts
other_of conn own [] of other = tt
other_of conn own (t ∷ []) of other = ((λ (e : conn ≡ t.conn). other (e ∙ of)), tt)
other_of conn own (t ∷ u ∷ more) of other = absurd of

kept_others : (event : Event) (conn : ℕ) (ss : List Session) → AllByRecursion (IsOther conn) ss → AllByRecursion (IsOther conn) (all_kept event ss)
kept_others event conn [] others = tt
kept_others event conn (s ∷ ss) others = all_both (IsOther conn) (kept event s) (all_kept event ss) (other_of conn s.conn (kept event s) (kept_of event s) others.0) (kept_others event conn ss others.1)

apart_behind : (own : ℕ) (ts rest : List Session) → IsOf own ts → AllByRecursion (IsOther own) rest → AreApart rest → AreApart (ts ++ rest)
apart_behind own [] rest of others apart = apart
apart_behind own (t ∷ []) rest of others apart = (subst (λ (n : ℕ). AllByRecursion (IsOther n) rest) (sym of) others, apart)
apart_behind own (t ∷ u ∷ more) rest of others apart = absurd of

pub kept_apart : (event : Event) (ss : List Session) → AreApart ss → AreApart (all_kept event ss)
kept_apart event [] apart = tt
kept_apart event (s ∷ ss) apart = apart_behind s.conn (kept event s) (all_kept event ss) (kept_of event s) (kept_others event s.conn ss apart.0) (kept_apart event ss apart.1)

one_at_most : (own : ℕ) (ts : List Session) → IsOf own ts → length ts ≤ 1
one_at_most own [] of = omega arith
one_at_most own (t ∷ []) of = omega arith
one_at_most own (t ∷ u ∷ more) of = absurd of

pub kept_few : (event : Event) (ss : List Session) → length (all_kept event ss) ≤ length ss
kept_few event [] = omega arith
kept_few event (s ∷ ss) =
    let whole : length (kept event s ++ all_kept event ss) ≡ length (kept event s) + length (all_kept event ss) = length-append (kept event s) (all_kept event ss) in
    let one : length (kept event s) ≤ 1 = one_at_most s.conn (kept event s) (kept_of event s) in
    let rest : length (all_kept event ss) ≤ length ss = kept_few event ss in
    omega arith

pub kept_table : (event : Event) (ss : List Session) → IsTable ss → IsTable (all_kept event ss)
kept_table event ss table =
    let fewer : length (all_kept event ss) ≤ length ss = kept_few event ss in
    let few : length ss ≤ 64 = table.few in
    record { apart = kept_apart event ss table.apart; few = omega arith }

-- nothing is reported at once, except if an entry is applied
pub lost_says_nothing : (ss : List Session) → all_said Lost ss ≡ []
lost_says_nothing [] = refl
lost_says_nothing (s ∷ ss) = lost_says_nothing ss

pub left_says_nothing : (conn : ℕ) (ss : List Session) → all_said (Left conn) ss ≡ []
left_says_nothing conn [] = refl
left_says_nothing conn (s ∷ ss) = left_says_nothing conn ss

pub ended_says_nothing : (conn : ℕ) (ss : List Session) → all_said (Ended conn) ss ≡ []
ended_says_nothing conn [] = refl
ended_says_nothing conn (s ∷ ss) = ended_says_nothing conn ss

-- no mark is left where leadership is lost
pub lost_unmarked : (ss : List Session) → pins_of (all_kept Lost ss) ≡ []
lost_unmarked [] = refl
lost_unmarked (s ∷ ss) =
    pins_append (kept Lost s) (all_kept Lost ss)
    ∙ ap (λ (pins : List Pinning). pins ++ pins_of (all_kept Lost ss)) (elim s.hung as (λ (h : Bool). pins_of (cond h [] (lost s ∷ [])) ≡ []) [ true ↦ refl | false ↦ refl ])
    ∙ lost_unmarked ss
