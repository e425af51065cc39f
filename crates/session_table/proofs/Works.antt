-- The working images of sessions that come, change and go.
use Rattle.std.proofs.Common.{◌≡◌, ℕ, zero, suc, ◌<◌, Bool, true, false, cond, List, [], ◌∷◌, ◌++◌, length, set, get_or, find, Option, Some, None, option_map, ◌⊎◌, inl, inr, refl, sym, ap, subst, ◌∙◌, arith}
use Rattle.std.specs.Prelude.{◌==◌}
use Rattle.std.specs.List.{AllByRecursion, Contains}
use Rattle.std.proofs.lemmas.Bool.{cases_Bool, cond-true, cond-false}
use Rattle.std.proofs.lemmas.List.{append_assoc, append-nil, get_or_default}
use Rattle.std.proofs.lemmas.List.Elements.{Contains-append_cases, Contains-append_left, Contains-append_right}
use Rattle.dq_base.specs.declared.images.Image.{Image}
use Rattle.dq_base.specs.declared.image_number.ImageNumber.{ImageNumber}
use Rattle.sql_engine.specs.Known.{Known}
use Rattle.database_state.specs.declared.database.Database.{Database}
use Rattle.database_state.specs.Databases.{has_name, named}
use Rattle.database_state.specs.ImageNumbers.{number_of}
use Rattle.session_spec.specs.Machine.{machine_of, base_of}
use Rattle.session_spec.specs.Sessions.{Kind, Opening, Configuring, Writing, Committing, Querying, Flight}
use Rattle.session_table.specs.declared.session.Session.{Session}
use Rattle.session_table.specs.declared.session.Transaction.{Transaction}
use Rattle.session_table.specs.declared.change.Change.{Change}
use Rattle.session_table.specs.declared.sweep.Event.{Event}
use Rattle.session_table.specs.declared.sweep.Event.TheVariants.{Applied, Lost, Left, Ended}
use Rattle.session_table.specs.Changing.{FreshFor, with_transaction}
use Rattle.session_table.specs.Sweeping.{lost, stopped, done, kept_applied, kept_left, kept, all_kept}
use Rattle.session_table.specs.Working.{with_number, work_of, works_of, work_made, AreAmong, IsNewest}
use Rattle.session_table.proofs.Gaining.{some_same, none_found}
use Rattle.session_table.proofs.Releasing.{all_front, all_back, all_both, all_also}

-- ---- lists of images

pub all_among : (xs : List Known) → AreAmong xs xs
all_among [] = tt
all_among (x ∷ xs) = ((0, omega arith, refl), all_also (Contains xs) (Contains (x ∷ xs)) xs (λ k c. Contains-append_right (x ∷ []) xs k c) (all_among xs))

pub among_more : (xs ys : List Known) → AreAmong (xs ++ ys) ys
among_more xs ys = all_also (Contains ys) (Contains (xs ++ ys)) ys (λ k c. Contains-append_right xs ys k c) (all_among ys)

pub works_append : (xs ys : List Session) → works_of (xs ++ ys) ≡ works_of xs ++ works_of ys
works_append [] ys = refl
works_append (x ∷ xs) ys = ap (λ (works : List Known). work_of x.transaction ++ works) (works_append xs ys) ∙ sym (append_assoc (work_of x.transaction) (works_of xs) (works_of ys))

-- that of the session at a place is one of all
own_work : (ss : List Session) (place : ℕ) (d : Session) (k : Known) → place < length ss → Contains (work_of (get_or ss place d).transaction) k → Contains (works_of ss) k
own_work [] place d k within c = absurd (omega (arith, within))
own_work (s ∷ ss) zero d k within c = Contains-append_left (work_of s.transaction) (works_of ss) k c
own_work (s ∷ ss) (suc place) d k within c = Contains-append_right (work_of s.transaction) (works_of ss) k (own_work ss place d k (omega (arith, within)) c)

pub own_among : (ss : List Session) (place : ℕ) (d : Session) → place < length ss → AreAmong (works_of ss) (work_of (get_or ss place d).transaction)
own_among ss place d within = all_also (Contains (work_of (get_or ss place d).transaction)) (Contains (works_of ss)) (work_of (get_or ss place d).transaction) (λ k c. own_work ss place d k within c) (all_among (work_of (get_or ss place d).transaction))

-- of any property of all working images
module _ (P : Known → Type 0) where
  alone : (s : Session) → AllByRecursion P (work_of s.transaction) → AllByRecursion P (works_of (s ∷ []))
  alone s so = all_both P (work_of s.transaction) [] so tt

  done_works : (s : Session) (name : List ℕ) (kind : Kind) → AllByRecursion P (work_of s.transaction) → AllByRecursion P (works_of (done s name kind ∷ []))
  done_works s name Opening so = alone s so
  done_works s name (Configuring short) so = alone s so
  done_works s name (Writing reply) so = alone s so
  done_works s name Committing so = tt
  done_works s name (Querying statement) so = alone s so

  applied_works : (index : ℕ) (s : Session) (flight : Option Flight) → AllByRecursion P (work_of s.transaction) → AllByRecursion P (works_of (kept_applied index s flight))
  applied_works index s None so = alone s so
  applied_works index s (Some f) so = elim (f.last == index) as (λ (b : Bool). AllByRecursion P (works_of (cond b (cond s.hung [] (done s f.name f.kind ∷ [])) (s ∷ [])))) [
    | true ↦ elim s.hung as (λ (h : Bool). AllByRecursion P (works_of (cond h [] (done s f.name f.kind ∷ [])))) [ true ↦ tt | false ↦ done_works s f.name f.kind so ]
    | false ↦ alone s so
  ]

  left_works : (s : Session) (flight : Option Flight) → AllByRecursion P (work_of s.transaction) → AllByRecursion P (works_of (kept_left s flight))
  left_works s None so = tt
  left_works s (Some f) so = alone s so

  kept_works : (event : Event) (s : Session) → AllByRecursion P (work_of s.transaction) → AllByRecursion P (works_of (kept event s))
  kept_works (Applied index) s so = applied_works index s s.flight so
  kept_works Lost s so = elim s.hung as (λ (h : Bool). AllByRecursion P (works_of (cond h [] (lost s ∷ [])))) [ true ↦ tt | false ↦ tt ]
  kept_works (Left conn) s so = elim (s.conn == conn) as (λ (b : Bool). AllByRecursion P (works_of (cond b (kept_left s s.flight) (s ∷ [])))) [ true ↦ left_works s s.flight so | false ↦ alone s so ]
  kept_works (Ended conn) s so = elim (s.conn == conn) as (λ (b : Bool). AllByRecursion P (works_of (cond b (stopped s ∷ []) (s ∷ [])))) [ true ↦ tt | false ↦ alone s so ]

  pub all_kept_works : (event : Event) (ss : List Session) → AllByRecursion P (works_of ss) → AllByRecursion P (works_of (all_kept event ss))
  all_kept_works event [] so = tt
  all_kept_works event (s ∷ ss) so = subst (AllByRecursion P) (sym (works_append (kept event s) (all_kept event ss)))
      (all_both P (works_of (kept event s)) (works_of (all_kept event ss))
      (kept_works event s (all_front P (work_of s.transaction) (works_of ss) so))
      (all_kept_works event ss (all_back P (work_of s.transaction) (works_of ss) so)))

  pub set_works : (ss : List Session) (place : ℕ) (to : Session) → AllByRecursion P (works_of ss) → AllByRecursion P (work_of to.transaction) → AllByRecursion P (works_of (set ss place to))
  set_works [] place to so own = so
  set_works (s ∷ ss) zero to so own = all_both P (work_of to.transaction) (works_of ss) own (all_back P (work_of s.transaction) (works_of ss) so)
  set_works (s ∷ ss) (suc place) to so own =
      all_both P (work_of s.transaction) (works_of (set ss place to))
      (all_front P (work_of s.transaction) (works_of ss) so)
      (set_works ss place to (all_back P (work_of s.transaction) (works_of ss) so) own)

-- a session in the place of one with the same working image
pub same_works : (ss : List Session) (place : ℕ) (to : Session) → work_of (get_or ss place to).transaction ≡ work_of to.transaction → works_of (set ss place to) ≡ works_of ss
same_works [] place to same = refl
same_works (s ∷ ss) zero to same = ap (λ (works : List Known). works ++ works_of ss) (sym same)
same_works (s ∷ ss) (suc place) to same = ap (λ (works : List Known). work_of s.transaction ++ works) (same_works ss place to same)

-- what is left of them is of before
pub kept_among : (event : Event) (ss : List Session) → AreAmong (works_of ss) (works_of (all_kept event ss))
kept_among event ss = all_kept_works (Contains (works_of ss)) event ss (all_among (works_of ss))

-- ---- a session that comes, changes, or begins a transaction

pub more_works : (ss : List Session) (new : Session) (conn : ℕ) → FreshFor conn new → works_of (ss ++ new ∷ []) ≡ works_of ss
more_works ss new conn is = works_append ss (new ∷ []) ∙ ap (λ (works : List Known). works_of ss ++ (works ++ [])) is.workless ∙ append-nil (works_of ss)

pub changed_works : (ss : List Session) (place : ℕ) (change : Change) (s to own : Session) → place < length ss → s ≡ get_or ss place s → AreAmong (work_made change s.transaction ++ work_of s.transaction) (work_of to.transaction)
    → AreAmong (work_made change (get_or ss place own).transaction ++ works_of ss) (works_of (set ss place to))
changed_works ss place change s to own within is so =
    let same : get_or ss place own ≡ s = get_or_default ss place own s within ∙ sym is in
    let made : List Known = work_made change s.transaction in
    let mine : List Known = work_of s.transaction in
    let all : List Known = works_of ss in
    let one : (k : Known) → Contains (made ++ mine) k → Contains (made ++ all) k = λ k c. elim (Contains-append_cases made mine k c) [
      | inl new ↦ Contains-append_left made all k new
      | inr old ↦ Contains-append_right made all k (own_work ss place s k within (subst (λ (t : Session). Contains (work_of t.transaction) k) is old))
    ] in
    subst (λ (t : Session). AreAmong (work_made change t.transaction ++ all) (works_of (set ss place to))) (sym same)
    (set_works (Contains (made ++ all)) ss place to (among_more made all) (all_also (Contains (made ++ mine)) (Contains (made ++ all)) (work_of to.transaction) one so))

-- an image is one of before, or a newest one
abbrev pub IsOldOrNewest : List Session → List Database → Known → Type 0
IsOldOrNewest ss databases work = Contains (works_of ss) work ⊎ IsNewest databases work

pub old_works : (ss : List Session) (databases : List Database) → AllByRecursion (IsOldOrNewest ss databases) (works_of ss)
old_works ss databases = all_also (Contains (works_of ss)) (IsOldOrNewest ss databases) (works_of ss) (λ k c. inl c) (all_among (works_of ss))

pub begun_works : (ss after : List Session) (place : ℕ) (d : Session) (x : Transaction) (databases : List Database) → after ≡ set ss place (with_transaction (get_or ss place d) x) → AllByRecursion (IsNewest databases) (work_of (Some x))
    → AllByRecursion (IsOldOrNewest ss databases) (works_of after)
begun_works ss after place d x databases put newest =
    subst (λ (all : List Session). AllByRecursion (IsOldOrNewest ss databases) (works_of all)) (sym put)
    (set_works (IsOldOrNewest ss databases) ss place (with_transaction (get_or ss place d) x) (old_works ss databases)
    (all_also (IsNewest databases) (IsOldOrNewest ss databases) (work_of (Some x)) (λ k is. inr is) newest))

-- ---- the newest image of the database of a name

found_in : (test : Database → Bool) (ds : List Database) (d : Database) → find test ds ≡ Some d → Contains ds d
found_in test [] d e = absurd (none_found d e)
found_in test (x ∷ ds) d e = elim (cases_Bool (test x)) [
  | inl here ↦ (0, omega arith, some_same x d (sym (cond-true (test x) (Some x) (find test ds) here) ∙ e))
  | inr elsewhere ↦ Contains-append_right (x ∷ []) ds d (found_in test ds d (sym (cond-false (test x) (Some x) (find test ds) elsewhere) ∙ e))
]

newest_where : (databases : List Database) (found : Option Database) → ((d : Database) → found ≡ Some d → Contains databases d) → AllByRecursion (IsNewest databases) (with_number (option_map number_of found) (base_of found).image)
newest_where databases None in_it = tt
newest_where databases (Some d) in_it = (record { database = d; among = in_it d refl; number = refl; image = refl }, tt)

pub newest_work : (name : List ℕ) (databases : List Database) (number : Option ImageNumber) (image : Image) → number ≡ option_map number_of (named name databases) → image ≡ ((machine_of databases).base name).image
    → AllByRecursion (IsNewest databases) (with_number number image)
newest_work name databases number image numbered shown =
    subst (λ (n : Option ImageNumber). AllByRecursion (IsNewest databases) (with_number n image)) (sym numbered)
    (subst (λ (i : Image). AllByRecursion (IsNewest databases) (with_number (option_map number_of (named name databases)) i)) (sym shown)
    (newest_where databases (named name databases) (λ d e. found_in (has_name name) databases d e)))
