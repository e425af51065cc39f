-- Undos, database by database.
use Rattle.std.proofs.Common.{◌≡◌, ℕ, ◌+◌, ◌<◌, ◌≤◌, List, [], ◌∷◌, ◌++◌, length, take, get_or, Option, Some, None, refl, sym, ap, subst, ◌∙◌}
use Rattle.std.specs.List.{AllByRecursion}
use Rattle.std.proofs.lemmas.List.{map-append, take_all, take_more}
use Rattle.dq_base.specs.declared.pages.PageSet.{PageSet}
use Rattle.database_state.specs.declared.database.Database.{Database}
use Rattle.database_state.specs.Databases.{named, tx_pending}
use Rattle.database_state.specs.Machines.{names_of}
use Rattle.raft_spec.specs.Log as raft
use Rattle.session_spec.specs.Entries.{Content, written_in, written}
use Rattle.session_spec.specs.Machine.{Machine, base_of, machine_of}
use Rattle.session_spec.specs.Seen.{HasSpelling}
use Rattle.session_safety.specs.Logs.{with_undo, undos_for, undos}
use Rattle.applied_state.specs.Office.{undo_of}

one_undo : (o : Option Database) → undo_of (tx_pending o) ≡ with_undo (base_of o).pending []
one_undo None = refl
one_undo (Some d) = by d.pending
  where
    by : (o : Option PageSet) → undo_of (tx_pending (Some (record d { pending = o }))) ≡ with_undo o []
    by None = refl
    by (Some set) = refl

pushes : (o : Option PageSet) (xs ys : List Content) → with_undo o (xs ++ ys) ≡ with_undo o xs ++ ys
pushes None xs ys = refl
pushes (Some set) xs ys = refl

undos_more : (m : Machine) (names : List (List ℕ)) (n : List ℕ) → undos_for m (names ++ n ∷ []) ≡ undos_for m names ++ with_undo (m.base n).pending []
undos_more m [] n = refl
undos_more m (k ∷ names) n = ap (with_undo (m.base k).pending) (undos_more m names n) ∙ pushes (m.base k).pending (undos_for m names) (with_undo (m.base n).pending [])

all_append : (xs ys : List Content) → AllByRecursion HasSpelling xs → AllByRecursion HasSpelling ys → AllByRecursion HasSpelling (xs ++ ys)
all_append [] ys a b = b
all_append (x ∷ xs) ys a b = (a.0, all_append xs ys a.1 b)

-- the Undos of the databases in front of a place
abbrev pub undos_to : List Database → ℕ → List Content
undos_to ds place = undos_for (machine_of ds) (names_of (take place ds))

next_undos : (ds : List Database) (place : ℕ) (d e : Database) (pending : Option ℕ) → place < length ds → d ≡ get_or ds place e → pending ≡ tx_pending (named d.name ds) → undos_to ds place ++ undo_of pending ≡ undos_to ds (place + 1)
next_undos ds place d e pending within is tx =
    ap (λ (us : List Content). undos_to ds place ++ us) (ap undo_of tx ∙ one_undo (named d.name ds))
    ∙ sym (undos_more (machine_of ds) (names_of (take place ds)) d.name)
    ∙ ap (undos_for (machine_of ds))
    (sym (map-append (λ (x : Database). x.name) (take place ds) (d ∷ []))
    ∙ ap names_of (ap (λ (x : Database). take place ds ++ x ∷ []) is ∙ sym (take_more ds place e within)))

pub undo_pushed : (term : ℕ) (ds : List Database) (place : ℕ) (d e : Database) (pending : Option ℕ) (old new : List raft.Entry) → place < length ds → d ≡ get_or ds place e → pending ≡ tx_pending (named d.name ds)
    → new ≡ old ++ written term (undo_of pending) → old ≡ written term (undos_to ds place) → new ≡ written term (undos_to ds (place + 1))
undo_pushed term ds place d e pending old new within is tx now before =
    now ∙ ap (λ (es : List raft.Entry). es ++ written term (undo_of pending)) before ∙ sym (map-append (written_in term) (undos_to ds place) (undo_of pending))
    ∙ ap (written term) (next_undos ds place d e pending within is tx)

pub undo_spelled : (ds : List Database) (place : ℕ) (d e : Database) (pending : Option ℕ) → place < length ds → d ≡ get_or ds place e → pending ≡ tx_pending (named d.name ds)
    → AllByRecursion HasSpelling (undo_of pending) → AllByRecursion HasSpelling (undos_to ds place) → AllByRecursion HasSpelling (undos_to ds (place + 1))
undo_spelled ds place d e pending within is tx one before =
    subst (AllByRecursion HasSpelling) (next_undos ds place d e pending within is tx) (all_append (undos_to ds place) (undo_of pending) before one)

pub all_undos : (ds : List Database) (place : ℕ) → length ds ≤ place → undos_to ds place ≡ undos (machine_of ds)
unfolding undos
all_undos ds place all = ap (λ (xs : List Database). undos_for (machine_of ds) (names_of xs)) (take_all place ds all)
