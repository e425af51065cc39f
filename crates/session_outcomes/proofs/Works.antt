-- No number represents two images around a run at a session.
use Rattle.std.proofs.Common.{◌≡◌, ℕ, ◌+◌, List, [], ◌∷◌, ◌++◌, map, All, Contains, Option, Some, None, option_map, Result, Ok, Err, IfOk, refl, sym, subst, arith}
use Rattle.std.specs.List.{AllByRecursion}
use Rattle.std.specs.declared.alloc.AllocError.{AllocError}
use Rattle.std.proofs.lemmas.List.Elements.{Contains-append_left}
use Rattle.dq_base.specs.declared.images.Image.{Image}
use Rattle.dq_base.specs.declared.image_number.ImageNumber.{ImageNumber}
use Rattle.dq_base.specs.declared.image_number.ImageNumber.TheVariants.{Working}
use Rattle.sql_engine.specs.Known.{Known, MayRun}
use Rattle.sql_engine.proofs.Knowing.{all_contained}
use Rattle.database_state.specs.declared.database.Database.{Database}
use Rattle.database_state.specs.Databases.{named}
use Rattle.database_state.specs.Files.{empty_image}
use Rattle.database_state.specs.ImageNumbers.{Numbered, number_of, numbered}
use Rattle.session_spec.specs.Machine.{machine_of}
use Rattle.session_statements.specs.Agreeing.{Agree, Stands, as_work, as_base}
use Rattle.session_statements.specs.Learning.{IsLearnt, was, left_by}
use Rattle.session_statements.specs.declared.ending.Ending.{Ending}
use Rattle.session_statements.proofs.Agreeing.{may_run, fewer, ran}
use Rattle.session_statements.proofs.AgreeingOn.{numbered_in}
use Rattle.session_table.specs.declared.session.Transaction.{Transaction}
use Rattle.session_table.specs.declared.change.Change.{Change}
use Rattle.session_table.specs.declared.change.Change.TheVariants as changes
use Rattle.session_table.specs.Working.{with_number, work_of, work_made, AreAmong, IsNewest}
use Rattle.session_table.proofs.Placing.{at_place}
use Rattle.session_table.proofs.Releasing.{all_also, all_both}
use Rattle.session_table.proofs.Works.{among_more, newest_work}
use Rattle.session_outcomes.specs.declared.decision.Decision.{Decision}
use Rattle.session_outcomes.specs.declared.decision.Decision.TheVariants as decisions
use Rattle.session_outcomes.specs.Numbers.{work_in, works_in, work_left, MayRunOver}

-- ---- images that represent their numbers

-- these images are working images, or newest ones, by their numbers
abbrev pub AllStand : List Known → List Numbered → List Known → Type 0
AllStand works bases these = AllByRecursion (λ (k : Known). Stands works bases k.number k.image) these

one_newest : (works : List Known) (databases : List Database) (k : Known) → IsNewest databases k → Stands works (map numbered databases) k.number k.image
one_newest works databases k is =
    let same : numbered is.database ≡ record { number = k.number; image = k.image } = (λ i. record { number = sym is.number i; image = sym is.image i }) in
    as_base (subst (Contains (map numbered databases)) same (numbered_in databases is.database is.among))

-- the newest image of the database of a name does
pub newest_stands : (works : List Known) (name : List ℕ) (databases : List Database) (number : Option ImageNumber) (image : Image) → number ≡ option_map number_of (named name databases) → image ≡ ((machine_of databases).base name).image
    → AllStand works (map numbered databases) (with_number number image)
newest_stands works name databases number image numbered_so shown =
    all_also (IsNewest databases) (λ (k : Known). Stands works (map numbered databases) k.number k.image) (with_number number image) (one_newest works databases) (newest_work name databases number image numbered_so shown)

-- working images do
pub works_stand : (works these : List Known) (bases : List Numbered) → AreAmong works these → AllStand works bases these
works_stand works these bases among = all_also (Contains works) (λ (k : Known). Stands works bases k.number k.image) these (λ k c. as_work c) among

pub may_over : (known works : List Known) (bases : List Numbered) (number : ℕ) (these : List Known) → MayRunOver known works bases number → AllStand works bases these
    → AllByRecursion (λ (k : Known). MayRun known k.image (record { before = k.number; after = number })) these
may_over known works bases number these may stand = all_also (λ (k : Known). Stands works bases k.number k.image) (λ (k : Known). MayRun known k.image (record { before = k.number; after = number })) these (λ k s. may k.number k.image s) stand

-- those that stand among fewer working images stand among more
pub more_stand : (works fewer_works : List Known) (bases : List Numbered) (number : ImageNumber) (image : Image) → AreAmong works fewer_works → Stands fewer_works bases number image → Stands works bases number image
more_stand works fewer_works bases number image among (as_work c) =
    as_work (subst (Contains works) c.2 (at_place (Contains works) fewer_works c.0 (record { number = number; image = image }) c.1 among))
more_stand works fewer_works bases number image among (as_base c) = as_base c

pub may_over_all : (known works own : List Known) (bases : List Numbered) (number : ℕ) → Agree known works number bases → AreAmong works own → MayRunOver known own bases number
may_over_all known works own bases number a among before image stands = may_run known works number bases before image a (more_stand works own bases before image among stands)

-- ---- what an engine knows after a run

stands_where : (works : List Known) (bases : List Numbered) (before : Option ImageNumber) (image : Image) → AllStand works bases (with_number before image) → (n : ImageNumber) → before ≡ Some n → Stands works bases n image
stands_where works bases None image stand n e = absurd cc
stands_where works bases (Some m) image stand n e = subst (λ (k : ImageNumber). Stands works bases k image) (some_number m n e) stand.0
  where
    some_number : (m n : ImageNumber) → Some m ≡ Some n → m ≡ n
    some_number m n e = cc

pub agree_ran : (known now works : List Known) (number : ℕ) (bases : List Numbered) (before : Option ImageNumber) (image : Image) (ending : Ending) → AllStand works bases (with_number before image) → Agree known works number bases
    → All (IsLearnt known before image number (left_by image ending)) now → Agree now (work_left image number ending ++ works) (number + 1) bases
agree_ran known now works number bases before image ending stand a learnt = ran known now works number bases before image (left_by image ending) a (stands_where works bases before image stand) learnt

none_stands : (works : List Known) (bases : List Numbered) (image : Image) (n : ImageNumber) → None ≡ Some n → Stands works bases n image
none_stands works bases image n e = absurd cc

-- if it knows no more than before
pub agree_left : (known now works : List Known) (number : ℕ) (bases : List Numbered) (image : Image) (ending : Ending) → All (Contains known) now → Agree known works number bases → Agree now (work_left image number ending ++ works) (number + 1) bases
agree_left known now works number bases image ending kept a = ran known now works number bases None image (left_by image ending) a (none_stands works bases image) (λ k d lt. was (kept k d lt))

pub learnt_at : (known now : List Known) (before : Option ImageNumber) (number : ImageNumber) (image : Image) (after : ℕ) (left : Image) → before ≡ Some number → All (IsLearnt known (Some number) image after left) now → All (IsLearnt known before image after left) now
learnt_at known now before number image after left is learnt = subst (λ (o : Option ImageNumber). All (IsLearnt known o image after left) now) (sym is) learnt

-- over the newest image of the database of a name
pub agree_lent : (known now works : List Known) (number : ℕ) (databases : List Database) (name : List ℕ) (before : Option ImageNumber) (image : Image) (ending : Ending) → before ≡ option_map number_of (named name databases) → image ≡ ((machine_of databases).base name).image
    → All (IsLearnt known before image number (left_by image ending)) now → Agree known works number (map numbered databases) → Agree now (work_left ((machine_of databases).base name).image number ending ++ works) (number + 1) (map numbered databases)
agree_lent known now works number databases name before image ending numbered_so shown learnt a =
    subst (λ (i : Image). Agree now (work_left i number ending ++ works) (number + 1) (map numbered databases)) shown
    (agree_ran known now works number (map numbered databases) before image ending (newest_stands works name databases before image numbered_so shown) a learnt)

-- over the working image of a transaction
pub own_works : (tx : Option Transaction) (x : Transaction) (works : List Known) → tx ≡ Some x → AreAmong works (work_of tx) → AreAmong works (with_number x.number x.working)
own_works tx x works is among = subst (λ (t : Option Transaction). AreAmong works (work_of t)) is among

pub agree_inside : (known now works : List Known) (number : ℕ) (bases : List Numbered) (tx : Option Transaction) (x : Transaction) (ground : Image) (ending : Ending) → tx ≡ Some x → ground ≡ x.working
    → All (IsLearnt known x.number x.working number (left_by x.working ending)) now → AreAmong works (work_of tx) → Agree known works number bases → Agree now (work_left ground number ending ++ works) (number + 1) bases
agree_inside known now works number bases tx x ground ending is same learnt among a =
    subst (λ (i : Image). Agree now (work_left i number ending ++ works) (number + 1) bases) (sym same)
    (agree_ran known now works number bases x.number x.working ending (works_stand works (with_number x.number x.working) bases (own_works tx x works is among)) a learnt)

pub of_none : {X : Type 0} (P : X → Type 0) (xs : List X) → xs ≡ [] → All P xs
of_none P xs e = subst (All P) (sym e) (λ k d lt. absurd (omega (arith, lt)))

-- ---- and after the decision

-- of fewer working images
pub agree_fewer : (known works fewer_works : List Known) (next : ℕ) (bases : List Numbered) → AreAmong works fewer_works → Agree known works next bases → Agree known fewer_works next bases
agree_fewer known works fewer_works next bases among a = fewer known known works fewer_works next bases (all_contained known) (λ k d lt. at_place (Contains works) fewer_works k d lt among) a

pub agree_turned : (known made works : List Known) (next : ℕ) (bases : List Numbered) (r : Result Decision AllocError) (tx : Option Transaction) → IfOk r (λ decision. AreAmong made (work_in decision tx)) → Agree known (made ++ works) next bases
    → Agree known (works_in r tx ++ works) next bases
agree_turned known made works next bases (Ok decision) tx among a =
    agree_fewer known (made ++ works) (work_in decision tx ++ works) next bases
    (all_both (Contains (made ++ works)) (work_in decision tx) works
    (all_also (Contains made) (Contains (made ++ works)) (work_in decision tx) (λ k c. Contains-append_left made works k c) among)
    (among_more made works)) a
agree_turned known made works next bases (Err e) tx among a = agree_fewer known (made ++ works) works next bases (among_more made works) a

-- if nothing was left, a number that was drawn is left out
pub agree_later : (known works : List Known) (number : ℕ) (bases : List Numbered) (image : Image) → Agree known works number bases → Agree known works (number + 1) bases
agree_later known works number bases image a =
    agree_fewer known (record { number = Working number; image = image } ∷ works) works (number + 1) bases (among_more (record { number = Working number; image = image } ∷ []) works)
    (ran known known works number bases None image image a (none_stands works bases image) (λ k d lt. was (all_contained known k d lt)))

no_change : (change : Change) → work_made change None ≡ []
no_change changes.Stays = refl
no_change (changes.Opens name barriers) = refl
no_change (changes.Creates flight barriers) = refl
no_change (changes.Lends query) = refl
no_change (changes.Prepares prepared) = refl
no_change (changes.Drops id) = refl
no_change changes.Forgets = refl
no_change (changes.Works pages number) = refl
no_change (changes.Flies flight) = refl

no_work : (decision : Decision) → work_in decision None ≡ []
no_work (decisions.Refused cause) = refl
no_work (decisions.Answers change reply) = no_change change
no_work (decisions.Begins at_once) = refl
no_work decisions.Ends = refl
no_work (decisions.Proposes flight entries) = refl
no_work (decisions.Creates flight entries barriers) = refl
no_work (decisions.Lends query job) = refl
no_work (decisions.Affects effect) = refl

-- outside a transaction no decision makes a working image
pub none_outside : (r : Result Decision AllocError) (made : List Known) → IfOk r (λ decision. AreAmong made (work_in decision None))
none_outside (Ok decision) made = subst (AreAmong made) (sym (no_work decision)) tt
none_outside (Err e) made = tt

-- and an engine that ran statements knows no more than before
pub agree_stopped : (known now works : List Known) (number : ℕ) (bases : List Numbered) → All (Contains known) now → Agree known works number bases → Agree now works (number + 1) bases
agree_stopped known now works number bases kept a = agree_later now works number bases empty_image (fewer known now works works number bases kept (all_contained works) a)

-- if nothing ran, and the decision makes no working image
pub agree_idle : (known works : List Known) (number : ℕ) (bases : List Numbered) (r : Result Decision AllocError) (tx : Option Transaction) → IfOk r (λ decision. (other : Option Transaction) → work_in decision other ≡ []) → Agree known works number bases
    → Agree known (works_in r tx ++ works) (number + 1) bases
agree_idle known works number bases (Ok decision) tx none a = subst (λ (made : List Known). Agree known (made ++ works) (number + 1) bases) (sym (none tx)) (agree_later known works number bases empty_image a)
agree_idle known works number bases (Err e) tx none a = agree_later known works number bases empty_image a
