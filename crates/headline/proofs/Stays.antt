-- What a change made of an image and no statement takes away is in all later images.
use Rattle.std.proofs.Common.{◌≡◌, ⊎_elim, ℕ, zero, suc, ◌<◌, ◌≤◌, Bool, true, false, List, [], ◌∷◌, take, refl, sym, ap, ◌∙◌, subst, arith}
use Rattle.std.specs.Prelude.{Option, Some, None, slice_get, bytes_eq, if◌then◌else◌}
use Rattle.dq_base.specs.declared.images.Image.{Image}
use Rattle.sql_engine.specs.Replies.{Statement, Reply}
use Rattle.sql_engine.specs.Meanings.{Meaning}
use Rattle.sql_engine.specs.Runs.{RanAll}
use Rattle.std.proofs.lemmas.Bool.{cases_lt}
use Rattle.session_spec.proofs.Names.{same_name, name_is}
use Rattle.headline.specs.Clients.{Client, Purpose, Never, Opens, Begins, Commits, RollsBack, Runs, Prepares, Drops, Dumps, Empties, Other}
use Rattle.wire_msgs.specs.declared.request.Request.{Request}
use Rattle.headline.specs.Headline.{Observation, Asks, client_at, purpose_at, Change, image_in, RanFrom, MakesChange, HoldsOfAll}
use Rattle.headline.specs.Laws.{HasProperty, StaysInImages}
use Rattle.headline.proofs.Lists.{take_one, take_none, image_one}

-- statements that ran keep it
pub ran_keeps : (m : Meaning) (P : Image → Type 0) (b a : Image) (ss : List Statement) (rs : List Reply) → StaysInImages m P → RanAll m b ss a rs → P b → P a
ran_keeps m P b a [] [] keeps e p = subst P e p
ran_keeps m P b a [] (r ∷ rs) keeps e p = absurd e
ran_keeps m P b a (s ∷ ss) [] keeps e p = absurd e
ran_keeps m P b a (s ∷ ss) (r ∷ rs) keeps (next, (runs, rest)) p = ran_keeps m P next a ss rs keeps rest (keeps b next s r runs p)

some_is : (a b : Image) → Some a ≡ Some b → a ≡ b
some_is a b e = cc

-- what is led to from an image that has it
ran_from : (m : Meaning) (P : Image → Type 0) (o : Option Image) (image a : Image) (ss : List Statement) (rs : List Reply) → StaysInImages m P →
    o ≡ Some image → P image →
    RanFrom m o ss a rs → P a
ran_from m P o image a ss rs keeps is p (before, from, ran) =
    ran_keeps m P before a ss rs keeps ran (subst P (some_is image before (sym is ∙ from)) p)

-- a message that is no COMMIT
abbrev pub NoCommit : Purpose → Type 0
NoCommit Never = Unit {0}
NoCommit (Opens name barriers) = Unit {0}
NoCommit Begins = Unit {0}
NoCommit Commits = ⊥
NoCommit RollsBack = Unit {0}
NoCommit (Runs rows ss) = Unit {0}
NoCommit (Prepares p tail) = Unit {0}
NoCommit (Drops id) = Unit {0}
NoCommit (Dumps name) = Unit {0}
NoCommit Empties = Unit {0}
NoCommit Other = Unit {0}

-- no message of a history is a COMMIT
abbrev pub Plain : List Observation → Type 0
Plain h = (place node conn : ℕ) (request : Option Request) → slice_get h place ≡ Some (Asks node conn request) → NoCommit (purpose_at h conn place request)

-- a change after changes that have it has it
makes_keeps : (m : Meaning) (P : Image → Type 0) (earlier : List Change) (rests : ℕ → ℕ) (work : ℕ → Image) (s : Client) (w : Purpose) (c : Change)
    (image : Image) → StaysInImages m P →
    NoCommit w → image_in earlier c.name ≡ Some image → P image → MakesChange m earlier rests work s w c → P c.after
makes_keeps m P earlier rests work s (Opens name barriers) c image keeps plain is p (same, none, after) =
    let e : image_in earlier name ≡ Some image = subst (λ n. image_in earlier n ≡ Some image) same is in absurd cc
makes_keeps m P earlier rests work s (Runs rows ss) c image keeps plain is p (same, out, (replies, ran)) =
    ran_from m P (image_in earlier s.name) image c.after ss replies keeps (subst (λ n. image_in earlier n ≡ Some image) same is) p ran
makes_keeps m P earlier rests work s Commits c image keeps plain is p h = absurd plain
makes_keeps m P earlier rests work s Never c image keeps plain is p h = absurd h
makes_keeps m P earlier rests work s Begins c image keeps plain is p h = absurd h
makes_keeps m P earlier rests work s RollsBack c image keeps plain is p h = absurd h
makes_keeps m P earlier rests work s (Prepares q tail) c image keeps plain is p h = absurd h
makes_keeps m P earlier rests work s (Drops id) c image keeps plain is p h = absurd h
makes_keeps m P earlier rests work s (Dumps name) c image keeps plain is p h = absurd h
makes_keeps m P earlier rests work s Empties c image keeps plain is p h = absurd h
makes_keeps m P earlier rests work s Other c image keeps plain is p h = absurd h

at_by : (P : Image → Type 0) (b : Bool) (o : Option Image) (image a : Image) → o ≡ Some image → P image → (b ≡ true → P a) →
    HasProperty P (if b then Some a else o)
at_by P true o image a is p h = (a, refl, h refl)
at_by P false o image a is p h = (image, is, p)

one_more : (m : Meaning) (P : Image → Type 0) (h : List Observation) (x : HoldsOfAll m h) (name : List ℕ) (k : ℕ) (o : Option Change) →
    slice_get x.order k ≡ o → StaysInImages m P → Plain h →
    HasProperty P (image_in (take k x.order) name) → HasProperty P (image_in (take (suc k) x.order) name)
one_more m P h x name k None e keeps calm has = subst (λ cs. HasProperty P (image_in cs name)) (sym (take_none x.order k e)) has
one_more m P h x name k (Some d) e keeps calm (image, is, p) =
    let comes = (x.comes k d e).0 in
    let after : bytes_eq d.name name ≡ true → P d.after = λ same.
    makes_keeps m P (take k x.order) x.rests x.work (client_at h comes.conn d.place) (purpose_at h comes.conn d.place comes.request) d image keeps
    (calm d.place comes.node comes.conn comes.request comes.asked)
    (subst (λ n. image_in (take k x.order) n ≡ Some image) (sym (name_is d.name name same)) is) p comes.makes in
    subst (HasProperty P) (sym (ap (λ cs. image_in cs name) (take_one x.order k d e) ∙ image_one (take k x.order) d name))
    (at_by P (bytes_eq d.name name) (image_in (take k x.order) name) image d.after is p after)

first_has : (m : Meaning) (P : Image → Type 0) (h : List Observation) (x : HoldsOfAll m h) (i : ℕ) (c : Change) → slice_get x.order i ≡ Some c → P c.after →
    HasProperty P (image_in (take (suc i) x.order) c.name)
first_has m P h x i c e p =
    let same : bytes_eq c.name c.name ≡ true = same_name c.name in (
      c.after,
      ap (λ cs. image_in cs c.name) (take_one x.order i c e) ∙ image_one (take i x.order) c c.name ∙ ap
          (λ b. if b then Some c.after else image_in (take i x.order) c.name) same,
      p,
    )

-- what an image has, each later one has
pub stays_from : (m : Meaning) (P : Image → Type 0) (h : List Observation) (x : HoldsOfAll m h) (name : List ℕ) (i k : ℕ) → StaysInImages m P → Plain h →
    i ≤ k →
    HasProperty P (image_in (take i x.order) name) → HasProperty P (image_in (take k x.order) name)
stays_from m P h x name i zero keeps calm le has = let e : i ≡ 0 = omega (arith, le) in subst (λ j. HasProperty P (image_in (take j x.order) name)) e has
stays_from m P h x name i (suc k) keeps calm le has =
    ⊎_elim
    (λ (q : i < suc k). one_more m P h x name k (slice_get x.order k) refl keeps calm (stays_from m P h x name i k keeps calm (omega (arith, q)) has))
    (λ (q : suc k ≤ i). let same : i ≡ suc k = omega (arith, q, le) in subst (λ j. HasProperty P (image_in (take j x.order) name)) same has)
    (cases_lt i (suc k))

pub stays : (m : Meaning) (P : Image → Type 0) (h : List Observation) (x : HoldsOfAll m h) (i k : ℕ) (c : Change) → slice_get x.order i ≡ Some c → P c.after →
    StaysInImages m P → Plain h → i < k →
    HasProperty P (image_in (take k x.order) c.name)
stays m P h x i k c e p keeps calm lt = stays_from m P h x c.name (suc i) k keeps calm lt (first_has m P h x i c e p)
