-- Wrong histories, which the laws of this crate refuse.
use Rattle.std.specs.Prelude.{◌≡◌, ℕ, ◌<◌, Bool, true, false, List, [], ◌∷◌, take, Some, slice_get}
use Rattle.dq_base.specs.declared.images.Image.{Image}
use Rattle.sql_scan.specs.declared.pieces.StatementSpan.{StatementSpan}
use Rattle.sql_scan.specs.declared.heading.WordKind.TheVariants as words
use Rattle.sql_engine.specs.Meanings.{Meaning}
use Rattle.headline.specs.Headline.{Observation, IsAt, StaysUp, Change, image_in, HoldsOfAll}
use Rattle.headline.specs.Laws.{StaysInImages, IsMarked, IsSole, MarksImages, leads, execs, done, d, starts, wrote}

-- The image of BEGIN has a mark that no statement takes away. The image that the transaction has reached with its first write lacks it.
abbrev pub NoMarkLostInside : Meaning → Type 0
NoMarkLostInside m =
    (marked : Image → Bool) (begin sql : List ℕ) (one two : StatementSpan) (at_once : Bool) (count : ℕ) (more : List Observation) →
    IsSole begin one (words.Begin at_once) → IsSole sql two words.Write → StaysInImages m (IsMarked marked) →
    (x : HoldsOfAll m (starts (execs 1 1 begin ∷ done 1 1 0 ∷ execs 1 1 sql ∷ done 1 1 count ∷ more))) → marked (x.work 3) ≡ true →
    marked (x.work 5) ≡ false → ⊥

-- There are two changes of one database. The first one's image has a mark that no statement takes away, and the second one's lacks it.
abbrev pub NoMarkLostByChange : Meaning → Type 0
NoMarkLostByChange m =
    (h : List Observation) (x : HoldsOfAll m h) (marked : Image → Bool) (c e : Change) → StaysInImages m (IsMarked marked) → x.order ≡ c ∷ e ∷ [] →
    e.name ≡ c.name → marked c.after ≡ true → marked e.after ≡ false → ⊥

-- The first change of all makes a mark that no statement takes away, and after some more changes its database lacks it.
abbrev pub NoMarkLostLater : Meaning → Type 0
NoMarkLostLater m =
    (h : List Observation) (x : HoldsOfAll m h) (marked : Image → Bool) (c : Change) (k : ℕ) (image : Image) → StaysInImages m (IsMarked marked) →
    slice_get x.order 0 ≡ Some c → marked c.after ≡ true → 0 < k → image_in (take k x.order) c.name ≡ Some image → marked image ≡ false → ⊥

-- A write is answered, and long after it, with anything between, its node shows files without it, though the node did not go down.
abbrev pub NoWriteLostEver : Meaning → Type 0
NoWriteLostEver m =
    (marked : Image → Bool) (sql : List ℕ) (span : StatementSpan) (count shown term applied : ℕ) (image : Image) (more : List Observation) →
    MarksImages m marked sql span → HoldsOfAll m (wrote sql count more) → IsAt (wrote sql count more) shown (leads 1 term applied (d image ∷ [])) →
    4 < shown → StaysUp (wrote sql count more) 1 4 shown → marked image ≡ false → ⊥
