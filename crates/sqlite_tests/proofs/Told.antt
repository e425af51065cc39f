-- What an engine learns of images, over its calls.
use Rattle.std.proofs.Common.{ℕ, ◌+◌, List, refl, sym, subst, arith, Result}
use Rattle.std.specs.List.{All}
use Rattle.std.proofs.lemmas.List.Elements.{All-weaker, All-contains}
use Rattle.dq_base.specs.declared.images.Image.{Image}
use Rattle.dq_base.specs.declared.image_number.ImageNumber.{ImageNumber}
use Rattle.dq_base.specs.declared.image_number.ImageNumber.TheVariants.{Newest, Working}
use Rattle.sql_engine.specs.declared.answer.StatementResult.{StatementResult}
use Rattle.sql_engine.specs.declared.fault.EngineFault.{EngineFault}
use Rattle.sql_engine.specs.declared.image_numbers.ImageNumbers.{ImageNumbers}
use Rattle.sql_engine.specs.Known.{Known, Knows, IsBelow, MayRun, MayKnow, MayKnowBeside, was, handed, left}
use Rattle.sqlite_tests.specs.Told.{IsNumbered, IsTold, AreTold}

abbrev pub numbers_of : ℕ → ℕ → ImageNumbers
numbers_of commits works = record { before = Newest 0 commits; after = works }

one_more : (newest : Image) (commits works : ℕ) (image : Image) (number : ImageNumber) → IsNumbered newest commits works image number → IsNumbered newest commits (works + 1) image number
one_more newest commits works image (Newest place count) h = h
one_more newest commits works image (Working number) h = omega (arith, h)

pub still_told : (newest : Image) (commits works : ℕ) (known : List Known) → AreTold newest commits works known → AreTold newest commits (works + 1) known
still_told newest commits works known told =
    All-weaker (IsTold newest commits works) (IsTold newest commits (works + 1)) (λ k h. one_more newest commits works k.image k.number h) known told

is_below : (newest : Image) (commits works : ℕ) (image : Image) (number : ImageNumber) → IsNumbered newest commits works image number → IsBelow works number
is_below newest commits works image (Newest place count) h = tt
is_below newest commits works image (Working number) h = h

-- a statement may run over the newest image
pub may_run : (newest : Image) (commits works : ℕ) (known : List Known) → AreTold newest commits works known → MayRun known newest (numbers_of commits works)
may_run newest commits works known told = record {
  before = All-weaker (IsTold newest commits works) (Knows (Newest 0 commits) newest) (λ k h is. (subst (λ (n : ImageNumber). IsNumbered newest commits works k.image n) is h).1 refl) known told;
  after = All-weaker (IsTold newest commits works) (λ (k : Known). IsBelow works k.number) (λ k h. is_below newest commits works k.image k.number h) known told;
}

pub told_by_run : (newest : Image) (commits works : ℕ) (result : Result StatementResult EngineFault) (old now : List Known) → AreTold newest commits works old → All (MayKnow newest (numbers_of commits works) result old) now
    → AreTold newest commits (works + 1) now
told_by_run newest commits works result old now told h = All-weaker (MayKnow newest (numbers_of commits works) result old) (IsTold newest commits (works + 1)) go now h
  where
    go : (k : Known) → MayKnow newest (numbers_of commits works) result old k → IsTold newest commits (works + 1) k
    go k (was c) = one_more newest commits works k.image k.number (All-contains (IsTold newest commits works) old k told c)
    go k (handed e) = subst (λ (x : Known). IsTold newest commits (works + 1) x) (sym e) (omega arith, λ same. refl)
    go k (left ran o e) = subst (λ (x : Known). IsTold newest commits (works + 1) x) (sym e) (omega arith)

-- an image after one more commit may be told
pub may_tell : (before : Image) (commits works : ℕ) (image : Image) (known : List Known) → AreTold before commits works known → All (Knows (Newest 0 (commits + 1)) image) known
may_tell before commits works image known told =
    All-weaker (IsTold before commits works) (Knows (Newest 0 (commits + 1)) image) (λ k h is. absurd (let few = (subst (λ (n : ImageNumber). IsNumbered before commits works k.image n) is h).0 in omega (arith, few))) known told

later : (before newest : Image) (commits works : ℕ) (image : Image) (number : ImageNumber) → IsNumbered before commits works image number → IsNumbered newest (commits + 1) works image number
later before newest commits works image (Newest place count) h = let few = h.0 in (omega (arith, few), λ same. absurd (omega (arith, few, same)))
later before newest commits works image (Working number) h = h

pub told_of_newest : (before newest : Image) (commits works : ℕ) (old now : List Known) → AreTold before commits works old → All (MayKnowBeside newest (Newest 0 (commits + 1)) old) now → AreTold newest (commits + 1) works now
told_of_newest before newest commits works old now told h = All-weaker (MayKnowBeside newest (Newest 0 (commits + 1)) old) (IsTold newest (commits + 1) works) go now h
  where
    go : (k : Known) → MayKnowBeside newest (Newest 0 (commits + 1)) old k → IsTold newest (commits + 1) works k
    go k (was c) = later before newest commits works k.image k.number (All-contains (IsTold before commits works) old k told c)
    go k (handed e) = subst (λ (x : Known). IsTold newest (commits + 1) works x) (sym e) (omega arith, λ same. refl)
