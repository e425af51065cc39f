-- What an engine has open, by the numbers of images.
use Rattle.std.specs.Prelude.{◌≡◌, ◌<◌, ℕ, List, All, Contains, Result, Ok}
use Rattle.dq_base.specs.declared.images.Image.{Image}
use Rattle.dq_base.specs.declared.image_number.ImageNumber.{ImageNumber}
use Rattle.dq_base.specs.declared.image_number.ImageNumber.TheVariants.{Newest, Working}
use Rattle.dq_base.specs.Applying.{applied}
use Rattle.sql_engine.specs.declared.answer.StatementResult.{StatementResult}
use Rattle.sql_engine.specs.declared.fault.EngineFault.{EngineFault}
use Rattle.sql_engine.specs.declared.image_numbers.ImageNumbers.{ImageNumbers}

-- an image that is known by a number
pub record Known : Type 0 where
  pub number : ImageNumber
  pub image : Image

-- what is known by this number is this image
abbrev pub Knows : ImageNumber → Image → Known → Type 0
Knows number image known = known.number ≡ number → known.image ≡ image

-- working images have numbers below this one
abbrev pub IsBelow : ℕ → ImageNumber → Type 0
IsBelow next (Newest place commits) = Unit {0}
IsBelow next (Working number) = number < next

-- An engine that knows this may run over an image under these numbers: what it knows by the number of the image is that image,
-- and it knows no working image by the number of the image after, nor by a later one.
pub record MayRun (known : List Known) (image : Image) (numbers : ImageNumbers) : Type 0 where
  pub before : All (Knows numbers.before image) known
  pub after : All (λ k. IsBelow numbers.after k.number) known

-- What is known after a run was known before it, or is the image handed in by its number, or the image that the answer's pages
-- lead to by the number of the image after.
pub data MayKnow (image : Image) (numbers : ImageNumbers) (result : Result StatementResult EngineFault) (before : List Known) (known : Known) : Type 0 where
  was : Contains before known → MayKnow image numbers result before known
  handed : known ≡ record { number = numbers.before; image = image } → MayKnow image numbers result before known
  left : (ran : StatementResult) → result ≡ Ok ran → known ≡ record { number = Working numbers.after; image = applied image ran.after.pages } → MayKnow image numbers result before known

-- What is known was known before, or is this image by this number.
pub data MayKnowBeside (image : Image) (number : ImageNumber) (before : List Known) (known : Known) : Type 0 where
  was : Contains before known → MayKnowBeside image number before known
  handed : known ≡ record { number = number; image = image } → MayKnowBeside image number before known
