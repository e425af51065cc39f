-- That no number represents two images: neither for an engine, nor for the open transactions, nor for the databases.
use Rattle.std.specs.Prelude.{◌≡◌, ℕ, ◌<◌, ◌≤◌, ◌==◌, Bool, false, List, length, find, All, Contains, Option, IfSome}
use Rattle.dq_base.specs.declared.images.Image.{Image}
use Rattle.dq_base.specs.declared.image_number.ImageNumber.{ImageNumber}
use Rattle.dq_base.specs.declared.image_number.ImageNumber.TheVariants.{Newest, Working}
use Rattle.sql_engine.specs.Known.{Known}
use Rattle.database_state.specs.ImageNumbers.{Numbered}

-- the image that each number represents: a working image, or a database's newest image by its place and its commits
abbrev pub image_by : (ℕ → Image) → (ℕ → ℕ → Image) → ImageNumber → Image
image_by working newest (Working number) = working number
image_by working newest (Newest place commits) = newest place commits

abbrev pub is_at : ℕ → ImageNumber → Bool
is_at place (Newest other commits) = other == place
is_at place (Working number) = false

-- the newest image of the database of a place, with its number
abbrev pub base_at : ℕ → List Numbered → Option Numbered
base_at place bases = find (λ (base : Numbered). is_at place base.number) bases

-- this many commits are no more than those of the number
abbrev pub IsReached : ℕ → ImageNumber → Type 0
IsReached commits (Newest place others) = commits ≤ others
IsReached commits (Working number) = Unit {0}

-- A number has been given: a working image's is below the next one; the place of a newest image's is that of a database, which
-- has as many commits or more, if it is there.
abbrev pub IsGiven : ℕ → List Numbered → ImageNumber → Type 0
IsGiven next bases (Working number) = number < next
IsGiven next bases (Newest place commits) = (place < length bases) × IfSome (base_at place bases) (λ base. IsReached commits base.number)

-- the number has been given, and it represents this image
pub record IsNamed (working : ℕ → Image) (newest : ℕ → ℕ → Image) (next : ℕ) (bases : List Numbered) (number : ImageNumber) (image : Image) : Type 0 where
  pub is : image ≡ image_by working newest number
  pub given : IsGiven next bases number

-- All numbers have been given, and each represents one image: those of what an engine knows, those of the working images, and
-- those of the databases' newest images.
pub record Agree (known works : List Known) (next : ℕ) (bases : List Numbered) : Type 0 where
  pub working : ℕ → Image
  pub newest : ℕ → ℕ → Image
  pub knows : All (λ k. IsNamed working newest next bases k.number k.image) known
  pub works_so : All (λ k. IsNamed working newest next bases k.number k.image) works
  pub stands_so : All (λ b. IsNamed working newest next bases b.number b.image) bases

-- the image is a transaction's working image of this number, or a database's newest one
pub data Stands (works : List Known) (bases : List Numbered) (number : ImageNumber) (image : Image) : Type 0 where
  as_work : Contains works (record { number = number; image = image }) → Stands works bases number image
  as_base : Contains bases (record { number = number; image = image }) → Stands works bases number image
