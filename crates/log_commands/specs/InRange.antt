-- When the numbers of a Frames command are in range, in other words than those of the test.
use Rattle.std.specs.Prelude.{◌≡◌, ℕ, ◌<◌, ◌≤◌, Bool, true, false, List, [], ◌∷◌, ◌++◌, length}
use Rattle.std.specs.List.{All, AllPairs}
use Rattle.dq_base.specs.declared.pages.NumberedPage.{NumberedPage}
use Rattle.dq_base.specs.Applying.{is_sizes}
use Rattle.log_commands.specs.Numbers.{most_pages, highest_number, stated_count}

-- Each number is above all before it, none is above the highest, and none is 1.
pub record Ascend (pages : List NumberedPage) : Type 0 where
  pub ascending : AllPairs (λ p q. p.number < q.number) pages
  pub low : All (λ p. p.number ≤ highest_number) pages
  pub not_one : All (λ p. ¬ (p.number ≡ 1)) pages

-- Pages that end a transaction: the last is a sizes page that states the page count, and the others ascend.
pub record Ends (truncate : ℕ) (pages : List NumberedPage) : Type 0 where
  pub front : List NumberedPage
  pub sizes : NumberedPage
  pub parts : pages ≡ front ++ sizes ∷ []
  pub valid : is_sizes sizes ≡ true
  pub count : truncate ≡ stated_count sizes.page
  pub ascend : Ascend front

-- Pages after which the transaction continues: they ascend, and no page count is stated.
pub record GoesOn (truncate : ℕ) (pages : List NumberedPage) : Type 0 where
  pub none : truncate ≡ 0
  pub ascend : Ascend pages

abbrev pub EndsOrGoesOn : ℕ → Bool → List NumberedPage → Type 0
EndsOrGoesOn truncate true pages = Ends truncate pages
EndsOrGoesOn truncate false pages = GoesOn truncate pages

-- No number of a Frames command is out of its range.
pub record AreInRange (truncate : ℕ) (commit : Bool) (pages : List NumberedPage) : Type 0 where
  pub some : 1 ≤ length pages
  pub few : length pages ≤ most_pages
  pub part : EndsOrGoesOn truncate commit pages
