-- How the entries of transactions are in a log.
use Rattle.std.specs.Prelude.{◌≡◌, ℕ, ◌-◌, ◌<◌, ◌≤◌, ◌^◌, Bool, false, List, slice_get, Some}
use Rattle.dq_base.specs.declared.pages.NumberedPage.{NumberedPage}
use Rattle.log_commands.specs.declared.command.Command.TheVariants.{Frames}
use Rattle.session_spec.specs.Entries.{Does, Entry, tx_of}

-- At the index, from 1, stands an entry of this term with pages of this transaction for the database of the name.
pub record Bears (log : List Entry) (index : ℕ) (name : List ℕ) (tx : ℕ) (commit : Bool) (term : ℕ) (pages : List NumberedPage) : Type 0 where
  pub truncate : ℕ
  pub is : slice_get log (index - 1) ≡ Some (record { term = term; content = Does (Frames name tx truncate commit pages) })

-- The transaction of an entry with pages is that of its term and of a first index; it is the entry of that index, or right
-- before it stands another of its transaction that does not commit.
pub record Follows (log : List Entry) (index : ℕ) (name : List ℕ) (tx term : ℕ) : Type 0 where
  pub first : ℕ
  pub is : tx ≡ tx_of term first
  pub small : first < 2 ^ 32
  pub low : 0 < first
  pub high : first ≤ index
  pub before : first < index → (pages : List NumberedPage) × Bears log (index - 1) name tx false term pages

-- A woven log: the entries of each transaction are in one piece.
pub record Woven (log : List Entry) : Type 0 where
  pub at : (index : ℕ) (name : List ℕ) (tx term : ℕ) (commit : Bool) (pages : List NumberedPage) → 0 < index → Bears log index name tx commit term pages → Follows log index name tx term
