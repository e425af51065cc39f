-- Reading a statement's words one after the other gives its kind.
use Rattle.std.proofs.Common.{◌≡◌, true, false, List, [], ◌∷◌, refl}
use Rattle.std.specs.List.{fold}
use Rattle.sql_scan.specs.declared.heading.Keyword.{Keyword}
use Rattle.sql_scan.specs.declared.heading.Keyword.TheVariants.{Begin, Deferred, AtOnce, Transaction, Commit, Rollback, Write, LeftOut, Plain}
use Rattle.sql_scan.specs.declared.heading.WordKind.{WordKind}
use Rattle.sql_scan.specs.declared.heading.WordKind.TheVariants as kinds
use Rattle.sql_scan.specs.declared.heading.StatementHead.TheVariants.{Begun, Open, Full, Settled}
use Rattle.sql_scan.specs.Words.{followed_by, kind_so_far}
use Rattle.sql_scan.specs.Kinds.{with_transaction, begin_kind, kind_of, heading_of}

settled : (kind : WordKind) (words : List Keyword) → kind_so_far (fold followed_by (Settled kind) words) ≡ kind
unfolding followed_by kind_so_far
settled kind [] = refl
settled kind (word ∷ others) = settled kind others

full : (kind : WordKind) (word : Keyword) (others : List Keyword) → kind_so_far (fold followed_by (Full kind) (word ∷ others)) ≡ kinds.LeftOut
unfolding followed_by
full kind word others = settled kinds.LeftOut others

opened : (kind : WordKind) (words : List Keyword) → kind_so_far (fold followed_by (Open kind) words) ≡ with_transaction kind words
unfolding followed_by kind_so_far
opened kind [] = refl
opened kind (Transaction ∷ []) = refl
opened kind (Transaction ∷ word ∷ others) = full kind word others
opened kind (Begin ∷ others) = settled kinds.LeftOut others
opened kind (Deferred ∷ others) = settled kinds.LeftOut others
opened kind (AtOnce ∷ others) = settled kinds.LeftOut others
opened kind (Commit ∷ others) = settled kinds.LeftOut others
opened kind (Rollback ∷ others) = settled kinds.LeftOut others
opened kind (Write ∷ others) = settled kinds.LeftOut others
opened kind (LeftOut ∷ others) = settled kinds.LeftOut others
opened kind (Plain ∷ others) = settled kinds.LeftOut others

begun : (words : List Keyword) → kind_so_far (fold followed_by Begun words) ≡ begin_kind words
unfolding followed_by kind_so_far
begun [] = refl
begun (Deferred ∷ others) = opened (kinds.Begin false) others
begun (AtOnce ∷ others) = opened (kinds.Begin true) others
begun (Transaction ∷ []) = refl
begun (Transaction ∷ word ∷ others) = full (kinds.Begin false) word others
begun (Begin ∷ others) = settled kinds.LeftOut others
begun (Commit ∷ others) = settled kinds.LeftOut others
begun (Rollback ∷ others) = settled kinds.LeftOut others
begun (Write ∷ others) = settled kinds.LeftOut others
begun (LeftOut ∷ others) = settled kinds.LeftOut others
begun (Plain ∷ others) = settled kinds.LeftOut others

pub kind_is : (words : List Keyword) → kind_so_far (heading_of words) ≡ kind_of words
unfolding followed_by kind_so_far kind_of
kind_is [] = refl
kind_is (Begin ∷ others) = begun others
kind_is (Commit ∷ others) = opened kinds.Commit others
kind_is (Rollback ∷ others) = opened kinds.Rollback others
kind_is (Write ∷ others) = settled kinds.Write others
kind_is (LeftOut ∷ others) = settled kinds.LeftOut others
kind_is (Deferred ∷ others) = settled kinds.Other others
kind_is (AtOnce ∷ others) = settled kinds.Other others
kind_is (Transaction ∷ others) = settled kinds.Other others
kind_is (Plain ∷ others) = settled kinds.Other others
