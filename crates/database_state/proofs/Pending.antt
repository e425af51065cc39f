-- The pages that are pending for a transaction.
use Rattle.std.proofs.Common.{◌≡◌, ℕ, Bool, true, false, cond, List, [], Option, Some, None, refl, sym, ap, ◌∙◌}
use Rattle.std.proofs.lemmas.Bool.{eqb-true}
use Rattle.dq_base.specs.declared.pages.NumberedPage.{NumberedPage}
use Rattle.dq_base.specs.declared.pages.PageSet.{PageSet}
use Rattle.database_state.specs.Files.{pending_of, pending_without}
use Rattle.database_state.specs.declared.database.Database.{Database}
use Rattle.database_state.specs.Databases.{pages_in, is_pending, with_pending}

pub pages_of_tx : (tx : ℕ) (pending : Option PageSet) → is_pending tx pending ≡ true → pending_of tx pending ≡ pages_in pending
pages_of_tx tx None e = absurd cc
pages_of_tx tx (Some set) e = ap (λ (b : Bool). cond b set.pages []) e

pub none_of_tx : (tx : ℕ) (pending : Option PageSet) → is_pending tx pending ≡ false → pending_of tx pending ≡ []
none_of_tx tx None e = refl
none_of_tx tx (Some set) e = ap (λ (b : Bool). cond b set.pages []) e

pub without_here : (tx : ℕ) (pending : Option PageSet) → is_pending tx pending ≡ true → pending_without tx pending ≡ None
without_here tx None e = absurd cc
without_here tx (Some set) e = ap (λ (b : Bool). cond b None (Some set)) e

pub without_none : (tx : ℕ) (pending : Option PageSet) → is_pending tx pending ≡ false → pending_without tx pending ≡ pending
without_none tx None e = refl
without_none tx (Some set) e = ap (λ (b : Bool). cond b None (Some set)) e

-- pages of a transaction that were taken away and are put back
pub pending_again : (tx : ℕ) (pending : Option PageSet) (pages : List NumberedPage) → is_pending tx pending ≡ true → pages ≡ pages_in pending → Some (record { tx = tx; pages = pages }) ≡ pending
pending_again tx None pages e is = absurd cc
pending_again tx (Some set) pages e is = λ i. Some (record { tx = sym (eqb-true set.tx tx e) i; pages = is i })

pub put_again : (old mid now : Database) (tx : ℕ) (pages : List NumberedPage) → is_pending tx old.pending ≡ true → mid ≡ with_pending None old → pages ≡ pages_in old.pending → now ≡ with_pending (Some (record { tx = tx; pages = pages })) mid → now ≡ old
put_again old mid now tx pages e taken is put =
    put ∙ ap (with_pending (Some (record { tx = tx; pages = pages }))) taken ∙ ap (λ (pending : Option PageSet). with_pending pending old) (pending_again tx old.pending pages e is)
