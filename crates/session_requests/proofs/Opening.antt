-- What OPEN and DUMP want, case by case.
use Rattle.std.proofs.Common.{◌≡◌, ℕ, Bool, true, false, cond, not, List, length, Option, Some, None, sym, ap, ◌∙◌}
use Rattle.std.specs.Prelude.{nat_lt}
use Rattle.std.specs.Option.{is_some}
use Rattle.std.proofs.lemmas.Bool.{cond-true, cond-false}
use Rattle.dq_base.specs.declared.images.Image.{Image}
use Rattle.page_store.specs.Store.{newest_image}
use Rattle.database_state.specs.declared.database.Database.{Database}
use Rattle.database_state.specs.Databases.{named}
use Rattle.database_state.specs.Machines.{names_of}
use Rattle.session_spec.specs.Causes.{DatabaseOpen, BadName, NoDatabase, AnswerTooBig}
use Rattle.session_spec.specs.Machine.{Machine, machine_of, is_named, base_of}
use Rattle.session_spec.specs.Sessions.{Session, Gateway, View}
use Rattle.session_spec.specs.Asking.{Asked, Never, Tells, Opens, asks_open, asks_new, asks_dump, has_database, is_name, files_of, within_size, body_size}
use Rattle.session_requests.specs.Looking.{files_size}
use Rattle.session_requests.proofs.Finding.{named_there}
use Rattle.session_requests.proofs.Sizes.{files_length}

module _ (v : View) (m : Machine) (g : Gateway) (s : Session) (name : List ℕ) (barriers : Bool) where
  -- what is wanted once no database is open, and of a good name
  closed : Asked
  closed = cond (not (is_name name)) (Never BadName) (cond (is_named m.names name) (Opens name barriers) (asks_new v m g name barriers))

  pub is_open : has_database s ≡ true → Never DatabaseOpen ≡ asks_open v m g s name barriers
  is_open e = ap (λ (b : Bool). cond b (Never DatabaseOpen) (cond (not (is_name name)) (Never BadName) (cond (is_named m.names name) (Opens name barriers) (asks_new v m g name barriers)))) (sym e)

  pub ill_named : has_database s ≡ false → is_name name ≡ false → Never BadName ≡ asks_open v m g s name barriers
  ill_named e n =
      ap (λ (b : Bool). cond (not b) (Never BadName) (cond (is_named m.names name) (Opens name barriers) (asks_new v m g name barriers))) (sym n)
      ∙ ap (λ (b : Bool). cond b (Never DatabaseOpen) (cond (not (is_name name)) (Never BadName) (cond (is_named m.names name) (Opens name barriers) (asks_new v m g name barriers)))) (sym e)

  pub well_named : has_database s ≡ false → is_name name ≡ true → cond (is_named m.names name) (Opens name barriers) (asks_new v m g name barriers) ≡ asks_open v m g s name barriers
  well_named e n =
      ap (λ (b : Bool). cond (not b) (Never BadName) (cond (is_named m.names name) (Opens name barriers) (asks_new v m g name barriers))) (sym n)
      ∙ ap (λ (b : Bool). cond b (Never DatabaseOpen) (cond (not (is_name name)) (Never BadName) (cond (is_named m.names name) (Opens name barriers) (asks_new v m g name barriers)))) (sym e)

  pub is_there : has_database s ≡ false → is_name name ≡ true → is_named m.names name ≡ true → Opens name barriers ≡ asks_open v m g s name barriers
  is_there e n t = sym (cond-true (is_named m.names name) (Opens name barriers) (asks_new v m g name barriers) t) ∙ well_named e n

  pub is_new : (asked : Asked) → has_database s ≡ false → is_name name ≡ true → is_named m.names name ≡ false → asked ≡ asks_new v m g name barriers → asked ≡ asks_open v m g s name barriers
  is_new asked e n t a = a ∙ sym (cond-false (is_named m.names name) (Opens name barriers) (asks_new v m g name barriers) t) ∙ well_named e n

-- ---- the files of a database

module _ (databases : List Database) (name : List ℕ) where
  pub not_there : named name databases ≡ None → Never NoDatabase ≡ asks_dump (machine_of databases) name
  not_there e = sym (cond-false (is_named (names_of databases) name) (within_size (files_of name (base_of (named name databases)).image)) (Never NoDatabase) (named_there name databases ∙ ap is_some e))

  module _ (d : Database) (there : named name databases ≡ Some d) where
    dumped : within_size (files_of name (newest_image d.store)) ≡ asks_dump (machine_of databases) name
    dumped =
        ap (λ (o : Option Database). within_size (files_of name (base_of o).image)) (sym there)
        ∙ sym (cond-true (is_named (names_of databases) name) (within_size (files_of name (base_of (named name databases)).image)) (Never NoDatabase) (named_there name databases ∙ ap is_some there))

    module _ (main side : ℕ) (m : main ≡ length (newest_image d.store).main) (n : side ≡ length (newest_image d.store).side) where
      size : body_size (files_of name (newest_image d.store)) ≡ files_size (length name) main side
      size = files_length name (newest_image d.store) ∙ ap (λ (k : ℕ). files_size (length name) k (length (newest_image d.store).side)) (sym m) ∙ ap (λ (k : ℕ). files_size (length name) main k) (sym n)

      pub too_big : nat_lt 16777216 (files_size (length name) main side) ≡ true → Never AnswerTooBig ≡ asks_dump (machine_of databases) name
      too_big e = sym (cond-true (nat_lt 16777216 (body_size (files_of name (newest_image d.store)))) (Never AnswerTooBig) (Tells (files_of name (newest_image d.store))) (ap (nat_lt 16777216) size ∙ e)) ∙ dumped

      pub told : (image : Image) → image ≡ newest_image d.store → nat_lt 16777216 (files_size (length name) main side) ≡ false → Tells (files_of name image) ≡ asks_dump (machine_of databases) name
      told image i e =
          ap (λ (j : Image). Tells (files_of name j)) i
          ∙ sym (cond-false (nat_lt 16777216 (body_size (files_of name (newest_image d.store)))) (Never AnswerTooBig) (Tells (files_of name (newest_image d.store))) (ap (nat_lt 16777216) size ∙ e))
          ∙ dumped
