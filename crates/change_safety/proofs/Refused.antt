-- The wrong lists and files are refused.
use Rattle.std.proofs.Common.{◌≡◌, ℕ, false, List, [], ◌∷◌, length, take, refl, sym, ap, ◌∙◌, arith}
use Rattle.std.specs.Prelude.{bytes_eq, codes, Some, None, if◌then◌else◌}
use Rattle.std.specs.Option.{option_or}
use Rattle.std.proofs.lemmas.List.{take_all}
use Rattle.dq_base.specs.declared.images.Image.{Image}
use Rattle.dq_base.specs.declared.pages.NumberedPage.{NumberedPage}
use Rattle.log_commands.specs.declared.command.Command.TheVariants.{OpenDb, Frames}
use Rattle.database_state.specs.ByName.{at_name}
use Rattle.session_spec.specs.Machine.{act, files}
use Rattle.session_spec.proofs.Names.{is_name}
use Rattle.headline.specs.Headline.{Change, image_in}
use Rattle.change_safety.specs.Changes.{image_of, changes_of, changes_at}
use Rattle.change_safety.specs.Wrong.{entry, NoFewerChanges, NoSecondOpening, NoUnfinishedChange, NoLostChange, NoHiddenDatabase, NoOtherImage}
use Rattle.change_safety.proofs.Changes.{changes_grow_holds, files_are_changes_holds, shown_are_files_holds}

pub no_fewer_changes : NoFewerChanges
no_fewer_changes entries one none = absurd (omega (arith, one, none, changes_grow_holds entries 1 2 (omega arith)))

one_opening : length (changes_of (entry (OpenDb (codes "d")) ∷ entry (OpenDb (codes "d")) ∷ [])) ≡ 1
unfolding act at_name
one_opening = refl

pub no_second_opening : NoSecondOpening
no_second_opening c e is =
    let two : 2 ≡ length (changes_of (entry (OpenDb (codes "d")) ∷ entry (OpenDb (codes "d")) ∷ [])) = ap length is in
    absurd (omega (arith, two, one_opening))

one_change : (tx truncate : ℕ) (pages : List NumberedPage) →
    length (changes_of (entry (OpenDb (codes "d")) ∷ entry (Frames (codes "d") tx truncate false pages) ∷ [])) ≡ 1
unfolding act at_name
one_change tx truncate pages = refl

pub no_unfinished_change : NoUnfinishedChange
no_unfinished_change c e tx truncate pages is =
    let two : 2 ≡ length (changes_of (entry (OpenDb (codes "d")) ∷ entry (Frames (codes "d") tx truncate false pages) ∷ [])) = ap length is in
    absurd (omega (arith, two, one_change tx truncate pages))

some_is : (x y : Image) → Some x ≡ Some y → x ≡ y
some_is x y e = cc

none_some : (x : Image) → None ≡ Some x → ⊥
none_some x e = cc

last_image : (c e : Change) → e.name ≡ c.name → image_in (c ∷ e ∷ []) c.name ≡ Some e.after
last_image c e same =
    ap (λ b. option_or (if b then Some e.after else None) (if bytes_eq c.name c.name then Some c.after else None)) (is_name e.name c.name same)

pub no_lost_change : NoLostChange
no_lost_change entries c e is same apart kept =
    let order = c ∷ e ∷ [] in
    let n = length entries in
    let all = take_all n entries (omega arith) in
    let two : 2 ≡ length (changes_of entries) = ap length is in
    let count : changes_at entries n ≡ 2 = ap (λ l. length (changes_of l)) all ∙ sym two in
    let law = files_are_changes_holds entries order is n c.name in
    let shown : image_in (take (changes_at entries n) order) c.name ≡ Some c.after = law ∙ ap (λ l. image_of (files l) c.name) all ∙ kept in
    let old : image_in order c.name ≡ Some c.after = sym (ap (λ k. image_in (take k order) c.name) count) ∙ shown in
    apart (some_is e.after c.after (sym (last_image c e same) ∙ old))

pub no_hidden_database : NoHiddenDatabase
no_hidden_database databases name image has hidden = none_some image (sym hidden ∙ shown_are_files_holds databases name ∙ has)

pub no_other_image : NoOtherImage
no_other_image databases name image other has apart shown =
    apart (some_is other image (sym shown ∙ shown_are_files_holds databases name ∙ has))
