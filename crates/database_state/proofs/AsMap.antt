-- What a command does, seen in the databases as a map from names.
use Rattle.std.proofs.Common.{◌≡◌, ◌≢◌, ℕ, Bool, true, false, cond, List, [], ◌∷◌, ◌++◌, Option, Some, None, refl, sym, ap, subst, ◌∙◌, fold, map, bytes_eq, unwrap_or, Ordering, Less, Equal, Greater}
use Rattle.std.specs.Option.{option_map}
use Rattle.std.specs.Ordering.{is_eq, match_ordering}
use Rattle.std.specs.List.{AllByRecursion}
use Rattle.std.specs.List.Sorted.{IsStrictlySortedBy}
use Rattle.std.proofs.lemmas.Map.Text.{is_eq-slice_cmp}
use Rattle.std.proofs.lemmas.Slice.Eq.{bytes_eq-Decides}
use Rattle.std.proofs.lemmas.Grind.{fold-append}
use Rattle.log_commands.specs.declared.command.Command.{Command}
use Rattle.log_commands.specs.declared.command.Command.TheVariants.{OpenDb, Frames, Undo, Checkpoint}
use Rattle.database_state.specs.ByName.{at_name, Ascend}
use Rattle.database_state.specs.Files.{Content, new_content, frames, undone, changed, act, files}
use Rattle.database_state.specs.AsMap.{names_of, AreInOrder, content_named, named_or_new, ChangesOne, Does}
use Rattle.database_state.proofs.Named.{compare}
use Rattle.database_state.proofs.Ordered.{all_above, order_kept, same_names}
use Rattle.database_state.proofs.SplitLaw.{frames_keep}

-- ---- names

same_bytes : (x : List ℕ) → bytes_eq x x ≡ true
same_bytes x = (bytes_eq-Decides x x).1 refl

other_bytes : (x y : List ℕ) → x ≢ y → bytes_eq x y ≡ false
other_bytes x y apart = by (bytes_eq x y) refl
  where
    by : (b : Bool) → bytes_eq x y ≡ b → b ≡ false
    by true e = absurd (apart ((bytes_eq-Decides x y).0 e))
    by false e = refl

tells_bytes : (x y : List ℕ) (o : Ordering) → compare x y ≡ o → bytes_eq x y ≡ is_eq o
tells_bytes x y o e = sym (is_eq-slice_cmp x y) ∙ ap is_eq e

none_named : (name : List ℕ) (ds : List Content) → AllByRecursion (λ z. compare name z ≡ Less) (names_of ds) → content_named name ds ≡ None
none_named name [] above = refl
none_named name (d ∷ ds) above = ap (λ (b : Bool). cond b (Some d) (content_named name ds)) (tells_bytes name d.name Less above.0) ∙ none_named name ds above.1

-- ---- what is done to the database of a name

module _ (name : List ℕ) (f : Content → Content) (keeps : (d : Content) → (f d).name ≡ d.name) where
  own_changed : (ds : List Content) → AreInOrder ds → content_named name (changed name f ds) ≡ Some (f (named_or_new name ds))
  unfolding at_name IsStrictlySortedBy
  own_changed [] order = ap (λ (b : Bool). cond b (Some (f (new_content name))) None) (ap (bytes_eq name) (keeps (new_content name)) ∙ same_bytes name)
  own_changed (d ∷ ds) order =
      let Q : Ordering → Type 0 = λ o. compare name d.name ≡ o → content_named name (match_ordering o (f (new_content name) ∷ d ∷ ds) (f d ∷ ds) (d ∷ changed name f ds)) ≡ Some (f (named_or_new name (d ∷ ds))) in
      let go : (o : Ordering) → Q o =
      λ o. elim o as Q [
        | Less ↦ λ e.
            let none : content_named name (d ∷ ds) ≡ None = none_named name (d ∷ ds) (e, all_above name d.name (names_of ds) e order.0) in
            ap (λ (b : Bool). cond b (Some (f (new_content name))) (content_named name (d ∷ ds))) (ap (bytes_eq name) (keeps (new_content name)) ∙ same_bytes name)
            ∙ sym (ap (λ (o : Option Content). Some (f (unwrap_or o (new_content name)))) none)
        | Equal ↦ λ e.
            let is : bytes_eq name d.name ≡ true = tells_bytes name d.name Equal e in
            ap (λ (b : Bool). cond b (Some (f d)) (content_named name ds)) (ap (bytes_eq name) (keeps d) ∙ is)
            ∙ sym (ap (λ (b : Bool). Some (f (unwrap_or (cond b (Some d) (content_named name ds)) (new_content name)))) is)
        | Greater ↦ λ e.
            let apart : bytes_eq name d.name ≡ false = tells_bytes name d.name Greater e in
            ap (λ (b : Bool). cond b (Some d) (content_named name (changed name f ds))) apart ∙ own_changed ds order.1
            ∙ sym (ap (λ (b : Bool). Some (f (unwrap_or (cond b (Some d) (content_named name ds)) (new_content name)))) apart)
      ] in
      go (compare name d.name) refl

  others_kept : (other : List ℕ) → other ≢ name → (ds : List Content) → content_named other (changed name f ds) ≡ content_named other ds
  unfolding at_name
  others_kept other apart [] = ap (λ (b : Bool). cond b (Some (f (new_content name))) None) (ap (bytes_eq other) (keeps (new_content name)) ∙ other_bytes other name apart)
  others_kept other apart (d ∷ ds) =
      let Q : Ordering → Type 0 = λ o. compare name d.name ≡ o → content_named other (match_ordering o (f (new_content name) ∷ d ∷ ds) (f d ∷ ds) (d ∷ changed name f ds)) ≡ content_named other (d ∷ ds) in
      let go : (o : Ordering) → Q o =
      λ o. elim o as Q [
        | Less ↦ λ e. ap (λ (b : Bool). cond b (Some (f (new_content name))) (content_named other (d ∷ ds))) (ap (bytes_eq other) (keeps (new_content name)) ∙ other_bytes other name apart)
        | Equal ↦ λ e.
            let is : name ≡ d.name = (bytes_eq-Decides name d.name).0 (tells_bytes name d.name Equal e) in
            let differs : bytes_eq other d.name ≡ false = other_bytes other d.name (λ h. apart (h ∙ sym is)) in
            ap (λ (b : Bool). cond b (Some (f d)) (content_named other ds)) (ap (bytes_eq other) (keeps d) ∙ differs) ∙ sym (ap (λ (b : Bool). cond b (Some d) (content_named other ds)) differs)
        | Greater ↦ λ e. ap (λ (o : Option Content). cond (bytes_eq other d.name) (Some d) o) (others_kept other apart ds)
      ] in
      go (compare name d.name) refl

-- what is done to each database, where names stay
module _ (f : Content → Content) (keeps : (d : Content) → (f d).name ≡ d.name) where
  each_changed : (name : List ℕ) (ds : List Content) → content_named name (map f ds) ≡ option_map f (content_named name ds)
  each_changed name [] = refl
  each_changed name (d ∷ ds) =
      let is : bytes_eq name (f d).name ≡ bytes_eq name d.name = ap (bytes_eq name) (keeps d) in
      ap (λ (b : Bool). cond b (Some (f d)) (content_named name (map f ds))) is
      ∙ ap (λ (o : Option Content). cond (bytes_eq name d.name) (Some (f d)) o) (each_changed name ds)
      ∙ within (bytes_eq name d.name) d (content_named name ds)
    where
      within : (b : Bool) (d : Content) (o : Option Content) → cond b (Some (f d)) (option_map f o) ≡ option_map f (cond b (Some d) o)
      within true d o = refl
      within false d o = refl

one_changed : (name : List ℕ) (f : Content → Content) → ((d : Content) → (f d).name ≡ d.name) → (ds : List Content) → AreInOrder ds → ChangesOne name f ds (changed name f ds)
one_changed name f keeps ds order = record { own = own_changed name f keeps ds order; others = λ other apart. others_kept name f keeps other apart ds }

act_keeps_order : (contents : List Content) (command : Command) → AreInOrder contents → AreInOrder (act contents command)
unfolding act
act_keeps_order contents (OpenDb name) order = order_kept (λ (c : Content). c.name) (new_content name) name refl (λ c. c) (λ c. refl) contents order
act_keeps_order contents (Frames name tx truncate commit pages) order = order_kept (λ (c : Content). c.name) (new_content name) name refl (frames tx commit pages) (frames_keep tx commit pages) contents order
act_keeps_order contents (Undo tx) order = subst Ascend (sym (same_names (λ (c : Content). c.name) (undone tx) (λ c. refl) contents)) order
act_keeps_order contents (Checkpoint name) order = order

act_does : (contents : List Content) (command : Command) → AreInOrder contents → Does command contents (act contents command)
unfolding act
act_does contents (OpenDb name) order = one_changed name (λ d. d) (λ d. refl) contents order
act_does contents (Frames name tx truncate commit pages) order = one_changed name (frames tx commit pages) (frames_keep tx commit pages) contents order
act_does contents (Undo tx) order = λ name. each_changed (undone tx) (λ c. refl) name contents
act_does contents (Checkpoint name) order = refl

-- ---- lists of commands

order_from : (contents : List Content) (commands : List Command) → AreInOrder contents → AreInOrder (fold act contents commands)
order_from contents [] order = order
order_from contents (command ∷ commands) order = order_from (act contents command) commands (act_keeps_order contents command order)

-- The contents that commands make are in order.
pub files_in_order : (commands : List Command) → AreInOrder (files commands)
unfolding IsStrictlySortedBy
files_in_order commands = order_from [] commands tt

-- One more command does what it says.
pub files_changed : (commands : List Command) (command : Command) → Does command (files commands) (files (commands ++ command ∷ []))
files_changed commands command = subst (Does command (files commands)) (sym (fold-append act [] commands (command ∷ []))) (act_does (files commands) command (files_in_order commands))
