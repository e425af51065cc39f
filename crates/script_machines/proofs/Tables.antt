-- The entry of a name in a table.
use Rattle.std.proofs.Common.{◌≡◌, ℕ, ◌+◌, ◌<◌, ◌≤◌, max, true, false, List, [], ◌∷◌, ◌++◌, length, get_or, take, drop, set, refl, sym, ap, ◌∙◌, append_assoc, add-one}
use Rattle.std.specs.Str.{bytes_eq}
use Rattle.std.proofs.lemmas.List.{drop_more, drop_all, take_more, take_all, set_split, set-set, set-get_or, get_or-set_same, get_or_read}
use Rattle.script_machines.specs.declared.stated.Stated.{Stated}
use Rattle.script_machines.specs.Limits.{note, IsNotedAt, IsNew}

module _ (name : List ℕ) (table : List Stated) (i : ℕ) (x : Stated) (lt : i < length table) (is : x ≡ get_or table i x) (so_far : (size : ℕ) → note table name size ≡ take i table ++ note (drop i table) name size) where
  from_here : (size : ℕ) → note table name size ≡ take i table ++ note (x ∷ drop (i + 1) table) name size
  from_here size = so_far size ∙ ap (λ (t : List Stated). take i table ++ note t name size) (drop_more table i x lt ∙ ap (λ (s : Stated). s ∷ drop (i + 1) table) (sym is))

  pub noted_here : bytes_eq x.name name ≡ true → IsNotedAt name table i
  unfolding note
  noted_here same = (
    lt,
    λ size s.
        let read : x ≡ get_or table i s = get_or_read table i x lt is s in
        from_here size ∙ rw same (sym (set_split table i (record { name = (get_or table i s).name; length = max (get_or table i s).length size }) lt ∙ rw (← read, ← add-one) refl)),
  )

  pub noted_later : bytes_eq x.name name ≡ false → (size : ℕ) → note table name size ≡ take (i + 1) table ++ note (drop (i + 1) table) name size
  unfolding note
  noted_later other size =
      let front : take (i + 1) table ≡ take i table ++ x ∷ [] = take_more table i x lt ∙ ap (λ (s : Stated). take i table ++ s ∷ []) (sym is) in
      from_here size ∙ rw other (rw front (sym (append_assoc (take i table) (x ∷ []) (note (drop (i + 1) table) name size))))

pub noted_never : (name : List ℕ) (table : List Stated) (i : ℕ) → length table ≤ i → ((size : ℕ) → note table name size ≡ take i table ++ note (drop i table) name size) → IsNew name table
unfolding note
noted_never name table i past so_far = λ size. so_far size ∙ rw (drop_all i table past, take_all i table past) refl

-- an entry that was given another length and then its own again
pub put_back : (t t1 t2 : List Stated) (i x : ℕ) (s : Stated) → i < length t → s ≡ get_or t i s → t1 ≡ set t i (record { name = (get_or t i s).name; length = x })
    → t2 ≡ set t1 i (record { name = (get_or t1 i s).name; length = s.length }) → t2 ≡ t
put_back t t1 t2 i x s lt is first second =
    let other : Stated = record { name = (get_or t i s).name; length = x } in
    let read : get_or t1 i s ≡ other = ap (λ (l : List Stated). get_or l i s) first ∙ get_or-set_same t i other s lt in
    let again : Stated = record { name = (get_or t1 i s).name; length = s.length } in
    let same : again ≡ s = rw (read, ← is) refl in
    second ∙ ap (λ (l : List Stated). set l i again) first ∙ set-set t i other again ∙ ap (set t i) (same ∙ is) ∙ set-get_or t i s
