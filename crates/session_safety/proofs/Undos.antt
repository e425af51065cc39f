-- Undo entries for all that is pending.
use Rattle.std.proofs.Common.{◌≡◌, ◌⊎◌, inl, inr, ℕ, true, false, true≢false, List, [], ◌∷◌, refl, sym, ap, ◌∙◌, subst, ⊎_elim}
use Rattle.std.specs.Prelude.{◌==◌, bytes_eq, Option, Some, None}
use Rattle.std.proofs.lemmas.Bool.{cond_both, cond-true, cases_Bool, eq-eqb, or_cases}
use Rattle.dq_base.specs.declared.pages.PageSet.{PageSet}
use Rattle.log_commands.specs.declared.command.Command.{Command}
use Rattle.log_commands.specs.declared.command.Command.TheVariants.{OpenDb, Frames, Undo, Checkpoint}
use Rattle.database_state.specs.Files.{pending_without}
use Rattle.session_spec.specs.Entries.{Content, Does, Configures, Other, Entry, entries_of}
use Rattle.session_spec.specs.Machine.{Base, Machine, is_named, nothing, framed, checked, act, done, files_from, files}
use Rattle.session_spec.proofs.Names.{name_is}
use Rattle.session_safety.specs.Logs.{with_undo, undos_for, undos, UndosClear}
use Rattle.session_safety.proofs.AddedNames.{kept_name, another}
use Rattle.session_safety.proofs.Files.{files_append}

-- only databases with a name have pending pages
abbrev Named : Machine → Type 0
Named m = (n : List ℕ) → is_named m.names n ≡ false → (m.base n).pending ≡ None

undone_none : (tx : ℕ) (o : Option PageSet) → o ≡ None → pending_without tx o ≡ None
undone_none tx o e = ap (pending_without tx) e

named_act : (m : Machine) (c : Command) → Named m → Named (act m c)
unfolding act
named_act m (OpenDb name) a n h = a n (kept_name m.names name n h)
named_act m (Frames name tx truncate commit pages) a n h = cond_both (bytes_eq n name) (framed tx commit pages (m.base n)) (m.base n) (λ (d : Base). d.pending ≡ None) (λ e. absurd (another m.names name n h e)) (λ e. a n (kept_name m.names name n h))
named_act m (Undo tx) a n h = undone_none tx (m.base n).pending (a n h)
named_act m (Checkpoint name) a n h = cond_both (bytes_eq n name) (checked (m.base n)) (m.base n) (λ (d : Base). d.pending ≡ None) (λ e. a n h) (λ e. a n h)

named_done : (m : Machine) (c : Content) → Named m → Named (done m c)
named_done m (Does command) a = named_act m command a
named_done m (Configures servers) a = a
named_done m Other a = a

named_from : (es : List Entry) (m : Machine) → Named m → Named (files_from m es)
named_from [] m a = a
named_from (e ∷ es) m a = named_from es (done m e.content) (named_done m e.content a)

named_files : (log : List Entry) → Named (files log)
unfolding files
named_files log = named_from log nothing (λ n h. refl)

-- Undo entries over a state machine

after : ℕ → Machine → List Content → Machine
after t m cs = files_from m (entries_of t cs)

none_with : (t : ℕ) (o : Option PageSet) (cs : List Content) (m : Machine) (n : List ℕ) → ((v : Machine) → (v.base n).pending ≡ None → ((after t v cs).base n).pending ≡ None) → (m.base n).pending ≡ None → ((after t m (with_undo o cs)).base n).pending ≡ None
unfolding after act
none_with t None cs m n rest e = rest m e
none_with t (Some p) cs m n rest e = rest (act m (Undo p.tx)) (undone_none p.tx (m.base n).pending e)

none_stays : (t : ℕ) (k : Machine) (ns : List (List ℕ)) (m : Machine) (n : List ℕ) → (m.base n).pending ≡ None → ((after t m (undos_for k ns)).base n).pending ≡ None
unfolding after
none_stays t k [] m n e = e
none_stays t k (j ∷ ns) m n e = none_with t (k.base j).pending (undos_for k ns) m n (λ v x. none_stays t k ns v n x) e

-- pending as it was, or none
Fading : PageSet → Option PageSet → Type 0
Fading p o = (o ≡ Some p) ⊎ (o ≡ None)

fades : (p : PageSet) (tx : ℕ) (o : Option PageSet) → Fading p o → Fading p (pending_without tx o)
unfolding Fading
fades p tx o h = ⊎_elim
    (λ (e : o ≡ Some p). subst (λ x. (pending_without tx x ≡ Some p) ⊎ (pending_without tx x ≡ None)) (sym e) (cond_both (p.tx == tx) None (Some p) (λ x. (x ≡ Some p) ⊎ (x ≡ None)) (λ z. inr refl) (λ z. inl refl)))
    (λ (e : o ≡ None). inr (undone_none tx o e)) h

gone : (p : PageSet) (o : Option PageSet) → Fading p o → pending_without p.tx o ≡ None
unfolding Fading
gone p o h = ⊎_elim (λ (e : o ≡ Some p). ap (pending_without p.tx) e ∙ cond-true (p.tx == p.tx) None (Some p) (eq-eqb p.tx p.tx refl)) (λ (e : o ≡ None). undone_none p.tx o e) h

clear_with : (t : ℕ) (q : PageSet) (o : Option PageSet) (cs : List Content) (m : Machine) (n : List ℕ) → ((v : Machine) → Fading q (v.base n).pending → ((after t v cs).base n).pending ≡ None) → Fading q (m.base n).pending → ((after t m (with_undo o cs)).base n).pending ≡ None
unfolding after act
clear_with t q None cs m n rest h = rest m h
clear_with t q (Some p) cs m n rest h = rest (act m (Undo p.tx)) (fades q p.tx (m.base n).pending h)

clear_here : (t : ℕ) (p : PageSet) (k : Machine) (ns : List (List ℕ)) (m : Machine) (n : List ℕ) → Fading p (m.base n).pending → ((after t m (with_undo (Some p) (undos_for k ns))).base n).pending ≡ None
unfolding after act
clear_here t p k ns m n h = none_stays t k ns (act m (Undo p.tx)) n (gone p (m.base n).pending h)

clears : (t : ℕ) (k : Machine) (ns : List (List ℕ)) (m : Machine) (n : List ℕ) (p : PageSet) → (k.base n).pending ≡ Some p → Fading p (m.base n).pending → is_named ns n ≡ true → ((after t m (undos_for k ns)).base n).pending ≡ None
clears t k [] m n p e h i = absurd (true≢false (sym i))
clears t k (j ∷ ns) m n p e h i = ⊎_elim
    (λ (x : bytes_eq n j ≡ true).
    let same : (k.base j).pending ≡ Some p = ap (λ (y : List ℕ). (k.base y).pending) (sym (name_is n j x)) ∙ e in
    subst (λ o. ((after t m (with_undo o (undos_for k ns))).base n).pending ≡ None) (sym same) (clear_here t p k ns m n h))
    (λ (x : is_named ns n ≡ true). clear_with t p (k.base j).pending (undos_for k ns) m n (λ v y. clears t k ns v n p e y x) h)
    (or_cases (bytes_eq n j) (is_named ns n) i)

cleared : (t : ℕ) (m : Machine) (n : List ℕ) (o : Option PageSet) → Named m → (m.base n).pending ≡ o → ((after t m (undos m)).base n).pending ≡ None
unfolding undos Fading
cleared t m n None a e = none_stays t m m.names m n e
cleared t m n (Some p) a e = clears t m m.names m n p e (inl e)
    (⊎_elim (λ (x : is_named m.names n ≡ true). x) (λ (x : is_named m.names n ≡ false). absurd (none_some (sym (a n x) ∙ e))) (cases_Bool (is_named m.names n)))
  where
    none_some : {A : Type 0} {x : A} → None ≡ Some x → ⊥
    none_some q = cc

pub undos_clear_hold : UndosClear
unfolding after
undos_clear_hold log t n = ap (λ (m : Machine). (m.base n).pending) (files_append log (entries_of t (undos (files log)))) ∙ cleared t (files log) n (((files log).base n).pending) (named_files log) refl
