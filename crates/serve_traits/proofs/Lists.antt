-- Lists that may be reported: what two calls do together.
use Rattle.std.proofs.Common.{List, [], ◌++◌, None, Some, refl, sym, ap, ◌∙◌, append_assoc, append-nil}
use Rattle.std.specs.Prelude.{Option}
use Rattle.serve_traits.specs.Told.{Gives, Gains, Remains}

-- a call that adds nothing
pub gains_none : {T : Type 0} (told : Option (List T)) → Gains told told []
gains_none None = tt
gains_none (Some items) = sym (append-nil items)

-- what two calls add
pub gains_then : {T : Type 0} (a b c : Option (List T)) (x y : List T) → Gains a b x → Gains b c y → Gains a c (x ++ y)
gains_then None b c x y first second = tt
gains_then (Some a) None c x y first second = absurd first
gains_then (Some a) (Some b) None x y first second = absurd second
gains_then (Some a) (Some b) (Some c) x y first second = second ∙ ap (λ items. items ++ y) first ∙ append_assoc a x y

-- a call that adds nothing after others
pub gains_stay : {T : Type 0} (a b c : Option (List T)) (x : List T) → Gains a b x → Remains b c → Gains a c x
gains_stay None b c x first stays = tt
gains_stay (Some a) None c x first stays = absurd first
gains_stay (Some a) (Some b) None x first stays = absurd stays
gains_stay (Some a) (Some b) (Some c) x first stays = stays ∙ first

-- a call that takes nothing
pub gives_none : {T : Type 0} (told : Option (List T)) → Gives told told []
gives_none None = tt
gives_none (Some items) = refl

-- what two calls take
pub gives_then : {T : Type 0} (a b c : Option (List T)) (x y : List T) → Gives a b x → Gives b c y → Gives a c (x ++ y)
gives_then None b c x y first second = tt
gives_then (Some a) None c x y first second = absurd first
gives_then (Some a) (Some b) None x y first second = absurd second
gives_then (Some a) (Some b) (Some c) x y first second = first ∙ ap (λ items. x ++ items) second ∙ sym (append_assoc x y c)

-- a call that takes nothing after others
pub gives_stay : {T : Type 0} (a b c : Option (List T)) (x : List T) → Gives a b x → Remains b c → Gives a c x
gives_stay None b c x first stays = tt
gives_stay (Some a) None c x first stays = absurd first
gives_stay (Some a) (Some b) None x first stays = absurd stays
gives_stay (Some a) (Some b) (Some c) x first stays = first ∙ ap (λ items. x ++ items) (sym stays)
