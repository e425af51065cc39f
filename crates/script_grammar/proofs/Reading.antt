-- What is taken off the front of the bytes to come, call by call.
use Rattle.std.proofs.Common.{◌≡◌, ℕ, List, [], ◌∷◌, ◌++◌, Option, Some, None, sym, ap, ◌∙◌, append_assoc}
use Rattle.std.proofs.lemmas.List.{append-nil}
use Rattle.std.specs.Io.KnownBytes.{Consumes, Keeps}
use Rattle.dq_base.proofs.ContentLaws.{Consumes-then, Consumes-kept}
use Rattle.script_grammar.specs.Lines.{HasNoFeed, Cursor, to_come, TakesPart, TakesLine}

pub Consumes-none : (a b : Option (List ℕ)) → Keeps a b → Consumes a b []
Consumes-none None b p = tt
Consumes-none (Some s) None p = absurd p
Consumes-none (Some s) (Some t) p = sym p

pub HasNoFeed-append : (a b : List ℕ) → HasNoFeed a → HasNoFeed b → HasNoFeed (a ++ b)
HasNoFeed-append [] b p q = q
HasNoFeed-append (x ∷ a) b p q = (p.0, HasNoFeed-append a b p.1 q)

-- what a part that was taken took off the front of what was to come
pub part_taken : (old new : Cursor) (left : Option (List ℕ)) (part separator : List ℕ) → TakesPart old new part separator
    → Consumes (to_come old left) (to_come new left) (part ++ separator)
part_taken old new None part separator t = tt
part_taken old new (Some rest) part separator t =
    ap (λ (bytes : List ℕ). bytes ++ rest) t.taken ∙ append_assoc part (separator ++ new.ahead) rest
    ∙ ap (λ (bytes : List ℕ). part ++ bytes) (append_assoc separator new.ahead rest) ∙ sym (append_assoc part separator (new.ahead ++ rest))

-- A line continues by a part.
pub line_grows : (first before : Option (List ℕ)) (left : Option (List ℕ)) (old new : Cursor) (part separator : List ℕ)
    → TakesLine first before old.line [] → Keeps before (to_come old left) → TakesPart old new part separator
    → TakesLine first (to_come new left) new.line separator
line_grows first before left old new part separator line kept t =
    let so_far : Consumes first (to_come old left) (old.line ++ []) = Consumes-kept first before (to_come old left) (old.line ++ []) line.taken kept in
    let all : Consumes first (to_come new left) ((old.line ++ []) ++ (part ++ separator)) = Consumes-then first (to_come old left) (to_come new left) (old.line ++ []) (part ++ separator) so_far (part_taken old new left part separator t) in
    let bytes : (old.line ++ []) ++ (part ++ separator) ≡ new.line ++ separator = ap (λ (line : List ℕ). line ++ (part ++ separator)) (append-nil old.line)
    ∙ sym (append_assoc old.line part separator) ∙ ap (λ (line : List ℕ). line ++ separator) (sym t.longer) in
    record {
      taken = rw bytes at all;
      no_feed = rw t.longer (HasNoFeed-append old.line part line.no_feed t.no_feed);
    }
