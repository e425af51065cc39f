-- The text of a script, as it is written piece by piece.
use Rattle.std.proofs.Common.{◌≡◌, ◌≤◌, ◌+◌, ℕ, zero, suc, List, [], ◌∷◌, ◌++◌, refl, sym, ap, subst, ◌∙◌, append_assoc, add-one, inl, inr, arith}
use Rattle.std.specs.Prelude.{Option, codes}
use Rattle.std.specs.Io.KnownBytes.{Appends}
use Rattle.std.proofs.lemmas.Bool.{cases_lt}
use Rattle.std.proofs.lemmas.Grind.{flat_map-append}
use Rattle.hex.specs.Hex.{encode_lower}
use Rattle.dq_base.specs.Sink.{AppendsFront}
use Rattle.dq_base.proofs.ContentLaws.{Appends-then, AppendsFront-then, AppendsFront-longer}
use Rattle.script_generator.specs.Generated.{number_after, number_at, opening_bytes, set_bytes, opening_lines, restart_lines, write_lines, script_lines, text_of, script_text}

-- ---- the texts of lines

pub opening_spelled : (digits : List ℕ) → digits ≡ encode_lower opening_bytes
    → codes "nodes 3\ntimeout 1\nsettle 100\nconnect 1 1\nbytes 1 " ++ (digits ++ codes "\nsettle 100\n") ≡ text_of opening_lines
unfolding opening_lines text_of
opening_spelled digits e =
    ap (λ (ds : List ℕ). codes "nodes 3\ntimeout 1\nsettle 100\nconnect 1 1\nbytes 1 " ++ (ds ++ codes "\nsettle 100\n")) e
    ∙ ap (λ (rest : List ℕ). codes "nodes 3\ntimeout 1\nsettle 100\nconnect 1 1\nbytes 1 " ++ rest) (sym (append_assoc (encode_lower opening_bytes) (10 ∷ []) (codes "settle 100\n")))

pub write_spelled : (number place : ℕ) (digits restart : List ℕ) → digits ≡ encode_lower (set_bytes number) → restart ≡ text_of (restart_lines place)
    → codes "bytes 1 " ++ (digits ++ (codes "\nsettle 100\n" ++ restart)) ≡ text_of (write_lines number place)
unfolding write_lines text_of
write_spelled number place digits restart e r =
    ap (λ (ds : List ℕ). codes "bytes 1 " ++ (ds ++ (codes "\nsettle 100\n" ++ restart))) e
    ∙ ap (λ (rest : List ℕ). codes "bytes 1 " ++ (encode_lower (set_bytes number) ++ (codes "\nsettle 100\n" ++ rest))) r
    ∙ ap (λ (rest : List ℕ). codes "bytes 1 " ++ rest) (sym (append_assoc (encode_lower (set_bytes number)) (10 ∷ []) (codes "settle 100\n" ++ text_of (restart_lines place))))

-- ---- one write after the other

text_more : (number writes : ℕ) → script_text number (suc writes) ≡ script_text number writes ++ text_of (write_lines (number_at number (suc writes)) (suc writes))
unfolding script_lines text_of
text_more number writes = flat_map-append (λ (line : List ℕ). line ++ codes "\n") (script_lines number writes) (write_lines (number_at number (suc writes)) (suc writes))

-- a script without writes
pub no_writes : (number : ℕ) → text_of opening_lines ≡ script_text number 0
unfolding script_lines
no_writes number = refl

one_longer : (a b c : Option (List ℕ)) (number writes : ℕ) → Appends a b (script_text number writes)
    → Appends b c (text_of (write_lines (number_at number (suc writes)) (suc writes))) → Appends a c (script_text number (suc writes))
one_longer a b c number writes so_far more = rw (text_more number writes) (Appends-then a b c (script_text number writes) _ so_far more)

-- the lines of one write more
pub one_more : (a b c : Option (List ℕ)) (number writes : ℕ) → Appends a b (script_text number writes)
    → Appends b c (text_of (write_lines (number_at number (writes + 1)) (writes + 1))) → Appends a c (script_text number (writes + 1))
one_more a b c number writes = rw add-one (one_longer a b c number writes)

begun_longer : (a b c : Option (List ℕ)) (number writes : ℕ) → Appends a b (script_text number writes)
    → AppendsFront b c (text_of (write_lines (number_at number (suc writes)) (suc writes))) → AppendsFront a c (script_text number (suc writes))
begun_longer a b c number writes so_far more = rw (text_more number writes) (AppendsFront-then a b c (script_text number writes) _ so_far more)

-- a front of the lines of one write more
pub more_begun : (a b c : Option (List ℕ)) (number writes : ℕ) → Appends a b (script_text number writes)
    → AppendsFront b c (text_of (write_lines (number_at number (writes + 1)) (writes + 1))) → AppendsFront a c (script_text number (writes + 1))
more_begun a b c number writes = rw add-one (begun_longer a b c number writes)

-- the number before the first write, and that of one write more
pub first_number : (number : ℕ) → number ≡ number_at number 0
unfolding number_at
first_number number = refl

pub next_number : (number writes : ℕ) → number_after (number_at number writes) ≡ number_at number (writes + 1)
unfolding number_at
next_number number writes = rw add-one refl

-- a front of a script is a front of that with more writes
pub up_to : (a b : Option (List ℕ)) (number few many : ℕ) → few ≤ many → AppendsFront a b (script_text number few) → AppendsFront a b (script_text number many)
up_to a b number few zero le h = subst (λ (n : ℕ). AppendsFront a b (script_text number n)) (omega arith) h
up_to a b number few (suc many) le h =
    elim (cases_lt few (suc many)) [
      | inl less ↦ rw (text_more number many) (AppendsFront-longer a b _ _ (up_to a b number few many (omega arith) h))
      | inr all ↦ subst (λ (n : ℕ). AppendsFront a b (script_text number n)) (omega arith) h
    ]
