-- Rows as they are sent to a connection.
use Rattle.std.proofs.Common.{◌≡◌, ℕ, List, [], ◌∷◌, map, refl, ap}
use Rattle.wire_msgs.specs.declared.response.Response.{Response}
use Rattle.wire_msgs.specs.declared.response.Response.TheVariants as responses

pub told_rows : (conn : ℕ) (bodies : List (List ℕ)) → map {B = ℕ × Response} (λ (body : List ℕ). (conn, responses.Rows body)) bodies ≡ map {B = ℕ × Response} (λ (response : Response). (conn, response)) (map (λ (body : List ℕ). responses.Rows body) bodies)
told_rows conn [] = refl
told_rows conn (b ∷ bs) = ap (λ (told : List (ℕ × Response)). (conn, responses.Rows b) ∷ told) (told_rows conn bs)
