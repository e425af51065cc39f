use Rattle.std.proofs.Common.{◌≡◌, ℕ, ◌++◌, ◌*◌, ◌+◌, ◌-◌, ◌<◌, ◌≤◌, min, List, take, drop, length, ap, subst, ◌∙◌, append_assoc, arith}
use Rattle.std.specs.Int.{div_ceil}
use Rattle.sha2.specs.Hashers.{Holds256}
use Rattle.page_store.specs.Store.{newest_image}
use Rattle.file_digest.specs.Pages.{bytes_of}
use Rattle.file_digest.proofs.FilePages.{page_in, pages_past, page_more, pages_all}
use Rattle.file_digest.proofs.hashing.add_pages.Goals as goal

pub loop-place-preserved : goal.loop-place-preserved
loop-place-preserved c = λ m h.
    let bytes : List ℕ = bytes_of c.args.file (newest_image c.args.database.now.store) in
    let place : ℕ = c.loop-place.place in
    let reached : place < div_ceil c.args.len 4096 = omega (arith, c.loop-place-test.true, c.div_ceil-place-end.ensures) in
    let inside : 4096 * place < c.args.len = page_in c.args.len place reached in
    let count : c.min-count.result ≡ min 4096 (length bytes - place * 4096) = c.min-count.ensures ∙ ap (λ (n : ℕ). min 4096 (n - place * 4096)) c.requires in
    let more : (m ++ take (4096 * place) bytes) ++ take c.min-count.result (drop (4096 * place) bytes) ≡ m ++ take (4096 * (place + 1)) bytes =
    append_assoc m (take (4096 * place) bytes) (take c.min-count.result (drop (4096 * place) bytes))
    ∙ ap (λ (xs : List ℕ). m ++ xs) (page_more bytes place c.min-count.result (omega (arith, inside, c.requires)) count) in
    subst (Holds256 c.add_page.new.hasher) more (c.add_page.ensures (m ++ take (4096 * place) bytes) (c.loop-place.invariant m h))

pub returns : goal.returns
returns c = λ m h.
    let bytes : List ℕ = bytes_of c.args.file (newest_image c.args.database.now.store) in
    let place : ℕ = c.loop-place.place in
    let past : c.args.len ≤ 4096 * place = pages_past c.args.len place (omega (arith, c.loop-place-test.false, c.div_ceil-place-end.ensures)) in
    let all : take (4096 * place) bytes ≡ bytes = pages_all bytes place (omega (arith, past, c.requires)) in
    subst (λ (xs : List ℕ). Holds256 c.loop-place.hasher (m ++ xs)) all (c.loop-place.invariant m h)
