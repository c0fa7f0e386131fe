use Rattle.std.proofs.Common.{◌≡◌, ℕ, ◌+◌, ◌≤◌, true, List, [], ◌++◌, length, take, Option, Some, None, Result, Ok, Err, IfSome, OnOk, arith, ap, sym, ◌∙◌}
use Rattle.std.specs.Option.{option_map}
use Rattle.std.specs.Result.{is_ok}
use Rattle.std.proofs.lemmas.List.{length-take, take_all}
use Rattle.cif_io.specs.Outside.{file_limit}
use Rattle.cif_io.proofs.system.read_whole.Goals as goal

at_ok : {T E P : Type 0} (r : Result T E) → is_ok r ≡ true → OnOk r P → P
at_ok (Ok x) e p = p
at_ok (Err x) e p = absurd (cc)

-- what is read up to one past the limit is all, where it is not past the limit
read_all : (left : Option (List ℕ)) (limit : ℕ) (before after : List ℕ) → before ≡ [] → limit ≡ file_limit + 1 → length after ≤ file_limit
    → IfSome (option_map (take limit) left) (λ bytes. after ≡ before ++ bytes) → IfSome left (λ bytes. after ≡ bytes)
read_all None limit before after b l short read = tt
read_all (Some bytes) limit before after b l short read =
    let starts : after ≡ take limit bytes = rw b at read in
    let all : length bytes ≤ limit = omega (arith, ap length starts, length-take limit bytes) in
    starts ∙ take_all limit bytes all

pub returns-clause-content : goal.returns-clause-content
returns-clause-content g c =
    let fine : is_ok c.read_to_end.result ≡ true = sym c.map_err.ensures.variant ∙ ap is_ok c.in_ok-map_err.was in
    let read = at_ok _ fine c.read_to_end.ensures.bytes in
    rw c.take.ensures.inner at (read_all _ c.take.result.limit c.new-bytes.result.items _ c.new-bytes.ensures.items c.take.ensures.limit (omega arith) read)
