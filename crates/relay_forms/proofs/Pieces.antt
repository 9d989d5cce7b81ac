-- What is put or taken piece by piece.
use Rattle.std.proofs.Common.{◌≡◌, ℕ, ◌+◌, ◌-◌, ◌++◌, List, length, take, drop, Option, sym, ap, ◌∙◌}
use Rattle.std.proofs.Math.Seq.{take-add}
use Rattle.relay_io.specs.Streams.{append}
use Rattle.relay_io.proofs.Streaming.{append-append, rest_is}

-- a piece of the rest, put behind the first bytes
pub put_more : (h0 h1 h2 : Option (List ℕ)) (bytes : List ℕ) (n k : ℕ) → h1 ≡ append h0 (take n bytes) → h2 ≡ append h1 (take k (take (length bytes - n) (drop n bytes))) → h2 ≡ append h0 (take (n + k) bytes)
put_more h0 h1 h2 bytes n k first next =
    next ∙ ap (λ xs. append h1 (take k xs)) (rest_is n bytes) ∙ ap (λ h. append h (take k (drop n bytes))) first
    ∙ append-append h0 _ _ ∙ ap (append h0) (sym (take-add n k bytes))

-- two pieces, one after the other
pub added_more : (h0 h1 h2 : Option (List ℕ)) (added more : List ℕ) → h1 ≡ append h0 added → h2 ≡ append h1 more → h2 ≡ append h0 (added ++ more)
added_more h0 h1 h2 added more first next = next ∙ ap (λ h. append h more) first ∙ append-append h0 added more
