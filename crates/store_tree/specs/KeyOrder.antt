-- The order in which the tree keeps its keys: by a number made of the bytes, and then by the bytes.
use Rattle.std.specs.Prelude.{ℕ, ◌+◌, ◌-◌, ◌*◌, ◌%◌, ◌^◌, List, length, take, drop}
use Rattle.std.specs.Cmp.Lexicographic.{slice_cmp}
use Rattle.std.specs.List.{fold}
use Rattle.std.specs.Ordering.{nat_cmp, on, then_cmp}
use Rattle.std.specs.declared.cmp.Ordering.{Ordering}

-- the digest of a text with one more byte at its end
abbrev pub with_byte : ℕ → ℕ → ℕ
with_byte digest byte = ((digest + byte) % 2 ^ 64) * 11400714819323198485 % 2 ^ 64

-- the same for one of the last four, so that texts that differ there alone have digests side by side, in byte order
abbrev pub with_last_byte : ℕ → ℕ → ℕ
with_last_byte digest byte = (digest * 256 % 2 ^ 64 + byte) % 2 ^ 64

-- the digest of a text, a number of 64 bits, which two texts may share
unfoldable pub digest_of : List ℕ → ℕ
digest_of text = fold with_last_byte (fold with_byte 0 (take (length text - 4) text)) (drop (length text - 4) text)

-- by digests, and by bytes where the digests are equal
unfoldable pub key_cmp : List ℕ → List ℕ → Ordering
key_cmp = then_cmp (on digest_of nat_cmp) (slice_cmp nat_cmp)
