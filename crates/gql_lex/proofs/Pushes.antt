-- A value that is made piece by piece.
use Rattle.std.proofs.Common.{◌≡◌, ℕ, List, [], ◌++◌, sym, ap, ◌∙◌, append_assoc, append-nil}

-- the last piece
pub pushed_last : (whole old now here part rest : List ℕ) → whole ≡ old ++ here → here ≡ part ++ rest → rest ≡ [] → now ≡ old ++ part → now ≡ whole
pushed_last whole old now here part rest w h r n = n ∙ sym (w ∙ ap (λ x. old ++ x) (h ∙ ap (λ x. part ++ x) r ∙ append-nil part))

-- two pieces more
pub pushed_two : (whole old mid now here there part more rest : List ℕ) → whole ≡ old ++ here → here ≡ part ++ there → there ≡ more ++ rest
    → mid ≡ old ++ part → now ≡ mid ++ more → whole ≡ now ++ rest
pushed_two whole old mid now here there part more rest w h t m n =
    rw (w, h, t, n, m) (sym (append_assoc (old ++ part) more rest ∙ append_assoc old part (more ++ rest)))
