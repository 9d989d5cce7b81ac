-- A few bytes of a text as one number, by which texts are put in order before they are compared.
use Rattle.std.specs.Prelude.{◌≡◌, ◌<◌, ℕ, List, [], ◌∷◌, get_or}
use Rattle.std.specs.Int.{from_be_bytes, w64}
use Rattle.std.specs.Fn.{Shared}
use denote.Ref.{Bor}

-- the first eight bytes, of which the first counts most, with zeros behind the end
abbrev pub head_of : List ℕ → ℕ
head_of text =
    from_be_bytes w64
    (get_or text 0 0 ∷ get_or text 1 0 ∷ get_or text 2 0 ∷ get_or text 3 0 ∷ get_or text 4 0 ∷ get_or text 5 0
    ∷ get_or text 6 0 ∷ get_or text 7 0 ∷ [])

-- it is their number, and they are bytes
pub record IsHead (text : List ℕ) (head : ℕ) : Type 0 where
  pub is : head ≡ head_of text
  pub bytes : (at : ℕ) → at < 8 → get_or text at 0 < 256

-- each call at a reference gives a text, which key says of what is referred to
abbrev pub ReadsText : {F T : Type 0} → Shared F (Bor T × Unit {0}) (Bor (List ℕ)) → (T → List ℕ) → F → Type 0
ReadsText {F} {T} g key f = (x : Bor T) (text : Bor (List ℕ)) → g.post f (x, tt) text → text.now ≡ key x.now
