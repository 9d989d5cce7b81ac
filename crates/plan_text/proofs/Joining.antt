-- Texts with a character between each two, written one after the other.
use Rattle.std.proofs.Common.{◌≡◌, ℕ, Bool, true, false, cond, List, [], ◌∷◌, ◌++◌, refl, sym, ap, ◌∙◌, append_assoc, append-nil}
use Rattle.plan_ir.specs.OperationText.{enclose, join_texts}
use Rattle.plan_ir.specs.schema_tables.Types.{Text}

-- what is left to write, behind other texts or at the beginning
abbrev pub join_from : (begun : Bool) → (between : ℕ) → List Text → Text
join_from b c [] = []
join_from b c (t ∷ ts) = cond b (c ∷ []) [] ++ (t ++ join_from true c ts)

pub join_from-join_texts : (c : ℕ) (ts : List Text) → join_from false c ts ≡ join_texts c ts
join_from-join_texts c [] = refl
join_from-join_texts c (t ∷ []) = append-nil t
join_from-join_texts c (t ∷ u ∷ more) = ap (λ z. t ++ c ∷ z) (join_from-join_texts c (u ∷ more))

-- one more text is written
pub one_more : (b : Bool) (c : ℕ) (out between new t : Text) (ts : List Text) (whole : Text)
    → between ≡ out ++ cond b (c ∷ []) [] → new ≡ between ++ t → out ++ join_from b c (t ∷ ts) ≡ whole → new ++ join_from true c ts ≡ whole
one_more b c out between new t ts whole e f h =
    let s : Text = cond b (c ∷ []) [] in
    let r : Text = join_from true c ts in
    ap (λ z. z ++ r) (f ∙ ap (λ z. z ++ t) e) ∙ append_assoc (out ++ s) t r ∙ append_assoc out s (t ++ r) ∙ h

-- nothing is left to write
pub all_written : (b : Bool) (c : ℕ) (old out : Text) (left texts : List Text) → left ≡ [] → out ++ join_from b c left ≡ old ++ join_from false c texts → out ≡ old ++ join_texts c texts
all_written b c old out left texts none h =
    sym (append-nil out) ∙ ap (λ ts. out ++ join_from b c ts) (sym none) ∙ h ∙ ap (λ z. old ++ z) (join_from-join_texts c texts)

-- what stands between two bytes
pub enclosed_written : (o c e : ℕ) (old opened out closed : Text) (texts : List Text)
    → opened ≡ old ++ o ∷ [] → out ≡ opened ++ join_texts c texts → closed ≡ out ++ e ∷ [] → closed ≡ old ++ enclose o c e texts
enclosed_written o c e old opened out closed texts first inside last =
    last ∙ ap (λ z. z ++ e ∷ []) (inside ∙ ap (λ z. z ++ join_texts c texts) first)
    ∙ append_assoc (old ++ o ∷ []) (join_texts c texts) (e ∷ []) ∙ append_assoc old (o ∷ []) (join_texts c texts ++ e ∷ [])
