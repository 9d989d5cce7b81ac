-- The arguments that are kept, one after another.
use Rattle.std.proofs.Common.{◌≡◌, ℕ, ◌+◌, ◌<◌, Bool, true, false, cond, List, [], ◌∷◌, ◌++◌, length, get_or, take, refl, sym, ap, subst, ◌∙◌}
use Rattle.std.proofs.lemmas.List.{map-append, take_more, append-nil}
use Rattle.std.specs.Map.{keys_of}
use Rattle.gql_plain.proofs.InOrder.{IsAfter-at}
use Rattle.gql_plain.proofs.Members.{keys_of-shown}
use Rattle.gql_plain.specs.Order.{AreInOrder, IsAfter}
use Rattle.gql_plain.specs.Shown.{tree_of, shown_members}
use Rattle.gql_plain.specs.declared.plain.Plain.{Plain}
use Rattle.store_record.specs.Keys.{Text, Arguments, kept_by}

kept_by-append : (keeps : Text → Bool) (xs ys : Arguments) → kept_by keeps (xs ++ ys) ≡ kept_by keeps xs ++ kept_by keeps ys
kept_by-append keeps [] ys = refl
kept_by-append keeps (x ∷ xs) ys =
    let rest = kept_by-append keeps xs ys in
    elim (keeps x.0) as (λ b. cond b (x ∷ kept_by keeps (xs ++ ys)) (kept_by keeps (xs ++ ys)) ≡ cond b (x ∷ kept_by keeps xs) (kept_by keeps xs) ++ kept_by keeps ys)
    [ true ↦ ap (λ zs. x ∷ zs) rest | false ↦ rest ]

kept_more : (keeps : Text → Bool) (es : List (Text × Plain)) (i : ℕ) (e : Text × Plain) → i < length es → e ≡ get_or es i e
    → kept_by keeps (shown_members (take (i + 1) es)) ≡ kept_by keeps (shown_members (take i es)) ++ cond (keeps e.0) ((e.0, tree_of e.1) ∷ []) []
kept_more keeps es i e within is =
    ap (λ xs. kept_by keeps (shown_members xs)) (take_more es i e within ∙ ap (λ x. take i es ++ x ∷ []) (sym is))
    ∙ ap (kept_by keeps) (map-append (λ x. (x.0, tree_of x.1)) (take i es) (e ∷ []))
    ∙ kept_by-append keeps (shown_members (take i es)) ((e.0, tree_of e.1) ∷ [])

pub kept-pair : (keeps : Text → Bool) (es : List (Text × Plain)) (i : ℕ) (e : Text × Plain) → i < length es → e ≡ get_or es i e → keeps e.0 ≡ true
    → kept_by keeps (shown_members (take i es)) ++ (e.0, tree_of e.1) ∷ [] ≡ kept_by keeps (shown_members (take (i + 1) es))
kept-pair keeps es i e within is keeps_it =
    sym (kept_more keeps es i e within is ∙ ap (λ b. kept_by keeps (shown_members (take i es)) ++ cond b ((e.0, tree_of e.1) ∷ []) []) keeps_it)

pub kept-not : (keeps : Text → Bool) (es : List (Text × Plain)) (i : ℕ) (e : Text × Plain) → i < length es → e ≡ get_or es i e → keeps e.0 ≡ false
    → kept_by keeps (shown_members (take i es)) ≡ kept_by keeps (shown_members (take (i + 1) es))
kept-not keeps es i e within is not_kept =
    sym (kept_more keeps es i e within is ∙ ap (λ b. kept_by keeps (shown_members (take i es)) ++ cond b ((e.0, tree_of e.1) ∷ []) []) not_kept ∙ append-nil _)

after_kept : (keeps : Text → Bool) (text : Text) (xs : Arguments) → IsAfter text (keys_of xs) → IsAfter text (keys_of (kept_by keeps xs))
after_kept keeps text [] after = tt
after_kept keeps text (x ∷ xs) after =
    let rest = after_kept keeps text xs after.1 in
    elim (keeps x.0) as (λ b. IsAfter text (keys_of (cond b (x ∷ kept_by keeps xs) (kept_by keeps xs)))) [ true ↦ (after.0, rest) | false ↦ rest ]

-- an argument stands after those before it that are kept
pub IsAfter-kept : (keeps : Text → Bool) (es : List (Text × Plain)) (i : ℕ) (e : Text × Plain) → i < length es → e ≡ get_or es i e → AreInOrder (keys_of es)
    → IsAfter e.0 (keys_of (kept_by keeps (shown_members (take i es))))
IsAfter-kept keeps es i e within is order =
    after_kept keeps e.0 (shown_members (take i es))
    (subst (IsAfter e.0) (sym (keys_of-shown (take i es))) (subst (λ x. IsAfter x.0 (keys_of (take i es))) (sym is) (IsAfter-at (λ x. x.0) es i e within order)))
