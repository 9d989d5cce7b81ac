-- The pairs of an object, beside the trees that they stand for.
use Rattle.std.proofs.Common.{◌≡◌, ℕ, ◌+◌, ◌<◌, ◌≤◌, get_or, Bool, true, false, cond, List, [], ◌∷◌, ◌++◌, length, take, Option, Some, option_map, refl, ap, sym, subst, ◌∙◌, bytes_eq}
use Rattle.std.proofs.lemmas.List.{map-append, take_all, take_more}
use Rattle.std.specs.Map.{keys_of}
use Rattle.serde_json.specs.Data.{put}
use Rattle.gql_plain.proofs.InOrder.{AreInOrder-push, IsAfter-at}
use Rattle.gql_plain.proofs.JsonLevels.{put-last}
use Rattle.gql_plain.specs.Order.{AreInOrder, IsAfter, member_at}
use Rattle.gql_plain.specs.Shown.{tree_of, shown_members}
use Rattle.gql_plain.specs.ToJson.{data_of, members_data}
use Rattle.gql_plain.specs.Tree.{members_of}
use Rattle.gql_plain.specs.declared.plain.Plain.{Plain}

pub keys_of-shown : (es : List (List ℕ × Plain)) → keys_of (shown_members es) ≡ keys_of es
keys_of-shown [] = refl
keys_of-shown (e ∷ es) = ap (λ ks. e.0 ∷ ks) (keys_of-shown es)

-- a pair whose key stands after the last one keeps the order
pub AreInOrder-push_pair : (es : List (List ℕ × Plain)) (key : List ℕ) (plain : Plain)
    → AreInOrder (keys_of es) → IsAfter key (keys_of (shown_members es)) → AreInOrder (keys_of (es ++ (key, plain) ∷ []))
AreInOrder-push_pair es key plain order after =
    subst AreInOrder (sym (map-append (λ e. e.0) es ((key, plain) ∷ [])))
    (AreInOrder-push (keys_of es) key order (subst (IsAfter key) (keys_of-shown es) after))

-- copies of all pairs have their order
pub AreInOrder-copied : (copies es : List (List ℕ × Plain)) (n : ℕ)
    → shown_members copies ≡ shown_members (take n es) → length es ≤ n → AreInOrder (keys_of es) → AreInOrder (keys_of copies)
AreInOrder-copied copies es n same all order =
    subst AreInOrder (sym (keys_of-shown es) ∙ ap (λ xs. keys_of (shown_members xs)) (sym (take_all n es all)) ∙ ap (λ ms. keys_of ms) (sym same) ∙ keys_of-shown copies) order

shown_or : (b : Bool) (plain : Plain) (rest : Option Plain) → option_map tree_of (cond b (Some plain) rest) ≡ cond b (Some (tree_of plain)) (option_map tree_of rest)
shown_or true plain rest = refl
shown_or false plain rest = refl

pub member_at-shown : (es : List (List ℕ × Plain)) (key : List ℕ) → option_map tree_of (member_at es key) ≡ member_at (shown_members es) key
member_at-shown [] key = refl
member_at-shown (e ∷ es) key = shown_or (bytes_eq e.0 key) e.1 (member_at es key) ∙ ap (λ r. cond (bytes_eq e.0 key) (Some (tree_of e.1)) r) (member_at-shown es key)

-- the next pair's member goes last
pub put-next : (es : List (List ℕ × Plain)) (i : ℕ) (e : List ℕ × Plain) → i < length es → e ≡ get_or es i e → AreInOrder (keys_of es)
    → put e.0 (data_of (tree_of e.1)) (members_data (members_of (shown_members (take i es)))) ≡ members_data (members_of (shown_members (take (i + 1) es)))
put-next es i e within is order =
    let after : IsAfter e.0 (keys_of (take i es)) = subst (λ x. IsAfter x.0 (keys_of (take i es))) (sym is) (IsAfter-at (λ x. x.0) es i e within order) in
    put-last (shown_members (take i es)) e.0 (tree_of e.1) (subst (IsAfter e.0) (sym (keys_of-shown (take i es))) after)
    ∙ ap (λ ms. members_data (members_of ms)) (sym (map-append (λ x. (x.0, tree_of x.1)) (take i es) (e ∷ [])))
    ∙ ap (λ xs. members_data (members_of (shown_members xs))) (ap (λ x. take i es ++ x ∷ []) is ∙ sym (take_more es i e within))
