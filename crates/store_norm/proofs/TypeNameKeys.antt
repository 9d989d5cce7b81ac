-- The key of a field that is no type name is not that of the type name.
use Rattle.std.proofs.Common.{◌≡◌, ℕ, Bool, true, true≢false, not, ◌||◌, List, [], ◌∷◌, ◌++◌, codes, nat_eq, bytes_eq, sym, refl, ap, ◌∙◌}
use Rattle.std.proofs.lemmas.List.Folds.{list_any-append}
use Rattle.std.proofs.lemmas.Slice.Eq.{bytes_eq-Decides}
use Rattle.std.specs.List.{list_any}
use Rattle.plan_ir.proofs.gql_plain_laws.Booleans.{or_true}
use Rattle.plan_ir.specs.NormalMeaning.{is_field_name}
use Rattle.plan_ir.specs.store_model.Records.{typename}
use Rattle.plan_ir.specs.store_record.Keys.{Text, Arguments, without_nulls, pair_text, more_pairs, key_with, field_key}

pub any_left : {X : Type 0} (test : X → Bool) (xs ys : List X) → list_any test xs ≡ true → list_any test (xs ++ ys) ≡ true
any_left test xs ys h = list_any-append test xs ys ∙ ap (λ b. b || list_any test ys) h

pub any_right : {X : Type 0} (test : X → Bool) (xs ys : List X) → list_any test ys ≡ true → list_any test (xs ++ ys) ≡ true
any_right test xs ys h = list_any-append test xs ys ∙ ap (λ b. list_any test xs || b) h ∙ or_true (list_any test xs)

-- (
abbrev is_opening : ℕ → Bool
is_opening c = nat_eq c 40

-- a key with arguments has a parenthesis, and `__typename` has none
key_is_no_typename : (name : Text) (arguments : Arguments) → is_field_name name ≡ true → bytes_eq (key_with name arguments) typename ≡ true → ⊥
key_is_no_typename name [] is e = true≢false (sym is ∙ ap not e)
key_is_no_typename name (a ∷ more) is e =
    let opened = any_right is_opening name (codes "(") refl in
    let pair = any_left is_opening (name ++ codes "(") (pair_text a) opened in
    let key = any_left is_opening (name ++ codes "(" ++ pair_text a) (more_pairs more) pair in
    true≢false (sym key ∙ ap (list_any is_opening) ((bytes_eq-Decides (key_with name (a ∷ more)) typename).0 e))

pub field_key_is_no_typename : (name : Text) (arguments : Arguments) → is_field_name name ≡ true → bytes_eq (field_key name arguments) typename ≡ true → ⊥
field_key_is_no_typename name arguments is e = key_is_no_typename name (without_nulls arguments) is e
