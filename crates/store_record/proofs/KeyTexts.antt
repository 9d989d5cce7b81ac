-- The text of a storage key, pair by pair.
use Rattle.std.proofs.Common.{◌≡◌, ℕ, suc, ◌+◌, ◌<◌, Bool, true, false, cond, List, [], ◌∷◌, ◌++◌, length, get_or, drop, codes, refl, sym, ap, ◌∙◌, arith, append_assoc}
use Rattle.std.proofs.Math.Seq.{drop-cons}
use Rattle.std.proofs.lemmas.List.{append-nil}
use Rattle.gql_plain.specs.Shown.{tree_of, shown_members}
use Rattle.gql_plain.specs.declared.plain.Plain.{Plain}
use Rattle.store_record.specs.Keys.{Text, Arguments, is_null, without_nulls, pair_text, more_pairs, key_with}

abbrev pub separator : Bool → Text
separator begun = cond begun (codes ",") (codes "(")

-- what follows what is written
abbrev pub rest_of_key : Bool → Arguments → Text
rest_of_key begun [] = cond begun (codes ")") []
rest_of_key begun (a ∷ more) = separator begun ++ (pair_text a ++ rest_of_key true more)

more_pairs-left : (more : Arguments) → more_pairs more ≡ rest_of_key true more
more_pairs-left [] = refl
more_pairs-left (a ∷ more) = ap (λ rest. codes "," ++ (pair_text a ++ rest)) (more_pairs-left more)

three : (text mark pair rest : Text) → text ++ mark ++ pair ++ rest ≡ text ++ (mark ++ (pair ++ rest))
three text mark pair rest = append_assoc (text ++ mark) pair rest ∙ append_assoc text mark (pair ++ rest)

pub key_with-left : (name : Text) (arguments : Arguments) → name ++ rest_of_key false arguments ≡ key_with name arguments
key_with-left name [] = append-nil name
key_with-left name (a ∷ more) =
    sym (three name (codes "(") (pair_text a) (rest_of_key true more)) ∙ ap (λ rest. name ++ codes "(" ++ pair_text a ++ rest) (sym (more_pairs-left more))

-- what is left from the i-th argument on
abbrev pub left_from : Bool → List (Text × Plain) → ℕ → Text
left_from begun arguments i = rest_of_key begun (without_nulls (shown_members (drop i arguments)))

abbrev given_first : Text × Plain → Arguments → Bool → Arguments
given_first a rest nothing = cond nothing rest ((a.0, tree_of a.1) ∷ rest)

next_is : (arguments : List (Text × Plain)) (i : ℕ) (a : Text × Plain) (nothing : Bool) → i < length arguments → a ≡ get_or arguments i a → is_null (tree_of a.1) ≡ nothing
    → without_nulls (shown_members (drop i arguments)) ≡ given_first a (without_nulls (shown_members (drop (i + 1) arguments))) nothing
next_is arguments i a nothing within is found =
    let more : suc i ≡ i + 1 = omega arith in
    ap (λ rest. without_nulls (shown_members rest)) (drop-cons arguments i a within ∙ ap (λ x. x ∷ drop (suc i) arguments) (sym is) ∙ ap (λ j. a ∷ drop j arguments) more)
    ∙ ap (given_first a (without_nulls (shown_members (drop (i + 1) arguments)))) found

pub left_from-null : (begun : Bool) (text whole : Text) (arguments : List (Text × Plain)) (i : ℕ) (a : Text × Plain) → i < length arguments → a ≡ get_or arguments i a
    → is_null (tree_of a.1) ≡ true → text ++ left_from begun arguments i ≡ whole → text ++ left_from begun arguments (i + 1) ≡ whole
left_from-null begun text whole arguments i a within is nothing before =
    ap (λ pairs. text ++ rest_of_key begun pairs) (sym (next_is arguments i a true within is nothing)) ∙ before

pub left_from-pair : (begun : Bool) (text more whole : Text) (arguments : List (Text × Plain)) (i : ℕ) (a : Text × Plain) → i < length arguments → a ≡ get_or arguments i a
    → is_null (tree_of a.1) ≡ false → more ≡ text ++ separator begun ++ pair_text (a.0, tree_of a.1) → text ++ left_from begun arguments i ≡ whole
    → more ++ left_from true arguments (i + 1) ≡ whole
left_from-pair begun text more whole arguments i a within is something written before =
    ap (λ t. t ++ left_from true arguments (i + 1)) written
    ∙ three text (separator begun) (pair_text (a.0, tree_of a.1)) (left_from true arguments (i + 1))
    ∙ ap (λ pairs. text ++ rest_of_key begun pairs) (sym (next_is arguments i a false within is something)) ∙ before
