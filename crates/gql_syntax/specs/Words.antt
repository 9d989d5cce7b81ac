-- The words of the grammars that documents and schemas share, as bytes of Names, and the forms of Names and Ints.
use Rattle.std.specs.Prelude.{◌≡◌, ℕ, Bool, true, false, cond, List, codes, bytes_eq, ℤ, FitsSigned}
use Rattle.std.specs.Int.{w64}
use Rattle.gql_lex.specs.gql_plain.Names.{is_name}
use Rattle.gql_ast.specs.declared.document.Kind.{Kind}
use Rattle.gql_ast.specs.declared.document.Kind.TheVariants.{Query, Mutation, Subscription}

-- a letter or `_`, followed by letters, digits and `_` (GraphQL, October 2021, section 2.1.9)
abbrev pub IsName : List ℕ → Type 0
IsName n = is_name n ≡ true

-- from -2^63 to 2^63 - 1, this project's own bounds of an Int
abbrev pub IsInt : ℤ → Type 0
IsInt n = FitsSigned w64 n

abbrev pub true_word : List ℕ
true_word = codes "true"

abbrev pub false_word : List ℕ
false_word = codes "false"

abbrev pub null_word : List ℕ
null_word = codes "null"

abbrev pub truth_word : Bool → List ℕ
truth_word b = cond b true_word false_word

-- none of `true`, `false`, `null`
pub record IsEnumName (n : List ℕ) : Type 0 where
  pub no_true : bytes_eq n true_word ≡ false
  pub no_false : bytes_eq n false_word ≡ false
  pub no_null : bytes_eq n null_word ≡ false

abbrev pub on_word : List ℕ
on_word = codes "on"

abbrev pub kind_word : Kind → List ℕ
kind_word Query = codes "query"
kind_word Mutation = codes "mutation"
kind_word Subscription = codes "subscription"
