-- A text that is one type (GraphQL, October 2021, section 2.11).
use Rattle.std.specs.Prelude.{◌≡◌, ℕ, List, [], Option, Some, None}
use Rattle.gql_lex.specs.Toks.{tokens_of}
use Rattle.gql_ast.specs.Ty.{Ty}
use Rattle.gql_ast.specs.TypeView.{ty_of}
use Rattle.gql_ast.specs.declared.type_tree.TypeTree.{TypeTree}
use Rattle.gql_syntax.specs.FirstFault.{Grammar, Shallow}
use Rattle.gql_syntax.specs.Formed.{FormedType}
use Rattle.gql_syntax.specs.Spelling.{spell_type}
use Rattle.gql_syntax.specs.Texts.{nesting_limit}

abbrev pub types : Grammar Ty
types = record {
  tokens = λ t. spell_type (λ t l n. t) t 0 0 [];
  levels = λ t. spell_type (λ t l n. l) t 0 0 [];
  Formed = FormedType;
}

-- the tokens of the text are those of the type, in which no more list types stand in one another than may
pub record IsTypeText (text : List ℕ) (t : Ty) : Type 0 where
  pub tokens : tokens_of text ≡ Some (types.tokens t)
  pub formed : FormedType t
  pub shallow : Shallow nesting_limit (types.levels t)

-- the type that the text is, or that it is none
abbrev pub TellsType : List ℕ → Option TypeTree → Type 0
TellsType text (Some t) = IsTypeText text (ty_of t)
TellsType text None = (t : Ty) → IsTypeText text t → ⊥
