-- The type that a text says is the type that it is.
use Rattle.std.proofs.Common.{◌≡◌, length, Option, Some, None, option_map, Result, Ok, Err, IsUtf8, refl, ap}
use Rattle.gql_syntax.specs.gql_lex.Sources.{Source, ended, faulty, token, lex_from}
use Rattle.gql_syntax.specs.gql_ast.Ty.{Ty}
use Rattle.gql_syntax.specs.gql_ast.TypeView.{ty_of}
use Rattle.gql_syntax.specs.gql_ast.declared.type_tree.TypeTree.{TypeTree}
use Rattle.gql_syntax.specs.Parts.{type_read}
use Rattle.gql_syntax.specs.Run.{Stopped}
use Rattle.gql_syntax.specs.Texts.{nesting_limit}
use Rattle.gql_syntax.specs.TypeTexts.{TellsType}
use Rattle.gql_syntax.proofs.TypeAlone.{type_found, more_follows, none_read, one_type}
use Rattle.constant_values.specs.gql_graph.Texts.{Text}
use Rattle.relay_marks.specs.TypeTexts.{type_in, read_whole, whole}

behind : (text : Text) → IsUtf8 text → (t : Ty) (rest : Source) → type_read nesting_limit (length text) (lex_from 0 text) ≡ Ok (t, rest)
    → (r : Option TypeTree) → TellsType text r → option_map ty_of r ≡ whole t rest
behind text u t ended e (Some x) h = ap Some (one_type text (ty_of x) t h (type_found text t ended u e refl))
behind text u t ended e None h = absurd (h t (type_found text t ended u e refl))
behind text u t (faulty code at) e (Some x) h = absurd (more_follows text t (faulty code at) e (λ q. absurd cc) (ty_of x) h)
behind text u t (faulty code at) e None h = refl
behind text u t (token p rest) e (Some x) h = absurd (more_follows text t (token p rest) e (λ q. absurd cc) (ty_of x) h)
behind text u t (token p rest) e None h = refl

from : (text : Text) → IsUtf8 text → (w : Result (Ty × Source) Stopped) → type_read nesting_limit (length text) (lex_from 0 text) ≡ w
    → (r : Option TypeTree) → TellsType text r → option_map ty_of r ≡ read_whole w
from text u (Ok (t, rest)) e r h = behind text u t rest e r h
from text u (Err f) e (Some x) h = absurd (none_read text f e (ty_of x) h)
from text u (Err f) e None h = refl

pub type_is : (text : Text) → IsUtf8 text → (r : Option TypeTree) → TellsType text r → option_map ty_of r ≡ type_in text
type_is text u r h = from text u (type_read nesting_limit (length text) (lex_from 0 text)) refl r h
