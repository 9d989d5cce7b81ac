-- Worked rows: the tokens of texts with the schemas that they are, and texts that are none.
use Rattle.std.proofs.Common.{◌≡◌, true, false, [], ◌∷◌, codes, Some, None, Err, refl}
use Rattle.gql_syntax.specs.gql_lex.Toks as tok
use Rattle.gql_syntax.specs.gql_lex.Toks.{Tok}
use Rattle.gql_syntax.specs.gql_ast.declared.document.Kind.TheVariants as K
use Rattle.gql_syntax.specs.gql_ast.declared.location.Location.TheVariants as L
use Rattle.gql_syntax.specs.gql_ast.declared.type_tree.TypeTree.TheVariants as T
use Rattle.gql_syntax.specs.gql_ast.Ty as ty
use Rattle.gql_syntax.proofs.Laws.{reach}
use Rattle.gql_syntax.proofs.Outcomes.{outcome}
use Rattle.gql_syntax.specs.Run.{unexpected, too_deep}
use Rattle.gql_sdl.specs.Machine.{head, no_front, advance, finish}
use Rattle.gql_sdl.specs.Schemas.{schema, scalar, object, union, enum, input, directive, schemas, nodes_of}

scalar_alone : outcome (advance 60) finish (head no_front) (tok.name (codes "scalar") ∷ tok.name (codes "S") ∷ []) ≡ Some (record { description = None; written = scalar (codes "S") [] } ∷ [])
scalar_alone = refl

scalar_alone-spelled : schemas.tokens (record { description = None; written = scalar (codes "S") [] } ∷ []) ≡ tok.name (codes "scalar") ∷ tok.name (codes "S") ∷ []
scalar_alone-spelled = refl

scalar_alone-nodes : nodes_of (record { description = None; written = scalar (codes "S") [] } ∷ []) ≡ 2 ∷ 1 ∷ []
scalar_alone-nodes = refl

described_type : outcome (advance 60) finish (head no_front) (tok.text (codes "d") ∷ tok.name (codes "type") ∷ tok.name (codes "T") ∷ []) ≡ Some (record { description = Some (codes "d"); written = object (codes "T") false [] [] [] } ∷ [])
described_type = refl

described_type-spelled : schemas.tokens (record { description = Some (codes "d"); written = object (codes "T") false [] [] [] } ∷ []) ≡ tok.text (codes "d") ∷ tok.name (codes "type") ∷ tok.name (codes "T") ∷ []
described_type-spelled = refl

described_type-nodes : nodes_of (record { description = Some (codes "d"); written = object (codes "T") false [] [] [] } ∷ []) ≡ 2 ∷ 0 ∷ 1 ∷ []
described_type-nodes = refl

interfaces : outcome (advance 60) finish (head no_front) (tok.name (codes "type") ∷ tok.name (codes "T") ∷ tok.name (codes "implements") ∷ tok.ampersand ∷ tok.name (codes "A") ∷ tok.ampersand ∷ tok.name (codes "B") ∷ []) ≡ Some (record { description = None; written = object (codes "T") true (codes "A" ∷ codes "B" ∷ []) [] [] } ∷ [])
interfaces = refl

interfaces-spelled : schemas.tokens (record { description = None; written = object (codes "T") true (codes "A" ∷ codes "B" ∷ []) [] [] } ∷ []) ≡ tok.name (codes "type") ∷ tok.name (codes "T") ∷ tok.name (codes "implements") ∷ tok.ampersand ∷ tok.name (codes "A") ∷ tok.ampersand ∷ tok.name (codes "B") ∷ []
interfaces-spelled = refl

interfaces-nodes : nodes_of (record { description = None; written = object (codes "T") true (codes "A" ∷ codes "B" ∷ []) [] [] } ∷ []) ≡ 2 ∷ 1 ∷ 0 ∷ 0 ∷ 1 ∷ 0 ∷ 1 ∷ []
interfaces-nodes = refl

union_led : outcome (advance 60) finish (head no_front) (tok.name (codes "union") ∷ tok.name (codes "U") ∷ tok.equals ∷ tok.bar ∷ tok.name (codes "A") ∷ tok.bar ∷ tok.name (codes "B") ∷ []) ≡ Some (record { description = None; written = union (codes "U") [] true (codes "A" ∷ codes "B" ∷ []) } ∷ [])
union_led = refl

union_led-spelled : schemas.tokens (record { description = None; written = union (codes "U") [] true (codes "A" ∷ codes "B" ∷ []) } ∷ []) ≡ tok.name (codes "union") ∷ tok.name (codes "U") ∷ tok.equals ∷ tok.bar ∷ tok.name (codes "A") ∷ tok.bar ∷ tok.name (codes "B") ∷ []
union_led-spelled = refl

union_led-nodes : nodes_of (record { description = None; written = union (codes "U") [] true (codes "A" ∷ codes "B" ∷ []) } ∷ []) ≡ 2 ∷ 1 ∷ 0 ∷ 0 ∷ 1 ∷ 0 ∷ 1 ∷ []
union_led-nodes = refl

union_unled : outcome (advance 60) finish (head no_front) (tok.name (codes "union") ∷ tok.name (codes "U") ∷ tok.equals ∷ tok.name (codes "A") ∷ []) ≡ Some (record { description = None; written = union (codes "U") [] false (codes "A" ∷ []) } ∷ [])
union_unled = refl

union_unled-spelled : schemas.tokens (record { description = None; written = union (codes "U") [] false (codes "A" ∷ []) } ∷ []) ≡ tok.name (codes "union") ∷ tok.name (codes "U") ∷ tok.equals ∷ tok.name (codes "A") ∷ []
union_unled-spelled = refl

union_unled-nodes : nodes_of (record { description = None; written = union (codes "U") [] false (codes "A" ∷ []) } ∷ []) ≡ 2 ∷ 1 ∷ 0 ∷ 1 ∷ []
union_unled-nodes = refl

roots_of_schema : outcome (advance 60) finish (head no_front) (tok.name (codes "schema") ∷ tok.open_brace ∷ tok.name (codes "query") ∷ tok.colon ∷ tok.name (codes "Q") ∷ tok.close_brace ∷ []) ≡ Some (record { description = None; written = schema [] (record { kind = K.Query; name = codes "Q" } ∷ []) } ∷ [])
roots_of_schema = refl

roots_of_schema-spelled : schemas.tokens (record { description = None; written = schema [] (record { kind = K.Query; name = codes "Q" } ∷ []) } ∷ []) ≡ tok.name (codes "schema") ∷ tok.open_brace ∷ tok.name (codes "query") ∷ tok.colon ∷ tok.name (codes "Q") ∷ tok.close_brace ∷ []
roots_of_schema-spelled = refl

roots_of_schema-nodes : nodes_of (record { description = None; written = schema [] (record { kind = K.Query; name = codes "Q" } ∷ []) } ∷ []) ≡ 2 ∷ 0 ∷ 1 ∷ 0 ∷ 1 ∷ 0 ∷ []
roots_of_schema-nodes = refl

enum_value : outcome (advance 60) finish (head no_front) (tok.name (codes "enum") ∷ tok.name (codes "E") ∷ tok.open_brace ∷ tok.text (codes "d") ∷ tok.name (codes "A") ∷ tok.close_brace ∷ []) ≡ Some (record { description = None; written = enum (codes "E") [] (record { description = Some (codes "d"); value = record { name = codes "A"; directives = [] } } ∷ []) } ∷ [])
enum_value = refl

enum_value-spelled : schemas.tokens (record { description = None; written = enum (codes "E") [] (record { description = Some (codes "d"); value = record { name = codes "A"; directives = [] } } ∷ []) } ∷ []) ≡ tok.name (codes "enum") ∷ tok.name (codes "E") ∷ tok.open_brace ∷ tok.text (codes "d") ∷ tok.name (codes "A") ∷ tok.close_brace ∷ []
enum_value-spelled = refl

enum_value-nodes : nodes_of (record { description = None; written = enum (codes "E") [] (record { description = Some (codes "d"); value = record { name = codes "A"; directives = [] } } ∷ []) } ∷ []) ≡ 2 ∷ 1 ∷ 0 ∷ 0 ∷ 2 ∷ 0 ∷ []
enum_value-nodes = refl

repeatable_directive : outcome (advance 60) finish (head no_front) (tok.name (codes "directive") ∷ tok.at_sign ∷ tok.name (codes "a") ∷ tok.name (codes "repeatable") ∷ tok.name (codes "on") ∷ tok.name (codes "FIELD") ∷ tok.bar ∷ tok.name (codes "QUERY") ∷ []) ≡ Some (record { description = None; written = directive (codes "a") [] true false (L.Field ∷ L.Query ∷ []) } ∷ [])
repeatable_directive = refl

repeatable_directive-spelled : schemas.tokens (record { description = None; written = directive (codes "a") [] true false (L.Field ∷ L.Query ∷ []) } ∷ []) ≡ tok.name (codes "directive") ∷ tok.at_sign ∷ tok.name (codes "a") ∷ tok.name (codes "repeatable") ∷ tok.name (codes "on") ∷ tok.name (codes "FIELD") ∷ tok.bar ∷ tok.name (codes "QUERY") ∷ []
repeatable_directive-spelled = refl

repeatable_directive-nodes : nodes_of (record { description = None; written = directive (codes "a") [] true false (L.Field ∷ L.Query ∷ []) } ∷ []) ≡ 2 ∷ 0 ∷ 1 ∷ 0 ∷ 0 ∷ 0 ∷ 0 ∷ 0 ∷ []
repeatable_directive-nodes = refl

field_of_type : outcome (advance 60) finish (head no_front) (tok.name (codes "type") ∷ tok.name (codes "T") ∷ tok.open_brace ∷ tok.name (codes "f") ∷ tok.colon ∷ tok.name (codes "A") ∷ tok.bang ∷ tok.close_brace ∷ []) ≡ Some (record { description = None; written = object (codes "T") false [] [] (record { description = None; name = codes "f"; arguments = []; of = T.NonNull (ty.named (codes "A")); directives = [] } ∷ []) } ∷ [])
field_of_type = refl

field_of_type-spelled : schemas.tokens (record { description = None; written = object (codes "T") false [] [] (record { description = None; name = codes "f"; arguments = []; of = T.NonNull (ty.named (codes "A")); directives = [] } ∷ []) } ∷ []) ≡ tok.name (codes "type") ∷ tok.name (codes "T") ∷ tok.open_brace ∷ tok.name (codes "f") ∷ tok.colon ∷ tok.name (codes "A") ∷ tok.bang ∷ tok.close_brace ∷ []
field_of_type-spelled = refl

field_of_type-nodes : nodes_of (record { description = None; written = object (codes "T") false [] [] (record { description = None; name = codes "f"; arguments = []; of = T.NonNull (ty.named (codes "A")); directives = [] } ∷ []) } ∷ []) ≡ 2 ∷ 1 ∷ 0 ∷ 2 ∷ 0 ∷ 3 ∷ 0 ∷ 0 ∷ []
field_of_type-nodes = refl

two_definitions : outcome (advance 60) finish (head no_front) (tok.name (codes "input") ∷ tok.name (codes "I") ∷ tok.name (codes "scalar") ∷ tok.name (codes "S") ∷ []) ≡ Some (record { description = None; written = input (codes "I") [] [] } ∷ record { description = None; written = scalar (codes "S") [] } ∷ [])
two_definitions = refl

two_definitions-spelled : schemas.tokens (record { description = None; written = input (codes "I") [] [] } ∷ record { description = None; written = scalar (codes "S") [] } ∷ []) ≡ tok.name (codes "input") ∷ tok.name (codes "I") ∷ tok.name (codes "scalar") ∷ tok.name (codes "S") ∷ []
two_definitions-spelled = refl

two_definitions-nodes : nodes_of (record { description = None; written = input (codes "I") [] [] } ∷ record { description = None; written = scalar (codes "S") [] } ∷ []) ≡ 2 ∷ 1 ∷ 1 ∷ 1 ∷ []
two_definitions-nodes = refl

empty_fields : reach (advance 60) (head no_front) (tok.name (codes "type") ∷ tok.name (codes "T") ∷ tok.open_brace ∷ tok.close_brace ∷ []) ≡ Err unexpected
empty_fields = refl

description_alone_in_fields : reach (advance 60) (head no_front) (tok.name (codes "type") ∷ tok.name (codes "T") ∷ tok.open_brace ∷ tok.text (codes "d") ∷ tok.close_brace ∷ []) ≡ Err unexpected
description_alone_in_fields = refl

reserved_value : reach (advance 60) (head no_front) (tok.name (codes "enum") ∷ tok.name (codes "E") ∷ tok.open_brace ∷ tok.name (codes "true") ∷ []) ≡ Err unexpected
reserved_value = refl

no_location : reach (advance 60) (head no_front) (tok.name (codes "directive") ∷ tok.at_sign ∷ tok.name (codes "a") ∷ tok.name (codes "on") ∷ tok.name (codes "NOPE") ∷ []) ≡ Err unexpected
no_location = refl

two_descriptions : reach (advance 60) (head no_front) (tok.text (codes "d") ∷ tok.text (codes "e") ∷ []) ≡ Err unexpected
two_descriptions = refl

extension : reach (advance 60) (head no_front) (tok.name (codes "extend") ∷ []) ≡ Err unexpected
extension = refl

brackets_for_arguments : reach (advance 60) (head no_front) (tok.name (codes "type") ∷ tok.name (codes "T") ∷ tok.open_brace ∷ tok.name (codes "f") ∷ tok.open_paren ∷ tok.name (codes "a") ∷ tok.colon ∷ tok.name (codes "A") ∷ tok.close_brace ∷ []) ≡ Err unexpected
brackets_for_arguments = refl

-- a limit of one
list_in_a_list : reach (advance 1) (head no_front) (tok.name (codes "type") ∷ tok.name (codes "T") ∷ tok.open_brace ∷ tok.name (codes "f") ∷ tok.colon ∷ tok.open_bracket ∷ tok.open_bracket ∷ []) ≡ Err too_deep
list_in_a_list = refl

no_definition : outcome (advance 60) finish (head no_front) [] ≡ None
no_definition = refl

description_at_the_end : outcome (advance 60) finish (head no_front) (tok.name (codes "scalar") ∷ tok.name (codes "S") ∷ tok.text (codes "d") ∷ []) ≡ None
description_at_the_end = refl
