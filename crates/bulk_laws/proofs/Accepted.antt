-- The texts of the large script are its project.
use Rattle.std.proofs.Common.{◌≡◌, ◌+◌, ℕ, zero, suc, List, [], ◌∷◌, codes, length, take, Some, None, refl, sym, ap, ◌∙◌, true, false, lit<, ltb-true, arith}
use Rattle.std.proofs.lemmas.Bool.{and_parts}
use Rattle.std.proofs.lemmas.Str.{chars-IsAscii}
use Rattle.std.specs.Fmt.{digits}
use Rattle.std.specs.List.{between}
use Rattle.std.specs.Prelude.{IsAscii, IsUtf8, chars}
use Rattle.bulk_laws.specs.BulkProject.{bulk_project, bulk_defs, at_column, bulk_placed, bulk_operation, bulk_places, query_members, user_members}
use Rattle.bulk_laws.specs.Laws.{BulkIsAccepted}
use Rattle.plan_ir.specs.gql_ast.declared.document.Definition.TheVariants as D
use Rattle.plan_ir.specs.gql_ast.declared.member.FieldTree.{FieldTree}
use Rattle.plan_ir.specs.gql_ast.declared.place.FilePlace.{FilePlace}
use Rattle.plan_ir.specs.gql_ast.declared.place.Placed.{Placed}
use Rattle.plan_ir.specs.gql_ast.declared.schema.SchemaTree.{SchemaTree}
use Rattle.plan_ir.specs.gql_graph.Rules.{first_broken}
use Rattle.plan_ir.specs.gql_lex.Heads.{head}
use Rattle.plan_ir.specs.gql_lex.Lines.{ended_lines, line_start}
use Rattle.plan_ir.specs.gql_lex.Sources.{read, lex_from}
use Rattle.plan_ir.specs.gql_lex.Toks.{tokens_of}
use Rattle.plan_project.specs.gql_parse.Documents as documents
use Rattle.plan_project.specs.gql_parse.Trees.{IsDocument}
use Rattle.plan_project.specs.gql_sdl.Schemas as schemas
use Rattle.plan_project.specs.gql_sdl.Schemas.{Described, WrittenField}
use Rattle.plan_project.specs.gql_sdl.Trees.{IsSchema}
use Rattle.plan_ir.specs.gql_syntax.FirstFault.{Shallow}
use Rattle.plan_ir.specs.gql_syntax.Places.{file_place, place_nodes}
use Rattle.plan_ir.specs.gql_syntax.Texts.{nesting_limit}
use Rattle.json.proofs.Printed.Utf8.{are_ascii, IsUtf8-are_ascii}
use Rattle.plan_project.specs.Expansions.{merge_fault, size_rules}
use Rattle.plan_project.specs.relay_rules.RelayRules.{document_rules}
use Rattle.relay_machine.specs.Bulk.{bulk_document, bulk_schema}
use Rattle.plan_ir.specs.schema_rules.Checked.{IsSound}
use Rattle.plan_ir.specs.schema_types.DocumentRules.{Meet}
use Rattle.serde_json.proofs.OnLiterals.{serde_json_on_literals}

abbrev pub written_document : List documents.Written
written_document = documents.full (D.Operation bulk_operation) ∷ []

abbrev written_member : FieldTree → WrittenField
written_member f = record { description = None; name = f.name; arguments = []; of = f.of; directives = [] }

abbrev written_members : List FieldTree → List WrittenField
written_members [] = []
written_members (f ∷ fs) = written_member f ∷ written_members fs

abbrev written_type : List ℕ → List FieldTree → Described
written_type name members = record { description = None; written = schemas.object name false [] [] (written_members members) }

abbrev pub written_schema : List Described
written_schema = written_type (codes "Query") query_members ∷ written_type (codes "User") user_members ∷ []

pub document_tokens : tokens_of bulk_document ≡ Some (documents.documents.tokens written_document)
unfolding read head
document_tokens = refl

pub schema_tokens : tokens_of bulk_schema ≡ Some (schemas.schemas.tokens written_schema)
unfolding read head
schema_tokens = refl

-- ---- the trees are formed, and their places are those of the texts

formed_document : documents.FormedDocument written_document
formed_document = (tt, ((refl, tt, tt, (tt, (tt, refl, tt, tt, (tt, refl, tt, tt, tt, (tt, refl, tt, tt, (tt, refl, tt, tt, tt, tt), tt)), tt))), tt))

formed_schema : schemas.FormedSchema written_schema
formed_schema =
    (tt, ((refl, tt, tt, ((refl, tt, refl, tt), tt)), ((refl, tt, tt, ((refl, tt, (tt, refl), tt), ((refl, tt, refl, tt), ((refl, tt, refl, tt), tt)))), tt)))

document_shallow : Shallow nesting_limit (documents.documents.levels written_document)
document_shallow = search arith

schema_shallow : Shallow nesting_limit (schemas.schemas.levels written_schema)
schema_shallow = search arith

document_utf8 : IsUtf8 bulk_document
document_utf8 = IsUtf8-are_ascii bulk_document refl

schema_utf8 : IsUtf8 bulk_schema
schema_utf8 = IsUtf8-are_ascii bulk_schema refl

-- ---- the places of the document: it has one line, and is of ASCII alone

ascii_text : (xs : List ℕ) → are_ascii xs ≡ true → IsAscii xs
ascii_text [] e i = lit< tt
ascii_text (x ∷ xs) e zero = ltb-true x 128 (and_parts _ _ e).0
ascii_text (x ∷ xs) e (suc i) = ascii_text xs (and_parts _ _ e).1 i

abbrev place_in_document : (at : ℕ) → FilePlace
place_in_document at = file_place 1 bulk_document at

column_of : (at : ℕ) (front : List ℕ) → ended_lines at bulk_document ≡ 0 → between (line_start at bulk_document) at bulk_document ≡ front → are_ascii front ≡ true
    → place_in_document at ≡ record { file = 1; line = 1 + 0; column = 1 + length front }
column_of at front no_end is ascii =
    let same : chars (between (line_start at bulk_document) at bulk_document) ≡ front = ap chars is ∙ chars-IsAscii front (ascii_text front ascii) in
    λ i. record { file = 1; line = 1 + no_end i; column = 1 + length (same i) }

query_place : place_in_document 0 ≡ at_column 1
unfolding ended_lines line_start
query_place = column_of 0 (take 0 bulk_document) refl refl refl

name_place : place_in_document 6 ≡ at_column 7
unfolding ended_lines line_start
name_place = column_of 6 (take 6 bulk_document) refl refl refl

me_place : place_in_document 8 ≡ at_column 9
unfolding ended_lines line_start
me_place = column_of 8 (take 8 bulk_document) refl refl refl

age_place : place_in_document 11 ≡ at_column 12
unfolding ended_lines line_start
age_place = column_of 11 (take 11 bulk_document) refl refl refl

friend_place : place_in_document 15 ≡ at_column 16
unfolding ended_lines line_start
friend_place = column_of 15 (take 15 bulk_document) refl refl refl

friend_age_place : place_in_document 22 ≡ at_column 23
unfolding ended_lines line_start
friend_age_place = column_of 22 (take 22 bulk_document) refl refl refl

places_laid : place_nodes 1 bulk_document [] (documents.nodes_of written_document) (lex_from 0 bulk_document)
    ≡ place_in_document 0 ∷ place_in_document 0 ∷ place_in_document 0 ∷ place_in_document 6 ∷ place_in_document 8 ∷ place_in_document 8
    ∷ place_in_document 11 ∷ place_in_document 11 ∷ place_in_document 15 ∷ place_in_document 15 ∷ place_in_document 22 ∷ place_in_document 22 ∷ []
unfolding read head
places_laid = refl

places_are : place_nodes 1 bulk_document [] (documents.nodes_of written_document) (lex_from 0 bulk_document) ≡ bulk_places
places_are =
    places_laid
    ∙ (λ i. query_place i ∷ query_place i ∷ query_place i ∷ name_place i ∷ me_place i ∷ me_place i ∷ age_place i ∷ age_place i ∷ friend_place i
    ∷ friend_place i ∷ friend_age_place i ∷ friend_age_place i ∷ [])

pub document_is : IsDocument 1 bulk_document bulk_placed
document_is = record {
  written = written_document;
  tree = record { utf8 = document_utf8; tokens = document_tokens; formed = formed_document; shallow = document_shallow; places = sym places_are };
  definitions = refl;
}

abbrev pub placed_schema : Placed SchemaTree
placed_schema = record {
  tree = record { definitions = bulk_defs };
  places = place_nodes 0 bulk_schema [] (schemas.nodes_of written_schema) (lex_from 0 bulk_schema);
}

pub schema_is : IsSchema 0 bulk_schema placed_schema
schema_is = record {
  written = written_schema;
  tree = record { utf8 = schema_utf8; tokens = schema_tokens; formed = formed_schema; shallow = schema_shallow; places = refl };
  definitions = refl;
}

-- ---- no rule gives a fault

pub schema_is_sound : IsSound bulk_defs
schema_is_sound = refl

pub documents_meet_rules : Meet document_rules bulk_defs bulk_project.documents
documents_meet_rules = refl

pub sizes_are_small : first_broken (size_rules bulk_defs bulk_project.documents) ≡ None
unfolding serde_json_on_literals digits read head
sizes_are_small = refl

pub nothing_merges_badly : merge_fault bulk_defs bulk_project.documents ≡ None
unfolding serde_json_on_literals digits read head
nothing_merges_badly = refl

pub bulk_is_accepted : BulkIsAccepted
bulk_is_accepted = record {
  tree = placed_schema;
  trees = record { schema_is = schema_is; documents_are = (document_is, tt) };
  says = refl;
  sound = schema_is_sound;
  meet = documents_meet_rules;
  sizes = sizes_are_small;
  merges = nothing_merges_badly;
}
