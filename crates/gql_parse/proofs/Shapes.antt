-- The shapes of the documents that the machine puts together, whatever the names in its tokens are. A document of this shape
-- that is written with tokens such as texts have is formed.
use Rattle.std.proofs.Common.{ℕ, ◌+◌, true, false, List, [], ◌∷◌, Option, Some, None, IfSome}
use Rattle.std.specs.List.{AllByRecursion}
use Rattle.gql_syntax.specs.gql_lex.Toks as tok
use Rattle.gql_syntax.specs.gql_lex.Toks.{Tok}
use Rattle.gql_syntax.specs.gql_ast.Sels.{Sels, end, field, spread, inline}
use Rattle.gql_syntax.specs.gql_ast.TypeView.{ty_of}
use Rattle.gql_syntax.specs.gql_ast.declared.document.Definition.{Definition}
use Rattle.gql_syntax.specs.gql_ast.declared.document.Definition.TheVariants as D
use Rattle.gql_syntax.specs.gql_ast.declared.document.Fragment.{Fragment}
use Rattle.gql_syntax.specs.gql_ast.declared.document.Operation.{Operation}
use Rattle.gql_syntax.specs.gql_ast.declared.variable.VariableDef.{VariableDef}
use Rattle.gql_parse.specs.Documents.{Written, bare, full, documents, spell_braces, spell_name, spell_on, spell_selections, spell_set, spell_optional_name, spell_variables, spell_variables_part, spell_operation, spell_fragment, spell_definition, spell_definitions, IsSpreadName, SomeSelection, SomeDefinition, FormedSelections, FormedSet, FormedVariable, FormedDefinition, FormedWritten, FormedDocument}
use Rattle.gql_syntax.proofs.Forms.{AreToks, arguments_forms, directives_forms, type_forms, default_forms, arguments_shape, directives_shape, type_shape, default_shape}
use Rattle.gql_syntax.proofs.Shapes.{ShapedArguments, ShapedDirectives, ShapedDefault, ShapedType}
use Rattle.gql_syntax.specs.Spelling.{Mark, spell_arguments, spell_directives, spell_default}
use Rattle.gql_syntax.specs.Words.{IsName}

abbrev pub ShapedSelections : Sels → Type 0
ShapedSelections end = Unit {0}
ShapedSelections (field a n xs ds s rest) = ShapedArguments false xs × ShapedDirectives false ds × ShapedSelections s × ShapedSelections rest
ShapedSelections (spread n ds rest) = IsSpreadName n × ShapedDirectives false ds × ShapedSelections rest
ShapedSelections (inline o ds s rest) = ShapedDirectives false ds × SomeSelection s × ShapedSelections s × ShapedSelections rest

abbrev pub ShapedSet : Sels → Type 0
ShapedSet s = SomeSelection s × ShapedSelections s

abbrev pub ShapedVariable : VariableDef → Type 0
ShapedVariable v = ShapedType (ty_of v.of) × ShapedDefault v.default × ShapedDirectives true v.directives

abbrev pub ShapedDefinition : Definition → Type 0
ShapedDefinition (D.Operation o) = AllByRecursion ShapedVariable o.variables × ShapedDirectives false o.directives × ShapedSet o.selections
ShapedDefinition (D.Fragment f) = IsSpreadName f.name × ShapedDirectives false f.directives × ShapedSet f.selections

abbrev pub ShapedWritten : Written → Type 0
ShapedWritten (bare s) = ShapedSet s
ShapedWritten (full d) = ShapedDefinition d

abbrev pub ShapedDocument : List Written → Type 0
ShapedDocument ws = SomeDefinition ws × AllByRecursion ShapedWritten ws

-- ---- trees that are written with tokens such as texts have

abbrev keep : Mark Tok
keep t level nodes = t

abbrev Spelt : (List Tok → List Tok) → Type 0 → Type 0
Spelt spell P = (ts : List Tok) → AreToks (spell ts) → P × AreToks ts

name_forms : (a : Option (List ℕ)) (n : List ℕ) → Spelt (spell_name keep a n) (IfSome a IsName × IsName n)
name_forms None n ts h = ((tt, h.0), h.1)
name_forms (Some a) n ts h = ((h.0, h.1.1.0), h.1.1.1)

on_forms : (o : Option (List ℕ)) → Spelt (spell_on keep o) (IfSome o IsName)
on_forms None ts h = (tt, h)
on_forms (Some n) ts h = (h.1.0, h.1.1)

optional_name_forms : (n : Option (List ℕ)) → Spelt (spell_optional_name keep n) (IfSome n IsName)
optional_name_forms None ts h = (tt, h)
optional_name_forms (Some n) ts h = (h.0, h.1)

-- by what holds of what is written inside
braced_forms : (s : Sels) (level : ℕ) (inside : List Tok → List Tok) → Spelt inside (FormedSelections s) → Spelt (spell_braces keep s level inside) (FormedSelections s)
braced_forms end level inside f ts h = (tt, h)
braced_forms (field a n xs ds s rest) level inside f ts h = let r = f (tok.close_brace ∷ ts) h.1 in (r.0, r.1.1)
braced_forms (spread n ds rest) level inside f ts h = let r = f (tok.close_brace ∷ ts) h.1 in (r.0, r.1.1)
braced_forms (inline o ds s rest) level inside f ts h = let r = f (tok.close_brace ∷ ts) h.1 in (r.0, r.1.1)

selections_forms : (s : Sels) (level : ℕ) → ShapedSelections s → Spelt (spell_selections keep s level) (FormedSelections s)
selections_forms end level p ts h = (tt, h)
selections_forms (field a n xs ds s rest) level p ts h =
    let behind = spell_selections keep rest level ts in
    let body = spell_braces keep s (level + 1) (spell_selections keep s (level + 1)) behind in
    let r1 = name_forms a n (spell_arguments keep xs (spell_directives keep ds body)) h in
    let r2 = arguments_forms false xs p.0 (spell_directives keep ds body) r1.1 in
    let r3 = directives_forms false ds p.1 body r2.1 in
    let r4 = braced_forms s (level + 1) (spell_selections keep s (level + 1)) (selections_forms s (level + 1) p.2) behind r3.1 in
    let r5 = selections_forms rest level p.3 ts r4.1 in
    ((r1.0.0, r1.0.1, r2.0, r3.0, r4.0, r5.0), r5.1)
selections_forms (spread n ds rest) level p ts h =
    let r1 = directives_forms false ds p.1 (spell_selections keep rest level ts) h.1.1 in
    let r2 = selections_forms rest level p.2 ts r1.1 in
    ((h.1.0, p.0, r1.0, r2.0), r2.1)
selections_forms (inline o ds s rest) level p ts h =
    let behind = spell_selections keep rest level ts in
    let body = spell_braces keep s (level + 1) (spell_selections keep s (level + 1)) behind in
    let r1 = on_forms o (spell_directives keep ds body) h.1 in
    let r2 = directives_forms false ds p.0 body r1.1 in
    let r3 = braced_forms s (level + 1) (spell_selections keep s (level + 1)) (selections_forms s (level + 1) p.2) behind r2.1 in
    let r4 = selections_forms rest level p.3 ts r3.1 in
    ((r1.0, r2.0, p.1, r3.0, r4.0), r4.1)

set_forms : (s : Sels) → ShapedSet s → Spelt (spell_set keep s) (FormedSet s)
set_forms s p ts h =
    let r = braced_forms s 1 (spell_selections keep s 1) (selections_forms s 1 p.1) ts h in
    ((p.0, r.0), r.1)

variables_forms : (vs : List VariableDef) → AllByRecursion ShapedVariable vs → Spelt (spell_variables keep vs) (AllByRecursion FormedVariable vs)
variables_forms [] p ts h = (tt, h)
variables_forms (v ∷ vs) p ts h =
    let behind = spell_variables keep vs ts in
    let r1 = type_forms (ty_of v.of) 0 0 p.0.0 (spell_default keep v.default (spell_directives keep v.directives behind)) h.1.1.1 in
    let r2 = default_forms v.default p.0.1 (spell_directives keep v.directives behind) r1.1 in
    let r3 = directives_forms true v.directives p.0.2 behind r2.1 in
    let r4 = variables_forms vs p.1 ts r3.1 in
    (((h.1.0, r1.0, r2.0, r3.0), r4.0), r4.1)

variables_part_forms : (vs : List VariableDef) → AllByRecursion ShapedVariable vs → Spelt (spell_variables_part keep vs) (AllByRecursion FormedVariable vs)
variables_part_forms [] p ts h = (tt, h)
variables_part_forms (v ∷ vs) p ts h = let r = variables_forms (v ∷ vs) p (tok.close_paren ∷ ts) h.1 in (r.0, r.1.1)

operation_forms : (first : ℕ) (o : Operation) → ShapedDefinition (D.Operation o) → Spelt (spell_operation keep first o) (FormedDefinition (D.Operation o))
operation_forms first o p ts h =
    let set = spell_set keep o.selections ts in
    let r1 = optional_name_forms o.name (spell_variables_part keep o.variables (spell_directives keep o.directives set)) h.1 in
    let r2 = variables_part_forms o.variables p.0 (spell_directives keep o.directives set) r1.1 in
    let r3 = directives_forms false o.directives p.1 set r2.1 in
    let r4 = set_forms o.selections p.2 ts r3.1 in
    ((r1.0, r2.0, r3.0, r4.0), r4.1)

fragment_forms : (first : ℕ) (d : Fragment) → ShapedDefinition (D.Fragment d) → Spelt (spell_fragment keep first d) (FormedDefinition (D.Fragment d))
fragment_forms first d p ts h =
    let r1 = directives_forms false d.directives p.1 (spell_set keep d.selections ts) h.1.1.1.1 in
    let r2 = set_forms d.selections p.2 ts r1.1 in
    ((h.1.0, p.0, h.1.1.1.0, r1.0, r2.0), r2.1)

definition_forms : (first : ℕ) (w : Written) → ShapedWritten w → Spelt (spell_definition keep first w) (FormedWritten w)
definition_forms first (bare s) p ts h = let r = selections_forms s 1 p.1 (tok.close_brace ∷ ts) h.1 in ((p.0, r.0), r.1.1)
definition_forms first (full (D.Operation o)) p ts h = operation_forms first o p ts h
definition_forms first (full (D.Fragment d)) p ts h = fragment_forms first d p ts h

definitions_forms : (first : ℕ) (ws : List Written) → AllByRecursion ShapedWritten ws → AreToks (spell_definitions keep first ws) → AllByRecursion FormedWritten ws
definitions_forms first [] p h = tt
definitions_forms first (w ∷ ws) p h =
    let r = definition_forms first w p.0 (spell_definitions keep 0 ws) h in
    (r.0, definitions_forms 0 ws p.1 r.1)

pub document_forms : (ws : List Written) → ShapedDocument ws → AreToks (documents.tokens ws) → FormedDocument ws
document_forms ws p h = (p.0, definitions_forms 1 ws p.1 h)

-- ---- what is formed has the shape

selections_shape : (s : Sels) → FormedSelections s → ShapedSelections s
selections_shape end f = tt
selections_shape (field a n xs ds s rest) f =
    (arguments_shape false xs f.2, directives_shape false ds f.3, selections_shape s f.4, selections_shape rest f.5)
selections_shape (spread n ds rest) f = (f.1, directives_shape false ds f.2, selections_shape rest f.3)
selections_shape (inline o ds s rest) f = (directives_shape false ds f.1, f.2, selections_shape s f.3, selections_shape rest f.4)

set_shape : (s : Sels) → FormedSet s → ShapedSet s
set_shape s f = (f.0, selections_shape s f.1)

variables_shape : (vs : List VariableDef) → AllByRecursion FormedVariable vs → AllByRecursion ShapedVariable vs
variables_shape [] f = tt
variables_shape (v ∷ vs) f = ((type_shape (ty_of v.of) f.0.1, default_shape v.default f.0.2, directives_shape true v.directives f.0.3), variables_shape vs f.1)

written_shape : (w : Written) → FormedWritten w → ShapedWritten w
written_shape (bare s) f = set_shape s f
written_shape (full (D.Operation o)) f = (variables_shape o.variables f.1, directives_shape false o.directives f.2, set_shape o.selections f.3)
written_shape (full (D.Fragment d)) f = (f.1, directives_shape false d.directives f.3, set_shape d.selections f.4)

all_shape : (ws : List Written) → AllByRecursion FormedWritten ws → AllByRecursion ShapedWritten ws
all_shape [] f = tt
all_shape (w ∷ ws) f = (written_shape w f.0, all_shape ws f.1)

pub document_shape : (ws : List Written) → FormedDocument ws → ShapedDocument ws
document_shape ws f = (f.0, all_shape ws f.1)
