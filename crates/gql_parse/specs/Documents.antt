-- How documents are written (GraphQL, October 2021, sections 2.2 to 2.8, 2.10). Each definition gives the tokens of a
-- tree, and behind them those that are given; `mark` says what is kept of a token, as for values.
use Rattle.std.specs.Prelude.{◌≡◌, ℕ, ◌+◌, true, false, List, [], ◌∷◌, Option, Some, None, IfSome, bytes_eq, codes}
use Rattle.std.specs.List.{AllByRecursion}
use Rattle.gql_syntax.specs.gql_lex.Toks as tok
use Rattle.gql_syntax.specs.gql_lex.Toks.{Tok}
use Rattle.gql_syntax.specs.gql_ast.Sels.{Sels, end, field, spread, inline}
use Rattle.gql_syntax.specs.gql_ast.TypeView.{ty_of}
use Rattle.gql_syntax.specs.gql_ast.declared.document.Definition.{Definition}
use Rattle.gql_syntax.specs.gql_ast.declared.document.Definition.TheVariants as D
use Rattle.gql_syntax.specs.gql_ast.declared.document.Fragment.{Fragment}
use Rattle.gql_syntax.specs.gql_ast.declared.document.Kind.TheVariants.{Query}
use Rattle.gql_syntax.specs.gql_ast.declared.document.Operation.{Operation}
use Rattle.gql_syntax.specs.gql_ast.declared.variable.VariableDef.{VariableDef}
use Rattle.gql_syntax.specs.FirstFault.{Grammar}
use Rattle.gql_syntax.specs.Formed.{FormedArguments, FormedDirectives, FormedDefault, FormedType}
use Rattle.gql_syntax.specs.Spelling.{Mark, plain, spell_arguments, spell_directives, spell_type, spell_default}
use Rattle.gql_syntax.specs.Words.{on_word, kind_word, IsName}

abbrev pub fragment_word : List ℕ
fragment_word = codes "fragment"

-- ---- selection sets: `level` is the number of the set, the operation's own being 1

-- (Name `:`)?, of a field
abbrev pub spell_name : {X : Type 0} → Mark X → (alias : Option (List ℕ)) → List ℕ → List X → List X
spell_name mark None n ts = plain mark (tok.name n) 2 ∷ ts
spell_name mark (Some a) n ts = plain mark (tok.name a) 2 ∷ plain mark tok.colon 0 ∷ plain mark (tok.name n) 1 ∷ ts

-- none, or `on` Name
abbrev pub spell_on : {X : Type 0} → Mark X → Option (List ℕ) → List X → List X
spell_on mark None ts = ts
spell_on mark (Some n) ts = plain mark (tok.name on_word) 0 ∷ plain mark (tok.name n) 1 ∷ ts

-- none, or `{` Selection+ `}`: what is written inside goes before what follows
abbrev pub spell_braces : {X : Type 0} → Mark X → Sels → (level : ℕ) → (inside : List X → List X) → List X → List X
spell_braces mark end level inside ts = ts
spell_braces mark s level inside ts = mark tok.open_brace level 0 ∷ inside (plain mark tok.close_brace 0 ∷ ts)

abbrev pub spell_selections : {X : Type 0} → Mark X → Sels → (level : ℕ) → List X → List X
spell_selections mark end level ts = ts
spell_selections mark (field a n xs ds s rest) level ts =
    spell_name mark a n (spell_arguments mark xs (spell_directives mark ds
    (spell_braces mark s (level + 1) (spell_selections mark s (level + 1)) (spell_selections mark rest level ts))))
spell_selections mark (spread n ds rest) level ts =
    plain mark tok.spread 1 ∷ plain mark (tok.name n) 1 ∷ spell_directives mark ds (spell_selections mark rest level ts)
spell_selections mark (inline o ds s rest) level ts =
    plain mark tok.spread 1 ∷ spell_on mark o (spell_directives mark ds
    (spell_braces mark s (level + 1) (spell_selections mark s (level + 1)) (spell_selections mark rest level ts)))

-- the set of an operation or a fragment
abbrev pub spell_set : {X : Type 0} → Mark X → Sels → List X → List X
spell_set mark s ts = spell_braces mark s 1 (spell_selections mark s 1) ts

-- ---- operations and fragments: `first` nodes begin at the first token already

abbrev pub spell_optional_name : {X : Type 0} → Mark X → Option (List ℕ) → List X → List X
spell_optional_name mark None ts = ts
spell_optional_name mark (Some n) ts = plain mark (tok.name n) 1 ∷ ts

-- `$` Name `:` Type Default? Dirs?
abbrev pub spell_variables : {X : Type 0} → Mark X → List VariableDef → List X → List X
spell_variables mark [] ts = ts
spell_variables mark (v ∷ vs) ts =
    plain mark tok.dollar 1 ∷ plain mark (tok.name v.name) 1 ∷ plain mark tok.colon 0
    ∷ spell_type mark (ty_of v.of) 0 0 (spell_default mark v.default (spell_directives mark v.directives (spell_variables mark vs ts)))

-- none, or `(` Var+ `)`
abbrev pub spell_variables_part : {X : Type 0} → Mark X → List VariableDef → List X → List X
spell_variables_part mark [] ts = ts
spell_variables_part mark (v ∷ vs) ts = plain mark tok.open_paren 0 ∷ spell_variables mark (v ∷ vs) (plain mark tok.close_paren 0 ∷ ts)

-- Name? (`(` Var+ `)`)? Dirs? Set
abbrev pub spell_operation_body : {X : Type 0} → Mark X → Operation → List X → List X
spell_operation_body mark o ts =
    spell_optional_name mark o.name (spell_variables_part mark o.variables (spell_directives mark o.directives (spell_set mark o.selections ts)))

-- Kind and the body
abbrev pub spell_operation : {X : Type 0} → Mark X → (first : ℕ) → Operation → List X → List X
spell_operation mark first o ts = plain mark (tok.name (kind_word o.kind)) (first + 2) ∷ spell_operation_body mark o ts

-- SpreadName `on` Name Dirs? Set
abbrev pub spell_fragment_body : {X : Type 0} → Mark X → Fragment → List X → List X
spell_fragment_body mark f ts =
    plain mark (tok.name f.name) 1 ∷ plain mark (tok.name on_word) 0 ∷ plain mark (tok.name f.on) 1
    ∷ spell_directives mark f.directives (spell_set mark f.selections ts)

-- `fragment` and the body
abbrev pub spell_fragment : {X : Type 0} → Mark X → (first : ℕ) → Fragment → List X → List X
spell_fragment mark first f ts = plain mark (tok.name fragment_word) (first + 2) ∷ spell_fragment_body mark f ts

-- a definition as it is written: a selection set alone, or in full
pub data Written : Type 0 where
  bare : Sels → Written
  full : Definition → Written

-- a selection set alone is a query without a name
abbrev pub definition_of : Written → Definition
definition_of (bare s) = D.Operation (record { kind = Query; name = None; variables = []; directives = []; selections = s })
definition_of (full d) = d

abbrev pub spell_definition : {X : Type 0} → Mark X → (first : ℕ) → Written → List X → List X
spell_definition mark first (bare s) ts = mark tok.open_brace 1 (first + 2) ∷ spell_selections mark s 1 (plain mark tok.close_brace 0 ∷ ts)
spell_definition mark first (full (D.Operation o)) ts = spell_operation mark first o ts
spell_definition mark first (full (D.Fragment f)) ts = spell_fragment mark first f ts

abbrev pub spell_definitions : {X : Type 0} → Mark X → (first : ℕ) → List Written → List X
spell_definitions mark first [] = []
spell_definitions mark first (w ∷ ws) = spell_definition mark first w (spell_definitions mark 0 ws)

-- the document itself begins at the first token too
abbrev pub spell_document : {X : Type 0} → Mark X → List Written → List X
spell_document mark ws = spell_definitions mark 1 ws

-- ---- which trees are documents: all names are Names

-- another word than `on`
abbrev pub IsSpreadName : List ℕ → Type 0
IsSpreadName n = bytes_eq n on_word ≡ false

abbrev pub SomeSelection : Sels → Type 0
SomeSelection end = ⊥
SomeSelection s = Unit {0}

abbrev pub FormedSelections : Sels → Type 0
FormedSelections end = Unit {0}
FormedSelections (field a n xs ds s rest) =
    IfSome a IsName × IsName n × FormedArguments false xs × FormedDirectives false ds × FormedSelections s × FormedSelections rest
FormedSelections (spread n ds rest) = IsName n × IsSpreadName n × FormedDirectives false ds × FormedSelections rest
FormedSelections (inline o ds s rest) =
    IfSome o IsName × FormedDirectives false ds × SomeSelection s × FormedSelections s × FormedSelections rest

abbrev pub FormedSet : Sels → Type 0
FormedSet s = SomeSelection s × FormedSelections s

abbrev pub FormedVariable : VariableDef → Type 0
FormedVariable v = IsName v.name × FormedType (ty_of v.of) × FormedDefault v.default × FormedDirectives true v.directives

abbrev pub FormedDefinition : Definition → Type 0
FormedDefinition (D.Operation o) =
    IfSome o.name IsName × AllByRecursion FormedVariable o.variables × FormedDirectives false o.directives × FormedSet o.selections
FormedDefinition (D.Fragment f) =
    IsName f.name × IsSpreadName f.name × IsName f.on × FormedDirectives false f.directives × FormedSet f.selections

abbrev pub FormedWritten : Written → Type 0
FormedWritten (bare s) = FormedSet s
FormedWritten (full d) = FormedDefinition d

abbrev pub SomeDefinition : List Written → Type 0
SomeDefinition [] = ⊥
SomeDefinition (w ∷ ws) = Unit {0}

abbrev pub FormedDocument : List Written → Type 0
FormedDocument ws = SomeDefinition ws × AllByRecursion FormedWritten ws

-- ---- the grammar of documents

abbrev pub documents : Grammar (List Written)
documents = record {
  tokens = spell_document (λ t l n. t);
  levels = spell_document (λ t l n. l);
  Formed = FormedDocument;
}

-- how many nodes begin at each token
abbrev pub nodes_of : List Written → List ℕ
nodes_of ws = spell_document (λ t l n. n) ws
