-- The text of an operation is read back: it has the tokens of the printed operation.
use Rattle.std.proofs.Common.{ℕ, ◌+◌, Bool, true, false, cond, List, [], ◌∷◌, ◌++◌, map, Option, Some, None, option_map, unwrap_or, bytes_eq, refl, sym, ap, ◌∙◌, append-nil}
use Rattle.std.specs.List.{AllByRecursion, filter}
use Rattle.std.specs.Option.{IfSome}
use Rattle.plan_ir.specs.gql_ast.Ty as ty
use Rattle.plan_ir.specs.gql_ast.Ty.{Ty}
use Rattle.plan_ir.specs.gql_ast.TypeView.{ty_of}
use Rattle.plan_ir.specs.gql_ast.ValueView.{value_of}
use Rattle.plan_ir.specs.gql_ast.declared.directive.Directive.{Directive}
use Rattle.plan_ir.specs.gql_ast.declared.document.Kind.{Kind}
use Rattle.plan_ir.specs.gql_ast.declared.document.Kind.TheVariants.{Query, Mutation, Subscription}
use Rattle.plan_ir.specs.gql_ast.declared.value.ValueTree.{ValueTree}
use Rattle.plan_ir.specs.gql_ast.declared.variable.VariableDef.{VariableDef}
use Rattle.plan_ir.specs.gql_lex.Toks as tok
use Rattle.plan_ir.specs.gql_lex.Toks.{Tok, tokens_of}
use Rattle.gql_parse.specs.Documents.{FormedVariable, spell_braces, spell_name, spell_on, spell_operation, spell_selections, spell_variables, spell_variables_part}
use Rattle.plan_ir.proofs.gql_syntax_laws.BuiltTrees.{value_of-value_tree}
use Rattle.plan_ir.specs.gql_syntax.Formed.{FormedDefault, FormedDirectives, FormedType}
use Rattle.plan_ir.specs.gql_syntax.Spelling.{spell_arguments, spell_default, spell_directives, spell_type, spell_value}
use Rattle.plan_ir.specs.gql_syntax.Words.{IsName, kind_word, on_word}
use Rattle.plan_ir.specs.Nodes.{Nodes, end, field, inline}
use Rattle.plan_ir.specs.OperationText.{arguments_text, condition_text, default_text, directives_text, enclose, enclose_some, join_texts, name_text, node_texts, type_text, used_variables, value_text, variable_text, variables_text}
use Rattle.plan_text.proofs.ReadBack.{comma_read, space_read, spread_read}
use Rattle.plan_text.proofs.Spelling.{Opens, Reads, at_sign_stands, bang_stands, behind_reads, chain, close_brace_stands, close_bracket_stands, close_paren_stands, colon_stands, dollar_stands, enclosed_reads, equals_stands, joined_reads, name_reads, nothing_left, nothing_reads, open_brace_stands, open_bracket_stands, open_paren_stands, then_reads}
use Rattle.plan_text.proofs.ValuesRead.{arguments_open, arguments_read, mark, value_reads}
use Rattle.plan_text.specs.Documents.{FormedNodes, SomeNode, SpellsPrinted}
use Rattle.plan_collect.specs.Printed.{alias_of, printed_operation, printed_arguments, printed_default, printed_directives, printed_selections, printed_value, printed_variable}
use Rattle.plan_ir.specs.schema_tables.Types.{Text}

-- ---- directives

directives_open : (ds : List Directive) → Opens (directives_text ds)
directives_open [] r free = free
directives_open (d ∷ ds) r free = refl

directives_read : (constant : Bool) (ds : List Directive) → FormedDirectives constant ds → Reads (directives_text ds) (λ ts. spell_directives mark (printed_directives ds) ts)
directives_read c [] h = nothing_reads
directives_read c (d ∷ ds) h =
    behind_reads 64 tok.at_sign at_sign_stands (d.name ++ arguments_text d.arguments ++ directives_text ds)
    (λ ts. tok.name d.name ∷ spell_arguments mark (printed_arguments d.arguments) (spell_directives mark (printed_directives ds) ts))
    (then_reads (d.name ++ arguments_text d.arguments) (directives_text ds) (λ ts. tok.name d.name ∷ spell_arguments mark (printed_arguments d.arguments) ts) (λ ts. spell_directives mark (printed_directives ds) ts)
    (then_reads d.name (arguments_text d.arguments) (λ ts. tok.name d.name ∷ ts) (λ ts. spell_arguments mark (printed_arguments d.arguments) ts) (name_reads d.name h.0.0) (arguments_read c d.arguments h.0.1) (arguments_open d.arguments))
    (directives_read c ds h.1) (directives_open ds))

-- ---- variables

type_reads : (t : Ty) (around above : ℕ) → FormedType t → Reads (type_text t) (λ ts. spell_type mark t around above ts)
type_reads (ty.named n) around above h = name_reads n h
type_reads (ty.list t) around above h =
    enclosed_reads 91 93 tok.open_bracket tok.close_bracket open_bracket_stands close_bracket_stands refl (type_text t) (λ ts. spell_type mark t (around + 1) 0 ts) (type_reads t (around + 1) 0 h)
type_reads (ty.non_null t) around above h =
    then_reads (type_text t) (33 ∷ []) (λ ts. spell_type mark t around (above + 1) ts) (λ ts. tok.bang ∷ ts) (type_reads t around (above + 1) h.1) (λ r free. bang_stands r) (λ r free. refl)

default_open : (d : Option ValueTree) → Opens (default_text (option_map value_of d))
default_open None r free = free
default_open (Some v) r free = refl

default_reads : (d : Option ValueTree) → FormedDefault d → Reads (default_text (option_map value_of d)) (λ ts. spell_default mark (printed_default d) ts)
default_reads None h = nothing_reads
default_reads (Some v) h = λ r free.
    behind_reads 61 tok.equals equals_stands (value_text (value_of v)) (λ ts. spell_value mark (printed_value (value_of v)) 0 ts) (value_reads true (value_of v) 0 h) r free
    ∙ ap (λ w. option_map (λ ts. tok.equals ∷ spell_value mark w 0 ts) (tokens_of r)) (sym (value_of-value_tree (printed_value (value_of v))))

-- the tokens of one variable
abbrev spell_one : VariableDef → List Tok → List Tok
spell_one v ts =
    tok.dollar ∷ tok.name v.name ∷ tok.colon ∷ spell_type mark (ty_of v.of) 0 0 (spell_default mark (printed_default v.default) (spell_directives mark (printed_directives v.directives) ts))

variable_reads : (v : VariableDef) → FormedVariable v → Reads (variable_text v) (spell_one v)
variable_reads v h =
    let of : Text = type_text (ty_of v.of) in
    let default : Text = default_text (option_map value_of v.default) in
    let directives : Text = directives_text v.directives in
    let behind_type = then_reads (of ++ default) directives
    (λ ts. spell_type mark (ty_of v.of) 0 0 (spell_default mark (printed_default v.default) ts)) (λ ts. spell_directives mark (printed_directives v.directives) ts)
    (then_reads of default (λ ts. spell_type mark (ty_of v.of) 0 0 ts) (λ ts. spell_default mark (printed_default v.default) ts) (type_reads (ty_of v.of) 0 0 h.1) (default_reads v.default h.2) (default_open v.default))
    (directives_read true v.directives h.3) (directives_open v.directives) in
    let behind_name = behind_reads 58 tok.colon colon_stands (of ++ default ++ directives) _ behind_type in
    behind_reads 36 tok.dollar dollar_stands (v.name ++ 58 ∷ (of ++ default ++ directives)) _
    (then_reads v.name (58 ∷ (of ++ default ++ directives)) (λ ts. tok.name v.name ∷ ts) _ (name_reads v.name h.0) behind_name (λ r free. refl))

variables_joined : (vs : List VariableDef) → AllByRecursion FormedVariable vs → Reads (join_texts 44 (map variable_text vs)) (λ ts. spell_variables mark (map printed_variable vs) ts)
variables_joined [] h = nothing_reads
variables_joined (v ∷ []) h = variable_reads v h.0
variables_joined (v ∷ w ∷ ws) h =
    joined_reads 44 comma_read refl (variable_text v) (variable_text w) (map variable_text ws) (spell_one v) (λ ts. spell_variables mark (map printed_variable (w ∷ ws)) ts) (variable_reads v h.0) (variables_joined (w ∷ ws) h.1)

variables_open : (vs : List VariableDef) → Opens (variables_text vs)
variables_open [] r free = free
variables_open (v ∷ vs) r free = refl

variables_read : (vs : List VariableDef) → AllByRecursion FormedVariable vs → Reads (variables_text vs) (λ ts. spell_variables_part mark (map printed_variable vs) ts)
variables_read [] h = nothing_reads
variables_read (v ∷ vs) h =
    enclosed_reads 40 41 tok.open_paren tok.close_paren open_paren_stands close_paren_stands refl (join_texts 44 (map variable_text (v ∷ vs))) (λ ts. spell_variables mark (map printed_variable (v ∷ vs)) ts) (variables_joined (v ∷ vs) h)

pub all-filter : {X : Type 0} (P : X → Type 0) (p : X → Bool) (xs : List X) → AllByRecursion P xs → AllByRecursion P (filter p xs)
all-filter P p [] all = tt
all-filter P p (x ∷ xs) all = on (all-filter P p xs all.1) (p x)
  where
    on : AllByRecursion P (filter p xs) → (b : Bool) → AllByRecursion P (cond b (x ∷ filter p xs) (filter p xs))
    on rest true = (all.0, rest)
    on rest false = rest

-- ---- selection sets

alias_reads : (b : Bool) (r n : Text) → IsName r → IsName n → Reads (cond b n (r ++ 58 ∷ n)) (λ ts. spell_name mark (cond b None (Some r)) n ts)
alias_reads true r n h k = name_reads n k
alias_reads false r n h k =
    then_reads r (58 ∷ n) (λ ts. tok.name r ∷ ts) (λ ts. tok.colon ∷ tok.name n ∷ ts) (name_reads r h) (behind_reads 58 tok.colon colon_stands n (λ ts. tok.name n ∷ ts) (name_reads n k)) (λ s free. refl)

condition_reads : (o : Option Text) → IfSome o IsName → Reads (condition_text o) (λ ts. tok.spread ∷ spell_on mark o ts)
condition_reads None h r free = spread_read r
condition_reads (Some t) h r free =
    chain (λ ts. tok.spread ∷ ts) (λ ts. tok.name on_word ∷ tok.name t ∷ ts) _ (tokens_of (on_word ++ 32 ∷ (t ++ r))) (tokens_of r) (spread_read (on_word ++ 32 ∷ (t ++ r)))
    (chain (λ ts. tok.name on_word ∷ ts) (λ ts. tok.name t ∷ ts) _ (tokens_of (32 ∷ (t ++ r))) (tokens_of r) (name_reads on_word refl (32 ∷ (t ++ r)) refl)
    (space_read (t ++ r) ∙ name_reads t h r free))

braces_open : (s : Nodes) → Opens (enclose_some 123 32 125 (node_texts s))
braces_open end r free = free
braces_open (field q n xs ds c of s p rest) r free = refl
braces_open (inline o ds s p rest) r free = refl

-- the set of an operation or an inline fragment, and that of a field
some_braces : (s : Nodes) (level : ℕ) → SomeNode s → Reads (join_texts 32 (node_texts s)) (λ ts. spell_selections mark (printed_selections s) level ts)
    → Reads (enclose 123 32 125 (node_texts s)) (λ ts. spell_braces mark (printed_selections s) level (λ us. spell_selections mark (printed_selections s) level us) ts)
some_braces end level some inside = absurd some
some_braces (field q n xs ds c of s p rest) level some inside =
    enclosed_reads 123 125 tok.open_brace tok.close_brace open_brace_stands close_brace_stands refl (join_texts 32 (node_texts (field q n xs ds c of s p rest))) _ inside
some_braces (inline o ds s p rest) level some inside =
    enclosed_reads 123 125 tok.open_brace tok.close_brace open_brace_stands close_brace_stands refl (join_texts 32 (node_texts (inline o ds s p rest))) _ inside

braces_read : (s : Nodes) (level : ℕ) → Reads (join_texts 32 (node_texts s)) (λ ts. spell_selections mark (printed_selections s) level ts)
    → Reads (enclose_some 123 32 125 (node_texts s)) (λ ts. spell_braces mark (printed_selections s) level (λ us. spell_selections mark (printed_selections s) level us) ts)
braces_read end level inside = nothing_reads
braces_read (field q n xs ds c of s p rest) level inside = some_braces (field q n xs ds c of s p rest) level tt inside
braces_read (inline o ds s p rest) level inside = some_braces (inline o ds s p rest) level tt inside

-- one selection, and those behind it
selections_then : (t : Text) (f : List Tok → List Tok) (rest : Nodes) (level : ℕ) → Reads t f
    → Reads (join_texts 32 (node_texts rest)) (λ ts. spell_selections mark (printed_selections rest) level ts)
    → Reads (join_texts 32 (t ∷ node_texts rest)) (λ ts. f (spell_selections mark (printed_selections rest) level ts))
selections_then t f end level a b = a
selections_then t f (field q n xs ds c of s p rest) level a b =
    joined_reads 32 space_read refl t (name_text q n ++ arguments_text xs ++ directives_text ds ++ enclose_some 123 32 125 (node_texts s)) (node_texts rest) f
    (λ ts. spell_selections mark (printed_selections (field q n xs ds c of s p rest)) level ts) a b
selections_then t f (inline o ds s p rest) level a b =
    joined_reads 32 space_read refl t (condition_text o ++ directives_text ds ++ enclose 123 32 125 (node_texts s)) (node_texts rest) f
    (λ ts. spell_selections mark (printed_selections (inline o ds s p rest)) level ts) a b

selections_read : (s : Nodes) (level : ℕ) → FormedNodes s → Reads (join_texts 32 (node_texts s)) (λ ts. spell_selections mark (printed_selections s) level ts)
selections_read end level h = nothing_reads
selections_read (field q n xs ds c of s p rest) level h =
    let inside = braces_read s (level + 1) (selections_read s (level + 1) h.4) in
    let set : Text = enclose_some 123 32 125 (node_texts s) in
    let head = then_reads (name_text q n) (arguments_text xs) (λ ts. spell_name mark (alias_of q n) n ts) (λ ts. spell_arguments mark (printed_arguments xs) ts)
    (alias_reads (bytes_eq q n) q n h.0 h.1) (arguments_read false xs h.2) (arguments_open xs) in
    let named = then_reads (name_text q n ++ arguments_text xs) (directives_text ds) _ (λ ts. spell_directives mark (printed_directives ds) ts) head (directives_read false ds h.3) (directives_open ds) in
    let one = then_reads (name_text q n ++ arguments_text xs ++ directives_text ds) set _ _ named inside (braces_open s) in
    selections_then (name_text q n ++ arguments_text xs ++ directives_text ds ++ set) _ rest level one (selections_read rest level h.5)
selections_read (inline o ds s p rest) level h =
    let inside = some_braces s (level + 1) h.2 (selections_read s (level + 1) h.3) in
    let set : Text = enclose 123 32 125 (node_texts s) in
    let head = then_reads (condition_text o) (directives_text ds) (λ ts. tok.spread ∷ spell_on mark o ts) (λ ts. spell_directives mark (printed_directives ds) ts)
    (condition_reads o h.0) (directives_read false ds h.1) (directives_open ds) in
    let one = then_reads (condition_text o ++ directives_text ds) set _ _ head inside (λ r free. refl) in
    selections_then (condition_text o ++ directives_text ds ++ set) _ rest level one (selections_read rest level h.4)

-- ---- operations

kind_is_name : (k : Kind) → IsName (kind_word k)
kind_is_name Query = refl
kind_is_name Mutation = refl
kind_is_name Subscription = refl

pub spells_printed : SpellsPrinted
spells_printed e h =
    let variables : Text = variables_text (used_variables e) in
    let directives : Text = directives_text e.directives in
    let set : Text = enclose 123 32 125 (node_texts e.selections) in
    let kind : Text = kind_word (unwrap_or e.kind Query) in
    let named = then_reads e.name variables (λ ts. tok.name e.name ∷ ts) (λ ts. spell_variables_part mark (map printed_variable (used_variables e)) ts)
    (name_reads e.name h.name) (variables_read (used_variables e) (all-filter FormedVariable _ e.variables h.variables)) (variables_open (used_variables e)) in
    let directed = then_reads (e.name ++ variables) directives _ (λ ts. spell_directives mark (printed_directives e.directives) ts) named (directives_read false e.directives h.directives) (directives_open e.directives) in
    let whole = then_reads (e.name ++ variables ++ directives) set _ _ directed (some_braces e.selections 1 h.some (selections_read e.selections 1 h.selections)) (λ r free. refl) in
    let rest : Text = e.name ++ variables ++ directives ++ set in
    ap tokens_of (sym (append-nil (kind ++ 32 ∷ rest)))
    ∙ then_reads kind (32 ∷ rest) (λ ts. tok.name kind ∷ ts) _ (name_reads kind (kind_is_name (unwrap_or e.kind Query)))
    (λ r free. space_read (rest ++ r) ∙ whole r free) (λ r free. refl) [] refl
    ∙ ap (option_map (λ ts. spell_operation mark 1 (printed_operation e) ts)) nothing_left
