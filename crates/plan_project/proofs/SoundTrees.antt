-- Which trees are sound: names are Names, an Int lies within 64 bits, and strings are UTF-8. The trees of a text are.
use Rattle.std.proofs.Common.{◌≡◌, ℕ, ◌+◌, ◌-◌, Bool, true, false, List, [], ◌∷◌, length, option_map, Option, Some, None, IsUtf8, refl, sym, subst, arith}
use Rattle.std.proofs.lemmas.List.{take_all}
use Rattle.std.proofs.lemmas.Str.{IsUtf8-between}
use Rattle.std.specs.List.{AllByRecursion}
use Rattle.std.specs.Option.{IfSome}
use Rattle.plan_ir.specs.gql_ast.Sels as sels
use Rattle.plan_ir.specs.gql_ast.Sels.{Sels}
use Rattle.plan_ir.specs.gql_ast.TypeView.{ty_of}
use Rattle.plan_ir.specs.gql_ast.Value.{Val, Vals, Members, variable, int, text, truth, null, enum, list, object, no_vals, val, no_members, member, members_of}
use Rattle.plan_ir.specs.gql_ast.ValueView.{value_of}
use Rattle.plan_ir.specs.gql_ast.declared.directive.Directive.{Directive}
use Rattle.plan_ir.specs.gql_ast.declared.document.Definition.{Definition}
use Rattle.plan_ir.specs.gql_ast.declared.document.Definition.TheVariants as D
use Rattle.plan_ir.specs.gql_ast.declared.value.ValueTree.{ValueTree}
use Rattle.plan_ir.specs.gql_ast.declared.variable.VariableDef.{VariableDef}
use Rattle.plan_ir.proofs.gql_lex_laws.Gaps.{describes}
use Rattle.plan_ir.proofs.gql_lex_laws.LongestToken.{longest_token}
use Rattle.plan_ir.specs.gql_lex.declared.tokens.TokenKind.{TokenKind}
use Rattle.plan_ir.specs.gql_lex.declared.tokens.TokenKind.TheVariants as kind
use Rattle.plan_ir.specs.gql_lex.Descriptions.{Describes}
use Rattle.plan_ir.specs.gql_lex.Heads.{IsToken}
use Rattle.plan_ir.specs.gql_lex.Lexemes as lexeme
use Rattle.plan_ir.specs.gql_lex.Sources.{Source, ended, faulty, token, lex_from}
use Rattle.plan_ir.specs.gql_lex.Toks as tok
use Rattle.plan_ir.specs.gql_lex.Toks.{Tok, tok_of, tok_of_piece, tokens_of, toks_of}
use Rattle.text_places.specs.gql_parse.Documents.{FormedSelections, FormedVariable, FormedWritten, SomeSelection, Written, bare, full, definition_of, spell_braces, spell_definition, spell_name, spell_on, spell_optional_name, spell_selections, spell_set, spell_variables, spell_variables_part}
use Rattle.plan_ir.proofs.gql_syntax_laws.Puncts.{punct_stands}
use Rattle.plan_ir.proofs.gql_syntax_laws.Tokens.{by_tok}
use Rattle.plan_ir.specs.gql_syntax.Formed.{FormedDefault, FormedDirectives, FormedMembers, FormedValue, FormedValues}
use Rattle.plan_ir.specs.gql_syntax.Nexts.{is_punctuator}
use Rattle.plan_ir.specs.gql_syntax.Spelling.{spell_arguments, spell_default, spell_directives, spell_members, spell_type, spell_value, spell_values}
use Rattle.plan_ir.specs.gql_syntax.Words.{IsEnumName, IsInt, IsName}
use Rattle.plan_ir.specs.gql_ast.Ty as ty
use Rattle.plan_ir.specs.gql_ast.Ty.{Ty}
use Rattle.plan_project.proofs.Utf8Strings.{block_utf8, text_utf8}
use Rattle.plan_ir.specs.schema_tables.Types.{Text}

-- ---- what is sound

abbrev mutual
  pub SoundValue : Val → Type 0
  SoundValue (variable n) = IsName n
  SoundValue (int z) = IsInt z
  SoundValue (text t) = IsUtf8 t
  SoundValue (truth b) = Unit {0}
  SoundValue null = Unit {0}
  SoundValue (enum n) = IsName n × IsEnumName n
  SoundValue (list vs) = SoundValues vs
  SoundValue (object ms) = SoundMembers ms

  pub SoundValues : Vals → Type 0
  SoundValues no_vals = Unit {0}
  SoundValues (val v vs) = SoundValue v × SoundValues vs

  pub SoundMembers : Members → Type 0
  SoundMembers no_members = Unit {0}
  SoundMembers (member n v ms) = IsName n × SoundValue v × SoundMembers ms

abbrev pub SoundArgument : Text × Val → Type 0
SoundArgument x = IsName x.0 × SoundValue x.1

abbrev pub SoundArguments : List (Text × Val) → Type 0
SoundArguments xs = AllByRecursion SoundArgument xs

abbrev pub SoundDirective : Directive → Type 0
SoundDirective d = IsName d.name × SoundArguments d.arguments

abbrev pub SoundDirectives : List Directive → Type 0
SoundDirectives ds = AllByRecursion SoundDirective ds

abbrev pub SoundDefault : Option ValueTree → Type 0
SoundDefault None = Unit {0}
SoundDefault (Some v) = SoundValue (value_of v)

abbrev pub SoundVariable : VariableDef → Type 0
SoundVariable v = FormedVariable v × SoundDefault v.default × SoundDirectives v.directives

abbrev pub SoundSelections : Sels → Type 0
SoundSelections sels.end = Unit {0}
SoundSelections (sels.field a n xs ds s rest) =
    IfSome a IsName × IsName n × SoundArguments xs × SoundDirectives ds × SoundSelections s × SoundSelections rest
SoundSelections (sels.spread n ds rest) = SoundDirectives ds × SoundSelections rest
SoundSelections (sels.inline o ds s rest) = IfSome o IsName × SoundDirectives ds × SomeSelection s × SoundSelections s × SoundSelections rest

abbrev pub SoundSet : Sels → Type 0
SoundSet s = SomeSelection s × SoundSelections s

abbrev pub SoundDefinition : Definition → Type 0
SoundDefinition (D.Operation o) = IfSome o.name IsName × AllByRecursion SoundVariable o.variables × SoundDirectives o.directives × SoundSet o.selections
SoundDefinition (D.Fragment f) = IsName f.on × SoundDirectives f.directives × SoundSet f.selections

-- ---- the tokens of a text

-- what a string says is text
abbrev pub IsSaid : Tok → Type 0
IsSaid (tok.text t) = IsUtf8 t
IsSaid t = Unit {0}

abbrev pub AreSaid : List Tok → Type 0
AreSaid ts = AllByRecursion IsSaid ts

whole_lexeme : (k : TokenKind) (bs : List ℕ) → IsToken k bs → lexeme.IsLexeme k bs
unfolding IsToken
whole_lexeme k bs e = subst (lexeme.IsLexeme k) (take_all (length bs - 1 + 1) bs (omega arith)) (longest_token bs k (length bs - 1) e).0

punct_said : (t : Tok) → is_punctuator t ≡ true → IsSaid t
punct_said t = by_tok (λ t. is_punctuator t ≡ true → IsSaid t) (λ e. tt) (λ e. tt) (λ e. tt) (λ e. tt) (λ e. tt) (λ e. tt) (λ e. tt) (λ e. tt) (λ e. tt) (λ e. tt)
    (λ e. tt) (λ e. tt) (λ e. tt) (λ e. tt) (λ n e. tt) (λ n e. tt) (λ n e. absurd cc) t

tok_said : (k : TokenKind) (bs : List ℕ) → IsUtf8 bs → IsToken k bs → IsSaid (tok_of k bs)
tok_said kind.Punct bs u e = punct_said (tok_of kind.Punct bs) (punct_stands bs e 0).1
tok_said kind.Name bs u e = tt
tok_said kind.Int bs u e = tt
tok_said kind.Text bs u e =
    let l = whole_lexeme kind.Text bs e in
    subst (λ b. IsUtf8 b → IsSaid (tok_of kind.Text b)) (sym l.2) (λ u. text_utf8 l.0 l.1 u) u
tok_said kind.Block bs u e =
    let l = whole_lexeme kind.Block bs e in
    subst (λ b. IsUtf8 b → IsSaid (tok_of kind.Block b)) (sym l.2) (λ u. block_utf8 l.0 l.1 u) u

toks_said : (whole : List ℕ) (from : ℕ) (s : Source) (ts : List Tok) → IsUtf8 whole → Describes whole from s → toks_of s ≡ Some ts → AreSaid ts
toks_said whole from ended ts u d e = let same : [] ≡ ts = cc in subst AreSaid same tt
toks_said whole from (faulty code at) ts u d e = absurd cc
toks_said whole from (token p rest) ts u d e = on_rest (toks_of rest) refl e (λ us e. toks_said whole p.end rest us u d.1 e)
  where
    said : IsSaid (tok_of_piece p)
    said = tok_said p.kind p.text (subst IsUtf8 (sym d.0.text) (IsUtf8-between whole p.start p.end u (omega (arith, d.0.some)) d.0.start d.0.end)) d.0.form

    on_rest : (o : Option (List Tok)) → toks_of rest ≡ o → option_map (λ ts. tok_of_piece p ∷ ts) o ≡ Some ts → ((us : List Tok) → toks_of rest ≡ Some us → AreSaid us) → AreSaid ts
    on_rest None d e next = absurd cc
    on_rest (Some us) d e next = let same : tok_of_piece p ∷ us ≡ ts = cc e in subst AreSaid same (said, next us d)

pub tokens_said : (whole : List ℕ) (ts : List Tok) → IsUtf8 whole → tokens_of whole ≡ Some ts → AreSaid ts
tokens_said whole ts u e = toks_said whole 0 (lex_from 0 whole) ts u (describes whole u) e

-- ---- trees that are written with such tokens

abbrev Says : (List Tok → List Tok) → Type 0 → Type 0
Says spell P = (ts : List Tok) → AreSaid (spell ts) → P × AreSaid ts

mutual
  value_sound : (c : Bool) (v : Val) (around : ℕ) → FormedValue c v → Says (spell_value (λ t l n. t) v around) (SoundValue v)
  value_sound c (variable n) around f ts h = (f.1, h.1.1)
  value_sound c (int z) around f ts h = (f, h.1)
  value_sound c (text t) around f ts h = (h.0, h.1)
  value_sound c (truth b) around f ts h = (tt, h.1)
  value_sound c null around f ts h = (tt, h.1)
  value_sound c (enum n) around f ts h = (f, h.1)
  value_sound c (list vs) around f ts h = let r = values_sound c vs (around + 1) f (tok.close_bracket ∷ ts) h.1 in (r.0, r.1.1)
  value_sound c (object ms) around f ts h = let r = members_sound c ms (around + 1) f (tok.close_brace ∷ ts) h.1 in (r.0, r.1.1)

  values_sound : (c : Bool) (vs : Vals) (around : ℕ) → FormedValues c vs → Says (spell_values (λ t l n. t) vs around) (SoundValues vs)
  values_sound c no_vals around f ts h = (tt, h)
  values_sound c (val v vs) around f ts h =
      let a = value_sound c v around f.0 (spell_values (λ t l n. t) vs around ts) h in
      let b = values_sound c vs around f.1 ts a.1 in
      ((a.0, b.0), b.1)

  members_sound : (c : Bool) (ms : Members) (around : ℕ) → FormedMembers c ms → Says (spell_members (λ t l n. t) ms around) (SoundMembers ms)
  members_sound c no_members around f ts h = (tt, h)
  members_sound c (member n v ms) around f ts h =
      let a = value_sound c v around f.1 (spell_members (λ t l n. t) ms around ts) h.1.1 in
      let b = members_sound c ms around f.2 ts a.1 in
      ((f.0, a.0, b.0), b.1)

listed : (xs : List (Text × Val)) → SoundMembers (members_of xs) → SoundArguments xs
listed [] h = tt
listed (x ∷ xs) h = ((h.0, h.1), listed xs h.2)

arguments_sound : (c : Bool) (xs : List (Text × Val)) → FormedMembers c (members_of xs) → Says (spell_arguments (λ t l n. t) xs) (SoundArguments xs)
arguments_sound c [] f ts h = (tt, h)
arguments_sound c (x ∷ xs) f ts h =
    let r = members_sound c (members_of (x ∷ xs)) 0 f (tok.close_paren ∷ ts) h.1 in
    (listed (x ∷ xs) r.0, r.1.1)

directives_sound : (c : Bool) (ds : List Directive) → FormedDirectives c ds → Says (spell_directives (λ t l n. t) ds) (SoundDirectives ds)
directives_sound c [] f ts h = (tt, h)
directives_sound c (d ∷ ds) f ts h =
    let a = arguments_sound c d.arguments f.0.1 (spell_directives (λ t l n. t) ds ts) h.1.1 in
    let b = directives_sound c ds f.1 ts a.1 in
    (((f.0.0, a.0), b.0), b.1)

type_said : (t : Ty) (around above : ℕ) (ts : List Tok) → AreSaid (spell_type (λ t l n. t) t around above ts) → AreSaid ts
type_said (ty.named n) around above ts h = h.1
type_said (ty.list t) around above ts h = (type_said t (around + 1) 0 (tok.close_bracket ∷ ts) h.1).1
type_said (ty.non_null t) around above ts h = (type_said t around (above + 1) (tok.bang ∷ ts) h).1

default_sound : (d : Option ValueTree) → FormedDefault d → Says (spell_default (λ t l n. t) d) (SoundDefault d)
default_sound None f ts h = (tt, h)
default_sound (Some v) f ts h = value_sound true (value_of v) 0 f ts h.1

variables_sound : (vs : List VariableDef) → AllByRecursion FormedVariable vs → Says (spell_variables (λ t l n. t) vs) (AllByRecursion SoundVariable vs)
variables_sound [] f ts h = (tt, h)
variables_sound (v ∷ vs) f ts h =
    let more : List Tok = spell_variables (λ t l n. t) vs ts in
    let directives : List Tok = spell_directives (λ t l n. t) v.directives more in
    let a = default_sound v.default f.0.2 directives (type_said (ty_of v.of) 0 0 (spell_default (λ t l n. t) v.default directives) h.1.1.1) in
    let b = directives_sound true v.directives f.0.3 more a.1 in
    let c = variables_sound vs f.1 ts b.1 in
    (((f.0, a.0, b.0), c.0), c.1)

variables_part_sound : (vs : List VariableDef) → AllByRecursion FormedVariable vs → Says (spell_variables_part (λ t l n. t) vs) (AllByRecursion SoundVariable vs)
variables_part_sound [] f ts h = (tt, h)
variables_part_sound (v ∷ vs) f ts h = let r = variables_sound (v ∷ vs) f (tok.close_paren ∷ ts) h.1 in (r.0, r.1.1)

-- ---- selections

name_said : (a : Option Text) (n : Text) (ts : List Tok) → AreSaid (spell_name (λ t l n. t) a n ts) → AreSaid ts
name_said None n ts h = h.1
name_said (Some a) n ts h = h.1.1.1

on_said : (o : Option Text) (ts : List Tok) → AreSaid (spell_on (λ t l n. t) o ts) → AreSaid ts
on_said None ts h = h
on_said (Some n) ts h = h.1.1

braces_sound : (s : Sels) (level : ℕ) → Says (spell_selections (λ t l n. t) s level) (SoundSelections s)
    → Says (spell_braces (λ t l n. t) s level (spell_selections (λ t l n. t) s level)) (SoundSelections s)
braces_sound sels.end level inside ts h = (tt, h)
braces_sound (sels.field a n xs ds s rest) level inside ts h = let r = inside (tok.close_brace ∷ ts) h.1 in (r.0, r.1.1)
braces_sound (sels.spread n ds rest) level inside ts h = let r = inside (tok.close_brace ∷ ts) h.1 in (r.0, r.1.1)
braces_sound (sels.inline o ds s rest) level inside ts h = let r = inside (tok.close_brace ∷ ts) h.1 in (r.0, r.1.1)

selections_sound : (s : Sels) (level : ℕ) → FormedSelections s → Says (spell_selections (λ t l n. t) s level) (SoundSelections s)
selections_sound sels.end level f ts h = (tt, h)
selections_sound (sels.field a n xs ds s rest) level f ts h =
    let more : List Tok = spell_selections (λ t l n. t) rest level ts in
    let set : List Tok = spell_braces (λ t l n. t) s (level + 1) (spell_selections (λ t l n. t) s (level + 1)) more in
    let directives : List Tok = spell_directives (λ t l n. t) ds set in
    let x = arguments_sound false xs f.2 directives (name_said a n (spell_arguments (λ t l n. t) xs directives) h) in
    let d = directives_sound false ds f.3 set x.1 in
    let i = braces_sound s (level + 1) (selections_sound s (level + 1) f.4) more d.1 in
    let r = selections_sound rest level f.5 ts i.1 in
    ((f.0, f.1, x.0, d.0, i.0, r.0), r.1)
selections_sound (sels.spread n ds rest) level f ts h =
    let d = directives_sound false ds f.2 (spell_selections (λ t l n. t) rest level ts) h.1.1 in
    let r = selections_sound rest level f.3 ts d.1 in
    ((d.0, r.0), r.1)
selections_sound (sels.inline o ds s rest) level f ts h =
    let more : List Tok = spell_selections (λ t l n. t) rest level ts in
    let set : List Tok = spell_braces (λ t l n. t) s (level + 1) (spell_selections (λ t l n. t) s (level + 1)) more in
    let d = directives_sound false ds f.1 set (on_said o (spell_directives (λ t l n. t) ds set) h.1) in
    let i = braces_sound s (level + 1) (selections_sound s (level + 1) f.3) more d.1 in
    let r = selections_sound rest level f.4 ts i.1 in
    ((f.0, d.0, f.2, i.0, r.0), r.1)

-- ---- definitions

optional_said : (n : Option Text) (ts : List Tok) → AreSaid (spell_optional_name (λ t l n. t) n ts) → AreSaid ts
optional_said None ts h = h
optional_said (Some n) ts h = h.1

pub definition_sound : (w : Written) (first : ℕ) → FormedWritten w → Says (spell_definition (λ t l n. t) first w) (SoundDefinition (definition_of w))
definition_sound (bare s) first f ts h =
    let r = selections_sound s 1 f.1 (tok.close_brace ∷ ts) h.1 in
    ((tt, tt, tt, (f.0, r.0)), r.1.1)
definition_sound (full (D.Operation o)) first f ts h =
    let set : List Tok = spell_set (λ t l n. t) o.selections ts in
    let directives : List Tok = spell_directives (λ t l n. t) o.directives set in
    let v = variables_part_sound o.variables f.1 directives (optional_said o.name (spell_variables_part (λ t l n. t) o.variables directives) h.1) in
    let d = directives_sound false o.directives f.2 set v.1 in
    let s = braces_sound o.selections 1 (selections_sound o.selections 1 f.3.1) ts d.1 in
    ((f.0, v.0, d.0, (f.3.0, s.0)), s.1)
definition_sound (full (D.Fragment g)) first f ts h =
    let set : List Tok = spell_set (λ t l n. t) g.selections ts in
    let d = directives_sound false g.directives f.3 set h.1.1.1.1 in
    let s = braces_sound g.selections 1 (selections_sound g.selections 1 f.4.1) ts d.1 in
    ((f.2, d.0, (f.4.0, s.0)), s.1)
