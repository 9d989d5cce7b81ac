-- Definitions, fields and inputs by their names.
use Rattle.std.proofs.Common.{◌≡◌, Bool, true, false, true≢false, cond, ◌||◌, List, [], ◌∷◌, map, Option, Some, None, option_map, is_some, bytes_eq, refl, ap, sym, ◌∙◌}
use Rattle.std.proofs.lemmas.Slice.Eq.{bytes_eq-Decides}
use Rattle.std.specs.Option.{option_and_then}
use Rattle.gql_ast.proofs.gql_plain_laws.SortedTexts.{has_text-sorted_texts}
use Rattle.gql_graph.specs.gql_plain.Order.{has_text, sorted_texts}
use Rattle.gql_ast.specs.declared.member.FieldTree.{FieldTree}
use Rattle.gql_ast.specs.declared.member.InputTree.{InputTree}
use Rattle.gql_ast.specs.declared.directive.Directive.{Directive}
use Rattle.gql_ast.specs.declared.schema.Root.{Root}
use Rattle.gql_ast.specs.declared.schema.SchemaDef.{SchemaDef}
use Rattle.gql_ast.specs.declared.schema.SchemaDef.TheVariants as S
use Rattle.schema_tables.specs.Views.{DirectiveDef}
use Rattle.schema_tables.specs.Views.{InputDef}
use Rattle.schema_tables.specs.declared.kind.TypeKind.{TypeKind}
use Rattle.schema_tables.specs.declared.kind.TypeKind.TheVariants as K
use Rattle.schema_tables.specs.BuiltIn.{defined_directive, directives_of, directive_named}
use Rattle.schema_tables.specs.Members.{field_among, input_among}
use Rattle.schema_tables.specs.Parts.{is_type, is_directive, is_schema}
use Rattle.schema_tables.specs.Places.{first_that}
use Rattle.schema_tables.specs.Types.{Text, Defs, type_named, type_of, is_of, field_named, fields_of, input_named, field_def, input_def, interfaces_named, union_members_named, is_composite, is_composite_kind, is_kind, is_built_in_scalar, roots_of}

pub type_named-first : (defs : Defs) (n : Text) → type_named defs n ≡ first_that (is_type n) defs
type_named-first [] n = refl
type_named-first (d ∷ ds) n = ap (cond (is_of n (type_of d)) (Some d)) (type_named-first ds n)

map_cond : {A B : Type 0} (f : A → B) (b : Bool) (a : A) (rest : Option A) → cond b (Some (f a)) (option_map f rest) ≡ option_map f (cond b (Some a) rest)
map_cond f true a rest = refl
map_cond f false a rest = refl

pub field_among-defs : (fs : List FieldTree) (n : Text) → field_among (map field_def fs) n ≡ option_map field_def (field_named fs n)
field_among-defs [] n = refl
field_among-defs (f ∷ fs) n = ap (cond (bytes_eq f.name n) (Some (field_def f))) (field_among-defs fs n) ∙ map_cond field_def (bytes_eq f.name n) f (field_named fs n)

pub input_among-defs : (is : List InputTree) (n : Text) → input_among (map input_def is) n ≡ option_map input_def (input_named is n)
input_among-defs [] n = refl
input_among-defs (i ∷ is) n = ap (cond (bytes_eq i.name n) (Some (input_def i))) (input_among-defs is n) ∙ map_cond input_def (bytes_eq i.name n) i (input_named is n)

pub inputs_kept : (o : Option (List InputTree)) (is : List InputDef) (n : Text) → Some is ≡ option_map (map input_def) o
    → input_among is n ≡ option_map input_def (option_and_then (λ fields. input_named fields n) o)
inputs_kept None is n e = cc
inputs_kept (Some fields) is n e = let same : is ≡ map input_def fields = cc in ap (λ hs. input_among hs n) same ∙ input_among-defs fields n

-- ---- names of types

name_is : (t : Option (Text × TypeKind)) (n : Text) → is_of n t ≡ true → option_map (λ (x : Text × TypeKind). x.0) t ≡ Some n
name_is None n e = absurd (true≢false (sym e))
name_is (Some t) n e = ap Some ((bytes_eq-Decides t.0 n).0 e)

pub name_found : (defs : Defs) (n : Text) (d : SchemaDef) → type_named defs n ≡ Some d → option_map (λ (x : Text × TypeKind). x.0) (type_of d) ≡ Some n
name_found [] n d e = cc
name_found (one ∷ defs) n d e = on (name_found defs n d) (is_of n (type_of one)) refl e
  where
    on : (type_named defs n ≡ Some d → option_map (λ (x : Text × TypeKind). x.0) (type_of d) ≡ Some n)
        → (b : Bool) → is_of n (type_of one) ≡ b → cond b (Some one) (type_named defs n) ≡ Some d → option_map (λ (x : Text × TypeKind). x.0) (type_of d) ≡ Some n
    on rest true here e = let same : one ≡ d = cc in ap (λ x. option_map (λ (y : Text × TypeKind). y.0) (type_of x)) (sym same) ∙ name_is (type_of one) n here
    on rest false here e = rest e

no_kind : (b : Bool) → is_kind is_composite_kind (cond b (Some K.Scalar) None) ≡ false
no_kind true = refl
no_kind false = refl

-- a composite type is defined
pub not_composite : (defs : Defs) (n : Text) → type_named defs n ≡ None → is_composite defs n ≡ false
not_composite defs n e = rw e (no_kind (is_built_in_scalar n))

-- ---- roots

abbrev pub roots_in_def : SchemaDef → Option (List Root)
roots_in_def (S.Schema ds rs) = Some rs
roots_in_def d = None

pub not_schema : (d : SchemaDef) → ((ds : List Directive) (rs : List Root) → d ≡ S.Schema ds rs → ⊥) → is_schema d ≡ false
not_schema (S.Schema ds rs) h = absurd (h ds rs refl)
not_schema (S.Scalar m ds) h = refl
not_schema (S.Object m js ds gs) h = refl
not_schema (S.Interface m js ds gs) h = refl
not_schema (S.Union m ds ns) h = refl
not_schema (S.Enum m ds vs) h = refl
not_schema (S.Input m ds gs) h = refl
not_schema (S.Directive m xs r ls) h = refl

pub roots_found : (defs : Defs) → roots_of defs ≡ option_and_then roots_in_def (first_that is_schema defs)
roots_found [] = refl
roots_found (S.Schema ds rs ∷ defs) = refl
roots_found (S.Scalar m ds ∷ defs) = roots_found defs
roots_found (S.Object m js ds gs ∷ defs) = roots_found defs
roots_found (S.Interface m js ds gs ∷ defs) = roots_found defs
roots_found (S.Union m ds ns ∷ defs) = roots_found defs
roots_found (S.Enum m ds vs ∷ defs) = roots_found defs
roots_found (S.Input m ds gs ∷ defs) = roots_found defs
roots_found (S.Directive m xs r ls ∷ defs) = roots_found defs

-- ---- directives

directive_or : (b : Bool) (d : SchemaDef) (one : DirectiveDef) (rest : Option DirectiveDef) (more : Option SchemaDef)
    → defined_directive d ≡ Some one → rest ≡ option_and_then defined_directive more
    → cond b (Some one) rest ≡ option_and_then defined_directive (cond b (Some d) more)
directive_or true d one rest more is e = sym is
directive_or false d one rest more is e = e

pub directive_found : (defs : Defs) (n : Text) → directive_named (directives_of defs) n ≡ option_and_then defined_directive (first_that (is_directive n) defs)
directive_found [] n = refl
directive_found (S.Schema ds rs ∷ defs) n = directive_found defs n
directive_found (S.Scalar m ds ∷ defs) n = directive_found defs n
directive_found (S.Object m js ds gs ∷ defs) n = directive_found defs n
directive_found (S.Interface m js ds gs ∷ defs) n = directive_found defs n
directive_found (S.Union m ds ns ∷ defs) n = directive_found defs n
directive_found (S.Enum m ds vs ∷ defs) n = directive_found defs n
directive_found (S.Input m ds gs ∷ defs) n = directive_found defs n
directive_found (S.Directive m xs r ls ∷ defs) n = directive_or (bytes_eq m n) (S.Directive m xs r ls) _ _ _ refl (directive_found defs n)

has_known : (ds : List DirectiveDef) (n : Text) → has_text (map (λ (d : DirectiveDef). d.name) ds) n ≡ is_some (directive_named ds n)
has_known [] n = refl
has_known (d ∷ ds) n = on (has_known ds n) (bytes_eq d.name n)
  where
    on : has_text (map (λ (x : DirectiveDef). x.name) ds) n ≡ is_some (directive_named ds n) → (b : Bool)
        → (b || has_text (map (λ (x : DirectiveDef). x.name) ds) n) ≡ is_some (cond b (Some d) (directive_named ds n))
    on rest true = refl
    on rest false = rest

-- of a list of known directives the first of a name counts, and else what else there is
pub known_found : (ds : List DirectiveDef) (n : Text) (r : Option DirectiveDef) (rest : Option DirectiveDef) → directive_named ds n ≡ r
    → cond (has_text (map (λ (d : DirectiveDef). d.name) ds) n) (directive_named ds n) rest ≡ cond (is_some r) r rest
known_found ds n r rest e = ap (λ b. cond b (directive_named ds n) rest) (has_known ds n ∙ ap is_some e) ∙ ap (λ x. cond (is_some r) x rest) e
