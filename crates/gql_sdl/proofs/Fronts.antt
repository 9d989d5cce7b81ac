-- What was read before a state: tokens, each with the number of the value or list type that it opens.
use Rattle.std.proofs.Common.{◌≡◌, ℕ, Bool, List, [], ◌∷◌, ◌++◌, codes, refl, ap, ◌∙◌}
use Rattle.gql_syntax.specs.gql_lex.Toks as tok
use Rattle.gql_syntax.specs.gql_lex.Toks.{Tok}
use Rattle.gql_syntax.specs.gql_ast.TypeView.{ty_of}
use Rattle.gql_syntax.specs.gql_ast.declared.directive.Directive.{Directive}
use Rattle.gql_syntax.specs.gql_ast.declared.schema.Root.{Root}
use Rattle.gql_syntax.proofs.Laws.{Leveled}
use Rattle.gql_syntax.proofs.Standing.{mark_level}
use Rattle.gql_syntax.specs.Spelling.{Mark, spell_directives, spell_type, spell_default}
use Rattle.gql_syntax.specs.Words.{on_word, kind_word}
use Rattle.gql_sdl.specs.Machine.{Fielded, an_object, an_interface, fielded_word, implements_word, Front, Heading, Fields, OpenField, Inputs, of_field, of_directive, of_object, OpenInput, TypedInput, ArguedField, Values, OpenValue, Typed, input_type, field_type, Owner, on_schema, on_scalar, on_fielded, on_union, on_enum, on_object, on_input, on_field, on_value, Listing, implementing, uniting, locating, listing_names, separator, front_then, heading_then, fielded_written}
use Rattle.gql_sdl.specs.Schemas.{Description, WrittenInput, WrittenField, WrittenValue, Written, Described, spell_description, spell_input, spell_inputs, spell_argument_defs, spell_field, spell_fields, spell_fields_part, spell_enum_value, spell_enum_values, spell_roots, spell_further, spell_separated, spell_implements, spell_repeatable, spell_written}

-- a token that opens nothing
abbrev pub flat : Tok → Leveled
flat t = (t, 0)

abbrev pub described_front : Description → Written → List Leveled → List Leveled
described_front d w ts = spell_description mark_level d (spell_written mark_level 0 w ts)

abbrev pub definitions_front : List Described → List Leveled → List Leveled
definitions_front [] ts = ts
definitions_front (d ∷ ds) ts = described_front d.description d.written (definitions_front ds ts)

abbrev pub head_front : Front → List Leveled → List Leveled
head_front f ts = definitions_front f.before (spell_description mark_level f.description ts)

abbrev pub heading_front : Heading → List Leveled → List Leveled
heading_front h ts =
    head_front h.front (flat (tok.name (fielded_word h.kind)) ∷ flat (tok.name h.title) ∷ spell_implements mark_level h.leading h.implements ts)

abbrev pub fields_front : Fields → List Leveled → List Leveled
fields_front f ts = heading_front f.heading (spell_directives mark_level f.directives (flat tok.open_brace ∷ ts))

abbrev pub field_front : OpenField → List Leveled → List Leveled
field_front f ts = fields_front f.fields (spell_fields mark_level f.before (spell_description mark_level f.description (flat (tok.name f.title) ∷ ts)))

abbrev pub argued_front : ArguedField → List Leveled → List Leveled
argued_front a ts = field_front a.field (spell_argument_defs mark_level a.arguments ts)

abbrev pub inputs_front : Inputs → List Leveled → List Leveled
inputs_front (of_field f) ts = field_front f (flat tok.open_paren ∷ ts)
inputs_front (of_directive f n) ts =
    head_front f (flat (tok.name (codes "directive")) ∷ flat tok.at_sign ∷ flat (tok.name n) ∷ flat tok.open_paren ∷ ts)
inputs_front (of_object f n ds) ts =
    head_front f (flat (tok.name (codes "input")) ∷ flat (tok.name n) ∷ spell_directives mark_level ds (flat tok.open_brace ∷ ts))

abbrev pub input_front : OpenInput → List Leveled → List Leveled
input_front i ts = inputs_front i.inputs (spell_inputs mark_level i.before (spell_description mark_level i.description (flat (tok.name i.title) ∷ ts)))

abbrev pub typed_input_front : TypedInput → List Leveled → List Leveled
typed_input_front i ts = input_front i.input (flat tok.colon ∷ spell_type mark_level (ty_of i.of) 0 0 ts)

abbrev pub values_front : Values → List Leveled → List Leveled
values_front v ts =
    head_front v.front (flat (tok.name (codes "enum")) ∷ flat (tok.name v.title) ∷ spell_directives mark_level v.directives (flat tok.open_brace ∷ ts))

abbrev pub value_front : OpenValue → List Leveled → List Leveled
value_front v ts =
    values_front v.values (spell_enum_values mark_level v.before (spell_description mark_level v.description (flat (tok.name v.title) ∷ ts)))

abbrev pub typed_front : Typed → List Leveled → List Leveled
typed_front (input_type i) ts = input_front i (flat tok.colon ∷ ts)
typed_front (field_type a) ts = argued_front a (flat tok.colon ∷ ts)

abbrev pub owner_front : Owner → List Leveled → List Leveled
owner_front (on_schema f) ts = head_front f (flat (tok.name (codes "schema")) ∷ ts)
owner_front (on_scalar f n) ts = head_front f (flat (tok.name (codes "scalar")) ∷ flat (tok.name n) ∷ ts)
owner_front (on_fielded h) ts = heading_front h ts
owner_front (on_union f n) ts = head_front f (flat (tok.name (codes "union")) ∷ flat (tok.name n) ∷ ts)
owner_front (on_enum f n) ts = head_front f (flat (tok.name (codes "enum")) ∷ flat (tok.name n) ∷ ts)
owner_front (on_object f n) ts = head_front f (flat (tok.name (codes "input")) ∷ flat (tok.name n) ∷ ts)
owner_front (on_input i v) ts = typed_input_front i (spell_default mark_level v ts)
owner_front (on_field a u) ts = argued_front a (flat tok.colon ∷ spell_type mark_level (ty_of u) 0 0 ts)
owner_front (on_value v) ts = value_front v ts

-- what was read before the list
abbrev pub listing_front : Listing → List Leveled → List Leveled
listing_front (implementing f k n ns) ts =
    head_front f (flat (tok.name (fielded_word k)) ∷ flat (tok.name n) ∷ flat (tok.name implements_word) ∷ ts)
listing_front (uniting f n ds ns) ts =
    head_front f (flat (tok.name (codes "union")) ∷ flat (tok.name n) ∷ spell_directives mark_level ds (flat tok.equals ∷ ts))
listing_front (locating f n ws repeatable ls) ts =
    head_front f (flat (tok.name (codes "directive")) ∷ flat tok.at_sign ∷ flat (tok.name n)
    ∷ spell_argument_defs mark_level ws (spell_repeatable mark_level repeatable (flat (tok.name on_word) ∷ ts)))

abbrev pub listed_front : (leading : Bool) → Listing → List Leveled → List Leveled
listed_front leading l ts = listing_front l (spell_separated mark_level (separator l) 0 leading (listing_names l) ts)

-- ---- one more behind those before

module _ {X : Type 0} (mark : Mark X) where
  pub inputs-then : (ws : List WrittenInput) (w : WrittenInput) (ts : List X) → spell_inputs mark (ws ++ w ∷ []) ts ≡ spell_inputs mark ws (spell_input mark w ts)
  inputs-then [] w ts = refl
  inputs-then (v ∷ ws) w ts = ap (spell_input mark v) (inputs-then ws w ts)

  pub fields-then : (fs : List WrittenField) (f : WrittenField) (ts : List X) → spell_fields mark (fs ++ f ∷ []) ts ≡ spell_fields mark fs (spell_field mark f ts)
  fields-then [] f ts = refl
  fields-then (e ∷ fs) f ts = ap (spell_field mark e) (fields-then fs f ts)

  pub values-then : (vs : List WrittenValue) (v : WrittenValue) (ts : List X) → spell_enum_values mark (vs ++ v ∷ []) ts ≡ spell_enum_values mark vs (spell_enum_value mark v ts)
  values-then [] v ts = refl
  values-then (w ∷ vs) v ts = ap (spell_enum_value mark w) (values-then vs v ts)

  pub roots-then : (rs : List Root) (r : Root) (ts : List X) → spell_roots mark (rs ++ r ∷ []) ts ≡ spell_roots mark rs (spell_roots mark (r ∷ []) ts)
  roots-then [] r ts = refl
  roots-then (q ∷ rs) r ts =
      ap (λ xs. mark (tok.name (kind_word q.kind)) 0 1 ∷ mark tok.colon 0 0 ∷ mark (tok.name q.name) 0 1 ∷ xs) (roots-then rs r ts)

  pub further-then : (s : Tok) (n : ℕ) (ns : List (List ℕ)) (m : List ℕ) (ts : List X)
      → spell_further mark s n (ns ++ m ∷ []) ts ≡ spell_further mark s n ns (mark s 0 0 ∷ mark (tok.name m) 0 n ∷ ts)
  further-then s n [] m ts = refl
  further-then s n (k ∷ ns) m ts = ap (λ xs. mark s 0 0 ∷ mark (tok.name k) 0 n ∷ xs) (further-then s n ns m ts)

pub definitions-then : (ds : List Described) (d : Description) (w : Written) (ts : List Leveled)
    → definitions_front (ds ++ record { description = d; written = w } ∷ []) ts ≡ definitions_front ds (described_front d w ts)
definitions-then [] d w ts = refl
definitions-then (e ∷ ds) d w ts = ap (described_front e.description e.written) (definitions-then ds d w ts)

pub front-then : (f : Front) (w : Written) (ts : List Leveled) → head_front (front_then f w) ts ≡ head_front f (spell_written mark_level 0 w ts)
front-then f w ts = definitions-then f.before f.description w ts

-- the numbers of nodes are not kept
spell_fielded : (k : Fielded) (n : List ℕ) (leading : Bool) (is : List (List ℕ)) (ds : List Directive) (fs : List WrittenField) (ts : List Leveled)
    → spell_written mark_level 0 (fielded_written k n leading is ds fs) ts
    ≡ flat (tok.name (fielded_word k)) ∷ flat (tok.name n) ∷ spell_implements mark_level leading is (spell_directives mark_level ds (spell_fields_part mark_level fs ts))
spell_fielded an_object n leading is ds fs ts = refl
spell_fielded an_interface n leading is ds fs ts = refl

pub heading-then : (h : Heading) (ds : List Directive) (fs : List WrittenField) (ts : List Leveled)
    → head_front (heading_then h ds fs) ts ≡ heading_front h (spell_directives mark_level ds (spell_fields_part mark_level fs ts))
heading-then h ds fs ts =
    front-then h.front (fielded_written h.kind h.title h.leading h.implements ds fs) ts
    ∙ ap (head_front h.front) (spell_fielded h.kind h.title h.leading h.implements ds fs ts)
