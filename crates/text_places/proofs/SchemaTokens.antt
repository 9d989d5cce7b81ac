-- The numbers that rules give to the names of a schema are those of the tokens that spell them.
use Rattle.std.proofs.Common.{◌≡◌, ◌⊎◌, inl, inr, ℕ, zero, suc, ◌+◌, Bool, true, false, List, [], ◌∷◌, map, codes, Option, Some, None, refl, ap, sym, ◌∙◌, arith}
use Rattle.std.specs.List.{AllByRecursion}
use Rattle.gql_parse.specs.gql_ast.Ty as ty
use Rattle.gql_parse.specs.gql_ast.Ty.{Ty}
use Rattle.gql_parse.specs.gql_ast.TypeView.{ty_of}
use Rattle.gql_parse.specs.gql_ast.Value.{Val, Vals, Members, no_vals, val, no_members, member, members_of}
use Rattle.gql_parse.specs.gql_ast.Value as v
use Rattle.gql_parse.specs.gql_ast.ValueView.{value_of}
use Rattle.gql_parse.specs.gql_ast.declared.directive.Directive.{Directive}
use Rattle.gql_parse.specs.gql_ast.declared.schema.Root.{Root}
use Rattle.gql_parse.specs.gql_ast.declared.value.ValueTree.{ValueTree}
use Rattle.schema_types.specs.gql_graph.Texts.{Text}
use Rattle.gql_parse.specs.gql_lex.Toks as tok
use Rattle.gql_parse.specs.gql_lex.Toks.{Tok}
use Rattle.gql_sdl.specs.Schemas.{location_word, Description, WrittenInput, WrittenField, WrittenValue, Written, schema, scalar, object, interface, union, enum, input, directive, Described, inputs_of, field_of, values_of, written_of, definition_of, spell_description, spell_inputs, spell_argument_defs, spell_input_fields, spell_fields, spell_fields_part, spell_enum_values, spell_enum_values_part, spell_roots, spell_leading, spell_further, spell_separated, spell_implements, spell_members_part, spell_repeatable, spell_written, spell_described, spell_definitions}
use Rattle.gql_parse.specs.gql_syntax.Spelling.{spell_value, spell_values, spell_members, spell_arguments, spell_directives, spell_type, spell_default}
use Rattle.gql_parse.specs.gql_syntax.Words.{on_word, kind_word, truth_word, null_word}
use Rattle.schema_types.specs.schema_tables.Types.{base_of}
use Rattle.schema_types.specs.schema_trees.Located.{type_at, inputs_at, fields_at, names_at, enum_values_at, roots_at, def_at, defs_at, value_nodes, values_nodes, members_nodes, directives_nodes, type_nodes, default_nodes, inputs_nodes, fields_nodes, names_nodes, enum_values_nodes, roots_nodes, def_nodes}
use Rattle.schema_types.specs.schema_trees.Numbers.{HoldsName, HoldsInput, HoldsField, HoldsRoot, HoldsDef}
use Rattle.text_places.specs.Naming.{element_at}
use Rattle.text_places.proofs.TokenSteps.{both, At, move_to, pass, pass_none, token_at}

-- the token of this number is the word `schema`, or a description
abbrev pub IsHead : List Tok → ℕ → Type 0
IsHead whole at = (element_at whole at ≡ Some (tok.name (codes "schema"))) ⊎ ((d : Text) × (element_at whole at ≡ Some (tok.text d)))

module _ (whole : List Tok) where
  -- ---- values, directives and types

  mutual
    pub value_walk : (x : Val) (around from : ℕ) (ts : List (Tok × ℕ)) → At whole from (spell_value both x around ts) → At whole (from + value_nodes x) ts
    value_walk (v.variable n) around from ts a =
        move_to whole (from + 1 + 1) (from + 2) ts (omega arith) (pass whole (from + 1) (tok.name n) 1 ts (pass whole from tok.dollar 1 _ a))
    value_walk (v.int n) around from ts a = pass whole from (tok.int n) 1 ts a
    value_walk (v.text t) around from ts a = pass whole from (tok.text t) 1 ts a
    value_walk (v.truth b) around from ts a = pass whole from (tok.name (truth_word b)) 1 ts a
    value_walk v.null around from ts a = pass whole from (tok.name null_word) 1 ts a
    value_walk (v.enum n) around from ts a = pass whole from (tok.name n) 2 ts a
    value_walk (v.list vs) around from ts a =
        move_to whole (from + 1 + values_nodes vs) (from + (1 + values_nodes vs)) ts (omega arith)
        (pass_none whole (from + 1 + values_nodes vs) tok.close_bracket ts (values_walk vs (around + 1) (from + 1) _ (pass whole from tok.open_bracket 1 _ a)))
    value_walk (v.object ms) around from ts a =
        move_to whole (from + 1 + members_nodes ms) (from + (1 + members_nodes ms)) ts (omega arith)
        (pass_none whole (from + 1 + members_nodes ms) tok.close_brace ts (members_walk ms (around + 1) (from + 1) _ (pass whole from tok.open_brace 1 _ a)))

    pub values_walk : (vs : Vals) (around from : ℕ) (ts : List (Tok × ℕ)) → At whole from (spell_values both vs around ts) → At whole (from + values_nodes vs) ts
    values_walk no_vals around from ts a = move_to whole from (from + 0) ts (omega arith) a
    values_walk (val x vs) around from ts a =
        move_to whole (from + value_nodes x + values_nodes vs) (from + (value_nodes x + values_nodes vs)) ts (omega arith)
        (values_walk vs around (from + value_nodes x) ts (value_walk x around from _ a))

    pub members_walk : (ms : Members) (around from : ℕ) (ts : List (Tok × ℕ)) → At whole from (spell_members both ms around ts) → At whole (from + members_nodes ms) ts
    members_walk no_members around from ts a = move_to whole from (from + 0) ts (omega arith) a
    members_walk (member n x ms) around from ts a =
        move_to whole (from + 2 + value_nodes x + members_nodes ms) (from + (2 + value_nodes x + members_nodes ms)) ts (omega arith)
        (members_walk ms around (from + 2 + value_nodes x) ts (value_walk x around (from + 2) _ (pass_none whole (from + 2) tok.colon _ (pass whole from (tok.name n) 2 _ a))))

  arguments_walk : (xs : List (Text × Val)) (from : ℕ) (ts : List (Tok × ℕ)) → At whole from (spell_arguments both xs ts) → At whole (from + members_nodes (members_of xs)) ts
  arguments_walk [] from ts a = move_to whole from (from + 0) ts (omega arith) a
  arguments_walk (x ∷ xs) from ts a =
      pass_none whole (from + members_nodes (members_of (x ∷ xs))) tok.close_paren ts (members_walk (members_of (x ∷ xs)) 0 from _ (pass_none whole from tok.open_paren _ a))

  pub directives_walk : (ds : List Directive) (from : ℕ) (ts : List (Tok × ℕ)) → At whole from (spell_directives both ds ts) → At whole (from + directives_nodes ds) ts
  directives_walk [] from ts a = move_to whole from (from + 0) ts (omega arith) a
  directives_walk (d ∷ ds) from ts a =
      move_to whole (from + 1 + 1 + members_nodes (members_of d.arguments) + directives_nodes ds) (from + directives_nodes (d ∷ ds)) ts (omega arith)
      (directives_walk ds (from + 1 + 1 + members_nodes (members_of d.arguments)) ts
      (arguments_walk d.arguments (from + 1 + 1) _ (pass whole (from + 1) (tok.name d.name) 1 _ (pass whole from tok.at_sign 1 _ a))))

  pub default_walk : (d : Option ValueTree) (from : ℕ) (ts : List (Tok × ℕ)) → At whole from (spell_default both d ts) → At whole (from + default_nodes d) ts
  default_walk None from ts a = move_to whole from (from + 0) ts (omega arith) a
  default_walk (Some x) from ts a = value_walk (value_of x) 0 from ts (pass_none whole from tok.equals _ a)

  abbrev Spells : Text → ℕ → Type 0
  Spells n at = element_at whole at ≡ Some (tok.name n)

  -- `above` types begin at the first token already
  type_walk_above : (t : Ty) (around above from : ℕ) (ts : List (Tok × ℕ)) → At whole from (spell_type both t around above ts)
      → Spells (base_of t) (type_at (from + above) t).at × At whole (from + above + type_nodes t) ts
  type_walk_above (ty.named n) around above from ts a = (
    token_at whole from (tok.name n) (above + 2) ts (above + 1) (from + above + 1) (omega arith) (omega arith) a,
    move_to whole (from + (above + 2)) (from + above + 2) ts (omega arith) (pass whole from (tok.name n) (above + 2) ts a),
  )
  type_walk_above (ty.list t) around above from ts a =
      let inner = type_walk_above t (around + 1) 0 (from + (above + 1)) _ (pass whole from tok.open_bracket (above + 1) _ a) in
      let same : (type_at (from + (above + 1) + 0) t).at ≡ (type_at (from + above) (ty.list t)).at = omega arith in (
        ap (element_at whole) (sym same) ∙ inner.0,
        move_to whole (from + (above + 1) + 0 + type_nodes t) (from + above + (1 + type_nodes t)) ts (omega arith)
            (pass_none whole (from + (above + 1) + 0 + type_nodes t) tok.close_bracket ts inner.1),
      )
  type_walk_above (ty.non_null t) around above from ts a =
      let inner = type_walk_above t around (above + 1) from _ a in
      let same : (type_at (from + (above + 1)) t).at ≡ (type_at (from + above) (ty.non_null t)).at = omega arith in (
        ap (element_at whole) (sym same) ∙ inner.0,
        move_to whole (from + (above + 1) + type_nodes t) (from + above + (1 + type_nodes t)) ts (omega arith)
            (pass_none whole (from + (above + 1) + type_nodes t) tok.bang ts inner.1),
      )

  pub type_walk : (t : Ty) (from : ℕ) (ts : List (Tok × ℕ)) → At whole from (spell_type both t 0 0 ts)
      → Spells (base_of t) (type_at from t).at × At whole (from + type_nodes t) ts
  type_walk t from ts a =
      let inner = type_walk_above t 0 0 from ts a in
      let same : (type_at (from + 0) t).at ≡ (type_at from t).at = ap (λ n. (type_at n t).at) (let e : from + 0 ≡ from = omega arith in e) in
      (ap (element_at whole) (sym same) ∙ inner.0, move_to whole (from + 0 + type_nodes t) (from + type_nodes t) ts (omega arith) inner.1)

  -- ---- words that are no nodes

  description_walk : (d : Description) (from : ℕ) (ts : List (Tok × ℕ)) → At whole from (spell_description both d ts) → At whole from ts
  description_walk None from ts a = a
  description_walk (Some d) from ts a = pass_none whole from (tok.text d) ts a

  leading_walk : (separator : Tok) (leading : Bool) (from : ℕ) (ts : List (Tok × ℕ)) → At whole from (spell_leading both separator leading ts) → At whole from ts
  leading_walk separator false from ts a = a
  leading_walk separator true from ts a = pass_none whole from separator ts a

  words_walk : (separator : Tok) (ns : List Text) (from : ℕ) (ts : List (Tok × ℕ)) → At whole from (spell_further both separator 0 ns ts) → At whole from ts
  words_walk separator [] from ts a = a
  words_walk separator (n ∷ ns) from ts a = words_walk separator ns from ts (pass_none whole from (tok.name n) _ (pass_none whole from separator _ a))

  locations_walk : (separator : Tok) (leading : Bool) (ns : List Text) (from : ℕ) (ts : List (Tok × ℕ)) → At whole from (spell_separated both separator 0 leading ns ts) → At whole from ts
  locations_walk separator leading [] from ts a = a
  locations_walk separator leading (n ∷ ns) from ts a =
      words_walk separator ns from ts (pass_none whole from (tok.name n) _ (leading_walk separator leading from _ a))

  repeatable_walk : (b : Bool) (from : ℕ) (ts : List (Tok × ℕ)) → At whole from (spell_repeatable both b ts) → At whole from ts
  repeatable_walk false from ts a = a
  repeatable_walk true from ts a = pass_none whole from (tok.name (codes "repeatable")) ts a

  -- ---- what holds of the names, where it holds of what the tokens spell

  module _ (F : ℕ → Type 0) (N : Text → ℕ → Type 0) (head : (at : ℕ) → IsHead whole at → F at) (spells : (n : Text) (at : ℕ) → Spells n at → N n at) where
    abbrev T : Ty → ℕ → Type 0
    T t at = N (base_of t) at

    further_walk : (separator : Tok) (ns : List Text) (from : ℕ) (ts : List (Tok × ℕ)) → At whole from (spell_further both separator 1 ns ts)
        → AllByRecursion (HoldsName N) (names_at from ns) × At whole (from + names_nodes ns) ts
    further_walk separator [] from ts a = (tt, move_to whole from (from + 0) ts (omega arith) a)
    further_walk separator (n ∷ ns) from ts a =
        let b = pass_none whole from separator _ a in
        let later = further_walk separator ns (from + 1) ts (pass whole from (tok.name n) 1 _ b) in (
          (spells n from (token_at whole from (tok.name n) 1 _ 0 from (omega arith) (omega arith) b), later.0),
          move_to whole (from + 1 + names_nodes ns) (from + (1 + names_nodes ns)) ts (omega arith) later.1,
        )

    separated_walk : (separator : Tok) (leading : Bool) (ns : List Text) (from : ℕ) (ts : List (Tok × ℕ)) → At whole from (spell_separated both separator 1 leading ns ts)
        → AllByRecursion (HoldsName N) (names_at from ns) × At whole (from + names_nodes ns) ts
    separated_walk separator leading [] from ts a = (tt, move_to whole from (from + 0) ts (omega arith) a)
    separated_walk separator leading (n ∷ ns) from ts a =
        let b = leading_walk separator leading from _ a in
        let later = further_walk separator ns (from + 1) ts (pass whole from (tok.name n) 1 _ b) in (
          (spells n from (token_at whole from (tok.name n) 1 _ 0 from (omega arith) (omega arith) b), later.0),
          move_to whole (from + 1 + names_nodes ns) (from + (1 + names_nodes ns)) ts (omega arith) later.1,
        )

    implements_walk : (leading : Bool) (ns : List Text) (from : ℕ) (ts : List (Tok × ℕ)) → At whole from (spell_implements both leading ns ts)
        → AllByRecursion (HoldsName N) (names_at from ns) × At whole (from + names_nodes ns) ts
    implements_walk leading [] from ts a = (tt, move_to whole from (from + 0) ts (omega arith) a)
    implements_walk leading (n ∷ ns) from ts a = separated_walk tok.ampersand leading (n ∷ ns) from ts (pass_none whole from (tok.name (codes "implements")) _ a)

    members_part_walk : (leading : Bool) (ns : List Text) (from : ℕ) (ts : List (Tok × ℕ)) → At whole from (spell_members_part both leading ns ts)
        → AllByRecursion (HoldsName N) (names_at from ns) × At whole (from + names_nodes ns) ts
    members_part_walk leading [] from ts a = (tt, move_to whole from (from + 0) ts (omega arith) a)
    members_part_walk leading (n ∷ ns) from ts a = separated_walk tok.bar leading (n ∷ ns) from ts (pass_none whole from tok.equals _ a)

    inputs_walk : (ws : List WrittenInput) (from : ℕ) (ts : List (Tok × ℕ)) → At whole from (spell_inputs both ws ts)
        → AllByRecursion (HoldsInput N T) (inputs_at from (inputs_of ws)) × At whole (from + inputs_nodes (inputs_of ws)) ts
    inputs_walk [] from ts a = (tt, move_to whole from (from + 0) ts (omega arith) a)
    inputs_walk (w ∷ ws) from ts a =
        let i = w.input in
        let b = description_walk w.description from _ a in
        let name = spells i.name (from + 1) (token_at whole from (tok.name i.name) 2 _ 1 (from + 1) (omega arith) refl b) in
        let of = type_walk (ty_of i.of) (from + 2) _ (pass_none whole (from + 2) tok.colon _ (pass whole from (tok.name i.name) 2 _ b)) in
        let d = default_walk i.default (from + 2 + type_nodes (ty_of i.of)) _ of.1 in
        let e = directives_walk i.directives (from + 2 + type_nodes (ty_of i.of) + default_nodes i.default) _ d in
        let end = from + (2 + type_nodes (ty_of i.of) + default_nodes i.default + directives_nodes i.directives) in
        let next = move_to whole (from + 2 + type_nodes (ty_of i.of) + default_nodes i.default + directives_nodes i.directives) end _ (omega arith) e in
        let later = inputs_walk ws end ts next in (
          ((name, spells (base_of (ty_of i.of)) (type_at (from + 2) (ty_of i.of)).at of.0), later.0),
          move_to whole (end + inputs_nodes (inputs_of ws)) (from + inputs_nodes (inputs_of (w ∷ ws))) ts (omega arith) later.1,
        )

    arguments_part_walk : (ws : List WrittenInput) (from : ℕ) (ts : List (Tok × ℕ)) → At whole from (spell_argument_defs both ws ts)
        → AllByRecursion (HoldsInput N T) (inputs_at from (inputs_of ws)) × At whole (from + inputs_nodes (inputs_of ws)) ts
    arguments_part_walk [] from ts a = (tt, move_to whole from (from + 0) ts (omega arith) a)
    arguments_part_walk (w ∷ ws) from ts a =
        let inner = inputs_walk (w ∷ ws) from _ (pass_none whole from tok.open_paren _ a) in
        (inner.0, pass_none whole (from + inputs_nodes (inputs_of (w ∷ ws))) tok.close_paren ts inner.1)

    input_fields_walk : (ws : List WrittenInput) (from : ℕ) (ts : List (Tok × ℕ)) → At whole from (spell_input_fields both ws ts)
        → AllByRecursion (HoldsInput N T) (inputs_at from (inputs_of ws)) × At whole (from + inputs_nodes (inputs_of ws)) ts
    input_fields_walk [] from ts a = (tt, move_to whole from (from + 0) ts (omega arith) a)
    input_fields_walk (w ∷ ws) from ts a =
        let inner = inputs_walk (w ∷ ws) from _ (pass_none whole from tok.open_brace _ a) in
        (inner.0, pass_none whole (from + inputs_nodes (inputs_of (w ∷ ws))) tok.close_brace ts inner.1)

    fields_walk : (fs : List WrittenField) (from : ℕ) (ts : List (Tok × ℕ)) → At whole from (spell_fields both fs ts)
        → AllByRecursion (HoldsField N T) (fields_at from (map field_of fs)) × At whole (from + fields_nodes (map field_of fs)) ts
    fields_walk [] from ts a = (tt, move_to whole from (from + 0) ts (omega arith) a)
    fields_walk (f ∷ fs) from ts a =
        let b = description_walk f.description from _ a in
        let name = spells f.name (from + 1) (token_at whole from (tok.name f.name) 2 _ 1 (from + 1) (omega arith) refl b) in
        let given = arguments_part_walk f.arguments (from + 2) _ (pass whole from (tok.name f.name) 2 _ b) in
        let behind = from + 2 + inputs_nodes (inputs_of f.arguments) in
        let of = type_walk (ty_of f.of) behind _ (pass_none whole behind tok.colon _ given.1) in
        let e = directives_walk f.directives (behind + type_nodes (ty_of f.of)) _ of.1 in
        let end = from + (2 + inputs_nodes (inputs_of f.arguments) + type_nodes (ty_of f.of) + directives_nodes f.directives) in
        let next = move_to whole (behind + type_nodes (ty_of f.of) + directives_nodes f.directives) end _ (omega arith) e in
        let later = fields_walk fs end ts next in (
          ((name, given.0, spells (base_of (ty_of f.of)) (type_at behind (ty_of f.of)).at of.0), later.0),
          move_to whole (end + fields_nodes (map field_of fs)) (from + fields_nodes (map field_of (f ∷ fs))) ts (omega arith) later.1,
        )

    fields_part_walk : (fs : List WrittenField) (from : ℕ) (ts : List (Tok × ℕ)) → At whole from (spell_fields_part both fs ts)
        → AllByRecursion (HoldsField N T) (fields_at from (map field_of fs)) × At whole (from + fields_nodes (map field_of fs)) ts
    fields_part_walk [] from ts a = (tt, move_to whole from (from + 0) ts (omega arith) a)
    fields_part_walk (f ∷ fs) from ts a =
        let inner = fields_walk (f ∷ fs) from _ (pass_none whole from tok.open_brace _ a) in
        (inner.0, pass_none whole (from + fields_nodes (map field_of (f ∷ fs))) tok.close_brace ts inner.1)

    enum_values_walk : (ws : List WrittenValue) (from : ℕ) (ts : List (Tok × ℕ)) → At whole from (spell_enum_values both ws ts)
        → AllByRecursion (HoldsName N) (enum_values_at from (values_of ws)) × At whole (from + enum_values_nodes (values_of ws)) ts
    enum_values_walk [] from ts a = (tt, move_to whole from (from + 0) ts (omega arith) a)
    enum_values_walk (w ∷ ws) from ts a =
        let b = description_walk w.description from _ a in
        let name = spells w.value.name (from + 1) (token_at whole from (tok.name w.value.name) 2 _ 1 (from + 1) (omega arith) refl b) in
        let e = directives_walk w.value.directives (from + 2) _ (pass whole from (tok.name w.value.name) 2 _ b) in
        let later = enum_values_walk ws (from + 2 + directives_nodes w.value.directives) ts e in (
          (name, later.0),
          move_to whole (from + 2 + directives_nodes w.value.directives + enum_values_nodes (values_of ws)) (from + enum_values_nodes (values_of (w ∷ ws))) ts (omega arith) later.1,
        )

    enum_values_part_walk : (ws : List WrittenValue) (from : ℕ) (ts : List (Tok × ℕ)) → At whole from (spell_enum_values_part both ws ts)
        → AllByRecursion (HoldsName N) (enum_values_at from (values_of ws)) × At whole (from + enum_values_nodes (values_of ws)) ts
    enum_values_part_walk [] from ts a = (tt, move_to whole from (from + 0) ts (omega arith) a)
    enum_values_part_walk (w ∷ ws) from ts a =
        let inner = enum_values_walk (w ∷ ws) from _ (pass_none whole from tok.open_brace _ a) in
        (inner.0, pass_none whole (from + enum_values_nodes (values_of (w ∷ ws))) tok.close_brace ts inner.1)

    roots_walk : (rs : List Root) (from : ℕ) (ts : List (Tok × ℕ)) → At whole from (spell_roots both rs ts)
        → AllByRecursion (HoldsRoot N) (roots_at from rs) × At whole (from + roots_nodes rs) ts
    roots_walk [] from ts a = (tt, move_to whole from (from + 0) ts (omega arith) a)
    roots_walk (r ∷ rs) from ts a =
        let b = pass_none whole (from + 1) tok.colon _ (pass whole from (tok.name (kind_word r.kind)) 1 _ a) in
        let name = spells r.name (from + 1) (token_at whole (from + 1) (tok.name r.name) 1 _ 0 (from + 1) (omega arith) (omega arith) b) in
        let next = move_to whole (from + 1 + 1) (from + 2) _ (omega arith) (pass whole (from + 1) (tok.name r.name) 1 _ b) in
        let later = roots_walk rs (from + 2) ts next in
        ((name, later.0), move_to whole (from + 2 + roots_nodes rs) (from + (2 + roots_nodes rs)) ts (omega arith) later.1)

    -- ---- definitions

    -- the name behind the first token
    abbrev Named : (from : ℕ) → Text → List (Tok × ℕ) → Type 0
    Named from n ts = N n (from + 1) × At whole (from + 2) ts

    name_walk : (start first from : ℕ) (word n : Text) (ts : List (Tok × ℕ)) → start + first ≡ from + 1 → At whole start ((tok.name word, first) ∷ (tok.name n, 1) ∷ ts) → Named from n ts
    name_walk start first from word n ts e a =
        let b = move_to whole (start + first) (from + 1) _ e (pass whole start (tok.name word) first _ a) in (
          spells n (from + 1) (token_at whole (from + 1) (tok.name n) 1 ts 0 (from + 1) (omega arith) (omega arith) b),
          move_to whole (from + 1 + 1) (from + 2) ts (omega arith) (pass whole (from + 1) (tok.name n) 1 ts b),
        )

    fielded_walk : (leading : Bool) (is : List Text) (ds : List Directive) (fs : List WrittenField) (from : ℕ) (ts : List (Tok × ℕ))
        → At whole (from + 2) (spell_implements both leading is (spell_directives both ds (spell_fields_part both fs ts)))
        → AllByRecursion (HoldsName N) (names_at (from + 2) is) × AllByRecursion (HoldsField N T) (fields_at (from + 2 + names_nodes is + directives_nodes ds) (map field_of fs))
        × At whole (from + (2 + names_nodes is + directives_nodes ds + fields_nodes (map field_of fs))) ts
    fielded_walk leading is ds fs from ts a =
        let names = implements_walk leading is (from + 2) _ a in
        let b = directives_walk ds (from + 2 + names_nodes is) _ names.1 in
        let fields = fields_part_walk fs (from + 2 + names_nodes is + directives_nodes ds) ts b in (
          names.0,
          fields.0,
          move_to whole (from + 2 + names_nodes is + directives_nodes ds + fields_nodes (map field_of fs)) (from + (2 + names_nodes is + directives_nodes ds + fields_nodes (map field_of fs))) ts (omega arith) fields.1,
        )

    schema_walk : (start first from : ℕ) (ds : List Directive) (rs : List Root) (ts : List (Tok × ℕ)) → F from → start + first ≡ from + 1
        → At whole start (spell_written both first (schema ds rs) ts) → HoldsDef F N T (def_at from (written_of (schema ds rs))) × At whole (from + def_nodes (written_of (schema ds rs))) ts
    schema_walk start first from ds rs ts h e a =
        let b = move_to whole (start + first) (from + 1) _ e (pass whole start (tok.name (codes "schema")) first _ a) in
        let c = directives_walk ds (from + 1) _ b in
        let roots = roots_walk rs (from + 1 + directives_nodes ds) _ (pass_none whole (from + 1 + directives_nodes ds) tok.open_brace _ c) in (
          (h, roots.0),
          move_to whole (from + 1 + directives_nodes ds + roots_nodes rs) (from + (1 + directives_nodes ds + roots_nodes rs)) ts (omega arith)
              (pass_none whole (from + 1 + directives_nodes ds + roots_nodes rs) tok.close_brace ts roots.1),
        )

    -- the definition's own number is `from`; its first token is here, or it was the description's
    written_walk : (first start from : ℕ) (w : Written) (ts : List (Tok × ℕ)) → start + first ≡ from + 1 → (first ≡ 0 → F from)
        → At whole start (spell_written both first w ts) → HoldsDef F N T (def_at from (written_of w)) × At whole (from + def_nodes (written_of w)) ts
    written_walk zero start from (schema ds rs) ts e h a = schema_walk start zero from ds rs ts (h refl) e a
    written_walk (suc k) start from (schema ds rs) ts e h a =
        let here = token_at whole start (tok.name (codes "schema")) (suc k) _ k from (omega arith) (omega (arith, e)) a in
        schema_walk start (suc k) from ds rs ts (head from (inl here)) e a
    written_walk first start from (scalar n ds) ts e h a =
        let named = name_walk start first from (codes "scalar") n _ e a in
        (named.0, move_to whole (from + 2 + directives_nodes ds) (from + (2 + directives_nodes ds)) ts (omega arith) (directives_walk ds (from + 2) ts named.1))
    written_walk first start from (object n leading is ds fs) ts e h a =
        let named = name_walk start first from (codes "type") n _ e a in
        let inner = fielded_walk leading is ds fs from ts named.1 in
        ((named.0, inner.0, inner.1), inner.2)
    written_walk first start from (interface n leading is ds fs) ts e h a =
        let named = name_walk start first from (codes "interface") n _ e a in
        let inner = fielded_walk leading is ds fs from ts named.1 in
        ((named.0, inner.0, inner.1), inner.2)
    written_walk first start from (union n ds leading ms) ts e h a =
        let named = name_walk start first from (codes "union") n _ e a in
        let members = members_part_walk leading ms (from + 2 + directives_nodes ds) ts (directives_walk ds (from + 2) _ named.1) in
        ((named.0, members.0), move_to whole (from + 2 + directives_nodes ds + names_nodes ms) (from + (2 + directives_nodes ds + names_nodes ms)) ts (omega arith) members.1)
    written_walk first start from (enum n ds vs) ts e h a =
        let named = name_walk start first from (codes "enum") n _ e a in
        let values = enum_values_part_walk vs (from + 2 + directives_nodes ds) ts (directives_walk ds (from + 2) _ named.1) in
        ((named.0, values.0), move_to whole (from + 2 + directives_nodes ds + enum_values_nodes (values_of vs)) (from + (2 + directives_nodes ds + enum_values_nodes (values_of vs))) ts (omega arith) values.1)
    written_walk first start from (input n ds ws) ts e h a =
        let named = name_walk start first from (codes "input") n _ e a in
        let fields = input_fields_walk ws (from + 2 + directives_nodes ds) ts (directives_walk ds (from + 2) _ named.1) in
        ((named.0, fields.0), move_to whole (from + 2 + directives_nodes ds + inputs_nodes (inputs_of ws)) (from + (2 + directives_nodes ds + inputs_nodes (inputs_of ws))) ts (omega arith) fields.1)
    written_walk first start from (directive n ws repeatable leading ls) ts e h a =
        let b = pass_none whole (from + 1) tok.at_sign _ (move_to whole (start + first) (from + 1) _ e (pass whole start (tok.name (codes "directive")) first _ a)) in
        let name = spells n (from + 1) (token_at whole (from + 1) (tok.name n) 1 _ 0 (from + 1) (omega arith) (omega arith) b) in
        let c = move_to whole (from + 1 + 1) (from + 2) _ (omega arith) (pass whole (from + 1) (tok.name n) 1 _ b) in
        let given = arguments_part_walk ws (from + 2) _ c in
        let behind = from + 2 + inputs_nodes (inputs_of ws) in
        let d = pass_none whole behind (tok.name on_word) _ (repeatable_walk repeatable behind _ given.1) in
        ((name, given.0), move_to whole behind (from + (2 + inputs_nodes (inputs_of ws))) ts (omega arith) (locations_walk tok.bar leading (map location_word ls) behind ts d))

    described_walk : (above start from : ℕ) (d : Description) (w : Written) (ts : List (Tok × ℕ)) → start + above ≡ from
        → At whole start (spell_described both above d w ts) → HoldsDef F N T (def_at from (written_of w)) × At whole (from + def_nodes (written_of w)) ts
    described_walk above start from None w ts e a = written_walk (above + 1) start from w ts (omega (arith, e)) (λ z. absurd (omega (arith, z))) a
    described_walk above start from (Some d) w ts e a =
        let here = token_at whole start (tok.text d) (above + 1) _ above from (omega arith) e a in
        written_walk 0 (start + (above + 1)) from w ts (omega (arith, e)) (λ z. head from (inr (d, here))) (pass whole start (tok.text d) (above + 1) _ a)

    definitions_walk : (ds : List Described) (from : ℕ) → At whole from (spell_definitions both 0 ds) → AllByRecursion (HoldsDef F N T) (defs_at from (map definition_of ds))
    definitions_walk [] from a = tt
    definitions_walk (d ∷ ds) from a =
        let first = described_walk 0 from from d.description d.written _ (omega arith) a in
        (first.0, definitions_walk ds (from + def_nodes (written_of d.written)) first.1)

    -- the schema itself begins at the first token too
    pub located_walk : (ds : List Described) → At whole 0 (spell_definitions both 1 ds) → AllByRecursion (HoldsDef F N T) (defs_at 1 (map definition_of ds))
    located_walk [] a = tt
    located_walk (d ∷ ds) a =
        let first = described_walk 1 0 1 d.description d.written _ (omega arith) a in
        (first.0, definitions_walk ds (1 + def_nodes (written_of d.written)) first.1)
