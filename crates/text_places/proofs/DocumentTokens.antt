-- The numbers that rules give to what stands in a document are those of the tokens that spell it.
use Rattle.std.proofs.Common.{◌≡◌, ℕ, ◌+◌, List, [], ◌∷◌, map, Option, Some, None, IfSome, refl, arith}
use Rattle.std.specs.List.{AllByRecursion}
use Rattle.gql_parse.specs.gql_ast.Sels as sels
use Rattle.gql_parse.specs.gql_ast.Sels.{Sels, end}
use Rattle.gql_parse.specs.gql_ast.TypeView.{ty_of}
use Rattle.gql_parse.specs.gql_ast.Value.{Val, Vals, Members, no_vals, val, no_members, member, members_of}
use Rattle.gql_parse.specs.gql_ast.Value as v
use Rattle.gql_parse.specs.gql_ast.ValueView.{value_of}
use Rattle.gql_parse.specs.gql_ast.declared.directive.Directive.{Directive}
use Rattle.gql_parse.specs.gql_ast.declared.document.Definition.TheVariants as D
use Rattle.gql_parse.specs.gql_ast.declared.value.ValueTree.{ValueTree}
use Rattle.gql_parse.specs.gql_ast.declared.variable.VariableDef.{VariableDef}
use Rattle.schema_types.specs.gql_graph.Texts.{Text}
use Rattle.gql_parse.specs.gql_lex.Toks as tok
use Rattle.gql_parse.specs.gql_lex.Toks.{Tok}
use Rattle.gql_parse.specs.Documents.{fragment_word, spell_name, spell_on, spell_braces, spell_selections, spell_set, spell_optional_name, spell_variables, spell_variables_part, Written, bare, full, definition_of, spell_definition, spell_definitions}
use Rattle.gql_parse.specs.gql_syntax.Spelling.{spell_value, spell_values, spell_members, spell_arguments, spell_directives, spell_default}
use Rattle.gql_parse.specs.gql_syntax.Words.{on_word, kind_word, truth_word, null_word}
use Rattle.schema_types.specs.schema_tables.Types.{Defs, root}
use Rattle.schema_types.proofs.schema_trees_laws.BelowSteps.{all_append}
use Rattle.schema_types.specs.schema_trees.Located.{value_nodes, directives_nodes, type_nodes, default_nodes}
use Rattle.schema_types.specs.schema_trees.Numbers.{HoldsName}
use Rattle.schema_types.specs.SiteNumbers.{HoldsValue, HoldsArgument, HoldsDirective, HoldsVariable, HoldsSite, HoldsDefinition}
use Rattle.schema_types.specs.Sites.{optional_name_nodes, arguments_nodes, head_nodes, selections_nodes, variables_nodes, definition_nodes, arguments_at, directives_at, value_at, variables_at, optional_name_at, below, condition_or, sites, definition_at, definitions_at}
use Rattle.text_places.proofs.SchemaTokens.{value_walk, default_walk, type_walk}
use Rattle.text_places.proofs.TokenSteps.{both, At, move_to, pass, pass_none, token_at}
use Rattle.text_places.specs.DocumentNaming.{first_token, HoldsInside, HoldsItems, HoldsMembers, Opens}
use Rattle.text_places.specs.Naming.{element_at}

-- the token of this number is one that an operation or an inline fragment begins with
abbrev pub IsOpening : List Tok → ℕ → Type 0
IsOpening whole at = (t : Tok) × (element_at whole at ≡ Some t) × Opens t

module _ (whole : List Tok) where
  abbrev Spells : Text → ℕ → Type 0
  Spells n at = element_at whole at ≡ Some (tok.name n)

  module _ (N : Text → ℕ → Type 0) (spells : (n : Text) (at : ℕ) → Spells n at → N n at) where
    -- the names inside values
    mutual
      names_inside : (x : Val) (around from : ℕ) (ts : List (Tok × ℕ)) → At whole from (spell_value both x around ts) → HoldsInside N x from
      names_inside (v.variable n) around from ts a =
          spells n (from + 1) (token_at whole (from + 1) (tok.name n) 1 ts 0 (from + 1) (omega arith) (omega arith) (pass whole from tok.dollar 1 _ a))
      names_inside (v.int n) around from ts a = tt
      names_inside (v.text t) around from ts a = tt
      names_inside (v.truth b) around from ts a = tt
      names_inside v.null around from ts a = tt
      names_inside (v.enum n) around from ts a = spells n (from + 1) (token_at whole from (tok.name n) 2 ts 1 (from + 1) (omega arith) refl a)
      names_inside (v.list vs) around from ts a = names_in_items vs (around + 1) (from + 1) _ (pass whole from tok.open_bracket 1 _ a)
      names_inside (v.object ms) around from ts a = names_in_members ms (around + 1) (from + 1) _ (pass whole from tok.open_brace 1 _ a)

      names_in_items : (vs : Vals) (around from : ℕ) (ts : List (Tok × ℕ)) → At whole from (spell_values both vs around ts) → HoldsItems N vs from
      names_in_items no_vals around from ts a = tt
      names_in_items (val x vs) around from ts a = (names_inside x around from _ a, names_in_items vs around (from + value_nodes x) ts (value_walk whole x around from _ a))

      names_in_members : (ms : Members) (around from : ℕ) (ts : List (Tok × ℕ)) → At whole from (spell_members both ms around ts) → HoldsMembers N ms from
      names_in_members no_members around from ts a = tt
      names_in_members (member n x ms) around from ts a =
          let b = pass_none whole (from + 2) tok.colon _ (pass whole from (tok.name n) 2 _ a) in (
            spells n (from + 1) (token_at whole from (tok.name n) 2 _ 1 (from + 1) (omega arith) refl a),
            names_inside x around (from + 2) _ b,
            names_in_members ms around (from + (2 + value_nodes x)) ts
                (move_to whole (from + 2 + value_nodes x) (from + (2 + value_nodes x)) _ (omega arith) (value_walk whole x around (from + 2) _ b)),
          )

    first_here : (x : Val) (around from : ℕ) (ts : List (Tok × ℕ)) → At whole from (spell_value both x around ts) → element_at whole from ≡ Some (first_token x)
    first_here (v.variable n) around from ts a = token_at whole from tok.dollar 1 _ 0 from (omega arith) (omega arith) a
    first_here (v.int n) around from ts a = token_at whole from (tok.int n) 1 _ 0 from (omega arith) (omega arith) a
    first_here (v.text t) around from ts a = token_at whole from (tok.text t) 1 _ 0 from (omega arith) (omega arith) a
    first_here (v.truth b) around from ts a = token_at whole from (tok.name (truth_word b)) 1 _ 0 from (omega arith) (omega arith) a
    first_here v.null around from ts a = token_at whole from (tok.name null_word) 1 _ 0 from (omega arith) (omega arith) a
    first_here (v.enum n) around from ts a = token_at whole from (tok.name n) 2 _ 0 from (omega arith) (omega arith) a
    first_here (v.list vs) around from ts a = token_at whole from tok.open_bracket 1 _ 0 from (omega arith) (omega arith) a
    first_here (v.object ms) around from ts a = token_at whole from tok.open_brace 1 _ 0 from (omega arith) (omega arith) a

    module _ (F : ℕ → Type 0) (V : Val → ℕ → Type 0) (opening : (at : ℕ) → IsOpening whole at → F at)
        (value : (x : Val) (at : ℕ) → element_at whole at ≡ Some (first_token x) → HoldsInside N x at → V x at) where
      value_here : (x : Val) (around from : ℕ) (ts : List (Tok × ℕ)) → At whole from (spell_value both x around ts) → V x from
      value_here x around from ts a = value x from (first_here x around from ts a) (names_inside x around from ts a)

      given_walk : (xs : List (Text × Val)) (from : ℕ) (ts : List (Tok × ℕ)) → At whole from (spell_members both (members_of xs) 0 ts)
          → AllByRecursion (HoldsArgument N V) (arguments_at from xs) × At whole (from + arguments_nodes xs) ts
      given_walk [] from ts a = (tt, move_to whole from (from + 0) ts (omega arith) a)
      given_walk (x ∷ xs) from ts a =
          let b = pass_none whole (from + 2) tok.colon _ (pass whole from (tok.name x.0) 2 _ a) in
          let next = move_to whole (from + 2 + value_nodes x.1) (from + (2 + value_nodes x.1)) _ (omega arith) (value_walk whole x.1 0 (from + 2) _ b) in
          let later = given_walk xs (from + (2 + value_nodes x.1)) ts next in (
            ((spells x.0 (from + 1) (token_at whole from (tok.name x.0) 2 _ 1 (from + 1) (omega arith) refl a), value_here x.1 0 (from + 2) _ b), later.0),
            move_to whole (from + (2 + value_nodes x.1) + arguments_nodes xs) (from + arguments_nodes (x ∷ xs)) ts (omega arith) later.1,
          )

      arguments_walk : (xs : List (Text × Val)) (from : ℕ) (ts : List (Tok × ℕ)) → At whole from (spell_arguments both xs ts)
          → AllByRecursion (HoldsArgument N V) (arguments_at from xs) × At whole (from + arguments_nodes xs) ts
      arguments_walk [] from ts a = (tt, move_to whole from (from + 0) ts (omega arith) a)
      arguments_walk (x ∷ xs) from ts a =
          let inner = given_walk (x ∷ xs) from _ (pass_none whole from tok.open_paren _ a) in
          (inner.0, pass_none whole (from + arguments_nodes (x ∷ xs)) tok.close_paren ts inner.1)

      directives_walk : (ds : List Directive) (from : ℕ) (ts : List (Tok × ℕ)) → At whole from (spell_directives both ds ts)
          → AllByRecursion (HoldsDirective N V) (directives_at from ds) × At whole (from + directives_nodes ds) ts
      directives_walk [] from ts a = (tt, move_to whole from (from + 0) ts (omega arith) a)
      directives_walk (d ∷ ds) from ts a =
          let b = pass whole from tok.at_sign 1 _ a in
          let c = move_to whole (from + 1 + 1) (from + 2) _ (omega arith) (pass whole (from + 1) (tok.name d.name) 1 _ b) in
          let given = arguments_walk d.arguments (from + 2) _ c in
          let next = from + (2 + arguments_nodes d.arguments) in
          let later = directives_walk ds next ts (move_to whole (from + 2 + arguments_nodes d.arguments) next _ (omega arith) given.1) in (
            ((spells d.name (from + 1) (token_at whole (from + 1) (tok.name d.name) 1 _ 0 (from + 1) (omega arith) (omega arith) b), given.0), later.0),
            move_to whole (next + directives_nodes ds) (from + directives_nodes (d ∷ ds)) ts (omega arith) later.1,
          )

      default_here : (d : Option ValueTree) (from : ℕ) (ts : List (Tok × ℕ)) → At whole from (spell_default both d ts) → IfSome (value_at from d) (HoldsValue V)
      default_here None from ts a = tt
      default_here (Some x) from ts a = value_here (value_of x) 0 from ts (pass_none whole from tok.equals _ a)

      variables_walk : (vs : List VariableDef) (from : ℕ) (ts : List (Tok × ℕ)) → At whole from (spell_variables both vs ts)
          → AllByRecursion (HoldsVariable N V) (variables_at from vs) × At whole (from + variables_nodes vs) ts
      variables_walk [] from ts a = (tt, move_to whole from (from + 0) ts (omega arith) a)
      variables_walk (x ∷ xs) from ts a =
          let b = pass whole from tok.dollar 1 _ a in
          let name = spells x.name (from + 1) (token_at whole (from + 1) (tok.name x.name) 1 _ 0 (from + 1) (omega arith) (omega arith) b) in
          let c = move_to whole (from + 1 + 1) (from + 2) _ (omega arith) (pass whole (from + 1) (tok.name x.name) 1 _ b) in
          let of = type_walk whole (ty_of x.of) (from + 2) _ (pass_none whole (from + 2) tok.colon _ c) in
          let here = from + 2 + type_nodes (ty_of x.of) in
          let directives = directives_walk x.directives (here + default_nodes x.default) _ (default_walk whole x.default here _ of.1) in
          let next = from + (2 + type_nodes (ty_of x.of) + default_nodes x.default + directives_nodes x.directives) in
          let later = variables_walk xs next ts (move_to whole (here + default_nodes x.default + directives_nodes x.directives) next _ (omega arith) directives.1) in (
            ((name, default_here x.default here _ of.1, directives.0), later.0),
            move_to whole (next + variables_nodes xs) (from + variables_nodes (x ∷ xs)) ts (omega arith) later.1,
          )

      variables_part_walk : (vs : List VariableDef) (from : ℕ) (ts : List (Tok × ℕ)) → At whole from (spell_variables_part both vs ts)
          → AllByRecursion (HoldsVariable N V) (variables_at from vs) × At whole (from + variables_nodes vs) ts
      variables_part_walk [] from ts a = (tt, move_to whole from (from + 0) ts (omega arith) a)
      variables_part_walk (x ∷ xs) from ts a =
          let inner = variables_walk (x ∷ xs) from _ (pass_none whole from tok.open_paren _ a) in
          (inner.0, pass_none whole (from + variables_nodes (x ∷ xs)) tok.close_paren ts inner.1)

      -- ---- selections

      name_walk : (a : Option Text) (n : Text) (from : ℕ) (ts : List (Tok × ℕ)) → At whole from (spell_name both a n ts)
          → IfSome (optional_name_at (from + 1) a) (HoldsName N) × N n (from + 1 + optional_name_nodes a) × At whole (from + head_nodes a) ts
      name_walk None n from ts a = (
        tt,
        spells n (from + 1 + 0) (token_at whole from (tok.name n) 2 ts 1 (from + 1 + 0) (omega arith) (omega arith) a),
        move_to whole (from + 2) (from + (0 + 2)) ts (omega arith) (pass whole from (tok.name n) 2 ts a),
      )
      name_walk (Some l) n from ts a =
          let b = pass_none whole (from + 2) tok.colon _ (pass whole from (tok.name l) 2 _ a) in (
            spells l (from + 1) (token_at whole from (tok.name l) 2 _ 1 (from + 1) (omega arith) refl a),
            spells n (from + 1 + 1) (token_at whole (from + 2) (tok.name n) 1 ts 0 (from + 1 + 1) (omega arith) (omega arith) b),
            move_to whole (from + 2 + 1) (from + (1 + 2)) ts (omega arith) (pass whole (from + 2) (tok.name n) 1 ts b),
          )

      on_walk : (o : Option Text) (from : ℕ) (ts : List (Tok × ℕ)) → At whole from (spell_on both o ts)
          → IfSome (optional_name_at from o) (HoldsName N) × At whole (from + optional_name_nodes o) ts
      on_walk None from ts a = (tt, move_to whole from (from + 0) ts (omega arith) a)
      on_walk (Some n) from ts a =
          let b = pass_none whole from (tok.name on_word) _ a in
          (spells n from (token_at whole from (tok.name n) 1 ts 0 from (omega arith) (omega arith) b), pass whole from (tok.name n) 1 ts b)

      -- a set stands in braces where it is not empty
      braces_walk : (s : Sels) (level from to : ℕ) (P : Type 0) (ts : List (Tok × ℕ))
          → ((rest : List (Tok × ℕ)) → At whole from (spell_selections both s level rest) → P × At whole to rest)
          → At whole from (spell_braces both s level (spell_selections both s level) ts) → P × At whole to ts
      braces_walk end level from to P ts walk a = walk ts a
      braces_walk (sels.field l n xs ds s rest) level from to P ts walk a =
          let inner = walk _ (pass_none whole from tok.open_brace _ a) in (inner.0, pass_none whole to tok.close_brace ts inner.1)
      braces_walk (sels.spread n ds rest) level from to P ts walk a =
          let inner = walk _ (pass_none whole from tok.open_brace _ a) in (inner.0, pass_none whole to tok.close_brace ts inner.1)
      braces_walk (sels.inline o ds s rest) level from to P ts walk a =
          let inner = walk _ (pass_none whole from tok.open_brace _ a) in (inner.0, pass_none whole to tok.close_brace ts inner.1)

      abbrev Sites : Defs → ℕ → Option Text → Sels → Type 0
      Sites defs from around s = AllByRecursion (HoldsSite F N V) (sites defs from around s)

      sites_walk : (defs : Defs) (s : Sels) (level from : ℕ) (around : Option Text) (ts : List (Tok × ℕ)) → At whole from (spell_selections both s level ts)
          → Sites defs from around s × At whole (from + selections_nodes s) ts
      sites_walk defs end level from around ts a = (tt, move_to whole from (from + 0) ts (omega arith) a)
      sites_walk defs (sels.field l n xs ds s rest) level from around ts a =
          let names = name_walk l n from _ a in
          let given = arguments_walk xs (from + head_nodes l) _ names.2 in
          let directives = directives_walk ds (from + head_nodes l + arguments_nodes xs) _ given.1 in
          let here = from + head_nodes l + arguments_nodes xs + directives_nodes ds in
          let set = braces_walk s (level + 1) here (here + selections_nodes s) (Sites defs here (below defs around n) s) _
          (λ more b. sites_walk defs s (level + 1) here (below defs around n) more b) directives.1 in
          let later = sites_walk defs rest level (here + selections_nodes s) around ts set.1 in (
            (
              (names.0, names.1, given.0, directives.0),
              all_append (HoldsSite F N V) (sites defs here (below defs around n) s) (sites defs (here + selections_nodes s) around rest) set.0 later.0,
            ),
            move_to whole (here + selections_nodes s + selections_nodes rest) (from + selections_nodes (sels.field l n xs ds s rest)) ts (omega arith) later.1,
          )
      sites_walk defs (sels.spread n ds rest) level from around ts a =
          let b = pass whole from tok.spread 1 _ a in
          let c = move_to whole (from + 1 + 1) (from + 2) _ (omega arith) (pass whole (from + 1) (tok.name n) 1 _ b) in
          let directives = directives_walk ds (from + 2) _ c in
          let later = sites_walk defs rest level (from + 2 + directives_nodes ds) around ts directives.1 in (
            ((spells n (from + 1) (token_at whole (from + 1) (tok.name n) 1 _ 0 (from + 1) (omega arith) (omega arith) b), directives.0), later.0),
            move_to whole (from + 2 + directives_nodes ds + selections_nodes rest) (from + (2 + directives_nodes ds + selections_nodes rest)) ts (omega arith) later.1,
          )
      sites_walk defs (sels.inline o ds s rest) level from around ts a =
          let on = on_walk o (from + 1) _ (pass whole from tok.spread 1 _ a) in
          let directives = directives_walk ds (from + 1 + optional_name_nodes o) _ on.1 in
          let here = from + 1 + optional_name_nodes o + directives_nodes ds in
          let set = braces_walk s (level + 1) here (here + selections_nodes s) (Sites defs here (condition_or around o) s) _
          (λ more b. sites_walk defs s (level + 1) here (condition_or around o) more b) directives.1 in
          let later = sites_walk defs rest level (here + selections_nodes s) around ts set.1 in
          let first : F from = opening from (tok.spread, token_at whole from tok.spread 1 _ 0 from (omega arith) (omega arith) a, tt) in (
            (
              (first, on.0, directives.0),
              all_append (HoldsSite F N V) (sites defs here (condition_or around o) s) (sites defs (here + selections_nodes s) around rest) set.0 later.0,
            ),
            move_to whole (here + selections_nodes s + selections_nodes rest) (from + selections_nodes (sels.inline o ds s rest)) ts (omega arith) later.1,
          )

      set_walk : (defs : Defs) (s : Sels) (from : ℕ) (around : Option Text) (ts : List (Tok × ℕ)) → At whole from (spell_set both s ts)
          → Sites defs from around s × At whole (from + selections_nodes s) ts
      set_walk defs s from around ts a =
          braces_walk s 1 from (from + selections_nodes s) (Sites defs from around s) ts (λ more b. sites_walk defs s 1 from around more b) a

      -- ---- operations and fragments

      optional_walk : (o : Option Text) (from : ℕ) (ts : List (Tok × ℕ)) → At whole from (spell_optional_name both o ts)
          → IfSome (optional_name_at from o) (HoldsName N) × At whole (from + optional_name_nodes o) ts
      optional_walk None from ts a = (tt, move_to whole from (from + 0) ts (omega arith) a)
      optional_walk (Some n) from ts a = (spells n from (token_at whole from (tok.name n) 1 ts 0 from (omega arith) (omega arith) a), pass whole from (tok.name n) 1 ts a)

      -- `above` nodes begin at the first token already
      definition_walk : (defs : Defs) (above start from : ℕ) (w : Written) (ts : List (Tok × ℕ)) → start + above ≡ from → At whole start (spell_definition both above w ts)
          → HoldsDefinition F N V (definition_at defs from (definition_of w)) × At whole (from + definition_nodes (definition_of w)) ts
      definition_walk defs above start from (bare s) ts e a =
          let first : F from = opening from (tok.open_brace, token_at whole start tok.open_brace (above + 2) _ above from (omega arith) e a, tt) in
          let b = move_to whole (start + (above + 2)) (from + 2 + 0 + 0 + 0) _ (omega (arith, e)) (pass whole start tok.open_brace (above + 2) _ a) in
          let set = sites_walk defs s 1 (from + 2 + 0 + 0 + 0) (root defs _) _ b in (
            (first, tt, tt, tt, set.0),
            move_to whole (from + 2 + 0 + 0 + 0 + selections_nodes s) (from + definition_nodes (definition_of (bare s))) ts (omega arith)
                (pass_none whole (from + 2 + 0 + 0 + 0 + selections_nodes s) tok.close_brace ts set.1),
          )
      definition_walk defs above start from (full (D.Operation o)) ts e a =
          let word = tok.name (kind_word o.kind) in
          let first : F from = opening from (word, token_at whole start word (above + 2) _ above from (omega arith) e a, (o.kind, refl)) in
          let name = optional_walk o.name (from + 2) _ (move_to whole (start + (above + 2)) (from + 2) _ (omega (arith, e)) (pass whole start word (above + 2) _ a)) in
          let variables = variables_part_walk o.variables (from + 2 + optional_name_nodes o.name) _ name.1 in
          let directives = directives_walk o.directives (from + 2 + optional_name_nodes o.name + variables_nodes o.variables) _ variables.1 in
          let here = from + 2 + optional_name_nodes o.name + variables_nodes o.variables + directives_nodes o.directives in
          let set = set_walk defs o.selections here (root defs o.kind) ts directives.1 in (
            (first, name.0, variables.0, directives.0, set.0),
            move_to whole (here + selections_nodes o.selections) (from + definition_nodes (D.Operation o)) ts (omega arith) set.1,
          )
      definition_walk defs above start from (full (D.Fragment f)) ts e a =
          let b = move_to whole (start + (above + 2)) (from + 2) _ (omega (arith, e)) (pass whole start (tok.name fragment_word) (above + 2) _ a) in
          let c = pass_none whole (from + 2 + 1) (tok.name on_word) _ (pass whole (from + 2) (tok.name f.name) 1 _ b) in
          let d = move_to whole (from + 2 + 1 + 1) (from + 4) _ (omega arith) (pass whole (from + 2 + 1) (tok.name f.on) 1 _ c) in
          let directives = directives_walk f.directives (from + 4) _ d in
          let set = set_walk defs f.selections (from + 4 + directives_nodes f.directives) (Some f.on) ts directives.1 in (
            (
              spells f.name (from + 2) (token_at whole (from + 2) (tok.name f.name) 1 _ 0 (from + 2) (omega arith) (omega arith) b),
              spells f.on (from + 3) (token_at whole (from + 2 + 1) (tok.name f.on) 1 _ 0 (from + 3) (omega arith) (omega arith) c),
              directives.0,
              set.0,
            ),
            move_to whole (from + 4 + directives_nodes f.directives + selections_nodes f.selections) (from + definition_nodes (D.Fragment f)) ts (omega arith) set.1,
          )

      definitions_walk : (defs : Defs) (ws : List Written) (from : ℕ) → At whole from (spell_definitions both 0 ws)
          → AllByRecursion (HoldsDefinition F N V) (definitions_at defs from (map definition_of ws))
      definitions_walk defs [] from a = tt
      definitions_walk defs (w ∷ ws) from a =
          let first = definition_walk defs 0 from from w _ (omega arith) a in
          (first.0, definitions_walk defs ws (from + definition_nodes (definition_of w)) first.1)

      -- the document itself begins at the first token too
      pub document_walk : (defs : Defs) (ws : List Written) (first : ℕ) → At whole first (spell_definitions both 1 ws)
          → AllByRecursion (HoldsDefinition F N V) (definitions_at defs (first + 1) (map definition_of ws))
      document_walk defs [] first a = tt
      document_walk defs (w ∷ ws) first a =
          let one = definition_walk defs 1 first (first + 1) w _ refl a in
          (one.0, definitions_walk defs ws (first + 1 + definition_nodes (definition_of w)) one.1)
