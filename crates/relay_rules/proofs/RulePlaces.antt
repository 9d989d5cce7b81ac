-- Each place where a rule on the directives after Relay or on aliases does not hold is that of a node of the documents.
use Rattle.std.proofs.Common.{◌≡◌, ℕ, ◌<◌, Bool, not, cond, List, [], ◌∷◌, ◌++◌, map, Option, Some, None, IfSome, bytes_eq, codes}
use Rattle.std.specs.List.{AllByRecursion}
use Rattle.doc_uses.specs.gql_ast.declared.document.Document.{Document}
use Rattle.doc_uses.specs.Parts.{uses_wrong_in}
use Rattle.relay_marks.specs.Connections as connections
use Rattle.relay_marks.specs.Connections.{is_connection_name, response_key, field_defined}
use Rattle.relay_marks.specs.Locals.{Local, locals_of, local_named, defines_locals}
use Rattle.relay_rules.specs.RelayRules as relay
use Rattle.relay_rules.specs.RelayRules.{relay_rules}
use Rattle.relay_rules.specs.Spreads as spreads
use Rattle.doc_uses.specs.schema_rules.Rules.{each, wrong, first_broken}
use Rattle.doc_uses.specs.schema_rules.declared.fault.Rule.{Rule}
use Rattle.doc_uses.specs.schema_tables.Types.{Defs}
use Rattle.doc_uses.specs.schema_tables.Views.{FieldDef}
use Rattle.relay_marks.proofs.schema_trees_laws.BelowSteps.{all_append, all_each, below_append, below_wrong, below_cond, below_each, below_first}
use Rattle.doc_uses.specs.schema_trees.Located.{Located}
use Rattle.doc_uses.specs.schema_trees.Numbers.{Below}
use Rattle.relay_marks.proofs.schema_types_laws.RulePlaces.{NameIn, ArgumentIn, DirectiveIn, SiteIn, OperationIn, FragmentIn, operations_here, fragments_here, each_site}
use Rattle.relay_marks.proofs.schema_types_laws.SiteNumberLaws.{all_below}
use Rattle.doc_uses.specs.schema_types.ArgumentRules.{Use, uses_in, use_wrong, local_names}
use Rattle.doc_uses.specs.schema_types.NameRules.{operations, fragments}
use Rattle.doc_uses.specs.schema_types.SiteNumbers.{documents_nodes, DefinitionBelow, DefinitionsBelow}
use Rattle.doc_uses.specs.schema_types.Sites.{ArgumentAt, DirectiveAt, Site, field, spread, inline, OperationAt, FragmentAt, DefinitionAt, operation, fragment, all_definitions}

module _ (m : ℕ) where
  -- ---- V17

  directives_here : (d : DefinitionAt) → DefinitionBelow m d → AllByRecursion (DirectiveIn m) (relay.directives_of_fragment d)
  directives_here (operation o) h = tt
  directives_here (fragment f) h = h.2

  V17 : (defs : Defs) (ds : List DefinitionAt) → DefinitionsBelow m ds → Below m (relay.locals_wrong defs ds)
  V17 defs ds h = below_each m (DefinitionBelow m) (λ d. each (relay.locals_wrong_in defs) (relay.directives_of_fragment d)) one ds h where
    inside : (d : DirectiveAt) → DirectiveIn m d → Below m (relay.locals_wrong_in defs d)
    inside d g =
        below_cond m (defines_locals d.name.name) (each (relay.local_wrong defs) d.arguments) []
        (below_each m (ArgumentIn m) (relay.local_wrong defs) (λ x k. below_wrong m _ x.name.at k.0) d.arguments g.1) tt

    one : (d : DefinitionAt) → DefinitionBelow m d → Below m (each (relay.locals_wrong_in defs) (relay.directives_of_fragment d))
    one d g = below_each m (DirectiveIn m) (relay.locals_wrong_in defs) inside (relay.directives_of_fragment d) (directives_here d g)

  -- ---- V18

  abbrev UseIn : Use → Type 0
  UseIn u = u.name.at < m

  given_below : (defs : Defs) (fs : List FragmentAt) (ds : List DefinitionAt) → DefinitionsBelow m ds → Below m (spreads.given_wrong defs fs ds)
  given_below defs fs ds h = each_site m (spreads.given_wrong_at defs fs) one ds h where
    one : (s : Site) → SiteIn m s → Below m (spreads.given_wrong_at defs fs s)
    one (field around a n xs directives has_set) g = tt
    one (spread around n directives) g = below_wrong m _ n.at g.0
    one (inline around first on directives) g = tt

  moved_here : (at : ℕ) (us : List Use) → at < m → AllByRecursion UseIn (map (spreads.move_use at) us)
  moved_here at [] h = tt
  moved_here at (u ∷ us) h = (h, moved_here at us h)

  given_here : (defs : Defs) (at : ℕ) (ls : List Local) (xs : List ArgumentAt) → at < m → AllByRecursion UseIn (each (spreads.uses_of_given defs at ls) xs)
  given_here defs at ls [] h = tt
  given_here defs at ls (x ∷ xs) h =
      all_append UseIn (spreads.uses_of_given defs at ls x) (each (spreads.uses_of_given defs at ls) xs)
      (moved_here at (uses_in defs x.value.at x.value.of (spreads.place_of_local (local_named ls x.name.name))) h) (given_here defs at ls xs h)

  uses_here : (defs : Defs) (fs : List FragmentAt) (ss : List Site) → AllByRecursion (SiteIn m) ss → AllByRecursion UseIn (spreads.uses_in_spreads defs fs ss)
  uses_here defs fs ss h = all_each (SiteIn m) UseIn (spreads.uses_at_spread defs fs) one ss h where
    one : (s : Site) → SiteIn m s → AllByRecursion UseIn (spreads.uses_at_spread defs fs s)
    one (field around a n xs directives has_set) g = tt
    one (spread around n directives) g = given_here defs n.at (spreads.locals_named fs n.name) (spreads.spread_arguments directives) g.0
    one (inline around first on directives) g = tt

  local_uses_below : (defs : Defs) (fs : List FragmentAt) (f : FragmentAt) → FragmentIn m f → Below m (spreads.local_uses_wrong defs fs f)
  local_uses_below defs fs f h =
      below_each m UseIn (spreads.local_use_wrong (locals_of f.directives)) (λ u g. below_wrong m _ u.name.at g) (spreads.uses_in_spreads defs fs f.sites)
      (uses_here defs fs f.sites h.3)

  operation_uses_below : (defs : Defs) (fs : List FragmentAt) → AllByRecursion (FragmentIn m) fs → (o : OperationAt) → OperationIn m o
      → Below m (spreads.uses_of_operation_wrong defs fs o)
  operation_uses_below defs fs all o h =
      below_append m (each (use_wrong o.variables []) (spreads.uses_in_spreads defs fs o.sites)) (each (uses_wrong_in (spreads.uses_in_fragment defs fs) fs o) fs)
      (below_each m UseIn (use_wrong o.variables []) (λ u g. below_wrong m _ u.name.at g) (spreads.uses_in_spreads defs fs o.sites) (uses_here defs fs o.sites h.4))
      (below_each m (FragmentIn m) (uses_wrong_in (spreads.uses_in_fragment defs fs) fs o) inside fs all)
    where
      inside : (f : FragmentAt) → FragmentIn m f → Below m (uses_wrong_in (spreads.uses_in_fragment defs fs) fs o f)
      inside f g =
          below_cond m _ (each (use_wrong o.variables (local_names f)) (spreads.uses_in_fragment defs fs f)) []
          (below_each m UseIn (use_wrong o.variables (local_names f)) (λ u k. below_wrong m _ u.name.at k) (spreads.uses_in_fragment defs fs f) (uses_here defs fs f.sites g.3)) tt

  V18 : (defs : Defs) (ds : List DefinitionAt) → DefinitionsBelow m ds → Below m (spreads.spreads_wrong defs ds)
  V18 defs ds h =
      let fs = fragments ds in
      below_append m (spreads.given_wrong defs fs ds ++ each (spreads.local_uses_wrong defs fs) fs) (each (spreads.uses_of_operation_wrong defs fs) (operations ds))
      (below_append m (spreads.given_wrong defs fs ds) (each (spreads.local_uses_wrong defs fs) fs) (given_below defs fs ds h)
      (below_each m (FragmentIn m) (spreads.local_uses_wrong defs fs) (local_uses_below defs fs) fs (fragments_here m ds h)))
      (below_each m (OperationIn m) (spreads.uses_of_operation_wrong defs fs) (operation_uses_below defs fs (fragments_here m ds h)) (operations ds) (operations_here m ds h))

  -- ---- V19, V20

  directives_at : (s : Site) → SiteIn m s → AllByRecursion (DirectiveIn m) (relay.directives_on s)
  directives_at (field around a n xs ds has_set) h = h.3
  directives_at (spread around n ds) h = h.1
  directives_at (inline around first on ds) h = h.2

  -- what is wrong at directives of one name
  directive_below : (f : DirectiveAt → Bool) (g : DirectiveAt → Bool) (d : DirectiveAt) → DirectiveIn m d → Below m (cond (f d) (wrong (g d) d.name.at) [])
  directive_below f g d h = below_cond m (f d) (wrong (g d) d.name.at) [] (below_wrong m (g d) d.name.at h.0) tt

  V19 : (ds : List DefinitionAt) → DefinitionsBelow m ds → Below m (relay.masks_wrong ds)
  V19 ds h =
      each_site m relay.masks_wrong_at
      (λ s g. below_each m (DirectiveIn m) relay.mask_wrong
      (directive_below (λ d. bytes_eq d.name.name (codes "relay")) (λ d. not (relay.is_truth (connections.value_named d.arguments (codes "mask")))))
      (relay.directives_on s) (directives_at s g)) ds h

  alias_below : (a : Option Located) (n : Located) → IfSome a (NameIn m) → Below m (relay.alias_wrong a n)
  alias_below None n h = tt
  alias_below (Some a) n h = below_wrong m _ a.at h

  V20 : (ds : List DefinitionAt) → DefinitionsBelow m ds → Below m (relay.aliases_wrong ds)
  V20 ds h = each_site m relay.alias_wrong_at one ds h where
    one : (s : Site) → SiteIn m s → Below m (relay.alias_wrong_at s)
    one (field around a n xs directives has_set) g = alias_below a n g.0
    one (spread around n directives) g = tt
    one (inline around first on directives) g = tt

  -- ---- V21, V22

  V21 : (defs : Defs) (ds : List DefinitionAt) → DefinitionsBelow m ds → Below m (connections.keys_wrong defs ds)
  V21 defs ds h = each_site m (connections.key_wrong_at defs) one ds h where
    key : (a : Option Located) (f : Option FieldDef) (n : Located) (d : DirectiveAt) → DirectiveIn m d → Below m (connections.key_wrong (response_key a n) f d)
    key a f n d g =
        directive_below (λ x. is_connection_name x.name.name) (λ x. not (connections.is_good_connection (response_key a n) f x.arguments)) d g

    one : (s : Site) → SiteIn m s → Below m (connections.key_wrong_at defs s)
    one (field around a n xs directives has_set) g =
        below_each m (DirectiveIn m) (connections.key_wrong (response_key a n) (field_defined defs around n.name)) (key a (field_defined defs around n.name) n) directives g.3
    one (spread around n directives) g = tt
    one (inline around first on directives) g = tt

  V22 : (defs : Defs) (ds : List DefinitionAt) → DefinitionsBelow m ds → Below m (connections.connections_wrong defs ds)
  V22 defs ds h = each_site m (connections.type_wrong_at defs) one ds h where
    one : (s : Site) → SiteIn m s → Below m (connections.type_wrong_at defs s)
    one (field around a n xs directives has_set) g =
        below_each m (DirectiveIn m) (connections.type_wrong defs (field_defined defs around n.name))
        (directive_below (λ x. is_connection_name x.name.name) (λ x. not (connections.is_connection defs (field_defined defs around n.name)))) directives g.3
    one (spread around n directives) g = tt
    one (inline around first on directives) g = tt

  pub relay_rules_below : (defs : Defs) (ds : List DefinitionAt) → DefinitionsBelow m ds → AllByRecursion (λ (r : Rule × List ℕ). Below m r.1) (relay_rules defs ds)
  relay_rules_below defs ds h = (V17 defs ds h, (V18 defs ds h, (V19 ds h, (V20 ds h, (V21 defs ds h, (V22 defs ds h, tt))))))

-- the first fault of documents by rules on the directives after Relay is at one of their nodes
pub relay_fault_below : (defs : Defs) (ds : List Document) (r : Rule) (node : ℕ) → first_broken (relay_rules defs (all_definitions defs ds)) ≡ Some (r, node) → node < documents_nodes ds
relay_fault_below defs ds r node e =
    below_first (documents_nodes ds) (relay_rules defs (all_definitions defs ds)) (relay_rules_below (documents_nodes ds) defs (all_definitions defs ds) (all_below defs ds)) (r, node) e
